-- Pieces of the tree that lead from one place in the tokens to another.
use Rattle.std.proofs.Common.{◌≡◌, ℕ, suc, Bool, true, false, if◌then◌else◌, List, [], ◌∷◌, ◌++◌, refl, sym, ◌∙◌, ap, subst}
use Rattle.tok_base.specs.declared.token.Span.{Span}
use Rattle.c_tree.specs.Tok as g
use Rattle.c_tree.specs.Marked as u
use Rattle.c_tree.specs.Marked.{Expr, Declarator, Init}
use Rattle.c_tree.specs.Pieces.{Piece, token, opens, closes, absent, pieces_all, pieces_more, pieces_commas, pieces, pieces_exprs, pieces_more_exprs, pieces_specs, pieces_fields, pieces_declarators, pieces_more_declarators, pieces_declarator, pieces_enumerators, pieces_more_enumerators, pieces_value, pieces_maybe_declarator, pieces_params, pieces_more_params, pieces_init, pieces_inits, pieces_more_inits, pieces_declaration, pieces_stmt, pieces_block}
use Rattle.c_tree.specs.Places.{Numbered, Starts, Placed}
use Rattle.c_reader.specs.Begin.{is_empty}
use Rattle.c_reader.specs.MarkedParts.{mark, Spec, keyword, typedef_name, attribute, records, enums, Field, Enumerator, Param, BlockItem, declared, statement, exprs_of, with_spec, specs_of, fields_of, declarators_of, enumerators_of, params_of, inits_of, with_item, items_of}

-- between two tokens: the next number, the end of the token before, and the places of the tokens that follow
pub record Spot : Type 0 where
  pub id : ℕ
  pub end : ℕ
  pub left : List Span

abbrev pub spot : ℕ → ℕ → List Span → Spot
spot n e ss = record { id = n; end = e; left = ss }

-- these pieces lead from a to z
pub record Did (f : List Piece → List Piece) (a z : Spot) : Type 0 where
  pub numbers : (ps : List Piece) → Numbered z.id ps → Numbered a.id (f ps)
  pub places : (ps : List Piece) → Placed z.end z.left ps → Placed a.end a.left (f ps)

-- a node is open that begins at this byte; its pieces so far lead from where it begins to z
pub record Opened (P : Spot → Type 0) (from : ℕ) (f : List Piece → List Piece) (z : Spot) : Type 0 where
  pub head : Spot
  pub prior : P head
  pub starts : Starts head.left from
  pub did : Did f head z

-- what these pieces are part of has no node that begins with them
pub record Then (P : Spot → Type 0) (f : List Piece → List Piece) (z : Spot) : Type 0 where
  pub head : Spot
  pub prior : P head
  pub did : Did f head z

-- ---- one after another

pub then_did : {f h : List Piece → List Piece} {a m z : Spot} → Did f a m → Did h m z → Did (λ ps. f (h ps)) a z
then_did {f} {h} {a} {m} {z} x y = record { numbers = λ ps k. x.numbers (h ps) (y.numbers ps k); places = λ ps k. x.places (h ps) (y.places ps k) }

pub same_did : {f h : List Piece → List Piece} {a z : Spot} → ((ps : List Piece) → f ps ≡ h ps) → Did h a z → Did f a z
same_did {f} {h} {a} {z} e x = record {
  numbers = λ ps k. subst (Numbered a.id) (sym (e ps)) (x.numbers ps k);
  places = λ ps k. subst (Placed a.end a.left) (sym (e ps)) (x.places ps k);
}

pub one_token : (t : g.Tok) (n e : ℕ) (s : Span) (ss : List Span) → Did (λ ps. token t ∷ ps) (spot n e (s ∷ ss)) (spot n s.end ss)
one_token t n e s ss = record { numbers = λ ps k. k; places = λ ps k. k }

-- the absent name before the next token
pub no_name : (n e : ℕ) (s : Span) (ss : List Span) → Did (λ ps. absent (mark s.start s.start n) ∷ ps) (spot n e (s ∷ ss)) (spot (suc n) e (s ∷ ss))
no_name n e s ss = record { numbers = λ ps k. (refl, k); places = λ ps k. (refl, refl, k) }

pub more : {P : Spot → Type 0} {from : ℕ} {f h : List Piece → List Piece} {m z : Spot} → Opened P from f m → Did h m z → Opened P from (λ ps. f (h ps)) z
more o d = record { head = o.head; prior = o.prior; starts = o.starts; did = then_did o.did d }

pub same_opened : {P : Spot → Type 0} {from : ℕ} {f h : List Piece → List Piece} {z : Spot} → ((ps : List Piece) → f ps ≡ h ps) → Opened P from h z → Opened P from f z
same_opened e o = record { head = o.head; prior = o.prior; starts = o.starts; did = same_did e o.did }

-- one token more
pub with_token : {P : Spot → Type 0} {from : ℕ} {f : List Piece → List Piece} (t : g.Tok) (n e : ℕ) (s : Span) (ss : List Span) → Opened P from f (spot n e (s ∷ ss))
    → Opened P from (λ ps. f (token t ∷ ps)) (spot n s.end ss)
with_token t n e s ss o = more o (one_token t n e s ss)

-- what is open inside is over
pub joined : {P : Spot → Type 0} {from in_from : ℕ} {f h : List Piece → List Piece} {z : Spot} → Opened (Opened P from f) in_from h z → Opened P from (λ ps. f (h ps)) z
joined o = more o.prior o.did

pub joined_then : {P : Spot → Type 0} {from : ℕ} {f h : List Piece → List Piece} {z : Spot} → Then (Opened P from f) h z → Opened P from (λ ps. f (h ps)) z
joined_then o = more o.prior o.did

pub all_of : {P : Spot → Type 0} {from : ℕ} {f : List Piece → List Piece} {z : Spot} → Opened P from f z → Then P f z
all_of o = record { head = o.head; prior = o.prior; did = o.did }

-- ---- where a node begins, and where it ends

-- nothing of it is read
pub fresh : (P : Spot → Type 0) (n e : ℕ) (s : Span) (ss : List Span) → P (spot n e (s ∷ ss)) → Opened P s.start (λ ps. ps) (spot n e (s ∷ ss))
fresh P n e s ss p = record { head = spot n e (s ∷ ss); prior = p; starts = refl; did = record { numbers = λ ps k. k; places = λ ps k. k } }

pub begun : (P : Spot → Type 0) (t : g.Tok) (n e : ℕ) (s : Span) (ss : List Span) → P (spot n e (s ∷ ss)) → Opened P s.start (λ ps. token t ∷ ps) (spot n s.end ss)
begun P t n e s ss p = record { head = spot n e (s ∷ ss); prior = p; starts = refl; did = one_token t n e s ss }

-- a node of one token
pub leaf : (P : Spot → Type 0) (t : g.Tok) (n e : ℕ) (s : Span) (ss : List Span) → P (spot n e (s ∷ ss))
    → Opened P s.start (λ ps. opens (mark s.start s.end n) ∷ token t ∷ closes (mark s.start s.end n) ∷ ps) (spot (suc n) s.end ss)
leaf P t n e s ss p = record {
  head = spot n e (s ∷ ss);
  prior = p;
  starts = refl;
  did = record { numbers = λ ps k. (refl, k); places = λ ps k. (refl, (refl, k)) };
}

-- a token whose node begins with an absent name
pub begun_nameless : (P : Spot → Type 0) (t : g.Tok) (n e : ℕ) (s : Span) (ss : List Span) → P (spot n e (s ∷ ss))
    → Opened P s.start (λ ps. absent (mark s.start s.start n) ∷ token t ∷ ps) (spot (suc n) s.end ss)
begun_nameless P t n e s ss p = record { head = spot n e (s ∷ ss); prior = p; starts = refl; did = then_did (no_name n e s ss) (one_token t (suc n) e s ss) }

-- the number has not changed where a token was read
same_number : {a z : Spot} (t : g.Tok) → Did (λ ps. token t ∷ ps) a z → z.id ≡ a.id
same_number {a} {z} t d = (d.numbers (closes (mark 0 0 z.id) ∷ []) (refl, tt)).0

-- the same where it is known one token later
pub nameless_late : {P : Spot → Type 0} {from : ℕ} (t : g.Tok) (n e : ℕ) (ss : List Span) → Opened P from (λ ps. token t ∷ ps) (spot n e ss)
    → Opened P from (λ ps. absent (mark from from n) ∷ token t ∷ ps) (spot (suc n) e ss)
nameless_late {P} {from} t n e ss o =
    let same : n ≡ o.head.id = same_number t o.did in
    record {
      head = o.head;
      prior = o.prior;
      starts = o.starts;
      did = record {
        numbers = λ ps k. (same, subst (λ i. Numbered (suc i) ps) same k);
        places = λ ps k. (o.starts, refl, o.did.places ps k);
      };
    }

-- the node ends with the last token
pub closed : {P : Spot → Type 0} {from : ℕ} {f : List Piece → List Piece} (n e : ℕ) (ss : List Span) → Opened P from f (spot n e ss)
    → Opened P from (λ ps. opens (mark from e n) ∷ f (closes (mark from e n) ∷ ps)) (spot (suc n) e ss)
closed {P} {from} {f} n e ss o = record {
  head = o.head;
  prior = o.prior;
  starts = o.starts;
  did = record {
    numbers = λ ps k. o.did.numbers (closes (mark from e n) ∷ ps) (refl, k);
    places = λ ps k. (o.starts, o.did.places (closes (mark from e n) ∷ ps) (refl, k));
  };
}

-- ---- lists that grow at their end

-- each with a comma behind it
abbrev pub pieces_done : {A : Type 0} → (A → List Piece → List Piece) → List A → List Piece → List Piece
pieces_done f [] ps = ps
pieces_done f (x ∷ xs) ps = f x (token (g.mark g.Com) ∷ pieces_done f xs ps)

pub all-last : {A : Type 0} (f : A → List Piece → List Piece) (xs : List A) (x : A) (ps : List Piece) → pieces_all f (xs ++ x ∷ []) ps ≡ pieces_all f xs (f x ps)
all-last f [] x ps = refl
all-last f (y ∷ xs) x ps = ap (f y) (all-last f xs x ps)

pub done-last : {A : Type 0} (f : A → List Piece → List Piece) (xs : List A) (x : A) (ps : List Piece)
    → pieces_done f (xs ++ x ∷ []) ps ≡ pieces_done f xs (f x (token (g.mark g.Com) ∷ ps))
done-last f [] x ps = refl
done-last f (y ∷ xs) x ps = ap (λ qs. f y (token (g.mark g.Com) ∷ qs)) (done-last f xs x ps)

more-last : {A : Type 0} (f : A → List Piece → List Piece) (y : A) (xs : List A) (x : A) (ps : List Piece) → f y (pieces_more f (xs ++ x ∷ []) ps) ≡ pieces_done f (y ∷ xs) (f x ps)
more-last f y [] x ps = refl
more-last f y (w ∷ xs) x ps = ap (λ qs. f y (token (g.mark g.Com) ∷ qs)) (more-last f w xs x ps)

pub commas-last : {A : Type 0} (f : A → List Piece → List Piece) (xs : List A) (x : A) (ps : List Piece) → pieces_commas f (xs ++ x ∷ []) ps ≡ pieces_done f xs (f x ps)
commas-last f [] x ps = refl
commas-last f (y ∷ xs) x ps = more-last f y xs x ps

more-done : {A : Type 0} (f : A → List Piece → List Piece) (x : A) (xs : List A) (ps : List Piece) → f x (pieces_more f xs (token (g.mark g.Com) ∷ ps)) ≡ pieces_done f (x ∷ xs) ps
more-done f x [] ps = refl
more-done f x (y ∷ xs) ps = ap (λ qs. f x (token (g.mark g.Com) ∷ qs)) (more-done f y xs ps)

-- a comma behind a list that has an element
pub commas-done : {A : Type 0} (f : A → List Piece → List Piece) (xs : List A) (ps : List Piece) → is_empty xs ≡ false → pieces_commas f xs (token (g.mark g.Com) ∷ ps) ≡ pieces_done f xs ps
commas-done f [] ps h = cc
commas-done f (x ∷ xs) ps h = more-done f x xs ps

pub not-empty : {A : Type 0} (xs : List A) (x : A) → is_empty (xs ++ x ∷ []) ≡ false
not-empty [] x = refl
not-empty (y ∷ xs) x = refl

pub all_empty : {A : Type 0} (xs : List A) → is_empty xs ≡ true → xs ≡ []
all_empty [] h = refl
all_empty (x ∷ xs) h = cc

-- ---- the tree's own lists

abbrev pub pieces_spec : Spec → List Piece → List Piece
pieces_spec x = pieces_specs (with_spec x u.no_specs)

with-spec : (x : Spec) (ss : u.Specs) (ps : List Piece) → pieces_specs (with_spec x ss) ps ≡ pieces_spec x (pieces_specs ss ps)
with-spec (keyword w) ss ps = refl
with-spec (typedef_name n) ss ps = refl
with-spec (attribute a) ss ps = refl
with-spec (records at is_union tag fs) ss ps = refl
with-spec (enums at tag es) ss ps = refl

pub specs-last : (ss : List Spec) (x : Spec) (ps : List Piece) → pieces_specs (specs_of (ss ++ x ∷ [])) ps ≡ pieces_specs (specs_of ss) (pieces_spec x ps)
specs-last [] x ps = refl
specs-last (y ∷ ss) x ps =
    with-spec y (specs_of (ss ++ x ∷ [])) ps ∙ ap (pieces_spec y) (specs-last ss x ps) ∙ sym (with-spec y (specs_of ss) (pieces_spec x ps))

abbrev pub pieces_field : Field → List Piece → List Piece
pieces_field f ps = opens f.at ∷ pieces_specs f.specs (pieces_declarators f.declarators (token (g.mark g.Semi) ∷ closes f.at ∷ ps))

pub fields-last : (fs : List Field) (f : Field) (ps : List Piece) → pieces_fields (fields_of (fs ++ f ∷ [])) ps ≡ pieces_fields (fields_of fs) (pieces_field f ps)
fields-last [] f ps = refl
fields-last (x ∷ fs) f ps = ap (pieces_field x) (fields-last fs f ps)

abbrev pub pieces_block_item : BlockItem → List Piece → List Piece
pieces_block_item (declared d) ps = pieces_declaration d ps
pieces_block_item (statement s) ps = pieces_stmt s ps

block-with : (x : BlockItem) (is : u.BlockItems) (ps : List Piece) → pieces_block (with_item x is) ps ≡ pieces_block_item x (pieces_block is ps)
block-with (declared d) is ps = refl
block-with (statement s) is ps = refl

pub block-last : (is : List BlockItem) (x : BlockItem) (ps : List Piece) → pieces_block (items_of (is ++ x ∷ [])) ps ≡ pieces_block (items_of is) (pieces_block_item x ps)
block-last [] x ps = block-with x u.no_items ps
block-last (y ∷ is) x ps =
    block-with y (items_of (is ++ x ∷ [])) ps ∙ ap (pieces_block_item y) (block-last is x ps) ∙ sym (block-with y (items_of is) (pieces_block_item x ps))

more_exprs : (xs : List Expr) (ps : List Piece) → pieces_more_exprs (exprs_of xs) ps ≡ pieces_more pieces xs ps
more_exprs [] ps = refl
more_exprs (a ∷ xs) ps = ap (λ qs. token (g.mark g.Com) ∷ pieces a qs) (more_exprs xs ps)

pub exprs-commas : (xs : List Expr) (ps : List Piece) → pieces_exprs (exprs_of xs) ps ≡ pieces_commas pieces xs ps
exprs-commas [] ps = refl
exprs-commas (a ∷ xs) ps = ap (pieces a) (more_exprs xs ps)

more_declarators : (ds : List Declarator) (ps : List Piece) → pieces_more_declarators (declarators_of ds) ps ≡ pieces_more pieces_declarator ds ps
more_declarators [] ps = refl
more_declarators (d ∷ ds) ps = ap (λ qs. token (g.mark g.Com) ∷ pieces_declarator d qs) (more_declarators ds ps)

pub declarators-commas : (ds : List Declarator) (ps : List Piece) → pieces_declarators (declarators_of ds) ps ≡ pieces_commas pieces_declarator ds ps
declarators-commas [] ps = refl
declarators-commas (d ∷ ds) ps = ap (pieces_declarator d) (more_declarators ds ps)

abbrev pub pieces_enumerator : Enumerator → List Piece → List Piece
pieces_enumerator x ps = opens x.at ∷ token (g.name x.name) ∷ pieces_value x.value (closes x.at ∷ ps)

more_enumerators : (es : List Enumerator) (ps : List Piece) → pieces_more_enumerators (enumerators_of es) ps ≡ pieces_more pieces_enumerator es ps
more_enumerators [] ps = refl
more_enumerators (x ∷ es) ps = ap (λ qs. token (g.mark g.Com) ∷ pieces_enumerator x qs) (more_enumerators es ps)

pub enumerators-commas : (es : List Enumerator) (ps : List Piece) → pieces_enumerators (enumerators_of es) ps ≡ pieces_commas pieces_enumerator es ps
enumerators-commas [] ps = refl
enumerators-commas (x ∷ es) ps = ap (pieces_enumerator x) (more_enumerators es ps)

abbrev pub pieces_param : Param → List Piece → List Piece
pieces_param x ps = opens x.at ∷ pieces_specs x.specs (pieces_maybe_declarator x.declarator (closes x.at ∷ ps))

more_params : (qs : List Param) (ps : List Piece) → pieces_more_params (params_of qs) ps ≡ pieces_more pieces_param qs ps
more_params [] ps = refl
more_params (x ∷ qs) ps = ap (λ rs. token (g.mark g.Com) ∷ pieces_param x rs) (more_params qs ps)

pub params-commas : (qs : List Param) (ps : List Piece) → pieces_params (params_of qs) ps ≡ pieces_commas pieces_param qs ps
params-commas [] ps = refl
params-commas (x ∷ qs) ps = ap (pieces_param x) (more_params qs ps)

more_inits : (is : List Init) (ps : List Piece) → pieces_more_inits (inits_of is) ps ≡ pieces_more pieces_init is ps
more_inits [] ps = refl
more_inits (x ∷ is) ps = ap (λ qs. token (g.mark g.Com) ∷ pieces_init x qs) (more_inits is ps)

pub inits-commas : (is : List Init) (ps : List Piece) → pieces_inits (inits_of is) ps ≡ pieces_commas pieces_init is ps
inits-commas [] ps = refl
inits-commas (x ∷ is) ps = ap (pieces_init x) (more_inits is ps)

-- ---- tests

pub by_test : {A : Type 0} (P : A → Type 0) (c : Bool) (x y : A) → P x → P y → P (if c then x else y)
by_test P true x y f h = f
by_test P false x y f h = h

pub by_cases : {A : Type 0} (P : A → Type 0) (c : Bool) (x y : A) → (c ≡ true → P x) → (c ≡ false → P y) → P (if c then x else y)
by_cases P true x y f h = f refl
by_cases P false x y f h = h refl
