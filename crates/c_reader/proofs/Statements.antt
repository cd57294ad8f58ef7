-- What a well-formed declaration, statement or unit spells is read as it.
use Rattle.std.proofs.Common.{◌≡◌, ℕ, ◌≤◌, inl, inr, Bool, true, false, ◌||◌, List, [], ◌∷◌, ◌++◌, IsSome, refl, sym, ◌∙◌, ap, append_assoc, append-nil, arith}
use Rattle.c_tree.specs.Tok as g
use Rattle.c_tree.specs.Tok.{Tok, mark, word}
use Rattle.c_tree.specs.Tree as u
use Rattle.c_tree.specs.Tree.{Entry, Expr, MaybeExpr, Specs, Declarator, Init, Inits, MaybeInit, Item, Declaration, First, Stmt, BlockItems, External}
use Rattle.std.specs.List.{AllByRecursion}
use Rattle.c_tree.specs.Put.{put_all, put_more, put_commas, put_comma_if, put_attribute, put, put_maybe, put_specs, put_declarator, put_init, put_inits, put_more_inits, put_maybe_init, put_item, put_declaration, put_first, put_stmt, put_block, put_external, put_unit, toks}
use Rattle.c_tree.specs.Wf.{Env, specified, has_typedef, WfAttribute, declared_name, IsPlain, IsFunction, Wf, WfMaybe, WfSpecs, WfDeclarator, WfInit, WfInits, WfMoreInits, WfMaybeInit, with_name, after_declarator, after_items, after_declaration, WfItems, WfDeclaration, is_open, after_first, WfFirst, after_stmt, after_block, WfStmt, WfBlock, after_external, WfExternal, WfUnit}
use Rattle.c_reader.specs.Symbol as t
use Rattle.c_reader.specs.Symbol.{Symbol, tok}
use Rattle.c_reader.specs.Parts as p
use Rattle.c_reader.specs.Parts.{BlockItem, inits_of, items_of, no_specs}
use Rattle.c_reader.specs.Inside as i
use Rattle.c_reader.specs.Inside.{InStmt, InBody, InDeclaration, InInit, Part, Mode, InItems, ItemRead, State, in_block, in_then, in_else, in_while, in_do, in_for, of_definition, of_stmt, of_external, of_block, of_for, of_item, in_braces, of_if, of_while, of_do, plain, returned, condition, for_first, for_condition, for_step, in_stmt, in_init, in_item, of_declaration, of_read, in_specs, want_declarator, want_expr, after_expr, want_stmt, for_opened, want_condition, want_step, after_return, want_external, specs, declarator, after_attributes, want_init, after_init, expr, stmt}
use Rattle.c_reader.specs.Begin.{is_empty, open_spec, want}
use Rattle.c_reader.specs.Declarations.{declaration_done, add_item, item_end, is_plain, is_function, braces_next, init_next, init_begin}
use Rattle.c_reader.specs.Exprs.{tight}
use Rattle.c_reader.specs.Stmts.{block_done, stmt_begin, is_else, stmt_next, for_begin, condition_begin, step_begin, return_next}
use Rattle.c_reader.specs.Machine.{step_at, step, run, answer}
use Rattle.c_reader.specs.Machine as machine
use Rattle.c_reader.proofs.Go.{at, pick, skip, goes, Starts, same_start}
use Rattle.c_reader.proofs.Lists.{list_inits, inits_list, list_items, items_list}
use Rattle.c_reader.proofs.First.{BeginsExpr, first, no_spec, passes, BeginsSpecs, first_spec, passes_spec}
use Rattle.c_reader.proofs.Levels.{level_some, bears, bears_some, is_text, Follows, closer, restart}
use Rattle.c_reader.proofs.Attributes.{attribute}
use Rattle.c_reader.proofs.Ok.{after_unit}
use Rattle.c_reader.proofs.Declared.{specs_read, arrived_spelled, Free, spelled_after}
use Rattle.c_reader.proofs.Complete.{not_empty, name_some, named_spelled, complete, specs_complete, declarator_complete}

-- ---- initialisers

abbrev EndsInit : Symbol → Type 0
EndsInit t.comma = Unit {0}
EndsInit t.semi = Unit {0}
EndsInit t.rbrace = Unit {0}
EndsInit _ = ⊥

init_follows : (n : ℕ) (y : Symbol) → 1 ≤ n → EndsInit y → Follows n y
init_follows n t.comma h e = (h, refl)
init_follows n t.semi h e = (omega arith, refl)
init_follows n t.rbrace h e = (omega arith, refl)
init_follows n (t.name m) h e = absurd e
init_follows n _ h e = absurd e

abbrev init_state : Env → InInit → Init → State
init_state env q (u.Plain a) = at env (expr (after_expr (in_init q) a))
init_state env q (u.Braces is has_comma) = at env (after_init q (u.Braces is has_comma))

init_steps : (x : Init) (env : Env) (q : InInit) (y : Symbol) → EndsInit y → step (init_state env q x) y ≡ init_next env q x y
init_steps (u.Plain a) env q t.comma h = refl
init_steps (u.Plain a) env q t.semi h = refl
init_steps (u.Plain a) env q t.rbrace h = refl
init_steps (u.Plain a) env q (t.name m) h = absurd h
init_steps (u.Plain a) env q _ h = absurd h
init_steps (u.Braces is has_comma) env q y h = refl

init_passes : (env : Env) (q : InInit) (y : Symbol) → BeginsExpr env y → init_begin env q y ≡ want env (in_init q) y
init_passes env q t.lbrace h = cc
init_passes env q t.rbrace h = cc
init_passes env q (t.name n) h = refl
init_passes env q _ h = refl

after_inits : (is : Inits) (has_comma : Bool) (ts : List Tok) → Starts EndsInit (put_more_inits is (put_comma_if has_comma (mark g.RBrace ∷ ts)))
after_inits u.no_inits false ts = record { y = t.rbrace; more = ts; is = refl; holds = tt }
after_inits u.no_inits true ts = record { y = t.comma; more = _; is = refl; holds = tt }
after_inits (u.init x is) has_comma ts = record { y = t.comma; more = _; is = refl; holds = tt }

braces_close : (has_comma : Bool) (env : Env) (q : InInit) (done : List Init) (r : State) (ts : List Tok) → is_empty done ≡ false → ((y : Symbol) → EndsInit y → step r y ≡ braces_next env done q y)
    → run r (put_comma_if has_comma (mark g.RBrace ∷ ts)) ≡ run (at env (after_init q (u.Braces (inits_of done) has_comma))) ts
braces_close false env q done r ts n h = goes r (at env (after_init q (u.Braces (inits_of done) false))) t.rbrace ts (h t.rbrace tt)
braces_close true env q done r ts n h =
    goes r (at env (want_init (in_braces done q))) t.comma (mark g.RBrace ∷ ts) (h t.comma tt)
    ∙ goes (at env (want_init (in_braces done q))) (at env (after_init q (u.Braces (inits_of done) true))) t.rbrace ts (skip _ _ _ n)

mutual
  pub init_complete : (x : Init) (env : Env) (q : InInit) (ts : List Tok) → WfInit env x → Starts EndsInit ts
      → run (at env (want_init q)) (put_init x ts) ≡ run (init_state env q x) ts
  init_complete (u.Plain a) env q ts h f =
      passes env (want_init q) (in_init q) a ts (init_passes env q) h.1
      ∙ complete a env (in_init q) ts h.1 h.0 (restart EndsInit (Follows (bears a)) ts (λ y e. init_follows (bears a) y (bears_some a) e) f)
  init_complete (u.Braces is has_comma) env q ts h f = some_inits is env q has_comma ts h

  some_inits : (is : Inits) (env : Env) (q : InInit) (has_comma : Bool) (ts : List Tok) → WfInits env is
      → run (at env (want_init (in_braces [] q))) (put_inits is (put_comma_if has_comma (mark g.RBrace ∷ ts))) ≡ run (at env (after_init q (u.Braces is has_comma))) ts
  some_inits u.no_inits env q has_comma ts h = absurd h
  some_inits (u.init x is) env q has_comma ts h =
      init_complete x env (in_braces [] q) (put_more_inits is (put_comma_if has_comma (mark g.RBrace ∷ ts))) h.0 (after_inits is has_comma ts)
      ∙ more_inits is env q (x ∷ []) (init_state env (in_braces [] q) x) has_comma ts h.1 refl (init_steps x env (in_braces [] q))
      ∙ ap (λ xs. run (at env (after_init q (u.Braces (u.init x xs) has_comma))) ts) (inits_list is)

  more_inits : (is : Inits) (env : Env) (q : InInit) (done : List Init) (r : State) (has_comma : Bool) (ts : List Tok) → WfMoreInits env is → is_empty done ≡ false
      → ((y : Symbol) → EndsInit y → step r y ≡ braces_next env done q y)
      → run r (put_more_inits is (put_comma_if has_comma (mark g.RBrace ∷ ts))) ≡ run (at env (after_init q (u.Braces (inits_of (done ++ list_inits is)) has_comma))) ts
  more_inits u.no_inits env q done r has_comma ts h n e =
      braces_close has_comma env q done r ts n e
      ∙ ap (λ xs. run (at env (after_init q (u.Braces (inits_of xs) has_comma))) ts) (sym (append-nil done))
  more_inits (u.init x is) env q done r has_comma ts h n e =
      goes r (at env (want_init (in_braces done q))) t.comma (put_init x (put_more_inits is (put_comma_if has_comma (mark g.RBrace ∷ ts)))) (e t.comma tt)
      ∙ init_complete x env (in_braces done q) (put_more_inits is (put_comma_if has_comma (mark g.RBrace ∷ ts))) h.0 (after_inits is has_comma ts)
      ∙ more_inits is env q (done ++ x ∷ []) (init_state env (in_braces done q) x) has_comma ts h.1 (not_empty done x) (init_steps x env (in_braces done q))
      ∙ ap (λ xs. run (at env (after_init q (u.Braces (inits_of xs) has_comma))) ts) (append_assoc done (x ∷ []) (list_inits is))

-- ---- items

abbrev EndsItem : Symbol → Type 0
EndsItem t.comma = Unit {0}
EndsItem t.semi = Unit {0}
EndsItem _ = ⊥

-- what stands behind an item's declarator
abbrev AfterItem : Symbol → Type 0
AfterItem t.attribute = Unit {0}
AfterItem (t.operator o) = Unit {0}
AfterItem t.comma = Unit {0}
AfterItem t.semi = Unit {0}
AfterItem _ = ⊥

item_free : (d : Declarator) (y : Symbol) → IsSome (declared_name d) → AfterItem y → Free d y
item_free d t.attribute n h = n
item_free d (t.operator o) n h = n
item_free d t.comma n h = tt
item_free d t.semi n h = n
item_free d (t.name m) n h = absurd h
item_free d _ n h = absurd h

abbrev items_for : Specs → List Item → InDeclaration → InItems
items_for ss is q = record { specs = ss; typedef = has_typedef ss; items = is; place = q }

item_declared : (env : Env) (q : InItems) (d : Declarator) (y : Symbol) → AfterItem y
    → step (at env (declarator (i.after_declarator (in_item q) d))) y ≡ step (at (with_name q.typedef (declared_name d) env) (after_attributes (record { before = q; declarator = d; attributes = [] }))) y
item_declared env q d t.attribute h = refl
item_declared env q d (t.operator o) h = refl
item_declared env q d t.comma h = refl
item_declared env q d t.semi h = refl
item_declared env q d (t.name m) h = absurd h
item_declared env q d _ h = absurd h

abbrev read_of : InItems → Declarator → List (List Entry) → ItemRead
read_of q d xs = record { before = q; declarator = d; attributes = xs }

attributes_read : (xs done : List (List Entry)) (env : Env) (q : InItems) (d : Declarator) (ts : List Tok) → AllByRecursion WfAttribute xs
    → run (at env (after_attributes (read_of q d done))) (put_all put_attribute xs ts) ≡ run (at env (after_attributes (read_of q d (done ++ xs)))) ts
attributes_read [] done env q d ts h = ap (λ zs. run (at env (after_attributes (read_of q d zs))) ts) (sym (append-nil done))
attributes_read (x ∷ xs) done env q d ts h =
    attribute x env (of_read (read_of q d done)) (put_all put_attribute xs ts) h.0
    ∙ attributes_read xs (done ++ x ∷ []) env q d ts h.1
    ∙ ap (λ zs. run (at env (after_attributes (read_of q d zs))) ts) (append_assoc done (x ∷ []) xs)

abbrev item_state : Env → ItemRead → MaybeInit → State
item_state env r u.no_init = at env (after_attributes r)
item_state env r (u.some_init x) = init_state env (of_item r) x

item_init_ends : (y : Symbol) → EndsItem y → EndsInit y
item_init_ends t.comma h = tt
item_init_ends t.semi h = tt
item_init_ends (t.name m) h = absurd h
item_init_ends _ h = absurd h

item_steps : (m : MaybeInit) (env : Env) (r : ItemRead) (y : Symbol) → EndsItem y → step (item_state env r m) y ≡ item_end env (add_item r m) y
item_steps u.no_init env r t.comma h = refl
item_steps u.no_init env r t.semi h = refl
item_steps u.no_init env r (t.name m) h = absurd h
item_steps u.no_init env r _ h = absurd h
item_steps (u.some_init x) env r y h = init_steps x env (of_item r) y (item_init_ends y h)

item_init : (m : MaybeInit) (env : Env) (r : ItemRead) (ts : List Tok) → WfMaybeInit env m → Starts EndsItem ts → run (at env (after_attributes r)) (put_maybe_init m ts) ≡ run (item_state env r m) ts
item_init u.no_init env r ts h f = refl
item_init (u.some_init x) env r ts h f = init_complete x env (of_item r) ts h (restart EndsItem EndsInit ts item_init_ends f)

init_after : (m : MaybeInit) (ts : List Tok) → Starts EndsItem ts → Starts AfterItem (put_maybe_init m ts)
init_after u.no_init ts f = restart EndsItem AfterItem ts after f
  where
    after : (y : Symbol) → EndsItem y → AfterItem y
    after t.comma h = tt
    after t.semi h = tt
    after (t.name m) h = absurd h
    after _ h = absurd h
init_after (u.some_init x) ts f = record { y = t.operator (t.assign u.Set); more = _; is = refl; holds = tt }

attributes_after : (xs : List (List Entry)) (ts : List Tok) → Starts AfterItem ts → Starts AfterItem (put_all put_attribute xs ts)
attributes_after [] ts f = f
attributes_after (x ∷ xs) ts f = record { y = t.attribute; more = _; is = refl; holds = tt }

abbrev env_after : InItems → Declarator → Env → Env
env_after q d env = with_name q.typedef (declared_name d) env

item_read : (x : Item) (env : Env) (q : InItems) (ts : List Tok) → IsSome (declared_name x.declarator) → WfDeclarator env x.declarator → AllByRecursion WfAttribute x.attributes
    → WfMaybeInit (env_after q x.declarator env) x.init → Starts EndsItem ts
    → run (at env (declarator (want_declarator (in_item q)))) (put_item x ts) ≡ run (item_state (env_after q x.declarator env) (read_of q x.declarator x.attributes) x.init) ts
item_read x env q ts n h ha hi f =
    let after : Starts AfterItem (put_all put_attribute x.attributes (put_maybe_init x.init ts)) = attributes_after x.attributes (put_maybe_init x.init ts) (init_after x.init ts f) in
    declarator_complete x.declarator env (in_item q) (put_all put_attribute x.attributes (put_maybe_init x.init ts)) h (name_some (in_item q) (declared_name x.declarator) n refl)
    (restart AfterItem (Free x.declarator) (put_all put_attribute x.attributes (put_maybe_init x.init ts)) (λ y e. item_free x.declarator y n e) after)
    ∙ ap (λ z. run (at env (declarator z)) (put_all put_attribute x.attributes (put_maybe_init x.init ts))) (arrived_spelled (in_item q) x.declarator (named_spelled x.declarator n))
    ∙ same_start AfterItem (at env (declarator (i.after_declarator (in_item q) x.declarator))) (at (env_after q x.declarator env) (after_attributes (read_of q x.declarator []))) (put_all put_attribute x.attributes (put_maybe_init x.init ts)) after (item_declared env q x.declarator)
    ∙ attributes_read x.attributes [] (env_after q x.declarator env) q x.declarator (put_maybe_init x.init ts) ha
    ∙ item_init x.init (env_after q x.declarator env) (read_of q x.declarator x.attributes) ts hi f

after_item : (is : List Item) (ts : List Tok) → Starts EndsItem (put_more put_item is (mark g.Semi ∷ ts))
after_item [] ts = record { y = t.semi; more = ts; is = refl; holds = tt }
after_item (x ∷ is) ts = record { y = t.comma; more = _; is = refl; holds = tt }

abbrev declared_as : Specs → List Item → Declaration
declared_as ss is = record { specs = ss; items = is }

more_items : (is : List Item) (env : Env) (ss : Specs) (done : List Item) (q : InDeclaration) (r : State) (ts : List Tok) → WfItems env ss true is
    → ((y : Symbol) → EndsItem y → step r y ≡ item_end env (items_for ss done q) y)
    → run r (put_more put_item is (mark g.Semi ∷ ts)) ≡ run (at (after_items ss is env) (declaration_done q (declared_as ss (done ++ is)))) ts
more_items [] env ss done q r ts h e =
    goes r (at env (declaration_done q (declared_as ss done))) t.semi ts (e t.semi tt)
    ∙ ap (λ xs. run (at env (declaration_done q (declared_as ss xs))) ts) (sym (append-nil done))
more_items (x ∷ is) env ss done q r ts h e =
    goes r (at env (declarator (want_declarator (in_item (items_for ss done q))))) t.comma (put_item x (put_more put_item is (mark g.Semi ∷ ts))) (e t.comma tt)
    ∙ item_read x env (items_for ss done q) (put_more put_item is (mark g.Semi ∷ ts)) h.0 h.2 h.3 h.4 (after_item is ts)
    ∙ more_items is (after_declarator ss x.declarator env) ss (done ++ x ∷ []) q (item_state (after_declarator ss x.declarator env) (read_of (items_for ss done q) x.declarator x.attributes) x.init) ts h.5
    (item_steps x.init (after_declarator ss x.declarator env) (read_of (items_for ss done q) x.declarator x.attributes))
    ∙ ap (λ xs. run (at (after_items ss (x ∷ is) env) (declaration_done q (declared_as ss xs))) ts) (append_assoc done (x ∷ []) is)

-- ---- declarations

items_read : (is : List Item) (ss : Specs) (env : Env) (q : InDeclaration) (ts : List Tok) → WfSpecs env false ss → WfItems env ss (specified false ss) is
    → run (at env (specs (in_specs no_specs (of_declaration q)))) (put_specs ss (put_commas put_item is (mark g.Semi ∷ ts))) ≡ run (at (after_items ss is env) (declaration_done q (declared_as ss is))) ts
items_read [] ss env q ts h hs = specs_read ss (specs_complete ss) env (of_declaration q) (mark g.Semi ∷ ts) h (record { y = t.semi; more = ts; is = refl; holds = (refl, refl) })
items_read (x ∷ is) ss env q ts h hs =
    specs_read ss (specs_complete ss) env (of_declaration q) (put_item x (put_more put_item is (mark g.Semi ∷ ts))) h
    (spelled_after env (specified false ss) x.declarator (put_all put_attribute x.attributes (put_maybe_init x.init (put_more put_item is (mark g.Semi ∷ ts)))) (named_spelled x.declarator hs.0) hs.1 hs.2)
    ∙ item_read x env (items_for ss [] q) (put_more put_item is (mark g.Semi ∷ ts)) hs.0 hs.2 hs.3 hs.4 (after_item is ts)
    ∙ more_items is (after_declarator ss x.declarator env) ss (x ∷ []) q (item_state (after_declarator ss x.declarator env) (read_of (items_for ss [] q) x.declarator x.attributes) x.init) ts hs.5
    (item_steps x.init (after_declarator ss x.declarator env) (read_of (items_for ss [] q) x.declarator x.attributes))

-- a mode that takes the first token of a declaration
pub declaration_complete : (d : Declaration) (env : Env) (m : Mode) (q : InDeclaration) (ts : List Tok) → ((y : Symbol) → BeginsSpecs env false y → step_at env m y ≡ open_spec env no_specs (of_declaration q) y) → WfDeclaration env d
    → run (at env m) (put_declaration d ts) ≡ run (at (after_declaration d env) (declaration_done q d)) ts
declaration_complete d env m q ts same h =
    passes_spec env m (of_declaration q) d.specs (put_commas put_item d.items (mark g.Semi ∷ ts)) same h.0 h.1
    ∙ items_read d.items d.specs env q ts h.1 h.2

-- ---- statements

-- an else may stand behind a closed statement alone
abbrev NoElse : Bool → Symbol → Type 0
NoElse opens y = is_else y ≡ true → opens ≡ false

not_else : (opens : Bool) (ts : List Tok) → Starts (λ y. is_else y ≡ false) ts → Starts (NoElse opens) ts
not_else opens ts f = restart (λ y. is_else y ≡ false) (NoElse opens) ts (λ y n e. cc) f

else_any : (opens : Bool) (y : Symbol) → NoElse true y → NoElse opens y
else_any opens y n e = let z : true ≡ false = n e in cc

closed_else : (opens : Bool) (ts : List Tok) → opens ≡ false → Starts (NoElse opens) (word g.KElse ∷ ts)
closed_else opens ts h = record { y = t.head t.Else; more = ts; is = refl; holds = λ e. h }

expr_no_else : (env : Env) (y : Symbol) → BeginsExpr env y → is_else y ≡ false
expr_no_else env (t.head x) h = cc
expr_no_else env (t.name n) h = refl
expr_no_else env _ h = refl

spec_no_else : (env : Env) (y : Symbol) → BeginsSpecs env false y → is_else y ≡ false
spec_no_else env (t.head x) h = cc
spec_no_else env (t.name n) h = refl
spec_no_else env _ h = refl

first_stmt : (s : Stmt) (env : Env) (ts : List Tok) → WfStmt env s → Starts (λ y. is_else y ≡ false) (put_stmt s ts)
first_stmt (u.Block is) env ts h = record { y = t.lbrace; more = _; is = refl; holds = refl }
first_stmt (u.ExprStmt u.no_expr) env ts h = record { y = t.semi; more = _; is = refl; holds = refl }
first_stmt (u.ExprStmt (u.some_expr a)) env ts h = restart (BeginsExpr env) (λ y. is_else y ≡ false) (put a (mark g.Semi ∷ ts)) (expr_no_else env) (first env a (mark g.Semi ∷ ts) h.1)
first_stmt (u.If c s) env ts h = record { y = t.head t.If; more = _; is = refl; holds = refl }
first_stmt (u.IfElse c s z) env ts h = record { y = t.head t.If; more = _; is = refl; holds = refl }
first_stmt (u.While c s) env ts h = record { y = t.head t.While; more = _; is = refl; holds = refl }
first_stmt (u.Do s c) env ts h = record { y = t.head t.Do; more = _; is = refl; holds = refl }
first_stmt (u.For x c e s) env ts h = record { y = t.head t.For; more = _; is = refl; holds = refl }
first_stmt u.Break env ts h = record { y = t.head t.Break; more = _; is = refl; holds = refl }
first_stmt u.Continue env ts h = record { y = t.head t.Continue; more = _; is = refl; holds = refl }
first_stmt (u.Return e) env ts h = record { y = t.head t.Return; more = _; is = refl; holds = refl }

first_block : (is : BlockItems) (env : Env) (ts : List Tok) → WfBlock env is → Starts (λ y. is_else y ≡ false) (put_block is (mark g.RBrace ∷ ts))
first_block u.no_items env ts h = record { y = t.rbrace; more = ts; is = refl; holds = refl }
first_block (u.declared d is) env ts h = restart (BeginsSpecs env false) (λ y. is_else y ≡ false) (put_declaration d (put_block is (mark g.RBrace ∷ ts))) (spec_no_else env) (first_spec env d.specs (put_commas put_item d.items (mark g.Semi ∷ put_block is (mark g.RBrace ∷ ts))) h.0.0 h.0.1)
first_block (u.statement s is) env ts h = first_stmt s env (put_block is (mark g.RBrace ∷ ts)) h.0

stmt_passes : (env : Env) (k : InStmt) (y : Symbol) → BeginsExpr env y → stmt_begin env k y ≡ want env (in_stmt plain k) y
stmt_passes env k (t.head x) h = cc
stmt_passes env k t.lbrace h = cc
stmt_passes env k t.rbrace h = cc
stmt_passes env k t.semi h = cc
stmt_passes env k (t.name n) h = skip _ _ _ (no_spec env (t.name n) h)
stmt_passes env k (t.keyword w) h = cc
stmt_passes env k (t.tagged x) h = cc
stmt_passes env k t.attribute h = cc
stmt_passes env k _ h = refl

block_passes : (env : Env) (is : List BlockItem) (b : InBody) (y : Symbol) → BeginsSpecs env false y → stmt_begin env (in_block is b) y ≡ open_spec env no_specs (of_declaration (of_block is b)) y
block_passes env is b (t.name n) h = pick _ _ _ h
block_passes env is b (t.keyword w) h = refl
block_passes env is b (t.tagged x) h = refl
block_passes env is b t.attribute h = refl
block_passes env is b _ h = cc

for_declares : (env : Env) (k : InStmt) (y : Symbol) → BeginsSpecs env false y → for_begin env k y ≡ open_spec env no_specs (of_declaration (of_for k)) y
for_declares env k (t.name n) h = pick _ _ _ h
for_declares env k (t.keyword w) h = refl
for_declares env k (t.tagged x) h = refl
for_declares env k t.attribute h = refl
for_declares env k _ h = cc

for_passes : (env : Env) (k : InStmt) (y : Symbol) → BeginsExpr env y → for_begin env k y ≡ want env (in_stmt for_first k) y
for_passes env k t.semi h = cc
for_passes env k (t.name n) h = skip _ _ _ (no_spec env (t.name n) h)
for_passes env k (t.keyword w) h = cc
for_passes env k (t.tagged x) h = cc
for_passes env k t.attribute h = cc
for_passes env k _ h = refl

condition_passes : (env : Env) (x : First) (k : InStmt) (y : Symbol) → BeginsExpr env y → condition_begin env x k y ≡ want env (in_stmt (for_condition x) k) y
condition_passes env x k t.semi h = cc
condition_passes env x k (t.name n) h = refl
condition_passes env x k _ h = refl

step_passes : (env : Env) (x : First) (c : MaybeExpr) (k : InStmt) (y : Symbol) → BeginsExpr env y → step_begin env x c k y ≡ want env (in_stmt (for_step x c) k) y
step_passes env x c k t.rparen h = cc
step_passes env x c k (t.name n) h = refl
step_passes env x c k _ h = refl

return_passes : (env : Env) (k : InStmt) (y : Symbol) → BeginsExpr env y → return_next env k y ≡ want env (in_stmt returned k) y
return_passes env k t.semi h = cc
return_passes env k (t.name n) h = refl
return_passes env k _ h = refl

-- an expression of a statement, and the ; or ) behind it
part_read : (a : Expr) (env : Env) (q : Part) (k : InStmt) (y : Symbol) (ts : List Tok) → Wf env a → tight y ≡ 0 → is_text y ≡ false
    → run (at env (expr (want_expr (in_stmt q k)))) (put a (tok y ∷ ts)) ≡ run (at env (expr (after_expr (in_stmt q k) a))) (tok y ∷ ts)
part_read a env q k y ts h n x = complete a env (in_stmt q k) (tok y ∷ ts) h (level_some a) (closer (bears a) y ts n x)

first_read : (x : First) (env : Env) (k : InStmt) (ts : List Tok) → WfFirst env x → run (at env (stmt (for_opened k))) (put_first x ts) ≡ run (at (after_first x env) (stmt (want_condition x k))) ts
first_read (u.FirstDeclaration d) env k ts h = declaration_complete d env (stmt (for_opened k)) (of_for k) ts (for_declares env k) h
first_read (u.FirstExpr u.no_expr) env k ts h = refl
first_read (u.FirstExpr (u.some_expr a)) env k ts h =
    passes env (stmt (for_opened k)) (in_stmt for_first k) a (mark g.Semi ∷ ts) (for_passes env k) h.1
    ∙ part_read a env for_first k t.semi ts h.1 refl refl

condition_read : (c : MaybeExpr) (env : Env) (x : First) (k : InStmt) (ts : List Tok) → WfMaybe env c 1 → run (at env (stmt (want_condition x k))) (put_maybe c (mark g.Semi ∷ ts)) ≡ run (at env (stmt (want_step x c k))) ts
condition_read u.no_expr env x k ts h = refl
condition_read (u.some_expr a) env x k ts h =
    passes env (stmt (want_condition x k)) (in_stmt (for_condition x) k) a (mark g.Semi ∷ ts) (condition_passes env x k) h.1
    ∙ part_read a env (for_condition x) k t.semi ts h.1 refl refl

step_read : (e : MaybeExpr) (env : Env) (x : First) (c : MaybeExpr) (k : InStmt) (ts : List Tok) → WfMaybe env e 1 → run (at env (stmt (want_step x c k))) (put_maybe e (mark g.RParen ∷ ts)) ≡ run (at env (stmt (want_stmt (in_for x c e k)))) ts
step_read u.no_expr env x c k ts h = refl
step_read (u.some_expr a) env x c k ts h =
    passes env (stmt (want_step x c k)) (in_stmt (for_step x c) k) a (mark g.RParen ∷ ts) (step_passes env x c k) h.1
    ∙ part_read a env (for_step x c) k t.rparen ts h.1 refl refl

return_read : (e : MaybeExpr) (env : Env) (k : InStmt) (ts : List Tok) → WfMaybe env e 1 → run (at env (stmt (after_return k))) (put_maybe e (mark g.Semi ∷ ts)) ≡ run (at env (stmt (i.after_stmt k (u.Return e)))) ts
return_read u.no_expr env k ts h = refl
return_read (u.some_expr a) env k ts h =
    passes env (stmt (after_return k)) (in_stmt returned k) a (mark g.Semi ∷ ts) (return_passes env k) h.1
    ∙ part_read a env returned k t.semi ts h.1 refl refl

expr_stmt_read : (e : MaybeExpr) (env : Env) (k : InStmt) (ts : List Tok) → WfMaybe env e 1 → run (at env (stmt (want_stmt k))) (put_maybe e (mark g.Semi ∷ ts)) ≡ run (at env (stmt (i.after_stmt k (u.ExprStmt e)))) ts
expr_stmt_read u.no_expr env k ts h = refl
expr_stmt_read (u.some_expr a) env k ts h =
    passes env (stmt (want_stmt k)) (in_stmt plain k) a (mark g.Semi ∷ ts) (stmt_passes env k) h.1
    ∙ part_read a env plain k t.semi ts h.1 refl refl

then_over : (env : Env) (c : Expr) (k : InStmt) (s : Stmt) (y : Symbol) → NoElse true y → stmt_next env (in_then c k) s y ≡ stmt_next env k (u.If c s) y
then_over env c k s y h = skip _ _ _ (no_else (is_else y) h)
  where
    no_else : (b : Bool) → (b ≡ true → true ≡ false) → b ≡ false
    no_else true f = f refl
    no_else false f = refl

mutual
  pub statement_complete : (s : Stmt) (env : Env) (k : InStmt) (ts : List Tok) → WfStmt env s → Starts (NoElse (is_open s)) ts
      → run (at env (stmt (want_stmt k))) (put_stmt s ts) ≡ run (at (after_stmt s env) (stmt (i.after_stmt k s))) ts
  statement_complete (u.Block is) env k ts h f =
      block_complete is env (of_stmt k) [] ts h
      ∙ ap (λ xs. run (at (after_block is env) (stmt (i.after_stmt k (u.Block xs)))) ts) (items_list is)
  statement_complete (u.ExprStmt e) env k ts h f = expr_stmt_read e env k ts h
  statement_complete (u.If c s) env k ts h f =
      part_read c env (condition of_if) k t.rparen (put_stmt s ts) h.0 refl refl
      ∙ statement_complete s env (in_then c k) ts h.1 (restart (NoElse true) (NoElse (is_open s)) ts (else_any (is_open s)) f)
      ∙ same_start (NoElse true) (at (after_stmt s env) (stmt (i.after_stmt (in_then c k) s))) (at (after_stmt s env) (stmt (i.after_stmt k (u.If c s)))) ts f (then_over (after_stmt s env) c k s)
  statement_complete (u.IfElse c s z) env k ts h f =
      part_read c env (condition of_if) k t.rparen (put_stmt s (word g.KElse ∷ put_stmt z ts)) h.0 refl refl
      ∙ statement_complete s env (in_then c k) (word g.KElse ∷ put_stmt z ts) h.1 (closed_else (is_open s) (put_stmt z ts) h.2)
      ∙ statement_complete z (after_stmt s env) (in_else c s k) ts h.3 f
      ∙ same_start (NoElse (is_open z)) (at (after_stmt z (after_stmt s env)) (stmt (i.after_stmt (in_else c s k) z))) (at (after_stmt z (after_stmt s env)) (stmt (i.after_stmt k (u.IfElse c s z)))) ts f (λ y n. refl)
  statement_complete (u.While c s) env k ts h f =
      part_read c env (condition of_while) k t.rparen (put_stmt s ts) h.0 refl refl
      ∙ statement_complete s env (in_while c k) ts h.1 f
      ∙ same_start (NoElse (is_open s)) (at (after_stmt s env) (stmt (i.after_stmt (in_while c k) s))) (at (after_stmt s env) (stmt (i.after_stmt k (u.While c s)))) ts f (λ y n. refl)
  statement_complete (u.Do s c) env k ts h f =
      statement_complete s env (in_do k) (word g.KWhile ∷ mark g.LParen ∷ put c (mark g.RParen ∷ mark g.Semi ∷ ts)) h.0 (not_else (is_open s) (word g.KWhile ∷ mark g.LParen ∷ put c (mark g.RParen ∷ mark g.Semi ∷ ts)) (record { y = t.head t.While; more = _; is = refl; holds = refl }))
      ∙ part_read c (after_stmt s env) (condition (of_do s)) k t.rparen (mark g.Semi ∷ ts) h.1 refl refl
  statement_complete (u.For x c e s) env k ts h f =
      first_read x env k (put_maybe c (mark g.Semi ∷ put_maybe e (mark g.RParen ∷ put_stmt s ts))) h.0
      ∙ condition_read c (after_first x env) x k (put_maybe e (mark g.RParen ∷ put_stmt s ts)) h.1
      ∙ step_read e (after_first x env) x c k (put_stmt s ts) h.2
      ∙ statement_complete s (after_first x env) (in_for x c e k) ts h.3 f
      ∙ same_start (NoElse (is_open s)) (at (after_stmt s (after_first x env)) (stmt (i.after_stmt (in_for x c e k) s))) (at (after_stmt s (after_first x env)) (stmt (i.after_stmt k (u.For x c e s)))) ts f (λ y n. refl)
  statement_complete u.Break env k ts h f = refl
  statement_complete u.Continue env k ts h f = refl
  statement_complete (u.Return e) env k ts h f = return_read e env k ts h

  pub block_complete : (is : BlockItems) (env : Env) (b : InBody) (done : List BlockItem) (ts : List Tok) → WfBlock env is
      → run (at env (stmt (want_stmt (in_block done b)))) (put_block is (mark g.RBrace ∷ ts)) ≡ run (at (after_block is env) (block_done b (items_of (done ++ list_items is)))) ts
  block_complete u.no_items env b done ts h = ap (λ xs. run (at env (block_done b (items_of xs))) ts) (sym (append-nil done))
  block_complete (u.declared d is) env b done ts h =
      declaration_complete d env (stmt (want_stmt (in_block done b))) (of_block done b) (put_block is (mark g.RBrace ∷ ts)) (block_passes env done b) h.0
      ∙ block_complete is (after_declaration d env) b (done ++ p.declared d ∷ []) ts h.1
      ∙ ap (λ xs. run (at (after_block is (after_declaration d env)) (block_done b (items_of xs))) ts) (append_assoc done (p.declared d ∷ []) (list_items is))
  block_complete (u.statement s is) env b done ts h =
      statement_complete s env (in_block done b) (put_block is (mark g.RBrace ∷ ts)) h.0 (not_else (is_open s) (put_block is (mark g.RBrace ∷ ts)) (first_block is (after_stmt s env) ts h.1))
      ∙ same_start (λ y. is_else y ≡ false) (at (after_stmt s env) (stmt (i.after_stmt (in_block done b) s))) (at (after_stmt s env) (stmt (want_stmt (in_block (done ++ p.statement s ∷ []) b)))) (put_block is (mark g.RBrace ∷ ts)) (first_block is (after_stmt s env) ts h.1) (λ y n. refl)
      ∙ block_complete is (after_stmt s env) b (done ++ p.statement s ∷ []) ts h.1
      ∙ ap (λ xs. run (at (after_block is (after_stmt s env)) (block_done b (items_of xs))) ts) (append_assoc done (p.statement s ∷ []) (list_items is))

-- ---- the unit

or_yes : (a b : Bool) → b ≡ true → (a || b) ≡ true
or_yes true b h = refl
or_yes false b h = h

plain_yes : (d : Declarator) → IsPlain d → is_plain d ≡ true
plain_yes (u.PointerTo qs d) h = absurd h
plain_yes (u.Declared n) h = refl
plain_yes (u.Group d) h = plain_yes d h
plain_yes (u.ArrayOf d n) h = absurd h
plain_yes (u.FunctionOf d ps) h = absurd h

function_yes : (d : Declarator) → IsFunction d → is_function d ≡ true
function_yes (u.PointerTo qs d) h = function_yes d h
function_yes (u.Declared n) h = absurd h
function_yes (u.Group d) h = function_yes d h
function_yes (u.ArrayOf d n) h = function_yes d h
function_yes (u.FunctionOf d ps) (inl h) = ap (λ b. b || is_function d) (plain_yes d h)
function_yes (u.FunctionOf d ps) (inr h) = or_yes (is_plain d) (is_function d) (function_yes d h)

definition_read : (ss : Specs) (d : Declarator) (is : BlockItems) (env : Env) (done : List External) (ts : List Tok) → WfExternal env (u.Definition ss d is)
    → run (at env (want_external done)) (put_external (u.Definition ss d is) ts) ≡ run (at (after_external (u.Definition ss d is) env) (want_external (done ++ u.Definition ss d is ∷ []))) ts
definition_read ss d is env done ts h =
    passes_spec env (want_external done) (of_declaration (of_external done)) ss (put_declarator d (mark g.LBrace ∷ put_block is (mark g.RBrace ∷ ts))) (λ y b. pick _ _ _ b) h.0 h.1
    ∙ specs_read ss (specs_complete ss) env (of_declaration (of_external done)) (put_declarator d (mark g.LBrace ∷ put_block is (mark g.RBrace ∷ ts))) h.1
    (spelled_after env (specified false ss) d (mark g.LBrace ∷ put_block is (mark g.RBrace ∷ ts)) (named_spelled d h.2) h.3 h.4)
    ∙ declarator_complete d env (in_item (items_for ss [] (of_external done))) (mark g.LBrace ∷ put_block is (mark g.RBrace ∷ ts)) h.4 (name_some (in_item (items_for ss [] (of_external done))) (declared_name d) h.2 refl)
    (record { y = t.lbrace; more = _; is = refl; holds = h.2 })
    ∙ ap (λ z. run (at env (declarator z)) (mark g.LBrace ∷ put_block is (mark g.RBrace ∷ ts))) (arrived_spelled (in_item (items_for ss [] (of_external done))) d (named_spelled d h.2))
    ∙ goes (at env (declarator (i.after_declarator (in_item (items_for ss [] (of_external done))) d))) (at (after_declarator ss d env) (stmt (want_stmt (in_block [] (of_definition done ss d))))) t.lbrace (put_block is (mark g.RBrace ∷ ts)) (pick _ _ _ (function_yes d h.5))
    ∙ block_complete is (after_declarator ss d env) (of_definition done ss d) [] ts h.6
    ∙ ap (λ xs. run (at (after_block is (after_declarator ss d env)) (want_external (done ++ u.Definition ss d xs ∷ []))) ts) (items_list is)

external_read : (x : External) (env : Env) (done : List External) (ts : List Tok) → WfExternal env x
    → run (at env (want_external done)) (put_external x ts) ≡ run (at (after_external x env) (want_external (done ++ x ∷ []))) ts
external_read (u.Declares d) env done ts h = declaration_complete d env (want_external done) (of_external done) ts (λ y b. pick _ _ _ b) h
external_read (u.Definition ss d is) env done ts h = definition_read ss d is env done ts h

pub unit_complete : (xs : List External) (env : Env) (done : List External) (ts : List Tok) → WfUnit env xs → run (at env (want_external done)) (put_unit xs ts) ≡ run (at (after_unit xs env) (want_external (done ++ xs))) ts
unit_complete [] env done ts h = ap (λ zs. run (at env (want_external zs)) ts) (sym (append-nil done))
unit_complete (x ∷ xs) env done ts h =
    external_read x env done (put_unit xs ts) h.0
    ∙ unit_complete xs (after_external x env) (done ++ x ∷ []) ts h.1
    ∙ ap (λ zs. run (at (after_unit xs (after_external x env)) (want_external zs)) ts) (append_assoc done (x ∷ []) xs)

-- what a well-formed unit spells is read as that unit
pub parses : (v : List External) → WfUnit [] v → machine.read (toks v) ≡ machine.unit v
parses v h = ap answer (unit_complete v [] [] [] h)

-- two well-formed units do not spell the same
pub unique : (v w : List External) → WfUnit [] v → WfUnit [] w → toks v ≡ toks w → v ≡ w
unique v w hv hw e = let same : machine.unit v ≡ machine.unit w = sym (parses v hv) ∙ ap machine.read e ∙ parses w hw in cc
