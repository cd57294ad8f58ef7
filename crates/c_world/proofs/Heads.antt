-- An index keeps what the names in scope stand for.
use Rattle.std.proofs.Common.{rules, ◌≡◌, ℕ, cond, Bool, true, false, ◌&&◌, List, [], ◌∷◌, Option, Some, None, nat_eq, if◌then◌else◌, map, refl, sym, ap, ◌∙◌, option_map, option_and_then}
use Rattle.std.specs.Cmp.Lexicographic.{pointwise}
use Rattle.std.specs.Cmp.Lexicographic as texts
use Rattle.std.specs.Map.{lookup, set_value}
use Rattle.indexmap.specs.IndexMap.{insert_entry}
use Rattle.c_tree.specs.Text.{same_text}
use Rattle.c_world.specs.declared.names.Bound.{Bound}
use Rattle.c_world.specs.declared.names.Undo.{Undo}
use Rattle.c_world.specs.Names.{find_in, entry_of, head_in, Follows}
use Rattle.c_world.specs.declared.names.NameEntry.{NameEntry}

pub same : (xs ys : List ℕ) → pointwise nat_eq xs ys ≡ same_text xs ys
same [] [] = refl
same [] (y ∷ ys) = refl
same (x ∷ xs) [] = refl
same (x ∷ xs) (y ∷ ys) = ap (λ b. nat_eq x y && b) (same xs ys)

pub equal : (xs ys : List ℕ) → same_text xs ys ≡ true → xs ≡ ys
equal xs ys e = texts.same_text xs ys (sym (same xs ys ∙ e))

-- the name's newest declaration says what it stands for
here : (f : List ℕ → Option Bound) (u : Undo) (n : List ℕ) (b : Bool) (later : Option NameEntry) → same_text n u.entry.name ≡ b → f u.entry.name ≡ Some u.entry.bound
    → (if b then u.before else f n) ≡ option_map (λ e. e.bound) later
    → f n ≡ option_map (λ e. e.bound) (if b then Some (entry_of u) else later)
here f u n true later s h g = ap f (equal n u.entry.name s) ∙ h
here f u n false later s h g = g

pub found : (f : List ℕ → Option Bound) (us : List Undo) → Follows f us → (n : List ℕ) → f n ≡ option_map (λ e. e.bound) (find_in n (map entry_of us))
found f [] h n = h n
found f (u ∷ us) h n = here f u n (same_text n u.entry.name) (find_in n (map entry_of us)) refl h.0 (found (λ m. if same_text m u.entry.name then u.before else f m) us h.1 n)

nat_eq_self : (n : ℕ) → nat_eq n n ≡ true
nat_eq_self n = search rules

reflexive : (xs : List ℕ) → same_text xs xs ≡ true
reflexive [] = refl
reflexive (x ∷ xs) = ap (λ c. c && same_text xs xs) (nat_eq_self x) ∙ reflexive xs

-- what a name stands for, seen by equal functions
pub alike : (f g : List ℕ → Option Bound) (us : List Undo) → ((n : List ℕ) → f n ≡ g n) → Follows f us → Follows g us
alike f g [] e h = λ n. sym (e n) ∙ h n
alike f g (u ∷ us) e h = (
  sym (e u.entry.name) ∙ h.0,
  alike (λ n. if same_text n u.entry.name then u.before else f n) (λ n. if same_text n u.entry.name then u.before else g n) us (λ n. ap (λ v. if same_text n u.entry.name then u.before else v) (e n)) h.1,
)

-- g is f with w at the name
abbrev pub Puts : (List ℕ → Option Bound) → (List ℕ → Option Bound) → List ℕ → Option Bound → Type 0
Puts f g name w = (n : List ℕ) → g n ≡ (if same_text n name then w else f n)

before_at : (f g : List ℕ → Option Bound) (name n : List ℕ) (w v : Option Bound) (b : Bool) → same_text n name ≡ b → g n ≡ (if b then w else f n) → v ≡ f name
    → f n ≡ (if b then v else g n)
before_at f g name n w v true s h e = ap f (equal n name s) ∙ sym e
before_at f g name n w v false s h e = sym h

-- one declaration more
pub declared : (f g : List ℕ → Option Bound) (us : List Undo) (u : Undo) → Puts f g u.entry.name (Some u.entry.bound) → u.before ≡ f u.entry.name → Follows f us → Follows g (u ∷ us)
declared f g us u p b h = (
  p u.entry.name ∙ ap (λ t. if t then Some u.entry.bound else f u.entry.name) (reflexive u.entry.name),
  alike f (λ n. if same_text n u.entry.name then u.before else g n) us (λ n. before_at f g u.entry.name n (Some u.entry.bound) u.before (same_text n u.entry.name) refl (p n) b) h,
)

-- ---- the index

abbrev pub eq_by : {K : Type 0} → (K → List ℕ) → K → K → Bool
eq_by text j k = pointwise nat_eq (text j) (text k)

join_cond : (b c : Bool) (v : Option Bound) (o : Option (Option Bound)) → b ≡ c
    → option_and_then (λ p. p) (cond b (Some v) o) ≡ (if c then v else option_and_then (λ p. p) o)
join_cond true c v o e = ap (λ d. if d then v else option_and_then (λ p. p) o) e
join_cond false c v o e = ap (λ d. if d then v else option_and_then (λ p. p) o) e

case_same : (p q : Bool) (v w later : Option Bound) → p ≡ q → (if q then v else later) ≡ (if p then v else (if q then w else later))
case_same true true v w later e = refl
case_same false false v w later e = refl
case_same true false v w later e = absurd (cc)
case_same false true v w later e = absurd (cc)

case_other : (p q : Bool) (v w later : Option Bound) → (p ≡ true → q ≡ true → ⊥) → (if q then w else (if p then v else later)) ≡ (if p then v else (if q then w else later))
case_other true true v w later n = absurd (n refl refl)
case_other true false v w later n = refl
case_other false true v w later n = refl
case_other false false v w later n = refl

symmetric : (xs ys : List ℕ) → same_text xs ys ≡ true → same_text ys xs ≡ true
symmetric xs ys e = ap (λ zs. same_text zs xs) (sym (equal xs ys e)) ∙ reflexive xs

apart : (x k e : List ℕ) → same_text k e ≡ false → same_text x k ≡ true → same_text x e ≡ true → ⊥
apart x k e n p q = two (same_text k e) (sym (ap (λ z. same_text z e) (equal x k p)) ∙ q) n
  where
    two : (b : Bool) → b ≡ true → b ≡ false → ⊥
    two b t f = cc

-- the first key e with its value w, where the name is put with the value v; `rest` is what the keys behind it have then
first_key : {K : Type 0} (text : K → List ℕ) (e : K) (w : Option Bound) (es rest : List (K × Option Bound)) (name : List ℕ) (v : Option Bound) (x : List ℕ) (c : Bool)
    → same_text name (text e) ≡ c
    → head_in text rest x ≡ (if same_text x name then v else head_in text es x)
    → head_in text (if c then (e, v) ∷ es else (e, w) ∷ rest) x ≡ (if same_text x name then v else head_in text ((e, w) ∷ es) x)
first_key text e w es rest name v x true s h =
    join_cond (pointwise nat_eq x (text e)) (same_text x (text e)) v (lookup (λ j. pointwise nat_eq x (text j)) es) (same x (text e))
    ∙ case_same (same_text x name) (same_text x (text e)) v w (head_in text es x) (ap (λ z. same_text x z) (equal name (text e) s))
    ∙ ap (λ z. if same_text x name then v else z) (sym (join_cond (pointwise nat_eq x (text e)) (same_text x (text e)) w (lookup (λ j. pointwise nat_eq x (text j)) es) (same x (text e))))
first_key text e w es rest name v x false s h =
    join_cond (pointwise nat_eq x (text e)) (same_text x (text e)) w (lookup (λ j. pointwise nat_eq x (text j)) rest) (same x (text e))
    ∙ ap (λ z. if same_text x (text e) then w else z) h
    ∙ case_other (same_text x name) (same_text x (text e)) v w (head_in text es x) (apart x name (text e) s)
    ∙ ap (λ z. if same_text x name then v else z) (sym (join_cond (pointwise nat_eq x (text e)) (same_text x (text e)) w (lookup (λ j. pointwise nat_eq x (text j)) es) (same x (text e))))

pub inserted : {K : Type 0} (text : K → List ℕ) (es : List (K × Option Bound)) (k : K) (v : Option Bound) (x : List ℕ)
    → head_in text (insert_entry (eq_by text) es k v) x ≡ (if same_text x (text k) then v else head_in text es x)
inserted text [] k v x = join_cond (pointwise nat_eq x (text k)) (same_text x (text k)) v None (same x (text k))
inserted text (e ∷ es) k v x =
    ap (λ b. head_in text (if b then (e.0, v) ∷ es else e ∷ insert_entry (eq_by text) es k v) x) (same (text k) (text e.0))
    ∙ first_key text e.0 e.1 es (insert_entry (eq_by text) es k v) (text k) v x (same_text (text k) (text e.0)) refl (inserted text es k v x)

-- one declaration more, in an index
pub entered : {K : Type 0} (text : K → List ℕ) (old new : List (K × Option Bound)) (k : K) (us : List Undo) (u : Undo)
    → new ≡ insert_entry (eq_by text) old k (Some u.entry.bound) → text k ≡ u.entry.name → u.before ≡ head_in text old u.entry.name
    → Follows (head_in text old) us → Follows (head_in text new) (u ∷ us)
entered text old new k us u e n b h =
    declared (head_in text old) (head_in text new) us u
    (λ x. ap (λ es. head_in text es x) e ∙ inserted text old k (Some u.entry.bound) x ∙ ap (λ z. if same_text x z then Some u.entry.bound else head_in text old x) n) b h

-- ---- a declaration is taken back

behind : {K : Type 0} (text : K → List ℕ) (e : K) (w : Option Bound) (es : List (K × Option Bound)) (name : List ℕ) (b : Bound)
    → same_text name (text e) ≡ false → head_in text ((e, w) ∷ es) name ≡ Some b → head_in text es name ≡ Some b
behind text e w es name b s h =
    ap (λ t. if t then w else head_in text es name) (sym s)
    ∙ sym (join_cond (pointwise nat_eq name (text e)) (same_text name (text e)) w (lookup (λ j. pointwise nat_eq name (text j)) es) (same name (text e)))
    ∙ h

-- a value that is written at a name that is there
pub written : {K : Type 0} (text : K → List ℕ) (es : List (K × Option Bound)) (name : List ℕ) (v : Option Bound) (b : Bound) (x : List ℕ)
    → head_in text es name ≡ Some b
    → head_in text (set_value (λ k. pointwise nat_eq name (text k)) es v) x ≡ (if same_text x name then v else head_in text es x)
written text [] name v b x h = absurd (cc)
written text (e ∷ es) name v b x h =
    ap (λ t. head_in text (cond t ((e.0, v) ∷ es) (e ∷ set_value (λ k. pointwise nat_eq name (text k)) es v)) x) (same name (text e.0))
    ∙ by (same_text name (text e.0)) refl (λ s. written text es name v b x (behind text e.0 e.1 es name b s h))
  where
    by : (c : Bool) → same_text name (text e.0) ≡ c
        → (same_text name (text e.0) ≡ false → head_in text (set_value (λ k. pointwise nat_eq name (text k)) es v) x ≡ (if same_text x name then v else head_in text es x))
        → head_in text (cond c ((e.0, v) ∷ es) (e ∷ set_value (λ k. pointwise nat_eq name (text k)) es v)) x ≡ (if same_text x name then v else head_in text (e ∷ es) x)
    by true s later = join_cond (pointwise nat_eq x (text e.0)) (same_text x (text e.0)) v (lookup (λ j. pointwise nat_eq x (text j)) es) (same x (text e.0))
        ∙ case_same (same_text x name) (same_text x (text e.0)) v e.1 (head_in text es x) (ap (λ z. same_text x z) (equal name (text e.0) s))
        ∙ ap (λ z. if same_text x name then v else z) (sym (join_cond (pointwise nat_eq x (text e.0)) (same_text x (text e.0)) e.1 (lookup (λ j. pointwise nat_eq x (text j)) es) (same x (text e.0))))
    by false s later = first_key text e.0 e.1 es (set_value (λ k. pointwise nat_eq name (text k)) es v) name v x false s (later s)

pub taken_back : {K : Type 0} (text : K → List ℕ) (old new : List (K × Option Bound)) (us : List Undo) (u : Undo)
    → new ≡ set_value (λ k. pointwise nat_eq u.entry.name (text k)) old u.before
    → Follows (head_in text old) (u ∷ us) → Follows (head_in text new) us
taken_back text old new us u e h =
    alike (λ n. if same_text n u.entry.name then u.before else head_in text old n) (head_in text new) us
    (λ x. sym (written text old u.entry.name u.before u.entry.bound x h.0) ∙ ap (λ es. head_in text es x) (sym e)) h.1
