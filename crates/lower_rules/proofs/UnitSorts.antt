-- The functions of a unit's core are well-formed.
use Rattle.std.proofs.Common.{◌≡◌, ℕ, suc, ◌+◌, ◌<◌, arith, Bool, true, false, List, [], ◌∷◌, ◌++◌, length, map, Option, Some, None, refl, sym, ◌∙◌, ap, subst}
use Rattle.std.proofs.lemmas.Bool.{lt-ltb, eqb-true}
use Rattle.std.proofs.lemmas.List.{length-map}
use Rattle.std.proofs.lemmas.Option.{slice_get_within, slice_get-map}
use Rattle.std.proofs.lemmas.Slice.Eq.{bytes_eq-Decides}
use Rattle.std.specs.Prelude.{if◌then◌else◌, ◌&&◌, ◌==◌, nat_lt, slice_get, bytes_eq, unwrap_or, nat_le, option_and_then}
use Rattle.std.specs.Option.{option_map}
use Rattle.name_places.specs.Placed.{place_of}
use Rattle.c_core.specs.Library.{library_names}
use Rattle.c_core.specs.Signatures.{Signature, signature}
use Rattle.c_core.specs.Values.{scalar_size}
use Rattle.c_core.specs.WellFormed.{reaches, numbers, is_literal, is_object, good_stmt, good_body, good_function, good_functions}
use Rattle.c_core.specs.Tree as c
use Rattle.c_tree.specs.Marked as m
use Rattle.c_rules.specs.Known.{Known}
use Rattle.c_rules.specs.World.{FunctionOf, ObjectOf}
use Rattle.c_checked.specs.Told.{object_at, function_at}
use Rattle.signature_laws.specs.Told.{signature_told}
use Rattle.signature_laws.proofs.Read.{every_signature_is_read}
use Rattle.lower_rules.specs.Shapes.{signature_of, names_of, spelled, bytes_of}
use Rattle.lower_rules.specs.Initialisers.{literal_bytes}
use Rattle.lower_rules.specs.Numbered as number
use Rattle.lower_rules.specs.Numbered.{Numbered, FixedThing, an_object, a_literal}
use Rattle.lower_rules.specs.Statements.{stmt}
use Rattle.lower_rules.specs.Units as unit
use Rattle.lower_rules.specs.Units.{Given}
use Rattle.lower_rules.specs.Sorts.{Has}
use Rattle.lower_rules.specs.Formed.{IsSound, HasFunctionType}
use Rattle.lower_rules.proofs.StmtSorts.{stmt_good}

-- ---- places in lists

abbrev Found : {A : Type 0} → (A → Bool) → List A → ℕ → Type 0
Found {A = A} is xs i = (x : A) × ((slice_get xs i ≡ Some x) × (is x ≡ true))

none_is_some : {A B : Type 0} (i : A) → None ≡ Some i → B
none_is_some i h = absurd (cc)

behind : {A : Type 0} (is : A → Bool) (x : A) (xs : List A) (i : ℕ) (o : Option ℕ) → ((j : ℕ) → o ≡ Some j → Found is xs j) → option_map suc o ≡ Some i → Found is (x ∷ xs) i
behind is x xs i None rest h = none_is_some i h
behind is x xs i (Some j) rest h = subst (λ y. Found is (x ∷ xs) y) (ap (λ o. unwrap_or o 0) h) (rest j refl)

first_or : {A : Type 0} (is : A → Bool) (x : A) (xs : List A) (i : ℕ) (b : Bool) → is x ≡ b → ((j : ℕ) → number.first_where is xs ≡ Some j → Found is xs j)
    → (if b then Some 0 else option_map suc (number.first_where is xs)) ≡ Some i → Found is (x ∷ xs) i
first_or is x xs i true e rest h = subst (λ y. Found is (x ∷ xs) y) (ap (λ o. unwrap_or o 0) h) (x, (refl, e))
first_or is x xs i false e rest h = behind is x xs i (number.first_where is xs) rest h

found : {A : Type 0} (is : A → Bool) (xs : List A) (i : ℕ) → number.first_where is xs ≡ Some i → Found is xs i
found is [] i h = none_is_some i h
found is (x ∷ xs) i h = first_or is x xs i (is x) refl (found is xs) h

zero_least : (n : ℕ) → nat_le 0 n ≡ true
zero_least n = grind arith

-- ---- what the program has

module _ (k : Known) (sites marks : List ℕ) (u : List m.External) (sound : IsSound k u) where
  abbrev n : Numbered
  n = unit.numbered k sites marks u

  abbrev p : c.Program
  p = unit.program n u

  abbrev gs : List Given
  gs = unit.given_in k u []

  fixed_at : (i : ℕ) (x : FixedThing) → slice_get n.fixed i ≡ Some x → slice_get p.fixed i ≡ Some (unit.fixed_of n gs x)
  fixed_at i x h = slice_get-map (unit.fixed_of n gs) n.fixed i ∙ ap (option_map (unit.fixed_of n gs)) h

  literal_is : (node : ℕ) (x : FixedThing) → number.is_literal node x ≡ true → is_literal (Some (unit.fixed_of n gs x)) ≡ true
  literal_is node (an_object o) h = absurd (cc)
  literal_is node (a_literal m ts) h = refl

  object_by : (i : Option m.Init) (o : Option ObjectOf) → is_object (Some (unit.object_of n i o)) ≡ true
  object_by i None = refl
  object_by i (Some o) = refl

  object_is : (object : ℕ) (x : FixedThing) → number.is_object object x ≡ true → is_object (Some (unit.fixed_of n gs x)) ≡ true
  object_is object (an_object o) h = object_by (unit.given_to o gs) (object_at k o)
  object_is object (a_literal m ts) h = absurd (cc)

  literals_there : (node i : ℕ) → number.fixed_literal n node ≡ Some i → is_literal (slice_get p.fixed i) ≡ true
  literals_there node i h =
      let at : Found (number.is_literal node) n.fixed i = found (number.is_literal node) n.fixed i h in
      ap is_literal (fixed_at i at.0 at.1.0) ∙ literal_is node at.0 at.1.1

  objects_there : (object i : ℕ) → number.fixed_object n object ≡ Some i → is_object (slice_get p.fixed i) ≡ true
  objects_there object i h =
      let at : Found (number.is_object object) n.fixed i = found (number.is_object object) n.fixed i h in
      ap is_object (fixed_at i at.0 at.1.0) ∙ object_is object at.0 at.1.1

  pub functions_there : (f i : ℕ) → number.function_numbered k f ≡ Some i → nat_lt i (length p.funcs) ≡ true
  functions_there f i h =
      let at : Found (λ x. x == f) (number.order k) i = found (λ x. x == f) (number.order k) i h in
      lt-ltb i (length p.funcs) (subst (λ y. i < y) (sym (length-map (number.order k) (λ g. unit.function_of n u g (function_at k g)))) (slice_get_within (number.order k) i at.0 at.1.0))

  named_by : (o : Option ℕ) (i : ℕ) → option_and_then (number.function_numbered k) o ≡ Some i → nat_lt i (length p.funcs) ≡ true
  named_by None i h = none_is_some i h
  named_by (Some f) i h = functions_there f i h

  named_there : (o : Option (List ℕ)) (i : ℕ) → option_and_then (number.function_named k) o ≡ Some i → nat_lt i (length p.funcs) ≡ true
  named_there None i h = none_is_some i h
  named_there (Some name) i h = named_by (place_of name (map (λ f. f.name) k.functions)) i h

  pub library_there : (l i : ℕ) → number.library_numbered k l ≡ Some i → nat_lt i (length p.funcs) ≡ true
  library_there l i h = named_there (slice_get library_names l) i h

  -- what an address is in

  reached_object : (i : Option m.Init) (o : ObjectOf) (offset : ℕ) → o.is_defined ≡ true → nat_le offset (bytes_of k o.type) ≡ true → reaches (Some (unit.object_of n i (Some o))) offset ≡ true
  reached_object i o offset h g = rw h g

  object_number : (object : ℕ) (x : FixedThing) → number.is_object object x ≡ true → x ≡ an_object object
  object_number object (an_object o) h = ap an_object (sym (eqb-true object o h))
  object_number object (a_literal m ts) h = absurd (cc)

  pub object_reached : (object f offset : ℕ) (o : ObjectOf) → number.fixed_object n object ≡ Some f → object_at k object ≡ Some o → o.is_defined ≡ true → nat_le offset (bytes_of k o.type) ≡ true → reaches (slice_get p.fixed f) offset ≡ true
  object_reached object f offset o e is h g =
      let at : Found (number.is_object object) n.fixed f = found (number.is_object object) n.fixed f e in
      ap (λ x. reaches x offset) (fixed_at f at.0 at.1.0 ∙ ap (λ x. Some (unit.fixed_of n gs x)) (object_number object at.0 at.1.1) ∙ ap (λ x. Some (unit.object_of n (unit.given_to object gs) x)) is) ∙ reached_object (unit.given_to object gs) o offset h g

  literal_reaches : (node : ℕ) (x : FixedThing) → number.is_literal node x ≡ true → reaches (Some (unit.fixed_of n gs x)) 0 ≡ true
  literal_reaches node (an_object o) h = absurd (cc)
  literal_reaches node (a_literal m ts) h = zero_least (length (literal_bytes ts))

  pub literal_reached : (node f : ℕ) → number.fixed_literal n node ≡ Some f → reaches (slice_get p.fixed f) 0 ≡ true
  literal_reached node f e =
      let at : Found (number.is_literal node) n.fixed f = found (number.is_literal node) n.fixed f e in
      ap (λ x. reaches x 0) (fixed_at f at.0 at.1.0) ∙ literal_reaches node at.0 at.1.1

  pub there : Has p n
  there = record { literals = literals_there; objects = objects_there; functions = functions_there; named = sound.named }

  -- ---- functions

  both_true : (a b : Bool) → a ≡ true → b ≡ true → (a && b) ≡ true
  both_true a b h g = rw h g

  told_is : (f : FunctionOf) (s : Signature) → signature_told f.type ≡ Some s → signature_of f.type ≡ s
  told_is f s h = ap (λ o. unwrap_or o (record { takes = []; gives = None })) h

  body_good : (number : ℕ) (f : FunctionOf) (s : Signature) (o : Option m.Stmt) → function_at k number ≡ Some f → signature (spelled k f.type) ≡ s → unit.body_of k number u ≡ o
      → good_body p (unit.function_with n s f o) (unit.function_with n s f o).body ≡ true
  body_good number f s None e h is = sound.libraries number f e is
  body_good number f s (Some b) e h is =
      subst (λ x. good_stmt p x.gives (numbers 0 (map scalar_size s.takes)) false (stmt n s.gives (numbers 0 (map scalar_size s.takes)) false b) ≡ true) (sym h)
      (stmt_good p n there s.gives (numbers 0 (map scalar_size s.takes)) false b)

  same_sizes : (xs : List ℕ) → bytes_eq xs xs ≡ true
  same_sizes xs = (bytes_eq-Decides xs xs).1 refl

  with_good : (number : ℕ) (f : FunctionOf) (s : Signature) → function_at k number ≡ Some f → signature (spelled k f.type) ≡ s
      → good_function p (unit.function_with n s f (unit.body_of k number u)) ≡ true
  with_good number f s e h =
      both_true (bytes_eq (map scalar_size s.takes) (map scalar_size (signature (spelled k f.type)).takes)) (good_body p (unit.function_with n s f (unit.body_of k number u)) (unit.function_with n s f (unit.body_of k number u)).body)
      (subst (λ x. bytes_eq (map scalar_size s.takes) (map scalar_size x.takes) ≡ true) (sym h) (same_sizes (map scalar_size s.takes)))
      (body_good number f s (unit.body_of k number u) e h refl)

  function_good : (number : ℕ) (f : FunctionOf) → function_at k number ≡ Some f → good_function p (unit.function_of n u number (Some f)) ≡ true
  function_good number f e =
      let type : HasFunctionType f = sound.functions number f e in
      subst (λ s. good_function p (unit.function_with n s f (unit.body_of k number u)) ≡ true) (sym (told_is f type.0 type.1))
      (with_good number f type.0 e (every_signature_is_read (names_of k) f.type type.0 (sound.functions_named number f e) type.1))

  -- each number in a list is a function's
  abbrev AreThere : List ℕ → Type 0
  AreThere [] = Unit {0}
  AreThere (x ∷ xs) = ((f : FunctionOf) × (function_at k x ≡ Some f)) × AreThere xs

  both_there : (xs ys : List ℕ) → AreThere xs → AreThere ys → AreThere (xs ++ ys)
  both_there [] ys h g = g
  both_there (x ∷ xs) ys h g = (h.0, both_there xs ys h.1 g)

  or_not : (b : Bool) (x : ℕ) (xs : List ℕ) → ((f : FunctionOf) × (function_at k x ≡ Some f)) → AreThere xs → AreThere (if b then x ∷ xs else xs)
  or_not true x xs h g = (h, g)
  or_not false x xs h g = g

  numbers_there : (entries : Bool) (i : ℕ) (fs : List FunctionOf) → ((j : ℕ) (f : FunctionOf) → slice_get fs j ≡ Some f → slice_get k.functions (i + j) ≡ Some f) → AreThere (number.numbers_where entries i fs)
  numbers_there entries i [] h = tt
  numbers_there entries i (f ∷ fs) h =
      or_not (number.is_same_bool (number.is_entry f) entries) i (number.numbers_where entries (suc i) fs) (f, subst (λ y. slice_get k.functions y ≡ Some f) (omega arith) (h 0 f refl))
      (numbers_there entries (suc i) fs (λ j g e. subst (λ y. slice_get k.functions y ≡ Some g) (omega arith) (h (suc j) g e)))

  from_first : (j : ℕ) (f : FunctionOf) → slice_get k.functions j ≡ Some f → slice_get k.functions (0 + j) ≡ Some f
  from_first j f e = subst (λ y. slice_get k.functions y ≡ Some f) (omega arith) e

  order_there : AreThere (number.order k)
  order_there =
      both_there (number.numbers_where false 0 k.functions) (number.numbers_where true 0 k.functions) (numbers_there false 0 k.functions from_first) (numbers_there true 0 k.functions from_first)

  one_good : (x : ℕ) (f : FunctionOf) → function_at k x ≡ Some f → good_function p (unit.function_of n u x (function_at k x)) ≡ true
  one_good x f e = subst (λ o. good_function p (unit.function_of n u x o) ≡ true) (sym e) (function_good x f e)

  all_good : (xs : List ℕ) → AreThere xs → good_functions p (map (λ x. unit.function_of n u x (function_at k x)) xs) ≡ true
  all_good [] h = refl
  all_good (x ∷ xs) h =
      both_true (good_function p (unit.function_of n u x (function_at k x))) (good_functions p (map (λ y. unit.function_of n u y (function_at k y)) xs)) (one_good x h.0.0 h.0.1) (all_good xs h.1)

  pub functions_good : good_functions p p.funcs ≡ true
  functions_good = all_good (number.order k) order_there
