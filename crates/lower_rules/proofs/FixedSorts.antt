-- The fixed objects of a unit's core are well-formed, and so is the core.
use Rattle.std.proofs.Common.{◌≡◌, ℕ, suc, ◌+◌, ◌<◌, ℤ, arith, Bool, true, false, List, [], ◌∷◌, length, map, Option, Some, None, refl, sym, ap, subst}
use Rattle.std.proofs.lemmas.Bool.{lt-ltb}
use Rattle.std.proofs.lemmas.List.{length-map}
use Rattle.std.specs.Prelude.{if◌then◌else◌, ◌&&◌, ◌^◌, nat_lt, slice_get, unsigned_abs, unwrap_or}
use Rattle.c_core.specs.declared.values.Scalar.{Scalar}
use Rattle.c_core.specs.declared.values.Scalar.TheVariants as scalar
use Rattle.c_core.specs.declared.values.Pointer.{Pointer}
use Rattle.c_core.specs.declared.values.Pointer.TheVariants.{Null, Object, Function}
use Rattle.c_core.specs.declared.values.Cell.{Cell}
use Rattle.c_core.specs.declared.values.Cell.TheVariants.{Byte, Part}
use Rattle.c_core.specs.Values.{pointer_cells, parts}
use Rattle.c_core.specs.WellFormed.{is_size, good_pointer, good_cell, good_cells, good_object, good_fixed, good_functions, has_main, well_formed}
use Rattle.c_core.specs.Tree as c
use Rattle.c_tree.specs.Marked as m
use Rattle.c_types.specs.CTypes.{CType}
use Rattle.c_types.specs.Layout.{size}
use Rattle.c_rules.specs.Known.{Known}
use Rattle.c_rules.specs.Walk.{at_of_expr}
use Rattle.c_rules.specs.World.{ObjectOf}
use Rattle.c_rules.specs.declared.known.Binding.{Binding}
use Rattle.c_rules.specs.declared.known.Binding.TheVariants as to
use Rattle.c_rules.specs.declared.known.ConstantValue.{ConstantValue}
use Rattle.c_rules.specs.declared.known.ConstantValue.TheVariants as val
use Rattle.c_checked.specs.Told.{constant_of, object_at}
use Rattle.signature_laws.specs.Told.{scalar_of}
use Rattle.alloc_infer.specs.Sites.{sites_of, marks_of}
use Rattle.lower_rules.specs.Shapes.{bytes_of, part_of}
use Rattle.lower_rules.specs.Numbered as number
use Rattle.lower_rules.specs.Numbered.{Numbered, FixedThing, an_object, a_literal}
use Rattle.lower_rules.specs.FixedThings.{array_text}
use Rattle.lower_rules.specs.Initialisers as init
use Rattle.lower_rules.specs.Initialisers.{literal_bytes}
use Rattle.lower_rules.specs.Units as unit
use Rattle.lower_rules.specs.Units.{Given, is_cell, inside}
use Rattle.lower_rules.specs.Formed.{IsSound, IsInside, AreBytes, CoresAreWellFormed, CoreOfUnitIsWellFormed}
use Rattle.lower_rules.proofs.WordSorts.{size_good}
use Rattle.lower_rules.proofs.UnitSorts as of

module _ (k : Known) (sites marks : List ℕ) (u : List m.External) (sound : IsSound k u) where
  abbrev n : Numbered
  n = unit.numbered k sites marks u

  abbrev p : c.Program
  p = unit.program n u

  -- ---- cells

  -- where it is a cell it is a good one
  abbrev Fits : Cell → Type 0
  Fits x = is_cell x ≡ true → good_cell p x ≡ true

  abbrev AllFit : List Cell → Type 0
  AllFit [] = Unit {0}
  AllFit (x ∷ xs) = Fits x × AllFit xs

  abbrev Cells : List (ℕ × Cell) → Type 0
  Cells [] = Unit {0}
  Cells (x ∷ xs) = Fits x.1 × Cells xs

  bytes_fit : (bs : List ℕ) → AllFit (map Byte bs)
  bytes_fit [] = tt
  bytes_fit (b ∷ bs) = ((λ h. h), bytes_fit bs)

  part_fits : (q : Pointer) (i : ℕ) → good_pointer p q ≡ true → nat_lt i 8 ≡ true → Fits (Part q i)
  part_fits q i h g = λ e. rw h g

  abbrev IsFine : Pointer → Type 0
  IsFine Null = Unit {0}
  IsFine (Object f at) = good_pointer p (Object f at) ≡ true
  IsFine (Function f) = good_pointer p (Function f) ≡ true

  parts_fit : (q : Pointer) → good_pointer p q ≡ true → AllFit (parts q)
  parts_fit q h = (part_fits q 0 h refl, (part_fits q 1 h refl, (part_fits q 2 h refl, (part_fits q 3 h refl, (part_fits q 4 h refl, (part_fits q 5 h refl, (part_fits q 6 h refl, (part_fits q 7 h refl, tt))))))))

  pointer_fits : (q : Pointer) → IsFine q → AllFit (pointer_cells q)
  pointer_fits Null h = bytes_fit (0 ∷ 0 ∷ 0 ∷ 0 ∷ 0 ∷ 0 ∷ 0 ∷ 0 ∷ [])
  pointer_fits (Object f at) h = parts_fit (Object f at) h
  pointer_fits (Function f) h = parts_fit (Function f) h

  -- ---- pointers

  into_object : (object : ℕ) (at : ℤ) (o : Option ℕ) → number.fixed_object n object ≡ o → IsInside k object at → IsFine (init.into o (unsigned_abs at))
  into_object object at None e h = tt
  into_object object at (Some f) e h = of.object_reached k sites marks u sound object f (unsigned_abs at) h.0 e h.1.0 h.1.1.0 h.1.1.1

  into_literal : (node : ℕ) (o : Option ℕ) → number.fixed_literal n node ≡ o → IsFine (init.into o 0)
  into_literal node None e = tt
  into_literal node (Some f) e = of.literal_reached k sites marks u sound node f e

  function_fine : (o : Option ℕ) → ((i : ℕ) → o ≡ Some i → nat_lt i (length p.funcs) ≡ true) → IsFine (init.function_pointer o)
  function_fine None h = tt
  function_fine (Some i) h = h i refl

  bound_fine : (b : Binding) → IsFine (init.function_pointer (init.function_of_binding k b))
  bound_fine (to.Function f) = function_fine (number.function_numbered k f) (of.functions_there k sites marks u sound f)
  bound_fine (to.Library l) = function_fine (number.library_numbered k l) (of.library_there k sites marks u sound l)
  bound_fine (to.Object o) = tt
  bound_fine (to.Enumerator z) = tt

  pointer_fine : (node : ℕ) (v : ConstantValue) → constant_of k node ≡ Some v → IsFine (init.pointer_of n v)
  pointer_fine node (val.Number z) e = tt
  pointer_fine node val.Null e = tt
  pointer_fine node (val.Function b) e = bound_fine b
  pointer_fine node (val.Object object at) e = into_object object at (number.fixed_object n object) refl (sound.addresses node object at e)
  pointer_fine node (val.Text text) e = into_literal text (number.fixed_literal n text) refl

  constant_fits : (s : Option Scalar) (node : ℕ) (v : Option ConstantValue) → constant_of k node ≡ v → AllFit (init.cells_as n s v)
  constant_fits (Some (scalar.Int kind)) node (Some v) e = bytes_fit _
  constant_fits (Some scalar.Ptr) node (Some v) e = pointer_fits (init.pointer_of n v) (pointer_fine node v e)
  constant_fits None node v e = tt
  constant_fits (Some s) node None e = tt

  -- ---- initialisers

  either : (b : Bool) (x : ℕ × Cell) (xs ys : List (ℕ × Cell)) → Fits x.1 → Cells xs → Cells (if b then xs else x ∷ xs)
  either true x xs ys h g = g
  either false x xs ys h g = (h, g)

  from_fit : (at : ℕ) (xs : List Cell) (more : List (ℕ × Cell)) → AllFit xs → Cells more → Cells (init.cells_from at xs more)
  from_fit at [] more h g = g
  from_fit at (x ∷ xs) more h g = either (init.is_zero_cell x) (at, x) (init.cells_from (suc at) xs more) [] h.0 (from_fit (suc at) xs more h.1 g)

  plain_fit : (o : Option (List (List ℕ))) (t : CType) (at : ℕ) (a : m.Expr) (more : List (ℕ × Cell)) → Cells more → Cells (init.plain_cells n o t at a more)
  plain_fit (Some ts) t at a more h = from_fit at (map Byte (init.fitting t ts)) more (bytes_fit (init.fitting t ts)) h
  plain_fit None t at a more h = from_fit at (init.cells_as n (scalar_of t) (constant_of k (at_of_expr a).id)) more (constant_fits (scalar_of t) (at_of_expr a).id (constant_of k (at_of_expr a).id) refl) h

  mutual
    init_fit : (t : CType) (at : ℕ) (i : m.Init) (more : List (ℕ × Cell)) → Cells more → Cells (init.cells n t at i more)
    init_fit t at (m.Plain a) more h = plain_fit (array_text k a) t at a more h
    init_fit t at (m.Braces b xs comma) more h = entries_fit t at 0 xs more h

    entries_fit : (t : CType) (at i : ℕ) (xs : m.Inits) (more : List (ℕ × Cell)) → Cells more → Cells (init.entry_cells n t at i xs more)
    entries_fit t at i m.no_inits more h = h
    entries_fit t at i (m.init a xs) more h = init_fit (part_of k t at i).type (part_of k t at i).offset a (init.entry_cells n t at (suc i) xs more) (entries_fit t at (suc i) xs more h)

  -- ---- objects

  three : (a b d : Bool) → a ≡ true → b ≡ true → d ≡ true → (a && b && d) ≡ true
  three a b d h g i = rw h (rw g i)

  left_of : (a b : Bool) → (a && b) ≡ true → a ≡ true
  left_of true b h = refl
  left_of false b h = absurd (cc)

  right_of : (a b : Bool) → (a && b) ≡ true → b ≡ true
  right_of true b h = h
  right_of false b h = absurd (cc)

  kept_by : (b : Bool) (size : ℕ) (x : ℕ × Cell) (xs : List (ℕ × Cell)) → (nat_lt x.0 size && is_cell x.1) ≡ b → Fits x.1 → good_cells p size xs ≡ true → good_cells p size (if b then x ∷ xs else xs) ≡ true
  kept_by true size x xs e h g = three (nat_lt x.0 size) (good_cell p x.1) (good_cells p size xs) (left_of (nat_lt x.0 size) (is_cell x.1) e) (h (right_of (nat_lt x.0 size) (is_cell x.1) e)) g
  kept_by false size x xs e h g = g

  inside_good : (size : ℕ) (xs : List (ℕ × Cell)) → Cells xs → good_cells p size (inside size xs) ≡ true
  inside_good size [] h = refl
  inside_good size (x ∷ xs) h = kept_by (nat_lt x.0 size && is_cell x.1) size x (inside size xs) refl h.0 (inside_good size xs h.1)

  given_fit : (t : CType) (i : Option m.Init) → Cells (unit.cells_given n t i)
  given_fit t None = tt
  given_fit t (Some i) = init_fit t 0 i [] tt

  object_by : (b : Bool) (t : CType) (i : Option m.Init) → good_object p (record { size = bytes_of k t; read_only = false; defined = b; cells = if b then inside (bytes_of k t) (unit.cells_given n t i) else [] }) ≡ true
  object_by true t i = rw (size_good (unwrap_or (size k.records.layouts t) 1)) (inside_good (bytes_of k t) (unit.cells_given n t i) (given_fit t i))
  object_by false t i = refl

  object_good : (i : Option m.Init) (o : Option ObjectOf) → good_object p (unit.object_of n i o) ≡ true
  object_good i None = refl
  object_good i (Some o) = object_by o.is_defined o.type i

  -- ---- literals

  byte_by : (b : Bool) (at size : ℕ) (x : ℕ) (xs : List (ℕ × Cell)) → at < size → nat_lt x 256 ≡ true → good_cells p size xs ≡ true → good_cells p size (if b then xs else (at, Byte x) ∷ xs) ≡ true
  byte_by true at size x xs h g i = i
  byte_by false at size x xs h g i = three (nat_lt at size) (nat_lt x 256) (good_cells p size xs) (lt-ltb at size h) g i

  literal_cells : (at size : ℕ) (bs : List ℕ) → at + length bs ≡ size → AreBytes bs → good_cells p size (init.cells_from at (map Byte bs) []) ≡ true
  literal_cells at size [] e h = refl
  literal_cells at size (b ∷ bs) e h = byte_by (init.is_zero_cell (Byte b)) at size b (init.cells_from (suc at) (map Byte bs) []) (omega arith) h.0 (literal_cells (suc at) size bs (omega arith) h.1)

  literal_good : (bs : List ℕ) → is_size (length bs) ≡ true → AreBytes bs → good_object p (unit.literal_of bs) ≡ true
  literal_good bs h g = rw h (literal_cells 0 (length bs) bs (omega arith) g)

  -- ---- the whole

  abbrev gs : List Given
  gs = unit.given_in k u []

  both_true : (a b : Bool) → a ≡ true → b ≡ true → (a && b) ≡ true
  both_true a b h g = rw h g

  thing_good : (x : FixedThing) → ((node : ℕ) (ts : List (List ℕ)) → x ≡ a_literal node ts → (is_size (length (literal_bytes ts)) ≡ true) × AreBytes (literal_bytes ts)) → good_object p (unit.fixed_of n gs x) ≡ true
  thing_good (an_object o) h = object_good (unit.given_to o gs) (object_at k o)
  thing_good (a_literal node ts) h = literal_good (literal_bytes ts) (h node ts refl).0 (h node ts refl).1

  things_good : (xs : List FixedThing) → ((i node : ℕ) (ts : List (List ℕ)) → slice_get xs i ≡ Some (a_literal node ts) → (is_size (length (literal_bytes ts)) ≡ true) × AreBytes (literal_bytes ts)) → good_fixed p (map (unit.fixed_of n gs) xs) ≡ true
  things_good [] h = refl
  things_good (x ∷ xs) h =
      both_true (good_object p (unit.fixed_of n gs x)) (good_fixed p (map (unit.fixed_of n gs) xs)) (thing_good x (λ node ts e. h 0 node ts (ap Some e))) (things_good xs (λ i node ts e. h (suc i) node ts e))

  few_good : nat_lt (length p.fixed) (2 ^ 31) ≡ true
  few_good = subst (λ y. nat_lt y (2 ^ 31) ≡ true) (sym (length-map n.fixed (unit.fixed_of n gs))) sound.few

  four : (a b d e : Bool) → a ≡ true → b ≡ true → d ≡ true → e ≡ true → (a && b && d && e) ≡ true
  four a b d e h g i j = rw h (rw g (rw i j))

  core_good : has_main p p.main ≡ true → well_formed p ≡ true
  core_good h = four (has_main p p.main) (nat_lt (length p.fixed) (2 ^ 31)) (good_functions p p.funcs) (good_fixed p p.fixed) h few_good (of.functions_good k sites marks u sound) (things_good n.fixed sound.literals)

pub cores_good : CoresAreWellFormed
cores_good k sites marks u sound h = core_good k sites marks u sound h

pub core_of_good : CoreOfUnitIsWellFormed
unfolding unit.core_of
core_of_good k u sound h = core_good k (map (λ s. s.node) (sites_of k u)) (map (λ x. x.node) (marks_of k u)) u sound h
