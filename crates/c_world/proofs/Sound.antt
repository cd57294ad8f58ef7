-- A state whose numbers are in its table means the same over a table that has grown.
use Rattle.std.proofs.Common.{◌≡◌, ℕ, zero, suc, ◌<◌, ◌≤◌, ◌-◌, Bool, false, List, [], ◌∷◌, ◌++◌, length, map, Option, Some, None, option_map, slice_get, slice_set, ◌||◌, is_some, refl, sym, ap, ◌∙◌, arith}
use Rattle.std.specs.List.{AllByRecursion as ByRecursion}
use Rattle.std.specs.Prelude.{All}
use Rattle.std.proofs.lemmas.List.{map-set, map-append, length-map}
use Rattle.std.proofs.lemmas.Option.{slice_get-map}
use Rattle.std.proofs.lemmas.List.Elements.{recursion_from_All, All-weaker}
use Rattle.c_types.specs.CTypes.{CType, Void}
use Rattle.c_types.specs.declared.terms.Term.{Term}
use Rattle.c_types.specs.declared.terms.TypeId.{TypeId}
use Rattle.c_types.specs.Table.{Table, type_at, Grows, records_of, IsLonger}
use Rattle.c_types.specs.RecordSteps.{HasMemberTypes}
use Rattle.c_types.proofs.Recording.{records_stay}
use Rattle.c_world.specs.declared.names.NameEntry.{NameEntry}
use Rattle.c_world.specs.declared.state.ObjectEntry.{ObjectEntry}
use Rattle.c_world.specs.declared.state.FunctionEntry.{FunctionEntry}
use Rattle.c_world.specs.Inner.{Inner, IsBelow, AllBelow, NamesBelow, TagBelow, TagsBelow, AreOpen, AreRecordTypes, IsSound}
use Rattle.c_rules.specs.declared.known.Binding.{Binding}
use Rattle.c_rules.specs.declared.known.ConstantValue.{ConstantValue}
use Rattle.c_rules.specs.declared.known.TagSort.{TagSort}
use Rattle.c_rules.specs.declared.known.TagSort.TheVariants.{Struct, Union, Enumeration}
use native.Mathlib.Numerals.{unary_clauses}
use Rattle.std.specs.Prelude.{pred}
use Rattle.c_world.specs.Names.{names_left}
use Rattle.c_world.proofs.Leaving.{left_same}
use Rattle.c_rules.specs.World.{leave, Tag, ObjectOf, World, note_type, note_target, note_binding, note_constant, note_object, without_type}
use Rattle.c_world.specs.Seen.{seen, entry_of, object_of, function_of, noted, enums_of}

-- a list of things with numbers means the same over a table that has grown
module _ {A B : Type 0} (id : A → ℕ) (read : List Term → A → B) (s t : List Term) (same : (a : A) → id a < length s → read t a ≡ read s a) where
  pub list_same : (xs : List A) → ByRecursion (λ a. id a < length s) xs → map (read t) xs ≡ map (read s) xs
  list_same [] v = refl
  list_same (x ∷ xs) v = cc (same x v.0, list_same xs v.1)

pub names_same : (s t : List Term) → Grows s t → (es : List NameEntry) → NamesBelow (length s) es → map (entry_of t) es ≡ map (entry_of s) es
names_same s t g es v =
    list_same (λ e. e.bound.ty.0) entry_of s t (λ e l. ap (λ u. record { name = e.name; sort = e.bound.sort; type = u; depth = e.bound.depth }) (g.same e.bound.ty.0 l)) es (recursion_from_All _ es v)

objects_same : (s t : List Term) → Grows s t → (os : List ObjectEntry) → All (λ o. o.ty.0 < length s) os → map (object_of t) os ≡ map (object_of s) os
objects_same s t g os v =
    list_same (λ o. o.ty.0) object_of s t (λ o l. ap (λ u. record { type = u; local = o.local; is_defined = o.is_defined }) (g.same o.ty.0 l)) os (recursion_from_All _ os v)

functions_same : (s t : List Term) → Grows s t → (fs : List FunctionEntry) → All (λ f. f.ty.0 < length s) fs → map (function_of t) fs ≡ map (function_of s) fs
functions_same s t g fs v =
    list_same (λ f. f.ty.0) function_of s t (λ f l. ap (λ u. record { name = f.name; type = u; has_body = f.has_body }) (g.same f.ty.0 l)) fs (recursion_from_All _ fs v)

one_noted : (s t : List Term) → Grows s t → (i : Option TypeId) → IsBelow (length s) i → noted t i ≡ noted s i
one_noted s t g None v = refl
one_noted s t g (Some i) v = ap Some (g.same i.0 v)

notes_by : (s t : List Term) → Grows s t → (is : List (Option TypeId)) → ByRecursion (IsBelow (length s)) is → map (noted t) is ≡ map (noted s) is
notes_by s t g [] v = refl
notes_by s t g (i ∷ is) v = cc (one_noted s t g i v.0, notes_by s t g is v.1)

notes_same : (s t : List Term) → Grows s t → (is : List (Option TypeId)) → AllBelow (length s) is → map (noted t) is ≡ map (noted s) is
notes_same s t g is v = notes_by s t g is (recursion_from_All _ is v)

-- the table has grown, and the records and enumerations are others
pub seen_with : (v : Inner) (t : Table) (is : List TypeId) (ds : List Bool) → Grows v.table.terms t.terms → IsSound v
    → seen (record v { table = t; record_types = is; defined = ds }) ≡ record (seen v) { records = records_of t; enums = enums_of t.enums ds }
unfolding seen
seen_with v t is ds g s = cc (
  names_same v.table.terms t.terms g v.names s.names_below,
  objects_same v.table.terms t.terms g v.objects s.objects_below,
  functions_same v.table.terms t.terms g v.functions s.functions_below,
  notes_same v.table.terms t.terms g v.types s.types_below,
  notes_same v.table.terms t.terms g v.targets s.targets_below,
)

pub seen_grows : (v : Inner) (t : Table) → IsLonger v.table t → IsSound v → seen (record v { table = t }) ≡ seen v
unfolding seen
seen_grows v t g s = cc (
  names_same v.table.terms t.terms g.grows v.names s.names_below,
  (records_stay v.table t s.members g.grows g.records g.layouts g.members).0,
  g.enums,
  objects_same v.table.terms t.terms g.grows v.objects s.objects_below,
  functions_same v.table.terms t.terms g.grows v.functions s.functions_below,
  notes_same v.table.terms t.terms g.grows v.types s.types_below,
  notes_same v.table.terms t.terms g.grows v.targets s.targets_below,
)

-- ---- numbers stay in a table that grows

weaker_note : (j k : ℕ) → j ≤ k → (i : Option TypeId) → IsBelow j i → IsBelow k i
weaker_note j k h None b = tt
weaker_note j k h (Some i) b = omega (arith, b)

pub notes_below : (j k : ℕ) → j ≤ k → (is : List (Option TypeId)) → AllBelow j is → AllBelow k is
notes_below j k h is b = All-weaker (IsBelow j) (IsBelow k) (weaker_note j k h) is b

pub names_below : (j k : ℕ) → j ≤ k → (es : List NameEntry) → NamesBelow j es → NamesBelow k es
names_below j k h es b = All-weaker (λ e. e.bound.ty.0 < j) (λ e. e.bound.ty.0 < k) (λ e l. omega arith) es b

objects_below : (j k : ℕ) → j ≤ k → (os : List ObjectEntry) → All (λ o. o.ty.0 < j) os → All (λ o. o.ty.0 < k) os
objects_below j k h os b = All-weaker (λ o. o.ty.0 < j) (λ o. o.ty.0 < k) (λ o l. omega arith) os b

functions_below : (j k : ℕ) → j ≤ k → (fs : List FunctionEntry) → All (λ f. f.ty.0 < j) fs → All (λ f. f.ty.0 < k) fs
functions_below j k h fs b = All-weaker (λ f. f.ty.0 < j) (λ f. f.ty.0 < k) (λ f l. omega arith) fs b

tag_weaker : (r e r' e' : ℕ) → r ≤ r' → e ≤ e' → (s : TagSort) (k : ℕ) → TagBelow r e s k → TagBelow r' e' s k
tag_weaker r e r' e' h g Struct k b = omega (arith, b, h)
tag_weaker r e r' e' h g Union k b = omega (arith, b, h)
tag_weaker r e r' e' h g Enumeration k b = omega (arith, b, g)

pub tags_below : (r e r' e' : ℕ) → r ≤ r' → e ≤ e' → (ts : List Tag) → TagsBelow r e ts → TagsBelow r' e' ts
tags_below r e r' e' h g ts b = All-weaker (λ t. TagBelow r e t.sort t.number) (λ t. TagBelow r' e' t.sort t.number) (λ t l. tag_weaker r e r' e' h g t.sort t.number l) ts b

pub record_types_up : (s t : List Term) (is : List TypeId) → Grows s t → AreRecordTypes s is → AreRecordTypes t is
record_types_up s t is g all k i e =
    let one = all k i e in
    let below = one.0 in
    let longer = g.longer in
    (omega arith, g.same i.0 one.0 ∙ one.1)

pub sound_with : (v : Inner) (t : Table) (is : List TypeId) (ds : List Bool) → Grows v.table.terms t.terms → IsSound v
    → length v.table.records ≤ length t.records → length v.table.enums ≤ length t.enums
    → length t.layouts ≡ length t.records → HasMemberTypes t → AreOpen t.layouts t.members
    → AreRecordTypes t.terms is → length is ≡ length t.records → length ds ≡ length t.enums
    → IsSound (record v { table = t; record_types = is; defined = ds })
sound_with v t is ds g s records enums layouts members none types types_long defined = record {
  names_below = names_below _ _ g.longer v.names s.names_below;
  tags_below = tags_below _ _ _ _ records enums v.tags s.tags_below;
  layouts = layouts;
  members = members;
  unfinished = none;
  record_types = types;
  records = types_long;
  enums = defined;
  objects_below = objects_below _ _ g.longer v.objects s.objects_below;
  functions_below = functions_below _ _ g.longer v.functions s.functions_below;
  types_below = notes_below _ _ g.longer v.types s.types_below;
  targets_below = notes_below _ _ g.longer v.targets s.targets_below;
}

pub sound_grows : (v : Inner) (t : Table) → IsLonger v.table t → IsSound v → IsSound (record v { table = t })
sound_grows v t g s = record {
  names_below = names_below _ _ g.grows.longer v.names s.names_below;
  tags_below = rw (g.records, g.enums) s.tags_below;
  layouts = rw (g.layouts, g.records) s.layouts;
  members = (records_stay v.table t s.members g.grows g.records g.layouts g.members).1;
  unfinished = rw (g.layouts, g.members) s.unfinished;
  record_types = record_types_up v.table.terms t.terms v.record_types g.grows s.record_types;
  records = rw g.records s.records;
  enums = rw g.enums s.enums;
  objects_below = objects_below _ _ g.grows.longer v.objects s.objects_below;
  functions_below = functions_below _ _ g.grows.longer v.functions s.functions_below;
  types_below = notes_below _ _ g.grows.longer v.types s.types_below;
  targets_below = notes_below _ _ g.grows.longer v.targets s.targets_below;
}

-- ---- notes

pub set_past : {X : Type 0} (xs : List X) (i : ℕ) (x : X) → length xs ≤ i → slice_set xs i x ≡ xs
set_past [] i x h = refl
set_past (y ∷ ys) zero x h = absurd (omega arith)
set_past (y ∷ ys) (suc i) x h = ap (λ zs. y ∷ zs) (set_past ys i x (omega arith))

map_past : {X Y : Type 0} (f : X → Y) (xs : List X) (i : ℕ) (y : Y) → length xs ≤ i → slice_set (map f xs) i y ≡ map f xs
map_past f xs i y h = set_past (map f xs) i y (omega (arith, length-map xs f, h))

pub type_noted : (v : Inner) (i : ℕ) (t : TypeId) → seen (record v { types = slice_set v.types i (Some t) }) ≡ note_type i (type_at v.table.terms t.0) (seen v)
unfolding seen
type_noted v i t = cc (map-set (noted v.table.terms) v.types i (Some t))

pub type_past : (v : Inner) (i : ℕ) (t : TypeId) → length v.types ≤ i → seen v ≡ note_type i (type_at v.table.terms t.0) (seen v)
unfolding seen
type_past v i t h = cc (map_past (noted v.table.terms) v.types i (Some (type_at v.table.terms t.0)) h)

pub target_noted : (v : Inner) (i : ℕ) (t : TypeId) → seen (record v { targets = slice_set v.targets i (Some t) }) ≡ note_target i (type_at v.table.terms t.0) (seen v)
unfolding seen
target_noted v i t = cc (map-set (noted v.table.terms) v.targets i (Some t))

pub target_past : (v : Inner) (i : ℕ) (t : TypeId) → length v.targets ≤ i → seen v ≡ note_target i (type_at v.table.terms t.0) (seen v)
unfolding seen
target_past v i t h = cc (map_past (noted v.table.terms) v.targets i (Some (type_at v.table.terms t.0)) h)

pub binding_past : (v : Inner) (i : ℕ) (b : Binding) → length v.bindings ≤ i → seen v ≡ note_binding i b (seen v)
unfolding seen
binding_past v i b h = cc (set_past v.bindings i (Some b) h)

pub constant_past : (v : Inner) (i : ℕ) (c : Option ConstantValue) → length v.constants ≤ i → seen v ≡ note_constant i c (seen v)
unfolding seen
constant_past v i c h = cc (set_past v.constants i c h)

-- ---- objects

object_by : (w : World) (n : ℕ) (t : CType) (fixed : Bool) (o : ObjectOf) → slice_get w.objects n ≡ Some o
    → note_object n t fixed w ≡ record w { objects = slice_set w.objects n (record { type = t; local = o.local; is_defined = fixed || is_some o.local }) }
object_by w n t fixed o h = rw h

object_missing : (w : World) (n : ℕ) (t : CType) (fixed : Bool) → slice_get w.objects n ≡ None → note_object n t fixed w ≡ w
object_missing w n t fixed h = rw h

pub object_noted : (v : Inner) (n : ℕ) (t : TypeId) (fixed : Bool) (o : ObjectEntry) → slice_get v.objects n ≡ Some o
    → seen (record v { objects = slice_set v.objects n (record { ty = t; local = o.local; is_defined = fixed || is_some o.local }) }) ≡ note_object n (type_at v.table.terms t.0) fixed (seen v)
unfolding seen
object_noted v n t fixed o h =
    let there : slice_get (map (object_of v.table.terms) v.objects) n ≡ Some (object_of v.table.terms o) = slice_get-map (object_of v.table.terms) v.objects n ∙ ap (option_map (object_of v.table.terms)) h in
    let set = map-set (object_of v.table.terms) v.objects n (record { ty = t; local = o.local; is_defined = fixed || is_some o.local }) in
    rw set (sym (object_by (seen v) n (type_at v.table.terms t.0) fixed (object_of v.table.terms o) there))

pub object_past : (v : Inner) (n : ℕ) (t : CType) (fixed : Bool) → slice_get v.objects n ≡ None → seen v ≡ note_object n t fixed (seen v)
unfolding seen
object_past v n t fixed h =
    let there : slice_get (map (object_of v.table.terms) v.objects) n ≡ None = slice_get-map (object_of v.table.terms) v.objects n ∙ ap (option_map (object_of v.table.terms)) h in
    sym (object_missing (seen v) n t fixed there)

pub object_added : (v : Inner) (t : TypeId) (local : Option ℕ) → type_at v.table.terms t.0 ≡ Void
    → seen (record v { objects = v.objects ++ (record { ty = t; local = local; is_defined = false }) ∷ [] }) ≡ record (seen v) { objects = (seen v).objects ++ without_type local ∷ [] }
unfolding seen
object_added v t local is = rw (map-append (object_of v.table.terms) v.objects (record { ty = t; local = local; is_defined = false } ∷ []), is)

-- ---- names

minus_one : (n : ℕ) → n - 1 ≡ pred n
minus_one zero = refl
minus_one (suc n) = simp unary_clauses

pub names_gone : (v : Inner) (names : List NameEntry) (d : ℕ) → names ≡ names_left v.depth v.names → d ≡ v.depth - 1 → seen (record v { names = names; depth = d }) ≡ leave (seen v)
unfolding seen
names_gone v names d e f = rw (e, f, minus_one v.depth, left_same v.table.terms v.depth v.names)

pub names_sound : (v : Inner) (names : List NameEntry) (d : ℕ) → IsSound v → NamesBelow (length v.table.terms) names → IsSound (record v { names = names; depth = d })
names_sound v names d s b = record {
  names_below = b;
  tags_below = s.tags_below;
  layouts = s.layouts;
  members = s.members;
  unfinished = s.unfinished;
  record_types = s.record_types;
  records = s.records;
  enums = s.enums;
  objects_below = s.objects_below;
  functions_below = s.functions_below;
  types_below = s.types_below;
  targets_below = s.targets_below;
}
