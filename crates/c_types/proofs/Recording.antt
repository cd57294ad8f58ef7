-- What the calls of a table do to its records, their members' types as trees.
use Rattle.std.proofs.Common.{◌≡◌, ℕ, zero, suc, ◌<◌, Bool, List, [], ◌∷◌, ◌++◌, length, map, Option, Some, None, slice_set, refl, ap}
use Rattle.std.specs.List.{AllByRecursion}
use Rattle.std.proofs.lemmas.List.Elements.{recursion_from_All}
use Rattle.std.specs.Prelude.{unwrap_or}
use Rattle.std.specs.Option.{option_map}
use Rattle.c_types.specs.CTypes.{CType, record_of}
use Rattle.c_types.specs.Members.{names_in}
use Rattle.c_types.specs.Records.{with_declared, with_finished, members_at, members_of}
use Rattle.c_types.specs.Table.{Table, type_at, Grows, MembersBelow, AllMembersBelow, member_of, member_types, records_of, finished}
use Rattle.c_types.specs.RecordSteps.{HasMemberTypes}
use Rattle.c_types.specs.declared.records.Member.{Member}
use Rattle.c_types.specs.declared.terms.Term.{Term}
use Rattle.c_types.proofs.Shaping.{members_weaker, members_push, members_set}

-- members whose types are in the smaller table mean the same in the greater one
same_from : (old new : List Term) (ms : List Member) → Grows old new → AllByRecursion (λ m. m.ty.0 < length old) ms → map (member_of new) ms ≡ map (member_of old) ms
same_from old new [] g all = refl
same_from old new (m ∷ ms) g all =
    let e : member_of new m ≡ member_of old m = ap (λ t. record { name = m.name; type = t }) (g.same m.ty.0 all.0) in
    cc (e, same_from old new ms g all.1)

same_members : (old new : List Term) (mss : List (List Member)) → Grows old new → AllMembersBelow (length old) mss → map (map (member_of new)) mss ≡ map (map (member_of old)) mss
same_members old new [] g all = refl
same_members old new (ms ∷ mss) g all =
    cc (same_from old new ms g (recursion_from_All (λ m. m.ty.0 < length old) ms (all 0 ms refl)), same_members old new mss g (λ k ns e. all (suc k) ns e))

map_more : {A B : Type 0} (f : A → B) (xs : List A) (x : A) → map f (xs ++ x ∷ []) ≡ map f xs ++ f x ∷ []
map_more f [] x = refl
map_more f (y ∷ ys) x = ap (λ zs. f y ∷ zs) (map_more f ys x)

map_set : {A B : Type 0} (f : A → B) (xs : List A) (k : ℕ) (x : A) → map f (slice_set xs k x) ≡ slice_set (map f xs) k (f x)
map_set f [] k x = refl
map_set f (y ∷ ys) zero x = refl
map_set f (y ∷ ys) (suc k) x = ap (λ zs. f y ∷ zs) (map_set f ys k x)

-- the types of members that are seen as trees
types_of_members : (ts : List Term) (ms : List Member) → map (λ m. m.type) (map (member_of ts) ms) ≡ member_types ts ms
types_of_members ts [] = refl
types_of_members ts (m ∷ ms) = ap (λ us. type_at ts m.ty.0 ∷ us) (types_of_members ts ms)

pub empty_has_types : (t : Table) → t.members ≡ [] → HasMemberTypes t
empty_has_types t e = rw e (λ k ms at. cc)

pub records_stay : (old new : Table) → HasMemberTypes old → Grows old.terms new.terms → new.records ≡ old.records → new.layouts ≡ old.layouts → new.members ≡ old.members → (records_of new ≡ records_of old) × HasMemberTypes new
records_stay old new has g heads layouts members =
    (rw (heads, layouts, members, same_members old.terms new.terms old.members g has) refl, rw members (members_weaker (length old.terms) (length new.terms) old.members g.longer has))

pub record_declared : (old new : Table) (is_union : Bool) (name : List ℕ) → HasMemberTypes old → Grows old.terms new.terms → new.records ≡ old.records ++ record { is_union = is_union; name = name } ∷ [] → new.layouts ≡ old.layouts ++ None ∷ [] → new.members ≡ old.members ++ [] ∷ []
    → (records_of new ≡ with_declared is_union name (records_of old)) × HasMemberTypes new
record_declared old new is_union name has g heads layouts members = (
  rw (heads, layouts, members, map_more (map (member_of new.terms)) old.members [], same_members old.terms new.terms old.members g has) refl,
  rw members (members_push (length new.terms) old.members (members_weaker (length old.terms) (length new.terms) old.members g.longer has)),
)

pub record_finished : (old new : Table) (k : ℕ) (ms : List Member) → HasMemberTypes old → MembersBelow (length old.terms) ms → new ≡ finished old k ms → (records_of new ≡ with_finished k (map (member_of old.terms) ms) (records_of old)) × HasMemberTypes new
record_finished old new k ms has below e =
    rw e (
      rw (map_set (map (member_of old.terms)) old.members k ms, types_of_members old.terms ms) refl,
      members_set (length old.terms) k old.members ms has below,
    )

-- members by a record's number, seen as trees

at_map : {A B : Type 0} (f : A → B) (mss : List (List A)) (k : ℕ) → members_at (map (map f) mss) k ≡ map f (members_at mss k)
at_map f [] k = refl
at_map f (ms ∷ mss) zero = refl
at_map f (ms ∷ mss) (suc k) = at_map f mss k

of_map : {A B : Type 0} (f : A → B) (mss : List (List A)) (o : Option ℕ) → unwrap_or (option_map (members_at (map (map f) mss)) o) [] ≡ map f (unwrap_or (option_map (members_at mss) o) [])
of_map f mss None = refl
of_map f mss (Some k) = at_map f mss k

pub members_are_seen : (table : Table) (t : CType) → members_of (records_of table).members t ≡ map (member_of table.terms) (members_of table.members t)
members_are_seen table t = of_map (member_of table.terms) table.members (record_of t)

pub names_are_seen : (ts : List Term) (ms : List Member) → map (λ m. m.name) (map (member_of ts) ms) ≡ names_in ms
names_are_seen ts [] = refl
names_are_seen ts (m ∷ ms) = ap (λ ns. m.name ∷ ns) (names_are_seen ts ms)
