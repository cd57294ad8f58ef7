-- Records and enumerations by their numbers, and the members of a record.
use Rattle.std.proofs.Common.{◌≡◌, ◌⊎◌, inl, inr, ℕ, zero, suc, ◌<◌, ◌≤◌, Bool, true, false, not, List, [], ◌∷◌, ◌++◌, length, map, get_or, slice_get, slice_set, Option, Some, None, is_some, option_map, option_and_then, unwrap_or, Result, Ok, Err, OnOk, OnErr, nat_eq, if◌then◌else◌, ◌==◌, refl, sym, ◌∙◌, ap, arith, length-append}
use Rattle.std.proofs.lemmas.List.Elements.{recursion_from_All, All-from_recursion}
use Rattle.std.specs.Cmp.Lexicographic.{pointwise}
use Rattle.name_places.specs.Placed.{place_of}
use Rattle.c_types.specs.CTypes as c
use Rattle.c_types.specs.CTypes.{CType, record_of}
use Rattle.c_types.specs.Layout.{layout_at}
use Rattle.c_types.specs.Members.{names_in}
use Rattle.c_types.specs.Plain.{plain}
use Rattle.c_types.specs.Records.{is_finished, finished_by, offset_at, members_at, members_of, member_in, with_declared, with_finished, is_open, is_open_slot}
use Rattle.c_types.specs.Table.{Table, type_at, Grows, MembersBelow, member_of, records_of, finished}
use Rattle.c_types.specs.declared.records.Layout.{Layout}
use Rattle.c_types.specs.declared.records.Member.{Member}
use Rattle.c_types.specs.declared.terms.Term.{Term}
use Rattle.c_types.specs.declared.terms.TypeId.{TypeId}
use Rattle.c_types.proofs.Growing.{grows_self}
use Rattle.c_types.proofs.Keeping.{present}
use Rattle.c_types.proofs.Recording.{records_stay, record_declared, record_finished}
use Rattle.c_types.proofs.Sounding.{get_more, length_set}
use Rattle.c_rules.specs.Expressions as expressions
use Rattle.c_rules.specs.Forms as forms
use Rattle.c_rules.specs.Walk as walk
use Rattle.c_rules.specs.Names.{is_tag_of, tag_number}
use Rattle.c_rules.specs.Walk.{tag_sort, new_tag, is_open_enum, finish_enum, is_unfinished, is_enumeration, record_tag, enum_tag, number_or}
use Rattle.c_rules.specs.World.{World, Tag, EnumOf, find_tag}
use Rattle.c_rules.specs.declared.known.TagSort.{TagSort}
use Rattle.c_world.specs.declared.tags.TagEntry.{TagEntry}
use Rattle.c_world.specs.Extends.{Extends}
use Rattle.c_world.specs.Inner.{Inner, IsSound, TagBelow, TagsBelow, AreOpen, AreRecordTypes}
use Rattle.c_world.specs.Seen.{seen, enums_of, member_named}
use Rattle.c_world.specs.Tags.{entry_of}
use Rattle.c_world.proofs.Heads.{same, equal}
use Rattle.c_world.proofs.Sound.{seen_with, sound_with, record_types_up, set_past}

-- ---- enumerations

pub enum_more : (ns : List (List ℕ)) (bs : List Bool) (n : List ℕ) → length bs ≡ length ns → enums_of (ns ++ n ∷ []) (bs ++ false ∷ []) ≡ enums_of ns bs ++ record { name = n; is_defined = false } ∷ []
enum_more [] [] n h = refl
enum_more [] (b ∷ bs) n h = absurd (omega arith)
enum_more (m ∷ ns) [] n h = absurd (omega arith)
enum_more (m ∷ ns) (b ∷ bs) n h = ap (λ es. record { name = m; is_defined = b } ∷ es) (enum_more ns bs n (omega arith))

pub enums_long : (ns : List (List ℕ)) (bs : List Bool) → length bs ≡ length ns → length (enums_of ns bs) ≡ length ns
enums_long [] bs h = refl
enums_long (m ∷ ns) [] h = absurd (omega arith)
enums_long (m ∷ ns) (b ∷ bs) h = ap suc (enums_long ns bs (omega arith))

enum_slot : (ns : List (List ℕ)) (bs : List Bool) (k : ℕ) → length bs ≡ length ns → option_map (λ e. e.is_defined) (slice_get (enums_of ns bs) k) ≡ slice_get bs k
enum_slot [] [] k h = refl
enum_slot [] (b ∷ bs) k h = absurd (omega arith)
enum_slot (m ∷ ns) [] k h = absurd (omega arith)
enum_slot (m ∷ ns) (b ∷ bs) zero h = refl
enum_slot (m ∷ ns) (b ∷ bs) (suc k) h = enum_slot ns bs k (omega arith)

abbrev pub open_by : Option Bool → Bool
open_by None = false
open_by (Some d) = not d

open_at : (w : World) (n : ℕ) (s : Option EnumOf) → slice_get w.enums n ≡ s → is_open_enum w n ≡ open_by (option_map (λ e. e.is_defined) s)
open_at w n None h = rw h
open_at w n (Some e) h = rw h

pub open_enum_is : (v : Inner) (n : ℕ) → length v.defined ≡ length v.table.enums → open_by (slice_get v.defined n) ≡ is_open_enum (seen v) n
unfolding seen
open_enum_is v n h = ap open_by (sym (enum_slot v.table.enums v.defined n h)) ∙ sym (open_at (seen v) n (slice_get (enums_of v.table.enums v.defined) n) refl)

abbrev pub set_slot : List EnumOf → ℕ → Option EnumOf → List EnumOf
set_slot es n None = es
set_slot es n (Some e) = slice_set es n (record e { is_defined = true })

behind : (x : EnumOf) (es : List EnumOf) (k : ℕ) (s : Option EnumOf) → x ∷ set_slot es k s ≡ set_slot (x ∷ es) (suc k) s
behind x es k None = refl
behind x es k (Some e) = refl

enum_set : (ns : List (List ℕ)) (bs : List Bool) (k : ℕ) → enums_of ns (slice_set bs k true) ≡ set_slot (enums_of ns bs) k (slice_get (enums_of ns bs) k)
enum_set [] bs k = refl
enum_set (m ∷ ns) [] k = refl
enum_set (m ∷ ns) (b ∷ bs) zero = refl
enum_set (m ∷ ns) (b ∷ bs) (suc k) = ap (λ es. record { name = m; is_defined = b } ∷ es) (enum_set ns bs k) ∙ behind (record { name = m; is_defined = b }) (enums_of ns bs) k (slice_get (enums_of ns bs) k)

finish_at : (w : World) (n : ℕ) (s : Option EnumOf) → slice_get w.enums n ≡ s → finish_enum n w ≡ record w { enums = set_slot w.enums n s }
finish_at w n None h = rw h
finish_at w n (Some e) h = rw h

pub enum_finished : (v : Inner) (n : ℕ) → seen (record v { defined = slice_set v.defined n true }) ≡ finish_enum n (seen v)
unfolding seen
enum_finished v n = rw (enum_set v.table.enums v.defined n) (sym (finish_at (seen v) n (slice_get (enums_of v.table.enums v.defined) n) refl))

pub enum_past : (v : Inner) (n : ℕ) → length v.defined ≤ n → seen v ≡ finish_enum n (seen v)
enum_past v n h = ap (λ ds. seen (record v { defined = ds })) (sym (set_past v.defined n true h)) ∙ enum_finished v n

-- an enumeration is declared
pub enum_seen : (v : Inner) (t : Table) (name : List ℕ) → Grows v.table.terms t.terms → t.records ≡ v.table.records → t.layouts ≡ v.table.layouts → t.members ≡ v.table.members → t.enums ≡ v.table.enums ++ name ∷ [] → IsSound v
    → seen (record v { table = t; defined = v.defined ++ false ∷ [] }) ≡ record (seen v) { enums = (seen v).enums ++ record { name = name; is_defined = false } ∷ [] }
unfolding seen
enum_seen v t name g r l m e s =
    let more : enums_of t.enums (v.defined ++ false ∷ []) ≡ enums_of v.table.enums v.defined ++ record { name = name; is_defined = false } ∷ [] = rw e (enum_more v.table.enums v.defined name s.enums) in
    let stay : records_of t ≡ records_of v.table = (records_stay v.table t s.members g r l m).0 in
    seen_with v t v.record_types (v.defined ++ false ∷ []) g s ∙ cc

pub enum_sound : (v : Inner) (t : Table) (name : List ℕ) → Grows v.table.terms t.terms → t.records ≡ v.table.records → t.layouts ≡ v.table.layouts → t.members ≡ v.table.members → t.enums ≡ v.table.enums ++ name ∷ [] → IsSound v
    → IsSound (record v { table = t; defined = v.defined ++ false ∷ [] })
enum_sound v t name g r l m e s =
    let rl : length t.records ≡ length v.table.records = ap length r in
    let el : length t.enums ≡ suc (length v.table.enums) = ap length e ∙ length-append v.table.enums (name ∷ []) ∙ omega arith in
    let dl : length (v.defined ++ false ∷ []) ≡ suc (length v.defined) = length-append v.defined (false ∷ []) ∙ omega arith in
    let de = s.enums in
    sound_with v t v.record_types (v.defined ++ false ∷ []) g s (omega arith) (omega arith) (ap length l ∙ s.layouts ∙ sym rl)
    (records_stay v.table t s.members g r l m).1 (rw (l, m) s.unfinished) (record_types_up v.table.terms t.terms v.record_types g s.record_types) (s.records ∙ sym rl) (omega arith)

-- ---- records

pub types_more : (s t : List Term) (is : List TypeId) (i : TypeId) → Grows s t → AreRecordTypes s is → i.0 < length t → type_at t i.0 ≡ c.Record (length is) → AreRecordTypes t (is ++ i ∷ [])
types_more s t is i g all low is_one k j e = elim (get_more is i j k e) [
  | inl p ↦ record_types_up s t is g all k j p.1
  | inr p ↦ rw (p.0, sym p.1) (low, is_one)
]

pub type_of_record : (ts : List Term) (is : List TypeId) (k : ℕ) (d : TypeId) → k < length is → AreRecordTypes ts is → ((get_or is k d).0 < length ts) × (type_at ts (get_or is k d).0 ≡ c.Record k)
type_of_record ts is k d h all = all k (get_or is k d) (present is k d h)

layout_more : (ls : List (Option Layout)) (k : ℕ) → layout_at (ls ++ None ∷ []) k ≡ layout_at ls k
layout_more [] zero = refl
layout_more [] (suc k) = refl
layout_more (l ∷ ls) zero = refl
layout_more (l ∷ ls) (suc k) = layout_more ls k

members_more : (mss : List (List Member)) (k : ℕ) → members_at (mss ++ [] ∷ []) k ≡ members_at mss k
members_more [] zero = refl
members_more [] (suc k) = refl
members_more (ms ∷ mss) zero = refl
members_more (ms ∷ mss) (suc k) = members_more mss k

open_more : (ls : List (Option Layout)) (mss : List (List Member)) → AreOpen ls mss → AreOpen (ls ++ None ∷ []) (mss ++ [] ∷ [])
open_more ls mss all k e = members_more mss k ∙ all k (sym (layout_more ls k) ∙ e)

set_here : (ls : List (Option Layout)) (k : ℕ) (l : Layout) → k < length ls → layout_at (slice_set ls k (Some l)) k ≡ Some l
set_here [] k l h = absurd (omega arith)
set_here (x ∷ ls) zero l h = refl
set_here (x ∷ ls) (suc k) l h = set_here ls k l (omega arith)

set_other : {A : Type 0} (xs : List A) (k j : ℕ) (x : A) → (j ≡ k → ⊥) → slice_get (slice_set xs k x) j ≡ slice_get xs j
set_other [] k j x n = refl
set_other (y ∷ ys) zero zero x n = absurd (n refl)
set_other (y ∷ ys) zero (suc j) x n = refl
set_other (y ∷ ys) (suc k) zero x n = refl
set_other (y ∷ ys) (suc k) (suc j) x n = set_other ys k j x (λ e. n (ap suc e))

alike_or : (j k : ℕ) → (j ≡ k) ⊎ (j ≡ k → ⊥)
alike_or zero zero = inl refl
alike_or zero (suc k) = inr (λ e. cc)
alike_or (suc j) zero = inr (λ e. cc)
alike_or (suc j) (suc k) = elim (alike_or j k) [ inl e ↦ inl (ap suc e) | inr n ↦ inr (λ e. n (omega arith)) ]

open_set : (ls : List (Option Layout)) (mss : List (List Member)) (k : ℕ) (l : Layout) (ms : List Member) → k < length ls → AreOpen ls mss → AreOpen (slice_set ls k (Some l)) (slice_set mss k ms)
open_set ls mss k l ms h all j e = elim (alike_or j k) [
  | inl s ↦ let there : layout_at (slice_set ls k (Some l)) j ≡ Some l = rw s (set_here ls k l h) in absurd (cc)
  | inr n ↦
      ap (λ o. unwrap_or o []) (set_other mss k j ms n)
      ∙ all j (ap (λ (o : Option (Option Layout)). option_and_then (λ p. p) o) (sym (set_other ls k j (Some l) n)) ∙ e)
]

-- a record is declared
pub record_seen : (v : Inner) (t : Table) (is_union : Bool) (name : List ℕ) (i : TypeId) → Grows v.table.terms t.terms → t.records ≡ v.table.records ++ record { is_union = is_union; name = name } ∷ [] → t.layouts ≡ v.table.layouts ++ None ∷ [] → t.members ≡ v.table.members ++ [] ∷ [] → t.enums ≡ v.table.enums → IsSound v
    → seen (record v { table = t; record_types = v.record_types ++ i ∷ [] }) ≡ record (seen v) { records = with_declared is_union name (seen v).records }
unfolding seen
record_seen v t is_union name i g r l m e s =
    let more : records_of t ≡ with_declared is_union name (records_of v.table) = (record_declared v.table t is_union name s.members g r l m).0 in
    seen_with v t (v.record_types ++ i ∷ []) v.defined g s ∙ cc

pub record_sound : (v : Inner) (t : Table) (is_union : Bool) (name : List ℕ) (i : TypeId) → Grows v.table.terms t.terms → t.records ≡ v.table.records ++ record { is_union = is_union; name = name } ∷ [] → t.layouts ≡ v.table.layouts ++ None ∷ [] → t.members ≡ v.table.members ++ [] ∷ [] → t.enums ≡ v.table.enums
    → i.0 < length t.terms → type_at t.terms i.0 ≡ c.Record (length v.table.records) → IsSound v
    → IsSound (record v { table = t; record_types = v.record_types ++ i ∷ [] })
record_sound v t is_union name i g r l m e low is_one s =
    let rl : length t.records ≡ suc (length v.table.records) = ap length r ∙ length-append v.table.records (record { is_union = is_union; name = name } ∷ []) ∙ omega arith in
    let ll : length t.layouts ≡ suc (length v.table.layouts) = ap length l ∙ length-append v.table.layouts (None ∷ []) ∙ omega arith in
    let il : length (v.record_types ++ i ∷ []) ≡ suc (length v.record_types) = length-append v.record_types (i ∷ []) ∙ omega arith in
    let el : length t.enums ≡ length v.table.enums = ap length e in
    let lays = s.layouts in
    let long = s.records in
    let defined = s.enums in
    sound_with v t (v.record_types ++ i ∷ []) v.defined g s (omega arith) (omega arith) (omega arith)
    (record_declared v.table t is_union name s.members g r l m).1 (rw (l, m) (open_more v.table.layouts v.table.members s.unfinished))
    (types_more v.table.terms t.terms v.record_types i g s.record_types low (is_one ∙ ap c.Record (sym long))) (omega arith) (omega arith)

-- a record is finished
unfinished_slot : (ls : List (Option Layout)) (k : ℕ) → k < length ls → not (is_some (layout_at ls k)) ≡ true → is_open_slot (slice_get ls k) ≡ true
unfinished_slot [] k h u = absurd (omega arith)
unfinished_slot (None ∷ ls) zero h u = refl
unfinished_slot (Some l ∷ ls) zero h u = absurd (cc)
unfinished_slot (x ∷ ls) (suc k) h u = unfinished_slot ls k (omega arith) u

pub unfinished_is : (v : Inner) (k : ℕ) (t : CType) → k < length v.table.records → IsSound v → is_unfinished (seen v) k ≡ true → t ≡ c.Record k → is_open v.table.layouts t ≡ true
unfolding seen
unfinished_is v k t h s u e =
    let lays = s.layouts in
    rw e (unfinished_slot v.table.layouts k (omega arith) u)

pub finished_seen : (v : Inner) (t : Table) (k : ℕ) (ms : List Member) → MembersBelow (length v.table.terms) ms → t ≡ finished v.table k ms → IsSound v → seen (record v { table = t }) ≡ walk.finish_record k (map (member_of v.table.terms) ms) (seen v)
unfolding seen
finished_seen v t k ms below e s =
    let done : records_of t ≡ with_finished k (map (member_of v.table.terms) ms) (records_of v.table) = (record_finished v.table t k ms s.members below e).0 in
    let g : Grows v.table.terms t.terms = rw e (grows_self v.table.terms) in
    let enums : t.enums ≡ v.table.enums = rw e refl in
    seen_with v t v.record_types v.defined g s ∙ cc

pub finished_sound : (v : Inner) (t : Table) (k : ℕ) (ms : List Member) → k < length v.table.records → MembersBelow (length v.table.terms) ms → t ≡ finished v.table k ms → IsSound v → IsSound (record v { table = t })
finished_sound v t k ms h below e s =
    let g : Grows v.table.terms t.terms = rw e (grows_self v.table.terms) in
    let rl : length t.records ≡ length v.table.records = rw e refl in
    let el : length t.enums ≡ length v.table.enums = rw e refl in
    let lays = s.layouts in
    let long = s.records in
    let defined = s.enums in
    sound_with v t v.record_types v.defined g s (omega arith) (omega arith) (rw e (length_set v.table.layouts k _ ∙ s.layouts))
    (record_finished v.table t k ms s.members below e).1 (rw e (open_set v.table.layouts v.table.members k _ ms (omega arith) s.unfinished))
    (record_types_up v.table.terms t.terms v.record_types g s.record_types) (omega arith) (omega arith)

pub finished_extends : (a b : Table) (k : ℕ) (ms : List Member) → b ≡ finished a k ms → Extends a b
finished_extends a b k ms e = rw e (record { grows = grows_self a.terms; records = omega arith; enums = omega arith })

-- what both outcomes give
pub either : {A E : Type 0} (r : Result A E) (P Q R : Type 0) → (P → R) → (Q → R) → OnOk r P → OnErr r Q → R
either (Ok x) P Q R f g p q = f p
either (Err x) P Q R f g p q = g q

-- ---- members

members_map : {A B : Type 0} (f : A → B) (mss : List (List A)) (k : ℕ) → members_at (map (map f) mss) k ≡ map f (members_at mss k)
members_map f [] k = refl
members_map f (ms ∷ mss) zero = refl
members_map f (ms ∷ mss) (suc k) = members_map f mss k

of_map : {A B : Type 0} (f : A → B) (mss : List (List A)) (r : Option ℕ) → unwrap_or (option_map (members_at (map (map f) mss)) r) [] ≡ map f (unwrap_or (option_map (members_at mss) r) [])
of_map f mss None = refl
of_map f mss (Some k) = members_map f mss k

names_map : (ts : List Term) (ms : List Member) → map (λ m. m.name) (map (member_of ts) ms) ≡ names_in ms
names_map ts [] = refl
names_map ts (m ∷ ms) = ap (λ ns. m.name ∷ ns) (names_map ts ms)

behind_names : (w : World) (t : CType) (n : List ℕ) → expressions.member_of w (plain t) n ≡ member_in n (members_of w.records.members t)
behind_names w c.Void n = refl
behind_names w (c.Int kind) n = refl
behind_names w (c.Enum e) n = refl
behind_names w (c.Pointer t) n = refl
behind_names w (c.Array t k) n = refl
behind_names w (c.Flexible t) n = refl
behind_names w (c.Function t ps) n = refl
behind_names w (c.Record k) n = refl
behind_names w (c.Named m t) n = behind_names w t n
behind_names w (c.Qualified q t) n = behind_names w t n

abbrev pub IsNamed : List Term → List ℕ → List Member → ℕ → Type 0
IsNamed ts n ms p = option_map (member_named ts n) (option_map (λ m. m.ty) (slice_get ms p)) ≡ slice_get (map (member_of ts) ms) p

later_named : (ts : List Term) (n : List ℕ) (m : Member) (ms : List Member) (p : ℕ) (o : Option ℕ) → ((q : ℕ) → o ≡ Some q → IsNamed ts n ms q) → option_map suc o ≡ Some p → IsNamed ts n (m ∷ ms) p
later_named ts n m ms p None h f = absurd (cc)
later_named ts n m ms p (Some q) h f = let at : p ≡ suc q = cc in rw at (h q refl)

named_by : (ts : List Term) (n : List ℕ) (m : Member) (ms : List Member) (p : ℕ) (b : Bool) (o : Option ℕ) → pointwise nat_eq n m.name ≡ b → ((q : ℕ) → o ≡ Some q → IsNamed ts n ms q)
    → (if b then Some 0 else option_map suc o) ≡ Some p → IsNamed ts n (m ∷ ms) p
named_by ts n m ms p true o s h f = let at : p ≡ 0 = cc in rw at (ap (λ x. Some (member_named ts x m.ty)) (equal n m.name (sym (same n m.name) ∙ s)))
named_by ts n m ms p false o s h f = later_named ts n m ms p o h f

one_named : (ts : List Term) (n : List ℕ) (ms : List Member) (p : ℕ) → place_of n (names_in ms) ≡ Some p → IsNamed ts n ms p
one_named ts n [] p e = absurd (cc)
one_named ts n (m ∷ ms) p e = named_by ts n m ms p (pointwise nat_eq n m.name) (place_of n (names_in ms)) refl (λ q f. one_named ts n ms q f) e

module _ (v : Inner) (t : CType) (n : List ℕ) where
  -- the members as trees
  pub seen_members : members_of (seen v).records.members t ≡ map (member_of v.table.terms) (members_of v.table.members t)
  unfolding seen
  seen_members = of_map (member_of v.table.terms) v.table.members (record_of t)

  seen_names : map (λ m. m.name) (members_of (seen v).records.members t) ≡ names_in (members_of v.table.members t)
  seen_names = ap (map (λ m. m.name)) seen_members ∙ names_map v.table.terms (members_of v.table.members t)

  looked_up : expressions.member_of (seen v) (plain t) n ≡ option_and_then (λ i. slice_get (map (member_of v.table.terms) (members_of v.table.members t)) i) (place_of n (names_in (members_of v.table.members t)))
  looked_up = behind_names (seen v) t n
      ∙ ap (λ ms. option_and_then (λ i. slice_get ms i) (place_of n (map (λ m. m.name) (members_of (seen v).records.members t)))) seen_members
      ∙ ap (λ ns. option_and_then (λ i. slice_get (map (member_of v.table.terms) (members_of v.table.members t)) i) (place_of n ns)) seen_names

  pub member_missing : place_of n (names_in (members_of v.table.members t)) ≡ None → None ≡ expressions.member_of (seen v) (plain t) n
  member_missing e = sym (looked_up ∙ ap (option_and_then (λ i. slice_get (map (member_of v.table.terms) (members_of v.table.members t)) i)) e)

  pub member_found : (p : ℕ) → place_of n (names_in (members_of v.table.members t)) ≡ Some p
      → option_map (member_named v.table.terms n) (option_map (λ m. m.ty) (slice_get (members_of v.table.members t) p)) ≡ expressions.member_of (seen v) (plain t) n
  member_found p e = one_named v.table.terms n (members_of v.table.members t) p e
      ∙ sym (looked_up ∙ ap (option_and_then (λ i. slice_get (map (member_of v.table.terms) (members_of v.table.members t)) i)) e)

  pub offset_missing : place_of n (names_in (members_of v.table.members t)) ≡ None → 0 ≡ forms.offset_of (seen v) t n
  offset_missing e = sym (ap (λ o. unwrap_or (option_map (λ i. offset_at (seen v).records.layouts t i) o) 0) (ap (place_of n) seen_names ∙ e))

  pub offset_found : (p : ℕ) → place_of n (names_in (members_of v.table.members t)) ≡ Some p → offset_at v.table.layouts t p ≡ forms.offset_of (seen v) t n
  unfolding seen
  offset_found p e = sym (ap (λ o. unwrap_or (option_map (λ i. offset_at (seen v).records.layouts t i) o) 0) (ap (place_of n) seen_names ∙ e))

  -- one that isn't finished has none
  pub none_given : IsSound v → is_finished v.table.layouts t ≡ false → members_of v.table.members t ≡ []
  none_given s e = by (record_of t) e
    where
      open_at_k : (k : ℕ) (o : Option Layout) → layout_at v.table.layouts k ≡ o → is_some o ≡ false → members_at v.table.members k ≡ []
      open_at_k k None h f = s.unfinished k h
      open_at_k k (Some l) h f = absurd (cc)

      by : (r : Option ℕ) → finished_by v.table.layouts r ≡ false → unwrap_or (option_map (members_at v.table.members) r) [] ≡ []
      by None f = refl
      by (Some k) f = open_at_k k (layout_at v.table.layouts k) refl f

  pub none_placed : IsSound v → is_finished v.table.layouts t ≡ false → place_of n (names_in (members_of v.table.members t)) ≡ None
  none_placed s e = ap (λ ms. place_of n (names_in ms)) (none_given s e)

-- ---- tags

pub record_tag_below : (is_union : Bool) (records enums k : ℕ) → k < records → TagBelow records enums (tag_sort is_union) k
record_tag_below true records enums k h = h
record_tag_below false records enums k h = h

there_by : (w : World) (s : TagSort) (k : ℕ) (n : List ℕ) (x : TagEntry) (o : Option Tag) → find_tag n w.tags ≡ o → Some x ≡ option_map entry_of o → w ≡ new_tag s k (Some n) w
there_by w s k n x None e f = absurd (cc)
there_by w s k n x (Some t) e f = rw e

new_by : (w : World) (s : TagSort) (k : ℕ) (n : List ℕ) → find_tag n w.tags ≡ None → record w { tags = record { name = n; sort = s; number = k } ∷ w.tags } ≡ new_tag s k (Some n) w
new_by w s k n e = rw e

pub tag_there : (v : Inner) (s : TagSort) (k : ℕ) (n : List ℕ) (x : TagEntry) → Some x ≡ option_map entry_of (find_tag n v.tags) → seen v ≡ new_tag s k (Some n) (seen v)
unfolding seen
tag_there v s k n x h = there_by (seen v) s k n x (find_tag n v.tags) refl h

pub tag_new : (v : Inner) (s : TagSort) (k : ℕ) (n : List ℕ) → find_tag n v.tags ≡ None → seen (record v { tags = record { name = n; sort = s; number = k } ∷ v.tags }) ≡ new_tag s k (Some n) (seen v)
unfolding seen
tag_new v s k n e = new_by (seen v) s k n e

pub seen_tags : (v : Inner) → (seen v).tags ≡ v.tags
unfolding seen
seen_tags v = refl

pub tags_more : (r e : ℕ) (t : Tag) (ts : List Tag) → TagBelow r e t.sort t.number → TagsBelow r e ts → TagsBelow r e (t ∷ ts)
tags_more r e t ts h all = All-from_recursion (λ x. TagBelow r e x.sort x.number) (t ∷ ts) (h, recursion_from_All _ ts all)

-- ---- what is found of a tag

pub map_none : {A B : Type 0} (f : A → B) (o : Option A) → None ≡ option_map f o → o ≡ None
map_none f None h = refl
map_none f (Some t) h = absurd (cc)

pub map_some : {A B : Type 0} (f : A → B) (o : Option A) (x : B) → Some x ≡ option_map f o → is_some o ≡ true
map_some f None x h = absurd (cc)
map_some f (Some t) x h = refl

pub number_there : (k : ℕ) (o : Option Tag) (x : ℕ) → Some x ≡ option_map (λ t. t.number) o → x ≡ number_or k o
number_there k None x h = absurd (cc)
number_there k (Some t) x h = cc

pub sort_found : (s : TagSort) (o : Option Tag) (x : TagEntry) → Some x ≡ option_map entry_of o → (tag_number s == tag_number x.sort) ≡ is_tag_of s o
sort_found s None x h = absurd (cc)
sort_found s (Some t) x h = let e : x ≡ entry_of t = cc in rw e

pub record_here : (o : Option Tag) (x : TagEntry) → Some x ≡ option_map entry_of o → is_enumeration x.sort ≡ false → Some x.number ≡ option_map (λ t. t.number) (record_tag o)
record_here None x h n = absurd (cc)
record_here (Some t) x h n =
    let e : x ≡ entry_of t = cc in
    let m : is_enumeration t.sort ≡ false = rw e at n in
    rw (e, m)

pub record_other : (o : Option Tag) (x : TagEntry) → Some x ≡ option_map entry_of o → is_enumeration x.sort ≡ true → None ≡ option_map (λ t. t.number) (record_tag o)
record_other None x h n = absurd (cc)
record_other (Some t) x h n =
    let e : x ≡ entry_of t = cc in
    let m : is_enumeration t.sort ≡ true = rw e at n in
    rw m

pub enum_here : (o : Option Tag) (x : TagEntry) → Some x ≡ option_map entry_of o → is_enumeration x.sort ≡ true → Some x.number ≡ option_map (λ t. t.number) (enum_tag o)
enum_here None x h n = absurd (cc)
enum_here (Some t) x h n =
    let e : x ≡ entry_of t = cc in
    let m : is_enumeration t.sort ≡ true = rw e at n in
    rw (e, m)

pub enum_other : (o : Option Tag) (x : TagEntry) → Some x ≡ option_map entry_of o → is_enumeration x.sort ≡ false → None ≡ option_map (λ t. t.number) (enum_tag o)
enum_other None x h n = absurd (cc)
enum_other (Some t) x h n =
    let e : x ≡ entry_of t = cc in
    let m : is_enumeration t.sort ≡ false = rw e at n in
    rw m
