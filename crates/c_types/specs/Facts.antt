-- What is kept of a type when it is made.
use Rattle.std.specs.Prelude.{◌≡◌, ◌<◌, IfSome, ℕ, List, Bool, false, ◌||◌, Option, Some, None, unwrap_or}
use Rattle.std.specs.Option.{option_map}
use Rattle.c_types.specs.CTypes.{CType, record_of, is_flexible}
use Rattle.c_types.specs.Layout.{layout_at, size, align}
use Rattle.c_types.specs.Consts.{is_const, record_held}
use Rattle.c_types.specs.Pointers.{contains_pointer}
use Rattle.c_types.specs.Records.{limit}
use Rattle.c_types.specs.declared.records.Layout.{Layout}
use Rattle.c_types.specs.declared.facts.Facts.{Facts}

-- records that were finished stay as they were
pub record Extends (old new : List (Option Layout)) : Type 0 where
  pub keeps : (k : ℕ) (l : Layout) → layout_at old k ≡ Some l → layout_at new k ≡ Some l

-- what the facts say over the records: a record type, also behind names and qualifiers, has its record's layout
abbrev pub size_by : List (Option Layout) → Option ℕ → Option ℕ → Option ℕ
size_by ls (Some k) known = option_map (λ l. l.size) (layout_at ls k)
size_by ls None known = known

abbrev pub align_by : List (Option Layout) → Option ℕ → Option ℕ → Option ℕ
align_by ls (Some k) known = option_map (λ l. l.align) (layout_at ls k)
align_by ls None known = known

abbrev pub pointer_by : List (Option Layout) → Option ℕ → Bool → Bool
pointer_by ls (Some k) known = known || unwrap_or (option_map (λ l. l.has_pointer) (layout_at ls k)) false
pointer_by ls None known = known

-- the facts of a type, now and when more records are finished
pub record IsFact (ls : List (Option Layout)) (t : CType) (f : Facts) : Type 0 where
  pub record_is : f.record_number ≡ record_of t
  pub flexible_is : f.is_flexible ≡ is_flexible t
  pub size_is : (later : List (Option Layout)) → Extends ls later → size later t ≡ size_by later f.record_number f.size
  pub align_is : (later : List (Option Layout)) → Extends ls later → align later t ≡ align_by later f.record_number f.align
  pub pointer_is : (later : List (Option Layout)) → Extends ls later → contains_pointer later t ≡ pointer_by later f.record_number f.has_pointer
  pub const_is : f.is_const ≡ is_const t
  pub held_is : f.held ≡ record_held t
  pub small : IfSome f.size (λ s. s < limit)
