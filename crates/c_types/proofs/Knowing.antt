-- The facts of a type from those of its parts.
use Rattle.std.proofs.Common.{◌≡◌, ◌<◌, ℕ, ◌*◌, List, Bool, true, false, ◌||◌, Option, Some, None, IfSome, unwrap_or, refl, sym, ◌∙◌, ap}
use Rattle.std.specs.Option.{option_map}
use Rattle.c_types.specs.CTypes as c
use Rattle.c_types.specs.CTypes.{CType}
use Rattle.c_types.specs.Layout.{layout_at, size, align}
use Rattle.c_types.specs.Plain.{has_const}
use Rattle.c_types.specs.Pointers.{contains_pointer, is_uintptr}
use Rattle.c_types.specs.Facts.{Extends, IsFact, size_by, align_by, pointer_by}
use Rattle.c_types.specs.declared.facts.Facts.{Facts}
use Rattle.c_types.specs.declared.records.Layout.{Layout}

pub extends_self : (rs : List (Option Layout)) → Extends rs rs
extends_self rs = record { keeps = λ k l e. e }

pub extends_on : (a b d : List (Option Layout)) → Extends a b → Extends b d → Extends a d
extends_on a b d e f = record { keeps = λ k l h. f.keeps k l (e.keeps k l h) }

pub fact_on : (a b : List (Option Layout)) (t : CType) (f : Facts) → Extends a b → IsFact a t f → IsFact b t f
fact_on a b t f e i = record {
  record_is = i.record_is;
  flexible_is = i.flexible_is;
  size_is = λ later h. i.size_is later (extends_on a b later e h);
  align_is = λ later h. i.align_is later (extends_on a b later e h);
  pointer_is = λ later h. i.pointer_is later (extends_on a b later e h);
  const_is = i.const_is;
  held_is = i.held_is;
  small = i.small;
}

-- a record that has a size has a layout, which stays
stays_by : (o p : Option Layout) (s : ℕ) → ((l : Layout) → o ≡ Some l → p ≡ Some l) → option_map (λ l. l.size) o ≡ Some s → p ≡ o
stays_by (Some l) p s k e = k l refl
stays_by None p s k e = cc

stays : (rs later : List (Option Layout)) (k s : ℕ) → Extends rs later → option_map (λ l. l.size) (layout_at rs k) ≡ Some s → layout_at later k ≡ layout_at rs k
stays rs later k s e h = stays_by (layout_at rs k) (layout_at later k) s (e.keeps k) h

size_stays : (rs later : List (Option Layout)) (r : Option ℕ) (known : Option ℕ) (s : ℕ) → Extends rs later → size_by rs r known ≡ Some s → size_by later r known ≡ size_by rs r known
size_stays rs later (Some k) known s e h = ap (option_map (λ l. l.size)) (stays rs later k s e h)
size_stays rs later None known s e h = refl

align_stays : (rs later : List (Option Layout)) (r : Option ℕ) (known a : Option ℕ) (s : ℕ) → Extends rs later → size_by rs r known ≡ Some s → align_by later r a ≡ align_by rs r a
align_stays rs later (Some k) known a s e h = ap (option_map (λ l. l.align)) (stays rs later k s e h)
align_stays rs later None known a s e h = refl

pointer_stays : (rs later : List (Option Layout)) (r : Option ℕ) (known : Option ℕ) (b : Bool) (s : ℕ) → Extends rs later → size_by rs r known ≡ Some s → pointer_by later r b ≡ pointer_by rs r b
pointer_stays rs later (Some k) known b s e h = ap (λ (o : Option Layout). b || unwrap_or (option_map (λ l. l.has_pointer) o) false) (stays rs later k s e h)
pointer_stays rs later None known b s e h = refl

pub array_fact : (rs : List (Option Layout)) (t : CType) (f g : Facts) (n s : ℕ) → IsFact rs t f → size_by rs f.record_number f.size ≡ Some s → n * s < 268435456
    → g ≡ record { record_number = None; size = Some (n * s); align = align_by rs f.record_number f.align; has_pointer = pointer_by rs f.record_number f.has_pointer; is_flexible = false; is_const = f.is_const; held = f.held }
    → IsFact rs (c.Array t n) g
array_fact rs t f g n s i h small e = rw e (record {
  record_is = refl;
  flexible_is = refl;
  size_is = λ later x. ap (option_map (λ y. n * y)) (i.size_is later x ∙ size_stays rs later f.record_number f.size s x h ∙ h);
  align_is = λ later x. i.align_is later x ∙ align_stays rs later f.record_number f.size f.align s x h;
  pointer_is = λ later x. i.pointer_is later x ∙ pointer_stays rs later f.record_number f.size f.has_pointer s x h;
  const_is = i.const_is;
  held_is = i.held_is;
  small = small;
})

pub flexible_fact : (rs : List (Option Layout)) (t : CType) (f g : Facts) (s : ℕ) → IsFact rs t f → size_by rs f.record_number f.size ≡ Some s
    → g ≡ record { record_number = None; size = None; align = align_by rs f.record_number f.align; has_pointer = pointer_by rs f.record_number f.has_pointer; is_flexible = true; is_const = f.is_const; held = f.held }
    → IsFact rs (c.Flexible t) g
flexible_fact rs t f g s i h e = rw e (record {
  record_is = refl;
  flexible_is = refl;
  size_is = λ later x. refl;
  align_is = λ later x. i.align_is later x ∙ align_stays rs later f.record_number f.size f.align s x h;
  pointer_is = λ later x. i.pointer_is later x ∙ pointer_stays rs later f.record_number f.size f.has_pointer s x h;
  const_is = i.const_is;
  held_is = i.held_is;
  small = tt;
})

named_pointer : (rs : List (Option Layout)) (r : Option ℕ) (u b : Bool) → (u || pointer_by rs r b) ≡ pointer_by rs r (u || b)
named_pointer rs (Some k) true b = refl
named_pointer rs (Some k) false b = refl
named_pointer rs None u b = refl

pub named_fact : (rs : List (Option Layout)) (name : List ℕ) (t : CType) (f g : Facts) → IsFact rs t f
    → g ≡ record f { has_pointer = is_uintptr name || f.has_pointer }
    → IsFact rs (c.Named name t) g
named_fact rs name t f g i e = rw e (record {
  record_is = i.record_is;
  flexible_is = i.flexible_is;
  size_is = i.size_is;
  align_is = i.align_is;
  pointer_is = λ later x. ap (λ (b : Bool). is_uintptr name || b) (i.pointer_is later x) ∙ named_pointer later f.record_number (is_uintptr name) f.has_pointer;
  const_is = i.const_is;
  held_is = i.held_is;
  small = i.small;
})

pub qualified_fact : (rs : List (Option Layout)) (q : ℕ) (t : CType) (f g : Facts) → IsFact rs t f → g ≡ record f { is_const = has_const q || f.is_const } → IsFact rs (c.Qualified q t) g
qualified_fact rs q t f g i e = rw e (record {
  record_is = i.record_is;
  flexible_is = i.flexible_is;
  size_is = i.size_is;
  align_is = i.align_is;
  pointer_is = i.pointer_is;
  const_is = ap (λ (b : Bool). has_const q || b) i.const_is;
  held_is = i.held_is;
  small = i.small;
})

-- what a query finds now
pub size_now : (rs : List (Option Layout)) (t : CType) (f : Facts) → IsFact rs t f → size_by rs f.record_number f.size ≡ size rs t
size_now rs t f i = sym (i.size_is rs (extends_self rs))

pub align_now : (rs : List (Option Layout)) (t : CType) (f : Facts) → IsFact rs t f → align_by rs f.record_number f.align ≡ align rs t
align_now rs t f i = sym (i.align_is rs (extends_self rs))

pub pointer_now : (rs : List (Option Layout)) (t : CType) (f : Facts) → IsFact rs t f → pointer_by rs f.record_number f.has_pointer ≡ contains_pointer rs t
pointer_now rs t f i = sym (i.pointer_is rs (extends_self rs))

-- the size that a query finds is below the limit
pub small_by : (rs : List (Option Layout)) (r : Option ℕ) (known : Option ℕ) → IfSome known (λ s. s < 268435456) → ((k : ℕ) (l : Layout) → layout_at rs k ≡ Some l → l.size < 268435456) → IfSome (size_by rs r known) (λ s. s < 268435456)
small_by rs None known h all = h
small_by rs (Some k) known h all = of (layout_at rs k) refl
  where
    of : (o : Option Layout) → layout_at rs k ≡ o → IfSome (option_map (λ l. l.size) o) (λ s. s < 268435456)
    of (Some l) e = all k l e
    of None e = tt
