-- Layers around what breaks rule 5.
use Rattle.std.proofs.Common.{◌≡◌, ◌*◌, ◌==◌, ℕ, Bool, true, false, ◌&&◌, if◌then◌else◌, List, [], ◌∷◌, Option, Some, None, option_map, refl, sym, ap, ◌∙◌}
use Rattle.std.specs.Prelude.{is_some}
use Rattle.c_types.specs.CTypes.{CType, Pointer, Array, Flexible, Qualified, is_flexible}
use Rattle.c_rules.specs.Declarators as d
use Rattle.c_rules.specs.Typed.{Constant}
use Rattle.c_rules.specs.Types.{decayed}
use Rattle.c_rules.specs.Walk.{used}
use Rattle.c_rules.specs.World.{Entry, World, is_complete, size_in}
use Rattle.declarator_rules.specs.declared.built.Built.TheVariants as v
use Rattle.declarator_rules.specs.declared.built.Oversized.{Oversized}
use Rattle.declarator_rules.specs.Built.{IsBuilt, IsOversized}
use Rattle.c_rules.specs.Unit.{sized}
use Rattle.declarator_rules.specs.Lengths.{IsUnwrapped}
use Rattle.declarator_rules.proofs.Wrapping.{wrapped_flexible, wrapped_size}
use Rattle.declarator_rules.proofs.Around.{qualified_flexible, qualified_size}

abbrev over : (has_size is_flexible : Bool) → Oversized
over h f = record { has_size = h; is_flexible = f }

pub pointer_over : (w : World) (o : Oversized) (q : ℕ) (b : d.Built) → IsOversized w o b → IsOversized w (over true false) (d.layered w (d.pointer q) b)
pointer_over w o q b h = record {
  complete = h.complete;
  sized = h.sized;
  size = ap is_some (qualified_size w.records.layouts q (Pointer b.type));
  flexible = qualified_flexible q (Pointer b.type);
}

pub function_over : (w : World) (o : Oversized) (ts : List CType) (es : List Entry) (b : d.Built) → IsOversized w o b → IsOversized w (over false false) (d.layered w (d.function ts es) b)
function_over w o ts es b h = record { complete = h.complete; sized = h.sized; size = refl; flexible = refl }

and_both : (a b : Bool) → a ≡ true → b ≡ true → (a && b) ≡ true
and_both a b e f = cc

sized_map : (o : Option ℕ) (f : ℕ → ℕ) → is_some (option_map f o) ≡ is_some o
sized_map None f = refl
sized_map (Some s) f = refl

-- an array around what has a size, or hasn't
pub array_over : (w : World) (o : Oversized) (c : Constant) (b : d.Built) → IsOversized w o b → (k : Bool) → o.has_size ≡ k
    → IsBuilt w [] (if k then v.Oversized (over true false) else v.Incomplete) (d.layered w (d.array c) b)
array_over w o c b h true e = record {
  complete = ap (λ x. x && is_complete w b.type) h.complete ∙ h.size ∙ e;
  sized = ap (λ x. x && d.is_length c && d.stays_below (d.length_of c) (size_in w b.type)) h.sized;
  size = sized_map (size_in w b.type) (λ s. d.length_of c * s) ∙ h.size ∙ e;
  flexible = refl;
}
array_over w o c b h false e = ap (λ x. x && is_complete w b.type) h.complete ∙ h.size ∙ e

pub unsized_over : (w : World) (o : Oversized) (b : d.Built) → IsOversized w o b → (k : Bool) → o.has_size ≡ k
    → IsBuilt w [] (if k then v.Oversized (over false true) else v.Incomplete) (d.layered w d.unsized b)
unsized_over w o b h true e = record {
  complete = ap (λ x. x && is_complete w b.type) h.complete ∙ h.size ∙ e;
  sized = h.sized;
  size = refl;
  flexible = refl;
}
unsized_over w o b h false e = ap (λ x. x && is_complete w b.type) h.complete ∙ h.size ∙ e

-- what has a layer is used as a pointer
used_size : (v w : World) (l : d.Layer) (b : d.Built) → is_complete v (decayed (d.layered w l b).type) ≡ true
used_size v w (d.pointer q) b = by (q == 0)
  where
    by : (k : Bool) → is_complete v (decayed (if k then Pointer b.type else Qualified q (Pointer b.type))) ≡ true
    by true = refl
    by false = refl
used_size v w (d.array c) b = refl
used_size v w d.unsized b = refl
used_size v w (d.function ts es) b = refl

used_flexible : (w : World) (l : d.Layer) (b : d.Built) → is_flexible (decayed (d.layered w l b).type) ≡ false
used_flexible w (d.pointer q) b = by (q == 0)
  where
    by : (k : Bool) → is_flexible (decayed (if k then Pointer b.type else Qualified q (Pointer b.type))) ≡ false
    by true = refl
    by false = refl
used_flexible w (d.array c) b = refl
used_flexible w d.unsized b = refl
used_flexible w (d.function ts es) b = refl

pub used_over : (v w : World) (o : Oversized) (base : CType) (ls : List d.Layer) → IsOversized v o (d.built w base ls) → IsOversized v (over true false) (used (d.built w base ls))
used_over v w o base [] h = absurd (let e = h.sized in cc)
used_over v w o base (l ∷ ls) h = record {
  complete = h.complete;
  sized = h.sized;
  size = used_size v w l (d.built w base ls);
  flexible = used_flexible w l (d.built w base ls);
}

-- ---- lengths from initialisers

both_true : (a b : Bool) → (a && b) ≡ true → b ≡ true
both_true true b e = e
both_true false b e = absurd (cc)

pub length_over : (w : World) (o : Oversized) (n : ℕ) (base : CType) (ls : List d.Layer) → IsOversized w o (d.built w base ls)
    → is_flexible (d.built w base ls).type ≡ true → IsOversized w (over true false) (sized w (Some n) (d.built w base ls))
length_over w o n base [] h f = absurd (let e = h.sized in cc)
length_over w o n base (d.pointer q ∷ ls) h f = absurd (let e = sym (qualified_flexible q (Pointer (d.built w base ls).type)) ∙ f in cc)
length_over w o n base (d.array c ∷ ls) h f = absurd (cc)
length_over w o n base (d.function ts es ∷ ls) h f = absurd (cc)
length_over w o n base (d.unsized ∷ ls) h f = record {
  complete = h.complete;
  sized = ap (λ k. k && d.stays_below n (size_in w (d.built w base ls).type)) h.sized;
  size = sized_map (size_in w (d.built w base ls).type) (λ s. n * s) ∙ both_true (d.built w base ls).is_complete (is_complete w (d.built w base ls).type) h.complete;
  flexible = refl;
}

pub length_kept : (w : World) (t e : CType) (qs : List ℕ) (n s : ℕ) (callable closed : Bool) → IsUnwrapped t qs (Flexible e) → size_in w e ≡ Some s → d.stays_below n (Some s) ≡ false
    → IsOversized w (over true false) (sized w (Some n) (record { type = t; is_complete = true; is_sized = true; is_callable = callable; is_closed = closed }))
length_kept w t e qs n s callable closed u g f = record {
  complete = refl;
  sized = ap (λ x. d.stays_below n (size_in w x)) u.element ∙ ap (d.stays_below n) g ∙ f;
  size = ap (λ x. is_some (size_in w x)) (u.length n) ∙ ap is_some (wrapped_size w.records.layouts qs (Array e n)) ∙ sized_map (size_in w e) (λ x. n * x) ∙ ap is_some g;
  flexible = ap is_flexible (u.length n) ∙ wrapped_flexible qs (Array e n);
}
