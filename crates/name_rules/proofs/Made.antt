-- The type that a declarator makes, if it makes one.
use Rattle.std.proofs.Common.{◌≡◌, ℕ, Bool, true, false, ◌&&◌, List, Option, Some, None, refl, sym, ap, ◌∙◌}
use Rattle.std.specs.Prelude.{is_some}
use Rattle.c_types.specs.declared.terms.Term.{Term}
use Rattle.c_types.specs.declared.terms.TypeId.{TypeId}
use Rattle.c_types.specs.CTypes.{CType}
use Rattle.c_types.specs.Compatible.{is_same}
use Rattle.c_rules.specs.Declarators.{Built, is_made}
use Rattle.c_rules.specs.Names.{may_be_named}
use Rattle.c_rules.specs.Unit.{type_declared}
use Rattle.c_rules.specs.World.{World}
use Rattle.c_rules.specs.declared.known.Declares.{Declares}
use Rattle.c_rules.specs.declared.known.Declares.TheVariants as decl
use Rattle.c_rules.specs.declared.known.Sort.{Sort}
use Rattle.declarator_rules.specs.declared.built.Built as r
use Rattle.declarator_rules.specs.declared.built.Built.TheVariants as v
use Rattle.declarator_rules.specs.Built.{IsBuilt}
use Rattle.name_rules.specs.Introducing.{made_in}
use Rattle.name_rules.specs.Names.{IsSameAs}

made_same : (w : World) (ts : List Term) (x : r.Built) (b : Built) → IsBuilt w ts x b → IsSameAs ts (made_in x) b.type
made_same w ts (v.Made m) b e = λ u. ap (λ (c : Built). is_same c.type u) (sym e)
made_same w ts v.Incomplete b e = tt
made_same w ts (v.Oversized o) b e = tt

made_is : (w : World) (ts : List Term) (x : r.Built) (b : Built) → IsBuilt w ts x b → is_some (made_in x) ≡ is_made b
made_is w ts (v.Made m) b e = ap is_made (sym e)
made_is w ts v.Incomplete b e = ap (λ k. k && b.is_sized) (sym e)
made_is w ts (v.Oversized o) b e = sym (ap (λ k. b.is_complete && k) e.sized ∙ none b.is_complete)
  where
    none : (k : Bool) → (k && false) ≡ false
    none true = refl
    none false = refl

-- a typedef name is the same type
named_same : (ts : List Term) (m : Option TypeId) (what : Declares) (n : List ℕ) (t : CType) → IsSameAs ts m t → IsSameAs ts m (type_declared what n t)
named_same ts None what n t h = tt
named_same ts (Some i) decl.Type n t h = h
named_same ts (Some i) decl.Object n t h = h
named_same ts (Some i) decl.Function n t h = h
named_same ts (Some i) decl.Member n t h = h

-- what rule 2 says, by what was made
pub kept_object : (w : World) (ts : List Term) (x : r.Built) (b : Built) (m : Option TypeId) (k : Bool) (n : List ℕ) (s : Sort) (completes : Bool)
    → IsBuilt w ts x b → m ≡ made_in x → ((t : CType) → IsSameAs ts m t → k ≡ may_be_named w n s t (is_some m) completes)
    → k ≡ may_be_named w n s b.type (is_made b) completes
kept_object w ts x b m k n s completes h e f =
    (rw e at f) b.type (made_same w ts x b h) ∙ ap (λ j. may_be_named w n s b.type j completes) (made_is w ts x b h)

pub kept_declared : (w : World) (ts : List Term) (x : r.Built) (b : Built) (m : Option TypeId) (k : Bool) (n : List ℕ) (s z : Sort) (completes : Bool) (what : Declares)
    → IsBuilt w ts x b → m ≡ made_in x → s ≡ z → ((t : CType) → IsSameAs ts m t → k ≡ may_be_named w n s t (is_some m) completes)
    → k ≡ may_be_named w n z (type_declared what n b.type) (is_made b) completes
kept_declared w ts x b m k n s z completes what h e a f =
    (rw e at f) (type_declared what n b.type) (named_same ts (made_in x) what n b.type (made_same w ts x b h))
    ∙ ap (λ j. may_be_named w n s (type_declared what n b.type) j completes) (made_is w ts x b h)
    ∙ ap (λ j. may_be_named w n j (type_declared what n b.type) (is_made b) completes) a
