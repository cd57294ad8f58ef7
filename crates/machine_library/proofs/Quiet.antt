-- Quiet steps of library functions: what follows them, and which blocks they leave alike.
use Rattle.std.proofs.Common.{◌≡◌, ℕ, zero, suc, ◌-◌, Bool, List, [], ◌∷◌, length, arith, Option, Some, None, Result, Ok, Err, refl, sym, ap, subst, ◌∙◌}
use Rattle.std.specs.Prelude.{slice_get, slice_index_or, false, min}
use Rattle.tok_base.specs.declared.token.Span.{Span}
use Rattle.c_core.specs.declared.values.End.{End}
use Rattle.c_core.specs.declared.values.Fault.{Fault}
use Rattle.c_core.specs.declared.values.Value.{Value}
use Rattle.c_core.specs.declared.values.Pointer.TheVariants.{Object}
use Rattle.c_core.specs.Blocks.{Blocks, fill, copy}
use Rattle.block_memory.specs.Given.{IsGivenValue}
use Rattle.c_meaning.proofs.Sorted.{OkIs}
use Rattle.c_meaning.specs.World.{World, Acted, Gives, Stops}
use Rattle.c_meaning.specs.Rules.{no_value, pointer_in, natural_in, size_in}
use Rattle.c_meaning.specs.Storage.{with_reason, with_blocks, zeroed, resized, copy_bytes, set_bytes, byte_in}
use Rattle.machine_access.specs.Acts.{acted_of, acted_with, over_blocks}
use Rattle.c_core.specs.declared.tree.LibMark.{LibMark}
use Rattle.c_core.specs.Library.{LibraryFunction}
use Rattle.c_meaning.specs.Meaning.{last_of, label_of, library_call}
use Rattle.machine_library.specs.Leads.{called_for}
use Rattle.machine_frames.specs.Held.{AreGivenValues}
use Rattle.machine_state.proofs.Blocks.{Alike, alike_fill, alike_copy}

-- the blocks of the world that a quiet step leads to
abbrev pub LeadsTo : {A : Type 0} → (Blocks → Type 0) → Acted A → Type 0
LeadsTo Such (Gives a w) = Such w.blocks
LeadsTo Such (Stops e) = Unit {0}

with_leads : {A : Type 0} (Such : Blocks → Type 0) (a : A) (w : World) (span : Span) (r : Result Blocks Fault) → OkIs Such r → LeadsTo Such (with_blocks a w span (with_reason r))
with_leads Such a w span (Ok bs) h = h
with_leads Such a w span (Err f) h = tt

ok_leads : {A : Type 0} (Such : Blocks → Type 0) (o : Acted A) (r : Result A End) (v : A) (bs : Blocks) (w : World) → LeadsTo Such o → o ≡ acted_of r (over_blocks bs w) → r ≡ Ok v → Such bs
ok_leads Such o r v bs w h e is = subst (λ p. LeadsTo Such p) (e ∙ ap (λ q. acted_of q (over_blocks bs w)) is) h

ok_with : {A B : Type 0} (Such : Blocks → Type 0) (o : Acted B) (b : B) (r : Result A End) (v : A) (bs : Blocks) (w : World) → LeadsTo Such o → o ≡ acted_with b r (over_blocks bs w) → r ≡ Ok v → Such bs
ok_with Such o b r v bs w h e is = subst (λ p. LeadsTo Such p) (e ∙ ap (λ q. acted_with b q (over_blocks bs w)) is) h

pub zeroed_alike : (bs cs : Blocks) (w : World) (span : Span) (n size : ℕ) (r : Result (Unit {0}) End) (u : Unit {0}) → zeroed span n size (over_blocks bs w) ≡ acted_of r (over_blocks cs w) → r ≡ Ok u → Alike bs cs
zeroed_alike bs cs w span n size r u e is =
    ok_leads (Alike bs) (zeroed span n size (over_blocks bs w)) r u cs w (with_leads (Alike bs) tt (over_blocks bs w) span (fill bs (Object n 0) 0 size) (alike_fill bs (Object n 0) 0 size)) e is

pub resized_alike : (bs cs : Blocks) (w : World) (span : Span) (new old size : ℕ) (r : Result (Unit {0}) End) (u : Unit {0}) → resized span new old size (over_blocks bs w) ≡ acted_of r (over_blocks cs w) → r ≡ Ok u → Alike bs cs
resized_alike bs cs w span new old size r u e is =
    let n = min size (size_in (slice_get bs old)) in
    ok_leads (Alike bs) (resized span new old size (over_blocks bs w)) r u cs w (with_leads (Alike bs) tt (over_blocks bs w) span (copy bs (Object new 0) (Object old 0) n false) (alike_copy bs (Object new 0) (Object old 0) n false)) e is

pub copied_alike : (bs cs : Blocks) (w : World) (span : Span) (may_overlap : Bool) (to from count : Value) (r : Result (Unit {0}) End) (u : Unit {0}) → copy_bytes span may_overlap to from count (over_blocks bs w) ≡ acted_with to r (over_blocks cs w) → r ≡ Ok u → Alike bs cs
copied_alike bs cs w span may_overlap to from count r u e is =
    ok_with (Alike bs) (copy_bytes span may_overlap to from count (over_blocks bs w)) to r u cs w
    (with_leads (Alike bs) to (over_blocks bs w) span (copy bs (pointer_in to) (pointer_in from) (natural_in count) may_overlap) (alike_copy bs (pointer_in to) (pointer_in from) (natural_in count) may_overlap)) e is

pub set_alike : (bs cs : Blocks) (w : World) (span : Span) (to byte count : Value) (r : Result (Unit {0}) End) (u : Unit {0}) → set_bytes span to byte count (over_blocks bs w) ≡ acted_with to r (over_blocks cs w) → r ≡ Ok u → Alike bs cs
set_alike bs cs w span to byte count r u e is =
    ok_with (Alike bs) (set_bytes span to byte count (over_blocks bs w)) to r u cs w
    (with_leads (Alike bs) to (over_blocks bs w) span (fill bs (pointer_in to) (byte_in byte) (natural_in count)) (alike_fill bs (pointer_in to) (byte_in byte) (natural_in count))) e is

-- ---- arguments

pub three : {A : Type 0} (f : Value → Value → Value → A) (x y z a b c : Value) → x ≡ a → y ≡ b → z ≡ c → f a b c ≡ f x y z
three f x y z a b c e g h = ap (λ v. f v b c) (sym e) ∙ ap (λ v. f x v c) (sym g) ∙ ap (λ v. f x y v) (sym h)

given_or : (sizes : List ℕ) (args : List Value) (at : ℕ) → AreGivenValues sizes args → IsGivenValue sizes (slice_index_or args at no_value)
given_or sizes [] at a = tt
given_or sizes (x ∷ args) zero a = a.0
given_or sizes (x ∷ args) (suc at) a = given_or sizes args at a.1

pub given_as : (sizes : List ℕ) (args : List Value) (at : ℕ) (v : Value) → v ≡ slice_index_or args at no_value → AreGivenValues sizes args → IsGivenValue sizes v
given_as sizes args at v e a = subst (λ x. IsGivenValue sizes x) (sym e) (given_or sizes args at a)

pub last_none : (args : List Value) → length args ≡ 0 → no_value ≡ last_of args
last_none [] e = refl
last_none (x ∷ args) e = absurd (omega (arith, e))

last_there : (x : Value) (args : List Value) → slice_index_or (x ∷ args) (length args) no_value ≡ last_of (x ∷ args)
last_there x [] = refl
last_there x (y ∷ args) = last_there y args

pub last_is : (args : List Value) (n : ℕ) → n ≡ length args → (n ≡ 0 → ⊥) → slice_index_or args (n - 1) no_value ≡ last_of args
last_is [] n e ne = absurd (ne e)
last_is (x ∷ args) n e ne = let f : n - 1 ≡ length args = omega (arith, e) in ap (λ (i : ℕ). slice_index_or (x ∷ args) i no_value) f ∙ last_there x args

-- ---- calls

pub library_is : (o : Option LibraryFunction) (span : Span) (m : LibMark) (args : List Value) → called_for o span (label_of m args) args ≡ library_call o span m args
library_is None span m args = refl
library_is (Some f) span m args = refl
