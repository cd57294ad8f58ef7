-- What an access reaches, by its tests.
use Rattle.std.proofs.Common.{◌≡◌, ℕ, ◌+◌, ◌%◌, ◌≤◌, Bool, true, false, not, ◌&&◌, List, [], ◌∷◌, Option, Some, None, Result, Ok, Err, refl, sym, ap, ◌∙◌, arith, eqb, ltb}
use Rattle.std.specs.Prelude.{if◌then◌else◌, slice_get}
use Rattle.std.proofs.lemmas.Bool.{ltb-false, not-false}
use Rattle.c_core.specs.declared.values.Fault.{Fault}
use Rattle.c_core.specs.declared.values.Fault.TheVariants.{Dead, Bounds, Misaligned, ReadOnly}
use Rattle.c_core.specs.declared.values.Pointer.{Pointer}
use Rattle.c_core.specs.declared.values.Pointer.TheVariants.{Null, Object, Function}
use Rattle.c_core.specs.Blocks.{Block, Blocks, Site, reached, reached_in, is_read_only}
use Rattle.block_memory.specs.Shape.{Tells, tested, place_of}
use Rattle.block_memory.specs.declared.memory.BlockInfo.{BlockInfo}
use Rattle.block_memory.specs.declared.access.Place.{Place}

abbrev pub place_at : ℕ → ℕ → Place
place_at n o = record { number = n; offset = o }

abbrev pub site_at : ℕ → ℕ → Block → Site
site_at n o b = record { number = n; offset = o; block = b }

abbrev chosen : {A : Type 0} → (dead out odd fixed : Bool) → A → Result A Fault
chosen dead out odd fixed a = if dead then Err Dead else (if out then Err Bounds else (if odd then Err Misaligned else (if fixed then Err ReadOnly else Ok a)))

-- what a test of the block gives is what the access gives
abbrev pub placed_by : Result (Unit {0}) Fault → ℕ → ℕ → Result Place Fault
placed_by (Ok t) n o = Ok (place_at n o)
placed_by (Err f) n o = Err f

steps : (b : Block) (n o : ℕ) (dead out odd fixed : Bool) → place_of (chosen dead out odd fixed (site_at n o b)) ≡ placed_by (chosen dead out odd fixed tt) n o
steps b n o true out odd fixed = refl
steps b n o false true odd fixed = refl
steps b n o false false true fixed = refl
steps b n o false false false true = refl
steps b n o false false false false = refl

at_block : (ob : Option Block) (n o count align : ℕ) (writes : Bool) (info : BlockInfo) → Tells ob info → place_of (reached_in ob n o count align writes) ≡ placed_by (tested info o count align writes) n o
at_block None n o count align writes info t = absurd t
at_block (Some b) n o count align writes info t =
    rw (t.0, t.1, t.2) (steps b n o (not b.live) (ltb b.size (o + count)) (not (eqb (o % align) 0)) (writes && is_read_only b.kind))

pub reach_tested : (bs : Blocks) (n o count align : ℕ) (writes : Bool) (info : BlockInfo) → Tells (slice_get bs n) info → place_of (reached bs (Object n o) count align writes) ≡ placed_by (tested info o count align writes) n o
reach_tested bs n o count align writes info t = at_block (slice_get bs n) n o count align writes info t

-- an access without a fault
pub record Reached (bs : Blocks) (p : Pointer) (count align : ℕ) (writes : Bool) (place : Place) : Type 0 where
  pub block : Block
  pub found : slice_get bs place.number ≡ Some block
  pub live : block.live ≡ true
  pub within : place.offset + count ≤ block.size
  pub is : reached bs p count align writes ≡ Ok (site_at place.number place.offset block)

tests : (b : Block) (n o : ℕ) (place : Place) (dead out odd fixed : Bool) → place_of (chosen dead out odd fixed (site_at n o b)) ≡ Ok place → (dead ≡ false) × (out ≡ false) × (odd ≡ false) × (fixed ≡ false) × (n ≡ place.number) × (o ≡ place.offset)
tests b n o place true out odd fixed e = cc
tests b n o place false true odd fixed e = cc
tests b n o place false false true fixed e = cc
tests b n o place false false false true e = cc
tests b n o place false false false false e = (refl, refl, refl, refl, (cc), (cc))

chosen_is : {A : Type 0} (dead out odd fixed : Bool) (a : A) → dead ≡ false → out ≡ false → odd ≡ false → fixed ≡ false → chosen dead out odd fixed a ≡ Ok a
chosen_is dead out odd fixed a d u m f = rw (d, u, m, f) refl

in_block : (bs : Blocks) (n o count align : ℕ) (writes : Bool) (place : Place) (ob : Option Block) → slice_get bs n ≡ ob → place_of (reached_in ob n o count align writes) ≡ Ok place → Reached bs (Object n o) count align writes place
in_block bs n o count align writes place None e h = cc
in_block bs n o count align writes place (Some b) e h =
    let t = tests b n o place (not b.live) (ltb b.size (o + count)) (not (eqb (o % align) 0)) (writes && is_read_only b.kind) h in
    let is : reached_in (Some b) n o count align writes ≡ Ok (site_at n o b) = chosen_is (not b.live) (ltb b.size (o + count)) (not (eqb (o % align) 0)) (writes && is_read_only b.kind) (site_at n o b) t.0 t.1 t.2 t.3 in
    record {
      block = b;
      found = ap (λ k. slice_get bs k) (sym t.4) ∙ e;
      live = not-false b.live t.0;
      within = let l = ltb-false b.size (o + count) t.1 in omega (arith, l, t.5);
      is = ap (λ x. reached_in x n o count align writes) e ∙ is ∙ ap (λ k. Ok (site_at k o b)) t.4 ∙ ap (λ k. Ok (site_at place.number k b)) t.5;
    }

pub reach_ok : (bs : Blocks) (p : Pointer) (count align : ℕ) (writes : Bool) (place : Place) → place_of (reached bs p count align writes) ≡ Ok place → Reached bs p count align writes place
reach_ok bs Null count align writes place e = cc
reach_ok bs (Function f) count align writes place e = cc
reach_ok bs (Object n o) count align writes place e = in_block bs n o count align writes place (slice_get bs n) refl e

-- an access with a fault
pub reach_err : (r : Result Site Fault) (f : Fault) → place_of r ≡ Err f → r ≡ Err f
reach_err (Ok site) f e = cc
reach_err (Err g) f e = cc
