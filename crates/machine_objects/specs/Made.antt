-- What is made in memory, as the machine's steps have it.
use Rattle.std.specs.Prelude.{◌≡◌, ℕ, false, List, [], ◌∷◌, ◌++◌, Option, Some, None, slice_get}
use Rattle.c_core.specs.declared.values.End.{End}
use Rattle.c_core.specs.declared.values.BlockKind.{BlockKind}
use Rattle.c_core.specs.Blocks.{Blocks, placed}
use Rattle.c_meaning.specs.World.{State, end_locals}
use Rattle.machine_steps.specs.Steps.{Made, Makes, Ends}
use Rattle.machine_state.specs.declared.ledger.Spot.{Spot}
use Rattle.machine_state.specs.declared.ledger.Ledger.{Ledger}
use Rattle.machine_state.specs.Stands.{Stand}
use Rattle.machine_state.specs.State.{IsSound}

-- all is made, or the run has ended
abbrev pub made_of : Option End → State → Made
made_of None s = Makes s
made_of (Some e) s = Ends e s

-- the topmost object is dead
abbrev pub IsTopDead : List Stand → List Spot → Type 0
IsTopDead xs [] = ⊥
IsTopDead xs (s ∷ spots) = (x : Stand) → slice_get xs s.number ≡ Some x → x.live ≡ false

-- one block was placed, and nothing else has changed but the region
pub record IsPlaced (kind : BlockKind) (size : ℕ) (bs : Blocks) (given : List ℕ) (l : Ledger) (blocks_now : Blocks) (given_now starts_now : List ℕ) (top_now : ℕ) (now : Ledger) : Type 0 where
  pub blocks : blocks_now ≡ placed bs kind size
  pub sizes : given_now ≡ given ++ size ∷ []
  pub sound : IsSound blocks_now starts_now top_now now
  pub rest : now.rest ≡ l.rest
  pub ranges : now.ranges ≡ l.ranges
  pub fallback : now.fallback ≡ l.fallback

-- objects die, the last one first
abbrev pub ending : List (ℕ × ℕ) → State → State
ending objects s = record s { world = end_locals objects s.world }
