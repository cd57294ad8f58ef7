-- Quiet steps, ticks and new objects: what the machine does of them is what the meaning says.
use Rattle.std.proofs.Common.{◌≡◌, ℕ, zero, suc, List, [], ◌∷◌, refl, sym, ◌∙◌}
use Rattle.std.specs.Prelude.{if◌then◌else◌}
use Rattle.tok_base.specs.declared.token.Span.{Span}
use Rattle.c_core.specs.declared.values.Value.{Value}
use Rattle.c_core.specs.declared.tree.FixedObject.{FixedObject}
use Rattle.range_heap.specs.Blocks.{rounded}
use Rattle.c_meaning.specs.Run.{Run}
use Rattle.c_meaning.specs.World.{State, Acted, Gives, Stops, over, paid, acted, take_room, make_local, make_locals, with_local, local_block}
use Rattle.c_meaning.specs.Storage.{with_fixed}
use Rattle.c_meaning.specs.Meaning.{make_parameters, make_fixed, store_argument}
use Rattle.machine_steps.specs.Steps.{Made, Makes, Ends, then_made, made_by, made_paid, made_room, made_local, made_locals, made_argument, made_parameters, made_fixed}

-- what is made, and the run behind it
abbrev pub after_made : Made → (State → Run) → Run
after_made (Makes s) k = k s
after_made (Ends e s) k = over e s

pub then_on : (m : Made) (f : State → Made) (k : State → Run) → after_made (then_made m f) k ≡ after_made m (λ s. after_made (f s) k)
then_on (Makes s) f k = refl
then_on (Ends e s) f k = refl

pub by_on : {A : Type 0} (o : Acted A) (s : State) (k : State → Run) → acted o (λ a. k) s ≡ after_made (made_by o s) k
by_on (Gives a w) s k = refl
by_on (Stops e) s k = refl

-- two ways to go on that agree
pub made_same : (m : Made) (f g : State → Run) → ((s : State) → f s ≡ g s) → after_made m f ≡ after_made m g
made_same (Makes s) f g h = h s
made_same (Ends e s) f g h = refl

pub acted_same : {A : Type 0} (o : Acted A) (f g : A → State → Run) (s : State) → ((a : A) (s : State) → f a s ≡ g a s) → acted o f s ≡ acted o g s
acted_same (Gives a w) f g s h = h a (record s { world = w })
acted_same (Stops e) f g s h = refl

room_on : (x size : ℕ) (s : State) (k : State → Run) → acted (take_room (rounded size) s.world) (λ a s. k (record s { world = with_local x size s.world })) s ≡ after_made (made_room x size s) k
room_on x size s k = by_on (take_room (rounded size) s.world) s (λ s. k (record s { world = with_local x size s.world })) ∙ go (made_by (take_room (rounded size) s.world) s)
  where
    go : (m : Made) → after_made m (λ s. k (record s { world = with_local x size s.world })) ≡ after_made (then_made m (λ s. Makes (record s { world = with_local x size s.world }))) k
    go (Makes s) = refl
    go (Ends e s) = refl

paid_on : (n : ℕ) (f : State → Made) (g : State → Run) (s : State) (k : State → Run) → ((s : State) → g s ≡ after_made (f s) k) → paid n g s ≡ after_made (made_paid n f s) k
paid_on zero f g s k h = refl
paid_on (suc n) f g s k h = h (record s { ticks = n })

pub local_on : (x size : ℕ) (s : State) (k : State → Run) → make_local x size (λ u. k) s ≡ after_made (made_local x size s) k
local_on x size s k = paid_on s.ticks (made_room x size) _ s k (λ s. room_on x size s k)

pub locals_on : (objects : List (ℕ × ℕ)) (s : State) (k : State → Run) → make_locals objects (λ u. k) s ≡ after_made (made_locals objects s) k
locals_on [] s k = refl
locals_on (o ∷ objects) s k =
    local_on o.0 o.1 s (λ s. make_locals objects (λ u. k) s)
    ∙ made_same (made_local o.0 o.1 s) _ _ (λ s. locals_on objects s k)
    ∙ sym (then_on (made_local o.0 o.1 s) (made_locals objects) k)

pub parameters_on : (span : Span) (objects : List (ℕ × ℕ)) (args : List Value) (s : State) (k : State → Run) → make_parameters span objects args (λ u. k) s ≡ after_made (made_parameters span objects args s) k
parameters_on span [] args s k = refl
parameters_on span (o ∷ objects) [] s k = refl
parameters_on span (o ∷ objects) (v ∷ args) s k =
    local_on o.0 o.1 s (λ s. acted (store_argument span (local_block s.world o.0) v s.world) (λ x. make_parameters span objects args (λ u. k)) s)
    ∙ made_same (made_local o.0 o.1 s) _ _ (λ s.
    by_on (store_argument span (local_block s.world o.0) v s.world) s (make_parameters span objects args (λ u. k))
    ∙ made_same (made_argument span o.0 v s) _ _ (λ s. parameters_on span objects args s k)
    ∙ sym (then_on (made_argument span o.0 v s) (made_parameters span objects args) k))
    ∙ sym (then_on (made_local o.0 o.1 s) (λ s. then_made (made_argument span o.0 v s) (made_parameters span objects args)) k)

pub fixed_on : (fixed : List FixedObject) (s : State) (k : State → Run) → make_fixed fixed (λ u. k) s ≡ after_made (made_fixed fixed s) k
fixed_on [] s k = refl
fixed_on (o ∷ fixed) s k =
    by_on (take_room (if o.defined then rounded o.size else 0) s.world) s (λ s. make_fixed fixed (λ u. k) (record s { world = with_fixed o s.world }))
    ∙ made_same (made_by (take_room (if o.defined then rounded o.size else 0) s.world) s) _ _ (λ s. fixed_on fixed (record s { world = with_fixed o s.world }) k)
    ∙ sym (then_on (made_by (take_room (if o.defined then rounded o.size else 0) s.world) s) (λ s. made_fixed fixed (record s { world = with_fixed o s.world })) k)
