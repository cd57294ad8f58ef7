-- Parameters are made, and get the values of their arguments.
use Rattle.std.proofs.Common.{◌≡◌, ◌⊎◌, ⊎_elim, inl, inr, ℕ, zero, suc, ◌+◌, ◌<◌, ◌≤◌, List, [], ◌∷◌, length, drop, get_or, Some, None, Result, Ok, Err, refl, sym, ap, subst, ◌∙◌, arith}
use Rattle.std.specs.Prelude.{min}
use Rattle.std.proofs.lemmas.Bool.{cases_lt}
use Rattle.std.proofs.lemmas.List.{drop_more, drop_all, length-map}
use Rattle.tok_base.specs.declared.token.Span.{Span}
use Rattle.c_core.specs.declared.values.End.{End}
use Rattle.c_core.specs.declared.values.Fault.{Fault}
use Rattle.c_core.specs.declared.values.Scalar.{Scalar}
use Rattle.c_core.specs.declared.values.Value.{Value}
use Rattle.c_core.specs.declared.values.Pointer.{Pointer}
use Rattle.c_core.specs.declared.values.Pointer.TheVariants.{Object}
use Rattle.c_core.specs.Values.{kind_of}
use Rattle.c_core.specs.Blocks.{Block, Blocks, store}
use Rattle.block_memory.specs.Given.{IsGiven, IsGivenValue}
use Rattle.block_memory.specs.Shape.{sizes_of}
use Rattle.c_meaning.proofs.Sorted.{OkIs}
use Rattle.c_meaning.specs.World.{World, State, Acted, Gives, Stops}
use Rattle.c_meaning.specs.Rules.{as_kind}
use Rattle.c_meaning.specs.Storage.{with_reason, with_blocks, store_at}
use Rattle.c_meaning.specs.Meaning.{parameters, store_argument}
use Rattle.machine_access.specs.Acts.{acted_of, over_blocks}
use Rattle.machine_frames.specs.Held.{AreGivenValues}
use Rattle.machine_steps.specs.Steps.{Made, Makes, Ends, made_by, made_local, made_argument, made_parameters, then_made}
use Rattle.machine_state.specs.State.{state_in, AreMore}
use Rattle.machine_state.specs.declared.ledger.Ledger.{Ledger}
use Rattle.machine_state.proofs.Blocks.{Alike, alike_store}
use Rattle.machine_state.proofs.Sound.{given_more}
use Rattle.machine_objects.specs.Made.{made_of}

-- the beginning of a block is given
pub beginning_given : (bs : Blocks) (sizes : List ℕ) (n : ℕ) → sizes ≡ sizes_of bs → n < length bs → IsGiven sizes (Object n 0)
beginning_given bs sizes n e h = let l : length sizes ≡ length bs = ap length e ∙ length-map bs (λ (b : Block). b.size) in (omega (arith, h, l), omega arith)

-- ---- what a step in memory gives

-- the blocks of the world that a quiet step leads to
abbrev pub LeadsTo : {A : Type 0} → (Blocks → Type 0) → Acted A → Type 0
LeadsTo Such (Gives a w) = Such w.blocks
LeadsTo Such (Stops e) = Unit {0}

pub with_leads : {A : Type 0} (Such : Blocks → Type 0) (a : A) (w : World) (span : Span) (r : Result Blocks Fault) → OkIs Such r → LeadsTo Such (with_blocks a w span (with_reason r))
with_leads Such a w span (Ok bs) h = h
with_leads Such a w span (Err f) h = tt

pub ok_leads : {A : Type 0} (Such : Blocks → Type 0) (o : Acted A) (r : Result A End) (v : A) (bs : Blocks) (w : World) → LeadsTo Such o → o ≡ acted_of r (over_blocks bs w) → r ≡ Ok v → Such bs
ok_leads Such o r v bs w h e is = subst (λ p. LeadsTo Such p) (e ∙ ap (λ q. acted_of q (over_blocks bs w)) is) h

-- ---- a value is stored

pub stored_made : (bs cs : Blocks) (l : Ledger) (span : Span) (n : ℕ) (v stored : Value) (r : Result Value End)
    → store_at span (Object n 0) (kind_of v) v (state_in bs l).world ≡ acted_of r (over_blocks cs (state_in bs l).world) → r ≡ Ok stored
    → made_of None (state_in cs l) ≡ made_by (store_argument span (Some n) v (state_in bs l).world) (state_in bs l)
stored_made bs cs l span n v stored r e is = sym (ap (λ o. made_by o (state_in bs l)) (e ∙ ap (λ q. acted_of q (over_blocks cs (state_in bs l).world)) is))

pub trapped_made : (bs cs : Blocks) (l : Ledger) (span : Span) (n : ℕ) (v : Value) (r : Result Value End) (end : End)
    → store_at span (Object n 0) (kind_of v) v (state_in bs l).world ≡ acted_of r (over_blocks cs (state_in bs l).world) → r ≡ Err end → cs ≡ bs
    → made_of (Some end) (state_in cs l) ≡ made_by (store_argument span (Some n) v (state_in bs l).world) (state_in bs l)
trapped_made bs cs l span n v r end e is same =
    ap (λ b. Ends end (state_in b l)) same ∙ sym (ap (λ o. made_by o (state_in bs l)) (e ∙ ap (λ q. acted_of q (over_blocks cs (state_in bs l).world)) is))

pub stored_alike : (bs cs : Blocks) (w : World) (span : Span) (p : Pointer) (k : Scalar) (v stored : Value) (r : Result Value End)
    → store_at span p k v (over_blocks bs w) ≡ acted_of r (over_blocks cs w) → r ≡ Ok stored → Alike bs cs
stored_alike bs cs w span p k v stored r e is =
    ok_leads (Alike bs) (store_at span p k v (over_blocks bs w)) r stored cs w
    (with_leads (Alike bs) (as_kind k v) (over_blocks bs w) span (store bs p k (as_kind k v)) (alike_store bs p k (as_kind k v))) e is

-- ---- one after another

pub given_at : (sizes : List ℕ) (args : List Value) (i : ℕ) (v : Value) → i < length args → v ≡ get_or args i v → AreGivenValues sizes args → IsGivenValue sizes v
given_at sizes [] i v h e a = absurd (omega (arith, h))
given_at sizes (x ∷ args) zero v h e a = subst (λ y. IsGivenValue sizes y) (sym e) a.0
given_at sizes (x ∷ args) (suc i) v h e a = given_at sizes args i v (omega (arith, h)) e a.1

pub values_more : (old new : List ℕ) (args : List Value) → AreMore old new → AreGivenValues old args → AreGivenValues new args
values_more old new [] m a = tt
values_more old new (v ∷ args) m a = (given_more old new m v a.0, values_more old new args m a.1)

pub arguments_step : (span : Span) (sizes : List ℕ) (args : List Value) (i z : ℕ) (v : Value) (s : State) → i < length sizes → i < length args → z ≡ get_or sizes i z → v ≡ get_or args i v
    → made_parameters span (parameters i (drop i sizes)) (drop i args) s
    ≡ then_made (made_local i z s) (λ s. then_made (made_argument span i v s) (made_parameters span (parameters (i + 1) (drop (i + 1) sizes)) (drop (i + 1) args)))
arguments_step span sizes args i z v s h k e f =
    let a : drop i sizes ≡ z ∷ drop (i + 1) sizes = drop_more sizes i z h ∙ ap (λ (n : ℕ). n ∷ drop (i + 1) sizes) (sym e) in
    let b : drop i args ≡ v ∷ drop (i + 1) args = drop_more args i v k ∙ ap (λ (x : Value). x ∷ drop (i + 1) args) (sym f) in
    ap (λ l. made_parameters span (parameters i l) (drop i args) s) a ∙ ap (λ l. made_parameters span ((i, z) ∷ parameters (i + 1) (drop (i + 1) sizes)) l s) b

then_then : (m : Made) (f g : State → Made) → then_made (then_made m f) g ≡ then_made m (λ s. then_made (f s) g)
then_then (Makes s) f g = refl
then_then (Ends e s) f g = refl

-- a parameter was made
pub argument_made : (span : Span) (sizes : List ℕ) (args : List Value) (i z : ℕ) (v : Value) (s now : State) → i < length sizes → i < length args → z ≡ get_or sizes i z → v ≡ get_or args i v
    → made_of None now ≡ then_made (made_local i z s) (made_argument span i v)
    → made_parameters span (parameters (i + 1) (drop (i + 1) sizes)) (drop (i + 1) args) now ≡ made_parameters span (parameters i (drop i sizes)) (drop i args) s
argument_made span sizes args i z v s now h k e f m =
    let go : State → Made = made_parameters span (parameters (i + 1) (drop (i + 1) sizes)) (drop (i + 1) args) in
    ap (λ x. then_made x go) m ∙ then_then (made_local i z s) (made_argument span i v) go ∙ sym (arguments_step span sizes args i z v s h k e f)

-- or the run has ended
pub argument_over : (span : Span) (sizes : List ℕ) (args : List Value) (i z : ℕ) (v : Value) (s now : State) (end : End) → i < length sizes → i < length args → z ≡ get_or sizes i z → v ≡ get_or args i v
    → made_of (Some end) now ≡ then_made (made_local i z s) (made_argument span i v)
    → made_of (Some end) now ≡ made_parameters span (parameters i (drop i sizes)) (drop i args) s
argument_over span sizes args i z v s now end h k e f m =
    let go : State → Made = made_parameters span (parameters (i + 1) (drop (i + 1) sizes)) (drop (i + 1) args) in
    ap (λ x. then_made x go) m ∙ then_then (made_local i z s) (made_argument span i v) go ∙ sym (arguments_step span sizes args i z v s h k e f)

no_arguments : (span : Span) (objects : List (ℕ × ℕ)) (s : State) → made_parameters span objects [] s ≡ Makes s
no_arguments span [] s = refl
no_arguments span (o ∷ objects) s = refl

-- there is none left
pub arguments_end : (span : Span) (sizes : List ℕ) (args : List Value) (i : ℕ) (s : State) → (length sizes ≤ i) ⊎ (length args ≤ i) → made_of None s ≡ made_parameters span (parameters i (drop i sizes)) (drop i args) s
arguments_end span sizes args i s h =
    ⊎_elim {C = made_of None s ≡ made_parameters span (parameters i (drop i sizes)) (drop i args) s}
    (λ (a : length sizes ≤ i). ap (λ l. made_parameters span (parameters i l) (drop i args) s) (sym (drop_all i sizes a)))
    (λ (b : length args ≤ i). sym (no_arguments span (parameters i (drop i sizes)) s) ∙ ap (λ l. made_parameters span (parameters i (drop i sizes)) l s) (sym (drop_all i args b)))
    h

-- ---- the fewer of two

pub min_left : (a b n i : ℕ) → n ≡ min a b → i < n → i < a
min_left a b n i e h = omega (arith, e, h)

pub min_right : (a b n i : ℕ) → n ≡ min a b → i < n → i < b
min_right a b n i e h = omega (arith, e, h)

pub min_end : (a b n i : ℕ) → n ≡ min a b → n ≤ i → (a ≤ i) ⊎ (b ≤ i)
min_end a b n i e h = ⊎_elim {C = (a ≤ i) ⊎ (b ≤ i)} (λ (l : i < a). inr (omega (arith, e, h, l))) (λ (r : a ≤ i). inl r) (cases_lt i a)
