-- How changes of the blocks leave the allocated ones.
use Rattle.std.proofs.Common.{◌≡◌, ◌⊎◌, ⊎_elim, inl, inr, ℕ, zero, suc, ◌+◌, ◌<◌, Bool, true, false, [], ◌∷◌, ◌++◌, length, Option, Some, None, refl, sym, ap, ◌∙◌, arith}
use Rattle.std.specs.Prelude.{slice_get, slice_set, if◌then◌else◌, ◌&&◌}
use Rattle.c_core.specs.declared.values.BlockKind.{BlockKind}
use Rattle.c_core.specs.Blocks.{Block, Blocks, killed, killed_in, dead}
use Rattle.c_meaning.specs.World.{is_heap, heaps_before}
use Rattle.c_meaning.specs.Storage.{is_heap_block}

-- the block with number n is allocated and lives
abbrev pub Heap : Blocks → ℕ → Type 0
Heap bs n = is_heap_block (slice_get bs n) ≡ true

abbrev pub one : BlockKind → ℕ
one kind = if is_heap kind then 1 else 0

-- how many allocated blocks were made
abbrev pub heaps : Blocks → ℕ
heaps [] = 0
heaps (b ∷ bs) = one b.kind + heaps bs

-- no allocated block is made, and none comes to life
pub record Tame (old new : Blocks) : Type 0 where
  pub count : heaps new ≡ heaps old
  pub held : (n : ℕ) → Heap new n → Heap old n × (heaps_before n new ≡ heaps_before n old)

pub tame_same : (bs : Blocks) → Tame bs bs
tame_same bs = record { count = refl; held = λ n h. (h, refl) }

pub tame_then : (a b c : Blocks) → Tame a b → Tame b c → Tame a c
tame_then a b c x y = record {
  count = y.count ∙ x.count;
  held = λ n h. let i = y.held n h in let j = x.held n i.0 in (j.0, i.1 ∙ j.1);
}

and_parts : (a b : Bool) → (a && b) ≡ true → (a ≡ true) × (b ≡ true)
and_parts true b h = (refl, h)
and_parts false b h = absurd (let e : false ≡ true = h in cc)

and_both : (a b : Bool) → a ≡ true → b ≡ true → (a && b) ≡ true
and_both true b h k = k
and_both false b h k = h

some_one : (x b : Block) → Some x ≡ Some b → x ≡ b
some_one x b h = cc

-- a block in the place of one of its kind, which lives only where that one does
set_count : (bs : Blocks) (k : ℕ) (b b' : Block) → slice_get bs k ≡ Some b → b'.kind ≡ b.kind → heaps (slice_set bs k b') ≡ heaps bs
set_count [] k b b' g e = refl
set_count (x ∷ bs) zero b b' g e = ap (λ kind. one kind + heaps bs) (e ∙ ap (λ (y : Block). y.kind) (sym (some_one x b g)))
set_count (x ∷ bs) (suc k) b b' g e = ap (λ h. one x.kind + h) (set_count bs k b b' g e)

set_before : (bs : Blocks) (k : ℕ) (b b' : Block) → slice_get bs k ≡ Some b → b'.kind ≡ b.kind → (n : ℕ) → heaps_before n (slice_set bs k b') ≡ heaps_before n bs
set_before bs k b b' g e zero = refl
set_before [] k b b' g e (suc n) = refl
set_before (x ∷ bs) zero b b' g e (suc n) = ap (λ kind. one kind + heaps_before n bs) (e ∙ ap (λ (y : Block). y.kind) (sym (some_one x b g)))
set_before (x ∷ bs) (suc k) b b' g e (suc n) = ap (λ h. one x.kind + h) (set_before bs k b b' g e n)

set_held : (bs : Blocks) (k : ℕ) (b b' : Block) → slice_get bs k ≡ Some b → b'.kind ≡ b.kind → (b'.live ≡ true → b.live ≡ true) → (n : ℕ) → Heap (slice_set bs k b') n → Heap bs n
set_held [] k b b' g e l n h = h
set_held (x ∷ bs) zero b b' g e l zero h =
    let p = and_parts b'.live (is_heap b'.kind) h in
    let same : x ≡ b = some_one x b g in
    and_both x.live (is_heap x.kind) (ap (λ (y : Block). y.live) same ∙ l p.0) (ap (λ (y : Block). is_heap y.kind) same ∙ ap is_heap (sym e) ∙ p.1)
set_held (x ∷ bs) zero b b' g e l (suc n) h = h
set_held (x ∷ bs) (suc k) b b' g e l zero h = h
set_held (x ∷ bs) (suc k) b b' g e l (suc n) h = set_held bs k b b' g e l n h

-- the other way round, where it lives as long
pub set_keeps : (bs : Blocks) (k : ℕ) (b b' : Block) → slice_get bs k ≡ Some b → b'.kind ≡ b.kind → b'.live ≡ b.live → (n : ℕ) → Heap bs n → Heap (slice_set bs k b') n
set_keeps [] k b b' g e l n h = h
set_keeps (x ∷ bs) zero b b' g e l zero h =
    let p = and_parts x.live (is_heap x.kind) h in
    let same : x ≡ b = some_one x b g in
    and_both b'.live (is_heap b'.kind) (l ∙ ap (λ (y : Block). y.live) (sym same) ∙ p.0) (ap is_heap e ∙ ap (λ (y : Block). is_heap y.kind) (sym same) ∙ p.1)
set_keeps (x ∷ bs) zero b b' g e l (suc n) h = h
set_keeps (x ∷ bs) (suc k) b b' g e l zero h = h
set_keeps (x ∷ bs) (suc k) b b' g e l (suc n) h = set_keeps bs k b b' g e l n h

pub tame_set : (bs : Blocks) (k : ℕ) (b b' : Block) → slice_get bs k ≡ Some b → b'.kind ≡ b.kind → (b'.live ≡ true → b.live ≡ true) → Tame bs (slice_set bs k b')
tame_set bs k b b' g e l = record {
  count = set_count bs k b b' g e;
  held = λ n h. (set_held bs k b b' g e l n h, set_before bs k b b' g e n);
}

killed_tame : (bs : Blocks) (k : ℕ) (o : Option Block) → slice_get bs k ≡ o → Tame bs (killed_in bs k o)
killed_tame bs k None e = tame_same bs
killed_tame bs k (Some b) e = tame_set bs k b (dead b) e refl (λ h. absurd (let f : false ≡ true = h in cc))

pub tame_killed : (bs : Blocks) (k : ℕ) → Tame bs (killed bs k)
tame_killed bs k = killed_tame bs k (slice_get bs k) refl

dead_there : (bs : Blocks) (k : ℕ) (b : Block) → Heap (slice_set bs k (dead b)) k → ⊥
dead_there [] k b h = let f : false ≡ true = h in cc
dead_there (x ∷ bs) zero b h = let f : false ≡ true = h in cc
dead_there (x ∷ bs) (suc k) b h = dead_there bs k b h

killed_gone : (bs : Blocks) (k : ℕ) (o : Option Block) → slice_get bs k ≡ o → Heap (killed_in bs k o) k → ⊥
killed_gone bs k None e h = let f : false ≡ true = ap is_heap_block (sym e) ∙ h in cc
killed_gone bs k (Some b) e h = dead_there bs k b h

-- a killed block lives no more
pub not_killed : (bs : Blocks) (k : ℕ) → Heap (killed bs k) k → ⊥
not_killed bs k h = killed_gone bs k (slice_get bs k) refl h

-- ---- a block more

pub heaps_more : (bs : Blocks) (b : Block) → heaps (bs ++ b ∷ []) ≡ heaps bs + one b.kind
heaps_more [] b = omega arith
heaps_more (x ∷ bs) b = let e = heaps_more bs b in omega (arith, e)

-- a block that is there after one was made was there before, or is that one
pub more_at : (bs : Blocks) (b : Block) (n : ℕ) → Heap (bs ++ b ∷ []) n
    → (Heap bs n × (heaps_before n (bs ++ b ∷ []) ≡ heaps_before n bs)) ⊎ ((n ≡ length bs) × (is_heap b.kind ≡ true) × (heaps_before n (bs ++ b ∷ []) ≡ heaps bs))
more_at [] b zero h = inr (refl, (and_parts b.live (is_heap b.kind) h).1, refl)
more_at [] b (suc n) h = absurd (let f : false ≡ true = h in cc)
more_at (x ∷ bs) b zero h = inl (h, refl)
more_at (x ∷ bs) b (suc n) h =
    ⊎_elim (λ p. inl (p.0, ap (λ k. one x.kind + k) p.1)) (λ p. inr (let e = p.0 in omega (arith, e), p.1, ap (λ k. one x.kind + k) p.2)) (more_at bs b n h)

pub still_at : (bs : Blocks) (b : Block) (n : ℕ) → Heap bs n → Heap (bs ++ b ∷ []) n
still_at [] b n h = absurd (let f : false ≡ true = h in cc)
still_at (x ∷ bs) b zero h = h
still_at (x ∷ bs) b (suc n) h = still_at bs b n h

one_none : (kind : BlockKind) → is_heap kind ≡ false → one kind ≡ 0
one_none kind h = ap (λ b. if b then 1 else 0) h

-- an object that isn't allocated is made
pub tame_more : (bs : Blocks) (b : Block) → is_heap b.kind ≡ false → Tame bs (bs ++ b ∷ [])
tame_more bs b e = record {
  count = let a = heaps_more bs b in let z = one_none b.kind e in omega (arith, a, z);
  held = λ n h. ⊎_elim (λ p. p) (λ p. absurd (let f : false ≡ true = sym e ∙ p.1 in cc)) (more_at bs b n h);
}

one_some : (kind : BlockKind) → is_heap kind ≡ true → one kind ≡ 1
one_some kind h = ap (λ b. if b then 1 else 0) h

-- an allocated block is counted
pub before_below : (bs : Blocks) (n : ℕ) → Heap bs n → heaps_before n bs < heaps bs
before_below [] n h = absurd (let f : false ≡ true = h in cc)
before_below (x ∷ bs) zero h = let e = one_some x.kind (and_parts x.live (is_heap x.kind) h).1 in omega (arith, e)
before_below (x ∷ bs) (suc n) h = let e = before_below bs n h in omega (arith, e)
