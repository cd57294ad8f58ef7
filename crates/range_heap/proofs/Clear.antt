-- Blocks that stay clear of an interval.
use Rattle.std.proofs.Common.{zero, suc, ◌≡◌, ◌≢◌, ◌⊎◌, ⊎_elim, inl, inr, ℕ, ◌+◌, ◌*◌, ◌/◌, ◌%◌, ◌<◌, ◌≤◌, Bool, true, false, cond, nat_eq, List, [], ◌∷◌, Option, Some, None, refl, sym, ap, ◌∙◌, subst, arith}
use Rattle.std.proofs.lemmas.Bool.Decides.{eqb_tells}
use Rattle.std.specs.Prelude.{is_some}
use Rattle.range_heap.specs.Blocks.{rounded, Block, without, size_in, IsClear, AllApart}

pub rounded_some : (s : ℕ) → 16 ≤ rounded s
rounded_some s = omega arith

pub rounded_not_below : (s : ℕ) → s ≤ rounded s
rounded_not_below s = omega arith

pub rounded_multiple : (s : ℕ) → rounded s % 16 ≡ 0
rounded_multiple s = omega arith

pub rounded_units : (s : ℕ) → 16 * (rounded s / 16) ≡ rounded s
rounded_units s = omega arith

pub rounded_least : (s m : ℕ) → 0 < m → m % 16 ≡ 0 → s ≤ m → rounded s ≤ m
rounded_least s m pos mult le = omega (arith, pos, mult, le)

-- a part of a clear interval is clear
pub clear_part : (bs : List Block) (at n to m : ℕ) → at ≤ to → to + m ≤ at + n → IsClear bs at n → IsClear bs to m
clear_part [] at n to m le end c = tt
clear_part (b ∷ bs) at n to m le end c = (⊎_elim (λ (x : at + n ≤ b.place). inl (omega (arith, x, end))) (λ (x : b.place + rounded b.size ≤ at). inr (omega (arith, x, le))) c.0, clear_part bs at n to m le end c.1)

-- two clear intervals side by side are one
pub clear_joined : (bs : List Block) (at n m : ℕ) → IsClear bs at n → IsClear bs (at + n) m → IsClear bs at (n + m)
clear_joined [] at n m c d = tt
clear_joined (b ∷ bs) at n m c d = (
  ⊎_elim
      (λ (x : at + n ≤ b.place). ⊎_elim (λ (y : at + n + m ≤ b.place). inl (omega (arith, y))) (λ (y : b.place + rounded b.size ≤ at + n). absurd (omega (arith, x, y, rounded_some b.size))) d.0)
      (λ (x : b.place + rounded b.size ≤ at). inr x) c.0,
  clear_joined bs at n m c.1 d.1,
)

-- so units of 16 that are clear, one after another, make a clear interval
pub clear_units : (bs : List Block) (at m : ℕ) → ((k : ℕ) → k < m + 1 → IsClear bs (at + 16 * k) 16) → IsClear bs at (16 * (m + 1))
clear_units bs at zero f = subst (λ (q : ℕ). IsClear bs q 16) (omega arith) (f 0 (omega arith))
clear_units bs at (suc m) f =
    let first : IsClear bs at (16 * (m + 1)) = clear_units bs at m (λ k lt. f k (omega (arith, lt))) in
    let last : IsClear bs (at + 16 * (m + 1)) 16 = f (m + 1) (omega arith) in
    let same : 16 * (m + 1) + 16 ≡ 16 * (suc m + 1) = omega arith in
    subst (λ (n : ℕ). IsClear bs at n) same (clear_joined bs at (16 * (m + 1)) 16 first last)

abbrev pub nothing : Option ℕ
nothing = None

pub none_some : {P : Type 0} (s : ℕ) → nothing ≡ Some s → P
none_some s e = absurd (cc)

pub some_same : (a b : ℕ) → Some a ≡ Some b → a ≡ b
some_same a b e = cc

-- an interval that is clear meets no block of these
pub clear_of : (bs : List Block) (at n p s : ℕ) → IsClear bs at n → size_in p bs ≡ Some s → (at + n ≤ p) ⊎ (p + rounded s ≤ at)
clear_of [] at n p s c e = none_some s e
clear_of (b ∷ bs) at n p s c e = ⊎_elim
    (λ (q : (nat_eq b.place p ≡ true) × (b.place ≡ p)).
    let f : Some b.size ≡ Some s = subst (λ (t : Bool). cond t (Some b.size) (size_in p bs) ≡ Some s) q.0 e in
    let g : b.size ≡ s = some_same b.size s f in
    subst (λ (x : ℕ). (at + n ≤ x) ⊎ (x + rounded s ≤ at)) q.1 (subst (λ (x : ℕ). (at + n ≤ b.place) ⊎ (b.place + rounded x ≤ at)) g c.0))
    (λ (q : (nat_eq b.place p ≡ false) × (b.place ≢ p)).
    clear_of bs at n p s c.1 (subst (λ (t : Bool). cond t (Some b.size) (size_in p bs) ≡ Some s) q.0 e))
    (eqb_tells b.place p)

-- the blocks without one of them
pub clear_without : (bs : List Block) (p at n : ℕ) → IsClear bs at n → IsClear (without p bs) at n
clear_without [] p at n c = tt
clear_without (b ∷ bs) p at n c = go (nat_eq b.place p) (clear_without bs p at n c.1)
  where
    go : (t : Bool) → IsClear (without p bs) at n → IsClear (cond t (without p bs) (b ∷ without p bs)) at n
    go true d = d
    go false d = (c.0, d)

pub apart_without : (bs : List Block) (p : ℕ) → AllApart bs → AllApart (without p bs)
apart_without [] p a = tt
apart_without (b ∷ bs) p a = go (nat_eq b.place p) (apart_without bs p a.1)
  where
    go : (t : Bool) → AllApart (without p bs) → AllApart (cond t (without p bs) (b ∷ without p bs))
    go true d = d
    go false d = (clear_without bs p b.place (rounded b.size) a.0, d)

-- a clear interval that is not empty begins no block
pub without_none : (bs : List Block) (p n : ℕ) → 0 < n → IsClear bs p n → without p bs ≡ bs
without_none [] p n pos c = refl
without_none (b ∷ bs) p n pos c = ⊎_elim
    (λ (q : (nat_eq b.place p ≡ true) × (b.place ≡ p)).
    absurd (⊎_elim {C = ⊥} (λ (x : p + n ≤ b.place). omega (arith, x, pos, q.1)) (λ (x : b.place + rounded b.size ≤ p). omega (arith, x, q.1, rounded_some b.size)) c.0))
    (λ (q : (nat_eq b.place p ≡ false) × (b.place ≢ p)).
    ap (λ (t : Bool). cond t (without p bs) (b ∷ without p bs)) q.0 ∙ ap (λ l. b ∷ l) (without_none bs p n pos c.1))
    (eqb_tells b.place p)

-- what was a block is clear of all others
pub clear_after : (bs : List Block) (p s : ℕ) → AllApart bs → size_in p bs ≡ Some s → IsClear (without p bs) p (rounded s)
clear_after [] p s a e = none_some s e
clear_after (b ∷ bs) p s a e = ⊎_elim
    (λ (q : (nat_eq b.place p ≡ true) × (b.place ≡ p)).
    let f : Some b.size ≡ Some s = subst (λ (t : Bool). cond t (Some b.size) (size_in p bs) ≡ Some s) q.0 e in
    let g : b.size ≡ s = some_same b.size s f in
    subst (λ (t : Bool). IsClear (cond t (without p bs) (b ∷ without p bs)) p (rounded s)) (sym q.0)
    (clear_without bs p p (rounded s) (subst (λ (x : ℕ). IsClear bs x (rounded s)) q.1 (subst (λ (x : ℕ). IsClear bs b.place (rounded x)) g a.0))))
    (λ (q : (nat_eq b.place p ≡ false) × (b.place ≢ p)).
    let f : size_in p bs ≡ Some s = subst (λ (t : Bool). cond t (Some b.size) (size_in p bs) ≡ Some s) q.0 e in
    let apart : (b.place + rounded b.size ≤ p) ⊎ (p + rounded s ≤ b.place) = clear_of bs b.place (rounded b.size) p s a.0 f in
    subst (λ (t : Bool). IsClear (cond t (without p bs) (b ∷ without p bs)) p (rounded s)) (sym q.0)
    (⊎_elim (λ (x : b.place + rounded b.size ≤ p). inr x) (λ (x : p + rounded s ≤ b.place). inl x) apart, clear_after bs p s a.1 f))
    (eqb_tells b.place p)

-- what is clear of the others and of a block is clear of all
pub clear_again : (bs : List Block) (p s at n : ℕ) → AllApart bs → size_in p bs ≡ Some s → (at + n ≤ p) ⊎ (p + rounded s ≤ at) → IsClear (without p bs) at n → IsClear bs at n
clear_again [] p s at n a e o c = tt
clear_again (b ∷ bs) p s at n a e o c = ⊎_elim
    (λ (q : (nat_eq b.place p ≡ true) × (b.place ≡ p)).
    let f : Some b.size ≡ Some s = subst (λ (t : Bool). cond t (Some b.size) (size_in p bs) ≡ Some s) q.0 e in
    let g : b.size ≡ s = some_same b.size s f in
    let others : IsClear bs p (rounded s) = subst (λ (x : ℕ). IsClear bs x (rounded s)) q.1 (subst (λ (x : ℕ). IsClear bs b.place (rounded x)) g a.0) in
    let rest : IsClear (without p bs) at n = subst (λ (t : Bool). IsClear (cond t (without p bs) (b ∷ without p bs)) at n) q.0 c in (
      subst (λ (x : ℕ). (at + n ≤ x) ⊎ (x + rounded b.size ≤ at)) (sym q.1) (subst (λ (x : ℕ). (at + n ≤ p) ⊎ (p + rounded x ≤ at)) (sym g) o),
      subst (λ l. IsClear l at n) (without_none bs p (rounded s) (omega (arith, rounded_some s)) others) rest,
    ))
    (λ (q : (nat_eq b.place p ≡ false) × (b.place ≢ p)).
    let f : size_in p bs ≡ Some s = subst (λ (t : Bool). cond t (Some b.size) (size_in p bs) ≡ Some s) q.0 e in
    let rest : IsClear (b ∷ without p bs) at n = subst (λ (t : Bool). IsClear (cond t (without p bs) (b ∷ without p bs)) at n) q.0 c in
    (rest.0, clear_again bs p s at n a.1 f o rest.1))
    (eqb_tells b.place p)

pub size_without : (bs : List Block) (p q : ℕ) → size_in q (without p bs) ≡ cond (nat_eq p q) None (size_in q bs)
size_without [] p q = go (nat_eq p q)
  where
    go : (t : Bool) → nothing ≡ cond t nothing nothing
    go true = refl
    go false = refl
size_without (b ∷ bs) p q = ⊎_elim
    (λ (x : (nat_eq b.place p ≡ true) × (b.place ≡ p)).
    ap (λ (t : Bool). size_in q (cond t (without p bs) (b ∷ without p bs))) x.0 ∙ size_without bs p q
    ∙ subst (λ (z : ℕ). cond (nat_eq z q) None (size_in q bs) ≡ cond (nat_eq z q) None (cond (nat_eq b.place q) (Some b.size) (size_in q bs))) x.1 (go (nat_eq b.place q)))
    (λ (x : (nat_eq b.place p ≡ false) × (b.place ≢ p)).
    ap (λ (t : Bool). size_in q (cond t (without p bs) (b ∷ without p bs))) x.0 ∙ ⊎_elim
    (λ (y : (nat_eq b.place q ≡ true) × (b.place ≡ q)). ⊎_elim
    (λ (z : (nat_eq p q ≡ true) × (p ≡ q)). absurd (x.1 (y.1 ∙ sym z.1)))
    (λ (z : (nat_eq p q ≡ false) × (p ≢ q)).
    ap (λ (t : Bool). cond t (Some b.size) (size_in q (without p bs))) y.0 ∙ sym (ap (λ (t : Bool). cond t None (cond (nat_eq b.place q) (Some b.size) (size_in q bs))) z.0 ∙ ap (λ (t : Bool). cond t (Some b.size) (size_in q bs)) y.0))
    (eqb_tells p q))
    (λ (y : (nat_eq b.place q ≡ false) × (b.place ≢ q)).
    ap (λ (t : Bool). cond t (Some b.size) (size_in q (without p bs))) y.0 ∙ size_without bs p q ∙ sym (ap (λ (t : Bool). cond (nat_eq p q) None (cond t (Some b.size) (size_in q bs))) y.0))
    (eqb_tells b.place q))
    (eqb_tells b.place p)
  where
    go : (t : Bool) → cond t None (size_in q bs) ≡ cond t None (cond t (Some b.size) (size_in q bs))
    go true = refl
    go false = refl

pub some_of : (o : Option ℕ) → is_some o ≡ true → (s : ℕ) × (o ≡ Some s)
some_of None e = absurd (cc)
some_of (Some s) e = (s, refl)
