-- Bounds on a number by its bytes.
use Rattle.std.proofs.Common.{◌≡◌, ℕ, ◌+◌, ◌*◌, ◌^◌, ◌<◌, ◌≤◌, ⊎_elim, ap, ◌∙◌, arith, lit≤}
use Rattle.std.proofs.lemmas.Bool.{cases_lt}
use Rattle.std.proofs.lemmas.Nat.{pow-add, pow_below}

next : (count : ℕ) → 2 ^ (8 * (count + 1)) ≡ 256 * 2 ^ (8 * count)
next count =
    let e : 8 * (count + 1) ≡ 8 + 8 * count = omega arith in
    ap (λ k. 2 ^ k) e ∙ pow-add 2 8 (8 * count)

at_most : (count : ℕ) → count < 8 → 256 * 2 ^ (8 * count) ≤ 2 ^ 64
at_most count h =
    ⊎_elim (λ l. let p = pow_below (8 * (count + 1)) 64 (omega (arith, l)) in omega (arith, p, next count))
    (λ l. let e : count ≡ 7 = omega (arith, l, h) in rw e (lit≤ tt)) (cases_lt count 7)

-- one byte more
pub limit : (count rest byte : ℕ) → count < 8 → rest < 2 ^ (8 * count) → byte < 256 → (byte + 256 * rest < 2 ^ (8 * (count + 1))) × (byte + 256 * rest < 2 ^ 64)
limit count rest byte h r b =
    let n = next count in
    let a = at_most count h in
    (omega (arith, n, r, b), omega (arith, a, r, b))
