-- The node that stands so many levels above another.
use Rattle.std.proofs.Common.{zero, suc, ◌≡◌, ◌⊎◌, ⊎_elim, ℕ, ◌+◌, ◌-◌, ◌*◌, ◌/◌, ◌^◌, ◌<◌, ◌≤◌, List, length, get_or, take, drop, replicate, refl, sym, ap, ◌∙◌, subst, arith}
use Rattle.std.proofs.lemmas.Bool.{cases_lt}
use Rattle.std.proofs.lemmas.List.{get_or-take, get_or-drop, get_or_past, length-take, length-take-le, length-drop, length-replicate, get_or-replicate, ext_get_or}
use Rattle.std.proofs.Math.Nat.{pow-succ', pow-le-pow_right}
use Rattle.max_tree.specs.Tree.{Greatest}

abbrev pub above : ℕ → ℕ → ℕ
above zero j = j
above (suc h) j = above h (j / 2)

pub above_le : (h j : ℕ) → above h j ≤ j
above_le zero j = omega arith
above_le (suc h) j = omega (arith, above_le h (j / 2))

-- one level more
pub above_more : (h j : ℕ) → above (suc h) j ≡ above h j / 2
above_more zero j = refl
above_more (suc h) j = above_more h (j / 2)

-- from a level that has the nodes from 2 ^ h on one comes to the root at most
pub above_some : (h j : ℕ) → 2 ^ h ≤ j → 1 ≤ above h j
above_some zero j le = le
above_some (suc h) j le = let e = pow-succ' 2 h in above_some h (j / 2) (omega (arith, e, le))

-- what stands above is at least as large
pub above_greater : (n : ℕ) (nodes : List ℕ) → Greatest n nodes → (h j : ℕ) → j < 2 * n → 1 ≤ above h j → get_or nodes j 0 ≤ get_or nodes (above h j) 0
above_greater n nodes g zero j lt some = omega arith
above_greater n nodes g (suc h) j lt some =
    let below = above_le h (j / 2) in
    let up = above_greater n nodes g h (j / 2) (omega (arith, lt)) some in
    let here : get_or nodes j 0 ≤ get_or nodes (j / 2) 0 = child n nodes g (j / 2) j (omega (arith, below, some)) (omega (arith, lt)) refl in
    omega (arith, up, here)
  where
    child : (n : ℕ) (nodes : List ℕ) → Greatest n nodes → (q j : ℕ) → 1 ≤ q → q < n → q ≡ j / 2 → get_or nodes j 0 ≤ get_or nodes q 0
    child n nodes g q j some lt e = let m = g.greater q some lt in grind (arith, m)

pub above_less : (h j : ℕ) → j < 2 * 2 ^ h → above h j < 2
above_less zero j lt = lt
above_less (suc h) j lt = let e = pow-succ' 2 h in above_less h (j / 2) (omega (arith, e, lt))

-- on the way down from the root, lv levels below it, at a node that is large enough, where each leaf on its left is not
abbrev pub At : (leaves levels lv node least : ℕ) → List ℕ → Type 0
At leaves levels lv node least nodes = (2 ^ lv ≤ node) × (node < 2 * 2 ^ lv) × (1 ≤ node) × (least ≤ get_or nodes node 0) × ((j : ℕ) → leaves ≤ j → j < 2 * leaves → above (levels - lv) j < node → get_or nodes j 0 < least)

pub at_root : (leaves levels least : ℕ) (nodes : List ℕ) → leaves ≡ 2 ^ levels → least ≤ get_or nodes 1 0 → At leaves levels 0 1 least nodes
at_root leaves levels least nodes power some = (
  omega arith,
  omega arith,
  omega arith,
  some,
  λ j le lt up.
      let e : levels - 0 ≡ levels = omega arith in
      let low = above_some levels j (omega (arith, le, power)) in
      let high : above levels j < 1 = subst (λ (h : ℕ). above h j < 1) e up in
      absurd (omega (arith, low, high)),
)

pub inner : (leaves levels lv node : ℕ) → leaves ≡ 2 ^ levels → lv < levels → node < 2 * 2 ^ lv → node < leaves
inner leaves levels lv node power lt high =
    let p = pow-succ' 2 lv in
    let q : 2 ^ suc lv ≤ 2 ^ levels = pow-le-pow_right (omega arith) (omega (arith, lt)) in
    omega (arith, power, p, q, high)

pub at_child : (leaves levels lv node least next : ℕ) (nodes : List ℕ) → Greatest leaves nodes → leaves ≡ 2 ^ levels → lv < levels → At leaves levels lv node least nodes
    → ((next ≡ 2 * node) × (least ≤ get_or nodes (2 * node) 0)) ⊎ ((next ≡ 2 * node + 1) × (get_or nodes (2 * node) 0 < least)) → At leaves levels (lv + 1) next least nodes
at_child leaves levels lv node least next nodes g power lt a way =
    let p = pow-succ' 2 lv in
    let s : lv + 1 ≡ suc lv = omega arith in
    let q : 2 ^ (lv + 1) ≡ 2 * 2 ^ lv = ap (λ (k : ℕ). 2 ^ k) s ∙ p in
    let inside = inner leaves levels lv node power lt a.1 in
    let e : levels - lv ≡ suc (levels - (lv + 1)) = omega (arith, lt) in
    let left : (j : ℕ) → leaves ≤ j → j < 2 * leaves → above (levels - (lv + 1)) j < 2 * node → get_or nodes j 0 < least = λ j le more up.
    let m = above_more (levels - (lv + 1)) j in
    a.4 j le more (subst (λ (h : ℕ). above h j < node) (sym e) (omega (arith, m, up))) in
    ⊎_elim
    (λ (w : (next ≡ 2 * node) × (least ≤ get_or nodes (2 * node) 0)). (
      omega (arith, q, w.0, a.0),
      omega (arith, q, w.0, a.1),
      omega (arith, w.0, a.2),
      subst (λ (k : ℕ). least ≤ get_or nodes k 0) (sym w.0) w.1,
      λ j le more up. left j le more (omega (arith, up, w.0)),
    ))
    (λ (w : (next ≡ 2 * node + 1) × (get_or nodes (2 * node) 0 < least)).
    let greater = g.greater node a.2 inside in
    let found : least ≤ get_or nodes (2 * node + 1) 0 = omega (arith, greater, a.3, w.1) in (
      omega (arith, q, w.0, a.0),
      omega (arith, q, w.0, a.1),
      omega (arith, w.0, a.2),
      subst (λ (k : ℕ). least ≤ get_or nodes k 0) (sym w.0) found,
      λ j le more up. ⊎_elim
          (λ (x : above (levels - (lv + 1)) j < 2 * node). left j le more x)
          (λ (x : 2 * node ≤ above (levels - (lv + 1)) j).
          let same : above (levels - (lv + 1)) j ≡ 2 * node = omega (arith, x, up, w.0) in
          let higher = above_greater leaves nodes g (levels - (lv + 1)) j more (omega (arith, x, a.2)) in
          let here : get_or nodes j 0 ≤ get_or nodes (2 * node) 0 = subst (λ (k : ℕ). get_or nodes j 0 ≤ get_or nodes k 0) same higher in
          omega (arith, here, w.1))
          (cases_lt (above (levels - (lv + 1)) j) (2 * node)),
    ))
    way

-- the leaves as a row

pub row_get : (count leaves : ℕ) (nodes : List ℕ) (k : ℕ) → k < count → get_or (take count (drop leaves nodes)) k 0 ≡ get_or nodes (leaves + k) 0
row_get count leaves nodes k lt = get_or-take count (drop leaves nodes) k 0 lt ∙ get_or-drop leaves nodes k 0

row_past : (count leaves : ℕ) (nodes : List ℕ) (k : ℕ) → count ≤ k → get_or (take count (drop leaves nodes)) k 0 ≡ 0
row_past count leaves nodes k le = get_or_past (take count (drop leaves nodes)) k 0 (let e = length-take count (drop leaves nodes) in omega (arith, e, le))

pub row_below : (count leaves least : ℕ) (nodes : List ℕ) → 0 < least → ((j : ℕ) → leaves ≤ j → j < leaves + count → get_or nodes j 0 < least) → (k : ℕ) → get_or (take count (drop leaves nodes)) k 0 < least
row_below count leaves least nodes some f k = ⊎_elim
    (λ (lt : k < count). let e = row_get count leaves nodes k lt in let h = f (leaves + k) (omega arith) (omega (arith, lt)) in omega (arith, e, h))
    (λ (le : count ≤ k). let e = row_past count leaves nodes k le in omega (arith, e, some))
    (cases_lt k count)

-- no leaf is larger than the root
pub root_greatest : (leaves levels : ℕ) (nodes : List ℕ) → Greatest leaves nodes → leaves ≡ 2 ^ levels → (j : ℕ) → leaves ≤ j → j < 2 * leaves → get_or nodes j 0 ≤ get_or nodes 1 0
root_greatest leaves levels nodes g power j le lt =
    let low = above_some levels j (omega (arith, le, power)) in
    let high = above_less levels j (omega (arith, lt, power)) in
    let one : above levels j ≡ 1 = omega (arith, low, high) in
    subst (λ (k : ℕ). get_or nodes j 0 ≤ get_or nodes k 0) one (above_greater leaves nodes g levels j lt low)

pub zero_row : (count leaves : ℕ) (nodes : List ℕ) → count ≤ leaves → nodes ≡ replicate (2 * leaves) 0 → take count (drop leaves nodes) ≡ replicate count 0
zero_row count leaves nodes le e =
    let zeros : List ℕ = replicate (2 * leaves) 0 in
    let all = length-replicate {A = ℕ} (2 * leaves) 0 in
    let rest = length-drop {A = ℕ} leaves zeros in
    let front = length-take-le count (drop leaves zeros) (omega (arith, le, all, rest)) in
    let few = length-replicate {A = ℕ} count 0 in
    ap (λ (l : List ℕ). take count (drop leaves l)) e ∙ ext_get_or 0 (take count (drop leaves zeros)) (replicate count 0) (front ∙ sym few)
    (λ i lt. let within : i < count = omega (arith, lt, front) in
    row_get count leaves zeros i within ∙ get_or-replicate (2 * leaves) (leaves + i) 0 0 (omega (arith, within, le)) ∙ sym (get_or-replicate count i 0 0 within))
