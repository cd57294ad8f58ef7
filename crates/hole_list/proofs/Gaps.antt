-- Lists of holes: which units lie in one, and what a change of a few holes changes.
use Rattle.std.proofs.Common.{◌≡◌, ◌⊎◌, ⊎_elim, inl, inr, ℕ, ◌+◌, ◌-◌, ◌*◌, ◌<◌, ◌≤◌, Bool, true, false, List, [], ◌∷◌, ◌++◌, length, get_or, replicate, refl, sym, ap, ◌∙◌, subst, arith, length-append, zero-add, append_assoc, take, drop, suc, zero}
use Rattle.std.proofs.lemmas.Bool.{cases_lt}
use Rattle.std.proofs.lemmas.List.{get_or-append_right, get_or_append_left, get_or-replicate, get_or_past, append-nil, length-replicate, take-append-drop, drop_more, get_or-take, length-take-le}
use Rattle.hole_list.specs.Units.{IsRun, IsLowestRun, Marked, runs_after, run_count}
use Rattle.hole_list.specs.Shape.{units_from, Apart}
use Rattle.hole_list.specs.declared.gap.Hole.{Hole}

abbrev pub Inside : Hole → ℕ → Type 0
Inside h k = (h.start ≤ k) × (k < h.start + h.len)

-- unit k lies in a hole
abbrev pub Free : List Hole → ℕ → Type 0
Free [] k = ⊥
Free (h ∷ hs) k = Inside h k ⊎ Free hs k

pub apart_weaker : (low lower end : ℕ) (hs : List Hole) → lower ≤ low → Apart low end hs → Apart lower end hs
apart_weaker low lower end [] le a = tt
apart_weaker low lower end (h ∷ hs) le a = (omega (arith, a.0, le), a.1, a.2, a.3)

pub free_bounds : (low end : ℕ) (hs : List Hole) (k : ℕ) → Apart low end hs → Free hs k → (low ≤ k) × (k < end)
free_bounds low end [] k a f = absurd f
free_bounds low end (h ∷ hs) k a (inl i) = (omega (arith, a.0, i.0), omega (arith, a.2, i.1))
free_bounds low end (h ∷ hs) k a (inr f) = let b = free_bounds (h.start + h.len + 1) end hs k a.3 f in (omega (arith, a.0, b.0), b.1)

pub free_append : (xs ys : List Hole) (k : ℕ) → Free (xs ++ ys) k → Free xs k ⊎ Free ys k
free_append [] ys k f = inr f
free_append (x ∷ xs) ys k (inl i) = inl (inl i)
free_append (x ∷ xs) ys k (inr f) = ⊎_elim (λ g. inl (inr g)) (λ g. inr g) (free_append xs ys k f)

pub free_left : (xs ys : List Hole) (k : ℕ) → Free xs k → Free (xs ++ ys) k
free_left [] ys k f = absurd f
free_left (x ∷ xs) ys k (inl i) = inl i
free_left (x ∷ xs) ys k (inr f) = inr (free_left xs ys k f)

pub free_right : (xs ys : List Hole) (k : ℕ) → Free ys k → Free (xs ++ ys) k
free_right [] ys k f = f
free_right (x ∷ xs) ys k f = inr (free_right xs ys k f)

-- the lowest place of a hole behind these
abbrev pub next : ℕ → List Hole → ℕ
next low [] = low
next low (h ∷ hs) = next (h.start + h.len + 1) hs

pub next_above : (low end : ℕ) (xs : List Hole) → Apart low end xs → low ≤ next low xs
next_above low end [] a = omega arith
next_above low end (h ∷ hs) a = omega (arith, a.0, next_above (h.start + h.len + 1) end hs a.3)

pub free_below : (low end : ℕ) (xs : List Hole) (k : ℕ) → Apart low end xs → Free xs k → k + 1 < next low xs
free_below low end [] k a f = absurd f
free_below low end (h ∷ hs) k a (inl i) = omega (arith, i.1, next_above (h.start + h.len + 1) end hs a.3)
free_below low end (h ∷ hs) k a (inr f) = free_below (h.start + h.len + 1) end hs k a.3 f

pub apart_front : (low end : ℕ) (xs ys : List Hole) → Apart low end (xs ++ ys) → Apart low end xs
apart_front low end [] ys a = tt
apart_front low end (h ∷ hs) ys a = (a.0, a.1, a.2, apart_front (h.start + h.len + 1) end hs ys a.3)

pub apart_rest : (low end : ℕ) (xs ys : List Hole) → Apart low end (xs ++ ys) → Apart (next low xs) end ys
apart_rest low end [] ys a = a
apart_rest low end (h ∷ hs) ys a = apart_rest (h.start + h.len + 1) end hs ys a.3

pub apart_join : (low end : ℕ) (xs ys : List Hole) → Apart low end xs → Apart (next low xs) end ys → Apart low end (xs ++ ys)
apart_join low end [] ys a b = b
apart_join low end (h ∷ hs) ys a b = (a.0, a.1, a.2, apart_join (h.start + h.len + 1) end hs ys a.3 b)

-- the units as a list, and which of them are free

false_or_true : (b : Bool) → (b ≡ false) ⊎ (b ≡ true)
false_or_true false = inl refl
false_or_true true = inr refl

pub no_true : {P : Type 0} (b : Bool) → b ≡ false → b ≡ true → P
no_true b e f = absurd (cc)

pub same_tests : (b c : Bool) → (b ≡ true → c ≡ true) → (c ≡ true → b ≡ true) → b ≡ c
same_tests false false f g = refl
same_tests false true f g = g refl
same_tests true false f g = sym (f refl)
same_tests true true f g = refl

pub not_test : (b : Bool) → (b ≡ true → ⊥) → b ≡ false
not_test false f = refl
not_test true f = absurd (f refl)

at_none : (n k : ℕ) → get_or (replicate n false) k false ≡ false
at_none n k = ⊎_elim (λ lt. get_or-replicate n k false false lt) (λ le. get_or_past (replicate n false) k false (let e = length-replicate n false in omega (arith, e, le))) (cases_lt k n)

pub length_units : (at end : ℕ) (hs : List Hole) → at ≤ end → Apart at end hs → length (units_from at end hs) ≡ end - at
length_units at end [] le a = length-replicate (end - at) false
length_units at end (h ∷ hs) le a =
    let i = length_units (h.start + h.len) end hs a.2 (apart_weaker (h.start + h.len + 1) (h.start + h.len) end hs (omega arith) a.3) in
    let e1 = length-append (replicate (h.start - at) false ++ replicate h.len true) (units_from (h.start + h.len) end hs) in
    let e2 = length-append (replicate (h.start - at) false) (replicate h.len true) in
    let e3 = length-replicate (h.start - at) false in
    let e4 = length-replicate h.len true in
    omega (arith, i, e1, e2, e3, e4, a.0, a.2)

-- a unit is free just where it lies in a hole
pub free_unit : (at end : ℕ) (hs : List Hole) (k : ℕ) → at ≤ end → Apart at end hs → get_or (units_from at end hs) k false ≡ true → Free hs (at + k)
free_unit at end [] k le a e = no_true (get_or (replicate (end - at) false) k false) (at_none (end - at) k) e
free_unit at end (h ∷ hs) k le a e =
    let gap = replicate (h.start - at) false in
    let run = replicate h.len true in
    let more = units_from (h.start + h.len) end hs in
    let lg : length gap ≡ h.start - at = length-replicate (h.start - at) false in
    let lr : length run ≡ h.len = length-replicate h.len true in
    let lf : length (gap ++ run) ≡ length gap + length run = length-append gap run in
    let rest : Apart (h.start + h.len) end hs = apart_weaker (h.start + h.len + 1) (h.start + h.len) end hs (omega arith) a.3 in
    ⊎_elim
    (λ (lt : k < h.start - at).
    let e1 : get_or ((gap ++ run) ++ more) k false ≡ get_or (gap ++ run) k false = get_or_append_left (gap ++ run) more false k (omega (arith, lg, lf, lt)) in
    let e2 : get_or (gap ++ run) k false ≡ get_or gap k false = get_or_append_left gap run false k (omega (arith, lg, lt)) in
    no_true (get_or gap k false) (at_none (h.start - at) k) (sym e2 ∙ sym e1 ∙ e))
    (λ (ge : h.start - at ≤ k). ⊎_elim
    (λ (lt : k < (h.start - at) + h.len). inl (omega (arith, ge, a.0, le), omega (arith, lt, a.0, ge)))
    (λ (past : (h.start - at) + h.len ≤ k).
    let e1 : get_or ((gap ++ run) ++ more) k false ≡ get_or more (k - ((h.start - at) + h.len)) false = get_or-append_right (gap ++ run) more ((h.start - at) + h.len) k false (omega (arith, lg, lr, lf)) past in
    let f : Free hs ((h.start + h.len) + (k - ((h.start - at) + h.len))) = free_unit (h.start + h.len) end hs (k - ((h.start - at) + h.len)) a.2 rest (sym e1 ∙ e) in
    let same : (h.start + h.len) + (k - ((h.start - at) + h.len)) ≡ at + k = omega (arith, past, a.0) in
    inr (subst (λ j. Free hs j) same f))
    (cases_lt k ((h.start - at) + h.len)))
    (cases_lt k (h.start - at))

pub unit_free : (at end : ℕ) (hs : List Hole) (k : ℕ) → at ≤ end → Apart at end hs → Free hs (at + k) → get_or (units_from at end hs) k false ≡ true
unit_free at end [] k le a f = absurd f
unit_free at end (h ∷ hs) k le a (inl i) =
    let gap = replicate (h.start - at) false in
    let run = replicate h.len true in
    let more = units_from (h.start + h.len) end hs in
    let lg : length gap ≡ h.start - at = length-replicate (h.start - at) false in
    let lr : length run ≡ h.len = length-replicate h.len true in
    let lf : length (gap ++ run) ≡ length gap + length run = length-append gap run in
    let e1 : get_or ((gap ++ run) ++ more) k false ≡ get_or (gap ++ run) k false = get_or_append_left (gap ++ run) more false k (omega (arith, lg, lr, lf, i.1, a.0)) in
    let e2 : get_or (gap ++ run) k false ≡ get_or run (k - (h.start - at)) false = get_or-append_right gap run (h.start - at) k false lg (omega (arith, i.0)) in
    e1 ∙ e2 ∙ get_or-replicate h.len (k - (h.start - at)) true false (omega (arith, i.0, i.1, a.0, a.1))
unit_free at end (h ∷ hs) k le a (inr f) =
    let gap = replicate (h.start - at) false in
    let run = replicate h.len true in
    let more = units_from (h.start + h.len) end hs in
    let lg : length gap ≡ h.start - at = length-replicate (h.start - at) false in
    let lr : length run ≡ h.len = length-replicate h.len true in
    let lf : length (gap ++ run) ≡ length gap + length run = length-append gap run in
    let rest : Apart (h.start + h.len) end hs = apart_weaker (h.start + h.len + 1) (h.start + h.len) end hs (omega arith) a.3 in
    let b = free_bounds (h.start + h.len + 1) end hs (at + k) a.3 f in
    let e1 : get_or ((gap ++ run) ++ more) k false ≡ get_or more (k - ((h.start - at) + h.len)) false = get_or-append_right (gap ++ run) more ((h.start - at) + h.len) k false (omega (arith, lg, lr, lf)) (omega (arith, b.0, a.0)) in
    let same : at + k ≡ (h.start + h.len) + (k - ((h.start - at) + h.len)) = omega (arith, b.0, a.0) in
    e1 ∙ unit_free (h.start + h.len) end hs (k - ((h.start - at) + h.len)) a.2 rest (subst (λ j. Free hs j) same f)

pub free_is : (end : ℕ) (hs : List Hole) (k : ℕ) → Apart 0 end hs → get_or (units_from 0 end hs) k false ≡ true → Free hs k
free_is end hs k a e = subst (λ j. Free hs j) (zero-add k) (free_unit 0 end hs k (omega arith) a e)

pub is_free : (end : ℕ) (hs : List Hole) (k : ℕ) → Apart 0 end hs → Free hs k → get_or (units_from 0 end hs) k false ≡ true
is_free end hs k a f = unit_free 0 end hs k (omega arith) a (subst (λ j. Free hs j) (sym (zero-add k)) f)

-- how many runs there are

all_gap : (n : ℕ) (b : Bool) → runs_after b (replicate n false) ≡ 0
all_gap zero b = refl
all_gap (suc n) b = zero-add (runs_after false (replicate n false)) ∙ all_gap n false

gap_stays : (n : ℕ) (us : List Bool) → runs_after false (replicate n false ++ us) ≡ runs_after false us
gap_stays zero us = refl
gap_stays (suc n) us = zero-add (runs_after false (replicate n false ++ us)) ∙ gap_stays n us

gap_ends : (n : ℕ) (b : Bool) (us : List Bool) → 0 < n → runs_after b (replicate n false ++ us) ≡ runs_after false us
gap_ends zero b us p = absurd (omega (arith, p))
gap_ends (suc n) b us p = zero-add (runs_after false (replicate n false ++ us)) ∙ gap_stays n us

run_goes : (n : ℕ) (us : List Bool) → runs_after true (replicate n true ++ us) ≡ runs_after true us
run_goes zero us = refl
run_goes (suc n) us = zero-add (runs_after true (replicate n true ++ us)) ∙ run_goes n us

run_begins : (n : ℕ) (us : List Bool) → 0 < n → runs_after false (replicate n true ++ us) ≡ 1 + runs_after true us
run_begins zero us p = absurd (omega (arith, p))
run_begins (suc n) us p = ap (λ m. 1 + m) (run_goes n us)

runs_gap : (n : ℕ) (b : Bool) (us : List Bool) → (b ≡ true → 0 < n) → runs_after b (replicate n false ++ us) ≡ runs_after false us
runs_gap n false us p = gap_stays n us
runs_gap n true us p = gap_ends n true us (p refl)

runs_units : (at end : ℕ) (b : Bool) (hs : List Hole) → Apart at end hs → (b ≡ true → Apart (at + 1) end hs) → runs_after b (units_from at end hs) ≡ length hs
runs_units at end b [] a more = all_gap (end - at) b
runs_units at end b (h ∷ hs) a more =
    let gap = replicate (h.start - at) false in
    let run = replicate h.len true in
    let rest = units_from (h.start + h.len) end hs in
    let i : runs_after true rest ≡ length hs = runs_units (h.start + h.len) end true hs (apart_weaker (h.start + h.len + 1) (h.start + h.len) end hs (omega arith) a.3) (λ _. a.3) in
    let e1 : runs_after b ((gap ++ run) ++ rest) ≡ runs_after b (gap ++ (run ++ rest)) = ap (runs_after b) (append_assoc gap run rest) in
    let e2 : runs_after b (gap ++ (run ++ rest)) ≡ runs_after false (run ++ rest) = runs_gap (h.start - at) b (run ++ rest) (λ t. let m = more t in omega (arith, m.0)) in
    let e3 : runs_after false (run ++ rest) ≡ 1 + runs_after true rest = run_begins h.len rest a.1 in
    let e4 : runs_after b ((gap ++ run) ++ rest) ≡ 1 + runs_after true rest = e1 ∙ e2 ∙ e3 in
    omega (arith, e4, i)

pub count_is : (end : ℕ) (hs : List Hole) → Apart 0 end hs → run_count (units_from 0 end hs) ≡ length hs
count_is end hs a = runs_units 0 end false hs a (λ t. no_true false refl t)

pub count_bound : (low end : ℕ) (hs : List Hole) → low ≤ end + 1 → Apart low end hs → 2 * length hs + low ≤ end + 1
count_bound low end [] le a = omega (arith, le)
count_bound low end (h ∷ hs) le a = omega (arith, a.0, a.1, count_bound (h.start + h.len + 1) end hs (omega (arith, a.2)) a.3)

pub all_within : (low end : ℕ) (hs : List Hole) → Apart low end hs → (k : ℕ) (d : Hole) → k < length hs → ((get_or hs k d).start + (get_or hs k d).len ≤ end) × (0 < (get_or hs k d).len)
all_within low end [] a k d lt = absurd (omega (arith, lt))
all_within low end (h ∷ hs) a zero d lt = (a.2, a.1)
all_within low end (h ∷ hs) a (suc k) d lt = all_within (h.start + h.len + 1) end hs a.3 k d (omega (arith, lt))

pub first_above : (low end : ℕ) (hs : List Hole) (d : Hole) → Apart low end hs → 0 < length hs → low < (get_or hs 0 d).start + (get_or hs 0 d).len
first_above low end [] d a some = absurd (omega (arith, some))
first_above low end (h ∷ hs) d a some = omega (arith, a.0, a.1)

-- a list of holes, parted at one of them
pub parted : (hs : List Hole) (i : ℕ) (h : Hole) → i < length hs → h ≡ get_or hs i h → take i hs ++ h ∷ drop (i + 1) hs ≡ hs
parted hs i h lt e =
    let d : drop i hs ≡ get_or hs i h ∷ drop (i + 1) hs = drop_more hs i h lt in
    ap (λ x. take i hs ++ x ∷ drop (i + 1) hs) e ∙ ap (λ ys. take i hs ++ ys) (sym d) ∙ take-append-drop i hs

-- each of these holes has fewer than n units
abbrev pub Short : ℕ → List Hole → Type 0
Short n hs = (k : ℕ) (d : Hole) → k < length hs → (get_or hs k d).len < n

pub short_front : (n i : ℕ) (hs : List Hole) → i ≤ length hs → ((k : ℕ) (d : Hole) → k < i → (get_or hs k d).len < n) → Short n (take i hs)
short_front n i hs le s k d lt =
    let below : k < i = (let e = length-take-le i hs le in omega (arith, e, lt)) in
    subst (λ (h : Hole). h.len < n) (sym (get_or-take i hs k d below)) (s k d below)

-- a run that is longer than each of the holes in front lies behind them
pub skips : (low end : ℕ) (xs zs : List Hole) (j n : ℕ) → Apart low end (xs ++ zs) → Short n xs → 0 < n → ((k : ℕ) → j ≤ k → k < j + n → Free (xs ++ zs) k) → (k : ℕ) → j ≤ k → k < j + n → Free zs k
skips low end [] zs j n a s pos f k le lt = f k le lt
skips low end (x ∷ xs) zs j n a s pos f k le lt =
    let short : x.len < n = s 0 x (omega arith) in
    ⊎_elim
    (λ (near : j < x.start + x.len).
    ⊎_elim
    (λ (i : Inside x j). ⊎_elim
    (λ (q : Inside x (x.start + x.len)). absurd (omega (arith, q.1)))
    (λ (g : Free (xs ++ zs) (x.start + x.len)). let b = free_bounds (x.start + x.len + 1) end (xs ++ zs) (x.start + x.len) a.3 g in absurd (omega (arith, b.0)))
    (f (x.start + x.len) (omega (arith, near)) (omega (arith, short, i.0))))
    (λ (g : Free (xs ++ zs) j). let b = free_bounds (x.start + x.len + 1) end (xs ++ zs) j a.3 g in absurd (omega (arith, b.0, near)))
    (f j (omega arith) (omega (arith, pos))))
    (λ (far : x.start + x.len ≤ j).
    skips (x.start + x.len + 1) end xs zs j n a.3 (λ m d l. s (suc m) d (omega (arith, l))) pos
    (λ m ge l. ⊎_elim (λ (i : Inside x m). absurd (omega (arith, i.1, far, ge))) (λ g. g) (f m ge l)) k le lt)
    (cases_lt j (x.start + x.len))

pub no_run : (end : ℕ) (hs : List Hole) (n : ℕ) → Apart 0 end hs → 0 < n → Short n hs → (j : ℕ) → IsRun (units_from 0 end hs) j n → ⊥
no_run end hs n a pos s j r =
    skips 0 end hs [] j n (subst (λ l. Apart 0 end l) (sym (append-nil hs)) a) s pos
    (λ k le lt. free_left hs [] k (free_is end hs k a (r k le lt))) j (omega arith) (omega (arith, pos))

pub lowest_run : (end : ℕ) (xs ys : List Hole) (h : Hole) (n : ℕ) → Apart 0 end (xs ++ h ∷ ys) → 0 < n → Short n xs → n ≤ h.len → IsLowestRun (units_from 0 end (xs ++ h ∷ ys)) n h.start
lowest_run end xs ys h n a pos s fits = record {
  run = λ k le lt. is_free end (xs ++ h ∷ ys) k a (free_right xs (h ∷ ys) k (inl (le, omega (arith, lt, fits))));
  lowest = λ j below r.
      let f : Free (h ∷ ys) j = skips 0 end xs (h ∷ ys) j n a s pos (λ k le lt. free_is end (xs ++ h ∷ ys) k a (r k le lt)) j (omega arith) (omega (arith, pos)) in
      let ah = apart_rest 0 end xs (h ∷ ys) a in
      let b = free_bounds h.start end (h ∷ ys) j (omega arith, ah.1, ah.2, ah.3) f in
      omega (arith, b.0, below);
}

-- changes of a few holes

pub record Loses (old new : List Hole) (s n : ℕ) : Type 0 where
  pub inside : (k : ℕ) → s ≤ k → k < s + n → Free new k → ⊥
  pub kept : (k : ℕ) → Free new k → Free old k
  pub only : (k : ℕ) → (k < s) ⊎ (s + n ≤ k) → Free old k → Free new k

pub record Gains (old new : List Hole) (s n : ℕ) : Type 0 where
  pub inside : (k : ℕ) → s ≤ k → k < s + n → Free new k
  pub kept : (k : ℕ) → Free old k → Free new k
  pub only : (k : ℕ) → (k < s) ⊎ (s + n ≤ k) → Free new k → Free old k

pub marks_taken : (end : ℕ) (old new : List Hole) (s n : ℕ) → Apart 0 end old → Apart 0 end new → Loses old new s n → Marked false (units_from 0 end old) (units_from 0 end new) s n
marks_taken end old new s n a b m = record {
  same_length = length_units 0 end new (omega arith) b ∙ sym (length_units 0 end old (omega arith) a);
  inside = λ k le lt. not_test (get_or (units_from 0 end new) k false) (λ e. m.inside k le lt (free_is end new k b e));
  outside = λ k o. same_tests (get_or (units_from 0 end new) k false) (get_or (units_from 0 end old) k false)
      (λ e. is_free end old k a (m.kept k (free_is end new k b e)))
      (λ e. is_free end new k b (m.only k o (free_is end old k a e)));
}

pub marks_free : (end : ℕ) (old new : List Hole) (s n : ℕ) → Apart 0 end old → Apart 0 end new → Gains old new s n → Marked true (units_from 0 end old) (units_from 0 end new) s n
marks_free end old new s n a b m = record {
  same_length = length_units 0 end new (omega arith) b ∙ sym (length_units 0 end old (omega arith) a);
  inside = λ k le lt. is_free end new k b (m.inside k le lt);
  outside = λ k o. same_tests (get_or (units_from 0 end new) k false) (get_or (units_from 0 end old) k false)
      (λ e. is_free end old k a (m.only k o (free_is end new k b e)))
      (λ e. is_free end new k b (m.kept k (free_is end old k a e)));
}

-- the change in the middle of a list
pub in_middle : (xs ms ns ys : List Hole) (k : ℕ) → (Free (ms ++ ys) k → Free (ns ++ ys) k) → Free (xs ++ (ms ++ ys)) k → Free (xs ++ (ns ++ ys)) k
in_middle xs ms ns ys k f g = ⊎_elim (λ l. free_left xs (ns ++ ys) k l) (λ r. free_right xs (ns ++ ys) k (f r)) (free_append xs (ms ++ ys) k g)
