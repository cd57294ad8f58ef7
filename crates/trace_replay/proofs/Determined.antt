-- A report determines its histories.
use Rattle.std.proofs.Common.{suc, ◌≡◌, ℕ, ◌+◌, ◌-◌, ◌*◌, ◌^◌, ◌<◌, ◌≤◌, List, [], ◌∷◌, ◌++◌, length, get_or, refl, sym, ap, ◌∙◌, subst, arith}
use Rattle.std.specs.Prelude.{codes, decimal}
use Rattle.std.specs.Char.{digit_value}
use Rattle.std.specs.Str.Parse.{AllDigits, digits_value}
use Rattle.std.proofs.lemmas.Bool.{leb-true}
use Rattle.std.proofs.lemmas.Fmt.{decimal_is_IsNumeral_wide}
use Rattle.std.proofs.lemmas.List.{append_assoc, append_cancel_left}
use Rattle.token_modes.specs.declared.mode.Mode.{Mode}
use Rattle.range_heap.specs.declared.call.HeapCall.{HeapCall}
use Rattle.range_heap.specs.declared.call.HeapEvent.{HeapEvent}
use Rattle.range_heap.specs.declared.call.HeapEvent.TheVariants.{Grant, Refuse, Release}
use Rattle.range_heap.specs.Blocks.{live_blocks, size_in}
use Rattle.range_heap.specs.History.{Region, region, call_of, MayFollow, LegalFrom, Legal}
use Rattle.range_heap.proofs.Clear.{some_of}
use Rattle.range_heap.proofs.Histories.{legal-snoc, legal_good, within_at}
use Rattle.trace_replay.specs.Report.{event_text, entry_lines, range_lines, total_line, halves_lines, RangesLegal}
use Rattle.trace_replay.specs.Laws.{EventFits, CallsFit, RangesFit, Determines}
use Rattle.trace_replay.specs.declared.histories.Histories.{Histories}

-- ---- numbers

heads : (x y : ℕ) (xs ys : List ℕ) → x ∷ xs ≡ y ∷ ys → x ≡ y
heads x y xs ys e = cc

tails : (x y : ℕ) (xs ys : List ℕ) → x ∷ xs ≡ y ∷ ys → xs ≡ ys
tails x y xs ys e = cc

no_digit : (c y : ℕ) (r s : List ℕ) → 10 ≤ digit_value c → digit_value y < 10 → c ∷ r ≡ y ∷ s → ⊥
no_digit c y r s wide digit e = let q : digit_value c ≡ digit_value y = ap digit_value (heads c y r s e) in omega (arith, wide, digit, q)

split : (xs ys r s : List ℕ) (c d : ℕ) → AllDigits 10 xs → AllDigits 10 ys → 10 ≤ digit_value c → 10 ≤ digit_value d → xs ++ c ∷ r ≡ ys ++ d ∷ s → (xs ≡ ys) × (c ∷ r ≡ d ∷ s)
split [] [] r s c d a b p q e = (refl, e)
split [] (y ∷ ys) r s c d a b p q e = absurd (no_digit c y r (ys ++ d ∷ s) p b.0 e)
split (x ∷ xs) [] r s c d a b p q e = absurd (no_digit d x s (xs ++ c ∷ r) q a.0 (sym e))
split (x ∷ xs) (y ∷ ys) r s c d a b p q e =
    let rest = split xs ys r s c d a.1 b.1 p q (tails x y (xs ++ c ∷ r) (ys ++ d ∷ s) e) in
    (ap (λ (v : ℕ). v ∷ xs) (heads x y (xs ++ c ∷ r) (ys ++ d ∷ s) e) ∙ ap (λ (l : List ℕ). y ∷ l) rest.0, rest.1)

number_split : (m n c d : ℕ) (r s : List ℕ) → m < 10 ^ 64 → n < 10 ^ 64 → 10 ≤ digit_value c → 10 ≤ digit_value d → decimal m ++ c ∷ r ≡ decimal n ++ d ∷ s → (m ≡ n) × (c ∷ r ≡ d ∷ s)
number_split m n c d r s a b p q e =
    let x = decimal_is_IsNumeral_wide m a in
    let y = decimal_is_IsNumeral_wide n b in
    let z = split (decimal m) (decimal n) r s c d x.0.1 y.0.1 p q e in
    (sym x.1 ∙ ap (λ (ds : List ℕ). digits_value 10 ds) z.0 ∙ y.1, z.1)

blank_wide : 10 ≤ digit_value 32
blank_wide = leb-true 10 (digit_value 32) refl

end_wide : 10 ≤ digit_value 10
end_wide = leb-true 10 (digit_value 10) refl

wide_128 : (n : ℕ) → n < 2 ^ 128 → n < 10 ^ 64
wide_128 n h = omega (arith, h)

wide_64 : (n : ℕ) → n < 2 ^ 64 → n < 10 ^ 64
wide_64 n h = omega (arith, h)

wide_32 : (n : ℕ) → n < 2 ^ 32 → n < 10 ^ 64
wide_32 n h = omega (arith, h)

-- ---- events

-- what an event names is not below the range
abbrev Above : ℕ → HeapEvent → Type 0
Above first (Grant size place) = first ≤ place
Above first (Refuse size) = Unit {0}
Above first (Release place) = first ≤ place

grant_is : (first s p : ℕ) (t : List ℕ) → event_text first (Grant s p) ++ t ≡ 32 ∷ 43 ∷ 32 ∷ (decimal s ++ 32 ∷ (decimal (p - first) ++ 10 ∷ t))
grant_is first s p t = simp append_assoc

refuse_is : (first s : ℕ) (t : List ℕ) → event_text first (Refuse s) ++ t ≡ 32 ∷ 33 ∷ 32 ∷ (decimal s ++ 10 ∷ t)
refuse_is first s t = simp append_assoc

release_is : (first p : ℕ) (t : List ℕ) → event_text first (Release p) ++ t ≡ 32 ∷ 45 ∷ 32 ∷ (decimal (p - first) ++ 10 ∷ t)
release_is first p t = simp append_assoc

behind_mark : (m n : ℕ) (r s : List ℕ) → 32 ∷ m ∷ 32 ∷ r ≡ 32 ∷ n ∷ 32 ∷ s → (m ≡ n) × (r ≡ s)
behind_mark m n r s e =
    let one = tails 32 32 (m ∷ 32 ∷ r) (n ∷ 32 ∷ s) e in
    (heads m n (32 ∷ r) (32 ∷ s) one, tails 32 32 r s (tails m n (32 ∷ r) (32 ∷ s) one))

same_event : (first : ℕ) (w v : HeapEvent) (t u : List ℕ) → Above first w → Above first v → EventFits w → EventFits v → event_text first w ++ t ≡ event_text first v ++ u → (w ≡ v) × (t ≡ u)
same_event first (Grant s p) (Grant z q) t u a b f g e =
    let more = (behind_mark 43 43 (decimal s ++ 32 ∷ (decimal (p - first) ++ 10 ∷ t)) (decimal z ++ 32 ∷ (decimal (q - first) ++ 10 ∷ u)) (sym (grant_is first s p t) ∙ e ∙ grant_is first z q u)).1 in
    let size = number_split s z 32 32 (decimal (p - first) ++ 10 ∷ t) (decimal (q - first) ++ 10 ∷ u) (wide_128 s f.0) (wide_128 z g.0) blank_wide blank_wide more in
    let low = f.1 in
    let low' = g.1 in
    let place = number_split (p - first) (q - first) 10 10 t u (wide_64 (p - first) (omega (arith, low))) (wide_64 (q - first) (omega (arith, low'))) end_wide end_wide (tails 32 32 (decimal (p - first) ++ 10 ∷ t) (decimal (q - first) ++ 10 ∷ u) size.1) in
    let off = place.0 in
    let same : p ≡ q = omega (arith, off, a, b) in
    (ap (λ (x : ℕ). Grant x p) size.0 ∙ ap (λ (x : ℕ). Grant z x) same, tails 10 10 t u place.1)
same_event first (Grant s p) (Refuse z) t u a b f g e =
    absurd (let m = (behind_mark 43 33 (decimal s ++ 32 ∷ (decimal (p - first) ++ 10 ∷ t)) (decimal z ++ 10 ∷ u) (sym (grant_is first s p t) ∙ e ∙ refuse_is first z u)).0 in omega (arith, m))
same_event first (Grant s p) (Release q) t u a b f g e =
    absurd (let m = (behind_mark 43 45 (decimal s ++ 32 ∷ (decimal (p - first) ++ 10 ∷ t)) (decimal (q - first) ++ 10 ∷ u) (sym (grant_is first s p t) ∙ e ∙ release_is first q u)).0 in omega (arith, m))
same_event first (Refuse s) (Grant z q) t u a b f g e =
    absurd (let m = (behind_mark 33 43 (decimal s ++ 10 ∷ t) (decimal z ++ 32 ∷ (decimal (q - first) ++ 10 ∷ u)) (sym (refuse_is first s t) ∙ e ∙ grant_is first z q u)).0 in omega (arith, m))
same_event first (Refuse s) (Refuse z) t u a b f g e =
    let more = (behind_mark 33 33 (decimal s ++ 10 ∷ t) (decimal z ++ 10 ∷ u) (sym (refuse_is first s t) ∙ e ∙ refuse_is first z u)).1 in
    let size = number_split s z 10 10 t u (wide_128 s f) (wide_128 z g) end_wide end_wide more in
    (ap Refuse size.0, tails 10 10 t u size.1)
same_event first (Refuse s) (Release q) t u a b f g e =
    absurd (let m = (behind_mark 33 45 (decimal s ++ 10 ∷ t) (decimal (q - first) ++ 10 ∷ u) (sym (refuse_is first s t) ∙ e ∙ release_is first q u)).0 in omega (arith, m))
same_event first (Release p) (Grant z q) t u a b f g e =
    absurd (let m = (behind_mark 45 43 (decimal (p - first) ++ 10 ∷ t) (decimal z ++ 32 ∷ (decimal (q - first) ++ 10 ∷ u)) (sym (release_is first p t) ∙ e ∙ grant_is first z q u)).0 in omega (arith, m))
same_event first (Release p) (Refuse z) t u a b f g e =
    absurd (let m = (behind_mark 45 33 (decimal (p - first) ++ 10 ∷ t) (decimal z ++ 10 ∷ u) (sym (release_is first p t) ∙ e ∙ refuse_is first z u)).0 in omega (arith, m))
same_event first (Release p) (Release q) t u a b f g e =
    let more = (behind_mark 45 45 (decimal (p - first) ++ 10 ∷ t) (decimal (q - first) ++ 10 ∷ u) (sym (release_is first p t) ∙ e ∙ release_is first q u)).1 in
    let place = number_split (p - first) (q - first) 10 10 t u (wide_64 (p - first) (omega (arith, f))) (wide_64 (q - first) (omega (arith, g))) end_wide end_wide more in
    let off = place.0 in
    let same : p ≡ q = omega (arith, off, a, b) in
    (ap Release same, tails 10 10 t u place.1)

-- ---- entries

behind : List ℕ → List ℕ
behind [] = []
behind (x ∷ xs) = xs

event_begins : (first : ℕ) (w : HeapEvent) (t : List ℕ) → event_text first w ++ t ≡ 32 ∷ behind (event_text first w ++ t)
unfolding behind
event_begins first (Grant s p) t = refl
event_begins first (Refuse s) t = refl
event_begins first (Release p) t = refl

entry_is : (first : ℕ) (e : HeapCall) (es : List HeapCall) (t : List ℕ) → entry_lines first (e ∷ es) ++ t ≡ decimal e.who ++ (event_text first e.what ++ (entry_lines first es ++ t))
entry_is first e es t = append_assoc (decimal e.who ++ event_text first e.what) (entry_lines first es) t ∙ append_assoc (decimal e.who) (event_text first e.what) (entry_lines first es ++ t)

entry_begins : (first : ℕ) (e : HeapCall) (es : List HeapCall) (t : List ℕ) → entry_lines first (e ∷ es) ++ t ≡ decimal e.who ++ 32 ∷ behind (event_text first e.what ++ (entry_lines first es ++ t))
entry_begins first e es t = entry_is first e es t ∙ ap (λ (l : List ℕ). decimal e.who ++ l) (event_begins first e.what (entry_lines first es ++ t))

-- a text that does not begin with a digit
record Starts (t : List ℕ) : Type 0 where
  head : ℕ
  rest : List ℕ
  is : t ≡ head ∷ rest
  wide : 10 ≤ digit_value head

abbrev AllAbove : ℕ → List HeapCall → Type 0
AllAbove first [] = Unit {0}
AllAbove first (e ∷ es) = Above first e.what × AllAbove first es

no_entry : (first : ℕ) (e : HeapCall) (es : List HeapCall) (t u : List ℕ) → e.who < 2 ^ 32 → Starts t → t ≡ entry_lines first (e ∷ es) ++ u → ⊥
no_entry first e es t u f s q =
    let x = decimal_is_IsNumeral_wide e.who (wide_32 e.who f) in
    let z = split [] (decimal e.who) s.rest (behind (event_text first e.what ++ (entry_lines first es ++ u))) s.head 32 tt x.0.1 s.wide blank_wide (sym s.is ∙ q ∙ entry_begins first e es u) in
    let none : 0 ≡ length (decimal e.who) = ap (λ (l : List ℕ). length l) z.0 in
    let some = x.0.0 in
    omega (arith, none, some)

same_entries : (first : ℕ) (h k : List HeapCall) (t u : List ℕ) → AllAbove first h → AllAbove first k → CallsFit h → CallsFit k → Starts t → Starts u → entry_lines first h ++ t ≡ entry_lines first k ++ u → (h ≡ k) × (t ≡ u)
same_entries first [] [] t u a b f g s r e = (refl, e)
same_entries first [] (y ∷ ys) t u a b f g s r e = absurd (no_entry first y ys t u g.0 s e)
same_entries first (x ∷ xs) [] t u a b f g s r e = absurd (no_entry first x xs u t f.0 r (sym e))
same_entries first (x ∷ xs) (y ∷ ys) t u a b f g s r e =
    let xt = event_text first x.what ++ (entry_lines first xs ++ t) in
    let yt = event_text first y.what ++ (entry_lines first ys ++ u) in
    let who = number_split x.who y.who 32 32 (behind xt) (behind yt) (wide_32 x.who f.0) (wide_32 y.who g.0) blank_wide blank_wide (sym (entry_begins first x xs t) ∙ e ∙ entry_begins first y ys u) in
    let what = same_event first x.what y.what (entry_lines first xs ++ t) (entry_lines first ys ++ u) a.0 b.0 f.1 g.1 (event_begins first x.what (entry_lines first xs ++ t) ∙ who.1 ∙ sym (event_begins first y.what (entry_lines first ys ++ u))) in
    let rest = same_entries first xs ys t u a.1 b.1 f.2 g.2 s r what.1 in
    let one : x ≡ y = ap (λ (n : ℕ). call_of n x.what) who.0 ∙ ap (λ (v : HeapEvent). call_of y.who v) what.0 in
    (ap (λ (c : HeapCall). c ∷ xs) one ∙ ap (λ (l : List HeapCall). y ∷ l) rest.0, rest.1)

-- ---- ranges

above_from : (r : Region) (done h : List HeapCall) → Legal r done → LegalFrom r done h → AllAbove r.first h
above_from r done [] legal l = tt
above_from r done (e ∷ es) legal l = (one e.what l.0, above_from r (done ++ e ∷ []) es (legal-snoc r done e legal l.0) l.1)
  where
    one : (w : HeapEvent) → MayFollow r done w → Above r.first w
    one (Grant s p) m = m.0.above
    one (Refuse s) m = tt
    one (Release p) m = let s = some_of (size_in p (live_blocks done)) m in (within_at r (live_blocks done) p s.0 (legal_good r done legal).0 s.1).1

range_is : (size t first : ℕ) (h : List HeapCall) (hs : List (List HeapCall)) (u : List ℕ) → range_lines size t first (h ∷ hs) ++ u ≡ (codes "range " ++ decimal t ++ 10 ∷ []) ++ (entry_lines first h ++ (range_lines size (t + 1) (first + size) hs ++ u))
range_is size t first h hs u =
    let head = codes "range " ++ decimal t ++ 10 ∷ [] in
    append_assoc (head ++ entry_lines first h) (range_lines size (t + 1) (first + size) hs) u ∙ append_assoc head (entry_lines first h) (range_lines size (t + 1) (first + size) hs ++ u)

ranges_start : (size t first : ℕ) (hs : List (List HeapCall)) (u : List ℕ) → Starts u → Starts (range_lines size t first hs ++ u)
unfolding behind
ranges_start size t first [] u s = s
ranges_start size t first (h ∷ hs) u s = record {
  head = 114;
  rest = behind (range_lines size t first (h ∷ hs) ++ u);
  is = refl;
  wide = leb-true 10 (digit_value 114) refl;
}

tail_legal : (size first : ℕ) (h : List HeapCall) (hs : List (List HeapCall)) → RangesLegal size first (h ∷ hs) → RangesLegal size (first + size) hs
tail_legal size first h hs legal = λ t lt.
    let q : first + suc t * size ≡ first + size + t * size = omega arith in
    subst (λ (x : ℕ). Legal (region x size) (get_or hs t [])) q (legal (suc t) (omega (arith, lt)))

head_legal : (size first : ℕ) (h : List HeapCall) (hs : List (List HeapCall)) → RangesLegal size first (h ∷ hs) → Legal (region first size) h
head_legal size first h hs legal = let q : first + 0 * size ≡ first = omega arith in subst (λ (x : ℕ). Legal (region x size) h) q (legal 0 (omega arith))

same_ranges : (size t first : ℕ) (hs ks : List (List HeapCall)) (u v : List ℕ) → length hs ≡ length ks → RangesLegal size first hs → RangesLegal size first ks → RangesFit hs → RangesFit ks → Starts u → Starts v → range_lines size t first hs ++ u ≡ range_lines size t first ks ++ v → hs ≡ ks
same_ranges size t first [] [] u v n a b f g s r e = refl
same_ranges size t first [] (k ∷ ks) u v n a b f g s r e = absurd (omega (arith, n))
same_ranges size t first (h ∷ hs) [] u v n a b f g s r e = absurd (omega (arith, n))
same_ranges size t first (h ∷ hs) (k ∷ ks) u v n a b f g s r e =
    let head = codes "range " ++ decimal t ++ 10 ∷ [] in
    let x = range_lines size (t + 1) (first + size) hs ++ u in
    let y = range_lines size (t + 1) (first + size) ks ++ v in
    let rest = append_cancel_left head (entry_lines first h ++ x) (entry_lines first k ++ y) (sym (range_is size t first h hs u) ∙ e ∙ range_is size t first k ks v) in
    let one = same_entries first h k x y (above_from (region first size) [] h tt (head_legal size first h hs a)) (above_from (region first size) [] k tt (head_legal size first k ks b)) f.0 g.0 (ranges_start size (t + 1) (first + size) hs u s) (ranges_start size (t + 1) (first + size) ks v r) rest in
    let more = same_ranges size (t + 1) (first + size) hs ks u v (omega (arith, n)) (tail_legal size first h hs a) (tail_legal size first k ks b) f.1 g.1 s r one.1 in
    ap (λ (l : List HeapCall). l ∷ hs) one.0 ∙ ap (λ (l : List (List HeapCall)). k ∷ l) more

-- ---- the report

total_starts : (hs : List (List HeapCall)) (u : List ℕ) → Starts (total_line hs ++ u)
unfolding behind
total_starts hs u = record { head = 116; rest = behind (total_line hs ++ u); is = refl; wide = leb-true 10 (digit_value 116) refl }

abbrev made : ℕ → ℕ → Mode → List (List HeapCall) → Histories
made first size mode ranges = record { first = first; size = size; mode = mode; ranges = ranges }

pub determined : Determines
determined h k a b f g s e =
    let hu = total_line h.ranges ++ halves_lines h.mode h.first h.size h.ranges in
    let ku = total_line k.ranges ++ halves_lines k.mode k.first k.size k.ranges in
    let lines : range_lines h.size 0 h.first h.ranges ++ hu ≡ range_lines k.size 0 k.first k.ranges ++ ku =
    sym (append_assoc (range_lines h.size 0 h.first h.ranges) (total_line h.ranges) (halves_lines h.mode h.first h.size h.ranges)) ∙ e
    ∙ append_assoc (range_lines k.size 0 k.first k.ranges) (total_line k.ranges) (halves_lines k.mode k.first k.size k.ranges) in
    let moved : range_lines k.size 0 k.first k.ranges ++ ku ≡ range_lines h.size 0 h.first k.ranges ++ ku =
    ap (λ (x : ℕ). range_lines x 0 k.first k.ranges ++ ku) (sym s.size) ∙ ap (λ (x : ℕ). range_lines h.size 0 x k.ranges ++ ku) (sym s.first) in
    let legal : RangesLegal h.size h.first k.ranges = subst (λ (x : ℕ). RangesLegal x h.first k.ranges) (sym s.size) (subst (λ (x : ℕ). RangesLegal k.size x k.ranges) (sym s.first) b.legal) in
    let ranges = same_ranges h.size 0 h.first h.ranges k.ranges hu ku s.count a.legal legal f g (total_starts h.ranges (halves_lines h.mode h.first h.size h.ranges)) (total_starts k.ranges (halves_lines k.mode k.first k.size k.ranges)) (lines ∙ moved) in
    ap (λ (x : ℕ). made x h.size h.mode h.ranges) s.first ∙ ap (λ (x : ℕ). made k.first x h.mode h.ranges) s.size ∙ ap (λ (x : Mode). made k.first k.size x h.ranges) s.mode ∙ ap (λ (x : List (List HeapCall)). made k.first k.size k.mode x) ranges
