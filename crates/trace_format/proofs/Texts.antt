-- The text of a well-formed trace is read as that trace.
use Rattle.std.proofs.Common.{rules, zero, suc, ◌≡◌, ◌≢◌, ◌⊎◌, ⊎_elim, inl, inr, ℕ, ◌+◌, ◌-◌, ◌*◌, ◌%◌, ◌^◌, ◌<◌, ◌≤◌, Bool, true, false, ◌&&◌, not, cond, eqb, leb, List, [], ◌∷◌, ◌++◌, length, get_or, map, Option, Some, None, eq-eqb, refl, sym, ap, ◌∙◌, subst, arith}
use Rattle.std.specs.Prelude.{codes, decimal, Ok, Err, option_map}
use Rattle.tok_base.specs.declared.status.TraceRule.TheVariants.{Many}
use Rattle.token_modes.specs.ModeName.{mode_name}
use Rattle.token_modes.specs.declared.mode.Mode.{Mode}
use Rattle.token_modes.specs.declared.mode.Mode.TheVariants.{Increment, Random, TypeHash, Split}
use Rattle.std.specs.List.{slice_split, onto_first}
use Rattle.std.specs.Option.{option_and_then}
use Rattle.std.proofs.lemmas.Bool.{cases_lt, le-leb, lt-ltb}
use Rattle.std.proofs.lemmas.Bool.Decides.{eqb_tells}
use Rattle.std.proofs.lemmas.List.{append_assoc, append-nil, length-append}
use Rattle.std.proofs.lemmas.List.Splits.{slice_split-cons_yes, slice_split-cons_no, length-slice_split}
use Rattle.std.proofs.lemmas.Str.Parse.{IsNumeralModel, numerals_by_fold, not_in_digits}
use Rattle.std.proofs.lemmas.Fmt.{digits_decimal, digits_value-decimal, decimal_nonempty, decimal_digit, first_decimal}
use Rattle.trace_format.specs.Lines.{but_empty, lines, words, is_digit, all_digits, is_number, value_from, number, take_number}
use Rattle.trace_format.specs.Fields.{with_number, at_end, event_fields, ranges_fields, workers_fields}
use Rattle.trace_format.specs.Reading.{allocations, freed, broken, event_of, fitting, shaped, event_at, then_, events_from, or_form, in_range, mode_named, ranges_fit, ranges_of, workers_of, trace_in}
use Rattle.trace_format.specs.WellFormed.{Fits, AllFit, WellFormed}
use Rattle.trace_format.specs.Text.{event_text, events_text, first_text, ranges_text, mode_text, workers_text, trace_text}
use Rattle.trace_format.specs.declared.lines.Fields.{Fields}
use Rattle.trace_format.specs.declared.lines.Fields.TheVariants as fields
use Rattle.trace_format.specs.declared.trace.Event.{Event}
use Rattle.trace_format.specs.declared.trace.Event.TheVariants.{Alloc, Free}
use Rattle.trace_format.specs.declared.trace.Trace.{Trace}
use Rattle.trace_format.specs.declared.trace.TraceEnd.TheVariants.{Line}

-- none of the bytes is c
abbrev pub Clean : ℕ → List ℕ → Type 0
Clean c [] = Unit {0}
Clean c (x ∷ xs) = (x ≢ c) × Clean c xs

clean_append : (c : ℕ) (xs ys : List ℕ) → Clean c xs → Clean c ys → Clean c (xs ++ ys)
clean_append c [] ys a b = b
clean_append c (x ∷ xs) ys a b = (a.0, clean_append c xs ys a.1 b)

clean_from : (c : ℕ) (xs : List ℕ) → ((k : ℕ) → k < length xs → get_or xs k 0 ≢ c) → Clean c xs
clean_from c [] f = tt
clean_from c (x ∷ xs) f = (f 0 (omega arith), clean_from c xs (λ k lt. f (suc k) (omega (arith, lt))))

pub piece : (c : ℕ) (w rest : List ℕ) → Clean c w → slice_split (λ b. eqb b c) (w ++ c ∷ rest) ≡ w ∷ slice_split (λ b. eqb b c) rest
piece c [] rest f = ⊎_elim
    (λ (t : (eqb c c ≡ true) × (c ≡ c)). slice_split-cons_yes (λ b. eqb b c) c rest t.0)
    (λ (t : (eqb c c ≡ false) × (c ≢ c)). absurd (t.1 refl))
    (eqb_tells c c)
piece c (x ∷ w) rest f = ⊎_elim
    (λ (t : (eqb x c ≡ true) × (x ≡ c)). absurd (f.0 t.1))
    (λ (t : (eqb x c ≡ false) × (x ≢ c)). slice_split-cons_no (λ b. eqb b c) x (w ++ c ∷ rest) t.0 ∙ ap (onto_first x) (piece c w rest f.1))
    (eqb_tells x c)

pub last_piece : (c : ℕ) (w : List ℕ) → Clean c w → slice_split (λ b. eqb b c) w ≡ w ∷ []
last_piece c [] f = refl
last_piece c (x ∷ w) f = ⊎_elim
    (λ (t : (eqb x c ≡ true) × (x ≡ c)). absurd (f.0 t.1))
    (λ (t : (eqb x c ≡ false) × (x ≢ c)). slice_split-cons_no (λ b. eqb b c) x w t.0 ∙ ap (onto_first x) (last_piece c w f.1))
    (eqb_tells x c)

but_empty_more : (l : List ℕ) (ls : List (List ℕ)) → 0 < length ls → but_empty (l ∷ ls) ≡ l ∷ but_empty ls
but_empty_more l [] some = absurd (omega (arith, some))
but_empty_more l (m ∷ ls) some = refl

pub line_first : (l rest : List ℕ) → Clean 10 l → lines (l ++ 10 ∷ rest) ≡ l ∷ lines rest
line_first l rest f =
    let long = length-slice_split (λ b. eqb b 10) rest in
    ap but_empty (piece 10 l rest f) ∙ but_empty_more l (slice_split (λ b. eqb b 10) rest) (omega (arith, long))

-- numbers

own : IsNumeralModel (λ ds. all_digits ds ≡ true) (value_from 0)
own = numerals_by_fold _ (search rules) value_from (search rules)

pub clean_decimal : (c v : ℕ) → v < 2 ^ 64 → (c < 48) ⊎ (57 < c) → Clean c (decimal v)
clean_decimal c v h out = clean_from c (decimal v) (not_in_digits own (decimal v) c (digits_decimal own v h) (λ r. ⊎_elim {C = ⊥} (λ (x : c < 48). omega (arith, x, r)) (λ (x : 57 < c). omega (arith, x, r)) out))

is_number_from : (ds : List ℕ) → all_digits ds ≡ true → 0 < length ds → (get_or ds 0 0 ≡ 48 → length ds ≡ 1) → is_number ds ≡ true
is_number_from [] a some one = absurd (omega (arith, some))
is_number_from (b ∷ []) a some one = first (is_digit b) a
  where
    first : (x : Bool) → x && true ≡ true → x ≡ true
    first true e = refl
    first false e = absurd (cc)
is_number_from (b ∷ c ∷ bs) a some one = ⊎_elim
    (λ (t : (eqb b 48 ≡ true) × (b ≡ 48)). absurd (let e = one t.1 in omega (arith, e)))
    (λ (t : (eqb b 48 ≡ false) × (b ≢ 48)). ap (λ (x : Bool). is_digit b && not x && all_digits (c ∷ bs)) t.0 ∙ with_true (is_digit b) (all_digits (c ∷ bs)) a)
    (eqb_tells b 48)
  where
    with_true : (x y : Bool) → x && y ≡ true → x && true && y ≡ true
    with_true true y e = e
    with_true false y e = absurd (cc)

pub number_decimal : (v : ℕ) → v < 2 ^ 64 → number (decimal v) ≡ Some v
number_decimal v h =
    let value = digits_value-decimal own v h in
    let digits = digits_decimal own v h in
    let some = decimal_nonempty v h in
    let one : get_or (decimal v) 0 0 ≡ 48 → length (decimal v) ≡ 1 = λ e. ⊎_elim
    (λ (x : 0 < v). absurd (let f = first_decimal v x h in omega (arith, f, e)))
    (λ (x : v ≤ 0). ap (λ (ds : List ℕ). length ds) (decimal_digit v (omega (arith, x))))
    (cases_lt 0 v) in
    ap (λ (x : Bool). cond (x && leb (value_from 0 (decimal v)) 18446744073709551615) (Some (value_from 0 (decimal v))) None) (is_number_from (decimal v) digits some one)
    ∙ ap (λ (n : ℕ). cond (leb n 18446744073709551615) (Some n) None) value
    ∙ ap (λ (x : Bool). cond x (Some v) None) (le-leb v 18446744073709551615 (omega (arith, h)))

-- the line of an event

abbrev pub line_of : Event → List ℕ
line_of (Alloc w n t s) = 97 ∷ 32 ∷ (decimal w ++ 32 ∷ (decimal n ++ 32 ∷ (decimal t ++ 32 ∷ decimal s)))
line_of (Free w n) = 102 ∷ 32 ∷ (decimal w ++ 32 ∷ decimal n)

text_is : (e : Event) → event_text e ≡ line_of e ++ 10 ∷ []
text_is (Alloc w n t s) = simp append_assoc
text_is (Free w n) = simp append_assoc

-- the numbers of an event are below 2 ^ 64
abbrev pub Small : Event → Type 0
Small (Alloc w n t s) = (w < 2 ^ 64) × (n < 2 ^ 64) × (t < 2 ^ 64) × (s < 2 ^ 64)
Small (Free w n) = (w < 2 ^ 64) × (n < 2 ^ 64)

clean_number : (c v : ℕ) (rest : List ℕ) → v < 2 ^ 64 → (c < 48) ⊎ (57 < c) → (c ≢ 32) → Clean c rest → Clean c (decimal v ++ 32 ∷ rest)
clean_number c v rest h out ne r = clean_append c (decimal v) (32 ∷ rest) (clean_decimal c v h out) ((λ e. ne (sym e)), r)

clean_line : (e : Event) → Small e → Clean 10 (line_of e)
clean_line (Alloc w n t s) h =
    let size : Clean 10 (decimal s) = clean_decimal 10 s h.3 (inl (omega arith)) in
    let token : Clean 10 (decimal t ++ 32 ∷ decimal s) = clean_number 10 t (decimal s) h.2 (inl (omega arith)) (omega arith) size in
    let name : Clean 10 (decimal n ++ 32 ∷ (decimal t ++ 32 ∷ decimal s)) = clean_number 10 n _ h.1 (inl (omega arith)) (omega arith) token in
    let worker : Clean 10 (decimal w ++ 32 ∷ (decimal n ++ 32 ∷ (decimal t ++ 32 ∷ decimal s))) = clean_number 10 w _ h.0 (inl (omega arith)) (omega arith) name in
    (omega arith, (omega arith, worker))
clean_line (Free w n) h =
    let name : Clean 10 (decimal n) = clean_decimal 10 n h.1 (inl (omega arith)) in
    let worker : Clean 10 (decimal w ++ 32 ∷ decimal n) = clean_number 10 w (decimal n) h.0 (inl (omega arith)) (omega arith) name in
    (omega arith, (omega arith, worker))

word_first : (v : ℕ) (rest : List ℕ) → v < 2 ^ 64 → words (decimal v ++ 32 ∷ rest) ≡ decimal v ∷ words rest
word_first v rest h = piece 32 (decimal v) rest (clean_decimal 32 v h (inl (omega arith)))

word_last : (v : ℕ) → v < 2 ^ 64 → words (decimal v) ≡ decimal v ∷ []
word_last v h = last_piece 32 (decimal v) (clean_decimal 32 v h (inl (omega arith)))

abbrev fields_of_event : Event → Fields
fields_of_event (Alloc w n t s) = fields.Alloc w n t s
fields_of_event (Free w n) = fields.Free w n

taken : (v : ℕ) (ws : List (List ℕ)) → v < 2 ^ 64 → take_number (decimal v ∷ ws) ≡ Some (v, ws)
taken v ws h = ap (λ (o : Option ℕ). option_map (λ (x : ℕ). (x, ws)) o) (number_decimal v h)

with_decimal : {A : Type 0} (v : ℕ) (ws : List (List ℕ)) (next : ℕ → List (List ℕ) → Option A) → v < 2 ^ 64 → with_number (decimal v ∷ ws) next ≡ next v ws
with_decimal v ws next h = ap (λ (o : Option (ℕ × List (List ℕ))). option_and_then (λ (p : ℕ × List (List ℕ)). next p.0 p.1) o) (taken v ws h)

-- what an allocation's line goes on with behind its first, its second and its third number
abbrev with_name : ℕ → List (List ℕ) → Option Fields
with_name worker xs = with_number xs (λ name ys. with_number ys (λ token zs. with_number zs (λ size rest. at_end rest (fields.Alloc worker name token size))))

abbrev with_token : ℕ → ℕ → List (List ℕ) → Option Fields
with_token worker name ys = with_number ys (λ token zs. with_number zs (λ size rest. at_end rest (fields.Alloc worker name token size)))

abbrev with_size : ℕ → ℕ → ℕ → List (List ℕ) → Option Fields
with_size worker name token zs = with_number zs (λ size rest. at_end rest (fields.Alloc worker name token size))

alloc_words : (w n t s : ℕ) → Small (Alloc w n t s) → words (line_of (Alloc w n t s)) ≡ (97 ∷ []) ∷ decimal w ∷ decimal n ∷ decimal t ∷ decimal s ∷ []
alloc_words w n t s h =
    piece 32 (97 ∷ []) (decimal w ++ 32 ∷ (decimal n ++ 32 ∷ (decimal t ++ 32 ∷ decimal s))) (omega arith, tt)
    ∙ ap (λ (l : List (List ℕ)). (97 ∷ []) ∷ l) (word_first w _ h.0 ∙ ap (λ (l : List (List ℕ)). decimal w ∷ l) (word_first n _ h.1 ∙ ap (λ (l : List (List ℕ)). decimal n ∷ l) (word_first t _ h.2 ∙ ap (λ (l : List (List ℕ)). decimal t ∷ l) (word_last s h.3))))

free_words : (w n : ℕ) → Small (Free w n) → words (line_of (Free w n)) ≡ (102 ∷ []) ∷ decimal w ∷ decimal n ∷ []
free_words w n h =
    piece 32 (102 ∷ []) (decimal w ++ 32 ∷ decimal n) (omega arith, tt)
    ∙ ap (λ (l : List (List ℕ)). (102 ∷ []) ∷ l) (word_first w _ h.0 ∙ ap (λ (l : List (List ℕ)). decimal w ∷ l) (word_last n h.1))

fields_are : (e : Event) → Small e → event_fields (words (line_of e)) ≡ Some (fields_of_event e)
fields_are (Alloc w n t s) h =
    ap event_fields (alloc_words w n t s h)
    ∙ with_decimal w (decimal n ∷ decimal t ∷ decimal s ∷ []) with_name h.0
    ∙ with_decimal n (decimal t ∷ decimal s ∷ []) (with_token w) h.1
    ∙ with_decimal t (decimal s ∷ []) (with_size w n) h.2
    ∙ with_decimal s [] (λ size rest. at_end rest (fields.Alloc w n t size)) h.3
fields_are (Free w n) h =
    ap event_fields (free_words w n h)
    ∙ with_decimal w (decimal n ∷ []) (λ worker xs. with_number xs (λ name rest. at_end rest (fields.Free worker name))) h.0
    ∙ with_decimal n [] (λ name rest. at_end rest (fields.Free w name)) h.1

fits_unbroken : (count workers i : ℕ) (before : List Event) (e : Event) → Fits count workers before e → fitting i (broken count workers before (fields_of_event e)) (event_of (fields_of_event e)) ≡ Ok e
fits_unbroken count workers i before (Alloc w n t s) f = rw (lt-ltb w workers f.0, lt-ltb t count f.2, eq-eqb n (allocations before) f.1)
fits_unbroken count workers i before (Free w n) f = rw (lt-ltb w workers f.0, lt-ltb n (allocations before) f.1, f.2)

-- all events

alloc_most : (es : List Event) → allocations es ≤ length es
alloc_most [] = omega arith
alloc_most (Alloc a b c d ∷ es) = let e = alloc_most es in omega (arith, e)
alloc_most (Free a b ∷ es) = let e = alloc_most es in omega (arith, e)

small_from : (count workers : ℕ) (before : List Event) (e : Event) → count ≤ 256 → workers ≤ 64 → length before ≤ 1000000 → Fits count workers before e → Small e
small_from count workers before (Alloc w n t s) a b c f = let m = alloc_most before in (omega (arith, f.0, b), omega (arith, f.1, m, c), omega (arith, f.2, a), f.3)
small_from count workers before (Free w n) a b c f = let m = alloc_most before in (omega (arith, f.0, b), omega (arith, f.1, m, c))

events_lines : (count workers : ℕ) (before es : List Event) → count ≤ 256 → workers ≤ 64 → length before + length es ≤ 1000000 → AllFit count workers before es → lines (events_text es) ≡ map line_of es
events_lines count workers before [] a b c f = refl
events_lines count workers before (e ∷ es) a b c f =
    let more = length-append before (e ∷ []) in
    let small = small_from count workers before e a b (omega (arith, c)) f.0 in
    ap (λ (x : List ℕ). lines (x ++ events_text es)) (text_is e) ∙ ap lines (append_assoc (line_of e) (10 ∷ []) (events_text es)) ∙ line_first (line_of e) (events_text es) (clean_line e small)
    ∙ ap (λ (ls : List (List ℕ)). line_of e ∷ ls) (events_lines count workers (before ++ e ∷ []) es a b (omega (arith, c, more)) f.1)

event_read : (count workers i : ℕ) (before : List Event) (e : Event) → i ≤ 1000004 → Small e → Fits count workers before e → event_at count workers i before (line_of e) ≡ Ok e
event_read count workers i before e le small f =
    ap (λ (x : Bool). cond x (shaped count workers i before (event_fields (words (line_of e)))) (Err (Line i Many))) (le-leb i 1000004 le)
    ∙ ap (shaped count workers i before) (fields_are e small) ∙ fits_unbroken count workers i before e f

events_read : (count workers i : ℕ) (before es : List Event) → count ≤ 256 → workers ≤ 64 → i ≡ length before + 5 → length before + length es ≤ 1000000 → AllFit count workers before es → events_from count workers i before (map line_of es) ≡ Ok (before ++ es)
events_read count workers i before [] a b at c f = ap Ok (sym (append-nil before))
events_read count workers i before (e ∷ es) a b at c f =
    let more = length-append before (e ∷ []) in
    let small = small_from count workers before e a b (omega (arith, c)) f.0 in
    ap (λ r. then_ r (λ x. events_from count workers (i + 1) (before ++ x ∷ []) (map line_of es))) (event_read count workers i before e (omega (arith, at, c)) small f.0)
    ∙ events_read count workers (i + 1) (before ++ e ∷ []) es a b (omega (arith, at, more)) (omega (arith, c, more)) f.1
    ∙ ap Ok (append_assoc before (e ∷ []) es)

-- the header

lacks : ℕ → List ℕ → Bool
lacks c [] = true
lacks c (x ∷ xs) = not (eqb x c) && lacks c xs

clean_by : (c : ℕ) (xs : List ℕ) → lacks c xs ≡ true → Clean c xs
unfolding lacks
clean_by c [] e = tt
clean_by c (x ∷ xs) e = ⊎_elim
    (λ (t : (eqb x c ≡ true) × (x ≡ c)). absurd (none (lacks c xs) (subst (λ (b : Bool). not b && lacks c xs ≡ true) t.0 e)))
    (λ (t : (eqb x c ≡ false) × (x ≢ c)). (t.1, clean_by c xs (subst (λ (b : Bool). not b && lacks c xs ≡ true) t.0 e)))
    (eqb_tells x c)
  where
    none : (b : Bool) → false && b ≡ true → ⊥
    none b h = cc

ranges_line : ℕ → ℕ → List ℕ
ranges_line n r = codes "ranges " ++ (decimal n ++ 32 ∷ decimal r)

mode_line : Mode → List ℕ
mode_line m = codes "mode " ++ mode_name m

workers_line : ℕ → List ℕ
workers_line w = codes "workers " ++ decimal w

ranges_is : (n r : ℕ) (rest : List ℕ) → ranges_text n r ++ rest ≡ ranges_line n r ++ 10 ∷ rest
unfolding ranges_line
ranges_is n r rest = simp append_assoc

mode_is : (m : Mode) (rest : List ℕ) → mode_text m ++ rest ≡ mode_line m ++ 10 ∷ rest
unfolding mode_line
mode_is m rest = simp append_assoc

workers_is : (w : ℕ) (rest : List ℕ) → workers_text w ++ rest ≡ workers_line w ++ 10 ∷ rest
unfolding workers_line
workers_is w rest = simp append_assoc

header_is : (t : Trace) → trace_text t ≡ codes "alloctoken-trace 1" ++ 10 ∷ (ranges_line t.count t.size ++ 10 ∷ (mode_line t.mode ++ 10 ∷ (workers_line t.workers ++ 10 ∷ events_text t.events)))
header_is t =
    let a = ranges_text t.count t.size in
    let b = mode_text t.mode in
    let c = workers_text t.workers in
    let e = events_text t.events in
    append_assoc first_text (a ++ b ++ c) e
    ∙ ap (λ (x : List ℕ). first_text ++ x) (append_assoc (a ++ b) c e ∙ append_assoc a b (c ++ e) ∙ ap (λ (x : List ℕ). a ++ (b ++ x)) (workers_is t.workers e)
    ∙ ap (λ (x : List ℕ). a ++ x) (mode_is t.mode (workers_line t.workers ++ 10 ∷ e)) ∙ ranges_is t.count t.size (mode_line t.mode ++ 10 ∷ (workers_line t.workers ++ 10 ∷ e)))

mode_clean : (m : Mode) → Clean 10 (mode_line m)
unfolding lacks mode_line
mode_clean Increment = clean_by 10 (mode_line Increment) refl
mode_clean Random = clean_by 10 (mode_line Random) refl
mode_clean TypeHash = clean_by 10 (mode_line TypeHash) refl
mode_clean Split = clean_by 10 (mode_line Split) refl

mode_read : (m : Mode) → or_form 3 (mode_named (mode_line m)) ≡ Ok m
unfolding mode_line
mode_read Increment = refl
mode_read Random = refl
mode_read TypeHash = refl
mode_read Split = refl

ranges_words : (n r : ℕ) → n < 2 ^ 64 → r < 2 ^ 64 → words (ranges_line n r) ≡ codes "ranges" ∷ decimal n ∷ decimal r ∷ []
unfolding ranges_line lacks
ranges_words n r a b =
    piece 32 (codes "ranges") (decimal n ++ 32 ∷ decimal r) (clean_by 32 (codes "ranges") refl) ∙ ap (λ (l : List (List ℕ)). codes "ranges" ∷ l) (word_first n (decimal r) a ∙ ap (λ (l : List (List ℕ)). decimal n ∷ l) (word_last r b))

ranges_numbers : (n r : ℕ) → n < 2 ^ 64 → r < 2 ^ 64 → ranges_fields (words (ranges_line n r)) ≡ Some (n, r)
ranges_numbers n r a b =
    ap ranges_fields (ranges_words n r a b)
    ∙ with_decimal n (decimal r ∷ []) (λ count xs. with_number xs (λ size rest. at_end rest (count, size))) a
    ∙ with_decimal r [] (λ size rest. at_end rest (n, size)) b

ranges_read : (n r : ℕ) → n < 2 ^ 64 → r < 2 ^ 64 → ranges_fit n r ≡ true → ranges_of (ranges_line n r) ≡ Ok (n, r)
ranges_read n r a b fit =
    ap (λ o. then_ (or_form 2 o) (λ x. in_range 2 (ranges_fit x.0 x.1) x)) (ranges_numbers n r a b) ∙ ap (λ (x : Bool). in_range 2 x (n, r)) fit

workers_words : (w : ℕ) → w < 2 ^ 64 → words (workers_line w) ≡ codes "workers" ∷ decimal w ∷ []
unfolding workers_line lacks
workers_words w a =
    piece 32 (codes "workers") (decimal w) (clean_by 32 (codes "workers") refl) ∙ ap (λ (l : List (List ℕ)). codes "workers" ∷ l) (word_last w a)

workers_number : (w : ℕ) → w < 2 ^ 64 → workers_fields (words (workers_line w)) ≡ Some w
workers_number w a = ap workers_fields (workers_words w a) ∙ with_decimal w [] (λ workers rest. at_end rest workers) a

workers_read : (w : ℕ) → w < 2 ^ 64 → 1 ≤ w → w ≤ 64 → workers_of (workers_line w) ≡ Ok w
workers_read w a some most =
    ap (λ o. then_ (or_form 4 o) (λ x. in_range 4 (leb 1 x && leb x 64) x)) (workers_number w a)
    ∙ ap (λ (x : Bool). in_range 4 (x && leb w 64) w) (le-leb 1 w some) ∙ ap (λ (x : Bool). in_range 4 x w) (le-leb w 64 most)

fit_true : (n r : ℕ) → 1 ≤ n → n ≤ 256 → r % 16 ≡ 0 → 16 ≤ r → r ≤ 1048576 → n * r ≤ 33554432 → ranges_fit n r ≡ true
fit_true n r a b c d e f = rw (le-leb 1 n a, le-leb n 256 b, eq-eqb (r % 16) 0 c, le-leb 16 r d, le-leb r 1048576 e, le-leb (n * r) 33554432 f)

header_lines : (t : Trace) → WellFormed t → lines (trace_text t) ≡ codes "alloctoken-trace 1" ∷ ranges_line t.count t.size ∷ mode_line t.mode ∷ workers_line t.workers ∷ lines (events_text t.events)
unfolding ranges_line workers_line lacks
header_lines t w =
    let n = clean_append 10 (codes "ranges ") (decimal t.count ++ 32 ∷ decimal t.size) (clean_by 10 (codes "ranges ") refl) (clean_number 10 t.count (decimal t.size) (omega (arith, w.most)) (inl (omega arith)) (omega arith) (clean_decimal 10 t.size (omega (arith, w.largest)) (inl (omega arith)))) in
    let k = clean_append 10 (codes "workers ") (decimal t.workers) (clean_by 10 (codes "workers ") refl) (clean_decimal 10 t.workers (omega (arith, w.most_workers)) (inl (omega arith))) in
    let last = events_text t.events in
    let fourth = workers_line t.workers ++ 10 ∷ last in
    let third = mode_line t.mode ++ 10 ∷ fourth in
    let second = ranges_line t.count t.size ++ 10 ∷ third in
    ap lines (header_is t) ∙ line_first (codes "alloctoken-trace 1") second (clean_by 10 (codes "alloctoken-trace 1") refl)
    ∙ ap (λ (ls : List (List ℕ)). codes "alloctoken-trace 1" ∷ ls) (line_first (ranges_line t.count t.size) third n
    ∙ ap (λ (ls : List (List ℕ)). ranges_line t.count t.size ∷ ls) (line_first (mode_line t.mode) fourth (mode_clean t.mode)
    ∙ ap (λ (ls : List (List ℕ)). mode_line t.mode ∷ ls) (line_first (workers_line t.workers) last k)))

pub trace_read : (t : Trace) → WellFormed t → trace_in (lines (trace_text t)) ≡ Ok t
trace_read t w =
    let few : 0 + length t.events ≤ 1000000 = (let h = w.few in omega (arith, h)) in
    let es : lines (events_text t.events) ≡ map line_of t.events = events_lines t.count t.workers [] t.events w.most w.most_workers few w.fit in
    let r = ranges_read t.count t.size (omega (arith, w.most)) (omega (arith, w.largest)) (fit_true t.count t.size w.some w.most w.multiple w.least w.largest w.together) in
    let m = mode_read t.mode in
    let k = workers_read t.workers (omega (arith, w.most_workers)) w.some_worker w.most_workers in
    let e = events_read t.count t.workers 5 [] t.events w.most w.most_workers refl few w.fit in
    ap trace_in (header_lines t w ∙ ap (λ (ls : List (List ℕ)). codes "alloctoken-trace 1" ∷ ranges_line t.count t.size ∷ mode_line t.mode ∷ workers_line t.workers ∷ ls) es) ∙ rw (r, m, k, e)
