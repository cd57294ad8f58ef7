-- Reading the words one by one comes to the same as their parts, and the digits of a number one by one to its value.
use Rattle.std.proofs.Common.{◌≡◌, ℕ, zero, suc, ◌+◌, ◌-◌, ◌*◌, ◌≤◌, ◌<◌, ◌++◌, List, [], ◌∷◌, length, drop, get_or, true, false, refl, sym, ◌∙◌, ap, arith}
use Rattle.std.specs.Prelude.{Option, Some, None, option_and_then, option_map, bytes_eq, codes, if◌then◌else◌}
use Rattle.command_line.specs.Words as words
use Rattle.command_line.specs.Words.{Key, Mode, Max, Part, key_of, is_plain, with_part, parts, values, files, value_from}
use Rattle.command_line.specs.Options.{options_from, options_in}
use Rattle.command_line.specs.Draft.{Reading, begin, placed, placed_plain, read_free, read_all, listed, finish}
use Rattle.command_line.specs.declared.options.Options.{Options}

abbrev pub held : Option Key → Option (List ℕ) → Option (List ℕ) → Option (List ℕ) → Reading
held k m x f = record { key = k; mode = m; max = x; file = f }

-- what was read and these parts ask for
abbrev pub meant : Option (List ℕ) → Option (List ℕ) → Option (List ℕ) → List Part → Option Options
meant m x f ps = options_from (listed m ++ values Mode ps) (listed x ++ values Max ps) (listed f ++ files ps)

abbrev pub part_of : Option Key → List ℕ → Part
part_of None w = words.file w
part_of (Some key) w = words.setting key w

-- where the value of an option comes next, or a part
abbrev pub parts_after : Option Key → List (List ℕ) → Option (List Part)
parts_after None ws = parts ws
parts_after (Some key) [] = None
parts_after (Some key) (v ∷ ws) = with_part (words.setting key) v (parts ws)

abbrev pub parts_from : Option Key → List ℕ → List (List ℕ) → Option (List Part)
parts_from (Some key) w ws = parts_after (Some key) ws
parts_from None w ws = with_part words.file w (parts ws)

parts_step : (w : List ℕ) (ws : List (List ℕ)) → parts (w ∷ ws) ≡ parts_from (key_of w) w ws
parts_step w [] = elim (key_of w) as (λ k. (elim k [ Some key ↦ None | None ↦ with_part words.file w (Some []) ]) ≡ parts_from k w []) [ Some key ↦ refl | None ↦ refl ]
parts_step w (v ∷ ws) = elim (key_of w) as (λ k. (elim k [ Some key ↦ with_part (words.setting key) v (parts ws) | None ↦ with_part words.file w (parts (v ∷ ws)) ]) ≡ parts_from k w (v ∷ ws)) [ Some key ↦ refl | None ↦ refl ]

two_modes : (m n : List ℕ) (ms xs fs : List (List ℕ)) → options_from (m ∷ n ∷ ms) xs fs ≡ None
two_modes m n ms xs fs = refl

two_files : (f g : List ℕ) (fs ms xs : List (List ℕ)) → options_from ms xs (f ∷ g ∷ fs) ≡ None
two_files f g fs [] xs = refl
two_files f g fs (m ∷ []) xs = refl
two_files f g fs (m ∷ n ∷ ms) xs = refl

two_maxs : (x y : List ℕ) (xs ms fs : List (List ℕ)) → options_from ms (x ∷ y ∷ xs) fs ≡ None
two_maxs x y xs [] fs = refl
two_maxs x y xs (m ∷ []) [] = refl
two_maxs x y xs (m ∷ []) (f ∷ []) =
    let none : Option Options = None in
    elim (bytes_eq m (codes "increment")) as (λ b. (if b then none else none) ≡ none) [ true ↦ refl | false ↦ refl ]
two_maxs x y xs (m ∷ []) (f ∷ g ∷ fs) = refl
two_maxs x y xs (m ∷ n ∷ ms) fs = refl

map_then : {A B C : Type 0} (g : B → Option C) (h : A → B) (o : Option A) → option_and_then g (option_map h o) ≡ option_and_then (λ a. g (h a)) o
map_then g h None = refl
map_then g h (Some a) = refl

-- none, whatever comes
none_then : {A B C : Type 0} (g : B → Option C) (h : A → B) (none : (a : A) → g (h a) ≡ None) (o : Option A) → None ≡ option_and_then g (option_map h o)
none_then g h none None = refl
none_then g h none (Some a) = sym (none a)

with_part_is : (part : List ℕ → Part) (w : List ℕ) (o : Option (List Part)) → with_part part w o ≡ (if is_plain w then option_map (λ ps. part w ∷ ps) o else None)
with_part_is part w None =
    let none : Option (List Part) = None in
    elim (is_plain w) as (λ b. none ≡ (if b then none else none)) [ true ↦ refl | false ↦ refl ]
with_part_is part w (Some ps) = refl

-- the rest of the words, where no option waits
abbrev Rest : List (List ℕ) → Type 0
Rest ws = (m x f : Option (List ℕ)) → option_and_then finish (read_all ws (held None m x f)) ≡ option_and_then (meant m x f) (parts ws)

placed_law : (ws : List (List ℕ)) → Rest ws → (key : Option Key) (v : List ℕ) (k : Option Key) (m x f : Option (List ℕ)) →
    option_and_then finish (option_and_then (read_all ws) (placed key (held k m x f) v)) ≡ option_and_then (meant m x f) (option_map (λ ps. part_of key v ∷ ps) (parts ws))
placed_law ws rest None v k m x None = rest m x (Some v) ∙ sym (map_then (meant m x None) (λ ps. words.file v ∷ ps) (parts ws))
placed_law ws rest None v k m x (Some f) = none_then (meant m x (Some f)) (λ ps. words.file v ∷ ps) (λ ps. two_files f v (files ps) (listed m ++ values Mode ps) (listed x ++ values Max ps)) (parts ws)
placed_law ws rest (Some Mode) v k None x f = rest (Some v) x f ∙ sym (map_then (meant None x f) (λ ps. words.setting Mode v ∷ ps) (parts ws))
placed_law ws rest (Some Mode) v k (Some m) x f = none_then (meant (Some m) x f) (λ ps. words.setting Mode v ∷ ps) (λ ps. two_modes m v (values Mode ps) (listed x ++ values Max ps) (listed f ++ files ps)) (parts ws)
placed_law ws rest (Some Max) v k m None f = rest m (Some v) f ∙ sym (map_then (meant m None f) (λ ps. words.setting Max v ∷ ps) (parts ws))
placed_law ws rest (Some Max) v k m (Some x) f = none_then (meant m (Some x) f) (λ ps. words.setting Max v ∷ ps) (λ ps. two_maxs x v (values Max ps) (listed m ++ values Mode ps) (listed f ++ files ps)) (parts ws)

plain_law : (ws : List (List ℕ)) → Rest ws → (key : Option Key) (v : List ℕ) (k : Option Key) (m x f : Option (List ℕ)) →
    option_and_then finish (option_and_then (read_all ws) (placed_plain key (held k m x f) v)) ≡ option_and_then (meant m x f) (with_part (part_of key) v (parts ws))
plain_law ws rest key v k m x f =
    let step = elim (is_plain v) as (λ b. option_and_then finish (option_and_then (read_all ws) (if b then placed key (held k m x f) v else None)) ≡ option_and_then (meant m x f) (if b then option_map (λ ps. part_of key v ∷ ps) (parts ws) else None)) [ true ↦ placed_law ws rest key v k m x f | false ↦ refl ] in
    step ∙ ap (option_and_then (meant m x f)) (sym (with_part_is (part_of key) v (parts ws)))

ends : (m x f : Option (List ℕ)) → options_from (listed m) (listed x) (listed f) ≡ meant m x f []
ends None None None = refl
ends None None (Some f) = refl
ends None (Some x) None = refl
ends None (Some x) (Some f) = refl
ends (Some m) None None = refl
ends (Some m) None (Some f) = refl
ends (Some m) (Some x) None = refl
ends (Some m) (Some x) (Some f) = refl

read_law : (ws : List (List ℕ)) (k : Option Key) (m x f : Option (List ℕ)) → option_and_then finish (read_all ws (held k m x f)) ≡ option_and_then (meant m x f) (parts_after k ws)
read_law [] (Some key) m x f = refl
read_law [] None m x f = ends m x f
read_law (v ∷ ws) (Some key) m x f = plain_law ws (read_law ws None) (Some key) v (Some key) m x f
read_law (w ∷ ws) None m x f =
    let step = elim (key_of w) as (λ k. option_and_then finish (option_and_then (read_all ws) (read_free k (held None m x f) w)) ≡ option_and_then (meant m x f) (parts_from k w ws))
    [ Some key ↦ read_law ws (Some key) m x f | None ↦ plain_law ws (read_law ws None) None w None m x f ] in
    step ∙ ap (option_and_then (meant m x f)) (sym (parts_step w ws))

-- the words read one by one ask for what their parts do
pub read_parts : (ws : List (List ℕ)) → option_and_then finish (read_all ws begin) ≡ option_and_then options_in (parts ws)
read_parts ws = read_law ws None None None None

pub value_grows : (n : ℕ) (bs : List ℕ) → n ≤ value_from n bs
value_grows n [] = omega arith
value_grows n (b ∷ bs) = let next = value_grows (10 * n + (b - 48)) bs in omega (arith, next)

pub value_at : (n k : ℕ) (bs : List ℕ) → k < length bs → value_from n (drop k bs) ≡ value_from (10 * n + (get_or bs k 0 - 48)) (drop (k + 1) bs)
value_at n zero [] l = absurd (omega arith)
value_at n zero (b ∷ bs) l = refl
value_at n (suc k) [] l = absurd (omega arith)
value_at n (suc k) (b ∷ bs) l = let h : k < length bs = omega arith in rw (more k) (value_at n k bs h)
  where
    more : (k : ℕ) → suc k + 1 ≡ suc (k + 1)
    more k = omega arith
