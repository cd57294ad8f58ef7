-- Bytes as numbers and as words, and how both follow a list of bytes as it grows.
use Rattle.std.proofs.Common.{◌≡◌, ℕ, zero, suc, ◌+◌, ◌-◌, ◌*◌, ◌/◌, ◌%◌, ◌^◌, ◌<◌, ◌≤◌, List, [], ◌∷◌, ◌++◌, length, take, drop, map, get_or, replicate, bit_or, refl, sym, ap, ◌∙◌, arith, length-append, length-drop, zero-add}
use Rattle.std.proofs.lemmas.List.{take-append-le, drop-append-le, append_assoc, take_more, take_all, take-append-drop, length-take-le, map-append}
use Rattle.std.proofs.lemmas.Nat.{pow-add, shl_whole, or_comm, or_shifted, mul-add-lt}
use Rattle.std.specs.Int.{w64, from_le_bytes}
use Rattle.std.specs.Simd.{first_chunks}
use Rattle.sip24.specs.declared.state.State.{State}
use Rattle.sip24.specs.SipHash.{little_endian, words, compress, compress_all}

-- the number of two lists of bytes in turn
pub little_endian-append : (xs ys : List ℕ) → little_endian (xs ++ ys) ≡ little_endian xs + little_endian ys * 2 ^ (8 * length xs)
unfolding little_endian
little_endian-append [] ys = omega arith
little_endian-append (x ∷ xs) ys =
    let e : 8 * suc (length xs) ≡ 8 + 8 * length xs = omega arith in
    rw (little_endian-append xs ys, e, pow-add 2 8 (8 * length xs)) (omega arith)

-- eight bytes as std reads them
pub little_endian_of_8 : (bytes : List ℕ) → length bytes ≡ 8 → from_le_bytes w64 bytes ≡ little_endian bytes
unfolding little_endian
little_endian_of_8 (a ∷ b ∷ c ∷ d ∷ e ∷ f ∷ g ∷ h ∷ []) l = omega arith
little_endian_of_8 bytes l = absurd (omega arith)

-- words compressed in two goes
pub compress_all-append : (v : State) (a b : List ℕ) → compress_all v (a ++ b) ≡ compress_all (compress_all v a) b
unfolding compress_all
compress_all-append v [] b = refl
compress_all-append v (x ∷ a) b = compress_all-append (compress v x) a b

-- one word more
pub compress_all_more : (v : State) (a : List ℕ) (word : ℕ) → compress_all v (a ++ word ∷ []) ≡ compress (compress_all v a) word
unfolding compress_all
compress_all_more v a word = compress_all-append v a (word ∷ [])

-- the words of chunks of eight bytes
pub words_of_chunks : (n : ℕ) (bytes : List ℕ) → map little_endian (first_chunks 8 n bytes) ≡ words n bytes
unfolding words
words_of_chunks zero bytes = refl
words_of_chunks (suc n) bytes = ap (λ (ws : List ℕ). little_endian (take 8 bytes) ∷ ws) (words_of_chunks n (drop 8 bytes))

-- words are read from the bytes that they take
pub words-append : (n : ℕ) (xs ys : List ℕ) → 8 * n ≤ length xs → words n (xs ++ ys) ≡ words n xs
unfolding words
words-append zero xs ys h = refl
words-append (suc n) xs ys h =
    let fits : 8 ≤ length xs = omega arith in
    rw (take-append-le 8 xs ys fits, drop-append-le 8 xs ys fits, words-append n (drop 8 xs) ys (omega (arith, length-drop 8 xs))) refl

-- words in two goes
pub words_split : (n k : ℕ) (xs ys : List ℕ) → length xs ≡ 8 * n → words (n + k) (xs ++ ys) ≡ words n xs ++ words k ys
unfolding words
words_split zero k [] ys h = rw zero-add refl
words_split zero k (x ∷ xs) ys h = absurd (omega arith)
words_split (suc n) k xs ys h =
    let fits : 8 ≤ length xs = omega arith in
    let e : suc n + k ≡ suc (n + k) = omega arith in
    rw (e, take-append-le 8 xs ys fits, drop-append-le 8 xs ys fits, words_split n k (drop 8 xs) ys (omega (arith, length-drop 8 xs))) refl

-- the step of a loop that compresses chunk after chunk
pub compress_chunk_more : (v s : State) (chunks : List (List ℕ)) (i word : ℕ) → i < length chunks
    → s ≡ compress_all v (map little_endian (take i chunks)) → word ≡ little_endian (get_or chunks i [])
    → compress s word ≡ compress_all v (map little_endian (take (i + 1) chunks))
compress_chunk_more v s chunks i word low before e =
    rw (take_more chunks i [] low, map-append little_endian (take i chunks) (get_or chunks i [] ∷ []))
    (rw (compress_all_more v (map little_endian (take i chunks)) (little_endian (get_or chunks i []))) (rw (before, e) refl))

-- the two words of a key
pub key_words : (key : List ℕ) (chunks : List (List ℕ)) → length key ≡ 16 → chunks ≡ first_chunks 8 (length key / 8) key
    → (get_or chunks 0 [] ≡ take 8 key) × (get_or chunks 1 [] ≡ drop 8 key)
key_words key chunks l e =
    let two : chunks ≡ first_chunks 8 2 key = rw l at e in
    rw two (refl, take_all 8 (drop 8 key) (omega (arith, length-drop 8 key)))

-- the word that completes a message's partial word
pub words_more : (m d : List ℕ) → length m % 8 + length d ≡ 8
    → words (length m / 8 + 1) (m ++ d) ≡ words (length m / 8) m ++ little_endian (drop (8 * (length m / 8)) m ++ d) ∷ []
unfolding words
words_more m d full =
    let q : ℕ = length m / 8 in
    let front : List ℕ = take (8 * q) m in
    let left : List ℕ = drop (8 * q) m in
    let whole : front ++ left ≡ m = take-append-drop (8 * q) m in
    let lf : length front ≡ 8 * q = length-take-le (8 * q) m (omega arith) in
    let ll : length left ≡ length m - 8 * q = length-drop (8 * q) m in
    let regroup : m ++ d ≡ front ++ (left ++ d) = ap (λ (x : List ℕ). x ++ d) (sym whole) ∙ append_assoc front left d in
    let split : words (q + 1) (front ++ (left ++ d)) ≡ words q front ++ words 1 (left ++ d) = words_split q 1 front (left ++ d) lf in
    let first : words q front ≡ words q m = sym (words-append q front left (omega arith)) ∙ ap (words q) whole in
    let last : take 8 (left ++ d) ≡ left ++ d = take_all 8 (left ++ d) (omega (arith, length-append left d)) in
    ap (words (q + 1)) regroup ∙ split ∙ rw (first, last) refl

-- a run of zero bytes
pub little_endian_zeros : (n : ℕ) → little_endian (replicate n 0) ≡ 0
unfolding little_endian
little_endian_zeros zero = refl
little_endian_zeros (suc n) = rw (little_endian_zeros n) refl

-- words are read from the bytes that they take
pub words-take : (n : ℕ) (bytes : List ℕ) → 8 * n ≤ length bytes → words n bytes ≡ words n (take (8 * n) bytes)
words-take n bytes h =
    let lt : length (take (8 * n) bytes) ≡ 8 * n = length-take-le (8 * n) bytes h in
    ap (words n) (sym (take-append-drop (8 * n) bytes)) ∙ words-append n (take (8 * n) bytes) (drop (8 * n) bytes) (omega arith)

pub length-first_chunks : (n : ℕ) (bytes : List ℕ) → length (first_chunks 8 n bytes) ≡ n
length-first_chunks zero bytes = refl
length-first_chunks (suc n) bytes = ap suc (length-first_chunks n (drop 8 bytes))

-- one byte more, put above a word of fewer than eight bytes
pub join_more : (word joined used i byte : ℕ) (bytes : List ℕ) → i < length bytes → used + length bytes ≤ 8
    → byte ≡ get_or bytes i 0 → byte < 2 ^ 8
    → joined ≡ word + little_endian (take i bytes) * 2 ^ (8 * used) → joined < 2 ^ (8 * (used + i))
    → (bit_or joined ((byte * 2 ^ (8 * (used + i))) % 2 ^ 64) ≡ word + little_endian (take (i + 1) bytes) * 2 ^ (8 * used))
    × (bit_or joined ((byte * 2 ^ (8 * (used + i))) % 2 ^ 64) < 2 ^ (8 * (used + (i + 1))))
unfolding little_endian
join_more word joined used i byte bytes low room read small before fits =
    let k : ℕ = 8 * (used + i) in
    let lt : length (take i bytes) ≡ i = length-take-le i bytes (omega arith) in
    let sum : bit_or joined ((byte * 2 ^ k) % 2 ^ 64) ≡ byte * 2 ^ k + joined =
    rw (shl_whole byte 8 k 64 small (omega arith), or_comm joined (byte * 2 ^ k)) (or_shifted byte k joined fits) in
    let more : little_endian (take (i + 1) bytes) ≡ little_endian (take i bytes) + byte * 2 ^ (8 * i) =
    rw (take_more bytes i 0 low, little_endian-append (take i bytes) (get_or bytes i 0 ∷ []), lt, ← read) (omega arith) in
    let places : 2 ^ k ≡ 2 ^ (8 * i) * 2 ^ (8 * used) =
    let e : k ≡ 8 * i + 8 * used = omega arith in rw e (pow-add 2 (8 * i) (8 * used)) in
    let above : 2 ^ (8 * (used + (i + 1))) ≡ 2 ^ k * 2 ^ 8 =
    let e : 8 * (used + (i + 1)) ≡ k + 8 = omega arith in rw e (pow-add 2 k 8) in (
      sum ∙ rw (more, before, places) (omega arith),
      rw (sum, above) (mul-add-lt byte (2 ^ k) joined (2 ^ 8) small fits),
    )
