-- Words of the stream of ChaCha20, two at a time.
use Rattle.std.specs.Prelude.{ℕ, ◌+◌, ◌*◌, ◌^◌, List, ◌++◌, replicate}
use Rattle.std.specs.Int.{w64, to_le_bytes}
use Rattle.rand_chacha.specs.ChaCha.{word_at, key_of}

-- the eight little-endian bytes of the number, and 24 zeros
abbrev pub seed_of_number : ℕ → List ℕ
seed_of_number seed = to_le_bytes w64 seed ++ replicate 24 0

-- the 32-bit word at a place of this seed's stream, which is stream 0 with ten double rounds
abbrev pub half_at : ℕ → ℕ → ℕ
half_at seed place = word_at 10 (key_of (seed_of_number seed)) 0 place

-- word k: its low half is the 32-bit word at 2k, its high half the one at 2k + 1
abbrev pub chacha_word : ℕ → ℕ → ℕ
chacha_word seed k = half_at seed (2 * k) + half_at seed (2 * k + 1) * 2 ^ 32
