-- A message that is read piece by piece: what the hasher's state is for the bytes that it has read.
use Rattle.std.specs.Prelude.{◌≡◌, ℕ, ◌*◌, ◌/◌, ◌%◌, ◌^◌, ◌<◌, List, length, drop}
use Rattle.sip24.specs.SipHash.{little_endian, words, initial, compress_all}
use Rattle.sip24.specs.declared.hasher.Sip24.{Sip24}

-- the hasher s has this key and has read this message: its whole words are compressed, and the bytes
-- after them, fewer than eight, are kept as a partial word
pub record ReadParts (s : Sip24) (key message : List ℕ) : Type 0 where
  pub count_is : s.byte_count ≡ length message % 2 ^ 64
  pub state_is : s.state ≡ compress_all (initial key) (words (length message / 8) message)
  pub partial_is : s.partial ≡ little_endian (drop (8 * (length message / 8)) message)
  pub partial_fits : s.partial < 2 ^ (8 * (length message % 8))

unfoldable pub HasRead : Sip24 → List ℕ → List ℕ → Type 0
HasRead s key message = ReadParts s key message
