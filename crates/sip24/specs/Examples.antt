-- Values of SipHash-2-4 that its publication and its authors' reference code give.
use Rattle.std.specs.Prelude.{◌≡◌, ℕ, zero, suc, List, [], ◌∷◌, ◌++◌}
use Rattle.sip24.specs.SipHash.{siphash}

-- the bytes 0, 1, 2 and so on, n of them
abbrev pub counting : ℕ → List ℕ
counting zero = []
counting (suc n) = counting n ++ n ∷ []

-- under the key of the bytes 0 to 15: the empty message, and the publication's example of 15 bytes
abbrev pub PublishedValues : Type 0
PublishedValues =
    (siphash (counting 16) [] ≡ 0x726fdb47dd0e0e31)
    × (siphash (counting 16) (counting 15) ≡ 0xa129ca6149be45e5)
