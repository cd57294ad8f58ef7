-- The token of an allocation site under a plan: the modes of Clang's manual of allocation tokens, with
-- SipHash-2-4 of the spelling of the site's type as the hash.
use Rattle.std.specs.Prelude.{ℕ, ◌+◌, ◌/◌, ◌%◌, ◌==◌, if◌then◌else◌, Bool, List, Option}
use Rattle.std.specs.Option.{unwrap_or, option_map}
use Rattle.sip24.specs.SipHash.{siphash}
use Rattle.token_modes.specs.declared.mode.Mode.{Mode}
use Rattle.token_modes.specs.declared.mode.Mode.TheVariants.{Increment, Random, TypeHash, Split}
use Rattle.token_modes.specs.declared.plan.Plan.{Plan}

-- how many tokens each half has; with an odd maximum the last token is in neither half
abbrev pub half : ℕ → ℕ
half max = max / 2

-- what is known of a site's type: its spelling, and whether it contains a pointer
abbrev pub SiteType : Type 0
SiteType = List ℕ × Bool

-- a type with this hash value: the first half for types without a pointer, the second for those with one
abbrev pub split_token : ℕ → ℕ → Bool → ℕ
split_token max hash pointer =
    if max == 1 then 0 else hash % half max + (if pointer then half max else 0)

-- the token of site k, where word is the k-th random word, by the mode
abbrev pub token_by : Mode → Plan → ℕ → ℕ → Option SiteType → ℕ
token_by Increment plan k word typed = k % plan.max
token_by Random plan k word typed = word % plan.max
token_by TypeHash plan k word typed =
    unwrap_or (option_map (λ t. siphash plan.key t.0 % plan.max) typed) plan.fallback
token_by Split plan k word typed =
    unwrap_or (option_map (λ t. split_token plan.max (siphash plan.key t.0) t.1) typed) plan.fallback

unfoldable pub token : Plan → ℕ → ℕ → Option SiteType → ℕ
token plan k word typed = token_by plan.mode plan k word typed
