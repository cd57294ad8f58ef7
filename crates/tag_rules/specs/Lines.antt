-- What is told of each site: a line with its number, where its name begins, the function that it calls, its token, whether its
-- type contains a pointer, and the type.
use Rattle.std.specs.Prelude.{ℕ, Bool, true, false, List, [], ◌∷◌, ◌++◌, codes, decimal, flat_map, Option, Some, None}
use Rattle.c_tree.specs.Marked as m
use Rattle.c_types.specs.CTypes.{CType}
use Rattle.c_types.specs.Spelling.{spelling}
use Rattle.c_rules.specs.Known.{Known}
use Rattle.token_modes.specs.declared.plan.Plan.{Plan}
use Rattle.tag_rules.specs.Tokens.{Stream, SiteToken, names_in, tok}
use Rattle.tag_rules.specs.EntryPoints.{callee_name}

-- one space behind a word
abbrev pub spaced : List ℕ → List ℕ → List ℕ
spaced word more = word ++ 32 ∷ more

-- p for a type that contains a pointer, d for another
abbrev pub letter : Bool → List ℕ
letter true = codes "p"
letter false = codes "d"

abbrev pub type_words : Known → Bool → Option CType → List ℕ
type_words known pointer None = codes "- -"
type_words known pointer (Some t) = spaced (letter pointer) (spelling (names_in known) t)

abbrev pub site_line : Known → SiteToken → List ℕ
site_line known s =
    spaced (decimal s.k) (spaced (decimal s.start) (spaced (callee_name s.callee) (spaced (decimal s.token) (type_words known s.pointer s.inferred ++ 10 ∷ []))))

unfoldable pub site_lines : Known → Plan → Stream → List m.External → List ℕ
site_lines known plan stream u = flat_map (site_line known) (tok known plan stream u).sites
