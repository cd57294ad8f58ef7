-- Which token each allocation call of a unit has, each builtin that gives one, and a request that is neither's.
use Rattle.std.specs.Prelude.{ℕ, suc, Bool, false, List, [], ◌∷◌, map, Option}
use Rattle.std.specs.Option.{option_map, unwrap_or}
use Rattle.c_tree.specs.Marked.{External}
use Rattle.c_types.specs.CTypes.{CType}
use Rattle.c_types.specs.Pieces.{record_name, enum_name}
use Rattle.c_types.specs.Pointers.{contains_pointer}
use Rattle.c_types.specs.Spelling.{Names, spelling}
use Rattle.c_rules.specs.Known.{Known}
use Rattle.alloc_infer.specs.Sites.{Site, Mark, sites_of, marks_of}
use Rattle.alloc_infer.specs.declared.site.Callee.{Callee}
use Rattle.token_modes.specs.Tokens.{SiteType, token}
use Rattle.token_modes.specs.declared.plan.Plan.{Plan}

-- the random words of a seed, by their places from 0
abbrev pub Stream : Type 0
Stream = ℕ → ℕ

-- the names of the unit's structs, unions and enumerations
abbrev pub names_in : Known → Names
names_in known = record {
  records = λ n. record_name known.records.heads n;
  enums = λ n. enum_name (map (λ e. e.name) known.enums) n;
}

-- of a type: its spelling, and whether it contains a pointer
abbrev pub site_type : Known → CType → SiteType
site_type known t = (spelling (names_in known) t, contains_pointer known.records.layouts t)

abbrev pub typed : Known → Option CType → Option SiteType
typed known inferred = option_map (site_type known) inferred

-- ---- the sites, by their numbers from 0

-- what is told of a site
pub record SiteToken : Type 0 where
  pub k : ℕ
  -- the number of the call
  pub node : ℕ
  -- the first byte of the called name
  pub start : ℕ
  pub callee : Callee
  pub token : ℕ
  pub inferred : Option CType
  -- the type contains a pointer
  pub pointer : Bool

-- a site goes by its number and the random word of that number
abbrev pub site_token : Known → Plan → Stream → ℕ → Site → SiteToken
site_token known plan stream k s = record {
  k = k;
  node = s.node;
  start = s.name.start;
  callee = s.callee;
  token = token plan k (stream k) (typed known s.inferred);
  inferred = s.inferred;
  pointer = unwrap_or (option_map (contains_pointer known.records.layouts) s.inferred) false;
}

abbrev pub site_tokens : Known → Plan → Stream → ℕ → List Site → List SiteToken
site_tokens known plan stream k [] = []
site_tokens known plan stream k (s ∷ ss) = site_token known plan stream k s ∷ site_tokens known plan stream (suc k) ss

-- ---- the marks

pub record MarkToken : Type 0 where
  pub node : ℕ
  pub token : ℕ

-- a mark has no number among the sites; in the modes that go by it there is none
abbrev pub mark_token : Known → Plan → Mark → MarkToken
mark_token known plan m = record { node = m.node; token = token plan 0 0 (typed known m.inferred) }

-- ---- the tokens of a unit

pub record Tok : Type 0 where
  pub sites : List SiteToken
  pub marks : List MarkToken
  -- of a request that is neither a site's nor a mark's
  pub fallback : ℕ

unfoldable pub tok : Known → Plan → Stream → List External → Tok
tok known plan stream u = record {
  sites = site_tokens known plan stream 0 (sites_of known u);
  marks = map (mark_token known plan) (marks_of known u);
  fallback = plan.fallback;
}
