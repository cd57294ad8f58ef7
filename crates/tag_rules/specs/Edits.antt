-- The places at which the text of a unit changes, as the tagged unit wants it, and the text with these changes.
use Rattle.std.specs.Prelude.{ℕ, ◌+◌, ◌-◌, ◌≤◌, nat_lt, if◌then◌else◌, List, [], ◌∷◌, ◌++◌, codes, take, drop}
use Rattle.tok_base.specs.declared.token.Span.{Span}
use Rattle.c_tree.specs.Marked as m
use Rattle.c_rules.specs.Known.{Known}
use Rattle.alloc_infer.specs.Sites.{Site, Mark, sites_of, marks_of}
use Rattle.token_modes.specs.declared.plan.Plan.{Plan}
use Rattle.tag_rules.specs.Tokens.{Stream, SiteToken, MarkToken, Tok, tok}
use Rattle.tag_rules.specs.EntryPoints.{entry_point, constant}
use Rattle.tag_rules.specs.declared.abi.Abi.{Abi}
use Rattle.tag_rules.specs.declared.abi.Abi.TheVariants.{Standard, Fast}

-- from the byte `at` on so many bytes go, and the text comes in their place
pub record Edit : Type 0 where
  pub at : ℕ
  pub remove : ℕ
  pub text : List ℕ

abbrev pub replaced : Span → List ℕ → Edit
replaced s text = record { at = s.start; remove = s.end - s.start; text = text }

abbrev pub put_before : Span → List ℕ → Edit
put_before s text = record { at = s.start; remove = 0; text = text }

-- ---- an edit among others, in the order of their places

abbrev pub among : Edit → List Edit → List Edit
among e [] = e ∷ []
among e (x ∷ xs) = if nat_lt e.at x.at then e ∷ x ∷ xs else x ∷ among e xs

-- the token of a site as its last argument, before the closing parenthesis
abbrev pub with_argument : Abi → Site → ℕ → List Edit → List Edit
with_argument Standard s token es = among (put_before s.close (codes ", " ++ constant token)) es
with_argument Fast s token es = es

-- the name of a site, and its argument
abbrev pub with_site : Abi → Site → SiteToken → List Edit → List Edit
with_site abi s t es = among (replaced s.name (entry_point abi s.callee t.token)) (with_argument abi s t.token es)

abbrev pub with_sites : Abi → List Site → List SiteToken → List Edit → List Edit
with_sites abi [] ts es = es
with_sites abi (s ∷ ss) [] es = es
with_sites abi (s ∷ ss) (t ∷ ts) es = with_site abi s t (with_sites abi ss ts es)

-- a mark, from its word to its closing parenthesis
abbrev pub with_marks : List Mark → List MarkToken → List Edit → List Edit
with_marks [] ts es = es
with_marks (x ∷ xs) [] es = es
with_marks (x ∷ xs) (t ∷ ts) es = among (replaced x.span (constant t.token)) (with_marks xs ts es)

abbrev pub edits_with : Abi → Known → Tok → List m.External → List Edit
edits_with abi known tok u = with_sites abi (sites_of known u) tok.sites (with_marks (marks_of known u) tok.marks [])

unfoldable pub edits : Known → Plan → Abi → Stream → List m.External → List Edit
edits known plan abi stream u = edits_with abi known (tok known plan stream u) u

-- ---- they ascend, don't overlap, and lie in the text

-- from the byte `from` on, in a text of so many bytes
abbrev pub Fit : (from bytes : ℕ) → List Edit → Type 0
Fit from bytes [] = from ≤ bytes
Fit from bytes (e ∷ es) = (from ≤ e.at) × Fit (e.at + e.remove) bytes es

-- ---- the text with them made; `from` is the place of its first byte

abbrev pub made : (from : ℕ) → List ℕ → List Edit → List ℕ
made from text [] = text
made from text (e ∷ es) = take (e.at - from) text ++ e.text ++ made (e.at + e.remove) (drop (e.at + e.remove - from) text) es

abbrev pub edited : List ℕ → List Edit → List ℕ
edited text es = made 0 text es
