-- What becomes of a unit, and what is told of it. A row has a unit's text, how it is rewritten, and what is wanted.
use Rattle.std.specs.Prelude.{ℕ, suc, ◌+◌, nat_le, Bool, true, false, ◌&&◌, ◌==◌, if◌then◌else◌, bytes_eq, List, [], ◌∷◌, ◌++◌, length, Option, Some, None}
use Rattle.std.specs.Option.{option_map}
use Rattle.tok_base.specs.declared.token.Span.{Span}
use Rattle.tok_base.specs.Words.{fixed_word}
use Rattle.c_tree.specs.Marked as m
use Rattle.c_tree.specs.Bare.{bare_unit}
use Rattle.c_tree.specs.Printed.{unit_text}
use Rattle.c_tree.specs.Pieces.{Piece, token, opens, closes, absent, pieces_unit}
use Rattle.c_tree.specs.Nodes.{numbers}
use Rattle.site_examples.specs.Found.{Kept, kept_of, found_sites, found_marks}
use Rattle.token_modes.specs.declared.plan.Plan.{Plan}
use Rattle.tag_rules.specs.Tokens.{Stream, tok}
use Rattle.tag_rules.specs.EntryPoints.{prototypes}
use Rattle.tag_rules.specs.Tagged.{tagged}
use Rattle.tag_rules.specs.Refusals.{Refusal, refusal}
use Rattle.tag_rules.specs.Edits.{Edit, edits, edited}
use Rattle.tag_rules.specs.Lines.{site_lines}
use Rattle.tag_rules.specs.declared.abi.Abi.{Abi}

-- how units are rewritten
pub record How : Type 0 where
  pub plan : Plan
  pub abi : Abi
  -- the random words, over and over
  pub words : List ℕ

abbrev pub stream_of : How → Stream
stream_of how = fixed_word how.words

abbrev pub tagged_as : How → Kept → List m.External
tagged_as how x = tagged x.known how.plan how.abi (stream_of how) x.unit

abbrev pub printed : List m.External → List ℕ
printed u = unit_text (bare_unit u)

-- ---- a unit's text, and the text of what it becomes

pub record Row : Type 0 where
  pub how : How
  pub before : List ℕ
  pub after : List ℕ

-- the rows of which this isn't so
abbrev pub differing : (Row → Bool) → List Row → List (List ℕ)
differing test [] = []
differing test (r ∷ rs) = if test r then differing test rs else r.before ∷ differing test rs

abbrev pub of_kept : (Kept → Bool) → Option Kept → Bool
of_kept test None = false
of_kept test (Some x) = test x

abbrev pub has_no_refusal : Option Refusal → Bool
has_no_refusal None = true
has_no_refusal (Some r) = false

abbrev pub is_rewritten : Row → Bool
is_rewritten r =
    of_kept (λ x. has_no_refusal (refusal x.known r.how.plan x.unit) && bytes_eq (printed (tagged_as r.how x)) r.after) (kept_of r.before)

-- ---- the text with the edits made, behind the declarations of the entry points

abbrev pub with_edits : Row → Kept → List ℕ
with_edits r x =
    printed (prototypes r.how.abi (tok x.known r.how.plan (stream_of r.how) x.unit).sites)
    ++ edited r.before (edits x.known r.how.plan r.how.abi (stream_of r.how) x.unit)

abbrev pub reads_as : List ℕ → List ℕ → Bool
reads_as text after = of_kept (λ x. bytes_eq (printed x.unit) after) (kept_of text)

-- they ascend, don't overlap and lie in the text
abbrev pub fit : (from bytes : ℕ) → List Edit → Bool
fit from bytes [] = nat_le from bytes
fit from bytes (e ∷ es) = nat_le from e.at && fit (e.at + e.remove) bytes es

abbrev pub edits_of : Row → Kept → List Edit
edits_of r x = edits x.known r.how.plan r.how.abi (stream_of r.how) x.unit

abbrev pub edits_fit : Row → Bool
edits_fit r = of_kept (λ x. fit 0 (length r.before) (edits_of r x) && reads_as (with_edits r x) r.after) (kept_of r.before)

-- ---- the numbers of the nodes

abbrev pub counts : ℕ → List ℕ → Bool
counts n [] = true
counts n (k ∷ ks) = k == n && counts (suc n) ks

abbrev pub is_counted : Row → Bool
is_counted r = of_kept (λ x. counts 0 (numbers (tagged_as r.how x))) (kept_of r.before)

-- ---- what it becomes keeps all rules, and has no site and no mark

abbrev pub has_none : Row → Bool
has_none r = of_kept (λ x. (length (found_sites x) == 0) && (length (found_marks x) == 0)) (kept_of r.after)

-- ---- the places of the nodes, in the order in which they end

abbrev pub spans_of : List Piece → List Span
spans_of [] = []
spans_of (token t ∷ ps) = spans_of ps
spans_of (opens at ∷ ps) = spans_of ps
spans_of (closes at ∷ ps) = at.span ∷ spans_of ps
spans_of (absent at ∷ ps) = at.span ∷ spans_of ps

abbrev pub spans : List m.External → List Span
spans u = spans_of (pieces_unit u [])

abbrev pub spans_of_kept : How → Option Kept → List Span
spans_of_kept how None = []
spans_of_kept how (Some x) = spans (tagged_as how x)

-- of what a unit becomes
abbrev pub spans_for : How → List ℕ → List Span
spans_for how text = spans_of_kept how (kept_of text)

-- ---- refusals

pub record RefusalRow : Type 0 where
  pub plan : Plan
  pub text : List ℕ
  pub refusal : Option Refusal

-- None where the text is no unit that keeps all rules
abbrev pub refusal_for : Plan → List ℕ → Option (Option Refusal)
refusal_for plan text = option_map (λ x. refusal x.known plan x.unit) (kept_of text)

-- ---- lines

pub record LineRow : Type 0 where
  pub how : How
  pub text : List ℕ
  pub lines : List ℕ

abbrev pub lines_for : How → List ℕ → Option (List ℕ)
lines_for how text = option_map (λ x. site_lines x.known how.plan (stream_of how) x.unit) (kept_of text)
