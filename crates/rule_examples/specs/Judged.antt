-- A unit's text, cut into tokens, read and judged by the definitions alone.
use Rattle.std.specs.Prelude.{ℕ, zero, suc, ◌+◌, ◌==◌, Bool, true, false, ◌&&◌, if◌then◌else◌, List, [], ◌∷◌, length, take, drop, Option, Some, None}
use Rattle.std.specs.Option.{option_map}
use Rattle.tok_base.specs.declared.token.Kind.{Kind}
use Rattle.tok_base.specs.declared.token.Token.{Token}
use Rattle.c_lexer.specs.Scan as scan
use Rattle.c_lexer.specs.declared.piece.Piece.{Piece}
use Rattle.c_lexer.specs.declared.piece.Piece.TheVariants.{Skipped, Taken, Neither}
use Rattle.c_reader.specs.Reader as reader
use Rattle.c_rules.specs.Trials.{Verdict, fine, broke, verdict}
use Rattle.c_rules.specs.Unit.{trials}

-- ---- tokens of a text without line markers

abbrev pub token_at : ℕ → Kind → ℕ → List ℕ → Token
token_at at kind n rest = record { kind = kind; text = take n rest; span = record { start = at; end = at + n } }

-- the piece at the front, in front of the tokens behind it
abbrev pub with_piece : ℕ → List ℕ → Piece → (ℕ → Option (List Token)) → Option (List Token)
with_piece at rest (Skipped n) behind = behind n
with_piece at rest (Taken kind n) behind = option_map (λ ts. token_at at kind n rest ∷ ts) (behind n)
with_piece at rest Neither behind = None

-- in so many pieces at most; `at` is the place of the first byte
abbrev pub tokens_in : (pieces : ℕ) → (at : ℕ) → List ℕ → Option (List Token)
tokens_in zero at rest = None
tokens_in (suc pieces) at [] = Some []
tokens_in (suc pieces) at (b ∷ bs) =
    with_piece at (b ∷ bs) (scan.piece false (b ∷ bs)) (λ n. tokens_in pieces (at + n) (drop n (b ∷ bs)))

abbrev pub tokens_of : List ℕ → Option (List Token)
tokens_of text = tokens_in (suc (length text)) 0 text

-- ---- what a unit comes to

pub data Outcome : Type 0 where
  keeps_all unread : Outcome
  breaks : (rule start : ℕ) → Outcome

abbrev pub of_verdict : Verdict → Outcome
of_verdict (fine w) = keeps_all
of_verdict (broke rule at) = breaks rule at.span.start

-- a unit of the tables has fewer than 200 nodes
abbrev pub of_answer : (need_main : Bool) → reader.Answer → Outcome
of_answer need_main (reader.unit u) = of_verdict (verdict (trials need_main 200 u))
of_answer need_main (reader.wrong ts) = unread
of_answer need_main (reader.deep ts) = unread

abbrev pub of_tokens : (need_main : Bool) → Option (List Token) → Outcome
of_tokens need_main None = unread
of_tokens need_main (Some ts) = of_answer need_main (reader.read ts)

abbrev pub outcome : (need_main : Bool) → List ℕ → Outcome
outcome need_main text = of_tokens need_main (tokens_of text)

-- ---- the tables: a text, and that it keeps all rules, or the rule that is broken first, perhaps with the byte where its node begins

pub data Wanted : Type 0 where
  all_kept : Wanted
  rule_broken : ℕ → Wanted
  rule_broken_at : (rule start : ℕ) → Wanted

pub record Row : Type 0 where
  pub text : List ℕ
  pub wanted : Wanted

abbrev pub kept : List ℕ → Row
kept text = record { text = text; wanted = all_kept }

abbrev pub broken : ℕ → List ℕ → Row
broken rule text = record { text = text; wanted = rule_broken rule }

abbrev pub broken_at : (rule start : ℕ) → List ℕ → Row
broken_at rule start text = record { text = text; wanted = rule_broken_at rule start }

abbrev pub is_wanted : Wanted → Outcome → Bool
is_wanted all_kept keeps_all = true
is_wanted all_kept unread = false
is_wanted all_kept (breaks rule start) = false
is_wanted (rule_broken r) (breaks rule start) = rule == r
is_wanted (rule_broken r) keeps_all = false
is_wanted (rule_broken r) unread = false
is_wanted (rule_broken_at r s) (breaks rule start) = rule == r && start == s
is_wanted (rule_broken_at r s) keeps_all = false
is_wanted (rule_broken_at r s) unread = false

-- the texts that come to something else than what is wanted of them
abbrev pub differing : (need_main : Bool) → List Row → List (List ℕ)
differing need_main [] = []
differing need_main (r ∷ rs) =
    if is_wanted r.wanted (outcome need_main r.text) then differing need_main rs else r.text ∷ differing need_main rs
