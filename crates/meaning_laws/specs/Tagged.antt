-- That tags change nothing in a run.
use Rattle.std.specs.Prelude.{◌≡◌, ◌↔◌, ℕ, Bool, true, List, pos}
use Rattle.num_ops.specs.declared.kinds.IntKind.TheVariants as k
use Rattle.num_ops.specs.Kinds.{holds}
use Rattle.c_core.specs.declared.values.End.{End}
use Rattle.c_core.specs.Tree.{Function, Program}
use Rattle.c_core.specs.WellFormed.{well_formed}
use Rattle.c_meaning.specs.declared.log.LogEntry.{LogEntry}
use Rattle.c_meaning.specs.Meaning.{Tokens}
use Rattle.c_meaning.specs.Log.{RunOf}
use Rattle.meaning_laws.specs.Retag.{Tags, retagged}

-- one token for every site and builtin: the fallback
abbrev pub plain : (fallback : ℕ) → Tokens
plain fallback = record { site = λ n. fallback; mark = λ n. fallback; fallback = fallback }

abbrev pub tags_of : Tokens → (is_argument : Bool) → Tags
tags_of tok is_argument = record { site = tok.site; mark = tok.mark; is_argument = is_argument }

-- each token is a value of `unsigned long`
pub record AreLong (tok : Tokens) : Type 0 where
  pub sites : (n : ℕ) → holds k.ULong (pos (tok.site n)) ≡ true
  pub marks : (n : ℕ) → holds k.ULong (pos (tok.mark n)) ≡ true

-- the tagged program, which is told no tokens, has the run that the program has under its tokens: the output, the end
-- with its place, and the log are the same. The entry points behind its functions change nothing
abbrev pub TagsChangeNothing : Type 0
TagsChangeNothing =
    (c : Program) → well_formed c ≡ true → (tok : Tokens) → AreLong tok
    → (is_argument : Bool) (entries : List Function) (input : List ℕ) (steps count size : ℕ) (output : List ℕ) (end : End) (log : List LogEntry)
    → RunOf (retagged (tags_of tok is_argument) entries c) (plain tok.fallback) input steps count size output end log ↔ RunOf c tok input steps count size output end log
