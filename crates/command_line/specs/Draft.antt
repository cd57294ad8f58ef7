-- The words read one by one from the left. The laws in proofs/ say that this comes to the same as the words' parts, so no
-- public contract names it.
use denote.Ref.{Bor}
use Rattle.std.specs.Prelude.{ℕ, List, [], ◌∷◌, Option, Some, None, option_and_then, option_map, if◌then◌else◌}
use Rattle.std.specs.Option.{option_copied}
use Rattle.command_line.specs.Words.{Key, Mode, Max, key_of, is_plain}
use Rattle.command_line.specs.Options.{options_from}
use Rattle.command_line.specs.declared.options.Options.{Options}
use Rattle.command_line.specs.declared.options.Draft as declared_draft
use Rattle.command_line.specs.declared.options.Key as declared_key

-- the option whose value comes next, and what stood behind each option and as a file so far
pub record Reading : Type 0 where
  pub key : Option Key
  pub mode : Option (List ℕ)
  pub max : Option (List ℕ)
  pub file : Option (List ℕ)

abbrev pub begin : Reading
begin = record { key = None; mode = None; max = None; file = None }

abbrev pub key_meant : declared_key.Key → Key
key_meant declared_key.TheVariants.Mode = Mode
key_meant declared_key.TheVariants.Max = Max

abbrev pub reading_of : declared_draft.Draft → Reading
reading_of d = record { key = option_map key_meant d.key; mode = option_copied d.mode; max = option_copied d.max; file = option_copied d.file }

-- with the value of this option, or a file where there is none; each stands at most once
abbrev pub placed : Option Key → Reading → List ℕ → Option Reading
placed None r w = elim r.file [ None ↦ Some (record r { key = None; file = Some w }) | Some f ↦ None ]
placed (Some Mode) r w = elim r.mode [ None ↦ Some (record r { key = None; mode = Some w }) | Some v ↦ None ]
placed (Some Max) r w = elim r.max [ None ↦ Some (record r { key = None; max = Some w }) | Some v ↦ None ]

abbrev pub placed_plain : Option Key → Reading → List ℕ → Option Reading
placed_plain key r w = if is_plain w then placed key r w else None

-- where no option waits for its value
abbrev pub read_free : Option Key → Reading → List ℕ → Option Reading
read_free (Some key) r w = Some (record r { key = Some key })
read_free None r w = placed_plain None r w

abbrev pub read_at : Option Key → Reading → List ℕ → Option Reading
read_at (Some key) r w = placed_plain (Some key) r w
read_at None r w = read_free (key_of w) r w

abbrev pub read : Reading → List ℕ → Option Reading
read r w = read_at r.key r w

abbrev pub read_all : List (List ℕ) → Reading → Option Reading
read_all [] r = Some r
read_all (w ∷ ws) r = option_and_then (read_all ws) (read r w)

abbrev pub listed : Option (List ℕ) → List (List ℕ)
listed None = []
listed (Some w) = w ∷ []

abbrev pub finish_at : Option Key → Option (List ℕ) → Option (List ℕ) → Option (List ℕ) → Option Options
finish_at (Some key) mode max file = None
finish_at None mode max file = options_from (listed mode) (listed max) (listed file)

abbrev pub finish : Reading → Option Options
finish r = finish_at r.key r.mode r.max r.file

abbrev pub asked : Bor (List ℕ) × ℕ → Options
asked p = record { file = p.0.now; max = p.1 }
