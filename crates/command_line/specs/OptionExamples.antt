-- Worked examples of what the words ask for.
use Rattle.std.specs.Prelude.{◌≡◌, ℕ, codes, ◌++◌, List, [], ◌∷◌, Some, None}
use Rattle.command_line.specs.Options.{options_of}

-- the file a.c, and so many tokens
abbrev pub Asks : List (List ℕ) → ℕ → Type 0
Asks ws n = options_of ws ≡ Some (record { file = codes "a.c"; max = n })

abbrev pub IsRefused : List (List ℕ) → Type 0
IsRefused ws = options_of ws ≡ None

-- rewrite --mode increment, and these words
abbrev pub rewrite_by : List (List ℕ) → List (List ℕ)
rewrite_by ws = codes "rewrite" ∷ codes "--mode" ∷ codes "increment" ∷ ws

-- a file of this name is taken
abbrev pub Names : List ℕ → Type 0
Names name = options_of (rewrite_by (name ∷ [])) ≡ Some (record { file = name; max = 16 })

-- rewrite --mode increment --max, this value, and a.c
abbrev pub with_max : List ℕ → List (List ℕ)
with_max value = rewrite_by (codes "--max" ∷ value ∷ codes "a.c" ∷ [])

pub record OptionExamples : Type 0 where
  pub file_last : Asks (with_max (codes "2")) 2
  pub file_first : Asks (codes "rewrite" ∷ codes "a.c" ∷ codes "--max" ∷ codes "2" ∷ codes "--mode" ∷ codes "increment" ∷ []) 2
  pub file_between : Asks (codes "rewrite" ∷ codes "--max" ∷ codes "300" ∷ codes "a.c" ∷ codes "--mode" ∷ codes "increment" ∷ []) 300
  pub default : Asks (rewrite_by (codes "a.c" ∷ [])) 16
  pub max_lowest : Asks (with_max (codes "1")) 1
  pub max_highest : Asks (with_max (codes "65536")) 65536
  pub max_zero : IsRefused (with_max (codes "0"))
  pub max_above : IsRefused (with_max (codes "65537"))
  pub max_leading_zero : IsRefused (with_max (codes "02"))
  pub max_signed : IsRefused (with_max (codes "+2"))
  pub max_no_number : IsRefused (with_max (codes "2x"))
  pub max_empty : IsRefused (with_max [])
  pub max_last : IsRefused (rewrite_by (codes "a.c" ∷ codes "--max" ∷ []))
  pub max_twice : IsRefused (rewrite_by (codes "--max" ∷ codes "2" ∷ codes "--max" ∷ codes "2" ∷ codes "a.c" ∷ []))
  pub max_equals : IsRefused (rewrite_by (codes "--max=2" ∷ codes "a.c" ∷ []))
  pub mode_twice : IsRefused (rewrite_by (codes "--mode" ∷ codes "increment" ∷ codes "a.c" ∷ []))
  pub mode_other : IsRefused (codes "rewrite" ∷ codes "--mode" ∷ codes "random" ∷ codes "a.c" ∷ [])
  pub mode_missing : IsRefused (codes "rewrite" ∷ codes "a.c" ∷ [])
  pub mode_option : IsRefused (codes "rewrite" ∷ codes "--mode" ∷ codes "--max" ∷ codes "2" ∷ codes "a.c" ∷ [])
  pub help : IsRefused (rewrite_by (codes "--help" ∷ codes "a.c" ∷ []))
  pub dashes : IsRefused (rewrite_by (codes "--" ∷ codes "a.c" ∷ []))
  pub dash : IsRefused (rewrite_by (codes "-" ∷ []))
  pub two_files : IsRefused (rewrite_by (codes "a.c" ∷ codes "b.c" ∷ []))
  pub no_file : IsRefused (rewrite_by [])
  pub empty_word : IsRefused (rewrite_by (codes "a.c" ∷ [] ∷ []))
  pub other_command : IsRefused (codes "check" ∷ codes "--mode" ∷ codes "increment" ∷ codes "a.c" ∷ [])
  pub command_alone : IsRefused (codes "rewrite" ∷ [])
  pub no_words : IsRefused []
  -- the order of the parts is free, and any plain word is a file
  pub file_then_mode : Asks (codes "rewrite" ∷ codes "a.c" ∷ codes "--mode" ∷ codes "increment" ∷ codes "--max" ∷ codes "2" ∷ []) 2
  pub max_then_file : Asks (codes "rewrite" ∷ codes "--max" ∷ codes "2" ∷ codes "a.c" ∷ codes "--mode" ∷ codes "increment" ∷ []) 2
  pub file_named_as_mode : Names (codes "increment")
  pub file_named_as_command : Names (codes "rewrite")
  pub file_of_any_bytes : Names (codes "/d-1/" ++ 255 ∷ codes " x.c")
  -- more words that the program doesn't take
  pub max_above_32_bits : IsRefused (with_max (codes "4294967298"))
  pub max_above_64_bits : IsRefused (with_max (codes "18446744073709551618"))
  pub max_two_zeros : IsRefused (with_max (codes "00"))
  pub max_negative : IsRefused (with_max (codes "-2"))
  pub max_blank : IsRefused (with_max (codes "2 "))
  pub max_hexadecimal : IsRefused (with_max (codes "0x2"))
  pub max_word : IsRefused (with_max (codes "two"))
  pub mode_last : IsRefused (codes "rewrite" ∷ codes "a.c" ∷ codes "--mode" ∷ [])
  pub mode_shorter : IsRefused (codes "rewrite" ∷ codes "--mode" ∷ codes "incremen" ∷ codes "a.c" ∷ [])
  pub mode_longer : IsRefused (codes "rewrite" ∷ codes "--mode" ∷ codes "increments" ∷ codes "a.c" ∷ [])
  pub mode_empty : IsRefused (codes "rewrite" ∷ codes "--mode" ∷ [] ∷ codes "a.c" ∷ [])
  pub mode_equals : IsRefused (codes "rewrite" ∷ codes "--mode=increment" ∷ codes "a.c" ∷ [])
  pub max_without_mode : IsRefused (codes "rewrite" ∷ codes "--max" ∷ codes "2" ∷ codes "a.c" ∷ [])
  pub help_alone : IsRefused (codes "rewrite" ∷ codes "--help" ∷ [])
  pub one_file_twice : IsRefused (rewrite_by (codes "a.c" ∷ codes "a.c" ∷ []))
  pub command_later : IsRefused (codes "--mode" ∷ codes "increment" ∷ codes "rewrite" ∷ codes "a.c" ∷ [])
  pub one_empty_word : IsRefused ([] ∷ [])
