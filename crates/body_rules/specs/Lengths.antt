-- The length that an initialiser gives an array of characters or of something else.
use Rattle.std.specs.Prelude.{ℕ, Bool, Option, Some}
use Rattle.c_tree.specs.Marked as t
use Rattle.c_rules.specs.Unit.{how_many, text_given}

abbrev pub given_by : (is_of_chars : Bool) → t.Init → Option ℕ
given_by is_of_chars (t.Plain e) = text_given is_of_chars e
given_by is_of_chars (t.Braces at gs c) = Some (how_many gs)
