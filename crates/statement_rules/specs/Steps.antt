-- Statements, items and bodies, cut where their parts are walked.
use Rattle.std.specs.Prelude.{ℕ, Bool, true, false, ◌&&◌, if◌then◌else◌, List, Option, Some, None, option_map}
use Rattle.c_tree.specs.declared.operator.At.{At}
use Rattle.c_types.specs.CTypes.{CType}
use Rattle.c_types.specs.Plain.{plain, parameters_of, count_types}
use Rattle.c_types.specs.declared.terms.Term.{Term}
use Rattle.c_rules.specs.Specifiers.{Specified, are_specifiers}
use Rattle.c_rules.specs.Trials.{M, give, ◌>>=◌, ◌>>◌, keep, keep_specifiers, world, change}
use Rattle.c_rules.specs.Typed.{Typed}
use Rattle.c_rules.specs.Unit.{begin_locals, count_local, holder_of, is_main_entry, main, main_at, with_names}
use Rattle.c_rules.specs.Walk.{take_number}
use Rattle.c_rules.specs.World.{World, Entry, enter, find_name}
use Rattle.c_rules.specs.declared.known.Holder.TheVariants.{Definition}
use Rattle.expression_rules.specs.declared.typed.Typed as r
use Rattle.expression_rules.specs.Typed.{typed_of}

-- what is known of an expression, where there is one
abbrev pub maybe_typed : List Term → Option r.Typed → Option Typed
maybe_typed ts x = option_map (typed_of ts) x

-- ---- items

-- an automatic object takes the next place among those of its function
abbrev pub local_place : World → (is_static : Bool) → Option ℕ
local_place w is_static = if is_static then None else Some w.locals

-- what is declared takes the next numbers before its declarator is read
abbrev pub begin_item : (is_new : Bool) → Option ℕ → M ℕ
begin_item is_new local = do
  number ← take_number is_new local
  change (count_local is_new local)
  give number

-- ---- 3

abbrev pub judge_specifiers : ℕ → At → Specified → (has_items has_function : Bool) → M (Unit {0})
judge_specifiers n at s has_items has_function = do
  w ← world
  keep_specifiers n at (are_specifiers (holder_of w) s has_items has_function)

abbrev pub judge_definition : ℕ → At → Specified → M (Unit {0})
judge_definition n at s = keep_specifiers n at (are_specifiers Definition s true true)

-- ---- bodies

-- the block that the parameters share with the body
abbrev pub begin_body : CType → List Entry → M (Unit {0})
begin_body t es = do
  change enter
  change (with_names es)
  change (begin_locals (count_types (parameters_of (plain t))))

-- ---- 35

abbrev pub judge_main_at : Option At → (has_body : Bool) → M (Unit {0})
judge_main_at at has_body = do
  w ← world
  keep 35 (main_at at) (has_body && is_main_entry (find_name main w))

abbrev pub judge_main_if : (need_main : Bool) → Option At → (has_body : Bool) → M (Unit {0})
judge_main_if true at has_body = judge_main_at at has_body
judge_main_if false at has_body = give tt
