-- The numbers of a unit's fixed objects, functions, allocation calls and builtins: each is a place in a list. And what a name
-- stands for.
use Rattle.std.specs.Prelude.{ℕ, suc, Bool, true, false, not, ◌&&◌, ◌==◌, if◌then◌else◌, List, [], ◌∷◌, ◌++◌, map, Option, Some, None, is_some, option_and_then, slice_get}
use Rattle.std.specs.Option.{option_map}
use Rattle.name_places.specs.Placed.{place_of}
use Rattle.tok_base.specs.declared.token.Span.{Span}
use Rattle.c_core.specs.declared.values.Scalar.TheVariants as scalar
use Rattle.c_core.specs.declared.tree.LibMark.{LibMark}
use Rattle.c_core.specs.declared.tree.LibMark.TheVariants as mark
use Rattle.c_core.specs.declared.tree.Place.TheVariants as place
use Rattle.c_core.specs.Library.{Callee, library_names, entry}
use Rattle.c_core.specs.WellFormed.{has}
use Rattle.c_core.specs.Tree as c
use Rattle.c_rules.specs.Known.{Known}
use Rattle.c_rules.specs.World.{FunctionOf}
use Rattle.c_rules.specs.declared.known.Binding.{Binding}
use Rattle.c_rules.specs.declared.known.Binding.TheVariants as to
use Rattle.c_checked.specs.Told.{object_at, function_at}
use Rattle.lower_rules.specs.Lowered.{Lowered, giving, null_at}

-- a fixed object: an object of static storage duration by its number, or the string literal of a node, as it is spelled
pub data FixedThing : Type 0 where
  an_object : ℕ → FixedThing
  a_literal : (node : ℕ) → (spelled : List (List ℕ)) → FixedThing

-- what is known of a unit, with its fixed objects, allocation calls and builtins in the order of the text; of the last two
-- the nodes
pub record Numbered : Type 0 where
  pub known : Known
  pub fixed : List FixedThing
  pub sites : List ℕ
  pub marks : List ℕ

-- the locals that are alive where something stands, by their numbers
abbrev pub Scope : Type 0
Scope = List ℕ

-- ---- places in lists

-- the place of the first one that is it
abbrev pub first_where : {A : Type 0} → (A → Bool) → List A → Option ℕ
first_where is [] = None
first_where is (x ∷ xs) = if is x then Some 0 else option_map suc (first_where is xs)

abbrev pub position : ℕ → List ℕ → Option ℕ
position n xs = first_where (λ x. x == n) xs

abbrev pub is_object : ℕ → FixedThing → Bool
is_object n (an_object m) = n == m
is_object n (a_literal node ts) = false

abbrev pub is_literal : ℕ → FixedThing → Bool
is_literal node (an_object m) = false
is_literal node (a_literal other ts) = node == other

abbrev pub fixed_object : Numbered → ℕ → Option ℕ
fixed_object n number = first_where (is_object number) n.fixed

abbrev pub fixed_literal : Numbered → ℕ → Option ℕ
fixed_literal n node = first_where (is_literal node) n.fixed

-- ---- functions: in the order of their first declarations, the allocator's entry points after all others

abbrev pub is_entry : FunctionOf → Bool
is_entry f = not f.has_body && is_some (entry f.name)

abbrev pub is_same_bool : Bool → Bool → Bool
is_same_bool true b = b
is_same_bool false b = not b

-- those that are entry points, or the others, by their numbers from i on
abbrev pub numbers_where : (entries : Bool) → (i : ℕ) → List FunctionOf → List ℕ
numbers_where entries i [] = []
numbers_where entries i (f ∷ fs) = if is_same_bool (is_entry f) entries then i ∷ numbers_where entries (suc i) fs else numbers_where entries (suc i) fs

abbrev pub order : Known → List ℕ
order k = numbers_where false 0 k.functions ++ numbers_where true 0 k.functions

abbrev pub function_numbered : Known → ℕ → Option ℕ
function_numbered k number = position number (order k)

-- the function with a name
abbrev pub function_named : Known → List ℕ → Option ℕ
function_named k name = option_and_then (function_numbered k) (place_of name (map (λ f. f.name) k.functions))

abbrev pub library_numbered : Known → ℕ → Option ℕ
library_numbered k number = option_and_then (function_named k) (slice_get library_names number)

-- ---- the address of what a name stands for (6.3.2.1, 6.5.1)

abbrev pub function_address : Span → Option ℕ → Lowered
function_address span None = null_at span
function_address span (Some f) = giving scalar.Ptr span (c.Func f)

abbrev pub local_address : Span → Scope → Option ℕ → Lowered
local_address span scope None = null_at span
local_address span scope (Some x) = if has x scope then giving scalar.Ptr span (c.Object (place.Local x)) else null_at span

abbrev pub local_of : Known → ℕ → Option ℕ
local_of k number = option_and_then (λ o. o.local) (object_at k number)

-- an object of static storage duration is fixed, another one a local
abbrev pub object_address : Numbered → Scope → Span → ℕ → Option ℕ → Lowered
object_address n scope span number (Some f) = giving scalar.Ptr span (c.Object (place.Fixed f))
object_address n scope span number None = local_address span scope (local_of n.known number)

unfoldable pub bound_address : Numbered → Scope → Span → Option Binding → Lowered
bound_address n scope span (Some (to.Object number)) = object_address n scope span number (fixed_object n number)
bound_address n scope span (Some (to.Function number)) = function_address span (function_numbered n.known number)
bound_address n scope span (Some (to.Library number)) = function_address span (library_numbered n.known number)
bound_address n scope span (Some (to.Enumerator z)) = null_at span
bound_address n scope span None = null_at span

abbrev pub literal_numbered : Span → Option ℕ → Lowered
literal_numbered span None = null_at span
literal_numbered span (Some f) = giving scalar.Ptr span (c.Text f)

unfoldable pub literal_address : Numbered → Span → (node : ℕ) → Lowered
literal_address n span node = literal_numbered span (fixed_literal n node)

-- ---- direct calls

-- of a library function: with the token of a site, or with none
abbrev pub site_mark : Option ℕ → LibMark
site_mark None = mark.Untagged
site_mark (Some i) = mark.Site i

abbrev pub entry_of : Option FunctionOf → Option Callee
entry_of None = None
entry_of (Some f) = if f.has_body then None else entry f.name

-- the library function that a name calls, itself or by an entry point, where the call is a node
abbrev pub callee_bound : Numbered → (call : ℕ) → Option Binding → Option Callee
callee_bound n call (Some (to.Library number)) = Some (number, site_mark (position call n.sites))
callee_bound n call (Some (to.Function number)) = entry_of (function_at n.known number)
callee_bound n call b = None
