-- The core program of a unit (ISO/IEC 9899:2018, 6.9).
use Rattle.std.specs.Prelude.{ℕ, Bool, true, false, nat_lt, ◌&&◌, ◌==◌, if◌then◌else◌, List, [], ◌∷◌, ◌++◌, map, length, Option, Some, None, codes}
use Rattle.std.specs.Option.{option_map}
use Rattle.c_core.specs.declared.values.Cell.{Cell}
use Rattle.c_core.specs.declared.values.Cell.TheVariants.{Undefined, Byte, Part}
use Rattle.c_core.specs.declared.tree.FixedObject.{FixedObject}
use Rattle.c_core.specs.Signatures.{Signature}
use Rattle.c_core.specs.Values.{scalar_size}
use Rattle.c_core.specs.WellFormed.{numbers}
use Rattle.c_core.specs.Tree as c
use Rattle.c_tree.specs.Marked as m
use Rattle.c_types.specs.CTypes.{CType, Void}
use Rattle.c_rules.specs.Known.{Known}
use Rattle.c_rules.specs.World.{ObjectOf, FunctionOf}
use Rattle.c_rules.specs.Walk.{name_node}
use Rattle.c_rules.specs.declared.known.Binding.{Binding}
use Rattle.c_rules.specs.declared.known.Binding.TheVariants as to
use Rattle.c_checked.specs.Told.{binding_of, object_at, function_at}
use Rattle.alloc_infer.specs.Sites.{sites_of, marks_of}
use Rattle.lower_rules.specs.Shapes.{signature_of, bytes_of, spelled}
use Rattle.lower_rules.specs.Numbered.{Numbered, FixedThing, an_object, a_literal, order, function_named}
use Rattle.lower_rules.specs.FixedThings.{fixed_things, static_object}
use Rattle.lower_rules.specs.Initialisers.{cells, cells_from, literal_bytes}
use Rattle.lower_rules.specs.Statements.{stmt}

-- ---- the initialisers of objects of static storage duration, in the order of the text; `done`: those before

pub record Given : Type 0 where
  pub object : ℕ
  pub init : m.Init

abbrev pub with_given : Option ℕ → m.MaybeInit → (done : List Given) → List Given
with_given (Some number) (m.some_init i) done = done ++ record { object = number; init = i } ∷ []
with_given object i done = done

abbrev pub given_in_items : Known → List m.Item → (done : List Given) → List Given
given_in_items k [] done = done
given_in_items k (i ∷ is) done = given_in_items k is (with_given (static_object k i.declarator) i.init done)

abbrev pub given_in_first : Known → m.First → (done : List Given) → List Given
given_in_first k (m.FirstDeclaration d) done = given_in_items k d.items done
given_in_first k (m.FirstExpr a) done = done

abbrev mutual
  pub given_in_stmt : Known → m.Stmt → (done : List Given) → List Given
  given_in_stmt k (m.Block at is) done = given_in_block k is done
  given_in_stmt k (m.If at x s) done = given_in_stmt k s done
  given_in_stmt k (m.IfElse at x s r) done = given_in_stmt k r (given_in_stmt k s done)
  given_in_stmt k (m.While at x s) done = given_in_stmt k s done
  given_in_stmt k (m.Do at s x) done = given_in_stmt k s done
  given_in_stmt k (m.For at a x e s) done = given_in_stmt k s (given_in_first k a done)
  given_in_stmt k s done = done

  pub given_in_block : Known → m.BlockItems → (done : List Given) → List Given
  given_in_block k m.no_items done = done
  given_in_block k (m.declared d is) done = given_in_block k is (given_in_items k d.items done)
  given_in_block k (m.statement s is) done = given_in_block k is (given_in_stmt k s done)

abbrev pub given_in : Known → List m.External → (done : List Given) → List Given
given_in k [] done = done
given_in k (m.Declares d ∷ xs) done = given_in k xs (given_in_items k d.items done)
given_in k (m.Definition at ss d body_at is ∷ xs) done = given_in k xs (given_in_block k is done)

abbrev pub given_to : ℕ → List Given → Option m.Init
given_to number [] = None
given_to number (g ∷ gs) = if g.object == number then Some g.init else given_to number gs

-- ---- fixed objects

abbrev pub cells_given : Numbered → CType → Option m.Init → List (ℕ × Cell)
cells_given n t None = []
cells_given n t (Some i) = cells n t 0 i []

-- those that stand in an object of a size and are cells, as all do and are in a unit that keeps the rules
abbrev pub is_cell : Cell → Bool
is_cell (Byte b) = nat_lt b 256
is_cell (Part p i) = true
is_cell Undefined = false

abbrev pub inside : (size : ℕ) → List (ℕ × Cell) → List (ℕ × Cell)
inside size [] = []
inside size (x ∷ xs) = if nat_lt x.0 size && is_cell x.1 then x ∷ inside size xs else inside size xs

-- one that is only declared has no cells
abbrev pub object_of : Numbered → Option m.Init → Option ObjectOf → FixedObject
object_of n i None = record { size = 1; read_only = false; defined = false; cells = [] }
object_of n i (Some o) =
    record { size = bytes_of n.known o.type; read_only = false; defined = o.is_defined; cells = if o.is_defined then inside (bytes_of n.known o.type) (cells_given n o.type i) else [] }

abbrev pub literal_of : List ℕ → FixedObject
literal_of bytes = record { size = length bytes; read_only = true; defined = true; cells = cells_from 0 (map Byte bytes) [] }

abbrev pub fixed_of : Numbered → List Given → FixedThing → FixedObject
fixed_of n gs (an_object number) = object_of n (given_to number gs) (object_at n.known number)
fixed_of n gs (a_literal node ts) = literal_of (literal_bytes ts)

-- ---- functions

abbrev pub is_function : ℕ → Option Binding → Bool
is_function number (Some (to.Function other)) = number == other
is_function number b = false

-- the body of a function, where the unit has it
abbrev pub body_of : Known → ℕ → List m.External → Option m.Stmt
body_of k number [] = None
body_of k number (m.Declares d ∷ xs) = body_of k number xs
body_of k number (m.Definition at ss d body_at is ∷ xs) =
    if is_function number (binding_of k (name_node d)) then Some (m.Block body_at is) else body_of k number xs

-- 6.9.1, paragraph 9: the parameters are the first locals
abbrev pub function_with : Numbered → Signature → FunctionOf → Option m.Stmt → c.Function
function_with n s f body = record {
  name = f.name;
  ty = spelled n.known f.type;
  params = map scalar_size s.takes;
  body = option_map (stmt n s.gives (numbers 0 (map scalar_size s.takes)) false) body;
}

abbrev pub no_function : FunctionOf
no_function = record { name = []; type = Void; has_body = false }

abbrev pub function_of : Numbered → List m.External → ℕ → Option FunctionOf → c.Function
function_of n u number None = function_with n (signature_of Void) no_function None
function_of n u number (Some f) = function_with n (signature_of f.type) f (body_of n.known number u)

-- ---- the program

abbrev pub program : Numbered → List m.External → c.Program
program n u = record {
  funcs = map (λ number. function_of n u number (function_at n.known number)) (order n.known);
  fixed = map (fixed_of n (given_in n.known u [])) n.fixed;
  main = function_named n.known (codes "main");
}

-- the numbers of a unit's things, where its allocation calls and builtins are the nodes with these numbers
abbrev pub numbered : Known → (sites marks : List ℕ) → List m.External → Numbered
numbered k sites marks u = record { known = k; fixed = fixed_things k u; sites = sites; marks = marks }

abbrev pub core_with : Known → (sites marks : List ℕ) → List m.External → c.Program
core_with k sites marks u = program (numbered k sites marks u) u

-- the core of a unit that keeps all rules
unfoldable pub core_of : Known → List m.External → c.Program
core_of k u = core_with k (map (λ s. s.node) (sites_of k u)) (map (λ x. x.node) (marks_of k u)) u
