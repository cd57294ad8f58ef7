-- What declarations in blocks and statements become (ISO/IEC 9899:2018, 6.7, 6.8).
use Rattle.std.specs.Prelude.{ℕ, pos, Bool, true, false, if◌then◌else◌, List, [], ◌∷◌, ◌++◌, Option, Some, None, option_and_then}
use Rattle.std.specs.Option.{option_map}
use Rattle.tok_base.specs.declared.token.Span.{Span}
use Rattle.num_ops.specs.declared.kinds.IntKind.TheVariants as k
use Rattle.c_core.specs.declared.values.Scalar.{Scalar}
use Rattle.c_core.specs.WellFormed.{has, names}
use Rattle.c_core.specs.Tree as c
use Rattle.c_core.specs.Tree.{no_exprs, Stmt, Stmts, no_stmts, one_stmt, MaybeExpr, NoExpr, TheExpr, NoElse, Otherwise}
use Rattle.c_tree.specs.Marked as m
use Rattle.c_types.specs.CTypes.{CType}
use Rattle.c_rules.specs.Known.{Known}
use Rattle.c_rules.specs.World.{ObjectOf}
use Rattle.c_rules.specs.Walk.{name_node}
use Rattle.c_rules.specs.declared.known.Binding.{Binding}
use Rattle.c_rules.specs.declared.known.Binding.TheVariants as to
use Rattle.c_checked.specs.Told.{binding_of, object_at}
use Rattle.lower_rules.specs.Shapes.{bytes_of}
use Rattle.lower_rules.specs.Lowered.{constant, zero_at, as_scalar, tested}
use Rattle.lower_rules.specs.Numbered.{Numbered, Scope}
use Rattle.lower_rules.specs.Expressions.{value}
use Rattle.lower_rules.specs.Initialisers.{stores, zero_first}

-- ---- the objects of a block: those of automatic storage duration that its own declarations declare (6.2.4, paragraph 6)

-- an object by the number of its local
pub record Local : Type 0 where
  pub number : ℕ
  pub type : CType

abbrev pub as_local : ObjectOf → Option Local
as_local o = option_map (λ x. record { number = x; type = o.type }) o.local

abbrev pub local_bound : Known → Option Binding → Option Local
local_bound k (Some (to.Object number)) = option_and_then as_local (object_at k number)
local_bound k b = None

-- what an item declares
abbrev pub local_of : Known → m.Item → Option Local
local_of k i = local_bound k (binding_of k (name_node i.declarator))

-- none twice, beside those that are alive
abbrev pub with_local : Known → (alive : Scope) → Option Local → (done : List (ℕ × ℕ)) → List (ℕ × ℕ)
with_local k alive None done = done
with_local k alive (Some x) done = if has x.number (names done ++ alive) then done else done ++ (x.number, bytes_of k x.type) ∷ []

abbrev pub items_objects : Known → (alive : Scope) → List m.Item → (done : List (ℕ × ℕ)) → List (ℕ × ℕ)
items_objects k alive [] done = done
items_objects k alive (i ∷ is) done = items_objects k alive is (with_local k alive (local_of k i) done)

abbrev pub block_objects : Known → (alive : Scope) → m.BlockItems → (done : List (ℕ × ℕ)) → List (ℕ × ℕ)
block_objects k alive m.no_items done = done
block_objects k alive (m.declared d is) done = block_objects k alive is (items_objects k alive d.items done)
block_objects k alive (m.statement s is) done = block_objects k alive is done

abbrev pub first_objects : Known → (alive : Scope) → m.First → List (ℕ × ℕ)
first_objects k alive (m.FirstDeclaration d) = items_objects k alive d.items []
first_objects k alive (m.FirstExpr a) = []

-- the locals that are alive in a block, and in a `for`
abbrev pub in_block : Known → Scope → m.BlockItems → Scope
in_block k scope is = names (block_objects k scope is []) ++ scope

abbrev pub in_for : Known → Scope → m.First → Scope
in_for k scope first = names (first_objects k scope first) ++ scope

-- ---- statements

abbrev pub nothing : Stmt
nothing = c.Block [] no_stmts

-- 6.8.6.2, 6.8.6.3: in a loop alone
abbrev pub only_in_loop : Bool → Stmt → Stmt
only_in_loop true s = s
only_in_loop false s = nothing

-- result: what the function gives
module _ (n : Numbered) (result : Option Scalar) where
  abbrev pub condition : Scope → m.Expr → c.Expr
  condition scope a = (tested (value n scope true a)).expr

  -- 6.8.5.3, paragraph 2: an absent one is 1
  abbrev pub condition_or_one : Scope → Span → m.MaybeExpr → c.Expr
  condition_or_one scope span m.no_expr = (constant span k.Int (pos 1)).expr
  condition_or_one scope span (m.some_expr a) = condition scope a

  -- 6.8.3, paragraph 2: evaluated as a void expression
  abbrev pub unused : Scope → m.Expr → c.Expr
  unused scope a = (value n scope false a).expr

  abbrev pub step : Scope → m.MaybeExpr → MaybeExpr
  step scope m.no_expr = NoExpr
  step scope (m.some_expr a) = TheExpr (unused scope a)

  -- 6.8.6.4, paragraph 3: as by assignment to what the function gives
  abbrev pub returned : Scope → Span → Option Scalar → m.MaybeExpr → MaybeExpr
  returned scope span None a = NoExpr
  returned scope span (Some s) m.no_expr = TheExpr (zero_at span s).expr
  returned scope span (Some s) (m.some_expr a) = TheExpr (as_scalar s (value n scope true a)).expr

  -- 6.7.9: an object with an initialiser; `more`: the statements behind
  abbrev pub initialised : Scope → Span → Option Local → m.MaybeInit → (more : Stmts) → Stmts
  initialised scope span (Some x) (m.some_init i) more =
      if has x.number scope then one_stmt (c.Init x.number (zero_first n.known x.type i) (stores n scope span x.number x.type 0 i no_exprs)) more else more
  initialised scope span x i more = more

  abbrev pub inits : Scope → List m.Item → (more : Stmts) → Stmts
  inits scope [] more = more
  inits scope (i ∷ is) more = initialised scope i.at.span (local_of n.known i) i.init (inits scope is more)

  abbrev pub first_then : Scope → m.First → (more : Stmts) → Stmts
  first_then scope (m.FirstDeclaration d) more = inits scope d.items more
  first_then scope (m.FirstExpr m.no_expr) more = more
  first_then scope (m.FirstExpr (m.some_expr a)) more = one_stmt (c.Do (unused scope a)) more

  abbrev mutual
    pub stmt : Scope → (in_loop : Bool) → m.Stmt → Stmt
    stmt scope in_loop (m.Block at is) = c.Block (block_objects n.known scope is []) (stmts (in_block n.known scope is) in_loop is)
    stmt scope in_loop (m.ExprStmt at m.no_expr) = nothing
    stmt scope in_loop (m.ExprStmt at (m.some_expr a)) = c.Do (unused scope a)
    stmt scope in_loop (m.If at a s) = c.If (condition scope a) (stmt scope in_loop s) NoElse
    stmt scope in_loop (m.IfElse at a s r) = c.If (condition scope a) (stmt scope in_loop s) (Otherwise (stmt scope in_loop r))
    stmt scope in_loop (m.While at a s) = c.Loop true (condition scope a) NoExpr (stmt scope true s)
    stmt scope in_loop (m.Do at s a) = c.Loop false (condition scope a) NoExpr (stmt scope true s)
    -- 6.8.5.3: a block of the objects of the first clause, which holds this clause and the loop
    stmt scope in_loop (m.For at first a e s) =
        c.Block (first_objects n.known scope first)
        (first_then (in_for n.known scope first) first
        (one_stmt (c.Loop true (condition_or_one (in_for n.known scope first) at.span a) (step (in_for n.known scope first) e) (stmt (in_for n.known scope first) true s)) no_stmts))
    stmt scope in_loop (m.Break at) = only_in_loop in_loop c.Break
    stmt scope in_loop (m.Continue at) = only_in_loop in_loop c.Continue
    stmt scope in_loop (m.Return at a) = c.Return (returned scope at.span result a)

    pub stmts : Scope → (in_loop : Bool) → m.BlockItems → Stmts
    stmts scope in_loop m.no_items = no_stmts
    stmts scope in_loop (m.declared d is) = inits scope d.items (stmts scope in_loop is)
    stmts scope in_loop (m.statement s is) = one_stmt (stmt scope in_loop s) (stmts scope in_loop is)
