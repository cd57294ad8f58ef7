-- What is found in the expressions of a unit, in the order of the text. In type names, specifiers and declarators stand only
-- constant expressions, and a constant expression has no call outside the operands of `sizeof` (6.6, paragraph 3).
use Rattle.std.specs.Prelude.{List, [], ◌∷◌}
use Rattle.c_tree.specs.Marked as m
use Rattle.c_rules.specs.Walk.{at_of_expr}
use Rattle.alloc_infer.specs.declared.around.Around.{Around}
use Rattle.alloc_infer.specs.declared.around.Around.TheVariants as near

-- an expression that is converted as by assignment
abbrev pub converted : m.Expr → Around
converted e = near.Converted (at_of_expr e).id

-- `found`: what is found in an expression, before what is found behind it
module _ {A : Type 0} (found : Around → m.Expr → List A → List A) where
  abbrev pub in_maybe : m.MaybeExpr → List A → List A
  in_maybe m.no_expr more = more
  in_maybe (m.some_expr e) more = found near.Nothing e more

  -- ---- initialisers and declarations

  abbrev mutual
    pub in_init : m.Init → List A → List A
    in_init (m.Plain e) more = found (converted e) e more
    in_init (m.Braces at gs c) more = in_inits gs more

    pub in_inits : m.Inits → List A → List A
    in_inits m.no_inits more = more
    in_inits (m.init g gs) more = in_init g (in_inits gs more)

  abbrev pub in_maybe_init : m.MaybeInit → List A → List A
  in_maybe_init m.no_init more = more
  in_maybe_init (m.some_init g) more = in_init g more

  abbrev pub in_items : List m.Item → List A → List A
  in_items [] more = more
  in_items (item ∷ items) more = in_maybe_init item.init (in_items items more)

  abbrev pub in_declaration : m.Declaration → List A → List A
  in_declaration d more = in_items d.items more

  -- ---- statements

  abbrev pub in_first : m.First → List A → List A
  in_first (m.FirstDeclaration d) more = in_declaration d more
  in_first (m.FirstExpr e) more = in_maybe e more

  -- the operand of `return`
  abbrev pub in_result : m.MaybeExpr → List A → List A
  in_result m.no_expr more = more
  in_result (m.some_expr e) more = found (converted e) e more

  abbrev mutual
    pub in_stmt : m.Stmt → List A → List A
    in_stmt (m.Block at items) more = in_block items more
    in_stmt (m.ExprStmt at e) more = in_maybe e more
    in_stmt (m.If at c s) more = found near.Nothing c (in_stmt s more)
    in_stmt (m.IfElse at c s r) more = found near.Nothing c (in_stmt s (in_stmt r more))
    in_stmt (m.While at c s) more = found near.Nothing c (in_stmt s more)
    in_stmt (m.Do at s c) more = in_stmt s (found near.Nothing c more)
    in_stmt (m.For at f c e s) more = in_first f (in_maybe c (in_maybe e (in_stmt s more)))
    in_stmt (m.Break at) more = more
    in_stmt (m.Continue at) more = more
    in_stmt (m.Return at e) more = in_result e more

    pub in_block : m.BlockItems → List A → List A
    in_block m.no_items more = more
    in_block (m.declared d items) more = in_declaration d (in_block items more)
    in_block (m.statement s items) more = in_stmt s (in_block items more)

  -- ---- the unit

  abbrev pub in_external : m.External → List A → List A
  in_external (m.Declares d) more = in_declaration d more
  in_external (m.Definition at ss d body_at items) more = in_block items more
