-- The core expression of each expression: its value, and its place where it is an lvalue or a function
-- (ISO/IEC 9899:2018, 6.3.2.1, 6.5).
use Rattle.std.specs.Prelude.{Bool, true, false, List, [], ◌∷◌}
use Rattle.c_tree.specs.Tree as t
use Rattle.c_tree.specs.Marked as m
use Rattle.c_rules.specs.Walk.{at_of_expr}
use Rattle.signature_laws.specs.Told.{scalar_of}
use Rattle.lower_rules.specs.Shapes.{type_at, is_scalar, pointed_to}
use Rattle.lower_rules.specs.Lowered.{Lowered, null_at}
use Rattle.lower_rules.specs.Operators.{binary, choice, comma, positive, negative, complement, negation}
use Rattle.lower_rules.specs.Numbered.{Numbered, Scope, literal_address}
use Rattle.lower_rules.specs.Values.{type_of_expr, step_of, type_name_node, read, number_at, size_at, named_at, name_place, index_place, member_place, step_at, post_is_down, callee_at, call_of, address_of, cast_at, assigned_at, builtin_at}

module _ (n : Numbered) (scope : Scope) where
  abbrev mutual
    -- used: false for a call that is a whole expression statement, the first or third clause of `for`, left of a comma, or
    -- cast to void
    pub value : (used : Bool) → m.Expr → Lowered
    value used (m.Comma at a b) = comma at.span (value false a) (value true b)
    value used (m.Assign at a o b) = assigned_at n at a o b (scalar_of (type_of_expr n a)) (place a) (value true b) (place b)
    value used (m.Cond at x a b) = choice at.span (value true x) (value true a) (value true b)
    value used (m.Binary at a o b) = binary at.span o (value true a) (step_of n a) (value true b) (step_of n b)
    value used (m.Cast at t a) = cast_at n at (value (is_scalar (type_at n.known at.id)) a)
    value used (m.Prefix at t.Increment a) = step_at n at a false false (place a)
    value used (m.Prefix at t.Decrement a) = step_at n at a true false (place a)
    value used (m.Prefix at t.Address a) = address_of (place a)
    value used (m.Prefix at t.Deref a) = read n at (value true a)
    value used (m.Prefix at t.Positive a) = positive (value true a)
    value used (m.Prefix at t.Negative a) = negative at.span (value true a)
    value used (m.Prefix at t.Complement a) = complement at.span (value true a)
    value used (m.Prefix at t.Not a) = negation at.span (value true a)
    value used (m.SizeofExpr at a) = size_at n at (type_of_expr n a)
    value used (m.SizeofType at t) = size_at n at (type_at n.known (type_name_node t))
    value used (m.Index at a b) = read n at (index_place n at (value true a) (value true b))
    value used (m.Call at f es) = call_of n used at (pointed_to (type_of_expr n f)) (callee_at n at f) (value true f) (values es)
    value used (m.Dot at a name) = read n at (member_place n at (type_of_expr n a) name (place a))
    value used (m.Arrow at a name) = read n at (member_place n at (pointed_to (type_of_expr n a)) name (value true a))
    value used (m.Post at a s) = step_at n at a (post_is_down s) true (place a)
    value used (m.Name at name) = named_at n scope at
    value used (m.Number at x) = number_at n at
    value used (m.Char at x) = number_at n at
    value used (m.Text at ts) = read n at (literal_address n at.span at.id)
    value used (m.Paren at a) = value true a
    value used (m.Builtin at es) = builtin_at n at

    pub place : m.Expr → Lowered
    place (m.Name at name) = name_place n scope at
    place (m.Text at ts) = literal_address n at.span at.id
    place (m.Paren at a) = place a
    place (m.Prefix at t.Deref a) = value true a
    place (m.Index at a b) = index_place n at (value true a) (value true b)
    place (m.Dot at a name) = member_place n at (type_of_expr n a) name (place a)
    place (m.Arrow at a name) = member_place n at (pointed_to (type_of_expr n a)) name (value true a)
    place a = null_at (at_of_expr a).span

    pub values : m.Exprs → List Lowered
    values m.no_exprs = []
    values (m.expr a es) = value true a ∷ values es
