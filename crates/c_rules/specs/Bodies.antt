-- Rule 36: whether a struct, union or enumeration with a body in braces stands in an expression.
use Rattle.std.specs.Prelude.{Bool, true, false, ◌||◌}
use Rattle.c_tree.specs.Marked as t

abbrev mutual
  pub has_body : t.Expr → Bool
  has_body (t.Comma at a b) = has_body a || has_body b
  has_body (t.Assign at a o b) = has_body a || has_body b
  has_body (t.Cond at c a b) = has_body c || has_body a || has_body b
  has_body (t.Binary at a o b) = has_body a || has_body b
  has_body (t.Cast at n a) = name_has_body n || has_body a
  has_body (t.Prefix at o a) = has_body a
  has_body (t.SizeofExpr at a) = has_body a
  has_body (t.SizeofType at n) = name_has_body n
  has_body (t.Index at a b) = has_body a || has_body b
  has_body (t.Call at f xs) = has_body f || any_has_body xs
  has_body (t.Dot at a n) = has_body a
  has_body (t.Arrow at a n) = has_body a
  has_body (t.Post at a s) = has_body a
  has_body (t.Name at n) = false
  has_body (t.Number at n) = false
  has_body (t.Char at c) = false
  has_body (t.Text at ts) = false
  has_body (t.Paren at a) = has_body a
  has_body (t.Builtin at xs) = any_has_body xs

  pub any_has_body : t.Exprs → Bool
  any_has_body t.no_exprs = false
  any_has_body (t.expr a xs) = has_body a || any_has_body xs

  pub name_has_body : t.TypeName → Bool
  name_has_body (t.type_name at ss d) = specs_have_body ss || maybe_has_body d

  pub specs_have_body : t.Specs → Bool
  specs_have_body t.no_specs = false
  specs_have_body (t.Keyword k ss) = specs_have_body ss
  specs_have_body (t.Typedef n ss) = specs_have_body ss
  specs_have_body (t.attribute a ss) = specs_have_body ss
  specs_have_body (t.Record at is_union tag t.no_body ss) = specs_have_body ss
  specs_have_body (t.Record at is_union tag (t.body fs) ss) = true
  specs_have_body (t.Enum at tag t.no_list ss) = specs_have_body ss
  specs_have_body (t.Enum at tag (t.list es c) ss) = true

  pub maybe_has_body : t.MaybeDeclarator → Bool
  maybe_has_body t.no_declarator = false
  maybe_has_body (t.some_declarator d) = declarator_has_body d

  pub declarator_has_body : t.Declarator → Bool
  declarator_has_body (t.PointerTo at qs d) = declarator_has_body d
  declarator_has_body (t.Declared at n) = false
  declarator_has_body (t.Group at d) = declarator_has_body d
  declarator_has_body (t.ArrayOf at d t.no_expr) = declarator_has_body d
  declarator_has_body (t.ArrayOf at d (t.some_expr a)) = declarator_has_body d || has_body a
  declarator_has_body (t.FunctionOf at d ps) = declarator_has_body d || params_have_body ps

  pub params_have_body : t.Params → Bool
  params_have_body t.no_params = false
  params_have_body (t.Param at ss d ps) = specs_have_body ss || maybe_has_body d || params_have_body ps
