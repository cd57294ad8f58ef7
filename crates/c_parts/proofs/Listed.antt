-- The program's lists of parts, seen as the reader's.
use Rattle.std.proofs.Common.{◌≡◌, ℕ, Bool, List, [], ◌∷◌, map, Option, Some, Box, refl, ◌∙◌, ap}
use Rattle.c_tree.specs.declared.operator.At.{At}
use Rattle.c_tree.specs.Marked as u
use Rattle.c_tree.specs.View as v
use Rattle.c_tree.specs.declared.expression.Expr.{Expr}
use Rattle.c_tree.specs.declared.expression.Expr as e
use Rattle.c_tree.specs.declared.expression.TypeName.{TypeName}
use Rattle.c_tree.specs.declared.expression.Declarator as dd
use Rattle.c_tree.proofs.Views.{view_call, view_cast, view_function_of, view_sizeof_type}
use Rattle.c_tree.specs.declared.expression.Spec.{Spec}
use Rattle.c_tree.specs.declared.expression.Field.{Field}
use Rattle.c_tree.specs.declared.expression.Enumerator.{Enumerator}
use Rattle.c_tree.specs.declared.expression.EnumeratorList.{EnumeratorList}
use Rattle.c_tree.specs.declared.expression.Declarator.{Declarator}
use Rattle.c_tree.specs.declared.expression.Declarator.TheBlock as b
use Rattle.c_tree.specs.declared.expression.Param.{Param}
use Rattle.c_tree.specs.declared.statement.Init.{Init}
use Rattle.c_tree.specs.declared.statement.BlockItem.{BlockItem}
use Rattle.c_tree.specs.declared.statement.BlockItem.TheBlock as x
use Rattle.c_reader.specs.MarkedParts as r
use Rattle.std.specs.Global.{Global}
use Rattle.c_tree.specs.declared.statement.Stmt.{Stmt}
use Rattle.c_tree.specs.declared.statement.External.TheVariants as ex
use Rattle.c_symbol.specs.Shown.{shown, shown_type, shown_spec, shown_specs, shown_declarator, shown_field, shown_enumerator, shown_param, shown_init, shown_stmt, shown_external, shown_block_item}

pub exprs_same : (xs : List Expr) → v.exprs_of xs ≡ r.exprs_of (map shown xs)
unfolding shown
exprs_same [] = refl
exprs_same (a ∷ xs) = ap (u.expr (v.view a)) (exprs_same xs)

spec_same : (s : Spec) (ss : u.Specs) → v.view_spec s ss ≡ r.with_spec (shown_spec s) ss
unfolding shown_spec
spec_same (b.Keyword k) ss = refl
spec_same (b.Typedef n) ss = refl
spec_same (b.Attribute a) ss = refl
spec_same (b.Record (b.struct-Record at is_union tag fields)) ss = refl
spec_same (b.Enum (b.struct-Enum at tag list)) ss = refl

specs_listed : (ss : List Spec) → v.specs_of ss ≡ r.specs_of (map shown_spec ss)
specs_listed [] = refl
specs_listed (s ∷ ss) = ap (v.view_spec s) (specs_listed ss) ∙ spec_same s (r.specs_of (map shown_spec ss))

pub specs_same : (ss : List Spec) → shown_specs ss ≡ r.specs_of (map shown_spec ss)
unfolding shown_specs
specs_same ss = specs_listed ss

pub declarators_same : (ds : List Declarator) → v.declarators_of ds ≡ r.declarators_of (map shown_declarator ds)
unfolding shown_declarator
declarators_same [] = refl
declarators_same (d ∷ ds) = ap (u.declarator (v.view_declarator d)) (declarators_same ds)

pub fields_same : (fs : List Field) → v.fields_of fs ≡ r.fields_of (map shown_field fs)
unfolding shown_field
fields_same [] = refl
fields_same (f ∷ fs) = ap (u.Field f.at (v.specs_of f.specs) (v.declarators_of f.declarators)) (fields_same fs)

pub enumerators_same : (es : List Enumerator) → v.enumerators_of es ≡ r.enumerators_of (map shown_enumerator es)
unfolding shown_enumerator
enumerators_same [] = refl
enumerators_same (e ∷ es) = ap (u.Enumerator e.at e.name (v.boxed_expr e.value)) (enumerators_same es)

pub params_same : (ps : List Param) → v.params_of ps ≡ r.params_of (map shown_param ps)
unfolding shown_param
params_same [] = refl
params_same (p ∷ ps) = ap (u.Param p.at (v.specs_of p.specs) (v.boxed_declarator p.declarator)) (params_same ps)

pub inits_same : (is : List Init) → v.inits_of is ≡ r.inits_of (map shown_init is)
unfolding shown_init
inits_same [] = refl
inits_same (i ∷ is) = ap (u.init (v.view_init i)) (inits_same is)

item_same : (i : BlockItem) (is : u.BlockItems) → v.view_block_item i is ≡ r.with_item (shown_block_item i) is
unfolding shown_block_item
item_same (x.Declaration d) is = refl
item_same (x.Stmt s) is = refl

pub items_same : (is : List BlockItem) → v.items_of is ≡ r.items_of (map shown_block_item is)
items_same [] = refl
items_same (i ∷ is) = ap (v.view_block_item i) (items_same is) ∙ item_same i (r.items_of (map shown_block_item is))

pub called : (at : At) (f : Box Expr Global) (args : List Expr) → shown (e.Call at f args) ≡ u.Call at (shown f.value) (r.exprs_of (map shown args))
unfolding shown
called at f args = view_call at f args ∙ ap (u.Call at (v.view f.value)) (exprs_same args)

pub made_cast : (at : At) (t : Box TypeName Global) (a : Box Expr Global) → shown (e.Cast at t a) ≡ u.Cast at (shown_type t.value) (shown a.value)
unfolding shown shown_type
made_cast at t a = view_cast at t a

pub made_sizeof_type : (at : At) (t : Box TypeName Global) → shown (e.SizeofType at t) ≡ u.SizeofType at (shown_type t.value)
unfolding shown shown_type
made_sizeof_type at t = view_sizeof_type at t

pub called_builtin : (e : Expr) (at : At) (args : List Expr) → v.view e ≡ u.Builtin at (v.exprs_of args) → shown e ≡ u.Builtin at (r.exprs_of (map shown args))
unfolding shown
called_builtin e at args h = h ∙ ap (u.Builtin at) (exprs_same args)

pub made_function : (at : At) (d : Box Declarator Global) (ps : List Param) → shown_declarator (dd.FunctionOf at d ps) ≡ u.FunctionOf at (shown_declarator d.value) (r.params_of (map shown_param ps))
unfolding shown_declarator
made_function at d ps = view_function_of at d ps ∙ ap (u.FunctionOf at (v.view_declarator d.value)) (params_same ps)

-- the first of them
abbrev head_spec : u.Specs → r.Spec
head_spec u.no_specs = r.typedef_name []
head_spec (u.Keyword w ss) = r.keyword w
head_spec (u.Typedef n ss) = r.typedef_name n
head_spec (u.attribute a ss) = r.attribute a
head_spec (u.Record at is_union tag fields ss) = r.records at is_union tag fields
head_spec (u.Enum at tag l ss) = r.enums at tag l

spec_headed : (s : Spec) → shown_spec s ≡ head_spec (v.view_spec s u.no_specs)
unfolding shown_spec
spec_headed (b.Keyword k) = refl
spec_headed (b.Typedef n) = refl
spec_headed (b.Attribute a) = refl
spec_headed (b.Record (b.struct-Record at is_union tag fields)) = refl
spec_headed (b.Enum (b.struct-Enum at tag list)) = refl

pub made_record_tag : (s : Spec) (at : At) (is_union : Bool) (tag : List ℕ) → ((ss : u.Specs) → v.view_spec s ss ≡ u.Record at is_union (Some tag) u.no_body ss)
    → shown_spec s ≡ r.records at is_union (Some tag) u.no_body
made_record_tag s at is_union tag h = spec_headed s ∙ ap head_spec (h u.no_specs)

pub made_record : (s : Spec) (at : At) (is_union : Bool) (tag : Option (List ℕ)) (fs : List Field)
    → ((ss : u.Specs) → v.view_spec s ss ≡ u.Record at is_union tag (u.body (v.fields_of fs)) ss)
    → shown_spec s ≡ r.records at is_union tag (u.body (r.fields_of (map shown_field fs)))
made_record s at is_union tag fs h = spec_headed s ∙ ap head_spec (h u.no_specs) ∙ ap (λ x. r.records at is_union tag (u.body x)) (fields_same fs)

pub made_enum_tag : (s : Spec) (at : At) (tag : List ℕ) → ((ss : u.Specs) → v.view_spec s ss ≡ u.Enum at (Some tag) u.no_list ss) → shown_spec s ≡ r.enums at (Some tag) u.no_list
made_enum_tag s at tag h = spec_headed s ∙ ap head_spec (h u.no_specs)

pub made_enum : (s : Spec) (at : At) (tag : Option (List ℕ)) (l : EnumeratorList) (es : List Enumerator) (comma : Bool)
    → ((ss : u.Specs) → v.view_spec s ss ≡ u.Enum at tag (v.view_enumerator_list l) ss) → v.view_enumerator_list l ≡ u.list (v.enumerators_of es) comma
    → shown_spec s ≡ r.enums at tag (u.list (r.enumerators_of (map shown_enumerator es)) comma)
made_enum s at tag l es comma h g = spec_headed s ∙ ap head_spec (h u.no_specs) ∙ ap (r.enums at tag) (g ∙ ap (λ x. u.list x comma) (enumerators_same es))

pub made_braces : (i : Init) (at : At) (is : List Init) (comma : Bool) → v.view_init i ≡ u.Braces at (v.inits_of is) comma
    → shown_init i ≡ u.Braces at (r.inits_of (map shown_init is)) comma
unfolding shown_init
made_braces i at is comma h = h ∙ ap (λ x. u.Braces at x comma) (inits_same is)

pub made_block : (s : Stmt) (at : At) (is : List BlockItem) → v.view_stmt s ≡ u.Block at (v.items_of is) → shown_stmt s ≡ u.Block at (r.items_of (map shown_block_item is))
unfolding shown_stmt
made_block s at is h = h ∙ ap (u.Block at) (items_same is)

pub defined : (at : At) (ss : List Spec) (d : Declarator) (body_at : At) (is : List BlockItem)
    → shown_external (ex.Definition (record { at = at; specs = ss; declarator = d; body = record { at = body_at; items = is } })) ≡ u.Definition at (shown_specs ss) (shown_declarator d) body_at (r.items_of (map shown_block_item is))
unfolding shown_external shown_specs shown_declarator
defined at ss d body_at is = ap (u.Definition at (v.specs_of ss) (v.view_declarator d) body_at) (items_same is)

pub made_field : (at : At) (ss : List Spec) (ds : List Declarator)
    → shown_field (record { at = at; specs = ss; declarators = ds }) ≡ record { at = at; specs = shown_specs ss; declarators = r.declarators_of (map shown_declarator ds) }
unfolding shown_field shown_specs
made_field at ss ds = ap (λ x. record { at = at; specs = v.specs_of ss; declarators = x }) (declarators_same ds)
