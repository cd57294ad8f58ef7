-- What the forms that hold lists are seen as.
use Rattle.std.proofs.Common.{◌≡◌, ℕ, Bool, List, Option, Some, None, refl, sym, ◌∙◌, ap, Box, Global}
use Rattle.c_tree.specs.Marked as m
use Rattle.c_tree.specs.View.{view, view_exprs, view_spec, view_specs, view_declarator, view_declarators, view_fields, view_body, view_record, view_enumerators, view_list, view_enum, view_params, view_maybe, view_maybe_declarator, view_type_name}
use Rattle.c_tree.specs.View.{exprs_of, specs_of, declarators_of, fields_of, body_of, enumerators_of, list_of, params_of, boxed_expr, boxed_declarator}
use Rattle.c_tree.specs.declared.operator.At.{At}
use Rattle.c_tree.specs.declared.expression.Expr.{Expr}
use Rattle.c_tree.specs.declared.expression.TypeName.{TypeName}
use Rattle.c_tree.specs.declared.expression.Field.{Field}
use Rattle.c_tree.specs.declared.expression.Enumerator.{Enumerator}
use Rattle.c_tree.specs.declared.expression.Param.{Param}
use Rattle.c_tree.specs.declared.expression.Spec.{Spec}
use Rattle.c_tree.specs.declared.expression.Declarator.{Declarator}
use Rattle.c_tree.specs.declared.expression.Declarator.TheBlock as b
use Rattle.c_tree.specs.View.{view_enumerator_list, view_init, view_inits, inits_of, view_stmt, view_items, view_block_item, items_of}
use Rattle.c_tree.specs.declared.expression.EnumeratorList.{EnumeratorList}
use Rattle.c_tree.specs.declared.statement.Init.{Init}
use Rattle.c_tree.specs.declared.statement.BlockItem.{BlockItem}
use Rattle.c_tree.specs.declared.statement.Init.TheBlock as i
use Rattle.c_tree.specs.declared.statement.Init as ii
use Rattle.c_tree.specs.declared.statement.BlockItem.TheBlock as x
use Rattle.c_tree.specs.declared.statement.Stmt as xs
use Rattle.c_tree.specs.declared.expression.Declarator.TheViews as w
use Rattle.c_tree.specs.declared.expression.Expr as e
use Rattle.c_tree.specs.declared.expression.Declarator as dd
use Rattle.c_tree.specs.declared.expression.Record.{Record}

exprs_row : (n : _) (row : b.Row_of-Expr n) → view_exprs row ≡ exprs_of (b.items-the_row-Expr n row)
exprs_row n b.end_of-Expr = refl
exprs_row n (b.more_of-Expr a xs) = ap (m.expr (view a)) (exprs_row _ xs)

specs_row : (n : _) (row : b.Row_of-Spec n) → view_specs row ≡ specs_of (b.items-the_row-Spec n row)
specs_row n b.end_of-Spec = refl
specs_row n (b.more_of-Spec s ss) = ap (view_spec s) (specs_row _ ss)

declarators_row : (n : _) (row : b.Row_of-Declarator n) → view_declarators row ≡ declarators_of (b.items-the_row-Declarator n row)
declarators_row n b.end_of-Declarator = refl
declarators_row n (b.more_of-Declarator d ds) = ap (m.declarator (view_declarator d)) (declarators_row _ ds)

specs_shown : (s : _) (row : b.Row_of-Spec _) → view_specs row ≡ specs_of (b.shown-the_row-Spec-0 s row)
specs_shown s row = specs_row _ row ∙ sym (ap specs_of (b.items_shown-the_row-Spec-0 s row))

declarators_shown : (s : _) (row : b.Row_of-Declarator _) → view_declarators row ≡ declarators_of (b.shown-the_row-Declarator-4 s row)
declarators_shown s row = declarators_row _ row ∙ sym (ap declarators_of (b.items_shown-the_row-Declarator-4 s row))

expr_held : (v : b.Held-Declarator-ArrayOf-2) → view_maybe v ≡ boxed_expr (b.view-Declarator-ArrayOf-2 v)
expr_held b.Declarator-ArrayOf-2-None' = refl
expr_held (b.Declarator-ArrayOf-2-Some' p a) = refl

declarator_held : (d : b.Held-Param-declarator) → view_maybe_declarator d ≡ boxed_declarator (b.view-Param-declarator d)
declarator_held b.Param-declarator-None' = refl
declarator_held (b.Param-declarator-Some' p d) = refl

fields_row : (n : _) (row : b.Row_of-Field n) → view_fields row ≡ fields_of (b.items-the_row-Field n row)
fields_row n b.end_of-Field = refl
fields_row n (b.more_of-Field at s1 ss s2 ds fs) =
    ap (λ x. m.Field at x (view_declarators ds) (view_fields fs)) (specs_shown s1 ss)
    ∙ ap (λ x. m.Field at (specs_of (b.shown-the_row-Spec-0 s1 ss)) x (view_fields fs)) (declarators_shown s2 ds)
    ∙ ap (m.Field at (specs_of (b.shown-the_row-Spec-0 s1 ss)) (declarators_of (b.shown-the_row-Declarator-4 s2 ds))) (fields_row _ fs)

enumerators_row : (n : _) (row : b.Row_of-Enumerator n) → view_enumerators row ≡ enumerators_of (b.items-the_row-Enumerator n row)
enumerators_row n b.end_of-Enumerator = refl
enumerators_row n (b.more_of-Enumerator at name v es) =
    ap (λ x. m.Enumerator at name x (view_enumerators es)) (expr_held v)
    ∙ ap (m.Enumerator at name (boxed_expr (b.view-Declarator-ArrayOf-2 v))) (enumerators_row _ es)

params_row : (n : _) (row : b.Row_of-Param n) → view_params row ≡ params_of (b.items-the_row-Param n row)
params_row n b.end_of-Param = refl
params_row n (b.more_of-Param at shape ss d ps) =
    ap (λ x. m.Param at x (view_maybe_declarator d) (view_params ps)) (specs_shown shape ss)
    ∙ ap (λ x. m.Param at (specs_of (b.shown-the_row-Spec-0 shape ss)) x (view_params ps)) (declarator_held d)
    ∙ ap (m.Param at (specs_of (b.shown-the_row-Spec-0 shape ss)) (boxed_declarator (b.view-Param-declarator d))) (params_row _ ps)

-- ---- lists and options as a constructor takes them

pub exprs_hidden : (xs : List Expr) → view_exprs (b.hidden-the_row-Expr-2 xs) ≡ exprs_of xs
exprs_hidden xs = exprs_row _ (b.hidden-the_row-Expr-2 xs) ∙ ap exprs_of (b.items_hidden-the_row-Expr-2 xs)

pub specs_hidden : (ss : List Spec) → view_specs (b.hidden-the_row-Spec-0 ss) ≡ specs_of ss
specs_hidden ss = specs_row _ (b.hidden-the_row-Spec-0 ss) ∙ ap specs_of (b.items_hidden-the_row-Spec-0 ss)

pub params_hidden : (ps : List Param) → view_params (b.hidden-the_row-Param-1 ps) ≡ params_of ps
params_hidden ps = params_row _ (b.hidden-the_row-Param-1 ps) ∙ ap params_of (b.items_hidden-the_row-Param-1 ps)

fields_hidden : (fs : List Field) → view_fields (b.hidden-the_row-Field-5 fs) ≡ fields_of fs
fields_hidden fs = fields_row _ (b.hidden-the_row-Field-5 fs) ∙ ap fields_of (b.items_hidden-the_row-Field-5 fs)

enumerators_hidden : (es : List Enumerator) → view_enumerators (b.hidden-the_row-Enumerator-3 es) ≡ enumerators_of es
enumerators_hidden es = enumerators_row _ (b.hidden-the_row-Enumerator-3 es) ∙ ap enumerators_of (b.items_hidden-the_row-Enumerator-3 es)

-- ---- the forms

pub view_builtin : (at : At) (xs : List Expr) → view (e.Builtin at xs) ≡ m.Builtin at (exprs_of xs)
view_builtin at xs = ap (m.Builtin at) (exprs_hidden xs)

pub view_call : (at : At) (f : Box Expr Global) (xs : List Expr) → view (e.Call at f xs) ≡ m.Call at (view f.value) (exprs_of xs)
view_call at f xs = ap (m.Call at (view f.value)) (exprs_hidden xs)

pub declarator_back : (d : Option (Box Declarator Global)) → view_maybe_declarator (b.back-Param-declarator d) ≡ boxed_declarator d
declarator_back None = refl
declarator_back (Some d) = refl

abbrev seen_type : TypeName → m.TypeName
seen_type t = m.type_name t.at (view_specs (b.hidden-the_row-Spec-0 t.specs)) (view_maybe_declarator (b.back-Param-declarator t.declarator))

seen_as : (t : TypeName) → seen_type t ≡ view_type_name t
seen_as t =
    ap (λ x. m.type_name t.at x (view_maybe_declarator (b.back-Param-declarator t.declarator))) (specs_hidden t.specs)
    ∙ ap (m.type_name t.at (specs_of t.specs)) (declarator_back t.declarator)

pub view_cast : (at : At) (t : Box TypeName Global) (a : Box Expr Global) → view (e.Cast at t a) ≡ m.Cast at (view_type_name t.value) (view a.value)
view_cast at t a = ap (λ x. m.Cast at x (view a.value)) (seen_as t.value)

pub view_sizeof_type : (at : At) (t : Box TypeName Global) → view (e.SizeofType at t) ≡ m.SizeofType at (view_type_name t.value)
view_sizeof_type at t = ap (m.SizeofType at) (seen_as t.value)

pub view_function_of : (at : At) (d : Box Declarator Global) (ps : List Param) → view_declarator (dd.FunctionOf at d ps) ≡ m.FunctionOf at (view_declarator d.value) (params_of ps)
view_function_of at d ps = ap (m.FunctionOf at (view_declarator d.value)) (params_hidden ps)

body_back : (fs : Option (List Field)) → view_body (b.back-Record-fields fs) ≡ body_of fs
body_back None = refl
body_back (Some fs) = ap m.body (fields_hidden fs)

pub view_record_spec : (at : At) (is_union : Bool) (tag : Option (List ℕ)) (fs : Option (List Field)) (ss : m.Specs)
    → view_record (w.roll-Record (record { at = at; is_union = is_union; tag = tag; fields = fs })) ss ≡ m.Record at is_union tag (body_of fs) ss
unfolding w.roll-Record denote.Hole.Carrier.roll
view_record_spec at is_union tag fs ss = ap (λ x. m.Record at is_union tag x ss) (body_back fs)

list_back : (l : Option EnumeratorList) → view_list (b.back-Enum-list l) ≡ list_of l
list_back None = refl
list_back (Some l) = refl

pub view_enumeration : (at : At) (tag : Option (List ℕ)) (l : Option EnumeratorList) (ss : m.Specs)
    → view_enum (w.roll-Enum (record { at = at; tag = tag; list = l })) ss ≡ m.Enum at tag (list_of l) ss
unfolding w.roll-Enum denote.Hole.Carrier.roll
view_enumeration at tag l ss = ap (λ x. m.Enum at tag x ss) (list_back l)

pub view_enumerators_list : (es : List Enumerator) (comma : Bool) → view_enumerator_list (w.roll-EnumeratorList (record { enumerators = es; has_comma = comma })) ≡ m.list (enumerators_of es) comma
unfolding w.roll-EnumeratorList denote.Hole.Carrier.roll
view_enumerators_list es comma = ap (λ x. m.list x comma) (enumerators_hidden es)

inits_row : (n : _) (row : i.Row_of-Init n) → view_inits row ≡ inits_of (i.items-the_row-Init n row)
inits_row n i.end_of-Init = refl
inits_row n (i.more_of-Init a is) = ap (m.init (view_init a)) (inits_row _ is)

pub inits_hidden : (is : List Init) → view_inits (i.hidden-the_row-Init-0 is) ≡ inits_of is
inits_hidden is = inits_row _ (i.hidden-the_row-Init-0 is) ∙ ap inits_of (i.items_hidden-the_row-Init-0 is)

pub view_braces : (at : At) (is : List Init) (comma : Bool) → view_init (ii.Braces at is comma) ≡ m.Braces at (inits_of is) comma
view_braces at is comma = ap (λ x. m.Braces at x comma) (inits_hidden is)

items_row : (n : _) (row : x.Row_of-BlockItem n) → view_items row ≡ items_of (x.items-the_row-BlockItem n row)
items_row n x.end_of-BlockItem = refl
items_row n (x.more_of-BlockItem a is) = ap (view_block_item a) (items_row _ is)

pub items_hidden : (is : List BlockItem) → view_items (x.hidden-the_row-BlockItem-0 is) ≡ items_of is
items_hidden is = items_row _ (x.hidden-the_row-BlockItem-0 is) ∙ ap items_of (x.items_hidden-the_row-BlockItem-0 is)

pub view_block : (at : At) (is : List BlockItem) → view_stmt (xs.Block (record { at = at; items = is })) ≡ m.Block at (items_of is)
view_block at is = ap (m.Block at) (items_hidden is)

-- ---- what a form is seen as by its parts

pub expr_back : (a : Option (Box Expr Global)) → view_maybe (b.back-Declarator-ArrayOf-2 a) ≡ boxed_expr a
expr_back None = refl
expr_back (Some a) = refl

pub record_seen : (r : Record) (ss : m.Specs) → view_record r ss ≡ m.Record (w.out-Record r).at (w.out-Record r).is_union (w.out-Record r).tag (body_of (w.out-Record r).fields) ss
record_seen r ss =
    ap (λ x. view_record x ss) (sym (w.roll-out-Record r))
    ∙ view_record_spec (w.out-Record r).at (w.out-Record r).is_union (w.out-Record r).tag (w.out-Record r).fields ss

pub list_seen : (l : EnumeratorList) → view_enumerator_list l ≡ m.list (enumerators_of (w.out-EnumeratorList l).enumerators) (w.out-EnumeratorList l).has_comma
list_seen l =
    ap view_enumerator_list (sym (w.roll-out-EnumeratorList l))
    ∙ view_enumerators_list (w.out-EnumeratorList l).enumerators (w.out-EnumeratorList l).has_comma
