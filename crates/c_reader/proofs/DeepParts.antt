-- No step of declarations, declarators, specs and attributes lessens the least depth.
use Rattle.std.proofs.Common.{◌≡◌, ℕ, suc, ◌≤◌, max, Bool, true, false, if◌then◌else◌, List, [], ◌∷◌, ◌++◌, Option, Some, None, refl, le_trans, le_refl, arith}
use Rattle.c_tree.specs.Tok.{Word}
use Rattle.c_tree.specs.Tree as u
use Rattle.c_tree.specs.Tree.{PrefixOp, Argument, Entry, MaybeExpr, Specs, MaybeDeclarator, Declarator, Init, MaybeInit, Item, Declaration}
use Rattle.c_tree.specs.Wf.{Env, is_type, is_qualifier, declared_name, with_name}
use Rattle.c_tree.specs.Depth.{greatest, entry_depth, attribute_depth, maybe_depth, specs_depth, fields_depth, declarators_depth, enumerators_depth, maybe_declarator_depth, declarator_depth, params_depth, init_depth, inits_depth, maybe_init_depth, item_depth, declaration_depth, block_depth, external_depth, unit_depth}
use Rattle.c_reader.specs.Symbol as t
use Rattle.c_reader.specs.Symbol.{Tagged, Symbol, keyword_word}
use Rattle.c_reader.specs.Parts as p
use Rattle.c_reader.specs.Parts.{Spec, with_spec, specs_of, fields_of, declarators_of, enumerators_of, params_of, inits_of, items_of, no_specs, add_type}
use Rattle.c_reader.specs.Inside as i
use Rattle.c_reader.specs.Inside.{InDeclaration, InInit, TypePlace, InExpr, InDeclarator, InSpecs, InFields, InEnum, InParams, InAttribute, AttributeMode, SpecsMode, DeclaratorMode, InItems, ItemRead, State, in_block, of_definition, of_external, of_block, of_for, of_item, in_braces, cast_type, sizeof_type, in_init, in_value, in_array, in_pointer, in_group, in_item, in_field, in_param, in_type, of_declaration, of_field, of_param, of_type, in_fields, in_enum, in_params, of_specs, of_read, attribute_word, attribute_opened, entries_opened, want_entry, after_entry_name, arguments_opened, want_argument, after_argument, after_entry, attribute_closing, in_specs, after_tagged, after_tag, want_field, want_enumerator, after_enumerator, want_param, want_declarator, after_star, declarator_opened, array_opened, params_opened, want_expr, after_expr, want_stmt, specs, declarator, want_init, after_init, expr, stmt}
use Rattle.c_reader.specs.Begin.{is_empty, begins_specs, open_spec, operator_prefix, want_operand, want}
use Rattle.c_reader.specs.Declarations.{is_equals, declaration_done, items_done, add_item, item_end, item_next, is_function, open_body, close_item, braces_next, init_next, close_braces, init_begin}
use Rattle.c_reader.specs.Declarators.{may_be_named, may_be_nameless, is_star, add_field, field_next, add_param, param_next, type_next, close_group, end_declarator, no_items_next, nameless, declarator_begin, star_next, open_params, opened_next, array_next, params_next, declarator_next}
use Rattle.c_reader.specs.Specs.{behind, specs_next, tagged_opened, tagged_next, tag_spec, tag_next, close_fields, field_begin, add_enumerator, close_enum, enumerator_begin, enumerator_end, enumerator_next, attribute_done, add_entry, want_lparen, entry_begin, entries_begin, entry_end, entry_next, argument_begin, arguments_begin, text_more, argument_next, close_attribute, attribute_next}
use Rattle.c_reader.specs.Machine.{specs_mode_next, declarator_mode_next}
use Rattle.c_reader.specs.Above.{above_declaration, item_above, first_above, items_above, above_items, above_read, above_init, above_expr, above_declarator, above_specs, above_fields, above_enum, above_params, above_attribute, arguments_depth, attribute_so_far, specs_so_far, items_want, want_above, declarator_so_far, so_far}
use Rattle.c_reader.specs.Begin as begin
use Rattle.c_reader.proofs.Go.{at}
use Rattle.c_reader.proofs.Above.{mono_body, mono_declaration, mono_item, mono_read, mono_init, mono_expr, mono_declarator, mono_specs, mono_fields, mono_enum, mono_params, mono_attribute, greatest_last, specs_depth_last, fields_depth_last, declarators_depth_last, enumerators_depth_last, params_depth_last, inits_depth_last, block_depth_last}

-- the step, where it is made, leaves at least that depth
abbrev pub Least : ℕ → Option State → Type 0
Least d None = Unit {0}
Least d (Some s) = d ≤ so_far s.mode

pub lower : (d e : ℕ) (o : Option State) → d ≤ e → Least e o → Least d o
lower d e None h l = tt
lower d e (Some s) h l = le_trans h l

pub either : (d : ℕ) (b : Bool) (x y : Option State) → Least d x → Least d y → Least d (if b then x else y)
either d true x y f h = f
either d false x y f h = h

-- ---- beginnings

pub operand_least : (env : Env) (k : InExpr) (x : Option PrefixOp) → Least (above_expr k 1) (want_operand env k x)
operand_least env k None = tt
operand_least env k (Some o) = le_refl _

pub want_least : (env : Env) (k : InExpr) (y : Symbol) → Least (above_expr k 1) (want env k y)
want_least env k (t.name n) = either (above_expr k 1) (is_type env n) None (Some (at env (expr (after_expr k (u.Name n))))) tt (le_refl _)
want_least env k (t.number n) = le_refl _
want_least env k (t.char n) = le_refl _
want_least env k (t.text n) = le_refl _
want_least env k (t.operator o) = operand_least env k (operator_prefix o)
want_least env k t.lparen = le_refl _
want_least env k t.sizeof = le_refl _
want_least env k t.builtin = le_refl _
want_least env k _ = tt

-- an expression inside what k holds
pub inner_least : (d : ℕ) (env : Env) (k : InExpr) (y : Symbol) → d ≤ above_expr k 1 → Least d (want env k y)
inner_least d env k y h = lower d (above_expr k 1) (want env k y) h (want_least env k y)

pub specs_grown : (s : p.SpecsRead) (x : Spec) (k : InSpecs) → above_specs k (specs_depth (specs_of s.specs)) ≤ above_specs k (specs_depth (specs_of (s.specs ++ x ∷ [])))
specs_grown s x k = mono_specs k (specs_depth (specs_of s.specs)) (specs_depth (specs_of (s.specs ++ x ∷ []))) (let e = specs_depth_last s.specs x in omega arith)

pub open_least : (env : Env) (s : p.SpecsRead) (k : InSpecs) (y : Symbol) → Least (above_specs k (specs_depth (specs_of s.specs))) (open_spec env s k y)
open_least env s k (t.name n) = specs_grown s (p.typedef_name n) k
open_least env s k (t.keyword w) = specs_grown s (p.keyword (keyword_word w)) k
open_least env s k (t.tagged x) = mono_specs k (specs_depth (specs_of s.specs)) (max (specs_depth (specs_of s.specs)) 1) (omega arith)
open_least env s k t.attribute = mono_specs k (specs_depth (specs_of s.specs)) (max (specs_depth (specs_of s.specs)) 1) (omega arith)
open_least env s k _ = tt

pub new_specs_least : (d : ℕ) (env : Env) (k : InSpecs) (y : Symbol) → d ≤ above_specs k 0 → Least d (open_spec env no_specs k y)
new_specs_least d env k y h = lower d (above_specs k 0) (open_spec env no_specs k y) h (open_least env no_specs k y)

pub first_spec_least : (d : ℕ) (env : Env) (k : InSpecs) (y : Symbol) → d ≤ above_specs k 0 → Least d (begin.first_spec env k y)
first_spec_least d env k y h = either d (begins_specs env false y) (open_spec env no_specs k y) None (new_specs_least d env k y h) tt

-- ---- declarations

pub declaration_least : (q : InDeclaration) (d : Declaration) → above_declaration q (declaration_depth d) ≤ so_far (declaration_done q d)
declaration_least (of_external done) d = let e = greatest_last external_depth done (u.Declares d) in omega arith
declaration_least (of_block is b) d =
    mono_body b (suc (max (block_depth (items_of is)) (declaration_depth d))) (suc (max (block_depth (items_of (is ++ p.declared d ∷ []))) 0)) (let e = block_depth_last is (p.declared d) in omega arith)
declaration_least (of_for k) d = le_refl _

pub first_item : (ss : Specs) (q : InDeclaration) (d : ℕ) → first_above ss q d ≤ item_above [] ss q d
first_item ss (of_external done) d = mono_declaration (of_external done) (suc (max (specs_depth ss) d)) (suc (max (specs_depth ss) (max 0 (suc d)))) (omega arith)
first_item ss (of_block is b) d = le_refl _
first_item ss (of_for k) d = le_refl _

pub items_item : (is : List Item) (ss : Specs) (q : InDeclaration) (d : ℕ) → items_above is ss q d ≤ item_above is ss q d
items_item [] ss q d = first_item ss q d
items_item (x ∷ is) ss q d = le_refl _

pub item_next_one : (is : List Item) (ss : Specs) (q : InDeclaration) (x : Item) (d : ℕ) → item_depth x ≡ suc d → item_above is ss q d ≤ items_want (is ++ x ∷ []) ss q
item_next_one [] ss q x d e = mono_declaration q (suc (max (specs_depth ss) (max 0 (suc d)))) (suc (max (specs_depth ss) (max (max (item_depth x) 0) 1))) (omega arith)
item_next_one (z ∷ is) ss q x d e =
    mono_declaration q (suc (max (specs_depth ss) (max (greatest item_depth (z ∷ is)) (suc d)))) (suc (max (specs_depth ss) (max (greatest item_depth (z ∷ is ++ x ∷ [])) 1)))
    (let h = greatest_last item_depth is x in omega arith)

pub read_item : ItemRead → MaybeInit → Item
read_item r m = record { declarator = r.declarator; attributes = r.attributes; init = m }

pub item_end_least : (env : Env) (r : ItemRead) (m : MaybeInit) (y : Symbol) → Least (above_read r (maybe_init_depth m)) (item_end env (add_item r m) y)
unfolding read_item
item_end_least env r m t.comma =
    item_next_one r.before.items r.before.specs r.before.place (read_item r m) (max (declarator_depth r.declarator) (max (greatest attribute_depth r.attributes) (maybe_init_depth m))) refl
item_end_least env r m t.semi =
    le_trans
    (mono_declaration r.before.place
    (suc (max (specs_depth r.before.specs) (max (greatest item_depth r.before.items) (suc (max (declarator_depth r.declarator) (max (greatest attribute_depth r.attributes) (maybe_init_depth m)))))))
    (declaration_depth (record { specs = r.before.specs; items = r.before.items ++ read_item r m ∷ [] }))
    (let h = greatest_last item_depth r.before.items (read_item r m) in omega arith))
    (declaration_least r.before.place (record { specs = r.before.specs; items = r.before.items ++ read_item r m ∷ [] }))
item_end_least env r m _ = tt

pub item_next_least : (env : Env) (r : ItemRead) (y : Symbol) → Least (above_read r 0) (item_next env r y)
item_next_least env r t.attribute = mono_read r 0 1 (omega arith)
item_next_least env r (t.operator o) = either (above_read r 0) (is_equals o) (Some (at env (want_init (of_item r)))) None (le_refl _) tt
item_next_least env r t.comma = item_end_least env r u.no_init t.comma
item_next_least env r t.semi = item_end_least env r u.no_init t.semi
item_next_least env r (t.name n) = tt
item_next_least env r _ = tt

pub read_least : (q : InItems) (d : Declarator) → above_items q (declarator_depth d) ≤ above_read (record { before = q; declarator = d; attributes = [] }) 0
read_least q d = le_trans (items_item q.items q.specs q.place (declarator_depth d)) (mono_item q.items q.specs q.place (declarator_depth d) (max (declarator_depth d) (max 0 0)) (omega arith))

pub body_least : (q : InDeclaration) (env : Env) (ss : Specs) (d : Declarator) → Least (first_above ss q (declarator_depth d)) (open_body env q ss d)
body_least (of_external done) env ss d =
    either (max (unit_depth done) (suc (max (specs_depth ss) (declarator_depth d)))) (is_function d) (Some (at env (stmt (want_stmt (in_block [] (of_definition done ss d)))))) None (omega arith) tt
body_least (of_block is b) env ss d = tt
body_least (of_for k) env ss d = tt

pub first_body_least : (is : List Item) (ss : Specs) (q : InDeclaration) (env : Env) (d : Declarator) → Least (items_above is ss q (declarator_depth d)) (if is_empty is then open_body env q ss d else None)
first_body_least [] ss q env d = body_least q env ss d
first_body_least (x ∷ is) ss q env d = tt

abbrev pub item_env : InItems → Declarator → Env → Env
item_env q d env = with_name q.typedef (declared_name d) env

pub behind_least : (env : Env) (q : InItems) (d : Declarator) (y : Symbol) → Least (above_items q (declarator_depth d)) (item_next (item_env q d env) (record { before = q; declarator = d; attributes = [] }) y)
behind_least env q d y =
    lower (above_items q (declarator_depth d)) (above_read (record { before = q; declarator = d; attributes = [] }) 0) (item_next (item_env q d env) (record { before = q; declarator = d; attributes = [] }) y) (read_least q d)
    (item_next_least (item_env q d env) (record { before = q; declarator = d; attributes = [] }) y)

pub close_item_least : (env : Env) (q : InItems) (d : Declarator) (y : Symbol) → Least (above_items q (declarator_depth d)) (close_item env q d y)
close_item_least env q d t.lbrace = first_body_least q.items q.specs q.place (item_env q d env) d
close_item_least env q d (t.name n) = behind_least env q d (t.name n)
close_item_least env q d y = behind_least env q d y

pub braces_least : (env : Env) (is : List Init) (x : Init) (k : InInit) (y : Symbol) → Least (above_init k (suc (max (inits_depth (inits_of is)) (init_depth x)))) (braces_next env (is ++ x ∷ []) k y)
braces_least env is x k t.comma = mono_init k (suc (max (inits_depth (inits_of is)) (init_depth x))) (suc (max (inits_depth (inits_of (is ++ x ∷ []))) 0)) (let e = inits_depth_last is x in omega arith)
braces_least env is x k t.rbrace = mono_init k (suc (max (inits_depth (inits_of is)) (init_depth x))) (suc (inits_depth (inits_of (is ++ x ∷ [])))) (let e = inits_depth_last is x in omega arith)
braces_least env is x k _ = tt

pub init_next_least : (k : InInit) (env : Env) (x : Init) (y : Symbol) → Least (above_init k (init_depth x)) (init_next env k x y)
init_next_least (of_item r) env x y = item_end_least env r (u.some_init x) y
init_next_least (in_braces is k) env x y = braces_least env is x k y

pub close_braces_least : (k : InInit) (env : Env) → Least (above_init k 0) (close_braces env k)
close_braces_least (of_item r) env = tt
close_braces_least (in_braces is k) env =
    either (above_init k (suc (max (inits_depth (inits_of is)) 0))) (is_empty is) None (Some (at env (after_init k (u.Braces (inits_of is) true)))) tt
    (mono_init k (suc (max (inits_depth (inits_of is)) 0)) (suc (inits_depth (inits_of is))) (omega arith))

pub init_begin_least : (env : Env) (k : InInit) (y : Symbol) → Least (above_init k 0) (init_begin env k y)
init_begin_least env k t.lbrace = mono_init k 0 (suc (max 0 0)) (omega arith)
init_begin_least env k t.rbrace = close_braces_least k env
init_begin_least env k (t.name n) = inner_least (above_init k 0) env (in_init k) (t.name n) (mono_init k 0 1 (omega arith))
init_begin_least env k y = inner_least (above_init k 0) env (in_init k) y (mono_init k 0 1 (omega arith))

-- ---- declarators

pub group_least : (env : Env) (k : InDeclarator) (d : Declarator) (y : Symbol) → Least (above_declarator k (suc (declarator_depth d))) (close_group env k d y)
group_least env k d t.rparen = le_refl _
group_least env k d _ = tt

pub field_added : (x : InFields) (ss : Specs) (ds : List Declarator) (d : Declarator)
    → above_fields x (suc (max (specs_depth ss) (max (declarators_depth (declarators_of ds)) (declarator_depth d)))) ≤ above_fields (add_field x ss (ds ++ d ∷ [])) 0
field_added (in_fields b tag fs s k) ss ds d =
    mono_specs k (max (specs_depth (specs_of s.specs)) (suc (max (fields_depth (fields_of fs)) (suc (max (specs_depth ss) (max (declarators_depth (declarators_of ds)) (declarator_depth d)))))))
    (max (specs_depth (specs_of s.specs)) (suc (max (fields_depth (fields_of (fs ++ record { specs = ss; declarators = declarators_of (ds ++ d ∷ []) } ∷ []))) 0)))
    (let e = fields_depth_last fs (record { specs = ss; declarators = declarators_of (ds ++ d ∷ []) }) in let h = declarators_depth_last ds d in omega arith)

pub field_least : (env : Env) (x : InFields) (ss : Specs) (ds : List Declarator) (d : Declarator) (y : Symbol)
    → Least (above_fields x (suc (max (specs_depth ss) (max (declarators_depth (declarators_of ds)) (declarator_depth d))))) (field_next env x ss (ds ++ d ∷ []) y)
field_least env x ss ds d t.comma =
    mono_fields x (suc (max (specs_depth ss) (max (declarators_depth (declarators_of ds)) (declarator_depth d)))) (suc (max (specs_depth ss) (max (declarators_depth (declarators_of (ds ++ d ∷ []))) 0)))
    (let h = declarators_depth_last ds d in omega arith)
field_least env x ss ds d t.semi = field_added x ss ds d
field_least env x ss ds d _ = tt

pub param_least : (x : InParams) (env : Env) (ss : Specs) (m : MaybeDeclarator) (y : Symbol) → Least (above_params x (suc (max (specs_depth ss) (maybe_declarator_depth m)))) (param_next env (add_param x ss m) y)
param_least (in_params d ps k) env ss m t.comma =
    mono_declarator k (suc (max (declarator_depth d) (max (params_depth (params_of ps)) (suc (max (specs_depth ss) (maybe_declarator_depth m))))))
    (suc (max (declarator_depth d) (max (params_depth (params_of (ps ++ record { specs = ss; declarator = m } ∷ []))) 0)))
    (let e = params_depth_last ps (record { specs = ss; declarator = m }) in omega arith)
param_least (in_params d ps k) env ss m t.rparen =
    mono_declarator k (suc (max (declarator_depth d) (max (params_depth (params_of ps)) (suc (max (specs_depth ss) (maybe_declarator_depth m))))))
    (suc (max (declarator_depth d) (params_depth (params_of (ps ++ record { specs = ss; declarator = m } ∷ [])))))
    (let e = params_depth_last ps (record { specs = ss; declarator = m }) in omega arith)
param_least x env ss m _ = tt

pub type_least : (x : TypePlace) (env : Env) (k : InExpr) (ss : Specs) (m : MaybeDeclarator) (y : Symbol) → Least (above_expr k (suc (suc (max (specs_depth ss) (maybe_declarator_depth m))))) (type_next env x k ss m y)
type_least cast_type env k ss m t.rparen = mono_expr k (suc (suc (max (specs_depth ss) (maybe_declarator_depth m)))) (suc (max (suc (max (specs_depth ss) (maybe_declarator_depth m))) 0)) (omega arith)
type_least sizeof_type env k ss m t.rparen = le_refl _
type_least x env k ss m _ = tt

pub end_least : (k : InDeclarator) (env : Env) (d : Declarator) (y : Symbol) → Least (above_declarator k (declarator_depth d)) (end_declarator env k d y)
end_least (in_pointer qs k) env d y = end_least k env (u.PointerTo qs d) y
end_least (in_group k) env d y = group_least env k d y
end_least (in_item q) env d y = close_item_least env q d y
end_least (in_field x ss ds) env d y = field_least env x ss ds d y
end_least (in_param x ss) env d y = param_least x env ss (u.some_declarator d) y
end_least (in_type x k ss) env d y = type_least x env k ss (u.some_declarator d) y

pub no_items_least : (is : List Item) (ss : Specs) (td : Bool) (q : InDeclaration) (env : Env) → Least (items_want is ss q) (if is_empty is then Some (at env (items_done (record { specs = ss; typedef = td; items = is; place = q }))) else None)
no_items_least [] ss td q env = le_trans (mono_declaration q (suc (specs_depth ss)) (suc (max (specs_depth ss) 0)) (omega arith)) (declaration_least q (record { specs = ss; items = [] }))
no_items_least (x ∷ is) ss td q env = tt

pub no_items_next_least : (env : Env) (q : InItems) (y : Symbol) → Least (items_want q.items q.specs q.place) (no_items_next env q y)
no_items_next_least env q t.semi = no_items_least q.items q.specs q.typedef q.place env
no_items_next_least env q _ = tt

pub nameless_least : (k : InDeclarator) (env : Env) (y : Symbol) → Least (want_above k) (nameless env k y)
nameless_least (in_pointer qs k) env y =
    either (above_declarator k 1) (may_be_nameless k) (end_declarator env k (u.PointerTo qs (u.Declared None)) y) None (end_least k env (u.PointerTo qs (u.Declared None)) y) tt
nameless_least (in_group k) env y = tt
nameless_least (in_item q) env y = no_items_next_least env q y
nameless_least (in_field x ss ds) env y = tt
nameless_least (in_param x ss) env y = param_least x env ss u.no_declarator y
nameless_least (in_type x k ss) env y = type_least x env k ss u.no_declarator y

pub want_items : (is : List Item) (ss : Specs) (q : InDeclaration) → items_want is ss q ≤ items_above is ss q 0
want_items [] ss (of_external done) = mono_declaration (of_external done) (suc (specs_depth ss)) (suc (max (specs_depth ss) 0)) (omega arith)
want_items [] ss (of_block is b) = mono_declaration (of_block is b) (suc (specs_depth ss)) (suc (max (specs_depth ss) (max 0 1))) (omega arith)
want_items [] ss (of_for k) = mono_declaration (of_for k) (suc (specs_depth ss)) (suc (max (specs_depth ss) (max 0 1))) (omega arith)
want_items (x ∷ is) ss q = le_refl _

pub want_less : (k : InDeclarator) → want_above k ≤ above_declarator k 0
want_less (in_pointer qs k) = le_refl _
want_less (in_group k) = le_refl _
want_less (in_item q) = want_items q.items q.specs q.place
want_less (in_field x ss ds) = le_refl _
want_less (in_param x ss) = le_refl _
want_less (in_type x k ss) = le_refl _

-- a declarator of depth d there
pub declarator_deeper : (k : InDeclarator) (d : ℕ) → want_above k ≤ above_declarator k d
declarator_deeper k d = le_trans (want_less k) (mono_declarator k 0 d (omega arith))

pub begin_least : (env : Env) (k : InDeclarator) (y : Symbol) → Least (want_above k) (declarator_begin env k y)
begin_least env k (t.name n) = either (want_above k) (may_be_named k) (Some (at env (declarator (i.after_declarator k (u.Declared (Some n)))))) None (declarator_deeper k 1) tt
begin_least env k (t.operator o) = either (want_above k) (is_star o) (Some (at env (declarator (after_star [] k)))) None (declarator_deeper k 1) tt
begin_least env k t.lparen = declarator_deeper k 1
begin_least env k t.lbracket = either (want_above k) (may_be_nameless k) (Some (at env (declarator (array_opened (u.Declared None) k)))) None (declarator_deeper k 1) tt
begin_least env k (t.number n) = nameless_least k env (t.number n)
begin_least env k y = nameless_least k env y

pub star_least : (env : Env) (qs : List Word) (k : InDeclarator) (y : Symbol) → Least (above_declarator k 1) (star_next env qs k y)
star_least env qs k (t.keyword w) = either (above_declarator k 1) (is_qualifier (keyword_word w)) (Some (at env (declarator (after_star (qs ++ keyword_word w ∷ []) k)))) None (le_refl _) tt
star_least env qs k (t.name n) = begin_least env (in_pointer qs k) (t.name n)
star_least env qs k y = begin_least env (in_pointer qs k) y

pub params_least : (env : Env) (k : InDeclarator) (y : Symbol) → Least (above_declarator k 1) (open_params env k y)
params_least env k y =
    either (above_declarator k 1) (may_be_nameless k) (open_spec env no_specs (of_param (in_params (u.Declared None) [] k)) y) None
    (new_specs_least (above_declarator k 1) env (of_param (in_params (u.Declared None) [] k)) y (mono_declarator k 1 (suc (max 0 (max 0 1))) (omega arith))) tt

pub opened_either : (env : Env) (k : InDeclarator) (y : Symbol) → Least (above_declarator k 1) (if begins_specs env false y then open_params env k y else declarator_begin env (in_group k) y)
opened_either env k y = either (above_declarator k 1) (begins_specs env false y) (open_params env k y) (declarator_begin env (in_group k) y) (params_least env k y) (begin_least env (in_group k) y)

pub opened_least : (env : Env) (k : InDeclarator) (y : Symbol) → Least (above_declarator k 1) (opened_next env k y)
opened_least env k t.rparen =
    either (above_declarator k 1) (may_be_nameless k) (Some (at env (declarator (i.after_declarator k (u.FunctionOf (u.Declared None) u.no_params))))) None (mono_declarator k 1 (suc (max 0 0)) (omega arith)) tt
opened_least env k (t.name n) = opened_either env k (t.name n)
opened_least env k y = opened_either env k y

pub array_least : (env : Env) (d : Declarator) (k : InDeclarator) (y : Symbol) → Least (above_declarator k (suc (declarator_depth d))) (array_next env d k y)
array_least env d k t.rbracket = mono_declarator k (suc (declarator_depth d)) (suc (max (declarator_depth d) 0)) (omega arith)
array_least env d k (t.name n) = inner_least (above_declarator k (suc (declarator_depth d))) env (in_array d k) (t.name n) (mono_declarator k (suc (declarator_depth d)) (suc (max (declarator_depth d) 1)) (omega arith))
array_least env d k y = inner_least (above_declarator k (suc (declarator_depth d))) env (in_array d k) y (mono_declarator k (suc (declarator_depth d)) (suc (max (declarator_depth d) 1)) (omega arith))

pub first_param : (env : Env) (d : Declarator) (k : InDeclarator) (y : Symbol) → Least (above_declarator k (suc (declarator_depth d))) (begin.first_spec env (of_param (in_params d [] k)) y)
first_param env d k y =
    first_spec_least (above_declarator k (suc (declarator_depth d))) env (of_param (in_params d [] k)) y (mono_declarator k (suc (declarator_depth d)) (suc (max (declarator_depth d) (max 0 1))) (omega arith))

pub params_next_least : (env : Env) (d : Declarator) (k : InDeclarator) (y : Symbol) → Least (above_declarator k (suc (declarator_depth d))) (params_next env d k y)
params_next_least env d k t.rparen = mono_declarator k (suc (declarator_depth d)) (suc (max (declarator_depth d) 0)) (omega arith)
params_next_least env d k (t.name n) = first_param env d k (t.name n)
params_next_least env d k y = first_param env d k y

pub declarator_next_least : (env : Env) (k : InDeclarator) (d : Declarator) (y : Symbol) → Least (above_declarator k (declarator_depth d)) (declarator_next env k d y)
declarator_next_least env k d t.lbracket = mono_declarator k (declarator_depth d) (suc (declarator_depth d)) (omega arith)
declarator_next_least env k d t.lparen = mono_declarator k (declarator_depth d) (suc (declarator_depth d)) (omega arith)
declarator_next_least env k d (t.name n) = end_least k env d (t.name n)
declarator_next_least env k d y = end_least k env d y

pub declarator_mode_least : (env : Env) (m : DeclaratorMode) (y : Symbol) → Least (declarator_so_far m) (declarator_mode_next env m y)
declarator_mode_least env (want_declarator k) y = begin_least env k y
declarator_mode_least env (after_star qs k) y = star_least env qs k y
declarator_mode_least env (declarator_opened k) y = opened_least env k y
declarator_mode_least env (i.after_declarator k d) y = declarator_next_least env k d y
declarator_mode_least env (array_opened d k) y = array_least env d k y
declarator_mode_least env (params_opened d k) y = params_next_least env d k y

-- ---- specs

pub behind_above : (s : p.SpecsRead) (k : InSpecs) → above_specs k (specs_depth (specs_of s.specs)) ≤ want_above (behind s k)
behind_above s (of_declaration q) = le_refl _
behind_above s (of_field x) = mono_fields x (suc (specs_depth (specs_of s.specs))) (suc (max (specs_depth (specs_of s.specs)) (max 0 0))) (omega arith)
behind_above s (of_param x) = mono_params x (suc (specs_depth (specs_of s.specs))) (suc (max (specs_depth (specs_of s.specs)) 0)) (omega arith)
behind_above s (of_type x k) = mono_expr k (suc (suc (specs_depth (specs_of s.specs)))) (suc (suc (max (specs_depth (specs_of s.specs)) 0))) (omega arith)

pub specs_next_least : (env : Env) (s : p.SpecsRead) (k : InSpecs) (y : Symbol) → Least (above_specs k (specs_depth (specs_of s.specs))) (specs_next env s k y)
specs_next_least env s k y =
    either (above_specs k (specs_depth (specs_of s.specs))) (begins_specs env s.seen y) (open_spec env s k y) (declarator_begin env (behind s k) y) (open_least env s k y)
    (lower (above_specs k (specs_depth (specs_of s.specs))) (want_above (behind s k)) (declarator_begin env (behind s k) y) (behind_above s k) (begin_least env (behind s k) y))

pub tagged_opened_least : (x : Tagged) (tag : Option (List ℕ)) (s : p.SpecsRead) (k : InSpecs) → above_specs k (max (specs_depth (specs_of s.specs)) 1) ≤ so_far (tagged_opened x tag s k)
tagged_opened_least (t.records b) tag s k = mono_specs k (max (specs_depth (specs_of s.specs)) 1) (max (specs_depth (specs_of s.specs)) (suc (max 0 0))) (omega arith)
tagged_opened_least t.enums tag s k = mono_specs k (max (specs_depth (specs_of s.specs)) 1) (max (specs_depth (specs_of s.specs)) (suc (max 0 0))) (omega arith)

pub tagged_least : (env : Env) (x : Tagged) (s : p.SpecsRead) (k : InSpecs) (y : Symbol) → Least (above_specs k (max (specs_depth (specs_of s.specs)) 1)) (tagged_next env x s k y)
tagged_least env x s k (t.name n) = le_refl _
tagged_least env x s k t.lbrace = tagged_opened_least x None s k
tagged_least env x s k _ = tt

pub tag_depth : (x : Tagged) (n : List ℕ) → specs_depth (with_spec (tag_spec x n) u.no_specs) ≡ 1
tag_depth (t.records b) n = refl
tag_depth t.enums n = refl

pub tag_else : (env : Env) (x : Tagged) (n : List ℕ) (s : p.SpecsRead) (k : InSpecs) (y : Symbol) → Least (above_specs k (max (specs_depth (specs_of s.specs)) 1)) (specs_next env (add_type s (tag_spec x n)) k y)
tag_else env x n s k y =
    lower (above_specs k (max (specs_depth (specs_of s.specs)) 1)) (above_specs k (specs_depth (specs_of (s.specs ++ tag_spec x n ∷ [])))) (specs_next env (add_type s (tag_spec x n)) k y)
    (mono_specs k (max (specs_depth (specs_of s.specs)) 1) (specs_depth (specs_of (s.specs ++ tag_spec x n ∷ []))) (let e = specs_depth_last s.specs (tag_spec x n) in let h = tag_depth x n in omega arith))
    (specs_next_least env (add_type s (tag_spec x n)) k y)

pub tag_least : (env : Env) (x : Tagged) (n : List ℕ) (s : p.SpecsRead) (k : InSpecs) (y : Symbol) → Least (above_specs k (max (specs_depth (specs_of s.specs)) 1)) (tag_next env x n s k y)
tag_least env x n s k t.lbrace = tagged_opened_least x (Some n) s k
tag_least env x n s k (t.name w) = tag_else env x n s k (t.name w)
tag_least env x n s k y = tag_else env x n s k y

pub close_fields_least : (x : InFields) (env : Env) → Least (above_fields x 0) (close_fields env x)
close_fields_least (in_fields b tag fs s k) env =
    either (above_fields (in_fields b tag fs s k) 0) (is_empty fs) None (Some (at env (specs (in_specs (add_type s (p.records b tag (u.body (fields_of fs)))) k)))) tt
    (mono_specs k (max (specs_depth (specs_of s.specs)) (suc (max (fields_depth (fields_of fs)) 0))) (specs_depth (specs_of (s.specs ++ p.records b tag (u.body (fields_of fs)) ∷ [])))
    (let e = specs_depth_last s.specs (p.records b tag (u.body (fields_of fs))) in omega arith))

pub first_field : (env : Env) (x : InFields) (y : Symbol) → Least (above_fields x 0) (begin.first_spec env (of_field x) y)
first_field env x y = first_spec_least (above_fields x 0) env (of_field x) y (mono_fields x 0 1 (omega arith))

pub field_begin_least : (env : Env) (x : InFields) (y : Symbol) → Least (above_fields x 0) (field_begin env x y)
field_begin_least env x t.rbrace = close_fields_least x env
field_begin_least env x (t.name n) = first_field env x (t.name n)
field_begin_least env x y = first_field env x y

pub close_enum_least : (x : InEnum) (env : Env) (has_comma : Bool) → Least (above_enum x 0) (close_enum env x has_comma)
close_enum_least (in_enum tag es s k) env has_comma =
    either (above_enum (in_enum tag es s k) 0) (is_empty es) None (Some (at env (specs (in_specs (add_type s (p.enums tag (u.list (enumerators_of es) has_comma))) k)))) tt
    (mono_specs k (max (specs_depth (specs_of s.specs)) (suc (max (enumerators_depth (enumerators_of es)) 0))) (specs_depth (specs_of (s.specs ++ p.enums tag (u.list (enumerators_of es) has_comma) ∷ [])))
    (let e = specs_depth_last s.specs (p.enums tag (u.list (enumerators_of es) has_comma)) in omega arith))

pub enumerator_begin_least : (env : Env) (x : InEnum) (y : Symbol) → Least (above_enum x 0) (enumerator_begin env x y)
enumerator_begin_least env x (t.name n) = mono_enum x 0 1 (omega arith)
enumerator_begin_least env x t.rbrace = close_enum_least x env true
enumerator_begin_least env x _ = tt

pub enumerator_added : (x : InEnum) (n : List ℕ) (v : MaybeExpr) → above_enum x (suc (maybe_depth v)) ≤ above_enum (add_enumerator x n v) 0
enumerator_added (in_enum tag es s k) n v =
    mono_specs k (max (specs_depth (specs_of s.specs)) (suc (max (enumerators_depth (enumerators_of es)) (suc (maybe_depth v)))))
    (max (specs_depth (specs_of s.specs)) (suc (max (enumerators_depth (enumerators_of (es ++ record { name = n; value = v } ∷ []))) 0)))
    (let e = enumerators_depth_last es (record { name = n; value = v }) in omega arith)

pub enumerator_end_least : (x : InEnum) (env : Env) (n : List ℕ) (v : MaybeExpr) (y : Symbol) → Least (above_enum x (suc (maybe_depth v))) (enumerator_end env (add_enumerator x n v) y)
enumerator_end_least x env n v t.comma = enumerator_added x n v
enumerator_end_least x env n v t.rbrace =
    lower (above_enum x (suc (maybe_depth v))) (above_enum (add_enumerator x n v) 0) (close_enum env (add_enumerator x n v) false) (enumerator_added x n v) (close_enum_least (add_enumerator x n v) env false)
enumerator_end_least x env n v _ = tt

pub enumerator_next_least : (env : Env) (n : List ℕ) (x : InEnum) (y : Symbol) → Least (above_enum x 1) (enumerator_next env n x y)
enumerator_next_least env n x (t.operator o) = either (above_enum x 1) (is_equals o) (Some (at env (expr (want_expr (in_value n x))))) None (le_refl _) tt
enumerator_next_least env n x (t.name w) = enumerator_end_least x env n u.no_expr (t.name w)
enumerator_next_least env n x y = enumerator_end_least x env n u.no_expr y

pub specs_mode_least : (env : Env) (m : SpecsMode) (y : Symbol) → Least (specs_so_far m) (specs_mode_next env m y)
specs_mode_least env (in_specs s k) y = specs_next_least env s k y
specs_mode_least env (after_tagged x s k) y = tagged_least env x s k y
specs_mode_least env (after_tag x n s k) y = tag_least env x n s k y
specs_mode_least env (want_field x) y = field_begin_least env x y
specs_mode_least env (want_enumerator x) y = enumerator_begin_least env x y
specs_mode_least env (after_enumerator n x) y = enumerator_next_least env n x y
specs_mode_least env (want_param x) y = first_spec_least (above_params x 0) env (of_param x) y (mono_params x 0 1 (omega arith))

-- ---- attributes

pub lparen_least : (env : Env) (a : InAttribute) (m : AttributeMode) (d : ℕ) (y : Symbol) → d ≤ attribute_so_far m → Least (above_attribute a d) (want_lparen env a m y)
lparen_least env a m d t.lparen h = mono_attribute a d (attribute_so_far m) h
lparen_least env a m d _ h = tt

pub entry_least : (env : Env) (a : InAttribute) (es : List Entry) (y : Symbol) → Least (above_attribute a (suc (greatest entry_depth es))) (entry_begin env a es y)
entry_least env a es (t.name n) = le_refl _
entry_least env a es _ = tt

pub entry_end_least : (env : Env) (a : InAttribute) (d : ℕ) (es : List Entry) (y : Symbol) → d ≤ suc (greatest entry_depth es) → Least (above_attribute a d) (entry_end env a es y)
entry_end_least env a d es t.comma h = mono_attribute a d (suc (greatest entry_depth es)) h
entry_end_least env a d es t.rparen h = mono_attribute a d (suc (greatest entry_depth es)) h
entry_end_least env a d es _ h = tt

pub entry_grown : (es : List Entry) (n : List ℕ) (o : Option (List Argument)) → suc (greatest entry_depth es) ≤ suc (greatest entry_depth (add_entry es n o))
entry_grown es n o = let e = greatest_last entry_depth es (record { name = n; arguments = o }) in omega arith

pub entry_next_least : (env : Env) (a : InAttribute) (es : List Entry) (n : List ℕ) (y : Symbol) → Least (above_attribute a (suc (greatest entry_depth es))) (entry_next env a es n y)
entry_next_least env a es n t.lparen = le_refl _
entry_next_least env a es n (t.name w) = entry_end_least env a (suc (greatest entry_depth es)) (add_entry es n None) (t.name w) (entry_grown es n None)
entry_next_least env a es n y = entry_end_least env a (suc (greatest entry_depth es)) (add_entry es n None) y (entry_grown es n None)

pub arguments_one : (xs : List Argument) → arguments_depth xs ≤ 1
arguments_one [] = omega arith
arguments_one (x ∷ xs) = let e = arguments_one xs in omega arith

pub argument_least : (env : Env) (a : InAttribute) (es : List Entry) (n : List ℕ) (xs : List Argument) (y : Symbol) → Least (above_attribute a (suc (max (greatest entry_depth es) (arguments_depth xs)))) (argument_begin env a es n xs y)
argument_least env a es n xs (t.number v) = mono_attribute a (suc (max (greatest entry_depth es) (arguments_depth xs))) (suc (max (greatest entry_depth es) 1)) (let e = arguments_one xs in omega arith)
argument_least env a es n xs (t.text v) = mono_attribute a (suc (max (greatest entry_depth es) (arguments_depth xs))) (suc (max (greatest entry_depth es) 1)) (let e = arguments_one xs in omega arith)
argument_least env a es n xs _ = tt

pub first_argument : (env : Env) (a : InAttribute) (es : List Entry) (n : List ℕ) (y : Symbol) → Least (above_attribute a (suc (greatest entry_depth es))) (argument_begin env a es n [] y)
first_argument env a es n y =
    lower (above_attribute a (suc (greatest entry_depth es))) (above_attribute a (suc (max (greatest entry_depth es) 0))) (argument_begin env a es n [] y)
    (mono_attribute a (suc (greatest entry_depth es)) (suc (max (greatest entry_depth es) 0)) (omega arith)) (argument_least env a es n [] y)

pub arguments_least : (env : Env) (a : InAttribute) (es : List Entry) (n : List ℕ) (y : Symbol) → Least (above_attribute a (suc (greatest entry_depth es))) (arguments_begin env a es n y)
arguments_least env a es n t.rparen = mono_attribute a (suc (greatest entry_depth es)) (suc (greatest entry_depth (add_entry es n (Some [])))) (entry_grown es n (Some []))
arguments_least env a es n (t.name w) = first_argument env a es n (t.name w)
arguments_least env a es n y = first_argument env a es n y

pub text_least : (env : Env) (a : InAttribute) (es : List Entry) (n : List ℕ) (xs : List Argument) (x : Argument) (w : List ℕ) → Least (above_attribute a (suc (max (greatest entry_depth es) 1))) (text_more env a es n xs x w)
text_least env a es n xs (u.NumberArgument v) w = tt
text_least env a es n xs (u.TextArgument vs) w = le_refl _

pub arguments_last : (xs : List Argument) (x : Argument) → arguments_depth (xs ++ x ∷ []) ≡ 1
arguments_last [] x = refl
arguments_last (z ∷ xs) x = let e = arguments_last xs x in omega arith

pub argument_next_least : (env : Env) (a : InAttribute) (es : List Entry) (n : List ℕ) (xs : List Argument) (x : Argument) (y : Symbol) → Least (above_attribute a (suc (max (greatest entry_depth es) 1))) (argument_next env a es n xs x y)
argument_next_least env a es n xs x (t.text w) = text_least env a es n xs x w
argument_next_least env a es n xs x t.comma = mono_attribute a (suc (max (greatest entry_depth es) 1)) (suc (max (greatest entry_depth es) (arguments_depth (xs ++ x ∷ [])))) (let e = arguments_last xs x in omega arith)
argument_next_least env a es n xs x t.rparen =
    mono_attribute a (suc (max (greatest entry_depth es) 1)) (suc (greatest entry_depth (add_entry es n (Some (xs ++ x ∷ [])))))
    (let e = greatest_last entry_depth es (record { name = n; arguments = Some (xs ++ x ∷ []) }) in let h = arguments_last xs x in omega arith)
argument_next_least env a es n xs x _ = tt

pub attribute_done_least : (a : InAttribute) (es : List Entry) → above_attribute a (suc (greatest entry_depth es)) ≤ so_far (attribute_done a es)
attribute_done_least (of_specs s k) es =
    mono_specs k (max (specs_depth (specs_of s.specs)) (suc (greatest entry_depth es))) (specs_depth (specs_of (s.specs ++ p.attribute es ∷ []))) (let e = specs_depth_last s.specs (p.attribute es) in omega arith)
attribute_done_least (of_read r) es =
    mono_item r.before.items r.before.specs r.before.place (max (declarator_depth r.declarator) (max (greatest attribute_depth r.attributes) (suc (greatest entry_depth es))))
    (max (declarator_depth r.declarator) (max (greatest attribute_depth (r.attributes ++ es ∷ [])) 0))
    (let e = greatest_last attribute_depth r.attributes es in omega arith)

pub closing_least : (env : Env) (a : InAttribute) (es : List Entry) (y : Symbol) → Least (above_attribute a (suc (greatest entry_depth es))) (close_attribute env a es y)
closing_least env a es t.rparen = attribute_done_least a es
closing_least env a es _ = tt

pub entries_least : (env : Env) (a : InAttribute) (y : Symbol) → Least (above_attribute a 1) (entries_begin env a y)
entries_least env a t.rparen = le_refl _
entries_least env a (t.name n) = entry_least env a [] (t.name n)
entries_least env a y = entry_least env a [] y

pub attribute_least : (env : Env) (a : InAttribute) (m : AttributeMode) (y : Symbol) → Least (above_attribute a (attribute_so_far m)) (attribute_next env a m y)
attribute_least env a attribute_word y = lparen_least env a attribute_opened 1 y (omega arith)
attribute_least env a attribute_opened y = lparen_least env a entries_opened 1 y (omega arith)
attribute_least env a entries_opened y = entries_least env a y
attribute_least env a (want_entry es) y = entry_least env a es y
attribute_least env a (after_entry_name es n) y = entry_next_least env a es n y
attribute_least env a (arguments_opened es n) y = arguments_least env a es n y
attribute_least env a (want_argument es n xs) y = argument_least env a es n xs y
attribute_least env a (after_argument es n xs x) y = argument_next_least env a es n xs x y
attribute_least env a (after_entry es) y = entry_end_least env a (suc (greatest entry_depth es)) es y (omega arith)
attribute_least env a (attribute_closing es) y = closing_least env a es y
