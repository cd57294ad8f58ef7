-- How the program's tagging of a unit goes on from part to part.
use Rattle.std.specs.Prelude.{◌≡◌, ℕ, Bool, true, false, ◌&&◌, not, ◌+◌, ◌%◌, ◌++◌, codes, decimal, List, [], ◌∷◌, map}
use Rattle.c_tree.specs.Tree as u
use Rattle.c_tree.specs.Tree.{Exprs, Specs, Fields, Declarators, Enumerators, Params, Inits, BlockItems}
use Rattle.c_tree.specs.View.{view, view_attribute, view_body, view_declaration, view_declarator, view_enum, view_external, view_item, view_record, view_init, view_keyword, view_list, view_stmt}
use Rattle.c_tree.specs.View.{boxed_declarator, boxed_expr, declarators_of, enumerators_of, exprs_of, fields_of, inits_of, items_of, params_of, specs_of}
use Rattle.c_tree.specs.Bare.{bare, bare_attribute, bare_block, bare_external, bare_item, bare_body, bare_declaration, bare_declarator, bare_declarators, bare_enumerators, bare_exprs, bare_fields, bare_init, bare_inits, bare_list, bare_maybe, bare_maybe_declarator, bare_params, bare_specs, bare_stmt}
use Rattle.c_tree.specs.declared.expression.Expr.{Expr}
use Rattle.c_tree.specs.declared.expression.Spec.{Spec}
use Rattle.c_tree.specs.declared.expression.Record.{Record}
use Rattle.c_tree.specs.declared.expression.Enum.{Enum}
use Rattle.c_tree.specs.declared.expression.Field.{Field}
use Rattle.c_tree.specs.declared.expression.Enumerator.{Enumerator}
use Rattle.c_tree.specs.declared.expression.Declarator.{Declarator}
use Rattle.c_tree.specs.declared.expression.Declarator.TheBlock as b
use Rattle.c_tree.specs.declared.expression.Param.{Param}
use Rattle.c_tree.specs.declared.statement.Init.{Init}
use Rattle.c_tree.specs.declared.statement.BlockItem.{BlockItem}
use Rattle.c_tree.specs.declared.statement.Item.{Item}
use Rattle.c_tree.specs.declared.statement.External.{External}
use Rattle.c_tree.specs.declared.statement.BlockItem.TheBlock as x
use Rattle.call_rewriter.specs.Tagged.{Callee, Hooks, Tagging, token, with_last, as_is, one, tag_exprs, tag_specs, tag_fields, tag_declarators, tag_enumerators, tag_params, tag_inits, tag_items, tag_block, tag_externals}
use Rattle.call_rewriter.specs.Survey.{of_each}
use Rattle.call_rewriter.specs.declared.survey.Survey.{Survey}

-- wherever the number of sites before is old mod max, the tagging comes to x, and the number after is new mod max
abbrev pub Tags : {A : Type 0} → ℕ → ℕ → ℕ → Tagging A → A → Type 0
Tags max old new t x = (k : ℕ) → k % max ≡ old → (m : ℕ) × (m % max ≡ new) × (t k ≡ as_is x m)

-- wherever it is old mod max, all comes to what put makes of the tagging of the rest, before which the number is new mod max
abbrev pub Heads : {A B : Type 0} → ℕ → ℕ → ℕ → Tagging B → Tagging A → (A → B) → Type 0
Heads max old new all rest put = (k : ℕ) → k % max ≡ old → (m : ℕ) × (m % max ≡ new) × (all k ≡ one put rest m)

-- the same of the first of a list, whatever follows
abbrev pub HeadsList : {T L : Type 0} → (List T → Tagging L) → (T → L → L) → ℕ → ℕ → ℕ → T → T → Type 0
HeadsList {T} tag_list put max old new x y = (rest : List T) → Heads max old new (tag_list (x ∷ rest)) (tag_list rest) (put y)

abbrev pub before : {T L : Type 0} → (T → L → L) → List T → L → L
before put [] rest = rest
before put (y ∷ ys) rest = put y (before put ys rest)

-- inside a loop, where ys were made and xs are left
abbrev pub TagsLeft : {T L : Type 0} → (List T → Tagging L) → (T → L → L) → ℕ → ℕ → ℕ → List T → List T → List T → Type 0
TagsLeft tag_list put max old new all ys xs = Heads max old new (tag_list all) (tag_list xs) (before put ys)

-- the number of a token, spelled
abbrev pub token_text : ℕ → List ℕ
token_text k = decimal k ++ codes "UL"

-- ---- the program's lists: their tagging, and what puts one of them before the rest

abbrev pub put_expr : Expr → Exprs → Exprs
put_expr a rest = u.expr (bare (view a)) rest

abbrev pub put_record : Record → Specs → Specs
put_record (b.struct-Record at is_union n fields) rest = u.Record is_union n (bare_body (view_body fields)) rest

abbrev pub put_enum : Enum → Specs → Specs
put_enum (b.struct-Enum at n list) rest = u.Enum n (bare_list (view_list list)) rest

abbrev pub put_spec : Spec → Specs → Specs
put_spec (b.Keyword k) rest = u.Keyword (view_keyword k) rest
put_spec (b.Typedef n) rest = u.Typedef n rest
put_spec (b.Attribute a) rest = u.Attribute (bare_attribute (view_attribute a)) rest
put_spec (b.Record r) rest = put_record r rest
put_spec (b.Enum e) rest = put_enum e rest

abbrev pub put_field : Field → Fields → Fields
put_field f rest = u.Field (bare_specs (specs_of f.specs)) (bare_declarators (declarators_of f.declarators)) rest

abbrev pub put_declarator : Declarator → Declarators → Declarators
put_declarator d rest = u.declarator (bare_declarator (view_declarator d)) rest

abbrev pub put_enumerator : Enumerator → Enumerators → Enumerators
put_enumerator e rest = u.Enumerator e.name (bare_maybe (boxed_expr e.value)) rest

abbrev pub put_param : Param → Params → Params
put_param p rest = u.Param (bare_specs (specs_of p.specs)) (bare_maybe_declarator (boxed_declarator p.declarator)) rest

abbrev pub put_init : Init → Inits → Inits
put_init i rest = u.init (bare_init (view_init i)) rest

abbrev pub put_block_item : BlockItem → BlockItems → BlockItems
put_block_item (x.Declaration d) rest = u.declared (bare_declaration (view_declaration d)) rest
put_block_item (x.Stmt s) rest = u.statement (bare_stmt (view_stmt s)) rest

abbrev pub exprs_tagging : ℕ → Hooks → List Expr → Tagging Exprs
exprs_tagging max h xs = tag_exprs max h (bare_exprs (exprs_of xs))

abbrev pub specs_tagging : ℕ → Hooks → List Spec → Tagging Specs
specs_tagging max h xs = tag_specs max h (bare_specs (specs_of xs))

abbrev pub fields_tagging : ℕ → Hooks → List Field → Tagging Fields
fields_tagging max h xs = tag_fields max h (bare_fields (fields_of xs))

abbrev pub declarators_tagging : ℕ → Hooks → List Declarator → Tagging Declarators
declarators_tagging max h xs = tag_declarators max h (bare_declarators (declarators_of xs))

abbrev pub enumerators_tagging : ℕ → Hooks → List Enumerator → Tagging Enumerators
enumerators_tagging max h xs = tag_enumerators max h (bare_enumerators (enumerators_of xs))

abbrev pub params_tagging : ℕ → Hooks → List Param → Tagging Params
params_tagging max h xs = tag_params max h (bare_params (params_of xs))

abbrev pub inits_tagging : ℕ → Hooks → List Init → Tagging Inits
inits_tagging max h xs = tag_inits max h (bare_inits (inits_of xs))

abbrev pub block_tagging : ℕ → Hooks → List BlockItem → Tagging BlockItems
block_tagging max h xs = tag_block max h (bare_block (items_of xs))

-- a record and an enumeration before other specifiers
abbrev pub HeadsRecord : ℕ → Hooks → ℕ → ℕ → Record → Record → Type 0
HeadsRecord max h old new r s = (rest : List Spec) → Heads max old new (tag_specs max h (bare_specs (view_record r (specs_of rest)))) (specs_tagging max h rest) (put_record s)

abbrev pub HeadsEnum : ℕ → Hooks → ℕ → ℕ → Enum → Enum → Type 0
HeadsEnum max h old new e f = (rest : List Spec) → Heads max old new (tag_specs max h (bare_specs (view_enum e (specs_of rest)))) (specs_tagging max h rest) (put_enum f)

abbrev pub put_item : Item → List u.Item → List u.Item
put_item i rest = bare_item (view_item i) ∷ rest

abbrev pub items_tagging : ℕ → Hooks → List Item → Tagging (List u.Item)
items_tagging max h xs = tag_items max h (map bare_item (map view_item xs))

abbrev pub put_external : External → List u.External → List u.External
put_external x rest = bare_external (view_external x) ∷ rest

abbrev pub externals_tagging : ℕ → Hooks → List External → Tagging (List u.External)
externals_tagging max h xs = tag_externals max h (map bare_external (map view_external xs))

-- a site's arguments, with its token behind them
abbrev pub arguments_tagging : ℕ → Tagging Exprs → Tagging Exprs
arguments_tagging max xs k = let t = xs (k + 1) in record { tree = with_last t.tree (token max k); next = t.next }

-- ---- the prototypes

abbrev pub behind_params : Params → Params → Params
behind_params u.no_params more = more
behind_params (u.Param ss d ps) more = u.Param ss d (behind_params ps more)

abbrev pub those : Bool → u.External → List u.External
those true x = x ∷ []
those false x = []

-- the functions that some site calls
abbrev pub used : Survey → Callee → Bool
used s c = not (of_each s.hidden c) && of_each s.called c

abbrev pub hooks_left : Survey → Hooks
hooks_left s = record { malloc = not s.hidden.malloc; calloc = not s.hidden.calloc; realloc = not s.hidden.realloc }
