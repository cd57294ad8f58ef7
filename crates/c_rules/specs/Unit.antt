-- What each node is tried for: initialisers, declarations, statements and the unit (ISO/IEC 9899:2018, 6.7, 6.8, 6.9).
use Rattle.std.specs.Prelude.{ℕ, suc, Bool, true, false, ◌&&◌, ◌||◌, not, if◌then◌else◌, List, [], ◌∷◌, ◌++◌, length, codes, Option, Some, None, is_some}
use Rattle.num_ops.specs.declared.kinds.IntKind.TheVariants as k
use Rattle.c_tree.specs.declared.operator.At.{At}
use Rattle.c_tree.specs.Text.{same_text}
use Rattle.c_tree.specs.Marked as t
use Rattle.c_types.specs.CTypes.{CType, Int, Named, Function, no_types, is_flexible}
use Rattle.c_types.specs.Compatible.{is_same}
use Rattle.c_types.specs.Plain.{plain, result_of, parameters_of, count_types, is_function}
use Rattle.c_constants.specs.Literals.{text_length}
use Rattle.c_rules.specs.Types.{settled, element, is_void, is_char, is_scalar}
use Rattle.c_rules.specs.Typed.{Typed}
use Rattle.c_rules.specs.World as world
use Rattle.c_rules.specs.World.{World, Entry, FunctionOf, find_name, is_file_scope, is_listed, with_name, enter, leave, note_type, note_target, note_binding, size_in, start}
use Rattle.c_rules.specs.Trials.{Trials, over, M, give, ◌>>=◌, ◌>>◌, keep, keep_specifiers, world, change}
use Rattle.c_rules.specs.Specifiers.{Specified, nothing_specified, base_type, has, is_typedef, is_extern, is_static, are_specifiers}
use Rattle.c_rules.specs.Declarators.{Layer, function, Laid, Built, is_made, built, makes_function, stays_below, with_length}
use Rattle.c_rules.specs.Names.{may_be_named, keeps_library}
use Rattle.c_rules.specs.Expressions.{converts}
use Rattle.c_rules.specs.Initialisers as i
use Rattle.c_rules.specs.Initialisers.{may_initialise, is_fixed_given, converts_given, with_targets, with_constants}
use Rattle.c_rules.specs.Forms.{Whole, bound, note_bound}
use Rattle.c_rules.specs.Walk.{judge_attribute, judge, judge_specs, judge_layers, judge_built, at_of, at_of_expr, take_number, new_object, declared_name, name_node, newest}
use Rattle.c_rules.specs.declared.known.Sort.{Sort}
use Rattle.c_rules.specs.declared.known.Sort.TheVariants as sort
use Rattle.c_rules.specs.declared.known.Declares.{Declares}
use Rattle.c_rules.specs.declared.known.Declares.TheVariants as decl
use Rattle.c_rules.specs.declared.known.Holder.{Holder}
use Rattle.c_rules.specs.declared.known.Holder.TheVariants.{FileDeclaration, BlockDeclaration, Definition, Part}

-- ---- what stands around a declaration or a statement

pub record Around : Type 0 where
  pub whole : Whole
  -- the result of the function that it stands in
  pub result : CType
  pub in_loop : Bool

-- ---- initialisers

abbrev mutual
  pub judge_init : Whole → Bool → t.Init → M i.Given
  judge_init u fixed (t.Plain e) = do
    x ← judge u fixed e
    give (i.one (at_of_expr e) x)
  judge_init u fixed (t.Braces at gs c) = do
    xs ← judge_inits u fixed gs
    give (i.many xs)

  pub judge_inits : Whole → Bool → t.Inits → M i.Givens
  judge_inits u fixed t.no_inits = give i.no_more
  judge_inits u fixed (t.init g gs) = do
    x ← judge_init u fixed g
    xs ← judge_inits u fixed gs
    give (i.given x xs)

-- the length that an initialiser gives an array: its entries, or the bytes of a string literal and a zero
abbrev pub how_many : t.Inits → ℕ
how_many t.no_inits = 0
how_many (t.init g gs) = suc (how_many gs)

abbrev pub text_given : Bool → t.Expr → Option ℕ
text_given true (t.Text at ts) = Some (suc (text_length ts))
text_given is_text e = None

abbrev pub length_given : CType → t.MaybeInit → Option ℕ
length_given ty t.no_init = None
length_given ty (t.some_init (t.Braces at gs c)) = Some (how_many gs)
length_given ty (t.some_init (t.Plain e)) = text_given (is_char (plain (element (plain ty)))) e

abbrev pub has_init : t.MaybeInit → Bool
has_init t.no_init = false
has_init (t.some_init g) = true

-- ---- what a declarator declares

abbrev pub is_fixed_object : World → List (List ℕ) → (is_static : Bool) → List ℕ → Bool
is_fixed_object w objects is_static n = if is_file_scope w then is_listed n objects else is_static

-- what is declared anew gets the next number; at file scope a name keeps its first declaration
abbrev pub function_of : Whole → List ℕ → CType → FunctionOf
function_of u n ty = record { name = n; type = ty; has_body = is_listed n u.bodies }

abbrev pub new_function : Whole → List ℕ → CType → World → World
new_function u n ty w =
    with_name n (sort.Function (length w.functions)) ty (record w { functions = w.functions ++ function_of u n ty ∷ []; others = n ∷ w.others })

abbrev pub new_alias : List ℕ → CType → World → World
new_alias n ty w = with_name n sort.Alias (Named n ty) w

abbrev pub is_again : World → List ℕ → Bool
is_again w n = is_file_scope w && is_some (find_name n w)

abbrev pub complete : Bool → List ℕ → World → World
complete true n w = if is_file_scope w then record w { completed = n ∷ w.completed } else w
complete false n w = w

-- a sort and a type by what is declared
abbrev pub sort_declared : Declares → Sort
sort_declared decl.Type = sort.Alias
sort_declared decl.Object = sort.Object 0 false
sort_declared decl.Function = sort.Function 0
sort_declared decl.Member = sort.Object 0 false

abbrev pub type_declared : Declares → List ℕ → CType → CType
type_declared decl.Type n ty = Named n ty
type_declared decl.Object n ty = ty
type_declared decl.Function n ty = ty
type_declared decl.Member n ty = ty

abbrev pub named : Whole → Declares → ℕ → At → List ℕ → CType → (is_fixed : Bool) → World → World
named u decl.Type number at n ty is_fixed w = new_alias n ty w
named u decl.Object number at n ty is_fixed w = new_object number at n ty is_fixed w
named u decl.Function number at n ty is_fixed w = new_function u n ty w
named u decl.Member number at n ty is_fixed w = w

abbrev pub named_once : Whole → Declares → ℕ → At → List ℕ → CType → (is_fixed : Bool) → World → World
named_once u what number at n ty is_fixed w = if is_again w n then w else named u what number at n ty is_fixed w

abbrev pub note_entry : Whole → At → List ℕ → Option Entry → World → World
note_entry u at n None w = w
note_entry u at n (Some e) w = note_bound at.id (bound u n e.sort) w

-- the name is in scope from here on (6.2.1, paragraph 7)
abbrev pub introduce : Whole → Declares → ℕ → At → List ℕ → CType → (is_fixed completes : Bool) → M (Unit {0})
introduce u what number at n ty is_fixed completes = do
  change (note_type at.id ty)
  change (named_once u what number at n ty is_fixed)
  w ← world
  change (note_entry u at n (newest w n))
  change (complete completes n)

abbrev pub declares : (is_typedef : Bool) → CType → List Layer → Declares
declares true base ls = decl.Type
declares false base ls = if makes_function base ls then decl.Function else decl.Object

abbrev pub keeps_known : Whole → Declares → List ℕ → CType → Bool
keeps_known u decl.Function n ty = keeps_library u.bodies n ty
keeps_known u decl.Type n ty = true
keeps_known u decl.Object n ty = true
keeps_known u decl.Member n ty = true

abbrev pub name_or_none : Option (List ℕ) → List ℕ
name_or_none (Some n) = n
name_or_none None = []

-- 2, 4, 5, 6, 8 and 34 at the outermost node of a declarator
abbrev pub judge_declared : Whole → Declares → ℕ → At → Laid → Built → (is_fixed completes : Bool) → M (Unit {0})
judge_declared u what number at d b is_fixed completes = do
  w ← world
  keep 2 at (may_be_named w (name_or_none d.name) (sort_declared what) (type_declared what (name_or_none d.name) b.type) (is_made b) completes)
  judge_built at what b
  keep 34 at (keeps_known u what (name_or_none d.name) b.type)
  introduce u what number d.name_at (name_or_none d.name) b.type is_fixed completes

-- ---- declarations

abbrev pub judge_attributes : List t.Attribute → M (Unit {0})
judge_attributes [] = give tt
judge_attributes (a ∷ more) = do
  judge_attribute a
  judge_attributes more

abbrev pub is_object : Declares → Bool
is_object decl.Object = true
is_object decl.Type = false
is_object decl.Function = false
is_object decl.Member = false

-- 10, 11 and 23 at the item
abbrev pub judge_given : At → Declares → CType → (is_fixed : Bool) → i.Given → M (Unit {0})
judge_given at what ty is_fixed g = do
  w ← world
  keep 10 at (is_object what && may_initialise w is_fixed ty g)
  keep 11 at (not is_fixed || is_fixed_given g)
  keep 23 at (converts_given w ty g)
  change (with_targets ty g)
  change (if is_fixed then with_constants ty g else λ v. v)

abbrev pub judge_item_init : Whole → At → Declares → CType → (is_fixed : Bool) → t.MaybeInit → M (Unit {0})
judge_item_init u at what ty is_fixed t.no_init = give tt
judge_item_init u at what ty is_fixed (t.some_init g) = do
  x ← judge_init u is_fixed g
  judge_given at what ty is_fixed x

-- the type with the length that the initialiser gives, which is below the limit too
abbrev pub sized : World → Option ℕ → Built → Built
sized w None b = b
sized w (Some n) b = record b { type = with_length n b.type; is_sized = b.is_sized && stays_below n (size_in w (element (plain b.type))) }

abbrev pub given_length : CType → t.MaybeInit → Option ℕ
given_length ty g = if is_flexible ty then length_given ty g else None

-- the storage and the sort of what a declaration declares
abbrev pub is_fixed_here : World → Whole → Specified → Laid → Bool
is_fixed_here w u s d = is_fixed_object w u.objects (has is_static s.words) (name_or_none d.name)

-- whether the object has static storage, wherever it is defined (6.2.4)
abbrev pub is_static_here : World → Specified → Bool
is_static_here w s = is_file_scope w || has is_static s.words

abbrev pub judge_item_of : Whole → Specified → t.Item → Declares → ℕ → Laid → Built → (is_fixed is_static : Bool) → M (Unit {0})
judge_item_of u s item what number d b is_fixed is_static = do
  judge_declared u what number (at_of item.declarator) d b is_fixed (has_init item.init && is_object what)
  judge_attributes item.attributes
  judge_item_init u item.at what b.type is_static item.init

-- whether a declarator declares a function, seen before it is read: by the form next to the name, or by the base type
abbrev pub next_to_name : (has_layer : Bool) → Bool → CType → t.Declarator → Bool
next_to_name has_layer is_call base (t.Declared at n) = if has_layer then is_call else is_function (plain base)
next_to_name has_layer is_call base (t.Group at d) = next_to_name has_layer is_call base d
next_to_name has_layer is_call base (t.PointerTo at qs d) = next_to_name true false base d
next_to_name has_layer is_call base (t.ArrayOf at d n) = next_to_name true false base d
next_to_name has_layer is_call base (t.FunctionOf at d ps) = next_to_name true true base d

abbrev pub is_function_item : CType → t.Item → Bool
is_function_item base item = next_to_name false false base item.declarator

-- whether the item declares an object for the first time
abbrev pub is_new_object : World → Specified → CType → t.Item → Bool
is_new_object w s base item =
    not (has is_typedef s.words) && not (is_function_item base item) && not (is_again w (name_or_none (declared_name item.declarator)))

-- an automatic object takes the next place among those of its function
abbrev pub local_place : World → Specified → Option ℕ
local_place w s = if is_static_here w s then None else Some w.locals

abbrev pub count_local : Bool → Option ℕ → World → World
count_local true (Some n) w = record w { locals = suc n }
count_local true None w = w
count_local false local w = w

abbrev pub judge_item : Whole → Specified → CType → t.Item → M (Unit {0})
judge_item u s base item = do
  v ← world
  number ← take_number (is_new_object v s base item) (local_place v s)
  change (count_local (is_new_object v s base item) (local_place v s))
  d ← judge_layers u false item.declarator
  w ← world
  judge_item_of u s item (declares (has is_typedef s.words) base d.layers) number d
      (sized w (given_length (built w base d.layers).type item.init) (built w base d.layers))
      (is_fixed_here w u s d) (is_static_here w s)

abbrev pub judge_items : Whole → Specified → CType → List t.Item → M (Unit {0})
judge_items u s base [] = give tt
judge_items u s base (item ∷ more) = do
  judge_item u s base item
  judge_items u s base more

abbrev pub any_function : CType → List t.Item → Bool
any_function base [] = false
any_function base (item ∷ more) = is_function_item base item || any_function base more

abbrev pub is_empty : {A : Type 0} → List A → Bool
is_empty [] = true
is_empty (x ∷ xs) = false

abbrev pub holder_of : World → Holder
holder_of w = if is_file_scope w then FileDeclaration else BlockDeclaration

-- the typedef name that is declared with a struct, a union or an enumeration: the first whose declarator is the bare name
abbrev pub is_typedef_specs : t.Specs → Bool
is_typedef_specs t.no_specs = false
is_typedef_specs (t.Keyword w ss) = is_typedef w || is_typedef_specs ss
is_typedef_specs (t.Typedef n ss) = is_typedef_specs ss
is_typedef_specs (t.attribute a ss) = is_typedef_specs ss
is_typedef_specs (t.Record at is_union tag b ss) = is_typedef_specs ss
is_typedef_specs (t.Enum at tag b ss) = is_typedef_specs ss

abbrev pub bare_name : t.Declarator → Option (List ℕ)
bare_name (t.Declared at n) = n
bare_name (t.Group at d) = bare_name d
bare_name (t.PointerTo at qs d) = None
bare_name (t.ArrayOf at d n) = None
bare_name (t.FunctionOf at d ps) = None

abbrev pub first_bare : List t.Item → Option (List ℕ)
first_bare [] = None
first_bare (item ∷ more) = world.or_else (bare_name item.declarator) (first_bare more)

abbrev pub own_name : t.Specs → List t.Item → Option (List ℕ)
own_name ss items = if is_typedef_specs ss then first_bare items else None

abbrev pub behind_items : At → List t.Item → ℕ
behind_items at [] = at.id
behind_items at (item ∷ more) = name_node item.declarator

-- 3 stands between the specifiers and the declarators; a typedef of a function type declares no function
abbrev pub judge_declaration : Whole → t.Declaration → M (Unit {0})
judge_declaration u d = do
  s ← judge_specs u false (own_name d.specs d.items) d.specs nothing_specified
  w ← world
  keep_specifiers (behind_items d.at d.items) d.at (are_specifiers (holder_of w) s (not (is_empty d.items)) (not (has is_typedef s.words) && any_function (base_type s) d.items))
  judge_items u s (base_type s) d.items

-- ---- statements

abbrev pub judge_maybe_expr : Whole → t.MaybeExpr → M (Option Typed)
judge_maybe_expr u t.no_expr = give None
judge_maybe_expr u (t.some_expr e) = do
  x ← judge u false e
  give (Some x)

abbrev pub is_condition : Option Typed → Bool
is_condition None = true
is_condition (Some x) = is_scalar (settled x.type)

abbrev pub judge_first : Whole → t.First → M (Unit {0})
judge_first u (t.FirstDeclaration d) = judge_declaration u d
judge_first u (t.FirstExpr e) = do
  _ ← judge_maybe_expr u e
  give tt

abbrev pub returns : CType → Option Typed → Bool
returns r None = true
returns r (Some x) = is_void (plain r) || converts r x

-- the type to which the value is converted is noted
abbrev pub note_result : CType → t.MaybeExpr → World → World
note_result r t.no_expr w = w
note_result r (t.some_expr e) w = if is_void (plain r) then w else note_target (at_of_expr e).id r w

abbrev pub is_same_bool : Bool → Bool → Bool
is_same_bool true b = b
is_same_bool false b = not b

-- 23 and 33: an expression exactly where the function isn't void
abbrev pub judge_return : CType → At → t.MaybeExpr → Option Typed → M (Unit {0})
judge_return r at e x = do
  keep 23 at (returns r x)
  keep 33 at (is_same_bool (is_some x) (not (is_void (plain r))))
  change (note_result r e)

abbrev pub in_loop : Around → Around
in_loop a = record a { in_loop = true }

-- a block for itself, as a selection or loop statement and each of its substatements is (6.8.4, 6.8.5)
abbrev pub in_block : M (Unit {0}) → M (Unit {0})
in_block m = do
  change enter
  m
  change leave

abbrev mutual
  pub judge_stmt : Around → t.Stmt → M (Unit {0})
  judge_stmt a (t.Block at ss) = in_block (judge_block a ss)
  judge_stmt a (t.ExprStmt at e) = do
    _ ← judge_maybe_expr a.whole e
    give tt
  judge_stmt a (t.If at c s) = in_block (do
    x ← judge a.whole false c
    in_block (judge_stmt a s)
    keep 21 at (is_condition (Some x)))
  judge_stmt a (t.IfElse at c s r) = in_block (do
    x ← judge a.whole false c
    in_block (judge_stmt a s)
    in_block (judge_stmt a r)
    keep 21 at (is_condition (Some x)))
  judge_stmt a (t.While at c s) = in_block (do
    x ← judge a.whole false c
    in_block (judge_stmt (in_loop a) s)
    keep 21 at (is_condition (Some x)))
  judge_stmt a (t.Do at s c) = in_block (do
    in_block (judge_stmt (in_loop a) s)
    x ← judge a.whole false c
    keep 21 at (is_condition (Some x)))
  judge_stmt a (t.For at f c e s) = in_block (do
    judge_first a.whole f
    x ← judge_maybe_expr a.whole c
    _ ← judge_maybe_expr a.whole e
    in_block (judge_stmt (in_loop a) s)
    keep 21 at (is_condition x))
  judge_stmt a (t.Break at) = keep 32 at a.in_loop
  judge_stmt a (t.Continue at) = keep 32 at a.in_loop
  judge_stmt a (t.Return at e) = do
    x ← judge_maybe_expr a.whole e
    judge_return a.result at e x

  pub judge_block : Around → t.BlockItems → M (Unit {0})
  judge_block a t.no_items = give tt
  judge_block a (t.declared d ss) = do
    judge_declaration a.whole d
    judge_block a ss
  judge_block a (t.statement s ss) = do
    judge_stmt a s
    judge_block a ss

-- ---- definitions and the unit

-- the names between the parentheses of the function that a definition defines
abbrev pub names_of : List Layer → List Entry
names_of [] = []
names_of (l ∷ ls) = of_layer l
  where
    of_layer : Layer → List Entry
    of_layer (function ts es) = es
    of_layer m = []

abbrev pub with_names : List Entry → World → World
with_names [] w = w
with_names (e ∷ es) w = with_name e.name e.sort e.type (with_names es w)

abbrev pub begin_locals : ℕ → World → World
begin_locals parameters w = record w { locals = parameters }

-- a block that the parameters share with the body (6.2.1, paragraph 4)
abbrev pub judge_body : Whole → CType → List Entry → t.BlockItems → M (Unit {0})
judge_body u ty es ss = do
  change enter
  change (with_names es)
  change (begin_locals (count_types (parameters_of (plain ty))))
  judge_block (record { whole = u; result = result_of (plain ty); in_loop = false }) ss
  change leave

abbrev pub judge_definition_of : Whole → t.Declarator → Laid → Built → t.BlockItems → M (Unit {0})
judge_definition_of u declarator d b ss = do
  judge_declared u decl.Function 0 (at_of declarator) d b false true
  judge_body u b.type (names_of d.layers) ss

abbrev pub judge_external : Whole → t.External → M (Unit {0})
judge_external u (t.Declares d) = judge_declaration u d
judge_external u (t.Definition at ss declarator body_at items) = do
  s ← judge_specs u false None ss nothing_specified
  keep_specifiers (name_node declarator) at (are_specifiers Definition s true true)
  d ← judge_layers u false declarator
  w ← world
  judge_definition_of u declarator d (built w (base_type s) d.layers) items

abbrev pub judge_externals : Whole → List t.External → M (Unit {0})
judge_externals u [] = give tt
judge_externals u (x ∷ xs) = do
  judge_external u x
  judge_externals u xs

-- ---- what the unit has, seen before it is read

abbrev pub name_of : t.Declarator → List ℕ
name_of d = name_or_none (declared_name d)

abbrev pub bodies_in : List t.External → List (List ℕ)
bodies_in [] = []
bodies_in (t.Declares d ∷ xs) = bodies_in xs
bodies_in (t.Definition at ss d body_at items ∷ xs) = name_of d ∷ bodies_in xs

abbrev pub is_extern_specs : t.Specs → Bool
is_extern_specs t.no_specs = false
is_extern_specs (t.Keyword w ss) = is_extern w || is_extern_specs ss
is_extern_specs (t.Typedef n ss) = is_extern_specs ss
is_extern_specs (t.attribute a ss) = is_extern_specs ss
is_extern_specs (t.Record at is_union tag b ss) = is_extern_specs ss
is_extern_specs (t.Enum at tag b ss) = is_extern_specs ss

-- 6.9.2: without `extern`, or with an initialiser
abbrev pub objects_among : Bool → List t.Item → List (List ℕ)
objects_among is_external [] = []
objects_among is_external (item ∷ more) =
    if is_external && not (has_init item.init) then objects_among is_external more
    else name_of item.declarator ∷ objects_among is_external more

abbrev pub objects_in : List t.External → List (List ℕ)
objects_in [] = []
objects_in (t.Declares d ∷ xs) = objects_among (is_extern_specs d.specs) d.items ++ objects_in xs
objects_in (t.Definition at ss d body_at items ∷ xs) = objects_in xs

abbrev pub whole_of : List t.External → Whole
whole_of u = record { bodies = bodies_in u; objects = objects_in u }

-- ---- 35: `main` is a function with a body of type `int (void)`

abbrev pub main : List ℕ
main = codes "main"

abbrev pub nowhere : At
nowhere = record { span = record { start = 0; end = 0 }; id = 0 }

abbrev pub main_among : List t.Item → Option At
main_among [] = None
main_among (item ∷ more) =
    if same_text (name_of item.declarator) main then Some (at_of item.declarator) else main_among more

abbrev pub first_main : List t.External → Option At
first_main [] = None
first_main (t.Declares d ∷ xs) = world.or_else (main_among d.items) (first_main xs)
first_main (t.Definition at ss d body_at items ∷ xs) =
    if same_text (name_of d) main then Some (at_of d) else first_main xs

abbrev pub main_at : Option At → At
main_at None = nowhere
main_at (Some at) = at

abbrev pub is_main_entry : Option Entry → Bool
is_main_entry None = false
is_main_entry (Some e) = is_same e.type (Function (Int k.Int) no_types)

abbrev pub judge_main : (need_main : Bool) → List t.External → M (Unit {0})
judge_main false u = give tt
judge_main true u = do
  w ← world
  keep 35 (main_at (first_main u)) (is_listed main (bodies_in u) && is_main_entry (find_name main w))

-- ---- the trials of a unit of so many nodes, in their order

abbrev pub trials : (need_main : Bool) → ℕ → List t.External → Trials
trials need_main nodes u = both (λ _ w. over w) (start nodes)
  where
    both : M (Unit {0})
    both = do
      judge_externals (whole_of u) u
      judge_main need_main u
