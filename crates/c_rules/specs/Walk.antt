-- What each node is tried for: expressions, specifiers and declarators (ISO/IEC 9899:2018, 6.5, 6.7). A part is tried before the
-- node that holds it, in the order of the text.
use Rattle.std.specs.Prelude.{ℕ, suc, nat_lt, Bool, true, false, ◌&&◌, ◌||◌, not, if◌then◌else◌, List, [], ◌∷◌, ◌++◌, length, map, Option, Some, None, is_none, is_some, unwrap_or, option_and_then, slice_get, slice_set, ℤ, pos, ◌+ℤ◌, ◌==◌}
use Rattle.num_ops.specs.declared.kinds.IntKind.TheVariants as k
use Rattle.num_ops.specs.Kinds.{holds}
use Rattle.c_tree.specs.declared.operator.At.{At}
use Rattle.c_tree.specs.Marked as t
use Rattle.c_types.specs.CTypes.{CType, Int, Enum, Record, is_flexible}
use Rattle.c_types.specs.Layout.{layout_at, record_size}
use Rattle.c_types.specs.Records.{limit, MemberOf, with_declared, with_finished}
use Rattle.c_constants.specs.Integers.{constant_of}
use Rattle.c_rules.specs.Types.{decayed}
use Rattle.c_rules.specs.Typed.{Typed, Constant, varies, undefined, is, value_of}
use Rattle.c_rules.specs.World as world
use Rattle.c_rules.specs.World.{World, Entry, Tag, EnumOf, find_name, find_tag, names_at, with_name, enter, leave, note_type, note_binding, note_object, without_type, is_complete, spelled_name, count_unnamed}
use Rattle.c_rules.specs.Trials.{M, give, ◌>>=◌, ◌>>◌, keep, keep_specifiers, world, change}
use Rattle.c_rules.specs.Specifiers.{Specified, nothing_specified, with_word, with_type, base_type, qualifiers_in, are_specifiers}
use Rattle.c_rules.specs.Declarators.{Layer, pointer, array, unsized, function, Laid, Built, is_made, built, may_be_declared, is_nothing, is_open_struct}
use Rattle.c_rules.specs.Names.{may_be_named, is_tag_of, all_differ}
use Rattle.c_rules.specs.Attributes.{all_known}
use Rattle.c_rules.specs.Bodies.{any_has_body}
use Rattle.c_rules.specs.Forms.{Whole, Given, done, judge_name, judge_number, judge_char, judge_text, judge_paren, judge_step, judge_prefix, judge_sizeof, judge_cast, judge_binary, judge_index, judge_comma, judge_cond, judge_assign, operator_of, judge_call, judge_dot, judge_arrow}
use Rattle.c_rules.specs.declared.known.Binding.TheVariants as to
use Rattle.c_rules.specs.declared.known.Sort.TheVariants as sort
use Rattle.c_rules.specs.declared.known.TagSort.{TagSort}
use Rattle.c_rules.specs.declared.known.TagSort.TheVariants.{Struct, Union, Enumeration}
use Rattle.c_rules.specs.declared.known.Declares.{Declares}
use Rattle.c_rules.specs.declared.known.Declares.TheVariants as decl
use Rattle.c_rules.specs.declared.known.Holder.TheVariants.{FileDeclaration, BlockDeclaration, Definition, Part}

-- where an expression stands: in an integer constant expression or the initialiser of a static object, or elsewhere
abbrev pub Fixed : Type 0
Fixed = Bool

abbrev pub at_of_expr : t.Expr → At
at_of_expr (t.Comma at a b) = at
at_of_expr (t.Assign at a o b) = at
at_of_expr (t.Cond at c a b) = at
at_of_expr (t.Binary at a o b) = at
at_of_expr (t.Cast at n a) = at
at_of_expr (t.Prefix at o a) = at
at_of_expr (t.SizeofExpr at a) = at
at_of_expr (t.SizeofType at n) = at
at_of_expr (t.Index at a b) = at
at_of_expr (t.Call at f xs) = at
at_of_expr (t.Dot at a n) = at
at_of_expr (t.Arrow at a n) = at
at_of_expr (t.Post at a s) = at
at_of_expr (t.Name at n) = at
at_of_expr (t.Number at n) = at
at_of_expr (t.Char at c) = at
at_of_expr (t.Text at ts) = at
at_of_expr (t.Paren at a) = at
at_of_expr (t.Builtin at xs) = at

-- the outermost node of a declarator
abbrev pub at_of : t.Declarator → At
at_of (t.PointerTo at qs d) = at
at_of (t.Declared at n) = at
at_of (t.Group at d) = at
at_of (t.ArrayOf at d n) = at
at_of (t.FunctionOf at d ps) = at

abbrev pub at_of_maybe : At → t.MaybeDeclarator → At
at_of_maybe at t.no_declarator = at
at_of_maybe at (t.some_declarator d) = at_of d

-- 36
abbrev pub judge_builtin : Fixed → At → t.Exprs → M Typed
judge_builtin fixed at xs = do
  x ← done at (value_of (Int k.ULong))
  keep 36 at (not fixed && not (any_has_body xs))
  give x

-- ---- declarators

abbrev pub laid_more : Layer → Laid → Laid
laid_more l d = record d { layers = d.layers ++ l ∷ [] }

-- 4, 5, 6 and 8 at the outermost node of a declarator
abbrev pub judge_built : At → Declares → Built → M (Unit {0})
judge_built at what b = do
  w ← world
  keep 4 at (may_be_declared w what b)
  keep 5 at b.is_sized
  keep 6 at b.is_callable
  keep 8 at b.is_closed

-- the absent name of an abstract declarator has a type too
abbrev pub note_nameless : Laid → CType → World → World
note_nameless d ty w = of_layers d.layers
  where
    of_layers : List Layer → World
    of_layers [] = w
    of_layers (l ∷ ls) = note_type d.name_at.id ty w

abbrev pub judge_type : At → CType → Laid → M CType
judge_type at base d = do
  w ← world
  judge_built at decl.Type (built w base d.layers)
  change (note_nameless d (built w base d.layers).type)
  give (built w base d.layers).type

-- ---- parameters

-- an object or a parameter takes the next number where its name stands, which is before what stands in the parentheses and
-- brackets of its declarator
abbrev pub take_number : Bool → (local : Option ℕ) → M ℕ
take_number takes local =
    λ next w. next (length w.objects) (if takes then record w { objects = w.objects ++ without_type local ∷ [] } else w)

abbrev pub new_object : ℕ → At → List ℕ → CType → (is_fixed : Bool) → World → World
new_object number at n t is_fixed w =
    note_binding at.id (to.Object number) (with_name n (sort.Object number is_fixed) t (note_object number t is_fixed (record w { others = n ∷ w.others })))

-- the name that a declarator declares; an abstract declarator has none
abbrev pub declared_name : t.Declarator → Option (List ℕ)
declared_name (t.Declared at n) = n
declared_name (t.Group at d) = declared_name d
declared_name (t.PointerTo at qs d) = declared_name d
declared_name (t.ArrayOf at d n) = declared_name d
declared_name (t.FunctionOf at d ps) = declared_name d

abbrev pub is_named : t.MaybeDeclarator → Bool
is_named t.no_declarator = false
is_named (t.some_declarator d) = is_some (declared_name d)

abbrev pub newest : World → List ℕ → Option Entry
newest w n = find_name n w

-- a parameter with a name: 2; then 4, 5, 6 and 8; its type is as it is used
abbrev pub used : Built → Built
used b = record b { type = decayed b.type }

abbrev pub judge_named_param : ℕ → At → At → List ℕ → Built → M CType
judge_named_param number at name_at n b = do
  w ← world
  keep 2 at (may_be_named w n (sort.Object 0 false) b.type (is_made b) false)
  judge_built at decl.Object b
  change (note_type name_at.id b.type)
  change (new_object number name_at n b.type false)
  give b.type

abbrev pub judge_nameless_param : At → Laid → Built → M CType
judge_nameless_param at d b = do
  judge_built at decl.Object b
  change (note_nameless d b.type)
  give b.type

abbrev pub judge_param_as : Option (List ℕ) → ℕ → At → Laid → Built → M CType
judge_param_as (Some n) number at d b = judge_named_param number at d.name_at n b
judge_param_as None number at d b = judge_nameless_param at d b

abbrev pub judge_param : ℕ → At → CType → Laid → M CType
judge_param number at base d = do
  w ← world
  judge_param_as d.name number at d (used (built w base d.layers))

-- whether a parameter stands alone without a declarator
abbrev pub is_alone : t.MaybeDeclarator → t.Params → Bool
is_alone t.no_declarator t.no_params = true
is_alone t.no_declarator (t.Param at ss d ps) = false
is_alone (t.some_declarator d) ps = false

-- a single unnamed `void` is no parameter
abbrev pub judge_param_or_void : Bool → ℕ → At → CType → Laid → M (List CType)
judge_param_or_void true number at base d = give []
judge_param_or_void false number at base d = do
  p ← judge_param number at base d
  give (p ∷ [])

-- ---- records

abbrev pub tag_sort : Bool → TagSort
tag_sort true = Union
tag_sort false = Struct

abbrev pub tag_found : World → Option (List ℕ) → Option Tag
tag_found w tag = option_and_then (λ n. find_tag n w.tags) tag

abbrev pub is_enumeration : TagSort → Bool
is_enumeration Struct = false
is_enumeration Union = false
is_enumeration Enumeration = true

-- the struct or union, and the enumeration, that a tag names
abbrev pub record_tag : Option Tag → Option Tag
record_tag None = None
record_tag (Some g) = if is_enumeration g.sort then None else Some g

abbrev pub enum_tag : Option Tag → Option Tag
enum_tag None = None
enum_tag (Some g) = if is_enumeration g.sort then Some g else None

-- the number of the record with a tag, which is made where there is none; a record without a tag is a new one, and so is one
-- whose tag names an enumeration, which breaks 7
abbrev pub new_tag : TagSort → ℕ → (tag : Option (List ℕ)) → World → World
new_tag s number None w = w
new_tag s number (Some n) w = if is_some (find_tag n w.tags) then w else record w { tags = record { name = n; sort = s; number = number } ∷ w.tags }

abbrev pub new_record : Bool → (tag own : Option (List ℕ)) → World → World
new_record is_union tag own w =
    new_tag (tag_sort is_union) (length w.records.heads) tag
    (count_unnamed tag own (record w { records = with_declared is_union (spelled_name w.unnamed tag own) w.records }))

abbrev pub number_or : ℕ → Option Tag → ℕ
number_or new None = new
number_or new (Some g) = g.number

abbrev pub record_number : Bool → (tag own : Option (List ℕ)) → M ℕ
record_number is_union tag own =
    λ next w. next (number_or (length w.records.heads) (record_tag (tag_found w tag))) (if is_some (record_tag (tag_found w tag)) then w else new_record is_union tag own w)

abbrev pub is_unfinished : World → ℕ → Bool
is_unfinished w n = is_none (layout_at w.records.layouts n)

-- 8: an array without a length stands last in a struct, behind another member
abbrev pub ends_well : (is_union : Bool) → (before : ℕ) → List MemberOf → Bool
ends_well is_union before [] = true
ends_well is_union before (m ∷ []) = not (is_flexible m.type) || (not is_union && nat_lt 0 before)
ends_well is_union before (m ∷ n ∷ ms) = not (is_flexible m.type) && ends_well is_union (suc before) (n ∷ ms)

abbrev pub member_types : List MemberOf → List CType
member_types ms = map (λ m. m.type) ms

abbrev pub finish_record : ℕ → List MemberOf → World → World
finish_record n ms w = record w { records = with_finished n ms w.records }

-- 5: the size of the record; 7: one sort, and defined once; 8: its members
abbrev pub judge_record : At → Bool → Option (List ℕ) → ℕ → List MemberOf → M CType
judge_record at is_union tag n ms = do
  w ← world
  keep 5 at (nat_lt (record_size w.records.layouts is_union (member_types ms)) limit)
  keep 7 at (is_tag_of (tag_sort is_union) (tag_found w tag) && is_unfinished w n)
  keep 8 at (all_differ ms && ends_well is_union 0 ms)
  change (finish_record n ms)
  give (Record n)

-- 7: a tag alone
abbrev pub judge_record_tag : At → Bool → Option (List ℕ) → ℕ → M CType
judge_record_tag at is_union tag n = do
  w ← world
  keep 7 at (is_tag_of (tag_sort is_union) (tag_found w tag))
  give (Record n)

-- a member: 4 and 5, 6 for a function that its declarator points to, 8 for a struct that ends without a length
abbrev pub judge_member : At → CType → Laid → M MemberOf
judge_member at base d = do
  w ← world
  judge_built at decl.Member (closed w (built w base d.layers))
  change (note_type d.name_at.id (built w base d.layers).type)
  give (record { name = unwrap_or d.name []; type = (built w base d.layers).type })
  where
    closed : World → Built → Built
    closed w b = record b { is_closed = b.is_closed && not (is_open_struct w b.type) }

-- ---- enumerations

abbrev pub new_enum : (tag own : Option (List ℕ)) → World → World
new_enum tag own w =
    new_tag Enumeration (length w.enums) tag
    (count_unnamed tag own (record w { enums = w.enums ++ record { name = spelled_name w.unnamed tag own; is_defined = false } ∷ [] }))

abbrev pub enum_number : (tag own : Option (List ℕ)) → M ℕ
enum_number tag own =
    λ next w. next (number_or (length w.enums) (enum_tag (tag_found w tag))) (if is_some (enum_tag (tag_found w tag)) then w else new_enum tag own w)

abbrev pub is_open_enum : World → ℕ → Bool
is_open_enum w n = of_slot (slice_get w.enums n)
  where
    of_slot : Option EnumOf → Bool
    of_slot None = false
    of_slot (Some e) = not e.is_defined

abbrev pub finish_enum : ℕ → World → World
finish_enum n w = of_slot (slice_get w.enums n)
  where
    of_slot : Option EnumOf → World
    of_slot None = w
    of_slot (Some e) = record w { enums = slice_set w.enums n (record e { is_defined = true }) }

-- 7, where the enumerators stand in braces, and where the tag stands alone
abbrev pub judge_enum : At → Option (List ℕ) → ℕ → M CType
judge_enum at tag n = do
  w ← world
  keep 7 at (is_tag_of Enumeration (tag_found w tag) && is_open_enum w n)
  change (finish_enum n)
  give (Enum n)

abbrev pub judge_enum_tag : At → Option (List ℕ) → ℕ → M CType
judge_enum_tag at tag n = do
  w ← world
  keep 7 at (is_tag_of Enumeration (tag_found w tag))
  give (Enum n)

-- 8: an integer constant expression in int's range
abbrev pub is_int_constant : Constant → Bool
is_int_constant (is z) = holds k.Int z
is_int_constant varies = false
is_int_constant undefined = false

abbrev pub value_or : ℤ → Constant → ℤ
value_or next (is z) = z
value_or next varies = next
value_or next undefined = next

abbrev pub new_enumerator : List ℕ → ℤ → World → World
new_enumerator n z w = with_name n (sort.Enumerator z) (Int k.Int) (record w { others = n ∷ w.others })

-- 2 and 8; the value of the next enumerator is one more
abbrev pub judge_enumerator : At → List ℕ → ℤ → Constant → M ℤ
judge_enumerator at n next c = do
  w ← world
  keep 2 at (may_be_named w n (sort.Enumerator (value_or next c)) (Int k.Int) true false)
  keep 8 at (is_int_constant c)
  change (new_enumerator n (value_or next c))
  give (value_or next c +ℤ pos 1)

-- ---- attributes: 12 at each number among the arguments, and 9

abbrev pub judge_argument : t.Argument → M (Unit {0})
judge_argument (t.NumberArgument at n) = keep 12 at (is_some (constant_of n))
judge_argument (t.TextArgument at ts) = give tt

abbrev pub judge_arguments : List t.Argument → M (Unit {0})
judge_arguments [] = give tt
judge_arguments (a ∷ more) = do
  judge_argument a
  judge_arguments more

abbrev pub judge_maybe_arguments : Option (List t.Argument) → M (Unit {0})
judge_maybe_arguments None = give tt
judge_maybe_arguments (Some xs) = judge_arguments xs

abbrev pub judge_entries : List t.Entry → M (Unit {0})
judge_entries [] = give tt
judge_entries (e ∷ more) = do
  judge_maybe_arguments e.arguments
  judge_entries more

abbrev pub judge_attribute : t.Attribute → M (Unit {0})
judge_attribute a = do
  judge_entries a.entries
  keep 9 a.at (all_known a.entries)

-- ---- the walk over expressions, specifiers and declarators

abbrev pub with_tagged : CType → Specified → Specified
with_tagged ty s = record (with_type ty s) { has_tag = true }

abbrev pub entry_type : Option Entry → CType
entry_type None = Int k.Int
entry_type (Some e) = e.type

-- the first node that ends behind specifiers: the name of the first declarator, or without one the node that has them
abbrev pub name_node : t.Declarator → ℕ
name_node (t.Declared at n) = at.id
name_node (t.Group at d) = name_node d
name_node (t.PointerTo at qs d) = name_node d
name_node (t.ArrayOf at d n) = name_node d
name_node (t.FunctionOf at d ps) = name_node d

abbrev pub behind_maybe : At → t.MaybeDeclarator → ℕ
behind_maybe at t.no_declarator = at.id
behind_maybe at (t.some_declarator d) = name_node d

abbrev pub behind_field : At → t.Declarators → ℕ
behind_field at t.no_declarators = at.id
behind_field at (t.declarator d ds) = name_node d

-- 3: a field, a parameter or a type name
abbrev pub judge_part : (before : ℕ) → At → Specified → M CType
judge_part before at s = do
  keep_specifiers before at (are_specifiers Part s true false)
  give (base_type s)

abbrev mutual
  pub judge : Whole → Fixed → t.Expr → M Typed
  judge u fixed (t.Comma at a b) = do
    _ ← judge u fixed a
    y ← judge u fixed b
    judge_comma at y
  judge u fixed (t.Assign at a o b) = do
    x ← judge u fixed a
    y ← judge u fixed b
    judge_assign at (operator_of o) x (at_of_expr b) y
  judge u fixed (t.Cond at c a b) = do
    z ← judge u fixed c
    x ← judge u fixed a
    y ← judge u fixed b
    judge_cond at z x y
  judge u fixed (t.Binary at a o b) = do
    x ← judge u fixed a
    y ← judge u fixed b
    judge_binary at o x y
  judge u fixed (t.Cast at n a) = do
    ty ← judge_name_of_type u fixed n
    x ← judge u fixed a
    judge_cast at ty x
  judge u fixed (t.Prefix at o a) = do
    x ← judge u fixed a
    judge_prefix at o x
  judge u fixed (t.SizeofExpr at a) = do
    x ← judge u fixed a
    judge_sizeof at x.type
  judge u fixed (t.SizeofType at n) = do
    ty ← judge_name_of_type u fixed n
    judge_sizeof at ty
  judge u fixed (t.Index at a b) = do
    x ← judge u fixed a
    y ← judge u fixed b
    judge_index at x y
  judge u fixed (t.Call at f es) = do
    g ← judge u fixed f
    xs ← judge_all u fixed es
    judge_call at g xs
  judge u fixed (t.Dot at a n) = do
    x ← judge u fixed a
    judge_dot at x n
  judge u fixed (t.Arrow at a n) = do
    x ← judge u fixed a
    judge_arrow at x n
  judge u fixed (t.Post at a s) = do
    x ← judge u fixed a
    judge_step at x
  judge u fixed (t.Name at n) = judge_name u at n
  judge u fixed (t.Number at n) = judge_number at n
  judge u fixed (t.Char at c) = judge_char at c
  judge u fixed (t.Text at ts) = judge_text at ts
  judge u fixed (t.Paren at a) = do
    x ← judge u fixed a
    judge_paren at x
  judge u fixed (t.Builtin at es) = do
    _ ← judge_all u fixed es
    judge_builtin fixed at es

  pub judge_all : Whole → Fixed → t.Exprs → M (List Given)
  judge_all u fixed t.no_exprs = give []
  judge_all u fixed (t.expr e es) = do
    x ← judge u fixed e
    xs ← judge_all u fixed es
    give (record { at = at_of_expr e; typed = x } ∷ xs)

  pub judge_name_of_type : Whole → Fixed → t.TypeName → M CType
  judge_name_of_type u fixed (t.type_name at ss d) = do
    s ← judge_specs u fixed None ss nothing_specified
    base ← judge_part (behind_maybe at d) at s
    l ← judge_maybe u fixed at d
    ty ← judge_type (at_of_maybe at d) base l
    change (note_type at.id ty)
    give ty

  pub judge_specs : Whole → Fixed → (own : Option (List ℕ)) → t.Specs → Specified → M Specified
  judge_specs u fixed own t.no_specs s = give s
  judge_specs u fixed own (t.Keyword w ss) s = judge_specs u fixed own ss (with_word w s)
  judge_specs u fixed own (t.Typedef n ss) s = do
    w ← world
    judge_specs u fixed own ss (with_type (entry_type (find_name n w)) s)
  judge_specs u fixed own (t.attribute a ss) s = do
    judge_attribute a
    judge_specs u fixed own ss s
  judge_specs u fixed own (t.Record at is_union tag b ss) s = do
    n ← record_number is_union tag own
    ty ← judge_fields_of u fixed at is_union tag n b
    judge_specs u fixed own ss (with_tagged ty s)
  judge_specs u fixed own (t.Enum at tag b ss) s = do
    n ← enum_number tag own
    ty ← judge_list u fixed at tag n b
    judge_specs u fixed own ss (with_tagged ty s)

  pub judge_fields_of : Whole → Fixed → At → Bool → Option (List ℕ) → ℕ → t.MaybeFields → M CType
  judge_fields_of u fixed at is_union tag n t.no_body = judge_record_tag at is_union tag n
  judge_fields_of u fixed at is_union tag n (t.body fs) = do
    ms ← judge_fields u fixed fs
    judge_record at is_union tag n ms

  pub judge_fields : Whole → Fixed → t.Fields → M (List MemberOf)
  judge_fields u fixed t.no_fields = give []
  judge_fields u fixed (t.Field at ss ds fs) = do
    s ← judge_specs u fixed None ss nothing_specified
    base ← judge_part (behind_field at ds) at s
    ms ← judge_members u fixed base ds
    ns ← judge_fields u fixed fs
    give (ms ++ ns)

  pub judge_members : Whole → Fixed → CType → t.Declarators → M (List MemberOf)
  judge_members u fixed base t.no_declarators = give []
  judge_members u fixed base (t.declarator d ds) = do
    l ← judge_layers u fixed d
    m ← judge_member (at_of d) base l
    ms ← judge_members u fixed base ds
    give (m ∷ ms)

  pub judge_list : Whole → Fixed → At → Option (List ℕ) → ℕ → t.MaybeEnumerators → M CType
  judge_list u fixed at tag n t.no_list = judge_enum_tag at tag n
  judge_list u fixed at tag n (t.list es c) = do
    judge_enumerators u (pos 0) es
    judge_enum at tag n

  pub judge_enumerators : Whole → ℤ → t.Enumerators → M (Unit {0})
  judge_enumerators u next t.no_enumerators = give tt
  judge_enumerators u next (t.Enumerator at n v es) = do
    c ← judge_value u next v
    later ← judge_enumerator at n next c
    judge_enumerators u later es

  pub judge_value : Whole → ℤ → t.MaybeExpr → M Constant
  judge_value u next t.no_expr = give (is next)
  judge_value u next (t.some_expr e) = do
    x ← judge u true e
    give x.value

  pub judge_maybe : Whole → Fixed → At → t.MaybeDeclarator → M Laid
  judge_maybe u fixed at t.no_declarator = give (record { name = None; name_at = at; layers = [] })
  judge_maybe u fixed at (t.some_declarator d) = judge_layers u fixed d

  pub judge_layers : Whole → Fixed → t.Declarator → M Laid
  judge_layers u fixed (t.Declared at n) = give (record { name = n; name_at = at; layers = [] })
  judge_layers u fixed (t.Group at d) = judge_layers u fixed d
  judge_layers u fixed (t.PointerTo at qs d) = do
    l ← judge_layers u fixed d
    give (laid_more (pointer (qualifiers_in qs)) l)
  judge_layers u fixed (t.ArrayOf at d t.no_expr) = do
    l ← judge_layers u fixed d
    give (laid_more unsized l)
  judge_layers u fixed (t.ArrayOf at d (t.some_expr e)) = do
    l ← judge_layers u fixed d
    x ← judge u true e
    give (laid_more (array x.value) l)
  judge_layers u fixed (t.FunctionOf at d ps) = do
    l ← judge_layers u fixed d
    change enter
    qs ← judge_params u fixed 0 ps
    w ← world
    change leave
    give (laid_more (function qs (names_at w.depth w.names)) l)

  pub judge_params : Whole → Fixed → (place : ℕ) → t.Params → M (List CType)
  judge_params u fixed place t.no_params = give []
  judge_params u fixed place (t.Param at ss d ps) = do
    s ← judge_specs u fixed None ss nothing_specified
    base ← judge_part (behind_maybe at d) at s
    number ← take_number (is_named d) (Some place)
    l ← judge_maybe u fixed at d
    qs ← judge_param_or_void (place == 0 && is_alone d ps && is_nothing base) number (at_of_maybe at d) base l
    rs ← judge_params u fixed (suc place) ps
    give (qs ++ rs)
