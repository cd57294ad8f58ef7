-- What holds of a state: the parts that were read are well formed and fit where they stand, and env has the typedef names so far.
use Rattle.std.proofs.Common.{◌≡◌, ℕ, ◌≤◌, Bool, true, false, List, [], ◌∷◌, Option, Some, None, IsSome}
use Rattle.std.specs.List.{AllByRecursion}
use Rattle.c_tree.specs.Text.{IsName, IsNumber, IsChar, IsText}
use Rattle.c_tree.specs.Tree as u
use Rattle.c_tree.specs.Tree.{Specs, Declarator, External, Item, Stmt}
use Rattle.c_tree.specs.Wf.{Env, prec, level, is_qualifier, specified, has_typedef, IsOptName, WfTexts, WfArgument, WfAttribute, declared_name, leading_name, IsDirect, IsSpelled, IsApart, IsFunction, Wf, WfAll, WfMaybe, WfSpecs, WfMoreFields, WfDeclarators, WfMoreEnumerators, WfAbstract, WfDeclarator, WfParams, WfInit, WfMoreInits, after_declarator, after_items, WfItems, is_open, after_first, WfFirst, after_stmt, after_block, WfStmt, WfBlock, after_external, WfUnit}
use Rattle.c_reader.specs.Symbol.{Symbol, name, number, char, text}
use Rattle.c_reader.specs.Parts.{SpecsRead, exprs_of, specs_of, fields_of, declarators_of, enumerators_of, params_of, inits_of, items_of}
use Rattle.c_reader.specs.Inside as i
use Rattle.c_reader.specs.Inside.{InStmt, InBody, in_block, in_then, in_else, in_while, in_do, in_for, of_definition, of_stmt, InDeclaration, of_external, of_block, of_for, InItems, ItemRead, InInit, of_item, in_braces, Condition, of_if, of_while, of_do, Part, plain, returned, condition, for_first, for_condition, for_step, Operand, of_prefix, of_sizeof, of_cast, of_binary, of_assign, of_comma, of_cond, Callee, of_function, Bracket, of_paren, of_index, of_args, of_builtin, of_middle, TypePlace, cast_type, sizeof_type, InExpr, in_operand, in_bracket, in_stmt, in_init, in_value, in_array, InDeclarator, in_pointer, in_group, in_item, in_field, in_param, in_type, InSpecs, of_declaration, of_field, of_param, of_type, InFields, in_fields, InEnum, in_enum, InParams, in_params, InAttribute, of_specs, of_read, AttributeMode, attribute_word, attribute_opened, entries_opened, want_entry, after_entry_name, arguments_opened, want_argument, after_argument, after_entry, attribute_closing, SpecsMode, in_specs, after_tagged, after_tag, want_field, want_enumerator, after_enumerator, want_param, DeclaratorMode, want_declarator, after_star, declarator_opened, array_opened, params_opened, ExprMode, want_expr, after_expr, after_text, opened, after_sizeof, sizeof_opened, args_opened, after_builtin, want_member, Unended, broken, continued, done_while, StmtMode, want_stmt, want_paren, after_for, for_opened, want_condition, want_step, want_semi, after_return, Mode, want_external, in_attribute, specs, declarator, after_attributes, want_init, after_init, expr, stmt}
use Rattle.c_reader.specs.Declarators.{may_be_named, may_be_nameless}
use Rattle.c_reader.specs.Exprs.{place}

-- the texts of a token are those of its kind
abbrev pub Valid : Symbol → Type 0
Valid (name n) = IsName n
Valid (number n) = IsNumber n
Valid (char n) = IsChar n
Valid (text n) = IsText n
Valid _ = Unit {0}

-- ---- statements and declarations

abbrev pub after_unit : List External → Env → Env
after_unit [] env = env
after_unit (x ∷ xs) env = after_unit xs (after_external x env)

-- a unit that was read up to names env
abbrev pub UnitOk : Env → List External → Type 0
UnitOk env done = WfUnit [] done × (env ≡ after_unit done [])

abbrev pub WfHead : Env → Specs → Declarator → Type 0
WfHead env ss d = (ss ≡ u.no_specs → ⊥) × WfSpecs env false ss × IsSome (declared_name d) × IsApart env (specified false ss) (leading_name d) × WfDeclarator env d × IsFunction d

abbrev mutual
  pub InStmtOk : Env → InStmt → Type 0
  InStmtOk env (in_block is b) = (e : Env) × InBodyOk e b × WfBlock e (items_of is) × (env ≡ after_block (items_of is) e)
  InStmtOk env (in_then c k) = Wf env c × InStmtOk env k
  InStmtOk env (in_else c a k) = (e : Env) × InStmtOk e k × Wf e c × WfStmt e a × (is_open a ≡ false) × (env ≡ after_stmt a e)
  InStmtOk env (in_while c k) = Wf env c × InStmtOk env k
  InStmtOk env (in_do k) = InStmtOk env k
  InStmtOk env (in_for f c s k) = (e : Env) × InStmtOk e k × WfFirst e f × WfMaybe env c 1 × WfMaybe env s 1 × (env ≡ after_first f e)

  pub InBodyOk : Env → InBody → Type 0
  InBodyOk env (of_definition done ss d) = (e : Env) × UnitOk e done × WfHead e ss d × (env ≡ after_declarator ss d e)
  InBodyOk env (of_stmt k) = InStmtOk env k

abbrev pub InDeclarationOk : Env → InDeclaration → Type 0
InDeclarationOk env (of_external done) = UnitOk env done
InDeclarationOk env (of_block is b) = InStmtOk env (in_block is b)
InDeclarationOk env (of_for k) = InStmtOk env k

-- a type specifier stands before, or a comma
abbrev pub seen_before : Specs → List Item → Bool
seen_before ss [] = specified false ss
seen_before ss (x ∷ xs) = true

-- e are the names where the declaration begins
pub record InItemsOk (env : Env) (q : InItems) : Type 0 where
  pub e : Env
  pub place_ok : InDeclarationOk e q.place
  pub some : q.specs ≡ u.no_specs → ⊥
  pub specs_ok : WfSpecs e false q.specs
  pub typedef_is : q.typedef ≡ has_typedef q.specs
  pub items_ok : WfItems e q.specs (specified false q.specs) q.items
  pub env_is : env ≡ after_items q.specs q.items e

-- v are the names before the declarator
pub record ReadOk (env : Env) (r : ItemRead) : Type 0 where
  pub v : Env
  pub before_ok : InItemsOk v r.before
  pub named : IsSome (declared_name r.declarator)
  pub apart : IsApart v (seen_before r.before.specs r.before.items) (leading_name r.declarator)
  pub wf : WfDeclarator v r.declarator
  pub attributes_ok : AllByRecursion WfAttribute r.attributes
  pub env_is : env ≡ after_declarator r.before.specs r.declarator v

abbrev pub InInitOk : Env → InInit → Type 0
InInitOk env (of_item r) = ReadOk env r
InInitOk env (in_braces is k) = WfMoreInits env (inits_of is) × InInitOk env k

abbrev pub ConditionOk : Env → Condition → InStmt → Type 0
ConditionOk env of_if k = InStmtOk env k
ConditionOk env of_while k = InStmtOk env k
ConditionOk env (of_do s) k = (e : Env) × InStmtOk e k × WfStmt e s × (env ≡ after_stmt s e)

abbrev pub PartOk : Env → Part → InStmt → Type 0
PartOk env plain k = InStmtOk env k
PartOk env returned k = InStmtOk env k
PartOk env (condition c) k = ConditionOk env c k
PartOk env for_first k = InStmtOk env k
PartOk env (for_condition f) k = (e : Env) × InStmtOk e k × WfFirst e f × (env ≡ after_first f e)
PartOk env (for_step f c) k = (e : Env) × InStmtOk e k × WfFirst e f × WfMaybe env c 1 × (env ≡ after_first f e)

-- ---- expressions, specs and declarators

abbrev pub OperandOk : Env → Operand → Type 0
OperandOk env (of_prefix o) = Unit {0}
OperandOk env of_sizeof = Unit {0}
OperandOk env (of_cast ss d) = (ss ≡ u.no_specs → ⊥) × WfSpecs env false ss × WfAbstract env d
OperandOk env (of_binary l o) = (prec o ≤ level l) × Wf env l
OperandOk env (of_assign l o) = (15 ≤ level l) × Wf env l
OperandOk env (of_comma l) = Wf env l
OperandOk env (of_cond c b) = (4 ≤ level c) × Wf env c × Wf env b

-- the level of what the operator makes
abbrev pub made_level : Operand → ℕ
made_level (of_prefix o) = 15
made_level of_sizeof = 15
made_level (of_cast ss d) = 14
made_level (of_binary l o) = prec o
made_level (of_assign l o) = 2
made_level (of_comma l) = 1
made_level (of_cond c b) = 3

abbrev pub CalleeOk : Env → Callee → Type 0
CalleeOk env (of_function f) = (16 ≤ level f) × Wf env f
CalleeOk env of_builtin = Unit {0}

abbrev pub BracketOk : Env → Bracket → Type 0
BracketOk env of_paren = Unit {0}
BracketOk env (of_index l) = (16 ≤ level l) × Wf env l
BracketOk env (of_args c xs) = CalleeOk env c × WfAll env (exprs_of xs)
BracketOk env (of_middle c) = (4 ≤ level c) × Wf env c

abbrev pub bracket_level : Bracket → ℕ
bracket_level of_paren = 16
bracket_level (of_index l) = 16
bracket_level (of_args c xs) = 16
bracket_level (of_middle c) = 3

abbrev pub type_level : TypePlace → ℕ
type_level cast_type = 14
type_level sizeof_type = 15

pub record SpecsReadOk (env : Env) (s : SpecsRead) : Type 0 where
  pub wf : WfSpecs env false (specs_of s.specs)
  pub seen_is : s.seen ≡ specified false (specs_of s.specs)
  pub typedef_is : s.typedef ≡ has_typedef (specs_of s.specs)

-- the declarator there has this name, or none
abbrev pub NameFits : InDeclarator → Option (List ℕ) → Type 0
NameFits k None = may_be_nameless k ≡ true
NameFits k (Some n) = may_be_named k ≡ true

abbrev pub seen_before_field : Specs → List Declarator → Bool
seen_before_field ss [] = specified false ss
seen_before_field ss (d ∷ ds) = true

-- the declarator there may begin with this name
abbrev pub ApartAt : Env → InDeclarator → Option (List ℕ) → Type 0
ApartAt env (in_pointer qs k) n = Unit {0}
ApartAt env (in_group k) n = IsApart env false n
ApartAt env (in_item q) n = IsApart env (seen_before q.specs q.items) n
ApartAt env (in_field f ss ds) n = IsApart env (seen_before_field ss ds) n
ApartAt env (in_param p ss) n = IsApart env (specified false ss) n
ApartAt env (in_type t k ss) n = Unit {0}

-- declarators that were read, with a comma behind each
abbrev pub DeclaratorsOk : Env → Specs → List Declarator → Type 0
DeclaratorsOk env ss [] = Unit {0}
DeclaratorsOk env ss (d ∷ ds) = WfDeclarators env (specified false ss) (u.declarator d (declarators_of ds))

abbrev mutual
  pub InExprOk : Env → InExpr → Type 0
  InExprOk env (in_operand o k) = OperandOk env o × (place k ≤ made_level o) × InExprOk env k
  InExprOk env (in_bracket b k) = BracketOk env b × (place k ≤ bracket_level b) × InExprOk env k
  InExprOk env (in_stmt p k) = PartOk env p k
  InExprOk env (in_init k) = InInitOk env k
  InExprOk env (in_value n e) = IsName n × InEnumOk env e
  InExprOk env (in_array d k) = IsDirect d × WfDeclarator env d × NameFits k (declared_name d) × ApartAt env k (leading_name d) × InDeclaratorOk env k

  pub InDeclaratorOk : Env → InDeclarator → Type 0
  InDeclaratorOk env (in_pointer qs k) = AllByRecursion (λ w. is_qualifier w ≡ true) qs × InDeclaratorOk env k
  InDeclaratorOk env (in_group k) = InDeclaratorOk env k
  InDeclaratorOk env (in_item q) = InItemsOk env q
  InDeclaratorOk env (in_field f ss ds) = (ss ≡ u.no_specs → ⊥) × WfSpecs env false ss × DeclaratorsOk env ss ds × InFieldsOk env f
  InDeclaratorOk env (in_param p ss) = (ss ≡ u.no_specs → ⊥) × WfSpecs env false ss × InParamsOk env p
  InDeclaratorOk env (in_type t k ss) = (ss ≡ u.no_specs → ⊥) × WfSpecs env false ss × (place k ≤ type_level t) × InExprOk env k

  pub InSpecsOk : Env → InSpecs → Type 0
  InSpecsOk env (of_declaration q) = InDeclarationOk env q
  InSpecsOk env (of_field f) = InFieldsOk env f
  InSpecsOk env (of_param p) = InParamsOk env p
  InSpecsOk env (of_type t k) = (place k ≤ type_level t) × InExprOk env k

  pub InFieldsOk : Env → InFields → Type 0
  InFieldsOk env (in_fields is_union tag fs s k) = IsOptName tag × WfMoreFields env (fields_of fs) × SpecsReadOk env s × InSpecsOk env k

  pub InEnumOk : Env → InEnum → Type 0
  InEnumOk env (in_enum tag es s k) = IsOptName tag × WfMoreEnumerators env (enumerators_of es) × SpecsReadOk env s × InSpecsOk env k

  pub InParamsOk : Env → InParams → Type 0
  InParamsOk env (in_params d ps k) = IsDirect d × WfDeclarator env d × NameFits k (declared_name d) × ApartAt env k (leading_name d) × WfParams env (params_of ps) × InDeclaratorOk env k

-- a direct declarator at whose name that k stands
abbrev pub DirectAt : Env → InDeclarator → Declarator → Type 0
DirectAt env k d = IsDirect d × WfDeclarator env d × NameFits k (declared_name d) × ApartAt env k (leading_name d) × InDeclaratorOk env k

-- ---- modes

abbrev pub InAttributeOk : Env → InAttribute → Type 0
InAttributeOk env (of_specs s k) = SpecsReadOk env s × InSpecsOk env k
InAttributeOk env (of_read r) = ReadOk env r

abbrev pub AttributeModeOk : AttributeMode → Type 0
AttributeModeOk attribute_word = Unit {0}
AttributeModeOk attribute_opened = Unit {0}
AttributeModeOk entries_opened = Unit {0}
AttributeModeOk (want_entry es) = WfAttribute es × (es ≡ [] → ⊥)
AttributeModeOk (after_entry_name es n) = WfAttribute es × IsName n
AttributeModeOk (arguments_opened es n) = WfAttribute es × IsName n
AttributeModeOk (want_argument es n xs) = WfAttribute es × IsName n × AllByRecursion WfArgument xs × (xs ≡ [] → ⊥)
AttributeModeOk (after_argument es n xs x) = WfAttribute es × IsName n × AllByRecursion WfArgument xs × WfArgument x
AttributeModeOk (after_entry es) = WfAttribute es × (es ≡ [] → ⊥)
AttributeModeOk (attribute_closing es) = WfAttribute es

abbrev pub SpecsModeOk : Env → SpecsMode → Type 0
SpecsModeOk env (in_specs s k) = (s.specs ≡ [] → ⊥) × SpecsReadOk env s × InSpecsOk env k
SpecsModeOk env (after_tagged t s k) = SpecsReadOk env s × InSpecsOk env k
SpecsModeOk env (after_tag t n s k) = IsName n × SpecsReadOk env s × InSpecsOk env k
SpecsModeOk env (want_field f) = InFieldsOk env f
SpecsModeOk env (want_enumerator e) = InEnumOk env e
SpecsModeOk env (after_enumerator n e) = IsName n × InEnumOk env e
SpecsModeOk env (want_param p) = InParamsOk env p

abbrev pub DeclaratorModeOk : Env → DeclaratorMode → Type 0
DeclaratorModeOk env (want_declarator k) = ((n : List ℕ) → ApartAt env k (Some n)) × InDeclaratorOk env k
DeclaratorModeOk env (after_star qs k) = AllByRecursion (λ w. is_qualifier w ≡ true) qs × InDeclaratorOk env k
DeclaratorModeOk env (declarator_opened k) = InDeclaratorOk env k
DeclaratorModeOk env (i.after_declarator k d) = IsSpelled d × DirectAt env k d
DeclaratorModeOk env (array_opened d k) = DirectAt env k d
DeclaratorModeOk env (params_opened d k) = DirectAt env k d

abbrev pub ExprModeOk : Env → ExprMode → Type 0
ExprModeOk env (want_expr k) = InExprOk env k
ExprModeOk env (after_expr k a) = (place k ≤ level a) × Wf env a × InExprOk env k
ExprModeOk env (after_text k ns) = WfTexts ns × InExprOk env k
ExprModeOk env (opened k) = InExprOk env k
ExprModeOk env (after_sizeof k) = InExprOk env k
ExprModeOk env (sizeof_opened k) = InExprOk env k
ExprModeOk env (args_opened f k) = (16 ≤ level f) × Wf env f × InExprOk env k
ExprModeOk env (after_builtin k) = InExprOk env k
ExprModeOk env (want_member a m k) = (16 ≤ level a) × Wf env a × InExprOk env k

-- a whole statement that no else can follow
pub record StmtRead (env : Env) (k : InStmt) (s : Stmt) : Type 0 where
  pub e : Env
  pub place_ok : InStmtOk e k
  pub wf : WfStmt e s
  pub env_is : env ≡ after_stmt s e
  pub closed : is_open s ≡ false

abbrev pub UnendedOk : Env → Unended → InStmt → Type 0
UnendedOk env broken k = InStmtOk env k
UnendedOk env continued k = InStmtOk env k
UnendedOk env (done_while s c) k = (e : Env) × InStmtOk e k × WfStmt e s × Wf env c × (env ≡ after_stmt s e)

abbrev pub StmtModeOk : Env → StmtMode → Type 0
StmtModeOk env (want_stmt k) = InStmtOk env k
StmtModeOk env (i.after_stmt k s) = StmtRead env k s
StmtModeOk env (want_paren c k) = ConditionOk env c k
StmtModeOk env (after_for k) = InStmtOk env k
StmtModeOk env (for_opened k) = InStmtOk env k
StmtModeOk env (want_condition f k) = PartOk env (for_condition f) k
StmtModeOk env (want_step f c k) = PartOk env (for_step f c) k
StmtModeOk env (want_semi s k) = UnendedOk env s k
StmtModeOk env (after_return k) = InStmtOk env k

abbrev pub ModeOk : Env → Mode → Type 0
ModeOk env (want_external done) = UnitOk env done
ModeOk env (in_attribute m a) = AttributeModeOk m × InAttributeOk env a
ModeOk env (specs m) = SpecsModeOk env m
ModeOk env (declarator m) = DeclaratorModeOk env m
ModeOk env (after_attributes r) = ReadOk env r
ModeOk env (want_init k) = InInitOk env k
ModeOk env (after_init k x) = WfInit env x × InInitOk env k
ModeOk env (expr m) = ExprModeOk env m
ModeOk env (stmt m) = StmtModeOk env m
