-- A unit with sites declares no name of an entry point, so none becomes a typedef name.
use Rattle.std.proofs.Common.{◌≡◌, ℕ, Bool, true, false, ◌&&◌, ◌||◌, not, List, [], ◌∷◌, Option, Some, None, refl, sym, ap, ◌∙◌, arith}
use Rattle.std.specs.Prelude.{bytes_eq, nat_eq}
use Rattle.std.specs.List.{list_any}
use Rattle.std.proofs.lemmas.Bool.Decides.{nat_tests}
use Rattle.c_tree.specs.Text.{same_text}
use Rattle.c_tree.specs.Tree as u
use Rattle.c_tree.specs.Tree.{Expr, Exprs, MaybeExpr, Specs, Fields, MaybeFields, Declarators, Declarator, MaybeDeclarator, Enumerators, MaybeEnumerators, Params, Init, Inits, MaybeInit, Item, Declaration, First, Stmt, BlockItems, External}
use Rattle.c_tree.specs.Wf.{Env, is_type, has_typedef, declared_name, with_name, after_declarator, after_items, after_declaration, after_first, after_stmt, after_block, after_external}
use Rattle.call_rewriter.specs.Tagged.{Callee, Malloc, Calloc, Realloc, callee_name, is_reserved, Hooks, hook, entry_point, hides, hooks_of}
use Rattle.call_rewriter.specs.Mentions.{Mention, declares_function, declares, enumerates, calls, Place, outside, operand, field, with_declared, with_called, declares_as, name_of, is_function, mentions, exprs_mentions, maybe_mentions, specs_mentions, body_mentions, fields_mentions, declarators_mentions, list_mentions, enumerators_mentions, maybe_declarator_mentions, declarator_mentions, params_mentions, init_mentions, inits_mentions, maybe_init_mentions, items_mentions, declaration_mentions, first_mentions, stmt_mentions, block_mentions, external_mentions, unit_mentions}

-- it declares a name of an entry point, or one like it
abbrev reserves : Mention → Bool
reserves (declares_function n) = is_reserved n
reserves (declares n) = is_reserved n
reserves (enumerates n) = false
reserves (calls n) = false

abbrev pub Quiet : List Mention → Type 0
Quiet ms = list_any reserves ms ≡ false

neither : (a b : Bool) → (a || b) ≡ false → (a ≡ false) × (b ≡ false)
neither false b e = (refl, e)
neither true b e = absurd (cc)

quiet_declared : (n : List ℕ) (f : Bool) (ms : List Mention) → Quiet (declares_as f n ∷ ms) → (is_reserved n ≡ false) × Quiet ms
quiet_declared n true ms q = neither (is_reserved n) (list_any reserves ms) q
quiet_declared n false ms q = neither (is_reserved n) (list_any reserves ms) q

quiet_name : (in_field f : Bool) (n : Option (List ℕ)) (ms : List Mention) → Quiet (with_declared in_field f n ms) → Quiet ms
quiet_name a f None ms q = q
quiet_name true f (Some n) ms q = q
quiet_name false f (Some n) ms q = (quiet_declared n f ms q).1

quiet_called : (in_operand : Bool) (n : Option (List ℕ)) (ms : List Mention) → Quiet (with_called in_operand n ms) → Quiet ms
quiet_called a None ms q = q
quiet_called true (Some n) ms q = q
quiet_called false (Some n) ms q = q

-- ---- what follows a quiet part's mentions is quiet

mutual
  quiet_expr : (p : Place) (a : Expr) (ms : List Mention) → Quiet (mentions p a ms) → Quiet ms
  quiet_expr p (u.Comma a b) ms q = quiet_expr p b ms (quiet_expr p a _ q)
  quiet_expr p (u.Assign a op b) ms q = quiet_expr p b ms (quiet_expr p a _ q)
  quiet_expr p (u.Cond c a b) ms q = quiet_expr p b ms (quiet_expr p a _ (quiet_expr p c _ q))
  quiet_expr p (u.Binary a op b) ms q = quiet_expr p b ms (quiet_expr p a _ q)
  quiet_expr p (u.Cast ss d a) ms q = quiet_expr p a ms (quiet_maybe_declarator p d _ (quiet_specs p ss _ q))
  quiet_expr p (u.Prefix op a) ms q = quiet_expr p a ms q
  quiet_expr p (u.SizeofExpr a) ms q = quiet_expr (operand p) a ms q
  quiet_expr p (u.SizeofType ss d) ms q = quiet_maybe_declarator (operand p) d ms (quiet_specs (operand p) ss _ q)
  quiet_expr p (u.Index a b) ms q = quiet_expr p b ms (quiet_expr p a _ q)
  quiet_expr p (u.Call f xs) ms q = quiet_exprs p xs ms (quiet_expr p f _ (quiet_called p.is_operand (name_of f) _ q))
  quiet_expr p (u.Dot a n) ms q = quiet_expr p a ms q
  quiet_expr p (u.Arrow a n) ms q = quiet_expr p a ms q
  quiet_expr p (u.Post a up) ms q = quiet_expr p a ms q
  quiet_expr p (u.Name n) ms q = q
  quiet_expr p (u.Number n) ms q = q
  quiet_expr p (u.Char n) ms q = q
  quiet_expr p (u.Text ts) ms q = q
  quiet_expr p (u.Paren a) ms q = quiet_expr p a ms q
  quiet_expr p (u.Builtin xs) ms q = quiet_exprs (operand p) xs ms q

  quiet_exprs : (p : Place) (xs : Exprs) (ms : List Mention) → Quiet (exprs_mentions p xs ms) → Quiet ms
  quiet_exprs p u.no_exprs ms q = q
  quiet_exprs p (u.expr a xs) ms q = quiet_exprs p xs ms (quiet_expr p a _ q)

  quiet_maybe : (p : Place) (a : MaybeExpr) (ms : List Mention) → Quiet (maybe_mentions p a ms) → Quiet ms
  quiet_maybe p u.no_expr ms q = q
  quiet_maybe p (u.some_expr a) ms q = quiet_expr p a ms q

  quiet_specs : (p : Place) (ss : Specs) (ms : List Mention) → Quiet (specs_mentions p ss ms) → Quiet ms
  quiet_specs p u.no_specs ms q = q
  quiet_specs p (u.Keyword w ss) ms q = quiet_specs p ss ms q
  quiet_specs p (u.Typedef n ss) ms q = quiet_specs p ss ms q
  quiet_specs p (u.Attribute es ss) ms q = quiet_specs p ss ms q
  quiet_specs p (u.Record is_union n b ss) ms q = quiet_specs p ss ms (quiet_body p b _ q)
  quiet_specs p (u.Enum n b ss) ms q = quiet_specs p ss ms (quiet_list p b _ q)

  quiet_body : (p : Place) (b : MaybeFields) (ms : List Mention) → Quiet (body_mentions p b ms) → Quiet ms
  quiet_body p u.no_body ms q = q
  quiet_body p (u.body fs) ms q = quiet_fields (field p) fs ms q

  quiet_fields : (p : Place) (fs : Fields) (ms : List Mention) → Quiet (fields_mentions p fs ms) → Quiet ms
  quiet_fields p u.no_fields ms q = q
  quiet_fields p (u.Field ss ds fs) ms q = quiet_fields p fs ms (quiet_declarators p ds _ (quiet_specs p ss _ q))

  quiet_declarators : (p : Place) (ds : Declarators) (ms : List Mention) → Quiet (declarators_mentions p ds ms) → Quiet ms
  quiet_declarators p u.no_declarators ms q = q
  quiet_declarators p (u.declarator d ds) ms q = quiet_declarators p ds ms (quiet_declarator p false d _ q)

  quiet_list : (p : Place) (b : MaybeEnumerators) (ms : List Mention) → Quiet (list_mentions p b ms) → Quiet ms
  quiet_list p u.no_list ms q = q
  quiet_list p (u.list es comma) ms q = quiet_enumerators p es ms q

  quiet_enumerators : (p : Place) (es : Enumerators) (ms : List Mention) → Quiet (enumerators_mentions p es ms) → Quiet ms
  quiet_enumerators p u.no_enumerators ms q = q
  quiet_enumerators p (u.Enumerator n v es) ms q = quiet_enumerators p es ms (quiet_maybe p v _ q)

  quiet_maybe_declarator : (p : Place) (d : MaybeDeclarator) (ms : List Mention) → Quiet (maybe_declarator_mentions p d ms) → Quiet ms
  quiet_maybe_declarator p u.no_declarator ms q = q
  quiet_maybe_declarator p (u.some_declarator d) ms q = quiet_declarator p false d ms q

  quiet_declarator : (p : Place) (f : Bool) (d : Declarator) (ms : List Mention) → Quiet (declarator_mentions p f d ms) → Quiet ms
  quiet_declarator p f (u.PointerTo qs d) ms q = quiet_declarator p f d ms q
  quiet_declarator p f (u.Declared n) ms q = quiet_name p.is_field f n ms q
  quiet_declarator p f (u.Group d) ms q = quiet_declarator p f d ms q
  quiet_declarator p f (u.ArrayOf d n) ms q = quiet_maybe p n ms (quiet_declarator p f d _ q)
  quiet_declarator p f (u.FunctionOf d ps) ms q = quiet_params p ps ms (quiet_declarator p f d _ q)

  quiet_params : (p : Place) (ps : Params) (ms : List Mention) → Quiet (params_mentions p ps ms) → Quiet ms
  quiet_params p u.no_params ms q = q
  quiet_params p (u.Param ss d ps) ms q = quiet_params p ps ms (quiet_maybe_declarator p d _ (quiet_specs p ss _ q))

mutual
  quiet_init : (i : Init) (ms : List Mention) → Quiet (init_mentions i ms) → Quiet ms
  quiet_init (u.Plain a) ms q = quiet_expr outside a ms q
  quiet_init (u.Braces is comma) ms q = quiet_inits is ms q

  quiet_inits : (is : Inits) (ms : List Mention) → Quiet (inits_mentions is ms) → Quiet ms
  quiet_inits u.no_inits ms q = q
  quiet_inits (u.init i is) ms q = quiet_inits is ms (quiet_init i _ q)

quiet_maybe_init : (i : MaybeInit) (ms : List Mention) → Quiet (maybe_init_mentions i ms) → Quiet ms
quiet_maybe_init u.no_init ms q = q
quiet_maybe_init (u.some_init i) ms q = quiet_init i ms q

-- ---- no name of an entry point is a typedef name

both : (a b : Bool) → (a && b) ≡ true → (a ≡ true) × (b ≡ true)
both true b e = (refl, e)
both false b e = absurd (cc)

same_true : (xs ys : List ℕ) → same_text xs ys ≡ true → xs ≡ ys
same_true [] [] e = refl
same_true [] (y ∷ ys) e = absurd (cc)
same_true (x ∷ xs) [] e = absurd (cc)
same_true (x ∷ xs) (y ∷ ys) e =
    let s = both (nat_eq x y) (same_text xs ys) e in
    let first : nat_eq x y ≡ true = s.0 in
    let here : x ≡ y = grind (arith, nat_tests) in
    ap (λ z. z ∷ xs) here ∙ ap (λ zs. y ∷ zs) (same_true xs ys s.1)

entry_reserved : (c : Callee) → is_reserved (entry_point c) ≡ true
entry_reserved Malloc = refl
entry_reserved Calloc = refl
entry_reserved Realloc = refl

other_name : (c : Callee) (n : List ℕ) (b : Bool) → same_text (entry_point c) n ≡ b → is_reserved n ≡ false → b ≡ false
other_name c n false e r = refl
other_name c n true e r =
    let same = ap is_reserved (same_true (entry_point c) n e) in
    let first = entry_reserved c in
    absurd (cc)

-- no entry point that has a hook is a typedef name here, nor is one declared there
pub record Free (h : Hooks) (env : Env) (ms : List Mention) : Type 0 where
  pub clear : (c : Callee) → hook h c ≡ true → is_type env (entry_point c) ≡ false
  pub quiet : (c : Callee) → hook h c ≡ true → Quiet ms

-- it stays so behind a part that declares no typedef name
pub past : (h : Hooks) (env : Env) (ms ns : List Mention) → (Quiet ms → Quiet ns) → Free h env ms → Free h env ns
past h env ms ns f free = record { clear = free.clear; quiet = λ c e. f (free.quiet c e) }

pub past_specs : (h : Hooks) (env : Env) (ss : Specs) (ms : List Mention) → Free h env (specs_mentions outside ss ms) → Free h env ms
past_specs h env ss ms = past h env (specs_mentions outside ss ms) ms (quiet_specs outside ss ms)

pub past_expr : (h : Hooks) (env : Env) (a : Expr) (ms : List Mention) → Free h env (mentions outside a ms) → Free h env ms
past_expr h env a ms = past h env (mentions outside a ms) ms (quiet_expr outside a ms)

pub past_maybe : (h : Hooks) (env : Env) (a : MaybeExpr) (ms : List Mention) → Free h env (maybe_mentions outside a ms) → Free h env ms
past_maybe h env a ms = past h env (maybe_mentions outside a ms) ms (quiet_maybe outside a ms)

pub past_init : (h : Hooks) (env : Env) (i : MaybeInit) (ms : List Mention) → Free h env (maybe_init_mentions i ms) → Free h env ms
past_init h env i ms = past h env (maybe_init_mentions i ms) ms (quiet_maybe_init i ms)

-- a declarator declares its name, among others
declared_quiet : (f : Bool) (d : Declarator) (n : List ℕ) (ms : List Mention) → declared_name d ≡ Some n → Quiet (declarator_mentions outside f d ms) → is_reserved n ≡ false
declared_quiet f (u.PointerTo qs d) n ms e q = declared_quiet f d n ms e q
declared_quiet f (u.Declared None) n ms e q = absurd (cc)
declared_quiet f (u.Declared (Some m)) n ms e q =
    let same : m ≡ n = cc in
    sym (ap is_reserved same) ∙ (quiet_declared m f ms q).0
declared_quiet f (u.Group d) n ms e q = declared_quiet f d n ms e q
declared_quiet f (u.ArrayOf d x) n ms e q = declared_quiet f d n (maybe_mentions outside x ms) e q
declared_quiet f (u.FunctionOf d ps) n ms e q = declared_quiet f d n (params_mentions outside ps ms) e q

named_clear : (c : Callee) (is_typedef : Bool) (name : Option (List ℕ)) (env : Env) → ((n : List ℕ) → name ≡ Some n → is_reserved n ≡ false)
    → is_type env (entry_point c) ≡ false → is_type (with_name is_typedef name env) (entry_point c) ≡ false
named_clear c true None env r e = e
named_clear c true (Some n) env r e =
    ap (λ b. b || is_type env (entry_point c)) (other_name c n (same_text (entry_point c) n) refl (r n refl)) ∙ e
named_clear c false None env r e = e
named_clear c false (Some n) env r e = e

pub past_declarator : (h : Hooks) (env : Env) (ss : Specs) (f : Bool) (d : Declarator) (ms : List Mention)
    → Free h env (declarator_mentions outside f d ms) → Free h (after_declarator ss d env) ms
past_declarator h env ss f d ms free = record {
  clear = λ c e. named_clear c (has_typedef ss) (declared_name d) env (λ n g. declared_quiet f d n ms g (free.quiet c e)) (free.clear c e);
  quiet = λ c e. quiet_declarator outside f d ms (free.quiet c e);
}

module _ (h : Hooks) where
  pub past_items : (at_file : Bool) (ss : Specs) (is : List Item) (env : Env) (ms : List Mention) → Free h env (items_mentions at_file is ms) → Free h (after_items ss is env) ms
  past_items at_file ss [] env ms f = f
  past_items at_file ss (i ∷ is) env ms f =
      past_items at_file ss is (after_declarator ss i.declarator env) ms
      (past_init h (after_declarator ss i.declarator env) i.init _ (past_declarator h env ss (at_file && is_function i.declarator) i.declarator _ f))

  pub past_declaration : (at_file : Bool) (d : Declaration) (env : Env) (ms : List Mention) → Free h env (declaration_mentions at_file d ms) → Free h (after_declaration d env) ms
  past_declaration at_file d env ms f = past_items at_file d.specs d.items env ms (past_specs h env d.specs _ f)

  pub past_first : (i : First) (env : Env) (ms : List Mention) → Free h env (first_mentions i ms) → Free h (after_first i env) ms
  past_first (u.FirstDeclaration d) env ms f = past_declaration false d env ms f
  past_first (u.FirstExpr e) env ms f = past_maybe h env e ms f

  mutual
    pub past_stmt : (s : Stmt) (env : Env) (ms : List Mention) → Free h env (stmt_mentions s ms) → Free h (after_stmt s env) ms
    past_stmt (u.Block items) env ms f = past_block items env ms f
    past_stmt (u.ExprStmt e) env ms f = past_maybe h env e ms f
    past_stmt (u.If c s) env ms f = past_stmt s env ms (past_expr h env c _ f)
    past_stmt (u.IfElse c s t) env ms f = past_stmt t (after_stmt s env) ms (past_stmt s env _ (past_expr h env c _ f))
    past_stmt (u.While c s) env ms f = past_stmt s env ms (past_expr h env c _ f)
    past_stmt (u.Do s c) env ms f = past_expr h (after_stmt s env) c ms (past_stmt s env _ f)
    past_stmt (u.For i c e s) env ms f =
        past_stmt s (after_first i env) ms (past_maybe h (after_first i env) e _ (past_maybe h (after_first i env) c _ (past_first i env _ f)))
    past_stmt u.Break env ms f = f
    past_stmt u.Continue env ms f = f
    past_stmt (u.Return e) env ms f = past_maybe h env e ms f

    pub past_block : (is : BlockItems) (env : Env) (ms : List Mention) → Free h env (block_mentions is ms) → Free h (after_block is env) ms
    past_block u.no_items env ms f = f
    past_block (u.declared d is) env ms f = past_block is (after_declaration d env) ms (past_declaration false d env _ f)
    past_block (u.statement s is) env ms f = past_block is (after_stmt s env) ms (past_stmt s env _ f)

  pub past_external : (x : External) (env : Env) (ms : List Mention) → Free h env (external_mentions x ms) → Free h (after_external x env) ms
  past_external (u.Declares d) env ms f = past_declaration true d env ms f
  past_external (u.Definition ss d items) env ms f =
      past_block items (after_declarator ss d env) ms (past_declarator h env ss false d _ (past_specs h env ss _ f))

-- ---- at the unit's beginning

hidden_not : (b : Bool) → not b ≡ true → b ≡ false
hidden_not false e = refl
hidden_not true e = absurd (cc)

unhidden : (c : Callee) (m : Mention) → hides c m ≡ false → reserves m ≡ false
unhidden c (declares_function n) e = e
unhidden c (declares n) e = (neither (is_reserved n) (bytes_eq n (callee_name c)) e).0
unhidden c (enumerates n) e = refl
unhidden c (calls n) e = refl

all_unhidden : (c : Callee) (ms : List Mention) → list_any (hides c) ms ≡ false → Quiet ms
all_unhidden c [] e = refl
all_unhidden c (m ∷ ms) e =
    let p = neither (hides c m) (list_any (hides c) ms) e in
    ap (λ b. b || list_any reserves ms) (unhidden c m p.0) ∙ all_unhidden c ms p.1

hooked_quiet : (ms : List Mention) (c : Callee) → hook (hooks_of ms) c ≡ true → Quiet ms
hooked_quiet ms Malloc e = all_unhidden Malloc ms (hidden_not (list_any (hides Malloc) ms) e)
hooked_quiet ms Calloc e = all_unhidden Calloc ms (hidden_not (list_any (hides Calloc) ms) e)
hooked_quiet ms Realloc e = all_unhidden Realloc ms (hidden_not (list_any (hides Realloc) ms) e)

pub free_first : (u : List External) → Free (hooks_of (unit_mentions u)) [] (unit_mentions u)
free_first u = record { clear = λ c e. refl; quiet = hooked_quiet (unit_mentions u) }
