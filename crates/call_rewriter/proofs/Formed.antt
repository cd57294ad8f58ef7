-- Tagging keeps a unit well formed.
use Rattle.std.proofs.Common.{◌≡◌, ℕ, suc, ◌+◌, ◌%◌, ◌<◌, ◌≤◌, Bool, true, false, ◌&&◌, ◌||◌, List, [], ◌∷◌, ◌++◌, map, filter, Option, Some, None, refl, sym, ap, subst, ◌∙◌, arith}
use Rattle.std.specs.Prelude.{codes, decimal, IsSome, IsNone, if◌then◌else◌}
use Rattle.std.proofs.Math.Nat.{mod-lt}
use Rattle.c_lexer.proofs.Fronts.{front_passes}
use Rattle.c_lexer.proofs.Decimals.{decimal_token}
use Rattle.c_lexer.specs.Bytes.{is_name_byte}
use Rattle.c_lexer.specs.Name.{words}
use Rattle.c_tree.specs.Text.{IsName, IsNumber}
use Rattle.c_tree.specs.Tree as u
use Rattle.c_tree.specs.Tree.{Expr, Exprs, MaybeExpr, Specs, Fields, MaybeFields, Declarators, Declarator, MaybeDeclarator, Enumerators, MaybeEnumerators, Params, Init, Inits, MaybeInit, Item, Declaration, First, Stmt, BlockItems, External}
use Rattle.c_tree.specs.Wf.{Env, is_type, prec, level, operand_level, is_specifier, specified, has_typedef, IsApart, Wf, WfAll, WfSome, WfMaybe, WfSpecs, WfBody, WfFields, WfMoreFields, WfDeclarators, WfMoreDeclarators, WfList, WfEnumerators, WfMoreEnumerators, WfAbstract, WfEither, WfDeclarator, WfParams, WfInit, WfInits, WfMoreInits, WfMaybeInit, WfItems, WfDeclaration, WfFirst, WfStmt, WfBlock, WfExternal, WfUnit, after_declarator, after_declaration, after_first, after_stmt, after_external}
use Rattle.call_rewriter.specs.Tagged.{Callee, Malloc, Calloc, Realloc, Hooks, hook, callee_of, only_hooked, entry_point, with_last, prototype, size_then, address_then, entry_params, Tagging, no_hooks, hooks_of, is_used, site_in, tagged, entered, tag_call, tag, tag_exprs, tag_maybe, tag_specs, tag_body, tag_fields, tag_declarators, tag_list, tag_enumerators, tag_maybe_declarator, tag_declarator, tag_params, tag_init, tag_inits, tag_maybe_init, tag_item, tag_items, tag_declaration, tag_first, tag_stmt, tag_block, tag_external, tag_externals}
use Rattle.call_rewriter.specs.Mentions.{Mention, items_mentions, declaration_mentions, first_mentions, stmt_mentions, block_mentions, external_mentions, unit_mentions, is_function}
use Rattle.c_tree.proofs.Valid.{text_lexes}
use Rattle.call_rewriter.specs.Laws.{ReadsAgain}
use Rattle.call_rewriter.proofs.Shapes.{level_kept, some_kept, specified_kept, declared_kept, leading_kept, direct_kept, spelled_kept, function_kept, open_kept, typedef_kept, declarator_env, declaration_env, first_env, stmt_env, external_env}
use Rattle.call_rewriter.proofs.Quiet.{Free, past_specs, past_expr, past_maybe, past_init, past_declarator, past_declaration, past_first, past_stmt, past_external, free_first}

-- ---- sites

entry_is_name : (c : Callee) → IsName (entry_point c)
unfolding words
entry_is_name Malloc = ((refl, front_passes is_name_byte (codes "_alloc_token_malloc")), refl)
entry_is_name Calloc = ((refl, front_passes is_name_byte (codes "_alloc_token_calloc")), refl)
entry_is_name Realloc = ((refl, front_passes is_name_byte (codes "_alloc_token_realloc")), refl)

-- no entry point that has a hook is a typedef name
abbrev Clear : Env → Hooks → Type 0
Clear env h = (c : Callee) → hook h c ≡ true → is_type env (entry_point c) ≡ false

clear_none : (env : Env) → Clear env no_hooks
clear_none env Malloc e = absurd (cc)
clear_none env Calloc e = absurd (cc)
clear_none env Realloc e = absurd (cc)

chosen : (b : Bool) (d c : Callee) → (if b then Some d else None) ≡ Some c → (b ≡ true) × (d ≡ c)
chosen true d c e = (refl, cc)
chosen false d c e = absurd (cc)

hooked_only : (h : Hooks) (s : Option Callee) (c : Callee) → only_hooked h s ≡ Some c → hook h c ≡ true
hooked_only h None c e = absurd (cc)
hooked_only h (Some d) c e = let p = chosen (hook h d) d c e in sym (ap (hook h) p.1) ∙ p.0

hooked : (h : Hooks) (f : Expr) (c : Callee) → site_in h f ≡ Some c → hook h c ≡ true
hooked h (u.Name n) c e = hooked_only h (callee_of n) c e
hooked h (u.Comma a b) c e = absurd (cc)
hooked h (u.Assign a op b) c e = absurd (cc)
hooked h (u.Cond x a b) c e = absurd (cc)
hooked h (u.Binary a op b) c e = absurd (cc)
hooked h (u.Cast ss d a) c e = absurd (cc)
hooked h (u.Prefix op a) c e = absurd (cc)
hooked h (u.SizeofExpr a) c e = absurd (cc)
hooked h (u.SizeofType ss d) c e = absurd (cc)
hooked h (u.Index a b) c e = absurd (cc)
hooked h (u.Call f xs) c e = absurd (cc)
hooked h (u.Dot a n) c e = absurd (cc)
hooked h (u.Arrow a n) c e = absurd (cc)
hooked h (u.Post a up) c e = absurd (cc)
hooked h (u.Number n) c e = absurd (cc)
hooked h (u.Char n) c e = absurd (cc)
hooked h (u.Text ts) c e = absurd (cc)
hooked h (u.Paren a) c e = hooked h a c e
hooked h (u.Builtin xs) c e = absurd (cc)

with_last_formed : (env : Env) (xs : Exprs) (n : List ℕ) → WfAll env xs → IsNumber n → WfAll env (with_last xs (u.Number n))
with_last_formed env u.no_exprs n w i = (omega arith, i, tt)
with_last_formed env (u.expr a xs) n w i = (w.0, w.1, with_last_formed env xs n w.2 i)

-- a token's spelling is a constant
abbrev Numbers : ℕ → Type 0
Numbers m = (k : ℕ) → IsNumber (decimal (k % m) ++ codes "UL")

entered_formed : (env : Env) (h : Hooks) → Clear env h → (f : Expr) (c : Callee) → site_in h f ≡ Some c → (16 ≤ level (entered c f)) × Wf env (entered c f)
entered_formed env h cl (u.Name n) c e = (omega arith, (entry_is_name c, cl c (hooked h (u.Name n) c e)))
entered_formed env h cl (u.Paren a) c e = (omega arith, (entered_formed env h cl a c e).1)
entered_formed env h cl (u.Comma a b) c e = absurd (cc)
entered_formed env h cl (u.Assign a op b) c e = absurd (cc)
entered_formed env h cl (u.Cond x a b) c e = absurd (cc)
entered_formed env h cl (u.Binary a op b) c e = absurd (cc)
entered_formed env h cl (u.Cast ss d a) c e = absurd (cc)
entered_formed env h cl (u.Prefix op a) c e = absurd (cc)
entered_formed env h cl (u.SizeofExpr a) c e = absurd (cc)
entered_formed env h cl (u.SizeofType ss d) c e = absurd (cc)
entered_formed env h cl (u.Index a b) c e = absurd (cc)
entered_formed env h cl (u.Call f xs) c e = absurd (cc)
entered_formed env h cl (u.Dot a n) c e = absurd (cc)
entered_formed env h cl (u.Arrow a n) c e = absurd (cc)
entered_formed env h cl (u.Post a up) c e = absurd (cc)
entered_formed env h cl (u.Number n) c e = absurd (cc)
entered_formed env h cl (u.Char n) c e = absurd (cc)
entered_formed env h cl (u.Text ts) c e = absurd (cc)
entered_formed env h cl (u.Builtin xs) c e = absurd (cc)

call_formed : (m : ℕ) → Numbers m → (env : Env) (s : Option Callee) (f : Expr) (g : Tagging Expr) (ys : Tagging Exprs) (k : ℕ)
    → ((c : Callee) → s ≡ Some c → (16 ≤ level (entered c f)) × Wf env (entered c f)) → ((n : ℕ) → (16 ≤ level (g n).tree) × Wf env (g n).tree)
    → ((n : ℕ) → WfAll env (ys n).tree) → Wf env (tag_call m s f g ys k).tree
call_formed m num env None f g ys k fw gw yw = let p = gw k in (p.0, p.1, yw (g k).next)
call_formed m num env (Some c) f g ys k fw gw yw =
    let p = fw c refl in
    (p.0, p.1, with_last_formed env (ys (k + 1)).tree (decimal (k % m) ++ codes "UL") (yw (k + 1)) (num k))

apart_to : (env : Env) (a b : Bool) (x y : Option (List ℕ)) → a ≡ b → x ≡ y → IsApart env a x → IsApart env b y
apart_to env a b x y e f i = subst (λ z. IsApart env b z) f (subst (λ s. IsApart env s x) e i)

-- ---- expressions, specs and declarators

module _ (m : ℕ) (num : Numbers m) (env : Env) where
  least : (h : Hooks) (n : ℕ) (a : Expr) (k : ℕ) → n ≤ level a → n ≤ level (tag m h a k).tree
  least h n a k i = let e = level_kept m h a k in omega (arith, e, i)

  mutual
    pub expr_formed : (h : Hooks) → Clear env h → (a : Expr) → Wf env a → (k : ℕ) → Wf env (tag m h a k).tree
    expr_formed h cl (u.Comma a b) w k = (expr_formed h cl a w.0 k, least h 2 b _ w.1, expr_formed h cl b w.2 _)
    expr_formed h cl (u.Assign a op b) w k = (least h 15 a k w.0, expr_formed h cl a w.1 k, least h 2 b _ w.2, expr_formed h cl b w.3 _)
    expr_formed h cl (u.Cond c a b) w k =
        (least h 4 c k w.0, expr_formed h cl c w.1 k, expr_formed h cl a w.2 _, least h 3 b _ w.3, expr_formed h cl b w.4 _)
    expr_formed h cl (u.Binary a op b) w k =
        (least h (prec op) a k w.0, expr_formed h cl a w.1 k, least h (suc (prec op)) b _ w.2, expr_formed h cl b w.3 _)
    expr_formed h cl (u.Cast ss d a) w k =
        (some_kept m h ss k w.0, specs_formed h cl false ss w.1 k, abstract_formed h cl d w.2 _, least h 14 a _ w.3, expr_formed h cl a w.4 _)
    expr_formed h cl (u.Prefix op a) w k = (least h (operand_level op) a k w.0, expr_formed h cl a w.1 k)
    expr_formed h cl (u.SizeofExpr a) w k = (least no_hooks 15 a k w.0, expr_formed no_hooks (clear_none env) a w.1 k)
    expr_formed h cl (u.SizeofType ss d) w k =
        (some_kept m no_hooks ss k w.0, specs_formed no_hooks (clear_none env) false ss w.1 k, abstract_formed no_hooks (clear_none env) d w.2 _)
    expr_formed h cl (u.Index a b) w k = (least h 16 a k w.0, expr_formed h cl a w.1 k, expr_formed h cl b w.2 _)
    expr_formed h cl (u.Call f xs) w k =
        call_formed m num env (site_in h f) f (tag m h f) (tag_exprs m h xs) k (entered_formed env h cl f) (λ n. (least h 16 f n w.0, expr_formed h cl f w.1 n))
        (λ n. exprs_formed h cl xs w.2 n)
    expr_formed h cl (u.Dot a n) w k = (least h 16 a k w.0, expr_formed h cl a w.1 k, w.2)
    expr_formed h cl (u.Arrow a n) w k = (least h 16 a k w.0, expr_formed h cl a w.1 k, w.2)
    expr_formed h cl (u.Post a up) w k = (least h 16 a k w.0, expr_formed h cl a w.1 k)
    expr_formed h cl (u.Name n) w k = w
    expr_formed h cl (u.Number n) w k = w
    expr_formed h cl (u.Char n) w k = w
    expr_formed h cl (u.Text ts) w k = w
    expr_formed h cl (u.Paren a) w k = expr_formed h cl a w k
    expr_formed h cl (u.Builtin xs) w k = some_formed no_hooks (clear_none env) xs w k

    exprs_formed : (h : Hooks) → Clear env h → (xs : Exprs) → WfAll env xs → (k : ℕ) → WfAll env (tag_exprs m h xs k).tree
    exprs_formed h cl u.no_exprs w k = w
    exprs_formed h cl (u.expr a xs) w k = (least h 2 a k w.0, expr_formed h cl a w.1 k, exprs_formed h cl xs w.2 _)

    some_formed : (h : Hooks) → Clear env h → (xs : Exprs) → WfSome env xs → (k : ℕ) → WfSome env (tag_exprs m h xs k).tree
    some_formed h cl u.no_exprs w k = w
    some_formed h cl (u.expr a xs) w k = (least h 2 a k w.0, expr_formed h cl a w.1 k, exprs_formed h cl xs w.2 _)

    pub maybe_formed : (h : Hooks) → Clear env h → (a : MaybeExpr) (n : ℕ) → WfMaybe env a n → (k : ℕ) → WfMaybe env (tag_maybe m h a k).tree n
    maybe_formed h cl u.no_expr n w k = w
    maybe_formed h cl (u.some_expr a) n w k = (least h n a k w.0, expr_formed h cl a w.1 k)

    pub specs_formed : (h : Hooks) → Clear env h → (seen : Bool) (ss : Specs) → WfSpecs env seen ss → (k : ℕ) → WfSpecs env seen (tag_specs m h ss k).tree
    specs_formed h cl seen u.no_specs w k = w
    specs_formed h cl seen (u.Keyword x ss) w k = (w.0, specs_formed h cl (seen || is_specifier x) ss w.1 k)
    specs_formed h cl seen (u.Typedef n ss) w k = (w.0, w.1, w.2, specs_formed h cl true ss w.3 k)
    specs_formed h cl seen (u.Attribute es ss) w k = (w.0, specs_formed h cl seen ss w.1 k)
    specs_formed h cl seen (u.Record is_union n b ss) w k = (w.0, body_formed h cl n b w.1 k, specs_formed h cl true ss w.2 _)
    specs_formed h cl seen (u.Enum n b ss) w k = (w.0, list_formed h cl n b w.1 k, specs_formed h cl true ss w.2 _)

    body_formed : (h : Hooks) → Clear env h → (n : Option (List ℕ)) (b : MaybeFields) → WfBody env (n ≡ None) b → (k : ℕ) → WfBody env (n ≡ None) (tag_body m h b k).tree
    body_formed h cl n u.no_body w k = w
    body_formed h cl n (u.body fs) w k = fields_formed h cl fs w k

    fields_formed : (h : Hooks) → Clear env h → (fs : Fields) → WfFields env fs → (k : ℕ) → WfFields env (tag_fields m h fs k).tree
    fields_formed h cl u.no_fields w k = w
    fields_formed h cl (u.Field ss ds fs) w k = (
      some_kept m h ss k w.0,
      specs_formed h cl false ss w.1 k,
      declarators_formed h cl (specified false ss) (specified false (tag_specs m h ss k).tree) (specified_kept m h ss false k) ds w.2 _,
      more_fields_formed h cl fs w.3 _,
    )

    more_fields_formed : (h : Hooks) → Clear env h → (fs : Fields) → WfMoreFields env fs → (k : ℕ) → WfMoreFields env (tag_fields m h fs k).tree
    more_fields_formed h cl u.no_fields w k = w
    more_fields_formed h cl (u.Field ss ds fs) w k = (
      some_kept m h ss k w.0,
      specs_formed h cl false ss w.1 k,
      declarators_formed h cl (specified false ss) (specified false (tag_specs m h ss k).tree) (specified_kept m h ss false k) ds w.2 _,
      more_fields_formed h cl fs w.3 _,
    )

    declarators_formed : (h : Hooks) → Clear env h → (seen now : Bool) → now ≡ seen → (ds : Declarators) → WfDeclarators env seen ds → (k : ℕ)
        → WfDeclarators env now (tag_declarators m h ds k).tree
    declarators_formed h cl seen now e u.no_declarators w k = w
    declarators_formed h cl seen now e (u.declarator d ds) w k = (
      subst IsSome (sym (declared_kept m h d k)) w.0,
      apart_to env seen now _ _ (sym e) (sym (leading_kept m h d k)) w.1,
      declarator_formed h cl d w.2 k,
      more_declarators_formed h cl ds w.3 _,
    )

    more_declarators_formed : (h : Hooks) → Clear env h → (ds : Declarators) → WfMoreDeclarators env ds → (k : ℕ) → WfMoreDeclarators env (tag_declarators m h ds k).tree
    more_declarators_formed h cl u.no_declarators w k = w
    more_declarators_formed h cl (u.declarator d ds) w k =
        (subst IsSome (sym (declared_kept m h d k)) w.0, declarator_formed h cl d w.1 k, more_declarators_formed h cl ds w.2 _)

    list_formed : (h : Hooks) → Clear env h → (n : Option (List ℕ)) (b : MaybeEnumerators) → WfList env (n ≡ None) b → (k : ℕ) → WfList env (n ≡ None) (tag_list m h b k).tree
    list_formed h cl n u.no_list w k = w
    list_formed h cl n (u.list es comma) w k = enumerators_formed h cl es w k

    enumerators_formed : (h : Hooks) → Clear env h → (es : Enumerators) → WfEnumerators env es → (k : ℕ) → WfEnumerators env (tag_enumerators m h es k).tree
    enumerators_formed h cl u.no_enumerators w k = w
    enumerators_formed h cl (u.Enumerator n v es) w k = (w.0, maybe_formed h cl v 3 w.1 k, more_enumerators_formed h cl es w.2 _)

    more_enumerators_formed : (h : Hooks) → Clear env h → (es : Enumerators) → WfMoreEnumerators env es → (k : ℕ) → WfMoreEnumerators env (tag_enumerators m h es k).tree
    more_enumerators_formed h cl u.no_enumerators w k = w
    more_enumerators_formed h cl (u.Enumerator n v es) w k = (w.0, maybe_formed h cl v 3 w.1 k, more_enumerators_formed h cl es w.2 _)

    abstract_formed : (h : Hooks) → Clear env h → (d : MaybeDeclarator) → WfAbstract env d → (k : ℕ) → WfAbstract env (tag_maybe_declarator m h d k).tree
    abstract_formed h cl u.no_declarator w k = w
    abstract_formed h cl (u.some_declarator d) w k =
        (subst IsNone (sym (declared_kept m h d k)) w.0, spelled_kept m h d k w.1, declarator_formed h cl d w.2 k)

    either_formed : (h : Hooks) → Clear env h → (seen now : Bool) → now ≡ seen → (d : MaybeDeclarator) → WfEither env seen d → (k : ℕ)
        → WfEither env now (tag_maybe_declarator m h d k).tree
    either_formed h cl seen now e u.no_declarator w k = w
    either_formed h cl seen now e (u.some_declarator d) w k =
        (spelled_kept m h d k w.0, apart_to env seen now _ _ (sym e) (sym (leading_kept m h d k)) w.1, declarator_formed h cl d w.2 k)

    pub declarator_formed : (h : Hooks) → Clear env h → (d : Declarator) → WfDeclarator env d → (k : ℕ) → WfDeclarator env (tag_declarator m h d k).tree
    declarator_formed h cl (u.PointerTo qs d) w k = (w.0, declarator_formed h cl d w.1 k)
    declarator_formed h cl (u.Declared n) w k = w
    declarator_formed h cl (u.Group d) w k =
        (spelled_kept m h d k w.0, apart_to env false false _ _ refl (sym (leading_kept m h d k)) w.1, declarator_formed h cl d w.2 k)
    declarator_formed h cl (u.ArrayOf d n) w k = (direct_kept m h d k w.0, declarator_formed h cl d w.1 k, maybe_formed h cl n 3 w.2 _)
    declarator_formed h cl (u.FunctionOf d ps) w k = (direct_kept m h d k w.0, declarator_formed h cl d w.1 k, params_formed h cl ps w.2 _)

    params_formed : (h : Hooks) → Clear env h → (ps : Params) → WfParams env ps → (k : ℕ) → WfParams env (tag_params m h ps k).tree
    params_formed h cl u.no_params w k = w
    params_formed h cl (u.Param ss d ps) w k = (
      some_kept m h ss k w.0,
      specs_formed h cl false ss w.1 k,
      either_formed h cl (specified false ss) (specified false (tag_specs m h ss k).tree) (specified_kept m h ss false k) d w.2 _,
      params_formed h cl ps w.3 _,
    )

  mutual
    init_formed : (h : Hooks) → Clear env h → (i : Init) → WfInit env i → (k : ℕ) → WfInit env (tag_init m h i k).tree
    init_formed h cl (u.Plain a) w k = (least h 2 a k w.0, expr_formed h cl a w.1 k)
    init_formed h cl (u.Braces is comma) w k = inits_formed h cl is w k

    inits_formed : (h : Hooks) → Clear env h → (is : Inits) → WfInits env is → (k : ℕ) → WfInits env (tag_inits m h is k).tree
    inits_formed h cl u.no_inits w k = w
    inits_formed h cl (u.init i is) w k = (init_formed h cl i w.0 k, more_inits_formed h cl is w.1 _)

    more_inits_formed : (h : Hooks) → Clear env h → (is : Inits) → WfMoreInits env is → (k : ℕ) → WfMoreInits env (tag_inits m h is k).tree
    more_inits_formed h cl u.no_inits w k = w
    more_inits_formed h cl (u.init i is) w k = (init_formed h cl i w.0 k, more_inits_formed h cl is w.1 _)

  maybe_init_formed : (h : Hooks) → Clear env h → (i : MaybeInit) → WfMaybeInit env i → (k : ℕ) → WfMaybeInit env (tag_maybe_init m h i k).tree
  maybe_init_formed h cl u.no_init w k = w
  maybe_init_formed h cl (u.some_init i) w k = init_formed h cl i w k

-- ---- declarations, where the typedef names change

module _ (m : ℕ) (num : Numbers m) (h : Hooks) where
  items_formed : (at_file : Bool) (ss zs : Specs) (e : has_typedef zs ≡ has_typedef ss) (seen now : Bool) → now ≡ seen → (is : List Item) (env : Env) (ms : List Mention)
      → Free h env (items_mentions at_file is ms) → WfItems env ss seen is → (k : ℕ) → WfItems env zs now (tag_items m h is k).tree
  items_formed at_file ss zs e seen now f [] env ms free w k = w
  items_formed at_file ss zs e seen now f (i ∷ is) env ms free w k =
      let d = i.declarator in
      let d2 = (tag_declarator m h d k).tree in
      let after = after_declarator ss d env in
      let past_d = past_declarator h env ss (at_file && is_function d) d _ free in
      let same = declarator_env m h ss zs d k env e in
      let init = maybe_init_formed m num after h past_d.clear i.init w.4 (tag_declarator m h d k).next in
      let rest = items_formed at_file ss zs e true true refl is after ms (past_init h after i.init _ past_d) w.5 (tag_item m h i k).next in (
        subst IsSome (sym (declared_kept m h d k)) w.0,
        apart_to env seen now _ _ (sym f) (sym (leading_kept m h d k)) w.1,
        declarator_formed m num env h free.clear d w.2 k,
        w.3,
        subst (λ x. WfMaybeInit x (tag_maybe_init m h i.init (tag_declarator m h d k).next).tree) (sym same) init,
        subst (λ x. WfItems x zs true (tag_items m h is (tag_item m h i k).next).tree) (sym same) rest,
      )

  declaration_formed : (at_file : Bool) (d : Declaration) (env : Env) (ms : List Mention) → Free h env (declaration_mentions at_file d ms) → WfDeclaration env d → (k : ℕ)
      → WfDeclaration env (tag_declaration m h d k).tree
  declaration_formed at_file d env ms free w k = (
    some_kept m h d.specs k w.0,
    specs_formed m num env h free.clear false d.specs w.1 k,
    items_formed at_file d.specs (tag_specs m h d.specs k).tree (typedef_kept m h d.specs k) (specified false d.specs) (specified false (tag_specs m h d.specs k).tree)
        (specified_kept m h d.specs false k) d.items env ms (past_specs h env d.specs _ free) w.2 (tag_specs m h d.specs k).next,
  )

  first_formed : (i : First) (env : Env) (ms : List Mention) → Free h env (first_mentions i ms) → WfFirst env i → (k : ℕ) → WfFirst env (tag_first m h i k).tree
  first_formed (u.FirstDeclaration d) env ms free w k = declaration_formed false d env ms free w k
  first_formed (u.FirstExpr e) env ms free w k = maybe_formed m num env h free.clear e 1 w k

  mutual
    stmt_formed : (s : Stmt) (env : Env) (ms : List Mention) → Free h env (stmt_mentions s ms) → WfStmt env s → (k : ℕ) → WfStmt env (tag_stmt m h s k).tree
    stmt_formed (u.Block items) env ms f w k = block_formed items env ms f w k
    stmt_formed (u.ExprStmt e) env ms f w k = maybe_formed m num env h f.clear e 1 w k
    stmt_formed (u.If c s) env ms f w k = (expr_formed m num env h f.clear c w.0 k, stmt_formed s env ms (past_expr h env c _ f) w.1 _)
    stmt_formed (u.IfElse c s t) env ms f w k =
        let g = past_expr h env c _ f in
        let n = (tag m h c k).next in
        let x = (tag_stmt m h s n).next in (
          expr_formed m num env h f.clear c w.0 k,
          stmt_formed s env _ g w.1 n,
          open_kept m h s n ∙ w.2,
          subst (λ z. WfStmt z (tag_stmt m h t x).tree) (sym (stmt_env m h s n env)) (stmt_formed t (after_stmt s env) ms (past_stmt h s env _ g) w.3 x),
        )
    stmt_formed (u.While c s) env ms f w k = (expr_formed m num env h f.clear c w.0 k, stmt_formed s env ms (past_expr h env c _ f) w.1 _)
    stmt_formed (u.Do s c) env ms f w k =
        let n = (tag_stmt m h s k).next in
        (stmt_formed s env _ f w.0 k, subst (λ z. Wf z (tag m h c n).tree) (sym (stmt_env m h s k env)) (expr_formed m num (after_stmt s env) h (past_stmt h s env _ f).clear c w.1 n))
    stmt_formed (u.For i c e s) env ms f w k =
        let g = past_first h i env _ f in
        let here = after_first i env in
        let same = sym (first_env m h i k env) in
        let n = (tag_first m h i k).next in
        let x = (tag_maybe m h c n).next in
        let y = (tag_maybe m h e x).next in (
          first_formed i env _ f w.0 k,
          subst (λ z. WfMaybe z (tag_maybe m h c n).tree 1) same (maybe_formed m num here h g.clear c 1 w.1 n),
          subst (λ z. WfMaybe z (tag_maybe m h e x).tree 1) same (maybe_formed m num here h g.clear e 1 w.2 x),
          subst (λ z. WfStmt z (tag_stmt m h s y).tree) same (stmt_formed s here ms (past_maybe h here e _ (past_maybe h here c _ g)) w.3 y),
        )
    stmt_formed u.Break env ms f w k = w
    stmt_formed u.Continue env ms f w k = w
    stmt_formed (u.Return e) env ms f w k = maybe_formed m num env h f.clear e 1 w k

    block_formed : (is : BlockItems) (env : Env) (ms : List Mention) → Free h env (block_mentions is ms) → WfBlock env is → (k : ℕ) → WfBlock env (tag_block m h is k).tree
    block_formed u.no_items env ms f w k = w
    block_formed (u.declared d is) env ms f w k =
        let n = (tag_declaration m h d k).next in (
          declaration_formed false d env _ f w.0 k,
          subst (λ z. WfBlock z (tag_block m h is n).tree) (sym (declaration_env m h d k env)) (block_formed is (after_declaration d env) ms (past_declaration h false d env _ f) w.1 n),
        )
    block_formed (u.statement s is) env ms f w k =
        let n = (tag_stmt m h s k).next in
        (stmt_formed s env _ f w.0 k, subst (λ z. WfBlock z (tag_block m h is n).tree) (sym (stmt_env m h s k env)) (block_formed is (after_stmt s env) ms (past_stmt h s env _ f) w.1 n))

  external_formed : (x : External) (env : Env) (ms : List Mention) → Free h env (external_mentions x ms) → WfExternal env x → (k : ℕ) → WfExternal env (tag_external m h x k).tree
  external_formed (u.Declares d) env ms f w k = declaration_formed true d env ms f w k
  external_formed (u.Definition ss d items) env ms f w k =
      let n = (tag_specs m h ss k).next in
      let x = (tag_declarator m h d n).next in
      let g = past_specs h env ss _ f in (
        some_kept m h ss k w.0,
        specs_formed m num env h f.clear false ss w.1 k,
        subst IsSome (sym (declared_kept m h d n)) w.2,
        apart_to env _ _ _ _ (sym (specified_kept m h ss false k)) (sym (leading_kept m h d n)) w.3,
        declarator_formed m num env h g.clear d w.4 n,
        function_kept m h d n w.5,
        subst (λ z. WfBlock z (tag_block m h items x).tree) (sym (declarator_env m h ss (tag_specs m h ss k).tree d n env (typedef_kept m h ss k)))
            (block_formed items (after_declarator ss d env) ms (past_declarator h env ss false d _ g) w.6 x),
      )

  externals_formed : (xs : List External) (env : Env) → Free h env (unit_mentions xs) → WfUnit env xs → (k : ℕ) → WfUnit env (tag_externals m h xs k).tree
  externals_formed [] env f w k = w
  externals_formed (x ∷ xs) env f w k =
      let n = (tag_external m h x k).next in (
        external_formed x env _ f w.0 k,
        subst (λ z. WfUnit z (tag_externals m h xs n).tree) (sym (external_env m h x k env)) (externals_formed xs (after_external x env) (past_external h x env _ f) w.1 n),
      )

-- ---- the unit

size_formed : (ps : Params) → WfParams [] ps → WfParams [] (size_then ps)
size_formed ps w = (λ e. cc, (refl, (refl, tt)), tt, w)

address_formed : (ps : Params) → WfParams [] ps → WfParams [] (address_then ps)
address_formed ps w = (λ e. cc, (refl, tt), (tt, tt, (tt, tt)), w)

entry_formed : (c : Callee) → WfParams [] (entry_params c)
entry_formed Malloc = size_formed (size_then u.no_params) (size_formed u.no_params tt)
entry_formed Calloc = size_formed (size_then (size_then u.no_params)) (size_formed (size_then u.no_params) (size_formed u.no_params tt))
entry_formed Realloc = address_formed (size_then (size_then u.no_params)) (size_formed (size_then u.no_params) (size_formed u.no_params tt))

prototype_formed : (c : Callee) → WfExternal [] (prototype c)
prototype_formed c = (λ e. cc, (refl, tt), (refl, tt, (tt, (tt, entry_is_name c, entry_formed c)), tt, tt, tt))

prototype_env : (c : Callee) → after_external (prototype c) [] ≡ []
prototype_env Malloc = refl
prototype_env Calloc = refl
prototype_env Realloc = refl

behind_prototypes : (cs : List Callee) (u : List External) → WfUnit [] u → WfUnit [] (map prototype cs ++ u)
behind_prototypes [] u w = w
behind_prototypes (c ∷ cs) u w = (prototype_formed c, subst (λ z. WfUnit z (map prototype cs ++ u)) (sym (prototype_env c)) (behind_prototypes cs u w))

pub stays_formed : (m : ℕ) → 0 < m → m ≤ 65536 → (u : List External) → WfUnit [] u → WfUnit [] (tagged m u)
stays_formed m i j u w =
    let ms = unit_mentions u in
    let num : Numbers m = λ k. (let b = mod-lt k i in decimal_token (k % m) (omega (arith, b, j))) in
    behind_prototypes (filter (is_used ms) (Malloc ∷ Calloc ∷ Realloc ∷ [])) (tag_externals m (hooks_of ms) u 0).tree
    (externals_formed m num (hooks_of ms) u [] (free_first u) w 0)

pub reads_again : ReadsAgain
reads_again m i j u w = text_lexes (tagged m u) (stays_formed m i j u w)
