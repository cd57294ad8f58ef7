-- Tagging keeps each depth.
use Rattle.std.proofs.Common.{◌≡◌, ℕ, suc, ◌+◌, max, ◌≤◌, List, [], ◌∷◌, ◌++◌, map, filter, Option, Some, None, refl, ap, ◌∙◌, arith}
use Rattle.c_tree.specs.Tree as u
use Rattle.c_tree.specs.Tree.{Expr, Exprs, MaybeExpr, Specs, Fields, MaybeFields, Declarators, Declarator, MaybeDeclarator, Enumerators, MaybeEnumerators, Params, Init, Inits, MaybeInit, Item, Declaration, First, Stmt, BlockItems, External}
use Rattle.c_tree.specs.Depth.{greatest, attribute_depth, depth, exprs_depth, maybe_depth, specs_depth, body_depth, fields_depth, declarators_depth, list_depth, enumerators_depth, maybe_declarator_depth, declarator_depth, params_depth, init_depth, inits_depth, maybe_init_depth, item_depth, declaration_depth, first_depth, stmt_depth, block_depth, external_depth, unit_depth, IsFlat}
use Rattle.call_rewriter.specs.Tagged.{Callee, Malloc, Calloc, Realloc, Hooks, with_last, token, prototype, Tagging, no_hooks, hooks_of, is_used, site_in, prototypes, tagged, entered, tag_call, tag, tag_exprs, tag_maybe, tag_specs, tag_body, tag_fields, tag_declarators, tag_list, tag_enumerators, tag_maybe_declarator, tag_declarator, tag_params, tag_init, tag_inits, tag_maybe_init, tag_item, tag_items, tag_declaration, tag_first, tag_stmt, tag_block, tag_external, tag_externals}
use Rattle.call_rewriter.specs.Mentions.{unit_mentions}

-- two parts side by side
both : (a b c d : ℕ) → a ≡ b → c ≡ d → max a c ≡ max b d
both a b c d e f = ap (λ x. max x c) e ∙ ap (max b) f

last_depth : (xs : Exprs) (a : Expr) → exprs_depth (with_last xs a) ≡ max (exprs_depth xs) (depth a)
last_depth u.no_exprs a = omega arith
last_depth (u.expr b xs) a = let e = last_depth xs a in omega (arith, e)

-- a site holds no deeper token than the call did
site_depth : (f g : Expr) (xs ys : Exprs) (a : Expr) → depth g ≡ depth f → 1 ≤ depth f → depth a ≡ 1 → exprs_depth ys ≡ exprs_depth xs
    → suc (max (depth g) (exprs_depth (with_last ys a))) ≡ suc (max (depth f) (exprs_depth xs))
site_depth f g xs ys a e one h i = let l = last_depth ys a in omega (arith, l, e, one, h, i)

entered_depth : (h : Hooks) (f : Expr) (c : Callee) → site_in h f ≡ Some c → (depth (entered c f) ≡ depth f) × (1 ≤ depth f)
entered_depth h (u.Name n) c e = (refl, omega arith)
entered_depth h (u.Comma a b) c e = absurd (cc)
entered_depth h (u.Assign a op b) c e = absurd (cc)
entered_depth h (u.Cond x a b) c e = absurd (cc)
entered_depth h (u.Binary a op b) c e = absurd (cc)
entered_depth h (u.Cast ss d a) c e = absurd (cc)
entered_depth h (u.Prefix op a) c e = absurd (cc)
entered_depth h (u.SizeofExpr a) c e = absurd (cc)
entered_depth h (u.SizeofType ss d) c e = absurd (cc)
entered_depth h (u.Index a b) c e = absurd (cc)
entered_depth h (u.Call f xs) c e = absurd (cc)
entered_depth h (u.Dot a n) c e = absurd (cc)
entered_depth h (u.Arrow a n) c e = absurd (cc)
entered_depth h (u.Post a up) c e = absurd (cc)
entered_depth h (u.Number n) c e = absurd (cc)
entered_depth h (u.Char n) c e = absurd (cc)
entered_depth h (u.Text ts) c e = absurd (cc)
entered_depth h (u.Paren a) c e = (ap suc (entered_depth h a c e).0, omega arith)
entered_depth h (u.Builtin xs) c e = absurd (cc)

call_depth : (m : ℕ) (s : Option Callee) (f : Expr) (xs : Exprs) (g : Tagging Expr) (ys : Tagging Exprs) (k : ℕ)
    → ((c : Callee) → s ≡ Some c → (depth (entered c f) ≡ depth f) × (1 ≤ depth f)) → ((n : ℕ) → depth (g n).tree ≡ depth f)
    → ((n : ℕ) → exprs_depth (ys n).tree ≡ exprs_depth xs) → depth (tag_call m s f g ys k).tree ≡ depth (u.Call f xs)
call_depth m None f xs g ys k name e i = ap suc (both _ _ _ _ (e k) (i (g k).next))
call_depth m (Some c) f xs g ys k name e i = let p = name c refl in site_depth f (entered c f) xs (ys (k + 1)).tree (token m k) p.0 p.1 refl (i (k + 1))

module _ (m : ℕ) where
  mutual
    pub depth_kept : (h : Hooks) (a : Expr) (k : ℕ) → depth (tag m h a k).tree ≡ depth a
    depth_kept h (u.Comma a b) k = ap suc (both _ _ _ _ (depth_kept h a k) (depth_kept h b _))
    depth_kept h (u.Assign a op b) k = ap suc (both _ _ _ _ (depth_kept h a k) (depth_kept h b _))
    depth_kept h (u.Cond c a b) k = ap suc (both _ _ _ _ (depth_kept h c k) (both _ _ _ _ (depth_kept h a _) (depth_kept h b _)))
    depth_kept h (u.Binary a op b) k = ap suc (both _ _ _ _ (depth_kept h a k) (depth_kept h b _))
    depth_kept h (u.Cast ss d a) k = ap suc (both _ _ _ _ (ap suc (both _ _ _ _ (specs_kept h ss k) (maybe_declarator_kept h d _))) (depth_kept h a _))
    depth_kept h (u.Prefix op a) k = ap suc (depth_kept h a k)
    depth_kept h (u.SizeofExpr a) k = ap suc (depth_kept no_hooks a k)
    depth_kept h (u.SizeofType ss d) k = ap (λ n. suc (suc n)) (both _ _ _ _ (specs_kept no_hooks ss k) (maybe_declarator_kept no_hooks d _))
    depth_kept h (u.Index a b) k = ap suc (both _ _ _ _ (depth_kept h a k) (depth_kept h b _))
    depth_kept h (u.Call f xs) k = call_depth m (site_in h f) f xs (tag m h f) (tag_exprs m h xs) k (entered_depth h f) (depth_kept h f) (exprs_kept h xs)
    depth_kept h (u.Dot a n) k = ap suc (depth_kept h a k)
    depth_kept h (u.Arrow a n) k = ap suc (depth_kept h a k)
    depth_kept h (u.Post a up) k = ap suc (depth_kept h a k)
    depth_kept h (u.Name n) k = refl
    depth_kept h (u.Number n) k = refl
    depth_kept h (u.Char n) k = refl
    depth_kept h (u.Text ts) k = refl
    depth_kept h (u.Paren a) k = ap suc (depth_kept h a k)
    depth_kept h (u.Builtin xs) k = ap suc (exprs_kept no_hooks xs k)

    exprs_kept : (h : Hooks) (xs : Exprs) (k : ℕ) → exprs_depth (tag_exprs m h xs k).tree ≡ exprs_depth xs
    exprs_kept h u.no_exprs k = refl
    exprs_kept h (u.expr a xs) k = both _ _ _ _ (depth_kept h a k) (exprs_kept h xs _)

    maybe_kept : (h : Hooks) (a : MaybeExpr) (k : ℕ) → maybe_depth (tag_maybe m h a k).tree ≡ maybe_depth a
    maybe_kept h u.no_expr k = refl
    maybe_kept h (u.some_expr a) k = depth_kept h a k

    specs_kept : (h : Hooks) (ss : Specs) (k : ℕ) → specs_depth (tag_specs m h ss k).tree ≡ specs_depth ss
    specs_kept h u.no_specs k = refl
    specs_kept h (u.Keyword w ss) k = specs_kept h ss k
    specs_kept h (u.Typedef n ss) k = specs_kept h ss k
    specs_kept h (u.Attribute es ss) k = ap (max (attribute_depth es)) (specs_kept h ss k)
    specs_kept h (u.Record is_union n b ss) k = both _ _ _ _ (ap suc (body_kept h b k)) (specs_kept h ss _)
    specs_kept h (u.Enum n b ss) k = both _ _ _ _ (ap suc (list_kept h b k)) (specs_kept h ss _)

    body_kept : (h : Hooks) (b : MaybeFields) (k : ℕ) → body_depth (tag_body m h b k).tree ≡ body_depth b
    body_kept h u.no_body k = refl
    body_kept h (u.body fs) k = fields_kept h fs k

    fields_kept : (h : Hooks) (fs : Fields) (k : ℕ) → fields_depth (tag_fields m h fs k).tree ≡ fields_depth fs
    fields_kept h u.no_fields k = refl
    fields_kept h (u.Field ss ds fs) k = both _ _ _ _ (ap suc (both _ _ _ _ (specs_kept h ss k) (declarators_kept h ds _))) (fields_kept h fs _)

    declarators_kept : (h : Hooks) (ds : Declarators) (k : ℕ) → declarators_depth (tag_declarators m h ds k).tree ≡ declarators_depth ds
    declarators_kept h u.no_declarators k = refl
    declarators_kept h (u.declarator d ds) k = both _ _ _ _ (declarator_kept h d k) (declarators_kept h ds _)

    list_kept : (h : Hooks) (b : MaybeEnumerators) (k : ℕ) → list_depth (tag_list m h b k).tree ≡ list_depth b
    list_kept h u.no_list k = refl
    list_kept h (u.list es comma) k = enumerators_kept h es k

    enumerators_kept : (h : Hooks) (es : Enumerators) (k : ℕ) → enumerators_depth (tag_enumerators m h es k).tree ≡ enumerators_depth es
    enumerators_kept h u.no_enumerators k = refl
    enumerators_kept h (u.Enumerator n v es) k = both _ _ _ _ (ap suc (maybe_kept h v k)) (enumerators_kept h es _)

    maybe_declarator_kept : (h : Hooks) (d : MaybeDeclarator) (k : ℕ) → maybe_declarator_depth (tag_maybe_declarator m h d k).tree ≡ maybe_declarator_depth d
    maybe_declarator_kept h u.no_declarator k = refl
    maybe_declarator_kept h (u.some_declarator d) k = declarator_kept h d k

    declarator_kept : (h : Hooks) (d : Declarator) (k : ℕ) → declarator_depth (tag_declarator m h d k).tree ≡ declarator_depth d
    declarator_kept h (u.PointerTo qs d) k = ap suc (declarator_kept h d k)
    declarator_kept h (u.Declared None) k = refl
    declarator_kept h (u.Declared (Some n)) k = refl
    declarator_kept h (u.Group d) k = ap suc (declarator_kept h d k)
    declarator_kept h (u.ArrayOf d n) k = ap suc (both _ _ _ _ (declarator_kept h d k) (maybe_kept h n _))
    declarator_kept h (u.FunctionOf d ps) k = ap suc (both _ _ _ _ (declarator_kept h d k) (params_kept h ps _))

    params_kept : (h : Hooks) (ps : Params) (k : ℕ) → params_depth (tag_params m h ps k).tree ≡ params_depth ps
    params_kept h u.no_params k = refl
    params_kept h (u.Param ss d ps) k = both _ _ _ _ (ap suc (both _ _ _ _ (specs_kept h ss k) (maybe_declarator_kept h d _))) (params_kept h ps _)

module _ (m : ℕ) (h : Hooks) where
  mutual
    init_kept : (i : Init) (k : ℕ) → init_depth (tag_init m h i k).tree ≡ init_depth i
    init_kept (u.Plain a) k = depth_kept m h a k
    init_kept (u.Braces is comma) k = ap suc (inits_kept is k)

    inits_kept : (is : Inits) (k : ℕ) → inits_depth (tag_inits m h is k).tree ≡ inits_depth is
    inits_kept u.no_inits k = refl
    inits_kept (u.init i is) k = both _ _ _ _ (init_kept i k) (inits_kept is _)

  maybe_init_kept : (i : MaybeInit) (k : ℕ) → maybe_init_depth (tag_maybe_init m h i k).tree ≡ maybe_init_depth i
  maybe_init_kept u.no_init k = refl
  maybe_init_kept (u.some_init i) k = init_kept i k

  item_kept : (i : Item) (k : ℕ) → item_depth (tag_item m h i k).tree ≡ item_depth i
  item_kept i k = ap suc (both _ _ _ _ (declarator_kept m h i.declarator k) (ap (max (greatest attribute_depth i.attributes)) (maybe_init_kept i.init _)))

  items_kept : (is : List Item) (k : ℕ) → greatest item_depth (tag_items m h is k).tree ≡ greatest item_depth is
  items_kept [] k = refl
  items_kept (i ∷ is) k = both _ _ _ _ (item_kept i k) (items_kept is _)

  declaration_kept : (d : Declaration) (k : ℕ) → declaration_depth (tag_declaration m h d k).tree ≡ declaration_depth d
  declaration_kept d k = ap suc (both _ _ _ _ (specs_kept m h d.specs k) (items_kept d.items _))

  first_kept : (i : First) (k : ℕ) → first_depth (tag_first m h i k).tree ≡ first_depth i
  first_kept (u.FirstDeclaration d) k = declaration_kept d k
  first_kept (u.FirstExpr e) k = maybe_kept m h e k

  mutual
    stmt_kept : (s : Stmt) (k : ℕ) → stmt_depth (tag_stmt m h s k).tree ≡ stmt_depth s
    stmt_kept (u.Block items) k = ap suc (block_kept items k)
    stmt_kept (u.ExprStmt e) k = ap suc (maybe_kept m h e k)
    stmt_kept (u.If c s) k = ap suc (both _ _ _ _ (depth_kept m h c k) (stmt_kept s _))
    stmt_kept (u.IfElse c s t) k = ap suc (both _ _ _ _ (depth_kept m h c k) (both _ _ _ _ (stmt_kept s _) (stmt_kept t _)))
    stmt_kept (u.While c s) k = ap suc (both _ _ _ _ (depth_kept m h c k) (stmt_kept s _))
    stmt_kept (u.Do s c) k = ap suc (both _ _ _ _ (depth_kept m h c _) (stmt_kept s k))
    stmt_kept (u.For i c e s) k =
        ap suc (both _ _ _ _ (first_kept i k) (both _ _ _ _ (maybe_kept m h c _) (both _ _ _ _ (maybe_kept m h e _) (stmt_kept s _))))
    stmt_kept u.Break k = refl
    stmt_kept u.Continue k = refl
    stmt_kept (u.Return e) k = ap suc (maybe_kept m h e k)

    block_kept : (is : BlockItems) (k : ℕ) → block_depth (tag_block m h is k).tree ≡ block_depth is
    block_kept u.no_items k = refl
    block_kept (u.declared d is) k = both _ _ _ _ (declaration_kept d k) (block_kept is _)
    block_kept (u.statement s is) k = both _ _ _ _ (stmt_kept s k) (block_kept is _)

  external_kept : (x : External) (k : ℕ) → external_depth (tag_external m h x k).tree ≡ external_depth x
  external_kept (u.Declares d) k = declaration_kept d k
  external_kept (u.Definition ss d items) k = ap suc (both _ _ _ _ (specs_kept m h ss k) (both _ _ _ _ (declarator_kept m h d _) (ap suc (block_kept items _))))

  pub externals_kept : (xs : List External) (k : ℕ) → unit_depth (tag_externals m h xs k).tree ≡ unit_depth xs
  externals_kept [] k = refl
  externals_kept (x ∷ xs) k = both _ _ _ _ (external_kept x k) (externals_kept xs _)

-- ---- the unit

behind_depth : (xs ys : List External) (n : ℕ) → unit_depth xs ≤ n → unit_depth ys ≤ n → unit_depth (xs ++ ys) ≤ n
behind_depth [] ys n h i = i
behind_depth (x ∷ xs) ys n h i = let r = behind_depth xs ys n (omega (arith, h)) i in omega (arith, h, r)

prototype_flat : (c : Callee) → external_depth (prototype c) ≤ 200
prototype_flat Malloc = omega arith
prototype_flat Calloc = omega arith
prototype_flat Realloc = omega arith

each_flat : (cs : List Callee) → IsFlat (map prototype cs)
each_flat [] = omega arith
each_flat (c ∷ cs) = let a = prototype_flat c in let b = each_flat cs in omega (arith, a, b)

pub stays_flat : (m : ℕ) (u : List External) → IsFlat u → IsFlat (tagged m u)
stays_flat m u f =
    let ms = unit_mentions u in
    let e = externals_kept m (hooks_of ms) u 0 in
    behind_depth (prototypes ms) (tag_externals m (hooks_of ms) u 0).tree 200 (each_flat (filter (is_used ms) (Malloc ∷ Calloc ∷ Realloc ∷ []))) (omega (arith, e, f))
