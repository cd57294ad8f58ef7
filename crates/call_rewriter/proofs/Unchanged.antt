-- Without hooks nothing is tagged.
use Rattle.std.proofs.Common.{◌≡◌, ℕ, Option, Some, None, refl, ap, ◌∙◌}
use Rattle.c_tree.specs.Tree as u
use Rattle.c_tree.specs.Tree.{Expr, Exprs, MaybeExpr, Specs, Fields, MaybeFields, Declarators, Declarator, MaybeDeclarator, Enumerators, MaybeEnumerators, Params}
use Rattle.call_rewriter.specs.Tagged.{Callee, Malloc, Calloc, Realloc, callee_of, only_hooked, Tagging, as_is, one, two, no_hooks, site_in, tag_call, tag, tag_exprs, tag_maybe, tag_specs, tag_body, tag_fields, tag_declarators, tag_list, tag_enumerators, tag_maybe_declarator, tag_declarator, tag_params}
use Rattle.call_rewriter.specs.Laws.{OperandsStay}

one_same : {A B : Type 0} (f : A → B) (t : Tagging A) (x : A) (k : ℕ) → t k ≡ as_is x k → one f t k ≡ as_is (f x) k
one_same f t x k e = ap (λ s. record { tree = f s.tree; next = s.next }) e

two_same : {A B C : Type 0} (f : A → B → C) (t : Tagging A) (s : Tagging B) (x : A) (y : B) (k : ℕ) → t k ≡ as_is x k → s k ≡ as_is y k → two f t s k ≡ as_is (f x y) k
two_same f t s x y k e g =
    ap (λ n. record { tree = f n.tree (s n.next).tree; next = (s n.next).next }) e ∙ ap (λ n. record { tree = f x n.tree; next = n.next }) g

three_same : {A B C D : Type 0} (f : A → B → C → D) (t : Tagging A) (s : Tagging B) (r : Tagging C) (x : A) (y : B) (z : C) (k : ℕ)
    → t k ≡ as_is x k → s k ≡ as_is y k → r k ≡ as_is z k → two (λ g x. g x) (two f t s) r k ≡ as_is (f x y z) k
three_same {A} {B} {C} {D} f t s r x y z k e g h =
    two_same {A = C → D} {B = C} {C = D} (λ g x. g x) (two f t s) r (f x y) z k (two_same f t s x y k e g) h

none_hooked : (s : Option Callee) → only_hooked no_hooks s ≡ None
none_hooked None = refl
none_hooked (Some Malloc) = refl
none_hooked (Some Calloc) = refl
none_hooked (Some Realloc) = refl

no_site : (f : Expr) → site_in no_hooks f ≡ None
no_site (u.Name n) = none_hooked (callee_of n)
no_site (u.Comma a b) = refl
no_site (u.Assign a op b) = refl
no_site (u.Cond x a b) = refl
no_site (u.Binary a op b) = refl
no_site (u.Cast ss d a) = refl
no_site (u.Prefix op a) = refl
no_site (u.SizeofExpr a) = refl
no_site (u.SizeofType ss d) = refl
no_site (u.Index a b) = refl
no_site (u.Call f xs) = refl
no_site (u.Dot a n) = refl
no_site (u.Arrow a n) = refl
no_site (u.Post a up) = refl
no_site (u.Number n) = refl
no_site (u.Char n) = refl
no_site (u.Text ts) = refl
no_site (u.Paren a) = no_site a
no_site (u.Builtin xs) = refl

module _ (m k : ℕ) where
  mutual
    pub expr_same : (a : Expr) → tag m no_hooks a k ≡ as_is a k
    expr_same (u.Comma a b) = two_same u.Comma (tag m no_hooks a) (tag m no_hooks b) a b k (expr_same a) (expr_same b)
    expr_same (u.Assign a op b) = two_same (λ a b. u.Assign a op b) (tag m no_hooks a) (tag m no_hooks b) a b k (expr_same a) (expr_same b)
    expr_same (u.Cond c a b) =
        three_same (λ c a b. u.Cond c a b) (tag m no_hooks c) (tag m no_hooks a) (tag m no_hooks b) c a b k (expr_same c) (expr_same a) (expr_same b)
    expr_same (u.Binary a op b) = two_same (λ a b. u.Binary a op b) (tag m no_hooks a) (tag m no_hooks b) a b k (expr_same a) (expr_same b)
    expr_same (u.Cast ss d a) =
        three_same (λ ss d a. u.Cast ss d a) (tag_specs m no_hooks ss) (tag_maybe_declarator m no_hooks d) (tag m no_hooks a) ss d a k
        (specs_same ss) (maybe_declarator_same d) (expr_same a)
    expr_same (u.Prefix op a) = one_same (u.Prefix op) (tag m no_hooks a) a k (expr_same a)
    expr_same (u.SizeofExpr a) = one_same u.SizeofExpr (tag m no_hooks a) a k (expr_same a)
    expr_same (u.SizeofType ss d) = two_same u.SizeofType (tag_specs m no_hooks ss) (tag_maybe_declarator m no_hooks d) ss d k (specs_same ss) (maybe_declarator_same d)
    expr_same (u.Index a b) = two_same u.Index (tag m no_hooks a) (tag m no_hooks b) a b k (expr_same a) (expr_same b)
    expr_same (u.Call f xs) =
        ap (λ s. tag_call m s f (tag m no_hooks f) (tag_exprs m no_hooks xs) k) (no_site f)
        ∙ two_same u.Call (tag m no_hooks f) (tag_exprs m no_hooks xs) f xs k (expr_same f) (exprs_same xs)
    expr_same (u.Dot a n) = one_same (λ a. u.Dot a n) (tag m no_hooks a) a k (expr_same a)
    expr_same (u.Arrow a n) = one_same (λ a. u.Arrow a n) (tag m no_hooks a) a k (expr_same a)
    expr_same (u.Post a up) = one_same (λ a. u.Post a up) (tag m no_hooks a) a k (expr_same a)
    expr_same (u.Name n) = refl
    expr_same (u.Number n) = refl
    expr_same (u.Char n) = refl
    expr_same (u.Text ts) = refl
    expr_same (u.Paren a) = one_same u.Paren (tag m no_hooks a) a k (expr_same a)
    expr_same (u.Builtin xs) = one_same u.Builtin (tag_exprs m no_hooks xs) xs k (exprs_same xs)

    exprs_same : (xs : Exprs) → tag_exprs m no_hooks xs k ≡ as_is xs k
    exprs_same u.no_exprs = refl
    exprs_same (u.expr a xs) = two_same u.expr (tag m no_hooks a) (tag_exprs m no_hooks xs) a xs k (expr_same a) (exprs_same xs)

    maybe_same : (a : MaybeExpr) → tag_maybe m no_hooks a k ≡ as_is a k
    maybe_same u.no_expr = refl
    maybe_same (u.some_expr a) = one_same u.some_expr (tag m no_hooks a) a k (expr_same a)

    specs_same : (ss : Specs) → tag_specs m no_hooks ss k ≡ as_is ss k
    specs_same u.no_specs = refl
    specs_same (u.Keyword w ss) = one_same (u.Keyword w) (tag_specs m no_hooks ss) ss k (specs_same ss)
    specs_same (u.Typedef n ss) = one_same (u.Typedef n) (tag_specs m no_hooks ss) ss k (specs_same ss)
    specs_same (u.Attribute es ss) = one_same (u.Attribute es) (tag_specs m no_hooks ss) ss k (specs_same ss)
    specs_same (u.Record is_union n b ss) = two_same (u.Record is_union n) (tag_body m no_hooks b) (tag_specs m no_hooks ss) b ss k (body_same b) (specs_same ss)
    specs_same (u.Enum n b ss) = two_same (u.Enum n) (tag_list m no_hooks b) (tag_specs m no_hooks ss) b ss k (list_same b) (specs_same ss)

    body_same : (b : MaybeFields) → tag_body m no_hooks b k ≡ as_is b k
    body_same u.no_body = refl
    body_same (u.body fs) = one_same u.body (tag_fields m no_hooks fs) fs k (fields_same fs)

    fields_same : (fs : Fields) → tag_fields m no_hooks fs k ≡ as_is fs k
    fields_same u.no_fields = refl
    fields_same (u.Field ss ds fs) =
        three_same (λ ss ds fs. u.Field ss ds fs) (tag_specs m no_hooks ss) (tag_declarators m no_hooks ds) (tag_fields m no_hooks fs) ss ds fs k
        (specs_same ss) (declarators_same ds) (fields_same fs)

    declarators_same : (ds : Declarators) → tag_declarators m no_hooks ds k ≡ as_is ds k
    declarators_same u.no_declarators = refl
    declarators_same (u.declarator d ds) = two_same u.declarator (tag_declarator m no_hooks d) (tag_declarators m no_hooks ds) d ds k (declarator_same d) (declarators_same ds)

    list_same : (b : MaybeEnumerators) → tag_list m no_hooks b k ≡ as_is b k
    list_same u.no_list = refl
    list_same (u.list es comma) = one_same (λ es. u.list es comma) (tag_enumerators m no_hooks es) es k (enumerators_same es)

    enumerators_same : (es : Enumerators) → tag_enumerators m no_hooks es k ≡ as_is es k
    enumerators_same u.no_enumerators = refl
    enumerators_same (u.Enumerator n v es) = two_same (u.Enumerator n) (tag_maybe m no_hooks v) (tag_enumerators m no_hooks es) v es k (maybe_same v) (enumerators_same es)

    maybe_declarator_same : (d : MaybeDeclarator) → tag_maybe_declarator m no_hooks d k ≡ as_is d k
    maybe_declarator_same u.no_declarator = refl
    maybe_declarator_same (u.some_declarator d) = one_same u.some_declarator (tag_declarator m no_hooks d) d k (declarator_same d)

    declarator_same : (d : Declarator) → tag_declarator m no_hooks d k ≡ as_is d k
    declarator_same (u.PointerTo qs d) = one_same (u.PointerTo qs) (tag_declarator m no_hooks d) d k (declarator_same d)
    declarator_same (u.Declared n) = refl
    declarator_same (u.Group d) = one_same u.Group (tag_declarator m no_hooks d) d k (declarator_same d)
    declarator_same (u.ArrayOf d n) = two_same u.ArrayOf (tag_declarator m no_hooks d) (tag_maybe m no_hooks n) d n k (declarator_same d) (maybe_same n)
    declarator_same (u.FunctionOf d ps) = two_same u.FunctionOf (tag_declarator m no_hooks d) (tag_params m no_hooks ps) d ps k (declarator_same d) (params_same ps)

    params_same : (ps : Params) → tag_params m no_hooks ps k ≡ as_is ps k
    params_same u.no_params = refl
    params_same (u.Param ss d ps) =
        three_same (λ ss d ps. u.Param ss d ps) (tag_specs m no_hooks ss) (tag_maybe_declarator m no_hooks d) (tag_params m no_hooks ps) ss d ps k
        (specs_same ss) (maybe_declarator_same d) (params_same ps)

pub operands_stay : OperandsStay
operands_stay max h k = (λ a. expr_same max k (u.SizeofExpr a), λ ss d. expr_same max k (u.SizeofType ss d), λ xs. expr_same max k (u.Builtin xs))
