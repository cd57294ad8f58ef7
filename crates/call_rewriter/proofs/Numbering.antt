-- Tagging part by part.
use Rattle.std.proofs.Common.{◌≡◌, ℕ, ◌+◌, ◌%◌, ◌<◌, ◌≤◌, List, [], ◌∷◌, ◌++◌, length, drop, get_or, Result, Ok, Err, IfOk, refl, sym, ap, subst, ◌∙◌, arith}
use Rattle.std.proofs.Math.Nat.{mod-add-mod, mod-lt, mod_self}
use Rattle.std.proofs.lemmas.List.{drop_all, drop_more}
use Rattle.c_tree.specs.Tree as u
use Rattle.c_tree.specs.Tree.{Exprs}
use Rattle.c_tree.specs.View.{exprs_of, view}
use Rattle.c_tree.specs.Bare.{bare, bare_exprs}
use Rattle.c_tree.specs.declared.expression.Expr.{Expr}
use Rattle.call_rewriter.specs.Tagged.{with_last, Hooks, Tagging, as_is, one, two}
use Rattle.call_rewriter.specs.Tagger.{Tags, Heads, HeadsList, TagsLeft, before}

pub tags_as_is : {A : Type 0} (max old : ℕ) (x : A) → Tags max old old (as_is x) x
tags_as_is max old x k h = (k, h, refl)

pub tags_one : {A B : Type 0} (max old new : ℕ) (f : A → B) (t : Tagging A) (x : A) → Tags max old new t x → Tags max old new (one f t) (f x)
tags_one max old new f t x h k e = let r = h k e in (r.0, r.1, ap (λ s. record { tree = f s.tree; next = s.next }) r.2)

pub tags_two : {A B C : Type 0} (max old mid new : ℕ) (f : A → B → C) (t : Tagging A) (s : Tagging B) (x : A) (y : B)
    → Tags max old mid t x → Tags max mid new s y → Tags max old new (two f t s) (f x y)
tags_two max old mid new f t s x y h g k e =
    let p = h k e in
    let q = g p.0 p.1 in
    (q.0, q.1, ap (λ n. record { tree = f n.tree (s n.next).tree; next = (s n.next).next }) p.2 ∙ ap (λ n. record { tree = f x n.tree; next = n.next }) q.2)

-- what comes before the rest
pub heads_two : {A B C : Type 0} (max old new : ℕ) (f : A → B → C) (t : Tagging A) (rest : Tagging B) (x : A) → Tags max old new t x → Heads max old new (two f t rest) rest (f x)
heads_two max old new f t rest x h k e = let p = h k e in (p.0, p.1, ap (λ n. record { tree = f n.tree (rest n.next).tree; next = (rest n.next).next }) p.2)

pub heads_then : {A B C : Type 0} (max old mid new : ℕ) (all : Tagging C) (half : Tagging B) (rest : Tagging A) (f : B → C) (g : A → B)
    → Heads max old mid all half f → Heads max mid new half rest g → Heads max old new all rest (λ x. f (g x))
heads_then max old mid new all half rest f g h i k e =
    let p = h k e in
    let q = i p.0 p.1 in
    (q.0, q.1, p.2 ∙ ap (λ n. record { tree = f n.tree; next = n.next }) q.2)

pub tags_heads : {A B : Type 0} (max old mid new : ℕ) (all : Tagging B) (rest : Tagging A) (f : A → B) (x : A)
    → Heads max old mid all rest f → Tags max mid new rest x → Tags max old new all (f x)
tags_heads max old mid new all rest f x h i k e =
    let p = h k e in
    let q = i p.0 p.1 in
    (q.0, q.1, p.2 ∙ ap (λ n. record { tree = f n.tree; next = n.next }) q.2)

pub tags_to : {A : Type 0} (max old new : ℕ) (t : Tagging A) (x y : A) → x ≡ y → Tags max old new t x → Tags max old new t y
tags_to max old new t x y e h = subst (Tags max old new t) e h

pub tags_like : {A : Type 0} (max old new : ℕ) (t s : Tagging A) (x y : A) → s ≡ t → y ≡ x → Tags max old new t x → Tags max old new s y
tags_like {A} max old new t s x y e f h = subst (λ r. Tags max old new r y) (sym e) (subst (Tags max old new t) (sym f) h)

pub heads_like : {A B : Type 0} (max old new : ℕ) (all other : Tagging B) (rest : Tagging A) (f g : A → B) → other ≡ all → ((x : A) → g x ≡ f x)
    → Heads max old new all rest f → Heads max old new other rest g
heads_like {A} {B} max old new all other rest f g e law h k q =
    let p = h k q in
    (p.0, p.1, ap (λ t. t k) e ∙ p.2 ∙ sym (ap (λ t. record { tree = t; next = (rest p.0).next }) (law (rest p.0).tree)))

-- ---- loops

before_more : {T L : Type 0} (put : T → L → L) (ys : List T) (y : T) (rest : L) → before put (ys ++ y ∷ []) rest ≡ before put ys (put y rest)
before_more put [] y rest = refl
before_more put (z ∷ zs) y rest = ap (put z) (before_more put zs y rest)

pub begins : {T L : Type 0} (tag_list : List T → Tagging L) (put : T → L → L) (max old : ℕ) (all : List T) → TagsLeft tag_list put max old old all [] all
begins tag_list put max old all k e = (k, e, refl)

pub goes_on : {T L : Type 0} (tag_list : List T → Tagging L) (put : T → L → L) (max old mid new : ℕ) (all ys : List T) (i : ℕ) (x y : T)
    → i < length all → get_or all i x ≡ x → HeadsList tag_list put max mid new x y
    → TagsLeft tag_list put max old mid all ys (drop i all) → TagsLeft tag_list put max old new all (ys ++ y ∷ []) (drop (i + 1) all)
goes_on {T} {L} tag_list put max old mid new all ys i x y h e head left k q =
    let d = drop (i + 1) all in
    let at : drop i all ≡ x ∷ d = drop_more all i x h ∙ ap (λ a. a ∷ d) e in
    let here = subst (TagsLeft tag_list put max old mid all ys) at left in
    let r = heads_then max old mid new (tag_list all) (tag_list (x ∷ d)) (tag_list d) (before put ys) (put y) here (head d) k q in
    (r.0, r.1, r.2 ∙ sym (ap (λ t. record { tree = t; next = (tag_list d r.0).next }) (before_more put ys y (tag_list d r.0).tree)))

before_all : {T L : Type 0} (put : T → L → L) (show : List T → L) → ((y : T) (ys : List T) → put y (show ys) ≡ show (y ∷ ys)) → (ys : List T) → before put ys (show []) ≡ show ys
before_all put show law [] = refl
before_all put show law (y ∷ ys) = ap (put y) (before_all put show law ys) ∙ law y ys

pub ends : {T L : Type 0} (tag_list : List T → Tagging L) (put : T → L → L) (show : List T → L) (max old new : ℕ) (all ys : List T) (i : ℕ)
    → tag_list [] ≡ as_is (show []) → ((y : T) (zs : List T) → put y (show zs) ≡ show (y ∷ zs)) → length all ≤ i
    → TagsLeft tag_list put max old new all ys (drop i all) → Tags max old new (tag_list all) (show ys)
ends {T} {L} tag_list put show max old new all ys i e law h left k q =
    let here = subst (TagsLeft tag_list put max old new all ys) (drop_all i all h) left in
    let r = here k q in
    (r.0, r.1, r.2 ∙ ap (λ t. one (before put ys) t r.0) e ∙ ap (λ t. record { tree = t; next = r.0 }) (before_all put show law ys))

-- ---- in an operand

pub in_operand : (m n : ℕ) (g h : Hooks) (F : ℕ → Hooks → Type 0) → m ≡ n → g ≡ h → F m g → F n h
in_operand m n g h F e f x = subst (F n) f (subst (λ k. F k g) e x)

pub ok_to : {T E : Type 0} (r : Result T E) (P Q : T → Type 0) → ((x : T) → P x → Q x) → IfOk r P → IfOk r Q
ok_to (Ok x) P Q f h = f x h
ok_to (Err e) P Q f h = h

-- ---- sites

pub last_of : (xs : List Expr) (a : Expr) → bare_exprs (exprs_of (xs ++ a ∷ [])) ≡ with_last (bare_exprs (exprs_of xs)) (bare (view a))
last_of [] a = refl
last_of (x ∷ xs) a = ap (u.expr (bare (view x))) (last_of xs a)

pub wraps : (max k n : ℕ) → 1 ≤ max → n % max ≡ k → (k + 1 < max → ⊥) → (n + 1) % max ≡ 0
wraps max k n h e f =
    let b : n % max < max = mod-lt n h in
    let last : k + 1 ≡ max = omega (arith, b, e, f) in
    sym (mod-add-mod n max 1) ∙ ap (λ m. (m + 1) % max) e ∙ ap (λ m. m % max) last ∙ mod_self max
