-- An index keeps the names when one is added.
use Rattle.std.proofs.lemmas.List.{reverse-append}
use Rattle.std.proofs.Common.{◌≡◌, ℕ, Bool, true, false, ◌||◌, ◌&&◌, reverse, List, [], ◌∷◌, ◌++◌, nat_eq, if◌then◌else◌, refl, sym, subst, ap, ◌∙◌}
use Rattle.std.specs.List.{list_any}
use Rattle.std.specs.Cmp.Lexicographic.{pointwise}
use Rattle.std.specs.Cmp.Lexicographic as texts
use Rattle.std.proofs.lemmas.List.Folds.{list_any-append}
use Rattle.c_tree.specs.Text.{same_text}
use Rattle.c_tree.specs.Wf.{Env, is_type}
use Rattle.indexmap.specs.IndexSet.{insert_key}
use Rattle.c_symbol.specs.Index.{Indexes}

same : (xs ys : List ℕ) → pointwise nat_eq xs ys ≡ same_text xs ys
same [] [] = refl
same [] (y ∷ ys) = refl
same (x ∷ xs) [] = refl
same (x ∷ xs) (y ∷ ys) = ap (λ b. nat_eq x y && b) (same xs ys)

equal : (xs ys : List ℕ) → same_text xs ys ≡ true → xs ≡ ys
equal xs ys e = texts.same_text xs ys (sym (same xs ys ∙ e))

-- a name that is there already
there : (env : Env) (name x : List ℕ) (b : Bool) → same_text x name ≡ b → is_type env name ≡ true → is_type env x ≡ (b || is_type env x)
there env name x true e h = ap (is_type env) (equal x name e) ∙ h
there env name x false e h = refl

or_false : (a : Bool) → (a || false) ≡ a
or_false true = refl
or_false false = refl

or_swap : (a b : Bool) → (a || b) ≡ (b || a)
or_swap true true = refl
or_swap true false = refl
or_swap false true = refl
or_swap false false = refl

-- one key more
grown : {K : Type 0} (text : K → List ℕ) (ks : List K) (env : Env) (key : K) → Indexes text ks env → Indexes text (ks ++ key ∷ []) (text key ∷ env)
grown text ks env key h x =
    list_any-append (λ k. pointwise nat_eq x (text k)) ks (key ∷ [])
    ∙ ap (λ b. b || (pointwise nat_eq x (text key) || false)) (h x)
    ∙ ap (λ b. is_type env x || b) (or_false (pointwise nat_eq x (text key)) ∙ same x (text key))
    ∙ or_swap (is_type env x) (same_text x (text key))

-- the key is there
kept : {K : Type 0} (text : K → List ℕ) (ks : List K) (env : Env) (key : K) → list_any (λ k. pointwise nat_eq (text key) (text k)) ks ≡ true → Indexes text ks env → Indexes text ks (text key ∷ env)
kept text ks env key f h x = h x ∙ there env (text key) x (same_text x (text key)) refl (sym (h (text key)) ∙ f)

by_test : {K : Type 0} (text : K → List ℕ) (ks : List K) (env : Env) (key : K) (b : Bool) → list_any (λ k. pointwise nat_eq (text key) (text k)) ks ≡ b → Indexes text ks env → Indexes text (if b then ks else ks ++ key ∷ []) (text key ∷ env)
by_test text ks env key true f h = kept text ks env key f h
by_test text ks env key false f h = grown text ks env key h

pub added : {K : Type 0} (text : K → List ℕ) (ks : List K) (env : Env) (key : K) → Indexes text ks env → Indexes text (insert_key (λ j k. pointwise nat_eq (text j) (text k)) ks key) (text key ∷ env)
added text ks env key h = by_test text ks env key (list_any (λ k. pointwise nat_eq (text key) (text k)) ks) refl h

-- one name more behind the list, and its key in the index
pub entered : {K : Type 0} (text : K → List ℕ) (old new : List K) (key : K) (before after : List (List ℕ)) (name : List ℕ)
    → new ≡ insert_key (λ j k. pointwise nat_eq (text j) (text k)) old key → text key ≡ name → after ≡ before ++ name ∷ []
    → Indexes text old (reverse before) → Indexes text new (reverse after)
entered text old new key before after name h n l i =
    subst (λ env. Indexes text new env) (ap (λ s. s ∷ reverse before) n ∙ sym (reverse-append before (name ∷ [])) ∙ ap reverse (sym l))
    (subst (λ ks. Indexes text ks (text key ∷ reverse before)) (sym h) (added text old (reverse before) key i))
