-- The prototypes before a unit, and what a survey of its mentions tells.
use Rattle.std.proofs.Math.Nat.{mod-eq_of_lt}
use Rattle.std.proofs.Common.{◌≡◌, ℕ, ◌%◌, ◌≤◌, Bool, true, false, ◌&&◌, ◌||◌, not, List, [], ◌∷◌, ◌++◌, map, filter, refl, sym, ap, ◌∙◌}
use Rattle.std.specs.Prelude.{if◌then◌else◌}
use Rattle.std.specs.List.{list_any}
use Rattle.c_tree.specs.Tree as u
use Rattle.c_tree.specs.View.{boxed_declarator, params_of, specs_of, view_external}
use Rattle.c_tree.specs.Bare.{bare_external, bare_maybe_declarator, bare_params, bare_specs}
use Rattle.c_tree.specs.declared.expression.Param.{Param}
use Rattle.c_tree.specs.declared.statement.External.{External}
use Rattle.call_rewriter.specs.Tagged.{Callee, Malloc, Calloc, Realloc, Hooks, is_reserved, prototype, hides, hooks_of, is_called, is_hooked, is_used, prototypes, tag_externals, tagged}
use Rattle.call_rewriter.specs.Mentions.{Mention, unit_mentions, declares_function, declares, enumerates, calls}
use Rattle.call_rewriter.specs.Survey.{behind, each, either, found, is_name_of, note, of_each}
use Rattle.call_rewriter.specs.Tagger.{Tags, behind_params, externals_tagging, hooks_left, put_param, those, used}
use Rattle.call_rewriter.specs.declared.survey.Each.{Each}
use Rattle.call_rewriter.specs.declared.survey.Survey.{Survey}

pub params_behind : (ps : List Param) (p : Param) → bare_params (params_of (ps ++ p ∷ [])) ≡ behind_params (bare_params (params_of ps)) (put_param p u.no_params)
params_behind [] p = refl
params_behind (q ∷ ps) p = ap (u.Param (bare_specs (specs_of q.specs)) (bare_maybe_declarator (boxed_declarator q.declarator))) (params_behind ps p)

pub externals_behind : (xs ys : List External)
    → map bare_external (map view_external (xs ++ ys)) ≡ map bare_external (map view_external xs) ++ map bare_external (map view_external ys)
externals_behind [] ys = refl
externals_behind (x ∷ xs) ys = ap (λ r. bare_external (view_external x) ∷ r) (externals_behind xs ys)

-- ---- the survey

or_or : (a b c : Bool) → ((a || b) || c) ≡ (a || (b || c))
or_or false b c = refl
or_or true b c = refl

or_false : (b : Bool) → b ≡ (b || false)
or_false false = refl
or_false true = refl

either_is : (e : Each) (f : Callee → Bool) (c : Callee) → of_each (either e f) c ≡ (of_each e c || f c)
either_is e f Malloc = refl
either_is e f Calloc = refl
either_is e f Realloc = refl

hidden_step : (s : Survey) (m : Mention) (c : Callee) → of_each (note s m).hidden c ≡ (of_each s.hidden c || hides c m)
hidden_step s (declares_function n) c = either_is s.hidden (λ _. is_reserved n) c
hidden_step s (declares n) c = either_is s.hidden (λ c. is_reserved n || is_name_of n c) c
hidden_step s (enumerates n) c = either_is s.hidden (is_name_of n) c
hidden_step s (calls n) c = or_false (of_each s.hidden c)

called_step : (s : Survey) (m : Mention) (c : Callee) → of_each (note s m).called c ≡ (of_each s.called c || is_called c m)
called_step s (declares_function n) c = or_false (of_each s.called c)
called_step s (declares n) c = or_false (of_each s.called c)
called_step s (enumerates n) c = or_false (of_each s.called c)
called_step s (calls n) c = either_is s.called (is_name_of n) c

hidden_behind : (ms : List Mention) (s : Survey) (c : Callee) → of_each (behind s ms).hidden c ≡ (of_each s.hidden c || list_any (hides c) ms)
hidden_behind [] s c = or_false (of_each s.hidden c)
hidden_behind (m ∷ ms) s c =
    hidden_behind ms (note s m) c ∙ ap (λ b. b || list_any (hides c) ms) (hidden_step s m c) ∙ or_or (of_each s.hidden c) (hides c m) (list_any (hides c) ms)

called_behind : (ms : List Mention) (s : Survey) (c : Callee) → of_each (behind s ms).called c ≡ (of_each s.called c || list_any (is_called c) ms)
called_behind [] s c = or_false (of_each s.called c)
called_behind (m ∷ ms) s c =
    called_behind ms (note s m) c ∙ ap (λ b. b || list_any (is_called c) ms) (called_step s m c) ∙ or_or (of_each s.called c) (is_called c m) (list_any (is_called c) ms)

abbrev none : Survey
none = record { hidden = each (λ _. false); called = each (λ _. false) }

abbrev hooks : Bool → Bool → Bool → Hooks
hooks a b c = record { malloc = not a; calloc = not b; realloc = not c }

pub hooks_found : (ms : List Mention) → hooks_left (found ms) ≡ hooks_of ms
hooks_found ms =
    ap (λ a. hooks a (found ms).hidden.calloc (found ms).hidden.realloc) (hidden_behind ms none Malloc)
    ∙ ap (λ b. hooks (list_any (hides Malloc) ms) b (found ms).hidden.realloc) (hidden_behind ms none Calloc)
    ∙ ap (λ c. hooks (list_any (hides Malloc) ms) (list_any (hides Calloc) ms) c) (hidden_behind ms none Realloc)

found_none : (c : Callee) → (of_each none.hidden c ≡ false) × (of_each none.called c ≡ false)
found_none Malloc = (refl, refl)
found_none Calloc = (refl, refl)
found_none Realloc = (refl, refl)

used_found : (ms : List Mention) (c : Callee) → used (found ms) c ≡ is_used ms c
used_found ms c =
    let z = found_none c in
    ap (λ a. not a && of_each (found ms).called c) (hidden_behind ms none c ∙ ap (λ b. b || list_any (hides c) ms) z.0)
    ∙ ap (λ b. is_hooked ms c && b) (called_behind ms none c ∙ ap (λ b. b || list_any (is_called c) ms) z.1)

-- ---- the prototypes

kept : (b : Bool) (c : Callee) (cs : List Callee) → map prototype (if b then c ∷ cs else cs) ≡ those b (prototype c) ++ map prototype cs
kept true c cs = refl
kept false c cs = refl

chosen : (p : Callee → Bool) (c : Callee) (cs : List Callee) → map prototype (filter p (c ∷ cs)) ≡ those (p c) (prototype c) ++ map prototype (filter p cs)
chosen p c cs = kept (p c) c (filter p cs)

append_none : {A : Type 0} (xs : List A) → xs ++ [] ≡ xs
append_none [] = refl
append_none (x ∷ xs) = ap (λ r. x ∷ r) (append_none xs)

regroup : {A : Type 0} (xs ys zs : List A) → (xs ++ ys) ++ zs ≡ xs ++ (ys ++ zs)
regroup [] ys zs = refl
regroup (x ∷ xs) ys zs = ap (λ r. x ∷ r) (regroup xs ys zs)

abbrev three : Bool → Bool → Bool → List u.External
three a b c = those a (prototype Malloc) ++ those b (prototype Calloc) ++ those c (prototype Realloc)

pub prototypes_found : (ms : List Mention)
    → those (used (found ms) Malloc) (prototype Malloc) ++ those (used (found ms) Calloc) (prototype Calloc) ++ those (used (found ms) Realloc) (prototype Realloc) ≡ prototypes ms
prototypes_found ms =
    let p = is_used ms in
    ap (λ a. three a (used (found ms) Calloc) (used (found ms) Realloc)) (used_found ms Malloc)
    ∙ ap (λ b. three (p Malloc) b (used (found ms) Realloc)) (used_found ms Calloc)
    ∙ ap (λ c. three (p Malloc) (p Calloc) c) (used_found ms Realloc)
    ∙ regroup (those (p Malloc) (prototype Malloc)) (those (p Calloc) (prototype Calloc)) (those (p Realloc) (prototype Realloc))
    ∙ sym (chosen p Malloc (Calloc ∷ Realloc ∷ []) ∙ ap (λ r. those (p Malloc) (prototype Malloc) ++ r) (chosen p Calloc (Realloc ∷ [])
    ∙ ap (λ r. those (p Calloc) (prototype Calloc) ++ r) (chosen p Realloc [] ∙ append_none (those (p Realloc) (prototype Realloc)))))

-- ---- the unit

zero_mod : (max : ℕ) → 1 ≤ max → 0 % max ≡ 0
zero_mod max h = mod-eq_of_lt h

pub unit_tagged : (max new : ℕ) (s : Survey) (e : Each) (h : Hooks) (xs items more all : List External) → 1 ≤ max
    → s ≡ found (unit_mentions (map bare_external (map view_external xs))) → e ≡ each (used s)
    → map bare_external (map view_external items) ≡ three e.malloc e.calloc e.realloc → h ≡ hooks_left s
    → Tags max 0 new (externals_tagging max h xs) (map bare_external (map view_external more)) → all ≡ items ++ more
    → map bare_external (map view_external all) ≡ tagged max (map bare_external (map view_external xs))
unit_tagged max new s e h xs items more all i f g entries j tags k =
    let u = map bare_external (map view_external xs) in
    let ms = unit_mentions u in
    let front = entries ∙ ap (λ e. three e.malloc e.calloc e.realloc) g ∙ ap (λ s. three (used s Malloc) (used s Calloc) (used s Realloc)) f ∙ prototypes_found ms in
    let same = j ∙ ap hooks_left f ∙ hooks_found ms in
    let r = tags 0 (zero_mod max i) in
    let back = sym (ap (λ n. n.tree) r.2) ∙ ap (λ h. (tag_externals max h u 0).tree) same in
    ap (λ l. map bare_external (map view_external l)) k ∙ externals_behind items more
    ∙ ap (λ l. l ++ map bare_external (map view_external more)) front ∙ ap (λ l. prototypes ms ++ l) back
