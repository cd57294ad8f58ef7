-- What an attribute spells is read as that attribute.
use Rattle.std.proofs.Common.{◌≡◌, ℕ, Bool, true, false, List, [], ◌∷◌, ◌++◌, Option, Some, None, refl, sym, ◌∙◌, ap, append_assoc, append-nil}
use Rattle.c_tree.specs.Tok as g
use Rattle.c_tree.specs.Tok.{Tok, mark}
use Rattle.c_tree.specs.Tree as u
use Rattle.c_tree.specs.Tree.{Argument, Entry}
use Rattle.std.specs.List.{AllByRecursion}
use Rattle.c_tree.specs.Put.{put_all, put_more, put_commas, put_text, put_argument, put_arguments, put_entry}
use Rattle.c_tree.specs.Wf.{Env, WfArgument, WfArguments, WfAttribute}
use Rattle.c_reader.specs.Symbol as t
use Rattle.c_reader.specs.Symbol.{Symbol}
use Rattle.c_reader.specs.Inside.{InAttribute, AttributeMode, State, attribute_word, after_entry_name, arguments_opened, want_argument, after_argument, after_entry, attribute_closing, in_attribute}
use Rattle.c_reader.specs.Specs.{attribute_done, add_entry, entry_end, entry_next}
use Rattle.c_reader.specs.Machine.{run}
use Rattle.c_reader.proofs.Go.{at, Starts, same_start}

abbrev pub att : Env → InAttribute → AttributeMode → State
att env a m = at env (in_attribute m a)

texts_more : (vs ws : List (List ℕ)) (env : Env) (a : InAttribute) (es : List Entry) (n : List ℕ) (done : List Argument) (ts : List Tok)
    → run (att env a (after_argument es n done (u.TextArgument ws))) (put_all put_text vs ts) ≡ run (att env a (after_argument es n done (u.TextArgument (ws ++ vs)))) ts
texts_more [] ws env a es n done ts = ap (λ xs. run (att env a (after_argument es n done (u.TextArgument xs))) ts) (sym (append-nil ws))
texts_more (v ∷ vs) ws env a es n done ts = texts_more vs (ws ++ v ∷ []) env a es n done ts ∙ ap (λ xs. run (att env a (after_argument es n done (u.TextArgument xs))) ts) (append_assoc ws (v ∷ []) vs)

argument : (x : Argument) (env : Env) (a : InAttribute) (es : List Entry) (n : List ℕ) (done : List Argument) (ts : List Tok) → WfArgument x
    → run (att env a (want_argument es n done)) (put_argument x ts) ≡ run (att env a (after_argument es n done x)) ts
argument (u.NumberArgument v) env a es n done ts h = refl
argument (u.TextArgument []) env a es n done ts h = absurd (h.0 refl)
argument (u.TextArgument (v ∷ vs)) env a es n done ts h = texts_more vs (v ∷ []) env a es n done ts

first_argument : (x : Argument) (env : Env) (a : InAttribute) (es : List Entry) (n : List ℕ) (ts : List Tok) → WfArgument x
    → run (att env a (arguments_opened es n)) (put_argument x ts) ≡ run (att env a (after_argument es n [] x)) ts
first_argument (u.NumberArgument v) env a es n ts h = refl
first_argument (u.TextArgument []) env a es n ts h = absurd (h.0 refl)
first_argument (u.TextArgument (v ∷ vs)) env a es n ts h = texts_more vs (v ∷ []) env a es n [] ts

more_arguments : (xs : List Argument) (env : Env) (a : InAttribute) (es : List Entry) (n : List ℕ) (done : List Argument) (x : Argument) (ts : List Tok) → AllByRecursion WfArgument xs
    → run (att env a (after_argument es n done x)) (put_more put_argument xs (mark g.RParen ∷ ts)) ≡ run (att env a (after_entry (add_entry es n (Some (done ++ x ∷ xs))))) ts
more_arguments [] env a es n done x ts h = refl
more_arguments (z ∷ xs) env a es n done x ts h =
    argument z env a es n (done ++ x ∷ []) (put_more put_argument xs (mark g.RParen ∷ ts)) h.0
    ∙ more_arguments xs env a es n (done ++ x ∷ []) z ts h.1
    ∙ ap (λ ys. run (att env a (after_entry (add_entry es n (Some ys)))) ts) (append_assoc done (x ∷ []) (z ∷ xs))

arguments : (xs : List Argument) (env : Env) (a : InAttribute) (es : List Entry) (n : List ℕ) (ts : List Tok) → AllByRecursion WfArgument xs
    → run (att env a (arguments_opened es n)) (put_commas put_argument xs (mark g.RParen ∷ ts)) ≡ run (att env a (after_entry (add_entry es n (Some xs)))) ts
arguments [] env a es n ts h = refl
arguments (x ∷ xs) env a es n ts h = first_argument x env a es n (put_more put_argument xs (mark g.RParen ∷ ts)) h.0 ∙ more_arguments xs env a es n [] x ts h.1

abbrev is_lparen : Symbol → Bool
is_lparen t.lparen = true
is_lparen _ = false

entry_over : (env : Env) (a : InAttribute) (es : List Entry) (n : List ℕ) (y : Symbol) → is_lparen y ≡ false → entry_next env a es n y ≡ entry_end env a (add_entry es n None) y
entry_over env a es n t.lparen h = cc
entry_over env a es n (t.name m) h = refl
entry_over env a es n _ h = refl

entry : (o : Option (List Argument)) (env : Env) (a : InAttribute) (es : List Entry) (n : List ℕ) (ts : List Tok) → WfArguments o → Starts (λ y. is_lparen y ≡ false) ts
    → run (att env a (after_entry_name es n)) (put_arguments o ts) ≡ run (att env a (after_entry (add_entry es n o))) ts
entry None env a es n ts h f = same_start (λ y. is_lparen y ≡ false) (att env a (after_entry_name es n)) (att env a (after_entry (add_entry es n None))) ts f (entry_over env a es n)
entry (Some xs) env a es n ts h f = arguments xs env a es n ts h

after_entries : (es : List Entry) (ts : List Tok) → Starts (λ y. is_lparen y ≡ false) (put_more put_entry es (mark g.RParen ∷ ts))
after_entries [] ts = record { y = t.rparen; more = ts; is = refl; holds = refl }
after_entries (e ∷ es) ts = record { y = t.comma; more = _; is = refl; holds = refl }

more_entries : (es : List Entry) (env : Env) (a : InAttribute) (done : List Entry) (ts : List Tok) → WfAttribute es
    → run (att env a (after_entry done)) (put_more put_entry es (mark g.RParen ∷ ts)) ≡ run (att env a (attribute_closing (done ++ es))) ts
more_entries [] env a done ts h = ap (λ xs. run (att env a (attribute_closing xs)) ts) (sym (append-nil done))
more_entries (e ∷ es) env a done ts h =
    entry e.arguments env a done e.name (put_more put_entry es (mark g.RParen ∷ ts)) h.0.1 (after_entries es ts)
    ∙ more_entries es env a (done ++ e ∷ []) ts h.1
    ∙ ap (λ xs. run (att env a (attribute_closing xs)) ts) (append_assoc done (e ∷ []) es)

pub attribute : (es : List Entry) (env : Env) (a : InAttribute) (ts : List Tok) → WfAttribute es
    → run (att env a attribute_word) (mark g.LParen ∷ mark g.LParen ∷ put_commas put_entry es (mark g.RParen ∷ mark g.RParen ∷ ts)) ≡ run (at env (attribute_done a es)) ts
attribute [] env a ts h = refl
attribute (e ∷ es) env a ts h =
    entry e.arguments env a [] e.name (put_more put_entry es (mark g.RParen ∷ mark g.RParen ∷ ts)) h.0.1 (after_entries es (mark g.RParen ∷ ts))
    ∙ more_entries es env a (e ∷ []) (mark g.RParen ∷ ts) h.1
