-- What a well-formed expression, specs and a declarator spell is read as them.
use Rattle.std.proofs.Common.{◌≡◌, ℕ, ◌≤◌, ◌<◌, Bool, true, false, List, [], ◌∷◌, ◌++◌, Option, Some, None, IsSome, refl, sym, ◌∙◌, ap, append_assoc, append-nil, arith}
use Rattle.c_tree.specs.Tok as g
use Rattle.c_tree.specs.Tok.{Tok, Word, mark, word}
use Rattle.c_tree.specs.Marks.{prefix_mark, record_word}
use Rattle.c_tree.specs.Tree as u
use Rattle.c_tree.specs.Tree.{PrefixOp, Expr, Exprs, MaybeExpr, Specs, MaybeFields, Fields, Declarators, MaybeEnumerators, Enumerators, MaybeDeclarator, Declarator, Params}
use Rattle.c_tree.specs.Put.{put_name, put_comma_if, put, put_exprs, put_more_exprs, put_maybe, put_specs, put_body, put_fields, put_declarators, put_more_declarators, put_list, put_enumerators, put_more_enumerators, put_value, put_maybe_declarator, put_declarator, put_params, put_more_params}
use Rattle.c_tree.specs.Wf.{Env, is_type, prec, level, specified, declared_name, IsSpelled, Wf, WfAll, WfSome, WfMaybe, WfSpecs, WfBody, WfFields, WfMoreFields, WfDeclarators, WfMoreDeclarators, WfList, WfEnumerators, WfMoreEnumerators, WfDeclarator, WfParams}
use Rattle.c_reader.specs.Symbol as t
use Rattle.c_reader.specs.Symbol.{Symbol, tok}
use Rattle.c_reader.specs.Parts as p
use Rattle.c_reader.specs.Parts.{Field, Enumerator, Param, exprs_of, fields_of, enumerators_of, params_of, no_specs, add_keyword, add_type, add_attribute}
use Rattle.c_reader.specs.Inside as i
use Rattle.c_reader.specs.Inside.{Operand, Callee, InExpr, InDeclarator, InSpecs, InFields, InEnum, Mode, State, of_prefix, of_sizeof, of_cast, of_binary, of_assign, of_comma, of_cond, of_function, of_builtin, of_paren, of_index, of_args, of_middle, cast_type, sizeof_type, in_operand, in_bracket, in_value, in_array, in_pointer, in_group, in_field, of_field, of_param, of_type, in_fields, in_enum, in_params, of_specs, in_specs, want_field, want_enumerator, after_enumerator, want_param, want_declarator, array_opened, params_opened, want_expr, after_expr, opened, sizeof_opened, args_opened, want_member, specs, declarator, expr}
use Rattle.c_reader.specs.Begin.{is_empty, open_spec, want_operand}
use Rattle.c_reader.specs.Declarators.{may_be_named, add_field, field_next, param_next, params_next}
use Rattle.c_reader.specs.Specs.{field_begin, add_enumerator, enumerator_end}
use Rattle.c_reader.specs.Exprs.{operand_place, place, tight, needs, take_expr, call_of, made}
use Rattle.c_reader.specs.Machine.{step, run}
use Rattle.c_reader.specs.Exprs as exprs
use Rattle.c_reader.proofs.Go.{at, nat_le_true, pick, skip, goes, Starts}
use Rattle.c_reader.proofs.Lists.{list_exprs, exprs_list, list_fields, fields_list, list_declarators, declarators_list, list_enumerators, enumerators_list, list_params, params_list}
use Rattle.c_reader.proofs.First.{prefix_operator, prefix_tok, prefix_again, passes, BeginsSpecs, is_keyword, passes_spec}
use Rattle.c_reader.proofs.Levels.{prec_small, operand_level_small, place_small, level_some, bears, bears_near, bears_some, bears_high, tight_gap, is_text, Follows, refollow, closer, taker, taken, over, restart, texts, paren_passes, args_passes, array_passes, sized}
use Rattle.c_reader.proofs.Attributes.{attribute}
use Rattle.c_reader.proofs.Ok.{NameFits}
use Rattle.c_reader.proofs.Declared.{NoBrace, SpecsRead, specs_read, no_brace_specs, keyword_read, typedef_read, tag_read, tagged_read, body_opens, arrived_spelled, Free, DeclaratorRead, name_read, qualifiers_read, star_read, pointer_over, unpointed, group_read, group_close, array_opens, params_open, MaybeRead, Ends, spelled_after, param_state, param_steps, param_read, type_read}

-- ---- expressions

abbrev pub Completes : Expr → Type 0
Completes a = (env : Env) (k : InExpr) (ts : List Tok) → Wf env a → place k ≤ level a → Starts (Follows (bears a)) ts
    → run (at env (expr (want_expr k))) (put a ts) ≡ run (at env (expr (after_expr k a))) ts

prefix_read : (env : Env) (o : PrefixOp) (k : InExpr) (ts : List Tok) → run (at env (expr (want_expr k))) (mark (prefix_mark o) ∷ ts) ≡ run (at env (expr (want_expr (in_operand (of_prefix o) k)))) ts
prefix_read env o k ts =
    ap (λ x. run (at env (expr (want_expr k))) (x ∷ ts)) (prefix_tok o)
    ∙ goes (at env (expr (want_expr k))) (at env (expr (want_expr (in_operand (of_prefix o) k)))) (t.operator (prefix_operator o)) ts (ap (want_operand env k) (prefix_again o))

name_again : (env : Env) (n : List ℕ) (k : InExpr) (ts : List Tok) → is_type env n ≡ false → run (at env (expr (want_expr k))) (g.name n ∷ ts) ≡ run (at env (expr (after_expr k (u.Name n)))) ts
name_again env n k ts h = goes (at env (expr (want_expr k))) (at env (expr (after_expr k (u.Name n)))) (t.name n) ts (skip _ _ _ h)

-- a token that takes the expression
takes : (env : Env) (k : InExpr) (a : Expr) (y : Symbol) (ts : List Tok) (m : Mode) → place k ≤ tight y → needs y ≤ level a → take_expr env k a y ≡ Some (at env m)
    → run (at env (expr (after_expr k a))) (tok y ∷ ts) ≡ run (at env m) ts
takes env k a y ts m h n e = goes (at env (expr (after_expr k a))) (at env m) y ts (taken env k a y h n ∙ e)

-- what stands behind an argument
more_follow : (n : ℕ) (xs : Exprs) (ts : List Tok) → 1 ≤ n → Starts (Follows n) (put_more_exprs xs (mark g.RParen ∷ ts))
more_follow n u.no_exprs ts h = closer n t.rparen ts refl refl
more_follow n (u.expr a xs) ts h = record { y = t.comma; more = _; is = refl; holds = (h, refl) }

-- the operand of an operator, which the tokens behind it end
operand : (env : Env) (o : Operand) (k : InExpr) (b : Expr) (ts : List Tok) (n : ℕ) → Completes b → Wf env b → operand_place o ≤ level b
    → Starts (Follows n) ts → ((y : Symbol) → tight y ≤ n → tight y ≤ bears b) → ((y : Symbol) → tight y ≤ n → tight y < operand_place o)
    → run (at env (expr (want_expr (in_operand o k)))) (put b ts) ≡ run (at env (expr (after_expr k (made o b)))) ts
operand env o k b ts n c h l f fb fo =
    c env (in_operand o k) ts h l (refollow n (bears b) ts fb f)
    ∙ over env o k b ts (restart (Follows n) (λ y. tight y < operand_place o) ts (λ y x. fo y x.0) f)

-- ---- enumerators

abbrev pub EndsEnumerator : Symbol → Type 0
EndsEnumerator t.comma = Unit {0}
EndsEnumerator t.rbrace = Unit {0}
EndsEnumerator _ = ⊥

enumerator_follows : (n : ℕ) (y : Symbol) → 1 ≤ n → EndsEnumerator y → Follows n y
enumerator_follows n t.comma h e = (h, refl)
enumerator_follows n t.rbrace h e = (omega arith, refl)
enumerator_follows n (t.name m) h e = absurd e
enumerator_follows n _ h e = absurd e

abbrev value_state : Env → List ℕ → InEnum → MaybeExpr → State
value_state env n e u.no_expr = at env (specs (after_enumerator n e))
value_state env n e (u.some_expr a) = at env (expr (after_expr (in_value n e) a))

value_steps : (v : MaybeExpr) (env : Env) (n : List ℕ) (e : InEnum) (y : Symbol) → EndsEnumerator y → step (value_state env n e v) y ≡ enumerator_end env (add_enumerator e n v) y
value_steps u.no_expr env n e t.comma h = refl
value_steps u.no_expr env n e t.rbrace h = refl
value_steps u.no_expr env n e (t.name m) h = absurd h
value_steps u.no_expr env n e _ h = absurd h
value_steps (u.some_expr a) env n e t.comma h = refl
value_steps (u.some_expr a) env n e t.rbrace h = refl
value_steps (u.some_expr a) env n e (t.name m) h = absurd h
value_steps (u.some_expr a) env n e _ h = absurd h

after_enumerators : (es : Enumerators) (has_comma : Bool) (ts : List Tok) → Starts EndsEnumerator (put_more_enumerators es (put_comma_if has_comma (mark g.RBrace ∷ ts)))
after_enumerators u.no_enumerators false ts = record { y = t.rbrace; more = ts; is = refl; holds = tt }
after_enumerators u.no_enumerators true ts = record { y = t.comma; more = _; is = refl; holds = tt }
after_enumerators (u.Enumerator n v es) has_comma ts = record { y = t.comma; more = _; is = refl; holds = tt }

pub not_empty : {A : Type 0} (xs : List A) (x : A) → is_empty (xs ++ x ∷ []) ≡ false
not_empty [] x = refl
not_empty (z ∷ xs) x = refl

abbrev MaybeCompletes : MaybeExpr → Type 0
MaybeCompletes u.no_expr = Unit {0}
MaybeCompletes (u.some_expr a) = Completes a

value_read : (v : MaybeExpr) → MaybeCompletes v → (env : Env) (n : List ℕ) (e : InEnum) (ts : List Tok) → WfMaybe env v 3 → Starts EndsEnumerator ts
    → run (at env (specs (after_enumerator n e))) (put_value v ts) ≡ run (value_state env n e v) ts
value_read u.no_expr c env n e ts h f = refl
value_read (u.some_expr a) c env n e ts h f = c env (in_value n e) ts h.1 h.0 (restart EndsEnumerator (Follows (bears a)) ts (λ y x. enumerator_follows (bears a) y (bears_some a) x) f)

-- the brace behind the enumerators
enum_close : (has_comma : Bool) (env : Env) (tag : Option (List ℕ)) (done : List Enumerator) (s : p.SpecsRead) (k : InSpecs) (r : State) (ts : List Tok)
    → is_empty done ≡ false → ((y : Symbol) → EndsEnumerator y → step r y ≡ enumerator_end env (in_enum tag done s k) y)
    → run r (put_comma_if has_comma (mark g.RBrace ∷ ts)) ≡ run (at env (specs (in_specs (add_type s (p.enums tag (u.list (enumerators_of done) has_comma))) k))) ts
enum_close false env tag done s k r ts n h = goes r (at env (specs (in_specs (add_type s (p.enums tag (u.list (enumerators_of done) false))) k))) t.rbrace ts (h t.rbrace tt ∙ skip _ _ _ n)
enum_close true env tag done s k r ts n h =
    goes r (at env (specs (want_enumerator (in_enum tag done s k)))) t.comma (mark g.RBrace ∷ ts) (h t.comma tt)
    ∙ goes (at env (specs (want_enumerator (in_enum tag done s k)))) (at env (specs (in_specs (add_type s (p.enums tag (u.list (enumerators_of done) true))) k))) t.rbrace ts (skip _ _ _ n)

abbrev EnumeratorsRead : Enumerators → Type 0
EnumeratorsRead es = (env : Env) (tag : Option (List ℕ)) (done : List Enumerator) (s : p.SpecsRead) (k : InSpecs) (r : State) (has_comma : Bool) (ts : List Tok)
    → WfMoreEnumerators env es → is_empty done ≡ false → ((y : Symbol) → EndsEnumerator y → step r y ≡ enumerator_end env (in_enum tag done s k) y)
    → run r (put_more_enumerators es (put_comma_if has_comma (mark g.RBrace ∷ ts))) ≡ run (at env (specs (in_specs (add_type s (p.enums tag (u.list (enumerators_of (done ++ list_enumerators es)) has_comma))) k))) ts

-- the first enumerator
enum_read : (n : List ℕ) (v : MaybeExpr) (es : Enumerators) → MaybeCompletes v → EnumeratorsRead es → (env : Env) (tag : Option (List ℕ)) (done : List Enumerator) (s : p.SpecsRead) (k : InSpecs) (has_comma : Bool) (ts : List Tok)
    → WfMaybe env v 3 → WfMoreEnumerators env es
    → run (at env (specs (want_enumerator (in_enum tag done s k)))) (g.name n ∷ put_value v (put_more_enumerators es (put_comma_if has_comma (mark g.RBrace ∷ ts))))
    ≡ run (at env (specs (in_specs (add_type s (p.enums tag (u.list (enumerators_of (done ++ record { name = n; value = v } ∷ list_enumerators es)) has_comma))) k))) ts
enum_read n v es c r env tag done s k has_comma ts h hs =
    value_read v c env n (in_enum tag done s k) (put_more_enumerators es (put_comma_if has_comma (mark g.RBrace ∷ ts))) h (after_enumerators es has_comma ts)
    ∙ r env tag (done ++ record { name = n; value = v } ∷ []) s k (value_state env n (in_enum tag done s k) v) has_comma ts hs (not_empty done (record { name = n; value = v })) (value_steps v env n (in_enum tag done s k))
    ∙ ap (λ xs. run (at env (specs (in_specs (add_type s (p.enums tag (u.list (enumerators_of xs) has_comma))) k))) ts) (append_assoc done (record { name = n; value = v } ∷ []) (list_enumerators es))

-- ---- fields

abbrev pub EndsField : Symbol → Type 0
EndsField t.comma = Unit {0}
EndsField t.semi = Unit {0}
EndsField _ = ⊥

field_free : (d : Declarator) (y : Symbol) → IsSome (declared_name d) → EndsField y → Free d y
field_free d t.comma n h = tt
field_free d t.semi n h = n
field_free d (t.name m) n h = absurd h
field_free d _ n h = absurd h

pub name_some : (k : InDeclarator) (n : Option (List ℕ)) → IsSome n → may_be_named k ≡ true → NameFits k n
name_some k None h m = cc
name_some k (Some x) h m = m

pub named_spelled : (d : Declarator) → IsSome (declared_name d) → IsSpelled d
named_spelled (u.PointerTo qs d) h = tt
named_spelled (u.Declared n) h = h
named_spelled (u.Group d) h = tt
named_spelled (u.ArrayOf d n) h = tt
named_spelled (u.FunctionOf d ps) h = tt

field_steps : (env : Env) (f : InFields) (ss : Specs) (ds : List Declarator) (d : Declarator) (y : Symbol) → EndsField y
    → step (at env (declarator (i.after_declarator (in_field f ss ds) d))) y ≡ field_next env f ss (ds ++ d ∷ []) y
field_steps env f ss ds d t.comma h = refl
field_steps env f ss ds d t.semi h = refl
field_steps env f ss ds d (t.name m) h = absurd h
field_steps env f ss ds d _ h = absurd h

after_fields : (ds : Declarators) (ts : List Tok) → Starts EndsField (put_more_declarators ds (mark g.Semi ∷ ts))
after_fields u.no_declarators ts = record { y = t.semi; more = ts; is = refl; holds = tt }
after_fields (u.declarator d ds) ts = record { y = t.comma; more = _; is = refl; holds = tt }

field_declarator : (d : Declarator) → DeclaratorRead d → (env : Env) (f : InFields) (ss : Specs) (done : List Declarator) (ts : List Tok) → IsSome (declared_name d) → WfDeclarator env d → Starts EndsField ts
    → run (at env (declarator (want_declarator (in_field f ss done)))) (put_declarator d ts) ≡ run (at env (declarator (i.after_declarator (in_field f ss done) d))) ts
field_declarator d r env f ss done ts n h x =
    r env (in_field f ss done) ts h (name_some (in_field f ss done) (declared_name d) n refl) (restart EndsField (Free d) ts (λ y e. field_free d y n e) x)
    ∙ ap (λ z. run (at env (declarator z)) ts) (arrived_spelled (in_field f ss done) d (named_spelled d n))

abbrev MoreDeclaratorsRead : Declarators → Type 0
MoreDeclaratorsRead ds = (env : Env) (f : InFields) (ss : Specs) (done : List Declarator) (r : State) (ts : List Tok) → WfMoreDeclarators env ds
    → ((y : Symbol) → EndsField y → step r y ≡ field_next env f ss done y)
    → run r (put_more_declarators ds (mark g.Semi ∷ ts)) ≡ run (at env (specs (want_field (add_field f ss (done ++ list_declarators ds))))) ts

abbrev DeclaratorsRead : Declarators → Type 0
DeclaratorsRead u.no_declarators = Unit {0}
DeclaratorsRead (u.declarator d ds) = DeclaratorRead d × MoreDeclaratorsRead ds

field_over : (env : Env) (f : InFields) (y : Symbol) → BeginsSpecs env false y → field_begin env f y ≡ open_spec env no_specs (of_field f) y
field_over env f t.rbrace b = cc
field_over env f (t.name n) b = pick _ _ _ b
field_over env f (t.keyword w) b = refl
field_over env f (t.tagged x) b = refl
field_over env f t.attribute b = refl
field_over env f _ b = cc

add_field_at : (is_union : Bool) (tag : Option (List ℕ)) (done : List Field) (s : p.SpecsRead) (k : InSpecs) (ss : Specs) (ds : Declarators)
    → add_field (in_fields is_union tag done s k) ss (list_declarators ds) ≡ in_fields is_union tag (done ++ record { specs = ss; declarators = ds } ∷ []) s k
add_field_at is_union tag done s k ss ds = ap (λ x. in_fields is_union tag (done ++ record { specs = ss; declarators = x } ∷ []) s k) (declarators_list ds)

-- one field
field_read : (ss : Specs) (ds : Declarators) → SpecsRead ss → DeclaratorsRead ds → (env : Env) (is_union : Bool) (tag : Option (List ℕ)) (done : List Field) (s : p.SpecsRead) (k : InSpecs) (ts : List Tok)
    → (ss ≡ u.no_specs → ⊥) → WfSpecs env false ss → WfDeclarators env (specified false ss) ds
    → run (at env (specs (want_field (in_fields is_union tag done s k)))) (put_specs ss (put_declarators ds (mark g.Semi ∷ ts)))
    ≡ run (at env (specs (want_field (in_fields is_union tag (done ++ record { specs = ss; declarators = ds } ∷ []) s k)))) ts
field_read ss u.no_declarators rs rd env is_union tag done s k ts n hs hd = absurd hd
field_read ss (u.declarator d ds) rs rd env is_union tag done s k ts n hs hd =
    passes_spec env (specs (want_field (in_fields is_union tag done s k))) (of_field (in_fields is_union tag done s k)) ss (put_declarators (u.declarator d ds) (mark g.Semi ∷ ts)) (field_over env (in_fields is_union tag done s k)) n hs
    ∙ specs_read ss rs env (of_field (in_fields is_union tag done s k)) (put_declarators (u.declarator d ds) (mark g.Semi ∷ ts)) hs (spelled_after env (specified false ss) d (put_more_declarators ds (mark g.Semi ∷ ts)) (named_spelled d hd.0) hd.1 hd.2)
    ∙ field_declarator d rd.0 env (in_fields is_union tag done s k) ss [] (put_more_declarators ds (mark g.Semi ∷ ts)) hd.0 hd.2 (after_fields ds ts)
    ∙ rd.1 env (in_fields is_union tag done s k) ss (d ∷ []) (at env (declarator (i.after_declarator (in_field (in_fields is_union tag done s k) ss []) d))) ts hd.3 (field_steps env (in_fields is_union tag done s k) ss [] d)
    ∙ ap (λ x. run (at env (specs (want_field x))) ts) (add_field_at is_union tag done s k ss (u.declarator d ds))

abbrev FieldsRead : Fields → Type 0
FieldsRead fs = (env : Env) (is_union : Bool) (tag : Option (List ℕ)) (done : List Field) (s : p.SpecsRead) (k : InSpecs) (ts : List Tok) → WfMoreFields env fs → (fs ≡ u.no_fields → is_empty done ≡ false)
    → run (at env (specs (want_field (in_fields is_union tag done s k)))) (put_fields fs (mark g.RBrace ∷ ts)) ≡ run (at env (specs (in_specs (add_type s (p.records is_union tag (u.body (fields_of (done ++ list_fields fs))))) k))) ts

-- ---- parameters

after_param : (ps : Params) (ts : List Tok) → Starts Ends (put_more_params ps (mark g.RParen ∷ ts))
after_param u.no_params ts = record { y = t.rparen; more = ts; is = refl; holds = tt }
after_param (u.Param ss m ps) ts = record { y = t.comma; more = _; is = refl; holds = tt }

abbrev MoreParamsRead : Params → Type 0
MoreParamsRead ps = (env : Env) (d : Declarator) (done : List Param) (k : InDeclarator) (r : State) (ts : List Tok) → WfParams env ps
    → ((y : Symbol) → Ends y → step r y ≡ param_next env (in_params d done k) y)
    → run r (put_more_params ps (mark g.RParen ∷ ts)) ≡ run (at env (declarator (i.after_declarator k (u.FunctionOf d (params_of (done ++ list_params ps)))))) ts

params_over : (env : Env) (d : Declarator) (k : InDeclarator) (y : Symbol) → BeginsSpecs env false y → params_next env d k y ≡ open_spec env no_specs (of_param (in_params d [] k)) y
params_over env d k t.rparen b = cc
params_over env d k (t.name n) b = pick _ _ _ b
params_over env d k (t.keyword w) b = refl
params_over env d k (t.tagged x) b = refl
params_over env d k t.attribute b = refl
params_over env d k _ b = cc

-- one parameter, and those behind it
some_params : (ss : Specs) (m : MaybeDeclarator) (ps : Params) → SpecsRead ss → MaybeRead m → MoreParamsRead ps → (env : Env) (d : Declarator) (done : List Param) (k : InDeclarator) (ts : List Tok)
    → WfParams env (u.Param ss m ps)
    → run (at env (specs (in_specs no_specs (of_param (in_params d done k))))) (put_specs ss (put_maybe_declarator m (put_more_params ps (mark g.RParen ∷ ts))))
    ≡ run (at env (declarator (i.after_declarator k (u.FunctionOf d (params_of (done ++ record { specs = ss; declarator = m } ∷ list_params ps)))))) ts
some_params ss m ps rs rm rp env d done k ts h =
    param_read ss m rs rm env (in_params d done k) (put_more_params ps (mark g.RParen ∷ ts)) h.1 h.2 (after_param ps ts)
    ∙ rp env d (done ++ record { specs = ss; declarator = m } ∷ []) k (param_state env (in_params d done k) ss m) ts h.3 (param_steps m env (in_params d done k) ss)
    ∙ ap (λ xs. run (at env (declarator (i.after_declarator k (u.FunctionOf d (params_of xs))))) ts) (append_assoc done (record { specs = ss; declarator = m } ∷ []) (list_params ps))

abbrev ParamsRead : Params → Type 0
ParamsRead ps = (env : Env) (d : Declarator) (k : InDeclarator) (ts : List Tok) → WfParams env ps
    → run (at env (declarator (params_opened d k))) (put_params ps (mark g.RParen ∷ ts)) ≡ run (at env (declarator (i.after_declarator k (u.FunctionOf d ps)))) ts

-- ---- lists of arguments

abbrev MoreArgsRead : Exprs → Type 0
MoreArgsRead xs = (env : Env) (k : InExpr) (c : Callee) (done : List Expr) (a : Expr) (ts : List Tok) → WfAll env xs
    → run (at env (expr (after_expr (in_bracket (of_args c done) k) a))) (put_more_exprs xs (mark g.RParen ∷ ts)) ≡ run (at env (expr (after_expr k (call_of c (exprs_of (done ++ a ∷ list_exprs xs)))))) ts

-- one argument, and those behind it
some_args : (a : Expr) (xs : Exprs) → Completes a → MoreArgsRead xs → (env : Env) (k : InExpr) (c : Callee) (done : List Expr) (ts : List Tok) → WfAll env (u.expr a xs)
    → run (at env (expr (want_expr (in_bracket (of_args c done) k)))) (put a (put_more_exprs xs (mark g.RParen ∷ ts))) ≡ run (at env (expr (after_expr k (call_of c (exprs_of (done ++ a ∷ list_exprs xs)))))) ts
some_args a xs ca cx env k c done ts h =
    ca env (in_bracket (of_args c done) k) (put_more_exprs xs (mark g.RParen ∷ ts)) h.1 h.0 (more_follow (bears a) xs ts (bears_some a))
    ∙ cx env k c done a ts h.2

open_cast_over : (env : Env) (k : InExpr) (y : Symbol) → place k ≤ 14 → BeginsSpecs env false y → exprs.paren_next env k y ≡ open_spec env no_specs (of_type cast_type k) y
open_cast_over env k y h b = pick _ _ _ b ∙ pick _ _ _ (nat_le_true h)

array_size : (m : MaybeExpr) → MaybeCompletes m → (env : Env) (d : Declarator) (k : InDeclarator) (ts : List Tok) → WfMaybe env m 3
    → run (at env (declarator (array_opened d k))) (put_maybe m (mark g.RBracket ∷ ts)) ≡ run (at env (declarator (i.after_declarator k (u.ArrayOf d m)))) ts
array_size u.no_expr c env d k ts h = refl
array_size (u.some_expr a) c env d k ts h =
    passes env (declarator (array_opened d k)) (in_array d k) a (mark g.RBracket ∷ ts) (array_passes env d k) h.1
    ∙ c env (in_array d k) (mark g.RBracket ∷ ts) h.1 h.0 (closer (bears a) t.rbracket ts refl refl)

name_inside : (d : Declarator) (k : InDeclarator) (qs : List Word) → NameFits k (declared_name d) → NameFits (in_pointer qs k) (declared_name d)
name_inside d k qs h = fits (declared_name d) h
  where
    fits : (n : Option (List ℕ)) → NameFits k n → NameFits (in_pointer qs k) n
    fits None h = h
    fits (Some n) h = h

name_grouped : (d : Declarator) (k : InDeclarator) → NameFits k (declared_name d) → NameFits (in_group k) (declared_name d)
name_grouped d k h = fits (declared_name d) h
  where
    fits : (n : Option (List ℕ)) → NameFits k n → NameFits (in_group k) n
    fits None h = h
    fits (Some n) h = h

mutual
  pub complete : (a : Expr) → Completes a
  complete (u.Comma a b) env k ts h l f =
      complete a env k _ h.0 (let s = level_some a in omega arith) (record { y = t.comma; more = put b ts; is = refl; holds = (bears_some a, refl) })
      ∙ takes env k a t.comma (put b ts) (expr (want_expr (in_operand (of_comma a) k))) l (omega arith) refl
      ∙ operand env (of_comma a) k b ts 1 (complete b) h.2 h.1 f (λ y x. let s = bears_some b in omega arith) (λ y x. omega arith)
  complete (u.Assign a o b) env k ts h l f =
      complete a env k _ h.1 (let s = h.0 in omega arith) (taker (bears a) (t.assign o) (put b ts) (let s = h.0 in let r = bears_near a in omega arith))
      ∙ takes env k a (t.operator (t.assign o)) (put b ts) (expr (want_expr (in_operand (of_assign a o) k))) l h.0 refl
      ∙ operand env (of_assign a o) k b ts 1 (complete b) h.3 h.2 f (λ y x. let s = bears_some b in omega arith) (λ y x. omega arith)
  complete (u.Cond c a b) env k ts h l f =
      complete c env k _ h.1 (let s = h.0 in omega arith) (taker (bears c) t.question (put a (mark g.Colon ∷ put b ts)) (let s = h.0 in let r = bears_near c in omega arith))
      ∙ takes env k c (t.operator t.question) (put a (mark g.Colon ∷ put b ts)) (expr (want_expr (in_bracket (of_middle c) k))) l h.0 refl
      ∙ complete a env (in_bracket (of_middle c) k) (mark g.Colon ∷ put b ts) h.2 (level_some a) (closer (bears a) t.colon (put b ts) refl refl)
      ∙ operand env (of_cond c a) k b ts 2 (complete b) h.4 h.3 f (λ y x. let s = h.3 in let r = bears_near b in omega arith) (λ y x. omega arith)
  complete (u.Binary a o b) env k ts h l f =
      complete a env k _ h.1 (let s = h.0 in omega arith) (taker (bears a) (t.binary o) (put b ts) (let s = h.0 in let q = (prec_small o).0 in let r = bears_high a (omega arith) in omega arith))
      ∙ takes env k a (t.operator (t.binary o)) (put b ts) (expr (want_expr (in_operand (of_binary a o) k))) l h.0 refl
      ∙ operand env (of_binary a o) k b ts (prec o) (complete b) h.3 h.2 f (λ y x. let s = h.2 in let r = bears_near b in omega arith) (λ y x. omega arith)
  complete (u.Cast ss d a) env k ts h l f =
      passes_spec env (expr (opened k)) (of_type cast_type k) ss (put_maybe_declarator d (mark g.RParen ∷ put a ts)) (λ y b. open_cast_over env k y l b) h.0 h.1
      ∙ type_read ss d (specs_complete ss) (maybe_complete d) env cast_type k (put a ts) h.1 h.2
      ∙ operand env (of_cast ss d) k a ts 14 (complete a) h.4 h.3 f (λ y x. let q = tight_gap y (omega arith) in let s = h.3 in let r = bears_near a in omega arith) (λ y x. let q = tight_gap y (omega arith) in omega arith)
  complete (u.Prefix o a) env k ts h l f =
      prefix_read env o k (put a ts)
      ∙ operand env (of_prefix o) k a ts 15 (complete a) h.1 h.0 f (λ y x. let q = tight_gap y x in let s = h.0 in let e = (operand_level_small o).0 in let r = bears_near a in omega arith) (λ y x. let q = tight_gap y x in let e = (operand_level_small o).0 in omega arith)
  complete (u.SizeofExpr a) env k ts h l f =
      sized a env k ts h.1 h.0
      ∙ operand env of_sizeof k a ts 15 (complete a) h.1 h.0 f (λ y x. let q = tight_gap y x in let s = h.0 in let r = bears_near a in omega arith) (λ y x. let q = tight_gap y x in omega arith)
  complete (u.SizeofType ss d) env k ts h l f =
      passes_spec env (expr (sizeof_opened k)) (of_type sizeof_type k) ss (put_maybe_declarator d (mark g.RParen ∷ ts)) (λ y b. pick _ _ _ b) h.0 h.1
      ∙ type_read ss d (specs_complete ss) (maybe_complete d) env sizeof_type k ts h.1 h.2
  complete (u.Index a b) env k ts h l f =
      complete a env k _ h.1 (let s = h.0 in let q = (place_small k).1 in omega arith) (record { y = t.lbracket; more = put b (mark g.RBracket ∷ ts); is = refl; holds = (let s = h.0 in let r = bears_high a (omega arith) in omega arith, refl) })
      ∙ takes env k a t.lbracket (put b (mark g.RBracket ∷ ts)) (expr (want_expr (in_bracket (of_index a) k))) (let q = (place_small k).1 in omega arith) h.0 refl
      ∙ complete b env (in_bracket (of_index a) k) (mark g.RBracket ∷ ts) h.2 (level_some b) (closer (bears b) t.rbracket ts refl refl)
  complete (u.Call a xs) env k ts h l f =
      complete a env k _ h.1 (let s = h.0 in let q = (place_small k).1 in omega arith) (record { y = t.lparen; more = put_exprs xs (mark g.RParen ∷ ts); is = refl; holds = (let s = h.0 in let r = bears_high a (omega arith) in omega arith, refl) })
      ∙ takes env k a t.lparen (put_exprs xs (mark g.RParen ∷ ts)) (expr (args_opened a k)) (let q = (place_small k).1 in omega arith) h.0 refl
      ∙ args xs env k a ts h.2
  complete (u.Dot a n) env k ts h l f =
      complete a env k _ h.1 (let s = h.0 in let q = (place_small k).1 in omega arith) (taker (bears a) (t.member t.Dot) (g.name n ∷ ts) (let s = h.0 in let r = bears_high a (omega arith) in omega arith))
      ∙ takes env k a (t.operator (t.member t.Dot)) (g.name n ∷ ts) (expr (want_member a t.Dot k)) (let q = (place_small k).1 in omega arith) h.0 refl
  complete (u.Arrow a n) env k ts h l f =
      complete a env k _ h.1 (let s = h.0 in let q = (place_small k).1 in omega arith) (taker (bears a) (t.member t.Arrow) (g.name n ∷ ts) (let s = h.0 in let r = bears_high a (omega arith) in omega arith))
      ∙ takes env k a (t.operator (t.member t.Arrow)) (g.name n ∷ ts) (expr (want_member a t.Arrow k)) (let q = (place_small k).1 in omega arith) h.0 refl
  complete (u.Post a s) env k ts h l f =
      complete a env k _ h.1 (let s = h.0 in let q = (place_small k).1 in omega arith) (taker (bears a) (t.step s) ts (let s = h.0 in let r = bears_high a (omega arith) in omega arith))
      ∙ takes env k a (t.operator (t.step s)) ts (expr (after_expr k (u.Post a s))) (let q = (place_small k).1 in omega arith) h.0 refl
  complete (u.Name n) env k ts h l f = name_again env n k ts h.1
  complete (u.Number n) env k ts h l f = refl
  complete (u.Char n) env k ts h l f = refl
  complete (u.Text []) env k ts h l f = absurd (h.0 refl)
  complete (u.Text (n ∷ ns)) env k ts h l f = texts ns (n ∷ []) env k ts (restart (Follows 16) (λ y. is_text y ≡ false) ts (λ y x. x.1) f)
  complete (u.Paren a) env k ts h l f =
      passes env (expr (opened k)) (in_bracket of_paren k) a (mark g.RParen ∷ ts) (paren_passes env k) h
      ∙ complete a env (in_bracket of_paren k) (mark g.RParen ∷ ts) h (level_some a) (closer (bears a) t.rparen ts refl refl)
  complete (u.Builtin xs) env k ts h l f = builtin_args xs env k ts h

  args : (xs : Exprs) (env : Env) (k : InExpr) (f : Expr) (ts : List Tok) → WfAll env xs
      → run (at env (expr (args_opened f k))) (put_exprs xs (mark g.RParen ∷ ts)) ≡ run (at env (expr (after_expr k (u.Call f xs)))) ts
  args u.no_exprs env k f ts h = refl
  args (u.expr a xs) env k f ts h =
      passes env (expr (args_opened f k)) (in_bracket (of_args (of_function f) []) k) a (put_more_exprs xs (mark g.RParen ∷ ts)) (args_passes env f k) h.1
      ∙ some_args a xs (complete a) (more_args xs) env k (of_function f) [] ts h
      ∙ ap (λ ys. run (at env (expr (after_expr k (u.Call f (u.expr a ys))))) ts) (exprs_list xs)

  builtin_args : (xs : Exprs) (env : Env) (k : InExpr) (ts : List Tok) → WfSome env xs
      → run (at env (expr (want_expr k))) (put (u.Builtin xs) ts) ≡ run (at env (expr (after_expr k (u.Builtin xs)))) ts
  builtin_args u.no_exprs env k ts h = absurd h
  builtin_args (u.expr a xs) env k ts h =
      some_args a xs (complete a) (more_args xs) env k of_builtin [] ts h
      ∙ ap (λ ys. run (at env (expr (after_expr k (u.Builtin (u.expr a ys))))) ts) (exprs_list xs)

  more_args : (xs : Exprs) → MoreArgsRead xs
  more_args u.no_exprs env k c done a ts h = refl
  more_args (u.expr b xs) env k c done a ts h =
      some_args b xs (complete b) (more_args xs) env k c (done ++ a ∷ []) ts h
      ∙ ap (λ ys. run (at env (expr (after_expr k (call_of c (exprs_of ys))))) ts) (append_assoc done (a ∷ []) (b ∷ list_exprs xs))

  maybe_expr : (m : MaybeExpr) → MaybeCompletes m
  maybe_expr u.no_expr = tt
  maybe_expr (u.some_expr a) = complete a

  pub specs_complete : (ss : Specs) → SpecsRead ss
  specs_complete u.no_specs env s k ts h f = refl
  specs_complete (u.Keyword w ss) env s k ts h f =
      keyword_read w env s k (put_specs ss ts) (is_keyword w h.0)
      ∙ specs_complete ss env (add_keyword s w) k ts h.1 f
  specs_complete (u.Typedef n ss) env s k ts h f =
      typedef_read n env s k (put_specs ss ts) h.2 h.1
      ∙ specs_complete ss env (add_type s (p.typedef_name n)) k ts h.3 f
  specs_complete (u.Attribute es ss) env s k ts h f =
      attribute es env (of_specs s k) (put_specs ss ts) h.0
      ∙ specs_complete ss env (add_attribute s es) k ts h.1 f
  specs_complete (u.Record b tag fs ss) env s k ts h f =
      body_complete fs env b tag s k (put_specs ss ts) h.1 (no_brace_specs ss env true ts h.2 f)
      ∙ specs_complete ss env (add_type s (p.records b tag fs)) k ts h.2 f
  specs_complete (u.Enum tag es ss) env s k ts h f =
      list_complete es env tag s k (put_specs ss ts) h.1 (no_brace_specs ss env true ts h.2 f)
      ∙ specs_complete ss env (add_type s (p.enums tag es)) k ts h.2 f

  body_complete : (m : MaybeFields) (env : Env) (b : Bool) (tag : Option (List ℕ)) (s : p.SpecsRead) (k : InSpecs) (ts : List Tok) → WfBody env (tag ≡ None) m → Starts NoBrace ts
      → run (at env (specs (in_specs s k))) (word (record_word b) ∷ put_name tag (put_body m ts)) ≡ run (at env (specs (in_specs (add_type s (p.records b tag m)) k))) ts
  body_complete u.no_body env b None s k ts h f = absurd (h refl)
  body_complete u.no_body env b (Some n) s k ts h f = tagged_read env (t.records b) s k (g.name n ∷ ts) ∙ tag_read env (t.records b) n s k ts f
  body_complete (u.body fs) env b tag s k ts h f =
      body_opens env (t.records b) tag s k (put_fields fs (mark g.RBrace ∷ ts))
      ∙ some_fields fs env b tag s k ts h

  some_fields : (fs : Fields) (env : Env) (b : Bool) (tag : Option (List ℕ)) (s : p.SpecsRead) (k : InSpecs) (ts : List Tok) → WfFields env fs
      → run (at env (specs (want_field (in_fields b tag [] s k)))) (put_fields fs (mark g.RBrace ∷ ts)) ≡ run (at env (specs (in_specs (add_type s (p.records b tag (u.body fs))) k))) ts
  some_fields u.no_fields env b tag s k ts h = absurd h
  some_fields (u.Field ss ds fs) env b tag s k ts h =
      field_read ss ds (specs_complete ss) (declarators_complete ds) env b tag [] s k (put_fields fs (mark g.RBrace ∷ ts)) h.0 h.1 h.2
      ∙ fields_complete fs env b tag (record { specs = ss; declarators = ds } ∷ []) s k ts h.3 (λ e. refl)
      ∙ ap (λ xs. run (at env (specs (in_specs (add_type s (p.records b tag (u.body (u.Field ss ds xs)))) k))) ts) (fields_list fs)

  fields_complete : (fs : Fields) → FieldsRead fs
  fields_complete u.no_fields env b tag done s k ts h n =
      goes (at env (specs (want_field (in_fields b tag done s k)))) (at env (specs (in_specs (add_type s (p.records b tag (u.body (fields_of done)))) k))) t.rbrace ts (skip _ _ _ (n refl))
      ∙ ap (λ xs. run (at env (specs (in_specs (add_type s (p.records b tag (u.body (fields_of xs)))) k))) ts) (sym (append-nil done))
  fields_complete (u.Field ss ds fs) env b tag done s k ts h n =
      field_read ss ds (specs_complete ss) (declarators_complete ds) env b tag done s k (put_fields fs (mark g.RBrace ∷ ts)) h.0 h.1 h.2
      ∙ fields_complete fs env b tag (done ++ record { specs = ss; declarators = ds } ∷ []) s k ts h.3 (λ e. not_empty done (record { specs = ss; declarators = ds }))
      ∙ ap (λ xs. run (at env (specs (in_specs (add_type s (p.records b tag (u.body (fields_of xs)))) k))) ts) (append_assoc done (record { specs = ss; declarators = ds } ∷ []) (list_fields fs))

  declarators_complete : (ds : Declarators) → DeclaratorsRead ds
  declarators_complete u.no_declarators = tt
  declarators_complete (u.declarator d ds) = (declarator_complete d, more_declarators ds)

  more_declarators : (ds : Declarators) → MoreDeclaratorsRead ds
  more_declarators u.no_declarators env f ss done r ts h e =
      goes r (at env (specs (want_field (add_field f ss done)))) t.semi ts (e t.semi tt)
      ∙ ap (λ xs. run (at env (specs (want_field (add_field f ss xs)))) ts) (sym (append-nil done))
  more_declarators (u.declarator d ds) env f ss done r ts h e =
      goes r (at env (declarator (want_declarator (in_field f ss done)))) t.comma (put_declarator d (put_more_declarators ds (mark g.Semi ∷ ts))) (e t.comma tt)
      ∙ field_declarator d (declarator_complete d) env f ss done (put_more_declarators ds (mark g.Semi ∷ ts)) h.0 h.1 (after_fields ds ts)
      ∙ more_declarators ds env f ss (done ++ d ∷ []) (at env (declarator (i.after_declarator (in_field f ss done) d))) ts h.2 (field_steps env f ss done d)
      ∙ ap (λ xs. run (at env (specs (want_field (add_field f ss xs)))) ts) (append_assoc done (d ∷ []) (list_declarators ds))

  list_complete : (m : MaybeEnumerators) (env : Env) (tag : Option (List ℕ)) (s : p.SpecsRead) (k : InSpecs) (ts : List Tok) → WfList env (tag ≡ None) m → Starts NoBrace ts
      → run (at env (specs (in_specs s k))) (word g.KEnum ∷ put_name tag (put_list m ts)) ≡ run (at env (specs (in_specs (add_type s (p.enums tag m)) k))) ts
  list_complete u.no_list env None s k ts h f = absurd (h refl)
  list_complete u.no_list env (Some n) s k ts h f = tagged_read env t.enums s k (g.name n ∷ ts) ∙ tag_read env t.enums n s k ts f
  list_complete (u.list es has_comma) env tag s k ts h f =
      body_opens env t.enums tag s k (put_enumerators es (put_comma_if has_comma (mark g.RBrace ∷ ts)))
      ∙ some_enumerators es env tag s k has_comma ts h

  some_enumerators : (es : Enumerators) (env : Env) (tag : Option (List ℕ)) (s : p.SpecsRead) (k : InSpecs) (has_comma : Bool) (ts : List Tok) → WfEnumerators env es
      → run (at env (specs (want_enumerator (in_enum tag [] s k)))) (put_enumerators es (put_comma_if has_comma (mark g.RBrace ∷ ts))) ≡ run (at env (specs (in_specs (add_type s (p.enums tag (u.list es has_comma))) k))) ts
  some_enumerators u.no_enumerators env tag s k has_comma ts h = absurd h
  some_enumerators (u.Enumerator n v es) env tag s k has_comma ts h =
      enum_read n v es (maybe_expr v) (enumerators_complete es) env tag [] s k has_comma ts h.1 h.2
      ∙ ap (λ xs. run (at env (specs (in_specs (add_type s (p.enums tag (u.list (u.Enumerator n v xs) has_comma))) k))) ts) (enumerators_list es)

  enumerators_complete : (es : Enumerators) → EnumeratorsRead es
  enumerators_complete u.no_enumerators env tag done s k r has_comma ts h n e =
      enum_close has_comma env tag done s k r ts n e
      ∙ ap (λ xs. run (at env (specs (in_specs (add_type s (p.enums tag (u.list (enumerators_of xs) has_comma))) k))) ts) (sym (append-nil done))
  enumerators_complete (u.Enumerator m v es) env tag done s k r has_comma ts h n e =
      goes r (at env (specs (want_enumerator (in_enum tag done s k)))) t.comma (g.name m ∷ put_value v (put_more_enumerators es (put_comma_if has_comma (mark g.RBrace ∷ ts)))) (e t.comma tt)
      ∙ enum_read m v es (maybe_expr v) (enumerators_complete es) env tag done s k has_comma ts h.1 h.2

  maybe_complete : (m : MaybeDeclarator) → MaybeRead m
  maybe_complete u.no_declarator = tt
  maybe_complete (u.some_declarator d) = declarator_complete d

  pub declarator_complete : (d : Declarator) → DeclaratorRead d
  declarator_complete (u.PointerTo qs d) env k ts h n f =
      qualifiers_read qs [] env k (put_declarator d ts) h.0
      ∙ star_read env qs k d ts (unpointed qs d ts f)
      ∙ declarator_complete d env (in_pointer qs k) ts h.1 (name_inside d k qs n) (unpointed qs d ts f)
      ∙ pointer_over d env qs k ts n f
  declarator_complete (u.Declared None) env k ts h n f = refl
  declarator_complete (u.Declared (Some m)) env k ts h n f = name_read env k m ts n
  declarator_complete (u.Group d) env k ts h n f =
      group_read env k d (mark g.RParen ∷ ts) h.0 h.1 h.2
      ∙ declarator_complete d env (in_group k) (mark g.RParen ∷ ts) h.2 (name_grouped d k n) (record { y = t.rparen; more = ts; is = refl; holds = tt })
      ∙ group_close env k d ts h.0
  declarator_complete (u.ArrayOf d m) env k ts h n f =
      declarator_complete d env k (mark g.LBracket ∷ put_maybe m (mark g.RBracket ∷ ts)) h.1 n (record { y = t.lbracket; more = _; is = refl; holds = h.0 })
      ∙ array_opens d env k (put_maybe m (mark g.RBracket ∷ ts)) n
      ∙ array_size m (maybe_expr m) env d k ts h.2
  declarator_complete (u.FunctionOf d ps) env k ts h n f =
      declarator_complete d env k (mark g.LParen ∷ put_params ps (mark g.RParen ∷ ts)) h.1 n (record { y = t.lparen; more = _; is = refl; holds = h.0 })
      ∙ params_open d ps env k ts n h.2
      ∙ params_complete ps env d k ts h.2

  params_complete : (ps : Params) → ParamsRead ps
  params_complete u.no_params env d k ts h = refl
  params_complete (u.Param ss m ps) env d k ts h =
      passes_spec env (declarator (params_opened d k)) (of_param (in_params d [] k)) ss (put_maybe_declarator m (put_more_params ps (mark g.RParen ∷ ts))) (params_over env d k) h.0 h.1
      ∙ some_params ss m ps (specs_complete ss) (maybe_complete m) (more_params ps) env d [] k ts h
      ∙ ap (λ xs. run (at env (declarator (i.after_declarator k (u.FunctionOf d (u.Param ss m xs))))) ts) (params_list ps)

  more_params : (ps : Params) → MoreParamsRead ps
  more_params u.no_params env d done k r ts h e =
      goes r (at env (declarator (i.after_declarator k (u.FunctionOf d (params_of done))))) t.rparen ts (e t.rparen tt)
      ∙ ap (λ xs. run (at env (declarator (i.after_declarator k (u.FunctionOf d (params_of xs))))) ts) (sym (append-nil done))
  more_params (u.Param ss m ps) env d done k r ts h e =
      goes r (at env (specs (want_param (in_params d done k)))) t.comma (put_specs ss (put_maybe_declarator m (put_more_params ps (mark g.RParen ∷ ts)))) (e t.comma tt)
      ∙ passes_spec env (specs (want_param (in_params d done k))) (of_param (in_params d done k)) ss (put_maybe_declarator m (put_more_params ps (mark g.RParen ∷ ts))) (λ y b. pick _ _ _ b) h.0 h.1
      ∙ some_params ss m ps (specs_complete ss) (maybe_complete m) (more_params ps) env d done k ts h
