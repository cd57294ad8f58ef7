-- Numbers and places are kept: declarators, fields, parameters and type names.
use Rattle.std.proofs.Common.{ℕ, suc, false, List, [], ◌∷◌, ◌++◌, sym, ◌∙◌, ap}
use Rattle.tok_base.specs.declared.token.Span.{Span}
use Rattle.c_tree.specs.Tok as g
use Rattle.c_tree.specs.Tok.{Word}
use Rattle.c_tree.specs.Marked as u
use Rattle.c_tree.specs.Marked.{TypeName, type_name, Specs, Declarator, MaybeDeclarator}
use Rattle.c_tree.specs.Pieces.{token, pieces_commas, pieces_name, pieces_word, pieces_type, pieces_specs, pieces_declarator, pieces_maybe_declarator, pieces_item}
use Rattle.c_tree.specs.Marks.{record_word}
use Rattle.c_tree.specs.Wf.{Env, is_qualifier}
use Rattle.c_reader.specs.Symbol as t
use Rattle.c_reader.specs.Symbol.{Symbol, keyword_word}
use Rattle.c_reader.specs.Begin.{is_empty, begins_specs}
use Rattle.c_reader.specs.Declarators.{is_star}
use Rattle.c_reader.specs.MarkedParts as mp
use Rattle.c_reader.specs.MarkedParts.{Open, Had, mark, with_part, whole, Param, declarators_of}
use Rattle.c_reader.specs.MarkedInside.{InExpr, InDeclarator, InFields, InParams, InItems, TypePlace, cast_type, sizeof_type, in_array, in_pointer, in_group, in_item, in_field, in_param, in_type, of_param, in_fields, in_params}
use Rattle.c_reader.specs.MarkedDeclarators as r
use Rattle.c_reader.proofs.Marks.{Spot, spot, Opened, more, same_opened, with_token, no_name, joined, begun, leaf, begun_nameless, nameless_late, closed, pieces_done, all-last, done-last, commas-last, all_empty, fields-last, declarators-commas, pieces_param, params-commas, by_test, by_cases}
use Rattle.c_reader.proofs.MarksAt.{AtItems, AtExpr, AtDeclarator, AtFields, AtParams, pieces_place, Good}
use Rattle.c_reader.proofs.MarksDeclarations.{begin_specs_at, first_spec_at, want_at, items_at, close_item_at}

-- ---- the end of a declarator

-- a field whose ; is read
field_added_at : (z : Spot) (n e : ℕ) (node : Open) (f : InFields) (ss : Specs) (ds : List Declarator) (s : Span) (left : List Span)
    → Opened (AtFields z f) node.from (λ ps. pieces_specs ss (pieces_commas pieces_declarator ds ps)) (spot n e (s ∷ left))
    → AtFields z (r.add_field n node f ss ds s) (spot (suc n) s.end left)
field_added_at z n e node (in_fields f_node is_union tag fs so_far k) ss ds s left o =
    same_opened (λ ps. ap (λ qs. token (g.word (record_word is_union)) ∷ pieces_name tag (token (g.mark g.LBrace) ∷ qs))
    (fields-last fs (record { at = mark node.from s.end n; specs = ss; declarators = declarators_of ds }) ps))
    (joined (closed n s.end left
    (same_opened (λ ps. ap (pieces_specs ss) (declarators-commas ds (token (g.mark g.Semi) ∷ ps))) (with_token (g.mark g.Semi) n e s left o))))

field_at : (z : Spot) (n e : ℕ) (env : Env) (node : Open) (f : InFields) (ss : Specs) (ds : List Declarator) (deep d_from : ℕ) (d : Declarator) (y : Symbol) (s : Span) (left : List Span)
    → Opened (AtDeclarator z (in_field node f ss ds)) d_from (pieces_declarator d) (spot n e (s ∷ left)) → Good z s.end left (r.field_next n env (with_part node deep) f ss (ds ++ d ∷ []) y s)
field_at z n e env node f ss ds deep d_from d t.comma s left o =
    same_opened (λ ps. ap (pieces_specs ss) (done-last pieces_declarator ds d ps)) (with_token (g.mark g.Com) n e s left (joined o))
field_at z n e env node f ss ds deep d_from d t.semi s left o =
    field_added_at z n e (with_part node deep) f ss (ds ++ d ∷ []) s left (same_opened (λ ps. ap (pieces_specs ss) (commas-last pieces_declarator ds d ps)) (joined o))
field_at z n e env node f ss ds deep d_from d _ s left o = tt

-- the token after a parameter
param_at : (z : Spot) (n e : ℕ) (env : Env) (node : Open) (d : Declarator) (qs : List Param) (x : Param) (k : InDeclarator) (y : Symbol) (s : Span) (left : List Span)
    → Opened (AtDeclarator z k) node.from (λ ps. pieces_declarator d (token (g.mark g.LParen) ∷ pieces_done pieces_param qs (pieces_param x ps))) (spot n e (s ∷ left))
    → Good z s.end left (r.param_next n env (in_params node d (qs ++ x ∷ []) k) y s)
param_at z n e env node d qs x k t.comma s left o =
    same_opened (λ ps. ap (λ rs. pieces_declarator d (token (g.mark g.LParen) ∷ rs)) (done-last pieces_param qs x ps)) (with_token (g.mark g.Com) n e s left o)
param_at z n e env node d qs x k t.rparen s left o =
    closed n s.end left
    (same_opened (λ ps. ap (λ rs. pieces_declarator d (token (g.mark g.LParen) ∷ rs))
    (params-commas (qs ++ x ∷ []) (token (g.mark g.RParen) ∷ ps) ∙ commas-last pieces_param qs x (token (g.mark g.RParen) ∷ ps)))
    (with_token (g.mark g.RParen) n e s left o))
param_at z n e env node d qs x k _ s left o = tt

close_param_at : (z : Spot) (n e : ℕ) (env : Env) (node : Open) (deep : ℕ) (k : InParams) (ss : Specs) (d : MaybeDeclarator) (y : Symbol) (s : Span) (left : List Span)
    → Opened (AtParams z k) node.from (λ ps. pieces_specs ss (pieces_maybe_declarator d ps)) (spot n e (s ∷ left)) → Good z s.end left (r.close_param n e env node deep k ss d y s)
close_param_at z n e env node deep (in_params outer d qs k) ss x y s left o =
    param_at z (suc n) e env (with_part outer (whole node deep)) d qs (record { at = mark node.from e n; specs = ss; declarator = x }) k y s left (joined (closed n e (s ∷ left) o))

-- the ) of a type name that is over
type_done_at : (z : Spot) (n e : ℕ) (env : Env) (node : Open) (deep : ℕ) (c : TypePlace) (k : InExpr) (m : TypeName) (s : Span) (left : List Span)
    → Opened (AtExpr z k) node.from (λ ps. pieces_place c (pieces_type m ps)) (spot n e (s ∷ left)) → Good z s.end left (r.type_done n env node deep c k m s)
type_done_at z n e env node deep cast_type k m s left o = with_token (g.mark g.RParen) n e s left o
type_done_at z n e env node deep sizeof_type k m s left o = closed n s.end left (with_token (g.mark g.RParen) n e s left o)

type_at : (z : Spot) (n e : ℕ) (env : Env) (node : Open) (deep : ℕ) (c : TypePlace) (k : InExpr) (m : TypeName) (y : Symbol) (s : Span) (left : List Span)
    → Opened (AtExpr z k) node.from (λ ps. pieces_place c (pieces_type m ps)) (spot n e (s ∷ left)) → Good z s.end left (r.type_next n env node deep c k m y s)
type_at z n e env node deep c k m t.rparen s left o = type_done_at z n e env node deep c k m s left o
type_at z n e env node deep c k m _ s left o = tt

close_type_at : (z : Spot) (n e : ℕ) (env : Env) (node inner : Open) (deep : ℕ) (c : TypePlace) (k : InExpr) (ss : Specs) (d : MaybeDeclarator) (y : Symbol) (s : Span) (left : List Span)
    → Opened (Opened (AtExpr z k) node.from (pieces_place c)) inner.from (λ ps. pieces_specs ss (pieces_maybe_declarator d ps)) (spot n e (s ∷ left))
    → Good z s.end left (r.close_type n e env node inner deep c k ss d y s)
close_type_at z n e env node inner deep c k ss d y s left o =
    type_at z (suc n) e env node (whole inner deep) c k (type_name (mark inner.from e n) ss d) y s left (joined (closed n e (s ∷ left) o))

group_at : (z : Spot) (n e : ℕ) (env : Env) (node : Open) (deep d_from : ℕ) (k : InDeclarator) (d : Declarator) (y : Symbol) (s : Span) (left : List Span)
    → Opened (AtDeclarator z (in_group node k)) d_from (pieces_declarator d) (spot n e (s ∷ left)) → Good z s.end left (r.close_group n env node deep k d y s)
group_at z n e env node deep d_from k d t.rparen s left o = closed n s.end left (with_token (g.mark g.RParen) n e s left (joined o))
group_at z n e env node deep d_from k d _ s left o = tt

end_at : (k : InDeclarator) (z : Spot) (n e : ℕ) (env : Env) (had : Had) (d : Declarator) (y : Symbol) (s : Span) (left : List Span)
    → Opened (AtDeclarator z k) had.from (pieces_declarator d) (spot n e (s ∷ left)) → Good z s.end left (r.end_declarator n e env had k d y s)
end_at (in_pointer node qs k) z n e env had d y s left o =
    end_at k z (suc n) e env (mp.closed node had.deep) (u.PointerTo (mark node.from e n) qs d) y s left (closed n e (s ∷ left) (joined o))
end_at (in_group node k) z n e env had d y s left o = group_at z n e env node had.deep had.from k d y s left o
end_at (in_item q) z n e env had d y s left o = close_item_at z n e env had q d y s left o
end_at (in_field node f ss ds) z n e env had d y s left o = field_at z n e env node f ss ds had.deep had.from d y s left o
end_at (in_param node k ss) z n e env had d y s left o = close_param_at z n e env node had.deep k ss (u.some_declarator d) y s left (joined o)
end_at (in_type node inner c k ss) z n e env had d y s left o = close_type_at z n e env node inner had.deep c k ss (u.some_declarator d) y s left (joined o)

no_items_at : (z : Spot) (n e : ℕ) (env : Env) (q : InItems) (y : Symbol) (s : Span) (left : List Span)
    → AtItems z q (spot n e (s ∷ left)) → Good z s.end left (r.no_items_next n env q y s)
no_items_at z n e env q t.semi s left o =
    by_cases (Good z s.end left) (is_empty q.items) _ _
    (λ h. items_at z n e env q s left
    (same_opened (λ ps. ap (λ is. pieces_specs q.specs (pieces_commas pieces_item is ps)) (all_empty q.items h)
    ∙ ap (λ is. pieces_specs q.specs (pieces_done pieces_item is ps)) (sym (all_empty q.items h))) o))
    (λ h. tt)
no_items_at z n e env q _ s left o = tt

nameless_at : (k : InDeclarator) (z : Spot) (n e : ℕ) (env : Env) (y : Symbol) (s : Span) (left : List Span)
    → AtDeclarator z k (spot n e (s ∷ left)) → Good z s.end left (r.nameless n e env k y s)
nameless_at (in_pointer node qs k) z n e env y s left o =
    by_test (Good z s.end left) (r.may_be_nameless k) _ _
    (end_at k z (suc (suc n)) e env (mp.closed node 0) (u.PointerTo (mark node.from e (suc n)) qs (r.absent_name n s.start)) y s left
    (closed (suc n) e (s ∷ left) (more o (no_name n e s left))))
    tt
nameless_at (in_group node k) z n e env y s left o = tt
nameless_at (in_item q) z n e env y s left o = no_items_at z n e env q y s left o
nameless_at (in_field node f ss ds) z n e env y s left o = tt
nameless_at (in_param node k ss) z n e env y s left o = close_param_at z n e env node 0 k ss u.no_declarator y s left o
nameless_at (in_type node inner c k ss) z n e env y s left o = close_type_at z n e env node inner 0 c k ss u.no_declarator y s left o

-- ---- the beginning of a declarator

pub declarator_begin_at : (z : Spot) (n e : ℕ) (env : Env) (k : InDeclarator) (y : Symbol) (s : Span) (left : List Span)
    → AtDeclarator z k (spot n e (s ∷ left)) → Good z s.end left (r.declarator_begin n e env k y s)
declarator_begin_at z n e env k (t.name x) s left i = by_test (Good z s.end left) (r.may_be_named k) _ _ (leaf (AtDeclarator z k) (g.name x) n e s left i) tt
declarator_begin_at z n e env k (t.operator o) s left i = by_test (Good z s.end left) (is_star o) _ _ (begun (AtDeclarator z k) (g.mark g.Star) n e s left i) tt
declarator_begin_at z n e env k t.lparen s left i = begun (AtDeclarator z k) (g.mark g.LParen) n e s left i
declarator_begin_at z n e env k t.lbracket s left i =
    by_test (Good z s.end left) (r.may_be_nameless k) _ _ (begun_nameless (AtDeclarator z k) (g.mark g.LBracket) n e s left i) tt
declarator_begin_at z n e env k y s left i = nameless_at k z n e env y s left i

pub star_at : (z : Spot) (n e : ℕ) (env : Env) (node : Open) (qs : List Word) (k : InDeclarator) (y : Symbol) (s : Span) (left : List Span)
    → AtDeclarator z (in_pointer node qs k) (spot n e (s ∷ left)) → Good z s.end left (r.star_next n e env node qs k y s)
star_at z n e env node qs k (t.keyword w) s left o =
    by_test (Good z s.end left) (is_qualifier (keyword_word w)) _ _
    (same_opened (λ ps. ap (λ rs. token (g.mark g.Star) ∷ rs) (all-last pieces_word qs (keyword_word w) ps)) (with_token (g.word (keyword_word w)) n e s left o))
    tt
star_at z n e env node qs k y s left o = declarator_begin_at z n e env (in_pointer node qs k) y s left o

open_params_at : (z : Spot) (n e : ℕ) (env : Env) (node : Open) (k : InDeclarator) (y : Symbol) (s : Span) (left : List Span)
    → AtDeclarator z (in_group node k) (spot n e (s ∷ left)) → Good z s.end left (r.open_params n env node k y s)
open_params_at z n e env node k y s left o =
    by_test (Good z s.end left) (r.may_be_nameless k) _ _
    (begin_specs_at z (suc n) e env (of_param (in_params node (r.absent_name n node.from) [] k)) y s left (nameless_late (g.mark g.LParen) n e (s ∷ left) o))
    tt

pub opened_at : (z : Spot) (n e : ℕ) (env : Env) (node : Open) (k : InDeclarator) (y : Symbol) (s : Span) (left : List Span)
    → AtDeclarator z (in_group node k) (spot n e (s ∷ left)) → Good z s.end left (r.opened_next n e env node k y s)
opened_at z n e env node k t.rparen s left o =
    by_test (Good z s.end left) (r.may_be_nameless k) _ _
    (closed (suc n) s.end left (with_token (g.mark g.RParen) (suc n) e s left (nameless_late (g.mark g.LParen) n e (s ∷ left) o)))
    tt
opened_at z n e env node k y s left o =
    by_test (Good z s.end left) (begins_specs env false y) (r.open_params n env node k y s) (r.declarator_begin n e env (in_group node k) y s)
    (open_params_at z n e env node k y s left o)
    (declarator_begin_at z n e env (in_group node k) y s left o)

pub array_at : (z : Spot) (n e : ℕ) (env : Env) (node : Open) (d : Declarator) (k : InDeclarator) (y : Symbol) (s : Span) (left : List Span)
    → AtExpr z (in_array node d k) (spot n e (s ∷ left)) → Good z s.end left (r.array_next n env node d k y s)
array_at z n e env node d k t.rbracket s left o = closed n s.end left (with_token (g.mark g.RBracket) n e s left o)
array_at z n e env node d k y s left o = want_at z n e env (in_array node d k) y s left o

pub params_next_at : (z : Spot) (n e : ℕ) (env : Env) (node : Open) (d : Declarator) (k : InDeclarator) (y : Symbol) (s : Span) (left : List Span)
    → Opened (AtDeclarator z k) node.from (λ ps. pieces_declarator d (token (g.mark g.LParen) ∷ ps)) (spot n e (s ∷ left)) → Good z s.end left (r.params_next n env node d k y s)
params_next_at z n e env node d k t.rparen s left o = closed n s.end left (with_token (g.mark g.RParen) n e s left o)
params_next_at z n e env node d k y s left o = first_spec_at z n e env (of_param (in_params node d [] k)) y s left o

pub declarator_at : (z : Spot) (n e : ℕ) (env : Env) (had : Had) (k : InDeclarator) (d : Declarator) (y : Symbol) (s : Span) (left : List Span)
    → Opened (AtDeclarator z k) had.from (pieces_declarator d) (spot n e (s ∷ left)) → Good z s.end left (r.declarator_next n e env had k d y s)
declarator_at z n e env had k d t.lbracket s left o = with_token (g.mark g.LBracket) n e s left o
declarator_at z n e env had k d t.lparen s left o = with_token (g.mark g.LParen) n e s left o
declarator_at z n e env had k d y s left o = end_at k z n e env had d y s left o
