-- Numbers and places are kept: specs, records, enums and attributes.
use Rattle.std.proofs.Common.{◌≡◌, ℕ, suc, Bool, true, false, List, [], ◌∷◌, ◌++◌, Option, Some, None, sym, ◌∙◌, ap}
use Rattle.tok_base.specs.declared.token.Span.{Span}
use Rattle.c_tree.specs.Tok as g
use Rattle.c_tree.specs.Marked as u
use Rattle.c_tree.specs.Marked.{MaybeExpr, Entry, Argument, Attribute}
use Rattle.c_tree.specs.Pieces.{Piece, token, opens, closes, pieces_commas, pieces_name, pieces_text, pieces_argument, pieces_arguments, pieces_entry, pieces_attribute, pieces_declarator, pieces_value}
use Rattle.c_tree.specs.Wf.{Env}
use Rattle.c_reader.specs.Symbol as t
use Rattle.c_reader.specs.Symbol.{Symbol, Tagged, tagged_word}
use Rattle.c_reader.specs.Begin.{is_empty, begins_specs}
use Rattle.c_reader.specs.Declarations.{is_equals}
use Rattle.c_reader.specs.MarkedParts as k
use Rattle.c_reader.specs.MarkedParts.{Open, mark, with_part, whole, Spec, SpecsRead, Enumerator, ArgumentRead, number_read, text_read, argument_of, add_type, fields_of, enumerators_of}
use Rattle.c_reader.specs.MarkedInside.{InSpecs, InFields, InEnum, InAttribute, of_declaration, of_field, of_param, of_type, in_fields, in_enum, of_specs, of_read, AttributeMode, attribute_word, attribute_opened, entries_opened, want_entry, after_entry_name, arguments_opened, want_argument, after_argument, after_entry, attribute_closing}
use Rattle.c_reader.specs.MarkedBegin as rb
use Rattle.c_reader.specs.MarkedDeclarators as rd
use Rattle.c_reader.specs.MarkedSpecs as r
use Rattle.c_reader.proofs.Marks.{Spot, spot, Opened, same_opened, with_token, joined, begun, closed, pieces_done, all-last, done-last, commas-last, commas-done, not-empty, pieces_spec, specs-last, pieces_enumerator, enumerators-commas, by_test, by_cases}
use Rattle.c_reader.proofs.MarksAt.{AtDeclarator, AtSpecsRead, AtFields, AtEnum, AtAttribute, AtAttributeMode, pieces_entries, Good}
use Rattle.c_reader.proofs.MarksDeclarations.{open_spec_at, first_spec_at}
use Rattle.c_reader.proofs.MarksDeclarators.{declarator_begin_at}

-- ---- specs

behind_at : (z : Spot) (ss : SpecsRead) (c : InSpecs) (x : Spot) → AtSpecsRead z ss c x → AtDeclarator z (r.behind ss c) x
behind_at z ss (of_declaration q) x o = o
behind_at z ss (of_field f) x o = o
behind_at z ss (of_param c) x o = o
behind_at z ss (of_type node p c) x o = o

pub specs_at : (z : Spot) (n e : ℕ) (env : Env) (ss : SpecsRead) (c : InSpecs) (y : Symbol) (s : Span) (left : List Span)
    → AtSpecsRead z ss c (spot n e (s ∷ left)) → Good z s.end left (r.specs_next n e env ss c y s)
specs_at z n e env ss c y s left o =
    by_test (Good z s.end left) (begins_specs env ss.seen y) (rb.open_spec n env ss c y s) (rd.declarator_begin n e env (r.behind ss c) y s)
    (open_spec_at z n e env ss c y s left o)
    (declarator_begin_at z n e env (r.behind ss c) y s left (behind_at z ss c (spot n e (s ∷ left)) o))

-- a record or an enum that is over
type_added_at : (z : Spot) (ss : SpecsRead) (c : InSpecs) (deep : ℕ) (v : Spec) (from : ℕ) (x : Spot) → Opened (AtSpecsRead z ss c) from (pieces_spec v) x → AtSpecsRead z (add_type ss deep v) c x
type_added_at z ss c deep v from x o = same_opened (specs-last ss.specs v) (joined o)

-- ---- records and enums

-- the { behind a tag, or behind none
tagged_opened_at : (z : Spot) (n e : ℕ) (env : Env) (node : Open) (c : Tagged) (tag : Option (List ℕ)) (ss : SpecsRead) (d : InSpecs) (left : List Span)
    → Opened (AtSpecsRead z ss d) node.from (λ ps. token (g.word (tagged_word c)) ∷ pieces_name tag (token (g.mark g.LBrace) ∷ ps)) (spot n e left)
    → Good z e left (r.tagged_opened n env node c tag ss d)
tagged_opened_at z n e env node (t.records is_union) tag ss d left o = o
tagged_opened_at z n e env node t.enums tag ss d left o = o

pub tagged_at : (z : Spot) (n e : ℕ) (env : Env) (node : Open) (c : Tagged) (ss : SpecsRead) (d : InSpecs) (y : Symbol) (s : Span) (left : List Span)
    → Opened (AtSpecsRead z ss d) node.from (λ ps. token (g.word (tagged_word c)) ∷ ps) (spot n e (s ∷ left)) → Good z s.end left (r.tagged_next n env node c ss d y)
tagged_at z n e env node c ss d (t.name x) s left o = with_token (g.name x) n e s left o
tagged_at z n e env node c ss d t.lbrace s left o = tagged_opened_at z n s.end env node c None ss d left (with_token (g.mark g.LBrace) n e s left o)
tagged_at z n e env node c ss d _ s left o = tt

-- a tag without braces
tag_spec_at : (z : Spot) (n e from : ℕ) (c : Tagged) (x : List ℕ) (ss : SpecsRead) (d : InSpecs) (left : List Span)
    → Opened (AtSpecsRead z ss d) from (λ ps. token (g.word (tagged_word c)) ∷ token (g.name x) ∷ ps) (spot n e left)
    → Opened (AtSpecsRead z ss d) from (pieces_spec (r.tag_spec (mark from e n) c x)) (spot (suc n) e left)
tag_spec_at z n e from (t.records is_union) x ss d left o = closed n e left o
tag_spec_at z n e from t.enums x ss d left o = closed n e left o

pub tag_at : (z : Spot) (n e : ℕ) (env : Env) (node : Open) (c : Tagged) (x : List ℕ) (ss : SpecsRead) (d : InSpecs) (y : Symbol) (s : Span) (left : List Span)
    → Opened (AtSpecsRead z ss d) node.from (λ ps. token (g.word (tagged_word c)) ∷ token (g.name x) ∷ ps) (spot n e (s ∷ left))
    → Good z s.end left (r.tag_next n e env node c x ss d y s)
tag_at z n e env node c x ss d t.lbrace s left o = tagged_opened_at z n s.end env node c (Some x) ss d left (with_token (g.mark g.LBrace) n e s left o)
tag_at z n e env node c x ss d y s left o =
    specs_at z (suc n) e env (add_type ss (whole node 0) (r.tag_spec (mark node.from e n) c x)) d y s left
    (type_added_at z ss d (whole node 0) (r.tag_spec (mark node.from e n) c x) node.from (spot (suc n) e (s ∷ left)) (tag_spec_at z n e node.from c x ss d (s ∷ left) o))

close_fields_at : (z : Spot) (n e : ℕ) (env : Env) (f : InFields) (s : Span) (left : List Span) → AtFields z f (spot n e (s ∷ left)) → Good z s.end left (r.close_fields n env f s)
close_fields_at z n e env (in_fields node is_union tag fs ss c) s left o =
    by_test (Good z s.end left) (is_empty fs) _ _ tt
    (type_added_at z ss c (whole node 0) (k.records (mark node.from s.end n) is_union tag (u.body (fields_of fs))) node.from (spot (suc n) s.end left)
    (closed n s.end left (with_token (g.mark g.RBrace) n e s left o)))

pub field_begin_at : (z : Spot) (n e : ℕ) (env : Env) (f : InFields) (y : Symbol) (s : Span) (left : List Span)
    → AtFields z f (spot n e (s ∷ left)) → Good z s.end left (r.field_begin n env f y s)
field_begin_at z n e env f t.rbrace s left o = close_fields_at z n e env f s left o
field_begin_at z n e env f y s left o = first_spec_at z n e env (of_field f) y s left o

-- the enum of these enumerators, behind which a comma may stand, and }
enum_closed_at : (z : Spot) (n e deep from : ℕ) (tag : Option (List ℕ)) (es : List Enumerator) (has_comma : Bool) (f : List Piece → List Piece) (ss : SpecsRead) (c : InSpecs) (s : Span) (left : List Span)
    → ((ps : List Piece) → pieces_spec (k.enums (mark from s.end n) tag (u.list (enumerators_of es) has_comma)) ps
    ≡ opens (mark from s.end n) ∷ token (g.word g.KEnum) ∷ pieces_name tag (token (g.mark g.LBrace) ∷ f (token (g.mark g.RBrace) ∷ closes (mark from s.end n) ∷ ps)))
    → Opened (AtSpecsRead z ss c) from (λ ps. token (g.word g.KEnum) ∷ pieces_name tag (token (g.mark g.LBrace) ∷ f ps)) (spot n e (s ∷ left))
    → AtSpecsRead z (add_type ss deep (k.enums (mark from s.end n) tag (u.list (enumerators_of es) has_comma))) c (spot (suc n) s.end left)
enum_closed_at z n e deep from tag es has_comma f ss c s left h o =
    type_added_at z ss c deep (k.enums (mark from s.end n) tag (u.list (enumerators_of es) has_comma)) from (spot (suc n) s.end left)
    (same_opened h (closed n s.end left (with_token (g.mark g.RBrace) n e s left o)))

-- the } behind a comma
close_comma_at : (z : Spot) (n e : ℕ) (env : Env) (c : InEnum) (s : Span) (left : List Span) → AtEnum z c (spot n e (s ∷ left)) → Good z s.end left (r.close_enum n env c true s)
close_comma_at z n e env (in_enum node tag es ss c) s left o =
    by_cases (Good z s.end left) (is_empty es) _ _
    (λ h. tt)
    (λ h. enum_closed_at z n e (whole node 0) node.from tag es true (pieces_done pieces_enumerator es) ss c s left
    (λ ps. let rest = token (g.mark g.RBrace) ∷ closes (mark node.from s.end n) ∷ ps in
    ap (λ qs. opens (mark node.from s.end n) ∷ token (g.word g.KEnum) ∷ pieces_name tag (token (g.mark g.LBrace) ∷ qs))
    (enumerators-commas es (token (g.mark g.Com) ∷ rest) ∙ commas-done pieces_enumerator es rest h))
    o)

pub enumerator_begin_at : (z : Spot) (n e : ℕ) (env : Env) (c : InEnum) (y : Symbol) (s : Span) (left : List Span)
    → AtEnum z c (spot n e (s ∷ left)) → Good z s.end left (r.enumerator_begin n env c y s)
enumerator_begin_at z n e env c (t.name x) s left o = begun (AtEnum z c) (g.name x) n e s left o
enumerator_begin_at z n e env c t.rbrace s left o = close_comma_at z n e env c s left o
enumerator_begin_at z n e env c _ s left o = tt

-- the token after an enumerator
one_more_at : (z : Spot) (n e : ℕ) (env : Env) (node : Open) (tag : Option (List ℕ)) (es : List Enumerator) (x : Enumerator) (ss : SpecsRead) (c : InSpecs) (y : Symbol) (s : Span) (left : List Span)
    → Opened (AtSpecsRead z ss c) node.from (λ ps. token (g.word g.KEnum) ∷ pieces_name tag (token (g.mark g.LBrace) ∷ pieces_done pieces_enumerator es (pieces_enumerator x ps))) (spot n e (s ∷ left))
    → Good z s.end left (r.enumerator_end n env (in_enum node tag (es ++ x ∷ []) ss c) y s)
one_more_at z n e env node tag es x ss c t.comma s left o =
    same_opened (λ ps. ap (λ qs. token (g.word g.KEnum) ∷ pieces_name tag (token (g.mark g.LBrace) ∷ qs)) (done-last pieces_enumerator es x ps))
    (with_token (g.mark g.Com) n e s left o)
one_more_at z n e env node tag es x ss c t.rbrace s left o =
    by_test (Good z s.end left) (is_empty (es ++ x ∷ [])) _ _ tt
    (enum_closed_at z n e (whole node 0) node.from tag (es ++ x ∷ []) false (λ ps. pieces_done pieces_enumerator es (pieces_enumerator x ps)) ss c s left
    (λ ps. let rest = token (g.mark g.RBrace) ∷ closes (mark node.from s.end n) ∷ ps in
    ap (λ qs. opens (mark node.from s.end n) ∷ token (g.word g.KEnum) ∷ pieces_name tag (token (g.mark g.LBrace) ∷ qs))
    (enumerators-commas (es ++ x ∷ []) rest ∙ commas-last pieces_enumerator es x rest))
    o)
one_more_at z n e env node tag es x ss c _ s left o = tt

pub enumerator_end_at : (z : Spot) (n e : ℕ) (env : Env) (node : Open) (deep : ℕ) (c : InEnum) (x : List ℕ) (v : MaybeExpr) (y : Symbol) (s : Span) (left : List Span)
    → Opened (AtEnum z c) node.from (λ ps. token (g.name x) ∷ pieces_value v ps) (spot n e (s ∷ left)) → Good z s.end left (r.enumerator_end (suc n) env (r.add_enumerator n e node deep c x v) y s)
enumerator_end_at z n e env node deep (in_enum k_node tag es ss c) x v y s left o =
    one_more_at z (suc n) e env (with_part k_node (whole node deep)) tag es (record { at = mark node.from e n; name = x; value = v }) ss c y s left (joined (closed n e (s ∷ left) o))

pub enumerator_at : (z : Spot) (n e : ℕ) (env : Env) (node : Open) (x : List ℕ) (c : InEnum) (y : Symbol) (s : Span) (left : List Span)
    → Opened (AtEnum z c) node.from (λ ps. token (g.name x) ∷ ps) (spot n e (s ∷ left)) → Good z s.end left (r.enumerator_next n e env node x c y s)
enumerator_at z n e env node x c (t.operator p) s left o = by_test (Good z s.end left) (is_equals p) _ _ (with_token (g.mark g.Assign) n e s left o) tt
enumerator_at z n e env node x c y s left o = enumerator_end_at z n e env node 0 c x u.no_expr y s left o

-- ---- attributes

-- the entries so far, and then f
abbrev InEntries : Spot → ℕ → InAttribute → (List Piece → List Piece) → Spot → Type 0
InEntries z from a f x = Opened (AtAttribute z a) from (λ ps. pieces_entries (f ps)) x

done_at : (z : Spot) (n e : ℕ) (env : Env) (deep from : ℕ) (a : InAttribute) (x : Attribute) (left : List Span)
    → Opened (AtAttribute z a) from (pieces_attribute x) (spot n e left) → Good z e left (r.attribute_done n env deep a x)
done_at z n e env deep from (of_specs ss c) x left o = same_opened (specs-last ss.specs (k.attribute x)) (joined o)
done_at z n e env deep from (of_read v) x left o = same_opened (λ ps. ap (pieces_declarator v.declarator) (all-last pieces_attribute v.attributes x ps)) (joined o)

entry_begin_at : (z : Spot) (n e : ℕ) (env : Env) (node : Open) (a : InAttribute) (es : List Entry) (y : Symbol) (s : Span) (left : List Span)
    → InEntries z node.from a (pieces_done pieces_entry es) (spot n e (s ∷ left)) → Good z s.end left (r.entry_begin n env node a es y)
entry_begin_at z n e env node a es (t.name x) s left o = with_token (g.name x) n e s left o
entry_begin_at z n e env node a es _ s left o = tt

entries_at : (z : Spot) (n e : ℕ) (env : Env) (node : Open) (a : InAttribute) (y : Symbol) (s : Span) (left : List Span)
    → InEntries z node.from a (λ ps. ps) (spot n e (s ∷ left)) → Good z s.end left (r.entries_begin n env node a y)
entries_at z n e env node a t.rparen s left o = with_token (g.mark g.RParen) n e s left o
entries_at z n e env node a y s left o = entry_begin_at z n e env node a [] y s left o

-- the token after an entry
entry_end_at : (z : Spot) (n e : ℕ) (env : Env) (node : Open) (a : InAttribute) (es : List Entry) (y : Symbol) (s : Span) (left : List Span)
    → is_empty es ≡ false → InEntries z node.from a (pieces_commas pieces_entry es) (spot n e (s ∷ left)) → Good z s.end left (r.entry_end n env node a es y)
entry_end_at z n e env node a es t.comma s left h o =
    same_opened (λ ps. ap (λ qs. pieces_entries qs) (sym (commas-done pieces_entry es ps h))) (with_token (g.mark g.Com) n e s left o)
entry_end_at z n e env node a es t.rparen s left h o = with_token (g.mark g.RParen) n e s left o
entry_end_at z n e env node a es _ s left h o = tt

-- one entry more
entry_added_at : (z : Spot) (from : ℕ) (a : InAttribute) (es : List Entry) (x : List ℕ) (xs : Option (List Argument)) (p : Spot)
    → InEntries z from a (λ ps. pieces_done pieces_entry es (token (g.name x) ∷ pieces_arguments xs ps)) p
    → (is_empty (r.add_entry es x xs) ≡ false) × InEntries z from a (pieces_commas pieces_entry (r.add_entry es x xs)) p
entry_added_at z from a es x xs p o = (
  not-empty es (record { name = x; arguments = xs }),
  same_opened (λ ps. ap (λ qs. pieces_entries qs) (commas-last pieces_entry es (record { name = x; arguments = xs }) ps)) o,
)

entry_at : (z : Spot) (n e : ℕ) (env : Env) (node : Open) (a : InAttribute) (es : List Entry) (x : List ℕ) (y : Symbol) (s : Span) (left : List Span)
    → InEntries z node.from a (λ ps. pieces_done pieces_entry es (token (g.name x) ∷ ps)) (spot n e (s ∷ left)) → Good z s.end left (r.entry_next n env node a es x y)
entry_at z n e env node a es x t.lparen s left o = with_token (g.mark g.LParen) n e s left o
entry_at z n e env node a es x y s left o =
    let added = entry_added_at z node.from a es x None (spot n e (s ∷ left)) o in
    entry_end_at z n e env node a (r.add_entry es x None) y s left added.0 added.1

argument_begin_at : (z : Spot) (n e : ℕ) (env : Env) (node : Open) (a : InAttribute) (es : List Entry) (x : List ℕ) (xs : List Argument) (y : Symbol) (s : Span) (left : List Span)
    → AtAttributeMode z node.from a (want_argument es x xs) (spot n e (s ∷ left)) → Good z s.end left (r.argument_begin n env node a es x xs y s)
argument_begin_at z n e env node a es x xs (t.number v) s left o =
    begun (AtAttributeMode z node.from a (want_argument es x xs)) (g.number v) n e s left o
argument_begin_at z n e env node a es x xs (t.text v) s left o =
    begun (AtAttributeMode z node.from a (want_argument es x xs)) (g.text v) n e s left o
argument_begin_at z n e env node a es x xs _ s left o = tt

arguments_at : (z : Spot) (n e : ℕ) (env : Env) (node : Open) (a : InAttribute) (es : List Entry) (x : List ℕ) (y : Symbol) (s : Span) (left : List Span)
    → AtAttributeMode z node.from a (arguments_opened es x) (spot n e (s ∷ left)) → Good z s.end left (r.arguments_begin n env node a es x y s)
arguments_at z n e env node a es x t.rparen s left o = entry_added_at z node.from a es x (Some []) (spot n s.end left) (with_token (g.mark g.RParen) n e s left o)
arguments_at z n e env node a es x y s left o = argument_begin_at z n e env node a es x [] y s left o

text_at : (z : Spot) (n e : ℕ) (env : Env) (node : Open) (v_from : ℕ) (a : InAttribute) (es : List Entry) (x : List ℕ) (xs : List Argument) (v : ArgumentRead) (w : List ℕ) (s : Span) (left : List Span)
    → AtAttributeMode z node.from a (after_argument v_from es x xs v) (spot n e (s ∷ left)) → Good z s.end left (r.text_more n env node v_from a es x xs v w)
text_at z n e env node v_from a es x xs (number_read v) w s left o = tt
text_at z n e env node v_from a es x xs (text_read vs) w s left o = same_opened (all-last pieces_text vs w) (with_token (g.text w) n e s left o)

-- an argument that is over
argument_closed_at : (z : Spot) (n e from v_from : ℕ) (a : InAttribute) (es : List Entry) (x : List ℕ) (xs : List Argument) (v : ArgumentRead) (left : List Span)
    → AtAttributeMode z from a (after_argument v_from es x xs v) (spot n e left)
    → InEntries z from a (λ ps. pieces_done pieces_entry es (token (g.name x) ∷ token (g.mark g.LParen) ∷ pieces_done pieces_argument xs (pieces_argument (argument_of (mark v_from e n) v) ps))) (spot (suc n) e left)
argument_closed_at z n e from v_from a es x xs (number_read v) left o = joined (closed n e left o)
argument_closed_at z n e from v_from a es x xs (text_read vs) left o = joined (closed n e left o)

argument_at : (z : Spot) (n e : ℕ) (env : Env) (node : Open) (v_from : ℕ) (a : InAttribute) (es : List Entry) (x : List ℕ) (xs : List Argument) (v : ArgumentRead) (y : Symbol) (s : Span) (left : List Span)
    → AtAttributeMode z node.from a (after_argument v_from es x xs v) (spot n e (s ∷ left)) → Good z s.end left (r.argument_next n e env node v_from a es x xs v y)
argument_at z n e env node v_from a es x xs v (t.text w) s left o = text_at z n e env node v_from a es x xs v w s left o
argument_at z n e env node v_from a es x xs v t.comma s left o =
    same_opened (λ ps. ap (λ qs. pieces_entries (pieces_done pieces_entry es (token (g.name x) ∷ token (g.mark g.LParen) ∷ qs)))
    (done-last pieces_argument xs (argument_of (mark v_from e n) v) ps))
    (with_token (g.mark g.Com) (suc n) e s left (argument_closed_at z n e node.from v_from a es x xs v (s ∷ left) o))
argument_at z n e env node v_from a es x xs v t.rparen s left o =
    entry_added_at z node.from a es x (Some (xs ++ argument_of (mark v_from e n) v ∷ [])) (spot (suc n) s.end left)
    (same_opened (λ ps. ap (λ qs. pieces_entries (pieces_done pieces_entry es (token (g.name x) ∷ token (g.mark g.LParen) ∷ qs)))
    (commas-last pieces_argument xs (argument_of (mark v_from e n) v) (token (g.mark g.RParen) ∷ ps)))
    (with_token (g.mark g.RParen) (suc n) e s left (argument_closed_at z n e node.from v_from a es x xs v (s ∷ left) o)))
argument_at z n e env node v_from a es x xs v _ s left o = tt

close_attribute_at : (z : Spot) (n e : ℕ) (env : Env) (node : Open) (a : InAttribute) (es : List Entry) (y : Symbol) (s : Span) (left : List Span)
    → AtAttributeMode z node.from a (attribute_closing es) (spot n e (s ∷ left)) → Good z s.end left (r.close_attribute n env node a es y s)
close_attribute_at z n e env node a es t.rparen s left o =
    done_at z (suc n) s.end env (whole node 0) node.from a (record { at = mark node.from s.end n; entries = es }) left (closed n s.end left (with_token (g.mark g.RParen) n e s left o))
close_attribute_at z n e env node a es _ s left o = tt

lparen_at : (z : Spot) (n e : ℕ) (env : Env) (node : Open) (a : InAttribute) (c : AttributeMode) (y : Symbol) (s : Span) (left : List Span)
    → AtAttributeMode z node.from a c (spot n s.end left) → Good z s.end left (r.want_lparen n env node a c y)
lparen_at z n e env node a c t.lparen s left o = o
lparen_at z n e env node a c _ s left o = tt

pub attribute_at : (z : Spot) (n e : ℕ) (env : Env) (node : Open) (a : InAttribute) (c : AttributeMode) (y : Symbol) (s : Span) (left : List Span)
    → AtAttributeMode z node.from a c (spot n e (s ∷ left)) → Good z s.end left (r.attribute_next n e env node a c y s)
attribute_at z n e env node a attribute_word y s left o = lparen_at z n e env node a attribute_opened y s left (with_token (g.mark g.LParen) n e s left o)
attribute_at z n e env node a attribute_opened y s left o = lparen_at z n e env node a entries_opened y s left (with_token (g.mark g.LParen) n e s left o)
attribute_at z n e env node a entries_opened y s left o = entries_at z n e env node a y s left o
attribute_at z n e env node a (want_entry es) y s left o = entry_begin_at z n e env node a es y s left o
attribute_at z n e env node a (after_entry_name es x) y s left o = entry_at z n e env node a es x y s left o
attribute_at z n e env node a (arguments_opened es x) y s left o = arguments_at z n e env node a es x y s left o
attribute_at z n e env node a (want_argument es x xs) y s left o = argument_begin_at z n e env node a es x xs y s left o
attribute_at z n e env node a (after_argument v_from es x xs v) y s left o = argument_at z n e env node v_from a es x xs v y s left o
attribute_at z n e env node a (after_entry es) y s left o = entry_end_at z n e env node a es y s left o.0 o.1
attribute_at z n e env node a (attribute_closing es) y s left o = close_attribute_at z n e env node a es y s left o
