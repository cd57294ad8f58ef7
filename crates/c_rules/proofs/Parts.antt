-- The trials of expressions, specifiers and declarators stand in order, where the nodes are numbered by their ends.
use Rattle.std.proofs.Common.{◌≡◌, ℕ, suc, ◌+◌, ◌*◌, Bool, true, false, List, [], ◌∷◌, Option, Some, None, arith}
use Rattle.std.specs.Prelude.{ℤ, pos, ◌++◌, ◌&&◌, ◌==◌, length}
use Rattle.c_tree.specs.Marks.{binary_mark, assign_mark, step_mark}
use Rattle.c_tree.specs.declared.operator.At.{At}
use Rattle.c_tree.specs.Tok as g
use Rattle.c_tree.specs.Tok.{Word, mark}
use Rattle.c_tree.specs.Marked as t
use Rattle.c_tree.specs.Pieces.{Piece, token, closes, pieces, pieces_all, pieces_more, pieces_commas, pieces_name, pieces_comma_if, pieces_text, pieces_word, pieces_argument, pieces_arguments, pieces_entry, pieces_attribute, pieces_exprs, pieces_more_exprs, pieces_type, pieces_specs, pieces_body, pieces_fields, pieces_more_declarators, pieces_list, pieces_enumerators, pieces_more_enumerators, pieces_value, pieces_declarator, pieces_params, pieces_more_params}
use Rattle.c_tree.specs.Places.{Numbered}
use Rattle.c_types.specs.CTypes.{CType}
use Rattle.c_types.specs.Records.{MemberOf}
use Rattle.c_rules.specs.Typed.{Typed, Constant}
use Rattle.c_rules.specs.World.{find_name, note_type}
use Rattle.c_rules.specs.Trials.{M}
use Rattle.c_rules.specs.Specifiers.{Specified, nothing_specified, with_word, with_type, base_type}
use Rattle.c_rules.specs.Declarators.{Laid, Built, is_nothing}
use Rattle.c_rules.specs.Forms.{Whole, Given, judge_name, judge_number, judge_char, judge_text, judge_paren, judge_step, judge_prefix, judge_sizeof, judge_cast, judge_binary, judge_index, judge_comma, judge_cond, judge_assign, operator_of, judge_call, judge_dot, judge_arrow}
use Rattle.c_rules.specs.Walk.{judge, judge_all, judge_name_of_type, judge_specs, judge_fields_of, judge_fields, judge_members, judge_list, judge_enumerators, judge_value, judge_layers, judge_params, judge_attribute, judge_entries, judge_arguments, judge_maybe_arguments, judge_builtin, judge_built, judge_type, judge_member, judge_record, judge_record_tag, judge_enum, judge_enum_tag, judge_enumerator, judge_param_as, judge_param_or_void, judge_argument, with_tagged, entry_type, is_alone, at_of, at_of_expr, name_node}
use Rattle.c_rules.proofs.Nodes.{lower, Runs, RunsAt, name_runs, number_runs, char_runs, text_runs, paren_runs, step_runs, prefix_runs, sizeof_runs, cast_runs, binary_runs, index_runs, comma_runs, cond_runs, assign_runs, call_runs, dot_runs, arrow_runs, builtin_runs}
use Rattle.c_rules.specs.declared.known.Declares.{Declares}

-- ---- what has no nodes

texts_skipped : (ts : List (List ℕ)) (n : ℕ) (rest : List Piece) → Numbered n (pieces_all pieces_text ts rest) → Numbered n rest
texts_skipped [] n rest h = h
texts_skipped (x ∷ xs) n rest h = texts_skipped xs n rest h

words_skipped : (ws : List Word) (n : ℕ) (rest : List Piece) → Numbered n (pieces_all pieces_word ws rest) → Numbered n rest
words_skipped [] n rest h = h
words_skipped (x ∷ xs) n rest h = words_skipped xs n rest h

name_skipped : (name : Option (List ℕ)) (n : ℕ) (rest : List Piece) → Numbered n (pieces_name name rest) → Numbered n rest
name_skipped None n rest h = h
name_skipped (Some x) n rest h = h

pub comma_skipped : (comma : Bool) (n : ℕ) (rest : List Piece) → Numbered n (pieces_comma_if comma rest) → Numbered n rest
comma_skipped false n rest h = h
comma_skipped true n rest h = h

-- ---- a node that ends with the number n

pub ends : (A : Type 0) (at : At) (n : ℕ) (m : M A) → at.id ≡ n → RunsAt A at m → Runs A (128 * n + 64) (128 * suc n) m
ends A at n m c r k after w = lower _ (128 * at.id + 64) _ (omega (arith, c)) (r k (λ x v. lower _ (128 * suc n) _ (omega (arith, c)) (after x v)) w)

pub ends_behind : (A : Type 0) (at : At) (n : ℕ) (m : M A) → at.id ≡ n → RunsAt A at m → Runs A (128 * n) (128 * suc n) m
ends_behind A at n m c r k after w = lower _ (128 * n + 64) _ (omega arith) (ends A at n m c r k after w)

-- ---- the parts

pub built_runs : (at : At) (what : Declares) (b : Built) → Runs (Unit {0}) (128 * at.id + 64) (suc (64 * suc (2 * at.id) + 8)) (judge_built at what b)
built_runs at what b k after w = (omega arith, (omega arith, (omega arith, (omega arith, after _ _))))

pub type_runs : (at : At) (base : CType) (d : Laid) → RunsAt CType at (judge_type at base d)
type_runs at base d k after w = (omega arith, (omega arith, (omega arith, (omega arith, lower _ (128 * suc at.id) _ (omega arith) (after _ _)))))

pub member_runs : (at : At) (base : CType) (d : Laid) → RunsAt MemberOf at (judge_member at base d)
member_runs at base d k after w = (omega arith, (omega arith, (omega arith, (omega arith, lower _ (128 * suc at.id) _ (omega arith) (after _ _)))))

param_as_runs : (name : Option (List ℕ)) (number : ℕ) (at : At) (d : Laid) (b : Built) → RunsAt CType at (judge_param_as name number at d b)
param_as_runs (Some n) number at d b k after w = (omega arith, (omega arith, (omega arith, (omega arith, (omega arith, lower _ (128 * suc at.id) _ (omega arith) (after _ _))))))
param_as_runs None number at d b k after w = (omega arith, (omega arith, (omega arith, (omega arith, lower _ (128 * suc at.id) _ (omega arith) (after _ _)))))

param_or_void_runs : (is_void : Bool) (number : ℕ) (at : At) (base : CType) (d : Laid) → RunsAt (List CType) at (judge_param_or_void is_void number at base d)
param_or_void_runs true number at base d k after w = lower _ (128 * suc at.id) _ (omega arith) (after _ _)
param_or_void_runs false number at base d k after w = param_as_runs d.name number at d _ _ (λ p v. after _ v) w

record_runs : (at : At) (is_union : Bool) (tag : Option (List ℕ)) (n : ℕ) (ms : List MemberOf) → RunsAt CType at (judge_record at is_union tag n ms)
record_runs at is_union tag n ms k after w = (omega arith, (omega arith, (omega arith, lower _ (128 * suc at.id) _ (omega arith) (after _ _))))

record_tag_runs : (at : At) (is_union : Bool) (tag : Option (List ℕ)) (n : ℕ) → RunsAt CType at (judge_record_tag at is_union tag n)
record_tag_runs at is_union tag n k after w = (omega arith, lower _ (128 * suc at.id) _ (omega arith) (after _ _))

enum_runs : (at : At) (tag : Option (List ℕ)) (n : ℕ) → RunsAt CType at (judge_enum at tag n)
enum_runs at tag n k after w = (omega arith, lower _ (128 * suc at.id) _ (omega arith) (after _ _))

enum_tag_runs : (at : At) (tag : Option (List ℕ)) (n : ℕ) → RunsAt CType at (judge_enum_tag at tag n)
enum_tag_runs at tag n k after w = (omega arith, lower _ (128 * suc at.id) _ (omega arith) (after _ _))

enumerator_runs : (at : At) (n : List ℕ) (next : ℤ) (c : Constant) → RunsAt ℤ at (judge_enumerator at n next c)
enumerator_runs at n next c k after w = (omega arith, (omega arith, lower _ (128 * suc at.id) _ (omega arith) (after _ _)))

-- ---- attributes

-- what stands before rest has the numbers from n on, up to the number of what follows, and its trials stand in order
abbrev pub Part : (A : Type 0) → ℕ → List Piece → M A → Type 0
Part A n rest m = (j : ℕ) × (Numbered j rest × Runs A (128 * n) (128 * j) m)

argument_part : (a : t.Argument) (n : ℕ) (rest : List Piece) → Numbered n (pieces_argument a rest) → Part (Unit {0}) n rest (judge_argument a)
argument_part (t.NumberArgument at x) n rest h = (suc n, (h.1, λ k after w. (omega (arith, h.0), lower _ (128 * suc n) _ (omega (arith, h.0)) (after _ _))))
argument_part (t.TextArgument at ts) n rest h =
    let e : Numbered n (closes at ∷ rest) = texts_skipped ts n _ h in
    (suc n, (e.1, λ k after w. lower _ (128 * suc n) _ (omega arith) (after _ _)))

more_arguments_part : (xs : List t.Argument) (n : ℕ) (rest : List Piece) → Numbered n (pieces_more pieces_argument xs rest) → Part (Unit {0}) n rest (judge_arguments xs)
more_arguments_part [] n rest h = (n, (h, λ k after w. after _ _))
more_arguments_part (x ∷ xs) n rest h =
    let p : Part (Unit {0}) n (pieces_more pieces_argument xs rest) (judge_argument x) = argument_part x n _ h in
    let q : Part (Unit {0}) p.0 rest (judge_arguments xs) = more_arguments_part xs p.0 rest p.1.0 in
    (q.0, (q.1.0, λ k after w. p.1.1 _ (λ x v. q.1.1 k after v) w))

arguments_part : (xs : List t.Argument) (n : ℕ) (rest : List Piece) → Numbered n (pieces_commas pieces_argument xs rest) → Part (Unit {0}) n rest (judge_arguments xs)
arguments_part [] n rest h = (n, (h, λ k after w. after _ _))
arguments_part (x ∷ xs) n rest h =
    let p : Part (Unit {0}) n (pieces_more pieces_argument xs rest) (judge_argument x) = argument_part x n _ h in
    let q : Part (Unit {0}) p.0 rest (judge_arguments xs) = more_arguments_part xs p.0 rest p.1.0 in
    (q.0, (q.1.0, λ k after w. p.1.1 _ (λ x v. q.1.1 k after v) w))

maybe_arguments_part : (xs : Option (List t.Argument)) (n : ℕ) (rest : List Piece) → Numbered n (pieces_arguments xs rest) → Part (Unit {0}) n rest (judge_maybe_arguments xs)
maybe_arguments_part None n rest h = (n, (h, λ k after w. after _ _))
maybe_arguments_part (Some xs) n rest h = arguments_part xs n (token (mark g.RParen) ∷ rest) h

more_entries_part : (es : List t.Entry) (n : ℕ) (rest : List Piece) → Numbered n (pieces_more pieces_entry es rest) → Part (Unit {0}) n rest (judge_entries es)
more_entries_part [] n rest h = (n, (h, λ k after w. after _ _))
more_entries_part (e ∷ es) n rest h =
    let p : Part (Unit {0}) n (pieces_more pieces_entry es rest) (judge_maybe_arguments e.arguments) = maybe_arguments_part e.arguments n _ h in
    let q : Part (Unit {0}) p.0 rest (judge_entries es) = more_entries_part es p.0 rest p.1.0 in
    (q.0, (q.1.0, λ k after w. p.1.1 _ (λ x v. q.1.1 k after v) w))

entries_part : (es : List t.Entry) (n : ℕ) (rest : List Piece) → Numbered n (pieces_commas pieces_entry es rest) → Part (Unit {0}) n rest (judge_entries es)
entries_part [] n rest h = (n, (h, λ k after w. after _ _))
entries_part (e ∷ es) n rest h =
    let p : Part (Unit {0}) n (pieces_more pieces_entry es rest) (judge_maybe_arguments e.arguments) = maybe_arguments_part e.arguments n _ h in
    let q : Part (Unit {0}) p.0 rest (judge_entries es) = more_entries_part es p.0 rest p.1.0 in
    (q.0, (q.1.0, λ k after w. p.1.1 _ (λ x v. q.1.1 k after v) w))

pub attribute_part : (a : t.Attribute) (n : ℕ) (rest : List Piece) → Numbered n (pieces_attribute a rest) → Part (Unit {0}) n rest (judge_attribute a)
attribute_part a n rest h =
    let p : Part (Unit {0}) n (token (mark g.RParen) ∷ token (mark g.RParen) ∷ closes a.at ∷ rest) (judge_entries a.entries) = entries_part a.entries n _ h in
    (suc p.0, (p.1.0.1, λ k after w. p.1.1 _ (λ x v. (omega (arith, p.1.0.0), lower _ (128 * suc p.0) _ (omega (arith, p.1.0.0)) (after _ _))) w))

-- ---- expressions, specifiers and declarators

-- the same of what is judged with more
abbrev pub ExprPart : t.Expr → ℕ → List Piece → Type 0
ExprPart e n rest = (j : ℕ) × (Numbered j rest × ((u : Whole) (fixed : Bool) → Runs Typed (128 * n) (128 * j) (judge u fixed e)))

abbrev pub ExprsPart : t.Exprs → ℕ → List Piece → Type 0
ExprsPart es n rest = (j : ℕ) × (Numbered j rest × ((u : Whole) (fixed : Bool) → Runs (List Given) (128 * n) (128 * j) (judge_all u fixed es)))

abbrev pub TypePart : t.TypeName → ℕ → List Piece → Type 0
TypePart d n rest = (j : ℕ) × (Numbered j rest × ((u : Whole) (fixed : Bool) → Runs CType (128 * n) (128 * j) (judge_name_of_type u fixed d)))

abbrev pub SpecsPart : t.Specs → ℕ → List Piece → Type 0
SpecsPart ss n rest = (j : ℕ) × (Numbered j rest × ((u : Whole) (fixed : Bool) (own : Option (List ℕ)) (s : Specified) → Runs Specified (128 * n) (128 * j) (judge_specs u fixed own ss s)))

-- what a record or an enumeration holds, whose node has the next number
abbrev BodyPart : t.MaybeFields → ℕ → List Piece → Type 0
BodyPart b n rest = (j : ℕ) × (Numbered j rest × ((u : Whole) (fixed : Bool) (at : At) (is_union : Bool) (tag : Option (List ℕ)) (number : ℕ) → at.id ≡ j → Runs CType (128 * n) (128 * suc j) (judge_fields_of u fixed at is_union tag number b)))

abbrev ListPart : t.MaybeEnumerators → ℕ → List Piece → Type 0
ListPart b n rest = (j : ℕ) × (Numbered j rest × ((u : Whole) (fixed : Bool) (at : At) (tag : Option (List ℕ)) (number : ℕ) → at.id ≡ j → Runs CType (128 * n) (128 * suc j) (judge_list u fixed at tag number b)))

abbrev FieldsPart : t.Fields → ℕ → List Piece → Type 0
FieldsPart fs n rest = (j : ℕ) × (Numbered j rest × ((u : Whole) (fixed : Bool) → Runs (List MemberOf) (128 * n) (128 * j) (judge_fields u fixed fs)))

abbrev MembersPart : t.Declarators → ℕ → List Piece → Type 0
MembersPart ds n rest = (j : ℕ) × (Numbered j rest × ((u : Whole) (fixed : Bool) (base : CType) → Runs (List MemberOf) (128 * n) (128 * j) (judge_members u fixed base ds)))

abbrev EnumeratorsPart : t.Enumerators → ℕ → List Piece → Type 0
EnumeratorsPart es n rest = (j : ℕ) × (Numbered j rest × ((u : Whole) (next : ℤ) → Runs (Unit {0}) (128 * n) (128 * j) (judge_enumerators u next es)))

abbrev ValuePart : t.MaybeExpr → ℕ → List Piece → Type 0
ValuePart v n rest = (j : ℕ) × (Numbered j rest × ((u : Whole) (next : ℤ) → Runs Constant (128 * n) (128 * j) (judge_value u next v)))

-- a declarator: its name's node has the first number and its outermost node the last, at which more may be tried
abbrev pub DeclaratorPart : t.Declarator → ℕ → List Piece → Type 0
DeclaratorPart d n rest = Numbered (suc (at_of d).id) rest × ((name_node d ≡ n) × ((u : Whole) (fixed : Bool) → Runs Laid (128 * n + 64) (128 * (at_of d).id + 64) (judge_layers u fixed d)))

abbrev ParamsPart : t.Params → ℕ → List Piece → Type 0
ParamsPart ps n rest = (j : ℕ) × (Numbered j rest × ((u : Whole) (fixed : Bool) (place : ℕ) → Runs (List CType) (128 * n) (128 * j) (judge_params u fixed place ps)))

mutual
  pub expr_part : (e : t.Expr) (n : ℕ) (rest : List Piece) → Numbered n (pieces e rest) → ExprPart e n rest
  expr_part (t.Comma at a b) n rest h =
      let p : ExprPart a n (token (mark g.Com) ∷ pieces b (closes at ∷ rest)) = expr_part a n _ h in
      let q : ExprPart b p.0 (closes at ∷ rest) = expr_part b p.0 _ p.1.0 in
      (suc q.0, (q.1.0.1, λ u fixed k after w. p.1.1 u fixed _ (λ r0 w0. q.1.1 u fixed _ (λ r1 w1. ends_behind Typed at q.0 (judge_comma at r1) q.1.0.0 (comma_runs at r1) k after w1) w0) w))
  expr_part (t.Assign at a o b) n rest h =
      let p : ExprPart a n (token (mark (assign_mark o)) ∷ pieces b (closes at ∷ rest)) = expr_part a n _ h in
      let q : ExprPart b p.0 (closes at ∷ rest) = expr_part b p.0 _ p.1.0 in
      (suc q.0, (q.1.0.1, λ u fixed k after w. p.1.1 u fixed _ (λ r0 w0. q.1.1 u fixed _ (λ r1 w1. ends_behind Typed at q.0 (judge_assign at (operator_of o) r0 (at_of_expr b) r1) q.1.0.0 (assign_runs at (operator_of o) r0 (at_of_expr b) r1) k after w1) w0) w))
  expr_part (t.Cond at c a b) n rest h =
      let p : ExprPart c n (token (mark g.Quest) ∷ pieces a (token (mark g.Colon) ∷ pieces b (closes at ∷ rest))) = expr_part c n _ h in
      let q : ExprPart a p.0 (token (mark g.Colon) ∷ pieces b (closes at ∷ rest)) = expr_part a p.0 _ p.1.0 in
      let r : ExprPart b q.0 (closes at ∷ rest) = expr_part b q.0 _ q.1.0 in
      (suc r.0, (r.1.0.1, λ u fixed k after w. p.1.1 u fixed _ (λ r0 w0. q.1.1 u fixed _ (λ r1 w1. r.1.1 u fixed _ (λ r2 w2. ends_behind Typed at r.0 (judge_cond at r0 r1 r2) r.1.0.0 (cond_runs at r0 r1 r2) k after w2) w1) w0) w))
  expr_part (t.Binary at a o b) n rest h =
      let p : ExprPart a n (token (mark (binary_mark o)) ∷ pieces b (closes at ∷ rest)) = expr_part a n _ h in
      let q : ExprPart b p.0 (closes at ∷ rest) = expr_part b p.0 _ p.1.0 in
      (suc q.0, (q.1.0.1, λ u fixed k after w. p.1.1 u fixed _ (λ r0 w0. q.1.1 u fixed _ (λ r1 w1. ends_behind Typed at q.0 (judge_binary at o r0 r1) q.1.0.0 (binary_runs at o r0 r1) k after w1) w0) w))
  expr_part (t.Cast at d a) n rest h =
      let p : TypePart d n (token (mark g.RParen) ∷ pieces a (closes at ∷ rest)) = type_part d n _ h in
      let q : ExprPart a p.0 (closes at ∷ rest) = expr_part a p.0 _ p.1.0 in
      (suc q.0, (q.1.0.1, λ u fixed k after w. p.1.1 u fixed _ (λ r0 w0. q.1.1 u fixed _ (λ r1 w1. ends_behind Typed at q.0 (judge_cast at r0 r1) q.1.0.0 (cast_runs at r0 r1) k after w1) w0) w))
  expr_part (t.Prefix at o a) n rest h =
      let p : ExprPart a n (closes at ∷ rest) = expr_part a n _ h in
      (suc p.0, (p.1.0.1, λ u fixed k after w. p.1.1 u fixed _ (λ r0 w0. ends_behind Typed at p.0 (judge_prefix at o r0) p.1.0.0 (prefix_runs at o r0) k after w0) w))
  expr_part (t.SizeofExpr at a) n rest h =
      let p : ExprPart a n (closes at ∷ rest) = expr_part a n _ h in
      (suc p.0, (p.1.0.1, λ u fixed k after w. p.1.1 u fixed _ (λ r0 w0. ends_behind Typed at p.0 (judge_sizeof at r0.type) p.1.0.0 (sizeof_runs at r0.type) k after w0) w))
  expr_part (t.SizeofType at d) n rest h =
      let p : TypePart d n (token (mark g.RParen) ∷ closes at ∷ rest) = type_part d n _ h in
      (suc p.0, (p.1.0.1, λ u fixed k after w. p.1.1 u fixed _ (λ r0 w0. ends_behind Typed at p.0 (judge_sizeof at r0) p.1.0.0 (sizeof_runs at r0) k after w0) w))
  expr_part (t.Index at a b) n rest h =
      let p : ExprPart a n (token (mark g.LBracket) ∷ pieces b (token (mark g.RBracket) ∷ closes at ∷ rest)) = expr_part a n _ h in
      let q : ExprPart b p.0 (token (mark g.RBracket) ∷ closes at ∷ rest) = expr_part b p.0 _ p.1.0 in
      (suc q.0, (q.1.0.1, λ u fixed k after w. p.1.1 u fixed _ (λ r0 w0. q.1.1 u fixed _ (λ r1 w1. ends_behind Typed at q.0 (judge_index at r0 r1) q.1.0.0 (index_runs at r0 r1) k after w1) w0) w))
  expr_part (t.Call at f es) n rest h =
      let p : ExprPart f n (token (mark g.LParen) ∷ pieces_exprs es (token (mark g.RParen) ∷ closes at ∷ rest)) = expr_part f n _ h in
      let q : ExprsPart es p.0 (token (mark g.RParen) ∷ closes at ∷ rest) = exprs_part es p.0 _ p.1.0 in
      (suc q.0, (q.1.0.1, λ u fixed k after w. p.1.1 u fixed _ (λ r0 w0. q.1.1 u fixed _ (λ r1 w1. ends_behind Typed at q.0 (judge_call at r0 r1) q.1.0.0 (call_runs at r0 r1) k after w1) w0) w))
  expr_part (t.Dot at a x) n rest h =
      let p : ExprPart a n (token (mark g.Point) ∷ token (g.name x) ∷ closes at ∷ rest) = expr_part a n _ h in
      (suc p.0, (p.1.0.1, λ u fixed k after w. p.1.1 u fixed _ (λ r0 w0. ends_behind Typed at p.0 (judge_dot at r0 x) p.1.0.0 (dot_runs at r0 x) k after w0) w))
  expr_part (t.Arrow at a x) n rest h =
      let p : ExprPart a n (token (mark g.Arrow) ∷ token (g.name x) ∷ closes at ∷ rest) = expr_part a n _ h in
      (suc p.0, (p.1.0.1, λ u fixed k after w. p.1.1 u fixed _ (λ r0 w0. ends_behind Typed at p.0 (judge_arrow at r0 x) p.1.0.0 (arrow_runs at r0 x) k after w0) w))
  expr_part (t.Post at a s) n rest h =
      let p : ExprPart a n (token (mark (step_mark s)) ∷ closes at ∷ rest) = expr_part a n _ h in
      (suc p.0, (p.1.0.1, λ u fixed k after w. p.1.1 u fixed _ (λ r0 w0. ends_behind Typed at p.0 (judge_step at r0) p.1.0.0 (step_runs at r0) k after w0) w))
  expr_part (t.Name at x) n rest h = (suc n, (h.1, λ u fixed k after w. ends_behind Typed at n (judge_name u at x) h.0 (name_runs u at x) k after w))
  expr_part (t.Number at x) n rest h = (suc n, (h.1, λ u fixed k after w. ends_behind Typed at n (judge_number at x) h.0 (number_runs at x) k after w))
  expr_part (t.Char at x) n rest h = (suc n, (h.1, λ u fixed k after w. ends_behind Typed at n (judge_char at x) h.0 (char_runs at x) k after w))
  expr_part (t.Text at ts) n rest h =
      let e : Numbered n (closes at ∷ rest) = texts_skipped ts n _ h in
      (suc n, (e.1, λ u fixed k after w. ends_behind Typed at n (judge_text at ts) e.0 (text_runs at ts) k after w))
  expr_part (t.Paren at a) n rest h =
      let p : ExprPart a n (token (mark g.RParen) ∷ closes at ∷ rest) = expr_part a n _ h in
      (suc p.0, (p.1.0.1, λ u fixed k after w. p.1.1 u fixed _ (λ r0 w0. ends_behind Typed at p.0 (judge_paren at r0) p.1.0.0 (paren_runs at r0) k after w0) w))
  expr_part (t.Builtin at es) n rest h =
      let p : ExprsPart es n (token (mark g.RParen) ∷ closes at ∷ rest) = exprs_part es n _ h in
      (suc p.0, (p.1.0.1, λ u fixed k after w. p.1.1 u fixed _ (λ r0 w0. ends_behind Typed at p.0 (judge_builtin fixed at es) p.1.0.0 (builtin_runs fixed at es) k after w0) w))

  exprs_part : (es : t.Exprs) (n : ℕ) (rest : List Piece) → Numbered n (pieces_exprs es rest) → ExprsPart es n rest
  exprs_part t.no_exprs n rest h = (n, (h, λ u fixed k after w. after _ _))
  exprs_part (t.expr e es) n rest h =
      let p : ExprPart e n (pieces_more_exprs es rest) = expr_part e n _ h in
      let q : ExprsPart es p.0 rest = more_exprs_part es p.0 rest p.1.0 in
      (q.0, (q.1.0, λ u fixed k after w. p.1.1 u fixed _ (λ x v. q.1.1 u fixed _ (λ xs s. after _ _) v) w))

  more_exprs_part : (es : t.Exprs) (n : ℕ) (rest : List Piece) → Numbered n (pieces_more_exprs es rest) → ExprsPart es n rest
  more_exprs_part t.no_exprs n rest h = (n, (h, λ u fixed k after w. after _ _))
  more_exprs_part (t.expr e es) n rest h =
      let p : ExprPart e n (pieces_more_exprs es rest) = expr_part e n _ h in
      let q : ExprsPart es p.0 rest = more_exprs_part es p.0 rest p.1.0 in
      (q.0, (q.1.0, λ u fixed k after w. p.1.1 u fixed _ (λ x v. q.1.1 u fixed _ (λ xs s. after _ _) v) w))

  pub type_part : (d : t.TypeName) (n : ℕ) (rest : List Piece) → Numbered n (pieces_type d rest) → TypePart d n rest
  type_part (t.type_name at ss t.no_declarator) n rest h =
      let p : SpecsPart ss n (closes at ∷ rest) = specs_part ss n _ h in (
        suc p.0,
        (
          p.1.0.1,
          λ u fixed k after w. p.1.1 u fixed None nothing_specified _ (λ s v. (
            omega (arith, p.1.0.0),
            lower (suc (64 * (2 * at.id) + 3)) (128 * p.0 + 64) (judge_type at (base_type s) (record { name = None; name_at = at; layers = [] }) (λ ty x. k ty (note_type at.id ty x)) v) (omega (arith, p.1.0.0)) (ends CType at p.0 (judge_type at (base_type s) (record { name = None; name_at = at; layers = [] })) p.1.0.0 (type_runs at (base_type s) (record { name = None; name_at = at; layers = [] })) (λ ty x. k ty (note_type at.id ty x)) (λ ty x. after _ _) v),
          )) w,
        ),
      )
  type_part (t.type_name at ss (t.some_declarator d)) n rest h =
      let p : SpecsPart ss n (pieces_declarator d (closes at ∷ rest)) = specs_part ss n _ h in
      let q : DeclaratorPart d p.0 (closes at ∷ rest) = declarator_part d p.0 _ p.1.0 in (
        suc (suc (at_of d).id),
        (
          q.0.1,
          λ u fixed k after w. p.1.1 u fixed None nothing_specified _ (λ s v. (
            omega (arith, q.1.0),
            lower _ (128 * p.0 + 64) _ (omega (arith, q.1.0)) (q.1.1 u fixed _ (λ l x. type_runs (at_of d) (base_type s) l (λ ty y. k ty (note_type at.id ty y)) (λ ty y. lower _ (128 * suc (suc (at_of d).id)) _ (omega arith) (after _ _)) x) v),
          )) w,
        ),
      )

  pub specs_part : (ss : t.Specs) (n : ℕ) (rest : List Piece) → Numbered n (pieces_specs ss rest) → SpecsPart ss n rest
  specs_part t.no_specs n rest h = (n, (h, λ u fixed own s k after w. after _ _))
  specs_part (t.Keyword x ss) n rest h =
      let p : SpecsPart ss n rest = specs_part ss n rest h in
      (p.0, (p.1.0, λ u fixed own s k after w. p.1.1 u fixed own (with_word x s) k after w))
  specs_part (t.Typedef x ss) n rest h =
      let p : SpecsPart ss n rest = specs_part ss n rest h in
      (p.0, (p.1.0, λ u fixed own s k after w. p.1.1 u fixed own (with_type (entry_type (find_name x w)) s) k after w))
  specs_part (t.attribute a ss) n rest h =
      let e : Part (Unit {0}) n (pieces_specs ss rest) (judge_attribute a) = attribute_part a n _ h in
      let p : SpecsPart ss e.0 rest = specs_part ss e.0 rest e.1.0 in
      (p.0, (p.1.0, λ u fixed own s k after w. e.1.1 _ (λ x v. p.1.1 u fixed own s k after v) w))
  specs_part (t.Record at is_union tag b ss) n rest h =
      let e : Numbered n (pieces_body b (closes at ∷ pieces_specs ss rest)) = name_skipped tag n _ h in
      let q : BodyPart b n (closes at ∷ pieces_specs ss rest) = body_part b n _ e in
      let p : SpecsPart ss (suc q.0) rest = specs_part ss (suc q.0) rest q.1.0.1 in
      (p.0, (p.1.0, λ u fixed own s k after w. q.1.1 u fixed at is_union tag _ q.1.0.0 _ (λ ty v. p.1.1 u fixed own (with_tagged ty s) k after v) _))
  specs_part (t.Enum at tag b ss) n rest h =
      let e : Numbered n (pieces_list b (closes at ∷ pieces_specs ss rest)) = name_skipped tag n _ h in
      let q : ListPart b n (closes at ∷ pieces_specs ss rest) = list_part b n _ e in
      let p : SpecsPart ss (suc q.0) rest = specs_part ss (suc q.0) rest q.1.0.1 in
      (p.0, (p.1.0, λ u fixed own s k after w. q.1.1 u fixed at tag _ q.1.0.0 _ (λ ty v. p.1.1 u fixed own (with_tagged ty s) k after v) _))

  body_part : (b : t.MaybeFields) (n : ℕ) (rest : List Piece) → Numbered n (pieces_body b rest) → BodyPart b n rest
  body_part t.no_body n rest h =
      (n, (h, λ u fixed at is_union tag number c k after w. ends_behind CType at n (judge_record_tag at is_union tag number) c (record_tag_runs at is_union tag number) k after w))
  body_part (t.body fs) n rest h =
      let p : FieldsPart fs n (token (mark g.RBrace) ∷ rest) = fields_part fs n _ h in
      (p.0, (p.1.0, λ u fixed at is_union tag number c k after w. p.1.1 u fixed _ (λ ms v. ends_behind CType at p.0 (judge_record at is_union tag number ms) c (record_runs at is_union tag number ms) k after v) w))

  fields_part : (fs : t.Fields) (n : ℕ) (rest : List Piece) → Numbered n (pieces_fields fs rest) → FieldsPart fs n rest
  fields_part t.no_fields n rest h = (n, (h, λ u fixed k after w. after _ _))
  fields_part (t.Field at ss t.no_declarators fs) n rest h =
      let p : SpecsPart ss n (token (mark g.Semi) ∷ closes at ∷ pieces_fields fs rest) = specs_part ss n _ h in
      let f : FieldsPart fs (suc p.0) rest = fields_part fs (suc p.0) rest p.1.0.1 in (
        f.0,
        (
          f.1.0,
          λ u fixed k after w. p.1.1 u fixed None nothing_specified _ (λ s v. (
            omega (arith, p.1.0.0),
            lower _ (128 * suc p.0) _ (omega (arith, p.1.0.0)) (f.1.1 u fixed _ (λ ns x. after _ _) v),
          )) w,
        ),
      )
  fields_part (t.Field at ss (t.declarator d ds) fs) n rest h =
      let p : SpecsPart ss n (pieces_declarator d (pieces_more_declarators ds (token (mark g.Semi) ∷ closes at ∷ pieces_fields fs rest))) = specs_part ss n _ h in
      let q : DeclaratorPart d p.0 (pieces_more_declarators ds (token (mark g.Semi) ∷ closes at ∷ pieces_fields fs rest)) = declarator_part d p.0 _ p.1.0 in
      let r : MembersPart ds (suc (at_of d).id) (token (mark g.Semi) ∷ closes at ∷ pieces_fields fs rest) = more_members_part ds (suc (at_of d).id) _ q.0 in
      let f : FieldsPart fs (suc r.0) rest = fields_part fs (suc r.0) rest r.1.0.1 in (
        f.0,
        (
          f.1.0,
          λ u fixed k after w. p.1.1 u fixed None nothing_specified _ (λ s v. (
            omega (arith, q.1.0),
            lower _ (128 * p.0 + 64) _ (omega (arith, q.1.0)) (q.1.1 u fixed _ (λ l x. member_runs (at_of d) (base_type s) l (λ m y. judge_members u fixed (base_type s) ds (λ ms z. judge_fields u fixed fs (λ ns a. k ((m ∷ ms) ++ ns) a) z) y) (λ m y. r.1.1 u fixed (base_type s) _
                (λ ms z. lower _ (128 * suc r.0) _ (omega arith) (f.1.1 u fixed _ (λ ns a. after _ _) z)) y) x) v),
          )) w,
        ),
      )

  more_members_part : (ds : t.Declarators) (n : ℕ) (rest : List Piece) → Numbered n (pieces_more_declarators ds rest) → MembersPart ds n rest
  more_members_part t.no_declarators n rest h = (n, (h, λ u fixed base k after w. after _ _))
  more_members_part (t.declarator d ds) n rest h =
      let q : DeclaratorPart d n (pieces_more_declarators ds rest) = declarator_part d n _ h in
      let r : MembersPart ds (suc (at_of d).id) rest = more_members_part ds (suc (at_of d).id) rest q.0 in
      (r.0, (r.1.0, λ u fixed base k after w. lower _ (128 * n + 64) _ (omega arith) (q.1.1 u fixed _ (λ l x. member_runs (at_of d) base l (λ m y. judge_members u fixed base ds (λ ms z. k (m ∷ ms) z) y) (λ m y. r.1.1 u fixed base _ (λ ms z. after _ _) y) x) w)))

  list_part : (b : t.MaybeEnumerators) (n : ℕ) (rest : List Piece) → Numbered n (pieces_list b rest) → ListPart b n rest
  list_part t.no_list n rest h =
      (n, (h, λ u fixed at tag number c k after w. ends_behind CType at n (judge_enum_tag at tag number) c (enum_tag_runs at tag number) k after w))
  list_part (t.list es comma) n rest h =
      let p : EnumeratorsPart es n (pieces_comma_if comma (token (mark g.RBrace) ∷ rest)) = enumerators_part es n _ h in
      let e : Numbered p.0 (token (mark g.RBrace) ∷ rest) = comma_skipped comma p.0 _ p.1.0 in
      (p.0, (e, λ u fixed at tag number c k after w. p.1.1 u (pos 0) _ (λ x v. ends_behind CType at p.0 (judge_enum at tag number) c (enum_runs at tag number) k after v) w))

  enumerators_part : (es : t.Enumerators) (n : ℕ) (rest : List Piece) → Numbered n (pieces_enumerators es rest) → EnumeratorsPart es n rest
  enumerators_part t.no_enumerators n rest h = (n, (h, λ u next k after w. after _ _))
  enumerators_part (t.Enumerator at x v es) n rest h =
      let p : ValuePart v n (closes at ∷ pieces_more_enumerators es rest) = value_part v n _ h in
      let q : EnumeratorsPart es (suc p.0) rest = more_enumerators_part es (suc p.0) rest p.1.0.1 in
      (q.0, (q.1.0, λ u next k after w. p.1.1 u next _ (λ c s. ends_behind ℤ at p.0 (judge_enumerator at x next c) p.1.0.0 (enumerator_runs at x next c) (λ later y. judge_enumerators u later es k y) (λ later y. q.1.1 u later k after y) s) w))

  more_enumerators_part : (es : t.Enumerators) (n : ℕ) (rest : List Piece) → Numbered n (pieces_more_enumerators es rest) → EnumeratorsPart es n rest
  more_enumerators_part t.no_enumerators n rest h = (n, (h, λ u next k after w. after _ _))
  more_enumerators_part (t.Enumerator at x v es) n rest h =
      let p : ValuePart v n (closes at ∷ pieces_more_enumerators es rest) = value_part v n _ h in
      let q : EnumeratorsPart es (suc p.0) rest = more_enumerators_part es (suc p.0) rest p.1.0.1 in
      (q.0, (q.1.0, λ u next k after w. p.1.1 u next _ (λ c s. ends_behind ℤ at p.0 (judge_enumerator at x next c) p.1.0.0 (enumerator_runs at x next c) (λ later y. judge_enumerators u later es k y) (λ later y. q.1.1 u later k after y) s) w))

  value_part : (v : t.MaybeExpr) (n : ℕ) (rest : List Piece) → Numbered n (pieces_value v rest) → ValuePart v n rest
  value_part t.no_expr n rest h = (n, (h, λ u next k after w. after _ _))
  value_part (t.some_expr a) n rest h =
      let p : ExprPart a n rest = expr_part a n rest h in
      (p.0, (p.1.0, λ u next k after w. p.1.1 u true _ (λ x v. after _ _) w))

  pub declarator_part : (d : t.Declarator) (n : ℕ) (rest : List Piece) → Numbered n (pieces_declarator d rest) → DeclaratorPart d n rest
  declarator_part (t.Declared at None) n rest h =
      (rw h.0 h.1, (h.0, λ u fixed k after w. lower _ (128 * at.id + 64) _ (omega (arith, h.0)) (after _ _)))
  declarator_part (t.Declared at (Some x)) n rest h =
      (rw h.0 h.1, (h.0, λ u fixed k after w. lower _ (128 * at.id + 64) _ (omega (arith, h.0)) (after _ _)))
  declarator_part (t.Group at d) n rest h =
      let q : DeclaratorPart d n (token (mark g.RParen) ∷ closes at ∷ rest) = declarator_part d n _ h in
      (rw q.0.0 q.0.1, (q.1.0, λ u fixed k after w. q.1.1 u fixed _ (λ l v. lower _ (128 * at.id + 64) _ (omega (arith, q.0.0)) (after _ _)) w))
  declarator_part (t.PointerTo at qs d) n rest h =
      let e : Numbered n (pieces_declarator d (closes at ∷ rest)) = words_skipped qs n _ h in
      let q : DeclaratorPart d n (closes at ∷ rest) = declarator_part d n _ e in
      (rw q.0.0 q.0.1, (q.1.0, λ u fixed k after w. q.1.1 u fixed _ (λ l v. lower _ (128 * at.id + 64) _ (omega (arith, q.0.0)) (after _ _)) w))
  declarator_part (t.ArrayOf at d t.no_expr) n rest h =
      let q : DeclaratorPart d n (token (mark g.LBracket) ∷ token (mark g.RBracket) ∷ closes at ∷ rest) = declarator_part d n _ h in
      (rw q.0.0 q.0.1, (q.1.0, λ u fixed k after w. q.1.1 u fixed _ (λ l v. lower _ (128 * at.id + 64) _ (omega (arith, q.0.0)) (after _ _)) w))
  declarator_part (t.ArrayOf at d (t.some_expr a)) n rest h =
      let q : DeclaratorPart d n (token (mark g.LBracket) ∷ pieces a (token (mark g.RBracket) ∷ closes at ∷ rest)) = declarator_part d n _ h in
      let p : ExprPart a (suc (at_of d).id) (token (mark g.RBracket) ∷ closes at ∷ rest) = expr_part a (suc (at_of d).id) _ q.0 in (
        rw p.1.0.0 p.1.0.1,
        (
          q.1.0,
          λ u fixed k after w. q.1.1 u fixed _ (λ l v. lower _ (128 * suc (at_of d).id) _ (omega arith)
              (p.1.1 u true _ (λ x s. lower _ (128 * at.id + 64) _ (omega (arith, p.1.0.0)) (after _ _)) v)) w,
        ),
      )
  declarator_part (t.FunctionOf at d ps) n rest h =
      let q : DeclaratorPart d n (token (mark g.LParen) ∷ pieces_params ps (token (mark g.RParen) ∷ closes at ∷ rest)) = declarator_part d n _ h in
      let p : ParamsPart ps (suc (at_of d).id) (token (mark g.RParen) ∷ closes at ∷ rest) = params_part ps (suc (at_of d).id) _ q.0 in (
        rw p.1.0.0 p.1.0.1,
        (
          q.1.0,
          λ u fixed k after w. q.1.1 u fixed _ (λ l v. lower _ (128 * suc (at_of d).id) _ (omega arith)
              (p.1.1 u fixed 0 _ (λ x s. lower _ (128 * at.id + 64) _ (omega (arith, p.1.0.0)) (after _ _)) _)) w,
        ),
      )

  params_part : (ps : t.Params) (n : ℕ) (rest : List Piece) → Numbered n (pieces_params ps rest) → ParamsPart ps n rest
  params_part t.no_params n rest h = (n, (h, λ u fixed place k after w. after _ _))
  params_part (t.Param at ss t.no_declarator ps) n rest h =
      let p : SpecsPart ss n (closes at ∷ pieces_more_params ps rest) = specs_part ss n _ h in
      let r : ParamsPart ps (suc p.0) rest = more_params_part ps (suc p.0) rest p.1.0.1 in (
        r.0,
        (
          r.1.0,
          λ u fixed place k after w. p.1.1 u fixed None nothing_specified _ (λ s v. (
            omega (arith, p.1.0.0),
            lower _ (128 * at.id + 64) _ (omega (arith, p.1.0.0)) (param_or_void_runs (place == 0 && is_alone t.no_declarator ps && is_nothing (base_type s)) (length v.objects) at (base_type s) (record { name = None; name_at = at; layers = [] }) (λ qs x. judge_params u fixed (suc place) ps (λ rs y. k (qs ++ rs) y) x) (λ qs x. lower _ (128 * suc p.0) _ (omega (arith, p.1.0.0)) (r.1.1 u fixed (suc place) _ (λ rs y. after _ _) x)) _),
          )) w,
        ),
      )
  params_part (t.Param at ss (t.some_declarator d) ps) n rest h =
      let p : SpecsPart ss n (pieces_declarator d (closes at ∷ pieces_more_params ps rest)) = specs_part ss n _ h in
      let q : DeclaratorPart d p.0 (closes at ∷ pieces_more_params ps rest) = declarator_part d p.0 _ p.1.0 in
      let r : ParamsPart ps (suc (suc (at_of d).id)) rest = more_params_part ps (suc (suc (at_of d).id)) rest q.0.1 in (
        r.0,
        (
          r.1.0,
          λ u fixed place k after w. p.1.1 u fixed None nothing_specified _ (λ s v. (
            omega (arith, q.1.0),
            lower _ (128 * p.0 + 64) _ (omega (arith, q.1.0)) (q.1.1 u fixed _ (λ l x. param_or_void_runs (place == 0 && is_alone (t.some_declarator d) ps && is_nothing (base_type s)) (length v.objects) (at_of d) (base_type s) l (λ qs y. judge_params u fixed (suc place) ps (λ rs z. k (qs ++ rs) z) y)
                (λ qs y. lower _ (128 * suc (suc (at_of d).id)) _ (omega arith) (r.1.1 u fixed (suc place) _ (λ rs z. after _ _) y)) x) _),
          )) w,
        ),
      )

  more_params_part : (ps : t.Params) (n : ℕ) (rest : List Piece) → Numbered n (pieces_more_params ps rest) → ParamsPart ps n rest
  more_params_part t.no_params n rest h = (n, (h, λ u fixed place k after w. after _ _))
  more_params_part (t.Param at ss t.no_declarator ps) n rest h =
      let p : SpecsPart ss n (closes at ∷ pieces_more_params ps rest) = specs_part ss n _ h in
      let r : ParamsPart ps (suc p.0) rest = more_params_part ps (suc p.0) rest p.1.0.1 in (
        r.0,
        (
          r.1.0,
          λ u fixed place k after w. p.1.1 u fixed None nothing_specified _ (λ s v. (
            omega (arith, p.1.0.0),
            lower _ (128 * at.id + 64) _ (omega (arith, p.1.0.0)) (param_or_void_runs (place == 0 && is_alone t.no_declarator ps && is_nothing (base_type s)) (length v.objects) at (base_type s) (record { name = None; name_at = at; layers = [] }) (λ qs x. judge_params u fixed (suc place) ps (λ rs y. k (qs ++ rs) y) x) (λ qs x. lower _ (128 * suc p.0) _ (omega (arith, p.1.0.0)) (r.1.1 u fixed (suc place) _ (λ rs y. after _ _) x)) _),
          )) w,
        ),
      )
  more_params_part (t.Param at ss (t.some_declarator d) ps) n rest h =
      let p : SpecsPart ss n (pieces_declarator d (closes at ∷ pieces_more_params ps rest)) = specs_part ss n _ h in
      let q : DeclaratorPart d p.0 (closes at ∷ pieces_more_params ps rest) = declarator_part d p.0 _ p.1.0 in
      let r : ParamsPart ps (suc (suc (at_of d).id)) rest = more_params_part ps (suc (suc (at_of d).id)) rest q.0.1 in (
        r.0,
        (
          r.1.0,
          λ u fixed place k after w. p.1.1 u fixed None nothing_specified _ (λ s v. (
            omega (arith, q.1.0),
            lower _ (128 * p.0 + 64) _ (omega (arith, q.1.0)) (q.1.1 u fixed _ (λ l x. param_or_void_runs (place == 0 && is_alone (t.some_declarator d) ps && is_nothing (base_type s)) (length v.objects) (at_of d) (base_type s) l (λ qs y. judge_params u fixed (suc place) ps (λ rs z. k (qs ++ rs) z) y)
                (λ qs y. lower _ (128 * suc (suc (at_of d).id)) _ (omega arith) (r.1.1 u fixed (suc place) _ (λ rs z. after _ _) y)) x) _),
          )) w,
        ),
      )
