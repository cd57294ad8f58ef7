-- The examples, computed.
use Rattle.std.proofs.Common.{◌≡◌, ℕ, ◌≤◌, inl, List, [], ◌∷◌, true, false, refl, sym, subst, arith, ◌++◌}
use Rattle.std.specs.Prelude.{codes}
use Rattle.c_lexer.specs.Name as lexis
use Rattle.c_lexer.specs.Number.{IsConstant, decimal, octal, hexadecimal, suffixes, is_suffix}
use Rattle.c_lexer.specs.Bytes.{is_between, is_octal, Each}
use Rattle.c_tree.specs.Tree as u
use Rattle.c_tree.specs.Text.{IsName, IsNumber}
use Rattle.c_tree.specs.Wf.{WfUnit}
use Rattle.c_tree.specs.Examples.{int, deep, same_name, type_as_operand, name_as_type, returns_one, inner_else, outer_else, empty_cast, product, sum_of, keyword_as_name, no_octal, empty_arguments}
use Rattle.c_tree.specs.Examples.{DepthsAre, DeclaratorsAre, TypedefNamesAre, StatementsAre, ExpressionsAre, AttributesAre, PlacesAre}

there : int ≡ u.no_specs → ⊥
there e = cc

name_a : IsName (codes "a")
unfolding lexis.words
name_a = ((refl, tt), refl)

name_f : IsName (codes "f")
unfolding lexis.words
name_f = ((refl, tt), refl)

name_t : IsName (codes "t")
unfolding lexis.words
name_t = ((refl, tt), refl)

number_1 : IsNumber (codes "1")
unfolding suffixes
number_1 = decimal 49 [] [] refl refl tt refl (omega arith)

number_3 : IsNumber (codes "3")
unfolding suffixes
number_3 = decimal 51 [] [] refl refl tt refl (omega arith)

deep_wf : WfUnit [] (deep 197)
deep_wf = ((there, (refl, tt), (refl, (λ h. refl), name_a, tt, (omega arith, number_1), tt)), tt)

deeper_wf : WfUnit [] (deep 198)
deeper_wf = ((there, (refl, tt), (refl, (λ h. refl), name_a, tt, (omega arith, number_1), tt)), tt)

pub depths : DepthsAre
depths = (deep_wf, refl, (let h : 200 ≤ 200 = omega arith in h), deeper_wf, refl, λ h. let k : 201 ≤ 200 = h in omega arith)

pub declarators : DeclaratorsAre
declarators =
    (((there, (refl, tt), (refl, tt, (tt, (tt, tt, (tt, name_f)), (there, (refl, tt), tt, tt)), tt, tt, (refl, tt, (tt, (tt, name_a, (omega arith, number_3))), tt, tt, tt))), tt), refl)

typedef_wf : WfUnit [] same_name
typedef_wf = (
  ((λ e. cc), (refl, (refl, tt)), (refl, (λ h. refl), name_t, tt, tt, tt)),
  ((there, (refl, tt), refl, (λ h. refl), (tt, name_f, ((λ e. cc), (name_t, refl, refl, tt), (refl, (λ h. refl), name_t), tt)), inl tt, ((omega arith, number_1), tt)), tt),
)

no_operand : WfUnit [] type_as_operand → ⊥
no_operand h = let e : true ≡ false = h.1.0.2.4.1.1 in cc

no_type : WfUnit [] name_as_type → ⊥
no_type h = let e : false ≡ true = h.0.1.1 in cc

pub typedef_names : TypedefNamesAre
typedef_names = (typedef_wf, refl, no_operand, no_type)

returns_wf : WfUnit [] returns_one
returns_wf = ((there, (refl, tt), refl, (λ h. refl), (tt, name_f, ((λ e. cc), (refl, tt), tt, tt)), inl tt, ((omega arith, number_1), tt)), tt)

inner_wf : WfUnit [] inner_else
inner_wf = ((there, (refl, tt), refl, (λ h. refl), (tt, name_f, tt), inl tt, ((number_1, (number_1, tt, refl, tt)), tt)), tt)

not_outer : WfUnit [] outer_else → ⊥
not_outer h = let e : true ≡ false = h.0.6.0.2 in cc

pub statements : StatementsAre
statements = (returns_wf, refl, inner_wf, refl, not_outer, refl)

sum_wf : WfUnit [] sum_of
sum_wf =
    ((there, (refl, tt), (refl, (λ h. refl), name_a, tt, (omega arith, (omega arith, number_1, omega arith, (omega arith, number_1, omega arith, number_1))), tt)), tt)

not_product : WfUnit [] product → ⊥
not_product h = let e : 13 ≤ 12 = h.0.2.4.1.0 in omega arith

not_cast : WfUnit [] empty_cast → ⊥
not_cast h = h.0.2.4.1.0 refl

not_keyword : WfUnit [] keyword_as_name → ⊥
unfolding lexis.words
not_keyword h = let e : true ≡ false = h.0.2.2.1 in cc

no_octal_digits : (ds s : List ℕ) → codes "8" ≡ ds ++ s → Each is_octal ds → is_suffix s ≡ true → ⊥
unfolding suffixes
no_octal_digits [] s e o f = let bad : is_suffix (codes "8") ≡ true = subst (λ x. is_suffix x ≡ true) (sym e) f in cc
no_octal_digits (d ∷ ds) s e o f =
    let same : d ≡ 56 = cc in
    let bad : is_octal 56 ≡ true = subst (λ x. is_octal x ≡ true) same o.0 in cc

not_08 : IsConstant (codes "08") → ⊥
not_08 (decimal d ds s e b g f v) =
    let same : d ≡ 48 = cc in
    let bad : is_between 49 57 48 ≡ true = subst (λ x. is_between 49 57 x ≡ true) same b in cc
not_08 (octal ds s e o f v) = let tail : codes "8" ≡ ds ++ s = cc in no_octal_digits ds s tail o f
not_08 (hexadecimal x d ds s e b g f v) = cc

not_octal : WfUnit [] no_octal → ⊥
not_octal h = not_08 h.0.2.4.1

pub expressions : ExpressionsAre
expressions = (not_cast, refl, sum_wf, not_product, refl, not_keyword, not_octal)

arguments_wf : WfUnit [] empty_arguments
arguments_wf = (((λ e. cc), (((name_a, tt), tt), (refl, tt)), tt), tt)

pub attributes : AttributesAre
attributes = (arguments_wf, refl)

pub places : PlacesAre
places = (
  (refl, (refl, (refl, (refl, (refl, (refl, (refl, tt))))))),
  (refl, (refl, (refl, (refl, (refl, (refl, (refl, (refl, refl, (refl, (refl, (refl, (refl, (refl, refl))))))))))))),
)
