-- The lengths of adjacent string literals.
use Rattle.std.proofs.Common.{◌≡◌, ℕ, suc, ◌+◌, ◌<◌, List, ◌∷◌, length, get_or, drop, refl, sym, ap, ◌∙◌, length-append, add-one}
use Rattle.std.proofs.Math.Seq.{drop-cons}
use Rattle.c_constants.specs.Literals.{literal_bytes, text_bytes, text_length}
use Rattle.c_tree.specs.Marked as t
use Rattle.c_types.specs.CTypes.{CType}
use Rattle.c_types.specs.Plain.{plain}
use Rattle.c_rules.specs.Types.{element, is_char}
use Rattle.c_rules.specs.Unit.{length_given}
use Rattle.body_rules.specs.Lengths.{given_by}

one_more : (w : List ℕ) (ws : List (List ℕ)) → text_length (w ∷ ws) ≡ length (literal_bytes w) + text_length ws
one_more w ws = length-append (literal_bytes w) (text_bytes ws)

pub length_step : (ws : List (List ℕ)) (i : ℕ) (w : List ℕ) → i < length ws → w ≡ get_or ws i w → text_length (drop i ws) ≡ length (literal_bytes w) + text_length (drop (i + 1) ws)
length_step ws i w h is =
    let here : drop i ws ≡ w ∷ drop (suc i) ws = drop-cons ws i w h ∙ ap (λ x. x ∷ drop (suc i) ws) (sym is) in
    rw (add-one i) (ap text_length here ∙ one_more w (drop (suc i) ws))

pub one_more_is : (n : ℕ) → n + 1 ≡ suc n
one_more_is n = add-one n

-- what initialises an array gives it its length by its elements
pub given_is : (ty : CType) (g : t.Init) → length_given ty (t.some_init g) ≡ given_by (is_char (plain (element (plain ty)))) g
given_is ty (t.Plain e) = refl
given_is ty (t.Braces at gs c) = refl
