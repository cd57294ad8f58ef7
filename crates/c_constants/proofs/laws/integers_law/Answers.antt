use Rattle.std.proofs.Common.{◌≡◌, ◌∷◌, refl, ap}
use Rattle.c_lexer.specs.Number.{value_from}
use Rattle.c_constants.proofs.Spelled.{left, octals, digits, between_hex, octal_base, decimal_base, unsigned_told, length_told, hexadecimal_base}
use Rattle.c_constants.proofs.laws.integers_law.Goals as goal

pub returns-clause-decimal : goal.returns-clause-decimal
returns-clause-decimal c = λ d ds s h e k.
    let base = decimal_base d ds s h in
    (base, rw base (ap (value_from 10 0) (left (d ∷ ds) s (between_hex d h, digits ds e) k)))

pub returns-clause-octal : goal.returns-clause-octal
returns-clause-octal c = λ ds s e k.
    let base = octal_base ds s e k in
    (base, rw base (ap (value_from 8 0) (left (48 ∷ ds) s (octals (48 ∷ ds) (refl, e)) k)))

pub returns-clause-hexadecimal : goal.returns-clause-hexadecimal
returns-clause-hexadecimal c = λ x d ds s h e k.
    let base = hexadecimal_base x d ds s h in
    (base, rw base (ap (value_from 16 0) (left (d ∷ ds) s e k)))

pub returns-clause-suffixes : goal.returns-clause-suffixes
returns-clause-suffixes c = λ w s e. (unsigned_told w s e, length_told w s e)
