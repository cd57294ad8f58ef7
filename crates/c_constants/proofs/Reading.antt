-- The bytes that are read are those of the parts.
use Rattle.std.proofs.Common.{◌≡◌, ℕ, suc, ◌<◌, ◌≤◌, List, [], ◌∷◌, ◌++◌, length, drop, get_or, Option, Some, None, refl, sym, ◌∙◌, ap, drop-cons, append_assoc}
use Rattle.c_constants.specs.Literals.{take_byte, put, bytes_from}
use Rattle.c_constants.specs.declared.literals.Reading.{Reading}

-- one byte more is read
pub read_step : (q : ℕ) (r : Reading) (bs : List ℕ) (i b : ℕ) → i < length bs → b ≡ get_or bs i b
    → bytes_from q r (drop i bs) ≡ put (take_byte q r b).ended (put (take_byte q r b).own (bytes_from q (take_byte q r b).reading (drop (suc i) bs)))
read_step q r bs i b l e = ap (bytes_from q r) (drop-cons bs i b l) ∙ ap (λ x. bytes_from q r (x ∷ drop (suc i) bs)) (sym e)

put_front : (o : Option ℕ) (rest : List ℕ) → put o rest ≡ put o [] ++ rest
put_front (Some b) rest = refl
put_front None rest = refl

pub put_both : (o p : Option ℕ) (rest : List ℕ) → put o (put p rest) ≡ put o (put p []) ++ rest
put_both (Some a) p rest = ap (λ bs. a ∷ bs) (put_front p rest)
put_both None p rest = put_front p rest
