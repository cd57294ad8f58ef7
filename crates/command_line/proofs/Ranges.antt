-- The number of tokens that the words ask for is in its range.
use Rattle.std.proofs.Common.{◌≡◌, ℕ, ◌≤◌, Bool, true, false, List, [], ◌∷◌, Option, Some, None, refl, ap, subst, arith}
use Rattle.std.specs.Prelude.{◌&&◌, leb, bytes_eq, codes, option_map, option_and_then, if◌then◌else◌}
use Rattle.std.proofs.lemmas.Bool.Decides.{nat_tests}
use Rattle.command_line.specs.declared.options.Options.{Options}
use Rattle.command_line.specs.Words.{Part, Mode, Max, parts, values, files, number, is_number, value_from}
use Rattle.command_line.specs.Options.{max_of, options_from, options_in, options_of}

abbrev InRange : ℕ → Type 0
InRange n = (1 ≤ n) × (n ≤ 65536)

if_some : {A : Type 0} (b : Bool) (x : Option A) (o : A) → (if b then x else None) ≡ Some o → (b ≡ true) × (x ≡ Some o)
if_some true x o e = (refl, e)
if_some false x o e = absurd (cc)

both : (a b : Bool) → (a && b) ≡ true → (a ≡ true) × (b ≡ true)
both true b e = (refl, e)
both false b e = absurd (cc)

number_in : (w : List ℕ) (n : ℕ) → number 1 65536 w ≡ Some n → InRange n
number_in w n e =
    let v = value_from 0 w in
    let h = if_some (is_number w && leb 1 v && leb v 65536) (Some v) n e in
    let last = both (is_number w && leb 1 v) (leb v 65536) h.0 in
    let first = both (is_number w) (leb 1 v) last.0 in
    let x : leb 1 v ≡ true = first.1 in
    let y : leb v 65536 ≡ true = last.1 in
    let z : Some v ≡ Some n = h.1 in
    let same : v ≡ n = cc in
    let low : 1 ≤ v = grind (arith, nat_tests) in
    let high : v ≤ 65536 = grind (arith, nat_tests) in
    subst InRange same (low, high)

max_in : (ws : List (List ℕ)) (n : ℕ) → max_of ws ≡ Some n → InRange n
max_in [] n e = let same : 16 ≡ n = cc in let r : InRange 16 = (omega arith, omega arith) in subst InRange same r
max_in (w ∷ []) n e = number_in w n e
max_in (w ∷ v ∷ ws) n e = absurd (cc)

with_max : (f : List ℕ) (x : Option ℕ) (o : Options) → option_map (λ n. record { file = f; max = n }) x ≡ Some o → x ≡ Some o.max
with_max f None o e = absurd (cc)
with_max f (Some n) o e =
    let same : record { file = f; max = n } ≡ o = cc in
    ap (λ p. Some p.max) same

from_in : (modes maxs fs : List (List ℕ)) (o : Options) → options_from modes maxs fs ≡ Some o → InRange o.max
from_in [] maxs fs o e = absurd (cc)
from_in (m ∷ []) maxs [] o e = absurd (cc)
from_in (m ∷ []) maxs (f ∷ []) o e =
    let h = if_some (bytes_eq m (codes "increment")) (option_map (λ n. record { file = f; max = n }) (max_of maxs)) o e in
    max_in maxs o.max (with_max f (max_of maxs) o h.1)
from_in (m ∷ []) maxs (f ∷ g ∷ fs) o e = absurd (cc)
from_in (m ∷ n ∷ ms) maxs fs o e = absurd (cc)

parts_in : (ps : Option (List Part)) (o : Options) → option_and_then options_in ps ≡ Some o → InRange o.max
parts_in None o e = absurd (cc)
parts_in (Some ps) o e = from_in (values Mode ps) (values Max ps) (files ps) o e

pub options_in_range : (ws : List (List ℕ)) (o : Options) → options_of ws ≡ Some o → InRange o.max
options_in_range [] o e = absurd (cc)
options_in_range (c ∷ ws) o e = parts_in (parts ws) o (if_some (bytes_eq c (codes "rewrite")) (option_and_then options_in (parts ws)) o e).1
