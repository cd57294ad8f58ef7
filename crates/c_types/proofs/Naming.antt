-- The places of members' names.
use Rattle.std.proofs.Common.{◌≡◌, ℕ, zero, suc, ◌+◌, ◌<◌, List, [], ◌∷◌, ◌++◌, length, take, get_or, map, Bool, true, false, nat_eq, Option, Some, None, if◌then◌else◌, refl, sym, ◌∙◌, ap, arith}
use Rattle.std.specs.Option.{option_map}
use Rattle.std.specs.Cmp.Lexicographic.{pointwise}
use Rattle.std.proofs.Math.Seq.{take-suc}
use Rattle.name_places.specs.Placed.{place_of, or_else, with_place}
use Rattle.c_types.specs.Members.{names_in}
use Rattle.c_types.specs.declared.records.Member.{Member}

shifted : (o p : Option ℕ) → option_map suc (or_else o p) ≡ or_else (option_map suc o) (option_map suc p)
shifted (Some n) p = refl
shifted None p = refl

moved : (b : Bool) (n : ℕ) → option_map suc (if b then Some n else None) ≡ (if b then Some (suc n) else None)
moved true n = refl
moved false n = refl

first : (b : Bool) (o p : Option ℕ) → (if b then Some 0 else or_else o p) ≡ or_else (if b then Some 0 else o) p
first true o p = refl
first false o p = refl

one : (b : Bool) → (if b then Some 0 else option_map suc None) ≡ (if b then Some 0 else None)
one true = refl
one false = refl

more : (name : List ℕ) (xs : List (List ℕ)) (x : List ℕ) → place_of name (xs ++ x ∷ []) ≡ or_else (place_of name xs) (if pointwise nat_eq name x then Some (length xs) else None)
more name [] x = one (pointwise nat_eq name x)
more name (y ∷ xs) x =
    ap (λ o. if pointwise nat_eq name y then Some 0 else option_map suc o) (more name xs x)
    ∙ ap (λ o. if pointwise nat_eq name y then Some 0 else o) (shifted (place_of name xs) (if pointwise nat_eq name x then Some (length xs) else None) ∙ ap (or_else (option_map suc (place_of name xs))) (moved (pointwise nat_eq name x) (length xs)))
    ∙ first (pointwise nat_eq name y) (option_map suc (place_of name xs)) (if pointwise nat_eq name x then Some (suc (length xs)) else None)

names_more : (ms : List Member) (m : Member) → names_in (ms ++ m ∷ []) ≡ names_in ms ++ m.name ∷ []
names_more [] m = refl
names_more (x ∷ ms) m = ap (λ ns. x.name ∷ ns) (names_more ms m)

long : (ms : List Member) (i : ℕ) → i < length ms → length (names_in (take i ms)) ≡ i
long [] i l = absurd (omega arith)
long (x ∷ ms) zero l = refl
long (x ∷ ms) (suc i) l = ap suc (long ms i (omega arith))

-- one name more is noted
pub noted_step : (f g : List ℕ → Option ℕ) (ms : List Member) (i : ℕ) (m : Member) (name : List ℕ) → i < length ms → m ≡ get_or ms i m → name ≡ m.name
    → ((other : List ℕ) → f other ≡ place_of other (names_in (take i ms)))
    → ((other : List ℕ) → g other ≡ with_place f name i other)
    → (other : List ℕ) → g other ≡ place_of other (names_in (take (i + 1) ms))
noted_step f g ms i m name l at n before step other =
    let next : take (i + 1) ms ≡ take i ms ++ m ∷ [] = (let k : i + 1 ≡ suc i = omega arith in rw k (take-suc ms i m l ∙ ap (λ x. take i ms ++ x ∷ []) (sym at))) in
    step other
    ∙ ap (λ o. or_else o (if pointwise nat_eq other name then Some i else None)) (before other)
    ∙ ap (λ x. or_else (place_of other (names_in (take i ms))) (if pointwise nat_eq other x then Some i else None)) n
    ∙ ap (λ k. or_else (place_of other (names_in (take i ms))) (if pointwise nat_eq other m.name then Some k else None)) (sym (long ms i l))
    ∙ sym (ap (λ xs. place_of other (names_in xs)) next ∙ ap (place_of other) (names_more (take i ms) m) ∙ more other (names_in (take i ms)) m.name)
