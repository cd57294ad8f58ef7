-- The last of a record's members.
use Rattle.std.proofs.Common.{rules, ◌≡◌, ◌==◌, ℕ, suc, nat_lt, Bool, true, false, ◌&&◌, ◌||◌, not, if◌then◌else◌, List, [], ◌∷◌, ◌++◌, length, map, refl, sym, ap, ◌∙◌}
use Rattle.c_types.specs.CTypes.{is_flexible}
use Rattle.c_types.specs.Records.{MemberOf}
use Rattle.c_types.specs.Table.{member_of, type_at}
use Rattle.c_types.specs.declared.records.Member.{Member}
use Rattle.c_types.specs.declared.terms.Term.{Term}
use Rattle.c_rules.specs.Declarators.{last_is_flexible}
use Rattle.c_rules.specs.Walk.{ends_well}
use Rattle.declarator_rules.specs.Members.{any_is_flexible}

map_more : (ts : List Term) (xs : List Member) (y : Member) → map (member_of ts) (xs ++ y ∷ []) ≡ map (member_of ts) xs ++ member_of ts y ∷ []
map_more ts [] y = refl
map_more ts (x ∷ xs) y = ap (λ zs. member_of ts x ∷ zs) (map_more ts xs y)

last_is : (ms : List MemberOf) (m : MemberOf) → last_is_flexible (ms ++ m ∷ []) ≡ is_flexible m.type
last_is [] m = refl
last_is (x ∷ []) m = refl
last_is (x ∷ y ∷ ms) m = last_is (y ∷ ms) m

pub last_member : (ts : List Term) (xs ys : List Member) (y : Member) → ys ≡ xs ++ y ∷ [] → last_is_flexible (map (member_of ts) ys) ≡ is_flexible (type_at ts y.ty.0)
last_member ts xs ys y e = ap (λ zs. last_is_flexible (map (member_of ts) zs)) e ∙ ap last_is_flexible (map_more ts xs y) ∙ last_is (map (member_of ts) xs) (member_of ts y)

-- ---- what stands before the last

abbrev later : ℕ → List MemberOf → ℕ
later k [] = k
later k (m ∷ ms) = later (suc k) ms

step : (f : Bool) (a : Bool) (r : Bool) → (not f && (if a then false else r)) ≡ (if f || a then false else r)
step true a r = refl
step false a r = refl

ends_by : (u : Bool) (k : ℕ) (ms : List MemberOf) (m : MemberOf)
    → ends_well u k (ms ++ m ∷ []) ≡ (if any_is_flexible ms then false else (not (is_flexible m.type) || (not u && nat_lt 0 (later k ms))))
ends_by u k [] m = refl
ends_by u k (x ∷ []) m = step (is_flexible x.type) false (not (is_flexible m.type) || (not u && nat_lt 0 (suc k)))
ends_by u k (x ∷ y ∷ ms) m =
    ap (λ b. not (is_flexible x.type) && b) (ends_by u (suc k) (y ∷ ms) m)
    ∙ step (is_flexible x.type) (any_is_flexible (y ∷ ms)) (not (is_flexible m.type) || (not u && nat_lt 0 (later (suc (suc k)) ms)))

counted : (k : ℕ) (ms : List MemberOf) → nat_lt 0 (later (suc k) ms) ≡ true
counted k [] = search rules
counted k (m ∷ ms) = counted (suc k) ms

none_first : (n : ℕ) → not (suc n == 0) ≡ true
none_first n = search rules

is_first : (ts : List Term) (xs : List Member) → nat_lt 0 (later 0 (map (member_of ts) xs)) ≡ not (length xs == 0)
is_first ts [] = refl
is_first ts (x ∷ xs) = counted 0 (map (member_of ts) xs) ∙ sym (none_first (length xs))

pub ends_members : (ts : List Term) (u : Bool) (xs ys : List Member) (y : Member) → ys ≡ xs ++ y ∷ []
    → ends_well u 0 (map (member_of ts) ys) ≡ (if any_is_flexible (map (member_of ts) xs) then false else (not (is_flexible (type_at ts y.ty.0)) || (not u && not (length xs == 0))))
ends_members ts u xs ys y e =
    ap (λ zs. ends_well u 0 (map (member_of ts) zs)) e ∙ ap (ends_well u 0) (map_more ts xs y)
    ∙ ends_by u 0 (map (member_of ts) xs) (member_of ts y)
    ∙ ap (λ b. if any_is_flexible (map (member_of ts) xs) then false else (not (is_flexible (type_at ts y.ty.0)) || (not u && b))) (is_first ts xs)
