-- A table that grows keeps what its numbers mean.
use Rattle.std.proofs.Common.{◌≡◌, ℕ, zero, suc, ◌+◌, ◌<◌, ◌≤◌, List, [], ◌∷◌, ◌++◌, take, length, get_or, refl, sym, ◌∙◌, ap, arith, length-append, add-zero, subst}
use Rattle.std.proofs.Math.ListN.{get_or-append}
use Rattle.std.proofs.Math.Seq.{get_or-append_seam, take-length, take-append_seam}
use Rattle.c_types.specs.declared.terms.Term.TheVariants as m
use Rattle.c_types.specs.declared.terms.Term.{Term}
use Rattle.c_types.specs.CTypes.{CType, CTypes, one_type}
use Rattle.c_types.specs.CTypes as c
use Rattle.c_types.specs.declared.terms.TypeId.{TypeId}
use Rattle.c_types.specs.Table.{type_in, types_in, types_at, meaning, shown_from, shown, type_at, term_type, AllBelow, PartsBelow, AreOrderedFrom, AreOrdered, Grows}

shown_more : (done : List CType) (ts : List Term) (t : Term) → shown_from done (ts ++ t ∷ []) ≡ shown_from done ts ++ meaning (shown_from done ts) t ∷ []
shown_more done [] t = refl
shown_more done (s ∷ ts) t = shown_more (done ++ meaning done s ∷ []) ts t

length_shown : (done : List CType) (ts : List Term) → length (shown_from done ts) ≡ length done + length ts
length_shown done [] = omega arith
length_shown done (t ∷ ts) = omega (arith, length_shown (done ++ meaning done t ∷ []) ts, length-append done (meaning done t ∷ []))

-- what stands in front stays
kept_from : (done : List CType) (ts : List Term) (i : ℕ) → i < length done → type_in (shown_from done ts) i ≡ type_in done i
kept_from done [] i h = refl
kept_from done (t ∷ ts) i h =
    kept_from (done ++ meaning done t ∷ []) ts i (omega (arith, length-append done (meaning done t ∷ []))) ∙ get_or-append done (meaning done t ∷ []) c.Void i h

-- a term means the same over two lists that agree on its parts
types_same : (xs ys : List CType) (k : ℕ) (ps : List TypeId) → ((i : ℕ) → i < k → type_in xs i ≡ type_in ys i) → AllBelow k ps → types_in xs ps ≡ types_in ys ps
types_same xs ys k [] s b = refl
types_same xs ys k (p ∷ ps) s b = cc (s p.0 b.0, types_same xs ys k ps s b.1)

meaning_same : (xs ys : List CType) (k : ℕ) (t : Term) → ((i : ℕ) → i < k → type_in xs i ≡ type_in ys i) → PartsBelow k t → meaning xs t ≡ meaning ys t
meaning_same xs ys k m.Void s p = refl
meaning_same xs ys k (m.Int n) s p = refl
meaning_same xs ys k (m.Enum n) s p = refl
meaning_same xs ys k (m.Pointer t) s p = ap c.Pointer (s t.0 p)
meaning_same xs ys k (m.Array t n) s p = ap (λ x. c.Array x n) (s t.0 p)
meaning_same xs ys k (m.Flexible t) s p = ap c.Flexible (s t.0 p)
meaning_same xs ys k (m.Function r q) s p = cc (s r.0 p.0, types_same xs ys k q s p.1)
meaning_same xs ys k (m.Record n) s p = refl
meaning_same xs ys k (m.Named n t) s p = ap (c.Named n) (s t.0 p)
meaning_same xs ys k (m.Qualified n t) s p = ap (c.Qualified n) (s t.0 p)

-- the type with a number is its term's
at_from : (done : List CType) (ts : List Term) (i : ℕ) (d : Term) → i < length ts → AreOrderedFrom (length done) ts → type_in (shown_from done ts) (length done + i) ≡ meaning (shown_from done ts) (get_or ts i d)
at_from done [] i d h o = absurd (omega arith)
at_from done (t ∷ ts) zero d h o =
    let more : List CType = done ++ meaning done t ∷ [] in
    let front : (i : ℕ) → i < length done → type_in (shown_from more ts) i ≡ type_in done i =
    λ i l. kept_from more ts i (omega (arith, length-append done (meaning done t ∷ []))) ∙ get_or-append done (meaning done t ∷ []) c.Void i l in
    rw add-zero (kept_from more ts (length done) (omega (arith, length-append done (meaning done t ∷ []))) ∙ get_or-append_seam done (meaning done t) [] c.Void ∙ sym (meaning_same (shown_from more ts) done (length done) t front o.0))
at_from done (t ∷ ts) (suc i) d h o =
    let more : List CType = done ++ meaning done t ∷ [] in
    let here : suc (length done) ≡ length more = omega (arith, length-append done (meaning done t ∷ [])) in
    let there : length done + suc i ≡ length more + i = omega (arith, length-append done (meaning done t ∷ [])) in
    let ordered : AreOrderedFrom (length more) ts = subst (λ (k : ℕ). AreOrderedFrom k ts) here o.1 in
    rw there (at_from more ts i d (omega arith) ordered)

parts_from : (k : ℕ) (ts : List Term) (i : ℕ) (d : Term) → i < length ts → AreOrderedFrom k ts → PartsBelow (k + i) (get_or ts i d)
parts_from k [] i d h o = absurd (omega arith)
parts_from k (t ∷ ts) zero d h o = rw add-zero o.0
parts_from k (t ∷ ts) (suc i) d h o = let e : k + suc i ≡ suc k + i = omega arith in rw e (parts_from (suc k) ts i d (omega arith) o.1)

ordered_from : (k : ℕ) (ts : List Term) (t : Term) → AreOrderedFrom k ts → PartsBelow (k + length ts) t → AreOrderedFrom k (ts ++ t ∷ [])
ordered_from k [] t o p = (rw add-zero at p, tt)
ordered_from k (s ∷ ts) t o p = (o.0, ordered_from (suc k) ts t o.1 (let e : suc k + length ts ≡ k + suc (length ts) = omega arith in rw e p))

types_is : (ts : List Term) (ps : List TypeId) → types_at ts ps ≡ types_in (shown ts) ps
unfolding type_at
types_is ts [] = refl
types_is ts (p ∷ ps) = ap (one_type (type_in (shown ts) p.0)) (types_is ts ps)

pub term_type_is : (ts : List Term) (t : Term) → term_type ts t ≡ meaning (shown ts) t
unfolding type_at
term_type_is ts m.Void = refl
term_type_is ts (m.Int n) = refl
term_type_is ts (m.Enum n) = refl
term_type_is ts (m.Pointer t) = refl
term_type_is ts (m.Array t n) = refl
term_type_is ts (m.Flexible t) = refl
term_type_is ts (m.Function r q) = ap (c.Function (type_in (shown ts) r.0)) (types_is ts q)
term_type_is ts (m.Record n) = refl
term_type_is ts (m.Named n t) = refl
term_type_is ts (m.Qualified n t) = refl

pub grows_more : (ts : List Term) (t : Term) → Grows ts (ts ++ t ∷ [])
unfolding type_at shown
grows_more ts t = record {
  longer = omega (arith, length-append ts (t ∷ []));
  front = take-append_seam ts (t ∷ []);
  same = λ i h. rw (shown_more [] ts t) (get_or-append (shown_from [] ts) (meaning (shown_from [] ts) t ∷ []) c.Void i (omega (arith, length_shown [] ts)));
}

pub at_more : (ts : List Term) (t : Term) → type_at (ts ++ t ∷ []) (length ts) ≡ term_type ts t
unfolding type_at shown
at_more ts t =
    let e : length ts ≡ length (shown_from [] ts) = omega (arith, length_shown [] ts) in
    rw (shown_more [] ts t, e) (get_or-append_seam (shown_from [] ts) (meaning (shown_from [] ts) t) [] c.Void) ∙ sym (term_type_is ts t)

pub at_term : (ts : List Term) (i : ℕ) (d : Term) → i < length ts → AreOrdered ts → type_at ts i ≡ term_type ts (get_or ts i d)
unfolding type_at shown
at_term ts i d h o = (let e : length {A = CType} [] + i ≡ i = omega arith in rw e at (at_from [] ts i d h o)) ∙ sym (term_type_is ts (get_or ts i d))

pub parts_term : (ts : List Term) (i : ℕ) (d : Term) → i < length ts → AreOrdered ts → PartsBelow i (get_or ts i d)
parts_term ts i d h o = let e : 0 + i ≡ i = omega arith in rw e at (parts_from 0 ts i d h o)

pub ordered_more : (ts : List Term) (t : Term) → AreOrdered ts → PartsBelow (length ts) t → AreOrdered (ts ++ t ∷ [])
ordered_more ts t o p = ordered_from 0 ts t o (let e : length ts ≡ 0 + length ts = omega arith in rw e at p)

pub grows_self : (ts : List Term) → Grows ts ts
grows_self ts = record { longer = omega arith; front = take-length ts; same = λ i h. refl }

take_take : {A : Type 0} (xs ys : List A) (n : ℕ) → n ≤ length xs → take (length xs) ys ≡ xs → take n ys ≡ take n xs
take_take xs ys zero l e = refl
take_take [] ys (suc n) l e = absurd (omega arith)
take_take (x ∷ xs) [] (suc n) l e = cc
take_take (x ∷ xs) (y ∷ ys) (suc n) l e = let f : y ≡ x = cc in let r : take (length xs) ys ≡ xs = cc in cc (f, take_take xs ys n (omega arith) r)

pub grows_on : (a b c : List Term) → Grows a b → Grows b c → Grows a c
grows_on a b c p q = record { longer = omega arith; front = take_take b c (length a) p.longer q.front ∙ p.front; same = λ i h. q.same i (omega arith) ∙ p.same i h }
