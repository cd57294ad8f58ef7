-- A history that is one entry longer, and what a legal history leaves live.
use Rattle.std.proofs.Common.{◌≡◌, ◌≢◌, ⊎_elim, ℕ, ◌+◌, ◌%◌, ◌<◌, ◌≤◌, Bool, true, false, cond, nat_eq, List, [], ◌∷◌, ◌++◌, Option, Some, None, refl, sym, ap, ◌∙◌, subst, arith}
use Rattle.std.proofs.lemmas.List.{append-nil, append_assoc}
use Rattle.std.proofs.lemmas.Bool.Decides.{eqb_tells}
use Rattle.std.specs.Prelude.{is_some}
use Rattle.range_heap.specs.declared.call.HeapCall.{HeapCall}
use Rattle.range_heap.specs.declared.call.HeapEvent.{HeapEvent}
use Rattle.range_heap.specs.declared.call.HeapEvent.TheVariants.{Grant, Refuse, Release}
use Rattle.range_heap.specs.Blocks.{rounded, Block, without, blocks_after, blocks_from, live_blocks, size_in, live, IsClear, AllApart}
use Rattle.range_heap.specs.History.{Region, MayFollow, LegalFrom, Legal}
use Rattle.range_heap.proofs.Clear.{apart_without, size_without, rounded_some, none_some, some_same, clear_of}

-- whether a block that begins at p is live after one more event, where b says whether it was
abbrev pub live_after : ℕ → Bool → HeapEvent → Bool
live_after p b (Grant size place) = cond (nat_eq place p) true b
live_after p b (Refuse size) = b
live_after p b (Release place) = cond (nat_eq place p) false b

abbrev pub live_from : ℕ → Bool → List HeapCall → Bool
live_from p b [] = b
live_from p b (e ∷ es) = live_from p (live_after p b e.what) es

pub live_from-snoc : (p : ℕ) (b : Bool) (h : List HeapCall) (e : HeapCall) → live_from p b (h ++ e ∷ []) ≡ live_after p (live_from p b h) e.what
live_from-snoc p b [] e = refl
live_from-snoc p b (x ∷ xs) e = live_from-snoc p (live_after p b x.what) xs e

pub blocks_from-snoc : (bs : List Block) (h : List HeapCall) (e : HeapCall) → blocks_from bs (h ++ e ∷ []) ≡ blocks_after (blocks_from bs h) e.what
blocks_from-snoc bs [] e = refl
blocks_from-snoc bs (x ∷ xs) e = blocks_from-snoc (blocks_after bs x.what) xs e

is_some-cond : (t : Bool) (s : ℕ) (o : Option ℕ) → is_some (cond t (Some s) o) ≡ cond t true (is_some o)
is_some-cond true s o = refl
is_some-cond false s o = refl

is_some-none : (t : Bool) (o : Option ℕ) → is_some (cond t None o) ≡ cond t false (is_some o)
is_some-none true o = refl
is_some-none false o = refl

live_step : (p : ℕ) (bs : List Block) (w : HeapEvent) → is_some (size_in p (blocks_after bs w)) ≡ live_after p (is_some (size_in p bs)) w
live_step p bs (Grant size place) = is_some-cond (nat_eq place p) size (size_in p bs)
live_step p bs (Refuse size) = refl
live_step p bs (Release place) = ap is_some (size_without bs place p) ∙ is_some-none (nat_eq place p) (size_in p bs)

live_is_from : (p : ℕ) (bs : List Block) (h : List HeapCall) → is_some (size_in p (blocks_from bs h)) ≡ live_from p (is_some (size_in p bs)) h
live_is_from p bs [] = refl
live_is_from p bs (e ∷ es) = live_is_from p (blocks_after bs e.what) es ∙ ap (λ b. live_from p b es) (live_step p bs e.what)

-- a place is live where its last grant or release is a grant
pub live_is : (p : ℕ) (h : List HeapCall) → live p h ≡ live_from p false h
live_is p h = live_is_from p [] h

pub live-snoc : (p : ℕ) (h : List HeapCall) (e : HeapCall) → live p (h ++ e ∷ []) ≡ live_after p (live p h) e.what
live-snoc p h e = live_is p (h ++ e ∷ []) ∙ live_from-snoc p false h e ∙ ap (λ b. live_after p b e.what) (sym (live_is p h))

legal_from-snoc : (r : Region) (done h : List HeapCall) (e : HeapCall) → LegalFrom r done h → MayFollow r (done ++ h) e.what → LegalFrom r done (h ++ e ∷ [])
legal_from-snoc r done [] e l m = (subst (λ (d : List HeapCall). MayFollow r d e.what) (append-nil done) m, tt)
legal_from-snoc r done (x ∷ xs) e l m = (l.0, legal_from-snoc r (done ++ x ∷ []) xs e l.1 (subst (λ (d : List HeapCall). MayFollow r d e.what) (sym (append_assoc done (x ∷ []) xs)) m))

pub legal-snoc : (r : Region) (h : List HeapCall) (e : HeapCall) → Legal r h → MayFollow r h e.what → Legal r (h ++ e ∷ [])
legal-snoc r h e l m = legal_from-snoc r [] h e l m

legal_from-front : (r : Region) (done h more : List HeapCall) → LegalFrom r done (h ++ more) → LegalFrom r done h
legal_from-front r done [] more l = tt
legal_from-front r done (x ∷ xs) more l = (l.0, legal_from-front r (done ++ x ∷ []) xs more l.1)

pub legal-front : (r : Region) (h more : List HeapCall) → Legal r (h ++ more) → Legal r h
legal-front r h more l = legal_from-front r [] h more l

legal_from-last : (r : Region) (done h : List HeapCall) (e : HeapCall) → LegalFrom r done (h ++ e ∷ []) → MayFollow r (done ++ h) e.what
legal_from-last r done [] e l = subst (λ (d : List HeapCall). MayFollow r d e.what) (sym (append-nil done)) l.0
legal_from-last r done (x ∷ xs) e l = subst (λ (d : List HeapCall). MayFollow r d e.what) (append_assoc done (x ∷ []) xs) (legal_from-last r (done ++ x ∷ []) xs e l.1)

pub legal-last : (r : Region) (h : List HeapCall) (e : HeapCall) → Legal r (h ++ e ∷ []) → MayFollow r h e.what
legal-last r h e l = legal_from-last r [] h e l

-- the live blocks of a legal history lie in the range at multiples of 16, and do not meet

abbrev pub AllWithin : Region → List Block → Type 0
AllWithin r [] = Unit {0}
AllWithin r (b ∷ bs) = ((b.place % 16 ≡ 0) × (r.first ≤ b.place) × (b.place + rounded b.size ≤ r.first + r.size)) × AllWithin r bs

abbrev pub Good : Region → List Block → Type 0
Good r bs = AllWithin r bs × AllApart bs

within_without : (r : Region) (bs : List Block) (p : ℕ) → AllWithin r bs → AllWithin r (without p bs)
within_without r [] p a = tt
within_without r (b ∷ bs) p a = go (nat_eq b.place p) (within_without r bs p a.1)
  where
    go : (t : Bool) → AllWithin r (without p bs) → AllWithin r (cond t (without p bs) (b ∷ without p bs))
    go true d = d
    go false d = (a.0, d)

good_step : (r : Region) (done : List HeapCall) (w : HeapEvent) → MayFollow r done w → Good r (live_blocks done) → Good r (blocks_after (live_blocks done) w)
good_step r done (Grant size place) m g = (((m.0.multiple, m.0.above, m.0.within), g.0), (m.0.clear, g.1))
good_step r done (Refuse size) m g = g
good_step r done (Release place) m g = (within_without r (live_blocks done) place g.0, apart_without (live_blocks done) place g.1)

good_from : (r : Region) (done h : List HeapCall) → LegalFrom r done h → Good r (live_blocks done) → Good r (live_blocks (done ++ h))
good_from r done [] l g = subst (λ (d : List HeapCall). Good r (live_blocks d)) (sym (append-nil done)) g
good_from r done (e ∷ es) l g =
    subst (λ (d : List HeapCall). Good r (live_blocks d)) (append_assoc done (e ∷ []) es)
    (good_from r (done ++ e ∷ []) es l.1 (subst (λ (bs : List Block). Good r bs) (sym (blocks_from-snoc [] done e)) (good_step r done e.what l.0 g)))

pub legal_good : (r : Region) (h : List HeapCall) → Legal r h → Good r (live_blocks h)
legal_good r h l = good_from r [] h l (tt, tt)

pub within_at : (r : Region) (bs : List Block) (p s : ℕ) → AllWithin r bs → size_in p bs ≡ Some s → (p % 16 ≡ 0) × (r.first ≤ p) × (p + rounded s ≤ r.first + r.size)
within_at r [] p s a e = none_some s e
within_at r (b ∷ bs) p s a e = ⊎_elim
    (λ (q : (nat_eq b.place p ≡ true) × (b.place ≡ p)).
    let f : Some b.size ≡ Some s = subst (λ (t : Bool). cond t (Some b.size) (size_in p bs) ≡ Some s) q.0 e in
    let g : b.size ≡ s = some_same b.size s f in
    subst (λ (x : ℕ). (x % 16 ≡ 0) × (r.first ≤ x) × (x + rounded s ≤ r.first + r.size)) q.1
    (subst (λ (x : ℕ). (b.place % 16 ≡ 0) × (r.first ≤ b.place) × (b.place + rounded x ≤ r.first + r.size)) g a.0))
    (λ (q : (nat_eq b.place p ≡ false) × (b.place ≢ p)).
    within_at r bs p s a.1 (subst (λ (t : Bool). cond t (Some b.size) (size_in p bs) ≡ Some s) q.0 e))
    (eqb_tells b.place p)

-- a place that is clear for some bytes is not live
pub clear_not_live : (h : List HeapCall) (p n : ℕ) → 0 < n → IsClear (live_blocks h) p n → live p h ≡ false
clear_not_live h p n pos c = go (size_in p (live_blocks h)) refl
  where
    go : (o : Option ℕ) → size_in p (live_blocks h) ≡ o → is_some (size_in p (live_blocks h)) ≡ false
    go None e = ap is_some e
    go (Some s) e = absurd (⊎_elim {C = ⊥} (λ (x : p + n ≤ p). omega (arith, x, pos)) (λ (x : p + rounded s ≤ p). omega (arith, x, rounded_some s)) (clear_of (live_blocks h) p n p s c e))
