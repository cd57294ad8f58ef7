-- A run takes just as many answers as it needs.
use Rattle.std.proofs.Common.{◌≡◌, suc, [], ◌∷◌, ◌++◌, Option, Some, None, refl, ap}
use Rattle.c_meaning.specs.Run.{Request, Alloc, Free, Ended, Asks, Frees, Begins, Result, after, answered}
use Rattle.c_meaning.specs.Laws.{AnswersSuffice, AnswersFit}

pub suffice : AnswersSuffice
suffice (Ended o e) row = (0, record { output = o; end = e; requests = [] }, refl)
suffice (Begins r) row = suffice r row
suffice (Frees j r) row = let k = suffice r row in (k.0, record (k.1) { requests = Free j ∷ k.1.requests }, ap (after (Free j)) k.2)
suffice (Asks l s a go) row =
    let k = suffice (go (row 0)) (λ i. row (suc i)) in
    (suc k.0, record (k.1) { requests = Alloc l s a ∷ k.1.requests }, ap (after (Alloc l s a)) k.2)

before : (q : Request) (x : Option Result) (r : Result) → after q x ≡ Some r → (r' : Result) × (x ≡ Some r')
before q None r h = let f : ⊥ = cc in absurd f
before q (Some r') r h = (r', refl)

pub fit : AnswersFit
fit (Ended o e) [] [] r r' h k = refl
fit (Ended o e) [] (b ∷ more) r r' h k = let f : ⊥ = cc in absurd f
fit (Ended o e) (a ∷ taken) more r r' h k = let f : ⊥ = cc in absurd f
fit (Begins x) taken more r r' h k = fit x taken more r r' h k
fit (Frees j x) taken more r r' h k =
    let a = before (Free j) (answered x taken) r h in
    let b = before (Free j) (answered x (taken ++ more)) r' k in
    fit x taken more a.0 b.0 a.1 b.1
fit (Asks l s al go) [] more r r' h k = let f : ⊥ = cc in absurd f
fit (Asks l s al go) (a ∷ taken) more r r' h k =
    let x = before (Alloc l s al) (answered (go a) taken) r h in
    let y = before (Alloc l s al) (answered (go a) (taken ++ more)) r' k in
    fit (go a) taken more x.0 y.0 x.1 y.1
