-- The ranges of each half.
use Rattle.std.proofs.Common.{◌≡◌, ℕ, ◌+◌, ◌*◌, ◌<◌, List, [], length, get_or, take, drop, sym, subst, arith}
use Rattle.std.proofs.lemmas.List.{get_or-take, get_or-drop, length-take, length-drop}
use Rattle.range_heap.specs.declared.call.HeapCall.{HeapCall}
use Rattle.range_heap.specs.History.{region, Legal}
use Rattle.trace_replay.specs.Report.{RangesLegal}

pub legal_take : (size first n : ℕ) (hs : List (List HeapCall)) → RangesLegal size first hs → RangesLegal size first (take n hs)
legal_take size first n hs legal = λ t lt.
    let long = length-take n hs in
    let below : t < n = omega (arith, lt, long) in
    let within : t < length hs = omega (arith, lt, long) in
    subst (λ (h : List HeapCall). Legal (region (first + t * size) size) h) (sym (get_or-take n hs t [] below)) (legal t within)

pub legal_drop : (size first n : ℕ) (hs : List (List HeapCall)) → RangesLegal size first hs → RangesLegal size (first + n * size) (drop n hs)
legal_drop size first n hs legal = λ t lt.
    let long = length-drop n hs in
    let within : n + t < length hs = omega (arith, lt, long) in
    let place : first + (n + t) * size ≡ first + n * size + t * size = omega arith in
    subst (λ (x : ℕ). Legal (region x size) (get_or (drop n hs) t [])) place
    (subst (λ (h : List HeapCall). Legal (region (first + (n + t) * size) size) h) (sym (get_or-drop n hs t [])) (legal (n + t) within))

-- the history of one range
pub legal_at : (size first t start : ℕ) (hs : List (List HeapCall)) (h : List HeapCall) → RangesLegal size first hs → t < length hs → start ≡ first + t * size → h ≡ get_or hs t [] → Legal (region start size) h
legal_at size first t start hs h legal lt e q =
    subst (λ (x : ℕ). Legal (region x size) h) (sym e) (subst (λ (x : List HeapCall). Legal (region (first + t * size) size) x) (sym q) (legal t lt))
