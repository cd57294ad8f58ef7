-- The flags after one event more.
use Rattle.std.proofs.Common.{zero, suc, ◌≡◌, ◌≢◌, ⊎_elim, ℕ, ◌+◌, ◌<◌, ◌≤◌, Bool, true, false, ◌||◌, eqb, List, [], ◌∷◌, ◌++◌, length, get_or, set, refl, sym, ap, ◌∙◌, subst, arith}
use Rattle.std.proofs.lemmas.Bool.{cases_lt, cases_eq}
use Rattle.std.proofs.lemmas.Bool.Decides.{eqb_tells}
use Rattle.std.proofs.lemmas.List.{append-nil, append_assoc, length-append, length-set, get_or_append_left, get_or_at, get_or-set_same, get_or-set_other}
use Rattle.trace_format.specs.Reading.{allocations, freed}
use Rattle.trace_format.specs.Noted.{Noted, flags_after}
use Rattle.trace_format.specs.WellFormed.{Fits, AllFit}
use Rattle.trace_format.specs.declared.trace.Event.{Event}
use Rattle.trace_format.specs.declared.trace.Event.TheVariants.{Alloc, Free}

pub alloc_more : (es : List Event) (w n t s : ℕ) → allocations (es ++ Alloc w n t s ∷ []) ≡ allocations es + 1
alloc_more [] w n t s = refl
alloc_more (Alloc a b c d ∷ es) w n t s = let e = alloc_more es w n t s in omega (arith, e)
alloc_more (Free a b ∷ es) w n t s = alloc_more es w n t s

pub alloc_same : (es : List Event) (w n : ℕ) → allocations (es ++ Free w n ∷ []) ≡ allocations es
alloc_same [] w n = refl
alloc_same (Alloc a b c d ∷ es) w n = ap (λ (k : ℕ). 1 + k) (alloc_same es w n)
alloc_same (Free a b ∷ es) w n = alloc_same es w n

pub freed_same : (m : ℕ) (es : List Event) (w n t s : ℕ) → freed m (es ++ Alloc w n t s ∷ []) ≡ freed m es
freed_same m [] w n t s = refl
freed_same m (Alloc a b c d ∷ es) w n t s = freed_same m es w n t s
freed_same m (Free a b ∷ es) w n t s = ap (λ (x : Bool). eqb b m || x) (freed_same m es w n t s)

pub freed_now : (m : ℕ) (es : List Event) (w n : ℕ) → eqb n m ≡ true → freed m (es ++ Free w n ∷ []) ≡ true
freed_now m [] w n e = ap (λ (x : Bool). x || false) e
freed_now m (Alloc a b c d ∷ es) w n e = freed_now m es w n e
freed_now m (Free a b ∷ es) w n e = ap (λ (x : Bool). eqb b m || x) (freed_now m es w n e) ∙ or_true (eqb b m)
  where
    or_true : (x : Bool) → x || true ≡ true
    or_true true = refl
    or_true false = refl

pub freed_else : (m : ℕ) (es : List Event) (w n : ℕ) → eqb n m ≡ false → freed m (es ++ Free w n ∷ []) ≡ freed m es
freed_else m [] w n e = ap (λ (x : Bool). x || false) e
freed_else m (Alloc a b c d ∷ es) w n e = freed_else m es w n e
freed_else m (Free a b ∷ es) w n e = ap (λ (x : Bool). eqb b m || x) (freed_else m es w n e)

pub noted_none : Noted [] []
noted_none = record { count = refl; unborn = λ n le. refl; flags_are = λ n lt. absurd (omega (arith, lt)) }

pub noted_alloc : (flags : List Bool) (es : List Event) (w n t s : ℕ) → Noted flags es → Noted (flags ++ false ∷ []) (es ++ Alloc w n t s ∷ [])
noted_alloc flags es w n t s h =
    let long = length-append flags (false ∷ []) in
    record {
      count = (let a = alloc_more es w n t s in let c = h.count in omega (arith, long, a, c));
      unborn = λ m le. freed_same m es w n t s ∙ h.unborn m (omega (arith, long, le));
      flags_are = λ m lt. ⊎_elim
          (λ (x : m < length flags). get_or_append_left flags (false ∷ []) false m x ∙ h.flags_are m x ∙ sym (freed_same m es w n t s))
          (λ (x : length flags ≤ m). get_or_at flags false [] false m (omega (arith, x, long, lt)) ∙ sym (freed_same m es w n t s ∙ h.unborn m x))
          (cases_lt m (length flags));
    }

pub noted_free : (flags : List Bool) (es : List Event) (w n : ℕ) → Noted flags es → n < length flags → Noted (set flags n true) (es ++ Free w n ∷ [])
noted_free flags es w n h within =
    let long = length-set flags n true in
    record {
      count = (let a = alloc_same es w n in let c = h.count in omega (arith, long, a, c));
      unborn = λ m le. ⊎_elim
          (λ (x : (eqb n m ≡ true) × (n ≡ m)). absurd (omega (arith, x.1, le, long, within)))
          (λ (x : (eqb n m ≡ false) × (n ≢ m)). freed_else m es w n x.0 ∙ h.unborn m (omega (arith, le, long)))
          (eqb_tells n m);
      flags_are = λ m lt. ⊎_elim
          (λ (x : (eqb n m ≡ true) × (n ≡ m)). ap (λ (k : ℕ). get_or (set flags n true) k false) (sym x.1) ∙ get_or-set_same flags n true false within ∙ sym (freed_now m es w n x.0))
          (λ (x : (eqb n m ≡ false) × (n ≢ m)). get_or-set_other flags n m true false (λ e. x.1 (sym e)) ∙ h.flags_are m (omega (arith, long, lt)) ∙ sym (freed_else m es w n x.0))
          (eqb_tells n m);
    }

pub noted_more : (count workers : ℕ) (flags : List Bool) (es : List Event) (e : Event) → Noted flags es → Fits count workers es e → Noted (flags_after flags e) (es ++ e ∷ [])
noted_more count workers flags es (Alloc w n t s) h f = noted_alloc flags es w n t s h
noted_more count workers flags es (Free w n) h f = let c = h.count in noted_free flags es w n h (omega (arith, c, f.1))

pub all_fit_more : (count workers : ℕ) (before es : List Event) (e : Event) → AllFit count workers before es → Fits count workers (before ++ es) e → AllFit count workers before (es ++ e ∷ [])
all_fit_more count workers before [] e a f = (subst (λ (b : List Event). Fits count workers b e) (append-nil before) f, tt)
all_fit_more count workers before (x ∷ xs) e a f = (a.0, all_fit_more count workers (before ++ x ∷ []) xs e a.1 (subst (λ (b : List Event). Fits count workers b e) (sym (append_assoc before (x ∷ []) xs)) f))
