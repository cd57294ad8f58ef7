-- What keeps a table sound.
use Rattle.std.proofs.Common.{◌≡◌, ◌⊎◌, inl, inr, ℕ, zero, suc, ◌<◌, List, [], ◌∷◌, ◌++◌, length, Option, Some, None, Result, Ok, Err, slice_get, slice_set, refl, ◌∙◌, ap, arith, subst, true, OnOk, OnErr, IfOk, length-append}
use Rattle.std.specs.Prelude.{option_and_then}
use Rattle.c_types.specs.CTypes as c
use Rattle.c_types.specs.CTypes.{CType}
use Rattle.std.specs.Prelude.{is_some}
use Rattle.c_types.specs.Layout.{layout_at}
use Rattle.c_types.specs.Records.{finished_by}
use Rattle.c_types.specs.Table.{Table, type_at, term_type, Grows}
use Rattle.c_types.specs.Facts.{Extends, IsFact}
use Rattle.c_types.specs.declared.facts.Facts.{Facts}
use Rattle.c_types.specs.declared.records.Layout.{Layout}
use Rattle.c_types.specs.declared.terms.Term.{Term}
use Rattle.c_types.specs.declared.terms.TypeId.{TypeId}
use Rattle.c_types.specs.declared.terms.TypeEnd.{TypeEnd}
use Rattle.c_types.specs.Table.{AreOrdered, PartsBelow, number_of}
use Rattle.c_types.specs.Records.{is_open, is_open_slot}
use Rattle.c_types.proofs.Growing.{grows_more, at_more, grows_self, ordered_more}
use Rattle.c_types.proofs.Knowing.{fact_on}

pub get_more : {A : Type 0} (xs : List A) (x y : A) (i : ℕ) → slice_get (xs ++ x ∷ []) i ≡ Some y → ((i < length xs) × (slice_get xs i ≡ Some y)) ⊎ ((i ≡ length xs) × (x ≡ y))
get_more [] x y zero e = inr (refl, cc)
get_more [] x y (suc i) e = cc
get_more (z ∷ xs) x y zero e = inl (omega arith, e)
get_more (z ∷ xs) x y (suc i) e = elim (get_more xs x y i e) [ inl p ↦ inl (omega (arith, p.0), p.1) | inr p ↦ inr (ap suc p.0, p.1) ]

pub last_is : {A : Type 0} (xs : List A) (x : A) → slice_get (xs ++ x ∷ []) (length xs) ≡ Some x
last_is [] x = refl
last_is (y ∷ ys) x = last_is ys x

-- the facts of the types by number
abbrev pub AreFacts : List (Option Layout) → List Term → List Facts → Type 0
AreFacts bodies terms facts = (i : ℕ) (f : Facts) → slice_get facts i ≡ Some f → IsFact bodies (type_at terms i) f

pub facts_more : (bodies : List (Option Layout)) (terms : List Term) (facts : List Facts) (t : Term) (g : Facts) → length facts ≡ length terms → AreFacts bodies terms facts → IsFact bodies (term_type terms t) g → AreFacts bodies (terms ++ t ∷ []) (facts ++ g ∷ [])
facts_more bodies terms facts t g len all h i f e = elim (get_more facts g f i e) [
  | inl p ↦ let below : i < length terms = omega (arith, p.0, len) in rw ((grows_more terms t).same i below) (all i f p.1)
  | inr p ↦ let at : i ≡ length terms = p.0 ∙ len in rw (at, at_more terms t) (subst (λ (x : Facts). IsFact bodies (term_type terms t) x) p.1 h)
]

pub facts_on : (a b : List (Option Layout)) (terms : List Term) (facts : List Facts) → Extends a b → AreFacts a terms facts → AreFacts b terms facts
facts_on a b terms facts x all i f e = fact_on a b (type_at terms i) f x (all i f e)

get_front : {A : Type 0} (xs ys : List A) (y : A) (i : ℕ) → slice_get xs i ≡ Some y → slice_get (xs ++ ys) i ≡ Some y
get_front [] ys y i e = cc
get_front (x ∷ xs) ys y zero e = e
get_front (x ∷ xs) ys y (suc i) e = get_front xs ys y i e

get_some : (a b : Option (Option Layout)) (l : Layout) → ((y : Option Layout) → a ≡ Some y → b ≡ Some y) → option_and_then (λ (o : Option Layout). o) a ≡ Some l → option_and_then (λ (o : Option Layout). o) b ≡ Some l
get_some (Some y) b l h e = rw (h y refl) e
get_some None b l h e = cc

pub extends_more : (bodies : List (Option Layout)) (b : Option Layout) → Extends bodies (bodies ++ b ∷ [])
extends_more bodies b = record { keeps = λ k l e. get_some (slice_get bodies k) (slice_get (bodies ++ b ∷ []) k) l (λ y g. get_front bodies (b ∷ []) y k g) e }

-- a record that was unfinished is finished
set_apart : (bodies : List (Option Layout)) (n k : ℕ) (b : Option Layout) (l : Layout) → slice_get bodies n ≡ Some None → layout_at bodies k ≡ Some l → layout_at (slice_set bodies n b) k ≡ Some l
set_apart [] n k b l u e = cc
set_apart (x ∷ xs) zero zero b l u e = let f : x ≡ None = cc in let g = rw f at e in cc
set_apart (x ∷ xs) zero (suc k) b l u e = e
set_apart (x ∷ xs) (suc n) zero b l u e = e
set_apart (x ∷ xs) (suc n) (suc k) b l u e = set_apart xs n k b l u e

pub extends_set : (bodies : List (Option Layout)) (n : ℕ) (b : Option Layout) → slice_get bodies n ≡ Some None → Extends bodies (slice_set bodies n b)
extends_set bodies n b u = record { keeps = λ k l e. set_apart bodies n k b l u e }

-- what a push says of the table's numbers
pub grows_by : (old new : Table) (t : Term) (r : Result TypeId TypeEnd) → OnOk r (new ≡ record old { terms = old.terms ++ t ∷ [] }) → OnErr r (new ≡ old) → Grows old.terms new.terms
grows_by old new t (Ok id) e f = let g : new.terms ≡ old.terms ++ t ∷ [] = ap (λ (x : Table). x.terms) e in rw g (grows_more old.terms t)
grows_by old new t (Err x) e f = let g : new.terms ≡ old.terms = ap (λ (x : Table). x.terms) f in rw g (grows_self old.terms)

pub is_by : (old new : Table) (t : Term) (r : Result TypeId TypeEnd) → IfOk r (λ id. id.0 ≡ length old.terms) → OnOk r (new ≡ record old { terms = old.terms ++ t ∷ [] }) → IfOk r (λ id. type_at new.terms id.0 ≡ term_type old.terms t)
is_by old new t (Ok id) n e = let g : new.terms ≡ old.terms ++ t ∷ [] = ap (λ (x : Table). x.terms) e in rw (g, n) (at_more old.terms t)
is_by old new t (Err x) n e = tt

-- a type more, with its facts, over the same bodies
pub sound_more : (bodies : List (Option Layout)) (terms terms' : List Term) (facts facts' : List Facts) (t : Term) (g : Facts) → AreOrdered terms → length facts ≡ length terms → AreFacts bodies terms facts
    → PartsBelow (length terms) t → IsFact bodies (term_type terms t) g → terms' ≡ terms ++ t ∷ [] → facts' ≡ facts ++ g ∷ []
    → AreOrdered terms' × (length facts' ≡ length terms') × AreFacts bodies terms' facts'
sound_more bodies terms terms' facts facts' t g o len all p h e f =
    rw (e, f) (ordered_more terms t o p, omega (arith, length-append terms (t ∷ []), length-append facts (g ∷ []), len), facts_more bodies terms facts t g len all h)

pub length_one : {A B : Type 0} (xs xs' : List A) (ys ys' : List B) (x : A) (y : B) → length ys ≡ length xs → xs' ≡ xs ++ x ∷ [] → ys' ≡ ys ++ y ∷ [] → length ys' ≡ length xs'
length_one xs xs' ys ys' x y len e f = rw (e, f) (omega (arith, length-append xs (x ∷ []), length-append ys (y ∷ []), len))

-- the number of a type that was put at the end
pub type_last : (old new : List Term) (t : Term) (i : ℕ) → new ≡ old ++ t ∷ [] → i ≡ length old → type_at new i ≡ term_type old t
type_last old new t i e n = rw (e, n) (at_more old t)

pub get_last : {A : Type 0} (xs xs' : List A) (x : A) (i : ℕ) → xs' ≡ xs ++ x ∷ [] → i ≡ length xs → slice_get xs' i ≡ Some x
get_last xs xs' x i e n = rw (e, n) (last_is xs x)

pub length_set : {A : Type 0} (xs : List A) (i : ℕ) (y : A) → length (slice_set xs i y) ≡ length xs
length_set [] i y = refl
length_set (x ∷ xs) zero y = refl
length_set (x ∷ xs) (suc i) y = ap suc (length_set xs i y)

open_slot : (o : Option (Option Layout)) → is_open_slot o ≡ true → o ≡ Some None
open_slot None e = cc
open_slot (Some None) e = refl
open_slot (Some (Some b)) e = cc

-- an unfinished record has a slot without a body
pub open_is : (bodies : List (Option Layout)) (t : CType) → is_open bodies t ≡ true → slice_get bodies (number_of t) ≡ Some None
open_is bodies (c.Record k) e = open_slot (slice_get bodies k) e
open_is bodies c.Void e = cc
open_is bodies (c.Int kind) e = cc
open_is bodies (c.Enum n) e = cc
open_is bodies (c.Pointer t) e = cc
open_is bodies (c.Array t n) e = cc
open_is bodies (c.Flexible t) e = cc
open_is bodies (c.Function t ps) e = cc
open_is bodies (c.Named n t) e = cc
open_is bodies (c.Qualified q t) e = cc

pub within : {A : Type 0} (xs : List A) (i : ℕ) (x : A) → slice_get xs i ≡ Some x → i < length xs
within [] i x e = cc
within (y ∷ ys) zero x e = omega arith
within (y ∷ ys) (suc i) x e = let h = within ys i x e in omega arith

-- a finished record has its place among the members
finished_at : (ls : List (Option Layout)) (k : ℕ) → is_some (layout_at ls k) ≡ true → k < length ls
finished_at [] k e = cc
finished_at (x ∷ ls) zero e = omega arith
finished_at (x ∷ ls) (suc k) e = let h = finished_at ls k e in omega arith

pub finished_within : (ls : List (Option Layout)) (r : Option ℕ) (k n : ℕ) → finished_by ls r ≡ true → r ≡ Some k → n ≡ length ls → k < n
finished_within ls r k n e s l = let f : is_some (layout_at ls k) ≡ true = rw s at e in rw l (finished_at ls k f)

pub finished_some : (ls : List (Option Layout)) (r : Option ℕ) → finished_by ls r ≡ true → r ≡ None → ⊥
finished_some ls r e n = let f : finished_by ls None ≡ true = rw n at e in cc
