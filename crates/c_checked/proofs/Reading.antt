-- What is read of a node, an object or a function.
use Rattle.std.proofs.Common.{◌≡◌, ℕ, ◌<◌, List, length, map, slice_get, Option, Some, None, IfSome, option_map, option_and_then, Bor, refl, sym, ap, ◌∙◌, subst}
use Rattle.std.specs.Prelude.{All}
use Rattle.std.specs.Option.{option_copied}
use Rattle.std.proofs.lemmas.Option.{slice_get-map, slice_get_within, get_or_from_slice_get}
use Rattle.std.proofs.lemmas.List.{length-map}
use Rattle.std.proofs.lemmas.List.Elements.{All-get_or}
use Rattle.c_types.specs.declared.terms.Term.{Term}
use Rattle.c_types.specs.declared.terms.TypeId.{TypeId}
use Rattle.c_rules.specs.Known as rules
use Rattle.c_rules.specs.declared.known.Binding.{Binding}
use Rattle.c_rules.specs.declared.known.ConstantValue.{ConstantValue}
use Rattle.c_world.specs.Inner.{Inner, IsBelow, AllBelow}
use Rattle.c_world.specs.Seen.{seen, noted, object_of, function_of}
use Rattle.c_world.specs.Findings.{Keeps}
use Rattle.c_world.specs.declared.state.findings.Findings.{Findings}
use Rattle.c_world.specs.declared.state.ObjectEntry.{ObjectEntry}
use Rattle.c_world.specs.declared.state.FunctionEntry.{FunctionEntry}
use Rattle.c_checked.specs.Found.{Found, known_of, Holds}
use Rattle.c_checked.specs.Told.{at_node, type_of, target_of, binding_of, constant_of, object_at, function_at}

-- ---- what holds of all holds of the one that is read

pub one_holds : {A : Type 0} (P : A → Type 0) (xs : List A) (n : ℕ) (x : A) → All P xs → Some x ≡ slice_get xs n → P x
one_holds P xs n x all e = subst P (get_or_from_slice_get xs n x x (sym e)) (All-get_or P xs n x (slice_get_within xs n x (sym e)) all)

note_below : (m : ℕ) (t : Option TypeId) → IsBelow m t → IfSome t (λ i. i.0 < m)
note_below m None h = tt
note_below m (Some i) h = h

pub below : (m : ℕ) (xs : List (Option TypeId)) (n : ℕ) (t : Option TypeId) → AllBelow m xs → Some t ≡ slice_get xs n → IfSome t (λ i. i.0 < m)
below m xs n t all e = note_below m t (one_holds (IsBelow m) xs n t all e)

pub object_below : (m : ℕ) (xs : List ObjectEntry) (n : ℕ) (x : ObjectEntry) → All (λ o. o.ty.0 < m) xs → Some x ≡ slice_get xs n → x.ty.0 < m
object_below m xs n x all e = one_holds (λ o. o.ty.0 < m) xs n x all e

pub function_below : (m : ℕ) (xs : List FunctionEntry) (n : ℕ) (r : Option (Bor FunctionEntry)) → All (λ f. f.ty.0 < m) xs → option_copied r ≡ slice_get xs n
    → IfSome r (λ f. f.now.ty.0 < m)
function_below m xs n None all e = tt
function_below m xs n (Some f) all e = one_holds (λ g. g.ty.0 < m) xs n f.now all e

-- ---- what is read is what is known

noted_at : (ts : List Term) (xs : List (Option TypeId)) (n : ℕ) (r : Option (Option TypeId)) → r ≡ slice_get xs n
    → option_and_then (λ x. x) (option_map (noted ts) r) ≡ at_node (map (noted ts) xs) n
noted_at ts xs n r e = ap (option_and_then (λ x. x)) (ap (option_map (noted ts)) e ∙ sym (slice_get-map (noted ts) xs n))

module _ (f : Found) (n : ℕ) where
  pub type_read : (r : Option (Option TypeId)) → r ≡ slice_get f.types n → option_and_then (λ x. x) (option_map (noted f.table.terms) r) ≡ type_of (known_of f) n
  unfolding known_of
  type_read r e = noted_at f.table.terms f.types n r e

  pub target_read : (r : Option (Option TypeId)) → r ≡ slice_get f.targets n → option_and_then (λ x. x) (option_map (noted f.table.terms) r) ≡ target_of (known_of f) n
  unfolding known_of
  target_read r e = noted_at f.table.terms f.targets n r e

  pub binding_read : (r : Option (Option Binding)) → r ≡ slice_get f.bindings n → option_and_then (λ x. x) r ≡ binding_of (known_of f) n
  unfolding known_of
  binding_read r e = ap (option_and_then (λ x. x)) e

  pub constant_read : (r : Option (Option ConstantValue)) → r ≡ slice_get f.constants n → option_and_then (λ x. x) r ≡ constant_of (known_of f) n
  unfolding known_of
  constant_read r e = ap (option_and_then (λ x. x)) e

  pub object_read : (r : Option ObjectEntry) → r ≡ slice_get f.objects n → option_map (object_of f.table.terms) r ≡ object_at (known_of f) n
  unfolding known_of
  object_read r e = ap (option_map (object_of f.table.terms)) e ∙ sym (slice_get-map (object_of f.table.terms) f.objects n)

  pub function_read : (r : Option FunctionEntry) → r ≡ slice_get f.functions n → option_map (function_of f.table.terms) r ≡ function_at (known_of f) n
  unfolding known_of
  function_read r e = ap (option_map (function_of f.table.terms)) e ∙ sym (slice_get-map (function_of f.table.terms) f.functions n)

pub objects_counted : (f : Found) → length f.objects ≡ length (known_of f).objects
unfolding known_of
objects_counted f = sym (length-map f.objects (object_of f.table.terms))

pub functions_counted : (f : Found) → length f.functions ≡ length (known_of f).functions
unfolding known_of
functions_counted f = sym (length-map f.functions (function_of f.table.terms))

-- ---- what the check found

pub known_kept : (v : Inner) (w : Findings) (f : Found) → Keeps v w → Holds w f → known_of f ≡ rules.known (seen v)
unfolding known_of seen
known_kept v w f k h = rw (h, k.table, k.defined, k.objects, k.functions, k.types, k.targets, k.bindings, k.constants) refl
