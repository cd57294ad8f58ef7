-- The values of operators on pointers are integers.
use Rattle.std.proofs.Common.{◌≡◌, ℕ, ℤ, pos, Bool, true, false, List, Result, Ok, Err, sym, subst}
use Rattle.std.specs.Prelude.{if◌then◌else◌, IfOk, OnErr, slice_get, ◌==◌, ◌-ℤ◌, int_div, int_rem}
use Rattle.num_ops.specs.Conversions.{is_zero}
use Rattle.num_ops.specs.declared.kinds.IntKind.TheVariants as k
use Rattle.num_ops.specs.declared.shifts.Cmp.{Cmp}
use Rattle.num_ops.specs.declared.shifts.Cmp.TheVariants.{Lt, Le, Gt, Ge, Eq, Ne}
use Rattle.tok_base.specs.declared.reason.Reason.{Reason}
use Rattle.tok_base.specs.declared.reason.Reason.TheVariants as reason
use Rattle.c_core.specs.declared.values.Pointer.{Pointer}
use Rattle.c_core.specs.declared.values.Pointer.TheVariants.{Null, Object, Function as AtFunction}
use Rattle.c_core.specs.declared.values.Value.{Value}
use Rattle.c_core.specs.declared.values.Pointer.TheVariants as pointer
use Rattle.c_core.specs.declared.values.Value.TheVariants as value
use Rattle.c_core.specs.Tree.{Function}
use Rattle.c_core.specs.Blocks.{Blocks}
use Rattle.c_meaning.specs.Rules.{int, truth, truth_value, flipped, is_true, if_ok, is_dangling, pointer_in, ptr_diff, ptr_diff_of, elements, compare_ptr, ptr_compared, ordered}
use Rattle.c_meaning.specs.Meaning.{function_address, has_meaning}
use Rattle.block_memory.specs.Given.{IsGivenValue}

abbrev Holds : List ℕ → Result Value Reason → Type 0
Holds sizes r = IfOk r (λ v. IsGivenValue sizes v)

by : (sizes : List ℕ) (r s : Result Value Reason) → r ≡ s → Holds sizes s → Holds sizes r
by sizes r s e h = subst (λ (x : Result Value Reason). Holds sizes x) (sym e) h

truth_holds : (sizes : List ℕ) (negated : Bool) (r : Result Bool Reason) → Holds sizes (if_ok r (λ b. Ok (truth_value (flipped negated b))))
truth_holds sizes negated (Ok b) = tt
truth_holds sizes negated (Err e) = tt

pub truth_given : (sizes : List ℕ) (bs : Blocks) (v : Value) (negated : Bool) (r : Result Value Reason) → r ≡ truth bs v negated → IfOk r (λ v. IsGivenValue sizes v)
truth_given sizes bs v negated r e = by sizes r _ e (truth_holds sizes negated (is_true bs v))

if_holds : (sizes : List ℕ) (b : Bool) (e : Reason) (r : Result Value Reason) → Holds sizes r → Holds sizes (if b then Err e else r)
if_holds sizes true e r h = tt
if_holds sizes false e r h = h

or_holds : (sizes : List ℕ) (b : Bool) (e : Reason) (r : Result Value Reason) → Holds sizes r → Holds sizes (if b then r else Err e)
or_holds sizes true e r h = h
or_holds sizes false e r h = tt

elements_given : (sizes : List ℕ) (bytes : ℤ) (size : ℕ) → Holds sizes (elements bytes size)
elements_given sizes bytes size = or_holds sizes (is_zero (int_rem bytes (pos size))) reason.PointerDiff (Ok (int k.Long (int_div bytes (pos size)))) tt

elements_hold : (sizes : List ℕ) (p q : Pointer) (size : ℕ) → Holds sizes (ptr_diff_of p q size)
elements_hold sizes (Object n i) (Object m j) size = or_holds sizes (n == m) reason.PointerDiff (elements (pos i -ℤ pos j) size) (elements_given sizes (pos i -ℤ pos j) size)
elements_hold sizes (Object n i) Null size = tt
elements_hold sizes (Object n i) (AtFunction f) size = tt
elements_hold sizes Null q size = tt
elements_hold sizes (AtFunction f) q size = tt

pub difference_given : (sizes : List ℕ) (bs : Blocks) (p q : Value) (size : ℕ) (r : Result Value Reason) → r ≡ ptr_diff bs p q size → IfOk r (λ v. IsGivenValue sizes v)
difference_given sizes bs p q size r e =
    by sizes r _ e (if_holds sizes (is_dangling bs (pointer_in p)) reason.Dead _ (if_holds sizes (is_dangling bs (pointer_in q)) reason.Dead _ (elements_hold sizes (pointer_in p) (pointer_in q) size)))

ordered_hold : (sizes : List ℕ) (op : Cmp) (p q : Pointer) → Holds sizes (ordered op p q)
ordered_hold sizes op (Object n i) (Object m j) = or_holds sizes (n == m) reason.PointerOrder _ tt
ordered_hold sizes op (Object n i) Null = tt
ordered_hold sizes op (Object n i) (AtFunction f) = tt
ordered_hold sizes op Null q = tt
ordered_hold sizes op (AtFunction f) q = tt

compared_hold : (sizes : List ℕ) (op : Cmp) (p q : Pointer) → Holds sizes (ptr_compared op p q)
compared_hold sizes Lt p q = ordered_hold sizes Lt p q
compared_hold sizes Le p q = ordered_hold sizes Le p q
compared_hold sizes Gt p q = ordered_hold sizes Gt p q
compared_hold sizes Ge p q = ordered_hold sizes Ge p q
compared_hold sizes Eq p q = tt
compared_hold sizes Ne p q = tt

pub comparison_given : (sizes : List ℕ) (op : Cmp) (bs : Blocks) (p q : Value) (r : Result Value Reason) → r ≡ compare_ptr op bs p q → IfOk r (λ v. IsGivenValue sizes v)
comparison_given sizes op bs p q r e =
    by sizes r _ e (if_holds sizes (is_dangling bs (pointer_in p)) reason.Dead _ (if_holds sizes (is_dangling bs (pointer_in q)) reason.Dead _ (compared_hold sizes op (pointer_in p) (pointer_in q))))

-- what holds anyway holds after an error
pub any_err : {A E P : Type 0} → P → (r : Result A E) → OnErr r P
any_err p (Ok a) = tt
any_err p (Err e) = p

pub same_given : (sizes : List ℕ) (v w : Value) → v ≡ w → IsGivenValue sizes w → IsGivenValue sizes v
same_given sizes v w e h = subst (λ (x : Value). IsGivenValue sizes x) (sym e) h

pub function_given : (sizes : List ℕ) (funcs : List Function) (f : ℕ) (r : Result Value Reason) → r ≡ function_address funcs f → IfOk r (λ v. IsGivenValue sizes v)
function_given sizes funcs f r e = by sizes r _ e (or_holds sizes (has_meaning (slice_get funcs f)) reason.NoBody (Ok (value.Ptr (pointer.Function f))) tt)

-- what follows from what holds of a value
pub ok_then : {A E : Type 0} {P Q : A → Type 0} (r : Result A E) → IfOk r P → ((a : A) → P a → Q a) → IfOk r Q
ok_then (Ok a) h f = f a h
ok_then (Err e) h f = tt
