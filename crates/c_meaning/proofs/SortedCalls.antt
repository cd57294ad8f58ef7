-- Statements return, and calls give, what the function's type gives.
use Rattle.std.proofs.Common.{◌≡◌, ◌∙◌, ℕ, zero, suc, Bool, true, false, List, [], ◌∷◌, map, Option, Some, None, refl, sym, ap, pos}
use Rattle.std.specs.Prelude.{◌&&◌, ◌++◌, slice_get, if◌then◌else◌, bytes_eq, nat_lt, length, is_some, codes}
use Rattle.std.specs.Prelude.{◌^◌}
use Rattle.std.proofs.Math.Path.{subst}
use Rattle.std.proofs.lemmas.Bool.Decides.{Decides-eqb}
use Rattle.std.proofs.lemmas.Slice.Eq.{bytes_eq-Decides}
use Rattle.tok_base.specs.declared.token.Span.{Span}
use Rattle.num_ops.specs.declared.kinds.IntKind.TheVariants as kinds
use Rattle.c_core.specs.declared.values.Pointer.TheVariants.{Null, Object, Function}
use Rattle.c_core.specs.declared.values.Value.{Value}
use Rattle.c_core.specs.declared.values.Value.TheVariants as value
use Rattle.c_core.specs.declared.values.Scalar.{Scalar}
use Rattle.c_core.specs.declared.values.Scalar.TheVariants as scalar
use Rattle.tok_base.specs.declared.reason.Reason.TheVariants as reason
use Rattle.c_core.specs.declared.values.End.TheVariants.{Trap}
use Rattle.c_core.specs.Tree as t
use Rattle.c_core.specs.Tree.{Expr, MaybeExpr, NoExpr, TheExpr, Stmt, Else, NoElse, Otherwise, Stmts, no_stmts, one_stmt, Program}
use Rattle.c_core.specs.Values.{kind_of}
use Rattle.c_core.specs.Library.{Callee, callee_of, callee_type}
use Rattle.c_core.specs.Signatures.{signature}
use Rattle.c_core.specs.Sorts.{is_integer, result_sort}
use Rattle.c_core.specs.WellFormed.{sort_of, names, good_step, good_return, good_objects, good_stmt, good_else, good_stmts, numbers, has_type, good_library_type, good_body, good_function, good_functions, good_fixed, is_main, has_main, well_formed}
use Rattle.c_meaning.specs.declared.log.Flow.{Flow}
use Rattle.c_meaning.specs.declared.log.Flow.TheVariants.{Next, Broke, Continued, Returned}
use Rattle.c_meaning.specs.World.{M, act, change, tick, give, stop, within, make_locals, end_locals, take_room, give_room}
use Rattle.c_meaning.specs.Rules.{int, no_value}
use Rattle.c_meaning.specs.Meaning.{Calls, mean_expr, mean_each, mean_step, if_next, after_turn, turns, loop, zero_first, begun, mean_else, mean_list, mean_stmt, parameters, make_parameters, returned, run_body, is_number, run_callee, run_function, typed_call, call_value, call_at, call_main, type_of, nowhere}
use Rattle.c_meaning.specs.Sorted.{Has, GoesOnWith, SortsHold, MainGivesInt}
use Rattle.c_meaning.proofs.Sorted.{IsOf, and_true, steady, gives_kind}
use Rattle.c_meaning.proofs.SortedLibrary.{library_sorted}
use Rattle.c_meaning.proofs.SortedExprs.{called_sort, CallsHold, if_goes, ticked_holds, expr_holds}

-- what a function that gives this may return
abbrev ReturnOf : Option Scalar → Option Value → Type 0
ReturnOf (Some kind) (Some v) = kind_of v ≡ kind
ReturnOf (Some kind) None = ⊥
ReturnOf None v = Unit {0}

abbrev FlowOf : Option Scalar → Flow → Type 0
FlowOf result (Returned v) = ReturnOf result v
FlowOf result Next = Unit {0}
FlowOf result Broke = Unit {0}
FlowOf result Continued = Unit {0}

next_holds : (result : Option Scalar) (flow : Flow) (m : M Flow) → FlowOf result flow → GoesOnWith (FlowOf result) m → GoesOnWith (FlowOf result) (if_next flow m)
next_holds result Next m i h = h
next_holds result Broke m i h = λ f g k s. k Broke tt s
next_holds result Continued m i h = λ f g k s. k Continued tt s
next_holds result (Returned v) m i h = λ f g k s. k (Returned v) i s

turn_holds : (result : Option Scalar) (flow : Flow) (m : M Flow) → FlowOf result flow → GoesOnWith (FlowOf result) m → GoesOnWith (FlowOf result) (after_turn flow m)
turn_holds result Next m i h = h
turn_holds result Continued m i h = h
turn_holds result Broke m i h = λ f g k s. k Next tt s
turn_holds result (Returned v) m i h = λ f g k s. k (Returned v) i s

module _ (result : Option Scalar) (test : M Value) (step : M (Unit {0})) (body : M Flow) (h : GoesOnWith (FlowOf result) body) where
  turns_hold : (n : ℕ) → GoesOnWith (FlowOf result) (turns n test step body)
  turns_hold zero f g k s = refl
  turns_hold (suc n) f g k s =
      steady tick _ _ (λ x s. h _ _ (λ flow i s. turn_holds result flow _ i (λ f g k s.
      steady step _ _ (λ y s. steady test _ _ (λ v s. if_goes (FlowOf result) v (turns n test step body) (give Next) (turns_hold n) (λ f g k s. k Next tt s) f g k s) s) s) f g k s) s) s

  loop_holds : (first : Bool) (n : ℕ) → GoesOnWith (FlowOf result) (loop first test (turns n test step body))
  loop_holds true n f g k s = steady test _ _ (λ v s. if_goes (FlowOf result) v (turns n test step body) (give Next) (turns_hold n) (λ f g k s. k Next tt s) f g k s) s
  loop_holds false n f g k s = turns_hold n f g k s

module _ (c : Program) (marks : ℕ → ℕ) (call : Calls) (calls : CallsHold call) (n : ℕ) (result : Option Scalar) where
  return_holds : (locals : List ℕ) (e : MaybeExpr) → good_return c locals result e ≡ true → GoesOnWith (FlowOf result) (begun c marks call n (t.Return e))
  return_holds locals NoExpr ok =
      elim result as (λ r. good_return c locals r NoExpr ≡ true → GoesOnWith (FlowOf r) (begun c marks call n (t.Return NoExpr)))
      [ None ↦ λ ok f g k s. k (Returned None) tt s | Some kind ↦ λ ok. absurd (let no : false ≡ true = ok in cc) ] ok
  return_holds locals (TheExpr e) ok =
      elim result as (λ r. good_return c locals r (TheExpr e) ≡ true → GoesOnWith (FlowOf r) (begun c marks call n (t.Return (TheExpr e)))) [
        | None ↦ λ ok. absurd (let no : false ≡ true = ok in cc)
        | Some kind ↦ λ ok f g k s. expr_holds c marks call calls locals e _ _ (λ v i s. k (Returned (Some v)) (gives_kind kind (sort_of c locals e) v ok i) s) s
      ] ok

  mutual
    begun_holds : (x : Stmt) (locals : List ℕ) (in_loop : Bool) → good_stmt c result locals in_loop x ≡ true → GoesOnWith (FlowOf result) (begun c marks call n x)
    begun_holds (t.Block objects xs) locals in_loop ok f g k s =
        steady (make_locals objects) _ _ (λ y s.
        list_holds xs (names objects ++ locals) in_loop (and_true (good_objects locals objects) _ ok).1 _ _ (λ flow i s.
        steady (act (change (end_locals objects))) _ _ (λ z s. k flow i s) s) s) s
    begun_holds (t.Do e) locals in_loop ok f g k s = steady (mean_expr c marks call e) _ _ (λ v s. k Next tt s) s
    begun_holds (t.Init x zeros items) locals in_loop ok f g k s =
        steady (act (zero_first zeros x)) _ _ (λ y s. steady (mean_each c marks call items) _ _ (λ z s. k Next tt s) s) s
    begun_holds (t.If e a b) locals in_loop ok f g k s =
        let outer : ((is_integer (sort_of c locals e) && good_stmt c result locals in_loop a) ≡ true) × (good_else c result locals in_loop b ≡ true) = and_true _ _ ok in
        let inner : (is_integer (sort_of c locals e) ≡ true) × (good_stmt c result locals in_loop a ≡ true) = and_true _ _ outer.0 in
        steady (mean_expr c marks call e) _ _ (λ v s. if_goes (FlowOf result) v _ _
        (ticked_holds (FlowOf result) (begun c marks call n a) (begun_holds a locals in_loop inner.1))
        (else_holds b locals in_loop outer.1) f g k s) s
    begun_holds (t.Loop first e step a) locals in_loop ok f g k s =
        let parts : ((is_integer (sort_of c locals e) && good_step c locals step) ≡ true) × (good_stmt c result locals true a ≡ true) = and_true _ _ ok in
        loop_holds result (mean_expr c marks call e) (mean_step c marks call step) _ (ticked_holds (FlowOf result) (begun c marks call n a) (begun_holds a locals true parts.1)) first n f g k s
    begun_holds t.Break locals in_loop ok f g k s = k Broke tt s
    begun_holds t.Continue locals in_loop ok f g k s = k Continued tt s
    begun_holds (t.Return e) locals in_loop ok f g k s = return_holds locals e ok f g k s

    else_holds : (x : Else) (locals : List ℕ) (in_loop : Bool) → good_else c result locals in_loop x ≡ true → GoesOnWith (FlowOf result) (mean_else c marks call n x)
    else_holds NoElse locals in_loop ok f g k s = k Next tt s
    else_holds (Otherwise x) locals in_loop ok f g k s = ticked_holds (FlowOf result) (begun c marks call n x) (begun_holds x locals in_loop ok) f g k s

    list_holds : (xs : Stmts) (locals : List ℕ) (in_loop : Bool) → good_stmts c result locals in_loop xs ≡ true → GoesOnWith (FlowOf result) (mean_list c marks call n xs)
    list_holds no_stmts locals in_loop ok f g k s = k Next tt s
    list_holds (one_stmt x xs) locals in_loop ok f g k s =
        let both : (good_stmt c result locals in_loop x ≡ true) × (good_stmts c result locals in_loop xs ≡ true) = and_true _ _ ok in
        steady tick _ _ (λ y s. begun_holds x locals in_loop both.0 _ _ (λ flow i s. next_holds result flow _ i (list_holds xs locals in_loop both.1) f g k s) s) s

-- ---- calls

within_holds : {A : Type 0} (Such : A → Type 0) (m : M A) → GoesOnWith Such m → GoesOnWith Such (within m)
within_holds Such m h f g k s = h _ _ (λ a i t. k a i (record t { world = record (t.world) { locals = s.world.locals } })) (record s { world = record (s.world) { locals = [] } })

-- a value that has what is returned has what the call gives
returned_value : (used : Bool) (result : Option Scalar) (v : Value) → ReturnOf result (Some v) → Has (called_sort used result) v
returned_value true (Some kind) v h = h
returned_value true None v h = tt
returned_value false result v h = tt

returned_none : (used : Bool) (result : Option Scalar) → ReturnOf result None → Has (called_sort used result) no_value
returned_none true (Some kind) h = absurd h
returned_none true None h = tt
returned_none false result h = tt

main_value : (used : Bool) (result : Option Scalar) → result ≡ Some (scalar.Int kinds.Int) → Has (called_sort used result) (int kinds.Int (pos 0))
main_value true result h = subst (λ r. Has (called_sort true r) (int kinds.Int (pos 0))) (sym h) refl
main_value false result h = tt

-- the closing brace was reached
brace_holds : (main used : Bool) (span : Span) (result : Option Scalar) → (main ≡ true → result ≡ Some (scalar.Int kinds.Int))
    → GoesOnWith (Has (called_sort used result)) (returned main used span Next)
brace_holds true used span result h f g k s = k (int kinds.Int (pos 0)) (main_value used result (h refl)) s
brace_holds false true span result h f g k s = refl
brace_holds false false span result h f g k s = k no_value tt s

returned_holds : (main used : Bool) (span : Span) (result : Option Scalar) (flow : Flow) → (main ≡ true → result ≡ Some (scalar.Int kinds.Int)) → FlowOf result flow
    → GoesOnWith (Has (called_sort used result)) (returned main used span flow)
returned_holds main used span result (Returned (Some v)) h i f g k s = k v (returned_value used result v i) s
returned_holds main used span result (Returned None) h i f g k s = k no_value (returned_none used result i) s
returned_holds main used span result Next h i f g k s = brace_holds main used span result h f g k s
returned_holds main used span result Broke h i f g k s = brace_holds main used span result h f g k s
returned_holds main used span result Continued h i f g k s = brace_holds main used span result h f g k s

body_holds : (body : M Flow) (main : Bool) (objects : List (ℕ × ℕ)) (args : List Value) (used : Bool) (span : Span) (result : Option Scalar)
    → (main ≡ true → result ≡ Some (scalar.Int kinds.Int)) → GoesOnWith (FlowOf result) body
    → GoesOnWith (Has (called_sort used result)) (run_body body main objects args used span)
body_holds body main objects args used span result h b =
    within_holds (Has (called_sort used result)) _ (λ f g k s.
    steady (act (take_room 64)) _ _ (λ x s.
    steady (make_parameters span objects args) _ _ (λ y s.
    b _ _ (λ flow i s.
    steady (act (change (λ w. give_room 64 (end_locals objects w)))) _ _ (λ z s. returned_holds main used span result flow h i f g k s) s) s) s) s)

-- what a library function gives is what the call gives
as_called : (used : Bool) (result : Option Scalar) (v : Value) → Has (result_sort result) v → Has (called_sort used result) v
as_called true (Some kind) v h = h
as_called true None v h = tt
as_called false result v h = tt

typed_callee_holds : (used : Bool) (span : Span) (args : List Value) (type : List ℕ) (callee : Callee) (wanted : Option (List ℕ)) → callee_type callee ≡ wanted → has_type type wanted ≡ true
    → map kind_of args ≡ (signature type).takes → GoesOnWith (Has (called_sort used (signature type).gives)) (run_callee (Some callee) args span)
typed_callee_holds used span args type callee None e ok h = absurd (let no : false ≡ true = ok in cc)
typed_callee_holds used span args type callee (Some wanted) e ok h =
    let same : type ≡ wanted = (bytes_eq-Decides type wanted).0 ok in
    subst (λ x. map kind_of args ≡ (signature x).takes → GoesOnWith (Has (called_sort used (signature x).gives)) (run_callee (Some callee) args span)) (sym same)
    (λ a f g k s. library_sorted callee.1 callee.0 wanted e span args a f g (λ v i s. k v (as_called used (signature wanted).gives v i) s) s) h

callee_holds : (used : Bool) (span : Span) (args : List Value) (type : List ℕ) (callee : Option Callee) → good_library_type type callee ≡ true
    → map kind_of args ≡ (signature type).takes → GoesOnWith (Has (called_sort used (signature type).gives)) (run_callee callee args span)
callee_holds used span args type None ok h f g k s = refl
callee_holds used span args type (Some callee) ok h f g k s = typed_callee_holds used span args type callee (callee_type callee) refl ok h f g k s

module _ (c : Program) (marks : ℕ → ℕ) (call : Calls) (calls : CallsHold call) (n : ℕ) where
  function_holds : (x : t.Function) (main used : Bool) (span : Span) (args : List Value) (body : Option Stmt) → good_body c x body ≡ true
      → (main ≡ true → (signature x.ty).gives ≡ Some (scalar.Int kinds.Int))
      → map kind_of args ≡ (signature x.ty).takes
      → GoesOnWith (Has (called_sort used (signature x.ty).gives)) (run_function (mean_stmt c marks call n) main x body args used span)
  function_holds x main used span args None ok h a = callee_holds used span args x.ty (callee_of x.name) ok a
  function_holds x main used span args (Some body) ok h a =
      body_holds (mean_stmt c marks call n body) main (parameters 0 x.params) args used span (signature x.ty).gives h
      (ticked_holds (FlowOf (signature x.ty).gives) (begun c marks call n body) (begun_holds c marks call calls n (signature x.ty).gives body (numbers 0 x.params) false ok))

  through_type : (x : t.Function) (main used : Bool) (span : Span) (args : List Value) (type : List ℕ) (same : Bool) → bytes_eq x.ty type ≡ same
      → good_function c x ≡ true → (main ≡ true → (signature x.ty).gives ≡ Some (scalar.Int kinds.Int))
      → map kind_of args ≡ (signature type).takes
      → GoesOnWith (Has (called_sort used (signature type).gives)) (let r : M Value = if same then run_function (mean_stmt c marks call n) main x x.body args used span else stop (Trap reason.BadCall span) in r)
  through_type x main used span args type true e ok h a =
      let one : x.ty ≡ type = (bytes_eq-Decides x.ty type).0 e in
      subst (λ y. map kind_of args ≡ (signature y).takes → GoesOnWith (Has (called_sort used (signature y).gives)) (run_function (mean_stmt c marks call n) main x x.body args used span)) one
      (function_holds x main used span args x.body (and_true _ (good_body c x x.body) ok).1 h) a
  through_type x main used span args type false e ok h a = λ f g k s. refl

  typed_holds : (x : Option t.Function) (main used : Bool) (span : Span) (args : List Value) (type : List ℕ)
      → ((y : t.Function) → x ≡ Some y → (good_function c y ≡ true) × (main ≡ true → (signature y.ty).gives ≡ Some (scalar.Int kinds.Int)))
      → map kind_of args ≡ (signature type).takes
      → GoesOnWith (Has (called_sort used (signature type).gives)) (typed_call (mean_stmt c marks call n) main x type args used span)
  typed_holds None main used span args type h a f g k s = refl
  typed_holds (Some x) main used span args type h a f g k s =
      through_type x main used span args type (bytes_eq x.ty type) refl (h x refl).0 (h x refl).1 a f g k s

-- ---- programs

found : (c : Program) (funcs : List t.Function) (i : ℕ) (x : t.Function) → good_functions c funcs ≡ true → slice_get funcs i ≡ Some x → good_function c x ≡ true
found c [] i x ok e = absurd (let no : None ≡ Some x = e in cc)
found c (y ∷ funcs) zero x ok e =
    let same : y ≡ x = (let some : Some y ≡ Some x = e in cc) in
    subst (λ z. good_function c z ≡ true) same (and_true (good_function c y) (good_functions c funcs) ok).0
found c (y ∷ funcs) (suc i) x ok e = found c funcs i x (and_true (good_function c y) (good_functions c funcs) ok).1 e

main_gives : (x : Option t.Function) (y : t.Function) → is_main x ≡ true → x ≡ Some y → (signature y.ty).gives ≡ Some (scalar.Int kinds.Int)
main_gives None y ok e = absurd (let no : None ≡ Some y = e in cc)
main_gives (Some x) y ok e =
    let same : x ≡ y = cc in
    let type : x.ty ≡ codes "int (void)" = (bytes_eq-Decides x.ty (codes "int (void)")).0 (and_true (is_some x.body) _ ok).1 in
    ap (λ z. (signature z).gives) (ap (λ z. z.ty) (sym same) ∙ type)

main_found : (c : Program) (main : Option ℕ) (i : ℕ) (y : t.Function) → has_main c main ≡ true → is_number main i ≡ true → slice_get c.funcs i ≡ Some y → (signature y.ty).gives ≡ Some (scalar.Int kinds.Int)
main_found c None i y ok e h = absurd (let no : false ≡ true = ok in cc)
main_found c (Some m) i y ok e h =
    let same : m ≡ i = (Decides-eqb m i).0 e in
    main_gives (slice_get c.funcs m) y ok (ap (λ j. slice_get c.funcs j) same ∙ h)

module _ (c : Program) (ok : well_formed c ≡ true) (marks : ℕ → ℕ) where
  functions_ok : good_functions c c.funcs ≡ true
  functions_ok = (and_true _ (good_functions c c.funcs) (and_true _ (good_fixed c c.fixed) ok).0).1

  main_ok : has_main c c.main ≡ true
  main_ok = (and_true (has_main c c.main) (nat_lt (length c.fixed) (2 ^ 31)) (and_true _ (good_functions c c.funcs) (and_true _ (good_fixed c c.fixed) ok).0).0).0

  value_holds : (call : Calls) → CallsHold call → (n : ℕ) (v : Value) (type : List ℕ) (args : List Value) (used : Bool) (span : Span) → map kind_of args ≡ (signature type).takes
      → GoesOnWith (Has (called_sort used (signature type).gives)) (call_value c (mean_stmt c marks call n) v type args used span)
  value_holds call calls n (value.Ptr (Function i)) type args used span a =
      typed_holds c marks call calls n (slice_get c.funcs i) (is_number c.main i) used span args type
      (λ y e. (found c c.funcs i y functions_ok e, λ main. main_found c c.main i y main_ok main e)) a
  value_holds call calls n (value.Ptr Null) type args used span a = λ f g k s. refl
  value_holds call calls n (value.Ptr (Object i o)) type args used span a = λ f g k s. refl
  value_holds call calls n (value.Int z) type args used span a = λ f g k s. refl

  calls_hold : (depth : ℕ) → CallsHold (call_at c marks depth)
  calls_hold zero v type args used span a = λ f g k s. refl
  calls_hold (suc n) v type args used span a =
      ticked_holds (Has (called_sort used (signature type).gives)) _ (value_holds (call_at c marks n) (calls_hold n) n v type args used span a)

pub sorts_hold : SortsHold
sorts_hold c ok marks depth locals e = expr_holds c marks (call_at c marks depth) (calls_hold c ok marks depth) locals e

main_through : (c : Program) (call : Calls) → CallsHold call → (i : ℕ) (x : Option t.Function) → slice_get c.funcs i ≡ x → is_main x ≡ true
    → GoesOnWith (IsOf (scalar.Int kinds.Int)) (call (value.Ptr (Function i)) (type_of x) [] true nowhere)
main_through c call calls i None e ok = absurd (let no : false ≡ true = ok in cc)
main_through c call calls i (Some x) e ok =
    let type : x.ty ≡ codes "int (void)" = (bytes_eq-Decides x.ty (codes "int (void)")).0 (and_true (is_some x.body) _ ok).1 in
    subst (λ y. GoesOnWith (IsOf (scalar.Int kinds.Int)) (call (value.Ptr (Function i)) y [] true nowhere)) (sym type)
    (calls (value.Ptr (Function i)) (codes "int (void)") [] true nowhere refl)

main_called : (c : Program) (call : Calls) → CallsHold call → (main : Option ℕ) → has_main c main ≡ true → GoesOnWith (IsOf (scalar.Int kinds.Int)) (call_main c call main)
main_called c call calls None ok f g k s = refl
main_called c call calls (Some i) ok f g k s = main_through c call calls i (slice_get c.funcs i) refl ok f g k s

pub main_gives_int : MainGivesInt
main_gives_int c ok marks depth = main_called c (call_at c marks depth) (calls_hold c ok marks depth) c.main (main_ok c ok marks)
