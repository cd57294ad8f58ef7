-- Each expression gives values of its sort, where calls do.
use Rattle.std.proofs.Common.{◌≡◌, ℕ, Bool, true, false, List, [], ◌∷◌, ◌++◌, map, Option, Some, None, Result, refl, sym, ap, pos}
use Rattle.std.specs.Prelude.{slice_get, if◌then◌else◌}
use Rattle.std.proofs.Math.Path.{subst}
use Rattle.std.proofs.lemmas.List.{append_assoc, append-nil}
use Rattle.tok_base.specs.declared.token.Span.{Span}
use Rattle.num_ops.specs.Kinds.{holds as has_value}
use Rattle.num_ops.specs.declared.kinds.IntKind.TheVariants as k
use Rattle.c_core.specs.declared.values.Pointer.{Pointer}
use Rattle.c_core.specs.declared.values.Pointer.TheVariants.{Null, Object, Function}
use Rattle.c_core.specs.declared.values.Value.{Value}
use Rattle.c_core.specs.declared.values.Value.TheVariants as value
use Rattle.c_core.specs.declared.values.Scalar.{Scalar}
use Rattle.c_core.specs.declared.values.Scalar.TheVariants as scalar
use Rattle.tok_base.specs.declared.reason.Reason.{Reason}
use Rattle.tok_base.specs.declared.reason.Reason.TheVariants as reason
use Rattle.c_core.specs.declared.tree.Place.{Place}
use Rattle.c_core.specs.declared.tree.Place.TheVariants as place
use Rattle.c_core.specs.declared.tree.LibMark.{LibMark}
use Rattle.c_core.specs.declared.tree.FixedObject.{FixedObject}
use Rattle.c_core.specs.Tree as t
use Rattle.c_core.specs.Tree.{Expr, At, Form, Exprs, no_exprs, one_expr, Program}
use Rattle.c_core.specs.Values.{kind_of}
use Rattle.c_core.specs.Blocks.{load, store}
use Rattle.c_core.specs.Library.{library_functions, marked_types}
use Rattle.c_core.specs.Signatures.{signature}
use Rattle.c_core.specs.Sorts.{Sort, Gives, Void, given, an, int as int_sort, agree, result_sort, used_sort, either_of}
use Rattle.c_core.specs.WellFormed.{constant_sort, sort_of, sort_of_form, sorts_of, library_call_sort}
use Rattle.c_meaning.specs.Run.{Begins}
use Rattle.c_meaning.specs.World.{World, M, ◌>>◌, act, judged, tick, local_block}
use Rattle.c_meaning.specs.Rules.{holds, int, truth_value, no_value, pointer_in, number_in, convert, compare_int, arith as arith_value, shift, truth, ptr_add, ptr_diff, compare_ptr, modified, as_kind}
use Rattle.c_meaning.specs.Storage.{load_at, store_at, copy_record, address, local_address, is_defined, with_reason}
use Rattle.c_meaning.specs.Meaning.{Calls, if_holds, mean_expr, mean_form, mean_args, library_call, function_address, has_meaning}
use Rattle.c_meaning.specs.Sorted.{Has, GoesOnWith}
use Rattle.c_meaning.proofs.Sorted.{IsOf, OkIs, HasAll, ok_if, load_sort, as_kind_sort, number_sort, truth_sort, ptr_add_sort, ptr_diff_sort, compare_ptr_sort, has_given, as_left, of_left, of_right, if_value, agreed, steady, any_value, when, acted_holds, judged_is, blocks_is}
use Rattle.c_meaning.proofs.SortedLibrary.{library_sorted}

-- what a call of a type gives
abbrev pub called_sort : (used : Bool) → Option Scalar → Sort
called_sort used gives = if used then used_sort gives else Void

abbrev pub CallsHold : Calls → Type 0
CallsHold call =
    (v : Value) (type : List ℕ) (args : List Value) (used : Bool) (span : Span) → map kind_of args ≡ (signature type).takes
    → GoesOnWith (Has (called_sort used (signature type).gives)) (call v type args used span)

pub if_goes : {A : Type 0} (Such : A → Type 0) (v : Value) (m n : M A) → GoesOnWith Such m → GoesOnWith Such n → GoesOnWith Such (if_holds v m n)
if_goes {A} Such v m n h k =
    elim (holds v) as (λ x. GoesOnWith Such (let r : M A = if x then m else n in r)) [ true ↦ h | false ↦ k ]

pub ticked_holds : {A : Type 0} (Such : A → Type 0) (m : M A) → GoesOnWith Such m → GoesOnWith Such (do tick; m)
ticked_holds Such m h f g k s = steady tick _ _ (λ x s. h f g k s) s

judged_goes : (kind : Scalar) (span : Span) (r : World → Result Value Reason) → ((w : World) → OkIs (IsOf kind) (r w)) → GoesOnWith (IsOf kind) (act (λ w. judged span (r w) w))
judged_goes kind span r h f g k s = acted_holds (IsOf kind) (judged span (r s.world) s.world) f g k (judged_is (IsOf kind) span (r s.world) s.world (h s.world)) s

load_goes : (span : Span) (p : Pointer) (kind : Scalar) → GoesOnWith (IsOf kind) (act (load_at span p kind))
load_goes span p kind = judged_goes kind span (λ w. with_reason (load w.blocks p kind)) (λ w. load_sort w.blocks p kind)

store_goes : (span : Span) (p : Pointer) (kind : Scalar) (v : Value) → GoesOnWith (IsOf kind) (act (store_at span p kind v))
store_goes span p kind v f g h s =
    acted_holds (IsOf kind) (store_at span p kind v s.world) f g h (blocks_is (IsOf kind) (as_kind kind v) s.world span (with_reason (store s.world.blocks p kind (as_kind kind v))) (as_kind_sort kind v)) s

local_sort : (block : Option ℕ) → OkIs (IsOf scalar.Ptr) (local_address block)
local_sort None = tt
local_sort (Some n) = refl

address_sort : (fixed : List FixedObject) (p : Place) (w : World) → OkIs (IsOf scalar.Ptr) (address fixed p w)
address_sort fixed (place.Fixed n) w = ok_if (IsOf scalar.Ptr) (is_defined (slice_get fixed n)) (value.Ptr (Object n 0)) reason.NoBody refl
address_sort fixed (place.Local x) w = local_sort (local_block w x)

constant_holds : (v : Value) → Has (constant_sort v) v
constant_holds (value.Int n) = has_given (has_value n.kind n.value) (an n.kind) (value.Int n) refl
constant_holds (value.Ptr Null) = refl
constant_holds (value.Ptr (Object n i)) = tt
constant_holds (value.Ptr (Function n)) = tt

-- a meaning that gives values of a kind, where the sort has one
sorted : (b : Bool) (kind : Scalar) (m : M Value) → GoesOnWith (IsOf kind) m → GoesOnWith (Has (given b (Gives kind))) m
sorted b kind m h f g k s = h f g (λ a i s. k a (has_given b (Gives kind) a i) s) s

-- a direct call of a library function, behind arguments of these sorts
library_goes : (span : Span) (n : ℕ) (m : LibMark) (sorts : List Sort) (behind : (List Value → M Value) → M Value)
    → ((sort : Sort) (k : List Value → M Value) → ((args : List Value) → HasAll sorts args → GoesOnWith (Has sort) (k args)) → GoesOnWith (Has sort) (behind k))
    → (type : Option (List ℕ)) → slice_get (marked_types m) n ≡ type
    → GoesOnWith (Has (library_call_sort type sorts)) (behind (λ args. do tick; library_call (slice_get library_functions n) span m args))
library_goes span n m sorts behind hold None e = any_value _
library_goes span n m sorts behind hold (Some type) e =
    when (agree (signature type).takes sorts) (result_sort (signature type).gives) _ (λ ok.
    hold (result_sort (signature type).gives) (λ args. do tick; library_call (slice_get library_functions n) span m args) (λ args all.
    ticked_holds (Has (result_sort (signature type).gives)) _ (library_sorted m n type e span args (agreed (signature type).takes sorts args ok all))))

module _ (c : Program) (marks : ℕ → ℕ) (call : Calls) (calls : CallsHold call) (locals : List ℕ) where
  mutual
    pub expr_holds : (e : Expr) → GoesOnWith (Has (sort_of c locals e)) (mean_expr c marks call e)
    expr_holds (At span form) f g h s = ap Begins (form_holds span form f g h s)

    pub form_holds : (span : Span) (form : Form) → GoesOnWith (Has (sort_of_form c locals form)) (mean_form c marks call span form)
    form_holds span (t.Const v) f g h s = h v (constant_holds v) s
    form_holds span (t.Text n) f g h s =
        sorted _ scalar.Ptr _ (judged_goes scalar.Ptr span (λ w. address c.fixed (place.Fixed n) w) (λ w. address_sort c.fixed (place.Fixed n) w)) f g h s
    form_holds span (t.Func n) f g h s =
        sorted _ scalar.Ptr _ (judged_goes scalar.Ptr span (λ w. function_address c.funcs n) (λ w. ok_if (IsOf scalar.Ptr) (has_meaning (slice_get c.funcs n)) (value.Ptr (Function n)) reason.NoBody refl)) f g h s
    form_holds span (t.Object p) f g h s =
        sorted _ scalar.Ptr _ (judged_goes scalar.Ptr span (λ w. address c.fixed p w) (λ w. address_sort c.fixed p w)) f g h s
    form_holds span (t.Load p kind) f g h s =
        expr_holds p _ _ (λ a i s. sorted _ kind _ (load_goes span (pointer_in a) kind) f g h s) s
    form_holds span (t.Store p at kind e) f g h s =
        expr_holds p _ _ (λ a i s. expr_holds e _ _ (λ v j s. sorted _ kind _ (store_goes at (pointer_in a) kind v) f g h s) s) s
    form_holds span (t.CopyRecord p to_at q from_at size) f g h s =
        expr_holds p _ _ (λ a i s. expr_holds q _ _ (λ b j s. steady (act (copy_record span (pointer_in a) to_at (pointer_in b) from_at size)) _ _ (λ x s. h no_value (has_given _ Void no_value tt) s) s) s) s
    form_holds span (t.Convert kind e) f g h s = expr_holds e _ _ (λ v i s. h (convert kind v) (has_given _ (an kind) _ refl) s) s
    form_holds span (t.Truth e negated) f g h s =
        expr_holds e _ _ (λ v i s. sorted _ (scalar.Int k.Int) _ (judged_goes (scalar.Int k.Int) span (λ w. truth w.blocks v negated) (λ w. truth_sort w.blocks v negated)) f g h s) s
    form_holds span (t.Arith op a b) f g h s =
        expr_holds a _ _ (λ x i s. expr_holds b _ _ (λ y j s.
        judged_goes (scalar.Int (number_in x).kind) span (λ w. arith_value op x y) (λ w. number_sort (number_in x).kind _) f g (λ v e s. h v (as_left _ _ x v i e) s) s) s) s
    form_holds span (t.ShiftBits left a b) f g h s =
        expr_holds a _ _ (λ x i s. expr_holds b _ _ (λ y j s.
        judged_goes (scalar.Int (number_in x).kind) span (λ w. shift left x y) (λ w. number_sort (number_in x).kind _) f g (λ v e s. h v (as_left _ _ x v i e) s) s) s) s
    form_holds span (t.CompareInt op a b) f g h s =
        expr_holds a _ _ (λ x i s. expr_holds b _ _ (λ y j s. h (compare_int op x y) (has_given _ int_sort _ refl) s) s) s
    form_holds span (t.PtrAdd p q size minus) f g h s =
        expr_holds p _ _ (λ x i s. expr_holds q _ _ (λ y j s.
        sorted _ scalar.Ptr _ (judged_goes scalar.Ptr span (λ w. ptr_add w.blocks x y size minus) (λ w. ptr_add_sort w.blocks x y size minus)) f g h s) s) s
    form_holds span (t.PtrDiff p q size) f g h s =
        expr_holds p _ _ (λ x i s. expr_holds q _ _ (λ y j s.
        sorted _ (scalar.Int k.Long) _ (judged_goes (scalar.Int k.Long) span (λ w. ptr_diff w.blocks x y size) (λ w. ptr_diff_sort w.blocks x y size)) f g h s) s) s
    form_holds span (t.ComparePtr op p q) f g h s =
        expr_holds p _ _ (λ x i s. expr_holds q _ _ (λ y j s.
        sorted _ (scalar.Int k.Int) _ (judged_goes (scalar.Int k.Int) span (λ w. compare_ptr op w.blocks x y) (λ w. compare_ptr_sort op w.blocks x y)) f g h s) s) s
    form_holds span (t.Both a b) f g h s =
        expr_holds a _ _ (λ x i s. sorted _ (scalar.Int k.Int) _ (if_goes (IsOf (scalar.Int k.Int)) x _ _ (λ f g h s. expr_holds b _ _ (λ y j s. h (truth_value (holds y)) refl s) s) (λ f g h s. h (truth_value false) refl s)) f g h s) s
    form_holds span (t.Either a b) f g h s =
        expr_holds a _ _ (λ x i s. sorted _ (scalar.Int k.Int) _ (if_goes (IsOf (scalar.Int k.Int)) x _ _ (λ f g h s. h (truth_value true) refl s) (λ f g h s. expr_holds b _ _ (λ y j s. h (truth_value (holds y)) refl s) s)) f g h s) s
    form_holds span (t.Choose a b d) f g h s =
        expr_holds a _ _ (λ x i s. if_goes (Has (sort_of_form c locals (t.Choose a b d))) x _ _
        (λ f g h s. expr_holds b _ _ (λ v j s. h v (has_given _ (either_of (sort_of c locals b) (sort_of c locals d)) v (of_left _ _ v j)) s) s)
        (λ f g h s. expr_holds d _ _ (λ v j s. h v (has_given _ (either_of (sort_of c locals b) (sort_of c locals d)) v (of_right _ _ v j)) s) s) f g h s) s
    form_holds span (t.Then a b) f g h s =
        expr_holds a _ _ (λ x i s. expr_holds b _ _ (λ v j s. h v (has_given _ (sort_of c locals b) v j) s) s) s
    form_holds span (t.Modify p at kind op e common post) f g h s =
        expr_holds p _ _ (λ a i s.
        expr_holds e _ _ (λ x j s.
        load_goes at (pointer_in a) kind _ _ (λ old l s.
        steady (act (λ w. judged span (modified op common w.blocks old x) w)) _ _ (λ new s.
        store_goes at (pointer_in a) kind new _ _ (λ stored z s. h (if post then old else stored) (has_given _ (Gives kind) _ (if_value kind post old stored l z)) s) s) s) s) s) s
    form_holds span (t.Call p type es used) f g h s =
        expr_holds p _ _ (λ callee i s.
        when (agree (signature type).takes (sorts_of c locals es)) (called_sort used (signature type).gives) _ (λ e.
        args_hold es (called_sort used (signature type).gives) (λ args. call callee type args used span) [] (λ args all. calls callee type args used span (agreed (signature type).takes (sorts_of c locals es) args e all)))
        f g (λ v j s. h v (has_given _ (given (agree (signature type).takes (sorts_of c locals es)) (called_sort used (signature type).gives)) v j) s) s) s
    form_holds span (t.LibCall n es m) f g h s =
        library_goes span n m (sorts_of c locals es) (λ k. mean_args c marks call es k []) (λ sort k h. args_hold es sort k [] h) (slice_get (marked_types m) n) refl f g h s
    form_holds span (t.Mark n) f g h s = h (int k.ULong (pos (marks n))) refl s

    pub args_hold : (es : Exprs) (sort : Sort) (m : List Value → M Value) (known : List Value)
        → ((more : List Value) → HasAll (sorts_of c locals es) more → GoesOnWith (Has sort) (m (known ++ more)))
        → GoesOnWith (Has sort) (mean_args c marks call es m known)
    args_hold no_exprs sort m known h f g k s = subst (λ args. GoesOnWith (Has sort) (m args)) (append-nil known) (h [] tt) f g k s
    args_hold (one_expr e es) sort m known h f g k s =
        expr_holds e _ _ (λ v i s. args_hold es sort m (known ++ v ∷ []) (λ more all. subst (λ args. GoesOnWith (Has sort) (m args)) (sym (append_assoc known (v ∷ []) more)) (h (v ∷ more) (i, all))) f g k s) s
