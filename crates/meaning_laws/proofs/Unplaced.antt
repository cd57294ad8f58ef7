-- A program and the same without its places in the text are told to do the same, but for the places of traps.
use Rattle.std.proofs.Common.{◌≡◌, ℕ, zero, suc, Bool, true, false, List, [], ◌∷◌, ◌++◌, Option, Some, None, refl, sym, ap, pos}
use Rattle.std.specs.Prelude.{slice_get, slice_index_or, if◌then◌else◌, bytes_eq, length, ◌*◌}
use Rattle.tok_base.specs.declared.token.Span.{Span}
use Rattle.num_ops.specs.declared.kinds.IntKind.TheVariants as kind
use Rattle.c_core.specs.declared.values.Pointer.{Pointer}
use Rattle.c_core.specs.declared.values.Pointer.TheVariants.{Null, Object, Function}
use Rattle.c_core.specs.declared.values.Value.{Value}
use Rattle.c_core.specs.declared.values.Value.TheVariants as value
use Rattle.tok_base.specs.declared.reason.Reason.TheVariants as reason
use Rattle.c_core.specs.declared.values.End.TheVariants.{Trap}
use Rattle.c_core.specs.declared.tree.FixedObject.{FixedObject}
use Rattle.c_core.specs.declared.tree.Place.TheVariants as place
use Rattle.range_heap.specs.Blocks.{rounded}
use Rattle.c_core.specs.declared.tree.LibMark.{LibMark}
use Rattle.c_core.specs.Tree as t
use Rattle.c_core.specs.Tree.{Expr, At, Form, Exprs, no_exprs, one_expr, MaybeExpr, NoExpr, TheExpr, Stmt, Else, NoElse, Otherwise, Stmts, no_stmts, one_stmt, Program}
use Rattle.c_meaning.specs.declared.log.Flow.{Flow}
use Rattle.c_meaning.specs.declared.log.Flow.TheVariants.{Next, Broke, Continued, Returned}
use Rattle.c_meaning.specs.Run.{Run, Asks, Frees, Begins, Label}
use Rattle.c_meaning.specs.World.{World, State, M, Acted, Gives, Stops, ◌>>=◌, ◌>>◌, give, stop, paid, tick, act, acted, change, make_local, make_locals, end_locals, within, request, release, judged, after_answer, without_block, take_room, give_room, with_local, local_block, maker}
use Rattle.c_meaning.specs.Rules.{holds, natural_in, pointer_in, no_value, arith as arith_value, shift, truth, ptr_add, ptr_diff, compare_ptr, modified, int, convert, compare_int, truth_value}
use Rattle.c_meaning.specs.Storage.{with_fixed, address, get_char, put_byte, byte_in, allocated, zeroed, resized}
use Rattle.c_core.specs.Library.{LibraryFunction, Malloc, Calloc, Realloc, FreeIt, GetChar, PutChar, MemCpy, MemMove, MemSet, MemCmp, StrLen, ExitNow, AbortNow, library_functions, Callee, callee_of}
use Rattle.c_meaning.specs.Meaning.{allocate, block_or_null, if_granted, reallocate, free, library, library_call, Calls, if_holds, mean_expr, mean_form, mean_args, mean_each, mean_step, if_next, after_turn, turns, loop, begun, mean_else, mean_list, mean_stmt, make_parameters, store_argument, returned, run_body, run_callee, run_function, typed_call, call_value, call_at, make_fixed, call_main, label_of, function_address, zero_first, is_number, type_of, nowhere, exit, start}
use Rattle.std.proofs.Common.{map, option_map, Result, Ok, Err, ◌∙◌}
use Rattle.std.specs.Prelude.{is_some, ◌||◌}
use Rattle.tok_base.specs.declared.reason.Reason.{Reason}
use Rattle.c_core.specs.declared.values.End.{End}
use Rattle.c_core.specs.Blocks.{Blocks, Site, reached, moved, fill}
use Rattle.c_core.specs.Values.{same_pointer}
use Rattle.c_core.specs.declared.values.Fault.{Fault}
use Rattle.c_meaning.specs.Run.{Ended}
use Rattle.c_meaning.specs.Storage.{with_reason, with_blocks, to_target, from_source}
use Rattle.c_meaning.specs.Meaning.{allocate_zeroed, has_meaning, Tokens, token_of, run_of}
use Rattle.c_meaning.specs.Log.{ranges_of}
use Rattle.meaning_laws.specs.Told.{Told, EndedAs, AsksFor, GivesBack, told_with}
use Rattle.meaning_laws.specs.Spans.{without_place, unplaced, unplaced_form, unplaced_all, unplaced_maybe, unplaced_stmt, unplaced_else, unplaced_stmts, unplaced_function, unplaced_program, PlacesChangeNothing}
use Rattle.meaning_laws.proofs.ToldRuns.{seen_decides}
use Rattle.std.proofs.lemmas.Option.{slice_get-map}

module _ (tok : Tokens) where
  -- what is told of a run, without the place of a trap
  pub seen : Run → Told
  seen run = told_with without_place tok run

  pub seen_of : (r r' : Run) → seen r ≡ seen r' → told_with without_place tok r ≡ told_with without_place tok r'
  unfolding seen
  seen_of r r' h = h

  same_ends : (o : List ℕ) (e e' : End) → without_place e ≡ without_place e' → seen (Ended o e) ≡ seen (Ended o e')
  unfolding seen
  same_ends o e e' h = ap (EndedAs o) h

  same_begun : (r r' : Run) → seen r ≡ seen r' → seen (Begins r) ≡ seen (Begins r')
  unfolding seen
  same_begun r r' h = h

  same_asks : (label : Label) (size : ℕ) (go go' : Bool → Run) → ((granted : Bool) → seen (go granted) ≡ seen (go' granted)) → seen (Asks label size 16 go) ≡ seen (Asks label size 16 go')
  unfolding seen
  same_asks label size go go' h = λ i. AsksFor (token_of tok label) size 16 (λ granted. h granted i)

  same_frees : (j : ℕ) (r r' : Run) → seen r ≡ seen r' → seen (Frees j r) ≡ seen (Frees j r')
  unfolding seen
  same_frees j r r' h = ap (GivesBack j) h

  abbrev Follows : {A : Type 0} → (A → State → Run) → (A → State → Run) → Type 0
  Follows {A} f g = (a : A) (s : State) → seen (f a s) ≡ seen (g a s)

  abbrev SameM : {A : Type 0} → M A → M A → Type 0
  SameM {A} m n = (f g : A → State → Run) → Follows f g → (s : State) → seen (m f s) ≡ seen (n g s)

  paid_same : (n : ℕ) (s : State) (f g : State → Run) → ((s : State) → seen (f s) ≡ seen (g s)) → seen (paid n f s) ≡ seen (paid n g s)
  paid_same zero s f g h = refl
  paid_same (suc n) s f g h = h (record s { ticks = n })

  ticked : {A : Type 0} (m n : M A) → SameM m n → SameM (do tick; m) (do tick; n)
  ticked m n h f g k s = paid_same s.ticks s _ _ (λ s. h f g k s)

  give_same : {A : Type 0} (a : A) → SameM (give a) (give a)
  give_same a f g k s = k a s

  if_same : {A : Type 0} (v : Value) (m n p q : M A) → SameM m n → SameM p q → SameM (if_holds v m p) (if_holds v n q)
  if_same {A} v m n p q h k =
      elim (holds v) as (λ x. SameM (let r : M A = if x then m else p in r) (let r : M A = if x then n else q in r)) [ true ↦ h | false ↦ k ]

  -- two steps that are equal but for the place of a trap
  abbrev SameAct : {A : Type 0} → Acted A → Acted A → Type 0
  SameAct (Gives a w) (Gives b v) = (a ≡ b) × (w ≡ v)
  SameAct (Gives a w) (Stops e) = ⊥
  SameAct (Stops e) (Gives a w) = ⊥
  SameAct (Stops e) (Stops e') = without_place e ≡ without_place e'

  acted_same : {A : Type 0} (o o' : Acted A) → SameAct o o' → (f g : A → State → Run) → Follows f g → (s : State) → seen (acted o f s) ≡ seen (acted o' g s)
  acted_same (Gives a w) (Gives b v) i f g h s = h a (record s { world = w }) ∙ (λ j. seen (g (i.0 j) (record s { world = i.1 j })))
  acted_same (Gives a w) (Stops e) i f g h s = absurd i
  acted_same (Stops e) (Gives a w) i f g h s = absurd i
  acted_same (Stops e) (Stops e') i f g h s = same_ends s.world.output e e' i

  -- a step that names no place
  one_act : {A : Type 0} (o : Acted A) (f g : A → State → Run) → Follows f g → (s : State) → seen (acted o f s) ≡ seen (acted o g s)
  one_act (Gives a w) f g h s = h a (record s { world = w })
  one_act (Stops e) f g h s = refl

  judged_acts : {A : Type 0} (x y : Span) (r : Result A Reason) (w : World) → SameAct (judged x r w) (judged y r w)
  judged_acts x y (Ok a) w = (refl, refl)
  judged_acts x y (Err e) w = refl

  blocks_acts : {A : Type 0} (x y : Span) (a : A) (w : World) (r : Result Blocks Reason) → SameAct (with_blocks a w x r) (with_blocks a w y r)
  blocks_acts x y a w (Ok bs) = (refl, refl)
  blocks_acts x y a w (Err e) = refl

  judged_same : {A : Type 0} (x y : Span) (r : Result A Reason) (f g : A → State → Run) → Follows f g → (s : State) → seen (acted (judged x r s.world) f s) ≡ seen (acted (judged y r s.world) g s)
  judged_same x y r f g h s = acted_same (judged x r s.world) (judged y r s.world) (judged_acts x y r s.world) f g h s

  blocks_same : {A : Type 0} (x y : Span) (a : A) (r : Result Blocks Reason) (f g : A → State → Run) → Follows f g → (s : State) → seen (acted (with_blocks a s.world x r) f s) ≡ seen (acted (with_blocks a s.world y r) g s)
  blocks_same x y a r f g h s = acted_same (with_blocks a s.world x r) (with_blocks a s.world y r) (blocks_acts x y a s.world r) f g h s

  from_acts : (x y : Span) (w : World) (t : Site) (to from : Pointer) (x' y' : Span) (size : ℕ) (r : Result Site Fault) → SameAct (from_source x w t to from x' size r) (from_source y w t to from y' size r)
  from_acts x y w t to from x' y' size (Ok f) = blocks_acts x y tt w (with_reason (moved w.blocks t f size (same_pointer to from)))
  from_acts x y w t to from x' y' size (Err e) = refl

  to_acts : (x y : Span) (w : World) (to : Pointer) (x1 y1 : Span) (from : Pointer) (x2 y2 : Span) (size : ℕ) (r : Result Site Fault) → SameAct (to_target x w to x1 from x2 size r) (to_target y w to y1 from y2 size r)
  to_acts x y w to x1 y1 from x2 y2 size (Ok t) = from_acts x y w t to from x2 y2 size (reached w.blocks from size 1 false)
  to_acts x y w to x1 y1 from x2 y2 size (Err e) = refl

  argument_acts : (x y : Span) (block : Option ℕ) (v : Value) (w : World) → SameAct (store_argument x block v w) (store_argument y block v w)
  argument_acts x y None v w = refl
  argument_acts x y (Some n) v w = blocks_acts x y _ w _

  -- ---- requests

  request_same : (label : Label) (size : ℕ) → SameM (request label size) (request label size)
  request_same label size f g h s = same_asks label size _ _ (λ granted. h (if granted then Some (length s.world.blocks) else None) (record s { world = after_answer size granted s.world }))

  release_same : (n : ℕ) → SameM (release n) (release n)
  release_same n f g h s = same_frees (maker s.world n) _ _ (h tt (record s { world = record (without_block n s.world) { asked = suc s.world.asked } }))

  granted_same : (block : Option ℕ) (p q : ℕ → M (Unit {0})) → ((n : ℕ) → SameM (p n) (q n)) → SameM (if_granted block p) (if_granted block q)
  granted_same None p q h f g k s = k (value.Ptr Null) s
  granted_same (Some n) p q h f g k s = h n _ _ (λ x s. k (value.Ptr (Object n 0)) s) s

  allocate_same : (label : Label) (size : ℕ) → SameM (allocate label size) (allocate label size)
  allocate_same label size f g h s = request_same label size _ _ (λ block s. h (block_or_null block) s) s

  moved_same : (x y : Span) (old size n : ℕ) → SameM (do act (resized x n old size); release old) (do act (resized y n old size); release old)
  moved_same x y old size n f g h s = blocks_same x y tt _ _ _ (λ z s. release_same old f g h s) s

  realloc_on : (x y : Span) (label : Label) (p : Pointer) (size : ℕ) → SameM (do
    old ← act (λ w. judged x (allocated w.blocks p) w)
    block ← request label size
    if_granted block (λ n. do act (resized x n old size); release old)) (do
      old ← act (λ w. judged y (allocated w.blocks p) w)
      block ← request label size
      if_granted block (λ n. do act (resized y n old size); release old))
  realloc_on x y label p size f g h s =
      judged_same x y (allocated s.world.blocks p) _ _ (λ old s. request_same label size _ _ (λ block s. granted_same block _ _ (moved_same x y old size) f g h s) s) s

  realloc_same : (x y : Span) (label : Label) (p : Pointer) (size : ℕ) → SameM (reallocate x label p size) (reallocate y label p size)
  realloc_same x y label Null size f g h s = allocate_same label size f g h s
  realloc_same x y label (Object n i) size f g h s = realloc_on x y label (Object n i) size f g h s
  realloc_same x y label (Function n) size f g h s = realloc_on x y label (Function n) size f g h s

  free_on : (x y : Span) (o : Result ℕ Reason) (f g : Value → State → Run) → Follows f g → (s : State)
      → seen (acted (judged x o s.world) (λ n s. release n (λ z s. f no_value s) s) s) ≡ seen (acted (judged y o s.world) (λ n s. release n (λ z s. g no_value s) s) s)
  free_on x y o f g h s = judged_same x y o _ _ (λ n s. release_same n _ _ (λ z s. h no_value s) s) s

  free_same : (x y : Span) (p : Pointer) → SameM (free x p) (free y p)
  free_same x y Null f g h s = h no_value s
  free_same x y (Object n i) f g h s = free_on x y (allocated s.world.blocks (Object n i)) f g h s
  free_same x y (Function n) f g h s = free_on x y (allocated s.world.blocks (Function n)) f g h s

  calloc_same : (x y : Span) (label : Label) (size : ℕ) → SameM (allocate_zeroed x label size) (allocate_zeroed y label size)
  calloc_same x y label size f g h s =
      request_same label size _ _ (λ block s. granted_same block (λ n. act (zeroed x n size)) (λ n. act (zeroed y n size)) (λ n f g h s. blocks_same x y tt (with_reason (fill s.world.blocks (Object n 0) 0 size)) f g h s) f g h s) s

  library_same : (l : LibraryFunction) (x y : Span) (label : Label) (a b c : Value) → SameM (library l x label a b c) (library l y label a b c)
  library_same Malloc x y label a b c f g h s = allocate_same label (natural_in a) f g h s
  library_same Calloc x y label a b c f g h s = calloc_same x y label (natural_in a * natural_in b) f g h s
  library_same Realloc x y label a b c f g h s = realloc_same x y label (pointer_in a) (natural_in b) f g h s
  library_same FreeIt x y label a b c f g h s = free_same x y (pointer_in a) f g h s
  library_same GetChar x y label a b c f g h s = one_act (get_char s.world) f g h s
  library_same PutChar x y label a b c f g h s = one_act (put_byte (byte_in a) s.world) f g h s
  library_same MemCpy x y label a b c f g h s = blocks_same x y a _ f g h s
  library_same MemMove x y label a b c f g h s = blocks_same x y a _ f g h s
  library_same MemSet x y label a b c f g h s = blocks_same x y a _ f g h s
  library_same MemCmp x y label a b c f g h s = judged_same x y _ f g h s
  library_same StrLen x y label a b c f g h s = judged_same x y _ f g h s
  library_same ExitNow x y label a b c f g h s = refl
  library_same AbortNow x y label a b c f g h s = same_ends _ _ _ refl

  library_call_same : (l : Option LibraryFunction) (x y : Span) (m : LibMark) (args : List Value) → SameM (library_call l x m args) (library_call l y m args)
  library_call_same None x y m args f g h s = same_ends _ _ _ refl
  library_call_same (Some l) x y m args f g h s = library_same l x y (label_of m args) (slice_index_or args 0 no_value) (slice_index_or args 1 no_value) (slice_index_or args 2 no_value) f g h s

  abbrev SameCalls : Calls → Calls → Type 0
  SameCalls c d = (v : Value) (type : List ℕ) (args : List Value) (used : Bool) (x y : Span) → SameM (c v type args used x) (d v type args used y)

  -- ---- functions by their numbers

  body_there : (body : Option Stmt) → is_some (option_map unplaced_stmt body) ≡ is_some body
  body_there None = refl
  body_there (Some x) = refl

  meaning_again : (o : Option t.Function) → has_meaning (option_map unplaced_function o) ≡ has_meaning o
  meaning_again None = refl
  meaning_again (Some x) = ap (λ (b : Bool). b || is_some (callee_of x.name)) (body_there x.body)

  address_same : (funcs : List t.Function) (i : ℕ) → function_address funcs i ≡ function_address (map unplaced_function funcs) i
  address_same funcs i =
      let e = ap has_meaning (slice_get-map unplaced_function funcs i) ∙ meaning_again (slice_get funcs i) in
      ap (λ (b : Bool). (let r : Result Value Reason = if b then Ok (value.Ptr (Function i)) else Err reason.NoBody in r)) (sym e)

  module _ (p : Program) (marks : ℕ → ℕ) where
    abbrev q : Program
    q = unplaced_program p

    -- ---- expressions

    module _ (c d : Calls) (calls : SameCalls c d) where
      mutual
        expr_same : (e : Expr) → SameM (mean_expr p marks c e) (mean_expr q marks d (unplaced e))
        expr_same (At span form) f g h s = same_begun _ _ (form_same form span nowhere f g h s)

        form_same : (form : Form) (x y : Span) → SameM (mean_form p marks c x form) (mean_form q marks d y (unplaced_form form))
        form_same (t.Const v) x y f g h s = h v s
        form_same (t.Text n) x y f g h s = judged_same x y (address p.fixed (place.Fixed n) s.world) f g h s
        form_same (t.Func n) x y f g h s = judged_same x y (function_address p.funcs n) f g h s ∙ ap (λ r. seen (acted (judged y r s.world) g s)) (address_same p.funcs n)
        form_same (t.Object o) x y f g h s = judged_same x y (address p.fixed o s.world) f g h s
        form_same (t.Load e kind) x y f g h s = expr_same e _ _ (λ a s. judged_same x y _ f g h s) s
        form_same (t.Store e at kind v) x y f g h s = expr_same e _ _ (λ a s. expr_same v _ _ (λ v s. blocks_same at nowhere _ _ f g h s) s) s
        form_same (t.CopyRecord e to_at i from_at size) x y f g h s =
            expr_same e _ _ (λ to s. expr_same i _ _ (λ from s. acted_same _ _ (to_acts x y s.world (pointer_in to) to_at nowhere (pointer_in from) from_at nowhere size (reached s.world.blocks (pointer_in to) size 1 true)) _ _ (λ z s. h no_value s) s) s) s
        form_same (t.Convert kind e) x y f g h s = expr_same e _ _ (λ v s. h (convert kind v) s) s
        form_same (t.Truth e negated) x y f g h s = expr_same e _ _ (λ v s. judged_same x y (truth s.world.blocks v negated) f g h s) s
        form_same (t.Arith op a b) x y f g h s = expr_same a _ _ (λ v s. expr_same b _ _ (λ u s. judged_same x y (arith_value op v u) f g h s) s) s
        form_same (t.ShiftBits left a b) x y f g h s = expr_same a _ _ (λ v s. expr_same b _ _ (λ u s. judged_same x y (shift left v u) f g h s) s) s
        form_same (t.CompareInt op a b) x y f g h s = expr_same a _ _ (λ v s. expr_same b _ _ (λ u s. h (compare_int op v u) s) s) s
        form_same (t.PtrAdd a b size minus) x y f g h s = expr_same a _ _ (λ v s. expr_same b _ _ (λ u s. judged_same x y (ptr_add s.world.blocks v u size minus) f g h s) s) s
        form_same (t.PtrDiff a b size) x y f g h s = expr_same a _ _ (λ v s. expr_same b _ _ (λ u s. judged_same x y (ptr_diff s.world.blocks v u size) f g h s) s) s
        form_same (t.ComparePtr op a b) x y f g h s = expr_same a _ _ (λ v s. expr_same b _ _ (λ u s. judged_same x y (compare_ptr op s.world.blocks v u) f g h s) s) s
        form_same (t.Both a b) x y f g h s =
            expr_same a _ _ (λ v s. if_same v _ _ _ _ (λ f g h s. expr_same b _ _ (λ u s. h (truth_value (holds u)) s) s) (give_same (truth_value false)) f g h s) s
        form_same (t.Either a b) x y f g h s =
            expr_same a _ _ (λ v s. if_same v _ _ _ _ (give_same (truth_value true)) (λ f g h s. expr_same b _ _ (λ u s. h (truth_value (holds u)) s) s) f g h s) s
        form_same (t.Choose a b e) x y f g h s = expr_same a _ _ (λ v s. if_same v _ _ _ _ (expr_same b) (expr_same e) f g h s) s
        form_same (t.Then a b) x y f g h s = expr_same a _ _ (λ v s. expr_same b f g h s) s
        form_same (t.Modify a at kind op b common post) x y f g h s =
            expr_same a _ _ (λ u s.
            expr_same b _ _ (λ v s.
            judged_same at nowhere _ _ _ (λ old s.
            judged_same x y (modified op common s.world.blocks old v) _ _ (λ new s.
            blocks_same at nowhere _ _ _ _ (λ stored s. h (if post then old else stored) s) s) s) s) s) s
        form_same (t.Call a type es used) x y f g h s =
            expr_same a _ _ (λ callee s. args_same es (λ args. c callee type args used x) (λ args. d callee type args used y) [] (λ args. calls callee type args used x y) f g h s) s
        form_same (t.LibCall n es m) x y f g h s =
            args_same es (λ args. do tick; library_call (slice_get library_functions n) x m args) (λ args. do tick; library_call (slice_get library_functions n) y m args) [] (λ args. ticked _ _ (library_call_same (slice_get library_functions n) x y m args)) f g h s
        form_same (t.Mark n) x y f g h s = h (int kind.ULong (pos (marks n))) s

        args_same : (es : Exprs) (m n : List Value → M Value) (known : List Value) → ((args : List Value) → SameM (m args) (n args)) → SameM (mean_args p marks c es m known) (mean_args q marks d (unplaced_all es) n known)
        args_same no_exprs m n known k f g h s = k known f g h s
        args_same (one_expr e es) m n known k f g h s = expr_same e _ _ (λ v s. args_same es m n (known ++ v ∷ []) k f g h s) s

      each_same : (es : Exprs) → SameM (mean_each p marks c es) (mean_each q marks d (unplaced_all es))
      each_same no_exprs f g h s = h tt s
      each_same (one_expr e es) f g h s = expr_same e _ _ (λ v s. each_same es f g h s) s

      step_same : (e : MaybeExpr) → SameM (mean_step p marks c e) (mean_step q marks d (unplaced_maybe e))
      step_same NoExpr f g h s = h tt s
      step_same (TheExpr e) f g h s = expr_same e _ _ (λ v s. h tt s) s

    -- ---- statements

    if_next_same : (flow : Flow) (m n : M Flow) → SameM m n → SameM (if_next flow m) (if_next flow n)
    if_next_same Next m n h = h
    if_next_same Broke m n h = give_same Broke
    if_next_same Continued m n h = give_same Continued
    if_next_same (Returned v) m n h = give_same (Returned v)

    after_turn_same : (flow : Flow) (m n : M Flow) → SameM m n → SameM (after_turn flow m) (after_turn flow n)
    after_turn_same Next m n h = h
    after_turn_same Continued m n h = h
    after_turn_same Broke m n h = give_same Next
    after_turn_same (Returned v) m n h = give_same (Returned v)

    module _ (tc td : M Value) (sc sd : M (Unit {0})) (bc bd : M Flow) (ht : SameM tc td) (hs : SameM sc sd) (hb : SameM bc bd) where
      turns_same : (n : ℕ) → SameM (turns n tc sc bc) (turns n td sd bd)
      turns_same zero f g h s = refl
      turns_same (suc n) f g h s =
          paid_same s.ticks s _ _ (λ s.
          hb _ _ (λ flow s. after_turn_same flow _ _ (λ f g h s. hs _ _ (λ z s. ht _ _ (λ v s. if_same v _ _ _ _ (turns_same n) (give_same Next) f g h s) s) s) f g h s) s)

      loop_same : (first : Bool) (n : ℕ) → SameM (loop first tc (turns n tc sc bc)) (loop first td (turns n td sd bd))
      loop_same true n f g h s = ht _ _ (λ v s. if_same v _ _ _ _ (turns_same n) (give_same Next) f g h s) s
      loop_same false n f g h s = turns_same n f g h s

    local_same : (x size : ℕ) → SameM (make_local x size) (make_local x size)
    local_same x size f g h s =
        paid_same s.ticks s _ _ (λ s. one_act (take_room (rounded size) s.world) _ _ (λ y s. one_act (change (with_local x size) s.world) f g h s) s)

    locals_same : (objects : List (ℕ × ℕ)) → SameM (make_locals objects) (make_locals objects)
    locals_same [] f g h s = h tt s
    locals_same (o ∷ objects) f g h s = local_same o.0 o.1 _ _ (λ x s. locals_same objects f g h s) s

    module _ (c d : Calls) (calls : SameCalls c d) (n : ℕ) where
      mutual
        begun_same : (x : Stmt) → SameM (begun p marks c n x) (begun q marks d n (unplaced_stmt x))
        begun_same (t.Block objects xs) f g h s = locals_same objects _ _ (λ y s. list_same xs _ _ (λ flow s. one_act (change (end_locals objects) s.world) _ _ (λ z s. h flow s) s) s) s
        begun_same (t.Do e) f g h s = expr_same c d calls e _ _ (λ v s. h Next s) s
        begun_same (t.Init x zeros items) f g h s = one_act (zero_first zeros x s.world) _ _ (λ y s. each_same c d calls items _ _ (λ z s. h Next s) s) s
        begun_same (t.If e x y) f g h s = expr_same c d calls e _ _ (λ v s. if_same v _ _ _ _ (ticked _ _ (begun_same x)) (else_same y) f g h s) s
        begun_same (t.Loop first e step x) f g h s = loop_same _ _ _ _ _ _ (expr_same c d calls e) (step_same c d calls step) (ticked _ _ (begun_same x)) first n f g h s
        begun_same t.Break f g h s = h Broke s
        begun_same t.Continue f g h s = h Continued s
        begun_same (t.Return NoExpr) f g h s = h (Returned None) s
        begun_same (t.Return (TheExpr e)) f g h s = expr_same c d calls e _ _ (λ v s. h (Returned (Some v)) s) s

        else_same : (x : Else) → SameM (mean_else p marks c n x) (mean_else q marks d n (unplaced_else x))
        else_same NoElse f g h s = h Next s
        else_same (Otherwise x) f g h s = ticked _ _ (begun_same x) f g h s

        list_same : (xs : Stmts) → SameM (mean_list p marks c n xs) (mean_list q marks d n (unplaced_stmts xs))
        list_same no_stmts f g h s = h Next s
        list_same (one_stmt x xs) f g h s = paid_same s.ticks s _ _ (λ s. begun_same x _ _ (λ flow s. if_next_same flow _ _ (list_same xs) f g h s) s)

      stmt_same : (x : Stmt) → SameM (mean_stmt p marks c n x) (mean_stmt q marks d n (unplaced_stmt x))
      stmt_same x = ticked _ _ (begun_same x)

    -- ---- calls

    within_same : {A : Type 0} (m n : M A) → SameM m n → SameM (within m) (within n)
    within_same m n h f g k s = h _ _ (λ a t. k a (record t { world = record (t.world) { locals = s.world.locals } })) (record s { world = record (s.world) { locals = [] } })

    parameters_same : (x y : Span) (objects : List (ℕ × ℕ)) (args : List Value) → SameM (make_parameters x objects args) (make_parameters y objects args)
    parameters_same x y [] args f g h s = h tt s
    parameters_same x y (o ∷ objects) [] f g h s = h tt s
    parameters_same x y (o ∷ objects) (v ∷ args) f g h s =
        local_same o.0 o.1 _ _ (λ z s. acted_same _ _ (argument_acts x y (local_block s.world o.0) v s.world) _ _ (λ z s. parameters_same x y objects args f g h s) s) s

    returned_same : (is_main used : Bool) (x y : Span) (flow : Flow) → SameM (returned is_main used x flow) (returned is_main used y flow)
    returned_same is_main used x y (Returned (Some v)) f g h s = h v s
    returned_same is_main used x y (Returned None) f g h s = h no_value s
    returned_same true used x y Next f g h s = h (int kind.Int (pos 0)) s
    returned_same true used x y Broke f g h s = h (int kind.Int (pos 0)) s
    returned_same true used x y Continued f g h s = h (int kind.Int (pos 0)) s
    returned_same false true x y Next f g h s = same_ends _ _ _ refl
    returned_same false true x y Broke f g h s = same_ends _ _ _ refl
    returned_same false true x y Continued f g h s = same_ends _ _ _ refl
    returned_same false false x y Next f g h s = h no_value s
    returned_same false false x y Broke f g h s = h no_value s
    returned_same false false x y Continued f g h s = h no_value s

    body_same : (m n : M Flow) (is_main : Bool) (objects : List (ℕ × ℕ)) (args : List Value) (used : Bool) (x y : Span) → SameM m n → SameM (run_body m is_main objects args used x) (run_body n is_main objects args used y)
    body_same m n is_main objects args used x y h =
        within_same _ _ (λ f g k s.
        one_act (take_room 64 s.world) _ _ (λ z s.
        parameters_same x y objects args _ _ (λ z s.
        h _ _ (λ flow s.
        one_act (change (λ w. give_room 64 (end_locals objects w)) s.world) _ _ (λ z s. returned_same is_main used x y flow f g k s) s) s) s) s)

    callee_same : (callee : Option Callee) (args : List Value) (x y : Span) → SameM (run_callee callee args x) (run_callee callee args y)
    callee_same None args x y f g h s = same_ends _ _ _ refl
    callee_same (Some callee) args x y f g h s = library_call_same (slice_get library_functions callee.0) x y callee.1 args f g h s

    function_same : (m n : Stmt → M Flow) (is_main : Bool) (fn : t.Function) (body : Option Stmt) (args : List Value) (used : Bool) (x y : Span) → ((z : Stmt) → SameM (m z) (n (unplaced_stmt z)))
        → SameM (run_function m is_main fn body args used x) (run_function n is_main (unplaced_function fn) (option_map unplaced_stmt body) args used y)
    function_same m n is_main fn None args used x y h = callee_same (callee_of fn.name) args x y
    function_same m n is_main fn (Some z) args used x y h = body_same (m z) (n (unplaced_stmt z)) is_main _ args used x y (h z)

    typed_same : (m n : Stmt → M Flow) (is_main : Bool) (fn : Option t.Function) (type : List ℕ) (args : List Value) (used : Bool) (x y : Span) → ((z : Stmt) → SameM (m z) (n (unplaced_stmt z)))
        → SameM (typed_call m is_main fn type args used x) (typed_call n is_main (option_map unplaced_function fn) type args used y)
    typed_same m n is_main None type args used x y h f g k s = same_ends _ _ _ refl
    typed_same m n is_main (Some fn) type args used x y h f g k s =
        elim (bytes_eq fn.ty type) as (λ same. seen ((let r : M Value = if same then run_function m is_main fn fn.body args used x else stop (Trap reason.BadCall x) in r) f s) ≡ seen ((let r : M Value = if same then run_function n is_main (unplaced_function fn) (option_map unplaced_stmt fn.body) args used y else stop (Trap reason.BadCall y) in r) g s))
        [ true ↦ function_same m n is_main fn fn.body args used x y h f g k s | false ↦ same_ends _ _ _ refl ]

    value_same : (m n : Stmt → M Flow) (v : Value) (type : List ℕ) (args : List Value) (used : Bool) (x y : Span) → ((z : Stmt) → SameM (m z) (n (unplaced_stmt z)))
        → SameM (call_value p m v type args used x) (call_value q n v type args used y)
    value_same m n (value.Ptr (Function i)) type args used x y h f g k s =
        typed_same m n (is_number p.main i) (slice_get p.funcs i) type args used x y h f g k s
        ∙ ap (λ o. seen (typed_call n (is_number p.main i) o type args used y g s)) (sym (slice_get-map unplaced_function p.funcs i))
    value_same m n (value.Ptr Null) type args used x y h f g k s = same_ends _ _ _ refl
    value_same m n (value.Ptr (Object i o)) type args used x y h f g k s = same_ends _ _ _ refl
    value_same m n (value.Int i) type args used x y h f g k s = same_ends _ _ _ refl

    calls_same : (n : ℕ) → SameCalls (call_at p marks n) (call_at q marks n)
    calls_same zero v type args used x y f g h s = refl
    calls_same (suc n) v type args used x y f g h s =
        ticked _ _ (value_same (mean_stmt p marks (call_at p marks n) n) (mean_stmt q marks (call_at q marks n) n) v type args used x y (λ z. stmt_same (call_at p marks n) (call_at q marks n) (calls_same n) n z)) f g h s

    type_again : (o : Option t.Function) → type_of (option_map unplaced_function o) ≡ type_of o
    type_again None = refl
    type_again (Some fn) = refl

    main_same : (n : ℕ) (main : Option ℕ) → SameM (call_main p (call_at p marks n) main) (call_main q (call_at q marks n) main)
    main_same n None f g k s = refl
    main_same n (Some i) f g k s =
        calls_same n (value.Ptr (Function i)) (type_of (slice_get p.funcs i)) [] true nowhere nowhere f g k s
        ∙ ap (λ type. seen (call_at q marks n (value.Ptr (Function i)) type [] true nowhere g s)) (sym (ap type_of (slice_get-map unplaced_function p.funcs i) ∙ type_again (slice_get p.funcs i)))

    fixed_made : (fixed : List FixedObject) (m n : M Value) → SameM m n → SameM (do make_fixed fixed; m) (do make_fixed fixed; n)
    fixed_made [] m n h f g k s = h f g k s
    fixed_made (o ∷ fixed) m n h f g k s =
        one_act (take_room (if o.defined then rounded o.size else 0) s.world) _ _ (λ x s. one_act (change (with_fixed o) s.world) _ _ (λ y s. fixed_made fixed m n h f g k s) s) s

    pub runs_same : (input : List ℕ) (ticks : ℕ) → seen (run_of p marks input ticks) ≡ seen (run_of q marks input ticks)
    runs_same input ticks = fixed_made p.fixed (call_main p (call_at p marks ticks) p.main) (call_main q (call_at q marks ticks) p.main) (main_same ticks p.main) exit exit (λ v s. refl) (start input ticks)

pub places_change_nothing : PlacesChangeNothing
places_change_nothing p p' same tok input steps count size output end log h =
    let e = runs_same tok p tok.mark input steps ∙ ap (λ r. seen tok (run_of r tok.mark input steps)) same ∙ sym (runs_same tok p' tok.mark input steps) in
    seen_decides without_place (run_of p tok.mark input steps) (run_of p' tok.mark input steps) tok tok (ranges_of count size) output end log (seen_of tok (run_of p tok.mark input steps) (run_of p' tok.mark input steps) e) h
