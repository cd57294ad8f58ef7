-- A program and the same with its sites tagged are told to do the same.
use Rattle.std.proofs.Common.{◌≡◌, ℕ, zero, suc, Bool, true, false, List, [], ◌∷◌, ◌++◌, Option, Some, None, refl, sym, ap, arith, pos}
use Rattle.std.specs.Prelude.{slice_get, slice_index_or, if◌then◌else◌, bytes_eq, length, ◌*◌}
use Rattle.tok_base.specs.declared.token.Span.{Span}
use Rattle.num_ops.specs.declared.kinds.IntKind.TheVariants as kind
use Rattle.c_core.specs.declared.values.Pointer.{Pointer}
use Rattle.c_core.specs.declared.values.Pointer.TheVariants.{Null, Object, Function}
use Rattle.c_core.specs.declared.values.Value.{Value}
use Rattle.c_core.specs.declared.values.Value.TheVariants as value
use Rattle.tok_base.specs.declared.reason.Reason.TheVariants as reason
use Rattle.c_core.specs.declared.values.End.TheVariants.{Trap}
use Rattle.c_core.specs.declared.tree.FixedObject.{FixedObject}
use Rattle.c_core.specs.declared.tree.Place.TheVariants as place
use Rattle.range_heap.specs.Blocks.{rounded}
use Rattle.c_core.specs.declared.tree.LibMark.{LibMark}
use Rattle.c_core.specs.Tree as t
use Rattle.c_core.specs.Tree.{Expr, At, Form, Exprs, no_exprs, one_expr, MaybeExpr, NoExpr, TheExpr, Stmt, Else, NoElse, Otherwise, Stmts, no_stmts, one_stmt, Program}
use Rattle.c_meaning.specs.declared.log.Flow.{Flow}
use Rattle.c_meaning.specs.declared.log.Flow.TheVariants.{Next, Broke, Continued, Returned}
use Rattle.c_meaning.specs.Run.{Run, Asks, Frees, Begins, Label}
use Rattle.c_meaning.specs.World.{World, State, M, Acted, Gives, Stops, ◌>>=◌, ◌>>◌, give, stop, paid, tick, act, acted, change, make_local, make_locals, end_locals, within, request, release, judged, after_answer, without_block, take_room, give_room, with_local, local_block, maker}
use Rattle.c_meaning.specs.Rules.{holds, natural_in, pointer_in, no_value, arith as arith_value, shift, truth, ptr_add, ptr_diff, compare_ptr, modified, int, convert, compare_int, truth_value}
use Rattle.c_meaning.specs.Storage.{load_at, store_at, copy_record, with_fixed, address, get_char, put_byte, byte_in, copy_bytes, set_bytes, compare_bytes, string_length, allocated, zeroed, resized}
use Rattle.c_core.specs.Library.{LibraryFunction, Malloc, Calloc, Realloc, FreeIt, GetChar, PutChar, MemCpy, MemMove, MemSet, MemCmp, StrLen, ExitNow, AbortNow, library_functions, Callee, callee_of}
use Rattle.c_meaning.specs.Meaning.{allocate, block_or_null, if_granted, reallocate, free, library, library_call, Calls, if_holds, mean_expr, mean_form, mean_args, mean_each, mean_step, if_next, after_turn, turns, loop, begun, mean_else, mean_list, mean_stmt, make_parameters, store_argument, returned, run_body, run_callee, run_function, typed_call, call_value, call_at, make_fixed, call_main, label_of, function_address, zero_first, is_number, type_of, nowhere, exit, start}
use Rattle.std.proofs.Common.{◌<◌, ◌+◌, map, option_map, Result, Ok, Err, ◌∙◌}
use Rattle.std.specs.Prelude.{is_some, nat_lt, ◌^◌, ◌&&◌}
use Rattle.tok_base.specs.declared.reason.Reason.{Reason}
use Rattle.num_ops.specs.Kinds.{holds as has_value}
use Rattle.num_ops.specs.Conversions.{converted}
use Rattle.c_core.specs.declared.tree.LibMark.TheVariants as mark
use Rattle.c_core.specs.WellFormed.{well_formed, good_functions, good_fixed, has_main, is_main as is_the_main}
use Rattle.c_meaning.specs.Meaning.{last_of, has_meaning, Tokens, token_of, run_of}
use Rattle.c_meaning.specs.Run.{Site, Token}
use Rattle.c_meaning.proofs.Sorted.{OkIs, ok_if}
use Rattle.meaning_laws.specs.Numbers.{ValueIn, WorldIn}
use Rattle.meaning_laws.proofs.Numbers.{In, Any, judged_in, killed_blocks, placed_blocks, load_step, store_step, record_step, copy_step, set_step, zeroed_step, resized_step, zero_step, argument_step, get_step, put_step, room_step, ends_in, truth_step, diff_step, compare_step, add_step, arith_step, shift_step, modified_step, compared_step, length_step, address_in, fixed_in}
use Rattle.meaning_laws.proofs.Numbered.{Num, NumForm, NumAll, NumMaybe, NumStmt, NumElse, NumStmts, NumBody, NumFuncs, NumFixed, arities, count_of, funcs_num, fixed_num}
use Rattle.std.proofs.lemmas.Option.{slice_get_within}
use Rattle.c_core.specs.declared.values.End.{End}
use Rattle.c_meaning.specs.Run.{Ended}
use Rattle.std.specs.Prelude.{take, drop, ◌==◌, ◌-◌, ◌||◌}
use Rattle.std.proofs.Common.{unsigned_abs, ℤ}
use Rattle.num_ops.specs.Conversions.{wrapped}
use Rattle.c_core.specs.Library.{marked, or_else, number_of_name, library_names, allocator, is_digit, numbered, fast_entry, entry, prefix}
use Rattle.c_meaning.specs.Meaning.{allocate_zeroed}
use Rattle.c_meaning.specs.Log.{ranges_of}
use Rattle.meaning_laws.specs.Told.{Told, AsksFor, GivesBack, told}
use Rattle.meaning_laws.specs.Retag.{Tags, token, and_last, entered, retag, retag_form, retag_all, retag_maybe, retag_stmt, retag_else, retag_stmts, retag_function, retagged}
use Rattle.meaning_laws.specs.Tagged.{plain, tags_of, AreLong, TagsChangeNothing}
use Rattle.meaning_laws.proofs.ToldRuns.{told_decides}

module _ (p : Program) (tok : Tokens) (long : AreLong tok) (is_argument : Bool) (entries : List t.Function) (marks' : ℕ → ℕ) where
  abbrev tags : Tags
  tags = tags_of tok is_argument

  abbrev q : Program
  q = retagged tags entries p

  abbrev count : ℕ
  count = length p.funcs

  abbrev marks : ℕ → ℕ
  marks = tok.mark

  abbrev other : Tokens
  other = plain tok.fallback

  -- what is told of the one and of the other
  pub left : Run → Told
  left run = told tok run

  pub right : Run → Told
  right run = told other run

  pub told_of : (r r' : Run) → left r ≡ right r' → told tok r ≡ told other r'
  unfolding left right
  told_of r r' h = h

  same_ends : (o : List ℕ) (e : End) → left (Ended o e) ≡ right (Ended o e)
  unfolding left right
  same_ends o e = refl

  same_begun : (r r' : Run) → left r ≡ right r' → left (Begins r) ≡ right (Begins r')
  unfolding left right
  same_begun r r' h = h

  right_begun : (r r' : Run) → left r ≡ right r' → left r ≡ right (Begins r')
  unfolding left right
  right_begun r r' h = h

  same_asks : (label label' : Label) (size : ℕ) (go go' : Bool → Run) → token_of tok label ≡ token_of other label' → ((granted : Bool) → left (go granted) ≡ right (go' granted)) → left (Asks label size 16 go) ≡ right (Asks label' size 16 go')
  unfolding left right
  same_asks label label' size go go' e h = λ i. AsksFor (e i) size 16 (λ granted. h granted i)

  same_frees : (j : ℕ) (r r' : Run) → left r ≡ right r' → left (Frees j r) ≡ right (Frees j r')
  unfolding left right
  same_frees j r r' h = ap (GivesBack j) h

  abbrev Follows : {A : Type 0} → (A → Type 0) → (A → State → Run) → (A → State → Run) → Type 0
  Follows {A} Such f g = (a : A) → Such a → (s : State) → WorldIn count s.world → left (f a s) ≡ right (g a s)

  abbrev SameM : {A : Type 0} → (A → Type 0) → M A → M A → Type 0
  SameM {A} Such m n = (f g : A → State → Run) → Follows Such f g → (s : State) → WorldIn count s.world → left (m f s) ≡ right (n g s)

  abbrev V : Value → Type 0
  V v = ValueIn count v

  paid_same : (n : ℕ) (s : State) (f g : State → Run) → WorldIn count s.world → ((s : State) → WorldIn count s.world → left (f s) ≡ right (g s)) → left (paid n f s) ≡ right (paid n g s)
  paid_same zero s f g w h = same_ends _ _
  paid_same (suc n) s f g w h = h (record s { ticks = n }) w

  ticked : {A : Type 0} (Such : A → Type 0) (m n : M A) → SameM Such m n → SameM Such (do tick; m) (do tick; n)
  ticked Such m n h f g k s w = paid_same s.ticks s _ _ w (λ s w. h f g k s w)

  acted_same : {A : Type 0} (Such : A → Type 0) (o : Acted A) (f g : A → State → Run) → Follows Such f g → (s : State) → In count Such o → left (acted o f s) ≡ right (acted o g s)
  acted_same Such (Gives a w) f g k s i = k a i.0 (record s { world = w }) i.1
  acted_same Such (Stops e) f g k s i = same_ends _ _

  give_same : {A : Type 0} (Such : A → Type 0) (a : A) → Such a → SameM Such (give a) (give a)
  give_same Such a i f g k s w = k a i s w

  if_same : {A : Type 0} (Such : A → Type 0) (v : Value) (m n p q : M A) → SameM Such m n → SameM Such p q → SameM Such (if_holds v m p) (if_holds v n q)
  if_same {A} Such v m n p q h k =
      elim (holds v) as (λ x. SameM Such (let r : M A = if x then m else p in r) (let r : M A = if x then n else q in r)) [ true ↦ h | false ↦ k ]

  -- ---- requests

  answer_in : (size : ℕ) (granted : Bool) (w : World) → WorldIn count w → WorldIn count (after_answer size granted w)
  answer_in size true w h = placed_blocks count w.blocks _ size h
  answer_in size false w h = h

  request_same : (label label' : Label) (size : ℕ) → token_of tok label ≡ token_of other label' → SameM (Any count) (request label size) (request label' size)
  request_same label label' size e f g h s w = same_asks label label' size _ _ e (λ granted. h (if granted then Some (length s.world.blocks) else None) tt (record s { world = after_answer size granted s.world }) (answer_in size granted s.world w))

  release_same : (n : ℕ) → SameM (Any count) (release n) (release n)
  release_same n f g h s w = same_frees (maker s.world n) _ _ (h tt tt (record s { world = record (without_block n s.world) { asked = suc s.world.asked } }) (killed_blocks count s.world.blocks n w))

  granted_same : (block : Option ℕ) (p : ℕ → M (Unit {0})) → ((n : ℕ) → SameM (Any count) (p n) (p n)) → SameM V (if_granted block p) (if_granted block p)
  granted_same None p h f g k s w = k (value.Ptr Null) tt s w
  granted_same (Some n) p h f g k s w = h n _ _ (λ x i s w. k (value.Ptr (Object n 0)) tt s w) s w

  block_in : (block : Option ℕ) → V (block_or_null block)
  block_in None = tt
  block_in (Some n) = tt

  allocate_same : (label label' : Label) (size : ℕ) → token_of tok label ≡ token_of other label' → SameM V (allocate label size) (allocate label' size)
  allocate_same label label' size e f g h s w = request_same label label' size e _ _ (λ block i s w. h (block_or_null block) (block_in block) s w) s w

  calloc_same : (span : Span) (label label' : Label) (size : ℕ) → token_of tok label ≡ token_of other label' → SameM V (allocate_zeroed span label size) (allocate_zeroed span label' size)
  calloc_same span label label' size e f g h s w =
      request_same label label' size e _ _ (λ block i s w. granted_same block _ (λ n f g h s w. acted_same (Any count) (zeroed span n size s.world) f g h s (zeroed_step count span n size s.world w)) f g h s w) s w

  moved_same : (span : Span) (old size n : ℕ) → SameM (Any count) (do act (resized span n old size); release old) (do act (resized span n old size); release old)
  moved_same span old size n f g h s w = acted_same (Any count) (resized span n old size s.world) _ _ (λ x i s w. release_same old f g h s w) s (resized_step count span n old size s.world w)

  any_ok : {A E : Type 0} (r : Result A E) → OkIs (Any count) r
  any_ok (Ok a) = tt
  any_ok (Err e) = tt

  realloc_on : (span : Span) (label label' : Label) (p : Pointer) (size : ℕ) → token_of tok label ≡ token_of other label' → SameM V (do
    old ← act (λ w. judged span (allocated w.blocks p) w)
    block ← request label size
    if_granted block (λ n. do act (resized span n old size); release old)) (do
      old ← act (λ w. judged span (allocated w.blocks p) w)
      block ← request label' size
      if_granted block (λ n. do act (resized span n old size); release old))
  realloc_on span label label' p size e f g h s w =
      acted_same (Any count) (judged span (allocated s.world.blocks p) s.world) _ _ (λ old i s w. request_same label label' size e _ _ (λ block i s w. granted_same block _ (moved_same span old size) f g h s w) s w) s (judged_in count (Any count) span (allocated s.world.blocks p) s.world w (any_ok (allocated s.world.blocks p)))

  realloc_same : (span : Span) (label label' : Label) (p : Pointer) (size : ℕ) → token_of tok label ≡ token_of other label' → SameM V (reallocate span label p size) (reallocate span label' p size)
  realloc_same span label label' Null size e f g h s w = allocate_same label label' size e f g h s w
  realloc_same span label label' (Object n i) size e f g h s w = realloc_on span label label' (Object n i) size e f g h s w
  realloc_same span label label' (Function n) size e f g h s w = realloc_on span label label' (Function n) size e f g h s w

  free_on : (span : Span) (o : Result ℕ Reason) (f g : Value → State → Run) → Follows V f g → (s : State) → WorldIn count s.world
      → left (acted (judged span o s.world) (λ n s. release n (λ x s. f no_value s) s) s) ≡ right (acted (judged span o s.world) (λ n s. release n (λ x s. g no_value s) s) s)
  free_on span o f g h s w = acted_same (Any count) (judged span o s.world) _ _ (λ n i s w. release_same n _ _ (λ x i s w. h no_value tt s w) s w) s (judged_in count (Any count) span o s.world w (any_ok o))

  free_same : (span : Span) (p : Pointer) → SameM V (free span p) (free span p)
  free_same span Null f g h s w = h no_value tt s w
  free_same span (Object n i) f g h s w = free_on span (allocated s.world.blocks (Object n i)) f g h s w
  free_same span (Function n) f g h s w = free_on span (allocated s.world.blocks (Function n)) f g h s w

  library_same : (l : LibraryFunction) (span : Span) (label label' : Label) → token_of tok label ≡ token_of other label' → (x y z : Value) → V x → SameM V (library l span label x y z) (library l span label' x y z)
  library_same Malloc span label label' e x y z i f g h s w = allocate_same label label' (natural_in x) e f g h s w
  library_same Calloc span label label' e x y z i f g h s w = calloc_same span label label' (natural_in x * natural_in y) e f g h s w
  library_same Realloc span label label' e x y z i f g h s w = realloc_same span label label' (pointer_in x) (natural_in y) e f g h s w
  library_same FreeIt span label label' e x y z i f g h s w = free_same span (pointer_in x) f g h s w
  library_same GetChar span label label' e x y z i f g h s w = acted_same V (get_char s.world) f g h s (get_step count s.world w)
  library_same PutChar span label label' e x y z i f g h s w = acted_same V (put_byte (byte_in x) s.world) f g h s (put_step count (byte_in x) s.world w)
  library_same MemCpy span label label' e x y z i f g h s w = acted_same V (copy_bytes span false x y z s.world) f g h s (copy_step count span false x y z s.world w i)
  library_same MemMove span label label' e x y z i f g h s w = acted_same V (copy_bytes span true x y z s.world) f g h s (copy_step count span true x y z s.world w i)
  library_same MemSet span label label' e x y z i f g h s w = acted_same V (set_bytes span x y z s.world) f g h s (set_step count span x y z s.world w i)
  library_same MemCmp span label label' e x y z i f g h s w = acted_same V (compare_bytes span x y z s.world) f g h s (compared_step count span x y z s.world w)
  library_same StrLen span label label' e x y z i f g h s w = acted_same V (string_length span x s.world) f g h s (length_step count span x s.world w)
  library_same ExitNow span label label' e x y z i f g h s w = same_ends _ _
  library_same AbortNow span label label' e x y z i f g h s w = same_ends _ _

  abbrev AllIn : List Value → Type 0
  AllIn [] = Unit {0}
  AllIn (v ∷ vs) = V v × AllIn vs

  all_more : (vs : List Value) (v : Value) → AllIn vs → V v → AllIn (vs ++ v ∷ [])
  all_more [] v h i = (i, tt)
  all_more (x ∷ vs) v h i = (h.0, all_more vs v h.1 i)

  first_in : (vs : List Value) → AllIn vs → V (slice_index_or vs 0 no_value)
  first_in [] h = tt
  first_in (v ∷ vs) h = h.0

  longer : (vs : List Value) (v : Value) (n : ℕ) → length (vs ++ v ∷ []) + n ≡ length vs + suc n
  longer [] v n = omega arith
  longer (x ∷ vs) v n = let e = longer vs v n in omega (arith, e)

  abbrev NoSiteMark : LibMark → Type 0
  NoSiteMark (mark.Site k) = ⊥
  NoSiteMark mark.Untagged = Unit {0}
  NoSiteMark mark.Given = Unit {0}
  NoSiteMark (mark.Fixed token) = Unit {0}

  abbrev NoSite : Option Callee → Type 0
  NoSite None = Unit {0}
  NoSite (Some callee) = NoSiteMark callee.1

  label_same : (m : LibMark) (args : List Value) → NoSiteMark m → token_of tok (label_of m args) ≡ token_of other (label_of m args)
  label_same (mark.Site k) args n = absurd n
  label_same mark.Untagged args n = refl
  label_same mark.Given args n = refl
  label_same (mark.Fixed token) args n = refl

  library_call_same : (l : Option LibraryFunction) (span : Span) (m : LibMark) (args : List Value) → AllIn args → NoSiteMark m → SameM V (library_call l span m args) (library_call l span m args)
  library_call_same None span m args a n f g h s w = same_ends _ _
  library_call_same (Some l) span m args a n f g h s w =
      library_same l span (label_of m args) (label_of m args) (label_same m args n) (slice_index_or args 0 no_value) (slice_index_or args 1 no_value) (slice_index_or args 2 no_value) (first_in args a) f g h s w

  -- a site's call of its token's own entry point
  fixed_same : (l : Option LibraryFunction) (span : Span) (k : ℕ) (args : List Value) → AllIn args → SameM V (library_call l span (mark.Site k) args) (library_call l span (mark.Fixed (tok.site k)) args)
  fixed_same None span k args a f g h s w = same_ends _ _
  fixed_same (Some l) span k args a f g h s w =
      library_same l span (Site k) (Token (tok.site k)) refl (slice_index_or args 0 no_value) (slice_index_or args 1 no_value) (slice_index_or args 2 no_value) (first_in args a) f g h s w

  -- a token as the last argument
  abbrev token_value : ℕ → Value
  token_value k = value.Int (record { kind = kind.ULong; value = converted kind.ULong (pos (tok.site k)) })

  last_push : (vs : List Value) (v : Value) → last_of (vs ++ v ∷ []) ≡ v
  last_push [] v = refl
  last_push (x ∷ []) v = refl
  last_push (x ∷ y ∷ vs) v = last_push (y ∷ vs) v

  unchanged : (z : ℤ) → has_value kind.ULong z ≡ true → converted kind.ULong z ≡ z
  unchanged z h = ap (λ (b : Bool). if b then z else wrapped kind.ULong z) h

  last_token : (k : ℕ) (args : List Value) → natural_in (last_of (args ++ token_value k ∷ [])) ≡ tok.site k
  last_token k args = ap natural_in (last_push args (token_value k)) ∙ ap unsigned_abs (unchanged (pos (tok.site k)) (long.sites k))

  some_number : (a b : ℕ) → Some a ≡ Some b → a ≡ b
  some_number a b h = cc

  given_same : (n k : ℕ) (span : Span) (args : List Value) → slice_get arities n ≡ Some (length args) → SameM V (library_call (slice_get library_functions n) span (mark.Site k) args) (library_call (slice_get library_functions n) span mark.Given (args ++ token_value k ∷ []))
  given_same zero k span [] e = absurd (let n = some_number 1 0 e in omega (arith, n))
  given_same zero k span (v ∷ []) e = allocate_same (Site k) (label_of mark.Given (v ∷ token_value k ∷ [])) (natural_in v) (sym (last_token k (v ∷ [])))
  given_same zero k span (v ∷ u ∷ args) e = absurd (let n = some_number 1 (length (v ∷ u ∷ args)) e in omega (arith, n))
  given_same (suc zero) k span [] e = absurd (let n = some_number 2 0 e in omega (arith, n))
  given_same (suc zero) k span (v ∷ []) e = absurd (let n = some_number 2 1 e in omega (arith, n))
  given_same (suc zero) k span (v ∷ u ∷ []) e = calloc_same span (Site k) (label_of mark.Given (v ∷ u ∷ token_value k ∷ [])) (natural_in v * natural_in u) (sym (last_token k (v ∷ u ∷ [])))
  given_same (suc zero) k span (v ∷ u ∷ x ∷ args) e = absurd (let n = some_number 2 (length (v ∷ u ∷ x ∷ args)) e in omega (arith, n))
  given_same (suc (suc zero)) k span [] e = absurd (let n = some_number 2 0 e in omega (arith, n))
  given_same (suc (suc zero)) k span (v ∷ []) e = absurd (let n = some_number 2 1 e in omega (arith, n))
  given_same (suc (suc zero)) k span (v ∷ u ∷ []) e = realloc_same span (Site k) (label_of mark.Given (v ∷ u ∷ token_value k ∷ [])) (pointer_in v) (natural_in u) (sym (last_token k (v ∷ u ∷ [])))
  given_same (suc (suc zero)) k span (v ∷ u ∷ x ∷ args) e = absurd (let n = some_number 2 (length (v ∷ u ∷ x ∷ args)) e in omega (arith, n))
  given_same (suc (suc (suc n))) k span args e = absurd (let f : None ≡ Some (length args) = e in cc)

  -- ---- functions by their numbers

  again_at : (funcs : List t.Function) (i : ℕ) → i < length funcs → slice_get (map (retag_function tags) funcs ++ entries) i ≡ option_map (retag_function tags) (slice_get funcs i)
  again_at [] i h = absurd (omega arith)
  again_at (x ∷ funcs) zero h = refl
  again_at (x ∷ funcs) (suc i) h = again_at funcs i (omega arith)

  body_there : (body : Option Stmt) → is_some (option_map (retag_stmt tags) body) ≡ is_some body
  body_there None = refl
  body_there (Some x) = refl

  meaning_again : (o : Option t.Function) → has_meaning (option_map (retag_function tags) o) ≡ has_meaning o
  meaning_again None = refl
  meaning_again (Some x) = ap (λ (b : Bool). b || is_some (callee_of x.name)) (body_there x.body)

  address_same : (i : ℕ) → i < count → function_address p.funcs i ≡ function_address q.funcs i
  address_same i h =
      let e = ap has_meaning (again_at p.funcs i h) ∙ meaning_again (slice_get p.funcs i) in
      ap (λ (b : Bool). (let r : Result Value Reason = if b then Ok (value.Ptr (Function i)) else Err reason.NoBody in r)) (sym e)

  judged_same : (span : Span) (r : Result Value Reason) (f g : Value → State → Run) → Follows V f g → (s : State) → In count V (judged span r s.world) → left (acted (judged span r s.world) f s) ≡ right (acted (judged span r s.world) g s)
  judged_same span r f g h s i = acted_same V (judged span r s.world) f g h s i

  if_value : (b : Bool) (x y : Value) → V x → V y → V (if b then x else y)
  if_value true x y h k = h
  if_value false x y h k = k

  abbrev SameCalls : Calls → Calls → Type 0
  SameCalls c d = (v : Value) → V v → (type : List ℕ) (args : List Value) → AllIn args → (used : Bool) (span : Span) → SameM V (c v type args used span) (d v type args used span)

  -- ---- expressions

  module _ (c d : Calls) (calls : SameCalls c d) where
    mutual
      expr_same : (e : Expr) → Num count e → SameM V (mean_expr p marks c e) (mean_expr q marks' d (retag tags e))
      expr_same (At span form) j f g h s w = same_begun _ _ (form_same span form j f g h s w)

      form_same : (span : Span) (form : Form) → NumForm count form → SameM V (mean_form p marks c span form) (mean_form q marks' d span (retag_form tags span form))
      form_same span (t.Const v) j f g h s w = h v j s w
      form_same span (t.Text n) j f g h s w = judged_same span (address p.fixed (place.Fixed n) s.world) f g h s (judged_in count V span _ s.world w (address_in count p.fixed (place.Fixed n) s.world))
      form_same span (t.Func n) j f g h s w =
          judged_same span (function_address p.funcs n) f g h s (judged_in count V span _ s.world w (ok_if V (has_meaning (slice_get p.funcs n)) (value.Ptr (Function n)) reason.NoBody j))
          ∙ ap (λ r. right (acted (judged span r s.world) g s)) (address_same n j)
      form_same span (t.Object o) j f g h s w = judged_same span (address p.fixed o s.world) f g h s (judged_in count V span _ s.world w (address_in count p.fixed o s.world))
      form_same span (t.Load e kind) j f g h s w = expr_same e j _ _ (λ a i s w. acted_same V (load_at span (pointer_in a) kind s.world) f g h s (load_step count span (pointer_in a) kind s.world w)) s w
      form_same span (t.Store e at kind v) j f g h s w =
          expr_same e j.0 _ _ (λ a i s w. expr_same v j.1 _ _ (λ v i s w. acted_same V (store_at at (pointer_in a) kind v s.world) f g h s (store_step count at (pointer_in a) kind v s.world w i)) s w) s w
      form_same span (t.CopyRecord x to_at y from_at size) j f g h s w =
          expr_same x j.0 _ _ (λ to i s w. expr_same y j.1 _ _ (λ from i s w. acted_same (Any count) (copy_record span (pointer_in to) to_at (pointer_in from) from_at size s.world) _ _ (λ z i s w. h no_value tt s w) s (record_step count span (pointer_in to) to_at (pointer_in from) from_at size s.world w)) s w) s w
      form_same span (t.Convert kind e) j f g h s w = expr_same e j _ _ (λ v i s w. h (convert kind v) tt s w) s w
      form_same span (t.Truth e negated) j f g h s w = expr_same e j _ _ (λ v i s w. judged_same span (truth s.world.blocks v negated) f g h s (truth_step count span v negated s.world w)) s w
      form_same span (t.Arith op x y) j f g h s w =
          expr_same x j.0 _ _ (λ v i s w. expr_same y j.1 _ _ (λ u i s w. judged_same span (arith_value op v u) f g h s (arith_step count span op v u s.world w)) s w) s w
      form_same span (t.ShiftBits left x y) j f g h s w =
          expr_same x j.0 _ _ (λ v i s w. expr_same y j.1 _ _ (λ u i s w. judged_same span (shift left v u) f g h s (shift_step count span left v u s.world w)) s w) s w
      form_same span (t.CompareInt op x y) j f g h s w =
          expr_same x j.0 _ _ (λ v i s w. expr_same y j.1 _ _ (λ u i s w. h (compare_int op v u) tt s w) s w) s w
      form_same span (t.PtrAdd x y size minus) j f g h s w =
          expr_same x j.0 _ _ (λ v i s w. expr_same y j.1 _ _ (λ u i s w. judged_same span (ptr_add s.world.blocks v u size minus) f g h s (add_step count span v u size minus s.world w)) s w) s w
      form_same span (t.PtrDiff x y size) j f g h s w =
          expr_same x j.0 _ _ (λ v i s w. expr_same y j.1 _ _ (λ u i s w. judged_same span (ptr_diff s.world.blocks v u size) f g h s (diff_step count span v u size s.world w)) s w) s w
      form_same span (t.ComparePtr op x y) j f g h s w =
          expr_same x j.0 _ _ (λ v i s w. expr_same y j.1 _ _ (λ u i s w. judged_same span (compare_ptr op s.world.blocks v u) f g h s (compare_step count span op v u s.world w)) s w) s w
      form_same span (t.Both x y) j f g h s w =
          expr_same x j.0 _ _ (λ v i s w. if_same V v _ _ _ _ (λ f g h s w. expr_same y j.1 _ _ (λ u i s w. h (truth_value (holds u)) tt s w) s w) (give_same V (truth_value false) tt) f g h s w) s w
      form_same span (t.Either x y) j f g h s w =
          expr_same x j.0 _ _ (λ v i s w. if_same V v _ _ _ _ (give_same V (truth_value true) tt) (λ f g h s w. expr_same y j.1 _ _ (λ u i s w. h (truth_value (holds u)) tt s w) s w) f g h s w) s w
      form_same span (t.Choose x y z) j f g h s w =
          expr_same x j.0 _ _ (λ v i s w. if_same V v _ _ _ _ (expr_same y j.1) (expr_same z j.2) f g h s w) s w
      form_same span (t.Then x y) j f g h s w = expr_same x j.0 _ _ (λ v i s w. expr_same y j.1 f g h s w) s w
      form_same span (t.Modify x at kind op y common post) j f g h s w =
          expr_same x j.0 _ _ (λ a i s w.
          expr_same y j.1 _ _ (λ v i s w.
          acted_same V (load_at at (pointer_in a) kind s.world) _ _ (λ old io s w.
          judged_same span (modified op common s.world.blocks old v) _ _ (λ new ni s w.
          acted_same V (store_at at (pointer_in a) kind new s.world) _ _ (λ stored si s w. h (if post then old else stored) (if_value post old stored io si) s w) s (store_step count at (pointer_in a) kind new s.world w ni)) s (modified_step count span op common old v s.world w)) s (load_step count at (pointer_in a) kind s.world w)) s w) s w
      form_same span (t.Call x type es used) j f g h s w =
          expr_same x j.0 _ _ (λ callee ci s w. args_same es j.1 (λ args. c callee type args used span) (λ args. d callee type args used span) [] tt (λ args i l. calls callee ci type args i used span) f g h s w) s w
      form_same span (t.LibCall n es (mark.Site k)) j f g h s w =
          elim is_argument as (λ b. left (mean_args p marks c es (λ args. do tick; library_call (slice_get library_functions n) span (mark.Site k) args) [] f s) ≡ right (mean_form q marks' d span (entered b span n (retag_all tags es) (tok.site k)) g s)) [
            | true ↦ args_last es j.0 span k (λ args. do tick; library_call (slice_get library_functions n) span (mark.Site k) args) (λ args. do tick; library_call (slice_get library_functions n) span mark.Given args) [] tt
                (λ args a l. ticked V _ _ (given_same n k span args (j.1 ∙ ap Some (let c : count_of es ≡ length args = omega (arith, l) in c)))) f g h s w
            | false ↦ args_same es j.0 (λ args. do tick; library_call (slice_get library_functions n) span (mark.Site k) args) (λ args. do tick; library_call (slice_get library_functions n) span (mark.Fixed (tok.site k)) args) [] tt
                (λ args a l. ticked V _ _ (fixed_same (slice_get library_functions n) span k args a)) f g h s w
          ]
      form_same span (t.LibCall n es mark.Untagged) j f g h s w =
          args_same es j.0 (λ args. do tick; library_call (slice_get library_functions n) span mark.Untagged args) (λ args. do tick; library_call (slice_get library_functions n) span mark.Untagged args) [] tt
          (λ args a l. ticked V _ _ (library_call_same (slice_get library_functions n) span mark.Untagged args a tt)) f g h s w
      form_same span (t.LibCall n es mark.Given) j f g h s w =
          args_same es j.0 (λ args. do tick; library_call (slice_get library_functions n) span mark.Given args) (λ args. do tick; library_call (slice_get library_functions n) span mark.Given args) [] tt
          (λ args a l. ticked V _ _ (library_call_same (slice_get library_functions n) span mark.Given args a tt)) f g h s w
      form_same span (t.LibCall n es (mark.Fixed token)) j f g h s w =
          args_same es j.0 (λ args. do tick; library_call (slice_get library_functions n) span (mark.Fixed token) args) (λ args. do tick; library_call (slice_get library_functions n) span (mark.Fixed token) args) [] tt
          (λ args a l. ticked V _ _ (library_call_same (slice_get library_functions n) span (mark.Fixed token) args a tt)) f g h s w
      form_same span (t.Mark n) j f g h s w =
          h (int kind.ULong (pos (tok.mark n))) tt s w
          ∙ ap (λ (z : ℤ). right (g (value.Int (record { kind = kind.ULong; value = z })) s)) (sym (unchanged (pos (tok.mark n)) (long.marks n)))

      args_same : (es : Exprs) → NumAll count es → (m n : List Value → M Value) (known : List Value) → AllIn known → ((args : List Value) → AllIn args → length args ≡ length known + count_of es → SameM V (m args) (n args))
          → SameM V (mean_args p marks c es m known) (mean_args q marks' d (retag_all tags es) n known)
      args_same no_exprs j m n known a k f g h s w = k known a (omega arith) f g h s w
      args_same (one_expr e es) j m n known a k f g h s w =
          expr_same e j.0 _ _ (λ v i s w. args_same es j.1 m n (known ++ v ∷ []) (all_more known v a i) (λ args b l. k args b (l ∙ longer known v (count_of es))) f g h s w) s w

      args_last : (es : Exprs) → NumAll count es → (span : Span) (k : ℕ) (m n : List Value → M Value) (known : List Value) → AllIn known
          → ((args : List Value) → AllIn args → length args ≡ length known + count_of es → SameM V (m args) (n (args ++ token_value k ∷ [])))
          → SameM V (mean_args p marks c es m known) (mean_args q marks' d (and_last (retag_all tags es) (At span (token (tok.site k)))) n known)
      args_last no_exprs j span k m n known a r f g h s w = right_begun _ _ (r known a (omega arith) f g h s w)
      args_last (one_expr e es) j span k m n known a r f g h s w =
          expr_same e j.0 _ _ (λ v i s w. args_last es j.1 span k m n (known ++ v ∷ []) (all_more known v a i) (λ args b l. r args b (l ∙ longer known v (count_of es))) f g h s w) s w

    each_same : (es : Exprs) → NumAll count es → SameM (Any count) (mean_each p marks c es) (mean_each q marks' d (retag_all tags es))
    each_same no_exprs j f g h s w = h tt tt s w
    each_same (one_expr e es) j f g h s w = expr_same e j.0 _ _ (λ v i s w. each_same es j.1 f g h s w) s w

    step_same : (e : MaybeExpr) → NumMaybe count e → SameM (Any count) (mean_step p marks c e) (mean_step q marks' d (retag_maybe tags e))
    step_same NoExpr j f g h s w = h tt tt s w
    step_same (TheExpr e) j f g h s w = expr_same e j _ _ (λ v i s w. h tt tt s w) s w

  -- ---- statements

  abbrev FlowIn : Flow → Type 0
  FlowIn (Returned (Some v)) = V v
  FlowIn (Returned None) = Unit {0}
  FlowIn Next = Unit {0}
  FlowIn Broke = Unit {0}
  FlowIn Continued = Unit {0}

  if_next_same : (flow : Flow) (m n : M Flow) → FlowIn flow → SameM FlowIn m n → SameM FlowIn (if_next flow m) (if_next flow n)
  if_next_same Next m n i h = h
  if_next_same Broke m n i h = give_same FlowIn Broke tt
  if_next_same Continued m n i h = give_same FlowIn Continued tt
  if_next_same (Returned v) m n i h = give_same FlowIn (Returned v) i

  after_turn_same : (flow : Flow) (m n : M Flow) → FlowIn flow → SameM FlowIn m n → SameM FlowIn (after_turn flow m) (after_turn flow n)
  after_turn_same Next m n i h = h
  after_turn_same Continued m n i h = h
  after_turn_same Broke m n i h = give_same FlowIn Next tt
  after_turn_same (Returned v) m n i h = give_same FlowIn (Returned v) i

  module _ (tc td : M Value) (sc sd : M (Unit {0})) (bc bd : M Flow) (ht : SameM V tc td) (hs : SameM (Any count) sc sd) (hb : SameM FlowIn bc bd) where
    turns_same : (n : ℕ) → SameM FlowIn (turns n tc sc bc) (turns n td sd bd)
    turns_same zero f g h s w = same_ends _ _
    turns_same (suc n) f g h s w =
        paid_same s.ticks s _ _ w (λ s w.
        hb _ _ (λ flow i s w. after_turn_same flow _ _ i (λ f g h s w. hs _ _ (λ x i s w. ht _ _ (λ v i s w. if_same FlowIn v _ _ _ _ (turns_same n) (give_same FlowIn Next tt) f g h s w) s w) s w) f g h s w) s w)

    loop_same : (first : Bool) (n : ℕ) → SameM FlowIn (loop first tc (turns n tc sc bc)) (loop first td (turns n td sd bd))
    loop_same true n f g h s w = ht _ _ (λ v i s w. if_same FlowIn v _ _ _ _ (turns_same n) (give_same FlowIn Next tt) f g h s w) s w
    loop_same false n f g h s w = turns_same n f g h s w

  local_same : (x size : ℕ) → SameM (Any count) (make_local x size) (make_local x size)
  local_same x size f g h s w =
      paid_same s.ticks s _ _ w (λ s w. acted_same (Any count) (take_room (rounded size) s.world) _ _ (λ y i s w. acted_same (Any count) (change (with_local x size) s.world) f g h s (tt, placed_blocks count s.world.blocks _ size w)) s (room_step count (rounded size) s.world w))

  locals_same : (objects : List (ℕ × ℕ)) → SameM (Any count) (make_locals objects) (make_locals objects)
  locals_same [] f g h s w = h tt tt s w
  locals_same (o ∷ objects) f g h s w = local_same o.0 o.1 _ _ (λ x i s w. locals_same objects f g h s w) s w

  module _ (c d : Calls) (calls : SameCalls c d) (n : ℕ) where
    mutual
      begun_same : (x : Stmt) → NumStmt count x → SameM FlowIn (begun p marks c n x) (begun q marks' d n (retag_stmt tags x))
      begun_same (t.Block objects xs) j f g h s w =
          locals_same objects _ _ (λ y i s w. list_same xs j _ _ (λ flow i s w. acted_same (Any count) (change (end_locals objects) s.world) _ _ (λ z k s w. h flow i s w) s (tt, ends_in count objects s.world w)) s w) s w
      begun_same (t.Do e) j f g h s w = expr_same c d calls e j _ _ (λ v i s w. h Next tt s w) s w
      begun_same (t.Init x zeros items) j f g h s w =
          acted_same (Any count) (zero_first zeros x s.world) _ _ (λ y i s w. each_same c d calls items j _ _ (λ z i s w. h Next tt s w) s w) s (zero_step count zeros x s.world w)
      begun_same (t.If e x y) j f g h s w =
          expr_same c d calls e j.0 _ _ (λ v i s w. if_same FlowIn v _ _ _ _ (ticked FlowIn _ _ (begun_same x j.1)) (else_same y j.2) f g h s w) s w
      begun_same (t.Loop first e step x) j f g h s w =
          loop_same _ _ _ _ _ _ (expr_same c d calls e j.0) (step_same c d calls step j.1) (ticked FlowIn _ _ (begun_same x j.2)) first n f g h s w
      begun_same t.Break j f g h s w = h Broke tt s w
      begun_same t.Continue j f g h s w = h Continued tt s w
      begun_same (t.Return NoExpr) j f g h s w = h (Returned None) tt s w
      begun_same (t.Return (TheExpr e)) j f g h s w = expr_same c d calls e j _ _ (λ v i s w. h (Returned (Some v)) i s w) s w

      else_same : (x : Else) → NumElse count x → SameM FlowIn (mean_else p marks c n x) (mean_else q marks' d n (retag_else tags x))
      else_same NoElse j f g h s w = h Next tt s w
      else_same (Otherwise x) j f g h s w = ticked FlowIn _ _ (begun_same x j) f g h s w

      list_same : (xs : Stmts) → NumStmts count xs → SameM FlowIn (mean_list p marks c n xs) (mean_list q marks' d n (retag_stmts tags xs))
      list_same no_stmts j f g h s w = h Next tt s w
      list_same (one_stmt x xs) j f g h s w =
          paid_same s.ticks s _ _ w (λ s w. begun_same x j.0 _ _ (λ flow i s w. if_next_same flow _ _ i (list_same xs j.1) f g h s w) s w)

    stmt_same : (x : Stmt) → NumStmt count x → SameM FlowIn (mean_stmt p marks c n x) (mean_stmt q marks' d n (retag_stmt tags x))
    stmt_same x j = ticked FlowIn _ _ (begun_same x j)

  -- ---- calls

  within_same : {A : Type 0} (Such : A → Type 0) (m n : M A) → SameM Such m n → SameM Such (within m) (within n)
  within_same Such m n h f g k s w =
      h _ _ (λ a i t w. k a i (record t { world = record (t.world) { locals = s.world.locals } }) w) (record s { world = record (s.world) { locals = [] } }) w

  parameters_same : (span : Span) (objects : List (ℕ × ℕ)) (args : List Value) → AllIn args → SameM (Any count) (make_parameters span objects args) (make_parameters span objects args)
  parameters_same span [] args a f g h s w = h tt tt s w
  parameters_same span (o ∷ objects) [] a f g h s w = h tt tt s w
  parameters_same span (o ∷ objects) (v ∷ args) a f g h s w =
      local_same o.0 o.1 _ _ (λ x i s w. acted_same V (store_argument span (local_block s.world o.0) v s.world) _ _ (λ y i s w. parameters_same span objects args a.1 f g h s w) s (argument_step count span (local_block s.world o.0) v s.world w a.0)) s w

  returned_same : (is_main used : Bool) (span : Span) (flow : Flow) → FlowIn flow → SameM V (returned is_main used span flow) (returned is_main used span flow)
  returned_same is_main used span (Returned (Some v)) i f g h s w = h v i s w
  returned_same is_main used span (Returned None) i f g h s w = h no_value tt s w
  returned_same true used span Next i f g h s w = h (int kind.Int (pos 0)) tt s w
  returned_same true used span Broke i f g h s w = h (int kind.Int (pos 0)) tt s w
  returned_same true used span Continued i f g h s w = h (int kind.Int (pos 0)) tt s w
  returned_same false true span Next i f g h s w = same_ends _ _
  returned_same false true span Broke i f g h s w = same_ends _ _
  returned_same false true span Continued i f g h s w = same_ends _ _
  returned_same false false span Next i f g h s w = h no_value tt s w
  returned_same false false span Broke i f g h s w = h no_value tt s w
  returned_same false false span Continued i f g h s w = h no_value tt s w

  body_same : (m n : M Flow) (is_main : Bool) (objects : List (ℕ × ℕ)) (args : List Value) → AllIn args → (used : Bool) (span : Span) → SameM FlowIn m n → SameM V (run_body m is_main objects args used span) (run_body n is_main objects args used span)
  body_same m n is_main objects args a used span h =
      within_same V _ _ (λ f g k s w.
      acted_same (Any count) (take_room 64 s.world) _ _ (λ x i s w.
      parameters_same span objects args a _ _ (λ y i s w.
      h _ _ (λ flow i s w.
      acted_same (Any count) (change (λ w. give_room 64 (end_locals objects w)) s.world) _ _ (λ z j s w. returned_same is_main used span flow i f g k s w) s (tt, ends_in count objects s.world w)) s w) s w) s (room_step count 64 s.world w))

  callee_same : (callee : Option Callee) (args : List Value) → AllIn args → (span : Span) → NoSite callee → SameM V (run_callee callee args span) (run_callee callee args span)
  callee_same None args a span n f g h s w = same_ends _ _
  callee_same (Some callee) args a span n f g h s w = library_call_same (slice_get library_functions callee.0) span callee.1 args a n f g h s w

  -- the names of the library and of the entry points are no sites
  marked_none : (m : LibMark) → NoSiteMark m → (o : Option ℕ) → NoSite (marked m o)
  marked_none m n None = tt
  marked_none m n (Some k) = n

  else_none : (x y : Option Callee) → NoSite x → NoSite y → NoSite (or_else x y)
  else_none None y h k = k
  else_none (Some x) y h k = h

  if_none : (b : Bool) (x y : Option Callee) → NoSite x → NoSite y → NoSite (if b then x else y)
  if_none true x y h k = h
  if_none false x y h k = k

  numbered_none : (n : ℕ) (name : List ℕ) → NoSite (numbered n name)
  numbered_none n [] = tt
  numbered_none n (x ∷ name) =
      if_none (x == 95) _ _ (if_none (nat_lt n 65536) _ None (marked_none (mark.Fixed n) tt (allocator name)) tt) (if_none (is_digit x) _ None (numbered_none (10 * n + (x - 48)) name) tt)

  fast_none : (name : List ℕ) → NoSite (fast_entry name)
  fast_none [] = tt
  fast_none (x ∷ []) = tt
  fast_none (x ∷ y ∷ name) =
      if_none (x == 48) _ _ (if_none (y == 95) _ None (marked_none (mark.Fixed 0) tt (allocator name)) tt) (if_none (is_digit x) _ None (numbered_none (x - 48) (y ∷ name)) tt)

  entry_none : (name : List ℕ) → NoSite (entry name)
  entry_none name =
      if_none (bytes_eq (take (length prefix) name) prefix) _ None
      (else_none (marked mark.Given (allocator (drop (length prefix) name))) _ (marked_none mark.Given tt (allocator (drop (length prefix) name))) (fast_none (drop (length prefix) name))) tt

  callee_none : (name : List ℕ) → NoSite (callee_of name)
  callee_none name = else_none (marked mark.Untagged (number_of_name name 0 library_names)) _ (marked_none mark.Untagged tt (number_of_name name 0 library_names)) (entry_none name)

  function_same : (m n : Stmt → M Flow) (is_main : Bool) (x : t.Function) (body : Option Stmt) → NumBody count body → (args : List Value) → AllIn args → (used : Bool) (span : Span) → ((y : Stmt) → NumStmt count y → SameM FlowIn (m y) (n (retag_stmt tags y)))
      → SameM V (run_function m is_main x body args used span) (run_function n is_main (retag_function tags x) (option_map (retag_stmt tags) body) args used span)
  function_same m n is_main x None j args a used span h = callee_same (callee_of x.name) args a span (callee_none x.name)
  function_same m n is_main x (Some y) j args a used span h = body_same (m y) (n (retag_stmt tags y)) is_main _ args a used span (h y j)

  abbrev NumFunction : Option t.Function → Type 0
  NumFunction None = Unit {0}
  NumFunction (Some x) = NumBody count x.body

  typed_same : (m n : Stmt → M Flow) (is_main : Bool) (x : Option t.Function) → NumFunction x → (type : List ℕ) (args : List Value) → AllIn args → (used : Bool) (span : Span) → ((y : Stmt) → NumStmt count y → SameM FlowIn (m y) (n (retag_stmt tags y)))
      → SameM V (typed_call m is_main x type args used span) (typed_call n is_main (option_map (retag_function tags) x) type args used span)
  typed_same m n is_main None j type args a used span h f g k s w = same_ends _ _
  typed_same m n is_main (Some x) j type args a used span h f g k s w =
      elim (bytes_eq x.ty type) as (λ same. left ((let r : M Value = if same then run_function m is_main x x.body args used span else stop (Trap reason.BadCall span) in r) f s) ≡ right ((let r : M Value = if same then run_function n is_main (retag_function tags x) (option_map (retag_stmt tags) x.body) args used span else stop (Trap reason.BadCall span) in r) g s))
      [ true ↦ function_same m n is_main x x.body j args a used span h f g k s w | false ↦ same_ends _ _ ]

  function_at : (funcs : List t.Function) (i : ℕ) → NumFuncs count funcs → NumFunction (slice_get funcs i)
  function_at [] i h = tt
  function_at (x ∷ funcs) zero h = h.0
  function_at (x ∷ funcs) (suc i) h = function_at funcs i h.1

  module _ (funcs_ok : NumFuncs count p.funcs) where
    value_same : (m n : Stmt → M Flow) (v : Value) → V v → (type : List ℕ) (args : List Value) → AllIn args → (used : Bool) (span : Span) → ((y : Stmt) → NumStmt count y → SameM FlowIn (m y) (n (retag_stmt tags y)))
        → SameM V (call_value p m v type args used span) (call_value q n v type args used span)
    value_same m n (value.Ptr (Function i)) j type args a used span h f g k s w =
        typed_same m n (is_number p.main i) (slice_get p.funcs i) (function_at p.funcs i funcs_ok) type args a used span h f g k s w
        ∙ ap (λ o. right (typed_call n (is_number p.main i) o type args used span g s)) (sym (again_at p.funcs i j))
    value_same m n (value.Ptr Null) j type args a used span h f g k s w = same_ends _ _
    value_same m n (value.Ptr (Object i o)) j type args a used span h f g k s w = same_ends _ _
    value_same m n (value.Int i) j type args a used span h f g k s w = same_ends _ _

    calls_same : (n : ℕ) → SameCalls (call_at p marks n) (call_at q marks' n)
    calls_same zero v j type args a used span f g h s w = same_ends _ _
    calls_same (suc n) v j type args a used span f g h s w =
        ticked V _ _ (value_same (mean_stmt p marks (call_at p marks n) n) (mean_stmt q marks' (call_at q marks' n) n) v j type args a used span (λ y i. stmt_same (call_at p marks n) (call_at q marks' n) (calls_same n) n y i)) f g h s w

    type_again : (o : Option t.Function) → type_of (option_map (retag_function tags) o) ≡ type_of o
    type_again None = refl
    type_again (Some x) = refl

    the_main : (o : Option t.Function) → is_the_main o ≡ true → (x : t.Function) × (o ≡ Some x)
    the_main None h = absurd (let f : false ≡ true = h in cc)
    the_main (Some x) h = (x, refl)

    main_same : (n : ℕ) (main : Option ℕ) → has_main p main ≡ true → SameM V (call_main p (call_at p marks n) main) (call_main q (call_at q marks' n) main)
    main_same n None h f g k s w = same_ends _ _
    main_same n (Some i) h f g k s w =
        let m = the_main (slice_get p.funcs i) h in
        let within = slice_get_within p.funcs i m.0 m.1 in
        calls_same n (value.Ptr (Function i)) within (type_of (slice_get p.funcs i)) [] tt true nowhere f g k s w
        ∙ ap (λ type. right (call_at q marks' n (value.Ptr (Function i)) type [] true nowhere g s)) (sym (ap type_of (again_at p.funcs i within) ∙ type_again (slice_get p.funcs i)))

    fixed_made : (fixed : List FixedObject) → NumFixed count fixed → (m n : M Value) → SameM V m n → SameM V (do make_fixed fixed; m) (do make_fixed fixed; n)
    fixed_made [] j m n h f g k s w = h f g k s w
    fixed_made (o ∷ fixed) j m n h f g k s w =
        acted_same (Any count) (take_room (if o.defined then rounded o.size else 0) s.world) _ _ (λ x i s w. acted_same (Any count) (change (with_fixed o) s.world) _ _ (λ y i s w. fixed_made fixed j.1 m n h f g k s w) s (tt, fixed_in count o s.world j.0 w)) s (room_step count (if o.defined then rounded o.size else 0) s.world w)

    runs_same : has_main p p.main ≡ true → NumFixed count p.fixed → (input : List ℕ) (ticks : ℕ) → left (run_of p marks input ticks) ≡ right (run_of q marks' input ticks)
    runs_same main fixed input ticks =
        fixed_made p.fixed fixed (call_main p (call_at p marks ticks) p.main) (call_main q (call_at q marks' ticks) p.main) (main_same ticks p.main main) exit exit (λ v i s w. same_ends _ _) (start input ticks) tt

and_parts : (a b : Bool) → (a && b) ≡ true → (a ≡ true) × (b ≡ true)
and_parts true b h = (refl, h)
and_parts false b h = absurd (let e : false ≡ true = h in cc)

-- what is told of the two runs is the same
pub told_same : (c : Program) → well_formed c ≡ true → (tok : Tokens) → AreLong tok → (is_argument : Bool) (entries : List t.Function) (marks' : ℕ → ℕ) (input : List ℕ) (steps : ℕ)
    → told tok (run_of c tok.mark input steps) ≡ told (plain tok.fallback) (run_of (retagged (tags_of tok is_argument) entries c) marks' input steps)
told_same c ok tok long is_argument entries marks' input steps =
    let a = and_parts _ (good_fixed c c.fixed) ok in
    let b = and_parts _ (good_functions c c.funcs) a.0 in
    let m = and_parts (has_main c c.main) (nat_lt (length c.fixed) (2 ^ 31)) b.0 in
    told_of c tok long is_argument entries marks' _ _ (runs_same c tok long is_argument entries marks' (funcs_num c c.funcs b.1) m.0 (fixed_num c c.fixed a.1) input steps)

pub tags_change_nothing : TagsChangeNothing
tags_change_nothing c ok tok long is_argument entries input steps count size output end log =
    let e = told_same c ok tok long is_argument entries (λ k. tok.fallback) input steps in (
      told_decides _ _ (plain tok.fallback) tok (ranges_of count size) output end log (sym e),
      told_decides _ _ tok (plain tok.fallback) (ranges_of count size) output end log e,
    )
