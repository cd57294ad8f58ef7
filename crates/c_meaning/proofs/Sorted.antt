-- Values are of the sorts of their expressions.
use Rattle.std.proofs.Common.{◌≡◌, ◌∙◌, ℕ, zero, suc, Bool, true, false, List, [], ◌∷◌, map, Result, Ok, Err, replicate, unsigned_abs, refl, sym, ap, pos, ℤ}
use Rattle.std.specs.Prelude.{◌&&◌, ◌-ℤ◌, int_le, int_rem, int_div, ◌==◌, slice_get, if◌then◌else◌}
use Rattle.std.proofs.lemmas.Bool.Decides.{Decides-eqb}
use Rattle.tok_base.specs.declared.token.Span.{Span}
use Rattle.num_ops.specs.declared.kinds.IntKind.{IntKind}
use Rattle.num_ops.specs.declared.kinds.IntKind.TheVariants as k
use Rattle.num_ops.specs.declared.arithmetic.Undefined.{Undefined}
use Rattle.num_ops.specs.declared.shifts.Cmp.{Cmp}
use Rattle.num_ops.specs.declared.shifts.Cmp.TheVariants as cmp
use Rattle.num_ops.specs.Conversions.{is_zero}
use Rattle.num_ops.specs.Arithmetic.{compared}
use Rattle.c_core.specs.declared.values.Pointer.{Pointer}
use Rattle.c_core.specs.declared.values.Pointer.TheVariants.{Null, Object, Function}
use Rattle.c_core.specs.declared.values.Value.{Value}
use Rattle.c_core.specs.declared.values.Value.TheVariants as value
use Rattle.c_core.specs.declared.values.Cell.{Cell}
use Rattle.c_core.specs.declared.values.Cell.TheVariants.{Undefined as UndefinedCell, Byte, Part}
use Rattle.c_core.specs.declared.values.Scalar.{Scalar}
use Rattle.c_core.specs.declared.values.Scalar.TheVariants as scalar
use Rattle.c_core.specs.declared.values.Fault.{Fault}
use Rattle.c_core.specs.declared.values.Fault.TheVariants.{TornPointer, PointerBytes, Indeterminate}
use Rattle.tok_base.specs.declared.reason.Reason.{Reason}
use Rattle.tok_base.specs.declared.reason.Reason.TheVariants as reason
use Rattle.c_core.specs.Values.{kind_of, value_in, scalar_in, pointer_in as pointer_in_cells, has_undefined, has_part, same_cells, parts, int_from, number_of, byte_of, scalar_size}
use Rattle.c_core.specs.Blocks.{Blocks, Site, load, reached, if_reached, cells_at}
use Rattle.c_core.specs.Sorts.{Sort, Gives, Void, IllSorted, given, kind_number, same_kind, same_scalar, gives, is_promoted, either_of, agree}
use Rattle.c_meaning.specs.Run.{Run}
use Rattle.c_meaning.specs.World.{World, State, M, Acted, Gives as GivesTo, Stops, acted, judged}
use Rattle.c_meaning.specs.Rules.{int, truth_value, number_value, number_in, pointer_in, truth, is_true, if_ok, if_valid, is_dangling, ptr_add, ptr_add_to, at_offset, stepped, size_in, flipped, ptr_diff, ptr_diff_of, elements, compare_ptr, ptr_compared, ordered, as_kind}
use Rattle.c_meaning.specs.Storage.{with_reason, with_blocks}
use Rattle.c_meaning.specs.Sorted.{Has, GoesOnWith}

-- ---- kinds

kind_at : ℕ → IntKind
kind_at zero = k.Bool
kind_at (suc zero) = k.Char
kind_at (suc (suc zero)) = k.SChar
kind_at (suc (suc (suc zero))) = k.UChar
kind_at (suc (suc (suc (suc zero)))) = k.Short
kind_at (suc (suc (suc (suc (suc zero))))) = k.UShort
kind_at (suc (suc (suc (suc (suc (suc zero)))))) = k.Int
kind_at (suc (suc (suc (suc (suc (suc (suc zero))))))) = k.UInt
kind_at (suc (suc (suc (suc (suc (suc (suc (suc zero)))))))) = k.Long
kind_at (suc (suc (suc (suc (suc (suc (suc (suc (suc zero))))))))) = k.ULong
kind_at (suc (suc (suc (suc (suc (suc (suc (suc (suc (suc zero)))))))))) = k.LongLong
kind_at n = k.ULongLong

number_of_kind : (a : IntKind) → kind_at (kind_number a) ≡ a
unfolding kind_at
number_of_kind k.Bool = refl
number_of_kind k.Char = refl
number_of_kind k.SChar = refl
number_of_kind k.UChar = refl
number_of_kind k.Short = refl
number_of_kind k.UShort = refl
number_of_kind k.Int = refl
number_of_kind k.UInt = refl
number_of_kind k.Long = refl
number_of_kind k.ULong = refl
number_of_kind k.LongLong = refl
number_of_kind k.ULongLong = refl

kinds_are_one : (a b : IntKind) → same_kind a b ≡ true → a ≡ b
kinds_are_one a b h =
    let e : kind_number a ≡ kind_number b = (Decides-eqb (kind_number a) (kind_number b)).0 h in
    sym (number_of_kind a) ∙ ap kind_at e ∙ number_of_kind b

pub scalars_are_one : (a b : Scalar) → same_scalar a b ≡ true → a ≡ b
scalars_are_one (scalar.Int a) (scalar.Int b) h = ap scalar.Int (kinds_are_one a b h)
scalars_are_one scalar.Ptr scalar.Ptr h = refl
scalars_are_one (scalar.Int a) scalar.Ptr h = absurd (cc)
scalars_are_one scalar.Ptr (scalar.Int b) h = absurd (cc)

-- ---- results of rules

abbrev pub OkIs : {A E : Type 0} → (A → Type 0) → Result A E → Type 0
OkIs Such (Ok a) = Such a
OkIs Such (Err e) = Unit {0}

abbrev pub IsOf : Scalar → Value → Type 0
IsOf kind v = kind_of v ≡ kind

either_ok : {A E : Type 0} (Such : A → Type 0) (b : Bool) (r q : Result A E) → OkIs Such r → OkIs Such q → OkIs Such (if b then r else q)
either_ok Such true r q h i = h
either_ok Such false r q h i = i

pub reasoned : {A : Type 0} (Such : A → Type 0) (r : Result A Fault) → OkIs Such r → OkIs Such (with_reason r)
reasoned Such (Ok a) h = h
reasoned Such (Err e) h = tt

pub ok_if : {A E : Type 0} (Such : A → Type 0) (b : Bool) (a : A) (e : E) → Such a → OkIs Such (if b then Ok a else Err e)
ok_if Such b a e h = either_ok Such b (Ok a) (Err e) h tt

err_if : {A E : Type 0} (Such : A → Type 0) (b : Bool) (e : E) (r : Result A E) → OkIs Such r → OkIs Such (if b then Err e else r)
err_if Such b e r h = either_ok Such b (Err e) r tt h

pub if_ok_is : {A B E : Type 0} (Such : B → Type 0) (r : Result A E) (f : A → Result B E) → ((a : A) → OkIs Such (f a)) → OkIs Such (if_ok r f)
if_ok_is Such (Ok a) f h = h a
if_ok_is Such (Err e) f h = tt

-- loads

no_bytes : (cells : List Cell) → OkIs (IsOf scalar.Ptr) (if same_cells cells (replicate 8 (Byte 0)) then Ok (value.Ptr Null) else Err TornPointer)
no_bytes cells = ok_if (IsOf scalar.Ptr) (same_cells cells (replicate 8 (Byte 0))) (value.Ptr Null) TornPointer refl

pointer_cells_sort : (cells : List Cell) → OkIs (IsOf scalar.Ptr) (pointer_in_cells cells)
pointer_cells_sort [] = no_bytes []
pointer_cells_sort (UndefinedCell ∷ cells) = no_bytes (UndefinedCell ∷ cells)
pointer_cells_sort (Byte b ∷ cells) = no_bytes (Byte b ∷ cells)
pointer_cells_sort (Part p i ∷ cells) = ok_if (IsOf scalar.Ptr) (same_cells (Part p i ∷ cells) (parts p)) (value.Ptr p) TornPointer refl

int_cells : IntKind → List Cell → Value
int_cells kind cells = value.Int (record { kind = kind; value = int_from kind (number_of (map byte_of cells)) })

cells_sort : (kind : Scalar) (cells : List Cell) → OkIs (IsOf kind) (scalar_in kind cells)
unfolding int_cells
cells_sort (scalar.Int kind) cells = err_if (IsOf (scalar.Int kind)) (has_part cells) PointerBytes (Ok (int_cells kind cells)) refl
cells_sort scalar.Ptr cells = pointer_cells_sort cells

value_sort : (kind : Scalar) (cells : List Cell) → OkIs (IsOf kind) (value_in kind cells)
value_sort kind cells = err_if (IsOf kind) (has_undefined cells) Indeterminate (scalar_in kind cells) (cells_sort kind cells)

reached_sort : (kind : Scalar) (r : Result Site Fault) (f : Site → Result Value Fault) → ((x : Site) → OkIs (IsOf kind) (f x)) → OkIs (IsOf kind) (if_reached r f)
reached_sort kind (Ok x) f h = h x
reached_sort kind (Err e) f h = tt

pub load_sort : (bs : Blocks) (p : Pointer) (kind : Scalar) → OkIs (IsOf kind) (with_reason (load bs p kind))
load_sort bs p kind = reasoned (IsOf kind) (load bs p kind) (reached_sort kind (reached bs p (scalar_size kind) (scalar_size kind) false) (λ site. value_in kind (cells_at site (scalar_size kind))) (λ site. value_sort kind (cells_at site (scalar_size kind))))

pub as_kind_sort : (kind : Scalar) (v : Value) → kind_of (as_kind kind v) ≡ kind
as_kind_sort (scalar.Int kind) v = refl
as_kind_sort scalar.Ptr v = refl

-- the operators

pub number_sort : (kind : IntKind) (r : Result ℤ Undefined) → OkIs (IsOf (scalar.Int kind)) (number_value kind r)
number_sort kind (Ok z) = refl
number_sort kind (Err e) = tt

pub truth_sort : (bs : Blocks) (v : Value) (negated : Bool) → OkIs (IsOf (scalar.Int k.Int)) (truth bs v negated)
truth_sort bs v negated = if_ok_is (IsOf (scalar.Int k.Int)) (is_true bs v) (λ b. Ok (truth_value (flipped negated b))) (λ b. refl)

valid_sort : (kind : Scalar) (bs : Blocks) (p : Pointer) (r : Result Value Reason) → OkIs (IsOf kind) r → OkIs (IsOf kind) (if_valid bs p r)
valid_sort kind bs p r h = err_if (IsOf kind) (is_dangling bs p) reason.Dead r h

at_offset_sort : (bs : Blocks) (n : ℕ) (z : ℤ) → OkIs (IsOf scalar.Ptr) (at_offset bs n z)
at_offset_sort bs n z =
    ok_if (IsOf scalar.Ptr) (int_le (pos 0) z && int_le z (pos (size_in (slice_get bs n)))) (value.Ptr (Object n (unsigned_abs z))) reason.PointerRange refl

add_to_sort : (bs : Blocks) (p : Pointer) (z : ℤ) (size : ℕ) (minus : Bool) → OkIs (IsOf scalar.Ptr) (ptr_add_to bs p z size minus)
add_to_sort bs (Object n i) z size minus = at_offset_sort bs n (stepped i z size minus)
add_to_sort bs Null z size minus = tt
add_to_sort bs (Function n) z size minus = tt

pub ptr_add_sort : (bs : Blocks) (p i : Value) (size : ℕ) (minus : Bool) → OkIs (IsOf scalar.Ptr) (ptr_add bs p i size minus)
ptr_add_sort bs p i size minus = valid_sort scalar.Ptr bs (pointer_in p) (ptr_add_to bs (pointer_in p) (number_in i).value size minus) (add_to_sort bs (pointer_in p) (number_in i).value size minus)

elements_sort : (z : ℤ) (size : ℕ) → OkIs (IsOf (scalar.Int k.Long)) (elements z size)
elements_sort z size = ok_if (IsOf (scalar.Int k.Long)) (is_zero (int_rem z (pos size))) (int k.Long (int_div z (pos size))) reason.PointerDiff refl

diff_of_sort : (p q : Pointer) (size : ℕ) → OkIs (IsOf (scalar.Int k.Long)) (ptr_diff_of p q size)
diff_of_sort (Object n i) (Object m j) size =
    either_ok (IsOf (scalar.Int k.Long)) (n == m) (elements (pos i -ℤ pos j) size) (Err reason.PointerDiff) (elements_sort (pos i -ℤ pos j) size) tt
diff_of_sort (Object n i) Null size = tt
diff_of_sort (Object n i) (Function m) size = tt
diff_of_sort Null q size = tt
diff_of_sort (Function n) q size = tt

pub ptr_diff_sort : (bs : Blocks) (p q : Value) (size : ℕ) → OkIs (IsOf (scalar.Int k.Long)) (ptr_diff bs p q size)
ptr_diff_sort bs p q size =
    valid_sort (scalar.Int k.Long) bs (pointer_in p) (if_valid bs (pointer_in q) (ptr_diff_of (pointer_in p) (pointer_in q) size)) (valid_sort (scalar.Int k.Long) bs (pointer_in q) (ptr_diff_of (pointer_in p) (pointer_in q) size) (diff_of_sort (pointer_in p) (pointer_in q) size))

ordered_sort : (op : Cmp) (p q : Pointer) → OkIs (IsOf (scalar.Int k.Int)) (ordered op p q)
ordered_sort op (Object n i) (Object m j) = ok_if (IsOf (scalar.Int k.Int)) (n == m) (truth_value (compared op (pos i) (pos j))) reason.PointerOrder refl
ordered_sort op (Object n i) Null = tt
ordered_sort op (Object n i) (Function m) = tt
ordered_sort op Null q = tt
ordered_sort op (Function n) q = tt

compared_sort : (op : Cmp) (p q : Pointer) → OkIs (IsOf (scalar.Int k.Int)) (ptr_compared op p q)
compared_sort cmp.Eq p q = refl
compared_sort cmp.Ne p q = refl
compared_sort cmp.Lt p q = ordered_sort cmp.Lt p q
compared_sort cmp.Le p q = ordered_sort cmp.Le p q
compared_sort cmp.Gt p q = ordered_sort cmp.Gt p q
compared_sort cmp.Ge p q = ordered_sort cmp.Ge p q

pub compare_ptr_sort : (op : Cmp) (bs : Blocks) (p q : Value) → OkIs (IsOf (scalar.Int k.Int)) (compare_ptr op bs p q)
compare_ptr_sort op bs p q =
    valid_sort (scalar.Int k.Int) bs (pointer_in p) (if_valid bs (pointer_in q) (ptr_compared op (pointer_in p) (pointer_in q))) (valid_sort (scalar.Int k.Int) bs (pointer_in q) (ptr_compared op (pointer_in p) (pointer_in q)) (compared_sort op (pointer_in p) (pointer_in q)))

-- ---- sorts

pub and_true : (a b : Bool) → (a && b) ≡ true → (a ≡ true) × (b ≡ true)
and_true true b h = (refl, h)
and_true false b h = absurd (let e : false ≡ true = h in cc)

pub has_given : (b : Bool) (sort : Sort) (v : Value) → Has sort v → Has (given b sort) v
has_given true sort v h = h
has_given false sort v h = tt

left_kind : (x : Value) (kind : IntKind) → kind_of x ≡ scalar.Int kind → (number_in x).kind ≡ kind
left_kind (value.Int n) kind h = let e : scalar.Int n.kind ≡ scalar.Int kind = h in cc
left_kind (value.Ptr p) kind h = absurd (let e : scalar.Ptr ≡ scalar.Int kind = h in cc)

-- a result that has the kind of the left operand
pub as_left : (sort : Sort) (b : Bool) (x v : Value) → Has sort x → kind_of v ≡ scalar.Int (number_in x).kind → Has (given (is_promoted sort && b) sort) v
as_left (Gives (scalar.Int kind)) b x v h i = has_given _ (Gives (scalar.Int kind)) v (i ∙ ap scalar.Int (left_kind x kind h))
as_left (Gives scalar.Ptr) b x v h i = tt
as_left Void b x v h i = tt
as_left IllSorted b x v h i = tt

left_if : (t : Bool) (a : Scalar) (v : Value) → kind_of v ≡ a → Has (if t then Gives a else Void) v
left_if true a v h = h
left_if false a v h = tt

right_if : (t : Bool) (a b : Scalar) (v : Value) → same_scalar a b ≡ t → kind_of v ≡ b → Has (if t then Gives a else Void) v
right_if true a b v e h = h ∙ sym (scalars_are_one a b e)
right_if false a b v e h = tt

pub of_left : (a b : Sort) (v : Value) → Has a v → Has (either_of a b) v
of_left IllSorted b v h = tt
of_left Void IllSorted v h = tt
of_left Void Void v h = tt
of_left Void (Gives b) v h = tt
of_left (Gives a) IllSorted v h = tt
of_left (Gives a) Void v h = tt
of_left (Gives a) (Gives b) v h = left_if (same_scalar a b) a v h

pub of_right : (a b : Sort) (v : Value) → Has b v → Has (either_of a b) v
of_right IllSorted b v h = tt
of_right Void IllSorted v h = tt
of_right Void Void v h = tt
of_right Void (Gives b) v h = tt
of_right (Gives a) IllSorted v h = tt
of_right (Gives a) Void v h = tt
of_right (Gives a) (Gives b) v h = right_if (same_scalar a b) a b v refl h

pub if_value : (kind : Scalar) (b : Bool) (v w : Value) → kind_of v ≡ kind → kind_of w ≡ kind → kind_of (if b then v else w) ≡ kind
if_value kind true v w h i = h
if_value kind false v w h i = i

-- ---- arguments

abbrev pub HasAll : List Sort → List Value → Type 0
HasAll [] [] = Unit {0}
HasAll (a ∷ sorts) (v ∷ args) = Has a v × HasAll sorts args
HasAll sorts args = ⊥

pub gives_kind : (kind : Scalar) (a : Sort) (v : Value) → gives kind a ≡ true → Has a v → kind_of v ≡ kind
gives_kind kind (Gives r) v e h = h ∙ sym (scalars_are_one kind r e)
gives_kind kind Void v e h = absurd (let e : false ≡ true = e in cc)
gives_kind kind IllSorted v e h = absurd (let e : false ≡ true = e in cc)

-- arguments that agree with what a function takes have its kinds
pub agreed : (takes : List Scalar) (sorts : List Sort) (args : List Value) → agree takes sorts ≡ true → HasAll sorts args → map kind_of args ≡ takes
agreed [] [] [] e h = refl
agreed [] [] (v ∷ args) e h = absurd h
agreed [] (a ∷ sorts) args e h = absurd (let e : false ≡ true = e in cc)
agreed (s ∷ takes) [] args e h = absurd (let e : false ≡ true = e in cc)
agreed (s ∷ takes) (a ∷ sorts) [] e h = absurd h
agreed (s ∷ takes) (a ∷ sorts) (v ∷ args) e h =
    let both : (gives s a ≡ true) × (agree takes sorts ≡ true) = and_true (gives s a) (agree takes sorts) e in
    ap (λ x. x ∷ map kind_of args) (gives_kind s a v both.0 h.0) ∙ ap (λ xs. s ∷ xs) (agreed takes sorts args both.1 h.1)

-- ---- meanings

-- what follows may be replaced by what is the same everywhere
pub steady : {A : Type 0} (m : M A) (f g : A → State → Run) → ((a : A) (s : State) → f a s ≡ g a s) → (s : State) → m f s ≡ m g s
steady m f g h s = ap (λ k. m k s) (λ i a s. h a s i)

-- a sort that holds of every value
pub any_value : (m : M Value) → GoesOnWith (λ v. Unit {0}) m
any_value m f g h s = steady m f g (λ a s. h a tt s) s

pub when : (b : Bool) (sort : Sort) (m : M Value) → (b ≡ true → GoesOnWith (Has sort) m) → GoesOnWith (Has (given b sort)) m
when true sort m k = k refl
when false sort m k = any_value m

abbrev pub GivesIs : {A : Type 0} → (A → Type 0) → Acted A → Type 0
GivesIs Such (GivesTo a w) = Such a
GivesIs Such (Stops e) = Unit {0}

pub acted_holds : {A : Type 0} (Such : A → Type 0) (o : Acted A) (f g : A → State → Run) → ((a : A) → Such a → (s : State) → f a s ≡ g a s) → GivesIs Such o → (s : State) → acted o f s ≡ acted o g s
acted_holds Such (GivesTo a w) f g h i s = h a i (record s { world = w })
acted_holds Such (Stops e) f g h i s = refl

pub judged_is : {A : Type 0} (Such : A → Type 0) (span : Span) (r : Result A Reason) (w : World) → OkIs Such r → GivesIs Such (judged span r w)
judged_is Such span (Ok a) w h = h
judged_is Such span (Err e) w h = tt

pub blocks_is : {A : Type 0} (Such : A → Type 0) (a : A) (w : World) (span : Span) (r : Result Blocks Reason) → Such a → GivesIs Such (with_blocks a w span r)
blocks_is Such a w span (Ok bs) h = h
blocks_is Such a w span (Err e) h = tt

pub either_gives : {A : Type 0} (Such : A → Type 0) (b : Bool) (o q : Acted A) → GivesIs Such o → GivesIs Such q → GivesIs Such (if b then o else q)
either_gives Such true o q h i = h
either_gives Such false o q h i = i
