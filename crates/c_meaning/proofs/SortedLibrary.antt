-- The library functions give values of the sorts of their types.
use Rattle.std.proofs.Common.{◌≡◌, ℕ, zero, suc, Bool, true, false, List, [], ◌∷◌, ◌++◌, map, length, pos, ℤ, Option, Some, None, Result, Ok, refl}
use Rattle.std.proofs.Math.Path.{subst}
use Rattle.std.specs.Prelude.{slice_get, slice_index_or, if◌then◌else◌, nat_lt, take, ◌*◌}
use Rattle.tok_base.specs.declared.token.Span.{Span}
use Rattle.num_ops.specs.declared.kinds.IntKind.{IntKind}
use Rattle.num_ops.specs.declared.kinds.IntKind.TheVariants as k
use Rattle.c_core.specs.declared.values.Fault.{Fault}
use Rattle.c_core.specs.declared.values.End.TheVariants.{OutputFull}
use Rattle.c_core.specs.Blocks.{copy, fill}
use Rattle.c_core.specs.declared.values.Pointer.{Pointer}
use Rattle.c_core.specs.declared.values.Pointer.TheVariants.{Null, Object, Function}
use Rattle.c_core.specs.declared.values.Value.{Value}
use Rattle.c_core.specs.declared.values.Value.TheVariants as value
use Rattle.c_core.specs.declared.values.Scalar.{Scalar}
use Rattle.c_core.specs.declared.values.Scalar.TheVariants as scalar
use Rattle.c_core.specs.declared.tree.LibMark.{LibMark}
use Rattle.c_core.specs.declared.tree.LibMark.TheVariants as mark
use Rattle.c_core.specs.Values.{kind_of}
use Rattle.c_core.specs.Library.{LibraryFunction, library_functions, library_types, entry_types, marked_types}
use Rattle.c_core.specs.Sorts.{Void, result_sort}
use Rattle.c_core.specs.Signatures.{signature}
use Rattle.c_meaning.specs.Run.{Label}
use Rattle.c_meaning.specs.World.{World, M, ◌>>=◌, ◌>>◌, Gives, Stops, act, judged, request, release}
use Rattle.c_meaning.specs.Rules.{int, natural_in, pointer_in, no_value, if_ok}
use Rattle.c_meaning.specs.Storage.{with_reason, compared_from, text_length, get_char, next_byte, put_byte, byte_in, copy_bytes, set_bytes, compare_bytes, string_length, allocated, resized, zeroed}
use Rattle.c_meaning.specs.Meaning.{allocate, block_or_null, if_granted, reallocate, free, library, library_call, label_of}
use Rattle.c_meaning.specs.Sorted.{Has, GoesOnWith}
use Rattle.c_meaning.proofs.Sorted.{IsOf, GivesIs, steady, any_value, acted_holds, judged_is, blocks_is, either_gives, reasoned, if_ok_is}

abbrev GivesPointer : M Value → Type 0
GivesPointer = GoesOnWith (IsOf scalar.Ptr)

block_sort : (block : Option ℕ) → kind_of (block_or_null block) ≡ scalar.Ptr
block_sort None = refl
block_sort (Some n) = refl

allocated_sort : (label : Label) (size : ℕ) → GivesPointer (allocate label size)
allocated_sort label size f g h s = steady (request label size) _ _ (λ block s. h (block_or_null block) (block_sort block) s) s

granted_sort : (block : Option ℕ) (p : ℕ → M (Unit {0})) → GivesPointer (if_granted block p)
granted_sort None p f g h s = h (value.Ptr Null) refl s
granted_sort (Some n) p f g h s = steady (p n) _ _ (λ x s. h (value.Ptr (Object n 0)) refl s) s

then_granted : (label : Label) (size : ℕ) (p : ℕ → M (Unit {0})) → GivesPointer (do block ← request label size; if_granted block p)
then_granted label size p f g h s = steady (request label size) _ _ (λ block s. granted_sort block p f g h s) s

after_any : {A : Type 0} (m : M A) (p : A → M Value) → ((a : A) → GivesPointer (p a)) → GivesPointer (do a ← m; p a)
after_any m p k f g h s = steady m _ _ (λ a s. k a f g h s) s

realloc_sort : (span : Span) (label : Label) (p : Pointer) (size : ℕ) → GivesPointer (reallocate span label p size)
realloc_sort span label Null size = allocated_sort label size
realloc_sort span label (Object n i) size = after_any (act (λ w. judged span (allocated w.blocks (Object n i)) w)) _ (λ old. then_granted label size (λ n. do
  act (resized span n old size)
  release old))
realloc_sort span label (Function n) size = after_any (act (λ w. judged span (allocated w.blocks (Function n)) w)) _ (λ old. then_granted label size (λ n. do
  act (resized span n old size)
  release old))

byte_sort : (input : List ℕ) (w : World) → GivesIs (IsOf (scalar.Int k.Int)) (next_byte input w)
byte_sort [] w = refl
byte_sort (b ∷ input) w = refl

abbrev arg : List Value → ℕ → Value
arg args n = slice_index_or args n no_value

-- what a library function of this type gives, where the arguments are of the kinds that it takes
abbrev pub IsTyped : LibraryFunction → List ℕ → Type 0
IsTyped f type =
    (span : Span) (label : Label) (args : List Value) → map kind_of args ≡ (signature type).takes
    → GoesOnWith (Has (result_sort (signature type).gives)) (library f span label (arg args 0) (arg args 1) (arg args 2))

first_kind : (args : List Value) (kind : Scalar) (kinds : List Scalar) → map kind_of args ≡ kind ∷ kinds → kind_of (arg args 0) ≡ kind
first_kind [] kind kinds h = absurd (let e : [] ≡ kind ∷ kinds = h in cc)
first_kind (v ∷ args) kind kinds h = let e : kind_of v ∷ map kind_of args ≡ kind ∷ kinds = h in cc

abbrev AreTyped : List LibraryFunction → List (List ℕ) → Type 0
AreTyped functions [] = Unit {0}
AreTyped [] (type ∷ types) = ⊥
AreTyped (f ∷ functions) (type ∷ types) = IsTyped f type × AreTyped functions types

-- a call of the n-th function
typed_at : (functions : List LibraryFunction) (types : List (List ℕ)) → AreTyped functions types → (n : ℕ) (type : List ℕ) → slice_get types n ≡ Some type
    → (span : Span) (m : LibMark) (args : List Value) → map kind_of args ≡ (signature type).takes
    → GoesOnWith (Has (result_sort (signature type).gives)) (library_call (slice_get functions n) span m args)
typed_at functions [] h n type e span m args a = absurd (let no : None ≡ Some type = e in cc)
typed_at [] (t ∷ types) h n type e span m args a = absurd h
typed_at (f ∷ functions) (t ∷ types) h zero type e span m args a =
    let same : t ≡ type = (let some : Some t ≡ Some type = e in cc) in
    subst (λ x. map kind_of args ≡ (signature x).takes → GoesOnWith (Has (result_sort (signature x).gives)) (library_call (Some f) span m args)) same (h.0 span (label_of m args) args) a
typed_at (f ∷ functions) (t ∷ types) h (suc n) type e span m args a = typed_at functions types h.1 n type e span m args a

-- ---- each function

nothing_given : (m : M Value) → GoesOnWith (Has Void) m
nothing_given m = any_value m

copied_sort : (span : Span) (may_overlap : Bool) (to from count : Value) → kind_of to ≡ scalar.Ptr → GivesPointer (act (copy_bytes span may_overlap to from count))
copied_sort span may_overlap to from count e f g h s =
    acted_holds (IsOf scalar.Ptr) (copy_bytes span may_overlap to from count s.world) f g h (blocks_is (IsOf scalar.Ptr) to s.world span (with_reason (copy s.world.blocks (pointer_in to) (pointer_in from) (natural_in count) may_overlap)) e) s

set_sort : (span : Span) (to byte count : Value) → kind_of to ≡ scalar.Ptr → GivesPointer (act (set_bytes span to byte count))
set_sort span to byte count e f g h s =
    acted_holds (IsOf scalar.Ptr) (set_bytes span to byte count s.world) f g h (blocks_is (IsOf scalar.Ptr) to s.world span (with_reason (fill s.world.blocks (pointer_in to) (byte_in byte) (natural_in count))) e) s

get_char_sort : GoesOnWith (IsOf (scalar.Int k.Int)) (act get_char)
get_char_sort f g h s = acted_holds (IsOf (scalar.Int k.Int)) (get_char s.world) f g h (byte_sort s.world.input s.world) s

put_char_sort : (b : ℕ) → GoesOnWith (IsOf (scalar.Int k.Int)) (act (put_byte b))
put_char_sort b f g h s = acted_holds (IsOf (scalar.Int k.Int)) (put_byte b s.world) f g h (either_gives (IsOf (scalar.Int k.Int)) (nat_lt (length s.world.output) 16777216) (Gives (int k.Int (pos b)) (record (s.world) { output = s.world.output ++ b ∷ [] })) (Stops OutputFull) refl tt) s

-- a number of a kind, where there is no fault
numbered_is : {A : Type 0} (kind : IntKind) (span : Span) (r : Result A Fault) (number : A → ℤ) (w : World)
    → GivesIs (IsOf (scalar.Int kind)) (judged span (with_reason (if_ok r (λ a. Ok (int kind (number a))))) w)
numbered_is kind span r number w =
    judged_is (IsOf (scalar.Int kind)) span (with_reason (if_ok r (λ a. Ok (int kind (number a))))) w
    (reasoned (IsOf (scalar.Int kind)) (if_ok r (λ a. Ok (int kind (number a)))) (if_ok_is (IsOf (scalar.Int kind)) r (λ a. Ok (int kind (number a))) (λ a. refl)))

compared_sort : (span : Span) (p q count : Value) → GoesOnWith (IsOf (scalar.Int k.Int)) (act (compare_bytes span p q count))
compared_sort span p q count f g h s =
    acted_holds (IsOf (scalar.Int k.Int)) (compare_bytes span p q count s.world) f g h (numbered_is k.Int span (compared_from s.world.blocks (pointer_in p) (pointer_in q) (natural_in count) 0) (λ z. z) s.world) s

length_sort : (span : Span) (p : Value) → GoesOnWith (IsOf (scalar.Int k.ULong)) (act (string_length span p))
length_sort span p f g h s =
    acted_holds (IsOf (scalar.Int k.ULong)) (string_length span p s.world) f g h (numbered_is k.ULong span (text_length s.world.blocks (pointer_in p)) pos s.world) s

plain_typed : AreTyped library_functions library_types
plain_typed = (
  λ span label args e. allocated_sort label (natural_in (arg args 0)),
  (
    λ span label args e. then_granted label (natural_in (arg args 0) * natural_in (arg args 1)) (λ n. act (zeroed span n (natural_in (arg args 0) * natural_in (arg args 1)))),
    (
      λ span label args e. realloc_sort span label (pointer_in (arg args 0)) (natural_in (arg args 1)),
      (
        λ span label args e. nothing_given (free span (pointer_in (arg args 0))),
        (
          λ span label args e. get_char_sort,
          (
            λ span label args e. put_char_sort (byte_in (arg args 0)),
            (
              λ span label args e. copied_sort span false (arg args 0) (arg args 1) (arg args 2) (first_kind args _ _ e),
              (
                λ span label args e. copied_sort span true (arg args 0) (arg args 1) (arg args 2) (first_kind args _ _ e),
                (
                  λ span label args e. set_sort span (arg args 0) (arg args 1) (arg args 2) (first_kind args _ _ e),
                  (
                    λ span label args e. compared_sort span (arg args 0) (arg args 1) (arg args 2),
                    (
                      λ span label args e. length_sort span (arg args 0),
                      (
                        λ span label args e f g h s. refl,
                        (λ span label args e f g h s. refl, tt),
                      ),
                    ),
                  ),
                ),
              ),
            ),
          ),
        ),
      ),
    ),
  ),
)

entries_typed : AreTyped library_functions entry_types
entries_typed = (
  λ span label args e. allocated_sort label (natural_in (arg args 0)),
  (
    λ span label args e. then_granted label (natural_in (arg args 0) * natural_in (arg args 1)) (λ n. act (zeroed span n (natural_in (arg args 0) * natural_in (arg args 1)))),
    (λ span label args e. realloc_sort span label (pointer_in (arg args 0)) (natural_in (arg args 1)), tt),
  ),
)

sites_typed : AreTyped library_functions (take 3 library_types)
sites_typed = (plain_typed.0, (plain_typed.1.0, (plain_typed.1.1.0, tt)))

fixed_typed : (b : Bool) → AreTyped library_functions (if b then take 3 library_types else [])
fixed_typed true = sites_typed
fixed_typed false = tt

marked_typed : (m : LibMark) → AreTyped library_functions (marked_types m)
marked_typed (mark.Site n) = sites_typed
marked_typed mark.Untagged = plain_typed
marked_typed mark.Given = entries_typed
marked_typed (mark.Fixed token) = fixed_typed (nat_lt token 65536)

-- a library function that is called in some way for a token gives what its type says
pub library_sorted : (m : LibMark) (n : ℕ) (type : List ℕ) → slice_get (marked_types m) n ≡ Some type
    → (span : Span) (args : List Value) → map kind_of args ≡ (signature type).takes
    → GoesOnWith (Has (result_sort (signature type).gives)) (library_call (slice_get library_functions n) span m args)
library_sorted m n type e span args a = typed_at library_functions (marked_types m) (marked_typed m) n type e span m args a
