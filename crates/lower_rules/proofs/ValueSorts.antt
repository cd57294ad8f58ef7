-- What each expression becomes gives what it says.
use Rattle.std.proofs.Common.{◌≡◌, ℕ, pos, Bool, true, false, List, length, map, Option, Some, None, refl, sym, subst}
use Rattle.std.specs.Prelude.{if◌then◌else◌, nat_lt, is_some, unwrap_or, slice_get, option_and_then}
use Rattle.std.specs.Option.{option_map}
use Rattle.tok_base.specs.declared.token.Span.{Span}
use Rattle.num_ops.specs.declared.kinds.IntKind.TheVariants as k
use Rattle.name_places.specs.Placed.{place_of}
use Rattle.c_core.specs.declared.values.Scalar.{Scalar}
use Rattle.c_core.specs.declared.values.Scalar.TheVariants as scalar
use Rattle.c_core.specs.declared.tree.LibMark.{LibMark}
use Rattle.c_core.specs.declared.tree.Place.TheVariants as place_in
use Rattle.c_core.specs.Library.{Callee, library_names, marked_types}
use Rattle.c_core.specs.Signatures.{Signature, signature}
use Rattle.c_core.specs.Sorts.{Void, result_sort, used_sort, call_sort}
use Rattle.c_core.specs.WellFormed.{has, is_size, sorts_of}
use Rattle.c_core.specs.Tree as c
use Rattle.c_tree.specs.declared.operator.At.{At}
use Rattle.c_tree.specs.Tree as t
use Rattle.c_tree.specs.Marked as m
use Rattle.c_types.specs.CTypes.{CType, Void as VoidType, Int, Enum, Pointer, Array, Flexible, Function, Record, Named, Qualified}
use Rattle.c_types.specs.Layout.{size}
use Rattle.c_types.specs.Plain.{plain}
use Rattle.c_types.specs.Spelling.{Names}
use Rattle.c_rules.specs.Walk.{at_of_expr}
use Rattle.c_rules.specs.declared.known.Binding.{Binding}
use Rattle.c_rules.specs.declared.known.Binding.TheVariants as to
use Rattle.c_checked.specs.Told.{binding_of, constant_of}
use Rattle.signature_laws.specs.Named.{AreNamed}
use Rattle.signature_laws.specs.Told.{scalar_of, signature_told}
use Rattle.signature_laws.proofs.Read.{every_signature_is_read}
use Rattle.lower_rules.specs.Shapes as shape
use Rattle.lower_rules.specs.Shapes.{type_at, pointed_to, plain_pointed, is_scalar, names_of, spelled}
use Rattle.lower_rules.specs.Lowered as low
use Rattle.lower_rules.specs.Lowered.{Lowered}
use Rattle.lower_rules.specs.Numbered as number
use Rattle.lower_rules.specs.Numbered.{Numbered, Scope}
use Rattle.lower_rules.specs.Values as word
use Rattle.lower_rules.specs.Values.{type_of_expr, step_of}
use Rattle.lower_rules.specs.Expressions.{value, place, values}
use Rattle.lower_rules.specs.Sorts.{GivenAs, Good, Has}
use Rattle.lower_rules.proofs.WordSorts as is

-- ---- types

pub pointed_named : (names : Names) (t : CType) → AreNamed names t → AreNamed names (plain_pointed (plain t))
pointed_named names (Named n t) h = pointed_named names t h
pointed_named names (Qualified q t) h = pointed_named names t h
pointed_named names (Pointer t) h = h
pointed_named names (Array t n) h = h
pointed_named names (Flexible t) h = h
pointed_named names (Function r ps) h = h
pointed_named names VoidType h = tt
pointed_named names (Int kind) h = tt
pointed_named names (Enum e) h = tt
pointed_named names (Record r) h = tt

result_given : (g : Option Scalar) → GivenAs g (result_sort g)
result_given None = refl
result_given (Some s) = refl

used_given : (used : Bool) (g : Option Scalar) → GivenAs (word.used_of used g) (if is_some (word.used_of used g) then used_sort g else Void)
used_given true None = refl
used_given true (Some s) = refl
used_given false g = refl

module _ (p : c.Program) (n : Numbered) (scope : Scope) (there : Has p n) where
  abbrev G : Lowered → Type 0
  G e = Good p scope e

  abbrev AllG : List Lowered → Type 0
  AllG es = is.AllGood p scope es

  -- ---- addresses

  function_by : (span : Span) (o : Option ℕ) → ((i : ℕ) → o ≡ Some i → nat_lt i (length p.funcs) ≡ true) → G (number.function_address span o)
  function_by span None h = refl
  function_by span (Some i) h = rw (h i refl) refl

  named_by : (o : Option ℕ) (i : ℕ) → option_and_then (number.function_numbered n.known) o ≡ Some i → nat_lt i (length p.funcs) ≡ true
  named_by None i h = absurd (cc)
  named_by (Some m) i h = there.functions m i h

  named_there : (o : Option (List ℕ)) (i : ℕ) → option_and_then (number.function_named n.known) o ≡ Some i → nat_lt i (length p.funcs) ≡ true
  named_there None i h = absurd (cc)
  named_there (Some name) i h = named_by (place_of name (map (λ f. f.name) n.known.functions)) i h

  alive_by : (b : Bool) (span : Span) (x : ℕ) → has x scope ≡ b → G (if b then low.giving scalar.Ptr span (c.Object (place_in.Local x)) else low.null_at span)
  alive_by true span x h = rw h refl
  alive_by false span x h = refl

  local_good : (span : Span) (o : Option ℕ) → G (number.local_address span scope o)
  local_good span None = refl
  local_good span (Some x) = alive_by (has x scope) span x refl

  object_good : (span : Span) (object : ℕ) (o : Option ℕ) → number.fixed_object n object ≡ o → G (number.object_address n scope span object o)
  object_good span object None h = local_good span (number.local_of n.known object)
  object_good span object (Some i) h = rw (there.objects object i h) refl

  bound_good : (span : Span) (b : Option Binding) → G (number.bound_address n scope span b)
  unfolding number.bound_address
  bound_good span (Some (to.Object object)) = object_good span object (number.fixed_object n object) refl
  bound_good span (Some (to.Function f)) = function_by span (number.function_numbered n.known f) (there.functions f)
  bound_good span (Some (to.Library l)) = function_by span (number.library_numbered n.known l) (named_there (slice_get library_names l))
  bound_good span (Some (to.Enumerator z)) = refl
  bound_good span None = refl

  literal_by : (span : Span) (node : ℕ) (o : Option ℕ) → number.fixed_literal n node ≡ o → G (number.literal_numbered span o)
  literal_by span node None h = refl
  literal_by span node (Some i) h = rw (there.literals node i h) refl

  literal_good : (span : Span) (node : ℕ) → G (number.literal_address n span node)
  unfolding number.literal_address
  literal_good span node = literal_by span node (number.fixed_literal n node) refl

  -- ---- words

  read_by : (span : Span) (s : Option Scalar) (q : Lowered) → G q → G (word.read_as span s q)
  read_by span None q h = is.pointer_good p scope q h
  read_by span (Some s) q h = rw (is.pointer_good p scope q h) refl

  read_good : (at : At) (q : Lowered) → G q → G (word.read n at q)
  unfolding word.read
  read_good at q h = read_by at.span (scalar_of (type_at n.known at.id)) q h

  number_good : (at : At) → G (word.number_at n at)
  unfolding word.number_at
  number_good at = is.constant_good p scope at.span (word.kind_or_int (scalar_of (type_at n.known at.id))) (word.number_or_zero (constant_of n.known at.id))

  size_good : (at : At) (t : CType) → G (word.size_at n at t)
  unfolding word.size_at
  size_good at t = is.constant_good p scope at.span k.ULong (pos (shape.bytes_of n.known t))

  named_as_good : (at : At) (b : Option Binding) → G (word.named_as n scope at b)
  named_as_good at (Some (to.Enumerator z)) = is.constant_good p scope at.span k.Int z
  named_as_good at (Some (to.Object o)) = read_good at (number.bound_address n scope at.span (Some (to.Object o))) (bound_good at.span (Some (to.Object o)))
  named_as_good at (Some (to.Function f)) = bound_good at.span (Some (to.Function f))
  named_as_good at (Some (to.Library l)) = bound_good at.span (Some (to.Library l))
  named_as_good at None = bound_good at.span None

  named_good : (at : At) → G (word.named_at n scope at)
  unfolding word.named_at
  named_good at = named_as_good at (binding_of n.known at.id)

  name_place_good : (at : At) → G (word.name_place n scope at)
  unfolding word.name_place
  name_place_good at = bound_good at.span (binding_of n.known at.id)

  bytes_good : (t : CType) → is_size (shape.bytes_of n.known t) ≡ true
  bytes_good t = is.size_good (unwrap_or (size n.known.records.layouts t) 1)

  index_good : (at : At) (a b : Lowered) → G a → G b → G (word.index_place n at a b)
  unfolding word.index_place
  index_good at a b h g =
      is.if_good p scope (low.is_pointer a) _ _ (is.moved_good p scope at.span a b (shape.bytes_of n.known (type_at n.known at.id)) false (bytes_good (type_at n.known at.id)) h g)
      (is.moved_good p scope at.span b a (shape.bytes_of n.known (type_at n.known at.id)) false (bytes_good (type_at n.known at.id)) g h)

  member_good : (at : At) (t : CType) (name : List ℕ) (q : Lowered) → G q → G (word.member_place n at t name q)
  unfolding word.member_place
  member_good at t name q h =
      is.moved_good p scope at.span q (low.constant at.span k.Long (pos (shape.member_offset n.known t name))) 1 false refl h (is.constant_good p scope at.span k.Long (pos (shape.member_offset n.known t name)))

  step_by : (at : At) (a : m.Expr) (down post : Bool) (s : Option Scalar) (q : Lowered) → G q → G (word.stepped_as n at a down post s q)
  step_by at a down post None q h = refl
  step_by at a down post (Some s) q h = is.stepped_good p scope at.span (word.inner_span a) s down post (step_of n a) q (bytes_good (pointed_to (type_of_expr n a))) h

  step_good : (at : At) (a : m.Expr) (down post : Bool) (q : Lowered) → G q → G (word.step_at n at a down post q)
  unfolding word.step_at
  step_good at a down post q h = step_by at a down post (scalar_of (type_of_expr n a)) q h

  address_good : (q : Lowered) → G q → G (word.address_of q)
  unfolding word.address_of
  address_good q h = is.pointer_good p scope q h

  assigned_good : (at : At) (a : m.Expr) (o : t.AssignOp) (b : m.Expr) (s : Option Scalar) (q v r : Lowered) → G q → G v → G r → G (word.assigned_at n at a o b s q v r)
  assigned_good at a o b (Some s) q v r h g f = is.assigned_good p scope at.span (word.inner_span a) s o (step_of n a) q v (bytes_good (pointed_to (type_of_expr n a))) h g
  assigned_good at a o b None q v r h g f = is.copied_good p scope at.span q (word.inner_span a) r (word.inner_span b) (shape.bytes_of n.known (type_of_expr n a)) (bytes_good (type_of_expr n a)) h f

  marked_by : (span : Span) (o : Option ℕ) → G (word.marked_as span o)
  marked_by span None = is.constant_good p scope span k.ULong (pos 0)
  marked_by span (Some i) = refl

  builtin_good : (at : At) → G (word.builtin_at n at)
  unfolding word.builtin_at
  builtin_good at = marked_by at.span (number.position at.id n.marks)

  -- ---- calls

  library_by : (at : At) (l : ℕ) (mark : LibMark) (o : Option (List ℕ)) (es : List Lowered) → slice_get (marked_types mark) l ≡ o → AllG es → G (word.library_call_as at l mark (option_map signature o) es)
  library_by at l mark None es e h = refl
  library_by at l mark (Some type) es e h = rw e (rw (is.taken_good p scope at.span (signature type).takes es h) (result_given (signature type).gives))

  library_good : (at : At) (callee : Callee) (es : List Lowered) → AllG es → G (word.library_call at callee es)
  unfolding word.library_call
  library_good at callee es h = library_by at callee.0 callee.1 (slice_get (marked_types callee.1) callee.0) es refl h

  taken_by : (span : Span) (used : Bool) (s : Signature) (es : List Lowered) → AllG es
      → GivenAs (word.used_of used s.gives) (call_sort s (sorts_of p scope (low.as_taken span s.takes es)) (is_some (word.used_of used s.gives)))
  taken_by span used s es g = rw (is.taken_good p scope span s.takes es g) (used_given used s.gives)

  call_by : (at : At) (type : List ℕ) (used : Bool) (o : Option Signature) (f : Lowered) (es : List Lowered) → ((s : Signature) → o ≡ Some s → signature type ≡ s) → G f → AllG es → G (word.call_as at type used o f es)
  call_by at type used None f es e h g = refl
  call_by at type used (Some s) f es e h g =
      rw (is.pointer_good p scope f h)
      (subst (λ x. GivenAs (word.used_of used s.gives) (call_sort x (sorts_of p scope (low.as_taken at.span s.takes es)) (is_some (word.used_of used s.gives)))) (sym (e s refl))
      (taken_by at.span used s es g))

  value_call_good : (used : Bool) (at : At) (t : CType) (f : Lowered) (es : List Lowered) → AreNamed (names_of n.known) t → G f → AllG es → G (word.value_call n used at t f es)
  unfolding word.value_call
  value_call_good used at t f es named h g = call_by at (spelled n.known t) used (signature_told t) f es (λ s e. every_signature_is_read (names_of n.known) t s named e) h g

  call_good : (used : Bool) (at : At) (t : CType) (o : Option Callee) (f : Lowered) (es : List Lowered) → AreNamed (names_of n.known) t → G f → AllG es → G (word.call_of n used at t o f es)
  call_good used at t None f es named h g = value_call_good used at t f es named h g
  call_good used at t (Some callee) f es named h g = library_good at callee es g

  -- ---- expressions

  mutual
    pub value_good : (used : Bool) (e : m.Expr) → G (value n scope used e)
    value_good used (m.Comma at a b) = is.comma_good p scope at.span (value n scope false a) (value n scope true b) (value_good false a) (value_good true b)
    value_good used (m.Assign at a o b) =
        assigned_good at a o b (scalar_of (type_of_expr n a)) (place n scope a) (value n scope true b) (place n scope b) (place_good a) (value_good true b) (place_good b)
    value_good used (m.Cond at x a b) = is.choice_good p scope at.span (value n scope true x) (value n scope true a) (value n scope true b) (value_good true x) (value_good true a) (value_good true b)
    value_good used (m.Binary at a o b) =
        is.binary_good p scope at.span o (value n scope true a) (step_of n a) (value n scope true b) (step_of n b) (bytes_good (pointed_to (type_of_expr n a))) (bytes_good (pointed_to (type_of_expr n b)))
        (value_good true a) (value_good true b)
    value_good used (m.Cast at t a) = is.cast_good p scope at.span (scalar_of (type_at n.known at.id)) (value n scope (is_scalar (type_at n.known at.id)) a) (value_good (is_scalar (type_at n.known at.id)) a)
    value_good used (m.Prefix at t.Increment a) = step_good at a false false (place n scope a) (place_good a)
    value_good used (m.Prefix at t.Decrement a) = step_good at a true false (place n scope a) (place_good a)
    value_good used (m.Prefix at t.Address a) = address_good (place n scope a) (place_good a)
    value_good used (m.Prefix at t.Deref a) = read_good at (value n scope true a) (value_good true a)
    value_good used (m.Prefix at t.Positive a) = is.positive_good p scope (value n scope true a) (value_good true a)
    value_good used (m.Prefix at t.Negative a) = is.negative_good p scope at.span (value n scope true a) (value_good true a)
    value_good used (m.Prefix at t.Complement a) = is.complement_good p scope at.span (value n scope true a) (value_good true a)
    value_good used (m.Prefix at t.Not a) = is.negation_good p scope at.span (value n scope true a) (value_good true a)
    value_good used (m.SizeofExpr at a) = size_good at (type_of_expr n a)
    value_good used (m.SizeofType at t) = size_good at (type_at n.known (word.type_name_node t))
    value_good used (m.Index at a b) = read_good at (word.index_place n at (value n scope true a) (value n scope true b)) (index_good at (value n scope true a) (value n scope true b) (value_good true a) (value_good true b))
    value_good used (m.Call at f es) =
        call_good used at (pointed_to (type_of_expr n f)) (word.callee_at n at f) (value n scope true f) (values n scope es)
        (pointed_named (names_of n.known) (type_of_expr n f) (there.named (at_of_expr f).id)) (value_good true f) (values_good es)
    value_good used (m.Dot at a name) = read_good at (word.member_place n at (type_of_expr n a) name (place n scope a)) (member_good at (type_of_expr n a) name (place n scope a) (place_good a))
    value_good used (m.Arrow at a name) =
        read_good at (word.member_place n at (pointed_to (type_of_expr n a)) name (value n scope true a)) (member_good at (pointed_to (type_of_expr n a)) name (value n scope true a) (value_good true a))
    value_good used (m.Post at a s) = step_good at a (word.post_is_down s) true (place n scope a) (place_good a)
    value_good used (m.Name at name) = named_good at
    value_good used (m.Number at x) = number_good at
    value_good used (m.Char at x) = number_good at
    value_good used (m.Text at ts) = read_good at (number.literal_address n at.span at.id) (literal_good at.span at.id)
    value_good used (m.Paren at a) = value_good true a
    value_good used (m.Builtin at es) = builtin_good at

    pub place_good : (e : m.Expr) → G (place n scope e)
    place_good (m.Name at name) = name_place_good at
    place_good (m.Text at ts) = literal_good at.span at.id
    place_good (m.Paren at a) = place_good a
    place_good (m.Prefix at t.Deref a) = value_good true a
    place_good (m.Index at a b) = index_good at (value n scope true a) (value n scope true b) (value_good true a) (value_good true b)
    place_good (m.Dot at a name) = member_good at (type_of_expr n a) name (place n scope a) (place_good a)
    place_good (m.Arrow at a name) = member_good at (pointed_to (type_of_expr n a)) name (value n scope true a) (value_good true a)
    place_good (m.Prefix at t.Increment a) = refl
    place_good (m.Prefix at t.Decrement a) = refl
    place_good (m.Prefix at t.Address a) = refl
    place_good (m.Prefix at t.Positive a) = refl
    place_good (m.Prefix at t.Negative a) = refl
    place_good (m.Prefix at t.Complement a) = refl
    place_good (m.Prefix at t.Not a) = refl
    place_good (m.Comma at a b) = refl
    place_good (m.Assign at a o b) = refl
    place_good (m.Cond at x a b) = refl
    place_good (m.Binary at a o b) = refl
    place_good (m.Cast at t a) = refl
    place_good (m.SizeofExpr at a) = refl
    place_good (m.SizeofType at t) = refl
    place_good (m.Call at f es) = refl
    place_good (m.Post at a s) = refl
    place_good (m.Number at x) = refl
    place_good (m.Char at x) = refl
    place_good (m.Builtin at es) = refl

    values_good : (es : m.Exprs) → AllG (values n scope es)
    values_good m.no_exprs = tt
    values_good (m.expr a es) = (value_good true a, values_good es)
