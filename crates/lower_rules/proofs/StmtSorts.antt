-- What each statement becomes is well-formed.
use Rattle.std.proofs.Common.{◌≡◌, ℕ, zero, suc, pos, Bool, true, false, List, [], ◌∷◌, ◌++◌, Option, Some, None, refl, ◌∙◌, ap}
use Rattle.std.proofs.lemmas.Bool.Decides.{Decides-eqb}
use Rattle.std.specs.Prelude.{if◌then◌else◌, unwrap_or, ◌&&◌, ◌||◌, ◌==◌, not}
use Rattle.tok_base.specs.declared.token.Span.{Span}
use Rattle.num_ops.specs.declared.kinds.IntKind.TheVariants as k
use Rattle.c_core.specs.declared.values.Scalar.{Scalar}
use Rattle.c_core.specs.declared.values.Scalar.TheVariants as scalar
use Rattle.c_core.specs.declared.tree.Place.TheVariants as place_in
use Rattle.c_core.specs.Sorts.{is_integer, is_right}
use Rattle.c_core.specs.WellFormed.{has, names, is_size, sort_of, is_in, initialises, good_items, good_step, good_return, good_objects, good_stmt, good_stmts}
use Rattle.c_core.specs.Tree as c
use Rattle.c_core.specs.Tree.{Exprs, no_exprs, one_expr, Stmts, no_stmts, one_stmt, MaybeExpr}
use Rattle.c_tree.specs.Marked as m
use Rattle.c_types.specs.CTypes.{CType}
use Rattle.c_types.specs.Layout.{size}
use Rattle.c_rules.specs.Known.{Known}
use Rattle.signature_laws.specs.Told.{scalar_of}
use Rattle.lower_rules.specs.Shapes as shape
use Rattle.lower_rules.specs.Lowered as low
use Rattle.lower_rules.specs.Lowered.{Lowered}
use Rattle.lower_rules.specs.Operators.{stored, copied}
use Rattle.lower_rules.specs.Numbered.{Numbered, Scope}
use Rattle.lower_rules.specs.FixedThings.{array_text}
use Rattle.lower_rules.specs.Values.{inner_span}
use Rattle.lower_rules.specs.Expressions.{value, place}
use Rattle.lower_rules.specs.Initialisers as init
use Rattle.lower_rules.specs.Statements as stmt
use Rattle.lower_rules.specs.Statements.{Local}
use Rattle.lower_rules.specs.Sorts.{sort, Good, Has}
use Rattle.lower_rules.proofs.KindFacts.{same_scalar_self}
use Rattle.lower_rules.proofs.WordSorts as is
use Rattle.lower_rules.proofs.ValueSorts as of

both : (a b : Bool) → a ≡ true → b ≡ true → (a && b) ≡ true
both a b h g = rw h g

same_self : (n : ℕ) → (n == n) ≡ true
same_self n = (Decides-eqb n n).1 refl

-- ---- objects of blocks

-- where a number stands among others makes no difference
or_moves : (a b d : Bool) → (a || (b || d)) ≡ (b || (a || d))
or_moves true true d = refl
or_moves true false d = refl
or_moves false true d = refl
or_moves false false d = refl

has_moves : (x y : ℕ) (a b : List ℕ) → has x (a ++ y ∷ b) ≡ ((y == x) || has x (a ++ b))
has_moves x y [] b = refl
has_moves x y (z ∷ a) b = ap (λ o. (z == x) || o) (has_moves x y a b) ∙ or_moves (z == x) (y == x) (has x (a ++ b))

not_true : (b : Bool) → b ≡ false → not b ≡ true
not_true b h = rw h refl

parts : (a b d : Bool) → (a && b && d) ≡ true → (a ≡ true) × ((b ≡ true) × (d ≡ true))
parts true true d h = (refl, (refl, h))
parts true false d h = absurd (cc)
parts false b d h = absurd (cc)

all : (a b d : Bool) → a ≡ true → b ≡ true → d ≡ true → (a && b && d) ≡ true
all a b d h g i = rw h (rw g i)

one_more_good : (x s : ℕ) (locals : List ℕ) (done : List (ℕ × ℕ)) → good_objects locals done ≡ true → has x (names done ++ locals) ≡ false → is_size s ≡ true → good_objects locals (done ++ (x, s) ∷ []) ≡ true
one_more_good x s locals [] h g i = all (not (has x locals)) (is_size s) true (not_true (has x locals) g) i refl
one_more_good x s locals (o ∷ done) h g i =
    let three : (not (has o.0 locals) ≡ true) × ((is_size o.1 ≡ true) × (good_objects (o.0 ∷ locals) done ≡ true)) = parts (not (has o.0 locals)) (is_size o.1) (good_objects (o.0 ∷ locals) done) h in
    all (not (has o.0 locals)) (is_size o.1) (good_objects (o.0 ∷ locals) (done ++ (x, s) ∷ [])) three.0 three.1.0
    (one_more_good x s (o.0 ∷ locals) done three.1.1 (has_moves x o.0 (names done) locals ∙ g) i)

module _ (known : Known) (alive : Scope) where
  added_by : (b : Bool) (x : Local) (done : List (ℕ × ℕ)) → has x.number (names done ++ alive) ≡ b → good_objects alive done ≡ true
      → good_objects alive (if b then done else (done ++ (x.number, shape.bytes_of known x.type) ∷ [])) ≡ true
  added_by true x done e h = h
  added_by false x done e h = one_more_good x.number (shape.bytes_of known x.type) alive done h e (is.size_good (unwrap_or (size known.records.layouts x.type) 1))

  added_good : (o : Option Local) (done : List (ℕ × ℕ)) → good_objects alive done ≡ true → good_objects alive (stmt.with_local known alive o done) ≡ true
  added_good None done h = h
  added_good (Some x) done h = added_by (has x.number (names done ++ alive)) x done refl h

  items_good : (xs : List m.Item) (done : List (ℕ × ℕ)) → good_objects alive done ≡ true → good_objects alive (stmt.items_objects known alive xs done) ≡ true
  items_good [] done h = h
  items_good (i ∷ xs) done h = items_good xs (stmt.with_local known alive (stmt.local_of known i) done) (added_good (stmt.local_of known i) done h)

  block_good : (xs : m.BlockItems) (done : List (ℕ × ℕ)) → good_objects alive done ≡ true → good_objects alive (stmt.block_objects known alive xs done) ≡ true
  block_good m.no_items done h = h
  block_good (m.declared d xs) done h = block_good xs (stmt.items_objects known alive d.items done) (items_good d.items done h)
  block_good (m.statement s xs) done h = block_good xs done h

  first_good : (f : m.First) → good_objects alive (stmt.first_objects known alive f) ≡ true
  first_good (m.FirstDeclaration d) = items_good d.items [] refl
  first_good (m.FirstExpr a) = refl

-- ---- initialisers

module _ (p : c.Program) (n : Numbered) (there : Has p n) where
  module _ (scope : Scope) (span : Span) (x : ℕ) (alive : has x scope ≡ true) where
    abbrev G : Lowered → Type 0
    G e = Good p scope e

    object_good : G (low.giving scalar.Ptr span (c.Object (place_in.Local x)))
    object_good = rw alive refl

    part_good : (at : ℕ) → G (init.part_address span x at)
    part_good zero = object_good
    part_good (suc i) = is.moved_good p scope span (low.giving scalar.Ptr span (c.Object (place_in.Local x))) (low.constant span k.Long (pos (suc i))) 1 false refl object_good (is.constant_good p scope span k.Long (pos (suc i)))

    part_in : (at : ℕ) → is_in p scope x (low.as_pointer (init.part_address span x at)).expr ≡ true
    part_in zero = same_self x
    part_in (suc i) = same_self x

    abbrev Item : Lowered → Type 0
    Item e = (initialises p scope x e.expr ≡ true) × (is_right (sort p scope e) ≡ true)

    stored_item : (s : Scalar) (at : ℕ) (e : Lowered) → G e → Item (stored span span s (init.part_address span x at) e)
    stored_item s at e h = (part_in at, is.right_good p scope (stored span span s (init.part_address span x at) e) (is.stored_good p scope span span s (init.part_address span x at) e (part_good at) h))

    copied_item : (at : ℕ) (q : Lowered) (q_at : Span) (t : CType) → G q → Item (copied span (init.part_address span x at) span q q_at (shape.bytes_of n.known t))
    unfolding copied
    copied_item at q q_at t h = (
      part_in at,
      is.right_good p scope (copied span (init.part_address span x at) span q q_at (shape.bytes_of n.known t))
          (is.copied_good p scope span (init.part_address span x at) span q q_at (shape.bytes_of n.known t) (is.size_good (unwrap_or (size n.known.records.layouts t) 1)) (part_good at) h),
    )

    abbrev Items : Exprs → Type 0
    Items es = good_items p scope x es ≡ true

    with_item : (e : Lowered) (more : Exprs) → Item e → Items more → Items (one_expr e.expr more)
    with_item e more h g = all (initialises p scope x e.expr) (is_right (sort p scope e)) (good_items p scope x more) h.0 h.1 g

    bytes_good : (at : ℕ) (bs : List ℕ) (more : Exprs) → Items more → Items (init.byte_stores span x at bs more)
    bytes_good at [] more h = h
    bytes_good at (b ∷ bs) more h =
        with_item (init.byte_store span x at b) (init.byte_stores span x (suc at) bs more) (stored_item (scalar.Int k.UChar) at (low.constant span k.UChar (pos b)) (is.constant_good p scope span k.UChar (pos b))) (bytes_good (suc at) bs more h)

    store_item : (s : Option Scalar) (t : CType) (at : ℕ) (a : m.Expr) → Item (init.store_of n scope span x s t at a)
    store_item (Some s) t at a = stored_item s at (value n scope true a) (of.value_good p n scope there true a)
    store_item None t at a = copied_item at (place n scope a) (inner_span a) t (of.place_good p n scope there a)

    plain_good : (o : Option (List (List ℕ))) (t : CType) (at : ℕ) (a : m.Expr) (more : Exprs) → Items more → Items (init.plain_stores n scope span x o t at a more)
    plain_good (Some ts) t at a more h = bytes_good at (init.fitting t ts) more h
    plain_good None t at a more h = with_item (init.store_of n scope span x (scalar_of t) t at a) more (store_item (scalar_of t) t at a) h

    mutual
      stores_good : (t : CType) (at : ℕ) (i : m.Init) (more : Exprs) → Items more → Items (init.stores n scope span x t at i more)
      stores_good t at (m.Plain a) more h = plain_good (array_text n.known a) t at a more h
      stores_good t at (m.Braces b xs comma) more h = entries_good t at 0 xs more h

      entries_good : (t : CType) (at i : ℕ) (xs : m.Inits) (more : Exprs) → Items more → Items (init.entry_stores n scope span x t at i xs more)
      entries_good t at i m.no_inits more h = h
      entries_good t at i (m.init a xs) more h =
          stores_good (shape.part_of n.known t at i).type (shape.part_of n.known t at i).offset a (init.entry_stores n scope span x t at (suc i) xs more) (entries_good t at (suc i) xs more h)

  -- ---- statements

  module _ (result : Option Scalar) where
    condition_good : (scope : Scope) (a : m.Expr) → is_integer (sort_of p scope (stmt.condition n result scope a)) ≡ true
    condition_good scope a = is.moved_by p scope (sort p scope (low.tested (value n scope true a))) (is.tested_good p scope (value n scope true a) (of.value_good p n scope there true a))

    condition_or_one_good : (scope : Scope) (span : Span) (a : m.MaybeExpr) → is_integer (sort_of p scope (stmt.condition_or_one n result scope span a)) ≡ true
    condition_or_one_good scope span m.no_expr = refl
    condition_or_one_good scope span (m.some_expr a) = condition_good scope a

    unused_good : (scope : Scope) (a : m.Expr) → is_right (sort_of p scope (stmt.unused n result scope a)) ≡ true
    unused_good scope a = is.right_good p scope (value n scope false a) (of.value_good p n scope there false a)

    step_good : (scope : Scope) (a : m.MaybeExpr) → good_step p scope (stmt.step n result scope a) ≡ true
    step_good scope m.no_expr = refl
    step_good scope (m.some_expr a) = unused_good scope a

    returned_good : (scope : Scope) (span : Span) (s : Option Scalar) (a : m.MaybeExpr) → good_return p scope s (stmt.returned n result scope span s a) ≡ true
    returned_good scope span None a = refl
    returned_good scope span (Some s) m.no_expr = rw (is.zero_good p scope span s) (same_scalar_self s)
    returned_good scope span (Some s) (m.some_expr a) =
        rw (is.scalar_good p scope (low.lowered_span (value n scope true a)) s (value n scope true a) (of.value_good p n scope there true a)) (same_scalar_self s)

    abbrev Stmts-good : Scope → Bool → Stmts → Type 0
    Stmts-good scope in_loop ss = good_stmts p result scope in_loop ss ≡ true

    alive_init : (b : Bool) (scope : Scope) (in_loop : Bool) (span : Span) (x : Local) (i : m.Init) (more : Stmts) → has x.number scope ≡ b → Stmts-good scope in_loop more
        → Stmts-good scope in_loop (if b then one_stmt (c.Init x.number (init.zero_first n.known x.type i) (init.stores n scope span x.number x.type 0 i no_exprs)) more else more)
    alive_init false scope in_loop span x i more e h = h
    alive_init true scope in_loop span x i more e h =
        both (has x.number scope && good_items p scope x.number (init.stores n scope span x.number x.type 0 i no_exprs)) (good_stmts p result scope in_loop more)
        (both (has x.number scope) (good_items p scope x.number (init.stores n scope span x.number x.type 0 i no_exprs)) e (stores_good scope span x.number e x.type 0 i no_exprs refl)) h

    initialised_good : (scope : Scope) (in_loop : Bool) (span : Span) (x : Option Local) (i : m.MaybeInit) (more : Stmts) → Stmts-good scope in_loop more → Stmts-good scope in_loop (stmt.initialised n result scope span x i more)
    initialised_good scope in_loop span (Some x) (m.some_init i) more h = alive_init (has x.number scope) scope in_loop span x i more refl h
    initialised_good scope in_loop span (Some x) m.no_init more h = h
    initialised_good scope in_loop span None m.no_init more h = h
    initialised_good scope in_loop span None (m.some_init i) more h = h

    inits_good : (scope : Scope) (in_loop : Bool) (xs : List m.Item) (more : Stmts) → Stmts-good scope in_loop more → Stmts-good scope in_loop (stmt.inits n result scope xs more)
    inits_good scope in_loop [] more h = h
    inits_good scope in_loop (i ∷ xs) more h =
        initialised_good scope in_loop i.at.span (stmt.local_of n.known i) i.init (stmt.inits n result scope xs more) (inits_good scope in_loop xs more h)

    first_then_good : (scope : Scope) (in_loop : Bool) (f : m.First) (more : Stmts) → Stmts-good scope in_loop more → Stmts-good scope in_loop (stmt.first_then n result scope f more)
    first_then_good scope in_loop (m.FirstDeclaration d) more h = inits_good scope in_loop d.items more h
    first_then_good scope in_loop (m.FirstExpr m.no_expr) more h = h
    first_then_good scope in_loop (m.FirstExpr (m.some_expr a)) more h = both (is_right (sort_of p scope (stmt.unused n result scope a))) (good_stmts p result scope in_loop more) (unused_good scope a) h

    abbrev Stmt-good : Scope → Bool → c.Stmt → Type 0
    Stmt-good scope in_loop s = good_stmt p result scope in_loop s ≡ true

    loop_good : (scope : Scope) (in_loop first : Bool) (e : c.Expr) (step : MaybeExpr) (body : c.Stmt) → is_integer (sort_of p scope e) ≡ true → good_step p scope step ≡ true → Stmt-good scope true body → Stmt-good scope in_loop (c.Loop first e step body)
    loop_good scope in_loop first e step body h g i = all (is_integer (sort_of p scope e)) (good_step p scope step) (good_stmt p result scope true body) h g i

    one_good : (scope : Scope) (in_loop : Bool) (s : c.Stmt) → Stmt-good scope in_loop s → Stmts-good scope in_loop (one_stmt s no_stmts)
    one_good scope in_loop s h = both (good_stmt p result scope in_loop s) true h refl

    for_good : (scope : Scope) (in_loop : Bool) (span : Span) (f : m.First) (a e : m.MaybeExpr) (body : c.Stmt) → Stmt-good (stmt.in_for n.known scope f) true body
        → Stmt-good scope in_loop (c.Block (stmt.first_objects n.known scope f) (stmt.first_then n result (stmt.in_for n.known scope f) f (one_stmt (c.Loop true (stmt.condition_or_one n result (stmt.in_for n.known scope f) span a) (stmt.step n result (stmt.in_for n.known scope f) e) body) no_stmts)))
    for_good scope in_loop span f a e body h =
        let inside : Scope = stmt.in_for n.known scope f in
        let loop : c.Stmt = c.Loop true (stmt.condition_or_one n result inside span a) (stmt.step n result inside e) body in
        both (good_objects scope (stmt.first_objects n.known scope f)) (good_stmts p result inside in_loop (stmt.first_then n result inside f (one_stmt loop no_stmts)))
        (first_good n.known scope f)
        (first_then_good inside in_loop f (one_stmt loop no_stmts) (one_good inside in_loop loop (loop_good inside in_loop true (stmt.condition_or_one n result inside span a) (stmt.step n result inside e) body (condition_or_one_good inside span a) (step_good inside e) h)))

    mutual
      pub stmt_good : (scope : Scope) (in_loop : Bool) (s : m.Stmt) → Stmt-good scope in_loop (stmt.stmt n result scope in_loop s)
      stmt_good scope in_loop (m.Block at xs) =
          both (good_objects scope (stmt.block_objects n.known scope xs [])) (good_stmts p result (stmt.in_block n.known scope xs) in_loop (stmt.stmts n result (stmt.in_block n.known scope xs) in_loop xs))
          (block_good n.known scope xs [] refl) (stmts_good (stmt.in_block n.known scope xs) in_loop xs)
      stmt_good scope in_loop (m.ExprStmt at m.no_expr) = refl
      stmt_good scope in_loop (m.ExprStmt at (m.some_expr a)) = unused_good scope a
      stmt_good scope in_loop (m.If at a s) =
          all (is_integer (sort_of p scope (stmt.condition n result scope a))) (good_stmt p result scope in_loop (stmt.stmt n result scope in_loop s)) true (condition_good scope a) (stmt_good scope in_loop s) refl
      stmt_good scope in_loop (m.IfElse at a s r) =
          all (is_integer (sort_of p scope (stmt.condition n result scope a))) (good_stmt p result scope in_loop (stmt.stmt n result scope in_loop s)) (good_stmt p result scope in_loop (stmt.stmt n result scope in_loop r))
          (condition_good scope a) (stmt_good scope in_loop s) (stmt_good scope in_loop r)
      stmt_good scope in_loop (m.While at a s) = loop_good scope in_loop true (stmt.condition n result scope a) c.NoExpr (stmt.stmt n result scope true s) (condition_good scope a) refl (stmt_good scope true s)
      stmt_good scope in_loop (m.Do at s a) = loop_good scope in_loop false (stmt.condition n result scope a) c.NoExpr (stmt.stmt n result scope true s) (condition_good scope a) refl (stmt_good scope true s)
      stmt_good scope in_loop (m.For at f a e s) = for_good scope in_loop at.span f a e (stmt.stmt n result (stmt.in_for n.known scope f) true s) (stmt_good (stmt.in_for n.known scope f) true s)
      stmt_good scope true (m.Break at) = refl
      stmt_good scope false (m.Break at) = refl
      stmt_good scope true (m.Continue at) = refl
      stmt_good scope false (m.Continue at) = refl
      stmt_good scope in_loop (m.Return at a) = returned_good scope at.span result a

      stmts_good : (scope : Scope) (in_loop : Bool) (xs : m.BlockItems) → Stmts-good scope in_loop (stmt.stmts n result scope in_loop xs)
      stmts_good scope in_loop m.no_items = refl
      stmts_good scope in_loop (m.declared d xs) = inits_good scope in_loop d.items (stmt.stmts n result scope in_loop xs) (stmts_good scope in_loop xs)
      stmts_good scope in_loop (m.statement s xs) =
          both (good_stmt p result scope in_loop (stmt.stmt n result scope in_loop s)) (good_stmts p result scope in_loop (stmt.stmts n result scope in_loop xs)) (stmt_good scope in_loop s) (stmts_good scope in_loop xs)
