-- In a well-formed program every number of a function is below the count of functions, and a site has as many arguments
-- as its function takes.
use Rattle.std.proofs.Common.{◌≡◌, ◌∙◌, ℕ, zero, suc, ◌<◌, Bool, true, false, List, [], ◌∷◌, ◌++◌, length, Option, Some, None, refl, sym, ap}
use Rattle.std.specs.Prelude.{slice_get, not, ◌&&◌, if◌then◌else◌, take}
use Rattle.std.proofs.lemmas.Bool.Decides.{Decides-ltb}
use Rattle.num_ops.specs.declared.kinds.IntKind.{IntKind}
use Rattle.c_core.specs.declared.values.Pointer.{Pointer}
use Rattle.c_core.specs.declared.values.Pointer.TheVariants.{Null, Object, Function}
use Rattle.c_core.specs.declared.values.Value.{Value}
use Rattle.c_core.specs.declared.values.Value.TheVariants as value
use Rattle.c_core.specs.declared.values.Scalar.{Scalar}
use Rattle.c_core.specs.declared.values.Scalar.TheVariants as scalar
use Rattle.c_core.specs.declared.values.Cell.{Cell}
use Rattle.c_core.specs.declared.values.Cell.TheVariants.{Undefined, Byte, Part}
use Rattle.c_core.specs.declared.tree.LibMark.{LibMark}
use Rattle.c_core.specs.declared.tree.LibMark.TheVariants as mark
use Rattle.c_core.specs.declared.tree.ModifyOp.{ModifyOp}
use Rattle.c_core.specs.declared.tree.ModifyOp.TheVariants as modify
use Rattle.c_core.specs.declared.tree.FixedObject.{FixedObject}
use Rattle.c_core.specs.Tree as t
use Rattle.c_core.specs.Tree.{Expr, At, Form, Exprs, no_exprs, one_expr, MaybeExpr, NoExpr, TheExpr, Stmt, Else, NoElse, Otherwise, Stmts, no_stmts, one_stmt, Program}
use Rattle.c_core.specs.Library.{marked_types, library_types}
use Rattle.c_core.specs.Signatures.{signature}
use Rattle.c_core.specs.Sorts.{Sort, Gives, Void, IllSorted, given, is_right, gives, is_scalar, is_pointer, is_integer, is_promoted, of_one_kind, either_of, agree, call_sort, used_sort}
use Rattle.c_core.specs.WellFormed.{is_size, constant_sort, modifies, library_call_sort, sort_of, sort_of_form, sorts_of, good_items, good_step, good_return, good_stmt, good_else, good_stmts, good_objects, names, has, good_pointer, good_cell, good_cells, good_fixed, good_body, good_functions, numbers}
use Rattle.meaning_laws.specs.Numbers.{PointerIn, ValueIn, CellIn}
use Rattle.meaning_laws.proofs.Numbers.{InitialIn}

-- how many arguments the allocation functions take
abbrev pub arities : List ℕ
arities = 1 ∷ 2 ∷ 2 ∷ []

abbrev pub count_of : Exprs → ℕ
count_of no_exprs = 0
count_of (one_expr e es) = suc (count_of es)

abbrev pub Sited : ℕ → Exprs → LibMark → Type 0
Sited n es (mark.Site k) = slice_get arities n ≡ Some (count_of es)
Sited n es mark.Untagged = Unit {0}
Sited n es mark.Given = Unit {0}
Sited n es (mark.Fixed token) = Unit {0}

module _ (count : ℕ) where
  abbrev mutual
    pub Num : Expr → Type 0
    Num (At span form) = NumForm form

    pub NumForm : Form → Type 0
    NumForm (t.Const v) = ValueIn count v
    NumForm (t.Text n) = Unit {0}
    NumForm (t.Func f) = f < count
    NumForm (t.Object p) = Unit {0}
    NumForm (t.Load p kind) = Num p
    NumForm (t.Store p at kind e) = Num p × Num e
    NumForm (t.CopyRecord p to_at q from_at size) = Num p × Num q
    NumForm (t.Convert kind e) = Num e
    NumForm (t.Truth e negated) = Num e
    NumForm (t.Arith op a b) = Num a × Num b
    NumForm (t.ShiftBits left a b) = Num a × Num b
    NumForm (t.CompareInt op a b) = Num a × Num b
    NumForm (t.PtrAdd p i size minus) = Num p × Num i
    NumForm (t.PtrDiff p q size) = Num p × Num q
    NumForm (t.ComparePtr op p q) = Num p × Num q
    NumForm (t.Both a b) = Num a × Num b
    NumForm (t.Either a b) = Num a × Num b
    NumForm (t.Choose a b d) = Num a × Num b × Num d
    NumForm (t.Then a b) = Num a × Num b
    NumForm (t.Modify p at kind op e common post) = Num p × Num e
    NumForm (t.Call f type es used) = Num f × NumAll es
    NumForm (t.LibCall n es m) = NumAll es × Sited n es m
    NumForm (t.Mark n) = Unit {0}

    pub NumAll : Exprs → Type 0
    NumAll no_exprs = Unit {0}
    NumAll (one_expr e es) = Num e × NumAll es

  abbrev pub NumMaybe : MaybeExpr → Type 0
  NumMaybe NoExpr = Unit {0}
  NumMaybe (TheExpr e) = Num e

  abbrev mutual
    pub NumStmt : Stmt → Type 0
    NumStmt (t.Block objects ss) = NumStmts ss
    NumStmt (t.Do e) = Num e
    NumStmt (t.Init x zeros items) = NumAll items
    NumStmt (t.If e a b) = Num e × NumStmt a × NumElse b
    NumStmt (t.Loop first e step b) = Num e × NumMaybe step × NumStmt b
    NumStmt t.Break = Unit {0}
    NumStmt t.Continue = Unit {0}
    NumStmt (t.Return e) = NumMaybe e

    pub NumElse : Else → Type 0
    NumElse NoElse = Unit {0}
    NumElse (Otherwise b) = NumStmt b

    pub NumStmts : Stmts → Type 0
    NumStmts no_stmts = Unit {0}
    NumStmts (one_stmt s ss) = NumStmt s × NumStmts ss

  abbrev pub NumBody : Option Stmt → Type 0
  NumBody None = Unit {0}
  NumBody (Some s) = NumStmt s

  abbrev pub NumFuncs : List t.Function → Type 0
  NumFuncs [] = Unit {0}
  NumFuncs (f ∷ funcs) = NumBody f.body × NumFuncs funcs

  abbrev pub NumFixed : List FixedObject → Type 0
  NumFixed [] = Unit {0}
  NumFixed (o ∷ fixed) = InitialIn count o.cells × NumFixed fixed

-- ---- what is right

false_true : {A : Type 0} → false ≡ true → A
false_true h = absurd (let e : false ≡ true = h in cc)

and_parts : (a b : Bool) → (a && b) ≡ true → (a ≡ true) × (b ≡ true)
and_parts true b h = (refl, h)
and_parts false b h = false_true h

given_right : (b : Bool) (s : Sort) → is_right (given b s) ≡ true → (b ≡ true) × (is_right s ≡ true)
given_right true s h = (refl, h)
given_right false s h = false_true h

gives_right : (kind : Scalar) (s : Sort) → gives kind s ≡ true → is_right s ≡ true
gives_right kind (Gives r) h = refl
gives_right kind Void h = refl
gives_right kind IllSorted h = h

scalar_right : (s : Sort) → is_scalar s ≡ true → is_right s ≡ true
scalar_right (Gives r) h = refl
scalar_right Void h = refl
scalar_right IllSorted h = h

integer_right : (s : Sort) → is_integer s ≡ true → is_right s ≡ true
integer_right (Gives r) h = refl
integer_right Void h = refl
integer_right IllSorted h = h

promoted_right : (s : Sort) → is_promoted s ≡ true → is_right s ≡ true
promoted_right (Gives r) h = refl
promoted_right Void h = refl
promoted_right IllSorted h = h

one_kind_right : (a b : Sort) → of_one_kind a b ≡ true → (is_right a ≡ true) × (is_right b ≡ true)
one_kind_right (Gives (scalar.Int k)) b h = (refl, gives_right (scalar.Int k) b h)
one_kind_right (Gives scalar.Ptr) b h = false_true h
one_kind_right Void b h = false_true h
one_kind_right IllSorted b h = false_true h

either_right : (a b : Sort) → is_right (either_of a b) ≡ true → (is_right a ≡ true) × (is_right b ≡ true)
either_right IllSorted b h = false_true h
either_right Void IllSorted h = false_true h
either_right Void Void h = (refl, refl)
either_right Void (Gives b) h = (refl, refl)
either_right (Gives a) IllSorted h = false_true h
either_right (Gives a) Void h = (refl, refl)
either_right (Gives a) (Gives b) h = (refl, refl)

modifies_right : (op : ModifyOp) (kind : Scalar) (common : IntKind) (s : Sort) → modifies op kind common s ≡ true → is_right s ≡ true
modifies_right (modify.Arith op) (scalar.Int kind) common s h = gives_right (scalar.Int common) s (and_parts _ _ h).1
modifies_right (modify.Arith op) scalar.Ptr common s h = false_true h
modifies_right (modify.ShiftBits left) (scalar.Int kind) common s h = promoted_right s (and_parts _ _ h).1
modifies_right (modify.ShiftBits left) scalar.Ptr common s h = false_true h
modifies_right (modify.PtrAdd size minus) (scalar.Int kind) common s h = false_true h
modifies_right (modify.PtrAdd size minus) scalar.Ptr common s h = promoted_right s (and_parts _ _ h).1

agreed : (type : Option (List ℕ)) (sorts : List Sort) → is_right (library_call_sort type sorts) ≡ true → (x : List ℕ) × (type ≡ Some x) × (agree (signature x).takes sorts ≡ true)
agreed None sorts h = false_true h
agreed (Some x) sorts h = (x, refl, (given_right _ _ h).0)

abbrev arity_in : Option (List ℕ) → Option ℕ
arity_in None = None
arity_in (Some x) = Some (length (signature x).takes)

arities_are : (n : ℕ) → arity_in (slice_get (take 3 library_types) n) ≡ slice_get arities n
arities_are zero = refl
arities_are (suc zero) = refl
arities_are (suc (suc zero)) = refl
arities_are (suc (suc (suc n))) = refl

sited : (n : ℕ) (es : Exprs) (m : LibMark) (x : List ℕ) → slice_get (marked_types m) n ≡ Some x → count_of es ≡ length (signature x).takes → Sited n es m
sited n es (mark.Site k) x e c = sym (arities_are n) ∙ ap arity_in e ∙ ap Some (sym c)
sited n es mark.Untagged x e c = tt
sited n es mark.Given x e c = tt
sited n es (mark.Fixed token) x e c = tt

-- ---- expressions

module _ (c : Program) (locals : List ℕ) where
  abbrev n : ℕ
  n = length c.funcs

  constant_num : (v : Value) → is_right (constant_sort v) ≡ true → ValueIn n v
  constant_num (value.Int z) h = tt
  constant_num (value.Ptr Null) h = tt
  constant_num (value.Ptr (Object k i)) h = tt
  constant_num (value.Ptr (Function f)) h = false_true h

  mutual
    pub expr_num : (e : Expr) → is_right (sort_of c locals e) ≡ true → Num n e
    expr_num (At span form) h = form_num form h

    form_num : (form : Form) → is_right (sort_of_form c locals form) ≡ true → NumForm n form
    form_num (t.Const v) h = constant_num v h
    form_num (t.Text k) h = tt
    form_num (t.Func f) h = (Decides-ltb f (length c.funcs)).0 (given_right _ _ h).0
    form_num (t.Object p) h = tt
    form_num (t.Load p kind) h = expr_num p (gives_right scalar.Ptr _ (given_right _ _ h).0)
    form_num (t.Store p at kind e) h = let b = and_parts _ _ (given_right _ _ h).0 in (expr_num p (gives_right scalar.Ptr _ b.0), expr_num e (gives_right kind _ b.1))
    form_num (t.CopyRecord p to_at q from_at size) h =
        let b = and_parts _ _ (and_parts _ _ (given_right _ _ h).0).0 in (expr_num p (gives_right scalar.Ptr _ b.0), expr_num q (gives_right scalar.Ptr _ b.1))
    form_num (t.Convert kind e) h = expr_num e (integer_right _ (given_right _ _ h).0)
    form_num (t.Truth e negated) h = expr_num e (scalar_right _ (given_right _ _ h).0)
    form_num (t.Arith op a b) h = let p = and_parts _ _ (given_right _ _ h).0 in (expr_num a (promoted_right _ p.0), expr_num b (one_kind_right _ _ p.1).1)
    form_num (t.ShiftBits left a b) h = let p = and_parts _ _ (given_right _ _ h).0 in (expr_num a (promoted_right _ p.0), expr_num b (promoted_right _ p.1))
    form_num (t.CompareInt op a b) h = let p = one_kind_right _ _ (given_right _ _ h).0 in (expr_num a p.0, expr_num b p.1)
    form_num (t.PtrAdd p i size minus) h =
        let b = and_parts _ _ (and_parts _ _ (given_right _ _ h).0).0 in (expr_num p (gives_right scalar.Ptr _ b.0), expr_num i (integer_right _ b.1))
    form_num (t.PtrDiff p q size) h =
        let b = and_parts _ _ (and_parts _ _ (given_right _ _ h).0).0 in (expr_num p (gives_right scalar.Ptr _ b.0), expr_num q (gives_right scalar.Ptr _ b.1))
    form_num (t.ComparePtr op p q) h = let b = and_parts _ _ (given_right _ _ h).0 in (expr_num p (gives_right scalar.Ptr _ b.0), expr_num q (gives_right scalar.Ptr _ b.1))
    form_num (t.Both a b) h = let p = and_parts _ _ (given_right _ _ h).0 in (expr_num a (integer_right _ p.0), expr_num b (integer_right _ p.1))
    form_num (t.Either a b) h = let p = and_parts _ _ (given_right _ _ h).0 in (expr_num a (integer_right _ p.0), expr_num b (integer_right _ p.1))
    form_num (t.Choose a b d) h =
        let p = given_right _ _ h in
        let q = either_right (sort_of c locals b) (sort_of c locals d) p.1 in
        (expr_num a (integer_right _ p.0), expr_num b q.0, expr_num d q.1)
    form_num (t.Then a b) h = let p = given_right (is_right (sort_of c locals a)) (sort_of c locals b) h in (expr_num a p.0, expr_num b p.1)
    form_num (t.Modify p at kind op e common post) h =
        let b = and_parts _ _ (given_right _ _ h).0 in (expr_num p (gives_right scalar.Ptr _ b.0), expr_num e (modifies_right op kind common _ b.1))
    form_num (t.Call f type es used) h =
        let p = given_right (is_pointer (sort_of c locals f)) (call_sort (signature type) (sorts_of c locals es) used) h in
        let a = args_num es (signature type).takes (given_right (agree (signature type).takes (sorts_of c locals es)) (if used then used_sort (signature type).gives else Void) p.1).0 in
        (expr_num f (gives_right scalar.Ptr _ p.0), a.0)
    form_num (t.LibCall k es m) h =
        let g = agreed (slice_get (marked_types m) k) (sorts_of c locals es) h in
        let a = args_num es (signature g.0).takes g.2 in
        (a.0, sited k es m g.0 g.1 a.1)
    form_num (t.Mark k) h = tt

    args_num : (es : Exprs) (takes : List Scalar) → agree takes (sorts_of c locals es) ≡ true → NumAll n es × (count_of es ≡ length takes)
    args_num no_exprs [] h = (tt, refl)
    args_num no_exprs (s ∷ takes) h = false_true h
    args_num (one_expr e es) [] h = false_true h
    args_num (one_expr e es) (s ∷ takes) h =
        let p = and_parts (gives s (sort_of c locals e)) (agree takes (sorts_of c locals es)) h in
        let a = args_num es takes p.1 in
        ((expr_num e (gives_right s _ p.0), a.0), (let k = a.1 in ap suc k))

  items_num : (x : ℕ) (es : Exprs) → good_items c locals x es ≡ true → NumAll n es
  items_num x no_exprs h = tt
  items_num x (one_expr e es) h = let p = and_parts _ _ h in (expr_num e (and_parts _ _ p.0).1, items_num x es p.1)

  step_num : (e : MaybeExpr) → good_step c locals e ≡ true → NumMaybe n e
  step_num NoExpr h = tt
  step_num (TheExpr e) h = expr_num e h

  return_num : (result : Option Scalar) (e : MaybeExpr) → good_return c locals result e ≡ true → NumMaybe n e
  return_num result NoExpr h = tt
  return_num None (TheExpr e) h = false_true h
  return_num (Some s) (TheExpr e) h = expr_num e (gives_right s _ h)

-- ---- statements

module _ (c : Program) (result : Option Scalar) where
  mutual
    stmt_num : (x : Stmt) (locals : List ℕ) (in_loop : Bool) → good_stmt c result locals in_loop x ≡ true → NumStmt (length c.funcs) x
    stmt_num (t.Block objects ss) locals in_loop h = stmts_num ss (names objects ++ locals) in_loop (and_parts (good_objects locals objects) _ h).1
    stmt_num (t.Do e) locals in_loop h = expr_num c locals e h
    stmt_num (t.Init x zeros items) locals in_loop h = items_num c locals x items (and_parts (has x locals) _ h).1
    stmt_num (t.If e a b) locals in_loop h =
        let p = and_parts _ (good_else c result locals in_loop b) h in
        let q = and_parts _ (good_stmt c result locals in_loop a) p.0 in
        (expr_num c locals e (integer_right _ q.0), stmt_num a locals in_loop q.1, else_num b locals in_loop p.1)
    stmt_num (t.Loop first e step b) locals in_loop h =
        let p = and_parts _ (good_stmt c result locals true b) h in
        let q = and_parts _ (good_step c locals step) p.0 in
        (expr_num c locals e (integer_right _ q.0), step_num c locals step q.1, stmt_num b locals true p.1)
    stmt_num t.Break locals in_loop h = tt
    stmt_num t.Continue locals in_loop h = tt
    stmt_num (t.Return e) locals in_loop h = return_num c locals result e h

    else_num : (x : Else) (locals : List ℕ) (in_loop : Bool) → good_else c result locals in_loop x ≡ true → NumElse (length c.funcs) x
    else_num NoElse locals in_loop h = tt
    else_num (Otherwise b) locals in_loop h = stmt_num b locals in_loop h

    stmts_num : (xs : Stmts) (locals : List ℕ) (in_loop : Bool) → good_stmts c result locals in_loop xs ≡ true → NumStmts (length c.funcs) xs
    stmts_num no_stmts locals in_loop h = tt
    stmts_num (one_stmt x xs) locals in_loop h = let p = and_parts _ (good_stmts c result locals in_loop xs) h in (stmt_num x locals in_loop p.0, stmts_num xs locals in_loop p.1)

-- ---- programs

module _ (c : Program) where
  body_num : (f : t.Function) (body : Option Stmt) → good_body c f body ≡ true → NumBody (length c.funcs) body
  body_num f None h = tt
  body_num f (Some body) h = stmt_num c (signature f.ty).gives body (numbers 0 f.params) false h

  pub funcs_num : (funcs : List t.Function) → good_functions c funcs ≡ true → NumFuncs (length c.funcs) funcs
  funcs_num [] h = tt
  funcs_num (f ∷ funcs) h = let p = and_parts _ (good_functions c funcs) h in (body_num f f.body (and_parts _ (good_body c f f.body) p.0).1, funcs_num funcs p.1)

  pointer_num : (p : Pointer) → good_pointer c p ≡ true → PointerIn (length c.funcs) p
  pointer_num Null h = tt
  pointer_num (Object k i) h = tt
  pointer_num (Function f) h = (Decides-ltb f (length c.funcs)).0 h

  cell_num : (x : Cell) → good_cell c x ≡ true → CellIn (length c.funcs) x
  cell_num Undefined h = tt
  cell_num (Byte b) h = tt
  cell_num (Part p i) h = pointer_num p (and_parts (good_pointer c p) _ h).0

  cells_num : (size : ℕ) (cells : List (ℕ × Cell)) → good_cells c size cells ≡ true → InitialIn (length c.funcs) cells
  cells_num size [] h = tt
  cells_num size (x ∷ cells) h = let p = and_parts _ (good_cells c size cells) h in (cell_num x.1 (and_parts _ (good_cell c x.1) p.0).1, cells_num size cells p.1)

  object_num : (o : FixedObject) (defined : Bool) → (let r : Bool = if defined then is_size o.size && good_cells c o.size o.cells else not o.read_only && good_cells c 0 o.cells in r ≡ true) → InitialIn (length c.funcs) o.cells
  object_num o true h = cells_num o.size o.cells (and_parts (is_size o.size) _ h).1
  object_num o false h = cells_num 0 o.cells (and_parts (not o.read_only) _ h).1

  pub fixed_num : (fixed : List FixedObject) → good_fixed c fixed ≡ true → NumFixed (length c.funcs) fixed
  fixed_num [] h = tt
  fixed_num (o ∷ fixed) h = let p = and_parts _ (good_fixed c fixed) h in (object_num o o.defined p.0, fixed_num fixed p.1)
