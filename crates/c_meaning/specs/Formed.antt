-- Which small programs are well formed, all by computation: the worked examples, and programs that differ from a
-- well-formed one in one part.
use Rattle.std.specs.Prelude.{◌≡◌, ℕ, Bool, true, false, List, [], ◌∷◌, pos, Some, None, codes}
use Rattle.num_ops.specs.declared.kinds.IntKind.TheVariants as k
use Rattle.num_ops.specs.declared.arithmetic.Op.TheVariants as op
use Rattle.num_ops.specs.declared.shifts.Cmp.TheVariants as cmp
use Rattle.c_core.specs.declared.values.Pointer.TheVariants.{Function as AFunction, Object as AnObject}
use Rattle.c_core.specs.declared.values.Value.TheVariants as value
use Rattle.c_core.specs.declared.values.Cell.{Cell}
use Rattle.c_core.specs.declared.values.Cell.TheVariants.{Undefined, Byte, Part}
use Rattle.c_core.specs.declared.values.Scalar.{Scalar}
use Rattle.c_core.specs.declared.values.Scalar.TheVariants as scalar
use Rattle.c_core.specs.declared.tree.Place.TheVariants as place
use Rattle.c_core.specs.declared.tree.LibMark.TheVariants as mark
use Rattle.c_core.specs.declared.tree.ModifyOp.{ModifyOp}
use Rattle.c_core.specs.declared.tree.ModifyOp.TheVariants as modify
use Rattle.c_core.specs.declared.tree.FixedObject.{FixedObject}
use Rattle.c_core.specs.Tree.{Expr, At, Form, Const, Text, Func, Object, Load, Store, CopyRecord, Convert, Truth, Arith, ShiftBits, CompareInt, PtrAdd, PtrDiff, ComparePtr, Both, Choose, Then, Modify, Call, LibCall, Mark, Exprs, no_exprs, NoExpr, Stmt, Block, Do, Init, If, Loop, Break, Continue, Return, NoElse, no_stmts, one_stmt, Function, Program}
use Rattle.c_core.specs.WellFormed.{well_formed}
use Rattle.c_meaning.specs.Rules.{int}
use Rattle.c_meaning.specs.Programs.{span, local, number, size, null, library, one, two, three, set, return, main_of, program, read_of_new_block, read_of_dead_block, third_is_refused, refused_realloc, three_turns, overflow, echo, calls_sum, sum_type, other_type, sum, calls_itself, text_a, torn, overlapping, writes_text}

abbrev pub WorkedExamplesAreFormed : Type 0
WorkedExamplesAreFormed =
    (well_formed read_of_new_block ≡ true)
    × (well_formed read_of_dead_block ≡ true)
    × (well_formed third_is_refused ≡ true)
    × (well_formed refused_realloc ≡ true)
    × (well_formed three_turns ≡ true)
    × (well_formed overflow ≡ true)
    × (well_formed echo ≡ true)
    × (well_formed (calls_sum sum_type) ≡ true)
    × (well_formed (calls_sum other_type) ≡ true)
    × (well_formed calls_itself ≡ true)
    × (well_formed torn ≡ true)
    × (well_formed overlapping ≡ true)
    × (well_formed writes_text ≡ true)

abbrev expr : Form → Expr
expr form = At (span 0) form

abbrev an_int : Scalar
an_int = scalar.Int k.Int

-- a program with an `int` 0 and a pointer 1, which does this and returns 0
abbrev does : Stmt → Program
does s = program (Block ((0, 4) ∷ (1, 8) ∷ []) (one_stmt s (one_stmt (return (number 0)) no_stmts)))

-- `main` returns this
abbrev gives : Form → Program
gives form = program (return (expr form))

abbrev evaluates : Form → Program
evaluates form = does (Do (expr form))

-- a character constant that was not promoted
abbrev char : ℕ → Expr
char n = expr (Const (int k.Char (pos n)))

-- parts of operators
abbrev pub OperandExamples : Type 0
OperandExamples =
    -- a place is a pointer
    (well_formed (evaluates (Load (local 0) an_int)) ≡ true)
    × (well_formed (evaluates (Load (number 3) an_int)) ≡ false)
    × (well_formed (evaluates (CopyRecord (local 0) (span 0) (local 0) (span 0) 4)) ≡ true)
    × (well_formed (evaluates (CopyRecord (local 0) (span 0) (number 3) (span 0) 4)) ≡ false)
    × (well_formed (evaluates (CopyRecord (local 0) (span 0) (local 0) (span 0) 0)) ≡ false)
    -- a `long` is stored in an `int` once it is converted
    × (well_formed (evaluates (Store (local 0) (span 0) an_int (expr (Convert k.Int (size 3))))) ≡ true)
    × (well_formed (evaluates (Store (local 0) (span 0) an_int (size 3))) ≡ false)
    × (well_formed (evaluates (Convert k.Int null)) ≡ false)
    -- operands of one promoted kind
    × (well_formed (evaluates (Arith op.Add (size 1) (size 2))) ≡ true)
    × (well_formed (evaluates (Arith op.Add (number 1) (size 2))) ≡ false)
    × (well_formed (evaluates (Arith op.Add (char 1) (char 2))) ≡ false)
    × (well_formed (evaluates (ShiftBits true (number 1) (size 2))) ≡ true)
    × (well_formed (evaluates (ShiftBits true (number 1) (char 2))) ≡ false)
    × (well_formed (evaluates (CompareInt cmp.Lt (number 1) (size 2))) ≡ false)
    × (well_formed (evaluates (CompareInt cmp.Eq null null)) ≡ false)
    -- pointers
    × (well_formed (evaluates (ComparePtr cmp.Eq (local 0) null)) ≡ true)
    × (well_formed (evaluates (ComparePtr cmp.Eq (local 0) (number 0))) ≡ false)
    × (well_formed (evaluates (PtrAdd (local 0) (char 1) 4 true)) ≡ true)
    × (well_formed (evaluates (PtrAdd (local 0) (local 0) 4 true)) ≡ false)
    × (well_formed (evaluates (PtrAdd (local 0) (number 1) 0 true)) ≡ false)
    × (well_formed (evaluates (PtrAdd (local 0) (number 1) 268435456 true)) ≡ false)
    × (well_formed (evaluates (PtrDiff (local 0) (local 1) 4)) ≡ true)
    × (well_formed (evaluates (PtrDiff (local 0) (local 1) 0)) ≡ false)
    -- what is tested is an integer
    × (well_formed (evaluates (Both (expr (Truth null true)) (size 1))) ≡ true)
    × (well_formed (evaluates (Both (number 1) null)) ≡ false)
    × (well_formed (does (If (number 1) (Do null) NoElse)) ≡ true)
    × (well_formed (does (If null (Do null) NoElse)) ≡ false)

abbrev modifies : ℕ → Scalar → ModifyOp → Expr → Program
modifies x kind operator e = evaluates (Modify (local x) (span 0) kind operator e k.Long false)

abbrev long : ℕ → Expr
long n = expr (Const (int k.Long (pos n)))

abbrev free : Expr → Expr
free e = library 3 (one e) mark.Untagged

abbrev pub ValueExamples : Type 0
ValueExamples =
    -- the operand of a compound assignment is of the kind in which it is computed
    (well_formed (modifies 0 an_int (modify.Arith op.Add) (long 1)) ≡ true)
    × (well_formed (modifies 0 an_int (modify.Arith op.Add) (number 1)) ≡ false)
    × (well_formed (modifies 0 an_int (modify.ShiftBits true) (number 1)) ≡ true)
    × (well_formed (modifies 1 scalar.Ptr (modify.PtrAdd 4 false) (number 1)) ≡ true)
    × (well_formed (modifies 1 scalar.Ptr (modify.Arith op.Add) (long 1)) ≡ false)
    × (well_formed (modifies 0 an_int (modify.PtrAdd 4 false) (number 1)) ≡ false)
    -- what has no value, and two values of different sorts, stand where none is used
    × (well_formed (gives (Then (free null) (number 1))) ≡ true)
    × (well_formed (gives (Then (number 1) (free null))) ≡ false)
    × (well_formed (gives (Choose (number 1) (number 2) (number 3))) ≡ true)
    × (well_formed (gives (Choose (number 1) (number 2) null)) ≡ false)
    × (well_formed (evaluates (Choose (number 1) (number 2) null)) ≡ true)
    -- a constant is a value of its kind, or null
    × (well_formed (evaluates (Const (int k.Char (pos 127)))) ≡ true)
    × (well_formed (evaluates (Const (int k.Char (pos 128)))) ≡ false)
    × (well_formed (evaluates (Const (value.Ptr (AFunction 0)))) ≡ false)
    -- the builtin's token is an `unsigned long`
    × (well_formed (gives (Convert k.Int (expr (Mark 7)))) ≡ true)
    × (well_formed (gives (Mark 7)) ≡ false)

-- `main` does this with `sum` as function 1, and returns 0
abbrev with_sum : Form → Program
with_sum form = record (calls_sum sum_type) { funcs = main_of (Block [] (one_stmt (Do (expr form)) (one_stmt (return (number 0)) no_stmts))) ∷ sum ∷ [] }

abbrev call : List ℕ → Exprs → Bool → Form
call type es used = Call (expr (Func 1)) type es used

abbrev pub CallSortExamples : Type 0
CallSortExamples =
    -- a function gets what its type takes
    (well_formed (with_sum (call sum_type (two (number 1) (number 2)) false)) ≡ true)
    × (well_formed (with_sum (call sum_type (one (number 1)) false)) ≡ false)
    × (well_formed (with_sum (call sum_type (two (number 1) null) false)) ≡ false)
    × (well_formed (with_sum (call sum_type (three (number 1) (number 2) (number 3)) false)) ≡ false)
    × (well_formed (with_sum (Call (number 1) sum_type (two (number 1) (number 2)) false)) ≡ false)
    -- a call of a `void` function has no value to use
    × (well_formed (with_sum (call (codes "void (void)") no_exprs false)) ≡ true)
    × (well_formed (with_sum (call (codes "void (void)") no_exprs true)) ≡ false)
    -- library functions, and which of them are called for a token
    × (well_formed (evaluates (LibCall 0 (one (size 1)) (mark.Site 0))) ≡ true)
    × (well_formed (evaluates (LibCall 0 (one (number 1)) (mark.Site 0))) ≡ false)
    × (well_formed (evaluates (LibCall 0 (one (size 1)) mark.Given)) ≡ false)
    × (well_formed (evaluates (LibCall 0 (one (size 1)) (mark.Fixed 65535))) ≡ true)
    × (well_formed (evaluates (LibCall 0 (one (size 1)) (mark.Fixed 65536))) ≡ false)
    × (well_formed (evaluates (LibCall 3 (one null) mark.Untagged)) ≡ true)
    × (well_formed (evaluates (LibCall 3 (one null) (mark.Site 0))) ≡ false)
    × (well_formed (evaluates (LibCall 13 (two (size 1) (size 1)) mark.Untagged)) ≡ false)

-- `sum` with another type, parameters or body
abbrev with_function : Function → Program
with_function f = record (calls_sum sum_type) { funcs = main_of (return (number 0)) ∷ f ∷ [] }

abbrev declared : List ℕ → List ℕ → List ℕ → Function
declared name type params = record { name = name; ty = type; params = params; body = None }

abbrev pub StatementExamples : Type 0
StatementExamples =
    -- `break` and `continue` stand in a loop
    (well_formed (does (Loop true (number 1) NoExpr Break)) ≡ true)
    × (well_formed (does (If (number 1) Break NoElse)) ≡ false)
    × (well_formed (does Continue) ≡ false)
    × (well_formed (does (Loop true null NoExpr Break)) ≡ false)
    -- a function returns what its type gives
    × (well_formed (does (Return NoExpr)) ≡ false)
    × (well_formed (does (return (size 0))) ≡ false)
    × (well_formed (with_function (record sum { ty = codes "void (int, int)"; body = Some (Return NoExpr) })) ≡ true)
    × (well_formed (with_function (record sum { ty = codes "void (int, int)" })) ≡ false)
    -- an initialiser stores and copies to its own object
    × (well_formed (does (Init 0 false (one (set 0 an_int (number 1))))) ≡ true)
    × (well_formed (does (Init 1 false (one (set 0 an_int (number 1))))) ≡ false)
    × (well_formed (does (Init 0 false (one (number 1)))) ≡ false)
    × (well_formed (does (Init 2 false no_exprs)) ≡ false)
    -- objects live in their block, each with a size and a number of its own
    × (well_formed (does (Block ((2, 4) ∷ []) (one_stmt (Do (local 2)) no_stmts))) ≡ true)
    × (well_formed (does (Block ((2, 0) ∷ []) no_stmts)) ≡ false)
    × (well_formed (does (Block ((1, 4) ∷ []) no_stmts)) ≡ false)
    × (well_formed (does (Block [] (one_stmt (Block ((2, 4) ∷ []) no_stmts) (one_stmt (Do (local 2)) no_stmts)))) ≡ false)

abbrev with_fixed : List FixedObject → Form → Program
with_fixed fixed form = record (evaluates form) { fixed = fixed }

-- the constant 0
abbrev zero : Form
zero = Const (int k.Int (pos 0))

-- an object of eight bytes that may be written
abbrev cells : List (ℕ × Cell) → FixedObject
cells cs = record { size = 8; read_only = false; defined = true; cells = cs }

abbrev pub NameExamples : Type 0
NameExamples =
    -- `main` has a body and its type
    (well_formed (record echo { main = None }) ≡ false)
    × (well_formed (record echo { main = Some 1 }) ≡ false)
    × (well_formed (record echo { funcs = declared (codes "main") (codes "int (void)") [] ∷ [] }) ≡ false)
    × (well_formed (record (calls_sum sum_type) { main = Some 1 }) ≡ false)
    -- functions and objects that are there
    × (well_formed (with_sum (Func 1)) ≡ true)
    × (well_formed (with_sum (Func 2)) ≡ false)
    × (well_formed (evaluates (Object (place.Local 2))) ≡ false)
    × (well_formed (with_fixed (text_a ∷ []) (Text 0)) ≡ true)
    × (well_formed (with_fixed [] (Text 0)) ≡ false)
    × (well_formed (with_fixed (record text_a { read_only = false } ∷ []) (Text 0)) ≡ false)
    × (well_formed (with_fixed (record text_a { read_only = false } ∷ []) (Object (place.Fixed 0))) ≡ true)
    × (well_formed (with_fixed (text_a ∷ []) (Object (place.Fixed 0))) ≡ false)
    × (well_formed (with_fixed (record text_a { defined = false } ∷ []) zero) ≡ false)
    -- the cells of fixed objects
    × (well_formed (with_fixed (cells ((7, Byte 255) ∷ []) ∷ []) zero) ≡ true)
    × (well_formed (with_fixed (cells ((8, Byte 255) ∷ []) ∷ []) zero) ≡ false)
    × (well_formed (with_fixed (cells ((0, Undefined) ∷ []) ∷ []) zero) ≡ false)
    × (well_formed (with_fixed (cells ((0, Part (AnObject 0 8) 0) ∷ []) ∷ []) zero) ≡ true)
    × (well_formed (with_fixed (cells ((0, Part (AnObject 0 9) 0) ∷ []) ∷ []) zero) ≡ false)
    × (well_formed (with_fixed (cells ((0, Part (AFunction 0) 8) ∷ []) ∷ []) zero) ≡ false)
    -- parameters as the type takes them, and library functions by their own types
    × (well_formed (with_function (record sum { params = 4 ∷ 8 ∷ [] })) ≡ false)
    × (well_formed (with_function (declared (codes "malloc") (codes "void *(unsigned long)") (8 ∷ []))) ≡ true)
    × (well_formed (with_function (declared (codes "malloc") (codes "void *(int)") (4 ∷ []))) ≡ false)
    × (well_formed (with_function (declared (codes "__alloc_token_malloc") (codes "void *(unsigned long)") (8 ∷ []))) ≡ false)
    × (well_formed (with_function (declared (codes "other") (codes "void *(int)") (4 ∷ []))) ≡ true)
