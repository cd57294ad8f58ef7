-- More small programs, written as core trees: the library, and the ends that no other example has.
use Rattle.std.specs.Prelude.{ℕ, true, false, List, [], ◌∷◌, Some, None, codes}
use Rattle.num_ops.specs.declared.kinds.IntKind.TheVariants as k
use Rattle.c_core.specs.declared.values.Cell.TheVariants.{Byte}
use Rattle.c_core.specs.declared.values.Scalar.TheVariants as scalar
use Rattle.c_core.specs.declared.tree.LibMark.TheVariants as mark
use Rattle.c_core.specs.declared.tree.ModifyOp.TheVariants as modify
use Rattle.c_core.specs.declared.tree.FixedObject.{FixedObject}
use Rattle.c_core.specs.Tree.{Expr, At, Text, Load, CopyRecord, Convert, PtrAdd, Modify, Call, no_exprs, Block, Do, no_stmts, one_stmt, Program}
use Rattle.c_meaning.specs.Programs.{span, local, value_of, number, size, library, one, two, three, char_at, set_char, is_zero, init, set, return, main_of, program, malloc, text_a}

-- the sixth byte of what a local points at
abbrev pub sixth : Expr
sixth = At (span 0) (Convert k.Int (At (span 90) (Load (At (span 0) (PtrAdd (value_of 0 scalar.Ptr) (number 5) 1 false)) (scalar.Int k.Char))))

-- char *p = calloc(2, 3); return p[5];
abbrev pub zeroed_block : Program
zeroed_block =
    program (Block ((0, 8) ∷ [])
    (one_stmt (init 0 scalar.Ptr (library 1 (two (size 2) (size 3)) (mark.Site 0)))
    (one_stmt (return sixth) no_stmts)))

-- return calloc(9223372036854775808, 4) == 0;
abbrev pub too_large : Program
too_large = program (return (is_zero (library 1 (two (size 9223372036854775808) (size 4)) (mark.Site 0))))

-- return malloc(16) == 0; for the token 5
abbrev pub no_such_range : Program
no_such_range = program (return (is_zero (malloc (mark.Fixed 5) 16)))

-- char *p = malloc(4); *p = 7; p = realloc(p, 8); return *p;
abbrev pub grown_block : Program
grown_block =
    program (Block ((0, 8) ∷ [])
    (one_stmt (init 0 scalar.Ptr (malloc (mark.Site 0) 4))
    (one_stmt (set_char 0 7)
    (one_stmt (Do (set 0 scalar.Ptr (library 2 (two (value_of 0 scalar.Ptr) (size 8)) (mark.Site 1))))
    (one_stmt (return (char_at 0 0)) no_stmts)))))

-- the texts "a" and "b"
abbrev pub texts : List FixedObject
texts = text_a ∷ record text_a { cells = (0, Byte 98) ∷ [] } ∷ []

abbrev pub text : ℕ → Expr
text n = At (span 0) (Text n)

-- return what this gives, with the two texts
abbrev pub of_texts : Expr → Program
of_texts e = record { funcs = main_of (return e) ∷ []; fixed = texts; main = Some 0 }

-- return memcmp("a", text, count);
abbrev pub compares : (other count : ℕ) → Program
compares other count = of_texts (library 9 (three (text 0) (text other) (size count)) mark.Untagged)

abbrev pub length_from : ℕ → Expr
length_from offset = At (span 0) (Convert k.Int (library 10 (one (At (span 0) (PtrAdd (text 0) (number offset) 1 false))) mark.Untagged))

-- struct s { int a; } x = { 5 }, y; y = x; return y.a;
abbrev pub copied : Program
copied =
    program (Block ((0, 4) ∷ (1, 4) ∷ [])
    (one_stmt (init 0 (scalar.Int k.Int) (number 5))
    (one_stmt (Do (At (span 0) (CopyRecord (local 1) (span 30) (local 0) (span 31) 4)))
    (one_stmt (return (value_of 1 (scalar.Int k.Int))) no_stmts))))

-- int f(void) with this body; int main(void) { return f(); }
abbrev pub calls_f : Expr → Program
calls_f function = record {
  funcs = main_of (return (At (span 60) (Call function (codes "int (void)") no_exprs true)))
      ∷ record { name = codes "f"; ty = codes "int (void)"; params = []; body = Some (Block [] no_stmts) }
      ∷ record { name = codes "g"; ty = codes "int (void)"; params = []; body = None } ∷ [];
  fixed = [];
  main = Some 0;
}

-- int x; free(&x); return 0;
abbrev pub frees_local : Program
frees_local =
    program (Block ((0, 4) ∷ [])
    (one_stmt (Do (library 3 (one (local 0)) mark.Untagged))
    (one_stmt (return (number 0)) no_stmts)))

-- char a[4194304]; return 0;
abbrev pub large_local : Program
large_local = program (Block ((0, 4194304) ∷ []) (one_stmt (return (number 0)) no_stmts))

-- char *p = "a"; p += n; return *p;
abbrev pub moves_pointer : ℕ → Program
moves_pointer n = record {
  funcs = main_of (Block ((0, 8) ∷ [])
      (one_stmt (init 0 scalar.Ptr (text 0))
      (one_stmt (Do (At (span 40) (Modify (local 0) (span 0) scalar.Ptr (modify.PtrAdd 1 false) (number n) k.Int false)))
      (one_stmt (return (char_at 0 50)) no_stmts)))) ∷ [];
  fixed = texts;
  main = Some 0;
}
