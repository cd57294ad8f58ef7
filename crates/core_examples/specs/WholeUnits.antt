-- Whole units: their cores, and whether these are well-formed.
use Rattle.std.specs.Prelude.{List, [], ◌∷◌, codes, true, false, Some, None}
use Rattle.num_ops.specs.declared.kinds.IntKind.TheVariants as k
use Rattle.num_ops.specs.declared.arithmetic.Op.TheVariants as op
use Rattle.c_core.specs.declared.tree.LibMark.TheVariants as mark
use Rattle.c_core.specs.Tree as core
use Rattle.c_core.specs.Tree.{Expr, Stmt, TheExpr}
use Rattle.core_examples.specs.Found.{Row, has_core, is_formed, large_is_formed}
use Rattle.core_examples.specs.Wanted.{int, local, fixed, load, load_pointer, store, store_pointer, convert, arith, forward, library, with_objects, init}
use Rattle.core_examples.specs.FixedObjects as is

-- p[1]
abbrev second : Expr
second = forward (load_pointer (local 0)) (int 1) 1

abbrev main_body : Stmt
main_body =
    with_objects ((0, 8) ∷ [])
    (init 0 (store_pointer (local 0) (library 0 (convert k.ULong (int 8) ∷ []) (mark.Site 0)) ∷ [])
    ∷ core.Do (store k.Char second (convert k.Char (int 97)))
    ∷ core.Return (TheExpr (arith op.Add (convert k.Int (load k.Char second)) (load k.Int (fixed 0)))) ∷ [])

unfoldable pub rows : List Row
rows =
    has_core (codes "void *malloc(unsigned long); static int one = 1; int main(void) { char *p = malloc(8); p[1] = 'a'; return p[1] + one; }")
    (record {
      funcs =
          record { name = codes "malloc"; ty = codes "void *(unsigned long)"; params = 8 ∷ []; body = None }
          ∷ record { name = codes "main"; ty = codes "int (void)"; params = []; body = Some main_body }
          ∷ [];
      fixed = record { size = 4; read_only = false; defined = true; cells = is.byte 0 1 ∷ [] } ∷ [];
      main = Some 1;
    })
    -- well-formed where there is a `main` of its type
    ∷ is_formed (codes "void *malloc(unsigned long); static int one = 1; int main(void) { char *p = malloc(8); p[1] = 'a'; return p[1] + one; }") true
    ∷ is_formed (codes "int f(void) { return 0; }") false
    ∷ is_formed (codes "int main(void) { }") true
    ∷ is_formed (codes "struct t { char c; int n[2]; char *s; } x = { 1, { 2 }, \"ab\" }; int *p = &x.n[1]; int main(void) { struct t y = x, z[2] = { { 'a', { 1, 2 }, 0 } }; char s[] = \"abc\"; y = z[1]; return y.n[0] + s[2]; }") true
    ∷ is_formed (codes "_Bool b; char c; long l; int *p; int main(void) { b = p; b += c; c <<= l; l -= b; p += c; ++p; --b; c = p - p ? -c : ~l; b = !p || p && l; p = b ? p : 0; return p == 0; }") true
    ∷ is_formed (codes "int f(char, int *); void v(void); int (*h)(char, int *) = f; int main(void) { f(1, 0); v(); return h(f(2, 0), 0) + (*h)(3, 0); }") true
    ∷ is_formed (codes "int putchar(int); void free(void *), exit(int); void (*e)(int) = exit; int main(void) { for (int i = 0, *p = 0; i < 3; i++) { if (!p) continue; putchar(i); break; } do e(1); while (0); free(0); return 0; }") true
    ∷ is_formed (codes "void *malloc(unsigned long), *__alloc_token_malloc(unsigned long, unsigned long), *__alloc_token_3_malloc(unsigned long); int main(void) { void *p = malloc(1); p = __alloc_token_malloc(2, 3); p = __alloc_token_3_malloc(4); p = (*__alloc_token_malloc)(5, 6); return __builtin_infer_alloc_token(p) == 0; }") true
    ∷ is_formed (codes "enum e { A = -1, B }; enum e f(enum e x) { return x; } union u { int n; char *s; }; extern union u w; int main(void) { static union u a = { A }; w.s = \"x\" + 1; a.n = f(B); (void)w; a; return sizeof(union u); }") true
    -- a list of lines that are read, and written back
    ∷ large_is_formed (codes "typedef unsigned long size_t; extern void *malloc(size_t); extern void *realloc(void *, size_t); extern void free(void *); extern int getchar(void); extern int putchar(int); struct buf { char *data; size_t len, cap; }; typedef struct node node; struct node { node *next; struct buf text; }; static int push(struct buf *b, int c) { if (b->len == b->cap) { size_t want = b->cap ? b->cap * 2 : 4; char *bigger = realloc(b->data, want); if (!bigger) return 0; b->data = bigger; b->cap = want; } b->data[b->len++] = (char)c; return 1; } static node *read_line(void) { node *n; int c = getchar(); if (c < 0) return 0; n = malloc(sizeof *n); if (!n) return 0; n->next = 0; n->text.data = 0; n->text.len = n->text.cap = 0; while (c >= 0 && c != '\\n') { if (!push(&n->text, c)) break; c = getchar(); } return n; } int main(void) { node *head = 0, *n; size_t i; while ((n = read_line()) != 0) { n->next = head; head = n; } while (head) { n = head; for (i = 0; i < n->text.len; i++) putchar(n->text.data[i]); putchar('\\n'); head = n->next; free(n->text.data); free(n); } return 0; }") true
    ∷ []
