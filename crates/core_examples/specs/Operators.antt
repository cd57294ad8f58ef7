-- Constants, operators and conversions (ISO/IEC 9899:2018, 6.3, 6.4.4, 6.5.3 to 6.5.15, 6.5.17).
use Rattle.std.specs.Prelude.{List, [], ◌∷◌, codes, pos, negsuc, true, false}
use Rattle.num_ops.specs.declared.kinds.IntKind.TheVariants as k
use Rattle.num_ops.specs.declared.arithmetic.Op.TheVariants as op
use Rattle.num_ops.specs.declared.shifts.Cmp.TheVariants as cmp
use Rattle.c_core.specs.Tree as core
use Rattle.core_examples.specs.Found.{Row}
use Rattle.core_examples.specs.Wanted.{becomes, x, number, int, long, size, null, func, load, convert, truth, negated, arith, compare, compare_pointers, forward, back, c, a, the_i, the_l, the_c, the_u, the_b, the_p, the_s, the_q, the_h}

unfoldable pub rows : List Row
rows =
    -- constants have their kinds; sizes stand as numbers
    becomes (codes "10") (int 10)
    ∷ becomes (codes "10u") (number k.UInt (pos 10))
    ∷ becomes (codes "0x80000000") (number k.UInt (pos 2147483648))
    ∷ becomes (codes "2147483648") (long 2147483648)
    ∷ becomes (codes "'\\377'") (number k.Int (negsuc 0))
    ∷ becomes (codes "E") (int 7)
    ∷ becomes (codes "sizeof(struct t)") (size 16)
    ∷ becomes (codes "sizeof a") (size 16)
    ∷ becomes (codes "sizeof i++") (size 4)
    ∷ becomes (codes "(void *)0") null
    -- unary operators
    ∷ becomes (codes "+c") the_c
    ∷ becomes (codes "+l") the_l
    ∷ becomes (codes "-c") (arith op.Sub (int 0) the_c)
    ∷ becomes (codes "-u") (arith op.Sub (number k.UInt (pos 0)) the_u)
    ∷ becomes (codes "~c") (arith op.BitXor the_c (number k.Int (negsuc 0)))
    ∷ becomes (codes "~u") (arith op.BitXor the_u (number k.UInt (pos 4294967295)))
    ∷ becomes (codes "!i") (negated the_i)
    ∷ becomes (codes "!c") (negated (load k.Char c))
    ∷ becomes (codes "!p") (negated the_p)
    -- two integers are computed in their common kind
    ∷ becomes (codes "i * c") (arith op.Mul the_i the_c)
    ∷ becomes (codes "i / l") (arith op.Div (convert k.Long the_i) the_l)
    ∷ becomes (codes "u % i") (arith op.Rem the_u (convert k.UInt the_i))
    ∷ becomes (codes "c + b") (arith op.Add the_c the_b)
    ∷ becomes (codes "l - u") (arith op.Sub the_l (convert k.Long the_u))
    ∷ becomes (codes "l & c") (arith op.BitAnd the_l (convert k.Long (load k.Char c)))
    ∷ becomes (codes "i ^ 1") (arith op.BitXor the_i (int 1))
    ∷ becomes (codes "i | 1u") (arith op.BitOr (convert k.UInt the_i) (number k.UInt (pos 1)))
    -- the operands of a shift each by itself
    ∷ becomes (codes "c << l") (x (core.ShiftBits true the_c the_l))
    ∷ becomes (codes "u >> c") (x (core.ShiftBits false the_u the_c))
    -- comparisons
    ∷ becomes (codes "i < u") (compare cmp.Lt (convert k.UInt the_i) the_u)
    ∷ becomes (codes "c > c") (compare cmp.Gt the_c the_c)
    ∷ becomes (codes "l <= i") (compare cmp.Le the_l (convert k.Long the_i))
    ∷ becomes (codes "i >= b") (compare cmp.Ge the_i the_b)
    ∷ becomes (codes "i == 0") (compare cmp.Eq the_i (int 0))
    ∷ becomes (codes "p != 0") (compare_pointers cmp.Ne the_p null)
    ∷ becomes (codes "0 == p") (compare_pointers cmp.Eq null the_p)
    ∷ becomes (codes "p < a") (compare_pointers cmp.Lt the_p a)
    ∷ becomes (codes "h == g") (compare_pointers cmp.Eq the_h (func 0))
    -- a pointer and a number of elements, the pointer first
    ∷ becomes (codes "p + c") (forward the_p (load k.Char c) 4)
    ∷ becomes (codes "1 + s") (forward the_s (int 1) 1)
    ∷ becomes (codes "q - l") (back the_q the_l 16)
    ∷ becomes (codes "a + 1") (forward a (int 1) 4)
    ∷ becomes (codes "p - a") (x (core.PtrDiff the_p a 4))
    -- a pointer that is tested is compared with null
    ∷ becomes (codes "i && p") (x (core.Both the_i (truth the_p)))
    ∷ becomes (codes "a || c") (x (core.Either (truth a) (load k.Char c)))
    ∷ becomes (codes "p ? i : l") (x (core.Choose (truth the_p) (convert k.Long the_i) the_l))
    ∷ becomes (codes "i ? p : 0") (x (core.Choose the_i the_p null))
    ∷ becomes (codes "i ? (void *)0 : s") (x (core.Choose the_i null the_s))
    ∷ becomes (codes "i ? c : c") (x (core.Choose the_i the_c the_c))
    ∷ becomes (codes "i ? (void)0 : (void)l") (x (core.Choose the_i (int 0) the_l))
    ∷ becomes (codes "i, p") (x (core.Then the_i the_p))
    -- casts
    ∷ becomes (codes "(char)i") (convert k.Char the_i)
    ∷ becomes (codes "(int)i") the_i
    ∷ becomes (codes "(_Bool)i") (convert k.Bool the_i)
    ∷ becomes (codes "(_Bool)p") (convert k.Bool (truth the_p))
    ∷ becomes (codes "(char *)p") the_p
    ∷ becomes (codes "(void)i") the_i
    ∷ []
