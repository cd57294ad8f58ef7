-- Names, lvalues, assignments and steps (ISO/IEC 9899:2018, 6.3.2.1, 6.5.1 to 6.5.3, 6.5.16).
use Rattle.std.specs.Prelude.{List, [], ◌∷◌, codes, pos, true, false}
use Rattle.num_ops.specs.declared.kinds.IntKind.TheVariants as k
use Rattle.num_ops.specs.declared.arithmetic.Op.TheVariants as op
use Rattle.core_examples.specs.Found.{Row}
use Rattle.core_examples.specs.Wanted.{becomes, number, int, long, null, text, func, load, load_pointer, store, store_pointer, copy, convert, truth, forward, part, change, change_after, change_shift, change_pointer, i, l, c, u, b, p, s, a, r, q, h, the_i, the_l, the_c, the_u, the_p, the_s, the_q}

unfoldable pub rows : List Row
rows =
    -- a scalar is loaded; an array, a struct and a function stand for their addresses
    becomes (codes "i") the_i
    ∷ becomes (codes "((p))") the_p
    ∷ becomes (codes "a") a
    ∷ becomes (codes "r") r
    ∷ becomes (codes "g") (func 0)
    ∷ becomes (codes "\"ab\"") (text 11)
    ∷ becomes (codes "*p") (load k.Int the_p)
    ∷ becomes (codes "*a") (load k.Int a)
    ∷ becomes (codes "*h") (load_pointer h)
    ∷ becomes (codes "*q") the_q
    ∷ becomes (codes "&i") i
    ∷ becomes (codes "&a") a
    ∷ becomes (codes "&g") (func 0)
    ∷ becomes (codes "&*p") the_p
    ∷ becomes (codes "&a[i]") (forward a the_i 4)
    ∷ becomes (codes "a[2]") (load k.Int (forward a (int 2) 4))
    ∷ becomes (codes "l[p]") (load k.Int (forward the_p the_l 4))
    ∷ becomes (codes "\"ab\"[c]") (load k.Char (forward (text 11) (load k.Char c) 1))
    -- a member stands at its offset, also at 0
    ∷ becomes (codes "r.c") (load k.Char (part r 0))
    ∷ becomes (codes "r.n") (load k.Int (part r 4))
    ∷ becomes (codes "q->n") (load k.Int (part the_q 4))
    ∷ becomes (codes "q->m") (part the_q 8)
    ∷ becomes (codes "q[1].m[i]") (load k.Int (forward (part (forward the_q (int 1) 16) 8) the_i 4))
    ∷ becomes (codes "&(*q).c") (part the_q 0)
    -- what is stored is converted
    ∷ becomes (codes "i = 1") (store k.Int i (int 1))
    ∷ becomes (codes "c = i") (store k.Char c (convert k.Char the_i))
    ∷ becomes (codes "l = c = 1") (store k.Long l (convert k.Long (store k.Char c (convert k.Char (int 1)))))
    ∷ becomes (codes "b = p") (store k.Bool b (convert k.Bool (truth the_p)))
    ∷ becomes (codes "b = l") (store k.Bool b (convert k.Bool the_l))
    ∷ becomes (codes "p = 0") (store_pointer p null)
    ∷ becomes (codes "p = a") (store_pointer p a)
    ∷ becomes (codes "h = g") (store_pointer h (func 0))
    ∷ becomes (codes "(a[1]) = i") (store k.Int (forward a (int 1) 4) the_i)
    ∷ becomes (codes "r = *q") (copy r the_q 16)
    -- a compound assignment: integers of each rank, shifts, pointers
    ∷ becomes (codes "i += 1") (change k.Int i op.Add k.Int (int 1))
    ∷ becomes (codes "i -= l") (change k.Int i op.Sub k.Long the_l)
    ∷ becomes (codes "l *= u") (change k.Long l op.Mul k.Long (convert k.Long the_u))
    ∷ becomes (codes "c /= c") (change k.Char c op.Div k.Int the_c)
    ∷ becomes (codes "b |= 2") (change k.Bool b op.BitOr k.Int (int 2))
    ∷ becomes (codes "u %= i") (change k.UInt u op.Rem k.UInt (convert k.UInt the_i))
    ∷ becomes (codes "r.n &= 3") (change k.Int (part r 4) op.BitAnd k.Int (int 3))
    ∷ becomes (codes "*p ^= u") (change k.Int the_p op.BitXor k.UInt the_u)
    ∷ becomes (codes "c <<= l") (change_shift k.Char c true k.Int the_l)
    ∷ becomes (codes "l >>= c") (change_shift k.Long l false k.Long the_c)
    ∷ becomes (codes "p += c") (change_pointer p 4 false k.Int the_c false)
    ∷ becomes (codes "q -= l") (change_pointer q 16 true k.Long the_l false)
    -- steps
    ∷ becomes (codes "++i") (change k.Int i op.Add k.Int (int 1))
    ∷ becomes (codes "--c") (change k.Char c op.Sub k.Int (int 1))
    ∷ becomes (codes "l++") (change_after k.Long l op.Add k.Long (long 1))
    ∷ becomes (codes "u--") (change_after k.UInt u op.Sub k.UInt (number k.UInt (pos 1)))
    ∷ becomes (codes "b++") (change_after k.Bool b op.Add k.Int (int 1))
    ∷ becomes (codes "++p") (change_pointer p 4 false k.Int (int 1) false)
    ∷ becomes (codes "s--") (change_pointer s 1 true k.Int (int 1) true)
    ∷ becomes (codes "*p++ = *s") (store k.Int (change_pointer p 4 false k.Int (int 1) true) (convert k.Int (load k.Char the_s)))
    ∷ []
