-- A table that grows.
use Rattle.std.proofs.Common.{◌≡◌, ℕ, List, [], ◌∷◌, ◌++◌, length, ap, arith, length-append}
use Rattle.c_types.specs.Table.{Table, Grows}
use Rattle.c_types.specs.declared.records.Head.{Head}
use Rattle.c_types.proofs.Growing.{grows_self, grows_on}
use Rattle.c_world.specs.Extends.{Extends}

pub extends_self : (t : Table) → Extends t t
extends_self t = record { grows = grows_self t.terms; records = omega arith; enums = omega arith }

pub extends_on : (a b c : Table) → Extends a b → Extends b c → Extends a c
extends_on a b c e f =
    let rs = e.records in
    let rt = f.records in
    let es = e.enums in
    let et = f.enums in
    record { grows = grows_on a.terms b.terms c.terms e.grows f.grows; records = omega arith; enums = omega arith }

-- a table that a later step leaves as it is
pub extends_to : (a b c : Table) → Extends a b → c ≡ b → Extends a c
extends_to a b c e same = rw same e

-- a record or an enumeration more
pub extends_record : (a b : Table) (h : Head) → Grows a.terms b.terms → b.records ≡ a.records ++ h ∷ [] → b.enums ≡ a.enums → Extends a b
extends_record a b h g r e =
    let rl : length b.records ≡ length (a.records ++ h ∷ []) = ap length r in
    let el : length b.enums ≡ length a.enums = ap length e in
    let more = length-append a.records (h ∷ []) in
    record { grows = g; records = omega arith; enums = omega arith }

pub extends_enum : (a b : Table) (n : List ℕ) → Grows a.terms b.terms → b.records ≡ a.records → b.enums ≡ a.enums ++ n ∷ [] → Extends a b
extends_enum a b n g r e =
    let rl : length b.records ≡ length a.records = ap length r in
    let el : length b.enums ≡ length (a.enums ++ n ∷ []) = ap length e in
    let more = length-append a.enums (n ∷ []) in
    record { grows = g; records = omega arith; enums = omega arith }

-- a table that is left as it is
pub extends_same : (a b : Table) → b ≡ a → Extends a b
extends_same a b same = rw same (extends_self a)
