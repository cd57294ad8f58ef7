-- The bytes that are read of a literal's spelling are the values of its parts.
use Rattle.std.proofs.Common.{◌≡◌, ◌⊎◌, inl, inr, ℕ, zero, suc, ◌+◌, ◌*◌, ◌<◌, ◌≤◌, Bool, true, false, ◌||◌, ◌&&◌, eqb, List, [], ◌∷◌, ◌++◌, length, Option, Some, None, refl, sym, ◌∙◌, ap, subst, arith, if◌then◌else◌}
use Rattle.std.specs.Prelude.{◌==◌, ◌%◌, nat_lt, map}
use Rattle.std.proofs.lemmas.Bool.{or_parts}
use Rattle.std.proofs.lemmas.Bool.Decides.{nat_tests}
use Rattle.std.proofs.Math.Nat.{mod-eq_of_lt}
use Rattle.c_lexer.specs.Bytes.{Each, is_octal, is_hex}
use Rattle.c_lexer.specs.Literal.{Part, plain, simple, octal, hex, put_part, put_parts, is_simple, NotNext, AreParts}
use Rattle.c_lexer.specs.Number.{value_from, digit_value}
use Rattle.c_lexer.specs.Value.{part_value, simple_value, Denotes}
use Rattle.c_lexer.proofs.Numbers.{value_grows}
use Rattle.c_constants.specs.Literals.{taken, take_byte, take_between, take_escaped, next_value, put, bytes_from, literal_bytes}
use Rattle.c_constants.specs.declared.literals.Reading.{Reading}
use Rattle.c_constants.specs.declared.literals.Reading.TheVariants as r
use Rattle.c_constants.specs.declared.literals.Taken.{Taken}

-- what one byte gives
step_by : (q : ℕ) (reading : Reading) (b : ℕ) (bs : List ℕ) (t : Taken) → take_byte q reading b ≡ t → bytes_from q reading (b ∷ bs) ≡ put t.ended (put t.own (bytes_from q t.reading bs))
step_by q reading b bs t e = ap (λ (x : Taken). put x.ended (put x.own (bytes_from q x.reading bs))) e

plain_taken : (q b : ℕ) → (b == q) ≡ false → (b == 92) ≡ false → take_between q None b ≡ taken None (Some b) r.Between
plain_taken q b e f = rw (e, f) refl

slash_taken : (q : ℕ) → (92 == q) ≡ false → take_between q None 92 ≡ taken None None r.Escaped
slash_taken q e = rw e refl

-- behind an escape that ended its value comes first
ended_by : (q v c : ℕ) (bs : List ℕ) (k m : Bool)
    → put (if k then taken (Some v) None r.Closed else if m then taken (Some v) None r.Escaped else taken (Some v) (Some c) r.Between).ended
    (put (if k then taken (Some v) None r.Closed else if m then taken (Some v) None r.Escaped else taken (Some v) (Some c) r.Between).own
    (bytes_from q (if k then taken (Some v) None r.Closed else if m then taken (Some v) None r.Escaped else taken (Some v) (Some c) r.Between).reading bs))
    ≡ v ∷ put (if k then taken None None r.Closed else if m then taken None None r.Escaped else taken None (Some c) r.Between).ended
    (put (if k then taken None None r.Closed else if m then taken None None r.Escaped else taken None (Some c) r.Between).own
    (bytes_from q (if k then taken None None r.Closed else if m then taken None None r.Escaped else taken None (Some c) r.Between).reading bs))
ended_by q v c bs true m = refl
ended_by q v c bs false true = refl
ended_by q v c bs false false = refl

ended : (q v c : ℕ) (bs : List ℕ) (reading : Reading) → take_byte q reading c ≡ take_between q (Some v) c → bytes_from q reading (c ∷ bs) ≡ v ∷ bytes_from q r.Between (c ∷ bs)
ended q v c bs reading e = step_by q reading c bs (take_between q (Some v) c) e ∙ ended_by q v c bs (c == q) (c == 92)

-- one digit more, of a value that stays below 256
next_is : (base v d : ℕ) (ds : List ℕ) → 1 ≤ base → value_from base v (d ∷ ds) ≤ 255 → next_value base v d ≡ v * base + digit_value d
next_is base v d ds h l = let g = value_grows base (v * base + digit_value d) ds h in mod-eq_of_lt (let k : v * base + digit_value d < 256 = omega (arith, g, l) in k)

octal_taken : (q n v c : ℕ) → is_octal c ≡ true → n < 3 → take_byte q (r.Octal n v) c ≡ taken None None (r.Octal (n + 1) (next_value 8 v c))
octal_taken q n v c h l = let k : nat_lt n 3 ≡ true = grind (arith, nat_tests) in rw (h, k) refl

octal_run : (q n v : ℕ) (ds rest : List ℕ) → Each is_octal ds → n + length ds ≤ 3 → value_from 8 v ds ≤ 255 → bytes_from q (r.Octal n v) (ds ++ rest) ≡ bytes_from q (r.Octal (n + length ds) (value_from 8 v ds)) rest
octal_run q n v [] rest h l k = let e : n + 0 ≡ n = omega arith in rw e refl
octal_run q n v (d ∷ ds) rest h l k =
    let one = next_is 8 v d ds (omega arith) k in
    let more : n + suc (length ds) ≡ (n + 1) + length ds = omega arith in
    step_by q (r.Octal n v) d (ds ++ rest) (taken None None (r.Octal (n + 1) (next_value 8 v d))) (octal_taken q n v d h.0 (omega arith))
    ∙ ap (λ x. bytes_from q (r.Octal (n + 1) x) (ds ++ rest)) one
    ∙ octal_run q (n + 1) (v * 8 + digit_value d) ds rest h.1 (omega arith) k
    ∙ ap (λ x. bytes_from q (r.Octal x (value_from 8 v (d ∷ ds))) rest) (sym more)

hex_taken : (q v c : ℕ) → is_hex c ≡ true → take_byte q (r.Hexadecimal v) c ≡ taken None None (r.Hexadecimal (next_value 16 v c))
hex_taken q v c h = rw h refl

hex_run : (q v : ℕ) (ds rest : List ℕ) → Each is_hex ds → value_from 16 v ds ≤ 255 → bytes_from q (r.Hexadecimal v) (ds ++ rest) ≡ bytes_from q (r.Hexadecimal (value_from 16 v ds)) rest
hex_run q v [] rest h k = refl
hex_run q v (d ∷ ds) rest h k =
    step_by q (r.Hexadecimal v) d (ds ++ rest) (taken None None (r.Hexadecimal (next_value 16 v d))) (hex_taken q v d h.0)
    ∙ ap (λ x. bytes_from q (r.Hexadecimal x) (ds ++ rest)) (next_is 16 v d ds (omega arith) k)
    ∙ hex_run q (v * 16 + digit_value d) ds rest h.1 k

-- an escape ends where no digit more may be its
octal_end : (q n v : ℕ) (rest : List ℕ) → (rest ≡ [] → ⊥) → (n ≡ 3) ⊎ NotNext is_octal rest → bytes_from q (r.Octal n v) rest ≡ v ∷ bytes_from q r.Between rest
octal_end q n v [] not u = absurd (not refl)
octal_end q n v (c ∷ bs) not (inl e) = ended q v c bs (r.Octal n v) (let k : (is_octal c && nat_lt n 3) ≡ false = rw e (no (is_octal c)) in rw k refl)
  where
    no : (b : Bool) → (b && nat_lt 3 3) ≡ false
    no true = refl
    no false = refl
octal_end q n v (c ∷ bs) not (inr h) = ended q v c bs (r.Octal n v) (let k : is_octal c ≡ false = h in rw k refl)

hex_end : (q v : ℕ) (rest : List ℕ) → (rest ≡ [] → ⊥) → NotNext is_hex rest → bytes_from q (r.Hexadecimal v) rest ≡ v ∷ bytes_from q r.Between rest
hex_end q v [] not h = absurd (not refl)
hex_end q v (c ∷ bs) not h = ended q v c bs (r.Hexadecimal v) (let k : is_hex c ≡ false = h in rw k refl)

some_left : (q : ℕ) (ps : List Part) → put_parts q ps [] ≡ [] → ⊥
some_left q [] e = cc
some_left q (plain b ∷ ps) e = cc
some_left q (simple b ∷ ps) e = cc
some_left q (octal ds ∷ ps) e = cc
some_left q (hex ds ∷ ps) e = cc

simple_taken : (b : ℕ) → (b == 120) ≡ false → is_octal b ≡ false → take_escaped b ≡ taken None (Some (simple_value b)) r.Between
simple_taken b e f = rw (e, f) refl

begun : (b : ℕ) → (b == 120) ≡ false → is_octal b ≡ true → take_escaped b ≡ taken None None (r.Octal 1 (next_value 8 0 b))
begun b e f = rw (e, f) refl

octal_no_x : (b : ℕ) → is_octal b ≡ true → (b == 120) ≡ false
octal_no_x b h = grind (arith, nat_tests)

simple_no_x : (b : ℕ) → is_simple b ≡ true → (b == 120) ≡ false
simple_no_x b h = grind (arith, nat_tests)

simple_no_octal : (b : ℕ) → is_simple b ≡ true → is_octal b ≡ false
simple_no_octal b h = grind (arith, nat_tests)

parted : (q : ℕ) (ps : List Part) → (92 == q) ≡ false → AreParts q ps → bytes_from q r.Between (put_parts q ps []) ≡ map part_value ps
parted q [] s h = let e : (q == q) ≡ true = grind (arith, nat_tests) in step_by q r.Between q [] (taken None None r.Closed) (rw e refl)
parted q (plain b ∷ ps) s h =
    let x = or_parts (eqb b q || eqb b 92) (eqb b 10) h.0 in
    let y = or_parts (eqb b q) (eqb b 92) x.0 in
    step_by q r.Between b (put_parts q ps []) (taken None (Some b) r.Between) (plain_taken q b y.0 y.1) ∙ ap (λ bs. b ∷ bs) (parted q ps s h.1)
parted q (simple b ∷ ps) s h =
    step_by q r.Between 92 (b ∷ put_parts q ps []) (taken None None r.Escaped) (slash_taken q s)
    ∙ step_by q r.Escaped b (put_parts q ps []) (taken None (Some (simple_value b)) r.Between) (simple_taken b (simple_no_x b h.0) (simple_no_octal b h.0))
    ∙ ap (λ bs. simple_value b ∷ bs) (parted q ps s h.1)
parted q (octal [] ∷ ps) s h = absurd (let l = h.0.1 in omega (arith, l))
parted q (octal (d ∷ ds) ∷ ps) s h =
    let rest : List ℕ = put_parts q ps [] in
    let many = h.0.2 in
    let value : value_from 8 (0 * 8 + digit_value d) ds ≤ 255 = h.0.3 in
    let one = next_is 8 0 d ds (omega arith) h.0.3 in
    step_by q r.Between 92 ((d ∷ ds) ++ rest) (taken None None r.Escaped) (slash_taken q s)
    ∙ step_by q r.Escaped d (ds ++ rest) (taken None None (r.Octal 1 (next_value 8 0 d))) (begun d (octal_no_x d h.0.0.0) h.0.0.0)
    ∙ ap (λ x. bytes_from q (r.Octal 1 x) (ds ++ rest)) one
    ∙ octal_run q 1 (0 * 8 + digit_value d) ds rest h.0.0.1 (omega (arith, many)) value
    ∙ octal_end q (1 + length ds) (value_from 8 (0 * 8 + digit_value d) ds) rest (some_left q ps) (elim h.0.4 [ inl e ↦ inl (let z : 1 + length ds ≡ 3 = omega (arith, e) in z) | inr x ↦ inr x ])
    ∙ ap (λ bs. value_from 8 0 (d ∷ ds) ∷ bs) (parted q ps s h.1)
parted q (hex ds ∷ ps) s h =
    let rest : List ℕ = put_parts q ps [] in
    step_by q r.Between 92 (120 ∷ (ds ++ rest)) (taken None None r.Escaped) (slash_taken q s)
    ∙ step_by q r.Escaped 120 (ds ++ rest) (taken None None (r.Hexadecimal 0)) refl
    ∙ hex_run q 0 ds rest h.0.0 h.0.2
    ∙ hex_end q (value_from 16 0 ds) rest (some_left q ps) h.0.3
    ∙ ap (λ bs. value_from 16 0 ds ∷ bs) (parted q ps s h.1)

no_slash : (q : ℕ) → (q ≡ 92 → ⊥) → (92 == q) ≡ false
no_slash q h = grind (arith, nat_tests)

pub literal_is : (q : ℕ) (w values : List ℕ) → (q ≡ 92 → ⊥) → Denotes q w values → literal_bytes w ≡ values
literal_is q w values s x = ap literal_bytes x.spelled ∙ parted q x.parts (no_slash q s) x.are ∙ sym x.values_are
