-- A text and its unit.
use Rattle.std.proofs.Common.{◌≡◌, ◌≢◌, ℕ, ◌+◌, ◌≤◌, List, [], ◌∷◌, ◌++◌, length, take, drop, map, refl, sym, ◌∙◌, ap, subst, length-append, arith}
use Rattle.std.proofs.lemmas.List.{length-take-le, take-append-drop}
use Rattle.tok_base.specs.declared.token.Token.{Token}
use Rattle.tok_base.specs.declared.token.Lexeme.{Lexeme}
use Rattle.c_lexer.specs.Cut.{Spot, Cuts, stop, separator, token, begin, Lexes}
use Rattle.c_lexer.specs.Lexeme.{lexeme_of, LexesTo}
use Rattle.c_lexer.proofs.Spellings.{spelling_told}
use Rattle.c_tree.specs.Tree.{External}
use Rattle.c_tree.specs.Depth.{IsFlat}
use Rattle.c_tree.specs.Reading.{IsUnit, IsPlace}
use Rattle.c_tree.specs.Reading as trees
use Rattle.c_parser.specs.Parsed.{IsParsed, IsWrongAt, IsNotFlat, IsTooDeep, not_flat, goes_deep}
use Rattle.alloctoken.specs.Course.{Reads, GoesWrong, GoesWrongAt, GoesTooDeep, is_deep, begins_deep}

nil_right : (w : List ℕ) → w ++ [] ≡ w
nil_right [] = refl
nil_right (b ∷ w) = ap (λ z. b ∷ z) (nil_right w)

at_least_one : (w : List ℕ) → w ≢ [] → 1 ≤ length w
at_least_one [] n = absurd (n refl)
at_least_one (b ∷ w) n = omega arith

fewer : (s a : Spot) (ts : List Token) → Cuts s ts a → length ts ≤ length s.rest
fewer _ _ _ (stop s) = omega arith
fewer _ _ _ (separator s n a ts h k) =
    let e : length s.rest ≡ length (h.bytes ++ n.rest) = ap length h.behind.rest in
    omega (arith, fewer n a ts k, e, length-append h.bytes n.rest)
fewer _ _ _ (token s n a t ts h k) =
    let e : length s.rest ≡ length (t.text ++ n.rest) = ap length h.behind.rest in
    let some : 1 ≤ length t.text = at_least_one t.text (λ none. spelling_told [] t.text [] (sym none ∙ sym (nil_right t.text)) h.is.taken) in
    omega (arith, fewer n a ts k, e, some, length-append t.text n.rest)

-- a text has no more tokens than bytes
pub fewer_tokens : (text : List ℕ) (ts : List Token) → Lexes text ts → length ts ≤ length text
fewer_tokens text ts h = fewer (begin text) h.after ts h.cut

lexes_to : (text : List ℕ) (ts : List Token) (ls : List Lexeme) → Lexes text ts → map lexeme_of ts ≡ ls → LexesTo text ls
lexes_to text ts ls l e = record { tokens = ts; lexes = l; are = e }

reads_so : (text : List ℕ) (ts : List Token) (u : List External) → Lexes text ts → trees.Reads (map lexeme_of ts) u → Reads text u
reads_so text ts u l r = (r.0, lexes_to text ts (trees.spelled u) l (sym r.1))

pub reads : (text : List ℕ) (ts : List Token) (u : List External) → Lexes text ts → IsParsed (map lexeme_of ts) u → Reads text u × IsFlat u
reads text ts u l p = (reads_so text ts u l p.reads, p.flat)

-- the tokens go wrong behind the first of them
wrong : (text : List ℕ) (ts : List Token) (first rest : List Lexeme) → Lexes text ts → map lexeme_of ts ≡ first ++ rest → IsPlace first rest
    → (IsUnit (map lexeme_of ts) → ⊥) → GoesWrong text first
wrong text ts first rest l e p n =
    let Q : List Lexeme → Type 0 = λ ls. IsUnit ls → ⊥ in
    record { rest = rest; lexes = lexes_to text ts (first ++ rest) l e; none = subst Q e n; place = p }

pub goes_wrong : (text : List ℕ) (ts : List Token) (k : ℕ) → Lexes text ts → IsWrongAt (map lexeme_of ts) k → GoesWrongAt k text
goes_wrong text ts k l w =
    let ls = map lexeme_of ts in
    (take k ls, length-take-le k ls w.within, wrong text ts (take k ls) (drop k ls) l (sym (take-append-drop k ls)) w.place w.none)

deep_so : (text : List ℕ) (ts : List Token) → Lexes text ts → IsNotFlat (map lexeme_of ts) → GoesTooDeep text
deep_so text ts l (not_flat u r n) = is_deep u (reads_so text ts u l r) n
deep_so text ts l (goes_deep first rest e p n d) = begins_deep first (wrong text ts first rest l e p n) d

pub goes_too_deep : (text : List ℕ) (ts : List Token) → Lexes text ts → IsTooDeep (map lexeme_of ts) → GoesTooDeep text
goes_too_deep text ts l d = deep_so text ts l d.why
