-- Steps of the machine, and tests.
use Rattle.std.proofs.Common.{◌≡◌, ℕ, ◌≤◌, ◌<◌, nat_le, Bool, true, false, if◌then◌else◌, List, ◌∷◌, Option, Some, refl, sym, ◌∙◌, ap, arith}
use Rattle.std.proofs.lemmas.Bool.{le-leb, leb-true}
use Rattle.std.proofs.lemmas.Bool.Decides.{nat_tests}
use Rattle.c_tree.specs.Tok.{Tok}
use Rattle.c_tree.specs.Tree as u
use Rattle.c_tree.specs.Wf.{Env}
use Rattle.c_reader.specs.Symbol as t
use Rattle.c_reader.specs.Symbol.{Symbol, Keyword, Tagged, Head, Operator, tok, tok_symbol}
use Rattle.c_reader.specs.Inside.{Mode, State}
use Rattle.c_reader.specs.Machine.{step, step_tok, on_step, run, Read}

abbrev pub at : Env → Mode → State
at env m = record { env = env; mode = m }

-- ---- tests

pub nat_le_true : {a b : ℕ} → a ≤ b → nat_le a b ≡ true
nat_le_true h = le-leb _ _ h

pub nat_le_false : {a b : ℕ} → b < a → nat_le a b ≡ false
nat_le_false {a} {b} h = grind (arith, nat_tests)

pub nat_le_no : (a b : ℕ) → nat_le a b ≡ false → b < a
nat_le_no a b h = grind (arith, nat_tests, h)

pub nat_le_yes : (a b : ℕ) → nat_le a b ≡ true → a ≤ b
nat_le_yes a b h = leb-true a b h

pub pick : {A : Type 0} (b : Bool) (x y : A) → b ≡ true → (if b then x else y) ≡ x
pick b x y h = ap (λ c. if c then x else y) h

pub skip : {A : Type 0} (b : Bool) (x y : A) → b ≡ false → (if b then x else y) ≡ y
skip b x y h = ap (λ c. if c then x else y) h

pub by_test : {A : Type 0} (P : A → Type 0) (b : Bool) (x y : A) → (b ≡ true → P x) → (b ≡ false → P y) → P (if b then x else y)
by_test P true x y f g = f refl
by_test P false x y f g = g refl

-- ---- the symbol of a token

keyword_tok : (w : Keyword) → tok_symbol (tok (t.keyword w)) ≡ Some (t.keyword w)
keyword_tok t.Typedef = refl
keyword_tok _ = refl

tagged_tok : (g : Tagged) → tok_symbol (tok (t.tagged g)) ≡ Some (t.tagged g)
tagged_tok (t.records false) = refl
tagged_tok (t.records true) = refl
tagged_tok t.enums = refl

head_tok : (h : Head) → tok_symbol (tok (t.head h)) ≡ Some (t.head h)
head_tok t.If = refl
head_tok _ = refl

binary_tok : (o : u.BinaryOp) → tok_symbol (tok (t.operator (t.binary o))) ≡ Some (t.operator (t.binary o))
binary_tok u.Or = refl
binary_tok _ = refl

assign_tok : (o : u.AssignOp) → tok_symbol (tok (t.operator (t.assign o))) ≡ Some (t.operator (t.assign o))
assign_tok u.Set = refl
assign_tok _ = refl

operator_tok : (o : Operator) → tok_symbol (tok (t.operator o)) ≡ Some (t.operator o)
operator_tok (t.binary o) = binary_tok o
operator_tok (t.assign o) = assign_tok o
operator_tok (t.step u.PostIncrement) = refl
operator_tok (t.step u.PostDecrement) = refl
operator_tok (t.negation t.Complement) = refl
operator_tok (t.negation t.Not) = refl
operator_tok t.question = refl
operator_tok (t.member t.Dot) = refl
operator_tok (t.member t.Arrow) = refl

pub symbol_tok : (y : Symbol) → tok_symbol (tok y) ≡ Some y
symbol_tok (t.keyword w) = keyword_tok w
symbol_tok (t.tagged g) = tagged_tok g
symbol_tok (t.head h) = head_tok h
symbol_tok (t.operator o) = operator_tok o
symbol_tok (t.name n) = refl
symbol_tok _ = refl

-- ---- steps

-- what comes after a step on this token
abbrev pub from : Symbol → List Tok → Option State → Read
from y ts o = on_step (tok y) ts o (λ after. run after ts)

pub stepped : (s : State) (y : Symbol) (ts : List Tok) → run s (tok y ∷ ts) ≡ from y ts (step s y)
stepped s y ts = ap (λ o. from y ts (step_tok s o)) (symbol_tok y)

pub same_step : (s r : State) (y : Symbol) (ts : List Tok) → step s y ≡ step r y → run s (tok y ∷ ts) ≡ run r (tok y ∷ ts)
same_step s r y ts h = stepped s y ts ∙ ap (from y ts) h ∙ sym (stepped r y ts)

pub goes : (s r : State) (y : Symbol) (ts : List Tok) → step s y ≡ Some r → run s (tok y ∷ ts) ≡ run r ts
goes s r y ts h = stepped s y ts ∙ ap (from y ts) h

-- the list begins with a symbol of which P holds
pub record Starts (P : Symbol → Type 0) (ts : List Tok) : Type 0 where
  pub y : Symbol
  pub more : List Tok
  pub is : ts ≡ tok y ∷ more
  pub holds : P y

pub same_start : (P : Symbol → Type 0) (s r : State) (ts : List Tok) → Starts P ts → ((y : Symbol) → P y → step s y ≡ step r y) → run s ts ≡ run r ts
same_start P s r ts f h = ap (run s) f.is ∙ same_step s r f.y f.more (h f.y f.holds) ∙ ap (run r) (sym f.is)
