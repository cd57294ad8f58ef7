-- Every step keeps what holds of a state, and adds its token; and so do the steps of a list of tokens.
use Rattle.std.proofs.Common.{◌≡◌, List, [], ◌∷◌, ◌++◌, Option, Some, None, refl, ◌∙◌, ap}
use Rattle.c_tree.specs.Tok as g
use Rattle.c_tree.specs.Tok.{Tok, Word, Punct}
use Rattle.std.specs.List.{AllByRecursion}
use Rattle.c_tree.specs.Text.{IsName, IsNumber, IsChar, IsText}
use Rattle.c_tree.specs.Wf.{Env}
use Rattle.c_reader.specs.Symbol as t
use Rattle.c_reader.specs.Symbol.{Symbol, tok, tok_symbol}
use Rattle.c_reader.specs.Inside as i
use Rattle.c_reader.specs.Inside.{SpecsMode, DeclaratorMode, Mode, State, of_external, of_declaration, of_param, in_specs, after_tagged, after_tag, want_field, want_enumerator, after_enumerator, want_param, want_declarator, after_star, declarator_opened, array_opened, params_opened, want_external, in_attribute, specs, declarator, after_attributes, want_init, after_init, expr, stmt}
use Rattle.c_reader.specs.Machine.{specs_mode_next, declarator_mode_next, step_at, step, Read, step_tok, on_step, run}
use Rattle.c_reader.proofs.Before.{before_specs_mode, before_declarator_mode, before}
use Rattle.c_reader.proofs.Ok.{Valid, SpecsModeOk, DeclaratorModeOk, ModeOk}
use Rattle.c_reader.proofs.Adds.{Adds, Good, first_spec_good, item_next_good, init_next_good, init_begin_good}
use Rattle.c_reader.proofs.SoundDeclarators.{NameApart, declarator_begin_good, star_good, opened_good, array_good, params_next_good, declarator_next_good, specs_next_good, tagged_good, tag_good, field_begin_good, enumerator_begin_good, enumerator_next_good, attribute_good}
use Rattle.c_reader.proofs.SoundExprs.{expr_good, stmt_good}

declarator_good : (env : Env) (m : DeclaratorMode) (y : Symbol) (f : List Tok → List Tok) → Valid y → DeclaratorModeOk env m → ((z : List Tok) → before_declarator_mode m z ≡ f z) → Good (Adds f y) (declarator_mode_next env m y)
declarator_good env (want_declarator k) y f v h s = declarator_begin_good env k y f v (apart y) h.1 s
  where
    apart : (y : Symbol) → NameApart env k y
    apart (t.name n) = h.0 n
    apart _ = tt
declarator_good env (after_star qs k) y f v h s = star_good env qs k y f v h.0 h.1 s
declarator_good env (declarator_opened k) y f v h s = opened_good env k y f v h s
declarator_good env (i.after_declarator k d) y f v h s = declarator_next_good env k d y f h.0 h.1 s
declarator_good env (array_opened d k) y f v h s = array_good env d k y f v h s
declarator_good env (params_opened d k) y f v h s = params_next_good env d k y f v h s

specs_good : (env : Env) (m : SpecsMode) (y : Symbol) (f : List Tok → List Tok) → Valid y → SpecsModeOk env m → ((z : List Tok) → before_specs_mode m z ≡ f z) → Good (Adds f y) (specs_mode_next env m y)
specs_good env (in_specs x k) y f v h s = specs_next_good env x k y f v h.0 h.1 h.2 s
specs_good env (after_tagged g x k) y f v h s = tagged_good env g x k y f v h.0 h.1 s
specs_good env (after_tag g n x k) y f v h s = tag_good env g n x k y f v h.0 h.1 h.2 s
specs_good env (want_field x) y f v h s = field_begin_good env x y f v h s
specs_good env (want_enumerator e) y f v h s = enumerator_begin_good env e y f v h s
specs_good env (after_enumerator n e) y f v h s = enumerator_next_good env n e y f h.1 h.0 s
specs_good env (want_param q) y f v h s = first_spec_good env (of_param q) y f v h s

pub step_good : (env : Env) (m : Mode) (y : Symbol) → Valid y → ModeOk env m → Good (Adds (before m) y) (step_at env m y)
step_good env (want_external done) y v h = first_spec_good env (of_declaration (of_external done)) y (before (want_external done)) v h (λ z. refl)
step_good env (in_attribute m a) y v h = attribute_good env a m y (before (in_attribute m a)) v h.0 h.1 (λ z. refl)
step_good env (specs m) y v h = specs_good env m y (before (specs m)) v h (λ z. refl)
step_good env (declarator m) y v h = declarator_good env m y (before (declarator m)) v h (λ z. refl)
step_good env (after_attributes r) y v h = item_next_good env r y (before (after_attributes r)) h (λ z. refl)
step_good env (want_init k) y v h = init_begin_good env k y (before (want_init k)) v h (λ z. refl)
step_good env (after_init k x) y v h = init_next_good k env x y (before (after_init k x)) h.1 h.0 (λ z. refl)
step_good env (expr m) y v h = expr_good env m y (before (expr m)) v h (λ z. refl)
step_good env (stmt m) y v h = stmt_good env m y (before (stmt m)) v h (λ z. refl)

-- ---- the symbols of tokens

abbrev pub ValidTok : Tok → Type 0
ValidTok (g.name n) = IsName n
ValidTok (g.number n) = IsNumber n
ValidTok (g.char n) = IsChar n
ValidTok (g.text n) = IsText n
ValidTok _ = Unit {0}

abbrev ForSome : (Symbol → Type 0) → Option Symbol → Type 0
ForSome P None = Unit {0}
ForSome P (Some y) = P y

abbrev IsSymbol : Tok → Symbol → Type 0
IsSymbol x y = (tok y ≡ x) × Valid y

word_is : (w : Word) → ForSome (IsSymbol (g.word w)) (tok_symbol (g.word w))
word_is g.KSwitch = tt
word_is g.KCase = tt
word_is g.KDefault = tt
word_is g.KIf = (refl, tt)
word_is _ = (refl, tt)

mark_is : (m : Punct) → ForSome (IsSymbol (g.mark m)) (tok_symbol (g.mark m))
mark_is g.Dots = tt
mark_is g.Com = (refl, tt)
mark_is _ = (refl, tt)

symbol_is : (x : Tok) → ValidTok x → ForSome (IsSymbol x) (tok_symbol x)
symbol_is (g.name n) v = (refl, v)
symbol_is (g.number n) v = (refl, v)
symbol_is (g.char n) v = (refl, v)
symbol_is (g.text n) v = (refl, v)
symbol_is (g.word w) v = word_is w
symbol_is (g.other w) v = tt
symbol_is (g.mark m) v = mark_is m

-- ---- runs

pub record Reached (m : Mode) (done : List Tok) (s : State) : Type 0 where
  pub ok : ModeOk s.env s.mode
  pub spells : (r : List Tok) → before s.mode r ≡ before m (done ++ r)

-- what was taken, where that led, and what is left
pub record Stops (s : State) (ts rest : List Tok) : Type 0 where
  pub done : List Tok
  pub more : List Tok
  pub x : Tok
  pub rest_is : rest ≡ x ∷ more
  pub all : ts ≡ done ++ rest
  pub last : State
  pub reach : Reached s.mode done last
  pub same : (q : List Tok) → run s (done ++ q) ≡ run last q
  pub no_step : step_tok last (tok_symbol x) ≡ None

abbrev pub Ran : State → List Tok → Read → Type 0
Ran s ts (Read.reached r) = Reached s.mode ts r
Ran s ts (Read.stuck rest) = Stops s ts rest

abbrev after_step : Tok → List Tok → Option State → Read
after_step x ts o = on_step x ts o (λ after. run after ts)

more_ran : (s r : State) (x : Tok) (y : Symbol) (ts : List Tok) (o : Read) → step_tok s (tok_symbol x) ≡ Some r → tok y ≡ x → Adds (before s.mode) y r → Ran r ts o → Ran s (x ∷ ts) o
more_ran s r x y ts (Read.reached z) e i a h = record { ok = h.ok; spells = λ q. h.spells q ∙ a.spells (ts ++ q) ∙ ap (λ v. before s.mode (v ∷ ts ++ q)) i }
more_ran s r x y ts (Read.stuck rest) e i a h = record {
  done = x ∷ h.done;
  more = h.more;
  x = h.x;
  rest_is = h.rest_is;
  all = ap (λ xs. x ∷ xs) h.all;
  last = h.last;
  reach = record { ok = h.reach.ok; spells = λ q. h.reach.spells q ∙ a.spells (h.done ++ q) ∙ ap (λ v. before s.mode (v ∷ h.done ++ q)) i };
  same = λ q. ap (after_step x (h.done ++ q)) e ∙ h.same q;
  no_step = h.no_step;
}

stopped : (s : State) (x : Tok) (ts : List Tok) → step_tok s (tok_symbol x) ≡ None → ModeOk s.env s.mode → Stops s (x ∷ ts) (x ∷ ts)
stopped s x ts e i = record { done = []; more = ts; x = x; rest_is = refl; all = refl; last = s; reach = record { ok = i; spells = λ r. refl }; same = λ q. refl; no_step = e }

step_ran : (s : State) (x : Tok) (y : Symbol) (ts : List Tok) (o : Option State) → step_tok s (tok_symbol x) ≡ o → tok y ≡ x → ModeOk s.env s.mode → Good (Adds (before s.mode) y) o → ((r : State) → ModeOk r.env r.mode → Ran r ts (run r ts))
    → Ran s (x ∷ ts) (after_step x ts o)
step_ran s x y ts None e i k h f = stopped s x ts e k
step_ran s x y ts (Some r) e i k h f = more_ran s r x y ts (run r ts) e i h (f r h.ok)

symbol_ran : (s : State) (x : Tok) (ts : List Tok) (o : Option Symbol) → tok_symbol x ≡ o → ForSome (IsSymbol x) o → ModeOk s.env s.mode → ((r : State) → ModeOk r.env r.mode → Ran r ts (run r ts)) → Ran s (x ∷ ts) (after_step x ts (step_tok s o))
symbol_ran s x ts None e h k f = stopped s x ts (ap (step_tok s) e) k
symbol_ran s x ts (Some y) e h k f = step_ran s x y ts (step s y) (ap (step_tok s) e) h.0 k (step_good s.env s.mode y h.1 k) f

pub ran : (ts : List Tok) (s : State) → AllByRecursion ValidTok ts → ModeOk s.env s.mode → Ran s ts (run s ts)
ran [] s v i = record { ok = i; spells = λ r. refl }
ran (x ∷ ts) s v i = symbol_ran s x ts (tok_symbol x) refl (symbol_is x v.0) i (λ r ok. ran ts r v.1 ok)
