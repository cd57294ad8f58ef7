-- What is found of a unit that keeps all rules. A row has what is wanted of a unit's text.
use Rattle.std.specs.Prelude.{ℕ, suc, false, List, [], ◌∷◌, ◌++◌, map, Option, Some, None}
use Rattle.tok_base.specs.declared.token.Token.{Token}
use Rattle.c_reader.specs.Reader as reader
use Rattle.c_types.specs.CTypes.{CType}
use Rattle.c_rules.specs.World.{ObjectOf, FunctionOf, start}
use Rattle.c_rules.specs.Trials.{Verdict, fine, broke, verdict}
use Rattle.c_rules.specs.Unit.{trials}
use Rattle.c_rules.specs.Known.{Known, known}
use Rattle.rule_examples.specs.Judged.{tokens_of}
use Rattle.c_rules.specs.declared.known.Binding.{Binding}
use Rattle.c_rules.specs.declared.known.ConstantValue.{ConstantValue}

-- a unit that breaks a rule has nothing
abbrev pub nothing : Known
nothing = known (start 0)

abbrev pub of_verdict : Verdict → Known
of_verdict (fine w) = known w
of_verdict (broke rule at) = nothing

abbrev pub of_answer : reader.Answer → Known
of_answer (reader.unit u) = of_verdict (verdict (trials false 200 u))
of_answer (reader.wrong ts) = nothing
of_answer (reader.deep ts) = nothing

abbrev pub of_tokens : Option (List Token) → Known
of_tokens None = nothing
of_tokens (Some ts) = of_answer (reader.read ts)

abbrev pub known_of : List ℕ → Known
known_of text = of_tokens (tokens_of text)

-- ---- the nodes that have something

pub data TypeAt : Type 0 where
  typed : (node : ℕ) → CType → TypeAt

pub data ConstantAt : Type 0 where
  valued : (node : ℕ) → ConstantValue → ConstantAt

abbrev pub there : {A B : Type 0} → (ℕ → A → B) → ℕ → List (Option A) → List B
there f n [] = []
there f n (None ∷ xs) = there f (suc n) xs
there f n (Some x ∷ xs) = f n x ∷ there f (suc n) xs

-- ---- rows

pub data Row : Type 0 where
  -- what is bound, in the order of the nodes
  binds : List ℕ → List Binding → Row
  -- the types of nodes, those to which nodes are converted as by assignment, and constants
  has_types : List ℕ → List TypeAt → Row
  has_targets : List ℕ → List TypeAt → Row
  has_constants : List ℕ → List ConstantAt → Row
  -- by their numbers
  has_objects : List ℕ → List ObjectOf → Row
  has_functions : List ℕ → List FunctionOf → Row
  -- the names of structs and unions, and behind them those of enumerations
  has_names : List ℕ → List (List ℕ) → Row

-- a row with what is found
abbrev pub found : Row → Row
found (binds text bs) = binds text (there (λ n b. b) 0 (known_of text).bindings)
found (has_types text ts) = has_types text (there typed 0 (known_of text).types)
found (has_targets text ts) = has_targets text (there typed 0 (known_of text).targets)
found (has_constants text cs) = has_constants text (there valued 0 (known_of text).constants)
found (has_objects text os) = has_objects text (known_of text).objects
found (has_functions text fs) = has_functions text (known_of text).functions
found (has_names text ns) =
    has_names text (map (λ h. h.name) (known_of text).records.heads ++ map (λ e. e.name) (known_of text).enums)
