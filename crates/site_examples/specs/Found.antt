-- What is found of a unit's allocation calls. A row has what is wanted of a unit's text.
use Rattle.std.specs.Prelude.{ℕ, Bool, false, List, [], map, Option, Some, None, slice_get}
use Rattle.std.specs.Option.{option_map}
use Rattle.tok_base.specs.declared.token.Token.{Token}
use Rattle.c_tree.specs.Marked as m
use Rattle.c_reader.specs.Reader as reader
use Rattle.c_types.specs.CTypes.{CType}
use Rattle.c_types.specs.Pointers.{contains_pointer}
use Rattle.c_types.specs.declared.records.Head.{Head}
use Rattle.c_types.specs.Spelling.{Names, spelling}
use Rattle.c_rules.specs.Known.{Known, known}
use Rattle.c_rules.specs.Trials.{Verdict, fine, broke, verdict}
use Rattle.c_rules.specs.Unit.{trials}
use Rattle.c_rules.specs.World.{EnumOf}
use Rattle.rule_examples.specs.Judged.{tokens_of}
use Rattle.alloc_infer.specs.declared.site.Callee.{Callee}
use Rattle.alloc_infer.specs.Sites as s
use Rattle.alloc_infer.specs.Sites.{sites_of, marks_of}

-- a unit that keeps all rules, with what is known of it
pub record Kept : Type 0 where
  pub unit : List m.External
  pub known : Known

abbrev pub of_verdict : List m.External → Verdict → Option Kept
of_verdict u (fine w) = Some (record { unit = u; known = known w })
of_verdict u (broke rule at) = None

-- a unit of the tables has fewer than 200 nodes
abbrev pub of_answer : reader.Answer → Option Kept
of_answer (reader.unit u) = of_verdict u (verdict (trials false 200 u))
of_answer (reader.wrong ts) = None
of_answer (reader.deep ts) = None

abbrev pub of_tokens : Option (List Token) → Option Kept
of_tokens None = None
of_tokens (Some ts) = of_answer (reader.read ts)

abbrev pub kept_of : List ℕ → Option Kept
kept_of text = of_tokens (tokens_of text)

abbrev pub found_sites : Kept → List s.Site
found_sites x = sites_of x.known x.unit

abbrev pub found_marks : Kept → List s.Mark
found_marks x = marks_of x.known x.unit

-- ---- rows

pub data Taken : Type 0 where
  takes : Callee → (inferred : Option CType) → Taken

-- where the called name, and the closing parenthesis, begin
pub data Place : Type 0 where
  stands : (name close : ℕ) → Place

pub data Row : Type 0 where
  -- the sites with their inferred types, in their order
  has_sites : List ℕ → List Taken → Row
  -- where they stand
  has_places : List ℕ → List Place → Row
  -- whether their inferred types contain a pointer
  has_pointers : List ℕ → List (Option Bool) → Row
  -- how their inferred types are spelled
  has_spellings : List ℕ → List (Option (List ℕ)) → Row
  -- the inferred types of the marks
  has_marks : List ℕ → List (Option CType) → Row
  -- no unit, or one that breaks a rule
  has_nothing : List ℕ → Row

-- the names of structs, unions and enumerations, by their numbers
abbrev pub head_name : Option Head → List ℕ
head_name None = []
head_name (Some h) = h.name

abbrev pub enum_name : Option EnumOf → List ℕ
enum_name None = []
enum_name (Some e) = e.name

abbrev pub names_of : Known → Names
names_of k = record { records = λ n. head_name (slice_get k.records.heads n); enums = λ n. enum_name (slice_get k.enums n) }

-- a row with what is found
abbrev pub found_in : Row → Kept → Row
found_in (has_sites text ts) u = has_sites text (map (λ x. takes x.callee x.inferred) (found_sites u))
found_in (has_places text ps) u = has_places text (map (λ x. stands x.name.start x.close.start) (found_sites u))
found_in (has_pointers text bs) u =
    has_pointers text (map (λ x. option_map (contains_pointer u.known.records.layouts) x.inferred) (found_sites u))
found_in (has_spellings text ss) u = has_spellings text (map (λ x. option_map (spelling (names_of u.known)) x.inferred) (found_sites u))
found_in (has_marks text ts) u = has_marks text (map (λ x. x.inferred) (found_marks u))
found_in (has_nothing text) u = has_marks text []

abbrev pub text_of : Row → List ℕ
text_of (has_sites text ts) = text
text_of (has_places text ps) = text
text_of (has_pointers text bs) = text
text_of (has_spellings text ss) = text
text_of (has_marks text ts) = text
text_of (has_nothing text) = text

abbrev pub found_for : Row → Option Kept → Row
found_for r None = has_nothing (text_of r)
found_for r (Some u) = found_in r u

abbrev pub found : Row → Row
found r = found_for r (kept_of (text_of r))
