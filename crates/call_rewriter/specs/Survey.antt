-- What is known of the allocation functions as a unit's mentions are gone through.
use Rattle.std.specs.Prelude.{◌≡◌, ℕ, Bool, false, ◌||◌, bytes_eq, List, [], ◌∷◌, drop}
use Rattle.c_tree.specs.View.{boxed_declarator, specs_of, view_declaration, view_stmt}
use Rattle.c_tree.specs.declared.expression.TypeName.{TypeName}
use Rattle.c_tree.specs.Bare.{bare_declaration, bare_maybe_declarator, bare_specs, bare_stmt}
use Rattle.c_tree.specs.Marked as m
use Rattle.c_tree.specs.declared.statement.BlockItem.{BlockItem}
use Rattle.c_tree.specs.declared.statement.BlockItem.TheBlock as x
use Rattle.call_rewriter.specs.Tagged.{Callee, Malloc, Calloc, Realloc, callee_name, is_reserved}
use Rattle.call_rewriter.specs.Mentions as mentions
use Rattle.call_rewriter.specs.Mentions.{Mention, declares_function, declares, enumerates, calls, maybe_declarator_mentions, specs_mentions, declaration_mentions, stmt_mentions}
use Rattle.call_rewriter.specs.declared.survey.Place.{Place}
use Rattle.call_rewriter.specs.declared.survey.Each.{Each}
use Rattle.call_rewriter.specs.declared.survey.Survey.{Survey}

abbrev pub place_of : Place → mentions.Place
place_of p = record { is_operand = p.is_operand; is_field = p.is_field }

abbrev pub each : (Callee → Bool) → Each
each f = record { malloc = f Malloc; calloc = f Calloc; realloc = f Realloc }

abbrev pub of_each : Each → Callee → Bool
of_each e Malloc = e.malloc
of_each e Calloc = e.calloc
of_each e Realloc = e.realloc

abbrev pub either : Each → (Callee → Bool) → Each
either e f = each (λ c. of_each e c || f c)

abbrev pub is_name_of : List ℕ → Callee → Bool
is_name_of n c = bytes_eq n (callee_name c)

-- what is known behind one more mention
abbrev pub note : Survey → Mention → Survey
note s (declares_function n) = record s { hidden = either s.hidden (λ _. is_reserved n) }
note s (declares n) = record s { hidden = either s.hidden (λ c. is_reserved n || is_name_of n c) }
note s (enumerates n) = record s { hidden = either s.hidden (is_name_of n) }
note s (calls n) = record s { called = either s.called (is_name_of n) }

abbrev pub behind : Survey → List Mention → Survey
behind s [] = s
behind s (m ∷ ms) = behind (note s m) ms

-- what is known behind all of them
abbrev pub found : List Mention → Survey
found = behind (record { hidden = each (λ _. false); called = each (λ _. false) })

-- new is what old is behind the mentions that put puts before others
abbrev pub Notes : Survey → Survey → (List Mention → List Mention) → Type 0
Notes old new put = (rest : List Mention) → behind new rest ≡ behind old (put rest)

-- inside a loop over the items, with the first i of them gone through
abbrev pub NotesLeft : {A : Type 0} → (List A → List Mention → List Mention) → Survey → Survey → List A → ℕ → Type 0
NotesLeft put initial now items i = (rest : List Mention) → behind now (put (drop i items) rest) ≡ behind initial (put items rest)

-- new is what old is behind the mentions of the specifier that head puts before others
abbrev pub NotesSpec : Place → Survey → Survey → (m.Specs → m.Specs) → Type 0
NotesSpec p old new head = (ss : m.Specs) (rest : List Mention)
    → behind new (specs_mentions (place_of p) (bare_specs ss) rest) ≡ behind old (specs_mentions (place_of p) (bare_specs (head ss)) rest)

abbrev pub type_name_mentions : mentions.Place → TypeName → List Mention → List Mention
type_name_mentions p t rest = specs_mentions p (bare_specs (specs_of t.specs)) (maybe_declarator_mentions p (bare_maybe_declarator (boxed_declarator t.declarator)) rest)

abbrev pub block_item_mentions : BlockItem → List Mention → List Mention
block_item_mentions (x.Declaration d) rest = declaration_mentions false (bare_declaration (view_declaration d)) rest
block_item_mentions (x.Stmt s) rest = stmt_mentions (bare_stmt (view_stmt s)) rest
