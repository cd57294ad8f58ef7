-- Which functions have their calls left as they are: Clang's manual on allocation tokens excludes a function by the attribute
-- `no_sanitize("alloc-token")`; `disable_sanitizer_instrumentation` does the same.
use Rattle.std.specs.Prelude.{ℕ, Bool, true, false, ◌&&◌, ◌||◌, List, [], ◌∷◌, codes, Option, Some, None}
use Rattle.std.specs.List.{list_any}
use Rattle.c_tree.specs.Text.{same_text}
use Rattle.c_tree.specs.Marked as m
use Rattle.c_constants.specs.Literals.{text_bytes}
use Rattle.c_rules.specs.Attributes.{is_name_of}
use Rattle.c_rules.specs.Unit.{name_of}

abbrev pub names_tokens : m.Argument → Bool
names_tokens (m.NumberArgument at n) = false
names_tokens (m.TextArgument at ts) = same_text (text_bytes ts) (codes "alloc-token")

abbrev pub any_names_tokens : Option (List m.Argument) → Bool
any_names_tokens None = false
any_names_tokens (Some arguments) = list_any names_tokens arguments

-- each name also between double underscores
abbrev pub untags : m.Entry → Bool
untags e =
    is_name_of e.name (codes "disable_sanitizer_instrumentation")
    || (is_name_of e.name (codes "no_sanitize") && any_names_tokens e.arguments)

abbrev pub is_untagging : m.Attribute → Bool
is_untagging a = list_any untags a.entries

-- an attribute among the specifiers belongs to all that the declaration declares, one behind a declarator to that one
abbrev pub specs_untag : m.Specs → Bool
specs_untag m.no_specs = false
specs_untag (m.Keyword w ss) = specs_untag ss
specs_untag (m.Typedef n ss) = specs_untag ss
specs_untag (m.attribute a ss) = is_untagging a || specs_untag ss
specs_untag (m.Record at is_union tag b ss) = specs_untag ss
specs_untag (m.Enum at tag b ss) = specs_untag ss

-- the names with one of the two attributes at one of their declarations, the newest first, before others
abbrev pub with_name_if : Bool → m.Declarator → List (List ℕ) → List (List ℕ)
with_name_if true d names = name_of d ∷ names
with_name_if false d names = names

abbrev pub with_items : (by_specs : Bool) → List m.Item → List (List ℕ) → List (List ℕ)
with_items by_specs [] names = names
with_items by_specs (item ∷ items) names =
    with_items by_specs items (with_name_if (by_specs || list_any is_untagging item.attributes) item.declarator names)

abbrev pub with_external : m.External → List (List ℕ) → List (List ℕ)
with_external (m.Declares d) names = with_items (specs_untag d.specs) d.items names
with_external (m.Definition at ss d body_at items) names = with_name_if (specs_untag ss) d names

abbrev pub with_externals : List m.External → List (List ℕ) → List (List ℕ)
with_externals [] names = names
with_externals (x ∷ xs) names = with_externals xs (with_external x names)

abbrev pub untagged : List m.External → List (List ℕ)
untagged u = with_externals u []
