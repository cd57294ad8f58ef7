-- The library row by row.
use Rattle.std.proofs.Common.{◌≡◌, ℕ, Bool, true, false, if◌then◌else◌, List, [], ◌∷◌, ◌++◌, codes, map, Option, Some, None, option_map, refl, sym, ap, ◌∙◌}
use Rattle.c_tree.specs.Text.{same_text}
use Rattle.c_rules.specs.Forms.{number_in}
use Rattle.c_rules.specs.Names.{entry_points, fast_type, library, type_known}
use Rattle.c_rules.specs.World.{or_else}
use Rattle.library_names.specs.declared.library.Library.{Library}
use Rattle.library_names.specs.Named.{Row, allocation, characters, first_named, library_type, memory, named, number, others}
use Rattle.library_names.specs.declared.library.Library.TheVariants as l
use Rattle.library_names.specs.Entries.{entries, fast}
use Rattle.library_names.specs.Signatures.{signature_type}

module _ {A : Type 0} where
  or_if : (b : Bool) (x : A) (o p : Option A) → or_else (if b then Some x else o) p ≡ (if b then Some x else or_else o p)
  or_if true x o p = refl
  or_if false x o p = refl

  joined : (rs ss : List (Row A)) (n : List ℕ) → or_else (first_named rs n) (first_named ss n) ≡ first_named (rs ++ ss) n
  joined [] ss n = refl
  joined (r ∷ rs) ss n =
      or_if (same_text n r.name) r.value (first_named rs n) (first_named ss n)
      ∙ ap (λ o. if same_text n r.name then Some r.value else o) (joined rs ss n)

module _ {A B : Type 0} (f : A → B) where
  map_if : (b : Bool) (x : A) (o : Option A) → option_map f (if b then Some x else o) ≡ (if b then Some (f x) else option_map f o)
  map_if true x o = refl
  map_if false x o = refl

  abbrev row_of : Row A → Row B
  row_of r = record { name = r.name; value = f r.value }

  mapped : (rs : List (Row A)) (n : List ℕ) → option_map f (first_named rs n) ≡ first_named (map row_of rs) n
  mapped [] n = refl
  mapped (r ∷ rs) n =
      map_if (same_text n r.name) r.value (first_named rs n)
      ∙ ap (λ o. if same_text n r.name then Some (f r.value) else o) (mapped rs n)

abbrev all : List (Row Library)
all = allocation ++ (characters ++ (memory ++ others))

named_is : (n : List ℕ) → named n ≡ first_named all n
named_is n =
    ap (λ o. or_else (first_named allocation n) (or_else (first_named characters n) o)) (joined memory others n)
    ∙ ap (or_else (first_named allocation n)) (joined characters (memory ++ others) n)
    ∙ joined allocation (characters ++ (memory ++ others)) n

pub number_is : (n : List ℕ) → option_map number (named n) ≡ number_in 0 n library
unfolding library
number_is n = ap (option_map number) (named_is n) ∙ mapped number all n

pub type_is : (n : List ℕ) → option_map library_type (named n) ≡ type_known n library
unfolding library
type_is n = ap (option_map library_type) (named_is n) ∙ mapped library_type all n

-- of three that stand first in a list
three : {A : Type 0} (a b c : Bool) (x y z : A) (o : Option A)
    → (if a then (if a then Some x else if b then Some y else if c then Some z else o)
    else if b then (if a then Some x else if b then Some y else if c then Some z else o)
    else if c then (if a then Some x else if b then Some y else if c then Some z else o)
    else None)
    ≡ (if a then Some x else if b then Some y else if c then Some z else None)
three true b c x y z o = refl
three false true c x y z o = refl
three false false true x y z o = refl
three false false false x y z o = refl

pub fast_is : (n : List ℕ) → option_map library_type (first_named fast n) ≡ fast_type (Some n)
unfolding library
fast_is n =
    mapped library_type fast n
    ∙ sym (three (same_text n (codes "malloc")) (same_text n (codes "calloc")) (same_text n (codes "realloc"))
    (library_type l.Malloc) (library_type l.Calloc) (library_type l.Realloc) (first_named (map (row_of library_type) rest) n))
  where
    rest : List (Row Library)
    rest = record { name = codes "free"; value = l.Free } ∷ (characters ++ (memory ++ others))

pub entries_are : (n : List ℕ) → option_map signature_type (first_named entries n) ≡ type_known n entry_points
unfolding entry_points
entries_are n = mapped signature_type entries n
