-- What is known before a unit.
use Rattle.std.proofs.Common.{◌≡◌, ℕ, zero, suc, List, [], ◌∷◌, map, None, replicate, refl, ap, ◌∙◌}
use Rattle.std.specs.Prelude.{All}
use Rattle.std.proofs.lemmas.List.Elements.{All-from_recursion, All-replicate}
use Rattle.c_types.specs.declared.terms.Term.{Term}
use Rattle.c_types.specs.Table.{Table}
use Rattle.c_rules.specs.World.{start}
use Rattle.c_world.specs.Inner.{Inner, IsSound, IsBelow, AreRecordTypes}
use Rattle.c_world.specs.Seen.{seen, noted}

abbrev pub no_types : Table
no_types = record { terms = []; records = []; layouts = []; members = []; enums = [] }

abbrev before : ℕ → Inner
before nodes = record {
  table = no_types;
  names = [];
  depth = 0;
  tags = [];
  record_types = [];
  defined = [];
  unnamed = 0;
  objects = [];
  functions = [];
  locals = 0;
  completed = [];
  others = [];
  types = replicate nodes None;
  targets = replicate nodes None;
  bindings = replicate nodes None;
  constants = replicate nodes None;
}

none_there : AreRecordTypes [] []
none_there zero i e = absurd (cc)
none_there (suc k) i e = absurd (cc)

all_none : {A : Type 0} (P : A → Type 0) → All P []
all_none P = All-from_recursion P [] tt

before_sound : (nodes : ℕ) → IsSound (before nodes)
before_sound nodes = record {
  names_below = all_none _;
  tags_below = all_none _;
  layouts = refl;
  members = λ k ms at. cc;
  unfinished = λ k e. refl;
  record_types = none_there;
  records = refl;
  enums = refl;
  objects_below = all_none _;
  functions_below = all_none _;
  types_below = All-replicate (IsBelow 0) nodes None tt;
  targets_below = All-replicate (IsBelow 0) nodes None tt;
}

none_noted : (ts : List Term) (n : ℕ) → map (noted ts) (replicate n None) ≡ replicate n None
none_noted ts zero = refl
none_noted ts (suc n) = ap (λ xs. None ∷ xs) (none_noted ts n)

before_seen : (nodes : ℕ) → seen (before nodes) ≡ start nodes
unfolding seen
before_seen nodes = rw (none_noted [] nodes)

pub table_is : (t : Table) → t.terms ≡ [] → t.records ≡ [] → t.layouts ≡ [] → t.members ≡ [] → t.enums ≡ [] → t ≡ no_types
table_is t a b c d e =
    ap (λ x. record t { terms = x }) a
    ∙ ap (λ x. record t { terms = []; records = x }) b
    ∙ ap (λ x. record t { terms = []; records = []; layouts = x }) c
    ∙ ap (λ x. record t { terms = []; records = []; layouts = []; members = x }) d
    ∙ ap (λ x. record { terms = []; records = []; layouts = []; members = []; enums = x }) e

module _ (v : Inner) (nodes : ℕ) where
  pub sound : v ≡ before nodes → IsSound v
  sound e = rw e (before_sound nodes)

  pub shows : v ≡ before nodes → seen v ≡ start nodes
  shows e = rw e (before_seen nodes)
