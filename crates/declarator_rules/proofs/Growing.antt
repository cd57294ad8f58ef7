-- Over a table that has grown a declarator means the same.
use Rattle.std.proofs.Common.{◌≡◌, ℕ, ◌<◌, ◌≤◌, List, [], ◌∷◌, ◌++◌, length, refl, ap, arith}
use Rattle.std.proofs.lemmas.List.Elements.{All-head, All-tail, All-weaker}
use Rattle.c_types.specs.declared.terms.Term.{Term}
use Rattle.c_types.specs.declared.terms.TypeId.{TypeId}
use Rattle.c_types.specs.Table.{Table, AllBelow}
use Rattle.c_world.specs.declared.names.NameEntry.{NameEntry}
use Rattle.c_types.proofs.Growing.{grows_on}
use Rattle.c_world.specs.Extends.{Extends}
use Rattle.c_world.specs.Inner.{NamesBelow}
use Rattle.c_world.specs.Seen.{entry_of}
use Rattle.declarator_rules.specs.declared.layers.Layer.{Layer}
use Rattle.declarator_rules.specs.declared.layers.Layer.TheVariants as l
use Rattle.declarator_rules.specs.Layers.{LayerBelow, LayersBelow, all_names, all_types, layer_of, layers_of}

pub types_same : (s t : Table) → Extends s t → (is : List TypeId) → AllBelow (length s.terms) is → all_types t.terms is ≡ all_types s.terms is
types_same s t e [] v = refl
types_same s t e (i ∷ is) v = cc (e.grows.same i.0 v.0, types_same s t e is v.1)

entry_same : (s t : Table) → Extends s t → (n : NameEntry) → n.bound.ty.0 < length s.terms → entry_of t.terms n ≡ entry_of s.terms n
entry_same s t e n h = ap (λ u. record { name = n.name; sort = n.bound.sort; type = u; depth = n.bound.depth }) (e.grows.same n.bound.ty.0 h)

pub names_same : (s t : Table) → Extends s t → (es : List NameEntry) → NamesBelow (length s.terms) es → all_names t.terms es ≡ all_names s.terms es
names_same s t e [] v = refl
names_same s t e (n ∷ es) v =
    cc (entry_same s t e n (All-head (λ x. x.bound.ty.0 < length s.terms) n es v), names_same s t e es (All-tail (λ x. x.bound.ty.0 < length s.terms) n es v))

pub layer_same : (s t : Table) → Extends s t → (x : Layer) → LayerBelow (length s.terms) x → layer_of t.terms x ≡ layer_of s.terms x
layer_same s t e (l.Pointer q) v = refl
layer_same s t e (l.Array c) v = refl
layer_same s t e l.Unsized v = refl
layer_same s t e (l.Function ps es) v = cc (types_same s t e ps v.0, names_same s t e es v.1)

pub layers_same : (s t : Table) → Extends s t → (xs : List Layer) → LayersBelow (length s.terms) xs → layers_of t.terms xs ≡ layers_of s.terms xs
layers_same s t e [] v = refl
layers_same s t e (x ∷ xs) v = cc (layer_same s t e x v.0, layers_same s t e xs v.1)

-- one layer more
pub layers_more : (ts : List Term) (xs : List Layer) (x : Layer) → layers_of ts (xs ++ x ∷ []) ≡ layers_of ts xs ++ layer_of ts x ∷ []
layers_more ts [] x = refl
layers_more ts (y ∷ ys) x = ap (λ zs. layer_of ts y ∷ zs) (layers_more ts ys x)

pub below_more : (n : ℕ) (xs : List Layer) (x : Layer) → LayersBelow n xs → LayerBelow n x → LayersBelow n (xs ++ x ∷ [])
below_more n [] x v h = (h, tt)
below_more n (y ∷ ys) x v h = (v.0, below_more n ys x v.1 h)

-- the numbers stay in a table that grows
types_up : (n m : ℕ) (is : List TypeId) → n ≤ m → AllBelow n is → AllBelow m is
types_up n m [] h v = tt
types_up n m (i ∷ is) h v = ((let l = v.0 in omega arith), types_up n m is h v.1)

pub layer_up : (n m : ℕ) (x : Layer) → n ≤ m → LayerBelow n x → LayerBelow m x
layer_up n m (l.Pointer q) h v = v
layer_up n m (l.Array c) h v = tt
layer_up n m l.Unsized h v = tt
layer_up n m (l.Function ps es) h v = (types_up n m ps h v.0, All-weaker (λ x. x.bound.ty.0 < n) (λ x. x.bound.ty.0 < m) (λ x w. omega arith) es v.1)

pub layers_up : (n m : ℕ) (xs : List Layer) → n ≤ m → LayersBelow n xs → LayersBelow m xs
layers_up n m [] h v = tt
layers_up n m (x ∷ xs) h v = (layer_up n m x h v.0, layers_up n m xs h v.1)

-- ---- a table that grows twice

pub extends_on : (a b c : Table) → Extends a b → Extends b c → Extends a c
extends_on a b c e f =
    let rs = e.records in
    let rt = f.records in
    let es = e.enums in
    let et = f.enums in
    record { grows = grows_on a.terms b.terms c.terms e.grows f.grows; records = omega arith; enums = omega arith }
