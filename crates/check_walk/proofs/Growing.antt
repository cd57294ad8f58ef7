-- Over a table that has grown lists and declarators mean the same.
use Rattle.std.proofs.Common.{◌≡◌, sym, Result, Ok, Err, OnOk, ℕ, ◌<◌, ◌≤◌, List, [], ◌∷◌, ◌++◌, length, map, refl, ap, ◌∙◌, arith}
use Rattle.std.proofs.lemmas.List.Elements.{All-head, All-tail, All-weaker, All-push}
use Rattle.c_types.specs.declared.records.Member.{Member}
use Rattle.c_types.specs.declared.terms.Term.{Term}
use Rattle.c_types.specs.declared.terms.TypeId.{TypeId}
use Rattle.c_types.specs.Table.{Table, type_at, member_of, AllBelow, MembersBelow}
use Rattle.c_tree.specs.declared.operator.At.{At}
use Rattle.c_world.specs.Extends.{Extends}
use Rattle.declarator_rules.specs.declared.layers.Laid as r
use Rattle.declarator_rules.specs.Layers.{LayersBelow, all_types, laid_of}
use Rattle.declarator_rules.proofs.Growing.{layers_same, types_same}
use Rattle.expression_rules.specs.Arguments.{all_given, given_of}
use Rattle.expression_rules.specs.Arguments as arguments
use Rattle.expression_rules.specs.Typed.{typed_of}
use Rattle.expression_rules.specs.declared.typed.Argument.{Argument}
use Rattle.check_expressions.proofs.Args.{given_more, given_same}
use Rattle.check_expressions.proofs.Args as given
use Rattle.specifier_rules.proofs.Growing.{below_more, below_up, specified_same}
use Rattle.specifier_rules.specs.Specified.{specified_of}
use Rattle.specifier_rules.specs.declared.specified.Specified as sr
use Rattle.c_types.specs.CTypes.{CType}
use Rattle.c_rules.specs.Declarators as rules
use Rattle.c_rules.specs.Specifiers as specifiers
use Rattle.c_rules.specs.Walk.{laid_more, with_tagged}
use Rattle.c_world.proofs.Growth.{extends_on}

member_same : (s t : Table) → Extends s t → (m : Member) → m.ty.0 < length s.terms → member_of t.terms m ≡ member_of s.terms m
member_same s t e m h = ap (λ u. record { name = m.name; type = u }) (e.grows.same m.ty.0 h)

pub members_same : (s t : Table) → Extends s t → (ms : List Member) → MembersBelow (length s.terms) ms → map (member_of t.terms) ms ≡ map (member_of s.terms) ms
members_same s t e [] v = refl
members_same s t e (m ∷ ms) v =
    cc (member_same s t e m (All-head (λ x. x.ty.0 < length s.terms) m ms v), members_same s t e ms (All-tail (λ x. x.ty.0 < length s.terms) m ms v))

pub members_more : (ts : List Term) (ms : List Member) (m : Member) → map (member_of ts) (ms ++ m ∷ []) ≡ map (member_of ts) ms ++ member_of ts m ∷ []
members_more ts [] m = refl
members_more ts (n ∷ ns) m = ap (λ xs. member_of ts n ∷ xs) (members_more ts ns m)

pub members_up : (n m : ℕ) (ms : List Member) → n ≤ m → MembersBelow n ms → MembersBelow m ms
members_up n m ms h v = All-weaker (λ x. x.ty.0 < n) (λ x. x.ty.0 < m) (λ x w. omega arith) ms v

pub types_more : (ts : List Term) (is : List TypeId) (i : TypeId) → all_types ts (is ++ i ∷ []) ≡ all_types ts is ++ type_at ts i.0 ∷ []
types_more ts [] i = refl
types_more ts (j ∷ js) i = ap (λ xs. type_at ts j.0 ∷ xs) (types_more ts js i)

pub laid_same : (s t : Table) → Extends s t → (l : r.Laid) → LayersBelow (length s.terms) l.layers → laid_of t.terms l ≡ laid_of s.terms l
laid_same s t e l v = ap (λ ls. record { name = l.name; name_at = l.name_at; layers = ls }) (layers_same s t e l.layers v)

-- one more, over a table that has grown
pub members_after : (s t : Table) → Extends s t → (new ms : List Member) (m : Member) → MembersBelow (length s.terms) ms → new ≡ ms ++ m ∷ []
    → map (member_of t.terms) new ≡ map (member_of s.terms) ms ++ member_of t.terms m ∷ []
members_after s t e new ms m v h = rw h (members_more t.terms ms m ∙ ap (λ xs. xs ++ member_of t.terms m ∷ []) (members_same s t e ms v))

pub members_below_after : (n k : ℕ) (new ms : List Member) (m : Member) → n ≤ k → MembersBelow n ms → m.ty.0 < k → new ≡ ms ++ m ∷ [] → MembersBelow k new
members_below_after n k new ms m l v b h = rw h (All-push (λ x. x.ty.0 < k) ms m (members_up n k ms l v) b)

pub types_after : (s t : Table) → Extends s t → (new is : List TypeId) (i : TypeId) → AllBelow (length s.terms) is → new ≡ is ++ i ∷ [] → all_types t.terms new ≡ all_types s.terms is ++ type_at t.terms i.0 ∷ []
types_after s t e new is i v h = rw h (types_more t.terms is i ∙ ap (λ xs. xs ++ type_at t.terms i.0 ∷ []) (types_same s t e is v))

pub types_below_after : (n k : ℕ) (new is : List TypeId) (i : TypeId) → n ≤ k → AllBelow n is → i.0 < k → new ≡ is ++ i ∷ [] → AllBelow k new
types_below_after n k new is i l v b h = rw h (below_more k is i (below_up n k is l v) b)

pub given_after : (s t : Table) → Extends s t → (new xs : List Argument) (x : Argument) (at : At) → arguments.AllBelow (length s.terms) xs → new ≡ xs ++ x ∷ [] → x.at ≡ at
    → all_given t.terms new ≡ all_given s.terms xs ++ record { at = at; typed = typed_of t.terms x.typed } ∷ []
given_after s t e new xs x at v h a =
    rw h (given_more t.terms xs x ∙ ap (λ ys. ys ++ given_of t.terms x ∷ []) (given_same s t xs e v) ∙ ap (λ b. all_given s.terms xs ++ record { at = b; typed = typed_of t.terms x.typed } ∷ []) a)

pub given_below_after : (n k : ℕ) (new xs : List Argument) (x : Argument) → n ≤ k → arguments.AllBelow n xs → x.typed.ty.0 < k → new ≡ xs ++ x ∷ [] → arguments.AllBelow k new
given_below_after n k new xs x l v b h = rw h (given.below_more k xs x (given.below_up n k xs l v) b)

-- what an earlier table means with one layer, one type more
pub laid_after : (s t : Table) → Extends s t → (l : r.Laid) → LayersBelow (length s.terms) l.layers → (after : rules.Laid) (x : rules.Layer) → after ≡ laid_more x (laid_of t.terms l) → laid_more x (laid_of s.terms l) ≡ after
laid_after s t e l v after x h = ap (laid_more x) (sym (laid_same s t e l v)) ∙ sym h

pub tagged_after : (s t : Table) → Extends s t → (x : sr.Specified) → AllBelow (length s.terms) x.types → (after : specifiers.Specified) (ty : CType) → after ≡ with_tagged ty (specified_of t.terms x) → with_tagged ty (specified_of s.terms x) ≡ after
tagged_after s t e x v after ty h = ap (with_tagged ty) (sym (specified_same s t e x v)) ∙ sym h

pub typed_after : (s t : Table) → Extends s t → (x : sr.Specified) → AllBelow (length s.terms) x.types → (after : specifiers.Specified) (ty : CType) → after ≡ specifiers.with_type ty (specified_of t.terms x) → after ≡ specifiers.with_type ty (specified_of s.terms x)
typed_after s t e x v after ty h = h ∙ ap (specifiers.with_type ty) (specified_same s t e x v)

-- a table that is the same, and then grows
pub extends_to_new : (a b c : Table) → b ≡ a → Extends b c → Extends a c
extends_to_new a b c e h = rw (← e) h

pub on_extends : {T E : Type 0} (r : Result T E) (a b c : Table) → Extends a b → OnOk r (Extends b c) → OnOk r (Extends a c)
on_extends (Ok x) a b c h k = extends_on a b c h k
on_extends (Err e) a b c h k = tt

pub none_given : (ts : List Term) → [] ≡ all_given ts []
unfolding all_given
none_given ts = refl
