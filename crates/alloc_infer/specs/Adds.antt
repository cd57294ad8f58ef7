-- What a walk puts behind a list that it was given.
use Rattle.std.specs.Prelude.{◌≡◌, ℕ, ◌<◌, List, ◌++◌, map, drop, length, All, Option, IfSome}
use Rattle.c_types.specs.declared.terms.Term.{Term}
use Rattle.c_types.specs.declared.terms.TypeId.{TypeId}
use Rattle.c_world.specs.Seen.{noted}
use Rattle.c_tree.specs.Marked as m
use Rattle.c_tree.specs.View.{view_declaration, view_stmt}
use Rattle.c_tree.specs.declared.statement.BlockItem.{BlockItem}
use Rattle.c_tree.specs.declared.statement.BlockItem.TheBlock as x
use Rattle.c_checked.specs.Found.{Found}
use Rattle.alloc_infer.specs.Sites as s
use Rattle.alloc_infer.specs.Walked.{in_declaration, in_stmt}
use Rattle.alloc_infer.specs.declared.around.Around.{Around}
use Rattle.alloc_infer.specs.declared.site.Site.{Site}
use Rattle.alloc_infer.specs.declared.site.Mark.{Mark}

-- with types as trees
abbrev pub site_of : List Term → Site → s.Site
site_of ts x = record { node = x.node; name = x.name; close = x.close; callee = x.callee; inferred = noted ts x.inferred }

abbrev pub mark_of : List Term → Mark → s.Mark
mark_of ts x = record { node = x.node; span = x.span; inferred = noted ts x.inferred }

-- the number of a type is in the table
abbrev pub IsIn : List Term → Option TypeId → Type 0
IsIn ts t = IfSome t (λ i. i.0 < length ts)

abbrev pub SiteIsIn : List Term → Site → Type 0
SiteIsIn ts x = IsIn ts x.inferred

abbrev pub MarkIsIn : List Term → Mark → Type 0
MarkIsIn ts x = IsIn ts x.inferred

-- what was put behind the old list is what `put` puts before others
abbrev pub Adds : {A B : Type 0} → (A → B) → List A → List A → (List B → List B) → Type 0
Adds read old new put = (more : List _) → map read new ++ more ≡ map read old ++ put more

-- inside a loop over items, with the first i of them gone through
abbrev pub AddsLeft : {A B C : Type 0} → (A → B) → List A → List A → (List C → List B → List B) → List C → ℕ → Type 0
AddsLeft read old now put items i = (more : List _) → map read now ++ put (drop i items) more ≡ map read old ++ put items more

-- what holds of all of the old list holds of all of the new one
abbrev pub Keeps : {A : Type 0} → (A → Type 0) → List A → List A → Type 0
Keeps P old new = All P old → All P new

-- ---- of sites and of marks, over what is known of a unit

abbrev pub AddsSites : Found → List Site → List Site → (List s.Site → List s.Site) → Type 0
AddsSites f old new put = Adds (site_of f.table.terms) old new put

abbrev pub AddsMarks : Found → List Mark → List Mark → (List s.Mark → List s.Mark) → Type 0
AddsMarks f old new put = Adds (mark_of f.table.terms) old new put

abbrev pub KeepsSites : Found → List Site → List Site → Type 0
KeepsSites f old new = Keeps (SiteIsIn f.table.terms) old new

abbrev pub KeepsMarks : Found → List Mark → List Mark → Type 0
KeepsMarks f old new = Keeps (MarkIsIn f.table.terms) old new

-- what is found in one item of a block
abbrev pub in_item : {A : Type 0} → (Around → m.Expr → List A → List A) → BlockItem → List A → List A
in_item found (x.Declaration d) more = in_declaration found (view_declaration d) more
in_item found (x.Stmt t) more = in_stmt found (view_stmt t) more
