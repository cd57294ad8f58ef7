-- The allocation calls of a unit that take a token, in the order of the called names, and the builtins that give one.
use Rattle.std.specs.Prelude.{ℕ, ◌-◌, ◌==◌, Bool, false, if◌then◌else◌, List, [], ◌∷◌, Option, Some, None}
use Rattle.tok_base.specs.declared.token.Span.{Span}
use Rattle.c_tree.specs.declared.operator.At.{At}
use Rattle.c_tree.specs.Marked as m
use Rattle.c_types.specs.CTypes.{CType}
use Rattle.c_rules.specs.Known.{Known}
use Rattle.c_rules.specs.Unit.{name_of}
use Rattle.c_rules.specs.World.{is_listed}
use Rattle.c_rules.specs.declared.known.Binding.{Binding}
use Rattle.c_rules.specs.declared.known.Binding.TheVariants as to
use Rattle.c_checked.specs.Told.{binding_of}
use Rattle.alloc_infer.specs.declared.around.Around.{Around}
use Rattle.alloc_infer.specs.declared.around.Around.TheVariants as near
use Rattle.alloc_infer.specs.declared.site.Callee.{Callee}
use Rattle.alloc_infer.specs.declared.site.Callee.TheVariants.{Malloc, Calloc, Realloc}
use Rattle.alloc_infer.specs.Inferred.{first_of, inferred}
use Rattle.alloc_infer.specs.Walked.{converted, in_external}
use Rattle.alloc_infer.specs.Untagged.{untagged}

-- ---- a direct call of an allocation function (7.22.3): the called expression is a name, perhaps in parentheses, that is
-- bound to the library's function, which has no body in the unit

abbrev pub callee_numbered : ℕ → Option Callee
callee_numbered n = if n == 0 then Some Malloc else if n == 1 then Some Calloc else if n == 2 then Some Realloc else None

abbrev pub callee_bound : Option Binding → Option Callee
callee_bound (Some (to.Library n)) = callee_numbered n
callee_bound (Some (to.Function n)) = None
callee_bound (Some (to.Object n)) = None
callee_bound (Some (to.Enumerator z)) = None
callee_bound None = None

abbrev pub callee_of : Known → m.Expr → Option Callee
callee_of k (m.Name at n) = callee_bound (binding_of k at.id)
callee_of k (m.Paren at f) = callee_of k f
callee_of k e = None

abbrev pub name_span : m.Expr → Span
name_span (m.Paren at f) = name_span f
name_span (m.Name at n) = at.span
name_span e = record { start = 0; end = 0 }

-- ---- a site

pub record Site : Type 0 where
  -- the number of the call
  pub node : ℕ
  -- where its name stands, and its closing parenthesis
  pub name : Span
  pub close : Span
  pub callee : Callee
  pub inferred : Option CType

-- the last byte of a span
abbrev pub last_byte : Span → Span
last_byte s = record { start = s.end - 1; end = s.end }

abbrev pub site_at : Known → Around → At → m.Expr → m.Exprs → Callee → Site
site_at k a at f es c = record { node = at.id; name = name_span f; close = last_byte at.span; callee = c; inferred = inferred k a es }

-- a call before what is found behind its name
abbrev pub with_call : Known → Around → At → m.Expr → m.Exprs → Option Callee → List Site → List Site
with_call k a at f es None more = more
with_call k a at f es (Some c) more = site_at k a at f es c ∷ more

-- ---- in no operand of `sizeof`, and in no argument of the builtin

abbrev mutual
  pub sites : Known → Around → m.Expr → List Site → List Site
  sites k around (m.Comma at a b) more = sites k near.Nothing a (sites k near.Nothing b more)
  sites k around (m.Assign at a o b) more = sites k near.Nothing a (sites k (converted b) b more)
  sites k around (m.Cond at c a b) more = sites k near.Nothing c (sites k near.Nothing a (sites k near.Nothing b more))
  sites k around (m.Binary at a o b) more = sites k near.Nothing a (sites k near.Nothing b more)
  sites k around (m.Cast at n a) more = sites k (near.Cast at.id) a more
  sites k around (m.Prefix at o a) more = sites k near.Nothing a more
  sites k around (m.SizeofExpr at a) more = more
  sites k around (m.SizeofType at n) more = more
  sites k around (m.Index at a b) more = sites k near.Nothing a (sites k near.Nothing b more)
  sites k around (m.Call at f es) more = with_call k around at f es (callee_of k f) (sites k near.Nothing f (sites_all k es more))
  sites k around (m.Dot at a n) more = sites k near.Nothing a more
  sites k around (m.Arrow at a n) more = sites k near.Nothing a more
  sites k around (m.Post at a s) more = sites k near.Nothing a more
  sites k around (m.Name at n) more = more
  sites k around (m.Number at n) more = more
  sites k around (m.Char at c) more = more
  sites k around (m.Text at ts) more = more
  sites k around (m.Paren at a) more = sites k around a more
  sites k around (m.Builtin at es) more = more

  pub sites_all : Known → m.Exprs → List Site → List Site
  sites_all k m.no_exprs more = more
  sites_all k (m.expr a es) more = sites k (converted a) a (sites_all k es more)

-- ---- in no function that is left as it is

abbrev pub is_left : List (List ℕ) → m.External → Bool
is_left names (m.Declares d) = false
is_left names (m.Definition at ss d body_at items) = is_listed (name_of d) names

abbrev pub sites_in : Known → List (List ℕ) → m.External → List Site → List Site
sites_in k names x more = if is_left names x then more else in_external (sites k) x more

abbrev pub sites_among : Known → List (List ℕ) → List m.External → List Site → List Site
sites_among k names [] more = more
sites_among k names (x ∷ xs) more = sites_in k names x (sites_among k names xs more)

-- the sites of a unit
abbrev pub sites_of : Known → List m.External → List Site
sites_of k u = sites_among k (untagged u) u []

-- ---- the builtins that stand in no argument of another

pub record Mark : Type 0 where
  pub node : ℕ
  pub span : Span
  -- by the arguments alone
  pub inferred : Option CType

abbrev pub mark_at : Known → At → m.Exprs → Mark
mark_at k at es = record { node = at.id; span = at.span; inferred = first_of k es }

abbrev mutual
  pub marks : Known → Around → m.Expr → List Mark → List Mark
  marks k around (m.Comma at a b) more = marks k near.Nothing a (marks k near.Nothing b more)
  marks k around (m.Assign at a o b) more = marks k near.Nothing a (marks k near.Nothing b more)
  marks k around (m.Cond at c a b) more = marks k near.Nothing c (marks k near.Nothing a (marks k near.Nothing b more))
  marks k around (m.Binary at a o b) more = marks k near.Nothing a (marks k near.Nothing b more)
  marks k around (m.Cast at n a) more = marks k near.Nothing a more
  marks k around (m.Prefix at o a) more = marks k near.Nothing a more
  marks k around (m.SizeofExpr at a) more = marks k near.Nothing a more
  marks k around (m.SizeofType at n) more = more
  marks k around (m.Index at a b) more = marks k near.Nothing a (marks k near.Nothing b more)
  marks k around (m.Call at f es) more = marks k near.Nothing f (marks_all k es more)
  marks k around (m.Dot at a n) more = marks k near.Nothing a more
  marks k around (m.Arrow at a n) more = marks k near.Nothing a more
  marks k around (m.Post at a s) more = marks k near.Nothing a more
  marks k around (m.Name at n) more = more
  marks k around (m.Number at n) more = more
  marks k around (m.Char at c) more = more
  marks k around (m.Text at ts) more = more
  marks k around (m.Paren at a) more = marks k near.Nothing a more
  marks k around (m.Builtin at es) more = mark_at k at es ∷ more

  pub marks_all : Known → m.Exprs → List Mark → List Mark
  marks_all k m.no_exprs more = more
  marks_all k (m.expr a es) more = marks k near.Nothing a (marks_all k es more)

abbrev pub marks_among : Known → List m.External → List Mark → List Mark
marks_among k [] more = more
marks_among k (x ∷ xs) more = in_external (marks k) x (marks_among k xs more)

-- the marks of a unit
abbrev pub marks_of : Known → List m.External → List Mark
marks_of k u = marks_among k u []
