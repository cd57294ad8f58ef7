-- A unit's fixed objects in the order of the text: its objects of static storage duration, each where it is declared first, and
-- the string literals that make an object (ISO/IEC 9899:2018, 6.2.4, 6.4.5). `done`: those before.
use Rattle.std.specs.Prelude.{ℕ, Bool, false, not, if◌then◌else◌, List, [], ◌∷◌, ◌++◌, Option, Some, None, is_some, unwrap_or}
use Rattle.std.specs.Option.{option_map}
use Rattle.std.specs.List.{list_any}
use Rattle.c_tree.specs.Marked as m
use Rattle.c_types.specs.CTypes.{CType}
use Rattle.c_rules.specs.Known.{Known}
use Rattle.c_rules.specs.Walk.{name_node}
use Rattle.c_rules.specs.declared.known.Binding.{Binding}
use Rattle.c_rules.specs.declared.known.Binding.TheVariants as to
use Rattle.c_checked.specs.Told.{target_of, binding_of, object_at}
use Rattle.lower_rules.specs.Numbered.{FixedThing, an_object, a_literal, is_object}

-- ---- string literals: none in an operand of `sizeof` or of the builtin

abbrev mutual
  pub texts : m.Expr → (done : List FixedThing) → List FixedThing
  texts (m.Comma at a b) done = texts b (texts a done)
  texts (m.Assign at a o b) done = texts b (texts a done)
  texts (m.Cond at x a b) done = texts b (texts a (texts x done))
  texts (m.Binary at a o b) done = texts b (texts a done)
  texts (m.Cast at t a) done = texts a done
  texts (m.Prefix at o a) done = texts a done
  texts (m.SizeofExpr at a) done = done
  texts (m.SizeofType at t) done = done
  texts (m.Index at a b) done = texts b (texts a done)
  texts (m.Call at f es) done = all_texts es (texts f done)
  texts (m.Dot at a name) done = texts a done
  texts (m.Arrow at a name) done = texts a done
  texts (m.Post at a s) done = texts a done
  texts (m.Name at name) done = done
  texts (m.Number at x) done = done
  texts (m.Char at x) done = done
  texts (m.Text at ts) done = done ++ a_literal at.id ts ∷ []
  texts (m.Paren at a) done = texts a done
  texts (m.Builtin at es) done = done

  pub all_texts : m.Exprs → (done : List FixedThing) → List FixedThing
  all_texts m.no_exprs done = done
  all_texts (m.expr a es) done = all_texts es (texts a done)

abbrev pub maybe_texts : m.MaybeExpr → (done : List FixedThing) → List FixedThing
maybe_texts m.no_expr done = done
maybe_texts (m.some_expr a) done = texts a done

-- ---- initialisers: a literal that gives an array its bytes makes no object (6.7.9, paragraph 14). It is converted to nothing

abbrev pub unless_converted : Option CType → List (List ℕ) → Option (List (List ℕ))
unless_converted None ts = Some ts
unless_converted (Some t) ts = None

abbrev pub array_text : Known → m.Expr → Option (List (List ℕ))
array_text k (m.Text at ts) = unless_converted (target_of k at.id) ts
array_text k a = None

abbrev mutual
  pub init_texts : Known → m.Init → (done : List FixedThing) → List FixedThing
  init_texts k (m.Plain a) done = if is_some (array_text k a) then done else texts a done
  init_texts k (m.Braces at is comma) done = inits_texts k is done

  pub inits_texts : Known → m.Inits → (done : List FixedThing) → List FixedThing
  inits_texts k m.no_inits done = done
  inits_texts k (m.init i is) done = inits_texts k is (init_texts k i done)

abbrev pub maybe_init_texts : Known → m.MaybeInit → (done : List FixedThing) → List FixedThing
maybe_init_texts k m.no_init done = done
maybe_init_texts k (m.some_init i) done = init_texts k i done

-- ---- declarations

-- the object that a declarator declares, where it has static storage duration
abbrev pub is_static : Known → ℕ → Bool
is_static k number = unwrap_or (option_map (λ o. not (is_some o.local)) (object_at k number)) false

abbrev pub static_bound : Known → Option Binding → Option ℕ
static_bound k (Some (to.Object number)) = if is_static k number then Some number else None
static_bound k b = None

abbrev pub static_object : Known → m.Declarator → Option ℕ
static_object k d = static_bound k (binding_of k (name_node d))

abbrev pub with_object : Option ℕ → (done : List FixedThing) → List FixedThing
with_object None done = done
with_object (Some number) done = if list_any (is_object number) done then done else done ++ an_object number ∷ []

abbrev pub in_items : Known → List m.Item → (done : List FixedThing) → List FixedThing
in_items k [] done = done
in_items k (i ∷ is) done = in_items k is (maybe_init_texts k i.init (with_object (static_object k i.declarator) done))

-- ---- statements and the unit

abbrev pub in_first : Known → m.First → (done : List FixedThing) → List FixedThing
in_first k (m.FirstDeclaration d) done = in_items k d.items done
in_first k (m.FirstExpr a) done = maybe_texts a done

abbrev mutual
  pub in_stmt : Known → m.Stmt → (done : List FixedThing) → List FixedThing
  in_stmt k (m.Block at is) done = in_block k is done
  in_stmt k (m.ExprStmt at a) done = maybe_texts a done
  in_stmt k (m.If at x s) done = in_stmt k s (texts x done)
  in_stmt k (m.IfElse at x s r) done = in_stmt k r (in_stmt k s (texts x done))
  in_stmt k (m.While at x s) done = in_stmt k s (texts x done)
  in_stmt k (m.Do at s x) done = texts x (in_stmt k s done)
  in_stmt k (m.For at a x e s) done = in_stmt k s (maybe_texts e (maybe_texts x (in_first k a done)))
  in_stmt k (m.Break at) done = done
  in_stmt k (m.Continue at) done = done
  in_stmt k (m.Return at a) done = maybe_texts a done

  pub in_block : Known → m.BlockItems → (done : List FixedThing) → List FixedThing
  in_block k m.no_items done = done
  in_block k (m.declared d is) done = in_block k is (in_items k d.items done)
  in_block k (m.statement s is) done = in_block k is (in_stmt k s done)

abbrev pub in_external : Known → m.External → (done : List FixedThing) → List FixedThing
in_external k (m.Declares d) done = in_items k d.items done
in_external k (m.Definition at ss d body_at is) done = in_block k is done

abbrev pub in_unit : Known → List m.External → (done : List FixedThing) → List FixedThing
in_unit k [] done = done
in_unit k (x ∷ xs) done = in_unit k xs (in_external k x done)

abbrev pub fixed_things : Known → List m.External → List FixedThing
fixed_things k u = in_unit k u []
