-- All steps keep the numbers of depth.
use Rattle.std.proofs.Common.{ℕ, Option, Some, None}
use Rattle.tok_base.specs.declared.token.Span.{Span}
use Rattle.c_tree.specs.Wf.{Env}
use Rattle.c_reader.specs.Symbol.{Symbol}
use Rattle.c_reader.specs.MarkedInside.{SpecsMode, in_specs, after_tagged, after_tag, want_field, want_enumerator, after_enumerator, want_param, DeclaratorMode, want_declarator, after_star, declarator_opened, after_declarator, array_opened, params_opened, of_declaration, of_external, of_param, Mode, want_external, in_attribute, specs, declarator, after_attributes, want_init, after_init, expr, stmt, Next}
use Rattle.c_reader.specs.Reader as r
use Rattle.c_reader.proofs.Counted.{CountedSpecsMode, CountedDeclaratorMode, Counted, Counts}
use Rattle.c_reader.proofs.CountedDeclarations.{first_spec_counts, item_counts, init_counts, init_begin_counts}
use Rattle.c_reader.proofs.CountedDeclarators.{declarator_begin_counts, star_counts, opened_counts, array_counts, params_counts, declarator_counts}
use Rattle.c_reader.proofs.CountedSpecs.{specs_counts, tagged_counts, tag_counts, field_begin_counts, enumerator_begin_counts, enumerator_counts, attribute_step_counts}
use Rattle.c_reader.proofs.CountedExprs.{expr_counts}
use Rattle.c_reader.proofs.CountedStmts.{stmt_counts}

specs_mode_counts : (n e : ℕ) (env : Env) (x : SpecsMode) (y : Symbol) (s : Span) → CountedSpecsMode x → Counts (r.specs_mode_next n e env x y s)
specs_mode_counts n e env (in_specs ss k) y s c = specs_counts n e env ss k y s c
specs_mode_counts n e env (after_tagged o g ss k) y s c = tagged_counts n env o g ss k y c.0 c.1
specs_mode_counts n e env (after_tag o g x ss k) y s c = tag_counts n e env o g x ss k y s c.0 c.1
specs_mode_counts n e env (want_field f) y s c = field_begin_counts n env f y s c
specs_mode_counts n e env (want_enumerator k) y s c = enumerator_begin_counts n env k y s c
specs_mode_counts n e env (after_enumerator o x k) y s c = enumerator_counts n e env o x k y s c.0 c.1
specs_mode_counts n e env (want_param k) y s c = first_spec_counts n env (of_param k) y s c

declarator_mode_counts : (n e : ℕ) (env : Env) (x : DeclaratorMode) (y : Symbol) (s : Span) → CountedDeclaratorMode x → Counts (r.declarator_mode_next n e env x y s)
declarator_mode_counts n e env (want_declarator k) y s c = declarator_begin_counts n e env k y s c
declarator_mode_counts n e env (after_star o qs k) y s c = star_counts n e env o qs k y s c
declarator_mode_counts n e env (declarator_opened o k) y s c = opened_counts n e env o k y s c
declarator_mode_counts n e env (after_declarator h k x) y s c = declarator_counts n e env h k x y s c.0 c.1
declarator_mode_counts n e env (array_opened o x k) y s c = array_counts n env o x k y s c.0 c.1
declarator_mode_counts n e env (params_opened o x k) y s c = params_counts n env o x k y s c.0 c.1

pub step_counts : (n e : ℕ) (env : Env) (x : Mode) (y : Symbol) (s : Span) → Counted x → Counts (r.step_at n e env x y s)
step_counts n e env (want_external deep done) y s c = first_spec_counts n env (of_declaration (of_external deep done)) y s c
step_counts n e env (in_attribute o m a) y s c = attribute_step_counts n e env o a m y s c
step_counts n e env (specs m) y s c = specs_mode_counts n e env m y s c
step_counts n e env (declarator m) y s c = declarator_mode_counts n e env m y s c
step_counts n e env (after_attributes x) y s c = item_counts n e env x y s c
step_counts n e env (want_init k) y s c = init_begin_counts n env k y s c
step_counts n e env (after_init d k v) y s c = init_counts n e env d k v y s c.0 c.1
step_counts n e env (expr m) y s c = expr_counts n e env m y s c
step_counts n e env (stmt m) y s c = stmt_counts n e env m y s c

pub option_counts : (a : Next) (e : ℕ) (o : Option Symbol) (s : Span) → Counted a.mode → Counts (r.step a e o s)
option_counts a e None s c = tt
option_counts a e (Some y) s c = step_counts a.id e a.env a.mode y s c
