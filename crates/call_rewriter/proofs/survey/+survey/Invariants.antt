use Rattle.c_tree.specs.View.{declarators_of, enumerators_of, exprs_of, fields_of, params_of, specs_of}
use Rattle.c_tree.specs.Bare.{bare_declarators, bare_enumerators, bare_exprs, bare_fields, bare_params, bare_specs}
use Rattle.call_rewriter.specs.Mentions.{declarators_mentions, enumerators_mentions, exprs_mentions, fields_mentions, params_mentions, specs_mentions}
use Rattle.call_rewriter.specs.Survey.{NotesLeft, place_of}
use Rattle.call_rewriter.proofs.survey.+survey.Given as goal

abbrev pub invariant-exprs-loop-a : goal.invariant-exprs-loop-a
invariant-exprs-loop-a l = NotesLeft (λ xs. exprs_mentions (place_of l.p) (bare_exprs (exprs_of xs))) l.initial.s l.s l.a-items l.a-index

abbrev pub invariant-specs-loop-spec : goal.invariant-specs-loop-spec
invariant-specs-loop-spec l = NotesLeft (λ xs. specs_mentions (place_of l.p) (bare_specs (specs_of xs))) l.initial.s l.s l.spec-items l.spec-index

abbrev pub invariant-fields-loop-f : goal.invariant-fields-loop-f
invariant-fields-loop-f l = NotesLeft (λ xs. fields_mentions (place_of l.p) (bare_fields (fields_of xs))) l.initial.s l.s l.f-items l.f-index

abbrev pub invariant-declarators-loop-d : goal.invariant-declarators-loop-d
invariant-declarators-loop-d l = NotesLeft (λ xs. declarators_mentions (place_of l.p) (bare_declarators (declarators_of xs))) l.initial.s l.s l.d-items l.d-index

abbrev pub invariant-enumerators-loop-e : goal.invariant-enumerators-loop-e
invariant-enumerators-loop-e l = NotesLeft (λ xs. enumerators_mentions (place_of l.p) (bare_enumerators (enumerators_of xs))) l.initial.s l.s l.e-items l.e-index

abbrev pub invariant-params-loop-x : goal.invariant-params-loop-x
invariant-params-loop-x l = NotesLeft (λ xs. params_mentions (place_of l.p) (bare_params (params_of xs))) l.initial.s l.s l.x-items l.x-index
