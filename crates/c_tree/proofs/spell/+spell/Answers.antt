use Rattle.std.proofs.Common.{sym, ◌∙◌}
use Rattle.c_tree.proofs.Spelling.{map_ok}
use Rattle.c_tree.proofs.Views.{expr_back, exprs_hidden, specs_hidden, params_hidden, declarator_back, record_seen, list_seen}
use Rattle.c_tree.proofs.spell.+spell.Goals as goal

pub declarator-returns-in_ok-maybe-in-ArrayOf : goal.declarator-returns-in_ok-maybe-in-ArrayOf
declarator-returns-in_ok-maybe-in-ArrayOf t c =
    rw c.in-ArrayOf.is (rw (expr_back c.in-ArrayOf.n) (rw (sym c.deref-in-ArrayOf.ensures)
    (map_ok c.mark-in-ArrayOf-2.result
    (λ h rest. h rest ∙ c.in_ok-maybe-in-ArrayOf.ensures _ ∙ c.in_ok-mark-in-ArrayOf.ensures _ ∙ c.in_ok-declarator-in-ArrayOf.ensures _) c.mark-in-ArrayOf-2.ensures)))

pub declarator-returns-in_ok-params-in-FunctionOf : goal.declarator-returns-in_ok-params-in-FunctionOf
declarator-returns-in_ok-params-in-FunctionOf t c =
    rw c.in-FunctionOf.is (rw (params_hidden c.in-FunctionOf.ps) (rw (sym c.deref-in-FunctionOf.ensures)
    (map_ok c.mark-in-FunctionOf-2.result
    (λ h rest. h rest ∙ c.in_ok-params-in-FunctionOf.ensures _ ∙ c.in_ok-mark-in-FunctionOf.ensures _ ∙ c.in_ok-declarator-in-FunctionOf.ensures _) c.mark-in-FunctionOf-2.ensures)))

pub expr-returns-in-Cast : goal.expr-returns-in-Cast
expr-returns-in-Cast t c =
    let name = c.in-Cast.name.value in
    rw c.in-Cast.is (rw (specs_hidden name.specs) (rw (declarator_back name.declarator) (rw (sym c.deref-in-Cast.ensures) (rw (sym c.deref-in-Cast-2.ensures) c.cast.ensures))))

pub expr-returns-in_ok-word-in-SizeofType : goal.expr-returns-in_ok-word-in-SizeofType
expr-returns-in_ok-word-in-SizeofType t c =
    let name = c.in-SizeofType.name.value in
    rw c.in-SizeofType.is (rw (specs_hidden name.specs) (rw (declarator_back name.declarator) (rw (sym c.deref-in-SizeofType.ensures)
    (map_ok c.type_name.result (λ h rest. h rest ∙ c.in_ok-word-in-SizeofType.ensures _) c.type_name.ensures))))

pub expr-returns-in_ok-expr-in-Call : goal.expr-returns-in_ok-expr-in-Call
expr-returns-in_ok-expr-in-Call t c =
    rw c.in-Call.is (rw (exprs_hidden c.in-Call.xs) (rw (sym c.deref-in-Call.ensures)
    (map_ok c.arguments.result (λ h rest. h rest ∙ c.in_ok-expr-in-Call.ensures _) c.arguments.ensures)))

pub expr-returns-in_ok-word-in-Builtin : goal.expr-returns-in_ok-word-in-Builtin
expr-returns-in_ok-word-in-Builtin t c =
    rw c.in-Builtin.is (rw (exprs_hidden c.in-Builtin.xs)
    (map_ok c.arguments-in-Builtin.result (λ h rest. h rest ∙ c.in_ok-word-in-Builtin.ensures _) c.arguments-in-Builtin.ensures))

pub record-returns-in_ok-fields-in-Some : goal.record-returns-in_ok-fields-in-Some
record-returns-in_ok-fields-in-Some t c =
    map_ok c.mark-in-Some.result
    (λ h ss rest. rw (record_seen c.args.r.now ss) (rw c.in-Some.is
    (h _ ∙ c.in_ok-fields-in-Some.ensures _ ∙ c.in_ok-mark-in-Some.ensures _ ∙ c.in_ok-maybe_name.ensures _ ∙ c.in_ok-record_word.ensures _)))
    c.mark-in-Some.ensures

pub enumerator_list-returns : goal.enumerator_list-returns
enumerator_list-returns t c =
    rw (list_seen c.args.l.now)
    (map_ok c.mark-2.result (λ h rest. h rest ∙ c.in_ok-comma_if.ensures _ ∙ c.in_ok-enumerators.ensures _ ∙ c.in_ok-mark.ensures _) c.mark-2.ensures)
