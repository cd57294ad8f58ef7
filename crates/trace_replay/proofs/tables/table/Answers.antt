use Rattle.std.proofs.Common.{ℕ, ◌≤◌, List, length, sym, subst, arith}
use Rattle.trace_replay.proofs.Live.{few_units, table_ended}
use Rattle.trace_replay.proofs.tables.table.Goals as goal

pub returns-clause-few : goal.returns-clause-few
returns-clause-few c =
    subst (λ (us : List ℕ). length us ≤ 65537) (sym (table_ended c.args.kept c.args.first c.args.size c.loop-call.call-index c.loop-call.units c.args.calls.now (omega arith) c.loop-call.invariant))
    (few_units c.args.kept c.args.first c.args.size c.args.calls.now c.requires)
