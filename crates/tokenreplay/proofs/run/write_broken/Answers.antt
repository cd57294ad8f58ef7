use Rattle.std.proofs.Common.{ℕ, List, inl, ◌∙◌, subst}
use Rattle.tok_base.specs.declared.status.Status.TheVariants.{BadTrace}
use Rattle.tokenreplay.specs.Course.{Writes, change}
use Rattle.tokenreplay.proofs.run.write_broken.Goals as goal

pub returns-in-Ok : goal.returns-in-Ok
returns-in-Ok g c =
    inl
    (subst
    (λ (text : List ℕ). Writes c.write_on.result (BadTrace c.args.number c.args.rule) (change (g.S.Sink.written c.args.sink.now) (g.S.Sink.faults c.args.sink.now) (g.S.Sink.written c.write_on.new.sink) (g.S.Sink.faults c.write_on.new.sink)) text)
    (c.as_slice.ensures ∙ c.in-Ok.ensures)
    c.write_on.ensures)
