use Rattle.std.proofs.Common.{◌∙◌}
use Rattle.c_symbol.proofs.Index.{entered}
use Rattle.c_symbol.proofs.names.Names.add.Goals as goal

-- src/names.rt:57:22
pub invariant_of-self-in-Ok : goal.invariant_of-self-in-Ok
invariant_of-self-in-Ok c =
    entered (λ k. k.items) c.self.inside.index.keys c.insert.new.self.keys c.in_ok-key.key c.self.inside.list c.push.new.self c.args.name
    c.in-Ok.ensures.keys (c.in_ok-key.ensures.items ∙ c.as_slice.ensures) c.in_ok-push.ensures.ok c.self.invariant
