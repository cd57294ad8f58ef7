use Rattle.std.proofs.Common.{◌<◌, Some, sym, ap, ◌∙◌}
use Rattle.std.proofs.lemmas.List.Elements.{All-pop}
use Rattle.c_types.specs.Table.{type_at}
use Rattle.declarator_rules.proofs.Growing.{extends_on}
use Rattle.declarator_rules.specs.Lengths.{wrapped}
use Rattle.declarator_rules.proofs.Wrapping.{wrapped_more}
use Rattle.declarator_rules.proofs.lengths.wrap.Goals as goal

pub loop-outer-preserved : goal.loop-outer-preserved
loop-outer-preserved c =
    let inner = type_at c.loop-outer.world.table.terms c.loop-outer.ty.0 in
    record {
      seen = c.in-Ok.ensures.seen ∙ c.loop-outer.invariant.seen;
      extends = extends_on c.args.world.now.table c.loop-outer.world.table c.make.new.self.table c.loop-outer.invariant.extends c.in-Ok.ensures.extends;
      is =
          ap (wrapped c.pop.new.self) c.in-Ok.ensures.is ∙ sym (wrapped_more c.pop.new.self c.in-Some.outer inner)
          ∙ ap (λ qs. wrapped qs inner) (sym c.in-Some.ensures) ∙ c.loop-outer.invariant.is;
      small = (All-pop (λ q. q < 8) c.loop-outer.qualifiers c.pop.new.self (Some c.in-Some.outer) c.in-Some.ensures c.loop-outer.invariant.small).0;
      valid = c.in-Ok.ensures.valid;
    }
