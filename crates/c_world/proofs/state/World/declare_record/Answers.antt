use Rattle.std.proofs.Common.{◌∙◌, ap, length, ◌≡◌}
use Rattle.c_world.specs.Inner.{Inner}
use Rattle.c_world.specs.Seen.{seen}
use Rattle.c_world.proofs.Numbering.{record_seen, record_sound}
use Rattle.c_world.proofs.Growth.{extends_same, extends_record}
use Rattle.c_world.proofs.state.World.declare_record.Goals as goal

pub returns-in_err-reserve-clause-extends : goal.returns-in_err-reserve-clause-extends
returns-in_err-reserve-clause-extends c = extends_same _ _ (ap (λ (v : Inner). v.table) c.self.view_is)

pub invariant_of-self-in-Ok : goal.invariant_of-self-in-Ok
invariant_of-self-in-Ok c =
    let e = c.in-Ok.ensures in
    rw (c.push.ensures.items, c.reserve.ensures.items) (record_sound _ _ _ _ _ e.grows e.records e.layouts e.members e.enums e.valid e.is c.self.invariant)

pub returns-in-Ok-clause-is : goal.returns-in-Ok-clause-is
unfolding seen
returns-in-Ok-clause-is c = c.len-number.ensures ∙ ap length c.reserve.ensures.items ∙ c.self.invariant.records ∙ rw (← c.self.view_is)

pub returns-in-Ok-clause-seen : goal.returns-in-Ok-clause-seen
returns-in-Ok-clause-seen c =
    let e = c.in-Ok.ensures in
    rw (c.push.ensures.items, c.reserve.ensures.items, ← c.self.view_is) (record_seen _ _ _ _ _ e.grows e.records e.layouts e.members e.enums c.self.invariant)

pub returns-in-Ok-clause-extends : goal.returns-in-Ok-clause-extends
returns-in-Ok-clause-extends c =
    let e = c.in-Ok.ensures in
    let t : c.self.inside.table ≡ c.args.self.now.table = ap (λ (v : Inner). v.table) c.self.view_is in
    rw (← t) (extends_record _ _ _ e.grows e.records e.enums)

pub returns-in-Err-clause-extends : goal.returns-in-Err-clause-extends
returns-in-Err-clause-extends c = extends_same _ _ (c.in-Err.ensures.err ∙ ap (λ (v : Inner). v.table) c.self.view_is)
