use Rattle.std.proofs.Common.{◌≡◌, ap, ◌∙◌}
use Rattle.std.proofs.lemmas.Result.{on_ok_weaker}
use Rattle.c_types.specs.CTypes as c'
use Rattle.c_types.specs.Table.{type_at}
use Rattle.c_world.specs.Inner.{Inner}
use Rattle.c_world.specs.Seen.{seen}
use Rattle.c_world.proofs.Growth.{extends_same}
use Rattle.c_world.proofs.Numbering.{unfinished_is, finished_seen, finished_sound, finished_extends, either}
use Rattle.c_world.proofs.state.World.finish_record.Goals as goal

pub finish_record-requires-clause-unfinished : goal.finish_record-requires-clause-unfinished
finish_record-requires-clause-unfinished c =
    let t : c.self.inside.table ≡ c.args.self.now.table = ap (λ (v : Inner). v.table) c.self.view_is in
    rw t (unfinished_is c.args.self.now c.args.number _ c.requires.number (rw (← c.self.view_is) c.self.invariant) c.requires.unfinished c.record_type-id.ensures.is)

pub invariant_of-self : goal.invariant_of-self
invariant_of-self c =
    let t : c.self.inside.table ≡ c.args.self.now.table = ap (λ (v : Inner). v.table) c.self.view_is in
    let e : type_at c.self.inside.table.terms c.record_type-id.result.0 ≡ c'.Record c.args.number = rw t c.record_type-id.ensures.is in
    either c.finish_record.result _ _ _
    (λ f. finished_sound _ _ c.args.number c.args.members (rw t c.requires.number) (rw t c.requires.members) f c.self.invariant)
    (λ s. rw s c.self.invariant)
    (rw e at c.finish_record.ensures.finished)
    c.finish_record.ensures.err

pub returns-clause-accepted : goal.returns-clause-accepted
unfolding seen
returns-clause-accepted c =
    let t : c.self.inside.table ≡ c.args.self.now.table = ap (λ (v : Inner). v.table) c.self.view_is in
    let e : type_at c.self.inside.table.terms c.record_type-id.result.0 ≡ c'.Record c.args.number = rw t c.record_type-id.ensures.is in
    rw (← t) (rw e at c.finish_record.ensures.accepted)

pub returns-clause-seen : goal.returns-clause-seen
returns-clause-seen c =
    let t : c.self.inside.table ≡ c.args.self.now.table = ap (λ (v : Inner). v.table) c.self.view_is in
    let e : type_at c.self.inside.table.terms c.record_type-id.result.0 ≡ c'.Record c.args.number = rw t c.record_type-id.ensures.is in
    on_ok_weaker c.finish_record.result
    (λ f. rw (← c.self.view_is) (finished_seen _ _ c.args.number c.args.members (rw t c.requires.members) f c.self.invariant))
    (rw e at c.finish_record.ensures.finished)

pub returns-clause-extends : goal.returns-clause-extends
returns-clause-extends c =
    let t : c.self.inside.table ≡ c.args.self.now.table = ap (λ (v : Inner). v.table) c.self.view_is in
    let e : type_at c.self.inside.table.terms c.record_type-id.result.0 ≡ c'.Record c.args.number = rw t c.record_type-id.ensures.is in
    either c.finish_record.result _ _ _
    (λ f. rw (← t) (finished_extends _ _ c.args.number c.args.members f))
    (λ s. extends_same _ _ (s ∙ t))
    (rw e at c.finish_record.ensures.finished)
    c.finish_record.ensures.err

pub returns-clause-cause : goal.returns-clause-cause
unfolding seen
returns-clause-cause c =
    let t : c.self.inside.table ≡ c.args.self.now.table = ap (λ (v : Inner). v.table) c.self.view_is in
    let e : type_at c.self.inside.table.terms c.record_type-id.result.0 ≡ c'.Record c.args.number = rw t c.record_type-id.ensures.is in
    rw (← t) (rw e at c.finish_record.ensures.cause)
