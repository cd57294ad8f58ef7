use Rattle.c_world.proofs.Numbering.{record_tag_below}
use Rattle.c_world.proofs.Growth.{extends_self, extends_to}
use Rattle.c_world.proofs.state.World.new_record.Goals as goal

pub returns-in_err-name-clause-extends : goal.returns-in_err-name-clause-extends
returns-in_err-name-clause-extends c = extends_self _

pub returns-in_err-number-clause-extends : goal.returns-in_err-number-clause-extends
returns-in_err-number-clause-extends c = c.declare_record.ensures.extends

pub returns-in_err-count_unnamed-clause-extends : goal.returns-in_err-count_unnamed-clause-extends
returns-in_err-count_unnamed-clause-extends c = extends_to _ _ _ c.declare_record.ensures.extends c.count_unnamed.ensures.same

pub new_tag-requires : goal.new_tag-requires
new_tag-requires c = rw (c.tag_sort.ensures, c.count_unnamed.ensures.same) (record_tag_below _ _ _ _ c.in_ok-number.ensures.valid)

pub returns-in_err-new_tag-clause-extends : goal.returns-in_err-new_tag-clause-extends
returns-in_err-new_tag-clause-extends c = extends_to _ _ _ (extends_to _ _ _ c.declare_record.ensures.extends c.count_unnamed.ensures.same) c.new_tag.ensures.same

pub returns-clause-is : goal.returns-clause-is
returns-clause-is c = c.in_ok-number.ensures.is

pub returns-clause-seen : goal.returns-clause-seen
returns-clause-seen c = rw (c.in_ok-new_tag.ensures.seen, c.in_ok-count_unnamed.ensures.seen, c.in_ok-number.ensures.seen, c.in_ok-number.ensures.is, c.in_ok-name.ensures, c.tag_sort.ensures)

pub returns-clause-valid : goal.returns-clause-valid
returns-clause-valid c = rw (c.new_tag.ensures.same, c.count_unnamed.ensures.same) c.in_ok-number.ensures.valid

pub returns-clause-extends : goal.returns-clause-extends
returns-clause-extends c = extends_to _ _ _ (extends_to _ _ _ c.declare_record.ensures.extends c.count_unnamed.ensures.same) c.new_tag.ensures.same
