use Rattle.c_parts.proofs.Listed.{made_record_tag}
use Rattle.c_parts.proofs.specifier.record_tag.Goals as goal

pub returns : goal.returns
returns c = made_record_tag c.record.result c.args.at c.args.is_union c.args.tag c.record.ensures
