use Rattle.c_parts.proofs.Listed.{made_record}
use Rattle.c_parts.proofs.raw.record.Goals as goal

pub returns : goal.returns
returns c = made_record c.record.result c.args.at c.args.is_union c.args.tag c.args.fields c.record.ensures
