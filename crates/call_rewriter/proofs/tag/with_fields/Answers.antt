use Rattle.call_rewriter.proofs.Forms.{record_put}
use Rattle.c_tree.specs.declared.expression.Record.{out-Record}
use Rattle.call_rewriter.proofs.tag.with_fields.Goals as goal

pub returns : goal.returns
returns c = λ ss.
    let r = out-Record c.args.r.now in
    record_put r.at r.is_union c.args.tag c.args.fields ss
