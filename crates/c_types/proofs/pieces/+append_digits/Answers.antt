use Rattle.c_types.proofs.Piecing.{digits_pushed, on_ok}
use Rattle.c_types.proofs.pieces.+append_digits.Goals as goal

pub returns : goal.returns
returns d c = on_ok c.append-2.result c.append-2.ensures (λ e. digits_pushed c.args.out.now.items c.append_digits.new.out.items c.append-2.new.out.items c.args.most c.args.number c.if-most-eq0.false c.if-number-lt10.false c.in_ok-append_digits.ensures e)
