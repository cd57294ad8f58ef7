use Rattle.std.proofs.Common.{◌≡◌, length, drop, ◌≤◌, ap, sym, ◌∙◌, arith}
use Rattle.tok_base.proofs.Reading.{moved, ended}
use Rattle.tok_base.proofs.memory.MemSourceSource.read.Goals as goal

pub returns-clause-bytes : goal.returns-clause-bytes
returns-clause-bytes c =
    let count = c.min-count.result in
    let rest = c.behind-rest.result.now in
    let inside = c.self.inside in
    let few : count ≤ length rest = omega (arith, c.min.ensures, c.min-count.ensures) in
    let behind : rest ≡ drop inside.done inside.bytes = c.behind-rest.ensures ∙ ap (drop inside.done) c.as_slice.ensures in (
      sym (ap (λ s. s.rest) c.self.view_is) ∙ moved inside.bytes rest c.args.buf.now c.copy_from_slice.new.self inside.done count behind c.copy_from_slice.ensures.after few,
      λ z p. ended inside.bytes rest c.args.buf.now c.copy_from_slice.new.self inside.done count inside.most behind c.copy_from_slice.ensures.after
          (omega (arith, c.min.ensures, c.min-count.ensures)) c.self.invariant.1 z p,
    )
