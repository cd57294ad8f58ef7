use Rattle.std.proofs.Common.{◌≡◌, ◌++◌, ◌∷◌, [], length}
use Rattle.c_types.specs.Pieces.{names_of}
use Rattle.c_types.specs.Spelling.{spelling}
use Rattle.c_types.specs.Table.{type_at}
use Rattle.c_types.proofs.Piecing.{pieces_last, turn_less, turn_text, first_text, first_valid}
use Rattle.c_types.proofs.table.TypeTable.spelling.Goals as goal

pub loop-piece-init : goal.loop-piece-init
loop-piece-init c = record {
  so_far = first_text c.args.self.now.terms (names_of c.args.self.now) c.canonical-root.result (type_at c.args.self.now.terms c.args.id.0) c.in_ok-out.out.items c.new-pieces.result.items c.push.new.pieces.items c.push-2.new.pieces.items c.in_ok-out.ensures.items c.new-pieces.ensures.items c.in_ok-push.ensures c.in_ok-push-2.ensures c.canonical-root.ensures.is;
  valid = first_valid (length c.args.self.now.terms) c.canonical-root.result c.new-pieces.result.items c.push.new.pieces.items c.push-2.new.pieces.items c.new-pieces.ensures.items c.in_ok-push.ensures c.in_ok-push-2.ensures c.canonical-root.ensures.below;
}

pub write-requires-clause-piece : goal.write-requires-clause-piece
write-requires-clause-piece c =
    let items : c.loop-piece.pieces.items ≡ c.pop.new.self.items ++ c.in-Some.piece ∷ [] = c.in-Some.ensures.items in
    (pieces_last c.args.self.now.terms (names_of c.args.self.now) (length c.args.self.now.terms) c.pop.new.self.items c.in-Some.piece (rw items at c.loop-piece.invariant.valid)).1

pub write-requires-clause-pieces : goal.write-requires-clause-pieces
write-requires-clause-pieces c =
    let items : c.loop-piece.pieces.items ≡ c.pop.new.self.items ++ c.in-Some.piece ∷ [] = c.in-Some.ensures.items in
    (pieces_last c.args.self.now.terms (names_of c.args.self.now) (length c.args.self.now.terms) c.pop.new.self.items c.in-Some.piece (rw items at c.loop-piece.invariant.valid)).0

pub loop-piece-smaller : goal.loop-piece-smaller
loop-piece-smaller c =
    let items : c.loop-piece.pieces.items ≡ c.pop.new.self.items ++ c.in-Some.piece ∷ [] = c.in-Some.ensures.items in
    turn_less c.args.self.now.terms (names_of c.args.self.now) c.loop-piece.pieces.items c.pop.new.self.items c.write.new.pieces.items c.in-Some.piece items c.in-Ok.ensures.less

pub loop-piece-preserved : goal.loop-piece-preserved
loop-piece-preserved c =
    let items : c.loop-piece.pieces.items ≡ c.pop.new.self.items ++ c.in-Some.piece ∷ [] = c.in-Some.ensures.items in
    record {
      so_far = turn_text c.args.self.now.terms (names_of c.args.self.now) c.loop-piece.pieces.items c.pop.new.self.items c.write.new.pieces.items c.in-Some.piece c.loop-piece.out.items c.write.new.out.items (spelling (names_of c.args.self.now) (type_at c.args.self.now.terms c.args.id.0)) items c.in-Ok.ensures.text_is c.loop-piece.invariant.so_far;
      valid = c.in-Ok.ensures.valid;
    }
