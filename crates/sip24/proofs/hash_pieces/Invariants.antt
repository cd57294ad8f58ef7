use Rattle.std.proofs.Common.{flat_map, take}
use Rattle.sip24.specs.Reading.{HasRead}
use Rattle.sip24.proofs.hash_pieces.Given as goal

abbrev pub invariant-loop-piece : goal.invariant-loop-piece
invariant-loop-piece l = HasRead l.hasher l.fn.key (flat_map (λ piece. piece.now) (take l.piece-index l.pieces))
