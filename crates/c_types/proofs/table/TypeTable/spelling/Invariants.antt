use Rattle.std.proofs.Common.{◌≡◌, ◌++◌, length}
use Rattle.c_types.specs.Pieces.{names_of, text, work, ArePieces}
use Rattle.c_types.specs.Spelling.{spelling}
use Rattle.c_types.specs.Table.{type_at}
use Rattle.c_types.proofs.table.TypeTable.spelling.Given as goal

abbrev pub invariant-loop-piece : goal.invariant-loop-piece
invariant-loop-piece l = record {
  so_far : l.out.items ++ text l.self.terms (names_of l.self) l.pieces.items ≡ spelling (names_of l.self) (type_at l.self.terms l.fn.id.0);
  valid : ArePieces (length l.self.terms) l.pieces.items;
}

abbrev pub decreases-loop-piece : goal.decreases-loop-piece
decreases-loop-piece l = work l.self.terms l.pieces.items
