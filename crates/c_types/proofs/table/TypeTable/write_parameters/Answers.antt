use Rattle.std.proofs.Common.{◌∷◌, [], arith, refl, rules}
use Rattle.c_types.specs.Pieces.{names_of}
use Rattle.c_types.specs.Table.{type_at}
use Rattle.c_types.specs.declared.pieces.Inside.TheVariants as inside
use Rattle.c_types.specs.declared.pieces.Piece.TheVariants as piece
use Rattle.c_types.proofs.Piecing.{on_ok, written, parts}
use Rattle.c_types.proofs.table.TypeTable.write_parameters.Goals as goal

pub returns-in-Some : goal.returns-in-Some
returns-in-Some c = on_ok c.push_parameter.result c.push_parameter.ensures (λ e.
    written c.args.self.now.terms (names_of c.args.self.now) (piece.Parameters c.args.id) c.args.out.now.items c.args.out.now.items c.args.pieces.now.items _ []
    (piece.More c.args.id 1 ∷ piece.Behind c.in-Some.parameter ∷ piece.Before 0 c.in-Some.parameter inside.Nothing ∷ []) (search rules) e
    (rw (c.in-Some.ensures.some, parts (names_of c.args.self.now) 0 (type_at c.args.self.now.terms c.in-Some.parameter.0) []) refl) (rw c.in-Some.ensures.some (omega arith)) (c.requires.id, (c.in-Some.ensures.within, (c.in-Some.ensures.within, tt))) c.requires.pieces)
