use Rattle.std.proofs.Common.{◌≡◌, ◌∙◌, ap, sym, arith, refl}
use Rattle.c_types.specs.Pieces.{names_of}
use Rattle.c_types.specs.Table.{type_at}
use Rattle.c_types.specs.Spelling.{stripped}
use Rattle.c_types.specs.declared.pieces.Piece.TheVariants as piece
use Rattle.c_types.proofs.Piecing.{on_ok, put_one, stripped_other}
use Rattle.c_types.proofs.table.TypeTable.write_outer.Goals as goal

pub returns-in-Array : goal.returns-in-Array
returns-in-Array c =
    let is = rw c.in-Array.is at c.term.ensures.type_is in
    let below = rw c.in-Array.is at c.term.ensures.parts in
    on_ok c.push.result c.push.ensures (λ e. put_one c.args.self.now.terms (names_of c.args.self.now) (piece.Outer c.args.id c.args.inside) _ _ _ (piece.Outer c.in-Array.element c.bracketed.result) e (rw (is, c.bracketed.ensures) refl) (rw is (omega arith)) (let l = c.requires.id in omega arith) c.requires.pieces)

pub returns-in-Flexible : goal.returns-in-Flexible
returns-in-Flexible c =
    let is = rw c.in-Flexible.is at c.term.ensures.type_is in
    let below = rw c.in-Flexible.is at c.term.ensures.parts in
    on_ok c.push-in-Flexible.result c.push-in-Flexible.ensures (λ e. put_one c.args.self.now.terms (names_of c.args.self.now) (piece.Outer c.args.id c.args.inside) _ _ _ (piece.Outer c.in-Flexible.element c.bracketed-in-Flexible.result) e (rw (is, c.bracketed-in-Flexible.ensures) refl) (rw is (omega arith)) (let l = c.requires.id in omega arith) c.requires.pieces)

pub returns-in-Qualified : goal.returns-in-Qualified
returns-in-Qualified c =
    let is = rw c.in-Qualified.is at c.term.ensures.type_is in
    let below = rw c.in-Qualified.is at c.term.ensures.parts in
    on_ok c.push-in-Qualified.result c.push-in-Qualified.ensures (λ e. put_one c.args.self.now.terms (names_of c.args.self.now) (piece.Outer c.args.id c.args.inside) _ _ _ (piece.Before 0 c.in-Qualified.inner c.args.inside) e (rw is refl) (rw is (omega arith)) (let l = c.requires.id in omega arith) c.requires.pieces)

pub returns-in_default : goal.returns-in_default
returns-in_default c =
    let same : stripped (type_at c.args.self.now.terms c.args.id.0) ≡ type_at c.args.self.now.terms c.args.id.0 =
    ap stripped c.term.ensures.type_is ∙ stripped_other c.args.self.now.terms (names_of c.args.self.now) c.term.result.now c.in_default.not-Array c.in_default.not-Flexible c.in_default.not-Qualified ∙ sym c.term.ensures.type_is in
    on_ok c.push-in_default.result c.push-in_default.ensures (λ e. put_one c.args.self.now.terms (names_of c.args.self.now) (piece.Outer c.args.id c.args.inside) _ _ _ (piece.Before 0 c.args.id c.args.inside) e (rw same refl) (omega arith) c.requires.id c.requires.pieces)
