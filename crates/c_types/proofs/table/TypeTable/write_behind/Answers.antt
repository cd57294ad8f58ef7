use Rattle.std.proofs.Common.{◌∷◌, [], arith, refl}
use Rattle.c_types.specs.Pieces.{names_of}
use Rattle.c_types.specs.declared.pieces.Piece.TheVariants as piece
use Rattle.c_types.proofs.Piecing.{on_ok, put_one, written_one, written, three_pushes, called_text}
use Rattle.c_types.proofs.table.TypeTable.write_behind.Goals as goal

pub returns-in_ok-append_closed-in-Pointer : goal.returns-in_ok-append_closed-in-Pointer
returns-in_ok-append_closed-in-Pointer c =
    let is = rw c.in-Pointer.is at c.term.ensures.type_is in
    let below = rw c.in-Pointer.is at c.term.ensures.parts in
    on_ok c.push.result c.push.ensures (λ e. written_one c.args.self.now.terms (names_of c.args.self.now) (piece.Behind c.args.id) _ _ _ _ _ (piece.Behind c.in-Pointer.to) c.in_ok-append_closed-in-Pointer.ensures e (rw (is, c.is_suffixed.ensures) refl) (rw is (omega arith)) (let l = c.requires.id in omega arith) c.requires.pieces)

pub returns-in_ok-append_length-in-Array : goal.returns-in_ok-append_length-in-Array
returns-in_ok-append_length-in-Array c =
    let is = rw c.in-Array.is at c.term.ensures.type_is in
    let below = rw c.in-Array.is at c.term.ensures.parts in
    on_ok c.push-in-Array.result c.push-in-Array.ensures (λ e. written_one c.args.self.now.terms (names_of c.args.self.now) (piece.Behind c.args.id) _ _ _ _ _ (piece.Behind c.in-Array.element) c.in_ok-append_length-in-Array.ensures e (rw is refl) (rw is (omega arith)) (let l = c.requires.id in omega arith) c.requires.pieces)

pub returns-in_ok-append-in-Flexible : goal.returns-in_ok-append-in-Flexible
returns-in_ok-append-in-Flexible c =
    let is = rw c.in-Flexible.is at c.term.ensures.type_is in
    let below = rw c.in-Flexible.is at c.term.ensures.parts in
    on_ok c.push-in-Flexible.result c.push-in-Flexible.ensures (λ e. written_one c.args.self.now.terms (names_of c.args.self.now) (piece.Behind c.args.id) _ _ _ _ _ (piece.Behind c.in-Flexible.element) c.in_ok-append-in-Flexible.ensures e (rw is refl) (rw is (omega arith)) (let l = c.requires.id in omega arith) c.requires.pieces)

pub returns-in_ok-push-in-Function-2 : goal.returns-in_ok-push-in-Function-2
returns-in_ok-push-in-Function-2 c =
    let is = rw c.in-Function.is at c.term.ensures.type_is in
    let below = rw c.in-Function.is at c.term.ensures.parts in
    on_ok c.push-in-Function-3.result c.push-in-Function-3.ensures (λ e.
    written c.args.self.now.terms (names_of c.args.self.now) (piece.Behind c.args.id) _ _ c.args.pieces.now.items _ (40 ∷ [])
    (piece.Behind c.in-Function.returned ∷ piece.Close ∷ piece.Parameters c.args.id ∷ []) c.in_ok-append-in-Function.ensures
    (three_pushes c.args.pieces.now.items c.push-in-Function.new.pieces.items c.push-in-Function-2.new.pieces.items c.push-in-Function-3.new.pieces.items (piece.Behind c.in-Function.returned) piece.Close (piece.Parameters c.args.id) c.in_ok-push-in-Function.ensures c.in_ok-push-in-Function-2.ensures e)
    (rw is (called_text _ _)) (rw is (omega arith)) (let l = c.requires.id in omega arith, (tt, (c.requires.id, tt))) c.requires.pieces)

pub returns-in-Named : goal.returns-in-Named
returns-in-Named c =
    let is = rw c.in-Named.is at c.term.ensures.type_is in
    let below = rw c.in-Named.is at c.term.ensures.parts in
    on_ok c.push-in-Named.result c.push-in-Named.ensures (λ e. put_one c.args.self.now.terms (names_of c.args.self.now) (piece.Behind c.args.id) _ _ _ (piece.Behind c.in-Named.named) e (rw is refl) (rw is (omega arith)) (let l = c.requires.id in omega arith) c.requires.pieces)

pub returns-in-Qualified : goal.returns-in-Qualified
returns-in-Qualified c =
    let is = rw c.in-Qualified.is at c.term.ensures.type_is in
    let below = rw c.in-Qualified.is at c.term.ensures.parts in
    on_ok c.push-in-Qualified.result c.push-in-Qualified.ensures (λ e. put_one c.args.self.now.terms (names_of c.args.self.now) (piece.Behind c.args.id) _ _ _ (piece.Behind c.in-Qualified.inner) e (rw is refl) (rw is (omega arith)) (let l = c.requires.id in omega arith) c.requires.pieces)
