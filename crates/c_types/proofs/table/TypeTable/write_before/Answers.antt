use Rattle.std.proofs.Common.{◌∷◌, [], arith, refl, rules}
use Rattle.c_types.specs.Pieces.{names_of}
use Rattle.c_types.specs.declared.pieces.Inside.TheVariants as inside
use Rattle.c_types.specs.declared.pieces.Piece.TheVariants as piece
use Rattle.c_types.proofs.Piecing.{on_ok, put_one, written, two_pushes}
use Rattle.c_types.proofs.table.TypeTable.write_before.Goals as goal

pub returns-in_ok-push-in-Pointer : goal.returns-in_ok-push-in-Pointer
returns-in_ok-push-in-Pointer c =
    let is = rw c.in-Pointer.is at c.term.ensures.type_is in
    let below = rw c.in-Pointer.is at c.term.ensures.parts in
    on_ok c.push-in-Pointer.result c.push-in-Pointer.ensures (λ e.
    written c.args.self.now.terms (names_of c.args.self.now) (piece.Before c.args.qualifiers c.args.id c.args.inside) c.args.out.now.items c.args.out.now.items c.args.pieces.now.items _ []
    (piece.Star c.args.qualifiers c.args.inside c.is_suffixed.result ∷ piece.Before 0 c.in-Pointer.to inside.Other ∷ []) (search rules) (two_pushes c.args.pieces.now.items c.push.new.pieces.items c.push-in-Pointer.new.pieces.items (piece.Star c.args.qualifiers c.args.inside c.is_suffixed.result) (piece.Before 0 c.in-Pointer.to inside.Other) c.in_ok-push-in-Pointer.ensures e) (rw (is, c.is_suffixed.ensures) refl) (rw is (omega arith)) (tt, (let l = c.requires.id in omega arith, tt)) c.requires.pieces)

pub returns-in-Array : goal.returns-in-Array
returns-in-Array c =
    let is = rw c.in-Array.is at c.term.ensures.type_is in
    let below = rw c.in-Array.is at c.term.ensures.parts in
    on_ok c.push-in-Array.result c.push-in-Array.ensures (λ e. put_one c.args.self.now.terms (names_of c.args.self.now) (piece.Before c.args.qualifiers c.args.id c.args.inside) _ _ _ (piece.Before c.args.qualifiers c.in-Array.element c.bracketed.result) e (rw (is, c.bracketed.ensures) refl) (rw is (omega arith)) (let l = c.requires.id in omega arith) c.requires.pieces)

pub returns-in-Flexible : goal.returns-in-Flexible
returns-in-Flexible c =
    let is = rw c.in-Flexible.is at c.term.ensures.type_is in
    let below = rw c.in-Flexible.is at c.term.ensures.parts in
    on_ok c.push-in-Flexible.result c.push-in-Flexible.ensures (λ e. put_one c.args.self.now.terms (names_of c.args.self.now) (piece.Before c.args.qualifiers c.args.id c.args.inside) _ _ _ (piece.Before c.args.qualifiers c.in-Flexible.element c.bracketed-in-Flexible.result) e (rw (is, c.bracketed-in-Flexible.ensures) refl) (rw is (omega arith)) (let l = c.requires.id in omega arith) c.requires.pieces)

pub returns-in-Function : goal.returns-in-Function
returns-in-Function c =
    let is = rw c.in-Function.is at c.term.ensures.type_is in
    let below = rw c.in-Function.is at c.term.ensures.parts in
    on_ok c.push-in-Function.result c.push-in-Function.ensures (λ e. put_one c.args.self.now.terms (names_of c.args.self.now) (piece.Before c.args.qualifiers c.args.id c.args.inside) _ _ _ (piece.Before 0 c.in-Function.returned c.called.result) e (rw (is, c.called.ensures) refl) (rw is (omega arith)) (let l = c.requires.id in omega arith) c.requires.pieces)

pub returns-in-Named : goal.returns-in-Named
returns-in-Named c =
    let is = rw c.in-Named.is at c.term.ensures.type_is in
    let below = rw c.in-Named.is at c.term.ensures.parts in
    on_ok c.push-in-Named.result c.push-in-Named.ensures (λ e. put_one c.args.self.now.terms (names_of c.args.self.now) (piece.Before c.args.qualifiers c.args.id c.args.inside) _ _ _ (piece.Before c.args.qualifiers c.in-Named.named c.args.inside) e (rw is refl) (rw is (omega arith)) (let l = c.requires.id in omega arith) c.requires.pieces)

pub returns-in-Qualified : goal.returns-in-Qualified
returns-in-Qualified c =
    let is = rw c.in-Qualified.is at c.term.ensures.type_is in
    let below = rw c.in-Qualified.is at c.term.ensures.parts in
    on_ok c.push-in-Qualified.result c.push-in-Qualified.ensures (λ e. put_one c.args.self.now.terms (names_of c.args.self.now) (piece.Before c.args.qualifiers c.args.id c.args.inside) _ _ _ (piece.Before _ c.in-Qualified.inner c.args.inside) e (rw is refl) (rw is (omega arith)) (let l = c.requires.id in omega arith) c.requires.pieces)
