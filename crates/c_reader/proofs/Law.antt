-- The laws of the machine, over kinds and texts.
use Rattle.std.proofs.Common.{◌≡◌, List, [], ◌∷◌, ◌++◌, map, Some, refl, sym, ◌∙◌, ap, subst, arith}
use Rattle.c_tree.specs.Tok as g
use Rattle.c_tree.specs.Tok.{Tok}
use Rattle.c_tree.specs.Tree.{External}
use Rattle.std.specs.List.{AllByRecursion}
use Rattle.c_tree.specs.Put.{toks}
use Rattle.c_tree.specs.Depth.{unit_depth}
use Rattle.c_reader.specs.Inside.{Mode, State, want_external, in_attribute, specs, declarator, after_attributes, want_init, after_init, expr, stmt}
use Rattle.c_reader.specs.Machine.{Read, run, unit_at, Answer}
use Rattle.c_reader.specs.Above.{so_far}
use Rattle.c_reader.specs.Machine as machine
use Rattle.std.proofs.lemmas.List.Elements.{All-head, All-tail}
use Rattle.tok_base.specs.declared.token.Lexeme.{Lexeme}
use Rattle.c_lexer.specs.Lexeme.{IsLexeme}
use Rattle.c_tree.specs.Lexeme.{lexeme}
use Rattle.c_tree.specs.Reading.{Begins}
use Rattle.c_tree.proofs.Lexemes.{apart}
use Rattle.c_reader.specs.Laws.{AreLexemes, Tells, UnitsAreKept, AnswersAreRight, UnitsAreUnique, DeepIsKnown, DepthIsKnown}
use Rattle.c_reader.proofs.Sound.{ValidTok, Ran, ran}
use Rattle.c_reader.proofs.Place.{BeginsTok, Told, told, begin_ok, reached_begins}
use Rattle.c_reader.proofs.Statements.{parses, unique}
use Rattle.c_reader.proofs.Deep.{deep}

unmap : (done ts : List Tok) (q : List Lexeme) → map lexeme ts ≡ map lexeme done ++ q → (r : List Tok) × (ts ≡ done ++ r)
unmap [] ts q e = (ts, refl)
unmap (x ∷ done) [] q e = cc
unmap (x ∷ done) (y ∷ ts) q e =
    let heads : lexeme y ≡ lexeme x = cc in
    let tails : map lexeme ts ≡ map lexeme done ++ q = cc in
    let r = unmap done ts q tails in
    (r.0, ap (λ z. z ∷ ts) (apart y x heads) ∙ ap (λ zs. x ∷ zs) r.1)

pub map_append : (ts us : List Tok) → map lexeme (ts ++ us) ≡ map lexeme ts ++ map lexeme us
map_append [] us = refl
map_append (x ∷ ts) us = ap (λ zs. lexeme x ∷ zs) (map_append ts us)

same_toks : (ts us : List Tok) → map lexeme ts ≡ map lexeme us → ts ≡ us
same_toks [] [] e = refl
same_toks [] (y ∷ us) e = cc
same_toks (x ∷ ts) [] e = cc
same_toks (x ∷ ts) (y ∷ us) e =
    let heads : lexeme x ≡ lexeme y = cc in
    let tails : map lexeme ts ≡ map lexeme us = cc in
    ap (λ z. z ∷ ts) (apart x y heads) ∙ ap (λ zs. y ∷ zs) (same_toks ts us tails)

-- ---- units are kept

pub units_are_kept : UnitsAreKept
units_are_kept ts v h = ap machine.read (sym (same_toks (toks v) ts h.1)) ∙ parses v h.0

pub units_are_unique : UnitsAreUnique
units_are_unique v w hv hw e = unique v w hv hw (same_toks (toks v) (toks w) e)

-- ---- answers are right

valid_tok : (x : Tok) → IsLexeme (lexeme x) → ValidTok x
valid_tok (g.name n) h = h
valid_tok (g.number n) h = h
valid_tok (g.char n) h = h
valid_tok (g.text n) h = h
valid_tok (g.word w) h = tt
valid_tok (g.other w) h = tt
valid_tok (g.mark m) h = tt

pub valid_toks : (ts : List Tok) → AreLexemes ts → AllByRecursion ValidTok ts
valid_toks [] h = tt
valid_toks (x ∷ ts) h = (valid_tok x (All-head IsLexeme (lexeme x) (map lexeme ts) h), valid_toks ts (All-tail IsLexeme (lexeme x) (map lexeme ts) h))

pub begins : (done : List Tok) → BeginsTok done → Begins (map lexeme done)
begins done h = (h.0, h.1, map lexeme h.2, ap (map lexeme) h.3 ∙ map_append done h.2)

begins_tok : (done : List Tok) → Begins (map lexeme done) → BeginsTok done
begins_tok done h = let r = unmap done (toks h.0) h.2 h.3 in (h.0, h.1, r.0, r.1)

no_longer : (done rest : List Tok) → ((x : Tok) (more : List Tok) → rest ≡ x ∷ more → BeginsTok (done ++ x ∷ []) → ⊥) → (l : Lexeme) (more : List Lexeme) → map lexeme rest ≡ l ∷ more → Begins (map lexeme done ++ l ∷ []) → ⊥
no_longer done [] f l more e b = cc
no_longer done (x ∷ rest) f l more e b =
    let head : lexeme x ≡ l = cc in
    f x rest refl (begins_tok (done ++ x ∷ []) (subst Begins (ap (λ z. map lexeme done ++ z ∷ []) (sym head) ∙ sym (map_append done (x ∷ []))) b))

tells : (ts : List Tok) (a : Answer) → machine.read ts ≡ a → Told ts a → Tells ts a
tells ts (Answer.unit v) e h = (h.0, ap (map lexeme) h.1)
tells ts (Answer.wrong rest) e h =
    (h.0, h.1, (begins h.0 h.2, no_longer h.0 rest h.3), λ x. let clash : Answer.unit x.0 ≡ Answer.wrong rest = sym (units_are_kept ts x.0 x.1) ∙ e in cc)

pub answers_are_right : AnswersAreRight
answers_are_right ts h = tells ts (machine.read ts) refl (told ts (valid_toks ts h))

-- tokens that lead to a state begin a unit
pub reached_is_begun : (ts : List Tok) (s : State) → AreLexemes ts → run machine.begin ts ≡ Read.reached s → Begins (map lexeme ts)
reached_is_begun ts s h e = begins ts (reached_begins ts s (subst (Ran machine.begin ts) e (ran ts machine.begin (valid_toks ts h) begin_ok)))

-- ---- the depth

pub deep_is_known : DeepIsKnown
deep_is_known ts s h d v q w f e =
    let r = unmap ts (toks v) q e in
    let least = deep ts r.0 s v h w r.1 in
    omega (arith, least, f, d)

some_is : (done v : List External) → Some done ≡ Some v → unit_depth done ≡ unit_depth v
some_is done v e = cc

end_depth : (m : Mode) (v : List External) → unit_at m ≡ Some v → so_far m ≡ unit_depth v
end_depth (want_external done) v e = some_is done v e
end_depth (in_attribute m a) v e = cc
end_depth (specs m) v e = cc
end_depth (declarator m) v e = cc
end_depth (after_attributes r) v e = cc
end_depth (want_init k) v e = cc
end_depth (after_init k x) v e = cc
end_depth (expr m) v e = cc
end_depth (stmt m) v e = cc

pub depth_is_known : DepthIsKnown
depth_is_known s v e = end_depth s.mode v e
