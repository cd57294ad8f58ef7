-- The trials of initialisers, declarations, statements and the unit stand in order.
use Rattle.std.proofs.Common.{◌≡◌, ℕ, suc, ◌+◌, ◌*◌, Bool, true, false, List, [], ◌∷◌, Option, None, arith}
use Rattle.std.specs.Prelude.{length}
use Rattle.c_tree.specs.declared.operator.At.{At}
use Rattle.c_tree.specs.Tok as g
use Rattle.c_tree.specs.Tok.{mark, word}
use Rattle.c_tree.specs.Marked as t
use Rattle.c_tree.specs.Pieces.{Piece, token, opens, closes, pieces, pieces_all, pieces_more, pieces_commas, pieces_comma_if, pieces_attribute, pieces_maybe, pieces_specs, pieces_declarator, pieces_init, pieces_inits, pieces_more_inits, pieces_maybe_init, pieces_item, pieces_declaration, pieces_first, pieces_stmt, pieces_block, pieces_external, pieces_unit}
use Rattle.c_tree.specs.Places.{Numbered}
use Rattle.c_types.specs.CTypes.{CType}
use Rattle.c_types.specs.Plain.{plain, result_of}
use Rattle.c_rules.specs.Typed.{Typed}
use Rattle.c_rules.specs.World.{start}
use Rattle.c_rules.specs.Order.{TrialsInOrder}
use Rattle.c_rules.specs.Specifiers.{Specified, nothing_specified, base_type, has, is_typedef}
use Rattle.c_rules.specs.Declarators.{Laid, Built, built}
use Rattle.c_rules.specs.Initialisers as i
use Rattle.c_rules.specs.Forms.{Whole}
use Rattle.c_rules.specs.Walk.{at_of, name_node, judge_attribute}
use Rattle.c_rules.specs.Unit.{Around, judge_init, judge_inits, judge_declared, judge_attributes, judge_given, judge_item_init, judge_item_of, judge_item, judge_items, judge_declaration, judge_maybe_expr, judge_first, in_loop, judge_stmt, judge_block, judge_body, judge_external, judge_externals, declares, sized, given_length, is_fixed_here, is_static_here, names_of, own_name, whole_of}
use Rattle.c_rules.proofs.Nodes.{lower, Runs, RunsAt}
use Rattle.c_rules.proofs.Parts.{Part, ends_behind, attribute_part, comma_skipped, ExprPart, expr_part, SpecsPart, specs_part, DeclaratorPart, declarator_part}
use Rattle.c_rules.specs.declared.known.Declares.{Declares}
use Rattle.c_rules.specs.declared.known.Declares.TheVariants as decl

-- ---- initialisers

abbrev InitPart : t.Init → ℕ → List Piece → Type 0
InitPart x n rest = (j : ℕ) × (Numbered j rest × ((u : Whole) (fixed : Bool) → Runs i.Given (128 * n) (128 * j) (judge_init u fixed x)))

abbrev InitsPart : t.Inits → ℕ → List Piece → Type 0
InitsPart xs n rest = (j : ℕ) × (Numbered j rest × ((u : Whole) (fixed : Bool) → Runs i.Givens (128 * n) (128 * j) (judge_inits u fixed xs)))

mutual
  init_part : (x : t.Init) (n : ℕ) (rest : List Piece) → Numbered n (pieces_init x rest) → InitPart x n rest
  init_part (t.Plain e) n rest h =
      let p : ExprPart e n rest = expr_part e n rest h in
      (p.0, (p.1.0, λ u fixed k after w. p.1.1 u fixed _ (λ x v. after _ _) w))
  init_part (t.Braces at xs comma) n rest h =
      let p : InitsPart xs n (pieces_comma_if comma (token (mark g.RBrace) ∷ closes at ∷ rest)) = inits_part xs n _ h in
      let e : Numbered p.0 (token (mark g.RBrace) ∷ closes at ∷ rest) = comma_skipped comma p.0 _ p.1.0 in
      (suc p.0, (e.1, λ u fixed k after w. p.1.1 u fixed _ (λ x v. lower _ (128 * suc p.0) _ (omega arith) (after _ _)) w))

  inits_part : (xs : t.Inits) (n : ℕ) (rest : List Piece) → Numbered n (pieces_inits xs rest) → InitsPart xs n rest
  inits_part t.no_inits n rest h = (n, (h, λ u fixed k after w. after _ _))
  inits_part (t.init x xs) n rest h =
      let p : InitPart x n (pieces_more_inits xs rest) = init_part x n _ h in
      let q : InitsPart xs p.0 rest = more_inits_part xs p.0 rest p.1.0 in
      (q.0, (q.1.0, λ u fixed k after w. p.1.1 u fixed _ (λ y v. q.1.1 u fixed _ (λ ys s. after _ _) v) w))

  more_inits_part : (xs : t.Inits) (n : ℕ) (rest : List Piece) → Numbered n (pieces_more_inits xs rest) → InitsPart xs n rest
  more_inits_part t.no_inits n rest h = (n, (h, λ u fixed k after w. after _ _))
  more_inits_part (t.init x xs) n rest h =
      let p : InitPart x n (pieces_more_inits xs rest) = init_part x n _ h in
      let q : InitsPart xs p.0 rest = more_inits_part xs p.0 rest p.1.0 in
      (q.0, (q.1.0, λ u fixed k after w. p.1.1 u fixed _ (λ y v. q.1.1 u fixed _ (λ ys s. after _ _) v) w))

given_runs : (at : At) (what : Declares) (ty : CType) (fixed : Bool) (x : i.Given) → RunsAt (Unit {0}) at (judge_given at what ty fixed x)
given_runs at what ty fixed x k after w = (omega arith, (omega arith, (omega arith, lower _ (128 * suc at.id) _ (omega arith) (after _ _))))

-- the initialiser of an item, whose node has the next number
abbrev MaybeInitPart : t.MaybeInit → ℕ → List Piece → Type 0
MaybeInitPart x n rest = (j : ℕ) × (Numbered j rest × ((u : Whole) (at : At) (what : Declares) (ty : CType) (fixed : Bool) → at.id ≡ j → Runs (Unit {0}) (128 * n) (128 * suc j) (judge_item_init u at what ty fixed x)))

maybe_init_part : (x : t.MaybeInit) (n : ℕ) (rest : List Piece) → Numbered n (pieces_maybe_init x rest) → MaybeInitPart x n rest
maybe_init_part t.no_init n rest h = (n, (h, λ u at what ty fixed c k after w. lower _ (128 * suc n) _ (omega arith) (after _ _)))
maybe_init_part (t.some_init x) n rest h =
    let p : InitPart x n rest = init_part x n rest h in
    (p.0, (p.1.0, λ u at what ty fixed c k after w. p.1.1 u fixed _ (λ y v. ends_behind (Unit {0}) at p.0 (judge_given at what ty fixed y) c (given_runs at what ty fixed y) k after v) w))

-- ---- declarations

attributes_part : (xs : List t.Attribute) (n : ℕ) (rest : List Piece) → Numbered n (pieces_all pieces_attribute xs rest) → Part (Unit {0}) n rest (judge_attributes xs)
attributes_part [] n rest h = (n, (h, λ k after w. after _ _))
attributes_part (a ∷ xs) n rest h =
    let p : Part (Unit {0}) n (pieces_all pieces_attribute xs rest) (judge_attribute a) = attribute_part a n _ h in
    let q : Part (Unit {0}) p.0 rest (judge_attributes xs) = attributes_part xs p.0 rest p.1.0 in
    (q.0, (q.1.0, λ k after w. p.1.1 _ (λ x v. q.1.1 k after v) w))

declared_runs : (u : Whole) (what : Declares) (number : ℕ) (at : At) (d : Laid) (b : Built) (fixed completes : Bool) → RunsAt (Unit {0}) at (judge_declared u what number at d b fixed completes)
declared_runs u what number at d b fixed completes k after w =
    (omega arith, (omega arith, (omega arith, (omega arith, (omega arith, (omega arith, lower _ (128 * suc at.id) _ (omega arith) (after _ _)))))))

-- what stands behind the declarator of an item
abbrev BehindPart : t.Item → List Piece → Type 0
BehindPart x rest = (j : ℕ) × (Numbered j rest × ((u : Whole) (s : Specified) (what : Declares) (number : ℕ) (d : Laid) (b : Built) (fixed static : Bool) → Runs (Unit {0}) (128 * (at_of x.declarator).id + 64) (128 * j) (judge_item_of u s x what number d b fixed static)))

behind_part : (x : t.Item) (rest : List Piece) → Numbered (suc (at_of x.declarator).id) (pieces_all pieces_attribute x.attributes (pieces_maybe_init x.init (closes x.at ∷ rest))) → BehindPart x rest
behind_part x rest h =
    let p : Part (Unit {0}) (suc (at_of x.declarator).id) (pieces_maybe_init x.init (closes x.at ∷ rest)) (judge_attributes x.attributes) = attributes_part x.attributes _ _ h in
    let q : MaybeInitPart x.init p.0 (closes x.at ∷ rest) = maybe_init_part x.init p.0 _ p.1.0 in (
      suc q.0,
      (
        q.1.0.1,
        λ u s what number d b fixed static k after w. declared_runs u what number (at_of x.declarator) d b fixed _
            (λ r v. judge_attributes x.attributes (λ r2 v2. judge_item_init u x.at what b.type static x.init k v2) v)
            (λ r v. p.1.1 _ (λ r2 v2. q.1.1 u x.at what b.type static q.1.0.0 k after v2) v) w,
      ),
    )

abbrev ItemPart : t.Item → ℕ → List Piece → Type 0
ItemPart x n rest = (j : ℕ) × (Numbered j rest × ((name_node x.declarator ≡ n) × ((u : Whole) (s : Specified) (base : CType) → Runs (Unit {0}) (128 * n + 64) (128 * j) (judge_item u s base x))))

item_part : (x : t.Item) (n : ℕ) (rest : List Piece) → Numbered n (pieces_item x rest) → ItemPart x n rest
item_part x n rest h =
    let q : DeclaratorPart x.declarator n (pieces_all pieces_attribute x.attributes (pieces_maybe_init x.init (closes x.at ∷ rest))) = declarator_part x.declarator n _ h in
    let p : BehindPart x rest = behind_part x rest q.0 in (
      p.0,
      (
        p.1.0,
        (
          q.1.0,
          λ u s base k after w. q.1.1 u false _ (λ d v. p.1.1 u s (declares (has is_typedef s.words) base d.layers) (length w.objects) d
              (sized v (given_length (built v base d.layers).type x.init) (built v base d.layers)) (is_fixed_here v u s d) (is_static_here v s) k after v) _,
        ),
      ),
    )

abbrev ItemsPart : List t.Item → ℕ → List Piece → Type 0
ItemsPart xs n rest = (j : ℕ) × (Numbered j rest × ((u : Whole) (s : Specified) (base : CType) → Runs (Unit {0}) (128 * n) (128 * j) (judge_items u s base xs)))

more_items_part : (xs : List t.Item) (n : ℕ) (rest : List Piece) → Numbered n (pieces_more pieces_item xs rest) → ItemsPart xs n rest
more_items_part [] n rest h = (n, (h, λ u s base k after w. after _ _))
more_items_part (x ∷ xs) n rest h =
    let p : ItemPart x n (pieces_more pieces_item xs rest) = item_part x n _ h in
    let q : ItemsPart xs p.0 rest = more_items_part xs p.0 rest p.1.0 in
    (q.0, (q.1.0, λ u s base k after w. lower _ (128 * n + 64) _ (omega arith) (p.1.1.1 u s base (λ r v. judge_items u s base xs k v) (λ r v. q.1.1 u s base k after v) w)))

abbrev DeclarationPart : t.Declaration → ℕ → List Piece → Type 0
DeclarationPart d n rest = (j : ℕ) × (Numbered j rest × ((u : Whole) → Runs (Unit {0}) (128 * n) (128 * j) (judge_declaration u d)))

declaration_of : (at : At) (ss : t.Specs) (xs : List t.Item) (n : ℕ) (rest : List Piece) → Numbered n (pieces_specs ss (pieces_commas pieces_item xs (token (mark g.Semi) ∷ closes at ∷ rest))) → DeclarationPart (record { at = at; specs = ss; items = xs }) n rest
declaration_of at ss [] n rest h =
    let p : SpecsPart ss n (token (mark g.Semi) ∷ closes at ∷ rest) = specs_part ss n _ h in
    (suc p.0, (p.1.0.1, λ u k after w. p.1.1 u false (own_name ss []) nothing_specified _ (λ s v. (omega (arith, p.1.0.0), lower _ (128 * suc p.0) _ (omega (arith, p.1.0.0)) (after _ _))) w))
declaration_of at ss (x ∷ xs) n rest h =
    let p : SpecsPart ss n (pieces_item x (pieces_more pieces_item xs (token (mark g.Semi) ∷ closes at ∷ rest))) = specs_part ss n _ h in
    let q : ItemPart x p.0 (pieces_more pieces_item xs (token (mark g.Semi) ∷ closes at ∷ rest)) = item_part x p.0 _ p.1.0 in
    let r : ItemsPart xs q.0 (token (mark g.Semi) ∷ closes at ∷ rest) = more_items_part xs q.0 _ q.1.0 in (
      suc r.0,
      (
        r.1.0.1,
        λ u k after w. p.1.1 u false (own_name ss (x ∷ xs)) nothing_specified _ (λ s v. (
          omega (arith, q.1.1.0),
          lower _ (128 * p.0 + 64) _ (omega (arith, q.1.1.0)) (q.1.1.1 u s (base_type s) (λ a y. judge_items u s (base_type s) xs k y)
              (λ a y. r.1.1 u s (base_type s) k (λ b z. lower _ (128 * suc r.0) _ (omega arith) (after b z)) y) v),
        )) w,
      ),
    )

declaration_part : (d : t.Declaration) (n : ℕ) (rest : List Piece) → Numbered n (pieces_declaration d rest) → DeclarationPart d n rest
declaration_part d n rest h = declaration_of d.at d.specs d.items n rest h

-- ---- statements

abbrev MaybePart : t.MaybeExpr → ℕ → List Piece → Type 0
MaybePart e n rest = (j : ℕ) × (Numbered j rest × ((u : Whole) → Runs (Option Typed) (128 * n) (128 * j) (judge_maybe_expr u e)))

maybe_part : (e : t.MaybeExpr) (n : ℕ) (rest : List Piece) → Numbered n (pieces_maybe e rest) → MaybePart e n rest
maybe_part t.no_expr n rest h = (n, (h, λ u k after w. after _ _))
maybe_part (t.some_expr e) n rest h =
    let p : ExprPart e n rest = expr_part e n rest h in
    (p.0, (p.1.0, λ u k after w. p.1.1 u false _ (λ x v. after _ _) w))

abbrev FirstPart : t.First → ℕ → List Piece → Type 0
FirstPart f n rest = (j : ℕ) × (Numbered j rest × ((u : Whole) → Runs (Unit {0}) (128 * n) (128 * j) (judge_first u f)))

first_part : (f : t.First) (n : ℕ) (rest : List Piece) → Numbered n (pieces_first f rest) → FirstPart f n rest
first_part (t.FirstDeclaration d) n rest h = declaration_part d n rest h
first_part (t.FirstExpr e) n rest h =
    let p : MaybePart e n (token (mark g.Semi) ∷ rest) = maybe_part e n _ h in
    (p.0, (p.1.0, λ u k after w. p.1.1 u _ (λ x v. after _ _) w))

abbrev StmtPart : t.Stmt → ℕ → List Piece → Type 0
StmtPart s n rest = (j : ℕ) × (Numbered j rest × ((a : Around) → Runs (Unit {0}) (128 * n) (128 * j) (judge_stmt a s)))

abbrev BlockPart : t.BlockItems → ℕ → List Piece → Type 0
BlockPart ss n rest = (j : ℕ) × (Numbered j rest × ((a : Around) → Runs (Unit {0}) (128 * n) (128 * j) (judge_block a ss)))

mutual
  stmt_part : (s : t.Stmt) (n : ℕ) (rest : List Piece) → Numbered n (pieces_stmt s rest) → StmtPart s n rest
  stmt_part (t.Block at ss) n rest h =
      let p : BlockPart ss n (token (mark g.RBrace) ∷ closes at ∷ rest) = block_part ss n _ h in
      (suc p.0, (p.1.0.1, λ a k after w. p.1.1 a _ (λ x v. lower _ (128 * suc p.0) _ (omega arith) (after _ _)) _))
  stmt_part (t.ExprStmt at e) n rest h =
      let p : MaybePart e n (token (mark g.Semi) ∷ closes at ∷ rest) = maybe_part e n _ h in
      (suc p.0, (p.1.0.1, λ a k after w. p.1.1 a.whole _ (λ x v. lower _ (128 * suc p.0) _ (omega arith) (after _ _)) w))
  stmt_part (t.If at c s) n rest h =
      let p : ExprPart c n (token (mark g.RParen) ∷ pieces_stmt s (closes at ∷ rest)) = expr_part c n _ h in
      let q : StmtPart s p.0 (closes at ∷ rest) = stmt_part s p.0 _ p.1.0 in
      (suc q.0, (q.1.0.1, λ a k after w. p.1.1 a.whole false _ (λ x v. q.1.1 a _ (λ y z. (omega (arith, q.1.0.0), lower _ (128 * suc q.0) _ (omega (arith, q.1.0.0)) (after _ _))) _) _))
  stmt_part (t.IfElse at c s r) n rest h =
      let p : ExprPart c n (token (mark g.RParen) ∷ pieces_stmt s (token (word g.KElse) ∷ pieces_stmt r (closes at ∷ rest))) = expr_part c n _ h in
      let q : StmtPart s p.0 (token (word g.KElse) ∷ pieces_stmt r (closes at ∷ rest)) = stmt_part s p.0 _ p.1.0 in
      let o : StmtPart r q.0 (closes at ∷ rest) = stmt_part r q.0 _ q.1.0 in
      (suc o.0, (o.1.0.1, λ a k after w. p.1.1 a.whole false _ (λ x v. q.1.1 a _ (λ y z. o.1.1 a _ (λ y2 z2. (omega (arith, o.1.0.0), lower _ (128 * suc o.0) _ (omega (arith, o.1.0.0)) (after _ _))) _) _) _))
  stmt_part (t.While at c s) n rest h =
      let p : ExprPart c n (token (mark g.RParen) ∷ pieces_stmt s (closes at ∷ rest)) = expr_part c n _ h in
      let q : StmtPart s p.0 (closes at ∷ rest) = stmt_part s p.0 _ p.1.0 in
      (suc q.0, (q.1.0.1, λ a k after w. p.1.1 a.whole false _ (λ x v. q.1.1 (in_loop a) _ (λ y z. (omega (arith, q.1.0.0), lower _ (128 * suc q.0) _ (omega (arith, q.1.0.0)) (after _ _))) _) _))
  stmt_part (t.Do at s c) n rest h =
      let p : StmtPart s n (token (word g.KWhile) ∷ token (mark g.LParen) ∷ pieces c (token (mark g.RParen) ∷ token (mark g.Semi) ∷ closes at ∷ rest)) = stmt_part s n _ h in
      let q : ExprPart c p.0 (token (mark g.RParen) ∷ token (mark g.Semi) ∷ closes at ∷ rest) = expr_part c p.0 _ p.1.0 in
      (suc q.0, (q.1.0.1, λ a k after w. p.1.1 (in_loop a) _ (λ x v. q.1.1 a.whole false _ (λ y z. (omega (arith, q.1.0.0), lower _ (128 * suc q.0) _ (omega (arith, q.1.0.0)) (after _ _))) _) _))
  stmt_part (t.For at f c e s) n rest h =
      let b : FirstPart f n (pieces_maybe c (token (mark g.Semi) ∷ pieces_maybe e (token (mark g.RParen) ∷ pieces_stmt s (closes at ∷ rest)))) = first_part f n _ h in
      let p : MaybePart c b.0 (token (mark g.Semi) ∷ pieces_maybe e (token (mark g.RParen) ∷ pieces_stmt s (closes at ∷ rest))) = maybe_part c b.0 _ b.1.0 in
      let o : MaybePart e p.0 (token (mark g.RParen) ∷ pieces_stmt s (closes at ∷ rest)) = maybe_part e p.0 _ p.1.0 in
      let q : StmtPart s o.0 (closes at ∷ rest) = stmt_part s o.0 _ o.1.0 in (
        suc q.0,
        (
          q.1.0.1,
          λ a k after w. b.1.1 a.whole _ (λ r v. p.1.1 a.whole _ (λ x y. o.1.1 a.whole _ (λ x2 y2. q.1.1 (in_loop a) _
              (λ x3 y3. (omega (arith, q.1.0.0), lower _ (128 * suc q.0) _ (omega (arith, q.1.0.0)) (after _ _))) _) y) v) _,
        ),
      )
  stmt_part (t.Break at) n rest h = (suc n, (h.1, λ a k after w. (omega (arith, h.0), lower _ (128 * suc n) _ (omega (arith, h.0)) (after _ _))))
  stmt_part (t.Continue at) n rest h = (suc n, (h.1, λ a k after w. (omega (arith, h.0), lower _ (128 * suc n) _ (omega (arith, h.0)) (after _ _))))
  stmt_part (t.Return at e) n rest h =
      let p : MaybePart e n (token (mark g.Semi) ∷ closes at ∷ rest) = maybe_part e n _ h in
      (suc p.0, (p.1.0.1, λ a k after w. p.1.1 a.whole _ (λ x v. (omega (arith, p.1.0.0), (omega (arith, p.1.0.0), lower _ (128 * suc p.0) _ (omega (arith, p.1.0.0)) (after _ _)))) w))

  block_part : (ss : t.BlockItems) (n : ℕ) (rest : List Piece) → Numbered n (pieces_block ss rest) → BlockPart ss n rest
  block_part t.no_items n rest h = (n, (h, λ a k after w. after _ _))
  block_part (t.declared d ss) n rest h =
      let p : DeclarationPart d n (pieces_block ss rest) = declaration_part d n _ h in
      let q : BlockPart ss p.0 rest = block_part ss p.0 rest p.1.0 in
      (q.0, (q.1.0, λ a k after w. p.1.1 a.whole (λ x v. judge_block a ss k v) (λ x v. q.1.1 a k after v) w))
  block_part (t.statement s ss) n rest h =
      let p : StmtPart s n (pieces_block ss rest) = stmt_part s n _ h in
      let q : BlockPart ss p.0 rest = block_part ss p.0 rest p.1.0 in
      (q.0, (q.1.0, λ a k after w. p.1.1 a (λ x v. judge_block a ss k v) (λ x v. q.1.1 a k after v) w))

-- ---- the unit

abbrev ExternalPart : t.External → ℕ → List Piece → Type 0
ExternalPart x n rest = (j : ℕ) × (Numbered j rest × ((u : Whole) → Runs (Unit {0}) (128 * n) (128 * j) (judge_external u x)))

external_part : (x : t.External) (n : ℕ) (rest : List Piece) → Numbered n (pieces_external x rest) → ExternalPart x n rest
external_part (t.Declares d) n rest h = declaration_part d n rest h
external_part (t.Definition at ss d body items) n rest h =
    let p : SpecsPart ss n (pieces_declarator d (opens body ∷ token (mark g.LBrace) ∷ pieces_block items (token (mark g.RBrace) ∷ closes body ∷ closes at ∷ rest))) = specs_part ss n _ h in
    let q : DeclaratorPart d p.0 (opens body ∷ token (mark g.LBrace) ∷ pieces_block items (token (mark g.RBrace) ∷ closes body ∷ closes at ∷ rest)) = declarator_part d p.0 _ p.1.0 in
    let r : BlockPart items (suc (at_of d).id) (token (mark g.RBrace) ∷ closes body ∷ closes at ∷ rest) = block_part items (suc (at_of d).id) _ q.0 in (
      suc (suc r.0),
      (
        r.1.0.1.1,
        λ u k after w. p.1.1 u false None nothing_specified _ (λ s v. (
          omega (arith, q.1.0),
          lower _ (128 * p.0 + 64) _ (omega (arith, q.1.0)) (q.1.1 u false _ (λ l x. declared_runs u decl.Function 0 (at_of d) l (built x (base_type s) l.layers) false true
              (λ a y. judge_body u (built x (base_type s) l.layers).type (names_of l.layers) items k y)
              (λ a y. r.1.1 (record { whole = u; result = result_of (plain (built x (base_type s) l.layers).type); in_loop = false }) _
              (λ b z. lower _ (128 * suc (suc r.0)) _ (omega arith) (after _ _)) _) x) v),
        )) w,
      ),
    )

abbrev ExternalsPart : List t.External → ℕ → List Piece → Type 0
ExternalsPart xs n rest = (j : ℕ) × (Numbered j rest × ((u : Whole) → Runs (Unit {0}) (128 * n) (128 * j) (judge_externals u xs)))

externals_part : (xs : List t.External) (n : ℕ) (rest : List Piece) → Numbered n (pieces_unit xs rest) → ExternalsPart xs n rest
externals_part [] n rest h = (n, (h, λ u k after w. after _ _))
externals_part (x ∷ xs) n rest h =
    let p : ExternalPart x n (pieces_unit xs rest) = external_part x n _ h in
    let q : ExternalsPart xs p.0 rest = externals_part xs p.0 rest p.1.0 in
    (q.0, (q.1.0, λ u k after w. p.1.1 u (λ r v. judge_externals u xs k v) (λ r v. q.1.1 u k after v) w))

pub trials_in_order : TrialsInOrder
trials_in_order u nodes h =
    let p : ExternalsPart u 0 [] = externals_part u 0 [] h in
    p.1.1 (whole_of u) _ (λ r v. tt) (start nodes)
