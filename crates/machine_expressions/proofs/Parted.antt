-- What the steps of an expression with parts are.
use Rattle.std.proofs.Common.{◌≡◌, ℕ, Bool, ap}
use Rattle.tok_base.specs.declared.token.Span.{Span}
use Rattle.c_core.specs.declared.values.Value.{Value}
use Rattle.c_core.specs.Tree as t
use Rattle.c_core.specs.Tree.{Expr, Form, MaybeExpr, NoExpr, TheExpr, Program}
use Rattle.c_meaning.specs.World.{State}
use Rattle.machine_steps.specs.Frames.{Stacks}
use Rattle.machine_steps.specs.Steps as steps
use Rattle.machine_expressions.specs.Constants.{TakesConstant}
use Rattle.machine_expressions.specs.Parting.{first_part, second_part}

same_part : (a b : Expr) → TheExpr a ≡ TheExpr b → a ≡ b
same_part a b h = cc

no_part : (a : Expr) (A : Type 0) → NoExpr ≡ TheExpr a → A
no_part a A h = absurd (let f : ⊥ = cc in f)

pub first_parted : (c : Program) (marks : ℕ → ℕ) (span : Span) (form : Form) (e : Expr) (st : Stacks) (s : State) → first_part form ≡ TheExpr e → steps.evaluating c marks span form st s ≡ steps.parting c marks span form e st s
first_parted c marks span (t.Load p kind) x st now h = ap (λ (y : Expr). steps.parting c marks span (t.Load p kind) y st now) (same_part p x h)
first_parted c marks span (t.Store p at kind e) x st now h = ap (λ (y : Expr). steps.parting c marks span (t.Store p at kind e) y st now) (same_part p x h)
first_parted c marks span (t.CopyRecord p a q b size) x st now h = ap (λ (y : Expr). steps.parting c marks span (t.CopyRecord p a q b size) y st now) (same_part p x h)
first_parted c marks span (t.Convert kind e) x st now h = ap (λ (y : Expr). steps.parting c marks span (t.Convert kind e) y st now) (same_part e x h)
first_parted c marks span (t.Truth e negated) x st now h = ap (λ (y : Expr). steps.parting c marks span (t.Truth e negated) y st now) (same_part e x h)
first_parted c marks span (t.Arith op a b) x st now h = ap (λ (y : Expr). steps.parting c marks span (t.Arith op a b) y st now) (same_part a x h)
first_parted c marks span (t.ShiftBits to_left a b) x st now h = ap (λ (y : Expr). steps.parting c marks span (t.ShiftBits to_left a b) y st now) (same_part a x h)
first_parted c marks span (t.CompareInt op a b) x st now h = ap (λ (y : Expr). steps.parting c marks span (t.CompareInt op a b) y st now) (same_part a x h)
first_parted c marks span (t.PtrAdd p i size minus) x st now h = ap (λ (y : Expr). steps.parting c marks span (t.PtrAdd p i size minus) y st now) (same_part p x h)
first_parted c marks span (t.PtrDiff p q size) x st now h = ap (λ (y : Expr). steps.parting c marks span (t.PtrDiff p q size) y st now) (same_part p x h)
first_parted c marks span (t.ComparePtr op p q) x st now h = ap (λ (y : Expr). steps.parting c marks span (t.ComparePtr op p q) y st now) (same_part p x h)
first_parted c marks span (t.Both a b) x st now h = ap (λ (y : Expr). steps.parting c marks span (t.Both a b) y st now) (same_part a x h)
first_parted c marks span (t.Either a b) x st now h = ap (λ (y : Expr). steps.parting c marks span (t.Either a b) y st now) (same_part a x h)
first_parted c marks span (t.Choose a b d) x st now h = ap (λ (y : Expr). steps.parting c marks span (t.Choose a b d) y st now) (same_part a x h)
first_parted c marks span (t.Then a b) x st now h = ap (λ (y : Expr). steps.parting c marks span (t.Then a b) y st now) (same_part a x h)
first_parted c marks span (t.Modify p at kind op e common post) x st now h = ap (λ (y : Expr). steps.parting c marks span (t.Modify p at kind op e common post) y st now) (same_part p x h)
first_parted c marks span (t.Call f type es used) x st now h = ap (λ (y : Expr). steps.parting c marks span (t.Call f type es used) y st now) (same_part f x h)
first_parted c marks span (t.Const v) x st now h = no_part x _ h
first_parted c marks span (t.Text n) x st now h = no_part x _ h
first_parted c marks span (t.Func f) x st now h = no_part x _ h
first_parted c marks span (t.Object p) x st now h = no_part x _ h
first_parted c marks span (t.LibCall f es m) x st now h = no_part x _ h
first_parted c marks span (t.Mark n) x st now h = no_part x _ h

pub second_parted : (c : Program) (marks : ℕ → ℕ) (span : Span) (form : Form) (e : Expr) (v : Value) (st : Stacks) (s : State) → second_part form ≡ TheExpr e → steps.first_given c marks span form v st s ≡ steps.second_part c marks span form v e st s
second_parted c marks span (t.Load p kind) x w st now h = no_part x _ h
second_parted c marks span (t.Store p at kind e) x w st now h = ap (λ (y : Expr). steps.second_part c marks span (t.Store p at kind e) w y st now) (same_part e x h)
second_parted c marks span (t.CopyRecord p a q b size) x w st now h = ap (λ (y : Expr). steps.second_part c marks span (t.CopyRecord p a q b size) w y st now) (same_part q x h)
second_parted c marks span (t.Convert kind e) x w st now h = no_part x _ h
second_parted c marks span (t.Truth e negated) x w st now h = no_part x _ h
second_parted c marks span (t.Arith op a b) x w st now h = ap (λ (y : Expr). steps.second_part c marks span (t.Arith op a b) w y st now) (same_part b x h)
second_parted c marks span (t.ShiftBits to_left a b) x w st now h = ap (λ (y : Expr). steps.second_part c marks span (t.ShiftBits to_left a b) w y st now) (same_part b x h)
second_parted c marks span (t.CompareInt op a b) x w st now h = ap (λ (y : Expr). steps.second_part c marks span (t.CompareInt op a b) w y st now) (same_part b x h)
second_parted c marks span (t.PtrAdd p i size minus) x w st now h = ap (λ (y : Expr). steps.second_part c marks span (t.PtrAdd p i size minus) w y st now) (same_part i x h)
second_parted c marks span (t.PtrDiff p q size) x w st now h = ap (λ (y : Expr). steps.second_part c marks span (t.PtrDiff p q size) w y st now) (same_part q x h)
second_parted c marks span (t.ComparePtr op p q) x w st now h = ap (λ (y : Expr). steps.second_part c marks span (t.ComparePtr op p q) w y st now) (same_part q x h)
second_parted c marks span (t.Both a b) x w st now h = no_part x _ h
second_parted c marks span (t.Either a b) x w st now h = no_part x _ h
second_parted c marks span (t.Choose a b d) x w st now h = no_part x _ h
second_parted c marks span (t.Then a b) x w st now h = no_part x _ h
second_parted c marks span (t.Modify p at kind op e common post) x w st now h = ap (λ (y : Expr). steps.second_part c marks span (t.Modify p at kind op e common post) w y st now) (same_part e x h)
second_parted c marks span (t.Call f type es used) x w st now h = no_part x _ h
second_parted c marks span (t.Const v) x w st now h = no_part x _ h
second_parted c marks span (t.Text n) x w st now h = no_part x _ h
second_parted c marks span (t.Func f) x w st now h = no_part x _ h
second_parted c marks span (t.Object p) x w st now h = no_part x _ h
second_parted c marks span (t.LibCall f es m) x w st now h = no_part x _ h
second_parted c marks span (t.Mark n) x w st now h = no_part x _ h

-- an expression with a part is no constant
pub parted_taken : (form : Form) (e : Expr) (taken : Bool) → first_part form ≡ TheExpr e → TakesConstant form taken
parted_taken (t.Const v) x taken h = no_part x _ h
parted_taken (t.Load p kind) x taken h = tt
parted_taken (t.Store p at kind e) x taken h = tt
parted_taken (t.CopyRecord p a q b size) x taken h = tt
parted_taken (t.Convert kind e) x taken h = tt
parted_taken (t.Truth e negated) x taken h = tt
parted_taken (t.Arith op a b) x taken h = tt
parted_taken (t.ShiftBits to_left a b) x taken h = tt
parted_taken (t.CompareInt op a b) x taken h = tt
parted_taken (t.PtrAdd p i size minus) x taken h = tt
parted_taken (t.PtrDiff p q size) x taken h = tt
parted_taken (t.ComparePtr op p q) x taken h = tt
parted_taken (t.Both a b) x taken h = tt
parted_taken (t.Either a b) x taken h = tt
parted_taken (t.Choose a b d) x taken h = tt
parted_taken (t.Then a b) x taken h = tt
parted_taken (t.Modify p at kind op e common post) x taken h = tt
parted_taken (t.Call f type es used) x taken h = tt
parted_taken (t.Text n) x taken h = tt
parted_taken (t.Func f) x taken h = tt
parted_taken (t.Object p) x taken h = tt
parted_taken (t.LibCall f es m) x taken h = tt
parted_taken (t.Mark n) x taken h = tt
