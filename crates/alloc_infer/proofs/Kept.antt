-- What several walks put behind a list, one after the other.
use Rattle.std.proofs.Common.{◌≡◌, List, ◌++◌, map, Result, Ok, Err, OnOk, ap, ◌∙◌}
use Rattle.alloc_infer.specs.Adds.{Adds}

pub kept : {B E : Type 0} (X Y Z : Type 0) (r : Result B E) → OnOk r (Y → Z) → (X → Y) → OnOk r (X → Z)
kept X Y Z (Ok b) h g = λ x. h (g x)
kept X Y Z (Err e) h g = tt

module _ {A B : Type 0} (read : A → B) (old : List A) where
  pub both : (mid new : List A) (p q : List B → List B) → Adds read old mid p → Adds read mid new q → Adds read old new (λ more. p (q more))
  both mid new p q g h = λ more. h more ∙ g (q more)

  pub same_put : {T E : Type 0} (r : Result T E) (new : List A) (p s : List B → List B) → OnOk r (Adds read old new p) → ((more : List B) → p more ≡ s more)
      → OnOk r (Adds read old new s)
  same_put (Ok b) new p s h e = λ more. h more ∙ ap (λ xs. map read old ++ xs) (e more)
  same_put (Err x) new p s h e = tt

  pub then_put : {T E : Type 0} (r : Result T E) (mid new : List A) (p q s : List B → List B) → Adds read old mid p → OnOk r (Adds read mid new q)
      → ((more : List B) → p (q more) ≡ s more) → OnOk r (Adds read old new s)
  then_put (Ok b) mid new p q s g h e = λ more. h more ∙ g (q more) ∙ ap (λ xs. map read old ++ xs) (e more)
  then_put (Err x) mid new p q s g h e = tt
