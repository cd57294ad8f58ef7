-- Adding tokens.
use Rattle.std.proofs.Common.{◌≡◌, List, [], ◌∷◌, ◌++◌, map, Result, Ok, Err, OnOk, refl, sym, ap, ◌∙◌}
use Rattle.std.proofs.lemmas.List.{append_assoc, append-nil}
use Rattle.tok_base.specs.declared.token.Lexeme.{Lexeme}
use Rattle.c_tree.specs.Tok.{Tok}
use Rattle.c_tree.specs.Lexeme.{lexeme}
use Rattle.c_tree.specs.Spelling.{Adds, finished}
use Rattle.c_tree.specs.declared.tokens.Tokens.{Tokens}

pub map_ok : {T E P Q : Type 0} → (r : Result T E) → (P → Q) → OnOk r P → OnOk r Q
map_ok (Ok x) f h = f h
map_ok (Err e) f h = h

added : (old new : Tokens) (t : Tok) → new.list ≡ old.list ++ lexeme t ∷ [] → Adds old new (λ rest. t ∷ rest)
unfolding finished
added old new t h = λ rest. rw h (rw append_assoc refl)

pub pushed : {T E : Type 0} (r : Result T E) (old new : Tokens) (t : Tok) (l : Lexeme) → OnOk r (new.list ≡ old.list ++ l ∷ []) → l ≡ lexeme t → OnOk r (Adds old new (λ rest. t ∷ rest))
pushed r old new t l h e = map_ok r (λ p. added old new t (p ∙ ap (λ x. old.list ++ x ∷ []) e)) h

-- all that was added to an empty list
pub whole : (old new : Tokens) (put : List Tok → List Tok) → old.list ≡ [] → Adds old new put → new.list ≡ map lexeme (put [])
unfolding finished
whole old new put e h = sym (append-nil new.list) ∙ h [] ∙ ap (λ ls. ls ++ map lexeme (put [])) e
