-- Tokens of C are the grammar's.
use Rattle.std.proofs.Common.{◌≡◌, List, [], ◌∷◌, map, Option, Some, None, IsSome, refl, ◌∙◌, ap}
use Rattle.std.proofs.lemmas.List.Elements.{All-head, All-tail, All-weaker}
use Rattle.tok_base.specs.declared.token.Token.{Token}
use Rattle.c_lexer.specs.Token.{IsToken}
use Rattle.c_lexer.specs.Lexeme.{lexeme_of}
use Rattle.c_tree.specs.Tok.{Tok}
use Rattle.c_tree.specs.Lexeme.{lexeme, classify}
use Rattle.c_tree.proofs.Lexemes.{all_told, kept}
use Rattle.c_reader.specs.MarkedLaws.{with_tok, toks_of, AreToks, AreTokens, TokensAreToks}

pub are_toks : (xs : List Token) → AreTokens xs → AreToks xs
are_toks xs h = All-weaker (λ x. IsToken x.kind x.text) (λ x. IsSome (classify (lexeme_of x))) (λ x g. all_told (lexeme_of x) g) xs h

by_tok : (x : Token) (xs : List Token) (o : Option Tok) → classify (lexeme_of x) ≡ o → IsSome o → map lexeme (toks_of xs) ≡ map lexeme_of xs
    → map lexeme (with_tok o (toks_of xs)) ≡ lexeme_of x ∷ map lexeme_of xs
by_tok x xs None c h e = cc
by_tok x xs (Some t) c h e = ap (λ z. z ∷ map lexeme (toks_of xs)) (kept (lexeme_of x) t c) ∙ ap (λ zs. lexeme_of x ∷ zs) e

-- they keep their kinds and texts
pub lexemes_kept : (xs : List Token) → AreToks xs → map lexeme (toks_of xs) ≡ map lexeme_of xs
lexemes_kept [] h = refl
lexemes_kept (x ∷ xs) h =
    by_tok x xs (classify (lexeme_of x)) refl (All-head (λ z. IsSome (classify (lexeme_of z))) x xs h)
    (lexemes_kept xs (All-tail (λ z. IsSome (classify (lexeme_of z))) x xs h))

pub tokens_are_toks : TokensAreToks
tokens_are_toks xs h = (are_toks xs h, lexemes_kept xs (are_toks xs h))
