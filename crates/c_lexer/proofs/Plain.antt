-- What passes the test is a token.
use Rattle.std.proofs.Common.{◌≡◌, ℕ, Bool, true, false, not, List, [], ◌∷◌, All, refl}
use Rattle.std.specs.List.{list_all}
use Rattle.std.proofs.lemmas.Bool.{and_parts}
use Rattle.std.proofs.lemmas.List.Elements.{All-nil, All-cons}
use Rattle.c_lexer.specs.Bytes.{Each, is_letter, is_name_byte}
use Rattle.c_lexer.specs.Name.{IsName, is_word}
use Rattle.c_lexer.specs.Token.{IsToken}
use Rattle.c_lexer.specs.Lexeme.{IsLexeme}
use Rattle.c_lexer.specs.Plain.{is_name, is_plain, are_plain}
use Rattle.tok_base.specs.declared.token.Kind.{Kind}
use Rattle.tok_base.specs.declared.token.Kind.TheVariants.{Name, Word, Number, Char, Text, Mark}
use Rattle.tok_base.specs.declared.token.Lexeme.{Lexeme}

each_name_byte : (bs : List ℕ) → list_all is_name_byte bs ≡ true → Each is_name_byte bs
each_name_byte [] h = tt
each_name_byte (b ∷ bs) h = let p = and_parts (is_name_byte b) (list_all is_name_byte bs) h in (p.0, each_name_byte bs p.1)

name_is : (w : List ℕ) → is_name w ≡ true → IsName w
name_is [] h = absurd (cc)
name_is (b ∷ bs) h = let p = and_parts (is_letter b) (list_all is_name_byte bs) h in (p.0, each_name_byte bs p.1)

no_word : (x : Bool) → not x ≡ true → x ≡ false
no_word true h = cc
no_word false h = refl

pub plain_token : (k : Kind) (w : List ℕ) → is_plain k w ≡ true → IsToken k w
plain_token Name w h = let p = and_parts (is_name w) (not (is_word w)) h in (name_is w p.0, no_word (is_word w) p.1)
plain_token Word w h = h
plain_token Number w h = absurd (cc)
plain_token Char w h = absurd (cc)
plain_token Text w h = absurd (cc)
plain_token Mark w h = h

pub plain_tokens : (ls : List Lexeme) → are_plain ls ≡ true → All IsLexeme ls
plain_tokens [] h = All-nil IsLexeme
plain_tokens (l ∷ ls) h =
    let p = and_parts (is_plain l.kind l.text) (are_plain ls) h in All-cons IsLexeme l ls (plain_token l.kind l.text p.0) (plain_tokens ls p.1)
