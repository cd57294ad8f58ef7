-- How often each word of which types are written stands among words, and whether that is as often as in a row.
use Rattle.std.specs.Prelude.{Bool, ◌&&◌, ◌==◌, List}
use Rattle.c_tree.specs.Tok.{Word}
use Rattle.c_rules.specs.Specifiers.{how_many, is_word}
use Rattle.specifier_rules.specs.declared.counts.Counts.{Counts}

abbrev pub counted : List Word → Counts
counted xs = record {
  void = how_many (is_word 1) xs;
  boolean = how_many (is_word 2) xs;
  character = how_many (is_word 3) xs;
  short = how_many (is_word 4) xs;
  int = how_many (is_word 5) xs;
  long = how_many (is_word 6) xs;
  signed = how_many (is_word 7) xs;
  unsigned = how_many (is_word 8) xs;
}

abbrev pub agrees_front : Counts → List Word → Bool
agrees_front c ys =
    (c.void == how_many (is_word 1) ys) && (c.boolean == how_many (is_word 2) ys) && (c.character == how_many (is_word 3) ys)
    && (c.short == how_many (is_word 4) ys)

abbrev pub agrees_back : Counts → List Word → Bool
agrees_back c ys =
    (c.int == how_many (is_word 5) ys) && (c.long == how_many (is_word 6) ys) && (c.signed == how_many (is_word 7) ys)
    && (c.unsigned == how_many (is_word 8) ys)

unfoldable pub agrees : Counts → List Word → Bool
agrees c ys = agrees_front c ys && agrees_back c ys
