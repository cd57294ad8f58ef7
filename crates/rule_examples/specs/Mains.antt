-- Units that are judged as whole programs, which have a function `main`.
use Rattle.std.specs.Prelude.{List, [], ◌∷◌, codes}
use Rattle.rule_examples.specs.Judged.{Row, kept, broken_at}

unfoldable pub units : List Row
units =
    kept (codes "int main(void) { return 0; }")
    ∷ broken_at 35 4 (codes "int main(int a) { return 0; }")
    ∷ broken_at 35 0 (codes "int f(void) { return 0; }")
    ∷ broken_at 35 4 (codes "int main(void);")
    ∷ broken_at 35 4 (codes "int main;")
    ∷ broken_at 35 10 (codes "const int main(void) { return 0; }")
    ∷ kept (codes "int main(void); typedef int F(void); F main; int main(void) { return 0; }")
    ∷ broken_at 35 4 (codes "int main(int); int main(int a) { return 0; }")
    ∷ broken_at 35 0 (codes "enum { main };")
    ∷ broken_at 35 5 (codes "void main(void) { }")
    ∷ broken_at 35 0 (codes "")
    ∷ broken_at 35 7 (codes "int x, *main;")
    ∷ broken_at 1 24 (codes "int main(void) { return g; }")
    ∷ broken_at 35 11 (codes "static int (main)(int a) { return 0; }")
    ∷ []
