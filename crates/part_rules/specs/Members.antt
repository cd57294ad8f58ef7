-- What a member's declarator makes.
use Rattle.std.specs.Prelude.{◌&&◌, not}
use Rattle.c_rules.specs.Declarators.{Built, is_open_struct}
use Rattle.c_rules.specs.World.{World}

-- 8: a member is no struct that ends without a length
abbrev pub closed : World → Built → Built
closed w b = record b { is_closed = b.is_closed && not (is_open_struct w b.type) }
