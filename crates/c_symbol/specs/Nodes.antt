-- The program's open nodes and read parts, seen as the reader's.
use Rattle.c_reader.specs.MarkedParts as p
use Rattle.c_symbol.specs.declared.node.Open.{Open}
use Rattle.c_symbol.specs.declared.node.Had.{Had}

abbrev pub view_open : Open → p.Open
view_open x = record { from = x.from; level = x.level; deep = x.deep }

abbrev pub view_had : Had → p.Had
view_had x = record { from = x.from; deep = x.deep }
