use Rattle.c_tree.proofs.Nodes.{nodes_are_few, numbers_are_low, nodes_are_as_many}
use Rattle.c_tree.proofs.laws.nodes_law.Goals as goal

pub returns : goal.returns
returns c = record { few = nodes_are_few; low = numbers_are_low; as_many = nodes_are_as_many }
