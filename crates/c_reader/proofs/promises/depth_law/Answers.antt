use Rattle.c_reader.proofs.Above.{height_least}
use Rattle.c_reader.proofs.Law.{deep_is_known, depth_is_known}
use Rattle.c_reader.proofs.promises.depth_law.Goals as goal

pub returns : goal.returns
returns c = record { deep = deep_is_known; unit = depth_is_known; nodes = height_least }
