use Rattle.std.proofs.Common.{◌≡◌, ◌-◌}
use Rattle.block_memory.specs.Given.{IsGiven}
use Rattle.c_meaning.specs.Storage.{further, length_from}
use Rattle.machine_bytes.proofs.reading.text_length.Given as goal

abbrev pub invariant-loop-at : goal.invariant-loop-at
invariant-loop-at g l =
    record {
      run : length_from (g.M.Memory.blocks l.memory) l.p (l.most - l.at) l.at ≡ length_from (g.M.Memory.blocks l.memory) l.p l.most 0;
      given : IsGiven (g.M.Memory.sizes l.memory) (further l.p l.at);
    }
