use Rattle.std.proofs.Common.{◌≡◌, ◌-◌}
use Rattle.block_memory.specs.Given.{IsGiven}
use Rattle.c_meaning.specs.Storage.{further, compared_from}
use Rattle.machine_bytes.proofs.reading.compared.Given as goal

abbrev pub invariant-loop-at : goal.invariant-loop-at
invariant-loop-at g l =
    record {
      run : compared_from (g.M.Memory.blocks l.memory) l.p l.q (l.count - l.at) l.at ≡ compared_from (g.M.Memory.blocks l.memory) l.p l.q l.count 0;
      left : IsGiven (g.M.Memory.sizes l.memory) (further l.p l.at);
      right : IsGiven (g.M.Memory.sizes l.memory) (further l.q l.at);
    }
