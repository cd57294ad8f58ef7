use Rattle.c_reader.proofs.ErasedRun.{read_erased}
use Rattle.c_reader.proofs.MarkedTokens.{tokens_are_toks}
use Rattle.c_reader.proofs.places.erased_law.Goals as goal

pub returns : goal.returns
returns c = record { tokens = tokens_are_toks; machine = read_erased }
