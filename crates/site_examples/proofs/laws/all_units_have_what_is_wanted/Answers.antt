use Rattle.site_examples.proofs.Computed.{sizes_law, values_law, calls_law, untagged_law, marks_law, spellings_law, page_law}
use Rattle.site_examples.proofs.laws.all_units_have_what_is_wanted.Goals as goal

pub returns : goal.returns
returns c = record { sizes = sizes_law; values = values_law; calls = calls_law; untagged = untagged_law; marks = marks_law; spellings = spellings_law; page = page_law }
