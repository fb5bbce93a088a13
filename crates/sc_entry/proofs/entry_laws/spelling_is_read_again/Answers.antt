use Rattle.sc_entry.proofs.EntryLaws.{again_entry}
use Rattle.sc_entry.proofs.entry_laws.spelling_is_read_again.Goals as goal

pub returns : goal.returns
returns c = record { read_again = again_entry }
