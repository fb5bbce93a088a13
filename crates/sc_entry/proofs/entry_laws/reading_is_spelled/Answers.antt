use Rattle.sc_entry.proofs.EntryLaws.{of_entry}
use Rattle.sc_entry.proofs.entry_laws.reading_is_spelled.Goals as goal

pub returns : goal.returns
returns c = record { spelled = λ bytes os e. (of_entry bytes os e).0; listed = λ bytes os e. (of_entry bytes os e).1 }
