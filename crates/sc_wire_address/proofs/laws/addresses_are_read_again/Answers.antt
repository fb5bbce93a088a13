use Rattle.sc_wire_address.proofs.Reading.{name_again}
use Rattle.sc_wire_address.proofs.laws.addresses_are_read_again.Goals as goal

pub returns-clause-names : goal.returns-clause-names
returns-clause-names c = name_again
