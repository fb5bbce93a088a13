use Rattle.sc_disk_reopen.proofs.Starting.{stops_opening, stops_refused_opening}
use Rattle.sc_disk_reopen.proofs.stops_of_opening.Goals as goal

pub returns-clause-opening : goal.returns-clause-opening
returns-clause-opening c = stops_opening

pub returns-clause-refused : goal.returns-clause-refused
returns-clause-refused c = stops_refused_opening
