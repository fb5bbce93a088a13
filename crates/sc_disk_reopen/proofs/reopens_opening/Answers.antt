use Rattle.sc_disk_reopen.proofs.Starting.{reopens_opening, reopens_refused_opening}
use Rattle.sc_disk_reopen.proofs.reopens_opening.Goals as goal

pub returns-clause-opening : goal.returns-clause-opening
returns-clause-opening c = reopens_opening

pub returns-clause-refused : goal.returns-clause-refused
returns-clause-refused c = reopens_refused_opening
