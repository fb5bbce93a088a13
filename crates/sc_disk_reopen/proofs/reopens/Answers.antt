use Rattle.sc_disk_reopen.proofs.Resuming.{reopens_between, reopens_inside}
use Rattle.sc_disk_reopen.proofs.reopens.Goals as goal

pub returns-clause-between : goal.returns-clause-between
returns-clause-between c = reopens_between

pub returns-clause-inside : goal.returns-clause-inside
returns-clause-inside c = reopens_inside
