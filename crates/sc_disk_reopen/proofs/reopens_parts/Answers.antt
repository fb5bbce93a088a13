use Rattle.sc_disk_reopen.proofs.Shares.{reopens_parts, reopens_parts_inside}
use Rattle.sc_disk_reopen.proofs.reopens_parts.Goals as goal

pub returns-clause-between : goal.returns-clause-between
returns-clause-between c = reopens_parts

pub returns-clause-inside : goal.returns-clause-inside
returns-clause-inside c = reopens_parts_inside
