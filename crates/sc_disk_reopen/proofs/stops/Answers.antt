use Rattle.sc_disk_reopen.proofs.Stopping.{abandoning, committing, filling, getting, inserting, preparing, refusing_bytes, refusing_file, refusing_to_add, refusing_to_commit, refusing_to_get, removing, still, writing}
use Rattle.sc_disk_reopen.proofs.stops.Goals as goal

pub returns-clause-preparing : goal.returns-clause-preparing
returns-clause-preparing c = preparing

pub returns-clause-refusing_to_add : goal.returns-clause-refusing_to_add
returns-clause-refusing_to_add c = refusing_to_add

pub returns-clause-filling : goal.returns-clause-filling
returns-clause-filling c = filling

pub returns-clause-writing : goal.returns-clause-writing
returns-clause-writing c = writing

pub returns-clause-committing : goal.returns-clause-committing
returns-clause-committing c = committing

pub returns-clause-refusing_to_commit : goal.returns-clause-refusing_to_commit
returns-clause-refusing_to_commit c = refusing_to_commit

pub returns-clause-abandoning : goal.returns-clause-abandoning
returns-clause-abandoning c = abandoning

pub returns-clause-inserting : goal.returns-clause-inserting
returns-clause-inserting c = inserting

pub returns-clause-refusing_bytes : goal.returns-clause-refusing_bytes
returns-clause-refusing_bytes c = refusing_bytes

pub returns-clause-refusing_file : goal.returns-clause-refusing_file
returns-clause-refusing_file c = refusing_file

pub returns-clause-getting : goal.returns-clause-getting
returns-clause-getting c = getting

pub returns-clause-refusing_to_get : goal.returns-clause-refusing_to_get
returns-clause-refusing_to_get c = refusing_to_get

pub returns-clause-removing : goal.returns-clause-removing
returns-clause-removing c = removing

pub returns-clause-still : goal.returns-clause-still
returns-clause-still c = still
