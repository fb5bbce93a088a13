use Rattle.sc_store.proofs.Devices.{later_same}
use Rattle.sc_store.proofs.remote_storage.RemoteStorage.read_check.Goals as goal

pub returns-in_err-path-clause-later : goal.returns-in_err-path-clause-later
returns-in_err-path-clause-later g c = later_same c.args.self.now.level
