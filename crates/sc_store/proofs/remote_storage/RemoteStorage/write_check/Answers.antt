use Rattle.sc_store.proofs.Devices.{later_same}
use Rattle.sc_store.proofs.remote_storage.RemoteStorage.write_check.Goals as goal

pub returns-in_err-path-clause-later : goal.returns-in_err-path-clause-later
returns-in_err-path-clause-later g c = later_same c.args.self.now.level

pub returns-in_err-greeting-clause-later : goal.returns-in_err-greeting-clause-later
returns-in_err-greeting-clause-later g c = later_same c.args.self.now.level
