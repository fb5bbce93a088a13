use Rattle.sc_store.proofs.Checks.{probes}
use Rattle.sc_store.proofs.Devices.{later_then}
use Rattle.sc_store.proofs.remote_storage.RemoteStorage.probe.Goals as goal

pub returns-clause-found : goal.returns-clause-found
returns-clause-found g c =
    let e = c.read_check.ensures in
    probes c.args.self.now c.read_check.new.self c.conclude.new.self.level c.in_ok-read.read c.refusal_of-refusal.result c.conclude.result c.refusal_of-refusal.ensures e.facts e.told c.in_ok-read.ensures.read c.conclude.ensures.found

pub returns-clause-later : goal.returns-clause-later
returns-clause-later g c = later_then c.args.self.now.level c.read_check.new.self.level c.conclude.new.self.level c.read_check.ensures.later c.conclude.ensures.later
