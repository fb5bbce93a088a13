use Rattle.std.proofs.Common.{refl}
use Rattle.sc_daemon_owned.proofs.Passing.{passed}
use Rattle.sc_daemon_owned.proofs.owned.Owned.pass.Goals as goal

pub returns : goal.returns
returns g c = passed _ c.args.self.now _ c.saturating_add-self-inside.result c.args.nanoseconds c.self.view_is c.saturating_add-self-inside.ensures refl
