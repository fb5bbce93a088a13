-- How a daemon moves by an event of a request or of a handed write.
use Rattle.std.specs.Prelude.{◌≡◌, ◌+◌, ◌++◌, length}
use Rattle.sc_daemon.specs.Backlogs.{fresh_writes}
use Rattle.sc_daemon.specs.Daemons.{Kept}
use Rattle.sc_daemon.specs.Says.{SaysCounted, counted}
use Rattle.sc_daemon_job.specs.Askers.{Asker}
use Rattle.sc_daemon_job.specs.Setups.{setup}
use Rattle.sc_daemon_owned.specs.Facts.{config_of}
use Rattle.sc_daemon_owned.specs.Moving.{OwnedMoves}
use Rattle.sc_model.specs.Conns.{free_after}
use Rattle.sc_model.specs.Machine.{counted_level}
use Rattle.sc_model.specs.Pendings.{pend}
use Rattle.sc_model.specs.Rows.{level_row, row}
use Rattle.sc_model.specs.Trace.{hands}
use Rattle.sc_model.specs.declared.event.What.{What}

-- What it is made of stays, its parts move by the event, and it is counted; tokens are taken and given back, and the writes that it
-- hands on are queued.
pub record KeptMoves (d : Kept) (n : Asker) (x : What) (d2 : Kept) : Type 0 where
  pub says : SaysCounted d.state.config.policy d.stats d.levels x
  pub moves : OwnedMoves d.state n.need x d2.state
  pub free : d2.free ≡ free_after d.free x
  pub levels : d2.levels ≡ counted_level d.state.config.policy (level_row n.origin n.last n.reserved d.state.world.moment x) x d.levels
  pub background : d2.background ≡ d.background ++ fresh_writes (pend (hands d.handed d.state.world.moment x))
  pub handed : d2.handed ≡ d.handed + length (hands d.handed d.state.world.moment x)
  pub stats : d2.stats ≡ counted x d.stats (row (setup (config_of d.state.config)) n.request n.outcome d.state.world.moment x)
