-- What holds of each request whose reply tells statistics.
use Rattle.std.proofs.Common.{◌≡◌, [], refl}
use Rattle.sc_daemon_action.specs.Serves.{IsCompile, IsGetRaw}
use Rattle.sc_daemon_hold.specs.Beginning.{TellsStatistics}
use Rattle.sc_model.specs.Describing.{server_info, stats_reply}
use Rattle.sc_model.specs.Follows.{Begins}
use Rattle.sc_model.specs.Phases.{begin_phase, phase_next}
use Rattle.sc_model.specs.Script.{Setup}
use Rattle.sc_model.specs.declared.event.Told.TheVariants.{Stats as TellsStats}
use Rattle.sc_model.specs.declared.message.Request.{Request}
use Rattle.sc_model.specs.declared.message.Request.TheVariants.{GetStats, Shutdown}
use Rattle.sc_model.specs.declared.phase.Phase.TheVariants.{AtSend, SizeAsk}
use Rattle.sc_stats.specs.declared.counters.ServerStats.{ServerStats}

pub tells_begins : (s : Setup) (r : Request) (stats : ServerStats) → TellsStatistics r → Begins s r (TellsStats stats)
tells_begins s GetStats stats tells = tt
tells_begins s Shutdown stats tells = tt
tells_begins s _ stats tells = absurd tells

pub tells_phase : (s : Setup) (r : Request) (stats : ServerStats) → TellsStatistics r → begin_phase s r (TellsStats stats) ≡ phase_next s 0 (SizeAsk 0 stats []) (AtSend (stats_reply r (server_info s stats [])))
tells_phase s GetStats stats tells = refl
tells_phase s Shutdown stats tells = refl
tells_phase s _ stats tells = absurd tells

-- a request that tells statistics is no compile, and none for bytes
pub tells_no_compile : (r : Request) → TellsStatistics r → IsCompile r → ⊥
tells_no_compile GetStats tells is = is
tells_no_compile Shutdown tells is = is
tells_no_compile _ tells is = absurd tells

pub tells_no_raw : (r : Request) → TellsStatistics r → IsGetRaw r → ⊥
tells_no_raw GetStats tells is = is
tells_no_raw Shutdown tells is = is
tells_no_raw _ tells is = absurd tells
