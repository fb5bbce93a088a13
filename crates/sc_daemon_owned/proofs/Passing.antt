-- Time passes.
use Rattle.std.proofs.Common.{◌≡◌, ℕ, Bool, List, ap, ◌∙◌}
use Rattle.sc_daemon_owned.specs.Facts.{DaemonFacts}
use Rattle.sc_model.specs.Next.{at_moment}
use Rattle.sc_model.specs.World.{World}
use Rattle.sc_daemon_owned.specs.Codes.{same_state}
use Rattle.sc_daemon_owned.specs.State.{State}
use Rattle.sc_stats.specs.Sums.{sat}
use Rattle.sc_store.specs.Held.{Room}

-- the clock alone is another
pub passed : (before now after : State) (m n : ℕ) → before ≡ now → m ≡ sat before.world.moment n → ◌≡◌ {A = DaemonFacts × (Bool × (World × List Room))} (after.config, (after.told, (after.world, after.rooms))) (before.config, (before.told, (at_moment before.world m, before.rooms)))
    → after ≡ record now { world = at_moment now.world (sat now.world.moment n) }
passed before now after m n is later by =
    same_state after (record now { world = at_moment now.world (sat now.world.moment n) })
    (by ∙ ap (λ k. (before.config, (before.told, (at_moment before.world k, before.rooms)))) later
    ∙ ap (λ o. (o.config, (o.told, (at_moment o.world (sat o.world.moment n), o.rooms)))) is)
