-- What a distributed client tells of its scheduler.
use Rattle.std.specs.Prelude.{◌≡◌, ℕ, Option, Some, None}
use Rattle.sc_entry.specs.Causes.{IfTold, Rose}
use Rattle.sc_stats.specs.declared.counters.DistInfo.{DistInfo}
use Rattle.sc_stats.specs.declared.counters.DistInfo.TheVariants.{SchedulerStatus as Told}
use Rattle.sc_compile_dist.specs.declared.client.SchedulerStatus.{SchedulerStatus}

-- what a scheduler says of itself
abbrev pub info_of : SchedulerStatus → DistInfo
info_of s = Told s.url s.num_servers s.num_cpus s.in_progress

-- It says what is told, and refuses only where that is told, and where the count rose.
abbrev pub Says : Option (Option DistInfo) → ℕ → ℕ → Option SchedulerStatus → Type 0
Says told f g None = IfTold told (λ t. t ≡ None) × Rose f g
Says told f g (Some s) = IfTold told (λ t. t ≡ Some (info_of s))
