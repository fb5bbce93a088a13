-- How a put counts at a level, as code tells it.
use Rattle.std.specs.Prelude.{ℕ, List, Some}
use Rattle.sc_daemon_job.specs.declared.level_rows.Origin.{Origin}
use Rattle.sc_daemon_job.specs.declared.level_rows.Origin.TheVariants as told
use Rattle.sc_model.specs.Machine.{counted_at}
use Rattle.sc_model.specs.Rows.{Backfill, Direct, FromPut, Origin_of_put}
use Rattle.sc_model.specs.declared.level.Policy.{Policy}
use Rattle.sc_model.specs.declared.level.Policy.TheVariants.{Levels, Single}
use Rattle.sc_stats.specs.declared.counters.LevelStats.{LevelStats}

abbrev pub origin_of : Origin → Origin_of_put
origin_of told.Direct = Direct
origin_of (told.FromPut at) = FromPut at
origin_of told.Backfill = Backfill

-- the counters of levels with this row at one: a store that stands alone has none
abbrev pub counted_in : Policy → ℕ → LevelStats → List LevelStats → List LevelStats
counted_in Single l row ls = ls
counted_in (Levels ps) l row ls = counted_at (Some l) row ls
