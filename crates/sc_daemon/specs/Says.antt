-- What an event tells of what a daemon has counted, and what it counts itself.
use Rattle.std.specs.Prelude.{◌≡◌, true, List}
use Rattle.sc_model.specs.Machine.{counters_at}
use Rattle.sc_model.specs.Rows.{count, zeroes}
use Rattle.sc_model.specs.declared.event.Answer.TheVariants.{Size as SizeIs}
use Rattle.sc_model.specs.declared.event.Mode.TheVariants.{Size as Sizes}
use Rattle.sc_model.specs.declared.event.Told.TheVariants.{Stats as TellsStats}
use Rattle.sc_model.specs.declared.event.What.{What}
use Rattle.sc_model.specs.declared.event.What.TheVariants.{Asked, Began, Keyed, Outcome, WriteEnded}
use Rattle.sc_model.specs.declared.level.Policy.{Policy}
use Rattle.sc_stats.specs.declared.counters.LevelStats.{LevelStats}
use Rattle.sc_stats.specs.declared.counters.ServerStats.{ServerStats}

-- the counters that are told are those that the daemon has, of itself or of the level
abbrev pub SaysCounted : Policy → ServerStats → List LevelStats → What → Type 0
SaysCounted p stats levels (Began q (TellsStats told)) = told ≡ stats
SaysCounted p stats levels (Asked l k Sizes (SizeIs n c) hs) = c ≡ counters_at p levels l
SaysCounted p stats levels _ = Unit {0}

-- the statistics after an event with this row: only these events have one
abbrev pub counted : What → ServerStats → ServerStats → ServerStats
counted (Began q told) before row = count (zeroes (Began q told)) before row
counted (Keyed true client step) before row = count (zeroes (Keyed true client step)) before row
counted (Outcome verdict task) before row = count (zeroes (Outcome verdict task)) before row
counted (WriteEnded put hs) before row = count (zeroes (WriteEnded put hs)) before row
counted x before row = before
