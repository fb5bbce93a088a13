-- How requests begin, and events that call nothing.
use Rattle.sc_model.specs.declared.event.Told.{Told}
use Rattle.sc_model.specs.declared.event.Told.TheVariants.{Dist as TellsDist, Stats as TellsStats}
use Rattle.sc_model.specs.declared.event.What.{What}
use Rattle.sc_model.specs.declared.event.What.TheVariants.{Sent, TooLong}
use Rattle.sc_model.specs.declared.message.Request.{Request}
use Rattle.sc_model.specs.declared.message.Request.TheVariants.{GetStats, Shutdown}

-- what a Began tells that stands fast before it
abbrev pub IsPlainTold : Told → Type 0
IsPlainTold (TellsStats stats) = ⊥
IsPlainTold (TellsDist info) = ⊥
IsPlainTold _ = Unit {0}

-- a request whose reply tells statistics
abbrev pub TellsStatistics : Request → Type 0
TellsStatistics GetStats = Unit {0}
TellsStatistics Shutdown = Unit {0}
TellsStatistics _ = ⊥

-- an event that calls nothing
abbrev pub IsTick : What → Type 0
IsTick (Sent g) = Unit {0}
IsTick (TooLong n) = Unit {0}
IsTick _ = ⊥
