-- What a program that drives by a script prints.
use Rattle.std.specs.Prelude.{◌≡◌, ℕ, true, List, length, map, reverse, Some, None, Result, Ok, Err}
use Rattle.std.specs.Global.{Vec}
use Rattle.sc_daemon.specs.Daemons.{Kept, new_daemon, script_of as given_of}
use Rattle.sc_daemon.specs.Drives.{result_of}
use Rattle.sc_daemon.specs.declared.driven.Driven.{Driven}
use Rattle.sc_main_memory.specs.Making.{AreLines, AreRefusals, IsDist, first_levels, first_world}
use Rattle.sc_main_memory.specs.Sizes.{sizes_of}
use Rattle.sc_model.specs.Headline.{Headline}
use Rattle.sc_model.specs.Machine.{shown_levels}
use Rattle.sc_model.specs.Trace.{reservations, reserved_at}
use Rattle.sc_model.specs.declared.event.Event.{Event}
use Rattle.sc_model.specs.declared.event.Step.{Step}
use Rattle.sc_daemon_owned.specs.State.{store_of}
use Rattle.sc_main.specs.declared.printing.Extent.{Extent}
use Rattle.sc_main.specs.declared.printing.Extent.TheVariants.{Totals, Whole}
use Rattle.sc_main_report.specs.Report.{report_of, totals_of}
use Rattle.sc_main_script.specs.declared.level_size.LevelSize.{LevelSize}
use Rattle.sc_main_script.specs.Scripts.{first_bad, script_of}
use Rattle.sc_main_script.specs.declared.script.Script.{Script}
use Rattle.sc_main_script.specs.declared.script.ScriptError.{ScriptError}
use Rattle.sc_main_script.specs.declared.script.ScriptError.TheVariants.{Bad, Memory}
use Rattle.sc_stats.specs.declared.counters.LevelStats.{LevelStats}
use Rattle.sc_stats.specs.declared.counters.ServerStats.{ServerStats}
use Rattle.sc_store.specs.Telling.{new_counters}
use Rattle.sc_wire_conn.specs.declared.end.End.{End}

-- the daemon that a script is for, before its first step
pub record Begins (s : Script) (d : Kept) : Type 0 where
  pub store : d.state.config.store ≡ store_of (first_levels s)
  pub counters : d.state.config.counters ≡ new_counters 0 (first_levels s).titles
  pub levels : d.state.config.levels ≡ (first_levels s).facts
  pub policy : d.state.config.policy ≡ s.policy
  pub tokens : d.state.config.tokens ≡ s.tokens
  pub limit : d.state.config.limit ≡ s.limit
  pub table : d.state.config.table ≡ Some s.tools
  pub keys : d.state.config.keys ≡ Some s.keys
  pub lines : AreLines d.state.config.lines s.runs
  pub refusals : AreRefusals d.state.config.refusals s.places
  pub dist : IsDist d.state.config.dist s.jobs
  pub told : d.state.told ≡ true
  pub world : d.state.world ≡ first_world s
  pub new : d ≡ new_daemon d.state

-- what each level holds at last, and what is reserved at it by all that happened
abbrev pub last_sizes : Kept → List Event → List LevelSize
last_sizes last trace = sizes_of (λ l. reserved_at l (reservations (reverse trace))) last.state.world.levels

-- a report, or what stands in it from its first level on
abbrev pub shown_of : Extent → List End → List Event → List LevelSize → List LevelStats → ℕ → ℕ → ServerStats → List ℕ
shown_of Whole ends events levels counters background tokens stats = report_of ends events levels counters background tokens stats
shown_of Totals ends events levels counters background tokens stats = totals_of events levels counters background tokens stats

-- The text is that much of the report of a drive from the one daemon to the other that the headline holds of.
pub record ReportsDrive (extent : Extent) (first last : Kept) (inputs : List (List ℕ)) (steps : List Step) (text : List ℕ) : Type 0 where
  pub driven : Driven
  pub headline : Headline (given_of first inputs) first.state.world (reverse steps) (reverse driven.trace) last.state.world (result_of last driven)
  pub report : text ≡ shown_of extent (map (λ c. c.end) driven.conns) driven.trace (last_sizes last driven.trace) (shown_levels last.state.config.policy last.levels) (length driven.background) last.free last.stats

-- The text is the report of a drive by the script that the headline holds of.
pub record Reports (s : Script) (text : List ℕ) : Type 0 where
  pub first : Kept
  pub last : Kept
  pub driven : Driven
  pub begins : Begins s first
  pub headline : Headline (given_of first s.inputs) first.state.world (reverse s.steps) (reverse driven.trace) last.state.world (result_of last driven)
  pub report : text ≡ report_of (map (λ c. c.end) driven.conns) driven.trace (last_sizes last driven.trace) (shown_levels last.state.config.policy last.levels) (length driven.background) last.free last.stats

-- The text is the report, from its first level on, of a drive by the script that the headline holds of.
pub record ReportsTotals (s : Script) (text : List ℕ) : Type 0 where
  pub first : Kept
  pub last : Kept
  pub driven : Driven
  pub begins : Begins s first
  pub headline : Headline (given_of first s.inputs) first.state.world (reverse s.steps) (reverse driven.trace) last.state.world (result_of last driven)
  pub report : text ≡ totals_of driven.trace (last_sizes last driven.trace) (shown_levels last.state.config.policy last.levels) (length driven.background) last.free last.stats

abbrev pub ReportsAs : Extent → Script → List ℕ → Type 0
ReportsAs Whole s text = Reports s text
ReportsAs Totals s text = ReportsTotals s text

-- Bytes that are a script are driven by, and others refused with their first bad line; want of memory is free.
abbrev pub DrivesScript : List ℕ → Result (Vec ℕ) ScriptError → Type 0
DrivesScript bytes (Ok text) = (s : Script) × (script_of bytes ≡ Some s) × Reports s text.items
DrivesScript bytes (Err Memory) = Unit {0}
DrivesScript bytes (Err (Bad n)) = (script_of bytes ≡ None) × (first_bad bytes ≡ n)
