-- How a command ends that reports on what the input says.
use Rattle.std.specs.Prelude.{◌≡◌, ℕ, List, Result, Ok, Err, pos}
use Rattle.std.specs.Global.{Vec}
use Rattle.sc_entry.specs.declared.stream_error.ReadError.{ReadError}
use Rattle.sc_entry.specs.declared.stream_error.ReadError.TheVariants as read_errors
use Rattle.sc_lru.specs.declared.capacity_report.Use.{Use}
use Rattle.sc_main_client.specs.Ending.{TextEnds}
use Rattle.sc_main_dry.specs.Reports.{report_of}
use Rattle.sc_main_dry.specs.Texts.{uses_said}
use Rattle.sc_main_report.specs.declared.ended.Ended.{Ended}
use Rattle.sc_main_report.specs.declared.ended.Ended.TheVariants.{BadScript, LinkFault, NoMemory, ReadFault, Status, Unexpected, Usage, WriteFault}
use Rattle.sc_main_script.specs.declared.script.ScriptError.{ScriptError}
use Rattle.sc_main_script.specs.declared.script.ScriptError.TheVariants.{Bad, Memory}
use Rattle.sc_main.specs.Warming.{WarmsScript}
use Rattle.sc_main_warm.specs.Texts.{warm_said}
use Rattle.sc_main_warm.specs.declared.warm_script.WarmScript.{WarmScript}

-- The input was read to its end, and the report on it was written.
pub record Reported (is_report : List ℕ → List ℕ → Type 0) (read wrote : List ℕ → Type 0) : Type 0 where
  pub bytes : List ℕ
  pub taken : read bytes
  pub text : List ℕ
  pub report : is_report bytes text
  pub written : wrote text

-- The input was read to its end, and its first bad line is this one.
pub record FirstBad (is_bad : List ℕ → ℕ → Type 0) (read : List ℕ → Type 0) (line : ℕ) : Type 0 where
  pub bytes : List ℕ
  pub taken : read bytes
  pub first : is_bad bytes line

-- each end has its cause: what was read and written, or a count of refusals that rose; want of memory is free
abbrev pub InputEnds : (is_report : List ℕ → List ℕ → Type 0) (is_bad : List ℕ → ℕ → Type 0) (read wrote : List ℕ → Type 0) (read_rose write_rose : Type 0) → Ended → Type 0
InputEnds is_report is_bad read wrote read_rose write_rose (Status n) = (n ≡ pos 0) × Reported is_report read wrote
InputEnds is_report is_bad read wrote read_rose write_rose Usage = ⊥
InputEnds is_report is_bad read wrote read_rose write_rose (BadScript line) = FirstBad is_bad read line
InputEnds is_report is_bad read wrote read_rose write_rose NoMemory = Unit {0}
InputEnds is_report is_bad read wrote read_rose write_rose ReadFault = read_rose
InputEnds is_report is_bad read wrote read_rose write_rose WriteFault = write_rose
InputEnds is_report is_bad read wrote read_rose write_rose LinkFault = ⊥
InputEnds is_report is_bad read wrote read_rose write_rose Unexpected = ⊥

-- a report is written, or that there is none is the end
abbrev pub ReportEnds : (wrote : List ℕ → Type 0) (write_rose : Type 0) → Result (Vec ℕ) ScriptError → Ended → Type 0
ReportEnds wrote write_rose (Ok text) e = TextEnds (wrote text.items) write_rose e
ReportEnds wrote write_rose (Err Memory) e = e ≡ NoMemory
ReportEnds wrote write_rose (Err (Bad line)) e = e ≡ BadScript line

abbrev pub unread_input : ReadError → Ended
unread_input read_errors.NoMemory = NoMemory
unread_input read_errors.ReadFault = ReadFault

-- what became of each key that was copied from the one store into the other, of which the bytes say all
abbrev pub IsWarmReport : List ℕ → List ℕ → Type 0
IsWarmReport bytes text = (script : WarmScript) × (warm_said bytes ≡ Ok script) × WarmsScript script text

abbrev pub SaysNoWarming : List ℕ → ℕ → Type 0
SaysNoWarming bytes line = warm_said bytes ≡ Err line

-- what the uses that the bytes say find at each capacity
abbrev pub IsDryReport : List ℕ → List ℕ → List ℕ → Type 0
IsDryReport capacities bytes text = (uses : List (Use (List ℕ))) × (uses_said bytes ≡ Ok uses) × (text ≡ report_of uses capacities)

abbrev pub AreNoUses : List ℕ → ℕ → Type 0
AreNoUses bytes line = uses_said bytes ≡ Err line
