-- What the program does by its words, and how it ends.
use Rattle.std.specs.Prelude.{◌≡◌, ◌≤◌, ◌⊎◌, ℕ, ℤ, List, Option, Some, None, Result, Ok, Err, pos}
use Rattle.sc_client.specs.Asking.{Asked, AsksStatistics, dist_status_of, read_as, shutting_down_of, zeroed_of}
use Rattle.sc_client.specs.Local.{local_words}
use Rattle.sc_client.specs.declared.client_error.ClientError.{ClientError}
use Rattle.sc_entry.specs.Causes.{Rose, Told}
use Rattle.sc_entry.specs.Streams.{WritesAll}
use Rattle.sc_main.specs.Inputs.{AreNoUses, InputEnds, IsDryReport, IsWarmReport, SaysNoWarming}
use Rattle.sc_main.specs.Platform.{Platform, Stage, connects, read, read_rose, told, tell_rose, wrote, write_rose}
use Rattle.sc_main.specs.Scripted.{Reports, ReportsTotals}
use Rattle.sc_main.specs.ServeCommand.{ServesDir}
use Rattle.sc_main_client.specs.Asking.{AfterFirst, AsksAndShows, Over}
use Rattle.sc_main_client.specs.Compiling.{CompileEnds, CompilesBy, CompilesOver, DoesCompile, MakesParts}
use Rattle.sc_main_client.specs.Connecting.{Connects}
use Rattle.sc_main_client.specs.Ending.{TextEnds}
use Rattle.sc_main_client.specs.Printed.{dist_text, last_text, stats_text, stopping_line, zeroed_line}
use Rattle.sc_main_drawn.specs.Drawn.{drawn_script}
use Rattle.sc_main_report.specs.Ending.{error_line}
use Rattle.sc_main_report.specs.Words.{version_line}
use Rattle.sc_main_report.specs.declared.ended.Ended.{Ended}
use Rattle.sc_main_report.specs.declared.ended.Ended.TheVariants.{BadScript, LinkFault, NoMemory, ReadFault, Status, Unexpected, Usage, WriteFault}
use Rattle.sc_main_script.specs.Scripts.{first_bad, script_of}
use Rattle.sc_main_script.specs.declared.script.Script.{Script}
use Rattle.sc_main_words.specs.Texts.{help_lines}
use Rattle.sc_main_words.specs.declared.command.Command.{Command}
use Rattle.sc_main_words.specs.declared.command.Command.TheVariants as commands
use Rattle.sc_main_words.specs.declared.refusal.WordsRefusal.{WordsRefusal}
use Rattle.sc_main_words.specs.declared.refusal.WordsRefusal.TheVariants as words
use Rattle.sc_model.specs.declared.message.Request.TheVariants as requests
use Rattle.sc_wire_address.specs.declared.socket_addr.SocketAddr.{SocketAddr}

-- The input was read to its end and is a script, and the report of a drive by it was written.
pub record Drove (read wrote : List ℕ → Type 0) : Type 0 where
  pub bytes : List ℕ
  pub taken : read bytes
  pub script : Script
  pub is_script : script_of bytes ≡ Some script
  pub text : List ℕ
  pub reports : Reports script text
  pub written : wrote text

-- the input was read to its end and is no script: its first bad line is told
pub record IsBad (read : List ℕ → Type 0) (line : ℕ) : Type 0 where
  pub bytes : List ℕ
  pub taken : read bytes
  pub no_script : script_of bytes ≡ None
  pub first : first_bad bytes ≡ line

-- each end has its cause: what was read and written, or a count of refusals that rose; want of memory is free
abbrev pub DriveEnds : (read wrote : List ℕ → Type 0) (read_rose write_rose : Type 0) → Ended → Type 0
DriveEnds read wrote read_rose write_rose (Status n) = (n ≡ pos 0) × Drove read wrote
DriveEnds read wrote read_rose write_rose Usage = ⊥
DriveEnds read wrote read_rose write_rose (BadScript line) = IsBad read line
DriveEnds read wrote read_rose write_rose NoMemory = Unit {0}
DriveEnds read wrote read_rose write_rose ReadFault = read_rose
DriveEnds read wrote read_rose write_rose WriteFault = write_rose
DriveEnds read wrote read_rose write_rose LinkFault = ⊥
DriveEnds read wrote read_rose write_rose Unexpected = ⊥

-- The report, from its first level on, of a drive by the script of a number was written.
pub record DroveDrawn (number : ℕ) (wrote : List ℕ → Type 0) : Type 0 where
  pub text : List ℕ
  pub reports : ReportsTotals (drawn_script number) text
  pub written : wrote text

-- Nothing was written where nothing was to be: the input is no script or could not be read.
abbrev pub LeavesOut : {O : Type 0} → Ended → O → O → Type 0
LeavesOut Usage old new = new ≡ old
LeavesOut (BadScript line) old new = new ≡ old
LeavesOut ReadFault old new = new ≡ old
LeavesOut _ old new = Unit {0}

-- the end of words that are no command
abbrev pub unread_end : WordsRefusal → Ended
unread_end words.Usage = Usage
unread_end words.NoMemory = NoMemory

-- A compile was done, by the server at an address or here, and came to a status or a refusal, which was told.
pub record Compiled {S O E X C K P T M A L H : Type 0} (p : Platform S O E X C K P T M A L H) (addr : SocketAddr) (exe : List ℕ) (ws : List (List ℕ)) (a b : Stage S O E X) (e : Ended) : Type 0 where
  pub came : Result ℤ ClientError
  pub shown : E
  -- what is outside counted of refusals once the connection was made
  pub between : ℕ
  pub later : between ≤ p.faults b.outside
  pub over : CompilesOver (Connects addr p.asked p.links p.connector_faults p.begun (p.faults a.outside) between)
      (CompilesBy (MakesParts (p.around a.outside) between (p.faults b.outside))
      (DoesCompile p.table (p.runs (local_words ws)) p.creator_faults exe ws (record { out = p.written a.out; now_out = p.written b.out; err = p.error_written a.err; now_err = p.error_written shown }) (p.output_faults a.out) (p.output_faults b.out) (p.error_faults a.err) (p.error_faults shown))
      ((b.out ≡ a.out) × (shown ≡ a.err))) ((b.out ≡ a.out) × (shown ≡ a.err)) came
  pub ends : CompileEnds (λ text. Told (WritesAll text) (p.error_written shown) (p.error_written b.err)) (Rose (p.error_faults shown) (p.error_faults b.err)) (b.err ≡ shown) came e

-- A server was asked to stop, once that was said, and what it counted was printed.
pub record Stopped {S O E X C K P T M A L H : Type 0} (p : Platform S O E X C K P T M A L H) (addr : SocketAddr) (a b : Stage S O E X) (e : Ended) : Type 0 where
  pub first : Ended
  pub said : O
  pub says : TextEnds (Told (WritesAll stopping_line) (p.written a.out) (p.written said)) (Rose (p.output_faults a.out) (p.output_faults said)) first
  pub after : AfterFirst first (Over (connects p a b addr)
      (AsksAndShows (Asked requests.Shutdown (read_as shutting_down_of)) last_text (λ text. Told (WritesAll text) (p.written said) (p.written b.out)) (Rose (p.output_faults said) (p.output_faults b.out)) (b.out ≡ said)) (b.out ≡ said)) ((b.out ≡ said) × (b.outside ≡ a.outside)) e

module _ {S O E X C K P T M A L H : Type 0} where
  -- A command was done, and came to this end, of which nothing was told yet.
  abbrev pub Does : Platform S O E X C K P T M A L H → Command → Stage S O E X → Stage S O E X → Ended → Type 0
  Does p commands.Drive a b e = DriveEnds (read p a b) (wrote p a b) (read_rose p a b) (write_rose p a b) e × LeavesOut e a.out b.out × (b.err ≡ a.err)
  Does p (commands.Generate number) a b e = TextEnds (DroveDrawn number (wrote p a b)) (write_rose p a b) e × (b.input ≡ a.input) × (b.err ≡ a.err)
  Does p commands.Warm a b e =
      InputEnds IsWarmReport SaysNoWarming (read p a b) (wrote p a b) (read_rose p a b) (write_rose p a b) e × LeavesOut e a.out b.out × (b.err ≡ a.err)
  Does p (commands.Dry capacities) a b e =
      InputEnds (IsDryReport capacities) AreNoUses (read p a b) (wrote p a b) (read_rose p a b) (write_rose p a b) e × LeavesOut e a.out b.out × (b.err ≡ a.err)
  Does p commands.Help a b e = TextEnds (wrote p a b help_lines) (write_rose p a b) e × (b.err ≡ a.err)
  Does p commands.Version a b e = TextEnds (wrote p a b version_line) (write_rose p a b) e × (b.err ≡ a.err)
  Does p (commands.Serve addr dir bytes tokens) a b e =
      ServesDir dir bytes tokens p.doors p.maker_faults p.moments p.pauses addr (wrote p a b) (write_rose p a b) (b.out ≡ a.out) (p.faults a.outside) (p.faults b.outside) e × (b.err ≡ a.err)
  Does p (commands.Compile addr exe ws) a b e =
      Compiled p addr exe ws a b e
  Does p (commands.Stats addr advanced json) a b e =
      Over (connects p a b addr) (AsksAndShows AsksStatistics (stats_text advanced json) (wrote p a b) (write_rose p a b) (b.out ≡ a.out)) (b.out ≡ a.out) e × (b.err ≡ a.err)
  Does p (commands.Zero addr) a b e =
      Over (connects p a b addr) (AsksAndShows (Asked requests.ZeroStats (read_as zeroed_of)) (λ _. zeroed_line) (told p a b) (tell_rose p a b) (b.err ≡ a.err)) (b.err ≡ a.err) e × (b.out ≡ a.out)
  Does p (commands.Stop addr) a b e = Stopped p addr a b e × (b.err ≡ a.err)
  Does p (commands.DistStatus addr) a b e =
      Over (connects p a b addr) (AsksAndShows (Asked requests.DistStatus (read_as dist_status_of)) dist_text (wrote p a b) (write_rose p a b) (b.out ≡ a.out)) (b.out ≡ a.out) e × (b.err ≡ a.err)

  -- Where the words are no command, nothing is done.
  abbrev pub Comes : Platform S O E X C K P T M A L H → Result Command WordsRefusal → Stage S O E X → Stage S O E X → Ended → Type 0
  Comes p (Ok command) a b e = Does p command a b e
  Comes p (Err refusal) a b e = (e ≡ unread_end refusal) × (b ≡ a)

-- An end that is told has exactly its line on standard error, which for a command that was done is none. Where memory ran
-- out or a write was refused, less may stand there.
abbrev pub TellsLine : Ended → Option (List ℕ) → Option (List ℕ) → Type 0
TellsLine NoMemory old new = Unit {0}
TellsLine WriteFault old new = Unit {0}
TellsLine ended old new = Told (WritesAll (error_line ended)) old new

-- An end is told as it is, unless memory runs out or its line is refused.
abbrev pub TellsEnd : Ended → Ended → Type 0 → Option (List ℕ) → Option (List ℕ) → Type 0
TellsEnd ended result rose old new = ((result ≡ ended) × TellsLine ended old new) ⊎ ((result ≡ NoMemory) ⊎ ((result ≡ WriteFault) × rose))

-- What the words came to, and then the end was told on standard error behind what stood there by then.
pub record Runs {S O E X C K P T M A L H : Type 0} (p : Platform S O E X C K P T M A L H) (command : Result Command WordsRefusal) (a b : Stage S O E X) (result : Ended) : Type 0 where
  pub shown : E
  pub came : Ended
  pub comes : Comes p command a (record b { err = shown }) came
  pub ends : TellsEnd came result (Rose (p.error_faults shown) (p.error_faults b.err)) (p.error_written shown) (p.error_written b.err)
