-- What a finished compile says, and its notifications.
use Rattle.std.specs.Prelude.{ℕ, Bool, false, ◌==◌, if◌then◌else◌, List, [], ◌∷◌, ◌++◌, Option, Some, None, codes, pos, negsuc, ℤ}
use Rattle.sc_entry.specs.Entries.{find_object}
use Rattle.sc_entry.specs.EntryAnswers.{bytes_of as data_of}
use Rattle.sc_model.specs.Script.{Setup}
use Rattle.sc_compile_language.specs.declared.compiler_kind.CompilerKind.{CompilerKind}
use Rattle.sc_compile_language.specs.declared.compiler_kind.CompilerKind.TheVariants.{C as KindC, Rust as KindRust}
use Rattle.sc_model.specs.declared.event.DistAnswer.{DistAnswer}
use Rattle.sc_model.specs.declared.event.DistAnswer.TheVariants.{Done as DistDone, Http as DistHttp, Other as DistOther, TooLarge as DistTooLarge}
use Rattle.sc_model.specs.declared.event.KeyStep.{KeyStep}
use Rattle.sc_model.specs.declared.event.KeyStep.TheVariants.{Fault as KeyFault, Key, ProcessError as KeyError}
use Rattle.sc_model.specs.declared.event.MissType.{MissType}
use Rattle.sc_entry.specs.declared.object.Object.{Object}
use Rattle.sc_model.specs.declared.event.Output.{Output}
use Rattle.sc_model.specs.declared.event.Placing.{Placing}
use Rattle.sc_model.specs.declared.event.Placing.TheVariants.{Fault as PlaceFault}
use Rattle.sc_model.specs.declared.event.RunAnswer.{RunAnswer}
use Rattle.sc_model.specs.declared.event.RunAnswer.TheVariants.{Fault as RanFault, Output as RanOutput, ProcessError as RanError}
use Rattle.sc_model.specs.declared.event.Status.{Status}
use Rattle.sc_model.specs.declared.event.Status.TheVariants.{Code, Signal}
use Rattle.sc_model.specs.declared.event.Task.{Task}
use Rattle.sc_model.specs.declared.event.What.TheVariants.{Dist, Keyed, Placed, Ran}
use Rattle.sc_model.specs.declared.message.ColorMode.{ColorMode}
use Rattle.sc_model.specs.declared.message.ColorMode.TheVariants.{Auto as ColorAuto}
use Rattle.sc_model.specs.declared.message.CompileFinished.{CompileFinished}
use Rattle.sc_model.specs.declared.message.Request.{Request}
use Rattle.sc_model.specs.declared.message.Request.TheVariants.{Compile}
use Rattle.sc_model.specs.declared.phase.Job.{Job}
use Rattle.sc_model.specs.Job.{Own, At, task_of, job_of, miss_of, hit_of}
use Rattle.sc_model.specs.Judging.{Judged, IsBroken, judge}

-- lines, each without its line feed; what follows the last one is a line where it isn't empty
abbrev pub join_line : ℕ → List (List ℕ) → List (List ℕ)
join_line b [] = (b ∷ []) ∷ []
join_line b (l ∷ ls) = (b ∷ l) ∷ ls

abbrev pub lines : List ℕ → List (List ℕ)
lines [] = []
lines (b ∷ bs) = if b == 10 then [] ∷ lines bs else join_line b (lines bs)

abbrev pub kept_lines : (List ℕ → Bool) → List (List ℕ) → List (List ℕ)
kept_lines test [] = []
kept_lines test (l ∷ ls) = if test l then l ∷ kept_lines test ls else kept_lines test ls

abbrev pub note_test : Setup → Request → List ℕ → Bool
note_test s (Compile c) line = s.compilers.is_note c line
note_test s _ line = false

abbrev pub notes_in : Setup → Request → CompilerKind → List ℕ → List (List ℕ)
notes_in s r KindRust stderr = kept_lines (note_test s r) (lines stderr)
notes_in s r (KindC k) stderr = []

-- the notifications of a local Rust run
abbrev pub run_notes : Setup → Request → Task → RunAnswer → List (List ℕ)
run_notes s r task (RanOutput out) = notes_in s r task.kind out.output.stderr
run_notes s r task (RanError out) = notes_in s r task.kind out.stderr
run_notes s r task (RanFault chain) = []

abbrev pub notes_of : Setup → Request → List Own → List (List ℕ)
notes_of s r [] = []
notes_of s r (At m (Ran a) ∷ own) = run_notes s r (task_of own) a
notes_of s r (At m (Dist d) ∷ own) = []
notes_of s r (At m (Placed p) ∷ own) = []
notes_of s r (At m (Keyed first client step) ∷ own) = []
notes_of s r (_ ∷ own) = notes_of s r own

-- the last reply of a compile
abbrev pub color_of : Setup → Request → ColorMode
color_of s (Compile c) = s.compilers.color c
color_of s _ = ColorAuto

abbrev pub pretty_of : Setup → Request → List ℕ
pretty_of s (Compile c) = s.compilers.pretty c
pretty_of s _ = []

abbrev pub retcode : Status → Option ℤ
retcode (Code n) = Some (pos n)
retcode _ = None

abbrev pub signal : Status → Option ℤ
signal (Signal n) = Some (pos n)
signal _ = None

abbrev pub finish_output : Setup → Request → Output → CompileFinished
finish_output s r out = record { retcode = retcode out.status; signal = signal out.status; stdout = out.stdout; stderr = out.stderr; color_mode = color_of s r }

abbrev pub caused_by : List (List ℕ) → List ℕ
caused_by [] = []
caused_by (t ∷ ts) = codes "sccache: caused by: " ++ t ++ 10 ∷ caused_by ts

abbrev pub first_text : List (List ℕ) → List ℕ
first_text [] = []
first_text (t ∷ ts) = t

abbrev pub fatal_text : List (List ℕ) → List ℕ
fatal_text chain = codes "sccache: encountered fatal error" ++ 10 ∷ codes "sccache: error: " ++ first_text chain ++ 10 ∷ caused_by chain

abbrev pub finish_fatal : Setup → Request → List (List ℕ) → CompileFinished
finish_fatal s r chain = record { retcode = Some (negsuc 1); signal = None; stdout = []; stderr = fatal_text chain; color_mode = color_of s r }

abbrev pub finish_http : Setup → Request → List ℕ → CompileFinished
finish_http s r text = record { retcode = Some (pos 1); signal = None; stdout = []; stderr = codes "[\"" ++ pretty_of s r ++ codes "\"] http error status: " ++ text; color_mode = color_of s r }

abbrev pub stored_bytes : Option (List Object) → List ℕ → List ℕ
stored_bytes None name = []
stored_bytes (Some os) name = data_of (find_object name os)

-- what a hit's entry holds
abbrev pub finish_hit : Setup → Request → List ℕ → CompileFinished
finish_hit s r b = record { retcode = Some (pos 0); signal = None; stdout = stored_bytes (s.codec.objects b) (codes "stdout"); stderr = stored_bytes (s.codec.objects b) (codes "stderr"); color_mode = color_of s r }

abbrev pub finish_judged : Setup → Request → Judged → Output → CompileFinished
finish_judged s r (IsBroken chain) out = finish_fatal s r chain
finish_judged s r _ out = finish_output s r out

abbrev pub finish_run : Setup → Request → Job → MissType → RunAnswer → CompileFinished
finish_run s r job miss (RanOutput out) = finish_judged s r (judge job miss out) out.output
finish_run s r job miss (RanError out) = finish_output s r out
finish_run s r job miss (RanFault chain) = finish_fatal s r chain

abbrev pub finish_dist : Setup → Request → Job → MissType → DistAnswer → CompileFinished
finish_dist s r job miss (DistDone server out) = finish_judged s r (judge job miss out) out.output
finish_dist s r job miss (DistHttp text) = finish_http s r text
finish_dist s r job miss (DistTooLarge text) = finish_fatal s r (text ∷ [])
finish_dist s r job miss (DistOther text) = finish_fatal s r (text ∷ [])

abbrev pub finish_key : Setup → Request → KeyStep → CompileFinished
finish_key s r (Key found) = finish_fatal s r []
finish_key s r (KeyError out) = finish_output s r out
finish_key s r (KeyFault chain) = finish_fatal s r chain

abbrev pub finish_place : Setup → Request → Placing → List ℕ → CompileFinished
finish_place s r (PlaceFault chain) b = finish_fatal s r chain
finish_place s r _ b = finish_hit s r b

-- how a job finished: by its run, its distributed run, its placing or its key step, whichever was last
abbrev pub finish : Setup → Request → List Own → CompileFinished
finish s r [] = finish_fatal s r []
finish s r (At m (Ran a) ∷ own) = finish_run s r (job_of own) (miss_of s r own) a
finish s r (At m (Dist d) ∷ own) = finish_dist s r (job_of own) (miss_of s r own) d
finish s r (At m (Placed p) ∷ own) = finish_place s r p (hit_of own)
finish s r (At m (Keyed first client step) ∷ own) = finish_key s r step
finish s r (_ ∷ own) = finish s r own
