-- What a workshop over lines answers to a run.
use Rattle.std.specs.Prelude.{ℕ, Bool, true, false, List, [], ◌∷◌, ◌++◌, Option, Some, None, codes}
use Rattle.sc_entry.specs.declared.object.FileObjectSource.{FileObjectSource}
use Rattle.sc_model.specs.Collecting.{is_broken, output_with}
use Rattle.sc_model.specs.declared.event.RunAnswer.{RunAnswer}
use Rattle.sc_model.specs.declared.event.RunAnswer.TheVariants.{Fault, Output, ProcessError}
use Rattle.sc_compile_table.specs.Books.{next_value}
use Rattle.sc_compile.specs.declared.run_line.RunLine.{RunLine}

-- what was run, under which key, and what it answered
abbrev pub Runs : Type 0
Runs = List (List ℕ × RunAnswer)

-- the line that the next run under a key takes: each takes the key's next line, and those behind the last take the last
abbrev pub next_line : List RunLine → List ℕ → Runs → Option RunLine
next_line lines key runs = next_value (λ (l : RunLine). l.key) key lines runs

abbrev pub with_outputs : List FileObjectSource → RunAnswer → RunAnswer
with_outputs outputs (Output out) = Output (output_with outputs out)
with_outputs outputs (ProcessError out) = ProcessError out
with_outputs outputs (Fault chain) = Fault chain

abbrev pub no_answer : List ℕ → RunAnswer
no_answer key = Fault ((codes "no answer for " ++ key) ∷ [])

abbrev pub answer_by : List ℕ → List FileObjectSource → Option RunLine → RunAnswer
answer_by key outputs None = no_answer key
answer_by key outputs (Some line) = with_outputs outputs line.answer

-- The next run's answer under a key.
abbrev pub script_answer : List RunLine → List ℕ → Runs → List FileObjectSource → RunAnswer
script_answer lines key runs outputs = answer_by key outputs (next_line lines key runs)

-- The same, where the lines and the runs before are told.
abbrev pub told_answer : Option (List RunLine) → List ℕ → Option Runs → List FileObjectSource → Option RunAnswer
told_answer None key runs outputs = None
told_answer (Some lines) key None outputs = None
told_answer (Some lines) key (Some runs) outputs = Some (script_answer lines key runs outputs)

-- an answer that is a fault, or has a chain in place of objects
abbrev pub is_fault : RunAnswer → Bool
is_fault (Output out) = is_broken out.objects
is_fault (ProcessError out) = false
is_fault (Fault chain) = true
