-- What a key step answers.
use Rattle.std.specs.Prelude.{ℕ, List, Option, Some, None, option_map}
use Rattle.sc_model.specs.declared.event.KeyFound.{KeyFound}
use Rattle.sc_model.specs.declared.event.KeyStep.{KeyStep}
use Rattle.sc_model.specs.declared.event.KeyStep.TheVariants.{Fault as StepFault, Key, ProcessError as StepError}
use Rattle.sc_compile_table.specs.Tables.{first_of}
use Rattle.sc_compile.specs.declared.key_line.KeyLine.{KeyLine}
use Rattle.sc_compile.specs.declared.key_line.KeyRefusal.{KeyRefusal}
use Rattle.sc_compile.specs.declared.key_line.KeyRefusal.TheVariants.{Fault, ProcessError}

-- why the key steps of a key give none, by its first line
abbrev pub refusal_of : List KeyLine → List ℕ → Option KeyRefusal
refusal_of lines key = option_map (λ (l : KeyLine). l.refusal) (first_of (λ (l : KeyLine). l.key) key lines)

abbrev pub step_by : KeyFound → Option KeyRefusal → KeyStep
step_by found None = Key found
step_by found (Some (ProcessError output)) = StepError output
step_by found (Some (Fault chain)) = StepFault chain
