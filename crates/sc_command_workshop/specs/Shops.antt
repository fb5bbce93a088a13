-- What a workshop over commands and files answers.
use Rattle.std.specs.Prelude.{◌≡◌, ℕ, ◌+◌, ◌-◌, ◌^◌, min, Bool, true, false, List, [], ◌∷◌, codes, Option, Result, Ok, Err}
use Rattle.sc_entry.specs.Failing.{one_more}
use Rattle.sc_command.specs.Refusals.{new_command_text, refusal_text}
use Rattle.sc_command.specs.declared.output.Output.{Output}
use Rattle.sc_command.specs.declared.refusal.NewCommandError.TheVariants as new_command_errors
use Rattle.sc_model.specs.declared.event.Objects.{Objects}
use Rattle.sc_model.specs.declared.event.RunAnswer.{RunAnswer}
use Rattle.sc_model.specs.declared.event.RunAnswer.TheVariants as answers
use Rattle.sc_command_workshop.specs.Executing.{EndsSo, ExecuteCause, TakesFirst, told_output}
use Rattle.sc_command_workshop.specs.declared.execute_error.ExecuteError.{ExecuteError}
use Rattle.sc_command_workshop.specs.declared.execute_error.ExecuteError.TheVariants.{NoChild, ProcessError, Refused}

-- ---- how often it has failed

-- a sum that stops at the end of u64
abbrev pub sum_to_end : ℕ → ℕ → ℕ
sum_to_end a b = min (a + b) (2 ^ 64 - 1)

-- how often its creator failed, its files did, and it refused by itself
abbrev pub shop_faults : ℕ → ℕ → ℕ → ℕ
shop_faults creator files refused = sum_to_end (sum_to_end creator files) refused

-- ---- runs

-- What a run answers for what its command came to. collects: what its outputs give; quiet: its files weren't asked.
abbrev pub AnswersFor : (Objects → Type 0) → Type 0 → Result Output ExecuteError → RunAnswer → Type 0
AnswersFor collects quiet (Ok output) (answers.Output out) = (out.output ≡ told_output output) × collects out.objects
AnswersFor collects quiet (Err (ProcessError output)) (answers.ProcessError told) = (told ≡ told_output output) × quiet
AnswersFor collects quiet (Err NoChild) (answers.Fault chain) = (chain ≡ new_command_text new_command_errors.NoChild ∷ []) × quiet
AnswersFor collects quiet (Err (Refused refusal)) (answers.Fault chain) = (chain ≡ refusal_text refusal ∷ []) × quiet
AnswersFor collects quiet came answer = ⊥

-- A command was run by a creator, and answered for. by: what the creator's first command may come to.
abbrev pub RunsBy : {C : Type 0} → (C → Result Output ExecuteError → Type 0) → Option (List C) → Option (List C) → ℕ → ℕ → (Objects → Type 0) → Type 0 → RunAnswer → Type 0
RunsBy by before after f g collects quiet answer =
    (came : Result Output ExecuteError) × EndsSo came × TakesFirst by before came after × ExecuteCause f g came × AnswersFor collects quiet came answer

-- objects that no entry can hold
abbrev pub unheld : RunAnswer
unheld = answers.Fault (codes "failed to zip up compiler outputs" ∷ (codes "bad object name" ∷ []))

-- What was gathered is the answer where an entry can hold it, and else a fault of the workshop's own, which it counts.
abbrev pub Keeps : Bool → RunAnswer → RunAnswer → ℕ → ℕ → Type 0
Keeps true gathered answer before now = (answer ≡ gathered) × (now ≡ before)
Keeps false gathered answer before now = (answer ≡ unheld) × (now ≡ one_more before)

-- a child's output, with what was collected of its outputs
abbrev pub IsOutputOf : Output → (Objects → Type 0) → RunAnswer → Type 0
IsOutputOf output collects (answers.Output out) = (out.output ≡ told_output output) × collects out.objects
IsOutputOf output collects answer = ⊥
