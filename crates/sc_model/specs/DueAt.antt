-- What is due at a phase that the code keeps. No promise speaks of it.
use Rattle.std.specs.Prelude.{ℕ, List, []}
use Rattle.sc_model.specs.Dues.{Due, Over, Stopped, ToAsk, ToBegin, ToCommit, ToDist, ToEnd, ToFill, ToFinish, ToKey, ToPlace, ToRun, ToSend, ToTake, left, next_pre, next_write}
use Rattle.sc_model.specs.Script.{Setup, counted_task}
use Rattle.sc_model.specs.declared.event.Mode.TheVariants.{Path, Pre, Raw, Size as Sizes, Whole}
use Rattle.sc_model.specs.declared.message.CompileResponse.TheVariants.{CompileStarted}
use Rattle.sc_model.specs.declared.message.Request.{Request}
use Rattle.sc_model.specs.declared.message.Response.TheVariants.{Compile as Answered}
use Rattle.sc_model.specs.declared.phase.Job.{Job}
use Rattle.sc_model.specs.declared.phase.Phase.{Phase}
use Rattle.sc_model.specs.declared.phase.Phase.TheVariants.{AtAsk, AtBegin, AtCommit, AtDist, AtEnd, AtEnded, AtFill, AtFinish, AtKey, AtOver, AtPlace, AtRun, AtSend, AtStarted, AtStore, AtTake, AtWrite, PathAsk, PreAsk, PrePut, RawAsk, SizeAsk}

abbrev pub key_of_job : Job → List ℕ
key_of_job job = job.found.key

-- what is due at a phase
abbrev pub due_at : Setup → Request → Phase → Due
due_at s r AtBegin = ToBegin
due_at s r (AtSend f) = ToSend f
due_at s r (AtStarted task) = ToSend (Answered CompileStarted)
due_at s r (AtKey task first) = ToKey first
due_at s r (AtAsk job l) = ToAsk Whole l job.found.key
due_at s r (AtPlace job b d) = ToPlace
due_at s r (AtDist work) = ToDist
due_at s r (AtTake work) = ToTake
due_at s r (AtRun work) = ToRun
due_at s r (AtEnd v task ending) = ToEnd v (counted_task r task)
due_at s r (AtStore v task b ending) = ToEnd v (counted_task r task)
due_at s r (AtWrite b ls f ending) = next_write s b f ls
due_at s r (AtFill b l ls f ending) = ToFill l b
due_at s r (AtCommit b l ls f ending) = ToCommit l b
due_at s r (AtFinish ns last) = ToFinish ns last
due_at s r (RawAsk l k) = ToAsk Raw l k
due_at s r (PathAsk k) = ToAsk Path 0 k
due_at s r (PreAsk l k) = ToAsk Pre l k
due_at s r (PrePut b ls f) = next_pre s b f ls
due_at s r (SizeAsk l stats zs) = ToAsk Sizes l []
due_at s r (AtEnded left) = Stopped left
due_at s r AtOver = Over
