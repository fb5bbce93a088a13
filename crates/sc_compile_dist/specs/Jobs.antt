-- What a distributed client answers to a job.
use Rattle.std.specs.Prelude.{ℕ, Bool, true, List, ◌++◌, Option, Some, None, codes}
use Rattle.sc_model.specs.Collecting.{is_broken, output_with}
use Rattle.sc_entry.specs.declared.object.FileObjectSource.{FileObjectSource}
use Rattle.sc_model.specs.declared.event.DistAnswer.{DistAnswer}
use Rattle.sc_model.specs.declared.event.DistAnswer.TheVariants.{Done, Http, Other, TooLarge}
use Rattle.sc_compile_table.specs.Books.{next_value}
use Rattle.sc_compile_dist.specs.declared.dist_line.DistLine.{DistLine}

-- what was compiled elsewhere, under which key, and what came of it
abbrev pub Jobs : Type 0
Jobs = List (List ℕ × DistAnswer)

-- an answer that no job gave, or one without its objects
abbrev pub is_lost : DistAnswer → Bool
is_lost (Done server out) = is_broken out.objects
is_lost (Http text) = true
is_lost (TooLarge text) = true
is_lost (Other text) = true

abbrev pub with_outputs : List FileObjectSource → DistAnswer → DistAnswer
with_outputs outputs (Done server out) = Done server (output_with outputs out)
with_outputs outputs (Http text) = Http text
with_outputs outputs (TooLarge text) = TooLarge text
with_outputs outputs (Other text) = Other text

abbrev pub no_answer : List ℕ → DistAnswer
no_answer key = Other (codes "no answer for " ++ key)

abbrev pub answer_by : List ℕ → List FileObjectSource → Option DistLine → DistAnswer
answer_by key outputs None = no_answer key
answer_by key outputs (Some line) = with_outputs outputs line.answer

-- The next job's answer under a key: each job takes the key's next line, and those behind the last take the last.
abbrev pub script_answer : List DistLine → List ℕ → Jobs → List FileObjectSource → DistAnswer
script_answer lines key jobs outputs = answer_by key outputs (next_value (λ (l : DistLine). l.key) key lines jobs)

-- the same, where the lines and the jobs before are told
abbrev pub told_dist : Option (List DistLine) → List ℕ → Option Jobs → List FileObjectSource → Option DistAnswer
told_dist None key jobs outputs = None
told_dist (Some lines) key None outputs = None
told_dist (Some lines) key (Some jobs) outputs = Some (script_answer lines key jobs outputs)
