-- What a compile would get with no store at all: its compiler's answer for its key.
use Rattle.std.specs.Prelude.{true, false, List, [], ◌∷◌, Option, Some, None}
use Rattle.sc_entry.specs.Entries.{find_object}
use Rattle.sc_entry.specs.declared.object.FileObjectSource.{FileObjectSource}
use Rattle.sc_entry.specs.declared.object.Object.{Object}
use Rattle.sc_model.specs.Finishing.{finish_key, finish_run}
use Rattle.sc_model.specs.Job.{objects_of}
use Rattle.sc_model.specs.Script.{Setup}
use Rattle.sc_model.specs.declared.event.KeyFound.{KeyFound}
use Rattle.sc_model.specs.declared.event.KeyStep.{KeyStep}
use Rattle.sc_model.specs.declared.event.KeyStep.TheVariants.{Key}
use Rattle.sc_model.specs.declared.event.MissType.TheVariants.{ForcedNoCache}
use Rattle.sc_model.specs.declared.event.RunAnswer.{RunAnswer}
use Rattle.sc_model.specs.declared.event.RunAnswer.TheVariants.{Output as RanOutput}
use Rattle.sc_model.specs.declared.event.Task.{Task}
use Rattle.sc_model.specs.declared.message.CompileFinished.{CompileFinished}
use Rattle.sc_model.specs.declared.message.Request.{Request}
use Rattle.sc_model.specs.declared.phase.Job.{Job}

abbrev pub plain_job : Task → KeyFound → Job
plain_job task found = record { task = task; found = found; at = 0; client = false; first = true }

-- its status, signal, and what it wrote
abbrev pub plain_finish : Setup → Request → Task → KeyStep → RunAnswer → CompileFinished
plain_finish s r task (Key found) a = finish_run s r (plain_job task found) ForcedNoCache a
plain_finish s r task step a = finish_key s r step

abbrev pub with_object : Option Object → List Object → List Object
with_object None os = os
with_object (Some o) os = o ∷ os

abbrev pub objects_under : List FileObjectSource → List Object → List Object
objects_under [] os = []
objects_under (o ∷ outputs) os = with_object (find_object o.key os) (objects_under outputs os)

-- its objects, under the names of the job's outputs
abbrev pub plain_objects : KeyStep → RunAnswer → List Object
plain_objects (Key found) (RanOutput out) = objects_under found.outputs (objects_of out.objects)
plain_objects step a = []
