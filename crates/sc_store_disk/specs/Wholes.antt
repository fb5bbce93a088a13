-- What bytes as they are tell of an entry.
use Rattle.std.specs.Prelude.{Bool, List, ℕ, Option, Some, None}
use Rattle.sc_entry.specs.Entries.{objects}
use Rattle.sc_model.specs.declared.event.Answer.{Answer}
use Rattle.sc_model.specs.declared.event.Answer.TheVariants.{Hit, Refused}
use Rattle.sc_model.specs.declared.event.Mode.{Mode}
use Rattle.sc_model.specs.declared.event.Mode.TheVariants.{Whole}
use Rattle.sc_model.specs.declared.level.Cause.TheVariants.{BadEntry}

-- bytes that spell no entry are a refusal
abbrev pub hit_of : Option (List ℕ) → Bool → Answer
hit_of (Some bytes) mark = Hit bytes mark
hit_of None mark = Refused BadEntry

-- the bytes, where they spell an entry
abbrev pub if_spells : {A : Type 0} → Option A → List ℕ → Option (List ℕ)
if_spells (Some os) bytes = Some bytes
if_spells None bytes = None

abbrev pub whole_answer : Answer → Answer
whole_answer (Hit bytes mark) = hit_of (if_spells (objects bytes) bytes) mark
whole_answer answer = answer

-- an entry, or the bytes as they are
abbrev pub mode_answer : Mode → Answer → Answer
mode_answer Whole answer = whole_answer answer
mode_answer mode answer = answer
