-- What objects of a run are named.
use Rattle.std.specs.Prelude.{ℕ, Bool, true, false, not, ◌&&◌, ◌||◌, nat_lt, List, [], ◌∷◌, ◌++◌, length, codes}
use Rattle.std.specs.Str.{bytes_eq}
use Rattle.sc_entry.specs.Entries.{has_name, is_object_name}
use Rattle.sc_entry.specs.declared.object.Object.{Object}
use Rattle.sc_model.specs.declared.event.Objects.{Objects}
use Rattle.sc_model.specs.declared.event.Objects.TheVariants.{Broken, Collected}
use Rattle.sc_model.specs.declared.event.RunAnswer.{RunAnswer}
use Rattle.sc_model.specs.declared.event.RunAnswer.TheVariants.{Fault, Output, ProcessError}

-- the names of what a compiler writes to its two streams
abbrev pub is_stream : List ℕ → Bool
is_stream name = bytes_eq name (codes "stdout") || bytes_eq name (codes "stderr")

-- the name of an output: that of an object, and of no stream
abbrev pub is_output_name : List ℕ → Bool
is_output_name name = is_object_name name && not (is_stream name)

-- each object has a name of its own, which no object before has
abbrev pub are_named : List Object → List Object → Bool
are_named before [] = true
are_named before (o ∷ os) = (is_output_name o.name && not (has_name o.name before)) && are_named (before ++ o ∷ []) os

-- fewer than 65,533 objects, with distinct names of 1 to 65,535 bytes of UTF-8, none a stream's
abbrev pub are_run_objects : List Object → Bool
are_run_objects os = are_named [] os && nat_lt (length os) 65533

-- a chain has at least one text
abbrev pub is_chain : List (List ℕ) → Bool
is_chain [] = false
is_chain (t ∷ ts) = true

abbrev pub are_good : Objects → Bool
are_good (Collected os) = are_run_objects os
are_good (Broken chain) = is_chain chain

-- what a workshop may answer
abbrev pub is_good_answer : RunAnswer → Bool
is_good_answer (Output out) = are_good out.objects
is_good_answer (ProcessError out) = true
is_good_answer (Fault chain) = is_chain chain
