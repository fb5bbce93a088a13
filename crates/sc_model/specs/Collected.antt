-- Objects that a run hands back: what an entry may hold besides both streams.
use Rattle.std.specs.Prelude.{◌≡◌, ◌<◌, false, List, [], ◌∷◌, ◌++◌, length, codes, None}
use Rattle.sc_entry.specs.Entries.{has_name}
use Rattle.sc_entry.specs.EntryAnswers.{put_refusal}
use Rattle.sc_entry.specs.declared.object.Object.{Object}
use Rattle.sc_model.specs.declared.event.Objects.{Objects}
use Rattle.sc_model.specs.declared.event.Objects.TheVariants.{Broken, Collected}
use Rattle.sc_model.specs.declared.event.RunAnswer.{RunAnswer}
use Rattle.sc_model.specs.declared.event.RunAnswer.TheVariants.{Fault, Output, ProcessError}

-- each can be put after those before it: its name is new and good
abbrev pub CanPut : List Object → List Object → Type 0
CanPut before [] = Unit {0}
CanPut before (o ∷ os) = (put_refusal o.name before ≡ None) × CanPut (before ++ o ∷ []) os

-- Collected objects: good, distinct names, none of a stream, and room for both streams.
pub record AreCollected (os : List Object) : Type 0 where
  pub puts : CanPut [] os
  pub no_stdout : has_name (codes "stdout") os ≡ false
  pub no_stderr : has_name (codes "stderr") os ≡ false
  pub few : length os < 65533

abbrev pub GoodObjects : Objects → Type 0
GoodObjects (Collected os) = AreCollected os
GoodObjects (Broken chain) = Unit {0}

-- what a workshop may answer
abbrev pub GoodAnswer : RunAnswer → Type 0
GoodAnswer (Output out) = GoodObjects out.objects
GoodAnswer (ProcessError out) = Unit {0}
GoodAnswer (Fault chain) = Unit {0}
