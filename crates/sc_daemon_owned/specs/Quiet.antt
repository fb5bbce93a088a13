-- Events that move nothing but the request itself.
use Rattle.sc_model.specs.declared.event.Told.{Told}
use Rattle.sc_model.specs.declared.event.Told.TheVariants.{Dist as TellsDist}
use Rattle.sc_model.specs.declared.event.Verdict.{Verdict}
use Rattle.sc_model.specs.declared.event.Verdict.TheVariants.{Http}
use Rattle.sc_model.specs.declared.event.What.{What}
use Rattle.sc_model.specs.declared.event.What.TheVariants.{Began, Outcome, Sent, TokenTaken, TooLong, WriteEnded}

abbrev pub IsQuietTold : Told → Type 0
IsQuietTold (TellsDist info) = ⊥
IsQuietTold _ = Unit {0}

abbrev pub IsQuietVerdict : Verdict → Type 0
IsQuietVerdict Http = ⊥
IsQuietVerdict _ = Unit {0}

abbrev pub IsQuiet : What → Type 0
IsQuiet (Began q told) = IsQuietTold told
IsQuiet (Sent g) = Unit {0}
IsQuiet (TooLong n) = Unit {0}
IsQuiet TokenTaken = Unit {0}
IsQuiet (Outcome v task) = IsQuietVerdict v
IsQuiet (WriteEnded put hs) = Unit {0}
IsQuiet _ = ⊥
