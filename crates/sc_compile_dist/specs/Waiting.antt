-- A client that is never asked.
use Rattle.std.specs.Prelude.{Bool, true, false}
use Rattle.sc_model.specs.declared.level.DistClientState.{DistClientState}
use Rattle.sc_model.specs.declared.level.DistClientState.TheVariants.{Disabled}

abbrev pub is_disabled : DistClientState → Bool
is_disabled Disabled = true
is_disabled _ = false
