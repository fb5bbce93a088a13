-- What kind of miss a refused lookup is.
use Rattle.std.specs.Prelude.{Bool, true, false}
use Rattle.sc_model.specs.declared.event.MissType.{MissType}
use Rattle.sc_model.specs.declared.event.MissType.TheVariants.{CacheReadError, Normal}

-- of a store that stands alone it is an error of reading
abbrev pub refused_miss : Bool → MissType
refused_miss true = CacheReadError
refused_miss false = Normal
