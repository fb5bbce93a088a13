-- What comes of making a client.
use Rattle.std.specs.Prelude.{Bool, true, false}
use Rattle.sc_model.specs.declared.level.Making.{Making}
use Rattle.sc_model.specs.declared.level.Making.TheVariants.{Made, NoToken, Unreachable}

abbrev pub is_made : Making → Bool
is_made Made = true
is_made Unreachable = false
is_made (NoToken text) = false
