-- What goes to a stream of some bytes.
use Rattle.std.specs.Prelude.{ℕ, Bool, true, false, not, ◌||◌, if◌then◌else◌, List}
use Rattle.sc_model.specs.declared.message.ColorMode.{ColorMode}
use Rattle.sc_model.specs.declared.message.ColorMode.TheVariants.{Auto, Off, On}
use Rattle.sc_client.specs.Escapes.{filtered}
use Rattle.sc_client.specs.declared.outlet.Outlet.{Outlet}

-- nothing is filtered where colors are on, nor at a terminal that shows them, unless they are off
abbrev pub is_filtered : Outlet → ColorMode → Bool
is_filtered outlet On = false
is_filtered outlet Off = true
is_filtered outlet Auto = not outlet.is_terminal || outlet.is_dumb

abbrev pub shown : Outlet → ColorMode → List ℕ → List ℕ
shown outlet mode bytes = if is_filtered outlet mode then filtered bytes else bytes
