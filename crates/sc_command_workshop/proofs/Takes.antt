-- What one output more comes to.
use Rattle.std.proofs.Common.{◌≡◌, ℕ, Bool, true, false, List, Option}
use Rattle.sc_entry.specs.Causes.{Rose}
use Rattle.sc_entry.specs.FileMaps.{FileMap}
use Rattle.sc_entry.specs.Gathering.{TakesSource}
use Rattle.sc_entry.specs.declared.object.Object.{Object}
use Rattle.sc_entry.specs.declared.object.FileObjectSource.{FileObjectSource}
use Rattle.sc_command_workshop.specs.Collecting.{TakesOutput}

module _ (held : Option FileMap) (s : FileObjectSource) (os after : List Object) (f g : ℕ) where
  pub taken : (b : Bool) → b ≡ true → TakesOutput held s os after f g b → TakesSource held s os after f g
  taken true is step = step
  taken false is step = absurd (cc)

  pub lacking : (b : Bool) → b ≡ false → TakesOutput held s os after f g b → (s.optional ≡ false) × Rose f g
  lacking true is step = absurd (cc)
  lacking false is step = step
