-- What a key step's control is, as code tells it.
use Rattle.sc_daemon_action.specs.declared.control.Control.{Control}
use Rattle.sc_daemon_action.specs.declared.control.Control.TheVariants as told
use Rattle.sc_model.specs.Script.{Control as Controls}
use Rattle.sc_model.specs.Script as script

abbrev pub control_of : Control → Controls
control_of told.Default = script.Default
control_of told.ForceNoCache = script.ForceNoCache
control_of told.ForceRecache = script.ForceRecache
