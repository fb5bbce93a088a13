-- What can be done at a phase.
use Rattle.std.specs.Prelude.{◌≡◌, List, [], ◌∷◌, Option, None}
use Rattle.sc_daemon_action.specs.Hands.{ServesWith}
use Rattle.sc_daemon.specs.declared.standing.Standing.{Standing}
use Rattle.sc_daemon.specs.declared.standing.Standing.TheVariants.{Ended, Goes, Over, Takes}
use Rattle.sc_disk.specs.Store.{AddEntry}
use Rattle.sc_daemon_hold.specs.Holding.{Rooms}
use Rattle.sc_daemon_job.specs.Setups.{Config}
use Rattle.sc_model.specs.declared.message.Request.{Request}
use Rattle.sc_model.specs.declared.phase.Phase.{Phase}
use Rattle.sc_model.specs.declared.phase.Phase.TheVariants.{AtBegin, AtEnded, AtOver, AtTake}

abbrev pub standing_of : Phase → Standing
standing_of (AtTake work) = Takes
standing_of (AtEnded left) = Ended
standing_of AtOver = Over
standing_of _ = Goes

-- where a request may stand, with the entry that it holds: at an action that is served, or at a reply that was too long; d are
-- the levels as disk stores, where nobody else moves them
abbrev pub RestsAt : Config → Option Rooms → Phase → Option AddEntry → Request → Type 0
RestsAt k d (AtEnded left) entry r = entry ≡ None
RestsAt k d p entry r = ServesWith k d p entry r

-- requests that wait, the first at this phase; where there is none, the next begins
abbrev pub Rests : Config → Option Rooms → Phase → Option AddEntry → List Request → Type 0
Rests k d p entry [] = (p ≡ AtBegin) × (entry ≡ None)
Rests k d p entry (r ∷ rs) = RestsAt k d p entry r

-- where a connection's first request stands after a phase: behind one that is over the next begins
abbrev pub settled : Phase → Phase
settled AtOver = AtBegin
settled p = p
