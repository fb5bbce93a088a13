-- How a distributed client is made anew, and what is told of it.
use Rattle.std.specs.Prelude.{◌≡◌, ℕ, ◌-◌, ◌≤◌, Bool, true, false, not, List, [], ◌∷◌, Option, Some, None, codes, nat_le}
use Rattle.sc_model.specs.Script.{Scheduler}
use Rattle.sc_model.specs.declared.event.KeyStep.{KeyStep}
use Rattle.sc_model.specs.declared.event.KeyStep.TheVariants.{Fault as KeyFault}
use Rattle.sc_model.specs.declared.level.DistClientState.{DistClientState}
use Rattle.sc_model.specs.declared.level.DistClientState.TheVariants.{Disabled, FailWithMessage, Made as IsMadeNow, RetryCreateAt}
use Rattle.sc_model.specs.declared.level.Making.{Making}
use Rattle.sc_model.specs.declared.level.Making.TheVariants.{Made as IsMade, NoToken, Unreachable}
use Rattle.sc_stats.specs.declared.counters.DistInfo.{DistInfo}
use Rattle.sc_stats.specs.declared.counters.DistInfo.TheVariants.{Disabled as IsDisabled, NotConnected, SchedulerStatus}
use Rattle.sc_entry.specs.Causes.{IfTold, Rose}
use Rattle.sc_stats.specs.Sums.{sat}

-- What a maker answers next. Where its answers are told it is the first of those that are left, and behind the last each client is made.
abbrev pub Makes_next : Option (List Making) → Making → Option (List Making) → Type 0
Makes_next None making left = left ≡ None
Makes_next (Some []) making left = (making ≡ IsMade) × (left ≡ Some [])
Makes_next (Some (m ∷ ms)) making left = (making ≡ m) × (left ≡ Some ms)

-- A client isn't made only where its maker's count rose.
abbrev pub MakerCause : Making → ℕ → ℕ → Type 0
MakerCause IsMade f g = f ≤ g
MakerCause making f g = Rose f g × (f ≤ g)

-- where a client then stands; one that isn't reached is waited for 30 s
abbrev pub made_state : ℕ → Making → DistClientState
made_state now IsMade = IsMadeNow
made_state now Unreachable = RetryCreateAt (sat now 30000000000)
made_state now (NoToken text) = FailWithMessage text

abbrev pub is_due : ℕ → DistClientState → Bool
is_due now (RetryCreateAt due_at) = nat_le due_at now
is_due now c = false

-- A client: where it stands, its maker's count, and what its maker answers next, where that is told.
pub record Container : Type 0 where
  pub state : DistClientState
  pub faults : ℕ
  pub makings : Option (List Making)

-- A retry that is due makes its client anew, and nothing else is made.
abbrev pub Renews_where : Bool → ℕ → Container → Container → Type 0
Renews_where true now c d = (making : Making) × Makes_next c.makings making d.makings × (d.state ≡ made_state now making) × MakerCause making c.faults d.faults
Renews_where false now c d = d ≡ c

abbrev pub Renews : ℕ → Container → Container → Type 0
Renews now c d = Renews_where (is_due now c.state) now c d

abbrev pub gives_client : DistClientState → Bool
gives_client IsMadeNow = true
gives_client _ = false

-- a kept message is answered once
abbrev pub Tells_client : ℕ → DistClientState → Option KeyStep → Bool → KeyStep → DistClientState → Type 0
Tells_client now (FailWithMessage text) told client step after = (client ≡ false) × (step ≡ KeyFault (text ∷ [])) × (after ≡ RetryCreateAt now)
Tells_client now c told client step after = IfTold told (λ k. step ≡ k) × (client ≡ gives_client c) × (after ≡ c)

abbrev pub reset : ℕ → DistClientState → DistClientState
reset now Disabled = Disabled
reset now _ = RetryCreateAt now

-- Only a client that is made is asked. It refuses only where its count rose, and where it tells what it answers, where it tells that.
abbrev pub Tells_status : Scheduler → ℕ → DistClientState → DistInfo → ℕ → ℕ → Type 0
Tells_status d now Disabled info f g = (info ≡ IsDisabled (codes "disabled")) × (g ≡ f)
Tells_status d now IsMadeNow (SchedulerStatus u n c i) f g = IfTold d.status (λ told. told ≡ Some (SchedulerStatus u n c i)) × (f ≤ g)
Tells_status d now IsMadeNow info f g = (info ≡ NotConnected d.url (codes "could not communicate with scheduler")) × IfTold d.status (λ told. told ≡ None) × Rose f g × (f ≤ g)
Tells_status d now (FailWithMessage text) info f g = (info ≡ NotConnected d.url (codes "enabled, auth not configured")) × (g ≡ f)
Tells_status d now (RetryCreateAt due_at) info f g = (info ≡ NotConnected d.url (d.retry_text (due_at - now))) × (g ≡ f)
