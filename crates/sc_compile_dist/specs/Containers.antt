-- A distributed client with its maker, and where it stands.
use Rattle.std.specs.Prelude.{◌≡◌, ℕ, ◌/◌, ◌%◌, List, ◌++◌, Option, codes, decimal}
use Rattle.sc_model.specs.Script.{Scheduler}
use Rattle.sc_model.specs.Containers.{Container, Renews, Tells_status}
use Rattle.sc_model.specs.declared.level.DistClientState.{DistClientState}
use Rattle.sc_model.specs.declared.level.Making.{Making}
use Rattle.sc_model.specs.declared.level.DistClientState.TheVariants.{Disabled, FailWithMessage, Made, RetryCreateAt}
use Rattle.sc_stats.specs.declared.counters.DistInfo.{DistInfo}
use Rattle.sc_compile_dist.specs.Jobs.{Jobs}
use Rattle.sc_compile_dist.specs.declared.container.ClientAnswer.{ClientAnswer}
use Rattle.sc_compile_dist.specs.declared.container.ClientAnswer.TheVariants.{Failed, NoClient, Ready}
use Rattle.sc_compile_dist.specs.declared.dist_line.DistLine.{DistLine}

-- A container: its scheduler's address and where it stands; where the client tells them, its jobs, the lines that it answers by
-- and what it says of its scheduler; what its maker answers next, where it tells that; and the counts of the client and of its maker.
pub record Contained : Type 0 where
  pub url : Option (List ℕ)
  pub state : DistClientState
  pub jobs : Option Jobs
  pub lines : Option (List DistLine)
  pub status : Option (Option DistInfo)
  pub makings : Option (List Making)
  pub client_faults : ℕ
  pub maker_faults : ℕ

-- how a wait is told: in seconds with one decimal, cut off
unfoldable pub retry_text : ℕ → List ℕ
retry_text wait = codes "enabled, not connected, will retry in " ++ (decimal (wait / 1000000000) ++ (codes "." ++ (decimal (wait / 100000000 % 10) ++ codes "s")))

-- what is known of a scheduler with this address, which says this
abbrev pub scheduler_of : Option (List ℕ) → Option (Option DistInfo) → Scheduler
scheduler_of url status = record { url = url; retry_text = retry_text; status = status }

abbrev pub scheduler : Contained → Scheduler
scheduler c = scheduler_of c.url c.status

-- where its client stands, and what is known of its maker
abbrev pub container_of : Contained → Container
container_of c = record { state = c.state; faults = c.maker_faults; makings = c.makings }

-- what a request for a client gets: a kept message is answered once
abbrev pub Gives : ℕ → DistClientState → ClientAnswer → DistClientState → Type 0
Gives now (FailWithMessage text) answer after = (answer ≡ Failed text) × (after ≡ RetryCreateAt now)
Gives now Made answer after = (answer ≡ Ready) × (after ≡ Made)
Gives now c answer after = (answer ≡ NoClient) × (after ≡ c)

-- the client is made anew where that is due
abbrev pub RenewsContained : ℕ → Contained → Contained → Type 0
RenewsContained now c d =
    Renews now (container_of c) (container_of d) × (d ≡ record c { state = d.state; maker_faults = d.maker_faults; makings = d.makings })

-- the same, and then it is given
abbrev pub GetsClient : ℕ → Contained → ClientAnswer → Contained → Type 0
GetsClient now c answer d = (e : Contained) × RenewsContained now c e × Gives now e.state answer d.state × (d ≡ record e { state = d.state })

-- the same, and then it is told where it stands
abbrev pub GetsStatus : ℕ → Contained → DistInfo → Contained → Type 0
GetsStatus now c info d = (e : Contained) × RenewsContained now c e × Tells_status (scheduler e) now e.state info e.client_faults d.client_faults × (d ≡ record e { client_faults = d.client_faults })
