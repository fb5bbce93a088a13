-- The distributed client of a state, and what it has a key step answer.
use Rattle.std.specs.Prelude.{◌≡◌, ℕ, Bool, true, false, List, [], ◌∷◌, Option}
use Rattle.sc_compile_dist.specs.Containers.{Contained, container_of}
use Rattle.sc_compile_dist.specs.declared.container.ClientAnswer.{ClientAnswer}
use Rattle.sc_compile_dist.specs.declared.container.ClientAnswer.TheVariants.{Failed, NoClient, Ready}
use Rattle.sc_entry.specs.Causes.{IfTold}
use Rattle.sc_model.specs.World.{World}
use Rattle.sc_model.specs.declared.event.KeyStep.{KeyStep}
use Rattle.sc_model.specs.declared.event.KeyStep.TheVariants.{Fault}
use Rattle.sc_daemon_owned.specs.State.{State}

-- what a world holds once its container is this
abbrev pub with_dist : World → Contained → World
with_dist w d = record w { dists = d.jobs; dist_faults = d.client_faults; container = container_of d }

-- the container of a state
abbrev pub contained_in : State → Contained
contained_in o = record {
  url = o.config.dist.url;
  state = o.world.container.state;
  jobs = o.world.dists;
  lines = o.config.dist.lines;
  status = o.config.dist.status;
  makings = o.world.container.makings;
  client_faults = o.world.dist_faults;
  maker_faults = o.world.container.faults;
}

-- A key step by the client's answer: a kept message is its fault, and else it is what the compiler tells.
abbrev pub StepsBy : Option KeyStep → ClientAnswer → Bool → KeyStep → Type 0
StepsBy told (Failed text) client step = (client ≡ false) × (step ≡ Fault (text ∷ []))
StepsBy told Ready client step = (client ≡ true) × IfTold told (λ k. step ≡ k)
StepsBy told NoClient client step = (client ≡ false) × IfTold told (λ k. step ≡ k)
