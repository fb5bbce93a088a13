-- How a state moves by what its distributed client and its maker did.
use Rattle.std.proofs.Common.{◌≡◌, ℕ, ◌≤◌, Bool, true, List, Option, refl, ap, sym, subst, ◌∙◌}
use Rattle.sc_model.proofs.Goods.{good_answer}
use Rattle.sc_compile.specs.Tools.{told_key}
use Rattle.sc_compile_dist.specs.Containers.{Contained, GetsClient, GetsStatus, Gives, container_of, scheduler}
use Rattle.sc_compile_dist.specs.GoodJobs.{is_good_dist}
use Rattle.sc_compile_dist.specs.Jobs.{told_dist}
use Rattle.sc_compile_dist.specs.declared.container.ClientAnswer.{ClientAnswer}
use Rattle.sc_entry.specs.Causes.{IfTold}
use Rattle.sc_entry.specs.declared.object.FileObjectSource.{FileObjectSource}
use Rattle.sc_daemon_hold.specs.Distributing.{GoodDist}
use Rattle.sc_daemon_job.specs.Setups.{setup}
use Rattle.sc_daemon_owned.specs.Facts.{config_of}
use Rattle.sc_model.specs.Script.{Scheduler}
use Rattle.sc_model.specs.Containers.{Container, Renews, Tells_client, Tells_status, reset}
use Rattle.sc_model.specs.Levels.{and_one}
use Rattle.sc_model.specs.World.{DistCause, Need, keys_of}
use Rattle.sc_model.specs.declared.event.DistAnswer.{DistAnswer}
use Rattle.sc_model.specs.declared.event.DistAnswer.TheVariants.{Done, Http as HttpAnswer, Other, TooLarge}
use Rattle.sc_model.specs.declared.event.KeyStep.{KeyStep}
use Rattle.sc_model.specs.declared.event.RunAnswer.TheVariants.{Output}
use Rattle.sc_model.specs.declared.event.Task.{Task}
use Rattle.sc_model.specs.declared.event.Told.TheVariants.{Dist as TellsDist}
use Rattle.sc_model.specs.declared.event.Verdict.TheVariants.{Http}
use Rattle.sc_model.specs.declared.event.What.TheVariants.{Began, Dist, Keyed, Outcome}
use Rattle.sc_model.specs.declared.level.DistClientState.{DistClientState}
use Rattle.sc_model.specs.declared.level.DistClientState.TheVariants.{Disabled, FailWithMessage, Made, RetryCreateAt}
use Rattle.sc_model.specs.declared.message.Compile.{Compile}
use Rattle.sc_model.specs.declared.message.Request.TheVariants.{Compile as CompileOf, DistStatus}
use Rattle.sc_daemon_owned.proofs.Steps.{MovesTo}
use Rattle.sc_daemon_owned.specs.Distributing.{StepsBy, contained_in, with_dist}
use Rattle.sc_daemon_owned.specs.State.{State}
use Rattle.sc_stats.specs.declared.counters.DistInfo.{DistInfo}

-- a kept message is the key step's fault, and else it is the compiler's answer
tells : (now : ℕ) (before : DistClientState) (told : Option KeyStep) (client : Bool) (step : KeyStep) (answer : ClientAnswer) (after : DistClientState) → Gives now before answer after → StepsBy told answer client step → Tells_client now before told client step after
tells now Disabled told client step answer after gives steps = let s = subst (λ (a : ClientAnswer). StepsBy told a client step) gives.0 steps in (s.1, s.0, gives.1)
tells now Made told client step answer after gives steps = let s = subst (λ (a : ClientAnswer). StepsBy told a client step) gives.0 steps in (s.1, s.0, gives.1)
tells now (FailWithMessage text) told client step answer after gives steps = let s = subst (λ (a : ClientAnswer). StepsBy told a client step) gives.0 steps in (s.0, s.1, gives.1)
tells now (RetryCreateAt due) told client step answer after gives steps = let s = subst (λ (a : ClientAnswer). StepsBy told a client step) gives.0 steps in (s.1, s.0, gives.1)

keyed_of : (o : State) (n : Need) (q : Compile) (first client : Bool) (step : KeyStep) (answer : ClientAnswer) (d : Contained) → n.keys ≡ keys_of (setup (config_of o.config)) (CompileOf q) → GetsClient o.world.moment (contained_in o) answer d
    → StepsBy (told_key o.config.keys q) answer client step → MovesTo o n (Keyed first client step) o.told (with_dist o.world d)
keyed_of o n q first client step answer d keys gets steps =
    let e = gets.0 in
    let renews = gets.1 in
    let same = gets.3 in (
      refl,
      record {
        moment = refl;
        levels = λ told. refl;
        shop = (refl, refl, refl);
        dist = (
          (
            container_of e,
            renews.0,
            subst (λ (t : Bool → Option KeyStep). Tells_client o.world.moment e.state (t first) client step d.state) (sym keys) (tells o.world.moment e.state (told_key o.config.keys q) client step answer d.state gets.2 steps),
            ap container_of same,
          ),
          (ap (λ c. c.jobs) same ∙ ap (λ c. c.jobs) renews.1, ap (λ c. c.client_faults) same ∙ ap (λ c. c.client_faults) renews.1),
        );
      },
    )

-- a key step: it asked for a client first
pub keyed : (o now : State) (n : Need) (q : Compile) (first client : Bool) (step : KeyStep) (answer : ClientAnswer) (d : Contained) → o ≡ now → n.keys ≡ keys_of (setup (config_of now.config)) (CompileOf q) → GetsClient o.world.moment (contained_in o) answer d
    → StepsBy (told_key o.config.keys q) answer client step → MovesTo now n (Keyed first client step) o.told (with_dist o.world d)
keyed o now n q first client step answer d is keys gets steps =
    let k : n.keys ≡ keys_of (setup (config_of o.config)) (CompileOf q) = subst (λ (s : State). n.keys ≡ keys_of (setup (config_of s.config)) (CompileOf q)) (sym is) keys in
    subst (λ (s : State). MovesTo s n (Keyed first client step) o.told (with_dist o.world d)) is (keyed_of o n q first client step answer d k gets steps)

told_of : (o : State) (n : Need) (info : DistInfo) (d : Contained) → GetsStatus o.world.moment (contained_in o) info d → MovesTo o n (Began DistStatus (TellsDist info)) o.told (with_dist o.world d)
told_of o n info d gets =
    let e = gets.0 in
    let renews = gets.1 in
    let same = gets.3 in
    let whole : scheduler e ≡ scheduler (contained_in o) = ap scheduler renews.1 in
    let before : e.client_faults ≡ o.world.dist_faults = ap (λ c. c.client_faults) renews.1 in
    let stands : d.state ≡ e.state = ap (λ c. c.state) same in
    let told : Tells_status (scheduler (contained_in o)) o.world.moment e.state info o.world.dist_faults d.client_faults =
    subst (λ (f : ℕ). Tells_status (scheduler (contained_in o)) o.world.moment e.state info f d.client_faults) before (subst (λ (s : Scheduler). Tells_status s o.world.moment e.state info e.client_faults d.client_faults) whole gets.2) in (
      refl,
      record {
        moment = refl;
        levels = λ _. refl;
        shop = (refl, refl, refl);
        dist = (
          subst (λ (c : Container). Renews o.world.moment o.world.container c) (sym (ap container_of same)) renews.0,
          subst (λ (c : DistClientState). Tells_status (scheduler (contained_in o)) o.world.moment c info o.world.dist_faults d.client_faults) (sym stands) told,
          ap (λ c. c.jobs) same ∙ ap (λ c. c.jobs) renews.1,
        );
      },
    )

-- it was told where the client stands
pub told : (o now : State) (n : Need) (info : DistInfo) (d : Contained) → o ≡ now → GetsStatus o.world.moment (contained_in o) info d → MovesTo now n (Began DistStatus (TellsDist info)) o.told (with_dist o.world d)
told o now n info d is gets = subst (λ (s : State). MovesTo s n (Began DistStatus (TellsDist info)) o.told (with_dist o.world d)) is (told_of o n info d gets)

distributed_of : (o : State) (n : Need) (a : DistAnswer) (d : Contained) → d ≡ record (contained_in o) { jobs = and_one o.world.dists (n.key, a); client_faults = d.client_faults } → o.world.dist_faults ≤ d.client_faults
    → DistCause a o.world.dist_faults d.client_faults → IfTold (told_dist o.config.dist.lines n.key o.world.dists n.wanted) (λ b. a ≡ b) → MovesTo o n (Dist a) o.told (with_dist o.world d)
distributed_of o n a d same later cause answer =
    (refl, record { moment = refl; levels = λ told. refl; shop = (refl, refl, refl); dist = (ap container_of same, later, cause, answer, ap (λ c. c.jobs) same) })

-- a job was compiled elsewhere, or wasn't
pub distributed : (o now : State) (n : Need) (key : List ℕ) (wanted : List FileObjectSource) (a : DistAnswer) (d : Contained) → o ≡ now → n.key ≡ key → n.wanted ≡ wanted
    → d ≡ record (contained_in o) { jobs = and_one o.world.dists (key, a); client_faults = d.client_faults } → o.world.dist_faults ≤ d.client_faults → DistCause a o.world.dist_faults d.client_faults
    → IfTold (told_dist o.config.dist.lines key o.world.dists wanted) (λ b. a ≡ b) → MovesTo now n (Dist a) o.told (with_dist o.world d)
distributed o now n key wanted a d is keyed wants same later cause answer =
    let s : d ≡ record (contained_in o) { jobs = and_one o.world.dists (n.key, a); client_faults = d.client_faults } = subst (λ (k : List ℕ). d ≡ record (contained_in o) { jobs = and_one o.world.dists (k, a); client_faults = d.client_faults }) (sym keyed) same in
    let b : IfTold (told_dist o.config.dist.lines n.key o.world.dists n.wanted) (λ b. a ≡ b) = rw (keyed, wants) answer in
    subst (λ (t : State). MovesTo t n (Dist a) o.told (with_dist o.world d)) is (distributed_of o n a d s later cause b)

-- what was compiled elsewhere can be stored
pub good_dist : (a : DistAnswer) → is_good_dist a ≡ true → GoodDist a
good_dist (Done server out) e = good_answer (Output out) e
good_dist (HttpAnswer text) e = tt
good_dist (TooLarge text) e = tt
good_dist (Other text) e = tt

reset_of : (o : State) (n : Need) (task : Task) (d : Contained) → d ≡ record (contained_in o) { state = reset o.world.moment o.world.container.state } → MovesTo o n (Outcome Http task) o.told (with_dist o.world d)
reset_of o n task d same =
    (refl, record { moment = refl; levels = λ told. refl; shop = (refl, refl, refl); dist = (ap container_of same, (ap (λ c. c.jobs) same, ap (λ c. c.client_faults) same)) })

-- a server refused a job, so the client is made anew at its next use
pub reset_state : (o now : State) (n : Need) (task : Task) (d : Contained) → o ≡ now → d ≡ record (contained_in o) { state = reset o.world.moment o.world.container.state } → MovesTo now n (Outcome Http task) o.told (with_dist o.world d)
reset_state o now n task d is same = subst (λ (s : State). MovesTo s n (Outcome Http task) o.told (with_dist o.world d)) is (reset_of o n task d same)
