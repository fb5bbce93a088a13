-- What a state is made of stays by what its parts did.
use Rattle.std.proofs.Common.{◌≡◌, ℕ, List, Option, ap, ◌∙◌}
use Rattle.sc_compile.specs.declared.key_line.KeyLine.{KeyLine}
use Rattle.sc_compile.specs.declared.place_line.PlaceLine.{PlaceLine}
use Rattle.sc_compile.specs.declared.run_line.RunLine.{RunLine}
use Rattle.sc_compile.specs.declared.tool.Tool.{Tool}
use Rattle.sc_compile_dist.specs.Containers.{Contained, GetsClient, GetsStatus}
use Rattle.sc_compile_dist.specs.declared.container.ClientAnswer.{ClientAnswer}
use Rattle.sc_daemon_owned.specs.Facts.{DaemonFacts}
use Rattle.sc_daemon_owned.specs.State.{State, facts_of, told_by}
use Rattle.sc_stats.specs.declared.counters.DistInfo.{DistInfo}
use Rattle.sc_store.specs.Basedirs.{first_flag, store_basedirs}
use Rattle.sc_store.specs.Held.{Held}
use Rattle.sc_store.specs.Telling.{new_counters, store_location, store_max, store_type}

-- levels that tell the same of themselves, and parts that tell the same lines, make the same daemon
pub facts_stay : (a b : Held) (tokens limit : ℕ) (table : Option (List Tool)) (keys : Option (List KeyLine)) (lines lines2 : Option (List RunLine)) (refusals refusals2 : Option (List PlaceLine)) (d d2 : Contained)
    → b.titles ≡ a.titles → b.facts ≡ a.facts → b.policy ≡ a.policy → lines2 ≡ lines → refusals2 ≡ refusals → told_by d2 ≡ told_by d
    → facts_of b tokens limit table keys lines2 refusals2 d2 ≡ facts_of a tokens limit table keys lines refusals d
facts_stay a b tokens limit table keys lines lines2 refusals refusals2 d d2 titles facts policy same_lines same_refusals same_dist = λ i. record {
  store = record { location = store_location (policy i) (titles i); type_name = store_type (policy i) (titles i); basedirs = store_basedirs (policy i) (titles i); flag = first_flag (titles i); max_size = store_max (policy i) (facts i) };
  counters = new_counters 0 (titles i);
  levels = facts i;
  policy = policy i;
  tokens = tokens;
  limit = limit;
  table = table;
  keys = keys;
  lines = same_lines i;
  refusals = same_refusals i;
  dist = same_dist i;
}

-- the same, of the state as it was
pub config_stays : (o now : State) (f : DaemonFacts) → o ≡ now → f ≡ o.config → f ≡ now.config
config_stays o now f is same = same ∙ ap (λ (s : State). s.config) is

pub told_client : (moment : ℕ) (c d : Contained) (answer : ClientAnswer) → GetsClient moment c answer d → told_by d ≡ told_by c
told_client moment c d answer gets = ap told_by gets.3 ∙ ap told_by gets.1.1

pub told_status : (moment : ℕ) (c d : Contained) (info : DistInfo) → GetsStatus moment c info d → told_by d ≡ told_by c
told_status moment c d info gets = ap told_by gets.3 ∙ ap told_by gets.1.1
