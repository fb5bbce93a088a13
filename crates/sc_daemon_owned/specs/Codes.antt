-- Codes, by which proofs tell states apart.
use Rattle.std.specs.Prelude.{◌≡◌, ℕ, Bool, true, List, Option, refl}
use Rattle.std.proofs.Common.{ap}
use Rattle.std.specs.Coded.{Coded, Coded-set, code_by, coded×, coded_bool, coded_ℕ, coded_list, coded_option}
use Rattle.sc_compile.specs.contracts.key_line.KeyLine as key_type
use Rattle.sc_compile.specs.contracts.place_line.PlaceLine as refusal_type
use Rattle.sc_compile.specs.contracts.run_line.RunLine as line_type
use Rattle.sc_compile.specs.contracts.tool.Tool as tool_type
use Rattle.sc_compile.specs.declared.key_line.KeyLine.{KeyLine}
use Rattle.sc_compile.specs.declared.place_line.PlaceLine.{PlaceLine}
use Rattle.sc_compile.specs.declared.run_line.RunLine.{RunLine}
use Rattle.sc_compile.specs.declared.tool.Tool.{Tool}
use Rattle.sc_compile_dist.specs.contracts.dist_line.DistLine as job_type
use Rattle.sc_compile_dist.specs.declared.dist_line.DistLine.{DistLine}
use Rattle.sc_entry.specs.contracts.object.FileObjectSource as output_type
use Rattle.sc_entry.specs.declared.object.FileObjectSource.{FileObjectSource}
use Rattle.sc_daemon_job.specs.Setups.{StoreTold}
use Rattle.sc_daemon_owned.specs.Facts.{DaemonFacts, DistTold}
use Rattle.sc_model.specs.Containers.{Container}
use Rattle.sc_model.specs.Levels.{Level}
use Rattle.sc_model.specs.World.{Place, World}
use Rattle.sc_model.specs.contracts.event.DistAnswer as dist_type
use Rattle.sc_model.specs.contracts.event.RunAnswer as answer_type
use Rattle.sc_model.specs.contracts.level.DistClientState as container_type
use Rattle.sc_model.specs.contracts.level.LevelFacts as facts_type
use Rattle.sc_model.specs.contracts.level.Making as making_type
use Rattle.sc_model.specs.contracts.level.Policy as policy_type
use Rattle.sc_model.specs.declared.event.DistAnswer.{DistAnswer}
use Rattle.sc_model.specs.declared.event.RunAnswer.{RunAnswer}
use Rattle.sc_model.specs.declared.level.DistClientState.{DistClientState}
use Rattle.sc_model.specs.declared.level.LevelFacts.{LevelFacts}
use Rattle.sc_model.specs.declared.level.Making.{Making}
use Rattle.sc_model.specs.declared.level.Policy.{Policy}
use Rattle.sc_daemon_owned.specs.State.{State, is_made}
use Rattle.sc_stats.specs.contracts.counters.DistInfo as info_type
use Rattle.sc_stats.specs.contracts.counters.LevelStats as counters_type
use Rattle.sc_stats.specs.declared.counters.DistInfo.{DistInfo}
use Rattle.sc_stats.specs.declared.counters.LevelStats.{LevelStats}
use Rattle.sc_store.specs.Held.{Room, level_code, room_code}
use base.Stored.{coded_via}
use mathlib.Core.HLevel.{Σ_prop_path}

abbrev pub told_code : Coded StoreTold
told_code = code_by (List ℕ × (List ℕ × (List (List ℕ) × (Bool × Option ℕ))))
    (coded× (coded_list coded_ℕ) (coded× (coded_list coded_ℕ) (coded× (coded_list (coded_list coded_ℕ)) (coded× coded_bool (coded_option coded_ℕ)))))
    (λ s. (s.location, (s.type_name, (s.basedirs, (s.flag, s.max_size)))))
    (λ p. record { location = p.0; type_name = p.1.0; basedirs = p.1.1.0; flag = p.1.1.1.0; max_size = p.1.1.1.1 })
    (λ _. refl)

abbrev pub dist_code : Coded DistTold
dist_code = code_by (Option (List ℕ) × (Option (Option DistInfo) × Option (List DistLine)))
    (coded× (coded_option (coded_list coded_ℕ)) (coded× (coded_option (coded_option info_type.the_row.coded)) (coded_option (coded_list job_type.the_row.coded))))
    (λ d. (d.url, (d.status, d.lines)))
    (λ p. record { url = p.0; status = p.1.0; lines = p.1.1 })
    (λ _. refl)

abbrev pub facts_code : Coded DaemonFacts
facts_code = code_by (StoreTold × (List LevelStats × (List LevelFacts × (Policy × (ℕ × (ℕ × (Option (List Tool) × (Option (List KeyLine) × (Option (List RunLine) × (Option (List PlaceLine) × DistTold))))))))))
    (coded× told_code (coded× (coded_list counters_type.the_row.coded) (coded× (coded_list facts_type.the_row.coded) (coded× policy_type.the_row.coded (coded× coded_ℕ (coded× coded_ℕ
    (coded× (coded_option (coded_list tool_type.the_row.coded)) (coded× (coded_option (coded_list key_type.the_row.coded)) (coded× (coded_option (coded_list line_type.the_row.coded)) (coded× (coded_option (coded_list refusal_type.the_row.coded)) dist_code))))))))))
    (λ c. (c.store, (c.counters, (c.levels, (c.policy, (c.tokens, (c.limit, (c.table, (c.keys, (c.lines, (c.refusals, c.dist)))))))))))
    (λ p. record { store = p.0; counters = p.1.0; levels = p.1.1.0; policy = p.1.1.1.0; tokens = p.1.1.1.1.0; limit = p.1.1.1.1.1.0; table = p.1.1.1.1.1.1.0; keys = p.1.1.1.1.1.1.1.0; lines = p.1.1.1.1.1.1.1.1.0; refusals = p.1.1.1.1.1.1.1.1.1.0; dist = p.1.1.1.1.1.1.1.1.1.1 })
    (λ _. refl)

abbrev pub place_code : Coded Place
place_code = code_by (List FileObjectSource × List ℕ)
    (coded× (coded_list output_type.the_row.coded) (coded_list coded_ℕ))
    (λ p. (p.outputs, p.bytes))
    (λ p. record { outputs = p.0; bytes = p.1 })
    (λ _. refl)

abbrev pub container_code : Coded Container
container_code = code_by (DistClientState × (ℕ × Option (List Making)))
    (coded× container_type.the_row.coded (coded× coded_ℕ (coded_option (coded_list making_type.the_row.coded))))
    (λ c. (c.state, (c.faults, c.makings)))
    (λ p. record { state = p.0; faults = p.1.0; makings = p.1.1 })
    (λ _. refl)

abbrev pub world_code : Coded World
world_code = code_by (ℕ × (List Level × (Option (List (List ℕ × RunAnswer)) × (Option (List Place) × (Option (List (List ℕ × DistAnswer)) × (ℕ × (ℕ × Container)))))))
    (coded× coded_ℕ (coded× (coded_list level_code) (coded× (coded_option (coded_list (coded× (coded_list coded_ℕ) answer_type.the_row.coded)))
    (coded× (coded_option (coded_list place_code)) (coded× (coded_option (coded_list (coded× (coded_list coded_ℕ) dist_type.the_row.coded)))
    (coded× coded_ℕ (coded× coded_ℕ container_code)))))))
    (λ w. (w.moment, (w.levels, (w.runs, (w.placings, (w.dists, (w.shop_faults, (w.dist_faults, w.container))))))))
    (λ p. record { moment = p.0; levels = p.1.0; runs = p.1.1.0; placings = p.1.1.1.0; dists = p.1.1.1.1.0; shop_faults = p.1.1.1.1.1.0; dist_faults = p.1.1.1.1.1.1.0; container = p.1.1.1.1.1.1.1 })
    (λ _. refl)

-- states that are made of the same and hold the same are one
pub same_state : (a b : State) → ◌≡◌ {A = DaemonFacts × (Bool × (World × List Room))} (a.config, (a.told, (a.world, a.rooms))) (b.config, (b.told, (b.world, b.rooms))) → a ≡ b
same_state a b same =
    let configs : ◌≡◌ {A = (c : DaemonFacts) × (is_made c.policy c.levels c.counters c.tokens c.limit ≡ true)} (a.config, a.one) (b.config, b.one) = Σ_prop_path (λ c. Coded-set coded_bool _ _) (ap (λ p. p.0) same) in
    λ i. record { config = (configs i).0; told = (same i).1.0; world = (same i).1.1.0; rooms = (same i).1.1.1; one = (configs i).1 }

abbrev pub state_code : Coded State
state_code = coded_via (coded× facts_code (coded× coded_bool (coded× world_code (coded_list room_code)))) (λ s. (s.config, (s.told, (s.world, s.rooms)))) same_state
