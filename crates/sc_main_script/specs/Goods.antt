-- What holds of all that good scripts say.
use Rattle.std.specs.Prelude.{◌≡◌, ℕ, ◌≤◌, Bool, true, ◌&&◌, List, [], ◌∷◌, length}
use Rattle.sc_model.specs.GoodNames.{is_chain, is_good_answer}
use Rattle.sc_compile_dist.specs.GoodJobs.{is_good_dist}
use Rattle.sc_entry.specs.Keys.{is_store_key}
use Rattle.sc_model.specs.declared.level.Policy.TheVariants.{Single}
use Rattle.sc_main_script.specs.declared.job_rule.JobRule.{JobRule}
use Rattle.sc_main_script.specs.declared.level_rule.LevelRule.{LevelRule}
use Rattle.sc_main_script.specs.declared.place_rule.PlaceRule.{PlaceRule}
use Rattle.sc_main_script.specs.declared.run_rule.RunRule.{RunRule}
use Rattle.sc_main_script.specs.declared.script.Script.{Script}

-- every key that is held is a store key
abbrev pub are_store_keys : List (List ℕ × List ℕ) → Bool
are_store_keys [] = true
are_store_keys (h ∷ holds) = is_store_key h.0 && are_store_keys holds

-- every level holds store keys alone
abbrev pub is_good_level : LevelRule → Bool
is_good_level r = are_store_keys r.holds

abbrev pub are_good_levels : List LevelRule → Bool
are_good_levels [] = true
are_good_levels (r ∷ rules) = is_good_level r && are_good_levels rules

-- a workshop may give every answer
abbrev pub are_good_runs : List RunRule → Bool
are_good_runs [] = true
are_good_runs (r ∷ runs) = is_good_answer r.answer && are_good_runs runs

-- so may it every fault of a placing
abbrev pub are_good_places : List PlaceRule → Bool
are_good_places [] = true
are_good_places (r ∷ places) = is_chain r.chain && are_good_places places

-- and a distributed client every answer
abbrev pub are_good_jobs : List JobRule → Bool
are_good_jobs [] = true
are_good_jobs (r ∷ jobs) = is_good_dist r.answer && are_good_jobs jobs

-- A daemon can be made of it.
pub record IsGood (s : Script) : Type 0 where
  pub some_tokens : 1 ≤ s.tokens
  pub few_tokens : s.tokens ≤ 65535
  pub some_limit : 1 ≤ s.limit
  pub small_limit : s.limit ≤ 16777216
  pub levels : are_good_levels s.levels ≡ true
  pub few_levels : length s.levels ≤ 16
  pub one_level : s.policy ≡ Single → length s.levels ≡ 1
  pub answers : are_good_runs s.runs ≡ true
  pub places : are_good_places s.places ≡ true
  pub jobs : are_good_jobs s.jobs ≡ true
