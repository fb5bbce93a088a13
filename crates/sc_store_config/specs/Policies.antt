-- The policies of a chain's levels.
use Rattle.std.specs.Prelude.{ℕ, List, [], ◌∷◌, Option, Some, None, replicate}
use Rattle.sc_model.specs.declared.level.LevelPolicy.{LevelPolicy}
use Rattle.sc_model.specs.declared.level.LevelPolicy.TheVariants.{Background, Required}
use Rattle.sc_store_config.specs.declared.write_error_policy.WriteErrorPolicy.{WriteErrorPolicy}
use Rattle.sc_store_config.specs.declared.write_error_policy.WriteErrorPolicy.TheVariants.{All, Ignore, L0}

-- the first level has to be written
abbrev pub first_required : List LevelPolicy → List LevelPolicy
first_required [] = []
first_required (p ∷ ps) = Required ∷ ps

-- the policies of so many levels, by a setting
abbrev pub setting_policies : WriteErrorPolicy → ℕ → List LevelPolicy
setting_policies Ignore levels = replicate levels Background
setting_policies L0 levels = first_required (replicate levels Background)
setting_policies All levels = replicate levels Required

-- those that are given hold; without them the setting does
abbrev pub chain_policies : Option (List LevelPolicy) → WriteErrorPolicy → ℕ → List LevelPolicy
chain_policies (Some ps) setting levels = ps
chain_policies None setting levels = setting_policies setting levels
