-- Where writes go, there are levels.
use Rattle.std.proofs.Common.{◌≡◌, ℕ, Bool, false, List, length, arith, subst, sym}
use Rattle.sc_model.proofs.There.{levels_there}
use Rattle.sc_model.specs.Plan.{is_required, levels_of, plan, pre_plan, takes_writes}
use Rattle.sc_model.specs.Script.{is_single}
use Rattle.sc_model.specs.There.{AreLevels}
use Rattle.sc_model.specs.declared.level.LevelFacts.{LevelFacts}
use Rattle.sc_model.specs.declared.level.LevelPolicy.{LevelPolicy}
use Rattle.sc_model.specs.declared.level.Policy.{Policy}
use Rattle.sc_model.specs.declared.level.Policy.TheVariants.{Levels, Single}

found_there : (test : LevelPolicy → Bool) (ps : List LevelPolicy) (fs : List LevelFacts) (ls : List ℕ) (n : ℕ) → ls ≡ levels_of test 0 ps fs → length fs ≡ n → AreLevels n ls
found_there test ps fs ls n is count = subst (λ (k : ℕ). AreLevels k ls) count (subst (λ (x : List ℕ). AreLevels (length fs) x) (sym is) (levels_there test 0 (length fs) ps fs (omega arith)))

pub plan_there : (p : Policy) (fs : List LevelFacts) (ls : List ℕ) (n : ℕ) → is_single p ≡ false → ls ≡ plan p fs → length fs ≡ n → AreLevels n ls
plan_there Single fs ls n many is count = absurd (cc)
plan_there (Levels ps) fs ls n many is count = found_there is_required ps fs ls n is count

pub pre_plan_there : (p : Policy) (fs : List LevelFacts) (ls : List ℕ) (n : ℕ) → is_single p ≡ false → ls ≡ pre_plan p fs → length fs ≡ n → AreLevels n ls
pre_plan_there Single fs ls n many is count = absurd (cc)
pre_plan_there (Levels ps) fs ls n many is count = found_there takes_writes ps fs ls n is count
