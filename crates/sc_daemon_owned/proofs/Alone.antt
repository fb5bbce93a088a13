-- One disk store that stands alone.
use Rattle.std.proofs.Common.{◌≡◌, ◌<◌, ◌&&◌, ℕ, arith, Bool, true, false, not, List, [], ◌∷◌, length, refl}
use Rattle.sc_model.specs.Dues.{is_disk_alone}
use Rattle.sc_model.specs.Plan.{is_disk, level_facts}
use Rattle.sc_model.specs.Script.{is_single}
use Rattle.sc_model.specs.declared.level.LevelFacts.{LevelFacts}
use Rattle.sc_model.specs.declared.level.Policy.{Policy}
use Rattle.sc_model.specs.declared.level.Policy.TheVariants.{Levels, Single}

-- it is the first level
pub first_alone : (p : Policy) (fs : List LevelFacts) (b : Bool) → is_single p ≡ true → 0 < length fs → b ≡ (is_disk (level_facts fs 0).kind && not (level_facts fs 0).wrapped) → b ≡ is_disk_alone p fs
first_alone Single [] b single there is = absurd (omega arith)
first_alone Single (f ∷ fs) b single there is = is
first_alone (Levels ps) fs b single there is = absurd (cc)

-- levels are no store that stands alone, and no level is none
pub many_alone : (p : Policy) (fs : List LevelFacts) → is_single p ≡ false → false ≡ is_disk_alone p fs
many_alone Single fs single = absurd (cc)
many_alone (Levels ps) fs single = refl

pub none_alone : (p : Policy) (fs : List LevelFacts) → length fs ≡ 0 → false ≡ is_disk_alone p fs
none_alone Single [] none = refl
none_alone Single (f ∷ fs) none = absurd (cc)
none_alone (Levels ps) fs none = refl
