-- A maker in memory, by its answer and its count.
use Rattle.std.proofs.Common.{◌≡◌, ◌≤◌, ℕ, Bool, true, false}
use Rattle.sc_compile_dist.specs.Makings.{is_made}
use Rattle.sc_entry.specs.Causes.{Rose}
use Rattle.sc_model.specs.Containers.{MakerCause}
use Rattle.sc_model.specs.declared.level.Making.{Making}
use Rattle.sc_model.specs.declared.level.Making.TheVariants.{Made, NoToken, Unreachable}

never : {A : Type 0} → false ≡ true → A
never e = absurd (cc)

-- a client that is made
pub makes_one : (f g : ℕ) (m : Making) → is_made m ≡ true → f ≤ g → MakerCause m f g
makes_one f g Made made later = later
makes_one f g Unreachable made later = never made
makes_one f g (NoToken text) made later = never made

-- one that isn't, which is counted
pub makes_none : (f g : ℕ) (m : Making) → is_made m ≡ false → Rose f g → f ≤ g → MakerCause m f g
makes_none f g Made lost rose later = later
makes_none f g Unreachable lost rose later = (rose, later)
makes_none f g (NoToken text) lost rose later = (rose, later)
