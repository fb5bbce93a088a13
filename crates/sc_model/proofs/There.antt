-- The levels that writes go to are there.
use Rattle.std.proofs.Common.{◌≡◌, ℕ, zero, suc, ◌+◌, ◌<◌, ◌≤◌, Bool, true, false, ◌&&◌, not, if◌then◌else◌, List, [], ◌∷◌, length, take, arith, subst, sym}
use Rattle.sc_model.specs.Plan.{backfilled, backfills, background, first_policy, hand_to, handed_by, is_background, levels_of, reads_only, rest_policies, takes_writes}
use Rattle.sc_model.specs.There.{AreHanded, AreLevels}
use Rattle.sc_model.specs.declared.event.Answer.{Answer}
use Rattle.sc_model.specs.declared.event.Answer.TheVariants.{Found, Hit, Miss, Refused, Size}
use Rattle.sc_model.specs.declared.event.Mode.{Mode}
use Rattle.sc_model.specs.declared.event.Mode.TheVariants.{Path, Pre, Raw, Size as Sizes, Whole}
use Rattle.sc_model.specs.declared.level.Handed.{Handed}
use Rattle.sc_model.specs.declared.level.LevelFacts.{LevelFacts}
use Rattle.sc_model.specs.declared.level.LevelPolicy.{LevelPolicy}
use Rattle.sc_model.specs.declared.level.Policy.{Policy}
use Rattle.sc_model.specs.declared.level.Policy.TheVariants.{Levels, Single}
use Rattle.sc_model.specs.declared.phase.Bytes.{Bytes}
use Rattle.sc_model.specs.declared.phase.Refusal.{Refusal}
use Rattle.sc_model.specs.declared.phase.Refusal.TheVariants.{At, NoneYet}

there_if : (taken : Bool) (n k : ℕ) (ls : List ℕ) → n < k → AreLevels k ls → AreLevels k (if taken then n ∷ ls else ls)
there_if true n k ls here rest = (here, rest)
there_if false n k ls here rest = rest

pub levels_there : (test : LevelPolicy → Bool) (n k : ℕ) (ps : List LevelPolicy) (fs : List LevelFacts) → n + length fs ≤ k → AreLevels k (levels_of test n ps fs)
levels_there test n k ps [] e = tt
levels_there test n k ps (f ∷ fs) e = there_if (not (reads_only f.mode) && test (first_policy ps)) n k (levels_of test (suc n) (rest_policies ps) fs) (omega arith) (levels_there test (suc n) k (rest_policies ps) fs (omega arith))

hand_there : (b : Bytes) (k : ℕ) (ls : List ℕ) → AreLevels k ls → AreHanded k (hand_to b ls)
hand_there b k [] there = tt
hand_there b k (l ∷ ls) there = (there.0, hand_there b k ls there.1)

shorter : (i : ℕ) (fs : List LevelFacts) → length (take i fs) ≤ length fs
shorter zero [] = omega arith
shorter zero (f ∷ fs) = omega arith
shorter (suc i) [] = omega arith
shorter (suc i) (f ∷ fs) = let h = shorter i fs in omega (arith, h)

background_there : (p : Policy) (fs : List LevelFacts) → AreLevels (length fs) (background p fs)
background_there Single fs = tt
background_there (Levels ps) fs = levels_there is_background 0 (length fs) ps fs (omega arith)

backfilled_there : (p : Policy) (fs : List LevelFacts) (i : ℕ) → AreLevels (length fs) (backfilled p fs i)
backfilled_there Single fs i = tt
backfilled_there (Levels ps) fs i = let h = shorter i fs in levels_there takes_writes 0 (length fs) ps (take i fs) (omega (arith, h))

handed_by_there : (p : Policy) (fs : List LevelFacts) (b : Bytes) (r : Refusal) → AreHanded (length fs) (handed_by p fs b r)
handed_by_there p fs b NoneYet = hand_there b (length fs) (background p fs) (background_there p fs)
handed_by_there p fs b (At zero c) = tt
handed_by_there p fs b (At (suc l) c) = hand_there b (length fs) (background p fs) (background_there p fs)

backfills_are : (p : Policy) (fs : List LevelFacts) (l : ℕ) (k : List ℕ) (mode : Mode) (a : Answer) → AreHanded (length fs) (backfills p fs l k mode a)
backfills_are p fs l k Whole (Hit b m) = hand_there (record { key = k; bytes = b; run = m }) (length fs) (backfilled p fs l) (backfilled_there p fs l)
backfills_are p fs l k Raw (Hit b m) = hand_there (record { key = k; bytes = b; run = m }) (length fs) (backfilled p fs l) (backfilled_there p fs l)
backfills_are p fs l k Path (Hit b m) = tt
backfills_are p fs l k Pre (Hit b m) = tt
backfills_are p fs l k Sizes (Hit b m) = tt
backfills_are p fs l k Whole Miss = tt
backfills_are p fs l k Raw Miss = tt
backfills_are p fs l k Path Miss = tt
backfills_are p fs l k Pre Miss = tt
backfills_are p fs l k Sizes Miss = tt
backfills_are p fs l k Whole (Refused c) = tt
backfills_are p fs l k Raw (Refused c) = tt
backfills_are p fs l k Path (Refused c) = tt
backfills_are p fs l k Pre (Refused c) = tt
backfills_are p fs l k Sizes (Refused c) = tt
backfills_are p fs l k Whole (Found x) = tt
backfills_are p fs l k Raw (Found x) = tt
backfills_are p fs l k Path (Found x) = tt
backfills_are p fs l k Pre (Found x) = tt
backfills_are p fs l k Sizes (Found x) = tt
backfills_are p fs l k Whole (Size n c) = tt
backfills_are p fs l k Raw (Size n c) = tt
backfills_are p fs l k Path (Size n c) = tt
backfills_are p fs l k Pre (Size n c) = tt
backfills_are p fs l k Sizes (Size n c) = tt

-- what a put or a hit hands on
pub put_there : (p : Policy) (fs : List LevelFacts) (b : Bytes) (r : Refusal) (hs : List Handed) → hs ≡ handed_by p fs b r → AreHanded (length fs) hs
put_there p fs b r hs e = subst (AreHanded (length fs)) (sym e) (handed_by_there p fs b r)

pub hit_there : (p : Policy) (fs : List LevelFacts) (l : ℕ) (k : List ℕ) (mode : Mode) (a : Answer) (hs : List Handed) → hs ≡ backfills p fs l k mode a → AreHanded (length fs) hs
hit_there p fs l k mode a hs e = subst (AreHanded (length fs)) (sym e) (backfills_are p fs l k mode a)
