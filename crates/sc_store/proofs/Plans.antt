-- The levels that a write goes to, found one after the other.
use Rattle.std.proofs.Common.{◌≡◌, ℕ, zero, suc, List, [], ◌∷◌, take, refl, ap, subst, sym, ◌∙◌}
use Rattle.sc_model.specs.Plan.{plan, pre_plan}
use Rattle.sc_model.specs.declared.level.LevelFacts.{LevelFacts}
use Rattle.sc_model.specs.declared.level.LevelPolicy.{LevelPolicy}
use Rattle.sc_model.specs.declared.level.Policy.{Policy}
use Rattle.sc_model.specs.declared.level.Policy.TheVariants.{Levels as Policies, Single}
use Rattle.sc_store.specs.Held.{Held}
use Rattle.sc_store.specs.Levels.{held_level, held_levels}
use Rattle.sc_store.specs.Planning.{facts_of, planned as planned_for}
use Rattle.sc_store.specs.declared.level.Level.{Level}
use Rattle.sc_store.specs.declared.planning.Takes.TheVariants.{Any, Required}

pub facts_take : {R : Type 0} {D : Type 0} {V : Type 0} (n : ℕ) (levels : List (Level R D V)) → facts_of (take n levels) ≡ take n (facts_of levels)
facts_take zero [] = refl
facts_take zero (l ∷ ls) = refl
facts_take (suc n) [] = refl
facts_take (suc n) (l ∷ ls) = ap (λ fs. (held_level l).facts ∷ fs) (facts_take n ls)

-- of the levels of some writes
pub plan_by : (p : Policy) (fs : List LevelFacts) → planned_for Required p fs ≡ plan p fs
plan_by Single fs = refl
plan_by (Policies ps) fs = refl

pub pre_plan_by : (p : Policy) (fs : List LevelFacts) → planned_for Any p fs ≡ pre_plan p fs
pre_plan_by Single fs = refl
pre_plan_by (Policies ps) fs = refl

module _ {R : Type 0} {D : Type 0} {V : Type 0} where
  facts_are : (levels : List (Level R D V)) (policy : Policy) → (held_levels levels policy).facts ≡ facts_of levels
  facts_are [] policy = refl
  facts_are (l ∷ ls) policy = ap (λ fs. (held_level l).facts ∷ fs) (facts_are ls policy)

  -- what is found of the levels, as the definitions say it of what contracts see of them
  pub planned : (find : List LevelPolicy → List LevelFacts → List ℕ) (by_policy : Policy → List LevelFacts → List ℕ) → ((ps : List LevelPolicy) (fs : List LevelFacts) → by_policy (Policies ps) fs ≡ find ps fs)
      → (now : Held) (levels : List (Level R D V)) (policy : Policy) (ps : List LevelPolicy) (found : List ℕ) → held_levels levels policy ≡ now → policy ≡ Policies ps → found ≡ find ps (facts_of levels) → found ≡ by_policy now.policy now.facts
  planned find by_policy same now levels policy ps found at is e =
      subst (λ (h : Held). found ≡ by_policy h.policy h.facts) at
      (e ∙ ap (find ps) (sym (facts_are levels policy)) ∙ sym (same ps (held_levels levels policy).facts) ∙ ap (λ (p : Policy). by_policy p (held_levels levels policy).facts) (sym is))
