-- What a store tells, as the definitions say it of what contracts see.
use Rattle.std.proofs.Common.{◌≡◌, List, [], ◌∷◌, refl, ap, ◌∙◌}
use Rattle.sc_model.specs.declared.level.LevelFacts.{LevelFacts}
use Rattle.sc_model.specs.declared.level.Policy.{Policy}
use Rattle.sc_store.specs.Held.{Held, Title}
use Rattle.sc_store.specs.Levels.{held_level, held_levels}
use Rattle.sc_store.specs.Planning.{facts_of}
use Rattle.sc_store.specs.Telling.{titles_of}
use Rattle.sc_store.specs.declared.level.Level.{Level}

module _ {R : Type 0} {D : Type 0} {V : Type 0} where
  titles_are : (levels : List (Level R D V)) (policy : Policy) → titles_of levels ≡ (held_levels levels policy).titles
  titles_are [] policy = refl
  titles_are (l ∷ ls) policy = ap (λ ts. (held_level l).title ∷ ts) (titles_are ls policy)

  facts_are : (levels : List (Level R D V)) (policy : Policy) → facts_of levels ≡ (held_levels levels policy).facts
  facts_are [] policy = refl
  facts_are (l ∷ ls) policy = ap (λ fs. (held_level l).facts ∷ fs) (facts_are ls policy)

  -- what is told of the titles
  pub by_titles : {A : Type 0} (tell : Policy → List Title → A) (now : Held) (levels : List (Level R D V)) (policy : Policy) → held_levels levels policy ≡ now → tell policy (titles_of levels) ≡ tell now.policy now.titles
  by_titles tell now levels policy at = ap (tell policy) (titles_are levels policy) ∙ ap (λ (h : Held). tell h.policy h.titles) at

  -- what is told of the facts
  pub by_facts : {A : Type 0} (tell : Policy → List LevelFacts → A) (now : Held) (levels : List (Level R D V)) (policy : Policy) → held_levels levels policy ≡ now → tell policy (facts_of levels) ≡ tell now.policy now.facts
  by_facts tell now levels policy at = ap (tell policy) (facts_are levels policy) ∙ ap (λ (h : Held). tell h.policy h.facts) at
