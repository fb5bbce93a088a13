-- A check of levels, level by level.
use Rattle.std.proofs.Common.{◌≡◌, ℕ, suc, ◌-◌, ◌<◌, arith, subst, sym, ◌∙◌}
use Rattle.sc_entry.specs.declared.cache_mode.CacheMode.{CacheMode}
use Rattle.sc_store_alone.specs.Checks.{ChecksFrom, GoesOn, Stays, TakesTurn, policy_at}
use Rattle.sc_store_alone.specs.declared.step.Step.{Step}
use Rattle.sc_store.specs.Held.{Held}
use Rattle.sc_store.specs.declared.checked.Checked.{Checked}

pub one_less : (count l : ℕ) → l < count → count - l ≡ suc (count - suc l)
one_less count l h = omega (arith, h)

-- a turn before those that are left
pub turn : (count l next : ℕ) (mode : CacheMode) (step is : Step) (answer : Checked) (old between new : Held) → l < count → next ≡ suc l → step ≡ is → TakesTurn (policy_at old.policy l) l mode step old between
    → GoesOn is answer between new (λ m. ChecksFrom (count - next) next m answer between new) → ChecksFrom (count - l) l mode answer old new
turn count l next mode step is answer old between new h after same takes goes =
    let rest : GoesOn is answer between new (λ m. ChecksFrom (count - suc l) (suc l) m answer between new) = subst (λ (n : ℕ). GoesOn is answer between new (λ m. ChecksFrom (count - n) n m answer between new)) after goes in
    subst (λ (n : ℕ). ChecksFrom n l mode answer old new) (sym (one_less count l h)) (is, between, subst (λ (s : Step). TakesTurn (policy_at old.policy l) l mode s old between) same takes, rest)

pub stays_then : (a b c : Held) → Stays a b → Stays b c → Stays a c
stays_then a b c s t = record { titles = t.titles ∙ s.titles; policy = t.policy ∙ s.policy; told = t.told ∙ s.told; rooms = t.rooms ∙ s.rooms; marks = t.marks ∙ s.marks; count = t.count ∙ s.count }
