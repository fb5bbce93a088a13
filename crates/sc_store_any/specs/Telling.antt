-- What any store tells to statistics.
use Rattle.std.specs.Prelude.{◌≡◌, ◌⊎◌, ℕ, zero, suc, Option, true, refl}
use Rattle.std.proofs.Common.{ap, inl, inr}
use Rattle.std.specs.Coded.{Coded, code_by, coded×, coded⊎, coded_ℕ, coded_option}
use Rattle.sc_stats.specs.Store.{Facts}
use Rattle.sc_store_alone.specs.Storages.{Alone, Layered, State, Wrapped, basedirs_in, flag_of, levels_of, location_of, max_of, size_of, tells}
use Rattle.sc_store_alone.specs.Stores.{Multilevel, multilevel_code}
use Rattle.sc_store.specs.Held.{HeldLevel, held_level_code}

-- a store, with a size that it told
pub record Told : Type 0 where
  pub store : State
  pub current_size : Option ℕ

-- it is the store's own, where the store tells
abbrev pub IsTold : Option ℕ → State → Type 0
IsTold size s = tells s ≡ true → size ≡ size_of s

-- its facts, with that size
abbrev pub told_facts : Told → Facts
told_facts t = record {
  location = location_of t.store;
  current_size = t.current_size;
  max_size = max_of t.store;
  levels = levels_of t.store;
  use_preprocessor_cache_mode = flag_of t.store;
  basedirs = basedirs_in t.store;
}

-- codes, by which proofs tell values apart

-- how many wrappers stand about a store, and what is in them
abbrev pub layers : State → ℕ × (HeldLevel ⊎ Multilevel)
layers (Alone l) = (0, inl l)
layers (Layered m) = (0, inr m)
layers (Wrapped s) = let inner = layers s in (suc inner.0, inner.1)

abbrev pub bare : HeldLevel ⊎ Multilevel → State
bare (inl l) = Alone l
bare (inr m) = Layered m

abbrev pub wrapped : ℕ → State → State
wrapped zero s = s
wrapped (suc n) s = Wrapped (wrapped n s)

pub layers_again : (s : State) → wrapped (layers s).0 (bare (layers s).1) ≡ s
layers_again (Alone l) = refl
layers_again (Layered m) = refl
layers_again (Wrapped s) = ap Wrapped (layers_again s)

abbrev pub state_code : Coded State
state_code = code_by (ℕ × (HeldLevel ⊎ Multilevel)) (coded× coded_ℕ (coded⊎ held_level_code multilevel_code)) layers (λ n. wrapped n.0 (bare n.1)) layers_again

abbrev pub told_code : Coded Told
told_code = code_by (State × Option ℕ) (coded× state_code (coded_option coded_ℕ)) (λ t. (t.store, t.current_size)) (λ p. record { store = p.0; current_size = p.1 }) (λ _. refl)
