-- Levels as one store: what the levels hold, what they count, and their base directories.
use Rattle.std.specs.Prelude.{◌≡◌, ◌≢◌, ℕ, List, [], Option, Some, None, Result, Ok, refl}
use Rattle.std.specs.Coded.{Coded, code_by, coded×, coded_ℕ, coded_list}
use Rattle.sc_stats.specs.declared.counters.LevelStats.{LevelStats}
use Rattle.sc_stats.specs.contracts.counters.LevelStats as stats_type
use Rattle.sc_store_alone.specs.Moving.{Counted, counted}
use Rattle.sc_store.specs.Basedirs.{basedirs_of}
use Rattle.sc_store.specs.Held.{Held, held_code}
use Rattle.sc_store.specs.Telling.{new_counters}

pub record Multilevel : Type 0 where
  pub held : Held
  pub counters : List LevelStats
  pub basedirs : List (List ℕ)

abbrev pub multilevel_of : Held → List LevelStats → List (List ℕ) → Multilevel
multilevel_of held counters basedirs = record { held = held; counters = counters; basedirs = basedirs }

abbrev pub multilevel_code : Coded Multilevel
multilevel_code = code_by (Held × (List LevelStats × List (List ℕ)))
    (coded× held_code (coded× (coded_list stats_type.the_row.coded) (coded_list (coded_list coded_ℕ))))
    (λ m. (m.held, (m.counters, m.basedirs)))
    (λ p. record { held = p.0; counters = p.1.0; basedirs = p.1.1 })
    (λ _. refl)

-- what lookups and puts move of it
abbrev pub counted_of : Multilevel → Counted
counted_of m = counted m.held m.counters

-- These levels as one store, of which nothing is counted yet.
pub record IsNew (levels : Held) (m : Multilevel) : Type 0 where
  pub held : m.held ≡ levels
  pub counters : m.counters ≡ new_counters 0 levels.titles
  pub basedirs : m.basedirs ≡ basedirs_of levels.titles

-- The store of a chain's levels; without a chain there is none.
abbrev pub IsChain : List (List ℕ) → Result Held (List ℕ) → Option Multilevel → Type 0
IsChain chain made None = chain ≡ []
IsChain chain made (Some m) = (chain ≢ []) × ((levels : Held) × (made ≡ Ok levels) × IsNew levels m)
