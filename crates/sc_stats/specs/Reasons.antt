-- Why a request could not be cached.
use Rattle.std.specs.Prelude.{ℕ, Bool, true, false, ◌&&◌, not, List, ◌++◌, Option, Some, None, bytes_eq, codes}
use Rattle.sc_entry.specs.Tally.{counted}
use Rattle.sc_stats.specs.Sums.{sat}
use Rattle.sc_stats.specs.declared.counters.ServerStats.{ServerStats}

abbrev pub with_extra : Bool → List ℕ → List ℕ → List ℕ
with_extra true why extra = codes "crate-type (" ++ extra ++ codes ")"
with_extra false why extra = why

-- a crate type is named with its kind, where one was passed
abbrev pub reason : List ℕ → Option (List ℕ) → List ℕ
reason why None = why
reason why (Some extra) = with_extra (bytes_eq why (codes "crate-type") && not (bytes_eq extra (codes "no crate-type passed"))) why extra

-- one request more that could not be cached, for a reason
abbrev pub not_cacheable : ServerStats → List ℕ → ServerStats
not_cacheable s text = record s { requests_not_cacheable = sat s.requests_not_cacheable 1; not_cached = counted s.not_cached text 1 }
