-- Rows as numbers: the fourteen scalar counters in the order of the wire, and how often all of them were set.
use Rattle.std.specs.Prelude.{ℕ, Bool, true, false, cond, List, [], ◌∷◌, ◌++◌}
use Rattle.sc_model.specs.Rows.{row}
use Rattle.sc_model.specs.Script.{Setup}
use Rattle.sc_model.specs.declared.event.What.{What}
use Rattle.sc_model.specs.declared.event.What.TheVariants.{Began}
use Rattle.sc_model.specs.declared.message.Request.{Request}
use Rattle.sc_model.specs.declared.message.Request.TheVariants.{RecordStats, ZeroStats}
use Rattle.sc_stats.specs.declared.counters.ServerStats.{ServerStats}

abbrev pub scalars : ServerStats → List ℕ
scalars s =
    s.compile_requests ∷ s.requests_unsupported_compiler ∷ s.requests_not_compile ∷ s.requests_not_cacheable ∷ s.requests_executed ∷ s.cache_timeouts ∷ s.cache_read_errors ∷ s.non_cacheable_compilations
    ∷ s.forced_recaches ∷ s.cache_write_errors ∷ s.cache_writes ∷ s.compilations ∷ s.compile_fails ∷ s.dist_errors ∷ []

-- a request that sets all: a zeroing, or a record
abbrev pub sets_all : What → Bool
sets_all (Began ZeroStats told) = true
sets_all (Began (RecordStats stats) told) = true
sets_all _ = false

-- what an event counts, as fifteen numbers
abbrev pub numbers : Setup → Request → ℕ → ℕ → What → List ℕ
numbers s r since m x = scalars (row s r since m x) ++ cond (sets_all x) 1 0 ∷ []

-- The row of an event of a compile that is done with no connection: it is no request.
abbrev pub direct_row : Setup → Request → ℕ → ℕ → What → ServerStats
direct_row s r since m x = record (row s r since m x) { compile_requests = 0 }
