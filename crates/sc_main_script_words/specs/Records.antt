-- The counters that a request records, word by word.
use Rattle.std.specs.Prelude.{ℕ, List, [], ◌∷◌, Option, Some, None, if◌then◌else◌, codes, bytes_eq}
use Rattle.sc_stats.specs.Sums.{no_stats}
use Rattle.sc_stats.specs.declared.counters.ServerStats.{ServerStats}
use Rattle.sc_model.specs.declared.message.Request.{Request}
use Rattle.sc_model.specs.declared.message.Request.TheVariants.{RecordStats}
use Rattle.sc_words.specs.Words.{Reader, word}
use Rattle.sc_words.specs.Words.{◌>>=◌ as ◌then◌}
use Rattle.sc_words.specs.Readers.{◌>>=◌, gives, field}
use Rattle.sc_main_script_words.specs.Fields.{number_of}

-- the named counter at a number: a counter by language has no name here
unfoldable pub with_counter : List ℕ → ℕ → ServerStats → Option ServerStats
with_counter name n s =
    if bytes_eq name (codes "compile_requests") then Some (record s { compile_requests = n })
    else if bytes_eq name (codes "requests_unsupported_compiler") then Some (record s { requests_unsupported_compiler = n })
    else if bytes_eq name (codes "requests_not_compile") then Some (record s { requests_not_compile = n })
    else if bytes_eq name (codes "requests_not_cacheable") then Some (record s { requests_not_cacheable = n })
    else if bytes_eq name (codes "requests_executed") then Some (record s { requests_executed = n })
    else if bytes_eq name (codes "cache_timeouts") then Some (record s { cache_timeouts = n })
    else if bytes_eq name (codes "cache_read_errors") then Some (record s { cache_read_errors = n })
    else if bytes_eq name (codes "non_cacheable_compilations") then Some (record s { non_cacheable_compilations = n })
    else if bytes_eq name (codes "forced_recaches") then Some (record s { forced_recaches = n })
    else if bytes_eq name (codes "cache_write_errors") then Some (record s { cache_write_errors = n })
    else if bytes_eq name (codes "cache_writes") then Some (record s { cache_writes = n })
    else if bytes_eq name (codes "compilations") then Some (record s { compilations = n })
    else if bytes_eq name (codes "compile_fails") then Some (record s { compile_fails = n })
    else if bytes_eq name (codes "dist_errors") then Some (record s { dist_errors = n })
    else None

-- the same, at the number that a word says
unfoldable pub with_pair : ServerStats → List ℕ → List ℕ → Option ServerStats
with_pair sofar name number = number_of number then (λ n. with_counter name n sofar)

-- counters of all words that are left, a name and a number each, over those so far
abbrev pub pairs_onto : ServerStats → Reader ServerStats
pairs_onto sofar [] = Some (sofar, [])
pairs_onto sofar (name ∷ []) = None
pairs_onto sofar (name ∷ number ∷ ws) = with_pair sofar name number then (λ s. pairs_onto s ws)

-- record NAME N .., where the last number of a name holds
unfoldable pub record_request : Reader Request
record_request = do
  name ← word
  first ← field (with_pair no_stats name)
  stats ← pairs_onto first
  gives (RecordStats stats)
