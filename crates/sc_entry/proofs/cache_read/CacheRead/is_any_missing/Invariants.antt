use Rattle.std.proofs.Common.{◌≡◌, drop}
use Rattle.sc_entry.specs.Gathering.{lacks_any}
use Rattle.sc_entry.proofs.cache_read.CacheRead.is_any_missing.Given as goal

abbrev pub invariant-loop-source : goal.invariant-loop-source
invariant-loop-source l = lacks_any l.self l.sources ≡ lacks_any l.self (drop l.source-index l.sources)
