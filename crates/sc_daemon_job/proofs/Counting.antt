-- What the end of a write counts.
use Rattle.std.proofs.Common.{◌≡◌, ℕ, true, false, refl}
use Rattle.sc_daemon_job.specs.Askers.{is_compile}
use Rattle.sc_model.specs.Rows.{written_row}
use Rattle.sc_model.specs.declared.level.Put.{Put}
use Rattle.sc_model.specs.declared.message.Compile.{Compile}
use Rattle.sc_model.specs.declared.message.Request.{Request}
use Rattle.sc_model.specs.declared.message.Request.TheVariants as requests
use Rattle.sc_stats.specs.Sums.{no_stats}
use Rattle.sc_stats.specs.declared.counters.ServerStats.{ServerStats}

-- one that no compile made counts nothing
pub no_compile_writes : (r : Request) (duration : ℕ) (put : Put) → is_compile r ≡ false → no_stats ≡ written_row r duration put
no_compile_writes (requests.Compile c) duration put is = absurd (cc)
no_compile_writes requests.ZeroStats duration put is = refl
no_compile_writes requests.GetStats duration put is = refl
no_compile_writes requests.DistStatus duration put is = refl
no_compile_writes requests.Shutdown duration put is = refl
no_compile_writes requests.StorageHandshake duration put is = refl
no_compile_writes (requests.StorageGetPath k) duration put is = refl
no_compile_writes (requests.StorageGetRaw k) duration put is = refl
no_compile_writes (requests.StoragePutRaw k b) duration put is = refl
no_compile_writes (requests.StorageGetPreprocessorEntry k) duration put is = refl
no_compile_writes (requests.StoragePutPreprocessorEntry k b) duration put is = refl
no_compile_writes (requests.RecordStats delta) duration put is = refl

-- one that a compile made counts what its put came to
pub compile_writes : (r : Request) (duration : ℕ) (put : Put) (row : ServerStats) → is_compile r ≡ true → ((c : Compile) → row ≡ written_row (requests.Compile c) duration put) → row ≡ written_row r duration put
compile_writes (requests.Compile c) duration put row is counts = counts c
compile_writes requests.ZeroStats duration put row is counts = absurd (cc)
compile_writes requests.GetStats duration put row is counts = absurd (cc)
compile_writes requests.DistStatus duration put row is counts = absurd (cc)
compile_writes requests.Shutdown duration put row is counts = absurd (cc)
compile_writes requests.StorageHandshake duration put row is counts = absurd (cc)
compile_writes (requests.StorageGetPath k) duration put row is counts = absurd (cc)
compile_writes (requests.StorageGetRaw k) duration put row is counts = absurd (cc)
compile_writes (requests.StoragePutRaw k b) duration put row is counts = absurd (cc)
compile_writes (requests.StorageGetPreprocessorEntry k) duration put row is counts = absurd (cc)
compile_writes (requests.StoragePutPreprocessorEntry k b) duration put row is counts = absurd (cc)
compile_writes (requests.RecordStats delta) duration put row is counts = absurd (cc)
