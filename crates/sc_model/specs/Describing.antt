-- What a daemon tells of itself.
use Rattle.std.specs.Prelude.{ℕ, zero, suc, Bool, true, false, ◌&&◌, not, List, [], ◌∷◌, Option, Some, None, codes}
use Rattle.sc_model.specs.Plan.{is_none, reads_only}
use Rattle.sc_model.specs.Script.{Setup}
use Rattle.sc_model.specs.declared.level.LevelFacts.{LevelFacts}
use Rattle.sc_model.specs.declared.level.Policy.{Policy}
use Rattle.sc_model.specs.declared.level.Policy.TheVariants.{Levels, Single}
use Rattle.sc_entry.specs.declared.cache_mode.CacheMode.{CacheMode}
use Rattle.sc_entry.specs.declared.cache_mode.CacheMode.TheVariants.{ReadOnly as ModeReadOnly, ReadWrite as ModeReadWrite}
use Rattle.sc_model.specs.declared.message.Request.{Request}
use Rattle.sc_model.specs.declared.message.Request.TheVariants.{GetStats}
use Rattle.sc_model.specs.declared.message.Response.{Response}
use Rattle.sc_model.specs.declared.message.Response.TheVariants.{ShuttingDown, Stats as Counted}
use Rattle.sc_model.specs.declared.message.StorageHandshakeInfo.{StorageHandshakeInfo}
use Rattle.sc_model.specs.declared.phase.Sized.{Sized}
use Rattle.sc_stats.specs.declared.counters.LevelStats.{LevelStats}
use Rattle.sc_stats.specs.declared.counters.ServerInfo.{ServerInfo}
use Rattle.sc_stats.specs.declared.counters.ServerStats.{ServerStats}
use Rattle.sc_stats.specs.Sums.{sat}

-- the sizes that are known, added; none where that is 0
abbrev pub size_sum : List Sized → ℕ
size_sum [] = 0
size_sum (z ∷ zs) = elim z.size [ None ↦ size_sum zs | Some n ↦ sat n (size_sum zs) ]

abbrev pub some_size : ℕ → Option ℕ
some_size zero = None
some_size (suc n) = Some (suc n)

abbrev pub first_size : List Sized → Option ℕ
first_size [] = None
first_size (z ∷ zs) = z.size

abbrev pub cache_size : Policy → List Sized → Option ℕ
cache_size Single zs = first_size zs
cache_size (Levels ps) zs = some_size (size_sum zs)

abbrev pub counters_in : List Sized → List LevelStats
counters_in [] = []
counters_in (z ∷ zs) = elim z.counters [ None ↦ counters_in zs | Some c ↦ c ∷ counters_in zs ]

abbrev pub multi_level : Policy → List Sized → Option (List LevelStats)
multi_level Single zs = None
multi_level (Levels ps) zs = Some (counters_in zs)

abbrev pub server_info : Setup → ServerStats → List Sized → ServerInfo
server_info s stats zs = record {
  stats = record stats { multi_level = multi_level s.policy zs };
  cache_location = s.store.location;
  cache_size = cache_size s.policy zs;
  max_cache_size = s.store.max_size;
  use_preprocessor_cache_mode = s.store.flag;
  version = codes "0.19.0";
  basedirs = s.store.basedir_texts;
}

abbrev pub all_read_only : List LevelFacts → Bool
all_read_only [] = true
all_read_only (f ∷ fs) = reads_only f.mode && all_read_only fs

abbrev pub mode_of : Bool → CacheMode
mode_of true = ModeReadOnly
mode_of false = ModeReadWrite

abbrev pub handshake : Setup → StorageHandshakeInfo
handshake s = record {
  location = s.store.location;
  cache_type_name = s.store.type_name;
  basedirs = s.store.basedirs;
  use_preprocessor_cache_mode = s.store.flag;
  cache_mode = mode_of (not (is_none s.levels) && all_read_only s.levels);
  max_size = s.store.max_size;
}

-- the last reply of a request for statistics
abbrev pub stats_reply : Request → ServerInfo → Response
stats_reply GetStats info = Counted info
stats_reply _ info = ShuttingDown info
