-- Values of a list's items, one after the other, and objects by their fields.
use Rattle.std.proofs.Common.{◌≡◌, ℕ, ◌+◌, ◌<◌, ◌≤◌, List, [], ◌∷◌, ◌++◌, Option, length, drop, get_or, map, append_assoc, append-nil, refl, sym}
use Rattle.serde_json.specs.Data.{Data, no_members, object}
use Rattle.sc_stats.specs.declared.counters.LevelStats.{LevelStats}
use Rattle.sc_stats.specs.declared.counters.ServerInfo.{ServerInfo}
use Rattle.sc_stats.specs.declared.counters.ServerStats.{ServerStats}
use Rattle.sc_stats.proofs.Left.{left_end, left_step}
use Rattle.sc_stats_json.specs.Fields.{put_backfills, put_cache_writes, put_compilations, put_elsewhere, put_lookups, put_mode, put_place, put_requests, put_state, put_store, put_writes}
use Rattle.sc_stats_json.specs.Json.{info_json, level_json, stats_json}

-- values, and those of more items
abbrev pub and_those : {A : Type 0} → (A → Data) → List A → List Data → List Data
and_those json xs ds = ds ++ map json xs

module _ {A : Type 0} (json : A → Data) where
  goes : (x : A) (xs : List A) (ds : List Data) → and_those json (x ∷ xs) ds ≡ and_those json xs (ds ++ json x ∷ [])
  goes x xs ds = sym (append_assoc ds (json x ∷ []) (map json xs))

  pub those_step : (xs : List A) (i : ℕ) (d : A) (ds : List Data) → i < length xs → and_those json (drop (i + 1) xs) (ds ++ json (get_or xs i d) ∷ []) ≡ and_those json (drop i xs) ds
  those_step xs i d ds h = left_step (and_those json) (λ x ds. ds ++ json x ∷ []) goes xs i d ds h

  pub those_end : (xs : List A) (i : ℕ) (ds : List Data) → length xs ≤ i → and_those json (drop i xs) ds ≡ ds
  those_end xs i ds h = left_end (and_those json) append-nil xs i ds h

-- the groups of fields make the whole object
pub level_fields : (l : LevelStats) → object (put_writes l (put_place l (put_backfills l no_members))) ≡ level_json l
unfolding put_backfills put_place put_writes level_json
level_fields l = refl

pub stats_fields : (s : ServerStats) → object (put_requests s (put_elsewhere s (put_compilations s (put_cache_writes s (put_lookups s no_members))))) ≡ stats_json s
unfolding put_lookups put_cache_writes put_compilations put_elsewhere put_requests stats_json
stats_fields s = refl

pub info_fields : (mode : Option (List ℕ)) (info : ServerInfo) → object (put_state info (put_mode mode (put_store info no_members))) ≡ info_json mode info
unfolding put_store put_mode put_state info_json
info_fields mode info = refl
