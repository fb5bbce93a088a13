-- The texts that a client's commands print.
use Rattle.std.specs.Prelude.{ℕ, Bool, List, [], ◌∷◌, ◌++◌, Some, None, false, codes, if◌then◌else◌}
use Rattle.serde_json.specs.Written.{compact_text}
use Rattle.sc_client.specs.declared.asking.Statistics.{Statistics}
use Rattle.sc_entry.specs.declared.cache_mode.CacheMode.{CacheMode}
use Rattle.sc_entry.specs.declared.cache_mode.CacheMode.TheVariants.{ReadOnly, ReadWrite}
use Rattle.sc_stats.specs.Info.{info_lines}
use Rattle.sc_stats.specs.declared.counters.DistInfo.{DistInfo}
use Rattle.sc_stats.specs.declared.counters.ServerInfo.{ServerInfo}
use Rattle.sc_stats_json.specs.Json.{dist_json, info_json}

-- each line with its line feed
abbrev pub lines_text : List (List ℕ) → List ℕ
lines_text [] = []
lines_text (line ∷ lines) = line ++ 10 ∷ lines_text lines

abbrev pub mode_name : CacheMode → List ℕ
mode_name ReadOnly = codes "ReadOnly"
mode_name ReadWrite = codes "ReadWrite"

-- statistics with their mode: as JSON, which has no line feed behind it, or line by line
unfoldable pub stats_text : (advanced json : Bool) → Statistics → List ℕ
stats_text advanced json s =
    if json then compact_text (info_json (Some (mode_name s.mode)) s.info)
    else lines_text (info_lines advanced (Some (mode_name s.mode)) s.info)

-- what is printed once the counters are empty
abbrev pub zeroed_line : List ℕ
zeroed_line = codes "Statistics zeroed.\n"

-- what is printed before a server is asked to stop, and then what it counted
abbrev pub stopping_line : List ℕ
stopping_line = codes "Stopping sccache server...\n"

abbrev pub last_text : ServerInfo → List ℕ
last_text info = lines_text (info_lines false None info)

abbrev pub dist_text : DistInfo → List ℕ
dist_text info = compact_text (dist_json info) ++ codes "\n"
