use Rattle.std.proofs.Common.{◌≡◌, drop, map}
use Rattle.serde_json.specs.Data.{string}
use Rattle.serde_json.specs.View.{view}
use Rattle.sc_stats_json.proofs.Values.{and_those}
use Rattle.sc_stats_json.proofs.info.text_values.Given as goal

-- with the texts that are left, all values
abbrev pub invariant-loop-text : goal.invariant-loop-text
invariant-loop-text l = and_those string (drop l.text-index l.texts) (map view l.values.items) ≡ map string l.texts
