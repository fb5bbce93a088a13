use Rattle.std.proofs.Common.{◌≡◌, drop}
use Rattle.serde_json.specs.View.{members_view}
use Rattle.sc_stats_json.specs.Fields.{put_counted}
use Rattle.sc_stats_json.proofs.fields.put_counted.Given as goal

-- with the texts that are left to put, all fields
abbrev pub invariant-loop-text : goal.invariant-loop-text
invariant-loop-text l = put_counted (drop l.text-index l.texts) (members_view l.fields.entries) ≡ put_counted l.texts (members_view l.fn.fields.entries)
