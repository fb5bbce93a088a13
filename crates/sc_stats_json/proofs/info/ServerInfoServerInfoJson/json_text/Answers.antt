use Rattle.std.proofs.Common.{◌≡◌, ap, ◌∙◌}
use Rattle.std.proofs.lemmas.Result.{IfOk-weaker}
use Rattle.std.specs.Option.{option_copied}
use Rattle.serde_json.specs.View.{view}
use Rattle.serde_json.specs.Written.{compact_text, has_float}
use Rattle.sc_stats_json.specs.Json.{info_json}
use Rattle.sc_stats_json.proofs.NoFloat.{whole_info}
use Rattle.sc_stats_json.proofs.info.ServerInfoServerInfoJson.json_text.Goals as goal

pub returns : goal.returns
returns c =
    let mode = option_copied c.args.mode in
    let info = c.args.self.now in
    let is : view c.in_ok-value.value ≡ info_json mode info = c.in_ok-value.ensures in
    IfOk-weaker c.compact_text.result _ _ (λ text h. h (ap has_float is ∙ whole_info mode info) ∙ ap compact_text is) c.compact_text.ensures
