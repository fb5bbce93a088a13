use Rattle.std.proofs.Common.{◌≡◌, ap, ◌∙◌}
use Rattle.std.proofs.lemmas.Result.{IfOk-weaker}
use Rattle.serde_json.specs.View.{view}
use Rattle.serde_json.specs.Written.{compact_text, has_float}
use Rattle.sc_stats_json.specs.Json.{dist_json}
use Rattle.sc_stats_json.proofs.NoFloat.{whole_dist}
use Rattle.sc_stats_json.proofs.dist.DistInfoDistInfoJson.json_text.Goals as goal

pub returns : goal.returns
returns c =
    let info = c.args.self.now in
    let is : view c.in_ok-value.value ≡ dist_json info = c.in_ok-value.ensures in
    IfOk-weaker c.compact_text.result _ _ (λ text h. h (ap has_float is ∙ whole_dist info) ∙ ap compact_text is) c.compact_text.ensures
