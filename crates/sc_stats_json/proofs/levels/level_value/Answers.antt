use Rattle.std.proofs.Common.{ap, ◌∙◌}
use Rattle.serde_json.specs.Data.{object}
use Rattle.serde_json.specs.View.{members_view}
use Rattle.sc_stats_json.specs.Fields.{put_backfills, put_place, put_writes}
use Rattle.sc_stats_json.proofs.Values.{level_fields}
use Rattle.sc_stats_json.proofs.levels.level_value.Goals as goal

pub returns : goal.returns
returns c =
    let l = c.args.level.now in
    c.from.ensures
    ∙ ap object (c.in_ok-put_writes.ensures
    ∙ ap (put_writes l) (c.in_ok-put_place.ensures
    ∙ ap (put_place l) (c.in_ok-put_backfills.ensures
    ∙ ap (λ es. put_backfills l (members_view es)) c.new-fields.ensures.empty)))
    ∙ level_fields l
