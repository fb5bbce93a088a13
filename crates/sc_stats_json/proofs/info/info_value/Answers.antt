use Rattle.std.proofs.Common.{ap, ◌∙◌}
use Rattle.std.specs.Option.{option_copied}
use Rattle.serde_json.specs.Data.{object}
use Rattle.serde_json.specs.View.{members_view}
use Rattle.sc_stats_json.specs.Fields.{put_mode, put_state, put_store}
use Rattle.sc_stats_json.proofs.Values.{info_fields}
use Rattle.sc_stats_json.proofs.info.info_value.Goals as goal

pub returns : goal.returns
returns c =
    let info = c.args.info.now in
    let mode = option_copied c.args.mode in
    c.from.ensures
    ∙ ap object (c.in_ok-put_state.ensures
    ∙ ap (put_state info) (c.in_ok-put_mode.ensures
    ∙ ap (put_mode mode) (c.in_ok-put_store.ensures
    ∙ ap (λ es. put_store info (members_view es)) c.new-fields.ensures.empty)))
    ∙ info_fields mode info
