use Rattle.std.proofs.Common.{◌≡◌, [], ap, ◌∙◌, rules}
use Rattle.serde_json.specs.Data.{no_members, object}
use Rattle.serde_json.specs.View.{members_view}
use Rattle.sc_entry.specs.Listed.{listed}
use Rattle.sc_stats_json.specs.Fields.{put_counted}
use Rattle.sc_stats_json.specs.Json.{counts_json}
use Rattle.sc_stats_json.proofs.InOrder.{put_all}
use Rattle.sc_stats_json.proofs.fields.counts_value.Goals as goal

pub returns : goal.returns
unfolding counts_json
returns c =
    let texts : c.as_slice.result.now ≡ listed c.args.counts.now = search rules in
    c.from.ensures
    ∙ ap object (c.in_ok-put_counted.ensures
    ∙ ap (put_counted c.as_slice.result.now) (ap members_view c.new-fields.ensures.empty)
    ∙ ap (λ ts. put_counted ts no_members) texts
    ∙ put_all c.args.counts.now)
