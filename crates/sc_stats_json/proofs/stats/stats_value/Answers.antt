use Rattle.std.proofs.Common.{ap, ◌∙◌}
use Rattle.serde_json.specs.Data.{object}
use Rattle.serde_json.specs.View.{members_view}
use Rattle.sc_stats_json.specs.Fields.{put_cache_writes, put_compilations, put_elsewhere, put_lookups, put_requests}
use Rattle.sc_stats_json.proofs.Values.{stats_fields}
use Rattle.sc_stats_json.proofs.stats.stats_value.Goals as goal

pub returns : goal.returns
returns c =
    let s = c.args.stats.now in
    c.from.ensures
    ∙ ap object (c.in_ok-put_requests.ensures
    ∙ ap (put_requests s) (c.in_ok-put_elsewhere.ensures
    ∙ ap (put_elsewhere s) (c.in_ok-put_compilations.ensures
    ∙ ap (put_compilations s) (c.in_ok-put_cache_writes.ensures
    ∙ ap (put_cache_writes s) (c.in_ok-put_lookups.ensures
    ∙ ap (λ es. put_lookups s (members_view es)) c.new-fields.ensures.empty)))))
    ∙ stats_fields s
