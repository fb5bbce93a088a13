use Rattle.std.proofs.Common.{◌≡◌, ◌+◌, [], ◌∷◌, ◌++◌, drop, map, ap, sym, ◌∙◌}
use Rattle.std.proofs.lemmas.List.{map-append}
use Rattle.serde_json.specs.View.{view}
use Rattle.sc_stats_json.specs.Json.{level_json}
use Rattle.sc_stats_json.proofs.Values.{and_those, those_end, those_step}
use Rattle.sc_stats_json.proofs.levels.level_values.Goals as goal

pub loop-level-preserved : goal.loop-level-preserved
loop-level-preserved c =
    let ls = c.args.levels.now in
    let i = c.loop-level.level-index in
    let ds = map view c.loop-level.values.items in
    let more : map view c.push.new.list.items ≡ ds ++ level_json c.level-item.result ∷ [] =
    ap (map view) c.in_ok-push.ensures.ok ∙ map-append view c.loop-level.values.items (c.in_ok-value.value ∷ []) ∙ ap (λ d. ds ++ d ∷ []) c.in_ok-value.ensures in
    ap (and_those level_json (drop (i + 1) ls)) (more ∙ ap (λ l. ds ++ level_json l ∷ []) c.level-item.is)
    ∙ those_step level_json ls i c.level-item.result ds c.loop-level-test.true
    ∙ c.loop-level.invariant

pub returns : goal.returns
returns c = sym (those_end level_json c.args.levels.now c.loop-level.level-index (map view c.loop-level.values.items) c.loop-level-test.false) ∙ c.loop-level.invariant
