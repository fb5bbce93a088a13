use Rattle.std.proofs.Common.{◌≡◌, ◌+◌, [], ◌∷◌, ◌++◌, drop, map, ap, sym, ◌∙◌}
use Rattle.std.proofs.lemmas.List.{map-append}
use Rattle.serde_json.specs.Data.{string}
use Rattle.serde_json.specs.View.{view}
use Rattle.sc_stats_json.proofs.Values.{and_those, those_end, those_step}
use Rattle.sc_stats_json.proofs.info.text_values.Goals as goal

pub loop-text-preserved : goal.loop-text-preserved
loop-text-preserved c =
    let ts = c.args.texts.now in
    let i = c.loop-text.text-index in
    let ds = map view c.loop-text.values.items in
    let more : map view c.push.new.list.items ≡ ds ++ string c.text-item.result ∷ [] =
    ap (map view) c.in_ok-push.ensures.ok ∙ map-append view c.loop-text.values.items (c.in_ok-value.value ∷ []) ∙ ap (λ d. ds ++ d ∷ []) (c.in_ok-value.ensures ∙ ap string c.as_str.ensures) in
    ap (and_those string (drop (i + 1) ts)) (more ∙ ap (λ t. ds ++ string t ∷ []) c.text-item.is)
    ∙ those_step string ts i c.text-item.result ds c.loop-text-test.true
    ∙ c.loop-text.invariant

pub returns : goal.returns
returns c = sym (those_end string c.args.texts.now c.loop-text.text-index (map view c.loop-text.values.items) c.loop-text-test.false) ∙ c.loop-text.invariant
