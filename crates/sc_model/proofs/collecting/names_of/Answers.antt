use Rattle.std.proofs.Common.{List, ℕ, true, cond, ap, ◌∙◌}
use Rattle.std.specs.Prelude.{string_bytes}
use Rattle.std.specs.Str.{bytes_eq}
use Rattle.std.specs.BTreeSet.{contains_text}
use Rattle.std.proofs.lemmas.Map.Text.{btree_set_updates_text}
use Rattle.sc_model.proofs.Finding.{names_on}
use Rattle.sc_model.proofs.collecting.names_of.Goals as goal

pub loop-left-preserved : goal.loop-left-preserved
loop-left-preserved c = λ name.
    names_on c.loop-left.left.now c.object-item.result (contains_text c.loop-left.names name) (contains_text c.insert.new.self name) _ name c.in-len1-up.len_at_least c.object-item.is
    (btree_set_updates_text (string_bytes c.in_ok-from_str.field-0) c.loop-left.names c.insert.new.self true c.in_ok-insert.ensures.updates name
    ∙ ap (λ (bytes : List ℕ). cond (bytes_eq bytes name) true (contains_text c.loop-left.names name)) (c.in_ok-from_str.ensures.ok ∙ c.as_str.ensures))
    (c.loop-left.invariant name)
