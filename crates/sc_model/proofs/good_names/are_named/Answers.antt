use Rattle.std.proofs.Common.{List, ℕ, true, cond, ap, ◌∙◌}
use Rattle.std.specs.Prelude.{string_bytes}
use Rattle.std.specs.Str.{bytes_eq}
use Rattle.std.specs.BTreeSet.{contains_text}
use Rattle.std.proofs.lemmas.Map.Text.{btree_set_updates_text}
use Rattle.sc_model.proofs.Naming.{named_off, named_on}
use Rattle.sc_model.proofs.good_names.are_named.Goals as goal

pub returns-then-not-is_new : goal.returns-then-not-is_new
returns-then-not-is_new c =
    named_off c.args.objects.now c.loop-left.left.now (contains_text c.loop-left.names) c.object-item.result c.is_new.result c.loop-left.invariant c.in-len1-up.len_at_least c.object-item.is
    c.is_new.ensures c.if-not-is_new.true

pub loop-left-preserved : goal.loop-left-preserved
loop-left-preserved c =
    named_on c.args.objects.now c.loop-left.left.now (contains_text c.loop-left.names) (contains_text c.insert.new.self) c.object-item.result c.is_new.result c.loop-left.invariant
    c.in-len1-up.len_at_least c.object-item.is c.is_new.ensures c.if-not-is_new.false
    (λ name. btree_set_updates_text (string_bytes c.in_ok-from_str.field-0) c.loop-left.names c.insert.new.self true c.in_ok-insert.ensures.updates name
    ∙ ap (λ (bytes : List ℕ). cond (bytes_eq bytes name) true (contains_text c.loop-left.names name)) (c.in_ok-from_str.ensures.ok ∙ c.as_str.ensures))
