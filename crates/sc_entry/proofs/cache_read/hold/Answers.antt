use Rattle.std.proofs.Common.{List, ℕ, cond, Some, length, ap, ◌∙◌}
use Rattle.std.specs.Prelude.{string_bytes}
use Rattle.std.specs.Str.{bytes_eq}
use Rattle.std.specs.BTreeMap.{get_by_text}
use Rattle.std.proofs.lemmas.Map.Text.{btree_map_updates_text}
use Rattle.sc_entry.proofs.cache_read.hold.Goals as goal

pub returns-clause-held : goal.returns-clause-held
returns-clause-held c = λ name.
    btree_map_updates_text (string_bytes c.in_ok-name.name) c.args.index.now c.insert.new.self _ c.in_ok-before.ensures.updates name
    ∙ ap (λ (bytes : List ℕ). cond (bytes_eq bytes name) (Some (record { mode = c.args.object.now.mode; start = c.args.start; len = length c.args.object.now.bytes.now })) (get_by_text c.args.index.now name)) c.in_ok-name.ensures.ok
