use Rattle.std.proofs.Common.{List, ℕ, true, cond, ap, ◌∙◌}
use Rattle.std.specs.Prelude.{string_bytes}
use Rattle.std.specs.Str.{bytes_eq}
use Rattle.std.specs.BTreeSet.{contains_text}
use Rattle.std.proofs.lemmas.Map.Text.{btree_set_updates_text}
use Rattle.sc_entry.proofs.cache_write.extend.Goals as goal

pub returns-clause-named : goal.returns-clause-named
returns-clause-named c = λ other.
    btree_set_updates_text (string_bytes c.in_ok-key.key) c.args.names.now c.insert.new.self true c.in_ok-insert.ensures.updates other
    ∙ ap (λ (bytes : List ℕ). cond (bytes_eq bytes other) true (contains_text c.args.names.now other)) c.in_ok-key.ensures.ok
