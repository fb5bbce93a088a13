use Rattle.std.proofs.Common.{◌≡◌, List, ℕ, true, false, cond, Bool, ap, sym, ◌∙◌}
use Rattle.std.specs.Prelude.{string_bytes}
use Rattle.std.specs.Str.{bytes_eq}
use Rattle.std.specs.BTreeSet.{contains_text}
use Rattle.std.proofs.lemmas.Map.Text.{btree_set_updates_text}
use Rattle.sc_compile.proofs.Outputs.{has_key_more}
use Rattle.sc_compile.proofs.arguments.output.Goals as goal

pub returns-clause-named : goal.returns-clause-named
returns-clause-named c = λ name.
    let key : string_bytes c.in_ok-from_str.field-0 ≡ c.in_ok-key.key = c.in_ok-from_str.ensures.ok ∙ sym c.in_ok-key.ensures in
    btree_set_updates_text (string_bytes c.in_ok-from_str.field-0) c.args.names.now c.insert.new.self true c.in_ok-insert.ensures.updates name
    ∙ ap (λ (bytes : List ℕ). cond (bytes_eq bytes name) true (contains_text c.args.names.now name)) key
    ∙ ap (λ (b : Bool). cond (bytes_eq c.in_ok-key.key name) true b) (c.requires name)
    ∙ sym (has_key_more c.args.outputs.now (record { key = c.in_ok-key.key; path = c.in_ok-path.path; optional = c.args.optional }) name)
