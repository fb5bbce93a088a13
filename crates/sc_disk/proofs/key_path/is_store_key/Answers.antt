use Rattle.std.proofs.Common.{◌<◌, length, rules, ap, ◌∙◌}
use Rattle.std.specs.List.{list_all}
use Rattle.sc_entry.specs.Keys.{is_key_byte}
use Rattle.sc_disk.proofs.KeyPaths.{long_key}
use Rattle.sc_disk.proofs.key_path.is_store_key.Goals as goal

pub returns-then-len-gt2 : goal.returns-then-len-gt2
returns-then-len-gt2 c =
    let long : 2 < length c.args.key.now = search rules in
    long_key c.args.key.now _ long (c.are_key_bytes.ensures ∙ ap (list_all is_key_byte) c.as_bytes.ensures)
