use Rattle.std.proofs.Common.{lit<}
use Rattle.sc_disk.proofs.KeyPaths.{ascii_key}
use Rattle.sc_disk.proofs.key_path.normalize_key.Goals as goal

pub push_folder-requires-3 : goal.push_folder-requires-3
push_folder-requires-3 c = rw c.as_bytes-bytes.ensures (ascii_key c.args.key.now 2 c.requires (lit< tt))
