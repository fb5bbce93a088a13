use Rattle.std.proofs.Common.{◌≡◌, map, length}
use Rattle.sc_disk.proofs.file_table.FileTable.list.Given as goal

-- the files that were given so far
abbrev pub invariant-loop-path : goal.invariant-loop-path
invariant-loop-path l = l.all.items ≡ map (λ p. record { path = p.0.now; size = length p.1.now.bytes; moment = p.1.now.moment }) l.yielded
