use Rattle.std.proofs.Common.{List, Option, sym, subst}
use Rattle.sc_entry.specs.Causes.{IfTold}
use Rattle.sc_disk.specs.Disks.{files_now}
use Rattle.sc_disk.specs.Store.{NoStray}
use Rattle.sc_disk.specs.declared.pending.Pending.{Pending}
use Rattle.sc_disk.proofs.Reopening.{opened_keeps, told_reopened, told_tidy}
use Rattle.sc_disk.proofs.lru_disk_cache.LruDiskCache.new.Goals as goal

pub invariant_of-result : goal.invariant_of-result
invariant_of-result g c = let i = c.in-Ok.ensures in let state = g.D.Disk.state in
    opened_keeps c.args.size c.in-Ok.index.capacity c.in-Ok.index.entries c.new.result.slots (state c.args.disk) (state c.open_files.new.disk) c.new.ensures.empty i.capacity i.within i.keys i.ok

pub returns-in-Ok-clause-reopened : goal.returns-in-Ok-clause-reopened
returns-in-Ok-clause-reopened g c = told_reopened c.args.size c.in-Ok.index.entries (g.D.Disk.state c.args.disk) (g.D.Disk.state c.open_files.new.disk) c.in-Ok.ensures.ok

pub returns-in-Ok-clause-tidy : goal.returns-in-Ok-clause-tidy
returns-in-Ok-clause-tidy g c = let i = c.in-Ok.ensures in let state = g.D.Disk.state in
    subst (λ (s : List (Option Pending)). IfTold (state c.open_files.new.disk).told (λ r. NoStray (state c.open_files.new.disk).divided s (files_now r))) (sym c.new.ensures.empty) (told_tidy c.args.size c.in-Ok.index.entries (state c.args.disk) (state c.open_files.new.disk) i.keys i.ok)
