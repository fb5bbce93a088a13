use Rattle.std.proofs.Common.{◌≡◌, [], Some, ◌∙◌, rules}
use Rattle.sc_disk.specs.Disks.{DiskState}
use Rattle.sc_disk.specs.Memory.{memory_state}
use Rattle.sc_store_disk.specs.DiskStores.{unopened_store}
use Rattle.sc_store_disk.proofs.Devices.{new_calls}
use Rattle.sc_disk_pair.specs.Twos.{joined_state, joins}
use Rattle.sc_store.specs.Held.{HeldLevel, nothing_given, of_disk}
use Rattle.sc_main_memory.proofs.Calling.{calls_told, fails_none_from}
use Rattle.sc_main_memory.specs.Making.{failing_at, first_disk, held_as, main_root, pre_root}
use Rattle.sc_main_memory.proofs.making.disk_level.Goals as goal

pub returns : goal.returns
returns c =
    let rule = c.args.rule in let f = c.in_ok-calls.ensures in
    let m = main_root c.args.level in let p = pre_root c.args.level in
    let both : c.new-store.result ≡ of_disk nothing_given (unopened_store rule.mode rule.capacity (joined_state (joins (first_disk m rule.holds (Some c.in_ok-calls.calls)) (first_disk p [] (Some c.new.result))))) = search rules in
    both ∙ calls_told rule.mode rule.capacity m p rule.holds c.in_ok-calls.calls c.new.result rule.fails (fails_none_from c.new.result c.new.ensures.failing) (new_calls c.in_ok-calls.calls rule.fails f.failing f.made)
