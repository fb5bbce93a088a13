-- Bytes that spell an entry.
use Rattle.std.proofs.Common.{◌≡◌, ℕ, List, Some, ap, ◌∙◌}
use Rattle.sc_entry.proofs.EntryLaws.{of_entry}
use Rattle.sc_entry.specs.Entries.{entry, objects}
use Rattle.sc_entry.specs.declared.object.Object.{Object}
use Rattle.sc_store_disk.specs.Wholes.{if_spells}

-- an entry that was read gives its bytes back
pub spelled_again : (bytes back : List ℕ) (os : List Object) → objects bytes ≡ Some os → back ≡ entry os → Some back ≡ if_spells (objects bytes) bytes
spelled_again bytes back os read given = rw read (ap Some (given ∙ (of_entry bytes os read).0))
