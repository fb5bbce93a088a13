-- Codes, by which proofs tell values apart.
use Rattle.std.specs.Prelude.{ℕ, Bool, List, Option, refl}
use Rattle.std.specs.Coded.{Coded, code_by, coded×, coded_ℕ, coded_bool, coded_list, coded_option}
use Rattle.std.specs.FinMap as map
use Rattle.slab.specs.Slab.{Slab, slab_code}
use Rattle.sc_entry.specs.contracts.calls.Calls as calls_type
use Rattle.sc_entry.specs.declared.calls.Calls.{Calls}
use Rattle.sc_disk.specs.Disks.{DiskFiles, DiskRecord, DiskState, OutsideFiles}
use Rattle.sc_disk.specs.Memory.{disk_files_code}
use Rattle.sc_disk.specs.Store.{Store, store}
use Rattle.sc_disk.specs.contracts.change.Change as change_type
use Rattle.sc_disk.specs.contracts.pending.Pending as pending_type
use Rattle.sc_disk.specs.declared.change.Change.{Change}
use Rattle.sc_disk.specs.declared.pending.Pending.{Pending}

abbrev pub outside_code : Coded OutsideFiles
outside_code = map.code (coded_list coded_ℕ) (coded_list coded_ℕ)

abbrev pub disk_record_code : Coded DiskRecord
disk_record_code = code_by (OutsideFiles × (DiskFiles × List Change))
    (coded× outside_code (coded× disk_files_code (coded_list change_type.the_row.coded)))
    (λ r. (r.outside, (r.first, r.done)))
    (λ p. record { outside = p.0; first = p.1.0; done = p.1.1 })
    (λ _. refl)

abbrev pub disk_state_code : Coded DiskState
disk_state_code = code_by (Option DiskRecord × (ℕ × (Option Calls × (List ℕ × (Bool × List ℕ)))))
    (coded× (coded_option disk_record_code) (coded× coded_ℕ (coded× (coded_option calls_type.the_row.coded) (coded× (coded_list coded_ℕ) (coded× coded_bool (coded_list coded_ℕ))))))
    (λ d. (d.told, (d.faults, (d.calls, (d.root, (d.divided, d.letters))))))
    (λ p. record { told = p.0; faults = p.1.0; calls = p.1.1.0; root = p.1.1.1.0; divided = p.1.1.1.1.0; letters = p.1.1.1.1.1 })
    (λ _. refl)

abbrev pub store_code : Coded Store
store_code = code_by (List (List ℕ × ℕ) × (ℕ × (Slab Pending × (ℕ × DiskState))))
    (coded× (coded_list (coded× (coded_list coded_ℕ) coded_ℕ)) (coded× coded_ℕ (coded× (slab_code pending_type.the_row.coded) (coded× coded_ℕ disk_state_code))))
    (λ s. (s.index, (s.spare, (s.pending, (s.capacity, s.disk)))))
    (λ p. store p.0 p.1.0 p.1.1.0 p.1.1.1.0 p.1.1.1.1)
    (λ _. refl)
