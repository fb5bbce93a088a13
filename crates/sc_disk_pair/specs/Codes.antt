-- Codes, by which proofs tell values apart.
use Rattle.std.specs.Prelude.{ℕ, Option, refl}
use Rattle.std.specs.Coded.{Coded, code_by, coded×, coded_ℕ, coded_option}
use Rattle.sc_disk.specs.Codes.{disk_record_code, disk_state_code}
use Rattle.sc_disk.specs.Disks.{DiskRecord, DiskState}
use Rattle.sc_disk_pair.specs.Twos.{TwoState, two_state}

abbrev pub two_state_code : Coded TwoState
two_state_code = code_by (DiskState × (DiskState × (ℕ × Option DiskRecord)))
    (coded× disk_state_code (coded× disk_state_code (coded× coded_ℕ (coded_option disk_record_code))))
    (λ t. (t.main, (t.pre, (t.refused, t.told))))
    (λ p. two_state p.0 p.1.0 p.1.1.0 p.1.1.1)
    (λ _. refl)
