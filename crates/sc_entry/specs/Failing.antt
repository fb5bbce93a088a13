-- Which calls of a part in memory are to fail.
use Rattle.std.specs.Prelude.{ℕ, Bool, ◌+◌, ◌-◌, ◌^◌, min, cond}
use Rattle.std.specs.Ordering.{nat_cmp}
use Rattle.std.specs.BTreeSet.{contains}
use Rattle.sc_entry.specs.declared.calls.Calls.{Calls}

-- whether the call of this number is to fail; numbers count from 1
abbrev pub fails_at : Calls → ℕ → Bool
fails_at calls number = contains nat_cmp calls.failing number

-- a counter one higher; it stops at the end of u64
abbrev pub one_more : ℕ → ℕ
one_more n = min (n + 1) (2 ^ 64 - 1)

-- the faults after a call that failed, or did not
abbrev pub faults_after : Bool → ℕ → ℕ
faults_after fails faults = cond fails (one_more faults) faults
