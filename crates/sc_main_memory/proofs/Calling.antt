-- What a disk level's device tells of its calls at first.
use Rattle.std.proofs.Common.{◌≡◌, ℕ, true, false, cond, List, [], Option, None, Some, option_map, ap, ◌∙◌}
use Rattle.sc_store_disk.specs.Devices.{calls_of}
use Rattle.sc_store_disk.specs.DiskStores.{unopened_store}
use Rattle.sc_entry.specs.declared.cache_mode.CacheMode.{CacheMode}
use Rattle.sc_entry.specs.Failing.{fails_at}
use Rattle.sc_entry.specs.declared.calls.Calls.{Calls as Counted}
use Rattle.sc_main_memory.specs.Making.{failing_at, first_disk}
use Rattle.sc_model.specs.Devices.{Calls, calls_failing}
use Rattle.sc_disk_pair.specs.Twos.{calls_beside, fails_none, joined_calls, joined_state, joins, joint}
use Rattle.sc_store.specs.Held.{HeldLevel, nothing_given, of_disk}
use Rattle.sc_disk_pair.proofs.Calling.{same_none}
use Rattle.sc_main_memory.proofs.Firsts.{nothing_outside}

-- a device of which no call is to fail
pub fails_none_from : (calls : Counted) → ((number : ℕ) → fails_at calls number ≡ false) → fails_none calls ≡ true
fails_none_from calls h = same_none [] calls.failing.keys h

module _ (mode : CacheMode) (capacity : ℕ) (main pre : List ℕ) (holds : List (List ℕ × List ℕ)) (calls none : Counted) where
  pub calls_told : (fails : List ℕ) → fails_none none ≡ true → calls_of calls ≡ calls_failing fails
      → of_disk nothing_given (unopened_store mode capacity (joined_state (joins (first_disk main holds (Some calls)) (first_disk pre [] (Some none)))))
      ≡ failing_at fails (of_disk nothing_given (unopened_store mode capacity (joined_state (joins (first_disk main holds None) (first_disk pre [] None)))))
  calls_told fails quiet is =
      let h = of_disk nothing_given (unopened_store mode capacity (joined_state (joins (first_disk main holds (Some calls)) (first_disk pre [] (Some none))))) in
      let told : h.level.calls ≡ Some (calls_failing fails) = rw nothing_outside (ap (λ b. option_map calls_of (cond b (Some calls) None)) quiet ∙ ap Some is) in
      ap (λ (c : Option Calls). record h { level = record h.level { calls = c } }) told
