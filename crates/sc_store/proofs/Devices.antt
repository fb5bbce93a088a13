-- A call of a device in memory is counted, and fails where it is to fail.
use Rattle.std.proofs.Common.{◌≡◌, ℕ, ◌-◌, ◌^◌, ◌<◌, ◌≤◌, Bool, true, false, List, Some, refl, arith, subst, sym, ap, ◌∙◌}
use Rattle.std.specs.FinSet as set
use Rattle.std.specs.Cmp.{nat_cmp_total}
use Rattle.std.specs.List.{list_any}
use Rattle.std.specs.Ordering.{nat_cmp, eq_by_cmp}
use Rattle.sc_entry.specs.Causes.{Rose}
use Rattle.sc_entry.specs.Failing.{fails_at, faults_after, one_more}
use Rattle.sc_entry.specs.declared.calls.Calls.{Calls as Counted}
use Rattle.sc_model.specs.Devices.{Failed, MakesMade, MakesOn, Passed, called, calls_failing, is_to_fail, numbers_of}
use Rattle.sc_store_disk.specs.Devices.{calls_of}
use Rattle.sc_store_disk.proofs.Devices.{listed, same_numbers}
pub use Rattle.sc_store_disk.proofs.Devices.{later_same, later_then, loses_none, new_calls}

-- a call that does not fail leaves the count of faults
fault_at : (fails : Bool) (f g : ℕ) → g ≡ faults_after fails f → f < g → fails ≡ true
fault_at true f g e h = refl
fault_at false f g e h = absurd (omega arith)

fails_so : (fails : Bool) (f g : ℕ) → g ≡ faults_after fails f → fails ≡ true → Rose f g
fails_so true f g e h = subst (λ n. Rose f n) (sym e) (omega arith)
fails_so false f g e h = absurd (cc)

next_is : (made later number : ℕ) → later ≡ one_more made → made < number → number ≤ later → number ≡ later
next_is made later number e h k = omega arith

pub call_made : (old new : Counted) → old.made < 2 ^ 64 → ((number : ℕ) → fails_at new number ≡ fails_at old number) → new.made ≡ one_more old.made → new.faults ≡ faults_after (fails_at old new.made) old.faults
    → MakesOn (Some (calls_of old)) (Some (calls_of new)) old.faults new.faults
call_made old new within same made faults = (
  calls_of new,
  refl,
  record {
    failing = same_numbers old new same;
    made = omega arith;
    fault = λ h. (new.made, omega arith, omega arith, listed old new.made ∙ fault_at (fails_at old new.made) old.faults new.faults faults h);
    fails = λ number h k is. fails_so (fails_at old new.made) old.faults new.faults faults (ap (λ n. fails_at old n) (sym (next_is old.made new.made number made h k)) ∙ sym (listed old number) ∙ is);
  },
)

-- it is one call more, which is to fail or not
counted : (old new : Counted) → ((number : ℕ) → fails_at new number ≡ fails_at old number) → new.made ≡ one_more old.made → calls_of new ≡ called (calls_of old)
counted old new same made = λ i. record { failing = same_numbers old new same i; made = made i }

to_fail : (old new : Counted) (b : Bool) → new.made ≡ one_more old.made → fails_at old new.made ≡ b → is_to_fail (called (calls_of old)) ≡ b
to_fail old new b made is = listed old (one_more old.made) ∙ ap (fails_at old) (sym made) ∙ is

pub call_passed : (old new : Counted) → ((number : ℕ) → fails_at new number ≡ fails_at old number) → new.made ≡ one_more old.made → new.faults ≡ faults_after (fails_at old new.made) old.faults → fails_at old new.made ≡ false
    → MakesMade (Passed 1) (Some (calls_of old)) (Some (calls_of new)) old.faults new.faults
call_passed old new same made faults is = (calls_of new, refl, ((tt, to_fail old new false made is), counted old new same made, faults ∙ ap (λ b. faults_after b old.faults) is))

pub call_failed : (old new : Counted) → ((number : ℕ) → fails_at new number ≡ fails_at old number) → new.made ≡ one_more old.made → new.faults ≡ faults_after (fails_at old new.made) old.faults → fails_at old new.made ≡ true
    → MakesMade (Failed 0 0) (Some (calls_of old)) (Some (calls_of new)) old.faults new.faults
call_failed old new same made faults is = (calls_of new, refl, (tt, to_fail old new true made is, counted old new same made, fails_so (fails_at old new.made) old.faults new.faults faults is))
