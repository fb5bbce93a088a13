-- The calls of a level's device.
use Rattle.std.proofs.Common.{◌≡◌, ℕ, ◌<◌, ◌≤◌, Bool, true, false, IsTrue, List, Option, None, Some, option_map, refl, arith, subst, sym, ap, ◌∙◌}
use Rattle.std.proofs.Math.Logic.{⊎_elim}
use Rattle.std.proofs.lemmas.Bool.{cases_lt}
use Rattle.std.specs.FinSet as set
use Rattle.std.specs.Cmp.{nat_cmp_total}
use Rattle.std.specs.List.{list_any}
use Rattle.std.specs.Ordering.{nat_cmp, eq_by_cmp}
use Rattle.sc_entry.specs.Causes.{Rose}
use Rattle.sc_entry.specs.Failing.{fails_at}
use Rattle.sc_entry.specs.declared.calls.Calls.{Calls as Counted}
use Rattle.sc_disk.specs.Devices as device
use Rattle.sc_model.specs.Devices.{Calls, Loses, Makes, MakesOn, calls_failing, is_listed, numbers_of}
use Rattle.sc_model.specs.Levels.{Later, Level, is_later}
use Rattle.sc_store_disk.specs.Devices.{calls_of}

-- a number is listed exactly where its call is to fail
pub listed : (calls : Counted) (number : ℕ) → is_listed number (numbers_of calls.failing.keys) ≡ fails_at calls number
listed calls number = set.contains-from_list nat_cmp_total calls.failing.keys number

pub same_numbers : (old new : Counted) → ((number : ℕ) → fails_at new number ≡ fails_at old number) → numbers_of new.failing.keys ≡ numbers_of old.failing.keys
same_numbers old new same = set.same_set nat_cmp_total set.nat_cmp-IsAntisymmetric (numbers_of new.failing.keys) (numbers_of old.failing.keys) (λ q. listed new q ∙ same q ∙ sym (listed old q))

-- a disk's calls
makes_of : (old new : Counted) (f g : ℕ) → device.Makes old new f g → Makes (calls_of old) (calls_of new) f g
makes_of old new f g m = record {
  failing = same_numbers old new m.counts.failing;
  made = m.counts.made;
  fault = λ rose. let x = m.fault rose in (x.0, x.1, x.2, listed old x.0 ∙ x.3);
  fails = λ number late early is. m.counts.fails number late early (sym (listed old number) ∙ is);
}

pub makes_on : (a b : Option Counted) (f g : ℕ) → device.MakesOn a b f g → MakesOn (option_map calls_of a) (option_map calls_of b) f g
makes_on None b f g m = ap (option_map calls_of) m
makes_on (Some a) b f g m = (calls_of m.0, ap (option_map calls_of) m.1, makes_of a m.0 f g m.2)

-- calls in two steps
makes_then : (a b c : Calls) (f g h : ℕ) → f ≤ g → g ≤ h → Makes a b f g → Makes b c g h → Makes a c f h
makes_then a b c f g h first last m n =
    let same : b.failing ≡ a.failing = m.failing in
    record {
      failing = n.failing ∙ same;
      made = omega (arith, m.made, n.made);
      fault = λ rose. ⊎_elim
          (λ less. let x = m.fault less in (x.0, x.1, omega (arith, x.2, n.made), x.3))
          (λ more. let x = n.fault (omega (arith, rose, more, first)) in (x.0, omega (arith, x.1, m.made), x.2, subst (λ s. is_listed x.0 s ≡ true) same x.3)) (cases_lt f g);
      fails = λ number late early listed. ⊎_elim
          (λ less. let x : Rose g h = n.fails number less early (subst (λ s. is_listed number s ≡ true) (sym same) listed) in omega (arith, x, first))
          (λ more. let x : Rose f g = m.fails number late more listed in omega (arith, x, last)) (cases_lt b.made number);
    }

pub makes_on_then : (a b c : Option Calls) (f g h : ℕ) → f ≤ g → g ≤ h → MakesOn a b f g → MakesOn b c g h → MakesOn a c f h
makes_on_then None b c f g h first last m n = subst (λ o. MakesOn o c g h) m n
makes_on_then (Some a) b c f g h first last m n =
    let x : MakesOn (Some m.0) c g h = subst (λ o. MakesOn o c g h) m.1 n in
    (x.0, x.1, makes_then a m.0 x.0 f g h first last m.2 x.2)

-- a device that wasn't called
pub unmade : (calls : Option Calls) (f : ℕ) → MakesOn calls calls f f
unmade None f = refl
unmade (Some calls) f = (calls, refl, record { failing = refl; made = omega arith; fault = λ h. absurd (omega arith); fails = λ number h k is. absurd (omega arith) })

-- a device that lost nothing
pub loses_none : (calls : Option Calls) (n : ℕ) → Loses calls n n
loses_none None n = omega arith
loses_none (Some calls) n = refl

loses_then : (a b c : Option Calls) (f g l m n : ℕ) → MakesOn a b f g → Loses a l m → Loses b m n → Loses a l n
loses_then None b c f g l m n made first last = let more : m ≤ n = subst (λ (o : Option Calls). Loses o m n) made last in omega (arith, first, more)
loses_then (Some a) b c f g l m n made first last = let same : n ≡ m = subst (λ (o : Option Calls). Loses o m n) made.1 last in same ∙ first

opened_then : (a b c : Bool) → is_later a b ≡ true → is_later b c ≡ true → is_later a c ≡ true
opened_then true true c p q = q
opened_then true false c p q = absurd (cc)
opened_then false b c p q = refl

opened_same : (opened : Bool) → IsTrue (is_later opened opened)
opened_same true = refl
opened_same false = refl

-- a level in two steps
pub later_then : (a b c : Level) → Later a b → Later b c → Later a c
later_then a b c s t = record {
  faults = omega (arith, s.faults, t.faults);
  losses = loses_then a.calls b.calls c.calls a.faults b.faults a.losses b.losses c.losses s.calls s.losses t.losses;
  calls = makes_on_then a.calls b.calls c.calls a.faults b.faults c.faults s.faults t.faults s.calls t.calls;
  opened = opened_then a.opened b.opened c.opened s.opened t.opened;
}

-- a level that wasn't moved
pub later_same : (v : Level) → Later v v
later_same v = record { faults = omega arith; losses = loses_none v.calls v.losses; calls = unmade v.calls v.faults; opened = opened_same v.opened }

-- a device that is new
pub new_calls : (calls : Counted) (failing : List ℕ) → ((number : ℕ) → fails_at calls number ≡ list_any (eq_by_cmp nat_cmp number) failing) → calls.made ≡ 0 → calls_of calls ≡ calls_failing failing
new_calls calls failing fails made =
    let same : numbers_of calls.failing.keys ≡ numbers_of failing = set.same_set nat_cmp_total set.nat_cmp-IsAntisymmetric (numbers_of calls.failing.keys) (numbers_of failing)
    (λ q. listed calls q ∙ fails q ∙ sym (set.contains-from_list nat_cmp_total failing q)) in
    λ i. record { failing = same i; made = made i }
