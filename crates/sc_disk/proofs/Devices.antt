-- A call of a device in memory is counted, and fails where it is to fail or what it needs is absent.
use Rattle.std.proofs.Common.{◌≡◌, ℕ, zero, suc, ◌-◌, ◌^◌, ◌<◌, ◌≤◌, ◌||◌, Bool, true, false, Option, None, Some, refl, arith, subst, sym, ap, ◌∙◌}
use Rattle.sc_entry.specs.Causes.{Rose}
use Rattle.sc_entry.specs.Failing.{fails_at, faults_after, one_more}
use Rattle.sc_entry.specs.declared.calls.Calls.{Calls}
use Rattle.sc_disk.specs.Devices.{Counts, CountsOn, Makes, MakesOn}
use Rattle.sc_disk.specs.Memory.{Counts as Counted}

-- a call that isn't refused leaves the count of faults
refused_at : (refused : Bool) (f g : ℕ) → g ≡ faults_after refused f → f < g → refused ≡ true
refused_at true f g e h = refl
refused_at false f g e h = absurd (omega arith)

rose_at : (refused : Bool) (f g : ℕ) → g ≡ faults_after refused f → refused ≡ true → Rose f g
rose_at true f g e h = subst (λ n. Rose f n) (sym e) (omega arith)
rose_at false f g e h = absurd (cc)

next_is : (made later number : ℕ) → later ≡ one_more made → made < number → number ≤ later → number ≡ later
next_is made later number e h k = omega arith

fails_first : (fails absent : Bool) → fails ≡ true → (fails || absent) ≡ true
fails_first true absent h = refl
fails_first false absent h = absurd (cc)

not_absent : (fails absent : Bool) → absent ≡ false → (fails || absent) ≡ fails
not_absent true false h = refl
not_absent false false h = refl
not_absent fails true h = absurd (cc)

passes_so : (fails absent refused : Bool) → refused ≡ (fails || absent) → refused ≡ false → absent ≡ false
passes_so true absent refused e h = cc
passes_so false true refused e h = cc
passes_so false false refused e h = refl

counts : (old new : Calls) (absent refused : Bool) → old.made < 2 ^ 64 → Counted absent old new refused → Counts old new old.faults new.faults
counts old new absent refused within c = record {
  failing = c.failing;
  made = omega (arith, c.made);
  fails = λ number h k is. rose_at refused old.faults new.faults c.faults
      (c.refused ∙ fails_first (fails_at old new.made) absent (ap (λ n. fails_at old n) (sym (next_is old.made new.made number c.made h k)) ∙ is));
}

pub call_counts : (old new : Calls) (absent refused : Bool) → old.made < 2 ^ 64 → Counted absent old new refused → CountsOn (Some old) (Some new) old.faults new.faults
call_counts old new absent refused within c = (new, refl, counts old new absent refused within c)

pub call_makes : (old new : Calls) (absent refused : Bool) → old.made < 2 ^ 64 → Counted absent old new refused → absent ≡ false → MakesOn (Some old) (Some new) old.faults new.faults
call_makes old new absent refused within c present = (
  new,
  refl,
  record {
    counts = counts old new absent refused within c;
    fault = λ h. (
      new.made,
      omega (arith, c.made),
      omega arith,
      sym (not_absent (fails_at old new.made) absent present) ∙ sym c.refused ∙ refused_at refused old.faults new.faults c.faults h,
    );
  },
)

pub call_passes : (old new : Calls) (absent refused : Bool) → old.made < 2 ^ 64 → Counted absent old new refused → refused ≡ false → MakesOn (Some old) (Some new) old.faults new.faults
call_passes old new absent refused within c passes = call_makes old new absent refused within c (passes_so (fails_at old new.made) absent refused c.refused passes)

by_order : {P : Type 0} (a b : ℕ) → (a < b → P) → (b ≤ a → P) → P
by_order zero zero less more = more (omega arith)
by_order zero (suc b) less more = less (omega arith)
by_order (suc a) zero less more = more (omega arith)
by_order (suc a) (suc b) less more = by_order a b (λ h. less (omega arith)) (λ h. more (omega arith))

-- calls in two steps
counts_then : (a b c : Calls) (f g h : ℕ) → f ≤ g → g ≤ h → Counts a b f g → Counts b c g h → Counts a c f h
counts_then a b c f g h first last m n = record {
  failing = λ number. n.failing number ∙ m.failing number;
  made = omega (arith, m.made, n.made);
  fails = λ number late early is. by_order b.made number
      (λ less. let x : Rose g h = n.fails number less early (m.failing number ∙ is) in omega (arith, x, first))
      (λ more. let x : Rose f g = m.fails number late more is in omega (arith, x, last));
}

makes_then : (a b c : Calls) (f g h : ℕ) → f ≤ g → g ≤ h → Makes a b f g → Makes b c g h → Makes a c f h
makes_then a b c f g h first last m n = record {
  counts = counts_then a b c f g h first last m.counts n.counts;
  fault = λ rose. by_order f g
      (λ less. let x = m.fault less in (x.0, x.1, omega (arith, x.2, n.counts.made), x.3))
      (λ more. let x = n.fault (omega (arith, rose, more, first)) in (x.0, omega (arith, x.1, m.counts.made), x.2, sym (m.counts.failing x.0) ∙ x.3));
}

pub makes_on_then : (a b c : Option Calls) (f g h : ℕ) → f ≤ g → g ≤ h → MakesOn a b f g → MakesOn b c g h → MakesOn a c f h
makes_on_then None b c f g h first last m n = subst (λ o. MakesOn o c g h) m n
makes_on_then (Some a) b c f g h first last m n =
    let x : MakesOn (Some m.0) c g h = subst (λ o. MakesOn o c g h) m.1 n in
    (x.0, x.1, makes_then a m.0 x.0 f g h first last m.2 x.2)

-- a device that wasn't called
pub unmade : (calls : Option Calls) (f : ℕ) → MakesOn calls calls f f
unmade None f = refl
unmade (Some calls) f = (calls, refl, record { counts = record { failing = λ number. refl; made = omega arith; fails = λ number h k is. absurd (omega arith) }; fault = λ h. absurd (omega arith) })

pub makes_counts : (a b : Option Calls) (f g : ℕ) → MakesOn a b f g → CountsOn a b f g
makes_counts None b f g m = m
makes_counts (Some a) b f g m = (m.0, m.1, m.2.counts)

-- a call that is to fail
pub counted_listed : (old new : Calls) (absent fails : Bool) → fails ≡ fails_at old new.made → ((number : ℕ) → fails_at new number ≡ fails_at old number) → new.made ≡ one_more old.made → new.faults ≡ faults_after fails old.faults → fails ≡ true → Counted absent old new true
counted_listed old new absent fails answer failing made faults is = record {
  made = made;
  failing = failing;
  refused = sym (fails_first (fails_at old new.made) absent (sym answer ∙ is));
  faults = faults ∙ ap (λ b. faults_after b old.faults) is;
}

-- one that isn't, and misses what it needs
pub counted_missing : (old mid new : Calls) (absent fails : Bool) → fails ≡ fails_at old mid.made → ((number : ℕ) → fails_at mid number ≡ fails_at old number) → mid.made ≡ one_more old.made → mid.faults ≡ faults_after fails old.faults → fails ≡ false → absent ≡ true
    → ((number : ℕ) → fails_at new number ≡ fails_at mid number) → new.made ≡ mid.made → new.faults ≡ one_more mid.faults → Counted absent old new true
counted_missing old mid new absent fails answer failing made faults is missing failing2 made2 faults2 = record {
  made = made2 ∙ made;
  failing = λ number. failing2 number ∙ failing number;
  refused = sym (missed (fails_at old new.made) absent missing);
  faults = faults2 ∙ ap one_more (faults ∙ ap (λ b. faults_after b old.faults) is);
}
  where
    missed : (fails absent : Bool) → absent ≡ true → (fails || absent) ≡ true
    missed true absent h = refl
    missed false absent h = h

-- one that passes
pub counted_passing : (old new : Calls) (absent fails : Bool) → fails ≡ fails_at old new.made → ((number : ℕ) → fails_at new number ≡ fails_at old number) → new.made ≡ one_more old.made → new.faults ≡ faults_after fails old.faults → fails ≡ false → absent ≡ false → Counted absent old new absent
counted_passing old new absent fails answer failing made faults is present = record {
  made = made;
  failing = failing;
  refused = sym (not_absent (fails_at old new.made) absent present ∙ sym answer ∙ is ∙ sym present);
  faults = faults ∙ ap (λ b. faults_after b old.faults) (is ∙ sym present);
}
