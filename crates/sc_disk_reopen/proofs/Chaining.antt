-- Changes of a disk one after another, where its count of faults may also rise at calls that were not to fail.
use Rattle.std.proofs.Common.{◌≡◌, ℕ, ◌<◌, ◌≤◌, true, false, nat_le, List, ◌++◌, Option, Some, None, refl, ◌∙◌, subst, arith}
use Rattle.std.proofs.lemmas.Bool.Decides.{nat_tests}
use Rattle.sc_entry.specs.Causes.{Rose}
use Rattle.sc_entry.specs.declared.calls.Calls.{Calls}
use Rattle.sc_disk.specs.Devices.{Counts, CountsOn}
use Rattle.sc_disk.specs.Disks.{Changes, DiskState}
use Rattle.sc_disk.specs.declared.change.Change.{Change}
use Rattle.sc_disk.proofs.Doing.{does-after, does-muted, mute}

early : (a b : ℕ) → nat_le a b ≡ true → a ≤ b
early a b h = grind (arith, nat_tests)

late : (a b : ℕ) → nat_le a b ≡ false → b < a
late a b h = grind (arith, nat_tests)

counts : (a b c : Calls) (f g h : ℕ) → f ≤ g → g ≤ h → Counts a b f g → Counts b c g h → Counts a c f h
counts a b c f g h first last m n = record {
  failing = λ number. n.failing number ∙ m.failing number;
  made = omega (arith, m.made, n.made);
  fails = λ number after upto is. (elim (nat_le number b.made) as (λ t. nat_le number b.made ≡ t → Rose f h) [
    | true ↦ λ t. let rose : Rose f g = m.fails number after (early number b.made t) is in omega (arith, rose, last)
    | false ↦ λ t. let rose : Rose g h = n.fails number (late number b.made t) upto (m.failing number ∙ is) in omega (arith, rose, first)
  ]) refl;
}

counts-on : (a b c : Option Calls) (f g h : ℕ) → f ≤ g → g ≤ h → CountsOn a b f g → CountsOn b c g h → CountsOn a c f h
counts-on None b c f g h first last m n = subst (λ o. CountsOn o c g h) m n
counts-on (Some a) b c f g h first last m n = let x : CountsOn (Some m.0) c g h = subst (λ o. CountsOn o c g h) m.1 n in (x.0, x.1, counts a m.0 x.0 f g h first last m.2 x.2)

pub changes-after : (a b c : DiskState) (xs ys : List Change) → Changes xs a b → Changes ys b c → Changes (ys ++ xs) a c
changes-after a b c xs ys p q = let d = does-after (mute a) (mute b) (mute c) xs ys (does-muted a b xs p) (does-muted b c ys q) in record {
  told = d.told;
  faults = d.faults;
  calls = counts-on a.calls b.calls c.calls a.faults b.faults c.faults p.faults q.faults p.calls q.calls;
  root = d.root;
  divided = d.divided;
  letters = d.letters;
}
