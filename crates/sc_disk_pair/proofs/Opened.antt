-- What the test of an open entry tells.
use Rattle.std.proofs.Common.{◌≡◌, Bool, true, false, ◌&&◌, bytes_eq, Option, Some, None, refl}
use mathlib.Core.Bool.{beq}
use Rattle.sc_disk.specs.Store.{AddEntry, IsOpen, Store, is_open, is_open_slot}
use Rattle.sc_disk.specs.declared.pending.Pending.{Pending}
use Rattle.sc_disk.proofs.Files.{same_path}

both_true : (a b : Bool) → (a && b) ≡ true → (a ≡ true) × (b ≡ true)
both_true true b h = (refl, h)
both_true false b h = absurd (cc)

same_bool : (a b : Bool) → beq a b ≡ true → a ≡ b
same_bool true true h = refl
same_bool true false h = cc
same_bool false true h = cc
same_bool false false h = refl

open_slot : (o : Option Pending) (e : AddEntry) (d : Bool) → (is_open_slot o e.key && beq e.divided d) ≡ true → (p : Pending) × (o ≡ Some p) × (p.key ≡ e.key) × (e.divided ≡ d)
open_slot None e d h = cc
open_slot (Some p) e d h = let t = both_true (bytes_eq p.key e.key) (beq e.divided d) h in (p, refl, same_path p.key e.key t.0, same_bool e.divided d t.1)

pub open-tested : (s : Store) (e : AddEntry) → is_open s e ≡ true → IsOpen s e
open-tested s e h = open_slot _ e s.disk.divided h
