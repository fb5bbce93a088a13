-- Each file of two joined disks is of one of the parts.
use Rattle.std.proofs.Common.{◌≡◌, inl, inr, true, is_some, List, [], Option, Some, None, refl, sym, ap, ◌∙◌, subst, ℕ}
use Rattle.sc_entry.specs.Causes.{IfTold}
use Rattle.sc_disk.specs.Disks.{DiskFiles, DiskRecord, Does, IsHeld, disk_file_at, files_now, has_place}
use Rattle.sc_disk.specs.declared.disk_file.DiskFile.{DiskFile}
use Rattle.sc_disk_pair.specs.Parts.{ArePlaced, cut_part, in_part, joined}
use Rattle.sc_disk_pair.specs.Twos.{IsJoint, Refuses, TwoState, joined_state}
use Rattle.sc_disk_pair.specs.declared.part.Part.{Part}
use Rattle.sc_disk_pair.specs.declared.part.Part.TheVariants.{Main, Pre}
use Rattle.sc_disk_pair.proofs.Joined.{Kind, at-neither, kind_of}
use Rattle.sc_disk_pair.proofs.Weaving.{by_told, does-untold, refused}

cut-in : (part : Part) (r : List ℕ) → cut_part (in_part part r) ≡ Some (part, r)
cut-in Main r = refl
cut-in Pre r = refl

not_cut : (o : Option (Part × List ℕ)) (p : Part × List ℕ) → o ≡ Some p → o ≡ None → ⊥
not_cut o p e n = cc

by_kind : (f g : DiskFiles) (q : List ℕ) → cut_part q ≡ None → Kind q → disk_file_at (joined f g) q ≡ None
by_kind f g q none (inl (part, r, e)) = absurd (not_cut (cut_part q) (part, r) (ap cut_part e ∙ cut-in part r) none)
by_kind f g q none (inr (apart, cut)) = at-neither f g q apart

placed-joined : (f g : DiskFiles) → ArePlaced (joined f g)
placed-joined f g q none = by_kind f g q none (kind_of q)

pub placed-told : (told main pre : Option DiskRecord) → IfTold told (IsJoint main pre) → IfTold told (λ r. ArePlaced (files_now r))
placed-told None main pre h = tt
placed-told (Some r) main pre h = subst ArePlaced (sym h.files) (placed-joined (files_now h.a) (files_now h.b))

-- a path that is of neither part isn't held
lost : (told m p : Option DiskRecord) (q : List ℕ) (r : DiskRecord) → told ≡ Some r → IfTold told (IsJoint m p) → cut_part q ≡ None → IfTold told (λ r. is_some (disk_file_at (files_now r) q) ≡ true) → ⊥
lost None m p q r is joint none held = cc
lost (Some s) m p q r is joint none held = absent (disk_file_at (files_now s) q) (placed-told (Some s) m p joint q none) held
  where
    absent : (o : Option DiskFile) → o ≡ None → is_some o ≡ true → ⊥
    absent None e h = cc
    absent (Some x) e h = cc

pub held-neither : (t u : TwoState) (q : List ℕ) → IfTold t.told (IsJoint t.main.told t.pre.told) → cut_part q ≡ None → Refuses t u → IsHeld q (joined_state t) → Does [] (joined_state t) (joined_state u)
held-neither t u q joint none is held = by_told t.told (Does [] (joined_state t) (joined_state u)) (λ untold. does-untold t u [] untold (refused t u is)) (λ r told. absurd (lost t.told t.main.told t.pre.told q r told joint none held))

-- there is a place for every path of a part
pub has-part : (t : TwoState) (part : Part) (q : List ℕ) → has_place (joined_state t) (in_part part q) ≡ true
has-part t Main q = refl
has-part t Pre q = refl
