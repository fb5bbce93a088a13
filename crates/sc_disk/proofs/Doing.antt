-- Changes of a disk one after another.
use Rattle.std.proofs.Common.{◌≡◌, List, [], ◌∷◌, ◌++◌, Option, Some, None, option_map, refl, sym, ap, ◌∙◌, subst, arith, append_assoc}
use Rattle.sc_entry.specs.Causes.{IfTold}
use Rattle.sc_disk.specs.Disks.{Changes, DiskFiles, DiskRecord, DiskState, Does, change, did_all, files_now, replay}
use Rattle.sc_disk.specs.declared.change.Change.{Change}
use Rattle.sc_disk.proofs.Devices.{makes_counts, makes_on_then, unmade}

did-none : (a : Option DiskRecord) → a ≡ option_map (did_all []) a
did-none None = refl
did-none (Some r) = refl

did-after : (a b c : Option DiskRecord) (xs ys : List Change) → b ≡ option_map (did_all xs) a → c ≡ option_map (did_all ys) b → c ≡ option_map (did_all (ys ++ xs)) a
did-after None b c xs ys p q = q ∙ ap (option_map (did_all ys)) p
did-after (Some r) b c xs ys p q = q ∙ ap (option_map (did_all ys)) p ∙ ap (λ (l : List Change). Some (record { outside = r.outside; first = r.first; done = l })) (sym (append_assoc ys xs r.done))

pub does-none : (d : DiskState) → Does [] d d
does-none d = record { told = did-none d.told; faults = omega arith; calls = unmade d.calls d.faults; root = refl; divided = refl; letters = refl }

pub does-after : (a b c : DiskState) (xs ys : List Change) → Does xs a b → Does ys b c → Does (ys ++ xs) a c
does-after a b c xs ys p q = record {
  told = did-after a.told b.told c.told xs ys p.told q.told;
  faults = omega (arith, p.faults, q.faults);
  calls = makes_on_then a.calls b.calls c.calls a.faults b.faults c.faults p.faults q.faults p.calls q.calls;
  root = q.root ∙ p.root;
  divided = q.divided ∙ p.divided;
  letters = q.letters ∙ p.letters;
}

pub changes-of : (a b : DiskState) (xs : List Change) → Does xs a b → Changes xs a b
changes-of a b xs p = record { told = p.told; faults = p.faults; calls = makes_counts a.calls b.calls a.faults b.faults p.calls; root = p.root; divided = p.divided; letters = p.letters }

-- the same disk, which tells no calls
abbrev pub mute : DiskState → DiskState
mute d = record d { calls = None }

pub does-muted : (a b : DiskState) (xs : List Change) → Changes xs a b → Does xs (mute a) (mute b)
does-muted a b xs p = record { told = p.told; faults = p.faults; calls = refl; root = p.root; divided = p.divided; letters = p.letters }

pub does-then : (a b c : DiskState) (xs : List Change) (x : Change) → Does xs a b → Does (x ∷ []) b c → Does (x ∷ xs) a c
does-then a b c xs x p q = does-after a b c xs (x ∷ []) p q

pub does-still : (a b c : DiskState) (xs : List Change) → Does xs a b → Does [] b c → Does xs a c
does-still a b c xs p q = does-after a b c xs [] p q

pub does-as : (a a2 b : DiskState) (xs ys : List Change) → a ≡ a2 → xs ≡ ys → Does xs a b → Does ys a2 b
does-as a a2 b xs ys e f p = subst (λ (d : DiskState). Does ys d b) e (subst (λ (l : List Change). Does l a b) f p)

-- what was told of the files, after a change
told_by : (o n : Option DiskRecord) (x : Change) (P Q : DiskFiles → Type 0) → n ≡ option_map (did_all (x ∷ [])) o → ((f : DiskFiles) → P f → Q (change x f)) → IfTold o (λ r. P (files_now r)) → IfTold n (λ r. Q (files_now r))
told_by None n x P Q is step p = subst (λ (o : Option DiskRecord). IfTold o (λ r. Q (files_now r))) (sym is) tt
told_by (Some r) n x P Q is step p = subst (λ (o : Option DiskRecord). IfTold o (λ r. Q (files_now r))) (sym is) (step (files_now r) p)

told_still : (o n : Option DiskRecord) (P : DiskFiles → Type 0) → n ≡ option_map (did_all []) o → IfTold o (λ r. P (files_now r)) → IfTold n (λ r. P (files_now r))
told_still None n P is p = subst (λ (o : Option DiskRecord). IfTold o (λ r. P (files_now r))) (sym is) tt
told_still (Some r) n P is p = subst (λ (o : Option DiskRecord). IfTold o (λ r. P (files_now r))) (sym is) p

pub told-after : (old new : DiskState) (x : Change) (P Q : DiskFiles → Type 0) → Does (x ∷ []) old new → ((f : DiskFiles) → P f → Q (change x f)) → IfTold old.told (λ r. P (files_now r)) → IfTold new.told (λ r. Q (files_now r))
told-after old new x P Q is step p = told_by old.told new.told x P Q is.told step p

pub told-still : (old new : DiskState) (P : DiskFiles → Type 0) → Does [] old new → IfTold old.told (λ r. P (files_now r)) → IfTold new.told (λ r. P (files_now r))
told-still old new P is p = told_still old.told new.told P is.told p

-- one fact of the files and another
told_both : (o : Option DiskRecord) (P Q : DiskFiles → Type 0) → IfTold o (λ r. P (files_now r)) → IfTold o (λ r. Q (files_now r)) → IfTold o (λ r. P (files_now r) × Q (files_now r))
told_both None P Q p q = tt
told_both (Some r) P Q p q = (p, q)

pub told-both : (d : DiskState) (P Q : DiskFiles → Type 0) → IfTold d.told (λ r. P (files_now r)) → IfTold d.told (λ r. Q (files_now r)) → IfTold d.told (λ r. P (files_now r) × Q (files_now r))
told-both d P Q p q = told_both d.told P Q p q

told_map : (o : Option DiskRecord) (P Q : DiskFiles → Type 0) → ((f : DiskFiles) → P f → Q f) → IfTold o (λ r. P (files_now r)) → IfTold o (λ r. Q (files_now r))
told_map None P Q step p = tt
told_map (Some r) P Q step p = step (files_now r) p

pub told-map : (d : DiskState) (P Q : DiskFiles → Type 0) → ((f : DiskFiles) → P f → Q f) → IfTold d.told (λ r. P (files_now r)) → IfTold d.told (λ r. Q (files_now r))
told-map d P Q step p = told_map d.told P Q step p

pub replay-append : (f : DiskFiles) (xs ys : List Change) → replay f (xs ++ ys) ≡ replay (replay f ys) xs
replay-append f [] ys = refl
replay-append f (x ∷ xs) ys = ap (change x) (replay-append f xs ys)

told_all : (o n : Option DiskRecord) (xs : List Change) (P Q : DiskFiles → Type 0) → n ≡ option_map (did_all xs) o → ((f : DiskFiles) → P f → Q (replay f xs)) → IfTold o (λ r. P (files_now r)) → IfTold n (λ r. Q (files_now r))
told_all None n xs P Q is step p = subst (λ (o : Option DiskRecord). IfTold o (λ r. Q (files_now r))) (sym is) tt
told_all (Some r) n xs P Q is step p = subst (λ (o : Option DiskRecord). IfTold o (λ r. Q (files_now r))) (sym is) (subst Q (sym (replay-append r.first xs r.done)) (step (files_now r) p))

-- what was told of the files, after many changes
pub told-all : (old new : DiskState) (xs : List Change) (P Q : DiskFiles → Type 0) → Does xs old new → ((f : DiskFiles) → P f → Q (replay f xs)) → IfTold old.told (λ r. P (files_now r)) → IfTold new.told (λ r. Q (files_now r))
told-all old new xs P Q is step p = told_all old.told new.told xs P Q is.told step p
