-- What a call of one of two disks is to both, by its answer.
use Rattle.std.proofs.Common.{◌≡◌, ℕ, List, Result, Ok, Err, IfOk, OnOk, OnErr, sym, ap, ◌∙◌, subst}
use Rattle.sc_disk.specs.Disks.{DiskCause, DiskState}
use Rattle.sc_disk.specs.declared.disk.DiskError.{DiskError}
use Rattle.sc_disk.specs.declared.disk.DiskError.TheVariants as disk_errors
use Rattle.sc_disk_pair.specs.Parts.{in_part}
use Rattle.sc_disk_pair.specs.Twos.{Past, TwoState, joined_state}
use Rattle.sc_disk_pair.specs.declared.part.Part.{Part}
use Rattle.sc_disk_pair.proofs.Weaving.{pair, rose-main, rose-pre}

pub either : {T E : Type 0} (r : Result T E) (A B P : Type 0) → OnOk r A → OnErr r B → (A → P) → (B → P) → P
either (Ok x) A B P a b f g = f a
either (Err e) A B P a b f g = g b

pub on_ok : {T E : Type 0} (r : Result T E) (A B : Type 0) → (A → B) → OnOk r A → OnOk r B
on_ok (Ok x) A B f a = f a
on_ok (Err e) A B f a = tt

pub on_err : {T E : Type 0} (r : Result T E) (A B : Type 0) → (A → B) → OnErr r A → OnErr r B
on_err (Ok x) A B f a = tt
on_err (Err e) A B f a = f a

pub if_ok : {T E : Type 0} (r : Result T E) (P Q : T → Type 0) → ((x : T) → P x → Q x) → IfOk r P → IfOk r Q
if_ok (Ok x) P Q f p = f x p
if_ok (Err e) P Q f p = tt

-- a fact of a part's path and of the disks before, as one of the path that was given
pub given : (R : List ℕ → DiskState → Type 0) (q r : List ℕ) (part to : Part) (a b c : TwoState) → q ≡ in_part part r → part ≡ to → a ≡ b → b ≡ c → R (in_part to r) (joined_state a) → R q (joined_state c)
given R q r part to a b c e f g h x = subst (λ w. R q (joined_state w)) (g ∙ h) (subst (λ u. R u (joined_state a)) (sym (e ∙ ap (λ t. in_part t r) f)) x)

pub before : (R : DiskState → Type 0) (a b c : TwoState) → a ≡ b → b ≡ c → R (joined_state a) → R (joined_state c)
before R a b c g h x = subst (λ w. R (joined_state w)) (g ∙ h) x

pub cause-main : {T : Type 0} (m n p : DiskState) (k : ℕ) (past now : Past) (r : Result T DiskError) → DiskCause m n r → DiskCause (pair m p k past) (pair n p k now) r
cause-main m n p k past now (Ok x) h = tt
cause-main m n p k past now (Err disk_errors.Fault) h = rose-main m.faults n.faults p.faults k h
cause-main m n p k past now (Err disk_errors.NoMemory) h = tt

pub cause-pre : {T : Type 0} (m p n : DiskState) (k : ℕ) (past now : Past) (r : Result T DiskError) → DiskCause p n r → DiskCause (pair m p k past) (pair m n k now) r
cause-pre m p n k past now (Ok x) h = tt
cause-pre m p n k past now (Err disk_errors.Fault) h = rose-pre m.faults p.faults n.faults k h
cause-pre m p n k past now (Err disk_errors.NoMemory) h = tt
