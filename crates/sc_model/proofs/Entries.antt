-- What an event leaves in a level was there before, or it put it there.
use Rattle.std.proofs.Common.{◌≡◌, ℕ, ◌+◌, ◌⊎◌, ⊎_elim, inl, inr, Bool, true, false, cond, List, [], ◌∷◌, length, drop, Option, Some, None, refl, sym, ap, ◌∙◌, subst}
use Rattle.sc_model.specs.Script.{Setup}
use Rattle.sc_model.specs.Evicting.{Evicts, drop_part}
use Rattle.sc_model.specs.Levels.{Files, IsFault, IsPart, Keeps_all, Level, drop_file, find_file, held, main_path, put_file}
use Rattle.sc_model.specs.WriteCauses.{Causes, causes}
use Rattle.sc_model.specs.Writing.{Commits_by, Evicts_unless, Fills_by, IsRefused, MovesLevel, Puts_pre, Puts_pre_by, Puts_pre_remote, Puts_remote, Puts_remote_by, Reserves_by}
use Rattle.sc_model.specs.declared.level.Store.TheVariants.{Disk as DiskStore, Remote as RemoteStore, Wrapper as WrapperStore}
use Rattle.sc_model.specs.declared.event.Mode.TheVariants.{Path, Pre, Raw, Size as Sizes, Whole}
use Rattle.sc_model.specs.declared.event.What.{What}
use Rattle.sc_model.specs.declared.event.What.TheVariants.{Asked, Committed, Filled, Reserved, Wrote}
use Rattle.sc_model.specs.declared.event.Written.{Written}
use Rattle.sc_model.specs.declared.event.Written.TheVariants.{Done as WriteDone, Refused as WriteRefused}
use Rattle.sc_model.specs.declared.level.Cause.{Cause}
use Rattle.sc_model.specs.declared.level.Cause.TheVariants.{BadEntry, BadKey, FileTooLarge, Io, ReadOnly as ForReading, RemoteFault as RemoteRefused, Reserved as NoRoom, NotOpen}
use Rattle.sc_model.specs.declared.level.LevelFacts.{LevelFacts}
use Rattle.sc_model.specs.declared.level.LevelKind.{LevelKind}
use Rattle.sc_model.specs.declared.level.LevelKind.TheVariants.{Disk, Remote}
use Rattle.std.proofs.lemmas.Bool.{cases_Bool}
use Rattle.std.specs.Cmp.Lexicographic.{nat_list_cmp_total, slice_cmp}
use Rattle.std.specs.FinMap.{get-insert, get-remove, nat_cmp-IsAntisymmetric, slice_cmp-IsAntisymmetric}
use Rattle.std.specs.Ordering.{eq_by_cmp, is_eq, nat_cmp}
use Rattle.std.specs.declared.cmp.Ordering.{Ordering}
use Rattle.std.specs.declared.cmp.Ordering.TheVariants.{Equal, Greater, Less}
use Rattle.sc_entry.specs.Causes.{Rose}
use Rattle.sc_entry.specs.Keys.{IsStoreKey, make_key_path, normalize_key}

is_equal : (o : Ordering) → is_eq o ≡ true → o ≡ Equal
is_equal Less e = (cc)
is_equal Equal e = refl
is_equal Greater e = (cc)

same_path : (p q : List ℕ) → eq_by_cmp (slice_cmp nat_cmp) p q ≡ true → p ≡ q
same_path p q e = slice_cmp-IsAntisymmetric nat_cmp-IsAntisymmetric p q (is_equal (slice_cmp nat_cmp p q) e)

key_drop : (k : List ℕ) → IsStoreKey k → drop 4 (make_key_path k) ≡ k
key_drop [] h = (cc)
key_drop (a ∷ []) h = (cc)
key_drop (a ∷ b ∷ []) h = (cc)
key_drop (a ∷ b ∷ c ∷ k) h = refl

normal_drop : (k : List ℕ) → IsStoreKey k → drop 6 (normalize_key k) ≡ k
normal_drop [] h = (cc)
normal_drop (a ∷ []) h = (cc)
normal_drop (a ∷ b ∷ []) h = (cc)
normal_drop (a ∷ b ∷ c ∷ k) h = refl

key_same : (k i : List ℕ) → IsStoreKey k → IsStoreKey i → make_key_path k ≡ make_key_path i → k ≡ i
key_same k i h g e = sym (key_drop k h) ∙ ap (drop 4) e ∙ key_drop i g

normal_same : (k i : List ℕ) → IsStoreKey k → IsStoreKey i → normalize_key k ≡ normalize_key i → k ≡ i
normal_same k i h g e = sym (normal_drop k h) ∙ ap (drop 6) e ∙ normal_drop i g

-- a put is seen at its path alone
put_seen : (files : Files) (q d p b : List ℕ) → find_file (put_file files q d) p ≡ Some b → (find_file files p ≡ Some b) ⊎ ((p ≡ q) × (d ≡ b))
put_seen files q d p b e =
    let g : cond (eq_by_cmp (slice_cmp nat_cmp) p q) (Some d) (find_file files p) ≡ Some b = sym (get-insert nat_list_cmp_total files q d p) ∙ e in
    ⊎_elim (λ (y : eq_by_cmp (slice_cmp nat_cmp) p q ≡ true).
    let z : Some d ≡ Some b = subst (λ v. cond v (Some d) (find_file files p) ≡ Some b) y g in
    inr (same_path p q y, (cc)))
    (λ (y : eq_by_cmp (slice_cmp nat_cmp) p q ≡ false). inl (subst (λ v. cond v (Some d) (find_file files p) ≡ Some b) y g))
    (cases_Bool (eq_by_cmp (slice_cmp nat_cmp) p q))

drop_part_of : (files : Files) (q p b : List ℕ) → find_file (drop_file files q) p ≡ Some b → find_file files p ≡ Some b
drop_part_of files q p b e =
    let g : cond (eq_by_cmp (slice_cmp nat_cmp) p q) None (find_file files p) ≡ Some b = sym (get-remove nat_list_cmp_total files q p) ∙ e in
    ⊎_elim (λ (y : eq_by_cmp (slice_cmp nat_cmp) p q ≡ true).
    let z : None ≡ Some b = subst (λ v. cond v None (find_file files p) ≡ Some b) y g in (cc))
    (λ (y : eq_by_cmp (slice_cmp nat_cmp) p q ≡ false). subst (λ v. cond v None (find_file files p) ≡ Some b) y g)
    (cases_Bool (eq_by_cmp (slice_cmp nat_cmp) p q))

evicts_part : (capacity n : ℕ) (ps : List (Bool × List ℕ)) (v w : Level) → Evicts capacity n ps v w → IsPart w.main v.main
evicts_part capacity n [] v w h p b e = ap (λ m. find_file m p) (sym h.0) ∙ e
evicts_part capacity n (q ∷ ps) v w h p b e = dropped (q.0) (evicts_part capacity n ps (drop_part (q.0) (q.1) v) w h.2 p b e)
  where
    dropped : (which : Bool) → find_file (drop_part which (q.1) v).main p ≡ Some b → find_file v.main p ≡ Some b
    dropped true g = drop_part_of v.main (q.1) p b g
    dropped false g = g

-- what an event puts
abbrev pub PutsAt : What → List ℕ → List ℕ → Type 0
PutsAt (Committed l i d WriteDone) k b = (i ≡ k) × (d ≡ b)
PutsAt (Wrote l i d Whole mark WriteDone) k b = (i ≡ k) × (d ≡ b)
PutsAt _ k b = ⊥

pub same_held : (kind : LevelKind) (v w : Level) (k b : List ℕ) → w.main ≡ v.main → held kind w k ≡ Some b → held kind v k ≡ Some b
same_held kind v w k b e h = ap (λ m. find_file m (main_path kind k)) (sym e) ∙ h

pub keeps_held : (kind : LevelKind) (v w : Level) (k b : List ℕ) → Keeps_all kind v w → held kind w k ≡ Some b → held kind v k ≡ Some b
keeps_held Disk v w k b h e = same_held Disk v w k b h.0 e
keeps_held Remote v w k b h e =
    ⊎_elim (λ (y : w.main ≡ v.main). same_held Remote v w k b y e) (λ (y : IsPart w.main v.main × Rose v.losses w.losses). y.0 (normalize_key k) b e) h.0

pub level_same : (kind : LevelKind) (v w : Level) (k b : List ℕ) → w ≡ v → held kind w k ≡ Some b → held kind v k ≡ Some b
level_same kind v w k b h e = same_held kind v w k b (ap (λ u. u.main) h) e

refused_held : (kind : LevelKind) (x : Causes) (c : Cause) (v w : Level) (k b : List ℕ) → IsRefused kind x c v w → (IsFault kind v w c → (held kind w k ≡ Some b → held kind v k ≡ Some b)) → held kind w k ≡ Some b → held kind v k ≡ Some b
refused_held kind x Io v w k b h g e = g h.1 e
refused_held kind x (RemoteRefused z) v w k b h g e = g h.1 e
refused_held kind x FileTooLarge v w k b h g e = keeps_held kind v w k b h.1 e
refused_held kind x NoRoom v w k b h g e = keeps_held kind v w k b h.1 e
refused_held kind x BadKey v w k b h g e = keeps_held kind v w k b h.1 e
refused_held kind x BadEntry v w k b h g e = keeps_held kind v w k b h.1 e
refused_held kind x (NotOpen z) v w k b h g e = keeps_held kind v w k b h.1 e
refused_held kind x (ForReading y) v w k b h g e = keeps_held kind v w k b h.1 e

evicts_held : (kind : LevelKind) (capacity n : ℕ) (v w : Level) (k b : List ℕ) → ((ps : List (Bool × List ℕ)) × Evicts capacity n ps v w) → held kind w k ≡ Some b → held kind v k ≡ Some b
evicts_held kind capacity n v w k b h e = evicts_part capacity n h.0 v w h.1 (main_path kind k) b e

unless_held : (kind : LevelKind) (x : Option Cause) (capacity n gone : ℕ) (v w : Level) (k b : List ℕ) → Evicts_unless x capacity n gone v w → held kind w k ≡ Some b → held kind v k ≡ Some b
unless_held kind None capacity n gone v w k b h e = evicts_held kind capacity n v w k b (h.0, h.1) e
unless_held kind (Some c) capacity n gone v w k b h e = same_held kind v w k b h.0.0 e

reserved_held : (kind : LevelKind) (gone capacity : ℕ) (x : Causes) (r n : ℕ) (how : Written) (v w : Level) (k b : List ℕ) → Reserves_by gone capacity x r n how v w → held kind w k ≡ Some b → held kind v k ≡ Some b
reserved_held kind gone capacity x r n WriteDone v w k b h e = unless_held kind x.all capacity (r + n) gone v w k b h.1 e
reserved_held kind gone capacity x r n (WriteRefused Io) v w k b h e = unless_held kind x.all capacity (r + n) gone v w k b h.2 e
reserved_held kind gone capacity x r n (WriteRefused (RemoteRefused z)) v w k b h e = absurd h.0.1
reserved_held kind gone capacity x r n (WriteRefused FileTooLarge) v w k b h e = same_held kind v w k b h.0.1.0 e
reserved_held kind gone capacity x r n (WriteRefused NoRoom) v w k b h e = same_held kind v w k b h.0.1.0 e
reserved_held kind gone capacity x r n (WriteRefused BadKey) v w k b h e = same_held kind v w k b h.0.1.0 e
reserved_held kind gone capacity x r n (WriteRefused BadEntry) v w k b h e = same_held kind v w k b h.0.1.0 e
reserved_held kind gone capacity x r n (WriteRefused (NotOpen z)) v w k b h e = same_held kind v w k b h.0.1.0 e
reserved_held kind gone capacity x r n (WriteRefused (ForReading y)) v w k b h e = same_held kind v w k b h.0.1.0 e

filled_held : (kind : LevelKind) (how : Written) (v w : Level) (k b : List ℕ) → Fills_by how v w → held kind w k ≡ Some b → held kind v k ≡ Some b
filled_held kind WriteDone v w k b h e = same_held kind v w k b h.0 e
filled_held kind (WriteRefused c) v w k b h e = same_held kind v w k b h.1.0 e

committed_held : (kind : LevelKind) (l : ℕ) (i d : List ℕ) (mark : Bool) (how : Written) (v w : Level) (k b : List ℕ) → IsStoreKey k → Commits_by kind i d mark how v w → held kind w k ≡ Some b → (held kind v k ≡ Some b) ⊎ PutsAt (Committed l i d how) k b
committed_held Disk l i d mark WriteDone v w k b s h e =
    ⊎_elim (λ (y : find_file v.main (make_key_path k) ≡ Some b). inl y) (λ (y : (make_key_path k ≡ make_key_path i) × (d ≡ b)). inr (sym (key_same k i s h.0 y.0), y.1))
    (put_seen v.main (make_key_path i) d (make_key_path k) b (ap (λ m. find_file m (make_key_path k)) (sym h.1) ∙ e))
committed_held Disk l i d mark (WriteRefused c) v w k b s h e = inl (same_held Disk v w k b h.1.0 e)
committed_held Remote l i d mark how v w k b s h e = absurd h

wrote_held : (l : ℕ) (i d : List ℕ) (mark : Bool) (x : Causes) (how : Written) (v w : Level) (k b : List ℕ) → IsStoreKey k → Puts_remote_by x i d how v w → held Remote w k ≡ Some b → (held Remote v k ≡ Some b) ⊎ PutsAt (Wrote l i d Whole mark how) k b
wrote_held l i d mark x WriteDone v w k b s h e =
    let seen : find_file (put_file v.main (normalize_key i) d) (normalize_key k) ≡ Some b =
    ⊎_elim (λ (y : w.main ≡ put_file v.main (normalize_key i) d). ap (λ m. find_file m (normalize_key k)) (sym y) ∙ e)
    (λ (y : IsPart w.main (put_file v.main (normalize_key i) d) × (held Remote w i ≡ Some d) × Rose v.losses w.losses). y.0 (normalize_key k) b e) h.3 in
    ⊎_elim (λ (y : find_file v.main (normalize_key k) ≡ Some b). inl y) (λ (y : (normalize_key k ≡ normalize_key i) × (d ≡ b)). inr (sym (normal_same k i s h.0 y.0), y.1))
    (put_seen v.main (normalize_key i) d (normalize_key k) b seen)
wrote_held l i d mark x (WriteRefused c) v w k b s h e = inl (keeps_held Remote v w k b h.1 e)

wrote_at_held : (kind : LevelKind) (l : ℕ) (i d : List ℕ) (mark : Bool) (x : Causes) (how : Written) (v w : Level) (k b : List ℕ) → IsStoreKey k → Puts_remote kind x i d mark how v w → held kind w k ≡ Some b → (held kind v k ≡ Some b) ⊎ PutsAt (Wrote l i d Whole mark how) k b
wrote_at_held Remote l i d mark x how v w k b s h e = wrote_held l i d mark x how v w k b s h.0 e
wrote_at_held Disk l i d mark x how v w k b s h e = absurd h

pre_disk_held : (gone capacity : ℕ) (x : Causes) (r : ℕ) (i d : List ℕ) (how : Written) (v w : Level) (k b : List ℕ) → Puts_pre_by gone capacity x r i d how v w → held Disk w k ≡ Some b → held Disk v k ≡ Some b
pre_disk_held gone capacity x r i d WriteDone v w k b h e =
    let u = h.1.0 in unless_held Disk x.all capacity (r + length d) gone v u k b h.1.1 (ap (λ m. find_file m (make_key_path k)) (sym h.1.2) ∙ e)
pre_disk_held gone capacity x r i d (WriteRefused Io) v w k b h e = unless_held Disk x.all capacity (r + length d) gone v w k b h.2 e
pre_disk_held gone capacity x r i d (WriteRefused (RemoteRefused z)) v w k b h e = absurd h.0.1
pre_disk_held gone capacity x r i d (WriteRefused FileTooLarge) v w k b h e = keeps_held Disk v w k b h.0.1 e
pre_disk_held gone capacity x r i d (WriteRefused NoRoom) v w k b h e = keeps_held Disk v w k b h.0.1 e
pre_disk_held gone capacity x r i d (WriteRefused BadKey) v w k b h e = keeps_held Disk v w k b h.0.1 e
pre_disk_held gone capacity x r i d (WriteRefused BadEntry) v w k b h e = keeps_held Disk v w k b h.0.1 e
pre_disk_held gone capacity x r i d (WriteRefused (NotOpen z)) v w k b h e = keeps_held Disk v w k b h.0.1 e
pre_disk_held gone capacity x r i d (WriteRefused (ForReading y)) v w k b h e = keeps_held Disk v w k b h.0.1 e

pre_remote_held : (wrapped : Bool) (how : Written) (v w : Level) (k b : List ℕ) → Puts_pre_remote wrapped how v w → held Remote w k ≡ Some b → held Remote v k ≡ Some b
pre_remote_held false WriteDone v w k b h e = keeps_held Remote v w k b h.0 e
pre_remote_held true WriteDone v w k b h e = absurd h
pre_remote_held false (WriteRefused c) v w k b h e = absurd h
pre_remote_held true (WriteRefused (ForReading WrapperStore)) v w k b h e = level_same Remote v w k b h e
pre_remote_held true (WriteRefused (ForReading DiskStore)) v w k b h e = absurd h
pre_remote_held true (WriteRefused (ForReading RemoteStore)) v w k b h e = absurd h
pre_remote_held true (WriteRefused Io) v w k b h e = absurd h
pre_remote_held true (WriteRefused (RemoteRefused z)) v w k b h e = absurd h
pre_remote_held true (WriteRefused FileTooLarge) v w k b h e = absurd h
pre_remote_held true (WriteRefused NoRoom) v w k b h e = absurd h
pre_remote_held true (WriteRefused BadKey) v w k b h e = absurd h
pre_remote_held true (WriteRefused (NotOpen z)) v w k b h e = absurd h
pre_remote_held true (WriteRefused BadEntry) v w k b h e = absurd h

pre_held : (f : LevelFacts) (kind : LevelKind) (x : Causes) (r : ℕ) (i d : List ℕ) (how : Written) (v w : Level) (k b : List ℕ) → Puts_pre f kind x r i d how v w → held kind w k ≡ Some b → held kind v k ≡ Some b
pre_held f Disk x r i d how v w k b h e = pre_disk_held h.0 f.capacity x r i d how v w k b h.1 e
pre_held f Remote x r i d how v w k b h e = pre_remote_held f.wrapped how v w k b h e

-- what a level holds after its event
pub level_held : (s : Setup) (f : LevelFacts) (r : ℕ) (entry_mark : Bool) (x : What) (v w : Level) (k b : List ℕ) → IsStoreKey k → MovesLevel s f r entry_mark x v w → held f.kind w k ≡ Some b → (held f.kind v k ≡ Some b) ⊎ PutsAt x k b
level_held s f r em (Asked l i mode a hs) v w k b st h e = inl (keeps_held f.kind v w k b h.keeps e)
level_held s f r em (Reserved l i n how) v w k b st h e = inl (reserved_held f.kind h.1.0 f.capacity (causes s.policy f r i n) r n how v w k b h.1.1 e)
level_held s f r em (Filled l i d mark how) v w k b st h e = inl (filled_held f.kind how v w k b h.1.0 e)
level_held s f r em (Committed l i d how) v w k b st h e = committed_held f.kind l i d em how v w k b st h.1.0 e
level_held s f r em (Wrote l i d Whole mark how) v w k b st h e = wrote_at_held f.kind l i d mark (causes s.policy f r i (length d)) how v w k b st h.1 e
level_held s f r em (Wrote l i d Pre mark how) v w k b st h e = inl (pre_held f f.kind (causes s.policy f r i (length d)) r i d how v w k b h.1 e)
level_held s f r em (Wrote l i d Raw mark how) v w k b st h e = absurd h.1
level_held s f r em (Wrote l i d Path mark how) v w k b st h e = absurd h.1
level_held s f r em (Wrote l i d Sizes mark how) v w k b st h e = absurd h.1
level_held s f r em _ v w k b st h e = inl (level_same f.kind v w k b h e)
