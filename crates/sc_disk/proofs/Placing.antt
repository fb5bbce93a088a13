-- The steps of a commit one after another.
use Rattle.std.proofs.Common.{◌≡◌, ◌⊎◌, inl, inr, ℕ, zero, suc, ◌+◌, ◌-◌, ◌<◌, ◌≤◌, max, Bool, true, false, List, [], ◌∷◌, ◌++◌, drop, Some, None, Result, Ok, Err, IfErr, refl, sym, ap, ◌∙◌, subst, arith}
use Rattle.std.specs.Result.{IsErrAnd}
use Rattle.slab.specs.Slab.{Slab, Updates, get}
use Rattle.std.specs.Option.{option_map_or}
use Rattle.sc_entry.specs.Causes.{Rose}
use Rattle.sc_lru.specs.LruCache.{total}
use Rattle.sc_disk.specs.Calls.{CommitCause, EvictsNone, NeededFor, Places, RefusesCommit, RefusesPlace, Settles, Undoes, removed_by, touched_by}
use Rattle.sc_disk.specs.Disks.{DiskCause, DiskState, Does, IsSize}
use Rattle.sc_disk.specs.Refusals.{DiskRefusal, error_of}
use Rattle.sc_disk.specs.Store.{AddEntry, Alters, Closes, Evicts, IsTidy, Needed, Store, declared, declared_at, filed, firsts, gone, indexed, others, reserved, size_of, temporary_of}
use Rattle.sc_disk.specs.declared.change.Change.TheVariants.{Gone, Moved, Touched}
use Rattle.sc_disk.specs.declared.disk.DiskError.{DiskError}
use Rattle.sc_disk.specs.declared.disk.DiskError.TheVariants as disk_errors
use Rattle.sc_disk.specs.declared.error.Error.{Error}
use Rattle.sc_disk.specs.declared.error.Error.TheVariants.{BadKey, FileNotInCache, FileTooLarge, Io, NoMemory, Reserved}
use Rattle.sc_disk.specs.declared.pending.Pending.{Pending}
use Rattle.sc_disk.proofs.Doing.{does-after, does-then}
use Rattle.sc_disk.proofs.Tidying.{entry_path, quiet-append, quiet-gone, quiet-touched, tidy-discarded}

-- what holds of a refusal holds where there is one
pub if_err_and : {T E : Type 0} (r : Result T E) (Q P : E → Type 0) → IsErrAnd r Q → ((e : E) → Q e → P e) → IfErr r P
if_err_and (Ok x) Q P h step = tt
if_err_and (Err e) Q P h step = step e h

pub evicts_none : (refused : Error) → EvictsNone refused 0
evicts_none BadKey = refl
evicts_none FileTooLarge = refl
evicts_none Reserved = refl
evicts_none FileNotInCache = refl
evicts_none Io = tt
evicts_none NoMemory = tt

pub evicts_by_disk : (refused : Error) (before now n : ℕ) → DiskRefusal before now refused → EvictsNone refused n
evicts_by_disk BadKey before now n h = absurd h
evicts_by_disk FileTooLarge before now n h = absurd h
evicts_by_disk Reserved before now n h = absurd h
evicts_by_disk FileNotInCache before now n h = absurd h
evicts_by_disk Io before now n h = tt
evicts_by_disk NoMemory before now n h = tt

pub rose_since : (a b c d : ℕ) → a ≤ b → c ≤ d → Rose b c → Rose a d
rose_since a b c d p q h = omega (arith, p, q, h)

pub commit_by_disk : (refused : Error) (path : List ℕ) (held : ℕ) (old new : Store) (before now : ℕ) → old.disk.faults ≤ before → now ≤ new.disk.faults → DiskRefusal before now refused → CommitCause refused path held old new.disk.faults
commit_by_disk BadKey path held old new before now p q h = absurd h
commit_by_disk FileTooLarge path held old new before now p q h = absurd h
commit_by_disk Reserved path held old new before now p q h = absurd h
commit_by_disk FileNotInCache path held old new before now p q h = absurd h
commit_by_disk Io path held old new before now p q h = rose_since old.disk.faults before now new.disk.faults p q h
commit_by_disk NoMemory path held old new before now p q h = tt

-- a disk's refusal as the store answers it
pub by_disk : (d : DiskError) (before now : ℕ) → (d ≡ disk_errors.Fault → Rose before now) → DiskRefusal before now (error_of d)
by_disk disk_errors.Fault before now h = h refl
by_disk disk_errors.NoMemory before now h = tt

pub alters_twice : (a b c : Store) → Alters [] a b → Alters [] b c → Alters [] a c
alters_twice a b c p q = record { index = q.index ∙ p.index; spare = omega (arith, p.spare, q.spare); pending = q.pending ∙ p.pending; capacity = q.capacity ∙ p.capacity; disk = does-after a.disk b.disk c.disk [] [] p.disk q.disk }

-- room was made for a temporary of r bytes, by the first n files
pub record Room (e : AddEntry) (p : Pending) (r n : ℕ) (old d : Store) : Type 0 where
  pub size : IsSize (temporary_of e) r old.disk
  pub fits : r + reserved old ≤ old.capacity
  pub needed : Needed (old.capacity - (reserved old + max r p.size)) n old.index
  pub evicts : Evicts n old d

abbrev reserved_of : Slab Pending → ℕ
reserved_of q = declared q.slots

no_more : {X : Type 0} (xs : List X) → xs ++ [] ≡ xs
no_more [] = refl
no_more (x ∷ xs) = ap (λ l. x ∷ l) (no_more xs)

limit_is : (capacity held unreserved wanted : ℕ) → unreserved + held ≡ capacity → unreserved - wanted ≡ capacity - (held + wanted)
limit_is capacity held unreserved wanted h = omega (arith, h)

pub made_room : (e : AddEntry) (p : Pending) (r n unreserved wanted : ℕ) (old b d : Store) → Alters [] old b → IsSize (temporary_of e) r old.disk → r + reserved old ≤ old.capacity
    → unreserved + reserved b ≡ b.capacity → wanted ≡ max r p.size → Evicts n b d → Needed (unreserved - wanted) n b.index → Room e p r n old d
made_room e p r n unreserved wanted old b d a size fits free is k needed =
    let held : reserved b ≡ reserved old = ap (λ q. reserved_of q) a.pending in
    let limit : unreserved - wanted ≡ old.capacity - (reserved old + max r p.size) = ap (λ w. unreserved - w) is ∙ limit_is old.capacity (reserved old) unreserved (max r p.size) (omega (arith, free, held, a.capacity)) in
    record {
      size = size;
      fits = fits;
      needed = subst (λ l. Needed l n old.index) limit (subst (λ es. Needed (unreserved - wanted) n es) a.index needed);
      evicts = record {
        index = k.index ∙ ap (drop n) a.index;
        spare = omega (arith, a.spare, k.spare);
        pending = k.pending ∙ a.pending;
        capacity = k.capacity ∙ a.capacity;
        disk = subst (λ es. Does (gone (firsts n es)) old.disk d.disk) a.index (subst (λ xs. Does xs old.disk d.disk) (no_more (gone (firsts n b.index))) (does-after old.disk b.disk d.disk [] (gone (firsts n b.index)) a.disk k.disk));
      };
    }

-- nothing was done yet
pub refused_early : (refused : Error) (e : AddEntry) (p : Pending) (now : ℕ) (old new : Store) → CommitCause refused (temporary_of e) (reserved old) old new.disk.faults → Alters [] old new → RefusesPlace refused e p now 0 false old new
refused_early refused e p now old new cause a = record { cause = cause; none = evicts_none refused; evicted = inl refl; index = a.index; pending = a.pending; capacity = a.capacity; disk = a.disk }

-- evictions were made
pub refused_room : (refused : Error) (e : AddEntry) (p : Pending) (r n now before : ℕ) (old d : Store) → Room e p r n old d → old.disk.faults ≤ before → DiskRefusal before d.disk.faults refused → RefusesPlace refused e p now n false old d
refused_room refused e p r n now before old d room later cause = record {
  cause = commit_by_disk refused (temporary_of e) (reserved old) old d before d.disk.faults later (omega arith) cause;
  none = evicts_by_disk refused before d.disk.faults n cause;
  evicted = inr (r, room.size, room.fits, room.needed);
  index = room.evicts.index;
  pending = room.evicts.pending;
  capacity = room.evicts.capacity;
  disk = room.evicts.disk;
}

-- and the temporary may have got its moment
pub refused_settle : (refused : Error) (e : AddEntry) (p : Pending) (r n now : ℕ) (touches : Bool) (old d new : Store) → Room e p r n old d → Alters (touched_by touches (temporary_of e) now) d new
    → DiskRefusal d.disk.faults new.disk.faults refused → RefusesPlace refused e p now n touches old new
refused_settle refused e p r n now touches old d new room a cause = record {
  cause = commit_by_disk refused (temporary_of e) (reserved old) old new d.disk.faults new.disk.faults room.evicts.disk.faults (omega arith) cause;
  none = evicts_by_disk refused d.disk.faults new.disk.faults n cause;
  evicted = inr (r, room.size, room.fits, room.needed);
  index = a.index ∙ room.evicts.index;
  pending = a.pending ∙ room.evicts.pending;
  capacity = a.capacity ∙ room.evicts.capacity;
  disk = does-after old.disk d.disk new.disk (gone (firsts n old.index)) (touched_by touches (temporary_of e) now) room.evicts.disk a.disk;
}

-- where all fit before, nothing went
needed_none : (limit n : ℕ) (es : List (List ℕ × ℕ)) → total size_of es ≤ limit → Needed limit n es → n ≡ 0
needed_none limit zero es h k = refl
needed_none limit (suc n) es h k = let over : limit < total size_of es = k 0 (omega arith) in absurd (omega (arith, over, h))

max_is : (r size : ℕ) → r ≤ size → max r size ≡ size
max_is r size h = omega (arith, h)

fits_all : (total held size capacity r : ℕ) → total + (held + size) ≤ capacity → r ≤ size → total ≤ capacity - (held + max r size)
fits_all total held size capacity r room h = omega (arith, room, max_is r size h)

pub placed : (e : AddEntry) (p : Pending) (r n now unreserved wanted : ℕ) (old b d new : Store) → Room e p r n old d → indexed old + (reserved old + p.size) ≤ old.capacity → Alters [] old b → unreserved + reserved b ≡ b.capacity → wanted ≡ max r p.size
    → indexed d ≤ unreserved - wanted → Settles e p.key r now d new → Places e p r now n old new
placed e p r n now unreserved wanted old b d new room all a free is within s =
    let held : reserved b ≡ reserved old = ap (λ q. reserved_of q) a.pending in
    let limit : unreserved - wanted ≡ old.capacity - (reserved old + max r p.size) = ap (λ w. unreserved - w) is ∙ limit_is old.capacity (reserved old) unreserved (max r p.size) (omega (arith, free, held, a.capacity)) in
    record {
      size = room.size;
      fits = room.fits;
      evicted = (room.needed, subst (λ es. total size_of es ≤ old.capacity - (reserved old + max r p.size)) room.evicts.index (omega (arith, within, limit)));
      none = λ h. needed_none (old.capacity - (reserved old + max r p.size)) n old.index (fits_all (indexed old) (reserved old) p.size old.capacity r all h) room.needed;
      index = s.index ∙ ap (filed p.key r) room.evicts.index;
      pending = s.pending ∙ room.evicts.pending;
      capacity = s.capacity ∙ room.evicts.capacity;
      disk = does-after old.disk d.disk new.disk (gone (firsts n old.index)) (Moved (temporary_of e) p.key ∷ Touched (temporary_of e) now ∷ []) room.evicts.disk s.disk;
    }

-- what an entry had declared
declared_is : (old : Store) (n : ℕ) (p : Pending) → get old.pending n ≡ Some p → declared_at old n ≡ p.size
declared_is old n p was = ap (λ slot. option_map_or (λ e. e.size) slot 0) was

others_are : (e : AddEntry) (p : Pending) (old mid : Store) → Closes e p old mid → reserved mid ≡ others old e.number
others_are e p old mid k = omega (arith, k.closed.reserved)

cause_since : (refused : Error) (path : List ℕ) (held held2 : ℕ) (a c : Store) (by_then : ℕ) → held ≡ held2 → a.disk ≡ c.disk → a.capacity ≡ c.capacity → CommitCause refused path held a by_then → CommitCause refused path held2 c by_then
cause_since BadKey path held held2 a c t h s k cause = cause
cause_since FileTooLarge path held held2 a c t h s k cause = (cause.0, subst (λ w. IsSize path cause.0 w) s cause.1, omega (arith, k, cause.2))
cause_since Reserved path held held2 a c t h s k cause = (cause.0, subst (λ w. IsSize path cause.0 w) s cause.1, omega (arith, k, cause.2), omega (arith, h, k, cause.3))
cause_since FileNotInCache path held held2 a c t h s k cause = cause
cause_since Io path held held2 a c t h s k cause = rose_since c.disk.faults a.disk.faults t t (omega (arith, ap (λ w. w.faults) s)) (omega arith) cause
cause_since NoMemory path held held2 a c t h s k cause = tt

cause_told : (refused told : Error) (path : List ℕ) (held : ℕ) (old : Store) (by_then : ℕ) → (told ≡ refused) ⊎ (told ≡ NoMemory) → CommitCause refused path held old by_then → CommitCause told path held old by_then
cause_told refused told path held old t (inl same) cause = subst (λ r. CommitCause r path held old t) (sym same) cause
cause_told refused told path held old t (inr none) cause = subst (λ r. CommitCause r path held old t) (sym none) tt

none_told : (refused told : Error) (n : ℕ) → (told ≡ refused) ⊎ (told ≡ NoMemory) → EvictsNone refused n → EvictsNone told n
none_told refused told n (inl same) h = subst (λ r. EvictsNone r n) (sym same) h
none_told refused told n (inr none) h = subst (λ r. EvictsNone r n) (sym none) tt

needed_for : (path : List ℕ) (held held2 size size2 n : ℕ) (a c : Store) → held ≡ held2 → size ≡ size2 → a.disk ≡ c.disk → a.capacity ≡ c.capacity → a.index ≡ c.index → NeededFor path held size n a → NeededFor path held2 size2 n c
needed_for path held held2 size size2 n a c h z s k i (inl none) = inl none
needed_for path held held2 size size2 n a c h z s k i (inr q) = inr (
  q.0,
  subst (λ w. IsSize path q.0 w) s q.1,
  omega (arith, h, k, q.2),
  subst (λ l. Needed (c.capacity - (held2 + max q.0 size2)) n l) i (subst (λ b. Needed b n a.index) (λ j. k j - (h j + max q.0 (z j))) q.3),
)

-- a removed temporary leaves no stray
tidy_removed : (old mid late new : Store) (e : AddEntry) (p : Pending) (now n : ℕ) (touches removes : Bool) → removes ≡ true → Closes e p old mid → late.pending ≡ mid.pending
    → Does (touched_by touches (temporary_of e) now ++ gone (firsts n mid.index)) mid.disk late.disk → Alters (removed_by removes (temporary_of e)) late new → IsTidy old → IsTidy new
tidy_removed old mid late new e p now n touches false t k same did u h = cc
tidy_removed old mid late new e p now n touches true t k same did u h = tidy-discarded old.pending new.pending old.disk new.disk e.number p (temporary_of e) (touched_by touches (temporary_of e) now ++ gone (firsts n mid.index)) (entry_path e p old mid k) k.was
    (subst (λ (q : Slab Pending). Updates old.pending q e.number None) (sym (u.pending ∙ same)) k.closed.entry)
    (quiet-append (touched_by touches (temporary_of e) now) (gone (firsts n mid.index)) (quiet-touched touches (temporary_of e) now) (quiet-gone (firsts n mid.index)))
    (subst (λ (w : DiskState). Does (Gone (temporary_of e) ∷ (touched_by touches (temporary_of e) now ++ gone (firsts n mid.index))) w new.disk) k.disk
    (does-then mid.disk late.disk new.disk (touched_by touches (temporary_of e) now ++ gone (firsts n mid.index)) (Gone (temporary_of e)) did u.disk)) h

pub refused_commit : (refused told : Error) (e : AddEntry) (p : Pending) (now n : ℕ) (touches removes : Bool) (old mid late new : Store) → Closes e p old mid → RefusesPlace refused e p now n touches mid late → Undoes refused told removes e late new
    → RefusesCommit told e now n touches removes old new
refused_commit refused told e p now n touches removes old mid late new k r u =
    let held = others_are e p old mid k in let size : p.size ≡ declared_at old e.number = sym (declared_is old e.number p k.was) in
    record {
      by_then = late.disk.faults;
      counted = u.alters.disk.faults;
      cause = cause_told refused told (temporary_of e) (others old e.number) old late.disk.faults u.answer
          (cause_since refused (temporary_of e) (reserved mid) (others old e.number) mid old late.disk.faults held k.disk k.capacity r.cause);
      none = none_told refused told n u.answer r.none;
      evicted = needed_for (temporary_of e) (reserved mid) (others old e.number) p.size (declared_at old e.number) n mid old held size k.disk k.capacity k.index r.evicted;
      index = u.alters.index ∙ r.index ∙ ap (drop n) k.index;
      removal = u.removal;
      disk = subst (λ es. Does (removed_by removes (temporary_of e) ++ (touched_by touches (temporary_of e) now ++ gone (firsts n es))) old.disk new.disk) k.index
          (subst (λ w. Does (removed_by removes (temporary_of e) ++ (touched_by touches (temporary_of e) now ++ gone (firsts n mid.index))) w new.disk) k.disk
          (does-after mid.disk late.disk new.disk (touched_by touches (temporary_of e) now ++ gone (firsts n mid.index)) (removed_by removes (temporary_of e)) r.disk u.alters.disk));
      tidy = λ t h. tidy_removed old mid late new e p now n touches removes t k r.pending r.disk u.alters h;
    }

-- a disk's refusal, as the store answers it
pub disk_cause : (d : DiskError) (before now : DiskState) → DiskCause {A = Unit {0}} before now (Err d) → DiskRefusal before.faults now.faults (error_of d)
disk_cause disk_errors.Fault before now h = h
disk_cause disk_errors.NoMemory before now h = tt
