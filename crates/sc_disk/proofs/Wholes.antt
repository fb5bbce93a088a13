-- An entry is opened, filled, and committed or given up.
use Rattle.std.proofs.Common.{◌≡◌, ℕ, ◌+◌, ◌-◌, max, Bool, true, false, cond, List, [], ◌∷◌, ◌++◌, length, drop, option_map, Option, Some, None, Result, Ok, Err, IfErr, OnOk, sym, ap, ◌∙◌, subst, arith, append_assoc}
use Rattle.std.specs.Option.{option_map_or}
use Rattle.slab.specs.Slab.{Slab, Updates, get}
use Rattle.sc_entry.specs.Causes.{IfTold}
use Rattle.sc_disk.specs.Calls.{Commits, Leftover, Prepares, Undoes, removed_by}
use Rattle.sc_disk.specs.Disks.{DiskFiles, DiskRecord, DiskState, Does, HasOutside, change, did_all, disk_file, disk_file_at, files_now, outside_file_at, replay, with_disk_file}
use Rattle.sc_disk.specs.Inserting.{Fills, GivesUp, Inserts, added, content}
use Rattle.sc_disk.specs.Names.{temporary}
use Rattle.sc_disk.specs.Store.{AddEntry, Alters, Closed, Closes, Fits, IsTidy, SameEntries, Store, declared, declared_at, filed, firsts, gone, others, reserved, temporary_of}
use Rattle.sc_disk.specs.declared.change.Change.{Change}
use Rattle.sc_disk.specs.declared.change.Change.TheVariants.{Added, Gone, Made, Moved, Touched}
use Rattle.sc_disk.specs.declared.disk_file.DiskFile.{DiskFile}
use Rattle.sc_disk.specs.declared.error.Error.{Error}
use Rattle.sc_disk.specs.declared.pending.Pending.{Pending}
use Rattle.sc_disk.proofs.Changing.{size}
use Rattle.sc_disk.proofs.Doing.{does-after, replay-append}
use Rattle.sc_disk.proofs.Files.{at-insert, self_path}
use Rattle.sc_disk.proofs.Keeping.{by_place}
use Rattle.sc_disk.proofs.Tidying.{entry_path, tidy-discarded}

-- The size of a temporary that was made and filled.
made_at : (t : List ℕ) (now : ℕ) (f : DiskFiles) → disk_file_at (change (Made t now) f) t ≡ Some (disk_file now [])
made_at t now f = at-insert f t (disk_file now []) t ∙ ap (λ b. cond b (Some (disk_file now [])) (disk_file_at f t)) (self_path t)

one_more_piece : (t bytes more : List ℕ) (now : ℕ) (g : DiskFiles) → disk_file_at g t ≡ Some (disk_file now bytes) → disk_file_at (change (Added t more) g) t ≡ Some (disk_file now (bytes ++ more))
one_more_piece t bytes more now g is = ap (λ o. disk_file_at (with_disk_file g t (option_map (λ (x : DiskFile). disk_file x.moment (x.bytes ++ more)) o)) t) is ∙ at-insert g t (disk_file now (bytes ++ more)) t
    ∙ ap (λ b. cond b (Some (disk_file now (bytes ++ more))) (disk_file_at g t)) (self_path t)

filled_at : (t : List ℕ) (pieces : List (List ℕ)) (now : ℕ) (f : DiskFiles) → disk_file_at (replay (change (Made t now) f) (added t pieces)) t ≡ Some (disk_file now (content pieces))
filled_at t [] now f = made_at t now f
filled_at t (x ∷ xs) now f = one_more_piece t (content xs) x now (replay (change (Made t now) f) (added t xs)) (filled_at t xs now f)

same_number : (a b : ℕ) → Some a ≡ Some b → b ≡ a
same_number a b h = cc

measured_by : (o n : Option DiskRecord) (t : List ℕ) (pieces : List (List ℕ)) (now r : ℕ) (xs : List Change) → n ≡ option_map (did_all (added t pieces ++ (Made t now ∷ xs))) o
    → IfTold n (λ w. option_map size (disk_file_at (files_now w) t) ≡ Some r) → IfTold o (λ _. r ≡ length (content pieces))
measured_by None n t pieces now r xs is h = tt
measured_by (Some w) n t pieces now r xs is h =
    let told = subst (λ (o : Option DiskRecord). IfTold o (λ v. option_map size (disk_file_at (files_now v) t) ≡ Some r)) is h in
    let f : DiskFiles = replay w.first (xs ++ w.done) in
    let same : replay w.first ((added t pieces ++ (Made t now ∷ xs)) ++ w.done) ≡ replay (change (Made t now) f) (added t pieces) = ap (replay w.first) (append_assoc (added t pieces) (Made t now ∷ xs) w.done) ∙ replay-append w.first (added t pieces) (Made t now ∷ (xs ++ w.done)) in
    same_number (length (content pieces)) r (sym (ap (λ g. option_map size (disk_file_at g t)) same ∙ ap (option_map size) (filled_at t pieces now f)) ∙ told)

-- What an opened entry has declared, and all others.
declared_full : (e : AddEntry) (k : List ℕ) (size now n : ℕ) (old mid full : Store) → Prepares e k size now n old mid → full.pending ≡ mid.pending → declared_at full e.number ≡ size
declared_full e k size now n old mid full p same = ap (λ (q : Slab Pending). option_map_or (λ (x : Pending). x.size) (get q e.number) 0) same ∙ ap (λ slot. option_map_or (λ (x : Pending). x.size) slot 0) p.opened.entry.changed

reserved_full : (e : AddEntry) (k : List ℕ) (size now n : ℕ) (old mid full : Store) → Prepares e k size now n old mid → full.pending ≡ mid.pending → reserved full ≡ reserved old + size
reserved_full e k size now n old mid full p same = ap (λ (q : Slab Pending). declared q.slots) same ∙ p.opened.reserved

pub entries_closed : (e : AddEntry) (k : List ℕ) (size now n : ℕ) (old mid full new : Store) → Prepares e k size now n old mid → full.pending ≡ mid.pending → Closed e.number full new → SameEntries old new
entries_closed e k size now n old mid full new p same c = λ i. by_place i e.number (get new.pending i ≡ get old.pending i)
    (λ off. c.entry.others i off ∙ ap (λ q. get q i) same ∙ p.opened.entry.others i off)
    (λ at. ap (get new.pending) at ∙ c.entry.changed ∙ sym (ap (get old.pending) at ∙ p.opened.free))

pub reserved_closed : (e : AddEntry) (k : List ℕ) (size now n : ℕ) (old mid full new : Store) → Prepares e k size now n old mid → full.pending ≡ mid.pending → Closed e.number full new → reserved new ≡ reserved old
reserved_closed e k size now n old mid full new p same c = let d = declared_full e k size now n old mid full p same in let r = reserved_full e k size now n old mid full p same in omega (arith, d, r, c.reserved)

pub inserted : (e : AddEntry) (k : List ℕ) (pieces : List (List ℕ)) (size now n r m : ℕ) (old mid full new : Store) → Prepares e k size now n old mid → Fills e pieces mid full → Commits e r now m full new → Inserts k pieces size now e.number n r m old new
inserted e k pieces size now n r m old mid full new p f c =
    let t = temporary_of e in
    let d = declared_full e k size now n old mid full p f.pending in let all = reserved_full e k size now n old mid full p f.pending in
    let held : others full e.number ≡ reserved old = omega (arith, d, all) in
    let capacity : full.capacity ≡ old.capacity = f.capacity ∙ p.capacity in
    let index : full.index ≡ drop n old.index = f.index ∙ p.index in
    let before = added t pieces ++ (Made t now ∷ gone (firsts n old.index)) in
    let filled : Does before old.disk full.disk = does-after old.disk mid.disk full.disk (Made t now ∷ gone (firsts n old.index)) (added t pieces) p.disk f.disk in
    let did : Does (Moved t e.key ∷ Touched t now ∷ (gone (firsts m full.index) ++ before)) old.disk new.disk = does-after old.disk full.disk new.disk before (Moved t e.key ∷ Touched t now ∷ gone (firsts m full.index)) filled c.disk in
    record {
      good = p.good;
      free = p.opened.free;
      declared = p.fits;
      evicted = p.evicted;
      measured = measured_by old.disk.told full.disk.told t pieces now r (gone (firsts n old.index)) filled.told c.size;
      fits = omega (arith, c.fits, held, capacity);
      evicted_more = subst (λ (l : ℕ). Fits l m (drop n old.index)) (λ j. capacity j - (held j + max r (d j))) (subst (λ es. Fits (full.capacity - (others full e.number + max r (declared_at full e.number))) m es) index c.evicted);
      none = λ h. c.none (omega (arith, h, d));
      index = c.index ∙ (λ j. filed (p.key j) r (drop m (index j)));
      disk = subst (λ (q : List ℕ). Does (Moved q k ∷ Touched q now ∷ (gone (firsts m (drop n old.index)) ++ (added q pieces ++ (Made q now ∷ gone (firsts n old.index))))) old.disk new.disk) (λ i. temporary (p.divided i) (p.key i) e.number)
          (subst (λ (q : List ℕ). Does (Moved t q ∷ Touched t now ∷ (gone (firsts m (drop n old.index)) ++ before)) old.disk new.disk) p.key
          (subst (λ es. Does (Moved t e.key ∷ Touched t now ∷ (gone (firsts m es) ++ before)) old.disk new.disk) index did));
    }

outside_by : (o n : Option DiskRecord) (xs : List Change) (path bytes : List ℕ) → n ≡ option_map (did_all xs) o → IfTold n (λ r. outside_file_at r.outside path ≡ Some bytes) → IfTold o (λ r. outside_file_at r.outside path ≡ Some bytes)
outside_by None n xs path bytes is h = tt
outside_by (Some r) n xs path bytes is h = subst (λ (o : Option DiskRecord). IfTold o (λ w. outside_file_at w.outside path ≡ Some bytes)) is h

-- no change of a disk's files is one of what stands outside
pub outside_before : (old new : DiskState) (xs : List Change) (path bytes : List ℕ) → Does xs old new → HasOutside path bytes new → HasOutside path bytes old
outside_before old new xs path bytes is h = outside_by old.told new.told xs path bytes is.told h

tidy_given_up : (old mid new : Store) (e : AddEntry) (p : Pending) (removes : Bool) → removes ≡ true → Closes e p old mid → Alters (removed_by removes (temporary_of e)) mid new → IsTidy old → IsTidy new
tidy_given_up old mid new e p false t k u h = cc
tidy_given_up old mid new e p true t k u h = tidy-discarded old.pending new.pending old.disk new.disk e.number p (temporary_of e) [] (entry_path e p old mid k) k.was (subst (λ (q : Slab Pending). Updates old.pending q e.number None) (sym u.pending) k.closed.entry) tt
    (subst (λ (w : DiskState). Does (Gone (temporary_of e) ∷ []) w new.disk) k.disk u.disk) h

pub gave_up : (refused told : Error) (removes : Bool) (e : AddEntry) (p : Pending) (old mid new : Store) → Closes e p old mid → Undoes refused told removes e mid new → GivesUp refused told removes e old new
gave_up refused told removes e p old mid new k u = record {
  answer = u.answer;
  removal = subst (λ (w : DiskState). Leftover told removes w.faults new.disk.faults) k.disk u.removal;
  closed = record {
    entry = subst (λ (q : Slab Pending). Updates old.pending q e.number None) (sym u.alters.pending) k.closed.entry;
    reserved = subst (λ (q : Slab Pending). declared q.slots + declared_at old e.number ≡ reserved old) (sym u.alters.pending) k.closed.reserved;
  };
  index = u.alters.index ∙ k.index;
  capacity = u.alters.capacity ∙ k.capacity;
  disk = subst (λ (w : DiskState). Does (removed_by removes (temporary_of e)) w new.disk) k.disk u.alters.disk;
  tidy = λ t h. tidy_given_up old mid new e p removes t k u.alters h;
}

pub on_ok : {T E : Type 0} (r : Result T E) (P Q : Type 0) → (P → Q) → OnOk r P → OnOk r Q
on_ok (Ok x) P Q step p = step p
on_ok (Err e) P Q step p = tt

pub if_err : {T E : Type 0} (r : Result T E) (P Q : E → Type 0) → ((e : E) → P e → Q e) → IfErr r P → IfErr r Q
if_err (Ok x) P Q step p = tt
if_err (Err e) P Q step p = step e p
