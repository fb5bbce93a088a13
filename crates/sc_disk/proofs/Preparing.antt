-- What an opening of an entry does, by its steps.
use Rattle.std.proofs.Common.{◌≡◌, ℕ, ◌+◌, ◌-◌, ◌≤◌, ◌&&◌, true, List, [], ◌∷◌, ◌++◌, drop, slice_index_or, None, Some, refl, sym, ap, ◌∙◌, subst, arith}
use Rattle.slab.specs.Slab.{Slab, Updates, get}
use Rattle.sc_entry.specs.Keys.{is_file_key}
use Rattle.sc_lru.specs.LruCache.{total}
use Rattle.sc_disk.specs.Calls.{Prepares, RefusesAdd}
use Rattle.sc_disk.specs.Disks.{DiskState, Does, has_place}
use Rattle.sc_disk.specs.Refusals.{AddCause, DiskRefusal}
use Rattle.sc_disk.specs.Store.{AddEntry, Alters, Evicts, Needed, Opens, Store, declared, firsts, gone, indexed, reserved, size_of, temporary_of}
use Rattle.sc_disk.specs.declared.change.Change.TheVariants.{Made}
use Rattle.sc_disk.specs.declared.error.Error.{Error}
use Rattle.sc_disk.specs.declared.error.Error.TheVariants.{BadKey, FileNotInCache, FileTooLarge, Io, NoMemory, Reserved}
use Rattle.sc_disk.specs.declared.pending.Pending.{Pending}
use Rattle.sc_disk.proofs.Doing.{does-still, does-then}
use Rattle.sc_disk.proofs.Placing.{evicts_by_disk}

module _ (k : List ℕ) (size n unreserved : ℕ) (old mid after new : Store) where
  same_slots : mid.pending.slots ≡ old.pending.slots → Evicts n mid after → after.pending.slots ≡ old.pending.slots
  same_slots slots e = ap (λ p. p.slots) e.pending ∙ slots

  went : mid.index ≡ old.index → mid.disk ≡ old.disk → Evicts n mid after → Does (gone (firsts n old.index)) old.disk after.disk
  went index disk e = subst (λ (d : DiskState). Does (gone (firsts n old.index)) d after.disk) disk (subst (λ es. Does (gone (firsts n es)) mid.disk after.disk) index e.disk)

  limit_is : size ≤ unreserved → unreserved + reserved old ≡ old.capacity → unreserved - size ≡ old.capacity - (reserved old + size)
  limit_is fits room = omega (arith, fits, room)

  needed : size ≤ unreserved → unreserved + reserved old ≡ old.capacity → mid.index ≡ old.index → Needed (unreserved - size) n mid.index → Needed (old.capacity - (reserved old + size)) n old.index
  needed fits room index h = subst (λ l. Needed l n old.index) (limit_is fits room) (subst (λ es. Needed (unreserved - size) n es) index h)

  pub prepared : (e : AddEntry) (now : ℕ) → is_file_key k ≡ true → size ≤ unreserved → unreserved + reserved old ≡ old.capacity → mid.index ≡ old.index → mid.pending.slots ≡ old.pending.slots → mid.capacity ≡ old.capacity → mid.disk ≡ old.disk
      → Evicts n mid after → Needed (unreserved - size) n mid.index → indexed after ≤ unreserved - size → Opens e k size now after new → Prepares e k size now n old new
  prepared e now good fits room index slots capacity disk v needs within o =
      let same = same_slots slots v in
      record {
        good = good;
        fits = omega (arith, fits, room);
        evicted = (needed fits room index needs, subst (λ es. total size_of es ≤ old.capacity - (reserved old + size)) (v.index ∙ ap (drop n) index) (omega (arith, within, limit_is fits room)));
        key = o.key;
        divided = o.divided ∙ v.disk.divided ∙ ap (λ d. d.divided) disk;
        index = o.index ∙ v.index ∙ ap (drop n) index;
        opened = record {
          free = ap (λ sl. slice_index_or sl e.number None) (sym same) ∙ o.opened.free;
          entry = record { changed = o.opened.entry.changed; others = λ m off. o.opened.entry.others m off ∙ ap (λ sl. slice_index_or sl m None) same };
          reserved = o.opened.reserved ∙ ap (λ sl. declared sl + size) same;
        };
        capacity = o.capacity ∙ v.capacity ∙ capacity;
        disk = does-then old.disk after.disk new.disk (gone (firsts n old.index)) (Made (temporary_of e) now) (went index disk v) o.disk;
      }

  add_cause : (refused : Error) → (is_file_key k && has_place old.disk k) ≡ true → size + reserved old ≤ old.capacity → DiskRefusal after.disk.faults new.disk.faults refused → old.disk.faults ≤ after.disk.faults → AddCause (is_file_key k && has_place old.disk k) size (reserved old) old.capacity old.disk.faults new.disk.faults refused
  add_cause BadKey good fits cause later = absurd cause
  add_cause FileTooLarge good fits cause later = absurd cause
  add_cause Reserved good fits cause later = absurd cause
  add_cause FileNotInCache good fits cause later = absurd cause
  add_cause Io good fits cause later = (good, fits, omega (arith, cause, later))
  add_cause NoMemory good fits cause later = tt

  pub refused_opening : (refused : Error) → (is_file_key k && has_place old.disk k) ≡ true → size ≤ unreserved → unreserved + reserved old ≡ old.capacity → mid.index ≡ old.index → mid.pending.slots ≡ old.pending.slots → mid.capacity ≡ old.capacity → mid.disk ≡ old.disk
      → Evicts n mid after → Needed (unreserved - size) n mid.index → Alters [] after new → DiskRefusal after.disk.faults new.disk.faults refused → RefusesAdd refused k size n old new
  refused_opening refused good fits room index slots capacity disk v needs a cause =
      let did = went index disk v in
      record {
        cause = add_cause refused good (omega (arith, fits, room)) cause did.faults;
        none = evicts_by_disk refused after.disk.faults new.disk.faults n cause;
        evicted = needed fits room index needs;
        index = a.index ∙ v.index ∙ ap (drop n) index;
        slots = ap (λ p. p.slots) a.pending ∙ same_slots slots v;
        capacity = a.capacity ∙ v.capacity ∙ capacity;
        disk = does-still old.disk after.disk new.disk (gone (firsts n old.index)) did a.disk;
      }
