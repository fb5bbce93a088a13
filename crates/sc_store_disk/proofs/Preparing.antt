-- An entry is opened, or it isn't.
use Rattle.std.proofs.Common.{◌≡◌, ℕ, ◌+◌, ◌^◌, ◌<◌, ◌≤◌, Bool, true, false, ◌&&◌, cond, is_some, bytes_eq, option_map, slice_index_or, List, [], ◌∷◌, length, nat_lt, Option, Some, None, refl, sym, ap, ◌∙◌, subst, arith}
use Rattle.std.proofs.lemmas.Bool.{le-ltb}
use Rattle.std.specs.List.{IsDistinct}
use Rattle.std.specs.Map.{keys_of}
use Rattle.sc_entry.specs.Causes.{IfTold}
use Rattle.sc_entry.specs.Keys.{is_file_key}
use Rattle.sc_entry.specs.declared.cache_mode.CacheMode.{CacheMode}
use Rattle.sc_disk.proofs.Files.{self_path}
use Rattle.sc_disk.proofs.Temporaries.{numbers-apart, temporary_is}
use Rattle.sc_disk.specs.Calls.{Prepares, RefusesAdd}
use Rattle.sc_disk.specs.Disks.{DiskRecord, did_all, files_now, has_place, replay}
use Rattle.sc_disk.specs.Names.{temporary}
use Rattle.sc_disk.specs.Refusals.{AddCause}
use Rattle.sc_disk.specs.Sound.{IsSound}
use Rattle.sc_disk.specs.Store.{AddEntry, Store, declared, firsts, gone, reserved, temporary_of}
use Rattle.sc_disk.specs.declared.change.Change.{Change}
use Rattle.sc_disk.specs.declared.change.Change.TheVariants.{Made}
use Rattle.sc_disk.specs.declared.error.Error.{Error}
use Rattle.sc_disk.specs.declared.error.Error.TheVariants.{Io}
use Rattle.sc_disk.specs.declared.pending.Pending.{Pending}
use Rattle.sc_model.specs.Evicting.{Evicts, main_count}
use Rattle.sc_model.specs.Levels.{Level}
use Rattle.sc_model.specs.WriteCauses.{room_cause}
use Rattle.sc_model.specs.Writing.{Evicts_unless, Reserves}
use Rattle.sc_model.specs.declared.event.Written.TheVariants.{Done as WriteDone, Refused as WriteRefused}
use Rattle.sc_model.specs.declared.level.Cause.{Cause}
use Rattle.sc_model.specs.declared.level.Cause.TheVariants.{Io as ForIo}
use Rattle.sc_model.specs.declared.level.LevelKind.TheVariants.{Disk}
use Rattle.sc_disk_pair.specs.Parts.{ArePlaced}
use Rattle.sc_store_disk.specs.DiskStores.{bytes_or, level_of, open_entry, opened_store, told_files}
use Rattle.sc_store_disk.specs.Moving.{EvictsFiles, Opens, SameEntries, room_causes}
use Rattle.sc_store_disk.specs.Shown.{bytes_at}
use Rattle.std.specs.Cmp.Lexicographic.{slice_cmp}
use Rattle.std.specs.FinMap as map
use Rattle.std.specs.Ordering.{nat_cmp}
use Rattle.sc_disk.specs.Disks.{no_disk_files}
use Rattle.sc_disk.specs.declared.disk_file.DiskFile.{DiskFile}
use Rattle.sc_store_disk.proofs.Changing.{bytes-made}
use Rattle.sc_store_disk.proofs.Rooms.{entry-kept, entry-of, evicted, slot-in}
use Rattle.sc_store_disk.proofs.Steadying.{files-did}

pub not_less : (a b : ℕ) → b ≤ a → nat_lt a b ≡ false
not_less a b l = le-ltb a b l

pub room-free : (capacity r n : ℕ) → n + r ≤ capacity → room_cause Disk capacity r n ≡ None
room-free capacity r n l = rw (not_less capacity n (omega (arith, l)), not_less capacity (n + r) l) refl

-- files went, and their sizes are no cause of a refusal
pub unless_went : (o : Option Cause) (capacity more : ℕ) (ps : List (Bool × List ℕ)) (v w : Level) → o ≡ None → Evicts capacity more ps v w → Evicts_unless o capacity more (main_count ps) v w
unless_went o capacity more ps v w none h = subst (λ (x : Option Cause). Evicts_unless x capacity more (main_count ps) v w) (sym none) (ps, h, refl)

module _ (old new : Store) (sound : IsSound old) (d : IsDistinct bytes_eq (keys_of old.index)) (placed : IfTold old.disk.told (λ r. ArePlaced (files_now r))) where
  pub prepared-moves : (e : AddEntry) (k : List ℕ) (size now n : ℕ) → Prepares e k size now n old new → is_some old.disk.told ≡ true
      → Reserves old.capacity (room_causes old.capacity (reserved old) size) (reserved old) size WriteDone (level_of true old.index old.disk) (level_of true new.index new.disk)
  prepared-moves e k size now n p told =
      let free = room-free old.capacity (reserved old) size p.fits in
      let went = evicted old.capacity (reserved old + size) n (Made (temporary_of e) now ∷ []) old new told sound d placed (temporary_is e.divided e.key e.number, tt) p.index p.disk (λ m l. omega (arith, p.fits, p.evicted.0 m l)) in (
        main_count went.0,
        (free, unless_went (room_causes old.capacity (reserved old) size).all old.capacity (reserved old + size) went.0 (level_of true old.index old.disk) (level_of true new.index new.disk) free went.1, refl),
        tt,
        (λ path. refl),
        refl,
      )

  pub refused-moves : (refused : Error) (k : List ℕ) (size n : ℕ) → refused ≡ Io → RefusesAdd refused k size n old new → is_some old.disk.told ≡ true
      → Reserves old.capacity (room_causes old.capacity (reserved old) size) (reserved old) size (WriteRefused ForIo) (level_of true old.index old.disk) (level_of true new.index new.disk)
  refused-moves refused k size n is p told =
      let cause = subst (AddCause (is_file_key k && has_place old.disk k) size (reserved old) old.capacity old.disk.faults new.disk.faults) is p.cause in
      let free = room-free old.capacity (reserved old) size cause.1 in
      let went = evicted old.capacity (reserved old + size) n [] old new told sound d placed tt p.index p.disk (λ m l. omega (arith, cause.1, p.evicted m l)) in (
        main_count went.0,
        (refl, cause.2, unless_went (room_causes old.capacity (reserved old) size).all old.capacity (reserved old + size) went.0 (level_of true old.index old.disk) (level_of true new.index new.disk) free went.1),
        tt,
        (λ path. refl),
        refl,
      )

  -- want of memory
  pub refused-evicts : (mode : CacheMode) (refused : Error) (k : List ℕ) (size n : ℕ) → RefusesAdd refused k size n old new → EvictsFiles size (opened_store mode old.capacity old) (opened_store mode old.capacity new)
  refused-evicts mode refused k size n p told = evicted old.capacity (reserved old + size) n [] old new told sound d placed tt p.index p.disk (λ m l. omega (arith, p.evicted m l))

pub refused-entries : (mode : CacheMode) (capacity : ℕ) (old new : Store) (refused : Error) (k : List ℕ) (size n : ℕ) → IsSound old → RefusesAdd refused k size n old new → SameEntries (opened_store mode capacity old) (opened_store mode capacity new)
refused-entries mode capacity old new refused k size n sound p = record {
  reserved = ap declared p.slots;
  entries = λ m. entry-kept [] n old new m p.disk sound.keys (ap (λ s. slice_index_or s m None) p.slots) (λ q e. tt);
}

none_shown : (t : List ℕ) → bytes_at no_disk_files t ≡ None
none_shown t = ap (option_map (λ (file : DiskFile). file.bytes)) (map.get-empty (slice_cmp nat_cmp) t)

made_empty : (a b : Option DiskRecord) (xs : List Change) (t : List ℕ) (now : ℕ) → b ≡ option_map (did_all (Made t now ∷ xs)) a → bytes_or (bytes_at (told_files b) t) ≡ []
made_empty None b xs t now e = ap (λ o. bytes_or (bytes_at (told_files o) t)) e ∙ ap bytes_or (none_shown t)
made_empty (Some r) b xs t now e =
    ap (λ o. bytes_or (bytes_at (told_files o) t)) e ∙ ap (λ g. bytes_or (bytes_at g t)) (files-did r (Made t now ∷ xs))
    ∙ ap bytes_or (bytes-made (replay (files_now r) xs) t now t ∙ ap (λ b. cond b (Some []) (bytes_at (replay (files_now r) xs) t)) (self_path t))

pub opens : (mode : CacheMode) (capacity : ℕ) (old new : Store) (e : AddEntry) (k : List ℕ) (size now n : ℕ) → IsSound old → old.disk.divided ≡ true → length old.pending.slots < 2 ^ 64 → length new.pending.slots < 2 ^ 64 → Prepares e k size now n old new
    → Opens k size e (opened_store mode capacity old) (opened_store mode capacity new)
opens mode capacity old new e k size now n sound divided few more p =
    let own : Pending = record { key = e.key; size = size } in
    let number : e.number < 2 ^ 64 = let l = slot-in new.pending.slots e.number own p.opened.entry.changed in omega (arith, l, more) in
    let where_it_is : temporary new.disk.divided e.key e.number ≡ temporary_of e = ap (λ v. temporary v e.key e.number) (p.disk.divided ∙ sym p.divided) in
    let empty : bytes_or (bytes_at (told_files new.disk.told) (temporary new.disk.divided e.key e.number)) ≡ [] =
    ap (λ t. bytes_or (bytes_at (told_files new.disk.told) t)) where_it_is ∙ made_empty old.disk.told new.disk.told (gone (firsts n old.index)) (temporary_of e) now p.disk.told in
    record {
      key = p.key;
      divided = p.divided ∙ divided;
      free = entry-of old e.number ∙ ap (option_map (open_entry old.disk.divided (told_files old.disk.told) e.number)) p.opened.free;
      opened = entry-of new e.number ∙ ap (option_map (open_entry new.disk.divided (told_files new.disk.told) e.number)) p.opened.entry.changed
          ∙ (λ i. Some (record { path = p.key i; size = size; bytes = empty i; fills = None }));
      others = λ m apart. entry-kept (Made (temporary_of e) now ∷ []) n old new m p.disk sound.keys (p.opened.entry.others m apart)
          (λ q s. (numbers-apart old.disk.divided q.key m e.divided e.key e.number (let l = slot-in old.pending.slots m q s in omega (arith, l, few)) number apart, tt));
      reserved = p.opened.reserved;
    }
