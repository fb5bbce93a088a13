-- Openings, and other calls that change nothing that is held.
use Rattle.std.proofs.Common.{◌≡◌, ℕ, suc, Bool, true, false, cond, is_some, bytes_eq, option_map, IfSome, List, [], ◌∷◌, Option, Some, None, refl, sym, ap, ◌∙◌, subst}
use Rattle.std.specs.Map.{lookup}
use Rattle.sc_entry.specs.Causes.{IfTold}
use Rattle.sc_entry.specs.declared.cache_mode.CacheMode.{CacheMode}
use Rattle.sc_disk.proofs.Doing.{replay-append}
use Rattle.sc_disk.specs.Disks.{DiskFiles, DiskRecord, DiskState, Does, did_all, files_now, replay}
use Rattle.sc_disk.specs.Opening.{Begins, IsReopened, RefusesOpening, Reopens}
use Rattle.sc_disk.specs.Sound.{IsSound}
use Rattle.sc_disk.specs.Store.{Agrees, AreKeys, HasFiles, IsTidy, Store, declared, gone}
use Rattle.sc_disk.specs.Names.{temporary}
use Rattle.sc_disk.specs.declared.change.Change.{Change}
use Rattle.sc_disk.specs.declared.change.Change.TheVariants.{Made, Added, Touched, Moved, Gone}
use Rattle.sc_disk.specs.declared.pending.Pending.{Pending}
use Rattle.sc_disk_pair.specs.Parts.{in_part}
use Rattle.sc_disk_pair.specs.Twos.{TwoState, joined_state}
use Rattle.sc_disk_pair.specs.declared.pair_cache.PairCache.{PairCache}
use Rattle.sc_disk_pair.specs.declared.part.Part.{Part}
use Rattle.sc_disk_pair.specs.declared.part.Part.TheVariants.{Main, Pre}
use Rattle.sc_store_disk.specs.Devices.{calls_of}
use Rattle.sc_store_disk.specs.DiskStores.{DiskStore, bytes_or, entries_from, opened_store, store_of, told_files, unopened_store}
use Rattle.sc_store_disk.specs.Moving.{Stays, Steady}
use Rattle.sc_store_disk.specs.Reopened.{reopened}
use Rattle.sc_store_disk.specs.Shown.{Index, bytes_at, files_of}
use Rattle.sc_store_disk.proofs.Changing.{bytes-touched}
use Rattle.sc_store_disk.proofs.Devices.{later_same, later_then, loses_none, makes_on}
use Rattle.sc_store_disk.proofs.Finding.{same-shown}
use Rattle.sc_store_disk.proofs.Openings.{files-untold, opened-files, refused-files}

pub still_told : (a b : Option DiskRecord) (xs : List Change) → b ≡ option_map (did_all xs) a → is_some b ≡ is_some a
still_told None b xs e = ap is_some e
still_told (Some r) b xs e = ap is_some e

pub files-did : (r : DiskRecord) (xs : List Change) → files_now (did_all xs r) ≡ replay (files_now r) xs
files-did r xs = replay-append r.first xs r.done

files_opened : (part : Part) (capacity : ℕ) (index : Index) (a b : Option DiskRecord) (ks : List (List ℕ)) → b ≡ option_map (did_all (gone ks)) a → IfTold a (λ r. IsReopened capacity (files_now r) index) → AreKeys index
    → IfTold b (λ r. Agrees index (files_now r)) → files_of part index (told_files b) ≡ files_of part (reopened capacity (told_files a)) (told_files a)
files_opened part capacity index None b ks e r keys agrees = ap (λ o. files_of part index (told_files o)) e ∙ files-untold part index (reopened capacity (told_files None))
files_opened part capacity index (Some r) b ks e again keys agrees =
    let known : Agrees index (files_now (did_all (gone ks) r)) = subst (λ (o : Option DiskRecord). IfTold o (λ x. Agrees index (files_now x))) e agrees in
    ap (λ o. files_of part index (told_files o)) e ∙ opened-files part capacity index (files_now r) (files_now (did_all (gone ks) r)) ks again (files-did r (gone ks)) keys known

files_refused : (part : Part) (capacity : ℕ) (a b : Option DiskRecord) (ks : List (List ℕ)) → b ≡ option_map (did_all (gone ks)) a → IfTold a (λ r. Begins capacity ks (files_now r))
    → files_of part (reopened capacity (told_files b)) (told_files b) ≡ files_of part (reopened capacity (told_files a)) (told_files a)
files_refused part capacity None b ks e begins = ap (λ o. files_of part (reopened capacity (told_files o)) (told_files o)) e
files_refused part capacity (Some r) b ks e begins =
    ap (λ o. files_of part (reopened capacity (told_files o)) (told_files o)) e ∙ refused-files part capacity (files_now r) (files_now (did_all (gone ks) r)) ks begins (files-did r (gone ks))

agree : (d : DiskState) (v : Bool) (index : Index) (slots : List (Option Pending)) → IfTold d.told (λ r. HasFiles v index slots (files_now r)) → IfTold d.told (λ r. Agrees index (files_now r))
agree d v index slots = by d.told
  where
    by : (o : Option DiskRecord) → IfTold o (λ r. HasFiles v index slots (files_now r)) → IfTold o (λ r. Agrees index (files_now r))
    by None h = tt
    by (Some r) h = h.agrees

no_entries : (divided : Bool) (f : DiskFiles) (slots : List (Option Pending)) → slots ≡ [] → entries_from divided f 0 slots ≡ []
no_entries divided f slots e = ap (entries_from divided f 0) e

opens : (mode : CacheMode) (capacity : ℕ) (d : DiskState) (s : Store) → Reopens capacity s.index d s.disk → IfTold d.told (λ r. IsReopened capacity (files_now r) s.index) → s.pending.slots ≡ [] → IsSound s
    → Steady (unopened_store mode capacity d) (opened_store mode capacity s)
unfolding Reopens
opens mode capacity d s o again none sound =
    let agrees = agree s.disk s.disk.divided s.index s.pending.slots sound.files in
    record {
      facts = ap (λ root. record { kind = (unopened_store mode capacity d).facts.kind; wrapped = false; configured = mode; mode = mode; capacity = capacity; root = root }) o.1.root;
      told = still_told d.told s.disk.told (gone o.0) o.1.told;
      later = record { faults = o.1.faults; losses = loses_none (option_map calls_of d.calls) 0; calls = makes_on d.calls s.disk.calls d.faults s.disk.faults o.1.calls; opened = refl };
      main = files_opened Main capacity s.index d.told s.disk.told o.0 o.1.told again sound.keys agrees;
      pre = files_opened Pre capacity s.index d.told s.disk.told o.0 o.1.told again sound.keys agrees;
      marks = refl;
      written = refl;
      reserved = ap declared none;
      entries = no_entries s.disk.divided (told_files s.disk.told) s.pending.slots none;
    }

refuses : (mode : CacheMode) (capacity : ℕ) (d e : DiskState) → RefusesOpening capacity d e → Steady (unopened_store mode capacity d) (unopened_store mode capacity e)
unfolding RefusesOpening
refuses mode capacity d e o = record {
  facts = ap (λ root. record { kind = (unopened_store mode capacity d).facts.kind; wrapped = false; configured = mode; mode = mode; capacity = capacity; root = root }) o.1.root;
  told = still_told d.told e.told (gone o.0) o.1.told;
  later = record { faults = o.1.faults; losses = loses_none (option_map calls_of d.calls) 0; calls = makes_on d.calls e.calls d.faults e.faults o.1.calls; opened = refl };
  main = files_refused Main capacity d.told e.told o.0 o.1.told o.2;
  pre = files_refused Pre capacity d.told e.told o.0 o.1.told o.2;
  marks = refl;
  written = refl;
  reserved = refl;
  entries = refl;
}

abbrev pub OpensOn : {D : Type 0} → ℕ → Option (PairCache D) → Option TwoState → Option (PairCache D) → Type 0
OpensOn capacity o t o2 = (was : TwoState) → o ≡ None → t ≡ Some was
    → IfSome o2 (λ c. Reopens capacity c.store.index (joined_state was) c.store.disk × IfTold was.told (λ r. IsReopened capacity (files_now r) c.store.index) × (c.store.capacity ≡ capacity) × (c.store.pending.slots ≡ []) × IsTidy c.store × (c.pre_root ≡ was.pre.root) × IsSound c.store)

pub opens-steady : {D : Type 0} (mode : CacheMode) (capacity after : ℕ) (o o2 : Option (PairCache D)) (t t2 : Option TwoState) → is_some o ≡ false → is_some t ≡ true → after ≡ capacity → is_some o2 ≡ true → OpensOn capacity o t o2
    → Steady (store_of mode capacity o t) (store_of mode after o2 t2)
opens-steady mode capacity after (Some c) o2 t t2 shut has same opened h = cc
opens-steady mode capacity after None None t t2 shut has same opened h = cc
opens-steady mode capacity after None (Some c) None t2 shut has same opened h = cc
opens-steady mode capacity after None (Some c) (Some was) t2 shut has same opened h = let p = h was refl refl in
    subst (λ (n : ℕ). Steady (unopened_store mode capacity (joined_state was)) (opened_store mode n c.store)) (sym same) (opens mode capacity (joined_state was) c.store p.0 p.1 p.3 p.6)

pub refuses-steady : {D : Type 0} (mode : CacheMode) (capacity after : ℕ) (o o2 : Option (PairCache D)) (t t2 : Option TwoState) (was left : TwoState) → o ≡ None → o2 ≡ None → t ≡ Some was → t2 ≡ Some left → after ≡ capacity
    → RefusesOpening capacity (joined_state was) (joined_state left) → Steady (store_of mode capacity o t) (store_of mode after o2 t2)
refuses-steady {D} mode capacity after o o2 t t2 was left none none2 some some2 same h =
    subst (λ (x : Option (PairCache D)). Steady (store_of mode capacity x t) (store_of mode after o2 t2)) (sym none)
    (subst (λ (x : Option (PairCache D)). Steady (store_of {D = D} mode capacity None t) (store_of mode after x t2)) (sym none2)
    (subst (λ (x : Option TwoState). Steady (store_of {D = D} mode capacity None x) (store_of {D = D} mode after None t2)) (sym some)
    (subst (λ (x : Option TwoState). Steady (store_of {D = D} mode capacity None (Some was)) (store_of {D = D} mode after None x)) (sym some2)
    (subst (λ (n : ℕ). Steady (unopened_store mode capacity (joined_state was)) (unopened_store mode n (joined_state left))) (sym same) (refuses mode capacity (joined_state was) (joined_state left) h)))))

-- changes that give files moments, and no others
abbrev pub AllTouched : List Change → Type 0
AllTouched [] = Unit {0}
AllTouched (Touched k now ∷ xs) = AllTouched xs
AllTouched (x ∷ xs) = ⊥

bytes-all_touched : (xs : List Change) (f : DiskFiles) (q : List ℕ) → AllTouched xs → bytes_at (replay f xs) q ≡ bytes_at f q
bytes-all_touched [] f q h = refl
bytes-all_touched (Touched k now ∷ xs) f q h = bytes-touched (replay f xs) k now q ∙ bytes-all_touched xs f q h
bytes-all_touched (Made k now ∷ xs) f q h = absurd h
bytes-all_touched (Added k b ∷ xs) f q h = absurd h
bytes-all_touched (Moved k l ∷ xs) f q h = absurd h
bytes-all_touched (Gone k ∷ xs) f q h = absurd h

bytes_still : (a b : Option DiskRecord) (xs : List Change) → b ≡ option_map (did_all xs) a → AllTouched xs → (q : List ℕ) → bytes_at (told_files b) q ≡ bytes_at (told_files a) q
bytes_still None b xs e t q = ap (λ o. bytes_at (told_files o) q) e
bytes_still (Some r) b xs e t q = ap (λ o. bytes_at (told_files o) q) e ∙ ap (λ f. bytes_at f q) (files-did r xs) ∙ bytes-all_touched xs (files_now r) q t

pub entries-same : (divided : Bool) (f g : DiskFiles) (n : ℕ) (slots : List (Option Pending)) → ((q : List ℕ) → bytes_at g q ≡ bytes_at f q) → entries_from divided g n slots ≡ entries_from divided f n slots
entries-same divided f g n [] h = refl
entries-same divided f g n (None ∷ slots) h = ap (λ l. None ∷ l) (entries-same divided f g (suc n) slots h)
entries-same divided f g n (Some p ∷ slots) h =
    (λ i. Some (record { path = p.key; size = p.size; bytes = bytes_or (h (temporary divided p.key n) i); fills = None }) ∷ entries-same divided f g (suc n) slots h i)

same_lookups : (part : Part) (es fs : Index) (f g : DiskFiles) → ((q : List ℕ) → lookup (bytes_eq q) fs ≡ lookup (bytes_eq q) es) → ((q : List ℕ) → bytes_at g q ≡ bytes_at f q) → files_of part fs g ≡ files_of part es f
same_lookups part es fs f g looks bytes = same-shown part fs es g f (λ k i. cond (is_some (looks (in_part part k) i)) (bytes (in_part part k) i) None)

-- a call that changes the order of use and moments alone
pub uses-steady : (mode : CacheMode) (capacity : ℕ) (old new : Store) (xs : List Change) → ((q : List ℕ) → lookup (bytes_eq q) new.index ≡ lookup (bytes_eq q) old.index) → new.pending ≡ old.pending → Does xs old.disk new.disk → AllTouched xs
    → Steady (opened_store mode capacity old) (opened_store mode capacity new)
uses-steady mode capacity old new xs looks pending did t =
    let same = bytes_still old.disk.told new.disk.told xs did.told t in
    record {
      facts = ap (λ root. record { kind = (opened_store mode capacity old).facts.kind; wrapped = false; configured = mode; mode = mode; capacity = capacity; root = root }) did.root;
      told = still_told old.disk.told new.disk.told xs did.told;
      later = record { faults = did.faults; losses = loses_none (option_map calls_of old.disk.calls) 0; calls = makes_on old.disk.calls new.disk.calls old.disk.faults new.disk.faults did.calls; opened = refl };
      main = same_lookups Main old.index new.index (told_files old.disk.told) (told_files new.disk.told) looks same;
      pre = same_lookups Pre old.index new.index (told_files old.disk.told) (told_files new.disk.told) looks same;
      marks = refl;
      written = refl;
      reserved = ap (λ p. declared p.slots) pending;
      entries = (λ i. entries_from (did.divided i) (told_files new.disk.told) 0 (pending i).slots) ∙ entries-same old.disk.divided (told_files old.disk.told) (told_files new.disk.told) 0 old.pending.slots same;
    }

pub steady-then : (a b c : DiskStore) → Steady a b → Steady b c → Steady a c
steady-then a b c s t = record {
  facts = t.facts ∙ s.facts;
  told = t.told ∙ s.told;
  later = later_then a.level b.level c.level s.later t.later;
  main = t.main ∙ s.main;
  pre = t.pre ∙ s.pre;
  marks = t.marks ∙ s.marks;
  written = t.written ∙ s.written;
  reserved = t.reserved ∙ s.reserved;
  entries = t.entries ∙ s.entries;
}

-- a call that moved nothing, and one after an opening
pub stays-self : (s : DiskStore) → Stays s s
stays-self s = record { facts = refl; told = refl; later = later_same s.level }

pub stays-after : (a b c : DiskStore) → Steady a b → Stays b c → Stays a c
stays-after a b c s t = record { facts = t.facts ∙ s.facts; told = t.told ∙ s.told; later = later_then a.level b.level c.level s.later t.later }
