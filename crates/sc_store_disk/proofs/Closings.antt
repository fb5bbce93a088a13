-- Entries that are filled and closed.
use Rattle.std.proofs.Common.{◌≡◌, ◌≢◌, ◌⊎◌, inl, inr, ℕ, ◌+◌, ◌^◌, ◌<◌, ◌≤◌, Bool, true, false, cond, is_some, bytes_eq, option_map, OnErr, OnOk, Result, Ok, Err, List, [], ◌∷◌, ◌++◌, drop, take, length, Option, Some, None, refl, sym, ap, ◌∙◌, subst, arith}
use Rattle.std.specs.List.{IsDistinct}
use Rattle.std.specs.Map.{keys_of, lookup, remove_entry}
use Rattle.std.specs.Option.{option_map_or}
use Rattle.slab.specs.Slab.{Slab, Updates, get}
use Rattle.sc_entry.specs.Causes.{IfTold, Rose}
use Rattle.sc_entry.specs.declared.cache_mode.CacheMode.{CacheMode}
use Rattle.sc_disk.proofs.Doing.{does-after}
use Rattle.sc_disk.proofs.Files.{self_path}
use Rattle.sc_disk.proofs.Pairs.{lookup-last, lookup-push, lookup-removed, lookup-removed_other}
use Rattle.sc_disk.proofs.Temporaries.{apart, numbers-apart, temporary_is}
use Rattle.sc_disk.specs.Disks.{DiskFiles, DiskRecord, DiskState, Does, DoesPart, change, did_all, disk_file_at, files_now, replay}
use Rattle.sc_disk.specs.Names.{is_temporary_path, temporary}
use Rattle.sc_disk.specs.Refusals.{DiskRefusal}
use Rattle.sc_disk.specs.Sound.{IsSound}
use Rattle.sc_disk.specs.Store.{AddEntry, AreKeys, Closed, HasFiles, IsOpen, Store, declared, filed, firsts, gone, reserved, temporary_of}
use Rattle.sc_disk.specs.declared.change.Change.{Change}
use Rattle.sc_disk.specs.declared.change.Change.TheVariants.{Made, Added, Touched, Moved, Gone}
use Rattle.sc_disk.specs.declared.disk_file.DiskFile.{DiskFile}
use Rattle.sc_disk.specs.declared.error.Error.{Error}
use Rattle.sc_disk.specs.declared.error.Error.TheVariants.{Io}
use Rattle.sc_disk.specs.declared.pending.Pending.{Pending}
use Rattle.sc_model.specs.Asking.{same_maps}
use Rattle.sc_disk_pair.specs.declared.part.Part.{Part}
use Rattle.sc_disk_pair.specs.declared.part.Part.TheVariants.{Main, Pre}
use Rattle.sc_store_disk.specs.DiskStores.{OpenEntry, bytes_or, entries_of, entry_at, level_of, open_entry, opened_store, told_files}
use Rattle.sc_store_disk.specs.Entries.{ClosesEntry, FillsEntry, OthersStay}
use Rattle.sc_store_disk.specs.Moving.{Stays}
use Rattle.sc_store_disk.specs.Shown.{Index, bytes_at, files_of, shown}
use Rattle.sc_store_disk.proofs.Changing.{bytes-added, bytes-moved, bytes-touched}
use Rattle.sc_store_disk.proofs.Rooms.{AllAway, AllHidden, entry-kept, entry-of, files-left, slot-in, stays}
use Rattle.sc_store_disk.proofs.Steadying.{files-did}

-- no file went
no_more : (xs : List Change) → xs ++ [] ≡ xs
no_more [] = refl
no_more (x ∷ xs) = ap (λ l. x ∷ l) (no_more xs)

pub none-gone : (xs : List Change) (es : Index) → xs ≡ xs ++ gone (firsts 0 es)
none-gone xs [] = sym (no_more xs)
none-gone xs (e ∷ es) = sym (no_more xs)

pub did-none : (xs : List Change) (es : Index) (a b : DiskState) → Does xs a b → Does (xs ++ gone (firsts 0 es)) a b
did-none xs es a b d = subst (λ l. Does l a b) (none-gone xs es) d

none_dropped : (es : Index) → drop 0 es ≡ es
none_dropped [] = refl
none_dropped (e ∷ es) = refl

-- changes of temporaries leave what is held
hidden_part : (part : Part) (xs : List Change) (old new : Store) → new.index ≡ old.index → Does xs old.disk new.disk → AllHidden xs → IsDistinct bytes_eq (keys_of old.index) → IsSound old
    → files_of part new.index (told_files new.disk.told) ≡ files_of part old.index (told_files old.disk.told)
hidden_part part xs old new index did hidden d sound =
    files-left part xs 0 old new (index ∙ sym (none_dropped old.index)) (did-none xs old.index old.disk new.disk did) hidden d sound.keys ∙ ap (λ es. files_of part es (told_files old.disk.told)) (none_dropped old.index)

pub hidden-maps : (xs : List Change) (old new : Store) → new.index ≡ old.index → Does xs old.disk new.disk → AllHidden xs → IsDistinct bytes_eq (keys_of old.index) → IsSound old → same_maps (level_of true old.index old.disk) (level_of true new.index new.disk)
hidden-maps xs old new index did hidden d sound = (hidden_part Main xs old new index did hidden d sound, hidden_part Pre xs old new index did hidden d sound)

-- the other entries stay
pub others-stay : (mode : CacheMode) (capacity : ℕ) (xs : List Change) (n number : ℕ) (old new : Store) → Does (xs ++ gone (firsts n old.index)) old.disk new.disk → IsSound old → ((m : ℕ) → m ≢ number → get new.pending m ≡ get old.pending m)
    → ((m : ℕ) (p : Pending) → m ≢ number → get old.pending m ≡ Some p → AllAway (temporary old.disk.divided p.key m) xs) → OthersStay number (opened_store mode capacity old) (opened_store mode capacity new)
others-stay mode capacity xs n number old new did sound same away m apart = entry-kept xs n old new m did sound.keys (same m apart) (λ p e. away m p apart e)

-- an open entry's number, and where its temporary is
pub open-number : (s : Store) (e : AddEntry) → length s.pending.slots < 2 ^ 64 → IsOpen s e → e.number < 2 ^ 64
open-number s e few o = let l = slot-in s.pending.slots e.number o.0 o.1 in omega (arith, l, few)

pub apart-from : (s : Store) (e : AddEntry) (m : ℕ) (p : Pending) → length s.pending.slots < 2 ^ 64 → IsOpen s e → m ≢ e.number → get s.pending m ≡ Some p → bytes_eq (temporary s.disk.divided p.key m) (temporary_of e) ≡ false
apart-from s e m p few o apart h = numbers-apart s.disk.divided p.key m e.divided e.key e.number (let l = slot-in s.pending.slots m p h in omega (arith, l, few)) (open-number s e few o) apart

pub temporary-at : (s : Store) (e : AddEntry) (o : IsOpen s e) → temporary s.disk.divided o.0.key e.number ≡ temporary_of e
temporary-at s e o = λ i. temporary (sym o.3 i) (o.2 i) e.number

-- an open entry's temporary stands
some_bytes : (x : Option DiskFile) → is_some x ≡ true → (b : List ℕ) × (option_map (λ (file : DiskFile). file.bytes) x ≡ Some b)
some_bytes None h = cc
some_bytes (Some x) h = (x.bytes, refl)

pub temporary-stands : (s : Store) (r : DiskRecord) (e : AddEntry) (o : IsOpen s e) → HasFiles s.disk.divided s.index s.pending.slots (files_now r) → (b : List ℕ) × (bytes_at (files_now r) (temporary_of e) ≡ Some b)
temporary-stands s r e o files = some_bytes (disk_file_at (files_now r) (temporary_of e)) (ap (λ t. is_some (disk_file_at (files_now r) t)) (sym (temporary-at s e o)) ∙ files.temporaries e.number o.0 o.1)

-- the bytes of a temporary that was filled
filled_bytes : (s : Store) (a b : Option DiskRecord) (e : AddEntry) (o : IsOpen s e) (more : List ℕ) → b ≡ option_map (did_all (Added (temporary_of e) more ∷ [])) a → IfTold a (λ r. HasFiles s.disk.divided s.index s.pending.slots (files_now r)) → is_some a ≡ true
    → bytes_or (bytes_at (told_files b) (temporary_of e)) ≡ bytes_or (bytes_at (told_files a) (temporary_of e)) ++ more
filled_bytes s None b e o more is files told = cc
filled_bytes s (Some r) b e o more is files told =
    let t = temporary_of e in
    let x = temporary-stands s r e o files in
    ap (λ y. bytes_or (bytes_at (told_files y) t)) is ∙ ap (λ g. bytes_or (bytes_at g t)) (files-did r (Added t more ∷ []))
    ∙ ap bytes_or (bytes-added (files_now r) t more t ∙ ap (λ c. cond c (option_map (λ z. z ++ more) (bytes_at (files_now r) t)) (bytes_at (files_now r) t)) (self_path t) ∙ ap (option_map (λ z. z ++ more)) x.1)
    ∙ sym (ap (λ z. bytes_or z ++ more) x.1)

pub entry-is : (s : Store) (e : AddEntry) (o : IsOpen s e) → entry_at (entries_of s) e.number ≡ Some (record { path = e.key; size = o.0.size; bytes = bytes_or (bytes_at (told_files s.disk.told) (temporary_of e)); fills = None })
entry-is s e o = entry-of s e.number ∙ ap (option_map (open_entry s.disk.divided (told_files s.disk.told) e.number)) o.1
    ∙ (λ i. Some (record { path = o.2 i; size = o.0.size; bytes = bytes_or (bytes_at (told_files s.disk.told) (temporary-at s e o i)); fills = None }))

same_entry : (o p : OpenEntry) → Some o ≡ Some p → o ≡ p
same_entry o p h = cc

pub fills : (mode : CacheMode) (capacity : ℕ) (old new : Store) (e : AddEntry) (more : List ℕ) → IsOpen old e → IsSound old → IsDistinct bytes_eq (keys_of old.index) → length old.pending.slots < 2 ^ 64 → Does (Added (temporary_of e) more ∷ []) old.disk new.disk
    → new.index ≡ old.index → new.pending ≡ old.pending → FillsEntry e.number more (λ fills. fills) (opened_store mode capacity old) (opened_store mode capacity new)
fills mode capacity old new e more o sound d few did index pending =
    let later : IsOpen new e = (o.0, ap (λ p. get p e.number) pending ∙ o.1, o.2, o.3 ∙ sym did.divided) in
    record {
      level = (hidden-maps (Added (temporary_of e) more ∷ []) old new index did (temporary_is e.divided e.key e.number, tt) d sound, tt, (λ path. refl), (refl, refl, refl));
      reserved = ap (λ p. declared p.slots) pending;
      entry = λ x h. let was = same_entry x (record { path = e.key; size = o.0.size; bytes = bytes_or (bytes_at (told_files old.disk.told) (temporary_of e)); fills = None }) (sym h ∙ entry-is old e o) in (
        bytes_or (bytes_at (told_files new.disk.told) (temporary_of e)),
        entry-is new e later ∙ (λ i. Some (record { path = (sym was i).path; size = (sym was i).size; bytes = bytes_or (bytes_at (told_files new.disk.told) (temporary_of e)); fills = (sym was i).fills })),
        λ told. filled_bytes old old.disk.told new.disk.told e o more did.told sound.files told ∙ ap (λ (y : OpenEntry). y.bytes ++ more) (sym was),
      );
      others = others-stay mode capacity (Added (temporary_of e) more ∷ []) 0 e.number old new (did-none (Added (temporary_of e) more ∷ []) old.index old.disk new.disk did) sound (λ m apart. ap (λ p. get p m) pending)
          (λ m p apart h. (apart-from old e m p few o apart h, tt));
    }

pub closes : (mode : CacheMode) (capacity : ℕ) (old new : Store) (e : AddEntry) (xs : List Change) (n : ℕ) → IsOpen old e → IsSound old → Does (xs ++ gone (firsts n old.index)) old.disk new.disk → Closed e.number old new
    → ((m : ℕ) (p : Pending) → m ≢ e.number → get old.pending m ≡ Some p → AllAway (temporary old.disk.divided p.key m) xs) → ClosesEntry e.number (opened_store mode capacity old) (opened_store mode capacity new)
closes mode capacity old new e xs n o sound did closed away = record {
  closed = entry-of new e.number ∙ ap (option_map (open_entry new.disk.divided (told_files new.disk.told) e.number)) closed.entry.changed;
  others = others-stay mode capacity xs n e.number old new did sound closed.entry.others away;
  reserved = ap (λ z. reserved new + z) (ap (λ x. option_map_or (λ (y : OpenEntry). y.size) x 0) (entry-is old e o) ∙ sym (ap (λ x. option_map_or (λ (y : Pending). y.size) x 0) o.1)) ∙ closed.reserved;
}

closed_since : (number : ℕ) (old mid new : Store) → mid.pending ≡ old.pending → Closed number mid new → Closed number old new
closed_since number old mid new pending c = record {
  entry = subst (λ (p : Slab Pending). Updates p new.pending number None) pending c.entry;
  reserved = subst (λ (p : Slab Pending). declared new.pending.slots + option_map_or (λ (y : Pending). y.size) (get p number) 0 ≡ declared p.slots) pending c.reserved;
}

-- changes at one path alone
abbrev pub AtOnly : List ℕ → List Change → Type 0
AtOnly t [] = Unit {0}
AtOnly t (Added p b ∷ xs) = (p ≡ t) × AtOnly t xs
AtOnly t (Touched p now ∷ xs) = (p ≡ t) × AtOnly t xs
AtOnly t (Gone p ∷ xs) = (p ≡ t) × AtOnly t xs
AtOnly t (x ∷ xs) = ⊥

pub only-append : (t : List ℕ) (xs ys : List Change) → AtOnly t xs → AtOnly t ys → AtOnly t (xs ++ ys)
only-append t [] ys a b = b
only-append t (Added p c ∷ xs) ys a b = (a.0, only-append t xs ys a.1 b)
only-append t (Touched p now ∷ xs) ys a b = (a.0, only-append t xs ys a.1 b)
only-append t (Gone p ∷ xs) ys a b = (a.0, only-append t xs ys a.1 b)
only-append t (Made p now ∷ xs) ys a b = absurd a
only-append t (Moved p q ∷ xs) ys a b = absurd a

pub only-hidden : (t : List ℕ) (xs : List Change) → is_temporary_path t ≡ true → AtOnly t xs → AllHidden xs
only-hidden t [] h a = tt
only-hidden t (Added p c ∷ xs) h a = (ap is_temporary_path a.0 ∙ h, only-hidden t xs h a.1)
only-hidden t (Touched p now ∷ xs) h a = (ap is_temporary_path a.0 ∙ h, only-hidden t xs h a.1)
only-hidden t (Gone p ∷ xs) h a = (ap is_temporary_path a.0 ∙ h, only-hidden t xs h a.1)
only-hidden t (Made p now ∷ xs) h a = absurd a
only-hidden t (Moved p q ∷ xs) h a = absurd a

pub only-away : (t q : List ℕ) (xs : List Change) → bytes_eq q t ≡ false → AtOnly t xs → AllAway q xs
only-away t q [] h a = tt
only-away t q (Added p c ∷ xs) h a = (ap (bytes_eq q) a.0 ∙ h, only-away t q xs h a.1)
only-away t q (Touched p now ∷ xs) h a = (tt, only-away t q xs h a.1)
only-away t q (Gone p ∷ xs) h a = (ap (bytes_eq q) a.0 ∙ h, only-away t q xs h a.1)
only-away t q (Made p now ∷ xs) h a = absurd a
only-away t q (Moved p r ∷ xs) h a = absurd a

part_did : (t more : List ℕ) (a b : DiskState) → DoesPart t more a b → (xs : List Change) × Does xs a b × AtOnly t xs
part_did t more a b (inl d) = ([], d, tt)
part_did t more a b (inr (n, d)) = (Added t (take n more) ∷ [], d, (refl, tt))

gone_did : (t : List ℕ) (a b : DiskState) → Does (Gone t ∷ []) a b ⊎ Does [] a b → (xs : List Change) × Does xs a b × AtOnly t xs
gone_did t a b (inl d) = (Gone t ∷ [], d, (refl, tt))
gone_did t a b (inr d) = ([], d, tt)

pub either-did : {T E : Type 0} {P Q : Type 0} (r : Result T E) → OnOk r P → OnErr r Q → P ⊎ Q
either-did (Ok t) p q = inl p
either-did (Err e) p q = inr q

-- a refused fill, after which the entry is abandoned
pub gives-up : (mode : CacheMode) (capacity : ℕ) (old mid new : Store) (e : AddEntry) (more : List ℕ) → IsOpen old e → IsSound old → IsDistinct bytes_eq (keys_of old.index) → length old.pending.slots < 2 ^ 64
    → DoesPart (temporary_of e) more old.disk mid.disk → mid.index ≡ old.index → mid.pending ≡ old.pending → new.index ≡ mid.index → Closed e.number mid new → Does (Gone (temporary_of e) ∷ []) mid.disk new.disk ⊎ Does [] mid.disk new.disk
    → (same_maps (level_of true old.index old.disk) (level_of true new.index new.disk) × ClosesEntry e.number (opened_store mode capacity old) (opened_store mode capacity new)) × Stays (opened_store mode capacity old) (opened_store mode capacity new)
gives-up mode capacity old mid new e more o sound d few part index pending later closed gone =
    let t = temporary_of e in
    let first = part_did t more old.disk mid.disk part in
    let second = gone_did t mid.disk new.disk gone in
    let did = does-after old.disk mid.disk new.disk first.0 second.0 first.1 second.1 in
    let only = only-append t second.0 first.0 second.2 first.2 in (
      (
        hidden-maps (second.0 ++ first.0) old new (later ∙ index) did (only-hidden t (second.0 ++ first.0) (temporary_is e.divided e.key e.number) only) d sound,
        closes mode capacity old new e (second.0 ++ first.0) 0 o sound (did-none (second.0 ++ first.0) old.index old.disk new.disk did) (closed_since e.number old mid new pending closed)
            (λ m p apart h. only-away t (temporary old.disk.divided p.key m) (second.0 ++ first.0) (apart-from old e m p few o apart h) only),
      ),
      stays mode capacity old new (second.0 ++ first.0) did,
    )

either_more : (xs ys : List Change) (a b : DiskState) → Does xs a b ⊎ Does ys a b → a.faults ≤ b.faults
either_more xs ys a b (inl d) = d.faults
either_more xs ys a b (inr d) = d.faults

-- a disk's refusal is counted, also once its entry was abandoned
pub rose-since : (refused : Error) (xs ys : List Change) (old mid new : DiskState) → refused ≡ Io → DiskRefusal old.faults mid.faults refused → Does xs mid new ⊎ Does ys mid new → Rose old.faults new.faults
rose-since refused xs ys old mid new is cause later =
    let rose : Rose old.faults mid.faults = subst (DiskRefusal old.faults mid.faults) is cause in
    let more : mid.faults ≤ new.faults = either_more xs ys mid new later in
    omega (arith, rose, more)

-- A commit of an entry that was filled with no more than it declared.
find_new : (b : List ℕ) (s t : Bool) (x : Option (List ℕ)) → t ≡ false → cond s (Some b) (cond t None x) ≡ cond s (Some b) x
find_new b s t x e = ap (λ u. cond s (Some b) (cond u None x)) e

-- the bytes at a path that is no temporary's, once a temporary took its key's place
committed_bytes : (f : DiskFiles) (t k b : List ℕ) (now : ℕ) (q : List ℕ) → bytes_at f t ≡ Some b → bytes_eq q t ≡ false → bytes_at (replay f (Moved t k ∷ Touched t now ∷ [])) q ≡ cond (bytes_eq q k) (Some b) (bytes_at f q)
committed_bytes f t k b now q is apart =
    let g = change (Touched t now) f in
    bytes-moved g t k b q (bytes-touched f t now t ∙ is) ∙ find_new b (bytes_eq q k) (bytes_eq q t) (bytes_at g q) apart ∙ ap (cond (bytes_eq q k) (Some b)) (bytes-touched f t now q)

-- what is looked up once a pair was put last
abbrev pub looked : (s : Bool) (r : ℕ) (o : Option ℕ) → Option ℕ
looked true r o = Some r
looked false r o = o

pub lookup-filed : (q k : List ℕ) (r : ℕ) (es : Index) → IsDistinct bytes_eq (keys_of es) → (s : Bool) → bytes_eq q k ≡ s → lookup (bytes_eq q) (filed k r es) ≡ looked s r (lookup (bytes_eq q) es)
lookup-filed q k r es d true e = lookup-last q k r (remove_entry (bytes_eq k) es) e (lookup-removed q k es e d)
lookup-filed q k r es d false e = lookup-push q k r (remove_entry (bytes_eq k) es) e ∙ lookup-removed_other q k es e

shown_filed : (s : Bool) (r : ℕ) (o : Option ℕ) (b : List ℕ) (x y : Option (List ℕ)) → y ≡ cond s (Some b) x → cond (is_some (looked s r o)) y None ≡ cond s (Some b) (cond (is_some o) x None)
shown_filed true r o b x y e = e
shown_filed false r o b x y e = ap (λ z. cond (is_some o) z None) e

-- what is shown at a path of a part, for a key that was filed
pub shown-committed : (f g : DiskFiles) (es : Index) (t k b : List ℕ) (r now : ℕ) (q : List ℕ) → g ≡ replay f (Moved t k ∷ Touched t now ∷ []) → IsDistinct bytes_eq (keys_of es) → AreKeys es → is_temporary_path t ≡ true → is_temporary_path k ≡ false → bytes_at f t ≡ Some b
    → is_temporary_path q ≡ false → shown (filed k r es) g q ≡ cond (bytes_eq q k) (Some b) (shown es f q)
shown-committed f g es t k b r now q e d keys temporary_t plain_k is plain_q =
    ap (λ o. cond (is_some o) (bytes_at g q) None) (lookup-filed q k r es d (bytes_eq q k) refl)
    ∙ shown_filed (bytes_eq q k) r (lookup (bytes_eq q) es) b (bytes_at f q) (bytes_at g q) (ap (λ h. bytes_at h q) e ∙ committed_bytes f t k b now q is (apart q t plain_q temporary_t))
