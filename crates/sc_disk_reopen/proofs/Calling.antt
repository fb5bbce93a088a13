-- What a stop inside each call leaves.
use Rattle.std.proofs.Common.{◌≡◌, inl, inr, ℕ, ◌≤◌, Bool, true, false, List, [], ◌∷◌, ◌++◌, take, drop, option_map, Option, Some, None, Result, refl, sym, ap, ◌∙◌, subst, arith, append_assoc}
use Rattle.sc_entry.specs.Causes.{IfTold}
use Rattle.sc_lru.specs.LruCache.{total}
use Rattle.sc_disk.specs.Calls.{Commits, Prepares, RefusesAdd, RefusesCommit, removed_by, touched_by}
use Rattle.sc_disk.specs.Disks.{Adopts, AdoptsPart, Changes, ChangesPart, DiskFiles, DiskRecord, DiskState, Does, DoesPart, HasBytes, did_all, disk_file, disk_file_at, files_now, replay}
use Rattle.sc_disk.specs.declared.disk_file.DiskFile.{DiskFile}
use Rattle.sc_disk.specs.Inserting.{Fills, Inserts, RefusesInsert, added, content}
use Rattle.sc_disk.specs.Names.{is_temporary_path, temporary}
use Rattle.sc_disk.specs.Sound.{IsSound}
use Rattle.sc_disk.specs.Writing.{RefusesWriting}
use Rattle.sc_disk.specs.declared.writing.InsertError.{InsertError}
use Rattle.sc_disk.specs.Store.{AddEntry, AreKeys, HasFiles, Store, firsts, gone, size_of, temporary_of}
use Rattle.sc_disk.specs.declared.change.Change.{Change}
use Rattle.sc_disk.specs.declared.error.Error.{Error}
use Rattle.sc_disk.specs.declared.change.Change.TheVariants.{Made, Added, Touched, Moved}
use Rattle.sc_disk.proofs.Changing.{size}
use Rattle.sc_disk.proofs.Doing.{changes-of, replay-append}
use Rattle.sc_disk.proofs.Pairs.{Index}
use Rattle.sc_disk.proofs.Reopening.{AreKeys-dropped}
use Rattle.sc_disk.proofs.Temporaries.{temporary_is}
use Rattle.sc_disk_reopen.specs.Moments.{Effect, Keeps, Moments, Stored, removals, removals_by, used_by}
use Rattle.sc_disk_reopen.proofs.Chaining.{changes-after}
use Rattle.sc_disk_reopen.proofs.Playing.{AllHidden, Plays, filled-at, hidden-added, plays-append, plays-gone, plays-hiddens, plays-settled, plays-used, temporary-stays}
use Rattle.sc_disk_reopen.proofs.Within.{AllReduce, keeps-reduced, keeps-stored, reduce-append, reduce-removals}

-- what is told of a record, from what is told of the files
told-from : (o : Option DiskRecord) (P Q : DiskFiles → Type 0) → ((f : DiskFiles) → P f → Q f) → IfTold o (λ r. P (files_now r)) → IfTold o (λ r. Q (files_now r))
told-from None P Q step p = tt
told-from (Some r) P Q step p = step (files_now r) p

-- and of the files after it
told-two : (o n : Option DiskRecord) (xs : List Change) (P Q R : DiskFiles → Type 0) → n ≡ option_map (did_all xs) o → ((f : DiskFiles) → P f → Q (replay f xs) → R f) → IfTold o (λ r. P (files_now r)) → IfTold n (λ r. Q (files_now r)) → IfTold o (λ r. R (files_now r))
told-two None n xs P Q R is step p q = tt
told-two (Some r) n xs P Q R is step p q = step (files_now r) p (subst Q (replay-append r.first xs r.done) (subst (λ (o : Option DiskRecord). IfTold o (λ w. Q (files_now w))) is q))

-- Changes that store nothing, from any files.
pub record Lessens (es : List Effect) (old new : DiskState) : Type 0 where
  pub changes : List Change
  pub did : Changes changes old new
  pub plays : (f : DiskFiles) → Plays changes es f
  pub reduce : AllReduce es

pub lessens-then : (es fs : List Effect) (a b c : DiskState) → Lessens es a b → Lessens fs b c → Lessens (fs ++ es) a c
lessens-then es fs a b c p q = record {
  changes = q.changes ++ p.changes;
  did = changes-after a b c p.changes q.changes p.did q.did;
  plays = λ f. plays-append q.changes p.changes fs es f (p.plays f) (q.plays (replay f p.changes));
  reduce = reduce-append fs es q.reduce p.reduce;
}

lessens-still : (xs : List Change) (a b : DiskState) → AllHidden xs → Changes xs a b → Lessens [] a b
lessens-still xs a b h is = record { changes = xs; did = is; plays = λ f. plays-hiddens xs f h; reduce = tt }

pub lessens-hidden : (xs : List Change) (a b : DiskState) → AllHidden xs → Does xs a b → Lessens [] a b
lessens-hidden xs a b h is = lessens-still xs a b h (changes-of a b xs is)

-- temporaries alone after removals
pub lessens-gone : (xs : List Change) (ks : List (List ℕ)) (a b : DiskState) → AllHidden xs → Does (xs ++ gone ks) a b → Lessens (removals ks) a b
lessens-gone xs ks a b h is = record {
  changes = xs ++ gone ks;
  did = changes-of a b (xs ++ gone ks) is;
  plays = λ f. plays-append xs (gone ks) [] (removals ks) f (plays-gone ks f) (plays-hiddens xs (replay f (gone ks)) h);
  reduce = reduce-removals ks;
}

sound-total : (s : Store) → IsSound s → total size_of s.index ≤ s.capacity
sound-total s h = omega (arith, h.fits)

pub moments-less : (es : List Effect) (s : Store) (new : DiskState) → IsSound s → Lessens es s.disk new → Moments s.capacity es s.disk new
moments-less es s new h p = record {
  changes = p.changes;
  did = p.did;
  moments = told-from s.disk.told (HasFiles s.disk.divided s.index s.pending.slots) (Keeps s.capacity p.changes es)
      (λ f files. keeps-reduced s.capacity p.changes es s.index f (sound-total s h) files.agrees p.reduce (p.plays f)) h.files;
}

pub of-part : (path bytes : List ℕ) (a b : DiskState) → is_temporary_path path ≡ true → DoesPart path bytes a b → Lessens [] a b
of-part path bytes a b temp (inl same) = lessens-hidden [] a b tt same
of-part path bytes a b temp (inr part) = lessens-hidden (Added path (take part.0 bytes) ∷ []) a b (temp, tt) part.1

of-changed-part : (path bytes : List ℕ) (a b : DiskState) → is_temporary_path path ≡ true → ChangesPart path bytes a b → Lessens [] a b
of-changed-part path bytes a b temp (inl same) = lessens-still [] a b tt same
of-changed-part path bytes a b temp (inr part) = lessens-still (Added path (take part.0 bytes) ∷ []) a b (temp, tt) part.1

pub of-adopts : (outside path : List ℕ) (a b : DiskState) → is_temporary_path path ≡ true → Adopts outside path a b → Lessens [] a b
of-adopts outside path a b temp p = lessens-hidden (Added path p.0 ∷ []) a b (temp, tt) p.2

pub of-adopts-part : (outside path : List ℕ) (a b : DiskState) → is_temporary_path path ≡ true → AdoptsPart outside path a b → Lessens [] a b
of-adopts-part outside path a b temp (inl same) = lessens-still [] a b tt same
of-adopts-part outside path a b temp (inr part) = of-changed-part path part.0 a b temp part.2

hidden-touched : (b : Bool) (path : List ℕ) (now : ℕ) → is_temporary_path path ≡ true → AllHidden (touched_by b path now)
hidden-touched true path now temp = (temp, tt)
hidden-touched false path now temp = tt

hidden-removed : (b : Bool) (path : List ℕ) → is_temporary_path path ≡ true → AllHidden (removed_by b path)
hidden-removed true path temp = (temp, tt)
hidden-removed false path temp = tt

hidden-append : (xs ys : List Change) → AllHidden xs → AllHidden ys → AllHidden (xs ++ ys)
hidden-append [] ys a b = b
hidden-append (x ∷ xs) ys a b = (a.0, hidden-append xs ys a.1 b)

pub of-removed_by : (b : Bool) (path : List ℕ) (old new : DiskState) → is_temporary_path path ≡ true → Does (removed_by b path) old new → Lessens [] old new
of-removed_by b path old new temp is = lessens-hidden (removed_by b path) old new (hidden-removed b path temp) is

pub of-prepares : (e : AddEntry) (k : List ℕ) (declares now n : ℕ) (old new : Store) → Prepares e k declares now n old new → Lessens (removals (firsts n old.index)) old.disk new.disk
of-prepares e k declares now n old new p = lessens-gone (Made (temporary_of e) now ∷ []) (firsts n old.index) old.disk new.disk (temporary_is e.divided e.key e.number, tt) p.disk

pub of-refused-commit : (refused : Error) (e : AddEntry) (now n : ℕ) (touches removes : Bool) (old new : Store) → RefusesCommit refused e now n touches removes old new → Lessens (removals (firsts n old.index)) old.disk new.disk
of-refused-commit refused e now n touches removes old new p =
    let r = removed_by removes (temporary_of e) in let t = touched_by touches (temporary_of e) now in
    lessens-gone (r ++ t) (firsts n old.index) old.disk new.disk (hidden-append r t (hidden-removed removes (temporary_of e) (temporary_is e.divided e.key e.number)) (hidden-touched touches (temporary_of e) now (temporary_is e.divided e.key e.number)))
    (subst (λ xs. Does xs old.disk new.disk) (sym (append_assoc r t (gone (firsts n old.index)))) p.disk)

pub of-used : (b : Bool) (k : List ℕ) (now : ℕ) (old new : DiskState) → Does (touched_by b k now) old new → Lessens (used_by b k now) old new
of-used true k now old new is = record { changes = Touched k now ∷ []; did = changes-of old new (Touched k now ∷ []) is; plays = λ f. plays-used k now f; reduce = tt }
of-used false k now old new is = lessens-hidden [] old new tt is

pub of-removal : (b : Bool) (k : List ℕ) (old new : DiskState) → Does (removed_by b k) old new → Lessens (removals_by b k) old new
of-removal true k old new is = lessens-gone [] (k ∷ []) old new tt is
of-removal false k old new is = lessens-hidden [] old new tt is

-- A call that stores a file, whose changes play from the files of the store.
moments-stored : (xs : List Change) (k : List ℕ) (now : ℕ) (bytes : List ℕ) (es : List Effect) (old new : Store) (P : DiskFiles → Type 0) → IsSound old → IsSound new → new.capacity ≡ old.capacity → Does xs old.disk new.disk → AllReduce es
    → ((f : DiskFiles) → P f → Plays xs (Stored k now bytes ∷ es) f) → IfTold old.disk.told (λ r. P (files_now r)) → Moments old.capacity (Stored k now bytes ∷ es) old.disk new.disk
moments-stored xs k now bytes es old new P h g same is reduce plays p = record {
  changes = xs;
  did = changes-of old.disk new.disk xs is;
  moments = told-two old.disk.told new.disk.told xs (λ f. HasFiles old.disk.divided old.index old.pending.slots f × P f) (HasFiles new.disk.divided new.index new.pending.slots) (Keeps old.capacity xs (Stored k now bytes ∷ es)) is.told
      (λ f files last. keeps-stored old.capacity xs k now bytes es old.index new.index f (sound-total old h) (omega (arith, sound-total new g, same)) files.0.agrees last.agrees reduce (plays f files.1))
      (both old.disk.told h.files p) g.files;
}
  where
    both : (o : Option DiskRecord) → IfTold o (λ r. HasFiles old.disk.divided old.index old.pending.slots (files_now r)) → IfTold o (λ r. P (files_now r)) → IfTold o (λ r. HasFiles old.disk.divided old.index old.pending.slots (files_now r) × P (files_now r))
    both None a b = tt
    both (Some r) a b = (a, b)

some_size : (r : ℕ) → ◌≡◌ {A = Option ℕ} None (Some r) → ⊥
some_size r h = cc

-- the temporary's bytes
bytes-there : (o : Option DiskRecord) (t : List ℕ) (r : ℕ) → IfTold o (λ w. option_map size (disk_file_at (files_now w) t) ≡ Some r) → (bytes : List ℕ) × IfTold o (λ w. option_map (λ (x : DiskFile). x.bytes) (disk_file_at (files_now w) t) ≡ Some bytes)
bytes-there None t r h = ([], tt)
bytes-there (Some w) t r h = by (disk_file_at (files_now w) t) h
  where
    by : (o : Option DiskFile) → option_map size o ≡ Some r → (bytes : List ℕ) × (option_map (λ (x : DiskFile). x.bytes) o ≡ Some bytes)
    by None u = absurd (some_size r u)
    by (Some x) u = (x.bytes, refl)

no_bytes : (bytes : List ℕ) → ◌≡◌ {A = Option (List ℕ)} None (Some bytes) → ⊥
no_bytes bytes h = cc

same_bytes : (a b : List ℕ) → Some a ≡ Some b → a ≡ b
same_bytes a b h = cc

-- evictions, and the temporary of these bytes gets the key's place
plays-commit : (t k : List ℕ) (now n : ℕ) (bytes : List ℕ) (es : Index) (f : DiskFiles) → is_temporary_path t ≡ true → AreKeys es → option_map (λ (x : DiskFile). x.bytes) (disk_file_at f t) ≡ Some bytes
    → Plays (Moved t k ∷ Touched t now ∷ gone (firsts n es)) (Stored k now bytes ∷ removals (firsts n es)) f
plays-commit t k now n bytes es f temp keys is = by (disk_file_at f t) refl is
  where
    by : (o : Option DiskFile) → disk_file_at f t ≡ o → option_map (λ (x : DiskFile). x.bytes) o ≡ Some bytes → Plays (Moved t k ∷ Touched t now ∷ gone (firsts n es)) (Stored k now bytes ∷ removals (firsts n es)) f
    by None at u = absurd (no_bytes bytes u)
    by (Some x) at u = subst (λ (l : List ℕ). Plays (Moved t k ∷ Touched t now ∷ gone (firsts n es)) (Stored k now l ∷ removals (firsts n es)) f) (same_bytes x.bytes bytes u)
        (plays-settled t k now x (gone (firsts n es)) (removals (firsts n es)) f temp (temporary-stays n es f t temp keys ∙ at) (plays-gone (firsts n es) f))

pub of-commits : (e : AddEntry) (r now n : ℕ) (old new : Store) → IsSound old → IsSound new → new.capacity ≡ old.capacity → Commits e r now n old new
    → (bytes : List ℕ) × HasBytes (temporary_of e) bytes old.disk × Moments old.capacity (Stored e.key now bytes ∷ removals (firsts n old.index)) old.disk new.disk
of-commits e r now n old new h g same p =
    let t = temporary_of e in let b = bytes-there old.disk.told t r p.size in (
      b.0,
      b.1,
      moments-stored (Moved t e.key ∷ Touched t now ∷ gone (firsts n old.index)) e.key now b.0 (removals (firsts n old.index)) old new (λ f. option_map (λ (x : DiskFile). x.bytes) (disk_file_at f t) ≡ Some b.0) h g same p.disk (reduce-removals (firsts n old.index))
          (λ f is. plays-commit t e.key now n b.0 old.index f (temporary_is e.divided e.key e.number) h.keys is) b.1,
    )

-- the changes of a call that stores a whole file
plays-insert : (t k : List ℕ) (pieces : List (List ℕ)) (now n m : ℕ) (es : Index) (f : DiskFiles) → is_temporary_path t ≡ true → AreKeys es
    → Plays (Moved t k ∷ Touched t now ∷ (gone (firsts m (drop n es)) ++ (added t pieces ++ (Made t now ∷ gone (firsts n es))))) (Stored k now (content pieces) ∷ (removals (firsts m (drop n es)) ++ removals (firsts n es))) f
plays-insert t k pieces now n m es f temp keys =
    let before = added t pieces ++ (Made t now ∷ gone (firsts n es)) in
    let late = gone (firsts m (drop n es)) in
    let first : Plays before (removals (firsts n es)) f = plays-append (added t pieces) (Made t now ∷ gone (firsts n es)) [] (removals (firsts n es)) f
    (plays-append (Made t now ∷ []) (gone (firsts n es)) [] (removals (firsts n es)) f (plays-gone (firsts n es) f) (plays-hiddens (Made t now ∷ []) (replay f (gone (firsts n es))) (temp, tt)))
    (plays-hiddens (added t pieces) (replay f (Made t now ∷ gone (firsts n es))) (hidden-added t pieces temp)) in
    let there : disk_file_at (replay f (late ++ before)) t ≡ Some (disk_file now (content pieces)) = ap (λ g. disk_file_at g t) (replay-append f late before)
    ∙ temporary-stays m (drop n es) (replay f before) t temp (AreKeys-dropped n es keys) ∙ filled-at t pieces now (gone (firsts n es)) f in
    plays-settled t k now (disk_file now (content pieces)) (late ++ before) (removals (firsts m (drop n es)) ++ removals (firsts n es)) f temp there
    (plays-append late before (removals (firsts m (drop n es))) (removals (firsts n es)) f first (plays-gone (firsts m (drop n es)) (replay f before)))

pub of-inserts : (k : List ℕ) (pieces : List (List ℕ)) (declares now number n r m : ℕ) (old new : Store) → IsSound old → IsSound new → new.capacity ≡ old.capacity → Inserts k pieces declares now number n r m old new
    → Moments old.capacity (Stored k now (content pieces) ∷ (removals (firsts m (drop n old.index)) ++ removals (firsts n old.index))) old.disk new.disk
of-inserts k pieces declares now number n r m old new h g same p =
    let t = temporary old.disk.divided k number in
    moments-stored (Moved t k ∷ Touched t now ∷ (gone (firsts m (drop n old.index)) ++ (added t pieces ++ (Made t now ∷ gone (firsts n old.index))))) k now (content pieces) (removals (firsts m (drop n old.index)) ++ removals (firsts n old.index)) old new (λ f. Unit {0}) h g same p.disk
    (reduce-append (removals (firsts m (drop n old.index))) (removals (firsts n old.index)) (reduce-removals (firsts m (drop n old.index))) (reduce-removals (firsts n old.index)))
    (λ f _. plays-insert t k pieces now n m old.index f (temporary_is old.disk.divided k number) h.keys) (always old.disk.told)
  where
    always : (o : Option DiskRecord) → IfTold o (λ r. Unit {0})
    always None = tt
    always (Some r) = tt

-- what a call does whose entry is opened, filled and not committed
of-not-committed : (es : List Effect) (n m : ℕ) (k : List ℕ) (declares now : ℕ) (e : AddEntry) (refused : Error) (touches removes : Bool) (old mid full new : Store) → Prepares e k declares now n old mid → full.index ≡ mid.index → Lessens [] mid.disk full.disk
    → RefusesCommit refused e now m touches removes full new → Lessens (removals (firsts m (drop n old.index)) ++ removals (firsts n old.index)) old.disk new.disk
of-not-committed es n m k declares now e refused touches removes old mid full new p same fill c =
    subst (λ (l : Index). Lessens (removals (firsts m l) ++ removals (firsts n old.index)) old.disk new.disk) (same ∙ p.index)
    (lessens-then (removals (firsts n old.index)) (removals (firsts m full.index)) old.disk full.disk new.disk
    (lessens-then (removals (firsts n old.index)) [] old.disk mid.disk full.disk (of-prepares e k declares now n old mid p) fill)
    (of-refused-commit refused e now m touches removes full new c))

-- and where it isn't filled
of-given-up : (n : ℕ) (k : List ℕ) (declares now : ℕ) (e : AddEntry) (removes : Bool) (old mid full new : Store) → Prepares e k declares now n old mid → Lessens [] mid.disk full.disk → Does (removed_by removes (temporary_of e)) full.disk new.disk
    → Lessens (removals (firsts n old.index)) old.disk new.disk
of-given-up n k declares now e removes old mid full new p fill gone_by =
    lessens-then (removals (firsts n old.index)) [] old.disk full.disk new.disk
    (lessens-then (removals (firsts n old.index)) [] old.disk mid.disk full.disk (of-prepares e k declares now n old mid p) fill)
    (of-removed_by removes (temporary_of e) full.disk new.disk (temporary_is e.divided e.key e.number) gone_by)

-- evictions, and no more of them
once : (n : ℕ) (old new : Store) → Lessens (removals (firsts n old.index)) old.disk new.disk → Lessens (removals (firsts 0 (drop n old.index)) ++ removals (firsts n old.index)) old.disk new.disk
once n old new p = subst (λ (l : List (List ℕ)). Lessens (removals l ++ removals (firsts n old.index)) old.disk new.disk) (none (drop n old.index)) p
  where
    none : (es : Index) → [] ≡ firsts 0 es
    none [] = refl
    none (x ∷ es) = refl

abbrev pub Less : Store → Store → Type 0
Less old new = (n : ℕ) × (m : ℕ) × Lessens (removals (firsts m (drop n old.index)) ++ removals (firsts n old.index)) old.disk new.disk

pub of-refused-add : (refused : Error) (k : List ℕ) (declares n : ℕ) (old new : Store) → RefusesAdd refused k declares n old new → Lessens (removals (firsts n old.index)) old.disk new.disk
of-refused-add refused k declares n old new p = lessens-gone [] (firsts n old.index) old.disk new.disk tt p.disk

pub of-refused-insert : (told : Error) (k : List ℕ) (declares now : ℕ) (part whole : AddEntry → DiskState → DiskState → Type 0) (old new : Store) → ((e : AddEntry) (a b : DiskState) → part e a b → Lessens [] a b) → ((e : AddEntry) (a b : DiskState) → whole e a b → Lessens [] a b)
    → RefusesInsert told k declares now part whole old new → Less old new
unfolding RefusesInsert
of-refused-insert told k declares now part whole old new p w (inl r) = (r.0, 0, once r.0 old new (of-refused-add told k declares r.0 old new r.1))
of-refused-insert told k declares now part whole old new p w (inr (e, n, mid, full, prepared, inl r)) =
    (n, 0, once n old new (of-given-up n k declares now e r.1 old mid full new prepared (p e mid.disk full.disk r.2.disk) r.4.disk))
of-refused-insert told k declares now part whole old new p w (inr (e, n, mid, full, prepared, inr r)) =
    (n, r.0, of-not-committed [] n r.0 k declares now e told r.1 r.2 old mid full new prepared r.3.index (w e mid.disk full.disk r.3.disk) r.4)

pub of-fills : (e : AddEntry) (pieces : List (List ℕ)) (old new : Store) → Fills e pieces old new → Lessens [] old.disk new.disk
of-fills e pieces old new f = lessens-hidden (added (temporary_of e) pieces) old.disk new.disk (hidden-added (temporary_of e) pieces (temporary_is e.divided e.key e.number)) f.disk

pub of-refused-writing : {E : Type 0} (wrote : Result (Unit {0}) E → List (List ℕ) → Type 0) (told : InsertError E) (k : List ℕ) (now : ℕ) (old new : Store) → RefusesWriting wrote told k now old new → Less old new
unfolding RefusesWriting
of-refused-writing wrote told k now old new (inl r) = (r.2, 0, once r.2 old new (of-refused-add r.0 k 0 r.2 old new r.3))
of-refused-writing wrote told k now old new (inr (e, n, mid, full, pieces, prepared, filled, inl r)) =
    (n, 0, once n old new (of-given-up n k 0 now e r.1 old mid full new prepared (of-fills e pieces mid full filled) r.3.disk))
of-refused-writing wrote told k now old new (inr (e, n, mid, full, pieces, prepared, filled, inr r)) =
    (n, r.1, of-not-committed [] n r.1 k 0 now e r.0 r.2 r.3 old mid full new prepared filled.index (of-fills e pieces mid full filled) r.6)

pub moments-evicts : (old new : Store) → IsSound old → Less old new → (n : ℕ) × (m : ℕ) × Moments old.capacity (removals (firsts m (drop n old.index)) ++ removals (firsts n old.index)) old.disk new.disk
moments-evicts old new h l = (l.0, l.1, moments-less (removals (firsts l.1 (drop l.0 old.index)) ++ removals (firsts l.0 old.index)) old new.disk h l.2)
