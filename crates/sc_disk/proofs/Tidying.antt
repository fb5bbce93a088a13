-- No temporary stands about whose entry isn't open.
use Rattle.std.proofs.Common.{◌≡◌, inl, inr, ℕ, Bool, true, false, cond, is_some, bytes_eq, List, [], ◌∷◌, ◌++◌, take, slice_index_or, option_map, Option, Some, None, refl, sym, ap, ◌∙◌, subst}
use Rattle.std.specs.FinMap as map
use Rattle.slab.specs.Slab.{Slab, Updates, get}
use Rattle.sc_entry.specs.Causes.{IfTold}
use Rattle.sc_disk.specs.Disks.{AdoptsPart, DiskFiles, DiskState, Does, DoesPart, change, disk_file, disk_file_at, files_now, replay, with_disk_file}
use Rattle.sc_disk.specs.Names.{is_temporary_path, temporary}
use Rattle.sc_disk.specs.Store.{AddEntry, Alters, Closes, IsTidy, NoStray, Store, gone, temporary_of}
use Rattle.sc_disk.specs.Calls.{touched_by}
use Rattle.sc_disk.specs.declared.change.Change.{Change}
use Rattle.sc_disk.specs.declared.change.Change.TheVariants.{Made, Added, Touched, Moved, Gone}
use Rattle.sc_disk.specs.declared.disk_file.DiskFile.{DiskFile}
use Rattle.sc_disk.specs.declared.pending.Pending.{Pending}
use Rattle.sc_disk.proofs.Changing.{Slots, at-with}
use Rattle.sc_disk.proofs.Doing.{does-muted, mute, told-all}
use Rattle.sc_disk.proofs.Files.{at-insert, at-removed, same_path, self_path}
use Rattle.sc_disk.proofs.Keeping.{by_place, no_entry}
use Rattle.sc_disk.proofs.Temporaries.{apart-back, temporary_is}

-- no temporary stands about on the disk whose entry isn't among these
abbrev pub Tidy : Slots → DiskState → Type 0
Tidy slots d = IfTold d.told (λ r. NoStray d.divided slots (files_now r))

-- the same of a disk that is divided as before
tidy_divided : (slots : Slots) (old new : DiskState) → new.divided ≡ old.divided → IfTold new.told (λ r. NoStray old.divided slots (files_now r)) → Tidy slots new
tidy_divided slots old new same h = subst (λ (v : Bool). IfTold new.told (λ r. NoStray v slots (files_now r))) (sym same) h

-- a change that brings no temporary
abbrev pub IsQuiet : Change → Type 0
IsQuiet (Made path now) = ⊥
IsQuiet (Added path bytes) = Unit {0}
IsQuiet (Touched path now) = Unit {0}
IsQuiet (Moved from to) = is_temporary_path to ≡ false
IsQuiet (Gone path) = Unit {0}

abbrev pub AllQuiet : List Change → Type 0
AllQuiet [] = Unit {0}
AllQuiet (x ∷ xs) = IsQuiet x × AllQuiet xs

pub quiet-append : (xs ys : List Change) → AllQuiet xs → AllQuiet ys → AllQuiet (xs ++ ys)
quiet-append [] ys p q = q
quiet-append (x ∷ xs) ys p q = (p.0, quiet-append xs ys p.1 q)

pub quiet-gone : (ks : List (List ℕ)) → AllQuiet (gone ks)
quiet-gone [] = tt
quiet-gone (k ∷ ks) = quiet-append (gone ks) (Gone k ∷ []) (quiet-gone ks) (tt, tt)

some_cut : (b : Bool) (o : Option DiskFile) → is_some (cond b None o) ≡ true → is_some o ≡ true
some_cut true o h = cc
some_cut false o h = h

some_put_back : (b : Bool) (x : DiskFile) (o : Option DiskFile) → (b ≡ true → is_some o ≡ true) → is_some (cond b (Some x) o) ≡ true → is_some o ≡ true
some_put_back true x o there h = there refl
some_put_back false x o there h = h

some_changed : (g : DiskFile → DiskFile) (f : DiskFiles) (k q : List ℕ) (o : Option DiskFile) → disk_file_at f k ≡ o → is_some (disk_file_at (with_disk_file f k (option_map g o)) q) ≡ true → is_some (disk_file_at f q) ≡ true
some_changed g f k q None e h = h
some_changed g f k q (Some x) e h = some_put_back (bytes_eq q k) (g x) (disk_file_at f q) (λ t. ap is_some (ap (disk_file_at f) (same_path q k t) ∙ e)) (ap is_some (sym (at-insert f k (g x) q)) ∙ h)

some_moved_back : (f : DiskFiles) (s t q : List ℕ) (o : Option DiskFile) → bytes_eq q t ≡ false → is_some (disk_file_at (with_disk_file (map.remove f s) t o) q) ≡ true → is_some (disk_file_at f q) ≡ true
some_moved_back f s t q o off h = some_cut (bytes_eq q s) (disk_file_at f q) (ap is_some (sym (at-with (map.remove f s) t o q off ∙ at-removed f s q)) ∙ h)

-- after a quiet change only temporaries are there that were there
some_quiet : (x : Change) (f : DiskFiles) (q : List ℕ) → IsQuiet x → is_temporary_path q ≡ true → is_some (disk_file_at (change x f) q) ≡ true → is_some (disk_file_at f q) ≡ true
some_quiet (Made path now) f q a t h = absurd a
some_quiet (Added path bytes) f q a t h = some_changed (λ file. disk_file file.moment (file.bytes ++ bytes)) f path q (disk_file_at f path) refl h
some_quiet (Touched path now) f q a t h = some_changed (λ file. disk_file now file.bytes) f path q (disk_file_at f path) refl h
some_quiet (Moved from to) f q a t h = some_moved_back f from to q (disk_file_at f from) (apart-back q to t a) h
some_quiet (Gone path) f q a t h = some_cut (bytes_eq q path) (disk_file_at f q) (ap is_some (sym (at-removed f path q)) ∙ h)

stray-quiet : (v : Bool) (xs : List Change) (slots : Slots) (f : DiskFiles) → AllQuiet xs → NoStray v slots f → NoStray v slots (replay f xs)
stray-quiet v [] slots f a h = h
stray-quiet v (x ∷ xs) slots f a h = λ q t some. stray-quiet v xs slots f a.1 h q t (some_quiet x (replay f xs) q a.0 t some)

pub tidy-quiet : (slots : Slots) (old new : DiskState) (xs : List Change) → AllQuiet xs → Does xs old new → Tidy slots old → Tidy slots new
tidy-quiet slots old new xs a is h = tidy_divided slots old new is.divided (told-all old new xs (NoStray old.divided slots) (NoStray old.divided slots) is (λ f. stray-quiet old.divided xs slots f a) h)

pub tidy-part : (slots : Slots) (old new : DiskState) (path bytes : List ℕ) → DoesPart path bytes old new → Tidy slots old → Tidy slots new
tidy-part slots old new path bytes (inl same) h = tidy-quiet slots old new [] tt same h
tidy-part slots old new path bytes (inr part) h = tidy-quiet slots old new (Added path (take part.0 bytes) ∷ []) (tt, tt) part.1 h

pub tidy-adopted : (slots : Slots) (old new : DiskState) (outside path : List ℕ) → AdoptsPart outside path old new → Tidy slots old → Tidy slots new
tidy-adopted slots old new outside path (inl same) h = tidy-quiet slots (mute old) (mute new) [] tt (does-muted old new [] same) h
tidy-adopted slots old new outside path (inr (bytes, there, inl same)) h = tidy-quiet slots (mute old) (mute new) [] tt (does-muted old new [] same) h
tidy-adopted slots old new outside path (inr (bytes, there, inr part)) h = tidy-quiet slots (mute old) (mute new) (Added path (take part.0 bytes) ∷ []) (tt, tt) (does-muted old new (Added path (take part.0 bytes) ∷ []) part.1) h

stray-made : (v : Bool) (old new : Slab Pending) (n : ℕ) (e : Pending) (t : List ℕ) (now : ℕ) (f : DiskFiles) → t ≡ temporary v e.key n → get old n ≡ None → Updates old new n (Some e) → NoStray v old.slots f → NoStray v new.slots (change (Made t now) f)
stray-made v old new n e t now f at free u h = λ q temp some. by q temp (bytes_eq q t) refl (ap is_some (sym (at-insert f t (disk_file now []) q)) ∙ some)
  where
    other_open : (m : ℕ) (d : Pending) → get old m ≡ Some d → get new m ≡ Some d
    other_open m d is = by_place m n (get new m ≡ Some d) (λ off. u.others m off ∙ is) (λ same. absurd (no_entry d (sym free ∙ ap (get old) (sym same) ∙ is)))

    by : (q : List ℕ) → is_temporary_path q ≡ true → (b : Bool) → bytes_eq q t ≡ b → is_some (cond b (Some (disk_file now [])) (disk_file_at f q)) ≡ true → (m : ℕ) × (d : Pending) × (slice_index_or new.slots m None ≡ Some d) × (q ≡ temporary v d.key m)
    by q temp true is some = (n, e, u.changed, same_path q t is ∙ at)
    by q temp false is some = let was = h q temp some in (was.0, was.1, other_open was.0 was.1 was.2, was.3)

pub tidy-opened : (old new : Slab Pending) (d0 d1 : DiskState) (n : ℕ) (e : Pending) (t : List ℕ) (now : ℕ) (xs : List Change) → t ≡ temporary d0.divided e.key n → get old n ≡ None → Updates old new n (Some e) → AllQuiet xs
    → Does (Made t now ∷ xs) d0 d1 → Tidy old.slots d0 → Tidy new.slots d1
tidy-opened old new d0 d1 n e t now xs at free u a is h = let v = d0.divided in tidy_divided new.slots d0 d1 is.divided (told-all d0 d1 (Made t now ∷ xs) (NoStray v old.slots) (NoStray v new.slots) is
    (λ f g. stray-made v old new n e t now (replay f xs) at free u (stray-quiet v xs old.slots f a g)) h)

true_false : true ≡ false → ⊥
true_false e = cc

same_entry : (d e : Pending) → Some d ≡ Some e → d ≡ e
same_entry d e h = cc

-- where an entry was closed, its temporary is away
stray-closed : (v : Bool) (old new : Slab Pending) (m : ℕ) (e : Pending) (t : List ℕ) (f : DiskFiles) → t ≡ temporary v e.key m → get old m ≡ Some e → Updates old new m None → is_some (disk_file_at f t) ≡ false → NoStray v old.slots f → NoStray v new.slots f
stray-closed v old new m e t f at open_at u away h = λ q temp some. let was = h q temp some in (
  was.0,
  was.1,
  by_place was.0 m (get new was.0 ≡ Some was.1) (λ off. u.others was.0 off ∙ was.2)
      (λ same. let is : was.1 ≡ e = same_entry was.1 e (sym was.2 ∙ ap (get old) same ∙ open_at) in
      absurd (true_false (sym some ∙ ap (λ p. is_some (disk_file_at f p)) (was.3 ∙ (λ i. temporary v (is i).key (same i)) ∙ sym at) ∙ away))),
  was.3,
)

gone_away : (f : DiskFiles) (t : List ℕ) → is_some (disk_file_at (change (Gone t) f) t) ≡ false
gone_away f t = ap is_some (at-removed f t t ∙ ap (λ b. cond b None (disk_file_at f t)) (self_path t))

moved_away : (f : DiskFiles) (t k : List ℕ) → bytes_eq t k ≡ false → is_some (disk_file_at (change (Moved t k) f) t) ≡ false
moved_away f t k off = ap is_some (at-with (map.remove f t) k (disk_file_at f t) t off ∙ at-removed f t t ∙ ap (λ b. cond b None (disk_file_at f t)) (self_path t))

pub tidy-discarded : (old new : Slab Pending) (d0 d1 : DiskState) (m : ℕ) (e : Pending) (t : List ℕ) (xs : List Change) → t ≡ temporary d0.divided e.key m → get old m ≡ Some e → Updates old new m None → AllQuiet xs
    → Does (Gone t ∷ xs) d0 d1 → Tidy old.slots d0 → Tidy new.slots d1
tidy-discarded old new d0 d1 m e t xs at was u a is h = let v = d0.divided in tidy_divided new.slots d0 d1 is.divided (told-all d0 d1 (Gone t ∷ xs) (NoStray v old.slots) (NoStray v new.slots) is
    (λ f g. stray-closed v old new m e t (replay f (Gone t ∷ xs)) at was u (gone_away (replay f xs) t) (stray-quiet v (Gone t ∷ xs) old.slots f (tt, a) g)) h)

pub tidy-moved : (old new : Slab Pending) (d0 d1 : DiskState) (m : ℕ) (e : Pending) (t k : List ℕ) (xs : List Change) → t ≡ temporary d0.divided e.key m → get old m ≡ Some e → Updates old new m None → is_temporary_path k ≡ false → AllQuiet xs
    → Does (Moved t k ∷ xs) d0 d1 → Tidy old.slots d0 → Tidy new.slots d1
tidy-moved old new d0 d1 m e t k xs at was u key a is h = let v = d0.divided in tidy_divided new.slots d0 d1 is.divided (told-all d0 d1 (Moved t k ∷ xs) (NoStray v old.slots) (NoStray v new.slots) is
    (λ f g. stray-closed v old new m e t (replay f (Moved t k ∷ xs)) at was u (moved_away (replay f xs) t k (apart-back t k (ap is_temporary_path at ∙ temporary_is v e.key m) key)) (stray-quiet v (Moved t k ∷ xs) old.slots f (key, a) g)) h)

-- where a closed entry's temporary stood
pub entry_path : (e : AddEntry) (p : Pending) (old mid : Store) → Closes e p old mid → temporary_of e ≡ temporary old.disk.divided p.key e.number
entry_path e p old mid k = λ i. temporary (k.divided i) (sym k.key i) e.number

-- the same open entries
pub tidy-same : (slots slots2 : Slots) (d : DiskState) → slots2 ≡ slots → Tidy slots d → Tidy slots2 d
tidy-same slots slots2 d is h = subst (λ (s : Slots). Tidy s d) (sym is) h

pub quiet-touched : (b : Bool) (path : List ℕ) (now : ℕ) → AllQuiet (touched_by b path now)
quiet-touched true path now = (tt, tt)
quiet-touched false path now = tt

pub tidy-alters : (old new : Store) (xs : List Change) → AllQuiet xs → Alters xs old new → IsTidy old → IsTidy new
tidy-alters old new xs q a h = tidy-same old.pending.slots new.pending.slots new.disk (ap (λ p. p.slots) a.pending) (tidy-quiet old.pending.slots old.disk new.disk xs q a.disk h)

pub tidy-as : (old new : Store) → new.pending ≡ old.pending → new.disk ≡ old.disk → IsTidy old → IsTidy new
tidy-as old new p d h = tidy-same old.pending.slots new.pending.slots new.disk (ap (λ q. q.slots) p) (subst (λ (w : DiskState). Tidy old.pending.slots w) (sym d) h)
