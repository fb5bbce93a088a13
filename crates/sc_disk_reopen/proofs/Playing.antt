-- Changes of files one after another, and their effects on those that are no temporaries.
use Rattle.std.proofs.Common.{◌≡◌, ◌⊎◌, inl, inr, ℕ, zero, suc, Bool, true, false, cond, bytes_eq, List, [], ◌∷◌, ◌++◌, take, option_map, Option, Some, None, refl, sym, ap, ◌∙◌, subst, append_assoc}
use Rattle.std.specs.FinMap as map
use Rattle.sc_disk.specs.declared.disk_file.DiskFile.{DiskFile}
use Rattle.sc_disk.specs.Disks.{DiskFiles, change, disk_file, disk_file_at, replay, with_disk_file}
use Rattle.sc_disk.specs.Inserting.{added, content}
use Rattle.sc_disk.specs.Names.{is_temporary_path}
use Rattle.sc_disk.specs.Store.{AreKeys, firsts, gone}
use Rattle.sc_disk.specs.declared.change.Change.{Change}
use Rattle.sc_disk.specs.declared.change.Change.TheVariants.{Made, Added, Touched, Moved, Gone}
use Rattle.sc_disk.proofs.Changing.{AreKeys-first, at-aside, at-gone, first_is_key}
use Rattle.sc_disk.proofs.Doing.{replay-append}
use Rattle.sc_disk.proofs.Files.{at-insert, at-removed, same_path, self_path}
use Rattle.sc_disk.proofs.Temporaries.{apart, apart-back}
use Rattle.sc_disk_reopen.specs.Moments.{Effect, HasHad, LeftBy, Removed, Shows, Standing, Stored, Torn, Used, removals, stood}

-- a stop on the way through both, the later first
pub LeftBy-append : (f c : DiskFiles) (xs ys : List Change) → LeftBy f (xs ++ ys) c → LeftBy (replay f ys) xs c ⊎ LeftBy f ys c
LeftBy-append f c [] ys l = inr l
LeftBy-append f c (x ∷ xs) ys (inl now) = inl (inl (now ∙ replay-append f (x ∷ xs) ys))
LeftBy-append f c (x ∷ xs) ys (inr (inl torn)) = inl (inr (inl (subst (λ (g : DiskFiles). Torn x g c) (replay-append f xs ys) torn)))
LeftBy-append f c (x ∷ xs) ys (inr (inr l)) = elim (LeftBy-append f c xs ys l) [ inl m ↦ inl (inr (inr m)) | inr m ↦ inr m ]

pub left-last : (xs : List Change) (f : DiskFiles) → LeftBy f xs (replay f xs)
left-last [] f = refl
left-last (x ∷ xs) f = inl refl

pub stood-append : (start : Standing) (es fs : List Effect) (q : List ℕ) → stood start (es ++ fs) q ≡ stood (stood start fs) es q
stood-append start [] fs q = refl
stood-append start (Removed k ∷ es) fs q = ap (cond (bytes_eq q k) None) (stood-append start es fs q)
stood-append start (Used k now ∷ es) fs q = ap (λ (o : Option DiskFile). cond (bytes_eq q k) (option_map (λ (x : DiskFile). disk_file now x.bytes) o) o) (stood-append start es fs q)
stood-append start (Stored k now bytes ∷ es) fs q = ap (cond (bytes_eq q k) (Some (disk_file now bytes))) (stood-append start es fs q)

pub stood-same : (start other : Standing) (es : List Effect) (q : List ℕ) → start q ≡ other q → stood start es q ≡ stood other es q
stood-same start other [] q h = h
stood-same start other (Removed k ∷ es) q h = ap (cond (bytes_eq q k) None) (stood-same start other es q h)
stood-same start other (Used k now ∷ es) q h = ap (λ (o : Option DiskFile). cond (bytes_eq q k) (option_map (λ (x : DiskFile). disk_file now x.bytes) o) o) (stood-same start other es q h)
stood-same start other (Stored k now bytes ∷ es) q h = ap (cond (bytes_eq q k) (Some (disk_file now bytes))) (stood-same start other es q h)

-- changes that have these effects, whatever a stop on the way leaves
pub record Plays (xs : List Change) (es : List Effect) (f : DiskFiles) : Type 0 where
  pub left : (c : DiskFiles) → LeftBy f xs c → HasHad es f c
  pub after : Shows (replay f xs) (stood (disk_file_at f) es)

had-all : (es : List Effect) (f c : DiskFiles) → Shows c (stood (disk_file_at f) es) → HasHad es f c
had-all es f c h = record { rest = []; had = es; all = refl; shows = h }

had-none : (es : List Effect) (f c : DiskFiles) → c ≡ f → HasHad es f c
had-none es f c h = record { rest = es; had = []; all = nothing es; shows = λ q t. ap (λ g. disk_file_at g q) h }
  where
    nothing : (es : List Effect) → es ++ [] ≡ es
    nothing [] = refl
    nothing (e ∷ es) = ap (λ l. e ∷ l) (nothing es)

pub plays-none : (f : DiskFiles) → Plays [] [] f
plays-none f = record { left = λ c l. had-none [] f c l; after = λ q t. refl }

pub plays-append : (xs ys : List Change) (es fs : List Effect) (f : DiskFiles) → Plays ys fs f → Plays xs es (replay f ys) → Plays (xs ++ ys) (es ++ fs) f
plays-append xs ys es fs f p1 p2 = record {
  left = λ c l. elim (LeftBy-append f c xs ys l) [
    | inl m ↦ let h = p2.left c m in record {
      rest = h.rest;
      had = h.had ++ fs;
      all = sym (append_assoc h.rest h.had fs) ∙ ap (λ l. l ++ fs) h.all;
      shows = λ q t. h.shows q t ∙ on q t h.had;
    }
    | inr m ↦ let h = p1.left c m in record { rest = es ++ h.rest; had = h.had; all = append_assoc es h.rest h.had ∙ ap (λ l. es ++ l) h.all; shows = h.shows }
  ];
  after = λ q t. ap (λ g. disk_file_at g q) (replay-append f xs ys) ∙ p2.after q t ∙ on q t es;
}
  where
    on : (q : List ℕ) → is_temporary_path q ≡ false → (gs : List Effect) → stood (disk_file_at (replay f ys)) gs q ≡ stood (disk_file_at f) (gs ++ fs) q
    on q t gs = stood-same (disk_file_at (replay f ys)) (stood (disk_file_at f) fs) gs q (p1.after q t) ∙ sym (stood-append (disk_file_at f) gs fs q)

-- a change of temporaries alone
abbrev pub IsHidden : Change → Type 0
IsHidden (Made path now) = is_temporary_path path ≡ true
IsHidden (Added path bytes) = is_temporary_path path ≡ true
IsHidden (Touched path now) = is_temporary_path path ≡ true
IsHidden (Moved from to) = ⊥
IsHidden (Gone path) = is_temporary_path path ≡ true

abbrev pub AllHidden : List Change → Type 0
AllHidden [] = Unit {0}
AllHidden (x ∷ xs) = IsHidden x × AllHidden xs

at-hidden : (x : Change) (f : DiskFiles) (q : List ℕ) → IsHidden x → is_temporary_path q ≡ false → disk_file_at (change x f) q ≡ disk_file_at f q
at-hidden (Made path now) f q a t = at-aside (Made path now) f q a t
at-hidden (Added path bytes) f q a t = at-aside (Added path bytes) f q a t
at-hidden (Touched path now) f q a t = at-aside (Touched path now) f q a t
at-hidden (Moved from to) f q a t = absurd a
at-hidden (Gone path) f q a t = at-gone f path q (apart q path t a)

torn-hidden : (x : Change) (f c : DiskFiles) (q : List ℕ) → IsHidden x → is_temporary_path q ≡ false → Torn x f c → disk_file_at c q ≡ disk_file_at f q
torn-hidden (Made path now) f c q a t torn = absurd torn
torn-hidden (Added path bytes) f c q a t torn = ap (λ g. disk_file_at g q) torn.1 ∙ at-aside (Added path (take torn.0 bytes)) f q a t
torn-hidden (Touched path now) f c q a t torn = absurd torn
torn-hidden (Moved from to) f c q a t torn = absurd torn
torn-hidden (Gone path) f c q a t torn = absurd torn

plays-hidden : (x : Change) (f : DiskFiles) → IsHidden x → Plays (x ∷ []) [] f
plays-hidden x f a = record { left = λ c l. had-all [] f c (λ q t. by c l q t); after = λ q t. at-hidden x f q a t }
  where
    by : (c : DiskFiles) → LeftBy f (x ∷ []) c → (q : List ℕ) → is_temporary_path q ≡ false → disk_file_at c q ≡ disk_file_at f q
    by c (inl now) q t = ap (λ g. disk_file_at g q) now ∙ at-hidden x f q a t
    by c (inr (inl torn)) q t = torn-hidden x f c q a t torn
    by c (inr (inr first)) q t = ap (λ g. disk_file_at g q) first

pub plays-hiddens : (xs : List Change) (f : DiskFiles) → AllHidden xs → Plays xs [] f
plays-hiddens [] f a = plays-none f
plays-hiddens (x ∷ xs) f a = plays-append (x ∷ []) xs [] [] f (plays-hiddens xs f a.1) (plays-hidden x (replay f xs) a.0)

plays-removed : (k : List ℕ) (f : DiskFiles) → Plays (Gone k ∷ []) (Removed k ∷ []) f
plays-removed k f = record { left = by; after = λ q t. at-removed f k q }
  where
    by : (c : DiskFiles) → LeftBy f (Gone k ∷ []) c → HasHad (Removed k ∷ []) f c
    by c (inl now) = had-all (Removed k ∷ []) f c (λ q t. ap (λ g. disk_file_at g q) now ∙ at-removed f k q)
    by c (inr (inl torn)) = absurd torn
    by c (inr (inr first)) = had-none (Removed k ∷ []) f c first

pub plays-gone : (ks : List (List ℕ)) (f : DiskFiles) → Plays (gone ks) (removals ks) f
plays-gone [] f = plays-none f
plays-gone (k ∷ ks) f = plays-append (gone ks) (Gone k ∷ []) (removals ks) (Removed k ∷ []) f (plays-removed k f) (plays-gone ks (change (Gone k) f))

abbrev timed : ℕ → DiskFile → DiskFile
timed now x = disk_file now x.bytes

pub at-touched : (k : List ℕ) (now : ℕ) (f : DiskFiles) (q : List ℕ) → disk_file_at (change (Touched k now) f) q ≡ cond (bytes_eq q k) (option_map (timed now) (disk_file_at f q)) (disk_file_at f q)
at-touched k now f q = by (disk_file_at f k) refl
  where
    absent : (b : Bool) (o : Option DiskFile) → (b ≡ true → o ≡ None) → o ≡ cond b (option_map (timed now) o) o
    absent true o h = h refl ∙ sym (ap (option_map (timed now)) (h refl))
    absent false o h = refl

    there : (b : Bool) (x : DiskFile) (o : Option DiskFile) → (b ≡ true → o ≡ Some x) → cond b (Some (timed now x)) o ≡ cond b (option_map (timed now) o) o
    there true x o h = sym (ap (option_map (timed now)) (h refl))
    there false x o h = refl

    by : (o : Option DiskFile) → disk_file_at f k ≡ o → disk_file_at (with_disk_file f k (option_map (timed now) (disk_file_at f k))) q ≡ cond (bytes_eq q k) (option_map (timed now) (disk_file_at f q)) (disk_file_at f q)
    by None is = ap (λ o. disk_file_at (with_disk_file f k (option_map (timed now) o)) q) is ∙ absent (bytes_eq q k) (disk_file_at f q) (λ t. ap (disk_file_at f) (same_path q k t) ∙ is)
    by (Some x) is = ap (λ o. disk_file_at (with_disk_file f k (option_map (timed now) o)) q) is ∙ at-insert f k (timed now x) q ∙ there (bytes_eq q k) x (disk_file_at f q) (λ t. ap (disk_file_at f) (same_path q k t) ∙ is)

pub plays-used : (k : List ℕ) (now : ℕ) (f : DiskFiles) → Plays (Touched k now ∷ []) (Used k now ∷ []) f
plays-used k now f = record { left = by; after = λ q t. at-touched k now f q }
  where
    by : (c : DiskFiles) → LeftBy f (Touched k now ∷ []) c → HasHad (Used k now ∷ []) f c
    by c (inl is) = had-all (Used k now ∷ []) f c (λ q t. ap (λ g. disk_file_at g q) is ∙ at-touched k now f q)
    by c (inr (inl torn)) = absurd torn
    by c (inr (inr first)) = had-none (Used k now ∷ []) f c first

at-moved : (t k : List ℕ) (x : DiskFile) (f : DiskFiles) (q : List ℕ) → disk_file_at f t ≡ Some x → bytes_eq q t ≡ false → disk_file_at (change (Moved t k) f) q ≡ cond (bytes_eq q k) (Some x) (disk_file_at f q)
at-moved t k x f q is off = ap (λ o. disk_file_at (with_disk_file (map.remove f t) k o) q) is ∙ at-insert (map.remove f t) k x q
    ∙ ap (cond (bytes_eq q k) (Some x)) (at-removed f t q ∙ ap (λ b. cond b None (disk_file_at f q)) off)

plays-stored : (t k : List ℕ) (now : ℕ) (bytes : List ℕ) (f : DiskFiles) → is_temporary_path t ≡ true → disk_file_at f t ≡ Some (disk_file now bytes) → Plays (Moved t k ∷ []) (Stored k now bytes ∷ []) f
plays-stored t k now bytes f temp is = record { left = by; after = λ q h. at-moved t k (disk_file now bytes) f q is (apart q t h temp) }
  where
    by : (c : DiskFiles) → LeftBy f (Moved t k ∷ []) c → HasHad (Stored k now bytes ∷ []) f c
    by c (inl now) = had-all (Stored k _ bytes ∷ []) f c (λ q h. ap (λ g. disk_file_at g q) now ∙ at-moved t k (disk_file _ bytes) f q is (apart q t h temp))
    by c (inr (inl torn)) = absurd torn
    by c (inr (inr first)) = had-none (Stored k now bytes ∷ []) f c first

-- a temporary stays through evictions
pub temporary-stays : (n : ℕ) (es : List (List ℕ × ℕ)) (f : DiskFiles) (t : List ℕ) → is_temporary_path t ≡ true → AreKeys es → disk_file_at (replay f (gone (firsts n es))) t ≡ disk_file_at f t
temporary-stays zero [] f t temp keys = refl
temporary-stays zero (e ∷ es) f t temp keys = refl
temporary-stays (suc n) [] f t temp keys = refl
temporary-stays (suc n) (e ∷ es) f t temp keys = ap (λ g. disk_file_at g t) (replay-append f (gone (firsts n es)) (Gone e.0 ∷ []))
    ∙ temporary-stays n es (change (Gone e.0) f) t temp (AreKeys-first (e ∷ es) keys) ∙ at-gone f e.0 t (apart-back t e.0 temp (first_is_key e es keys (is_temporary_path e.0) refl))

-- A temporary of these bytes gets its moment, and the key's place.
pub plays-settled : (t k : List ℕ) (now : ℕ) (x : DiskFile) (ys : List Change) (es : List Effect) (f : DiskFiles) → is_temporary_path t ≡ true → disk_file_at (replay f ys) t ≡ Some x → Plays ys es f
    → Plays (Moved t k ∷ Touched t now ∷ ys) (Stored k now x.bytes ∷ es) f
plays-settled t k now x ys es f temp is p =
    let g : DiskFiles = change (Touched t now) (replay f ys) in
    let there : disk_file_at g t ≡ Some (timed now x) = at-touched t now (replay f ys) t ∙ ap (λ b. cond b (option_map (timed now) (disk_file_at (replay f ys) t)) (disk_file_at (replay f ys) t)) (self_path t) ∙ ap (option_map (timed now)) is in
    plays-append (Moved t k ∷ []) (Touched t now ∷ ys) (Stored k now x.bytes ∷ []) es f
    (plays-append (Touched t now ∷ []) ys [] es f p (plays-hidden (Touched t now) (replay f ys) temp))
    (plays-stored t k now x.bytes g temp there)

made-at : (t : List ℕ) (now : ℕ) (f : DiskFiles) → disk_file_at (change (Made t now) f) t ≡ Some (disk_file now [])
made-at t now f = at-insert f t (disk_file now []) t ∙ ap (λ b. cond b (Some (disk_file now [])) (disk_file_at f t)) (self_path t)

one-more : (t bytes more : List ℕ) (now : ℕ) (g : DiskFiles) → disk_file_at g t ≡ Some (disk_file now bytes) → disk_file_at (change (Added t more) g) t ≡ Some (disk_file now (bytes ++ more))
one-more t bytes more now g is = ap (λ o. disk_file_at (with_disk_file g t (option_map (λ (x : DiskFile). disk_file x.moment (x.bytes ++ more)) o)) t) is ∙ at-insert g t (disk_file now (bytes ++ more)) t
    ∙ ap (λ b. cond b (Some (disk_file now (bytes ++ more))) (disk_file_at g t)) (self_path t)

-- the bytes of a temporary that was made and filled
pub filled-at : (t : List ℕ) (pieces : List (List ℕ)) (now : ℕ) (ys : List Change) (f : DiskFiles) → disk_file_at (replay f (added t pieces ++ (Made t now ∷ ys))) t ≡ Some (disk_file now (content pieces))
filled-at t [] now ys f = made-at t now (replay f ys)
filled-at t (x ∷ xs) now ys f = one-more t (content xs) x now (replay f (added t xs ++ (Made t now ∷ ys))) (filled-at t xs now ys f)

pub hidden-added : (t : List ℕ) (pieces : List (List ℕ)) → is_temporary_path t ≡ true → AllHidden (added t pieces)
hidden-added t [] temp = tt
hidden-added t (x ∷ xs) temp = (temp, hidden-added t xs temp)
