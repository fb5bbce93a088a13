-- What all keys leave in the target.
use Rattle.std.proofs.Common.{◌≡◌, ◌⊎◌, inl, inr, ℕ, ◌+◌, ◌<◌, ◌≤◌, true, false, List, [], ◌∷◌, ◌++◌, length, drop, Some, refl, sym, ap, ◌∙◌, subst, arith, append_assoc}
use Rattle.sc_disk_pair.specs.declared.part.Part.{Part}
use Rattle.sc_disk_pair.specs.declared.part.Part.TheVariants.{Main, Pre}
use Rattle.sc_entry.specs.Keys.{IsStoreKey, make_key_path, normalize_key}
use Rattle.sc_model.specs.Evicting.{part_size}
use Rattle.sc_model.specs.Levels.{find_file, main_path}
use Rattle.sc_model.specs.declared.level.LevelFacts.{LevelFacts}
use Rattle.sc_model.specs.declared.level.LevelKind.{LevelKind}
use Rattle.sc_model.specs.declared.level.LevelKind.TheVariants.{Disk, Remote}
use Rattle.sc_store.specs.Asking.{mark_path}
use Rattle.sc_store.specs.Held.{HeldLevel}
use Rattle.sc_store_alone.specs.Storages.{Alone, State}
use Rattle.sc_store_disk.specs.Marks.{is_marked}
use Rattle.sc_store_disk.specs.Moving.{part_files}
use Rattle.sc_store_warm.proofs.Sources.{key_stays, rose_before, rose_then, stays_self, stays_then, was_held}
use Rattle.sc_store_warm.proofs.Targets.{IsAside, Moved, TargetStep, moved, step_fits, step_grows, step_still, step_within, target_of}
use Rattle.sc_store_warm.specs.Causes.{IfTells, held_under}
use Rattle.sc_store_warm.specs.Outcomes.{FitEach, IsCopied, IsCopy, IsNext, IsOther, SourceStays, StaysOrGone, WhyGone, copied_bytes}
use Rattle.sc_store_warm.specs.Warming.{Each, WarmsKey}
use Rattle.sc_store_warm.specs.declared.warmed.Warmed.{Warmed}
use Rattle.sc_store_warm.specs.declared.warmed.Warmed.TheVariants.{Absent, Copied, FromRefused, ToRefused, Torn}

-- A first key, and those behind it, at a target that stands alone.
record Split (key : List ℕ) (keys : List (List ℕ)) (warmed : Warmed) (rest : List Warmed) (from from2 : State) (to to2 : HeldLevel) : Type 0 where
  source : State
  target : HeldLevel
  first : WarmsKey key warmed from source (Alone to) (Alone target)
  step : TargetStep key warmed from source to target
  more : Each WarmsKey keys rest source from2 (Alone target) (Alone to2)

split : (k : List ℕ) (keys : List (List ℕ)) (w : Warmed) (rest : List Warmed) (f g : State) (t u : HeldLevel) → Each WarmsKey (k ∷ keys) (w ∷ rest) f g (Alone t) (Alone u) → Split k keys w rest f g t u
split k keys w rest f g t u (source, target, first, more) =
    let at = target_of k w f source t target first in
    record {
      source = source;
      target = at.0;
      first = subst (λ (s : State). WarmsKey k w f source (Alone t) s) at.1 first;
      step = at.2;
      more = subst (λ (s : State). Each WarmsKey keys rest source g s (Alone u)) at.1 more;
    }

alone_same : (t u : HeldLevel) → Alone u ≡ Alone t → u ≡ t
alone_same t u e = cc

moved_by : (k : List ℕ) (keys : List (List ℕ)) (w : Warmed) (rest : List Warmed) (f g : State) (t u : HeldLevel) (x : Split k keys w rest f g t u) → Moved k w f t x.target
moved_by k keys w rest f g t u x = moved k w f x.source t x.target x.step

-- ---- what stays the same

-- What no key changes of the target.
record Same (old new : HeldLevel) : Type 0 where
  facts : new.facts ≡ old.facts
  reserved : new.room.reserved ≡ old.room.reserved
  losses : old.level.losses ≤ new.level.losses

all_same : (keys : List (List ℕ)) (rest : List Warmed) (f g : State) (t u : HeldLevel) → Each WarmsKey keys rest f g (Alone t) (Alone u) → Same t u
all_same [] [] f g t u h = subst (λ (x : HeldLevel). Same t x) (sym (alone_same t u h.1)) (record { facts = refl; reserved = refl; losses = omega arith })
all_same [] (w ∷ rest) f g t u h = absurd h
all_same (k ∷ keys) [] f g t u h = absurd h
all_same (k ∷ keys) (w ∷ rest) f g t u h =
    let x = split k keys w rest f g t u h in
    let m = moved_by k keys w rest f g t u x in
    let later = all_same keys rest x.source g x.target u x.more in
    record { facts = later.facts ∙ m.facts; reserved = later.reserved ∙ m.reserved; losses = omega (arith, m.losses, later.losses) }

pub same_target : (keys : List (List ℕ)) (rest : List Warmed) (f g : State) (t u : HeldLevel) → Each WarmsKey keys rest f g (Alone t) (Alone u) → (u.facts ≡ t.facts) × (u.room.reserved ≡ t.room.reserved)
same_target keys rest f g t u h = let s = all_same keys rest f g t u h in (s.facts, s.reserved)

-- ---- a copied key

key_back : (k : List ℕ) → IsStoreKey k → drop 4 (make_key_path k) ≡ k
key_back [] h = (cc)
key_back (a ∷ []) h = (cc)
key_back (a ∷ b ∷ []) h = (cc)
key_back (a ∷ b ∷ c ∷ k) h = refl

normal_back : (k : List ℕ) → IsStoreKey k → drop 6 (normalize_key k) ≡ k
normal_back [] h = (cc)
normal_back (a ∷ []) h = (cc)
normal_back (a ∷ b ∷ []) h = (cc)
normal_back (a ∷ b ∷ c ∷ k) h = refl

-- different store keys have different paths
one_key : (kind : LevelKind) (k i : List ℕ) → IsStoreKey k → IsStoreKey i → main_path kind k ≡ main_path kind i → k ≡ i
one_key Disk k i h g e = sym (key_back k h) ∙ ap (drop 4) e ∙ key_back i g
one_key Remote k i h g e = sym (normal_back k h) ∙ ap (drop 6) e ∙ normal_back i g

-- what a target holds under a key the first source has
abbrev IsRight : State → HeldLevel → List ℕ → Type 0
IsRight first t key = (c : List ℕ) → held_under t key ≡ Some c → IfTells first (λ s. held_under s key ≡ Some c)

-- by the facts of the target before
main_held : (f : LevelFacts) (t : HeldLevel) (key c : List ℕ) → t.facts ≡ f → held_under t key ≡ Some c → find_file t.level.main (main_path f.kind key) ≡ Some c
main_held f t key c is e = subst (λ (x : LevelFacts). find_file t.level.main (main_path x.kind key) ≡ Some c) is e

right_on : (first f : State) (k : List ℕ) (w : Warmed) (t u : HeldLevel) (key : List ℕ) → SourceStays first f → Moved k w f t u → t.told ≡ true → IsStoreKey key → IsRight first t key → IsRight first u key
right_on first f k w t u key stays m told good right c e = by (m.seen told (main_path t.facts.kind key) c (main_held t.facts u key c m.facts e))
  where
    by : (IsCopy w × (main_path t.facts.kind k ≡ main_path t.facts.kind key) × IfTells f (λ s. held_under s k ≡ Some c)) ⊎ (find_file t.level.main (main_path t.facts.kind key) ≡ Some c) → IfTells first (λ s. held_under s key ≡ Some c)
    by (inl (copy, path, at)) = was_held first f key c stays (subst (λ (i : List ℕ). IfTells f (λ s. held_under s i ≡ Some c)) (one_key t.facts.kind k key (m.good copy) good path) at)
    by (inr before) = right c before

right_copy : (first f : State) (k : List ℕ) (w : Warmed) (t u : HeldLevel) → SourceStays first f → Moved k w f t u → t.told ≡ true → IsCopy w → IsRight first u k
right_copy first f k w t u stays m told copy c e = was_held first f k c stays (m.there told copy c (main_held t.facts u k c m.facts e))

still_right : (keys : List (List ℕ)) (rest : List Warmed) (first f g : State) (t u : HeldLevel) (key : List ℕ) → SourceStays first f → Each WarmsKey keys rest f g (Alone t) (Alone u) → t.told ≡ true → IsStoreKey key → IsRight first t key → IsRight first u key
still_right [] [] first f g t u key stays h told good right = subst (λ (x : HeldLevel). IsRight first x key) (sym (alone_same t u h.1)) right
still_right [] (w ∷ rest) first f g t u key stays h told good right = absurd h
still_right (k ∷ keys) [] first f g t u key stays h told good right = absurd h
still_right (k ∷ keys) (w ∷ rest) first f g t u key stays h told good right =
    let x = split k keys w rest f g t u h in
    let m = moved_by k keys w rest f g t u x in
    still_right keys rest first x.source g x.target u key (stays_then first f x.source stays (key_stays k w f x.source (Alone t) (Alone x.target) x.first)) x.more (m.told ∙ told) good
    (right_on first f k w t x.target key stays m told good right)

copied_right : (keys : List (List ℕ)) (rest : List Warmed) (first f g : State) (t u : HeldLevel) (key : List ℕ) → SourceStays first f → Each WarmsKey keys rest f g (Alone t) (Alone u) → t.told ≡ true → IsCopied key keys rest → IsRight first u key
copied_right [] [] first f g t u key stays h told copied = absurd copied
copied_right [] (w ∷ rest) first f g t u key stays h told copied = absurd copied
copied_right (k ∷ keys) [] first f g t u key stays h told copied = absurd copied
copied_right (k ∷ keys) (w ∷ rest) first f g t u key stays h told (inl (is, copy)) =
    let x = split k keys w rest f g t u h in
    let m = moved_by k keys w rest f g t u x in
    let later = stays_then first f x.source stays (key_stays k w f x.source (Alone t) (Alone x.target) x.first) in
    subst (λ (i : List ℕ). IsRight first u i) is (still_right keys rest first x.source g x.target u k later x.more (m.told ∙ told) (m.good copy) (right_copy first f k w t x.target stays m told copy))
copied_right (k ∷ keys) (w ∷ rest) first f g t u key stays h told (inr copied) =
    let x = split k keys w rest f g t u h in
    let m = moved_by k keys w rest f g t u x in
    copied_right keys rest first x.source g x.target u key (stays_then first f x.source stays (key_stays k w f x.source (Alone t) (Alone x.target) x.first)) x.more (m.told ∙ told) copied

pub copied_stays : (keys : List (List ℕ)) (rest : List Warmed) (f g : State) (t u : HeldLevel) → Each WarmsKey keys rest f g (Alone t) (Alone u) → t.told ≡ true
    → (key bytes : List ℕ) → IsCopied key keys rest → held_under u key ≡ Some bytes → IfTells f (λ s. held_under s key ≡ Some bytes)
copied_stays keys rest f g t u h told key bytes copied e = copied_right keys rest f f g t u key (stays_self f) h told copied bytes e

-- ---- all else

-- what a key makes of the bytes of a store, and all behind it
grows_first : (w : Warmed) (rest : List Warmed) (a b c : ℕ) → ((size : ℕ) → w ≡ Copied size → b ≤ a + size) → ((IsCopy w → ⊥) → b ≤ a) → c ≤ b + copied_bytes rest → c ≤ a + copied_bytes (w ∷ rest)
grows_first (Copied size) rest a b c copy other more = let first : b ≤ a + size = copy size refl in omega (arith, first, more)
grows_first (FromRefused refusal) rest a b c copy other more = let first : b ≤ a = other (λ x. x) in omega (arith, first, more)
grows_first Absent rest a b c copy other more = let first : b ≤ a = other (λ x. x) in omega (arith, first, more)
grows_first Torn rest a b c copy other more = let first : b ≤ a = other (λ x. x) in omega (arith, first, more)
grows_first (ToRefused refusal) rest a b c copy other more = let first : b ≤ a = other (λ x. x) in omega (arith, first, more)

-- why a file is gone, where the first key is the reason
gone_first : (kind : LevelKind) (k : List ℕ) (keys : List (List ℕ)) (w : Warmed) (rest : List Warmed) (f : State) (part : Part) (t m u : HeldLevel) → m.level.losses ≤ u.level.losses → WhyGone kind (k ∷ []) (w ∷ []) f part t m → WhyGone kind (k ∷ keys) (w ∷ rest) f part t u
gone_first Disk k keys w rest f part t m u less x = record {
  key = x.key;
  listed = first x.before x.listed;
  bytes = x.bytes;
  spelled = x.spelled;
  wanted = x.wanted;
  before = x.before;
  behind = x.behind ++ rest;
  split = ap (λ (ws : List Warmed). ws ++ rest) x.split ∙ append_assoc x.before x.behind rest;
  over = x.over;
} where
  first : (before : List Warmed) → IsNext x.key (k ∷ []) before → IsNext x.key (k ∷ keys) before
  first [] e = e
  first (v ∷ before) none = absurd none
gone_first Remote k keys w rest f Main t m u less rose = rose_then t.level.losses m.level.losses u.level.losses rose less
gone_first Remote k keys w rest f Pre t m u less none = none

over_as : (capacity : LevelFacts → ℕ) (f g : LevelFacts) → f ≡ g → (r q : ℕ) → r ≡ q → (size more : ℕ) → capacity f < size + (r + more) → capacity g < size + (q + more)
over_as capacity f g e r q d size more h = subst (λ (n : ℕ). capacity g < size + (n + more)) d (subst (λ (x : LevelFacts). capacity x < size + (r + more)) e h)

over_more : (capacity size all more : ℕ) → size ≤ all → capacity < size + more → capacity < all + more
over_more capacity size all more less over = omega (arith, less, over)

-- where a later one is
gone_later : (kind : LevelKind) (k : List ℕ) (keys : List (List ℕ)) (w : Warmed) (rest : List Warmed) (f s : State) (part : Part) (t m u : HeldLevel) → SourceStays f s → m.facts ≡ t.facts → m.room.reserved ≡ t.room.reserved → t.level.losses ≤ m.level.losses
    → (kind ≡ Disk → (ws : List Warmed) → part_size m.level + copied_bytes ws ≤ part_size t.level + copied_bytes (w ∷ ws)) → WhyGone kind keys rest s part m u → WhyGone kind (k ∷ keys) (w ∷ rest) f part t u
gone_later Disk k keys w rest f s part t m u stays facts reserved less grows x = record {
  key = x.key;
  listed = x.listed;
  bytes = x.bytes;
  spelled = x.spelled;
  wanted = was_held f s x.key x.bytes stays x.wanted;
  before = w ∷ x.before;
  behind = x.behind;
  split = ap (λ (ws : List Warmed). w ∷ ws) x.split;
  over = over_more t.facts.capacity (part_size m.level + copied_bytes x.before) (part_size t.level + copied_bytes (w ∷ x.before)) (t.room.reserved + length x.bytes) (grows refl x.before)
      (over_as (λ (y : LevelFacts). y.capacity) m.facts t.facts facts m.room.reserved t.room.reserved reserved (part_size m.level + copied_bytes x.before) (length x.bytes) x.over);
}
gone_later Remote k keys w rest f s Main t m u stays facts reserved less grows rose = rose_before t.level.losses m.level.losses u.level.losses less rose
gone_later Remote k keys w rest f s Pre t m u stays facts reserved less grows none = none

aside_of : (part : Part) (kind : LevelKind) (k : List ℕ) (keys : List (List ℕ)) (w : Warmed) (rest : List Warmed) (p : List ℕ) → IsOther part kind p (k ∷ keys) (w ∷ rest) → IsAside part kind k w p
aside_of Main kind k keys w rest p h = λ copy e. h k (inl (refl, copy)) e
aside_of Pre kind k keys w rest p h = tt

other_of : (part : Part) (kind : LevelKind) (k : List ℕ) (keys : List (List ℕ)) (w : Warmed) (rest : List Warmed) (p : List ℕ) → IsOther part kind p (k ∷ keys) (w ∷ rest) → IsOther part kind p keys rest
other_of Main kind k keys w rest p h = λ key copied e. h key (inr copied) e
other_of Pre kind k keys w rest p h = tt

both_stay : (k : List ℕ) (keys : List (List ℕ)) (w : Warmed) (rest : List Warmed) (f s : State) (part : Part) (p : List ℕ) (t m u : HeldLevel) → SourceStays f s → m.facts ≡ t.facts → m.room.reserved ≡ t.room.reserved → t.level.losses ≤ m.level.losses → m.level.losses ≤ u.level.losses
    → (t.facts.kind ≡ Disk → (ws : List Warmed) → part_size m.level + copied_bytes ws ≤ part_size t.level + copied_bytes (w ∷ ws))
    → StaysOrGone (k ∷ []) (w ∷ []) f part p t m → StaysOrGone keys rest s part p m u → StaysOrGone (k ∷ keys) (w ∷ rest) f part p t u
both_stay k keys w rest f s part p t m u stays facts reserved less more grows (inl same) (inl later) = inl (later ∙ same)
both_stay k keys w rest f s part p t m u stays facts reserved less more grows (inl same) (inr (none, gone)) =
    inr (none, gone_later t.facts.kind k keys w rest f s part t m u stays facts reserved less grows (subst (λ (y : LevelFacts). WhyGone y.kind keys rest s part m u) facts gone))
both_stay k keys w rest f s part p t m u stays facts reserved less more grows (inr (none, gone)) (inl later) = inr (later ∙ none, gone_first t.facts.kind k keys w rest f part t m u more gone)
both_stay k keys w rest f s part p t m u stays facts reserved less more grows (inr (none, gone)) (inr (later, again)) = inr (later, gone_first t.facts.kind k keys w rest f part t m u more gone)

pub others_stay : (keys : List (List ℕ)) (rest : List Warmed) (f g : State) (t u : HeldLevel) → Each WarmsKey keys rest f g (Alone t) (Alone u) → t.told ≡ true
    → (part : Part) (path : List ℕ) → IsOther part t.facts.kind path keys rest → StaysOrGone keys rest f part path t u
others_stay [] [] f g t u h told part p other = inl (ap (λ (x : HeldLevel). find_file (part_files part x.level) p) (alone_same t u h.1))
others_stay [] (w ∷ rest) f g t u h told part p other = absurd h
others_stay (k ∷ keys) [] f g t u h told part p other = absurd h
others_stay (k ∷ keys) (w ∷ rest) f g t u h told part p other =
    let x = split k keys w rest f g t u h in
    let m = moved_by k keys w rest f g t u x in
    let later = all_same keys rest x.source g x.target u x.more in
    let behind : IsOther part x.target.facts.kind p keys rest = subst (λ (y : LevelFacts). IsOther part y.kind p keys rest) (sym m.facts) (other_of part t.facts.kind k keys w rest p other) in
    both_stay k keys w rest f x.source part p t x.target u (key_stays k w f x.source (Alone t) (Alone x.target) x.first) m.facts m.reserved m.losses later.losses
    (λ disk ws. grows_first w ws (part_size t.level) (part_size x.target.level) (part_size x.target.level + copied_bytes ws) (λ size is. step_grows k w f x.source t x.target size x.step is told disk) (λ apart. step_still k w f x.source t x.target x.step apart told disk) (omega arith))
    (m.others told part p (aside_of part t.facts.kind k keys w rest p other)) (others_stay keys rest x.source g x.target u x.more (m.told ∙ told) part p behind)

-- ---- marks

pub fewer_marked : (keys : List (List ℕ)) (rest : List Warmed) (f g : State) (t u : HeldLevel) → Each WarmsKey keys rest f g (Alone t) (Alone u) → (path : List ℕ) → is_marked t.marks path ≡ false → is_marked u.marks path ≡ false
fewer_marked [] [] f g t u h path e = ap (λ (x : HeldLevel). is_marked x.marks path) (alone_same t u h.1) ∙ e
fewer_marked [] (w ∷ rest) f g t u h path e = absurd h
fewer_marked (k ∷ keys) [] f g t u h path e = absurd h
fewer_marked (k ∷ keys) (w ∷ rest) f g t u h path e =
    let x = split k keys w rest f g t u h in
    fewer_marked keys rest x.source g x.target u x.more path ((moved_by k keys w rest f g t u x).fewer path e)

pub copied_unmarked : (keys : List (List ℕ)) (rest : List Warmed) (f g : State) (t u : HeldLevel) → Each WarmsKey keys rest f g (Alone t) (Alone u) → (key : List ℕ) → IsCopied key keys rest → is_marked u.marks (mark_path t.facts.kind key) ≡ false
copied_unmarked [] [] f g t u h key copied = absurd copied
copied_unmarked [] (w ∷ rest) f g t u h key copied = absurd copied
copied_unmarked (k ∷ keys) [] f g t u h key copied = absurd copied
copied_unmarked (k ∷ keys) (w ∷ rest) f g t u h key (inl (is, copy)) =
    let x = split k keys w rest f g t u h in
    subst (λ (i : List ℕ). is_marked u.marks (mark_path t.facts.kind i) ≡ false) is
    (fewer_marked keys rest x.source g x.target u x.more (mark_path t.facts.kind k) ((moved_by k keys w rest f g t u x).unmarked copy))
copied_unmarked (k ∷ keys) (w ∷ rest) f g t u h key (inr copied) =
    let x = split k keys w rest f g t u h in
    subst (λ (y : LevelFacts). is_marked u.marks (mark_path y.kind key) ≡ false) (moved_by k keys w rest f g t u x).facts (copied_unmarked keys rest x.source g x.target u x.more key copied)

-- ---- sizes

fit_first : (capacity r : ℕ) (w : Warmed) (rest : List Warmed) → ((size : ℕ) → w ≡ Copied size → size + r ≤ capacity) → FitEach capacity r rest → FitEach capacity r (w ∷ rest)
fit_first capacity r (Copied size) rest h more = (h size refl, more)
fit_first capacity r (FromRefused refusal) rest h more = more
fit_first capacity r Absent rest h more = more
fit_first capacity r Torn rest h more = more
fit_first capacity r (ToRefused refusal) rest h more = more

pub copies_fit : (keys : List (List ℕ)) (rest : List Warmed) (f g : State) (t u : HeldLevel) → Each WarmsKey keys rest f g (Alone t) (Alone u) → t.facts.kind ≡ Disk → FitEach t.facts.capacity t.room.reserved rest
copies_fit [] [] f g t u h disk = tt
copies_fit [] (w ∷ rest) f g t u h disk = absurd h
copies_fit (k ∷ keys) [] f g t u h disk = absurd h
copies_fit (k ∷ keys) (w ∷ rest) f g t u h disk =
    let x = split k keys w rest f g t u h in
    let m = moved_by k keys w rest f g t u x in
    let later : FitEach x.target.facts.capacity x.target.room.reserved rest = copies_fit keys rest x.source g x.target u x.more (ap (λ (y : LevelFacts). y.kind) m.facts ∙ disk) in
    fit_first t.facts.capacity t.room.reserved w rest (λ size is. step_fits k w f x.source t x.target size x.step is disk)
    (subst (λ (n : ℕ). FitEach t.facts.capacity n rest) m.reserved (subst (λ (y : LevelFacts). FitEach y.capacity x.target.room.reserved rest) m.facts later))

pub grows : (keys : List (List ℕ)) (rest : List Warmed) (f g : State) (t u : HeldLevel) → Each WarmsKey keys rest f g (Alone t) (Alone u) → t.told ≡ true → t.facts.kind ≡ Disk → part_size u.level ≤ part_size t.level + copied_bytes rest
grows [] [] f g t u h told disk = subst (λ (x : HeldLevel). part_size x.level ≤ part_size t.level + 0) (sym (alone_same t u h.1)) (omega arith)
grows [] (w ∷ rest) f g t u h told disk = absurd h
grows (k ∷ keys) [] f g t u h told disk = absurd h
grows (k ∷ keys) (w ∷ rest) f g t u h told disk =
    let x = split k keys w rest f g t u h in
    let m = moved_by k keys w rest f g t u x in
    grows_first w rest (part_size t.level) (part_size x.target.level) (part_size u.level) (λ size is. step_grows k w f x.source t x.target size x.step is told disk) (λ apart. step_still k w f x.source t x.target x.step apart told disk)
    (grows keys rest x.source g x.target u x.more (m.told ∙ told) (ap (λ (y : LevelFacts). y.kind) m.facts ∙ disk))

pub stays_within : (keys : List (List ℕ)) (rest : List Warmed) (f g : State) (t u : HeldLevel) → Each WarmsKey keys rest f g (Alone t) (Alone u) → t.facts.kind ≡ Disk → part_size t.level + t.room.reserved ≤ t.facts.capacity → part_size u.level + u.room.reserved ≤ u.facts.capacity
stays_within [] [] f g t u h disk within = subst (λ (x : HeldLevel). part_size x.level + x.room.reserved ≤ x.facts.capacity) (sym (alone_same t u h.1)) within
stays_within [] (w ∷ rest) f g t u h disk within = absurd h
stays_within (k ∷ keys) [] f g t u h disk within = absurd h
stays_within (k ∷ keys) (w ∷ rest) f g t u h disk within =
    let x = split k keys w rest f g t u h in
    let m = moved_by k keys w rest f g t u x in
    stays_within keys rest x.source g x.target u x.more (ap (λ (y : LevelFacts). y.kind) m.facts ∙ disk) (step_within k w f x.source t x.target x.step disk within)
