-- What a refused call of one of two disks is to both: where the joined disk tells calls, the refusal counts in its own disk's.
use Rattle.std.proofs.Common.{◌≡◌, ℕ, ◌||◌, not, Bool, true, false, cond, List, [], ◌∷◌, ◌++◌, Option, Some, None, Result, Ok, Err, OnErr, refl, ap, ◌∙◌}
use Rattle.sc_entry.specs.declared.calls.Calls.{Calls}
use Rattle.sc_disk.specs.Disks.{ArePlaced, Changes, ChangesPart, DiskRecord, DiskState, Does, DoesPart, IsHeld, IsOneDevice, device_of, has_place, is_device}
use Rattle.sc_disk.specs.declared.disk.DiskError.{DiskError}
use Rattle.sc_disk.specs.declared.disk.Listed.{Listed}
use Rattle.sc_disk_pair.specs.Parts.{all_in, in_part}
use Rattle.sc_disk_pair.specs.Twos.{Past, TwoState, Weaves, calls_beside, fails_none, joined_calls, joined_state, whole_calls, woven}
use Rattle.sc_disk_pair.specs.declared.part.Part.TheVariants.{Main, Pre}
use Rattle.sc_disk_pair.proofs.Arms.{on_err}
use Rattle.sc_disk_pair.proofs.Weaving.{changes-main, changes-pre, changes_part-main, changes_part-pre, changes_still-main, changes_still-pre, does-main, does-pre, does-uncalled, held-main, held-pre, pair, part-main, part-pre, part-uncalled, still-main, still-pre}

-- A divided disk tells no calls, and neither does what it is joined to.
none_beside : (p : Option Calls) → calls_beside None p ≡ None
none_beside None = refl
none_beside (Some c) = by (fails_none c)
  where
    by : (b : Bool) → ◌≡◌ {A = Option Calls} (cond b None None) None
    by true = refl
    by false = refl

untold-main : (told : Option DiskRecord) (p : Option Calls) → joined_calls told None p ≡ None
untold-main None p = refl
untold-main (Some r) p = none_beside p

untold-pre : (told : Option DiskRecord) (m : Option Calls) → joined_calls told m None ≡ None
untold-pre None m = refl
untold-pre (Some r) m = refl

uncalled-main : (m p : DiskState) (k : ℕ) (past : Past) → m.divided ≡ true → (pair m p k past).calls ≡ None
uncalled-main m p k past e = ap (λ b. joined_calls (woven past) (cond b None m.calls) (whole_calls p)) e ∙ untold-main (woven past) (whole_calls p)

uncalled-pre : (m p : DiskState) (k : ℕ) (past : Past) → p.divided ≡ true → (pair m p k past).calls ≡ None
uncalled-pre m p k past e = ap (λ b. joined_calls (woven past) (whole_calls m) (cond b None p.calls)) e ∙ untold-pre (woven past) (whole_calls m)

-- divided or not
by_kind : (b : Bool) (P : Type 0) → (b ≡ true → P) → (b ≡ false → P) → P
by_kind true P split whole = split refl
by_kind false P split whole = whole refl

apart : (b : Bool) → b ≡ false → b ≡ true → ⊥
apart b f t = cc

placed_whole : (d : DiskState) (path : List ℕ) → d.divided ≡ false → has_place d path ≡ true
placed_whole d path e = ap (λ b. not b || is_device (device_of path) d.letters) e

always : {T : Type 0} (r : Result T DiskError) (P : Type 0) → P → OnErr r P
always (Ok x) P p = tt
always (Err e) P p = p

-- A call of the main disk was refused: with a file that is held,
pub err_held-main : {T : Type 0} (r : Result T DiskError) (m n p : DiskState) (k : ℕ) (past now : Past) (path : List ℕ) → now ≡ (n.told, p.told) ∷ past → Weaves m.told p.told past → OnErr r (Changes [] m n) → (IsHeld path m → OnErr r (Does [] m n)) → IsHeld (in_part Main path) (pair m p k past) → OnErr r (Does [] (pair m p k past) (pair n p k now))
err_held-main r m n p k past now path is w err held h = held-main m p k past path (OnErr r (Changes [] m n)) (OnErr r (Does [] m n)) (OnErr r (Does [] (pair m p k past) (pair n p k now))) w
    (λ none. on_err r (Changes [] m n) (Does [] (pair m p k past) (pair n p k now)) (λ c. does-uncalled (pair m p k past) (pair n p k now) [] none (changes-main m n p k past now [] is w c)))
    (on_err r (Does [] m n) (Does [] (pair m p k past) (pair n p k now)) (λ c. does-main m n p k past now [] is w c)) err held h

-- with one that was read,
pub err_still-main : {T : Type 0} (r : Result T DiskError) (m n p : DiskState) (k : ℕ) (past : Past) (path : List ℕ) → Weaves m.told p.told past → Changes [] m n → (IsHeld path m → OnErr r (Does [] m n)) → IsHeld (in_part Main path) (pair m p k past) → OnErr r (Does [] (pair m p k past) (pair n p k past))
err_still-main r m n p k past path w same held h = held-main m p k past path (Changes [] m n) (OnErr r (Does [] m n)) (OnErr r (Does [] (pair m p k past) (pair n p k past))) w
    (λ none c. always r (Does [] (pair m p k past) (pair n p k past)) (does-uncalled (pair m p k past) (pair n p k past) [] none (changes_still-main m n p k past c)))
    (on_err r (Does [] m n) (Does [] (pair m p k past) (pair n p k past)) (λ c. still-main m n p k past c)) same held h

-- with one that bytes were added to,
pub err_part-main : {T : Type 0} (r : Result T DiskError) (m n p : DiskState) (k : ℕ) (past now : Past) (path bytes : List ℕ) → now ≡ (n.told, p.told) ∷ past → Weaves m.told p.told past → OnErr r (ChangesPart path bytes m n) → (IsHeld path m → OnErr r (DoesPart path bytes m n)) → IsHeld (in_part Main path) (pair m p k past) → OnErr r (DoesPart (in_part Main path) bytes (pair m p k past) (pair n p k now))
err_part-main r m n p k past now path bytes is w err held h = held-main m p k past path (OnErr r (ChangesPart path bytes m n)) (OnErr r (DoesPart path bytes m n)) (OnErr r (DoesPart (in_part Main path) bytes (pair m p k past) (pair n p k now))) w
    (λ none. on_err r (ChangesPart path bytes m n) (DoesPart (in_part Main path) bytes (pair m p k past) (pair n p k now)) (λ c. part-uncalled (pair m p k past) (pair n p k now) (in_part Main path) bytes none (changes_part-main m n p k past now path bytes is w c)))
    (on_err r (DoesPart path bytes m n) (DoesPart (in_part Main path) bytes (pair m p k past) (pair n p k now)) (λ c. part-main m n p k past now path bytes is w c)) err held h

-- at a path that it has a place for,
pub err_placed-main : {T : Type 0} (r : Result T DiskError) (m n p : DiskState) (k : ℕ) (past now : Past) (path : List ℕ) → now ≡ (n.told, p.told) ∷ past → Weaves m.told p.told past → OnErr r (Changes [] m n) → (has_place m path ≡ true → OnErr r (Does [] m n)) → OnErr r (Does [] (pair m p k past) (pair n p k now))
err_placed-main r m n p k past now path is w err placed = by_kind m.divided (OnErr r (Does [] (pair m p k past) (pair n p k now)))
    (λ e. on_err r (Changes [] m n) (Does [] (pair m p k past) (pair n p k now)) (λ c. does-uncalled (pair m p k past) (pair n p k now) [] (uncalled-main m p k past e) (changes-main m n p k past now [] is w c)) err)
    (λ e. on_err r (Does [] m n) (Does [] (pair m p k past) (pair n p k now)) (λ c. does-main m n p k past now [] is w c) (placed (placed_whole m path e)))

-- or with one that is moved.
pub err_moved-main : {T : Type 0} (r : Result T DiskError) (m n p : DiskState) (k : ℕ) (past now : Past) (from to : List ℕ) → now ≡ (n.told, p.told) ∷ past → Weaves m.told p.told past → OnErr r (Changes [] m n) → (IsHeld from m → IsOneDevice from to m → OnErr r (Does [] m n)) → IsHeld (in_part Main from) (pair m p k past) → OnErr r (Does [] (pair m p k past) (pair n p k now))
err_moved-main r m n p k past now from to is w err held h = by_kind m.divided (OnErr r (Does [] (pair m p k past) (pair n p k now)))
    (λ e. on_err r (Changes [] m n) (Does [] (pair m p k past) (pair n p k now)) (λ c. does-uncalled (pair m p k past) (pair n p k now) [] (uncalled-main m p k past e) (changes-main m n p k past now [] is w c)) err)
    (λ e. err_held-main r m n p k past now from is w err (λ i. held i (λ d. absurd (apart m.divided e d))) h)

-- A call of the other disk was refused: with a file that is held,
pub err_held-pre : {T : Type 0} (r : Result T DiskError) (m p n : DiskState) (k : ℕ) (past now : Past) (path : List ℕ) → now ≡ (m.told, n.told) ∷ past → Weaves m.told p.told past → OnErr r (Changes [] p n) → (IsHeld path p → OnErr r (Does [] p n)) → IsHeld (in_part Pre path) (pair m p k past) → OnErr r (Does [] (pair m p k past) (pair m n k now))
err_held-pre r m p n k past now path is w err held h = held-pre m p k past path (OnErr r (Changes [] p n)) (OnErr r (Does [] p n)) (OnErr r (Does [] (pair m p k past) (pair m n k now))) w
    (λ none. on_err r (Changes [] p n) (Does [] (pair m p k past) (pair m n k now)) (λ c. does-uncalled (pair m p k past) (pair m n k now) [] none (changes-pre m p n k past now [] is w c)))
    (on_err r (Does [] p n) (Does [] (pair m p k past) (pair m n k now)) (λ c. does-pre m p n k past now [] is w c)) err held h

-- with one that was read,
pub err_still-pre : {T : Type 0} (r : Result T DiskError) (m p n : DiskState) (k : ℕ) (past : Past) (path : List ℕ) → Weaves m.told p.told past → Changes [] p n → (IsHeld path p → OnErr r (Does [] p n)) → IsHeld (in_part Pre path) (pair m p k past) → OnErr r (Does [] (pair m p k past) (pair m n k past))
err_still-pre r m p n k past path w same held h = held-pre m p k past path (Changes [] p n) (OnErr r (Does [] p n)) (OnErr r (Does [] (pair m p k past) (pair m n k past))) w
    (λ none c. always r (Does [] (pair m p k past) (pair m n k past)) (does-uncalled (pair m p k past) (pair m n k past) [] none (changes_still-pre m p n k past c)))
    (on_err r (Does [] p n) (Does [] (pair m p k past) (pair m n k past)) (λ c. still-pre m p n k past c)) same held h

-- with one that bytes were added to,
pub err_part-pre : {T : Type 0} (r : Result T DiskError) (m p n : DiskState) (k : ℕ) (past now : Past) (path bytes : List ℕ) → now ≡ (m.told, n.told) ∷ past → Weaves m.told p.told past → OnErr r (ChangesPart path bytes p n) → (IsHeld path p → OnErr r (DoesPart path bytes p n)) → IsHeld (in_part Pre path) (pair m p k past) → OnErr r (DoesPart (in_part Pre path) bytes (pair m p k past) (pair m n k now))
err_part-pre r m p n k past now path bytes is w err held h = held-pre m p k past path (OnErr r (ChangesPart path bytes p n)) (OnErr r (DoesPart path bytes p n)) (OnErr r (DoesPart (in_part Pre path) bytes (pair m p k past) (pair m n k now))) w
    (λ none. on_err r (ChangesPart path bytes p n) (DoesPart (in_part Pre path) bytes (pair m p k past) (pair m n k now)) (λ c. part-uncalled (pair m p k past) (pair m n k now) (in_part Pre path) bytes none (changes_part-pre m p n k past now path bytes is w c)))
    (on_err r (DoesPart path bytes p n) (DoesPart (in_part Pre path) bytes (pair m p k past) (pair m n k now)) (λ c. part-pre m p n k past now path bytes is w c)) err held h

-- at a path that it has a place for,
pub err_placed-pre : {T : Type 0} (r : Result T DiskError) (m p n : DiskState) (k : ℕ) (past now : Past) (path : List ℕ) → now ≡ (m.told, n.told) ∷ past → Weaves m.told p.told past → OnErr r (Changes [] p n) → (has_place p path ≡ true → OnErr r (Does [] p n)) → OnErr r (Does [] (pair m p k past) (pair m n k now))
err_placed-pre r m p n k past now path is w err placed = by_kind p.divided (OnErr r (Does [] (pair m p k past) (pair m n k now)))
    (λ e. on_err r (Changes [] p n) (Does [] (pair m p k past) (pair m n k now)) (λ c. does-uncalled (pair m p k past) (pair m n k now) [] (uncalled-pre m p k past e) (changes-pre m p n k past now [] is w c)) err)
    (λ e. on_err r (Does [] p n) (Does [] (pair m p k past) (pair m n k now)) (λ c. does-pre m p n k past now [] is w c) (placed (placed_whole p path e)))

-- or with one that is moved.
pub err_moved-pre : {T : Type 0} (r : Result T DiskError) (m p n : DiskState) (k : ℕ) (past now : Past) (from to : List ℕ) → now ≡ (m.told, n.told) ∷ past → Weaves m.told p.told past → OnErr r (Changes [] p n) → (IsHeld from p → IsOneDevice from to p → OnErr r (Does [] p n)) → IsHeld (in_part Pre from) (pair m p k past) → OnErr r (Does [] (pair m p k past) (pair m n k now))
err_moved-pre r m p n k past now from to is w err held h = by_kind p.divided (OnErr r (Does [] (pair m p k past) (pair m n k now)))
    (λ e. on_err r (Changes [] p n) (Does [] (pair m p k past) (pair m n k now)) (λ c. does-uncalled (pair m p k past) (pair m n k now) [] (uncalled-pre m p k past e) (changes-pre m p n k past now [] is w c)) err)
    (λ e. err_held-pre r m p n k past now from is w err (λ i. held i (λ d. absurd (apart p.divided e d))) h)

-- Each file of a listing of both is of one of them.
placed-pre : (t : TwoState) (fs : List Listed) → ArePlaced (all_in Pre fs) (joined_state t)
placed-pre t [] = tt
placed-pre t (f ∷ fs) = (refl, placed-pre t fs)

pub placed-listed : (t : TwoState) (es fs : List Listed) → ArePlaced (all_in Main es ++ all_in Pre fs) (joined_state t)
placed-listed t [] fs = placed-pre t fs
placed-listed t (e ∷ es) fs = (refl, placed-listed t es fs)
