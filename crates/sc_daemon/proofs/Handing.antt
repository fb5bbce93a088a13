-- Writes that are handed on, as a daemon keeps them.
use Rattle.std.proofs.Common.{◌≡◌, ℕ, zero, suc, ◌<◌, Bool, true, false, List, [], ◌∷◌, length, Option, Some, None, IfSome, option_map, slice_get, set, drop, map, append_assoc, add-one, ◌+◌, ◌++◌, refl, ap, sym, ◌∙◌, arith}
use Rattle.std.specs.List.{remove}
use Rattle.sc_daemon.specs.Backlogs.{Write, with_write, write_at}
use Rattle.sc_model.specs.Trace.{numbered}
use Rattle.sc_model.specs.declared.level.Handed.{Handed}

pub numbered_count : (n m : ℕ) (b : Bool) (hs : List Handed) → length (numbered n m b hs) ≡ length hs
numbered_count n m b [] = refl
numbered_count n m b (h ∷ hs) = ap suc (numbered_count (suc n) m b hs)

pub at_slice : (ws : List Write) (i : ℕ) (w : Write) → slice_get ws i ≡ Some w → write_at i ws ≡ Some w
at_slice [] i w is = absurd (cc)
at_slice (v ∷ ws) zero w is = is
at_slice (v ∷ ws) (suc i) w is = at_slice ws i w is

-- a look at a place
pub got : {A : Type 0} (now : A → Write) (ws : List Write) (i : ℕ) (o : Option A) → option_map now o ≡ slice_get ws i → IfSome o (λ x. write_at i ws ≡ Some (now x))
got now ws i None is = tt
got now ws i (Some x) is = at_slice ws i (now x) (sym is)

from_place : (ws : List Write) (i : ℕ) (w : Write) → write_at i ws ≡ Some w → drop i ws ≡ w ∷ drop (suc i) ws
from_place [] i w e = absurd (cc)
from_place (v ∷ ws) zero w e = let same : v ≡ w = cc in ap (λ (x : Write). x ∷ ws) same
from_place (v ∷ ws) (suc i) w e = from_place ws i w e

-- one more is listed
pub one_listed : (left : List Handed) (ws : List Write) (i : ℕ) (w : Write) → write_at i ws ≡ Some w
    → left ++ map (λ (v : Write). v.pending.handed) (drop i ws) ≡ map (λ (v : Write). v.pending.handed) ws
    → (left ++ (w.pending.handed ∷ [])) ++ map (λ (v : Write). v.pending.handed) (drop (i + 1) ws) ≡ map (λ (v : Write). v.pending.handed) ws
one_listed left ws i w at e =
    append_assoc left (w.pending.handed ∷ []) (map (λ (v : Write). v.pending.handed) (drop (i + 1) ws))
    ∙ ap (λ (n : ℕ). left ++ (w.pending.handed ∷ map (λ (v : Write). v.pending.handed) (drop n ws))) (add-one i)
    ∙ ap (λ (vs : List Write). left ++ map (λ (v : Write). v.pending.handed) vs) (sym (from_place ws i w at))
    ∙ e

-- one of them goes on
pub went_on : (ws : List Write) (i : ℕ) (w : Write) → set ws i w ≡ with_write i false w ws
went_on [] i w = refl
went_on (v ∷ ws) zero w = refl
went_on (v ∷ ws) (suc i) w = ap (λ (vs : List Write). v ∷ vs) (went_on ws i w)

-- or is done, and goes
pub was_done : (ws : List Write) (i : ℕ) (w : Write) → remove (set ws i w) i ≡ with_write i true w ws
was_done [] zero w = refl
was_done [] (suc i) w = refl
was_done (v ∷ ws) zero w = refl
was_done (v ∷ ws) (suc i) w = ap (λ (vs : List Write). v ∷ vs) (was_done ws i w)

-- the write at a place went on, or is done
pub went : (ws ws2 new : List Write) (i : ℕ) (w : Write) (done ends : Bool) → done ≡ ends → ws2 ≡ set ws i w → (done ≡ true → new ≡ remove ws2 i) → (done ≡ false → new ≡ ws2) → new ≡ with_write i ends w ws
went ws ws2 new i w done true is put goes stays = goes is ∙ ap (λ (vs : List Write). remove vs i) put ∙ was_done ws i w
went ws ws2 new i w done false is put goes stays = stays is ∙ put ∙ went_on ws i w

pub place_within : (ws : List Write) (i : ℕ) (w : Write) → write_at i ws ≡ Some w → i < length ws
place_within [] i w e = absurd (cc)
place_within (v ∷ ws) zero w e = omega arith
place_within (v ∷ ws) (suc i) w e = let later : i < length ws = place_within ws i w e in omega (arith, later)

pub same_write : (ws : List Write) (i : ℕ) (v w : Write) → write_at i ws ≡ Some v → write_at i ws ≡ Some w → v ≡ w
same_write ws i v w a b = cc
