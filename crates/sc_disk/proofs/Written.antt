-- An entry is filled by pieces.
use Rattle.std.proofs.Common.{◌≡◌, ℕ, List, [], ◌∷◌, ap, sym, ◌∙◌}
use Rattle.slab.specs.Slab.{Slab, get}
use Rattle.sc_disk.specs.Inserting.{Fills, added}
use Rattle.sc_disk.specs.Store.{AddEntry, IsOpen, IsTidy, Store, temporary_of}
use Rattle.sc_disk.specs.declared.pending.Pending.{Pending}
use Rattle.sc_disk.proofs.Tidying.{AllQuiet, tidy-quiet, tidy-same}

quiet-added : (path : List ℕ) (pieces : List (List ℕ)) → AllQuiet (added path pieces)
quiet-added path [] = tt
quiet-added path (x ∷ xs) = (tt, quiet-added path xs)

pub tidy-filled : (e : AddEntry) (pieces : List (List ℕ)) (old new : Store) → Fills e pieces old new → IsTidy old → IsTidy new
tidy-filled e pieces old new f h = tidy-same old.pending.slots new.pending.slots new.disk (ap (λ p. p.slots) f.pending)
    (tidy-quiet old.pending.slots old.disk new.disk (added (temporary_of e) pieces) (quiet-added (temporary_of e) pieces) f.disk h)

pub open-filled : (e d : AddEntry) (pieces : List (List ℕ)) (old new : Store) → Fills e pieces old new → IsOpen old d → IsOpen new d
open-filled e d pieces old new f h = (h.0, ap (λ (p : Slab Pending). get p d.number) f.pending ∙ h.1, h.2, h.3 ∙ sym f.disk.divided)
