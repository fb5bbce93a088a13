use Rattle.std.proofs.Common.{◌≡◌, inl, inr, List, [], ◌∷◌, ◌++◌, take, refl, sym, ap, ◌∙◌, subst, ℕ}
use Rattle.sc_disk.specs.Disks.{Does, DoesPart}
use Rattle.sc_disk.specs.Inserting.{Fills, Only, added}
use Rattle.sc_disk.specs.Store.{AddEntry, Store, temporary_of}
use Rattle.sc_disk.specs.declared.change.Change.TheVariants.{Added}
use Rattle.sc_disk.proofs.Doing.{does-after}
use Rattle.sc_disk_tests.proofs.store.TwoPiecesFileWriter.write.Goals as goal

abbrev IsFilled : AddEntry → Store → Store → Type 0
IsFilled e old new = (pieces : List (List ℕ)) × Unit {0} × Fills e pieces old new

-- a refused piece leaves nothing, or a front of it
left : (e : AddEntry) (bytes : List ℕ) (old new : Store) → Only (DoesPart (temporary_of e) bytes) old new → DoesPart (temporary_of e) bytes old.disk new.disk → IsFilled e old new
left e bytes old new o (inl none) = ([], tt, record { index = o.index; pending = o.pending; capacity = o.capacity; disk = none })
left e bytes old new o (inr some) = (take some.0 bytes ∷ [], tt, record { index = o.index; pending = o.pending; capacity = o.capacity; disk = some.1 })

added-append : (path : List ℕ) (xs ys : List (List ℕ)) → added path (xs ++ ys) ≡ added path xs ++ added path ys
added-append path [] ys = refl
added-append path (x ∷ xs) ys = ap (λ l. Added path x ∷ l) (added-append path xs ys)

more : (e f : AddEntry) (xs : List (List ℕ)) (a b c : Store) → f ≡ e → Fills e xs a b → IsFilled f b c → IsFilled e a c
more e f xs a b c same p q =
    let r : Fills e q.0 b c = subst (λ (d : AddEntry). Fills d q.0 b c) same q.2 in (
      q.0 ++ xs,
      tt,
      record {
        index = r.index ∙ p.index;
        pending = r.pending ∙ p.pending;
        capacity = r.capacity ∙ p.capacity;
        disk = subst (λ l. Does l a.disk c.disk) (sym (added-append (temporary_of e) q.0 xs)) (does-after a.disk b.disk c.disk (added (temporary_of e) xs) (added (temporary_of e) q.0) p.disk r.disk);
      },
    )

abbrev first : List ℕ
first = 97 ∷ 98 ∷ []

abbrev second : List ℕ
second = 99 ∷ 100 ∷ []

pub returns-in_err-write_all-clause-fills : goal.returns-in_err-write_all-clause-fills
returns-in_err-write_all-clause-fills g c = let o = c.in_err-write_all.ensures.err in left c.args.file.now.opened.now first c.args.file.now.store.now c.write_all.new.self.store.now o o.disk

pub returns-in_err-write_all-2-clause-fills : goal.returns-in_err-write_all-2-clause-fills
returns-in_err-write_all-2-clause-fills g c =
    let e = c.args.file.now.opened.now in
    let mid = c.write_all.new.self in
    let o = c.in_err-write_all-2.ensures.err in
    more e mid.opened.now (first ∷ []) c.args.file.now.store.now mid.store.now c.write_all-2.new.self.store.now c.in_ok-write_all.ensures.opened c.in_ok-write_all.ensures.ok
    (left mid.opened.now second mid.store.now c.write_all-2.new.self.store.now o o.disk)

pub returns-clause-fills : goal.returns-clause-fills
returns-clause-fills g c =
    let mid = c.write_all.new.self in
    more c.args.file.now.opened.now mid.opened.now (first ∷ []) c.args.file.now.store.now mid.store.now c.write_all-2.new.self.store.now c.in_ok-write_all.ensures.opened c.in_ok-write_all.ensures.ok
    (second ∷ [], tt, c.in_ok-write_all-2.ensures.ok)
