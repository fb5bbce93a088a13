-- Each call's clauses, and what a stop inside it leaves.
use Rattle.std.proofs.Common.{◌≡◌, ◌⊎◌, inl, inr, ℕ, true, List, [], ◌∷◌, Result, is_some, bytes_eq}
use Rattle.std.specs.Map.{lookup}
use Rattle.sc_disk.specs.Disks.{DiskState, Does, DoesPart}
use Rattle.sc_disk.specs.Names.{is_temporary_path}
use Rattle.sc_disk.specs.Store.{AddEntry, firsts, temporary_of}
use Rattle.sc_disk.specs.declared.change.Change.TheVariants.{Added}
use Rattle.sc_disk.proofs.Temporaries.{temporary_is}
use Rattle.sc_disk_reopen.specs.Moments.{removals, removals_by, used_by}
use Rattle.sc_disk_reopen.specs.Stops.{StopsAbandoning, StopsCommitting, StopsFilling, StopsGetting, StopsInserting, StopsPreparing, StopsRefusingBytes, StopsRefusingFile, StopsRefusingToAdd, StopsRefusingToCommit, StopsRefusingToGet, StopsRefusingWritten, StopsRemoving, StopsStill, StopsWriting}
use Rattle.sc_disk_reopen.proofs.Calling.{Lessens, lessens-hidden, moments-evicts, moments-less, of-adopts, of-adopts-part, of-commits, of-fills, of-inserts, of-part, of-prepares, of-refused-add, of-refused-commit, of-refused-insert, of-refused-writing, of-removal, of-removed_by, of-used}

temp : (e : AddEntry) → is_temporary_path (temporary_of e) ≡ true
temp e = temporary_is e.divided e.key e.number

pub preparing : StopsPreparing
preparing e k size now n old new h p = moments-less (removals (firsts n old.index)) old new.disk h (of-prepares e k size now n old new p)

pub refusing_to_add : StopsRefusingToAdd
refusing_to_add refused k size n old new h p = moments-less (removals (firsts n old.index)) old new.disk h (of-refused-add refused k size n old new p)

filled : (e : AddEntry) (bytes : List ℕ) (a b : DiskState) → (Does (Added (temporary_of e) bytes ∷ []) a b) ⊎ DoesPart (temporary_of e) bytes a b → Lessens [] a b
filled e bytes a b (inl whole) = lessens-hidden (Added (temporary_of e) bytes ∷ []) a b (temp e, tt) whole
filled e bytes a b (inr part) = of-part (temporary_of e) bytes a b (temp e) part

pub filling : StopsFilling
filling e bytes old new h p = moments-less [] old new.disk h (filled e bytes old.disk new.disk p)

pub writing : StopsWriting
writing e pieces old new h p = moments-less [] old new.disk h (of-fills e pieces old new p)

pub committing : StopsCommitting
committing e r now n old new h g same p = of-commits e r now n old new h g same p

pub refusing_to_commit : StopsRefusingToCommit
refusing_to_commit refused e now n touches removes old new h p = moments-less (removals (firsts n old.index)) old new.disk h (of-refused-commit refused e now n touches removes old new p)

pub abandoning : StopsAbandoning
abandoning e removes old new h p = moments-less [] old new.disk h (of-removed_by removes (temporary_of e) old.disk new.disk (temp e) p)

pub inserting : StopsInserting
inserting k pieces size now number n r m old new h g same p = of-inserts k pieces size now number n r m old new h g same p

pub refusing_bytes : StopsRefusingBytes
refusing_bytes refused k bytes size now old new h p = moments-evicts old new h (of-refused-insert refused k size now _ _ old new (λ e a b part. of-part (temporary_of e) bytes a b (temp e) part) (λ e a b whole. lessens-hidden (Added (temporary_of e) bytes ∷ []) a b (temp e, tt) whole) p)

pub refusing_file : StopsRefusingFile
refusing_file refused k outside size now old new h p = moments-evicts old new h (of-refused-insert refused k size now _ _ old new (λ e a b part. of-adopts-part outside (temporary_of e) a b (temp e) part) (λ e a b whole. of-adopts outside (temporary_of e) a b (temp e) whole) p)

pub refusing_written : {E : Type 0} (wrote : Result (Unit {0}) E → List (List ℕ) → Type 0) → StopsRefusingWritten wrote
refusing_written wrote told k now old new h p = moments-evicts old new h (of-refused-writing wrote told k now old new p)

pub getting : StopsGetting
getting k read now old new h p = moments-less (used_by true k now) old new.disk h (of-used true k now old.disk new.disk p.disk)

pub refusing_to_get : StopsRefusingToGet
refusing_to_get refused k now touches old new h p = moments-less (used_by touches k now) old new.disk h (of-used touches k now old.disk new.disk p.disk)

pub removing : StopsRemoving
removing k old new h p = let b = is_some (lookup (bytes_eq k) old.index) in moments-less (removals_by b k) old new.disk h (of-removal b k old.disk new.disk p.disk)

pub still : StopsStill
still old new h p = moments-less [] old new.disk h (lessens-hidden [] old.disk new.disk tt p)
