use Rattle.std.proofs.Common.{◌≡◌, List, ℕ, [], ◌∷◌, length, map, ap, sym, ◌∙◌, refl, rules, Bor}
use Rattle.std.proofs.lemmas.Map.Iter.{iter_end}
use Rattle.std.specs.FinMap.{entries}
use Rattle.std.specs.Map.Iter.{deref_pair}
use Rattle.sc_disk.specs.declared.disk.Listed.{Listed}
use Rattle.sc_disk.specs.declared.disk_file.DiskFile.{DiskFile}
use Rattle.sc_disk.proofs.FileTables.{entries_of_rising}
use Rattle.sc_disk.proofs.file_table.FileTable.list.Goals as goal

abbrev listed_of : List ℕ × DiskFile → Listed
listed_of e = record { path = e.0; size = length e.1.bytes; moment = e.1.moment }

files_yielded : (ps : List (Bor (List ℕ) × Bor DiskFile)) → map listed_of (map deref_pair ps) ≡ map (λ p. record { path = p.0.now; size = length p.1.now.bytes; moment = p.1.now.moment }) ps
files_yielded [] = refl
files_yielded (p ∷ ps) = ap (λ ts. listed_of (deref_pair p) ∷ ts) (files_yielded ps)

pub returns : goal.returns
returns c =
    let es : List (List ℕ × DiskFile) = c.self.inside.by_path.entries in
    let same : entries c.args.self.now ≡ es = ap entries (sym c.self.view_is) ∙ entries_of_rising es c.iter-path-items.ensures.ordered in
    let start : c.into_iter-path-iterator.result ≡ es = search rules in
    let all = iter_end deref_pair es c.loop-path.yielded _ _ _ _ start c.loop-path.yielded_by c.in-None.is c.next.ensures.steps in
    c.from_vec.ensures ∙ c.loop-path.invariant ∙ sym (files_yielded c.loop-path.yielded) ∙ ap (map listed_of) (all.0 ∙ sym same)
