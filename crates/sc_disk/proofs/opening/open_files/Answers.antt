use Rattle.std.proofs.Common.{◌≡◌, List, [], ℕ, sym, ap, subst, ◌∙◌, arith}
use Rattle.sc_disk.specs.Disks.{ArePlaced, IsListing}
use Rattle.sc_disk.specs.Opening.{dropped_of, paths_of}
use Rattle.sc_disk.specs.Store.{gone}
use Rattle.sc_disk.specs.declared.disk.Listed.{Listed}
use Rattle.sc_disk.proofs.Keeping.{on_err}
use Rattle.sc_disk.proofs.Places.{still-placed}
use Rattle.sc_disk.proofs.Reopening.{good_sorted, placed_sorted, refused_dropping, refused_indexing, refused_listing, refused_sorting, reopened}
use Rattle.sc_disk.proofs.opening.open_files.Goals as goal

pub returns-in_err-sort-clause-err : goal.returns-in_err-sort-clause-err
returns-in_err-sort-clause-err g c = let state = g.D.Disk.state in let cap = c.args.capacity in let all = c.into_vec-all.result.items in
    on_err c.from_residual-in_err-sort.result _ (refused_sorting cap all (state c.args.disk.now) (state c.list.new.self) (state c.keep_files.new.disk) c.in_ok-list.ensures.same
    (subst (λ (l : List Listed). IsListing l (state c.args.disk.now)) (sym c.into_vec-all.ensures) c.in_ok-list.ensures.listed) c.in_ok-files.ensures.ok)

pub index_files-requires : goal.index_files-requires
index_files-requires g c = let state = g.D.Disk.state in let cap = c.args.capacity in let all = c.into_vec-all.result.items in let kept = c.in_ok-files.files.items in
    let placed : ArePlaced all (state c.args.disk.now) = subst (λ (l : List Listed). ArePlaced l (state c.args.disk.now)) (sym c.into_vec-all.ensures) c.in_ok-list.ensures.placed in
    record {
      kept = good_sorted cap all kept c.sort.new.self.items c.in_ok-files.ensures.kept c.in_ok-sort.ensures.permutation;
      placed = still-placed (state c.list.new.self) (state c.keep_files.new.disk) (gone (paths_of (dropped_of cap all))) c.in_ok-files.ensures.ok c.sort.new.self.items
          (still-placed (state c.args.disk.now) (state c.list.new.self) [] c.in_ok-list.ensures.same c.sort.new.self.items (placed_sorted cap all kept c.sort.new.self.items (state c.args.disk.now) c.in_ok-files.ensures.kept c.in_ok-sort.ensures.permutation placed));
    }

pub keep_files-requires : goal.keep_files-requires
keep_files-requires g c = let state = g.D.Disk.state in
    still-placed (state c.args.disk.now) (state c.list.new.self) [] c.in_ok-list.ensures.same c.into_vec-all.result.items (subst (λ (l : List Listed). ArePlaced l (state c.args.disk.now)) (sym c.into_vec-all.ensures) c.in_ok-list.ensures.placed)

pub returns-in_err-index-clause-err : goal.returns-in_err-index-clause-err
returns-in_err-index-clause-err g c = let state = g.D.Disk.state in let cap = c.args.capacity in let all = c.into_vec-all.result.items in let i = c.in_err-index.ensures.err in
    on_err c.from_residual-in_err-index.result _ (refused_indexing cap all c.in_ok-files.files.items c.sort.new.self.items i.0 (state c.args.disk.now) (state c.list.new.self) (state c.keep_files.new.disk) (state c.index_files.new.disk)
    c.in_ok-list.ensures.same (subst (λ (l : List Listed). IsListing l (state c.args.disk.now)) (sym c.into_vec-all.ensures) c.in_ok-list.ensures.listed) c.in_ok-files.ensures.kept c.in_ok-files.ensures.ok
    c.in_ok-sort.ensures.permutation c.in_ok-sort.ensures.sorted i.1 i.2)

pub returns-clause-ok : goal.returns-clause-ok
returns-clause-ok g c = let state = g.D.Disk.state in let cap = c.args.capacity in let all = c.into_vec-all.result.items in let i = c.in_ok-index.ensures.ok in
    reopened cap all c.in_ok-files.files.items c.sort.new.self.items c.in_ok-index.index.entries i.0 (state c.args.disk.now) (state c.list.new.self) (state c.keep_files.new.disk) (state c.index_files.new.disk)
    c.in_ok-list.ensures.same (subst (λ (l : List Listed). IsListing l (state c.args.disk.now)) (sym c.into_vec-all.ensures) c.in_ok-list.ensures.listed) c.in_ok-files.ensures.kept c.in_ok-files.ensures.ok
    c.in_ok-sort.ensures.permutation c.in_ok-sort.ensures.sorted (omega (arith, c.size-within.ensures.size, c.size-within.ensures.within, c.in_ok-index.ensures.capacity)) i.1 i.2

pub returns-in_err-list-clause-err : goal.returns-in_err-list-clause-err
returns-in_err-list-clause-err g c = on_err c.from_residual.result _ (refused_listing c.args.capacity (g.D.Disk.state c.args.disk.now) (g.D.Disk.state c.list.new.self) c.in_err-list.ensures.same)

pub returns-in_err-files-clause-err : goal.returns-in_err-files-clause-err
returns-in_err-files-clause-err g c = let state = g.D.Disk.state in let all = c.into_vec-all.result.items in let k = c.in_err-files.ensures.err in
    on_err c.from_residual-in_err-files.result _ (refused_dropping c.args.capacity all k.0 k.1 (state c.args.disk.now) (state c.list.new.self) (state c.keep_files.new.disk) c.in_ok-list.ensures.same
    (subst (λ (l : List Listed). IsListing l (state c.args.disk.now)) (sym c.into_vec-all.ensures) c.in_ok-list.ensures.listed) k.2 k.3)
