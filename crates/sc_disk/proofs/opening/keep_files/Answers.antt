use Rattle.std.proofs.Common.{◌≡◌, ◌++◌, ◌∷◌, [], List, false, sym, ap, ◌∙◌, subst}
use Rattle.std.specs.Vec.Iter.{into_iter_items}
use Rattle.sc_disk.specs.Disks.{ArePlaced}
use Rattle.sc_disk.specs.Opening.{dropped_of, is_kept, kept_of, paths_of}
use Rattle.sc_disk.specs.declared.disk.Listed.{Listed}
use Rattle.sc_disk.specs.Store.{gone}
use Rattle.sc_disk.specs.declared.change.Change.TheVariants.{Gone}
use Rattle.sc_disk.proofs.Doing.{does-none, does-still}
use Rattle.sc_disk.proofs.Keeping.{on_err}
use Rattle.sc_disk.proofs.Places.{still-placed}
use Rattle.sc_disk.proofs.Reopening.{dropped-no, gone-after, kept-no}
use Rattle.sc_disk.proofs.opening.keep_files.Goals as goal

pub loop-file-preserved : goal.loop-file-preserved
loop-file-preserved g c = let i = c.loop-file.invariant in let x = c.in-Some.file in let cap = c.args.capacity in let kept = c.loop-file.kept.items in
    let items = into_iter_items c.loop-file.file-iterator in let rest = into_iter_items c.next.new.self in let state = g.D.Disk.state in
    let pop : items ≡ x ∷ rest = c.in-Some.ensures.steps.0 in
    let no : is_kept cap x ≡ false = sym c.is_kept.ensures ∙ c.if-is_kept.false in
    let r = i.removals in
    record {
      kept = kept-no cap kept rest x (kept_of cap c.args.all.items) no (subst (λ (l : List Listed). kept ++ kept_of cap l ≡ kept_of cap c.args.all.items) pop i.kept);
      removals = (
        r.0 ++ x.path ∷ [],
        dropped-no cap r.0 (paths_of (dropped_of cap c.args.all.items)) x rest items pop no r.1,
        gone-after (state c.args.disk.now) (state c.loop-file.disk) (state c.remove.new.self) r.0 (x.path ∷ []) r.2 c.in_ok-remove.ensures.ok,
      );
      placed = still-placed (state c.loop-file.disk) (state c.remove.new.self) (Gone x.path ∷ []) c.in_ok-remove.ensures.ok rest (subst (λ (l : List Listed). ArePlaced l (state c.loop-file.disk)) pop i.placed).1;
    }

pub loop-file-init : goal.loop-file-init
loop-file-init g c = let cap = c.args.capacity in let items = into_iter_items c.into_iter-file-iterator.result in let state = g.D.Disk.state in
    let all : items ≡ c.args.all.items = c.into_iter-file-iterator.ensures.into_iter_gives.0 in
    record {
      kept = ap (λ (l : List Listed). l ++ kept_of cap items) c.new-kept.ensures.items ∙ ap (kept_of cap) all;
      removals = ([], ap (λ l. paths_of (dropped_of cap l)) all, does-none (state c.args.disk.now));
      placed = subst (λ (l : List Listed). ArePlaced l (state c.args.disk.now)) (sym all) c.requires;
    }

pub returns-in_err-remove-clause-err : goal.returns-in_err-remove-clause-err
returns-in_err-remove-clause-err g c = let i = c.loop-file.invariant in let x = c.in-Some.file in let cap = c.args.capacity in
    let items = into_iter_items c.loop-file.file-iterator in let rest = into_iter_items c.next.new.self in let state = g.D.Disk.state in
    let pop : items ≡ x ∷ rest = c.in-Some.ensures.steps.0 in
    let placed = (subst (λ (l : List Listed). ArePlaced l (state c.loop-file.disk)) pop i.placed).0 in
    let r = i.removals in
    on_err c.from_residual-in_err-remove.result _ (
      r.0,
      paths_of (dropped_of cap items),
      r.1,
      does-still (state c.args.disk.now) (state c.loop-file.disk) (state c.remove.new.self) (gone r.0) r.2 (c.in_err-remove.ensures.placed placed),
    )
