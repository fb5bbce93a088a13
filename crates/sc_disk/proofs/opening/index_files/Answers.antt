use Rattle.std.proofs.Common.{◌≡◌, ◌∷◌, ◌-◌, ◌++◌, [], List, ℕ, length, true, ◌∙◌, ap, sym, subst, arith, rules, refl, drop}
use Rattle.std.specs.List.{AllByRecursion}
use Rattle.std.specs.Vec.Iter.{into_iter_items}
use Rattle.std.proofs.lemmas.Grind.{common_steps}
use Rattle.sc_disk.specs.Disks.{ArePlaced}
use Rattle.sc_disk.specs.Opening.{HavePlaces, is_kept}
use Rattle.sc_disk.specs.Store.{AreKeys, Needed, filed, firsts, gone}
use Rattle.sc_disk.specs.declared.disk.Listed.{Listed}
use Rattle.sc_disk.proofs.Changing.{AreKeys-filed}
use Rattle.sc_disk.proofs.Doing.{does-none}
use Rattle.sc_disk.proofs.Keeping.{on_err}
use Rattle.sc_disk.proofs.Places.{places-dropped, places-filed, still-placed, still-places}
use Rattle.sc_disk.proofs.Reopening.{AreKeys-dropped, Indexed, admitted, gone-after, indexed_none, kept_is_key, order-more, refused_admission, small_kept}
use Rattle.sc_disk.proofs.opening.index_files.Goals as goal

pub loop-file-preserved : goal.loop-file-preserved
loop-file-preserved g c = let i = c.loop-file.invariant in let x = c.in-Some.file in let cap = c.args.capacity in let rest = into_iter_items c.next.new.self in let state = g.D.Disk.state in
    let es = c.loop-file.index.entries in let fs = c.admit.new.index.entries in let items = into_iter_items c.loop-file.file-iterator in let all = c.args.files.items in
    let pop : items ≡ x ∷ rest = c.in-Some.ensures.steps.0 in
    let good : AllByRecursion (λ e. is_kept cap e ≡ true) (x ∷ rest) = subst (AllByRecursion (λ e. is_kept cap e ≡ true)) pop i.good in
    let placed : ArePlaced (x ∷ rest) (state c.loop-file.disk) = subst (λ (l : List Listed). ArePlaced l (state c.loop-file.disk)) pop i.placed in
    let order : c.loop-file.yielded ++ x ∷ rest ≡ all = ap (λ l. c.loop-file.yielded ++ l) (sym pop) ∙ i.order in
    let a = c.in_ok-admit.ensures.ok in let n = a.0 in let r = i.removals in
    record {
      removals = (
        r.0 ++ firsts n es,
        gone-after (state c.args.disk.now) (state c.loop-file.disk) (state c.admit.new.disk) r.0 (firsts n es) r.1 a.1.disk,
        admitted cap n x c.loop-file.yielded rest all es fs r.0 (small_kept cap x good.0) (subst (λ (b : ℕ). Needed (b - x.size) n es) i.capacity a.1.evicted.0) a.1.entries order r.2,
      );
      order = order-more c.loop-file.yielded rest items all x pop i.order;
      good = good.1;
      keys = subst AreKeys (sym a.1.entries) (AreKeys-filed x.path x.size _ (kept_is_key cap x good.0) (AreKeys-dropped n es i.keys));
      placed = still-placed (state c.loop-file.disk) (state c.admit.new.disk) (gone (firsts n es)) a.1.disk rest placed.1;
      places = subst (λ (l : List (List ℕ × ℕ)). HavePlaces l (state c.admit.new.disk)) (sym a.1.entries)
          (still-places (state c.loop-file.disk) (state c.admit.new.disk) (gone (firsts n es)) a.1.disk (filed x.path x.size (drop n es)) (places-filed (state c.loop-file.disk) x.path x.size (drop n es) placed.0 (places-dropped (state c.loop-file.disk) n es i.places)));
      capacity = c.admit.ensures.capacity ∙ i.capacity;
    }

pub admit-requires : goal.admit-requires
admit-requires g c = let i = c.loop-file.invariant in let x = c.in-Some.file in let cap = c.args.capacity in
    let good : AllByRecursion (λ e. is_kept cap e ≡ true) (x ∷ into_iter_items c.next.new.self) = subst (AllByRecursion (λ e. is_kept cap e ≡ true)) c.in-Some.ensures.steps.0 i.good in
    record { size = omega (arith, i.capacity, small_kept cap x good.0); placed = i.places }

pub loop-file-init : goal.loop-file-init
loop-file-init g c = record {
  removals = ([], does-none (g.D.Disk.state c.args.disk.now), subst (λ (es : List (List ℕ × ℕ)). Indexed c.args.capacity c.args.files.items [] es []) (sym c.with_meter-index.ensures.empty) (indexed_none c.args.capacity c.args.files.items));
  order = c.into_iter-file-iterator.ensures.into_iter_gives.0;
  good = subst (AllByRecursion (λ e. is_kept c.args.capacity e ≡ true)) (sym c.into_iter-file-iterator.ensures.into_iter_gives.0) c.requires.kept;
  placed = subst (λ (l : List Listed). ArePlaced l (g.D.Disk.state c.args.disk.now)) (sym c.into_iter-file-iterator.ensures.into_iter_gives.0) c.requires.placed;
  places = subst (λ (es : List (List ℕ × ℕ)). HavePlaces es (g.D.Disk.state c.args.disk.now)) (sym c.with_meter-index.ensures.empty) tt;
  keys = subst AreKeys (sym c.with_meter-index.ensures.empty) (λ q t. refl);
  capacity = c.with_meter-index.ensures.capacity;
}

pub returns-in_err-admit-clause-err : goal.returns-in_err-admit-clause-err
returns-in_err-admit-clause-err g c = let i = c.loop-file.invariant in let x = c.in-Some.file in let cap = c.args.capacity in let rest = into_iter_items c.next.new.self in let state = g.D.Disk.state in
    let es = c.loop-file.index.entries in let items = into_iter_items c.loop-file.file-iterator in let all = c.args.files.items in
    let pop : items ≡ x ∷ rest = c.in-Some.ensures.steps.0 in
    let good : AllByRecursion (λ e. is_kept cap e ≡ true) (x ∷ rest) = subst (AllByRecursion (λ e. is_kept cap e ≡ true)) pop i.good in
    let order : c.loop-file.yielded ++ x ∷ rest ≡ all = ap (λ l. c.loop-file.yielded ++ l) (sym pop) ∙ i.order in
    let a = c.in_err-admit.ensures.err in let n = a.0 in let r = i.removals in
    on_err c.from_residual.result _ (
      r.0 ++ firsts n es,
      gone-after (state c.args.disk.now) (state c.loop-file.disk) (state c.admit.new.disk) r.0 (firsts n es) r.1 a.2,
      refused_admission cap n x c.loop-file.yielded rest all es r.0 (small_kept cap x good.0) (subst (λ (b : ℕ). Needed (b - x.size) n es) i.capacity a.1) order r.2,
    )

pub returns-clause-ok : goal.returns-clause-ok
returns-clause-ok g c = let i = c.loop-file.invariant in let r = i.removals in
    let all : c.loop-file.yielded ≡ c.args.files.items = grind (arith, common_steps) in
    (r.0, r.1, subst (λ (l : List Listed). Indexed c.args.capacity c.args.files.items l c.loop-file.index.entries r.0) all r.2)
