use Rattle.std.proofs.Common.{◌≡◌, [], ◌∷◌, ◌++◌, length, take, drop, get_or, ap, sym, ◌∙◌, arith, add-one, rules}
use Rattle.std.proofs.lemmas.List.{take-append-drop}
use Rattle.std.proofs.Math.ListN.{set}
use Rattle.sc_stats.specs.declared.levels.MultiLevelStats.TheInside.{Inside}
use Rattle.sc_entry.proofs.Tallies.{on_err}
use Rattle.sc_stats.specs.Sums.{add_level, add_levels}
use Rattle.sc_stats.proofs.Parts.{add_levels-more, add_levels-longer, add_levels_none}
use Rattle.sc_stats.proofs.levels.MultiLevelStats.add_levels.Goals as goal
use Rattle.sc_stats.proofs.levels.MultiLevelStats.add_levels.Goals.{then-place-len, else-place-len+in_ok-clone+in_ok-push}

pub loop-place-init : goal.loop-place-init
loop-place-init c = c.self.view_is ∙ sym (add_levels_none c.args.self.now)

pub returns-in_err-clone-clause-err : goal.returns-in_err-clone-clause-err
returns-in_err-clone-clause-err c =
    on_err c.from_residual.result _ (take c.loop-place.place c.args.other.now, drop c.loop-place.place c.args.other.now, sym (take-append-drop c.loop-place.place c.args.other.now), c.loop-place.invariant)

pub returns-in_err-push-clause-err : goal.returns-in_err-push-clause-err
returns-in_err-push-clause-err c =
    let same : c.push.new.self.items ≡ c.loop-place.self-inside.levels.items = search rules in
    on_err c.from_residual-in_err-push.result _ (take c.loop-place.place c.args.other.now, drop c.loop-place.place c.args.other.now, sym (take-append-drop c.loop-place.place c.args.other.now), same ∙ c.loop-place.invariant)

pub loop-place-preserved : goal.loop-place-preserved
loop-place-preserved c =
    let s = c.loop-place.self-inside.levels.items in
    let a = add_levels c.args.self.now (take c.loop-place.place c.args.other.now) in
    let i = c.loop-place.place in
    let is : s ≡ a = c.loop-place.invariant in
    let all : c.len.result ≡ length s = search rules in
    let long : c.len.result ≡ length a = all ∙ ap length is in
    elim c.if-place-len.branch [
      | then-place-len w ↦
          ap (λ (v : Inside). v.levels.items) w.self-inside-is
          ∙ ap (λ l. set s i l) (w.add_assign.ensures ∙ ap (λ l. add_level l c.index-other-place.result) w.index_mut.ensures.value ∙ ap (λ l. add_level (get_or s i w.index_mut.result.now) l) c.index-other-place.is)
          ∙ ap (λ xs. set xs i (add_level (get_or xs i w.index_mut.result.now) (get_or c.args.other.now i c.index-other-place.result))) is
          ∙ add_levels-more c.args.self.now c.args.other.now i w.index_mut.result.now c.index-other-place.result (omega (arith, long)) (omega arith)
          ∙ ap (λ n. add_levels c.args.self.now (take n c.args.other.now)) (sym (add-one i))
      | else-place-len+in_ok-clone+in_ok-push w ↦
          ap (λ (v : Inside). v.levels.items) w.self-inside-is
          ∙ w.in_ok-push.ensures.items
          ∙ ap (λ l. s ++ l ∷ []) (w.in_ok-clone.ensures.cases ∙ c.index-other-place.is)
          ∙ ap (λ xs. xs ++ get_or c.args.other.now i c.index-other-place.result ∷ []) is
          ∙ add_levels-longer c.args.self.now c.args.other.now i c.index-other-place.result (omega (arith, long)) (omega arith)
          ∙ ap (λ n. add_levels c.args.self.now (take n c.args.other.now)) (sym (add-one i))
    ]
