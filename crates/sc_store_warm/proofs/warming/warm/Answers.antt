use Rattle.std.proofs.Common.{[], refl}
use Rattle.sc_entry.proofs.Tallies.{on_err}
use Rattle.sc_store_warm.proofs.Chains.{all_with, pushed_at, stops_at, stops_behind}
use Rattle.sc_store_warm.proofs.Reasons.{absent_where, copied_where, from_refused_where, to_refused_where, torn_where}
use Rattle.sc_store_warm.specs.Causes.{AbsentWhere, CopiedWhere, FromRefusedWhere, ToRefusedWhere, TornWhere}
use Rattle.sc_store_warm.proofs.warming.warm.Goals as goal

pub loop-key-preserved : goal.loop-key-preserved
loop-key-preserved g c =
    pushed_at c.args.keys.now c.loop-key.key-index c.key-item.result c.loop-key.told.items c.push.new.self.items c.in_ok-warmed.warmed (g.A.Storage.state c.args.from.now) (g.A.Storage.state c.loop-key.from) (g.A.Storage.state c.warm_key.new.from) (g.B.Storage.state c.args.to.now) (g.B.Storage.state c.loop-key.to) (g.B.Storage.state c.warm_key.new.to)
    c.loop-key-test.true c.key-item.is c.in_ok-push.ensures.items c.loop-key.invariant c.in_ok-warmed.ensures.warmed

pub returns-in_err-told-clause-stopped : goal.returns-in_err-told-clause-stopped
returns-in_err-told-clause-stopped g c =
    on_err c.from_residual.result _ (stops_behind c.args.keys.now 0 [] (g.A.Storage.state c.args.from.now) (g.A.Storage.state c.args.from.now) (g.B.Storage.state c.args.to.now) (g.B.Storage.state c.args.to.now) (refl, refl))

pub returns-in_err-warmed-clause-stopped : goal.returns-in_err-warmed-clause-stopped
returns-in_err-warmed-clause-stopped g c =
    on_err c.from_residual-in_err-warmed.result _
    (stops_at c.args.keys.now c.loop-key.key-index c.key-item.result c.loop-key.told.items (g.A.Storage.state c.args.from.now) (g.A.Storage.state c.loop-key.from) (g.A.Storage.state c.warm_key.new.from) (g.B.Storage.state c.args.to.now) (g.B.Storage.state c.loop-key.to) (g.B.Storage.state c.warm_key.new.to)
    c.loop-key-test.true c.key-item.is c.loop-key.invariant c.in_err-warmed.ensures.stopped)

pub returns-in_err-push-clause-stopped : goal.returns-in_err-push-clause-stopped
returns-in_err-push-clause-stopped g c =
    on_err c.from_residual-in_err-push.result _
    (stops_behind c.args.keys.now _ _ (g.A.Storage.state c.args.from.now) (g.A.Storage.state c.warm_key.new.from) (g.B.Storage.state c.args.to.now) (g.B.Storage.state c.warm_key.new.to)
    (pushed_at c.args.keys.now c.loop-key.key-index c.key-item.result c.loop-key.told.items _ c.in_ok-warmed.warmed (g.A.Storage.state c.args.from.now) (g.A.Storage.state c.loop-key.from) (g.A.Storage.state c.warm_key.new.from) (g.B.Storage.state c.args.to.now) (g.B.Storage.state c.loop-key.to) (g.B.Storage.state c.warm_key.new.to)
    c.loop-key-test.true c.key-item.is refl c.loop-key.invariant c.in_ok-warmed.ensures.warmed))

pub returns-clause-absent : goal.returns-clause-absent
returns-clause-absent g c = all_with AbsentWhere absent_where c.args.keys.now c.loop-key.key-index c.loop-key.told.items (g.A.Storage.state c.args.from.now) (g.A.Storage.state c.loop-key.from) (g.B.Storage.state c.args.to.now) (g.B.Storage.state c.loop-key.to) c.loop-key-test.false c.loop-key.invariant

pub returns-clause-torn : goal.returns-clause-torn
returns-clause-torn g c = all_with TornWhere torn_where c.args.keys.now c.loop-key.key-index c.loop-key.told.items (g.A.Storage.state c.args.from.now) (g.A.Storage.state c.loop-key.from) (g.B.Storage.state c.args.to.now) (g.B.Storage.state c.loop-key.to) c.loop-key-test.false c.loop-key.invariant

pub returns-clause-copied : goal.returns-clause-copied
returns-clause-copied g c = all_with CopiedWhere copied_where c.args.keys.now c.loop-key.key-index c.loop-key.told.items (g.A.Storage.state c.args.from.now) (g.A.Storage.state c.loop-key.from) (g.B.Storage.state c.args.to.now) (g.B.Storage.state c.loop-key.to) c.loop-key-test.false c.loop-key.invariant

pub returns-clause-from_refused : goal.returns-clause-from_refused
returns-clause-from_refused g c = all_with FromRefusedWhere from_refused_where c.args.keys.now c.loop-key.key-index c.loop-key.told.items (g.A.Storage.state c.args.from.now) (g.A.Storage.state c.loop-key.from) (g.B.Storage.state c.args.to.now) (g.B.Storage.state c.loop-key.to) c.loop-key-test.false c.loop-key.invariant

pub returns-clause-to_refused : goal.returns-clause-to_refused
returns-clause-to_refused g c = all_with ToRefusedWhere to_refused_where c.args.keys.now c.loop-key.key-index c.loop-key.told.items (g.A.Storage.state c.args.from.now) (g.A.Storage.state c.loop-key.from) (g.B.Storage.state c.args.to.now) (g.B.Storage.state c.loop-key.to) c.loop-key-test.false c.loop-key.invariant
