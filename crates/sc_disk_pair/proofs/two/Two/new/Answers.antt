use Rattle.std.proofs.Common.{ap, ◌∙◌, ◌∷◌, map as each}
use Rattle.sc_disk_pair.proofs.Weaving.{weaves-new}
use Rattle.sc_disk_pair.proofs.two.Two.new.Goals as goal

pub invariant_of-result : goal.invariant_of-result
invariant_of-result g c = let state = g.D.Disk.state in
    weaves-new (state c.args.main).told (state c.args.pre).told _ (ap (each (λ x. ((state x.0).told, (state x.1).told))) (c.and-history.ensures ∙ ap (λ l. (c.args.main, c.args.pre) ∷ l) c.new-none.ensures))
