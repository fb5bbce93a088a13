use Rattle.sc_entry.proofs.Tallies.{on_err}
use Rattle.sc_stats.proofs.Parts.{whole_part}
use Rattle.sc_stats.proofs.counters.PerLanguageCount.add_assign.Goals as goal

pub returns-in_err-add_all-2-clause-err : goal.returns-in_err-add_all-2-clause-err
returns-in_err-add_all-2-clause-err c =
    on_err c.from_residual-in_err-add_all-2.result _ (
      whole_part c.args.self.now.counts c.args.other.now.counts c.add_all.new.self c.in_ok-add_all.ensures.ok,
      c.in_err-add_all-2.ensures.err,
    )
