use Rattle.sc_daemon_job.proofs.Sameness.{same_stats}
use Rattle.sc_daemon_job.proofs.nothing.adds_nothing.Goals as goal

pub returns : goal.returns
returns c =
    same_stats c.args.stats.now
    c.adds_zero.ensures c.adds_zero-2.ensures c.adds_zero-3.ensures c.adds_zero-4.ensures c.adds_zero-5.ensures
    c.adds_zero-6.ensures c.adds_zero-7.ensures c.adds_zero-8.ensures c.adds_zero-9.ensures c.adds_zero-10.ensures
    c.adds_zero-11.ensures c.adds_zero-12.ensures c.adds_zero-13.ensures c.adds_zero-14.ensures
    c.keeps.ensures c.keeps-2.ensures c.keeps-3.ensures
