use Rattle.sc_daemon.proofs.Driving.{begins, goes_by, next_step}
use Rattle.sc_daemon.proofs.drives.step_all.Goals as goal

pub loop-step-init : goal.loop-step-init
loop-step-init g c = begins c.args.daemon.now c.args.inputs.now c.args.steps.now c.args.driver.now.events.items c.args.driver.now.conns.items c.requires.idle c.requires.told c.requires.events c.requires.conns

pub loop-step-preserved : goal.loop-step-preserved
loop-step-preserved g c = goes_by c.args.daemon.now c.loop-step.daemon c.step.new.daemon c.args.inputs.now c.args.steps.now _ _ _ c.loop-step.driver.events.items c.step.new.self.events.items c.loop-step.driver.conns.items c.step.new.self.conns.items (next_step c.args.steps.now c.loop-step.step-index _ c.loop-step-test.true) c.loop-step.invariant c.in_ok-step.ensures.steps

pub step-requires-clause-at : goal.step-requires-clause-at
step-requires-clause-at g c = c.loop-step.invariant.tied.at

pub step-requires-clause-pending : goal.step-requires-clause-pending
step-requires-clause-pending g c = c.loop-step.invariant.tied.pending
