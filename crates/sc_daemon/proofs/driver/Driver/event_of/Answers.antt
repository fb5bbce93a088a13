use Rattle.std.proofs.Common.{sym, subst}
use Rattle.sc_daemon.specs.Drives.{Steps}
use Rattle.sc_daemon.proofs.Counted.{if_map}
use Rattle.sc_daemon.proofs.Stepping.{steps_back, steps_pass}
use Rattle.sc_model.specs.declared.event.Step.{Step}
use Rattle.sc_daemon.proofs.driver.Driver.event_of.Goals as goal

pub returns-in-Read-clause-steps : goal.returns-in-Read-clause-steps
returns-in-Read-clause-steps g c =
    if_map c.read.result c.read.ensures.steps
    (λ event h s opens of tied. subst (λ (p : Step). Steps s p event c.args.daemon.now c.args.daemon.now c.args.self.now.conns.items c.read.new.self.conns.items opens) (sym c.in-Read.is) (h s opens of tied))

pub returns-in-Serve-clause-steps : goal.returns-in-Serve-clause-steps
returns-in-Serve-clause-steps g c =
    if_map c.serve.result c.serve.ensures.steps
    (λ event h s opens of tied. subst (λ (p : Step). Steps s p event c.args.daemon.now c.serve.new.daemon c.args.self.now.conns.items c.serve.new.self.conns.items opens) (sym c.in-Serve.is) (h s opens of.of_setup tied))

pub returns-in_ok-event-in-Back-clause-steps : goal.returns-in_ok-event-in-Back-clause-steps
returns-in_ok-event-in-Back-clause-steps g c s opens of tied =
    subst (λ (p : Step). Steps s p c.in_ok-event-in-Back.event c.args.daemon.now c.back.new.self c.args.self.now.conns.items c.args.self.now.conns.items opens) (sym c.in-Back.is)
    (steps_back s c.args.daemon.now c.back.new.self c.args.self.now.conns.items opens c.in-Back.place c.in_ok-event-in-Back.event of.of_setup tied c.requires.told c.keeps.ensures c.in_ok-event-in-Back.ensures.backs)

pub returns-in-Pass-clause-steps : goal.returns-in-Pass-clause-steps
returns-in-Pass-clause-steps g c s opens of tied =
    subst (λ (p : Step). Steps s p c.pass-event.result c.args.daemon.now c.pass-event.new.self c.args.self.now.conns.items c.args.self.now.conns.items opens) (sym c.in-Pass.is)
    (steps_pass s c.args.daemon.now c.pass-event.new.self c.args.self.now.conns.items opens c.in-Pass.nanoseconds c.pass-event.result of.of_setup tied c.keeps-in-Pass.ensures c.pass-event.ensures.daemon c.pass-event.ensures.event)
