use Rattle.std.proofs.Common.{ℕ, length, ap, sym, ◌∙◌, subst, []}
use Rattle.sc_daemon.specs.Daemons.{IsIdleDaemon, Kept, anew}
use Rattle.sc_daemon.specs.Drives.{Progress, lines_of}
use Rattle.sc_daemon.specs.declared.driver.Driver.{Driver}
use Rattle.sc_daemon.proofs.Counted.{if_both}
use Rattle.sc_daemon.proofs.Driving.{idle_anew}
use Rattle.sc_daemon.proofs.drives.all_steps.Goals as goal

pub step_all-stepped-requires : goal.step_all-stepped-requires
step_all-stepped-requires g c =
    let began = c.number_anew.ensures in
    record {
      idle = subst IsIdleDaemon (sym began) (idle_anew c.args.daemon.now c.requires.idle);
      told = ap (λ (d : Kept). d.state.told) began ∙ c.requires.told;
      conns = c.in_ok-driver.ensures.conns ∙ ap (λ (n : ℕ). lines_of n (length c.args.inputs.now)) c.limit.ensures;
      events = c.in_ok-driver.ensures.events;
    }

pub returns : goal.returns
returns g c =
    let last = c.step_all-stepped.new.daemon in
    let inputs = c.args.inputs.now in
    let steps = c.args.steps.now in
    if_both c.if_stepped.result c.step_all-stepped.result c.if_stepped.ensures.driver c.if_stepped.ensures.stepped c.step_all-stepped.ensures
    (λ driver same progress. subst (λ (d : Driver). Progress (anew c.args.daemon.now) last inputs steps [] d.events.items d.conns.items) (sym same)
    (subst (λ (first : Kept). Progress first last inputs steps [] c.step_all-stepped.new.driver.events.items c.step_all-stepped.new.driver.conns.items) c.number_anew.ensures progress))
