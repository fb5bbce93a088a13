use Rattle.sc_main.proofs.Reporting.{drove, if_ok}
use Rattle.sc_main.proofs.scripted.reported.Goals as goal

pub returns : goal.returns
returns c =
    let drive = c.in_ok-driven.ensures in
    if_ok c.printed-text.result (c.printed-text.ensures drive.told)
    (λ text report. drove c.args.extent c.args.daemon.now c.drive.new.daemon c.args.inputs.now c.args.steps.now text.items c.in_ok-driven.driven drive.headline drive.reserved report)
