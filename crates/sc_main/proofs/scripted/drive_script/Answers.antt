use Rattle.sc_main.proofs.scripted.drive_script.Goals as goal

pub driven_by-requires : goal.driven_by-requires
driven_by-requires c = c.read_scripts_are_good.ensures c.args.bytes.now c.in-Ok.script c.in-Ok.ensures
