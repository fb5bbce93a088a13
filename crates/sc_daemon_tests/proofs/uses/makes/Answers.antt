use Rattle.sc_daemon_tests.proofs.uses.makes.Goals as goal

pub make-requires : goal.make-requires
make-requires c = record { good = c.read_scripts_are_good.ensures _ _ c.in_ok-script.ensures }
