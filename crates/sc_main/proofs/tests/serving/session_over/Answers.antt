use Rattle.sc_main.proofs.tests.serving.session_over.Goals as goal

pub new-requires : goal.new-requires
new-requires g c = c.is_idle.ensures.0 c.if-is_idle.true
