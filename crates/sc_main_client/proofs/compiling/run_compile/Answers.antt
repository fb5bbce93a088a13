use Rattle.sc_main_client.proofs.compiling.run_compile.Goals as goal

pub returns-clause-ends : goal.returns-clause-ends
returns-clause-ends g c = (c.compile-came.result, (c.compile-came.new.err, c.compile-came.ensures.over, c.end_of-ended.ensures))
