use Rattle.sc_client.specs.Local.{KeepsPlan, Ran, RunsOne, local_words}
use Rattle.sc_client.proofs.Compiled.{caused, compiled, runs_only}
use Rattle.sc_client.proofs.compiling.do_compile.Goals as goal

pub returns-clause-compiles : goal.returns-clause-compiles
returns-clause-compiles g c =
    compiled _ _ c.args.ignore c.args.outlets.now _
    (λ found collected came.
    RunsOne (KeepsPlan g.T.Cmd.RunCommand.plan)
    (Ran {C = g.row.T-Cmd.Denot} {D = g.row.T-Cmd-C.Denot} {P = g.row.T-Cmd-Plan.Denot} g.T.Cmd.RunCommand.gives g.T.Cmd.RunCommand.plan g.T.Cmd.RunCommand.arguments g.T.Cmd.RunCommand.setting g.T.Cmd.C.CommandChild.content found
    (local_words c.args.words.now) c.args.cwd.now collected)
    (g.T.CommandCreator.queue c.args.creator.now) came (g.T.CommandCreator.queue c.carry_out.new.creator))
    _ _ _ _ _ _ _ c.in_ok-found.found c.in_ok-request.request c.in_ok-talk.talk c.next_of-next.result c.carry_out.result
    c.in_ok-found.ensures c.in_ok-request.ensures c.in_ok-talk.ensures.talks c.in_ok-talk.ensures.told c.next_of-next.ensures c.carry_out.ensures.carries

pub returns-clause-runs : goal.returns-clause-runs
returns-clause-runs g c =
    runs_only _ c.args.ignore _ _ _ c.in_ok-found.found c.in_ok-request.request c.in_ok-talk.talk c.next_of-next.result
    c.in_ok-request.ensures c.in_ok-talk.ensures.talks c.next_of-next.ensures c.carry_out.ensures.quiet

pub returns-clause-cause : goal.returns-clause-cause
returns-clause-cause g c =
    caused _ _ _ _ _ _ _ c.args.ignore c.in_ok-talk.talk _ c.next_of-next.result c.carry_out.result
    c.in_ok-talk.ensures.cause c.in_ok-talk.ensures.caused c.next_of-next.ensures c.carry_out.ensures.cause
