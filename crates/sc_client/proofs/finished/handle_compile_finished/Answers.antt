use Rattle.sc_client.specs.Finished.{shown_out}
use Rattle.sc_client.proofs.Fronts.{none_some, on_refusal}
use Rattle.sc_client.proofs.finished.handle_compile_finished.Goals as goal

pub returns-in_err-printed-clause-some_out : goal.returns-in_err-printed-clause-some_out
returns-in_err-printed-clause-some_out g c =
    on_refusal c.from_residual.result _ (none_some (shown_out c.args.outlets.now.out c.args.finished.now) (g.O.Sink.written c.args.out.now))
