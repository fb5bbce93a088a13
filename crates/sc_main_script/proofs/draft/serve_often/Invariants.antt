use Rattle.std.proofs.Common.{◌≡◌, ◌++◌, replicate}
use Rattle.sc_model.specs.declared.event.Step.TheVariants.{Serve}
use Rattle.sc_main_script.proofs.draft.serve_often.Given as goal

abbrev pub invariant-loop : goal.invariant-loop
invariant-loop l = l.steps ≡ l.fn.steps ++ replicate l.counter (Serve l.connection)
