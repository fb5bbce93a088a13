use Rattle.sc_command_workshop.proofs.command_workshop.CommandWorkshopWorkshop.run.Goals as goal

pub returns-clause-told : goal.returns-clause-told
returns-clause-told g c = (c.in_ok-gathered.gathered, c.in_ok-answer.ensures.kept, rw (c.in_ok-answer.ensures.same.0, c.in_ok-answer.ensures.same.1) c.in_ok-gathered.ensures.ran)
