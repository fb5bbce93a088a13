use Rattle.sc_main_report.specs.declared.ended.Ended.TheVariants as ended
use Rattle.sc_main_client.proofs.requests.run_stop.Goals as goal

pub returns-in-Status-clause-ends : goal.returns-in-Status-clause-ends
returns-in-Status-clause-ends g c = (ended.Status c.in-Status.field-0, (c.write_text.new.out, c.in-Status.ensures, c.ask_to_stop.ensures.ends))
