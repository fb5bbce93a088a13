use Rattle.sc_main_report.proofs.Replies.{replies_to_is_sent}
use Rattle.sc_main_report.proofs.laws.printed_replies_are_sent.Goals as goal

pub returns : goal.returns
returns c = replies_to_is_sent
