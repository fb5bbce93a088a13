use Rattle.std.proofs.Common.{rules}
use Rattle.sc_command_mock.proofs.mock_creator.MockCommandCreator.next_command_calls.Goals as goal

pub returns-clause-ok : goal.returns-clause-ok
returns-clause-ok g c = (c.new-call.result, search rules, search rules)
