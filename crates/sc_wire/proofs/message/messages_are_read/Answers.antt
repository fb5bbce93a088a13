use Rattle.sc_wire.specs.Requests.{request}
use Rattle.sc_wire.specs.Responses.{response}
use Rattle.sc_wire.proofs.Framed.{frames_are_apart, spells_and_reads}
use Rattle.sc_wire.proofs.message.messages_are_read.Goals as goal

pub returns-clause-requests : goal.returns-clause-requests
returns-clause-requests c = spells_and_reads request

pub returns-clause-responses : goal.returns-clause-responses
returns-clause-responses c = spells_and_reads response

pub returns-clause-apart : goal.returns-clause-apart
returns-clause-apart c = frames_are_apart
