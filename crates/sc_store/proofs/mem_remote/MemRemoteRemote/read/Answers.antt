use Rattle.std.proofs.Common.{refl}
use Rattle.sc_store.proofs.mem_remote.MemRemoteRemote.read.Goals as goal

pub returns-then-count_call-clause-one_call : goal.returns-then-count_call-clause-one_call
returns-then-count_call-clause-one_call c = (refl, c.count_call.ensures.failed c.if-count_call.true)

pub returns-in_ok-try_clone-in-Some-clause-one_call : goal.returns-in_ok-try_clone-in-Some-clause-one_call
returns-in_ok-try_clone-in-Some-clause-one_call c = c.count_call.ensures.passed c.if-count_call.false

pub returns-in-None-clause-one_call : goal.returns-in-None-clause-one_call
returns-in-None-clause-one_call c = c.count_call.ensures.passed c.if-count_call.false
