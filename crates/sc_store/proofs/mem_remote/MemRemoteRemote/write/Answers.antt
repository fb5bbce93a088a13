use Rattle.std.proofs.Common.{refl}
use Rattle.sc_store.proofs.mem_remote.MemRemoteRemote.write.Goals as goal

pub returns-then-count_call-clause-one_call : goal.returns-then-count_call-clause-one_call
returns-then-count_call-clause-one_call c = (refl, c.count_call.ensures.failed c.if-count_call.true)

pub returns-clause-one_call : goal.returns-clause-one_call
returns-clause-one_call c = c.count_call.ensures.passed c.if-count_call.false
