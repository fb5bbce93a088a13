use Rattle.std.proofs.Common.{◌≡◌, ◌<◌, ◌^◌, subst, sym, ◌∙◌}
use Rattle.sc_entry.specs.Failing.{fails_at, faults_after}
use Rattle.sc_store.proofs.Devices.{call_failed, call_made, call_passed}
use Rattle.sc_store.proofs.mem_remote.MemRemote.count_call.Goals as goal

pub returns-clause-calls : goal.returns-clause-calls
returns-clause-calls c =
    let old = c.args.self.now.calls in
    let new = c.fails_next.new.self in
    let e = c.fails_next.ensures in
    let faults : new.faults ≡ faults_after (fails_at old new.made) old.faults = subst (λ b. new.faults ≡ faults_after b old.faults) e.answer e.faults in
    call_made old new (subst (λ n. n < 2 ^ 64) c.made-made.ensures c.made-made.type_inv) e.failing e.made faults

pub returns-clause-passed : goal.returns-clause-passed
returns-clause-passed c is =
    let old = c.args.self.now.calls in
    let new = c.fails_next.new.self in
    let e = c.fails_next.ensures in
    let faults : new.faults ≡ faults_after (fails_at old new.made) old.faults = subst (λ b. new.faults ≡ faults_after b old.faults) e.answer e.faults in
    call_passed old new e.failing e.made faults (sym e.answer ∙ is)

pub returns-clause-failed : goal.returns-clause-failed
returns-clause-failed c is =
    let old = c.args.self.now.calls in
    let new = c.fails_next.new.self in
    let e = c.fails_next.ensures in
    let faults : new.faults ≡ faults_after (fails_at old new.made) old.faults = subst (λ b. new.faults ≡ faults_after b old.faults) e.answer e.faults in
    call_failed old new e.failing e.made faults (sym e.answer ∙ is)
