use Rattle.std.proofs.Common.{List, ℕ, subst}
use Rattle.sc_entry.specs.Causes.{Told}
use Rattle.sc_entry.specs.Streams.{WritesAll, WritesFront}
use Rattle.sc_client.proofs.Fronts.{front_some, on_refusal, some_of, then_some}
use Rattle.sc_client.proofs.finished.print.Goals as goal

pub returns-in_err-write_all-clause-some_out : goal.returns-in_err-write_all-clause-some_out
returns-in_err-write_all-clause-some_out g c =
    let w = g.O.Sink.written in
    let p = c.args.printed.now in
    let front = subst (λ (bytes : List ℕ). Told (WritesFront bytes) (w c.args.out.now) (w c.write_all.new.sink)) c.as_slice.ensures c.in_err-write_all.ensures.refused in
    on_refusal c.from_residual.result _ (some_of p.stdout p.line (w c.args.out.now) (w c.write_all.new.sink) (front_some p.stdout (w c.args.out.now) (w c.write_all.new.sink) front))

pub returns-in_err-write_all-2-clause-some_err : goal.returns-in_err-write_all-2-clause-some_err
returns-in_err-write_all-2-clause-some_err g c =
    let w = g.E.Sink.written in
    let front = subst (λ (bytes : List ℕ). Told (WritesFront bytes) (w c.args.err.now) (w c.write_all-2.new.sink)) c.as_slice-2.ensures c.in_err-write_all-2.ensures.refused in
    on_refusal c.from_residual-in_err-write_all-2.result _ (front_some c.args.printed.now.stderr (w c.args.err.now) (w c.write_all-2.new.sink) front)

pub returns-in_err-write_all-3-clause-some_out : goal.returns-in_err-write_all-3-clause-some_out
returns-in_err-write_all-3-clause-some_out g c =
    let w = g.O.Sink.written in
    let p = c.args.printed.now in
    let all = subst (λ (bytes : List ℕ). Told (WritesAll bytes) (w c.args.out.now) (w c.write_all.new.sink)) c.as_slice.ensures c.in_ok-write_all.ensures.told in
    let front = subst (λ (bytes : List ℕ). Told (WritesFront bytes) (w c.write_all.new.sink) (w c.write_all-3.new.sink)) c.as_bytes.ensures c.in_err-write_all-3.ensures.refused in
    on_refusal c.from_residual-in_err-write_all-3.result _
    (then_some p.stdout p.line (w c.args.out.now) (w c.write_all.new.sink) (w c.write_all-3.new.sink) all (front_some p.line (w c.write_all.new.sink) (w c.write_all-3.new.sink) front))
