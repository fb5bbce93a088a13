use Rattle.std.proofs.Common.{◌≡◌, ◌<◌, true, length, take, Option, refl, ◌∙◌, subst, arith}
use Rattle.sc_main.proofs.Reading.{faults_on, gives_up, leaves_refused, read_end, read_piece, read_same, shut_idle, shuts_on}
use Rattle.sc_main.specs.Deeds.{Heard}
use Rattle.sc_main.specs.Progress.{SoFar, scene}
use Rattle.sc_main.specs.Serving.{wire}
use Rattle.sc_main.specs.declared.link_end.LinkEnd.{LinkEnd}
use Rattle.sc_main.specs.declared.link_end.LinkEnd.TheVariants as ends
use Rattle.sc_main.proofs.serving.serve_pieces.Goals as goal

-- nothing was ahead
pub loop-piece-preserved-then-count-eq0 : goal.loop-piece-preserved-then-count-eq0
loop-piece-preserved-then-count-eq0 g c =
    let now = c.loop-piece in
    let old = now.link in
    let new = c.read.new.self in
    let h : Heard = record { messages = now.messages; wait = now.wait; is_polled = true } in
    let k = wire (g.K.Link.ahead new) (g.K.Link.written new) (g.K.Link.fault_count new) in
    let told = c.in-Ok.ensures.told in
    let size : length c.read.new.buffer ≡ length now.buffer = c.read.auto.buffer in
    let same = c.in-Ok.ensures.quiet in
    let room : 0 < length c.read.new.buffer = omega (arith, size, now.invariant.size, c.requires.room) in
    record {
      so_far = λ first f. shuts_on first now.session c.shut.new.self h (g.C.Clock.moments now.clock) k (g.K.Link.ahead old)
          (read_same first now.session h (g.C.Clock.moments now.clock) (g.K.Link.ahead old) (g.K.Link.written old) (g.K.Link.written new) (g.K.Link.fault_count old) (g.K.Link.fault_count new) (now.invariant.so_far first f) c.read.ensures.same_written same)
          (read_end c.in-Ok.count c.read.new.buffer (g.K.Link.ahead old) (g.K.Link.ahead new) c.if-count-eq0.true room told) c.shut.ensures;
      idle = shut_idle now.session c.shut.new.self c.shut.ensures now.invariant.idle;
      size = size ∙ now.invariant.size;
      pauses = now.invariant.pauses;
      same_shut = c.read.ensures.same_shut ∙ now.invariant.same_shut;
      same_number = c.read.ensures.same_number ∙ now.invariant.same_number;
    }

-- a piece was served
pub loop-piece-preserved : goal.loop-piece-preserved
loop-piece-preserved g c =
    let now = c.loop-piece in
    let old = now.link in
    let new = c.read.new.self in
    let h : Heard = record { messages = now.messages; wait = now.wait; is_polled = true } in
    let count = c.in-Ok.count in
    let buffer = c.read.new.buffer in
    let served = c.in_ok-refused.ensures in
    let size : length buffer ≡ length now.buffer = c.read.auto.buffer in
    record {
      so_far = λ first f. subst (λ (r : Option LinkEnd). SoFar r first (scene c.serve_piece.new.session (record { messages = c.serve_piece.new.messages; wait = c.serve_piece.new.wait; is_polled = true }) (g.C.Clock.moments c.serve_piece.new.clock) (wire (g.K.Link.ahead c.serve_piece.new.link) (g.K.Link.written c.serve_piece.new.link) (g.K.Link.fault_count c.serve_piece.new.link)))) c.in_default-refused.is
          (served.serves first (g.K.Link.ahead old) (read_piece count buffer (take count buffer) (g.K.Link.ahead old) (g.K.Link.ahead new) refl c.in-Ok.ensures.told)
          (read_same first now.session h (g.C.Clock.moments now.clock) (g.K.Link.ahead old) (g.K.Link.written old) (g.K.Link.written new) (g.K.Link.fault_count old) (g.K.Link.fault_count new) (now.invariant.so_far first f) c.read.ensures.same_written c.in-Ok.ensures.quiet));
      idle = served.idle;
      size = size ∙ now.invariant.size;
      pauses = c.serve_piece.ensures.pauses ∙ now.invariant.pauses;
      same_shut = c.serve_piece.ensures.same_shut ∙ c.read.ensures.same_shut ∙ now.invariant.same_shut;
      same_number = c.serve_piece.ensures.same_number ∙ c.read.ensures.same_number ∙ now.invariant.same_number;
    }

-- a read was refused
pub returns-in_default-read-clause-leaves : goal.returns-in_default-read-clause-leaves
returns-in_default-read-clause-leaves g c first f =
    let now = c.loop-piece in
    let old = now.link in
    let new = c.read.new.self in
    leaves_refused ends.ReadFault first _
    (faults_on first now.session (record { messages = now.messages; wait = now.wait; is_polled = true }) (g.C.Clock.moments now.clock) (wire (g.K.Link.ahead old) (g.K.Link.written old) (g.K.Link.fault_count old)) (wire (g.K.Link.ahead new) (g.K.Link.written new) (g.K.Link.fault_count new))
    (now.invariant.so_far first f) c.in_default-read.ensures.refused c.read.ensures.same_written c.in_default-read.ensures.cause c.read.ensures.later)

-- or a write
pub returns-in-Some-refused-clause-leaves : goal.returns-in-Some-refused-clause-leaves
returns-in-Some-refused-clause-leaves g c first f =
    let now = c.loop-piece in
    let old = now.link in
    let new = c.read.new.self in
    let h : Heard = record { messages = now.messages; wait = now.wait; is_polled = true } in
    let count = c.in-Ok.count in
    let buffer = c.read.new.buffer in
    leaves_refused c.in-Some-refused.end first (scene c.serve_piece.new.session (record { messages = c.serve_piece.new.messages; wait = c.serve_piece.new.wait; is_polled = true }) (g.C.Clock.moments c.serve_piece.new.clock) (wire (g.K.Link.ahead c.serve_piece.new.link) (g.K.Link.written c.serve_piece.new.link) (g.K.Link.fault_count c.serve_piece.new.link))) (subst (λ (r : Option LinkEnd). SoFar r first (scene c.serve_piece.new.session (record { messages = c.serve_piece.new.messages; wait = c.serve_piece.new.wait; is_polled = true }) (g.C.Clock.moments c.serve_piece.new.clock) (wire (g.K.Link.ahead c.serve_piece.new.link) (g.K.Link.written c.serve_piece.new.link) (g.K.Link.fault_count c.serve_piece.new.link)))) c.in-Some-refused.is
    (c.in_ok-refused.ensures.serves first (g.K.Link.ahead old) (read_piece count buffer (take count buffer) (g.K.Link.ahead old) (g.K.Link.ahead new) refl c.in-Ok.ensures.told)
    (read_same first now.session h (g.C.Clock.moments now.clock) (g.K.Link.ahead old) (g.K.Link.written old) (g.K.Link.written new) (g.K.Link.fault_count old) (g.K.Link.fault_count new) (now.invariant.so_far first f) c.read.ensures.same_written c.in-Ok.ensures.quiet)))

pub returns-clause-leaves : goal.returns-clause-leaves
returns-clause-leaves g c first f =
    let now = c.loop-piece in
    leaves_refused ends.NoMemory first _
    (gives_up first now.session (record { messages = now.messages; wait = now.wait; is_polled = true }) (g.C.Clock.moments now.clock) (wire (g.K.Link.ahead now.link) (g.K.Link.written now.link) (g.K.Link.fault_count now.link)) (now.invariant.so_far first f))
