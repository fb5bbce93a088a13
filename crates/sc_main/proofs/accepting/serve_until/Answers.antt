use Rattle.std.proofs.Common.{◌∙◌, true, refl, sym}
use Rattle.sc_main.proofs.Turning.{all_next, all_pause, all_poll, all_refused, ends_err, paused_by, polls_by}
use Rattle.sc_main.specs.Deeds.{Heard}
use Rattle.sc_main.specs.Serving.{wire}
use Rattle.sc_main.proofs.accepting.serve_until.Goals as goal

pub returns-in_err-next-clause-ends : goal.returns-in_err-next-clause-ends
returns-in_err-next-clause-ends g c =
    let now = c.loop-turn in
    let i = now.invariant in
    ends_err (λ (link : g.row.A-Link.Denot). wire (g.A.Link.Link.ahead link) (g.A.Link.Link.written link) (g.A.Link.Link.fault_count link)) (λ (link : g.row.A-Link.Denot). g.A.Link.Link.number_of link)
    _ _ _ _ _ _ c.from_residual.result c.in_err-next.field-0.0 c.from_residual.ensures.1
    (all_refused (λ (link : g.row.A-Link.Denot). wire (g.A.Link.Link.ahead link) (g.A.Link.Link.written link) (g.A.Link.Link.fault_count link)) (λ (link : g.row.A-Link.Denot). g.A.Link.Link.number_of link)
    _ _ _ _ _ _ _ _ _ _ i.all i.uncaused i.faults c.in_err-next.ensures.next)

pub returns-in-Some-clause-ends : goal.returns-in-Some-clause-ends
returns-in-Some-clause-ends g c =
    let now = c.loop-turn in
    let i = now.invariant in
    let next = c.in_ok-next.ensures in
    let all = all_next (λ (link : g.row.A-Link.Denot). wire (g.A.Link.Link.ahead link) (g.A.Link.Link.written link) (g.A.Link.Link.fault_count link)) (λ (link : g.row.A-Link.Denot). g.A.Link.Link.number_of link) _ _ _ _ _ _ _ _ c.in_ok-next.next i.all refl i.uncaused next.next in (
      all_poll (λ (link : g.row.A-Link.Denot). wire (g.A.Link.Link.ahead link) (g.A.Link.Link.written link) (g.A.Link.Link.fault_count link)) (λ (link : g.row.A-Link.Denot). g.A.Link.Link.number_of link) _ _ _ _ _ all.0
          (polls_by c.serve_next.new.session c.serve_next.new.messages c.poll.new.messages c.serve_next.new.wait c.poll.new.self _ (g.C.Clock.moments c.serve_next.new.clock) (g.C.Clock.moments c.now-now.new.self) (g.C.Clock.pauses c.serve_next.new.clock) (g.C.Clock.pauses c.now-now.new.self) c.now-now.result
          (c.now-now.ensures.moment, c.now-now.ensures.left) c.poll.ensures.taken c.poll.ensures.idle_time c.poll.ensures.active_at c.poll.ensures.cause c.now-now.ensures.pauses),
      sym c.cause.ensures ∙ c.in-Some.is,
      all.1 ∙ i.faults,
    )

pub loop-turn-preserved-then-matches : goal.loop-turn-preserved-then-matches
loop-turn-preserved-then-matches g c =
    let now = c.loop-turn in
    let i = now.invariant in
    let next = c.in_ok-next.ensures in
    let all = all_next (λ (link : g.row.A-Link.Denot). wire (g.A.Link.Link.ahead link) (g.A.Link.Link.written link) (g.A.Link.Link.fault_count link)) (λ (link : g.row.A-Link.Denot). g.A.Link.Link.number_of link) _ _ _ _ _ _ _ _ c.in_ok-next.next i.all refl i.uncaused next.next in
    record {
      all = all_poll (λ (link : g.row.A-Link.Denot). wire (g.A.Link.Link.ahead link) (g.A.Link.Link.written link) (g.A.Link.Link.fault_count link)) (λ (link : g.row.A-Link.Denot). g.A.Link.Link.number_of link) _ _ _ _ _ all.0
          (polls_by c.serve_next.new.session c.serve_next.new.messages c.poll.new.messages c.serve_next.new.wait c.poll.new.self _ (g.C.Clock.moments c.serve_next.new.clock) (g.C.Clock.moments c.now-now.new.self) (g.C.Clock.pauses c.serve_next.new.clock) (g.C.Clock.pauses c.now-now.new.self) c.now-now.result
          (c.now-now.ensures.moment, c.now-now.ensures.left) c.poll.ensures.taken c.poll.ensures.idle_time c.poll.ensures.active_at c.poll.ensures.cause c.now-now.ensures.pauses);
      line = next.line;
      uncaused = sym c.cause.ensures ∙ c.in_default.is;
      size = c.serve_next.ensures.same_size ∙ i.size;
      faults = all.1 ∙ i.faults;
    }

pub loop-turn-preserved : goal.loop-turn-preserved
loop-turn-preserved g c =
    let now = c.loop-turn in
    let i = now.invariant in
    let next = c.in_ok-next.ensures in
    let uncaused = sym c.cause.ensures ∙ c.in_default.is in
    let all = all_next (λ (link : g.row.A-Link.Denot). wire (g.A.Link.Link.ahead link) (g.A.Link.Link.written link) (g.A.Link.Link.fault_count link)) (λ (link : g.row.A-Link.Denot). g.A.Link.Link.number_of link) _ _ _ _ _ _ _ _ c.in_ok-next.next i.all refl i.uncaused next.next in
    let h : Heard = record { messages = c.poll.new.messages; wait = c.poll.new.self; is_polled = true } in
    record {
      all = all_pause (λ (link : g.row.A-Link.Denot). wire (g.A.Link.Link.ahead link) (g.A.Link.Link.written link) (g.A.Link.Link.fault_count link)) (λ (link : g.row.A-Link.Denot). g.A.Link.Link.number_of link) _ _ _ _ _ (all_poll (λ (link : g.row.A-Link.Denot). wire (g.A.Link.Link.ahead link) (g.A.Link.Link.written link) (g.A.Link.Link.fault_count link)) (λ (link : g.row.A-Link.Denot). g.A.Link.Link.number_of link) _ _ _ _ _ all.0
          (polls_by c.serve_next.new.session c.serve_next.new.messages c.poll.new.messages c.serve_next.new.wait c.poll.new.self _ (g.C.Clock.moments c.serve_next.new.clock) (g.C.Clock.moments c.now-now.new.self) (g.C.Clock.pauses c.serve_next.new.clock) (g.C.Clock.pauses c.now-now.new.self) c.now-now.result
          (c.now-now.ensures.moment, c.now-now.ensures.left) c.poll.ensures.taken c.poll.ensures.idle_time c.poll.ensures.active_at c.poll.ensures.cause c.now-now.ensures.pauses))
          refl uncaused (paused_by c.serve_next.new.session h (g.C.Clock.moments c.now-now.new.self) (g.C.Clock.moments c.pause.new.self) (g.C.Clock.pauses c.now-now.new.self) (g.C.Clock.pauses c.pause.new.self) c.pause.ensures.moments c.in_ok-pause.ensures.paused);
      line = next.line;
      uncaused = uncaused;
      size = c.serve_next.ensures.same_size ∙ i.size;
      faults = all.1 ∙ i.faults;
    }
