use Rattle.std.proofs.Common.{◌∙◌, true}
use Rattle.sc_main.proofs.Ending.{serves_link}
use Rattle.sc_main.proofs.Going.{first_idle, raised_first}
use Rattle.sc_main.specs.Deeds.{Heard}
use Rattle.sc_main.specs.Progress.{scene}
use Rattle.sc_main.specs.Serving.{refused_in, wire}
use Rattle.sc_main.proofs.serving.serve_one.Goals as goal

pub serve_pieces-requires-clause-idle : goal.serve_pieces-requires-clause-idle
serve_pieces-requires-clause-idle g c = first_idle c.args.session.now c.raise.new.session c.raise.result c.requires.line c.raise.ensures.session

pub returns : goal.returns
returns g c =
    let moments = g.C.Clock.moments in
    let old = c.args.link.now in
    let new = c.serve_pieces.new.link in
    let k = wire (g.K.Link.ahead old) (g.K.Link.written old) (g.K.Link.fault_count old) in
    let k2 = wire (g.K.Link.ahead new) (g.K.Link.written new) (g.K.Link.fault_count new) in
    let h : Heard = record { messages = c.args.messages.now; wait = c.args.wait.now; is_polled = true } in
    let h2 : Heard = record { messages = c.serve_pieces.new.messages; wait = c.serve_pieces.new.wait; is_polled = true } in
    let first = scene c.args.session.now h (moments c.args.clock.now) k in
    let end = c.in_ok-end.end in
    let left = c.in_ok-end.ensures.leaves first (raised_first c.args.session.now c.raise.new.session h (moments c.args.clock.now) (moments c.raise.new.clock) k c.raise.result c.requires.line c.raise.ensures.session c.raise.ensures.ticks) in
    record {
      serves = serves_link end first c.serve_pieces.new.session c.write_all_handed.new.session h2 (moments c.serve_pieces.new.clock) (moments c.write_all_handed.new.clock) k2 left c.in_ok-end.ensures.idle
          (c.in_ok-write_all_handed.ensures.writes (refused_in end) first h2 k2 left.so_far) c.write_all_handed.ensures.line c.in_ok-write_all_handed.ensures.background;
      pauses = c.write_all_handed.ensures.pauses ∙ c.serve_pieces.ensures.pauses ∙ c.raise.ensures.pauses;
      same_shut = c.serve_pieces.ensures.same_shut;
      same_number = c.serve_pieces.ensures.same_number;
      same_size = c.serve_pieces.ensures.same_size;
    }
