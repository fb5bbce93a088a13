use Rattle.std.proofs.Common.{refl, sym, subst}
use Rattle.sc_daemon.specs.Daemons.{ReadsEvent}
use Rattle.sc_daemon.specs.Turns.{Reads}
use Rattle.sc_daemon.specs.declared.reading.Reading.{Reading}
use Rattle.sc_model.specs.declared.event.Event.{Event}
use Rattle.sc_daemon.proofs.daemon.Daemon.read.Goals as goal

pub returns-in-Taken : goal.returns-in-Taken
returns-in-Taken g c =
    subst (λ (e : Event). ReadsEvent c.args.self.now c.args.number c.args.input.now c.args.count e c.args.conn.now c.read.new.self) (sym c.event-in-Taken.ensures)
    record {
      moment = refl;
      owner = refl;
      reads = (refl, subst (λ (r : Reading). Reads c.args.input.now c.args.count r c.args.conn.now c.read.new.self) c.in-Taken.is c.in_ok-read.ensures);
    }

pub returns-in-Closed : goal.returns-in-Closed
returns-in-Closed g c =
    subst (λ (e : Event). ReadsEvent c.args.self.now c.args.number c.args.input.now c.args.count e c.args.conn.now c.read.new.self) (sym c.event-in-Closed.ensures)
    record {
      moment = refl;
      owner = refl;
      reads = (refl, subst (λ (r : Reading). Reads c.args.input.now c.args.count r c.args.conn.now c.read.new.self) c.in-Closed.is c.in_ok-read.ensures);
    }
