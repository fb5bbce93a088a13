-- A session goes on.
use Rattle.std.proofs.Common.{◌≡◌, ℕ, zero, suc, inl, inr, true, List, [], ◌∷◌, ◌++◌, Result, Ok, Err, arith, refl, sym, ap, ◌∙◌, subst, Some}
use Rattle.std.specs.Prelude.{OnOk}
use Rattle.sc_daemon.specs.Daemons.{BacksEvent, IsIdleDaemon, Kept, ServesEvent, anew, passed}
use Rattle.sc_daemon.specs.Drives.{IsAt, Tied, TiesLine}
use Rattle.sc_daemon.specs.Lines.{IsDone, Line, new_line}
use Rattle.sc_daemon.specs.Sessions.{Feeds, IsServing}
use Rattle.sc_daemon.specs.Standings.{Rests}
use Rattle.sc_daemon.specs.Turns.{TakesMore}
use Rattle.sc_daemon.proofs.Driving.{idle_anew, tied_first}
use Rattle.sc_daemon.proofs.Leaving.{lines_set}
use Rattle.sc_daemon.proofs.Serving.{more_rests}
use Rattle.sc_daemon.proofs.Stepping.{backed_tied, passed_tied, serves_tied}
use Rattle.sc_daemon_owned.specs.Facts.{config_of}
use Rattle.sc_daemon_owned.specs.State.{disk_at}
use Rattle.sc_model.specs.Trace.{reserved_by}
use Rattle.sc_model.specs.declared.event.Event.{Event}
use Rattle.sc_model.specs.declared.event.Owner.TheVariants.{Write as OfWrite}
use Rattle.sc_wire.specs.Streams.{request_reader}

pub begins_serving : (d : Kept) → IsIdleDaemon d → IsServing (anew d) (new_line d.state.config.limit)
begins_serving d idle = record { opens = []; tied = tied_first (anew d) (suc zero) (idle_anew d idle) }

-- the connection as another that stands as well
other_line : (d : Kept) (old new : Line) (s : IsServing d old) → IsAt (config_of d.state.config) (disk_at d.state) new → TiesLine s.tied.owns s.opens (disk_at d.state) zero new → IsServing d new
other_line d old new s at ties =
    let t = s.tied in
    let k = config_of d.state.config in
    let z = new_line k.limit in
    record {
      opens = s.opens;
      tied = record {
        at = lines_set (λ i y. IsAt k (disk_at d.state) y) z (old ∷ []) zero new (omega arith) at (λ i apart. t.at i);
        pending = t.pending;
        numbers = t.numbers;
        owns = t.owns;
        reserved = t.reserved;
        lines = lines_set (λ i y. TiesLine t.owns s.opens (disk_at d.state) i y) z (old ∷ []) zero new (omega arith) ties (λ i apart. t.lines i);
        writes = t.writes;
      };
    }

-- a piece that a connection takes where it isn't over
pub fed : {E : Type 0} (r : Result (Unit {0}) E) (bytes : List ℕ) (old new : Line) → (IsDone old → ⊥) → OnOk r (TakesMore bytes old new) → OnOk r (Feeds bytes old new)
fed (Ok u) bytes old new going takes = inr (going, takes)
fed (Err e) bytes old new going takes = tt

pub feeds_on : (d : Kept) (old new : Line) (bytes : List ℕ) → IsServing d old → Feeds bytes old new → IsServing d new
feeds_on d old new bytes s (inl (over, same)) = subst (λ (l : Line). IsServing d l) (sym same) s
feeds_on d old new bytes s (inr (going, takes)) =
    let k = config_of d.state.config in
    let a = disk_at d.state in
    let here : IsAt k a old = s.tied.at zero in
    let rests : Rests k (Some a) old.phase old.entry new.waiting = more_rests k (Some a) old.phase old.entry old.waiting ((request_reader old.limit).requests (old.rest ++ bytes)) new.waiting here.1 takes.requests in
    other_line d old new s
    (ap (λ (l : Line). l.limit) takes.same ∙ here.0, subst (λ (l : Line). Rests k (Some a) l.phase l.entry new.waiting) (sym takes.same) rests)
    (subst (λ (l : Line). TiesLine s.tied.owns s.opens a zero l) (sym takes.same) (s.tied.lines zero))

pub shuts_on : (d : Kept) (l new : Line) → IsServing d l → new ≡ record l { closed = true } → IsServing d new
shuts_on d l new s is = subst (λ (n : Line). IsServing d n) (sym is) (other_line d l (record l { closed = true }) s (s.tied.at zero) (s.tied.lines zero))

pub sends_on : (d : Kept) (l new : Line) → IsServing d l → new ≡ record l { out = [] } → IsServing d new
sends_on d l new s is = subst (λ (n : Line). IsServing d n) (sym is) (other_line d l (record l { out = [] }) s (s.tied.at zero) (s.tied.lines zero))

pub renews : (d : Kept) (l new : Line) → IsServing d l → new ≡ new_line d.state.config.limit → IsServing d new
renews d l new s is = subst (λ (n : Line). IsServing d n) (sym is) (other_line d l (new_line d.state.config.limit) s (refl, (refl, refl)) tt)

pub serves_on : (d d2 : Kept) (old new : Line) (e : Event) → IsServing d old → ServesEvent zero e d d2 old new → Rests (config_of d.state.config) (Some (disk_at d2.state)) new.phase new.entry new.waiting → IsServing d2 new
serves_on d d2 old new e serving serves rests = record {
  opens = reserved_by e.owner e.what serving.opens;
  tied = serves_tied zero e.owner e.what d d2 (old ∷ []) serving.opens old new (omega arith) serving.tied serves.serves rests;
}

pub backs_on : (d d2 : Kept) (l : Line) (i : ℕ) (e : Event) → IsServing d l → BacksEvent i e d d2 → IsServing d2 l
backs_on d d2 l i e serving (inl (past, is_idle, same)) = subst (λ (k : Kept). IsServing k l) (sym same) serving
backs_on d d2 l i e serving (inr (w, at, backs)) = record {
  opens = reserved_by (OfWrite w.pending.number) e.what serving.opens;
  tied = backed_tied d d2 (l ∷ []) serving.opens i w e serving.tied at backs;
}

pub passes_on : (d : Kept) (l : Line) (n : ℕ) → IsServing d l → IsServing (passed d n) l
passes_on d l n serving = record { opens = serving.opens; tied = passed_tied d n (l ∷ []) serving.opens serving.tied }
