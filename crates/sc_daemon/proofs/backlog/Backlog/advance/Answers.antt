use Rattle.std.proofs.Common.{◌≡◌, Some, List, option_map, subst, sym, ap, ◌∙◌, refl, set}
use Rattle.sc_daemon.proofs.Handing.{at_slice, went}
use Rattle.sc_daemon.proofs.Leaving.{pending_at_place}
use Rattle.sc_daemon.specs.Backlogs.{Write, write_at, with_write}
use Rattle.sc_model.specs.Trace.{ends_write}
use Rattle.sc_daemon.proofs.backlog.Backlog.advance.Goals as goal

pub advance-requires : goal.advance-requires
advance-requires g c =
    let i = c.args.place in
    let w = c.in-Some.write.now in
    let at = subst (λ (ws : List Write). write_at i ws ≡ Some w) c.self.view_is (at_slice c.self.inside.writes i w (sym c.get_mut.ensures.value ∙ ap (λ o. option_map (λ r. r.now) o) c.in-Some.is)) in
    pending_at_place (g.H.Hold.config c.args.hold.now) (g.H.Hold.rooms c.args.hold.now) i c.args.self.now w at c.requires.pending

pub returns-clause-advances : goal.returns-clause-advances
returns-clause-advances g c =
    let i = c.args.place in
    let w = c.in-Some.write.now in
    let then = c.advance.new.self in
    let ws = c.self.inside.writes in
    record {
      write = w;
      at = subst (λ (vs : List Write). write_at i vs ≡ Some w) c.self.view_is (at_slice ws i w (sym c.get_mut.ensures.value ∙ ap (λ o. option_map (λ r. r.now) o) c.in-Some.is));
      then = then;
      advances = c.in_ok-what.ensures.advances;
      left = subst (λ (vs : List Write). c.settle.new.self ≡ with_write i (ends_write c.in_ok-what.what) then vs) c.self.view_is (went ws (set ws i then) c.settle.new.self i then c.is_end.result (ends_write c.in_ok-what.what) c.is_end.ensures refl c.settle.ensures.goes c.settle.ensures.stays);
    }

pub returns-clause-moves : goal.returns-clause-moves
returns-clause-moves g c n r marks =
    let i = c.args.place in
    let w = c.in-Some.write.now in
    c.in_ok-what.ensures.moves n r (marks w (subst (λ (vs : List Write). write_at i vs ≡ Some w) c.self.view_is (at_slice c.self.inside.writes i w (sym c.get_mut.ensures.value ∙ ap (λ o. option_map (λ r. r.now) o) c.in-Some.is))))
