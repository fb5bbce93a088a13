-- How serving ends, by what came of its steps.
use Rattle.std.proofs.Common.{◌≡◌, ◌∙◌, ◌++◌, ap, codes, sym, subst, ℕ, ℤ, List, refl, Result, Ok, Err}
use Rattle.std.specs.Prelude.{IsErrAnd, Bool, false}
use Rattle.sc_main_outside.specs.Makings.{MakeCause}
use Rattle.sc_main_outside.specs.declared.make_error.MakeError.{MakeError}
use Rattle.sc_main_outside.specs.declared.make_error.MakeError.TheVariants as make_errors
use Rattle.sc_daemon.specs.Daemons.{Kept, anew, new_daemon}
use Rattle.sc_daemon.specs.Lines.{Line, new_line}
use Rattle.sc_daemon.specs.Sessions.{Session}
use Rattle.sc_daemon_owned.specs.State.{State, store_of}
use Rattle.sc_disk.specs.Disks.{DiskState}
use Rattle.sc_main.specs.ServeCommand.{Course, Doors, IsServerDaemon, ServedEnds, ServesAt, ServesOver, first_session, listening_line, served_end}
use Rattle.sc_main.specs.declared.serve_error.ServeError.{ServeError}
use Rattle.sc_main_client.specs.Asking.{AfterFirst}
use Rattle.sc_main_client.specs.Ending.{TextEnds}
use Rattle.sc_main_report.specs.declared.ended.Ended.{Ended}
use Rattle.sc_main_report.specs.declared.ended.Ended.TheVariants as ended
use Rattle.sc_server_parts.specs.Making.{one_level}
use Rattle.sc_store.specs.Held.{Held}
use Rattle.sc_server_activity.specs.declared.stop_cause.StopCause.{StopCause}
use Rattle.sc_wire_address.specs.declared.socket_addr.SocketAddr.{SocketAddr}

-- behind a text that was written, what is done then
pub after_status : (then : Ended → Type 0) (same : Type 0) (first e : Ended) (n : ℤ) → first ≡ ended.Status n → then e → AfterFirst first then same e
after_status then same first e n is done = subst (λ f. AfterFirst f then same e) (sym is) done

-- behind one that wasn't, its end
pub after_other : (then : Ended → Type 0) (same : Type 0) (first e : Ended) → ((n : ℤ) → first ≡ ended.Status n → ⊥) → e ≡ first → same → AfterFirst first then same e
after_other then same (ended.Status n) e other is kept = absurd (other n refl)
after_other then same ended.Usage e other is kept = (is, kept)
after_other then same (ended.BadScript line) e other is kept = (is, kept)
after_other then same ended.NoMemory e other is kept = (is, kept)
after_other then same ended.ReadFault e other is kept = (is, kept)
after_other then same ended.WriteFault e other is kept = (is, kept)
after_other then same ended.LinkFault e other is kept = (is, kept)
after_other then same ended.Unexpected e other is kept = (is, kept)

module _ {A K : Type 0} (doors : Doors A K) (wrote : List ℕ → Type 0) (write_rose : Type 0) (course : Course) (acceptor left : A) (addr : SocketAddr) (is_there : addr ≡ doors.address acceptor) (first e : Ended) (printed : TextEnds (wrote (listening_line addr)) write_rose first) where
  -- the address was printed, and links were served
  pub serves_at : (n : ℤ) (served : Result StopCause ServeError) → first ≡ ended.Status n → ServesOver doors course acceptor left served → e ≡ served_end served → ServesAt doors wrote write_rose course acceptor e
  serves_at n served is done end = record {
    left = left;
    first = first;
    printed = subst (λ a. TextEnds (wrote (listening_line a)) write_rose first) is_there printed;
    after = after_status (ServedEnds (ServesOver doors course acceptor left)) ((left ≡ acceptor) × (course.last ≡ course.session)) first e n is (record { result = served; done = done; end = end });
  }

  -- the address wasn't printed, and nothing was served
  pub serves_not : ((n : ℤ) → first ≡ ended.Status n → ⊥) → e ≡ first → left ≡ acceptor → course.last ≡ course.session → ServesAt doors wrote write_rose course acceptor e
  serves_not other is kept same = record {
    left = left;
    first = first;
    printed = subst (λ a. TextEnds (wrote (listening_line a)) write_rose first) is_there printed;
    after = after_other (ServedEnds (ServesOver doors course acceptor left)) ((left ≡ acceptor) × (course.last ≡ course.session)) first e other is (kept, same);
  }

-- a daemon over one store in a folder, as it is made
pub is_server_daemon : (dir : List ℕ) (bytes tokens : ℕ) (main pre : DiskState) (levels : Held) (o : State) (d : Kept) → main.root ≡ dir → pre.root ≡ dir ++ codes "/preprocessor" → levels ≡ one_level bytes main pre → o.config.store ≡ store_of levels → o.config.levels ≡ levels.facts → o.config.policy ≡ levels.policy → o.config.tokens ≡ tokens → o.config.limit ≡ 8388608 → d ≡ new_daemon o → IsServerDaemon dir bytes tokens d
is_server_daemon dir bytes tokens main pre levels o d at_dir at_pre is_one store facts policy tokens_are limit new =
    let owned : d.state ≡ o = ap (λ (k : Kept). k.state) new in
    record {
      main = main;
      pre = pre;
      main_root = at_dir;
      pre_root = at_pre;
      store = ap (λ (s : State). s.config.store) owned ∙ (store ∙ ap store_of is_one);
      levels = ap (λ (s : State). s.config.levels) owned ∙ (facts ∙ ap (λ (h : Held). h.facts) is_one);
      policy = ap (λ (s : State). s.config.policy) owned ∙ (policy ∙ ap (λ (h : Held). h.policy) is_one);
      tokens_are = ap (λ (s : State). s.config.tokens) owned ∙ tokens_are;
      limit = ap (λ (s : State). s.config.limit) owned ∙ limit;
      new = new ∙ ap new_daemon (sym owned);
    }

-- memory ran out, and nothing was refused
pub unmade : {M : Type 0} (r : Result M MakeError) (before now : ℕ) → IsErrAnd r (λ error. error ≡ make_errors.NoMemory) → now ≡ before → MakeCause before now r
unmade (Ok x) before now h same = absurd h
unmade {M} (Err e) before now h same = subst (λ (x : MakeError). MakeCause {M = M} before now (Err x)) (sym h) same

-- a session as it is made
pub is_first : (s : Session) (d : Kept) → s.daemon ≡ anew d → s.line ≡ new_line d.state.config.limit → s.lost ≡ false → s ≡ first_session d
is_first s d daemon line lost =
    let one : s ≡ record { daemon = anew d; line = s.line; lost = s.lost } = ap (λ (x : Kept). record { daemon = x; line = s.line; lost = s.lost }) daemon in
    let two : ◌≡◌ {A = Session} (record { daemon = anew d; line = s.line; lost = s.lost }) (record { daemon = anew d; line = new_line d.state.config.limit; lost = s.lost }) = ap (λ (x : Line). record { daemon = anew d; line = x; lost = s.lost }) line in
    let three : ◌≡◌ {A = Session} (record { daemon = anew d; line = new_line d.state.config.limit; lost = s.lost }) (first_session d) = ap (λ (x : Bool). record { daemon = anew d; line = new_line d.state.config.limit; lost = x }) lost in
    one ∙ (two ∙ three)
