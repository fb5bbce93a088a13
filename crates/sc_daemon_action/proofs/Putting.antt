-- A write that goes on.
use Rattle.std.proofs.Common.{◌≡◌, ℕ, zero, suc, List, length, Option, Some, None, refl, ap, sym, subst, ◌∙◌}
use Rattle.sc_daemon_action.specs.Hands.{ActsWith, IsOwn, StandsWith, hand_of}
use Rattle.sc_daemon_action.specs.Serves.{IsWriter}
use Rattle.sc_daemon_action.specs.declared.acted.Action.{Action}
use Rattle.sc_disk.specs.Store.{AddEntry}
use Rattle.sc_daemon_hold.specs.Holding.{Hand, HandsIn, KeepsIn, Rooms}
use Rattle.sc_daemon_job.specs.Setups.{Config, setup}
use Rattle.sc_model.specs.Follows.{Fits}
use Rattle.sc_model.specs.DueAt.{due_at}
use Rattle.sc_model.specs.Phases.{after, next_writes}
use Rattle.sc_model.specs.Plan.{goes_on}
use Rattle.sc_model.specs.There.{AreHanded, AreLevels, handed_in}
use Rattle.sc_model.specs.declared.event.What.{What}
use Rattle.sc_model.specs.declared.message.Request.{Request}
use Rattle.sc_model.specs.declared.phase.Bytes.{Bytes}
use Rattle.sc_model.specs.declared.phase.Ending.{Ending}
use Rattle.sc_model.specs.declared.phase.Phase.{Phase}
use Rattle.sc_model.specs.declared.phase.Phase.TheVariants.{AtWrite}
use Rattle.sc_model.specs.declared.phase.Refusal.{Refusal}
use Rattle.sc_model.specs.declared.phase.Refusal.TheVariants.{At, NoneYet}

goes_levels : (n : ℕ) (f : Refusal) (ls : List ℕ) → AreLevels n ls → AreLevels n (goes_on f ls)
goes_levels n NoneYet ls there = there
goes_levels n (At zero c) ls there = tt
goes_levels n (At (suc l) c) ls there = there

-- The write goes on at the levels that are left, with no entry.
pub goes_with : (k : Config) (d : Option Rooms) (r : Request) (p : Phase) (m : ℕ) (a : Action) (what : What) (b : Bytes) (f : Refusal) (rest : List ℕ) (ending : Option Ending) → a.what ≡ what → a.phase ≡ next_writes b f rest ending → a.entry ≡ None
    → AreLevels (length k.levels) rest → IsWriter r ending → Fits (setup k) r (due_at (setup k) r p) what → after (setup k) r p m what ≡ next_writes b f rest ending → IsOwn what → AreHanded (length k.levels) (handed_in what) → ActsWith k d r p m a
goes_with k d r p m a what b f rest ending is_what is_phase is_none there writer fits then own handed = record {
  fits = subst (λ (x : What). Fits (setup k) r (due_at (setup k) r p) x) (sym is_what) fits;
  then = is_phase ∙ sym then ∙ ap (λ (x : What). after (setup k) r p m x) (sym is_what);
  stands = subst (λ (q : Phase). StandsWith k d q a.entry r) (sym is_phase) (subst (λ (e : Option AddEntry). StandsWith k d (next_writes b f rest ending) e r) (sym is_none) ((goes_levels (length k.levels) f rest there, writer), refl));
  own = subst IsOwn (sym is_what) own;
  there = subst (λ (x : What). AreHanded (length k.levels) (handed_in x)) (sym is_what) handed;
}

-- No entry is held where a write is at its next level.
pub hand_write : (entry : Option AddEntry) (b : Bytes) (ls : List ℕ) (f : Refusal) (ending : Option Ending) → hand_of entry (AtWrite b ls f ending) ≡ None
hand_write None b ls f ending = refl
hand_write (Some e) b ls f ending = refl

pub keeps_write : (entry : Option AddEntry) (b : Bytes) (ls : List ℕ) (f : Refusal) (ending : Option Ending) (old new : Option Rooms) → KeepsIn None old new → KeepsIn (hand_of entry (AtWrite b ls f ending)) old new
keeps_write entry b ls f ending old new keeps = subst (λ (h : Option Hand). KeepsIn h old new) (sym (hand_write entry b ls f ending)) keeps

pub hands_write : (entry : Option AddEntry) (b : Bytes) (ls : List ℕ) (f : Refusal) (ending : Option Ending) (d : Option Rooms) (x : What) (new : Option Hand) → HandsIn d x None new → HandsIn d x (hand_of entry (AtWrite b ls f ending)) new
hands_write entry b ls f ending d x new by = subst (λ (h : Option Hand). HandsIn d x h new) (sym (hand_write entry b ls f ending)) by
