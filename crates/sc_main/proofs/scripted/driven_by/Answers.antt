use Rattle.std.proofs.Common.{sym, ap, ◌∙◌, subst}
use Rattle.sc_daemon_owned.specs.State.{State}
use Rattle.sc_daemon.specs.Daemons.{IsIdleDaemon, Kept, new_daemon}
use Rattle.sc_daemon.proofs.Beginning.{new_idle}
use Rattle.sc_main_memory.specs.Making.{AreLines, AreRefusals, IsDist}
use Rattle.sc_main.specs.Scripted.{Begins}
use Rattle.sc_main.proofs.Reporting.{if_ok, reports}
use Rattle.sc_main.proofs.scripted.driven_by.Goals as goal

pub make-requires : goal.make-requires
make-requires c = record { good = c.requires }

pub reported-text-requires : goal.reported-text-requires
reported-text-requires c = record {
  idle = subst IsIdleDaemon (sym c.in_ok-daemon.ensures) (new_idle c.in_ok-made.made.owned c.in_ok-made.ensures.unreserved);
  told = ap (λ (d : Kept). d.state.told) c.in_ok-daemon.ensures ∙ c.in_ok-made.ensures.told;
}

pub returns : goal.returns
returns c =
    let d = c.in_ok-daemon.daemon in
    let made = c.in_ok-made.ensures in
    let owned = ap (λ (k : Kept). k.state) c.in_ok-daemon.ensures in
    let begins : Begins c.args.script d = record {
      store = ap (λ (o : State). o.config.store) owned ∙ made.store;
      counters = ap (λ (o : State). o.config.counters) owned ∙ made.counters;
      levels = ap (λ (o : State). o.config.levels) owned ∙ made.levels;
      policy = ap (λ (o : State). o.config.policy) owned ∙ made.policy;
      tokens = ap (λ (o : State). o.config.tokens) owned ∙ made.tokens;
      limit = ap (λ (o : State). o.config.limit) owned ∙ made.limit;
      table = ap (λ (o : State). o.config.table) owned ∙ made.table;
      keys = ap (λ (o : State). o.config.keys) owned ∙ made.keys;
      lines = subst (λ (o : State). AreLines o.config.lines c.args.script.runs) (sym owned) made.lines;
      refusals = subst (λ (o : State). AreRefusals o.config.refusals c.args.script.places) (sym owned) made.refusals;
      dist = subst (λ (o : State). IsDist o.config.dist c.args.script.jobs) (sym owned) made.dist;
      told = ap (λ (o : State). o.told) owned ∙ made.told;
      world = ap (λ (o : State). o.world) owned ∙ made.world;
      new = c.in_ok-daemon.ensures ∙ ap new_daemon (sym owned);
    } in
    if_ok c.reported-text.result c.reported-text.ensures
    (λ text drove. reports c.args.extent c.args.script text.items d c.reported-text.new.daemon drove.driven c.as_slice.result.now c.as_slice-2.result.now begins (c.as_slice.ensures ∙ made.inputs) (c.as_slice-2.ensures ∙ made.steps) drove.headline drove.report)
