use Rattle.std.proofs.Common.{◌≡◌, Option}
use Rattle.sc_main.proofs.answering.write_all_handed.Given as goal
use Rattle.sc_main.specs.Deeds.{Heard}
use Rattle.sc_main.specs.Progress.{Scene, SoFar, scene}
use Rattle.sc_main.specs.Serving.{Wire}
use Rattle.sc_main.specs.declared.link_end.LinkEnd.{LinkEnd}

abbrev pub invariant-loop-action : goal.invariant-loop-action
invariant-loop-action g l = record {
  so_far : (refused : Option LinkEnd) (first : Scene) (heard : Heard) (link : Wire)
      → SoFar refused first (scene l.fn.session heard (g.C.Clock.moments l.fn.clock) link) → SoFar refused first (scene l.session heard (g.C.Clock.moments l.clock) link);
  line : l.session.line ≡ l.fn.session.line;
  pauses : g.C.Clock.pauses l.clock ≡ g.C.Clock.pauses l.fn.clock;
}
