use Rattle.std.proofs.Common.{◌++◌, ◌∷◌, [], ◌+◌, ◌∙◌, ap, drop, map, List}
use Rattle.sc_daemon.proofs.Handing.{one_listed}
use Rattle.sc_daemon.specs.Backlogs.{Write}
use Rattle.sc_model.specs.declared.level.Handed.{Handed}
use Rattle.sc_daemon.proofs.drives.writes_left.Goals as goal

pub loop-place-preserved : goal.loop-place-preserved
loop-place-preserved c = record {
  end = c.len-place-end.ensures;
  same =
      let ws = c.args.background.now in
      let i = c.loop-place.place in
      let w = c.in-Some.write.now in
      let left = c.loop-place.left in
      ap (λ (hs : List Handed). hs ++ map (λ (v : Write). v.pending.handed) (drop (i + 1) ws)) (c.in_ok-push.ensures.ok ∙ ap (λ (h : Handed). left ++ (h ∷ [])) c.in_ok-handed.ensures)
      ∙ one_listed left ws i w c.in-Some.ensures.some c.loop-place.invariant.same;
}
