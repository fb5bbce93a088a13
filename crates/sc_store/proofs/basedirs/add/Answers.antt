use Rattle.std.proofs.Common.{◌≡◌, ap, sym, ◌∙◌, ◌∷◌, ◌++◌, [], List, ℕ}
use Rattle.sc_store.specs.Basedirs.{is_among}
use Rattle.sc_store.proofs.Gathering.{collect_more, new_dir, set_more}
use Rattle.sc_store.proofs.basedirs.add.Goals as goal

pub loop-left-preserved-in_ok-push : goal.loop-left-preserved-in_ok-push
loop-left-preserved-in_ok-push c =
    let seen = c.loop-left.seen.items in
    let dir = c.first-item.result in
    let same : c.as_slice.result.now ≡ dir = c.as_slice.ensures in
    let pushed : c.push.new.self.items ≡ seen ++ c.in_ok-try_clone.field-0 ∷ [] = c.in_ok-push.ensures.items in
    let more : c.push.new.self.items ≡ seen ++ dir ∷ [] = pushed ∙ ap (λ (d : List ℕ). seen ++ d ∷ []) c.in_ok-try_clone.ensures in
    let absent = new_dir c.loop-left.named c.as_slice.result seen c.in_ok-insert.field-0 c.loop-left.invariant.named c.in_ok-insert.ensures.added c.if-branch.true in
    record {
      named = set_more c.loop-left.named c.insert.new.self c.as_slice.result seen c.push.new.self.items c.loop-left.invariant.named c.in_ok-insert.ensures.updates (more ∙ ap (λ (d : List ℕ). seen ++ d ∷ []) (sym same));
      collected = collect_more c.loop-left.left.now dir seen c.push.new.self.items _ c.in-len1-up.len_at_least c.first-item.is (ap (λ (d : List ℕ). is_among d seen) (sym same) ∙ absent) more c.loop-left.invariant.collected;
    }
