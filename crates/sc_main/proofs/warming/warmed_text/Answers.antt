use Rattle.std.proofs.Common.{sym, ◌∙◌}
use Rattle.sc_main.proofs.Standing.{warms}
use Rattle.sc_main.specs.Warming.{warm_text}
use Rattle.sc_main.proofs.warming.warmed_text.Goals as goal

pub returns : goal.returns
returns c =
    let w = c.in_ok-warmed in
    warms c.args.script c.as_slice.result.now w.warmed.items c.in_ok-from.from c.warm.new.from c.in_ok-to.to c.warm.new.to c.in_ok-text.text.items c.in_ok-from_size.from_size c.in_ok-to_size.to_size
    c.as_slice.ensures c.in_ok-from.ensures c.in_ok-to.ensures
    w.ensures.each w.ensures.absent w.ensures.torn w.ensures.copied w.ensures.from_refused w.ensures.to_refused
    c.in_ok-from_size.ensures c.in_ok-to_size.ensures
    (c.in_ok-text.ensures ∙ (λ i. warm_text ((c.as_slice-2.ensures ∙ sym c.as_slice.ensures) i) (c.deref.ensures.value i) c.in_ok-from_size.from_size c.in_ok-to_size.to_size))
