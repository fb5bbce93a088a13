use Rattle.std.proofs.Common.{◌<◌, ◌^◌, length, Result, Ok, Err, ap, subst, arith}
use Rattle.std.specs.Prelude.{OnOk}
use Rattle.sc_entry.specs.Tally.{entries_of}
use Rattle.sc_wire.specs.Lists.{FitAll}
use Rattle.sc_wire.specs.Tallies.{pair, entries_rise}
use Rattle.sc_wire.proofs.counts.CountsWire.put.Goals as goal

on_ok_then : {A E : Type 0} (r : Result A E) (P Q : Type 0) → OnOk r P → (P → Q) → OnOk r Q
on_ok_then (Ok x) P Q h f = f h
on_ok_then (Err e) P Q h f = tt

pub returns-clause-fits : goal.returns-clause-fits
returns-clause-fits c =
    let same = c.by_text-by_text.ensures in
    let few : length (entries_of c.args.self.now) < 2 ^ 64 = omega (arith, ap length same, c.len.ensures.len, c.len.ensures.small) in
    on_ok_then c.put_counts.result _ _ c.put_counts.ensures.fits (λ f. (entries_rise c.args.self.now, (few, subst (FitAll pair) same f)))
