use Rattle.std.specs.Option.{option_copied}
use Rattle.sc_stats.specs.Info.{info_lines}
use Rattle.sc_main_client.proofs.Gathering.{gathered}
use Rattle.sc_main_client.proofs.printed.lines_of.Goals as goal

pub returns : goal.returns
returns c =
    let text = (gathered (info_lines c.args.advanced (option_copied c.args.mode) c.args.info.now) _ c.print.new.writer c.in_ok-print.ensures.lines c.if-lines.false).1 in
    rw c.new.ensures at text
