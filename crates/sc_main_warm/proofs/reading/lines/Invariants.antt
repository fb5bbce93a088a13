use Rattle.std.proofs.Common.{◌≡◌, ◌+◌, ◌≤◌, length}
use Rattle.sc_main_script.specs.Parts.{parts_of}
use Rattle.sc_main_warm.specs.Drafts.{no_lines}
use Rattle.sc_main_warm.specs.Texts.{lines_from}
use Rattle.sc_main_warm.proofs.reading.lines.Given as goal

abbrev pub invariant-loop-line : goal.invariant-loop-line
invariant-loop-line l = record {
  same : lines_from l.whole l.number l.draft (parts_of l.rest) ≡ lines_from l.whole 1 no_lines (parts_of l.fn.text);
  few : l.number + length l.rest ≤ 1 + length l.fn.text;
}

abbrev pub decreases-loop-line : goal.decreases-loop-line
decreases-loop-line l = length l.rest
