use Rattle.std.proofs.Common.{arith, ◌∙◌}
use Rattle.sc_compile_table.proofs.Turning.{next_here, next_last}
use Rattle.sc_compile_table.proofs.book.next_place.Goals as goal

pub returns-then-taken-places : goal.returns-then-taken-places
returns-then-taken-places c = next_here c.args.places.now c.args.taken (omega arith)

pub returns : goal.returns
returns c = c.copied.ensures ∙ c.last.ensures.value ∙ next_last c.args.places.now c.args.taken (omega arith)
