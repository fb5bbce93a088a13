use Rattle.std.proofs.Common.{◌≤◌, ◌-◌, ◌^◌, length, rules}
use Rattle.sc_compile_table.specs.Books.{taken_at}
use Rattle.sc_compile_table.proofs.Turning.{counts_on}
use Rattle.sc_compile_table.proofs.book.keep_answer.Goals as goal

pub returns-in-Ok-clause-counted : goal.returns-in-Ok-clause-counted
returns-in-Ok-clause-counted g c = λ other.
    let room : length c.push.new.self.items ≤ 2 ^ 64 - 1 = search rules in
    counts_on other c.args.key.now c.args.answer c.args.done.now.items c.push.new.self.items (taken_at c.args.taken.now c.args.key.now) (taken_at c.args.taken.now other) (taken_at c.count_one.new.taken other)
    (search rules) (c.requires c.args.key.now) (c.requires other) room (c.in-Ok.ensures.ok other)
