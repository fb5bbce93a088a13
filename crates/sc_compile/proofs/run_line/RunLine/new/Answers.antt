use Rattle.std.proofs.Common.{refl}
use Rattle.sc_model.specs.GoodNames.{is_good_answer}
use Rattle.sc_compile.proofs.Making.{made}
use Rattle.sc_compile.proofs.run_line.RunLine.new.Goals as goal

pub returns-then-branch : goal.returns-then-branch
returns-then-branch c = made c.args.key c.args.answer (is_good_answer c.args.answer) refl _
