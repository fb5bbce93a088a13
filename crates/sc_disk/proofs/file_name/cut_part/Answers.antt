use Rattle.std.proofs.Common.{arith, eq-eqb, add-one, ◌∙◌, sym, ap, length}
use Rattle.sc_disk.proofs.Names.{parts_none, parts_here, rest_of, eq_from_test}
use Rattle.sc_disk.proofs.file_name.cut_part.Goals as goal

pub returns-in-None-clause-parts : goal.returns-in-None-clause-parts
returns-in-None-clause-parts c = parts_none c.args.path.now (λ j h e. c.in-None.ensures j (omega arith) h (eq-eqb _ _ e))

pub returns-in-Some-clause-parts : goal.returns-in-Some-clause-parts
returns-in-Some-clause-parts c =
    let first = c.in-Some.ensures in
    rw (rest_of, add-one) (parts_here c.args.path.now c.in-Some.end first.0.high
    (λ j h e. first.0.before j (omega arith) h (eq-eqb _ _ e)) (eq_from_test _ _ first.1))
