use Rattle.std.proofs.Common.{arith, eq-eqb}
use Rattle.sc_words.proofs.Cuts.{split_none, split_here, cut_none, cut_here, rest_of, eq_from_test}
use Rattle.sc_words.proofs.cutting.cut.Goals as goal

pub returns-in-None-clause-value : goal.returns-in-None-clause-value
returns-in-None-clause-value c = cut_none c.args.at c.args.text.now (λ j h e. c.in-None.ensures j (omega arith) h (eq-eqb _ _ e))

pub returns-in-None-clause-parts : goal.returns-in-None-clause-parts
returns-in-None-clause-parts c = split_none c.args.at c.args.text.now (λ j h e. c.in-None.ensures j (omega arith) h (eq-eqb _ _ e))

pub returns-in-Some-clause-value : goal.returns-in-Some-clause-value
returns-in-Some-clause-value c =
    let first = c.in-Some.ensures in
    rw rest_of (cut_here c.args.at c.args.text.now c.in-Some.place first.0.high
    (λ j h e. first.0.before j (omega arith) h (eq-eqb _ _ e)) (eq_from_test _ _ first.1))

pub returns-in-Some-clause-parts : goal.returns-in-Some-clause-parts
returns-in-Some-clause-parts c =
    let first = c.in-Some.ensures in
    rw rest_of (split_here c.args.at c.args.text.now c.in-Some.place first.0.high
    (λ j h e. first.0.before j (omega arith) h (eq-eqb _ _ e)) (eq_from_test _ _ first.1))
