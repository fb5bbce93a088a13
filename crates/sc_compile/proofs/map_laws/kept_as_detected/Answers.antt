use Rattle.sc_compile.proofs.Keeping.{informs_agrees, informs_answers, none_agrees}
use Rattle.sc_compile.proofs.map_laws.kept_as_detected.Goals as goal

pub returns-clause-begins : goal.returns-clause-begins
returns-clause-begins c = none_agrees

pub returns-clause-answers : goal.returns-clause-answers
returns-clause-answers c = informs_answers

pub returns-clause-agrees : goal.returns-clause-agrees
returns-clause-agrees c = informs_agrees
