use Rattle.std.proofs.Common.{arith, add-one, ap, eq-eqb, sym}
use Rattle.sc_compile_language.proofs.Lasts.{eq_from_test, last_here, last_none, rest_of}
use Rattle.sc_compile_language.specs.Extensions.{or_whole}
use Rattle.sc_host_probe.proofs.kinds.file_name.Goals as goal

pub returns-in-None : goal.returns-in-None
returns-in-None c =
    ap (or_whole c.args.path.now) (sym (last_none 47 c.args.path.now (λ j h e. c.in-None.ensures j (omega arith) h (eq-eqb _ _ e))))

pub returns-in-Some : goal.returns-in-Some
returns-in-Some c =
    let last = c.in-Some.ensures in
    rw (rest_of, add-one) (ap (or_whole c.args.path.now) (sym (last_here 47 c.args.path.now c.in-Some.at last.0.high
    (λ j h g e. last.0.after j (omega arith) g (eq-eqb _ _ e)) (eq_from_test _ _ last.1))))
