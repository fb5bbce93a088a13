use Rattle.std.proofs.Common.{ℕ, List, subst, length, ap, arith, sym}
use Rattle.std.specs.Prelude.{IsTrue}
use Rattle.std.specs.Str.{is_utf8}
use Rattle.sc_wire.proofs.Numbers.{utf8_true}
use Rattle.sc_wire.proofs.containers.TextWire.put.Goals as goal

pub returns-clause-fits : goal.returns-clause-fits
returns-clause-fits c =
    let utf8 : IsTrue (is_utf8 c.args.self.now) = subst (λ (t : List ℕ). IsTrue (is_utf8 t)) c.as_str.ensures (utf8_true c.as_str.result.now c.as_str.utf8) in
    let e = ap (λ (t : List ℕ). length t) (sym c.as_str.ensures) in
    let v = ap (λ (t : List ℕ). length t) c.as_bytes-bytes.ensures.value in
    (utf8, omega (arith, e, v, c.in_ok-put.ensures.fits, c.as_bytes-bytes.ensures.len))
