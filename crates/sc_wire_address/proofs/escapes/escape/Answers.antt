use Rattle.std.proofs.Common.{sym, ◌∙◌, arith}
use Rattle.sc_wire_address.proofs.Digits.{hex_taken}
use Rattle.sc_wire_address.proofs.escapes.escape.Goals as goal

pub returns-in_ok-byte-in-120-clause-value : goal.returns-in_ok-byte-in-120-clause-value
returns-in_ok-byte-in-120-clause-value c = λ sofar. hex_taken sofar c.args.text.now c.in_ok-byte-in-120.byte (omega arith) (omega arith) (sym c.byte_of.ensures ∙ c.in_ok-byte-in-120.was)
