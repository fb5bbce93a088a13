use Rattle.std.proofs.Common.{◌≡◌, false, Some, codes, rules, ◌∙◌}
use Rattle.std.specs.Str.{bytes_eq}
use Rattle.sc_compile.specs.Plain.{is_optional}
use Rattle.sc_compile.proofs.Outputs.{one_more}
use Rattle.sc_compile.proofs.arguments.outputs.Goals as goal

pub loop-word-smaller : goal.loop-word-smaller
loop-word-smaller c =
    let other : bytes_eq c.in-Some.word.now (codes "--") ≡ false = search rules in
    let out : is_optional c.loop-word.optional c.in-Some.word.now ≡ Some c.in-Some-is_optional.next = search rules in
    (one_more c.loop-word.optional c.in-Some-is_optional.next c.loop-word.outputs c.in_ok-output.field-0 c.in-Some.word.now c.in_ok-pair.pair.now c.loop-word.words c.next.new.self c.word.new.self c.in-Some.ensures other out c.in_ok-pair.ensures (search rules)).less

pub loop-word-preserved : goal.loop-word-preserved
loop-word-preserved c =
    let other : bytes_eq c.in-Some.word.now (codes "--") ≡ false = search rules in
    let out : is_optional c.loop-word.optional c.in-Some.word.now ≡ Some c.in-Some-is_optional.next = search rules in
    let more = one_more c.loop-word.optional c.in-Some-is_optional.next c.loop-word.outputs c.in_ok-output.field-0 c.in-Some.word.now c.in_ok-pair.pair.now c.loop-word.words c.next.new.self c.word.new.self c.in-Some.ensures other out c.in_ok-pair.ensures (search rules) in
    record {
      read = rw c.in_ok-push.ensures.ok (more.read ∙ c.loop-word.invariant.read);
      named = rw c.in_ok-push.ensures.ok (c.in_ok-output.ensures.named);
    }
