use Rattle.std.proofs.Common.{◌≡◌, ◌-◌, ◌++◌, append_assoc, ap, ◌∙◌, arith, rules, string_bytes}
use Rattle.std.proofs.Math.ListN.{replicate-append-replicate}
use Rattle.sc_stats.specs.Lines.{spaces}
use Rattle.sc_stats.proofs.lines.push_room.Goals as goal

pub returns : goal.returns
returns c =
    let w = c.args.width in
    let s = c.args.suffix in
    let n = c.args.characters in
    let first : string_bytes c.push_spaces.new.line ≡ string_bytes c.args.line.now ++ spaces (w - n) = search rules in
    let second : string_bytes c.push_spaces-2.new.line ≡ string_bytes c.push_spaces.new.line ++ spaces (s - (n - w)) = search rules in
    second
    ∙ ap (λ t. t ++ spaces (s - (n - w))) first
    ∙ append_assoc (string_bytes c.args.line.now) (spaces (w - n)) (spaces (s - (n - w)))
    ∙ ap (λ t. string_bytes c.args.line.now ++ t) (replicate-append-replicate (w - n) (s - (n - w)) 32 ∙ ap spaces (omega arith))
