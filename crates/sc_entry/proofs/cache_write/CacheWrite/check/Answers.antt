use Rattle.std.proofs.Common.{◌≡◌, ◌<◌, ◌≤◌, List, false, Some, None, length, sym, subst, ◌∙◌, arith}
use Rattle.sc_entry.specs.declared.object.Object.{Object}
use Rattle.sc_entry.specs.declared.entry_error.PutError.TheVariants.{TooManyObjects}
use Rattle.sc_entry.specs.Entries.{has_name, listed, objects}
use Rattle.sc_entry.specs.EntryAnswers.{put_refusal}
use Rattle.sc_entry.proofs.Reading.{name_utf8}
use Rattle.sc_entry.proofs.Writes.{refused_full, refused_not, positive_of}
use Rattle.sc_entry.proofs.cache_write.CacheWrite.check.Goals as goal

pub returns-else-self-lt65535 : goal.returns-else-self-lt65535
returns-else-self-lt65535 c =
    let other : has_name c.args.name.now (listed (objects c.self.inside.bytes.items)) ≡ false = sym (c.self.invariant.1 c.args.name.now) ∙ sym c.contains.ensures ∙ c.if-contains.false in
    let some : 0 < length c.args.name.now = positive_of (length c.args.name.now) c.is_empty.result c.is_empty.ensures c.if-is_empty.false in
    let short : length c.args.name.now < 65536 = omega (arith, c.if-name-gt65535.false) in
    let full : 65535 ≤ length (listed (objects c.self.inside.bytes.items)) = omega (arith, c.if-self-lt65535.false, c.self.invariant.2) in
    subst (λ (os : List Object). put_refusal c.args.name.now os ≡ Some TooManyObjects) c.self.view_is
    (refused_full c.args.name.now (listed (objects c.self.inside.bytes.items)) other (name_utf8 c.args.name.now some short c.utf8.name) full)

pub returns-then-self-lt65535 : goal.returns-then-self-lt65535
returns-then-self-lt65535 c =
    let other : has_name c.args.name.now (listed (objects c.self.inside.bytes.items)) ≡ false = sym (c.self.invariant.1 c.args.name.now) ∙ sym c.contains.ensures ∙ c.if-contains.false in
    let some : 0 < length c.args.name.now = positive_of (length c.args.name.now) c.is_empty.result c.is_empty.ensures c.if-is_empty.false in
    let short : length c.args.name.now < 65536 = omega (arith, c.if-name-gt65535.false) in
    let room : length (listed (objects c.self.inside.bytes.items)) < 65535 = omega (arith, c.if-self-lt65535.true, c.self.invariant.2) in
    subst (λ (os : List Object). put_refusal c.args.name.now os ≡ None) c.self.view_is
    (refused_not c.args.name.now (listed (objects c.self.inside.bytes.items)) other (name_utf8 c.args.name.now some short c.utf8.name) room)
