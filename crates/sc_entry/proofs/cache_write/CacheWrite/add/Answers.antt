use Rattle.std.proofs.Common.{◌≡◌, List, None, ap, subst, sym, ◌∙◌, ◌++◌, ◌∷◌, []}
use Rattle.sc_entry.specs.declared.object.Object.{Object}
use Rattle.sc_entry.specs.Entries.{listed, objects}
use Rattle.sc_entry.specs.EntryAnswers.{put_refusal}
use Rattle.sc_entry.proofs.Writes.{long_entry, written_more, kept_more}
use Rattle.sc_entry.proofs.cache_write.CacheWrite.add.Goals as goal

pub set_count-requires : goal.set_count-requires
set_count-requires c =
    let o : Object = record { name = c.args.name.now; mode = c.args.mode; bytes = c.args.bytes.now } in
    long_entry c.self.inside.bytes.items c.extend.new.out.items [] c.self.inside.names c.extend.new.names c.self.inside.count o c.self.invariant c.in-Ok.ensures.spelled

pub invariant_of-self : goal.invariant_of-self
invariant_of-self c =
    let o : Object = record { name = c.args.name.now; mode = c.args.mode; bytes = c.args.bytes.now } in
    let free : put_refusal c.args.name.now (listed (objects c.self.inside.bytes.items)) ≡ None = subst (λ (os : List Object). put_refusal c.args.name.now os ≡ None) (sym c.self.view_is) c.requires in
    kept_more c.self.inside.bytes.items c.extend.new.out.items c.set_count.new.bytes.items c.self.inside.names c.extend.new.names c.self.inside.count o c.self.invariant
    (written_more c.self.inside.bytes.items c.extend.new.out.items c.set_count.new.bytes.items c.self.inside.names c.extend.new.names c.self.inside.count o c.self.invariant free
    c.in-Ok.ensures.fits.0 c.in-Ok.ensures.fits.1 c.in-Ok.ensures.spelled c.set_count.ensures) c.in-Ok.ensures.named

pub returns-in-Ok-clause-ok : goal.returns-in-Ok-clause-ok
returns-in-Ok-clause-ok c =
    let o : Object = record { name = c.args.name.now; mode = c.args.mode; bytes = c.args.bytes.now } in
    let free : put_refusal c.args.name.now (listed (objects c.self.inside.bytes.items)) ≡ None = subst (λ (os : List Object). put_refusal c.args.name.now os ≡ None) (sym c.self.view_is) c.requires in
    ap listed (written_more c.self.inside.bytes.items c.extend.new.out.items c.set_count.new.bytes.items c.self.inside.names c.extend.new.names c.self.inside.count o c.self.invariant free
    c.in-Ok.ensures.fits.0 c.in-Ok.ensures.fits.1 c.in-Ok.ensures.spelled c.set_count.ensures) ∙ ap (λ (os : List Object). os ++ (o ∷ [])) c.self.view_is
