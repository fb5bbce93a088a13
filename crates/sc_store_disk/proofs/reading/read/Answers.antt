use Rattle.std.proofs.Common.{refl, sym, ap, ◌∙◌, Some}
use Rattle.sc_store_disk.proofs.Looking.{gets-steady, read-hit, read-miss, unread-steady}
use Rattle.sc_store_disk.proofs.reading.read.Goals as goal

pub returns-in-Ok-clause-steady : goal.returns-in-Ok-clause-steady
returns-in-Ok-clause-steady g c = λ mode capacity. gets-steady mode capacity _ _ c.args.now c.args.cache.now.store c.get.new.self.store c.keeps.ensures.distinct c.in-Ok.ensures.ok

pub returns-in-Ok-clause-answer : goal.returns-in-Ok-clause-answer
returns-in-Ok-clause-answer g c = (
  refl,
  λ told. let gets = c.in-Ok.ensures.ok in
      read-hit c.args.part c.args.path.now _ c.args.now c.args.cache.now.store c.get.new.self.store c.keeps.ensures.distinct gets told ∙ ap Some (sym (c.from_vec.ensures ∙ ap (λ v. v.items) c.into_inner.ensures)),
)

pub returns-in-Err-FileNotInCache-clause-answer : goal.returns-in-Err-FileNotInCache-clause-answer
returns-in-Err-FileNotInCache-clause-answer g c = let e = c.in-Err-FileNotInCache.ensures.err in
    read-miss c.args.part c.args.path.now c.args.now e.0 c.args.cache.now.store c.get.new.self.store c.in-Err-FileNotInCache.field-0 c.in-Err-FileNotInCache.field-0-is e.1 c.in-Err-FileNotInCache.ensures.cause

pub returns-in-Err-Io-clause-steady : goal.returns-in-Err-Io-clause-steady
returns-in-Err-Io-clause-steady g c = λ mode capacity. let e = c.in-Err-Io.ensures.err in
    unread-steady mode capacity _ _ c.args.now e.0 c.args.cache.now.store c.get.new.self.store c.keeps.ensures.distinct e.1

pub returns-in-Err-NoMemory-clause-steady : goal.returns-in-Err-NoMemory-clause-steady
returns-in-Err-NoMemory-clause-steady g c = λ mode capacity. let e = c.in-Err-NoMemory.ensures.err in
    unread-steady mode capacity _ _ c.args.now e.0 c.args.cache.now.store c.get.new.self.store c.keeps.ensures.distinct e.1

pub returns-in-Err-FileNotInCache-clause-steady : goal.returns-in-Err-FileNotInCache-clause-steady
returns-in-Err-FileNotInCache-clause-steady g c = λ mode capacity. let e = c.in-Err-FileNotInCache.ensures.err in
    unread-steady mode capacity _ _ c.args.now e.0 c.args.cache.now.store c.get.new.self.store c.keeps.ensures.distinct e.1
