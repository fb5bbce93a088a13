use Rattle.sc_store_disk.proofs.Preparing.{opens, prepared-moves, refused-entries, refused-evicts, refused-moves}
use Rattle.sc_store_disk.proofs.Rooms.{stays}
use Rattle.sc_store_disk.proofs.reserving.prepare.Goals as goal

pub returns-in-Ok-clause-moved : goal.returns-in-Ok-clause-moved
returns-in-Ok-clause-moved g c = λ told. let p = c.in-Ok.ensures.ok in
    prepared-moves c.args.cache.now.store c.prepare_add.new.self.store c.keeps.ensures.sound c.keeps.ensures.distinct c.keeps.ensures.placed c.in-Ok.entry _ c.args.size c.args.now p.0 p.1 told

pub returns-in-Ok-clause-entry : goal.returns-in-Ok-clause-entry
returns-in-Ok-clause-entry g c = λ mode capacity. let p = c.in-Ok.ensures.ok in
    opens mode capacity c.args.cache.now.store c.prepare_add.new.self.store c.in-Ok.entry _ c.args.size c.args.now p.0 c.keeps.ensures.sound c.keeps.ensures.divided c.keeps.ensures.numbers c.keeps-in-Ok.ensures.numbers p.1

pub returns-in-Err-Io-clause-moved : goal.returns-in-Err-Io-clause-moved
returns-in-Err-Io-clause-moved g c = λ told. let p = c.in-Err-Io.ensures.err in
    refused-moves c.args.cache.now.store c.prepare_add.new.self.store c.keeps.ensures.sound c.keeps.ensures.distinct c.keeps.ensures.placed c.in-Err-Io.field-0 _ c.args.size p.0 c.in-Err-Io.field-0-is p.1 told

pub returns-in-Err-Io-clause-entry : goal.returns-in-Err-Io-clause-entry
returns-in-Err-Io-clause-entry g c = λ mode capacity. let p = c.in-Err-Io.ensures.err in
    refused-entries mode capacity c.args.cache.now.store c.prepare_add.new.self.store c.in-Err-Io.field-0 _ c.args.size p.0 c.keeps.ensures.sound p.1

pub returns-in-Err-NoMemory-clause-kept : goal.returns-in-Err-NoMemory-clause-kept
returns-in-Err-NoMemory-clause-kept g c = λ mode capacity. let p = c.in-Err-NoMemory.ensures.err in
    refused-entries mode capacity c.args.cache.now.store c.prepare_add.new.self.store c.in-Err-NoMemory.field-0 _ c.args.size p.0 c.keeps.ensures.sound p.1

pub returns-in-Err-NoMemory-clause-evicts : goal.returns-in-Err-NoMemory-clause-evicts
returns-in-Err-NoMemory-clause-evicts g c = λ mode. let p = c.in-Err-NoMemory.ensures.err in
    refused-evicts c.args.cache.now.store c.prepare_add.new.self.store c.keeps.ensures.sound c.keeps.ensures.distinct c.keeps.ensures.placed mode c.in-Err-NoMemory.field-0 _ c.args.size p.0 p.1

pub returns-in-Ok-clause-stays : goal.returns-in-Ok-clause-stays
returns-in-Ok-clause-stays g c = λ mode capacity. stays mode capacity c.args.cache.now.store c.prepare_add.new.self.store _ c.in-Ok.ensures.ok.1.disk

pub returns-in-Err-FileTooLarge-clause-stays : goal.returns-in-Err-FileTooLarge-clause-stays
returns-in-Err-FileTooLarge-clause-stays g c = λ mode capacity. stays mode capacity c.args.cache.now.store c.prepare_add.new.self.store _ c.in-Err-FileTooLarge.ensures.err.1.disk

pub returns-in-Err-Reserved-clause-stays : goal.returns-in-Err-Reserved-clause-stays
returns-in-Err-Reserved-clause-stays g c = λ mode capacity. stays mode capacity c.args.cache.now.store c.prepare_add.new.self.store _ c.in-Err-Reserved.ensures.err.1.disk

pub returns-in-Err-Io-clause-stays : goal.returns-in-Err-Io-clause-stays
returns-in-Err-Io-clause-stays g c = λ mode capacity. stays mode capacity c.args.cache.now.store c.prepare_add.new.self.store _ c.in-Err-Io.ensures.err.1.disk

pub returns-in-Err-NoMemory-clause-stays : goal.returns-in-Err-NoMemory-clause-stays
returns-in-Err-NoMemory-clause-stays g c = λ mode capacity. stays mode capacity c.args.cache.now.store c.prepare_add.new.self.store _ c.in-Err-NoMemory.ensures.err.1.disk
