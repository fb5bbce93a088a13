use Rattle.std.proofs.Common.{refl}
use Rattle.sc_store_disk.proofs.Commits.{cause-io, cause-reserved, cause-too_large, commit-closes, commits-done, commits-io, commits-nothing, commits-reserved, commits-too_large, refused-closes}
use Rattle.sc_store_disk.proofs.Growing.{grows-done, grows-io, grows-nothing, grows-reserved, grows-too_large}
use Rattle.sc_store_disk.proofs.Rooms.{stays}
use Rattle.sc_store_disk.proofs.filling.commit.Goals as goal

pub returns-in-Ok-clause-closed : goal.returns-in-Ok-clause-closed
returns-in-Ok-clause-closed g c = λ mode capacity. let p = c.in-Ok.ensures.ok in
    commit-closes mode capacity c.args.cache.now.store c.commit.new.self.store c.args.entry p.0 c.args.now p.1 c.requires c.keeps.ensures.sound c.keeps.ensures.numbers p.2 c.commit.ensures.closed

pub returns-in-Ok-clause-committed : goal.returns-in-Ok-clause-committed
returns-in-Ok-clause-committed g c = λ mode capacity. let p = c.in-Ok.ensures.ok in
    commits-done mode capacity c.args.cache.now.store c.commit.new.self.store c.args.entry c.args.now c.requires c.keeps.ensures.sound c.keeps.ensures.distinct c.commit.ensures.closed p.0 p.1 p.2

pub returns-in-Err-FileTooLarge-clause-closed : goal.returns-in-Err-FileTooLarge-clause-closed
returns-in-Err-FileTooLarge-clause-closed g c = λ mode capacity. let p = c.in-Err-FileTooLarge.ensures.err in
    refused-closes mode capacity c.args.cache.now.store c.commit.new.self.store c.args.entry c.in-Err-FileTooLarge.field-0 c.args.now p.0 p.1 p.2 c.requires c.keeps.ensures.sound c.keeps.ensures.numbers p.3 c.commit.ensures.closed

pub returns-in-Err-FileTooLarge-clause-committed : goal.returns-in-Err-FileTooLarge-clause-committed
returns-in-Err-FileTooLarge-clause-committed g c = λ mode capacity. let p = c.in-Err-FileTooLarge.ensures.err in
    commits-too_large mode capacity c.args.cache.now.store c.commit.new.self.store c.args.entry c.args.now c.requires c.keeps.ensures.sound c.keeps.ensures.distinct c.commit.ensures.closed c.in-Err-FileTooLarge.field-0 p.0 p.1 p.2 c.in-Err-FileTooLarge.field-0-is p.3

pub returns-in-Err-Reserved-clause-closed : goal.returns-in-Err-Reserved-clause-closed
returns-in-Err-Reserved-clause-closed g c = λ mode capacity. let p = c.in-Err-Reserved.ensures.err in
    refused-closes mode capacity c.args.cache.now.store c.commit.new.self.store c.args.entry c.in-Err-Reserved.field-0 c.args.now p.0 p.1 p.2 c.requires c.keeps.ensures.sound c.keeps.ensures.numbers p.3 c.commit.ensures.closed

pub returns-in-Err-Reserved-clause-committed : goal.returns-in-Err-Reserved-clause-committed
returns-in-Err-Reserved-clause-committed g c = λ mode capacity. let p = c.in-Err-Reserved.ensures.err in
    commits-reserved mode capacity c.args.cache.now.store c.commit.new.self.store c.args.entry c.args.now c.requires c.keeps.ensures.sound c.keeps.ensures.distinct c.commit.ensures.closed c.in-Err-Reserved.field-0 p.0 p.1 p.2 c.in-Err-Reserved.field-0-is p.3

pub returns-in-Err-Io-clause-closed : goal.returns-in-Err-Io-clause-closed
returns-in-Err-Io-clause-closed g c = λ mode capacity. let p = c.in-Err-Io.ensures.err in
    refused-closes mode capacity c.args.cache.now.store c.commit.new.self.store c.args.entry c.in-Err-Io.field-0 c.args.now p.0 p.1 p.2 c.requires c.keeps.ensures.sound c.keeps.ensures.numbers p.3 c.commit.ensures.closed

pub returns-in-Err-Io-clause-committed : goal.returns-in-Err-Io-clause-committed
returns-in-Err-Io-clause-committed g c = λ mode capacity. let p = c.in-Err-Io.ensures.err in
    commits-io mode capacity c.args.cache.now.store c.commit.new.self.store c.args.entry c.args.now c.requires c.keeps.ensures.sound c.keeps.ensures.distinct c.commit.ensures.closed c.in-Err-Io.field-0 p.0 p.1 p.2 c.in-Err-Io.field-0-is p.3

pub returns-in-Err-NoMemory-clause-closed : goal.returns-in-Err-NoMemory-clause-closed
returns-in-Err-NoMemory-clause-closed g c = λ mode capacity. let p = c.in-Err-NoMemory.ensures.err in
    refused-closes mode capacity c.args.cache.now.store c.commit.new.self.store c.args.entry c.in-Err-NoMemory.field-0 c.args.now p.0 p.1 p.2 c.requires c.keeps.ensures.sound c.keeps.ensures.numbers p.3 c.commit.ensures.closed

pub returns-in-Err-FileTooLarge-clause-cause : goal.returns-in-Err-FileTooLarge-clause-cause
returns-in-Err-FileTooLarge-clause-cause g c = λ mode. let p = c.in-Err-FileTooLarge.ensures.err in
    cause-too_large mode c.args.cache.now.store.capacity c.args.cache.now.store c.commit.new.self.store c.args.entry c.args.now c.requires c.keeps.ensures.sound c.keeps.ensures.distinct c.commit.ensures.closed c.in-Err-FileTooLarge.field-0 p.0 p.1 p.2 refl c.in-Err-FileTooLarge.field-0-is p.3

pub returns-in-Err-Reserved-clause-cause : goal.returns-in-Err-Reserved-clause-cause
returns-in-Err-Reserved-clause-cause g c = λ mode. let p = c.in-Err-Reserved.ensures.err in
    cause-reserved mode c.args.cache.now.store.capacity c.args.cache.now.store c.commit.new.self.store c.args.entry c.args.now c.requires c.keeps.ensures.sound c.keeps.ensures.distinct c.commit.ensures.closed c.in-Err-Reserved.field-0 p.0 p.1 p.2 refl c.in-Err-Reserved.field-0-is p.3

pub returns-in-Err-Io-clause-cause : goal.returns-in-Err-Io-clause-cause
returns-in-Err-Io-clause-cause g c = λ mode. let p = c.in-Err-Io.ensures.err in
    cause-io mode c.args.cache.now.store.capacity c.args.cache.now.store c.commit.new.self.store c.args.entry c.args.now c.requires c.keeps.ensures.sound c.keeps.ensures.distinct c.commit.ensures.closed c.in-Err-Io.field-0 p.0 p.1 p.2 c.in-Err-Io.field-0-is p.3

pub returns-in-Err-NoMemory-clause-kept : goal.returns-in-Err-NoMemory-clause-kept
returns-in-Err-NoMemory-clause-kept g c = λ mode capacity. let p = c.in-Err-NoMemory.ensures.err in
    commits-nothing mode capacity c.args.cache.now.store c.commit.new.self.store c.args.entry c.args.now c.requires c.keeps.ensures.sound c.keeps.ensures.distinct c.commit.ensures.closed c.in-Err-NoMemory.field-0 p.0 p.1 p.2 p.3

pub returns-in-Ok-clause-grown : goal.returns-in-Ok-clause-grown
returns-in-Ok-clause-grown g c = λ mode. let p = c.in-Ok.ensures.ok in
    grows-done mode c.args.cache.now.store c.commit.new.self.store c.args.entry c.args.now c.requires c.keeps.ensures.sound c.keeps.ensures.distinct c.keeps.ensures.placed c.commit.ensures.closed p.0 p.1 p.2

pub returns-in-Err-FileTooLarge-clause-grown : goal.returns-in-Err-FileTooLarge-clause-grown
returns-in-Err-FileTooLarge-clause-grown g c = λ mode. let p = c.in-Err-FileTooLarge.ensures.err in
    grows-too_large mode c.args.cache.now.store c.commit.new.self.store c.args.entry c.args.now c.requires c.keeps.ensures.sound c.keeps.ensures.distinct c.keeps.ensures.placed c.commit.ensures.closed c.in-Err-FileTooLarge.field-0 p.0 p.1 p.2 c.in-Err-FileTooLarge.field-0-is p.3

pub returns-in-Err-Reserved-clause-grown : goal.returns-in-Err-Reserved-clause-grown
returns-in-Err-Reserved-clause-grown g c = λ mode. let p = c.in-Err-Reserved.ensures.err in
    grows-reserved mode c.args.cache.now.store c.commit.new.self.store c.args.entry c.args.now c.requires c.keeps.ensures.sound c.keeps.ensures.distinct c.keeps.ensures.placed c.commit.ensures.closed c.in-Err-Reserved.field-0 p.0 p.1 p.2 c.in-Err-Reserved.field-0-is p.3

pub returns-in-Err-Io-clause-grown : goal.returns-in-Err-Io-clause-grown
returns-in-Err-Io-clause-grown g c = λ mode. let p = c.in-Err-Io.ensures.err in
    grows-io mode c.args.cache.now.store c.commit.new.self.store c.args.entry c.args.now c.requires c.keeps.ensures.sound c.keeps.ensures.distinct c.keeps.ensures.placed c.commit.ensures.closed c.in-Err-Io.field-0 p.0 p.1 p.2 c.in-Err-Io.field-0-is p.3

pub returns-in-Err-NoMemory-clause-not_grown : goal.returns-in-Err-NoMemory-clause-not_grown
returns-in-Err-NoMemory-clause-not_grown g c = λ mode. let p = c.in-Err-NoMemory.ensures.err in
    grows-nothing mode c.args.cache.now.store c.commit.new.self.store c.args.entry c.args.now c.requires c.keeps.ensures.sound c.keeps.ensures.distinct c.keeps.ensures.placed c.commit.ensures.closed c.in-Err-NoMemory.field-0 p.0 p.1 p.2 p.3

pub returns-in-Ok-clause-stays : goal.returns-in-Ok-clause-stays
returns-in-Ok-clause-stays g c = λ mode capacity. let p = c.in-Ok.ensures.ok in stays mode capacity c.args.cache.now.store c.commit.new.self.store _ p.2.disk

pub returns-in-Err-FileTooLarge-clause-stays : goal.returns-in-Err-FileTooLarge-clause-stays
returns-in-Err-FileTooLarge-clause-stays g c = λ mode capacity. let p = c.in-Err-FileTooLarge.ensures.err in stays mode capacity c.args.cache.now.store c.commit.new.self.store _ p.3.disk

pub returns-in-Err-Reserved-clause-stays : goal.returns-in-Err-Reserved-clause-stays
returns-in-Err-Reserved-clause-stays g c = λ mode capacity. let p = c.in-Err-Reserved.ensures.err in stays mode capacity c.args.cache.now.store c.commit.new.self.store _ p.3.disk

pub returns-in-Err-Io-clause-stays : goal.returns-in-Err-Io-clause-stays
returns-in-Err-Io-clause-stays g c = λ mode capacity. let p = c.in-Err-Io.ensures.err in stays mode capacity c.args.cache.now.store c.commit.new.self.store _ p.3.disk

pub returns-in-Err-NoMemory-clause-stays : goal.returns-in-Err-NoMemory-clause-stays
returns-in-Err-NoMemory-clause-stays g c = λ mode capacity. let p = c.in-Err-NoMemory.ensures.err in stays mode capacity c.args.cache.now.store c.commit.new.self.store _ p.3.disk
