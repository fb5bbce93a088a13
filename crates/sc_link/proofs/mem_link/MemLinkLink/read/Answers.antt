use Rattle.sc_entry.proofs.Telling.{reads_front}
use Rattle.sc_link.proofs.mem_link.MemLinkLink.read.Goals as goal

pub returns-clause-told : goal.returns-clause-told
returns-clause-told c =
    reads_front c.args.self.now.place c.min-n.result c.args.self.now.bytes c.as_slice.result.now c.copy_from_slice.new.self c.args.buffer.now
    c.as_slice.ensures c.min-n.ensures c.copy_from_slice.ensures.after
