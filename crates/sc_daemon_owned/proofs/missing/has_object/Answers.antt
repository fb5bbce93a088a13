use Rattle.sc_daemon_owned.proofs.Finding.{by_failure, by_fault, by_memory, by_ok}
use Rattle.sc_daemon_owned.proofs.missing.has_object.Goals as goal

pub returns-in-Ok : goal.returns-in-Ok
returns-in-Ok c = by_ok c.args.name.now c.args.entry.now _ c.in-Ok.ensures.answer

pub returns-in-Err-DecompressionFailure : goal.returns-in-Err-DecompressionFailure
returns-in-Err-DecompressionFailure c = by_failure c.args.name.now c.args.entry.now c.in-Err-DecompressionFailure.field-0 c.in-Err-DecompressionFailure.field-0-is c.in-Err-DecompressionFailure.ensures.answer

pub returns-in-Err-NoMemory : goal.returns-in-Err-NoMemory
returns-in-Err-NoMemory c = by_memory c.args.name.now c.args.entry.now c.in-Err-NoMemory.field-0 c.in-Err-NoMemory.field-0-is c.in-Err-NoMemory.ensures.answer

pub returns-in-Err-WriteFault : goal.returns-in-Err-WriteFault
returns-in-Err-WriteFault c = by_fault c.args.name.now c.args.entry.now c.in-Err-WriteFault.field-0 c.in-Err-WriteFault.field-0-is c.in-Err-WriteFault.ensures.answer
