-- The calls of a device in memory, as a level tells them.
use Rattle.sc_entry.specs.declared.calls.Calls.{Calls as Counted}
use Rattle.sc_model.specs.Devices.{Calls, numbers_of}

abbrev pub calls_of : Counted → Calls
calls_of calls = record { failing = numbers_of calls.failing.keys; made = calls.made }
