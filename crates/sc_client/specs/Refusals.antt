-- Why a client's calls answer what they don't.
use Rattle.std.specs.Prelude.{ℕ, List, ◌++◌, codes, if◌then◌else◌}
use Rattle.std.specs.Str.{is_utf8}
use Rattle.sc_command.specs.Refusals.{new_command_text, refusal_text}
use Rattle.sc_command.specs.declared.refusal.NewCommandError.{NewCommandError}
use Rattle.sc_command.specs.declared.refusal.NewCommandError.TheVariants as new_command_errors
use Rattle.sc_entry.specs.declared.stream_error.WriteError.{WriteError}
use Rattle.sc_entry.specs.declared.stream_error.WriteError.TheVariants as write_errors
use Rattle.sc_link.specs.Refusals.{connect_text}
use Rattle.sc_link.specs.declared.link_error.ConnectError.{ConnectError}
use Rattle.sc_link.specs.declared.link_error.ConnectError.TheVariants as connect_errors
use Rattle.sc_wire.specs.declared.error.DecodeError.{DecodeError}
use Rattle.sc_wire.specs.declared.error.DecodeError.TheVariants as decode_errors
use Rattle.sc_wire.specs.declared.frame.FrameError.{FrameError}
use Rattle.sc_wire.specs.declared.frame.FrameError.TheVariants as frame_errors
use Rattle.sc_client.specs.declared.client_error.ClientError.{ClientError}
use Rattle.sc_client.specs.declared.client_error.ClientError.TheVariants as client_errors
use Rattle.sc_client.specs.declared.request_error.Refusal.{Refusal}
use Rattle.sc_client.specs.declared.request_error.Refusal.TheVariants as refusals
use Rattle.sc_client.specs.declared.request_error.RequestError.{RequestError}
use Rattle.sc_client.specs.declared.request_error.RequestError.TheVariants as request_errors

-- what a connection answers again
abbrev pub error_of : Refusal → RequestError
error_of refusals.NoMemory = request_errors.NoMemory
error_of refusals.ReadFault = request_errors.ReadFault
error_of refusals.WriteFault = request_errors.WriteFault

-- a link's refused write
abbrev pub write_refusal : WriteError → RequestError
write_refusal write_errors.NoMemory = request_errors.NoMemory
write_refusal write_errors.WriteFault = request_errors.WriteFault

abbrev pub decode_refusal : DecodeError → RequestError
decode_refusal decode_errors.NoMemory = request_errors.NoMemory
decode_refusal decode_errors.BadFrame = request_errors.BadFrame

abbrev pub frame_refusal : FrameError → RequestError
frame_refusal frame_errors.NoMemory = request_errors.NoMemory
frame_refusal (frame_errors.TooLong n) = request_errors.BadFrame

-- what a client answers for a connection's refusal
abbrev pub of_request : RequestError → ClientError
of_request request_errors.NoMemory = client_errors.NoMemory
of_request request_errors.BadFrame = client_errors.BadFrame
of_request request_errors.EndOfStream = client_errors.EndOfStream
of_request request_errors.ReadFault = client_errors.ReadFault
of_request request_errors.WriteFault = client_errors.WriteFault

-- what it answers for a refused connect
abbrev pub of_connect : ConnectError → ClientError
of_connect connect_errors.NoMemory = client_errors.NoMemory
of_connect connect_errors.LinkFault = client_errors.LinkFault

-- what it answers for a sink's refused write
abbrev pub of_sink : WriteError → ClientError
of_sink write_errors.NoMemory = client_errors.NoMemory
of_sink write_errors.WriteFault = client_errors.OutputFault

-- what it answers where a creator made no command
abbrev pub of_new_command : NewCommandError → ClientError
of_new_command new_command_errors.NoMemory = client_errors.NoMemory
of_new_command new_command_errors.NoChild = client_errors.NoChild

abbrev pub request_text : RequestError → List ℕ
request_text request_errors.NoMemory = codes "out of memory"
request_text request_errors.BadFrame = codes "bad frame"
request_text request_errors.EndOfStream = codes "end of stream"
request_text request_errors.ReadFault = codes "read fault"
request_text request_errors.WriteFault = codes "write fault"

-- the refusal in words; names and reasons stand in it as they came
abbrev pub client_text : ClientError → List ℕ
client_text client_errors.NoMemory = codes "out of memory"
client_text client_errors.BadFrame = codes "bad frame"
client_text client_errors.EndOfStream = codes "end of stream"
client_text client_errors.ReadFault = codes "read fault"
client_text client_errors.WriteFault = codes "write fault"
client_text client_errors.LinkFault = codes "link fault"
client_text (client_errors.TimedOut refused) = codes "Connection to server timed out: " ++ connect_text refused
client_text (client_errors.Unexpected reply) = codes "Unexpected server response!"
client_text (client_errors.NotFound name) = codes "cannot find " ++ name
client_text (client_errors.NotSupported why) = codes "Compiler not supported: " ++ why
client_text client_errors.NoChild = new_command_text new_command_errors.NoChild
client_text (client_errors.Command refused) = refusal_text refused
client_text client_errors.OutputFault = codes "write fault"

-- bytes as a formatter shows them: as they are where they are text
abbrev pub readable : List ℕ → List ℕ
readable bytes = if is_utf8 bytes then bytes else codes "(not UTF-8)"

-- the refusal as a formatter shows it
abbrev pub shown_text : ClientError → List ℕ
shown_text (client_errors.NotFound name) = codes "cannot find " ++ readable name
shown_text (client_errors.NotSupported why) = codes "Compiler not supported: " ++ readable why
shown_text client_errors.NoMemory = client_text client_errors.NoMemory
shown_text client_errors.BadFrame = client_text client_errors.BadFrame
shown_text client_errors.EndOfStream = client_text client_errors.EndOfStream
shown_text client_errors.ReadFault = client_text client_errors.ReadFault
shown_text client_errors.WriteFault = client_text client_errors.WriteFault
shown_text client_errors.LinkFault = client_text client_errors.LinkFault
shown_text (client_errors.TimedOut refused) = client_text (client_errors.TimedOut refused)
shown_text (client_errors.Unexpected reply) = client_text (client_errors.Unexpected reply)
shown_text client_errors.NoChild = client_text client_errors.NoChild
shown_text (client_errors.Command refused) = client_text (client_errors.Command refused)
shown_text client_errors.OutputFault = client_text client_errors.OutputFault
