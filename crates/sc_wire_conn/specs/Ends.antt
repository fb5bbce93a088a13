-- How the end of a connection is told in code.
use Rattle.sc_wire_conn.specs.declared.end.End.{End as Told}
use Rattle.sc_wire_conn.specs.declared.end.End.TheVariants as told
use Rattle.sc_model.specs.Script.{BadFrame, End, EndInFrame, IsEnded, IsOpen, ReplyTooLong}

abbrev pub end_of : Told → End
end_of told.Open = IsOpen
end_of told.Ended = IsEnded
end_of told.EndInFrame = EndInFrame
end_of told.BadFrame = BadFrame
end_of (told.ReplyTooLong size) = ReplyTooLong size
