use Rattle.sc_disk_reopen.proofs.Stopping.{refusing_written}
use Rattle.sc_disk_reopen.proofs.stops_of_writer.Goals as goal

pub returns : goal.returns
returns g c = λ f. refusing_written (g.F.FileWriter.wrote f)
