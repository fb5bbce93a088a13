-- What refusals are called.
use Rattle.std.specs.Prelude.{ℕ, List, codes}
use Rattle.sc_link.specs.declared.link_error.ConnectError.{ConnectError}
use Rattle.sc_link.specs.declared.link_error.ConnectError.TheVariants as connect_errors
use Rattle.sc_link.specs.declared.link_error.ListenError.{ListenError}
use Rattle.sc_link.specs.declared.link_error.ListenError.TheVariants as listen_errors

abbrev pub connect_text : ConnectError → List ℕ
connect_text connect_errors.NoMemory = codes "out of memory"
connect_text connect_errors.LinkFault = codes "link fault"

abbrev pub accept_text : List ℕ
accept_text = codes "accept fault"

abbrev pub listen_text : ListenError → List ℕ
listen_text listen_errors.NoMemory = codes "out of memory"
listen_text listen_errors.AddrInUse = accept_text
listen_text listen_errors.AcceptFault = accept_text
