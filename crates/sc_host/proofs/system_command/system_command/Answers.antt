use Rattle.std.proofs.Common.{◌≡◌, true, rules}
use Rattle.sc_host.proofs.system_command.system_command.Goals as goal

pub built-requires : goal.built-requires
built-requires c =
    let are : c.are_all_texts.result ≡ true = search rules in c.are_all_texts.ensures.0 are

pub returns-in-Ok : goal.returns-in-Ok
returns-in-Ok c =
    let are : c.are_all_texts.result ≡ true = search rules in (c.in-Ok.ensures, c.are_all_texts.ensures.0 are)
