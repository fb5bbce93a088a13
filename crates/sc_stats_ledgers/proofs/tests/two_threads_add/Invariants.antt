use Rattle.sc_stats_ledgers.proofs.tests.two_threads_add.Given as goal

abbrev pub ghosts-added_by_two : goal.ghosts-added_by_two
ghosts-added_by_two g a = record { names = a.blanks }
