use Rattle.sc_main.proofs.running.done.Goals as goal

pub returns-in-Compile : goal.returns-in-Compile
returns-in-Compile g c = let e = c.run_compile.ensures.ends in rw c.in-Compile.is (record { came = e.0; shown = e.1.0; between = e.1.1.0; later = e.1.1.1; over = rw (← c.as_slice-in-Compile.ensures) e.1.1.2; ends = e.1.2 })
