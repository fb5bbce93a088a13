use Rattle.sc_main_client.proofs.compiling.compile_with.Goals as goal

pub returns : goal.returns
returns g c = (
  rw (c.as_slice.ensures, c.as_slice-2.ensures) at c.do_compile.ensures.compiles,
  rw c.as_slice-2.ensures at c.do_compile.ensures.runs,
  c.do_compile.ensures.cause,
)
