-- What a client writes of a compile that finished, and the status that it ends with.
use Rattle.std.specs.Prelude.{◌≡◌, ℕ, ℤ, negsuc, List, [], ◌++◌, Option, Some, None, Result, Ok, Err, codes, ◌⊎◌}
use Rattle.std.specs.Fmt.{signed_decimal}
use Rattle.sc_entry.specs.Causes.{Rose}
use Rattle.sc_entry.specs.declared.stream_error.WriteError.{WriteError}
use Rattle.sc_entry.specs.declared.stream_error.WriteError.TheVariants.{NoMemory, WriteFault}
use Rattle.sc_model.specs.declared.message.CompileFinished.{CompileFinished}
use Rattle.sc_client.specs.Outlets.{shown}
use Rattle.sc_client.specs.declared.outlet.Outlet.{Outlet}

-- its own status, -2 where a signal ended it, -3 where neither is known
abbrev pub end_status : Option ℤ → Option ℤ → ℤ
end_status (Some code) signal = code
end_status None (Some signal) = negsuc 1
end_status None None = negsuc 2

abbrev pub end_line : Option ℤ → Option ℤ → List ℕ
end_line (Some code) signal = []
end_line None (Some signal) = codes "sccache: Compiler killed by signal " ++ (signed_decimal signal ++ codes "\n")
end_line None None = codes "sccache: Missing compiler exit status!\n"

-- what goes to standard output: what the compile printed there, and the line on its end
abbrev pub shown_out : Outlet → CompileFinished → List ℕ
shown_out outlet f = shown outlet f.color_mode f.stdout ++ end_line f.retcode f.signal

abbrev pub shown_err : Outlet → CompileFinished → List ℕ
shown_err outlet f = shown outlet f.color_mode f.stderr

-- a front of the bytes was written, or all of them, or none
abbrev pub WritesSome : List ℕ → List ℕ → List ℕ → Type 0
WritesSome bytes before after = (front rest : List ℕ) × (after ≡ before ++ front) × (bytes ≡ front ++ rest)

-- a write is refused only where one of two sinks counted it
abbrev pub EitherCause : {A : Type 0} → ℕ → ℕ → ℕ → ℕ → Result A WriteError → Type 0
EitherCause f g h i (Ok a) = (g ≡ f) × (i ≡ h)
EitherCause f g h i (Err NoMemory) = (g ≡ f) × (i ≡ h)
EitherCause f g h i (Err WriteFault) = Rose f g ⊎ Rose h i
