-- The script that is made of a number.
use Rattle.std.specs.Prelude.{ℕ, zero, suc, ◌*◌, ◌%◌, List, [], ◌++◌}
use Rattle.sc_main_generate.specs.Draws.{drawn, next}
use Rattle.sc_main_generate.specs.Lines.{ask_line, back_line, head_lines, read_line, run_line, serve_line, step_line}

-- so many runs, from this key on
abbrev pub runs : ℕ → ℕ → List ℕ
runs zero k = []
runs (suc n) k = run_line k ++ runs n (suc k)

-- so many compiles, from this one on, each under a key that is drawn, on four connections in turn
abbrev pub asks : ℕ → ℕ → ℕ → List ℕ
asks zero i x = []
asks (suc n) i x = ask_line (i % 4) (drawn (next x) % 50) ++ asks n (suc i) (next x)

-- the state after so many draws
abbrev pub after : ℕ → ℕ → ℕ
after zero x = x
after (suc n) x = after n (next x)

abbrev pub reads : List ℕ
reads = read_line 0 ++ (read_line 1 ++ (read_line 2 ++ read_line 3))

-- so many steps that are drawn
abbrev pub steps : ℕ → ℕ → List ℕ
steps zero x = []
steps (suc n) x = step_line (drawn (next x) % 5) ++ steps n (next x)

abbrev pub serves : ℕ → List ℕ
serves times = serve_line 0 times ++ (serve_line 1 times ++ (serve_line 2 times ++ serve_line 3 times))

abbrev pub backs : ℕ → List ℕ
backs zero = []
backs (suc n) = back_line ++ backs n

abbrev pub behind_asks : ℕ → ℕ → List ℕ
behind_asks n x = reads ++ (steps (40 * n) x ++ (serves (20 * n) ++ (serves (20 * n) ++ backs (20 * n))))

-- the whole
abbrev pub script : ℕ → List ℕ
script n = head_lines ++ (runs 50 0 ++ (asks n 0 n ++ behind_asks n (after n n)))
