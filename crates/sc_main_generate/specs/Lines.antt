-- The lines of a generated script.
use Rattle.std.specs.Prelude.{ℕ, ◌/◌, ◌%◌, if◌then◌else◌, nat_lt, List, ◌++◌, codes, decimal}

-- three digits
abbrev pub digits : ℕ → List ℕ → List ℕ
digits k rest = codes "0" ++ (decimal (k / 10) ++ (decimal (k % 10) ++ rest))

abbrev pub run_line : ℕ → List ℕ
run_line k = codes "run k" ++ digits k (codes " 0 " ++ digits k (codes " - obj=" ++ digits k (codes "\n")))

abbrev pub ask_line : ℕ → ℕ → List ℕ
ask_line conn k = codes "ask " ++ (decimal conn ++ (codes " compile /cc / -- --key k" ++ digits k (codes " --out obj=/o -- a.c\n")))

abbrev pub read_line : ℕ → List ℕ
read_line conn = codes "read " ++ (decimal conn ++ codes " 1000000\n")

abbrev pub back_line : List ℕ
back_line = codes "back 0\n"

-- below four a connection is served, else a handed write goes on
abbrev pub step_line : ℕ → List ℕ
step_line n = if nat_lt n 4 then codes "serve " ++ (decimal n ++ codes "\n") else back_line

abbrev pub serve_line : ℕ → ℕ → List ℕ
serve_line conn times = codes "serve " ++ (decimal conn ++ (codes " " ++ (decimal times ++ codes "\n")))

abbrev pub head_lines : List ℕ
head_lines = codes "script 1\nconns 4\ntokens 2\npolicy l0\nlevel disk 2000 rw\nlevel remote rw\ntool /cc 1 gcc\n"
