-- The keys of a drawn script: what runs under them, and what asks for them.
use Rattle.std.specs.Prelude.{ℕ, ◌/◌, ◌%◌, List, [], ◌∷◌, ◌++◌, None, codes, decimal}
use Rattle.sc_entry.specs.declared.object.Object.{Object}
use Rattle.sc_main_script.specs.declared.run_rule.RunRule.{RunRule}
use Rattle.sc_model.specs.declared.event.Objects.TheVariants.{Collected}
use Rattle.sc_model.specs.declared.event.RunAnswer.TheVariants.{Output}
use Rattle.sc_model.specs.declared.event.Status.TheVariants.{Code}
use Rattle.sc_model.specs.declared.message.Request.{Request}
use Rattle.sc_model.specs.declared.message.Request.TheVariants.{Compile}

-- the three digits of a number below a hundred
abbrev pub digits : ℕ → List ℕ
digits k = codes "0" ++ decimal (k / 10) ++ decimal (k % 10)

abbrev pub key : ℕ → List ℕ
key k = codes "k" ++ digits k

-- what runs under a key leave: status 0, the digits on the first stream and in one object, nothing on the second
abbrev pub object : ℕ → Object
object k = record { name = codes "obj"; mode = None; bytes = digits k }

abbrev pub run : ℕ → RunRule
run k = record {
  key = key k;
  answer = Output (record { output = record { status = Code 0; stdout = digits k; stderr = [] }; objects = Collected (object k ∷ []) });
}

-- the words of a compile under a key
abbrev pub words : ℕ → List (List ℕ)
words k = codes "--key" ∷ key k ∷ codes "--out" ∷ codes "obj=/o" ∷ codes "--" ∷ codes "a.c" ∷ []

abbrev pub compile : ℕ → Request
compile k = Compile (record { exe = codes "/cc"; cwd = codes "/"; args = words k; env_vars = [] })
