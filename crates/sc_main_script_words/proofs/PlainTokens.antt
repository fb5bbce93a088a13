-- The bytes of a token without an escape are its own.
use Rattle.std.proofs.Common.{◌≡◌, ℕ, List, [], ◌∷◌, ◌++◌, true, Some, ap, sym, ◌∙◌, append_assoc}
use Rattle.std.proofs.lemmas.List.{append-nil}
use Rattle.std.specs.List.{list_all}
use Rattle.sc_main_script_words.proofs.Tests.{left_of, right_of}
use Rattle.sc_main_script_words.specs.Fields.{bytes_onto, stands}

pub plain_onto : (sofar word : List ℕ) → list_all stands word ≡ true → bytes_onto sofar word ≡ Some (sofar ++ word)
plain_onto sofar [] all = ap (λ (bytes : List ℕ). Some bytes) (sym (append-nil sofar))
plain_onto sofar (c ∷ word) all =
    let here = left_of (stands c) (list_all stands word) all in
    let rest = right_of (stands c) (list_all stands word) all in
    rw here (plain_onto (sofar ++ c ∷ []) word rest ∙ ap (λ (bytes : List ℕ). Some bytes) (append_assoc sofar (c ∷ []) word))
