-- Whether a run may be stored, as a word and as what it says.
use Rattle.std.specs.Prelude.{Bool, true, false}
use Rattle.sc_compile_traits.specs.declared.control.Cacheable.{Cacheable}
use Rattle.sc_compile_traits.specs.declared.control.Cacheable.TheVariants.{Yes, No}

abbrev pub cacheable_if : Bool → Cacheable
cacheable_if true = Yes
cacheable_if false = No

abbrev pub is_cacheable : Cacheable → Bool
is_cacheable Yes = true
is_cacheable No = false
