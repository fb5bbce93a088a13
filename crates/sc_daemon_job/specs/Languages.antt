-- The language and the compiler that a compile is counted by.
use Rattle.sc_compile_language.specs.Languages.{lang_comp_kind, lang_kind}
use Rattle.sc_model.specs.declared.event.Task.{Task}
use Rattle.sc_stats.specs.Sums.{one_of}
use Rattle.sc_stats.specs.declared.counters.PerLanguageCount.{PerLanguageCount}

-- one compile, by its language's kind, and by its language and compiler
abbrev pub counted_once : Task → PerLanguageCount
counted_once task = record { counts = one_of (lang_kind task.language); adv_counts = one_of (lang_comp_kind task.kind task.language) }
