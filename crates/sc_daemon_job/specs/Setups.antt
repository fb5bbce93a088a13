-- What a daemon is: how replies are spelled, what its parts tell, its levels and its limits.
use Rattle.std.specs.Prelude.{ℕ, Bool, ◌==◌, List, Option, map, slice_index_or}
use Rattle.std.specs.Str.Lossy.{utf8_lossy}
use Rattle.sc_compile_language.specs.Languages.{lang_comp_kind, lang_kind}
use Rattle.sc_entry.specs.Entries.{entry, objects}
use Rattle.sc_entry.specs.declared.object.FileObjectSource.{FileObjectSource}
use Rattle.sc_model.specs.Notes.{is_note}
use Rattle.sc_model.specs.Script.{Codec, Compilers, Control, Scheduler, Setup}
use Rattle.sc_model.specs.declared.event.DistAnswer.{DistAnswer}
use Rattle.sc_model.specs.declared.event.KeyStep.{KeyStep}
use Rattle.sc_model.specs.declared.event.Parsed.{Parsed}
use Rattle.sc_model.specs.declared.event.RunAnswer.{RunAnswer}
use Rattle.sc_model.specs.declared.level.LevelFacts.{LevelFacts}
use Rattle.sc_model.specs.declared.level.Policy.{Policy}
use Rattle.sc_model.specs.declared.message.ColorMode.TheVariants.{Auto}
use Rattle.sc_model.specs.declared.message.Compile.{Compile}
use Rattle.sc_model.specs.declared.message.Response.{Response}
use Rattle.sc_stats.specs.declared.counters.LevelStats.{LevelStats}

-- what a store tells of itself: where it is, what type it has, its base directories, whether it is to keep entries of the
-- preprocessor, and the most that it may take, where that is known
pub record StoreTold : Type 0 where
  pub location : List ℕ
  pub type_name : List ℕ
  pub basedirs : List (List ℕ)
  pub flag : Bool
  pub max_size : Option ℕ

-- What a daemon is made of: what its store tells of itself, the counters that its levels begin with, its levels, its limits, how a
-- reply is spelled, and what its compilers, its workshop and its distributed client answer, where they tell that.
pub record Config : Type 0 where
  pub store : StoreTold
  pub counters : List LevelStats
  pub levels : List LevelFacts
  pub policy : Policy
  pub tokens : ℕ
  pub limit : ℕ
  pub payload : Response → List ℕ
  pub reads : Compile → Option Parsed
  pub keys : Compile → Control → Option KeyStep
  pub pretty : Compile → List ℕ
  pub scheduler : Scheduler
  pub workshop : List ℕ → Option (List (List ℕ × RunAnswer)) → List FileObjectSource → Option RunAnswer
  pub placing : List ℕ → Option (Option (List (List ℕ)))
  pub dist : List ℕ → Option (List (List ℕ × DistAnswer)) → List FileObjectSource → Option DistAnswer

-- its spellings: entries have one
abbrev pub codec_of : (Response → List ℕ) → Codec
codec_of payload = record { payload = payload; entry = entry; objects = objects }

-- a preprocessor entry is valid where its first byte is `P`
abbrev pub begins_with_p : List ℕ → Bool
begins_with_p bytes = slice_index_or bytes 0 0 == 80

-- What its compilers tell: their messages have no colors of their own, and a line that is a notification begins with `note:`.
abbrev pub compilers_of : Config → Compilers
compilers_of c = record {
  reads = c.reads;
  keys = c.keys;
  color = λ r. Auto;
  pretty = c.pretty;
  is_note = λ r line. is_note line;
  is_valid = begins_with_p;
  kind_text = λ task. lang_kind task.language;
  full_text = λ task. lang_comp_kind task.kind task.language;
}

-- The daemon. Statistics read base directories that are no UTF-8 with replacement characters.
abbrev pub setup : Config → Setup
setup c = record {
  codec = codec_of c.payload;
  compilers = compilers_of c;
  scheduler = c.scheduler;
  workshop = c.workshop;
  placing = c.placing;
  dist = c.dist;
  store = record { location = c.store.location; type_name = c.store.type_name; basedirs = c.store.basedirs; basedir_texts = map utf8_lossy c.store.basedirs; flag = c.store.flag; max_size = c.store.max_size };
  levels = c.levels;
  policy = c.policy;
  tokens = c.tokens;
  limit = c.limit;
}
