-- What was printed is a report of a drive by the script.
use Rattle.std.proofs.Common.{◌≡◌, ℕ, List, length, map, reverse, Result, Ok, Err, ◌∙◌, subst}
use Rattle.std.specs.Prelude.{IfOk}
use Rattle.sc_daemon.specs.Daemons.{Kept, script_of as given_of}
use Rattle.sc_daemon.specs.Drives.{result_of}
use Rattle.sc_daemon.specs.declared.driven.Driven.{Driven}
use Rattle.sc_main_memory.specs.Sizes.{sizes_of}
use Rattle.sc_model.specs.Headline.{Headline}
use Rattle.sc_model.specs.Machine.{shown_levels}
use Rattle.sc_model.specs.Trace.{reservations, reserved_at}
use Rattle.sc_model.specs.declared.event.Step.{Step}
use Rattle.sc_daemon_owned.specs.State.{reserved_in}
use Rattle.sc_main.specs.Scripted.{Begins, ReportsAs, ReportsDrive, last_sizes, shown_of}
use Rattle.sc_main.specs.declared.printing.Extent.{Extent}
use Rattle.sc_main.specs.declared.printing.Extent.TheVariants.{Totals, Whole}
use Rattle.sc_main_script.specs.declared.script.Script.{Script}

-- a drive by what a script says is one by the script
same_headline : (s : Script) (first last : Kept) (driven : Driven) (inputs : List (List ℕ)) (steps : List Step) → inputs ≡ s.inputs → steps ≡ s.steps
    → Headline (given_of first inputs) first.state.world (reverse steps) (reverse driven.trace) last.state.world (result_of last driven)
    → Headline (given_of first s.inputs) first.state.world (reverse s.steps) (reverse driven.trace) last.state.world (result_of last driven)
same_headline s first last driven inputs steps same_inputs same_steps headline =
    subst (λ (ps : List Step). Headline (given_of first s.inputs) first.state.world (reverse ps) (reverse driven.trace) last.state.world (result_of last driven)) same_steps
    (subst (λ (is : List (List ℕ)). Headline (given_of first is) first.state.world (reverse steps) (reverse driven.trace) last.state.world (result_of last driven)) same_inputs headline)

pub reports : (extent : Extent) (s : Script) (text : List ℕ) (first last : Kept) (driven : Driven) (inputs : List (List ℕ)) (steps : List Step) → Begins s first → inputs ≡ s.inputs → steps ≡ s.steps
    → Headline (given_of first inputs) first.state.world (reverse steps) (reverse driven.trace) last.state.world (result_of last driven)
    → text ≡ shown_of extent (map (λ c. c.end) driven.conns) driven.trace (last_sizes last driven.trace) (shown_levels last.state.config.policy last.levels) (length driven.background) last.free last.stats → ReportsAs extent s text
reports Whole s text first last driven inputs steps begins same_inputs same_steps headline report =
    record { first = first; last = last; driven = driven; begins = begins; headline = same_headline s first last driven inputs steps same_inputs same_steps headline; report = report }
reports Totals s text first last driven inputs steps begins same_inputs same_steps headline report =
    record { first = first; last = last; driven = driven; begins = begins; headline = same_headline s first last driven inputs steps same_inputs same_steps headline; report = report }

-- the report of a drive whose daemon reserves what happened says
pub drove : (extent : Extent) (first last : Kept) (inputs : List (List ℕ)) (steps : List Step) (text : List ℕ) (driven : Driven)
    → Headline (given_of first inputs) first.state.world (reverse steps) (reverse driven.trace) last.state.world (result_of last driven)
    → ((l : ℕ) → reserved_in last.state l ≡ reserved_at l (reservations (reverse driven.trace)))
    → text ≡ shown_of extent (map (λ c. c.end) driven.conns) driven.trace (sizes_of (reserved_in last.state) last.state.world.levels) (shown_levels last.state.config.policy last.levels) (length driven.background) last.free last.stats
    → ReportsDrive extent first last inputs steps text
drove extent first last inputs steps text driven headline reserved report = record {
  driven = driven;
  headline = headline;
  report = report ∙ (λ i. shown_of extent (map (λ c. c.end) driven.conns) driven.trace (sizes_of (λ l. reserved l i) last.state.world.levels) (shown_levels last.state.config.policy last.levels) (length driven.background) last.free last.stats);
}

pub if_ok : {A E : Type 0} {P Q : A → Type 0} (r : Result A E) → IfOk r P → ((a : A) → P a → Q a) → IfOk r Q
if_ok (Ok a) p f = f a p
if_ok (Err e) p f = tt
