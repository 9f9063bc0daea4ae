-- How a manager comes up from an image: a first start and each restart do the same.
use Rattle.std.specs.Prelude.{◌≡◌, ℕ, zero, suc, true, false, List, [], ◌∷◌, Option, None, Some}
use Rattle.std.specs.List.{list_all}
use Rattle.mq_calls.specs.declared.records.LogRecord.{LogRecord}
use Rattle.mq_calls.specs.State.{Plain, Noted, Running, LogState}
use Rattle.mq_calls.specs.declared.state.Batch.{Batch}
use Rattle.mq_calls.specs.Changes.{apply_all}
use Rattle.mq_calls.specs.Steps.{Part, Step, do_part, freeze, note_of, stopped_at, volatile_gone}
use Rattle.mq_calls.specs.Steps.Step.{Refuse, Do}
pub use Rattle.mq_spec_manager.specs.Stops.{restarted, next_started}
use Rattle.mq_calls.specs.Reads.{sender_data}
use Rattle.mq_calls.specs.declared.deltas.Did.TheVariants as did
use Rattle.mq_spec_manager.specs.Agents.{prepared_record, prepared_changes}
use Rattle.mq_sync.specs.Settlement.{sender_or}
pub use Rattle.mq_calls.specs.Images.{begun, raised}
use Rattle.mq_calls.specs.Images.{lasting}
use Rattle.mq_spec_log.specs.Applies.{suits, was_given, idents_in}
use Rattle.mq_spec_log.specs.Records.{doing}
use Rattle.mq_law_log.specs.Keeps.{Keeps}

-- what is left behind a stopped write, wherever the log stands and whatever the clock says
abbrev pub gone : Running → LogState → ℕ → Plain → Plain
gone running log moment p = record (volatile_gone p) { running = running; log = log; moment = moment }

-- A part's write makes a crash harmless: where it succeeds the image is as the record says; where it is stopped, a restart that finds
-- the record has that image, and one that doesn't has the image before; whenever it comes.
pub record IsHarmless (part : Part) (p : Plain) : Type 0 where
  pub keeps : Keeps part p
  pub found : (r : LogRecord) (left started : ℕ) → part.forced ≡ Some r
      → (suits p.given r (lasting p) ≡ true)
      × (lasting (restarted true started (note_of part part.forced) (freeze (note_of part part.forced) left p)) ≡ raised started (doing r (lasting p)))
  pub anytime : (r : LogRecord) (running : Running) (log : LogState) (moment : ℕ) → part.forced ≡ Some r → lasting (apply_all part.changes (gone running log moment p)) ≡ doing r (lasting p)
  pub lost : (left started : ℕ) → lasting (restarted false started (note_of part part.forced) (freeze (note_of part part.forced) left p)) ≡ raised started (lasting p)

-- each ident of what is forced, if it is of this manager, was given in an incarnation that has begun
abbrev pub IsGivenIn : Option LogRecord → Plain → Type 0
IsGivenIn None p = Unit {0}
IsGivenIn (Some r) p = list_all (was_given p.given (lasting p)) (idents_in r) ≡ true

-- so it is with each part of a call, at the state that it meets
abbrev pub AllHarmless : List Part → Plain → Type 0
AllHarmless [] p = Unit {0}
AllHarmless (part ∷ parts) p = IsHarmless part p × IsGivenIn part.forced p × AllHarmless parts (do_part part p)

abbrev pub StepHarmless : {F T : Type 0} → Step F T → Plain → Type 0
StepHarmless (Refuse reason) p = Unit {0}
StepHarmless (Do reply parts) p = AllHarmless parts p

-- what prepares a batch
abbrev pub prepare_part : Batch → ℕ → Plain → Part
prepare_part b last p = record {
  forced = Some (prepared_record b.channel last b);
  changes = prepared_changes b.channel last b (sender_or (sender_data b.channel p));
  delta = did.Prepared b.channel b.unit ∷ [];
}

-- a call whose n-th write is stopped: the state before that part, the one that it would have come to, and its note
abbrev pub before_part : ℕ → List Part → Plain → Plain
before_part n [] p = p
before_part zero (part ∷ parts) p = p
before_part (suc n) (part ∷ parts) p = before_part n parts (do_part part p)

abbrev pub behind_part : ℕ → List Part → Plain → Plain
behind_part n [] p = p
behind_part zero (part ∷ parts) p = do_part part p
behind_part (suc n) (part ∷ parts) p = behind_part n parts (do_part part p)

abbrev pub note_at : ℕ → List Part → Option Noted
note_at n [] = None
note_at zero (part ∷ parts) = note_of part part.forced
note_at (suc n) (part ∷ parts) = note_at n parts

-- a restart has the image before the stopped write where it doesn't find it, and the one behind it where it does
pub record Recovers (n : ℕ) (parts : List Part) (left started : ℕ) (p : Plain) : Type 0 where
  pub lost : lasting (restarted false started (note_at n parts) (stopped_at n parts left p)) ≡ raised started (lasting (before_part n parts p))
  pub found : lasting (restarted true started (note_at n parts) (stopped_at n parts left p)) ≡ raised started (lasting (behind_part n parts p))
