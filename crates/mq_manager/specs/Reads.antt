-- What must hold of a record beside its fields so that a later start reads it from its bytes: its channel, if it is of one, has a
-- name; the text of what it changes of objects is read; its session is below 2^61.
use Rattle.std.specs.Prelude.{ℕ, ◌<◌, ◌^◌, nat_lt, Bool, true, false, ◌&&◌, ◌||◌, List, length, Option, Some, None}
use Rattle.mq_calls.specs.declared.records.LogRecord.{LogRecord}
use Rattle.mq_calls.specs.declared.records.LogRecord.TheVariants as records
use Rattle.mq_calls.specs.declared.agents.Note.{Note}
use Rattle.mq_calls.specs.declared.agents.Note.TheVariants as notes
use Rattle.mq_calls.specs.Words.{Part, Step}
use Rattle.mq_law_image.specs.Values.{IsChangeText}
use Rattle.mq_law_manager.specs.Forced.{AllForce, StepForces}

abbrev pub CanBeRead : LogRecord → Type 0
CanBeRead (records.Started manager name incarnation) = ⊥
CanBeRead (records.Objects change) = IsChangeText change
CanBeRead (records.Session channel partner session) = (0 < length channel) × (session < 2 ^ 61)
CanBeRead (records.Prepared channel unit last queue idents) = 0 < length channel
CanBeRead (records.Resolved channel unit commit operator) = 0 < length channel
CanBeRead (records.Bound channel partner session last) = 0 < length channel
CanBeRead (records.Closed channel session) = 0 < length channel
CanBeRead (records.Received channel unit last adds) = 0 < length channel
CanBeRead (records.SeqSet channel end last) = 0 < length channel
CanBeRead _ = Unit {0}

-- what is forced, if anything
abbrev pub CanBeReadIn : Option LogRecord → Type 0
CanBeReadIn None = Unit {0}
CanBeReadIn (Some r) = CanBeRead r

-- of all parts of a call
abbrev pub AllCanBeRead : List Part → Type 0
AllCanBeRead parts = AllForce CanBeReadIn parts

abbrev pub StepCanBeRead : {F T : Type 0} → Step F T → Type 0
StepCanBeRead step = StepForces CanBeReadIn step

-- the session of a note, if it begins one, is low
abbrev pub IsLowNote : Note → Type 0
IsLowNote (notes.Session partner session) = session < 2 ^ 61
IsLowNote _ = Unit {0}

-- it closes a session, or settles a unit in doubt
abbrev pub IsEnding : Note → Type 0
IsEnding (notes.Resolved unit commit operator) = Unit {0}
IsEnding (notes.Closed session) = Unit {0}
IsEnding _ = ⊥

abbrev pub is_ending : Note → Bool
is_ending (notes.Resolved unit commit operator) = true
is_ending (notes.Closed session) = true
is_ending _ = false

-- so the code asks: a channel has a name, and what it hardens is read
abbrev pub has_name : List ℕ → Bool
has_name channel = nat_lt 0 (length channel)

abbrev pub is_low : Note → Bool
is_low (notes.Session partner session) = nat_lt session (2 ^ 61)
is_low _ = true

-- what can be closed or settled has a name
abbrev pub can_harden : List ℕ → Note → Bool
can_harden channel note = is_ending note || (has_name channel && is_low note)
