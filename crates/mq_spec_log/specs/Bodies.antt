-- The image of the bodies of a log.
use Rattle.std.specs.Prelude.{ℕ, ◌+◌, Bool, true, false, List, [], ◌∷◌, if◌then◌else◌, Option, Some, None, Result, Ok, Err, length}
use Rattle.mq_objects.specs.declared.change.ObjectChange.{ObjectChange}
use Rattle.mq_objects.specs.Defaults.{nothing_defined}
use Rattle.mq_record.specs.from_calls.{Image, LogRecord}
use Rattle.mq_record.specs.from_calls.LogRecordVariants as records
use Rattle.mq_record.specs.from_frame.{Miss}
use Rattle.mq_record.specs.declared.record.WrittenRecord.{WrittenRecord}
use Rattle.mq_record.specs.declared.record.WrittenRecord.TheVariants as written
use Rattle.mq_record.specs.Reading.{record_at}
use Rattle.mq_log.specs.Bodies.{frame}
use Rattle.mq_record.specs.from_calls.State.{Given}
use Rattle.mq_spec_log.specs.Records.{doing}
use Rattle.mq_spec_log.specs.Applies.{Start, applies}
use Rattle.mq_spec_log.specs.Texts.{change_in}

-- ---- the record that a body is

abbrev pub changing : Option ObjectChange → Option LogRecord
changing None = None
changing (Some change) = Some (records.Objects change)

abbrev pub meaning : WrittenRecord → Option LogRecord
meaning (written.Objects operation text) = changing (change_in operation text)
meaning (written.Other r) = Some r

-- all of the body
abbrev pub meaning_of : Result (WrittenRecord × List ℕ) Miss → Option LogRecord
meaning_of (Ok (w, [])) = meaning w
meaning_of (Ok (w, byte ∷ bytes)) = None
meaning_of (Err miss) = None

unfoldable pub record_of : List ℕ → Option LogRecord
record_of body = meaning_of (record_at body)

-- ---- a log

-- nothing is defined, no row stands, nothing is hardened
abbrev pub empty_image : Image
empty_image = record { definitions = nothing_defined; shelves = []; senders = []; receivers = []; incarnation = 0 }

-- the image behind a record, where it applies
abbrev pub behind : Given → Start → Image → Option LogRecord → Option Image
behind g start i None = None
behind g start i (Some r) = if applies g start r i then Some (doing r i) else None

-- what comes of an image that is there, or the place at fault
abbrev pub or_place : ℕ → (Image → Result Image ℕ) → Option Image → Result Image ℕ
or_place place next None = Err place
or_place place next (Some i) = next i

-- the bodies from a place on; the fault is the place of the first body that is no record or doesn't apply, which is
-- its gate's: the number of bytes in front of it
abbrev pub image_from : Given → Start → ℕ → List (List ℕ) → Image → Result Image ℕ
image_from g start place [] i = Ok i
image_from g start place (body ∷ bodies) i = or_place place (image_from g start (place + length (frame body)) bodies) (behind g start i (record_of body))

abbrev pub is_started : Option LogRecord → Bool
is_started (Some (records.Started manager name incarnation)) = true
is_started _ = false

-- a log begins with Started; without a body it has the empty image
abbrev pub begins : List (List ℕ) → Bool
begins [] = true
begins (body ∷ bodies) = is_started (record_of body)

-- the image of a log's bodies, or the place of the first gate at fault
abbrev pub image : Given → Start → List (List ℕ) → Result Image ℕ
image g start bodies = if begins bodies then image_from g start 0 bodies empty_image else Err 0
