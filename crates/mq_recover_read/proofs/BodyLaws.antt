-- What a body is read as.
use Rattle.std.proofs.Common.{◌≡◌, ℕ, List, [], ◌∷◌, Option, Some, None, Result, Ok, Err, refl, sym, ap, ◌∙◌}
use Rattle.mq_frame.specs.declared.fault.Miss.{Miss}
use Rattle.mq_frame.specs.Reading.{IsBytes}
use Rattle.mq_spec_log.specs.from_record.{WrittenRecord}
use Rattle.mq_spec_log.specs.from_record.Records.{IsBodyOf}
use Rattle.mq_spec_log.specs.from_record.Reading.{Read, record_at}
use Rattle.mq_spec_log.proofs.from_record.BodyLaws.{body_again, is_body}
use Rattle.mq_spec_log.specs.from_calls.{LogRecord}
use Rattle.mq_spec_log.specs.Bodies.{meaning, meaning_of, record_of}

-- a record is read as what it means
pub body_means : (w : WrittenRecord) (body : List ℕ) → IsBodyOf w body → record_of body ≡ meaning w
unfolding record_of
body_means w body h = ap meaning_of (body_again w body h)

none_of : (body : List ℕ) (read : Read) → IsBytes body → record_at body ≡ read → ((w : WrittenRecord) → IsBodyOf w body → ⊥) → meaning_of read ≡ None
none_of body (Ok (w, [])) fits e never = absurd (never w (is_body body w [] fits e refl))
none_of body (Ok (w, byte ∷ bytes)) fits e never = refl
none_of body (Err miss) fits e never = refl

-- a body that is none is read as none
pub body_is_none : (body : List ℕ) → IsBytes body → ((w : WrittenRecord) → IsBodyOf w body → ⊥) → record_of body ≡ None
unfolding record_of
body_is_none body fits never = none_of body (record_at body) fits refl never
