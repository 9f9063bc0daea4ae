-- A record of a change of objects is read from its bytes where its text is read as the change.
use Rattle.std.proofs.Common.{◌≡◌, ◌<◌, ◌^◌, [], length, sym, ap, ◌∙◌}
use Rattle.std.specs.Prelude.{Some}
use Rattle.std.proofs.lemmas.List.{append-nil}
use Rattle.mq_objects.specs.declared.change.ObjectChange.{ObjectChange}
use Rattle.mq_calls.specs.declared.records.LogRecord.TheVariants as records
use Rattle.mq_law_log.specs.from_record.WrittenRecordVariants as written
use Rattle.mq_law_log.specs.from_record.Records.{record_bytes, operation_of}
use Rattle.mq_law_log.specs.from_record.Reading.{record_at}
use Rattle.mq_law_log.proofs.from_record.KindLaws.{record_again}
use Rattle.mq_calls.specs.Sizes.{change_text}
use Rattle.mq_law_log.specs.from_spec_log.Texts.{change_in}
use Rattle.mq_law_log.specs.from_spec_log.Bodies.{changing, meaning_of, record_of}

pub objects_back : (change : ObjectChange) → length (change_text change) < 2 ^ 32 → change_in (operation_of change) (change_text change) ≡ Some change → record_of (record_bytes (records.Objects change)) ≡ Some (records.Objects change)
unfolding record_of
objects_back change fits e =
    ap meaning_of (ap record_at (sym (append-nil (record_bytes (records.Objects change)))) ∙ record_again (written.Objects (operation_of change) (change_text change)) [] fits) ∙ ap changing e
