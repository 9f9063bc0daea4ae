-- A record whose fields fit is read from its bytes.
use Rattle.std.proofs.Common.{◌≡◌}
use Rattle.std.specs.Prelude.{Some}
use Rattle.mq_objects.specs.declared.object.Object.TheVariants as objects
use Rattle.mq_objects.specs.declared.change.ObjectChange.{ObjectChange}
use Rattle.mq_objects.specs.declared.change.ObjectChange.TheVariants as changes
use Rattle.mq_calls.specs.declared.records.LogRecord.{LogRecord}
use Rattle.mq_calls.specs.declared.records.LogRecord.TheVariants as records
use Rattle.mq_law_log.specs.from_record.Records.{record_bytes, operation_of}
use Rattle.mq_calls.specs.Sizes.{change_text}
use Rattle.mq_law_log.specs.from_spec_log.Texts.{change_in}
use Rattle.mq_law_log.specs.from_spec_log.Bodies.{record_of}
use Rattle.mq_law_log.proofs.from_spec_log.BodyLaws.{record_back}
use Rattle.mq_law_image.specs.Values.{IsChangeText, IsReadable}
use Rattle.mq_law_image.proofs.Deleting.{delete_read}
use Rattle.mq_law_image.proofs.Recording.{objects_back}
use Rattle.mq_law_image.proofs.Objecting.{manager_read, alias_read, remote_read, process_read, channel_read, local_read}

change_read : (change : ObjectChange) → IsChangeText change → change_in (operation_of change) (change_text change) ≡ Some change
change_read (changes.Set (objects.Local q)) h = local_read q h
change_read (changes.Set (objects.Alias q)) h = alias_read q h
change_read (changes.Set (objects.Remote q)) h = remote_read q h
change_read (changes.Set (objects.Channel c)) h = channel_read c h
change_read (changes.Set (objects.Process q)) h = process_read q h
change_read (changes.SetManager m) h = manager_read m h
change_read (changes.Delete s) h = delete_read s h

pub readable : (r : LogRecord) → IsReadable r → record_of (record_bytes r) ≡ Some r
readable (records.Objects change) h = objects_back change h.0 (change_read change h.1)
readable (records.Started manager name incarnation) h = record_back (records.Started manager name incarnation) tt h
readable (records.Unit adds removes) h = record_back (records.Unit adds removes) tt h
readable (records.Session channel partner session) h = record_back (records.Session channel partner session) tt h
readable (records.Prepared channel unit last queue idents) h = record_back (records.Prepared channel unit last queue idents) tt h
readable (records.Resolved channel unit commit operator) h = record_back (records.Resolved channel unit commit operator) tt h
readable (records.Bound channel partner session last) h = record_back (records.Bound channel partner session last) tt h
readable (records.Closed channel session) h = record_back (records.Closed channel session) tt h
readable (records.Received channel unit last adds) h = record_back (records.Received channel unit last adds) tt h
readable (records.SeqSet channel end last) h = record_back (records.SeqSet channel end last) tt h
readable (records.Moved from ident to message) h = record_back (records.Moved from ident to message) tt h
