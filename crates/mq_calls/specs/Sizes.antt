-- How many bytes records take in the log.
use Rattle.std.specs.Prelude.{ℕ, ◌+◌, ◌*◌, List, Option, Some, None, length, sum_by}
use Rattle.mq_calls.specs.Terms.{Message, Dest, Add, ObjectChange, LogRecord}
use Rattle.mq_resolve.specs.from_objects.Names.{name_of, subject_name}
use Rattle.mq_resolve.specs.from_objects.Attributes.{define_text, manager_text, delete_text}
use Rattle.mq_resolve.specs.from_objects.ObjectChangeVariants as changes
use Rattle.mq_calls.specs.declared.records.LogRecord.TheVariants as records

-- two names where a message has a route
abbrev pub route_size : Option Dest → ℕ
route_size None = 0
route_size (Some dest) = 96

abbrev pub message_size : Message → ℕ
message_size m = 354 + length m.body + route_size m.route

abbrev pub add_size : Add → ℕ
add_size a = 48 + message_size a.message

-- the text of a change of objects
abbrev pub change_text : ObjectChange → List ℕ
change_text (changes.Set object) = define_text object (name_of object)
change_text (changes.SetManager m) = manager_text m
change_text (changes.Delete subject) = delete_text subject (subject_name subject)

-- the bytes of a record's body
abbrev pub record_size : LogRecord → ℕ
record_size (records.Started manager name incarnation) = 58
record_size (records.Objects change) = 6 + length (change_text change)
record_size (records.Unit adds removes) = 9 + sum_by add_size adds + 65 * length removes
record_size (records.Session channel partner session) = 77
record_size (records.Prepared channel unit last queue idents) = 93 + 17 * length idents
record_size (records.Resolved channel unit commit operator) = 39
record_size (records.Bound channel partner session last) = 81
record_size (records.Closed channel session) = 29
record_size (records.Received channel unit last adds) = 45 + sum_by add_size adds
record_size (records.SeqSet channel end last) = 26
record_size (records.Moved from ident to message) = 114 + message_size message

-- with its length and the next gate
abbrev pub need : LogRecord → ℕ
need r = 5 + record_size r
