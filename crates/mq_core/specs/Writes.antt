-- The parts of calls that are written to the log.
use Rattle.std.specs.Prelude.{ℕ, ◌<◌, Bool, true, false, List, [], ◌∷◌, ◌++◌, length, map, flat_map, Option, Some, None}
use Rattle.mq_calls.specs.Words.{Ident, Message, Part, Change, Luw, Among, Plain, sender_or, sender_data, data_settled, settle_by}
use Rattle.mq_calls.specs.declared.records.Add.{Add}
use Rattle.mq_calls.specs.declared.deltas.Did.{Did}
use Rattle.mq_calls.specs.declared.state.Connection.{Connection}
use Rattle.mq_calls.specs.declared.records.LogRecord.{LogRecord}
use Rattle.mq_calls.specs.declared.records.Remove.{Remove}
use Rattle.mq_calls.specs.declared.state.Batch.{Batch}
use Rattle.mq_calls.specs.declared.deltas.Did.TheVariants as did
use Rattle.mq_calls.specs.declared.records.LogRecord.TheVariants as records
use Rattle.mq_calls.specs.declared.deltas.Why.{Why}
use Rattle.mq_calls.specs.State.Change.{Disconnect, CountIdent, Leave, SetSender}
use Rattle.mq_spec_manager.specs.Words.{placed, unit_record, commit_part}
use Rattle.mq_calls.specs.declared.agents.Note.TheVariants as notes
use Rattle.mq_spec_manager.specs.Agents.{prepared_record, prepared_changes, settle_change, settle_did, Landing, Landed, Standing, Absent, InDoubtAt, add_of, land_changes, drop_did}
use Rattle.mq_sides.specs.from_record.Records.{IsRecord}
use Rattle.mq_core.specs.declared.parts.Arrival.{Arrival}

-- where a record is of a channel, the channel has a name
abbrev pub NamesChannel : LogRecord → Type 0
NamesChannel (records.Session channel partner session) = 0 < length channel
NamesChannel (records.Prepared channel unit last queue idents) = 0 < length channel
NamesChannel (records.Resolved channel unit commit operator) = 0 < length channel
NamesChannel (records.Bound channel partner session last) = 0 < length channel
NamesChannel (records.Closed channel session) = 0 < length channel
NamesChannel (records.Received channel unit last adds) = 0 < length channel
NamesChannel (records.SeqSet channel end last) = 0 < length channel
NamesChannel _ = Unit {0}

-- then its fields fit, so that it is read from its bytes (mq_record)
abbrev pub FitsRecord : LogRecord → Type 0
FitsRecord r = NamesChannel r → IsRecord r

-- the record that adds one message
abbrev pub added : List ℕ → Message → LogRecord
added queue m = records.Unit (record { queue = queue; message = m } ∷ []) []

-- a put outside units, as mq_spec_manager's `put_part false` of any connection
abbrev pub now_part : List ℕ → Message → Part
now_part queue m = record { forced = unit_record queue m; changes = CountIdent ∷ placed queue m; delta = did.Placed queue m.ident None ∷ [] }

-- the end of a unit, by which the connection ends too or not
abbrev pub end_changes : Bool → ℕ → List Change
end_changes true number = Disconnect number ∷ []
end_changes false number = []

abbrev pub ended_part : Bool → Connection → Part
ended_part ends c = commit_part (end_changes ends c.number) c

-- rows that go, not for a unit, of which these last
abbrev pub gone_part : List ℕ → List Remove → List Ident → Why → Part
gone_part queue removes idents why = record {
  forced = Some (records.Unit [] removes);
  changes = Leave (Among queue idents) ∷ [];
  delta = map (λ (i : Ident). did.Removed queue i why) idents;
}

-- a unit in doubt is settled, of whose batch these rows were held, as mq_spec_manager's `harden` with Resolved
abbrev pub settled_part : List ℕ → Luw → Bool → Bool → List Remove → Plain → Part
settled_part channel unit commit operator rows p = record {
  forced = Some (records.Resolved channel unit commit operator);
  changes = settle_change commit channel ∷ SetSender channel (data_settled (Some (settle_by commit)) (sender_or (sender_data channel p))) ∷ [];
  delta = map (settle_did commit) rows ++ did.Hardened channel (notes.Resolved unit commit operator) ∷ [];
}

-- a batch becomes the unit in doubt of its channel, as mq_spec_manager's `prepare`
abbrev pub batch_part : List ℕ → ℕ → Batch → Plain → Part
batch_part channel last b p = record {
  forced = Some (prepared_record channel last b);
  changes = prepared_changes channel last b (sender_or (sender_data channel p));
  delta = did.Prepared channel b.unit ∷ [];
}

-- a message that a channel brought, as it is placed
abbrev pub landing_of : Arrival → Landing
landing_of a = record { queue = a.queue; message = a.message; dead = a.dead }

abbrev pub standing_of : Option (List ℕ) → Standing
standing_of None = Absent
standing_of (Some queue) = InDoubtAt queue

-- what each does, adds to the record and tells
abbrev pub arrival_changes : Arrival → List Change
arrival_changes a = land_changes (landing_of a) (standing_of a.dropped)

abbrev pub arrival_adds : Arrival → List Add
arrival_adds a = add_of (landing_of a)

abbrev pub arrival_dids : Arrival → List Did
arrival_dids a = drop_did a.message (standing_of a.dropped) ++ did.Placed a.queue a.message.ident a.dead ∷ []

-- the messages of a batch in order, as mq_spec_manager's `landed` without those that were taken
abbrev pub all_landed : List Arrival → Landed
all_landed landed = record { changes = flat_map arrival_changes landed; adds = flat_map arrival_adds landed; delta = flat_map arrival_dids landed; taken = [] }
