-- What channel ends harden beside their messages.
use Rattle.std.specs.Prelude.{ℕ, Bool, true, false, List, [], ◌∷◌, ◌++◌, Some, map, filter, flat_map}
use Rattle.mq_sc_apply.specs.from_calls.Words.{Holder, sender_or, receiver_or, data_settled, settle_by, End, sender_data, receiver_data, Plain, Change, Queue, HeldBy, Step, Part, Do, held_by, Row}
use Rattle.mq_sc_apply.specs.from_calls.{Did, Note, Remove}
use Rattle.mq_heads.specs.from_message.HolderVariants as holders
use Rattle.mq_sc_apply.specs.from_sync.EndVariants as ends
use Rattle.mq_sc_apply.specs.from_calls.NoteVariants as notes
use Rattle.mq_sc_apply.specs.from_calls.DidVariants as did
use Rattle.mq_sc_apply.specs.from_calls.WhyVariants as whys
use Rattle.mq_sc_apply.specs.from_calls.LogRecordVariants as records
use Rattle.mq_sc_apply.specs.from_calls.State.Change.{Leave, Release, SetSender, SetReceiver}
use Rattle.mq_spec_manager.specs.Words.{Never}

-- Harden. The rows that a holder has, queue by queue.
abbrev pub held_on : Holder → Queue → List Remove
held_on holder q = map (λ (row : Row). record { queue = q.name; ident = row.message.ident }) (filter (λ (row : Row). held_by holder row.by) q.rows)

abbrev pub held_rows : Holder → Plain → List Remove
held_rows holder p = flat_map (held_on holder) p.queues

-- a unit in doubt is settled: its rows go, or are free again
abbrev pub settle_change : (commit : Bool) → List ℕ → Change
settle_change true channel = Leave (HeldBy (holders.Batch channel))
settle_change false channel = Release (HeldBy (holders.Batch channel)) false

abbrev pub settle_did : (commit : Bool) → Remove → Did
settle_did true r = did.Removed r.queue r.ident whys.Sent
settle_did false r = did.Released r.queue r.ident

-- an operator sets the last number; at a sender the next session tells its partner to take it over
abbrev pub set_last : End → ℕ → List ℕ → Plain → Change
set_last ends.Sender last channel p = SetSender channel (record (sender_or (sender_data channel p)) { last = last; force = true })
set_last ends.Receiver last channel p = SetReceiver channel (record (receiver_or (receiver_data channel p)) { last = last })

-- what each note forces and changes
abbrev pub harden_part : List ℕ → Note → Plain → Part
harden_part channel (notes.Session partner session) p = record {
  forced = Some (records.Session channel partner session);
  changes = SetSender channel (record (sender_or (sender_data channel p)) { partner = partner; session = session }) ∷ [];
  delta = did.Hardened channel (notes.Session partner session) ∷ [];
}
harden_part channel (notes.Resolved unit commit operator) p = record {
  forced = Some (records.Resolved channel unit commit operator);
  changes = settle_change commit channel ∷ SetSender channel (data_settled (Some (settle_by commit)) (sender_or (sender_data channel p))) ∷ [];
  delta = map (settle_did commit) (held_rows (holders.Batch channel) p) ++ did.Hardened channel (notes.Resolved unit commit operator) ∷ [];
}
harden_part channel (notes.Bound partner session last) p = record {
  forced = Some (records.Bound channel partner session last);
  changes = SetReceiver channel (record (receiver_or (receiver_data channel p)) { partner = partner; session = session; closed = false; last = last }) ∷ [];
  delta = did.Hardened channel (notes.Bound partner session last) ∷ [];
}
harden_part channel (notes.Closed session) p = record {
  forced = Some (records.Closed channel session);
  changes = SetReceiver channel (record (receiver_or (receiver_data channel p)) { closed = true }) ∷ [];
  delta = did.Hardened channel (notes.Closed session) ∷ [];
}
harden_part channel (notes.SeqSet end last) p = record {
  forced = Some (records.SeqSet channel end last);
  changes = set_last end last channel p ∷ [];
  delta = did.Hardened channel (notes.SeqSet end last) ∷ [];
}

abbrev pub harden : List ℕ → Note → Plain → Step Never (Unit {0})
harden channel note p = Do tt (harden_part channel note p ∷ [])
