-- What the log tells behind the steps of a call: nothing more where only room was taken, and one record more, or a pending
-- one, behind a forced write.
use Rattle.std.proofs.Common.{◌≡◌, ℕ, Bool, true, false, List, [], ◌∷◌, refl, ap, sym, subst, ◌∙◌}
use Rattle.std.specs.Prelude.{Option, Some, None, Result, Ok, Err, if◌then◌else◌}
use Rattle.mq_disk.specs.declared.cutter.Stop.{Stop}
use Rattle.mq_calls.specs.Words.{Reason, Message, Plain, Part, Step, Noted, Do, connection_at, is_persistent, freeze, note_of, local_of, condition}
use Rattle.mq_calls.specs.declared.records.LogRecord.{LogRecord}
use Rattle.mq_calls.specs.declared.state.Connection.{Connection}
use Rattle.mq_calls.specs.declared.answers.Sent.{Sent}
use Rattle.mq_calls.specs.declared.answers.Answer.{Answer}
use Rattle.mq_calls.specs.declared.commands.Halt.{Halt}
use Rattle.mq_calls.specs.State.Change.{CountIdent}
use Rattle.mq_calls.specs.declared.deltas.Did.TheVariants as did
use Rattle.mq_calls.specs.declared.commands.Halt.TheVariants as halts
use Rattle.mq_spec_manager.specs.Words.{placed, sent_answer, for_connection, live_or}
use Rattle.mq_sides.specs.from_record.Records.{CanBeKept}
use Rattle.mq_log.specs.State.{LogState}
use Rattle.mq_core.specs.Views.{PartsValue, plain_of}
use Rattle.mq_core.specs.Writes.{FitsRecord, added, now_part}
use Rattle.mq_core.specs.Calls.{at_number, now_step}
use Rattle.mq_core.specs.Placing.{arrived_at, put_in_place}
use Rattle.mq_core.specs.Forced.{IsForced, IsExpected, IsPended, IsReserved, HasMoreRoom}
use Rattle.mq_core.specs.Values.{CoreValue, LogBodies, WritesLog, AreRecords, BreaksOff, bodies_in, behind_record, pending_record, wrote_all}
use Rattle.mq_core.proofs.PutLaws.{kept_persistent, due_log}

-- only room was taken
pub roomier_bodies : (x y : PartsValue) → HasMoreRoom x y → bodies_in y.log ≡ bodies_in x.log
roomier_bodies x y h = ap (λ (z : PartsValue). bodies_in z.log) h.same

pub expected_bodies : (queue : List ℕ) (need : ℕ) (x y : PartsValue) → IsExpected queue need x y → bodies_in y.log ≡ bodies_in x.log
expected_bodies queue need x y h = ap (λ (z : PartsValue). bodies_in z.log) h.same

pub pended_bodies : (number : ℕ) (queue : List ℕ) (m : Message) (need : ℕ) (x y : PartsValue) → IsPended number queue m need x y → bodies_in y.log ≡ bodies_in x.log
pended_bodies number queue m need x y h = ap (λ (z : PartsValue). bodies_in z.log) h.same

pub reserved_bodies : (need : ℕ) (x y : PartsValue) → IsReserved need x y → bodies_in y.log ≡ bodies_in x.log
reserved_bodies need x y h = ap (λ (z : PartsValue). bodies_in z.log) h.same

-- a record was forced, or its write was stopped
pub forced_bodies : (r : LogRecord) (x y : PartsValue) → IsForced r x (Ok tt) y → bodies_in y.log ≡ behind_record (Some r) (bodies_in x.log)
forced_bodies r x y f = ap bodies_in f.log

pub stopped_bodies : (r : LogRecord) (x y : PartsValue) (stop : Stop) → IsForced r x (Err stop) y → bodies_in y.log ≡ pending_record (Some r) (bodies_in x.log)
stopped_bodies r x y stop f = ap bodies_in f.log

-- placing leaves the log
pub placed_log : (queue : List ℕ) (m : Message) (x : PartsValue) → (put_in_place queue m x).log ≡ x.log
placed_log queue m x = let y = arrived_at queue m x in due_log (condition (local_of queue y.defs.definitions) m.md.priority (plain_of y)) queue y

-- a call of a live connection
pub writes_at : {T : Type 0} (v new : CoreValue) (number : ℕ) (c : Connection) (call : Connection → Step Reason T) (result : Result T (Halt Reason))
    → connection_at number v.plain.connections ≡ Some c → WritesLog v (call c) result new → WritesLog v (at_number number v.plain call) result new
writes_at v new number c call result e h = subst (λ o. WritesLog v (for_connection (live_or o) call) result new) (sym e) h

-- a step that is the same
pub writes_as : {F T : Type 0} (v new : CoreValue) (s t : Step F T) (result : Result T (Halt F)) → s ≡ t → WritesLog v t result new → WritesLog v s result new
writes_as {F} {T} v new s t result e h = subst (λ (x : Step F T). WritesLog v x result new) (sym e) h

-- a put outside units: a nonpersistent one, a persistent one, and one whose write was stopped
part_if : Bool → List ℕ → Message → Part
part_if b queue m = record { forced = if b then Some (added queue m) else None; changes = CountIdent ∷ placed queue m; delta = did.Placed queue m.ident None ∷ [] }

step_if : Bool → Bool → List ℕ → Message → Step Reason (Answer Sent)
step_if b high queue m = Do (sent_answer high m) (part_if b queue m ∷ [])

pub free_wrote : (queue : List ℕ) (m : Message) (old new : LogBodies) → is_persistent m ≡ false → new ≡ old → (new ≡ wrote_all (now_part queue m ∷ []) old) × AreRecords (now_part queue m ∷ [])
unfolding part_if
free_wrote queue m old new free log = subst (λ (b : Bool). (new ≡ wrote_all (part_if b queue m ∷ []) old) × AreRecords (part_if b queue m ∷ [])) (sym free) (log, (tt, tt))

pub forced_wrote : (queue : List ℕ) (m : Message) (old new : LogBodies) → CanBeKept m → FitsRecord (added queue m) → new ≡ behind_record (Some (added queue m)) old → (new ≡ wrote_all (now_part queue m ∷ []) old) × AreRecords (now_part queue m ∷ [])
unfolding part_if
forced_wrote queue m old new kept fits log = subst (λ (b : Bool). (new ≡ wrote_all (part_if b queue m ∷ []) old) × AreRecords (part_if b queue m ∷ [])) (sym (kept_persistent m kept)) (log, (fits, tt))

note_by : Bool → List ℕ → Message → Option Noted
note_by b queue m = note_of (part_if b queue m) (part_if b queue m).forced

pub stopped_writes : (v new : CoreValue) (high : Bool) (queue : List ℕ) (m : Message) (stop : Stop) → CanBeKept m → FitsRecord (added queue m) → new.plain ≡ freeze (note_of (now_part queue m) (now_part queue m).forced) new.plain.log.armed v.plain
    → new.log ≡ pending_record (Some (added queue m)) v.log → WritesLog v (now_step high queue m) (Err (halts.Stopped stop)) new
unfolding step_if part_if note_by
stopped_writes v new high queue m stop kept fits plain log =
    subst (λ (b : Bool). (new.plain ≡ freeze (note_by b queue m) new.plain.log.armed v.plain) → WritesLog v (step_if b high queue m) (Err (halts.Stopped stop)) new) (sym (kept_persistent m kept))
    (λ is. record { part = 0; write = refl; records = fits; plain = is; log = log }) plain
