-- How a commit and a backout meet their steps.
use Rattle.std.proofs.Common.{◌≡◌, ℕ, ◌+◌, ◌<◌, ◌≤◌, ◌^◌, Bool, true, false, List, [], ◌∷◌, ◌++◌, refl, ap, arith, sym, subst, ◌∙◌}
use Rattle.std.specs.Prelude.{Option, Some, None, Result, Ok, Err, is_some}
use Rattle.std.proofs.lemmas.List.{append-nil}
use Rattle.mq_base.specs.Outside.{Rose}
use Rattle.mq_disk.specs.declared.cutter.Stop.{Stop}
use Rattle.mq_disk.specs.declared.cutter.Stop.TheVariants as stops
use Rattle.mq_calls.specs.Words.{Reason, Plain, Noted, Do, ManagerValue, MeetsInRoom, StopsAt, connection_at, unit_need, record_size, apply_all, logged, freeze, note_of, forced_calls}
use Rattle.mq_calls.specs.declared.answers.Hconn.{Hconn}
use Rattle.mq_calls.specs.declared.state.Connection.{Connection}
use Rattle.mq_calls.specs.declared.records.LogRecord.{LogRecord}
use Rattle.mq_calls.specs.declared.answers.Answer.TheVariants as answers
use Rattle.mq_calls.specs.declared.commands.Halt.TheVariants as halts
use Rattle.mq_calls.specs.declared.records.LogRecord.TheVariants as records
use Rattle.mq_spec_manager.specs.Words.{for_connection, live_or, mqcmit, mqback, mqdisc}
use Rattle.mq_spec_manager.specs.Units.{adds_of, removes_of, record_of, commit_delta, backout_part}
use Rattle.mq_calls.specs.declared.records.Add.{Add}
use Rattle.mq_calls.specs.declared.records.Remove.{Remove}
use Rattle.mq_log.specs.Force.{Stops}
use Rattle.mq_core.specs.from_record.Room.{Buffered, with_piece}
use Rattle.mq_core.specs.from_record.Records.{record_bytes}
use Rattle.mq_core.specs.from_unit.Forced.{need_of, unit_record}
use Rattle.mq_core.proofs.from_unit.UnitLaws.{unit_needs}
use Rattle.mq_core.specs.declared.parts.StoppedWrite.TheVariants as writes
use Rattle.mq_core.specs.Views.{PartsValue, plain_of, frozen_of, noted, noted_commit}
use Rattle.mq_core.specs.Writes.{ended_part}
use Rattle.mq_core.specs.Ties.{Tied, mode_is_up}
use Rattle.mq_core.specs.Forced.{IsForced, downed}
use Rattle.mq_core.specs.Values.{CoreValue, WritesLog, IsRecordIn, bodies_in, behind_record, pending_record}
use Rattle.mq_core.specs.Calls.{CanGo}
use Rattle.mq_core.proofs.ForceLaws.{frozen_view, tied_downed, stops_at}
use Rattle.mq_core.proofs.PendLaws.{unit_le}
use Rattle.mq_core.proofs.WriteLaws.{writes_at, forced_bodies, stopped_bodies}
use Rattle.mq_ends.specs.Ends.{IfForced, commit_at, back_at}

-- what a unit needs is reserved, and small
pub unit_low : (number : ℕ) (c : Connection) (x : PartsValue) → connection_at number x.desk.live ≡ Some c → mode_is_up x.mode ≡ true → Tied x → (unit_need c.unit ≤ x.log.reserved) × (unit_need c.unit < 2 ^ 32)
unit_low number c x found up t = let le = unit_le number x.desk.live c found in let r = t.reserved up in let w = t.within up in (omega (arith, le, r), omega (arith, le, r, w, t.max))

-- a record that is there is the unit's
record_there : (as_ : List Add) (rs : List Remove) → is_some (record_of as_ rs) ≡ true → record_of as_ rs ≡ Some (records.Unit as_ rs)
record_there [] [] e = absurd cc
record_there [] (r ∷ rs) e = refl
record_there (a ∷ as_) rs e = refl

pub unit_there : (c : Connection) → is_some (record_of (adds_of c.unit) (removes_of c.unit)) ≡ true → record_of (adds_of c.unit) (removes_of c.unit) ≡ Some (unit_record c.unit)
unit_there c e = record_there (adds_of c.unit) (removes_of c.unit) e

pub need_there : (c : Connection) → is_some (record_of (adds_of c.unit) (removes_of c.unit)) ≡ true → unit_need c.unit ≡ 5 + record_size (unit_record c.unit)
need_there c e = sym (unit_needs c.unit) ∙ ap need_of (unit_there c e)

pub none_there : (c : Connection) → is_some (record_of (adds_of c.unit) (removes_of c.unit)) ≡ false → record_of (adds_of c.unit) (removes_of c.unit) ≡ None
none_there c e = by (record_of (adds_of c.unit) (removes_of c.unit)) e
  where
    by : (o : Option LogRecord) → is_some o ≡ false → o ≡ None
    by None e = refl
    by (Some r) e = absurd cc

-- the write ran: what it takes of an armed cut, and how often the disk failed
record RanSo (o : Option LogRecord) (x y : PartsValue) : Type 0 where
  calls : 0 < x.log.armed → forced_calls o + 0 < x.log.armed
  later : x.log.faults ≤ y.log.faults

ran_so : (o : Option LogRecord) (x y : PartsValue) → IfForced o x (Ok tt) y → RanSo o x y
ran_so None x y h = let same = ap (λ (z : PartsValue). z.log.faults) h.1 in record { calls = λ some. some; later = omega (arith, same) }
ran_so (Some r) x y f = record { calls = λ some. let more = f.ends.1 some in omega (arith, more); later = f.later }

pub commit_done : (v new : ManagerValue) (number : ℕ) (ends : Bool) (c : Connection) (x y : PartsValue) → connection_at number v.plain.connections ≡ Some c → plain_of x ≡ v.plain → x.log.faults ≡ v.faults → IfForced (record_of (adds_of c.unit) (removes_of c.unit)) x (Ok tt) y
    → new.plain ≡ apply_all (ended_part ends c).changes (logged (ended_part ends c).forced v.plain) → new.delta ≡ commit_delta c → new.stopped ≡ None → new.faults ≡ y.log.faults → MeetsInRoom v (commit_at number ends v.plain) (Ok (answers.Ok tt)) new
commit_done v new number ends c x y found plain faults f is told stopped failed =
    let ran = ran_so (record_of (adds_of c.unit) (removes_of c.unit)) x y f in
    let armed = ap (λ (p : Plain). p.log.armed) plain in
    let all : new.delta ≡ commit_delta c ++ [] = told ∙ sym (append-nil (commit_delta c)) in
    subst (λ o. MeetsInRoom v (for_connection (live_or o) (λ d. Do (answers.Ok tt) (ended_part ends d ∷ []))) (Ok (answers.Ok tt)) new) (sym found)
    (refl, (λ some. let more = ran.calls (omega (arith, armed, some)) in omega (arith, armed, more)), (let later = ran.later in omega (arith, later, failed, faults)), (λ i. record { plain = is i; delta = all i; stopped = stopped i; faults = new.faults }))

-- a stopped write
stopped_of : (v new : ManagerValue) (number : ℕ) (ends : Bool) (c : Connection) (stop : Stop) → connection_at number v.plain.connections ≡ Some c → is_some (ended_part ends c).forced ≡ true
    → new.plain ≡ freeze (note_of (ended_part ends c) (ended_part ends c).forced) new.plain.log.armed v.plain → new.delta ≡ [] → new.stopped ≡ Some stop
    → Stops v.plain.log.armed (Err stop) new.plain.log.armed → v.faults ≤ new.faults → (stop ≡ stops.Disk → Rose v.faults new.faults) → MeetsInRoom v (commit_at number ends v.plain) (Err (halts.Stopped stop)) new
stopped_of v new number ends c stop found forced plain told stopped ends_so later rose =
    subst (λ o. MeetsInRoom v (for_connection (live_or o) (λ d. Do (answers.Ok tt) (ended_part ends d ∷ []))) (Err (halts.Stopped stop)) new) (sym found)
    (record { part = 0; write = forced; stop = stop_calls (ended_part ends c).forced forced; next = (λ i. record { plain = plain i; delta = told i; stopped = stopped i; faults = new.faults }); later = later; rose = rose })
  where
    stop_calls : (o : Option LogRecord) → is_some o ≡ true → StopsAt stop (forced_calls o) v.plain.log.armed 0 new.plain.log.armed
    stop_calls None e = absurd cc
    stop_calls (Some r) e = stops_at stop v.plain.log.armed new.plain.log.armed ends_so

-- what was stopped has not run
stopped_not : (stop : Stop) (r : Result (Unit {0}) Stop) → r ≡ Err stop → r ≡ Ok tt → ⊥
stopped_not stop r e f = absurd cc

-- a unit's write that was stopped
noted_so : (number : ℕ) (ends : Bool) (c : Connection) (x : PartsValue) → connection_at number x.desk.live ≡ Some c → noted (frozen_of x) (Some (writes.Commit number ends)) ≡ note_of (ended_part ends c) (ended_part ends c).forced
noted_so number ends c x found = ap (noted_commit ends) found

freeze_with : Plain → ℕ → Option Noted → Plain
freeze_with p left note = freeze note left p

frozen_commit : (p q : Plain) (number : ℕ) (ends : Bool) (c : Connection) (r : LogRecord) (stop : Stop) (x y : PartsValue) → mode_is_up x.mode ≡ true → connection_at number x.desk.live ≡ Some c → plain_of x ≡ p → IsForced r x (Err stop) y
    → q ≡ plain_of (downed (writes.Commit number ends) y) → q ≡ freeze (note_of (ended_part ends c) (ended_part ends c).forced) q.log.armed p
unfolding freeze_with
frozen_commit p q number ends c r stop x y up live plain f is =
    let left : y.log.armed ≡ q.log.armed = ap (λ (p : Plain). p.log.armed) (sym is) in
    is ∙ frozen_view (writes.Commit number ends) r x y stop up f ∙ ap (freeze_with (plain_of x) y.log.armed) (noted_so number ends c x live)
    ∙ ap (freeze (note_of (ended_part ends c) (ended_part ends c).forced) y.log.armed) plain
    ∙ ap (λ (n : ℕ). freeze (note_of (ended_part ends c) (ended_part ends c).forced) n p) left

pub commit_stopped : (v new : ManagerValue) (number : ℕ) (ends : Bool) (c : Connection) (stop : Stop) (x y : PartsValue) → mode_is_up x.mode ≡ true → connection_at number v.plain.connections ≡ Some c → connection_at number x.desk.live ≡ Some c → plain_of x ≡ v.plain → x.log.faults ≡ v.faults
    → IfForced (record_of (adds_of c.unit) (removes_of c.unit)) x (Err stop) y → new.plain ≡ plain_of (downed (writes.Commit number ends) y) → new.delta ≡ [] → new.stopped ≡ Some stop → new.faults ≡ y.log.faults
    → MeetsInRoom v (commit_at number ends v.plain) (Err (halts.Stopped stop)) new
commit_stopped v new number ends c stop x y up found live plain faults f is told stopped failed = by (record_of (adds_of c.unit) (removes_of c.unit)) refl f
  where
    by : (o : Option LogRecord) → (ended_part ends c).forced ≡ o → IfForced o x (Err stop) y → MeetsInRoom v (commit_at number ends v.plain) (Err (halts.Stopped stop)) new
    by None e h = absurd (stopped_not stop (Err stop) refl h.0)
    by (Some r) e f =
        let armed : x.log.armed ≡ v.plain.log.armed = ap (λ (p : Plain). p.log.armed) plain in
        let left : y.log.armed ≡ new.plain.log.armed = ap (λ (p : Plain). p.log.armed) (sym is) in
        stopped_of v new number ends c stop found (ap is_some e) (frozen_commit v.plain new.plain number ends c r stop x y up live plain f is)
        told stopped
        (subst (λ (n : ℕ). Stops n (Err stop) new.plain.log.armed) armed (subst (λ (n : ℕ). Stops x.log.armed (Err stop) n) left f.ends))
        (omega (arith, faults, failed, f.later))
        (λ d. subst (λ (n : ℕ). Rose n new.faults) faults (subst (λ (n : ℕ). Rose x.log.faults n) (sym failed) (f.disk (ap (λ (s : Stop). Err s) d))))

pub tied_stopped : (number : ℕ) (ends : Bool) (o : Option LogRecord) (stop : Stop) (x y : PartsValue) → IfForced o x (Err stop) y → Tied x → Tied (downed (writes.Commit number ends) y)
tied_stopped number ends None stop x y h t = absurd (stopped_not stop (Err stop) refl h.0)
tied_stopped number ends (Some r) stop x y f t = tied_downed (writes.Commit number ends) r [] x y stop f t

-- what the log tells of a commit: its record, which was forced or is pending
pub wrote_bodies : (o : Option LogRecord) (x y : PartsValue) → IfForced o x (Ok tt) y → bodies_in y.log ≡ behind_record o (bodies_in x.log)
wrote_bodies None x y h = ap (λ (z : PartsValue). bodies_in z.log) h.1
wrote_bodies (Some r) x y f = forced_bodies r x y f

pub wrote_record : (o : Option LogRecord) (x y : PartsValue) → IfForced o x (Ok tt) y → IsRecordIn o
wrote_record None x y h = tt
wrote_record (Some r) x y f = f.fits

pub commit_writes : (v new : CoreValue) (number : ℕ) (ends : Bool) (c : Connection) → connection_at number v.plain.connections ≡ Some c → IsRecordIn (ended_part ends c).forced → new.log ≡ behind_record (ended_part ends c).forced v.log → WritesLog v (commit_at number ends v.plain) (Ok (answers.Ok tt)) new
commit_writes v new number ends c found is log = writes_at v new number c (λ d. Do (answers.Ok tt) (ended_part ends d ∷ [])) (Ok (answers.Ok tt)) found (log, (is, tt))

pub commit_breaks : (v new : CoreValue) (number : ℕ) (ends : Bool) (c : Connection) (stop : Stop) (x y : PartsValue) → mode_is_up x.mode ≡ true → connection_at number v.plain.connections ≡ Some c → connection_at number x.desk.live ≡ Some c → plain_of x ≡ v.plain → bodies_in x.log ≡ v.log
    → IfForced (record_of (adds_of c.unit) (removes_of c.unit)) x (Err stop) y → new.plain ≡ plain_of (downed (writes.Commit number ends) y) → new.log ≡ bodies_in y.log → WritesLog v (commit_at number ends v.plain) (Err (halts.Stopped stop)) new
commit_breaks v new number ends c stop x y up found live plain bodies f is log = by (record_of (adds_of c.unit) (removes_of c.unit)) refl f
  where
    by : (o : Option LogRecord) → (ended_part ends c).forced ≡ o → IfForced o x (Err stop) y → WritesLog v (commit_at number ends v.plain) (Err (halts.Stopped stop)) new
    by None e h = absurd (stopped_not stop (Err stop) refl h.0)
    by (Some r) e f = writes_at v new number c (λ d. Do (answers.Ok tt) (ended_part ends d ∷ [])) (Err (halts.Stopped stop)) found (record {
      part = 0;
      write = ap is_some e;
      records = subst IsRecordIn (sym e) f.fits;
      plain = frozen_commit v.plain new.plain number ends c r stop x y up live plain f is;
      log = log ∙ stopped_bodies r x y stop f ∙ ap (pending_record (Some r)) bodies ∙ sym (ap (λ (o : Option LogRecord). pending_record o v.log) e);
    })

-- a backout
pub back_done : (v new : ManagerValue) (number : ℕ) (c : Connection) → connection_at number v.plain.connections ≡ Some c → new.plain ≡ apply_all (backout_part c).changes v.plain → new.delta ≡ (backout_part c).delta → new.stopped ≡ None → new.faults ≡ v.faults
    → MeetsInRoom v (back_at number v.plain) (Ok (answers.Ok tt)) new
back_done v new number c found is told stopped failed =
    let all : new.delta ≡ (backout_part c).delta ++ [] = told ∙ sym (append-nil (backout_part c).delta) in
    subst (λ o. MeetsInRoom v (for_connection (live_or o) (λ d. Do (answers.Ok tt) (backout_part d ∷ []))) (Ok (answers.Ok tt)) new) (sym found)
    (refl, (λ some. some), omega (arith, failed), (λ i. record { plain = is i; delta = all i; stopped = stopped i; faults = new.faults }))

-- the connection check passes, and the call goes on by the connection's number
pub commit_is : (hc : Hconn) (p : Plain) → CanGo hc p → commit_at hc.number false p ≡ mqcmit hc p
commit_is hc p can = ap (λ (r : Result Connection Reason). for_connection r (λ c. Do (answers.Ok tt) (ended_part false c ∷ []))) (sym can.same)

pub disconnect_is : (hc : Hconn) (p : Plain) → CanGo hc p → commit_at hc.number true p ≡ mqdisc hc p
disconnect_is hc p can = ap (λ (r : Result Connection Reason). for_connection r (λ c. Do (answers.Ok tt) (ended_part true c ∷ []))) (sym can.same)

pub back_is : (hc : Hconn) (p : Plain) → CanGo hc p → back_at hc.number p ≡ mqback hc p
back_is hc p can = ap (λ (r : Result Connection Reason). for_connection r (λ c. Do (answers.Ok tt) (backout_part c ∷ []))) (sym can.same)

-- the bytes of the record, in a body that was cleared
pub written_is : (r : LogRecord) (c p : Buffered) → c.bytes ≡ [] → p ≡ with_piece (record_bytes r) c → p.bytes ≡ record_bytes r
written_is r c p none e = ap (λ (b : Buffered). b.bytes) e ∙ ap (λ (bs : List ℕ). bs ++ record_bytes r) none

unfoldable pub with_body : Buffered → PartsValue → PartsValue
with_body b x = record x { body = b }
