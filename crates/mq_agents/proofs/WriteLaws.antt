-- Records that channel ends force: what stands behind them, and what a stopped one leaves.
use Rattle.std.proofs.Common.{◌≡◌, ℕ, ◌+◌, ◌-◌, ◌<◌, ◌≤◌, Bool, true, false, inl, inr, List, [], ◌∷◌, length, refl, ap, arith, sym, subst, ◌∙◌}
use Rattle.std.specs.Prelude.{Option, Some, None, Result, Ok, Err, OnOk, is_some, not}
use Rattle.std.proofs.lemmas.List.{append-nil}
use Rattle.mq_base.specs.Outside.{Rose}
use Rattle.mq_disk.specs.declared.cutter.Stop.{Stop}
use Rattle.mq_disk.specs.declared.cutter.Stop.TheVariants as stops
use Rattle.mq_sync.specs.declared.data.End.TheVariants as sync_ends
use Rattle.mq_log.specs.State.{LogState, Appended}
use Rattle.mq_log.specs.Force.{Stops}
use Rattle.mq_record.specs.Records.{record_bytes}
use Rattle.mq_calls.specs.Words.{Plain, Part, Change, ManagerValue, ReceiverData, Step, Wants, MeetsDone, MeetsInRoom, MeetsOrWants, Refuse, Do, sender_or, sender_data, receiver_or, receiver_data, Noted, need, logged, apply, apply_all, freeze, note_of}
use Rattle.mq_calls.specs.declared.deltas.Did.{Did}
use Rattle.mq_calls.specs.declared.agents.Note.{Note}
use Rattle.mq_calls.specs.declared.records.LogRecord.{LogRecord}
use Rattle.mq_calls.specs.declared.commands.Halt.{Halt}
use Rattle.mq_calls.specs.declared.agents.AgentStop.{AgentStop}
use Rattle.mq_calls.specs.declared.agents.Note.TheVariants as notes
use Rattle.mq_calls.specs.declared.commands.Halt.TheVariants as halts
use Rattle.mq_calls.specs.declared.deltas.Did.TheVariants as did
use Rattle.mq_calls.specs.Meeting.Wants.{Anywhere}
use Rattle.mq_spec_manager.specs.Words.{Never}
use Rattle.mq_calls.specs.declared.agents.AgentStop.TheVariants as agent_stops
use Rattle.mq_core.specs.declared.parts.Mode.TheVariants as modes
use Rattle.mq_spec_manager.specs.Agents.{CanHarden, harden, harden_part}
use Rattle.mq_core.specs.declared.parts.ChannelEnds.{ChannelEnds}
use Rattle.mq_core.specs.declared.parts.StoppedWrite.{StoppedWrite}
use Rattle.mq_core.specs.declared.parts.StoppedWrite.TheVariants as writes
use Rattle.mq_core.specs.Views.{PartsValue, plain_of, frozen_of, channels_of, noted}
use Rattle.mq_core.specs.Writes.{FitsRecord}
use Rattle.mq_core.specs.Ties.{EndsReady, Tied, mode_is_up}
use Rattle.mq_core.specs.Forced.{IsForced, HasMoreRoom, KeepsSeats, downed, roomier_ends}
use Rattle.mq_core.specs.Values.{CoreValue, LogBodies, WritesLog, IsRecordIn, AreRecords, bodies_in, behind_record, pending_record, wrote_all}
use Rattle.mq_core.proofs.WriteLaws.{roomier_bodies}
use Rattle.mq_core.proofs.PutLaws.{more_room, tied_roomier, roomier_view}
use Rattle.mq_place.specs.Rooms.{RoomStays, RowsKept}
use Rattle.mq_record.specs.Room.{Buffered}
use Rattle.mq_get.specs.Rooms.{IsRoomy}
use Rattle.mq_core.proofs.ForceLaws.{forced_view, frozen_view, tied_where, tied_downed, stops_at}
use Rattle.mq_agents.specs.Ends.{halt_of, stopped_agent}
use Rattle.mq_agents.specs.Written.{IsAside, IsWhole, IsLogged, IsUnlogged, IsWritten, Lacks, Writes, WantsNone, downed_if, drawn, drawn_if, drawn_need, is_live, agent_of, stop_of, with_senders, with_receivers, note_record, noted_change, noted_sender, noted_receiver, IsSenderNote, IsReceiverNote}
use Rattle.mq_agents.specs.declared.hardening.Unwritten.{Unwritten}
use Rattle.mq_agents.specs.declared.hardening.Unwritten.TheVariants as unwritten
use Rattle.mq_agents.specs.Ends.{by_agent}
use Rattle.mq_calls.specs.Words.{set_sender, set_receiver}
use Rattle.mq_calls.specs.declared.state.SenderSide.{SenderSide}
use Rattle.mq_calls.specs.declared.state.ReceiverSide.{ReceiverSide}
use Rattle.mq_calls.specs.State.Change.{SetSender, SetReceiver}
use Rattle.mq_agents.proofs.EndLaws.{with_ends, ends_view}

with_log : LogState → PartsValue → PartsValue
with_log log x = record x { log = log }

-- without what it says of an end
forced_as : (r : LogRecord) (bytes : List ℕ) (e : ChannelEnds) (x y : PartsValue) (result : Result (Unit {0}) Stop) → bytes ≡ record_bytes r → IsWhole bytes r → IsWritten bytes e x result y → IsForced r x result (with_log y.log x)
unfolding with_log
forced_as r bytes e x y result is size w =
    let whole : 5 + length bytes ≡ need r = ap (λ (n : ℕ). 5 + n) size.0 in
    record {
      same = refl;
      log = subst (λ (b : List ℕ). Appended x.log b result y.log) is w.log.appended;
      fits = size.1;
      size = ap length (sym is) ∙ size.0;
      ends = w.log.calls;
      room = subst (λ (n : ℕ). OnOk result (x.log.room ≤ y.log.room + n)) whole w.log.room;
      body = omega arith;
      later = w.log.later;
      disk = w.log.disk;
    }

with_channels : ChannelEnds → Plain → Plain
with_channels e p = record p { channels = channels_of e }

pub hardened_view : (r : LogRecord) (bytes : List ℕ) (e : ChannelEnds) (x y : PartsValue) → mode_is_up x.mode ≡ true → bytes ≡ record_bytes r → IsWhole bytes r → IsWritten bytes e x (Ok tt) y
    → plain_of y ≡ record (logged (Some r) (plain_of x)) { channels = channels_of e }
unfolding with_log with_ends with_channels
hardened_view r bytes e x y up is size w =
    ap plain_of w.same ∙ ends_view e (with_log y.log x) up ∙ ap (with_channels e) (forced_view r x (with_log y.log x) up (forced_as r bytes e x y (Ok tt) is size w))

-- room that was taken, set aside or drawn is not seen
true_false : true ≡ false → ⊥
true_false e = absurd cc

pub more_aside : (x y : PartsValue) → HasMoreRoom x y → IsAside x y
more_aside x y m = record { same = m.same; body = m.body }

pub same_aside : (x : PartsValue) → IsAside x x
same_aside x = record { same = refl; body = omega arith }

roomed : RowsKept → List (List ℕ) → ℕ → ℕ → Buffered → PartsValue → PartsValue
roomed k seats room spare b p = record p { ends = record p.ends { rows = k; bound = record p.ends.bound { seats = seats } }; log = record p.log { room = room; spare = spare }; body = b }

pub more_trans : (x y z : PartsValue) → HasMoreRoom x y → HasMoreRoom y z → HasMoreRoom x z
unfolding roomed
more_trans x y z m n = record {
  same = n.same ∙ ap (roomed z.ends.rows z.ends.bound.seats z.log.room z.log.spare z.body) m.same;
  log = omega (arith, m.log, n.log);
  spare = omega (arith, m.spare, n.spare);
  rows = omega (arith, m.rows, n.rows);
  seats = λ name e. n.seats name (m.seats name e);
  body = omega (arith, m.body, n.body);
}

pub seated_more : (x y : PartsValue) (k : RowsKept) (seats : List (List ℕ)) (room spare : ℕ) (b : Buffered) → y ≡ record x { ends = record x.ends { rows = k; bound = record x.ends.bound { seats = seats } }; log = record x.log { room = room; spare = spare }; body = b }
    → x.log.room ≤ room → x.log.spare ≤ spare → RoomStays x.ends.rows k → KeepsSeats x.ends.bound.seats seats → x.body.room + length x.body.bytes ≤ b.room + length b.bytes → HasMoreRoom x y
unfolding roomed
seated_more x y k seats room spare b e more aside rows keeps body =
    let ns : seats ≡ y.ends.bound.seats = sym (ap (λ (p : PartsValue). p.ends.bound.seats) e) in
    let ks : k ≡ y.ends.rows = sym (ap (λ (p : PartsValue). p.ends.rows) e) in
    let rs : room ≡ y.log.room = sym (ap (λ (p : PartsValue). p.log.room) e) in
    let ss : spare ≡ y.log.spare = sym (ap (λ (p : PartsValue). p.log.spare) e) in
    let bs : b ≡ y.body = sym (ap (λ (p : PartsValue). p.body) e) in
    let long = ap (λ (b : Buffered). b.room + length b.bytes) bs in
    let wide = ap (λ (r : RowsKept). r.room + length r.rows) ks in
    record {
      same = e ∙ (λ i. roomed (ks i) (ns i) (rs i) (ss i) (bs i) x);
      log = omega (arith, rs, more);
      spare = omega (arith, ss, aside);
      rows = omega (arith, wide, rows);
      seats = subst (KeepsSeats x.ends.bound.seats) ns keeps;
      body = omega (arith, long, body);
    }

pub roomed_more : (x y : PartsValue) (k : RowsKept) (room spare : ℕ) (b : Buffered) → y ≡ record x { ends = record x.ends { rows = k }; log = record x.log { room = room; spare = spare }; body = b }
    → x.log.room ≤ room → x.log.spare ≤ spare → RoomStays x.ends.rows k → x.body.room + length x.body.bytes ≤ b.room + length b.bytes → HasMoreRoom x y
roomed_more x y k room spare b e more aside rows body = seated_more x y k x.ends.bound.seats room spare b e more aside rows (λ name h. h) body

-- What was forced with a side, or was not, as the parts see it.
pub forced_written : (bytes : List ℕ) (x y : PartsValue) (e f : ChannelEnds) (log : LogState) → y ≡ x → f ≡ e → EndsReady e x.log.spare → IsLogged bytes y.log (Ok tt) log → IsWritten bytes e x (Ok tt) (record y { ends = f; log = log })
forced_written bytes x y e f log seen is ready w = record { same = λ i. record (seen i) { ends = is i; log = log }; log = subst (λ (p : PartsValue). IsLogged bytes p.log (Ok tt) log) seen w; ends = ready }

with_room : LogState → ℕ → LogState
with_room log n = record log { room = n }

pub not_forced : (write : StoppedWrite) (u : Unwritten) (bytes : List ℕ) (x y : PartsValue) (e f : ChannelEnds) (log : LogState) → y ≡ x → f ≡ x.ends → IsUnlogged bytes y.log u log
    → Writes bytes e write x (Err u) (downed_if write u (record y { ends = f; log = log }))
unfolding with_room with_log
not_forced write unwritten.NoMemory bytes x y e f log seen back w =
    let is : log ≡ with_room x.log log.room = w.0 ∙ ap (λ (p : PartsValue). with_room p.log log.room) seen in
    let had = ap (λ (p : PartsValue). p.log.room) seen in
    roomed_more x (record y { ends = f; log = log }) x.ends.rows log.room x.log.spare x.body (λ i. record (seen i) { ends = back i; log = is i }) (omega (arith, had, w.1)) (omega arith) (omega arith) (omega arith)
not_forced write (unwritten.Stopped stop) bytes x y e f log seen back w =
    record {
      at = with_log log x;
      is = record { same = refl; log = subst (λ (p : PartsValue). IsLogged bytes p.log (Err stop) log) seen w; ends = tt };
      down = λ i. downed write (record (seen i) { ends = back i; log = log });
    }

pub aside_trans : (x y z : PartsValue) → IsAside x y → IsAside y z → IsAside x z
unfolding roomed
aside_trans x y z m n = record { same = n.same ∙ ap (roomed z.ends.rows z.ends.bound.seats z.log.room z.log.spare z.body) m.same; body = omega (arith, m.body, n.body) }

pub rows_aside : (x y : PartsValue) (k : RowsKept) → y ≡ record x { ends = record x.ends { rows = k } } → IsAside x y
unfolding roomed
rows_aside x y k e =
    let ks : k ≡ y.ends.rows = sym (ap (λ (p : PartsValue). p.ends.rows) e) in
    let rs : x.log.room ≡ y.log.room = sym (ap (λ (p : PartsValue). p.log.room) e) in
    let ss : x.log.spare ≡ y.log.spare = sym (ap (λ (p : PartsValue). p.log.spare) e) in
    let bs : x.body ≡ y.body = sym (ap (λ (p : PartsValue). p.body) e) in
    let long = ap (λ (b : Buffered). b.room + length b.bytes) bs in
    let ns : x.ends.bound.seats ≡ y.ends.bound.seats = sym (ap (λ (p : PartsValue). p.ends.bound.seats) e) in
    record { same = e ∙ (λ i. roomed (ks i) (ns i) (rs i) (ss i) (bs i) x); body = omega (arith, long) }

pub aside_tied : (x y : PartsValue) → IsAside x y → x.log.room ≤ y.log.room → EndsReady y.ends y.log.spare → Tied x → Tied y
aside_tied x y m room ready t =
    let e : y.ends ≡ roomier_ends x.ends y.ends = ap (λ (p : PartsValue). p.ends) m.same in
    subst Tied (sym m.same) (tied_where [] [] (roomier_ends x.ends y.ends) (record x.log { room = y.log.room; spare = y.log.spare }) y.body x.mode x (λ u. let w = t.up u in record {
      live = w.live;
      settled = w.settled;
      ends = subst (λ (k : ChannelEnds). EndsReady k y.log.spare) e ready;
      room = let a = w.room in omega (arith, a, room);
      body = let a = w.body in omega (arith, a, m.body);
    }) t.reserved t.within t.max t)

pub drawn_aside : (n : ℕ) (x : PartsValue) → IsAside x (drawn n x)
drawn_aside n x = record { same = refl; body = omega arith }

pub aside_view : (x y : PartsValue) → IsAside x y → plain_of y ≡ plain_of x
aside_view x y m = ap plain_of m.same

pub aside_bodies : (x y : PartsValue) → IsAside x y → bodies_in y.log ≡ bodies_in x.log
aside_bodies x y m = ap (λ (p : PartsValue). bodies_in p.log) m.same

put_ends : ChannelEnds → LogState → PartsValue → PartsValue
put_ends e log p = record p { ends = e; log = log }

pub hardened_tied : (bytes : List ℕ) (e : ChannelEnds) (x y z : PartsValue) → IsAside x y → IsWritten bytes e y (Ok tt) z → Tied x → Tied z
unfolding put_ends
hardened_tied bytes e x y z m w t =
    let live = ap (λ (l : LogState). l.live) w.log.appended in
    let settled = ap (λ (l : LogState). l.pending) w.log.appended in
    let reserved = ap (λ (l : LogState). l.reserved) w.log.appended in
    let most = ap (λ (l : LogState). l.max) w.log.appended in
    let spare = ap (λ (l : LogState). l.spare) w.log.appended in
    let lived = ap (λ (p : PartsValue). p.log.live) m.same in
    let pended = ap (λ (p : PartsValue). p.log.pending) m.same in
    let held = ap (λ (p : PartsValue). p.log.reserved) m.same in
    let long = ap (λ (p : PartsValue). p.log.max) m.same in
    subst Tied (sym (w.same ∙ ap (put_ends e z.log) m.same)) (tied_where [] [] e z.log y.body x.mode x (λ u. let old = t.up u in record {
      live = live ∙ lived ∙ old.live;
      settled = settled ∙ pended ∙ old.settled;
      ends = subst (EndsReady e) (sym spare) w.ends;
      room = omega (arith, reserved, w.log.enough);
      body = let b = old.body in omega (arith, reserved, held, b, m.body);
    }) (λ u. reserved ∙ held ∙ t.reserved u) (λ u. let w = t.within u in omega (arith, reserved, held, most, long, w)) (omega (arith, most, long, t.max)) t)

-- the write was stopped
downed_by : StoppedWrite → PartsValue → PartsValue
downed_by write y = downed write y

pub down_view : (write : StoppedWrite) (r : LogRecord) (bytes : List ℕ) (stop : Stop) (x y : PartsValue) → mode_is_up x.mode ≡ true → bytes ≡ record_bytes r → IsWhole bytes r → IsWritten bytes (record x.ends { rows = y.ends.rows }) x (Err stop) y
    → plain_of (downed write y) ≡ freeze (noted (frozen_of x) (Some write)) y.log.armed (plain_of x)
unfolding with_log downed_by
down_view write r bytes stop x y up is size w =
    ap (λ (z : PartsValue). plain_of (downed_by write z)) w.same ∙ frozen_view write r x (with_log y.log x) stop up (forced_as r bytes (record x.ends { rows = y.ends.rows }) x y (Err stop) is size w)

-- a manager that is down asks nothing of its room
asleep : PartsValue → PartsValue
asleep x = record x { mode = modes.Down None 0 None }

asleep_tied : (x y : PartsValue) → IsAside x y → Tied x → Tied (asleep y)
unfolding asleep
asleep_tied x y m t = subst (λ (p : PartsValue). Tied (asleep p)) (sym m.same)
    (tied_where [] [] (roomier_ends x.ends y.ends) (record x.log { room = y.log.room; spare = y.log.spare }) y.body (modes.Down None 0 None) x (λ u. absurd (true_false (sym u))) (λ u. absurd (true_false (sym u))) (λ u. absurd (true_false (sym u))) t.max t)

other_ends : (e : ChannelEnds) (z : PartsValue) → mode_is_up z.mode ≡ false → Tied z → Tied (with_ends e z)
unfolding with_ends
other_ends e z down t = tied_where [] [] e z.log z.body z.mode z (λ u. absurd (true_false (sym u ∙ down))) t.reserved t.within t.max t

pub down_tied : (write : StoppedWrite) (r : LogRecord) (bytes : List ℕ) (stop : Stop) (x y z : PartsValue) → bytes ≡ record_bytes r → IsWhole bytes r → IsAside x y → IsWritten bytes (record y.ends { rows = z.ends.rows }) y (Err stop) z → Tied x → Tied (downed write z)
unfolding with_log with_ends downed_by asleep
down_tied write r bytes stop x y z is size m w t =
    let e : ChannelEnds = record y.ends { rows = z.ends.rows } in
    let v : IsWritten bytes e (asleep y) (Err stop) (asleep z) = record { same = ap asleep w.same; log = w.log; ends = tt } in
    subst (λ (k : PartsValue). Tied (downed_by write k)) (sym w.same)
    (other_ends e (downed write (with_log z.log (asleep y))) refl (tied_downed write r [] (asleep y) (with_log z.log (asleep y)) stop (forced_as r bytes e (asleep y) (asleep z) (Err stop) is size v) (asleep_tied x y m t)))

-- so where a unit was in doubt
pub drawn_if_aside : (had : Bool) (x y : PartsValue) → y ≡ drawn_if had x → IsAside x y
drawn_if_aside true x y e = subst (IsAside x) (sym e) (drawn_aside 44 x)
drawn_if_aside false x y e = subst (IsAside x) (sym e) (same_aside x)

pub drawn_if_room : (had : Bool) (x y : PartsValue) → y ≡ drawn_if had x → x.log.room ≤ y.log.room
drawn_if_room true x y e = let a = ap (λ (p : PartsValue). p.log.room) e in omega (arith, a)
drawn_if_room false x y e = let a = ap (λ (p : PartsValue). p.log.room) e in omega (arith, a)

pub drawn_if_ready : (had : Bool) (x y : PartsValue) → y ≡ drawn_if had x → EndsReady x.ends (x.log.spare - drawn_need had) → EndsReady y.ends y.log.spare
drawn_if_ready true x y e w = subst (λ (p : PartsValue). EndsReady p.ends p.log.spare) (sym e) w
drawn_if_ready false x y e w =
    let zero : x.log.spare - 0 ≡ x.log.spare = omega arith in
    subst (λ (p : PartsValue). EndsReady p.ends p.log.spare) (sym e) (subst (EndsReady x.ends) zero w)

-- What is noted is read of the ends of channels alone.
two_one : {A : Type 0} (a b c : A) → a ∷ b ∷ [] ≡ c ∷ [] → ⊥
two_one a b c e = let n = ap length e in absurd (omega (arith, n))

frozen_part : (channel : List ℕ) (note : Note) (change : Change) (x : PartsValue) → harden_part channel note (plain_of x) ≡ noted_change channel note change → harden_part channel note (frozen_of x) ≡ harden_part channel note (plain_of x)
frozen_part channel (notes.Session partner session) change x e = refl
frozen_part channel (notes.Resolved unit commit operator) change x e = absurd (two_one _ _ _ (ap (λ (part : Part). part.changes) e))
frozen_part channel (notes.Bound partner session last) change x e = refl
frozen_part channel (notes.Closed session) change x e = refl
frozen_part channel (notes.SeqSet sync_ends.Sender last) change x e = refl
frozen_part channel (notes.SeqSet sync_ends.Receiver last) change x e = refl

note_of_part : Part → Option Noted
note_of_part part = note_of part part.forced

pub noted_as : (channel : List ℕ) (note : Note) (change : Change) (x : PartsValue) → harden_part channel note (plain_of x) ≡ noted_change channel note change
    → noted (frozen_of x) (Some (writes.Hardened channel note)) ≡ note_of (noted_change channel note change) (Some (note_record channel note))
unfolding note_of_part
noted_as channel note change x e = ap note_of_part (frozen_part channel note change x e ∙ e)

pub halt_stopped : {F : Type 0} (stop : Stop) → halt_of {F = F} (stopped_agent stop) ≡ halts.Stopped stop
halt_stopped stops.Cut = refl
halt_stopped stops.Disk = refl

-- what was kept of an end after a note is what the note changes
pub sender_changed : (channel : List ℕ) (note : Note) (side : SenderSide) (p : Plain) → IsSenderNote channel note p → side ≡ noted_sender channel note p → harden_part channel note p ≡ noted_change channel note (SetSender channel side.hardened)
sender_changed channel note side p part is = part ∙ ap (λ (k : SenderSide). noted_change channel note (SetSender channel k.hardened)) (sym is)

pub receiver_changed : (channel : List ℕ) (note : Note) (side : ReceiverSide) (p : Plain) → IsReceiverNote channel note p → side ≡ noted_receiver channel note p → harden_part channel note p ≡ noted_change channel note (SetReceiver channel side.hardened)
receiver_changed channel note side p part is = part ∙ ap (λ (k : ReceiverSide). noted_change channel note (SetReceiver channel k.hardened)) (sym is)

pub noted_doubt : (channel : List ℕ) (note : Note) (p : Plain) → (noted_sender channel note p).hardened.in_doubt ≡ (sender_or (sender_data channel p)).in_doubt
noted_doubt channel (notes.Session partner session) p = refl
noted_doubt channel (notes.Resolved unit commit operator) p = refl
noted_doubt channel (notes.Bound partner session last) p = refl
noted_doubt channel (notes.Closed session) p = refl
noted_doubt channel (notes.SeqSet end last) p = refl

-- how the step ends
pub hardened_meets : (v new : ManagerValue) (channel : List ℕ) (note : Note) (change : Change) → harden_part channel note v.plain ≡ noted_change channel note change
    → new.plain ≡ apply change (logged (Some (note_record channel note)) v.plain) → new.delta ≡ did.Hardened channel note ∷ [] → new.stopped ≡ None → v.faults ≤ new.faults → (0 < v.plain.log.armed → 4 < v.plain.log.armed)
    → MeetsOrWants v (harden channel note v.plain) (Ok tt) new
hardened_meets v new channel note change e plain told stopped faults ran =
    subst (λ (part : Part). MeetsOrWants {F = Never} {T = Unit {0}} v (Do tt (part ∷ [])) (Ok tt) new) (sym e)
    (refl, ran, faults, (λ i. record { plain = plain i; delta = told i; stopped = stopped i; faults = new.faults }))

-- Any write of a call of one part.
pub wrote_as : (F : Type 0) {T : Type 0} (wants : Wants) (v new : ManagerValue) (reply : T) (value : T) (r : LogRecord) (changes : List Change) (delta : List Did)
    → value ≡ reply → new.plain ≡ apply_all changes (logged (Some r) v.plain) → new.delta ≡ delta → new.stopped ≡ None → v.faults ≤ new.faults → (0 < v.plain.log.armed → 4 < v.plain.log.armed)
    → MeetsDone {F = F} wants v reply (record { forced = Some r; changes = changes; delta = delta } ∷ []) (Ok value) new
wrote_as F wants v new reply value r changes delta is plain told stopped faults ran =
    let all = told ∙ sym (append-nil delta) in
    (is, ran, faults, (λ i. record { plain = plain i; delta = all i; stopped = stopped i; faults = new.faults }))

pub broke_as : {F T : Type 0} (wants : Wants) (v new : ManagerValue) (reply : T) (r : LogRecord) (changes : List Change) (delta : List Did) (stop : Stop) (halt : Halt F) → halt ≡ halts.Stopped stop
    → new.plain ≡ freeze (Some (record { written = r; changes = changes; delta = delta })) new.plain.log.armed v.plain → new.delta ≡ [] → new.stopped ≡ Some stop
    → Stops v.plain.log.armed (Err stop) new.plain.log.armed → v.faults ≤ new.faults → (stop ≡ stops.Disk → Rose v.faults new.faults)
    → MeetsDone wants v reply (record { forced = Some r; changes = changes; delta = delta } ∷ []) (Err halt) new
broke_as {F} wants v new reply r changes delta stop halt is plain told stopped ends later rose =
    subst (λ (h : Halt F). MeetsDone wants v reply (record { forced = Some r; changes = changes; delta = delta } ∷ []) (Err h) new) (sym is)
    (record { part = 0; write = refl; stop = stops_at stop v.plain.log.armed new.plain.log.armed ends; next = (λ i. record { plain = plain i; delta = told i; stopped = stopped i; faults = new.faults }); later = later; rose = rose })

-- Room was taken, and then a record was forced.
pub roomy_more : (n : ℕ) (x y : PartsValue) → IsRoomy n x y → HasMoreRoom x y
roomy_more n x y h = more_room x y h.same h.more (omega (arith, h.body))

pub forced_tied : (r : LogRecord) (x y z : PartsValue) → IsRoomy (need r) x y → IsForced r y (Ok tt) z → Tied x → Tied z
forced_tied r x y z h f t =
    let s = tied_roomier x y (roomy_more (need r) x y h) t in
    let live = ap (λ (l : LogState). l.live) f.log in
    let settled = ap (λ (l : LogState). l.pending) f.log in
    let reserved = ap (λ (l : LogState). l.reserved) f.log in
    let before = ap (λ (p : PartsValue). p.log.reserved) h.same in
    let most = ap (λ (l : LogState). l.max) f.log in
    subst Tied (sym f.same) (record {
      up = λ u. let old = s.up u in record { live = live ∙ old.live; settled = settled ∙ old.settled; ends = subst (EndsReady y.ends) (sym (ap (λ (l : LogState). l.spare) f.log)) old.ends; room = omega (arith, reserved, before, h.log, f.room); body = omega (arith, reserved, old.body, f.body) };
      reserved = λ u. reserved ∙ s.reserved u;
      within = λ u. let w = s.within u in omega (arith, reserved, most, w);
      queues = record { lanes = s.queues.lanes; pending = s.queues.pending };
      idents = record { once = s.idents.once; given = s.idents.given };
      forced = s.forced;
      max = omega (arith, most, s.max);
      moment = s.moment;
    })

roomy_up : (n : ℕ) (x y : PartsValue) → mode_is_up x.mode ≡ true → IsRoomy n x y → mode_is_up y.mode ≡ true
roomy_up n x y up h = ap (λ (p : PartsValue). mode_is_up p.mode) h.same ∙ up

with_record : LogRecord → Plain → Plain
with_record r p = logged (Some r) p

pub forced_seen : (r : LogRecord) (n : ℕ) (x y z : PartsValue) → mode_is_up x.mode ≡ true → IsRoomy n x y → IsForced r y (Ok tt) z → plain_of z ≡ logged (Some r) (plain_of x)
unfolding with_record
forced_seen r n x y z up h f = forced_view r y z (roomy_up n x y up h) f ∙ ap (with_record r) (roomier_view x y (roomy_more n x y h))

pub forced_mode : (r : LogRecord) (n : ℕ) (x y z : PartsValue) (result : Result (Unit {0}) Stop) → IsRoomy n x y → IsForced r y result z → z.mode ≡ x.mode
forced_mode r n x y z result h f = ap (λ (p : PartsValue). p.mode) f.same ∙ ap (λ (p : PartsValue). p.mode) h.same

freeze_at : StoppedWrite → ℕ → PartsValue → Plain
freeze_at write armed x = freeze (noted (frozen_of x) (Some write)) armed (plain_of x)

pub stopped_seen : (write : StoppedWrite) (r : LogRecord) (n : ℕ) (stop : Stop) (x y z : PartsValue) → mode_is_up x.mode ≡ true → IsRoomy n x y → IsForced r y (Err stop) z → plain_of (downed write z) ≡ freeze (noted (frozen_of x) (Some write)) z.log.armed (plain_of x)
unfolding freeze_at
stopped_seen write r n stop x y z up h f = frozen_view write r y z stop (roomy_up n x y up h) f ∙ ap (freeze_at write z.log.armed) h.same

pub stopped_tied : (write : StoppedWrite) (r : LogRecord) (n : ℕ) (stop : Stop) (x y z : PartsValue) → IsRoomy n x y → IsForced r y (Err stop) z → Tied x → Tied (downed write z)
stopped_tied write r n stop x y z h f t = tied_downed write r [] y z stop f (tied_roomier x y (roomy_more n x y h) t)

-- A note that was hardened, of a sender, of a receiver.
with_sender_data : LogRecord → SenderSide → Plain → Plain
with_sender_data r side p = record (logged (Some r) p) { channels = record p.channels { senders = set_sender side p.channels.senders } }

with_receiver_data : LogRecord → ReceiverSide → Plain → Plain
with_receiver_data r side p = record (logged (Some r) p) { channels = record p.channels { receivers = set_receiver side p.channels.receivers } }

pub sender_hardened : (r : LogRecord) (bytes : List ℕ) (side : SenderSide) (channel : List ℕ) (x y : PartsValue) (p : Plain) → mode_is_up x.mode ≡ true → bytes ≡ record_bytes r → IsWhole bytes r
    → IsWritten bytes (with_senders (set_sender side x.ends.senders) x.ends) x (Ok tt) y → side.channel ≡ channel → plain_of x ≡ p → plain_of y ≡ apply (SetSender channel side.hardened) (logged (Some r) p)
unfolding with_sender_data
sender_hardened r bytes side channel x y p up is size w named plain =
    hardened_view r bytes (with_senders (set_sender side x.ends.senders) x.ends) x y up is size w
    ∙ ap (with_sender_data r side) plain
    ∙ ap (λ (c : List ℕ). with_sender_data r (record side { channel = c }) p) named

pub receiver_hardened : (r : LogRecord) (bytes : List ℕ) (side : ReceiverSide) (channel : List ℕ) (x y : PartsValue) (p : Plain) → mode_is_up x.mode ≡ true → bytes ≡ record_bytes r → IsWhole bytes r
    → IsWritten bytes (with_receivers (set_receiver side x.ends.receivers) x.ends) x (Ok tt) y → side.channel ≡ channel → plain_of x ≡ p → plain_of y ≡ apply (SetReceiver channel side.hardened) (logged (Some r) p)
unfolding with_receiver_data
receiver_hardened r bytes side channel x y p up is size w named plain =
    hardened_view r bytes (with_receivers (set_receiver side x.ends.receivers) x.ends) x y up is size w
    ∙ ap (with_receiver_data r side) plain
    ∙ ap (λ (c : List ℕ). with_receiver_data r (record side { channel = c }) p) named

-- A record that was not written, of any call of one part: there was no memory, or its write was stopped.
more_up : (x y : PartsValue) → mode_is_up x.mode ≡ true → IsAside x y → mode_is_up y.mode ≡ true
more_up x y up m = ap (λ (p : PartsValue). mode_is_up p.mode) m.same ∙ up

freeze_noted : Noted → ℕ → Plain → Plain
freeze_noted n armed p = freeze (Some n) armed p

part_ends : (F : Type 0) {T : Type 0} (u : Unwritten) (v : ManagerValue) (x y z : PartsValue) (told : List Did) (write : StoppedWrite) (r : LogRecord) (changes : List Change) (delta : List Did) (reply : T) (bytes : List ℕ) (e : ChannelEnds)
    → mode_is_up x.mode ≡ true → IsAside x y → bytes ≡ record_bytes r → IsWhole bytes r → Writes bytes e write y (Err u) z → noted (frozen_of x) (Some write) ≡ Some (record { written = r; changes = changes; delta = delta })
    → plain_of x ≡ v.plain → x.log.faults ≡ v.faults → told ≡ []
    → MeetsDone {F = F} Anywhere v reply (record { forced = Some r; changes = changes; delta = delta } ∷ []) (Err (halt_of {F = F} (agent_of u))) (record { plain = plain_of z; delta = told; stopped = stop_of u; faults = z.log.faults })
unfolding freeze_noted
part_ends F unwritten.NoMemory v x y z told write r changes delta reply bytes e up m is size w note plain faults none =
    let seen = roomier_view y z w ∙ aside_view x y m ∙ plain in
    let failed = ap (λ (p : PartsValue). p.log.faults) w.same ∙ ap (λ (p : PartsValue). p.log.faults) m.same ∙ faults in
    λ i. record { plain = seen i; delta = none i; stopped = None; faults = failed i }
part_ends F (unwritten.Stopped stop) v x y z told write r changes delta reply bytes e up m is size w note plain faults none =
    let k = w.at in
    let n : Noted = record { written = r; changes = changes; delta = delta } in
    let armed : z.log.armed ≡ k.log.armed = ap (λ (p : PartsValue). p.log.armed) w.down in
    let failed : z.log.faults ≡ k.log.faults = ap (λ (p : PartsValue). p.log.faults) w.down in
    let before : y.log.armed ≡ v.plain.log.armed = ap (λ (p : PartsValue). p.log.armed) m.same ∙ ap (λ (p : Plain). p.log.armed) plain in
    let had : y.log.faults ≡ v.faults = ap (λ (p : PartsValue). p.log.faults) m.same ∙ faults in
    let frozen = ap plain_of w.down ∙ down_view write r bytes stop y k (more_up x y up m) is size w.is
    ∙ ap (λ (p : PartsValue). freeze (noted (frozen_of p) (Some write)) k.log.armed (plain_of p)) m.same
    ∙ ap (λ (o : Option Noted). freeze o k.log.armed (plain_of x)) note ∙ ap (freeze_noted n k.log.armed) plain ∙ ap (λ (a : ℕ). freeze_noted n a v.plain) (sym armed) in
    broke_as Anywhere v (record { plain = plain_of z; delta = told; stopped = Some stop; faults = z.log.faults }) reply r changes delta stop (halt_of {F = F} (stopped_agent stop)) (halt_stopped {F = F} stop) frozen none refl
    (subst (λ (a : ℕ). Stops a (Err stop) z.log.armed) before (subst (λ (a : ℕ). Stops y.log.armed (Err stop) a) (sym armed) w.is.log.calls))
    (omega (arith, had, failed, w.is.log.later))
    (λ d. subst (λ (a : ℕ). Rose a z.log.faults) had (subst (λ (a : ℕ). Rose y.log.faults a) (sym failed) (w.is.log.disk (ap (λ (s : Stop). Err s) d))))

pub unwritten_ends : (F : Type 0) {T : Type 0} (u : Unwritten) (v : ManagerValue) (x y z : PartsValue) (told : List Did) (write : StoppedWrite) (r : LogRecord) (changes : List Change) (delta : List Did) (reply : T) (bytes : List ℕ) (e : ChannelEnds)
    → (agent : AgentStop) (stopped : Option Stop) → agent ≡ agent_of u → stopped ≡ stop_of u → mode_is_up x.mode ≡ true
    → IsAside x y → bytes ≡ record_bytes r → IsWhole bytes r → Writes bytes e write y (Err u) z → noted (frozen_of x) (Some write) ≡ Some (record { written = r; changes = changes; delta = delta })
    → plain_of x ≡ v.plain → x.log.faults ≡ v.faults → told ≡ []
    → MeetsDone {F = F} Anywhere v reply (record { forced = Some r; changes = changes; delta = delta } ∷ []) (Err (halt_of {F = F} agent)) (record { plain = plain_of z; delta = told; stopped = stopped; faults = z.log.faults })
unwritten_ends F u v x y z told write r changes delta reply bytes e agent stopped a s up m is size w note plain faults none =
    subst (λ (k : AgentStop). MeetsDone {F = F} Anywhere v reply (record { forced = Some r; changes = changes; delta = delta } ∷ []) (Err (halt_of {F = F} k)) (record { plain = plain_of z; delta = told; stopped = stopped; faults = z.log.faults })) (sym a)
    (subst (λ (o : Option Stop). MeetsDone {F = F} Anywhere v reply (record { forced = Some r; changes = changes; delta = delta } ∷ []) (Err (halt_of {F = F} (agent_of u))) (record { plain = plain_of z; delta = told; stopped = o; faults = z.log.faults })) (sym s)
    (part_ends F u v x y z told write r changes delta reply bytes e up m is size w note plain faults none))

pub tied_after : (u : Unwritten) (x y z : PartsValue) (write : StoppedWrite) (r : LogRecord) (bytes : List ℕ) (e : ChannelEnds) → IsAside x y → (u ≡ unwritten.NoMemory → HasMoreRoom x y) → bytes ≡ record_bytes r → IsWhole bytes r → Writes bytes e write y (Err u) z → Tied x → Tied z
tied_after unwritten.NoMemory x y z write r bytes e m more is size w t = tied_roomier y z w (tied_roomier x y (more refl) t)
tied_after (unwritten.Stopped stop) x y z write r bytes e m more is size w t = subst Tied (sym w.down) (down_tied write r bytes stop x y w.at is size m w.is t)

-- What the log tells then: the record, which was forced or is pending.
pub hardened_bodies : (r : LogRecord) (bytes : List ℕ) (e : ChannelEnds) (x y : PartsValue) → bytes ≡ record_bytes r → IsWritten bytes e x (Ok tt) y → bodies_in y.log ≡ behind_record (Some r) (bodies_in x.log)
hardened_bodies r bytes e x y is w = ap bodies_in (subst (λ (b : List ℕ). Appended x.log b (Ok tt) y.log) is w.log.appended)

down_bodies : (r : LogRecord) (bytes : List ℕ) (stop : Stop) (x y : PartsValue) → bytes ≡ record_bytes r → IsWritten bytes (record x.ends { rows = y.ends.rows }) x (Err stop) y → bodies_in y.log ≡ pending_record (Some r) (bodies_in x.log)
down_bodies r bytes stop x y is w = ap bodies_in (subst (λ (b : List ℕ). Appended x.log b (Err stop) y.log) is w.log.appended)

pub broke_told : {F T : Type 0} (v new : CoreValue) (halt : Halt F) (stop : Stop) (reply : T) (part : Part) → halt ≡ halts.Stopped stop → is_some part.forced ≡ true → IsRecordIn part.forced → new.plain ≡ freeze (note_of part part.forced) new.plain.log.armed v.plain
    → new.log ≡ pending_record part.forced v.log → WritesLog v (Do reply (part ∷ [])) (Err halt) new
broke_told {F} v new halt stop reply part is write fits plain log = subst (λ (h : Halt F). WritesLog v (Do reply (part ∷ [])) (Err h) new) (sym is) (record { part = 0; write = write; records = fits; plain = plain; log = log })

part_told : (F : Type 0) {T : Type 0} (u : Unwritten) (v new : CoreValue) (x y z : PartsValue) (write : StoppedWrite) (r : LogRecord) (changes : List Change) (delta : List Did) (reply : T) (bytes : List ℕ) (e : ChannelEnds)
    → mode_is_up x.mode ≡ true → IsAside x y → bytes ≡ record_bytes r → IsWhole bytes r → Writes bytes e write y (Err u) z → noted (frozen_of x) (Some write) ≡ Some (record { written = r; changes = changes; delta = delta })
    → plain_of x ≡ v.plain → bodies_in x.log ≡ v.log → new.plain ≡ plain_of z → new.log ≡ bodies_in z.log
    → WritesLog {F = F} v (Do reply (record { forced = Some r; changes = changes; delta = delta } ∷ [])) (Err (halt_of {F = F} (agent_of u))) new
unfolding freeze_noted
part_told F unwritten.NoMemory v new x y z write r changes delta reply bytes e up m is size w note plain bodies seen log = log ∙ roomier_bodies y z w ∙ aside_bodies x y m ∙ bodies
part_told F (unwritten.Stopped stop) v new x y z write r changes delta reply bytes e up m is size w note plain bodies seen log =
    let k = w.at in
    let n : Noted = record { written = r; changes = changes; delta = delta } in
    let armed : new.plain.log.armed ≡ k.log.armed = ap (λ (p : Plain). p.log.armed) seen ∙ ap (λ (p : PartsValue). p.log.armed) w.down in
    let frozen = seen ∙ ap plain_of w.down ∙ down_view write r bytes stop y k (more_up x y up m) is size w.is
    ∙ ap (λ (p : PartsValue). freeze (noted (frozen_of p) (Some write)) k.log.armed (plain_of p)) m.same
    ∙ ap (λ (o : Option Noted). freeze o k.log.armed (plain_of x)) note ∙ ap (freeze_noted n k.log.armed) plain ∙ ap (λ (a : ℕ). freeze_noted n a v.plain) (sym armed) in
    broke_told {F = F} v new (halt_of {F = F} (stopped_agent stop)) stop reply (record { forced = Some r; changes = changes; delta = delta }) (halt_stopped {F = F} stop) refl size.1 frozen
    (log ∙ ap (λ (p : PartsValue). bodies_in p.log) w.down ∙ down_bodies r bytes stop y k is w.is ∙ ap (pending_record (Some r)) (aside_bodies x y m ∙ bodies))

pub unwritten_told : (F : Type 0) {T : Type 0} (u : Unwritten) (v new : CoreValue) (x y z : PartsValue) (write : StoppedWrite) (r : LogRecord) (changes : List Change) (delta : List Did) (reply : T) (bytes : List ℕ) (e : ChannelEnds) (agent : AgentStop)
    → agent ≡ agent_of u → mode_is_up x.mode ≡ true → IsAside x y → bytes ≡ record_bytes r → IsWhole bytes r → Writes bytes e write y (Err u) z → noted (frozen_of x) (Some write) ≡ Some (record { written = r; changes = changes; delta = delta })
    → plain_of x ≡ v.plain → bodies_in x.log ≡ v.log → new.plain ≡ plain_of z → new.log ≡ bodies_in z.log
    → WritesLog {F = F} v (Do reply (record { forced = Some r; changes = changes; delta = delta } ∷ [])) (Err (halt_of {F = F} agent)) new
unwritten_told F u v new x y z write r changes delta reply bytes e agent a up m is size w note plain bodies seen log =
    subst (λ (k : AgentStop). WritesLog {F = F} v (Do reply (record { forced = Some r; changes = changes; delta = delta } ∷ [])) (Err (halt_of {F = F} k)) new) (sym a)
    (part_told F u v new x y z write r changes delta reply bytes e up m is size w note plain bodies seen log)

pub hardened_wrote : (channel : List ℕ) (note : Note) (change : Change) (p : Plain) (old new : LogBodies) → harden_part channel note p ≡ noted_change channel note change → FitsRecord (note_record channel note) → new ≡ behind_record (Some (note_record channel note)) old
    → (new ≡ wrote_all (harden_part channel note p ∷ []) old) × AreRecords (harden_part channel note p ∷ [])
hardened_wrote channel note change p old new e fits log = subst (λ (part : Part). (new ≡ wrote_all (part ∷ []) old) × AreRecords (part ∷ [])) (sym e) (log, (fits, tt))

-- A note that was not hardened: there was no memory, or its write was stopped.
pub hardening_ends : (u : Unwritten) (v : ManagerValue) (x y z : PartsValue) (told : List Did) (channel : List ℕ) (note : Note) (change : Change) (bytes : List ℕ) (e : ChannelEnds) (agent : AgentStop) (stopped : Option Stop)
    → agent ≡ agent_of u → stopped ≡ stop_of u → mode_is_up x.mode ≡ true → IsAside x y
    → bytes ≡ record_bytes (note_record channel note) → IsWhole bytes (note_record channel note) → Writes bytes e (writes.Hardened channel note) y (Err u) z
    → plain_of x ≡ v.plain → harden_part channel note v.plain ≡ noted_change channel note change → x.log.faults ≡ v.faults → told ≡ []
    → MeetsOrWants v (harden channel note v.plain) (by_agent (Err agent)) (record { plain = plain_of z; delta = told; stopped = stopped; faults = z.log.faults })
hardening_ends u v x y z told channel note change bytes e agent stopped a s up m is size w plain part faults none =
    let here : harden_part channel note (plain_of x) ≡ noted_change channel note change = ap (harden_part channel note) plain ∙ part in
    let nothing : Unit {0} = tt in
    subst (λ (part : Part). MeetsOrWants {F = Never} {T = Unit {0}} v (Do tt (part ∷ [])) (by_agent (Err agent)) (record { plain = plain_of z; delta = told; stopped = stopped; faults = z.log.faults })) (sym part)
    (unwritten_ends Never u v x y z told (writes.Hardened channel note) (note_record channel note) (change ∷ []) (did.Hardened channel note ∷ []) nothing bytes e agent stopped a s up m is size w (noted_as channel note change x here) plain faults none)

pub hardening_told : (u : Unwritten) (v new : CoreValue) (x y z : PartsValue) (channel : List ℕ) (note : Note) (change : Change) (bytes : List ℕ) (e : ChannelEnds) (agent : AgentStop)
    → agent ≡ agent_of u → mode_is_up x.mode ≡ true → IsAside x y → bytes ≡ record_bytes (note_record channel note) → IsWhole bytes (note_record channel note) → Writes bytes e (writes.Hardened channel note) y (Err u) z
    → harden_part channel note v.plain ≡ noted_change channel note change → plain_of x ≡ v.plain → bodies_in x.log ≡ v.log → new.plain ≡ plain_of z → new.log ≡ bodies_in z.log
    → WritesLog v (harden channel note v.plain) (by_agent (Err agent)) new
hardening_told u v new x y z channel note change bytes e agent a up m is size w part plain bodies seen log =
    let here : harden_part channel note (plain_of x) ≡ noted_change channel note change = ap (harden_part channel note) plain ∙ part in
    let nothing : Unit {0} = tt in
    subst (λ (part : Part). WritesLog {F = Never} {T = Unit {0}} v (Do tt (part ∷ [])) (by_agent (Err agent)) new) (sym part)
    (unwritten_told Never u v new x y z (writes.Hardened channel note) (note_record channel note) (change ∷ []) (did.Hardened channel note ∷ []) nothing bytes e agent a up m is size w (noted_as channel note change x here) plain bodies seen log)

-- There was no memory: room was taken, and nothing else has changed.
wants_any : {F T : Type 0} (v new : ManagerValue) (s : Step F T) → new ≡ record v { delta = []; stopped = None } → MeetsOrWants {F = F} {T = T} v s (Err halts.NoMemory) new
wants_any v new (Refuse reason) e = e
wants_any v new (Do reply parts) e = e

pub wanted_meets : {F T : Type 0} (v : ManagerValue) (x y : PartsValue) (told : List Did) (stopped : Option Stop) (s : Step F T) → HasMoreRoom x y → plain_of x ≡ v.plain → x.log.faults ≡ v.faults → told ≡ [] → stopped ≡ None
    → MeetsOrWants {F = F} {T = T} v s (Err halts.NoMemory) (record { plain = plain_of y; delta = told; stopped = stopped; faults = y.log.faults })
wanted_meets {F} {T} v x y told stopped s more plain faults none unstopped =
    let seen = roomier_view x y more ∙ plain in
    let failed = ap (λ (p : PartsValue). p.log.faults) more.same ∙ faults in
    wants_any {F = F} {T = T} v (record { plain = plain_of y; delta = told; stopped = stopped; faults = y.log.faults }) s (λ i. record { plain = seen i; delta = none i; stopped = unstopped i; faults = failed i })

pub wanted_told : {F T : Type 0} (v new : CoreValue) (x y : PartsValue) (s : Step F T) → HasMoreRoom x y → bodies_in x.log ≡ v.log → new.log ≡ bodies_in y.log → WritesLog {F = F} {T = T} v s (Err halts.NoMemory) new
wanted_told v new x y (Refuse reason) more bodies log = log ∙ roomier_bodies x y more ∙ bodies
wanted_told v new x y (Do reply parts) more bodies log = log ∙ roomier_bodies x y more ∙ bodies

-- A call that wants no memory.
pub in_room : {T : Type 0} (v new : ManagerValue) (step : Step Never T) (r : Result T AgentStop) → WantsNone r → MeetsOrWants v step (by_agent r) new → MeetsInRoom v step (by_agent r) new
in_room v new (Refuse reason) (Ok value) w m = absurd m
in_room v new (Refuse reason) (Err agent_stops.NoMemory) w m = absurd w
in_room v new (Refuse reason) (Err agent_stops.Disk) w m = absurd m
in_room v new (Refuse reason) (Err agent_stops.Cut) w m = absurd m
in_room v new (Do reply parts) (Ok value) w m = m
in_room v new (Do reply parts) (Err agent_stops.NoMemory) w m = absurd w
in_room v new (Do reply parts) (Err agent_stops.Disk) w m = m
in_room v new (Do reply parts) (Err agent_stops.Cut) w m = m

-- the session that a note closes is open
live_of : (session : ℕ) (o : Option ReceiverData) → 0 < session → session ≡ (receiver_or o).session → (receiver_or o).closed ≡ false → is_live o ≡ true
live_of session None some is shut = absurd (omega (arith, some, is))
live_of session (Some d) some is shut = ap not shut

pub closed_live : (channel : List ℕ) (session : ℕ) (p : Plain) → CanHarden channel (notes.Closed session) p → is_live (receiver_data channel p) ≡ true
closed_live channel session p can = live_of session (receiver_data channel p) can.0 can.1 can.2

-- no memory was wanted where the log has room, and a side stands
stopped_agent_some : (stop : Stop) → WantsNone {T = Unit {0}} (Err (stopped_agent stop))
stopped_agent_some stops.Cut = tt
stopped_agent_some stops.Disk = tt

pub not_wanted : (T : Type 0) (absent : Type 0) (n : ℕ) (x : LogState) (u : Unwritten) → Lacks {T = T} absent n x (Err u) → x.reserved + n ≤ x.room → (absent → ⊥) → u ≡ unwritten.NoMemory → ⊥
not_wanted T absent n x unwritten.NoMemory (inl short) room there e = absurd (omega (arith, short, room))
not_wanted T absent n x unwritten.NoMemory (inr none) room there e = there none
not_wanted T absent n x (unwritten.Stopped stop) l room there e = absurd cc

pub wants_none : (u : Unwritten) (agent : AgentStop) → agent ≡ agent_of u → (u ≡ unwritten.NoMemory → ⊥) → WantsNone {T = Unit {0}} (Err agent)
wants_none unwritten.NoMemory agent is not_none = absurd (not_none refl)
wants_none (unwritten.Stopped stop) agent is not_none = subst (λ (a : AgentStop). WantsNone {T = Unit {0}} (Err a)) (sym is) (stopped_agent_some stop)
