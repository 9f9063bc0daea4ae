-- A get that holds a row for a unit: from the item that waits to the row that is held, or to the item that is given up.
use Rattle.std.proofs.Common.{◌≡◌, ℕ, ◌+◌, ◌-◌, ◌≤◌, Bool, true, false, cond, List, [], ◌∷◌, ◌++◌, length, refl, ap, arith, sym, subst, ◌∙◌}
use Rattle.std.specs.Prelude.{Option, Some, None, Err, map, ◌==◌}
use Rattle.mq_disk.specs.declared.cutter.Stop.{Stop}
use Rattle.mq_calls.specs.Words.{Ident, Plain, Among, held_in, kept_in, connection_at, change_connection, unit_need, logged, forced_calls, delta_of}
use Rattle.mq_calls.specs.declared.records.Remove.{Remove}
use Rattle.mq_calls.specs.declared.deltas.Did.{Did}
use Rattle.mq_calls.specs.declared.state.Item.{Item}
use Rattle.mq_calls.specs.declared.state.Connection.{Connection}
use Rattle.mq_calls.specs.declared.records.LogRecord.{LogRecord}
use Rattle.mq_calls.specs.declared.state.Item.TheVariants.{Take}
use Rattle.mq_calls.specs.declared.deltas.Why.TheVariants as whys
use Rattle.mq_message.specs.declared.place.Holder.TheVariants as holders
use Rattle.mq_log.specs.State.{LogState}
use Rattle.mq_unit.specs.from_record.Room.{Buffered}
use Rattle.mq_unit.specs.Told.{Telling}
use Rattle.mq_unit.proofs.UnitLaws.{take_front}
use Rattle.mq_core.specs.from_handles.Seats.{pended, given_up}
use Rattle.mq_scan.specs.declared.scanning.Met.{Met}
use Rattle.mq_core.specs.Views.{PartsValue, plain_of}
use Rattle.mq_core.specs.Ties.{Tied, mode_is_up}
use Rattle.mq_core.specs.Forced.{HasMoreRoom, given_back}
use Rattle.mq_core.specs.Values.{CoreValue, bodies_in, behind_record}
use Rattle.mq_core.proofs.PutLaws.{more_room, tied_roomier, roomier_view}
use Rattle.mq_get.specs.declared.leaving.Leaving.{Leaving}
use Rattle.mq_get.specs.Leaving.{leaving_record, leaving_need, leaving_part, leaving_met, gone_part, gone_parts, held_part}
use Rattle.mq_get.specs.Rooms.{IsRoomy, IsItemMore, IsHeld, IsUnheld, Writes, unheld}
use Rattle.mq_get.specs.Does.{seen, HasRun, HasBroken, IsCutOff}
use Rattle.mq_get.proofs.DoesLaws.{run_both, broken_front}
use Rattle.mq_get.proofs.OutLaws.{dropped_runs, stopped_breaks, stopped_tied, gone_runs, gone_breaks, tied_back}
use Rattle.mq_get.proofs.HoldLaws.{tied_roomy, roomy_view, tied_item, tied_held, held_view, item_view}
use Rattle.mq_get.proofs.PathLaws.{dropped_after, drop_body, roomy_reserved, roomy_up}

-- an item that waited and is given up
gave_up : (number : ℕ) (item : Item) (cs : List Connection) → change_connection number given_up (change_connection number (pended item) cs) ≡ cs
gave_up number item [] = refl
gave_up number item (c ∷ cs) = by (c.number == number) refl (gave_up number item cs)
  where
    by : (b : Bool) → (c.number == number) ≡ b → change_connection number given_up (change_connection number (pended item) cs) ≡ cs
        → change_connection number given_up (cond b (pended item c ∷ cs) (c ∷ change_connection number (pended item) cs)) ≡ c ∷ cs
    by true e rest =
        ap (λ (b : Bool). cond b (given_up (pended item c) ∷ cs) (pended item c ∷ change_connection number given_up cs)) e
        ∙ ap (λ (items : List Item). let d : Connection = record c { unit = items } in d ∷ cs) (sym (take_front c.unit item))
    by false e rest =
        ap (λ (b : Bool). cond b (given_up c ∷ change_connection number (pended item) cs) (c ∷ change_connection number given_up (change_connection number (pended item) cs))) e
        ∙ ap (λ (ds : List Connection). c ∷ ds) rest

unheld_with : ℕ → ℕ → Buffered → PartsValue → PartsValue
unheld_with number need body x = record (unheld number need x) { body = body }

unheld_parts : PartsValue → ℕ → Buffered → List Connection → ℕ → PartsValue
unheld_parts r room body live reserved = record r { desk = record { live = live; last = r.desk.last }; log = record r.log { reserved = reserved; room = room }; body = body }

pub unheld_room : (number : ℕ) (item : Item) (need : ℕ) (r x : PartsValue) → IsItemMore number item need r x → HasMoreRoom r (unheld number need x)
unfolding unheld_with unheld_parts
unheld_room number item need r x p =
    let back : r.log.reserved + need - need ≡ r.log.reserved = omega arith in
    let body : Buffered = (unheld number need x).body in
    more_room r (unheld number need x)
    (ap (unheld_with number need body) p.same
    ∙ ap (λ (cs : List Connection). unheld_parts r x.log.room body cs (r.log.reserved + need - need)) (gave_up number item r.desk.live)
    ∙ ap (unheld_parts r x.log.room body r.desk.live) back)
    p.more (omega (arith, p.body))

less_by : ℕ → LogState → LogState
less_by need l = record l { reserved = l.reserved - need }

unheld_by : ℕ → ℕ → PartsValue → PartsValue
unheld_by number need x = unheld number need x

pub still_writes : (number need : ℕ) (rs : List Remove) (stop : Stop) (x z : PartsValue) → Writes rs x (Err stop) z → Writes rs (unheld number need x) (Err stop) (unheld number need z)
unfolding less_by unheld_by
still_writes number need [] stop x z f = absurd f
still_writes number need (r ∷ rs) stop x z f = record {
  same = ap (unheld_by number need) f.same;
  log = ap (less_by need) f.log;
  fits = f.fits;
  size = f.size;
  ends = f.ends;
  room = f.room;
  body = omega (arith, f.body);
  later = f.later;
  disk = f.disk;
}

-- what is done to the queues and to a connection may be done in either order
hold_by : ℕ → List ℕ → Ident → Plain → Plain
hold_by number queue ident p = record p { queues = map (held_in (Among queue (ident ∷ [])) (holders.Unit number)) p.queues }

pend_by : ℕ → Item → Plain → Plain
pend_by number item p = record p { connections = change_connection number (pended item) p.connections }

leave_by : List ℕ → List Ident → Plain → Plain
leave_by queue idents p = record p { queues = map (kept_in (Among queue idents)) p.queues }

commute : (o : Option LogRecord) (queue : List ℕ) (idents : List Ident) (number : ℕ) (item : Item) (ident : Ident) (p : Plain)
    → hold_by number queue ident (leave_by queue idents (logged o (pend_by number item p))) ≡ pend_by number item (hold_by number queue ident (leave_by queue idents (logged o p)))
unfolding hold_by pend_by leave_by
commute None queue idents number item ident p = refl
commute (Some r) queue idents number item ident p = refl

part_armed : (o : Option LogRecord) (p : Plain) → (logged o p).log.armed ≡ p.log.armed - (forced_calls o + 0)
part_armed None p = omega arith
part_armed (Some r) p = omega arith

part_by : Option LogRecord → List ℕ → List Ident → Plain → Plain
part_by o queue idents p = leave_by queue idents (logged o p)

pub held_run : (number : ℕ) (queue : List ℕ) (mets : List Met) (met : Met) (need n : ℕ) (x r w y : PartsValue) (t u : Telling) (l : Leaving) → l ≡ leaving_met queue mets → t.dids ≡ [] → mode_is_up x.mode ≡ true
    → IsRoomy n x r → IsItemMore number (Take queue met.ident met.persistent) need r w → IsHeld number queue l met w t y u
    → HasRun (gone_parts whys.Expired queue mets ++ held_part number queue met ∷ []) (seen x [] None) (seen y u.dids None)
unfolding hold_by pend_by leave_by part_by
held_run number queue mets met need n x r w y t u l is untold up roomy more h =
    let item = Take queue met.ident met.persistent in
    let o : Option LogRecord = leaving_record l.removes in
    let p : Plain = plain_of x in
    let runs : HasRun (leaving_part queue l whys.Expired ∷ []) (seen w t.dids None) (seen h.mid h.left.dids None) = dropped_runs queue l whys.Expired w t h.mid h.left (ap (λ (z : PartsValue). mode_is_up z.mode) more.same ∙ roomy_up n x r roomy up) h.dropped in
    let m : CoreValue = record { plain = leave_by queue l.idents (logged o p); delta = h.left.dids; stopped = None; faults = h.mid.log.faults; log = behind_record o (bodies_in x.log) } in
    let armed : w.log.armed ≡ x.log.armed = ap (λ (z : PartsValue). z.log.armed) more.same ∙ ap (λ (z : PartsValue). z.log.armed) roomy.same in
    let faults : w.log.faults ≡ x.log.faults = ap (λ (z : PartsValue). z.log.faults) more.same ∙ ap (λ (z : PartsValue). z.log.faults) roomy.same in
    let is_armed = part_armed o p in
    let first : HasRun (leaving_part queue l whys.Expired ∷ []) (seen x [] None) m = record {
      plain = refl;
      told = runs.told ∙ ap (λ (ds : List Did). ds ++ delta_of (leaving_part queue l whys.Expired ∷ [])) untold;
      later = omega (arith, faults, runs.later);
      ran = λ some. let a = runs.ran (omega (arith, armed, some)) in omega (arith, armed, a);
      armed = is_armed;
      log = refl;
      records = runs.records;
    } in
    let gone : HasRun (gone_part whys.Expired queue mets ∷ []) (seen x [] None) m = subst (λ (k : Leaving). HasRun (leaving_part queue k whys.Expired ∷ []) (seen x [] None) m) is first in
    let view : plain_of w ≡ pend_by number item p = item_view number item need r w (roomy_up n x r roomy up) more ∙ ap (pend_by number item) (roomy_view n x r roomy) in
    let then : HasRun (held_part number queue met ∷ []) m (seen y u.dids None) = record {
      plain = ap plain_of h.held ∙ held_view number queue met.ident h.mid ∙ ap (hold_by number queue met.ident) (runs.plain ∙ ap (part_by o queue l.idents) view) ∙ commute o queue l.idents number item met.ident p;
      told = ap (λ (s : Telling). s.dids) h.tells;
      later = let a = ap (λ (z : PartsValue). z.log.faults) h.held in omega (arith, a);
      ran = λ some. some;
      armed = let a = ap (λ (z : PartsValue). z.log.armed) h.held in omega (arith, a, runs.armed, armed, is_armed);
      log = ap (λ (z : PartsValue). bodies_in z.log) h.held ∙ runs.log ∙ ap (behind_record o) (ap (λ (z : PartsValue). bodies_in z.log) more.same ∙ ap (λ (z : PartsValue). bodies_in z.log) roomy.same);
      records = (tt, tt);
    } in
    run_both (gone_parts whys.Expired queue mets) (held_part number queue met ∷ []) (seen x [] None) m (seen y u.dids None) (gone_runs whys.Expired queue mets (seen x [] None) m gone) then

-- what ties the parts then
pub held_after : (number : ℕ) (queue : List ℕ) (met : Met) (need n : ℕ) (c : Connection) (x r w y z : PartsValue) (t u : Telling) (l : Leaving) → connection_at number x.desk.live ≡ Some c
    → unit_need (c.unit ++ Take queue met.ident met.persistent ∷ []) ≡ unit_need c.unit + need → n ≡ leaving_need l.removes + need → mode_is_up x.mode ≡ true → Tied x
    → IsRoomy n x r → IsItemMore number (Take queue met.ident met.persistent) need r w → IsHeld number queue l met w t y u → z ≡ given_back n y → Tied z
held_after number queue met need n c x r w y z t u l found more_need all up tied roomy more h back =
    let tr = tied_roomy n x r roomy tied in
    let found_r : connection_at number r.desk.live ≡ Some c = ap (λ (v : PartsValue). connection_at number v.desk.live) roomy.same ∙ found in
    let tw = tied_item number queue met.ident met.persistent need c r w found_r more_need more tr in
    let reserved_w : w.log.reserved ≡ r.log.reserved + need = ap (λ (v : PartsValue). v.log.reserved) more.same in
    let reserved_r = roomy_reserved n x r roomy in
    let after = dropped_after queue l whys.Expired w t h.mid h.left h.dropped (omega (arith, reserved_w, reserved_r, roomy.log, more.more, all)) tw in
    let reserved_y : y.log.reserved ≡ h.mid.log.reserved = ap (λ (v : PartsValue). v.log.reserved) h.held in
    let body_y : y.body.room + length y.body.bytes ≡ h.mid.body.room + length h.mid.body.bytes = ap (λ (v : PartsValue). v.body.room + length v.body.bytes) h.held in
    let was = (tied.up up).body in
    let ty = subst Tied (sym h.held) (tied_held number queue met.ident h.mid after.tied) in
    subst Tied (sym back) (tied_back n y (λ u. omega (arith, was, reserved_y, body_y, after.reserved, after.body, reserved_w, reserved_r, more.body, roomy.body)) ty)

-- what the forced write finds
pub held_room : (number : ℕ) (item : Item) (leaving need n : ℕ) (x r w : PartsValue) → n ≡ leaving + need → IsRoomy n x r → IsItemMore number item need r w → (leaving ≤ w.log.room) × (leaving + need ≤ w.body.room + length w.body.bytes) × (need ≤ w.log.reserved)
held_room number item leaving need n x r w all roomy more =
    let reserved_w : w.log.reserved ≡ r.log.reserved + need = ap (λ (v : PartsValue). v.log.reserved) more.same in
    (omega (arith, all, roomy.log, more.more), omega (arith, all, roomy.body, more.body), omega (arith, reserved_w))

-- the write was stopped, and the item is given up
pub unheld_cut : (number : ℕ) (queue : List ℕ) (mets : List Met) (met : Met) (need n : ℕ) (stop : Stop) (x r w y : PartsValue) (t u : Telling) (l : Leaving) → l ≡ leaving_met queue mets → t.dids ≡ [] → mode_is_up x.mode ≡ true → Tied x
    → IsRoomy n x r → IsItemMore number (Take queue met.ident met.persistent) need r w → IsUnheld number queue l need stop w t y u
    → IsCutOff stop (gone_parts whys.Expired queue mets ++ held_part number queue met ∷ []) x y u
unheld_cut number queue mets met need n stop x r w y t u l is untold up tied roomy more d =
    let v : PartsValue = unheld number need w in
    let room = unheld_room number (Take queue met.ident met.persistent) need r w more in
    let writes = still_writes number need l.removes stop w d.written d.writes in
    let breaks : HasBroken stop (leaving_part queue l whys.Expired ∷ []) (seen v t.dids None) (seen y t.dids (Some stop)) = stopped_breaks queue l whys.Expired stop v (unheld number need d.written) y t.dids (ap (λ (z : PartsValue). mode_is_up z.mode) room.same ∙ roomy_up n x r roomy up) writes d.gone in
    let plain : plain_of v ≡ plain_of x = roomier_view r v room ∙ roomy_view n x r roomy in
    let faults : v.log.faults ≡ x.log.faults = ap (λ (z : PartsValue). z.log.faults) room.same ∙ ap (λ (z : PartsValue). z.log.faults) roomy.same in
    let log : bodies_in v.log ≡ bodies_in x.log = ap (λ (z : PartsValue). bodies_in z.log) room.same ∙ ap (λ (z : PartsValue). bodies_in z.log) roomy.same in
    let same : seen v t.dids None ≡ seen x [] None = (λ i. record { plain = plain i; delta = untold i; stopped = None; faults = faults i; log = log i }) in
    let told = ap (λ (s : Telling). s.dids) d.told in
    let gone : HasBroken stop (gone_part whys.Expired queue mets ∷ []) (seen x [] None) (seen y u.dids (Some stop)) =
    subst (λ (ds : List Did). HasBroken stop (gone_part whys.Expired queue mets ∷ []) (seen x [] None) (seen y ds (Some stop))) (sym told)
    (subst (λ (k : Leaving). HasBroken stop (leaving_part queue k whys.Expired ∷ []) (seen x [] None) (seen y t.dids (Some stop))) is
    (subst (λ (m : CoreValue). HasBroken stop (leaving_part queue l whys.Expired ∷ []) m (seen y t.dids (Some stop))) same breaks)) in
    record {
      broken = broken_front stop (gone_parts whys.Expired queue mets) (held_part number queue met ∷ []) (seen x [] None) (seen y u.dids (Some stop)) (gone_breaks whys.Expired queue mets stop (seen x [] None) (seen y u.dids (Some stop)) gone);
      tied = stopped_tied queue l whys.Expired stop v (unheld number need d.written) y writes d.gone (tied_roomier r v room (tied_roomy n x r roomy tied));
    }

pub item_live : (number : ℕ) (item : Item) (need : ℕ) (r w : PartsValue) → IsItemMore number item need r w → r.log.live ≡ true → w.log.live ≡ true
item_live number item need r w more live = ap (λ (v : PartsValue). v.log.live) more.same ∙ live

pub held_body : (number : ℕ) (queue : List ℕ) (l : Leaving) (met : Met) (x : PartsValue) (t : Telling) (y : PartsValue) (u : Telling) → IsHeld number queue l met x t y u → x.body.room + length x.body.bytes ≤ y.body.room + length y.body.bytes
held_body number queue l met x t y u h =
    let a = ap (λ (v : PartsValue). v.body.room + length v.body.bytes) h.held in
    let b = drop_body queue l x t h.mid h.left h.dropped in
    omega (arith, a, b)
