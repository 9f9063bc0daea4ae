-- The ways of a get, from the room that it takes to its answer.
use Rattle.std.proofs.Common.{◌≡◌, ℕ, ◌+◌, ◌<◌, ◌≤◌, Bool, true, false, cond, List, [], ◌∷◌, ◌++◌, length, refl, ap, arith, sym, subst, ◌∙◌}
use Rattle.std.proofs.lemmas.List.{append-nil, length-map}
use Rattle.std.specs.Prelude.{Some, None, Result, Ok, Err}
use Rattle.mq_disk.specs.declared.cutter.Stop.{Stop}
use Rattle.mq_calls.specs.declared.commands.Halt.{Halt}
use Rattle.mq_calls.specs.declared.commands.Halt.TheVariants as halts
use Rattle.mq_calls.specs.declared.answers.GetAnswer.{GetAnswer}
use Rattle.mq_calls.specs.declared.deltas.Why.{Why}
use Rattle.mq_calls.specs.declared.deltas.Why.TheVariants as whys
use Rattle.mq_message.specs.declared.place.Place.{Place}
use Rattle.mq_calls.specs.State.Change.{SetCursor}
use Rattle.mq_calls.specs.Words.{Reason, Part, Do, silent, connection_at, change_connection, with_connection}
use Rattle.mq_calls.specs.declared.records.Remove.{Remove}
use Rattle.mq_calls.specs.declared.deltas.Did.{Did}
use Rattle.mq_calls.specs.declared.state.Connection.{Connection}
use Rattle.mq_scan.specs.declared.scanning.Met.{Met}
use Rattle.mq_unit.specs.from_record.Room.{Buffered}
use Rattle.mq_unit.specs.Told.{Telling}
use Rattle.mq_core.specs.from_handles.Desks.{Desk}
use Rattle.mq_core.specs.from_handles.Seats.{cursor_set}
use Rattle.mq_core.specs.Views.{PartsValue, plain_of}
use Rattle.mq_core.specs.Ties.{Tied, mode_is_up}
use Rattle.mq_core.specs.Forced.{HasMoreRoom, KeepsSeats, roomier_ends, given_back}
use Rattle.mq_core.specs.Values.{CoreValue, MeetsTold, bodies_in}
use Rattle.mq_core.proofs.WriteLaws.{roomier_bodies}
use Rattle.mq_core.proofs.PutLaws.{tied_roomier, roomier_view}
use Rattle.mq_core.proofs.MeetLaws.{changed_view}
use Rattle.mq_core.proofs.SeatLaws.{tied_seated, unit_kept, number_is}
use Rattle.mq_get.specs.declared.leaving.Leaving.{Leaving}
use Rattle.mq_get.specs.Leaving.{leaving_need, leaving_part, leaving_met, met_ident, removes_met, gone_part, gone_parts}
use Rattle.mq_get.specs.Rooms.{IsRoomy, IsGivenBack, IsDropped, IsStopped, Drops}
use Rattle.mq_get.specs.Does.{seen, stop_of, HasRun, HasBroken, ComesTo, IsCleared, IsWanting, IsCutOff, Halts, AreDropped, AreStopped, DropsBoth}
use Rattle.mq_get.specs.Does.AreStopped.{First, Then}
use Rattle.mq_get.proofs.DoesLaws.{run_both, broken_behind, broken_front, run_meets, broken_meets}
use Rattle.mq_get.proofs.OutLaws.{wrote, tied_out, dropped_runs, stopped_breaks, stopped_tied, gone_runs, gone_breaks, tied_back}
use Rattle.mq_get.proofs.HoldLaws.{tied_roomy, roomy_view}

-- rows have left, and what was beside them
pub record After (removes : List Remove) (x y : PartsValue) : Type 0 where
  pub tied : Tied y
  pub mode : y.mode ≡ x.mode
  pub desk : y.desk ≡ x.desk
  pub reserved : y.log.reserved ≡ x.log.reserved
  pub log : x.log.room ≤ y.log.room + leaving_need removes
  pub body : x.body.room + length x.body.bytes ≤ y.body.room + length y.body.bytes

pub dropped_after : (queue : List ℕ) (l : Leaving) (why : Why) (x : PartsValue) (t : Telling) (y : PartsValue) (u : Telling) → IsDropped queue l why x t y u → x.log.reserved + leaving_need l.removes ≤ x.log.room → Tied x → After l.removes x y
dropped_after queue l why x t y u d room tied =
    let w = wrote l.removes x d.written d.writes in
    record {
      tied = subst Tied (sym d.gone) (tied_out l.removes queue l.idents x d.written w (λ up. room) tied);
      mode = ap (λ (z : PartsValue). z.mode) d.gone ∙ ap (λ (z : PartsValue). z.mode) w.same;
      desk = ap (λ (z : PartsValue). z.desk) d.gone ∙ ap (λ (z : PartsValue). z.desk) w.same;
      reserved = ap (λ (z : PartsValue). z.log.reserved) d.gone ∙ w.reserved;
      log = let a = ap (λ (z : PartsValue). z.log.room) d.gone in omega (arith, a, w.room);
      body = let a = ap (λ (z : PartsValue). z.body.room + length z.body.bytes) d.gone in omega (arith, a, w.body);
    }

pub dropped_up : (queue : List ℕ) (l : Leaving) (why : Why) (x : PartsValue) (t : Telling) (y : PartsValue) (u : Telling) → mode_is_up x.mode ≡ true → IsDropped queue l why x t y u → mode_is_up y.mode ≡ true
dropped_up queue l why x t y u up d = let w = wrote l.removes x d.written d.writes in ap (λ (z : PartsValue). mode_is_up z.mode) d.gone ∙ ap (λ (z : PartsValue). mode_is_up z.mode) w.same ∙ up

-- room was taken: nothing of it is seen
pub seen_roomy : (n : ℕ) (x r : PartsValue) (told : List Did) → IsRoomy n x r → told ≡ [] → seen r told None ≡ seen x [] None
seen_roomy n x r told h none = let plain = roomy_view n x r h in let faults = ap (λ (z : PartsValue). z.log.faults) h.same in let log = ap (λ (z : PartsValue). bodies_in z.log) h.same in λ i. record { plain = plain i; delta = none i; stopped = None; faults = faults i; log = log i }

pub roomy_reserved : (n : ℕ) (x r : PartsValue) → IsRoomy n x r → r.log.reserved ≡ x.log.reserved
roomy_reserved n x r h = ap (λ (z : PartsValue). z.log.reserved) h.same

pub roomy_up : (n : ℕ) (x r : PartsValue) → IsRoomy n x r → mode_is_up x.mode ≡ true → mode_is_up r.mode ≡ true
roomy_up n x r h up = ap (λ (z : PartsValue). mode_is_up z.mode) h.same ∙ up

pub roomy_live : (n : ℕ) (x r : PartsValue) → IsRoomy n x r → mode_is_up x.mode ≡ true → Tied x → r.log.live ≡ true
roomy_live n x r h up t = ((tied_roomy n x r h t).up (roomy_up n x r h up)).live

pub roomy_log : (n need : ℕ) (x r : PartsValue) → IsRoomy n x r → need ≤ n → r.log.reserved + need ≤ r.log.room
roomy_log n need x r h le = let same = roomy_reserved n x r h in omega (arith, same, h.log, le)

-- the room is given back behind the rows that left
pub back_tied : (n : ℕ) (x r y z : PartsValue) → IsRoomy n x r → mode_is_up x.mode ≡ true → Tied x → Tied y → y.log.reserved ≡ r.log.reserved → r.body.room + length r.body.bytes ≤ y.body.room + length y.body.bytes → z ≡ given_back n y → Tied z
back_tied n x r y z h up t ty reserved body e =
    let was = (t.up up).body in
    let same = roomy_reserved n x r h in
    subst Tied (sym e) (tied_back n y (λ u. omega (arith, was, same, reserved, body, h.body)) ty)

-- the expired rows have left
pub cleared : (queue : List ℕ) (mets : List Met) (n : ℕ) (x r mid y : PartsValue) (t u : Telling) (l : Leaving) → l ≡ leaving_met queue mets → n ≡ leaving_need l.removes → t.dids ≡ [] → mode_is_up x.mode ≡ true → Tied x → IsRoomy n x r
    → IsDropped queue l whys.Expired r t mid u → y ≡ given_back n mid → IsCleared queue mets x y u
cleared queue mets n x r mid y t u l is need untold up tied roomy d back =
    let same = seen_roomy n x r t.dids roomy untold in
    let after = dropped_after queue l whys.Expired r t mid u d (roomy_log n (leaving_need l.removes) x r roomy (omega (arith, need))) (tied_roomy n x r roomy tied) in
    let runs : HasRun (leaving_part queue l whys.Expired ∷ []) (seen r t.dids None) (seen mid u.dids None) = dropped_runs queue l whys.Expired r t mid u (roomy_up n x r roomy up) d in
    let gone : HasRun (gone_part whys.Expired queue mets ∷ []) (seen x [] None) (seen mid u.dids None) =
    subst (λ (k : Leaving). HasRun (leaving_part queue k whys.Expired ∷ []) (seen x [] None) (seen mid u.dids None)) is (subst (λ (v : CoreValue). HasRun (leaving_part queue l whys.Expired ∷ []) v (seen mid u.dids None)) same runs) in
    record {
      run = subst (λ (z : PartsValue). HasRun (gone_parts whys.Expired queue mets) (seen x [] None) (seen z u.dids None)) (sym back) (gone_runs whys.Expired queue mets (seen x [] None) (seen mid u.dids None) gone);
      tied = back_tied n x r mid y roomy up tied after.tied after.reserved after.body back;
      mode = ap (λ (z : PartsValue). z.mode) back ∙ after.mode ∙ ap (λ (z : PartsValue). z.mode) roomy.same;
      desk = ap (λ (z : PartsValue). z.desk) back ∙ after.desk ∙ ap (λ (z : PartsValue). z.desk) roomy.same;
    }

-- their write was stopped
pub cut_off : (queue : List ℕ) (mets : List Met) (n : ℕ) (stop : Stop) (x r y : PartsValue) (t u : Telling) (l : Leaving) → l ≡ leaving_met queue mets → t.dids ≡ [] → mode_is_up x.mode ≡ true → Tied x → IsRoomy n x r → IsStopped queue l whys.Expired stop r t y u → IsCutOff stop (gone_parts whys.Expired queue mets) x y u
cut_off queue mets n stop x r y t u l is untold up tied roomy d =
    let same = seen_roomy n x r t.dids roomy untold in
    let told = ap (λ (s : Telling). s.dids) d.told in
    let breaks : HasBroken stop (leaving_part queue l whys.Expired ∷ []) (seen r t.dids None) (seen y t.dids (Some stop)) = stopped_breaks queue l whys.Expired stop r d.written y t.dids (roomy_up n x r roomy up) d.writes d.gone in
    let gone : HasBroken stop (gone_part whys.Expired queue mets ∷ []) (seen x [] None) (seen y t.dids (Some stop)) =
    subst (λ (k : Leaving). HasBroken stop (leaving_part queue k whys.Expired ∷ []) (seen x [] None) (seen y t.dids (Some stop))) is (subst (λ (v : CoreValue). HasBroken stop (leaving_part queue l whys.Expired ∷ []) v (seen y t.dids (Some stop))) same breaks) in
    record {
      broken = subst (λ (ds : List Did). HasBroken stop (gone_parts whys.Expired queue mets) (seen x [] None) (seen y ds (Some stop))) (sym told) (gone_breaks whys.Expired queue mets stop (seen x [] None) (seen y t.dids (Some stop)) gone);
      tied = stopped_tied queue l whys.Expired stop r d.written y d.writes d.gone (tied_roomy n x r roomy tied);
    }

-- a call that halts
pub wanting_meets : {T : Type 0} (x y : PartsValue) (u : Telling) (parts : List Part) (reply : T) → IsWanting x y u → MeetsTold {F = Reason} (seen x [] None) (Do reply parts) (Err halts.NoMemory) (seen y u.dids None)
wanting_meets x y u parts reply w = let plain = roomier_view x y w.room in let faults = ap (λ (z : PartsValue). z.log.faults) w.room.same in record { meets = λ i. record { plain = plain i; delta = w.untold i; stopped = None; faults = faults i }; told = roomier_bodies x y w.room }

pub halt_meets : {T : Type 0} (parts : List Part) (x y : PartsValue) (u : Telling) (reply : T) (halt : Halt Reason) → Halts parts x halt y u → MeetsTold {F = Reason} (seen x [] None) (Do reply parts) (Err halt) (seen y u.dids (stop_of {F = Reason} {T = T} (Err halt)))
halt_meets parts x y u reply (halts.Refused reason) h = absurd h
halt_meets parts x y u reply halts.NoMemory h = wanting_meets x y u parts reply h
halt_meets parts x y u reply (halts.Stopped by) h = broken_meets by parts reply (seen x [] None) (seen y u.dids (Some by)) refl refl h.broken

pub halt_more : (parts more : List Part) (x y : PartsValue) (u : Telling) (halt : Halt Reason) → Halts parts x halt y u → Halts (parts ++ more) x halt y u
halt_more parts more x y u (halts.Refused reason) h = h
halt_more parts more x y u halts.NoMemory h = h
halt_more parts more x y u (halts.Stopped by) h = record { broken = broken_front by parts more (seen x [] None) (seen y u.dids (Some by)) h.broken; tied = h.tied }

pub halt_tied : (parts : List Part) (x y : PartsValue) (u : Telling) (halt : Halt Reason) → Tied x → Halts parts x halt y u → Tied y
halt_tied parts x y u (halts.Refused reason) t h = absurd h
halt_tied parts x y u halts.NoMemory t h = tied_roomier x y h.room t
halt_tied parts x y u (halts.Stopped by) t h = h.tied

-- a get comes to its parts, or halts
pub run_comes : (parts : List Part) (reply : GetAnswer) (x y : PartsValue) (u : Telling) → Tied y → HasRun parts (seen x [] None) (seen y u.dids None) → ComesTo (Do reply parts) x (Ok reply) y u
run_comes parts reply x y u tied run = record { tied = tied; meets = run_meets parts reply (seen x [] None) (seen y u.dids None) refl refl run }

pub halt_comes : (parts : List Part) (reply : GetAnswer) (x y : PartsValue) (u : Telling) (halt : Halt Reason) → Tied x → Halts parts x halt y u → ComesTo (Do reply parts) x (Err halt) y u
halt_comes parts reply x y u halt tied h = record { tied = halt_tied parts x y u halt tied h; meets = halt_meets parts x y u reply halt h }

pub wanting_comes : (parts : List Part) (reply : GetAnswer) (x y : PartsValue) (u : Telling) → Tied x → HasMoreRoom x y → u.dids ≡ [] → ComesTo (Do reply parts) x (Err halts.NoMemory) y u
wanting_comes parts reply x y u tied room untold = halt_comes parts reply x y u halts.NoMemory tied (record { room = room; untold = untold })

-- nothing has changed
pub more_same : (x : PartsValue) → HasMoreRoom x x
more_same x = record { same = refl; log = omega arith; spare = omega arith; rows = omega arith; seats = λ name e. e; body = omega arith }

-- a cursor goes to a row
cursor_part : ℕ → ℕ → Place → Part
cursor_part number handle place = silent (SetCursor number handle place ∷ [])

pub browsed_run : (number handle : ℕ) (place : Place) (c : Connection) (x y : PartsValue) (told : List Did) → mode_is_up x.mode ≡ true → connection_at number x.desk.live ≡ Some c
    → y ≡ record x { desk = record { live = change_connection number (cursor_set handle place) x.desk.live; last = x.desk.last } } → HasRun (silent (SetCursor number handle place ∷ []) ∷ []) (seen x told None) (seen y told None)
browsed_run number handle place c x y told up found e = record {
  plain = ap plain_of e ∙ changed_view x (plain_of x) number c (cursor_set handle place) up refl found ∙ ap (λ (n : ℕ). with_connection n (cursor_set handle place) (plain_of x)) (number_is number x.desk.live c found);
  told = sym (append-nil told);
  later = let f = ap (λ (z : PartsValue). z.log.faults) e in omega (arith, f);
  ran = λ some. some;
  armed = let a = ap (λ (z : PartsValue). z.log.armed) e in omega (arith, a);
  log = ap (λ (z : PartsValue). bodies_in z.log) e;
  records = (tt, tt);
}

pub browsed_tied : (number handle : ℕ) (place : Place) (x y : PartsValue) → y ≡ record x { desk = record { live = change_connection number (cursor_set handle place) x.desk.live; last = x.desk.last } } → Tied x → Tied y
browsed_tied number handle place x y e t =
    let desk : Desk = record { live = change_connection number (cursor_set handle place) x.desk.live; last = x.desk.last } in
    subst Tied (sym e) (tied_seated x (record x { desk = desk }) refl (unit_kept number (cursor_set handle place) (λ c. refl) x.desk.live) t)

-- the expired rows have left, and the row that was taken
pub both_run : (queue : List ℕ) (mets : List Met) (met : Met) (n : ℕ) (x r mid : PartsValue) (t u : Telling) (gone taken : Leaving) → gone ≡ leaving_met queue mets → taken ≡ leaving_met queue (met ∷ []) → t.dids ≡ [] → mode_is_up x.mode ≡ true → IsRoomy n x r → AreDropped queue gone taken r t mid u
    → HasRun (gone_parts whys.Expired queue mets ++ gone_part whys.Got queue (met ∷ []) ∷ []) (seen x [] None) (seen mid u.dids None)
both_run queue mets met n x r mid t u gone taken g k untold up roomy d =
    let was = roomy_up n x r roomy up in
    let same = seen_roomy n x r t.dids roomy untold in
    let one : HasRun (leaving_part queue gone whys.Expired ∷ []) (seen r t.dids None) (seen d.mid d.told.dids None) = dropped_runs queue gone whys.Expired r t d.mid d.told was d.first in
    let first : HasRun (gone_part whys.Expired queue mets ∷ []) (seen x [] None) (seen d.mid d.told.dids None) =
    subst (λ (k : Leaving). HasRun (leaving_part queue k whys.Expired ∷ []) (seen x [] None) (seen d.mid d.told.dids None)) g (subst (λ (v : CoreValue). HasRun (leaving_part queue gone whys.Expired ∷ []) v (seen d.mid d.told.dids None)) same one) in
    let two : HasRun (leaving_part queue taken whys.Got ∷ []) (seen d.mid d.told.dids None) (seen mid u.dids None) = dropped_runs queue taken whys.Got d.mid d.told mid u (dropped_up queue gone whys.Expired r t d.mid d.told was d.first) d.then in
    let then : HasRun (gone_part whys.Got queue (met ∷ []) ∷ []) (seen d.mid d.told.dids None) (seen mid u.dids None) = subst (λ (k : Leaving). HasRun (leaving_part queue k whys.Got ∷ []) (seen d.mid d.told.dids None) (seen mid u.dids None)) k two in
    run_both (gone_parts whys.Expired queue mets) (gone_part whys.Got queue (met ∷ []) ∷ []) (seen x [] None) (seen d.mid d.told.dids None) (seen mid u.dids None)
    (gone_runs whys.Expired queue mets (seen x [] None) (seen d.mid d.told.dids None) first) then

pub both_after : (queue : List ℕ) (n : ℕ) (x r mid : PartsValue) (t u : Telling) (gone taken : Leaving) → n ≡ leaving_need gone.removes + leaving_need taken.removes → Tied x → IsRoomy n x r → AreDropped queue gone taken r t mid u
    → Tied mid × (mid.log.reserved ≡ r.log.reserved) × (r.body.room + length r.body.bytes ≤ mid.body.room + length mid.body.bytes)
both_after queue n x r mid t u gone taken need tied roomy d =
    let room = roomy_log n n x r roomy (omega arith) in
    let one = dropped_after queue gone whys.Expired r t d.mid d.told d.first (omega (arith, room, need)) (tied_roomy n x r roomy tied) in
    let two = dropped_after queue taken whys.Got d.mid d.told mid u d.then (omega (arith, room, need, one.log, one.reserved)) one.tied in
    (two.tied, two.reserved ∙ one.reserved, omega (arith, one.body, two.body))

pub both_stopped : (queue : List ℕ) (mets : List Met) (met : Met) (n : ℕ) (stop : Stop) (x r y : PartsValue) (t u : Telling) (gone taken : Leaving) → gone ≡ leaving_met queue mets → taken ≡ leaving_met queue (met ∷ []) → n ≡ leaving_need gone.removes + leaving_need taken.removes → t.dids ≡ [] → mode_is_up x.mode ≡ true
    → Tied x → IsRoomy n x r → AreStopped queue gone taken stop r t y u → IsCutOff stop (gone_parts whys.Expired queue mets ++ gone_part whys.Got queue (met ∷ []) ∷ []) x y u
both_stopped queue mets met n stop x r y t u gone taken g k need untold up tied roomy (First d) =
    let cut = cut_off queue mets n stop x r y t u gone g untold up tied roomy d in
    record { broken = broken_front stop (gone_parts whys.Expired queue mets) (gone_part whys.Got queue (met ∷ []) ∷ []) (seen x [] None) (seen y u.dids (Some stop)) cut.broken; tied = cut.tied }
both_stopped queue mets met n stop x r y t u gone taken g k need untold up tied roomy (Then mid told first d) =
    let was = roomy_up n x r roomy up in
    let same = seen_roomy n x r t.dids roomy untold in
    let one : HasRun (leaving_part queue gone whys.Expired ∷ []) (seen r t.dids None) (seen mid told.dids None) = dropped_runs queue gone whys.Expired r t mid told was first in
    let ran : HasRun (gone_part whys.Expired queue mets ∷ []) (seen x [] None) (seen mid told.dids None) =
    subst (λ (k : Leaving). HasRun (leaving_part queue k whys.Expired ∷ []) (seen x [] None) (seen mid told.dids None)) g (subst (λ (v : CoreValue). HasRun (leaving_part queue gone whys.Expired ∷ []) v (seen mid told.dids None)) same one) in
    let two : HasBroken stop (leaving_part queue taken whys.Got ∷ []) (seen mid told.dids None) (seen y told.dids (Some stop)) = stopped_breaks queue taken whys.Got stop mid d.written y told.dids (dropped_up queue gone whys.Expired r t mid told was first) d.writes d.gone in
    let cut : HasBroken stop (gone_part whys.Got queue (met ∷ []) ∷ []) (seen mid told.dids None) (seen y u.dids (Some stop)) =
    subst (λ (ds : List Did). HasBroken stop (gone_part whys.Got queue (met ∷ []) ∷ []) (seen mid told.dids None) (seen y ds (Some stop))) (sym (ap (λ (s : Telling). s.dids) d.told))
    (subst (λ (k : Leaving). HasBroken stop (leaving_part queue k whys.Got ∷ []) (seen mid told.dids None) (seen y told.dids (Some stop))) k two) in
    let room = roomy_log n n x r roomy (omega arith) in
    let after = dropped_after queue gone whys.Expired r t mid told first (omega (arith, room, need)) (tied_roomy n x r roomy tied) in
    record {
      broken = broken_behind stop (gone_parts whys.Expired queue mets) (gone_part whys.Got queue (met ∷ []) ∷ []) (seen x [] None) (seen mid told.dids None) (seen y u.dids (Some stop))
          (gone_runs whys.Expired queue mets (seen x [] None) (seen mid told.dids None) ran) cut;
      tied = stopped_tied queue taken whys.Got stop mid d.written y d.writes d.gone after.tied;
    }

pub both_dropped : (queue : List ℕ) (gone taken : Leaving) (x : PartsValue) (t : Telling) (mid : PartsValue) (told : Telling) (result : Result (Unit {0}) Stop) (y : PartsValue) (u : Telling) → IsDropped queue gone whys.Expired x t mid told → Drops queue taken whys.Got mid told result y u → DropsBoth queue gone taken x t result y u
both_dropped queue gone taken x t mid told (Ok ok) y u one two = record { mid = mid; told = told; first = one; then = two }
both_dropped queue gone taken x t mid told (Err stop) y u one two = Then mid told one two

-- what leaves, of rows that a scan met
pub leaving_short : (queue : List ℕ) (mets : List Met) (l : Leaving) → l ≡ leaving_met queue mets → leaving_need (removes_met queue mets) < 4294967296 → leaving_need l.removes < 4294967296
leaving_short queue mets l e short = let same = ap (λ (k : Leaving). leaving_need k.removes) e in omega (arith, same, short)

pub leaving_long : (queue : List ℕ) (mets : List Met) (l : Leaving) → l ≡ leaving_met queue mets → length l.idents ≡ length mets
leaving_long queue mets l e = ap (λ (k : Leaving). length k.idents) e ∙ length-map mets met_ident

pub one_need : (queue : List ℕ) (met : Met) (l : Leaving) → l ≡ leaving_met queue (met ∷ []) → leaving_need l.removes ≤ 79
one_need queue met l e = let same = ap (λ (k : Leaving). leaving_need k.removes) e in let one = by met.persistent in omega (arith, same, one)
  where
    by : (b : Bool) → leaving_need (cond b (record { queue = queue; ident = met.ident } ∷ []) []) ≤ 79
    by true = omega arith
    by false = omega arith

pub drop_body : (queue : List ℕ) (l : Leaving) (x : PartsValue) (t : Telling) (y : PartsValue) (u : Telling) → IsDropped queue l whys.Expired x t y u → x.body.room + length x.body.bytes ≤ y.body.room + length y.body.bytes
drop_body queue l x t y u d = let w = wrote l.removes x d.written d.writes in let a = ap (λ (z : PartsValue). z.body.room + length z.body.bytes) d.gone in omega (arith, a, w.body)

-- room that is given back is not seen
pub back_run : (n : ℕ) (v : CoreValue) (parts : List Part) (y z : PartsValue) (told : List Did) → z ≡ given_back n y → HasRun parts v (seen y told None) → HasRun parts v (seen z told None)
back_run n v parts y z told e h = subst (λ (w : PartsValue). HasRun parts v (seen w told None)) (sym e) h

-- room that is given back where memory is wanting
with_room : PartsValue → Buffered → PartsValue → PartsValue
with_room y body x = record x { ends = roomier_ends x.ends y.ends; log = record x.log { room = y.log.room; spare = y.log.spare }; body = body }

pub gave_more : (n : ℕ) (x y z : PartsValue) → HasMoreRoom x y → z ≡ given_back n y → IsGivenBack n x z
unfolding with_room
gave_more n x y z h e = subst (IsGivenBack n x) (sym e) (record { same = ap (with_room y (given_back n y).body) h.same; log = h.log; spare = h.spare; rows = h.rows; seats = h.seats; body = omega (arith, h.body) })

pub back_more : (n : ℕ) (x y z : PartsValue) → IsRoomy n x y → IsGivenBack n y z → HasMoreRoom x z
unfolding with_room
back_more n x y z a b =
    let spare = ap (λ (w : PartsValue). w.log.spare) a.same in
    let rows = ap (λ (w : PartsValue). w.ends.rows.room + length w.ends.rows.rows) a.same in
    let seats = ap (λ (w : PartsValue). w.ends.bound.seats) a.same in
    record { same = b.same ∙ ap (with_room z z.body) a.same; log = omega (arith, a.more, b.log); spare = omega (arith, spare, b.spare); rows = omega (arith, rows, b.rows); seats = subst (λ (ns : List (List ℕ)). KeepsSeats ns z.ends.bound.seats) seats b.seats; body = omega (arith, a.body, b.body) }
