-- How a receiver's commit ends.
use Rattle.std.proofs.Common.{◌≡◌, ℕ, ◌+◌, ◌*◌, ◌<◌, ◌^◌, true, List, [], ◌∷◌, ◌++◌, length, ap, arith, sym, subst, ◌∙◌}
use Rattle.std.specs.Prelude.{Some, Ok, flat_map}
use Rattle.mq_log.specs.State.{LogState}
use Rattle.mq_record.specs.Room.{Buffered}
use Rattle.mq_calls.specs.State.Change.{SetReceiver}
use Rattle.mq_calls.specs.Words.{Luw, Plain, logged, need, set_receiver, written, apply, apply_all}
use Rattle.mq_calls.specs.declared.deltas.Did.{Did}
use Rattle.mq_calls.specs.declared.records.LogRecord.{LogRecord}
use Rattle.mq_calls.specs.declared.state.ReceiverSide.{ReceiverSide}
use Rattle.mq_core.specs.declared.parts.Arrival.{Arrival}
use Rattle.mq_core.specs.declared.parts.ChannelEnds.{ChannelEnds}
use Rattle.mq_core.specs.Views.{PartsValue, plain_of}
use Rattle.mq_core.specs.Ties.{EndsReady, Tied, mode_is_up}
use Rattle.mq_core.specs.Counting.{CanCount}
use Rattle.mq_core.specs.Forced.{IsForced, HasMoreRoom, given_back}
use Rattle.mq_core.specs.Values.{bodies_in, behind_record}
use Rattle.mq_core.specs.Writes.{arrival_changes}
use Rattle.mq_core.proofs.ForceLaws.{forced_view}
use Rattle.mq_core.proofs.PutLaws.{tied_roomier, roomier_view}
use Rattle.mq_core.proofs.WriteLaws.{roomier_bodies, forced_bodies}
use Rattle.mq_moves.specs.from_agents.Written.{with_receivers}
use Rattle.mq_moves.proofs.from_agents.EndLaws.{with_ends, ends_view}
use Rattle.mq_law_manager.proofs.Units.{behind}
use Rattle.mq_receive.specs.Standings.{AreFitting, behind_all}
use Rattle.mq_receive.specs.Placed.{IsAwaited, landed_all}
use Rattle.mq_receive.specs.Committed.{batch_part, side_after, with_side, IsDone, IsUnchanged}
use Rattle.mq_receive.proofs.AsideLaws.{set_first, fits_aside}
use Rattle.mq_receive.proofs.AwaitLaws.{IsOnWay, defined_all, on_way_counts, on_way_tied, awaited_view}
use Rattle.mq_receive.proofs.PlacedLaws.{HasLanded, lands_all}

-- It found no memory

pub unchanged : (x y : PartsValue) (told tells : List Did) → HasMoreRoom x y → tells ≡ told → Tied x → IsUnchanged x told y tells
unchanged x y told tells h same t = record {
  plain = roomier_view x y h;
  tied = tied_roomier x y h t;
  told = same;
  bodies = roomier_bodies x y h;
  faults = ap (λ (z : PartsValue). z.log.faults) h.same;
}

pub still_up : (landed : List Arrival) (n : ℕ) (x y : PartsValue) → mode_is_up x.mode ≡ true → IsAwaited landed n x y → mode_is_up y.mode ≡ true
still_up landed n x y up e = ap (λ (z : PartsValue). mode_is_up z.mode) e.same ∙ up

-- It was written

with_rest : ChannelEnds → LogState → Buffered → PartsValue → PartsValue
with_rest ends log body v = record v { ends = ends; log = log; body = body }

ends_by : ReceiverSide → PartsValue → ChannelEnds
ends_by side q = with_receivers (set_receiver side q.ends.receivers) q.ends

pub on_way : (landed : List Arrival) (n : ℕ) (r : LogRecord) (side : ReceiverSide) (x y z : PartsValue) → n ≡ need r → IsAwaited landed n x y → IsForced r (with_side side y) (Ok tt) z → EndsReady (with_receivers (set_receiver side x.ends.receivers) x.ends) x.log.spare → Tied x → IsOnWay landed x (given_back n z)
unfolding with_rest ends_by
on_way landed n r side x y z en e f k t =
    let is = ap (λ (q : PartsValue). q.log) e.same in
    let wrote = f.log in
    record {
      same = ap (with_rest z.ends z.log (given_back n z).body) f.same ∙ ap (with_rest z.ends z.log (given_back n z).body) e.same;
      live = ap (λ (l : LogState). l.live) wrote ∙ ap (λ (l : LogState). l.live) is;
      settled = ap (λ (l : LogState). l.pending) wrote ∙ ap (λ (l : LogState). l.pending) is;
      ends = λ u. subst (EndsReady z.ends) (sym (ap (λ (l : LogState). l.spare) wrote ∙ ap (λ (l : LogState). l.spare) is))
          (subst (λ (e : ChannelEnds). EndsReady e x.log.spare) (sym (ap (λ (q : PartsValue). q.ends) f.same ∙ ap (ends_by side) e.same)) k);
      reserved = ap (λ (l : LogState). l.reserved) wrote ∙ ap (λ (l : LogState). l.reserved) is;
      max = ap (λ (l : LogState). l.max) wrote ∙ ap (λ (l : LogState). l.max) is;
      room = λ u. omega (arith, f.room, e.log, en);
      body = λ u. let w = (t.up u).body in omega (arith, w, e.body, f.body);
    }

set_side : ReceiverSide → Plain → Plain
set_side side p = apply (SetReceiver side.channel side.hardened) p

side_view : (side : ReceiverSide) (y : PartsValue) → mode_is_up y.mode ≡ true → plain_of (with_side side y) ≡ set_side side (plain_of y)
unfolding with_ends set_side
side_view side y up = ends_view (with_receivers (set_receiver side y.ends.receivers) y.ends) y up

log_of : LogRecord → Plain → Plain
log_of r p = logged (Some r) p

-- what is seen before the messages take their places
pub way_view : (landed : List Arrival) (n : ℕ) (r : LogRecord) (side : ReceiverSide) (x y z : PartsValue) → mode_is_up x.mode ≡ true → IsAwaited landed n x y → IsForced r (with_side side y) (Ok tt) z
    → plain_of (given_back n z) ≡ logged (Some r) (apply (SetReceiver side.channel side.hardened) (plain_of x))
unfolding set_side log_of
way_view landed n r side x y z up e f =
    forced_view r (with_side side y) z (still_up landed n x y up e) f ∙ ap (log_of r) (side_view side y (still_up landed n x y up e) ∙ ap (set_side side) (awaited_view landed n x y e))

pub way_lands : (landed : List Arrival) (n : ℕ) (r : LogRecord) (side : ReceiverSide) (x y z : PartsValue) → mode_is_up x.mode ≡ true → n ≡ need r → IsAwaited landed n x y → IsForced r (with_side side y) (Ok tt) z → EndsReady (with_receivers (set_receiver side x.ends.receivers) x.ends) x.log.spare → Tied x → CanCount (plain_of x) → AreFitting landed (plain_of x)
    → 2 * length landed + 2 < 2 ^ 64 → HasLanded landed (given_back n z)
way_lands landed n r side x y z up en e f k t low fits few =
    let w : PartsValue = given_back n z in
    let p : Plain = plain_of x in
    let o = on_way landed n r side x y z en e f k t in
    let there = defined_all landed p fits in
    let still : mode_is_up w.mode ≡ true = ap (λ (q : PartsValue). mode_is_up q.mode) f.same ∙ still_up landed n x y up e in
    lands_all (2 ^ 63 + length landed) landed w (omega (arith, few)) still (on_way_counts landed x w there o t low)
    (subst (AreFitting landed) (sym (way_view landed n r side x y z up e f)) (fits_aside landed (set_receiver side p.channels.receivers) (written r p.log) p fits))
    (on_way_tied landed x w there o t)

rest_by : List Arrival → Plain → Plain
rest_by landed p = behind_all landed p

part_by : List ℕ → Luw → ℕ → List Arrival → Plain → ReceiverSide → Plain
part_by channel unit last landed p side = apply_all (flat_map arrival_changes landed ++ SetReceiver side.channel side.hardened ∷ []) p

pub done : (channel : List ℕ) (unit : Luw) (last : ℕ) (landed : List Arrival) (n : ℕ) (r : LogRecord) (side : ReceiverSide) (x y z w v : PartsValue) (told tells : List Did) → side ≡ side_after channel unit last (plain_of x)
    → mode_is_up x.mode ≡ true → IsAwaited landed n x y → IsForced r (with_side side y) (Ok tt) z → w ≡ given_back n z → HasLanded landed (given_back n z) → v ≡ landed_all landed w
    → tells ≡ told ++ (batch_part channel unit last landed (plain_of x)).delta → IsDone (batch_part channel unit last landed (plain_of x)) r x told v tells
unfolding rest_by part_by
done channel unit last landed n r side x y z w v told tells is up e f back h end says =
    let p : Plain = plain_of x in
    let placed : v ≡ landed_all landed (given_back n z) = end ∙ ap (λ (q : PartsValue). landed_all landed q) back in
    let log : v.log ≡ z.log = ap (λ (q : PartsValue). q.log) placed ∙ h.log in
    let failed = ap (λ (l : LogState). l.faults) log in
    let had : y.log.faults ≡ x.log.faults = ap (λ (q : PartsValue). q.log.faults) e.same in
    let armed : y.log.armed ≡ x.log.armed = ap (λ (q : PartsValue). q.log.armed) e.same in
    record {
      plain = ap plain_of placed ∙ h.view ∙ ap (rest_by landed) (way_view landed n r side x y z up e f)
          ∙ set_first landed side.channel side.hardened (logged (Some r) p)
          ∙ sym (behind (flat_map arrival_changes landed) (SetReceiver side.channel side.hardened ∷ []) (logged (Some r) p))
          ∙ ap (part_by channel unit last landed (logged (Some r) p)) is;
      tied = subst Tied (sym placed) h.tied;
      told = says;
      fits = f.fits;
      bodies = ap bodies_in log ∙ forced_bodies r (with_side side y) z f ∙ ap (λ (q : PartsValue). behind_record (Some r) (bodies_in q.log)) e.same;
      later = omega (arith, failed, had, f.later);
      ran = λ some. let here : 0 < y.log.armed = omega (arith, armed, some) in let more = f.ends.1 here in omega (arith, armed, more);
    }
