-- A receiver's commit that was not written.
use Rattle.std.proofs.Common.{◌≡◌, ℕ, true, List, [], ap, arith, sym, subst, ◌∙◌}
use Rattle.std.specs.Prelude.{Option, Some, Err}
use Rattle.mq_base.specs.Outside.{Rose}
use Rattle.mq_disk.specs.declared.cutter.Stop.{Stop}
use Rattle.mq_log.specs.Force.{Stops}
use Rattle.mq_calls.specs.Words.{Luw, Noted, Plain, Part, freeze, note_of}
use Rattle.mq_calls.specs.declared.deltas.Did.{Did}
use Rattle.mq_calls.specs.declared.records.LogRecord.{LogRecord}
use Rattle.mq_calls.specs.declared.state.ReceiverSide.{ReceiverSide}
use Rattle.mq_core.specs.declared.parts.Arrival.{Arrival}
use Rattle.mq_core.specs.declared.parts.StoppedWrite.{StoppedWrite}
use Rattle.mq_core.specs.declared.parts.StoppedWrite.TheVariants as writes
use Rattle.mq_core.specs.Views.{PartsValue, plain_of, frozen_of, noted}
use Rattle.mq_core.specs.Ties.{Tied, mode_is_up}
use Rattle.mq_core.specs.Forced.{IsForced, HasMoreRoom}
use Rattle.mq_core.specs.Values.{bodies_in, pending_record}
use Rattle.mq_core.proofs.ForceLaws.{frozen_view, tied_downed}
use Rattle.mq_core.proofs.PutLaws.{tied_roomier}
use Rattle.mq_core.proofs.WriteLaws.{stopped_bodies}
use Rattle.mq_moves.specs.from_agents.{Unwritten}
use Rattle.mq_moves.specs.from_agents.UnwrittenVariants as unwritten
use Rattle.mq_receive.specs.Placed.{IsAwaited}
use Rattle.mq_receive.specs.Committed.{batch_part, WritesBatch, unawaited, given_up, IsBroken, Commits}
use Rattle.mq_receive.proofs.CommitLaws.{still_up, unchanged}
use Rattle.mq_receive.proofs.AwaitLaws.{unawaited_more}

unawaited_by : List Arrival → PartsValue → PartsValue
unawaited_by landed x = unawaited landed x

still_forced : (landed : List Arrival) (r : LogRecord) (stop : Stop) (y z : PartsValue) → IsForced r y (Err stop) z → IsForced r (unawaited landed y) (Err stop) (unawaited landed z)
unfolding unawaited_by
still_forced landed r stop y z f = record { same = ap (unawaited_by landed) f.same; log = f.log; fits = f.fits; size = f.size; ends = f.ends; room = f.room; body = f.body; later = f.later; disk = f.disk }

freeze_by : StoppedWrite → ℕ → PartsValue → Plain
freeze_by write left x = freeze (noted (frozen_of x) (Some write)) left (plain_of x)

pub broken : (channel : List ℕ) (unit : Luw) (last : ℕ) (landed : List Arrival) (n : ℕ) (r : LogRecord) (stop : Stop) (x y z w : PartsValue) (told tells : List Did) → noted (frozen_of x) (Some (writes.Received channel unit last landed)) ≡ note_of (batch_part channel unit last landed (plain_of x)) (batch_part channel unit last landed (plain_of x)).forced
    → (batch_part channel unit last landed (plain_of x)).forced ≡ Some r → mode_is_up x.mode ≡ true → IsAwaited landed n x y → IsForced r y (Err stop) z → w ≡ given_up (unwritten.Stopped stop) channel unit last landed z → tells ≡ told → Tied x → IsBroken (batch_part channel unit last landed (plain_of x)) r stop x told w tells
unfolding freeze_by
broken channel unit last landed n r stop x y z w told tells note is up e f down same t =
    let write : StoppedWrite = writes.Received channel unit last landed in
    let part : Part = batch_part channel unit last landed (plain_of x) in
    let h = unawaited_more landed n x y e in
    let still = still_forced landed r stop y z f in
    let armed : w.log.armed ≡ z.log.armed = ap (λ (q : PartsValue). q.log.armed) down in
    let failed : w.log.faults ≡ z.log.faults = ap (λ (q : PartsValue). q.log.faults) down in
    let before : y.log.armed ≡ x.log.armed = ap (λ (q : PartsValue). q.log.armed) e.same in
    let had : y.log.faults ≡ x.log.faults = ap (λ (q : PartsValue). q.log.faults) e.same in
    record {
      plain = ap plain_of down ∙ frozen_view write r (unawaited landed y) (unawaited landed z) stop (still_up landed n x y up e) still ∙ ap (freeze_by write z.log.armed) h.same
          ∙ ap (λ (o : Option Noted). freeze o z.log.armed (plain_of x)) note ∙ ap (λ (o : Option LogRecord). freeze (note_of part o) z.log.armed (plain_of x)) is ∙ ap (λ (left : ℕ). freeze (note_of part (Some r)) left (plain_of x)) (sym armed);
      tied = subst Tied (sym down) (tied_downed write r [] (unawaited landed y) (unawaited landed z) stop still (tied_roomier x (unawaited landed y) h t));
      told = same;
      fits = f.fits;
      bodies = ap (λ (q : PartsValue). bodies_in q.log) down ∙ stopped_bodies r y z stop f ∙ ap (λ (q : PartsValue). pending_record (Some r) (bodies_in q.log)) e.same;
      ends = subst (λ (left : ℕ). Stops x.log.armed (Err stop) left) (sym armed) (subst (λ (k : ℕ). Stops k (Err stop) z.log.armed) before f.ends);
      later = omega (arith, failed, had, f.later);
      rose = λ d. subst (λ (k : ℕ). Rose x.log.faults k) (sym failed) (subst (λ (k : ℕ). Rose k z.log.faults) had (f.disk (ap (λ (s : Stop). Err s) d)));
    }

-- either of them
pub not_written : (u : Unwritten) (channel : List ℕ) (unit : Luw) (last : ℕ) (landed : List Arrival) (n : ℕ) (r : LogRecord) (side : ReceiverSide) (x y z w : PartsValue) (told tells : List Did) → noted (frozen_of x) (Some (writes.Received channel unit last landed)) ≡ note_of (batch_part channel unit last landed (plain_of x)) (batch_part channel unit last landed (plain_of x)).forced
    → (batch_part channel unit last landed (plain_of x)).forced ≡ Some r → mode_is_up x.mode ≡ true → IsAwaited landed n x y → WritesBatch r side y (Err u) z → w ≡ given_up u channel unit last landed z → tells ≡ told → Tied x → Commits (batch_part channel unit last landed (plain_of x)) r x told (Err u) w tells
unfolding unawaited_by
not_written unwritten.NoMemory channel unit last landed n r side x y z w told tells note is up e f down same t =
    unchanged x w told tells (subst (HasMoreRoom x) (sym (down ∙ ap (unawaited_by landed) f)) (unawaited_more landed n x y e)) same t
not_written (unwritten.Stopped stop) channel unit last landed n r side x y z w told tells note is up e f down same t = broken channel unit last landed n r stop x y z w told tells note is up e f down same t
