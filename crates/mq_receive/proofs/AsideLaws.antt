-- What receivers have hardened, and what the log has, say nothing of how a batch lands.
use Rattle.std.proofs.Common.{◌≡◌, ℕ, Bool, true, false, List, [], ◌∷◌, refl, ap, sym, subst, ◌∙◌}
use Rattle.std.specs.Prelude.{ℤ, Option, Some, None, not, ◌&&◌, if◌then◌else◌, is_some, flat_map}
use Rattle.mq_message.specs.declared.place.Holder.TheVariants as holders
use Rattle.mq_objects.specs.declared.object.TriggerType.{TriggerType}
use Rattle.mq_objects.specs.declared.object.TriggerType.TheVariants as triggers
use Rattle.mq_objects.specs.Names.{local_of, process_of}
use Rattle.mq_calls.specs.State.{LogState}
use Rattle.mq_calls.specs.State.Change.{SetReceiver}
use Rattle.mq_calls.specs.Condition.{by_type, is_served}
use Rattle.mq_calls.specs.Words.{Ident, Message, Holder, LocalQueue, ReceiverData, Plain, stored, has_priority, is_persistent, condition, try_if, place, set_receiver, apply, apply_all}
use Rattle.mq_calls.specs.declared.state.ReceiverSide.{ReceiverSide}
use Rattle.mq_spec_manager.specs.Words.{placed}
use Rattle.mq_spec_manager.specs.Agents.{RowAt, row_of, is_doubted_by, same_flag, Standing, Absent, InDoubtAt, Present, standing_by, drop_row, undoubted}
use Rattle.mq_law_manager.proofs.Units.{behind}
use Rattle.mq_law_manager.proofs.Receiving.{with_log, log_aside}
use Rattle.mq_core.specs.declared.parts.Arrival.{Arrival}
use Rattle.mq_core.specs.Writes.{standing_of, arrival_changes}
use Rattle.mq_receive.specs.Standings.{AreFitting, behind_all}
use Rattle.mq_receive.proofs.AheadLaws.{dropped_as}

abbrev pub with_side : List ReceiverSide → Plain → Plain
with_side rs p = record p { channels = record p.channels { receivers = rs } }

-- the trigger's condition
side_type : (t : TriggerType) (q : LocalQueue) (rs : List ReceiverSide) (p : Plain) → by_type t q (with_side rs p) ≡ by_type t q p
side_type triggers.First q rs p = refl
side_type triggers.Every q rs p = refl
side_type triggers.Depth q rs p = refl
side_type triggers.Never q rs p = refl

side_served : (o : Option LocalQueue) (rs : List ReceiverSide) (p : Plain) → is_served o (with_side rs p) ≡ is_served o p
side_served None rs p = refl
side_served (Some q) rs p = refl

side_condition : (o : Option LocalQueue) (priority : ℤ) (rs : List ReceiverSide) (p : Plain) → condition o priority (with_side rs p) ≡ condition o priority p
side_condition None priority rs p = refl
side_condition (Some q) priority rs p =
    ap (λ (b : Bool). q.trigger && not (stored q.name p).switched_off && has_priority q.trigger_priority priority && b && is_served (local_of q.initiation_queue p.definitions) (with_side rs p) && is_some (process_of q.process p.definitions)) (side_type q.trigger_type q rs p)
    ∙ ap (λ (b : Bool). q.trigger && not (stored q.name p).switched_off && has_priority q.trigger_priority priority && by_type q.trigger_type q p && b && is_some (process_of q.process p.definitions)) (side_served (local_of q.initiation_queue p.definitions) rs p)

side_tried : (b : Bool) (name : List ℕ) (rs : List ReceiverSide) (p : Plain) → try_if b name (with_side rs p) ≡ with_side rs (try_if b name p)
side_tried true name rs p = refl
side_tried false name rs p = refl

side_placed : (queue : List ℕ) (m : Message) (rs : List ReceiverSide) (p : Plain) → apply_all (placed queue m) (with_side rs p) ≡ with_side rs (apply_all (placed queue m) p)
side_placed queue m rs p =
    let q : Plain = place queue m p in
    ap (λ (b : Bool). try_if b queue (with_side rs q)) (side_condition (local_of queue q.definitions) m.md.priority rs q) ∙ side_tried (condition (local_of queue q.definitions) m.md.priority q) queue rs q

side_row : (s : Standing) (i : Ident) (rs : List ReceiverSide) (p : Plain) → apply_all (drop_row i s) (with_side rs p) ≡ with_side rs (apply_all (drop_row i s) p)
side_row Absent i rs p = refl
side_row (InDoubtAt queue) i rs p = refl
side_row Present i rs p = refl

side_off : (b : Bool) (i : Ident) (rs : List ReceiverSide) (p : Plain) → apply_all (undoubted b i) (with_side rs p) ≡ with_side rs (apply_all (undoubted b i) p)
side_off true i rs p = refl
side_off false i rs p = refl

place_by : List ℕ → Message → Plain → Plain
place_by queue m p = apply_all (placed queue m) p

off_by : Bool → Ident → Plain → Plain
off_by b i p = apply_all (undoubted b i) p

side_by : List ReceiverSide → Plain → Plain
side_by rs p = with_side rs p

pub side_one : (a : Arrival) (rs : List ReceiverSide) (p : Plain) → apply_all (arrival_changes a) (with_side rs p) ≡ with_side rs (apply_all (arrival_changes a) p)
unfolding place_by off_by side_by
side_one a rs p =
    let m : Message = a.message in
    let s = standing_of a.dropped in
    let b = is_persistent m in
    let x : Plain = apply_all (drop_row m.ident s) p in
    let y : Plain = apply_all (undoubted b m.ident) x in
    dropped_as m s a.queue (with_side rs p)
    ∙ ap (place_by a.queue m) (ap (off_by b m.ident) (side_row s m.ident rs p) ∙ side_off b m.ident rs x)
    ∙ side_placed a.queue m rs y
    ∙ sym (ap (side_by rs) (dropped_as m s a.queue p))

rest_by : List Arrival → Plain → Plain
rest_by landed p = behind_all landed p

pub side_all : (landed : List Arrival) (rs : List ReceiverSide) (p : Plain) → behind_all landed (with_side rs p) ≡ with_side rs (behind_all landed p)
unfolding rest_by side_by
side_all [] rs p = refl
side_all (a ∷ landed) rs p =
    let x : Plain = apply_all (arrival_changes a) p in
    behind (arrival_changes a) (flat_map arrival_changes landed) (with_side rs p) ∙ ap (rest_by landed) (side_one a rs p) ∙ side_all landed rs x
    ∙ sym (ap (side_by rs) (behind (arrival_changes a) (flat_map arrival_changes landed) p))

-- they stay themselves
receivers_tried : (b : Bool) (queue : List ℕ) (p : Plain) → (try_if b queue p).channels.receivers ≡ p.channels.receivers
receivers_tried true queue p = refl
receivers_tried false queue p = refl

receivers_off : (b : Bool) (i : Ident) (p : Plain) → (apply_all (undoubted b i) p).channels.receivers ≡ p.channels.receivers
receivers_off true i p = refl
receivers_off false i p = refl

receivers_row : (s : Standing) (i : Ident) (p : Plain) → (apply_all (drop_row i s) p).channels.receivers ≡ p.channels.receivers
receivers_row Absent i p = refl
receivers_row (InDoubtAt queue) i p = refl
receivers_row Present i p = refl

receivers_one : (a : Arrival) (p : Plain) → (apply_all (arrival_changes a) p).channels.receivers ≡ p.channels.receivers
receivers_one a p =
    let m : Message = a.message in
    let s = standing_of a.dropped in
    let x : Plain = apply_all (drop_row m.ident s) p in
    let y : Plain = apply_all (undoubted (is_persistent m) m.ident) x in
    let q : Plain = place a.queue m y in
    ap (λ (z : Plain). z.channels.receivers) (dropped_as m s a.queue p) ∙ receivers_tried (condition (local_of a.queue q.definitions) m.md.priority q) a.queue q ∙ receivers_off (is_persistent m) m.ident x ∙ receivers_row s m.ident p

pub receivers_all : (landed : List Arrival) (p : Plain) → (behind_all landed p).channels.receivers ≡ p.channels.receivers
receivers_all [] p = refl
receivers_all (a ∷ landed) p =
    ap (λ (z : Plain). z.channels.receivers) (behind (arrival_changes a) (flat_map arrival_changes landed) p) ∙ receivers_all landed (apply_all (arrival_changes a) p) ∙ receivers_one a p

-- so a receiver's data may be set before or after
set_by : List ReceiverSide → ReceiverSide → Plain → Plain
set_by rs side p = with_side (set_receiver side rs) p

pub set_first : (landed : List Arrival) (channel : List ℕ) (d : ReceiverData) (p : Plain) → behind_all landed (apply (SetReceiver channel d) p) ≡ apply (SetReceiver channel d) (behind_all landed p)
unfolding set_by
set_first landed channel d p =
    let side : ReceiverSide = record { channel = channel; hardened = d } in
    side_all landed (set_receiver side p.channels.receivers) p ∙ ap (λ (rs : List ReceiverSide). set_by rs side (behind_all landed p)) (sym (receivers_all landed p))

-- idents stand as they did
side_doubted : (i : Ident) (by : Option Holder) (rs : List ReceiverSide) (l : LogState) (p : Plain) → is_doubted_by i by (with_side rs (with_log l p)) ≡ is_doubted_by i by p
side_doubted i None rs l p = refl
side_doubted i (Some (holders.Unit n)) rs l p = refl
side_doubted i (Some (holders.Batch c)) rs l p = refl

doubt_or : Bool → List ℕ → Standing
doubt_or b queue = if b then InDoubtAt queue else Present

side_standing : (m : Message) (o : Option RowAt) (rs : List ReceiverSide) (l : LogState) (p : Plain) → standing_by m o (with_side rs (with_log l p)) ≡ standing_by m o p
unfolding doubt_or
side_standing m None rs l p = refl
side_standing m (Some at) rs l p = ap (λ (b : Bool). doubt_or (b && same_flag (is_persistent m) (is_persistent at.row.message)) at.queue) (side_doubted m.ident at.row.by rs l p)

log_by : LogState → Plain → Plain
log_by l p = with_log l p

pub fits_aside : (landed : List Arrival) (rs : List ReceiverSide) (l : LogState) (p : Plain) → AreFitting landed p → AreFitting landed (with_side rs (with_log l p))
unfolding side_by
fits_aside [] rs l p h = tt
fits_aside (a ∷ landed) rs l p h = (
  record { standing = side_standing a.message (row_of a.message.ident p.queues) rs l p ∙ h.0.standing; defined = h.0.defined; named = h.0.named },
  subst (AreFitting landed) (sym (side_one a rs (with_log l p) ∙ ap (side_by rs) (log_aside (arrival_changes a) l p))) (fits_aside landed rs l (apply_all (arrival_changes a) p) h.1),
)
