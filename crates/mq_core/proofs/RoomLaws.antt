-- Parts of which the queues, the log and the record's bytes have changed.
use Rattle.std.proofs.Common.{◌≡◌, ℕ, ◌+◌, ◌-◌, ◌∙◌, sym, ap, arith}
use Rattle.std.specs.Prelude.{List, [], ◌++◌, length}
use Rattle.std.proofs.lemmas.List.{append-nil}
use Rattle.mq_message.specs.declared.message.Message.{Message}
use Rattle.mq_log.specs.State.{LogState}
use Rattle.mq_sides.specs.from_record.Room.{Buffered, with_piece}
use Rattle.mq_sides.specs.from_record.Records.{record_bytes, unit_front, add_bytes, IsAdd, IsRecord}
use Rattle.mq_core.specs.Writes.{added}
use Rattle.mq_core.specs.Forced.{IsReserved, HasMoreRoom, returned}
use Rattle.mq_place.specs.States.{QueueState, QueueStates, change_state, expecting, unpended}
use Rattle.mq_core.specs.Views.{PartsValue}
use Rattle.mq_core.proofs.PutLaws.{unpend_expect, more_room}

unfoldable pub with_parts : QueueStates → LogState → Buffered → PartsValue → PartsValue
with_parts queues log body x = record x { queues = queues; log = log; body = body }

unfoldable pub expected_queues : List ℕ → QueueStates → QueueStates
expected_queues queue q = record q { states = change_state queue expecting q.states }

unpended_queues : List ℕ → QueueStates → QueueStates
unpended_queues queue q = record q { states = change_state queue unpended q.states }

with_list : QueueStates → List QueueState → QueueStates
with_list q states = record q { states = states }

-- a put that is given up
pub given_up_queues : (queue : List ℕ) (x y z : QueueStates) → y ≡ record x { states = change_state queue expecting x.states } → z ≡ record y { states = change_state queue unpended y.states } → z ≡ x
unfolding unpended_queues with_list
given_up_queues queue x y z e f = f ∙ ap (unpended_queues queue) e ∙ ap (with_list x) (unpend_expect queue x.states)

-- The bytes of the record that adds one message, piece by piece.
pub put_pieces : (queue : List ℕ) (m : Message) (front : List ℕ) (c p a : Buffered) → c.bytes ≡ [] → p ≡ with_piece front c → a ≡ with_piece (add_bytes (record { queue = queue; message = m })) p → a.bytes ≡ front ++ add_bytes (record { queue = queue; message = m })
put_pieces queue m front c p a none first second =
    ap (λ (b : Buffered). b.bytes) second ∙ ap (λ (b : Buffered). b.bytes ++ add_bytes (record { queue = queue; message = m })) first ∙ ap (λ (bs : List ℕ). (bs ++ front) ++ add_bytes (record { queue = queue; message = m })) none

pub put_bytes_are : (queue : List ℕ) (m : Message) (front : List ℕ) (c p a : Buffered) → c.bytes ≡ [] → front ≡ unit_front 1 0 → p ≡ with_piece front c → a ≡ with_piece (add_bytes (record { queue = queue; message = m })) p → a.bytes ≡ record_bytes (added queue m)
put_bytes_are queue m front c p a none is first second =
    put_pieces queue m front c p a none first second
    ∙ ap (λ (bs : List ℕ). bs ++ add_bytes (record { queue = queue; message = m })) is
    ∙ ap (λ (bs : List ℕ). unit_front 1 0 ++ bs) (sym (append-nil (add_bytes (record { queue = queue; message = m }))) ∙ sym (append-nil (add_bytes (record { queue = queue; message = m }) ++ [])))

pub put_is_record : (queue : List ℕ) (m : Message) → IsAdd (record { queue = queue; message = m }) → IsRecord (added queue m)
put_is_record queue m a = (record { count = omega arith; each = (a, tt) }, record { count = omega arith; each = tt })

-- what is given back was reserved
with_back : ℕ → Buffered → PartsValue → PartsValue
with_back n body x = record x { log = record x.log { reserved = x.log.reserved - n }; body = record { bytes = []; room = body.room + length body.bytes - n } }

with_reserved : PartsValue → ℕ → Buffered → ℕ → PartsValue
with_reserved x room body n = record x { log = record x.log { reserved = n; room = room }; body = body }

pub returned_room : (n : ℕ) (x r : PartsValue) → IsReserved n x r → HasMoreRoom x (returned n r)
unfolding with_back with_reserved
returned_room n x r h =
    let back : x.log.reserved + n - n ≡ x.log.reserved = omega arith in
    more_room x (returned n r) (ap (with_back n r.body) h.same ∙ ap (with_reserved x r.log.room (returned n r).body) back) h.more (omega (arith, h.body))
