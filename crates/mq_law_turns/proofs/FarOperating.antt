-- An operator's START, STOP and RESET at a receiver's end, as what they are of the network.
use Rattle.std.proofs.Common.{ℕ, ◌≡◌, Bool, true, false, List, ◌++◌, refl, ◌∙◌}
use Rattle.std.specs.Prelude.{if◌then◌else◌}
use Rattle.mq_sync.specs.declared.data.End.TheVariants as ends
use Rattle.mq_sync.specs.declared.data.ReceiverData.{ReceiverData}
use Rattle.mq_calls.specs.declared.agents.Note.TheVariants as notes
use Rattle.mq_calls.specs.State.{Plain}
use Rattle.mq_calls.specs.Reads.{receiver_data}
use Rattle.mq_calls.specs.Changes.{apply_all}
use Rattle.mq_calls.specs.Steps.{do_all, do_part}
use Rattle.mq_spec_manager.specs.Agents.{harden, harden_part, set_bound}
use Rattle.mq_spec_network.specs.Ledger.{Ledger, change_at}
use Rattle.mq_spec_node.specs.Node.{Node}
use Rattle.mq_spec_node.specs.Deeds.{parts_of}
use Rattle.mq_spec_node.specs.Operators.{close_open, is_open}
use Rattle.mq_sync.specs.Settlement.{receiver_or}
use Rattle.mq_law_channel.specs.Channel.{Channel, Past}
use Rattle.mq_law_channel.specs.Turns.{receiver_numbered, receiver_started, receiver_stopped}
use Rattle.mq_law_channel.specs.Turns as channels
use Rattle.mq_law_story.proofs.from_law_rows.Lists.{bool_case}
use Rattle.mq_law_story.specs.from_law_seen.Seen.{book_of, world_of}
use Rattle.mq_law_batches.specs.from_law_events.Tied.{IsNext}
use Rattle.mq_law_batches.proofs.Wording.{stays, words}
use Rattle.mq_law_node.specs.Ends.{receiver_of}
use Rattle.mq_law_turns.specs.Turns.{IsAtFar, Scene, Taken}
use Rattle.mq_law_turns.proofs.Parts.{next_mid, part_stays, world_behind}
use Rattle.mq_law_turns.proofs.Taking.{bound_stays, quiet, same_taken, says, taken_on}

pub starts : (z : Scene) (n : Node) (x : Channel) (y : Past) (l : Ledger) (rs : List Plain) → IsAtFar z n x y l → IsNext z.receiver n.manager n.manager z.managers rs → Taken z (world_of z.scenario z.given rs) (book_of l) (receiver_started x) y
starts z n x y l rs a h = quiet z n x (receiver_started x) y l rs a refl h

pub resets : (z : Scene) (n : Node) (x : Channel) (y : Past) (l : Ledger) (last : ℕ) (rs : List Plain) → IsAtFar z n x y l → IsNext z.receiver n.manager (do_part (harden_part z.place.channel (notes.SeqSet ends.Receiver last) n.manager) n.manager) z.managers rs
    → Taken z (world_of z.scenario z.given rs) (book_of l) (receiver_numbered last x) y
resets z n x y l last rs a h =
    let c : List ℕ = z.place.channel in
    let p : Plain = n.manager in
    let part = harden_part c (notes.SeqSet ends.Receiver last) p in
    let q : Plain = apply_all part.changes p in
    let e = world_behind z.scenario z.given z.receiver p q _ z.managers rs h (part_stays part p) in
    let f = words z.scenario z.given z.receiver p z.managers (change_at z.receiver (λ (o : Plain). q) z.managers) c (notes.SeqSet ends.Receiver last) tt (next_mid z.receiver p q _ z.managers rs h) in
    taken_on z (world_of z.scenario z.given rs) l (receiver_numbered last x) y (e ∙ f) a.book (same_taken z x (receiver_numbered last x) y a.joint refl)

pub closed_unit : (t : Bool) (d : ReceiverData) → (if t then record d { closed = true } else d).unit ≡ d.unit
closed_unit true d = refl
closed_unit false d = refl

pub stops : (z : Scene) (n : Node) (x : Channel) (y : Past) (l : Ledger) (rs : List Plain) → IsAtFar z n x y l → IsNext z.receiver n.manager (do_all (close_open (receiver_of z.place x.receiver x.kept) n.manager) n.manager) z.managers rs
    → Taken z (world_of z.scenario z.given rs) (book_of l) (receiver_stopped x) y
stops z n x y l rs a h = bool_case (is_open (receiver_data c p))
    (λ t. IsNext z.receiver p (do_all (if t then parts_of (harden c (notes.Closed session) p) ++ parts_of (set_bound c false p) else parts_of (set_bound c false p)) p) z.managers rs → Taken z (world_of z.scenario z.given rs) (book_of l) (receiver_stopped x) y)
    (λ e k. says z n x (receiver_stopped x) y l (notes.Closed session) false rs a tt (closed_unit (channels.is_open x.receives) x.receives) k)
    (λ e k. taken_on z (world_of z.scenario z.given rs) l (receiver_stopped x) y (stays z.scenario z.given z.receiver p _ z.managers rs k (bound_stays c false p)) a.book (same_taken z x (receiver_stopped x) y a.joint (closed_unit (channels.is_open x.receives) x.receives))) h
  where
    c : List ℕ
    c = z.place.channel

    p : Plain
    p = n.manager

    session : ℕ
    session = (receiver_or (receiver_data c p)).session
