-- What an entry of a PUMP pops is what its end saw: a sender that pushes saw nothing, and a receiver that pushes looks at nothing. And turns of ends take
-- memory of their own accord.
use Rattle.std.proofs.Common.{ℕ, ◌≡◌, ◌⊎◌, Bool, true, false, refl, ap, sym, inl, inr}
use Rattle.std.specs.Prelude.{if◌then◌else◌, Option, Some, None, is_some}
use Rattle.std.specs.Option.{option_map}
use Rattle.mq_calls.specs.declared.agents.PrepareFault.{PrepareFault}
use Rattle.mq_codes.specs.declared.reason.Reason.{Reason}
use Rattle.mq_frame.specs.declared.frame.Frame.{Frame}
use Rattle.mq_frame.specs.declared.frame.Seen.{Seen}
use Rattle.mq_frame.specs.declared.frame.Seen.TheVariants as items
use Rattle.mq_sync.specs.declared.data.Stock.{Stock}
use Rattle.mq_sync.specs.declared.unit.Unit.{Unit as Luw}
use Rattle.mq_sender.specs.declared.state.Sender.{Sender}
use Rattle.mq_sender.specs.declared.turns.SenderDoes.{SenderDoes}
use Rattle.mq_sender.specs.declared.turns.SenderDoes.TheVariants as does
use Rattle.mq_sender.specs.After.{number_sent}
use Rattle.mq_sender.specs.States.{awaits, timed_out}
use Rattle.mq_sender.specs.Table.{sender_lines, sender_next, waits}
use Rattle.mq_receiver.specs.States.{owed_frame}
use Rattle.mq_receiver.specs.After.{last_by}
use Rattle.mq_receiver.specs.declared.state.Owed.{Owed}
use Rattle.mq_receiver.specs.declared.turns.ReceiverDoes.{ReceiverDoes}
use Rattle.mq_receiver.specs.declared.turns.ReceiverDoes.TheVariants as takes
use Rattle.mq_receiver.specs.Table.{receiver_next}
use Rattle.mq_calls.specs.Steps.{Step}
use Rattle.mq_calls.specs.Steps.Step.{Do, Refuse}
use Rattle.mq_spec_manager.specs.Agents.{prepare, receive, stock}
use Rattle.mq_spec_node.specs.Node.{Node, ReceiverEnd, SenderEnd}
use Rattle.mq_spec_node.specs.Receivers.{is_receiver_defined, place_deed, receiver_deed, receiver_deed_by}
use Rattle.mq_spec_node.specs.Senders.{after_timeout, prepare_deed, sender_deed, sender_deed_by, timeout_deed}
use Rattle.mq_spec_network.specs.Steps.{popped_by, pushed_of}
use Rattle.mq_law_channel.proofs.Told.{by_lines}
use Rattle.mq_law_node.proofs.Named.{bool_case}
use Rattle.mq_law_pump.specs.Deeds.{EachWantsNone}

-- SENDERS
abbrev SeesNone : Seen → SenderDoes → Type 0
SeesNone seen does.PushBind = waits seen ≡ false
SeesNone seen (does.Begin k count) = waits seen ≡ false
SeesNone seen (does.PushMsg index) = waits seen ≡ false
SeesNone seen does.PushEnd = waits seen ≡ false
SeesNone seen _ = Unit {0}

sees_none : (m : Sender) (seen : Seen) (st : Stock) → SeesNone seen (sender_next m seen st)
sees_none m seen st = by_lines (SeesNone seen) does.Still (sender_lines m seen st) (
  (λ e. tt),
  λ x1. (
    (λ e. tt),
    λ x2. (
      (λ e. tt),
      λ x3. (
        (λ e. tt),
        λ x4. (
          (λ e. tt),
          λ x5. (
            (λ e. x4),
            λ x6. ((λ e. tt), λ x7. ((λ e. x4), λ x8. ((λ e. x4), λ x9. ((λ e. tt), λ x10. ((λ e. x4), λ x11. tt))))),
          ),
        ),
      ),
    ),
  ),
)

is_nothing : (seen : Seen) → waits seen ≡ false → seen ≡ items.Nothing
is_nothing items.Nothing h = refl
is_nothing (items.Frame f) h = absurd cc
is_nothing items.Spoiled h = absurd cc

none_popped : (seen : Seen) (o : Option Frame) → waits seen ≡ false → popped_by seen o ≡ seen
none_popped seen None h = refl
none_popped seen (Some f) h = sym (is_nothing seen h)

prepared_popped : (seen : Seen) (e : SenderEnd) (s : Step PrepareFault (Unit {0})) (n : Node) → popped_by seen (prepare_deed e s n).pushed ≡ seen
prepared_popped seen e (Refuse fault) n = refl
prepared_popped seen e (Do reply parts) n = refl

popped_as : (stamp : ℕ) (e : SenderEnd) (seen : Seen) (x : SenderDoes) (n : Node) → SeesNone seen x → popped_by seen (pushed_of (sender_deed_by stamp e x n)) ≡ seen
popped_as stamp e seen does.Still n h = refl
popped_as stamp e seen does.Ignore n h = refl
popped_as stamp e seen (does.HardenSession session) n h = refl
popped_as stamp e seen does.PushBind n h = none_popped seen (pushed_of (sender_deed_by stamp e does.PushBind n)) h
popped_as stamp e seen does.Expire n h = refl
popped_as stamp e seen (does.Begin k count) n h = none_popped seen (pushed_of (sender_deed_by stamp e (does.Begin k count) n)) h
popped_as stamp e seen (does.PushMsg index) n h = none_popped seen (pushed_of (sender_deed_by stamp e (does.PushMsg index) n)) h
popped_as stamp e seen does.Prepare n h = prepared_popped seen e (prepare e.channel (number_sent e.machine.state e.machine.kept.last) n.manager) n
popped_as stamp e seen does.PushEnd n h = none_popped seen (pushed_of (sender_deed_by stamp e does.PushEnd n)) h
popped_as stamp e seen (does.Bound settle partner) n h = refl
popped_as stamp e seen does.Commit n h = refl
popped_as stamp e seen (does.Backout reason) n h = refl

pub senders_pop : (stamp : ℕ) (e : SenderEnd) (seen : Seen) (n : Node) → popped_by seen (pushed_of (sender_deed stamp e seen n)) ≡ seen
senders_pop stamp e seen n = popped_as stamp e seen (sender_next e.machine seen (stock e.channel n.manager)) n (sees_none e.machine seen (stock e.channel n.manager))

prepared_wants : (e : SenderEnd) (s : Step PrepareFault (Unit {0})) (n : Node) → (prepare_deed e s n).wanting ≡ None
prepared_wants e (Refuse fault) n = refl
prepared_wants e (Do reply parts) n = refl

wants_by : (stamp : ℕ) (e : SenderEnd) (x : SenderDoes) (n : Node) → EachWantsNone (sender_deed_by stamp e x n)
wants_by stamp e does.Still n = tt
wants_by stamp e does.Ignore n = refl
wants_by stamp e (does.HardenSession session) n = refl
wants_by stamp e does.PushBind n = refl
wants_by stamp e does.Expire n = refl
wants_by stamp e (does.Begin k count) n = refl
wants_by stamp e (does.PushMsg index) n = refl
wants_by stamp e does.Prepare n = prepared_wants e (prepare e.channel (number_sent e.machine.state e.machine.kept.last) n.manager) n
wants_by stamp e does.PushEnd n = refl
wants_by stamp e (does.Bound settle partner) n = refl
wants_by stamp e does.Commit n = refl
wants_by stamp e (does.Backout reason) n = refl

pub senders_want : (stamp : ℕ) (e : SenderEnd) (seen : Seen) (n : Node) → EachWantsNone (sender_deed stamp e seen n)
senders_want stamp e seen n = wants_by stamp e (sender_next e.machine seen (stock e.channel n.manager)) n

pub timeouts_want : (e : SenderEnd) (n : Node) → EachWantsNone (timeout_deed e n)
timeouts_want e n = bool_case (awaits e.machine.state) (λ b. EachWantsNone (if b then Some (after_timeout e (timed_out e.machine) n) else None)) (λ x. refl) (λ x. tt)

-- RECEIVERS
owed_or : (stamp : ℕ) (o : Option Owed) → (option_map (owed_frame stamp) o ≡ None) ⊎ (is_some o ≡ true)
owed_or stamp None = inl refl
owed_or stamp (Some o) = inr refl

placed_silent : (e : ReceiverEnd) (unit : Luw) (seen : Seen) (s : Step Reason (Unit {0})) (n : Node) → (place_deed e unit seen s n).pushed ≡ None
placed_silent e unit seen (Refuse reason) n = refl
placed_silent e unit seen (Do reply parts) n = refl

pushes_by : (stamp : ℕ) (e : ReceiverEnd) (seen : Seen) (x : ReceiverDoes) (n : Node) → (pushed_of (receiver_deed_by stamp e seen x n) ≡ None) ⊎ (is_some e.machine.owes ≡ true)
pushes_by stamp e seen takes.Still n = inl refl
pushes_by stamp e seen takes.Ignore n = inl refl
pushes_by stamp e seen takes.PushOwed n = owed_or stamp e.machine.owes
pushes_by stamp e seen takes.Bind n = inl refl
pushes_by stamp e seen takes.Keep n = inl refl
pushes_by stamp e seen (takes.Place unit) n = inl (placed_silent e unit seen (receive e.channel unit (last_by seen e.machine.last) e.kept n.manager) n)
pushes_by stamp e seen takes.Again n = inl refl
pushes_by stamp e seen takes.Close n = inl refl

popped_or : (seen : Seen) (o : Option Frame) (owes : Bool) → (o ≡ None) ⊎ (owes ≡ true) → (popped_by seen o ≡ seen) ⊎ (owes ≡ true)
popped_or seen o owes (inl none) = inl (ap (popped_by seen) none)
popped_or seen o owes (inr is) = inr is

pub receivers_pop : (stamp : ℕ) (e : ReceiverEnd) (seen : Seen) (n : Node) → (popped_by seen (pushed_of (receiver_deed stamp e seen n)) ≡ seen) ⊎ (is_some e.machine.owes ≡ true)
receivers_pop stamp e seen n = popped_or seen (pushed_of (receiver_deed stamp e seen n)) (is_some e.machine.owes) (pushes_by stamp e seen (receiver_next e.machine seen (is_receiver_defined e.channel n.manager.definitions)) n)

placed_wants : (e : ReceiverEnd) (unit : Luw) (seen : Seen) (s : Step Reason (Unit {0})) (n : Node) → (place_deed e unit seen s n).wanting ≡ None
placed_wants e unit seen (Refuse reason) n = refl
placed_wants e unit seen (Do reply parts) n = refl

takes_want : (stamp : ℕ) (e : ReceiverEnd) (seen : Seen) (x : ReceiverDoes) (n : Node) → EachWantsNone (receiver_deed_by stamp e seen x n)
takes_want stamp e seen takes.Still n = tt
takes_want stamp e seen takes.Ignore n = refl
takes_want stamp e seen takes.PushOwed n = refl
takes_want stamp e seen takes.Bind n = refl
takes_want stamp e seen takes.Keep n = refl
takes_want stamp e seen (takes.Place unit) n = placed_wants e unit seen (receive e.channel unit (last_by seen e.machine.last) e.kept n.manager) n
takes_want stamp e seen takes.Again n = refl
takes_want stamp e seen takes.Close n = refl

pub receivers_want : (stamp : ℕ) (e : ReceiverEnd) (seen : Seen) (n : Node) → EachWantsNone (receiver_deed stamp e seen n)
receivers_want stamp e seen n = takes_want stamp e seen (receiver_next e.machine seen (is_receiver_defined e.channel n.manager.definitions)) n
