-- Turns of channel ends over the cables of one thread, and when nothing can change.
use Rattle.std.specs.Prelude.{ℕ, suc, ◌+◌, ◌-◌, min, ◌==◌, nat_le, Bool, true, false, not, ◌&&◌, ◌||◌, List, [], ◌∷◌, ◌++◌, if◌then◌else◌, Option, Some, None, length, is_some}
use Rattle.mq_spec_network.specs.Terms.{Frame, Seen, Stock, Actor, Call, Entry, CableLine, Fault, Scenario, SenderState, is_up, stock, Node, SenderEnd, ReceiverEnd, sender_end, receiver_end, deed_of, after, fault_of, now_of, due_after, offered_of, is_sender, is_receiver, by}
use Rattle.mq_spec_node.specs.from_frame.SeenVariants as items
use Rattle.mq_spec_node.specs.from_history.ActorVariants as actors
use Rattle.mq_spec_node.specs.from_history.CallVariants as calls
use Rattle.mq_spec_node.specs.from_sender.SenderStateVariants as states
use Rattle.mq_spec_node.specs.Deeds.{Deed}
use Rattle.mq_spec_network.specs.Cables.{Lying, whole, spoiled, offered_by, lying}

-- The nodes with which the managers began, and what each did since, by place; all that a network is follows from it.
pub record Network : Type 0 where
  pub scenario : Scenario
  pub first : ℕ → Option Node
  pub done : ℕ → List Entry

abbrev pub node_of : Option Node → List Entry → Option Node
node_of None es = None
node_of (Some n) es = Some (after n es)

abbrev pub node_at : Network → ℕ → Option Node
node_at w m = node_of (w.first m) (w.done m)

-- entries more at one manager
abbrev pub more_at : ℕ → List Entry → (ℕ → List Entry) → ℕ → List Entry
more_at m es done n = if n == m then done n ++ es else done n

abbrev pub does : ℕ → List Entry → Network → Network
does m es w = record w { done = more_at m es w.done }

abbrev pub is_up_at : Option Node → Bool
is_up_at None = false
is_up_at (Some n) = is_up n.manager.running

-- the two directions of a cable, with what lies on them
abbrev pub out_of : Network → ℕ → CableLine → List Lying
out_of w cable c = lying c.out (by (is_sender cable) (w.done c.sender)) (by (is_receiver cable) (w.done c.receiver))

abbrev pub back_of : Network → ℕ → CableLine → List Lying
back_of w cable c = lying c.back (by (is_receiver cable) (w.done c.receiver)) (by (is_sender cable) (w.done c.sender))

-- the item that waits
abbrev pub waiting : List Lying → Seen
waiting [] = items.Nothing
waiting (x ∷ xs) = x.seen

abbrev pub is_empty : List Lying → Bool
is_empty [] = true
is_empty (x ∷ xs) = false

-- 64 items are a full cable
abbrev pub is_full : List Lying → Bool
is_full xs = nat_le 64 (length xs)

-- what holds of the node that is there
abbrev pub where_there : {A : Type 0} → A → (Node → A) → Option Node → A
where_there none f None = none
where_there none f (Some n) = f n

abbrev pub deed_at : Actor → Call → Seen → Option Node → Option Deed
deed_at actor call seen None = None
deed_at actor call seen (Some n) = deed_of 0 actor call seen n

-- a direction as its writer sees it: its faults, what was offered so far, what lies on it
pub record Direction : Type 0 where
  pub faults : List Fault
  pub pushes : List Entry
  pub items : List Lying

abbrev pub out_way : Network → ℕ → CableLine → Direction
out_way w cable c = record { faults = c.out; pushes = by (is_sender cable) (w.done c.sender); items = out_of w cable c }

abbrev pub back_way : Network → ℕ → CableLine → Direction
back_way w cable c = record { faults = c.back; pushes = by (is_receiver cable) (w.done c.receiver); items = back_of w cable c }

-- the number of the next frame that is offered
abbrev pub next_number : Direction → ℕ
next_number d = suc (length (offered_by d.pushes))

-- what the next frame puts there at once, and what is due after it
abbrev pub put_now : Direction → Frame → List Lying
put_now d f = now_of spoiled (fault_of (next_number d) d.faults) (whole f)

abbrev pub due_of : Direction → Frame → List Lying
due_of d f = due_after d.faults (offered_of (offered_by d.pushes) ++ whole f ∷ [])

-- A push is refused where the frame is to lie there now, and the cable is full.
abbrev pub push_refused : Direction → Option Frame → Bool
push_refused d None = false
push_refused d (Some f) = not (is_empty (put_now d f)) && is_full d.items

-- so many extra items find room
abbrev pub extras_of : Direction → Option Frame → ℕ
extras_of d None = 0
extras_of d (Some f) = min (length (due_of d f)) (64 - (length d.items + length (put_now d f)))

-- A turn of an end, if it is one: what it does, and whether a full cable refuses its push.
abbrev pub refused_by : Direction → Deed → Bool
refused_by d deed = push_refused d deed.pushed

abbrev pub changes : Direction → Option Deed → Bool
changes d None = false
changes d (Some deed) = not (refused_by d deed)

abbrev pub sender_turn : Network → ℕ → CableLine → Option Deed
sender_turn w cable c = deed_at (actors.Sender cable) calls.Turn (waiting (back_of w cable c)) (node_at w c.sender)

abbrev pub receiver_turn : Network → ℕ → CableLine → Option Deed
receiver_turn w cable c = deed_at (actors.Receiver cable) calls.Turn (waiting (out_of w cable c)) (node_at w c.receiver)

abbrev pub timeout_turn : Network → ℕ → CableLine → Option Deed
timeout_turn w cable c = deed_at (actors.Sender cable) calls.Timeout items.Nothing (node_at w c.sender)

-- An end is blocked where its next step is a push that a full cable refuses, and the manager that reads it is down.
abbrev pub is_refused : Direction → Option Deed → Bool
is_refused d None = false
is_refused d (Some deed) = refused_by d deed

abbrev pub sender_blocked : Network → ℕ → CableLine → Bool
sender_blocked w cable c = is_refused (out_way w cable c) (sender_turn w cable c) && not (is_up_at (node_at w c.receiver))

abbrev pub receiver_blocked : Network → ℕ → CableLine → Bool
receiver_blocked w cable c = is_refused (back_way w cable c) (receiver_turn w cable c) && not (is_up_at (node_at w c.sender))

-- a sender that has nothing to send, or none at all
abbrev pub rests : SenderState → Stock → Bool
rests states.Inactive stock = true
rests (states.Stopped cause) stock = true
rests states.Running stock = not stock.enabled || stock.free == 0
rests _ stock = false

abbrev pub sender_rests : ℕ → Option SenderEnd → Node → Bool
sender_rests cable None n = true
sender_rests cable (Some e) n = rests e.machine.state (stock e.channel n.manager)

abbrev pub owes_nothing : Option ReceiverEnd → Bool
owes_nothing None = true
owes_nothing (Some e) = not (is_some e.machine.owes)

abbrev pub sender_idle : Network → ℕ → CableLine → Option Node → Bool
sender_idle w cable c None = true
sender_idle w cable c (Some n) =
    not (is_up n.manager.running) || sender_blocked w cable c
    || (is_empty (back_of w cable c) && sender_rests cable (sender_end cable n.own) n)

abbrev pub receiver_idle : Network → ℕ → CableLine → Option Node → Bool
receiver_idle w cable c None = true
receiver_idle w cable c (Some n) =
    not (is_up n.manager.running) || receiver_blocked w cable c
    || (is_empty (out_of w cable c) && owes_nothing (receiver_end cable n.own))

-- both ends of each cable
abbrev pub cable_idle : Network → ℕ → CableLine → Bool
cable_idle w cable c = sender_idle w cable c (node_at w c.sender) && receiver_idle w cable c (node_at w c.receiver)

abbrev pub idle_from : Network → ℕ → List CableLine → Bool
idle_from w cable [] = true
idle_from w cable (c ∷ cs) = cable_idle w cable c && idle_from w (suc cable) cs

-- Nothing can change.
abbrev pub is_idle : Network → Bool
is_idle w = idle_from w 0 w.scenario.cables
