-- The deeds of a sender's lines.
use Rattle.std.proofs.Common.{◌≡◌, ℕ, ◌+◌, ◌^◌, ◌<◌, max, refl, sym, ap, ◌∙◌, List, [], ◌++◌, true, false, arith}
use Rattle.std.specs.Prelude.{Option, Some, None, if◌then◌else◌}
use Rattle.mq_calls.specs.declared.choices.Choice.{Choice}
use Rattle.mq_calls.specs.declared.choices.Choice.TheVariants.{Runs, NoMemory, Stopped}
use Rattle.mq_cable.specs.declared.item.Item.{Item}
use Rattle.mq_frame.specs.declared.frame.Seen.TheVariants as items
use Rattle.mq_history.specs.declared.calls.Actor.TheVariants as actors
use Rattle.mq_history.specs.declared.calls.Call.TheVariants as calls
use Rattle.mq_sender.specs.States.{is_running}
use Rattle.mq_sender.specs.Table.{sender_next}
use Rattle.mq_sender.specs.After.{done_after}
use Rattle.mq_sender.specs.declared.turns.SenderDoes.TheVariants as does
use Rattle.mq_calls.specs.Reads.{is_up}
use Rattle.std.specs.Option.{option_map}
use Rattle.mq_sender.specs.Frames.{bind_frame, end_frame}
use Rattle.mq_spec_manager.specs.Agents.{batch_row, stock}
use Rattle.mq_spec_node.specs.Terms.{Frame, Message, Plain, Part, Seen, SenderDoes}
use Rattle.mq_spec_node.specs.Words.{Deed, IsPop, IsStamp, Node, SenderEnd, carried, deed_of, sender_deed_by, sender_end, sender_turn, turned, with_end}
use Rattle.mq_spec_node.specs.Node.ChannelEnd.{Sends}
use Rattle.mq_wires.specs.Wires.{Sees}
use Rattle.mq_turn_parts.specs.Turns.{leave_unless, pushed_by}
use Rattle.mq_turn_parts.specs.from_events.States.{NodeState}
use Rattle.mq_turn_parts.specs.Acting.{Acts}
use Rattle.mq_turn_parts.proofs.DueLaws.{may_low, up_is}
use Rattle.mq_turn_parts.proofs.TimeLaws.{leaves_are}
use Rattle.mq_turns.specs.Sends.{Works, all_parts, behind_end, pushed_deed, sender_parts}

-- A line that works at the manager.
abbrev pub worked : SenderEnd → SenderDoes → Node → Deed
worked e d n = turned (all_parts e d (is_running (done_after e.machine d).state) n.manager) None (with_end (Sends (behind_end e d)) n.own)

abbrev with_parts : SenderEnd → SenderDoes → Node → List Part → Option Deed
with_parts e d n left = Some (turned (sender_parts e d n.manager ++ left) None (with_end (Sends (behind_end e d)) n.own))

works_are : (e : SenderEnd) (d : SenderDoes) (n : Node)
    → with_parts e d n (if is_running (done_after e.machine d).state then [] else leave_unless false e.channel n.manager) ≡ Some (worked e d n)
works_are e d n = ap (with_parts e d n) (leaves_are (is_running (done_after e.machine d).state) e.channel n.manager)

pub works_is : (stamp : ℕ) (e : SenderEnd) (d : SenderDoes) (n : Node) → Works d → sender_deed_by stamp e d n ≡ Some (worked e d n)
works_is stamp e (does.HardenSession session) n w = works_are e (does.HardenSession session) n
works_is stamp e does.Expire n w = works_are e does.Expire n
works_is stamp e (does.Bound settle partner) n w = works_are e (does.Bound settle partner) n
works_is stamp e does.Commit n w = works_are e does.Commit n
works_is stamp e (does.Backout reason) n w = works_are e (does.Backout reason) n
works_is stamp e does.Still n w = absurd w
works_is stamp e does.Ignore n w = absurd w
works_is stamp e does.PushBind n w = absurd w
works_is stamp e (does.Begin k count) n w = absurd w
works_is stamp e (does.PushMsg index) n w = absurd w
works_is stamp e does.Prepare n w = absurd w
works_is stamp e does.PushEnd n w = absurd w

-- the deed of a turn, by the line
pub turn_is : (stamp cable : ℕ) (e : SenderEnd) (d : SenderDoes) (seen : Seen) (n : Node) → is_up n.manager.running ≡ true → sender_end cable n.own ≡ Some e → d ≡ sender_next e.machine seen (stock e.channel n.manager)
    → deed_of stamp (actors.Sender cable) calls.Turn seen n ≡ sender_deed_by stamp e d n
turn_is stamp cable e d seen n up there next =
    up_is n.manager.running (sender_turn stamp (sender_end cable n.own) seen n) up
    ∙ ap (λ (x : Option SenderEnd). sender_turn stamp x seen n) there
    ∙ ap (λ (x : SenderDoes). sender_deed_by stamp e x n) (sym next)

-- the stamp, by what was seen
less_more : (a b : ℕ) → a < max a b + 1
less_more a b = omega arith

max_none : (a b : ℕ) → b ≡ 0 → max a b + 1 ≡ a + 1
max_none a b e = omega (arith, e)

pub stamp_is : (front : Option Item) (last stamp : ℕ) (seen : Seen) → Sees front (Unit {0}) seen stamp → IsStamp last seen (max last stamp + 1)
stamp_is front last stamp items.Nothing s = max_none last stamp s.1
stamp_is front last stamp items.Spoiled s = less_more last stamp
stamp_is front last stamp (items.Frame f) s = ap (λ (x : ℕ). max last x + 1) (s.stamp_is ∙ sym s.has)

pub pop_is : (seen : Seen) (cable : ℕ) → IsPop seen None calls.Turn (actors.Sender cable)
pop_is items.Nothing cable = tt
pop_is items.Spoiled cable = tt
pop_is (items.Frame f) cable = tt

pub none_pushed : (c : Choice) → None ≡ pushed_by c None
none_pushed Runs = refl
none_pushed NoMemory = refl
none_pushed (Stopped by n k) = refl

-- The frame of a turn that pushes one.
pub bind_deed : (stamp : ℕ) (e : SenderEnd) (f : Frame) (n : Node) → f ≡ bind_frame stamp e.machine → sender_deed_by stamp e does.PushBind n ≡ Some (pushed_deed e does.PushBind f n)
bind_deed stamp e f n is = ap (λ (x : Frame). Some (pushed_deed e does.PushBind x n)) (sym is)

pub bind_stamp : (stamp : ℕ) (e : SenderEnd) (f : Frame) → f ≡ bind_frame stamp e.machine → f.stamp ≡ stamp
bind_stamp stamp e f is = ap (λ (x : Frame). x.stamp) is

pub end_deed : (stamp : ℕ) (e : SenderEnd) (f : Frame) (n : Node) → f ≡ end_frame stamp e.machine → sender_deed_by stamp e does.PushEnd n ≡ Some (pushed_deed e does.PushEnd f n)
end_deed stamp e f n is = ap (λ (x : Frame). Some (pushed_deed e does.PushEnd x n)) (sym is)

pub end_stamp : (stamp : ℕ) (e : SenderEnd) (f : Frame) → f ≡ end_frame stamp e.machine → f.stamp ≡ stamp
end_stamp stamp e f is = ap (λ (x : Frame). x.stamp) is

pub message_deed : (stamp : ℕ) (e : SenderEnd) (index : ℕ) (f : Frame) (n : Node) → option_map (carried stamp e e.machine.begun index) (batch_row e.channel index n.manager) ≡ Some f → sender_deed_by stamp e (does.PushMsg index) n ≡ Some (pushed_deed e (does.PushMsg index) f n)
message_deed stamp e index f n is = ap (λ (x : Option Frame). Some (turned [] x (with_end (Sends (behind_end e (does.PushMsg index))) n.own))) is

carried_stamp : (stamp : ℕ) (e : SenderEnd) (k index : ℕ) (o : Option Message) (f : Frame) → option_map (carried stamp e k index) o ≡ Some f → f.stamp ≡ stamp
carried_stamp stamp e k index None f is = absurd cc
carried_stamp stamp e k index (Some m) f is = ap (λ (x : Frame). x.stamp) (some_frame (carried stamp e k index m) f is)
  where
    some_frame : (a b : Frame) → Some a ≡ Some b → b ≡ a
    some_frame a b e = cc

pub message_stamp : (stamp : ℕ) (e : SenderEnd) (k index : ℕ) (p : Plain) (f : Frame) → option_map (carried stamp e k index) (batch_row e.channel index p) ≡ Some f → f.stamp ≡ stamp
message_stamp stamp e k index p f is = carried_stamp stamp e k index (batch_row e.channel index p) f is

pub acts_low : (s : NodeState) (e : SenderEnd) → Acts e s → s.stamp < 2 ^ 60
acts_low s e a = may_low s a.may
