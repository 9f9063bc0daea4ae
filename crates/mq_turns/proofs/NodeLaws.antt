-- A sender's turn at its node: which end acts, room for its entry, and the node's type.
use Rattle.std.proofs.Common.{◌≡◌, ℕ, ◌+◌, ◌<◌, ◌≤◌, refl, sym, ap, subst, List, [], false, true, length, arith}
use Rattle.std.specs.Prelude.{Option, Some, None, Result, Ok, Err}
use Rattle.mq_base.specs.declared.want.NoMemory.{NoMemory as Want}
use Rattle.mq_cable.specs.declared.item.Item.{Item}
use Rattle.mq_cable.specs.Offers.{Offering}
use Rattle.mq_frame.specs.declared.frame.Seen.TheVariants as items
use Rattle.mq_history.specs.declared.calls.Actor.{Actor}
use Rattle.mq_history.specs.declared.calls.Actor.TheVariants as actors
use Rattle.mq_history.specs.declared.calls.Call.TheVariants as calls
use Rattle.mq_calls.specs.Reads.{is_up}
use Rattle.mq_spec_node.specs.Words.{Deed, SenderEnd, sender_end, sender_turn}
use Rattle.mq_turn_parts.specs.from_events.States.{IsKept, IsServed, NodeState, Spare, node_in}
use Rattle.mq_turn_parts.specs.from_events.Counts.{IsNode}
use Rattle.mq_turn_parts.specs.from_events.Events.{MayAct}
use Rattle.mq_turn_parts.specs.declared.telling.Turn.{Turn}
use Rattle.mq_turn_parts.specs.declared.telling.Turn.TheVariants as turns
use Rattle.mq_turn_parts.specs.Wired.{Idles, TurnIs}
use Rattle.mq_turn_parts.specs.Acting.{Acts, MayTurn, SendsTurn}
use Rattle.mq_turns.specs.Turning.{IsHere, NeverActs, SendsAt}
use Rattle.mq_turn_parts.specs.Unseen.{Empty, EndTurn, IsUnseen, Rests, turn_deed}
use Rattle.mq_turn_parts.proofs.CountLaws.{stays_counted, turned_counted}
use Rattle.mq_turn_parts.proofs.DueLaws.{cable_found, down_is, none_is}
use Rattle.mq_turn_parts.proofs.WireLaws.{sends_widened}

-- Which end acts.
pub never_down : (s : NodeState) (cable : ℕ) → is_up s.manager.plain.running ≡ false → NeverActs cable s
never_down s cable down = λ seen. down_is s.manager.plain.running (sender_turn (s.stamp + 1) (sender_end cable s.own) seen (node_in s)) down

pub never_absent : (s : NodeState) (cable : ℕ) → sender_end cable s.own ≡ None → NeverActs cable s
never_absent s cable absent = λ seen.
    none_is s.manager.plain.running (sender_turn (s.stamp + 1) (sender_end cable s.own) seen (node_in s)) (ap (λ (x : Option SenderEnd). sender_turn (s.stamp + 1) x seen (node_in s)) absent)

pub here_end : (s : NodeState) (cable : ℕ) (e : SenderEnd) → is_up s.manager.plain.running ≡ true → sender_end cable s.own ≡ Some e → IsHere cable e s
here_end s cable e up there =
    let c : e.cable ≡ cable = cable_found cable s.own e there in
    record { cable_is = c; up = up; there = subst (λ (n : ℕ). sender_end n s.own ≡ Some e) (sym c) there }

pub acts_here : (s : NodeState) (cable : ℕ) (e : SenderEnd) → IsKept s → IsServed s → MayAct s → IsHere cable e s → Acts e s
acts_here s cable e kept served may here = record { kept = kept; served = served; may = may; up = here.up; there = here.there }

-- Room was taken before.
room_acts : (s r : NodeState) (e : SenderEnd) → r ≡ record s { room = r.room } → Acts e s → Acts e r
room_acts s r e g a = subst (λ (x : NodeState). Acts e x) (sym g) (record { kept = a.kept; served = a.served; may = a.may; up = a.up; there = a.there })

pub room_may : (s r : NodeState) (e : SenderEnd) → r ≡ record s { room = r.room } → 0 < r.room → Acts e s → MayTurn e r
room_may s r e g room a = record { room = room; acts = room_acts s r e g a }

module _ (reads writes : List Item → Type 0) (none full : Type 0) (o n : Offering) where
  pub in_room : (who : Actor) (s t : NodeState) (spare : Spare) (room : ℕ) (d : Option Deed) (result : Result Turn Want) → TurnIs who reads writes none full o n d (record s { spare = spare; room = room }) result t → TurnIs who reads writes none full o n d s result t
  in_room who s t spare room d (Ok turns.Changed) h = record {
    entry = h.entry;
    adds = record { grows = h.adds.grows; actor = h.adds.actor; call = h.adds.call; marks = h.adds.marks; faults = h.adds.faults; rose = h.adds.rose };
    popped = h.popped;
    offered = h.offered;
  }
  in_room who s t spare room d (Ok turns.Still) h = (record { stays = record { same = h.0.stays.same; marks = h.0.stays.marks; faults = h.0.stays.faults }; read = h.0.read; offers = h.0.offers }, h.1)
  in_room who s t spare room d (Err e) h = record { stays = record { same = h.stays.same; marks = h.stays.marks; faults = h.stays.faults }; read = h.read; offers = h.offers }

  pub room_turn : (cable : ℕ) (s r t : NodeState) (result : Result Turn Want) → r ≡ record s { room = r.room } → SendsTurn cable reads writes none full o n r result t → SendsTurn cable reads writes none full o n s result t
  room_turn cable s r t result g h =
      let k : SendsTurn cable reads writes none full o n (record s { room = r.room }) result t = subst (λ (x : NodeState). SendsTurn cable reads writes none full o n x result t) g h in
      record { kept = k.kept; spare = k.spare; turn = in_room _ s t s.spare r.room _ result k.turn }

-- there was none
pub room_want : (s r : NodeState) (cable : ℕ) (x : Want) (reads writes : List Item → Type 0) (none full : Type 0) (o : Offering) → r ≡ record s { room = r.room } → IsKept s → reads [] → writes [] → SendsTurn cable reads writes none full o o s (Err x) r
room_want s r cable x reads writes none full o g k read written = subst (λ (y : NodeState). SendsTurn cable reads writes none full o o s (Err x) y) (sym g) (at r.room)
  where
    at : (room : ℕ) → SendsTurn cable reads writes none full o o s (Err x) (record s { room = room })
    at room = record {
      kept = k;
      spare = refl;
      turn = record { stays = record { same = refl; marks = refl; faults = omega arith }; read = read; offers = record { same = refl; written = written } };
    }

-- So at the cable.
pub stands_still : (s : NodeState) (cable : ℕ) (reads writes : List Item → Type 0) (empty full : Type 0) (o : Offering) → NeverActs cable s → IsKept s → reads [] → writes [] → SendsAt cable reads writes empty full o o s (Ok turns.Still) s
stands_still s cable reads writes empty full o never k read written = record {
  kept = k;
  spare = refl;
  turn = (record { stays = record { same = refl; marks = refl; faults = omega arith }; read = read; offers = record { same = refl; written = written } }, Idles (Rests never) (never items.Nothing));
}

module _ (cable : ℕ) (reads writes : List Item → Type 0) (empty full : Type 0) (o n : Offering) (s t : NodeState) where
  pub sends_at : (e : SenderEnd) (result : Result Turn Want) → IsHere cable e s → SendsTurn e.cable reads writes empty full o n s result t → SendsAt cable reads writes empty full o n s result t
  sends_at e result here h =
      sends_widened reads writes reads writes empty full (IsUnseen empty (turn_deed (actors.Sender cable) s)) full (λ xs x. x) (λ xs x. x) (λ r k. Empty k) (λ x. x) cable o n s result t
      (subst (λ (c : ℕ). SendsTurn c reads writes empty full o n s result t) here.cable_is h)

  -- its type, where an entry was set aside for each end
  pub sent_node : (result : Result Turn Want) → IsNode s → length s.own.ends ≤ s.spare.aside → SendsAt cable reads writes empty full o n s result t → IsNode t
  sent_node (Ok turns.Changed) k enough h = turned_counted cable h.turn.entry s t k enough h.kept h.spare h.turn.adds
  sent_node (Ok turns.Still) k enough h = stays_counted s t k h.kept h.spare h.turn.0.stays
  sent_node (Err e) k enough h = stays_counted s t k h.kept h.spare h.turn.stays

-- So of the node, for which entries were set aside before.
pub aside_turn : (cable : ℕ) (reads writes : List Item → Type 0) (empty full : Type 0) (o n : Offering) (s r t : NodeState) (result : Result Turn Want) → r ≡ record s { spare = r.spare; room = r.room } → SendsAt cable reads writes empty full o n r result t
    → EndTurn (actors.Sender cable) reads writes empty full o n s result t
aside_turn cable reads writes empty full o n s r t result e h =
    let k : SendsAt cable reads writes empty full o n (record s { spare = r.spare; room = r.room }) result t = subst (λ (x : NodeState). SendsAt cable reads writes empty full o n x result t) e h in
    in_room reads writes (IsUnseen empty (turn_deed (actors.Sender cable) s)) full o n (actors.Sender cable) s t r.spare r.room (turn_deed (actors.Sender cable) s items.Nothing) result k.turn

-- there was no memory to set aside
pub aside_want : (cable : ℕ) (s r : NodeState) (x : Want) (reads writes : List Item → Type 0) (empty full : Type 0) (o : Offering) → r ≡ record s { spare = r.spare; room = r.room } → reads [] → writes []
    → EndTurn (actors.Sender cable) reads writes empty full o o s (Err x) r
aside_want cable s r x reads writes empty full o e read written = subst (λ (y : NodeState). EndTurn (actors.Sender cable) reads writes empty full o o s (Err x) y) (sym e)
    (record { stays = record { same = refl; marks = refl; faults = omega arith }; read = read; offers = record { same = refl; written = written } })

-- said of its node
pub ended_at : (cable : ℕ) (reads writes : List Item → Type 0) (empty full : Type 0) (o n : Offering) (s p t : NodeState) (result : Result Turn Want) → p ≡ s → EndTurn (actors.Sender cable) reads writes empty full o n p result t
    → EndTurn (actors.Sender cable) reads writes empty full o n s result t
ended_at cable reads writes empty full o n s p t result is h =
    let E : NodeState → Type 0 = λ x. EndTurn (actors.Sender cable) reads writes empty full o n x result t in
    subst E is h
