-- An end that is lifted for its turn, and a node that has none.
use Rattle.std.proofs.Common.{◌≡◌, ℕ, ◌+◌, ◌≤◌, ◌<◌, refl, sym, ap, subst, ◌∙◌, List, [], ◌∷◌, Bool, true, false, arith}
use Rattle.std.specs.Prelude.{Option, Some, None, Result, Ok, Err, ◌==◌, if◌then◌else◌}
use Rattle.mq_base.specs.declared.want.NoMemory.{NoMemory as Want}
use Rattle.mq_cable.specs.declared.item.Item.{Item}
use Rattle.mq_cable.specs.Offers.{Offering}
use Rattle.mq_frame.specs.declared.frame.Seen.TheVariants as items
use Rattle.mq_history.specs.declared.calls.Actor.TheVariants as actors
use Rattle.mq_history.specs.declared.calls.Call.TheVariants as calls
use Rattle.mq_calls.specs.Reads.{is_up}
use Rattle.mq_spec_node.specs.Terms.{Down, Entry, Running, Seen, Up}
use Rattle.mq_spec_node.specs.Words.{ChannelEnd, Deed, Own, ReceiverEnd, as_receiver, cable_of, end_in, receiver_end, receiver_turn, where_up}
use Rattle.mq_spec_node.specs.Node.ChannelEnd.{Receives, Sends}
use Rattle.mq_cabled.specs.Lifted.{lifted, lifted_ends, with_lifted}
use Rattle.mq_cabled.proofs.EndLaws.{found_cable, set_lifted, set_same}
use Rattle.mq_turn_parts.specs.from_events.States.{IsKept, IsLow, IsServed, NodeState, node_in}
use Rattle.mq_turn_parts.specs.from_events.Events.{Adds, MayAct, Stays}
use Rattle.mq_spec_manager.specs.Agents.{IsUp}
use Rattle.mq_turn_parts.specs.declared.telling.Turn.{Turn}
use Rattle.mq_turn_parts.specs.declared.telling.Turn.TheVariants as turns
use Rattle.mq_turn_parts.specs.Unseen.{EndTurn, Rests, turn_deed}
use Rattle.mq_turn_parts.specs.Wired.{Idles}
use Rattle.mq_turn_parts.proofs.DueLaws.{down_is}
use Rattle.mq_takes.specs.Takes.{MayTake, whole}
use Rattle.mq_takes.specs.Turning.{TakesOne}
use Rattle.mq_takes.proofs.TakeLaws.{receiver_is}

-- An own without a receiver end of that cable is left as it is.
lifted_at : (n : ℕ) (y : ChannelEnd) (xs : List ChannelEnd) (b : Bool) → as_receiver (if b then Some y else end_in n xs) ≡ None → (as_receiver (end_in n xs) ≡ None → lifted_ends n xs ≡ xs) → (if b then lifted y ∷ xs else y ∷ lifted_ends n xs) ≡ y ∷ xs
lifted_at n (Sends e) xs true h k = refl
lifted_at n (Receives e) xs true h k = absurd cc
lifted_at n y xs false h k = ap (λ (zs : List ChannelEnd). y ∷ zs) (k h)

lifted_none : (n : ℕ) (es : List ChannelEnd) → as_receiver (end_in n es) ≡ None → lifted_ends n es ≡ es
lifted_none n [] h = refl
lifted_none n (x ∷ xs) h = lifted_at n x xs (cable_of x == n) h (λ g. lifted_none n xs g)

pub none_lifted : (cable : ℕ) (own : Own) → receiver_end cable own ≡ None → with_lifted cable own ≡ own
none_lifted cable own h = ap (λ (es : List ChannelEnd). record own { ends = es }) (lifted_none cable own.ends h)

pub cable_found : (cable : ℕ) (own : Own) (e : ReceiverEnd) → receiver_end cable own ≡ Some e → e.cable ≡ cable
cable_found cable own e h = found_cable cable (Receives e) own.ends (receiver_is (end_in cable own.ends) e h)

-- with its end in its place again it is as it was
pub whole_lifted : (s p : NodeState) (cable : ℕ) (e : ReceiverEnd) → receiver_end cable s.own ≡ Some e → p ≡ record s { own = with_lifted cable s.own } → whole e p ≡ s
whole_lifted s p cable e h k =
    ap (λ (x : NodeState). whole e x) k
    ∙ ap (λ (es : List ChannelEnd). record s { own = record s.own { ends = es } })
    (set_lifted cable (Receives e) s.own.ends (cable_found cable s.own e h) ∙ set_same cable (Receives e) s.own.ends (receiver_is (end_in cable s.own.ends) e h))

pub may_take : (s p : NodeState) (cable : ℕ) (e : ReceiverEnd) → receiver_end cable s.own ≡ Some e → p ≡ record s { own = with_lifted cable s.own } → IsKept s → IsServed s → MayAct s → IsUp s.manager.plain → MayTake e (whole e p)
may_take s p cable e h k kept served may up =
    subst (λ (x : NodeState). MayTake e x) (sym (whole_lifted s p cable e h k))
    (record { kept = kept; served = served; may = may; up = up; there = subst (λ (n : ℕ). receiver_end n s.own ≡ Some e) (sym (cable_found cable s.own e h)) h })

pub low_lifted : (s p : NodeState) (own : Own) → p ≡ record s { own = own } → IsLow s → IsLow p
low_lifted s p own k low = subst (λ (x : NodeState). IsLow x) (sym k) low

-- No turn, whatever waits.
none_up : (r : Running) (d : Option Deed) → d ≡ None → where_up r d ≡ None
none_up Up d e = e
none_up (Down noted starts) d e = refl

pub absent_rests : (s : NodeState) (cable : ℕ) → receiver_end cable s.own ≡ None → (seen : Seen) → turn_deed (actors.Receiver cable) s seen ≡ None
absent_rests s cable h seen = none_up s.manager.plain.running (receiver_turn (s.stamp + 1) (receiver_end cable s.own) seen (node_in s)) (ap (λ (x : Option ReceiverEnd). receiver_turn (s.stamp + 1) x seen (node_in s)) h)

pub down_rests : (s : NodeState) (cable : ℕ) → is_up s.manager.plain.running ≡ false → (seen : Seen) → turn_deed (actors.Receiver cable) s seen ≡ None
down_rests s cable h seen = down_is s.manager.plain.running (receiver_turn (s.stamp + 1) (receiver_end cable s.own) seen (node_in s)) h

le_self : (n : ℕ) → n ≤ n
le_self n = omega arith

same_stays : (s : NodeState) → Stays s s
same_stays s = record { same = refl; marks = refl; faults = le_self s.manager.faults }

module _ (cable : ℕ) (reads writes : List Item → Type 0) (empty full : Type 0) where
  pub rests_so : (s t : NodeState) (o : Offering) → t ≡ s → IsKept s → ((seen : Seen) → turn_deed (actors.Receiver cable) s seen ≡ None) → reads [] → writes [] → TakesOne cable reads writes empty full o o s (Ok turns.Still) t
  rests_so s t o e kept h read written =
      let T : NodeState → Type 0 = λ x. TakesOne cable reads writes empty full o o s (Ok turns.Still) x in
      subst T (sym e) (record {
        kept = kept;
        spare = refl;
        turn = (record { stays = same_stays s; read = read; offers = record { same = refl; written = written } }, Idles (Rests h) (h items.Nothing));
      })

  -- no memory, and the node is as it was, but for its room
  pub wants_so : (s t : NodeState) (x : Want) (o : Offering) → t ≡ record s { room = t.room } → IsKept s → reads [] → writes [] → TakesOne cable reads writes empty full o o s (Err x) t
  wants_so s t x o e kept read written =
      let T : NodeState → Type 0 = λ y. TakesOne cable reads writes empty full o o s (Err x) y in
      subst T (sym e) (record {
        kept = kept;
        spare = refl;
        turn = record { stays = record { same = refl; marks = refl; faults = le_self s.manager.faults }; read = read; offers = record { same = refl; written = written } };
      })

  pub wants_still : (s : NodeState) (x : Want) (o : Offering) → IsKept s → reads [] → writes [] → TakesOne cable reads writes empty full o o s (Err x) s
  wants_still s x o kept read written = record { kept = kept; spare = refl; turn = record { stays = same_stays s; read = read; offers = record { same = refl; written = written } } }

  pub turn_of : (before s t : NodeState) (o n : Offering) (result : Result Turn Want) → before ≡ s → TakesOne cable reads writes empty full o n before result t → EndTurn (actors.Receiver cable) reads writes empty full o n s result t
  turn_of before s t o n result is h =
      let T : NodeState → Type 0 = λ x. TakesOne cable reads writes empty full o n x result t in
      (subst T is h).turn

  -- Room was taken before.
  room_adds : (s : NodeState) (room : ℕ) (t : NodeState) (e : Entry) → Adds (actors.Receiver cable) calls.Turn e (record s { room = room }) t → Adds (actors.Receiver cable) calls.Turn e s t
  room_adds s room t e a = record { grows = record { given = a.grows.given; history = a.grows.history }; actor = a.actor; call = a.call; marks = a.marks; faults = a.faults; rose = a.rose }

  room_stays : (s : NodeState) (room : ℕ) (t : NodeState) → Stays (record s { room = room }) t → Stays s t
  room_stays s room t h = record { same = h.same; marks = h.marks; faults = h.faults }

  roomed : (s t : NodeState) (room : ℕ) (o n : Offering) (result : Result Turn Want) → TakesOne cable reads writes empty full o n (record s { room = room }) result t → TakesOne cable reads writes empty full o n s result t
  roomed s t room o n (Ok turns.Changed) h = record {
    kept = h.kept;
    spare = h.spare;
    turn = record { entry = h.turn.entry; adds = room_adds s room t h.turn.entry h.turn.adds; popped = h.turn.popped; offered = h.turn.offered };
  }
  roomed s t room o n (Ok turns.Still) h = record {
    kept = h.kept;
    spare = h.spare;
    turn = (record { stays = room_stays s room t h.turn.0.stays; read = h.turn.0.read; offers = h.turn.0.offers }, h.turn.1);
  }
  roomed s t room o n (Err e) h = record {
    kept = h.kept;
    spare = h.spare;
    turn = record { stays = room_stays s room t h.turn.stays; read = h.turn.read; offers = h.turn.offers };
  }

  pub room_taken : (s r t : NodeState) (o n : Offering) (result : Result Turn Want) → r ≡ record s { room = r.room } → TakesOne cable reads writes empty full o n r result t → TakesOne cable reads writes empty full o n s result t
  room_taken s r t o n result e h =
      let T : NodeState → Type 0 = λ x. TakesOne cable reads writes empty full o n x result t in
      roomed s t r.room o n result (subst T e h)

  -- the turn of the end that was lifted is the node's
  pub lifted_so : (s p t : NodeState) (e : ReceiverEnd) (o n : Offering) (result : Result Turn Want) → receiver_end cable s.own ≡ Some e → p ≡ record s { own = with_lifted cable s.own } → TakesOne e.cable reads writes empty full o n (whole e p) result t
      → TakesOne cable reads writes empty full o n s result t
  lifted_so s p t e o n result h k z =
      let C : ℕ → Type 0 = λ m. TakesOne m reads writes empty full o n s result t in
      let W : NodeState → Type 0 = λ x. TakesOne e.cable reads writes empty full o n x result t in
      subst C (cable_found cable s.own e h) (subst W (whole_lifted s p cable e h k) z)

pub low_room : (s r : NodeState) → r ≡ record s { room = r.room } → IsLow s → IsLow r
low_room s r e low = subst (λ (x : NodeState). IsLow x) (sym e) low

pub up_room : (s r : NodeState) → r ≡ record s { room = r.room } → is_up s.manager.plain.running ≡ true → IsUp r.manager.plain
up_room s r e up = subst (λ (x : NodeState). IsUp x.manager.plain) (sym e) up

pub room_lifted : (s p : NodeState) (own : Own) → p ≡ record s { own = own } → 0 < s.room → 0 < p.room
room_lifted s p own k room = subst (λ (x : NodeState). 0 < x.room) (sym k) room
