-- A receiver's end: its place, and the end that takes it.
use Rattle.std.proofs.Common.{◌≡◌, ℕ, zero, suc, ◌≤◌, refl, sym, ap, subst, ◌∙◌, List, [], ◌∷◌, Bool, true, false, length, arith}
use Rattle.std.specs.Prelude.{Option, Some, None, ◌==◌, if◌then◌else◌, position, slice_get}
use Rattle.std.specs.Str.{bytes_eq}
use Rattle.std.proofs.lemmas.Bool.Decides.{nat_tests}
use Rattle.mq_calls.specs.declared.choices.Choice.{Choice}
use Rattle.mq_calls.specs.declared.choices.Choice.TheVariants.{Runs, NoMemory, Stopped}
use Rattle.mq_core.proofs.PlaceLaws.{name_is}
use Rattle.mq_objects.specs.Names.{channel_of}
use Rattle.mq_cabled.proofs.EndLaws.{at_get, found_cable, set_lifted}
use Rattle.mq_cabled.specs.Lifted.{with_lifted}
use Rattle.mq_receiver.specs.declared.state.Receiver.{Receiver}
use Rattle.mq_spec_node.specs.Terms.{Did, Message}
use Rattle.mq_spec_node.specs.Words.{ChannelEnd, Node, Own, ReceiverEnd, as_receiver, cable_of, end_in, forgotten_rows, receiver_end, receiver_named, set_end, with_end}
use Rattle.mq_spec_node.specs.Node.ChannelEnd.{Sends, Receives}
use Rattle.mq_turn_parts.specs.from_events.Counts.{kept_in, kept_total}
use Rattle.mq_turn_parts.specs.Turns.{has_run, own_by}
use Rattle.mq_operate.specs.declared.places.Seat.{Seat}
use Rattle.mq_operate.specs.Places.{IsSeatAt, ReceivesHere, defined_sends, receives_for, seat_in, seat_of}
use Rattle.mq_operate.specs.Receivers.{behind, kept_if}
use Rattle.mq_operate.proofs.PlaceLaws.{defined_receiver}

-- ---- its place

place_is : (first at : ℕ) → (first == at) ≡ true → first ≡ at
place_is first at e = grind (arith, nat_tests)

pub first_at : (o : Option ℕ) (first at : ℕ) → Some first ≡ o → (first == at) ≡ true → o ≡ Some at
first_at o first at is e = sym is ∙ ap (λ (n : ℕ). Some n) (place_is first at e)

seat_is : (s t : Seat) → Some s ≡ Some t → s ≡ t
seat_is s t e = cc

pub seated : (es : List ChannelEnd) (at : ℕ) (x : ChannelEnd) (seat : Seat) → slice_get es at ≡ Some x → Some seat ≡ seat_in x → position (λ (y : ChannelEnd). cable_of y == seat.cable) es ≡ Some at → (e : ReceiverEnd) × IsSeatAt at seat e es
seated es at (Sends e) seat g s p = absurd cc
seated es at (Receives e) seat g s p =
    let is : seat ≡ seat_of e = seat_is seat (seat_of e) s in (
      e,
      record {
        there = g;
        placed = subst (λ (x : Seat). position (λ (y : ChannelEnd). cable_of y == x.cable) es ≡ Some at) is p;
        is = is;
      },
    )

receiver_get : (channel : List ℕ) (es : List ChannelEnd) (at : ℕ) (x : ChannelEnd) → position (receives_for channel) es ≡ Some at → slice_get es at ≡ Some x → as_receiver (Some x) ≡ receiver_named channel es
receiver_get channel [] at y e g = absurd cc
receiver_get channel (Sends x ∷ xs) zero y e g = grind (arith)
receiver_get channel (Sends x ∷ xs) (suc at) y e g = grind (arith, receiver_get channel xs at)
receiver_get channel (Receives x ∷ xs) zero y e g = grind (arith)
receiver_get channel (Receives x ∷ xs) (suc at) y e g = grind (arith, receiver_get channel xs at)

end_is : (x e : ReceiverEnd) → Some x ≡ Some e → x ≡ e
end_is x e h = cc

received_is : (channel : List ℕ) (es : List ChannelEnd) (e : ReceiverEnd) → receiver_named channel es ≡ Some e → channel ≡ e.channel
received_is channel [] e h = absurd cc
received_is channel (Sends x ∷ xs) e h = received_is channel xs e h
received_is channel (Receives x ∷ xs) e h = at (bytes_eq channel x.channel) refl h (received_is channel xs e)
  where
    at : (b : Bool) → bytes_eq channel x.channel ≡ b → (if b then Some x else receiver_named channel xs) ≡ Some e → (receiver_named channel xs ≡ Some e → channel ≡ e.channel) → channel ≡ e.channel
    at true t h k = name_is channel x.channel t ∙ ap (λ (y : ReceiverEnd). y.channel) (end_is x e h)
    at false t h k = k h

pub receiver_here : (channel : List ℕ) (n : Node) (at : ℕ) (seat : Seat) → defined_sends (channel_of channel n.manager.definitions) ≡ Some false → position (receives_for channel) n.own.ends ≡ Some at
    → (e : ReceiverEnd) × IsSeatAt at seat e n.own.ends → (e : ReceiverEnd) × ReceivesHere channel seat e n
receiver_here channel n at seat d p (e, k) =
    let named : receiver_named channel n.own.ends ≡ Some e = sym (receiver_get channel n.own.ends at (Receives e) p k.there) in (
      e,
      record {
        here = defined_receiver channel (channel_of channel n.manager.definitions) n.own.ends (Some e) d named;
        stands = record { there = ap as_receiver (at_get e.cable n.own.ends at k.placed ∙ k.there); is = k.is };
        named = received_is channel n.own.ends e named;
      },
    )

-- ---- the end that takes its place

receiver_is : (o : Option ChannelEnd) (e : ReceiverEnd) → as_receiver o ≡ Some e → o ≡ Some (Receives e)
receiver_is None e h = absurd cc
receiver_is (Some (Sends x)) e h = absurd cc
receiver_is (Some (Receives x)) e h = ap (λ (y : ReceiverEnd). Some (Receives y)) (end_is x e h)

cable_is : (cable : ℕ) (e : ReceiverEnd) (own : Own) → receiver_end cable own ≡ Some e → e.cable ≡ cable
cable_is cable e own there = found_cable cable (Receives e) own.ends (receiver_is (end_in cable own.ends) e there)

pub change_none : (cable : ℕ) (z own mid : Own) (e : ReceiverEnd) → None ≡ receiver_end cable own → receiver_end cable own ≡ Some e → mid ≡ z
change_none cable z own mid e n there = absurd cc

pub change_some : (cable : ℕ) (x e : ReceiverEnd) (machine : Receiver) (empties : Bool) (own mid new : Own) → Some x ≡ receiver_end cable own → mid ≡ with_lifted cable own → new ≡ with_end (Receives (behind x machine empties)) mid → receiver_end cable own ≡ Some e
    → new ≡ with_end (Receives (behind e machine empties)) own
change_some cable x e machine empties own mid new is l z there =
    let same : x ≡ e = end_is x e (is ∙ there) in
    z ∙ ap (with_end (Receives (behind x machine empties))) l ∙ ap (λ (y : ReceiverEnd). with_end (Receives (behind y machine empties)) (with_lifted cable own)) same
    ∙ ap (λ (es : List ChannelEnd). record own { ends = es }) (set_lifted cable (Receives (behind e machine empties)) own.ends (cable_is cable e own there))

ran_own : (choice : Choice) (delta : List Did) (z own last : Own) → has_run choice ≡ true → last ≡ forgotten_rows delta z → last ≡ own_by choice delta z own
ran_own Runs delta z own last h e = e
ran_own NoMemory delta z own last h e = absurd cc
ran_own (Stopped by n left) delta z own last h e = absurd cc

pub kept_done : (choice : Choice) (delta : List Did) (cable : ℕ) (machine : Receiver) (empties : Bool) (own mid last : Own) (e : ReceiverEnd) → has_run choice ≡ true
    → ((x : ReceiverEnd) → receiver_end cable own ≡ Some x → mid ≡ with_end (Receives (behind x machine empties)) own) → last ≡ forgotten_rows delta mid → receiver_end cable own ≡ Some e
    → last ≡ own_by choice delta (with_end (Receives (behind e machine empties)) own) own
kept_done choice delta cable machine empties own mid last e h k f there = ran_own choice delta (with_end (Receives (behind e machine empties)) own) own last h (f ∙ ap (forgotten_rows delta) (k e there))

pub kept_undone : (choice : Choice) (delta : List Did) (z own : Own) → has_run choice ≡ false → own ≡ own_by choice delta z own
kept_undone Runs delta z own h = absurd cc
kept_undone NoMemory delta z own h = refl
kept_undone (Stopped by n left) delta z own h = refl

-- ---- it keeps no more

kept_less : (b : Bool) (kept : List Message) → length (kept_if b kept) ≤ length kept
kept_less true kept = omega arith
kept_less false kept = omega arith

less_at : (e new : ReceiverEnd) (y : ChannelEnd) (ys : List ChannelEnd) (b : Bool) → length new.kept ≤ length e.kept → as_receiver (if b then Some y else end_in new.cable ys) ≡ Some e
    → (as_receiver (end_in new.cable ys) ≡ Some e → kept_in (set_end (Receives new) ys) ≤ kept_in ys) → kept_in (if b then Receives new ∷ ys else y ∷ set_end (Receives new) ys) ≤ kept_in (y ∷ ys)
less_at e new (Sends x) ys true le h k = absurd cc
less_at e new (Receives x) ys true le h k = let same : length x.kept ≡ length e.kept = ap (λ (z : ReceiverEnd). length z.kept) (end_is x e h) in omega (arith, le, same)
less_at e new (Sends x) ys false le h k = k h
less_at e new (Receives x) ys false le h k = let r = k h in omega (arith, r)

less_in : (e new : ReceiverEnd) (es : List ChannelEnd) → length new.kept ≤ length e.kept → as_receiver (end_in new.cable es) ≡ Some e → kept_in (set_end (Receives new) es) ≤ kept_in es
less_in e new [] le h = absurd cc
less_in e new (y ∷ ys) le h = less_at e new y ys (cable_of y == new.cable) le h (λ g. less_in e new ys le g)

pub seat_total : (e : ReceiverEnd) (machine : Receiver) (empties : Bool) (own : Own) → receiver_end e.cable own ≡ Some e → kept_total (with_end (Receives (behind e machine empties)) own) ≤ kept_total own
seat_total e machine empties own there = less_in e (behind e machine empties) own.ends (kept_less empties e.kept) there
