-- What scripted faults make of offered frames, and what a cable carries, computed.
use Rattle.std.specs.Prelude.{◌≡◌, ◌≤◌, ℕ, ◌+◌, max, true, false, List, [], ◌∷◌, ◌++◌, Some, None, refl}
use Rattle.std.proofs.Common.{ap, sym, ◌∙◌, arith, inl, inr}
use Rattle.mq_spec_node.specs.from_calls.ChoiceVariants.{Runs}
use Rattle.mq_spec_node.specs.from_frame.{Frame, Seen}
use Rattle.mq_spec_node.specs.from_frame.FrameKindVariants.{Ack}
use Rattle.mq_spec_node.specs.from_frame.SeenVariants as items
use Rattle.mq_spec_node.specs.from_history.ActorVariants as actors
use Rattle.mq_spec_node.specs.from_history.CallVariants as calls
use Rattle.mq_spec_node.specs.from_history.ChanceVariants as chances
use Rattle.mq_spec_node.specs.from_history.ReplyVariants as replies
use Rattle.mq_spec_node.specs.from_history.{Entry}
use Rattle.mq_spec_node.specs.from_cable.FaultVariants.{Drop, Late, Copy, Spoil}
use Rattle.mq_spec_node.specs.from_cable.Faults.{Offer, Within}
use Rattle.mq_spec_node.specs.Doers.{is_receiver}
use Rattle.mq_spec_network.specs.Cables.{Lying, Carries, Takes, made, whole, spoiled, lying, is_popped}

-- frames that are told apart by their stamps
abbrev frame : ℕ → Frame
frame n = record { stamp = n; session = 1; kind = Ack n }

abbrev offered : ℕ → ℕ → Offer Lying
offered n extras = record { item = whole (frame n); extras = extras }

abbrev alone : ℕ → Offer Lying
alone n = offered n 0

-- without faults, what is offered
all_come : made [] (alone 1 ∷ alone 2 ∷ []) ≡ whole (frame 1) ∷ whole (frame 2) ∷ []
all_come = refl

second_dropped : made (Drop 2 ∷ []) (alone 1 ∷ alone 2 ∷ alone 3 ∷ []) ≡ whole (frame 1) ∷ whole (frame 3) ∷ []
second_dropped = refl

-- it counts as offered: the next frame is the third
third_dropped_too : made (Drop 2 ∷ Drop 3 ∷ []) (alone 1 ∷ alone 2 ∷ alone 3 ∷ alone 4 ∷ []) ≡ whole (frame 1) ∷ whole (frame 4) ∷ []
third_dropped_too = refl

first_late : made (Late 1 3 ∷ []) (alone 1 ∷ alone 2 ∷ offered 3 1 ∷ []) ≡ whole (frame 2) ∷ whole (frame 3) ∷ whole (frame 1) ∷ []
first_late = refl

-- where the cable is full behind the third, what is late is lost
late_and_lost : made (Late 1 3 ∷ []) (alone 1 ∷ alone 2 ∷ alone 3 ∷ []) ≡ whole (frame 2) ∷ whole (frame 3) ∷ []
late_and_lost = refl

first_copied : made (Copy 1 2 ∷ []) (alone 1 ∷ offered 2 1 ∷ []) ≡ whole (frame 1) ∷ whole (frame 2) ∷ whole (frame 1) ∷ []
first_copied = refl

copied_at_once : made (Copy 1 1 ∷ []) (offered 1 1 ∷ alone 2 ∷ []) ≡ whole (frame 1) ∷ whole (frame 1) ∷ whole (frame 2) ∷ []
copied_at_once = refl

first_spoiled : made (Spoil 1 ∷ []) (alone 1 ∷ alone 2 ∷ []) ≡ spoiled (whole (frame 1)) ∷ whole (frame 2) ∷ []
first_spoiled = refl

-- the copy of the second and the late third come after the fourth, in the order of their numbers
copied_and_late : made (Copy 2 4 ∷ Late 3 4 ∷ []) (alone 1 ∷ alone 2 ∷ alone 3 ∷ offered 4 2 ∷ [])
    ≡ whole (frame 1) ∷ whole (frame 2) ∷ whole (frame 4) ∷ whole (frame 2) ∷ whole (frame 3) ∷ []
copied_and_late = refl

-- one of the two found the cable full
first_extra_alone : made (Copy 2 4 ∷ Late 3 4 ∷ []) (alone 1 ∷ alone 2 ∷ alone 3 ∷ offered 4 1 ∷ [])
    ≡ whole (frame 1) ∷ whole (frame 2) ∷ whole (frame 4) ∷ whole (frame 2) ∷ []
first_extra_alone = refl

-- no more come than are due
too_many : 1 ≤ 0 → ⊥
too_many h = omega arith

none_due : Within [] [] (offered 1 1 ∷ []) → ⊥
none_due w = too_many w.0

-- Entries that offer, and entries that pop.
abbrev pushes : ℕ → Entry
pushes n = record {
  stamp = n;
  actor = actors.Sender 0;
  call = calls.Turn;
  chance = chances.Call Runs;
  reply = replies.Changed;
  effect = record { delta = []; pushed = Some (frame n); extras = 0; popped = items.Nothing; received = [] };
}

abbrev pops : ℕ → Seen → Entry
pops stamp seen = record {
  stamp = stamp;
  actor = actors.Receiver 0;
  call = calls.Turn;
  chance = chances.Call Runs;
  reply = replies.Changed;
  effect = record { delta = []; pushed = None; extras = 0; popped = seen; received = [] };
}

-- in order, and one is left
first_of_two : Carries [] (pushes 1 ∷ pushes 2 ∷ []) (is_receiver 0) (pops 2 (items.Frame (frame 1)) ∷ [])
first_of_two = record { taken = whole (frame 1) ∷ []; left = whole (frame 2) ∷ []; whole = refl; takes = inr (refl, refl, refl, refl); within = (omega arith, (omega arith, tt)) }

left_behind : lying [] (pushes 1 ∷ pushes 2 ∷ []) (pops 2 (items.Frame (frame 1)) ∷ []) ≡ whole (frame 2) ∷ []
left_behind = refl

-- the first is dropped, the second comes
second_of_two : Carries (Drop 1 ∷ []) (pushes 1 ∷ pushes 2 ∷ []) (is_receiver 0) (pops 3 (items.Frame (frame 2)) ∷ [])
second_of_two = record { taken = whole (frame 2) ∷ []; left = []; whole = refl; takes = inr (refl, refl, refl, refl); within = (omega arith, (omega arith, tt)) }

one_spoiled : Carries (Spoil 1 ∷ []) (pushes 1 ∷ []) (is_receiver 0) (pops 2 items.Spoiled ∷ [])
one_spoiled = record { taken = spoiled (whole (frame 1)) ∷ []; left = []; whole = refl; takes = inr (refl, refl, refl, refl); within = (omega arith, tt) }

-- What no cable carries: a frame before its turn, one that was never offered, one with a stamp that is not smaller; and a
-- stamp that is further above a spoiled frame's than by one.
abbrev stamp_of : Seen → ℕ
stamp_of items.Nothing = 0
stamp_of items.Spoiled = 0
stamp_of (items.Frame f) = f.stamp

abbrev first_seen : List Lying → Seen
first_seen [] = items.Nothing
first_seen (x ∷ xs) = x.seen

abbrev first_stamp : List Lying → ℕ
first_stamp [] = 0
first_stamp (x ∷ xs) = x.stamp

true_or_false : true ≡ false → ⊥
true_or_false e = absurd cc

before_its_turn : (taken left : List Lying) → whole (frame 1) ∷ whole (frame 2) ∷ [] ≡ taken ++ left → Takes (is_receiver 0) 0 (pops 3 (items.Frame (frame 2)) ∷ []) taken → ⊥
before_its_turn [] left e t = true_or_false t.0
before_its_turn (x ∷ xs) left e (inl t) = true_or_false t.0
before_its_turn (x ∷ xs) left e (inr t) =
    let second : 2 ≡ stamp_of x.seen = ap stamp_of t.1 in
    let first : 1 ≡ stamp_of x.seen = ap (λ ys. stamp_of (first_seen ys)) e in
    omega arith

none_before_its_turn : Carries [] (pushes 1 ∷ pushes 2 ∷ []) (is_receiver 0) (pops 3 (items.Frame (frame 2)) ∷ []) → ⊥
none_before_its_turn c = before_its_turn c.taken c.left c.whole c.takes

never_offered : (taken left : List Lying) → [] ≡ taken ++ left → Takes (is_receiver 0) 0 (pops 3 (items.Frame (frame 1)) ∷ []) taken → ⊥
never_offered [] left e t = true_or_false t.0
never_offered (x ∷ xs) left e t = absurd cc

none_never_offered : Carries [] [] (is_receiver 0) (pops 3 (items.Frame (frame 1)) ∷ []) → ⊥
none_never_offered c = never_offered c.taken c.left c.whole c.takes

wrong_stamp : (n : ℕ) (seen : Seen) (y : Lying) (taken left : List Lying) → y ∷ [] ≡ taken ++ left → (n ≡ max 0 y.stamp + 1 → ⊥)
    → is_popped (pops n seen) ≡ true → Takes (is_receiver 0) 0 (pops n seen ∷ []) taken → ⊥
wrong_stamp n seen y [] left e wrong popped t = true_or_false (sym popped ∙ t.0)
wrong_stamp n seen y (x ∷ xs) left e wrong popped (inl t) = true_or_false (sym popped ∙ t.0)
wrong_stamp n seen y (x ∷ xs) left e wrong popped (inr t) = wrong (t.2 ∙ ap (λ k. max 0 k + 1) (sym (ap first_stamp e)))

not_four : ◌≡◌ {A = ℕ} 3 4 → ⊥
not_four e = omega arith

none_too_soon : Carries [] (pushes 3 ∷ []) (is_receiver 0) (pops 3 (items.Frame (frame 3)) ∷ []) → ⊥
none_too_soon c = wrong_stamp 3 (items.Frame (frame 3)) (whole (frame 3)) c.taken c.left c.whole not_four refl c.takes

not_two : ◌≡◌ {A = ℕ} 9 2 → ⊥
not_two e = omega arith

none_too_late : Carries (Spoil 1 ∷ []) (pushes 1 ∷ []) (is_receiver 0) (pops 9 items.Spoiled ∷ []) → ⊥
none_too_late c = wrong_stamp 9 items.Spoiled (spoiled (whole (frame 1))) c.taken c.left c.whole not_two refl c.takes
