-- The ends of cables, as calls of the network's parts have them.
use Rattle.std.proofs.Common.{◌≡◌, ℕ, ◌<◌, ◌≤◌, ◌^◌, Bool, true, false, List, [], ◌∷◌, ◌++◌, length, refl, sym, ap, subst, ◌∙◌, arith}
use Rattle.std.specs.Prelude.{◌||◌, nat_le, if◌then◌else◌, filter, map, Option, Some, None, slice_get}
use Rattle.std.proofs.lemmas.Bool.Decides.{nat_tests}
use Rattle.mq_cable.specs.Faults.{offered_of}
use Rattle.mq_cable.specs.Offers.{HasTaken, Offering}
use Rattle.mq_frame.specs.declared.frame.Frame.{Frame}
use Rattle.mq_history.specs.Scenarios.{IsCable}
use Rattle.mq_history.specs.declared.calls.Actor.{Actor}
use Rattle.mq_history.specs.declared.calls.Entry.{Entry}
use Rattle.mq_history.specs.declared.scenario.CableLine.{CableLine}
use Rattle.mq_spec_node.specs.Words.{by, item_if, items_of}
use Rattle.mq_spec_network.specs.Story.{entries_at}
use Rattle.mq_steps.proofs.PartLaws.{at_it}
use Rattle.mq_ways.specs.Ways.{CableState}
use Rattle.mq_watch.specs.from_events.States.{NodeState}
use Rattle.mq_watch.specs.from_events.Events.{MayAct}
use Rattle.mq_world.specs.Worlds.{IsNetwork, NetState, history_in, with_cable, with_node}
use Rattle.mq_world.proofs.LiftLaws.{Asked}
use Rattle.mq_world.proofs.ListLaws.{there}
use Rattle.mq_world.proofs.SeenLaws.{done_there}

-- As a call of the network's parts has it: the node at a place, and what lies on the cable at a place.
pub record AskedEnd (w : NetState) (i j m k : ℕ) (n : NodeState) (c : CableState) : Type 0 where
  pub asked : Asked w i m n
  pub at : j ≡ k
  pub cable : slice_get w.cables j ≡ Some c
  pub there : k < length w.scenario.cables

-- by the parts that such a call sees
pub asked_end : {inside : NetState} {w : NetState} {i j m k : ℕ} {n : NodeState} {c : CableState} → inside ≡ w → Asked w i m n → j ≡ k → slice_get inside.cables j ≡ Some c → k < length w.scenario.cables → AskedEnd w i j m k n c
asked_end {inside} {w} {i} {j} {m} {k} {n} {c} view a at cable there = record { asked = a; at = at; cable = ap (λ (x : NetState). slice_get x.cables j) (sym view) ∙ cable; there = there }

pub cable_at : (w : NetState) (i j m k : ℕ) (n : NodeState) (c : CableState) → AskedEnd w i j m k n c → slice_get w.cables k ≡ Some c
cable_at w i j m k n c a = subst (λ (x : ℕ). slice_get w.cables x ≡ Some c) a.at a.cable

pub then_so : (w v : NetState) (i j m k : ℕ) (n new : NodeState) (c d : CableState) → AskedEnd w i j m k n c → v ≡ with_cable j d (with_node i new w) → v ≡ with_cable k d (with_node m new w)
then_so w v i j m k n new c d a is = is ∙ ap (λ (x : ℕ). with_cable j d (with_node x new w)) a.asked.place ∙ ap (λ (x : ℕ). with_cable x d (with_node m new w)) a.at

-- a cable's line, and the managers of its ends
pub line_there : (w : NetState) (k : ℕ) → k < length w.scenario.cables → (l : CableLine) × (slice_get w.scenario.cables k ≡ Some l)
line_there w k lt = there w.scenario.cables k lt

pub line_here : (w : NetState) (k : ℕ) (l : CableLine) → IsNetwork w → slice_get w.lines k ≡ Some l → slice_get w.scenario.cables k ≡ Some l
line_here w k l h found = sym (ap (λ (xs : List CableLine). slice_get xs k) h.lines) ∙ found

pub sender_low : (w : NetState) (k : ℕ) (l : CableLine) → IsNetwork w → slice_get w.lines k ≡ Some l → l.sender < length w.scenario.managers
sender_low w k l h found = (at_it (IsCable w.scenario) w.scenario.cables k l h.scenario.cables (line_here w k l h found)).sender

pub receiver_low : (w : NetState) (k : ℕ) (l : CableLine) → IsNetwork w → slice_get w.lines k ≡ Some l → l.receiver < length w.scenario.managers
receiver_low w k l h found = (at_it (IsCable w.scenario) w.scenario.cables k l h.scenario.cables (line_here w k l h found)).receiver

-- so many were offered at most as there are entries
filter_few : (test : Entry → Bool) (es : List Entry) → length (filter test es) ≤ length es
filter_few test [] = omega arith
filter_few test (e ∷ es) = by_test (test e) (filter_few test es)
  where
    by_test : (b : Bool) → length (filter test es) ≤ length es → length (if b then e ∷ filter test es else filter test es) ≤ length (e ∷ es)
    by_test true h = omega (arith, h)
    by_test false h = omega (arith, h)

offers_few : (es : List Entry) → length (offered_of (items_of es)) ≤ length es
offers_few [] = omega arith
offers_few (e ∷ es) = by_push e.effect.pushed (offers_few es)
  where
    by_push : (o : Option Frame) → length (offered_of (items_of es)) ≤ length es → length (offered_of (item_if o e.effect.extras ++ items_of es)) ≤ length (e ∷ es)
    by_push None h = omega (arith, h)
    by_push (Some f) h = omega (arith, h)

pub few_offered : (test : Actor → Bool) (es : List Entry) (o : Offering) → HasTaken o (offered_of (items_of (by test es))) → length es < 2 ^ 48 → o.number < 2 ^ 48
few_offered test es o taken few = let a = offers_few (by test es) in let b = filter_few (λ (e : Entry). test e.actor) es in omega (arith, a, b, few, taken.number)

pub few_entries : (w : NetState) (m : ℕ) (n : NodeState) → slice_get w.nodes m ≡ Some n → MayAct n → length (entries_at (map history_in w.nodes) m) < 2 ^ 48
few_entries w m n known may = subst (λ (es : List Entry). length es < 2 ^ 48) (sym (done_there w.nodes m n known)) (by_test (length n.history.entries) n.stamp may)
  where
    by_test : (k s : ℕ) → (nat_le (2 ^ 48) k || nat_le (2 ^ 60) s) ≡ false → k < 2 ^ 48
    by_test k s h = by_first (nat_le (2 ^ 48) k) refl h
      where
        by_first : (b : Bool) → nat_le (2 ^ 48) k ≡ b → (b || nat_le (2 ^ 60) s) ≡ false → k < 2 ^ 48
        by_first true e x = absurd cc
        by_first false e x = grind (arith, nat_tests)
