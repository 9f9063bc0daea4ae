-- Each turn of a receiver's end at a node is the turn of its lane.
use Rattle.std.proofs.Common.{ℕ, ◌≡◌, ◌⊎◌, Bool, true, List, [], ◌∷◌, refl, ap, sym, subst, ◌∙◌, inl, inr}
use Rattle.std.specs.Prelude.{if◌then◌else◌, Option, Some, None, is_some}
use Rattle.std.specs.Option.{option_map}
use Rattle.mq_codes.specs.declared.reason.Reason.{Reason}
use Rattle.mq_codes.specs.Numbers.{number}
use Rattle.mq_frame.specs.declared.frame.Frame.{Frame}
use Rattle.mq_frame.specs.declared.frame.Seen.{Seen}
use Rattle.mq_message.specs.declared.message.Message.{Message}
use Rattle.mq_sync.specs.Turns.{Line, first_line}
use Rattle.mq_sync.specs.declared.unit.Unit.{Unit as Luw}
use Rattle.mq_receiver.specs.declared.state.Owed.{Owed}
use Rattle.mq_receiver.specs.declared.state.Receiver.{Receiver}
use Rattle.mq_receiver.specs.declared.turns.ReceiverDoes.{ReceiverDoes}
use Rattle.mq_receiver.specs.declared.turns.ReceiverDoes.TheVariants as takes
use Rattle.mq_receiver.specs.declared.turns.ReceiverOut.{ReceiverOut}
use Rattle.mq_receiver.specs.declared.turns.ReceiverOut.TheVariants as ends
use Rattle.mq_receiver.specs.States.{owed_frame}
use Rattle.mq_receiver.specs.Table.{receiver_lines, receiver_next}
use Rattle.mq_receiver.specs.After.{last_by, receiver_after}
use Rattle.mq_calls.specs.Steps.{Step}
use Rattle.mq_calls.specs.Steps.Step.{Do, Refuse}
use Rattle.mq_spec_manager.specs.Agents.{receive}
use Rattle.mq_spec_node.specs.Node.{Node, ReceiverEnd, end_in, with_end}
use Rattle.mq_spec_node.specs.Node.ChannelEnd.{Receives}
use Rattle.mq_spec_node.specs.Deeds.{Deed, turned}
use Rattle.mq_spec_node.specs.Receivers.{is_receiver_defined, kept_seen, place_deed, receiver_deed, receiver_deed_by, receiver_end_after}
use Rattle.mq_law_idle.specs.Roads.{ReceiverTurn, Road, answered, answers, laid, receiver_does, waiting}
use Rattle.mq_law_node.proofs.Named.{end_set}
use Rattle.mq_law_pump.specs.Deeds.{HasReceiver, TakesLane}

abbrev is_defined : ReceiverEnd → Node → Bool
is_defined e n = is_receiver_defined e.channel n.manager.definitions

abbrev turn_of : ReceiverEnd → Node → ℕ → ReceiverOut → ReceiverTurn
turn_of e n stamp o = record { stamp = stamp; defined = is_defined e n; outcome = o }

abbrev EachTakes : ReceiverEnd → Node → Road → Option Deed → Type 0
EachTakes e n w None = Unit {0}
EachTakes e n w (Some d) = TakesLane e n d w

-- what is pushed lies there last
abbrev Pushes : ReceiverEnd → Node → Road → ℕ → Deed → ReceiverDoes → ReceiverOut → Type 0
Pushes e n w stamp d x o = answers x (turn_of e n stamp o) w ≡ laid d.pushed w.back

-- a turn that is done
done_takes : (e : ReceiverEnd) (n : Node) (w : Road) (stamp : ℕ) (d : Deed) (x : ReceiverDoes) (kept : List Message) → HasReceiver e n w → receiver_next e.machine (waiting w.out) (is_defined e n) ≡ x → (x ≡ takes.Still → ⊥)
    → end_in e.cable d.own.ends ≡ Some (Receives (record e { machine = receiver_after e.machine x (waiting w.out) ends.Done; kept = kept })) → Pushes e n w stamp d x ends.Done → TakesLane e n d w
done_takes e n w stamp d x kept g is changed own pushes =
    let t : ReceiverTurn = turn_of e n stamp ends.Done in
    let does_so : receiver_does t w ≡ x = ap (λ (m : Receiver). receiver_next m (waiting w.out) (is_defined e n)) g.machine ∙ is in
    record {
      turn = t;
      defined = refl;
      may = record { changed = (λ still. changed (sym does_so ∙ still), λ full. absurd (not_full full)); refused = λ reason r. absurd (not_refused reason r) };
      kept = kept;
      ends = own ∙ ap (λ (m : Receiver). Some (Receives (record e { machine = m; kept = kept })))
          (sym (ap (λ (m : Receiver). receiver_after m (receiver_does t w) (waiting w.out) ends.Done) g.machine ∙ ap (λ (y : ReceiverDoes). receiver_after e.machine y (waiting w.out) ends.Done) does_so));
      out = refl;
      back = ap (λ (y : ReceiverDoes). answers y t w) does_so ∙ pushes;
      sender = refl;
      free = refl;
      held = refl;
    }
  where
    not_full : ends.Done ≡ ends.Full → ⊥
    not_full z = absurd cc

    not_refused : (reason : ℕ) → ends.Done ≡ ends.Refused reason → ⊥
    not_refused reason z = absurd cc

-- a batch that is refused
refused_takes : (e : ReceiverEnd) (n : Node) (w : Road) (stamp : ℕ) (d : Deed) (unit : Luw) (reason : ℕ) → HasReceiver e n w → receiver_next e.machine (waiting w.out) (is_defined e n) ≡ takes.Place unit
    → end_in e.cable d.own.ends ≡ Some (Receives (record e { machine = receiver_after e.machine (takes.Place unit) (waiting w.out) (ends.Refused reason); kept = [] })) → d.pushed ≡ None → TakesLane e n d w
refused_takes e n w stamp d unit reason g is own silent =
    let t : ReceiverTurn = turn_of e n stamp (ends.Refused reason) in
    let does_so : receiver_does t w ≡ takes.Place unit = ap (λ (m : Receiver). receiver_next m (waiting w.out) (is_defined e n)) g.machine ∙ is in
    record {
      turn = t;
      defined = refl;
      may = record { changed = (λ still. absurd (not_still (sym does_so ∙ still)), λ full. absurd (not_full full)); refused = λ other r. (unit, does_so) };
      kept = [];
      ends = own ∙ ap (λ (m : Receiver). Some (Receives (record e { machine = m; kept = [] })))
          (sym (ap (λ (m : Receiver). receiver_after m (receiver_does t w) (waiting w.out) (ends.Refused reason)) g.machine ∙ ap (λ (y : ReceiverDoes). receiver_after e.machine y (waiting w.out) (ends.Refused reason)) does_so));
      out = refl;
      back = ap (λ (y : ReceiverDoes). answers y t w) does_so ∙ ap (λ (o : Option Frame). laid o w.back) (sym silent);
      sender = refl;
      free = refl;
      held = refl;
    }
  where
    not_still : takes.Place unit ≡ takes.Still → ⊥
    not_still z = absurd cc

    not_full : ends.Refused reason ≡ ends.Full → ⊥
    not_full z = absurd cc

set_so : (e : ReceiverEnd) (n : Node) (m : Receiver) (kept : List Message) → end_in e.cable n.own.ends ≡ Some (Receives e)
    → end_in e.cable (with_end (Receives (record e { machine = m; kept = kept })) n.own).ends ≡ Some (Receives (record e { machine = m; kept = kept }))
set_so e n m kept here = end_set (Receives (record e { machine = m; kept = kept })) (Receives e) n.own.ends here

places : (e : ReceiverEnd) (n : Node) (w : Road) (stamp : ℕ) (unit : Luw) (s : Step Reason (Unit {0})) → HasReceiver e n w → receiver_next e.machine (waiting w.out) (is_defined e n) ≡ takes.Place unit → TakesLane e n (place_deed e unit (waiting w.out) s n) w
places e n w stamp unit (Refuse reason) g is = refused_takes e n w stamp (place_deed e unit (waiting w.out) (Refuse reason) n) unit (number reason) g is (set_so e n (receiver_after e.machine (takes.Place unit) (waiting w.out) (ends.Refused (number reason))) [] g.here) refl
places e n w stamp unit (Do reply parts) g is = done_takes e n w stamp (place_deed e unit (waiting w.out) (Do reply parts) n) (takes.Place unit) [] g is (λ z. absurd cc) (set_so e n (receiver_after e.machine (takes.Place unit) (waiting w.out) ends.Done) [] g.here) refl

owed_last : (stamp : ℕ) (o : Option Owed) (xs : List Seen) → answered stamp o xs ≡ laid (option_map (owed_frame stamp) o) xs
owed_last stamp None xs = refl
owed_last stamp (Some o) xs = refl

-- what is owed is pushed, whatever waits
pub owed_first : (r : Receiver) (seen : Seen) (defined : Bool) → is_some r.owes ≡ true → receiver_next r seen defined ≡ takes.PushOwed
owed_first r seen defined owes = ap (λ (b : Bool). if b then takes.PushOwed else first_line takes.Still (tail_of (receiver_lines r seen defined))) owes
  where
    tail_of : List (Line ReceiverDoes) → List (Line ReceiverDoes)
    tail_of [] = []
    tail_of (x ∷ xs) = xs

pays : (e : ReceiverEnd) (n : Node) (w : Road) (stamp : ℕ) (seen : Seen) → HasReceiver e n w → receiver_next e.machine (waiting w.out) (is_defined e n) ≡ takes.PushOwed → EachTakes e n w (receiver_deed_by stamp e seen takes.PushOwed n)
pays e n w stamp seen g is = done_takes e n w stamp (turned [] (option_map (owed_frame stamp) e.machine.owes) (receiver_end_after e takes.PushOwed seen ends.Done e.kept n.own)) takes.PushOwed e.kept g is (λ z. absurd cc)
    (set_so e n (receiver_after e.machine takes.PushOwed (waiting w.out) ends.Done) e.kept g.here)
    (ap (λ (m : Receiver). answered stamp m.owes w.back) g.machine ∙ owed_last stamp e.machine.owes w.back)

takes_by : (e : ReceiverEnd) (n : Node) (w : Road) (stamp : ℕ) (x : ReceiverDoes) → HasReceiver e n w → receiver_next e.machine (waiting w.out) (is_defined e n) ≡ x → EachTakes e n w (receiver_deed_by stamp e (waiting w.out) x n)
takes_by e n w stamp takes.Still g is = tt
takes_by e n w stamp takes.Ignore g is = done_takes e n w stamp (turned [] None n.own) takes.Ignore e.kept g is (λ z. absurd cc) g.here refl
takes_by e n w stamp takes.PushOwed g is = pays e n w stamp (waiting w.out) g is
takes_by e n w stamp takes.Bind g is = done_takes e n w stamp _ takes.Bind [] g is (λ z. absurd cc) (set_so e n (receiver_after e.machine takes.Bind (waiting w.out) ends.Done) [] g.here) refl
takes_by e n w stamp takes.Keep g is = done_takes e n w stamp _ takes.Keep (kept_seen (waiting w.out) e.kept) g is (λ z. absurd cc) (set_so e n (receiver_after e.machine takes.Keep (waiting w.out) ends.Done) (kept_seen (waiting w.out) e.kept) g.here) refl
takes_by e n w stamp (takes.Place unit) g is = places e n w stamp unit (receive e.channel unit (last_by (waiting w.out) e.machine.last) e.kept n.manager) g is
takes_by e n w stamp takes.Again g is = done_takes e n w stamp _ takes.Again e.kept g is (λ z. absurd cc) (set_so e n (receiver_after e.machine takes.Again (waiting w.out) ends.Done) e.kept g.here) refl
takes_by e n w stamp takes.Close g is = done_takes e n w stamp _ takes.Close [] g is (λ z. absurd cc) (set_so e n (receiver_after e.machine takes.Close (waiting w.out) ends.Done) [] g.here) refl

taken_lane : (e : ReceiverEnd) (n : Node) (w : Road) (o : Option Deed) (d : Deed) → EachTakes e n w o → o ≡ Some d → TakesLane e n d w
taken_lane e n w None d h is = absurd cc
taken_lane e n w (Some x) d h is = subst (λ (y : Deed). TakesLane e n y w) (some_same x d is) h
  where
    some_same : (a b : Deed) → Some a ≡ Some b → a ≡ b
    some_same a b eq = cc

-- A turn that pushes what is owed pops nothing, so it is taken as if nothing waited.
pub receiver_takes : (e : ReceiverEnd) (n : Node) (w : Road) (stamp : ℕ) (seen : Seen) (d : Deed) → HasReceiver e n w → (seen ≡ waiting w.out) ⊎ (is_some e.machine.owes ≡ true) → receiver_deed stamp e seen n ≡ Some d → TakesLane e n d w
receiver_takes e n w stamp seen d g (inl same) is =
    taken_lane e n w (receiver_deed stamp e (waiting w.out) n) d (takes_by e n w stamp (receiver_next e.machine (waiting w.out) (is_defined e n)) g refl) (ap (λ (s : Seen). receiver_deed stamp e s n) (sym same) ∙ is)
receiver_takes e n w stamp seen d g (inr owes) is =
    taken_lane e n w (receiver_deed_by stamp e seen takes.PushOwed n) d (pays e n w stamp seen g (owed_first e.machine (waiting w.out) (is_defined e n) owes))
    (ap (λ (x : ReceiverDoes). receiver_deed_by stamp e seen x n) (sym (owed_first e.machine seen (is_defined e n) owes)) ∙ is)
