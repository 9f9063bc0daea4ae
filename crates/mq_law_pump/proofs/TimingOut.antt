-- A timeout of a sender's end at a node is the timeout of its lane.
use Rattle.std.proofs.Common.{◌≡◌, Bool, true, false, List, [], refl, ap, sym, subst, ◌∙◌}
use Rattle.std.specs.Prelude.{if◌then◌else◌, Some, None}
use Rattle.mq_sender.specs.declared.state.Sender.{Sender}
use Rattle.mq_sender.specs.declared.state.SenderState.{SenderState}
use Rattle.mq_sender.specs.declared.state.SenderState.TheVariants.{Binding, Waiting}
use Rattle.mq_sender.specs.States.{awaits, is_running, timed_out}
use Rattle.mq_calls.specs.Steps.{Part, do_all}
use Rattle.mq_spec_node.specs.Node.{Node, SenderEnd}
use Rattle.mq_spec_node.specs.Node.ChannelEnd.{Sends}
use Rattle.mq_spec_node.specs.Deeds.{Deed, parts_of}
use Rattle.mq_spec_node.specs.Senders.{after_timeout, timeout_deed}
use Rattle.mq_spec_manager.specs.Agents.{leave}
use Rattle.mq_law_idle.specs.Roads.{Road}
use Rattle.mq_law_node.proofs.Named.{end_set}
use Rattle.mq_law_pump.specs.Deeds.{HasSender, TimesOutLane}
use Rattle.mq_law_pump.specs.Rows.{AreWithin, rows_of}

awaiting_runs : (st : SenderState) → awaits st ≡ true → is_running st ≡ true
awaiting_runs Binding e = refl
awaiting_runs Waiting e = refl
awaiting_runs st e = absurd cc

timed_lane : (e : SenderEnd) (n : Node) (w : Road) → HasSender e n w → awaits e.machine.state ≡ true → TimesOutLane e n (after_timeout e (timed_out e.machine) n) w
timed_lane e n w g waits = record {
  waits = ap (λ (m : Sender). awaits m.state) g.machine ∙ waits;
  ends = end_set (Sends (record e { machine = timed_out e.machine })) (Sends e) n.own.ends g.here ∙ ap (λ (m : Sender). Some (Sends (record e { machine = timed_out m }))) (sym g.machine);
  pushed = refl;
  rows = λ runs. subst (λ (b : Bool). AreWithin (rows_of e.channel (do_all (if b then [] else left) n.manager)) w) (sym (ap (λ (m : Sender). is_running (timed_out m).state) (sym g.machine) ∙ runs)) (g.rows (awaiting_runs e.machine.state waits));
}
  where
    left : List Part
    left = parts_of (leave e.channel n.manager)

pub sender_times_out : (e : SenderEnd) (n : Node) (w : Road) (d : Deed) → HasSender e n w → timeout_deed e n ≡ Some d → TimesOutLane e n d w
sender_times_out e n w d g is = one (awaits e.machine.state) refl
  where
    some_same : (a b : Deed) → Some a ≡ Some b → a ≡ b
    some_same a b eq = cc

    one : (b : Bool) → awaits e.machine.state ≡ b → TimesOutLane e n d w
    one true waits = subst (λ (x : Deed). TimesOutLane e n x w) (some_same (after_timeout e (timed_out e.machine) n) d (sym (ap (λ (b : Bool). if b then Some (after_timeout e (timed_out e.machine) n) else None) waits) ∙ is)) (timed_lane e n w g waits)
    one false waits = absurd (none_is (sym (ap (λ (b : Bool). if b then Some (after_timeout e (timed_out e.machine) n) else None) waits) ∙ is))
      where
        none_is : None ≡ Some d → ⊥
        none_is z = absurd cc
