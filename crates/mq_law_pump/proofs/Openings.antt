-- What adds no row to a queue leaves it open, and so the lane of its sender as it is.
use Rattle.std.proofs.Common.{ℕ, ◌≡◌, true, false, List, ap, arith, ◌∙◌}
use Rattle.mq_sender.specs.States.{is_running}
use Rattle.mq_calls.specs.Reads.{has_held_by_other}
use Rattle.mq_calls.specs.State.{Plain}
use Rattle.mq_calls.specs.Steps.{Part, do_all}
use Rattle.mq_spec_manager.specs.Agents.{queue_of_sender}
use Rattle.mq_spec_node.specs.Deeds.{Deed}
use Rattle.mq_spec_node.specs.Node.{Node, SenderEnd, end_in}
use Rattle.mq_law_idle.specs.Counts.{free_in, held_in}
use Rattle.mq_law_idle.specs.Roads.{Road}
use Rattle.mq_law_node.specs.Rows.{rows_at}
use Rattle.mq_law_pump.specs.Deeds.{HasSender}
use Rattle.mq_law_pump.specs.Others.{NoMore, parts_add_none}
use Rattle.mq_law_pump.specs.Rows.{AreWithin, rows_of}
use Rattle.mq_law_pump.proofs.Leaving.{none_leaves, stays_open}
use Rattle.mq_law_pump.proofs.Others.{parts_no_more}

pub parts_open : (channel q : List ℕ) (parts : List Part) (p : Plain) → parts_add_none channel q parts ≡ true → queue_of_sender channel (do_all parts p) ≡ queue_of_sender channel p
parts_open channel q parts p h = stays_open channel q parts p (none_leaves channel q parts h)

-- so the lane's sender is as it was
pub lane_stays : (e : SenderEnd) (n m : Node) (d : Deed) (w : Road) → HasSender e n w → end_in e.cable m.own.ends ≡ end_in e.cable n.own.ends → m.manager ≡ do_all d.parts n.manager
    → (is_running e.machine.state ≡ true → (parts_add_none e.channel (queue_of_sender e.channel n.manager) d.parts ≡ true) × (has_held_by_other e.channel (queue_of_sender e.channel n.manager) n.manager ≡ false)) → HasSender e m w
lane_stays e n m d w h ends is adds = record {
  machine = h.machine;
  here = ends ∙ h.here;
  rows = λ runs. within (adds runs) (h.rows runs);
}
  where
    q : List ℕ
    q = queue_of_sender e.channel n.manager

    within : (parts_add_none e.channel q d.parts ≡ true) × (has_held_by_other e.channel q n.manager ≡ false) → AreWithin (rows_of e.channel n.manager) w → AreWithin (rows_of e.channel m.manager) w
    within a r =
        let same : rows_of e.channel m.manager ≡ rows_at q (do_all d.parts n.manager) = ap (rows_of e.channel) is ∙ ap (λ (name : List ℕ). rows_at name (do_all d.parts n.manager)) (parts_open e.channel q d.parts n.manager a.0) in
        let more : NoMore (rows_at q (do_all d.parts n.manager)) (rows_at q n.manager) = parts_no_more e.channel q d.parts n.manager a.0 a.1 in
        record { free = omega (arith, ap free_in same, more.free, r.free); held = omega (arith, ap held_in same, more.held, r.held) }
