-- A timeout at its node: its entry was set aside, and the node is one behind it.
use Rattle.std.proofs.Common.{◌≡◌, ℕ, ◌+◌, ◌-◌, ◌<◌, ◌≤◌, sym, ap, subst, ◌∙◌, arith}
use Rattle.std.specs.Prelude.{Option, Some, None}
use Rattle.mq_frame.specs.declared.frame.Seen.TheVariants as items
use Rattle.mq_history.specs.declared.calls.Actor.TheVariants as actors
use Rattle.mq_history.specs.declared.calls.Call.TheVariants as calls
use Rattle.mq_spec_node.specs.Terms.{Entry}
use Rattle.mq_spec_node.specs.Words.{Deed, SenderEnd, deed_of}
use Rattle.mq_events.specs.Counts.{AreCounted, IsNode, waiting_total}
use Rattle.mq_events.specs.Disks.{HasRisen}
use Rattle.mq_events.specs.Events.{Adds, MayAct}
use Rattle.mq_events.specs.States.{IsKept, IsServed, NodeState, Spare, node_in}
use Rattle.mq_turn_parts.specs.declared.telling.Turn.TheVariants as turns
use Rattle.mq_turn_parts.specs.Turns.{IsDue, TimeoutIs, TimesOut}
use Rattle.mq_turn_parts.proofs.CountLaws.{sender_counted}
use Rattle.mq_turn_parts.proofs.DueLaws.{beside_due, beside_kept, beside_may, beside_served}
use Rattle.mq_turn_parts.proofs.WaitLaws.{due_aside}

one_less : (a b c d e : ℕ) → a + 1 ≡ b → b ≤ c → 0 < c → d ≡ c - 1 → e ≡ d → a ≤ e
one_less a b c d e i le lt j k = omega (arith, i, le, lt, j, k)

timed_entry : (cable : ℕ) (d : Option Deed) (s t : NodeState) → TimeoutIs cable d s turns.Changed t → (x : Entry) × Adds (actors.Sender cable) calls.Timeout x s t
timed_entry cable None s t h = absurd h
timed_entry cable (Some d) s t h = h

module _ (s r : NodeState) (e : r ≡ record s { spare = record s.spare { aside = s.spare.aside - 1 }; room = s.room + 1 }) where
  -- an entry that was set aside is room
  beside : r ≡ record s { spare = r.spare; room = r.room }
  beside = e ∙ ap (λ (x : NodeState). record s { spare = x.spare; room = x.room }) (sym e)

  pub drawn_room : 0 < r.room
  drawn_room = let is = ap (λ (x : NodeState). x.room) e in omega (arith, is)

  pub drawn_kept : IsKept s → IsKept r
  drawn_kept h = beside_kept s r beside h

  pub drawn_served : IsServed s → IsServed r
  drawn_served h = beside_served s r beside h

  pub drawn_may : MayAct s → MayAct r
  drawn_may h = beside_may s r beside h

  pub drawn_due : (end : SenderEnd) → IsDue end.cable end s → IsDue end.cable end r
  drawn_due end d = beside_due s r beside end.cable end d

  module _ (t : NodeState) (end : SenderEnd) where
    did_by : (d : Option Deed) (spare : Spare) (room : ℕ) → TimeoutIs end.cable d (record s { spare = spare; room = room }) turns.Changed t → TimeoutIs end.cable d s turns.Changed t
    did_by None spare room h = absurd h
    did_by (Some d) spare room h = (h.0, record { grows = record { given = h.1.grows.given; history = h.1.grows.history }; actor = h.1.actor; call = h.1.call; marks = h.1.marks; faults = h.1.faults; rose = h.1.rose })

    pub timed_did : TimesOut end.cable r turns.Changed t → TimesOut end.cable s turns.Changed t
    timed_did h =
        did_by (deed_of (s.stamp + 1) (actors.Sender end.cable) calls.Timeout items.Nothing (node_in s)) r.spare r.room (subst (λ (x : NodeState). TimesOut end.cable x turns.Changed t) beside h)

    pub timed_node : IsNode s → IsDue end.cable end s → IsKept t → TimesOut end.cable r turns.Changed t → t.spare ≡ r.spare → waiting_total t.own + 1 ≡ waiting_total r.own → IsNode t
    timed_node n due kept h spare waits =
        let P : NodeState → Type 0 = λ x. AreCounted x × HasRisen x.history.entries x.manager.faults in
        let p : P r = subst P (sym e) (n.counted, n.risen) in
        let it = timed_entry end.cable (deed_of (r.stamp + 1) (actors.Sender end.cable) calls.Timeout items.Nothing (node_in r)) r t h in
        sender_counted end.cable calls.Timeout it.0 r t tt (drawn_kept n.kept) kept it.1 p.0 p.1 (ap (λ (x : Spare). x.few) spare)
        (one_less (waiting_total t.own) (waiting_total s.own) s.spare.aside r.spare.aside t.spare.aside
        (waits ∙ ap (λ (x : NodeState). waiting_total x.own) e) n.aside (due_aside s end due n.aside) (ap (λ (x : NodeState). x.spare.aside) e) (ap (λ (x : Spare). x.aside) spare))
