-- A node's type is kept by its sender's events: no counter rises, and no receiver keeps more.
use Rattle.std.proofs.Common.{◌≡◌, ℕ, ◌+◌, ◌≤◌, refl, sym, ap, subst, ◌∙◌, length, arith}
use Rattle.std.specs.Prelude.{Option, Some, None}
use Rattle.mq_calls.specs.declared.choices.Choice.{Choice}
use Rattle.mq_calls.specs.declared.choices.Choice.TheVariants.{Runs, NoMemory, Stopped}
use Rattle.mq_history.specs.declared.calls.Actor.TheVariants as actors
use Rattle.mq_history.specs.declared.calls.Call.TheVariants as calls
use Rattle.mq_history.specs.declared.calls.Chance.{Chance}
use Rattle.mq_history.specs.declared.calls.Chance.TheVariants as chances
use Rattle.mq_events.specs.from_law_counts.Counts.{Climbs}
use Rattle.mq_events.proofs.from_law_counts.Climbing.{stay}
use Rattle.mq_spec_node.specs.Terms.{Actor, Call, Entry, Seen}
use Rattle.mq_spec_node.specs.Words.{Deed, Done, Node, NodeValue, choice_event, deed_of, done, done_by, event}
use Rattle.mq_events.specs.Disks.{HasRisen}
use Rattle.mq_events.specs.States.{IsKept, NodeState, Spare, node_in}
use Rattle.mq_events.specs.Counts.{AreAside, AreCounted, HasBound, IsNode, kept_total, waiting_total}
use Rattle.mq_events.specs.Events.{Adds, Stays}
use Rattle.mq_events.proofs.CountLaws.{adds_long, aside_long, climbs_counted, next_is}
use Rattle.mq_events.proofs.RiseLaws.{risen_more, risen_still}
use Rattle.mq_turn_parts.specs.Turns.{IsSenders}
use Rattle.mq_turn_parts.proofs.QuietLaws.{IsQuiet, Quiet, none_climb, timeout_quiet, turn_quiet}

-- What an event comes to.
abbrev IsQuietDone : Done → Node → Type 0
IsQuietDone o n = Climbs 0 n.manager o.next.manager × (kept_total o.next.own ≤ kept_total n.own) × (length o.next.own.ends ≡ length n.own.ends)

le_self : (n : ℕ) → n ≤ n
le_self n = omega arith

still : (n : Node) → Climbs 0 n.manager n.manager × (kept_total n.own ≤ kept_total n.own) × (length n.own.ends ≡ length n.own.ends)
still n = (stay 0 n.manager, le_self (kept_total n.own), refl)

done_quiet : (d : Deed) (choice : Choice) (n : Node) → IsQuiet d n.own → IsQuietDone (done d choice n) n
done_quiet d Runs n q = ((none_climb d.parts n.manager q.0).all, q.1, q.2)
done_quiet d NoMemory n q = still n
done_quiet d (Stopped by part left) n q = ((none_climb d.parts n.manager q.0).stopped part left, le_self (kept_total n.own), refl)

chosen_quiet : (chance : Chance) (d : Option Deed) (n : Node) → Quiet d n.own → IsQuietDone (choice_event chance d n) n
chosen_quiet (chances.Call choice) None n q = still n
chosen_quiet (chances.Call choice) (Some d) n q = done_quiet d choice n q
chosen_quiet (chances.Restart choice) d n q = still n
chosen_quiet (chances.Foreign image length left) d n q = still n

event_quiet : (stamp cable : ℕ) (call : Call) (chance : Chance) (seen : Seen) (n : Node) → IsSenders call → IsQuietDone (event stamp (actors.Sender cable) call chance seen n) n
event_quiet stamp cable calls.Turn chance seen n is = chosen_quiet chance (deed_of stamp (actors.Sender cable) calls.Turn seen n) n (turn_quiet stamp cable seen n)
event_quiet stamp cable calls.Timeout chance seen n is = chosen_quiet chance (deed_of stamp (actors.Sender cable) calls.Timeout seen n) n (timeout_quiet cable n)
event_quiet stamp cable (calls.Mqconn qmgr appl) chance seen n is = absurd is
event_quiet stamp cable (calls.Mqdisc hc) chance seen n is = absurd is
event_quiet stamp cable (calls.Mqopen hc name qmgr how) chance seen n is = absurd is
event_quiet stamp cable (calls.Mqclose hc ho) chance seen n is = absurd is
event_quiet stamp cable (calls.Mqput hc ho md body sync) chance seen n is = absurd is
event_quiet stamp cable (calls.Mqput1 hc name qmgr md body sync) chance seen n is = absurd is
event_quiet stamp cable (calls.Mqget hc ho get until) chance seen n is = absurd is
event_quiet stamp cable (calls.Mqcmit hc) chance seen n is = absurd is
event_quiet stamp cable (calls.Mqback hc) chance seen n is = absurd is
event_quiet stamp cable (calls.Act act) chance seen n is = absurd is
event_quiet stamp cable calls.Trigger chance seen n is = absurd is

-- So behind the entry.
no_more : (a b : ℕ) → a ≤ b → a + 0 ≤ b + 1024
no_more a b h = omega (arith, h)

-- the event is quiet
module _ (cable : ℕ) (what : Call) (e : Entry) (s t : NodeState) (is : IsSenders what) (kept : IsKept s) (k : IsKept t) (a : Adds (actors.Sender cable) what e s t) where
  abbrev n0 : Node
  n0 = node_in s

  abbrev QuietTo : Node → Type 0
  QuietTo x = Climbs 0 s.manager.plain x.manager × (kept_total x.own ≤ kept_total s.own) × (length x.own.ends ≡ length s.own.ends)

  sender_quiet : QuietTo (node_in t)
  sender_quiet =
      let A : Actor → Type 0 = λ x. IsQuietDone (event e.stamp x e.call e.chance e.effect.popped n0) n0 in
      let C : Call → Type 0 = λ x. IsQuietDone (event e.stamp (actors.Sender cable) x e.chance e.effect.popped n0) n0 in
      let done : IsQuietDone (done_by e n0) n0 = subst A (sym a.actor) (subst C (sym a.call) (event_quiet e.stamp cable what e.chance e.effect.popped n0 is)) in
      subst QuietTo (sym (next_is (actors.Sender cable) what e s t kept k a)) done

  pub sender_counted : AreCounted s → HasRisen s.history.entries s.manager.faults → t.spare.few ≡ s.spare.few → AreAside t → IsNode t
  sender_counted counted risen few aside =
      let q : QuietTo (node_in t) = sender_quiet in
      record {
        kept = k;
        counted = climbs_counted 0 s t counted few (adds_long (actors.Sender cable) what e s t a) q.0 (no_more (kept_total t.own) (kept_total s.own) q.1);
        risen = risen_more (actors.Sender cable) what e s t risen a;
        aside = aside;
      }

-- so where an entry was set aside for each end
pub turned_counted : (cable : ℕ) (e : Entry) (s t : NodeState) → IsNode s → length s.own.ends ≤ s.spare.aside → IsKept t → t.spare ≡ s.spare → Adds (actors.Sender cable) calls.Turn e s t → IsNode t
turned_counted cable e s t n enough k spare a =
    sender_counted cable calls.Turn e s t tt n.kept k a n.counted n.risen (ap (λ (x : Spare). x.few) spare) (aside_long s t enough spare (sender_quiet cable calls.Turn e s t tt n.kept k a).2)

same_aside : (a b c d : ℕ) → a ≡ b → b ≤ c → d ≡ c → a ≤ d
same_aside a b c d i x j = omega (arith, i, x, j)

pub stays_counted : (s t : NodeState) → IsNode s → IsKept t → t.spare ≡ s.spare → Stays s t → IsNode t
stays_counted s t n k spare st = record {
  kept = k;
  counted = λ f. subst HasBound (sym st.same) (n.counted (ap (λ (x : Spare). x.few) (sym spare) ∙ f));
  risen = risen_still s t n.risen st;
  aside = same_aside (waiting_total t.own) (waiting_total s.own) s.spare.aside t.spare.aside (ap (λ (v : NodeValue). waiting_total v.node.own) st.same) n.aside (ap (λ (x : Spare). x.aside) spare);
}
