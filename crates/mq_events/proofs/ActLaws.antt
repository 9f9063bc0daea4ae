-- Stops, cuts and moments that advance, as events.
use Rattle.std.proofs.Common.{◌≡◌, ℕ, ◌+◌, refl, sym, ap, subst, ◌∙◌, ◌≤◌, [], Bool, true, false, arith}
use Rattle.std.specs.Prelude.{Ok, Err}
use Rattle.mq_base.specs.declared.want.NoMemory.{NoMemory as Want}
use Rattle.mq_history.specs.declared.acts.Act.{Act}
use Rattle.mq_history.specs.declared.acts.Act.TheVariants as acts
use Rattle.mq_history.specs.declared.acts.Acted.{Acted}
use Rattle.mq_history.specs.declared.acts.Acted.TheVariants as acted
use Rattle.mq_history.specs.declared.calls.Call.TheVariants as calls
use Rattle.mq_history.specs.declared.calls.Reply.TheVariants as replies
use Rattle.mq_spec_node.specs.Terms.{Actor, Call, Entry, Plain, Running, Up, Down, Answered, stop, cut, advance_clock}
use Rattle.mq_spec_manager.specs.Stops.{stop_at}
use Rattle.mq_spec_node.specs.Words.{Node, Own, node_of, own_crashed, crashed, done_by, Tells, IsReplayed}
use Rattle.mq_manager.specs.from_core.Values.{CoreValue}
use Rattle.mq_events.specs.States.{NodeState, node_in, value_of, IsKept, IsServed, entry_of, told, quietly}
use Rattle.mq_events.specs.Events.{ActsAs, acted_by, own_by}
use Rattle.mq_events.proofs.ReplayLaws.{replayed_more, with_more}
use Rattle.mq_events.specs.Disks.{disk_failed}
use Rattle.mq_events.proofs.CallLaws.{silent}
use Rattle.mq_events.proofs.EventLaws.{served_is}

-- room was taken, and nothing else has changed
pub room_kept : (s : NodeState) (room : ℕ) → IsKept s → IsKept (record s { room = room })
room_kept s room k = k

pub room_stays : (s : NodeState) (room : ℕ) (who : Actor) (what : Call) (x : Want) → ActsAs who what s (Err x) (record s { room = room })
room_stays s room who what x = record { same = refl; marks = refl; faults = omega arith }

module _ (s : NodeState) (room : ℕ) (m : CoreValue) (own : Own) (actor : Actor) (asked : Act) (a : Acted) where
  abbrev it : Entry
  it = entry_of (s.stamp + 1) actor (calls.Act asked) (quietly a)

  -- an act whose event is this
  act_kept : IsKept s → IsServed s → Tells (node_in s) s.stamp it → (done_by it (node_in s)).next ≡ node_of m.plain own
      → IsKept (told actor (calls.Act asked) (quietly a) (record s { manager = m; own = own; room = room }))
  act_kept k served t next =
      let V : Node → Type 0 = λ n. IsReplayed (record (with_more it (value_of s)) { node = n }) in
      subst V next (replayed_more (value_of s) it k t (served_is s it served))

  act_adds : s.manager.faults ≤ m.faults → disk_failed (replies.Acted a) ≡ false → ActsAs actor (calls.Act asked) s (Ok a) (told actor (calls.Act asked) (quietly a) (record s { manager = m; own = own; room = room }))
  act_adds f quiet = (it, record { grows = record { given = refl; history = refl }; actor = refl; call = refl; marks = refl; faults = f; rose = silent (replies.Acted a) (replies.Acted a) s.manager.faults m.faults refl quiet }, refl)

same_faults : (a b : ℕ) → b ≡ a → a ≤ b
same_faults a b e = omega (arith, e)

-- The cut.
pub cut_kept : (s : NodeState) (room : ℕ) (m : CoreValue) (actor : Actor) (k : ℕ) → IsKept s → IsServed s → m.plain ≡ cut k s.manager.plain
    → IsKept (told actor (calls.Act (acts.Cut k)) (quietly acted.Done) (record s { manager = m; room = room }))
cut_kept s room m actor k kept served e = act_kept s room m s.own actor (acts.Cut k) acted.Done kept served
    (record { stamp = refl; event = refl; reply = refl; delta = refl; pushed = refl; received = refl; popped = tt; extras = refl })
    (ap (λ (p : Plain). node_of p s.own) (sym e))

pub cut_adds : (s : NodeState) (room : ℕ) (m : CoreValue) (actor : Actor) (k : ℕ) → m.faults ≡ s.manager.faults
    → ActsAs actor (calls.Act (acts.Cut k)) s (Ok acted.Done) (told actor (calls.Act (acts.Cut k)) (quietly acted.Done) (record s { manager = m; room = room }))
cut_adds s room m actor k e = act_adds s room m s.own actor (acts.Cut k) acted.Done (same_faults s.manager.faults m.faults e) refl

-- The moment.
pub clock_kept : (s : NodeState) (room : ℕ) (m : CoreValue) (actor : Actor) (by : ℕ) → IsKept s → IsServed s → m.plain ≡ advance_clock by s.manager.plain
    → IsKept (told actor (calls.Act (acts.Clock by)) (quietly acted.Done) (record s { manager = m; room = room }))
clock_kept s room m actor by kept served e = act_kept s room m s.own actor (acts.Clock by) acted.Done kept served
    (record { stamp = refl; event = refl; reply = refl; delta = refl; pushed = refl; received = refl; popped = tt; extras = refl })
    (ap (λ (p : Plain). node_of p s.own) (sym e))

pub clock_adds : (s : NodeState) (room : ℕ) (m : CoreValue) (actor : Actor) (by : ℕ) → m.faults ≡ s.manager.faults
    → ActsAs actor (calls.Act (acts.Clock by)) s (Ok acted.Done) (told actor (calls.Act (acts.Clock by)) (quietly acted.Done) (record s { manager = m; room = room }))
clock_adds s room m actor by e = act_adds s room m s.own actor (acts.Clock by) acted.Done (same_faults s.manager.faults m.faults e) refl

-- A stop: of a manager that is up, and of one that is down.
crash_reply_is : (up : Bool) (n : Node) (p : Plain) (r : Running) → (stop_at r p).outcome ≡ Answered up → replies.Acted (acted_by up) ≡ (crashed (stop_at r p) n).reply
crash_reply_is true n p Up e = refl
crash_reply_is false n p Up e = absurd cc
crash_reply_is true n p (Down noted starts) e = absurd cc
crash_reply_is false n p (Down noted starts) e = refl

crash_delta_is : (n : Node) (p : Plain) (r : Running) → [] ≡ (crashed (stop_at r p) n).delta
crash_delta_is n p Up = refl
crash_delta_is n p (Down noted starts) = refl

crash_own_is : (up : Bool) (n : Node) (p : Plain) (r : Running) → (stop_at r p).outcome ≡ Answered up → own_crashed (stop_at r p).outcome n.own ≡ own_by up n.own
crash_own_is true n p Up e = refl
crash_own_is false n p Up e = absurd cc
crash_own_is true n p (Down noted starts) e = absurd cc
crash_own_is false n p (Down noted starts) e = refl

pub stop_kept : (up : Bool) (s : NodeState) (room : ℕ) (m : CoreValue) (actor : Actor) → IsKept s → IsServed s → (stop s.manager.plain).outcome ≡ Answered up → m.plain ≡ (stop s.manager.plain).next
    → IsKept (told actor (calls.Act acts.Crash) (quietly (acted_by up)) (record s { manager = m; own = own_by up s.own; room = room }))
stop_kept up s room m actor kept served o e = act_kept s room m (own_by up s.own) actor acts.Crash (acted_by up) kept served
    (record {
      stamp = refl;
      event = refl;
      reply = crash_reply_is up (node_in s) s.manager.plain s.manager.plain.running o;
      delta = crash_delta_is (node_in s) s.manager.plain s.manager.plain.running;
      pushed = refl;
      received = refl;
      popped = tt;
      extras = refl;
    })
    (ap (λ (p : Plain). node_of p (own_crashed (stop s.manager.plain).outcome s.own)) (sym e) ∙ ap (node_of m.plain) (crash_own_is up (node_in s) s.manager.plain s.manager.plain.running o))

no_start : (up : Bool) → disk_failed (replies.Acted (acted_by up)) ≡ false
no_start true = refl
no_start false = refl

pub stop_adds : (up : Bool) (s : NodeState) (room : ℕ) (m : CoreValue) (actor : Actor) → m.faults ≡ s.manager.faults
    → ActsAs actor (calls.Act acts.Crash) s (Ok (acted_by up)) (told actor (calls.Act acts.Crash) (quietly (acted_by up)) (record s { manager = m; own = own_by up s.own; room = room }))
stop_adds up s room m actor e = act_adds s room m (own_by up s.own) actor acts.Crash (acted_by up) (same_faults s.manager.faults m.faults e) (no_start up)
