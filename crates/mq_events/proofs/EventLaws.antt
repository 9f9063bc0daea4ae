-- An event whose call came so: the history with its entry replays, and leads to the node behind it.
use Rattle.std.proofs.Common.{◌≡◌, ℕ, ◌+◌, refl, sym, ap, subst, ◌∙◌, List, [], ◌∷◌, ◌≤◌, Bool, true, false, arith}
use Rattle.std.specs.Prelude.{map, nat_lt, if◌then◌else◌, Option, Some, None, Ok, Err}
use Rattle.std.specs.Str.{bytes_eq}
use Rattle.mq_calls.specs.declared.image.Shelf.{Shelf}
use Rattle.mq_objects.specs.Names.{locals_of}
use Rattle.mq_objects.specs.declared.object.LocalQueue.{LocalQueue}
use Rattle.mq_calls.specs.State.{Queue}
use Rattle.mq_calls.specs.Reads.{queue_in, stored}
use Rattle.mq_calls.specs.Images.{queue_on}
use Rattle.mq_spec_manager.specs.Triggers.{first_due}
use Rattle.mq_calls.specs.declared.choices.Choice.{Choice}
use Rattle.mq_calls.specs.declared.choices.Choice.TheVariants.{Runs, NoMemory, Stopped}
use Rattle.mq_frame.specs.declared.frame.Seen.{Seen}
use Rattle.mq_frame.specs.declared.frame.Seen.TheVariants as items
use Rattle.mq_history.specs.declared.acts.Act.TheVariants as acts
use Rattle.mq_history.specs.declared.calls.Call.TheVariants as calls
use Rattle.mq_history.specs.declared.calls.Actor.TheVariants as actors
use Rattle.mq_history.specs.declared.calls.Chance.TheVariants as chances
use Rattle.mq_base.specs.declared.want.NoMemory.{NoMemory as Want}
use Rattle.mq_spec_node.specs.Terms.{Actor, Call, Did, Entry, History, Plain, Reply}
use Rattle.mq_spec_node.specs.Words.{Node, Own, Deed, Done, done, done_or, deed_of, event, remembering, remembered, IsEvent, IsDeed, CanCome, done_by, Tells, TriggerIs, trigger_deed, trigger_deed_of, Surroundings, opening_node, after, forgotten_rows, node_of, IsReplayed}
use Rattle.mq_manager.specs.from_core.Values.{CoreValue}
use Rattle.mq_events.specs.declared.outcome.Outcome.{Outcome}
use Rattle.mq_events.specs.Outcomes.{Came, EndsAs, Ends, EndsSo, next_due}
use Rattle.mq_events.proofs.TurnLaws.{none_due}
use Rattle.mq_events.specs.States.{NodeState, node_in, value_of, IsKept, IsServed, last_actor, entry_of, forgotten_if, own_after, finished}
use Rattle.mq_events.specs.Events.{Stays, EventIs, ServesOne}
use Rattle.mq_events.proofs.ReplayLaws.{with_more, replayed_more}

-- what an event is, by its deed
event_is : (stamp : ℕ) (actor : Actor) (call : Call) (choice : Choice) (seen : Seen) (n : Node) (d : Deed) → deed_of stamp actor call seen n ≡ Some d
    → event stamp actor call (chances.Call choice) seen n ≡ remembering actor call (done d choice n)
event_is stamp actor (calls.Mqconn qmgr appl) choice seen n d h = ap (λ (x : Option Deed). remembering actor (calls.Mqconn qmgr appl) (done_or x choice n)) h
event_is stamp actor (calls.Mqdisc hc) choice seen n d h = ap (λ (x : Option Deed). remembering actor (calls.Mqdisc hc) (done_or x choice n)) h
event_is stamp actor (calls.Mqopen hc name qmgr how) choice seen n d h = ap (λ (x : Option Deed). remembering actor (calls.Mqopen hc name qmgr how) (done_or x choice n)) h
event_is stamp actor (calls.Mqclose hc ho) choice seen n d h = ap (λ (x : Option Deed). remembering actor (calls.Mqclose hc ho) (done_or x choice n)) h
event_is stamp actor (calls.Mqput hc ho md body sync) choice seen n d h = ap (λ (x : Option Deed). remembering actor (calls.Mqput hc ho md body sync) (done_or x choice n)) h
event_is stamp actor (calls.Mqput1 hc name qmgr md body sync) choice seen n d h = ap (λ (x : Option Deed). remembering actor (calls.Mqput1 hc name qmgr md body sync) (done_or x choice n)) h
event_is stamp actor (calls.Mqget hc ho get until) choice seen n d h = ap (λ (x : Option Deed). remembering actor (calls.Mqget hc ho get until) (done_or x choice n)) h
event_is stamp actor (calls.Mqcmit hc) choice seen n d h = ap (λ (x : Option Deed). remembering actor (calls.Mqcmit hc) (done_or x choice n)) h
event_is stamp actor (calls.Mqback hc) choice seen n d h = ap (λ (x : Option Deed). remembering actor (calls.Mqback hc) (done_or x choice n)) h
event_is stamp actor (calls.Act (acts.Obey c)) choice seen n d h = ap (λ (x : Option Deed). remembering actor (calls.Act (acts.Obey c)) (done_or x choice n)) h
event_is stamp actor (calls.Act acts.Crash) choice seen n d h = absurd cc
event_is stamp actor (calls.Act acts.Restart) choice seen n d h = absurd cc
event_is stamp actor (calls.Act (acts.Cut k)) choice seen n d h = absurd cc
event_is stamp actor (calls.Act (acts.Clock by)) choice seen n d h = absurd cc
event_is stamp actor calls.Turn choice seen n d h = ap (λ (x : Option Deed). remembering actor calls.Turn (done_or x choice n)) h
event_is stamp actor calls.Timeout choice seen n d h = ap (λ (x : Option Deed). remembering actor calls.Timeout (done_or x choice n)) h
event_is stamp actor calls.Trigger choice seen n d h = ap (λ (x : Option Deed). remembering actor calls.Trigger (done_or x choice n)) h

-- and that it is one
is_event : (stamp : ℕ) (actor : Actor) (call : Call) (choice : Choice) (seen : Seen) (n : Node) (d : Deed) → deed_of stamp actor call seen n ≡ Some d → CanCome d choice n
    → IsEvent stamp actor call (chances.Call choice) seen n
is_event stamp actor (calls.Mqconn qmgr appl) choice seen n d h k = let D : Option Deed → Type 0 = λ x. IsDeed x (chances.Call choice) n in subst D (sym h) k
is_event stamp actor (calls.Mqdisc hc) choice seen n d h k = let D : Option Deed → Type 0 = λ x. IsDeed x (chances.Call choice) n in subst D (sym h) k
is_event stamp actor (calls.Mqopen hc name qmgr how) choice seen n d h k = let D : Option Deed → Type 0 = λ x. IsDeed x (chances.Call choice) n in subst D (sym h) k
is_event stamp actor (calls.Mqclose hc ho) choice seen n d h k = let D : Option Deed → Type 0 = λ x. IsDeed x (chances.Call choice) n in subst D (sym h) k
is_event stamp actor (calls.Mqput hc ho md body sync) choice seen n d h k = let D : Option Deed → Type 0 = λ x. IsDeed x (chances.Call choice) n in subst D (sym h) k
is_event stamp actor (calls.Mqput1 hc name qmgr md body sync) choice seen n d h k = let D : Option Deed → Type 0 = λ x. IsDeed x (chances.Call choice) n in subst D (sym h) k
is_event stamp actor (calls.Mqget hc ho get until) choice seen n d h k = let D : Option Deed → Type 0 = λ x. IsDeed x (chances.Call choice) n in subst D (sym h) k
is_event stamp actor (calls.Mqcmit hc) choice seen n d h k = let D : Option Deed → Type 0 = λ x. IsDeed x (chances.Call choice) n in subst D (sym h) k
is_event stamp actor (calls.Mqback hc) choice seen n d h k = let D : Option Deed → Type 0 = λ x. IsDeed x (chances.Call choice) n in subst D (sym h) k
is_event stamp actor (calls.Act (acts.Obey c)) choice seen n d h k = let D : Option Deed → Type 0 = λ x. IsDeed x (chances.Call choice) n in subst D (sym h) k
is_event stamp actor (calls.Act acts.Crash) choice seen n d h k = absurd cc
is_event stamp actor (calls.Act acts.Restart) choice seen n d h k = absurd cc
is_event stamp actor (calls.Act (acts.Cut m)) choice seen n d h k = absurd cc
is_event stamp actor (calls.Act (acts.Clock by)) choice seen n d h k = absurd cc
is_event stamp actor calls.Turn choice seen n d h k = let D : Option Deed → Type 0 = λ x. IsDeed x (chances.Call choice) n in subst D (sym h) k
is_event stamp actor calls.Timeout choice seen n d h k = let D : Option Deed → Type 0 = λ x. IsDeed x (chances.Call choice) n in subst D (sym h) k
is_event stamp actor calls.Trigger choice seen n d h k = let D : Option Deed → Type 0 = λ x. IsDeed x (chances.Call choice) n in subst D (sym h) k

-- what a choice leaves of a deed that leaves a node's own
own_left : (d : Deed) (choice : Choice) (n : Node) (delta : List Did) → delta ≡ (done d choice n).delta → d.own ≡ n.own → (done d choice n).next.own ≡ forgotten_if choice delta n.own
own_left d Runs n delta e o = ap (forgotten_rows (done d Runs n).delta) o ∙ ap (λ (ds : List Did). forgotten_rows ds n.own) (sym e)
own_left d NoMemory n delta e o = refl
own_left d (Stopped by part left) n delta e o = refl

pushed_none : (d : Deed) (choice : Choice) (n : Node) → d.pushed ≡ None → None ≡ (done d choice n).pushed
pushed_none d Runs n e = sym e
pushed_none d NoMemory n e = refl
pushed_none d (Stopped by part left) n e = refl

received_none : (d : Deed) (choice : Choice) (n : Node) → d.received ≡ [] → [] ≡ (done d choice n).received
received_none d Runs n e = sym e
received_none d NoMemory n e = refl
received_none d (Stopped by part left) n e = sym e

-- the node behind it
node_left : (n : Node) (d : Deed) (actor : Actor) (call : Call) (o : Outcome) (p : Plain) → Came d n o p
    → (remembering actor call (done d o.choice n)).next ≡ node_of p (own_after actor call o n.own)
node_left n d actor call o p c =
    ap (λ (m : Plain). node_of m (remembered actor call (done d o.choice n).reply (done d o.choice n).next.own)) (sym c.manager)
    ∙ ap (λ (r : Reply). node_of p (remembered actor call r (done d o.choice n).next.own)) (sym c.reply)
    ∙ ap (λ (w : Own). node_of p (remembered actor call o.reply w)) (own_left d o.choice n o.delta c.delta c.own)

module _ (s : NodeState) (actor : Actor) (call : Call) (o : Outcome) (d : Deed) where
  abbrev it : Entry
  it = entry_of (s.stamp + 1) actor call o

  it_is : deed_of (s.stamp + 1) actor call items.Nothing (node_in s) ≡ Some d → done_by it (node_in s) ≡ remembering actor call (done d o.choice (node_in s))
  it_is h = event_is (s.stamp + 1) actor call o.choice items.Nothing (node_in s) d h

  it_tells : (p : Plain) → deed_of (s.stamp + 1) actor call items.Nothing (node_in s) ≡ Some d → Came d (node_in s) o p → Tells (node_in s) s.stamp it
  it_tells p h c = record {
    stamp = refl;
    event = is_event (s.stamp + 1) actor call o.choice items.Nothing (node_in s) d h c.can;
    reply = c.reply ∙ sym (ap (λ (x : Done). x.reply) (it_is h));
    delta = c.delta ∙ sym (ap (λ (x : Done). x.delta) (it_is h));
    pushed = pushed_none d o.choice (node_in s) c.pushed ∙ sym (ap (λ (x : Done). x.pushed) (it_is h));
    received = received_none d o.choice (node_in s) c.received ∙ sym (ap (λ (x : Done). x.received) (it_is h));
    popped = tt;
    extras = refl;
  }

  -- The history with the entry leads to the node behind the event.
  pub came_kept : (m : CoreValue) (room : ℕ) → IsKept s → TriggerIs (trigger_deed (node_in s)) (last_actor None s.history.entries) it
      → deed_of (s.stamp + 1) actor call items.Nothing (node_in s) ≡ Some d → Came d (node_in s) o m.plain → IsKept (finished actor call o (record s { manager = m; room = room }))
  came_kept m room k t h c =
      let next : (done_by it (node_in s)).next ≡ node_of m.plain (own_after actor call o s.own) = ap (λ (x : Done). x.next) (it_is h) ∙ node_left (node_in s) d actor call o m.plain c in
      let V : Node → Type 0 = λ n. IsReplayed (record (with_more it (value_of s)) { node = n }) in
      subst V next (replayed_more (value_of s) it k (it_tells m.plain h c) t)

pub served_is : (s : NodeState) (e : Entry) → IsServed s → TriggerIs (trigger_deed (node_in s)) (last_actor None s.history.entries) e
served_is s e h = let T : Option Deed → Type 0 = λ x. TriggerIs x (last_actor None s.history.entries) e in subst T (sym h) tt

-- a call that came to an outcome has a deed
came_of : (d : Option Deed) (n : Node) (o : Outcome) (p : Plain) → EndsAs d n (Ok (Some o)) p → (x : Deed) × (d ≡ Some x) × Came x n o p
came_of None n o p c = absurd c
came_of (Some x) n o p c = (x, refl, c)

-- The event of a call that came to this.
pub event_kept : (s : NodeState) (m : CoreValue) (room : ℕ) (actor : Actor) (call : Call) (o : Outcome) → IsKept s → IsServed s → Ends call s.manager (Ok (Some o)) m
    → IsKept (finished actor call o (record s { manager = m; room = room }))
event_kept s m room actor call o k served c =
    let it = came_of (deed_of (s.stamp + 1) actor call items.Nothing (node_in s)) (node_in s) o m.plain (c.ends (s.stamp + 1) actor s.own) in
    came_kept s actor call o it.0 m room k (served_is s _ served) it.1 it.2

pub event_adds : (s : NodeState) (m : CoreValue) (room : ℕ) (actor : Actor) (call : Call) (o : Outcome) → Ends call s.manager (Ok (Some o)) m
    → EventIs actor call (deed_of (s.stamp + 1) actor call items.Nothing (node_in s)) s (Ok true) (finished actor call o (record s { manager = m; room = room }))
event_adds s m room actor call o c = at (deed_of (s.stamp + 1) actor call items.Nothing (node_in s)) (c.ends (s.stamp + 1) actor s.own)
  where
    at : (d : Option Deed) → EndsAs d (node_in s) (Ok (Some o)) m.plain → EventIs actor call d s (Ok true) (finished actor call o (record s { manager = m; room = room }))
    at None h = absurd h
    at (Some d) h = (entry_of (s.stamp + 1) actor call o, record { grows = record { given = refl; history = refl }; actor = refl; call = refl; marks = refl; faults = c.later; rose = c.rose })

-- where it is no event, or there is no memory, all is as it was
stays : (s : NodeState) (m : CoreValue) (room : ℕ) → m.plain ≡ s.manager.plain → s.manager.faults ≤ m.faults → Stays s (record s { manager = m; room = room })
stays s m room e f = record { same = ap (λ (p : Plain). record (value_of s) { node = node_of p s.own }) e; marks = refl; faults = f }

pub none_stays : (s : NodeState) (m : CoreValue) (room : ℕ) (actor : Actor) (call : Call) → Ends call s.manager (Ok None) m
    → EventIs actor call (deed_of (s.stamp + 1) actor call items.Nothing (node_in s)) s (Ok false) (record s { manager = m; room = room })
none_stays s m room actor call c = at (deed_of (s.stamp + 1) actor call items.Nothing (node_in s)) (c.ends (s.stamp + 1) actor s.own)
  where
    at : (d : Option Deed) → EndsAs d (node_in s) (Ok None) m.plain → EventIs actor call d s (Ok false) (record s { manager = m; room = room })
    at None h = stays s m room h c.later
    at (Some d) h = absurd h

pub none_kept : (s : NodeState) (m : CoreValue) (room : ℕ) (call : Call) → IsKept s → Ends call s.manager (Ok None) m → IsKept (record s { manager = m; room = room })
none_kept s m room call k c =
    let V : Plain → Type 0 = λ p. IsReplayed (record (value_of s) { node = node_of p s.own }) in
    subst V (sym (at (deed_of 0 actors.Operator call items.Nothing (node_in s)) (c.ends 0 actors.Operator s.own))) k
  where
    at : (d : Option Deed) → EndsAs d (node_in s) (Ok None) m.plain → m.plain ≡ s.manager.plain
    at None h = h
    at (Some d) h = absurd h

pub want_kept : (s : NodeState) (m : CoreValue) (room : ℕ) (call : Call) (x : Want) → IsKept s → Ends call s.manager (Err x) m → IsKept (record s { manager = m; room = room })
want_kept s m room call x k c =
    let V : Plain → Type 0 = λ p. IsReplayed (record (value_of s) { node = node_of p s.own }) in
    subst V (sym (at (deed_of 0 actors.Operator call items.Nothing (node_in s)) (c.ends 0 actors.Operator s.own))) k
  where
    at : (d : Option Deed) → EndsAs d (node_in s) (Err x) m.plain → m.plain ≡ s.manager.plain
    at None h = h
    at (Some d) h = h

pub want_stays : (s : NodeState) (m : CoreValue) (room : ℕ) (actor : Actor) (call : Call) (x : Want) → Ends call s.manager (Err x) m
    → EventIs actor call (deed_of (s.stamp + 1) actor call items.Nothing (node_in s)) s (Err x) (record s { manager = m; room = room })
want_stays s m room actor call x c = at (deed_of (s.stamp + 1) actor call items.Nothing (node_in s)) (c.ends (s.stamp + 1) actor s.own)
  where
    at : (d : Option Deed) → EndsAs d (node_in s) (Err x) m.plain → EventIs actor call d s (Err x) (record s { manager = m; room = room })
    at None h = stays s m room h c.later
    at (Some d) h = stays s m room h c.later

-- Trigger turns.
some_is : {A : Type 0} (a b : A) → Some a ≡ Some b → a ≡ b
some_is a b e = cc

-- the turn that is due has the actor of the last entry
pub turn_kept : (s : NodeState) (m : CoreValue) (room : ℕ) (actor : Actor) (o : Outcome) → IsKept s → last_actor None s.history.entries ≡ Some actor → EndsSo calls.Trigger s.manager o m
    → IsKept (finished actor calls.Trigger o (record s { manager = m; room = room }))
turn_kept s m room actor o k who c =
    let it = came_of (deed_of (s.stamp + 1) actor calls.Trigger items.Nothing (node_in s)) (node_in s) o m.plain (c.ends (s.stamp + 1) actor s.own) in
    let T : Option Deed → Type 0 = λ x. TriggerIs x (last_actor None s.history.entries) (entry_of (s.stamp + 1) actor calls.Trigger o) in
    came_kept s actor calls.Trigger o it.0 m room k (subst T (sym it.1) (refl, sym who)) it.1 it.2

pub turn_adds : (s : NodeState) (m : CoreValue) (room : ℕ) (actor : Actor) (o : Outcome) → EndsSo calls.Trigger s.manager o m → ServesOne s (Ok true) (finished actor calls.Trigger o (record s { manager = m; room = room }))
turn_adds s m room actor o c = (actor, entry_of (s.stamp + 1) actor calls.Trigger o, record { grows = record { given = refl; history = refl }; actor = refl; call = refl; marks = refl; faults = c.later; rose = c.rose })

pub wanted_turn_stays : (s : NodeState) (m : CoreValue) (room : ℕ) (x : Want) → Ends calls.Trigger s.manager (Err x) m → Stays s (record s { manager = m; room = room })
wanted_turn_stays s m room x c = at (deed_of 0 actors.Operator calls.Trigger items.Nothing (node_in s)) (c.ends 0 actors.Operator s.own)
  where
    at : (d : Option Deed) → EndsAs d (node_in s) (Err x) m.plain → Stays s (record s { manager = m; room = room })
    at None h = stays s m room h c.later
    at (Some d) h = stays s m room h c.later

pub wanted_stays_so : (s : NodeState) (m : CoreValue) (room : ℕ) (call : Call) (x : Want) → Ends call s.manager (Err x) m → Stays s (record s { manager = m; room = room })
wanted_stays_so s m room call x c = at (deed_of 0 actors.Operator call items.Nothing (node_in s)) (c.ends 0 actors.Operator s.own)
  where
    at : (d : Option Deed) → EndsAs d (node_in s) (Err x) m.plain → Stays s (record s { manager = m; room = room })
    at None h = stays s m room h c.later
    at (Some d) h = stays s m room h c.later

-- where nothing has happened, none is due
nobody : (last : Option Actor) (es : List Entry) → last_actor last es ≡ None → es ≡ []
nobody last [] e = refl
nobody last (x ∷ es) e = absurd (somebody x.actor es e)
  where
    somebody : (a : Actor) (xs : List Entry) → last_actor (Some a) xs ≡ None → ⊥
    somebody a [] f = absurd cc
    somebody a (y ∷ xs) f = somebody y.actor xs f

-- none is due at an opening
due_none : (name : List ℕ) (shelves : List Shelf) → (queue_in name (map queue_on shelves)).due ≡ 0
due_none name [] = refl
due_none name (s ∷ ss) = due_if (bytes_eq name s.name) (queue_on s) (queue_in name (map queue_on ss)) refl (due_none name ss)
  where
    due_if : (b : Bool) (q r : Queue) → q.due ≡ 0 → r.due ≡ 0 → (if b then q else r).due ≡ 0
    due_if true q r hq hr = hq
    due_if false q r hq hr = hr

first_none : (qs : List LocalQueue) (p : Plain) → ((name : List ℕ) → (stored name p).due ≡ 0) → first_due qs p ≡ None
first_none [] p h = refl
first_none (q ∷ qs) p h =
    ap (λ (n : ℕ). if nat_lt 0 n then Some q else first_due qs p) (h q.name) ∙ first_none qs p h

opening_none : (s : Surroundings) (h : History) → trigger_deed (opening_node s h) ≡ None
opening_none s h =
    let n : Node = opening_node s h in
    ap (λ (o : Option LocalQueue). trigger_deed_of o n) (first_none (locals_of n.manager.definitions) n.manager (λ name. due_none name h.opening.shelves))

pub none_yet : (s : NodeState) → IsKept s → last_actor None s.history.entries ≡ None → IsServed s
none_yet s k e =
    let F : Node → Type 0 = λ n. trigger_deed n ≡ None in
    subst F (sym (k.node ∙ ap (after (opening_node s.given s.history)) (nobody None s.history.entries e))) (opening_none s.given s.history)

pub not_due : (s : NodeState) → next_due s.manager.plain ≡ None → IsServed s
not_due s e = none_due s.manager.plain s.own e

pub none_serves : (s : NodeState) → IsServed s → ServesOne s (Ok false) s
none_serves s h = (record { same = refl; marks = refl; faults = omega arith }, h)
