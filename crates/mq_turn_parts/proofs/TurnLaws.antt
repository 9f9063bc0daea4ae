-- The entry of a turn or of a timeout: the history with it replays, and leads to the node behind it.
use Rattle.std.proofs.Common.{◌≡◌, ℕ, refl, sym, ap, subst, ◌∙◌, List}
use Rattle.std.specs.Prelude.{Option}
use Rattle.mq_calls.specs.declared.choices.Choice.{Choice}
use Rattle.mq_calls.specs.declared.choices.Choice.TheVariants.{Runs, NoMemory, Stopped}
use Rattle.mq_history.specs.declared.calls.Actor.TheVariants as actors
use Rattle.mq_history.specs.declared.calls.Call.TheVariants as calls
use Rattle.mq_history.specs.declared.calls.Chance.TheVariants as chances
use Rattle.mq_history.specs.declared.calls.Reply.TheVariants as replies
use Rattle.mq_events.specs.Disks.{RoseBy, RoseWhere}
use Rattle.mq_events.proofs.CallLaws.{rose_by, silent}
use Rattle.mq_spec_node.specs.Terms.{Message, Did, Actor, Call, Entry, Plain, Possible}
use Rattle.mq_spec_node.specs.Words.{Node, Own, Deed, Done, done, done_or, done_by, remembering, IsDeed, CanCome, Tells, node_of}
use Rattle.mq_core.specs.Values.{CoreValue}
use Rattle.mq_events.specs.States.{NodeState, node_in, IsKept, IsServed, with_entry}
use Rattle.mq_events.specs.Events.{Adds}
use Rattle.mq_events.proofs.EntryLaws.{entry_kept}
use Rattle.mq_turn_parts.specs.declared.telling.Passed.{Passed}
use Rattle.mq_turn_parts.specs.Turns.{delta_by, plain_by, IsMade, own_by, pushed_by, reply_for, turn_entry}
use Rattle.mq_turn_parts.specs.Told.{ActsHere, Closed, IsBefore, IsTold}

pub sender_turns : (cable : ℕ) → ActsHere (actors.Sender cable) calls.Turn
sender_turns cable = record { quiet = λ reply own. refl; event_is = λ stamp choice seen n. refl; is_event = λ stamp choice seen n d. d }

pub receiver_turns : (cable : ℕ) → ActsHere (actors.Receiver cable) calls.Turn
receiver_turns cable = record { quiet = λ reply own. refl; event_is = λ stamp choice seen n. refl; is_event = λ stamp choice seen n d. d }

pub sender_times_out : (cable : ℕ) → ActsHere (actors.Sender cable) calls.Timeout
sender_times_out cable = record { quiet = λ reply own. refl; event_is = λ stamp choice seen n. refl; is_event = λ stamp choice seen n d. d }

-- what a deed of a turn comes to, field by field
reply_is : (d : Deed) (choice : Choice) (n : Node) → IsMade choice → d.reply ≡ replies.Changed → reply_for choice ≡ (done d choice n).reply
reply_is d Runs n m r = sym r
reply_is d NoMemory n m r = absurd m
reply_is d (Stopped by part left) n m r = refl

pub delta_is : (d : Deed) (choice : Choice) (n : Node) → delta_by choice d.parts ≡ (done d choice n).delta
delta_is d Runs n = refl
delta_is d NoMemory n = refl
delta_is d (Stopped by part left) n = refl

pushed_is : (d : Deed) (choice : Choice) (n : Node) → pushed_by choice d.pushed ≡ (done d choice n).pushed
pushed_is d Runs n = refl
pushed_is d NoMemory n = refl
pushed_is d (Stopped by part left) n = refl

received_is : (d : Deed) (choice : Choice) (n : Node) → IsMade choice → d.received ≡ (done d choice n).received
received_is d Runs n m = refl
received_is d NoMemory n m = absurd m
received_is d (Stopped by part left) n m = refl

pub next_is : (d : Deed) (choice : Choice) (n : Node) → IsMade choice → (done d choice n).next ≡ node_of (plain_by choice d.parts n.manager) (own_by choice (delta_by choice d.parts) d.own n.own)
next_is d Runs n m = refl
next_is d NoMemory n m = absurd m
next_is d (Stopped by part left) n m = refl

choice_rose : (choice : Choice) (before now : ℕ) → RoseWhere choice before now → RoseBy (reply_for choice) before now
choice_rose Runs before now rose = silent replies.Changed replies.Changed before now refl refl
choice_rose NoMemory before now rose = silent replies.Changed replies.Changed before now refl refl
choice_rose (Stopped by part left) before now rose = rose_by by before now rose

pub can_come : (d : Deed) (choice : Choice) (n : Node) → IsMade choice → Possible choice d.parts n.manager.log.armed → CanCome d choice n
can_come d Runs n m p = p
can_come d NoMemory n m p = absurd m
can_come d (Stopped by part left) n m p = p

module _ (s t : NodeState) (actor : Actor) (call : Call) (d : Deed) (choice : Choice) (delta : List Did) (w : Passed) (received : List Message) (m : CoreValue) where
  abbrev it : Entry
  it = turn_entry actor call choice delta w received

  -- the event
  it_is : ActsHere actor call → IsTold s actor call d choice delta w received m → done_by it (node_in s) ≡ remembering actor call (done d choice (node_in s))
  it_is a k = a.event_is w.stamp choice w.popped (node_in s) ∙ ap (λ (o : Option Deed). remembering actor call (done_or o choice (node_in s))) k.deed

  tells : ActsHere actor call → IsTold s actor call d choice delta w received m → Tells (node_in s) s.stamp it
  tells a k =
      let n : Node = node_in s in
      let D : Option Deed → Type 0 = λ o. IsDeed o (chances.Call choice) n in
      record {
        stamp = k.stamp;
        event = a.is_event w.stamp choice w.popped n (subst D (sym k.deed) (can_come d choice n k.made.made k.made.can));
        reply = reply_is d choice n k.made.made k.reply ∙ sym (ap (λ (x : Done). x.reply) (it_is a k));
        delta = k.made.told ∙ delta_is d choice n ∙ sym (ap (λ (x : Done). x.delta) (it_is a k));
        pushed = k.pushed ∙ pushed_is d choice n ∙ sym (ap (λ (x : Done). x.pushed) (it_is a k));
        received = k.received_is ∙ received_is d choice n k.made.made ∙ sym (ap (λ (x : Done). x.received) (it_is a k));
        popped = k.pop;
        extras = k.extras;
      }

  behind_is : ActsHere actor call → IsTold s actor call d choice delta w received m → (done_by it (node_in s)).next ≡ node_of m.plain (own_by choice delta d.own s.own)
  behind_is a k =
      let n : Node = node_in s in
      ap (λ (x : Done). x.next) (it_is a k)
      ∙ ap (λ (o : Own). node_of (done d choice n).next.manager o) (a.quiet (done d choice n).reply (done d choice n).next.own)
      ∙ next_is d choice n k.made.made
      ∙ ap (λ (p : Plain). node_of p (own_by choice (delta_by choice d.parts) d.own s.own)) (sym k.made.plain)
      ∙ ap (λ (x : List Did). node_of m.plain (own_by choice x d.own s.own)) (sym k.made.told)

  pub turn_kept : ActsHere actor call → IsTold s actor call d choice delta w received m → IsKept s → IsServed s → (room : ℕ) → t ≡ with_entry it (record s { manager = m; own = own_by choice delta d.own s.own; room = room }) → IsKept t
  turn_kept a k kept served room e =
      subst IsKept (sym e) (entry_kept s (with_entry it (record s { manager = m; own = own_by choice delta d.own s.own; room = room })) it kept served (tells a k) refl (sym (behind_is a k)))

  pub turn_adds : IsTold s actor call d choice delta w received m → (room : ℕ) → t ≡ with_entry it (record s { manager = m; own = own_by choice delta d.own s.own; room = room }) → Adds actor call it s t
  turn_adds k room e =
      let A : NodeState → Type 0 = λ x. Adds actor call it s x in
      subst A (sym e) (record { grows = record { given = refl; history = refl }; actor = refl; call = refl; marks = refl; faults = k.made.later; rose = choice_rose choice s.manager.faults m.faults k.made.rose })

-- A turn is closed: its entry is added, and its end and the handlers are as it leaves them.
pub closed_so : (s p q t : NodeState) (actor : Actor) (call : Call) (choice : Choice) (delta : List Did) (behind : Own) (w : Passed) (received : List Message) (d : Deed)
    → q ≡ record p { own = own_by choice delta behind p.own } → t ≡ with_entry (turn_entry actor call choice delta w received) q
    → IsBefore s p → ActsHere actor call → IsTold s actor call d choice delta w received p.manager → own_by choice delta behind p.own ≡ own_by choice delta d.own s.own → IsKept s → IsServed s → Closed s actor call (turn_entry actor call choice delta w received) p.manager (own_by choice delta d.own s.own) t
closed_so s p q t actor call choice delta behind w received d k z before a told same kept served =
    let E : NodeState → NodeState = λ x. with_entry (turn_entry actor call choice delta w received) x in
    let is : t ≡ E (record s { manager = p.manager; own = own_by choice delta d.own s.own; room = p.room }) =
    z ∙ ap E (k ∙ ap (λ (o : Own). record p { own = o }) same ∙ ap (λ (x : NodeState). record x { own = own_by choice delta d.own s.own }) before) in
    record {
      kept = turn_kept s t actor call d choice delta w received p.manager a told kept served p.room is;
      adds = turn_adds s t actor call d choice delta w received p.manager told p.room is;
      spare = ap (λ (x : NodeState). x.spare) is;
      manager_is = ap (λ (x : NodeState). x.manager) is;
      own_is = ap (λ (x : NodeState). x.own) is;
    }

-- where only the manager has changed
pub before_of : (s a : NodeState) → a ≡ record s { manager = a.manager } → IsBefore s a
before_of s a g = g ∙ sym (ap (λ (x : NodeState). record s { manager = a.manager; own = x.own; room = x.room }) g)
