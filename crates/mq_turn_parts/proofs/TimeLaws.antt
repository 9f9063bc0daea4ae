-- A sender's timeout: its deed, and the node behind it.
use Rattle.std.proofs.Common.{◌≡◌, ℕ, ◌+◌, refl, sym, ap, subst, ◌∙◌, List, [], ◌++◌, Bool, true, false}
use Rattle.std.specs.Prelude.{Option, Some, None, if◌then◌else◌}
use Rattle.mq_calls.specs.declared.choices.Choice.{Choice}
use Rattle.mq_calls.specs.declared.choices.Choice.TheVariants.{Runs, NoMemory, Stopped}
use Rattle.mq_frame.specs.declared.frame.Seen.TheVariants as items
use Rattle.mq_history.specs.declared.calls.Actor.TheVariants as actors
use Rattle.mq_history.specs.declared.calls.Call.TheVariants as calls
use Rattle.mq_sender.specs.States.{awaits, is_running, timed_out}
use Rattle.mq_spec_manager.specs.Agents.{IsUp}
use Rattle.mq_spec_node.specs.Terms.{Did, Message, Plain, Part}
use Rattle.mq_spec_node.specs.Words.{Own, SenderEnd, Deed, sender_end, after_timeout, with_end}
use Rattle.mq_spec_node.specs.Node.ChannelEnd.{Sends}
use Rattle.mq_core.specs.Values.{CoreValue}
use Rattle.mq_events.specs.Counts.{waiting_total}
use Rattle.mq_events.specs.States.{NodeState, node_in, IsKept, IsServed}
use Rattle.mq_turn_parts.specs.declared.telling.Passed.{Passed}
use Rattle.mq_turn_parts.specs.declared.telling.Turn.TheVariants as turns
use Rattle.mq_turn_parts.specs.Turns.{IsBehind, IsDue, Made, TimeoutIs, TimesOut, leave_unless, left_parts, own_by, pushed_by, turn_entry}
use Rattle.mq_turn_parts.proofs.PartLaws.{AreSilent, behind_if, made_behind, none_made}
use Rattle.mq_turn_parts.specs.Told.{Closes, IsBefore, IsTold}
use Rattle.mq_turn_parts.proofs.TurnLaws.{before_of, sender_times_out}
use Rattle.mq_turn_parts.proofs.DueLaws.{timeout_is}
use Rattle.mq_turn_parts.proofs.WaitLaws.{own_runs, served_left, timed_still, waits_one}

-- what stops leaves
pub leaves_are : (running : Bool) (channel : List ℕ) (p : Plain) → (if running then [] else leave_unless false channel p) ≡ leave_unless running channel p
leaves_are true channel p = refl
leaves_are false channel p = refl

pub leaves_silent : (running : Bool) (channel : List ℕ) (p : Plain) → AreSilent (leave_unless running channel p)
leaves_silent true channel p = tt
leaves_silent false channel p = (refl, refl, tt)

-- where all was done before, its parts do not depend on the manager
pub left_are : (channel : List ℕ) (choice : Choice) (running : Bool) (p q : Plain) → left_parts channel choice running p ≡ behind_if choice (leave_unless running channel q)
left_are channel Runs true p q = refl
left_are channel Runs false p q = refl
left_are channel NoMemory running p q = refl
left_are channel (Stopped by n left) running p q = refl

-- parts of a sender's turn, which leaves its queue behind them where it stops
pub made_left : (ps : List Part) (channel : List ℕ) (running : Bool) (choice : Choice) (delta : List Did) (old mid new : CoreValue) → Made ps choice delta old mid → IsBehind (left_parts channel choice running mid.plain) mid new
    → Made (ps ++ leave_unless running channel old.plain) choice delta old new
made_left ps channel running choice delta old mid new m b =
    let B : List Part → Type 0 = λ qs. IsBehind qs mid new in
    made_behind ps (leave_unless running channel old.plain) choice delta old mid new (leaves_silent running channel old.plain) m (subst B (left_are channel choice running mid.plain old.plain) b)

-- The whole event: an entry more, one sender that waits less, and no trigger is due.
pub record Timed (e : SenderEnd) (s t : NodeState) : Type 0 where
  pub kept : IsKept t
  pub did : TimesOut e.cable s turns.Changed t
  pub spare : t.spare ≡ s.spare
  pub waits : waiting_total t.own + 1 ≡ waiting_total s.own
  pub served : IsServed t

abbrev pub nothing_passed : ℕ → Passed
nothing_passed stamp = record { stamp = stamp; pushed = None; extras = 0; popped = items.Nothing }

module _ (s a t : NodeState) (e : SenderEnd) (choice : Choice) (delta : List Did) where
  abbrev d : Deed
  d = after_timeout e (timed_out e.machine) (node_in s)

  abbrev after : SenderEnd
  after = record e { machine = timed_out e.machine }

  abbrev left : Type 0
  left = IsBehind (left_parts e.channel choice (is_running (timed_out e.machine).state) s.manager.plain) s.manager a.manager

  none_pushed : (c : Choice) → None ≡ pushed_by c None
  none_pushed Runs = refl
  none_pushed NoMemory = refl
  none_pushed (Stopped by n k) = refl

  told_is : IsUp s.manager.plain → sender_end e.cable s.own ≡ Some e → awaits e.machine.state ≡ true → choice ≡ Runs → delta ≡ [] → left
      → IsTold s (actors.Sender e.cable) calls.Timeout d choice delta (nothing_passed (s.stamp + 1)) [] a.manager
  told_is up there waits c f b = record {
    deed = timeout_is (s.stamp + 1) e.cable (node_in s) e up there waits;
    reply = refl;
    made =
        let P : List Part → Type 0 = λ ps. Made ps choice delta s.manager a.manager in
        subst P (sym (leaves_are (is_running (timed_out e.machine).state) e.channel s.manager.plain))
        (made_left [] e.channel (is_running (timed_out e.machine).state) choice delta s.manager s.manager a.manager (none_made choice delta s.manager c f) b);
    pushed = none_pushed choice;
    received_is = refl;
    stamp = refl;
    pop = tt;
    extras = refl;
  }

  pub timed : IsUp s.manager.plain → sender_end e.cable s.own ≡ Some e → awaits e.machine.state ≡ true → choice ≡ Runs → delta ≡ [] → left → IsKept s → IsServed s → a ≡ record s { manager = a.manager }
      → Closes (actors.Sender e.cable) calls.Timeout choice delta (with_end (Sends after) a.own) (nothing_passed (s.stamp + 1)) [] a t
      → Timed e s t
  timed up there waits c f b kept served g z =
      let same : a.own ≡ s.own = ap (λ (x : NodeState). x.own) g in
      let before : IsBefore s a = before_of s a g in
      let k = z s d before (sender_times_out e.cable) (told_is up there waits c f b) (ap (λ (o : Own). own_by choice delta (with_end (Sends after) o) o) same) kept served in
      let T : Option Deed → Type 0 = λ o. TimeoutIs e.cable o s turns.Changed t in
      record {
        kept = k.kept;
        did = subst T (sym (timeout_is (s.stamp + 1) e.cable (node_in s) e up there waits)) (turn_entry (actors.Sender e.cable) calls.Timeout choice delta (nothing_passed (s.stamp + 1)) [], k.adds);
        spare = k.spare;
        waits = ap (λ (o : Own). waiting_total o + 1) (k.own_is ∙ own_runs choice delta d.own s.own c) ∙ waits_one s.own e after there waits (timed_still e.machine waits);
        served =
            let m : t.manager ≡ a.manager = k.manager_is in
            served_left s t e.channel choice (is_running (timed_out e.machine).state) served (ap (λ (v : CoreValue). v.plain) m ∙ b.plain);
      }

-- with what the code has for the end after it, for whether it runs, for the stamp
pub timed_so : (s a t : NodeState) (e last : SenderEnd) (running : Bool) (stamp : ℕ) (received : List Message) (choice : Choice) (delta : List Did) → last ≡ record e { machine = timed_out e.machine } → running ≡ is_running last.machine.state → stamp ≡ s.stamp + 1 → received ≡ []
    → IsDue e.cable e s → choice ≡ Runs → delta ≡ [] → IsBehind (left_parts e.channel choice running s.manager.plain) s.manager a.manager → IsKept s → IsServed s → a ≡ record s { manager = a.manager }
    → Closes (actors.Sender e.cable) calls.Timeout choice delta (with_end (Sends last) a.own) (nothing_passed stamp) received a t
    → Timed e s t
timed_so s a t e last running stamp received choice delta is runs st rs due c f b kept served g z =
    let B : Bool → Type 0 = λ r. IsBehind (left_parts e.channel choice r s.manager.plain) s.manager a.manager in
    let A : SenderEnd → Type 0 = λ x. Closes (actors.Sender e.cable) calls.Timeout choice delta (with_end (Sends x) a.own) (nothing_passed stamp) received a t in
    let S : ℕ → Type 0 = λ n. Closes (actors.Sender e.cable) calls.Timeout choice delta (with_end (Sends (record e { machine = timed_out e.machine })) a.own) (nothing_passed n) received a t in
    let R : List Message → Type 0 = λ ms. Closes (actors.Sender e.cable) calls.Timeout choice delta (with_end (Sends (record e { machine = timed_out e.machine })) a.own) (nothing_passed (s.stamp + 1)) ms a t in
    timed s a t e choice delta due.up due.there due.waits c f (subst B (runs ∙ ap (λ (x : SenderEnd). is_running x.machine.state) is) b) kept served g (subst R rs (subst S st (subst A is z)))
