-- Trigger turns as events.
use Rattle.std.proofs.Common.{◌≡◌, ℕ, refl, sym, ap, subst, ◌∙◌, List, [], Bool, true, false, arith}
use Rattle.std.specs.Prelude.{Option, Some, None, Result, Ok, Err}
use Rattle.mq_base.specs.declared.want.NoMemory.{NoMemory as Want}
use Rattle.mq_calls.specs.declared.commands.Halt.{Halt}
use Rattle.mq_calls.specs.declared.commands.Halt.TheVariants as halts
use Rattle.mq_calls.specs.declared.choices.Choice.{Choice}
use Rattle.mq_calls.specs.declared.choices.Choice.TheVariants.{Runs}
use Rattle.mq_objects.specs.declared.object.LocalQueue.{LocalQueue}
use Rattle.mq_objects.specs.Names.{locals_of}
use Rattle.mq_history.specs.declared.calls.Call.TheVariants as calls
use Rattle.mq_history.specs.declared.calls.Reply.{Reply}
use Rattle.mq_history.specs.declared.calls.Reply.TheVariants as replies
use Rattle.mq_calls.specs.Meeting.{ManagerValue, Wants, MeetsAs, done_all}
use Rattle.mq_calls.specs.Meeting.Wants.{Behind}
use Rattle.mq_spec_node.specs.Terms.{Did, Plain, Running, Up, Down, Step, Refuse, Do, Possible, is_up}
use Rattle.mq_spec_node.specs.Words.{Node, Own, Deed, node_of, parts_of, told, trigger_deed, trigger_deed_of, where_up}
use Rattle.mq_manager.specs.from_steer.Due.{name_if, due_where}
use Rattle.mq_spec_manager.specs.Triggers.{Never, first_due, trigger_turn}
use Rattle.mq_manager.specs.from_core.Values.{CoreValue, manager_of}
use Rattle.mq_events.specs.declared.outcome.Outcome.{Outcome}
use Rattle.mq_events.specs.Outcomes.{Came, EndsAs, Ends, EndsSo, next_due, is_wanting}
use Rattle.mq_events.proofs.CallLaws.{later, silent, wants_nothing, wanted_is, outcome_by}

-- a call that ran
pub record Ran {F T : Type 0} (step : Step F T) (old new : ManagerValue) : Type 0 where
  pub can : Possible Runs (parts_of step) old.plain.log.armed
  pub next : new ≡ done_all (parts_of step) new.faults old

pub ran : {F T : Type 0} (wants : Wants) (old new : ManagerValue) (step : Step F T) (value : T) → MeetsAs wants old step (Ok value) new → Ran step old new
ran wants old new (Refuse reason) value m = absurd m
ran wants old new (Do reply parts) value m = record { can = m.1; next = m.3 }

-- the queue that is due
abbrev due_in : Bool → Option LocalQueue → Option (List ℕ)
due_in true q = name_if q
due_in false q = None

due_is : (up : Bool) (p : Plain) → due_in up (first_due (locals_of p.definitions) p) ≡ due_where up p
due_is true p = refl
due_is false p = refl

-- the deed of a turn is there where a queue is due, with its name
turn_at : (n : Node) (o : Outcome) (p : Plain) (queue : List ℕ) (r : Running) (q : Option LocalQueue) → due_in (is_up r) (q) ≡ Some queue
    → ((x : LocalQueue) → x.name ≡ queue → Came (record (told (replies.Triggered x.name) n.own) { parts = parts_of (trigger_turn n.manager) }) n o p)
    → EndsAs (where_up r (trigger_deed_of q n)) n (Ok (Some o)) p
turn_at n o p queue Up None e k = absurd cc
turn_at n o p queue Up (Some q) e k = k q (some_is q.name queue e)
  where
    some_is : (a b : List ℕ) → Some a ≡ Some b → a ≡ b
    some_is a b e = cc
turn_at n o p queue (Down noted starts) q e k = absurd cc

pub turn_ends : (old mid new : CoreValue) (value : Bool) (queue : List ℕ) (o : Outcome) → next_due old.plain ≡ Some queue → MeetsAs Behind (manager_of old) (trigger_turn old.plain) (Ok value) (manager_of mid)
    → o.choice ≡ Runs → o.reply ≡ replies.Triggered queue → o.delta ≡ mid.delta → new ≡ record mid { delta = [] } → EndsSo calls.Trigger old o new
turn_ends old mid new value queue o due m c r d e =
    let run : Ran (trigger_turn old.plain) (manager_of old) (manager_of mid) = ran Behind (manager_of old) (manager_of mid) (trigger_turn old.plain) value m in
    record {
      ends = λ stamp actor own. turn_at (node_of old.plain own) o new.plain queue old.plain.running (first_due (locals_of old.plain.definitions) old.plain) (due_is (is_up old.plain.running) old.plain ∙ due) (λ q name. came own q name run);
      later = omega (arith, later Behind (manager_of old) (manager_of mid) (trigger_turn old.plain) (Ok value) m, ap (λ (v : CoreValue). v.faults) e);
      rose = silent o.reply (replies.Triggered queue) old.faults new.faults r refl;
    }
  where
    came : (own : Own) (q : LocalQueue) → q.name ≡ queue → Ran (trigger_turn old.plain) (manager_of old) (manager_of mid)
        → Came (record (told (replies.Triggered q.name) own) { parts = parts_of (trigger_turn old.plain) }) (node_of old.plain own) o new.plain
    came own q name run =
        let deed : Deed = record (told (replies.Triggered q.name) own) { parts = parts_of (trigger_turn old.plain) } in
        let as_run : Came deed (node_of old.plain own) (record { choice = Runs; reply = replies.Triggered queue; delta = mid.delta }) mid.plain = record {
          can = run.can;
          reply = ap (λ (x : List ℕ). replies.Triggered x) (sym name);
          delta = ap (λ (v : ManagerValue). v.delta) run.next;
          manager = ap (λ (v : ManagerValue). v.plain) run.next;
          own = refl;
          pushed = refl;
          received = refl;
        } in
        let O : Outcome → Type 0 = λ x. Came deed (node_of old.plain own) x new.plain in
        let P : Plain → Type 0 = λ x. Came deed (node_of old.plain own) (record { choice = Runs; reply = replies.Triggered queue; delta = mid.delta }) x in
        let is : o ≡ record { choice = Runs; reply = replies.Triggered queue; delta = mid.delta } =
        ap (λ (x : Choice). outcome_by x o.reply o.delta) c ∙ ap (λ (x : Reply). outcome_by Runs x o.delta) r ∙ ap (λ (x : List Did). outcome_by Runs (replies.Triggered queue) x) d in
        subst O (sym is) (subst P (sym (ap (λ (v : CoreValue). v.plain) e)) as_run)

-- want of memory
pub turn_wants : (old new : CoreValue) (x : Want) (ended : Result Bool (Halt Never)) → ended ≡ Err halts.NoMemory → MeetsAs Behind (manager_of old) (trigger_turn old.plain) ended (manager_of new)
    → Ends calls.Trigger old (Err x) new
turn_wants old new x ended e m = record {
  ends = λ stamp actor own. wanted_is (trigger_deed (node_of old.plain own)) (node_of old.plain own) x new.plain (wants_nothing Behind (manager_of old) (manager_of new) (trigger_turn old.plain) ended (ap is_wanting e) m);
  later = later Behind (manager_of old) (manager_of new) (trigger_turn old.plain) ended m;
  rose = tt;
}

-- none is due
none_at : (n : Node) (r : Running) (q : Option LocalQueue) → due_in (is_up r) q ≡ None → where_up r (trigger_deed_of q n) ≡ None
none_at n Up None e = refl
none_at n Up (Some q) e = absurd cc
none_at n (Down noted starts) q e = refl

pub none_due : (p : Plain) (own : Own) → next_due p ≡ None → trigger_deed (node_of p own) ≡ None
none_due p own e = none_at (node_of p own) p.running (first_due (locals_of p.definitions) p) (due_is (is_up p.running) p ∙ e)
