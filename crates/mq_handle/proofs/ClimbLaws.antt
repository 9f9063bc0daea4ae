-- A handler's turn raises its manager's counters by three at most.
use Rattle.std.proofs.Common.{◌≡◌, ℕ, ◌+◌, ◌≤◌, sym, ap, subst, List, [], ◌∷◌, ◌++◌, Bool, true, false, not, arith}
use Rattle.std.specs.Prelude.{Option, Some, None, Result, Ok, Err, filter, slice_get}
use Rattle.mq_base.specs.declared.want.NoMemory.{NoMemory as Want}
use Rattle.mq_calls.specs.declared.deltas.Why.TheVariants as whys
use Rattle.mq_codes.specs.declared.reason.Reason.TheVariants as reasons
use Rattle.mq_frame.specs.declared.frame.Seen.{Seen}
use Rattle.mq_history.specs.declared.calls.Actor.TheVariants as actors
use Rattle.mq_history.specs.declared.calls.Call.TheVariants as calls
use Rattle.mq_history.specs.declared.calls.Chance.{Chance}
use Rattle.mq_history.specs.declared.calls.Chance.TheVariants as chances
use Rattle.mq_queue.specs.declared.row.Row.{Row}
use Rattle.mq_queue.specs.Rows.{has_ident}
use Rattle.mq_resolve.specs.declared.route.Route.{Route}
use Rattle.mq_resolve.specs.Resolved.{resolve}
use Rattle.mq_rules.specs.declared.rule.Action.{Action}
use Rattle.mq_rules.specs.declared.rule.Action.TheVariants as actions
use Rattle.mq_objects.specs.Names.{local_of}
use Rattle.mq_calls.specs.Steps.{when, logged}
use Rattle.mq_calls.specs.Words.{stored}
use Rattle.mq_spec_manager.specs.Words.{removal_part, removal_parts}
use Rattle.mq_spec_manager.specs.Landing.{landing, route_tests}
use Rattle.mq_spec_manager.specs.Moves.{bare_if, move_part, move_full, move_resolved, move_found, move_row}
use Rattle.mq_spec_manager.specs.Agents.{row_with}
use Rattle.mq_spec_node.specs.Terms.{Actor, Call, Choice, Runs, NoMemory, Stopped, Dest, Entry, Ident, Message, Part, Plain, Reason, Rule, Running, Up, Down, Step, Refuse, Do}
use Rattle.mq_spec_node.specs.Words.{Deed, Handler, Node, Own, acted, done, event, choice_event, forward_to, handler_in, handler_on, handler_row, handler_turn, in_force, input_queue, is_readable, moved, next_letter, retry_to, rule_in_force, ruled, failed_of, tries_of, where_up, done_by}
use Rattle.mq_events.specs.from_law_image.Bounds.{all_growth}
use Rattle.mq_events.specs.from_law_counts.Counts.{Climbs, PartsClimb, StepClimbs}
use Rattle.mq_events.proofs.from_law_counts.Climbing.{grown, none_climb, one_climbs, stay}
use Rattle.mq_law_manager.proofs.ShortSteps.{tested_all}
use Rattle.mq_events.specs.States.{IsKept, NodeState, Spare, node_in}
use Rattle.mq_events.specs.Counts.{AreCounted, IsNode, KeepsCounts, kept_total}
use Rattle.mq_events.specs.Events.{Adds}
use Rattle.mq_events.proofs.CountLaws.{adds_long, aside_kept, climbs_counted, counted_still, next_is}
use Rattle.mq_events.proofs.RiseLaws.{risen_more, risen_still}
use Rattle.mq_handle.specs.Turns.{Turns}

small : (part : Part) (p : Plain) → all_growth part.changes ≤ 3 → PartsClimb 3 (part ∷ []) p
small part p le = one_climbs 3 part p (grown 3 part.changes (logged part.forced p) le)

zero_three : 0 ≤ 3
zero_three = omega arith

two_three : 2 ≤ 3
two_three = omega arith

gone_climb : (q : List ℕ) (rows : List Row) (p : Plain) → PartsClimb 3 (removal_parts whys.Discarded q rows) p
gone_climb q [] p = none_climb 3 p
gone_climb q (row ∷ rows) p = small (removal_part whys.Discarded q (row ∷ rows)) p zero_three

resolved_climbs : (from : List ℕ) (to : Dest) (bare : Bool) (r : Result Route Reason) (m : Message) (p : Plain) → StepClimbs 3 (move_resolved from to bare r m p) p
resolved_climbs from to bare (Err reason) m p = tt
resolved_climbs from to bare (Ok route) m p =
    tested_all (λ (s : Step Reason (Unit {0})). StepClimbs 3 s p) (λ r. tt) (route_tests route _ p ++ when (move_full from (landing route m) p) reasons.ResourceProblem ∷ []) (Do tt (move_part from to bare (landing route m) ∷ []))
    (small (move_part from to bare (landing route m)) p two_three)

found_climbs : (from : List ℕ) (to : Dest) (bare : Bool) (o : Option Message) (p : Plain) → StepClimbs 3 (move_found from to bare o p) p
found_climbs from to bare None p = none_climb 3 p
found_climbs from to bare (Some m) p = resolved_climbs from to bare (resolve p.definitions p.given.name to.queue to.qmgr) (bare_if bare m) p

move_climbs : (from : List ℕ) (i : Ident) (to : Dest) (bare : Bool) (p : Plain) → StepClimbs 3 (move_row from i to bare p) p
move_climbs from i to bare p = found_climbs from to bare (row_with (Some i) (stored from p).rows) p

module _ (q : List ℕ) (m : Message) (n : ℕ) (h : Handler) (p : Plain) (own : Own) where
  moved_climb : (k : ℕ) (rule : Rule) (step : Step Reason (Unit {0})) → StepClimbs 3 step p → PartsClimb 3 (moved q m k rule n h p own step).parts p
  moved_climb k rule (Refuse reason) c = none_climb 3 p
  moved_climb k rule (Do reply parts) c = c

  acted_climb : (k : ℕ) (rule : Rule) (action : Action) → PartsClimb 3 (acted q m k rule action n h p own).parts p
  acted_climb k rule actions.Discard = gone_climb q (filter (has_ident m.ident) (stored q p).rows) p
  acted_climb k rule actions.Ignore = none_climb 3 p
  acted_climb k rule actions.Retry = moved_climb k rule (move_row q m.ident (retry_to m) true p) (move_climbs q m.ident (retry_to m) true p)
  acted_climb k rule (actions.Forward f) = moved_climb k rule (move_row q m.ident (forward_to m f) (not f.header) p) (move_climbs q m.ident (forward_to m f) (not f.header) p)

  ruled_climb : (k : ℕ) (rule : Option Rule) → PartsClimb 3 (ruled q m k rule n h p own).parts p
  ruled_climb k None = none_climb 3 p
  ruled_climb k (Some rule) = acted_climb k rule rule.action

  force_climb : (k : Option ℕ) → PartsClimb 3 (in_force q m k n h p own).parts p
  force_climb None = none_climb 3 p
  force_climb (Some k) = ruled_climb k (slice_get h.table.rules k)

abbrev DeedClimbs : Option Deed → Node → Type 0
DeedClimbs None n = Unit {0}
DeedClimbs (Some d) n = PartsClimb 3 d.parts n.manager

row_climb : (q : List ℕ) (h : Handler) (row : Option Row) (n : Node) → DeedClimbs (handler_row q h row n) n
row_climb q h None n = tt
row_climb q h (Some row) n =
    force_climb q row.message (failed_of (tries_of q row.message.ident h)) h n.manager n.own (rule_in_force h.table row.message (tries_of q row.message.ident h))

on_climb : (b : Bool) (q : List ℕ) (h : Handler) (n : Node) → DeedClimbs (handler_on b q h n) n
on_climb false q h n = tt
on_climb true q h n = row_climb q h (next_letter q h n.manager) n

turn_climb : (o : Option Handler) (n : Node) → DeedClimbs (handler_turn o n) n
turn_climb None n = tt
turn_climb (Some h) n = on_climb (is_readable (local_of (input_queue h.table n.manager) n.manager.definitions)) (input_queue h.table n.manager) h n

up_climb : (r : Running) (d : Option Deed) (n : Node) → DeedClimbs d n → DeedClimbs (where_up r d) n
up_climb Up d n c = c
up_climb (Down noted starts) d n c = tt

done_climbs : (d : Deed) (choice : Choice) (n : Node) → PartsClimb 3 d.parts n.manager → Climbs 3 n.manager (done d choice n).next.manager
done_climbs d Runs n c = c.all
done_climbs d NoMemory n c = stay 3 n.manager
done_climbs d (Stopped by part left) n c = c.stopped part left

chosen_climbs : (chance : Chance) (d : Option Deed) (n : Node) → DeedClimbs d n → Climbs 3 n.manager (choice_event chance d n).next.manager
chosen_climbs (chances.Call choice) None n c = stay 3 n.manager
chosen_climbs (chances.Call choice) (Some d) n c = done_climbs d choice n c
chosen_climbs (chances.Restart choice) d n c = stay 3 n.manager
chosen_climbs (chances.Foreign image length left) d n c = stay 3 n.manager

pub handler_climbs : (stamp number : ℕ) (chance : Chance) (seen : Seen) (n : Node) → Climbs 3 n.manager (event stamp (actors.Handler number) calls.Turn chance seen n).next.manager
handler_climbs stamp number chance seen n =
    chosen_climbs chance (where_up n.manager.running (handler_turn (handler_in number n.own.handlers) n)) n (up_climb n.manager.running (handler_turn (handler_in number n.own.handlers) n) n (turn_climb (handler_in number n.own.handlers) n))

-- Its entry
entry_climbs : (number : ℕ) (e : Entry) (n : Node) → e.actor ≡ actors.Handler number → e.call ≡ calls.Turn → Climbs 3 n.manager (done_by e n).next.manager
entry_climbs number e n a c =
    subst (λ (who : Actor). Climbs 3 n.manager (event e.stamp who e.call e.chance e.effect.popped n).next.manager) (sym a)
    (subst (λ (what : Call). Climbs 3 n.manager (event e.stamp (actors.Handler number) what e.chance e.effect.popped n).next.manager) (sym c) (handler_climbs e.stamp number e.chance e.effect.popped n))

turn_counted : (number : ℕ) (e : Entry) (s t : NodeState) → IsKept s → IsKept t → AreCounted s → KeepsCounts s t → Adds (actors.Handler number) calls.Turn e s t → AreCounted t
turn_counted number e s t k l b c a =
    let climbs : Climbs 3 s.manager.plain (done_by e (node_in s)).next.manager = entry_climbs number e (node_in s) a.actor a.call in
    let C : Node → Type 0 = λ n. Climbs 3 s.manager.plain n.manager in
    climbs_counted 3 s t b (ap (λ (x : Spare). x.few) c.spare) (adds_long (actors.Handler number) calls.Turn e s t a) (subst C (sym (next_is (actors.Handler number) calls.Turn e s t k l a)) climbs) (three_more (kept_total t.own) (kept_total s.own) c.total)
  where
    three_more : (a b : ℕ) → a ≤ b → a + 3 ≤ b + 1024
    three_more a b le = omega (arith, le)

pub turned_node : (number : ℕ) (s : NodeState) (r : Result Bool Want) (t : NodeState) → IsNode s → IsKept t → KeepsCounts s t → Turns number s r t → IsNode t
turned_node number s (Ok true) t n l c h = record { kept = l; counted = turn_counted number h.entry s t n.kept l n.counted c h.adds; risen = risen_more (actors.Handler number) calls.Turn h.entry s t n.risen h.adds; aside = aside_kept s t n.aside c }
turned_node number s (Ok false) t n l c h = subst IsNode (sym h.same) n
turned_node number s (Err e) t n l c h = record { kept = l; counted = counted_still s t n.counted c h; risen = risen_still s t n.risen h; aside = aside_kept s t n.aside c }
