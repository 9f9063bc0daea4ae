-- A command that is answered without anything done, as an event.
use Rattle.std.proofs.Common.{◌≡◌, ℕ, ◌+◌, ◌≤◌, Bool, true, false, List, [], ◌∷◌, refl, ap, sym, subst, ◌∙◌, arith}
use Rattle.std.specs.Prelude.{Some, Ok, if◌then◌else◌}
use Rattle.mq_calls.specs.declared.commands.ScRefusal.TheVariants as refusals
use Rattle.mq_history.specs.declared.acts.Act.TheVariants as acts
use Rattle.mq_history.specs.declared.acts.Acted.{Acted}
use Rattle.mq_history.specs.declared.acts.Acted.TheVariants as acted
use Rattle.mq_history.specs.declared.calls.Call.TheVariants as calls
use Rattle.mq_history.specs.declared.calls.Reply.TheVariants as replies
use Rattle.mq_sc_parse.specs.declared.command.Command.TheVariants as commands
use Rattle.mq_spec_node.specs.Terms.{Actor, Call, Command, is_up}
use Rattle.mq_spec_node.specs.Words.{Deed, Own, obey_deed, shown}
use Rattle.mq_spec_node.specs.Deeds.{told}
use Rattle.mq_events.proofs.from_law_counts.Climbing.{stay}
use Rattle.mq_acts.specs.Shows.{lines_of, shown_as, answered}
use Rattle.mq_events.specs.Outcomes.{Came}
use Rattle.mq_events.specs.States.{NodeState, IsKept, IsServed, finished, node_in, quietly, entry_of}
use Rattle.mq_events.specs.Counts.{IsNode, KeepsCounts, kept_total}
use Rattle.mq_events.specs.Disks.{RoseBy, disk_failed}
use Rattle.mq_events.specs.Events.{ActsAs, Stays}
use Rattle.mq_events.proofs.CallLaws.{silent}
use Rattle.mq_events.proofs.CountLaws.{aside_kept, climbs_counted, long_more}
use Rattle.mq_events.proofs.EventLaws.{came_kept, served_is}
use Rattle.mq_events.proofs.KeepLaws.{finished_counts}
use Rattle.mq_events.proofs.RiseLaws.{risen_with}
use Rattle.mq_events.proofs.StepLaws.{roomed_stays}

-- ---- where memory lacks, all is as it was

pub roomed_node : (s r : NodeState) → r ≡ record s { room = r.room } → IsNode s → IsNode r
roomed_node s r e n = let t : NodeState = record s { room = r.room } in let k : IsNode t = record { kept = n.kept; counted = n.counted; risen = n.risen; aside = n.aside } in subst IsNode (sym e) k

pub room_stays : (s r : NodeState) → r ≡ record s { room = r.room } → Stays s r
room_stays s r e = roomed_stays s r e

le_self : (n : ℕ) → n ≤ n
le_self n = omega arith

climbs_on : (a b : ℕ) → a ≤ b → a + 0 ≤ b + 1024
climbs_on a b le = omega (arith, le)

-- what its deed is, and what holds then
module _ (s r f : NodeState) (who : Actor) (c : Command) (a : Acted) (e : r ≡ record s { room = r.room }) (z : f ≡ finished who (calls.Act (acts.Obey c)) (quietly a) r) (deed : obey_deed c (node_in s) ≡ told (replies.Acted a) s.own) where
  abbrev call : Call
  call = calls.Act (acts.Obey c)

  abbrev behind : NodeState
  behind = finished who call (quietly a) (record s { room = r.room })

  f_is : f ≡ behind
  f_is = z ∙ ap (finished who call (quietly a)) e

  came : Came (told (replies.Acted a) s.own) (node_in s) (quietly a) s.manager.plain
  came = record { can = λ lt. lt; reply = refl; delta = refl; manager = refl; own = refl; pushed = refl; received = refl }

  behind_kept : IsKept s → IsServed s → IsKept behind
  behind_kept k served = came_kept s who call (quietly a) (told (replies.Acted a) s.own) s.manager r.room k (served_is s (entry_of (s.stamp + 1) who call (quietly a)) served) (ap (λ (d : Deed). Some d) deed) came

  counts : KeepsCounts s behind
  counts = finished_counts s (record s { room = r.room }) (record s { room = r.room }) behind who call (quietly a) refl refl refl

  told_none : disk_failed (replies.Acted a) ≡ false → RoseBy (replies.Acted a) s.manager.faults s.manager.faults
  told_none quiet = silent (replies.Acted a) (replies.Acted a) s.manager.faults s.manager.faults refl quiet

  pub answered_node : disk_failed (replies.Acted a) ≡ false → IsNode s → IsServed s → IsNode f
  answered_node quiet n served = subst IsNode (sym f_is) (record {
    kept = behind_kept n.kept served;
    counted = climbs_counted 0 s behind n.counted refl (long_more s.history.entries (entry_of (s.stamp + 1) who call (quietly a))) (stay 0 s.manager.plain) (climbs_on (kept_total behind.own) (kept_total s.own) counts.total);
    risen = risen_with s.history.entries (entry_of (s.stamp + 1) who call (quietly a)) s.manager.faults s.manager.faults n.risen (le_self s.manager.faults) (told_none quiet);
    aside = aside_kept s behind n.aside counts;
  })

  pub answered_as : (b : Acted) → b ≡ a → disk_failed (replies.Acted a) ≡ false → ActsAs who (calls.Act (acts.Obey c)) s (Ok b) f
  answered_as b is quiet =
      subst (λ (x : Acted). ActsAs who (calls.Act (acts.Obey c)) s (Ok x) f) (sym is)
      (subst (λ (t : NodeState). ActsAs who (calls.Act (acts.Obey c)) s (Ok a) t) (sym f_is)
      (entry_of (s.stamp + 1) who call (quietly a), record { grows = record { given = refl; history = refl }; actor = refl; call = refl; marks = refl; faults = le_self s.manager.faults; rose = told_none quiet }, refl))

-- ---- DISPLAY CHSTATUS

shown_by : (any_end up : Bool) (lines : List (List ℕ)) (own : Own)
    → (if up then shown own any_end lines else told (replies.Acted (acted.Sc refusals.Down)) own) ≡ told (replies.Acted (if up then answered any_end lines else acted.Sc refusals.Down)) own
shown_by any_end false lines own = refl
shown_by true true [] own = refl
shown_by false true [] own = refl
shown_by any_end true (line ∷ lines) own = refl

quiet_by : (any_end up : Bool) (lines : List (List ℕ)) → disk_failed (replies.Acted (if up then answered any_end lines else acted.Sc refusals.Down)) ≡ false
quiet_by any_end false lines = refl
quiet_by true true [] = refl
quiet_by false true [] = refl
quiet_by any_end true (line ∷ lines) = refl

pub shows : (s : NodeState) (name : List ℕ) (any_end : Bool) → obey_deed (commands.ShowStatus name any_end) (node_in s) ≡ told (replies.Acted (shown_as name any_end s.manager.plain s.own.ends)) s.own
shows s name any_end = shown_by any_end (is_up s.manager.plain.running) (lines_of name any_end s.manager.plain s.own.ends) s.own

-- ---- step by step

module _ (s r f : NodeState) (who : Actor) (name : List ℕ) (any_end : Bool) (copy : Acted) (e : r ≡ record s { room = r.room }) (is : copy ≡ shown_as name any_end r.manager.plain r.own.ends)
    (z : f ≡ finished who (calls.Act (acts.Obey (commands.ShowStatus name any_end))) (quietly copy) r) where
  seen : copy ≡ shown_as name any_end s.manager.plain s.own.ends
  seen = is ∙ ap (λ (x : NodeState). shown_as name any_end x.manager.plain x.own.ends) e

  deed : obey_deed (commands.ShowStatus name any_end) (node_in s) ≡ told (replies.Acted copy) s.own
  deed = shows s name any_end ∙ ap (λ (a : Acted). told (replies.Acted a) s.own) (sym seen)

  quiet : disk_failed (replies.Acted copy) ≡ false
  quiet = ap (λ (a : Acted). disk_failed (replies.Acted a)) seen ∙ quiet_by any_end (is_up s.manager.plain.running) (lines_of name any_end s.manager.plain s.own.ends)

  pub shown_node : IsNode s → IsServed s → IsNode f
  shown_node n served = answered_node s r f who (commands.ShowStatus name any_end) copy e z deed quiet n served

  pub shown_did : (acted : Acted) → acted ≡ shown_as name any_end r.manager.plain r.own.ends → ActsAs who (calls.Act (acts.Obey (commands.ShowStatus name any_end))) s (Ok acted) f
  shown_did acted same = answered_as s r f who (commands.ShowStatus name any_end) copy e z deed acted (same ∙ sym is) quiet
