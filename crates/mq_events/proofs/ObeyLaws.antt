-- Commands on objects as events of a node.
use Rattle.std.proofs.Common.{◌≡◌, ◌+◌, refl, sym, ap, subst, ◌∙◌}
use Rattle.std.specs.Prelude.{Some, Ok, Err}
use Rattle.mq_base.specs.declared.want.NoMemory.{NoMemory as Want}
use Rattle.mq_objects.specs.declared.command.Command.{Command as Objects}
use Rattle.mq_sc_parse.specs.declared.command.Command.TheVariants as commands
use Rattle.mq_history.specs.declared.acts.Act.TheVariants as acts
use Rattle.mq_history.specs.declared.acts.Acted.{Acted}
use Rattle.mq_history.specs.declared.calls.Call.TheVariants as calls
use Rattle.mq_history.specs.declared.calls.Reply.TheVariants as replies
use Rattle.mq_spec_node.specs.Terms.{Actor, Call}
use Rattle.mq_spec_node.specs.Words.{answer_of}
use Rattle.mq_events.specs.declared.outcome.Outcome.{Outcome}
use Rattle.mq_events.specs.Outcomes.{Ends, EndsSo}
use Rattle.mq_events.specs.States.{NodeState, IsKept, IsServed, finished, entry_of}
use Rattle.mq_events.specs.Events.{Stays, ActsAs}
use Rattle.mq_events.proofs.EventLaws.{event_kept, want_kept, wanted_stays_so}
use Rattle.mq_events.proofs.StepLaws.{Roomed, Asked, roomed_asked, ends_from}

abbrev call_of : Objects → Call
call_of c = calls.Act (acts.Obey (commands.Objects c))

module _ (s r a : NodeState) (actor : Actor) (c : Objects) (e : Roomed s r) (h : Asked r a) where
  pub obeyed_kept : (f : NodeState) (o : Outcome) → IsKept s → IsServed s → EndsSo (call_of c) r.manager o a.manager → f ≡ finished actor (call_of c) o a → IsKept f
  obeyed_kept f o k v n z =
      subst IsKept (sym (z ∙ ap (finished actor (call_of c) o) (roomed_asked s r a e h))) (event_kept s a.manager r.room actor (call_of c) o k v (ends_from s r (call_of c) (Ok (Some o)) a.manager e n))

  pub obeyed_adds : (f : NodeState) (o : Outcome) (x : Acted) → EndsSo (call_of c) r.manager o a.manager → answer_of (call_of c) o.reply ≡ replies.Acted x → f ≡ finished actor (call_of c) o a → ActsAs actor (call_of c) s (Ok x) f
  obeyed_adds f o x n w z =
      let E : NodeState → Type 0 = λ y. ActsAs actor (call_of c) s (Ok x) y in
      subst E (sym (z ∙ ap (finished actor (call_of c) o) (roomed_asked s r a e h)))
      (entry_of (s.stamp + 1) actor (call_of c) o, record { grows = record { given = refl; history = refl }; actor = refl; call = refl; marks = refl; faults = (ends_from s r (call_of c) (Ok (Some o)) a.manager e n).later; rose = (ends_from s r (call_of c) (Ok (Some o)) a.manager e n).rose }, w)

  pub unobeyed_kept : (x : Want) → IsKept s → Ends (call_of c) r.manager (Err x) a.manager → IsKept a
  unobeyed_kept x k n = subst IsKept (sym (roomed_asked s r a e h)) (want_kept s a.manager r.room (call_of c) x k (ends_from s r (call_of c) (Err x) a.manager e n))

  pub unobeyed_stays : (x : Want) → Ends (call_of c) r.manager (Err x) a.manager → Stays s a
  unobeyed_stays x n =
      let E : NodeState → Type 0 = λ y. Stays s y in
      subst E (sym (roomed_asked s r a e h)) (wanted_stays_so s a.manager r.room (call_of c) x (ends_from s r (call_of c) (Err x) a.manager e n))
