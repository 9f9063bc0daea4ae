-- Commands on objects leave seized queues their senders': USAGE of one stays, and it is not deleted.
use Rattle.std.proofs.Common.{ℕ, ◌≡◌, Bool, true, false, List, [], ◌∷◌, refl, ap, sym, subst, ◌∙◌}
use Rattle.std.proofs.lemmas.Bool.{and_parts, true≢false}
use Rattle.std.specs.Prelude.{Option, Some, None, Result, Ok, Err, if◌then◌else◌, not, ◌&&◌}
use Rattle.std.specs.Str.{bytes_eq}
use Rattle.mq_objects.specs.declared.object.LocalQueue.{LocalQueue}
use Rattle.mq_objects.specs.declared.object.Object.{Object}
use Rattle.mq_objects.specs.declared.object.Object.TheVariants as objects
use Rattle.mq_objects.specs.declared.command.Subject.{Subject}
use Rattle.mq_objects.specs.declared.command.Command.{Command}
use Rattle.mq_objects.specs.declared.change.ObjectChange.{ObjectChange}
use Rattle.mq_objects.specs.declared.change.ObjectChange.TheVariants as changes
use Rattle.mq_objects.specs.Names.{Space, Queues, as_local, is_object, is_transmission, local_of, name_of, named, object_in, same_space, space_of, subject_name, subject_space}
use Rattle.mq_objects.specs.Changed.{set_in}
use Rattle.mq_calls.specs.declared.commands.ScRefusal.{ScRefusal}
use Rattle.mq_calls.specs.declared.commands.ScRefusal.TheVariants as refusals
use Rattle.mq_calls.specs.declared.records.LogRecord.TheVariants as records
use Rattle.mq_calls.specs.declared.state.Seizure.{Seizure}
use Rattle.mq_spec_manager.specs.from_sc_apply.{Plan}
use Rattle.mq_spec_manager.specs.from_sc_apply.PlanVariants as plans
use Rattle.mq_spec_manager.specs.from_sc_apply.Commands.{plan}
use Rattle.mq_spec_manager.specs.from_sc_apply.Planned.{changes_usage, is_sent_from, same_usage}
use Rattle.mq_calls.specs.State.{Plain}
use Rattle.mq_calls.specs.State.Change.{ChangeObjects}
use Rattle.mq_calls.specs.Changes.{apply}
use Rattle.mq_calls.specs.Reads.{is_up, read_by_sender}
use Rattle.mq_calls.specs.Steps.{when}
use Rattle.mq_spec_manager.specs.Commands.{command, follows, planned_step, uses_of}
use Rattle.mq_spec_manager.specs.Handles.{is_transmission_queue}
use Rattle.mq_law_manager.specs.Facts.{AreOnce, IsSound, Mem, is_local}
use Rattle.mq_law_manager.specs.Kept.{StepKeeps}
use Rattle.mq_law_seized.specs.Each.{is_common}
use Rattle.mq_law_seized.proofs.CommonCalls.{follows_common}
use Rattle.mq_law_seized.proofs.Each.{all_weaker}
use Rattle.mq_law_manager.proofs.Lists.{bool_case, name_self, name_yes}
use Rattle.mq_law_manager.proofs.Commanding.{object_name}
use Rattle.mq_law_manager.proofs.Objects.{delete_found, object_is, same_space_is, set_found}
use Rattle.mq_law_manager.proofs.Planning.{EachChange, PlanHas, object_or, plan_has}
use Rattle.mq_law_manager.proofs.StockCommands.{used_alike}
use Rattle.mq_law_seized.specs.Seized.{AreSeized, is_plain}
use Rattle.mq_law_seized.proofs.Bare.{common_plain}
use Rattle.mq_law_seized.proofs.Calling.{tested_keeps}
use Rattle.mq_law_seized.proofs.Changing.{changes_leave, logged_leaves, none_any}

-- WHAT A PLAN KEEPS TO
abbrev SetsSo : Object → Plain → Type 0
SetsSo new p = (old : Object) → object_in (space_of new) (name_of new) p.definitions.objects ≡ Some old → (is_local new ≡ is_local old) × ((changes_usage old new && is_sent_from old (uses_of p)) ≡ false)

record DeletesSo (s : Subject) (p : Plain) : Type 0 where
  old : Object
  found : named s p.definitions ≡ Some old
  sent : is_sent_from old (uses_of p) ≡ false

abbrev FitsSo : ObjectChange → Plain → Type 0
FitsSo (changes.Set new) p = SetsSo new p
FitsSo (changes.SetManager m) p = Unit {0}
FitsSo (changes.Delete s) p = DeletesSo s p

-- of each change that a command plans
abbrev ChangeSo : Plain → ObjectChange → Bool → Bool → Type 0
ChangeSo p change reroutes on = FitsSo change p

abbrev AllSo : Plain → Result Plan ScRefusal → Type 0
AllSo p r = PlanHas (ChangeSo p) r

each_so : (c : Command) (p : Plain) → EachChange (ChangeSo p) c p.definitions (uses_of p)
each_so c p = record {
  fresh = λ new none old f. absurd (cc (none, f));
  over = λ old new on h x f. subst (λ (o : Object). (is_local new ≡ is_local o) × ((changes_usage o new && is_sent_from o (uses_of p)) ≡ false)) (ap (object_or old) (sym h.found ∙ f)) (h.kind, h.sent);
  manager = λ a reroutes e. tt;
  gone = λ s old h. record { old = old; found = h.found; sent = h.sent };
}

plan_so : (c : Command) (p : Plain) → AllSo p (plan c p.given.name p.definitions (uses_of p))
plan_so c p = plan_has (ChangeSo p) c p.given.name p.definitions (uses_of p) (each_so c p)

-- A QUEUE THAT IS OPEN stays a transmission queue
not_and : (a b : Bool) → (not a && b) ≡ false → b ≡ true → a ≡ true
not_and true b e f = refl
not_and false b e f = absurd (true≢false (sym f ∙ e))

usage_kept : (a : LocalQueue) (new : Object) (sent : Bool) → is_local new ≡ true → (changes_usage (objects.Local a) new && sent) ≡ false → sent ≡ true → is_transmission a.usage ≡ true → is_transmission_queue (as_local (Some new)) ≡ true
usage_kept a (objects.Local b) sent i e r k = sym (used_alike a.usage b.usage (not_and (same_usage a.usage b.usage) sent e r)) ∙ k
usage_kept a (objects.Alias b) sent i e r k = absurd cc
usage_kept a (objects.Remote b) sent i e r k = absurd cc
usage_kept a (objects.Channel b) sent i e r k = absurd cc
usage_kept a (objects.Process b) sent i e r k = absurd cc

sets_sends : (new : Object) (p : Plain) → SetsSo new p → (q : List ℕ) → read_by_sender q p ≡ true → is_transmission_queue (local_of q p.definitions) ≡ true → is_transmission_queue (as_local (object_in Queues q (set_in new p.definitions.objects))) ≡ true
sets_sends new p so q sent xm = ap (λ (o : Option Object). is_transmission_queue (as_local o)) (set_found Queues q new p.definitions.objects)
    ∙ bool_case (is_object Queues q new) (λ b. is_object Queues q new ≡ b → is_transmission_queue (as_local (if b then Some new else object_in Queues q p.definitions.objects)) ≡ true)
    (λ z w. let is = object_is Queues q new w in at is.0 is.1 (object_in Queues q p.definitions.objects) refl xm) (λ z w. xm) refl
  where
    at : Queues ≡ space_of new → q ≡ name_of new → (o : Option Object) → object_in Queues q p.definitions.objects ≡ o → is_transmission_queue (as_local o) ≡ true → is_transmission_queue (as_local (Some new)) ≡ true
    at space name None f k = absurd cc
    at space name (Some (objects.Local a)) f k =
        let is = so (objects.Local a) (ap (λ (x : Space). object_in x (name_of new) p.definitions.objects) (sym space) ∙ ap (λ (n : List ℕ). object_in Queues n p.definitions.objects) (sym name) ∙ f) in
        usage_kept a new (read_by_sender a.name p) is.0 is.1 (ap (λ (n : List ℕ). read_by_sender n p) (object_name q p.definitions.objects (objects.Local a) f) ∙ sent) k
    at space name (Some (objects.Alias a)) f k = absurd cc
    at space name (Some (objects.Remote a)) f k = absurd cc
    at space name (Some (objects.Channel a)) f k = absurd cc
    at space name (Some (objects.Process a)) f k = absurd cc

same_place : (a b : Space) (n m : List ℕ) → (same_space a b && bytes_eq n m) ≡ true → (a ≡ b) × (n ≡ m)
same_place a b n m e = let k = and_parts (same_space a b) (bytes_eq n m) e in (same_space_is a b k.0, name_yes n m k.1)

deletes_sends : (s : Subject) (p : Plain) → AreOnce p.definitions.objects → DeletesSo s p → (q : List ℕ) → read_by_sender q p ≡ true → is_transmission_queue (local_of q p.definitions) ≡ true
    → is_transmission_queue (local_of q (apply (ChangeObjects (changes.Delete s)) p).definitions) ≡ true
deletes_sends s p once so q sent xm = ap (λ (o : Option Object). is_transmission_queue (as_local o)) (delete_found Queues (subject_space s) q (subject_name s) p.definitions.objects once)
    ∙ bool_case (same_space Queues (subject_space s) && bytes_eq q (subject_name s))
    (λ b. (same_space Queues (subject_space s) && bytes_eq q (subject_name s)) ≡ b → is_transmission_queue (as_local (if b then None else object_in Queues q p.definitions.objects)) ≡ true)
    (λ z w. let is = same_place Queues (subject_space s) q (subject_name s) w in absurd (at so.old (ap (λ (x : Space). object_in x q p.definitions.objects) is.0 ∙ ap (λ (n : List ℕ). object_in (subject_space s) n p.definitions.objects) is.1 ∙ so.found) so.sent)) (λ z w. xm) refl
  where
    at : (old : Object) → object_in Queues q p.definitions.objects ≡ Some old → is_sent_from old (uses_of p) ≡ false → ⊥
    at (objects.Local a) f g = true≢false (sym (ap (λ (n : List ℕ). read_by_sender n p) (object_name q p.definitions.objects (objects.Local a) f) ∙ sent) ∙ g)
    at (objects.Alias a) f g = true≢false (sym xm ∙ ap (λ (o : Option Object). is_transmission_queue (as_local o)) f)
    at (objects.Remote a) f g = true≢false (sym xm ∙ ap (λ (o : Option Object). is_transmission_queue (as_local o)) f)
    at (objects.Channel a) f g = true≢false (sym xm ∙ ap (λ (o : Option Object). is_transmission_queue (as_local o)) f)
    at (objects.Process a) f g = true≢false (sym xm ∙ ap (λ (o : Option Object). is_transmission_queue (as_local o)) f)

change_sends : (change : ObjectChange) (p : Plain) → AreOnce p.definitions.objects → FitsSo change p → (q : List ℕ) → read_by_sender q p ≡ true → is_transmission_queue (local_of q p.definitions) ≡ true → is_transmission_queue (local_of q (apply (ChangeObjects change) p).definitions) ≡ true
change_sends (changes.Set new) p once so q sent xm = sets_sends new p so q sent xm
change_sends (changes.SetManager m) p once so q sent xm = xm
change_sends (changes.Delete s) p once so q sent xm = deletes_sends s p once so q sent xm

sent_by : (p : Plain) (s : Seizure) → Mem s p.channels.seizures → read_by_sender s.queue p ≡ true
sent_by p s n = bool_case (read_by_sender s.queue p) (λ b. read_by_sender s.queue p ≡ b → b ≡ true) (λ z f. refl)
    (λ z f. absurd (true≢false (sym (name_self s.queue) ∙ none_any (λ (x : Seizure). bytes_eq s.queue x.queue) p.channels.seizures f s n))) refl

objects_leave : (change : ObjectChange) (p : Plain) → AreOnce p.definitions.objects → FitsSo change p → AreSeized p → AreSeized (apply (ChangeObjects change) p)
objects_leave change p once so h = record {
  local = h.local;
  sends = λ s n. change_sends change p once so s.queue (sent_by p s n) (h.sends s n);
  unread = h.unread;
  alone = h.alone;
  held = h.held;
}

-- A COMMAND
planned_keeps : (r : Result Plan ScRefusal) (p : Plain) → AreOnce p.definitions.objects → AllSo p r → AreSeized p → StepKeeps AreSeized (planned_step r p.definitions) p
planned_keeps (Ok (plans.Change planned)) p once so h = (
  changes_leave (follows planned.change planned p.definitions) _ (all_weaker is_common is_plain common_plain (follows planned.change planned p.definitions) (follows_common planned.change planned p.definitions))
      (logged_leaves (Some (records.Objects planned.change)) (apply (ChangeObjects planned.change) p) (objects_leave planned.change p once so h)),
  tt,
)
planned_keeps (Ok (plans.Show shown)) p once so h = tt
planned_keeps (Err refusal) p once so h = tt

pub obeys : (c : Command) (p : Plain) → IsSound p → AreSeized p → StepKeeps AreSeized (command c p) p
obeys c p sound h = tested_keeps (when (not (is_up p.running)) refusals.Down ∷ []) (planned_step (plan c p.given.name p.definitions (uses_of p)) p.definitions) p
    (λ e. planned_keeps (plan c p.given.name p.definitions (uses_of p)) p sound.stocked.once (plan_so c p) h)
