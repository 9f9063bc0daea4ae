-- Trigger turns neither offer nor pop: they are quiet for each end of a cable.
use Rattle.std.proofs.Common.{◌≡◌, ℕ, Bool, true, false, List, [], ◌∷◌, ◌++◌, refl, ap, subst, ◌∙◌, inr}
use Rattle.std.specs.Prelude.{Option, None, Some}
use Rattle.std.specs.List.{AllByRecursion}
use Rattle.mq_calls.specs.declared.choices.Choice.{Choice}
use Rattle.mq_calls.specs.declared.choices.Choice.TheVariants.{Runs, NoMemory, Stopped}
use Rattle.mq_calls.specs.State.{Running}
use Rattle.mq_calls.specs.State.Running.{Up, Down}
use Rattle.mq_frame.specs.declared.frame.Frame.{Frame}
use Rattle.mq_frame.specs.declared.frame.Seen.{Seen}
use Rattle.mq_frame.specs.declared.frame.Seen.TheVariants as items
use Rattle.mq_history.specs.declared.calls.Actor.{Actor}
use Rattle.mq_history.specs.declared.calls.Call.{Call}
use Rattle.mq_history.specs.declared.calls.Call.TheVariants as calls
use Rattle.mq_history.specs.declared.calls.Chance.{Chance}
use Rattle.mq_history.specs.declared.calls.Chance.TheVariants as chances
use Rattle.mq_objects.specs.declared.object.LocalQueue.{LocalQueue}
use Rattle.mq_objects.specs.Names.{locals_of}
use Rattle.mq_spec_manager.specs.Words.{first_due}
use Rattle.mq_spec_node.specs.Node.{Node}
use Rattle.mq_spec_node.specs.Replays.{Follows, IsPop, Tells, done_by}
use Rattle.mq_spec_node.specs.Happens.{choice_event, done_or, event}
use Rattle.mq_spec_node.specs.Words.{trigger_deed, trigger_deed_of, where_up}
use Rattle.mq_spec_node.specs.Terms.{Entry}
use Rattle.mq_spec_network.specs.Cables.{is_popped}
use Rattle.mq_spec_network.specs.Steps.{AreTriggers}
use Rattle.mq_ways.specs.Ways.{IsQuietEntry}

-- WHAT A TRIGGER TURN DOES: it neither offers nor pops.
abbrev pub IsSilent : Entry → Type 0
IsSilent e = (e.effect.pushed ≡ None) × (is_popped e ≡ false)

due_silent : (r : Running) (o : Option LocalQueue) (choice : Choice) (n k : Node) → (done_or (where_up r (trigger_deed_of o n)) choice k).pushed ≡ None
due_silent Up None choice n k = refl
due_silent Up (Some q) Runs n k = refl
due_silent Up (Some q) NoMemory n k = refl
due_silent Up (Some q) (Stopped part by left) n k = refl
due_silent (Down noted starts) o choice n k = refl

trigger_silent : (chance : Chance) (n : Node) → (choice_event chance (trigger_deed n) n).pushed ≡ None
trigger_silent (chances.Call choice) n = due_silent n.manager.running (first_due (locals_of n.manager.definitions) n.manager) choice n n
trigger_silent (chances.Restart choice) n = refl
trigger_silent (chances.Foreign image long left) n = refl

pops_none : (pushed : Option Frame) (actor : Actor) (seen : Seen) → IsPop seen pushed calls.Trigger actor → (elim seen as (λ x. Bool) [ items.Nothing ↦ false | items.Spoiled ↦ true | items.Frame f ↦ true ]) ≡ false
pops_none pushed actor items.Nothing h = refl
pops_none None actor items.Spoiled h = absurd h
pops_none (Some f) actor items.Spoiled h = absurd h
pops_none None actor (items.Frame f) h = absurd h
pops_none (Some g) actor (items.Frame f) h = absurd h

told_silent : (n : Node) (last : ℕ) (e : Entry) → Tells n last e → e.call ≡ calls.Trigger → IsSilent e
told_silent n last e t is = (
  t.pushed ∙ ap (λ (c : Call). (event e.stamp e.actor c e.chance e.effect.popped n).pushed) is ∙ trigger_silent e.chance n,
  pops_none e.effect.pushed e.actor e.effect.popped (subst (λ (c : Call). IsPop e.effect.popped e.effect.pushed c e.actor) is t.popped),
)

all_silent : (n : Node) (last : ℕ) (es : List Entry) → Follows n last es → AreTriggers es → AllByRecursion IsSilent es
all_silent n last [] f are = tt
all_silent n last (e ∷ es) f are = (told_silent n last e f.0 are.0, all_silent (done_by e n).next e.stamp es f.1 are.1)

-- those behind others
pub behind_silent : (n : Node) (last : ℕ) (xs es : List Entry) → Follows n last (xs ++ es) → AreTriggers es → AllByRecursion IsSilent es
behind_silent n last [] es f are = all_silent n last es f are
behind_silent n last (x ∷ xs) es f are = behind_silent (done_by x n).next x.stamp xs es f.1 are

-- So they are quiet for each end,
pub silent_quiet : (test : Actor → Bool) (es : List Entry) → AllByRecursion IsSilent es → AllByRecursion (IsQuietEntry test) es
silent_quiet test [] h = tt
silent_quiet test (e ∷ es) h = (inr h.0, silent_quiet test es h.1)

-- and behind an entry that is quiet too.
pub quiet_behind : (test : Actor → Bool) (e : Entry) (es : List Entry) → IsQuietEntry test e → AllByRecursion IsSilent es → AllByRecursion (IsQuietEntry test) (e ∷ es)
quiet_behind test e es q h = (q, silent_quiet test es h)
