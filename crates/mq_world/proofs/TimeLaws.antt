-- A timeout's entry: it offers nothing and takes nothing, and its deed was there.
use Rattle.std.proofs.Common.{◌≡◌, ℕ, Bool, true, false, List, [], ◌∷◌, ◌++◌, refl, ap, subst, ◌∙◌}
use Rattle.std.specs.Prelude.{if◌then◌else◌, Option, Some, None, is_some}
use Rattle.mq_calls.specs.declared.choices.Choice.{Choice}
use Rattle.mq_calls.specs.declared.choices.Choice.TheVariants.{Runs, NoMemory, Stopped}
use Rattle.mq_calls.specs.State.{Running}
use Rattle.mq_calls.specs.State.Running.{Up, Down}
use Rattle.mq_frame.specs.declared.frame.Frame.{Frame}
use Rattle.mq_frame.specs.declared.frame.Seen.{Seen}
use Rattle.mq_frame.specs.declared.frame.Seen.TheVariants as items
use Rattle.mq_history.specs.declared.calls.Actor.{Actor}
use Rattle.mq_history.specs.declared.calls.Actor.TheVariants as actors
use Rattle.mq_history.specs.declared.calls.Call.{Call}
use Rattle.mq_history.specs.declared.calls.Call.TheVariants as calls
use Rattle.mq_history.specs.declared.calls.Chance.{Chance}
use Rattle.mq_history.specs.declared.calls.Chance.TheVariants as chances
use Rattle.mq_sender.specs.States.{awaits, timed_out}
use Rattle.mq_spec_node.specs.Terms.{Entry}
use Rattle.mq_spec_node.specs.Words.{Deed, Node, SenderEnd, deed_of, sender_end, stamp_after}
use Rattle.mq_spec_node.specs.Calls.{timeout_of, where_up}
use Rattle.mq_spec_node.specs.Happens.{IsDeed, IsEvent, done_or, event}
use Rattle.mq_spec_node.specs.Replays.{AreExtras, Follows, IsPop, Tells, after, done_by}
use Rattle.mq_spec_node.specs.Senders.{after_timeout}
use Rattle.mq_spec_network.specs.Cables.{is_popped}
use Rattle.mq_spec_network.specs.Steps.{pushed_of}
use Rattle.mq_spec_network.specs.Turns.{Direction, changes}
use Rattle.mq_shared.proofs.StampLaws.{event_offers}

-- What an entry among others tells.
pub tells_at : (n : Node) (last : ℕ) (xs es : List Entry) (e : Entry) → Follows n last (xs ++ e ∷ es) → Tells (after n xs) (stamp_after last xs) e
tells_at n last [] es e f = f.0
tells_at n last (x ∷ xs) es e f = tells_at (done_by x n).next x.stamp xs es e f.1

-- ITS DEED
abbrev pub timeout_here : ℕ → Node → Option Deed
timeout_here k n = deed_of 0 (actors.Sender k) calls.Timeout items.Nothing n

module _ (n : Node) where
  abbrev if_due : Bool → SenderEnd → Option Deed
  if_due b e = if b then Some (after_timeout e (timed_out e.machine) n) else None

  pushes_none : (q : Running) (o : Option SenderEnd) → pushed_of (where_up q (timeout_of o n)) ≡ None
  pushes_none (Down noted starts) o = refl
  pushes_none Up None = refl
  pushes_none Up (Some e) = by (awaits e.machine.state)
    where
      by : (b : Bool) → pushed_of (if_due b e) ≡ None
      by true = refl
      by false = refl

  -- it is taken wherever it is there
  changes_so : (way : Direction) (q : Running) (o : Option SenderEnd) → changes way (where_up q (timeout_of o n)) ≡ is_some (where_up q (timeout_of o n))
  changes_so way (Down noted starts) o = refl
  changes_so way Up None = refl
  changes_so way Up (Some e) = by (awaits e.machine.state)
    where
      by : (b : Bool) → changes way (if_due b e) ≡ is_some (if_due b e)
      by true = refl
      by false = refl

  offers_none : (q : Running) (o : Option SenderEnd) (choice : Choice) → (done_or (where_up q (timeout_of o n)) choice n).pushed ≡ None
  offers_none (Down noted starts) o choice = refl
  offers_none Up None choice = refl
  offers_none Up (Some e) choice = by (awaits e.machine.state) choice
    where
      by : (b : Bool) (c : Choice) → (done_or (if_due b e) c n).pushed ≡ None
      by true Runs = refl
      by true NoMemory = refl
      by true (Stopped part how left) = refl
      by false c = refl

pub timeout_pushes : (k : ℕ) (n : Node) → pushed_of (timeout_here k n) ≡ None
timeout_pushes k n = pushes_none n n.manager.running (sender_end k n.own)

pub timeout_changes : (way : Direction) (k : ℕ) (n : Node) → changes way (timeout_here k n) ≡ is_some (timeout_here k n)
timeout_changes way k n = changes_so n way n.manager.running (sender_end k n.own)

takes_none : (pushed : Option Frame) (actor : Actor) (seen : Seen) → IsPop seen pushed calls.Timeout actor → seen ≡ items.Nothing
takes_none pushed actor items.Nothing h = refl
takes_none None actor items.Spoiled h = absurd h
takes_none (Some f) actor items.Spoiled h = absurd h
takes_none None actor (items.Frame f) h = absurd h
takes_none (Some g) actor (items.Frame f) h = absurd h

deed_there : (d : Option Deed) (chance : Chance) (n : Node) → IsDeed d chance n → is_some d ≡ true
deed_there None chance n h = absurd h
deed_there (Some d) chance n h = refl

pub record IsTimeout (k : ℕ) (n : Node) (e : Entry) : Type 0 where
  pub actor : e.actor ≡ actors.Sender k
  pub call : e.call ≡ calls.Timeout
  pub pushed : e.effect.pushed ≡ None
  pub popped : e.effect.popped ≡ items.Nothing
  pub extras : e.effect.extras ≡ 0
  pub there : is_some (timeout_here k n) ≡ true

pub timeout_told : (k last : ℕ) (n : Node) (e : Entry) → Tells n last e → e.actor ≡ actors.Sender k → e.call ≡ calls.Timeout → IsTimeout k n e
timeout_told k last n e t actor call =
    let pushed : e.effect.pushed ≡ None =
    t.pushed ∙ ap (λ (a : Actor). (event e.stamp a e.call e.chance e.effect.popped n).pushed) actor
    ∙ ap (λ (c : Call). (event e.stamp (actors.Sender k) c e.chance e.effect.popped n).pushed) call ∙ event_offers k e.stamp e.chance e.effect.popped n in
    record {
      actor = actor;
      call = call;
      pushed = pushed;
      popped = takes_none e.effect.pushed e.actor e.effect.popped (subst (λ (c : Call). IsPop e.effect.popped e.effect.pushed c e.actor) call t.popped);
      extras = subst (λ (o : Option Frame). AreExtras o e.effect.extras) pushed t.extras;
      there = deed_there (timeout_here k n) e.chance n
          (subst (λ (c : Call). IsEvent e.stamp (actors.Sender k) c e.chance e.effect.popped n) call
          (subst (λ (a : Actor). IsEvent e.stamp a e.call e.chance e.effect.popped n) actor t.event));
    }

-- so it is quiet
pub timeout_silent : (k : ℕ) (n : Node) (e : Entry) → IsTimeout k n e → is_popped e ≡ false
timeout_silent k n e h = ap (λ (s : Seen). (elim s as (λ x. Bool) [ items.Nothing ↦ false | items.Spoiled ↦ true | items.Frame f ↦ true ])) h.popped

none_is : (d : Option Deed) → d ≡ None → is_some d ≡ false
none_is None e = refl
none_is (Some d) e = absurd cc

-- none is taken where there is none
pub timeout_still : (way : Direction) (k : ℕ) (n : Node) → timeout_here k n ≡ None → changes way (timeout_here k n) ≡ false
timeout_still way k n e = timeout_changes way k n ∙ none_is (timeout_here k n) e
