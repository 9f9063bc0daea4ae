-- When a history replays: each entry's reply and effect are those of its event, one after the other.
use Rattle.std.specs.Prelude.{◌≡◌, ℕ, ◌+◌, ◌<◌, max, List, [], ◌∷◌, Option, Some, None}
use Rattle.mq_spec_node.specs.Terms.{Frame, Seen, Actor, Call, Entry, Chance, History, Given}
use Rattle.mq_history.specs.from_frame.SeenVariants as items
use Rattle.mq_history.specs.declared.calls.Actor.TheVariants as actors
use Rattle.mq_history.specs.declared.calls.Call.TheVariants as calls
use Rattle.mq_history.specs.declared.calls.Chance.TheVariants as chances
use Rattle.mq_spec_node.specs.Node.{Node, Own}
use Rattle.mq_spec_node.specs.Deeds.{Deed, Done}
use Rattle.mq_spec_node.specs.Happens.{event, IsEvent, trigger_deed}
use Rattle.mq_spec_node.specs.Openings.{first_node}

-- what the entry's event comes to at a node
abbrev pub done_by : Entry → Node → Done
done_by e n = event e.stamp e.actor e.call e.chance e.effect.popped n

-- the node to which entries lead
abbrev pub after : Node → List Entry → Node
after n [] = n
after n (e ∷ es) = after (done_by e n).next es

-- A stamp is one above the last; at a pop it is one above the greater of that and the frame's. Of a spoiled frame
-- a history knows only that it is above the last; the cable's items say the rest.
abbrev pub IsStamp : ℕ → Seen → ℕ → Type 0
IsStamp last items.Nothing stamp = stamp ≡ last + 1
IsStamp last items.Spoiled stamp = last < stamp
IsStamp last (items.Frame f) stamp = stamp ≡ max last f.stamp + 1

-- Only a turn of a channel's end pops, and one that pushes pops nothing.
abbrev pub MayPop : Option Frame → Call → Actor → Type 0
MayPop None calls.Turn (actors.Sender cable) = Unit {0}
MayPop None calls.Turn (actors.Receiver cable) = Unit {0}
MayPop _ _ _ = ⊥

abbrev pub IsPop : Seen → Option Frame → Call → Actor → Type 0
IsPop items.Nothing pushed call actor = Unit {0}
IsPop items.Spoiled pushed call actor = MayPop pushed call actor
IsPop (items.Frame f) pushed call actor = MayPop pushed call actor

-- extra items follow a frame that is offered
abbrev pub AreExtras : Option Frame → ℕ → Type 0
AreExtras None extras = extras ≡ 0
AreExtras (Some f) extras = Unit {0}

-- an entry tells what its event is and does
pub record Tells (n : Node) (last : ℕ) (e : Entry) : Type 0 where
  pub stamp : IsStamp last e.effect.popped e.stamp
  pub event : IsEvent e.stamp e.actor e.call e.chance e.effect.popped n
  pub reply : e.reply ≡ (done_by e n).reply
  pub delta : e.effect.delta ≡ (done_by e n).delta
  pub pushed : e.effect.pushed ≡ (done_by e n).pushed
  pub received : e.effect.received ≡ (done_by e n).received
  pub popped : IsPop e.effect.popped e.effect.pushed e.call e.actor
  pub extras : AreExtras e.effect.pushed e.effect.extras

abbrev pub Follows : Node → ℕ → List Entry → Type 0
Follows n last [] = Unit {0}
Follows n last (e ∷ es) = Tells n last e × Follows (done_by e n).next e.stamp es

-- What the scenario gives a manager: number, name, LOGMAX, and its ends, handlers, monitors and scripts.
pub record Surroundings : Type 0 where
  pub given : Given
  pub own : Own

abbrev pub opening_node : Surroundings → History → Node
opening_node s h = first_node s.given s.own h.opening h.length h.moment

-- A history replays where it is of this manager and its entries follow from its opening.
pub record Replays (s : Surroundings) (h : History) : Type 0 where
  pub number : h.number ≡ s.given.number
  pub name : h.name ≡ s.given.name
  pub follows : Follows (opening_node s h) 0 h.entries

abbrev pub state_of : Surroundings → History → Node
state_of s h = after (opening_node s h) h.entries

-- A trigger turn stands where one is due, with the actor of the entry before it, and nothing else stands there: where a turn
-- found no memory, whatever is asked of the node next serves first what is due.
abbrev pub TriggerIs : Option Deed → Option Actor → Entry → Type 0
TriggerIs None last e = Unit {0}
TriggerIs (Some d) last e = (e.call ≡ calls.Trigger) × (Some e.actor ≡ last)

abbrev pub TriggersStand : Option Actor → Node → List Entry → Type 0
TriggersStand last n [] = Unit {0}
TriggersStand last n (e ∷ es) = TriggerIs (trigger_deed n) last e × TriggersStand (Some e.actor) (done_by e n).next es

-- no restart read an image that the history does not allow
abbrev pub IsOwn : Chance → Type 0
IsOwn (chances.Call choice) = Unit {0}
IsOwn (chances.Restart choice) = Unit {0}
IsOwn (chances.Foreign image length left) = ⊥

abbrev pub NoneForeign : List Entry → Type 0
NoneForeign [] = Unit {0}
NoneForeign (e ∷ es) = IsOwn e.chance × NoneForeign es
