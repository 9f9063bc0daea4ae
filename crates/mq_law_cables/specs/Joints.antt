-- A network and all its channels.
use Rattle.std.specs.Prelude.{ℕ, ◌≡◌, ◌==◌, true, false, List, [], Some, if◌then◌else◌, is_some, map, slice_get}
use Rattle.std.specs.Option.{option_map}
use Rattle.mq_sync.specs.declared.unit.Unit.{Unit as Luw}
use Rattle.mq_calls.specs.declared.state.Batch.{Batch}
use Rattle.mq_history.specs.declared.scenario.CableLine.{CableLine}
use Rattle.mq_calls.specs.State.{Plain}
use Rattle.mq_calls.specs.Reads.{batch_of, in_doubt_of, receiver_data, sender_data}
use Rattle.mq_spec_network.specs.Standing.{last_unit_of}
use Rattle.mq_law_channel.specs.Channel.{Channel, Past}
use Rattle.mq_law_channel.specs.Opening.{doubt_unit}
use Rattle.mq_law_channel.specs.Turns.{released}
use Rattle.mq_spec_network.specs.Story.{Mem}
use Rattle.mq_law_rows.specs.Families.{is_here}
use Rattle.mq_law_rows.specs.World.{Book, Ghost, Inv, Tag, World}
use Rattle.mq_law_turns.specs.from_law_story.Needs.{IsTied, letter_tag}
use Rattle.mq_law_turns.specs.Turns.{AreBegun}

-- The network has the facts, and each cable's channel is of one mind with it. Channels and their pasts are by sender and name.
pub record AreJoint (w : World) (g : Ghost) (b : Book) (ks : List CableLine) (xs : ℕ → List ℕ → Channel) (ys : ℕ → List ℕ → Past) : Type 0 where
  pub inv : Inv w g b
  pub tied : (k : CableLine) → Mem k ks → IsTied w g k.sender k.receiver k.channel (xs k.sender k.channel) (ys k.sender k.channel)
  pub begun : (k : CableLine) → Mem k ks → AreBegun g k.sender k.channel (ys k.sender k.channel)

-- so it is behind a change, wherever idents belong by now
pub record Joined (w : World) (b : Book) (ks : List CableLine) (xs : ℕ → List ℕ → Channel) (ys : ℕ → List ℕ → Past) : Type 0 where
  pub ghost : Ghost
  pub joint : AreJoint w ghost b ks xs ys

-- a sender and a name have one receiver, this one
abbrev pub LeadTo : List CableLine → ℕ → List ℕ → ℕ → Type 0
LeadTo ks m c t = (k : CableLine) → Mem k ks → is_here m c k.sender k.channel ≡ true → k.receiver ≡ t

-- where a manager rests, what its ends have begun and not prepared is let go
abbrev pub rested : ℕ → (ℕ → List ℕ → Past) → ℕ → List ℕ → Past
rested a ys m c = if m == a then released (ys m c) else ys m c

-- how a cable's channel begins: both machines' data are those of its managers' first starts, and its unit in doubt has this
pub record Begins (ps : List Plain) (sent : Luw → List Tag) (k : CableLine) (x : Channel) (y : Past) : Type 0 where
  pub sender : Plain
  pub at : slice_get ps k.sender ≡ Some sender
  pub receiver : Plain
  pub there : slice_get ps k.receiver ≡ Some receiver
  pub rests : sender.channels.batches ≡ []
  pub last : x.receives.unit ≡ last_unit_of (receiver_data k.channel receiver)
  pub holds : y.near.holds ≡ option_map doubt_unit (in_doubt_of (sender_data k.channel sender))
  pub doubt : y.near.doubt ≡ is_some (in_doubt_of (sender_data k.channel sender))
  pub forced : y.forced ≡ false
  pub content : (u : Luw) → map letter_tag (y.content u) ≡ sent u

-- each batch of a manager is found by its channel, and is of a cable that it sends
pub record AreCabled (ks : List CableLine) (m : ℕ) (p : Plain) : Type 0 where
  pub once : (b : Batch) → Mem b p.channels.batches → batch_of b.channel p.channels.batches ≡ Some b
  pub line : (b : Batch) → Mem b p.channels.batches → (k : CableLine) × Mem k ks × (k.sender ≡ m) × (k.channel ≡ b.channel)
