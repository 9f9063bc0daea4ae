-- What the rows need of a channel: the facts of its two ends, of its frames and of its past are tied to what the laws see of
-- the managers.
use Rattle.std.specs.Prelude.{ℕ, ◌≡◌, ◌≢◌, true, false, List, Some, None, map}
use Rattle.mq_sync.specs.declared.unit.Unit.{Unit as Luw}
use Rattle.mq_law_channel.specs.Facts.{Letter}
use Rattle.mq_law_channel.specs.Channel.{Channel, Past}
use Rattle.mq_law_seen.specs.from_law_rows.World.{World, Ghost, Tag, tag_of}

abbrev pub letter_tag : Letter → Tag
letter_tag l = tag_of l.message

-- Manager m sends on channel c to manager t. A unit that an operator has committed is held in the channel's past alone.
pub record IsTied (w : World) (g : Ghost) (m t : ℕ) (c : List ℕ) (channel : Channel) (p : Past) : Type 0 where
  pub apart : t ≢ m
  pub last : w.last m c ≡ channel.receives.unit
  pub held : p.forced ≡ false → (w.holds m c ≡ p.near.holds) × (w.doubt m c ≡ p.near.doubt)
  pub idle : p.forced ≡ true → w.holds m c ≡ None
  pub forced : (u : Luw) → p.forced ≡ true → p.near.holds ≡ Some u → channel.receives.unit ≢ u → g.operated m c u ≡ true
  pub content : (u : Luw) → p.near.holds ≡ Some u → map letter_tag (p.content u) ≡ g.sent m c u
