-- Ends of channels that have hardened something have names.
use Rattle.std.specs.Prelude.{ℕ, ◌<◌, length, List}
use Rattle.std.specs.List.{AllByRecursion}
use Rattle.mq_calls.specs.declared.state.SenderSide.{SenderSide}
use Rattle.mq_calls.specs.declared.state.ReceiverSide.{ReceiverSide}
use Rattle.mq_calls.specs.declared.image.Image.{Image}
use Rattle.mq_calls.specs.declared.records.LogRecord.{LogRecord}
use Rattle.mq_calls.specs.declared.records.LogRecord.TheVariants as records

-- none of these names is blank
abbrev pub HaveNames : {A : Type 0} → (A → List ℕ) → List A → Type 0
HaveNames {A} name xs = AllByRecursion (λ (x : A). 0 < length (name x)) xs

pub record AreNamedSides (i : Image) : Type 0 where
  pub senders : HaveNames (λ (s : SenderSide). s.channel) i.senders
  pub receivers : HaveNames (λ (r : ReceiverSide). r.channel) i.receivers

-- the channel of a record, if it is of one, has a name
abbrev pub HasChannel : LogRecord → Type 0
HasChannel (records.Session channel partner session) = 0 < length channel
HasChannel (records.Prepared channel unit last queue idents) = 0 < length channel
HasChannel (records.Resolved channel unit commit operator) = 0 < length channel
HasChannel (records.Bound channel partner session last) = 0 < length channel
HasChannel (records.Closed channel session) = 0 < length channel
HasChannel (records.Received channel unit last adds) = 0 < length channel
HasChannel (records.SeqSet channel end last) = 0 < length channel
HasChannel _ = Unit {0}
