-- What is kept of a channel, end by end.
use Rattle.std.proofs.Common.{◌≡◌, refl, ap}
use Rattle.std.specs.Prelude.{Option, Some, None}
use Rattle.mq_calls.specs.Words.{ChannelData, ReceiverData, SenderData}
use Rattle.mq_spec_manager.specs.Seizing.{kept_by}

some_is : {A : Type 0} (a b : A) → Some a ≡ Some b → a ≡ b
some_is a b e = cc

abbrev data_of : Option SenderData → Option ReceiverData → ChannelData
data_of a b = record { sender = a; receiver = b }

pub sender_is : (a s : Option SenderData) (b r : Option ReceiverData) → Some (data_of a b) ≡ kept_by s r → a ≡ s
sender_is a None b None e = absurd cc
sender_is a None b (Some z) e = ap (λ (d : ChannelData). d.sender) (some_is _ _ e)
sender_is a (Some y) b r e = ap (λ (d : ChannelData). d.sender) (some_is _ _ e)

pub receiver_is : (a s : Option SenderData) (b r : Option ReceiverData) → Some (data_of a b) ≡ kept_by s r → b ≡ r
receiver_is a None b None e = absurd cc
receiver_is a None b (Some z) e = ap (λ (d : ChannelData). d.receiver) (some_is _ _ e)
receiver_is a (Some y) b r e = ap (λ (d : ChannelData). d.receiver) (some_is _ _ e)

pub none_sender : (s : Option SenderData) (r : Option ReceiverData) → None ≡ kept_by s r → None ≡ s
none_sender None r e = refl
none_sender (Some y) r e = absurd cc

pub none_receiver : (s : Option SenderData) (r : Option ReceiverData) → None ≡ kept_by s r → None ≡ r
none_receiver None None e = refl
none_receiver None (Some y) e = absurd cc
none_receiver (Some y) r e = absurd cc
