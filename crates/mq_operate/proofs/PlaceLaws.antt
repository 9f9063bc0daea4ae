-- The ends of a channel, by their places.
use Rattle.std.proofs.Common.{◌≡◌, ℕ, zero, suc, List, [], ◌∷◌, Bool, true, false, refl, sym, ap, subst, ◌∙◌, arith}
use Rattle.std.specs.Prelude.{position, Option, Some, None, slice_get, if◌then◌else◌}
use Rattle.std.specs.Str.{bytes_eq}
use Rattle.mq_core.proofs.PlaceLaws.{name_is}
use Rattle.mq_objects.specs.Names.{channel_of}
use Rattle.mq_objects.specs.declared.object.Channel.{Channel}
use Rattle.mq_objects.specs.declared.object.ChannelKind.{ChannelKind}
use Rattle.mq_objects.specs.declared.object.ChannelKind.TheVariants as kinds
use Rattle.mq_spec_manager.specs.Agents.{is_sender, is_sending_kind}
use Rattle.mq_spec_node.specs.Words.{ChannelEnd, Node, ReceiverEnd, SenderEnd, as_sender, end_defined, end_here, end_of_kind, receiver_named, sender_named}
use Rattle.mq_spec_node.specs.Node.ChannelEnd.{Sends, Receives}
use Rattle.mq_operate.specs.Places.{SendsHere, defined_sends, receives_for, sends_for}

pub named_none : (channel : List ℕ) (es : List ChannelEnd) → position (sends_for channel) es ≡ None → sender_named channel es ≡ None
named_none channel [] e = refl
named_none channel (Sends x ∷ xs) e = grind (arith, named_none channel xs)
named_none channel (Receives x ∷ xs) e = grind (arith, named_none channel xs)

pub named_get : (channel : List ℕ) (es : List ChannelEnd) (at : ℕ) (x : ChannelEnd) → position (sends_for channel) es ≡ Some at → slice_get es at ≡ Some x → as_sender (Some x) ≡ sender_named channel es
named_get channel [] at y e g = absurd cc
named_get channel (Sends x ∷ xs) zero y e g = grind (arith)
named_get channel (Sends x ∷ xs) (suc at) y e g = grind (arith, named_get channel xs at)
named_get channel (Receives x ∷ xs) zero y e g = grind (arith)
named_get channel (Receives x ∷ xs) (suc at) y e g = grind (arith, named_get channel xs at)

pub named_away : (channel : List ℕ) (es : List ChannelEnd) (at : ℕ) → position (sends_for channel) es ≡ Some at → slice_get es at ≡ None → None ≡ sender_named channel es
named_away channel [] at e g = absurd cc
named_away channel (Sends x ∷ xs) zero e g = absurd cc
named_away channel (Sends x ∷ xs) (suc at) e g = grind (arith, named_away channel xs at)
named_away channel (Receives x ∷ xs) zero e g = absurd cc
named_away channel (Receives x ∷ xs) (suc at) e g = grind (arith, named_away channel xs at)

-- a sender that is found has the name
sender_is : (x e : SenderEnd) → Some x ≡ Some e → x ≡ e
sender_is x e h = cc

pub named_is : (channel : List ℕ) (es : List ChannelEnd) (e : SenderEnd) → sender_named channel es ≡ Some e → channel ≡ e.channel
named_is channel [] e h = absurd cc
named_is channel (Receives x ∷ xs) e h = named_is channel xs e h
named_is channel (Sends x ∷ xs) e h = at (bytes_eq channel x.channel) refl h (named_is channel xs e)
  where
    at : (b : Bool) → bytes_eq channel x.channel ≡ b → (if b then Some x else sender_named channel xs) ≡ Some e → (sender_named channel xs ≡ Some e → channel ≡ e.channel) → channel ≡ e.channel
    at true t h k = name_is channel x.channel t ∙ ap (λ (y : SenderEnd). y.channel) (sender_is x e h)
    at false t h k = k h

-- a receiver by its place
pub receiver_none : (channel : List ℕ) (es : List ChannelEnd) → position (receives_for channel) es ≡ None → receiver_named channel es ≡ None
receiver_none channel [] e = refl
receiver_none channel (Sends x ∷ xs) e = grind (arith, receiver_none channel xs)
receiver_none channel (Receives x ∷ xs) e = grind (arith, receiver_none channel xs)

-- what a definition speaks of
kind_sender : (channel : List ℕ) (k : ChannelKind) (es : List ChannelEnd) (o : Option SenderEnd) → is_sending_kind k ≡ true → sender_named channel es ≡ o → end_of_kind channel k es ≡ (elim o as (λ x. Option ChannelEnd) [ None ↦ None | Some e ↦ Some (Sends e) ])
kind_sender channel (kinds.Sender batch retry xmitq) es o t e = ap (λ (x : Option SenderEnd). elim x as (λ y. Option ChannelEnd) [ None ↦ None | Some e ↦ Some (Sends e) ]) e
kind_sender channel (kinds.Receiver dead) es o t e = absurd cc

kind_receiver : (channel : List ℕ) (k : ChannelKind) (es : List ChannelEnd) (o : Option ReceiverEnd) → is_sending_kind k ≡ false → receiver_named channel es ≡ o → end_of_kind channel k es ≡ (elim o as (λ x. Option ChannelEnd) [ None ↦ None | Some e ↦ Some (Receives e) ])
kind_receiver channel (kinds.Sender batch retry xmitq) es o t e = absurd cc
kind_receiver channel (kinds.Receiver dead) es o t e = ap (λ (x : Option ReceiverEnd). elim x as (λ y. Option ChannelEnd) [ None ↦ None | Some e ↦ Some (Receives e) ]) e

sends_is : (b c : Bool) → Some b ≡ Some c → b ≡ c
sends_is b c h = cc

defined_sender : (channel : List ℕ) (c : Option Channel) (es : List ChannelEnd) (o : Option SenderEnd) → defined_sends c ≡ Some true → sender_named channel es ≡ o → end_defined channel c es ≡ (elim o as (λ x. Option ChannelEnd) [ None ↦ None | Some e ↦ Some (Sends e) ])
defined_sender channel None es o t e = absurd cc
defined_sender channel (Some c) es o t e = kind_sender channel c.kind es o (sends_is (is_sending_kind c.kind) true t) e

pub defined_receiver : (channel : List ℕ) (c : Option Channel) (es : List ChannelEnd) (o : Option ReceiverEnd) → defined_sends c ≡ Some false → receiver_named channel es ≡ o → end_defined channel c es ≡ (elim o as (λ x. Option ChannelEnd) [ None ↦ None | Some e ↦ Some (Receives e) ])
defined_receiver channel None es o t e = absurd cc
defined_receiver channel (Some c) es o t e = kind_receiver channel c.kind es o (sends_is (is_sending_kind c.kind) false t) e

is_defined : (c : Option Channel) → defined_sends c ≡ Some true → is_sender c ≡ true
is_defined None t = absurd cc
is_defined (Some c) t = sends_is (is_sending_kind c.kind) true t

none_defined : (channel : List ℕ) (c : Option Channel) (es : List ChannelEnd) → None ≡ defined_sends c → end_defined channel c es ≡ None
none_defined channel None es e = refl
none_defined channel (Some c) es e = absurd cc

pub undefined_here : (channel : List ℕ) (n : Node) → None ≡ defined_sends (channel_of channel n.manager.definitions) → end_here channel n ≡ None
undefined_here channel n e = none_defined channel (channel_of channel n.manager.definitions) n.own.ends e

pub sender_here : (channel : List ℕ) (e : SenderEnd) (n : Node) → defined_sends (channel_of channel n.manager.definitions) ≡ Some true → Some e ≡ sender_named channel n.own.ends → SendsHere channel e n
sender_here channel e n d is =
    let name : channel ≡ e.channel = named_is channel n.own.ends e (sym is) in
    record {
      here = defined_sender channel (channel_of channel n.manager.definitions) n.own.ends (Some e) d (sym is);
      defined = subst (λ (c : List ℕ). is_sender (channel_of c n.manager.definitions) ≡ true) name (is_defined (channel_of channel n.manager.definitions) d);
      named = name;
    }

pub no_sender_here : (channel : List ℕ) (n : Node) → defined_sends (channel_of channel n.manager.definitions) ≡ Some true → None ≡ sender_named channel n.own.ends → end_here channel n ≡ None
no_sender_here channel n d is = defined_sender channel (channel_of channel n.manager.definitions) n.own.ends None d (sym is)

pub no_receiver_here : (channel : List ℕ) (n : Node) → defined_sends (channel_of channel n.manager.definitions) ≡ Some false → position (receives_for channel) n.own.ends ≡ None → end_here channel n ≡ None
no_receiver_here channel n d is = defined_receiver channel (channel_of channel n.manager.definitions) n.own.ends None d (receiver_none channel n.own.ends is)
