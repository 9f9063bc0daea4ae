-- Ends with keys of their own: one is found by its cable or its name, and no other.
use Rattle.std.proofs.Common.{ℕ, ◌≡◌, true, false, List, [], ◌∷◌, refl, ap, sym, ◌∙◌, inl, inr}
use Rattle.std.specs.Prelude.{Option, Some, None, ◌==◌, if◌then◌else◌}
use Rattle.std.specs.Str.{bytes_eq}
use Rattle.mq_base.specs.Members.{Mem}
use Rattle.mq_spec_node.specs.Node.{ChannelEnd, SenderEnd, ReceiverEnd, Node, as_sender, as_receiver, cable_of, end_in, receiver_end, receiver_named, sender_end, sender_named, set_end}
use Rattle.mq_spec_node.specs.Node.ChannelEnd.{Sends, Receives}
use Rattle.mq_spec_node.specs.Status.{channel_at}
use Rattle.mq_law_manager.proofs.Lists.{bool_case, is_false}
use Rattle.mq_law_manager.proofs.Named.{name_is, name_self}
use Rattle.mq_law_node.specs.Ends.{Where}
use Rattle.mq_law_node.specs.Beside.{KeyedNear}
use Rattle.mq_law_node.proofs.Named.{nat_yes, nat_self}
use Rattle.mq_law_keys.specs.Keys.{AreKeyed, IsKeyed, Key, key_of, KeyedFar, keys, sends_of, Tag, tag_of, tags}

pub true_false : true ≡ false → ⊥
true_false e = cc

pub mem_keys : (x : ChannelEnd) (es : List ChannelEnd) → Mem x es → Mem (key_of x) (keys es)
mem_keys x [] n = absurd n
mem_keys x (e ∷ es) (inl z) = inl (ap key_of z)
mem_keys x (e ∷ es) (inr n) = inr (mem_keys x es n)

pub end_mem : (k : ℕ) (es : List ChannelEnd) (x : ChannelEnd) → end_in k es ≡ Some x → Mem x es × (cable_of x ≡ k)
end_mem k [] x e = absurd cc
end_mem k (y ∷ es) x e = bool_case (cable_of y == k) (λ t. (cable_of y == k) ≡ t → (if t then Some y else end_in k es) ≡ Some x → Mem x (y ∷ es) × (cable_of x ≡ k))
    (λ z w f. let is : y ≡ x = cc in (inl (sym is), ap cable_of (sym is) ∙ nat_yes (cable_of y) k w)) (λ z w f. let r = end_mem k es x f in (inr r.0, r.1)) refl e

pub sender_mem : (name : List ℕ) (es : List ChannelEnd) (x : SenderEnd) → sender_named name es ≡ Some x → Mem (Sends x) es
sender_mem name [] x e = absurd cc
sender_mem name (Sends y ∷ es) x e = bool_case (bytes_eq name y.channel) (λ t. (if t then Some y else sender_named name es) ≡ Some x → Mem (Sends x) (Sends y ∷ es))
    (λ z f. let is : y ≡ x = cc in inl (ap (λ (w : SenderEnd). Sends w) (sym is))) (λ z f. inr (sender_mem name es x f)) e
sender_mem name (Receives y ∷ es) x e = inr (sender_mem name es x e)

pub receiver_mem : (name : List ℕ) (es : List ChannelEnd) (x : ReceiverEnd) → receiver_named name es ≡ Some x → Mem (Receives x) es
receiver_mem name [] x e = absurd cc
receiver_mem name (Receives y ∷ es) x e = bool_case (bytes_eq name y.channel) (λ t. (if t then Some y else receiver_named name es) ≡ Some x → Mem (Receives x) (Receives y ∷ es))
    (λ z f. let is : y ≡ x = cc in inl (ap (λ (w : ReceiverEnd). Receives w) (sym is))) (λ z f. inr (receiver_mem name es x f)) e
receiver_mem name (Sends y ∷ es) x e = inr (receiver_mem name es x e)

as_sender_is : (o : Option ChannelEnd) (x : SenderEnd) → as_sender o ≡ Some x → o ≡ Some (Sends x)
as_sender_is None x e = absurd cc
as_sender_is (Some (Sends y)) x e = let is : y ≡ x = cc in ap (λ (w : SenderEnd). Some (Sends w)) is
as_sender_is (Some (Receives y)) x e = absurd cc

as_receiver_is : (o : Option ChannelEnd) (x : ReceiverEnd) → as_receiver o ≡ Some x → o ≡ Some (Receives x)
as_receiver_is None x e = absurd cc
as_receiver_is (Some (Receives y)) x e = let is : y ≡ x = cc in ap (λ (w : ReceiverEnd). Some (Receives w)) is
as_receiver_is (Some (Sends y)) x e = absurd cc

pub sender_end_mem : (k : ℕ) (n : Node) (x : SenderEnd) → sender_end k n.own ≡ Some x → Mem (Sends x) n.own.ends × (x.cable ≡ k)
sender_end_mem k n x e = end_mem k n.own.ends (Sends x) (as_sender_is (end_in k n.own.ends) x e)

pub receiver_end_mem : (k : ℕ) (n : Node) (x : ReceiverEnd) → receiver_end k n.own ≡ Some x → Mem (Receives x) n.own.ends × (x.cable ≡ k)
receiver_end_mem k n x e = end_mem k n.own.ends (Receives x) (as_receiver_is (end_in k n.own.ends) x e)

-- One of a cable, one of a channel

pub one_cable : (es : List ChannelEnd) (a b : ChannelEnd) → AreKeyed (keys es) → Mem a es → Mem b es → cable_of a ≡ cable_of b → a ≡ b
one_cable [] a b h m n e = absurd m
one_cable (x ∷ es) a b h (inl i) (inl j) e = i ∙ sym j
one_cable (x ∷ es) a b h (inl i) (inr n) e = absurd (true_false (sym (nat_self (cable_of b)) ∙ ap (λ k. k == cable_of b) (sym e ∙ ap cable_of i) ∙ (h.0 (key_of b) (mem_keys b es n)).0))
one_cable (x ∷ es) a b h (inr m) (inl j) e = absurd (true_false (sym (nat_self (cable_of a)) ∙ ap (λ k. k == cable_of a) (e ∙ ap cable_of j) ∙ (h.0 (key_of a) (mem_keys a es m)).0))
one_cable (x ∷ es) a b h (inr m) (inr n) e = one_cable es a b h.1 m n e

pub one_channel : (es : List ChannelEnd) (a b : ChannelEnd) → AreKeyed (keys es) → Mem a es → Mem b es → channel_at a ≡ channel_at b → a ≡ b
one_channel [] a b h m n e = absurd m
one_channel (x ∷ es) a b h (inl i) (inl j) e = i ∙ sym j
one_channel (x ∷ es) a b h (inl i) (inr n) e = absurd (true_false (sym (name_self (channel_at b)) ∙ ap (λ k. bytes_eq k (channel_at b)) (sym e ∙ ap channel_at i) ∙ (h.0 (key_of b) (mem_keys b es n)).1))
one_channel (x ∷ es) a b h (inr m) (inl j) e = absurd (true_false (sym (name_self (channel_at a)) ∙ ap (λ k. bytes_eq k (channel_at a)) (e ∙ ap channel_at j) ∙ (h.0 (key_of a) (mem_keys a es m)).1))
one_channel (x ∷ es) a b h (inr m) (inr n) e = one_channel es a b h.1 m n e

-- an end takes the place of the one that has its tag
pub set_tags : (new old : ChannelEnd) (es : List ChannelEnd) → AreKeyed (keys es) → Mem old es → key_of new ≡ key_of old → sends_of new ≡ sends_of old → tags (set_end new es) ≡ tags es
set_tags new old [] h n c d = refl
set_tags new old (x ∷ es) h (inl e) c d =
    ap (λ t. tags (if t then new ∷ es else x ∷ set_end new es)) (ap (λ k. cable_of x == k) (ap (λ (k : Key). k.cable) c ∙ ap cable_of e) ∙ nat_self (cable_of x))
    ∙ (λ i. record { key = (c ∙ ap key_of e) i; sends = (d ∙ ap sends_of e) i } ∷ tags es)
set_tags new old (x ∷ es) h (inr n) c d =
    ap (λ t. tags (if t then new ∷ es else x ∷ set_end new es)) (ap (λ k. cable_of x == k) (ap (λ (k : Key). k.cable) c) ∙ (h.0 (key_of old) (mem_keys old es n)).0)
    ∙ ap (λ (ts : List Tag). tag_of x ∷ ts) (set_tags new old es h.1 n c d)

-- What is asked of the ends of a node for one of its senders' ends

pub other_kind : (a : SenderEnd) (b : ReceiverEnd) → Sends a ≡ Receives b → ⊥
other_kind a b e = cc

pub same_sender : (a b : SenderEnd) → Sends a ≡ Sends b → a ≡ b
same_sender a b e = cc

pub told_apart : (w : Where) (n : Node) (e : SenderEnd) → IsKeyed n → end_in w.cable n.own.ends ≡ Some (Sends e) → e.channel ≡ w.channel → KeyedNear w n
told_apart w n e h is name = record {
  turns = λ k x found apart. let r = sender_end_mem k n x found in let other : (x.cable == w.cable) ≡ false = ap (λ z. z == w.cable) r.1 ∙ apart in (other, far x r.0 other);
  takings = λ k x found. let r = receiver_end_mem k n x found in takes x r.0;
  named = λ key x found same. let r = sender_mem key n.own.ends x found in is ∙ ap (λ (z : ChannelEnd). Some z) (one_cable n.own.ends (Sends e) (Sends x) h here.0 r (here.1 ∙ sym (nat_yes x.cable w.cable same)));
  others = λ key x found apart. far x (sender_mem key n.own.ends x found) apart;
  receivers = λ key x found. takes x (receiver_mem key n.own.ends x found);
}
  where
    here : Mem (Sends e) n.own.ends × (e.cable ≡ w.cable)
    here = end_mem w.cable n.own.ends (Sends e) is

    far : (x : SenderEnd) → Mem (Sends x) n.own.ends → (x.cable == w.cable) ≡ false → bytes_eq w.channel x.channel ≡ false
    far x m apart = is_false (bytes_eq w.channel x.channel) (λ t.
        let same : e ≡ x = same_sender e x (one_channel n.own.ends (Sends e) (Sends x) h here.0 m (name ∙ name_is w.channel x.channel t)) in
        true_false (sym (nat_self w.cable) ∙ ap (λ z. z == w.cable) (sym here.1 ∙ ap (λ (z : SenderEnd). z.cable) same) ∙ apart))

    takes : (x : ReceiverEnd) → Mem (Receives x) n.own.ends → (x.cable == w.cable) ≡ false
    takes x m = is_false (x.cable == w.cable) (λ t. other_kind e x (one_cable n.own.ends (Sends e) (Receives x) h here.0 m (here.1 ∙ sym (nat_yes x.cable w.cable t))))

-- and for one of its receivers' ends

same_receiver : (a b : ReceiverEnd) → Receives a ≡ Receives b → a ≡ b
same_receiver a b e = cc

pub far_told_apart : (w : Where) (n : Node) (e : ReceiverEnd) → IsKeyed n → end_in w.cable n.own.ends ≡ Some (Receives e) → e.channel ≡ w.channel → KeyedFar w n
far_told_apart w n e h is name = record {
  turns = λ k x found. let r = sender_end_mem k n x found in sends x r.0;
  takings = λ k x found apart. let r = receiver_end_mem k n x found in let other : (x.cable == w.cable) ≡ false = ap (λ z. z == w.cable) r.1 ∙ apart in (other, far x r.0 other);
  named = λ key x found same. let r = receiver_mem key n.own.ends x found in is ∙ ap (λ (z : ChannelEnd). Some z) (one_cable n.own.ends (Receives e) (Receives x) h here.0 r (here.1 ∙ sym (nat_yes x.cable w.cable same)));
  others = λ key x found apart. far x (receiver_mem key n.own.ends x found) apart;
  senders = λ key x found. sends x (sender_mem key n.own.ends x found);
}
  where
    here : Mem (Receives e) n.own.ends × (e.cable ≡ w.cable)
    here = end_mem w.cable n.own.ends (Receives e) is

    far : (x : ReceiverEnd) → Mem (Receives x) n.own.ends → (x.cable == w.cable) ≡ false → bytes_eq w.channel x.channel ≡ false
    far x m apart = is_false (bytes_eq w.channel x.channel) (λ t.
        let same : e ≡ x = same_receiver e x (one_channel n.own.ends (Receives e) (Receives x) h here.0 m (name ∙ name_is w.channel x.channel t)) in
        true_false (sym (nat_self w.cable) ∙ ap (λ z. z == w.cable) (sym here.1 ∙ ap (λ (z : ReceiverEnd). z.cable) same) ∙ apart))

    sends : (x : SenderEnd) → Mem (Sends x) n.own.ends → (x.cable == w.cable) ≡ false
    sends x m = is_false (x.cable == w.cable) (λ t. other_kind x e (one_cable n.own.ends (Sends x) (Receives e) h m here.0 (nat_yes x.cable w.cable t ∙ sym here.1)))
