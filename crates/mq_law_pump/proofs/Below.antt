-- Turns and timeouts leave a sender's session the highest on its lane; and no turn stops a receiver.
use Rattle.std.proofs.Common.{◌≡◌, ◌≤◌, ◌+◌, ℕ, Bool, true, false, List, [], ◌∷◌, ◌++◌, refl, sym, subst, arith}
use Rattle.std.specs.Prelude.{Option, None, Some, if◌then◌else◌, nat_lt}
use Rattle.mq_frame.specs.declared.frame.Frame.{Frame}
use Rattle.mq_frame.specs.declared.frame.FrameKind.{FrameKind}
use Rattle.mq_frame.specs.declared.frame.FrameKind.TheVariants as kinds
use Rattle.mq_frame.specs.declared.frame.Seen.{Seen}
use Rattle.mq_frame.specs.declared.frame.Seen.TheVariants as items
use Rattle.mq_message.specs.declared.message.Dest.{Dest}
use Rattle.mq_message.specs.declared.message.Message.{Message}
use Rattle.mq_sync.specs.declared.data.Stock.{Stock}
use Rattle.mq_sync.specs.declared.unit.Settle.{Settle}
use Rattle.mq_sync.specs.declared.unit.Settle.TheVariants as settles
use Rattle.mq_receiver.specs.After.{kept_kind, receiver_after}
use Rattle.mq_receiver.specs.Table.{is_new_bind, kind_is_bind, receiver_lines, receiver_next}
use Rattle.mq_receiver.specs.declared.state.Receiver.{Receiver}
use Rattle.mq_receiver.specs.declared.turns.ReceiverDoes.{ReceiverDoes}
use Rattle.mq_receiver.specs.declared.turns.ReceiverDoes.TheVariants as takes
use Rattle.mq_receiver.specs.declared.turns.ReceiverOut.{ReceiverOut}
use Rattle.mq_receiver.specs.declared.turns.ReceiverOut.TheVariants as ends
use Rattle.mq_sender.specs.After.{sender_after, settled}
use Rattle.mq_sender.specs.Frames.{pushed_by}
use Rattle.mq_sender.specs.States.{awaits, timed_out}
use Rattle.mq_sender.specs.Table.{sender_lines, sender_next}
use Rattle.mq_sender.specs.declared.state.Kept.{Kept}
use Rattle.mq_sender.specs.declared.state.Sender.{Sender}
use Rattle.mq_sender.specs.declared.state.SenderState.TheVariants as states
use Rattle.mq_sender.specs.declared.state.StopCause.TheVariants as causes
use Rattle.mq_sender.specs.declared.turns.SenderDoes.{SenderDoes}
use Rattle.mq_sender.specs.declared.turns.SenderDoes.TheVariants as sends
use Rattle.mq_sender.specs.declared.turns.SenderOut.{SenderOut}
use Rattle.mq_sender.specs.declared.turns.SenderOut.TheVariants as outs
use Rattle.mq_law_channel.proofs.Told.{and_both, by_lines}
use Rattle.mq_law_idle.specs.Roads.{ReceiverTurn, Road, SenderTurn, behind, laid, receiver_does, receiver_turn, receiver_turned, sender_does, sender_timed_out, sender_turn, sender_turned, taken_by, waiting}
use Rattle.mq_law_pump.specs.Below.{BindsUpto, IsBelow}

-- NUMBERS
same_least : (a : ℕ) → a ≤ a
same_least a = omega arith

one_up : (a : ℕ) → a ≤ a + 1
one_up a = omega arith

up_to : (a b c : ℕ) → a ≤ b → b ≤ c → a ≤ c
up_to a b c g h = omega (arith, g, h)

-- A SENDER'S TURN
abbrev Rises : Sender → SenderDoes → Type 0
Rises s (sends.HardenSession session) = s.kept.session ≤ session
Rises s _ = Unit {0}

rises : (m : Sender) (seen : Seen) (st : Stock) → Rises m (sender_next m seen st)
rises m seen st = by_lines (Rises m) sends.Still (sender_lines m seen st) (
  (λ e. tt),
  λ x1. (
    (λ e. tt),
    λ x2. (
      (λ e. tt),
      λ x3. (
        (λ e. tt),
        λ x4. (
          (λ e. one_up m.kept.session),
          λ x5. ((λ e. tt), λ x6. ((λ e. tt), λ x7. ((λ e. tt), λ x8. ((λ e. tt), λ x9. ((λ e. tt), λ x10. ((λ e. tt), λ x11. tt)))))),
        ),
      ),
    ),
  ),
)

settled_session : (o : Option Settle) (k : Kept) → k.session ≤ (settled o k).session
settled_session None k = same_least k.session
settled_session (Some settles.Commit) k = same_least k.session
settled_session (Some settles.Backout) k = same_least k.session

done_session : (s : Sender) (d : SenderDoes) → Rises s d → s.kept.session ≤ (sender_after s d outs.Done).kept.session
done_session s sends.Still h = same_least s.kept.session
done_session s sends.Ignore h = same_least s.kept.session
done_session s (sends.HardenSession session) h = h
done_session s sends.PushBind h = same_least s.kept.session
done_session s sends.Expire h = same_least s.kept.session
done_session s (sends.Begin n count) h = same_least s.kept.session
done_session s (sends.PushMsg index) h = same_least s.kept.session
done_session s sends.Prepare h = same_least s.kept.session
done_session s sends.PushEnd h = same_least s.kept.session
done_session s (sends.Bound settle partner) h = settled_session settle s.kept
done_session s sends.Commit h = same_least s.kept.session
done_session s (sends.Backout reason) h = same_least s.kept.session

abbrev FrameUpto : ℕ → Option Frame → Type 0
FrameUpto session None = Unit {0}
FrameUpto session (Some f) = f.session ≤ session

pushed_upto : (stamp : ℕ) (dest : Dest) (message : Message) (s : Sender) (d : SenderDoes) (b : ℕ) → s.kept.session ≤ b → FrameUpto b (pushed_by stamp dest message s d)
pushed_upto stamp dest message s sends.Still b h = tt
pushed_upto stamp dest message s sends.Ignore b h = tt
pushed_upto stamp dest message s (sends.HardenSession session) b h = tt
pushed_upto stamp dest message s sends.PushBind b h = h
pushed_upto stamp dest message s sends.Expire b h = tt
pushed_upto stamp dest message s (sends.Begin n count) b h = h
pushed_upto stamp dest message s (sends.PushMsg index) b h = h
pushed_upto stamp dest message s sends.Prepare b h = tt
pushed_upto stamp dest message s sends.PushEnd b h = h
pushed_upto stamp dest message s (sends.Bound settle partner) b h = tt
pushed_upto stamp dest message s sends.Commit b h = tt
pushed_upto stamp dest message s (sends.Backout reason) b h = tt

binds_more : (a b : ℕ) (xs : List Seen) → a ≤ b → BindsUpto a xs → BindsUpto b xs
binds_more a b [] g h = tt
binds_more a b (items.Frame f ∷ xs) g h = (λ z. up_to f.session a b (h.0 z) g, binds_more a b xs g h.1)
binds_more a b (items.Nothing ∷ xs) g h = binds_more a b xs g h
binds_more a b (items.Spoiled ∷ xs) g h = binds_more a b xs g h

binds_last : (b : ℕ) (f : Frame) (xs : List Seen) → f.session ≤ b → BindsUpto b xs → BindsUpto b (xs ++ items.Frame f ∷ [])
binds_last b f [] g h = (λ z. g, tt)
binds_last b f (items.Frame x ∷ xs) g h = (h.0, binds_last b f xs g h.1)
binds_last b f (items.Nothing ∷ xs) g h = binds_last b f xs g h
binds_last b f (items.Spoiled ∷ xs) g h = binds_last b f xs g h

binds_laid : (b : ℕ) (o : Option Frame) (xs : List Seen) → FrameUpto b o → BindsUpto b xs → BindsUpto b (laid o xs)
binds_laid b None xs g h = h
binds_laid b (Some f) xs g h = binds_last b f xs g h

sent_below : (o : SenderOut) (d : SenderDoes) (t : SenderTurn) (w : Road) → Rises w.sender d → IsBelow w → IsBelow (sender_turned o d t w)
sent_below outs.Done d t w r h =
    let more : w.sender.kept.session ≤ (sender_after w.sender d outs.Done).kept.session = done_session w.sender d r in
    record {
      known = up_to w.receiver.session w.sender.kept.session (sender_after w.sender d outs.Done).kept.session h.known more;
      binds = binds_laid (sender_after w.sender d outs.Done).kept.session (pushed_by t.stamp t.dest t.message w.sender d) w.out (pushed_upto t.stamp t.dest t.message w.sender d (sender_after w.sender d outs.Done).kept.session more)
          (binds_more w.sender.kept.session (sender_after w.sender d outs.Done).kept.session w.out more h.binds);
    }
sent_below outs.Full d t w r h = h
sent_below outs.NoRoom d t w r h = record { known = h.known; binds = h.binds }

pub sends_below : (t : SenderTurn) (w : Road) → IsBelow w → IsBelow (sender_turn t w)
sends_below t w h = sent_below t.outcome (sender_does t w) t w (rises w.sender (waiting w.back) t.stock) h

-- A TIMEOUT
timed_kept : (a b : Bool) (s : Sender) → (if a then (if b then record s { state = states.Starting; tries = s.tries + 1 } else record s { state = states.Stopped causes.NoAnswer }) else s).kept ≡ s.kept
timed_kept true true s = refl
timed_kept true false s = refl
timed_kept false b s = refl

pub timed_below : (w : Road) → IsBelow w → IsBelow (sender_timed_out w)
timed_below w h =
    let same : (timed_out w.sender).kept ≡ w.sender.kept = timed_kept (awaits w.sender.state) (nat_lt w.sender.tries w.sender.limits.short_retry) w.sender in
    record {
      known = subst (λ (k : Kept). w.receiver.session ≤ k.session) (sym same) h.known;
      binds = subst (λ (k : Kept). BindsUpto k.session w.out) (sym same) h.binds;
    }

-- A RECEIVER'S TURN
abbrev BindsNew : Receiver → Seen → ReceiverDoes → Type 0
BindsNew r seen takes.Bind = is_new_bind r seen ≡ true
BindsNew r seen _ = Unit {0}

binds_new : (m : Receiver) (seen : Seen) (defined : Bool) → BindsNew m seen (receiver_next m seen defined)
binds_new m seen defined = by_lines (BindsNew m seen) takes.Still (receiver_lines m seen defined) (
  (λ e. tt),
  λ e0. ((λ e. (and_both _ _ (and_both _ _ e).0).0), λ e1. ((λ e. tt), λ e2. ((λ e. tt), λ e3. ((λ e. tt), λ e4. ((λ e. tt), λ e5. ((λ e. tt), λ e6. tt)))))),
)

abbrev SeenUpto : ℕ → Seen → Type 0
SeenUpto session (items.Frame f) = kind_is_bind f.kind ≡ true → f.session ≤ session
SeenUpto session _ = Unit {0}

waiting_upto : (b : ℕ) (xs : List Seen) → BindsUpto b xs → SeenUpto b (waiting xs)
waiting_upto b [] h = tt
waiting_upto b (items.Frame f ∷ xs) h = h.0
waiting_upto b (items.Nothing ∷ xs) h = tt
waiting_upto b (items.Spoiled ∷ xs) h = tt

kind_session : (k : FrameKind) (r : Receiver) → (kept_kind k r).session ≤ r.session
kind_session (kinds.Bind last force) r = same_least r.session
kind_session (kinds.Status unit_session unit_n last) r = same_least r.session
kind_session (kinds.Msg unit index number dest message) r = same_least r.session
kind_session (kinds.End unit count last) r = same_least r.session
kind_session (kinds.Ack unit) r = same_least r.session
kind_session (kinds.Err unit reason) r = same_least r.session

bound_upto : (r : Receiver) (seen : Seen) (b : ℕ) → is_new_bind r seen ≡ true → SeenUpto b seen → (receiver_after r takes.Bind seen ends.Done).session ≤ b
bound_upto r (items.Frame f) b new h = h (and_both _ _ new).0
bound_upto r items.Nothing b new h = absurd cc
bound_upto r items.Spoiled b new h = absurd cc

keep_upto : (r : Receiver) (seen : Seen) → (receiver_after r takes.Keep seen ends.Done).session ≤ r.session
keep_upto r (items.Frame f) = kind_session f.kind r
keep_upto r items.Nothing = same_least r.session
keep_upto r items.Spoiled = same_least r.session

taken_session : (r : Receiver) (d : ReceiverDoes) (seen : Seen) (b : ℕ) → BindsNew r seen d → SeenUpto b seen → r.session ≤ b → (receiver_after r d seen ends.Done).session ≤ b
taken_session r takes.Still seen b new s h = h
taken_session r takes.Ignore seen b new s h = h
taken_session r takes.PushOwed seen b new s h = h
taken_session r takes.Bind seen b new s h = bound_upto r seen b new s
taken_session r takes.Keep seen b new s h = up_to (receiver_after r takes.Keep seen ends.Done).session r.session b (keep_upto r seen) h
taken_session r (takes.Place unit) seen b new s h = h
taken_session r takes.Again seen b new s h = h
taken_session r takes.Close seen b new s h = h

refused_session : (r : Receiver) (d : ReceiverDoes) (seen : Seen) (reason b : ℕ) → r.session ≤ b → (receiver_after r d seen (ends.Refused reason)).session ≤ b
refused_session r takes.Still seen reason b h = h
refused_session r takes.Ignore seen reason b h = h
refused_session r takes.PushOwed seen reason b h = h
refused_session r takes.Bind seen reason b h = h
refused_session r takes.Keep seen reason b h = h
refused_session r (takes.Place unit) seen reason b h = h
refused_session r takes.Again seen reason b h = h
refused_session r takes.Close seen reason b h = h

binds_behind : (b : ℕ) (xs : List Seen) → BindsUpto b xs → BindsUpto b (behind xs)
binds_behind b [] h = tt
binds_behind b (items.Frame f ∷ xs) h = h.1
binds_behind b (items.Nothing ∷ xs) h = h
binds_behind b (items.Spoiled ∷ xs) h = h

binds_taken : (b : ℕ) (d : ReceiverDoes) (xs : List Seen) → BindsUpto b xs → BindsUpto b (taken_by d xs)
binds_taken b takes.Still xs h = h
binds_taken b takes.PushOwed xs h = h
binds_taken b takes.Ignore xs h = binds_behind b xs h
binds_taken b takes.Bind xs h = binds_behind b xs h
binds_taken b takes.Keep xs h = binds_behind b xs h
binds_taken b (takes.Place unit) xs h = binds_behind b xs h
binds_taken b takes.Again xs h = binds_behind b xs h
binds_taken b takes.Close xs h = binds_behind b xs h

taken_below : (o : ReceiverOut) (d : ReceiverDoes) (t : ReceiverTurn) (w : Road) → BindsNew w.receiver (waiting w.out) d → IsBelow w → IsBelow (receiver_turned o d t w)
taken_below ends.Done d t w new h = record {
  known = taken_session w.receiver d (waiting w.out) w.sender.kept.session new (waiting_upto w.sender.kept.session w.out h.binds) h.known;
  binds = binds_taken w.sender.kept.session d w.out h.binds;
}
taken_below ends.Full d t w new h = h
taken_below (ends.Refused reason) d t w new h = record {
  known = refused_session w.receiver d (waiting w.out) reason w.sender.kept.session h.known;
  binds = binds_taken w.sender.kept.session d w.out h.binds;
}

pub takes_below : (t : ReceiverTurn) (w : Road) → IsBelow w → IsBelow (receiver_turn t w)
takes_below t w h = taken_below t.outcome (receiver_does t w) t w (binds_new w.receiver (waiting w.out) t.defined) h
