-- What each step of a sender's end leaves of its session and of what it offers; so no unit of an earlier run's log is committed by its receiver.
use Rattle.std.proofs.Common.{ℕ, ◌≡◌, ◌<◌, ◌≤◌, ◌⊎◌, true, false, List, refl, ap, sym, subst, ◌∙◌, inl, inr, arith}
use Rattle.std.specs.Prelude.{Option, Some, None, ◌+◌, nat_lt, if◌then◌else◌, slice_get}
use Rattle.mq_frame.specs.declared.frame.Frame.{Frame}
use Rattle.mq_frame.specs.declared.frame.FrameKind.{FrameKind}
use Rattle.mq_frame.specs.declared.frame.FrameKind.TheVariants.{Bind, Status, Msg, End, Ack, Err}
use Rattle.mq_sync.specs.declared.unit.Unit.{Unit as Luw}
use Rattle.mq_sync.specs.declared.unit.Settle.TheVariants as settles
use Rattle.mq_sync.specs.declared.data.SenderData.{SenderData}
use Rattle.mq_sender.specs.declared.state.Sender.{Sender}
use Rattle.mq_sender.specs.declared.state.SenderState.{SenderState}
use Rattle.mq_sender.specs.declared.state.SenderState.TheVariants.{Inactive, Sending, Starting, Stopped}
use Rattle.mq_sender.specs.declared.state.StopCause.TheVariants.{NoAnswer}
use Rattle.mq_sender.specs.declared.turns.SenderDoes.{SenderDoes}
use Rattle.mq_sender.specs.declared.turns.SenderDoes.TheVariants as does
use Rattle.mq_sender.specs.declared.turns.SenderOut.{SenderOut}
use Rattle.mq_sender.specs.declared.turns.SenderOut.TheVariants as outs
use Rattle.mq_sender.specs.States as senders
use Rattle.mq_sender.specs.Table.{is_sending, messages_sent}
use Rattle.mq_receiver.specs.declared.turns.ReceiverDoes.TheVariants as takes
use Rattle.mq_spec_network.specs.Story.{Mem}
use Rattle.mq_law_channel.specs.Channel.{Channel, Facts, Past, tale, tale_of}
use Rattle.mq_law_channel.specs.Facts.{Ends, Letter, Tale}
use Rattle.mq_law_channel.specs.Turns.{ReceiverMay, ReceiverTurn, SenderTurn, letter_offered, receiver_does, sender_done, sender_does, sender_timed_out, sender_turned}
use Rattle.mq_law_channel.proofs.Receiving.{EndTale}
use Rattle.mq_law_channel.proofs.Sending.{binding_is, hailing_is, idle_is, kept_session, ready_is, settled_session, starting_is, waiting_is}
use Rattle.mq_law_channel.proofs.Taken.{place_told}
use Rattle.mq_law_node.specs.Ends.{Guard}
use Rattle.mq_law_node.specs.Moves.{NearStep, near_does}
use Rattle.mq_law_node.proofs.SenderTurns.{guarded}
use Rattle.mq_law_rows.proofs.Lists.{bool_case, map_mem}
use Rattle.mq_law_run.specs.Run.{IsAnew, IsLater, is_hailed}

le_same : (a b : ℕ) → a ≡ b → a ≤ b
le_same a b e = omega arith

-- WHAT STAYS
pub later_same : (x z : Channel) → z.sends ≡ x.sends → z.sender ≡ x.sender → z.out ≡ x.out → IsLater x z
later_same x z sends sender out = record {
  session = le_same x.sends.session z.sends.session (sym (ap (λ (d : SenderData). d.session) sends));
  hailed = λ e. inl ((λ i. is_hailed (sym sender i).state) ∙ e);
  out = λ f n. inl (subst (λ (fs : List Frame). Mem f fs) out n);
}

pub later_self : (x : Channel) → IsLater x x
later_self x = later_same x x refl refl refl

-- an end that is at rest
pub later_rest : (x z : Channel) → x.sends.session ≤ z.sends.session → is_hailed z.sender.state ≡ false → z.out ≡ x.out → IsLater x z
later_rest x z rises off out = record { session = rises; hailed = λ e. absurd (cc (e, off)); out = λ f n. inl (subst (λ (fs : List Frame). Mem f fs) out n) }

-- and one of which the step is done first
pub later_rests : (m : Sender) (x z : Channel) → is_hailed m.state ≡ false → IsLater x z → IsLater x (record z { sender = m })
later_rests m x z off k = record { session = k.session; hailed = λ e. absurd (cc (e, off)); out = k.out }

pub anew_on : (u : Luw) (x z : Channel) → IsLater x z → IsAnew u x → IsAnew u z
anew_on u x z k h = record {
  session = (let a = h.session in let b = k.session in omega (arith, a, b));
  hailed = λ e. elim (k.hailed e) [
    | inl o ↦ (let a = h.hailed o in let b = k.session in omega (arith, a, b))
    | inr l ↦ (let a = h.session in omega (arith, a, l))
  ];
  out = λ f n. elim (k.out f n) [ inl o ↦ h.out f o | inr o ↦ subst (λ (s : ℕ). u.session < s) (sym o.1) (h.hailed o.0) ];
}

-- STEPS OF A SENDER'S END
sending_hailed : (st : SenderState) → is_sending st ≡ true → is_hailed st ≡ true
sending_hailed (Sending sent number) e = refl
sending_hailed st e = absurd cc

hailed_running : (st : SenderState) → is_hailed st ≡ true → senders.is_running st ≡ true
hailed_running Inactive e = absurd cc
hailed_running (Stopped cause) e = absurd cc
hailed_running Starting e = absurd cc
hailed_running st e = refl

letter_later : (stamp : ℕ) (m : Sender) (n index : ℕ) (o : Option Letter) (out : List Frame) (f : Frame) → Mem f (letter_offered stamp m n index o out) → Mem f out ⊎ (f.session ≡ m.kept.session)
letter_later stamp m n index None out f k = inl k
letter_later stamp m n index (Some l) out f (inl e) = inr (ap (λ (x : Frame). x.session) e)
letter_later stamp m n index (Some l) out f (inr k) = inl k

kept_is : (c : Channel) (y : Past) → Facts c y → senders.is_running c.sender.state ≡ true → c.sender.kept.session ≡ c.sends.session
kept_is c y h e = sym (kept_session c y h.tied e) ∙ h.tied.session

-- offered in the session that is hardened
offered_later : (c : Channel) (y : Past) → Facts c y → is_hailed c.sender.state ≡ true → (f : Frame) → f.session ≡ c.sender.kept.session → (is_hailed c.sender.state ≡ true) × (f.session ≡ c.sends.session)
offered_later c y h e f s = (e, s ∙ kept_is c y h (hailed_running c.sender.state e))

abbrev DoneLater : SenderTurn → Channel → SenderDoes → Type 0
DoneLater t c d = IsLater c (sender_done d t c)

-- a session that stays, at an end that is hailed
stays_later : (c z : Channel) → z.sends.session ≡ c.sends.session → is_hailed c.sender.state ≡ true → ((f : Frame) → Mem f z.out → Mem f c.out ⊎ ((is_hailed c.sender.state ≡ true) × (f.session ≡ c.sends.session))) → IsLater c z
stays_later c z s e out = record { session = le_same c.sends.session z.sends.session (sym s); hailed = λ o. inl e; out = out }

done_later : (t : SenderTurn) (c : Channel) (y : Past) (d : SenderDoes) → Facts c y → Guard c.sender t.stock d → DoneLater t c d
done_later t c y does.Still h g = later_same c (sender_done does.Still t c) refl refl refl
done_later t c y does.Ignore h g = later_same c (sender_done does.Ignore t c) refl refl refl
done_later t c y does.Expire h g = later_same c (sender_done does.Expire t c) refl refl refl
done_later t c y (does.HardenSession session) h g =
    let now : session ≡ c.sends.session + 1 = g.1 ∙ ap (λ n. n + 1) (kept_is c y h (ap senders.is_running (starting_is c.sender.state g.0))) in
    record { session = (omega (arith, now)); hailed = λ e. inr (omega (arith, now)); out = λ f n. inl n }
done_later t c y does.PushBind h g =
    let on : is_hailed c.sender.state ≡ true = ap is_hailed (hailing_is c.sender.state g) in
    stays_later c (sender_done does.PushBind t c) refl on (λ f n. elim n [ inl e ↦ inr (offered_later c y h on f (ap (λ (x : Frame). x.session) e)) | inr o ↦ inl o ])
done_later t c y (does.Begin k count) h g =
    let on : is_hailed c.sender.state ≡ true = ap is_hailed (idle_is c.sender.state g.0) in
    stays_later c (sender_done (does.Begin k count) t c) refl on (λ f n. elim (letter_later t.stamp c.sender k 1 (slice_get t.letters 0) c.out f n) [ inl o ↦ inl o | inr e ↦ inr (offered_later c y h on f e) ])
done_later t c y (does.PushMsg index) h g =
    let on : is_hailed c.sender.state ≡ true = sending_hailed c.sender.state g.0 in
    stays_later c (sender_done (does.PushMsg index) t c) refl on (λ f n. elim (letter_later t.stamp c.sender c.sender.begun index (slice_get c.batch (messages_sent c.sender.state)) c.out f n) [ inl o ↦ inl o | inr e ↦ inr (offered_later c y h on f e) ])
done_later t c y does.Prepare h g = stays_later c (sender_done does.Prepare t c) refl (sending_hailed c.sender.state g) (λ f n. inl n)
done_later t c y does.PushEnd h g =
    let on : is_hailed c.sender.state ≡ true = ap is_hailed (ready_is c.sender.state g) in
    stays_later c (sender_done does.PushEnd t c) refl on (λ f n. elim n [ inl e ↦ inr (offered_later c y h on f (ap (λ (x : Frame). x.session) e)) | inr o ↦ inl o ])
done_later t c y (does.Bound settle partner) h g = stays_later c (sender_done (does.Bound settle partner) t c) (settled_session settle c.sends) (ap is_hailed (binding_is c.sender.state g)) (λ f n. inl n)
done_later t c y does.Commit h g = stays_later c (sender_done does.Commit t c) refl (ap is_hailed (waiting_is c.sender.state g)) (λ f n. inl n)
done_later t c y (does.Backout reason) h g = stays_later c (sender_done (does.Backout reason) t c) refl (ap is_hailed (waiting_is c.sender.state g)) (λ f n. inl n)

turned_later : (o : SenderOut) (t : SenderTurn) (c : Channel) (y : Past) → Facts c y → IsLater c (sender_turned o (sender_does t c) t c)
turned_later outs.Done t c y h = done_later t c y (sender_does t c) h (guarded c.sender t.seen t.stock)
turned_later outs.Full t c y h = later_self c
turned_later outs.NoRoom t c y h = later_rest c (sender_turned outs.NoRoom (sender_does t c) t c) (le_same c.sends.session c.sends.session refl) refl refl

timed_later : (c : Channel) → IsLater c (sender_timed_out c)
timed_later c = bool_case (senders.awaits c.sender.state) (λ b. IsLater c (record c { sender = if b then senders.tried_again c.sender else c.sender }))
    (λ e. bool_case (nat_lt c.sender.tries c.sender.limits.short_retry)
    (λ b. IsLater c (record c { sender = if b then record c.sender { state = Starting; tries = c.sender.tries + 1 } else record c.sender { state = Stopped NoAnswer } }))
    (λ f. later_rest c (record c { sender = record c.sender { state = Starting; tries = c.sender.tries + 1 } }) (le_same c.sends.session c.sends.session refl) refl refl)
    (λ f. later_rest c (record c { sender = record c.sender { state = Stopped NoAnswer } }) (le_same c.sends.session c.sends.session refl) refl refl))
    (λ e. later_self c)

pub near_later : (way : NearStep) (c : Channel) (y : Past) → Facts c y → IsLater c (near_does way c)
near_later NearStep.Rest c y h = later_self c
near_later (NearStep.Turn t) c y h = turned_later t.outcome t c y h
near_later NearStep.TimeOut c y h = timed_later c
near_later (NearStep.Start limits) c y h = later_rest c (near_does (NearStep.Start limits) c) (le_same c.sends.session c.sends.session refl) refl refl
near_later NearStep.Stop c y h = later_rest c (near_does NearStep.Stop c) (le_same c.sends.session c.sends.session refl) refl refl
near_later (NearStep.Number last) c y h = record { session = le_same c.sends.session c.sends.session refl; hailed = λ e. inl e; out = λ f n. inl n }
near_later (NearStep.Resolve settles.Commit d) c y h = record { session = le_same c.sends.session c.sends.session refl; hailed = λ e. inl e; out = λ f n. inl n }
near_later (NearStep.Resolve settles.Backout d) c y h = record { session = le_same c.sends.session c.sends.session refl; hailed = λ e. inl e; out = λ f n. inl n }

-- A RECEIVER'S COMMIT is of a unit whose END was offered
end_session : (session : ℕ) (k : FrameKind) (w : Luw) (count last : ℕ) → Ends w count last ≡ tale_of session k → w.session ≡ session
end_session session (Bind last_ force) w count last e = absurd cc
end_session session (Msg n index number dest message) w count last e = absurd cc
end_session session (End n count_ last_) w count last e = ap (λ (a : Tale). elim a as (λ y. ℕ) [ Ends v i j ↦ v.session | _ ↦ w.session ]) e
end_session session (Status unit_session unit_n last_) w count last e = absurd cc
end_session session (Ack n) w count last e = absurd cc
end_session session (Err n reason) w count last e = absurd cc

less_not : (n : ℕ) → n < n → ⊥
less_not n e = omega (arith, e)

pub places_anew : (turn : ReceiverTurn) (c : Channel) (y : Past) (u : Luw) → Facts c y → ReceiverMay turn c y → receiver_does turn c ≡ takes.Place u → IsAnew u c → ⊥
places_anew turn c y u h may is a =
    let e : EndTale c u = place_told turn c y h may u is in
    let f = map_mem tale _ c.out e.told in
    let s = end_session f.0.session f.0.kind _ _ e.last f.2 in
    less_not u.session (subst (λ (n : ℕ). u.session < n) (sym s ∙ ap (λ (v : Luw). v.session) (sym e.unit)) (a.out f.0 f.1))
