-- No unit is sent before the receiver has bound its session.
use Rattle.std.proofs.Common.{ℕ, ◌≡◌, ◌+◌, ◌≤◌, true, false, List, refl, ap, sym, ◌∙◌, subst, arith, inl, inr}
use Rattle.std.specs.Prelude.{Option, Some, None, if◌then◌else◌, slice_get, nat_lt}
use Rattle.mq_frame.specs.declared.frame.Frame.{Frame}
use Rattle.mq_sync.specs.declared.unit.Unit.{Unit as Luw}
use Rattle.mq_sync.specs.declared.data.SenderData.{SenderData}
use Rattle.mq_sync.specs.declared.data.ReceiverData.{ReceiverData}
use Rattle.mq_sender.specs.declared.state.SenderState.{SenderState}
use Rattle.mq_sender.specs.declared.state.SenderState.TheVariants.{Stopped, Starting, Sending, Ready}
use Rattle.mq_sender.specs.declared.state.StopCause.TheVariants.{NoAnswer}
use Rattle.mq_sender.specs.declared.state.Sender.{Sender}
use Rattle.mq_sender.specs.declared.turns.SenderDoes.{SenderDoes}
use Rattle.mq_sender.specs.declared.turns.SenderDoes.TheVariants as sends
use Rattle.mq_sender.specs.declared.turns.SenderOut.{SenderOut}
use Rattle.mq_sender.specs.declared.turns.SenderOut.TheVariants as outs
use Rattle.mq_sender.specs.States as senders
use Rattle.mq_sender.specs.Table.{status_unit, status_last, is_sending, messages_sent, sender_lines}
use Rattle.mq_law_channel.specs.Facts.{Letter, Tale, Ends, Mem}
use Rattle.mq_law_channel.specs.Channel.{Channel, Past, tales, Facts}
use Rattle.mq_law_channel.specs.Turns.{SenderTurn, sender_does, letter_offered, sender_done, sender_turned, sender_turn, past_done, past_turned, sender_past, SenderMay, sender_timed_out}
use Rattle.mq_law_channel.specs.Following.{Later, Reached, is_in_session}
use Rattle.mq_law_channel.specs.Opening.{opened, past_opened}
use Rattle.mq_law_channel.proofs.Told.{bool_case, by_lines, and_both}
use Rattle.mq_law_channel.proofs.Sending.{idle_is, ready_is, waiting_is, kept_session}
use Rattle.mq_law_channel.proofs.Numbering.{StatusSeen, status_seen}

pub sending_in : (st : SenderState) → is_sending st ≡ true → is_in_session st ≡ true
sending_in (Sending sent number) e = refl
sending_in st e = absurd cc

-- messages and BIND tell of no END
pub ends_offered : (stamp : ℕ) (m : Sender) (n index : ℕ) (o : Option Letter) (out : List Frame) (u : Luw) (k last : ℕ) → Mem (Ends u k last) (tales (letter_offered stamp m n index o out)) → Mem (Ends u k last) (tales out)
ends_offered stamp m n index None out u k last e = e
ends_offered stamp m n index (Some l) out u k last (inl e) = absurd cc
ends_offered stamp m n index (Some l) out u k last (inr e) = e

abbrev pub Reaches : SenderTurn → Channel → Past → SenderDoes → Type 0
Reaches t c p d = Reached (sender_done d t c) (past_done d t p)

pub done_reaches : (t : SenderTurn) (c : Channel) (p : Past) → Facts c p → SenderMay t c → Reached c p → Reaches t c p (sender_does t c)
done_reaches t c p h may r = by_lines (Reaches t c p) sends.Still (sender_lines c.sender t.seen t.stock) (
  (λ e.
      let s : StatusSeen t c p = status_seen t c p h may.offered e in
      let low : c.sender.kept.session ≤ c.receives.session = (h.sound.status c.sender.kept.session (status_unit t.seen) (status_last t.seen) s.told).0 in
      record { bound = λ z. subst (λ (x : ℕ). x ≤ c.receives.session) s.session low; ends = r.ends }),
  λ e0. (
    (λ e. record { bound = λ z. r.bound (ap is_in_session (waiting_is c.sender.state (and_both _ _ e).0)); ends = r.ends }),
    λ e1. (
      (λ e. record { bound = λ z. absurd cc; ends = r.ends }),
      λ e2. (
        (λ e. r),
        λ e3. (
          (λ e. record { bound = λ z. absurd cc; ends = r.ends }),
          λ e4. (
            (λ e. record { bound = λ z. absurd cc; ends = λ u k last. elim [ inl q ↦ absurd cc | inr q ↦ r.ends u k last q ] }),
            λ e5. (
              (λ e. r),
              λ e6. (
                (λ e. record {
                  bound = λ z. r.bound (ap is_in_session (idle_is c.sender.state (and_both _ _ (and_both _ _ e).0).0));
                  ends = λ u k last q. r.ends u k last (ends_offered t.stamp c.sender (c.sender.begun + 1) 1 (slice_get t.letters 0) c.out u k last q);
                }),
                λ e7. (
                  (λ e. record {
                    bound = λ z. r.bound (sending_in c.sender.state (and_both _ _ e).0);
                    ends = λ u k last q. r.ends u k last (ends_offered t.stamp c.sender c.sender.begun (messages_sent c.sender.state + 1) (slice_get c.batch (messages_sent c.sender.state)) c.out u k last q);
                  }),
                  λ e8. (
                    (λ e. record { bound = λ z. r.bound (sending_in c.sender.state e); ends = r.ends }),
                    λ e9. (
                      (λ e.
                          let state : c.sender.state ≡ Ready = ready_is c.sender.state e in
                          let low : p.near.session ≤ c.receives.session = r.bound (ap is_in_session state) in
                          let here : p.near.session ≡ c.sender.kept.session = kept_session c p h.tied (ap senders.is_running state) in
                          record {
                            bound = λ z. low;
                            ends = λ u k last. elim [
                              | inl q ↦ (let x : u.session ≡ c.sender.kept.session = ap (λ (a : Tale). elim a as (λ y. ℕ) [ Ends v i j ↦ v.session | _ ↦ u.session ]) q in subst (λ (y : ℕ). y ≤ c.receives.session) (here ∙ sym x) low)
                              | inr q ↦ r.ends u k last q
                            ];
                          }),
                      λ e10. r,
                    ),
                  ),
                ),
              ),
            ),
          ),
        ),
      ),
    ),
  ),
)

pub turned_reaches : (o : SenderOut) (t : SenderTurn) (c : Channel) (p : Past) → Facts c p → SenderMay t c → Reached c p → Reached (sender_turned o (sender_does t c) t c) (past_turned o (sender_does t c) t p)
turned_reaches outs.Done t c p h may r = done_reaches t c p h may r
turned_reaches outs.Full t c p h may r = r
turned_reaches outs.NoRoom t c p h may r = record { bound = λ z. absurd cc; ends = r.ends }

pub sender_turn_reaches : (t : SenderTurn) (c : Channel) (p : Past) → Facts c p → SenderMay t c → Reached c p → Reached (sender_turn t c) (sender_past t c p)
sender_turn_reaches t c p h may r = turned_reaches t.outcome t c p h may r

pub timeout_reaches : (c : Channel) (p : Past) → Reached c p → Reached (sender_timed_out c) p
timeout_reaches c p r = bool_case (senders.awaits c.sender.state) (λ b. Reached (record c { sender = if b then senders.tried_again c.sender else c.sender }) p)
    (λ e. bool_case (nat_lt c.sender.tries c.sender.limits.short_retry) (λ b. Reached (record c { sender = if b then record c.sender { state = Starting; tries = c.sender.tries + 1 } else record c.sender { state = Stopped NoAnswer } }) p)
    (λ f. record { bound = λ z. absurd cc; ends = r.ends }) (λ f. record { bound = λ z. absurd cc; ends = r.ends }))
    (λ e. r)

-- a sender that is started, stopped or at rest is in no session
pub resting_reaches : (c d : Channel) (p q : Past) → Reached c p → is_in_session d.sender.state ≡ false → d.out ≡ c.out → d.receives ≡ c.receives → Reached d q
resting_reaches c d p q r off out data_ = record {
  bound = λ z. absurd (cc (off, z));
  ends = λ u k last m. subst (λ (x : ReceiverData). u.session ≤ x.session) (sym data_) (r.ends u k last (subst (λ (f : List Frame). Mem (Ends u k last) (tales f)) out m));
}

-- the receiver's session only rises
pub rising_reaches : (c d : Channel) (p : Past) → Reached c p → Later c.receives d.receives → d.sender ≡ c.sender → d.out ≡ c.out → Reached d p
rising_reaches c d p r later m out = record {
  bound = λ z. up (r.bound (ap (λ (x : Sender). is_in_session x.state) (sym m) ∙ z)) later;
  ends = λ u k last q. up (r.ends u k last (subst (λ (f : List Frame). Mem (Ends u k last) (tales f)) out q)) later;
}
  where
    up : {x : ℕ} → x ≤ c.receives.session → Later c.receives d.receives → x ≤ d.receives.session
    up l (inl k) = omega arith
    up l (inr k) = omega (arith, k.0)

pub begins_reached : (s : SenderData) (r : ReceiverData) (letters : List Letter) → Reached (opened s r) (past_opened s r letters)
begins_reached s r letters = record { bound = λ z. absurd cc; ends = λ u k last m. absurd m }
