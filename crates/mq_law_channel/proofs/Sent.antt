-- Each turn of the sender, by the lines of its table.
use Rattle.std.proofs.Common.{ℕ, ◌≡◌, true, length, refl}
use Rattle.std.specs.Prelude.{min}
use Rattle.mq_sender.specs.declared.turns.SenderDoes.{SenderDoes}
use Rattle.mq_sender.specs.declared.turns.SenderDoes.TheVariants as sends
use Rattle.mq_sender.specs.declared.turns.SenderOut.{SenderOut}
use Rattle.mq_sender.specs.declared.turns.SenderOut.TheVariants as outs
use Rattle.mq_sender.specs.Table.{err_reason, is_sending, sender_lines}
use Rattle.mq_law_channel.specs.Channel.{Channel, Past, Facts}
use Rattle.mq_law_channel.specs.Turns.{SenderTurn, sender_does, sender_done, sender_turned, sender_turn, past_done, past_turned, sender_past, SenderMay}
use Rattle.mq_law_channel.proofs.Told.{by_lines, and_both}
use Rattle.mq_law_channel.proofs.Sending.{status_binds, ack_commits, err_backs_out, hardens_session, pushes_bind, begins_unit, pushes_message, prepares_unit, pushes_end, no_room}

-- what a turn does keeps the facts, where a batch is counted rightly
abbrev pub Keeps : SenderTurn → Channel → Past → SenderDoes → Type 0
Keeps t c p d = ((n count : ℕ) → d ≡ sends.Begin n count → count ≡ length t.letters) → Facts (sender_done d t c) (past_done d t p)

pub done_keeps : (t : SenderTurn) (c : Channel) (p : Past) → Facts c p → SenderMay t c → Keeps t c p (sender_does t c)
done_keeps t c p h may = by_lines (Keeps t c p) sends.Still (sender_lines c.sender t.seen t.stock) (
  (λ e z. status_binds t c p h may.offered e),
  λ e0. (
    (λ e z. ack_commits t c p h may.offered e),
    λ e1. (
      (λ e z. err_backs_out t c p (err_reason t.seen) h may.offered e),
      λ e2. (
        (λ e z. h),
        λ e3. (
          (λ e z. hardens_session t c p h e),
          λ e4. (
            (λ e z. pushes_bind t c p h e),
            λ e5. (
              (λ e z. h),
              λ e6. (
                (λ e z. begins_unit t c p (min c.sender.limits.batch_size t.stock.free) h (and_both _ _ (and_both _ _ e).0).0 (z _ _ refl)),
                λ e7. (
                  (λ e z. pushes_message t c p h (and_both _ _ e).0),
                  λ e8. (
                    (λ e z. prepares_unit t c p h e),
                    λ e9.
                        ((λ e z. pushes_end t c p h e), λ e10. (λ z. h)),
                  ),
                ),
              ),
            ),
          ),
        ),
      ),
    ),
  ),
)

-- only a sender that sends prepares
abbrev pub PreparesSending : Channel → SenderDoes → Type 0
PreparesSending c d = d ≡ sends.Prepare → is_sending c.sender.state ≡ true

pub prepare_sends : (t : SenderTurn) (c : Channel) → PreparesSending c (sender_does t c)
prepare_sends t c = by_lines (PreparesSending c) sends.Still (sender_lines c.sender t.seen t.stock) (
  (λ e z. absurd cc),
  λ e0. (
    (λ e z. absurd cc),
    λ e1. (
      (λ e z. absurd cc),
      λ e2. (
        (λ e z. absurd cc),
        λ e3. (
          (λ e z. absurd cc),
          λ e4. (
            (λ e z. absurd cc),
            λ e5. (
              (λ e z. absurd cc),
              λ e6. (
                (λ e z. absurd cc),
                λ e7. (
                  (λ e z. absurd cc),
                  λ e8. (
                    (λ e z. e),
                    λ e9.
                        ((λ e z. absurd cc), λ e10. (λ z. absurd cc)),
                  ),
                ),
              ),
            ),
          ),
        ),
      ),
    ),
  ),
)

pub turned_keeps : (o : SenderOut) (t : SenderTurn) (c : Channel) (p : Past) → Facts c p → SenderMay t c → t.outcome ≡ o
    → Facts (sender_turned o (sender_does t c) t c) (past_turned o (sender_does t c) t p)
turned_keeps outs.Done t c p h may e = done_keeps t c p h may may.counted
turned_keeps outs.Full t c p h may e = h
turned_keeps outs.NoRoom t c p h may e = no_room t c p h (prepare_sends t c (may.no_room e))

pub sender_turn_keeps : (t : SenderTurn) (c : Channel) (p : Past) → Facts c p → SenderMay t c → Facts (sender_turn t c) (sender_past t c p)
sender_turn_keeps t c p h may = turned_keeps t.outcome t c p h may refl
