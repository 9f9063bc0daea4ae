-- The unit that a sender holds is of a session at most the receiver's.
use Rattle.std.proofs.Common.{ℕ, ◌≡◌, ◌+◌, ◌≤◌, Bool, true, false, List, ap, subst, arith, inl, inr}
use Rattle.std.specs.Prelude.{Some, if◌then◌else◌}
use Rattle.mq_sync.specs.declared.unit.Unit.{Unit as Luw}
use Rattle.mq_sync.specs.declared.unit.Settle.{Settle}
use Rattle.mq_sync.specs.declared.unit.Settle.TheVariants as settles
use Rattle.mq_sync.specs.declared.data.InDoubt.{InDoubt}
use Rattle.mq_sync.specs.declared.data.SenderData.{SenderData}
use Rattle.mq_sync.specs.declared.data.ReceiverData.{ReceiverData}
use Rattle.mq_sync.specs.Units.{unit_named}
use Rattle.mq_sender.specs.declared.state.Sender.{Sender}
use Rattle.mq_sender.specs.declared.turns.SenderDoes.TheVariants as sends
use Rattle.mq_sender.specs.declared.turns.SenderDoes.{SenderDoes}
use Rattle.mq_sender.specs.declared.turns.SenderOut.{SenderOut}
use Rattle.mq_sender.specs.declared.turns.SenderOut.TheVariants as outs
use Rattle.mq_sender.specs.Table.{sender_lines}
use Rattle.mq_law_channel.specs.Facts.{Letter, now}
use Rattle.mq_law_channel.specs.Channel.{Channel, Past, Facts}
use Rattle.mq_law_channel.specs.Turns.{SenderTurn, sender_does, sender_done, sender_turned, sender_turn, emptied, past_done, past_turned, sender_past, released, resolved, past_resolved, sender_restarted, sender_past_restarted}
use Rattle.mq_law_channel.specs.Following.{HeldWithin, Later, Reached, is_in_session}
use Rattle.mq_law_channel.specs.Opening.{opened, past_opened}
use Rattle.mq_law_channel.proofs.Told.{bool_case, by_lines, and_both}
use Rattle.mq_law_channel.proofs.Sending.{idle_is}
use Rattle.mq_law_channel.proofs.Opened.{unit_low}
use Rattle.mq_law_channel.proofs.Agreeing.{UnitHeld, unit_held}

pub begins_held : (s : SenderData) (r : ReceiverData) (letters : List Letter) → ((d : InDoubt) → s.in_doubt ≡ Some d → d.unit.session ≤ r.session) → HeldWithin (opened s r) (past_opened s r letters)
begins_held s r letters low u e =
    let d : UnitHeld s.in_doubt u = unit_held s.in_doubt u e in
    subst (λ (v : Luw). v.session ≤ r.session) d.unit (low d.doubt d.is)

-- a unit is begun in the present session
pub begun_session : (v u : Luw) → Some v ≡ Some u → v.session ≡ u.session
begun_session v u e = let q : v ≡ u = cc e in ap (λ (w : Luw). w.session) q

abbrev pub Holds : SenderTurn → Channel → Past → SenderDoes → Type 0
Holds t c p d = HeldWithin (sender_done d t c) (past_done d t p)

pub done_holds : (t : SenderTurn) (c : Channel) (p : Past) → Reached c p → HeldWithin c p → Holds t c p (sender_does t c)
done_holds t c p r h = by_lines (Holds t c p) sends.Still (sender_lines c.sender t.seen t.stock) (
  (λ e u z. absurd cc),
  λ e0. (
    (λ e u z. absurd cc),
    λ e1. (
      (λ e u z. absurd cc),
      λ e2. (
        (λ e. h),
        λ e3. (
          (λ e. h),
          λ e4. (
            (λ e. h),
            λ e5. (
              (λ e. h),
              λ e6. (
                (λ e u z.
                    let low : p.near.session ≤ c.receives.session = r.bound (ap is_in_session (idle_is c.sender.state (and_both _ _ (and_both _ _ e).0).0)) in
                    subst (λ (x : ℕ). x ≤ c.receives.session) (begun_session (unit_named p.near.session (p.near.begun + 1)) u z) low),
                λ e7. (
                  (λ e. h),
                  λ e8. (
                    (λ e. h),
                    λ e9.
                        ((λ e. h), λ e10. h),
                  ),
                ),
              ),
            ),
          ),
        ),
      ),
    ),
  ),
)

pub turned_holds : (o : SenderOut) (t : SenderTurn) (c : Channel) (p : Past) → Reached c p → HeldWithin c p → HeldWithin (sender_turned o (sender_does t c) t c) (past_turned o (sender_does t c) t p)
turned_holds outs.Done t c p r h = done_holds t c p r h
turned_holds outs.Full t c p r h = h
turned_holds outs.NoRoom t c p r h = λ u e. absurd cc

pub sender_turn_holds : (t : SenderTurn) (c : Channel) (p : Past) → Reached c p → HeldWithin c p → HeldWithin (sender_turn t c) (sender_past t c p)
sender_turn_holds t c p r h = turned_holds t.outcome t c p r h

pub released_holds : (c : Channel) (p : Past) → HeldWithin c p → HeldWithin c (released p)
released_holds c p h = bool_case p.near.doubt (λ b. HeldWithin c (if b then p else emptied p)) (λ e. h) (λ e u z. absurd cc)

pub noted_holds : (kept : Bool) (t : SenderTurn) (m : Sender) (c : Channel) (p : Past) → Reached c p → HeldWithin c p → HeldWithin (sender_restarted kept t m c) (sender_past_restarted kept t c p)
noted_holds true t m c p r h = released_holds (sender_turn t c) (sender_past t c p) (sender_turn_holds t c p r h)
noted_holds false t m c p r h = released_holds c p h

pub resolved_holds : (settle : Settle) (c : Channel) (p : Past) (d : InDoubt) → HeldWithin c p → HeldWithin (resolved settle c) (past_resolved settle d p)
resolved_holds settles.Commit c p d h = h
resolved_holds settles.Backout c p d h = λ u e. absurd cc

-- the receiver's session only rises
pub rising_holds : (c d : Channel) (p : Past) → HeldWithin c p → Later c.receives d.receives → HeldWithin d p
rising_holds c d p h later u e = up (h u e) later
  where
    up : {x : ℕ} → x ≤ c.receives.session → Later c.receives d.receives → x ≤ d.receives.session
    up l (inl k) = omega arith
    up l (inr k) = omega (arith, k.0)

pub doubt_within : (c : Channel) (p : Past) (d : InDoubt) → Facts c p → HeldWithin c p → c.sends.in_doubt ≡ Some d → d.unit.session ≤ c.receives.session
doubt_within c p d facts h e = h d.unit (facts.tied.in_doubt d e).0

-- in session it is so whatever the opening was
pub session_holds : (c : Channel) (p : Past) → Facts c p → Reached c p → is_in_session c.sender.state ≡ true → HeldWithin c p
session_holds c p h r on u e = omega (arith, unit_low u (now p.near) (h.sound.held u e).1, r.bound on)

-- what a run leaves
pub held_again : (c : Channel) (p : Past) (letters : List Letter) → Facts c p → HeldWithin c p → HeldWithin (opened c.sends c.receives) (past_opened c.sends c.receives letters)
held_again c p letters h w = begins_held c.sends c.receives letters (λ d e. doubt_within c p d h w e)
