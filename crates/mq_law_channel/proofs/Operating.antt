-- Timeouts, operators' commands, stops and restarts keep the facts.
use Rattle.std.proofs.Common.{ℕ, ◌≡◌, ◌+◌, true, false, List, [], refl, ap, sym, subst}
use Rattle.std.specs.Prelude.{Some, if◌then◌else◌, nat_lt}
use Rattle.mq_sync.specs.declared.unit.Unit.{Unit as Luw}
use Rattle.mq_sync.specs.declared.unit.Settle.TheVariants as settles
use Rattle.mq_sync.specs.declared.data.InDoubt.{InDoubt}
use Rattle.mq_sender.specs.declared.state.Limits.{Limits}
use Rattle.mq_sender.specs.declared.state.SenderState.{SenderState}
use Rattle.mq_sender.specs.declared.state.SenderState.TheVariants.{Inactive, Stopped, Starting, Binding, Waiting}
use Rattle.mq_sender.specs.declared.state.StopCause.TheVariants.{NoAnswer}
use Rattle.mq_sender.specs.declared.state.Sender.{Sender}
use Rattle.mq_sender.specs.States as senders
use Rattle.mq_receiver.specs.States as receivers
use Rattle.mq_law_channel.specs.Facts.{Letter, Near, Sound}
use Rattle.mq_law_channel.specs.Channel.{Channel, Past, tales, far, Quiet, Fits, Facts}
use Rattle.mq_law_channel.specs.Turns.{emptied, released, sender_started, sender_stopped, sender_rests, sender_timed_out, sender_numbered, receiver_numbered, resolved, undone, past_resolved, receiver_started, is_open, receiver_stopped, receiver_halted, receiver_rests}
use Rattle.mq_law_channel.proofs.Core.{empties, undoes, closes, unbinds, rests}
use Rattle.mq_law_channel.proofs.Told.{bool_case}
use Rattle.mq_law_channel.proofs.Receiving.{took}
use Rattle.mq_law_channel.proofs.Sending.{moved}

-- a sender that doesn't run holds nothing that wasn't prepared
pub resting_quiet : (st : SenderState) (m : Sender) (s : Near) (content : Luw → List Letter) (batch : List Letter) → senders.is_running st ≡ false → Fits st m s content batch → Quiet s
resting_quiet Inactive m s content batch e h = h
resting_quiet (Stopped cause) m s content batch e h = h
resting_quiet st m s content batch e h = absurd cc

pub awaiting_quiet : (st : SenderState) (m : Sender) (s : Near) (content : Luw → List Letter) (batch : List Letter) → senders.awaits st ≡ true → Fits st m s content batch → Quiet s
awaiting_quiet Binding m s content batch e h = h.0
awaiting_quiet Waiting m s content batch e h = h.0
awaiting_quiet st m s content batch e h = absurd cc

-- the machine changes, and nothing else
pub machine_changes : (c : Channel) (p : Past) (m : Sender) → Facts c p → (senders.is_running m.state ≡ true → m.kept ≡ senders.kept_of (Some c.sends)) → Fits m.state m p.near p.content c.batch
    → Facts (record c { sender = m }) p
machine_changes c p m h kept fits = moved c p m c.out h h.sound kept fits

-- START
pub sender_starts : (limits : Limits) (c : Channel) (p : Past) → Facts c p → senders.is_running c.sender.state ≡ false → Facts (sender_started limits c) p
sender_starts limits c p h e = machine_changes c p (senders.started (senders.kept_of (Some c.sends)) limits) h (λ z. refl) (resting_quiet c.sender.state c.sender p.near p.content c.batch e h.tied.fits)

pub timeouts_keep : (c : Channel) (p : Past) → Facts c p → Facts (sender_timed_out c) p
timeouts_keep c p h = bool_case (senders.awaits c.sender.state) (λ b. Facts (record c { sender = if b then senders.tried_again c.sender else c.sender }) p)
    (λ e. let quiet : Quiet p.near = awaiting_quiet c.sender.state c.sender p.near p.content c.batch e h.tied.fits in
    bool_case (nat_lt c.sender.tries c.sender.limits.short_retry) (λ b. Facts (record c { sender = if b then record c.sender { state = Starting; tries = c.sender.tries + 1 } else record c.sender { state = Stopped NoAnswer } }) p)
    (λ f. machine_changes c p (record c.sender { state = Starting; tries = c.sender.tries + 1 }) h (λ z. h.tied.running (awaiting_runs c.sender.state e)) quiet)
    (λ f. machine_changes c p (record c.sender { state = Stopped NoAnswer }) h (λ z. absurd cc) quiet))
    (λ e. h)
  where
    awaiting_runs : (st : SenderState) → senders.awaits st ≡ true → senders.is_running st ≡ true
    awaiting_runs Binding e = refl
    awaiting_runs Waiting e = refl
    awaiting_runs st e = absurd cc

-- STOP, and a stop of the manager: the batch that isn't prepared is released
pub sender_halts : (m : Sender) (c : Channel) (p : Past) → Facts c p → senders.is_running m.state ≡ false → ((s : Near) (content : Luw → List Letter) → Quiet s → Fits m.state m s content c.batch)
    → Facts (record c { sender = m }) (released p)
sender_halts m c p h off fits = bool_case p.near.doubt (λ b. p.near.doubt ≡ b → Facts (record c { sender = m }) (if b then p else emptied p))
    (λ e d. machine_changes c p m h (λ z. absurd (cc (off, z))) (fits p.near p.content (λ u z. d)))
    (λ e d. record {
      sound = empties p.near (far c) p.content (tales c.out) (tales c.back) h.sound (λ u z w. absurd (cc (d, w)));
      tied = record {
        session = h.tied.session;
        in_doubt = λ q z. absurd (cc ((h.tied.in_doubt q z).1, d));
        settled = λ a b. refl;
        forced = λ z. absurd cc;
        running = λ z. absurd (cc (off, z));
        fits = fits (emptied p).near p.content (λ u z. absurd cc);
        bound_session = h.tied.bound_session;
        bound_unit = h.tied.bound_unit;
        bound_last = h.tied.bound_last;
        came = h.tied.came;
      };
    }) refl

pub sender_stops : (c : Channel) (p : Past) → Facts c p → Facts (sender_stopped c) (released p)
sender_stops c p h = sender_halts (senders.stopped c.sender) c p h refl (λ s content q. q)

pub sender_inactive : (m : Sender) (c : Channel) (p : Past) → Facts c p → m.state ≡ Inactive → Facts (sender_rests m c) (released p)
sender_inactive m c p h e = sender_halts m c p h (ap senders.is_running e) (λ s content q. subst (λ (st : SenderState). Fits st m s content c.batch) (sym e) q)

-- RESET
pub sender_resets : (last : ℕ) (c : Channel) (p : Past) → Facts c p → senders.is_running c.sender.state ≡ false → Facts (sender_numbered last c) p
sender_resets last c p h off = record {
  sound = h.sound;
  tied = record {
    session = h.tied.session;
    in_doubt = h.tied.in_doubt;
    settled = h.tied.settled;
    forced = h.tied.forced;
    running = λ z. absurd (cc (off, z));
    fits = h.tied.fits;
    bound_session = h.tied.bound_session;
    bound_unit = h.tied.bound_unit;
    bound_last = h.tied.bound_last;
    came = h.tied.came;
  };
}

pub receiver_resets : (last : ℕ) (c : Channel) (p : Past) → Facts c p → Facts (receiver_numbered last c) p
receiver_resets last c p h = took c p (record c.receives { last = last }) (receivers.numbered last c.receiver) c.kept c.back h h.sound h.tied.bound_session h.tied.bound_unit refl h.tied.came

-- RESOLVE
pub resolves_commit : (c : Channel) (p : Past) (d : InDoubt) → Facts c p → senders.is_running c.sender.state ≡ false → c.sends.in_doubt ≡ Some d
    → Facts (resolved settles.Commit c) (past_resolved settles.Commit d p)
resolves_commit c p d h off e = record {
  sound = h.sound;
  tied = record {
    session = h.tied.session;
    in_doubt = λ q z. absurd cc;
    settled = λ z w. absurd cc;
    forced = λ z. (h.tied.in_doubt d e).1;
    running = λ z. absurd (cc (off, z));
    fits = h.tied.fits;
    bound_session = h.tied.bound_session;
    bound_unit = h.tied.bound_unit;
    bound_last = h.tied.bound_last;
    came = h.tied.came;
  };
}

-- what a sender that doesn't run holds says nothing of its machine
pub resting_fits : (st : SenderState) (m : Sender) (s : Near) (content : Luw → List Letter) (batch : List Letter) → senders.is_running st ≡ false → Quiet s → Fits st m s content batch
resting_fits Inactive m s content batch e h = h
resting_fits (Stopped cause) m s content batch e h = h
resting_fits st m s content batch e h = absurd cc

pub resolves_backout : (c : Channel) (p : Past) (d : InDoubt) → Facts c p → senders.is_running c.sender.state ≡ false → c.sends.in_doubt ≡ Some d
    → Facts (resolved settles.Backout c) (past_resolved settles.Backout d p)
resolves_backout c p d h off e =
    let was = h.tied.in_doubt d e in
    record {
      sound = undoes p.near (far c) p.content (tales c.out) (tales c.back) d.unit h.sound was.0 was.1;
      tied = record {
        session = h.tied.session;
        in_doubt = λ q z. absurd cc;
        settled = λ z w. refl;
        forced = λ z. absurd (cc (was.2, z));
        running = λ z. absurd (cc (off, z));
        fits = resting_fits c.sender.state c.sender (undone d.unit p).near p.content c.batch off (λ u z. absurd cc);
        bound_session = h.tied.bound_session;
        bound_unit = h.tied.bound_unit;
        bound_last = h.tied.bound_last;
        came = h.tied.came;
      };
    }

-- The receiver.
pub receiver_starts : (c : Channel) (p : Past) → Facts c p → receivers.is_bound c.receiver.state ≡ false → Facts (receiver_started c) p
receiver_starts c p h off = took c p c.receives (receivers.started c.receiver) c.kept c.back h
    (unbound_sound c p h off) h.tied.bound_session h.tied.bound_unit h.tied.bound_last (λ a. absurd cc)
  where
    unbound_sound : (c : Channel) (p : Past) → Facts c p → receivers.is_bound c.receiver.state ≡ false → Sound p.near (far (record c { receiver = receivers.started c.receiver })) p.content (tales c.out) (tales c.back)
    unbound_sound c p h off = let s = h.sound in record {
      sessions = s.sessions;
      binds = s.binds;
      msgs = s.msgs;
      ends = s.ends;
      fate = s.fate;
      held = s.held;
      taken = s.taken;
      last = s.last;
      last_session = s.last_session;
      acks_owed = s.acks_owed;
      acks = s.acks;
      errs_owed = s.errs_owed;
      errs = s.errs;
      status_owed = s.status_owed;
      status = s.status;
      bound = λ e. absurd cc;
      kept = λ e. absurd cc;
    }

pub receiver_stops : (c : Channel) (p : Past) → Facts c p → Facts (receiver_stopped c) p
receiver_stops c p h = bool_case (is_open c.receives) (λ b. Facts (record c { receives = if b then record c.receives { closed = true } else c.receives; receiver = receivers.stopped c.receiver; kept = []; back = c.back }) p)
    (λ e. took c p (record c.receives { closed = true }) (receivers.stopped c.receiver) [] c.back h (closes p.near (far c) p.content (tales c.out) (tales c.back) h.sound) h.tied.bound_session h.tied.bound_unit h.tied.bound_last (λ a. absurd cc))
    (λ e. took c p c.receives (receivers.stopped c.receiver) [] c.back h (rests p.near (far c) p.content (tales c.out) (tales c.back) h.sound) h.tied.bound_session h.tied.bound_unit h.tied.bound_last (λ a. absurd cc))

pub receiver_inactive : (c : Channel) (p : Past) → Facts c p → Facts (receiver_rests c) p
receiver_inactive c p h = took c p c.receives (receivers.receiver_of (Some c.receives)) [] c.back h (unbinds p.near (far c) p.content (tales c.out) (tales c.back) h.sound) refl refl refl (λ a. absurd cc)

pub receiver_halts : (c : Channel) (p : Past) → Facts c p → Facts (receiver_halted c) p
receiver_halts c p h = took c p c.receives (receivers.halted c.receiver) [] c.back h (unbinds p.near (far c) p.content (tales c.out) (tales c.back) h.sound) h.tied.bound_session h.tied.bound_unit h.tied.bound_last (λ a. absurd cc)
