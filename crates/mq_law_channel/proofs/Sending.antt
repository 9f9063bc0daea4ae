-- Turns of the sender keep the facts.
use Rattle.std.proofs.Common.{ℕ, ◌≡◌, ◌+◌, ◌-◌, ◌⊎◌, true, false, List, ◌∷◌, length, refl, ap, sym, ◌∙◌, subst, arith, inl, inr}
use Rattle.std.specs.Prelude.{Option, Some, None, ◌==◌, ◌&&◌, if◌then◌else◌, slice_get}
use Rattle.mq_frame.specs.declared.frame.Frame.{Frame}
use Rattle.mq_sync.specs.declared.unit.Unit.{Unit as Luw}
use Rattle.mq_sync.specs.declared.unit.Settle.{Settle}
use Rattle.mq_sync.specs.declared.unit.Settle.TheVariants as settles
use Rattle.mq_sync.specs.declared.data.InDoubt.{InDoubt}
use Rattle.mq_sync.specs.declared.data.SenderData.{SenderData}
use Rattle.mq_sync.specs.Units.{unit_named, settlement}
use Rattle.mq_sync.specs.declared.data.Doubt.{Doubt}
use Rattle.mq_sender.specs.declared.state.Kept.{Kept}
use Rattle.mq_sender.specs.declared.state.StopCause.TheVariants.{SequenceError}
use Rattle.mq_sender.specs.declared.state.SenderState.{SenderState}
use Rattle.mq_sender.specs.declared.state.SenderState.TheVariants.{Stopped, Starting, Hailing, Binding, Running, Sending, Ready, Waiting}
use Rattle.mq_sender.specs.declared.state.Sender.{Sender}
use Rattle.mq_sender.specs.declared.turns.SenderDoes.TheVariants as sends
use Rattle.mq_sender.specs.declared.turns.SenderOut.TheVariants as outs
use Rattle.mq_sender.specs.States.{doubt_of, kept_of, is_running, unit_begun}
use Rattle.mq_sender.specs.Table.{is_status, status_unit, status_last, is_ack, is_err, is_starting, is_hailing, is_binding, is_idle, is_sending, messages_sent, is_ready, is_waiting, settled_by}
use Rattle.mq_sender.specs.After.{settled, agreed, bound_with, done_after, sender_after, number_sent, doubt_last}
use Rattle.mq_law_channel.specs.Facts.{Letter, Tale, Binds, Acks, Errs, Near, Far, Dead, now, given, Sound}
use Rattle.mq_law_channel.specs.Channel.{Channel, Past, tales, far, Fits, Tied, Facts}
use Rattle.mq_law_channel.specs.Turns.{SeenIn, SenderTurn, data_settled, letter_offered, sender_offers, sender_done, emptied, begun_unit, past_done}
use Rattle.mq_law_channel.proofs.Core.{new_session, push_bind, push_msg, prepares, push_end, empties, takes, by_ack, by_status}
use Rattle.mq_law_channel.proofs.Told.{bool_case, and_both, given_self, sends_as, ends_as, status_told, Told, ack_told, err_told, Doubted, doubt_is, no_doubt}

-- what a state is
pub starting_is : (st : SenderState) → is_starting st ≡ true → st ≡ Starting
starting_is Starting e = refl
starting_is st e = absurd cc

pub hailing_is : (st : SenderState) → is_hailing st ≡ true → st ≡ Hailing
hailing_is Hailing e = refl
hailing_is st e = absurd cc

pub binding_is : (st : SenderState) → is_binding st ≡ true → st ≡ Binding
binding_is Binding e = refl
binding_is st e = absurd cc

pub idle_is : (st : SenderState) → is_idle st ≡ true → st ≡ Running
idle_is Running e = refl
idle_is st e = absurd cc

pub ready_is : (st : SenderState) → is_ready st ≡ true → st ≡ Ready
ready_is Ready e = refl
ready_is st e = absurd cc

pub waiting_is : (st : SenderState) → is_waiting st ≡ true → st ≡ Waiting
waiting_is Waiting e = refl
waiting_is st e = absurd cc

pub fits_at : (c : Channel) (p : Past) (st : SenderState) → Tied c p → c.sender.state ≡ st → Fits st c.sender p.near p.content c.batch
fits_at c p st h e = subst (λ (x : SenderState). Fits x c.sender p.near p.content c.batch) e h.fits

-- a sender that sends
pub fits_sending : (st : SenderState) (m : Sender) (s : Near) (content : Luw → List Letter) (batch : List Letter) → is_sending st ≡ true → Fits st m s content batch
    → (s.holds ≡ Some (now s)) × (s.doubt ≡ false) × (m.begun ≡ s.begun) × (batch ≡ content (now s)) × (m.count ≡ length batch)
fits_sending (Sending sent number) m s content batch e h = h
fits_sending st m s content batch e h = absurd cc

pub sending_runs : (st : SenderState) → is_sending st ≡ true → is_running st ≡ true
sending_runs (Sending sent number) e = refl
sending_runs st e = absurd cc

pub kept_session : (c : Channel) (p : Past) → Tied c p → is_running c.sender.state ≡ true → p.near.session ≡ c.sender.kept.session
kept_session c p h r = h.session ∙ sym (ap (λ (k : Kept). k.session) (h.running r))

pub settled_session : (o : Option Settle) (d : SenderData) → (data_settled o d).session ≡ d.session
settled_session None d = refl
settled_session (Some settles.Commit) d = refl
settled_session (Some settles.Backout) d = refl

pub settled_kept : (o : Option Settle) (d : SenderData) → settled o (kept_of (Some d)) ≡ kept_of (Some (data_settled o d))
settled_kept None d = refl
settled_kept (Some settles.Commit) d = refl
settled_kept (Some settles.Backout) d = refl

pub some_none : (s : Settle) (d : SenderData) → (data_settled (Some s) d).in_doubt ≡ None
some_none settles.Commit d = refl
some_none settles.Backout d = refl

pub bound_none : (o : Option Doubt) (v : Luw) (d : SenderData) → o ≡ doubt_of d.in_doubt → (data_settled (settled_by o v) d).in_doubt ≡ None
bound_none None v d e = no_doubt d.in_doubt (sym e)
bound_none (Some q) v d e = some_none (settlement q.unit v) d

-- the unit that was held is settled
pub settled_facts : (t : SenderTurn) (c : Channel) (p : Past) (o : Option Settle) (m : Sender) → Facts c p
    → ((u : Luw) → p.near.holds ≡ Some u → p.near.doubt ≡ true → (u ≡ c.receives.unit) ⊎ Dead (far c) u.session)
    → (data_settled o c.sends).in_doubt ≡ None
    → (is_running m.state ≡ true → m.kept ≡ kept_of (Some (data_settled o c.sends)))
    → Fits m.state m (emptied p).near p.content c.batch
    → Facts (record c { sends = data_settled o c.sends; sender = m }) (emptied p)
settled_facts t c p o m h how none kept fits = record {
  sound = empties p.near (far c) p.content (tales c.out) (tales c.back) h.sound how;
  tied = record {
    session = h.tied.session ∙ sym (settled_session o c.sends);
    in_doubt = λ d e. absurd (cc (none, e));
    settled = λ a b. refl;
    forced = λ e. absurd cc;
    running = kept;
    fits = fits;
    bound_session = h.tied.bound_session;
    bound_unit = h.tied.bound_unit;
    bound_last = h.tied.bound_last;
    came = h.tied.came;
  };
}

pub agreed_fits : (own partner : ℕ) (m : Sender) (s : Near) (content : Luw → List Letter) (batch : List Letter) → s.holds ≡ None → s.doubt ≡ false → m.begun ≡ s.begun → Fits (agreed own partner) m s content batch
agreed_fits own partner m s content batch e f g = bool_case (own == partner) (λ b. Fits (if b then Running else Stopped (SequenceError own partner)) m s content batch) (λ z. (e, f, g)) (λ z u w. absurd (cc (e, w)))

pub status_binds : (t : SenderTurn) (c : Channel) (p : Past) → Facts c p → SeenIn t.seen c.back → (is_binding c.sender.state && is_status c.sender.kept.session t.seen) ≡ true
    → Facts (sender_done (sends.Bound (settled_by c.sender.kept.doubt (status_unit t.seen)) (status_last t.seen)) t c) (emptied p)
status_binds t c p h m line =
    let both = and_both (is_binding c.sender.state) (is_status c.sender.kept.session t.seen) line in
    let state : c.sender.state ≡ Binding = binding_is c.sender.state both.0 in
    let runs : is_running c.sender.state ≡ true = ap is_running state in
    let fits = fits_at c p Binding h.tied state in
    let o : Option Settle = settled_by c.sender.kept.doubt (status_unit t.seen) in
    let kept : c.sender.kept ≡ kept_of (Some c.sends) = h.tied.running runs in
    settled_facts t c p o (bound_with (settled o c.sender.kept) (status_last t.seen) c.sender) h
    (λ u e d. inr (by_status p.near (far c) p.content (tales c.out) (tales c.back) c.sender.kept.session (status_last t.seen) (status_unit t.seen) u h.sound (status_told c.sender.kept.session t.seen c.back both.1 m) (sym (kept_session c p h.tied runs)) fits.1 e).1)
    (bound_none c.sender.kept.doubt (status_unit t.seen) c.sends (ap (λ (k : Kept). k.doubt) kept))
    (λ z. ap (settled o) kept ∙ settled_kept o c.sends)
    (agreed_fits (settled o c.sender.kept).last (status_last t.seen) _ (emptied p).near p.content c.batch refl refl (fits.2 ∙ sym fits.1))

pub ack_commits : (t : SenderTurn) (c : Channel) (p : Past) → Facts c p → SeenIn t.seen c.back → (is_waiting c.sender.state && is_ack c.sender.kept.doubt t.seen) ≡ true
    → Facts (sender_done sends.Commit t c) (emptied p)
ack_commits t c p h m line =
    let both = and_both (is_waiting c.sender.state) (is_ack c.sender.kept.doubt t.seen) line in
    let state : c.sender.state ≡ Waiting = waiting_is c.sender.state both.0 in
    let runs : is_running c.sender.state ≡ true = ap is_running state in
    let fits = fits_at c p Waiting h.tied state in
    let kept : c.sender.kept ≡ kept_of (Some c.sends) = h.tied.running runs in
    let a : Told c.sender.kept.doubt Acks (tales c.back) = ack_told c.sender.kept.doubt t.seen c.back both.1 m in
    let d : Doubted c.sends.in_doubt a.doubt = doubt_is c.sends.in_doubt a.doubt (sym (ap (λ (k : Kept). k.doubt) kept) ∙ a.is) in
    let holds : p.near.holds ≡ Some a.doubt.unit = (h.tied.in_doubt d.data_ d.is).0 ∙ ap Some d.unit in
    let last : a.doubt.unit ≡ c.receives.unit = by_ack p.near (far c) p.content (tales c.out) (tales c.back) a.doubt.unit h.sound a.told holds in
    settled_facts t c p (Some settles.Commit) (done_after c.sender sends.Commit) h
    (λ u e w. inl (cc (e, holds, last)))
    refl
    (λ z. ap (settled (Some settles.Commit)) kept ∙ settled_kept (Some settles.Commit) c.sends)
    (refl, refl, fits.1)

pub err_backs_out : (t : SenderTurn) (c : Channel) (p : Past) (reason : ℕ) → Facts c p → SeenIn t.seen c.back → (is_waiting c.sender.state && is_err c.sender.kept.doubt t.seen) ≡ true
    → Facts (sender_done (sends.Backout reason) t c) (emptied p)
err_backs_out t c p reason h m line =
    let both = and_both (is_waiting c.sender.state) (is_err c.sender.kept.doubt t.seen) line in
    let state : c.sender.state ≡ Waiting = waiting_is c.sender.state both.0 in
    let runs : is_running c.sender.state ≡ true = ap is_running state in
    let kept : c.sender.kept ≡ kept_of (Some c.sends) = h.tied.running runs in
    let a : Told c.sender.kept.doubt Errs (tales c.back) = err_told c.sender.kept.doubt t.seen c.back both.1 m in
    let d : Doubted c.sends.in_doubt a.doubt = doubt_is c.sends.in_doubt a.doubt (sym (ap (λ (k : Kept). k.doubt) kept) ∙ a.is) in
    let holds : p.near.holds ≡ Some a.doubt.unit = (h.tied.in_doubt d.data_ d.is).0 ∙ ap Some d.unit in
    let dead : Dead (far c) a.doubt.unit.session = (h.sound.errs a.doubt.unit a.told).0 in
    settled_facts t c p (Some settles.Backout) (done_after c.sender (sends.Backout reason)) h
    (λ u e w. inr (let q : a.doubt.unit ≡ u = cc (e, holds) in subst (λ (x : Luw). Dead (far c) x.session) q dead))
    refl
    (λ z. absurd cc)
    (λ u e. absurd cc)

pub hardens_session : (t : SenderTurn) (c : Channel) (p : Past) → Facts c p → is_starting c.sender.state ≡ true
    → Facts (sender_done (sends.HardenSession (c.sender.kept.session + 1)) t c) (past_done (sends.HardenSession (c.sender.kept.session + 1)) t p)
hardens_session t c p h line =
    let state : c.sender.state ≡ Starting = starting_is c.sender.state line in
    let runs : is_running c.sender.state ≡ true = ap is_running state in
    let fits = fits_at c p Starting h.tied state in
    let x : ℕ = c.sender.kept.session + 1 in
    record {
      sound = new_session p.near (far c) p.content (tales c.out) (tales c.back) h.sound fits;
      tied = record {
        session = ap (λ (n : ℕ). n + 1) (kept_session c p h.tied runs);
        in_doubt = h.tied.in_doubt;
        settled = h.tied.settled;
        forced = h.tied.forced;
        running = λ z. ap (λ (k : Kept). record k { session = x }) (h.tied.running runs);
        fits = (fits, refl, refl);
        bound_session = h.tied.bound_session;
        bound_unit = h.tied.bound_unit;
        bound_last = h.tied.bound_last;
        came = h.tied.came;
      };
    }

-- a turn that changes the machine's state and what was offered
pub moved : (c : Channel) (p : Past) (m : Sender) (out : List Frame) → Facts c p → Sound p.near (far c) p.content (tales out) (tales c.back)
    → (is_running m.state ≡ true → m.kept ≡ kept_of (Some c.sends)) → Fits m.state m p.near p.content c.batch
    → Facts (record c { sender = m; out = out }) p
moved c p m out h sound kept fits = record {
  sound = sound;
  tied = record {
    session = h.tied.session;
    in_doubt = h.tied.in_doubt;
    settled = h.tied.settled;
    forced = h.tied.forced;
    running = kept;
    fits = fits;
    bound_session = h.tied.bound_session;
    bound_unit = h.tied.bound_unit;
    bound_last = h.tied.bound_last;
    came = h.tied.came;
  };
}

pub pushes_bind : (t : SenderTurn) (c : Channel) (p : Past) → Facts c p → is_hailing c.sender.state ≡ true
    → Facts (sender_done sends.PushBind t c) p
pushes_bind t c p h line =
    let state : c.sender.state ≡ Hailing = hailing_is c.sender.state line in
    let runs : is_running c.sender.state ≡ true = ap is_running state in
    let k : Kept = c.sender.kept in
    moved c p (done_after c.sender sends.PushBind) (sender_offers sends.PushBind t c) h
    (subst (λ (x : ℕ). Sound p.near (far c) p.content (Binds x k.last k.force ∷ tales c.out) (tales c.back)) (kept_session c p h.tied runs)
    (push_bind p.near (far c) p.content (tales c.out) (tales c.back) k.last k.force h.sound))
    (λ z. h.tied.running runs)
    (fits_at c p Hailing h.tied state)

-- a message of the unit that is held, or none, is offered
pub offers : (s : Near) (r : Far) (content : Luw → List Letter) (out : List Frame) (b : List Tale) (stamp : ℕ) (m : Sender) (n i index : ℕ) (o : Option Letter)
    → Sound s r content (tales out) b → s.holds ≡ Some (now s) → slice_get (content (now s)) i ≡ o → s.session ≡ m.kept.session → n ≡ s.begun → index - 1 ≡ i
    → Sound s r content (tales (letter_offered stamp m n index o out)) b
offers s r content out b stamp m n i index None h u g x e j = h
offers s r content out b stamp m n i index (Some l) h u g x e j =
    subst (λ (a : Tale). Sound s r content (a ∷ tales out) b) (sym (sends_as m.kept.session s.session n s.begun (index - 1) i l (sym x) e j))
    (push_msg s r content (tales out) b (now s) i l h u g)

pub begins_unit : (t : SenderTurn) (c : Channel) (p : Past) (count : ℕ) → Facts c p → is_idle c.sender.state ≡ true → count ≡ length t.letters
    → Facts (sender_done (sends.Begin (c.sender.begun + 1) count) t c) (begun_unit p t.letters)
begins_unit t c p count h line size =
    let state : c.sender.state ≡ Running = idle_is c.sender.state line in
    let runs : is_running c.sender.state ≡ true = ap is_running state in
    let fits = fits_at c p Running h.tied state in
    let u : Luw = unit_named p.near.session (p.near.begun + 1) in
    let near : Near = (begun_unit p t.letters).near in
    let content : Luw → List Letter = given p.content u t.letters in
    let self : content u ≡ t.letters = given_self p.content u t.letters in
    record {
      sound = offers near (far c) content c.out (tales c.back) t.stamp c.sender (c.sender.begun + 1) 0 1 (slice_get t.letters 0)
          (takes p.near (far c) p.content (tales c.out) (tales c.back) t.letters h.sound fits.0) refl (ap (λ (ls : List Letter). slice_get ls 0) self) (kept_session c p h.tied runs) (ap (λ (n : ℕ). n + 1) fits.2) refl;
      tied = record {
        session = h.tied.session;
        in_doubt = λ d e. absurd (cc ((h.tied.in_doubt d e).0, fits.0));
        settled = λ a b. refl;
        forced = λ e. absurd (cc (h.tied.forced e, fits.1));
        running = λ z. h.tied.running runs;
        fits = (refl, refl, ap (λ (n : ℕ). n + 1) fits.2, sym self, size);
        bound_session = h.tied.bound_session;
        bound_unit = h.tied.bound_unit;
        bound_last = h.tied.bound_last;
        came = h.tied.came;
      };
    }

pub pushes_message : (t : SenderTurn) (c : Channel) (p : Past) → Facts c p → is_sending c.sender.state ≡ true
    → Facts (sender_done (sends.PushMsg (messages_sent c.sender.state + 1)) t c) p
pushes_message t c p h line =
    let runs : is_running c.sender.state ≡ true = sending_runs c.sender.state line in
    let fits = fits_sending c.sender.state c.sender p.near p.content c.batch line h.tied.fits in
    let i : ℕ = messages_sent c.sender.state in
    moved c p (done_after c.sender (sends.PushMsg (i + 1))) (sender_offers (sends.PushMsg (i + 1)) t c) h
    (offers p.near (far c) p.content c.out (tales c.back) t.stamp c.sender c.sender.begun i (i + 1) (slice_get c.batch i)
    h.sound fits.0 (ap (λ (ls : List Letter). slice_get ls i) (sym fits.3)) (kept_session c p h.tied runs) fits.2 (omega arith))
    (λ z. h.tied.running runs)
    fits

pub not_forced : (c : Channel) (p : Past) → Tied c p → p.near.doubt ≡ false → p.forced ≡ false
not_forced c p h e = bool_case p.forced (λ b. (b ≡ true → p.near.doubt ≡ true) → b ≡ false) (λ z f. absurd (cc (f refl, e))) (λ z f. refl) h.forced

pub prepares_unit : (t : SenderTurn) (c : Channel) (p : Past) → Facts c p → is_sending c.sender.state ≡ true
    → Facts (sender_done sends.Prepare t c) (past_done sends.Prepare t p)
prepares_unit t c p h line =
    let runs : is_running c.sender.state ≡ true = sending_runs c.sender.state line in
    let fits = fits_sending c.sender.state c.sender p.near p.content c.batch line h.tied.fits in
    let named : now p.near ≡ unit_begun c.sender = (λ z. unit_named (kept_session c p h.tied runs z) (sym fits.2 z)) in
    let q : Doubt = record { unit = unit_begun c.sender; last = number_sent c.sender.state c.sender.kept.last } in
    record {
      sound = prepares p.near (far c) p.content (tales c.out) (tales c.back) (now p.near) h.sound fits.0;
      tied = record {
        session = h.tied.session;
        in_doubt = λ d e. (fits.0 ∙ ap Some (named ∙ unit_of q d e), refl, not_forced c p h.tied fits.1);
        settled = λ e. absurd cc;
        forced = λ e. refl;
        running = λ z. ap (λ (k : Kept). record k { force = false; doubt = Some q }) (h.tied.running runs);
        fits = (fits.0, refl, fits.2, fits.4 ∙ ap (λ (ls : List Letter). length ls) fits.3);
        bound_session = h.tied.bound_session;
        bound_unit = h.tied.bound_unit;
        bound_last = h.tied.bound_last;
        came = h.tied.came;
      };
    }
  where
    unit_of : (q : Doubt) (d : InDoubt) → Some (record { unit = q.unit; queue = t.queue; idents = t.idents; last = q.last }) ≡ Some d → q.unit ≡ d.unit
    unit_of q d e = ap (λ (o : Option InDoubt). elim o as (λ x. Luw) [ None ↦ q.unit | Some x ↦ x.unit ]) e

pub pushes_end : (t : SenderTurn) (c : Channel) (p : Past) → Facts c p → is_ready c.sender.state ≡ true
    → Facts (sender_done sends.PushEnd t c) p
pushes_end t c p h line =
    let state : c.sender.state ≡ Ready = ready_is c.sender.state line in
    let runs : is_running c.sender.state ≡ true = ap is_running state in
    let fits = fits_at c p Ready h.tied state in
    let last : ℕ = doubt_last c.sender.kept.doubt c.sender.kept.last in
    moved c p (done_after c.sender sends.PushEnd) (sender_offers sends.PushEnd t c) h
    (subst (λ (a : Tale). Sound p.near (far c) p.content (a ∷ tales c.out) (tales c.back)) (ends_as p.near.session c.sender.kept.session p.near.begun c.sender.begun c.sender.count last (kept_session c p h.tied runs) (sym fits.2))
    (push_end p.near (far c) p.content (tales c.out) (tales c.back) (now p.near) c.sender.count last h.sound fits.0 fits.1 fits.3))
    (λ z. h.tied.running runs)
    ((λ u e. fits.1), fits.2)

-- the log has no room for the unit
pub no_room : (t : SenderTurn) (c : Channel) (p : Past) → Facts c p → is_sending c.sender.state ≡ true
    → Facts (record c { sender = sender_after c.sender sends.Prepare outs.NoRoom }) (emptied p)
no_room t c p h line =
    let fits = fits_sending c.sender.state c.sender p.near p.content c.batch line h.tied.fits in
    record {
      sound = empties p.near (far c) p.content (tales c.out) (tales c.back) h.sound (λ u e d. absurd (cc (d, fits.1)));
      tied = record {
        session = h.tied.session;
        in_doubt = λ d e. absurd (cc ((h.tied.in_doubt d e).1, fits.1));
        settled = λ a b. refl;
        forced = λ e. absurd cc;
        running = λ z. absurd cc;
        fits = λ u e. absurd cc;
        bound_session = h.tied.bound_session;
        bound_unit = h.tied.bound_unit;
        bound_last = h.tied.bound_last;
        came = h.tied.came;
      };
    }
