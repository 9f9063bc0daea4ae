-- Turns of the sender keep the numbers.
use Rattle.std.proofs.Common.{ℕ, suc, ◌≡◌, ◌≢◌, ◌+◌, ◌-◌, ◌≤◌, Bool, true, false, List, ◌∷◌, length, refl, ap, sym, ◌∙◌, subst, arith}
use Rattle.std.specs.Prelude.{Option, Some, None, ◌==◌, ◌&&◌, if◌then◌else◌, slice_get, nat_lt, min}
use Rattle.std.proofs.lemmas.Bool.Decides.{nat_tests}
use Rattle.mq_frame.specs.declared.frame.Frame.{Frame}
use Rattle.mq_sync.specs.declared.unit.Unit.{Unit as Luw}
use Rattle.mq_sync.specs.declared.unit.Settle.{Settle}
use Rattle.mq_sync.specs.declared.unit.Settle.TheVariants as settles
use Rattle.mq_sync.specs.declared.data.InDoubt.{InDoubt}
use Rattle.mq_sync.specs.declared.data.SenderData.{SenderData}
use Rattle.mq_sync.specs.Numbers.{number_after}
use Rattle.mq_sync.specs.Units.{unit_named, same_unit}
use Rattle.mq_sync.specs.declared.data.Doubt.{Doubt}
use Rattle.mq_sender.specs.declared.state.Kept.{Kept}
use Rattle.mq_sender.specs.declared.state.SenderState.{SenderState}
use Rattle.mq_sender.specs.declared.state.SenderState.TheVariants.{Stopped, Binding, Running, Sending, Ready}
use Rattle.mq_sender.specs.declared.state.StopCause.TheVariants.{SequenceError}
use Rattle.mq_sender.specs.declared.state.Sender.{Sender}
use Rattle.mq_sender.specs.declared.turns.SenderDoes.{SenderDoes}
use Rattle.mq_sender.specs.declared.turns.SenderDoes.TheVariants as sends
use Rattle.mq_sender.specs.declared.turns.SenderOut.{SenderOut}
use Rattle.mq_sender.specs.declared.turns.SenderOut.TheVariants as outs
use Rattle.mq_sender.specs.States.{doubt_of, kept_of, is_running, unit_begun}
use Rattle.mq_sender.specs.Table.{is_status, status_unit, status_last, is_ack, is_err, err_reason, is_hailing, is_binding, is_idle, is_sending, messages_sent, is_ready, is_waiting, settled_by, sender_lines}
use Rattle.mq_sender.specs.After.{settled, agreed, bound_with, done_after, sender_after, number_sent, doubt_last}
use Rattle.mq_law_channel.specs.Facts.{Letter, Tale, Binds, Tells, Acks, Errs, Near, Mem, now}
use Rattle.mq_law_channel.specs.Channel.{Channel, Past, tales, far, Quiet, Facts}
use Rattle.mq_law_channel.specs.Turns.{SeenIn, SenderTurn, sender_does, data_settled, letter_offered, sender_done, sender_turned, sender_turn, emptied, begun_unit, past_done, past_turned, sender_past, SenderMay}
use Rattle.mq_law_channel.specs.Following.{WasCommitted, WasNot, Said}
use Rattle.mq_law_channel.specs.Counting.{Count, Counted, Numbers, FitsNumbers, number_past, count_begun, count_done, count_turned, sender_count, SenderAgrees}
use Rattle.mq_law_channel.proofs.Told.{bool_case, by_lines, and_both, unit_yes, unit_no, unit_self, Told, ack_told, err_told, Doubted, doubt_is, status_told}
use Rattle.mq_law_channel.proofs.Sending.{hailing_is, binding_is, idle_is, ready_is, waiting_is, fits_at, fits_sending, sending_runs, kept_session, bound_none, not_forced}
use Rattle.mq_law_channel.proofs.Sent.{prepare_sends}
use Rattle.mq_law_channel.proofs.Following.{said}
use Rattle.mq_law_channel.proofs.Counting.{count_session, count_bind, count_msg, count_prepared, count_end, count_emptied, count_taken}

-- the unit in doubt was committed, or was not: the ends agree when it is settled so
pub even_commit : (c : Channel) (p : Past) (n : Count) (d : InDoubt) → Facts c p → Numbers c p n → c.sends.in_doubt ≡ Some d → d.unit ≡ c.receives.unit → n.set ≡ false
    → c.receives.last ≡ (data_settled (Some settles.Commit) c.sends).last
even_commit c p n d h k e q z = k.counted.same z d.unit (h.tied.in_doubt d e).0 q ∙ sym (k.in_doubt d e) ∙ sym (ap (λ (o : Option InDoubt). doubt_last (doubt_of o) c.sends.last) e)

pub even_backout : (c : Channel) (p : Past) (n : Count) (d : InDoubt) → Facts c p → Numbers c p n → c.sends.in_doubt ≡ Some d → d.unit ≢ c.receives.unit → n.set ≡ false
    → c.receives.last ≡ c.sends.last
even_backout c p n d h k e q z =
    let w = h.tied.in_doubt d e in
    k.counted.elsewhere z d.unit w.0 q ∙ sym (k.counted.plain z d.unit w.0 w.2)

-- a unit that was not prepared was not committed
pub even_unsent : (c : Channel) (p : Past) (n : Count) → Facts c p → Numbers c p n → p.near.doubt ≡ false → n.set ≡ false → c.receives.last ≡ c.sends.last
even_unsent c p n h k e z = by_holds p.near.holds refl
  where
    by_holds : (o : Option Luw) → p.near.holds ≡ o → c.receives.last ≡ c.sends.last
    by_holds None w = k.counted.free z w
    by_holds (Some u) w = k.counted.elsewhere z u w (λ q. (h.sound.taken u w e).1 (sym q)) ∙ sym (k.counted.plain z u w (not_forced c p h.tied e))

pub even_status : (c : Channel) (p : Past) (n : Count) (v : Luw) → Facts c p → Numbers c p n → v ≡ c.receives.unit → Quiet p.near
    → ((u : Luw) → p.forced ≡ true → p.near.holds ≡ Some u → u ≡ v) → n.set ≡ false
    → c.receives.last ≡ (data_settled (settled_by (doubt_of c.sends.in_doubt) v) c.sends).last
even_status c p n v h k q quiet agreed z = by_doubt c.sends.in_doubt refl
  where
    forced_one : (u : Luw) → c.sends.in_doubt ≡ None → p.near.holds ≡ Some u → p.forced ≡ true
    forced_one u e w = bool_case p.forced (λ b. p.forced ≡ b → b ≡ true) (λ a f. refl) (λ a f. absurd (cc (h.tied.settled e f, quiet u w))) refl

    by_holds : (o : Option Luw) → p.near.holds ≡ o → c.sends.in_doubt ≡ None → c.receives.last ≡ c.sends.last
    by_holds None w e = k.counted.free z w
    by_holds (Some u) w e =
        let f : p.forced ≡ true = forced_one u e w in
        k.counted.same z u w (agreed u f w ∙ q) ∙ sym (k.counted.operated z u w f)

    by_doubt : (o : Option InDoubt) → c.sends.in_doubt ≡ o → c.receives.last ≡ (data_settled (settled_by (doubt_of o) v) c.sends).last
    by_doubt None e = by_holds p.near.holds refl e
    by_doubt (Some d) e = bool_case (same_unit d.unit v) (λ b. c.receives.last ≡ (data_settled (Some (if b then settles.Commit else settles.Backout)) c.sends).last)
        (λ y. even_commit c p n d h k e (unit_yes d.unit v y ∙ q) z)
        (λ y. even_backout c p n d h k e (λ w. unit_no d.unit v y (w ∙ sym q)) z)

-- the unit that was held is settled
pub settled_numbers : (c : Channel) (p : Past) (n : Count) (o : Option Settle) (m : Sender) → Numbers c p n → (data_settled o c.sends).in_doubt ≡ None
    → (n.set ≡ false → c.receives.last ≡ (data_settled o c.sends).last)
    → ((ending last : ℕ) → FitsNumbers m.state m (data_settled o c.sends).last ending last)
    → Numbers (record c { sends = data_settled o c.sends; sender = m }) (emptied p) n
settled_numbers c p n o m k none even fits = record {
  counted = subst (λ (b : Bool). Counted (emptied p).near false (data_settled o c.sends).last b c.receives.unit (far c).owes c.receives.last n (tales c.out) (tales c.back)) (sym (settled_force o c.sends))
      (count_emptied p.near c.receives.unit (far c).owes (tales c.out) (tales c.back) p.forced c.sends.force c.sends.last c.receives.last (data_settled o c.sends).last n k.counted even);
  in_doubt = λ d e. absurd (cc (none, e));
  fits = fits _ _;
}
  where
    settled_force : (o : Option Settle) (d : SenderData) → (data_settled o d).force ≡ d.force
    settled_force None d = refl
    settled_force (Some settles.Commit) d = refl
    settled_force (Some settles.Backout) d = refl

pub agreed_numbers : (a b : ℕ) (m : Sender) (own ending last : ℕ) → FitsNumbers (agreed a b) m own ending last
agreed_numbers a b m own ending last = bool_case (a == b) (λ t. FitsNumbers (if t then Running else Stopped (SequenceError a b)) m own ending last) (λ z. tt) (λ z. tt)

-- what STATUS rests on
pub record StatusSeen (t : SenderTurn) (c : Channel) (p : Past) : Type 0 where
  pub quiet : Quiet p.near
  pub kept : c.sender.kept ≡ kept_of (Some c.sends)
  pub session : c.sender.kept.session ≡ p.near.session
  pub begun : p.near.begun ≡ 0
  pub told : Mem (Tells c.sender.kept.session (status_unit t.seen) (status_last t.seen)) (tales c.back)

pub status_seen : (t : SenderTurn) (c : Channel) (p : Past) → Facts c p → SeenIn t.seen c.back → (is_binding c.sender.state && is_status c.sender.kept.session t.seen) ≡ true → StatusSeen t c p
status_seen t c p h m line =
    let both = and_both (is_binding c.sender.state) (is_status c.sender.kept.session t.seen) line in
    let state : c.sender.state ≡ Binding = binding_is c.sender.state both.0 in
    let runs : is_running c.sender.state ≡ true = ap is_running state in
    let fits = fits_at c p Binding h.tied state in
    record { quiet = fits.0; kept = h.tied.running runs; session = sym (kept_session c p h.tied runs); begun = fits.1; told = status_told c.sender.kept.session t.seen c.back both.1 m }

pub status_even : (t : SenderTurn) (c : Channel) (p : Past) (n : Count) → Facts c p → Numbers c p n → StatusSeen t c p → ((u : Luw) → p.forced ≡ true → p.near.holds ≡ Some u → u ≡ status_unit t.seen) → n.set ≡ false
    → c.receives.last ≡ (data_settled (settled_by c.sender.kept.doubt (status_unit t.seen)) c.sends).last
status_even t c p n h k s agreed z =
    let v : Luw = status_unit t.seen in
    let unit : v ≡ c.receives.unit = (h.sound.status c.sender.kept.session v (status_last t.seen) s.told).1 s.session s.begun in
    subst (λ (o : Option Doubt). c.receives.last ≡ (data_settled (settled_by o v) c.sends).last) (sym (ap (λ (x : Kept). x.doubt) s.kept)) (even_status c p n v h k unit s.quiet agreed z)

pub numbers_bound : (t : SenderTurn) (c : Channel) (p : Past) (n : Count) → Facts c p → Numbers c p n → SeenIn t.seen c.back → (is_binding c.sender.state && is_status c.sender.kept.session t.seen) ≡ true
    → ((u : Luw) → p.forced ≡ true → p.near.holds ≡ Some u → u ≡ status_unit t.seen)
    → Numbers (sender_done (sends.Bound (settled_by c.sender.kept.doubt (status_unit t.seen)) (status_last t.seen)) t c) (emptied p) n
numbers_bound t c p n h k m line agreed =
    let s : StatusSeen t c p = status_seen t c p h m line in
    let o : Option Settle = settled_by c.sender.kept.doubt (status_unit t.seen) in
    settled_numbers c p n o (bound_with (settled o c.sender.kept) (status_last t.seen) c.sender) k
    (bound_none c.sender.kept.doubt (status_unit t.seen) c.sends (ap (λ (x : Kept). x.doubt) s.kept))
    (status_even t c p n h k s agreed)
    (agreed_numbers (settled o c.sender.kept).last (status_last t.seen) _ _)

pub numbers_committed : (t : SenderTurn) (c : Channel) (p : Past) (n : Count) → Facts c p → Numbers c p n → SeenIn t.seen c.back → (is_waiting c.sender.state && is_ack c.sender.kept.doubt t.seen) ≡ true → WasCommitted c p
    → Numbers (sender_done sends.Commit t c) (emptied p) n
numbers_committed t c p n h k m line was =
    let both = and_both (is_waiting c.sender.state) (is_ack c.sender.kept.doubt t.seen) line in
    let runs : is_running c.sender.state ≡ true = ap is_running (waiting_is c.sender.state both.0) in
    let a : Told c.sender.kept.doubt Acks (tales c.back) = ack_told c.sender.kept.doubt t.seen c.back both.1 m in
    let d : Doubted c.sends.in_doubt a.doubt = doubt_is c.sends.in_doubt a.doubt (sym (ap (λ (x : Kept). x.doubt) (h.tied.running runs)) ∙ a.is) in
    settled_numbers c p n (Some settles.Commit) (done_after c.sender sends.Commit) k refl
    (even_commit c p n d.data_ h k d.is (was d.data_.unit (h.tied.in_doubt d.data_ d.is).0)) (λ ending last. tt)

pub numbers_backed_out : (t : SenderTurn) (c : Channel) (p : Past) (n : Count) (reason : ℕ) → Facts c p → Numbers c p n → SeenIn t.seen c.back → (is_waiting c.sender.state && is_err c.sender.kept.doubt t.seen) ≡ true → WasNot c p
    → Numbers (sender_done (sends.Backout reason) t c) (emptied p) n
numbers_backed_out t c p n reason h k m line was =
    let both = and_both (is_waiting c.sender.state) (is_err c.sender.kept.doubt t.seen) line in
    let runs : is_running c.sender.state ≡ true = ap is_running (waiting_is c.sender.state both.0) in
    let a : Told c.sender.kept.doubt Errs (tales c.back) = err_told c.sender.kept.doubt t.seen c.back both.1 m in
    let d : Doubted c.sends.in_doubt a.doubt = doubt_is c.sends.in_doubt a.doubt (sym (ap (λ (x : Kept). x.doubt) (h.tied.running runs)) ∙ a.is) in
    settled_numbers c p n (Some settles.Backout) (done_after c.sender (sends.Backout reason)) k refl
    (even_backout c p n d.data_ h k d.is (was d.data_.unit (h.tied.in_doubt d.data_ d.is).0).0) (λ ending last. tt)

pub numbers_session : (t : SenderTurn) (c : Channel) (p : Past) (n : Count) → Facts c p → Numbers c p n
    → Numbers (sender_done (sends.HardenSession (c.sender.kept.session + 1)) t c) (past_done (sends.HardenSession (c.sender.kept.session + 1)) t p) n
numbers_session t c p n h k = record {
  counted = count_session p.near (far c) p.content (tales c.out) (tales c.back) p.forced c.sends.force c.sends.last c.receives.last n h.sound k.counted;
  in_doubt = k.in_doubt;
  fits = tt;
}

pub numbers_hailed : (t : SenderTurn) (c : Channel) (p : Past) (n : Count) → Facts c p → Numbers c p n → is_hailing c.sender.state ≡ true
    → Numbers (sender_done sends.PushBind t c) p n
numbers_hailed t c p n h k line =
    let runs : is_running c.sender.state ≡ true = ap is_running (hailing_is c.sender.state line) in
    let P : ℕ → Bool → Type 0 = λ x force. Counted p.near p.forced c.sends.last c.sends.force c.receives.unit (far c).owes c.receives.last n (Binds x c.sender.kept.last force ∷ tales c.out) (tales c.back) in
    record {
      counted = subst (λ (x : ℕ). P x c.sender.kept.force) (kept_session c p h.tied runs)
          (subst (λ (b : Bool). P p.near.session b) (sym (ap (λ (x : Kept). x.force) (h.tied.running runs)))
          (count_bind p.near c.receives.unit (far c).owes (tales c.out) (tales c.back) p.forced c.sends.force c.sends.last c.receives.last c.sender.kept.last n k.counted));
      in_doubt = k.in_doubt;
      fits = tt;
    }

pub count_offers : (s : Near) (unit : Luw) (owes : Option Tale) (out : List Frame) (b : List Tale) (forced force : Bool) (own other : ℕ) (n : Count) (stamp : ℕ) (m : Sender) (k index : ℕ) (o : Option Letter)
    → Counted s forced own force unit owes other n (tales out) b
    → Counted s forced own force unit owes other n (tales (letter_offered stamp m k index o out)) b
count_offers s unit owes out b forced force own other n stamp m k index None q = q
count_offers s unit owes out b forced force own other n stamp m k index (Some l) q = count_msg s unit owes (tales out) b forced force own other n (unit_named m.kept.session k) (index - 1) l q

pub number_kept : (st : SenderState) (last : ℕ) → st ≡ Running → number_sent st last ≡ last
number_kept st last e = ap (λ (x : SenderState). number_sent x last) e

pub numbers_begun : (t : SenderTurn) (c : Channel) (p : Past) (n : Count) (count : ℕ) → Facts c p → Numbers c p n → is_idle c.sender.state ≡ true → count ≡ length t.letters → 1 ≤ count
    → Numbers (sender_done (sends.Begin (c.sender.begun + 1) count) t c) (begun_unit p t.letters) (count_begun t c p n)
numbers_begun t c p n count h k line size one =
    let state : c.sender.state ≡ Running = idle_is c.sender.state line in
    let runs : is_running c.sender.state ≡ true = ap is_running state in
    let fits = fits_at c p Running h.tied state in
    let free : p.forced ≡ false = not_forced c p h.tied fits.1 in
    let u : Luw = unit_named p.near.session (p.near.begun + 1) in
    let wrap : ℕ = c.sender.limits.sequence_wrap in
    let last : ℕ = number_past wrap c.sends.last (length t.letters) in
    let m : Count = count_begun t c p n in
    record {
      counted = count_offers (begun_unit p t.letters).near c.receives.unit (far c).owes c.out (tales c.back) p.forced c.sends.force c.sends.last c.receives.last m t.stamp c.sender (c.sender.begun + 1) 1 (slice_get t.letters 0)
          (subst (λ (b : Bool). Counted (begun_unit p t.letters).near b c.sends.last c.sends.force c.receives.unit (far c).owes c.receives.last m (tales c.out) (tales c.back)) (sym free)
          (count_taken p.near (far c) p.content (tales c.out) (tales c.back) c.sends.force c.sends.last c.receives.last last n h.sound
          (subst (λ (b : Bool). Counted p.near b c.sends.last c.sends.force c.receives.unit (far c).owes c.receives.last n (tales c.out) (tales c.back)) free k.counted) fits.0));
      in_doubt = λ d e. absurd (cc ((h.tied.in_doubt d e).0, fits.0));
      fits = (
        ap (number_after wrap) (number_kept c.sender.state c.sender.kept.last state ∙ ap (λ (x : Kept). x.last) (h.tied.running runs)),
        one,
        ap (λ (b : Bool). if b then last else n.number u) (unit_self u) ∙ ap (number_past wrap c.sends.last) (sym size),
      );
    }

-- a unit that is being sent
pub numbers_sending : (st : SenderState) (m : Sender) (own ending last kept : ℕ) → is_sending st ≡ true → FitsNumbers st m own ending last
    → (number_sent st kept ≡ number_past m.limits.sequence_wrap own (messages_sent st)) × (messages_sent st ≤ m.count) × (last ≡ number_past m.limits.sequence_wrap own m.count)
numbers_sending (Sending sent number) m own ending last kept e f = f
numbers_sending st m own ending last kept e f = absurd cc

pub number_more : (wrap own k : ℕ) → number_past wrap own (k + 1) ≡ number_after wrap (number_past wrap own k)
number_more wrap own k = ap (number_past wrap own) (plus_one k)
  where
    plus_one : (k : ℕ) → k + 1 ≡ suc k
    plus_one k = omega arith

pub lt_means : (a b : ℕ) → nat_lt a b ≡ true → a + 1 ≤ b
lt_means a b e = grind (arith, nat_tests)

pub numbers_pushed : (t : SenderTurn) (c : Channel) (p : Past) (n : Count) → Numbers c p n → (is_sending c.sender.state && nat_lt (messages_sent c.sender.state) c.sender.count) ≡ true
    → Numbers (sender_done (sends.PushMsg (messages_sent c.sender.state + 1)) t c) p n
numbers_pushed t c p n k line =
    let both = and_both (is_sending c.sender.state) (nat_lt (messages_sent c.sender.state) c.sender.count) line in
    let wrap : ℕ = c.sender.limits.sequence_wrap in
    let sent : ℕ = messages_sent c.sender.state in
    let f = numbers_sending c.sender.state c.sender c.sends.last _ (n.number (now p.near)) c.sender.kept.last both.0 k.fits in
    record {
      counted = count_offers p.near c.receives.unit (far c).owes c.out (tales c.back) p.forced c.sends.force c.sends.last c.receives.last n t.stamp c.sender c.sender.begun (sent + 1) (slice_get c.batch sent) k.counted;
      in_doubt = k.in_doubt;
      fits = (ap (number_after wrap) f.0 ∙ sym (number_more wrap c.sends.last sent), lt_means sent c.sender.count both.1, f.2);
    }

pub all_sent : (a b : ℕ) → a ≤ b → nat_lt a b ≡ false → a ≡ b
all_sent a b l e = grind (arith, nat_tests)

pub numbers_prepared : (t : SenderTurn) (c : Channel) (p : Past) (n : Count) → Facts c p → Numbers c p n → is_sending c.sender.state ≡ true → nat_lt (messages_sent c.sender.state) c.sender.count ≡ false
    → Numbers (sender_done sends.Prepare t c) (past_done sends.Prepare t p) n
numbers_prepared t c p n h k line done =
    let runs : is_running c.sender.state ≡ true = sending_runs c.sender.state line in
    let fits = fits_sending c.sender.state c.sender p.near p.content c.batch line h.tied.fits in
    let wrap : ℕ = c.sender.limits.sequence_wrap in
    let f = numbers_sending c.sender.state c.sender c.sends.last _ (n.number (now p.near)) c.sender.kept.last line k.fits in
    let named : now p.near ≡ unit_begun c.sender = (λ z. unit_named (kept_session c p h.tied runs z) (sym fits.2 z)) in
    let last : number_sent c.sender.state c.sender.kept.last ≡ n.number (now p.near) = f.0 ∙ ap (number_past wrap c.sends.last) (all_sent (messages_sent c.sender.state) c.sender.count f.1 done) ∙ sym f.2 in
    record {
      counted = count_prepared p.near c.receives.unit (far c).owes (tales c.out) (tales c.back) p.forced c.sends.force c.sends.last c.receives.last n k.counted;
      in_doubt = λ d e. sym (last_of d e) ∙ last ∙ ap n.number (named ∙ unit_of d e);
      fits = last;
    }
  where
    unit_of : (d : InDoubt) → Some (record { unit = unit_begun c.sender; queue = t.queue; idents = t.idents; last = number_sent c.sender.state c.sender.kept.last }) ≡ Some d → unit_begun c.sender ≡ d.unit
    unit_of d e = ap (λ (o : Option InDoubt). elim o as (λ x. Luw) [ None ↦ unit_begun c.sender | Some x ↦ x.unit ]) e

    last_of : (d : InDoubt) → Some (record { unit = unit_begun c.sender; queue = t.queue; idents = t.idents; last = number_sent c.sender.state c.sender.kept.last }) ≡ Some d → number_sent c.sender.state c.sender.kept.last ≡ d.last
    last_of d e = ap (λ (o : Option InDoubt). elim o as (λ x. ℕ) [ None ↦ 0 | Some x ↦ x.last ]) e

pub numbers_ended : (t : SenderTurn) (c : Channel) (p : Past) (n : Count) → Facts c p → Numbers c p n → is_ready c.sender.state ≡ true
    → Numbers (sender_done sends.PushEnd t c) p n
numbers_ended t c p n h k line =
    let state : c.sender.state ≡ Ready = ready_is c.sender.state line in
    let runs : is_running c.sender.state ≡ true = ap is_running state in
    let fits = fits_at c p Ready h.tied state in
    let kept : c.sender.kept ≡ kept_of (Some c.sends) = h.tied.running runs in
    let named : now p.near ≡ unit_begun c.sender = (λ z. unit_named (kept_session c p h.tied runs z) (sym fits.2 z)) in
    let ending : doubt_last (doubt_of c.sends.in_doubt) c.sends.last ≡ n.number (now p.near) =
    subst (λ (x : SenderState). FitsNumbers x c.sender c.sends.last (doubt_last (doubt_of c.sends.in_doubt) c.sends.last) (n.number (now p.near))) state k.fits in
    let last : doubt_last c.sender.kept.doubt c.sender.kept.last ≡ n.number (unit_begun c.sender) = ap (λ (x : Kept). doubt_last x.doubt x.last) kept ∙ ending ∙ ap n.number named in
    record {
      counted = count_end p.near c.receives.unit (far c).owes (tales c.out) (tales c.back) p.forced c.sends.force c.sends.last c.receives.last n (unit_begun c.sender) c.sender.count (doubt_last c.sender.kept.doubt c.sender.kept.last) k.counted last;
      in_doubt = k.in_doubt;
      fits = tt;
    }

-- nothing was prepared: the batch is released
pub numbers_released : (c : Channel) (p : Past) (n : Count) (m : Sender) → Facts c p → Numbers c p n → p.near.doubt ≡ false → ((own ending last : ℕ) → FitsNumbers m.state m own ending last)
    → Numbers (record c { sender = m }) (emptied p) n
numbers_released c p n m h k e fits = record {
  counted = count_emptied p.near c.receives.unit (far c).owes (tales c.out) (tales c.back) p.forced c.sends.force c.sends.last c.receives.last c.sends.last n k.counted (even_unsent c p n h k e);
  in_doubt = k.in_doubt;
  fits = fits _ _ _;
}

-- Each turn of the sender, by the lines of its table.
abbrev pub Counts : SenderTurn → Channel → Past → Count → SenderDoes → Type 0
Counts t c p n d = Said d t c p → ((u : Luw) (settle : Option Settle) (partner : ℕ) → p.forced ≡ true → p.near.holds ≡ Some u → d ≡ sends.Bound settle partner → u ≡ status_unit t.seen)
    → ((k count : ℕ) → d ≡ sends.Begin k count → (count ≡ length t.letters) × (1 ≤ count))
    → Numbers (sender_done d t c) (past_done d t p) (count_done d t c p n)

pub not_more : (b c : Bool) → (b && c) ≡ false → b ≡ true → c ≡ false
not_more true c e z = e
not_more false c e z = absurd cc

pub done_counts : (t : SenderTurn) (c : Channel) (p : Past) (n : Count) → Facts c p → Numbers c p n → SenderMay t c → Counts t c p n (sender_does t c)
done_counts t c p n h k may = by_lines (Counts t c p n) sends.Still (sender_lines c.sender t.seen t.stock) (
  (λ e s a z. numbers_bound t c p n h k may.offered e (λ u f w. a u _ _ f w refl)),
  λ e0. (
    (λ e s a z. numbers_committed t c p n h k may.offered e s),
    λ e1. (
      (λ e s a z. numbers_backed_out t c p n (err_reason t.seen) h k may.offered e s),
      λ e2. (
        (λ e s a z. k),
        λ e3. (
          (λ e s a z. numbers_session t c p n h k),
          λ e4. (
            (λ e s a z. numbers_hailed t c p n h k e),
            λ e5. (
              (λ e s a z. k),
              λ e6. (
                (λ e s a z. numbers_begun t c p n (min c.sender.limits.batch_size t.stock.free) h k (and_both _ _ (and_both _ _ e).0).0 (z _ _ refl).0 (z _ _ refl).1),
                λ e7. (
                  (λ e s a z. numbers_pushed t c p n k e),
                  λ e8. (
                    (λ e s a z. numbers_prepared t c p n h k e (not_more (is_sending c.sender.state) _ e8 e)),
                    λ e9.
                        ((λ e s a z. numbers_ended t c p n h k e), λ e10. (λ s a z. k)),
                  ),
                ),
              ),
            ),
          ),
        ),
      ),
    ),
  ),
)

pub turned_counts : (o : SenderOut) (t : SenderTurn) (c : Channel) (p : Past) (n : Count) → Facts c p → Numbers c p n → SenderMay t c → SenderAgrees t c p → t.outcome ≡ o
    → Numbers (sender_turned o (sender_does t c) t c) (past_turned o (sender_does t c) t p) (count_turned o (sender_does t c) t c p n)
turned_counts outs.Done t c p n h k may a e = done_counts t c p n h k may (said t c p h may) a.agreed (λ i j z. (may.counted i j z, a.filled i j z))
turned_counts outs.Full t c p n h k may a e = k
turned_counts outs.NoRoom t c p n h k may a e =
    let line : is_sending c.sender.state ≡ true = prepare_sends t c (may.no_room e) in
    numbers_released c p n (sender_after c.sender (sender_does t c) outs.NoRoom) h k (fits_sending c.sender.state c.sender p.near p.content c.batch line h.tied.fits).1 (λ own ending last. tt)

pub sender_turn_counts : (t : SenderTurn) (c : Channel) (p : Past) (n : Count) → Facts c p → Numbers c p n → SenderMay t c → SenderAgrees t c p → Numbers (sender_turn t c) (sender_past t c p) (sender_count t c p n)
sender_turn_counts t c p n h k may a = turned_counts t.outcome t c p n h k may a refl
