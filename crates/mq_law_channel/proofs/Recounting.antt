-- Turns of the receiver, timeouts, operators, stops and restarts keep the numbers.
use Rattle.std.proofs.Common.{ℕ, ◌≡◌, ◌≢◌, ◌+◌, Bool, true, false, not, List, [], ◌∷◌, refl, ap, sym, ◌∙◌, subst}
use Rattle.std.specs.Prelude.{Option, Some, None, ◌==◌, ◌&&◌, if◌then◌else◌, nat_lt, is_some}
use Rattle.std.specs.Option.{option_map}
use Rattle.mq_frame.specs.declared.frame.Frame.{Frame}
use Rattle.mq_frame.specs.declared.frame.FrameKind.{FrameKind}
use Rattle.mq_frame.specs.declared.frame.FrameKind.TheVariants.{Bind, Msg, End}
use Rattle.mq_frame.specs.declared.frame.Seen.{Seen}
use Rattle.mq_frame.specs.declared.frame.Seen.TheVariants as items
use Rattle.mq_sync.specs.declared.unit.Unit.{Unit as Luw}
use Rattle.mq_sync.specs.declared.unit.Settle.TheVariants as settles
use Rattle.mq_sync.specs.declared.data.InDoubt.{InDoubt}
use Rattle.mq_sync.specs.declared.data.ReceiverData.{ReceiverData}
use Rattle.mq_sync.specs.Units.{unit_named}
use Rattle.mq_sender.specs.declared.state.Limits.{Limits}
use Rattle.mq_sender.specs.declared.state.SenderState.{SenderState}
use Rattle.mq_sender.specs.declared.state.SenderState.TheVariants.{Inactive, Stopped, Starting}
use Rattle.mq_sender.specs.declared.state.StopCause.TheVariants.{NoAnswer}
use Rattle.mq_sender.specs.declared.state.Sender.{Sender}
use Rattle.mq_sender.specs.States as senders
use Rattle.mq_receiver.specs.declared.state.Owed.{Owed}
use Rattle.mq_receiver.specs.declared.state.Receiver.{Receiver}
use Rattle.mq_receiver.specs.declared.turns.ReceiverDoes.{ReceiverDoes}
use Rattle.mq_receiver.specs.declared.turns.ReceiverDoes.TheVariants as takes
use Rattle.mq_receiver.specs.declared.turns.ReceiverOut.{ReceiverOut}
use Rattle.mq_receiver.specs.declared.turns.ReceiverOut.TheVariants as ends
use Rattle.mq_receiver.specs.States as receivers
use Rattle.mq_receiver.specs.States.{is_bound, is_stopped, latest_begun, messages_came, owed_frame}
use Rattle.mq_receiver.specs.Table.{kind_is_bind, is_new_bind, kind_completes, completes, unit_seen, receiver_lines}
use Rattle.mq_receiver.specs.After.{number_bound, kept_kind, last_by}
use Rattle.mq_law_channel.specs.Facts.{Letter, Tale, Binds, Ends, Tells, Acks, Far, Mem}
use Rattle.mq_law_channel.specs.Channel.{Channel, Past, tale_of, tales, owed_tale, far, Facts}
use Rattle.mq_law_channel.specs.Turns.{SeenIn, data_settled, emptied, released, sender_started, sender_stopped, sender_rests, sender_timed_out, sender_numbered, receiver_numbered, resolved, undone, past_resolved, receiver_started, is_open, receiver_stopped, receiver_halted, receiver_rests, answered, ReceiverTurn, receiver_does, receiver_done, receiver_turned, receiver_turn, ReceiverMay}
use Rattle.mq_law_channel.specs.Counting.{Count, Counted, Numbers, FitsNumbers, count_set}
use Rattle.mq_law_channel.proofs.Told.{bool_case, by_lines, and_both, mem_tale}
use Rattle.mq_law_channel.proofs.Receiving.{owed_tells, EndTale}
use Rattle.mq_law_channel.proofs.Taken.{place_told}
use Rattle.mq_law_channel.proofs.Following.{awaited}
use Rattle.mq_law_channel.proofs.Counting.{count_emptied, count_binding, count_commit, count_acked, count_refused, count_answered, count_silent, count_reset, count_operated}
use Rattle.mq_law_channel.proofs.Numbering.{even_backout, numbers_released}

-- what the receiver's side becomes
pub retook : (c : Channel) (p : Past) (n : Count) (d : ReceiverData) (m : Receiver) (kept : List Letter) (back : List Frame) → Numbers c p n
    → Counted p.near p.forced c.sends.last c.sends.force d.unit (option_map owed_tale m.owes) d.last n (tales c.out) (tales back)
    → Numbers (record c { receives = d; receiver = m; kept = kept; back = back }) p n
retook c p n d m kept back k counted = record { counted = counted; in_doubt = k.in_doubt; fits = k.fits }

pub count_owed : (c : Channel) (p : Past) (n : Count) (stamp : ℕ) (o : Option Owed) → Numbers c p n → c.receiver.owes ≡ o → is_some o ≡ true
    → Counted p.near p.forced c.sends.last c.sends.force c.receives.unit None c.receives.last n (tales c.out) (tales (answered stamp o c.back))
count_owed c p n stamp None k e z = absurd cc
count_owed c p n stamp (Some o) k e z =
    subst (λ (a : Tale). Counted p.near p.forced c.sends.last c.sends.force c.receives.unit None c.receives.last n (tales c.out) (a ∷ tales c.back)) (sym (owed_tells stamp o))
    (count_answered p.near c.receives.unit (far c).owes (tales c.out) (tales c.back) p.forced c.sends.force c.sends.last c.receives.last n (owed_tale o) k.counted (ap (option_map owed_tale) e))

-- BIND with its numbers
pub record BindNumbers (session own : ℕ) (k : FrameKind) : Type 0 where
  pub last : ℕ
  pub force : Bool
  pub told : tale_of session k ≡ Binds session last force
  pub number : number_bound own k ≡ (if force then last else own)

pub bind_numbers : (session own : ℕ) (k : FrameKind) → kind_is_bind k ≡ true → BindNumbers session own k
bind_numbers session own (Bind last force) e = record { last = last; force = force; told = refl; number = refl }
bind_numbers session own k e = absurd cc

pub numbers_bind : (stamp : ℕ) (seen : Seen) (defined : Bool) (o : ReceiverOut) (c : Channel) (p : Past) (n : Count) → Facts c p → Numbers c p n → SeenIn seen c.out
    → (is_new_bind c.receiver seen && defined && not (is_stopped c.receiver.state)) ≡ true
    → Numbers (receiver_done takes.Bind (record { stamp = stamp; seen = seen; defined = defined; outcome = o }) c) p n
numbers_bind stamp items.Nothing defined o c p n h k m line = absurd cc
numbers_bind stamp items.Spoiled defined o c p n h k m line = absurd cc
numbers_bind stamp (items.Frame f) defined o c p n h k m line =
    let new = (and_both _ _ (and_both _ _ line).0).0 in
    let b : BindNumbers f.session c.receiver.last f.kind = bind_numbers f.session c.receiver.last f.kind (and_both _ _ new).0 in
    let number : number_bound c.receiver.last f.kind ≡ (if b.force then b.last else c.receives.last) = b.number ∙ ap (λ (x : ℕ). if b.force then b.last else x) h.tied.bound_last in
    let P : ℕ → Luw → Type 0 = λ x u. Counted p.near p.forced c.sends.last c.sends.force c.receives.unit (Some (Tells f.session u x)) x n (tales c.out) (tales c.back) in
    retook c p n _ _ [] c.back k
    (subst (λ (x : ℕ). P x c.receiver.unit) (sym number) (subst (λ (u : Luw). P (if b.force then b.last else c.receives.last) u) (sym h.tied.bound_unit)
    (count_binding p.near c.receives.unit (far c).owes (tales c.out) (tales c.back) p.forced c.sends.force c.sends.last c.receives.last f.session b.last b.force n k.counted
    (subst (λ (a : Tale). Mem a (tales c.out)) b.told (mem_tale f c.out m)))))

-- a message that is kept changes no number and no debt
pub kept_owes : (k : FrameKind) (m : Receiver) → (kept_kind k m).owes ≡ m.owes
kept_owes (Msg n index number dest message) m = refl
kept_owes k m = refl

pub numbers_keep : (stamp : ℕ) (seen : Seen) (defined : Bool) (o : ReceiverOut) (c : Channel) (p : Past) (n : Count) → Numbers c p n
    → Numbers (receiver_done takes.Keep (record { stamp = stamp; seen = seen; defined = defined; outcome = o }) c) p n
numbers_keep stamp items.Nothing defined o c p n k = k
numbers_keep stamp items.Spoiled defined o c p n k = k
numbers_keep stamp (items.Frame f) defined o c p n k =
    retook c p n c.receives _ _ c.back k
    (subst (λ (x : Option Owed). Counted p.near p.forced c.sends.last c.sends.force c.receives.unit (option_map owed_tale x) c.receives.last n (tales c.out) (tales c.back)) (sym (kept_owes f.kind c.receiver)) k.counted)

-- END with its last number
pub record EndNumbers (seen : Seen) (own : ℕ) (f : List Tale) : Type 0 where
  pub count : ℕ
  pub told : Mem (Ends (unit_seen seen) count (last_by seen own)) f

pub end_kind : (stamp x own : ℕ) (k : FrameKind) (m : Receiver) (out : List Frame) → Mem (record { stamp = stamp; session = x; kind = k }) out
    → ((is_bound m.state && (x == m.session)) && kind_completes m k) ≡ true → EndNumbers (items.Frame (record { stamp = stamp; session = x; kind = k })) own (tales out)
end_kind stamp x own (End n count last) m out mem line = record { count = count; told = mem_tale (record { stamp = stamp; session = x; kind = End n count last }) out mem }
end_kind stamp x own k m out mem line = absurd (no_more (is_bound m.state && (x == m.session)) line)
  where
    no_more : (b : Bool) → (b && false) ≡ true → ⊥
    no_more true e = cc
    no_more false e = cc

pub end_numbers : (seen : Seen) (own : ℕ) (m : Receiver) (out : List Frame) → SeenIn seen out → completes m seen ≡ true → EndNumbers seen own (tales out)
end_numbers items.Nothing own m out mem line = absurd cc
end_numbers items.Spoiled own m out mem line = absurd cc
end_numbers (items.Frame f) own m out mem line = end_kind f.stamp f.session own f.kind m out mem line

pub numbers_placed : (t : ReceiverTurn) (c : Channel) (p : Past) (n : Count) (u : Luw) → Facts c p → Numbers c p n → EndTale c u → p.near.holds ≡ Some u → u ≡ unit_seen t.seen → EndNumbers t.seen c.receiver.last (tales c.out)
    → Numbers (receiver_done (takes.Place u) t c) p n
numbers_placed t c p n u h k e held seen told =
    let r : Far = far c in
    let v : Luw = unit_named r.session r.latest in
    let last : ℕ = last_by t.seen c.receiver.last in
    retook c p n _ _ [] c.back k
    (subst (λ (w : Luw). Counted p.near p.forced c.sends.last c.sends.force w (Some (Acks w)) last n (tales c.out) (tales c.back)) (sym e.unit)
    (count_commit p.near r p.content (tales c.out) (tales c.back) p.forced c.sends.force c.sends.last c.receives.last told.count last n h.sound k.counted
    (subst (λ (w : Luw). Mem (Ends w told.count last) (tales c.out)) (sym seen ∙ e.unit) told.told) (held ∙ ap Some e.unit)))

abbrev pub Counts : ReceiverTurn → Channel → Past → Count → ReceiverDoes → Type 0
Counts t c p n d = ((u : Luw) → d ≡ takes.Place u → EndTale c u × (p.near.holds ≡ Some u)) → Numbers (receiver_done d t c) p n

pub done_counts : (t : ReceiverTurn) (c : Channel) (p : Past) (n : Count) → Facts c p → Numbers c p n → ReceiverMay t c p → Counts t c p n (receiver_does t c)
done_counts t c p n h k may = by_lines (Counts t c p n) takes.Still (receiver_lines c.receiver t.seen t.defined) (
  (λ e z. retook c p n c.receives (record c.receiver { owes = None }) c.kept (answered t.stamp c.receiver.owes c.back) k (count_owed c p n t.stamp c.receiver.owes k refl e)),
  λ e0. (
    (λ e z. numbers_bind t.stamp t.seen t.defined t.outcome c p n h k may.offered e),
    λ e1. (
      (λ e z. numbers_keep t.stamp t.seen t.defined t.outcome c p n k),
      λ e2. (
        (λ e z. retook c p n c.receives _ c.kept c.back k (count_acked p.near c.receives.unit (far c).owes (tales c.out) (tales c.back) p.forced c.sends.force c.sends.last c.receives.last n c.receiver.unit k.counted)),
        λ e3. (
          (λ e z. numbers_placed t c p n (unit_seen t.seen) h k (z _ refl).0 (z _ refl).1 refl (end_numbers t.seen c.receiver.last c.receiver c.out may.offered e)),
          λ e4. (
            (λ e z. retook c p n _ _ [] c.back k k.counted),
            λ e5.
                ((λ e z. k), λ e6. (λ z. k)),
          ),
        ),
      ),
    ),
  ),
)

pub numbers_refused : (t : ReceiverTurn) (c : Channel) (p : Past) (n : Count) (u : Luw) (reason : ℕ) → Numbers c p n → Numbers (receiver_turned (ends.Refused reason) (takes.Place u) t c) p n
numbers_refused t c p n u reason k = retook c p n _ _ [] c.back k (count_refused p.near c.receives.unit (far c).owes (tales c.out) (tales c.back) p.forced c.sends.force c.sends.last c.receives.last n u k.counted)

pub turned_counts : (o : ReceiverOut) (t : ReceiverTurn) (c : Channel) (p : Past) (n : Count) → Facts c p → Numbers c p n → ReceiverMay t c p → t.outcome ≡ o → Numbers (receiver_turned o (receiver_does t c) t c) p n
turned_counts ends.Done t c p n h k may e = done_counts t c p n h k may (λ u z. (place_told t c p h may u z, (awaited t c p u h may z (may.agreed u e z)).held))
turned_counts ends.Full t c p n h k may e = k
turned_counts (ends.Refused reason) t c p n h k may e =
    let q = may.refused reason e in
    subst (λ (d : ReceiverDoes). Numbers (receiver_turned (ends.Refused reason) d t c) p n) (sym q.1) (numbers_refused t c p n q.0 reason k)

pub receiver_turn_counts : (t : ReceiverTurn) (c : Channel) (p : Past) (n : Count) → Facts c p → Numbers c p n → ReceiverMay t c p → Numbers (receiver_turn t c) p n
receiver_turn_counts t c p n h k may = turned_counts t.outcome t c p n h k may refl

-- Timeouts, operators, stops and restarts.
pub machine_counts : (c : Channel) (p : Past) (n : Count) (m : Sender) → Numbers c p n → ((own ending last : ℕ) → FitsNumbers m.state m own ending last) → Numbers (record c { sender = m }) p n
machine_counts c p n m k fits = record { counted = k.counted; in_doubt = k.in_doubt; fits = fits _ _ _ }

pub timeouts_count : (c : Channel) (p : Past) (n : Count) → Numbers c p n → Numbers (sender_timed_out c) p n
timeouts_count c p n k = bool_case (senders.awaits c.sender.state) (λ b. Numbers (record c { sender = if b then senders.tried_again c.sender else c.sender }) p n)
    (λ e. bool_case (nat_lt c.sender.tries c.sender.limits.short_retry) (λ b. Numbers (record c { sender = if b then record c.sender { state = Starting; tries = c.sender.tries + 1 } else record c.sender { state = Stopped NoAnswer } }) p n)
    (λ f. machine_counts c p n (record c.sender { state = Starting; tries = c.sender.tries + 1 }) k (λ own ending last. tt))
    (λ f. machine_counts c p n (record c.sender { state = Stopped NoAnswer }) k (λ own ending last. tt)))
    (λ e. k)

pub sender_starts_counting : (limits : Limits) (c : Channel) (p : Past) (n : Count) → Numbers c p n → Numbers (sender_started limits c) p n
sender_starts_counting limits c p n k = machine_counts c p n (senders.started (senders.kept_of (Some c.sends)) limits) k (λ own ending last. tt)

pub sender_halts_counting : (m : Sender) (c : Channel) (p : Past) (n : Count) → Facts c p → Numbers c p n → ((own ending last : ℕ) → FitsNumbers m.state m own ending last) → Numbers (record c { sender = m }) (released p) n
sender_halts_counting m c p n h k fits = bool_case p.near.doubt (λ b. p.near.doubt ≡ b → Numbers (record c { sender = m }) (if b then p else emptied p) n)
    (λ e d. machine_counts c p n m k fits) (λ e d. numbers_released c p n m h k d fits) refl

pub sender_stops_counting : (c : Channel) (p : Past) (n : Count) → Facts c p → Numbers c p n → Numbers (sender_stopped c) (released p) n
sender_stops_counting c p n h k = sender_halts_counting (senders.stopped c.sender) c p n h k (λ own ending last. tt)

pub sender_rests_counting : (m : Sender) (c : Channel) (p : Past) (n : Count) → Facts c p → Numbers c p n → m.state ≡ Inactive → Numbers (sender_rests m c) (released p) n
sender_rests_counting m c p n h k e = sender_halts_counting m c p n h k (λ own ending last. subst (λ (st : SenderState). FitsNumbers st m own ending last) (sym e) tt)

-- what a sender that doesn't run says of numbers
pub resting_numbers : (st : SenderState) (m : Sender) (own ending last : ℕ) → senders.is_running st ≡ false → FitsNumbers st m own ending last
resting_numbers Inactive m own ending last e = tt
resting_numbers (Stopped cause) m own ending last e = tt
resting_numbers st m own ending last e = absurd cc

pub sender_resets_counting : (last : ℕ) (c : Channel) (p : Past) (n : Count) → Numbers c p n → senders.is_running c.sender.state ≡ false → c.sends.in_doubt ≡ None → Numbers (sender_numbered last c) p (count_set n)
sender_resets_counting last c p n k off none = record {
  counted = count_reset p.near c.receives.unit (far c).owes (tales c.out) (tales c.back) p.forced c.sends.force true c.sends.last c.receives.last last c.receives.last n k.counted;
  in_doubt = k.in_doubt;
  fits = resting_numbers c.sender.state c.sender _ _ _ off;
}

pub receiver_resets_counting : (last : ℕ) (c : Channel) (p : Past) (n : Count) → Numbers c p n → Numbers (receiver_numbered last c) p (count_set n)
receiver_resets_counting last c p n k = record {
  counted = count_reset p.near c.receives.unit (far c).owes (tales c.out) (tales c.back) p.forced c.sends.force c.sends.force c.sends.last c.receives.last c.sends.last last n k.counted;
  in_doubt = k.in_doubt;
  fits = k.fits;
}

pub resolves_commit_counting : (c : Channel) (p : Past) (n : Count) (d : InDoubt) → Facts c p → Numbers c p n → senders.is_running c.sender.state ≡ false → c.sends.in_doubt ≡ Some d
    → Numbers (resolved settles.Commit c) (past_resolved settles.Commit d p) n
resolves_commit_counting c p n d h k off e =
    let own : ℕ = (data_settled (Some settles.Commit) c.sends).last in
    record {
      counted = count_operated p.near c.receives.unit (far c).owes (tales c.out) (tales c.back) p.forced c.sends.force c.sends.last c.receives.last own n d.unit k.counted (h.tied.in_doubt d e).0
          (ap (λ (o : Option InDoubt). senders_last o) e ∙ k.in_doubt d e);
      in_doubt = λ q z. absurd cc;
      fits = resting_numbers c.sender.state c.sender _ _ _ off;
    }
  where
    senders_last : Option InDoubt → ℕ
    senders_last o = (data_settled (Some settles.Commit) (record c.sends { in_doubt = o })).last

pub resolves_backout_counting : (c : Channel) (p : Past) (n : Count) (d : InDoubt) → Facts c p → Numbers c p n → senders.is_running c.sender.state ≡ false → c.sends.in_doubt ≡ Some d → d.unit ≢ c.receives.unit
    → Numbers (resolved settles.Backout c) (past_resolved settles.Backout d p) n
resolves_backout_counting c p n d h k off e new =
    let w = h.tied.in_doubt d e in
    let q : Counted (emptied p).near false c.sends.last c.sends.force c.receives.unit (far c).owes c.receives.last n (tales c.out) (tales c.back) =
    count_emptied p.near c.receives.unit (far c).owes (tales c.out) (tales c.back) p.forced c.sends.force c.sends.last c.receives.last c.sends.last n k.counted (even_backout c p n d h k e new) in
    record {
      counted = subst (λ (b : Bool). Counted (undone d.unit p).near b c.sends.last c.sends.force c.receives.unit (far c).owes c.receives.last n (tales c.out) (tales c.back)) (sym w.2)
          (record { ends = q.ends; binds = q.binds; forces = q.forces; free = q.free; elsewhere = q.elsewhere; same = q.same; plain = q.plain; operated = q.operated; status = q.status; status_owed = q.status_owed });
      in_doubt = λ x z. absurd cc;
      fits = resting_numbers c.sender.state c.sender _ _ _ off;
    }

pub receiver_starts_counting : (c : Channel) (p : Past) (n : Count) → Numbers c p n → Numbers (receiver_started c) p n
receiver_starts_counting c p n k = retook c p n c.receives (receivers.started c.receiver) c.kept c.back k k.counted

pub receiver_stops_counting : (c : Channel) (p : Past) (n : Count) → Numbers c p n → Numbers (receiver_stopped c) p n
receiver_stops_counting c p n k = bool_case (is_open c.receives) (λ b. Numbers (record c { receives = if b then record c.receives { closed = true } else c.receives; receiver = receivers.stopped c.receiver; kept = []; back = c.back }) p n)
    (λ e. retook c p n (record c.receives { closed = true }) (receivers.stopped c.receiver) [] c.back k k.counted)
    (λ e. retook c p n c.receives (receivers.stopped c.receiver) [] c.back k k.counted)

pub receiver_rests_counting : (c : Channel) (p : Past) (n : Count) → Numbers c p n → Numbers (receiver_rests c) p n
receiver_rests_counting c p n k = retook c p n c.receives (receivers.receiver_of (Some c.receives)) [] c.back k (count_silent p.near c.receives.unit (far c).owes (tales c.out) (tales c.back) p.forced c.sends.force c.sends.last c.receives.last n k.counted)

pub receiver_halts_counting : (c : Channel) (p : Past) (n : Count) → Numbers c p n → Numbers (receiver_halted c) p n
receiver_halts_counting c p n k = retook c p n c.receives (receivers.halted c.receiver) [] c.back k (count_silent p.near c.receives.unit (far c).owes (tales c.out) (tales c.back) p.forced c.sends.force c.sends.last c.receives.last n k.counted)
