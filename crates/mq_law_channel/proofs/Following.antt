-- What follows from the facts.
use Rattle.std.proofs.Common.{ℕ, ◌≡◌, true, false, refl, ap, sym, ◌∙◌, subst}
use Rattle.std.specs.Prelude.{Option, Some, None, if◌then◌else◌}
use Rattle.mq_sync.specs.declared.unit.Unit.{Unit as Luw}
use Rattle.mq_sync.specs.declared.unit.Settle.TheVariants as settles
use Rattle.mq_sync.specs.declared.data.InDoubt.{InDoubt}
use Rattle.mq_sync.specs.Units.{unit_named, same_unit, Below}
use Rattle.mq_sync.specs.declared.data.Doubt.{Doubt}
use Rattle.mq_sender.specs.declared.state.Kept.{Kept}
use Rattle.mq_sender.specs.declared.state.SenderState.TheVariants.{Binding}
use Rattle.mq_sender.specs.declared.turns.SenderDoes.{SenderDoes}
use Rattle.mq_sender.specs.declared.turns.SenderDoes.TheVariants as sends
use Rattle.mq_sender.specs.States.{doubt_of, is_running}
use Rattle.mq_sender.specs.Table.{is_binding, is_waiting, is_status, is_ack, is_err, status_unit, status_last, settled_by, sender_lines}
use Rattle.mq_receiver.specs.declared.turns.ReceiverDoes.TheVariants as takes
use Rattle.mq_receiver.specs.States.{messages_came}
use Rattle.mq_law_channel.specs.Facts.{Ends, Acks, Errs, Mem, Dead, Far}
use Rattle.mq_law_channel.specs.Channel.{Channel, Past, tales, far, Facts}
use Rattle.mq_law_channel.specs.Turns.{SenderTurn, sender_does, SenderMay, ReceiverTurn, receiver_does, ReceiverMay}
use Rattle.mq_law_channel.specs.Following.{Placed, Awaited, Settled, Said}
use Rattle.mq_law_channel.proofs.Core.{by_ack, by_status, whole, in_doubt, rises}
use Rattle.mq_law_channel.proofs.Told.{bool_case, by_lines, and_both, unit_yes, unit_no, status_told, Told, ack_told, err_told, Doubted, doubt_is}
use Rattle.mq_law_channel.proofs.Sending.{binding_is, waiting_is, fits_at, kept_session}
use Rattle.mq_law_channel.proofs.Receiving.{EndTale}
use Rattle.mq_law_channel.proofs.Taken.{place_told}

-- A receiver's commit.
pub placed : (t : ReceiverTurn) (c : Channel) (p : Past) (u : Luw) → Facts c p → ReceiverMay t c p → receiver_does t c ≡ takes.Place u → Placed c p u
placed t c p u h may d =
    let e : EndTale c u = place_told t c p h may u d in
    let r : Far = far c in
    let told : Mem (Ends (unit_named r.session r.latest) _ e.last) (tales c.out) = subst (λ (k : ℕ). Mem (Ends (unit_named r.session r.latest) k e.last) (tales c.out)) (h.tied.came e.on e.new) e.told in
    record {
      open_ = (ap (λ (v : Luw). v.session) e.unit, (h.sound.bound e.on).0);
      whole = whole p.near r p.content (tales c.out) (tales c.back) e.last h.sound told e.on e.new ∙ ap p.content (sym e.unit);
      rises = subst (λ (v : Luw). Below c.receives.unit v) (sym e.unit) (rises p.near r p.content (tales c.out) (tales c.back) h.sound e.on e.new);
    }

pub doubted : (o : Option InDoubt) (u : Luw) → ((o ≡ None) → ⊥) → ((d : InDoubt) → o ≡ Some d → d.unit ≡ u) → (d : InDoubt) × ((o ≡ Some d) × (d.unit ≡ u))
doubted None u a b = absurd (a refl)
doubted (Some d) u a b = (d, (refl, b d refl))

pub awaited : (t : ReceiverTurn) (c : Channel) (p : Past) (u : Luw) → Facts c p → ReceiverMay t c p → receiver_does t c ≡ takes.Place u → p.near.undone u ≡ false → Awaited c p u
awaited t c p u h may d agreed =
    let e : EndTale c u = place_told t c p h may u d in
    let r : Far = far c in
    let k = in_doubt p.near r p.content (tales c.out) (tales c.back) (messages_came c.receiver.state) e.last h.sound e.told e.on e.new (subst (λ (v : Luw). p.near.undone v ≡ false) e.unit agreed) in
    let held : p.near.holds ≡ Some u = k.0 ∙ ap Some (sym e.unit) in
    record {
      held = held;
      prepared = k.1;
      in_doubt = λ f. doubted c.sends.in_doubt u (λ z. cc (h.tied.settled z f, k.1)) (λ q z. let w = (h.tied.in_doubt q z).0 in cc (w, held));
    }

-- A sender's settlement.
pub right : (o : Option InDoubt) (v : Luw) (c : Channel) (p : Past) → v ≡ c.receives.unit → ((d : InDoubt) → o ≡ Some d → p.near.holds ≡ Some d.unit)
    → ((u : Luw) → p.near.holds ≡ Some u → Dead (far c) u.session) → Settled (settled_by (doubt_of o) v) c p
right None v c p e held dead = tt
right (Some d) v c p e held dead = bool_case (same_unit d.unit v) (λ b. Settled (Some (if b then settles.Commit else settles.Backout)) c p)
    (λ z u w. let q : d.unit ≡ u = cc (held d refl, w) in sym q ∙ unit_yes d.unit v z ∙ e)
    (λ z u w. ((λ y. let q : d.unit ≡ u = cc (held d refl, w) in unit_no d.unit v z (q ∙ y ∙ sym e)), dead u w))

abbrev pub SaidBy : SenderTurn → Channel → Past → SenderDoes → Type 0
SaidBy t c p d = Said d t c p

pub said : (t : SenderTurn) (c : Channel) (p : Past) → Facts c p → SenderMay t c → Said (sender_does t c) t c p
said t c p h may = by_lines (SaidBy t c p) sends.Still (sender_lines c.sender t.seen t.stock) (
  (λ e.
      let both = and_both (is_binding c.sender.state) (is_status c.sender.kept.session t.seen) e in
      let state : c.sender.state ≡ Binding = binding_is c.sender.state both.0 in
      let runs : is_running c.sender.state ≡ true = ap is_running state in
      let fits = fits_at c p Binding h.tied state in
      let m = status_told c.sender.kept.session t.seen c.back both.1 may.offered in
      let here : c.sender.kept.session ≡ p.near.session = sym (kept_session c p h.tied runs) in
      let unit : status_unit t.seen ≡ c.receives.unit = (h.sound.status c.sender.kept.session (status_unit t.seen) (status_last t.seen) m).1 here fits.1 in
      let dead : (u : Luw) → p.near.holds ≡ Some u → Dead (far c) u.session = λ u w. (by_status p.near (far c) p.content (tales c.out) (tales c.back) c.sender.kept.session (status_last t.seen) (status_unit t.seen) u h.sound m here fits.1 w).1 in
      let kept : c.sender.kept.doubt ≡ doubt_of c.sends.in_doubt = ap (λ (k : Kept). k.doubt) (h.tied.running runs) in
      (unit, dead, subst (λ (o : Option Doubt). Settled (settled_by o (status_unit t.seen)) c p) (sym kept) (right c.sends.in_doubt (status_unit t.seen) c p unit (λ d z. (h.tied.in_doubt d z).0) dead))),
  λ e0. (
    (λ e u w.
        let both = and_both (is_waiting c.sender.state) (is_ack c.sender.kept.doubt t.seen) e in
        let runs : is_running c.sender.state ≡ true = ap is_running (waiting_is c.sender.state both.0) in
        let a : Told c.sender.kept.doubt Acks (tales c.back) = ack_told c.sender.kept.doubt t.seen c.back both.1 may.offered in
        let d : Doubted c.sends.in_doubt a.doubt = doubt_is c.sends.in_doubt a.doubt (sym (ap (λ (k : Kept). k.doubt) (h.tied.running runs)) ∙ a.is) in
        let held : p.near.holds ≡ Some a.doubt.unit = (h.tied.in_doubt d.data_ d.is).0 ∙ ap Some d.unit in
        let q : a.doubt.unit ≡ u = cc (held, w) in
        sym q ∙ by_ack p.near (far c) p.content (tales c.out) (tales c.back) a.doubt.unit h.sound a.told held),
    λ e1. (
      (λ e u w.
          let both = and_both (is_waiting c.sender.state) (is_err c.sender.kept.doubt t.seen) e in
          let runs : is_running c.sender.state ≡ true = ap is_running (waiting_is c.sender.state both.0) in
          let a : Told c.sender.kept.doubt Errs (tales c.back) = err_told c.sender.kept.doubt t.seen c.back both.1 may.offered in
          let d : Doubted c.sends.in_doubt a.doubt = doubt_is c.sends.in_doubt a.doubt (sym (ap (λ (k : Kept). k.doubt) (h.tied.running runs)) ∙ a.is) in
          let held : p.near.holds ≡ Some a.doubt.unit = (h.tied.in_doubt d.data_ d.is).0 ∙ ap Some d.unit in
          let q : a.doubt.unit ≡ u = cc (held, w) in
          let k = h.sound.errs a.doubt.unit a.told in
          ((λ y. k.1 (sym (q ∙ y))), subst (λ (v : Luw). Dead (far c) v.session) q k.0)),
      λ e2. (
        (λ e. tt),
        λ e3. (
          (λ e. tt),
          λ e4. (
            (λ e. tt),
            λ e5. (
              (λ e. tt),
              λ e6. (
                (λ e. tt),
                λ e7. (
                  (λ e. tt),
                  λ e8. (
                    (λ e. tt),
                    λ e9.
                        ((λ e. tt), λ e10. tt),
                  ),
                ),
              ),
            ),
          ),
        ),
      ),
    ),
  ),
)
