-- Where no operator has set a number, the ends agree after each settlement.
use Rattle.std.proofs.Common.{ℕ, ◌≡◌, Bool, true, false, List, refl, ap, sym, ◌∙◌, subst, arith}
use Rattle.std.specs.Prelude.{Option, Some, None, ◌==◌, if◌then◌else◌}
use Rattle.std.specs.Option.{option_map}
use Rattle.std.proofs.lemmas.Bool.Decides.{nat_tests}
use Rattle.mq_sync.specs.declared.unit.Unit.{Unit as Luw}
use Rattle.mq_sync.specs.declared.unit.Settle.{Settle}
use Rattle.mq_sync.specs.declared.data.InDoubt.{InDoubt}
use Rattle.mq_sync.specs.declared.data.SenderData.{SenderData}
use Rattle.mq_sync.specs.declared.data.ReceiverData.{ReceiverData}
use Rattle.mq_sender.specs.declared.state.Kept.{Kept}
use Rattle.mq_sender.specs.declared.state.SenderState.TheVariants.{Stopped, Running}
use Rattle.mq_sender.specs.declared.state.StopCause.TheVariants.{SequenceError}
use Rattle.mq_sender.specs.declared.turns.SenderDoes.{SenderDoes}
use Rattle.mq_sender.specs.declared.turns.SenderDoes.TheVariants as sends
use Rattle.mq_sender.specs.declared.turns.SenderOut.{SenderOut}
use Rattle.mq_sender.specs.declared.turns.SenderOut.TheVariants as outs
use Rattle.mq_sender.specs.States.{doubt_of}
use Rattle.mq_sender.specs.Table.{status_unit, status_last, settled_by, sender_lines}
use Rattle.mq_sender.specs.After.{settled, agreed, doubt_last}
use Rattle.mq_law_channel.specs.Facts.{Letter}
use Rattle.mq_law_channel.specs.Channel.{Channel, Past, Facts}
use Rattle.mq_law_channel.specs.Turns.{SenderTurn, sender_does, sender_done, sender_turned, sender_turn, SenderMay}
use Rattle.mq_law_channel.specs.Opening.{opened, past_opened, doubt_unit}
use Rattle.mq_law_channel.specs.Counting.{Count, Numbers, count_opened, SenderAgrees, Agree}
use Rattle.mq_law_channel.proofs.Told.{by_lines}
use Rattle.mq_law_channel.proofs.Sending.{settled_kept}
use Rattle.mq_law_channel.proofs.Numbering.{StatusSeen, status_seen, status_even}

-- Where the channel begins.
pub no_unit_held : (o : Option InDoubt) → option_map doubt_unit o ≡ None → o ≡ None
no_unit_held None e = refl
no_unit_held (Some d) e = absurd cc

pub record UnitHeld (o : Option InDoubt) (u : Luw) : Type 0 where
  pub doubt : InDoubt
  pub is : o ≡ Some doubt
  pub unit : doubt.unit ≡ u

pub unit_held : (o : Option InDoubt) (u : Luw) → option_map doubt_unit o ≡ Some u → UnitHeld o u
unit_held None u e = absurd cc
unit_held (Some d) u e = record { doubt = d; is = refl; unit = cc e }

pub begins_counting : (s : SenderData) (r : ReceiverData) (letters : List Letter) → Agree s r → Numbers (opened s r) (past_opened s r letters) (count_opened s false)
begins_counting s r letters a = record {
  counted = record {
    ends = λ u k last m. absurd m;
    binds = λ x last m. absurd m;
    forces = λ e. absurd (cc (a.unforced, e));
    free = λ z e. a.free (no_unit_held s.in_doubt e);
    elsewhere = λ z u e new. let d : UnitHeld s.in_doubt u = unit_held s.in_doubt u e in a.elsewhere d.doubt d.is (λ q. new (sym d.unit ∙ q));
    same = λ z u e q. let d : UnitHeld s.in_doubt u = unit_held s.in_doubt u e in a.same d.doubt d.is (d.unit ∙ q) ∙ sym (ap (λ (o : Option InDoubt). doubt_last (doubt_of o) s.last) d.is);
    plain = λ z u e f. refl;
    operated = λ z u e f. absurd cc;
    status = λ z x u last m. absurd m;
    status_owed = λ z x u last e. absurd cc;
  };
  in_doubt = λ d e. sym (ap (λ (o : Option InDoubt). doubt_last (doubt_of o) s.last) e);
  fits = tt;
}

pub begins_set : (s : SenderData) (r : ReceiverData) (letters : List Letter) → Numbers (opened s r) (past_opened s r letters) (count_opened s true)
begins_set s r letters = record {
  counted = record {
    ends = λ u k last m. absurd m;
    binds = λ x last m. absurd m;
    forces = λ e. refl;
    free = λ z. absurd cc;
    elsewhere = λ z. absurd cc;
    same = λ z. absurd cc;
    plain = λ z. absurd cc;
    operated = λ z. absurd cc;
    status = λ z. absurd cc;
    status_owed = λ z. absurd cc;
  };
  in_doubt = λ d e. sym (ap (λ (o : Option InDoubt). doubt_last (doubt_of o) s.last) e);
  fits = tt;
}

-- After STATUS the sender runs.
pub eq_self : (n : ℕ) → (n == n) ≡ true
eq_self n = grind (arith, nat_tests)

pub agreed_runs : (own partner : ℕ) → own ≡ partner → agreed own partner ≡ Running
agreed_runs own partner e = subst (λ (x : ℕ). agreed own x ≡ Running) e (ap (λ (b : Bool). if b then Running else Stopped (SequenceError own own)) (eq_self own))

abbrev pub Runs : SenderTurn → Channel → Past → SenderDoes → Type 0
Runs t c p d = (o : Option Settle) (partner : ℕ) → d ≡ sends.Bound o partner → ((u : Luw) → p.forced ≡ true → p.near.holds ≡ Some u → u ≡ status_unit t.seen) → (sender_done d t c).sender.state ≡ Running

pub done_runs : (t : SenderTurn) (c : Channel) (p : Past) (n : Count) → Facts c p → Numbers c p n → SenderMay t c → n.set ≡ false → Runs t c p (sender_does t c)
done_runs t c p n h k may z = by_lines (Runs t c p) sends.Still (sender_lines c.sender t.seen t.stock) (
  (λ e o partner d a.
      let s : StatusSeen t c p = status_seen t c p h may.offered e in
      let v : Option Settle = settled_by c.sender.kept.doubt (status_unit t.seen) in
      agreed_runs (settled v c.sender.kept).last (status_last t.seen)
      (ap (λ (x : Kept). (settled v x).last) s.kept ∙ ap (λ (x : Kept). x.last) (settled_kept v c.sends) ∙ sym (status_even t c p n h k s a z)
      ∙ sym (k.counted.status z c.sender.kept.session (status_unit t.seen) (status_last t.seen) s.told s.session s.begun))),
  λ e0. (
    (λ e o partner d. absurd cc),
    λ e1. (
      (λ e o partner d. absurd cc),
      λ e2. (
        (λ e o partner d. absurd cc),
        λ e3. (
          (λ e o partner d. absurd cc),
          λ e4. (
            (λ e o partner d. absurd cc),
            λ e5. (
              (λ e o partner d. absurd cc),
              λ e6. (
                (λ e o partner d. absurd cc),
                λ e7. (
                  (λ e o partner d. absurd cc),
                  λ e8. (
                    (λ e o partner d. absurd cc),
                    λ e9.
                        ((λ e o partner d. absurd cc), λ e10. (λ o partner d. absurd cc)),
                  ),
                ),
              ),
            ),
          ),
        ),
      ),
    ),
  ),
)

pub status_runs : (t : SenderTurn) (c : Channel) (p : Past) (n : Count) (o : Option Settle) (partner : ℕ) → Facts c p → Numbers c p n → SenderMay t c → SenderAgrees t c p → n.set ≡ false
    → t.outcome ≡ outs.Done → sender_does t c ≡ sends.Bound o partner → (sender_turn t c).sender.state ≡ Running
status_runs t c p n o partner h k may a z done d =
    subst (λ (x : SenderOut). (sender_turned x (sender_does t c) t c).sender.state ≡ Running) (sym done)
    (done_runs t c p n h k may z o partner d (λ u f w. a.agreed u o partner f w d))
