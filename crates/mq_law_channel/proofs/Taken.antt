-- Each turn of the receiver, by the lines of its table.
use Rattle.std.proofs.Common.{◌≡◌, false, refl, ap, sym, subst}
use Rattle.mq_sync.specs.declared.unit.Unit.{Unit as Luw}
use Rattle.mq_receiver.specs.declared.turns.ReceiverDoes.{ReceiverDoes}
use Rattle.mq_receiver.specs.declared.turns.ReceiverDoes.TheVariants as takes
use Rattle.mq_receiver.specs.declared.turns.ReceiverOut.{ReceiverOut}
use Rattle.mq_receiver.specs.declared.turns.ReceiverOut.TheVariants as ends
use Rattle.mq_receiver.specs.Table.{receiver_lines}
use Rattle.mq_law_channel.specs.Channel.{Channel, Past, Facts}
use Rattle.mq_law_channel.specs.Turns.{ReceiverTurn, receiver_does, receiver_done, receiver_turned, receiver_turn, ReceiverMay}
use Rattle.mq_law_channel.proofs.Told.{by_lines}
use Rattle.mq_law_channel.proofs.Receiving.{pushes_owed, binds_new, keeps_new, acknowledges_again, EndTale, ends_told, places_unit, refuses_unit, closes_session}

-- what a turn does keeps the facts, where no unit is committed that an operator has backed out
abbrev pub Keeps : ReceiverTurn → Channel → Past → ReceiverDoes → Type 0
Keeps t c p d = ((u : Luw) → d ≡ takes.Place u → p.near.undone u ≡ false) → Facts (receiver_done d t c) p

pub done_keeps : (t : ReceiverTurn) (c : Channel) (p : Past) → Facts c p → ReceiverMay t c p → Keeps t c p (receiver_does t c)
done_keeps t c p h may = by_lines (Keeps t c p) takes.Still (receiver_lines c.receiver t.seen t.defined) (
  (λ e z. pushes_owed t c p h e),
  λ e0. (
    (λ e z. binds_new t.stamp t.seen t.defined t.outcome c p h may.offered e),
    λ e1. (
      (λ e z. keeps_new t.stamp t.seen t.defined t.outcome c p h may.offered e),
      λ e2. (
        (λ e z. acknowledges_again t c p h),
        λ e3. (
          (λ e z. places_unit t c p _ h (ends_told t.seen c p h.tied may.offered e3 e) (z _ refl)),
          λ e4. (
            (λ e z. closes_session t c p h),
            λ e5.
                ((λ e z. h), λ e6. (λ z. h)),
          ),
        ),
      ),
    ),
  ),
)

-- what a turn of this kind says of the END that it saw
abbrev pub SawEnd : Channel → ReceiverDoes → Type 0
SawEnd c d = (u : Luw) → d ≡ takes.Place u → EndTale c u

pub place_told : (t : ReceiverTurn) (c : Channel) (p : Past) → Facts c p → ReceiverMay t c p → SawEnd c (receiver_does t c)
place_told t c p h may = by_lines (SawEnd c) takes.Still (receiver_lines c.receiver t.seen t.defined) (
  (λ e u z. absurd cc),
  λ e0. (
    (λ e u z. absurd cc),
    λ e1. (
      (λ e u z. absurd cc),
      λ e2. (
        (λ e u z. absurd cc),
        λ e3. (
          (λ e u z. subst (EndTale c) (unit_placed _ u z) (ends_told t.seen c p h.tied may.offered e3 e)),
          λ e4. (
            (λ e u z. absurd cc),
            λ e5.
                ((λ e u z. absurd cc), λ e6. (λ u z. absurd cc)),
          ),
        ),
      ),
    ),
  ),
)
  where
    unit_placed : (v u : Luw) → takes.Place v ≡ takes.Place u → v ≡ u
    unit_placed v u e = ap (λ (d : ReceiverDoes). elim d as (λ x. Luw) [ takes.Place w ↦ w | _ ↦ u ]) e

pub turned_keeps : (o : ReceiverOut) (t : ReceiverTurn) (c : Channel) (p : Past) → Facts c p → ReceiverMay t c p → t.outcome ≡ o
    → Facts (receiver_turned o (receiver_does t c) t c) p
turned_keeps ends.Done t c p h may e = done_keeps t c p h may (λ u z. may.agreed u e z)
turned_keeps ends.Full t c p h may e = h
turned_keeps (ends.Refused reason) t c p h may e =
    let placed = may.refused reason e in
    subst (λ (d : ReceiverDoes). Facts (receiver_turned (ends.Refused reason) d t c) p) (sym placed.1) (refuses_unit t c p placed.0 reason h (place_told t c p h may placed.0 placed.1))

pub receiver_turn_keeps : (t : ReceiverTurn) (c : Channel) (p : Past) → Facts c p → ReceiverMay t c p → Facts (receiver_turn t c) p
receiver_turn_keeps t c p h may = turned_keeps t.outcome t c p h may refl
