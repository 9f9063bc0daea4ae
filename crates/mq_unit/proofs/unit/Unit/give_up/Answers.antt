use Rattle.std.proofs.Common.{ℕ, List, ◌-◌, sym, subst}
use Rattle.mq_record.specs.from_calls.{Item}
use Rattle.mq_unit.specs.Forced.{IsKept}
use Rattle.mq_unit.proofs.UnitLaws.{kept_front}
use Rattle.mq_unit.proofs.unit.Unit.give_up.Goals as goal

pub invariant_of-self-in-Some : goal.invariant_of-self-in-Some
invariant_of-self-in-Some c =
    subst (λ (n : ℕ). IsKept c.pop.new.self (c.self.inside.bytes - n) c.self.inside.effects) (sym c.item_bytes.ensures)
    (kept_front c.pop.new.self c.in-Some.item c.self.inside.bytes c.self.inside.effects (subst (λ (xs : List Item). IsKept xs c.self.inside.bytes c.self.inside.effects) c.in-Some.ensures.last c.self.invariant))

pub invariant_of-self-in-Some-2 : goal.invariant_of-self-in-Some-2
invariant_of-self-in-Some-2 c =
    subst (λ (n : ℕ). IsKept c.pop.new.self (c.self.inside.bytes - n) c.self.inside.effects) (sym c.item_bytes.ensures)
    (kept_front c.pop.new.self c.in-Some.item c.self.inside.bytes c.self.inside.effects (subst (λ (xs : List Item). IsKept xs c.self.inside.bytes c.self.inside.effects) c.in-Some.ensures.last c.self.invariant))
