use Rattle.std.proofs.Common.{ℕ, List, true, ap, sym, subst, ◌∙◌}
use Rattle.mq_sides.specs.declared.bonds.Bond.{Bond}
use Rattle.mq_unit.specs.from_calls.Words.{set_named}
use Rattle.mq_sides.specs.Bonds.{BondsKept, KeepsSeats, bound_of, has_seat, seats_of}
use Rattle.mq_sides.specs.Places.{AreByName}
use Rattle.mq_sides.proofs.BondLaws.{bound_set, by_bond, kept_by_set, no_seat, seats_sorted}
use Rattle.mq_sides.proofs.bonds.Bonds.bind.Goals as goal

pub invariant_of-self-2 : goal.invariant_of-self-2
invariant_of-self-2 c =
    let new : Bond = record { channel = c.args.channel.now; bound = true } in
    subst (λ (bs : List Bond). AreByName (λ (n : List ℕ). n) (seats_of bs)) (sym c.in-Ok.ensures.ok) (seats_sorted new c.self.inside.bonds c.self.invariant)

pub returns-clause-ok : goal.returns-clause-ok
returns-clause-ok c =
    ap bound_of c.in-Ok.ensures.ok ∙ bound_set c.args.channel.now c.self.inside.bonds (by_bond c.self.inside.bonds c.self.invariant)
    ∙ ap (λ (k : BondsKept). set_named (λ (name : List ℕ). name) c.args.channel.now k.bound) c.self.view_is

pub returns-clause-seats : goal.returns-clause-seats
returns-clause-seats c =
    let new : Bond = record { channel = c.args.channel.now; bound = true } in
    subst (λ (k : BondsKept). KeepsSeats k.seats (seats_of c.set_side.new.items)) c.self.view_is
    (subst (λ (bs : List Bond). KeepsSeats (seats_of c.self.inside.bonds) (seats_of bs)) (sym c.in-Ok.ensures.ok) (kept_by_set new c.self.inside.bonds))

pub returns-in-Err-clause-lacks : goal.returns-in-Err-clause-lacks
returns-in-Err-clause-lacks c =
    ap (λ (k : BondsKept). has_seat c.args.channel.now k.seats) (sym c.self.view_is) ∙ no_seat c.args.channel.now c.self.inside.bonds (c.in-Err.ensures.lacks (by_bond c.self.inside.bonds c.self.invariant))
