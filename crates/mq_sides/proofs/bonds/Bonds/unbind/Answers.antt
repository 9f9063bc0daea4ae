use Rattle.std.proofs.Common.{◌≡◌, ℕ, List, true, false, ap, sym, subst, ◌∙◌}
use Rattle.std.specs.Prelude.{filter, not}
use Rattle.std.specs.Str.{bytes_eq}
use Rattle.mq_sides.specs.declared.bonds.Bond.{Bond}
use Rattle.mq_sides.specs.Bonds.{BondsKept, bound_of, has_seat, seats_of}
use Rattle.mq_sides.specs.Places.{AreByName}
use Rattle.mq_sides.proofs.BondLaws.{bound_unset, by_bond, no_seat, seats_back, seats_sorted, unbound_none}
use Rattle.mq_sides.proofs.bonds.Bonds.unbind.Goals as goal

kept : List (List ℕ) → List (List ℕ) → BondsKept
kept bound seats = record { bound = bound; seats = seats }

pub returns-then-not-has_seat : goal.returns-then-not-has_seat
unfolding kept
returns-then-not-has_seat c =
    let bs : List Bond = c.self.inside.bonds in
    let none : has_seat c.args.channel.now (seats_of bs) ≡ false = sym c.has_seat.ensures ∙ c.if-not-has_seat.true in
    let bound = unbound_none c.args.channel.now bs none ∙ ap (λ (k : BondsKept). filter (λ (n : List ℕ). not (bytes_eq c.args.channel.now n)) k.bound) c.self.view_is in
    let seats = ap (λ (k : BondsKept). k.seats) c.self.view_is in
    let same : kept (bound_of bs) (seats_of bs) ≡ kept (filter (λ (n : List ℕ). not (bytes_eq c.args.channel.now n)) c.args.self.now.bound) c.args.self.now.seats = λ i. kept (bound i) (seats i) in
    sym c.self.view_is ∙ same

pub unreachable-requires : goal.unreachable-requires
unreachable-requires c =
    let bs : List Bond = c.self.inside.bonds in
    let none = no_seat c.args.channel.now bs (c.in-Err.ensures.lacks (by_bond bs c.self.invariant)) in
    let wrong : true ≡ false = sym (sym c.has_seat.ensures ∙ c.if-not-has_seat.false) ∙ none in
    cc

pub invariant_of-self : goal.invariant_of-self
invariant_of-self c =
    let new : Bond = record { channel = c.args.channel.now; bound = false } in
    subst (λ (bs : List Bond). AreByName (λ (n : List ℕ). n) (seats_of bs)) (sym c.in-Ok.ensures.ok) (seats_sorted new c.self.inside.bonds c.self.invariant)

pub returns : goal.returns
unfolding kept
returns c =
    let bs : List Bond = c.self.inside.bonds in
    let new : Bond = record { channel = c.args.channel.now; bound = false } in
    let has : has_seat c.args.channel.now (seats_of bs) ≡ true = sym c.has_seat.ensures ∙ c.if-not-has_seat.false in
    let bound = ap bound_of c.in-Ok.ensures.ok ∙ bound_unset c.args.channel.now bs (by_bond bs c.self.invariant) has ∙ ap (λ (k : BondsKept). filter (λ (n : List ℕ). not (bytes_eq c.args.channel.now n)) k.bound) c.self.view_is in
    let seats = ap seats_of c.in-Ok.ensures.ok ∙ seats_back new bs c.self.invariant has ∙ ap (λ (k : BondsKept). k.seats) c.self.view_is in
    λ i. kept (bound i) (seats i)
