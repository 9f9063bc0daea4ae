use Rattle.std.proofs.Common.{List, None, Some, refl, sym, subst, ◌∙◌}
use Rattle.mq_calls.specs.declared.image.Shelf.{Shelf}
use Rattle.mq_shelves.specs.Spots.{spot_of}
use Rattle.mq_shelves.specs.Found.{IsFound}
use Rattle.mq_shelves.proofs.FoundLaws.{not_noted, not_there, another, its_row}
use Rattle.mq_shelves.proofs.rows.Rows.find.Goals as goal

pub returns-in_default : goal.returns-in_default
returns-in_default c = subst (λ (v : List Shelf). IsFound c.args.ident.now v None) c.self.view_is
    (not_noted (spot_of c.self.inside.spots) c.self.inside.next c.args.ident.now c.self.inside.racks c.self.invariant (sym c.in_default.ensures))

pub returns-in_default-row_at : goal.returns-in_default-row_at
returns-in_default-row_at c = subst (λ (v : List Shelf). IsFound c.args.ident.now v None) c.self.view_is
    (not_there (spot_of c.self.inside.spots) c.self.inside.next c.args.ident.now c.self.inside.racks c.self.invariant c.in-Some.spot (sym c.in-Some.ensures) (sym c.in_default-row_at.ensures))

pub returns-then-has : goal.returns-then-has
returns-then-has c = subst (λ (v : List Shelf). IsFound c.args.ident.now v (Some (record { queue = c.in-Some.spot.queue; row = c.in-Some-row_at.row }))) c.self.view_is
    (its_row (spot_of c.self.inside.spots) c.self.inside.next c.args.ident.now c.self.inside.racks c.self.invariant c.in-Some.spot (sym c.in-Some.ensures) c.in-Some-row_at.row.now
    (record { queue = c.in-Some.spot.queue; row = c.in-Some-row_at.row }) refl refl (sym c.in-Some-row_at.ensures) (sym c.has.ensures ∙ c.if-has.true))

pub returns-else-has : goal.returns-else-has
returns-else-has c = subst (λ (v : List Shelf). IsFound c.args.ident.now v None) c.self.view_is
    (another (spot_of c.self.inside.spots) c.self.inside.next c.args.ident.now c.self.inside.racks c.self.invariant c.in-Some.spot (sym c.in-Some.ensures) c.in-Some-row_at.row.now (sym c.in-Some-row_at.ensures) (sym c.has.ensures ∙ c.if-has.false))
