use Rattle.std.proofs.Common.{◌≡◌, arith, pos, FitsSigned, w64, ◌∙◌}
use Rattle.std.proofs.lemmas.Int.{to_z-of_z}
use Rattle.jiff.proofs.SpanFacts.{signed_arith, date_add-days, can_add-days}
use Rattle.jiff.specs.Words.{epoch_day}
use Rattle.mq_clock.proofs.Calendar.{first_day}
use Rattle.mq_clock.proofs.date_after.Goals as goal

pub unwrap-requires : goal.unwrap-requires
unwrap-requires c =
    let fits : FitsSigned w64 c.args.days = c.ranges.days in
    let only = simp to_z-of_z at c.days.ensures in
    let first : epoch_day c.date.result ≡ pos 0 = first_day c.date.result c.date.ensures in
    let can = can_add-days c.date.result c.args.days c.days.result only in
    c.checked_add.ensures.succeeds.1 (can.1 (rw first (omega (arith, signed_arith, c.requires.first, c.requires.last), omega (arith, signed_arith, c.requires.first, c.requires.last))))

pub returns : goal.returns
returns c =
    let fits : FitsSigned w64 c.args.days = c.ranges.days in
    let only = simp to_z-of_z at c.days.ensures in
    let first : epoch_day c.date.result ≡ pos 0 = first_day c.date.result c.date.ensures in
    let added = rw c.unwrap.ensures at c.checked_add.ensures.value in
    added ∙ date_add-days c.date.result c.args.days c.days.result only ∙ rw first (omega (arith, signed_arith))
