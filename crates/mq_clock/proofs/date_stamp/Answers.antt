use Rattle.std.proofs.Common.{◌≡◌, ◌/◌, pos, arith, ◌∙◌}
use Rattle.jiff.proofs.SpanFacts.{signed_arith}
use Rattle.jiff.specs.Words.{epoch_day}
use Rattle.std.proofs.lemmas.Int.{ints}
use Rattle.mq_heads.specs.Stamps.{put_date}
use Rattle.mq_clock.proofs.Calendar.{year_after, date_digits_found}
use Rattle.mq_clock.proofs.date_stamp.Goals as goal

pub date_text-requires : goal.date_text-requires
date_text-requires c =
    let day : epoch_day c.date_after.result ≡ pos (c.args.moment / 86400000) = c.date_after.ensures ∙ omega (arith, ints) in
    let year = year_after c.date_after.result (c.args.moment / 86400000) day in
    omega (arith, signed_arith)

pub returns : goal.returns
unfolding put_date
returns c =
    let day : epoch_day c.date_after.result ≡ pos (c.args.moment / 86400000) = c.date_after.ensures ∙ omega (arith, ints) in
    c.date_text.ensures ∙ date_digits_found c.date_after.result (c.args.moment / 86400000) day
