use Rattle.std.proofs.Common.{ap, arith}
use Rattle.std.specs.Prelude.{length}
use Rattle.mq_fill.proofs.letters.appl_name.Goals as goal

pub field_of-requires : goal.field_of-requires
field_of-requires c = let long = c.text.ensures.name.fits in let same = ap length c.text.ensures.text in omega (arith, long, same)
