use Rattle.std.proofs.Common.{sym}
use Rattle.mq_text.specs.Pieces.{is_break}
use Rattle.mq_text.proofs.LineLaws.{no_place}
use Rattle.mq_text.proofs.piece.word_len.Goals as goal

pub returns-in-None-clause-len : goal.returns-in-None-clause-len
returns-in-None-clause-len c = no_place is_break c.args.bytes.now (sym c.in-None.ensures)
