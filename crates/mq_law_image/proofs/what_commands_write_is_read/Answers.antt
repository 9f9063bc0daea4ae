use Rattle.mq_law_image.proofs.Made.{line_text, command_makes, made_read}
use Rattle.mq_law_image.proofs.what_commands_write_is_read.Goals as goal

pub returns : goal.returns
returns c = record { lines = line_text; writes = command_makes; reads = made_read }
