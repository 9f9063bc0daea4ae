use Rattle.mq_law_image.proofs.Logged.{change_text_in, image_text}
use Rattle.mq_law_image.proofs.Made.{part_texts}
use Rattle.mq_law_image.proofs.a_log_has_values_that_commands_give.Goals as goal

pub returns : goal.returns
returns c = record { texts = change_text_in; images = image_text; parts = part_texts }
