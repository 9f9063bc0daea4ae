use Rattle.mq_law_image.proofs.Deleting.{delete_read}
use Rattle.mq_law_image.proofs.Recording.{objects_back}
use Rattle.mq_law_image.proofs.texts_of_changes_are_read.Goals as goal

pub returns : goal.returns
returns c = record { deletes = delete_read; records = objects_back }
