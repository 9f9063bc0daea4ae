use Rattle.mq_law_image.proofs.Objecting.{manager_read, alias_read, remote_read, process_read, channel_read, local_read}
use Rattle.mq_law_image.proofs.texts_of_objects_are_read.Goals as goal

pub returns : goal.returns
returns c = record { managers = manager_read; aliases = alias_read; remotes = remote_read; processes = process_read; channels = channel_read; locals = local_read }
