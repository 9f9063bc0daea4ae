use Rattle.mq_law_batches.proofs.Stopping as stopping
use Rattle.mq_law_batches.proofs.stops_and_restarts_release_batches.Goals as goal

pub returns : goal.returns
returns c = record { stops = stopping.stops; restarts = stopping.restarts }
