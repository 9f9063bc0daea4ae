-- What receivers had hardened at the first starts.
use Rattle.std.specs.Prelude.{ℕ, List, Option, None, Some}
use Rattle.mq_history.specs.declared.history.History.{History}
use Rattle.mq_sync.specs.declared.data.ReceiverData.{ReceiverData}
use Rattle.mq_calls.specs.Reads.{receiver_in}
use Rattle.mq_spec_network.specs.Conflict.{Told, told_of}

abbrev pub opened_receiver : List ℕ → Option History → Option ReceiverData
opened_receiver channel None = None
opened_receiver channel (Some h) = receiver_in channel h.opening.receivers

abbrev pub told_data : Option ReceiverData → Told
told_data d = told_of d
