-- The number of a reason is a small one.
use Rattle.std.proofs.Common.{◌<◌, ◌^◌, arith}
use Rattle.mq_codes.specs.Numbers.{number}
use Rattle.mq_codes.specs.declared.reason.Reason.{Reason}
use Rattle.mq_codes.specs.declared.reason.Reason.TheVariants.{AliasBaseQueueTypeError, ConnectionBroken, ExpiryError, GetInhibited, HandleNotAvailable, ConnectionHandleError, ObjectHandleError, SyncpointLimitReached, MissingReplyToQueue, MessageTooBigForQueue, MessageTooBigForQueueManager, NoMessageAvailable, NoMessageUnderCursor, NotOpenForBrowse, NotOpenForInput, NotOpenForOutput, ObjectChanged, ObjectInUse, OptionNotValidForType, OptionsError, PriorityExceedsMaximum, PutInhibited, QueueFull, QueueManagerNameError, QueueManagerNotAvailable, StorageNotAvailable, TruncatedMessageAccepted, TruncatedMessageFailed, UnknownAliasBaseQueue, UnknownObjectName, UnknownRemoteQueueManager, TransmissionQueueTypeError, TransmissionQueueUsageError, ResourceProblem, RemoteQueueNameError, UnknownTransmissionQueue, UnknownDefaultTransmissionQueue, DefaultTransmissionQueueTypeError, DefaultTransmissionQueueUsageError}

pub number_small : (r : Reason) → number r < 2 ^ 31
number_small AliasBaseQueueTypeError = omega arith
number_small ConnectionBroken = omega arith
number_small ExpiryError = omega arith
number_small GetInhibited = omega arith
number_small HandleNotAvailable = omega arith
number_small ConnectionHandleError = omega arith
number_small ObjectHandleError = omega arith
number_small SyncpointLimitReached = omega arith
number_small MissingReplyToQueue = omega arith
number_small MessageTooBigForQueue = omega arith
number_small MessageTooBigForQueueManager = omega arith
number_small NoMessageAvailable = omega arith
number_small NoMessageUnderCursor = omega arith
number_small NotOpenForBrowse = omega arith
number_small NotOpenForInput = omega arith
number_small NotOpenForOutput = omega arith
number_small ObjectChanged = omega arith
number_small ObjectInUse = omega arith
number_small OptionNotValidForType = omega arith
number_small OptionsError = omega arith
number_small PriorityExceedsMaximum = omega arith
number_small PutInhibited = omega arith
number_small QueueFull = omega arith
number_small QueueManagerNameError = omega arith
number_small QueueManagerNotAvailable = omega arith
number_small StorageNotAvailable = omega arith
number_small TruncatedMessageAccepted = omega arith
number_small TruncatedMessageFailed = omega arith
number_small UnknownAliasBaseQueue = omega arith
number_small UnknownObjectName = omega arith
number_small UnknownRemoteQueueManager = omega arith
number_small TransmissionQueueTypeError = omega arith
number_small TransmissionQueueUsageError = omega arith
number_small ResourceProblem = omega arith
number_small RemoteQueueNameError = omega arith
number_small UnknownTransmissionQueue = omega arith
number_small UnknownDefaultTransmissionQueue = omega arith
number_small DefaultTransmissionQueueTypeError = omega arith
number_small DefaultTransmissionQueueUsageError = omega arith
