-- Numbers and names are one to one with reasons.
use Rattle.std.proofs.Common.{◌≡◌, ◌==◌, ℕ, Bool, true, false, cond, List, [], ◌∷◌, refl, sym, ap, ◌∙◌}
use Rattle.std.specs.Prelude.{Option, Some, None, find}
use Rattle.std.specs.Str.{bytes_eq}
use Rattle.std.proofs.lemmas.Bool.{eqb-true}
use Rattle.std.proofs.lemmas.Slice.Eq.{bytes_eq-Decides}
use Rattle.mq_codes.specs.declared.reason.Reason.{Reason}
use Rattle.mq_codes.specs.declared.reason.Reason.TheVariants.{AliasBaseQueueTypeError, ConnectionBroken, ExpiryError, GetInhibited, HandleNotAvailable, ConnectionHandleError, ObjectHandleError, SyncpointLimitReached, MissingReplyToQueue, MessageTooBigForQueue, MessageTooBigForQueueManager, NoMessageAvailable, NoMessageUnderCursor, NotOpenForBrowse, NotOpenForInput, NotOpenForOutput, ObjectChanged, ObjectInUse, OptionNotValidForType, OptionsError, PriorityExceedsMaximum, PutInhibited, QueueFull, QueueManagerNameError, QueueManagerNotAvailable, StorageNotAvailable, TruncatedMessageAccepted, TruncatedMessageFailed, UnknownAliasBaseQueue, UnknownObjectName, UnknownRemoteQueueManager, TransmissionQueueTypeError, TransmissionQueueUsageError, ResourceProblem, RemoteQueueNameError, UnknownTransmissionQueue, UnknownDefaultTransmissionQueue, DefaultTransmissionQueueTypeError, DefaultTransmissionQueueUsageError}
use Rattle.mq_codes.specs.Numbers.{reasons, number, name, of_number, of_name, IsNumbered, IsNamed}

-- each number gives its reason back
pub of_number-number : (r : Reason) → of_number (number r) ≡ Some r
of_number-number AliasBaseQueueTypeError = refl
of_number-number ConnectionBroken = refl
of_number-number ExpiryError = refl
of_number-number GetInhibited = refl
of_number-number HandleNotAvailable = refl
of_number-number ConnectionHandleError = refl
of_number-number ObjectHandleError = refl
of_number-number SyncpointLimitReached = refl
of_number-number MissingReplyToQueue = refl
of_number-number MessageTooBigForQueue = refl
of_number-number MessageTooBigForQueueManager = refl
of_number-number NoMessageAvailable = refl
of_number-number NoMessageUnderCursor = refl
of_number-number NotOpenForBrowse = refl
of_number-number NotOpenForInput = refl
of_number-number NotOpenForOutput = refl
of_number-number ObjectChanged = refl
of_number-number ObjectInUse = refl
of_number-number OptionNotValidForType = refl
of_number-number OptionsError = refl
of_number-number PriorityExceedsMaximum = refl
of_number-number PutInhibited = refl
of_number-number QueueFull = refl
of_number-number QueueManagerNameError = refl
of_number-number QueueManagerNotAvailable = refl
of_number-number StorageNotAvailable = refl
of_number-number TruncatedMessageAccepted = refl
of_number-number TruncatedMessageFailed = refl
of_number-number UnknownAliasBaseQueue = refl
of_number-number UnknownObjectName = refl
of_number-number UnknownRemoteQueueManager = refl
of_number-number TransmissionQueueTypeError = refl
of_number-number TransmissionQueueUsageError = refl
of_number-number ResourceProblem = refl
of_number-number RemoteQueueNameError = refl
of_number-number UnknownTransmissionQueue = refl
of_number-number UnknownDefaultTransmissionQueue = refl
of_number-number DefaultTransmissionQueueTypeError = refl
of_number-number DefaultTransmissionQueueUsageError = refl

-- each name gives its reason back
pub of_name-name : (r : Reason) → of_name (name r) ≡ Some r
of_name-name AliasBaseQueueTypeError = refl
of_name-name ConnectionBroken = refl
of_name-name ExpiryError = refl
of_name-name GetInhibited = refl
of_name-name HandleNotAvailable = refl
of_name-name ConnectionHandleError = refl
of_name-name ObjectHandleError = refl
of_name-name SyncpointLimitReached = refl
of_name-name MissingReplyToQueue = refl
of_name-name MessageTooBigForQueue = refl
of_name-name MessageTooBigForQueueManager = refl
of_name-name NoMessageAvailable = refl
of_name-name NoMessageUnderCursor = refl
of_name-name NotOpenForBrowse = refl
of_name-name NotOpenForInput = refl
of_name-name NotOpenForOutput = refl
of_name-name ObjectChanged = refl
of_name-name ObjectInUse = refl
of_name-name OptionNotValidForType = refl
of_name-name OptionsError = refl
of_name-name PriorityExceedsMaximum = refl
of_name-name PutInhibited = refl
of_name-name QueueFull = refl
of_name-name QueueManagerNameError = refl
of_name-name QueueManagerNotAvailable = refl
of_name-name StorageNotAvailable = refl
of_name-name TruncatedMessageAccepted = refl
of_name-name TruncatedMessageFailed = refl
of_name-name UnknownAliasBaseQueue = refl
of_name-name UnknownObjectName = refl
of_name-name UnknownRemoteQueueManager = refl
of_name-name TransmissionQueueTypeError = refl
of_name-name TransmissionQueueUsageError = refl
of_name-name ResourceProblem = refl
of_name-name RemoteQueueNameError = refl
of_name-name UnknownTransmissionQueue = refl
of_name-name UnknownDefaultTransmissionQueue = refl
of_name-name DefaultTransmissionQueueTypeError = refl
of_name-name DefaultTransmissionQueueUsageError = refl

-- what is found passes the test
found_in : (test : Reason → Bool) (x r : Reason) (rest : Option Reason) (b : Bool) → test x ≡ b → (rest ≡ Some r → test r ≡ true) → cond b (Some x) rest ≡ Some r → test r ≡ true
found_in test x r rest true t h e = let same : x ≡ r = cc in ap test (sym same) ∙ t
found_in test x r rest false t h e = h e

found : (test : Reason → Bool) (rs : List Reason) (r : Reason) → find test rs ≡ Some r → test r ≡ true
found test [] r e = absurd cc
found test (x ∷ xs) r e = found_in test x r (find test xs) (test x) refl (found test xs r) e

-- what is found by a number is of that number, and nothing is found only where no reason has it
pub numbered : (n : ℕ) (o : Option Reason) → o ≡ of_number n → IsNumbered n o
numbered n (Some r) e = eqb-true (number r) n (found (λ x. number x == n) reasons r (sym e))
numbered n None e = λ r h. let back : of_number n ≡ Some r = ap of_number (sym h) ∙ of_number-number r in absurd cc

-- the same by a name
pub named : (text : List ℕ) (o : Option Reason) → o ≡ of_name text → IsNamed text o
named text (Some r) e = (bytes_eq-Decides (name r) text).0 (found (λ x. bytes_eq (name x) text) reasons r (sym e))
named text None e = λ r h. let back : of_name text ≡ Some r = ap of_name (sym h) ∙ of_name-name r in absurd cc

-- two reasons have two numbers
pub number_one : (r s : Reason) → number r ≡ number s → r ≡ s
number_one r s e = let back : of_number (number r) ≡ Some s = ap of_number e ∙ of_number-number s in let own = of_number-number r in cc

-- two reasons have two names
pub name_one : (r s : Reason) → name r ≡ name s → r ≡ s
name_one r s e = let back : of_name (name r) ≡ Some s = ap of_name e ∙ of_name-name s in let own = of_name-name r in cc
