-- The values of keywords: default apart, what each attribute may be.
use Rattle.std.specs.Prelude.{ℕ, ◌==◌, nat_le, Bool, true, false, List, [], length, if◌then◌else◌, Option, Some, None, Result, Ok, Err, codes}
use Rattle.std.specs.List.{list_all}
use Rattle.std.specs.Str.{bytes_eq}
use Rattle.mq_text.specs.declared.numbers.NumberFault.{NumberFault}
use Rattle.mq_text.specs.Numbers.{number_in}
use Rattle.mq_objects.specs.from_base.{NameFault}
use Rattle.mq_objects.specs.from_base.Name.{name_of}
use Rattle.mq_objects.specs.declared.object.Delivery.{Delivery}
use Rattle.mq_objects.specs.declared.object.Delivery.TheVariants as deliveries
use Rattle.mq_objects.specs.declared.object.TriggerType.{TriggerType}
use Rattle.mq_objects.specs.declared.object.TriggerType.TheVariants as triggers
use Rattle.mq_objects.specs.declared.object.Usage.{Usage}
use Rattle.mq_objects.specs.declared.object.Usage.TheVariants as usages
use Rattle.mq_objects.specs.declared.setting.ChannelType.{ChannelType}
use Rattle.mq_objects.specs.declared.setting.ChannelType.TheVariants as types
use Rattle.mq_objects.specs.declared.setting.Setting.{Setting}
use Rattle.mq_objects.specs.declared.setting.Setting.TheVariants as settings
use Rattle.mq_sc_keys.specs.declared.keys.Key.{Key}
use Rattle.mq_sc_keys.specs.declared.keys.Key.TheVariants as keys
use Rattle.mq_sc_keys.specs.declared.value.Value.{Value}
use Rattle.mq_sc_keys.specs.declared.value.Value.TheVariants as values
use Rattle.mq_sc_keys.specs.declared.giving.Given.{Given}
use Rattle.mq_sc_keys.specs.declared.giving.Given.TheVariants as given
use Rattle.mq_sc_keys.specs.declared.attributes.Kind.{Kind}
use Rattle.mq_sc_keys.specs.declared.attributes.Kind.TheVariants as kinds
use Rattle.mq_sc_keys.specs.Keys.{key_text, group_of}

abbrev pub number_or_none : Result ℕ NumberFault → Option ℕ
number_or_none (Ok n) = Some n
number_or_none (Err fault) = None

-- a number from low to high
abbrev pub number_value : ℕ → ℕ → Value → Option ℕ
number_value low high values.Absent = None
number_value low high (values.Text text) = number_or_none (number_in low high text)
number_value low high values.Malformed = None

abbrev pub are_blanks : List ℕ → Bool
are_blanks text = list_all (λ b. b == 32) text

abbrev pub name_or_none : Result (List ℕ) NameFault → Option (List ℕ)
name_or_none (Ok name) = Some name
name_or_none (Err fault) = None

-- a name, or the blank one for nothing and for blanks
abbrev pub name_or_blank : List ℕ → Option (List ℕ)
name_or_blank text = if are_blanks text then Some [] else name_or_none (name_of 48 text)

abbrev pub name_value : Value → Option (List ℕ)
name_value values.Absent = None
name_value (values.Text text) = name_or_blank text
name_value values.Malformed = None

-- a text as it is given, no longer than most
abbrev pub text_value : ℕ → Value → Option (List ℕ)
text_value most values.Absent = None
text_value most (values.Text text) = if nat_le (length text) most then Some text else None
text_value most values.Malformed = None

-- one of two words
abbrev pub choice_of : List ℕ → List ℕ → List ℕ → Option Bool
choice_of first other text = if bytes_eq text first then Some true else if bytes_eq text other then Some false else None

abbrev pub choice_value : List ℕ → List ℕ → Value → Option Bool
choice_value first other values.Absent = None
choice_value first other (values.Text text) = choice_of first other text
choice_value first other values.Malformed = None

abbrev pub delivery_of : Option Bool → Option Delivery
delivery_of None = None
delivery_of (Some true) = Some deliveries.Priority
delivery_of (Some false) = Some deliveries.Fifo

abbrev pub usage_of : Option Bool → Option Usage
usage_of None = None
usage_of (Some true) = Some usages.Normal
usage_of (Some false) = Some usages.Transmission

abbrev pub type_of : Option Bool → Option ChannelType
type_of None = None
type_of (Some true) = Some types.Sender
type_of (Some false) = Some types.Receiver

abbrev pub trigger_type_of : List ℕ → Option TriggerType
trigger_type_of text =
    if bytes_eq text (codes "FIRST") then Some triggers.First
    else if bytes_eq text (codes "EVERY") then Some triggers.Every
    else if bytes_eq text (codes "DEPTH") then Some triggers.Depth
    else if bytes_eq text (codes "NONE") then Some triggers.Never
    else None

abbrev pub trigger_type_value : Value → Option TriggerType
trigger_type_value values.Absent = None
trigger_type_value (values.Text text) = trigger_type_of text
trigger_type_value values.Malformed = None

-- UNIX is 6
abbrev pub appl_type_of : List ℕ → Option ℕ
appl_type_of text = if bytes_eq text (codes "UNIX") then Some 6 else number_or_none (number_in 0 999999999 text)

abbrev pub appl_type_value : Value → Option ℕ
appl_type_value values.Absent = None
appl_type_value (values.Text text) = appl_type_of text
appl_type_value values.Malformed = None

abbrev pub set_to : {X : Type 0} → (X → Setting) → Option X → Given
set_to setting None = given.Bad
set_to setting (Some x) = given.Setting (setting x)

abbrev pub is_absent : Value → Bool
is_absent values.Absent = true
is_absent (values.Text text) = false
is_absent values.Malformed = false

-- a keyword that stands alone
abbrev pub alone : Given → Value → Given
alone result values.Absent = result
alone result (values.Text text) = given.Bad
alone result values.Malformed = given.Bad

abbrev pub yes_or_no : Value → Option Bool
yes_or_no v = choice_value (codes "YES") (codes "NO") v

abbrev pub enabled_or_not : Value → Option Bool
enabled_or_not v = choice_value (codes "ENABLED") (codes "DISABLED") v

-- kept without effect: any value of at most 264 bytes
abbrev pub kept_value : Key → Value → Given
kept_value key v = set_to (settings.Kept (key_text key)) (text_value 264 v)

-- kept without effect: a keyword that stands alone, under the name that it shares with its opposite
abbrev pub kept_flag : Key → Value → Given
kept_flag key v = alone (given.Setting (settings.Kept (key_text (group_of key)) (key_text key))) v

abbrev pub length_given : Kind → Value → Given
length_given kinds.Manager v = set_to settings.MaxMessageLength (number_value 32768 4194304 v)
length_given kinds.Channel v = kept_value keys.MaxMsgL v
length_given kinds.Sender v = kept_value keys.MaxMsgL v
length_given kinds.Receiver v = kept_value keys.MaxMsgL v
length_given _ v = set_to settings.MaxMessageLength (number_value 0 4194304 v)

-- what an attribute without effect gives, or an option: DEFINE and ALTER know no other
abbrev pub given_without_effect : Key → Value → Given
given_without_effect keys.Descr v = kept_value keys.Descr v
given_without_effect keys.Share v = kept_flag keys.Share v
given_without_effect keys.NoShare v = kept_flag keys.NoShare v
given_without_effect keys.DefSOpt v = kept_value keys.DefSOpt v
given_without_effect keys.BoThresh v = kept_value keys.BoThresh v
given_without_effect keys.BoQName v = kept_value keys.BoQName v
given_without_effect keys.HardenBo v = kept_flag keys.HardenBo v
given_without_effect keys.NoHardenBo v = kept_flag keys.NoHardenBo v
given_without_effect keys.QDepthHi v = kept_value keys.QDepthHi v
given_without_effect keys.QDepthLo v = kept_value keys.QDepthLo v
given_without_effect keys.ConName v = kept_value keys.ConName v
given_without_effect keys.TrpType v = kept_value keys.TrpType v
given_without_effect keys.DiscInt v = kept_value keys.DiscInt v
given_without_effect keys.HbInt v = kept_value keys.HbInt v
given_without_effect keys.BatchInt v = kept_value keys.BatchInt v
given_without_effect keys.LongRty v = kept_value keys.LongRty v
given_without_effect keys.LongTmr v = kept_value keys.LongTmr v
given_without_effect keys.ShortTmr v = kept_value keys.ShortTmr v
given_without_effect keys.Replace v = alone given.Nothing v
given_without_effect keys.NoReplace v = alone given.Nothing v
given_without_effect keys.Force v = alone given.Nothing v
given_without_effect _ v = given.Bad

-- what an attribute of channels, processes and the manager gives
abbrev pub given_beside_queues : Key → Value → Given
given_beside_queues keys.ChlType v = set_to settings.ChannelType (type_of (choice_value (codes "SDR") (codes "RCVR") v))
given_beside_queues keys.BatchSz v = set_to settings.BatchSize (number_value 1 9999 v)
given_beside_queues keys.SeqWrap v = set_to settings.SequenceWrap (number_value 100 999999999 v)
given_beside_queues keys.ShortRty v = set_to settings.ShortRetry (number_value 0 999999999 v)
given_beside_queues keys.UseDlq v = set_to settings.UseDeadLetterQueue (yes_or_no v)
given_beside_queues keys.NpmSpeed v = set_to settings.Fast (choice_value (codes "FAST") (codes "NORMAL") v)
given_beside_queues keys.ApplicId v = set_to settings.ApplId (text_value 256 v)
given_beside_queues keys.ApplType v = set_to settings.ApplType (appl_type_value v)
given_beside_queues keys.EnvrData v = set_to settings.EnvironmentData (text_value 128 v)
given_beside_queues keys.UserData v = set_to settings.UserData (text_value 128 v)
given_beside_queues keys.DeadQ v = set_to settings.DeadLetterQueue (name_value v)
given_beside_queues keys.DefXmitQ v = set_to settings.DefaultTransmissionQueue (name_value v)
given_beside_queues keys.MaxHands v = set_to settings.MaxHandles (number_value 0 999999999 v)
given_beside_queues keys.MaxUMsgs v = set_to settings.MaxUncommitted (number_value 1 999999999 v)
given_beside_queues keys.TrigInt v = set_to settings.TriggerInterval (number_value 0 999999999 v)
given_beside_queues key v = given_without_effect key v

-- what a keyword of DEFINE or ALTER gives
abbrev pub given_of : Kind → Key → Value → Given
given_of kind keys.DefPrty v = set_to settings.DefaultPriority (number_value 0 9 v)
given_of kind keys.DefPsist v = set_to settings.DefaultPersistent (yes_or_no v)
given_of kind keys.Get v = set_to settings.GetEnabled (enabled_or_not v)
given_of kind keys.InitQ v = set_to settings.InitiationQueue (name_value v)
given_of kind keys.MaxDepth v = set_to settings.MaxDepth (number_value 0 999999999 v)
given_of kind keys.MaxMsgL v = length_given kind v
given_of kind keys.MsgDlvSq v = set_to settings.Delivery (delivery_of (choice_value (codes "PRIORITY") (codes "FIFO") v))
given_of kind keys.Process v = set_to settings.Process (name_value v)
given_of kind keys.Put v = set_to settings.PutEnabled (enabled_or_not v)
given_of kind keys.TrigData v = set_to settings.TriggerData (text_value 64 v)
given_of kind keys.TrigDpth v = set_to settings.TriggerDepth (number_value 1 999999999 v)
given_of kind keys.Trigger v = alone (given.Setting (settings.Trigger true)) v
given_of kind keys.NoTrigger v = alone (given.Setting (settings.Trigger false)) v
given_of kind keys.TrigMPri v = set_to settings.TriggerPriority (number_value 0 9 v)
given_of kind keys.TrigType v = set_to settings.TriggerType (trigger_type_value v)
given_of kind keys.Usage v = set_to settings.Usage (usage_of (choice_value (codes "NORMAL") (codes "XMITQ") v))
given_of kind keys.Target v = set_to settings.Target (name_value v)
given_of kind keys.TargQ v = set_to settings.Target (name_value v)
given_of kind keys.RName v = set_to settings.RemoteName (name_value v)
given_of kind keys.RQMName v = set_to settings.RemoteManager (name_value v)
given_of kind keys.XmitQ v = set_to settings.TransmissionQueue (name_value v)
given_of kind key v = given_beside_queues key v
