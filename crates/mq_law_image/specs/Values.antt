-- Values that commands give: of settings, of objects, of what is kept without effect. The text of what has such values is read.
use Rattle.std.specs.Prelude.{◌≡◌, ℕ, ◌<◌, ◌≤◌, ◌^◌, Bool, true, false, List, [], ◌∷◌, length, map, Option, Some, None}
use Rattle.std.specs.List.{list_all, AllByRecursion}
use Rattle.mq_base.specs.Name.{IsName}
use Rattle.mq_objects.specs.declared.object.Object.{Object}
use Rattle.mq_objects.specs.declared.object.Object.TheVariants as objects
use Rattle.mq_objects.specs.declared.object.Definitions.{Definitions}
use Rattle.mq_objects.specs.declared.setting.Setting.{Setting}
use Rattle.mq_objects.specs.declared.setting.Setting.TheVariants as settings
use Rattle.mq_objects.specs.declared.command.Subject.{Subject}
use Rattle.mq_objects.specs.declared.command.Subject.TheVariants as subjects
use Rattle.mq_objects.specs.declared.command.Command.{Command}
use Rattle.mq_objects.specs.declared.command.Command.TheVariants as commands
use Rattle.mq_objects.specs.declared.object.KeptAttribute.{KeptAttribute}
use Rattle.mq_objects.specs.declared.object.LocalQueue.{LocalQueue}
use Rattle.mq_objects.specs.declared.object.AliasQueue.{AliasQueue}
use Rattle.mq_objects.specs.declared.object.RemoteQueue.{RemoteQueue}
use Rattle.mq_objects.specs.declared.object.ManagerAttributes.{ManagerAttributes}
use Rattle.mq_objects.specs.declared.object.Process.{Process}
use Rattle.mq_objects.specs.declared.object.Channel.{Channel}
use Rattle.mq_objects.specs.declared.object.ChannelKind.{ChannelKind}
use Rattle.mq_objects.specs.declared.object.ChannelKind.TheVariants as channels
use Rattle.mq_objects.specs.declared.change.ObjectChange.{ObjectChange}
use Rattle.mq_objects.specs.declared.change.ObjectChange.TheVariants as changes
use Rattle.mq_objects.specs.Attributes.{is_flag}
use Rattle.mq_sc_keys.specs.declared.keys.Key.{Key}
use Rattle.mq_sc_keys.specs.declared.keys.Key.TheVariants as keys
use Rattle.mq_sc_keys.specs.declared.attributes.Kind.{Kind}
use Rattle.mq_sc_keys.specs.declared.attributes.Kind.TheVariants as kinds
use Rattle.mq_sc_keys.specs.Keys.{key_text, group_of}
use Rattle.mq_calls.specs.declared.records.LogRecord.{LogRecord}
use Rattle.mq_calls.specs.declared.records.LogRecord.TheVariants as records
use Rattle.mq_law_log.specs.from_record.Records.{IsRecord}
use Rattle.mq_calls.specs.Sizes.{change_text}
use Rattle.mq_calls.specs.Steps.{Step}
use Rattle.mq_law_log.specs.from_law_manager.Facts.{Mem}
use Rattle.mq_law_log.specs.from_law_manager.Forced.{StepForces}
use Rattle.mq_law_image.specs.Laid.{IsSubject, is_no_end}

-- ---- what is kept without effect

-- the keywords that a channel keeps so
abbrev pub channel_keys : List Key
channel_keys = keys.Descr ∷ keys.ConName ∷ keys.TrpType ∷ keys.DiscInt ∷ keys.HbInt ∷ keys.BatchInt ∷ keys.LongRty ∷ keys.LongTmr ∷ keys.ShortTmr ∷ keys.MaxMsgL ∷ []

-- those of an object of each kind
abbrev pub kept_keys : Kind → List Key
kept_keys kinds.Local = keys.Descr ∷ keys.Share ∷ keys.NoShare ∷ keys.DefSOpt ∷ keys.BoThresh ∷ keys.BoQName ∷ keys.HardenBo ∷ keys.NoHardenBo ∷ keys.QDepthHi ∷ keys.QDepthLo ∷ []
kept_keys kinds.Channel = channel_keys
kept_keys kinds.Sender = channel_keys
kept_keys kinds.Receiver = channel_keys
kept_keys _ = keys.Descr ∷ []

-- one that stands alone is its own value; any other has a text on one line
abbrev pub IsKeptValue : Bool → Key → List ℕ → Type 0
IsKeptValue true key value = value ≡ key_text key
IsKeptValue false key value = (length value ≤ 264) × (list_all is_no_end value ≡ true)

-- one of an object that may keep these keywords
pub record IsKeptText (most : List Key) (k : KeptAttribute) : Type 0 where
  pub key : Key
  pub known : Mem key most
  pub keyword_is : k.keyword ≡ key_text (group_of key)
  pub value_is : IsKeptValue (is_flag (key_text (group_of key))) key k.value

-- no keyword comes twice
abbrev pub AreKeptTexts : List Key → List KeptAttribute → Type 0
AreKeptTexts most [] = Unit {0}
AreKeptTexts most (k ∷ ks) = IsKeptText most k × (Mem k.keyword (map (λ (x : KeptAttribute). x.keyword) ks) → ⊥) × AreKeptTexts most ks

-- ---- objects

-- ALTER QMGR
pub record IsManagerText (m : ManagerAttributes) : Type 0 where
  pub dead_letter_queue : IsName 48 m.dead_letter_queue
  pub default_transmission_queue : IsName 48 m.default_transmission_queue
  pub max_handles : m.max_handles ≤ 999999999
  pub max_message_length : (32768 ≤ m.max_message_length) × (m.max_message_length ≤ 4194304)
  pub max_uncommitted : (1 ≤ m.max_uncommitted) × (m.max_uncommitted ≤ 999999999)
  pub trigger_interval : m.trigger_interval ≤ 999999999
  pub kept_are : AreKeptTexts (kept_keys kinds.Manager) m.kept

-- QALIAS
pub record IsAliasText (q : AliasQueue) : Type 0 where
  pub name : IsName 48 q.name
  pub some : 0 < length q.name
  pub default_priority : q.default_priority ≤ 9
  pub target : IsName 48 q.target
  pub kept_are : AreKeptTexts (kept_keys kinds.Alias) q.kept

-- QREMOTE
pub record IsRemoteText (q : RemoteQueue) : Type 0 where
  pub name : IsName 48 q.name
  pub some : 0 < length q.name
  pub default_priority : q.default_priority ≤ 9
  pub remote_name : IsName 48 q.remote_name
  pub remote_manager : IsName 48 q.remote_manager
  pub transmission_queue : IsName 48 q.transmission_queue
  pub kept_are : AreKeptTexts (kept_keys kinds.Remote) q.kept

-- PROCESS
pub record IsProcessText (q : Process) : Type 0 where
  pub name : IsName 48 q.name
  pub some : 0 < length q.name
  pub appl_id : (length q.appl_id ≤ 256) × (list_all is_no_end q.appl_id ≡ true)
  pub appl_type : q.appl_type ≤ 999999999
  pub environment_data : (length q.environment_data ≤ 128) × (list_all is_no_end q.environment_data ≡ true)
  pub user_data : (length q.user_data ≤ 128) × (list_all is_no_end q.user_data ≡ true)
  pub kept_are : AreKeptTexts (kept_keys kinds.Process) q.kept

-- CHANNEL of a sender
pub record IsSenderText (b r w : ℕ) (x : List ℕ) : Type 0 where
  pub batch : (1 ≤ b) × (b ≤ 9999)
  pub wrap : (100 ≤ w) × (w ≤ 999999999)
  pub retry : r ≤ 999999999
  pub xmitq : IsName 48 x

-- of a receiver
pub record IsReceiverText (w : ℕ) : Type 0 where
  pub wrap : (100 ≤ w) × (w ≤ 999999999)

-- of either kind
abbrev pub IsKindText : ChannelKind → ℕ → Type 0
IsKindText (channels.Sender batch retry xmitq) wrap = IsSenderText batch retry wrap xmitq
IsKindText (channels.Receiver dead) wrap = IsReceiverText wrap

-- with what both have
pub record IsChannelText (c : Channel) : Type 0 where
  pub name : IsName 20 c.name
  pub some : 0 < length c.name
  pub kind : IsKindText c.kind c.sequence_wrap
  pub kept_are : AreKeptTexts (kept_keys kinds.Channel) c.kept

-- QLOCAL
pub record IsLocalText (q : LocalQueue) : Type 0 where
  pub name : IsName 48 q.name
  pub some : 0 < length q.name
  pub default_priority : q.default_priority ≤ 9
  pub initiation_queue : IsName 48 q.initiation_queue
  pub max_depth : q.max_depth ≤ 999999999
  pub max_message_length : q.max_message_length ≤ 4194304
  pub process : IsName 48 q.process
  pub trigger_data : (length q.trigger_data ≤ 64) × (list_all is_no_end q.trigger_data ≡ true)
  pub trigger_depth : (1 ≤ q.trigger_depth) × (q.trigger_depth ≤ 999999999)
  pub trigger_priority : q.trigger_priority ≤ 9
  pub kept_are : AreKeptTexts (kept_keys kinds.Local) q.kept

-- an object of any kind
abbrev pub IsObjectText : Object → Type 0
IsObjectText (objects.Local q) = IsLocalText q
IsObjectText (objects.Alias q) = IsAliasText q
IsObjectText (objects.Remote q) = IsRemoteText q
IsObjectText (objects.Channel c) = IsChannelText c
IsObjectText (objects.Process q) = IsProcessText q

-- all definitions of a manager
pub record AreObjectTexts (d : Definitions) : Type 0 where
  pub own : IsManagerText d.manager
  pub each : AllByRecursion IsObjectText d.objects

-- a change of objects whose text is read
abbrev pub IsChangeText : ObjectChange → Type 0
IsChangeText (changes.Set o) = IsObjectText o
IsChangeText (changes.SetManager m) = IsManagerText m
IsChangeText (changes.Delete s) = IsSubject s

-- a record that is read from its bytes: its fields fit, and the text of what it changes of objects is read
abbrev pub IsReadable : LogRecord → Type 0
IsReadable (records.Objects change) = (length (change_text change) < 2 ^ 32) × IsChangeText change
IsReadable r = IsRecord r

-- a change of objects that a record makes is such a one
abbrev pub MakesText : LogRecord → Type 0
MakesText (records.Objects change) = IsChangeText change
MakesText r = Unit {0}

-- ---- settings, and commands that give them

-- a text on one line, no longer than most
abbrev pub IsOneLine : ℕ → List ℕ → Type 0
IsOneLine most text = (length text ≤ most) × (list_all is_no_end text ≡ true)

-- MAXMSGL
abbrev pub IsLengthText : Kind → ℕ → Type 0
IsLengthText kinds.Manager n = (32768 ≤ n) × (n ≤ 4194304)
IsLengthText _ n = n ≤ 4194304

-- what an object of a kind may be given
abbrev pub IsSettingText : Kind → Setting → Type 0
IsSettingText kind (settings.DefaultPriority n) = n ≤ 9
IsSettingText kind (settings.InitiationQueue name) = IsName 48 name
IsSettingText kind (settings.MaxDepth n) = n ≤ 999999999
IsSettingText kind (settings.MaxMessageLength n) = IsLengthText kind n
IsSettingText kind (settings.Process name) = IsName 48 name
IsSettingText kind (settings.TriggerData text) = IsOneLine 64 text
IsSettingText kind (settings.TriggerDepth n) = (1 ≤ n) × (n ≤ 999999999)
IsSettingText kind (settings.TriggerPriority n) = n ≤ 9
IsSettingText kind (settings.Target name) = IsName 48 name
IsSettingText kind (settings.RemoteName name) = IsName 48 name
IsSettingText kind (settings.RemoteManager name) = IsName 48 name
IsSettingText kind (settings.TransmissionQueue name) = IsName 48 name
IsSettingText kind (settings.BatchSize n) = (1 ≤ n) × (n ≤ 9999)
IsSettingText kind (settings.SequenceWrap n) = (100 ≤ n) × (n ≤ 999999999)
IsSettingText kind (settings.ShortRetry n) = n ≤ 999999999
IsSettingText kind (settings.ApplId text) = IsOneLine 256 text
IsSettingText kind (settings.ApplType n) = n ≤ 999999999
IsSettingText kind (settings.EnvironmentData text) = IsOneLine 128 text
IsSettingText kind (settings.UserData text) = IsOneLine 128 text
IsSettingText kind (settings.DeadLetterQueue name) = IsName 48 name
IsSettingText kind (settings.DefaultTransmissionQueue name) = IsName 48 name
IsSettingText kind (settings.MaxHandles n) = n ≤ 999999999
IsSettingText kind (settings.MaxUncommitted n) = (1 ≤ n) × (n ≤ 999999999)
IsSettingText kind (settings.TriggerInterval n) = n ≤ 999999999
IsSettingText kind (settings.Kept keyword value) = IsKeptText (kept_keys kind) (record { keyword = keyword; value = value })
IsSettingText kind _ = Unit {0}

-- the kind of what a command names
abbrev pub kind_of : Subject → Kind
kind_of (subjects.Local n) = kinds.Local
kind_of (subjects.Alias n) = kinds.Alias
kind_of (subjects.Remote n) = kinds.Remote
kind_of (subjects.Channel n) = kinds.Channel
kind_of (subjects.Process n) = kinds.Process

-- a command whose name and settings are such as a text gives
abbrev pub IsCommandText : Command → Type 0
IsCommandText (commands.Define d) = IsSubject d.subject × AllByRecursion (IsSettingText (kind_of d.subject)) d.settings
IsCommandText (commands.Alter a) = IsSubject a.subject × AllByRecursion (IsSettingText (kind_of a.subject)) a.settings
IsCommandText (commands.AlterManager a) = AllByRecursion (IsSettingText kinds.Manager) a.settings
IsCommandText (commands.Delete d) = IsSubject d.subject
IsCommandText (commands.Display d) = Unit {0}

-- what is forced, if anything, is such a one
abbrev pub IsMade : Option LogRecord → Type 0
IsMade None = Unit {0}
IsMade (Some r) = MakesText r

-- of all parts of a call
abbrev pub StepMakes : {F T : Type 0} → Step F T → Type 0
StepMakes step = StepForces IsMade step
