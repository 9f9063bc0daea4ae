-- A change of objects that a command makes has values such as a command gives; and so has each object of a log's image.
use Rattle.std.proofs.Common.{ℕ, ◌≡◌, ◌⊎◌, ◌≤◌, Bool, true, false, List, [], ◌∷◌, map, refl, ap, sym, subst, ◌∙◌, arith, inl, inr}
use Rattle.std.specs.Prelude.{Option, Some, None, Result, Ok, Err, if◌then◌else◌, ◌&&◌, ◌||◌, not, filter}
use Rattle.std.specs.List.{AllByRecursion}
use Rattle.std.specs.Str.{bytes_eq}
use Rattle.mq_objects.specs.declared.object.KeptAttribute.{KeptAttribute}
use Rattle.mq_objects.specs.declared.object.LocalQueue.{LocalQueue}
use Rattle.mq_objects.specs.declared.object.AliasQueue.{AliasQueue}
use Rattle.mq_objects.specs.declared.object.RemoteQueue.{RemoteQueue}
use Rattle.mq_objects.specs.declared.object.ManagerAttributes.{ManagerAttributes}
use Rattle.mq_objects.specs.declared.object.Process.{Process}
use Rattle.mq_objects.specs.declared.object.Channel.{Channel}
use Rattle.mq_objects.specs.declared.object.ChannelKind.{ChannelKind}
use Rattle.mq_objects.specs.declared.object.ChannelKind.TheVariants as channels
use Rattle.mq_objects.specs.declared.object.Object.{Object}
use Rattle.mq_objects.specs.declared.object.Object.TheVariants as objects
use Rattle.mq_objects.specs.declared.object.Definitions.{Definitions}
use Rattle.mq_objects.specs.declared.setting.Setting.{Setting}
use Rattle.mq_objects.specs.declared.setting.Setting.TheVariants as settings
use Rattle.mq_objects.specs.declared.setting.ChannelType.{ChannelType}
use Rattle.mq_objects.specs.declared.setting.ChannelType.TheVariants as types
use Rattle.mq_objects.specs.declared.setting.Keyword.{Keyword}
use Rattle.mq_objects.specs.declared.command.Subject.{Subject}
use Rattle.mq_objects.specs.declared.command.Subject.TheVariants as subjects
use Rattle.mq_objects.specs.declared.command.Command.{Command}
use Rattle.mq_objects.specs.declared.command.Command.TheVariants as commands
use Rattle.mq_objects.specs.declared.command.Define.{Define}
use Rattle.mq_objects.specs.declared.command.Alter.{Alter}
use Rattle.mq_objects.specs.declared.command.Delete.{Delete}
use Rattle.mq_objects.specs.declared.change.ObjectChange.{ObjectChange}
use Rattle.mq_objects.specs.declared.change.ObjectChange.TheVariants as changes
use Rattle.mq_objects.specs.Names.{Space, named, is_kind, object_in, is_object, space_of, name_of, subject_space, subject_name}
use Rattle.mq_objects.specs.Defaults.{new_object, new_manager}
use Rattle.mq_objects.specs.Settings.{keep_attribute, set_local, set_alias, set_remote, typed, set_kind, set_channel, set_process, set_manager, set_object, set_all, set_all_manager}
use Rattle.mq_objects.specs.Changed.{set_in, delete_in, changed}
use Rattle.mq_calls.specs.declared.commands.ScRefusal.{ScRefusal}
use Rattle.mq_calls.specs.declared.commands.ScRefusal.TheVariants as refusals
use Rattle.mq_calls.specs.declared.commands.Shown.{Shown}
use Rattle.mq_law_log.specs.from_sc_apply.{ThePlanned as Planned}
use Rattle.mq_law_log.specs.from_sc_apply.PlanVariants as plans
use Rattle.mq_law_log.specs.from_sc_apply.Uses.{Uses}
use Rattle.mq_law_log.specs.from_sc_apply.Planned as planning
use Rattle.mq_law_log.specs.from_sc_apply.Planned.{is_type_setting, defined_object, define_at, define, alter_at, alter_good, alter, alter_manager, delete_at, delete, bad_in, leads_elsewhere, switches_on, default_changes}
use Rattle.mq_law_log.specs.from_sc_apply.Commands.{plan, to_change, to_show}
use Rattle.mq_law_log.specs.from_sc_apply.Displayed.{display}
use Rattle.mq_sc_keys.specs.declared.keys.Key.{Key}
use Rattle.mq_sc_keys.specs.declared.attributes.Kind.{Kind}
use Rattle.mq_sc_keys.specs.declared.attributes.Kind.TheVariants as kinds
use Rattle.mq_sc_grammar.proofs.Words.{bytes_same}
use Rattle.mq_law_log.specs.from_law_manager.Facts.{Mem}
use Rattle.mq_law_log.proofs.from_law_manager.Lists.{bool_case}
use Rattle.mq_law_log.proofs.from_law_manager.Named.{name_self}
use Rattle.mq_law_image.specs.Laid.{IsSubject}
use Rattle.mq_law_image.specs.Values.{kept_keys, IsKeptText, AreKeptTexts, IsManagerText, IsAliasText, IsRemoteText, IsProcessText, IsKindText, IsChannelText, IsLocalText, IsObjectText, AreObjectTexts, IsChangeText, IsSettingText, kind_of, IsCommandText}
use Rattle.mq_law_image.proofs.Settings.{blank_name}

-- ---- what is kept without effect

abbrev words_of : List KeptAttribute → List (List ℕ)
words_of ks = map (λ (x : KeptAttribute). x.keyword) ks

words_kept : (w keyword value : List ℕ) (ks : List KeptAttribute) → Mem w (words_of (keep_attribute keyword value ks)) → (w ≡ keyword) ⊎ Mem w (words_of ks)
words_kept w keyword value [] (inl e) = inl e
words_kept w keyword value [] (inr m) = absurd m
words_kept w keyword value (x ∷ xs) m = bool_case (bytes_eq keyword x.keyword) (λ b. Mem w (words_of (if b then record { keyword = keyword; value = value } ∷ xs else x ∷ keep_attribute keyword value xs)) → (w ≡ keyword) ⊎ Mem w (words_of (x ∷ xs)))
    (λ z n. elim n [ inl e ↦ inl e | inr k ↦ inr (inr k) ])
    (λ z n. elim n [ inl e ↦ inr (inl e) | inr k ↦ elim (words_kept w keyword value xs k) [ inl e ↦ inl e | inr j ↦ inr (inr j) ] ]) m

keep_text : (most : List Key) (keyword value : List ℕ) (ks : List KeptAttribute) → IsKeptText most (record { keyword = keyword; value = value }) → AreKeptTexts most ks → AreKeptTexts most (keep_attribute keyword value ks)
keep_text most keyword value [] k h = (k, (λ m. m), tt)
keep_text most keyword value (x ∷ xs) k h = bool_case (bytes_eq keyword x.keyword) (λ b. bytes_eq keyword x.keyword ≡ b → AreKeptTexts most (if b then record { keyword = keyword; value = value } ∷ xs else x ∷ keep_attribute keyword value xs))
    (λ z w. (k, (λ m. h.1 (subst (λ (n : List ℕ). Mem n (words_of xs)) (bytes_same keyword x.keyword w) m)), h.2))
    (λ z w. (h.0, (λ m. elim (words_kept x.keyword keyword value xs m) [ inl e ↦ cc (w, ap (λ (n : List ℕ). bytes_eq keyword n) e, name_self keyword) | inr n ↦ h.1 n ]), keep_text most keyword value xs k h.2)) refl

-- ---- an object with a setting

local_text : (s : Setting) (q : LocalQueue) → IsSettingText kinds.Local s → IsLocalText q → IsLocalText (set_local s q)
local_text (settings.DefaultPriority n) q k h = record { name = h.name; some = h.some; default_priority = k; initiation_queue = h.initiation_queue; max_depth = h.max_depth; max_message_length = h.max_message_length; process = h.process; trigger_data = h.trigger_data; trigger_depth = h.trigger_depth; trigger_priority = h.trigger_priority; kept_are = h.kept_are }
local_text (settings.DefaultPersistent b) q k h = record { name = h.name; some = h.some; default_priority = h.default_priority; initiation_queue = h.initiation_queue; max_depth = h.max_depth; max_message_length = h.max_message_length; process = h.process; trigger_data = h.trigger_data; trigger_depth = h.trigger_depth; trigger_priority = h.trigger_priority; kept_are = h.kept_are }
local_text (settings.GetEnabled b) q k h = record { name = h.name; some = h.some; default_priority = h.default_priority; initiation_queue = h.initiation_queue; max_depth = h.max_depth; max_message_length = h.max_message_length; process = h.process; trigger_data = h.trigger_data; trigger_depth = h.trigger_depth; trigger_priority = h.trigger_priority; kept_are = h.kept_are }
local_text (settings.InitiationQueue name) q k h = record { name = h.name; some = h.some; default_priority = h.default_priority; initiation_queue = k; max_depth = h.max_depth; max_message_length = h.max_message_length; process = h.process; trigger_data = h.trigger_data; trigger_depth = h.trigger_depth; trigger_priority = h.trigger_priority; kept_are = h.kept_are }
local_text (settings.MaxDepth n) q k h = record { name = h.name; some = h.some; default_priority = h.default_priority; initiation_queue = h.initiation_queue; max_depth = k; max_message_length = h.max_message_length; process = h.process; trigger_data = h.trigger_data; trigger_depth = h.trigger_depth; trigger_priority = h.trigger_priority; kept_are = h.kept_are }
local_text (settings.MaxMessageLength n) q k h = record { name = h.name; some = h.some; default_priority = h.default_priority; initiation_queue = h.initiation_queue; max_depth = h.max_depth; max_message_length = k; process = h.process; trigger_data = h.trigger_data; trigger_depth = h.trigger_depth; trigger_priority = h.trigger_priority; kept_are = h.kept_are }
local_text (settings.Delivery d) q k h = record { name = h.name; some = h.some; default_priority = h.default_priority; initiation_queue = h.initiation_queue; max_depth = h.max_depth; max_message_length = h.max_message_length; process = h.process; trigger_data = h.trigger_data; trigger_depth = h.trigger_depth; trigger_priority = h.trigger_priority; kept_are = h.kept_are }
local_text (settings.Process name) q k h = record { name = h.name; some = h.some; default_priority = h.default_priority; initiation_queue = h.initiation_queue; max_depth = h.max_depth; max_message_length = h.max_message_length; process = k; trigger_data = h.trigger_data; trigger_depth = h.trigger_depth; trigger_priority = h.trigger_priority; kept_are = h.kept_are }
local_text (settings.PutEnabled b) q k h = record { name = h.name; some = h.some; default_priority = h.default_priority; initiation_queue = h.initiation_queue; max_depth = h.max_depth; max_message_length = h.max_message_length; process = h.process; trigger_data = h.trigger_data; trigger_depth = h.trigger_depth; trigger_priority = h.trigger_priority; kept_are = h.kept_are }
local_text (settings.TriggerData text) q k h = record { name = h.name; some = h.some; default_priority = h.default_priority; initiation_queue = h.initiation_queue; max_depth = h.max_depth; max_message_length = h.max_message_length; process = h.process; trigger_data = k; trigger_depth = h.trigger_depth; trigger_priority = h.trigger_priority; kept_are = h.kept_are }
local_text (settings.TriggerDepth n) q k h = record { name = h.name; some = h.some; default_priority = h.default_priority; initiation_queue = h.initiation_queue; max_depth = h.max_depth; max_message_length = h.max_message_length; process = h.process; trigger_data = h.trigger_data; trigger_depth = k; trigger_priority = h.trigger_priority; kept_are = h.kept_are }
local_text (settings.Trigger b) q k h = record { name = h.name; some = h.some; default_priority = h.default_priority; initiation_queue = h.initiation_queue; max_depth = h.max_depth; max_message_length = h.max_message_length; process = h.process; trigger_data = h.trigger_data; trigger_depth = h.trigger_depth; trigger_priority = h.trigger_priority; kept_are = h.kept_are }
local_text (settings.TriggerPriority n) q k h = record { name = h.name; some = h.some; default_priority = h.default_priority; initiation_queue = h.initiation_queue; max_depth = h.max_depth; max_message_length = h.max_message_length; process = h.process; trigger_data = h.trigger_data; trigger_depth = h.trigger_depth; trigger_priority = k; kept_are = h.kept_are }
local_text (settings.TriggerType t) q k h = record { name = h.name; some = h.some; default_priority = h.default_priority; initiation_queue = h.initiation_queue; max_depth = h.max_depth; max_message_length = h.max_message_length; process = h.process; trigger_data = h.trigger_data; trigger_depth = h.trigger_depth; trigger_priority = h.trigger_priority; kept_are = h.kept_are }
local_text (settings.Usage u) q k h = record { name = h.name; some = h.some; default_priority = h.default_priority; initiation_queue = h.initiation_queue; max_depth = h.max_depth; max_message_length = h.max_message_length; process = h.process; trigger_data = h.trigger_data; trigger_depth = h.trigger_depth; trigger_priority = h.trigger_priority; kept_are = h.kept_are }
local_text (settings.Kept keyword value) q k h = record { name = h.name; some = h.some; default_priority = h.default_priority; initiation_queue = h.initiation_queue; max_depth = h.max_depth; max_message_length = h.max_message_length; process = h.process; trigger_data = h.trigger_data; trigger_depth = h.trigger_depth; trigger_priority = h.trigger_priority; kept_are = keep_text (kept_keys kinds.Local) keyword value q.kept k h.kept_are }
local_text s q k h = h

alias_text : (s : Setting) (q : AliasQueue) → IsSettingText kinds.Alias s → IsAliasText q → IsAliasText (set_alias s q)
alias_text (settings.DefaultPriority n) q k h = record { name = h.name; some = h.some; default_priority = k; target = h.target; kept_are = h.kept_are }
alias_text (settings.DefaultPersistent b) q k h = record { name = h.name; some = h.some; default_priority = h.default_priority; target = h.target; kept_are = h.kept_are }
alias_text (settings.GetEnabled b) q k h = record { name = h.name; some = h.some; default_priority = h.default_priority; target = h.target; kept_are = h.kept_are }
alias_text (settings.PutEnabled b) q k h = record { name = h.name; some = h.some; default_priority = h.default_priority; target = h.target; kept_are = h.kept_are }
alias_text (settings.Target name) q k h = record { name = h.name; some = h.some; default_priority = h.default_priority; target = k; kept_are = h.kept_are }
alias_text (settings.Kept keyword value) q k h = record { name = h.name; some = h.some; default_priority = h.default_priority; target = h.target; kept_are = keep_text (kept_keys kinds.Alias) keyword value q.kept k h.kept_are }
alias_text s q k h = h

remote_text : (s : Setting) (q : RemoteQueue) → IsSettingText kinds.Remote s → IsRemoteText q → IsRemoteText (set_remote s q)
remote_text (settings.DefaultPriority n) q k h = record { name = h.name; some = h.some; default_priority = k; remote_name = h.remote_name; remote_manager = h.remote_manager; transmission_queue = h.transmission_queue; kept_are = h.kept_are }
remote_text (settings.DefaultPersistent b) q k h = record { name = h.name; some = h.some; default_priority = h.default_priority; remote_name = h.remote_name; remote_manager = h.remote_manager; transmission_queue = h.transmission_queue; kept_are = h.kept_are }
remote_text (settings.PutEnabled b) q k h = record { name = h.name; some = h.some; default_priority = h.default_priority; remote_name = h.remote_name; remote_manager = h.remote_manager; transmission_queue = h.transmission_queue; kept_are = h.kept_are }
remote_text (settings.RemoteName name) q k h = record { name = h.name; some = h.some; default_priority = h.default_priority; remote_name = k; remote_manager = h.remote_manager; transmission_queue = h.transmission_queue; kept_are = h.kept_are }
remote_text (settings.RemoteManager name) q k h = record { name = h.name; some = h.some; default_priority = h.default_priority; remote_name = h.remote_name; remote_manager = k; transmission_queue = h.transmission_queue; kept_are = h.kept_are }
remote_text (settings.TransmissionQueue name) q k h = record { name = h.name; some = h.some; default_priority = h.default_priority; remote_name = h.remote_name; remote_manager = h.remote_manager; transmission_queue = k; kept_are = h.kept_are }
remote_text (settings.Kept keyword value) q k h = record { name = h.name; some = h.some; default_priority = h.default_priority; remote_name = h.remote_name; remote_manager = h.remote_manager; transmission_queue = h.transmission_queue; kept_are = keep_text (kept_keys kinds.Remote) keyword value q.kept k h.kept_are }
remote_text s q k h = h

process_text : (s : Setting) (q : Process) → IsSettingText kinds.Process s → IsProcessText q → IsProcessText (set_process s q)
process_text (settings.ApplId text) q k h = record { name = h.name; some = h.some; appl_id = k; appl_type = h.appl_type; environment_data = h.environment_data; user_data = h.user_data; kept_are = h.kept_are }
process_text (settings.ApplType n) q k h = record { name = h.name; some = h.some; appl_id = h.appl_id; appl_type = k; environment_data = h.environment_data; user_data = h.user_data; kept_are = h.kept_are }
process_text (settings.EnvironmentData text) q k h = record { name = h.name; some = h.some; appl_id = h.appl_id; appl_type = h.appl_type; environment_data = k; user_data = h.user_data; kept_are = h.kept_are }
process_text (settings.UserData text) q k h = record { name = h.name; some = h.some; appl_id = h.appl_id; appl_type = h.appl_type; environment_data = h.environment_data; user_data = k; kept_are = h.kept_are }
process_text (settings.Kept keyword value) q k h = record { name = h.name; some = h.some; appl_id = h.appl_id; appl_type = h.appl_type; environment_data = h.environment_data; user_data = h.user_data; kept_are = keep_text (kept_keys kinds.Process) keyword value q.kept k h.kept_are }
process_text s q k h = h

manager_text : (s : Setting) (m : ManagerAttributes) → IsSettingText kinds.Manager s → IsManagerText m → IsManagerText (set_manager s m)
manager_text (settings.DeadLetterQueue name) m k h = record { dead_letter_queue = k; default_transmission_queue = h.default_transmission_queue; max_handles = h.max_handles; max_message_length = h.max_message_length; max_uncommitted = h.max_uncommitted; trigger_interval = h.trigger_interval; kept_are = h.kept_are }
manager_text (settings.DefaultTransmissionQueue name) m k h = record { dead_letter_queue = h.dead_letter_queue; default_transmission_queue = k; max_handles = h.max_handles; max_message_length = h.max_message_length; max_uncommitted = h.max_uncommitted; trigger_interval = h.trigger_interval; kept_are = h.kept_are }
manager_text (settings.MaxHandles n) m k h = record { dead_letter_queue = h.dead_letter_queue; default_transmission_queue = h.default_transmission_queue; max_handles = k; max_message_length = h.max_message_length; max_uncommitted = h.max_uncommitted; trigger_interval = h.trigger_interval; kept_are = h.kept_are }
manager_text (settings.MaxMessageLength n) m k h = record { dead_letter_queue = h.dead_letter_queue; default_transmission_queue = h.default_transmission_queue; max_handles = h.max_handles; max_message_length = k; max_uncommitted = h.max_uncommitted; trigger_interval = h.trigger_interval; kept_are = h.kept_are }
manager_text (settings.MaxUncommitted n) m k h = record { dead_letter_queue = h.dead_letter_queue; default_transmission_queue = h.default_transmission_queue; max_handles = h.max_handles; max_message_length = h.max_message_length; max_uncommitted = k; trigger_interval = h.trigger_interval; kept_are = h.kept_are }
manager_text (settings.TriggerInterval n) m k h = record { dead_letter_queue = h.dead_letter_queue; default_transmission_queue = h.default_transmission_queue; max_handles = h.max_handles; max_message_length = h.max_message_length; max_uncommitted = h.max_uncommitted; trigger_interval = k; kept_are = h.kept_are }
manager_text (settings.Kept keyword value) m k h = record { dead_letter_queue = h.dead_letter_queue; default_transmission_queue = h.default_transmission_queue; max_handles = h.max_handles; max_message_length = h.max_message_length; max_uncommitted = h.max_uncommitted; trigger_interval = h.trigger_interval; kept_are = keep_text (kept_keys kinds.Manager) keyword value m.kept k h.kept_are }
manager_text s m k h = h

-- channels
wrap_of : (kind : ChannelKind) (w : ℕ) → IsKindText kind w → (100 ≤ w) × (w ≤ 999999999)
wrap_of (channels.Sender batch retry xmitq) w h = h.wrap
wrap_of (channels.Receiver dead) w h = h.wrap

other_wrap : (kind : ChannelKind) (w n : ℕ) → (100 ≤ n) × (n ≤ 999999999) → IsKindText kind w → IsKindText kind n
other_wrap (channels.Sender batch retry xmitq) w n k h = record { batch = h.batch; wrap = k; retry = h.retry; xmitq = h.xmitq }
other_wrap (channels.Receiver dead) w n k h = record { wrap = k }

typed_text : (t : ChannelType) (kind : ChannelKind) (w : ℕ) → IsKindText kind w → IsKindText (typed t kind) w
typed_text types.Sender (channels.Sender batch retry xmitq) w h = h
typed_text types.Sender (channels.Receiver dead) w h = record { batch = (omega arith, omega arith); wrap = h.wrap; retry = omega arith; xmitq = blank_name 48 }
typed_text types.Receiver (channels.Sender batch retry xmitq) w h = record { wrap = h.wrap }
typed_text types.Receiver (channels.Receiver dead) w h = h

kind_text : (s : Setting) (kind : ChannelKind) (w : ℕ) → IsSettingText kinds.Channel s → IsKindText kind w → IsKindText (set_kind s kind) w
kind_text (settings.ChannelType t) kind w k h = typed_text t kind w h
kind_text (settings.BatchSize n) (channels.Sender batch retry xmitq) w k h = record { batch = k; wrap = h.wrap; retry = h.retry; xmitq = h.xmitq }
kind_text (settings.BatchSize n) (channels.Receiver dead) w k h = h
kind_text (settings.ShortRetry n) (channels.Sender batch retry xmitq) w k h = record { batch = h.batch; wrap = h.wrap; retry = k; xmitq = h.xmitq }
kind_text (settings.ShortRetry n) (channels.Receiver dead) w k h = h
kind_text (settings.TransmissionQueue name) (channels.Sender batch retry xmitq) w k h = record { batch = h.batch; wrap = h.wrap; retry = h.retry; xmitq = k }
kind_text (settings.TransmissionQueue name) (channels.Receiver dead) w k h = h
kind_text (settings.UseDeadLetterQueue b) (channels.Sender batch retry xmitq) w k h = h
kind_text (settings.UseDeadLetterQueue b) (channels.Receiver dead) w k h = record { wrap = h.wrap }
kind_text s kind w k h = h

channel_text : (s : Setting) (c : Channel) → IsSettingText kinds.Channel s → IsChannelText c → IsChannelText (set_channel s c)
channel_text (settings.SequenceWrap n) c k h = record { name = h.name; some = h.some; kind = other_wrap c.kind c.sequence_wrap n k h.kind; kept_are = h.kept_are }
channel_text (settings.Fast b) c k h = record { name = h.name; some = h.some; kind = h.kind; kept_are = h.kept_are }
channel_text (settings.Kept keyword value) c k h = record { name = h.name; some = h.some; kind = h.kind; kept_are = keep_text (kept_keys kinds.Channel) keyword value c.kept k h.kept_are }
channel_text s c k h = record { name = h.name; some = h.some; kind = kind_text s c.kind c.sequence_wrap k h.kind; kept_are = h.kept_are }

abbrev kind_at : Object → Kind
kind_at (objects.Local q) = kinds.Local
kind_at (objects.Alias q) = kinds.Alias
kind_at (objects.Remote q) = kinds.Remote
kind_at (objects.Channel c) = kinds.Channel
kind_at (objects.Process q) = kinds.Process

set_text : (s : Setting) (o : Object) → IsSettingText (kind_at o) s → IsObjectText o → IsObjectText (set_object s o)
set_text s (objects.Local q) k h = local_text s q k h
set_text s (objects.Alias q) k h = alias_text s q k h
set_text s (objects.Remote q) k h = remote_text s q k h
set_text s (objects.Channel c) k h = channel_text s c k h
set_text s (objects.Process q) k h = process_text s q k h

same_kind : (s : Setting) (o : Object) → kind_at (set_object s o) ≡ kind_at o
same_kind s (objects.Local q) = refl
same_kind s (objects.Alias q) = refl
same_kind s (objects.Remote q) = refl
same_kind s (objects.Channel c) = refl
same_kind s (objects.Process q) = refl

abbrev AreSettingTexts : Kind → List Setting → Type 0
AreSettingTexts kind ss = AllByRecursion (IsSettingText kind) ss

all_text : (ss : List Setting) (o : Object) → AreSettingTexts (kind_at o) ss → IsObjectText o → IsObjectText (set_all ss o)
all_text [] o k h = h
all_text (s ∷ ss) o k h = all_text ss (set_object s o) (subst (λ (kind : Kind). AreSettingTexts kind ss) (sym (same_kind s o)) k.1) (set_text s o k.0 h)

all_kind : (ss : List Setting) (o : Object) → kind_at (set_all ss o) ≡ kind_at o
all_kind [] o = refl
all_kind (s ∷ ss) o = all_kind ss (set_object s o) ∙ same_kind s o

pub all_manager_text : (ss : List Setting) (m : ManagerAttributes) → AreSettingTexts kinds.Manager ss → IsManagerText m → IsManagerText (set_all_manager ss m)
all_manager_text [] m k h = h
all_manager_text (s ∷ ss) m k h = all_manager_text ss (set_manager s m) k.1 (manager_text s m k.0 h)

-- ---- a new object

new_text : (s : Subject) → IsSubject s → IsObjectText (new_object s)
new_text (subjects.Local n) h = record { name = h.0; some = h.1; default_priority = omega arith; initiation_queue = blank_name 48; max_depth = omega arith; max_message_length = omega arith; process = blank_name 48; trigger_data = (omega arith, refl); trigger_depth = (omega arith, omega arith); trigger_priority = omega arith; kept_are = tt }
new_text (subjects.Alias n) h = record { name = h.0; some = h.1; default_priority = omega arith; target = blank_name 48; kept_are = tt }
new_text (subjects.Remote n) h = record { name = h.0; some = h.1; default_priority = omega arith; remote_name = blank_name 48; remote_manager = blank_name 48; transmission_queue = blank_name 48; kept_are = tt }
new_text (subjects.Channel n) h = record { name = h.0; some = h.1; kind = record { batch = (omega arith, omega arith); wrap = (omega arith, omega arith); retry = omega arith; xmitq = blank_name 48 }; kept_are = tt }
new_text (subjects.Process n) h = record { name = h.0; some = h.1; appl_id = (omega arith, refl); appl_type = omega arith; environment_data = (omega arith, refl); user_data = (omega arith, refl); kept_are = tt }

new_kind : (s : Subject) → kind_at (new_object s) ≡ kind_of s
new_kind (subjects.Local n) = refl
new_kind (subjects.Alias n) = refl
new_kind (subjects.Remote n) = refl
new_kind (subjects.Channel n) = refl
new_kind (subjects.Process n) = refl

filtered : (kind : Kind) (ss : List Setting) → AreSettingTexts kind ss → AreSettingTexts kind (filter is_type_setting ss)
filtered kind [] k = tt
filtered kind (s ∷ ss) k = bool_case (is_type_setting s) (λ b. AreSettingTexts kind (if b then s ∷ filter is_type_setting ss else filter is_type_setting ss)) (λ e. (k.0, filtered kind ss k.1)) (λ e. filtered kind ss k.1)

pub defined_text : (s : Subject) (ss : List Setting) → IsSubject s → AreSettingTexts (kind_of s) ss → IsObjectText (defined_object s ss)
defined_text s ss is k =
    let typed : List Setting = filter is_type_setting ss in
    all_text ss (set_all typed (new_object s)) (subst (λ (kind : Kind). AreSettingTexts kind ss) (sym (all_kind typed (new_object s) ∙ new_kind s)) k)
    (all_text typed (new_object s) (subst (λ (kind : Kind). AreSettingTexts kind typed) (sym (new_kind s)) (filtered (kind_of s) ss k)) (new_text s is))

-- ---- definitions

pub manager_new : IsManagerText new_manager
manager_new = record { dead_letter_queue = blank_name 48; default_transmission_queue = blank_name 48; max_handles = omega arith; max_message_length = (omega arith, omega arith); max_uncommitted = (omega arith, omega arith); trigger_interval = omega arith; kept_are = tt }

found_text : (space : Space) (name : List ℕ) (os : List Object) (o : Object) → AllByRecursion IsObjectText os → object_in space name os ≡ Some o → IsObjectText o
found_text space name [] o h e = absurd cc
found_text space name (x ∷ xs) o h e = bool_case (is_object space name x) (λ b. (if b then Some x else object_in space name xs) ≡ Some o → IsObjectText o)
    (λ z f. let same : x ≡ o = cc in subst IsObjectText same h.0) (λ z f. found_text space name xs o h.1 f) e

set_in_text : (new : Object) (os : List Object) → IsObjectText new → AllByRecursion IsObjectText os → AllByRecursion IsObjectText (set_in new os)
set_in_text new [] k h = (k, tt)
set_in_text new (x ∷ xs) k h = bool_case (is_object (space_of new) (name_of new) x) (λ b. AllByRecursion IsObjectText (if b then new ∷ xs else x ∷ set_in new xs)) (λ e. (k, h.1)) (λ e. (h.0, set_in_text new xs k h.1))

delete_in_text : (space : Space) (name : List ℕ) (os : List Object) → AllByRecursion IsObjectText os → AllByRecursion IsObjectText (delete_in space name os)
delete_in_text space name [] h = tt
delete_in_text space name (x ∷ xs) h = bool_case (is_object space name x) (λ b. AllByRecursion IsObjectText (if b then xs else x ∷ delete_in space name xs)) (λ e. h.1) (λ e. (h.0, delete_in_text space name xs h.1))

pub changed_text : (change : ObjectChange) (d : Definitions) → IsChangeText change → AreObjectTexts d → AreObjectTexts (changed change d)
changed_text (changes.Set new) d k h = record { own = h.own; each = set_in_text new d.objects k h.each }
changed_text (changes.SetManager m) d k h = record { own = k; each = h.each }
changed_text (changes.Delete s) d k h = record { own = h.own; each = delete_in_text (subject_space s) (subject_name s) d.objects h.each }

-- ---- what a command changes

abbrev or_planned : Planned → Result Planned ScRefusal → Planned
or_planned d (Ok planned) = planned
or_planned d (Err refusal) = d

abbrev ok : Planned → Result Planned ScRefusal
ok planned = Ok planned

planned_set : (new : Object) (a b : Bool) (planned : Planned) → ok (planning.set_planned new a b) ≡ ok planned → IsObjectText new → IsChangeText planned.change
planned_set new a b planned e h = subst (λ (x : Planned). IsChangeText x.change) (ap (or_planned planned) e) h

either_planned : (b : Bool) (refusal : ScRefusal) (r : Result Planned ScRefusal) (planned : Planned) → (if b then Err refusal else r) ≡ Ok planned → r ≡ Ok planned
either_planned true refusal r planned e = absurd cc
either_planned false refusal r planned e = e

change_text_of : (force : Bool) (old new : Object) (on : Bool) (u : Uses) (planned : Planned) → planning.changed force old new on u ≡ Ok planned → IsObjectText new → IsChangeText planned.change
change_text_of force old new on u planned e h =
    planned_set new (leads_elsewhere old new) on planned
    (either_planned (planning.changes_rows old new && planning.is_filled old u) refusals.NotEmpty (Ok (planning.set_planned new (leads_elsewhere old new) on)) planned
    (either_planned (planning.is_used force old new u) refusals.InUse (if (planning.changes_rows old new && planning.is_filled old u) then Err refusals.NotEmpty else Ok (planning.set_planned new (leads_elsewhere old new) on)) planned e)) h

define_text_of : (d : Define) (new : Object) (o : Option Object) (u : Uses) (planned : Planned) → define_at d new o u ≡ Ok planned → IsObjectText new → IsChangeText planned.change
define_text_of d new None u planned e h = planned_set new false false planned e h
define_text_of d new (Some old) u planned e h = change_text_of false old new false u planned (either_planned (not d.replace || not (is_kind d.subject old)) refusals.Exists (planning.changed false old new false u) planned e) h

kind_found : (s : Subject) (o : Object) → is_kind s o ≡ true → kind_at o ≡ kind_of s
kind_found (subjects.Local n) (objects.Local q) e = refl
kind_found (subjects.Alias n) (objects.Alias q) e = refl
kind_found (subjects.Remote n) (objects.Remote q) e = refl
kind_found (subjects.Channel n) (objects.Channel q) e = refl
kind_found (subjects.Process n) (objects.Process q) e = refl
kind_found _ _ e = absurd cc

good_text : (bad : Option Keyword) (a : Alter) (old : Object) (u : Uses) (planned : Planned) → alter_good bad a old u ≡ Ok planned → IsObjectText (set_all a.settings old) → IsChangeText planned.change
good_text None a old u planned e h = change_text_of a.force old (set_all a.settings old) (switches_on old a.settings) u planned e h
good_text (Some keyword) a old u planned e h = absurd cc

alter_text_of : (a : Alter) (o : Option Object) (u : Uses) (planned : Planned) → alter_at a o u ≡ Ok planned → AreSettingTexts (kind_of a.subject) a.settings → ((old : Object) → o ≡ Some old → IsObjectText old) → IsChangeText planned.change
alter_text_of a None u planned e k h = absurd cc
alter_text_of a (Some old) u planned e k h = bool_case (is_kind a.subject old) (λ b. is_kind a.subject old ≡ b → (if not b then Err refusals.Missing else alter_good (bad_in old a.settings) a old u) ≡ Ok planned → IsChangeText planned.change)
    (λ z w f. good_text (bad_in old a.settings) a old u planned f (all_text a.settings old (subst (λ (kind : Kind). AreSettingTexts kind a.settings) (sym (kind_found a.subject old w)) k) (h old refl)))
    (λ z w f. absurd cc) refl e

delete_text_of : (d : Delete) (o : Option Object) (u : Uses) (planned : Planned) → delete_at d o u ≡ Ok planned → IsSubject d.subject → IsChangeText planned.change
delete_text_of d None u planned e k = absurd cc
delete_text_of d (Some old) u planned e k =
    subst (λ (x : Planned). IsChangeText x.change) (ap (or_planned planned)
    (either_planned (planning.is_filled old u) refusals.NotEmpty (Ok deleted) planned
    (either_planned (planning.is_on_path old u || planning.is_sent_from old u || planning.is_busy old u) refusals.InUse (if planning.is_filled old u then Err refusals.NotEmpty else Ok deleted) planned
    (either_planned (not (is_kind d.subject old)) refusals.Missing (if (planning.is_on_path old u || planning.is_sent_from old u || planning.is_busy old u) then Err refusals.InUse else (if planning.is_filled old u then Err refusals.NotEmpty else Ok deleted)) planned e)))) k
  where
    deleted : Planned
    deleted = record { change = changes.Delete d.subject; reroutes = false; switches_on = false }

shown_no : (r : Result Shown ScRefusal) (planned : Planned) → to_show r ≡ Ok (plans.Change planned) → ⊥
shown_no (Ok shown) planned e = cc e
shown_no (Err refusal) planned e = cc e

change_of : (r : Result Planned ScRefusal) (planned : Planned) → to_change r ≡ Ok (plans.Change planned) → r ≡ Ok planned
change_of (Ok x) planned e = let same : x ≡ planned = cc in ap (λ (y : Planned). Ok y) same
change_of (Err refusal) planned e = absurd cc

pub command_text : (c : Command) (own : List ℕ) (d : Definitions) (u : Uses) (planned : Planned) → plan c own d u ≡ Ok (plans.Change planned) → IsCommandText c → AreObjectTexts d → IsChangeText planned.change
command_text (commands.Define x) own d u planned e k h = define_text_of x (defined_object x.subject x.settings) (named x.subject d) u planned (change_of (define x d u) planned e) (defined_text x.subject x.settings k.0 k.1)
command_text (commands.Alter x) own d u planned e k h = alter_text_of x (named x.subject d) u planned (change_of (alter x d u) planned e) k.1 (λ old w. found_text (subject_space x.subject) (subject_name x.subject) d.objects old h.each w)
command_text (commands.AlterManager x) own d u planned e k h =
    subst (λ (y : Planned). IsChangeText y.change) (ap (or_planned planned)
    (either_planned (not x.force && default_changes d.manager (set_all_manager x.settings d.manager) && u.defxmitq_on_path) refusals.InUse (Ok altered) planned (change_of (alter_manager x d u) planned e)))
    (all_manager_text x.settings d.manager k h.own)
  where
    altered : Planned
    altered = record { change = changes.SetManager (set_all_manager x.settings d.manager); reroutes = default_changes d.manager (set_all_manager x.settings d.manager); switches_on = false }
command_text (commands.Delete x) own d u planned e k h = delete_text_of x (named x.subject d) u planned (change_of (delete x d u) planned e) k
command_text (commands.Display x) own d u planned e k h = absurd (shown_no (display x own d u) planned e)
