-- DEFINE, ALTER and DELETE: what refuses them, in order, and the change that they make.
use Rattle.std.specs.Prelude.{Bool, true, false, not, ◌&&◌, ◌||◌, List, [], ◌∷◌, Option, Some, None, Result, Ok, Err, if◌then◌else◌, filter}
use Rattle.std.specs.List.{list_any}
use Rattle.std.specs.Str.{bytes_eq}
use Rattle.mq_calls.specs.from_objects.{Alter, AlterManager, ChannelKind, Define, Definitions, Delete, Delivery, Keyword, ManagerAttributes, Object, Setting, Subject, Usage}
use Rattle.mq_calls.specs.from_objects.ChannelKindVariants as kinds
use Rattle.mq_calls.specs.from_objects.ObjectVariants as objects
use Rattle.mq_calls.specs.from_objects.ChannelTypeVariants as channel_types
use Rattle.mq_calls.specs.from_objects.KeywordVariants as keywords
use Rattle.mq_calls.specs.from_objects.SettingVariants as settings
use Rattle.mq_calls.specs.from_objects.ObjectChangeVariants as changes
use Rattle.mq_calls.specs.from_objects.Names.{named, is_kind, is_transmission, is_by_priority}
use Rattle.mq_calls.specs.from_objects.Defaults.{new_object}
use Rattle.mq_calls.specs.from_objects.Settings.{set_all, set_all_manager}
use Rattle.mq_calls.specs.declared.commands.ScRefusal.{ScRefusal}
use Rattle.mq_calls.specs.declared.commands.ScRefusal.TheVariants as refusals
use Rattle.mq_calls.specs.from_resolve.Resolved.{Row, row, first_row}
use Rattle.mq_sc_apply.specs.declared.answers.Planned.{Planned}
use Rattle.mq_sc_apply.specs.Uses.{Uses}

-- the object that a DEFINE makes: CHLTYPE first, then all that it gives
abbrev pub is_type_setting : Setting → Bool
is_type_setting (settings.ChannelType t) = true
is_type_setting _ = false

-- and then with all of them
abbrev pub defined_object : Subject → List Setting → Object
defined_object subject given = set_all given (set_all (filter is_type_setting given) (new_object subject))

-- whether a change leads the name elsewhere: TARGET; RNAME, RQMNAME, XMITQ; USAGE
abbrev pub same_usage : Usage → Usage → Bool
same_usage a b = if is_transmission a then is_transmission b else not (is_transmission b)

-- one MSGDLVSQ
abbrev pub same_delivery : Delivery → Delivery → Bool
same_delivery a b = if is_by_priority a then is_by_priority b else not (is_by_priority b)

-- by the kind of both
abbrev pub leads_elsewhere : Object → Object → Bool
leads_elsewhere (objects.Local a) (objects.Local b) = not (same_usage a.usage b.usage)
leads_elsewhere (objects.Alias a) (objects.Alias b) = not (bytes_eq a.target b.target)
leads_elsewhere (objects.Remote a) (objects.Remote b) =
    not (bytes_eq a.remote_name b.remote_name && bytes_eq a.remote_manager b.remote_manager && bytes_eq a.transmission_queue b.transmission_queue)
leads_elsewhere _ _ = false

-- USAGE alone
abbrev pub changes_usage : Object → Object → Bool
changes_usage (objects.Local a) (objects.Local b) = not (same_usage a.usage b.usage)
changes_usage _ _ = false

-- USAGE or MSGDLVSQ, which a queue with rows keeps
abbrev pub changes_rows : Object → Object → Bool
changes_rows (objects.Local a) (objects.Local b) = not (same_usage a.usage b.usage && same_delivery a.delivery b.delivery)
changes_rows _ _ = false

-- what is said of an object's use
abbrev pub is_on_path : Object → Uses → Bool
is_on_path (objects.Local q) u = u.on_path q.name
is_on_path (objects.Alias q) u = u.on_path q.name
is_on_path (objects.Remote q) u = u.on_path q.name
is_on_path (objects.Channel c) u = false
is_on_path (objects.Process p) u = false

-- a running sender has it open
abbrev pub is_sent_from : Object → Uses → Bool
is_sent_from (objects.Local q) u = u.sending q.name
is_sent_from _ u = false

-- it is a channel that runs or is in doubt
abbrev pub is_busy : Object → Uses → Bool
is_busy (objects.Channel c) u = u.channel_busy c.name
is_busy _ u = false

-- it is a queue with rows or uncommitted puts
abbrev pub is_filled : Object → Uses → Bool
is_filled (objects.Local q) u = u.has_rows q.name
is_filled _ u = false

-- A change from one object to another of its name and kind.
abbrev pub is_used : (force : Bool) → Object → Object → Uses → Bool
is_used force old new u =
    (not force && leads_elsewhere old new && is_on_path old u) || (changes_usage old new && is_sent_from old u) || is_busy old u

-- what refuses the change
abbrev pub change_rows : (force : Bool) → Object → Object → Uses → List (Row (Result Planned ScRefusal))
change_rows force old new u =
    row (is_used force old new u) (Err refusals.InUse)
    ∷ row (changes_rows old new && is_filled old u) (Err refusals.NotEmpty)
    ∷ []

-- the change that sets an object
abbrev pub set_planned : Object → (reroutes switches_on : Bool) → Planned
set_planned new reroutes on = record { change = changes.Set new; reroutes = reroutes; switches_on = on }

-- the change, or what refuses it
abbrev pub changed : (force : Bool) → Object → Object → (switches_on : Bool) → Uses → Result Planned ScRefusal
changed force old new on u = first_row (change_rows force old new u) (Ok (set_planned new (leads_elsewhere old new) on))

-- DEFINE
abbrev pub define_at : Define → Object → Option Object → Uses → Result Planned ScRefusal
define_at d new None u = Ok (set_planned new false false)
define_at d new (Some old) u = first_row (
    row (not d.replace || not (is_kind d.subject old)) (Err refusals.Exists)
    ∷ []) (changed false old new false u)

-- by what the command names
abbrev pub define : Define → Definitions → Uses → Result Planned ScRefusal
define d defs u = define_at d (defined_object d.subject d.settings) (named d.subject defs) u

-- ALTER: the first keyword that the channel which is there cannot take
abbrev pub bad_keyword : ChannelKind → Setting → Option Keyword
bad_keyword (kinds.Sender batch retry xmitq) (settings.ChannelType channel_types.Receiver) = Some keywords.ChlType
bad_keyword (kinds.Sender batch retry xmitq) (settings.UseDeadLetterQueue b) = Some keywords.UseDlq
bad_keyword (kinds.Receiver dead) (settings.ChannelType channel_types.Sender) = Some keywords.ChlType
bad_keyword (kinds.Receiver dead) (settings.BatchSize n) = Some keywords.BatchSz
bad_keyword (kinds.Receiver dead) (settings.ShortRetry n) = Some keywords.ShortRty
bad_keyword (kinds.Receiver dead) (settings.TransmissionQueue name) = Some keywords.XmitQ
bad_keyword _ _ = None

-- the first of two
abbrev pub or_bad : Option Keyword → Option Keyword → Option Keyword
or_bad None other = other
or_bad (Some k) other = Some k

-- among all
abbrev pub first_bad : ChannelKind → List Setting → Option Keyword
first_bad kind [] = None
first_bad kind (s ∷ ss) = or_bad (bad_keyword kind s) (first_bad kind ss)

-- of an object; only channels refuse any
abbrev pub bad_in : Object → List Setting → Option Keyword
bad_in (objects.Channel c) given = first_bad c.kind given
bad_in _ given = None

-- TRIGGER was given to a local queue
abbrev pub is_trigger_setting : Setting → Bool
is_trigger_setting (settings.Trigger b) = b
is_trigger_setting _ = false

-- by an ALTER
abbrev pub switches_on : Object → List Setting → Bool
switches_on (objects.Local q) given = list_any is_trigger_setting given
switches_on _ given = false

-- where the keywords are good
abbrev pub alter_good : Option Keyword → Alter → Object → Uses → Result Planned ScRefusal
alter_good (Some keyword) a old u = Err (refusals.BadValue keyword)
alter_good None a old u = changed a.force old (set_all a.settings old) (switches_on old a.settings) u

-- by what stands there
abbrev pub alter_at : Alter → Option Object → Uses → Result Planned ScRefusal
alter_at a None u = Err refusals.Missing
alter_at a (Some old) u = first_row (
    row (not (is_kind a.subject old)) (Err refusals.Missing)
    ∷ []) (alter_good (bad_in old a.settings) a old u)

-- by what the command names
abbrev pub alter : Alter → Definitions → Uses → Result Planned ScRefusal
alter a defs u = alter_at a (named a.subject defs) u

-- ALTER QMGR
abbrev pub default_changes : ManagerAttributes → ManagerAttributes → Bool
default_changes a b = not (bytes_eq a.default_transmission_queue b.default_transmission_queue)

-- by the attributes that come
abbrev pub alter_attributes : (force : Bool) → ManagerAttributes → ManagerAttributes → Uses → Result Planned ScRefusal
alter_attributes force old new u = first_row (
    row (not force && default_changes old new && u.defxmitq_on_path) (Err refusals.InUse)
    ∷ []) (Ok (record { change = changes.SetManager new; reroutes = default_changes old new; switches_on = false }))

-- by the command
abbrev pub alter_manager : AlterManager → Definitions → Uses → Result Planned ScRefusal
alter_manager a defs u = alter_attributes a.force defs.manager (set_all_manager a.settings defs.manager) u

-- DELETE
abbrev pub delete_at : Delete → Option Object → Uses → Result Planned ScRefusal
delete_at d None u = Err refusals.Missing
delete_at d (Some old) u = first_row (
    row (not (is_kind d.subject old)) (Err refusals.Missing)
    ∷ row (is_on_path old u || is_sent_from old u || is_busy old u) (Err refusals.InUse)
    ∷ row (is_filled old u) (Err refusals.NotEmpty)
    ∷ []) (Ok (record { change = changes.Delete d.subject; reroutes = false; switches_on = false }))

-- by what the command names
abbrev pub delete : Delete → Definitions → Uses → Result Planned ScRefusal
delete d defs u = delete_at d (named d.subject defs) u
