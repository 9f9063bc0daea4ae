-- DISPLAY: one line an object, in order of definition.
use Rattle.std.specs.Prelude.{ℕ, Bool, true, false, not, ◌&&◌, List, [], ◌∷◌, ◌++◌, if◌then◌else◌, Result, Ok, Err, filter, map, flat_map, codes, nat_eq}
use Rattle.std.specs.List.{starts_with}
use Rattle.std.specs.Str.{bytes_eq}
use Rattle.mq_calls.specs.from_objects.{Definitions, Display, Keyword, LocalQueue, ManagerAttributes, NameSpace, Object, Subjects}
use Rattle.mq_calls.specs.from_objects.ObjectVariants as objects
use Rattle.mq_calls.specs.from_objects.KeywordVariants as keywords
use Rattle.mq_calls.specs.from_objects.SubjectsVariants as shows
use Rattle.mq_calls.specs.from_objects.NameSpaceVariants.{Queues, Channels, Processes}
use Rattle.mq_calls.specs.from_objects.Names.{name_of}
use Rattle.mq_calls.specs.from_objects.Attributes.{Attribute, attributes, local_attributes, manager_attributes, kind_word, in_brackets, shown_attribute, number_of}
use Rattle.mq_calls.specs.from_objects.Written.{is_asked}
use Rattle.mq_calls.specs.declared.commands.Shown.{Shown}
use Rattle.mq_calls.specs.declared.commands.ScRefusal.{ScRefusal}
use Rattle.mq_calls.specs.declared.commands.ScRefusal.TheVariants as refusals
use Rattle.mq_sc_apply.specs.Uses.{Uses}

-- an object of the kind that is asked for
abbrev pub is_meant : Subjects → Object → Bool
is_meant shows.Locals (objects.Local q) = true
is_meant shows.Queues (objects.Local q) = true
is_meant shows.Aliases (objects.Alias q) = true
is_meant shows.Queues (objects.Alias q) = true
is_meant shows.Remotes (objects.Remote q) = true
is_meant shows.Queues (objects.Remote q) = true
is_meant shows.Channels (objects.Channel c) = true
is_meant shows.Processes (objects.Process c) = true
is_meant _ _ = false

-- the name space of what is asked for; the manager has none
abbrev pub searched_space : Subjects → NameSpace
searched_space shows.Locals = Queues
searched_space shows.Aliases = Queues
searched_space shows.Remotes = Queues
searched_space shows.Queues = Queues
searched_space shows.Manager = Queues
searched_space shows.Channels = Channels
searched_space shows.Processes = Processes

-- a name that ends in `*` stands for all that begin so
abbrev pub has_name : Display → List ℕ → Bool
has_name d name = if d.any_end then starts_with nat_eq name d.name else bytes_eq d.name name

-- an object of that kind and name
abbrev pub is_shown : Display → Object → Bool
is_shown d object = is_meant d.subjects object && has_name d (name_of object)

-- a queue that counts as NOTRIGGER is shown so; CURDEPTH stands last
abbrev pub local_shown : LocalQueue → Uses → List Attribute
local_shown q u =
    local_attributes (record q { trigger = q.trigger && not (u.trigger_off q.name) }) ++ number_of keywords.CurDepth (codes "CURDEPTH") (u.depth q.name) ∷ []

-- what is shown of an object
abbrev pub shown_attributes : Object → Uses → List Attribute
shown_attributes (objects.Local q) u = local_shown q u
shown_attributes object u = attributes object

-- the kind and the name, then the attributes asked
abbrev pub line_of : List ℕ → List Keyword → List Attribute → List ℕ
line_of head asked as_ = head ++ flat_map (λ (a : Attribute). shown_attribute a.word a.value) (filter (λ (a : Attribute). is_asked asked a.keyword) as_)

-- the line of an object
abbrev pub object_line : List Keyword → Uses → Object → List ℕ
object_line asked u object = line_of (in_brackets (kind_word object) (name_of object)) asked (shown_attributes object u)

-- MAXPRTY stands last
abbrev pub manager_shown : ManagerAttributes → List Attribute
manager_shown m = manager_attributes m ++ number_of keywords.MaxPrty (codes "MAXPRTY") 9 ∷ []

-- the line of the manager
abbrev pub manager_line : List Keyword → (own : List ℕ) → ManagerAttributes → List ℕ
manager_line asked own m = line_of (in_brackets (codes "QMGR") own) asked (manager_shown m)

-- a line for each object that is shown
abbrev pub lines_of : Display → Uses → List Object → List (List ℕ)
lines_of d u objects = map (object_line d.asked u) (filter (is_shown d) objects)

abbrev pub object_lines : Display → Definitions → Uses → List (List ℕ)
object_lines d defs u = lines_of d u defs.objects

-- a whole name that shows nothing is MISSING
abbrev pub lines_found : (any_end : Bool) → List (List ℕ) → Result Shown ScRefusal
lines_found any [] = if any then Ok (record { lines = [] }) else Err refusals.Missing
lines_found any (line ∷ lines) = Ok (record { lines = line ∷ lines })

-- DISPLAY of objects or of the manager
abbrev pub display_of : Subjects → Display → (own : List ℕ) → Definitions → Uses → Result Shown ScRefusal
display_of shows.Manager d own defs u = Ok (record { lines = manager_line d.asked own defs.manager ∷ [] })
display_of _ d own defs u = lines_found d.any_end (object_lines d defs u)

abbrev pub display : Display → (own : List ℕ) → Definitions → Uses → Result Shown ScRefusal
display d own defs u = display_of d.subjects d own defs u
