-- The command of a line.
use Rattle.std.specs.Prelude.{ℕ, ◌-◌, ◌==◌, Bool, true, false, min, List, [], ◌∷◌, length, take, drop, slice_get, is_some, if◌then◌else◌, Option, Some, None, Result, Ok, Err, codes}
use Rattle.std.specs.Option.{option_map}
use Rattle.mq_sc_keys.specs.from_base.Name.{name_of}
use Rattle.mq_sync.specs.declared.unit.Settle.{Settle}
use Rattle.mq_sync.specs.declared.unit.Settle.TheVariants as settles
use Rattle.mq_sc_keys.specs.from_objects.{Keyword, Subject, Subjects}
use Rattle.mq_sc_keys.specs.from_objects.SubjectVariants as subjects
use Rattle.mq_sc_keys.specs.from_objects.SubjectsVariants as shown
use Rattle.mq_sc_keys.specs.from_objects.CommandVariants as objects
use Rattle.mq_sc_lex.specs.declared.token.Token.{Token}
use Rattle.mq_sc_lex.specs.declared.token.Span.{Span}
use Rattle.mq_sc_lex.specs.declared.token.Line.{Line}
use Rattle.mq_sc_keys.specs.declared.verbs.Verb.{Verb}
use Rattle.mq_sc_keys.specs.declared.verbs.Verb.TheVariants as verbs
use Rattle.mq_sc_keys.specs.declared.verbs.Noun.{Noun}
use Rattle.mq_sc_keys.specs.declared.verbs.Noun.TheVariants as nouns
use Rattle.mq_sc_keys.specs.declared.attributes.Kind.{Kind}
use Rattle.mq_sc_keys.specs.declared.attributes.Kind.TheVariants as kinds
use Rattle.mq_sc_parse.specs.declared.splitting.Item.{Item}
use Rattle.mq_sc_keys.specs.declared.value.Value.{Value}
use Rattle.mq_sc_keys.specs.declared.value.Value.TheVariants as values
use Rattle.mq_sc_parse.specs.declared.command.Op.TheVariants as ops
use Rattle.mq_sc_parse.specs.declared.command.Command.{Command}
use Rattle.mq_sc_parse.specs.declared.command.Command.TheVariants as commands
use Rattle.mq_sc_parse.specs.declared.fault.ScFault.{ScFault}
use Rattle.mq_sc_parse.specs.declared.fault.ScFault.TheVariants as faults
use Rattle.mq_sc_parse.specs.declared.naming.Named.{Named}
use Rattle.mq_sc_parse.specs.declared.naming.Pattern.{Pattern}
use Rattle.mq_sc_keys.specs.Verbs.{verb_of, object_of}
use Rattle.mq_sc_parse.specs.Splitting.{word_of_kind, value_at, value_len, items_of}
use Rattle.mq_sc_keys.specs.Values.{are_blanks, name_or_none, number_value, choice_value}
use Rattle.mq_sc_parse.specs.Checks.{first_unknown, first_repeated, has_word, kind_of, lacks}
use Rattle.mq_sc_parse.specs.Asking.{settings_of, asked_of}

infixl 10 ◌>>=◌
abbrev pub ◌>>=◌ : {A B : Type 0} → Result A ScFault → (A → Result B ScFault) → Result B ScFault
(Ok x) >>= f = f x
(Err e) >>= f = Err e

abbrev pub some_or : {A : Type 0} → ScFault → Option A → Result A ScFault
some_or fault None = Err fault
some_or fault (Some x) = Ok x

-- Places. A line without tokens has its number alone.
abbrev pub first_span : ℕ → List Token → Span
first_span number [] = record { line = number; start = 0; end = 0 }
first_span number (t ∷ ts) = t.span

abbrev pub second_span : ℕ → List Token → Span
second_span number [] = record { line = number; start = 0; end = 0 }
second_span number (t ∷ []) = t.span
second_span number (t ∷ u ∷ us) = u.span

abbrev pub span_or : Span → Option Token → Span
span_or span None = span
span_or span (Some t) = t.span

abbrev pub last_span : ℕ → List Token → Span
last_span number ts = span_or (first_span number ts) (slice_get ts (length ts - 1))

abbrev pub first_word : List Token → List ℕ
first_word [] = []
first_word (t ∷ ts) = word_of_kind t.kind

abbrev pub second_word : List Token → List ℕ
second_word [] = []
second_word (t ∷ []) = []
second_word (t ∷ u ∷ us) = word_of_kind u.kind

-- what stands behind so many tokens
abbrev pub behind : ℕ → List Token → List Token
behind n ts = drop (min (length ts) n) ts

-- The name of an object: one value in brackets, not blank. The manager has none.
abbrev pub named_as : Span → Span → ℕ → Value → Result Named ScFault
named_as object span len values.Absent = Err (faults.MissingName object)
named_as object span len (values.Text text) = if are_blanks text then Err (faults.MissingName object) else Ok (record { text = text; span = span; len = len })
named_as object span len values.Malformed = Err (faults.MissingName object)

-- the value behind an opening bracket
abbrev pub value_span : Span → List Token → Span
value_span object [] = object
value_span object (t ∷ []) = object
value_span object (t ∷ u ∷ us) = u.span

abbrev pub has_name : Noun → Bool
has_name nouns.Manager = false
has_name _ = true

unfoldable pub named_at : Noun → Span → List Token → Result Named ScFault
named_at noun object ts = if has_name noun then named_as object (value_span object ts) (value_len ts) (value_at ts) else Ok (record { text = []; span = object; len = 0 })

-- the object that a verb, a noun and a name mean
abbrev pub channel_name : List ℕ → Option (List ℕ)
channel_name text = name_or_none (name_of 20 text)

abbrev pub queue_name : List ℕ → Option (List ℕ)
queue_name text = name_or_none (name_of 48 text)

abbrev pub subject_of : Noun → List ℕ → Option Subject
subject_of nouns.Local text = option_map subjects.Local (queue_name text)
subject_of nouns.Alias text = option_map subjects.Alias (queue_name text)
subject_of nouns.Remote text = option_map subjects.Remote (queue_name text)
subject_of nouns.Channel text = option_map subjects.Channel (channel_name text)
subject_of nouns.Process text = option_map subjects.Process (queue_name text)
subject_of _ text = None

abbrev pub subjects_of : Noun → Subjects
subjects_of nouns.Local = shown.Locals
subjects_of nouns.Alias = shown.Aliases
subjects_of nouns.Remote = shown.Remotes
subjects_of nouns.Channel = shown.Channels
subjects_of nouns.Process = shown.Processes
subjects_of nouns.Manager = shown.Manager
subjects_of nouns.Queue = shown.Queues
subjects_of nouns.Status = shown.Channels

-- a name, or the beginning of one where a star stands at its end
abbrev pub is_star : Option ℕ → Bool
is_star None = false
is_star (Some b) = b == 42

abbrev pub pattern_of : List ℕ → Pattern
pattern_of text = if is_star (slice_get text (length text - 1)) then record { text = take (length text - 1) text; any_end = true } else record { text = text; any_end = false }

-- a beginning may be empty
abbrev pub prefix_of : Option (List ℕ) → List ℕ → Option (List ℕ)
prefix_of name [] = Some []
prefix_of name (b ∷ bs) = name

abbrev pub is_prefix : Noun → List ℕ → Bool
is_prefix nouns.Channel text = is_some (prefix_of (channel_name text) text)
is_prefix nouns.Status text = is_some (prefix_of (channel_name text) text)
is_prefix _ text = is_some (prefix_of (queue_name text) text)

-- What is wrong with the keywords: one that is unknown, else one that came before.
abbrev pub unknown_or : Option Span → Option Span → Option ScFault
unknown_or (Some span) repeated = Some (faults.UnknownKeyword span)
unknown_or None (Some span) = Some (faults.Repeated span)
unknown_or None None = None

unfoldable pub fault_of : Verb → Kind → List Item → Option ScFault
fault_of verb kind items = unknown_or (first_unknown verb kind items) (first_repeated verb kind items)

abbrev pub unless_fault : {A : Type 0} → Option ScFault → Result A ScFault → Result A ScFault
unless_fault (Some fault) read = Err fault
unless_fault None read = read

-- The commands. What is bad of the name stands before what is bad of the keywords.
unfoldable pub define_of : Noun → Kind → Named → List Item → Span → Result Command ScFault
define_of noun kind name items last = do
  subject ← some_or (faults.BadValue name.span) (subject_of noun name.text)
  settings ← settings_of verbs.Define kind items
  if lacks kind items then Err (faults.BadValue last) else Ok (commands.Objects (objects.Define (record { subject = subject; replace = has_word (codes "REPLACE") items; settings = settings })))

unfoldable pub alter_manager_of : List Item → Result Command ScFault
alter_manager_of items = do
  settings ← settings_of verbs.Alter kinds.Manager items
  Ok (commands.Objects (objects.AlterManager (record { force = has_word (codes "FORCE") items; settings = settings })))

unfoldable pub alter_object_of : Noun → Kind → Named → List Item → Result Command ScFault
alter_object_of noun kind name items = do
  subject ← some_or (faults.BadValue name.span) (subject_of noun name.text)
  settings ← settings_of verbs.Alter kind items
  Ok (commands.Objects (objects.Alter (record { subject = subject; force = has_word (codes "FORCE") items; settings = settings })))

abbrev pub alter_of : Noun → Kind → Named → List Item → Result Command ScFault
alter_of noun kind name items = if has_name noun then alter_object_of noun kind name items else alter_manager_of items

unfoldable pub delete_of : Noun → Named → Result Command ScFault
delete_of noun name = do
  subject ← some_or (faults.BadValue name.span) (subject_of noun name.text)
  Ok (commands.Objects (objects.Delete (record { subject = subject })))

-- ALL asks for every attribute, as naming none does
abbrev pub asked_or_all : List Item → List Keyword → List Keyword
asked_or_all items asked = if has_word (codes "ALL") items then [] else asked

unfoldable pub show_objects : Noun → Kind → List ℕ → Bool → List Item → Result Command ScFault
show_objects noun kind name any_end items = do
  asked ← asked_of verbs.Display kind items
  Ok (commands.Objects (objects.Display (record { subjects = subjects_of noun; name = name; any_end = any_end; asked = asked_or_all items asked })))

unfoldable pub show_status : List ℕ → Bool → List Item → Result Command ScFault
show_status name any_end items = do
  asked ← asked_of verbs.Display kinds.Status items
  Ok (commands.ShowStatus name any_end)

abbrev pub is_status : Noun → Bool
is_status nouns.Status = true
is_status _ = false

unfoldable pub status_named : Named → List Item → Result Command ScFault
status_named name items = do
  channel ← some_or (faults.BadValue name.span) (prefix_of (channel_name (pattern_of name.text).text) (pattern_of name.text).text)
  show_status channel (pattern_of name.text).any_end items

unfoldable pub show_named : Noun → Kind → Named → List Item → Result Command ScFault
show_named noun kind name items =
    if is_prefix noun (pattern_of name.text).text
    then show_objects noun kind (pattern_of name.text).text (pattern_of name.text).any_end items
    else Err (faults.BadValue name.span)

abbrev pub display_named : Noun → Kind → Named → List Item → Result Command ScFault
display_named noun kind name items = if is_status noun then status_named name items else show_named noun kind name items

abbrev pub display_of : Noun → Kind → Named → List Item → Result Command ScFault
display_of noun kind name items = if has_name noun then display_named noun kind name items else show_objects noun kind [] false items

abbrev pub channel_of : Named → Result (List ℕ) ScFault
channel_of name = some_or (faults.BadValue name.span) (channel_name name.text)

unfoldable pub start_of : Named → Result Command ScFault
start_of name = do
  channel ← channel_of name
  Ok (commands.Operate (ops.Start channel))

unfoldable pub stop_of : Named → Result Command ScFault
stop_of name = do
  channel ← channel_of name
  Ok (commands.Operate (ops.Stop channel))

-- SEQNUM is 1 where it is not given
abbrev pub number_of : List Item → Result ℕ ScFault
number_of [] = Ok 1
number_of (i ∷ is) = some_or (faults.BadValue i.span) (number_value 0 999999999 i.value)

unfoldable pub reset_of : Named → List Item → Result Command ScFault
reset_of name items = do
  channel ← channel_of name
  n ← number_of items
  Ok (commands.Operate (ops.Reset channel n))

abbrev pub settle_as : Option Bool → Option Settle
settle_as None = None
settle_as (Some true) = Some settles.Commit
settle_as (Some false) = Some settles.Backout

-- ACTION is needed
abbrev pub settle_of : List Item → Span → Result Settle ScFault
settle_of [] last = Err (faults.BadValue last)
settle_of (i ∷ is) last = some_or (faults.BadValue i.span) (settle_as (choice_value (codes "COMMIT") (codes "BACKOUT") i.value))

unfoldable pub resolve_of : Named → List Item → Span → Result Command ScFault
resolve_of name items last = do
  channel ← channel_of name
  settle ← settle_of items last
  Ok (commands.Operate (ops.Resolve channel settle))

abbrev pub command_of : Verb → Noun → Kind → Named → List Item → Span → Result Command ScFault
command_of verbs.Define noun kind name items last = define_of noun kind name items last
command_of verbs.Alter noun kind name items last = alter_of noun kind name items
command_of verbs.Delete noun kind name items last = delete_of noun name
command_of verbs.Display noun kind name items last = display_of noun kind name items
command_of verbs.Start noun kind name items last = start_of name
command_of verbs.Stop noun kind name items last = stop_of name
command_of verbs.Reset noun kind name items last = reset_of name items
command_of verbs.Resolve noun kind name items last = resolve_of name items last

unfoldable pub checked_command : Verb → Noun → Named → Span → List Item → Result Command ScFault
checked_command verb noun name last items = unless_fault (fault_of verb (kind_of noun items) items) (command_of verb noun (kind_of noun items) name items last)

-- the command of a line, or the first fault: the verb, the object, its name, a keyword that is unknown, one that came
-- before, a bad value
unfoldable pub parse_of : Line → Result Command ScFault
parse_of line = do
  verb ← some_or (faults.UnknownVerb (first_span line.number line.tokens)) (verb_of (first_word line.tokens))
  noun ← some_or (faults.UnknownObject (second_span line.number line.tokens)) (object_of verb (second_word line.tokens))
  name ← named_at noun (second_span line.number line.tokens) (behind 2 line.tokens)
  checked_command verb noun name (last_span line.number line.tokens) (items_of (behind name.len (behind 2 line.tokens)))
