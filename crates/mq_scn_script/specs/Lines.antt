-- Lines of scripts, one by one: what the words behind the verb say.
use Rattle.std.specs.Prelude.{ℕ, Bool, true, false, List, [], ◌∷◌, codes, if◌then◌else◌, Option, Some, None, Result, Ok, Err}
use Rattle.std.specs.Str.{bytes_eq}
use Rattle.mq_calls.specs.declared.answers.Open.{Open}
use Rattle.mq_sc_parse.specs.declared.command.Command.{Command}
use Rattle.mq_history.specs.declared.scripts.Body.{Body}
use Rattle.mq_history.specs.declared.scripts.PutOptions.{PutOptions}
use Rattle.mq_history.specs.declared.scripts.GetOptions.{GetOptions}
use Rattle.mq_history.specs.declared.scripts.ScriptLine.{ScriptLine}
use Rattle.mq_history.specs.declared.scripts.ScriptLine.TheVariants as lines
use Rattle.mq_scn_lines.specs.declared.fault.LineFault.{LineFault}
use Rattle.mq_scn_lines.specs.declared.fault.LineFault.TheVariants as faults
use Rattle.mq_scn_lines.specs.Faults.{both}
use Rattle.mq_scn_lines.specs.Words.{is_open, words_of, first_word}
use Rattle.mq_scn_lines.specs.Numbers.{ranged}
use Rattle.mq_scn_lines.specs.Operands.{bracketed, label_in, name_or_blank_in}
use Rattle.mq_scn_script.specs.declared.verbs.ScriptVerb.{ScriptVerb}
use Rattle.mq_scn_script.specs.declared.verbs.ScriptVerb.TheVariants as verbs
use Rattle.mq_scn_script.specs.Verbs.{verb_of}
use Rattle.mq_scn_script.specs.Bodies.{body_in}
use Rattle.mq_scn_script.specs.Options.{open_options, put_options, get_options}
use Rattle.mq_scn_script.specs.Commands.{command_in}

-- ---- MQCONN [name], and verbs that stand alone

abbrev pub connected : Result (List ℕ) LineFault → Result ScriptLine LineFault
connected (Ok name) = Ok (lines.Mqconn name)
connected (Err fault) = Err fault

abbrev pub connect_line : List (List ℕ) → Result ScriptLine LineFault
connect_line [] = Ok (lines.Mqconn [])
connect_line (word ∷ []) = connected (name_or_blank_in word)
connect_line (word ∷ other ∷ words) = Err faults.Form

abbrev pub alone : ScriptLine → List (List ℕ) → Result ScriptLine LineFault
alone line [] = Ok line
alone line (word ∷ words) = Err faults.Form

-- ---- QUEUE(name) [QMGR(name)]

abbrev pub needed_name : Option (List ℕ) → Result (List ℕ) LineFault
needed_name None = Err faults.Form
needed_name (Some text) = name_or_blank_in text

abbrev pub queue_in : List ℕ → Result (List ℕ) LineFault
queue_in word = needed_name (bracketed (codes "QUEUE(") word)

abbrev pub name_if_any : Option (List ℕ) → Result (List ℕ) LineFault
name_if_any None = Ok []
name_if_any (Some text) = name_or_blank_in text

-- the manager that the first word names, where it is QMGR(name)
abbrev pub manager_in : List (List ℕ) → Result (List ℕ) LineFault
manager_in [] = Ok []
manager_in (word ∷ words) = name_if_any (bracketed (codes "QMGR(") word)

abbrev pub passed_manager : Option (List ℕ) → List (List ℕ) → List (List ℕ) → List (List ℕ)
passed_manager None all rest = all
passed_manager (Some text) all rest = rest

-- the words behind it
abbrev pub behind_manager : List (List ℕ) → List (List ℕ)
behind_manager [] = []
behind_manager (word ∷ words) = passed_manager (bracketed (codes "QMGR(") word) (word ∷ words) words

-- ---- MQOPEN h QUEUE(name) [QMGR(name)], and MQCLOSE h

abbrev pub opened : Result (List ℕ × ((List ℕ × List ℕ) × Open)) LineFault → Result ScriptLine LineFault
opened (Ok p) = Ok (lines.Mqopen p.0 p.1.0.0 p.1.0.1 p.1.1)
opened (Err fault) = Err fault

-- what is opened, and how
unfoldable pub opening : List ℕ → List (List ℕ) → Result ((List ℕ × List ℕ) × Open) LineFault
opening queue words = both (both (queue_in queue) (manager_in words)) (open_options (behind_manager words))

-- a handle, what is opened, and how
unfoldable pub open_with : List ℕ → List ℕ → List (List ℕ) → Result ScriptLine LineFault
open_with handle queue words = opened (both (label_in handle) (opening queue words))

abbrev pub open_line : List (List ℕ) → Result ScriptLine LineFault
open_line [] = Err faults.Form
open_line (handle ∷ []) = Err faults.Form
open_line (handle ∷ queue ∷ words) = open_with handle queue words

abbrev pub closed : Result (List ℕ) LineFault → Result ScriptLine LineFault
closed (Ok handle) = Ok (lines.Mqclose handle)
closed (Err fault) = Err fault

abbrev pub close_line : List (List ℕ) → Result ScriptLine LineFault
close_line [] = Err faults.Form
close_line (handle ∷ []) = closed (label_in handle)
close_line (handle ∷ other ∷ words) = Err faults.Form

-- ---- MQPUT h body, MQPUT1 TOREPLY body, and MQPUT1 QUEUE(name) [QMGR(name)] body

abbrev pub put : Result (List ℕ × (Body × PutOptions)) LineFault → Result ScriptLine LineFault
put (Ok p) = Ok (lines.Mqput p.0 p.1.0 p.1.1)
put (Err fault) = Err fault

abbrev pub put_line : ℕ → List (List ℕ) → Result ScriptLine LineFault
put_line left [] = Err faults.Form
put_line left (handle ∷ []) = Err faults.Form
put_line left (handle ∷ body ∷ words) = put (both (label_in handle) (both (body_in left body) (put_options words)))

abbrev pub replied : Result (Body × PutOptions) LineFault → Result ScriptLine LineFault
replied (Ok p) = Ok (lines.Reply p.0 p.1)
replied (Err fault) = Err fault

abbrev pub reply_line : ℕ → List (List ℕ) → Result ScriptLine LineFault
reply_line left [] = Err faults.Form
reply_line left (body ∷ words) = replied (both (body_in left body) (put_options words))

abbrev pub put_once : Result ((List ℕ × List ℕ) × (Body × PutOptions)) LineFault → Result ScriptLine LineFault
put_once (Ok p) = Ok (lines.Mqput1 p.0.0 p.0.1 p.1.0 p.1.1)
put_once (Err fault) = Err fault

abbrev pub put_to : ℕ → Result (List ℕ × List ℕ) LineFault → List (List ℕ) → Result ScriptLine LineFault
put_to left target [] = Err faults.Form
put_to left target (body ∷ words) = put_once (both target (both (body_in left body) (put_options words)))

abbrev pub target_line : ℕ → List ℕ → List (List ℕ) → Result ScriptLine LineFault
target_line left queue words = put_to left (both (queue_in queue) (manager_in words)) (behind_manager words)

abbrev pub put1_line : ℕ → List (List ℕ) → Result ScriptLine LineFault
put1_line left [] = Err faults.Form
put1_line left (word ∷ words) = if bytes_eq word (codes "TOREPLY") then reply_line left words else target_line left word words

-- ---- MQGET h, CUT k and MQSC command

abbrev pub got : Result (List ℕ × GetOptions) LineFault → Result ScriptLine LineFault
got (Ok p) = Ok (lines.Mqget p.0 p.1)
got (Err fault) = Err fault

abbrev pub get_line : List (List ℕ) → Result ScriptLine LineFault
get_line [] = Err faults.Form
get_line (handle ∷ words) = got (both (label_in handle) (get_options words))

abbrev pub cut_at : Result ℕ LineFault → Result ScriptLine LineFault
cut_at (Ok count) = Ok (lines.Cut count)
cut_at (Err fault) = Err fault

abbrev pub cut_line : List (List ℕ) → Result ScriptLine LineFault
cut_line [] = Err faults.Form
cut_line (count ∷ []) = cut_at (ranged faults.Number 1 1000 count)
cut_line (count ∷ other ∷ words) = Err faults.Form

abbrev pub commanded : Result Command LineFault → Result ScriptLine LineFault
commanded (Ok command) = Ok (lines.Mqsc command)
commanded (Err fault) = Err fault

abbrev pub mqsc_line : List ℕ → Result ScriptLine LineFault
mqsc_line text = commanded (command_in text)

-- ---- A line of a script

-- the line of a verb, with the words behind it
abbrev pub called : ℕ → ScriptVerb → List (List ℕ) → Result ScriptLine LineFault
called left verbs.Mqconn words = connect_line words
called left verbs.Mqdisc words = alone lines.Mqdisc words
called left verbs.Mqcmit words = alone lines.Mqcmit words
called left verbs.Mqback words = alone lines.Mqback words
called left verbs.Mqopen words = open_line words
called left verbs.Mqclose words = close_line words
called left verbs.Mqput words = put_line left words
called left verbs.Mqput1 words = put1_line left words
called left verbs.Mqget words = get_line words
called left verbs.Mqsc words = Err faults.Form
called left verbs.Crash words = alone lines.Crash words
called left verbs.Restart words = alone lines.Restart words
called left verbs.Cut words = cut_line words

abbrev pub words_read : ℕ → ScriptVerb → List ℕ → Result ScriptLine LineFault
words_read left verb rest = if is_open false rest then Err faults.Form else called left verb (words_of rest)

abbrev pub verb_read : ℕ → Option ScriptVerb → List ℕ → Result ScriptLine LineFault
verb_read left None rest = Err faults.Form
verb_read left (Some verbs.Mqsc) rest = mqsc_line rest
verb_read left (Some verb) rest = words_read left verb rest

abbrev pub line_from : ℕ → Option (List ℕ × List ℕ) → Result ScriptLine LineFault
line_from left None = Err faults.Form
line_from left (Some p) = verb_read left (verb_of p.0) p.1

-- what a line of a script says, where so many bytes are left of the limit of all bodies
unfoldable pub script_line : ℕ → List ℕ → Result ScriptLine LineFault
script_line left line = line_from left (first_word line)
