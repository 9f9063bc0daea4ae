-- Options of script lines: words of their own or keywords with a value in brackets, in any order.
use Rattle.std.specs.Prelude.{ℕ, Bool, true, false, not, ◌&&◌, ◌||◌, List, [], ◌∷◌, codes, if◌then◌else◌, Option, Some, None, find}
use Rattle.std.specs.List.{list_any}
use Rattle.std.specs.Str.{bytes_eq}
use Rattle.mq_scn_lines.specs.declared.options.LineOption.{LineOption}
use Rattle.mq_scn_lines.specs.declared.options.LineOption.TheVariants as options
use Rattle.mq_scn_lines.specs.Operands.{bracketed}

-- the word of an option; of one with a value its keyword and the bracket
abbrev pub option_word : LineOption → List ℕ
option_word options.Sync = codes "SYNC"
option_word options.Priority = codes "PRTY("
option_word options.Persist = codes "PERSIST"
option_word options.NoPersist = codes "NOPERSIST"
option_word options.Expiry = codes "EXPIRY("
option_word options.MsgId = codes "MSGID("
option_word options.Correl = codes "CORREL("
option_word options.MsgType = codes "MSGTYPE("
option_word options.ReplyQ = codes "REPLYQ("
option_word options.ReplyQMgr = codes "REPLYQM("
option_word options.Format = codes "FORMAT("
option_word options.Feedback = codes "FEEDBACK("
option_word options.IdentityData = codes "IDDATA("
option_word options.First = codes "FIRST"
option_word options.Next = codes "NEXT"
option_word options.Cursor = codes "CURSOR"
option_word options.Under = codes "UNDER"
option_word options.Room = codes "ROOM("
option_word options.Truncate = codes "TRUNC"
option_word options.Wait = codes "WAIT("
option_word options.Shared = codes "SHARED"
option_word options.Exclusive = codes "EXCLUSIVE"
option_word options.Browse = codes "BROWSE"
option_word options.Output = codes "OUTPUT"

-- an option with a value in brackets
abbrev pub has_value : LineOption → Bool
has_value options.Sync = false
has_value options.Priority = true
has_value options.Persist = false
has_value options.NoPersist = false
has_value options.Expiry = true
has_value options.MsgId = true
has_value options.Correl = true
has_value options.MsgType = true
has_value options.ReplyQ = true
has_value options.ReplyQMgr = true
has_value options.Format = true
has_value options.Feedback = true
has_value options.IdentityData = true
has_value options.First = false
has_value options.Next = false
has_value options.Cursor = false
has_value options.Under = false
has_value options.Room = true
has_value options.Truncate = false
has_value options.Wait = true
has_value options.Shared = false
has_value options.Exclusive = false
has_value options.Browse = false
has_value options.Output = false

-- a line has one option of a group at most: PERSIST or NOPERSIST; FIRST, NEXT, CURSOR or UNDER; SHARED or EXCLUSIVE
abbrev pub group_of : LineOption → LineOption
group_of options.NoPersist = options.Persist
group_of options.Next = options.First
group_of options.Cursor = options.First
group_of options.Under = options.First
group_of options.Exclusive = options.Shared
group_of option = option

unfoldable pub same_group : LineOption → LineOption → Bool
same_group one other = bytes_eq (option_word (group_of one)) (option_word (group_of other))

abbrev pub is_there : Option (List ℕ) → Bool
is_there None = false
is_there (Some text) = true

-- a word gives an option
unfoldable pub is_word_of : LineOption → List ℕ → Bool
is_word_of option word = if has_value option then is_there (bracketed (option_word option) word) else bytes_eq word (option_word option)

-- the option that a word gives, of those allowed
unfoldable pub option_of : List LineOption → List ℕ → Option LineOption
option_of allowed word = find (λ option. is_word_of option word) allowed

abbrev pub of_group : LineOption → Option LineOption → Bool
of_group option None = false
of_group option (Some other) = same_group option other

abbrev pub is_group_of : List LineOption → LineOption → List ℕ → Bool
is_group_of allowed option word = of_group option (option_of allowed word)

abbrev pub has_group : List LineOption → LineOption → List (List ℕ) → Bool
has_group allowed option [] = false
has_group allowed option (word ∷ words) = is_group_of allowed option word || has_group allowed option words

abbrev pub is_single : List LineOption → Option LineOption → List (List ℕ) → Bool
is_single allowed None later = false
is_single allowed (Some option) later = not (has_group allowed option later)

-- each word is an option of those allowed, and no two are of one group
abbrev pub are_options : List LineOption → List (List ℕ) → Bool
are_options allowed [] = true
are_options allowed (word ∷ words) = is_single allowed (option_of allowed word) words && are_options allowed words

-- an option without a value is among the words
abbrev pub says : LineOption → List (List ℕ) → Bool
says option [] = false
says option (word ∷ words) = bytes_eq word (option_word option) || says option words

abbrev pub or_later : Option (List ℕ) → Option (List ℕ) → Option (List ℕ)
or_later (Some text) later = Some text
or_later None later = later

-- the value that words give to an option
abbrev pub value_of : LineOption → List (List ℕ) → Option (List ℕ)
value_of option [] = None
value_of option (word ∷ words) = or_later (bracketed (option_word option) word) (value_of option words)
