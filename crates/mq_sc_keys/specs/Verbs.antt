-- Verbs and objects of commands.
use Rattle.std.specs.Prelude.{ℕ, Bool, true, false, ◌&&◌, ◌||◌, List, Option, codes, find}
use Rattle.std.specs.Str.{bytes_eq}
use Rattle.mq_sc_keys.specs.declared.verbs.Verb.{Verb}
use Rattle.mq_sc_keys.specs.declared.verbs.Verb.TheVariants as verbs
use Rattle.mq_sc_keys.specs.declared.verbs.Noun.{Noun}
use Rattle.mq_sc_keys.specs.declared.verbs.Noun.TheVariants as nouns
use Rattle.mq_sc_keys.specs.declared.verbs.TheConstants.{VERBS, NOUNS}

abbrev pub verb_text : Verb → List ℕ
verb_text verbs.Define = codes "DEFINE"
verb_text verbs.Alter = codes "ALTER"
verb_text verbs.Delete = codes "DELETE"
verb_text verbs.Display = codes "DISPLAY"
verb_text verbs.Start = codes "START"
verb_text verbs.Stop = codes "STOP"
verb_text verbs.Reset = codes "RESET"
verb_text verbs.Resolve = codes "RESOLVE"

-- DEF, ALT and DIS are short forms
abbrev pub verb_short : Verb → List ℕ
verb_short verbs.Define = codes "DEF"
verb_short verbs.Alter = codes "ALT"
verb_short verbs.Delete = codes "DELETE"
verb_short verbs.Display = codes "DIS"
verb_short verbs.Start = codes "START"
verb_short verbs.Stop = codes "STOP"
verb_short verbs.Reset = codes "RESET"
verb_short verbs.Resolve = codes "RESOLVE"

abbrev pub object_text : Noun → List ℕ
object_text nouns.Local = codes "QLOCAL"
object_text nouns.Alias = codes "QALIAS"
object_text nouns.Remote = codes "QREMOTE"
object_text nouns.Channel = codes "CHANNEL"
object_text nouns.Process = codes "PROCESS"
object_text nouns.Manager = codes "QMGR"
object_text nouns.Queue = codes "QUEUE"
object_text nouns.Status = codes "CHSTATUS"

abbrev pub object_short : Noun → List ℕ
object_short nouns.Local = codes "QL"
object_short nouns.Alias = codes "QA"
object_short nouns.Remote = codes "QR"
object_short nouns.Channel = codes "CHL"
object_short nouns.Process = codes "PRO"
object_short nouns.Manager = codes "QMGR"
object_short nouns.Queue = codes "QUEUE"
object_short nouns.Status = codes "CHS"

-- objects that are defined and deleted
abbrev pub is_definable : Noun → Bool
is_definable nouns.Local = true
is_definable nouns.Alias = true
is_definable nouns.Remote = true
is_definable nouns.Channel = true
is_definable nouns.Process = true
is_definable _ = false

abbrev pub is_manager : Noun → Bool
is_manager nouns.Manager = true
is_manager _ = false

abbrev pub is_channel : Noun → Bool
is_channel nouns.Channel = true
is_channel _ = false

-- which verb goes with which object
abbrev pub takes : Verb → Noun → Bool
takes verbs.Define noun = is_definable noun
takes verbs.Alter noun = is_definable noun || is_manager noun
takes verbs.Delete noun = is_definable noun
takes verbs.Display noun = true
takes verbs.Start noun = is_channel noun
takes verbs.Stop noun = is_channel noun
takes verbs.Reset noun = is_channel noun
takes verbs.Resolve noun = is_channel noun

abbrev pub is_verb : List ℕ → Verb → Bool
is_verb word verb = bytes_eq (verb_text verb) word || bytes_eq (verb_short verb) word

abbrev pub is_object : Verb → List ℕ → Noun → Bool
is_object verb word noun = takes verb noun && (bytes_eq (object_text noun) word || bytes_eq (object_short noun) word)

unfoldable pub verb_of : List ℕ → Option Verb
verb_of word = find (is_verb word) VERBS

-- the object that a word names behind a verb
unfoldable pub object_of : Verb → List ℕ → Option Noun
object_of verb word = find (is_object verb word) NOUNS
