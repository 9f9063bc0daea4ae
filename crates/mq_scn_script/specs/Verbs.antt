-- The words with which lines of scripts begin.
use Rattle.std.specs.Prelude.{ℕ, List, [], ◌∷◌, codes, Option, find}
use Rattle.std.specs.Str.{bytes_eq}
use Rattle.mq_scn_script.specs.declared.verbs.ScriptVerb.{ScriptVerb}
use Rattle.mq_scn_script.specs.declared.verbs.ScriptVerb.TheVariants as verbs

abbrev pub all_verbs : List ScriptVerb
all_verbs = verbs.Mqconn ∷ verbs.Mqdisc ∷ verbs.Mqcmit ∷ verbs.Mqback ∷ verbs.Mqopen ∷ verbs.Mqclose ∷ verbs.Mqput ∷ verbs.Mqput1 ∷ verbs.Mqget ∷ verbs.Mqsc ∷ verbs.Crash ∷ verbs.Restart ∷ verbs.Cut ∷ []

abbrev pub verb_word : ScriptVerb → List ℕ
verb_word verbs.Mqconn = codes "MQCONN"
verb_word verbs.Mqdisc = codes "MQDISC"
verb_word verbs.Mqcmit = codes "MQCMIT"
verb_word verbs.Mqback = codes "MQBACK"
verb_word verbs.Mqopen = codes "MQOPEN"
verb_word verbs.Mqclose = codes "MQCLOSE"
verb_word verbs.Mqput = codes "MQPUT"
verb_word verbs.Mqput1 = codes "MQPUT1"
verb_word verbs.Mqget = codes "MQGET"
verb_word verbs.Mqsc = codes "MQSC"
verb_word verbs.Crash = codes "CRASH"
verb_word verbs.Restart = codes "RESTART"
verb_word verbs.Cut = codes "CUT"

-- the verb that a word is
unfoldable pub verb_of : List ℕ → Option ScriptVerb
verb_of word = find (λ verb. bytes_eq (verb_word verb) word) all_verbs
