-- Which keywords a command may have, by its verb and its object.
use Rattle.std.specs.Prelude.{ℕ, List, [], ◌∷◌, Option, Some, None}
use Rattle.mq_sc_keys.specs.declared.keys.Key.{Key}
use Rattle.mq_sc_keys.specs.declared.keys.Key.TheVariants as keys
use Rattle.mq_sc_keys.specs.declared.keys.TheConstants.{LOCAL, ALIAS, REMOTE, SENDER, RECEIVER, CHANNEL, PROCESS, MANAGER, QUEUE}
use Rattle.mq_sc_keys.specs.declared.attributes.Kind.{Kind}
use Rattle.mq_sc_keys.specs.declared.attributes.Kind.TheVariants as kinds
use Rattle.mq_sc_keys.specs.declared.verbs.Verb.{Verb}
use Rattle.mq_sc_keys.specs.declared.verbs.Verb.TheVariants as verbs
use Rattle.mq_sc_keys.specs.Keys.{key_in}

abbrev pub attributes_of : Kind → List Key
attributes_of kinds.Local = LOCAL
attributes_of kinds.Alias = ALIAS
attributes_of kinds.Remote = REMOTE
attributes_of kinds.Channel = CHANNEL
attributes_of kinds.Sender = SENDER
attributes_of kinds.Receiver = RECEIVER
attributes_of kinds.Process = PROCESS
attributes_of kinds.Manager = MANAGER
attributes_of kinds.Queue = QUEUE
attributes_of kinds.Status = []

-- DISPLAY knows ALL, the depth of local queues and the greatest priority of the manager too
abbrev pub shown_of : Kind → List Key
shown_of kinds.Local = keys.All ∷ keys.CurDepth ∷ []
shown_of kinds.Queue = keys.All ∷ keys.CurDepth ∷ []
shown_of kinds.Manager = keys.All ∷ keys.MaxPrty ∷ []
shown_of _ = keys.All ∷ []

abbrev pub options_of : Verb → Kind → List Key
options_of verbs.Define kind = keys.Replace ∷ keys.NoReplace ∷ []
options_of verbs.Alter kind = keys.Force ∷ []
options_of verbs.Display kind = shown_of kind
options_of verbs.Reset kind = keys.SeqNum ∷ []
options_of verbs.Resolve kind = keys.Action ∷ []
options_of verbs.Delete kind = []
options_of verbs.Start kind = []
options_of verbs.Stop kind = []

abbrev pub named_by : Verb → Kind → List Key
named_by verbs.Define kind = attributes_of kind
named_by verbs.Alter kind = attributes_of kind
named_by verbs.Display kind = attributes_of kind
named_by verbs.Reset kind = []
named_by verbs.Resolve kind = []
named_by verbs.Delete kind = []
named_by verbs.Start kind = []
named_by verbs.Stop kind = []

abbrev pub or_in : List Key → List ℕ → Option Key → Option Key
or_in table word (Some key) = Some key
or_in table word None = key_in table word

-- the keyword of a command that a word is
unfoldable pub key_of : Verb → Kind → List ℕ → Option Key
key_of verb kind word = or_in (options_of verb kind) word (key_in (named_by verb kind) word)
