-- What is wrong with the keywords of a command, and which channel it is on.
use Rattle.std.specs.Prelude.{ℕ, Bool, true, false, not, List, [], ◌∷◌, ◌++◌, if◌then◌else◌, Option, Some, None, codes, find, is_none}
use Rattle.std.specs.List.{list_any}
use Rattle.std.specs.Str.{bytes_eq}
use Rattle.mq_sc_keys.specs.from_objects.{ChannelType}
use Rattle.mq_sc_keys.specs.from_objects.ChannelTypeVariants as types
use Rattle.mq_sc_lex.specs.declared.token.Span.{Span}
use Rattle.mq_sc_keys.specs.declared.keys.Key.{Key}
use Rattle.mq_sc_keys.specs.declared.verbs.Verb.{Verb}
use Rattle.mq_sc_keys.specs.declared.verbs.Noun.{Noun}
use Rattle.mq_sc_keys.specs.declared.verbs.Noun.TheVariants as nouns
use Rattle.mq_sc_keys.specs.declared.attributes.Kind.{Kind}
use Rattle.mq_sc_keys.specs.declared.attributes.Kind.TheVariants as kinds
use Rattle.mq_sc_parse.specs.declared.splitting.Item.{Item}
use Rattle.mq_sc_keys.specs.Keys.{key_text, group_of}
use Rattle.mq_sc_keys.specs.Attributes.{key_of}
use Rattle.mq_sc_keys.specs.Values.{choice_value, type_of}

abbrev pub is_unknown : Verb → Kind → Item → Bool
is_unknown verb kind i = is_none (key_of verb kind i.word)

abbrev pub span_of_item : Option Item → Option Span
span_of_item None = None
span_of_item (Some i) = Some i.span

-- the first keyword that the command may not have
unfoldable pub first_unknown : Verb → Kind → List Item → Option Span
first_unknown verb kind items = span_of_item (find (is_unknown verb kind) items)

abbrev pub group_text : Option Key → List ℕ
group_text None = []
group_text (Some key) = key_text (group_of key)

-- a keyword counts as its group
abbrev pub item_group : Verb → Kind → Item → List ℕ
item_group verb kind i = group_text (key_of verb kind i.word)

abbrev pub is_among : Verb → Kind → Item → List Item → Bool
is_among verb kind i earlier = list_any (λ (e : Item). bytes_eq (item_group verb kind e) (item_group verb kind i)) earlier

-- the first keyword whose group came before
abbrev pub repeated_from : Verb → Kind → List Item → List Item → Option Span
repeated_from verb kind earlier [] = None
repeated_from verb kind earlier (i ∷ is) = if is_among verb kind i earlier then Some i.span else repeated_from verb kind (earlier ++ i ∷ []) is

unfoldable pub first_repeated : Verb → Kind → List Item → Option Span
first_repeated verb kind items = repeated_from verb kind [] items

abbrev pub has_word : List ℕ → List Item → Bool
has_word word items = list_any (λ (i : Item). bytes_eq i.word word) items

abbrev pub item_of : List ℕ → List Item → Option Item
item_of word items = find (λ (i : Item). bytes_eq i.word word) items

abbrev pub kind_of_type : Option ChannelType → Kind
kind_of_type None = kinds.Channel
kind_of_type (Some types.Sender) = kinds.Sender
kind_of_type (Some types.Receiver) = kinds.Receiver

abbrev pub type_of_item : Option Item → Option ChannelType
type_of_item None = None
type_of_item (Some i) = type_of (choice_value (codes "SDR") (codes "RCVR") i.value)

-- a channel is of the type that the command gives
unfoldable pub channel_kind : List Item → Kind
channel_kind items = kind_of_type (type_of_item (item_of (codes "CHLTYPE") items))

abbrev pub kind_of : Noun → List Item → Kind
kind_of nouns.Local items = kinds.Local
kind_of nouns.Alias items = kinds.Alias
kind_of nouns.Remote items = kinds.Remote
kind_of nouns.Channel items = channel_kind items
kind_of nouns.Process items = kinds.Process
kind_of nouns.Manager items = kinds.Manager
kind_of nouns.Queue items = kinds.Queue
kind_of nouns.Status items = kinds.Status

-- CHLTYPE and a sender's XMITQ are needed where a channel is defined
abbrev pub lacks : Kind → List Item → Bool
lacks kinds.Channel items = true
lacks kinds.Sender items = not (has_word (codes "XMITQ") items)
lacks _ items = false
