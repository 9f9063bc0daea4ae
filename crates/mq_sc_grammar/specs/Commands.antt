-- What a command is that is spelled so: which clauses it may have, and what they come to.
use Rattle.std.specs.Prelude.{◌≡◌, ◌⊎◌, ℕ, Bool, true, false, List, [], ◌∷◌, ◌++◌, map, Option, Some, None, Ok, codes}
use Rattle.mq_text.specs.Numbers.{number_in}
use Rattle.mq_sync.specs.declared.unit.Settle.{Settle}
use Rattle.mq_sync.specs.declared.unit.Settle.TheVariants as settles
use Rattle.mq_objects.specs.declared.setting.Setting.{Setting}
use Rattle.mq_objects.specs.declared.setting.Keyword.{Keyword}
use Rattle.mq_objects.specs.declared.command.Subject.{Subject}
use Rattle.mq_objects.specs.declared.command.Command.TheVariants as objects
use Rattle.mq_sc_lex.specs.declared.token.TokenKind.{TokenKind}
use Rattle.mq_sc_lex.specs.declared.token.TokenKind.TheVariants as tokens
use Rattle.mq_sc_keys.specs.declared.keys.Key.{Key}
use Rattle.mq_sc_keys.specs.declared.keys.Key.TheVariants as words
use Rattle.mq_sc_keys.specs.declared.verbs.Verb.{Verb}
use Rattle.mq_sc_keys.specs.declared.verbs.Verb.TheVariants as verbs
use Rattle.mq_sc_keys.specs.declared.verbs.Noun.{Noun}
use Rattle.mq_sc_keys.specs.declared.verbs.Noun.TheVariants as nouns
use Rattle.mq_sc_keys.specs.declared.attributes.Kind.{Kind}
use Rattle.mq_sc_keys.specs.declared.attributes.Kind.TheVariants as kinds
use Rattle.mq_sc_keys.specs.declared.value.Value.{Value}
use Rattle.mq_sc_keys.specs.declared.value.Value.TheVariants as values
use Rattle.mq_sc_keys.specs.declared.giving.Given.{Given}
use Rattle.mq_sc_keys.specs.declared.giving.Given.TheVariants as given
use Rattle.mq_sc_keys.specs.Keys.{group_of}
use Rattle.mq_sc_keys.specs.Attributes.{named_by, options_of}
use Rattle.mq_sc_keys.specs.Verbs.{takes}
use Rattle.mq_sc_keys.specs.Values.{given_of}
use Rattle.mq_sc_parse.specs.declared.command.Op.TheVariants as ops
use Rattle.mq_sc_parse.specs.declared.command.Command.{Command}
use Rattle.mq_sc_parse.specs.declared.command.Command.TheVariants as commands
use Rattle.mq_sc_keys.specs.Shown.{keyword_of}
use Rattle.mq_sc_parse.specs.Parsing.{channel_name, subject_of, subjects_of, prefix_of, is_prefix}
use Rattle.mq_sc_grammar.specs.Spelling.{IsVerbWord, IsObjectWord, IsNamed, Clause, AreClauses}
pub use Rattle.mq_base.specs.Members.{Mem, AreDistinct}

-- an answer of yes or no
abbrev pub Tells : Bool → Type 0 → Type 0
Tells true P = P
Tells false P = P → ⊥

-- ---- which clauses a command may have

abbrev pub keys_of : List Clause → List Key
keys_of clauses = map (λ (c : Clause). c.key) clauses

-- the keyword is there, with a value or without
abbrev pub Says : Key → List Clause → Type 0
Says key clauses = Mem key (keys_of clauses)

-- the keyword is there with this value
abbrev pub Has : Key → List ℕ → List Clause → Type 0
Has key text clauses = Mem (record { key = key; value = Some text }) clauses

-- a channel is of the type that the command gives it, or of either
abbrev pub IsChannelKind : List Clause → Kind → Type 0
IsChannelKind clauses kinds.Sender = Has words.ChlType (codes "SDR") clauses
IsChannelKind clauses kinds.Receiver = Has words.ChlType (codes "RCVR") clauses
IsChannelKind clauses kinds.Channel = (Has words.ChlType (codes "SDR") clauses → ⊥) × (Has words.ChlType (codes "RCVR") clauses → ⊥)
IsChannelKind clauses _ = ⊥

-- whose attributes a command names
abbrev pub IsKind : Noun → List Clause → Kind → Type 0
IsKind nouns.Local clauses kind = kind ≡ kinds.Local
IsKind nouns.Alias clauses kind = kind ≡ kinds.Alias
IsKind nouns.Remote clauses kind = kind ≡ kinds.Remote
IsKind nouns.Channel clauses kind = IsChannelKind clauses kind
IsKind nouns.Process clauses kind = kind ≡ kinds.Process
IsKind nouns.Manager clauses kind = kind ≡ kinds.Manager
IsKind nouns.Queue clauses kind = kind ≡ kinds.Queue
IsKind nouns.Status clauses kind = kind ≡ kinds.Status

-- each keyword is an attribute of the object, or an option of the verb
abbrev pub AreKnown : Verb → Kind → List Clause → Type 0
AreKnown verb kind [] = Unit {0}
AreKnown verb kind (c ∷ cs) = Mem c.key (named_by verb kind ++ options_of verb kind) × AreKnown verb kind cs

-- no keyword comes twice, nor together with its opposite or its other spelling
abbrev pub AreSingle : List Clause → Type 0
AreSingle clauses = AreDistinct (map group_of (keys_of clauses))

-- ---- what the clauses come to

abbrev pub value_of : Option (List ℕ) → Value
value_of None = values.Absent
value_of (Some text) = values.Text text

abbrev pub IsOnto : Given → (later settings : List Setting) → Type 0
IsOnto given.Bad later settings = ⊥
IsOnto given.Nothing later settings = settings ≡ later
IsOnto (given.Setting s) later settings = settings ≡ s ∷ later

-- the settings that the clauses of DEFINE or ALTER give, in order; none of them has a bad value
abbrev pub AreGiven : Kind → List Clause → List Setting → Type 0
AreGiven kind [] settings = settings ≡ []
AreGiven kind (c ∷ cs) settings = (later : List Setting) × IsOnto (given_of kind c.key (value_of c.value)) later settings × AreGiven kind cs later

-- CHLTYPE is needed where a channel is defined, and XMITQ where it is a sender
abbrev pub HasNeeded : Kind → List Clause → Type 0
HasNeeded kinds.Channel clauses = ⊥
HasNeeded kinds.Sender clauses = Says words.XmitQ clauses
HasNeeded _ clauses = Unit {0}

-- the clauses of DISPLAY have no values
abbrev pub AreBare : List Clause → Type 0
AreBare [] = Unit {0}
AreBare (c ∷ cs) = (c.value ≡ None) × AreBare cs

-- what DISPLAY asks for, in order; nothing stands for all that there is, as where ALL is asked
abbrev pub AreAsked : List Clause → List Keyword → Type 0
AreAsked clauses asked = (Says words.All clauses × (asked ≡ [])) ⊎ ((Says words.All clauses → ⊥) × (asked ≡ map keyword_of (keys_of clauses)))

-- a name, or the beginning of one with a star behind it
abbrev pub IsPattern : (name text : List ℕ) → (any_end : Bool) → Type 0
IsPattern name text true = name ≡ text ++ 42 ∷ []
IsPattern name text false = (name ≡ text) × ((front : List ℕ) → name ≡ front ++ 42 ∷ [] → ⊥)

-- SEQNUM, 1 where it is not given
abbrev pub IsNumber : List Clause → ℕ → Type 0
IsNumber clauses n = ((Says words.SeqNum clauses → ⊥) × (n ≡ 1)) ⊎ ((text : List ℕ) × Has words.SeqNum text clauses × (number_in 0 999999999 text ≡ Ok n))

-- ACTION, which is needed
abbrev pub IsSettle : List Clause → Settle → Type 0
IsSettle clauses settles.Commit = Has words.Action (codes "COMMIT") clauses
IsSettle clauses settles.Backout = Has words.Action (codes "BACKOUT") clauses

-- ---- the commands

pub record IsDefine (noun : Noun) (kind : Kind) (name : List ℕ) (clauses : List Clause) (c : Command) : Type 0 where
  pub subject : Subject
  pub replace : Bool
  pub settings : List Setting
  pub named : subject_of noun name ≡ Some subject
  pub gives : AreGiven kind clauses settings
  pub needed : HasNeeded kind clauses
  pub replaces : Tells replace (Says words.Replace clauses)
  pub is : c ≡ commands.Objects (objects.Define (record { subject = subject; replace = replace; settings = settings }))

pub record IsAlter (noun : Noun) (kind : Kind) (name : List ℕ) (clauses : List Clause) (c : Command) : Type 0 where
  pub subject : Subject
  pub force : Bool
  pub settings : List Setting
  pub named : subject_of noun name ≡ Some subject
  pub gives : AreGiven kind clauses settings
  pub forces : Tells force (Says words.Force clauses)
  pub is : c ≡ commands.Objects (objects.Alter (record { subject = subject; force = force; settings = settings }))

pub record IsAlterManager (kind : Kind) (clauses : List Clause) (c : Command) : Type 0 where
  pub force : Bool
  pub settings : List Setting
  pub gives : AreGiven kind clauses settings
  pub forces : Tells force (Says words.Force clauses)
  pub is : c ≡ commands.Objects (objects.AlterManager (record { force = force; settings = settings }))

pub record IsDelete (noun : Noun) (name : List ℕ) (c : Command) : Type 0 where
  pub subject : Subject
  pub named : subject_of noun name ≡ Some subject
  pub is : c ≡ commands.Objects (objects.Delete (record { subject = subject }))

pub record IsDisplay (noun : Noun) (name : List ℕ) (clauses : List Clause) (c : Command) : Type 0 where
  pub text : List ℕ
  pub any_end : Bool
  pub asked : List Keyword
  pub pattern : IsPattern name text any_end
  pub begins : is_prefix noun text ≡ true
  pub bare : AreBare clauses
  pub asks : AreAsked clauses asked
  pub is : c ≡ commands.Objects (objects.Display (record { subjects = subjects_of noun; name = text; any_end = any_end; asked = asked }))

pub record IsDisplayManager (clauses : List Clause) (c : Command) : Type 0 where
  pub asked : List Keyword
  pub bare : AreBare clauses
  pub asks : AreAsked clauses asked
  pub is : c ≡ commands.Objects (objects.Display (record { subjects = subjects_of nouns.Manager; name = []; any_end = false; asked = asked }))

pub record IsDisplayStatus (name : List ℕ) (clauses : List Clause) (c : Command) : Type 0 where
  pub text : List ℕ
  pub any_end : Bool
  pub channel : List ℕ
  pub pattern : IsPattern name text any_end
  pub begins : prefix_of (channel_name text) text ≡ Some channel
  pub bare : AreBare clauses
  pub is : c ≡ commands.ShowStatus channel any_end

abbrev pub MeansAlter : Noun → Kind → List ℕ → List Clause → Command → Type 0
MeansAlter nouns.Manager kind name clauses c = IsAlterManager kind clauses c
MeansAlter noun kind name clauses c = IsAlter noun kind name clauses c

abbrev pub MeansDisplay : Noun → List ℕ → List Clause → Command → Type 0
MeansDisplay nouns.Manager name clauses c = IsDisplayManager clauses c
MeansDisplay nouns.Status name clauses c = IsDisplayStatus name clauses c
MeansDisplay noun name clauses c = IsDisplay noun name clauses c

-- what a verb with an object, a name and clauses means
abbrev pub Means : Verb → Noun → Kind → List ℕ → List Clause → Command → Type 0
Means verbs.Define noun kind name clauses c = IsDefine noun kind name clauses c
Means verbs.Alter noun kind name clauses c = MeansAlter noun kind name clauses c
Means verbs.Delete noun kind name clauses c = IsDelete noun name c
Means verbs.Display noun kind name clauses c = MeansDisplay noun name clauses c
Means verbs.Start noun kind name clauses c = (channel : List ℕ) × (channel_name name ≡ Some channel) × (c ≡ commands.Operate (ops.Start channel))
Means verbs.Stop noun kind name clauses c = (channel : List ℕ) × (channel_name name ≡ Some channel) × (c ≡ commands.Operate (ops.Stop channel))
Means verbs.Reset noun kind name clauses c = (channel : List ℕ) × (n : ℕ) × (channel_name name ≡ Some channel) × IsNumber clauses n × (c ≡ commands.Operate (ops.Reset channel n))
Means verbs.Resolve noun kind name clauses c = (channel : List ℕ) × (settle : Settle) × (channel_name name ≡ Some channel) × IsSettle clauses settle × (c ≡ commands.Operate (ops.Resolve channel settle))

-- The tokens are those of this command: a verb, an object that goes with it, its name, and clauses.
pub record IsCommand (spelled : List TokenKind) (c : Command) : Type 0 where
  pub verb : Verb
  pub noun : Noun
  pub kind : Kind
  pub verb_word : List ℕ
  pub object_word : List ℕ
  pub name : List ℕ
  pub clauses : List Clause
  pub name_part : List TokenKind
  pub clause_part : List TokenKind
  pub is_verb : IsVerbWord verb verb_word
  pub goes : takes verb noun ≡ true
  pub is_object : IsObjectWord noun object_word
  pub is_named : IsNamed noun name name_part
  pub are_clauses : AreClauses clauses clause_part
  pub whole : spelled ≡ tokens.Word verb_word ∷ tokens.Word object_word ∷ (name_part ++ clause_part)
  pub is_kind : IsKind noun clauses kind
  pub known : AreKnown verb kind clauses
  pub single : AreSingle clauses
  pub means : Means verb noun kind name clauses c
