-- Why a line is no command: the first cause in the order of the faults, and of one cause the first place.
use Rattle.std.specs.Prelude.{◌≡◌, ◌⊎◌, ℕ, Bool, true, false, List, [], ◌∷◌, ◌++◌, None, codes}
use Rattle.mq_sc_lex.specs.declared.token.Span.{Span}
use Rattle.mq_sc_lex.specs.declared.token.Token.{Token}
use Rattle.mq_sc_lex.specs.declared.token.TokenKind.{TokenKind}
use Rattle.mq_sc_lex.specs.declared.token.TokenKind.TheVariants as tokens
use Rattle.mq_sc_lex.specs.declared.token.Line.{Line}
use Rattle.mq_sc_keys.specs.declared.keys.Key.{Key}
use Rattle.mq_sc_keys.specs.declared.verbs.Verb.{Verb}
use Rattle.mq_sc_keys.specs.declared.verbs.Verb.TheVariants as verbs
use Rattle.mq_sc_keys.specs.declared.verbs.Noun.{Noun}
use Rattle.mq_sc_keys.specs.declared.verbs.Noun.TheVariants as nouns
use Rattle.mq_sc_keys.specs.declared.attributes.Kind.{Kind}
use Rattle.mq_sc_keys.specs.declared.attributes.Kind.TheVariants as kinds
use Rattle.mq_sc_keys.specs.declared.value.Value.{Value}
use Rattle.mq_sc_keys.specs.declared.value.Value.TheVariants as values
use Rattle.mq_sc_keys.specs.declared.giving.Given.TheVariants as given
use Rattle.mq_sc_keys.specs.Keys.{key_text, group_of}
use Rattle.mq_sc_keys.specs.Attributes.{named_by, options_of}
use Rattle.mq_sc_keys.specs.Verbs.{takes}
use Rattle.mq_sc_keys.specs.Values.{given_of, number_value, choice_value}
use Rattle.mq_sc_parse.specs.declared.splitting.Item.{Item}
use Rattle.mq_sc_parse.specs.declared.fault.ScFault.{ScFault}
use Rattle.mq_sc_parse.specs.declared.fault.ScFault.TheVariants as faults
use Rattle.mq_sc_parse.specs.Parsing.{channel_name, subject_of, prefix_of, is_prefix}
use Rattle.mq_sc_grammar.specs.Spelling.{kinds_of, IsVerbWord, IsObjectWord, IsBracketed, IsNamed}
use Rattle.mq_sc_grammar.specs.Commands.{Mem, IsPattern}

-- ---- the first that is so, and none

-- i is the first of these that is so
abbrev pub IsFirst : (Item → Type 0) → Item → List Item → Type 0
IsFirst P i [] = ⊥
IsFirst P i (j ∷ is) = (P j × (i ≡ j)) ⊎ ((P j → ⊥) × IsFirst P i is)

abbrev pub NoneIs : (Item → Type 0) → List Item → Type 0
NoneIs P [] = Unit {0}
NoneIs P (i ∷ is) = (P i → ⊥) × NoneIs P is

abbrev pub SomeIs : (Item → Type 0) → List Item → Type 0
SomeIs P [] = ⊥
SomeIs P (i ∷ is) = P i ⊎ SomeIs P is

-- ---- the keywords of any tokens, well spelled or not

abbrev pub NoBrackets : List Token → Type 0
NoBrackets [] = Unit {0}
NoBrackets (t ∷ ts) = (t.kind ≡ tokens.Open → ⊥) × (t.kind ≡ tokens.Close → ⊥) × NoBrackets ts

abbrev pub BeginsUnopened : List Token → Type 0
BeginsUnopened [] = Unit {0}
BeginsUnopened (t ∷ ts) = t.kind ≡ tokens.Open → ⊥

abbrev pub EndsOrOpens : List Token → Type 0
EndsOrOpens [] = Unit {0}
EndsOrOpens (t ∷ ts) = t.kind ≡ tokens.Open

-- one bracket that closes, or nothing where the line ends or a second bracket opens
abbrev pub IsClosing : (closing rest : List Token) → Type 0
IsClosing [] rest = EndsOrOpens rest
IsClosing (t ∷ ts) rest = (t.kind ≡ tokens.Close) × (ts ≡ [])

-- a bracket with all that stands in it, up to the first of either kind: brackets don't nest
pub record IsBracket (behind rest : List Token) : Type 0 where
  pub opening : Token
  pub inside : List Token
  pub closing : List Token
  pub opens : opening.kind ≡ tokens.Open
  pub within : NoBrackets inside
  pub closes : IsClosing closing rest
  pub is : behind ≡ opening ∷ (inside ++ closing)

-- what stands behind a keyword: no bracket, one value in brackets, or a bracket with something else in it
abbrev pub IsValueBehind : Value → (behind rest : List Token) → Type 0
IsValueBehind values.Absent behind rest = (behind ≡ []) × BeginsUnopened rest
IsValueBehind (values.Text text) behind rest = IsBracketed text (kinds_of behind)
IsValueBehind values.Malformed behind rest = IsBracket behind rest × ((text : List ℕ) → IsBracketed text (kinds_of behind) → ⊥)

-- a token that is no word is a keyword without a word
abbrev pub IsItem : TokenKind → Item → (behind rest : List Token) → Type 0
IsItem (tokens.Word word) i behind rest = (i.word ≡ word) × IsValueBehind i.value behind rest
IsItem _ i behind rest = (i.word ≡ []) × (i.value ≡ values.Absent) × (behind ≡ [])

-- tokens are keywords with what stands behind them, each at the place of its word
abbrev pub AreItems : List Item → List Token → Type 0
AreItems [] ts = ts ≡ []
AreItems (i ∷ is) ts = (t : Token) × (behind : List Token) × (rest : List Token) × (ts ≡ t ∷ (behind ++ rest)) × (i.span ≡ t.span) × IsItem t.kind i behind rest × AreItems is rest

-- ---- verb, object and name

abbrev pub IsWordThat : (List ℕ → Type 0) → TokenKind → Type 0
IsWordThat P (tokens.Word word) = P word
IsWordThat P _ = ⊥

-- the first token is a verb
abbrev pub HasVerb : Verb → List Token → Type 0
HasVerb verb [] = ⊥
HasVerb verb (t ∷ ts) = IsWordThat (IsVerbWord verb) t.kind

-- the second token is an object that goes with the verb
abbrev pub HasObject : Verb → Noun → List Token → Type 0
HasObject verb noun [] = ⊥
HasObject verb noun (t ∷ []) = ⊥
HasObject verb noun (t ∷ u ∷ ts) = (takes verb noun ≡ true) × IsWordThat (IsObjectWord noun) u.kind

-- a line begins with a verb and with an object, behind which more stands
pub record IsBegun (ts : List Token) (verb : Verb) (noun : Noun) (object : Token) (behind : List Token) : Type 0 where
  pub first : Token
  pub whole : ts ≡ first ∷ object ∷ behind
  pub is_verb : HasVerb verb ts
  pub is_object : HasObject verb noun ts

-- the place of the first token; a line without tokens has its number alone
abbrev pub IsFirstPlace : ℕ → List Token → Span → Type 0
IsFirstPlace number [] span = span ≡ record { line = number; start = 0; end = 0 }
IsFirstPlace number (t ∷ ts) span = span ≡ t.span

-- the place of the second token, or of the verb where nothing stands behind it
abbrev pub IsSecondPlace : ℕ → List Token → Span → Type 0
IsSecondPlace number (t ∷ u ∷ ts) span = span ≡ u.span
IsSecondPlace number ts span = IsFirstPlace number ts span

abbrev pub IsLastPlace : List Token → Span → Type 0
IsLastPlace ts span = (front : List Token) × (t : Token) × (ts ≡ front ++ t ∷ []) × (span ≡ t.span)

-- where a name stands that is named
abbrev pub IsNamePlace : List Token → Span → Type 0
IsNamePlace (o ∷ t ∷ ts) span = span ≡ t.span
IsNamePlace _ span = Unit {0}

-- ---- the keywords of a command

-- a keyword of the command is written so
abbrev pub IsKeyword : Verb → Kind → Key → List ℕ → Type 0
IsKeyword verb kind key word = Mem key (named_by verb kind ++ options_of verb kind) × (word ≡ key_text key)

abbrev pub IsUnknown : Verb → Kind → Item → Type 0
IsUnknown verb kind i = (key : Key) → IsKeyword verb kind key i.word → ⊥

-- two keywords are the same, or one is the opposite or the other spelling of the other
abbrev pub AreAlike : Verb → Kind → Item → Item → Type 0
AreAlike verb kind i j = (a : Key) × (b : Key) × IsKeyword verb kind a i.word × IsKeyword verb kind b j.word × (group_of a ≡ group_of b)

abbrev pub NoneAlike : Verb → Kind → List Item → Type 0
NoneAlike verb kind [] = Unit {0}
NoneAlike verb kind (i ∷ is) = (SomeIs (AreAlike verb kind i) is → ⊥) × NoneAlike verb kind is

-- i is the first keyword that came before
pub record IsRepeat (verb : Verb) (kind : Kind) (i : Item) (items : List Item) : Type 0 where
  pub front : List Item
  pub later : List Item
  pub whole : items ≡ front ++ i ∷ later
  pub before : SomeIs (λ (j : Item). AreAlike verb kind j i) front
  pub first : NoneAlike verb kind front

-- the first CHLTYPE of a command gives this type
abbrev pub IsTyped : List ℕ → List Item → Type 0
IsTyped text items = (i : Item) × IsFirst (λ (j : Item). j.word ≡ codes "CHLTYPE") i items × (i.value ≡ values.Text text)

abbrev pub IsChannelOf : List Item → Kind → Type 0
IsChannelOf items kinds.Sender = IsTyped (codes "SDR") items
IsChannelOf items kinds.Receiver = IsTyped (codes "RCVR") items
IsChannelOf items kinds.Channel = (IsTyped (codes "SDR") items → ⊥) × (IsTyped (codes "RCVR") items → ⊥)
IsChannelOf items _ = ⊥

-- whose attributes a command names
abbrev pub IsKindOf : Noun → List Item → Kind → Type 0
IsKindOf nouns.Local items kind = kind ≡ kinds.Local
IsKindOf nouns.Alias items kind = kind ≡ kinds.Alias
IsKindOf nouns.Remote items kind = kind ≡ kinds.Remote
IsKindOf nouns.Channel items kind = IsChannelOf items kind
IsKindOf nouns.Process items kind = kind ≡ kinds.Process
IsKindOf nouns.Manager items kind = kind ≡ kinds.Manager
IsKindOf nouns.Queue items kind = kind ≡ kinds.Queue
IsKindOf nouns.Status items kind = kind ≡ kinds.Status

-- ---- bad values

-- the name is none of such an object
abbrev pub IsBadName : Verb → Noun → List ℕ → Type 0
IsBadName verbs.Define noun name = subject_of noun name ≡ None
IsBadName verbs.Alter nouns.Manager name = ⊥
IsBadName verbs.Alter noun name = subject_of noun name ≡ None
IsBadName verbs.Delete noun name = subject_of noun name ≡ None
IsBadName verbs.Display nouns.Manager name = ⊥
IsBadName verbs.Display nouns.Status name = (text : List ℕ) × (any_end : Bool) × IsPattern name text any_end × (prefix_of (channel_name text) text ≡ None)
IsBadName verbs.Display noun name = (text : List ℕ) × (any_end : Bool) × IsPattern name text any_end × (is_prefix noun text ≡ false)
IsBadName verbs.Start noun name = channel_name name ≡ None
IsBadName verbs.Stop noun name = channel_name name ≡ None
IsBadName verbs.Reset noun name = channel_name name ≡ None
IsBadName verbs.Resolve noun name = channel_name name ≡ None

-- the keyword may not have what stands behind it
abbrev pub IsBad : Verb → Kind → Item → Type 0
IsBad verbs.Define kind i = (key : Key) × IsKeyword verbs.Define kind key i.word × (given_of kind key i.value ≡ given.Bad)
IsBad verbs.Alter kind i = (key : Key) × IsKeyword verbs.Alter kind key i.word × (given_of kind key i.value ≡ given.Bad)
IsBad verbs.Delete kind i = ⊥
IsBad verbs.Display kind i = i.value ≡ values.Absent → ⊥
IsBad verbs.Start kind i = ⊥
IsBad verbs.Stop kind i = ⊥
IsBad verbs.Reset kind i = number_value 0 999999999 i.value ≡ None
IsBad verbs.Resolve kind i = choice_value (codes "COMMIT") (codes "BACKOUT") i.value ≡ None

-- a keyword is missing that is needed: CHLTYPE where a channel is defined, XMITQ where it is a sender, ACTION
abbrev pub IsLacking : Verb → Kind → List Item → Type 0
IsLacking verbs.Define kinds.Channel items = Unit {0}
IsLacking verbs.Define kinds.Sender items = SomeIs (λ (i : Item). i.word ≡ codes "XMITQ") items → ⊥
IsLacking verbs.Resolve kind items = items ≡ []
IsLacking verb kind items = ⊥

-- ---- faults

-- the parts of a line that has a verb, an object and a name
pub record Parts : Type 0 where
  pub verb : Verb
  pub noun : Noun
  pub kind : Kind
  pub name : List ℕ
  pub name_place : Span
  pub items : List Item

pub record HasParts (ts : List Token) (p : Parts) : Type 0 where
  pub object : Token
  pub behind : List Token
  pub name_part : List Token
  pub rest : List Token
  pub begun : IsBegun ts p.verb p.noun object behind
  pub whole : behind ≡ name_part ++ rest
  pub named : IsNamed p.noun p.name (kinds_of name_part)
  pub name_at : IsNamePlace name_part p.name_place
  pub are_items : AreItems p.items rest
  pub is_kind : IsKindOf p.noun p.items p.kind

-- a bad name, else the first bad value, else what is missing, told at the last token
abbrev pub IsBadAt : List Token → Parts → Span → Type 0
IsBadAt ts p span =
    (IsBadName p.verb p.noun p.name × (span ≡ p.name_place))
    ⊎ ((IsBadName p.verb p.noun p.name → ⊥)
    × (((i : Item) × IsFirst (IsBad p.verb p.kind) i p.items × (span ≡ i.span))
    ⊎ (NoneIs (IsBad p.verb p.kind) p.items × IsLacking p.verb p.kind p.items × IsLastPlace ts span)))

-- a line is no command for this cause, at this place
abbrev pub IsFault : Line → ScFault → Type 0
IsFault line (faults.UnknownVerb span) = ((verb : Verb) → HasVerb verb line.tokens → ⊥) × IsFirstPlace line.number line.tokens span
IsFault line (faults.UnknownObject span) = (verb : Verb) × HasVerb verb line.tokens × ((noun : Noun) → HasObject verb noun line.tokens → ⊥) × IsSecondPlace line.number line.tokens span
IsFault line (faults.MissingName span) = (verb : Verb) × (noun : Noun) × (object : Token) × (behind : List Token) × IsBegun line.tokens verb noun object behind
    × ((name : List ℕ) (part rest : List Token) → behind ≡ part ++ rest → IsNamed noun name (kinds_of part) → ⊥) × (span ≡ object.span)
IsFault line (faults.UnknownKeyword span) = (p : Parts) × (i : Item) × HasParts line.tokens p × IsFirst (IsUnknown p.verb p.kind) i p.items × (span ≡ i.span)
IsFault line (faults.Repeated span) = (p : Parts) × (i : Item) × HasParts line.tokens p × NoneIs (IsUnknown p.verb p.kind) p.items × IsRepeat p.verb p.kind i p.items × (span ≡ i.span)
IsFault line (faults.BadValue span) = (p : Parts) × HasParts line.tokens p × NoneIs (IsUnknown p.verb p.kind) p.items × NoneAlike p.verb p.kind p.items × IsBadAt line.tokens p span
IsFault line faults.NoMemory = ⊥
