-- The text of a command as it is laid out: words in upper case, brackets, texts in quotes, and blanks.
use Rattle.std.specs.Prelude.{◌≡◌, ℕ, ◌<◌, ◌==◌, not, Bool, true, false, List, [], ◌∷◌, ◌++◌, length, Option, Some, None, codes}
use Rattle.std.specs.Str.{bytes_eq}
use Rattle.std.specs.List.{list_all}
use Rattle.std.specs.Str.{str_to_ascii_uppercase}
use Rattle.mq_base.specs.Name.{IsName}
use Rattle.mq_text.specs.Quoting.{quoted}
use Rattle.mq_objects.specs.declared.command.Subject.{Subject}
use Rattle.mq_objects.specs.declared.command.Subject.TheVariants as subjects
use Rattle.mq_sc_lex.specs.declared.token.TokenKind.{TokenKind}
use Rattle.mq_sc_lex.specs.declared.token.TokenKind.TheVariants as tokens
use Rattle.mq_sc_lex.specs.Joining.{is_sign}
use Rattle.mq_objects.specs.declared.setting.Setting.{Setting}
use Rattle.mq_sc_keys.specs.declared.verbs.Verb.{Verb}
use Rattle.mq_sc_keys.specs.declared.verbs.Verb.TheVariants as verbs
use Rattle.mq_sc_keys.specs.declared.verbs.Noun.{Noun}
use Rattle.mq_sc_keys.specs.Verbs.{object_text, takes}
use Rattle.mq_objects.specs.Attributes.{attributes}
use Rattle.mq_law_log.specs.from_sc_apply.Planned.{defined_object}
use Rattle.mq_law_log.specs.from_spec_log.Texts.{gives_all}
use Rattle.mq_sc_keys.specs.declared.attributes.Kind.{Kind}
use Rattle.mq_sc_keys.specs.declared.giving.Given.TheVariants as given
use Rattle.mq_sc_keys.specs.Keys.{key_text}
use Rattle.mq_sc_keys.specs.Attributes.{named_by, options_of}
use Rattle.mq_sc_keys.specs.Values.{given_of}
use Rattle.mq_sc_grammar.specs.Spelling.{Clause}
use Rattle.mq_sc_grammar.specs.Commands.{value_of, IsKind, AreSingle, HasNeeded}
use Rattle.mq_law_log.specs.from_law_manager.Facts.{Mem}
use Rattle.mq_sc_grammar.specs.Written.{IsWordText, BeginsApart, BeginsUnquoted}

pub data Bit : Type 0 where
  Word : (text : List ℕ) → Bit
  Quote : (text : List ℕ) → Bit
  Open : Bit
  Close : Bit
  Gap : Bit

abbrev pub bit_text : Bit → List ℕ
bit_text (Word w) = w
bit_text (Quote t) = quoted t
bit_text Open = 40 ∷ []
bit_text Close = 41 ∷ []
bit_text Gap = 32 ∷ []

-- all of them
abbrev pub text_of : List Bit → List ℕ
text_of [] = []
text_of (b ∷ bs) = bit_text b ++ text_of bs

-- the tokens that they are
abbrev pub kinds_in : List Bit → List TokenKind
kinds_in [] = []
kinds_in (Word w ∷ bs) = tokens.Word w ∷ kinds_in bs
kinds_in (Quote t ∷ bs) = tokens.Quoted t ∷ kinds_in bs
kinds_in (Open ∷ bs) = tokens.Open ∷ kinds_in bs
kinds_in (Close ∷ bs) = tokens.Close ∷ kinds_in bs
kinds_in (Gap ∷ bs) = kinds_in bs

-- a word is one, in upper case
abbrev pub IsWell : Bit → Type 0
IsWell (Word w) = IsWordText w × (w ≡ str_to_ascii_uppercase w)
IsWell (Quote t) = Unit {0}
IsWell Open = Unit {0}
IsWell Close = Unit {0}
IsWell Gap = Unit {0}

-- a word ends with what stands behind it, and so does a text in quotes
abbrev pub EndsBit : Bit → List ℕ → Type 0
EndsBit (Word w) rest = BeginsApart rest
EndsBit (Quote t) rest = BeginsUnquoted rest
EndsBit Open rest = Unit {0}
EndsBit Close rest = Unit {0}
EndsBit Gap rest = Unit {0}

abbrev pub AreLaid : List Bit → Type 0
AreLaid [] = Unit {0}
AreLaid (b ∷ bs) = IsWell b × EndsBit b (text_of bs) × AreLaid bs

-- a name that an object may have, by its kind
abbrev pub IsSubject : Subject → Type 0
IsSubject (subjects.Local n) = IsName 48 n × (0 < length n)
IsSubject (subjects.Alias n) = IsName 48 n × (0 < length n)
IsSubject (subjects.Remote n) = IsName 48 n × (0 < length n)
IsSubject (subjects.Channel n) = IsName 20 n × (0 < length n)
IsSubject (subjects.Process n) = IsName 48 n × (0 < length n)

-- ---- clauses of a DEFINE or an ALTER

-- a clause, whether its value stands in quotes, and the setting that it gives
pub record Written : Type 0 where
  pub clause : Clause
  pub in_quotes : Bool
  pub setting : Setting

abbrev pub value_bits : Bool → Option (List ℕ) → List Bit
value_bits b None = []
value_bits true (Some t) = Open ∷ Quote t ∷ Close ∷ []
value_bits false (Some t) = Open ∷ Word t ∷ Close ∷ []

abbrev pub clause_bits : Written → List Bit
clause_bits w = Gap ∷ Word (key_text w.clause.key) ∷ value_bits w.in_quotes w.clause.value

abbrev pub all_bits : List Written → List Bit
all_bits [] = []
all_bits (w ∷ ws) = clause_bits w ++ all_bits ws

abbrev pub clauses_of : List Written → List Clause
clauses_of [] = []
clauses_of (w ∷ ws) = w.clause ∷ clauses_of ws

abbrev pub settings_of : List Written → List Setting
settings_of [] = []
settings_of (w ∷ ws) = w.setting ∷ settings_of ws

-- no line ends in it
abbrev pub is_no_end : ℕ → Bool
is_no_end c = not (c == 10)

-- its last byte is no blank and no sign, so the line doesn't go on
pub record Ends (text : List ℕ) : Type 0 where
  pub front : List ℕ
  pub last : ℕ
  pub is : text ≡ front ++ last ∷ []
  pub unblank : (last == 32) ≡ false
  pub unsigned : is_sign last ≡ false

abbrev pub IsValueWell : Bool → Option (List ℕ) → Type 0
IsValueWell b None = Unit {0}
IsValueWell true (Some t) = Unit {0}
IsValueWell false (Some t) = IsWell (Word t)

-- the command may have the clause, which gives the setting, and is written on one line
pub record IsWritten (verb : Verb) (kind : Kind) (w : Written) : Type 0 where
  pub known : Mem w.clause.key (named_by verb kind ++ options_of verb kind)
  pub gives : given_of kind w.clause.key (value_of w.clause.value) ≡ given.Setting w.setting
  pub key : IsWell (Word (key_text w.clause.key))
  pub value : IsValueWell w.in_quotes w.clause.value
  pub whole : list_all is_no_end (text_of (clause_bits w)) ≡ true
  pub ends : Ends (text_of (clause_bits w))

abbrev pub AreWritten : Verb → Kind → List Written → Type 0
AreWritten verb kind [] = Unit {0}
AreWritten verb kind (w ∷ ws) = IsWritten verb kind w × AreWritten verb kind ws

-- the whole command
abbrev pub alter_bits : List Written → List Bit
alter_bits ws = Word (codes "ALTER") ∷ Gap ∷ Word (codes "QMGR") ∷ all_bits ws

abbrev pub define_bits : List ℕ → List ℕ → List Written → List Bit
define_bits word name ws = Word (codes "DEFINE") ∷ Gap ∷ Word word ∷ Open ∷ Quote name ∷ Close ∷ all_bits ws

-- what a DEFINE's clauses are to be so that it is one
pub record CanDefine (s : Subject) (noun : Noun) (kind : Kind) (ws : List Written) : Type 0 where
  pub goes : takes verbs.Define noun ≡ true
  pub is_kind : IsKind noun (clauses_of ws) kind
  pub written : AreWritten verbs.Define kind ws
  pub single : AreSingle (clauses_of ws)
  pub needed : HasNeeded kind (clauses_of ws)
  pub replace : (c : Clause) → Mem c (clauses_of ws) → bytes_eq (key_text c.key) (codes "REPLACE") ≡ false
  pub noreplace : (c : Clause) → Mem c (clauses_of ws) → bytes_eq (key_text c.key) (codes "NOREPLACE") ≡ false
  pub word : IsWell (Word (object_text noun))
  pub one_line : list_all is_no_end (object_text noun) ≡ true
  pub apart : bytes_eq (object_text noun) (codes "REPLACE") ≡ false
  pub noapart : bytes_eq (object_text noun) (codes "NOREPLACE") ≡ false
  pub all : gives_all (settings_of ws) (attributes (defined_object s (settings_of ws))) ≡ true
