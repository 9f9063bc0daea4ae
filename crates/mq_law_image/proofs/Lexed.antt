-- No token of a text of commands has the end of a line in it; so a command that is read has a name and settings such as a text gives.
use Rattle.std.proofs.Common.{ℕ, ◌≡◌, ◌+◌, Bool, true, false, List, [], ◌∷◌, ◌++◌, length, refl, ap, sym, subst, ◌∙◌, arith, inl, inr}
use Rattle.std.specs.Prelude.{Option, Some, None, Ok, if◌then◌else◌, ◌&&◌, not, ◌==◌}
use Rattle.std.specs.List.{list_all, onto_first, AllByRecursion}
use Rattle.std.specs.Option.{option_map}
use Rattle.std.specs.Str.{str_to_ascii_uppercase}
use Rattle.std.specs.Char.{to_ascii_uppercase}
use Rattle.std.proofs.lemmas.Bool.Decides.{nat_tests}
use Rattle.mq_base.specs.Name.{name_of}
use Rattle.mq_text.specs.Lines.{lines_of}
use Rattle.mq_text.specs.Quoting.{doubled}
use Rattle.mq_objects.specs.declared.setting.Setting.{Setting}
use Rattle.mq_objects.specs.declared.command.Subject.{Subject}
use Rattle.mq_objects.specs.declared.command.Subject.TheVariants as subjects
use Rattle.mq_objects.specs.declared.command.Command.{Command as ObjectCommand}
use Rattle.mq_objects.specs.declared.command.Command.TheVariants as objects
use Rattle.mq_sc_lex.specs.declared.joining.Mark.{Mark}
use Rattle.mq_sc_lex.specs.declared.joining.Ending.{Ending}
use Rattle.mq_sc_lex.specs.declared.joining.Ending.TheVariants.{Whole, Plus, Minus}
use Rattle.mq_sc_lex.specs.declared.token.Span.{Span}
use Rattle.mq_sc_lex.specs.declared.token.Token.{Token}
use Rattle.mq_sc_lex.specs.declared.token.TokenKind.{TokenKind}
use Rattle.mq_sc_lex.specs.declared.token.TokenKind.TheVariants as tokens
use Rattle.mq_sc_lex.specs.declared.token.Line.{Line}
use Rattle.mq_sc_lex.specs.declared.tokens.Meaning.{Meaning}
use Rattle.mq_sc_lex.specs.declared.tokens.Meaning.TheVariants as meanings
use Rattle.mq_sc_lex.specs.Joining.{marks_from}
use Rattle.mq_sc_lex.specs.Tokens.{bytes_of, put_meaning, numbered}
use Rattle.mq_sc_lex.specs.Commands.{commands_of}
use Rattle.mq_sc_keys.specs.declared.verbs.Verb.{Verb}
use Rattle.mq_sc_keys.specs.declared.verbs.Verb.TheVariants as verbs
use Rattle.mq_sc_keys.specs.declared.verbs.Noun.{Noun}
use Rattle.mq_sc_keys.specs.declared.verbs.Noun.TheVariants as nouns
use Rattle.mq_sc_keys.specs.declared.attributes.Kind.{Kind}
use Rattle.mq_sc_keys.specs.declared.attributes.Kind.TheVariants as kinds
use Rattle.mq_sc_keys.specs.Attributes.{named_by, options_of}
use Rattle.mq_sc_keys.specs.Values.{name_or_none}
use Rattle.mq_sc_parse.specs.declared.command.Command.{Command}
use Rattle.mq_sc_parse.specs.declared.command.Command.TheVariants as commands
use Rattle.mq_sc_parse.specs.Parsing.{subject_of, parse_of}
use Rattle.mq_sc_grammar.specs.Written.{IsText, IsTokenText, Part, BeginsWith, commands_of_parts, span_of_marks, AreOfLines}
use Rattle.mq_sc_grammar.specs.Texts.{EndsSo, BeginsSo, IsPart, IsBefore, IsOnto, AreJoined}
use Rattle.mq_sc_grammar.specs.Spelling.{Clause, IsValue, IsValuePart, IsClause, AreClauses, kinds_of}
use Rattle.mq_sc_grammar.specs.Commands.{value_of, IsKind, AreKnown, AreGiven, IsDefine, IsAlter, IsAlterManager, IsCommand, Means}
use Rattle.mq_sc_grammar.proofs.Whole.{text_found}
use Rattle.mq_sc_grammar.proofs.Readings.{command_found}
use Rattle.mq_law_log.proofs.from_law_manager.Lists.{bool_case}
use Rattle.mq_law_image.specs.Laid.{is_no_end, IsSubject}
use Rattle.mq_law_image.specs.Values.{kept_keys, IsSettingText, kind_of, IsCommandText}
use Rattle.mq_law_image.proofs.Members.{both}
use Rattle.mq_law_image.proofs.Deleting.{whole_append}
use Rattle.mq_law_image.proofs.Settings.{IsWhole, AreWhole, knows_kept, name_there, settings_text}

-- ---- texts on one line

abbrev pub IsWholeText : List ℕ → Type 0
IsWholeText text = list_all is_no_end text ≡ true

whole_left : (xs ys : List ℕ) → IsWholeText (xs ++ ys) → IsWholeText xs
whole_left [] ys e = refl
whole_left (x ∷ xs) ys e = let b = both (is_no_end x) (list_all is_no_end (xs ++ ys)) e in ap (λ (t : Bool). t && list_all is_no_end xs) b.0 ∙ whole_left xs ys b.1

whole_right : (xs ys : List ℕ) → IsWholeText (xs ++ ys) → IsWholeText ys
whole_right [] ys e = e
whole_right (x ∷ xs) ys e = whole_right xs ys (both (is_no_end x) (list_all is_no_end (xs ++ ys)) e).1

onto_whole : (b : ℕ) (rows : List (List ℕ)) → is_no_end b ≡ true → AllByRecursion IsWholeText rows → AllByRecursion IsWholeText (onto_first b rows)
onto_whole b [] e h = (ap (λ (t : Bool). t && true) e, tt)
onto_whole b (row ∷ rows) e h = (ap (λ (t : Bool). t && list_all is_no_end row) e ∙ h.0, h.1)

rows_whole : (text : List ℕ) → AllByRecursion IsWholeText (lines_of text)
rows_whole [] = tt
rows_whole (b ∷ bs) = bool_case (b == 10) (λ t. (b == 10) ≡ t → AllByRecursion IsWholeText (if t then [] ∷ lines_of bs else onto_first b (lines_of bs)))
    (λ z w. (refl, rows_whole bs)) (λ z w. onto_whole b (lines_of bs) (ap not w) (rows_whole bs)) refl

upper_whole : (bs : List ℕ) → IsWholeText bs → IsWholeText (str_to_ascii_uppercase bs)
upper_whole [] e = refl
upper_whole (b ∷ bs) e = let h = both (is_no_end b) (list_all is_no_end bs) e in ap (λ (t : Bool). t && list_all is_no_end (str_to_ascii_uppercase bs)) (one b h.0) ∙ upper_whole bs h.1
  where
    one : (c : ℕ) → is_no_end c ≡ true → is_no_end (to_ascii_uppercase c) ≡ true
    one c e = grind (arith, nat_tests)

doubled_back : (bs : List ℕ) → IsWholeText (doubled bs) → IsWholeText bs
doubled_back [] e = refl
doubled_back (b ∷ bs) e = bool_case (b == 39) (λ t. (b == 39) ≡ t → IsWholeText (if t then 39 ∷ 39 ∷ doubled bs else b ∷ doubled bs) → IsWholeText (b ∷ bs))
    (λ z w f. ap (λ (t : Bool). t && list_all is_no_end bs) (quote b w) ∙ doubled_back bs f)
    (λ z w f. let h = both (is_no_end b) (list_all is_no_end (doubled bs)) f in ap (λ (t : Bool). t && list_all is_no_end bs) h.0 ∙ doubled_back bs h.1) refl e
  where
    quote : (c : ℕ) → (c == 39) ≡ true → is_no_end c ≡ true
    quote c e = grind (arith, nat_tests)

-- ---- lines

abbrev IsWholeLine : List Mark → Type 0
IsWholeLine marks = IsWholeText (bytes_of marks)

marks_bytes : (line at : ℕ) (text : List ℕ) → bytes_of (marks_from line at text) ≡ text
marks_bytes line at [] = refl
marks_bytes line at (b ∷ bs) = ap (λ (xs : List ℕ). b ∷ xs) (marks_bytes line (at + 1) bs)

bytes_append : (xs ys : List Mark) → bytes_of (xs ++ ys) ≡ bytes_of xs ++ bytes_of ys
bytes_append [] ys = refl
bytes_append (x ∷ xs) ys = ap (λ (bs : List ℕ). x.byte ∷ bs) (bytes_append xs ys)

line_append : (xs ys : List Mark) → IsWholeLine xs → IsWholeLine ys → IsWholeLine (xs ++ ys)
line_append xs ys a b = ap (list_all is_no_end) (bytes_append xs ys) ∙ whole_append (bytes_of xs) (bytes_of ys) a b

body_whole : (ending : Ending) (bytes body : List ℕ) → EndsSo ending bytes body → IsWholeText bytes → IsWholeText body
body_whole Whole bytes body e h = subst IsWholeText e.0 h
body_whole Plus bytes body e h = whole_left body (43 ∷ e.0) (subst IsWholeText e.1 h)
body_whole Minus bytes body e h = whole_left body (45 ∷ e.0) (subst IsWholeText e.1 h)

text_whole : (before : Ending) (body passed text : List ℕ) → BeginsSo before body passed text → IsWholeText body → IsWholeText text
text_whole Whole body passed text e h = subst IsWholeText e.0 h
text_whole Plus body passed text e h = whole_right passed text (subst IsWholeText e.0 h)
text_whole Minus body passed text e h = subst IsWholeText e.0 h

part_whole : (before : Ending) (line at : ℕ) (bytes : List ℕ) (ending : Ending) (part : List Mark) → IsPart before line at bytes ending part → IsWholeText bytes → IsWholeLine part
part_whole before line at bytes ending part p h =
    subst IsWholeLine (sym p.is) (ap (list_all is_no_end) (marks_bytes line (at + length p.passed) p.text) ∙ text_whole before p.body p.passed p.text p.begins (body_whole ending bytes p.body p.ends h))

before_whole : (part : List Mark) (later lines : List (List Mark)) → IsBefore part later lines → IsWholeLine part → AllByRecursion IsWholeLine later → AllByRecursion IsWholeLine lines
before_whole part [] lines e p h = subst (λ (ls : List (List Mark)). AllByRecursion IsWholeLine ls) (sym e) (p, tt)
before_whole part (l ∷ ls) lines e p h = subst (λ (xs : List (List Mark)). AllByRecursion IsWholeLine xs) (sym e) (line_append part l p h.0, h.1)

line_whole : (ending : Ending) (part : List Mark) (later lines : List (List Mark)) → IsOnto ending part later lines → IsWholeLine part → AllByRecursion IsWholeLine later → AllByRecursion IsWholeLine lines
line_whole Whole part later lines e p h = subst (λ (xs : List (List Mark)). AllByRecursion IsWholeLine xs) (sym e) (p, h)
line_whole Plus part later lines e p h = before_whole part later lines e p h
line_whole Minus part later lines e p h = before_whole part later lines e p h

joined_whole : (before : Ending) (line at : ℕ) (rows : List (List ℕ)) (last : Ending) (lines : List (List Mark)) → AreJoined before line at rows last lines → AllByRecursion IsWholeText rows → AllByRecursion IsWholeLine lines
joined_whole before line at [] last lines j h = subst (λ (xs : List (List Mark)). AllByRecursion IsWholeLine xs) (sym j.1) tt
joined_whole before line at (bytes ∷ rest) last lines (inl j) h = joined_whole before (line + 1) (at + length bytes + 1) rest last lines j.1 h.1
joined_whole before line at (bytes ∷ rest) last lines (inr j) h =
    line_whole j.0 j.1 j.2 lines j.4 (part_whole before line at bytes j.0 j.1 j.3 h.0) (joined_whole j.0 (line + 1) (at + length bytes + 1) rest last j.2 j.5 h.1)

-- ---- tokens

abbrev pub IsWholeToken : TokenKind → Type 0
IsWholeToken (tokens.Word word) = IsWholeText word
IsWholeToken (tokens.Quoted text) = IsWholeText text
IsWholeToken tokens.Open = Unit {0}
IsWholeToken tokens.Close = Unit {0}

abbrev pub AreWholeTokens : List Token → Type 0
AreWholeTokens ts = AllByRecursion (λ (t : Token). IsWholeToken t.kind) ts

token_whole : (kind : TokenKind) (bytes : List ℕ) → IsTokenText kind bytes → IsWholeText bytes → IsWholeToken kind
token_whole (tokens.Word word) bytes e h = subst IsWholeText (sym e.1) (upper_whole bytes h)
token_whole (tokens.Quoted text) bytes e h = doubled_back text (whole_left (doubled text) (39 ∷ []) (subst IsWholeText e h))
token_whole tokens.Open bytes e h = tt
token_whole tokens.Close bytes e h = tt

first_whole : (span : Span) (kind : TokenKind) (cs : List (List Token)) → IsWholeToken kind → AllByRecursion AreWholeTokens cs → AllByRecursion AreWholeTokens (onto_first (record { span = span; kind = kind }) cs)
first_whole span kind [] k h = ((k, tt), tt)
first_whole span kind (c ∷ cs) k h = ((k, h.0), h.1)

meaning_whole : (m : Meaning) (bytes : List ℕ) (span : Span) (cs : List (List Token)) → IsText m bytes → IsWholeText bytes → AllByRecursion AreWholeTokens cs → AllByRecursion AreWholeTokens (put_meaning m span cs)
meaning_whole (meanings.Token kind) bytes span cs e w h = first_whole span kind cs (token_whole kind bytes e w) h
meaning_whole meanings.Gap bytes span cs e w h = h
meaning_whole meanings.End bytes span cs e w h = (tt, h)

parts_whole : (ps : List Part) (rest marks : List Mark) → BeginsWith ps rest marks → IsWholeLine marks → AllByRecursion AreWholeTokens (commands_of_parts ps)
parts_whole [] rest marks b h = (tt, tt)
parts_whole (p ∷ ps) rest marks b h =
    let all : IsWholeText (bytes_of p.marks ++ bytes_of b.0) = ap (list_all is_no_end) (sym (bytes_append p.marks b.0)) ∙ subst IsWholeLine b.1 h in
    meaning_whole p.meaning (bytes_of p.marks) (span_of_marks p.marks) (commands_of_parts ps) b.2 (whole_left (bytes_of p.marks) (bytes_of b.0) all) (parts_whole ps rest b.0 b.4 (whole_right (bytes_of p.marks) (bytes_of b.0) all))

abbrev pub IsWholeCommand : Line → Type 0
IsWholeCommand line = AreWholeTokens line.tokens

numbered_whole : (cs : List (List Token)) → AllByRecursion AreWholeTokens cs → AllByRecursion IsWholeCommand (numbered cs)
numbered_whole [] h = tt
numbered_whole ([] ∷ cs) h = numbered_whole cs h.1
numbered_whole ((t ∷ ts) ∷ cs) h = (h.0, numbered_whole cs h.1)

all_append : (xs ys : List Line) → AllByRecursion IsWholeCommand xs → AllByRecursion IsWholeCommand ys → AllByRecursion IsWholeCommand (xs ++ ys)
all_append [] ys a b = b
all_append (x ∷ xs) ys a b = (a.0, all_append xs ys a.1 b)

lines_whole : (joined : List (List Mark)) (lines : List Line) → AreOfLines joined lines → AllByRecursion IsWholeLine joined → AllByRecursion IsWholeCommand lines
lines_whole [] lines e h = subst (λ (xs : List Line). AllByRecursion IsWholeCommand xs) (sym e) tt
lines_whole (marks ∷ rest) lines e h = subst (λ (xs : List Line). AllByRecursion IsWholeCommand xs) (sym e.4)
    (all_append e.0 e.1 (subst (λ (xs : List Line). AllByRecursion IsWholeCommand xs) (sym e.2.2) (numbered_whole (commands_of_parts e.2.0) (parts_whole e.2.0 [] marks e.2.1 h.0))) (lines_whole rest e.1 e.3 h.1))

-- the tokens of a text
pub commands_whole : (text : List ℕ) (lines : List Line) → commands_of text ≡ Ok lines → AllByRecursion IsWholeCommand lines
commands_whole text lines e = let f = text_found text lines e in lines_whole f.0 lines f.2 (joined_whole Whole 1 0 (lines_of text) Whole f.0 f.1 (rows_whole text))

-- ---- clauses

kinds_whole : (ts : List Token) → AreWholeTokens ts → AllByRecursion IsWholeToken (kinds_of ts)
kinds_whole [] h = tt
kinds_whole (t ∷ ts) h = (h.0, kinds_whole ts h.1)

kinds_left : (xs ys : List TokenKind) → AllByRecursion IsWholeToken (xs ++ ys) → AllByRecursion IsWholeToken xs
kinds_left [] ys h = tt
kinds_left (x ∷ xs) ys h = (h.0, kinds_left xs ys h.1)

kinds_right : (xs ys : List TokenKind) → AllByRecursion IsWholeToken (xs ++ ys) → AllByRecursion IsWholeToken ys
kinds_right [] ys h = h
kinds_right (x ∷ xs) ys h = kinds_right xs ys h.1

value_whole : (text : List ℕ) (kind : TokenKind) → IsValue text kind → IsWholeToken kind → IsWholeText text
value_whole text (tokens.Word word) e h = subst IsWholeText (sym e) h
value_whole text (tokens.Quoted quote) e h = subst IsWholeText (sym e) h
value_whole text tokens.Open e h = absurd e
value_whole text tokens.Close e h = absurd e

part_value : (value : Option (List ℕ)) (behind : List TokenKind) → IsValuePart value behind → AllByRecursion IsWholeToken behind → IsWhole (value_of value)
part_value None behind e h = tt
part_value (Some text) behind e h = value_whole text e.0 e.1 (subst (λ (ks : List TokenKind). AllByRecursion IsWholeToken ks) e.2 h).1.0

clause_whole : (c : Clause) (kinds : List TokenKind) → IsClause c kinds → AllByRecursion IsWholeToken kinds → IsWhole (value_of c.value)
clause_whole c kinds i h = part_value c.value i.behind i.value (subst (λ (ks : List TokenKind). AllByRecursion IsWholeToken ks) i.is h).1

clauses_whole : (cs : List Clause) (kinds : List TokenKind) → AreClauses cs kinds → AllByRecursion IsWholeToken kinds → AreWhole cs
clauses_whole [] kinds e h = tt
clauses_whole (c ∷ cs) kinds e h =
    let all = subst (λ (ks : List TokenKind). AllByRecursion IsWholeToken ks) e.2 h in
    (clause_whole c e.0 e.3 (kinds_left e.0 e.1 all), clauses_whole cs e.1 e.4 (kinds_right e.0 e.1 all))

-- ---- commands

-- which keywords the commands of each kind may have
record AreTables (verb : Verb) : Type 0 where
  pub local : knows_kept (kept_keys kinds.Local) (named_by verb kinds.Local ++ options_of verb kinds.Local) ≡ true
  pub alias : knows_kept (kept_keys kinds.Alias) (named_by verb kinds.Alias ++ options_of verb kinds.Alias) ≡ true
  pub remote : knows_kept (kept_keys kinds.Remote) (named_by verb kinds.Remote ++ options_of verb kinds.Remote) ≡ true
  pub channel : knows_kept (kept_keys kinds.Channel) (named_by verb kinds.Channel ++ options_of verb kinds.Channel) ≡ true
  pub sender : knows_kept (kept_keys kinds.Sender) (named_by verb kinds.Sender ++ options_of verb kinds.Sender) ≡ true
  pub receiver : knows_kept (kept_keys kinds.Receiver) (named_by verb kinds.Receiver ++ options_of verb kinds.Receiver) ≡ true
  pub process : knows_kept (kept_keys kinds.Process) (named_by verb kinds.Process ++ options_of verb kinds.Process) ≡ true

define_tables : AreTables verbs.Define
define_tables = record { local = refl; alias = refl; remote = refl; channel = refl; sender = refl; receiver = refl; process = refl }

alter_tables : AreTables verbs.Alter
alter_tables = record { local = refl; alias = refl; remote = refl; channel = refl; sender = refl; receiver = refl; process = refl }

abbrev AreTexts : Kind → List Setting → Type 0
AreTexts kind ss = AllByRecursion (IsSettingText kind) ss

sender_one : (s : Setting) → IsSettingText kinds.Sender s → IsSettingText kinds.Channel s
sender_one s h = h

receiver_one : (s : Setting) → IsSettingText kinds.Receiver s → IsSettingText kinds.Channel s
receiver_one s h = h

sender_texts : (ss : List Setting) → AreTexts kinds.Sender ss → AreTexts kinds.Channel ss
sender_texts [] h = tt
sender_texts (s ∷ ss) h = (sender_one s h.0, sender_texts ss h.1)

receiver_texts : (ss : List Setting) → AreTexts kinds.Receiver ss → AreTexts kinds.Channel ss
receiver_texts [] h = tt
receiver_texts (s ∷ ss) h = (receiver_one s h.0, receiver_texts ss h.1)

-- what a command names
abbrev IsNamedAs : (List ℕ → Subject) → Subject → Type 0
IsNamedAs make s = (n : List ℕ) × (s ≡ make n)

abbrev or_subject : Subject → Option Subject → Subject
or_subject d None = d
or_subject d (Some s) = s

named_as : (make : List ℕ → Subject) (o : Option (List ℕ)) (s : Subject) → option_map make o ≡ Some s → (n : List ℕ) × (o ≡ Some n) × (s ≡ make n)
named_as make None s e = absurd cc
named_as make (Some n) s e = (n, refl, sym (ap (or_subject s) e))

pub subject_text : (noun : Noun) (name : List ℕ) (s : Subject) → subject_of noun name ≡ Some s → IsSubject s
subject_text nouns.Local name s e = let k = named_as subjects.Local (name_or_none (name_of 48 name)) s e in subst IsSubject (sym k.2) (name_there 48 name k.0 k.1)
subject_text nouns.Alias name s e = let k = named_as subjects.Alias (name_or_none (name_of 48 name)) s e in subst IsSubject (sym k.2) (name_there 48 name k.0 k.1)
subject_text nouns.Remote name s e = let k = named_as subjects.Remote (name_or_none (name_of 48 name)) s e in subst IsSubject (sym k.2) (name_there 48 name k.0 k.1)
subject_text nouns.Channel name s e = let k = named_as subjects.Channel (name_or_none (name_of 20 name)) s e in subst IsSubject (sym k.2) (name_there 20 name k.0 k.1)
subject_text nouns.Process name s e = let k = named_as subjects.Process (name_or_none (name_of 48 name)) s e in subst IsSubject (sym k.2) (name_there 48 name k.0 k.1)
subject_text nouns.Manager name s e = absurd cc
subject_text nouns.Queue name s e = absurd cc
subject_text nouns.Status name s e = absurd cc

subject_kind : (make : List ℕ → Subject) (kind : Kind) (o : Option (List ℕ)) (s : Subject) → option_map make o ≡ Some s → ((n : List ℕ) → kind_of (make n) ≡ kind) → kind_of s ≡ kind
subject_kind make kind o s e h = let k = named_as make o s e in ap kind_of k.2 ∙ h k.0

one_kind : (verb : Verb) (kind other : Kind) (s : Subject) (cs : List Clause) (ss : List Setting) → kind ≡ other → kind_of s ≡ other → knows_kept (kept_keys other) (named_by verb other ++ options_of verb other) ≡ true → AreKnown verb kind cs → AreWhole cs → AreGiven kind cs ss
    → AreTexts (kind_of s) ss
one_kind verb kind other s cs ss e f table known whole gives =
    subst (λ (k : Kind). AreTexts k ss) (sym f) (settings_text verb other cs ss table (subst (λ (k : Kind). AreKnown verb k cs) e known) whole (subst (λ (k : Kind). AreGiven k cs ss) e gives))

channel_texts : (verb : Verb) (kind : Kind) (cs all : List Clause) (ss : List Setting) → IsKind nouns.Channel all kind → AreTables verb → AreKnown verb kind cs → AreWhole cs → AreGiven kind cs ss → AreTexts kinds.Channel ss
channel_texts verb kinds.Sender cs all ss is t known whole gives = sender_texts ss (settings_text verb kinds.Sender cs ss t.sender known whole gives)
channel_texts verb kinds.Receiver cs all ss is t known whole gives = receiver_texts ss (settings_text verb kinds.Receiver cs ss t.receiver known whole gives)
channel_texts verb kinds.Channel cs all ss is t known whole gives = settings_text verb kinds.Channel cs ss t.channel known whole gives
channel_texts verb kinds.Local cs all ss is t known whole gives = absurd is
channel_texts verb kinds.Alias cs all ss is t known whole gives = absurd is
channel_texts verb kinds.Remote cs all ss is t known whole gives = absurd is
channel_texts verb kinds.Process cs all ss is t known whole gives = absurd is
channel_texts verb kinds.Manager cs all ss is t known whole gives = absurd is
channel_texts verb kinds.Queue cs all ss is t known whole gives = absurd is
channel_texts verb kinds.Status cs all ss is t known whole gives = absurd is

object_texts : (verb : Verb) (noun : Noun) (kind : Kind) (name : List ℕ) (s : Subject) (cs : List Clause) (ss : List Setting) → AreTables verb → subject_of noun name ≡ Some s → IsKind noun cs kind → AreKnown verb kind cs → AreWhole cs → AreGiven kind cs ss
    → IsSubject s × AreTexts (kind_of s) ss
object_texts verb nouns.Local kind name s cs ss t named is known whole gives = (subject_text nouns.Local name s named, one_kind verb kind kinds.Local s cs ss is (subject_kind subjects.Local kinds.Local (name_or_none (name_of 48 name)) s named (λ n. refl)) t.local known whole gives)
object_texts verb nouns.Alias kind name s cs ss t named is known whole gives = (subject_text nouns.Alias name s named, one_kind verb kind kinds.Alias s cs ss is (subject_kind subjects.Alias kinds.Alias (name_or_none (name_of 48 name)) s named (λ n. refl)) t.alias known whole gives)
object_texts verb nouns.Remote kind name s cs ss t named is known whole gives = (subject_text nouns.Remote name s named, one_kind verb kind kinds.Remote s cs ss is (subject_kind subjects.Remote kinds.Remote (name_or_none (name_of 48 name)) s named (λ n. refl)) t.remote known whole gives)
object_texts verb nouns.Process kind name s cs ss t named is known whole gives = (subject_text nouns.Process name s named, one_kind verb kind kinds.Process s cs ss is (subject_kind subjects.Process kinds.Process (name_or_none (name_of 48 name)) s named (λ n. refl)) t.process known whole gives)
object_texts verb nouns.Channel kind name s cs ss t named is known whole gives = (
  subject_text nouns.Channel name s named,
  subst (λ (k : Kind). AreTexts k ss) (sym (subject_kind subjects.Channel kinds.Channel (name_or_none (name_of 20 name)) s named (λ n. refl))) (channel_texts verb kind cs cs ss is t known whole gives),
)
object_texts verb nouns.Manager kind name s cs ss t named is known whole gives = absurd cc
object_texts verb nouns.Queue kind name s cs ss t named is known whole gives = absurd cc
object_texts verb nouns.Status kind name s cs ss t named is known whole gives = absurd cc

abbrev or_command : ObjectCommand → Command → ObjectCommand
or_command d (commands.Objects c) = c
or_command d (commands.Operate op) = d
or_command d (commands.ShowStatus name any_end) = d

same_command : (c d : ObjectCommand) → commands.Objects c ≡ commands.Objects d → IsCommandText d → IsCommandText c
same_command c d e h = subst IsCommandText (sym (ap (or_command c) e)) h

abbrev is_on_objects : Command → Bool
is_on_objects (commands.Objects c) = true
is_on_objects (commands.Operate op) = false
is_on_objects (commands.ShowStatus name any_end) = false

define_text : (noun : Noun) (kind : Kind) (name : List ℕ) (cs : List Clause) (c : ObjectCommand) → IsDefine noun kind name cs (commands.Objects c) → IsKind noun cs kind → AreKnown verbs.Define kind cs → AreWhole cs → IsCommandText c
define_text noun kind name cs c d is known whole = same_command c (objects.Define (record { subject = d.subject; replace = d.replace; settings = d.settings })) d.is (object_texts verbs.Define noun kind name d.subject cs d.settings define_tables d.named is known whole d.gives)

alter_text : (noun : Noun) (kind : Kind) (name : List ℕ) (cs : List Clause) (c : ObjectCommand) → IsAlter noun kind name cs (commands.Objects c) → IsKind noun cs kind → AreKnown verbs.Alter kind cs → AreWhole cs → IsCommandText c
alter_text noun kind name cs c d is known whole = same_command c (objects.Alter (record { subject = d.subject; force = d.force; settings = d.settings })) d.is (object_texts verbs.Alter noun kind name d.subject cs d.settings alter_tables d.named is known whole d.gives)

manager_alter_text : (kind : Kind) (cs : List Clause) (c : ObjectCommand) → IsAlterManager kind cs (commands.Objects c) → kind ≡ kinds.Manager → AreKnown verbs.Alter kind cs → AreWhole cs → IsCommandText c
manager_alter_text kind cs c d e known whole = same_command c (objects.AlterManager (record { force = d.force; settings = d.settings })) d.is
    (settings_text verbs.Alter kinds.Manager cs d.settings refl (subst (λ (k : Kind). AreKnown verbs.Alter k cs) e known) whole (subst (λ (k : Kind). AreGiven k cs d.settings) e d.gives))

means_text : (verb : Verb) (noun : Noun) (kind : Kind) (name : List ℕ) (cs : List Clause) (c : ObjectCommand) → Means verb noun kind name cs (commands.Objects c) → IsKind noun cs kind → AreKnown verb kind cs → AreWhole cs → IsCommandText c
means_text verbs.Define noun kind name cs c m is known whole = define_text noun kind name cs c m is known whole
means_text verbs.Alter nouns.Manager kind name cs c m is known whole = manager_alter_text kind cs c m is known whole
means_text verbs.Alter nouns.Local kind name cs c m is known whole = alter_text nouns.Local kind name cs c m is known whole
means_text verbs.Alter nouns.Alias kind name cs c m is known whole = alter_text nouns.Alias kind name cs c m is known whole
means_text verbs.Alter nouns.Remote kind name cs c m is known whole = alter_text nouns.Remote kind name cs c m is known whole
means_text verbs.Alter nouns.Channel kind name cs c m is known whole = alter_text nouns.Channel kind name cs c m is known whole
means_text verbs.Alter nouns.Process kind name cs c m is known whole = alter_text nouns.Process kind name cs c m is known whole
means_text verbs.Alter nouns.Queue kind name cs c m is known whole = alter_text nouns.Queue kind name cs c m is known whole
means_text verbs.Alter nouns.Status kind name cs c m is known whole = alter_text nouns.Status kind name cs c m is known whole
means_text verbs.Delete noun kind name cs c m is known whole = same_command c (objects.Delete (record { subject = m.subject })) m.is (subject_text noun name m.subject m.named)
means_text verbs.Display nouns.Manager kind name cs c m is known whole = subst IsCommandText (sym (ap (or_command c) m.is)) tt
means_text verbs.Display nouns.Status kind name cs c m is known whole = absurd (cc (ap is_on_objects m.is))
means_text verbs.Display nouns.Local kind name cs c m is known whole = subst IsCommandText (sym (ap (or_command c) m.is)) tt
means_text verbs.Display nouns.Alias kind name cs c m is known whole = subst IsCommandText (sym (ap (or_command c) m.is)) tt
means_text verbs.Display nouns.Remote kind name cs c m is known whole = subst IsCommandText (sym (ap (or_command c) m.is)) tt
means_text verbs.Display nouns.Channel kind name cs c m is known whole = subst IsCommandText (sym (ap (or_command c) m.is)) tt
means_text verbs.Display nouns.Process kind name cs c m is known whole = subst IsCommandText (sym (ap (or_command c) m.is)) tt
means_text verbs.Display nouns.Queue kind name cs c m is known whole = subst IsCommandText (sym (ap (or_command c) m.is)) tt
means_text verbs.Start noun kind name cs c m is known whole = absurd (cc (ap is_on_objects m.2))
means_text verbs.Stop noun kind name cs c m is known whole = absurd (cc (ap is_on_objects m.2))
means_text verbs.Reset noun kind name cs c m is known whole = absurd (cc (ap is_on_objects m.4))
means_text verbs.Resolve noun kind name cs c m is known whole = absurd (cc (ap is_on_objects m.4))

-- a command that a line of a text is
pub read_text : (line : Line) (c : ObjectCommand) → AreWholeTokens line.tokens → parse_of line ≡ Ok (commands.Objects c) → IsCommandText c
read_text line c h e =
    let i : IsCommand (kinds_of line.tokens) (commands.Objects c) = command_found line (commands.Objects c) e in
    let all = subst (λ (ks : List TokenKind). AllByRecursion IsWholeToken ks) i.whole (kinds_whole line.tokens h) in
    means_text i.verb i.noun i.kind i.name i.clauses c i.means i.is_kind i.known (clauses_whole i.clauses i.clause_part i.are_clauses (kinds_right i.name_part i.clause_part all.1.1))
