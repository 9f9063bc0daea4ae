-- An entry as words with values in brackets.
use Rattle.std.specs.Prelude.{ℕ, Bool, true, false, not, ◌&&◌, List, [], ◌∷◌, if◌then◌else◌, Option, Some, None, Result, Ok, Err}
use Rattle.std.specs.List.{list_any}
use Rattle.mq_sc_lex.specs.declared.token.Token.{Token}
use Rattle.mq_sc_lex.specs.declared.token.TokenKind.{TokenKind}
use Rattle.mq_sc_lex.specs.declared.token.TokenKind.TheVariants as kinds
use Rattle.mq_rules_text.specs.declared.fault.Flaw.{Flaw}
use Rattle.mq_rules_text.specs.declared.fault.Flaw.TheVariants.{Form}
use Rattle.mq_rules_text.specs.declared.keyword.Keyword.{Keyword}
use Rattle.mq_rules_text.specs.declared.pairs.Pair.{Pair}
use Rattle.mq_rules_text.specs.Keywords.{keyword_of, is_control, same_keyword}

-- a word without quotes
abbrev pub word_in : TokenKind → Option (List ℕ)
word_in (kinds.Word text) = Some text
word_in (kinds.Quoted text) = None
word_in kinds.Open = None
word_in kinds.Close = None

-- a word, or what stands in quotes
abbrev pub value_in : TokenKind → Option (List ℕ)
value_in (kinds.Word text) = Some text
value_in (kinds.Quoted text) = Some text
value_in kinds.Open = None
value_in kinds.Close = None

abbrev pub is_open : TokenKind → Bool
is_open (kinds.Word text) = false
is_open (kinds.Quoted text) = false
is_open kinds.Open = true
is_open kinds.Close = false

abbrev pub is_close : TokenKind → Bool
is_close (kinds.Word text) = false
is_close (kinds.Quoted text) = false
is_close kinds.Open = false
is_close kinds.Close = true

abbrev pub with_parts : Option (List ℕ) → Option (List ℕ) → Result Pair Flaw
with_parts None value = Err Form
with_parts (Some word) None = Err Form
with_parts (Some word) (Some value) = Ok (record { keyword = keyword_of word; value = value })

-- WORD(value)
abbrev pub pair_of : Token → Token → Token → Token → Result Pair Flaw
pair_of word opening value closing = if is_open opening.kind && is_close closing.kind then with_parts (word_in word.kind) (value_in value.kind) else Err Form

abbrev pub pair_before : Pair → Result (List Pair) Flaw → Result (List Pair) Flaw
pair_before p (Ok ps) = Ok (p ∷ ps)
pair_before p (Err flaw) = Err flaw

abbrev pub put_pair : Result Pair Flaw → Result (List Pair) Flaw → Result (List Pair) Flaw
put_pair (Ok p) rest = pair_before p rest
put_pair (Err flaw) rest = Err flaw

-- the pairs of an entry, which has nothing else
abbrev pub pairs_of : List Token → Result (List Pair) Flaw
pairs_of [] = Ok []
pairs_of (a ∷ []) = Err Form
pairs_of (a ∷ b ∷ []) = Err Form
pairs_of (a ∷ b ∷ c ∷ []) = Err Form
pairs_of (a ∷ b ∷ c ∷ d ∷ tokens) = put_pair (pair_of a b c d) (pairs_of tokens)

abbrev pub control_word : Option Keyword → Bool
control_word None = false
control_word (Some keyword) = is_control keyword

-- a pair of the control entry
abbrev pub controls : Pair → Bool
controls p = control_word p.keyword

abbrev pub allowed_word : Bool → Option Keyword → Bool
allowed_word control None = false
allowed_word true (Some keyword) = is_control keyword
allowed_word false (Some keyword) = not (is_control keyword)

-- a pair that may stand in the control entry, or in another one
abbrev pub allowed : Bool → Pair → Bool
allowed control p = allowed_word control p.keyword

abbrev pub same_words : Option Keyword → Option Keyword → Bool
same_words None other = false
same_words (Some one) None = false
same_words (Some one) (Some other) = same_keyword one other

abbrev pub same_word : Pair → Pair → Bool
same_word one other = same_words one.keyword other.keyword

-- no keyword is given twice
abbrev pub distinct : List Pair → Bool
distinct [] = true
distinct (p ∷ ps) = not (list_any (same_word p) ps) && distinct ps
