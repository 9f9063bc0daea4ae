-- The keywords of a command with their values.
use Rattle.std.specs.Prelude.{ℕ, zero, suc, ◌+◌, ◌||◌, Bool, true, false, List, [], ◌∷◌, drop, if◌then◌else◌}
use Rattle.std.specs.List.{position_or_len}
use Rattle.mq_sc_lex.specs.declared.token.Token.{Token}
use Rattle.mq_sc_lex.specs.declared.token.TokenKind.{TokenKind}
use Rattle.mq_sc_lex.specs.declared.token.TokenKind.TheVariants as tokens
use Rattle.mq_sc_keys.specs.declared.value.Value.{Value}
use Rattle.mq_sc_keys.specs.declared.value.Value.TheVariants as values
use Rattle.mq_sc_parse.specs.declared.splitting.Item.{Item}

abbrev pub is_open_kind : TokenKind → Bool
is_open_kind (tokens.Word w) = false
is_open_kind (tokens.Quoted w) = false
is_open_kind tokens.Open = true
is_open_kind tokens.Close = false

abbrev pub is_close_kind : TokenKind → Bool
is_close_kind (tokens.Word w) = false
is_close_kind (tokens.Quoted w) = false
is_close_kind tokens.Open = false
is_close_kind tokens.Close = true

abbrev pub is_open : Token → Bool
is_open t = is_open_kind t.kind

abbrev pub is_close : Token → Bool
is_close t = is_close_kind t.kind

abbrev pub is_word_kind : TokenKind → Bool
is_word_kind (tokens.Word w) = true
is_word_kind (tokens.Quoted w) = false
is_word_kind tokens.Open = false
is_word_kind tokens.Close = false

-- a word as it is folded; what is no word is no keyword
abbrev pub word_of_kind : TokenKind → List ℕ
word_of_kind (tokens.Word w) = w
word_of_kind (tokens.Quoted w) = []
word_of_kind tokens.Open = []
word_of_kind tokens.Close = []

-- a value is a word or a quoted text
abbrev pub text_value : TokenKind → Value
text_value (tokens.Word w) = values.Text w
text_value (tokens.Quoted w) = values.Text w
text_value tokens.Open = values.Malformed
text_value tokens.Close = values.Malformed

-- one value and a closing bracket
abbrev pub bracketed : List Token → Value
bracketed [] = values.Malformed
bracketed (t ∷ []) = values.Malformed
bracketed (t ∷ u ∷ ts) = if is_close u then text_value t.kind else values.Malformed

-- the value behind a keyword
abbrev pub value_at : List Token → Value
value_at [] = values.Absent
value_at (t ∷ ts) = if is_open t then bracketed ts else values.Absent

abbrev pub is_bracket : Token → Bool
is_bracket t = is_open t || is_close t

-- a bracket that closes belongs to the value in front of it, and one that opens doesn't
abbrev pub closing_len : List Token → ℕ
closing_len [] = 0
closing_len (t ∷ ts) = if is_close t then 1 else 0

-- how many tokens stand in a bracket: those up to the first bracket of either kind
abbrev pub inner_len : List Token → ℕ
inner_len ts = position_or_len is_bracket ts + closing_len (drop (position_or_len is_bracket ts) ts)

-- how many tokens the value behind a keyword takes
abbrev pub value_len : List Token → ℕ
value_len [] = 0
value_len (t ∷ ts) = if is_open t then 1 + inner_len ts else 0

-- a keyword with what stands behind it; a token that is no word has no value
abbrev pub item_at : Token → List Token → Item
item_at t ts = record { word = word_of_kind t.kind; span = t.span; value = if is_word_kind t.kind then value_at ts else values.Absent }

abbrev pub item_len : Token → List Token → ℕ
item_len t ts = if is_word_kind t.kind then value_len ts else 0

-- the keywords of some tokens, of which the first few belong to the one before
abbrev pub items_from : List Token → ℕ → List Item
items_from [] inside = []
items_from (t ∷ ts) zero = item_at t ts ∷ items_from ts (item_len t ts)
items_from (t ∷ ts) (suc inside) = items_from ts inside

unfoldable pub items_of : List Token → List Item
items_of ts = items_from ts 0
