-- How a command is spelled, as tokens: a verb, an object, the object's name in brackets, and clauses.
use Rattle.std.specs.Prelude.{◌≡◌, ◌⊎◌, ℕ, false, List, [], ◌∷◌, ◌++◌, map, Option, Some, None}
use Rattle.mq_sc_lex.specs.declared.token.Token.{Token}
use Rattle.mq_sc_lex.specs.declared.token.TokenKind.{TokenKind}
use Rattle.mq_sc_lex.specs.declared.token.TokenKind.TheVariants as tokens
use Rattle.mq_sc_keys.specs.declared.keys.Key.{Key}
use Rattle.mq_sc_keys.specs.declared.verbs.Verb.{Verb}
use Rattle.mq_sc_keys.specs.declared.verbs.Noun.{Noun}
use Rattle.mq_sc_keys.specs.declared.verbs.Noun.TheVariants as nouns
use Rattle.mq_sc_keys.specs.Keys.{key_text}
use Rattle.mq_sc_keys.specs.Verbs.{verb_text, verb_short, object_text, object_short}
use Rattle.mq_sc_keys.specs.Values.{are_blanks}

-- the tokens without their places
abbrev pub kinds_of : List Token → List TokenKind
kinds_of ts = map (λ (t : Token). t.kind) ts

-- a verb in full or in its short form
abbrev pub IsVerbWord : Verb → List ℕ → Type 0
IsVerbWord verb word = (word ≡ verb_text verb) ⊎ (word ≡ verb_short verb)

-- an object in full or by its synonym
abbrev pub IsObjectWord : Noun → List ℕ → Type 0
IsObjectWord noun word = (word ≡ object_text noun) ⊎ (word ≡ object_short noun)

-- a value is a word or a text in quotes
abbrev pub IsValue : List ℕ → TokenKind → Type 0
IsValue text (tokens.Word word) = text ≡ word
IsValue text (tokens.Quoted quoted) = text ≡ quoted
IsValue text tokens.Open = ⊥
IsValue text tokens.Close = ⊥

-- one value in brackets
abbrev pub IsBracketed : List ℕ → List TokenKind → Type 0
IsBracketed text kinds = (kind : TokenKind) × IsValue text kind × (kinds ≡ tokens.Open ∷ kind ∷ tokens.Close ∷ [])

-- The manager is not named. Any other object has its name in brackets behind it, and a name is not blank.
abbrev pub IsNamed : Noun → List ℕ → List TokenKind → Type 0
IsNamed nouns.Manager name kinds = (name ≡ []) × (kinds ≡ [])
IsNamed _ name kinds = IsBracketed name kinds × (are_blanks name ≡ false)

-- a keyword, and the value that it is given, if any
pub record Clause : Type 0 where
  pub key : Key
  pub value : Option (List ℕ)

abbrev pub IsValuePart : Option (List ℕ) → List TokenKind → Type 0
IsValuePart None kinds = kinds ≡ []
IsValuePart (Some text) kinds = IsBracketed text kinds

-- a clause is the word of its keyword, with a value in brackets or alone
pub record IsClause (c : Clause) (kinds : List TokenKind) : Type 0 where
  pub behind : List TokenKind
  pub value : IsValuePart c.value behind
  pub is : kinds ≡ tokens.Word (key_text c.key) ∷ behind

-- clauses, one behind the other
abbrev pub AreClauses : List Clause → List TokenKind → Type 0
AreClauses [] kinds = kinds ≡ []
AreClauses (c ∷ cs) kinds = (first : List TokenKind) × (rest : List TokenKind) × (kinds ≡ first ++ rest) × IsClause c first × AreClauses cs rest
