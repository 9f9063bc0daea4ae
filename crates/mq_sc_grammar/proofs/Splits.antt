-- Tokens that spell clauses, and the keywords that a reader splits them into, both ways.
use Rattle.std.proofs.Common.{◌≡◌, ℕ, zero, suc, ◌+◌, ◌≤◌, Bool, true, false, cond, List, [], ◌∷◌, ◌++◌, length, drop, refl, sym, ap, subst, ◌∙◌, arith}
use Rattle.std.specs.Prelude.{Option, Some, None, ◌||◌, not}
use Rattle.std.specs.List.{position_or_len}
use Rattle.std.proofs.lemmas.Bool.{cond-true, cond-false}
use Rattle.std.proofs.lemmas.List.{length-drop}
use Rattle.mq_sc_lex.specs.declared.token.Token.{Token}
use Rattle.mq_sc_lex.specs.declared.token.TokenKind.{TokenKind}
use Rattle.mq_sc_lex.specs.declared.token.TokenKind.TheVariants as tokens
use Rattle.mq_sc_keys.specs.declared.keys.Key.{Key}
use Rattle.mq_sc_keys.specs.declared.verbs.Verb.{Verb}
use Rattle.mq_sc_keys.specs.declared.attributes.Kind.{Kind}
use Rattle.mq_sc_keys.specs.declared.value.Value.{Value}
use Rattle.mq_sc_keys.specs.declared.value.Value.TheVariants as values
use Rattle.mq_sc_keys.specs.Keys.{key_text}
use Rattle.mq_sc_keys.specs.Attributes.{key_of}
use Rattle.mq_sc_parse.specs.declared.splitting.Item.{Item}
use Rattle.mq_sc_parse.specs.Splitting.{is_open_kind, is_close_kind, is_word_kind, is_open, is_close, is_bracket, closing_len, inner_len, word_of_kind, text_value, bracketed, value_at, value_len, item_len, items_from}
use Rattle.mq_sc_grammar.specs.Spelling.{kinds_of, IsValue, IsBracketed, Clause, IsValuePart, AreClauses}
use Rattle.mq_sc_grammar.specs.Commands.{value_of, AreKnown}
use Rattle.mq_sc_grammar.proofs.Words.{key_found, no_word}

-- the keywords with their values are these clauses
abbrev pub Spell : List Clause → List Item → Type 0
Spell [] [] = Unit {0}
Spell [] (i ∷ is) = ⊥
Spell (c ∷ cs) [] = ⊥
Spell (c ∷ cs) (i ∷ is) = (i.word ≡ key_text c.key) × (i.value ≡ value_of c.value) × Spell cs is

-- ---- a value in brackets

value_kind : (text : List ℕ) (kind : TokenKind) → IsValue text kind → (text_value kind ≡ values.Text text) × (is_open_kind kind || is_close_kind kind ≡ false)
value_kind text (tokens.Word w) e = (ap values.Text (sym e), refl)
value_kind text (tokens.Quoted w) e = (ap values.Text (sym e), refl)
value_kind text tokens.Open e = absurd e
value_kind text tokens.Close e = absurd e

-- tokens that begin with a value in brackets, and the rest of them
pub record Valued (text : List ℕ) (ts : List Token) (ks : List TokenKind) : Type 0 where
  pub at : value_at ts ≡ values.Text text
  pub long : value_len ts ≡ 3
  pub rest : kinds_of (drop 3 ts) ≡ ks

three_valued : (text : List ℕ) (o k c : Token) (ts : List Token) → o.kind ≡ tokens.Open → c.kind ≡ tokens.Close → IsValue text k.kind → Valued text (o ∷ k ∷ c ∷ ts) (kinds_of ts)
three_valued text o k c ts opening closing is =
    let v = value_kind text k.kind is in
    let opens : is_open o ≡ true = ap is_open_kind opening in
    let closes : is_close c ≡ true = ap is_close_kind closing in
    let ends : is_bracket c ≡ true = ap (λ (x : TokenKind). is_open_kind x || is_close_kind x) closing in
    let later : position_or_len is_bracket (k ∷ c ∷ ts) ≡ 1 = cond-true (not (is_bracket k)) (1 + position_or_len is_bracket (c ∷ ts)) 0 (ap not v.1) ∙ ap (λ (n : ℕ). 1 + n) (cond-false (not (is_bracket c)) (1 + position_or_len is_bracket ts) 0 (ap not ends)) in
    let inner : inner_len (k ∷ c ∷ ts) ≡ 2 = ap (λ (n : ℕ). n + closing_len (drop n (k ∷ c ∷ ts))) later ∙ ap (λ (n : ℕ). 1 + n) (cond-true (is_close c) 1 0 closes) in
    record {
      at = cond-true (is_open o) (bracketed (k ∷ c ∷ ts)) values.Absent opens ∙ cond-true (is_close c) (text_value k.kind) values.Malformed closes ∙ v.0;
      long = cond-true (is_open o) (1 + inner_len (k ∷ c ∷ ts)) 0 opens ∙ ap (λ (n : ℕ). 1 + n) inner;
      rest = refl;
    }

pub value_read : (text : List ℕ) (ts : List Token) (front ks : List TokenKind) → IsBracketed text front → kinds_of ts ≡ front ++ ks → Valued text ts ks
value_read text [] front ks (kind, is, e) h = absurd (let f : [] ≡ tokens.Open ∷ kind ∷ tokens.Close ∷ ks = h ∙ ap (λ (l : List TokenKind). l ++ ks) e in cc)
value_read text (o ∷ []) front ks (kind, is, e) h = absurd (let f : o.kind ∷ [] ≡ tokens.Open ∷ kind ∷ tokens.Close ∷ ks = h ∙ ap (λ (l : List TokenKind). l ++ ks) e in cc)
value_read text (o ∷ k ∷ []) front ks (kind, is, e) h = absurd (let f : o.kind ∷ k.kind ∷ [] ≡ tokens.Open ∷ kind ∷ tokens.Close ∷ ks = h ∙ ap (λ (l : List TokenKind). l ++ ks) e in cc)
value_read text (o ∷ k ∷ c ∷ ts) front ks (kind, is, e) h =
    let f : o.kind ∷ k.kind ∷ c.kind ∷ kinds_of ts ≡ tokens.Open ∷ kind ∷ tokens.Close ∷ ks = h ∙ ap (λ (l : List TokenKind). l ++ ks) e in
    let same : kind ≡ k.kind = cc in
    let rest : kinds_of ts ≡ ks = cc in
    let opening : o.kind ≡ tokens.Open = cc in
    let closing : c.kind ≡ tokens.Close = cc in
    subst (Valued text (o ∷ k ∷ c ∷ ts)) rest (three_valued text o k c ts opening closing (subst (IsValue text) same is))

pub open_kind : (k : TokenKind) → is_open_kind k ≡ true → k ≡ tokens.Open
open_kind (tokens.Word w) e = absurd cc
open_kind (tokens.Quoted w) e = absurd cc
open_kind tokens.Open e = refl
open_kind tokens.Close e = absurd cc

pub close_kind : (k : TokenKind) → is_close_kind k ≡ true → k ≡ tokens.Close
close_kind (tokens.Word w) e = absurd cc
close_kind (tokens.Quoted w) e = absurd cc
close_kind tokens.Open e = absurd cc
close_kind tokens.Close e = refl

pub word_kind : (k : TokenKind) → is_word_kind k ≡ true → k ≡ tokens.Word (word_of_kind k)
word_kind (tokens.Word w) e = refl
word_kind (tokens.Quoted w) e = absurd cc
word_kind tokens.Open e = absurd cc
word_kind tokens.Close e = absurd cc

-- what is no word has no letters
pub word_kind_of : (k : TokenKind) → (word_of_kind k ≡ [] → ⊥) → k ≡ tokens.Word (word_of_kind k)
word_kind_of (tokens.Word w) never = refl
word_kind_of (tokens.Quoted w) never = absurd (never refl)
word_kind_of tokens.Open never = absurd (never refl)
word_kind_of tokens.Close never = absurd (never refl)

text_kind : (text : List ℕ) (k : TokenKind) → text_value k ≡ values.Text text → IsValue text k
text_kind text (tokens.Word w) e = cc
text_kind text (tokens.Quoted w) e = cc
text_kind text tokens.Open e = absurd cc
text_kind text tokens.Close e = absurd cc

-- a value that is found stands in brackets
pub record Bracketed (text : List ℕ) (ts : List Token) : Type 0 where
  pub front : List TokenKind
  pub is : IsBracketed text front
  pub kinds : kinds_of ts ≡ front ++ kinds_of (drop 3 ts)
  pub long : value_len ts ≡ 3

closed_found : (text : List ℕ) (o k c : Token) (ts : List Token) → is_open o ≡ true → (t : Bool) → is_close c ≡ t → cond t (text_value k.kind) values.Malformed ≡ values.Text text → Bracketed text (o ∷ k ∷ c ∷ ts)
closed_found text o k c ts opens false e h = absurd cc
closed_found text o k c ts opens true e h =
    let is = text_kind text k.kind h in
    let opening = open_kind o.kind opens in
    let closing = close_kind c.kind e in
    record {
      front = tokens.Open ∷ k.kind ∷ tokens.Close ∷ [];
      is = (k.kind, is, refl);
      kinds = ap (λ (x : TokenKind). x ∷ k.kind ∷ c.kind ∷ kinds_of ts) opening ∙ ap (λ (x : TokenKind). tokens.Open ∷ k.kind ∷ x ∷ kinds_of ts) closing;
      long = (three_valued text o k c ts opening closing is).long;
    }

open_found : (text : List ℕ) (o : Token) (ts : List Token) → (t : Bool) → is_open o ≡ t → cond t (bracketed ts) values.Absent ≡ values.Text text → Bracketed text (o ∷ ts)
open_found text o ts false e h = absurd cc
open_found text o [] true e h = absurd cc
open_found text o (k ∷ []) true e h = absurd cc
open_found text o (k ∷ c ∷ ts) true e h = closed_found text o k c ts e (is_close c) refl h

pub value_found : (text : List ℕ) (ts : List Token) → value_at ts ≡ values.Text text → Bracketed text ts
value_found text [] h = absurd cc
value_found text (o ∷ ts) h = open_found text o ts (is_open o) refl h

-- ---- no value

text_never : (k : TokenKind) → text_value k ≡ values.Absent → ⊥
text_never (tokens.Word w) e = absurd cc
text_never (tokens.Quoted w) e = absurd cc
text_never tokens.Open e = absurd cc
text_never tokens.Close e = absurd cc

closed_never : (k : TokenKind) (t : Bool) → cond t (text_value k) values.Malformed ≡ values.Absent → ⊥
closed_never k true e = text_never k e
closed_never k false e = absurd cc

pub bracketed_never : (ts : List Token) → bracketed ts ≡ values.Absent → ⊥
bracketed_never [] e = absurd cc
bracketed_never (k ∷ []) e = absurd cc
bracketed_never (k ∷ c ∷ ts) e = closed_never k.kind (is_close c) e

absent_at : (o : Token) (ts : List Token) (t : Bool) → is_open o ≡ t → cond t (bracketed ts) values.Absent ≡ values.Absent → value_len (o ∷ ts) ≡ 0
absent_at o ts true e h = absurd (bracketed_never ts h)
absent_at o ts false e h = cond-false (is_open o) (1 + inner_len ts) 0 e

pub absent_found : (ts : List Token) → value_at ts ≡ values.Absent → value_len ts ≡ 0
absent_found [] h = refl
absent_found (o ∷ ts) h = absent_at o ts (is_open o) refl h

no_open : (t : Token) (ts : List Token) → is_open t ≡ false → value_at (t ∷ ts) ≡ values.Absent
no_open t ts e = cond-false (is_open t) (bracketed ts) values.Absent e

-- behind a clause stands no value of its own
absent_read : (cs : List Clause) (ts : List Token) → AreClauses cs (kinds_of ts) → value_at ts ≡ values.Absent
absent_read cs [] h = refl
absent_read [] (t ∷ ts) h = absurd cc
absent_read (c ∷ cs) (t ∷ ts) (first, rest, e, is, more) =
    let f : t.kind ∷ kinds_of ts ≡ tokens.Word (key_text c.key) ∷ (is.behind ++ rest) = e ∙ ap (λ (l : List TokenKind). l ++ rest) is.is in
    let word : t.kind ≡ tokens.Word (key_text c.key) = cc in
    no_open t ts (ap is_open_kind word)

-- ---- what is spelled is split

pub three_passed : (ts : List Token) → items_from ts 3 ≡ items_from (drop 3 ts) 0
three_passed [] = refl
three_passed (a ∷ []) = refl
three_passed (a ∷ b ∷ []) = refl
three_passed (a ∷ b ∷ c ∷ ts) = refl

-- what stands behind a keyword: its value, and the clauses that follow
record Behind (value : Option (List ℕ)) (cs : List Clause) (ts : List Token) : Type 0 where
  pub at : value_at ts ≡ value_of value
  pub more : Spell cs (items_from ts (value_len ts))

module _ (cs : List Clause) (spelled : (ts : List Token) → AreClauses cs (kinds_of ts) → Spell cs (items_from ts 0)) where
  behind_read : (value : Option (List ℕ)) (ts : List Token) (behind rest : List TokenKind) → IsValuePart value behind → kinds_of ts ≡ behind ++ rest → AreClauses cs rest → Behind value cs ts
  behind_read None ts behind rest none e are =
      let same : rest ≡ kinds_of ts = sym (e ∙ ap (λ (l : List TokenKind). l ++ rest) none) in
      let here = subst (AreClauses cs) same are in
      let absent = absent_read cs ts here in
      record { at = absent; more = subst (λ (n : ℕ). Spell cs (items_from ts n)) (sym (absent_found ts absent)) (spelled ts here) }
  behind_read (Some text) ts behind rest is e are =
      let v = value_read text ts behind rest is e in
      let here = subst (AreClauses cs) (sym v.rest) are in
      record { at = v.at; more = subst (λ (n : ℕ). Spell cs (items_from ts n)) (sym v.long) (subst (Spell cs) (sym (three_passed ts)) (spelled (drop 3 ts) here)) }

  word_spelled : (c : Clause) (t : Token) (ts : List Token) → t.kind ≡ tokens.Word (key_text c.key) → Behind c.value cs ts → Spell (c ∷ cs) (items_from (t ∷ ts) 0)
  word_spelled c t ts word b =
      let is : is_word_kind t.kind ≡ true = ap is_word_kind word in (
        ap word_of_kind word,
        cond-true (is_word_kind t.kind) (value_at ts) values.Absent is ∙ b.at,
        subst (λ (n : ℕ). Spell cs (items_from ts n)) (sym (cond-true (is_word_kind t.kind) (value_len ts) 0 is)) b.more,
      )

pub items_read : (cs : List Clause) (ts : List Token) → AreClauses cs (kinds_of ts) → Spell cs (items_from ts 0)
items_read [] [] h = tt
items_read [] (t ∷ ts) h = absurd cc
items_read (c ∷ cs) [] (first, rest, e, is, more) = absurd (let f : [] ≡ tokens.Word (key_text c.key) ∷ (is.behind ++ rest) = e ∙ ap (λ (l : List TokenKind). l ++ rest) is.is in cc)
items_read (c ∷ cs) (t ∷ ts) (first, rest, e, is, more) =
    let f : t.kind ∷ kinds_of ts ≡ tokens.Word (key_text c.key) ∷ (is.behind ++ rest) = e ∙ ap (λ (l : List TokenKind). l ++ rest) is.is in
    let word : t.kind ≡ tokens.Word (key_text c.key) = cc in
    let behind : kinds_of ts ≡ is.behind ++ rest = cc in
    word_spelled cs (λ us h. items_read cs us h) c t ts word (behind_read cs (λ us h. items_read cs us h) c.value ts is.behind rest is.value behind more)

-- ---- what is split was spelled

-- a keyword that the command has, with a value or none
abbrev pub IsWhole : Verb → Kind → Item → Type 0
IsWhole verb kind i = (key : Key) × (key_of verb kind i.word ≡ Some key) × (i.value ≡ values.Malformed → ⊥)

abbrev pub AreWhole : Verb → Kind → List Item → Type 0
AreWhole verb kind [] = Unit {0}
AreWhole verb kind (i ∷ is) = IsWhole verb kind i × AreWhole verb kind is

pub record Clauses (verb : Verb) (kind : Kind) (ks : List TokenKind) (items : List Item) : Type 0 where
  pub clauses : List Clause
  pub spell : Spell clauses items
  pub are : AreClauses clauses ks
  pub known : AreKnown verb kind clauses

module _ (verb : Verb) (kind : Kind) where
  is_word : (t : Token) (key : Key) → key_of verb kind (word_of_kind t.kind) ≡ Some key → is_word_kind t.kind ≡ true
  is_word t key h = by t.kind h
    where
      by : (k : TokenKind) → key_of verb kind (word_of_kind k) ≡ Some key → is_word_kind k ≡ true
      by (tokens.Word w) e = refl
      by (tokens.Quoted w) e = absurd (let f : None ≡ Some key = sym (no_word verb kind) ∙ e in cc)
      by tokens.Open e = absurd (let f : None ≡ Some key = sym (no_word verb kind) ∙ e in cc)
      by tokens.Close e = absurd (let f : None ≡ Some key = sym (no_word verb kind) ∙ e in cc)

  module _ (t : Token) (ts : List Token) (key : Key) (has : key_of verb kind (word_of_kind t.kind) ≡ Some key) where
    spelled_so : t.kind ≡ tokens.Word (key_text key)
    spelled_so = word_kind t.kind (is_word t key has) ∙ ap tokens.Word (key_found verb kind key (word_of_kind t.kind) has).1

    with_value : (value : Option (List ℕ)) (behind : List TokenKind) (rest : List Token) (items : List Item) (shown : Value) → IsValuePart value behind → kinds_of ts ≡ behind ++ kinds_of rest → shown ≡ value_of value
        → Clauses verb kind (kinds_of rest) items → Clauses verb kind (kinds_of (t ∷ ts)) (record { word = word_of_kind t.kind; span = t.span; value = shown } ∷ items)
    with_value value behind rest items shown part e is c =
        let p = key_found verb kind key (word_of_kind t.kind) has in
        record {
          clauses = record { key = key; value = value } ∷ c.clauses;
          spell = (p.1, is, c.spell);
          are = (tokens.Word (key_text key) ∷ behind, kinds_of rest, ap (λ (k : TokenKind). k ∷ kinds_of ts) spelled_so ∙ ap (λ (l : List TokenKind). tokens.Word (key_text key) ∷ l) e, record { behind = behind; value = part; is = refl }, c.are);
          known = (p.0, c.known);
        }

  by_value : (t : Token) (ts : List Token) (key : Key) → key_of verb kind (word_of_kind t.kind) ≡ Some key → (v : Value) → value_at ts ≡ v → (v ≡ values.Malformed → ⊥) → AreWhole verb kind (items_from ts (value_len ts))
      → ((n : ℕ) → AreWhole verb kind (items_from (drop n ts) 0) → Clauses verb kind (kinds_of (drop n ts)) (items_from (drop n ts) 0))
      → Clauses verb kind (kinds_of (t ∷ ts)) (record { word = word_of_kind t.kind; span = t.span; value = v } ∷ items_from ts (value_len ts))
  by_value t ts key has values.Malformed e whole are more = absurd (whole refl)
  by_value t ts key has values.Absent e whole are more =
      let n = absent_found ts e in
      let c = more 0 (subst (λ (k : ℕ). AreWhole verb kind (items_from ts k)) n are) in
      subst (λ (k : ℕ). Clauses verb kind (kinds_of (t ∷ ts)) (record { word = word_of_kind t.kind; span = t.span; value = values.Absent } ∷ items_from ts k)) (sym n)
      (with_value t ts key has None [] ts (items_from ts 0) values.Absent refl refl refl c)
  by_value t ts key has (values.Text text) e whole are more =
      let b = value_found text ts e in
      let there : items_from ts (value_len ts) ≡ items_from (drop 3 ts) 0 = ap (items_from ts) b.long ∙ three_passed ts in
      let c = more 3 (subst (AreWhole verb kind) there are) in
      subst (λ (l : List Item). Clauses verb kind (kinds_of (t ∷ ts)) (record { word = word_of_kind t.kind; span = t.span; value = values.Text text } ∷ l)) (sym there)
      (with_value t ts key has (Some text) b.front (drop 3 ts) (items_from (drop 3 ts) 0) (values.Text text) b.is b.kinds refl c)

  word_split : (t : Token) (ts : List Token) → is_word_kind t.kind ≡ true → items_from (t ∷ ts) 0 ≡ record { word = word_of_kind t.kind; span = t.span; value = value_at ts } ∷ items_from ts (value_len ts)
  word_split t ts w =
      ap (λ (v : Value). record { word = word_of_kind t.kind; span = t.span; value = v } ∷ items_from ts (item_len t ts)) (cond-true (is_word_kind t.kind) (value_at ts) values.Absent w)
      ∙ ap (λ (n : ℕ). record { word = word_of_kind t.kind; span = t.span; value = value_at ts } ∷ items_from ts n) (cond-true (is_word_kind t.kind) (value_len ts) 0 w)

  pub items_found : (n : ℕ) (ts : List Token) → length ts ≤ n → AreWhole verb kind (items_from ts 0) → Clauses verb kind (kinds_of ts) (items_from ts 0)
  items_found n [] le h = record { clauses = []; spell = tt; are = refl; known = tt }
  items_found zero (t ∷ ts) le h = absurd (omega arith)
  items_found (suc n) (t ∷ ts) le h =
      let key : Key = h.0.0 in
      let w = is_word t key h.0.1 in
      let s = word_split t ts w in
      let g = subst (AreWhole verb kind) s h in
      subst (Clauses verb kind (kinds_of (t ∷ ts))) (sym s)
      (by_value t ts key h.0.1 (value_at ts) refl g.0.2 g.1 (λ k are. items_found n (drop k ts) (omega (arith, length-drop k ts)) are))
