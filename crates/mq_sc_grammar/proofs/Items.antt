-- The keywords of any tokens, and what a reader splits them into, both ways.
use Rattle.std.proofs.Common.{◌≡◌, ℕ, zero, suc, ◌+◌, ◌≤◌, Bool, true, false, cond, List, [], ◌∷◌, ◌++◌, length, take, drop, refl, sym, ap, subst, ◌∙◌, arith}
use Rattle.std.specs.Prelude.{◌||◌, not}
use Rattle.std.specs.List.{position_or_len}
use Rattle.std.proofs.lemmas.Bool.{cond-true, cond-false}
use Rattle.std.proofs.lemmas.List.{take-append-drop, length-append}
use Rattle.mq_sc_lex.specs.declared.token.Span.{Span}
use Rattle.mq_sc_lex.specs.declared.token.Token.{Token}
use Rattle.mq_sc_lex.specs.declared.token.TokenKind.{TokenKind}
use Rattle.mq_sc_lex.specs.declared.token.TokenKind.TheVariants as tokens
use Rattle.mq_sc_keys.specs.declared.value.Value.{Value}
use Rattle.mq_sc_keys.specs.declared.value.Value.TheVariants as values
use Rattle.mq_sc_parse.specs.declared.splitting.Item.{Item}
use Rattle.mq_sc_parse.specs.Splitting.{is_open_kind, is_close_kind, is_word_kind, is_open, is_close, is_bracket, closing_len, inner_len, word_of_kind, text_value, bracketed, value_at, value_len, item_at, item_len, items_from}
use Rattle.mq_sc_grammar.specs.Spelling.{kinds_of, IsValue, IsBracketed}
use Rattle.mq_sc_grammar.specs.Faults.{NoBrackets, BeginsUnopened, IsClosing, IsBracket, IsValueBehind, IsItem, AreItems}
use Rattle.mq_sc_grammar.proofs.Splits.{open_kind, value_read, value_found, absent_found, bracketed_never, three_passed}

-- ---- tokens that are passed

pub front_passed : (front rest : List Token) → items_from (front ++ rest) (length front) ≡ items_from rest 0
front_passed [] rest = refl
front_passed (t ∷ ts) rest = front_passed ts rest

-- ---- what is in a bracket

not_open : (k : TokenKind) → (k ≡ tokens.Open → ⊥) → is_open_kind k ≡ false
not_open (tokens.Word w) never = refl
not_open (tokens.Quoted w) never = refl
not_open tokens.Open never = absurd (never refl)
not_open tokens.Close never = refl

not_close : (k : TokenKind) → (k ≡ tokens.Close → ⊥) → is_close_kind k ≡ false
not_close (tokens.Word w) never = refl
not_close (tokens.Quoted w) never = refl
not_close tokens.Open never = refl
not_close tokens.Close never = absurd (never refl)

no_bracket : (k : TokenKind) → (k ≡ tokens.Open → ⊥) → (k ≡ tokens.Close → ⊥) → is_open_kind k || is_close_kind k ≡ false
no_bracket (tokens.Word w) p q = refl
no_bracket (tokens.Quoted w) p q = refl
no_bracket tokens.Open p q = absurd (p refl)
no_bracket tokens.Close p q = absurd (q refl)

first_bracket : (t : Token) (ts : List Token) → is_bracket t ≡ true → position_or_len is_bracket (t ∷ ts) ≡ 0
first_bracket t ts is = cond-false (not (is_bracket t)) (1 + position_or_len is_bracket ts) 0 (ap not is)

-- the first bracket stands behind those that are none
bracket_at : (inside closing rest : List Token) → NoBrackets inside → IsClosing closing rest → position_or_len is_bracket ((inside ++ closing) ++ rest) ≡ length inside
bracket_at [] [] [] within closes = refl
bracket_at [] [] (t ∷ ts) within closes = first_bracket t ts (ap (λ (k : TokenKind). is_open_kind k || is_close_kind k) closes)
bracket_at [] (c ∷ cs) rest within closes = first_bracket c (cs ++ rest) (ap (λ (k : TokenKind). is_open_kind k || is_close_kind k) closes.0)
bracket_at (t ∷ ts) closing rest within closes =
    let isnt : is_bracket t ≡ false = no_bracket t.kind within.0 within.1 in
    let more = bracket_at ts closing rest within.2 closes in
    cond-true (not (is_bracket t)) (1 + position_or_len is_bracket ((ts ++ closing) ++ rest)) 0 (ap not isnt) ∙ omega (arith, more)

behind_inside : (inside closing rest : List Token) → drop (length inside) ((inside ++ closing) ++ rest) ≡ closing ++ rest
behind_inside [] closing rest = refl
behind_inside (t ∷ ts) closing rest = behind_inside ts closing rest

closing_taken : (closing rest : List Token) → IsClosing closing rest → closing_len (closing ++ rest) ≡ length closing
closing_taken [] [] closes = refl
closing_taken [] (t ∷ ts) closes = cond-false (is_close t) 1 0 (ap is_close_kind closes)
closing_taken (c ∷ cs) rest closes = cond-true (is_close c) 1 0 (ap is_close_kind closes.0) ∙ sym (ap (λ (l : List Token). length (c ∷ l)) closes.1)

-- what a bracket takes: what stands in it, and the one that closes
inner_taken : (inside closing rest : List Token) → NoBrackets inside → IsClosing closing rest → inner_len ((inside ++ closing) ++ rest) ≡ length (inside ++ closing)
inner_taken inside closing rest within closes =
    let ts : List Token = (inside ++ closing) ++ rest in
    ap (λ (n : ℕ). n + closing_len (drop n ts)) (bracket_at inside closing rest within closes)
    ∙ ap (λ (l : List Token). length inside + closing_len l) (behind_inside inside closing rest)
    ∙ ap (λ (n : ℕ). length inside + n) (closing_taken closing rest closes) ∙ sym (length-append inside closing)

no_text : (o k c : Token) → o.kind ≡ tokens.Open → c.kind ≡ tokens.Close → ((text : List ℕ) → IsBracketed text (kinds_of (o ∷ k ∷ c ∷ [])) → ⊥) → text_value k.kind ≡ values.Malformed
no_text o k c opening closing never = by k.kind (λ text is. never text (k.kind, is, ap (λ (x : TokenKind). x ∷ k.kind ∷ c.kind ∷ []) opening ∙ ap (λ (x : TokenKind). tokens.Open ∷ k.kind ∷ x ∷ []) closing))
  where
    by : (kind : TokenKind) → ((text : List ℕ) → IsValue text kind → ⊥) → text_value kind ≡ values.Malformed
    by (tokens.Word w) nothing = absurd (nothing w refl)
    by (tokens.Quoted w) nothing = absurd (nothing w refl)
    by tokens.Open nothing = refl
    by tokens.Close nothing = refl

-- what is in a bracket that is no value
malformed_in : (opening : Token) (inside closing rest : List Token) → opening.kind ≡ tokens.Open → NoBrackets inside → IsClosing closing rest → ((text : List ℕ) → IsBracketed text (kinds_of (opening ∷ (inside ++ closing))) → ⊥)
    → bracketed ((inside ++ closing) ++ rest) ≡ values.Malformed
malformed_in o [] [] [] opens within closes never = refl
malformed_in o [] [] (r ∷ []) opens within closes never = refl
malformed_in o [] [] (r ∷ s ∷ rs) opens within closes never = by (is_close s)
  where
    by : (b : Bool) → cond b (text_value r.kind) values.Malformed ≡ values.Malformed
    by true = ap text_value closes
    by false = refl
malformed_in o [] (c ∷ cs) [] opens within closes never = ap (λ (l : List Token). bracketed (c ∷ (l ++ []))) closes.1
malformed_in o [] (c ∷ cs) (r ∷ rs) opens within closes never =
    ap (λ (l : List Token). bracketed (c ∷ (l ++ r ∷ rs))) closes.1 ∙ by (is_close r)
  where
    by : (b : Bool) → cond b (text_value c.kind) values.Malformed ≡ values.Malformed
    by true = ap text_value closes.0
    by false = refl
malformed_in o (k ∷ []) [] [] opens within closes never = refl
malformed_in o (k ∷ []) [] (r ∷ rs) opens within closes never = cond-false (is_close r) (text_value k.kind) values.Malformed (ap is_close_kind closes)
malformed_in o (k ∷ []) (c ∷ cs) rest opens within closes never =
    let is : is_close c ≡ true = ap is_close_kind closes.0 in
    let lone : (text : List ℕ) → IsBracketed text (kinds_of (o ∷ k ∷ c ∷ [])) → ⊥ = λ text h. never text (subst (λ (l : List Token). IsBracketed text (kinds_of (o ∷ k ∷ c ∷ l))) (sym closes.1) h) in
    cond-true (is_close c) (text_value k.kind) values.Malformed is ∙ no_text o k c opens closes.0 lone
malformed_in o (k ∷ m ∷ ins) closing rest opens within closes never = cond-false (is_close m) (text_value k.kind) values.Malformed (not_close m.kind within.2.1)

-- ---- what is said is split

pub record Read (v : Value) (ts rest : List Token) : Type 0 where
  pub at : value_at ts ≡ v
  pub passes : items_from ts (value_len ts) ≡ items_from rest 0

unopened : (rest : List Token) → BeginsUnopened rest → Read values.Absent rest rest
unopened [] h = record { at = refl; passes = refl }
unopened (t ∷ ts) h =
    let isnt : is_open t ≡ false = not_open t.kind h in
    let at : value_at (t ∷ ts) ≡ values.Absent = cond-false (is_open t) (bracketed ts) values.Absent isnt in
    record { at = at; passes = ap (items_from (t ∷ ts)) (absent_found (t ∷ ts) at) }

pub three_tokens : (behind rest : List Token) (a b c : TokenKind) → kinds_of behind ≡ a ∷ b ∷ c ∷ [] → drop 3 (behind ++ rest) ≡ rest
three_tokens [] rest a b c e = absurd cc
three_tokens (x ∷ []) rest a b c e = absurd cc
three_tokens (x ∷ y ∷ []) rest a b c e = absurd cc
three_tokens (x ∷ y ∷ z ∷ []) rest a b c e = refl
three_tokens (x ∷ y ∷ z ∷ w ∷ ts) rest a b c e = absurd cc

pub kinds_both : (xs ys : List Token) → kinds_of (xs ++ ys) ≡ kinds_of xs ++ kinds_of ys
kinds_both [] ys = refl
kinds_both (x ∷ xs) ys = ap (λ (l : List TokenKind). x.kind ∷ l) (kinds_both xs ys)

pub behind_read : (v : Value) (behind rest : List Token) → IsValueBehind v behind rest → Read v (behind ++ rest) rest
behind_read values.Absent behind rest h = subst (λ (l : List Token). Read values.Absent (l ++ rest) rest) (sym h.0) (unopened rest h.1)
behind_read (values.Text text) behind rest h =
    let v = value_read text (behind ++ rest) (kinds_of behind) (kinds_of rest) h (kinds_both behind rest) in
    record { at = v.at; passes = ap (items_from (behind ++ rest)) v.long ∙ three_passed (behind ++ rest) ∙ ap (λ (l : List Token). items_from l 0) (three_tokens behind rest tokens.Open h.0 tokens.Close h.2) }
behind_read values.Malformed behind rest (b, never) =
    let lone : (text : List ℕ) → IsBracketed text (kinds_of (b.opening ∷ (b.inside ++ b.closing))) → ⊥ = λ text h. never text (subst (λ (l : List Token). IsBracketed text (kinds_of l)) (sym b.is) h) in
    let is : is_open b.opening ≡ true = ap is_open_kind b.opens in
    let ts : List Token = (b.inside ++ b.closing) ++ rest in
    let at : value_at (b.opening ∷ ts) ≡ values.Malformed = cond-true (is_open b.opening) (bracketed ts) values.Absent is ∙ malformed_in b.opening b.inside b.closing rest b.opens b.within b.closes lone in
    let long : value_len (b.opening ∷ ts) ≡ 1 + length (b.inside ++ b.closing) = cond-true (is_open b.opening) (1 + inner_len ts) 0 is ∙ ap (λ (n : ℕ). 1 + n) (inner_taken b.inside b.closing rest b.within b.closes) in
    let all : 1 + length (b.inside ++ b.closing) ≡ length (b.opening ∷ (b.inside ++ b.closing)) = omega arith in
    subst (λ (l : List Token). Read values.Malformed (l ++ rest) rest) (sym b.is)
    (record { at = at; passes = ap (items_from (b.opening ∷ ts)) (long ∙ all) ∙ front_passed (b.opening ∷ (b.inside ++ b.closing)) rest })

same_item : (a b : Item) → a.word ≡ b.word → a.span ≡ b.span → a.value ≡ b.value → a ≡ b
same_item a b p q r =
    ap (λ (x : List ℕ). record { word = x; span = a.span; value = a.value }) p ∙ ap (λ (x : Span). record { word = b.word; span = x; value = a.value }) q
    ∙ ap (λ (x : Value). record { word = b.word; span = b.span; value = x }) r

-- a token that is no word
sign_read : (t : Token) (i : Item) (behind rest : List Token) → is_word_kind t.kind ≡ false → word_of_kind t.kind ≡ [] → i.span ≡ t.span → (i.word ≡ []) × (i.value ≡ values.Absent) × (behind ≡ []) → items_from (t ∷ (behind ++ rest)) 0 ≡ i ∷ items_from rest 0
sign_read t i behind rest isnt none s h =
    let value : cond (is_word_kind t.kind) (value_at rest) values.Absent ≡ i.value = cond-false (is_word_kind t.kind) (value_at rest) values.Absent isnt ∙ sym h.1 in
    let item : item_at t rest ≡ i = same_item (item_at t rest) i (none ∙ sym h.0) (sym s) value in
    ap (λ (l : List Token). items_from (t ∷ (l ++ rest)) 0) h.2 ∙ ap (λ (x : Item). x ∷ items_from rest (item_len t rest)) item ∙ ap (λ (n : ℕ). i ∷ items_from rest n) (cond-false (is_word_kind t.kind) (value_len rest) 0 isnt)

item_read : (k : TokenKind) (t : Token) (i : Item) (behind rest : List Token) → t.kind ≡ k → i.span ≡ t.span → IsItem k i behind rest → items_from (t ∷ (behind ++ rest)) 0 ≡ i ∷ items_from rest 0
item_read (tokens.Word w) t i behind rest e s h =
    let r = behind_read i.value behind rest h.1 in
    let is : is_word_kind t.kind ≡ true = ap is_word_kind e in
    let word : word_of_kind t.kind ≡ i.word = ap word_of_kind e ∙ sym h.0 in
    let value : cond (is_word_kind t.kind) (value_at (behind ++ rest)) values.Absent ≡ i.value = cond-true (is_word_kind t.kind) (value_at (behind ++ rest)) values.Absent is ∙ r.at in
    let item : item_at t (behind ++ rest) ≡ i = same_item (item_at t (behind ++ rest)) i word (sym s) value in
    let long : item_len t (behind ++ rest) ≡ value_len (behind ++ rest) = cond-true (is_word_kind t.kind) (value_len (behind ++ rest)) 0 is in
    ap (λ (x : Item). x ∷ items_from (behind ++ rest) (item_len t (behind ++ rest))) item ∙ ap (λ (n : ℕ). i ∷ items_from (behind ++ rest) n) long ∙ ap (λ (l : List Item). i ∷ l) r.passes
item_read (tokens.Quoted w) t i behind rest e s h = sign_read t i behind rest (ap is_word_kind e) (ap word_of_kind e) s h
item_read tokens.Open t i behind rest e s h = sign_read t i behind rest (ap is_word_kind e) (ap word_of_kind e) s h
item_read tokens.Close t i behind rest e s h = sign_read t i behind rest (ap is_word_kind e) (ap word_of_kind e) s h

pub are_read : (is : List Item) (ts : List Token) → AreItems is ts → items_from ts 0 ≡ is
are_read [] ts h = ap (λ (l : List Token). items_from l 0) h
are_read (i ∷ is) ts (t, behind, rest, e, s, item, more) = ap (λ (l : List Token). items_from l 0) e ∙ item_read t.kind t i behind rest refl s item ∙ ap (λ (l : List Item). i ∷ l) (are_read is rest more)

-- ---- what is split is so

record Split (ts : List Token) : Type 0 where
  pub behind : List Token
  pub rest : List Token
  pub whole : ts ≡ behind ++ rest
  pub value : IsValueBehind (value_at ts) behind rest

take_three : (ts : List Token) (kind : TokenKind) → kinds_of ts ≡ tokens.Open ∷ kind ∷ tokens.Close ∷ kinds_of (drop 3 ts) → kinds_of (take 3 ts) ≡ tokens.Open ∷ kind ∷ tokens.Close ∷ []
take_three [] kind e = absurd cc
take_three (a ∷ []) kind e = absurd cc
take_three (a ∷ b ∷ []) kind e = absurd cc
take_three (a ∷ b ∷ c ∷ ts) kind e =
    let p : a.kind ≡ tokens.Open = cc in
    let q : b.kind ≡ kind = cc in
    let r : c.kind ≡ tokens.Close = cc in
    cc

pub text_split : (text : List ℕ) (ts : List Token) → value_at ts ≡ values.Text text → IsBracketed text (kinds_of (take 3 ts))
text_split text ts e =
    let b = value_found text ts e in
    let whole : kinds_of ts ≡ tokens.Open ∷ b.is.0 ∷ tokens.Close ∷ kinds_of (drop 3 ts) = b.kinds ∙ ap (λ (l : List TokenKind). l ++ kinds_of (drop 3 ts)) b.is.2 in
    (b.is.0, b.is.1, take_three ts b.is.0 whole)

-- up to the first bracket of either kind
record UpTo (ts : List Token) : Type 0 where
  pub inside : List Token
  pub closing : List Token
  pub rest : List Token
  pub whole : ts ≡ (inside ++ closing) ++ rest
  pub within : NoBrackets inside
  pub closes : IsClosing closing rest

up_past : (t : Token) (ts : List Token) → UpTo ts → (t.kind ≡ tokens.Open → ⊥) → (t.kind ≡ tokens.Close → ⊥) → UpTo (t ∷ ts)
up_past t ts u p q =
    record {
      inside = t ∷ u.inside;
      closing = u.closing;
      rest = u.rest;
      whole = ap (λ (l : List Token). t ∷ l) u.whole;
      within = (p, q, u.within);
      closes = u.closes;
    }

up_step : (t : Token) (ts : List Token) → UpTo ts → (k : TokenKind) → t.kind ≡ k → UpTo (t ∷ ts)
up_step t ts u (tokens.Word w) e = up_past t ts u (λ k. absurd (let f : tokens.Word w ≡ tokens.Open = sym e ∙ k in cc)) (λ k. absurd (let f : tokens.Word w ≡ tokens.Close = sym e ∙ k in cc))
up_step t ts u (tokens.Quoted w) e = up_past t ts u (λ k. absurd (let f : tokens.Quoted w ≡ tokens.Open = sym e ∙ k in cc)) (λ k. absurd (let f : tokens.Quoted w ≡ tokens.Close = sym e ∙ k in cc))
up_step t ts u tokens.Open e = record { inside = []; closing = []; rest = t ∷ ts; whole = refl; within = tt; closes = e }
up_step t ts u tokens.Close e = record { inside = []; closing = t ∷ []; rest = ts; whole = refl; within = tt; closes = (e, refl) }

up_to : (ts : List Token) → UpTo ts
up_to [] = record { inside = []; closing = []; rest = []; whole = refl; within = tt; closes = tt }
up_to (t ∷ ts) = up_step t ts (up_to ts) t.kind refl

closed_split : (o : Token) (ts : List Token) (v : Value) → is_open o ≡ true → value_at (o ∷ ts) ≡ v → Split (o ∷ ts)
closed_split o ts values.Absent is e = absurd (bracketed_never ts (sym (cond-true (is_open o) (bracketed ts) values.Absent is) ∙ e))
closed_split o ts (values.Text text) is e =
    record {
      behind = take 3 (o ∷ ts);
      rest = drop 3 (o ∷ ts);
      whole = sym (take-append-drop 3 (o ∷ ts));
      value = subst (λ (v : Value). IsValueBehind v (take 3 (o ∷ ts)) (drop 3 (o ∷ ts))) (sym e) (text_split text (o ∷ ts) e);
    }
closed_split o ts values.Malformed is e =
    let u = up_to ts in
    let whole : o ∷ ts ≡ (o ∷ (u.inside ++ u.closing)) ++ u.rest = ap (λ (l : List Token). o ∷ l) u.whole in
    let bracket : IsBracket (o ∷ (u.inside ++ u.closing)) u.rest = record { opening = o; inside = u.inside; closing = u.closing; opens = open_kind o.kind is; within = u.within; closes = u.closes; is = refl } in
    let never : (text : List ℕ) → IsBracketed text (kinds_of (o ∷ (u.inside ++ u.closing))) → ⊥ = λ text h. absurd (
    let v = value_read text (o ∷ ts) (kinds_of (o ∷ (u.inside ++ u.closing))) (kinds_of u.rest) h (ap kinds_of whole ∙ kinds_both (o ∷ (u.inside ++ u.closing)) u.rest) in
    let f : values.Text text ≡ values.Malformed = sym v.at ∙ e in
    cc) in
    record { behind = o ∷ (u.inside ++ u.closing); rest = u.rest; whole = whole; value = subst (λ (v : Value). IsValueBehind v (o ∷ (u.inside ++ u.closing)) u.rest) (sym e) (bracket, never) }

open_split : (o : Token) (ts : List Token) (b : Bool) → is_open o ≡ b → Split (o ∷ ts)
open_split o ts true e = closed_split o ts (value_at (o ∷ ts)) e refl
open_split o ts false e =
    let absent : value_at (o ∷ ts) ≡ values.Absent = cond-false (is_open o) (bracketed ts) values.Absent e in
    let unopened_by : o.kind ≡ tokens.Open → ⊥ = λ k. absurd (let f : true ≡ false = sym (ap is_open_kind k) ∙ e in cc) in
    record { behind = []; rest = o ∷ ts; whole = refl; value = subst (λ (v : Value). IsValueBehind v [] (o ∷ ts)) (sym absent) (refl, unopened_by) }

split : (ts : List Token) → Split ts
split [] = record { behind = []; rest = []; whole = refl; value = (refl, tt) }
split (o ∷ ts) = open_split o ts (is_open o) refl

-- a keyword with what stands behind it, and the rest
record ItemSplit (t : Token) (ts : List Token) : Type 0 where
  pub item : Item
  pub behind : List Token
  pub rest : List Token
  pub whole : ts ≡ behind ++ rest
  pub place : item.span ≡ t.span
  pub is : IsItem t.kind item behind rest

item_split : (t : Token) (ts : List Token) (k : TokenKind) → t.kind ≡ k → ItemSplit t ts
item_split t ts (tokens.Word w) e =
    let s = split ts in
    record { item = record { word = w; span = t.span; value = value_at ts }; behind = s.behind; rest = s.rest; whole = s.whole; place = refl; is = subst (λ (x : TokenKind). IsItem x (record { word = w; span = t.span; value = value_at ts }) s.behind s.rest) (sym e) (refl, s.value) }
item_split t ts (tokens.Quoted w) e =
    record { item = record { word = []; span = t.span; value = values.Absent }; behind = []; rest = ts; whole = refl; place = refl; is = subst (λ (x : TokenKind). IsItem x (record { word = []; span = t.span; value = values.Absent }) [] ts) (sym e) (refl, refl, refl) }
item_split t ts tokens.Open e =
    record { item = record { word = []; span = t.span; value = values.Absent }; behind = []; rest = ts; whole = refl; place = refl; is = subst (λ (x : TokenKind). IsItem x (record { word = []; span = t.span; value = values.Absent }) [] ts) (sym e) (refl, refl, refl) }
item_split t ts tokens.Close e =
    record { item = record { word = []; span = t.span; value = values.Absent }; behind = []; rest = ts; whole = refl; place = refl; is = subst (λ (x : TokenKind). IsItem x (record { word = []; span = t.span; value = values.Absent }) [] ts) (sym e) (refl, refl, refl) }

some_items : (n : ℕ) (ts : List Token) → length ts ≤ n → (is : List Item) × AreItems is ts
some_items n [] le = ([], refl)
some_items zero (t ∷ ts) le = absurd (omega arith)
some_items (suc n) (t ∷ ts) le =
    let s = item_split t ts t.kind refl in
    let fits : length s.rest ≤ n = omega (arith, length-append s.behind s.rest, ap length s.whole) in
    let more = some_items n s.rest fits in
    (s.item ∷ more.0, (t, s.behind, s.rest, ap (λ (l : List Token). t ∷ l) s.whole, s.place, s.is, more.1))

pub are_found : (ts : List Token) → AreItems (items_from ts 0) ts
are_found ts =
    let h = some_items (length ts) ts (omega arith) in
    subst (λ (is : List Item). AreItems is ts) (sym (are_read h.0 ts h.1)) h.1
