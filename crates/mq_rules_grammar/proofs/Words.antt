-- The keywords of words, pairs, and lists of them, both ways.
use Rattle.std.proofs.Common.{◌≡◌, ◌⊎◌, ℕ, Bool, true, false, cond, List, [], ◌∷◌, Result, Ok, Err, refl, sym, ap, subst, ◌∙◌, inl, inr}
use Rattle.std.specs.Prelude.{Option, Some, None, find, not, ◌&&◌, ◌||◌}
use Rattle.std.specs.List.{list_all, list_any}
use Rattle.std.specs.Str.{bytes_eq}
use Rattle.std.proofs.lemmas.Bool.{and_parts}
use Rattle.std.proofs.lemmas.Slice.Eq.{bytes_eq-Decides}
use Rattle.mq_base.specs.Members.{Mem}
use Rattle.mq_sc_lex.specs.declared.token.Token.{Token}
use Rattle.mq_sc_lex.specs.declared.token.TokenKind.{TokenKind}
use Rattle.mq_sc_lex.specs.declared.token.TokenKind.TheVariants as tokens
use Rattle.mq_sc_grammar.specs.Spelling.{kinds_of, IsValue}
use Rattle.mq_rules.specs.declared.rule.TextField.{TextField}
use Rattle.mq_rules.specs.declared.rule.TextField.TheVariants as texts
use Rattle.mq_rules.specs.declared.rule.NumberField.{NumberField}
use Rattle.mq_rules.specs.declared.rule.NumberField.TheVariants as numbers
use Rattle.mq_rules_text.specs.declared.fault.Flaw.{Flaw}
use Rattle.mq_rules_text.specs.declared.fault.Flaw.TheVariants as flaws
use Rattle.mq_rules_text.specs.declared.keyword.Keyword.{Keyword}
use Rattle.mq_rules_text.specs.declared.keyword.Keyword.TheVariants as words
use Rattle.mq_rules_text.specs.declared.pairs.Pair.{Pair}
use Rattle.mq_rules_text.specs.Keywords.{keywords, word, keyword_of, is_control, same_keyword}
use Rattle.mq_rules_text.specs.Pairs.{word_in, value_in, is_open, is_close, with_parts, pair_of, pair_before, put_pair, pairs_of, allowed_word, allowed, same_words, same_word, distinct, control_word, controls}
use Rattle.mq_rules_grammar.specs.Entries.{IsKeywordOf, ArePairs, Each, IsOf, AreSingle, AreAllowed}
use Rattle.mq_rules_grammar.specs.Tables.{Controls}

-- ---- words of keywords

text_at : (f : TextField) → keyword_of (word (words.Text f)) ≡ Some (words.Text f)
unfolding keyword_of
text_at texts.IdentityData = refl
text_at _ = refl

number_at : (f : NumberField) → keyword_of (word (words.Number f)) ≡ Some (words.Number f)
unfolding keyword_of
number_at numbers.ApplicationType = refl
number_at _ = refl

pub keyword_at : (k : Keyword) → keyword_of (word k) ≡ Some k
unfolding keyword_of
keyword_at (words.Text f) = text_at f
keyword_at (words.Number f) = number_at f
keyword_at words.Action = refl
keyword_at _ = refl

find_by : (text : List ℕ) (v : Keyword) (vs : List Keyword) (k : Keyword) → (find (λ (x : Keyword). bytes_eq (word x) text) vs ≡ Some k → word k ≡ text) → (t : Bool) → bytes_eq (word v) text ≡ t
    → cond t (Some v) (find (λ (x : Keyword). bytes_eq (word x) text) vs) ≡ Some k → word k ≡ text
find_by text v vs k more true e f = let same : v ≡ k = cc in ap word (sym same) ∙ (bytes_eq-Decides (word v) text).0 e
find_by text v vs k more false e f = more f

find_word : (text : List ℕ) (vs : List Keyword) (k : Keyword) → find (λ (x : Keyword). bytes_eq (word x) text) vs ≡ Some k → word k ≡ text
find_word text [] k f = absurd cc
find_word text (v ∷ vs) k f = find_by text v vs k (λ g. find_word text vs k g) (bytes_eq (word v) text) refl f

keyword_found : (text : List ℕ) (k : Keyword) → keyword_of text ≡ Some k → word k ≡ text
unfolding keyword_of
keyword_found text k f = find_word text keywords k f

abbrev some_word : Keyword → Option Keyword
some_word k = Some k

abbrev no_word : Option Keyword
no_word = None

pub one_keyword : (j k : Keyword) → word j ≡ word k → j ≡ k
one_keyword j k e = let f : some_word j ≡ some_word k = sym (keyword_at j) ∙ ap keyword_of e ∙ keyword_at k in cc

keyword_by : (text : List ℕ) (o : Option Keyword) → keyword_of text ≡ o → IsKeywordOf o text
keyword_by text (Some k) e = sym (keyword_found text k e)
keyword_by text None e = λ k f. absurd (let g : no_word ≡ some_word k = sym e ∙ ap keyword_of f ∙ keyword_at k in cc)

keyword_is : (text : List ℕ) (o : Option Keyword) → IsKeywordOf o text → keyword_of text ≡ o
keyword_is text (Some k) e = ap keyword_of e ∙ keyword_at k
keyword_is text None never = none_by (keyword_of text) refl
  where
    none_by : (o : Option Keyword) → keyword_of text ≡ o → keyword_of text ≡ no_word
    none_by None e = e
    none_by (Some k) e = absurd (never k (sym (keyword_found text k e)))

is_same : (j k : Keyword) (b : Bool) → same_keyword j k ≡ b → b ≡ true → j ≡ k
unfolding same_keyword
is_same j k b e f = one_keyword j k ((bytes_eq-Decides (word j) (word k)).0 (e ∙ f))

pub same_found : (j k : Keyword) → same_keyword j k ≡ true → j ≡ k
same_found j k e = is_same j k true e refl

pub same_read : (j k : Keyword) → j ≡ k → same_keyword j k ≡ true
unfolding same_keyword
same_read j k e = (bytes_eq-Decides (word j) (word k)).1 (ap word e)

-- two keywords are the same or not
pub either_keyword : (j k : Keyword) → (j ≡ k) ⊎ (j ≡ k → ⊥)
either_keyword j k = by (same_keyword j k) refl
  where
    by : (b : Bool) → same_keyword j k ≡ b → (j ≡ k) ⊎ (j ≡ k → ⊥)
    by true e = inl (same_found j k e)
    by false e = inr (λ f. absurd (let g : true ≡ false = sym (same_read j k f) ∙ e in cc))

-- ---- pairs

abbrev ok_pairs : List Pair → Result (List Pair) Flaw
ok_pairs ps = Ok ps

abbrev err_pairs : Flaw → Result (List Pair) Flaw
err_pairs flaw = Err flaw

abbrev ok_pair : Pair → Result Pair Flaw
ok_pair p = Ok p

abbrev err_pair : Flaw → Result Pair Flaw
err_pair flaw = Err flaw

abbrev some_text : List ℕ → Option (List ℕ)
some_text text = Some text

abbrev no_text : Option (List ℕ)
no_text = None

value_read : (v : List ℕ) (k : TokenKind) → IsValue v k → value_in k ≡ some_text v
value_read v (tokens.Word w) e = ap some_text (sym e)
value_read v (tokens.Quoted w) e = ap some_text (sym e)
value_read v tokens.Open e = absurd e
value_read v tokens.Close e = absurd e

value_found : (v : List ℕ) (k : TokenKind) → value_in k ≡ some_text v → IsValue v k
value_found v (tokens.Word w) e = cc
value_found v (tokens.Quoted w) e = cc
value_found v tokens.Open e = absurd cc
value_found v tokens.Close e = absurd cc

word_found : (w : List ℕ) (k : TokenKind) → word_in k ≡ some_text w → k ≡ tokens.Word w
word_found w (tokens.Word v) e = let same : v ≡ w = cc in ap tokens.Word same
word_found w (tokens.Quoted v) e = absurd cc
word_found w tokens.Open e = absurd cc
word_found w tokens.Close e = absurd cc

open_found : (k : TokenKind) → is_open k ≡ true → k ≡ tokens.Open
open_found (tokens.Word w) e = absurd cc
open_found (tokens.Quoted w) e = absurd cc
open_found tokens.Open e = refl
open_found tokens.Close e = absurd cc

close_found : (k : TokenKind) → is_close k ≡ true → k ≡ tokens.Close
close_found (tokens.Word w) e = absurd cc
close_found (tokens.Quoted w) e = absurd cc
close_found tokens.Open e = absurd cc
close_found tokens.Close e = refl

-- the kinds of a word with its value in brackets
record FourAre (p : Pair) (a b c d : TokenKind) : Type 0 where
  text : List ℕ
  is_word : a ≡ tokens.Word text
  opens : b ≡ tokens.Open
  closes : d ≡ tokens.Close
  keyword : IsKeywordOf p.keyword text
  value : IsValue p.value c

parts_found : (p : Pair) (a b c d : TokenKind) → b ≡ tokens.Open → d ≡ tokens.Close → (o q : Option (List ℕ)) → word_in a ≡ o → value_in c ≡ q → with_parts o q ≡ ok_pair p → FourAre p a b c d
parts_found p a b c d opens closes None q e f g = absurd cc
parts_found p a b c d opens closes (Some w) None e f g = absurd cc
parts_found p a b c d opens closes (Some w) (Some v) e f g =
    let same : record { keyword = keyword_of w; value = v } ≡ p = cc in
    subst (λ (x : Pair). FourAre x a b c d) same (record { text = w; is_word = word_found w a e; opens = opens; closes = closes; keyword = keyword_by w (keyword_of w) refl; value = value_found v c f })

four_by : (p : Pair) (a b c d : TokenKind) (t : Bool) → (is_open b && is_close d) ≡ t → cond t (with_parts (word_in a) (value_in c)) (err_pair flaws.Form) ≡ ok_pair p → FourAre p a b c d
four_by p a b c d true e f = let both = and_parts (is_open b) (is_close d) e in parts_found p a b c d (open_found b both.0) (close_found d both.1) (word_in a) (value_in c) refl refl f
four_by p a b c d false e f = absurd cc

four_found : (p : Pair) (a b c d : Token) → pair_of a b c d ≡ ok_pair p → FourAre p a.kind b.kind c.kind d.kind
four_found p a b c d e = four_by p a.kind b.kind c.kind d.kind (is_open b.kind && is_close d.kind) refl e

four_read : (p : Pair) (a b c d : Token) (text : List ℕ) → a.kind ≡ tokens.Word text → b.kind ≡ tokens.Open → d.kind ≡ tokens.Close → IsKeywordOf p.keyword text → IsValue p.value c.kind → pair_of a b c d ≡ ok_pair p
four_read p a b c d text e f g key v =
    let both : (is_open b.kind && is_close d.kind) ≡ true = ap (λ (k : TokenKind). is_open k && is_close d.kind) f ∙ ap is_close g in
    let same : record { keyword = keyword_of text; value = p.value } ≡ p = ap (λ (k : Option Keyword). record { keyword = k; value = p.value }) (keyword_is text p.keyword key) in
    ap (λ (t : Bool). cond t (with_parts (word_in a.kind) (value_in c.kind)) (err_pair flaws.Form)) both
    ∙ ap (λ (k : TokenKind). with_parts (word_in k) (value_in c.kind)) e ∙ ap (with_parts (some_text text)) (value_read p.value c.kind v) ∙ ap ok_pair same

pub pairs_read : (ps : List Pair) (ts : List Token) → ArePairs ps (kinds_of ts) → pairs_of ts ≡ ok_pairs ps
pairs_read [] [] h = refl
pairs_read [] (t ∷ ts) h = absurd cc
pairs_read (p ∷ ps) [] (text, value, rest, e, key, v, more) = absurd cc
pairs_read (p ∷ ps) (a ∷ []) (text, value, rest, e, key, v, more) = absurd cc
pairs_read (p ∷ ps) (a ∷ b ∷ []) (text, value, rest, e, key, v, more) = absurd cc
pairs_read (p ∷ ps) (a ∷ b ∷ c ∷ []) (text, value, rest, e, key, v, more) = absurd cc
pairs_read (p ∷ ps) (a ∷ b ∷ c ∷ d ∷ ts) (text, value, rest, e, key, v, more) =
    let first : a.kind ≡ tokens.Word text = cc in
    let opens : b.kind ≡ tokens.Open = cc in
    let same : value ≡ c.kind = cc in
    let closes : d.kind ≡ tokens.Close = cc in
    let later : rest ≡ kinds_of ts = cc in
    ap (λ (r : Result Pair Flaw). put_pair r (pairs_of ts)) (four_read p a b c d text first opens closes key (subst (IsValue p.value) same v))
    ∙ ap (pair_before p) (pairs_read ps ts (subst (ArePairs ps) later more))

before_found : (p : Pair) (ps : List Pair) (r : Result (List Pair) Flaw) → pair_before p r ≡ ok_pairs ps → (qs : List Pair) × (r ≡ ok_pairs qs) × (ps ≡ p ∷ qs)
before_found p ps (Ok qs) e = (qs, refl, cc)
before_found p ps (Err flaw) e = absurd cc

put_found : (r : Result Pair Flaw) (q : Result (List Pair) Flaw) (ps : List Pair) → put_pair r q ≡ ok_pairs ps → (p : Pair) × (qs : List Pair) × (r ≡ ok_pair p) × (q ≡ ok_pairs qs) × (ps ≡ p ∷ qs)
put_found (Ok p) q ps e = let b = before_found p ps q e in (p, b.0, refl, b.1, b.2)
put_found (Err flaw) q ps e = absurd cc

pub pairs_found : (ts : List Token) (ps : List Pair) → pairs_of ts ≡ ok_pairs ps → ArePairs ps (kinds_of ts)
pairs_found [] ps e = let same : [] ≡ ps = cc in subst (λ (l : List Pair). ArePairs l []) same refl
pairs_found (a ∷ []) ps e = absurd cc
pairs_found (a ∷ b ∷ []) ps e = absurd cc
pairs_found (a ∷ b ∷ c ∷ []) ps e = absurd cc
pairs_found (a ∷ b ∷ c ∷ d ∷ ts) ps e =
    let f = put_found (pair_of a b c d) (pairs_of ts) ps e in
    let four = four_found f.0 a b c d f.2 in
    let whole : kinds_of (a ∷ b ∷ c ∷ d ∷ ts) ≡ tokens.Word four.text ∷ tokens.Open ∷ c.kind ∷ tokens.Close ∷ kinds_of ts =
    ap (λ (k : TokenKind). k ∷ b.kind ∷ c.kind ∷ d.kind ∷ kinds_of ts) four.is_word ∙ ap (λ (k : TokenKind). tokens.Word four.text ∷ k ∷ c.kind ∷ d.kind ∷ kinds_of ts) four.opens
    ∙ ap (λ (k : TokenKind). tokens.Word four.text ∷ tokens.Open ∷ c.kind ∷ k ∷ kinds_of ts) four.closes in
    subst (λ (l : List Pair). ArePairs l (kinds_of (a ∷ b ∷ c ∷ d ∷ ts))) (sym f.4) (four.text, c.kind, kinds_of ts, whole, four.keyword, four.value, pairs_found ts f.1 f.3)

-- no other flaw than Form
before_flaw : (p : Pair) (r : Result (List Pair) Flaw) (flaw : Flaw) → ((f : Flaw) → r ≡ err_pairs f → f ≡ flaws.Form) → pair_before p r ≡ err_pairs flaw → flaw ≡ flaws.Form
before_flaw p (Ok qs) flaw more e = absurd cc
before_flaw p (Err f) flaw more e = let same : f ≡ flaw = cc in sym same ∙ more f refl

parts_flaw : (o q : Option (List ℕ)) (flaw : Flaw) → with_parts o q ≡ err_pair flaw → flaw ≡ flaws.Form
parts_flaw None q flaw e = cc
parts_flaw (Some w) None flaw e = cc
parts_flaw (Some w) (Some v) flaw e = absurd cc

four_flaw : (o q : Option (List ℕ)) (t : Bool) (flaw : Flaw) → cond t (with_parts o q) (err_pair flaws.Form) ≡ err_pair flaw → flaw ≡ flaws.Form
four_flaw o q true flaw e = parts_flaw o q flaw e
four_flaw o q false flaw e = cc

put_flaw : (r : Result Pair Flaw) (q : Result (List Pair) Flaw) (flaw : Flaw) → ((f : Flaw) → r ≡ err_pair f → f ≡ flaws.Form) → ((f : Flaw) → q ≡ err_pairs f → f ≡ flaws.Form) → put_pair r q ≡ err_pairs flaw → flaw ≡ flaws.Form
put_flaw (Ok p) q flaw one more e = before_flaw p q flaw more e
put_flaw (Err f) q flaw one more e = let same : f ≡ flaw = cc in sym same ∙ one f refl

pub pairs_flaw : (ts : List Token) (flaw : Flaw) → pairs_of ts ≡ err_pairs flaw → flaw ≡ flaws.Form
pairs_flaw [] flaw e = absurd cc
pairs_flaw (a ∷ []) flaw e = cc
pairs_flaw (a ∷ b ∷ []) flaw e = cc
pairs_flaw (a ∷ b ∷ c ∷ []) flaw e = cc
pairs_flaw (a ∷ b ∷ c ∷ d ∷ ts) flaw e =
    put_flaw (pair_of a b c d) (pairs_of ts) flaw (λ f g. four_flaw (word_in a.kind) (value_in c.kind) (is_open b.kind && is_close d.kind) f g) (λ f g. pairs_flaw ts f g) e

-- ---- which keywords

allowed_read : (control : Bool) (o : Option Keyword) (k : Keyword) → o ≡ Some k → is_control k ≡ control → allowed_word control o ≡ true
allowed_read true o k e f = ap (allowed_word true) e ∙ f
allowed_read false o k e f = ap (allowed_word false) e ∙ ap not f

not_true : (b : Bool) → not b ≡ true → b ≡ false
not_true true e = absurd cc
not_true false e = refl

not_false : (b : Bool) → not b ≡ false → b ≡ true
not_false true e = refl
not_false false e = absurd cc

allowed_found : (control : Bool) (o : Option Keyword) → allowed_word control o ≡ true → (k : Keyword) × (o ≡ Some k) × (is_control k ≡ control)
allowed_found control None e = absurd (none control e)
  where
    none : (b : Bool) → allowed_word b no_word ≡ true → ⊥
    none true e = absurd cc
    none false e = absurd cc
allowed_found true (Some k) e = (k, refl, e)
allowed_found false (Some k) e = (k, refl, not_true (is_control k) e)

each_read : (control : Bool) (ps : List Pair) → Each (IsOf control) ps → list_all (allowed control) ps ≡ true
each_read control [] h = refl
each_read control (p ∷ ps) h = ap (λ (b : Bool). b && list_all (allowed control) ps) (allowed_read control p.keyword h.0.0 h.0.1 h.0.2) ∙ each_read control ps h.1

each_found : (control : Bool) (ps : List Pair) → list_all (allowed control) ps ≡ true → Each (IsOf control) ps
each_found control [] e = tt
each_found control (p ∷ ps) e =
    let both = and_parts (allowed control p) (list_all (allowed control) ps) e in
    (allowed_found control p.keyword both.0, each_found control ps both.1)

any_read : (p : Pair) (ps : List Pair) (k : Keyword) (q : Pair) → p.keyword ≡ Some k → Mem q ps → q.keyword ≡ Some k → list_any (same_word p) ps ≡ true
any_read p [] k q e m f = absurd m
any_read p (r ∷ ps) k q e (inl same) f =
    let here : same_word p r ≡ true = ap (λ (o : Option Keyword). same_words o r.keyword) e ∙ ap (same_words (some_word k)) (ap (λ (x : Pair). x.keyword) (sym same) ∙ f) ∙ same_read k k refl in
    rw here refl
any_read p (r ∷ ps) k q e (inr m) f = let more = any_read p ps k q e m f in by (same_word p r) more
  where
    by : (b : Bool) → list_any (same_word p) ps ≡ true → (b || list_any (same_word p) ps) ≡ true
    by true g = refl
    by false g = g

any_found : (p : Pair) (ps : List Pair) → list_any (same_word p) ps ≡ true → (k : Keyword) × (q : Pair) × (p.keyword ≡ Some k) × Mem q ps × (q.keyword ≡ Some k)
any_found p [] e = absurd cc
any_found p (r ∷ ps) e = by (same_word p r) refl e (λ g. any_found p ps g)
  where
    words_by : (o q : Option Keyword) → same_words o q ≡ true → (k : Keyword) × (o ≡ Some k) × (q ≡ Some k)
    words_by None q f = absurd cc
    words_by (Some j) None f = absurd cc
    words_by (Some j) (Some k) f = (j, refl, ap some_word (sym (same_found j k f)))

    by : (b : Bool) → same_word p r ≡ b → (b || list_any (same_word p) ps) ≡ true → (list_any (same_word p) ps ≡ true → (k : Keyword) × (q : Pair) × (p.keyword ≡ Some k) × Mem q ps × (q.keyword ≡ Some k))
        → (k : Keyword) × (q : Pair) × (p.keyword ≡ Some k) × Mem q (r ∷ ps) × (q.keyword ≡ Some k)
    by true f g more = let w = words_by p.keyword r.keyword f in (w.0, r, w.1, inl refl, w.2)
    by false f g more = let m = more g in (m.0, m.1, m.2, inr m.3, m.4)

single_read : (ps : List Pair) → AreSingle ps → distinct ps ≡ true
single_read [] h = refl
single_read (p ∷ ps) h = by (list_any (same_word p) ps) refl (single_read ps h.1)
  where
    by : (b : Bool) → list_any (same_word p) ps ≡ b → distinct ps ≡ true → (not b && distinct ps) ≡ true
    by true e more = let m = any_found p ps e in absurd (h.0 m.0 m.1 m.2 m.3 m.4)
    by false e more = more

single_found : (ps : List Pair) → distinct ps ≡ true → AreSingle ps
single_found [] e = tt
single_found (p ∷ ps) e =
    let both = and_parts (not (list_any (same_word p) ps)) (distinct ps) e in
    let none = not_true (list_any (same_word p) ps) both.0 in
    ((λ k q f m g. absurd (let some = any_read p ps k q f m g in let x : true ≡ false = sym some ∙ none in cc)), single_found ps both.1)

pub are_allowed : (control : Bool) (ps : List Pair) → AreAllowed control ps → (list_all (allowed control) ps && distinct ps) ≡ true
are_allowed control ps h = ap (λ (b : Bool). b && distinct ps) (each_read control ps h.0) ∙ single_read ps h.1

pub allowed_is : (control : Bool) (ps : List Pair) → (list_all (allowed control) ps && distinct ps) ≡ true → AreAllowed control ps
allowed_is control ps e = let both = and_parts (list_all (allowed control) ps) (distinct ps) e in (each_found control ps both.0, single_found ps both.1)

-- ---- whether an entry is the control entry

control_found : (o : Option Keyword) → control_word o ≡ true → (k : Keyword) × (o ≡ Some k) × (is_control k ≡ true)
control_found None e = absurd cc
control_found (Some k) e = (k, refl, e)

control_read : (o : Option Keyword) (k : Keyword) → o ≡ Some k → is_control k ≡ true → control_word o ≡ true
control_read o k e f = ap control_word e ∙ f

pub controls_found : (ps : List Pair) → list_any controls ps ≡ true → Controls ps
controls_found [] e = absurd cc
controls_found (p ∷ ps) e = by (controls p) refl e (λ g. controls_found ps g)
  where
    by : (b : Bool) → controls p ≡ b → (b || list_any controls ps) ≡ true → (list_any controls ps ≡ true → Controls ps) → Controls (p ∷ ps)
    by true f g more = (p, inl refl, control_found p.keyword f)
    by false f g more = let m = more g in (m.0, inr m.1, m.2)

pub controls_read : (ps : List Pair) → Controls ps → list_any controls ps ≡ true
controls_read [] (q, m, is) = absurd m
controls_read (p ∷ ps) (q, inl e, is) = let here : controls p ≡ true = ap (λ (x : Pair). controls x) (sym e) ∙ control_read q.keyword is.0 is.1 is.2 in ap (λ (b : Bool). b || list_any controls ps) here
controls_read (p ∷ ps) (q, inr m, is) = by (controls p) (controls_read ps (q, m, is))
  where
    by : (b : Bool) → list_any controls ps ≡ true → (b || list_any controls ps) ≡ true
    by true e = refl
    by false e = e

pub no_controls_found : (ps : List Pair) → list_any controls ps ≡ false → Controls ps → ⊥
no_controls_found ps e h = absurd (let x : true ≡ false = sym (controls_read ps h) ∙ e in cc)

pub no_controls_read : (ps : List Pair) → (Controls ps → ⊥) → list_any controls ps ≡ false
no_controls_read ps h = by (list_any controls ps) refl
  where
    by : (b : Bool) → list_any controls ps ≡ b → list_any controls ps ≡ false
    by true e = absurd (h (controls_found ps e))
    by false e = e
