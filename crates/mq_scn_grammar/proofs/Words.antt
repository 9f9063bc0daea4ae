-- The words of a line, both ways.
use Rattle.std.proofs.Common.{◌≡◌, ◌⊎◌, ℕ, ◌+◌, ◌≤◌, Bool, true, false, cond, eqb, List, [], ◌∷◌, ◌++◌, length, drop, refl, sym, ap, subst, ◌∙◌, append_assoc, arith, inl, inr}
use Rattle.std.specs.Prelude.{not, ◌&&◌}
use Rattle.std.proofs.Math.Seq.{take-append_seam, drop-append_seam}
use Rattle.std.proofs.lemmas.Bool.Decides.{eqb_tells}
use Rattle.std.proofs.lemmas.List.{length-append, append-nil}
use Rattle.mq_scn_lines.specs.Words.{word_len, is_open, words_from, words_of}
use Rattle.mq_scn_lines.proofs.WordLaws.{word_passed}
use Rattle.mq_scn_grammar.specs.Words.{Mem, AreBlanks, BeginsBlank, IsPlain, IsInQuotes, ArePieces, IsWord, AreWords}

is_not : (b c : ℕ) → (b ≡ c → ⊥) → eqb b c ≡ false
is_not b c ne = elim (eqb_tells b c) [
  | inl p ↦ absurd (ne p.1)
  | inr p ↦ p.0
]

-- ---- one byte

open_step : (quoted : Bool) (b : ℕ) (bs : List ℕ) (t : Bool) → eqb b 39 ≡ t → is_open quoted (b ∷ bs) ≡ is_open (cond t (not quoted) quoted) bs
open_step quoted b bs t e = ap (λ (u : Bool). is_open (cond u (not quoted) quoted) bs) e

pub len_step : (quoted : Bool) (b : ℕ) (bs : List ℕ) (s t : Bool) → (eqb b 32 && not quoted) ≡ s → eqb b 39 ≡ t → word_len quoted (b ∷ bs) ≡ cond s 0 (1 + word_len (cond t (not quoted) quoted) bs)
len_step quoted b bs s t e f =
    ap (λ (u : Bool). cond u 0 (1 + word_len (cond (eqb b 39) (not quoted) quoted) bs)) e
    ∙ ap (λ (u : Bool). cond s 0 (1 + word_len (cond u (not quoted) quoted) bs)) f

no_blank_quoted : (t : Bool) → (t && not true) ≡ false
no_blank_quoted true = refl
no_blank_quoted false = refl

-- ---- what is passed

-- a piece or pieces at the front are passed
abbrev pub IsPassed : List ℕ → List ℕ → Type 0
IsPassed bytes rest = (word_len false (bytes ++ rest) ≡ length bytes + word_len false rest) × (is_open false (bytes ++ rest) ≡ is_open false rest)

plain_passed : (b : ℕ) (rest : List ℕ) → (b ≡ 32 → ⊥) → (b ≡ 39 → ⊥) → IsPassed (b ∷ []) rest
plain_passed b rest ne nq =
    let e = is_not b 32 ne in
    let q = is_not b 39 nq in
    let one : word_len false (b ∷ rest) ≡ 1 + word_len false rest = len_step false b rest false false (ap (λ (u : Bool). u && true) e) q in
    (omega (arith, one), open_step false b rest false q)

pub quoted_step : (b : ℕ) (bs : List ℕ) → (b ≡ 39 → ⊥) → (word_len true (b ∷ bs) ≡ 1 + word_len true bs) × (is_open true (b ∷ bs) ≡ is_open true bs)
quoted_step b bs nq =
    let q = is_not b 39 nq in
    (len_step true b bs false false (no_blank_quoted (eqb b 32)) q, open_step true b bs false q)

inner_passed : (inner rest : List ℕ) → (Mem 39 inner → ⊥) → (word_len true (inner ++ 39 ∷ rest) ≡ length inner + 1 + word_len false rest) × (is_open true (inner ++ 39 ∷ rest) ≡ is_open false rest)
inner_passed [] rest never =
    let one : word_len true (39 ∷ rest) ≡ 1 + word_len false rest = refl in
    (omega (arith, one), refl)
inner_passed (b ∷ bs) rest never =
    let more = inner_passed bs rest (λ m. never (inr m)) in
    let one = quoted_step b (bs ++ 39 ∷ rest) (λ e. never (inl (sym e))) in
    (omega (arith, one.0, more.0), one.1 ∙ more.1)

quotes_passed : (inner rest : List ℕ) → (Mem 39 inner → ⊥) → IsPassed (39 ∷ (inner ++ 39 ∷ [])) rest
quotes_passed inner rest never =
    let h = inner_passed inner rest never in
    let whole : (inner ++ 39 ∷ []) ++ rest ≡ inner ++ 39 ∷ rest = append_assoc inner (39 ∷ []) rest in
    let first : word_len false (39 ∷ ((inner ++ 39 ∷ []) ++ rest)) ≡ 1 + word_len true (inner ++ 39 ∷ rest) = ap (λ (l : List ℕ). 1 + word_len true l) whole in
    let long : length (inner ++ 39 ∷ []) ≡ length inner + 1 = length-append inner (39 ∷ []) in
    (omega (arith, first, long, h.0), ap (is_open true) whole ∙ h.1)

piece_passed : (p rest : List ℕ) → IsPlain p ⊎ IsInQuotes p → IsPassed p rest
piece_passed p rest (inl (b, e, ne, nq)) = subst (λ (l : List ℕ). IsPassed l rest) (sym e) (plain_passed b rest ne nq)
piece_passed p rest (inr (inner, e, never)) = subst (λ (l : List ℕ). IsPassed l rest) (sym e) (quotes_passed inner rest never)

two_passed : (p later rest : List ℕ) → IsPassed p (later ++ rest) → IsPassed later rest → IsPassed (p ++ later) rest
two_passed p later rest h k =
    let whole : (p ++ later) ++ rest ≡ p ++ (later ++ rest) = append_assoc p later rest in
    let long : length (p ++ later) ≡ length p + length later = length-append p later in
    let len = ap (word_len false) whole ∙ h.0 in
    (omega (arith, len, long, k.0), ap (is_open false) whole ∙ h.1 ∙ k.1)

nothing_passed : (rest : List ℕ) → IsPassed [] rest
nothing_passed rest = (omega arith, refl)

pub pieces_passed : (ps : List (List ℕ)) (bytes rest : List ℕ) → ArePieces ps bytes → IsPassed bytes rest
pieces_passed [] bytes rest e = subst (λ (l : List ℕ). IsPassed l rest) (sym e) (nothing_passed rest)
pieces_passed (p ∷ ps) bytes rest (later, e, is, more) =
    subst (λ (l : List ℕ). IsPassed l rest) (sym e) (two_passed p later rest (piece_passed p (later ++ rest) is) (pieces_passed ps later rest more))

pub blank_ends : (rest : List ℕ) → BeginsBlank rest → word_len false rest ≡ 0
blank_ends [] h = refl
blank_ends (b ∷ bs) h = ap (λ (c : ℕ). word_len false (c ∷ bs)) h

-- a word and what stands behind it
pub record WordAt (w rest : List ℕ) : Type 0 where
  pub first : ℕ
  pub others : List ℕ
  pub is : w ≡ first ∷ others
  pub no_blank : first ≡ 32 → ⊥
  pub long : word_len false (w ++ rest) ≡ length w
  pub open_later : is_open false (w ++ rest) ≡ is_open false rest

pub record Begun (p rest : List ℕ) : Type 0 where
  pub first : ℕ
  pub others : List ℕ
  pub is : p ++ rest ≡ first ∷ others
  pub no_blank : first ≡ 32 → ⊥

pub quote_no_blank : (b : ℕ) → b ≡ 39 → b ≡ 32 → ⊥
quote_no_blank b e f = omega (arith, e, f)

pub piece_begun : (p rest : List ℕ) → IsPlain p ⊎ IsInQuotes p → Begun p rest
piece_begun p rest (inl (b, e, ne, nq)) = record { first = b; others = rest; is = ap (λ (l : List ℕ). l ++ rest) e; no_blank = ne }
piece_begun p rest (inr (inner, e, never)) = record { first = 39; others = (inner ++ 39 ∷ []) ++ rest; is = ap (λ (l : List ℕ). l ++ rest) e; no_blank = quote_no_blank 39 refl }

pub word_at : (w rest : List ℕ) → IsWord w → BeginsBlank rest → WordAt w rest
word_at w rest (p, ps, pieces) begins =
    let passed = pieces_passed (p ∷ ps) w rest pieces in
    let b = piece_begun p pieces.0 pieces.2 in
    let none = blank_ends rest begins in
    record {
      first = b.first;
      others = b.others;
      is = pieces.1 ∙ b.is;
      no_blank = b.no_blank;
      long = omega (arith, passed.0, none);
      open_later = passed.1;
    }

-- ---- words that are written are read

first_taken : (c : ℕ) (cs rest : List ℕ) → (c ≡ 32 → ⊥) → word_len false ((c ∷ cs) ++ rest) ≡ length (c ∷ cs) → words_from 0 ((c ∷ cs) ++ rest) ≡ (c ∷ cs) ∷ words_from 0 rest
first_taken c cs rest ne long =
    let within : length (c ∷ cs) ≤ length ((c ∷ cs) ++ rest) = omega (arith, length-append (c ∷ cs) rest) in
    word_passed c (cs ++ rest) (length (c ∷ cs)) ne (sym long) within
    ∙ ap (λ (l : List ℕ). l ∷ words_from 0 (drop (length (c ∷ cs)) ((c ∷ cs) ++ rest))) (take-append_seam (c ∷ cs) rest)
    ∙ ap (λ (l : List ℕ). (c ∷ cs) ∷ words_from 0 l) (drop-append_seam (c ∷ cs) rest)

pub word_taken : (w rest : List ℕ) → WordAt w rest → words_from 0 (w ++ rest) ≡ w ∷ words_from 0 rest
word_taken w rest a =
    subst (λ (l : List ℕ). words_from 0 (l ++ rest) ≡ l ∷ words_from 0 rest) (sym a.is)
    (first_taken a.first a.others rest a.no_blank (subst (λ (l : List ℕ). word_len false (l ++ rest) ≡ length l) a.is a.long))

-- what is read of words: no quote is left open, and they are these
abbrev pub AreRead : List (List ℕ) → List ℕ → Type 0
AreRead words text = (is_open false text ≡ false) × (words_from 0 text ≡ words)

blank_read : (words : List (List ℕ)) (b : ℕ) (bs : List ℕ) → b ≡ 32 → AreRead words bs → AreRead words (b ∷ bs)
blank_read words b bs e h = subst (λ (c : ℕ). AreRead words (c ∷ bs)) (sym e) (h.0, h.1)

blanks_read : (words : List (List ℕ)) (blanks text : List ℕ) → AreBlanks blanks → AreRead words text → AreRead words (blanks ++ text)
blanks_read words [] text h r = r
blanks_read words (b ∷ bs) text h r = blank_read words b (bs ++ text) h.0 (blanks_read words bs text h.1 r)

pub from_read : (words : List (List ℕ)) (text : List ℕ) → AreWords words text → AreRead words text
from_read [] text h = subst (AreRead []) (append-nil text) (blanks_read [] text [] h (refl, refl))
from_read (w ∷ ws) text (blanks, rest, e, are, is, begins, more) =
    let a = word_at w rest is begins in
    let r = from_read ws rest more in
    let read : AreRead (w ∷ ws) (w ++ rest) = (a.open_later ∙ r.0, word_taken w rest a ∙ ap (λ (l : List (List ℕ)). w ∷ l) r.1) in
    subst (AreRead (w ∷ ws)) (sym e) (blanks_read (w ∷ ws) blanks (w ++ rest) are read)

pub words_read : (text : List ℕ) (words : List (List ℕ)) → AreWords words text → (is_open false text ≡ false) × (words_of text ≡ words)
unfolding words_of
words_read text words h = from_read words text h

-- ---- a text without an open quote is words

-- the rest of a word, in quotes or not
abbrev Held : Bool → List ℕ → Type 0
Held false bytes = (ps : List (List ℕ)) × ArePieces ps bytes
Held true bytes = (inner : List ℕ) × (later : List ℕ) × (ps : List (List ℕ)) × (bytes ≡ inner ++ 39 ∷ later) × (Mem 39 inner → ⊥) × ArePieces ps later

record Tail (quoted : Bool) (text : List ℕ) : Type 0 where
  word : List ℕ
  rest : List ℕ
  whole : text ≡ word ++ rest
  is : Held quoted word
  begins : BeginsBlank rest
  words : List (List ℕ)
  are : AreWords words rest

blank_before : (words : List (List ℕ)) (b : ℕ) (bs : List ℕ) → b ≡ 32 → AreWords words bs → AreWords words (b ∷ bs)
blank_before [] b bs e h = (e, h)
blank_before (w ∷ ws) b bs e (blanks, rest, f, are, is, begins, more) = (b ∷ blanks, rest, ap (λ (l : List ℕ). b ∷ l) f, (e, are), is, begins, more)

tail_words : (text word rest : List ℕ) (ps words : List (List ℕ)) → text ≡ word ++ rest → ArePieces ps word → BeginsBlank rest → AreWords words rest → (ws : List (List ℕ)) × AreWords ws text
tail_words text word rest [] words e h begins are = (words, subst (AreWords words) (sym (e ∙ ap (λ (l : List ℕ). l ++ rest) h)) are)
tail_words text word rest (p ∷ ps) words e h begins are = (word ∷ words, ([], rest, e, tt, (p, ps, h), begins, are))

words_at : (text : List ℕ) → Tail false text → (ws : List (List ℕ)) × AreWords ws text
words_at text t = tail_words text t.word t.rest t.is.0 t.words t.whole t.is.1 t.begins t.are

pub no_quote_first : (b : ℕ) (inner : List ℕ) → (b ≡ 39 → ⊥) → (Mem 39 inner → ⊥) → Mem 39 (b ∷ inner) → ⊥
no_quote_first b inner nq never (inl e) = nq (sym e)
no_quote_first b inner nq never (inr m) = never m

-- a blank outside quotes ends the word
at_blank : (b : ℕ) (bs : List ℕ) → b ≡ 32 → Tail false bs → Tail false (b ∷ bs)
at_blank b bs e t =
    let w = words_at bs t in
    record { word = []; rest = b ∷ bs; whole = refl; is = ([], refl); begins = e; words = w.0; are = blank_before w.0 b bs e w.1 }

opening : (b : ℕ) (bs : List ℕ) → b ≡ 39 → Tail true bs → Tail false (b ∷ bs)
opening b bs e t =
    let h = t.is in
    let split : b ∷ t.word ≡ (39 ∷ (h.0 ++ 39 ∷ [])) ++ h.1 = ap (λ (c : ℕ). c ∷ t.word) e ∙ ap (λ (l : List ℕ). 39 ∷ l) (h.3 ∙ sym (append_assoc h.0 (39 ∷ []) h.1)) in
    record {
      word = b ∷ t.word;
      rest = t.rest;
      whole = ap (λ (l : List ℕ). b ∷ l) t.whole;
      is = ((39 ∷ (h.0 ++ 39 ∷ [])) ∷ h.2, (h.1, split, inr (h.0, refl, h.4), h.5));
      begins = t.begins;
      words = t.words;
      are = t.are;
    }

plainly : (b : ℕ) (bs : List ℕ) → (b ≡ 32 → ⊥) → (b ≡ 39 → ⊥) → Tail false bs → Tail false (b ∷ bs)
plainly b bs ne nq t = record {
  word = b ∷ t.word;
  rest = t.rest;
  whole = ap (λ (l : List ℕ). b ∷ l) t.whole;
  is = ((b ∷ []) ∷ t.is.0, (t.word, refl, inl (b, refl, ne, nq), t.is.1));
  begins = t.begins;
  words = t.words;
  are = t.are;
}

closing : (b : ℕ) (bs : List ℕ) → b ≡ 39 → Tail false bs → Tail true (b ∷ bs)
closing b bs e t = record {
  word = b ∷ t.word;
  rest = t.rest;
  whole = ap (λ (l : List ℕ). b ∷ l) t.whole;
  is = ([], t.word, t.is.0, ap (λ (c : ℕ). c ∷ t.word) e, (λ m. m), t.is.1);
  begins = t.begins;
  words = t.words;
  are = t.are;
}

within_quotes : (b : ℕ) (bs : List ℕ) → (b ≡ 39 → ⊥) → Tail true bs → Tail true (b ∷ bs)
within_quotes b bs nq t =
    let h = t.is in
    record {
      word = b ∷ t.word;
      rest = t.rest;
      whole = ap (λ (l : List ℕ). b ∷ l) t.whole;
      is = (b ∷ h.0, h.1, h.2, ap (λ (l : List ℕ). b ∷ l) h.3, no_quote_first b h.0 nq h.4, h.5);
      begins = t.begins;
      words = t.words;
      are = t.are;
    }

tail : (quoted : Bool) (text : List ℕ) → is_open quoted text ≡ false → Tail quoted text
tail false [] e = record { word = []; rest = []; whole = refl; is = ([], refl); begins = tt; words = []; are = tt }
tail true [] e = absurd cc
tail false (b ∷ bs) e = elim (eqb_tells b 39) [
  | inl q ↦ opening b bs q.1 (tail true bs (let f : is_open false (b ∷ bs) ≡ is_open true bs = open_step false b bs true q.0 in sym f ∙ e))
  | inr q ↦
      let t = tail false bs (let f : is_open false (b ∷ bs) ≡ is_open false bs = open_step false b bs false q.0 in sym f ∙ e) in
      elim (eqb_tells b 32) [
        | inl p ↦ at_blank b bs p.1 t
        | inr p ↦ plainly b bs p.1 q.1 t
      ]
]
tail true (b ∷ bs) e = elim (eqb_tells b 39) [
  | inl q ↦ closing b bs q.1 (tail false bs (let f : is_open true (b ∷ bs) ≡ is_open false bs = open_step true b bs true q.0 in sym f ∙ e))
  | inr q ↦ within_quotes b bs q.1 (tail true bs (let f : is_open true (b ∷ bs) ≡ is_open true bs = open_step true b bs false q.0 in sym f ∙ e))
]

pub some_words : (text : List ℕ) → is_open false text ≡ false → (words : List (List ℕ)) × AreWords words text
some_words text e = words_at text (tail false text e)

pub words_found : (text : List ℕ) (words : List (List ℕ)) → is_open false text ≡ false → words_of text ≡ words → AreWords words text
words_found text words e f =
    let s = some_words text e in
    subst (λ (ws : List (List ℕ)). AreWords ws text) (sym (words_read text s.0 s.1).1 ∙ f) s.1

pub one_way : (text : List ℕ) (words others : List (List ℕ)) → AreWords words text → AreWords others text → words ≡ others
one_way text words others h k = sym (words_read text words h).1 ∙ (words_read text others k).1

-- a quote that nothing closes stands in a text that is no words
pub no_words : (text : List ℕ) → is_open false text ≡ true → (words : List (List ℕ)) → AreWords words text → ⊥
no_words text e words h = absurd (let f : true ≡ false = sym e ∙ (words_read text words h).0 in cc)

pub unclosed : (text : List ℕ) → (b : Bool) → is_open false text ≡ b → ((words : List (List ℕ)) → AreWords words text → ⊥) → is_open false text ≡ true
unclosed text true e never = e
unclosed text false e never = absurd (let s = some_words text e in never s.0 s.1)
