-- The first word of a text, a text of one word and a text of blanks, both ways.
use Rattle.std.proofs.Common.{◌≡◌, ◌⊎◌, ℕ, suc, ◌+◌, Bool, true, false, cond, eqb, List, [], ◌∷◌, ◌++◌, length, take, drop, refl, sym, ap, subst, ◌∙◌, append_assoc, append-nil, arith, inl, inr}
use Rattle.std.specs.Prelude.{not, ◌&&◌}
use Rattle.std.proofs.lemmas.Bool.Decides.{eqb_tells}
use Rattle.std.proofs.lemmas.List.{take-append-drop, length-append}
use Rattle.mq_scn_lines.specs.Words.{word_len, first_word}
use Rattle.mq_scn_grammar.specs.Words.{Mem, AreBlanks, BeginsBlank, ArePieces, IsWord, IsOpenWord, IsFirstWord, IsOnly}
use Rattle.mq_scn_grammar.proofs.Words.{len_step, quoted_step, pieces_passed, piece_begun, no_quote_first, quote_no_blank}
use Rattle.mq_scn_grammar.proofs.Script.{some_front, no_front, no_front_never, front_same, first_found, first_read, past_blanks, word_first}

-- ---- no word

pub no_word_read : (text : List ℕ) → AreBlanks text → first_word text ≡ no_front
no_word_read [] h = refl
no_word_read (b ∷ bs) h = ap (λ (c : ℕ). first_word (c ∷ bs)) h.0 ∙ no_word_read bs h.1

blanks_by : (b : ℕ) (bs : List ℕ) → ((eqb b 32 ≡ true) × (b ≡ 32)) ⊎ ((eqb b 32 ≡ false) × (b ≡ 32 → ⊥)) → (first_word bs ≡ no_front → AreBlanks bs) → first_word (b ∷ bs) ≡ no_front → AreBlanks (b ∷ bs)
blanks_by b bs (inl p) more e =
    let n : ℕ = word_len false (b ∷ bs) in
    (p.1, more (sym (ap (λ (u : Bool). cond u (first_word bs) (some_front (take n (b ∷ bs), drop n (b ∷ bs)))) p.0) ∙ e))
blanks_by b bs (inr p) more e =
    let n : ℕ = word_len false (b ∷ bs) in
    let f : some_front (take n (b ∷ bs), drop n (b ∷ bs)) ≡ no_front = sym (ap (λ (u : Bool). cond u (first_word bs) (some_front (take n (b ∷ bs), drop n (b ∷ bs)))) p.0) ∙ e in
    absurd (no_front_never (take n (b ∷ bs), drop n (b ∷ bs)) (sym f))

pub no_word_found : (text : List ℕ) → first_word text ≡ no_front → AreBlanks text
no_word_found [] e = tt
no_word_found (b ∷ bs) e = blanks_by b bs (eqb_tells b 32) (λ f. no_word_found bs f) e

-- ---- up to the first blank outside quotes

-- bytes up to such a blank, or to the end
abbrev Outside : (word rest : List ℕ) → Type 0
Outside word rest = (pieces : List (List ℕ)) × (front : List ℕ) × ArePieces pieces front × (((word ≡ front) × BeginsBlank rest) ⊎ ((inner : List ℕ) × (word ≡ front ++ 39 ∷ inner) × (Mem 39 inner → ⊥) × (rest ≡ [])))

-- the same, in quotes or not
abbrev Ends : Bool → (word rest : List ℕ) → Type 0
Ends false word rest = Outside word rest
Ends true word rest = ((inner : List ℕ) × (later : List ℕ) × (word ≡ inner ++ 39 ∷ later) × (Mem 39 inner → ⊥) × Outside later rest) ⊎ ((Mem 39 word → ⊥) × (rest ≡ []))

-- a piece before bytes that end so
piece_ends : (p word rest : List ℕ) → Ends false word rest → (ps : (later : List ℕ) (pieces : List (List ℕ)) → ArePieces pieces later → ArePieces (p ∷ pieces) (p ++ later)) → Ends false (p ++ word) rest
piece_ends p word rest (pieces, front, are, inl (e, begins)) ps = (p ∷ pieces, p ++ front, ps front pieces are, inl (ap (λ (l : List ℕ). p ++ l) e, begins))
piece_ends p word rest (pieces, front, are, inr (inner, e, never, none)) ps =
    (p ∷ pieces, p ++ front, ps front pieces are, inr (inner, ap (λ (l : List ℕ). p ++ l) e ∙ sym (append_assoc p front (39 ∷ inner)), never, none))

quote_ends : (word rest : List ℕ) → Ends true word rest → Ends false (39 ∷ word) rest
quote_ends word rest (inl (inner, later, e, never, ends)) =
    let p : List ℕ = 39 ∷ (inner ++ 39 ∷ []) in
    let whole : p ++ later ≡ 39 ∷ word = ap (λ (l : List ℕ). 39 ∷ l) (append_assoc inner (39 ∷ []) later ∙ sym e) in
    subst (λ (l : List ℕ). Ends false l rest) whole (piece_ends p later rest ends (λ l ps are. (l, refl, inr (inner, refl, never), are)))
quote_ends word rest (inr (never, none)) = ([], [], refl, inr (word, refl, never, none))

plain_ends : (b : ℕ) (word rest : List ℕ) → (b ≡ 32 → ⊥) → (b ≡ 39 → ⊥) → Ends false word rest → Ends false (b ∷ word) rest
plain_ends b word rest ne nq ends = piece_ends (b ∷ []) word rest ends (λ l ps are. (l, refl, inl (b, refl, ne, nq), are))

within_ends : (b : ℕ) (word rest : List ℕ) → (b ≡ 39 → ⊥) → Ends true word rest → Ends true (b ∷ word) rest
within_ends b word rest nq (inl (inner, later, e, never, ends)) = inl (b ∷ inner, later, ap (λ (l : List ℕ). b ∷ l) e, no_quote_first b inner nq never, ends)
within_ends b word rest nq (inr (never, none)) = inr (no_quote_first b word nq never, none)

-- where the reader ends a word
abbrev EndsAt : Bool → List ℕ → Type 0
EndsAt quoted bytes = Ends quoted (take (word_len quoted bytes) bytes) (drop (word_len quoted bytes) bytes)

at_len : (quoted : Bool) (b : ℕ) (bs : List ℕ) (n : ℕ) → word_len quoted (b ∷ bs) ≡ 1 + n → Ends quoted (b ∷ take n bs) (drop n bs) → EndsAt quoted (b ∷ bs)
at_len quoted b bs n e h =
    let one : word_len quoted (b ∷ bs) ≡ suc n = omega (arith, e) in
    subst (λ (k : ℕ). Ends quoted (take k (b ∷ bs)) (drop k (b ∷ bs))) (sym one) h

quote_first : (quoted : Bool) (b : ℕ) (bs : List ℕ) → (eqb b 39 ≡ true) × (b ≡ 39) → (eqb b 32 && not quoted) ≡ false
quote_first quoted b bs q = ap (λ (c : ℕ). eqb c 32 && not quoted) q.1

ends_at : (quoted : Bool) (bytes : List ℕ) → EndsAt quoted bytes
ends_at false [] = ([], [], refl, inl (refl, tt))
ends_at true [] = inr ((λ m. m), refl)
ends_at false (b ∷ bs) = elim (eqb_tells b 39) [
  | inl q ↦ at_len false b bs (word_len true bs) (len_step false b bs false true (quote_first false b bs q) q.0)
      (subst (λ (c : ℕ). Ends false (c ∷ take (word_len true bs) bs) (drop (word_len true bs) bs)) (sym q.1) (quote_ends (take (word_len true bs) bs) (drop (word_len true bs) bs) (ends_at true bs)))
  | inr q ↦ elim (eqb_tells b 32) [
    | inl p ↦
        let none : word_len false (b ∷ bs) ≡ 0 = len_step false b bs true false (ap (λ (u : Bool). u && true) p.0) q.0 in
        subst (λ (k : ℕ). Ends false (take k (b ∷ bs)) (drop k (b ∷ bs))) (sym none) ([], [], refl, inl (refl, p.1))
    | inr p ↦ at_len false b bs (word_len false bs) (len_step false b bs false false (ap (λ (u : Bool). u && true) p.0) q.0)
        (plain_ends b (take (word_len false bs) bs) (drop (word_len false bs) bs) p.1 q.1 (ends_at false bs))
  ]
]
ends_at true (b ∷ bs) = elim (eqb_tells b 39) [
  | inl q ↦ at_len true b bs (word_len false bs) (len_step true b bs false true (quote_first true b bs q) q.0)
      (inl ([], take (word_len false bs) bs, ap (λ (c : ℕ). c ∷ take (word_len false bs) bs) q.1, (λ m. m), ends_at false bs))
  | inr q ↦ at_len true b bs (word_len true bs) (quoted_step b bs q.1).0 (within_ends b (take (word_len true bs) bs) (drop (word_len true bs) bs) q.1 (ends_at true bs))
]

-- ---- the first word is found

-- a word that has a byte
some_word : (c : ℕ) (cs rest : List ℕ) → Ends false (c ∷ cs) rest → (IsWord (c ∷ cs) × BeginsBlank rest) ⊎ (IsOpenWord (c ∷ cs) × (rest ≡ []))
some_word c cs rest ([], front, are, inl (e, begins)) = absurd (let f : c ∷ cs ≡ [] = e ∙ are in cc)
some_word c cs rest (p ∷ ps, front, are, inl (e, begins)) = inl ((p, ps, subst (ArePieces (p ∷ ps)) (sym e) are), begins)
some_word c cs rest (pieces, front, are, inr (inner, e, never, none)) = inr ((front, pieces, inner, e, are, never), none)

first_by : (b : ℕ) (bs w rest : List ℕ) → ((eqb b 32 ≡ true) × (b ≡ 32)) ⊎ ((eqb b 32 ≡ false) × (b ≡ 32 → ⊥)) → (first_word bs ≡ some_front (w, rest) → IsFirstWord w rest bs) → first_word (b ∷ bs) ≡ some_front (w, rest) → IsFirstWord w rest (b ∷ bs)
first_by b bs w rest (inl p) more e =
    let n : ℕ = word_len false (b ∷ bs) in
    let f = more (sym (ap (λ (u : Bool). cond u (first_word bs) (some_front (take n (b ∷ bs), drop n (b ∷ bs)))) p.0) ∙ e) in
    (b ∷ f.0, ap (λ (l : List ℕ). b ∷ l) f.1, (p.1, f.2), f.3)
first_by b bs w rest (inr p) more e =
    let n : ℕ = word_len false (b ∷ bs) in
    let f : some_front (take n (b ∷ bs), drop n (b ∷ bs)) ≡ some_front (w, rest) = sym (ap (λ (u : Bool). cond u (first_word bs) (some_front (take n (b ∷ bs), drop n (b ∷ bs)))) p.0) ∙ e in
    let both = front_same (take n (b ∷ bs)) w (drop n (b ∷ bs)) rest f in
    let whole : b ∷ bs ≡ w ++ rest = sym (take-append-drop n (b ∷ bs)) ∙ ap (λ (l : List ℕ). l ++ drop n (b ∷ bs)) both.0 ∙ ap (λ (l : List ℕ). w ++ l) both.1 in
    let ends : Ends false w rest = subst (λ (l : List ℕ). Ends false l rest) both.0 (subst (Ends false (take n (b ∷ bs))) both.1 (ends_at false (b ∷ bs))) in
    ([], whole, tt, at_word b bs w rest p.1 whole ends)
  where
    at_word : (b : ℕ) (bs w rest : List ℕ) → (b ≡ 32 → ⊥) → b ∷ bs ≡ w ++ rest → Ends false w rest → (IsWord w × BeginsBlank rest) ⊎ (IsOpenWord w × (rest ≡ []))
    at_word b bs [] [] ne e ends = absurd cc
    at_word b bs [] (r ∷ rs) ne e ([], front, are, inl (f, begins)) = absurd (let same : b ≡ r = cc in ne (same ∙ begins))
    at_word b bs [] (r ∷ rs) ne e (p ∷ ps, front, are, inl (f, begins)) = absurd (let same : b ≡ r = cc in ne (same ∙ begins))
    at_word b bs [] (r ∷ rs) ne e (pieces, front, are, inr (inner, f, never, none)) = absurd cc
    at_word b bs (c ∷ cs) rest ne e ends = some_word c cs rest ends

pub first_word_found : (text w rest : List ℕ) → first_word text ≡ some_front (w, rest) → IsFirstWord w rest text
first_word_found [] w rest e = absurd cc
first_word_found (b ∷ bs) w rest e = first_by b bs w rest (eqb_tells b 32) (λ f. first_word_found bs w rest f) e

-- ---- the first word is read

quoted_len : (inner : List ℕ) → (Mem 39 inner → ⊥) → word_len true inner ≡ length inner
quoted_len [] never = refl
quoted_len (b ∷ bs) never =
    let one = (quoted_step b bs (λ e. never (inl (sym e)))).0 in
    let more = quoted_len bs (λ m. never (inr m)) in
    omega (arith, one, more)

record Opened (w : List ℕ) : Type 0 where
  first : ℕ
  others : List ℕ
  is : w ≡ first ∷ others
  no_blank : first ≡ 32 → ⊥

opened : (front : List ℕ) (pieces : List (List ℕ)) (inner : List ℕ) → ArePieces pieces front → Opened (front ++ 39 ∷ inner)
opened front [] inner are = record { first = 39; others = inner; is = ap (λ (l : List ℕ). l ++ 39 ∷ inner) are; no_blank = quote_no_blank 39 refl }
opened front (p ∷ ps) inner are =
    let b = piece_begun p (are.0 ++ 39 ∷ inner) are.2 in
    record { first = b.first; others = b.others; is = ap (λ (l : List ℕ). l ++ 39 ∷ inner) are.1 ∙ append_assoc p are.0 (39 ∷ inner) ∙ b.is; no_blank = b.no_blank }

open_len : (w : List ℕ) → IsOpenWord w → word_len false w ≡ length w
open_len w (front, pieces, inner, e, are, never) =
    let passed = pieces_passed pieces front (39 ∷ inner) are in
    let quote : word_len false (39 ∷ inner) ≡ 1 + word_len true inner = len_step false 39 inner false true refl refl in
    let long = length-append front (39 ∷ inner) in
    let len : word_len false (front ++ 39 ∷ inner) ≡ length (front ++ 39 ∷ inner) = omega (arith, passed.0, quote, quoted_len inner never, long) in
    ap (word_len false) e ∙ len ∙ ap length (sym e)

open_first : (w : List ℕ) → IsOpenWord w → first_word (w ++ []) ≡ some_front (w, [])
open_first w h =
    let o = opened h.0 h.1 h.2 h.4 in
    let is : w ≡ o.first ∷ o.others = h.3 ∙ o.is in
    let len : word_len false (w ++ []) ≡ length w = ap (word_len false) (append-nil w) ∙ open_len w h in
    subst (λ (l : List ℕ). first_word (l ++ []) ≡ some_front (l, [])) (sym is) (word_first o.first o.others [] o.no_blank (subst (λ (l : List ℕ). word_len false (l ++ []) ≡ length l) is len))

pub first_word_read : (text w rest : List ℕ) → IsFirstWord w rest text → first_word text ≡ some_front (w, rest)
first_word_read text w rest (blanks, e, are, inl (is, begins)) = first_read text blanks w rest e are is begins
first_word_read text w rest (blanks, e, are, inr (is, none)) =
    ap first_word e ∙ past_blanks blanks (w ++ rest) are ∙ ap (λ (l : List ℕ). first_word (w ++ l)) none ∙ open_first w is ∙ ap (λ (l : List ℕ). some_front (w, l)) (sym none)

-- ---- one word

begins_blank : (bytes : List ℕ) → AreBlanks bytes → BeginsBlank bytes
begins_blank [] h = tt
begins_blank (b ∷ bs) h = h.0

pub only_read : (word text : List ℕ) → IsWord word → IsOnly word text → (rest : List ℕ) × (first_word text ≡ some_front (word, rest)) × (first_word rest ≡ no_front)
only_read word text is (front, back, e, before, behind) = (back, first_read text front word back e before is (begins_blank back behind), no_word_read back behind)

pub only_found : (word text rest : List ℕ) → first_word text ≡ some_front (word, rest) → first_word rest ≡ no_front → IsOnly word text
only_found word text rest e f =
    let at = first_found text word rest e in
    (at.blanks, rest, at.whole, at.are, no_word_found rest f)
