-- Words and texts in quotes at the front of some bytes, both ways.
use Rattle.std.proofs.Common.{◌≡◌, ℕ, suc, ◌+◌, ◌≤◌, Bool, true, false, cond, eqb, List, [], ◌∷◌, ◌++◌, length, take, drop, refl, sym, ap, subst, ◌∙◌, arith}
use Rattle.std.specs.Prelude.{Option, Some, None, not}
use Rattle.std.specs.List.{position_or_len, list_all}
use Rattle.std.proofs.lemmas.Bool.{eqb-true, and_parts, and_from, cond-true, cond-false}
use Rattle.std.proofs.lemmas.Bool.Decides.{nat_tests}
use Rattle.mq_text.specs.Quoting.{doubled, quoted_len, undoubled, longer}
use Rattle.mq_text.specs.Pieces.{is_break}
use Rattle.mq_sc_grammar.specs.Written.{BeginsApart, BeginsUnquoted}

pub not_true : (b : Bool) → not b ≡ true → b ≡ false
not_true true e = absurd cc
not_true false e = refl

-- ---- words

abbrev pub are_plain : List ℕ → Bool
are_plain bytes = list_all (λ (c : ℕ). not (is_break c)) bytes

pub word_ends : (bytes rest : List ℕ) → are_plain bytes ≡ true → BeginsApart rest → position_or_len is_break (bytes ++ rest) ≡ length bytes
word_ends [] [] e h = refl
word_ends [] (c ∷ cs) e h = cond-false (not (is_break c)) (1 + position_or_len is_break cs) 0 (ap not h)
word_ends (b ∷ bs) rest e h =
    let p = and_parts (not (is_break b)) (are_plain bs) e in
    let one = cond-true (not (is_break b)) (1 + position_or_len is_break (bs ++ rest)) 0 p.0 in
    let more = word_ends bs rest p.1 h in
    one ∙ omega (arith, more)

-- the longest front that is a word
pub record WordFront (bytes : List ℕ) (n : ℕ) : Type 0 where
  pub plain : are_plain (take n bytes) ≡ true
  pub apart : BeginsApart (drop n bytes)
  pub within : n ≤ length bytes

word_step : (b : ℕ) (bs : List ℕ) → WordFront bs (position_or_len is_break bs) → (t : Bool) → is_break b ≡ t → WordFront (b ∷ bs) (position_or_len is_break (b ∷ bs))
word_step b bs h true e =
    let none = cond-false (not (is_break b)) (1 + position_or_len is_break bs) 0 (ap not e) in
    subst (WordFront (b ∷ bs)) (sym none) (record { plain = refl; apart = e; within = omega arith })
word_step b bs h false e =
    let n : ℕ = position_or_len is_break bs in
    let plain : not (is_break b) ≡ true = ap not e in
    let one : position_or_len is_break (b ∷ bs) ≡ suc n = cond-true (not (is_break b)) (1 + n) 0 plain ∙ omega arith in
    subst (WordFront (b ∷ bs)) (sym one) (record { plain = and_from (not (is_break b)) (are_plain (take n bs)) plain h.plain; apart = h.apart; within = omega (arith, h.within) })

pub word_front : (bytes : List ℕ) → WordFront bytes (position_or_len is_break bytes)
word_front [] = record { plain = refl; apart = tt; within = omega arith }
word_front (b ∷ bs) = word_step b bs (word_front bs) (is_break b) refl

-- ---- texts in quotes

pub no_quote : (b : ℕ) → (b ≡ 39 → ⊥) → eqb b 39 ≡ false
no_quote b ne = grind (arith, nat_tests)

pub is_no_quote : (b : ℕ) → eqb b 39 ≡ false → b ≡ 39 → ⊥
is_no_quote b e q = absurd (let c : eqb b 39 ≡ true = grind (arith, nat_tests) in let f : true ≡ false = sym c ∙ e in cc)

len_other : (b : ℕ) (bs : List ℕ) → eqb b 39 ≡ false → quoted_len (b ∷ bs) ≡ longer 1 (quoted_len bs)
len_other b [] e = rw e refl
len_other b (c ∷ bs) e = rw e refl

undoubled_other : (b : ℕ) (bs : List ℕ) → eqb b 39 ≡ false → undoubled (b ∷ bs) ≡ b ∷ undoubled bs
undoubled_other b [] e = rw e refl
undoubled_other b (c ∷ bs) e = rw e refl

abbrev some_len : ℕ → Option ℕ
some_len n = Some n

doubled_quote : (b : ℕ) (w : List ℕ) → eqb b 39 ≡ true → doubled (b ∷ w) ≡ 39 ∷ 39 ∷ doubled w
doubled_quote b w e = cond-true (eqb b 39) (39 ∷ 39 ∷ doubled w) (b ∷ doubled w) e

doubled_other : (b : ℕ) (w : List ℕ) → eqb b 39 ≡ false → doubled (b ∷ w) ≡ b ∷ doubled w
doubled_other b w e = cond-false (eqb b 39) (39 ∷ 39 ∷ doubled w) (b ∷ doubled w) e

ends_step : (b : ℕ) (w rest : List ℕ) → quoted_len (doubled w ++ 39 ∷ rest) ≡ some_len (length (doubled w) + 1) → (t : Bool) → eqb b 39 ≡ t → quoted_len (doubled (b ∷ w) ++ 39 ∷ rest) ≡ some_len (length (doubled (b ∷ w)) + 1)
ends_step b w rest ih true e =
    let d = doubled_quote b w e in
    let n : 2 + (length (doubled w) + 1) ≡ length (doubled (b ∷ w)) + 1 = omega (arith, ap length d) in
    ap (λ (l : List ℕ). quoted_len (l ++ 39 ∷ rest)) d ∙ ap (longer 2) ih ∙ ap some_len n
ends_step b w rest ih false e =
    let d = doubled_other b w e in
    let n : 1 + (length (doubled w) + 1) ≡ length (doubled (b ∷ w)) + 1 = omega (arith, ap length d) in
    ap (λ (l : List ℕ). quoted_len (l ++ 39 ∷ rest)) d ∙ len_other b (doubled w ++ 39 ∷ rest) e ∙ ap (longer 1) ih ∙ ap some_len n

pub quoted_ends : (w rest : List ℕ) → BeginsUnquoted rest → quoted_len (doubled w ++ 39 ∷ rest) ≡ some_len (length (doubled w) + 1)
quoted_ends [] [] h = refl
quoted_ends [] (c ∷ cs) h = rw (no_quote c h) refl
quoted_ends (b ∷ w) rest h = ends_step b w rest (quoted_ends w rest h) (eqb b 39) refl

reads_step : (b : ℕ) (w : List ℕ) → undoubled (doubled w ++ 39 ∷ []) ≡ w → (t : Bool) → eqb b 39 ≡ t → undoubled (doubled (b ∷ w) ++ 39 ∷ []) ≡ b ∷ w
reads_step b w ih true e =
    ap (λ (l : List ℕ). undoubled (l ++ 39 ∷ [])) (doubled_quote b w e) ∙ ap (λ (l : List ℕ). 39 ∷ l) ih ∙ ap (λ (c : ℕ). c ∷ w) (sym (eqb-true b 39 e))
reads_step b w ih false e =
    ap (λ (l : List ℕ). undoubled (l ++ 39 ∷ [])) (doubled_other b w e) ∙ undoubled_other b (doubled w ++ 39 ∷ []) e ∙ ap (λ (l : List ℕ). b ∷ l) ih

pub quoted_reads : (w : List ℕ) → undoubled (doubled w ++ 39 ∷ []) ≡ w
quoted_reads [] = refl
quoted_reads (b ∷ w) = reads_step b w (quoted_reads w) (eqb b 39) refl

-- a front that is a text up to its closing quote
pub record QuotedFront (bytes : List ℕ) (n : ℕ) : Type 0 where
  pub text : List ℕ
  pub front : take n bytes ≡ doubled text ++ 39 ∷ []
  pub apart : BeginsUnquoted (drop n bytes)
  pub within : n ≤ length bytes

longer_some : (k n : ℕ) (o : Option ℕ) → longer k o ≡ some_len n → (m : ℕ) × (o ≡ some_len m) × (k + m ≡ n)
longer_some k n None e = absurd cc
longer_some k n (Some m) e = (m, refl, cc)

one_quote : (b n : ℕ) (t : Bool) → eqb b 39 ≡ t → cond t (some_len 1) None ≡ some_len n → QuotedFront (b ∷ []) n
one_quote b n true e h =
    let one : 1 ≡ n = cc in
    subst (QuotedFront (b ∷ [])) one (record { text = []; front = ap (λ (c : ℕ). c ∷ []) (eqb-true b 39 e); apart = tt; within = omega arith })
one_quote b n false e h = absurd cc

two_quotes : (b c n : ℕ) (bs : List ℕ) → ((m : ℕ) → quoted_len bs ≡ some_len m → QuotedFront bs m) → ((m : ℕ) → quoted_len (c ∷ bs) ≡ some_len m → QuotedFront (c ∷ bs) m)
    → (s t : Bool) → eqb b 39 ≡ s → eqb c 39 ≡ t → cond s (cond t (longer 2 (quoted_len bs)) (some_len 1)) (longer 1 (quoted_len (c ∷ bs))) ≡ some_len n → QuotedFront (b ∷ c ∷ bs) n
two_quotes b c n bs two one true true e f h =
    let m = longer_some 2 n (quoted_len bs) h in
    let q = two m.0 m.1 in
    let k : suc (suc m.0) ≡ n = omega (arith, m.2) in
    let first : b ∷ c ∷ take m.0 bs ≡ 39 ∷ 39 ∷ take m.0 bs = ap (λ (x : ℕ). x ∷ c ∷ take m.0 bs) (eqb-true b 39 e) ∙ ap (λ (x : ℕ). 39 ∷ x ∷ take m.0 bs) (eqb-true c 39 f) in
    subst (QuotedFront (b ∷ c ∷ bs)) k (record { text = 39 ∷ q.text; front = first ∙ ap (λ (l : List ℕ). 39 ∷ 39 ∷ l) q.front; apart = q.apart; within = omega (arith, q.within) })
two_quotes b c n bs two one true false e f h =
    let k : 1 ≡ n = cc in
    subst (QuotedFront (b ∷ c ∷ bs)) k (record { text = []; front = ap (λ (x : ℕ). x ∷ []) (eqb-true b 39 e); apart = is_no_quote c f; within = omega arith })
two_quotes b c n bs two one false t e f h =
    let m = longer_some 1 n (quoted_len (c ∷ bs)) h in
    let q = one m.0 m.1 in
    let k : suc m.0 ≡ n = omega (arith, m.2) in
    subst (QuotedFront (b ∷ c ∷ bs)) k (record { text = b ∷ q.text; front = ap (λ (l : List ℕ). b ∷ l) q.front ∙ ap (λ (l : List ℕ). l ++ 39 ∷ []) (sym (doubled_other b q.text e)); apart = q.apart; within = omega (arith, q.within) })

pub quoted_front : (bytes : List ℕ) (n : ℕ) → quoted_len bytes ≡ some_len n → QuotedFront bytes n
quoted_front [] n h = absurd cc
quoted_front (b ∷ []) n h = one_quote b n (eqb b 39) refl h
quoted_front (b ∷ c ∷ bs) n h = two_quotes b c n bs (λ m e. quoted_front bs m e) (λ m e. quoted_front (c ∷ bs) m e) (eqb b 39) (eqb c 39) refl refl h
