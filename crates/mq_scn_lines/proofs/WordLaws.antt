-- The words of a line, as the reader meets them.
use Rattle.std.proofs.Common.{◌≡◌, ℕ, zero, suc, ◌+◌, ◌-◌, ◌<◌, ◌≤◌, ◌≢◌, true, false, eqb, List, [], ◌∷◌, ◌++◌, length, map, take, drop, refl, sym, ap, ◌∙◌, append_assoc, arith}
use Rattle.std.specs.Prelude.{not, ◌&&◌}
use Rattle.std.proofs.lemmas.Bool.Decides.{nat_tests}
use Rattle.mq_scn_lines.specs.Words.{word_len, toggled, words_from}

-- the bytes of a word are passed
pub passed : (n : ℕ) (bytes : List ℕ) → n ≤ length bytes → words_from n bytes ≡ words_from 0 (drop n bytes)
passed zero bytes le = refl
passed (suc n) [] le = absurd (omega arith)
passed (suc n) (b ∷ bs) le = passed n bs (omega arith)

no_blank : (b : ℕ) → b ≢ 32 → eqb b 32 ≡ false
no_blank b ne = grind (arith, nat_tests)

-- a word has a byte or more
word_some : (b : ℕ) (bs : List ℕ) → b ≢ 32 → word_len false (b ∷ bs) ≡ 1 + word_len (toggled false b) bs
word_some b bs ne = rw (no_blank b ne) refl

-- a word, and the words behind it
pub word_passed : (b : ℕ) (bs : List ℕ) (n : ℕ) → b ≢ 32 → n ≡ word_len false (b ∷ bs) → n ≤ length (b ∷ bs) → words_from 0 (b ∷ bs) ≡ take n (b ∷ bs) ∷ words_from 0 (drop n (b ∷ bs))
word_passed b bs n ne e le =
    let some : n ≡ 1 + word_len (toggled false b) bs = e ∙ word_some b bs ne in
    let inner : n - 1 ≤ length bs = omega arith in
    let whole : suc (n - 1) ≡ n = omega arith in
    let one : words_from 0 (b ∷ bs) ≡ take (word_len false (b ∷ bs)) (b ∷ bs) ∷ words_from (word_len false (b ∷ bs) - 1) bs = rw (no_blank b ne) refl in
    let back : words_from (n - 1) bs ≡ words_from 0 (drop n (b ∷ bs)) = passed (n - 1) bs inner ∙ ap (λ (k : ℕ). words_from 0 (drop k (b ∷ bs))) whole in
    one ∙ ap (λ (k : ℕ). take k (b ∷ bs) ∷ words_from (k - 1) bs) (sym e) ∙ ap (λ (ws : List (List ℕ)). take n (b ∷ bs) ∷ ws) back

pub len_some : (b : ℕ) (bs : List ℕ) → b ≢ 32 → 0 < word_len false (b ∷ bs)
len_some b bs ne = omega (arith, word_some b bs ne)
