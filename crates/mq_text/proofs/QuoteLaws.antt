-- A text in quotes byte by byte, as the reader meets it.
use Rattle.std.proofs.Common.{◌≡◌, ℕ, zero, suc, ◌+◌, ◌<◌, ◌≤◌, ◌≢◌, true, false, eqb, List, [], ◌∷◌, ◌++◌, length, drop, get_or, refl, sym, ap, ◌∙◌, append_assoc, add-one, arith}
use Rattle.std.specs.Prelude.{Option, Some, None}
use Rattle.std.proofs.Math.Seq.{drop-cons}
use Rattle.std.proofs.lemmas.Bool.Decides.{nat_tests}
use Rattle.mq_text.specs.Quoting.{quoted_len, undoubled, longer}

no_quote : (b : ℕ) → b ≢ 39 → eqb b 39 ≡ false
no_quote b ne = grind (arith, nat_tests)

a_quote : (b : ℕ) → b ≡ 39 → eqb b 39 ≡ true
a_quote b e = grind (arith, nat_tests)

-- a byte and what is behind it
pub front_at : (bytes : List ℕ) (at : ℕ) → at < length bytes → drop at bytes ≡ get_or bytes at 0 ∷ drop (at + 1) bytes
front_at bytes at lt = rw (add-one, drop-cons bytes at 0) refl

pub two_at : (bytes : List ℕ) (at : ℕ) → at + 1 < length bytes → drop at bytes ≡ get_or bytes at 0 ∷ get_or bytes (at + 1) 0 ∷ drop (at + 2) bytes
two_at bytes at lt =
    let two : (at + 1) + 1 ≡ at + 2 = omega arith in
    front_at bytes at (omega arith) ∙ ap (λ (l : List ℕ). get_or bytes at 0 ∷ l) (front_at bytes (at + 1) lt ∙ ap (λ (k : ℕ). get_or bytes (at + 1) 0 ∷ drop k bytes) two)

pub last_at : (bytes : List ℕ) (at : ℕ) → at < length bytes → length bytes ≤ at + 1 → drop at bytes ≡ get_or bytes at 0 ∷ []
last_at bytes at lt le = front_at bytes at lt ∙ ap (λ (l : List ℕ). get_or bytes at 0 ∷ l) (past bytes (at + 1) le) where
  past : (bs : List ℕ) (n : ℕ) → length bs ≤ n → drop n bs ≡ []
  past [] zero le = refl
  past [] (suc n) le = refl
  past (b ∷ bs) zero le = absurd (omega arith)
  past (b ∷ bs) (suc n) le = past bs n (omega arith)

longer_longer : (m n : ℕ) (o : Option ℕ) → longer m (longer n o) ≡ longer (m + n) o
longer_longer m n None = refl
longer_longer m n (Some k) = ap (λ (x : ℕ). Some x) (omega arith)

len_other : (b : ℕ) (bs : List ℕ) → b ≢ 39 → quoted_len (b ∷ bs) ≡ longer 1 (quoted_len bs)
len_other b [] ne = rw no_quote refl
len_other b (c ∷ bs) ne = rw no_quote refl

len_two : (b c : ℕ) (bs : List ℕ) → b ≡ 39 → c ≡ 39 → quoted_len (b ∷ c ∷ bs) ≡ longer 2 (quoted_len bs)
len_two b c bs e f = rw (a_quote b e, a_quote c f) refl

len_closed : (b c : ℕ) (bs : List ℕ) → b ≡ 39 → c ≢ 39 → quoted_len (b ∷ c ∷ bs) ≡ Some 1
len_closed b c bs e f = rw (a_quote b e, no_quote c f) refl

len_last : (b : ℕ) → b ≡ 39 → quoted_len (b ∷ []) ≡ Some 1
len_last b e = rw (a_quote b e) refl

pub len_goes : (bytes : List ℕ) (at : ℕ) → at < length bytes → get_or bytes at 0 ≢ 39 → longer at (quoted_len (drop at bytes)) ≡ quoted_len bytes → longer (at + 1) (quoted_len (drop (at + 1) bytes)) ≡ quoted_len bytes
len_goes bytes at lt ne h =
    let one : longer at (quoted_len (drop at bytes)) ≡ longer (at + 1) (quoted_len (drop (at + 1) bytes)) =
    ap (λ (l : List ℕ). longer at (quoted_len l)) (front_at bytes at lt) ∙ ap (longer at) (len_other (get_or bytes at 0) (drop (at + 1) bytes) ne) ∙ longer_longer at 1 (quoted_len (drop (at + 1) bytes)) in
    sym one ∙ h

pub len_goes_two : (bytes : List ℕ) (at : ℕ) → at + 1 < length bytes → get_or bytes at 0 ≡ 39 → get_or bytes (at + 1) 0 ≡ 39 → longer at (quoted_len (drop at bytes)) ≡ quoted_len bytes → longer (at + 2) (quoted_len (drop (at + 2) bytes)) ≡ quoted_len bytes
len_goes_two bytes at lt e f h =
    let one : longer at (quoted_len (drop at bytes)) ≡ longer (at + 2) (quoted_len (drop (at + 2) bytes)) =
    ap (λ (l : List ℕ). longer at (quoted_len l)) (two_at bytes at lt) ∙ ap (longer at) (len_two (get_or bytes at 0) (get_or bytes (at + 1) 0) (drop (at + 2) bytes) e f) ∙ longer_longer at 2 (quoted_len (drop (at + 2) bytes)) in
    sym one ∙ h

undoubled_other : (b : ℕ) (bs : List ℕ) → b ≢ 39 → undoubled (b ∷ bs) ≡ b ∷ undoubled bs
undoubled_other b [] ne = rw no_quote refl
undoubled_other b (c ∷ bs) ne = rw no_quote refl

-- a byte that is no quote goes to the text
pub text_goes : (text bytes : List ℕ) (at : ℕ) → at < length bytes → get_or bytes at 0 ≢ 39 → text ++ undoubled (drop at bytes) ≡ undoubled bytes → (text ++ get_or bytes at 0 ∷ []) ++ undoubled (drop (at + 1) bytes) ≡ undoubled bytes
text_goes text bytes at lt ne h =
    let one : undoubled (drop at bytes) ≡ get_or bytes at 0 ∷ undoubled (drop (at + 1) bytes) = ap undoubled (front_at bytes at lt) ∙ undoubled_other (get_or bytes at 0) (drop (at + 1) bytes) ne in
    rw append_assoc (rw one at h)
