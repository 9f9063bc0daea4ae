-- How a line ends.
use Rattle.std.proofs.Common.{◌≡◌, ◌≢◌, ℕ, suc, ◌-◌, ◌<◌, ◌≤◌, Bool, true, false, eqb, List, [], ◌∷◌, ◌++◌, length, take, drop, get_or, refl, sym, ap, ◌∙◌, subst, arith}
use Rattle.std.specs.Prelude.{◌&&◌}
use Rattle.std.proofs.Math.Seq.{drop-cons}
use Rattle.std.proofs.lemmas.List.{take-append-drop}
use Rattle.std.proofs.lemmas.Bool.{eqb-true}
use Rattle.std.proofs.lemmas.Bool.Decides.{nat_tests}
use Rattle.mq_sc_lex.specs.declared.joining.Ending.TheVariants.{Whole}
use Rattle.mq_sc_lex.specs.Joining.{are_blank, sign, is_sign, ending_of, body_of, IsTrimmed}

both : (a b : Bool) → (a && b) ≡ true → (a ≡ true) × (b ≡ true)
both true b e = (refl, e)
both false b e = absurd cc

and_false : (a : Bool) → (a && false) ≡ false
and_false true = refl
and_false false = refl

no_blank : (x : ℕ) → x ≢ 32 → eqb x 32 ≡ false
no_blank x ne = grind (arith, nat_tests)

sign_blank : (b : ℕ) → eqb b 32 ≡ true → (sign b ≡ Whole) × (is_sign b ≡ false)
sign_blank b e =
    let same : 32 ≡ b = sym (eqb-true b 32 e) in
    subst (λ (x : ℕ). (sign x ≡ Whole) × (is_sign x ≡ false)) same (refl, refl)

-- a line of blanks is whole
pub blanks_end : (bytes : List ℕ) → are_blank bytes ≡ true → ending_of bytes ≡ Whole
blanks_end [] e = refl
blanks_end (b ∷ bs) e =
    let p = both (eqb b 32) (are_blank bs) e in
    rw p.1 (sign_blank b p.0).0

pub blanks_body : (bytes : List ℕ) → are_blank bytes ≡ true → body_of bytes ≡ bytes
blanks_body [] e = refl
blanks_body (b ∷ bs) e =
    let p = both (eqb b 32) (are_blank bs) e in
    let no : (are_blank bs && is_sign b) ≡ false = rw (sign_blank b p.0).1 (and_false (are_blank bs)) in
    rw no (ap (λ (l : List ℕ). b ∷ l) (blanks_body bs p.1))

not_blank : (front blanks : List ℕ) (x : ℕ) → x ≢ 32 → are_blank (front ++ x ∷ blanks) ≡ false
not_blank [] blanks x ne = rw (no_blank x ne) refl
not_blank (b ∷ front) blanks x ne = rw (not_blank front blanks x ne) (and_false (eqb b 32))

ending_at : (front blanks : List ℕ) (x : ℕ) → are_blank blanks ≡ true → x ≢ 32 → ending_of (front ++ x ∷ blanks) ≡ sign x
ending_at [] blanks x e ne = rw e refl
ending_at (b ∷ front) blanks x e ne = rw (not_blank front blanks x ne) (ending_at front blanks x e ne)

body_sign : (front blanks : List ℕ) (x : ℕ) → are_blank blanks ≡ true → x ≢ 32 → is_sign x ≡ true → body_of (front ++ x ∷ blanks) ≡ front
body_sign [] blanks x e ne s = rw (e, s) refl
body_sign (b ∷ front) blanks x e ne s = rw (not_blank front blanks x ne) (ap (λ (l : List ℕ). b ∷ l) (body_sign front blanks x e ne s))

body_other : (front blanks : List ℕ) (x : ℕ) → are_blank blanks ≡ true → x ≢ 32 → is_sign x ≡ false → body_of (front ++ x ∷ blanks) ≡ front ++ x ∷ blanks
body_other [] blanks x e ne s =
    let no : (are_blank blanks && is_sign x) ≡ false = rw s (and_false (are_blank blanks)) in
    rw no (ap (λ (l : List ℕ). x ∷ l) (blanks_body blanks e))
body_other (b ∷ front) blanks x e ne s = rw (not_blank front blanks x ne) (ap (λ (l : List ℕ). b ∷ l) (body_other front blanks x e ne s))

-- a line around its last nonblank
parts_at : (bytes : List ℕ) (len : ℕ) → 0 < len → len ≤ length bytes → bytes ≡ take (len - 1) bytes ++ get_or bytes (len - 1) 0 ∷ drop len bytes
parts_at bytes len some le =
    let one : suc (len - 1) ≡ len = omega arith in
    let lt : len - 1 < length bytes = omega arith in
    sym (take-append-drop (len - 1) bytes) ∙ ap (λ (l : List ℕ). take (len - 1) bytes ++ l) (drop-cons bytes (len - 1) 0 lt ∙ ap (λ (k : ℕ). get_or bytes (len - 1) 0 ∷ drop k bytes) one)

pub trimmed_ending : (bytes : List ℕ) (len : ℕ) → IsTrimmed bytes len → 0 < len → ending_of bytes ≡ sign (get_or bytes (len - 1) 0)
trimmed_ending bytes len h some = ap ending_of (parts_at bytes len some h.within) ∙ ending_at (take (len - 1) bytes) (drop len bytes) (get_or bytes (len - 1) 0) h.blanks (h.last some)

pub trimmed_sign : (bytes : List ℕ) (len : ℕ) → IsTrimmed bytes len → 0 < len → is_sign (get_or bytes (len - 1) 0) ≡ true → body_of bytes ≡ take (len - 1) bytes
trimmed_sign bytes len h some s = ap body_of (parts_at bytes len some h.within) ∙ body_sign (take (len - 1) bytes) (drop len bytes) (get_or bytes (len - 1) 0) h.blanks (h.last some) s

pub trimmed_other : (bytes : List ℕ) (len : ℕ) → IsTrimmed bytes len → 0 < len → is_sign (get_or bytes (len - 1) 0) ≡ false → body_of bytes ≡ bytes
trimmed_other bytes len h some s =
    let parts = parts_at bytes len some h.within in
    ap body_of parts ∙ body_other (take (len - 1) bytes) (drop len bytes) (get_or bytes (len - 1) 0) h.blanks (h.last some) s ∙ sym parts

pub other_sign : (x : ℕ) → x ≢ 43 → x ≢ 45 → (sign x ≡ Whole) × (is_sign x ≡ false)
other_sign x p m =
    let plus : eqb x 43 ≡ false = grind (arith, nat_tests) in
    let minus : eqb x 45 ≡ false = grind (arith, nat_tests) in
    (rw (plus, minus) refl, rw (plus, minus) refl)
