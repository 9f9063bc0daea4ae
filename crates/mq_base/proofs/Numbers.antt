-- A number of n bytes, the highest first, gives back the bytes that it was read from.
use Rattle.std.proofs.Common.{◌≡◌, ℕ, zero, suc, ◌+◌, ◌*◌, ◌/◌, ◌%◌, ◌^◌, ◌<◌, List, [], ◌∷◌, length, slice_index, refl, sym, ap, ◌∙◌, arith}
use Rattle.std.proofs.Math.Nat.{mod-lt, mod-eq_of_lt, mul-add-mod_self_right}
use Rattle.std.proofs.lemmas.Nat.{div-mul-add}
use Rattle.std.proofs.lemmas.List.{append-nil}
use Rattle.std.specs.Int.{w32, cast_signed, cast_unsigned, byte_at, bytes_high_first}
use Rattle.std.proofs.lemmas.Int.{of_z-to_z}
use Rattle.byteorder.specs.Endian.{big_from, big_number, big_bytes}
use Rattle.byteorder.specs.Numbers.{big_from-cons, big_from-bytes, big_from-lt, length-bytes_high_first}

-- each number of the list is a byte
abbrev pub AreBytes : List ℕ → Type 0
AreBytes xs = (i : ℕ) → slice_index xs i < 256

rest_are_bytes : (b : ℕ) (bs : List ℕ) → AreBytes (b ∷ bs) → AreBytes bs
rest_are_bytes b bs h i = h (suc i)

byte_at_small : (k x : ℕ) → byte_at k x < 256
byte_at_small zero x = mod-lt x (omega arith)
byte_at_small (suc k) x = mod-lt (x / 256 ^ suc k) (omega arith)

pub big_bytes_are_bytes : (n x : ℕ) → AreBytes (bytes_high_first n x)
big_bytes_are_bytes zero x i = omega arith
big_bytes_are_bytes (suc n) x zero = byte_at_small n x
big_bytes_are_bytes (suc n) x (suc i) = big_bytes_are_bytes n x i

-- a number below c behind a multiple of c
same_digits : (c x y p q : ℕ) → p < c → q < c → x * c + p ≡ y * c + q → (x ≡ y) × (p ≡ q)
same_digits c x y p q hp hq e =
    let first : x ≡ y = sym (div-mul-add x c p hp) ∙ ap (λ n. n / c) e ∙ div-mul-add y c q hq in
    let left : (x * c + p) % c ≡ p = mul-add-mod_self_right x c p ∙ mod-eq_of_lt hp in
    let right : (y * c + q) % c ≡ q = mul-add-mod_self_right y c q ∙ mod-eq_of_lt hq in
    (first, sym left ∙ ap (λ n. n % c) e ∙ right)

-- n bytes are the only ones that make their number
pub big_from_injective : (n : ℕ) (xs ys : List ℕ) → length xs ≡ n → length ys ≡ n → AreBytes xs → AreBytes ys → big_from 0 n xs ≡ big_from 0 n ys → xs ≡ ys
big_from_injective zero [] [] lx ly hx hy e = refl
big_from_injective zero (x ∷ xs) ys lx ly hx hy e = absurd (omega arith)
big_from_injective zero [] (y ∷ ys) lx ly hx hy e = absurd (omega arith)
big_from_injective (suc n) [] ys lx ly hx hy e = absurd (omega arith)
big_from_injective (suc n) (x ∷ xs) [] lx ly hx hy e = absurd (omega arith)
big_from_injective (suc n) (x ∷ xs) (y ∷ ys) lx ly hx hy e =
    let mx = big_from-cons 0 n x xs in
    let my = big_from-cons 0 n y ys in
    let ex : x * 256 ^ n + big_from 0 n xs ≡ y * 256 ^ n + big_from 0 n ys = rw (mx, my) at e in
    let d = same_digits (256 ^ n) x y (big_from 0 n xs) (big_from 0 n ys) (big_from-lt 0 n xs (rest_are_bytes x xs hx)) (big_from-lt 0 n ys (rest_are_bytes y ys hy)) ex in
    let r = big_from_injective n xs ys (omega arith) (omega arith) (rest_are_bytes x xs hx) (rest_are_bytes y ys hy) d.1 in
    rw (d.0, r) refl

-- what was read gives back the bytes that it was read from
pub big_number_gives_back : (n : ℕ) (xs : List ℕ) → length xs ≡ n → AreBytes xs → big_bytes n (big_number n xs) ≡ xs
big_number_gives_back n xs e h =
    let x = big_number n xs in
    let back : big_from 0 n (bytes_high_first n x) ≡ x = ap (big_from 0 n) (sym (append-nil (bytes_high_first n x))) ∙ big_from-bytes n x [] ∙ mod-eq_of_lt (big_from-lt 0 n xs h) in
    big_from_injective n (bytes_high_first n x) xs (length-bytes_high_first n x) e (big_bytes_are_bytes n x) h back

-- the same for a signed number of four bytes
pub big_signed_gives_back : (xs : List ℕ) → length xs ≡ 4 → AreBytes xs → big_bytes 4 (cast_unsigned w32 (cast_signed w32 (big_number 4 xs))) ≡ xs
big_signed_gives_back xs e h =
    ap (big_bytes 4) (of_z-to_z w32 (big_number 4 xs) (big_from-lt 0 4 xs h)) ∙ big_number_gives_back 4 xs e h
