-- The readers of lists.
use Rattle.std.proofs.Common.{◌≡◌, ℕ, zero, suc, ◌^◌, ◌<◌, List, [], ◌∷◌, ◌++◌, length, Result, Ok, refl, sym, ap, subst, ◌∙◌, append_assoc, arith}
use Rattle.std.specs.List.{flat_map, AllByRecursion}
use Rattle.byteorder.specs.Endian.{big_bytes}
use Rattle.mq_frame.specs.declared.fault.Miss.{Miss}
use Rattle.mq_frame.specs.Frames.{ident_bytes, IsIdent}
use Rattle.mq_frame.specs.Reading.{◌>>=◌, IsBytes, number_at, ident_at}
use Rattle.mq_frame.proofs.Readers.{bind_ok, one_ok, IsBytes-rest}
use Rattle.mq_record.specs.Records.{add_bytes, AreCounted, IsAdd}
use Rattle.mq_record.specs.Reading.{several_at, add_at, idents_at, adds_at}
use Rattle.mq_record.proofs.ExactLaws.{Exact, exact_then}
use Rattle.mq_record.proofs.PartLaws.{exact_number, exact_ident, exact_add}

-- so many, each with a spelling
abbrev pub AreSeveral : {A : Type 0} → (A → Type 0) → ℕ → List A → Type 0
AreSeveral Is n xs = (length xs ≡ n) × AllByRecursion Is xs

several_got : {A : Type 0} (r : List ℕ → Result (A × List ℕ) Miss) (Is : A → Type 0) (f : A → List ℕ) → Exact r Is f → (n : ℕ) (bytes : List ℕ) (xs : List A) (rest : List ℕ) → IsBytes bytes → several_at r n bytes ≡ Ok (xs, rest) → AreSeveral Is n xs × (bytes ≡ flat_map f xs ++ rest)
unfolding several_at
several_got {A = A} r Is f h zero bytes xs rest fits e =
    let same = one_ok (Ok ([], bytes)) [] xs bytes rest refl e in
    (subst (AreSeveral Is 0) same.0 (refl, tt), same.1 ∙ ap (λ (z : List A). flat_map f z ++ rest) same.0)
several_got {A = A} r Is f h (suc n) bytes xs rest fits e =
    let last : A × List ℕ → List A × List ℕ → Result (List A × List ℕ) Miss = λ first others. Ok (first.0 ∷ others.0, others.1) in
    let next : A × List ℕ → Result (List A × List ℕ) Miss = λ first. several_at r n first.1 >>= last first in
    let p = bind_ok (r bytes) next (xs, rest) e in
    let q = bind_ok (several_at r n p.0.1) (last p.0) (xs, rest) p.2 in
    let first = h.got bytes p.0.0 p.0.1 fits p.1 in
    let others = several_got r Is f h n p.0.1 q.0.0 q.0.1 (IsBytes-rest (f p.0.0) p.0.1 (subst IsBytes first.1 fits)) q.1 in
    let same = one_ok (last p.0 q.0) (p.0.0 ∷ q.0.0) xs q.0.1 rest refl q.2 in
    let whole : bytes ≡ (f p.0.0 ++ flat_map f q.0.0) ++ q.0.1 = first.1 ∙ ap (λ (z : List ℕ). f p.0.0 ++ z) others.1 ∙ sym (append_assoc (f p.0.0) (flat_map f q.0.0) q.0.1) in
    (subst (AreSeveral Is (suc n)) same.0 (ap suc others.0.0, (first.0, others.0.1)), whole ∙ ap (λ (z : List A). flat_map f z ++ q.0.1) same.0 ∙ ap (λ (z : List ℕ). flat_map f xs ++ z) same.1)

several_again : {A : Type 0} (r : List ℕ → Result (A × List ℕ) Miss) (Is : A → Type 0) (f : A → List ℕ) → Exact r Is f → (xs : List A) (rest : List ℕ) → AllByRecursion Is xs → several_at r (length xs) (flat_map f xs ++ rest) ≡ Ok (xs, rest)
unfolding several_at
several_again r Is f h [] rest is = refl
several_again {A = A} r Is f h (x ∷ xs) rest is =
    let last : A × List ℕ → List A × List ℕ → Result (List A × List ℕ) Miss = λ first others. Ok (first.0 ∷ others.0, others.1) in
    let next : A × List ℕ → Result (List A × List ℕ) Miss = λ first. several_at r (length xs) first.1 >>= last first in
    ap (λ (z : List ℕ). r z >>= next) (append_assoc (f x) (flat_map f xs) rest)
    ∙ ap (λ (v : Result (A × List ℕ) Miss). v >>= next) (h.again x (flat_map f xs ++ rest) is.0)
    ∙ ap (λ (v : Result (List A × List ℕ) Miss). v >>= last (x, flat_map f xs ++ rest)) (several_again r Is f h xs rest is.1)

pub exact_several : {A : Type 0} (r : List ℕ → Result (A × List ℕ) Miss) (Is : A → Type 0) (f : A → List ℕ) → Exact r Is f → (n : ℕ) → Exact (several_at r n) (AreSeveral Is n) (flat_map f)
exact_several {A = A} r Is f h n = record {
  got = λ bytes xs rest fits e. several_got r Is f h n bytes xs rest fits e;
  again = λ xs rest is. ap (λ (k : ℕ). several_at r k (flat_map f xs ++ rest)) (sym is.0) ∙ several_again r Is f h xs rest is.1;
}

-- behind their count
abbrev pub counted_items : {A : Type 0} → (A → List ℕ) → List A → List ℕ
counted_items f xs = big_bytes 4 (length xs) ++ flat_map f xs

pub exact_counted : {A : Type 0} (r : List ℕ → Result (A × List ℕ) Miss) (Is : A → Type 0) (f : A → List ℕ) → Exact r Is f → Exact (λ bytes. number_at 4 bytes >>= λ x. several_at r x.0 x.1) (AreCounted Is) (counted_items f)
exact_counted {A = A} r Is f h =
    exact_then (number_at 4) (several_at r) (λ n. n < 256 ^ 4) (big_bytes 4) (AreCounted Is) (counted_items f) (λ (xs : List A). length xs) (exact_number 4)
    (λ n bytes xs rest is fits e.
    let k = several_got r Is f h n bytes xs rest fits e in
    (record { count = omega (arith, is, k.0.0); each = k.0.1 }, ap (λ (z : List ℕ). big_bytes 4 n ++ z) k.1 ∙ ap (λ (m : ℕ). big_bytes 4 m ++ (flat_map f xs ++ rest)) (sym k.0.0) ∙ sym (append_assoc (big_bytes 4 (length xs)) (flat_map f xs) rest)))
    (λ xs rest is. (is.count, (flat_map f xs ++ rest, append_assoc (big_bytes 4 (length xs)) (flat_map f xs) rest, several_again r Is f h xs rest is.each)))

pub exact_idents : Exact idents_at (AreCounted IsIdent) (counted_items ident_bytes)
unfolding idents_at
exact_idents = exact_counted ident_at IsIdent ident_bytes exact_ident

pub exact_adds : Exact adds_at (AreCounted IsAdd) (counted_items add_bytes)
unfolding adds_at
exact_adds = exact_counted add_at IsAdd add_bytes exact_add
