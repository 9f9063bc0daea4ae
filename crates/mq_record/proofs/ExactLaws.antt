-- A reader that reads just what has a spelling, and gives back what was spelled.
use Rattle.std.proofs.Common.{◌≡◌, ℕ, List, [], ◌++◌, Result, Ok, refl, sym, ap, subst, ◌∙◌, append_assoc}
use Rattle.mq_frame.specs.declared.fault.Miss.{Miss}
use Rattle.mq_frame.specs.Reading.{◌>>=◌, IsBytes}
use Rattle.mq_frame.proofs.Readers.{Reads, IsBytes-rest, bind_ok, one_ok}
use Rattle.mq_record.specs.Reading.{both, no_more}

-- a value with that spelling is read from bytes exactly where it is one, and the bytes begin with it
pub record Exact {A : Type 0} (reader : List ℕ → Result (A × List ℕ) Miss) (Is : A → Type 0) (spelling : A → List ℕ) : Type 0 where
  pub got : (bytes : List ℕ) (a : A) (rest : List ℕ) → IsBytes bytes → reader bytes ≡ Ok (a, rest) → Is a × (bytes ≡ spelling a ++ rest)
  pub again : (a : A) (rest : List ℕ) → Is a → reader (spelling a ++ rest) ≡ Ok (a, rest)

-- a frame's readers are such
pub exact_of : {A : Type 0} (reader : List ℕ → Result (A × List ℕ) Miss) (Is : A → Type 0) (spelling : A → List ℕ) → Reads reader (λ a text. Is a × (text ≡ spelling a)) → Exact reader Is spelling
exact_of reader Is spelling h = record {
  got = λ bytes a rest fits e.
      let t = h.got bytes a rest fits e in
      (t.spelled.0, t.parts ∙ ap (λ (z : List ℕ). z ++ rest) t.spelled.1);
  again = λ a rest is. h.again a (spelling a) rest (is, refl);
}

pub exact_none : Exact no_more (λ u. Unit {0}) (λ u. [])
exact_none = record {
  got = λ bytes a rest fits e. let same = one_ok (Ok (tt, bytes)) tt a bytes rest refl e in (tt, same.1);
  again = λ a rest is. refl;
}

pub exact_both : {A B : Type 0} (r : List ℕ → Result (A × List ℕ) Miss) (s : List ℕ → Result (B × List ℕ) Miss) (Is : A → Type 0) (Are : B → Type 0) (f : A → List ℕ) (g : B → List ℕ)
    → Exact r Is f → Exact s Are g → Exact (both r s) (λ v. Is v.0 × Are v.1) (λ v. f v.0 ++ g v.1)
exact_both {A = A} {B = B} r s Is Are f g h k =
    let pair : A × List ℕ → B × List ℕ → Result ((A × B) × List ℕ) Miss = λ a b. Ok ((a.0, b.0), b.1) in
    let next : A × List ℕ → Result ((A × B) × List ℕ) Miss = λ a. s a.1 >>= λ b. pair a b in
    record {
      got = λ bytes v rest fits e.
          let p = bind_ok (r bytes) next (v, rest) e in
          let q = bind_ok (s p.0.1) (pair p.0) (v, rest) p.2 in
          let first = h.got bytes p.0.0 p.0.1 fits p.1 in
          let second = k.got p.0.1 q.0.0 q.0.1 (IsBytes-rest (f p.0.0) p.0.1 (subst IsBytes first.1 fits)) q.1 in
          let same = one_ok (pair p.0 q.0) (p.0.0, q.0.0) v q.0.1 rest refl q.2 in
          let whole : bytes ≡ (f p.0.0 ++ g q.0.0) ++ q.0.1 = first.1 ∙ ap (λ (z : List ℕ). f p.0.0 ++ z) second.1 ∙ sym (append_assoc (f p.0.0) (g q.0.0) q.0.1) in
          (subst (λ (w : A × B). Is w.0 × Are w.1) same.0 (first.0, second.0), whole ∙ ap (λ (w : A × B). (f w.0 ++ g w.1) ++ q.0.1) same.0 ∙ ap (λ (z : List ℕ). (f v.0 ++ g v.1) ++ z) same.1);
      again = λ v rest is.
          ap (λ (z : List ℕ). r z >>= next) (append_assoc (f v.0) (g v.1) rest)
          ∙ ap (λ (x : Result (A × List ℕ) Miss). x >>= next) (h.again v.0 (g v.1 ++ rest) is.0)
          ∙ ap (λ (x : Result (B × List ℕ) Miss). x >>= pair (v.0, g v.1 ++ rest)) (k.again v.1 rest is.1);
    }

-- a value that is made of what was read
pub record Makes {A B : Type 0} (Is : A → Type 0) (f : A → List ℕ) (made : A → B) (Are : B → Type 0) (g : B → List ℕ) : Type 0 where
  pub is : (a : A) → Is a → Are (made a)
  pub same : (a : A) → Is a → g (made a) ≡ f a
  pub parts : B → A
  pub back : (b : B) → Are b → made (parts b) ≡ b
  pub are : (b : B) → Are b → Is (parts b)

pub exact_made : {A B : Type 0} (r : List ℕ → Result (A × List ℕ) Miss) (Is : A → Type 0) (f : A → List ℕ) (made : A → B) (Are : B → Type 0) (g : B → List ℕ)
    → Exact r Is f → Makes Is f made Are g → Exact (λ bytes. r bytes >>= λ x. Ok (made x.0, x.1)) Are g
exact_made {A = A} {B = B} r Is f made Are g h m =
    let next : A × List ℕ → Result (B × List ℕ) Miss = λ x. Ok (made x.0, x.1) in
    record {
      got = λ bytes b rest fits e.
          let p = bind_ok (r bytes) next (b, rest) e in
          let first = h.got bytes p.0.0 p.0.1 fits p.1 in
          let same = one_ok (next p.0) (made p.0.0) b p.0.1 rest refl p.2 in
          (subst Are same.0 (m.is p.0.0 first.0), first.1 ∙ ap (λ (z : List ℕ). z ++ p.0.1) (sym (m.same p.0.0 first.0)) ∙ ap (λ (c : B). g c ++ p.0.1) same.0 ∙ ap (λ (z : List ℕ). g b ++ z) same.1);
      again = λ b rest is.
          let a = m.parts b in
          let text : g b ≡ f a = ap g (sym (m.back b is)) ∙ m.same a (m.are b is) in
          ap (λ (z : List ℕ). r (z ++ rest) >>= next) text
          ∙ ap (λ (x : Result (A × List ℕ) Miss). x >>= next) (h.again a rest (m.are b is))
          ∙ ap (λ (c : B). Ok (c, rest)) (m.back b is);
    }

-- one reader that needs what the one before it read
pub exact_then : {A B : Type 0} (r : List ℕ → Result (A × List ℕ) Miss) (k : A → List ℕ → Result (B × List ℕ) Miss) (Is : A → Type 0) (f : A → List ℕ) (Are : B → Type 0) (g : B → List ℕ) (of : B → A)
    → Exact r Is f
    → ((a : A) (bytes : List ℕ) (b : B) (rest : List ℕ) → Is a → IsBytes bytes → k a bytes ≡ Ok (b, rest) → Are b × (f a ++ bytes ≡ g b ++ rest))
    → ((b : B) (rest : List ℕ) → Are b → Is (of b) × ((tail : List ℕ) × (g b ++ rest ≡ f (of b) ++ tail) × (k (of b) tail ≡ Ok (b, rest))))
    → Exact (λ bytes. r bytes >>= λ x. k x.0 x.1) Are g
exact_then {A = A} {B = B} r k Is f Are g of h got again =
    let next : A × List ℕ → Result (B × List ℕ) Miss = λ x. k x.0 x.1 in
    record {
      got = λ bytes b rest fits e.
          let p = bind_ok (r bytes) next (b, rest) e in
          let first = h.got bytes p.0.0 p.0.1 fits p.1 in
          let second = got p.0.0 p.0.1 b rest first.0 (IsBytes-rest (f p.0.0) p.0.1 (subst IsBytes first.1 fits)) p.2 in
          (second.0, first.1 ∙ second.1);
      again = λ b rest is.
          let t = again b rest is in
          ap (λ (z : List ℕ). r z >>= next) t.1.1 ∙ ap (λ (x : Result (A × List ℕ) Miss). x >>= next) (h.again (of b) t.1.0 t.0) ∙ t.1.2;
    }
