-- What a reader is to what it reads, and one reader after another.
use Rattle.std.proofs.Common.{◌≡◌, ℕ, ◌+◌, List, [], ◌∷◌, ◌++◌, length, Result, Ok, Err, refl, sym, ap, subst, ◌∙◌, append_assoc}
use Rattle.std.proofs.lemmas.List.{append_cancel_right, get_or-append-add}
use Rattle.mq_frame.specs.declared.fault.Miss.{Miss}
use Rattle.mq_frame.specs.declared.fault.Miss.TheVariants.{Short, Wrong}
use Rattle.mq_frame.specs.Reading.{◌>>=◌, IsBytes}

-- which lists of bytes spell which value
abbrev pub Spelling : Type 0 → Type 1
Spelling A = A → List ℕ → Type 0

abbrev pub Reader : Type 0 → Type 0
Reader A = List ℕ → Result (A × List ℕ) Miss

-- the bytes are less than a whole spelling, which may still come
pub record Begins {A : Type 0} (S : A → List ℕ → Type 0) (bytes : List ℕ) : Type 0 where
  pub value : A
  pub next : ℕ
  pub more : List ℕ
  pub spelled : S value (bytes ++ next ∷ more)

-- from a byte on, so many bytes before the end, it is no spelling, however the bytes go on
pub record IsWrong {A : Type 0} (S : A → List ℕ → Type 0) (bytes : List ℕ) (left : ℕ) : Type 0 where
  pub before : List ℕ
  pub byte : ℕ
  pub behind : List ℕ
  pub parts : bytes ≡ before ++ byte ∷ behind
  pub counted : left ≡ length (byte ∷ behind)
  pub begins : Begins S before
  pub never : (a : A) (text rest more : List ℕ) → S a text → text ++ rest ≡ before ++ byte ∷ more → ⊥

-- the value is spelled at the front of the bytes, and the rest follows
pub record Takes {A : Type 0} (S : A → List ℕ → Type 0) (bytes : List ℕ) (a : A) (rest : List ℕ) : Type 0 where
  pub text : List ℕ
  pub parts : bytes ≡ text ++ rest
  pub spelled : S a text

-- a value that has a spelling
pub record Some {A : Type 0} (S : A → List ℕ → Type 0) : Type 0 where
  pub value : A
  pub text : List ℕ
  pub spelled : S value text

-- the reader reads just what is spelled so, and says where it goes wrong
pub record Reads {A : Type 0} (r : List ℕ → Result (A × List ℕ) Miss) (S : A → List ℕ → Type 0) : Type 0 where
  pub some : Some S
  pub got : (bytes : List ℕ) (a : A) (rest : List ℕ) → IsBytes bytes → r bytes ≡ Ok (a, rest) → Takes S bytes a rest
  pub short : (bytes : List ℕ) → IsBytes bytes → r bytes ≡ Err Short → Begins S bytes
  pub wrong : (bytes : List ℕ) (left : ℕ) → IsBytes bytes → r bytes ≡ Err (Wrong left) → IsWrong S bytes left
  pub again : (a : A) (text rest : List ℕ) → S a text → r (text ++ rest) ≡ Ok (a, rest)

pub IsBytes-rest : (text rest : List ℕ) → IsBytes (text ++ rest) → IsBytes rest
IsBytes-rest text rest h i = rw (← get_or-append-add text rest i 0) (h (length text + i))

-- ---- one spelling does not begin another

abbrev read_so : {A : Type 0} → A → List ℕ → Result (A × List ℕ) Miss
read_so a rest = Ok (a, rest)

same_read : {A : Type 0} (a b : A) (x y : List ℕ) → read_so a x ≡ read_so b y → (a ≡ b) × (x ≡ y)
same_read {A = A} a b x y e =
    let p : (a, x) ≡ (b, y) = cc in
    (ap (λ (v : A × List ℕ). v.0) p, ap (λ (v : A × List ℕ). v.1) p)

-- ---- two answers of one call

pub one_ok : {A : Type 0} (r : Result (A × List ℕ) Miss) (a b : A) (x y : List ℕ) → r ≡ Ok (a, x) → r ≡ Ok (b, y) → (a ≡ b) × (x ≡ y)
one_ok r a b x y p q = same_read a b x y (sym p ∙ q)

pub ok_err : {A : Type 0} (r : Result (A × List ℕ) Miss) (a : A × List ℕ) (d : Miss) → r ≡ Ok a → r ≡ Err d → ⊥
ok_err (Ok x) a d p q = absurd cc
ok_err (Err e) a d p q = absurd cc

pub short_wrong : {A : Type 0} (r : Result (A × List ℕ) Miss) (n : ℕ) → r ≡ Err Short → r ≡ Err (Wrong n) → ⊥
short_wrong (Ok x) n p q = absurd cc
short_wrong (Err e) n p q = absurd cc

pub one_wrong : {A : Type 0} (r : Result (A × List ℕ) Miss) (m n : ℕ) → r ≡ Err (Wrong m) → r ≡ Err (Wrong n) → m ≡ n
one_wrong (Ok x) m n p q = absurd cc
one_wrong (Err e) m n p q = cc

pub record Same {A : Type 0} (a b : A) (s t x y : List ℕ) : Type 0 where
  pub value : a ≡ b
  pub text : s ≡ t
  pub rest : x ≡ y

pub Reads-one : {A : Type 0} (r : List ℕ → Result (A × List ℕ) Miss) (S : A → List ℕ → Type 0) → Reads r S → (a b : A) (s t x y : List ℕ) → S a s → S b t → s ++ x ≡ t ++ y → Same a b s t x y
Reads-one r S h a b s t x y p q e =
    let same = same_read a b x y (sym (h.again a s x p) ∙ ap r e ∙ h.again b t y q) in
    record {
      value = same.0;
      text = append_cancel_right s t y (ap (λ (z : List ℕ). s ++ z) (sym same.1) ∙ e);
      rest = same.1;
    }

-- ---- one reader after another

pub record Then {A B : Type 0} (S : A → List ℕ → Type 0) (T : A → B → List ℕ → Type 0) (b : B) (text : List ℕ) : Type 0 where
  pub first : A
  pub front : List ℕ
  pub back : List ℕ
  pub parts : text ≡ front ++ back
  pub spelled : S first front
  pub then_spelled : T first b back

pub bind_ok : {A B : Type 0} (r : Result (A × List ℕ) Miss) (f : A × List ℕ → Result B Miss) (y : B) → (r >>= f) ≡ Ok y → (x : A × List ℕ) × (r ≡ Ok x) × (f x ≡ Ok y)
bind_ok (Ok x) f y e = (x, refl, e)
bind_ok (Err d) f y e = absurd cc

pub data BindErr {A B : Type 0} (r : Result (A × List ℕ) Miss) (f : A × List ℕ → Result B Miss) (d : Miss) : Type 0 where
  first : r ≡ Err d → BindErr r f d
  second : (x : A × List ℕ) → r ≡ Ok x → f x ≡ Err d → BindErr r f d

pub bind_err : {A B : Type 0} (r : Result (A × List ℕ) Miss) (f : A × List ℕ → Result B Miss) (d : Miss) → (r >>= f) ≡ Err d → BindErr r f d
bind_err (Ok x) f d e = second x refl e
bind_err (Err d') f d e = first cc

fits_on : {A : Type 0} (S : A → List ℕ → Type 0) (bytes : List ℕ) (a : A) (rest : List ℕ) → Takes S bytes a rest → IsBytes bytes → IsBytes rest
fits_on S bytes a rest t fits = IsBytes-rest t.text rest (subst IsBytes t.parts fits)

-- what the second reader says of the rest is so of the whole
begins_on : {A B : Type 0} (S : A → List ℕ → Type 0) (T : A → B → List ℕ → Type 0) (a : A) (front bytes : List ℕ) → S a front → Begins (T a) bytes → Begins (Then S T) (front ++ bytes)
begins_on S T a front bytes s b = record {
  value = b.value;
  next = b.next;
  more = b.more;
  spelled = record {
    first = a;
    front = front;
    back = bytes ++ b.next ∷ b.more;
    parts = append_assoc front bytes (b.next ∷ b.more);
    spelled = s;
    then_spelled = b.spelled;
  };
}

-- what has begun goes on with some spelling of the second
begins_first : {A B : Type 0} (S : A → List ℕ → Type 0) (T : A → B → List ℕ → Type 0) (bytes : List ℕ) → Begins S bytes → ((a : A) (t : List ℕ) → S a t → Some (T a)) → Begins (Then S T) bytes
begins_first S T bytes b g =
    let u = g b.value (bytes ++ b.next ∷ b.more) b.spelled in
    record {
      value = u.value;
      next = b.next;
      more = b.more ++ u.text;
      spelled = record {
        first = b.value;
        front = bytes ++ b.next ∷ b.more;
        back = u.text;
        parts = sym (append_assoc bytes (b.next ∷ b.more) u.text);
        spelled = b.spelled;
        then_spelled = u.spelled;
      };
    }

wrong_first : {A B : Type 0} (S : A → List ℕ → Type 0) (T : A → B → List ℕ → Type 0) (bytes : List ℕ) (left : ℕ) → IsWrong S bytes left → ((a : A) (t : List ℕ) → S a t → Some (T a)) → IsWrong (Then S T) bytes left
wrong_first S T bytes left w g = record {
  before = w.before;
  byte = w.byte;
  behind = w.behind;
  parts = w.parts;
  counted = w.counted;
  begins = begins_first S T w.before w.begins g;
  never = λ b text rest more s e. w.never s.first s.front (s.back ++ rest) more s.spelled (sym (append_assoc s.front s.back rest) ∙ ap (λ (z : List ℕ). z ++ rest) (sym s.parts) ∙ e);
}

wrong_second : {A B : Type 0} (r : List ℕ → Result (A × List ℕ) Miss) (S : A → List ℕ → Type 0) (T : A → B → List ℕ → Type 0) → Reads r S → (bytes : List ℕ) (a : A) (rest : List ℕ) (left : ℕ) → Takes S bytes a rest → IsWrong (T a) rest left → IsWrong (Then S T) bytes left
wrong_second r S T h bytes a rest left t w = record {
  before = t.text ++ w.before;
  byte = w.byte;
  behind = w.behind;
  parts = t.parts ∙ ap (λ (z : List ℕ). t.text ++ z) w.parts ∙ sym (append_assoc t.text w.before (w.byte ∷ w.behind));
  counted = w.counted;
  begins = begins_on S T a t.text w.before t.spelled w.begins;
  never = λ b text end more s e.
      let e2 : s.front ++ (s.back ++ end) ≡ t.text ++ (w.before ++ w.byte ∷ more) = sym (append_assoc s.front s.back end) ∙ ap (λ (z : List ℕ). z ++ end) (sym s.parts) ∙ e ∙ append_assoc t.text w.before (w.byte ∷ more) in
      let one = Reads-one r S h s.first a s.front t.text (s.back ++ end) (w.before ++ w.byte ∷ more) s.spelled t.spelled e2 in
      w.never b s.back end more (subst (λ (v : _). T v b s.back) one.value s.then_spelled) one.rest;
}

pub Reads-then : {A B : Type 0} (r : List ℕ → Result (A × List ℕ) Miss) (S : A → List ℕ → Type 0) (k : A → List ℕ → Result (B × List ℕ) Miss) (T : A → B → List ℕ → Type 0)
    → Reads r S → ((a : A) (t : List ℕ) → S a t → Reads (k a) (T a)) → Reads (λ bytes. r bytes >>= λ x. k x.0 x.1) (Then S T)
Reads-then {A = A} {B = B} r S k T h g =
    let f : A × List ℕ → Result (B × List ℕ) Miss = λ x. k x.0 x.1 in
    record {
      some =
          let s = h.some in
          let u = (g s.value s.text s.spelled).some in
          record { value = u.value; text = s.text ++ u.text; spelled = record { first = s.value; front = s.text; back = u.text; parts = refl; spelled = s.spelled; then_spelled = u.spelled } };
      got = λ bytes b rest fits e.
          let p = bind_ok (r bytes) f (b, rest) e in
          let t = h.got bytes p.0.0 p.0.1 fits p.1 in
          let u = (g p.0.0 t.text t.spelled).got p.0.1 b rest (fits_on S bytes p.0.0 p.0.1 t fits) p.2 in
          record {
            text = t.text ++ u.text;
            parts = t.parts ∙ ap (λ (z : List ℕ). t.text ++ z) u.parts ∙ sym (append_assoc t.text u.text rest);
            spelled = record { first = p.0.0; front = t.text; back = u.text; parts = refl; spelled = t.spelled; then_spelled = u.spelled };
          };
      short = λ bytes fits e. elim (bind_err (r bytes) f Short e) [
        | first p ↦ begins_first S T bytes (h.short bytes fits p) (λ a t s. (g a t s).some)
        | second x p q ↦
            let t = h.got bytes x.0 x.1 fits p in
            subst (Begins (Then S T)) (sym t.parts) (begins_on S T x.0 t.text x.1 t.spelled ((g x.0 t.text t.spelled).short x.1 (fits_on S bytes x.0 x.1 t fits) q))
      ];
      wrong = λ bytes left fits e. elim (bind_err (r bytes) f (Wrong left) e) [
        | first p ↦ wrong_first S T bytes left (h.wrong bytes left fits p) (λ a t s. (g a t s).some)
        | second x p q ↦
            let t = h.got bytes x.0 x.1 fits p in
            wrong_second r S T h bytes x.0 x.1 left t ((g x.0 t.text t.spelled).wrong x.1 left (fits_on S bytes x.0 x.1 t fits) q)
      ];
      again = λ b text rest p.
          let e : text ++ rest ≡ p.front ++ (p.back ++ rest) = ap (λ (z : List ℕ). z ++ rest) p.parts ∙ append_assoc p.front p.back rest in
          ap (λ (z : List ℕ). r z >>= f) e ∙ ap (λ (z : Result (A × List ℕ) Miss). z >>= f) (h.again p.first p.front (p.back ++ rest) p.spelled) ∙ (g p.first p.front p.spelled).again b p.back rest p.then_spelled;
    }

-- a value that takes no bytes
pub Reads-pure : {A : Type 0} (a : A) → Reads (λ bytes. Ok (a, bytes)) (λ b text. (b ≡ a) × (text ≡ []))
Reads-pure a = record {
  some = record { value = a; text = []; spelled = (refl, refl) };
  got = λ bytes b rest fits e.
      let same = same_read a b bytes rest e in
      record { text = []; parts = same.1; spelled = (sym same.0, refl) };
  short = λ bytes fits e. absurd cc;
  wrong = λ bytes left fits e. absurd cc;
  again = λ b text rest s. rw (s.0, s.1) refl;
}

-- the same spellings, told otherwise
pub Reads-told : {A : Type 0} (r : List ℕ → Result (A × List ℕ) Miss) (S T : A → List ℕ → Type 0) → Reads r S → ((a : A) (t : List ℕ) → S a t → T a t) → ((a : A) (t : List ℕ) → T a t → S a t) → Reads r T
Reads-told r S T h to from =
    let begins : (bytes : List ℕ) → Begins S bytes → Begins T bytes = λ bytes b. record { value = b.value; next = b.next; more = b.more; spelled = to b.value _ b.spelled } in
    record {
      some = record { value = h.some.value; text = h.some.text; spelled = to _ _ h.some.spelled };
      got = λ bytes a rest fits e. let t = h.got bytes a rest fits e in record { text = t.text; parts = t.parts; spelled = to a t.text t.spelled };
      short = λ bytes fits e. begins bytes (h.short bytes fits e);
      wrong = λ bytes left fits e.
          let w = h.wrong bytes left fits e in
          record {
            before = w.before;
            byte = w.byte;
            behind = w.behind;
            parts = w.parts;
            counted = w.counted;
            begins = begins w.before w.begins;
            never = λ a text rest more s e. w.never a text rest more (from a text s) e;
          };
      again = λ a text rest s. h.again a text rest (from a text s);
    }
