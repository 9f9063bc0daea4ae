-- The reader of a name in its field.
use Rattle.std.proofs.Common.{◌≡◌, ℕ, zero, suc, ◌-◌, ◌<◌, ◌≤◌, Bool, true, false, ◌&&◌, ltb, List, [], ◌∷◌, ◌++◌, length, take, get_or, drop, replicate, min, Option, Some, None, Result, Ok, Err, refl, sym, ap, subst, ◌∙◌, append_assoc, arith, inl, inr}
use Rattle.std.specs.Prelude.{position, not}
use Rattle.std.specs.List.{list_all}
use Rattle.std.proofs.lemmas.List.Sums.{list_all-from_AllPass, AllPass-from_list_all}
use Rattle.std.proofs.lemmas.List.Quantifiers.{position-Some}
use Rattle.std.proofs.lemmas.Bool.{cases_lt, cases_Bool, not-true, not-false, ltb-true, lt-ltb, le-ltb, and_parts, and_cases, and_from, cond-true, cond-false}
use Rattle.std.proofs.lemmas.List.{take-take, take-append-drop, drop_all, drop_more, get_or-take, get_or_default, length-take, length-append}
use Rattle.mq_message.specs.from_base.{NameFault}
use Rattle.mq_message.specs.from_base.NameFaultVariants.{Empty, TooLong, BadByte}
use Rattle.mq_message.specs.from_base.Name.{is_name_byte, padded, IsName, name_of, name_or_bad}
use Rattle.mq_message.proofs.from_base.Fields.{no_bad}
use Rattle.mq_frame.specs.declared.fault.Miss.{Miss}
use Rattle.mq_frame.specs.declared.fault.Miss.TheVariants.{Short, Wrong}
use Rattle.mq_frame.specs.Reading.{◌>>=◌, IsBytes, fixed_at, name_front, name_at}
use Rattle.mq_frame.proofs.Readers.{bind_ok, bind_err, first, second, one_ok, ok_err, Reads, IsWrong, IsBytes-rest}
use Rattle.mq_frame.proofs.Pieces.{Reads-fixed}

-- no byte of a name comes first
abbrev pub Stops : List ℕ → Type 0
Stops [] = Unit {0}
Stops (byte ∷ bytes) = is_name_byte byte ≡ false

-- the longest run of name bytes at the front, up to a number
record IsFront (most : ℕ) (bytes front : List ℕ) : Type 0 where
  pub short : length front ≤ most
  pub all : list_all is_name_byte front ≡ true
  pub parts : bytes ≡ front ++ drop (length front) bytes
  pub stops : length front < most → Stops (drop (length front) bytes)

front_more : (most byte : ℕ) (bytes : List ℕ) → 0 < most → is_name_byte byte ≡ true → IsFront (most - 1) bytes (name_front (most - 1) bytes) → IsFront most (byte ∷ bytes) (byte ∷ name_front (most - 1) bytes)
front_more most byte bytes lt e h = record {
  short = omega (arith, h.short);
  all = and_from _ _ e h.all;
  parts = ap (λ (x : List ℕ). byte ∷ x) h.parts;
  stops = λ p. h.stops (omega arith);
}

front_none : (most byte : ℕ) (bytes : List ℕ) → (ltb 0 most && is_name_byte byte) ≡ false → IsFront most (byte ∷ bytes) []
front_none most byte bytes e = record {
  short = omega arith;
  all = refl;
  parts = refl;
  stops = λ p. elim (and_cases _ _ e) [
    | inl q ↦ absurd (let t : true ≡ false = sym (lt-ltb 0 most p) ∙ q in cc)
    | inr q ↦ q
  ];
}

is_front : (most : ℕ) (bytes : List ℕ) → IsFront most bytes (name_front most bytes)
is_front most [] = record { short = omega arith; all = refl; parts = refl; stops = λ p. tt }
is_front most (byte ∷ bytes) =
    elim (cases_Bool (ltb 0 most && is_name_byte byte)) [
      | inl e ↦
          let h = and_parts (ltb 0 most) (is_name_byte byte) e in
          rw (cond-true (ltb 0 most && is_name_byte byte) (byte ∷ name_front (most - 1) bytes) [] e) (front_more most byte bytes (ltb-true 0 most h.0) h.1 (is_front (most - 1) bytes))
      | inr e ↦ rw (cond-false (ltb 0 most && is_name_byte byte) (byte ∷ name_front (most - 1) bytes) [] e) (front_none most byte bytes e)
    ]

-- two such runs of one list are one
same_front : (most : ℕ) (f g x y : List ℕ) → list_all is_name_byte f ≡ true → list_all is_name_byte g ≡ true → length f ≤ most → length g ≤ most → (length f < most → Stops x) → (length g < most → Stops y) → f ++ x ≡ g ++ y → (f ≡ g) × (x ≡ y)
same_front most [] [] x y af ag lf lg sx sy e = (refl, e)
same_front most [] (c ∷ g) x y af ag lf lg sx sy e =
    let stop : is_name_byte c ≡ false = subst Stops e (sx (omega arith)) in
    let name = and_parts _ _ ag in
    absurd (let t : true ≡ false = sym name.0 ∙ stop in cc)
same_front most (c ∷ f) [] x y af ag lf lg sx sy e =
    let stop : is_name_byte c ≡ false = subst Stops (sym e) (sy (omega arith)) in
    let name = and_parts _ _ af in
    absurd (let t : true ≡ false = sym name.0 ∙ stop in cc)
same_front most (c ∷ f) (d ∷ g) x y af ag lf lg sx sy e =
    let same : c ≡ d = cc in
    let rest : f ++ x ≡ g ++ y = cc in
    let h = same_front (most - 1) f g x y (and_parts _ _ af).1 (and_parts _ _ ag).1 (omega arith) (omega arith) (λ p. sx (omega arith)) (λ p. sy (omega arith)) rest in
    (ap (λ (z : List ℕ). c ∷ z) h.0 ∙ ap (λ (b : ℕ). b ∷ g) same, h.1)

abbrev pub SpellsName : List ℕ → List ℕ → Type 0
SpellsName name text = IsName 48 name × (text ≡ padded 48 name)

blanks_stop : (n : ℕ) (rest : List ℕ) → 0 < n → Stops (replicate n 32 ++ rest)
blanks_stop zero rest lt = absurd (omega arith)
blanks_stop (suc n) rest lt = refl

abbrev blanks_of : List ℕ → List ℕ
blanks_of name = replicate (48 - length name) 32

-- the rest of a field behind its name
padding_stops : (name rest : List ℕ) → length name < 48 → Stops (blanks_of name ++ rest)
padding_stops name rest lt = blanks_stop (48 - length name) rest (omega arith)

names_name : (bytes name : List ℕ) → IsFront 48 bytes name → IsName 48 name
names_name bytes name h = record { fits = h.short; bytes = h.all }

head_stops : (before : List ℕ) (byte : ℕ) (behind more : List ℕ) → Stops (before ++ byte ∷ behind) → Stops (before ++ byte ∷ more)
head_stops [] byte behind more h = h
head_stops (b ∷ before) byte behind more h = h

wrong_name : (bytes : List ℕ) (left : ℕ) → (name : List ℕ) → IsFront 48 bytes name → IsWrong (λ (u : Unit {0}) t. t ≡ blanks_of name) (drop (length name) bytes) left → IsWrong SpellsName bytes left
wrong_name bytes left name front w = record {
  before = name ++ w.before;
  byte = w.byte;
  behind = w.behind;
  parts = front.parts ∙ ap (λ (x : List ℕ). name ++ x) w.parts ∙ sym (append_assoc name w.before (w.byte ∷ w.behind));
  counted = w.counted;
  begins = record {
    value = name;
    next = w.begins.next;
    more = w.begins.more;
    spelled = (names_name bytes name front, append_assoc name w.before (w.begins.next ∷ w.begins.more) ∙ ap (λ (x : List ℕ). name ++ x) w.begins.spelled);
  };
  never = λ other text rest more h e.
      let some : length name < 48 =
      elim (cases_lt (length name) 48) [
        | inl lt ↦ lt
        | inr le ↦ absurd (let none : 48 - length name ≡ 0 = omega arith in
            let nil : w.before ++ w.begins.next ∷ w.begins.more ≡ [] = w.begins.spelled ∙ ap (λ (n : ℕ). replicate n 32) none in
            let counted = ap length nil in
            omega (arith, counted, length-append w.before (w.begins.next ∷ w.begins.more)))
      ] in
      let stop : Stops (w.before ++ w.byte ∷ more) = head_stops w.before w.byte w.behind more (subst Stops w.parts (front.stops some)) in
      let whole : other ++ (blanks_of other ++ rest) ≡ name ++ (w.before ++ w.byte ∷ more) =
      sym (append_assoc other (blanks_of other) rest) ∙ ap (λ (x : List ℕ). x ++ rest) (sym h.1) ∙ e ∙ append_assoc name w.before (w.byte ∷ more) in
      let same = same_front 48 other name (blanks_of other ++ rest) (w.before ++ w.byte ∷ more) h.0.bytes front.all h.0.fits front.short (λ p. padding_stops other rest p) (λ p. stop) whole in
      w.never tt (blanks_of other) rest more (ap blanks_of same.0) same.1;
}

abbrev field_from : List ℕ → List ℕ → Result (List ℕ × List ℕ) Miss
field_from name bytes = fixed_at (blanks_of name) bytes >>= λ x. Ok (name, x.1)

pub Reads-name : Reads name_at SpellsName
unfolding name_at
Reads-name = record {
  some = record { value = []; text = padded 48 []; spelled = (record { fits = omega arith; bytes = refl }, refl) };
  got = λ bytes name rest fits e.
      let f = name_front 48 bytes in
      let front = is_front 48 bytes in
      let p = bind_ok (fixed_at (blanks_of f) (drop (length f) bytes)) (λ x. Ok (f, x.1)) (name, rest) e in
      let t = (Reads-fixed (blanks_of f)).got (drop (length f) bytes) p.0.0 p.0.1 (IsBytes-rest f _ (subst IsBytes front.parts fits)) p.1 in
      let same = one_ok (Ok (f, p.0.1)) f name p.0.1 rest refl p.2 in
      record {
        text = padded 48 f;
        parts = front.parts ∙ ap (λ (x : List ℕ). f ++ x) (t.parts ∙ ap (λ (x : List ℕ). x ++ p.0.1) t.spelled ∙ ap (λ (x : List ℕ). blanks_of f ++ x) same.1) ∙ sym (append_assoc f (blanks_of f) rest);
        spelled = subst (λ (x : List ℕ). SpellsName x (padded 48 f)) same.0 (names_name bytes f front, refl);
      };
  short = λ bytes fits e.
      let f = name_front 48 bytes in
      let front = is_front 48 bytes in
      elim (bind_err (fixed_at (blanks_of f) (drop (length f) bytes)) (λ x. Ok (f, x.1)) Short e) [
        | first p ↦
            let b = (Reads-fixed (blanks_of f)).short (drop (length f) bytes) (IsBytes-rest f _ (subst IsBytes front.parts fits)) p in
            record {
              value = f;
              next = b.next;
              more = b.more;
              spelled = (names_name bytes f front, ap (λ (x : List ℕ). x ++ b.next ∷ b.more) front.parts ∙ append_assoc f (drop (length f) bytes) (b.next ∷ b.more) ∙ ap (λ (x : List ℕ). f ++ x) b.spelled);
            }
        | second x p q ↦ absurd (ok_err (Ok (f, x.1)) _ _ refl q)
      ];
  wrong = λ bytes left fits e.
      let f = name_front 48 bytes in
      let front = is_front 48 bytes in
      elim (bind_err (fixed_at (blanks_of f) (drop (length f) bytes)) (λ x. Ok (f, x.1)) (Wrong left) e) [
        | first p ↦ wrong_name bytes left f front ((Reads-fixed (blanks_of f)).wrong (drop (length f) bytes) left (IsBytes-rest f _ (subst IsBytes front.parts fits)) p)
        | second x p q ↦ absurd (ok_err (Ok (f, x.1)) _ _ refl q)
      ];
  again = λ name text rest h.
      let front = is_front 48 (text ++ rest) in
      let whole : name ++ (blanks_of name ++ rest) ≡ name_front 48 (text ++ rest) ++ drop (length (name_front 48 (text ++ rest))) (text ++ rest) =
      sym (append_assoc name (blanks_of name) rest) ∙ ap (λ (x : List ℕ). x ++ rest) (sym h.1) ∙ front.parts in
      let same = same_front 48 name (name_front 48 (text ++ rest)) (blanks_of name ++ rest) (drop (length (name_front 48 (text ++ rest))) (text ++ rest)) h.0.bytes front.all h.0.fits front.short (λ p. padding_stops name rest p) front.stops whole in
      let after : List ℕ = drop (length (name_front 48 (text ++ rest))) (text ++ rest) in
      ap (λ (f : List ℕ). field_from f after) (sym same.0) ∙ ap (field_from name) (sym same.1) ∙ ap (λ (r : Result (Unit {0} × List ℕ) Miss). r >>= λ x. Ok (name, x.1)) ((Reads-fixed (blanks_of name)).again tt (blanks_of name) rest refl);
}

-- ---- the name bytes at the front, as the code finds them

abbrev bad_byte : ℕ → Bool
bad_byte b = not (is_name_byte b)

-- a run of name bytes that stops there is that run
pub record FrontLen (bytes : List ℕ) (len : ℕ) : Type 0 where
  pub length : len ≡ length (name_front 48 bytes)
  pub name : IsName 48 (take len bytes)
  pub front : take len bytes ≡ name_front 48 bytes

front_len : (bytes : List ℕ) (len : ℕ) → len ≤ 48 → len ≤ length bytes → list_all is_name_byte (take len bytes) ≡ true → (len < 48 → Stops (drop len bytes)) → FrontLen bytes len
front_len bytes len most within all stops =
    let front = is_front 48 bytes in
    let counted : length (take len bytes) ≡ len = omega (arith, length-take len bytes) in
    let same = same_front 48 (take len bytes) (name_front 48 bytes) (drop len bytes) (drop (length (name_front 48 bytes)) bytes) all front.all (omega (arith, counted)) front.short (λ p. stops (omega (arith, counted))) front.stops (take-append-drop len bytes ∙ front.parts) in
    record {
      length = sym counted ∙ ap length same.0;
      name = record { fits = omega (arith, counted); bytes = all };
      front = same.0;
    }

or_bad : (field text : List ℕ) (o : Option ℕ) → name_or_bad field o ≡ Ok text → (o ≡ None) × (text ≡ field)
or_bad field text None e = (refl, cc)
or_bad field text (Some place) e = absurd cc

at_bad : (field : List ℕ) (place : ℕ) (o : Option ℕ) → name_or_bad field o ≡ Err (BadByte place) → o ≡ Some place
at_bad field place None e = absurd cc
at_bad field place (Some other) e = cc

never_empty : (field : List ℕ) (o : Option ℕ) → name_or_bad field o ≡ Err Empty → ⊥
never_empty field None e = absurd cc
never_empty field (Some place) e = absurd cc

name_of_empty : (field : List ℕ) → name_of 48 field ≡ Err Empty → field ≡ []
name_of_empty [] e = refl
name_of_empty (b ∷ field) e =
    elim (cases_Bool (ltb 48 (length (b ∷ field)))) [
      | inl p ↦ absurd (let f : Err TooLong ≡ Err Empty = sym (cond-true (ltb 48 (length (b ∷ field))) (Err TooLong) (name_or_bad (b ∷ field) (position bad_byte (b ∷ field))) p) ∙ e in cc)
      | inr p ↦ absurd (never_empty (b ∷ field) (position bad_byte (b ∷ field)) (sym (cond-false (ltb 48 (length (b ∷ field))) (Err TooLong) (name_or_bad (b ∷ field) (position bad_byte (b ∷ field))) p) ∙ e))
    ]

at_end : (bytes : List ℕ) (n : ℕ) → length bytes ≤ n → Stops (drop n bytes)
at_end bytes n le = subst Stops (sym (drop_all n bytes le)) tt

name_of_ok : (field text : List ℕ) → name_of 48 field ≡ Ok text → (position bad_byte field ≡ None) × (text ≡ field)
name_of_ok [] text e = absurd cc
name_of_ok (b ∷ field) text e =
    elim (cases_Bool (ltb 48 (length (b ∷ field)))) [
      | inl p ↦ absurd (let f : Err TooLong ≡ Ok text = sym (cond-true (ltb 48 (length (b ∷ field))) (Err TooLong) (name_or_bad (b ∷ field) (position bad_byte (b ∷ field))) p) ∙ e in cc)
      | inr p ↦ or_bad (b ∷ field) text (position bad_byte (b ∷ field)) (sym (cond-false (ltb 48 (length (b ∷ field))) (Err TooLong) (name_or_bad (b ∷ field) (position bad_byte (b ∷ field))) p) ∙ e)
    ]

name_of_bad : (field : List ℕ) (place : ℕ) → name_of 48 field ≡ Err (BadByte place) → position bad_byte field ≡ Some place
name_of_bad [] place e = absurd cc
name_of_bad (b ∷ field) place e =
    elim (cases_Bool (ltb 48 (length (b ∷ field)))) [
      | inl p ↦ absurd (let f : Err TooLong ≡ Err (BadByte place) = sym (cond-true (ltb 48 (length (b ∷ field))) (Err TooLong) (name_or_bad (b ∷ field) (position bad_byte (b ∷ field))) p) ∙ e in cc)
      | inr p ↦ at_bad (b ∷ field) place (position bad_byte (b ∷ field)) (sym (cond-false (ltb 48 (length (b ∷ field))) (Err TooLong) (name_or_bad (b ∷ field) (position bad_byte (b ∷ field))) p) ∙ e)
    ]

-- the whole of a field that is a name
pub front_whole : (bytes text : List ℕ) (n : ℕ) → n ≡ min (length bytes) 48 → name_of 48 (take n bytes) ≡ Ok text → FrontLen bytes n
front_whole bytes text n is e =
    let h = name_of_ok (take n bytes) text e in
    front_len bytes n (omega arith) (omega arith) (no_bad (take n bytes) h.0) (λ p. at_end bytes n (omega arith))

-- a field up to its first bad byte
pub front_bad : (bytes : List ℕ) (n place : ℕ) → n ≡ min (length bytes) 48 → name_of 48 (take n bytes) ≡ Err (BadByte place) → FrontLen bytes place
front_bad bytes n place is e =
    let field = take n bytes in
    let counted : length field ≡ n = omega (arith, length-take n bytes) in
    let h = position-Some bad_byte field place 0 (name_of_bad field place e) in
    let front : take place field ≡ take place bytes = take-take place n bytes (omega (arith, counted, h.0)) in
    let all : list_all is_name_byte (take place bytes) ≡ true = list_all-from_AllPass is_name_byte (take place bytes) (λ k d lt.
    let m = length-take place bytes in
    let byte : get_or (take place bytes) k d ≡ get_or field k 0 = get_or-take place bytes k d (omega arith) ∙ get_or_default bytes k d 0 (omega (arith, counted, h.0)) ∙ sym (get_or-take n bytes k 0 (omega (arith, counted, h.0))) in
    ap is_name_byte byte ∙ not-false (is_name_byte (get_or field k 0)) (h.2 k (omega arith))) in
    let at : is_name_byte (get_or bytes place 0) ≡ false = ap is_name_byte (sym (get_or-take n bytes place 0 (omega (arith, counted, h.0)))) ∙ not-true (is_name_byte (get_or field place 0)) h.1 in
    front_len bytes place (omega (arith, counted, h.0)) (omega (arith, counted, h.0)) all (λ p. subst Stops (sym (drop_more bytes place 0 (omega (arith, counted, h.0)))) at)

-- no byte at all
pub front_none_at : (bytes : List ℕ) (n : ℕ) → n ≡ min (length bytes) 48 → name_of 48 (take n bytes) ≡ Err Empty → FrontLen bytes 0
front_none_at bytes n is e =
    let h = name_of_empty (take n bytes) e in
    let none : length bytes ≡ 0 = omega (arith, length-take n bytes, ap length h) in
    front_len bytes 0 (omega arith) (omega arith) refl (λ p. at_end bytes 0 (omega arith))

pub all_no_bad : (field : List ℕ) (o : Option ℕ) → position bad_byte field ≡ o → list_all is_name_byte field ≡ true → o ≡ None
all_no_bad field None e all = refl
all_no_bad field (Some place) e all =
    let h = position-Some bad_byte field place 0 e in
    let p = AllPass-from_list_all is_name_byte field all place 0 h.0 in
    absurd (let t : false ≡ true = sym (not-true (is_name_byte (get_or field place 0)) h.1) ∙ p in cc)

ok_or_err : (field : List ℕ) (e : NameFault) (o : Option ℕ) → o ≡ None → name_or_bad field o ≡ Err e → ⊥
ok_or_err field e None p q = absurd cc
ok_or_err field e (Some place) p q = absurd cc

-- only the blank name is no name that is read
pub blank_err : (text : List ℕ) (e : NameFault) → IsName 48 text → name_of 48 text ≡ Err e → text ≡ []
blank_err [] e h p = refl
blank_err (b ∷ text) e h p =
    let within : ltb 48 (length (b ∷ text)) ≡ false = le-ltb _ _ h.fits in
    absurd (ok_or_err (b ∷ text) e (position bad_byte (b ∷ text)) (all_no_bad (b ∷ text) (position bad_byte (b ∷ text)) refl h.bytes) (sym (cond-false (ltb 48 (length (b ∷ text))) (Err TooLong) (name_or_bad (b ∷ text) (position bad_byte (b ∷ text))) within) ∙ p))

-- a name as the code reads it
pub name_at_from : (bytes blanks rest : List ℕ) (len : ℕ) → len ≡ length (name_front 48 bytes) → rest ≡ drop len bytes → blanks ≡ replicate (48 - len) 32 → name_at bytes ≡ (fixed_at blanks rest >>= λ x. Ok (name_front 48 bytes, x.1))
unfolding name_at
name_at_from bytes blanks rest len e p q =
    ap (λ (n : ℕ). fixed_at (replicate (48 - n) 32) (drop n bytes) >>= λ x. Ok (name_front 48 bytes, x.1)) (sym e)
    ∙ ap (λ (r : List ℕ). fixed_at (replicate (48 - len) 32) r >>= λ x. Ok (name_front 48 bytes, x.1)) (sym p)
    ∙ ap (λ (b : List ℕ). fixed_at b rest >>= λ x. Ok (name_front 48 bytes, x.1)) (sym q)
