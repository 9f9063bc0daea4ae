-- Bodies of puts, both ways.
use Rattle.std.proofs.Common.{◌≡◌, ◌⊎◌, ℕ, suc, ◌≤◌, ◌<◌, Bool, true, false, cond, eqb, List, [], ◌∷◌, ◌++◌, length, refl, sym, ap, subst, ◌∙◌, arith, inl, inr}
use Rattle.std.specs.Prelude.{Option, Some, None, Result, Ok, Err, nat_le, nat_lt, codes, ◌&&◌}
use Rattle.std.proofs.lemmas.Bool.{and_parts, and_from}
use Rattle.std.proofs.lemmas.Bool.Decides.{eqb_tells, leb_tells}
use Rattle.mq_text.specs.declared.numbers.NumberFault.TheVariants.{NoNumber, OutOfRange}
use Rattle.mq_text.specs.Numbers.{is_number, is_negative, value_of, number_in}
use Rattle.mq_text.specs.Lines.{onto, cut}
use Rattle.mq_text.specs.Quoting.{quoted}
use Rattle.mq_history.specs.declared.scripts.Body.{Body}
use Rattle.mq_history.specs.declared.scripts.Body.TheVariants as bodies
use Rattle.mq_scn_lines.specs.declared.fault.Limit.TheVariants as limits
use Rattle.mq_scn_lines.specs.declared.fault.LineFault.{LineFault}
use Rattle.mq_scn_lines.specs.declared.fault.LineFault.TheVariants as faults
use Rattle.mq_scn_lines.specs.Faults.{rank}
use Rattle.mq_scn_lines.specs.Operands.{bracketed}
use Rattle.mq_scn_lines.specs.Texts.{text_in}
use Rattle.mq_scn_script.specs.Bodies.{fits, begins_with_minus, fill_number, fill_len, one_byte, filled_with, with_text, text_body_of, with_len, with_byte, fill_of, body_of, body_in}
use Rattle.mq_scn_grammar.specs.Words.{Mem}
use Rattle.mq_scn_grammar.specs.Faults.{IsMissed}
use Rattle.mq_scn_grammar.specs.Operands.{IsBracketed, IsNumeral}
use Rattle.mq_scn_grammar.specs.Bodies.{BodyShape, written, repeated, IsShape, IsBodyOf, IsBodyWord, HasLenFault, HasShapeFault, HasBodyFault}
use Rattle.mq_scn_grammar.proofs.Told.{Reports, told_via, missed_found, value_found}
use Rattle.mq_scn_grammar.proofs.Operands.{bracketed_read, bracketed_found, TextsOf, text_tells, text_read}
use Rattle.mq_scn_grammar.proofs.Numbers.{le_of, of_le, both_signs}

-- ---- lengths

abbrev limit_all : LineFault
limit_all = faults.Limit limits.Bodies

abbrev limit_one : LineFault
limit_one = faults.Limit limits.Body

not_long : (a b : ℕ) → nat_lt a b ≡ false → b ≤ a
not_long a b e = elim (leb_tells (suc a) b) [
  | inl t ↦ absurd (let f : true ≡ false = sym t.0 ∙ e in cc)
  | inr t ↦ (let lt = t.1 in omega (arith, lt))
]

no_len : (left len : ℕ) → len ≤ left → len ≤ 4194304 → (f : LineFault) → HasLenFault left len f → ⊥
no_len left len a b f (inl h) = absurd (let lt = h.1 in omega (arith, lt, a))
no_len left len a b f (inr h) = absurd (let lt = h.1 in omega (arith, lt, b))

-- the limit of all bodies is told before that of one
all_first : (g : LineFault) → (g ≡ limit_all) ⊎ (g ≡ limit_one) → (g ≡ limit_all) ⊎ (rank limit_all < rank g)
all_first g (inl e) = inl e
all_first g (inr e) = let r : rank g ≡ 11 = ap rank e in inr (omega (arith, r))

len_fault : (left len : ℕ) (g : LineFault) → HasLenFault left len g → (g ≡ limit_all) ⊎ (g ≡ limit_one)
len_fault left len g (inl h) = inl h.0
len_fault left len g (inr h) = inr h.0

one_only : (left len : ℕ) → len ≤ left → (g : LineFault) → HasLenFault left len g → g ≡ limit_one
one_only left len le g (inl h) = absurd (let lt = h.1 in omega (arith, lt, le))
one_only left len le g (inr h) = h.0

-- ---- texts

text_by : (left : ℕ) (text : List ℕ) (s t : Bool) → nat_lt left (length text) ≡ s → nat_lt 4194304 (length text) ≡ t
    → Reports (IsBodyOf left (written text)) (HasLenFault left (length text)) (with_text text (cond s (Err limit_all) (cond t (Err limit_one) (Ok (length text)))))
text_by left text true t e f =
    let lt = le_of (suc left) (length text) e in
    ((λ x h. absurd (let le = h.0 in omega (arith, lt, le))), inl (refl, lt), refl, λ g h. all_first g (len_fault left (length text) g h))
text_by left text false true e f =
    let le = not_long left (length text) e in
    let lt = le_of (suc 4194304) (length text) f in
    ((λ x h. absurd (let short = h.1 in omega (arith, lt, short))), inr (refl, lt), refl, λ g h. inl (one_only left (length text) le g h))
text_by left text false false e f =
    let a = not_long left (length text) e in
    let b = not_long 4194304 (length text) f in
    ((a, b, refl), (λ y h. h.2), λ g h. no_len left (length text) a b g h)

-- ---- counts

minus_first : (count : List ℕ) → is_negative count ≡ true → begins_with_minus count ≡ true
minus_first [] e = absurd cc
minus_first (b ∷ bs) e = by (eqb b 45) refl e
  where
    by : (t : Bool) → eqb b 45 ≡ t → cond t (is_number bs) false ≡ true → eqb b 45 ≡ true
    by true e f = e
    by false e f = absurd cc

number_no_minus : (count : List ℕ) (t : Bool) → is_number count ≡ true → begins_with_minus count ≡ t → t ≡ false
number_no_minus count false e f = refl
number_no_minus [] true e f = absurd cc
number_no_minus (b ∷ bs) true e f = elim (eqb_tells b 45) [
  | inl p ↦ absurd (let g : is_number (b ∷ bs) ≡ false = ap (λ (c : ℕ). is_number (c ∷ bs)) p.1 in let k : true ≡ false = sym e ∙ g in cc)
  | inr p ↦ absurd (let g : true ≡ false = sym f ∙ p.0 in cc)
]

module _ (left : ℕ) (count : List ℕ) (byte : ℕ) where
  abbrev Is : Body → Type 0
  Is = IsBodyOf left (repeated count byte)

  abbrev Has : LineFault → Type 0
  Has = HasShapeFault left (repeated count byte)

  form_fault : (IsNumeral count → ⊥) → Reports Is Has (Err faults.Form)
  form_fault none = ((λ x h. none (inl h.1.0)), inl (refl, none), refl, λ g h. only g h)
    where
      only : (g : LineFault) → Has g → (g ≡ faults.Form) ⊎ (rank faults.Form < rank g)
      only g (inl h) = inl h.0
      only g (inr (inl h)) = absurd (none (inr h.1))
      only g (inr (inr h)) = absurd (none (inl h.0))

  negative_fault : is_negative count ≡ true → Reports Is Has (Err limit_one)
  negative_fault e = ((λ x h. both_signs count h.1.0 e), inr (inl (refl, e)), refl, λ g h. only g h)
    where
      only : (g : LineFault) → Has g → (g ≡ limit_one) ⊎ (rank limit_one < rank g)
      only g (inl h) = absurd (h.1 (inr e))
      only g (inr (inl h)) = inl h.0
      only g (inr (inr h)) = absurd (both_signs count h.0 e)

  all_fault : is_number count ≡ true → Has limit_all → (left < value_of count) ⊎ (67108864 < value_of count) → Reports Is Has (Err limit_all)
  all_fault e has long = ((λ x h. never x h), has, refl, λ g h. first g h)
    where
      never : (x : Body) → Is x → ⊥
      never x h = elim long [
        | inl lt ↦ absurd (let same = h.1.1 in let le = h.2 in omega (arith, lt, same, le))
        | inr lt ↦ absurd (let same = h.1.1 in let le = h.1.3 in omega (arith, lt, same, le))
      ]

      first : (g : LineFault) → Has g → (g ≡ limit_all) ⊎ (rank limit_all < rank g)
      first g (inl h) = absurd (h.1 (inl e))
      first g (inr (inl h)) = all_first g (inr h.0)
      first g (inr (inr (k, inl h))) = all_first g (len_fault left (value_of count) g h)
      first g (inr (inr (k, inr h))) = inl h.0

  one_fault : is_number count ≡ true → value_of count ≤ left → value_of count ≤ 67108864 → 4194304 < value_of count → Reports Is Has (Err limit_one)
  one_fault e le all lt = ((λ x h. absurd (let same = h.1.1 in let short = h.1.3 in omega (arith, lt, same, short))), inr (inr (e, inl (inr (refl, lt)))), refl, λ g h. first g h)
    where
      first : (g : LineFault) → Has g → (g ≡ limit_one) ⊎ (rank limit_one < rank g)
      first g (inl h) = absurd (h.1 (inl e))
      first g (inr (inl h)) = inl h.0
      first g (inr (inr (k, inl h))) = inl (one_only left (value_of count) le g h)
      first g (inr (inr (k, inr h))) = absurd (let long = h.1 in omega (arith, long, all))

  no_fault : is_number count ≡ true → value_of count ≤ left → value_of count ≤ 4194304 → Reports Is Has (Ok (bodies.Fill (value_of count) byte))
  no_fault e le short = ((value_of count, (e, refl, (omega arith), short), le, refl), (λ y h. h.3 ∙ ap (λ (n : ℕ). bodies.Fill n byte) h.1.1), λ g h. never g h)
    where
      never : (g : LineFault) → Has g → ⊥
      never g (inl h) = h.1 (inl e)
      never g (inr (inl h)) = both_signs count e h.1
      never g (inr (inr (k, inl h))) = no_len left (value_of count) le short g h
      never g (inr (inr (k, inr h))) = absurd (let long = h.1 in omega (arith, long, short))

  -- what the reader makes of the tests
  abbrev fitting : (u w : Bool) → Result ℕ LineFault
  fitting u w = cond u (Err limit_all) (cond w (Err limit_one) (Ok (value_of count)))

  in_range_by : (u w : Bool) → nat_lt left (value_of count) ≡ u → nat_lt 4194304 (value_of count) ≡ w → is_number count ≡ true → value_of count ≤ 67108864 → Reports Is Has (with_len byte (fitting u w))
  in_range_by true w e f is all = let lt = le_of (suc left) (value_of count) e in all_fault is (inr (inr (is, inl (inl (refl, lt))))) (inl lt)
  in_range_by false true e f is all = one_fault is (not_long left (value_of count) e) all (le_of (suc 4194304) (value_of count) f)
  in_range_by false false e f is all = no_fault is (not_long left (value_of count) e) (not_long 4194304 (value_of count) f)

  out_by : (q : Bool) → begins_with_minus count ≡ q → is_number count ≡ true → 67108864 < value_of count → Reports Is Has (with_len byte (Err (cond q limit_one limit_all)))
  out_by true e is long = absurd (let none = number_no_minus count true is e in let f : true ≡ false = none in cc)
  out_by false e is long = all_fault is (inr (inr (is, inr (refl, long)))) (inr long)

  minus_by : (q : Bool) → begins_with_minus count ≡ q → is_negative count ≡ true → Reports Is Has (with_len byte (Err (cond q limit_one limit_all)))
  minus_by true e is = negative_fault is
  minus_by false e is = absurd (let f : false ≡ true = sym e ∙ minus_first count is in cc)

  too_long : (nat_le 0 (value_of count) && nat_le (value_of count) 67108864) ≡ false → 67108864 < value_of count
  too_long e = elim (leb_tells (value_of count) 67108864) [
    | inl t ↦ absurd (let f : true ≡ false = sym (and_from (nat_le 0 (value_of count)) (nat_le (value_of count) 67108864) (of_le 0 (value_of count) (omega arith)) t.0) ∙ e in cc)
    | inr t ↦ t.1
  ]

  count_by : (s m t : Bool) → is_number count ≡ s → is_negative count ≡ m → (nat_le 0 (value_of count) && nat_le (value_of count) 67108864) ≡ t
      → Reports Is Has (with_len byte (fill_number left count (cond s (cond t (Ok (value_of count)) (Err OutOfRange)) (cond m (Err OutOfRange) (Err NoNumber)))))
  count_by true m true e f g = in_range_by (nat_lt left (value_of count)) (nat_lt 4194304 (value_of count)) refl refl e (le_of (value_of count) 67108864 (and_parts (nat_le 0 (value_of count)) (nat_le (value_of count) 67108864) g).1)
  count_by true m false e f g = out_by (begins_with_minus count) refl e (too_long g)
  count_by false true t e f g = minus_by (begins_with_minus count) refl f
  count_by false false t e f g = form_fault (λ h. no_numeral h)
    where
      no_numeral : IsNumeral count → ⊥
      no_numeral (inl h) = absurd (let k : false ≡ true = sym e ∙ h in cc)
      no_numeral (inr h) = absurd (let k : false ≡ true = sym f ∙ h in cc)

  pub count_tells : Reports Is Has (with_len byte (fill_len left count))
  unfolding number_in
  count_tells = count_by (is_number count) (is_negative count) (nat_le 0 (value_of count) && nat_le (value_of count) 67108864) refl refl refl

-- ---- the shape of a word

abbrev shape_text : Result (List ℕ) LineFault → Option BodyShape
shape_text (Ok text) = Some (written text)
shape_text (Err f) = None

abbrev shape_byte : List ℕ → Result ℕ LineFault → Option BodyShape
shape_byte count (Ok byte) = Some (repeated count byte)
shape_byte count (Err f) = None

abbrev shape_fill : Option (List ℕ × List ℕ) → Option BodyShape
shape_fill None = None
shape_fill (Some p) = shape_byte p.0 (filled_with p.1)

abbrev shape_at : Option (List ℕ) → Option (List ℕ) → Option BodyShape
shape_at (Some value) fill = shape_text (text_in value)
shape_at None (Some value) = shape_fill (cut 44 value)
shape_at None None = None

abbrev shaped : ℕ → Option BodyShape → Result Body LineFault
shaped left None = Err faults.Form
shaped left (Some (written text)) = with_text text (fits left (length text))
shaped left (Some (repeated count byte)) = with_len byte (fill_len left count)

abbrev err_body : LineFault → Result Body LineFault
err_body f = Err f

form_only : (word : List ℕ) (f : LineFault) → text_in word ≡ Err f → f ≡ faults.Form
form_only word f e = (missed_found faults.Form (TextsOf word) (text_in word) f (text_tells word) e).0

text_shaped : (left : ℕ) (value : List ℕ) (r : Result (List ℕ) LineFault) → text_in value ≡ r → text_body_of left r ≡ shaped left (shape_text r)
text_shaped left value (Ok text) e = refl
text_shaped left value (Err f) e = ap err_body (form_only value f e)

byte_only : (rest : List ℕ) (r : Result (List ℕ) LineFault) (f : LineFault) → text_in rest ≡ r → one_byte r ≡ Err f → f ≡ faults.Form
byte_only rest (Ok []) f e h = cc
byte_only rest (Ok (b ∷ [])) f e h = absurd cc
byte_only rest (Ok (b ∷ c ∷ bs)) f e h = cc
byte_only rest (Err g) f e h = let same : g ≡ f = cc in sym same ∙ form_only rest g e

byte_shaped : (left : ℕ) (count rest : List ℕ) (r : Result ℕ LineFault) → filled_with rest ≡ r → with_byte left count r ≡ shaped left (shape_byte count r)
byte_shaped left count rest (Ok byte) e = refl
byte_shaped left count rest (Err f) e = ap err_body (byte_only rest (text_in rest) f refl e)

fill_shaped : (left : ℕ) (o : Option (List ℕ × List ℕ)) → fill_of left o ≡ shaped left (shape_fill o)
fill_shaped left None = refl
fill_shaped left (Some p) = byte_shaped left p.0 p.1 (filled_with p.1) refl

body_shaped : (left : ℕ) (text fill : Option (List ℕ)) → body_of left text fill ≡ shaped left (shape_at text fill)
body_shaped left (Some value) fill = text_shaped left value (text_in value) refl
body_shaped left None (Some value) = fill_shaped left (cut 44 value)
body_shaped left None None = refl

abbrev shape_of : List ℕ → Option BodyShape
shape_of word = shape_at (bracketed (codes "TEXT(") word) (bracketed (codes "FILL(") word)

-- found

abbrev some_shape : BodyShape → Option BodyShape
some_shape s = Some s

shape_text_found : (value word : List ℕ) (shape : BodyShape) (r : Result (List ℕ) LineFault) → text_in value ≡ r → shape_text r ≡ some_shape shape → IsBracketed (codes "TEXT(") value word → IsShape shape word
shape_text_found value word shape (Err f) e h is = absurd cc
shape_text_found value word shape (Ok text) e h is =
    let same : written text ≡ shape = cc in
    let q : value ≡ quoted text = text_value value text e in
    subst (λ (s : BodyShape). IsShape s word) same (subst (λ (v : List ℕ). IsBracketed (codes "TEXT(") v word) q is)
  where
    text_value : (value text : List ℕ) → text_in value ≡ Ok text → value ≡ quoted text
    text_value value text e = value_found (TextsOf value) (IsMissed faults.Form (TextsOf value)) (text_in value) text (text_tells value) e

abbrev pub some_cut : List ℕ × List ℕ → Option (List ℕ × List ℕ)
some_cut p = Some p

pub record CutAt (c : ℕ) (bytes : List ℕ) (p : List ℕ × List ℕ) : Type 0 where
  pub whole : bytes ≡ p.0 ++ c ∷ p.1
  pub none : Mem c p.0 → ⊥

cut_onto : (c b : ℕ) (bs : List ℕ) (p : List ℕ × List ℕ) (o : Option (List ℕ × List ℕ)) → (b ≡ c → ⊥) → ((q : List ℕ × List ℕ) → o ≡ some_cut q → CutAt c bs q) → onto b o ≡ some_cut p → CutAt c (b ∷ bs) p
cut_onto c b bs p None ne more e = absurd cc
cut_onto c b bs p (Some q) ne more e =
    let m = more q refl in
    let made : CutAt c (b ∷ bs) (b ∷ q.0, q.1) = record { whole = ap (λ (l : List ℕ). b ∷ l) m.whole; none = λ h. first h m.none } in
    let same : (b ∷ q.0, q.1) ≡ p = cc in
    subst (CutAt c (b ∷ bs)) same made
  where
    first : Mem c (b ∷ q.0) → (Mem c q.0 → ⊥) → ⊥
    first (inl h) never = ne (sym h)
    first (inr h) never = never h

pub cut_found : (c : ℕ) (bytes : List ℕ) (p : List ℕ × List ℕ) → cut c bytes ≡ some_cut p → CutAt c bytes p
cut_found c [] p e = absurd cc
cut_found c (b ∷ bs) p e = by (eqb_tells b c) (λ q f. cut_found c bs q f)
  where
    by : ((eqb b c ≡ true) × (b ≡ c)) ⊎ ((eqb b c ≡ false) × (b ≡ c → ⊥)) → ((q : List ℕ × List ℕ) → cut c bs ≡ some_cut q → CutAt c bs q) → CutAt c (b ∷ bs) p
    by (inl t) more =
        let f : some_cut ([], bs) ≡ some_cut p = sym (ap (λ (u : Bool). cond u (some_cut ([], bs)) (onto b (cut c bs))) t.0) ∙ e in
        let same : ([], bs) ≡ p = cc in
        subst (CutAt c (b ∷ bs)) same (record { whole = ap (λ (x : ℕ). x ∷ bs) t.1; none = λ m. m })
    by (inr t) more = cut_onto c b bs p (cut c bs) t.1 more (sym (ap (λ (u : Bool). cond u (some_cut ([], bs)) (onto b (cut c bs))) t.0) ∙ e)

pub cut_read : (c : ℕ) (front rest : List ℕ) → (Mem c front → ⊥) → cut c (front ++ c ∷ rest) ≡ some_cut (front, rest)
cut_read c [] rest never = elim (eqb_tells c c) [
  | inl t ↦ ap (λ (u : Bool). cond u (some_cut ([], rest)) (onto c (cut c rest))) t.0
  | inr t ↦ absurd (t.1 refl)
]
cut_read c (b ∷ front) rest never = elim (eqb_tells b c) [
  | inl t ↦ absurd (never (inl (sym t.1)))
  | inr t ↦ ap (λ (u : Bool). cond u (some_cut ([], front ++ c ∷ rest)) (onto b (cut c (front ++ c ∷ rest)))) t.0 ∙ ap (onto b) (cut_read c front rest (λ m. never (inr m)))
]

byte_found : (rest : List ℕ) (byte : ℕ) (r : Result (List ℕ) LineFault) → text_in rest ≡ r → one_byte r ≡ Ok byte → rest ≡ quoted (byte ∷ [])
byte_found rest byte (Ok []) e h = absurd cc
byte_found rest byte (Ok (b ∷ [])) e h = let same : b ≡ byte = cc in value_found (TextsOf rest) (IsMissed faults.Form (TextsOf rest)) (text_in rest) (b ∷ []) (text_tells rest) e ∙ ap (λ (x : ℕ). quoted (x ∷ [])) same
byte_found rest byte (Ok (b ∷ c ∷ bs)) e h = absurd cc
byte_found rest byte (Err g) e h = absurd cc

shape_byte_found : (count rest word value : List ℕ) (shape : BodyShape) (r : Result ℕ LineFault) → filled_with rest ≡ r → shape_byte count r ≡ some_shape shape → CutAt 44 value (count, rest) → IsBracketed (codes "FILL(") value word → IsShape shape word
shape_byte_found count rest word value shape (Err f) e h at is = absurd cc
shape_byte_found count rest word value shape (Ok byte) e h at is =
    let same : repeated count byte ≡ shape = cc in
    let q = byte_found rest byte (text_in rest) refl e in
    let v : value ≡ count ++ 44 ∷ quoted (byte ∷ []) = at.whole ∙ ap (λ (l : List ℕ). count ++ 44 ∷ l) q in
    subst (λ (s : BodyShape). IsShape s word) same (subst (λ (l : List ℕ). IsBracketed (codes "FILL(") l word) v is, at.none)

shape_fill_found : (word value : List ℕ) (shape : BodyShape) (o : Option (List ℕ × List ℕ)) → cut 44 value ≡ o → shape_fill o ≡ some_shape shape → IsBracketed (codes "FILL(") value word → IsShape shape word
shape_fill_found word value shape None e h is = absurd cc
shape_fill_found word value shape (Some p) e h is = shape_byte_found p.0 p.1 word value shape (filled_with p.1) refl h (cut_found 44 value p e) is

shape_found_at : (word : List ℕ) (shape : BodyShape) (text fill : Option (List ℕ)) → bracketed (codes "TEXT(") word ≡ text → bracketed (codes "FILL(") word ≡ fill → shape_at text fill ≡ some_shape shape → IsShape shape word
shape_found_at word shape (Some value) fill e f h = shape_text_found value word shape (text_in value) refl h (bracketed_found (codes "TEXT(") value word e)
shape_found_at word shape None (Some value) e f h = shape_fill_found word value shape (cut 44 value) refl h (bracketed_found (codes "FILL(") value word f)
shape_found_at word shape None None e f h = absurd cc

-- read

shape_read : (shape : BodyShape) (word : List ℕ) → IsShape shape word → shape_of word ≡ some_shape shape
shape_read (written text) word is =
    ap (λ (o : Option (List ℕ)). shape_at o (bracketed (codes "FILL(") word)) (bracketed_read (codes "TEXT(") (quoted text) word is)
    ∙ ap shape_text (text_read text (quoted text) refl)
shape_read (repeated count byte) word (is, none) =
    let other : bracketed (codes "TEXT(") word ≡ None = ap (bracketed (codes "TEXT(")) is in
    ap (λ (o : Option (List ℕ)). shape_at o (bracketed (codes "FILL(") word)) other
    ∙ ap (shape_at None) (bracketed_read (codes "FILL(") (count ++ 44 ∷ quoted (byte ∷ [])) word is)
    ∙ ap shape_fill (cut_read 44 count (quoted (byte ∷ [])) none)
    ∙ ap (shape_byte count) (ap one_byte (text_read (byte ∷ []) (quoted (byte ∷ [])) refl))

-- ---- bodies

shape_tells : (left : ℕ) (shape : BodyShape) → Reports (IsBodyOf left shape) (HasShapeFault left shape) (shaped left (Some shape))
shape_tells left (written text) = text_by left text (nat_lt left (length text)) (nat_lt 4194304 (length text)) refl refl
shape_tells left (repeated count byte) = count_tells left count byte

abbrev pub BodiesOf : ℕ → List ℕ → Body → Type 0
BodiesOf left word body = IsBodyWord left body word

pub body_tells : (left : ℕ) (word : List ℕ) → Reports (BodiesOf left word) (HasBodyFault left word) (body_in left word)
body_tells left word =
    subst (Reports (BodiesOf left word) (HasBodyFault left word)) (sym (body_shaped left (bracketed (codes "TEXT(") word) (bracketed (codes "FILL(") word)))
    (told_via (λ (s : BodyShape). IsShape s word) (IsBodyOf left) (HasShapeFault left) (shape_of word) (shaped left) refl
    (λ s e. shape_found_at word s (bracketed (codes "TEXT(") word) (bracketed (codes "FILL(") word) refl refl e)
    (λ s h. shape_read s word h)
    (λ s. shape_tells left s))
