-- The faults of a direction, and of a cable in both, both ways.
use Rattle.std.proofs.Common.{◌≡◌, ◌⊎◌, ℕ, suc, ◌+◌, ◌<◌, Bool, true, false, cond, eqb, List, [], ◌∷◌, ◌++◌, append_assoc, append-nil, take, drop, Result, Ok, Err, refl, sym, ap, subst, ◌∙◌, arith, inl, inr}
use Rattle.std.specs.Prelude.{◌==◌, ◌&&◌, ◌||◌, not, codes, Option, Some, None}
use Rattle.std.specs.Str.{bytes_eq}
use Rattle.std.proofs.lemmas.Bool.{and_parts}
use Rattle.std.proofs.lemmas.Bool.Decides.{eqb_tells}
use Rattle.std.proofs.lemmas.Slice.Eq.{bytes_eq-Decides}
use Rattle.mq_text.specs.Lines.{cut}
use Rattle.mq_cable.specs.declared.fault.Fault.{Fault}
use Rattle.mq_scn_lines.specs.declared.fault.LineFault.{LineFault}
use Rattle.mq_scn_lines.specs.declared.fault.LineFault.TheVariants as faults
use Rattle.mq_scn_lines.specs.Faults.{rank, both}
use Rattle.mq_scn_lines.specs.Operands.{bracketed}
use Rattle.mq_scn_heading.specs.Distinct.{is_among, are_distinct}
use Rattle.mq_scn_heading.specs.Cables.{frame_in, fault_in, value_from, value_in, before_comma, first_number, frame_or_none, first_of, first_in, with_first, firsts_from, is_form, have_form, then_faults, faults_from, faults_of, behind_keyword, direction, back_place, cable_faults}
use Rattle.mq_scn_grammar.specs.Words.{Mem}
use Rattle.mq_scn_grammar.specs.Operands.{IsBracketed}
use Rattle.mq_scn_grammar.proofs.Told.{Reports, is_plain, told_both, told_as, value_found, value_read}
use Rattle.mq_scn_grammar.proofs.Operands.{bracketed_read, bracketed_found}
use Rattle.mq_scn_grammar.proofs.Bodies.{cut_found, cut_read}
use Rattle.mq_scn_parts.specs.Cables.{IsFrame, HasFrameFault, FaultShape, drops, spoils, holds, copies, HasShapeFault, IsFaultWord, HasWordFault, IsFaultValue, IsHead, IsOnFrame, HaveSameFrame, AreFaultWords, AreFaults, HasFaultsFault, IsDirection, HasDirectionFault, IsSplit, AreCableFaults, HasCableFault}
use Rattle.mq_scn_parts.proofs.Then.{form_tells}
use Rattle.mq_scn_parts.proofs.Cables.{frame_tells, fault_tells}

abbrev ok_at : {A : Type 0} → A → Result A LineFault
ok_at x = Ok x

abbrev err_at : {A : Type 0} → LineFault → Result A LineFault
err_at f = Err f

ok_same : {A : Type 0} (x y : A) → ok_at x ≡ ok_at y → x ≡ y
ok_same x y e = cc

err_same : (f g : LineFault) → err_at {A = Fault} f ≡ err_at g → f ≡ g
err_same f g e = cc

never_ok : {A : Type 0} (x : A) (f : LineFault) → err_at f ≡ ok_at x → ⊥
never_ok x f e = absurd cc

-- ---- the faults of one word are Form or Number

frame_fault : (text : List ℕ) (g : LineFault) → HasFrameFault text g → (g ≡ faults.Form) ⊎ (g ≡ faults.Number)
frame_fault text g (inl h) = inl h.0
frame_fault text g (inr h) = inr h.1.0

shape_fault : (shape : FaultShape) (g : LineFault) → HasShapeFault shape g → (g ≡ faults.Form) ⊎ (g ≡ faults.Number)
shape_fault (drops frame) g h = frame_fault frame g h
shape_fault (spoils frame) g h = frame_fault frame g h
shape_fault (holds frame after) g (inl (inl h)) = frame_fault frame g h
shape_fault (holds frame after) g (inl (inr h)) = frame_fault after g h
shape_fault (holds frame after) g (inr h) = inr h.2.0
shape_fault (copies frame after) g (inl (inl h)) = frame_fault frame g h
shape_fault (copies frame after) g (inl (inr h)) = frame_fault after g h
shape_fault (copies frame after) g (inr h) = inr h.2.0

word_fault : (word : List ℕ) (g : LineFault) → HasWordFault word g → (g ≡ faults.Form) ⊎ (g ≡ faults.Number)
word_fault word g (inl h) = inl h.0
word_fault word g (inr h) = shape_fault h.0 g h.2

-- what a word's reader answers, told by its faults
fault_told : (word : List ℕ) (f : LineFault) → fault_in word ≡ err_at f → HasWordFault word f
fault_told word f e = by (fault_in word) e (fault_tells word)
  where
    by : (r : Result Fault LineFault) → r ≡ err_at f → Reports (IsFaultWord word) (HasWordFault word) r → HasWordFault word f
    by (Ok x) e t = absurd (never_ok x f (sym e))
    by (Err g) e t = subst (HasWordFault word) (err_same g f e) t.1

no_fault : (word : List ℕ) (x : Fault) → fault_in word ≡ ok_at x → (g : LineFault) → HasWordFault word g → ⊥
no_fault word x e g h = by (fault_in word) e (fault_tells word)
  where
    by : (r : Result Fault LineFault) → r ≡ ok_at x → Reports (IsFaultWord word) (HasWordFault word) r → ⊥
    by (Ok y) e t = t.2 g h
    by (Err f) e t = never_ok x f e

word_read : (word : List ℕ) (x : Fault) → IsFaultWord word x → fault_in word ≡ ok_at x
word_read word x h = value_read (IsFaultWord word) (HasWordFault word) (fault_in word) x (fault_tells word) h

word_found : (word : List ℕ) (x : Fault) → fault_in word ≡ ok_at x → IsFaultWord word x
word_found word x e = value_found (IsFaultWord word) (HasWordFault word) (fault_in word) x (fault_tells word) e

-- the first fault of a word is Form where it has that one
first_form : (word : List ℕ) (f : LineFault) → fault_in word ≡ err_at f → HasWordFault word faults.Form → f ≡ faults.Form
first_form word f e h = by (fault_in word) e (fault_tells word)
  where
    below : (f : LineFault) → (faults.Form ≡ f) ⊎ (rank f < 2) → HasWordFault word f → f ≡ faults.Form
    below f (inl e) k = sym e
    below f (inr lt) k = low f lt (word_fault word f k)
      where
        low : (f : LineFault) → rank f < 2 → (f ≡ faults.Form) ⊎ (f ≡ faults.Number) → f ≡ faults.Form
        low f lt (inl e) = e
        low f lt (inr e) = absurd (let r : rank f ≡ 18 = ap rank e in omega (arith, lt, r))

    by : (r : Result Fault LineFault) → r ≡ err_at f → Reports (IsFaultWord word) (HasWordFault word) r → f ≡ faults.Form
    by (Ok x) e t = absurd (never_ok x f (sym e))
    by (Err g) e t = let same : g ≡ f = err_same g f e in sym same ∙ below g (t.3 faults.Form h) t.1

-- ---- the form of words

not_true : (t : Bool) → not t ≡ true → t ≡ false
not_true true e = absurd cc
not_true false e = refl

form_by : (r : Result Fault LineFault) → is_form r ≡ true → r ≡ err_at faults.Form
form_by (Ok x) e = absurd cc
form_by (Err faults.Form) e = refl
form_by (Err faults.NoMemory) e = absurd cc
form_by (Err (faults.Limit l)) e = absurd cc
form_by (Err faults.Name) e = absurd cc
form_by (Err faults.Unknown) e = absurd cc
form_by (Err faults.Twice) e = absurd cc
form_by (Err faults.Number) e = absurd cc
form_by (Err faults.Order) e = absurd cc
form_by (Err (faults.Mqsc m)) e = absurd cc

-- a word of no form, if there is one
formless : (words : List (List ℕ)) → have_form words ≡ false → (w : List ℕ) × Mem w words × HasWordFault w faults.Form
formless [] e = absurd cc
formless (w ∷ ws) e = by (λ g. formless ws g) (is_form (fault_in w)) refl e
  where
    by : (have_form ws ≡ false → (v : List ℕ) × Mem v ws × HasWordFault v faults.Form) → (t : Bool) → is_form (fault_in w) ≡ t → (not t && have_form ws) ≡ false → (v : List ℕ) × Mem v (w ∷ ws) × HasWordFault v faults.Form
    by behind true f g = (w, inl refl, fault_told w faults.Form (form_by (fault_in w) f))
    by behind false f g = let more = behind g in (more.0, inr more.1, more.2)

formed : (words : List (List ℕ)) → have_form words ≡ true → (w : List ℕ) → Mem w words → is_form (fault_in w) ≡ false
formed [] e w m = absurd m
formed (v ∷ vs) e w (inl m) = subst (λ (x : List ℕ). is_form (fault_in x) ≡ false) (sym m) (not_true (is_form (fault_in v)) (and_parts (not (is_form (fault_in v))) (have_form vs) e).0)
formed (v ∷ vs) e w (inr m) = formed vs (and_parts (not (is_form (fault_in v))) (have_form vs) e).1 w m

-- where words have a form, their faults are Number
only_number : (words : List (List ℕ)) → have_form words ≡ true → (w : List ℕ) → Mem w words → (g : LineFault) → HasWordFault w g → g ≡ faults.Number
only_number words e w m g h = by (word_fault w g h)
  where
    no_form : (r : Result Fault LineFault) → fault_in w ≡ r → HasWordFault w faults.Form → ⊥
    no_form (Ok x) f k = no_fault w x f faults.Form k
    no_form (Err f) k h = absurd (let is : fault_in w ≡ err_at faults.Form = k ∙ ap (λ (x : LineFault). err_at x) (first_form w f k h) in let a : is_form (fault_in w) ≡ true = ap is_form is in let b : true ≡ false = sym a ∙ formed words e w m in cc)

    by : (g ≡ faults.Form) ⊎ (g ≡ faults.Number) → g ≡ faults.Number
    by (inl f) = absurd (no_form (fault_in w) refl (subst (HasWordFault w) f h))
    by (inr f) = f

-- ---- frames on which faults are

value_found_at : (word value : List ℕ) (d s l c : Option (List ℕ)) → bracketed (codes "DROP(") word ≡ d → bracketed (codes "SPOIL(") word ≡ s → bracketed (codes "LATE(") word ≡ l → bracketed (codes "COPY(") word ≡ c
    → value_from d s l c ≡ Some value → IsFaultValue word value
value_found_at word value (Some v) s l c d_is s_is l_is c_is h = let same : v ≡ value = cc in inl (inl (subst (λ (x : List ℕ). IsBracketed (codes "DROP(") x word) same (bracketed_found (codes "DROP(") v word d_is)))
value_found_at word value None (Some v) l c d_is s_is l_is c_is h = let same : v ≡ value = cc in inl (inr (subst (λ (x : List ℕ). IsBracketed (codes "SPOIL(") x word) same (bracketed_found (codes "SPOIL(") v word s_is)))
value_found_at word value None None (Some v) c d_is s_is l_is c_is h = let same : v ≡ value = cc in inr (inl (subst (λ (x : List ℕ). IsBracketed (codes "LATE(") x word) same (bracketed_found (codes "LATE(") v word l_is)))
value_found_at word value None None None (Some v) d_is s_is l_is c_is h = let same : v ≡ value = cc in inr (inr (subst (λ (x : List ℕ). IsBracketed (codes "COPY(") x word) same (bracketed_found (codes "COPY(") v word c_is)))
value_found_at word value None None None None d_is s_is l_is c_is h = absurd cc

value_read_at : (word value : List ℕ) → IsFaultValue word value → value_in word ≡ Some value
value_read_at word value (inl (inl is)) =
    ap (λ (o : Option (List ℕ)). value_from o (bracketed (codes "SPOIL(") word) (bracketed (codes "LATE(") word) (bracketed (codes "COPY(") word)) (bracketed_read (codes "DROP(") value word is)
value_read_at word value (inl (inr is)) =
    let d : bracketed (codes "DROP(") word ≡ None = ap (bracketed (codes "DROP(")) is in
    ap (λ (o : Option (List ℕ)). value_from o (bracketed (codes "SPOIL(") word) (bracketed (codes "LATE(") word) (bracketed (codes "COPY(") word)) d
    ∙ ap (λ (o : Option (List ℕ)). value_from None o (bracketed (codes "LATE(") word) (bracketed (codes "COPY(") word)) (bracketed_read (codes "SPOIL(") value word is)
value_read_at word value (inr (inl is)) =
    let d : bracketed (codes "DROP(") word ≡ None = ap (bracketed (codes "DROP(")) is in
    let s : bracketed (codes "SPOIL(") word ≡ None = ap (bracketed (codes "SPOIL(")) is in
    ap (λ (o : Option (List ℕ)). value_from o (bracketed (codes "SPOIL(") word) (bracketed (codes "LATE(") word) (bracketed (codes "COPY(") word)) d
    ∙ ap (λ (o : Option (List ℕ)). value_from None o (bracketed (codes "LATE(") word) (bracketed (codes "COPY(") word)) s
    ∙ ap (λ (o : Option (List ℕ)). value_from None None o (bracketed (codes "COPY(") word)) (bracketed_read (codes "LATE(") value word is)
value_read_at word value (inr (inr is)) =
    let d : bracketed (codes "DROP(") word ≡ None = ap (bracketed (codes "DROP(")) is in
    let s : bracketed (codes "SPOIL(") word ≡ None = ap (bracketed (codes "SPOIL(")) is in
    let l : bracketed (codes "LATE(") word ≡ None = ap (bracketed (codes "LATE(")) is in
    ap (λ (o : Option (List ℕ)). value_from o (bracketed (codes "SPOIL(") word) (bracketed (codes "LATE(") word) (bracketed (codes "COPY(") word)) d
    ∙ ap (λ (o : Option (List ℕ)). value_from None o (bracketed (codes "LATE(") word) (bracketed (codes "COPY(") word)) s
    ∙ ap (λ (o : Option (List ℕ)). value_from None None o (bracketed (codes "COPY(") word)) l
    ∙ ap (value_from None None None) (bracketed_read (codes "COPY(") value word is)

cut_none : (c : ℕ) (bytes : List ℕ) → cut c bytes ≡ None → Mem c bytes → ⊥
cut_none c [] e m = m
cut_none c (b ∷ bs) e (inl m) = absurd (let made : cut c (b ∷ bs) ≡ Some ([], bs) = ap (λ (x : ℕ). cut c (x ∷ bs)) (sym m) ∙ cut_read c [] bs (λ k. k) in let f : None ≡ Some ([], bs) = sym e ∙ made in cc)
cut_none c (b ∷ bs) e (inr m) = by (λ f. cut_none c bs f m) (cut c bs) refl (eqb_tells b c)
  where
    by : (cut c bs ≡ None → ⊥) → (o : Option (List ℕ × List ℕ)) → cut c bs ≡ o → ((eqb b c ≡ true) × (b ≡ c)) ⊎ ((eqb b c ≡ false) × (b ≡ c → ⊥)) → ⊥
    by behind o f (inl t) = absurd (let made : cut c (b ∷ bs) ≡ Some ([], bs) = ap (λ (x : ℕ). cut c (x ∷ bs)) t.1 ∙ cut_read c [] bs (λ k. k) in let g : None ≡ Some ([], bs) = sym e ∙ made in cc)
    by behind None f (inr t) = behind f
    by behind (Some p) f (inr t) =
        let at = cut_found c bs p f in
        absurd (let made : cut c (b ∷ bs) ≡ Some (b ∷ p.0, p.1) = ap (λ (l : List ℕ). cut c (b ∷ l)) at.whole ∙ cut_read c (b ∷ p.0) p.1 (λ k. not_in k at.none) in let g : None ≡ Some (b ∷ p.0, p.1) = sym e ∙ made in cc)
      where
        not_in : Mem c (b ∷ p.0) → (Mem c p.0 → ⊥) → ⊥
        not_in (inl k) never = t.1 (sym k)
        not_in (inr k) never = never k

head_by : (value : List ℕ) (o : Option (List ℕ × List ℕ)) → cut 44 value ≡ o → IsHead value (before_comma value o)
head_by value None e = ((λ m. cut_none 44 value e m), inl refl)
head_by value (Some p) e = let at = cut_found 44 value p e in (at.none, inr (p.1, at.whole))

head_found : (value : List ℕ) → IsHead value (first_number value)
head_found value = head_by value (cut 44 value) refl

one_head : (value head : List ℕ) → IsHead value head → first_number value ≡ head
one_head value head (none, inl e) = by (cut 44 value) refl
  where
    by : (o : Option (List ℕ × List ℕ)) → cut 44 value ≡ o → before_comma value o ≡ head
    by None f = e
    by (Some p) f = absurd (let at = cut_found 44 value p f in none (subst (Mem 44) (sym at.whole ∙ e) (there p.0 p.1)))
      where
        there : (front rest : List ℕ) → Mem 44 (front ++ 44 ∷ rest)
        there [] rest = inl refl
        there (b ∷ front) rest = inr (there front rest)
one_head value head (none, inr (rest, e)) = ap first_number e ∙ ap (before_comma (head ++ 44 ∷ rest)) (cut_read 44 head rest none)

abbrev some_frame : ℕ → Option ℕ
some_frame k = Some k

frame_found : (text : List ℕ) (r : Result ℕ LineFault) (k : ℕ) → frame_in text ≡ r → frame_or_none r ≡ some_frame k → IsFrame text k
frame_found text (Ok n) k e h = let same : n ≡ k = cc in subst (IsFrame text) same (value_found (IsFrame text) (HasFrameFault text) (frame_in text) n (frame_tells text) e)
frame_found text (Err f) k e h = absurd cc

first_found_by : (word : List ℕ) (o : Option (List ℕ)) (k : ℕ) → value_in word ≡ o → first_of o ≡ some_frame k → IsOnFrame word k
first_found_by word None k e h = absurd cc
first_found_by word (Some value) k e h =
    (value, first_number value, value_found_at word value (bracketed (codes "DROP(") word) (bracketed (codes "SPOIL(") word) (bracketed (codes "LATE(") word) (bracketed (codes "COPY(") word) refl refl refl refl e, head_found value, frame_found (first_number value) (frame_in (first_number value)) k refl h)

first_found : (word : List ℕ) (k : ℕ) → first_in word ≡ some_frame k → IsOnFrame word k
first_found word k h = first_found_by word (value_in word) k refl h

first_read : (word : List ℕ) (k : ℕ) → IsOnFrame word k → first_in word ≡ some_frame k
first_read word k (value, head, is, at, frame) =
    ap first_of (value_read_at word value is)
    ∙ ap (λ (t : List ℕ). frame_or_none (frame_in t)) (one_head value head at)
    ∙ ap frame_or_none (value_read (IsFrame head) (HasFrameFault head) (frame_in head) k (frame_tells head) frame)

-- the frames of words, one behind the other
abbrev onto : Option ℕ → List ℕ → List ℕ
onto None ks = ks
onto (Some k) ks = k ∷ ks

abbrev firsts : List (List ℕ) → List ℕ
firsts [] = []
firsts (w ∷ ws) = onto (first_in w) (firsts ws)

front_onto : (front : List ℕ) (o : Option ℕ) (ks : List ℕ) → with_first front o ++ ks ≡ front ++ onto o ks
front_onto front None ks = refl
front_onto front (Some k) ks = append_assoc front (k ∷ []) ks

firsts_all : (front : List ℕ) (words : List (List ℕ)) → firsts_from front words ≡ front ++ firsts words
firsts_all front [] = sym (append-nil front)
firsts_all front (w ∷ ws) = firsts_all (with_first front (first_in w)) ws ∙ front_onto front (first_in w) (firsts ws)

among_found : (k : ℕ) (words : List (List ℕ)) → is_among k (firsts words) ≡ true → (v : List ℕ) × Mem v words × IsOnFrame v k
among_found k [] e = absurd cc
among_found k (w ∷ ws) e = by (λ g. among_found k ws g) (first_in w) refl e
  where
    by : (is_among k (firsts ws) ≡ true → (v : List ℕ) × Mem v ws × IsOnFrame v k) → (o : Option ℕ) → first_in w ≡ o → is_among k (onto o (firsts ws)) ≡ true → (v : List ℕ) × Mem v (w ∷ ws) × IsOnFrame v k
    by behind None f g = let more = behind g in (more.0, inr more.1, more.2)
    by behind (Some j) f g = at (j == k) (eqb_tells j k) g
      where
        at : (t : Bool) → ((t ≡ true) × (j ≡ k)) ⊎ ((t ≡ false) × (j ≡ k → ⊥)) → (t || is_among k (firsts ws)) ≡ true → (v : List ℕ) × Mem v (w ∷ ws) × IsOnFrame v k
        at t (inl p) h = (w, inl refl, subst (IsOnFrame w) p.1 (first_found w j f))
        at true (inr p) h = absurd (let c = p.0 in cc)
        at false (inr p) h = let more = behind h in (more.0, inr more.1, more.2)

among_read : (k : ℕ) (words : List (List ℕ)) (v : List ℕ) → Mem v words → IsOnFrame v k → is_among k (firsts words) ≡ true
among_read k [] v m on = absurd m
among_read k (w ∷ ws) v (inl m) on =
    let f : first_in w ≡ some_frame k = first_read w k (subst (λ (x : List ℕ). IsOnFrame x k) m on) in
    ap (λ (o : Option ℕ). is_among k (onto o (firsts ws))) f ∙ at (k == k) (eqb_tells k k)
  where
    at : (t : Bool) → ((t ≡ true) × (k ≡ k)) ⊎ ((t ≡ false) × (k ≡ k → ⊥)) → (t || is_among k (firsts ws)) ≡ true
    at true p = refl
    at false (inl p) = absurd (let c = p.0 in cc)
    at false (inr p) = absurd (p.1 refl)
among_read k (w ∷ ws) v (inr m) on = by (among_read k ws v m on) (first_in w) refl
  where
    by : is_among k (firsts ws) ≡ true → (o : Option ℕ) → first_in w ≡ o → is_among k (onto o (firsts ws)) ≡ true
    by behind None f = behind
    by behind (Some j) f = at (j == k)
      where
        at : (t : Bool) → (t || is_among k (firsts ws)) ≡ true
        at true = refl
        at false = behind

same_found : (words : List (List ℕ)) → are_distinct (firsts words) ≡ false → HaveSameFrame words
same_found [] e = absurd cc
same_found (w ∷ ws) e = by (λ g. same_found ws g) (first_in w) refl e
  where
    by : (are_distinct (firsts ws) ≡ false → HaveSameFrame ws) → (o : Option ℕ) → first_in w ≡ o → are_distinct (onto o (firsts ws)) ≡ false → HaveSameFrame (w ∷ ws)
    by behind None f g = inr (behind g)
    by behind (Some k) f g = at (is_among k (firsts ws)) refl g
      where
        at : (t : Bool) → is_among k (firsts ws) ≡ t → (not t && are_distinct (firsts ws)) ≡ false → HaveSameFrame (w ∷ ws)
        at true h i = let more = among_found k ws h in inl (k, more.0, first_found w k f, more.1, more.2)
        at false h i = inr (behind i)

same_read : (words : List (List ℕ)) → are_distinct (firsts words) ≡ true → HaveSameFrame words → ⊥
same_read [] e h = h
same_read (w ∷ ws) e (inl (k, v, on, m, on_too)) =
    let f : first_in w ≡ some_frame k = first_read w k on in
    let g : (not (is_among k (firsts ws)) && are_distinct (firsts ws)) ≡ true = sym (ap (λ (o : Option ℕ). are_distinct (onto o (firsts ws))) f) ∙ e in
    let a : is_among k (firsts ws) ≡ false = not_true (is_among k (firsts ws)) (and_parts (not (is_among k (firsts ws))) (are_distinct (firsts ws)) g).0 in
    absurd (let b : true ≡ false = sym (among_read k ws v m on_too) ∙ a in cc)
same_read (w ∷ ws) e (inr h) = same_read ws (by (first_in w) e) h
  where
    by : (o : Option ℕ) → are_distinct (onto o (firsts ws)) ≡ true → are_distinct (firsts ws) ≡ true
    by None g = g
    by (Some k) g = (and_parts (not (is_among k (firsts ws))) (are_distinct (firsts ws)) g).1

-- ---- all faults

record AllFound (front : List Fault) (words : List (List ℕ)) (xs : List Fault) : Type 0 where
  ys : List Fault
  is : xs ≡ front ++ ys
  are : AreFaultWords words ys

all_found : (front : List Fault) (words : List (List ℕ)) (xs : List Fault) → faults_from front words ≡ ok_at xs → AllFound front words xs
all_found front [] xs e = record { ys = []; is = sym (ok_same front xs e) ∙ sym (append-nil front); are = tt }
all_found front (w ∷ ws) xs e = by (λ x g. all_found (front ++ x ∷ []) ws xs g) (fault_in w) refl e
  where
    by : ((x : Fault) → faults_from (front ++ x ∷ []) ws ≡ ok_at xs → AllFound (front ++ x ∷ []) ws xs) → (r : Result Fault LineFault) → fault_in w ≡ r → then_faults r (λ fault. faults_from (front ++ fault ∷ []) ws) ≡ ok_at xs → AllFound front (w ∷ ws) xs
    by behind (Ok x) f g = let more = behind x g in record { ys = x ∷ more.ys; is = more.is ∙ append_assoc front (x ∷ []) more.ys; are = (word_found w x f, more.are) }
    by behind (Err f) k g = absurd (never_ok xs f g)

all_read : (front : List Fault) (words : List (List ℕ)) (ys : List Fault) → AreFaultWords words ys → faults_from front words ≡ ok_at (front ++ ys)
all_read front [] [] h = ap (λ (l : List Fault). ok_at l) (sym (append-nil front))
all_read front [] (y ∷ ys) h = absurd h
all_read front (w ∷ ws) [] h = absurd h
all_read front (w ∷ ws) (y ∷ ys) h =
    ap (λ (r : Result Fault LineFault). then_faults r (λ fault. faults_from (front ++ fault ∷ []) ws)) (word_read w y h.0)
    ∙ all_read (front ++ y ∷ []) ws ys h.1
    ∙ ap (λ (l : List Fault). ok_at l) (append_assoc front (y ∷ []) ys)

all_refused : (front : List Fault) (words : List (List ℕ)) (f : LineFault) → faults_from front words ≡ err_at f → (w : List ℕ) × Mem w words × HasWordFault w f
all_refused front [] f e = absurd cc
all_refused front (w ∷ ws) f e = by (λ x g. all_refused (front ++ x ∷ []) ws f g) (fault_in w) refl e
  where
    err_lists : (g f : LineFault) → err_at {A = List Fault} g ≡ err_at f → g ≡ f
    err_lists g f e = cc

    by : ((x : Fault) → faults_from (front ++ x ∷ []) ws ≡ err_at f → (v : List ℕ) × Mem v ws × HasWordFault v f) → (r : Result Fault LineFault) → fault_in w ≡ r → then_faults r (λ fault. faults_from (front ++ fault ∷ []) ws) ≡ err_at f → (v : List ℕ) × Mem v (w ∷ ws) × HasWordFault v f
    by behind (Ok x) k g = let more = behind x g in (more.0, inr more.1, more.2)
    by behind (Err g) k h = (w, inl refl, subst (HasWordFault w) (err_lists g f h) (fault_told w g k))

all_fine : (front : List Fault) (words : List (List ℕ)) (xs : List Fault) → faults_from front words ≡ ok_at xs → (w : List ℕ) → Mem w words → (g : LineFault) → HasWordFault w g → ⊥
all_fine front [] xs e w m g h = m
all_fine front (v ∷ vs) xs e w m g h = by (λ x k n. all_fine (front ++ x ∷ []) vs xs k w n g h) (fault_in v) refl e m
  where
    by : ((x : Fault) → faults_from (front ++ x ∷ []) vs ≡ ok_at xs → Mem w vs → ⊥) → (r : Result Fault LineFault) → fault_in v ≡ r → then_faults r (λ fault. faults_from (front ++ fault ∷ []) vs) ≡ ok_at xs → Mem w (v ∷ vs) → ⊥
    by behind (Ok x) f k (inl m) = no_fault v x f g (subst (λ (y : List ℕ). HasWordFault y g) m h)
    by behind (Ok x) f k (inr m) = behind x k m
    by behind (Err f) k l m = never_ok xs f l

module _ (words : List (List ℕ)) where
  word_in : (g : LineFault) → HasFaultsFault words g → (g ≡ faults.Form) ⊎ ((g ≡ faults.Number) ⊎ (g ≡ faults.Twice))
  word_in g (inl h) = by (word_fault h.0 g h.2)
    where
      by : (g ≡ faults.Form) ⊎ (g ≡ faults.Number) → (g ≡ faults.Form) ⊎ ((g ≡ faults.Number) ⊎ (g ≡ faults.Twice))
      by (inl e) = inl e
      by (inr e) = inr (inl e)
  word_in g (inr h) = inr (inr h.0)

  -- one word has no form
  no_form : have_form words ≡ false → Reports (AreFaults words) (HasFaultsFault words) (Err faults.Form)
  no_form e =
      let bad = formless words e in
      ((λ xs h. all_fine [] words ([] ++ xs) (all_read [] words xs h.0) bad.0 bad.1 faults.Form bad.2), inl bad, refl, λ g h. by g (word_in g h))
    where
      by : (g : LineFault) → (g ≡ faults.Form) ⊎ ((g ≡ faults.Number) ⊎ (g ≡ faults.Twice)) → (g ≡ faults.Form) ⊎ (rank faults.Form < rank g)
      by g (inl e) = inl e
      by g (inr (inl e)) = inr (let r : rank g ≡ 18 = ap rank e in omega (arith, r))
      by g (inr (inr e)) = inr (let r : rank g ≡ 17 = ap rank e in omega (arith, r))

  -- two are on one frame
  not_distinct : have_form words ≡ true → HaveSameFrame words → Reports (AreFaults words) (HasFaultsFault words) (Err faults.Twice)
  not_distinct e same = ((λ xs h. h.1 same), inr (refl, same), refl, λ g h. by g h)
    where
      by : (g : LineFault) → HasFaultsFault words g → (g ≡ faults.Twice) ⊎ (rank faults.Twice < rank g)
      by g (inl h) = inr (let r : rank g ≡ 18 = ap rank (only_number words e h.0 h.1 g h.2) in omega (arith, r))
      by g (inr h) = inl h.0

  distinct_by : have_form words ≡ true → (HaveSameFrame words → ⊥) → (r : Result (List Fault) LineFault) → faults_from [] words ≡ r → Reports (AreFaults words) (HasFaultsFault words) r
  distinct_by e none (Ok xs) f =
      let all = all_found [] words xs f in
      ((subst (AreFaultWords words) (sym all.is) all.are, none), (λ ys h. ok_same ys xs (sym (all_read [] words ys h.0) ∙ f)), λ g h. never g h)
    where
      never : (g : LineFault) → HasFaultsFault words g → ⊥
      never g (inl h) = all_fine [] words xs f h.0 h.1 g h.2
      never g (inr h) = none h.1
  distinct_by e none (Err g) f =
      let bad = all_refused [] words g f in
      let number : g ≡ faults.Number = only_number words e bad.0 bad.1 g bad.2 in
      ((λ ys h. never_ok ([] ++ ys) g (sym f ∙ all_read [] words ys h.0)), inl bad, ap is_plain number, λ k h. by k h number)
    where
      by : (k : LineFault) → HasFaultsFault words k → g ≡ faults.Number → (k ≡ g) ⊎ (rank g < rank k)
      by k (inl h) number = inl (only_number words e h.0 h.1 k h.2 ∙ sym number)
      by k (inr h) number = absurd (none h.1)

  distinct_at : have_form words ≡ true → (t : Bool) → are_distinct (firsts words) ≡ t → Reports (AreFaults words) (HasFaultsFault words) (cond t (faults_from [] words) (Err faults.Twice))
  distinct_at e true f = distinct_by e (λ h. same_read words f h) (faults_from [] words) refl
  distinct_at e false f = not_distinct e (same_found words f)

  form_at : (t : Bool) → have_form words ≡ t → Reports (AreFaults words) (HasFaultsFault words) (cond t (cond (are_distinct (firsts_from [] words)) (faults_from [] words) (Err faults.Twice)) (Err faults.Form))
  form_at true e = distinct_at e (are_distinct (firsts_from [] words)) (ap are_distinct (sym (firsts_all [] words)))
  form_at false e = no_form e

  faults_tell : Reports (AreFaults words) (HasFaultsFault words) (faults_of words)
  unfolding faults_of
  faults_tell = form_at (have_form words) refl

-- ---- the two directions

keyword_by : (keyword w v : List ℕ) (ws : List (List ℕ)) (t : Bool) → bytes_eq w keyword ≡ t → Reports (IsDirection keyword (w ∷ v ∷ ws)) (HasDirectionFault keyword (w ∷ v ∷ ws)) (cond t (faults_of (v ∷ ws)) (Err faults.Form))
keyword_by keyword w v ws true e =
    let same : w ≡ keyword = (bytes_eq-Decides w keyword).0 e in
    told_as (AreFaults (v ∷ ws)) (HasFaultsFault (v ∷ ws)) (IsDirection keyword (w ∷ v ∷ ws)) (HasDirectionFault keyword (w ∷ v ∷ ws)) (faults_of (v ∷ ws))
    (λ x h. (same, h)) (λ x h. h.1) (λ f h. inr (same, h)) (λ f h. back same f h) (faults_tell (v ∷ ws))
  where
    back : w ≡ keyword → (f : LineFault) → HasDirectionFault keyword (w ∷ v ∷ ws) f → HasFaultsFault (v ∷ ws) f
    back same f (inl h) = absurd (h.1 same)
    back same f (inr h) = h.1
keyword_by keyword w v ws false e =
    let ne : w ≡ keyword → ⊥ = λ h. absurd (let f : false ≡ true = sym e ∙ (bytes_eq-Decides w keyword).1 h in cc) in
    ((λ x h. ne h.0), inl (refl, ne), refl, λ g h. by ne g h)
  where
    by : (w ≡ keyword → ⊥) → (g : LineFault) → HasDirectionFault keyword (w ∷ v ∷ ws) g → (g ≡ faults.Form) ⊎ (rank faults.Form < rank g)
    by ne g (inl h) = inl h.0
    by ne g (inr h) = absurd (ne h.0)

direction_tells : (keyword : List ℕ) (ws : List (List ℕ)) → Reports (IsDirection keyword ws) (HasDirectionFault keyword ws) (direction keyword ws)
unfolding behind_keyword
direction_tells keyword [] = (refl, (λ y h. h), λ f h. h)
direction_tells keyword (w ∷ []) = form_tells (IsDirection keyword (w ∷ [])) (λ y h. h)
direction_tells keyword (w ∷ v ∷ ws) = keyword_by keyword w v ws (bytes_eq w keyword) refl

abbrev Halves : Type 0
Halves = List (List ℕ) × List (List ℕ)

abbrev halves : List (List ℕ) → Halves
halves ws = (take (back_place ws) ws, drop (back_place ws) ws)

abbrev half_at : ℕ → List (List ℕ) → Halves
half_at n ws = (take n ws, drop n ws)

one_more : (n : ℕ) → 1 + n ≡ suc n
one_more n = omega arith

split_by : (w : List ℕ) (ws : List (List ℕ)) → IsSplit ws (halves ws) → (t : Bool) → bytes_eq w (codes "BACK") ≡ t → IsSplit (w ∷ ws) (half_at (cond t 0 (1 + back_place ws)) (w ∷ ws))
split_by w ws more true e = inl ((bytes_eq-Decides w (codes "BACK")).0 e, refl)
split_by w ws more false e =
    let ne : w ≡ codes "BACK" → ⊥ = λ h. absurd (let f : false ≡ true = sym e ∙ (bytes_eq-Decides w (codes "BACK")).1 h in cc) in
    subst (λ (n : ℕ). IsSplit (w ∷ ws) (half_at n (w ∷ ws))) (sym (one_more (back_place ws))) (inr (ne, (halves ws, more, refl)))

split_is : (ws : List (List ℕ)) → IsSplit ws (halves ws)
split_is [] = refl
split_is (w ∷ ws) = split_by w ws (split_is ws) (bytes_eq w (codes "BACK")) refl

one_split : (ws : List (List ℕ)) (p q : Halves) → IsSplit ws p → IsSplit ws q → p ≡ q
one_split [] p q h k = h ∙ sym k
one_split (w ∷ ws) p q (inl h) (inl k) = h.1 ∙ sym k.1
one_split (w ∷ ws) p q (inl h) (inr k) = absurd (k.0 h.0)
one_split (w ∷ ws) p q (inr h) (inl k) = absurd (h.0 k.0)
one_split (w ∷ ws) p q (inr (ne, (a, h, e))) (inr (ne_too, (b, k, f))) = e ∙ ap (λ (x : Halves). (w ∷ x.0, x.1)) (one_split ws a b h k) ∙ sym f

abbrev AreHalves : Halves → List Fault × List Fault → Type 0
AreHalves p x = IsDirection (codes "OUT") p.0 x.0 × IsDirection (codes "BACK") p.1 x.1

abbrev NoHalves : Halves → LineFault → Type 0
NoHalves p f = HasDirectionFault (codes "OUT") p.0 f ⊎ HasDirectionFault (codes "BACK") p.1 f

pub cable_tells : (ws : List (List ℕ)) → Reports (AreCableFaults ws) (HasCableFault ws) (cable_faults ws)
unfolding cable_faults
cable_tells ws =
    told_as (AreHalves (halves ws)) (NoHalves (halves ws)) (AreCableFaults ws) (HasCableFault ws) (both (direction (codes "OUT") (take (back_place ws) ws)) (direction (codes "BACK") (drop (back_place ws) ws)))
    (λ x h. (halves ws, split_is ws, h)) (λ x h. subst (λ (p : Halves). AreHalves p x) (one_split ws h.0 (halves ws) h.1 (split_is ws)) h.2)
    (λ f h. (halves ws, split_is ws, h)) (λ f h. subst (λ (p : Halves). NoHalves p f) (one_split ws h.0 (halves ws) h.1 (split_is ws)) h.2)
    (told_both (IsDirection (codes "OUT") (take (back_place ws) ws)) (IsDirection (codes "BACK") (drop (back_place ws) ws)) (HasDirectionFault (codes "OUT") (take (back_place ws) ws)) (HasDirectionFault (codes "BACK") (drop (back_place ws) ws))
    (direction (codes "OUT") (take (back_place ws) ws)) (direction (codes "BACK") (drop (back_place ws) ws)) (direction_tells (codes "OUT") (take (back_place ws) ws)) (direction_tells (codes "BACK") (drop (back_place ws) ws)))
