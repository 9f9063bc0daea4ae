-- Words with a value in brackets, labels, names and texts, both ways.
use Rattle.std.proofs.Common.{◌≡◌, ℕ, suc, ◌+◌, ◌≤◌, ◌<◌, Bool, true, false, cond, eqb, List, [], ◌∷◌, ◌++◌, length, refl, sym, ap, subst, ◌∙◌, arith, inl, inr}
use Rattle.std.specs.Prelude.{Option, Some, None, Result, Ok, Err, not, nat_lt}
use Rattle.std.specs.List.{list_all, position, position_or_len}
use Rattle.std.specs.Str.{str_to_ascii_uppercase}
use Rattle.std.proofs.Math.Seq.{take-length}
use Rattle.std.proofs.lemmas.Bool.{and_parts, and_from, cond-true, cond-false}
use Rattle.std.proofs.lemmas.Bool.Decides.{eqb_tells, leb_tells}
use Rattle.std.proofs.lemmas.List.{length-append}
use Rattle.mq_base.specs.declared.fault.NameFault.{NameFault}
use Rattle.mq_base.specs.declared.fault.NameFault.TheVariants.{TooLong}
use Rattle.mq_base.specs.Name.{is_name_byte, is_label_byte, IsName, IsLabel, name_or_bad, name_of, label_of}
use Rattle.mq_text.specs.Lines.{behind}
use Rattle.mq_text.specs.Quoting.{doubled, quoted, quoted_len, undoubled, unquoted}
use Rattle.mq_sc_grammar.proofs.Fronts.{quoted_ends, quoted_reads, quoted_front}
use Rattle.mq_scn_lines.specs.declared.fault.LineFault.{LineFault}
use Rattle.mq_scn_lines.specs.declared.fault.LineFault.TheVariants as faults
use Rattle.mq_scn_lines.specs.Operands.{onto_text, before_last, in_quotes, before_bracket, bracketed, labelled, label_in, named, written_name, name_in, are_blanks, is_blank, name_or_blank_in}
use Rattle.mq_scn_lines.specs.Texts.{is_len, is_text, text_in, filled, fitted, field_in}
use Rattle.mq_scn_lines.proofs.OperandLaws.{last_is}
use Rattle.mq_scn_grammar.specs.Words.{AreBlanks}
use Rattle.mq_scn_grammar.specs.Faults.{IsMissed}
use Rattle.mq_scn_grammar.specs.Operands.{IsBracketed, IsLabelWord, IsBetweenQuotes, IsNameWord, IsNameOrBlank, IsField}
use Rattle.mq_scn_grammar.proofs.Told.{Reports, told_one}

abbrev some_text : List ℕ → Option (List ℕ)
some_text l = Some l

abbrev no_text : Option (List ℕ)
no_text = None

-- ---- a value in brackets

last_one : (c b : ℕ) (front : List ℕ) → (t : Bool) → (t ≡ true → b ≡ c) → cond t (some_text []) None ≡ some_text front → b ∷ [] ≡ front ++ c ∷ []
last_one c b front true same e =
    let none : [] ≡ front = cc in
    ap (λ (x : ℕ). x ∷ []) (same refl) ∙ ap (λ (l : List ℕ). l ++ c ∷ []) none
last_one c b front false same e = absurd cc

eqb_same : (b c : ℕ) → eqb b c ≡ true → b ≡ c
eqb_same b c e = elim (eqb_tells b c) [
  | inl p ↦ p.1
  | inr p ↦ absurd (let f : true ≡ false = sym e ∙ p.0 in cc)
]

last_onto : (c b : ℕ) (bs front : List ℕ) (o : Option (List ℕ)) → ((t : List ℕ) → o ≡ some_text t → bs ≡ t ++ c ∷ []) → onto_text b o ≡ some_text front → b ∷ bs ≡ front ++ c ∷ []
last_onto c b bs front None more e = absurd cc
last_onto c b bs front (Some t) more e =
    let one : b ∷ t ≡ front = cc in
    ap (λ (l : List ℕ). b ∷ l) (more t refl) ∙ ap (λ (l : List ℕ). l ++ c ∷ []) one

pub last_found : (c : ℕ) (bs front : List ℕ) → before_last c bs ≡ some_text front → bs ≡ front ++ c ∷ []
last_found c [] front e = absurd cc
last_found c (b ∷ []) front e = last_one c b front (eqb b c) (λ t. eqb_same b c t) e
last_found c (b ∷ d ∷ bs) front e = last_onto c b (d ∷ bs) front (before_last c (d ∷ bs)) (λ t f. last_found c (d ∷ bs) t f) e

pub behind_read : (keyword rest : List ℕ) → behind keyword (keyword ++ rest) ≡ some_text rest
behind_read [] rest = refl
behind_read (c ∷ cs) rest = elim (eqb_tells c c) [
  | inl p ↦ rw p.0 (behind_read cs rest)
  | inr p ↦ absurd (p.1 refl)
]

pub behind_found : (keyword word rest : List ℕ) → behind keyword word ≡ some_text rest → word ≡ keyword ++ rest
behind_found [] word rest e = cc
behind_found (c ∷ cs) [] rest e = absurd cc
behind_found (c ∷ cs) (b ∷ bs) rest e = by (eqb c b) (λ t. eqb_same c b t) (λ f. behind_found cs bs rest f) e
  where
    by : (t : Bool) → (t ≡ true → c ≡ b) → (behind cs bs ≡ some_text rest → bs ≡ cs ++ rest) → cond t (behind cs bs) None ≡ some_text rest → b ∷ bs ≡ (c ∷ cs) ++ rest
    by true same more f = ap (λ (x : ℕ). x ∷ bs) (sym (same refl)) ∙ ap (λ (l : List ℕ). c ∷ l) (more f)
    by false same more f = absurd cc

pub bracketed_read : (keyword value word : List ℕ) → IsBracketed keyword value word → bracketed keyword word ≡ some_text value
bracketed_read keyword value word e = ap (bracketed keyword) e ∙ ap before_bracket (behind_read keyword (value ++ 41 ∷ [])) ∙ last_is 41 41 value

bracket_found : (keyword value word : List ℕ) (o : Option (List ℕ)) → behind keyword word ≡ o → before_bracket o ≡ some_text value → IsBracketed keyword value word
bracket_found keyword value word None e f = absurd cc
bracket_found keyword value word (Some rest) e f = behind_found keyword word rest e ∙ ap (λ (l : List ℕ). keyword ++ l) (last_found 41 rest value f)

pub bracketed_found : (keyword value word : List ℕ) → bracketed keyword word ≡ some_text value → IsBracketed keyword value word
bracketed_found keyword value word e = bracket_found keyword value word (behind keyword word) refl e

-- ---- labels

label_cond : (text label : List ℕ) → (0 < length text) → (s t : Bool) → nat_lt 8 (length text) ≡ s → list_all is_label_byte text ≡ t → cond s None (cond t (some_text text) None) ≡ some_text label → (label ≡ text) × IsLabel text
label_cond text label some true t p q e = absurd cc
label_cond text label some false false p q e = absurd cc
label_cond text label some false true p q e =
    let fits : length text ≤ 8 = elim (leb_tells (suc 8) (length text)) [
      | inl u ↦ absurd (let f : true ≡ false = sym u.0 ∙ p in cc)
      | inr u ↦ (let lt = u.1 in omega (arith, lt))
    ] in
    let same : label ≡ text = cc in
    (same, record { some = some; fits = fits; bytes = q })

pub label_of_found : (text label : List ℕ) → label_of text ≡ some_text label → (label ≡ text) × IsLabel text
label_of_found [] label e = absurd cc
label_of_found (b ∷ bs) label e = label_cond (b ∷ bs) label (omega arith) (nat_lt 8 (length (b ∷ bs))) (list_all is_label_byte (b ∷ bs)) refl refl e

pub label_of_read : (text : List ℕ) → IsLabel text → label_of text ≡ some_text text
label_of_read [] h = absurd (let some = h.some in omega (arith, some))
label_of_read (b ∷ bs) h = elim (leb_tells (suc 8) (length (b ∷ bs))) [
  | inl u ↦ absurd (let lt = u.1 in let fits = h.fits in omega (arith, lt, fits))
  | inr u ↦ rw (u.0, h.bytes) refl
]

labelled_found : (label text : List ℕ) (o : Option (List ℕ)) → label_of text ≡ o → labelled o ≡ Ok label → (label ≡ text) × IsLabel text
labelled_found label text None e f = absurd cc
labelled_found label text (Some l) e f = let same : l ≡ label = cc in label_of_found text label (e ∙ ap some_text same)

labelled_only : (o : Option (List ℕ)) (f : LineFault) → labelled o ≡ Err f → f ≡ faults.Name
labelled_only None f e = cc
labelled_only (Some l) f e = absurd cc

abbrev pub LabelsOf : List ℕ → List ℕ → Type 0
LabelsOf word label = IsLabelWord label word

pub label_tells : (word : List ℕ) → Reports (LabelsOf word) (IsMissed faults.Name (LabelsOf word)) (label_in word)
label_tells word = told_one (LabelsOf word) faults.Name (label_in word) refl
    (λ label e. let p = labelled_found label (str_to_ascii_uppercase word) (label_of (str_to_ascii_uppercase word)) refl e in (p.0, subst IsLabel (sym p.0) p.1))
    (λ label h. ap labelled (label_of_read (str_to_ascii_uppercase word) (subst IsLabel h.0 h.1)) ∙ ap (λ (l : List ℕ). Ok l) (sym h.0))
    (λ f e. labelled_only (label_of (str_to_ascii_uppercase word)) f e)

-- ---- names

abbrev bad : ℕ → Bool
bad b = not (is_name_byte b)

good_long : (text : List ℕ) → list_all is_name_byte text ≡ true → position_or_len bad text ≡ length text
good_long [] h = refl
good_long (b ∷ bs) h =
    let p = and_parts (is_name_byte b) (list_all is_name_byte bs) h in
    let more = good_long bs p.1 in
    let one : position_or_len bad (b ∷ bs) ≡ 1 + position_or_len bad bs = rw p.0 refl in
    omega (arith, one, more)

long_good : (text : List ℕ) → length text ≤ position_or_len bad text → list_all is_name_byte text ≡ true
long_good [] h = refl
long_good (b ∷ bs) h = by (is_name_byte b) refl (λ le. long_good bs le)
  where
    by : (t : Bool) → is_name_byte b ≡ t → (length bs ≤ position_or_len bad bs → list_all is_name_byte bs ≡ true) → list_all is_name_byte (b ∷ bs) ≡ true
    by true e more =
        let one : position_or_len bad (b ∷ bs) ≡ 1 + position_or_len bad bs = rw e refl in
        and_from (is_name_byte b) (list_all is_name_byte bs) e (more (omega (arith, one, h)))
    by false e more = absurd (let none : position_or_len bad (b ∷ bs) ≡ 0 = rw e refl in omega (arith, none, h))

no_place : Option ℕ
no_place = None

abbrev ok_name : List ℕ → Result (List ℕ) NameFault
ok_name l = Ok l

name_read_some : (b : ℕ) (bs : List ℕ) (width : ℕ) → IsName width (b ∷ bs) → name_of width (b ∷ bs) ≡ ok_name (b ∷ bs)
name_read_some b bs width h =
    let long = good_long (b ∷ bs) h.bytes in
    elim (leb_tells (suc width) (length (b ∷ bs))) [
      | inl u ↦ absurd (let lt = u.1 in let fits = h.fits in omega (arith, lt, fits))
      | inr u ↦ elim (leb_tells (suc (position_or_len bad (b ∷ bs))) (length (b ∷ bs))) [
        | inl v ↦ absurd (let lt = v.1 in omega (arith, lt, long))
        | inr v ↦ cond-false (nat_lt width (length (b ∷ bs))) (Err TooLong) (name_or_bad (b ∷ bs) (position bad (b ∷ bs))) u.0
            ∙ ap (name_or_bad (b ∷ bs)) (cond-false (nat_lt (position_or_len bad (b ∷ bs)) (length (b ∷ bs))) (Some (position_or_len bad (b ∷ bs))) None v.0)
      ]
    ]

pub name_of_read : (width : ℕ) (text : List ℕ) → IsName width text → (text ≡ [] → ⊥) → name_of width text ≡ ok_name text
name_of_read width [] h never = absurd (never refl)
name_of_read width (b ∷ bs) h never = name_read_some b bs width h

name_conds : (width : ℕ) (text name : List ℕ) → (s t : Bool) → nat_lt width (length text) ≡ s → nat_lt (position_or_len bad text) (length text) ≡ t
    → cond s (Err TooLong) (name_or_bad text (cond t (Some (position_or_len bad text)) None)) ≡ ok_name name → (name ≡ text) × IsName width text
name_conds width text name true t p q e = absurd cc
name_conds width text name false true p q e = absurd cc
name_conds width text name false false p q e =
    let fits : length text ≤ width = elim (leb_tells (suc width) (length text)) [
      | inl u ↦ absurd (let f : true ≡ false = sym u.0 ∙ p in cc)
      | inr u ↦ (let lt = u.1 in omega (arith, lt))
    ] in
    let long : length text ≤ position_or_len bad text = elim (leb_tells (suc (position_or_len bad text)) (length text)) [
      | inl u ↦ absurd (let f : true ≡ false = sym u.0 ∙ q in cc)
      | inr u ↦ (let lt = u.1 in omega (arith, lt))
    ] in
    let same : name ≡ text = cc in
    (same, record { fits = fits; bytes = long_good text long })

cons_never : (b : ℕ) (bs : List ℕ) → b ∷ bs ≡ [] → ⊥
cons_never b bs e = absurd cc

pub name_of_found : (width : ℕ) (text name : List ℕ) → name_of width text ≡ ok_name name → (name ≡ text) × IsName width name × (name ≡ [] → ⊥)
name_of_found width [] name e = absurd cc
name_of_found width (b ∷ bs) name e =
    let p = name_conds width (b ∷ bs) name (nat_lt width (length (b ∷ bs))) (nat_lt (position_or_len bad (b ∷ bs)) (length (b ∷ bs))) refl refl e in
    (p.0, subst (IsName width) (sym p.0) p.1, λ f. cons_never b bs (sym p.0 ∙ f))

-- between quotes

pub quotes_read : (text word : List ℕ) → IsBetweenQuotes text word → in_quotes word ≡ some_text text
quotes_read text word e = ap in_quotes e ∙ last_is 39 39 text

pub quotes_found : (text word : List ℕ) → in_quotes word ≡ some_text text → IsBetweenQuotes text word
quotes_found text [] e = absurd cc
quotes_found text (b ∷ bs) e = by (eqb b 39) (λ t. eqb_same b 39 t) e
  where
    by : (t : Bool) → (t ≡ true → b ≡ 39) → cond t (before_last 39 bs) None ≡ some_text text → IsBetweenQuotes text (b ∷ bs)
    by true same f = ap (λ (x : ℕ). x ∷ bs) (same refl) ∙ ap (λ (l : List ℕ). 39 ∷ l) (last_found 39 bs text f)
    by false same f = absurd cc

-- a word that folds to a name does not begin with a quote
quote_folds : (b : ℕ) (bs : List ℕ) → b ≡ 39 → list_all is_name_byte (str_to_ascii_uppercase (b ∷ bs)) ≡ true → ⊥
quote_folds b bs e h =
    let k : list_all is_name_byte (str_to_ascii_uppercase (39 ∷ bs)) ≡ true = subst (λ (c : ℕ). list_all is_name_byte (str_to_ascii_uppercase (c ∷ bs)) ≡ true) e h in
    absurd cc

pub folded_unquoted : (word : List ℕ) → list_all is_name_byte (str_to_ascii_uppercase word) ≡ true → in_quotes word ≡ no_text
folded_unquoted [] h = refl
folded_unquoted (b ∷ bs) h = elim (eqb_tells b 39) [
  | inl p ↦ absurd (quote_folds b bs p.1 h)
  | inr p ↦ rw p.0 refl
]

named_found : (name : List ℕ) (r : Result (List ℕ) NameFault) → named r ≡ Ok name → r ≡ ok_name name
named_found name (Ok n) e = cc
named_found name (Err f) e = absurd cc

named_only : (r : Result (List ℕ) NameFault) (f : LineFault) → named r ≡ Err f → f ≡ faults.Name
named_only (Ok n) f e = absurd cc
named_only (Err g) f e = cc

written_found : (width : ℕ) (name word : List ℕ) (o : Option (List ℕ)) → in_quotes word ≡ o → written_name width o word ≡ ok_name name → IsNameWord width name word
written_found width name word None e f =
    let p = name_of_found width (str_to_ascii_uppercase word) name f in
    (p.1, p.2, inr p.0)
written_found width name word (Some text) e f =
    let p = name_of_found width text name f in
    (p.1, p.2, inl (quotes_found name word (e ∙ ap some_text (sym p.0))))

pub name_found : (width : ℕ) (name word : List ℕ) → name_in width word ≡ Ok name → IsNameWord width name word
name_found width name word e = written_found width name word (in_quotes word) refl (named_found name (written_name width (in_quotes word) word) e)

pub name_read : (width : ℕ) (name word : List ℕ) → IsNameWord width name word → name_in width word ≡ Ok name
name_read width name word (is, some, inl e) =
    ap (λ (o : Option (List ℕ)). named (written_name width o word)) (quotes_read name word e) ∙ ap named (name_of_read width name is some)
name_read width name word (is, some, inr e) =
    let folded : list_all is_name_byte (str_to_ascii_uppercase word) ≡ true = subst (λ (l : List ℕ). list_all is_name_byte l ≡ true) e is.bytes in
    ap (λ (o : Option (List ℕ)). named (written_name width o word)) (folded_unquoted word folded) ∙ ap (λ (l : List ℕ). named (name_of width l)) (sym e) ∙ ap named (name_of_read width name is some)

pub name_tells : (width : ℕ) (word : List ℕ) → Reports (λ (name : List ℕ). IsNameWord width name word) (IsMissed faults.Name (λ (name : List ℕ). IsNameWord width name word)) (name_in width word)
name_tells width word = told_one (λ (name : List ℕ). IsNameWord width name word) faults.Name (name_in width word) refl
    (λ name e. name_found width name word e)
    (λ name h. name_read width name word h)
    (λ f e. named_only (written_name width (in_quotes word) word) f e)

-- names or blanks

all_blanks : (text : List ℕ) → list_all (λ (b : ℕ). eqb b 32) text ≡ true → AreBlanks text
all_blanks [] e = tt
all_blanks (b ∷ bs) e = let p = and_parts (eqb b 32) (list_all (λ (c : ℕ). eqb c 32) bs) e in (eqb_same b 32 p.0, all_blanks bs p.1)

blanks_all : (text : List ℕ) → AreBlanks text → list_all (λ (b : ℕ). eqb b 32) text ≡ true
blanks_all [] h = refl
blanks_all (b ∷ bs) h = and_from (eqb b 32) (list_all (λ (c : ℕ). eqb c 32) bs) (ap (λ (c : ℕ). eqb c 32) h.0) (blanks_all bs h.1)

blank_found : (word : List ℕ) (o : Option (List ℕ)) → in_quotes word ≡ o → are_blanks o ≡ true → (blanks : List ℕ) × AreBlanks blanks × IsBetweenQuotes blanks word
blank_found word None e f = absurd cc
blank_found word (Some text) e f = (text, all_blanks text f, quotes_found text word e)

blank_read : (word blanks : List ℕ) → AreBlanks blanks → IsBetweenQuotes blanks word → is_blank word ≡ true
blank_read word blanks are e = ap are_blanks (quotes_read blanks word e) ∙ blanks_all blanks are

-- blanks are no name
blank_name : (width : ℕ) (name : List ℕ) → IsName width name → (name ≡ [] → ⊥) → AreBlanks name → ⊥
blank_name width [] is some are = some refl
blank_name width (b ∷ bs) is some are =
    let k : list_all is_name_byte (32 ∷ bs) ≡ true = subst (λ (c : ℕ). list_all is_name_byte (c ∷ bs) ≡ true) are.0 is.bytes in
    absurd cc

some_same : (a b : List ℕ) → some_text a ≡ some_text b → a ≡ b
some_same a b e = cc

none_never : (a : List ℕ) → no_text ≡ some_text a → ⊥
none_never a e = absurd cc

name_no_blank : (name word : List ℕ) → IsNameWord 48 name word → (t : Bool) → is_blank word ≡ t → t ≡ false
name_no_blank name word h false e = refl
name_no_blank name word (is, some, inl q) true e =
    let b = blank_found word (in_quotes word) refl e in
    let same = some_same b.0 name (sym (quotes_read b.0 word b.2) ∙ quotes_read name word q) in
    absurd (blank_name 48 name is some (subst AreBlanks same b.1))
name_no_blank name word (is, some, inr q) true e =
    let b = blank_found word (in_quotes word) refl e in
    let folded : list_all is_name_byte (str_to_ascii_uppercase word) ≡ true = subst (λ (l : List ℕ). list_all is_name_byte l ≡ true) q is.bytes in
    absurd (none_never b.0 (sym (folded_unquoted word folded) ∙ quotes_read b.0 word b.2))

or_blank_found : (name word : List ℕ) (t : Bool) → is_blank word ≡ t → cond t (Ok []) (name_in 48 word) ≡ Ok name → IsNameOrBlank name word
or_blank_found name word true e f = let none : name ≡ [] = cc in inl (none, blank_found word (in_quotes word) refl e)
or_blank_found name word false e f = inr (name_found 48 name word f)

or_blank_read : (name word : List ℕ) → IsNameOrBlank name word → name_or_blank_in word ≡ Ok name
or_blank_read name word (inl (e, (blanks, are, q))) = cond-true (is_blank word) (Ok []) (name_in 48 word) (blank_read word blanks are q) ∙ ap (λ (l : List ℕ). Ok l) (sym e)
or_blank_read name word (inr h) = cond-false (is_blank word) (Ok []) (name_in 48 word) (name_no_blank name word h (is_blank word) refl) ∙ name_read 48 name word h

or_blank_only : (word : List ℕ) (f : LineFault) (t : Bool) → cond t (Ok []) (name_in 48 word) ≡ Err f → f ≡ faults.Name
or_blank_only word f true e = absurd cc
or_blank_only word f false e = named_only (written_name 48 (in_quotes word) word) f e

abbrev pub NamesOf : List ℕ → List ℕ → Type 0
NamesOf word name = IsNameOrBlank name word

pub name_or_blank_tells : (word : List ℕ) → Reports (NamesOf word) (IsMissed faults.Name (NamesOf word)) (name_or_blank_in word)
name_or_blank_tells word = told_one (NamesOf word) faults.Name (name_or_blank_in word) refl
    (λ name e. or_blank_found name word (is_blank word) refl e)
    (λ name h. or_blank_read name word h)
    (λ f e. or_blank_only word f (is_blank word) e)

-- ---- texts in quotes

len_some : (n : ℕ) (o : Option ℕ) → is_len n o ≡ true → o ≡ Some n
len_some n None e = absurd cc
len_some n (Some m) e = ap (λ (k : ℕ). Some k) (eqb_same m n e)

text_found : (word : List ℕ) → is_text word ≡ true → word ≡ quoted (unquoted word)
text_found [] e = absurd cc
text_found (b ∷ bs) e =
    let p = and_parts (eqb b 39) (is_len (length bs) (quoted_len bs)) e in
    let f = quoted_front bs (length bs) (len_some (length bs) (quoted_len bs) p.1) in
    let whole : bs ≡ doubled f.text ++ 39 ∷ [] = sym (take-length bs) ∙ f.front in
    let text : undoubled bs ≡ f.text = ap undoubled whole ∙ quoted_reads f.text in
    ap (λ (x : ℕ). x ∷ bs) (eqb_same b 39 p.0) ∙ ap (λ (l : List ℕ). 39 ∷ l) whole ∙ ap quoted (sym text)

len_is : (n : ℕ) → is_len n (Some n) ≡ true
len_is n = elim (eqb_tells n n) [
  | inl p ↦ p.0
  | inr p ↦ absurd (p.1 refl)
]

is_text_read : (text : List ℕ) → is_text (quoted text) ≡ true
is_text_read text =
    let long : length (doubled text) + 1 ≡ length (doubled text ++ 39 ∷ []) = sym (length-append (doubled text) (39 ∷ [])) in
    let n : ℕ = length (doubled text ++ 39 ∷ []) in
    ap (is_len n) (quoted_ends text [] tt ∙ ap (λ (k : ℕ). Some k) long) ∙ len_is n

pub text_read : (text word : List ℕ) → word ≡ quoted text → text_in word ≡ Ok text
text_read text word e = ap text_in e ∙ cond-true (is_text (quoted text)) (Ok (unquoted (quoted text))) (Err faults.Form) (is_text_read text) ∙ ap (λ (l : List ℕ). Ok l) (quoted_reads text)

text_at : (text word : List ℕ) (t : Bool) → is_text word ≡ t → cond t (Ok (unquoted word)) (Err faults.Form) ≡ Ok text → word ≡ quoted text
text_at text word true e f = let same : unquoted word ≡ text = cc in text_found word e ∙ ap quoted same
text_at text word false e f = absurd cc

text_only : (word : List ℕ) (f : LineFault) (t : Bool) → cond t (Ok (unquoted word)) (Err faults.Form) ≡ Err f → f ≡ faults.Form
text_only word f true e = absurd cc
text_only word f false e = cc

abbrev pub TextsOf : List ℕ → List ℕ → Type 0
TextsOf word text = word ≡ quoted text

pub text_tells : (word : List ℕ) → Reports (TextsOf word) (IsMissed faults.Form (TextsOf word)) (text_in word)
text_tells word = told_one (TextsOf word) faults.Form (text_in word) refl
    (λ text e. text_at text word (is_text word) refl e)
    (λ text h. text_read text word h)
    (λ f e. text_only word f (is_text word) e)

-- ---- fields

ok_text : List ℕ → Result (List ℕ) LineFault
ok_text l = Ok l

long_field : (width pad : ℕ) (text field : List ℕ) (t : Bool) → nat_lt width (length text) ≡ t → cond t (Err faults.Form) (Ok (filled width pad text)) ≡ Ok field → (length text ≤ width) × (field ≡ filled width pad text)
long_field width pad text field true e f = absurd cc
long_field width pad text field false e f =
    let fits : length text ≤ width = elim (leb_tells (suc width) (length text)) [
      | inl u ↦ absurd (let c : true ≡ false = sym u.0 ∙ e in cc)
      | inr u ↦ (let lt = u.1 in omega (arith, lt))
    ] in
    let same : field ≡ filled width pad text = cc in
    (fits, same)

field_found : (width pad : ℕ) (word field : List ℕ) (r : Result (List ℕ) LineFault) → text_in word ≡ r → fitted width pad r ≡ Ok field → IsField width pad field word
field_found width pad word field (Ok text) e f =
    let h = long_field width pad text field (nat_lt width (length text)) refl f in
    (text, text_at text word (is_text word) refl e, h.0, h.1)
field_found width pad word field (Err g) e f = absurd cc

field_read : (width pad : ℕ) (word field : List ℕ) → IsField width pad field word → field_in width pad word ≡ Ok field
field_read width pad word field (text, e, fits, same) =
    let short : nat_lt width (length text) ≡ false = elim (leb_tells (suc width) (length text)) [
      | inl u ↦ absurd (let lt = u.1 in omega (arith, lt, fits))
      | inr u ↦ u.0
    ] in
    ap (fitted width pad) (text_read text word e) ∙ cond-false (nat_lt width (length text)) (Err faults.Form) (Ok (filled width pad text)) short ∙ ap (λ (l : List ℕ). Ok l) (sym same)

long_only : (width pad : ℕ) (text : List ℕ) (f : LineFault) (t : Bool) → cond t (Err faults.Form) (Ok (filled width pad text)) ≡ Err f → f ≡ faults.Form
long_only width pad text f true e = cc
long_only width pad text f false e = absurd cc

field_only : (width pad : ℕ) (word : List ℕ) (f : LineFault) (r : Result (List ℕ) LineFault) → text_in word ≡ r → fitted width pad r ≡ Err f → f ≡ faults.Form
field_only width pad word f (Ok text) e h = long_only width pad text f (nat_lt width (length text)) h
field_only width pad word f (Err g) e h = let same : g ≡ f = cc in text_only word f (is_text word) (e ∙ ap (λ (x : LineFault). Err x) same)

abbrev pub FieldsOf : ℕ → ℕ → List ℕ → List ℕ → Type 0
FieldsOf width pad word field = IsField width pad field word

pub field_tells : (width pad : ℕ) (word : List ℕ) → Reports (FieldsOf width pad word) (IsMissed faults.Form (FieldsOf width pad word)) (field_in width pad word)
field_tells width pad word = told_one (FieldsOf width pad word) faults.Form (field_in width pad word) refl
    (λ field e. field_found width pad word field (text_in word) refl e)
    (λ field h. field_read width pad word field h)
    (λ f e. field_only width pad word f (text_in word) refl e)
