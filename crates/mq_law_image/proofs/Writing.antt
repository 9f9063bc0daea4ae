-- Clauses as they are written: numbers, words, texts in quotes and flags, each with the setting that it gives.
use Rattle.std.proofs.Common.{ℕ, ◌≡◌, ◌+◌, ◌-◌, ◌*◌, ◌<◌, ◌≤◌, ◌^◌, Bool, true, false, List, [], ◌∷◌, ◌++◌, append_assoc, length, refl, ap, sym, ◌∙◌, arith, inl, inr}
use Rattle.std.specs.Prelude.{Some, None, Ok, Err, if◌then◌else◌, ◌&&◌, ◌||◌, not, nat_le, fold, codes}
use Rattle.std.specs.List.{list_all, list_any}
use Rattle.std.specs.Str.{bytes_eq, str_to_ascii_uppercase}
use Rattle.std.specs.Char.{to_ascii_uppercase}
use Rattle.std.specs.Fmt.{decimal}
use Rattle.std.proofs.lemmas.Bool.Decides.{nat_tests}
use Rattle.std.proofs.lemmas.Fmt.{digits_decimal, digits_value-decimal, decimal_nonempty}
use Rattle.std.proofs.lemmas.Str.Parse.{IsDigitsTest, FoldsDigits, IsNumeralModel, numerals_by_fold}
use Rattle.mq_base.specs.Name.{IsName, name_of}
use Rattle.mq_text.specs.declared.numbers.NumberFault.TheVariants.{NoNumber, OutOfRange}
use Rattle.mq_text.specs.Numbers.{is_digit, is_number, is_negative, value_of as number_of_text, within, number_in}
use Rattle.mq_text.specs.Pieces.{is_break}
use Rattle.mq_text.specs.Quoting.{quoted, doubled}
use Rattle.mq_objects.specs.declared.setting.Setting.{Setting}
use Rattle.mq_objects.specs.declared.setting.Setting.TheVariants as settings
use Rattle.mq_sc_keys.specs.declared.keys.Key.{Key}
use Rattle.mq_sc_keys.specs.declared.keys.Key.TheVariants as keys
use Rattle.mq_sc_keys.specs.declared.verbs.Verb.TheVariants as verbs
use Rattle.mq_sc_keys.specs.declared.attributes.Kind.TheVariants as kinds
use Rattle.mq_sc_keys.specs.declared.verbs.Verb.{Verb}
use Rattle.mq_sc_keys.specs.declared.attributes.Kind.{Kind}
use Rattle.mq_sc_keys.specs.declared.giving.Given.TheVariants as given
use Rattle.mq_sc_keys.specs.declared.value.Value.TheVariants as values
use Rattle.mq_sc_keys.specs.Keys.{key_text}
use Rattle.mq_sc_keys.specs.Attributes.{named_by, options_of}
use Rattle.mq_sc_keys.specs.Values.{given_of, set_to, number_value, number_or_none, name_value, name_or_none, text_value}
use Rattle.mq_sc_grammar.proofs.Words.{one_key, bytes_same, same_bytes}
use Rattle.mq_base.specs.Members.{AreDistinct}
use Rattle.mq_law_log.specs.from_law_manager.Facts.{Mem}
use Rattle.mq_law_log.proofs.from_law_manager.Lists.{bool_case, is_false}
use Rattle.mq_law_image.specs.Laid.Bit.{Word}
use Rattle.mq_law_image.specs.Laid.{IsWell, is_no_end, Ends, IsWritten}
use Rattle.mq_law_image.proofs.Members.{both}
use Rattle.mq_law_image.proofs.Deleting.{whole_append, name_unblank, name_whole, doubled_whole, name_read}

-- ---- numbers

digit_range : (c : ℕ) → is_digit c ≡ true → (48 ≤ c) × (c ≤ 57)
digit_range c e = (low c e, high c e)
  where
    low : (c : ℕ) → is_digit c ≡ true → 48 ≤ c
    low c e = grind (arith, nat_tests)

    high : (c : ℕ) → is_digit c ≡ true → c ≤ 57
    high c e = grind (arith, nat_tests)

digit_in : (c : ℕ) → 48 ≤ c → c ≤ 57 → is_digit c ≡ true
digit_in c x y = grind (arith, nat_tests)

digit_test : IsDigitsTest (λ ds. list_all is_digit ds ≡ true)
digit_test = record {
  empty = refl;
  parts = λ c cs e. let b = both (is_digit c) (list_all is_digit cs) e in (digit_range c b.0, b.1);
  more = λ c cs k e. ap (λ (b : Bool). b && list_all is_digit cs) (digit_in c k.0 k.1) ∙ e;
}

folds : FoldsDigits (λ n ds. fold (λ k b. 10 * k + (b - 48)) n ds)
folds = record { empty = λ n. refl; more = λ n c cs k. ap (λ m. fold (λ k b. 10 * k + (b - 48)) m cs) (turned n (c - 48)) }
  where
    turned : (n d : ℕ) → 10 * n + d ≡ n * 10 + d
    turned n d = omega arith

model : IsNumeralModel (λ ds. list_all is_digit ds ≡ true) number_of_text
model = numerals_by_fold (λ ds. list_all is_digit ds ≡ true) digit_test (λ n ds. fold (λ k b. 10 * k + (b - 48)) n ds) folds

some_number : (ds : List ℕ) → 0 < length ds → list_all is_digit ds ≡ true → is_number ds ≡ true
some_number [] lt e = absurd (omega (arith, lt))
some_number (d ∷ ds) lt e = e

in_range : (low high n : ℕ) → low ≤ n → n ≤ high → (nat_le low n && nat_le n high) ≡ true
in_range low high n x y = grind (arith, nat_tests)

pub number_read : (low high n : ℕ) → low ≤ n → n ≤ high → n < 2 ^ 64 → number_in low high (decimal n) ≡ Ok n
unfolding number_in
number_read low high n x y lt =
    ap (λ (b : Bool). if b then within low high (number_of_text (decimal n)) else (if is_negative (decimal n) then Err OutOfRange else Err NoNumber)) (some_number (decimal n) (decimal_nonempty n lt) (digits_decimal model n lt))
    ∙ ap (within low high) (digits_value-decimal model n lt) ∙ ap (λ (b : Bool). if b then Ok n else Err OutOfRange) (in_range low high n x y)

digits_plain : (ds : List ℕ) → list_all is_digit ds ≡ true → (list_all (λ (c : ℕ). not (is_break c)) ds ≡ true) × (ds ≡ str_to_ascii_uppercase ds) × (list_all is_no_end ds ≡ true)
digits_plain [] e = (refl, refl, refl)
digits_plain (d ∷ ds) e =
    let b = both (is_digit d) (list_all is_digit ds) e in
    let r = digits_plain ds b.1 in (
      ap (λ (t : Bool). t && list_all (λ (c : ℕ). not (is_break c)) ds) (unbroken d b.0) ∙ r.0,
      ap (λ (x : ℕ). x ∷ ds) (upper d b.0) ∙ ap (λ (xs : List ℕ). to_ascii_uppercase d ∷ xs) r.1,
      ap (λ (t : Bool). t && list_all is_no_end ds) (unended d b.0) ∙ r.2,
    )
  where
    unbroken : (c : ℕ) → is_digit c ≡ true → not (is_break c) ≡ true
    unbroken c e = grind (arith, nat_tests)

    unended : (c : ℕ) → is_digit c ≡ true → is_no_end c ≡ true
    unended c e = grind (arith, nat_tests)

    upper : (c : ℕ) → is_digit c ≡ true → c ≡ to_ascii_uppercase c
    upper c e = grind (arith, nat_tests)

word_of_digits : (ds : List ℕ) → 0 < length ds → list_all is_digit ds ≡ true → IsWell (Word ds)
word_of_digits [] lt e = absurd (omega (arith, lt))
word_of_digits (d ∷ ds) lt e = let p = digits_plain (d ∷ ds) e in (p.0, p.1)

-- ---- keys

-- what a key is told by its text
pub key_there : (key : Key) (ks : List Key) → list_any (λ (k : Key). bytes_eq (key_text key) (key_text k)) ks ≡ true → Mem key ks
key_there key [] e = absurd cc
key_there key (k ∷ ks) e = bool_case (bytes_eq (key_text key) (key_text k)) (λ b. bytes_eq (key_text key) (key_text k) ≡ b → (b || list_any (λ (x : Key). bytes_eq (key_text key) (key_text x)) ks) ≡ true → Mem key (k ∷ ks))
    (λ z w f. inl (one_key key k (bytes_same (key_text key) (key_text k) w))) (λ z w f. inr (key_there key ks f)) refl e

abbrev pub are_apart : List Key → Bool
are_apart [] = true
are_apart (k ∷ ks) = not (list_any (λ (x : Key). bytes_eq (key_text k) (key_text x)) ks) && are_apart ks

pub there : (key : Key) (xs : List Key) → Mem key xs → list_any (λ (x : Key). bytes_eq (key_text key) (key_text x)) xs ≡ true
there key [] m = absurd m
there key (x ∷ xs) (inl e) = ap (λ (b : Bool). b || list_any (λ (y : Key). bytes_eq (key_text key) (key_text y)) xs) (same_bytes (key_text key) (key_text x) (ap key_text e))
there key (x ∷ xs) (inr m) = right (bytes_eq (key_text key) (key_text x)) (list_any (λ (y : Key). bytes_eq (key_text key) (key_text y)) xs) (there key xs m)
  where
    right : (a b : Bool) → b ≡ true → (a || b) ≡ true
    right true b f = refl
    right false b f = f

pub not_there : (key : Key) (ks : List Key) → list_any (λ (x : Key). bytes_eq (key_text key) (key_text x)) ks ≡ false → Mem key ks → ⊥
not_there key ks e m = cc (e, there key ks m)

pub keys_apart : (ks : List Key) → are_apart ks ≡ true → AreDistinct ks
keys_apart [] e = tt
keys_apart (k ∷ ks) e = let b = both (not (list_any (λ (x : Key). bytes_eq (key_text k) (key_text x)) ks)) (are_apart ks) e in (λ m. cc (b.0, ap not (there k ks m)), keys_apart ks b.1)

-- a key that a command may have, written as a word
pub record IsKey (verb : Verb) (kind : Kind) (key : Key) : Type 0 where
  pub known : list_any (λ (k : Key). bytes_eq (key_text key) (key_text k)) (named_by verb kind ++ options_of verb kind) ≡ true
  pub word : IsWell (Word (key_text key))
  pub whole : list_all is_no_end (key_text key) ≡ true

-- ---- clauses with a value

valued_whole : (key value : List ℕ) → list_all is_no_end key ≡ true → list_all is_no_end value ≡ true → list_all is_no_end (32 ∷ (key ++ (40 ∷ (value ++ (41 ∷ []))))) ≡ true
valued_whole key value k v = whole_append key (40 ∷ (value ++ (41 ∷ []))) k (whole_append value (41 ∷ []) v refl)

valued_ends : (key value : List ℕ) → Ends (32 ∷ (key ++ (40 ∷ (value ++ (41 ∷ [])))))
valued_ends key value = record { front = 32 ∷ (key ++ (40 ∷ value)); last = 41; is = ap (λ (t : List ℕ). 32 ∷ t) (sym (append_assoc key (40 ∷ value) (41 ∷ []))); unblank = refl; unsigned = refl }

pub word_written : (verb : Verb) (kind : Kind) (key : Key) (value : List ℕ) (setting : Setting) → IsKey verb kind key → IsWell (Word value) → list_all is_no_end value ≡ true → given_of kind key (values.Text value) ≡ given.Setting setting
    → IsWritten verb kind (record { clause = record { key = key; value = Some value }; in_quotes = false; setting = setting })
word_written verb kind key value setting k well whole gives = record {
  known = key_there key (named_by verb kind ++ options_of verb kind) k.known;
  gives = gives;
  key = k.word;
  value = well;
  whole = valued_whole (key_text key) value k.whole whole;
  ends = valued_ends (key_text key) value;
}

pub number_written : (verb : Verb) (kind : Kind) (key : Key) (low high n : ℕ) (setting : ℕ → Setting) → IsKey verb kind key → given_of kind key (values.Text (decimal n)) ≡ set_to setting (number_value low high (values.Text (decimal n)))
    → low ≤ n → n ≤ high → n < 2 ^ 64 → IsWritten verb kind (record { clause = record { key = key; value = Some (decimal n) }; in_quotes = false; setting = setting n })
number_written verb kind key low high n setting k gives x y lt =
    word_written verb kind key (decimal n) (setting n) k (word_of_digits (decimal n) (decimal_nonempty n lt) (digits_decimal model n lt)) ((digits_plain (decimal n) (digits_decimal model n lt)).2)
    (gives ∙ ap (λ r. set_to setting (number_or_none r)) (number_read low high n x y lt))

pub quote_written : (verb : Verb) (kind : Kind) (key : Key) (text : List ℕ) (setting : Setting) → IsKey verb kind key → list_all is_no_end text ≡ true → given_of kind key (values.Text text) ≡ given.Setting setting
    → IsWritten verb kind (record { clause = record { key = key; value = Some text }; in_quotes = true; setting = setting })
quote_written verb kind key text setting k whole gives = record {
  known = key_there key (named_by verb kind ++ options_of verb kind) k.known;
  gives = gives;
  key = k.word;
  value = tt;
  whole = valued_whole (key_text key) (quoted text) k.whole (whole_append (doubled text) (39 ∷ []) (doubled_whole text whole) refl);
  ends = valued_ends (key_text key) (quoted text);
}

-- a name, or the blank one
name_given : (text : List ℕ) → IsName 48 text → name_value (values.Text text) ≡ Some text
name_given [] h = refl
name_given (b ∷ bs) h = ap (λ (t : Bool). if t then Some [] else name_or_none (name_of 48 (b ∷ bs))) (name_unblank 48 b bs h) ∙ ap name_or_none (name_read 48 b bs h)

pub name_written : (verb : Verb) (kind : Kind) (key : Key) (name : List ℕ) (setting : List ℕ → Setting) → IsKey verb kind key → given_of kind key (values.Text name) ≡ set_to setting (name_value (values.Text name)) → IsName 48 name
    → IsWritten verb kind (record { clause = record { key = key; value = Some name }; in_quotes = true; setting = setting name })
name_written verb kind key name setting k gives h = quote_written verb kind key name (setting name) k (name_whole name h.bytes) (gives ∙ ap (set_to setting) (name_given name h))

-- the same of a text no longer than most
pub short_text : (most : ℕ) (text : List ℕ) → length text ≤ most → text_value most (values.Text text) ≡ Some text
short_text most text le = ap (λ (b : Bool). if b then Some text else None) (fits (length text) most le)
  where
    fits : (n m : ℕ) → n ≤ m → nat_le n m ≡ true
    fits n m le = grind (arith, nat_tests)

pub text_written : (verb : Verb) (kind : Kind) (key : Key) (most : ℕ) (text : List ℕ) (setting : List ℕ → Setting) → IsKey verb kind key → given_of kind key (values.Text text) ≡ set_to setting (text_value most (values.Text text)) → length text ≤ most → list_all is_no_end text ≡ true
    → IsWritten verb kind (record { clause = record { key = key; value = Some text }; in_quotes = true; setting = setting text })
text_written verb kind key most text setting k gives le whole = quote_written verb kind key text (setting text) k whole (gives ∙ ap (set_to setting) (short_text most text le))

-- a keyword that stands alone
pub flag_written : (verb : Verb) (kind : Kind) (key : Key) (setting : Setting) → IsKey verb kind key → given_of kind key values.Absent ≡ given.Setting setting → Ends (32 ∷ (key_text key ++ [])) → IsWritten verb kind (record { clause = record { key = key; value = None }; in_quotes = false; setting = setting })
flag_written verb kind key setting k gives ends = record {
  known = key_there key (named_by verb kind ++ options_of verb kind) k.known;
  gives = gives;
  key = k.word;
  value = tt;
  whole = whole_append (key_text key) [] k.whole refl;
  ends = ends;
}

-- APPLTYPE, which may be UNIX too
pub appl_written : (n : ℕ) → IsKey verbs.Define kinds.Process keys.ApplType → n ≤ 999999999 → IsWritten verbs.Define kinds.Process (record { clause = record { key = keys.ApplType; value = Some (decimal n) }; in_quotes = false; setting = settings.ApplType n })
appl_written n k le =
    word_written verbs.Define kinds.Process keys.ApplType (decimal n) (settings.ApplType n) k (word_of_digits (decimal n) (decimal_nonempty n small) digits) ((digits_plain (decimal n) digits).2)
    (ap (λ (b : Bool). set_to settings.ApplType (if b then Some 6 else number_or_none (number_in 0 999999999 (decimal n)))) no_unix ∙ ap (λ r. set_to settings.ApplType (number_or_none r)) (number_read 0 999999999 n (omega arith) le small))
  where
    small : n < 2 ^ 64
    small = omega (arith, le)

    digits : list_all is_digit (decimal n) ≡ true
    digits = digits_decimal model n small

    no_unix : bytes_eq (decimal n) (codes "UNIX") ≡ false
    no_unix = is_false (bytes_eq (decimal n) (codes "UNIX")) (λ e. unlike (sym digits ∙ ap (list_all is_digit) (bytes_same (decimal n) (codes "UNIX") e)))
      where
        unlike : true ≡ list_all is_digit (codes "UNIX") → ⊥
        unlike e = cc e
