-- The name of an object: the tokens that it takes, and how a reader takes it.
use Rattle.std.proofs.Common.{◌≡◌, ℕ, zero, suc, Bool, true, false, cond, List, [], ◌∷◌, ◌++◌, length, take, drop, refl, sym, ap, subst, ◌∙◌, arith}
use Rattle.std.specs.Prelude.{Result, Ok, Err, min}
use Rattle.std.proofs.lemmas.List.{take-append-drop}
use Rattle.mq_sc_lex.specs.declared.token.Span.{Span}
use Rattle.mq_sc_lex.specs.declared.token.Token.{Token}
use Rattle.mq_sc_lex.specs.declared.token.TokenKind.{TokenKind}
use Rattle.mq_sc_lex.specs.declared.token.TokenKind.TheVariants as tokens
use Rattle.mq_sc_keys.specs.declared.verbs.Noun.{Noun}
use Rattle.mq_sc_keys.specs.declared.verbs.Noun.TheVariants as nouns
use Rattle.mq_sc_keys.specs.declared.value.Value.{Value}
use Rattle.mq_sc_keys.specs.declared.value.Value.TheVariants as values
use Rattle.mq_sc_keys.specs.Values.{are_blanks}
use Rattle.mq_sc_parse.specs.declared.naming.Named.{Named}
use Rattle.mq_sc_parse.specs.declared.fault.ScFault.{ScFault}
use Rattle.mq_sc_parse.specs.declared.fault.ScFault.TheVariants as faults
use Rattle.mq_sc_parse.specs.Splitting.{value_at, value_len}
use Rattle.mq_sc_parse.specs.Parsing.{behind, named_as, value_span, has_name, named_at}
use Rattle.mq_sc_grammar.specs.Spelling.{kinds_of, IsBracketed, IsNamed}
use Rattle.mq_sc_grammar.specs.Faults.{IsNamePlace}
use Rattle.mq_sc_grammar.proofs.Splits.{value_read, value_found}
use Rattle.mq_sc_grammar.proofs.Items.{kinds_both, three_tokens, text_split}

pub drop_min : (ts : List Token) (n : ℕ) → behind n ts ≡ drop n ts
drop_min [] zero = refl
drop_min [] (suc n) = let none : min 0 (suc n) ≡ 0 = omega arith in rw none refl
drop_min (t ∷ ts) zero = let none : min (suc (length ts)) 0 ≡ 0 = omega arith in rw none refl
drop_min (t ∷ ts) (suc n) = let more : min (suc (length ts)) (suc n) ≡ suc (min (length ts) n) = omega arith in rw more (drop_min ts n)

abbrev pub ok_named : Named → Result Named ScFault
ok_named n = Ok n

pub record NameAt (noun : Noun) (object : Span) (name : List ℕ) (place : Span) (ts rest : List Token) : Type 0 where
  pub named : Named
  pub read : named_at noun object ts ≡ ok_named named
  pub text : named.text ≡ name
  pub behind_it : behind named.len ts ≡ rest
  pub place_of : has_name noun ≡ true → named.span ≡ place

place_at : (object place : Span) (part rest : List Token) (a b c : TokenKind) → kinds_of part ≡ a ∷ b ∷ c ∷ [] → IsNamePlace part place → value_span object (part ++ rest) ≡ place
place_at object place [] rest a b c e h = absurd cc
place_at object place (x ∷ []) rest a b c e h = absurd cc
place_at object place (x ∷ y ∷ ts) rest a b c e h = sym h

name_at : (noun : Noun) (object : Span) (name : List ℕ) (place : Span) (part rest : List Token) → has_name noun ≡ true → IsBracketed name (kinds_of part) → are_blanks name ≡ false → IsNamePlace part place → NameAt noun object name place (part ++ rest) rest
unfolding named_at
name_at noun object name place part rest has is blank p =
    let ts : List Token = part ++ rest in
    let v = value_read name ts (kinds_of part) (kinds_of rest) is (kinds_both part rest) in
    record {
      named = record { text = name; span = value_span object ts; len = 3 };
      read = rw (has, v.at, v.long, blank) refl;
      text = refl;
      behind_it = drop_min ts 3 ∙ three_tokens part rest tokens.Open is.0 tokens.Close is.2;
      place_of = λ h. place_at object place part rest tokens.Open is.0 tokens.Close is.2 p;
    }

no_tokens : (ts : List Token) → kinds_of ts ≡ [] → ts ≡ []
no_tokens [] e = refl
no_tokens (t ∷ ts) e = absurd cc

pub name_in : (noun : Noun) (object : Span) (name : List ℕ) (place : Span) (part rest : List Token) → IsNamed noun name (kinds_of part) → IsNamePlace part place → NameAt noun object name place (part ++ rest) rest
unfolding named_at
name_in nouns.Manager object name place part rest h p =
    record {
      named = record { text = []; span = object; len = 0 };
      read = refl;
      text = sym h.0;
      behind_it = drop_min (part ++ rest) 0 ∙ ap (λ (l : List Token). l ++ rest) (no_tokens part h.1);
      place_of = λ e. absurd cc;
    }
name_in nouns.Local object name place part rest h p = name_at nouns.Local object name place part rest refl h.0 h.1 p
name_in nouns.Alias object name place part rest h p = name_at nouns.Alias object name place part rest refl h.0 h.1 p
name_in nouns.Remote object name place part rest h p = name_at nouns.Remote object name place part rest refl h.0 h.1 p
name_in nouns.Channel object name place part rest h p = name_at nouns.Channel object name place part rest refl h.0 h.1 p
name_in nouns.Process object name place part rest h p = name_at nouns.Process object name place part rest refl h.0 h.1 p
name_in nouns.Queue object name place part rest h p = name_at nouns.Queue object name place part rest refl h.0 h.1 p
name_in nouns.Status object name place part rest h p = name_at nouns.Status object name place part rest refl h.0 h.1 p

-- the name that a reader took, with its tokens; or that there was none
pub record Took (noun : Noun) (named : Named) (ts : List Token) : Type 0 where
  pub part : List Token
  pub rest : List Token
  pub whole : ts ≡ part ++ rest
  pub is : IsNamed noun named.text (kinds_of part)
  pub place : IsNamePlace part named.span
  pub behind_it : behind named.len ts ≡ rest

record TookText (named : Named) (ts : List Token) : Type 0 where
  pub part : List Token
  pub rest : List Token
  pub whole : ts ≡ part ++ rest
  pub is : IsBracketed named.text (kinds_of part)
  pub blank : are_blanks named.text ≡ false
  pub place : IsNamePlace part named.span
  pub behind_it : behind named.len ts ≡ rest

took_place : (object : Span) (ts : List Token) → IsNamePlace (take 3 ts) (value_span object ts)
took_place object [] = tt
took_place object (a ∷ []) = tt
took_place object (a ∷ b ∷ ts) = refl

took_by : (object : Span) (ts : List Token) (text : List ℕ) (named : Named) → value_at ts ≡ values.Text text → (b : Bool) → are_blanks text ≡ b → cond b (Err (faults.MissingName object)) (Ok (record { text = text; span = value_span object ts; len = value_len ts })) ≡ ok_named named → TookText named ts
took_by object ts text named at true blank e = absurd cc
took_by object ts text named at false blank e =
    let v = value_found text ts at in
    let same : record { text = text; span = value_span object ts; len = value_len ts } ≡ named = cc in
    subst (λ (n : Named). TookText n ts) same
    (record {
      part = take 3 ts;
      rest = drop 3 ts;
      whole = sym (take-append-drop 3 ts);
      is = text_split text ts at;
      blank = blank;
      place = took_place object ts;
      behind_it = drop_min ts (value_len ts) ∙ ap (λ (n : ℕ). drop n ts) v.long;
    })

took_text : (object : Span) (ts : List Token) (v : Value) (named : Named) → value_at ts ≡ v → named_as object (value_span object ts) (value_len ts) v ≡ ok_named named → TookText named ts
took_text object ts values.Absent named at e = absurd cc
took_text object ts values.Malformed named at e = absurd cc
took_text object ts (values.Text text) named at e = took_by object ts text named at (are_blanks text) refl e

pub took : (noun : Noun) (object : Span) (ts : List Token) (named : Named) → named_at noun object ts ≡ ok_named named → Took noun named ts
unfolding named_at
took nouns.Manager object ts named e =
    let same : record { text = []; span = object; len = 0 } ≡ named = cc in
    subst (λ (n : Named). Took nouns.Manager n ts) same (record { part = []; rest = ts; whole = refl; is = (refl, refl); place = tt; behind_it = drop_min ts 0 })
took nouns.Local object ts named e = let f = took_text object ts (value_at ts) named refl e in record { part = f.part; rest = f.rest; whole = f.whole; is = (f.is, f.blank); place = f.place; behind_it = f.behind_it }
took nouns.Alias object ts named e = let f = took_text object ts (value_at ts) named refl e in record { part = f.part; rest = f.rest; whole = f.whole; is = (f.is, f.blank); place = f.place; behind_it = f.behind_it }
took nouns.Remote object ts named e = let f = took_text object ts (value_at ts) named refl e in record { part = f.part; rest = f.rest; whole = f.whole; is = (f.is, f.blank); place = f.place; behind_it = f.behind_it }
took nouns.Channel object ts named e = let f = took_text object ts (value_at ts) named refl e in record { part = f.part; rest = f.rest; whole = f.whole; is = (f.is, f.blank); place = f.place; behind_it = f.behind_it }
took nouns.Process object ts named e = let f = took_text object ts (value_at ts) named refl e in record { part = f.part; rest = f.rest; whole = f.whole; is = (f.is, f.blank); place = f.place; behind_it = f.behind_it }
took nouns.Queue object ts named e = let f = took_text object ts (value_at ts) named refl e in record { part = f.part; rest = f.rest; whole = f.whole; is = (f.is, f.blank); place = f.place; behind_it = f.behind_it }
took nouns.Status object ts named e = let f = took_text object ts (value_at ts) named refl e in record { part = f.part; rest = f.rest; whole = f.whole; is = (f.is, f.blank); place = f.place; behind_it = f.behind_it }

abbrev pub missing : Span → Result Named ScFault
missing object = Err (faults.MissingName object)

blank_fault : (object : Span) (n : Named) (fault : ScFault) (b : Bool) → cond b (missing object) (ok_named n) ≡ Err fault → fault ≡ faults.MissingName object
blank_fault object n fault true e = cc
blank_fault object n fault false e = absurd cc

as_fault : (object span : Span) (len : ℕ) (v : Value) (fault : ScFault) → named_as object span len v ≡ Err fault → fault ≡ faults.MissingName object
as_fault object span len values.Absent fault e = cc
as_fault object span len values.Malformed fault e = cc
as_fault object span len (values.Text text) fault e = blank_fault object (record { text = text; span = span; len = len }) fault (are_blanks text) e

pub name_fault : (noun : Noun) (object : Span) (ts : List Token) (fault : ScFault) → named_at noun object ts ≡ Err fault → fault ≡ faults.MissingName object
unfolding named_at
name_fault nouns.Manager object ts fault e = absurd cc
name_fault nouns.Local object ts fault e = as_fault object (value_span object ts) (value_len ts) (value_at ts) fault e
name_fault _ object ts fault e = as_fault object (value_span object ts) (value_len ts) (value_at ts) fault e

-- where a name stands
pub part_place : (part : List Token) → (span : Span) × IsNamePlace part span
part_place [] = (record { line = 0; start = 0; end = 0 }, tt)
part_place (a ∷ []) = (a.span, tt)
part_place (a ∷ b ∷ ts) = (b.span, refl)

-- tokens by their kinds in two parts
pub record Parted (ts : List Token) (front rest : List TokenKind) : Type 0 where
  pub first : List Token
  pub later : List Token
  pub whole : ts ≡ first ++ later
  pub is_front : kinds_of first ≡ front
  pub is_rest : kinds_of later ≡ rest

pub parted : (ts : List Token) (front rest : List TokenKind) → kinds_of ts ≡ front ++ rest → Parted ts front rest
parted ts [] rest e = record { first = []; later = ts; whole = refl; is_front = refl; is_rest = e }
parted [] (k ∷ ks) rest e = absurd cc
parted (t ∷ ts) (k ∷ ks) rest e =
    let same : t.kind ≡ k = cc in
    let more : kinds_of ts ≡ ks ++ rest = cc in
    let p = parted ts ks rest more in
    record {
      first = t ∷ p.first;
      later = p.later;
      whole = ap (λ (l : List Token). t ∷ l) p.whole;
      is_front = ap (λ (x : TokenKind). x ∷ kinds_of p.first) same ∙ ap (λ (l : List TokenKind). k ∷ l) p.is_front;
      is_rest = p.is_rest;
    }
