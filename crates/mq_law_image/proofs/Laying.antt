-- A text that is laid out of words, brackets, texts in quotes and blanks is one line of commands, of just these tokens.
use Rattle.std.proofs.Common.{ℕ, suc, ◌≡◌, ◌+◌, Bool, true, false, List, [], ◌∷◌, ◌++◌, length, refl, ap, sym, subst, ◌∙◌, arith, inl, inr}
use Rattle.std.specs.Prelude.{Ok, if◌then◌else◌, ◌==◌, ◌&&◌, not}
use Rattle.std.specs.List.{list_all, onto_first}
use Rattle.mq_text.specs.Lines.{lines_of}
use Rattle.mq_text.specs.Quoting.{quoted}
use Rattle.mq_sc_lex.specs.declared.joining.Mark.{Mark}
use Rattle.mq_sc_lex.specs.declared.joining.Ending.TheVariants.{Whole}
use Rattle.mq_sc_lex.specs.declared.token.Token.{Token}
use Rattle.mq_sc_lex.specs.declared.token.TokenKind.{TokenKind}
use Rattle.mq_sc_lex.specs.declared.token.TokenKind.TheVariants as tokens
use Rattle.mq_sc_lex.specs.declared.token.Line.{Line}
use Rattle.mq_sc_lex.specs.declared.tokens.Meaning.{Meaning}
use Rattle.mq_sc_lex.specs.declared.tokens.Meaning.TheVariants as meanings
use Rattle.mq_sc_lex.specs.Joining.{are_blank, is_sign, marks_from}
use Rattle.mq_sc_lex.specs.Tokens.{bytes_of, numbered}
use Rattle.mq_sc_lex.specs.Commands.{commands_of}
use Rattle.mq_sc_grammar.specs.Spelling.{kinds_of}
use Rattle.mq_sc_grammar.specs.Texts.{IsComment, EndsSo, IsPart, AreJoined, IsCommands}
use Rattle.mq_sc_grammar.specs.Written.{IsText, EndsAt, Part, BeginsWith, span_of_marks, commands_of_parts, AreOfLine}
use Rattle.mq_sc_grammar.proofs.Whole.{text_read}
use Rattle.mq_law_image.specs.Laid.Bit.{Word, Quote, Open, Close, Gap}
use Rattle.mq_law_image.specs.Laid.{Bit, bit_text, text_of, IsWell, EndsBit, AreLaid, kinds_in}

-- ---- parts of the line

abbrev meaning_of : Bit → Meaning
meaning_of (Word w) = meanings.Token (tokens.Word w)
meaning_of (Quote t) = meanings.Token (tokens.Quoted t)
meaning_of Open = meanings.Token tokens.Open
meaning_of Close = meanings.Token tokens.Close
meaning_of Gap = meanings.Gap

abbrev parts_from : ℕ → ℕ → List Bit → List Part
parts_from line at [] = []
parts_from line at (b ∷ bs) = record { meaning = meaning_of b; marks = marks_from line at (bit_text b) } ∷ parts_from line (at + length (bit_text b)) bs

plus_one : (a n : ℕ) → a + 1 + n ≡ a + suc n
plus_one a n = omega arith

marks_append : (line at : ℕ) (xs ys : List ℕ) → marks_from line at (xs ++ ys) ≡ marks_from line at xs ++ marks_from line (at + length xs) ys
marks_append line at [] ys = ap (λ (n : ℕ). marks_from line n ys) (none at)
  where
    none : (n : ℕ) → n ≡ n + 0
    none n = omega arith
marks_append line at (x ∷ xs) ys = ap (λ (ms : List Mark). record { byte = x; line = line; start = at; end = at + 1 } ∷ ms)
    (marks_append line (at + 1) xs ys ∙ ap (λ (n : ℕ). marks_from line (at + 1) xs ++ marks_from line n ys) (plus_one at (length xs)))

bytes_back : (line at : ℕ) (xs : List ℕ) → bytes_of (marks_from line at xs) ≡ xs
bytes_back line at [] = refl
bytes_back line at (x ∷ xs) = ap (λ (ys : List ℕ). x ∷ ys) (bytes_back line (at + 1) xs)

is_text : (b : Bit) → IsWell b → IsText (meaning_of b) (bit_text b)
is_text (Word w) h = h
is_text (Quote t) h = refl
is_text Open h = refl
is_text Close h = refl
is_text Gap h = inl refl

pub laid_line : (line at : ℕ) (bs : List Bit) → AreLaid bs → BeginsWith (parts_from line at bs) [] (marks_from line at (text_of bs))
laid_line line at [] h = refl
laid_line line at (b ∷ bs) h = (
  marks_from line (at + length (bit_text b)) (text_of bs),
  marks_append line at (bit_text b) (text_of bs),
  subst (IsText (meaning_of b)) (sym (bytes_back line at (bit_text b))) (is_text b h.0),
  subst (EndsAt (meaning_of b)) (sym (bytes_back line (at + length (bit_text b)) (text_of bs))) (ends b (text_of bs) h.1),
  laid_line line (at + length (bit_text b)) bs h.2,
)
  where
    ends : (b : Bit) (rest : List ℕ) → EndsBit b rest → EndsAt (meaning_of b) rest
    ends (Word w) rest e = e
    ends (Quote t) rest e = e
    ends Open rest e = tt
    ends Close rest e = tt
    ends Gap rest e = tt

-- ---- its tokens

abbrev onto_kind : Meaning → List TokenKind → List TokenKind
onto_kind (meanings.Token kind) ks = kind ∷ ks
onto_kind meanings.Gap ks = ks
onto_kind meanings.End ks = ks

record Tokened (parts : List Part) (ks : List TokenKind) : Type 0 where
  pub ts : List Token
  pub one : commands_of_parts parts ≡ ts ∷ []
  pub kinds : kinds_of ts ≡ ks

tokens_in : (line at : ℕ) (bs : List Bit) → Tokened (parts_from line at bs) (kinds_in bs)
tokens_in line at [] = record { ts = []; one = refl; kinds = refl }
tokens_in line at (Word w ∷ bs) =
    let rest = tokens_in line (at + length w) bs in
    let t : Token = record { span = span_of_marks (marks_from line at w); kind = tokens.Word w } in
    record { ts = t ∷ rest.ts; one = ap (onto_first t) rest.one; kinds = ap (λ (ks : List TokenKind). tokens.Word w ∷ ks) rest.kinds }
tokens_in line at (Quote w ∷ bs) =
    let rest = tokens_in line (at + length (quoted w)) bs in
    let t : Token = record { span = span_of_marks (marks_from line at (quoted w)); kind = tokens.Quoted w } in
    record { ts = t ∷ rest.ts; one = ap (onto_first t) rest.one; kinds = ap (λ (ks : List TokenKind). tokens.Quoted w ∷ ks) rest.kinds }
tokens_in line at (Open ∷ bs) =
    let rest = tokens_in line (at + 1) bs in
    let t : Token = record { span = span_of_marks (marks_from line at (40 ∷ [])); kind = tokens.Open } in
    record { ts = t ∷ rest.ts; one = ap (onto_first t) rest.one; kinds = ap (λ (ks : List TokenKind). tokens.Open ∷ ks) rest.kinds }
tokens_in line at (Close ∷ bs) =
    let rest = tokens_in line (at + 1) bs in
    let t : Token = record { span = span_of_marks (marks_from line at (41 ∷ [])); kind = tokens.Close } in
    record { ts = t ∷ rest.ts; one = ap (onto_first t) rest.one; kinds = ap (λ (ks : List TokenKind). tokens.Close ∷ ks) rest.kinds }
tokens_in line at (Gap ∷ bs) = let rest = tokens_in line (at + 1) bs in record { ts = rest.ts; one = rest.one; kinds = rest.kinds }

-- (41 closes, and isn't a quote)
pub unquoted : ◌≡◌ {A = ℕ} 41 39 → ⊥
unquoted e = omega (arith, e)

-- ---- the physical line

not_ten : (t u : Bool) → (not t && u) ≡ true → (t ≡ false) × (u ≡ true)
not_ten true u e = absurd cc
not_ten false u e = (refl, e)

one_line : (b : ℕ) (bs : List ℕ) → list_all (λ (c : ℕ). not (c == 10)) (b ∷ bs) ≡ true → lines_of (b ∷ bs) ≡ (b ∷ bs) ∷ []
one_line b [] e = ap (λ (t : Bool). if t then [] ∷ [] else (b ∷ []) ∷ []) (not_ten (b == 10) true e).0
one_line b (c ∷ cs) e =
    let h = not_ten (b == 10) (list_all (λ (d : ℕ). not (d == 10)) (c ∷ cs)) e in
    ap (λ (t : Bool). if t then [] ∷ lines_of (c ∷ cs) else onto_first b (lines_of (c ∷ cs))) h.0 ∙ ap (onto_first b) (one_line c cs h.1)

-- a text whose last byte is no blank and no sign is whole
ends_so : (front : List ℕ) (last : ℕ) → (last == 32) ≡ false → is_sign last ≡ false → EndsSo Whole (front ++ last ∷ []) (front ++ last ∷ [])
ends_so front last unblank unsigned = (refl, λ before blanks b e all. at front before blanks b e all)
  where
    last_blank : (xs : List ℕ) (y : ℕ) → are_blank (xs ++ y ∷ []) ≡ true → (y == 32) ≡ true
    last_blank [] y e = both_head (y == 32) e
      where
        both_head : (t : Bool) → (t && true) ≡ true → t ≡ true
        both_head true e = refl
        both_head false e = absurd cc
    last_blank (x ∷ xs) y e = last_blank xs y (tail (x == 32) (are_blank (xs ++ y ∷ [])) e)
      where
        tail : (t u : Bool) → (t && u) ≡ true → u ≡ true
        tail true u e = e
        tail false u e = absurd cc

    tail_of : {x y : ℕ} {xs ys : List ℕ} → x ∷ xs ≡ y ∷ ys → xs ≡ ys
    tail_of {x} {y} {xs} {ys} e = ap (λ (zs : List ℕ). rest xs zs) e
      where
        rest : List ℕ → List ℕ → List ℕ
        rest d [] = d
        rest d (z ∷ zs) = zs

    head_of : {x y : ℕ} {xs ys : List ℕ} → x ∷ xs ≡ y ∷ ys → x ≡ y
    head_of {x} {y} {xs} {ys} e = ap (λ (zs : List ℕ). first x zs) e
      where
        first : ℕ → List ℕ → ℕ
        first d [] = d
        first d (z ∷ zs) = z

    none : (xs : List ℕ) (y : ℕ) (ys : List ℕ) → [] ≡ xs ++ y ∷ ys → ⊥
    none [] y ys e = cc e
    none (x ∷ xs) y ys e = cc e

    at : (front before blanks : List ℕ) (b : ℕ) → front ++ last ∷ [] ≡ before ++ b ∷ blanks → are_blank blanks ≡ true → is_sign b ≡ false
    at [] [] blanks b e all = ap is_sign (sym (head_of e)) ∙ unsigned
    at [] (x ∷ before) blanks b e all = absurd (none before b blanks (tail_of e))
    at (x ∷ front) [] blanks b e all = absurd (cc (unblank, last_blank front last (ap are_blank (tail_of e) ∙ all)))
    at (x ∷ front) (y ∷ before) blanks b e all = at front before blanks b (tail_of e) all

pub record Lined (text : List ℕ) (ks : List TokenKind) : Type 0 where
  pub line : Line
  pub is : commands_of text ≡ Ok (line ∷ [])
  pub kinds : kinds_of line.tokens ≡ ks

-- the list of tokens isn't empty
lined_by : (text : List ℕ) (bs : List Bit) (k : TokenKind) (ks : List TokenKind) (ts : List Token) → text ≡ text_of bs → IsPart Whole 1 0 text Whole (marks_from 1 0 text) → lines_of text ≡ text ∷ [] → kinds_in bs ≡ k ∷ ks → AreLaid bs
    → commands_of_parts (parts_from 1 0 bs) ≡ ts ∷ [] → kinds_of ts ≡ kinds_in bs → Lined text (kinds_in bs)
lined_by text bs k ks [] same part lines some laid one kinds = absurd (cc (kinds ∙ some))
lined_by text bs k ks (t ∷ ts) same part lines some laid one kinds = record { line = line; is = text_read text (line ∷ []) written; kinds = kinds }
  where
    line : Line
    line = record { number = t.span.line; tokens = t ∷ ts }

    of_line : AreOfLine (marks_from 1 0 text) (line ∷ [])
    of_line = (parts_from 1 0 bs, subst (λ (x : List ℕ). BeginsWith (parts_from 1 0 bs) [] (marks_from 1 0 x)) (sym same) (laid_line 1 0 bs laid), ap numbered (sym one))

    joined : AreJoined Whole 1 0 (text ∷ []) Whole (marks_from 1 0 text ∷ [])
    joined = inr (Whole, marks_from 1 0 text, [], part, refl, (refl, refl))

    written : IsCommands text (line ∷ [])
    written = (marks_from 1 0 text ∷ [], subst (λ (rows : List (List ℕ)). AreJoined Whole 1 0 rows Whole (marks_from 1 0 text ∷ [])) (sym lines) joined, (line ∷ [], [], of_line, refl, refl))

-- a text that is laid out so, with no line's end in it, whose first byte is no star, and whose last is no blank and no sign
pub laid_read : (bs : List Bit) (b : ℕ) (rest front : List ℕ) (last : ℕ) (k : TokenKind) (ks : List TokenKind) → text_of bs ≡ b ∷ rest → (b ≡ 42 → ⊥) → text_of bs ≡ front ++ last ∷ [] → (last == 32) ≡ false → is_sign last ≡ false
    → list_all (λ (c : ℕ). not (c == 10)) (text_of bs) ≡ true → kinds_in bs ≡ k ∷ ks → AreLaid bs → Lined (text_of bs) (kinds_in bs)
laid_read bs b rest front last k ks begins plain ends unblank unsigned whole some laid =
    let t = tokens_in 1 0 bs in
    lined_by (text_of bs) bs k ks t.ts refl part (subst (λ (x : List ℕ). lines_of x ≡ x ∷ []) (sym begins) (one_line b rest (ap (list_all (λ (c : ℕ). not (c == 10))) (sym begins) ∙ whole))) some laid t.one t.kinds
  where
    text : List ℕ
    text = text_of bs

    part : IsPart Whole 1 0 text Whole (marks_from 1 0 text)
    part = record {
      body = text;
      passed = [];
      text = text;
      no_comment = λ c. plain (subst IsComment begins c);
      ends = subst (λ (x : List ℕ). EndsSo Whole x x) (sym ends) (ends_so front last unblank unsigned);
      begins = (refl, refl);
      is = refl;
    }
