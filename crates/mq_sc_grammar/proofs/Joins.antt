-- Physical lines and the lines that they make, both ways.
use Rattle.std.proofs.Common.{◌≡◌, ℕ, suc, ◌+◌, ◌≤◌, Bool, true, false, cond, eqb, List, [], ◌∷◌, ◌++◌, length, take, drop, refl, sym, ap, subst, ◌∙◌, arith, inl, inr}
use Rattle.std.specs.Prelude.{◌&&◌}
use Rattle.std.specs.List.{prefix_len}
use Rattle.std.proofs.lemmas.Bool.{eqb-true, eq-eqb, and_parts, and_from, or_parts, cond-true, cond-false}
use Rattle.std.proofs.lemmas.Bool.Decides.{eqb_tells, nat_tests}
use Rattle.std.proofs.lemmas.List.{take-append-drop, drop_at, length-take}
use Rattle.mq_sc_lex.specs.declared.joining.Mark.{Mark}
use Rattle.mq_sc_lex.specs.declared.joining.Joined.{Joined}
use Rattle.mq_sc_lex.specs.declared.joining.Ending.{Ending}
use Rattle.mq_sc_lex.specs.declared.joining.Ending.TheVariants.{Whole, Plus, Minus}
use Rattle.mq_sc_lex.specs.Joining.{is_blank, are_blank, is_comment, sign, is_sign, ending_of, body_of, passed as passed_len, marks_from, part_of, before_first, add_part, is_open, joined_from}
use Rattle.mq_sc_lex.proofs.EndLaws.{blanks_body}
use Rattle.mq_sc_grammar.specs.Texts.{IsComment, BeginsUnblank, EndsSo, BeginsSo, IsPart, IsBefore, IsOnto, AreJoined}

-- ---- how a line ends

and_no : (a : Bool) → (a && false) ≡ false
and_no true = refl
and_no false = refl

no_sign_whole : (b : ℕ) → is_sign b ≡ false → sign b ≡ Whole
no_sign_whole b e =
    let p = or_parts (eqb b 43) (eqb b 45) e in
    rw (p.0, p.1) refl

not_blank : (front blanks : List ℕ) (x : ℕ) → eqb x 32 ≡ false → are_blank (front ++ x ∷ blanks) ≡ false
not_blank [] blanks x isnt = rw isnt refl
not_blank (b ∷ front) blanks x isnt = rw (not_blank front blanks x isnt) (and_no (eqb b 32))

ending_at : (front blanks : List ℕ) (x : ℕ) → are_blank blanks ≡ true → eqb x 32 ≡ false → ending_of (front ++ x ∷ blanks) ≡ sign x
ending_at [] blanks x e isnt = rw e refl
ending_at (b ∷ front) blanks x e isnt = rw (not_blank front blanks x isnt) (ending_at front blanks x e isnt)

body_at : (front blanks : List ℕ) (x : ℕ) → are_blank blanks ≡ true → eqb x 32 ≡ false → is_sign x ≡ true → body_of (front ++ x ∷ blanks) ≡ front
body_at [] blanks x e isnt s = rw (e, s) refl
body_at (b ∷ front) blanks x e isnt s = rw (not_blank front blanks x isnt) (ap (λ (l : List ℕ). b ∷ l) (body_at front blanks x e isnt s))

-- the last nonblank is no sign
abbrev Unsigned : List ℕ → Type 0
Unsigned bytes = (front blanks : List ℕ) (b : ℕ) → bytes ≡ front ++ b ∷ blanks → are_blank blanks ≡ true → is_sign b ≡ false

abbrev EndsWhole : List ℕ → Type 0
EndsWhole bytes = (ending_of bytes ≡ Whole) × (body_of bytes ≡ bytes)

whole_step : (b : ℕ) (bs : List ℕ) → Unsigned (b ∷ bs) → EndsWhole bs → (t : Bool) → are_blank bs ≡ t → EndsWhole (b ∷ bs)
whole_step b bs h ih true e =
    let isnt = h [] bs b refl e in
    let off : (are_blank bs && is_sign b) ≡ false = ap (λ (x : Bool). are_blank bs && x) isnt ∙ and_no (are_blank bs) in
    (cond-true (are_blank bs) (sign b) (ending_of bs) e ∙ no_sign_whole b isnt, cond-false (are_blank bs && is_sign b) [] (b ∷ body_of bs) off ∙ ap (λ (l : List ℕ). b ∷ l) ih.1)
whole_step b bs h ih false e =
    let off : (are_blank bs && is_sign b) ≡ false = ap (λ (x : Bool). x && is_sign b) e in
    (cond-false (are_blank bs) (sign b) (ending_of bs) e ∙ ih.0, cond-false (are_blank bs && is_sign b) [] (b ∷ body_of bs) off ∙ ap (λ (l : List ℕ). b ∷ l) ih.1)

ends_whole : (bytes : List ℕ) → Unsigned bytes → EndsWhole bytes
ends_whole [] h = (refl, refl)
ends_whole (b ∷ bs) h = whole_step b bs h (ends_whole bs (λ front blanks c e k. h (b ∷ front) blanks c (ap (λ (l : List ℕ). b ∷ l) e) k)) (are_blank bs) refl

ends_read : (e : Ending) (bytes body : List ℕ) → EndsSo e bytes body → (ending_of bytes ≡ e) × (body_of bytes ≡ body)
ends_read Whole bytes body h =
    let w = ends_whole bytes h.1 in
    (w.0, w.1 ∙ h.0)
ends_read Plus bytes body (blanks, e, h) = (ap ending_of e ∙ ending_at body blanks 43 h refl, ap body_of e ∙ body_at body blanks 43 h refl refl)
ends_read Minus bytes body (blanks, e, h) = (ap ending_of e ∙ ending_at body blanks 45 h refl, ap body_of e ∙ body_at body blanks 45 h refl refl)

head_same : (b c : ℕ) (bs cs : List ℕ) → b ∷ bs ≡ c ∷ cs → (b ≡ c) × (bs ≡ cs)
head_same b c bs cs e = (cc, cc)

no_front : (front blanks : List ℕ) (b : ℕ) → [] ≡ front ++ b ∷ blanks → ⊥
no_front [] blanks b e = absurd cc
no_front (c ∷ front) blanks b e = absurd cc

blank_no_sign : (c : ℕ) → eqb c 32 ≡ true → is_sign c ≡ false
blank_no_sign c e = subst (λ (x : ℕ). is_sign x ≡ false) (sym (eqb-true c 32 e)) refl

among_blanks : (bs front blanks : List ℕ) (c : ℕ) → are_blank bs ≡ true → bs ≡ front ++ c ∷ blanks → is_sign c ≡ false
among_blanks [] front blanks c h e = absurd (no_front front blanks c e)
among_blanks (b ∷ bs) [] blanks c h e =
    let p = and_parts (eqb b 32) (are_blank bs) h in
    let s = head_same b c bs blanks e in
    subst (λ (x : ℕ). is_sign x ≡ false) s.0 (blank_no_sign b p.0)
among_blanks (b ∷ bs) (d ∷ front) blanks c h e =
    let p = and_parts (eqb b 32) (are_blank bs) h in
    let s = head_same b d bs (front ++ c ∷ blanks) e in
    among_blanks bs front blanks c p.1 s.1

-- behind a byte whose line goes on with more than blanks
ends_more : (e : Ending) (b : ℕ) (bs body : List ℕ) → are_blank bs ≡ false → EndsSo e bs body → EndsSo e (b ∷ bs) (b ∷ body)
ends_more Whole b bs body isnt h = (ap (λ (l : List ℕ). b ∷ l) h.0, λ front blanks c e k. at front blanks c e k) where
  at : (front blanks : List ℕ) (c : ℕ) → b ∷ bs ≡ front ++ c ∷ blanks → are_blank blanks ≡ true → is_sign c ≡ false
  at [] blanks c e k = absurd (let f : true ≡ false = sym k ∙ ap are_blank (sym (head_same b c bs blanks e).1) ∙ isnt in cc)
  at (d ∷ front) blanks c e k = h.1 front blanks c (head_same b d bs (front ++ c ∷ blanks) e).1 k
ends_more Plus b bs body isnt (blanks, e, h) = (blanks, ap (λ (l : List ℕ). b ∷ l) e, h)
ends_more Minus b bs body isnt (blanks, e, h) = (blanks, ap (λ (l : List ℕ). b ∷ l) e, h)

abbrev Ended : List ℕ → Ending → List ℕ → Type 0
Ended bytes e body = EndsSo e bytes body

last_ended : (b : ℕ) (bs : List ℕ) → are_blank bs ≡ true → Ended (b ∷ bs) (sign b) (cond (are_blank bs && is_sign b) [] (b ∷ body_of bs))
last_ended b bs h =
    elim (eqb_tells b 43) [
      | inl p ↦ subst (λ (x : ℕ). Ended (b ∷ bs) (sign x) (cond (are_blank bs && is_sign x) [] (b ∷ body_of bs))) (sym p.1)
          (subst (λ (l : List ℕ). Ended (b ∷ bs) Plus l) (sym (cond-true (are_blank bs && true) [] (b ∷ body_of bs) (and_from (are_blank bs) true h refl))) (bs, ap (λ (x : ℕ). x ∷ bs) p.1, h))
      | inr p ↦ elim (eqb_tells b 45) [
        | inl q ↦ subst (λ (x : ℕ). Ended (b ∷ bs) (sign x) (cond (are_blank bs && is_sign x) [] (b ∷ body_of bs))) (sym q.1)
            (subst (λ (l : List ℕ). Ended (b ∷ bs) Minus l) (sym (cond-true (are_blank bs && true) [] (b ∷ body_of bs) (and_from (are_blank bs) true h refl))) (bs, ap (λ (x : ℕ). x ∷ bs) q.1, h))
        | inr q ↦
            let isnt : is_sign b ≡ false = rw (p.0, q.0) refl in
            let off : (are_blank bs && is_sign b) ≡ false = ap (λ (x : Bool). are_blank bs && x) isnt ∙ and_no (are_blank bs) in
            subst (λ (e : Ending). Ended (b ∷ bs) e (cond (are_blank bs && is_sign b) [] (b ∷ body_of bs))) (sym (no_sign_whole b isnt))
            (subst (λ (l : List ℕ). Ended (b ∷ bs) Whole l) (sym (cond-false (are_blank bs && is_sign b) [] (b ∷ body_of bs) off ∙ ap (λ (l : List ℕ). b ∷ l) (blanks_body bs h))) (refl, λ front blanks c e k. at isnt front blanks c e))
      ]
    ]
  where
    at : is_sign b ≡ false → (front blanks : List ℕ) (c : ℕ) → b ∷ bs ≡ front ++ c ∷ blanks → is_sign c ≡ false
    at isnt [] blanks c e = subst (λ (x : ℕ). is_sign x ≡ false) (head_same b c bs blanks e).0 isnt
    at isnt (d ∷ front) blanks c e = among_blanks bs front blanks c h (head_same b d bs (front ++ c ∷ blanks) e).1

found_step : (b : ℕ) (bs : List ℕ) → Ended bs (ending_of bs) (body_of bs) → (t : Bool) → are_blank bs ≡ t → Ended (b ∷ bs) (ending_of (b ∷ bs)) (body_of (b ∷ bs))
found_step b bs ih true e =
    subst (λ (x : Ending). Ended (b ∷ bs) x (body_of (b ∷ bs))) (sym (cond-true (are_blank bs) (sign b) (ending_of bs) e)) (last_ended b bs e)
found_step b bs ih false e =
    let off : (are_blank bs && is_sign b) ≡ false = ap (λ (x : Bool). x && is_sign b) e in
    subst (λ (x : Ending). Ended (b ∷ bs) x (body_of (b ∷ bs))) (sym (cond-false (are_blank bs) (sign b) (ending_of bs) e))
    (subst (λ (l : List ℕ). Ended (b ∷ bs) (ending_of bs) l) (sym (cond-false (are_blank bs && is_sign b) [] (b ∷ body_of bs) off)) (ends_more (ending_of bs) b bs (body_of bs) e ih))

ends_found : (bytes : List ℕ) → Ended bytes (ending_of bytes) (body_of bytes)
ends_found [] = (refl, λ front blanks b e k. absurd (no_front front blanks b e))
ends_found (b ∷ bs) = found_step b bs (ends_found bs) (are_blank bs) refl

-- ---- how a line begins

blanks_len : (front rest : List ℕ) → are_blank front ≡ true → BeginsUnblank rest → prefix_len is_blank (front ++ rest) ≡ length front
blanks_len [] [] h u = refl
blanks_len [] (b ∷ bs) h u =
    let isnt : eqb b 32 ≡ false = grind (arith, nat_tests) in
    cond-false (eqb b 32) (1 + prefix_len is_blank bs) 0 isnt
blanks_len (b ∷ front) rest h u =
    let p = and_parts (eqb b 32) (are_blank front) h in
    let more = blanks_len front rest p.1 u in
    cond-true (eqb b 32) (1 + prefix_len is_blank (front ++ rest)) 0 p.0 ∙ omega (arith, more)

begins_read : (before : Ending) (body front text : List ℕ) → BeginsSo before body front text → (passed_len before body ≡ length front) × (drop (passed_len before body) body ≡ text)
begins_read Whole body front text h = (ap length (sym h.1), h.0)
begins_read Minus body front text h = (ap length (sym h.1), h.0)
begins_read Plus body front text (e, blank, u) =
    let n : prefix_len is_blank body ≡ length front = ap (prefix_len is_blank) e ∙ blanks_len front text blank u in
    (n, ap (λ (k : ℕ). drop k body) n ∙ ap (drop (length front)) e ∙ drop_at front text (length front) refl)

record BlankFront (bytes : List ℕ) (n : ℕ) : Type 0 where
  pub blank : are_blank (take n bytes) ≡ true
  pub rest : BeginsUnblank (drop n bytes)
  pub within : n ≤ length bytes

blank_step : (b : ℕ) (bs : List ℕ) → BlankFront bs (prefix_len is_blank bs) → (t : Bool) → eqb b 32 ≡ t → BlankFront (b ∷ bs) (prefix_len is_blank (b ∷ bs))
blank_step b bs h true e =
    let one : prefix_len is_blank (b ∷ bs) ≡ suc (prefix_len is_blank bs) = cond-true (eqb b 32) (1 + prefix_len is_blank bs) 0 e ∙ omega arith in
    subst (BlankFront (b ∷ bs)) (sym one) (record { blank = and_from (eqb b 32) (are_blank (take (prefix_len is_blank bs) bs)) e h.blank; rest = h.rest; within = omega (arith, h.within) })
blank_step b bs h false e =
    let none : prefix_len is_blank (b ∷ bs) ≡ 0 = cond-false (eqb b 32) (1 + prefix_len is_blank bs) 0 e in
    subst (BlankFront (b ∷ bs)) (sym none) (record { blank = refl; rest = λ q. absurd (let f : true ≡ false = sym (eq-eqb b 32 q) ∙ e in cc); within = omega arith })

blank_front : (bytes : List ℕ) → BlankFront bytes (prefix_len is_blank bytes)
blank_front [] = record { blank = refl; rest = tt; within = omega arith }
blank_front (b ∷ bs) = blank_step b bs (blank_front bs) (eqb b 32) refl

record Begun (before : Ending) (body : List ℕ) : Type 0 where
  pub front : List ℕ
  pub begins : BeginsSo before body front (drop (passed_len before body) body)
  pub long : passed_len before body ≡ length front

begins_found : (before : Ending) (body : List ℕ) → Begun before body
begins_found Whole body = record { front = []; begins = (refl, refl); long = refl }
begins_found Minus body = record { front = []; begins = (refl, refl); long = refl }
begins_found Plus body =
    let h = blank_front body in
    let n : ℕ = prefix_len is_blank body in
    record { front = take n body; begins = (sym (take-append-drop n body), h.blank, h.rest); long = omega (arith, length-take n body, h.within) }

-- ---- a physical line

comment_read : (bytes : List ℕ) → IsComment bytes → is_comment bytes ≡ true
comment_read [] h = absurd h
comment_read (b ∷ bs) h = eq-eqb b 42 h

comment_found : (bytes : List ℕ) → is_comment bytes ≡ true → IsComment bytes
comment_found [] e = absurd cc
comment_found (b ∷ bs) e = eqb-true b 42 e

no_comment : (bytes : List ℕ) → (IsComment bytes → ⊥) → (t : Bool) → is_comment bytes ≡ t → t ≡ false
no_comment bytes h true e = absurd (h (comment_found bytes e))
no_comment bytes h false e = refl

part_read : (before : Ending) (line at : ℕ) (bytes : List ℕ) (e : Ending) (part : List Mark) → IsPart before line at bytes e part → (ending_of bytes ≡ e) × (part_of before line at bytes ≡ part)
part_read before line at bytes e part h =
    let ends = ends_read e bytes h.body h.ends in
    let begins = begins_read before h.body h.passed h.text h.begins in (
      ends.0,
      ap (λ (body : List ℕ). marks_from line (at + passed_len before body) (drop (passed_len before body) body)) ends.1
          ∙ ap (λ (n : ℕ). marks_from line (at + n) (drop (passed_len before h.body) h.body)) begins.0
          ∙ ap (marks_from line (at + length h.passed)) begins.1
          ∙ sym h.is,
    )

part_found : (before : Ending) (line at : ℕ) (bytes : List ℕ) → is_comment bytes ≡ false → IsPart before line at bytes (ending_of bytes) (part_of before line at bytes)
part_found before line at bytes isnt =
    let b = begins_found before (body_of bytes) in
    record {
      body = body_of bytes;
      passed = b.front;
      text = drop (passed_len before (body_of bytes)) (body_of bytes);
      no_comment = λ c. absurd (let f : true ≡ false = sym (comment_read bytes c) ∙ isnt in cc);
      ends = ends_found bytes;
      begins = b.begins;
      is = ap (λ (n : ℕ). marks_from line (at + n) (drop (passed_len before (body_of bytes)) (body_of bytes))) b.long;
    }

-- ---- all of them

abbrev pub done : Ending → List (List Mark) → Joined
done last lines = record { lines = lines; unfinished = is_open last }

before_read : (part : List Mark) (later lines : List (List Mark)) → IsBefore part later lines → before_first part later ≡ lines
before_read part [] lines h = sym h
before_read part (first ∷ others) lines h = sym h

onto_read : (e : Ending) (part : List Mark) (last : Ending) (later lines : List (List Mark)) → IsOnto e part later lines → add_part part e (done last later) ≡ done last lines
onto_read Whole part last later lines h = ap (done last) (sym h)
onto_read Plus part last later lines h = ap (done last) (before_read part later lines h)
onto_read Minus part last later lines h = ap (done last) (before_read part later lines h)

pub joined_read : (rows : List (List ℕ)) (before : Ending) (line at : ℕ) (last : Ending) (lines : List (List Mark)) → AreJoined before line at rows last lines → joined_from before line at rows ≡ done last lines
joined_read [] before line at last lines h = ap (λ (e : Ending). done e []) (sym h.0) ∙ ap (done last) (sym h.1)
joined_read (bytes ∷ rest) before line at last lines (inl (c, h)) =
    cond-true (is_comment bytes) (joined_from before (line + 1) (at + length bytes + 1) rest) (add_part (part_of before line at bytes) (ending_of bytes) (joined_from (ending_of bytes) (line + 1) (at + length bytes + 1) rest)) (comment_read bytes c)
    ∙ joined_read rest before (line + 1) (at + length bytes + 1) last lines h
joined_read (bytes ∷ rest) before line at last lines (inr (e, part, later, p, onto, h)) =
    let r = part_read before line at bytes e part p in
    let isnt : is_comment bytes ≡ false = no_comment bytes p.no_comment (is_comment bytes) refl in
    cond-false (is_comment bytes) (joined_from before (line + 1) (at + length bytes + 1) rest) (add_part (part_of before line at bytes) (ending_of bytes) (joined_from (ending_of bytes) (line + 1) (at + length bytes + 1) rest)) isnt
    ∙ ap (λ (x : Ending). add_part (part_of before line at bytes) x (joined_from x (line + 1) (at + length bytes + 1) rest)) r.0
    ∙ ap (λ (x : List Mark). add_part x e (joined_from e (line + 1) (at + length bytes + 1) rest)) r.1
    ∙ ap (add_part part e) (joined_read rest e (line + 1) (at + length bytes + 1) last later h)
    ∙ onto_read e part last later lines onto

before_some : (part : List Mark) (later : List (List Mark)) → IsBefore part later (before_first part later)
before_some part [] = refl
before_some part (first ∷ others) = refl

onto_some : (e : Ending) (part : List Mark) (later : List (List Mark)) → (lines : List (List Mark)) × IsOnto e part later lines
onto_some Whole part later = (part ∷ later, refl)
onto_some Plus part later = (before_first part later, before_some part later)
onto_some Minus part later = (before_first part later, before_some part later)

-- what physical lines make
pub record Made (before : Ending) (line at : ℕ) (rows : List (List ℕ)) : Type 0 where
  pub last : Ending
  pub lines : List (List Mark)
  pub are : AreJoined before line at rows last lines

made_row : (before : Ending) (line at : ℕ) (bytes : List ℕ) (rest : List (List ℕ)) → ((e : Ending) → Made e (line + 1) (at + length bytes + 1) rest) → (t : Bool) → is_comment bytes ≡ t → Made before line at (bytes ∷ rest)
made_row before line at bytes rest more true c =
    let m = more before in
    record { last = m.last; lines = m.lines; are = inl (comment_found bytes c, m.are) }
made_row before line at bytes rest more false c =
    let m = more (ending_of bytes) in
    let o = onto_some (ending_of bytes) (part_of before line at bytes) m.lines in
    record { last = m.last; lines = o.0; are = inr (ending_of bytes, part_of before line at bytes, m.lines, part_found before line at bytes c, o.1, m.are) }

pub made : (rows : List (List ℕ)) (before : Ending) (line at : ℕ) → Made before line at rows
made [] before line at = record { last = before; lines = []; are = (refl, refl) }
made (bytes ∷ rest) before line at = made_row before line at bytes rest (λ e. made rest e (line + 1) (at + length bytes + 1)) (is_comment bytes) refl
