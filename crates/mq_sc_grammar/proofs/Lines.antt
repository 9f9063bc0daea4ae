-- A line's parts and its pieces, both ways.
use Rattle.std.proofs.Common.{◌≡◌, ℕ, suc, ◌+◌, ◌<◌, ◌≤◌, true, false, List, [], ◌∷◌, ◌++◌, length, take, drop, refl, sym, ap, subst, ◌∙◌, append_assoc, arith, inl, inr}
use Rattle.std.specs.Prelude.{Option, Some, None, not}
use Rattle.std.specs.List.{position_or_len}
use Rattle.std.proofs.lemmas.Bool.{and_parts, and_from}
use Rattle.std.proofs.lemmas.Bool.Decides.{eqb_tells}
use Rattle.std.proofs.lemmas.List.{length-append}
use Rattle.mq_text.specs.Quoting.{doubled, quoted, quoted_len, unquoted}
use Rattle.mq_text.specs.declared.piece.PieceKind.{PieceKind}
use Rattle.mq_text.specs.declared.piece.PieceKind.TheVariants as kinds
use Rattle.mq_text.specs.declared.piece.Front.{Front}
use Rattle.mq_text.specs.declared.piece.Front.TheVariants as fronts
use Rattle.mq_text.specs.Pieces.{is_break, closed, front_of}
use Rattle.mq_sc_lex.specs.declared.token.TokenKind.TheVariants as tokens
use Rattle.mq_sc_lex.specs.declared.tokens.Meaning.{Meaning}
use Rattle.mq_sc_lex.specs.declared.tokens.Meaning.TheVariants as meanings
use Rattle.mq_sc_lex.specs.Tokens.{meaning_of}
use Rattle.mq_sc_grammar.specs.Written.{IsWordText, IsText, BeginsApart, BeginsUnquoted, EndsAt}
use Rattle.mq_sc_grammar.proofs.Fronts.{not_true, are_plain, word_ends, word_front, quoted_ends, quoted_reads, quoted_front}

-- ---- what stands at the front

abbrev pub IsSign : PieceKind → ℕ → Type 0
IsSign kinds.Word b = ⊥
IsSign kinds.Quoted b = ⊥
IsSign kinds.Open b = b ≡ 40
IsSign kinds.Close b = b ≡ 41
IsSign kinds.Comma b = b ≡ 44
IsSign kinds.Semicolon b = b ≡ 59

pub data Fronted (b : ℕ) (bs : List ℕ) (f : Front) : Type 0 where
  blank : b ≡ 32 → f ≡ fronts.Gap → Fronted b bs f
  sign : (kind : PieceKind) → IsSign kind b → f ≡ fronts.Piece kind 1 → Fronted b bs f
  quote : b ≡ 39 → f ≡ closed (quoted_len bs) → Fronted b bs f
  word : is_break b ≡ false → f ≡ fronts.Piece kinds.Word (1 + position_or_len is_break bs) → Fronted b bs f

pub fronted : (b : ℕ) (bs : List ℕ) → Fronted b bs (front_of (b ∷ bs))
fronted b bs =
    elim (eqb_tells b 32) [
      | inl p ↦ blank p.1 (rw p.0 refl)
      | inr p ↦ elim (eqb_tells b 40) [
        | inl q ↦ sign kinds.Open q.1 (rw (p.0, q.0) refl)
        | inr q ↦ elim (eqb_tells b 41) [
          | inl r ↦ sign kinds.Close r.1 (rw (p.0, q.0, r.0) refl)
          | inr r ↦ elim (eqb_tells b 44) [
            | inl s ↦ sign kinds.Comma s.1 (rw (p.0, q.0, r.0, s.0) refl)
            | inr s ↦ elim (eqb_tells b 59) [
              | inl t ↦ sign kinds.Semicolon t.1 (rw (p.0, q.0, r.0, s.0, t.0) refl)
              | inr t ↦ elim (eqb_tells b 39) [
                | inl u ↦ quote u.1 (rw (p.0, q.0, r.0, s.0, t.0, u.0) refl)
                | inr u ↦ word (rw (p.0, q.0, r.0, s.0, t.0, u.0) refl) (rw (p.0, q.0, r.0, s.0, t.0, u.0) refl)
              ]
            ]
          ]
        ]
      ]
    ]

pub record FrontText (bytes : List ℕ) (kind : PieceKind) (n : ℕ) : Type 0 where
  pub text : IsText (meaning_of kind (take n bytes)) (take n bytes)
  pub ends : EndsAt (meaning_of kind (take n bytes)) (drop n bytes)
  pub some : 0 < n
  pub within : n ≤ length bytes

moved : (bytes : List ℕ) (s kind : PieceKind) (m n : ℕ) → fronts.Piece s m ≡ fronts.Piece kind n → FrontText bytes s m → FrontText bytes kind n
moved bytes s kind m n e h =
    let same : s ≡ kind = cc in
    let long : m ≡ n = cc in
    subst (λ (k : PieceKind). FrontText bytes k n) same (subst (FrontText bytes s) long h)

sign_text : (s : PieceKind) (b : ℕ) (bs : List ℕ) → IsSign s b → FrontText (b ∷ bs) s 1
sign_text kinds.Word b bs q = absurd q
sign_text kinds.Quoted b bs q = absurd q
sign_text kinds.Open b bs q = record { text = ap (λ (c : ℕ). c ∷ []) q; ends = tt; some = omega arith; within = omega arith }
sign_text kinds.Close b bs q = record { text = ap (λ (c : ℕ). c ∷ []) q; ends = tt; some = omega arith; within = omega arith }
sign_text kinds.Comma b bs q = record { text = inr (ap (λ (c : ℕ). c ∷ []) q); ends = tt; some = omega arith; within = omega arith }
sign_text kinds.Semicolon b bs q = record { text = ap (λ (c : ℕ). c ∷ []) q; ends = tt; some = omega arith; within = omega arith }

is_quoted : (bytes w : List ℕ) → bytes ≡ quoted w → bytes ≡ quoted (unquoted bytes)
is_quoted bytes w e = e ∙ ap quoted (sym (ap unquoted e ∙ quoted_reads w))

quote_text : (b : ℕ) (bs : List ℕ) (kind : PieceKind) (n : ℕ) (o : Option ℕ) → b ≡ 39 → quoted_len bs ≡ o → closed o ≡ fronts.Piece kind n → FrontText (b ∷ bs) kind n
quote_text b bs kind n None q e h = absurd cc
quote_text b bs kind n (Some m) q e h =
    let f = quoted_front bs m e in
    let one : 1 + m ≡ suc m = omega arith in
    let text : b ∷ take m bs ≡ quoted f.text = ap (λ (c : ℕ). c ∷ take m bs) q ∙ ap (λ (l : List ℕ). 39 ∷ l) f.front in
    moved (b ∷ bs) kinds.Quoted kind (suc m) n (ap (λ (k : ℕ). fronts.Piece kinds.Quoted k) (sym one) ∙ h)
    (record { text = is_quoted (b ∷ take m bs) f.text text; ends = f.apart; some = omega arith; within = omega (arith, f.within) })

word_text : (b : ℕ) (bs : List ℕ) → is_break b ≡ false → FrontText (b ∷ bs) kinds.Word (suc (position_or_len is_break bs))
word_text b bs isnt =
    let f = word_front bs in
    record { text = (and_from (not (is_break b)) (are_plain (take (position_or_len is_break bs) bs)) (ap not isnt) f.plain, refl); ends = f.apart; some = omega arith; within = omega (arith, f.within) }

pub front_text : (b : ℕ) (bs : List ℕ) (kind : PieceKind) (n : ℕ) → front_of (b ∷ bs) ≡ fronts.Piece kind n → FrontText (b ∷ bs) kind n
front_text b bs kind n h =
    elim (fronted b bs) [
      | blank p e ↦ absurd (let c : fronts.Gap ≡ fronts.Piece kind n = sym e ∙ h in cc)
      | sign s q e ↦ moved (b ∷ bs) s kind 1 n (sym e ∙ h) (sign_text s b bs q)
      | quote q e ↦ quote_text b bs kind n (quoted_len bs) q refl (sym e ∙ h)
      | word q e ↦
          let one : 1 + position_or_len is_break bs ≡ suc (position_or_len is_break bs) = omega arith in
          moved (b ∷ bs) kinds.Word kind (suc (position_or_len is_break bs)) n (ap (λ (k : ℕ). fronts.Piece kinds.Word k) (sym one) ∙ sym e ∙ h) (word_text b bs q)
    ]

-- ---- what is written at the front

pub data Opens (m : Meaning) (bytes rest : List ℕ) : Type 0 where
  gap : m ≡ meanings.Gap → bytes ≡ 32 ∷ [] → Opens m bytes rest
  piece : (kind : PieceKind) → front_of (bytes ++ rest) ≡ fronts.Piece kind (length bytes) → meaning_of kind bytes ≡ m → 0 < length bytes → Opens m bytes rest

no_break : (b c : ℕ) → is_break b ≡ false → is_break c ≡ true → b ≡ c → ⊥
no_break b c isnt is e = absurd (let f : true ≡ false = sym is ∙ sym (ap is_break e) ∙ isnt in cc)

word_opens : (b : ℕ) (bs rest : List ℕ) → IsWordText (b ∷ bs) → BeginsApart rest → front_of ((b ∷ bs) ++ rest) ≡ fronts.Piece kinds.Word (length (b ∷ bs))
word_opens b bs rest h apart =
    let p = and_parts (not (is_break b)) (are_plain bs) h in
    let isnt = not_true (is_break b) p.0 in
    elim (fronted b (bs ++ rest)) [
      | blank q e ↦ absurd (no_break b 32 isnt refl q)
      | sign s q e ↦ absurd (sign_break s b q isnt)
      | quote q e ↦ absurd (no_break b 39 isnt refl q)
      | word q e ↦
          let more = word_ends bs rest p.1 apart in
          e ∙ ap (λ (k : ℕ). fronts.Piece kinds.Word k) (omega (arith, more))
    ]
  where
    sign_break : (s : PieceKind) (b : ℕ) → IsSign s b → is_break b ≡ false → ⊥
    sign_break kinds.Word b q isnt = q
    sign_break kinds.Quoted b q isnt = q
    sign_break kinds.Open b q isnt = no_break b 40 isnt refl q
    sign_break kinds.Close b q isnt = no_break b 41 isnt refl q
    sign_break kinds.Comma b q isnt = no_break b 44 isnt refl q
    sign_break kinds.Semicolon b q isnt = no_break b 59 isnt refl q

quoted_opens : (w rest : List ℕ) → BeginsUnquoted rest → front_of (quoted w ++ rest) ≡ fronts.Piece kinds.Quoted (length (quoted w))
quoted_opens w rest h =
    let inner : quoted_len ((doubled w ++ 39 ∷ []) ++ rest) ≡ Some (length (doubled w) + 1) = ap quoted_len (append_assoc (doubled w) (39 ∷ []) rest) ∙ quoted_ends w rest h in
    let long : 1 + (length (doubled w) + 1) ≡ length (quoted w) = omega (arith, length-append (doubled w) (39 ∷ [])) in
    ap closed inner ∙ ap (λ (k : ℕ). fronts.Piece kinds.Quoted k) long

opens_quoted : (w bytes rest : List ℕ) → bytes ≡ quoted w → BeginsUnquoted rest → Opens (meanings.Token (tokens.Quoted w)) bytes rest
opens_quoted w bytes rest e h =
    subst (λ (l : List ℕ). Opens (meanings.Token (tokens.Quoted w)) l rest) (sym e)
    (piece kinds.Quoted (quoted_opens w rest h) (ap (λ (l : List ℕ). meanings.Token (tokens.Quoted l)) (quoted_reads w)) (omega arith))

opens_sign : (m : Meaning) (kind : PieceKind) (c : ℕ) (bytes rest : List ℕ) → bytes ≡ c ∷ [] → front_of (c ∷ rest) ≡ fronts.Piece kind 1 → meaning_of kind (c ∷ []) ≡ m → Opens m bytes rest
opens_sign m kind c bytes rest e f means = subst (λ (l : List ℕ). Opens m l rest) (sym e) (piece kind f means (omega arith))

pub opens : (m : Meaning) (bytes rest : List ℕ) → IsText m bytes → EndsAt m rest → Opens m bytes rest
opens (meanings.Token (tokens.Word w)) [] rest h e = absurd h.0
opens (meanings.Token (tokens.Word w)) (b ∷ bs) rest h e = piece kinds.Word (word_opens b bs rest h.0 e) (ap (λ (l : List ℕ). meanings.Token (tokens.Word l)) (sym h.1)) (omega arith)
opens (meanings.Token (tokens.Quoted w)) bytes rest h e = opens_quoted w bytes rest h e
opens (meanings.Token tokens.Open) bytes rest h e = opens_sign (meanings.Token tokens.Open) kinds.Open 40 bytes rest h refl refl
opens (meanings.Token tokens.Close) bytes rest h e = opens_sign (meanings.Token tokens.Close) kinds.Close 41 bytes rest h refl refl
opens meanings.Gap bytes rest (inl h) e = gap refl h
opens meanings.Gap bytes rest (inr h) e = opens_sign meanings.Gap kinds.Comma 44 bytes rest h refl refl
opens meanings.End bytes rest h e = opens_sign meanings.End kinds.Semicolon 59 bytes rest h refl refl
