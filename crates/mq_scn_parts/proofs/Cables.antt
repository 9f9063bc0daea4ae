-- The faults of a cable, both ways.
use Rattle.std.proofs.Common.{◌≡◌, ◌⊎◌, ℕ, suc, ◌≤◌, ◌<◌, Bool, true, false, cond, List, ◌∷◌, ◌++◌, Result, Ok, Err, refl, sym, ap, subst, ◌∙◌, inl}
use Rattle.std.specs.Prelude.{◌&&◌, nat_le, nat_lt, codes, Option, Some, None}
use Rattle.std.proofs.lemmas.Bool.{and_parts, and_from}
use Rattle.mq_text.specs.Lines.{cut}
use Rattle.mq_cable.specs.declared.fault.Fault.{Fault}
use Rattle.mq_cable.specs.declared.fault.Fault.TheVariants as cables
use Rattle.mq_scn_lines.specs.declared.fault.LineFault.{LineFault}
use Rattle.mq_scn_lines.specs.declared.fault.LineFault.TheVariants as faults
use Rattle.mq_scn_lines.specs.Faults.{both}
use Rattle.mq_scn_lines.specs.Operands.{bracketed}
use Rattle.mq_scn_heading.specs.Cables.{frame_in, dropping, dropped, spoiling, spoiled, holding, late, copying, copied, late_of, copy_of, fault_from, fault_in}
use Rattle.mq_scn_grammar.specs.Operands.{IsBracketed}
use Rattle.mq_scn_grammar.proofs.Told.{Reports, told_both, told_map, told_via}
use Rattle.mq_scn_grammar.proofs.Operands.{bracketed_read, bracketed_found}
use Rattle.mq_scn_grammar.proofs.Numbers.{le_of, of_le, ranged_tells}
use Rattle.mq_scn_grammar.proofs.Bodies.{cut_found, cut_read}
use Rattle.mq_scn_parts.specs.Cables.{IsFrame, HasFrameFault, FaultShape, drops, spoils, holds, copies, IsFaultShape, IsFaultOf, HasShapeFault, IsFaultWord, HasWordFault}
use Rattle.mq_scn_parts.proofs.Then.{told_then}

-- ---- what a shape says

pub frame_tells : (text : List ℕ) → Reports (IsFrame text) (HasFrameFault text) (frame_in text)
frame_tells text = ranged_tells faults.Number refl 1 4294967295 text

abbrev AreFrames : (first second : List ℕ) → ℕ × ℕ → Type 0
AreFrames first second p = IsFrame first p.0 × IsFrame second p.1

abbrev HasFramesFault : (first second : List ℕ) → LineFault → Type 0
HasFramesFault first second f = HasFrameFault first f ⊎ HasFrameFault second f

frames_tell : (first second : List ℕ) → Reports (AreFrames first second) (HasFramesFault first second) (both (frame_in first) (frame_in second))
frames_tell first second = told_both (IsFrame first) (IsFrame second) (HasFrameFault first) (HasFrameFault second) (frame_in first) (frame_in second) (frame_tells first) (frame_tells second)

-- a fault where a test of its frames passes
abbrev Where : Type 0 → Fault → Fault → Type 0
Where P made fault = P × (fault ≡ made)

abbrev NotWhere : Type 0 → LineFault → Type 0
NotWhere P f = (f ≡ faults.Number) × (P → ⊥)

where_by : (P : Type 0) (made : Fault) (t : Bool) → ((t ≡ true) → P) → (P → t ≡ true) → Reports (Where P made) (NotWhere P) (cond t (Ok made) (Err faults.Number))
where_by P made true to from = ((to refl, refl), (λ y h. h.1), λ f h. h.1 (to refl))
where_by P made false to from =
    let none : P → ⊥ = λ p. never (from p) in
    ((λ y h. none h.0), (refl, none), refl, λ g h. inl h.0)
  where
    never : false ≡ true → ⊥
    never e = absurd cc

late_tells : (first second : List ℕ) → Reports (IsFaultOf (holds first second)) (HasShapeFault (holds first second)) (late first second)
late_tells first second =
    told_then (AreFrames first second) (HasFramesFault first second) (λ p. Where (p.0 < p.1) (cables.Late p.0 p.1)) (λ p. NotWhere (p.0 < p.1)) holding (λ f. refl)
    (both (frame_in first) (frame_in second)) (frames_tell first second)
    (λ p is. where_by (p.0 < p.1) (cables.Late p.0 p.1) (nat_lt p.0 p.1 && nat_le p.1 4294967295)
    (λ e. le_of (suc p.0) p.1 (and_parts (nat_lt p.0 p.1) (nat_le p.1 4294967295) e).0)
    (λ lt. and_from (nat_lt p.0 p.1) (nat_le p.1 4294967295) (of_le (suc p.0) p.1 lt) (of_le p.1 4294967295 is.1.3)))

copy_tells : (first second : List ℕ) → Reports (IsFaultOf (copies first second)) (HasShapeFault (copies first second)) (copied first second)
copy_tells first second =
    told_then (AreFrames first second) (HasFramesFault first second) (λ p. Where (p.0 ≤ p.1) (cables.Copy p.0 p.1)) (λ p. NotWhere (p.0 ≤ p.1)) copying (λ f. refl)
    (both (frame_in first) (frame_in second)) (frames_tell first second)
    (λ p is. where_by (p.0 ≤ p.1) (cables.Copy p.0 p.1) (nat_le p.0 p.1 && nat_le p.1 4294967295)
    (λ e. le_of p.0 p.1 (and_parts (nat_le p.0 p.1) (nat_le p.1 4294967295) e).0)
    (λ le. and_from (nat_le p.0 p.1) (nat_le p.1 4294967295) (of_le p.0 p.1 le) (of_le p.1 4294967295 is.1.3)))

abbrev shaped : Option FaultShape → Result Fault LineFault
shaped None = Err faults.Form
shaped (Some (drops frame)) = dropped frame
shaped (Some (spoils frame)) = spoiled frame
shaped (Some (holds frame after)) = late frame after
shaped (Some (copies frame after)) = copied frame after

shape_tells : (shape : FaultShape) → Reports (IsFaultOf shape) (HasShapeFault shape) (shaped (Some shape))
shape_tells (drops frame) =
    told_map (IsFrame frame) (HasFrameFault frame) (λ (k : ℕ). cables.Drop k) dropping (IsFaultOf (drops frame)) (λ x. refl) (λ f. refl) (λ x h. (x, h, refl)) (λ y h. h) (frame_in frame) (frame_tells frame)
shape_tells (spoils frame) =
    told_map (IsFrame frame) (HasFrameFault frame) (λ (k : ℕ). cables.Spoil k) spoiling (IsFaultOf (spoils frame)) (λ x. refl) (λ f. refl) (λ x h. (x, h, refl)) (λ y h. h) (frame_in frame) (frame_tells frame)
shape_tells (holds frame after) = late_tells frame after
shape_tells (copies frame after) = copy_tells frame after

-- ---- the shape of a word

abbrev hold_shape : Option (List ℕ × List ℕ) → Option FaultShape
hold_shape None = None
hold_shape (Some p) = Some (holds p.0 p.1)

abbrev copy_shape : Option (List ℕ × List ℕ) → Option FaultShape
copy_shape None = None
copy_shape (Some p) = Some (copies p.0 p.1)

abbrev shape_at : (drop_in spoil_in late_in copy_in : Option (List ℕ)) → Option FaultShape
shape_at (Some value) spoil_in late_in copy_in = Some (drops value)
shape_at None (Some value) late_in copy_in = Some (spoils value)
shape_at None None (Some value) copy_in = hold_shape (cut 44 value)
shape_at None None None (Some value) = copy_shape (cut 44 value)
shape_at None None None None = None

abbrev shape_of : List ℕ → Option FaultShape
shape_of word = shape_at (bracketed (codes "DROP(") word) (bracketed (codes "SPOIL(") word) (bracketed (codes "LATE(") word) (bracketed (codes "COPY(") word)

held_shaped : (o : Option (List ℕ × List ℕ)) → late_of o ≡ shaped (hold_shape o)
held_shaped None = refl
held_shaped (Some p) = refl

copied_shaped : (o : Option (List ℕ × List ℕ)) → copy_of o ≡ shaped (copy_shape o)
copied_shaped None = refl
copied_shaped (Some p) = refl

fault_shaped : (d s l c : Option (List ℕ)) → fault_from d s l c ≡ shaped (shape_at d s l c)
fault_shaped (Some value) s l c = refl
fault_shaped None (Some value) l c = refl
fault_shaped None None (Some value) c = held_shaped (cut 44 value)
fault_shaped None None None (Some value) = copied_shaped (cut 44 value)
fault_shaped None None None None = refl

abbrev some_shape : FaultShape → Option FaultShape
some_shape s = Some s

same_shape : (a b : FaultShape) → some_shape a ≡ some_shape b → a ≡ b
same_shape a b e = cc

no_shape : (a : FaultShape) → None ≡ some_shape a → ⊥
no_shape a e = absurd cc

hold_found : (word value : List ℕ) (shape : FaultShape) (o : Option (List ℕ × List ℕ)) → cut 44 value ≡ o → hold_shape o ≡ some_shape shape → IsBracketed (codes "LATE(") value word → IsFaultShape shape word
hold_found word value shape None e h is = absurd (no_shape shape h)
hold_found word value shape (Some p) e h is =
    let at = cut_found 44 value p e in
    subst (λ (s : FaultShape). IsFaultShape s word) (same_shape (holds p.0 p.1) shape h) (subst (λ (v : List ℕ). IsBracketed (codes "LATE(") v word) at.whole is, at.none)

copy_found : (word value : List ℕ) (shape : FaultShape) (o : Option (List ℕ × List ℕ)) → cut 44 value ≡ o → copy_shape o ≡ some_shape shape → IsBracketed (codes "COPY(") value word → IsFaultShape shape word
copy_found word value shape None e h is = absurd (no_shape shape h)
copy_found word value shape (Some p) e h is =
    let at = cut_found 44 value p e in
    subst (λ (s : FaultShape). IsFaultShape s word) (same_shape (copies p.0 p.1) shape h) (subst (λ (v : List ℕ). IsBracketed (codes "COPY(") v word) at.whole is, at.none)

shape_found : (word : List ℕ) (shape : FaultShape) (d s l c : Option (List ℕ)) → bracketed (codes "DROP(") word ≡ d → bracketed (codes "SPOIL(") word ≡ s → bracketed (codes "LATE(") word ≡ l → bracketed (codes "COPY(") word ≡ c
    → shape_at d s l c ≡ some_shape shape → IsFaultShape shape word
shape_found word shape (Some value) s l c d_is s_is l_is c_is h = subst (λ (x : FaultShape). IsFaultShape x word) (same_shape (drops value) shape h) (bracketed_found (codes "DROP(") value word d_is)
shape_found word shape None (Some value) l c d_is s_is l_is c_is h = subst (λ (x : FaultShape). IsFaultShape x word) (same_shape (spoils value) shape h) (bracketed_found (codes "SPOIL(") value word s_is)
shape_found word shape None None (Some value) c d_is s_is l_is c_is h = hold_found word value shape (cut 44 value) refl h (bracketed_found (codes "LATE(") value word l_is)
shape_found word shape None None None (Some value) d_is s_is l_is c_is h = copy_found word value shape (cut 44 value) refl h (bracketed_found (codes "COPY(") value word c_is)
shape_found word shape None None None None d_is s_is l_is c_is h = absurd (no_shape shape h)

shape_read : (shape : FaultShape) (word : List ℕ) → IsFaultShape shape word → shape_of word ≡ some_shape shape
shape_read (drops frame) word is =
    ap (λ (o : Option (List ℕ)). shape_at o (bracketed (codes "SPOIL(") word) (bracketed (codes "LATE(") word) (bracketed (codes "COPY(") word)) (bracketed_read (codes "DROP(") frame word is)
shape_read (spoils frame) word is =
    let d : bracketed (codes "DROP(") word ≡ None = ap (bracketed (codes "DROP(")) is in
    ap (λ (o : Option (List ℕ)). shape_at o (bracketed (codes "SPOIL(") word) (bracketed (codes "LATE(") word) (bracketed (codes "COPY(") word)) d
    ∙ ap (λ (o : Option (List ℕ)). shape_at None o (bracketed (codes "LATE(") word) (bracketed (codes "COPY(") word)) (bracketed_read (codes "SPOIL(") frame word is)
shape_read (holds frame after) word (is, none) =
    let d : bracketed (codes "DROP(") word ≡ None = ap (bracketed (codes "DROP(")) is in
    let s : bracketed (codes "SPOIL(") word ≡ None = ap (bracketed (codes "SPOIL(")) is in
    ap (λ (o : Option (List ℕ)). shape_at o (bracketed (codes "SPOIL(") word) (bracketed (codes "LATE(") word) (bracketed (codes "COPY(") word)) d
    ∙ ap (λ (o : Option (List ℕ)). shape_at None o (bracketed (codes "LATE(") word) (bracketed (codes "COPY(") word)) s
    ∙ ap (λ (o : Option (List ℕ)). shape_at None None o (bracketed (codes "COPY(") word)) (bracketed_read (codes "LATE(") (frame ++ 44 ∷ after) word is)
    ∙ ap hold_shape (cut_read 44 frame after none)
shape_read (copies frame after) word (is, none) =
    let d : bracketed (codes "DROP(") word ≡ None = ap (bracketed (codes "DROP(")) is in
    let s : bracketed (codes "SPOIL(") word ≡ None = ap (bracketed (codes "SPOIL(")) is in
    let l : bracketed (codes "LATE(") word ≡ None = ap (bracketed (codes "LATE(")) is in
    ap (λ (o : Option (List ℕ)). shape_at o (bracketed (codes "SPOIL(") word) (bracketed (codes "LATE(") word) (bracketed (codes "COPY(") word)) d
    ∙ ap (λ (o : Option (List ℕ)). shape_at None o (bracketed (codes "LATE(") word) (bracketed (codes "COPY(") word)) s
    ∙ ap (λ (o : Option (List ℕ)). shape_at None None o (bracketed (codes "COPY(") word)) l
    ∙ ap (shape_at None None None) (bracketed_read (codes "COPY(") (frame ++ 44 ∷ after) word is)
    ∙ ap copy_shape (cut_read 44 frame after none)

pub fault_tells : (word : List ℕ) → Reports (IsFaultWord word) (HasWordFault word) (fault_in word)
fault_tells word =
    subst (Reports (IsFaultWord word) (HasWordFault word)) (sym (fault_shaped (bracketed (codes "DROP(") word) (bracketed (codes "SPOIL(") word) (bracketed (codes "LATE(") word) (bracketed (codes "COPY(") word)))
    (told_via (λ (s : FaultShape). IsFaultShape s word) IsFaultOf HasShapeFault (shape_of word) shaped refl
    (λ s e. shape_found word s (bracketed (codes "DROP(") word) (bracketed (codes "SPOIL(") word) (bracketed (codes "LATE(") word) (bracketed (codes "COPY(") word) refl refl refl refl e)
    (λ s h. shape_read s word h) (λ s. shape_tells s))
