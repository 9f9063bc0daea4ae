-- The scripts of a PHASE, both ways.
use Rattle.std.proofs.Common.{◌≡◌, ◌⊎◌, ℕ, suc, ◌≤◌, ◌<◌, Bool, true, false, cond, List, [], ◌∷◌, ◌++◌, append_assoc, append-nil, length, Result, Ok, Err, refl, sym, ap, subst, ◌∙◌, arith, inl, inr}
use Rattle.std.specs.Prelude.{◌==◌, ◌&&◌, ◌||◌, not, nat_lt}
use Rattle.std.proofs.lemmas.Bool.{and_parts}
use Rattle.std.proofs.lemmas.Bool.Decides.{eqb_tells, leb_tells}
use Rattle.mq_base.specs.Members.{AreDistinct}
use Rattle.mq_history.specs.declared.scenario.ScriptPart.{ScriptPart}
use Rattle.mq_scn_lines.specs.declared.fault.LineFault.{LineFault}
use Rattle.mq_scn_lines.specs.declared.fault.LineFault.TheVariants as faults
use Rattle.mq_scn_lines.specs.Faults.{rank}
use Rattle.mq_scn_lines.specs.Operands.{label_in}
use Rattle.mq_scn_heading.specs.Lookup.{script_at}
use Rattle.mq_scn_heading.specs.Phases.{is_good, is_label, are_labels, is_script, are_scripts, with_place, places_from, is_in, are_single, single, phase_of}
use Rattle.mq_scn_grammar.specs.Words.{Mem}
use Rattle.mq_scn_grammar.specs.Faults.{IsMissed}
use Rattle.mq_scn_grammar.proofs.Told.{Reports, value_read}
use Rattle.mq_scn_grammar.proofs.Operands.{LabelsOf, label_tells}
use Rattle.mq_scn_grammar.proofs.Numbers.{le_of}
use Rattle.mq_scn_parts.specs.Declared.{script_labels, LabelsPlace, HasLabelFault}
use Rattle.mq_scn_parts.specs.Steps.{ArePlaced, IsPhase, HaveSamePlace, HasPhaseFault}
use Rattle.mq_scn_parts.proofs.Declared.{script_tells}

abbrev ok_at : {A : Type 0} → A → Result A LineFault
ok_at x = Ok x

abbrev err_at : {A : Type 0} → LineFault → Result A LineFault
err_at f = Err f

ok_same : (x y : ℕ) → ok_at x ≡ ok_at y → x ≡ y
ok_same x y e = cc

never_ok : (x : ℕ) (f : LineFault) → err_at f ≡ ok_at x → ⊥
never_ok x f e = absurd cc

not_true : (t : Bool) → not t ≡ true → t ≡ false
not_true true e = absurd cc
not_true false e = refl

module _ (scripts : List ScriptPart) where
  abbrev labels : List (List ℕ)
  labels = script_labels scripts

  abbrev At : List ℕ → ℕ → Type 0
  At w k = LabelsPlace labels w k

  abbrev Bad : List ℕ → LineFault → Type 0
  Bad w f = HasLabelFault labels w f

  -- one word

  label_fault : (w : List ℕ) (g : LineFault) → Bad w g → (g ≡ faults.Name) ⊎ (g ≡ faults.Unknown)
  label_fault w g (inl h) = inl h.0
  label_fault w g (inr h) = inr h.2.0

  one_place : (w : List ℕ) (j k : ℕ) → At w j → At w k → j ≡ k
  one_place w j k a b = ok_same j k (sym (value_read (At w) (Bad w) (script_at scripts w) j (script_tells scripts w) a) ∙ value_read (At w) (Bad w) (script_at scripts w) k (script_tells scripts w) b)

  no_label : (w : List ℕ) → is_label w ≡ false → Bad w faults.Name
  no_label w e = by (label_in w) refl e (label_tells w)
    where
      by : (r : Result (List ℕ) LineFault) → label_in w ≡ r → is_good r ≡ false → Reports (LabelsOf w) (IsMissed faults.Name (LabelsOf w)) r → Bad w faults.Name
      by (Ok l) f g t = absurd cc
      by (Err h) f g t = inl (refl, t.0)

  some_label : (w : List ℕ) → is_label w ≡ true → (g : LineFault) → Bad w g → g ≡ faults.Unknown
  some_label w e g (inr h) = h.2.0
  some_label w e g (inl h) = by (label_in w) e (label_tells w)
    where
      by : (r : Result (List ℕ) LineFault) → is_good r ≡ true → Reports (LabelsOf w) (IsMissed faults.Name (LabelsOf w)) r → g ≡ faults.Unknown
      by (Ok l) f t = absurd (h.1 l t.0)
      by (Err k) f t = absurd cc

  no_script : (w : List ℕ) → is_script scripts w ≡ false → (f : LineFault) × Bad w f
  no_script w e = by (script_at scripts w) e (script_tells scripts w)
    where
      by : (r : Result ℕ LineFault) → is_good r ≡ false → Reports (At w) (Bad w) r → (f : LineFault) × Bad w f
      by (Ok k) g t = absurd cc
      by (Err f) g t = (f, t.1)

  some_script : (w : List ℕ) → is_script scripts w ≡ true → (k : ℕ) × (script_at scripts w ≡ ok_at k) × At w k × ((g : LineFault) → Bad w g → ⊥)
  some_script w e = by (script_at scripts w) refl e (script_tells scripts w)
    where
      by : (r : Result ℕ LineFault) → script_at scripts w ≡ r → is_good r ≡ true → Reports (At w) (Bad w) r → (k : ℕ) × (script_at scripts w ≡ ok_at k) × At w k × ((g : LineFault) → Bad w g → ⊥)
      by (Ok k) f g t = (k, f, t.0, t.2)
      by (Err h) f g t = absurd cc

  -- all of them

  unlabelled : (ws : List (List ℕ)) → are_labels ws ≡ false → (w : List ℕ) × Mem w ws × Bad w faults.Name
  unlabelled [] e = absurd cc
  unlabelled (w ∷ ws) e = by (λ g. unlabelled ws g) (is_label w) refl e
    where
      by : (are_labels ws ≡ false → (v : List ℕ) × Mem v ws × Bad v faults.Name) → (t : Bool) → is_label w ≡ t → (t && are_labels ws) ≡ false → (v : List ℕ) × Mem v (w ∷ ws) × Bad v faults.Name
      by behind true f g = let more = behind g in (more.0, inr more.1, more.2)
      by behind false f g = (w, inl refl, no_label w f)

  labelled : (ws : List (List ℕ)) → are_labels ws ≡ true → (w : List ℕ) → Mem w ws → is_label w ≡ true
  labelled [] e w m = absurd m
  labelled (v ∷ vs) e w (inl m) = subst (λ (x : List ℕ). is_label x ≡ true) (sym m) (and_parts (is_label v) (are_labels vs) e).0
  labelled (v ∷ vs) e w (inr m) = labelled vs (and_parts (is_label v) (are_labels vs) e).1 w m

  undeclared : (ws : List (List ℕ)) → are_scripts scripts ws ≡ false → (w : List ℕ) × Mem w ws × ((f : LineFault) × Bad w f)
  undeclared [] e = absurd cc
  undeclared (w ∷ ws) e = by (λ g. undeclared ws g) (is_script scripts w) refl e
    where
      by : (are_scripts scripts ws ≡ false → (v : List ℕ) × Mem v ws × ((f : LineFault) × Bad v f)) → (t : Bool) → is_script scripts w ≡ t → (t && are_scripts scripts ws) ≡ false → (v : List ℕ) × Mem v (w ∷ ws) × ((f : LineFault) × Bad v f)
      by behind true f g = let more = behind g in (more.0, inr more.1, more.2)
      by behind false f g = (w, inl refl, no_script w f)

  declared : (ws : List (List ℕ)) → are_scripts scripts ws ≡ true → (w : List ℕ) → Mem w ws → (g : LineFault) → Bad w g → ⊥
  declared [] e w m g h = absurd m
  declared (v ∷ vs) e w (inl m) g h = (some_script v (and_parts (is_script scripts v) (are_scripts scripts vs) e).0).3 g (subst (λ (x : List ℕ). Bad x g) m h)
  declared (v ∷ vs) e w (inr m) g h = declared vs (and_parts (is_script scripts v) (are_scripts scripts vs) e).1 w m g h

  -- their places

  record Placed (front : List ℕ) (ws : List (List ℕ)) : Type 0 where
    ks : List ℕ
    is : places_from scripts front ws ≡ front ++ ks
    are : ArePlaced labels ws ks

  placed : (front : List ℕ) (ws : List (List ℕ)) → are_scripts scripts ws ≡ true → Placed front ws
  placed front [] e = record { ks = []; is = sym (append-nil front); are = tt }
  placed front (w ∷ ws) e =
      let a = and_parts (is_script scripts w) (are_scripts scripts ws) e in
      let s = some_script w a.0 in
      let more = placed (front ++ s.0 ∷ []) ws a.1 in
      record {
        ks = s.0 ∷ more.ks;
        is = ap (λ (r : Result ℕ LineFault). places_from scripts (with_place front r) ws) s.1 ∙ more.is ∙ append_assoc front (s.0 ∷ []) more.ks;
        are = (s.2, more.are);
      }

  one_list : (ws : List (List ℕ)) (js ks : List ℕ) → ArePlaced labels ws js → ArePlaced labels ws ks → js ≡ ks
  one_list [] [] [] a b = refl
  one_list [] [] (k ∷ ks) a b = absurd b
  one_list [] (j ∷ js) ks a b = absurd a
  one_list (w ∷ ws) [] ks a b = absurd a
  one_list (w ∷ ws) (j ∷ js) [] a b = absurd b
  one_list (w ∷ ws) (j ∷ js) (k ∷ ks) a b = ap (λ (x : ℕ). x ∷ js) (one_place w j k a.0 b.0) ∙ ap (λ (l : List ℕ). k ∷ l) (one_list ws js ks a.1 b.1)

  -- none twice

  there : (k : ℕ) (ws : List (List ℕ)) (ks : List ℕ) → ArePlaced labels ws ks → is_in k ks ≡ true → (v : List ℕ) × Mem v ws × At v k
  there k [] [] a e = absurd cc
  there k [] (j ∷ js) a e = absurd a
  there k (w ∷ ws) [] a e = absurd a
  there k (w ∷ ws) (j ∷ js) a e = by (λ f. there k ws js a.1 f) (j == k) (eqb_tells j k) e
    where
      by : (is_in k js ≡ true → (v : List ℕ) × Mem v ws × At v k) → (t : Bool) → ((t ≡ true) × (j ≡ k)) ⊎ ((t ≡ false) × (j ≡ k → ⊥)) → (t || is_in k js) ≡ true → (v : List ℕ) × Mem v (w ∷ ws) × At v k
      by behind t (inl p) f = (w, inl refl, subst (At w) p.1 a.0)
      by behind true (inr p) f = absurd (let c = p.0 in cc)
      by behind false (inr p) f = let more = behind f in (more.0, inr more.1, more.2)

  member : (k : ℕ) (ks : List ℕ) → is_in k ks ≡ false → Mem k ks → ⊥
  member k [] e m = m
  member k (j ∷ js) e m = by (λ f n. member k js f n) (j == k) (eqb_tells j k) e m
    where
      by : (is_in k js ≡ false → Mem k js → ⊥) → (t : Bool) → ((t ≡ true) × (j ≡ k)) ⊎ ((t ≡ false) × (j ≡ k → ⊥)) → (t || is_in k js) ≡ false → Mem k (j ∷ js) → ⊥
      by behind true p f m = absurd cc
      by behind false (inl p) f m = absurd (let c = p.0 in cc)
      by behind false (inr p) f (inl m) = p.1 (sym m)
      by behind false (inr p) f (inr m) = behind f m

  twice : (ws : List (List ℕ)) (ks : List ℕ) → ArePlaced labels ws ks → are_single ks ≡ false → HaveSamePlace labels ws
  twice [] [] a e = absurd cc
  twice [] (j ∷ js) a e = absurd a
  twice (w ∷ ws) [] a e = absurd a
  twice (w ∷ ws) (k ∷ ks) a e = by (λ g. twice ws ks a.1 g) (is_in k ks) refl e
    where
      by : (are_single ks ≡ false → HaveSamePlace labels ws) → (t : Bool) → is_in k ks ≡ t → (not t && are_single ks) ≡ false → HaveSamePlace labels (w ∷ ws)
      by behind true f g = let more = there k ws ks a.1 f in inl (k, more.0, a.0, more.1, more.2)
      by behind false f g = inr (behind g)

  distinct : (ks : List ℕ) → are_single ks ≡ true → AreDistinct ks
  distinct [] e = tt
  distinct (k ∷ ks) e = let a = and_parts (not (is_in k ks)) (are_single ks) e in ((λ m. member k ks (not_true (is_in k ks) a.0) m), distinct ks a.1)

  stands : (k : ℕ) (v : List ℕ) (ws : List (List ℕ)) (ks : List ℕ) → ArePlaced labels ws ks → Mem v ws → At v k → Mem k ks
  stands k v [] ks a m at = absurd m
  stands k v (w ∷ ws) [] a m at = absurd a
  stands k v (w ∷ ws) (j ∷ js) a (inl m) at = inl (one_place w k j (subst (λ (x : List ℕ). At x k) m at) a.0)
  stands k v (w ∷ ws) (j ∷ js) a (inr m) at = inr (stands k v ws js a.1 m at)

  not_twice : (ws : List (List ℕ)) (ks : List ℕ) → ArePlaced labels ws ks → AreDistinct ks → HaveSamePlace labels ws → ⊥
  not_twice [] ks a d h = h
  not_twice (w ∷ ws) [] a d h = a
  not_twice (w ∷ ws) (j ∷ js) a d (inl (k, v, at, m, at_too)) = d.0 (subst (λ (x : ℕ). Mem x js) (one_place w k j at a.0) (stands k v ws js a.1 m at_too))
  not_twice (w ∷ ws) (j ∷ js) a d (inr h) = not_twice ws js a.1 d.1 h

  all_placed : (vs : List (List ℕ)) (ks : List ℕ) → ArePlaced labels vs ks → (w : List ℕ) → Mem w vs → (g : LineFault) → Bad w g → ⊥
  all_placed [] ks a w m g b = m
  all_placed (v ∷ vs) [] a w m g b = a
  all_placed (v ∷ vs) (k ∷ ks) a w (inl m) g b = good (script_at scripts v) (value_read (At v) (Bad v) (script_at scripts v) k (script_tells scripts v) a.0) (script_tells scripts v)
    where
      good : (r : Result ℕ LineFault) → r ≡ ok_at k → Reports (At v) (Bad v) r → ⊥
      good (Ok x) e t = t.2 g (subst (λ (x : List ℕ). Bad x g) m b)
      good (Err f) e t = never_ok k f e
  all_placed (v ∷ vs) (k ∷ ks) a w (inr m) g b = all_placed vs ks a.1 w m g b

  -- a phase

  module _ (ws : List (List ℕ)) where
    abbrev Is : List ℕ → Type 0
    Is ks = IsPhase labels ws ks

    abbrev Has : LineFault → Type 0
    Has f = HasPhaseFault labels ws f

    kinds : (g : LineFault) → Has g → (g ≡ faults.Form) ⊎ (2 < rank g)
    kinds g (inl h) = inl h.0
    kinds g (inr (inl h)) = by (label_fault h.0 g h.2)
      where
        by : (g ≡ faults.Name) ⊎ (g ≡ faults.Unknown) → (g ≡ faults.Form) ⊎ (2 < rank g)
        by (inl e) = inr (let r : rank g ≡ 15 = ap rank e in omega (arith, r))
        by (inr e) = inr (let r : rank g ≡ 16 = ap rank e in omega (arith, r))
    kinds g (inr (inr h)) = inr (let r : rank g ≡ 17 = ap rank h.0 in omega (arith, r))

    too_few : length ws < 2 → Reports Is Has (Err faults.Form)
    too_few lt = ((λ ks h. absurd (let le = h.0 in omega (arith, lt, le))), inl (refl, lt), refl, λ g h. kinds g h)

    a_name : 2 ≤ length ws → (w : List ℕ) × Mem w ws × Bad w faults.Name → Reports Is Has (Err faults.Name)
    a_name le bad = ((λ ks h. all_placed ws ks h.1 bad.0 bad.1 faults.Name bad.2), inr (inl bad), refl, λ g h. by g h)
      where
        by : (g : LineFault) → Has g → (g ≡ faults.Name) ⊎ (rank faults.Name < rank g)
        by g (inl h) = absurd (let lt = h.1 in omega (arith, le, lt))
        by g (inr (inl h)) = at (label_fault h.0 g h.2)
          where
            at : (g ≡ faults.Name) ⊎ (g ≡ faults.Unknown) → (g ≡ faults.Name) ⊎ (rank faults.Name < rank g)
            at (inl e) = inl e
            at (inr e) = inr (let r : rank g ≡ 16 = ap rank e in omega (arith, r))
        by g (inr (inr h)) = inr (let r : rank g ≡ 17 = ap rank h.0 in omega (arith, r))

    an_unknown : 2 ≤ length ws → are_labels ws ≡ true → (w : List ℕ) × Mem w ws × Bad w faults.Unknown → Reports Is Has (Err faults.Unknown)
    an_unknown le are bad = ((λ ks h. all_placed ws ks h.1 bad.0 bad.1 faults.Unknown bad.2), inr (inl bad), refl, λ g h. by g h)
      where
        by : (g : LineFault) → Has g → (g ≡ faults.Unknown) ⊎ (rank faults.Unknown < rank g)
        by g (inl h) = absurd (let lt = h.1 in omega (arith, le, lt))
        by g (inr (inl h)) = inl (some_label h.0 (labelled ws are h.0 h.1) g h.2)
        by g (inr (inr h)) = inr (let r : rank g ≡ 17 = ap rank h.0 in omega (arith, r))

    single_by : 2 ≤ length ws → are_scripts scripts ws ≡ true → (p : Placed [] ws) → (t : Bool) → are_single p.ks ≡ t → Reports Is Has (cond t (Ok p.ks) (Err faults.Twice))
    single_by le are p true e =
        let d = distinct p.ks e in
        ((le, p.are, d), (λ ks h. one_list ws ks p.ks h.1 p.are), λ g h. never g h d)
      where
        never : (g : LineFault) → Has g → AreDistinct p.ks → ⊥
        never g (inl h) d = absurd (let lt = h.1 in omega (arith, le, lt))
        never g (inr (inl h)) d = declared ws are h.0 h.1 g h.2
        never g (inr (inr h)) d = not_twice ws p.ks p.are d h.1
    single_by le are p false e =
        let same = twice ws p.ks p.are e in
        ((λ ks h. not_twice ws ks h.1 h.2 same), inr (inr (refl, same)), refl, λ g h. by g h)
      where
        by : (g : LineFault) → Has g → (g ≡ faults.Twice) ⊎ (rank faults.Twice < rank g)
        by g (inl h) = absurd (let lt = h.1 in omega (arith, le, lt))
        by g (inr (inl h)) = absurd (declared ws are h.0 h.1 g h.2)
        by g (inr (inr h)) = inl h.0

    scripts_by : 2 ≤ length ws → are_labels ws ≡ true → (t : Bool) → are_scripts scripts ws ≡ t → Reports Is Has (cond (not t) (Err faults.Unknown) (single (places_from scripts [] ws)))
    scripts_by le are true e =
        let p = placed [] ws e in
        subst (λ (ks : List ℕ). Reports Is Has (single ks)) (sym p.is) (single_by le e p (are_single p.ks) refl)
    scripts_by le are false e =
        let bad = undeclared ws e in
        let is : bad.2.0 ≡ faults.Unknown = some_label bad.0 (labelled ws are bad.0 bad.1) bad.2.0 bad.2.1 in
        an_unknown le are (bad.0, bad.1, subst (Bad bad.0) is bad.2.1)

    labels_by : 2 ≤ length ws → (t : Bool) → are_labels ws ≡ t → Reports Is Has (cond (not t) (Err faults.Name) (cond (not (are_scripts scripts ws)) (Err faults.Unknown) (single (places_from scripts [] ws))))
    labels_by le true e = scripts_by le e (are_scripts scripts ws) refl
    labels_by le false e = a_name le (unlabelled ws e)

    long_by : (t : Bool) → nat_lt (length ws) 2 ≡ t → Reports Is Has (cond t (Err faults.Form) (cond (not (are_labels ws)) (Err faults.Name) (cond (not (are_scripts scripts ws)) (Err faults.Unknown) (single (places_from scripts [] ws)))))
    long_by true e = too_few (le_of (suc (length ws)) 2 e)
    long_by false e = labels_by (not_less (length ws) 2 e) (are_labels ws) refl
      where
        not_less : (m n : ℕ) → nat_lt m n ≡ false → n ≤ m
        not_less m n e = elim (leb_tells (suc m) n) [
          | inl t ↦ absurd (let g : true ≡ false = sym t.0 ∙ e in cc)
          | inr t ↦ (let lt = t.1 in omega (arith, lt))
        ]

    pub phase_tells : Reports Is Has (phase_of scripts ws)
    unfolding phase_of
    phase_tells = long_by (nat_lt (length ws) 2) refl
