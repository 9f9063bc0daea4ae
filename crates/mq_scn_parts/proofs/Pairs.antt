-- What a reader tells of two parts, of which the second may have faults of a command.
use Rattle.std.proofs.Common.{◌≡◌, ◌⊎◌, ◌≤◌, ◌<◌, Bool, true, false, cond, Result, Ok, Err, refl, sym, ap, subst, ◌∙◌, arith, inl, inr}
use Rattle.std.specs.Prelude.{nat_le}
use Rattle.std.proofs.lemmas.Bool.Decides.{leb_tells}
use Rattle.mq_scn_lines.specs.declared.fault.LineFault.{LineFault}
use Rattle.mq_scn_lines.specs.declared.fault.LineFault.TheVariants as faults
use Rattle.mq_scn_lines.specs.Faults.{rank, both}
use Rattle.mq_scn_grammar.proofs.Told.{Reports, is_plain, one_of_rank}
use Rattle.mq_scn_grammar.proofs.Script.{Answers}

plain_above : (f g : LineFault) → is_plain f ≡ true → is_plain g ≡ true → rank f ≤ rank g → (g ≡ f) ⊎ (rank f < rank g)
plain_above f g p q le = elim (leb_tells (rank g) (rank f)) [
  | inl t ↦ inl (one_of_rank g f q p (let one = t.1 in omega (arith, one, le)))
  | inr t ↦ inr t.1
]

-- a fault that is none of a command stands before all of its rank or above but itself
above : (f g : LineFault) → is_plain f ≡ true → rank f < 20 → rank f ≤ rank g → (g ≡ f) ⊎ (rank f < rank g)
above f faults.NoMemory p lt le = plain_above f faults.NoMemory p refl le
above f faults.Form p lt le = plain_above f faults.Form p refl le
above f (faults.Limit l) p lt le = plain_above f (faults.Limit l) p refl le
above f faults.Name p lt le = plain_above f faults.Name p refl le
above f faults.Unknown p lt le = plain_above f faults.Unknown p refl le
above f faults.Twice p lt le = plain_above f faults.Twice p refl le
above f faults.Number p lt le = plain_above f faults.Number p refl le
above f faults.Order p lt le = plain_above f faults.Order p refl le
above f (faults.Mqsc m) p lt le = inr lt

module _ {A B : Type 0} (Is : A → Type 0) (Has : LineFault → Type 0) (Js : B → Type 0) (Gas : LineFault → Type 0) (low : (f : LineFault) → Has f → rank f < 20) where
  abbrev pub AreBoth : A × B → Type 0
  AreBoth p = Is p.0 × Js p.1

  abbrev pub HasEither : LineFault → Type 0
  HasEither f = Has f ⊎ Gas f

  one_fault : (f g h : LineFault) → is_plain f ≡ true → rank f < 20 → rank f ≤ rank g → (h ≡ g) ⊎ (rank g < rank h) → (h ≡ f) ⊎ (rank f < rank h)
  one_fault f g h p lt le (inl e) = subst (λ (x : LineFault). (x ≡ f) ⊎ (rank f < rank x)) (sym e) (above f g p lt le)
  one_fault f g h p lt le (inr less) = inr (omega (arith, le, less))

  other_fault : (f g h : LineFault) → rank g < rank f → (h ≡ f) ⊎ (rank f < rank h) → (h ≡ g) ⊎ (rank g < rank h)
  other_fault f g h lt (inl e) = inr (let r : rank h ≡ rank f = ap rank e in omega (arith, r, lt))
  other_fault f g h lt (inr less) = inr (omega (arith, lt, less))

  two_faults : (f g : LineFault) → Reports Is Has (Err f) → Answers Js Gas (Err g) → (t : Bool) → ((t ≡ true) × (rank f ≤ rank g)) ⊎ ((t ≡ false) × (rank g < rank f)) → Answers AreBoth HasEither (Err (cond t f g))
  two_faults f g t u true (inr p) = absurd (let e = p.0 in cc)
  two_faults f g t u false (inl p) = absurd (let e = p.0 in cc)
  two_faults f g t u true (inl p) = ((λ q h. t.0 q.0 h.0), inl t.1, λ h k. first h k)
    where
      first : (h : LineFault) → HasEither h → (h ≡ f) ⊎ (rank f < rank h)
      first h (inl k) = t.3 h k
      first h (inr k) = one_fault f g h t.2 (low f t.1) p.1 (u.2 h k)
  two_faults f g t u false (inr p) = ((λ q h. t.0 q.0 h.0), inr u.1, λ h k. first h k)
    where
      first : (h : LineFault) → HasEither h → (h ≡ g) ⊎ (rank g < rank h)
      first h (inl k) = other_fault f g h p.1 (t.3 h k)
      first h (inr k) = u.2 h k

  pub answers_both : (a : Result A LineFault) (b : Result B LineFault) → Reports Is Has a → Answers Js Gas b → Answers AreBoth HasEither (both a b)
  answers_both (Ok x) (Ok y) t u = ((t.0, u.0), (λ p h. ap (λ (z : A). (z, p.1)) (t.1 p.0 h.0) ∙ ap (λ (z : B). (x, z)) (u.1 p.1 h.1)), λ f h. never f h)
    where
      never : (f : LineFault) → HasEither f → ⊥
      never f (inl h) = t.2 f h
      never f (inr h) = u.2 f h
  answers_both (Ok x) (Err g) t u = ((λ p h. u.0 p.1 h.1), inr u.1, λ f h. first f h)
    where
      first : (f : LineFault) → HasEither f → (f ≡ g) ⊎ (rank g < rank f)
      first f (inl h) = absurd (t.2 f h)
      first f (inr h) = u.2 f h
  answers_both (Err f) (Ok y) t u = ((λ p h. t.0 p.0 h.0), inl t.1, λ g h. first g h)
    where
      first : (g : LineFault) → HasEither g → (g ≡ f) ⊎ (rank f < rank g)
      first g (inl h) = t.3 g h
      first g (inr h) = absurd (u.2 g h)
  answers_both (Err f) (Err g) t u = two_faults f g t u (nat_le (rank f) (rank g)) (leb_tells (rank f) (rank g))
