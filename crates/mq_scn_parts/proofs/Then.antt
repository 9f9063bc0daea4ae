-- What a reader tells of one part and of another that stands on its value.
use Rattle.std.proofs.Common.{◌≡◌, ◌⊎◌, ◌<◌, refl, sym, subst, inl, inr}
use Rattle.std.specs.Prelude.{Result, Ok, Err}
use Rattle.mq_scn_lines.specs.declared.fault.LineFault.{LineFault}
use Rattle.mq_scn_lines.specs.declared.fault.LineFault.TheVariants as faults
use Rattle.mq_scn_lines.specs.Faults.{rank}
use Rattle.mq_scn_grammar.proofs.Told.{Reports}

module _ {A B : Type 0} (Is : A → Type 0) (Has : LineFault → Type 0) (Js : A → B → Type 0) (Gas : A → LineFault → Type 0) where
  abbrev pub Then : B → Type 0
  Then y = (x : A) × Is x × Js x y

  abbrev pub HasThen : LineFault → Type 0
  HasThen f = Has f ⊎ ((x : A) × Is x × Gas x f)

  then_some : (x : A) → Is x → ((z : A) → Is z → z ≡ x) → ((f : LineFault) → Has f → ⊥) → (r : Result B LineFault) → Reports (Js x) (Gas x) r → Reports Then HasThen r
  then_some x is same none (Ok y) t = ((x, is, t.0), (λ z h. t.1 z (subst (λ (q : A). Js q z) (same h.0 h.1) h.2)), λ f h. never f h)
    where
      never : (f : LineFault) → HasThen f → ⊥
      never f (inl h) = none f h
      never f (inr h) = t.2 f (subst (λ (q : A). Gas q f) (same h.0 h.1) h.2)
  then_some x is same none (Err f) t = ((λ z h. t.0 z (subst (λ (q : A). Js q z) (same h.0 h.1) h.2)), inr (x, is, t.1), t.2, λ g h. first g h)
    where
      first : (g : LineFault) → HasThen g → (g ≡ f) ⊎ (rank f < rank g)
      first g (inl h) = absurd (none g h)
      first g (inr h) = t.3 g (subst (λ (q : A). Gas q g) (same h.0 h.1) h.2)

  then_none : (f : LineFault) → Reports Is Has (Err f) → Reports Then HasThen (Err f)
  then_none f t = ((λ z h. t.0 h.0 h.1), inl t.1, t.2, λ g h. first g h)
    where
      first : (g : LineFault) → HasThen g → (g ≡ f) ⊎ (rank f < rank g)
      first g (inl h) = t.3 g h
      first g (inr h) = absurd (t.0 h.0 h.1)

  pub told_then : (bind : Result A LineFault → Result B LineFault) → ((f : LineFault) → bind (Err f) ≡ Err f) → (r : Result A LineFault) → Reports Is Has r → ((x : A) → Is x → Reports (Js x) (Gas x) (bind (Ok x))) → Reports Then HasThen (bind r)
  told_then bind err (Ok x) t more = then_some x t.0 t.1 t.2 (bind (Ok x)) (more x t.0)
  told_then bind err (Err f) t more = subst (Reports Then HasThen) (sym (err f)) (then_none f t)

-- nothing that is so, and the fault Form
abbrev pub IsForm : LineFault → Type 0
IsForm f = f ≡ faults.Form

pub form_tells : {A : Type 0} (Is : A → Type 0) → ((x : A) → Is x → ⊥) → Reports Is IsForm (Err faults.Form)
form_tells Is never = ((λ x h. never x h), refl, refl, λ g h. inl h)
