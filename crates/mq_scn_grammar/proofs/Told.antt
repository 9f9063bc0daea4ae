-- What a reader tells where what holds is known: one value and no fault, or no value and the first of the faults.
use Rattle.std.proofs.Common.{◌≡◌, ◌⊎◌, ℕ, ◌≤◌, ◌<◌, Bool, true, false, cond, eqb, refl, sym, ap, subst, ◌∙◌, arith, inl, inr}
use Rattle.std.specs.Prelude.{Option, Some, None, Result, Ok, Err, nat_le}
use Rattle.std.specs.Bool.{Decides}
use Rattle.std.proofs.lemmas.Bool.Decides.{leb_tells}
use Rattle.mq_scn_lines.specs.declared.fault.Limit.{Limit}
use Rattle.mq_scn_lines.specs.declared.fault.Limit.TheVariants as limits
use Rattle.mq_scn_lines.specs.declared.fault.LineFault.{LineFault}
use Rattle.mq_scn_lines.specs.declared.fault.LineFault.TheVariants as faults
use Rattle.mq_scn_lines.specs.Faults.{limit_rank, rank, both}
use Rattle.mq_scn_script.specs.Options.{and_then}
use Rattle.mq_scn_grammar.specs.Faults.{IsMissed, IsTold}

-- ---- faults of different ranks

-- the faults that may stand beside another
abbrev pub is_plain : LineFault → Bool
is_plain (faults.Mqsc fault) = false
is_plain _ = true

limit_at : ℕ → LineFault
limit_at n =
    cond (eqb n 1) (faults.Limit limits.Lines) (cond (eqb n 3) (faults.Limit limits.Managers) (cond (eqb n 4) (faults.Limit limits.Cables)
    (cond (eqb n 5) (faults.Limit limits.Scripts) (cond (eqb n 6) (faults.Limit limits.Sections) (cond (eqb n 7) (faults.Limit limits.Monitors)
    (cond (eqb n 8) (faults.Limit limits.Steps) (cond (eqb n 9) (faults.Limit limits.ScriptLines) (cond (eqb n 10) (faults.Limit limits.Bodies)
    (cond (eqb n 11) (faults.Limit limits.Body) (cond (eqb n 12) (faults.Limit limits.Turns) (cond (eqb n 13) (faults.Limit limits.Clock)
    (faults.Limit limits.LogMax))))))))))))

fault_at : ℕ → LineFault
fault_at n =
    cond (eqb n 0) faults.NoMemory (cond (eqb n 2) faults.Form (cond (eqb n 15) faults.Name (cond (eqb n 16) faults.Unknown
    (cond (eqb n 17) faults.Twice (cond (eqb n 18) faults.Number (cond (eqb n 19) faults.Order (limit_at n)))))))

limit_of_rank : (limit : Limit) → fault_at (limit_rank limit) ≡ faults.Limit limit
unfolding fault_at limit_at
limit_of_rank limits.Lines = refl
limit_of_rank limits.Managers = refl
limit_of_rank limits.Cables = refl
limit_of_rank limits.Scripts = refl
limit_of_rank limits.Sections = refl
limit_of_rank limits.Monitors = refl
limit_of_rank limits.Steps = refl
limit_of_rank limits.ScriptLines = refl
limit_of_rank limits.Bodies = refl
limit_of_rank limits.Body = refl
limit_of_rank limits.Turns = refl
limit_of_rank limits.Clock = refl
limit_of_rank limits.LogMax = refl

fault_of_rank : (f : LineFault) → is_plain f ≡ true → fault_at (rank f) ≡ f
unfolding fault_at
fault_of_rank faults.NoMemory p = refl
fault_of_rank faults.Form p = refl
fault_of_rank (faults.Limit limit) p = limit_of_rank limit
fault_of_rank faults.Name p = refl
fault_of_rank faults.Unknown p = refl
fault_of_rank faults.Twice p = refl
fault_of_rank faults.Number p = refl
fault_of_rank faults.Order p = refl
fault_of_rank (faults.Mqsc fault) p = absurd cc

pub one_of_rank : (f g : LineFault) → is_plain f ≡ true → is_plain g ≡ true → rank f ≡ rank g → f ≡ g
one_of_rank f g p q e = sym (fault_of_rank f p) ∙ ap fault_at e ∙ fault_of_rank g q

-- ---- what is told

abbrev pub IsFirst : (LineFault → Type 0) → LineFault → Type 0
IsFirst Has f = (g : LineFault) → Has g → (g ≡ f) ⊎ (rank f < rank g)

abbrev pub Reports : {A : Type 0} → (A → Type 0) → (LineFault → Type 0) → Result A LineFault → Type 0
Reports Is Has (Ok x) = Is x × ((y : _) → Is y → y ≡ x) × ((f : LineFault) → Has f → ⊥)
Reports Is Has (Err f) = ((x : _) → Is x → ⊥) × Has f × (is_plain f ≡ true) × IsFirst Has f

module _ {A : Type 0} (Is : A → Type 0) (Has : LineFault → Type 0) where
  pub value_found : (r : Result A LineFault) (x : A) → Reports Is Has r → r ≡ Ok x → Is x
  value_found (Ok y) x t e = let same : y ≡ x = cc in subst Is same t.0
  value_found (Err f) x t e = absurd cc

  pub value_read : (r : Result A LineFault) (x : A) → Reports Is Has r → Is x → r ≡ Ok x
  value_read (Ok y) x t h = ap (λ (z : A). Ok z) (sym (t.1 x h))
  value_read (Err f) x t h = absurd (t.0 x h)

  not_before : (f g : LineFault) → (g ≡ f) ⊎ (rank f < rank g) → rank f ≤ rank g
  not_before f g (inl e) = let same : rank g ≡ rank f = ap rank e in omega (arith, same)
  not_before f g (inr lt) = omega (arith, lt)

  pub fault_found : (r : Result A LineFault) (f : LineFault) → Reports Is Has r → r ≡ Err f → IsTold Has f
  fault_found (Ok y) f t e = absurd cc
  fault_found (Err g) f t e = let same : g ≡ f = cc in subst (IsTold Has) same (t.1, λ h p. not_before g h (t.3 h p))

  the_same : (f g : LineFault) → rank f ≤ rank g → (f ≡ g) ⊎ (rank g < rank f) → f ≡ g
  the_same f g le (inl e) = e
  the_same f g le (inr lt) = absurd (omega (arith, le, lt))

  pub fault_read : (r : Result A LineFault) (f : LineFault) → Reports Is Has r → IsTold Has f → r ≡ Err f
  fault_read (Ok y) f t h = absurd (t.2 f h.0)
  fault_read (Err g) f t h = ap (λ (e : LineFault). Err e) (sym (the_same f g (h.1 g t.1) (t.3 f h.0)))

  pub either_way : (r : Result A LineFault) → Reports Is Has r → ((x : A) × Is x) ⊎ ((f : LineFault) × IsTold Has f)
  either_way (Ok y) t = inl (y, t.0)
  either_way (Err g) t = inr (g, (t.1, λ h p. not_before g h (t.3 h p)))

  -- a reader with other values and faults that are the same
  pub told_as : (Js : A → Type 0) (Gas : LineFault → Type 0) (r : Result A LineFault) → ((x : A) → Is x → Js x) → ((x : A) → Js x → Is x) → ((f : LineFault) → Has f → Gas f) → ((f : LineFault) → Gas f → Has f) → Reports Is Has r → Reports Js Gas r
  told_as Js Gas (Ok x) a b c d t = (a x t.0, (λ y h. t.1 y (b y h)), λ f h. t.2 f (d f h))
  told_as Js Gas (Err f) a b c d t = ((λ x h. t.0 x (b x h)), c f t.1, t.2, λ g h. t.3 g (d g h))

  -- a reader of something made of the value
  pub told_map : {B : Type 0} (make : A → B) (m : Result A LineFault → Result B LineFault) (Js : B → Type 0) → ((x : A) → m (Ok x) ≡ Ok (make x)) → ((f : LineFault) → m (Err f) ≡ Err f)
      → ((x : A) → Is x → Js (make x)) → ((y : B) → Js y → (x : A) × Is x × (y ≡ make x)) → (r : Result A LineFault) → Reports Is Has r → Reports Js Has (m r)
  told_map make m Js ok err a b (Ok x) t =
      subst (Reports Js Has) (sym (ok x)) (a x t.0, (λ y h. let k = b y h in k.2 ∙ ap make (t.1 k.0 k.1)), t.2)
  told_map make m Js ok err a b (Err f) t =
      subst (Reports Js Has) (sym (err f)) ((λ y h. let k = b y h in t.0 k.0 k.1), t.1, t.2, t.3)

  -- a reader behind a test
  pub told_where : (P : Type 0) (test : Bool) (r : Result A LineFault) → Decides test P → (P → Reports Is Has r) → Reports (λ (x : A). P × Is x) (λ (f : LineFault). ((f ≡ faults.Form) × (P → ⊥)) ⊎ (P × Has f)) (cond test r (Err faults.Form))
  told_where P true r d t =
      let p = d.0 refl in
      let Gas : LineFault → Type 0 = λ f. ((f ≡ faults.Form) × (P → ⊥)) ⊎ (P × Has f) in
      by p r (t p)
    where
      back : P → (f : LineFault) → ((f ≡ faults.Form) × (P → ⊥)) ⊎ (P × Has f) → Has f
      back p f (inl h) = absurd (h.1 p)
      back p f (inr h) = h.1

      by : P → (r : Result A LineFault) → Reports Is Has r → Reports (λ (x : A). P × Is x) (λ (f : LineFault). ((f ≡ faults.Form) × (P → ⊥)) ⊎ (P × Has f)) r
      by p (Ok x) u = ((p, u.0), (λ y h. u.1 y h.1), λ f h. u.2 f (back p f h))
      by p (Err f) u = ((λ x h. u.0 x h.1), inr (p, u.1), u.2, λ g h. u.3 g (back p g h))
  told_where P false r d t =
      let none : P → ⊥ = λ p. false_never (d.1 p) in
      ((λ x h. none h.0), inl (refl, none), refl, λ g h. only none g h)
    where
      false_never : false ≡ true → ⊥
      false_never e = absurd cc

      only : (P → ⊥) → (g : LineFault) → ((g ≡ faults.Form) × (P → ⊥)) ⊎ (P × Has g) → (g ≡ faults.Form) ⊎ (rank faults.Form < rank g)
      only none g (inl h) = inl h.0
      only none g (inr h) = absurd (none h.0)

abbrev ok_at : {A : Type 0} → A → Result A LineFault
ok_at x = Ok x

abbrev err_at : {A : Type 0} → LineFault → Result A LineFault
err_at f = Err f

ok_same : {A : Type 0} (x y : A) → ok_at x ≡ ok_at y → x ≡ y
ok_same x y e = cc

ok_never : {A : Type 0} (x : A) (f : LineFault) → err_at f ≡ ok_at x → ⊥
ok_never x f e = absurd cc

-- a reader with one fault
pub told_one : {A : Type 0} (Is : A → Type 0) (fault : LineFault) (r : Result A LineFault) → is_plain fault ≡ true → ((x : A) → r ≡ Ok x → Is x) → ((x : A) → Is x → r ≡ Ok x) → ((f : LineFault) → r ≡ Err f → f ≡ fault) → Reports Is (IsMissed fault Is) r
told_one Is fault (Ok x) plain found read only = (found x refl, (λ y h. ok_same y x (sym (read y h))), λ f h. h.1 x (found x refl))
told_one Is fault (Err f) plain found read only =
    let same = only f refl in
    ((λ x h. ok_never x f (read x h)), (same, λ x h. ok_never x f (read x h)), ap is_plain same ∙ plain, λ g h. inl (h.0 ∙ sym same))

-- ---- two parts

module _ {A B : Type 0} (Is : A → Type 0) (Js : B → Type 0) (Has Gas : LineFault → Type 0) where
  abbrev pub AreBoth : A × B → Type 0
  AreBoth p = Is p.0 × Js p.1

  abbrev pub HasEither : LineFault → Type 0
  HasEither f = Has f ⊎ Gas f

  neither : ((f : LineFault) → Has f → ⊥) → ((f : LineFault) → Gas f → ⊥) → (f : LineFault) → HasEither f → ⊥
  neither p q f (inl h) = p f h
  neither p q f (inr h) = q f h

  in_first : ((f : LineFault) → Gas f → ⊥) → (f g : LineFault) → IsFirst Has f → HasEither g → (g ≡ f) ⊎ (rank f < rank g)
  in_first none f g first (inl h) = first g h
  in_first none f g first (inr h) = absurd (none g h)

  in_second : ((f : LineFault) → Has f → ⊥) → (f g : LineFault) → IsFirst Gas f → HasEither g → (g ≡ f) ⊎ (rank f < rank g)
  in_second none f g first (inl h) = absurd (none g h)
  in_second none f g first (inr h) = first g h

  above : (f g h : LineFault) → is_plain f ≡ true → is_plain g ≡ true → rank f ≤ rank g → (h ≡ g) ⊎ (rank g < rank h) → (h ≡ f) ⊎ (rank f < rank h)
  above f g h p q le (inr lt) = inr (omega (arith, le, lt))
  above f g h p q le (inl e) = elim (leb_tells (rank g) (rank f)) [
    | inl t ↦ inl (e ∙ one_of_rank g f q p (let one = t.1 in omega (arith, one, le)))
    | inr t ↦ inr (let one = t.1 in let same : rank h ≡ rank g = ap rank e in omega (arith, one, same))
  ]

  first_of_two : (f g h : LineFault) → is_plain f ≡ true → is_plain g ≡ true → rank f ≤ rank g → IsFirst Has f → IsFirst Gas g → HasEither h → (h ≡ f) ⊎ (rank f < rank h)
  first_of_two f g h p q le one two (inl k) = one h k
  first_of_two f g h p q le one two (inr k) = above f g h p q le (two h k)

  second_of_two : (f g h : LineFault) → is_plain f ≡ true → is_plain g ≡ true → rank g ≤ rank f → IsFirst Has f → IsFirst Gas g → HasEither h → (h ≡ g) ⊎ (rank g < rank h)
  second_of_two f g h p q le one two (inl k) = above g f h q p le (one h k)
  second_of_two f g h p q le one two (inr k) = two h k

  two_faults : (f g : LineFault) → Reports Is Has (Err f) → Reports Js Gas (Err g) → (t : Bool) → nat_le (rank f) (rank g) ≡ t → Reports AreBoth HasEither (Err (cond t f g))
  two_faults f g a b true e =
      let le : rank f ≤ rank g = elim (leb_tells (rank f) (rank g)) [
        | inl t ↦ t.1
        | inr t ↦ absurd (let c : true ≡ false = sym e ∙ t.0 in cc)
      ] in
      ((λ p h. a.0 p.0 h.0), inl a.1, a.2, λ h k. first_of_two f g h a.2 b.2 le a.3 b.3 k)
  two_faults f g a b false e =
      let le : rank g ≤ rank f = elim (leb_tells (rank f) (rank g)) [
        | inl t ↦ absurd (let c : false ≡ true = sym e ∙ t.0 in cc)
        | inr t ↦ (let lt = t.1 in omega (arith, lt))
      ] in
      ((λ p h. a.0 p.0 h.0), inr b.1, b.2, λ h k. second_of_two f g h a.2 b.2 le a.3 b.3 k)

  pub told_both : (r : Result A LineFault) (s : Result B LineFault) → Reports Is Has r → Reports Js Gas s → Reports AreBoth HasEither (both r s)
  told_both (Ok x) (Ok y) a b = ((a.0, b.0), (λ p h. ap (λ (z : A). (z, p.1)) (a.1 p.0 h.0) ∙ ap (λ (z : B). (x, z)) (b.1 p.1 h.1)), λ f h. neither a.2 b.2 f h)
  told_both (Ok x) (Err g) a b = ((λ p h. b.0 p.1 h.1), inr b.1, b.2, λ h k. in_second a.2 g h b.3 k)
  told_both (Err f) (Ok y) a b = ((λ p h. a.0 p.0 h.0), inl a.1, a.2, λ h k. in_first b.2 f h a.3 k)
  told_both (Err f) (Err g) a b = two_faults f g a b (nat_le (rank f) (rank g)) refl

-- ---- faults that stand alone

same_rank : (f g : LineFault) → f ≡ g → rank f ≤ rank g
same_rank f g e = let r : rank f ≡ rank g = ap rank e in omega (arith, r)

-- the one fault of what is none of these is told
pub missed_told : {A : Type 0} (fault : LineFault) (Is : A → Type 0) (f : LineFault) → IsMissed fault Is f → IsTold (IsMissed fault Is) f
missed_told fault Is f h = (h, λ g k. same_rank f g (h.0 ∙ sym k.0))

pub missed_read : {A : Type 0} (fault : LineFault) (Is : A → Type 0) (r : Result A LineFault) (f : LineFault) → Reports Is (IsMissed fault Is) r → IsMissed fault Is f → r ≡ Err f
missed_read fault Is r f t h = fault_read Is (IsMissed fault Is) r f t (missed_told fault Is f h)

pub missed_found : {A : Type 0} (fault : LineFault) (Is : A → Type 0) (r : Result A LineFault) (f : LineFault) → Reports Is (IsMissed fault Is) r → r ≡ Err f → IsMissed fault Is f
missed_found fault Is r f t e = (fault_found Is (IsMissed fault Is) r f t e).0

-- all faults but those of MQSC are of lower rank than these
pub plain_of : (f : LineFault) → rank f < 20 → is_plain f ≡ true
plain_of faults.NoMemory lt = refl
plain_of faults.Form lt = refl
plain_of (faults.Limit limit) lt = refl
plain_of faults.Name lt = refl
plain_of faults.Unknown lt = refl
plain_of faults.Twice lt = refl
plain_of faults.Number lt = refl
plain_of faults.Order lt = refl
plain_of (faults.Mqsc fault) lt = absurd (omega (arith, lt))

-- ---- what stands behind a first part

abbrev some_at : {S : Type 0} → S → Option S
some_at s = Some s

abbrev none_at : {S : Type 0} → Option S
none_at = None

module _ {S A : Type 0} (IsS : S → Type 0) (Js : S → A → Type 0) (Gas : S → LineFault → Type 0) where
  -- a first part, and what is made of it
  abbrev pub Through : A → Type 0
  Through x = (s : S) × IsS s × Js s x

  abbrev pub HasThrough : LineFault → Type 0
  HasThrough f = (s : S) × IsS s × Gas s f

  -- no first part, or a fault of what is made of it
  abbrev pub NoneOr : LineFault → Type 0
  NoneOr f = ((f ≡ faults.Form) × ((s : S) → IsS s → ⊥)) ⊎ HasThrough f

  -- no first part and a default, or what is made of it
  abbrev pub DefaultOr : A → A → Type 0
  DefaultOr default x = (((s : S) → IsS s → ⊥) × (x ≡ default)) ⊎ Through x

  absent : (s : S) → none_at ≡ some_at s → ⊥
  absent s e = absurd cc

  the_one : (s t : S) → some_at s ≡ some_at t → s ≡ t
  the_one s t e = cc

  via_none : ((s : S) → IsS s → ⊥) → Reports Through NoneOr (Err faults.Form)
  via_none none = ((λ x h. none h.0 h.1), inl (refl, none), refl, λ g h. only g h)
    where
      only : (g : LineFault) → NoneOr g → (g ≡ faults.Form) ⊎ (rank faults.Form < rank g)
      only g (inl h) = inl h.0
      only g (inr h) = absurd (none h.0 h.1)

  via_some : (s : S) → IsS s → ((t : S) → IsS t → t ≡ s) → (r : Result A LineFault) → Reports (Js s) (Gas s) r → Reports Through NoneOr r
  via_some s is same (Ok x) t = ((s, is, t.0), (λ y h. t.1 y (subst (λ (q : S). Js q y) (same h.0 h.1) h.2)), λ f h. never f h)
    where
      never : (f : LineFault) → NoneOr f → ⊥
      never f (inl h) = h.1 s is
      never f (inr h) = t.2 f (subst (λ (q : S). Gas q f) (same h.0 h.1) h.2)
  via_some s is same (Err f) t = ((λ x h. t.0 x (subst (λ (q : S). Js q x) (same h.0 h.1) h.2)), inr (s, is, t.1), t.2, λ g h. first g h)
    where
      first : (g : LineFault) → NoneOr g → (g ≡ f) ⊎ (rank f < rank g)
      first g (inl h) = absurd (h.1 s is)
      first g (inr h) = t.3 g (subst (λ (q : S). Gas q g) (same h.0 h.1) h.2)

  pub told_via : (o : Option S) (k : Option S → Result A LineFault) → k None ≡ Err faults.Form → ((s : S) → o ≡ Some s → IsS s) → ((s : S) → IsS s → o ≡ Some s) → ((s : S) → Reports (Js s) (Gas s) (k (Some s))) → Reports Through NoneOr (k o)
  told_via None k e found read more = subst (Reports Through NoneOr) (sym e) (via_none (λ s h. absent s (read s h)))
  told_via (Some s) k e found read more = via_some s (found s refl) (λ t h. the_one t s (sym (read t h))) (k (Some s)) (more s)

  or_none : (default : A) → ((s : S) → IsS s → ⊥) → Reports (DefaultOr default) HasThrough (Ok default)
  or_none default none = (inl (none, refl), (λ y h. same y h), λ f h. none h.0 h.1)
    where
      same : (y : A) → DefaultOr default y → y ≡ default
      same y (inl h) = h.1
      same y (inr h) = absurd (none h.0 h.1)

  or_some : (default : A) (s : S) → IsS s → ((t : S) → IsS t → t ≡ s) → (r : Result A LineFault) → Reports (Js s) (Gas s) r → Reports (DefaultOr default) HasThrough r
  or_some default s is same (Ok x) t = (inr (s, is, t.0), (λ y h. one y h), λ f h. t.2 f (subst (λ (q : S). Gas q f) (same h.0 h.1) h.2))
    where
      one : (y : A) → DefaultOr default y → y ≡ x
      one y (inl h) = absurd (h.0 s is)
      one y (inr h) = t.1 y (subst (λ (q : S). Js q y) (same h.0 h.1) h.2)
  or_some default s is same (Err f) t = ((λ x h. never x h), (s, is, t.1), t.2, λ g h. t.3 g (subst (λ (q : S). Gas q g) (same h.0 h.1) h.2))
    where
      never : (x : A) → DefaultOr default x → ⊥
      never x (inl h) = h.0 s is
      never x (inr h) = t.0 x (subst (λ (q : S). Js q x) (same h.0 h.1) h.2)

  pub told_or : (default : A) (o : Option S) (k : Option S → Result A LineFault) → k None ≡ Ok default → ((s : S) → o ≡ Some s → IsS s) → ((s : S) → IsS s → o ≡ Some s) → ((s : S) → Reports (Js s) (Gas s) (k (Some s))) → Reports (DefaultOr default) HasThrough (k o)
  told_or default None k e found read more = subst (Reports (DefaultOr default) HasThrough) (sym e) (or_none default (λ s h. absent s (read s h)))
  told_or default (Some s) k e found read more = or_some default s (found s refl) (λ t h. the_one t s (sym (read t h))) (k (Some s)) (more s)

-- ---- one part behind another that has the fault Form alone

module _ {A B : Type 0} (Is : A → Type 0) (Has : LineFault → Type 0) (Js : A → B → Type 0) (Gas : LineFault → Type 0) (only : (f : LineFault) → Has f → f ≡ faults.Form) (later : (f : LineFault) → Gas f → (f ≡ faults.Form) ⊎ (rank faults.Form < rank f)) where
  abbrev pub AreNext : B → Type 0
  AreNext y = (x : A) × Is x × Js x y

  abbrev pub HasNext : LineFault → Type 0
  HasNext f = Has f ⊎ Gas f

  next_some : (x : A) → Is x → ((z : A) → Is z → z ≡ x) → ((f : LineFault) → Has f → ⊥) → (r : Result B LineFault) → Reports (Js x) Gas r → Reports AreNext HasNext r
  next_some x is same none (Ok y) t = ((x, is, t.0), (λ z h. t.1 z (subst (λ (q : A). Js q z) (same h.0 h.1) h.2)), λ f h. never f h)
    where
      never : (f : LineFault) → HasNext f → ⊥
      never f (inl h) = none f h
      never f (inr h) = t.2 f h
  next_some x is same none (Err f) t = ((λ z h. t.0 z (subst (λ (q : A). Js q z) (same h.0 h.1) h.2)), inr t.1, t.2, λ g h. first g h)
    where
      first : (g : LineFault) → HasNext g → (g ≡ f) ⊎ (rank f < rank g)
      first g (inl h) = absurd (none g h)
      first g (inr h) = t.3 g h

  next_none : (f : LineFault) → Reports Is Has (Err f) → Reports AreNext HasNext (Err f)
  next_none f t = ((λ z h. t.0 h.0 h.1), inl t.1, t.2, λ g h. first g h)
    where
      first : (g : LineFault) → HasNext g → (g ≡ f) ⊎ (rank f < rank g)
      first g (inl h) = t.3 g h
      first g (inr h) = subst (λ (x : LineFault). (g ≡ x) ⊎ (rank x < rank g)) (sym (only f t.1)) (later g h)

  pub told_next : (r : Result A LineFault) (next : A → Result B LineFault) → Reports Is Has r → ((x : A) → Reports (Js x) Gas (next x)) → Reports AreNext HasNext (and_then r next)
  told_next (Ok x) next t more = next_some x t.0 t.1 t.2 (next x) (more x)
  told_next (Err f) next t more = next_none f t
