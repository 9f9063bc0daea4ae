-- Queues by when they came, as entries by name.
use Rattle.std.proofs.Common.{◌≡◌, ℕ, ◌<◌, Bool, true, false, List, [], ◌∷◌, Option, Some, None, refl, sym, ap, subst, ◌∙◌, arith}
use Rattle.std.specs.Prelude.{if◌then◌else◌}
use Rattle.std.specs.List.{AllByRecursion, IsDistinct}
use Rattle.std.specs.List.Sorted.{IsStrictlySortedBy}
use Rattle.std.specs.Map.{keys_of, lookup, remove_entry, set_value}
use Rattle.std.specs.BTreeMap.{insert_entry, is_at}
use Rattle.std.specs.Ordering.{nat_cmp, is_eq}
use Rattle.std.specs.Str.{bytes_eq}
use Rattle.std.specs.declared.cmp.Ordering.TheVariants.{Less, Greater}
use Rattle.std.proofs.lemmas.Slice.Eq.{bytes_eq-Decides}
use Rattle.std.proofs.lemmas.Map.{keys-set_value}
use Rattle.std.proofs.lemmas.Map.Steps.{set_value_same}
use Rattle.indexmap.specs.IndexMap.{insert_entry as named_entry}
use Rattle.mq_queue.specs.declared.row.Row.{Row}
use Rattle.mq_shelves.specs.declared.rack.Stand.{Stand}
use Rattle.mq_shelves.specs.declared.slots.Slot.{Slot}
use Rattle.mq_shelves.specs.Slots.{slot_entry, slot_entries, place_if, place_of, IsSlot, AreSlots}

some_is : {A : Type 0} (x y : A) → Some x ≡ Some y → x ≡ y
some_is x y e = cc e

same_name : (xs ys : List ℕ) → bytes_eq xs ys ≡ true → xs ≡ ys
same_name xs ys e = (bytes_eq-Decides xs ys).0 e

name_itself : (xs : List ℕ) → bytes_eq xs xs ≡ true
name_itself xs = (bytes_eq-Decides xs xs).1 refl

cmp_itself : (n : ℕ) → is_eq (nat_cmp n n) ≡ true
cmp_itself n = search arith

cmp_is : (m n : ℕ) → is_eq (nat_cmp m n) ≡ true → m ≡ n
cmp_is m n e = search arith

-- a slot that is found by its number has the name
pub record There (name : List ℕ) (b : ℕ) (es : List (ℕ × Slot)) : Type 0 where
  pub slot : Slot
  pub found : lookup (is_at (nat_cmp b)) es ≡ Some slot
  pub named : slot.name ≡ name

there_if : (name : List ℕ) (c b : ℕ) (es : List (ℕ × Slot)) (o : Option Slot) → lookup (is_at (nat_cmp c)) es ≡ o → place_if name c o ≡ Some b → (c ≡ b) × There name b es
there_if name c b es None f e = absurd (cc e)
there_if name c b es (Some slot) f e = by (bytes_eq name slot.name) refl e
  where
    by : (t : Bool) → bytes_eq name slot.name ≡ t → (if t then Some c else None) ≡ Some b → (c ≡ b) × There name b es
    by true g h =
        let is : c ≡ b = cc h in
        (is, record { slot = slot; found = subst (λ (n : ℕ). lookup (is_at (nat_cmp n)) es ≡ Some slot) is f; named = sym (same_name name slot.name g) })
    by false g h = absurd (cc h)

module _ (born : List ℕ → Option ℕ) (next : ℕ) (name : List ℕ) where
  there_by : (o : Option ℕ) (b : ℕ) (es : List (ℕ × Slot)) → place_of o es name ≡ Some b → (o ≡ Some b) × There name b es
  there_by None b es e = absurd (cc e)
  there_by (Some c) b es e =
      let t = there_if name c b es (lookup (is_at (nat_cmp c)) es) refl e in
      (ap (λ (n : ℕ). Some n) t.0, t.1)

  pub there : (b : ℕ) (es : List (ℕ × Slot)) → place_of (born name) es name ≡ Some b → (born name ≡ Some b) × There name b es
  there b es e = there_by (born name) b es e

  -- an entry of the name has the number that is noted
  number_of : (e : ℕ × Slot) → IsSlot born next e → bytes_eq name e.1.name ≡ true → born name ≡ Some e.0
  number_of e s t = subst (λ (n : List ℕ). born n ≡ Some e.0) (sym (same_name name e.1.name t)) s.noted

  module _ (b : ℕ) (is : born name ≡ Some b) where
    -- the first entry of the name is that of the number
    same_entry : (e : ℕ × Slot) → IsSlot born next e → (t : Bool) → bytes_eq name e.1.name ≡ t → (u : Bool) → is_eq (nat_cmp b e.0) ≡ u → t ≡ true → u ≡ true
    same_entry e s t f true g h = refl
    same_entry e s t f false g h =
        let at : b ≡ e.0 = some_is b e.0 (sym is ∙ number_of e s (f ∙ h)) in
        absurd (cc (g, sym (ap (λ (n : ℕ). is_eq (nat_cmp b n)) at), cmp_itself b))

    found_step : (e : ℕ × Slot) (es : List (ℕ × Slot)) (slot : Slot) → IsSlot born next e → (t u : Bool) → bytes_eq name e.1.name ≡ t → is_eq (nat_cmp b e.0) ≡ u → slot.name ≡ name
        → (lookup (is_at (nat_cmp b)) es ≡ Some slot → lookup (bytes_eq name) (slot_entries es) ≡ Some slot.rack)
        → lookup (is_at (nat_cmp b)) (e ∷ es) ≡ Some slot → lookup (bytes_eq name) (slot_entries (e ∷ es)) ≡ Some slot.rack
    found_step e es slot s true true f g n ih h =
        let here : e.1 ≡ slot = some_is e.1 slot (ap (λ (v : Bool). if v then Some e.1 else lookup (is_at (nat_cmp b)) es) (sym g) ∙ h) in
        ap (λ (v : Bool). if v then Some e.1.rack else lookup (bytes_eq name) (slot_entries es)) f ∙ ap (λ (x : Slot). Some x.rack) here
    found_step e es slot s true false f g n ih h = absurd (cc (same_entry e s true f false g refl))
    found_step e es slot s false true f g n ih h =
        let here : e.1 ≡ slot = some_is e.1 slot (ap (λ (v : Bool). if v then Some e.1 else lookup (is_at (nat_cmp b)) es) (sym g) ∙ h) in
        absurd (cc (f, sym (name_itself name), ap (λ (x : Slot). bytes_eq name x.name) here ∙ ap (bytes_eq name) n))
    found_step e es slot s false false f g n ih h =
        ap (λ (v : Bool). if v then Some e.1.rack else lookup (bytes_eq name) (slot_entries es)) f
        ∙ ih (ap (λ (v : Bool). if v then Some e.1 else lookup (is_at (nat_cmp b)) es) (sym g) ∙ h)

    pub rack_found : (es : List (ℕ × Slot)) (slot : Slot) → AllByRecursion (IsSlot born next) es → slot.name ≡ name → lookup (is_at (nat_cmp b)) es ≡ Some slot → lookup (bytes_eq name) (slot_entries es) ≡ Some slot.rack
    rack_found [] slot h n e = absurd (cc e)
    rack_found (e ∷ es) slot h n f = found_step e es slot h.0 (bytes_eq name e.1.name) (is_eq (nat_cmp b e.0)) refl refl n (rack_found es slot h.1 n) f

    -- the slot of the number is changed just where the entry of the name is
    set_step : (e : ℕ × Slot) (es : List (ℕ × Slot)) (slot new : Slot) → IsSlot born next e → (t u : Bool) → bytes_eq name e.1.name ≡ t → is_eq (nat_cmp b e.0) ≡ u → slot.name ≡ name → new.name ≡ name
        → (lookup (is_at (nat_cmp b)) es ≡ Some slot → slot_entries (set_value (is_at (nat_cmp b)) es new) ≡ set_value (bytes_eq name) (slot_entries es) new.rack)
        → lookup (is_at (nat_cmp b)) (e ∷ es) ≡ Some slot → slot_entries (set_value (is_at (nat_cmp b)) (e ∷ es) new) ≡ set_value (bytes_eq name) (slot_entries (e ∷ es)) new.rack
    set_step e es slot new s true true f g n m ih h = rw (f, g) (ap (λ (x : List ℕ). (x, new.rack) ∷ slot_entries es) (m ∙ same_name name e.1.name f))
    set_step e es slot new s true false f g n m ih h = absurd (cc (same_entry e s true f false g refl))
    set_step e es slot new s false true f g n m ih h =
        let here : e.1 ≡ slot = some_is e.1 slot (ap (λ (v : Bool). if v then Some e.1 else lookup (is_at (nat_cmp b)) es) (sym g) ∙ h) in
        absurd (cc (f, sym (name_itself name), ap (λ (x : Slot). bytes_eq name x.name) here ∙ ap (bytes_eq name) n))
    set_step e es slot new s false false f g n m ih h =
        rw (f, g) (ap (λ (xs : List (List ℕ × List (Stand × Row))). slot_entry e ∷ xs) (ih (ap (λ (v : Bool). if v then Some e.1 else lookup (is_at (nat_cmp b)) es) (sym g) ∙ h)))

    pub rack_set : (es : List (ℕ × Slot)) (slot new : Slot) → AllByRecursion (IsSlot born next) es → slot.name ≡ name → new.name ≡ name → lookup (is_at (nat_cmp b)) es ≡ Some slot
        → slot_entries (set_value (is_at (nat_cmp b)) es new) ≡ set_value (bytes_eq name) (slot_entries es) new.rack
    rack_set [] slot new h n m f = absurd (cc f)
    rack_set (e ∷ es) slot new h n m f = set_step e es slot new h.0 (bytes_eq name e.1.name) (is_eq (nat_cmp b e.0)) refl refl n m (rack_set es slot new h.1 n m) f

    -- and goes where it does
    gone_step : (e : ℕ × Slot) (es : List (ℕ × Slot)) (slot : Slot) → IsSlot born next e → (t u : Bool) → bytes_eq name e.1.name ≡ t → is_eq (nat_cmp b e.0) ≡ u → slot.name ≡ name
        → (lookup (is_at (nat_cmp b)) es ≡ Some slot → slot_entries (remove_entry (is_at (nat_cmp b)) es) ≡ remove_entry (bytes_eq name) (slot_entries es))
        → lookup (is_at (nat_cmp b)) (e ∷ es) ≡ Some slot → slot_entries (remove_entry (is_at (nat_cmp b)) (e ∷ es)) ≡ remove_entry (bytes_eq name) (slot_entries (e ∷ es))
    gone_step e es slot s true true f g n ih h = rw (f, g) refl
    gone_step e es slot s true false f g n ih h = absurd (cc (same_entry e s true f false g refl))
    gone_step e es slot s false true f g n ih h =
        let here : e.1 ≡ slot = some_is e.1 slot (ap (λ (v : Bool). if v then Some e.1 else lookup (is_at (nat_cmp b)) es) (sym g) ∙ h) in
        absurd (cc (f, sym (name_itself name), ap (λ (x : Slot). bytes_eq name x.name) here ∙ ap (bytes_eq name) n))
    gone_step e es slot s false false f g n ih h =
        rw (f, g) (ap (λ (xs : List (List ℕ × List (Stand × Row))). slot_entry e ∷ xs) (ih (ap (λ (v : Bool). if v then Some e.1 else lookup (is_at (nat_cmp b)) es) (sym g) ∙ h)))

    pub rack_gone : (es : List (ℕ × Slot)) (slot : Slot) → AllByRecursion (IsSlot born next) es → slot.name ≡ name → lookup (is_at (nat_cmp b)) es ≡ Some slot
        → slot_entries (remove_entry (is_at (nat_cmp b)) es) ≡ remove_entry (bytes_eq name) (slot_entries es)
    rack_gone [] slot h n f = absurd (cc f)
    rack_gone (e ∷ es) slot h n f = gone_step e es slot h.0 (bytes_eq name e.1.name) (is_eq (nat_cmp b e.0)) refl refl n (rack_gone es slot h.1 n) f

    -- behind the slot of the number no entry has the name
    later_none : (here : ℕ) (es : List (ℕ × Slot)) → here ≡ b → AllByRecursion (λ (k : ℕ). nat_cmp here k ≡ Less) (keys_of es) → AllByRecursion (IsSlot born next) es → lookup (bytes_eq name) (slot_entries es) ≡ None
    later_none here [] is_ less h = refl
    later_none here (e ∷ es) is_ less h =
        let apart : bytes_eq name e.1.name ≡ false = unlike (bytes_eq name e.1.name) refl in
        ap (λ (v : Bool). if v then Some e.1.rack else lookup (bytes_eq name) (slot_entries es)) apart ∙ later_none here es is_ less.1 h.1
      where
        unlike : (t : Bool) → bytes_eq name e.1.name ≡ t → t ≡ false
        unlike false f = refl
        unlike true f =
            let at : b ≡ e.0 = some_is b e.0 (sym is ∙ number_of e h.0 f) in
            let same : here ≡ e.0 = is_ ∙ at in
            absurd (cc (sym (ap is_eq less.0), ap (λ (n : ℕ). is_eq (nat_cmp here n)) (sym same), cmp_itself here))

    none_step : (e : ℕ × Slot) (es : List (ℕ × Slot)) → IsSlot born next e → AllByRecursion (IsSlot born next) es → AllByRecursion (λ (k : ℕ). nat_cmp e.0 k ≡ Less) (keys_of es)
        → (t u : Bool) → bytes_eq name e.1.name ≡ t → is_eq (nat_cmp b e.0) ≡ u
        → (place_if name b (lookup (is_at (nat_cmp b)) es) ≡ None → lookup (bytes_eq name) (slot_entries es) ≡ None)
        → place_if name b (lookup (is_at (nat_cmp b)) (e ∷ es)) ≡ None → lookup (bytes_eq name) (slot_entries (e ∷ es)) ≡ None
    none_step e es s h less true true f g ih p =
        let found : lookup (is_at (nat_cmp b)) (e ∷ es) ≡ Some e.1 = ap (λ (v : Bool). if v then Some e.1 else lookup (is_at (nat_cmp b)) es) g in
        absurd (cc (p, ap (place_if name b) found, ap (λ (v : Bool). if v then Some b else None) f))
    none_step e es s h less true false f g ih p = absurd (cc (same_entry e s true f false g refl))
    none_step e es s h less false true f g ih p =
        ap (λ (v : Bool). if v then Some e.1.rack else lookup (bytes_eq name) (slot_entries es)) f ∙ later_none e.0 es (sym (cmp_is b e.0 g)) less h
    none_step e es s h less false false f g ih p =
        ap (λ (v : Bool). if v then Some e.1.rack else lookup (bytes_eq name) (slot_entries es)) f
        ∙ ih (ap (place_if name b) (sym (ap (λ (v : Bool). if v then Some e.1 else lookup (is_at (nat_cmp b)) es) g)) ∙ p)

    none_by : (es : List (ℕ × Slot)) → AllByRecursion (IsSlot born next) es → IsStrictlySortedBy nat_cmp (keys_of es) → place_if name b (lookup (is_at (nat_cmp b)) es) ≡ None → lookup (bytes_eq name) (slot_entries es) ≡ None
    unfolding IsStrictlySortedBy
    none_by [] h s p = refl
    none_by (e ∷ es) h s p = none_step e es h.0 h.1 s.0 (bytes_eq name e.1.name) (is_eq (nat_cmp b e.0)) refl refl (none_by es h.1 s.1) p

  unborn_none : born name ≡ None → (es : List (ℕ × Slot)) → AllByRecursion (IsSlot born next) es → lookup (bytes_eq name) (slot_entries es) ≡ None
  unborn_none is [] h = refl
  unborn_none is (e ∷ es) h = ap (λ (v : Bool). if v then Some e.1.rack else lookup (bytes_eq name) (slot_entries es)) (unlike (bytes_eq name e.1.name) refl) ∙ unborn_none is es h.1
    where
      unlike : (t : Bool) → bytes_eq name e.1.name ≡ t → t ≡ false
      unlike false f = refl
      unlike true f = absurd (cc (is, number_of e h.0 f))

  -- where no slot is found no entry has the name
  pub none_there : (es : List (ℕ × Slot)) → AreSlots born next es → place_of (born name) es name ≡ None → lookup (bytes_eq name) (slot_entries es) ≡ None
  none_there es s p = by (born name) refl
    where
      by : (o : Option ℕ) → born name ≡ o → lookup (bytes_eq name) (slot_entries es) ≡ None
      by None e = unborn_none e es s.each
      by (Some b) e = none_by b e es s.each s.sorted (ap (λ (o : Option ℕ). place_of o es name) (sym e) ∙ p)

-- ---- a queue that is new stands last

cmp_greater : (m n : ℕ) → n < m → nat_cmp m n ≡ Greater
cmp_greater m n lt = search arith

module _ (born : List ℕ → Option ℕ) (next : ℕ) (name : List ℕ) (new : Slot) where
  last_step : (e : ℕ × Slot) (es : List (ℕ × Slot)) → e.0 < next → new.name ≡ name → (t : Bool) → bytes_eq name e.1.name ≡ t
      → (lookup (bytes_eq name) (slot_entries es) ≡ None → slot_entries (insert_entry nat_cmp es next new) ≡ named_entry bytes_eq (slot_entries es) name new.rack)
      → lookup (bytes_eq name) (slot_entries (e ∷ es)) ≡ None → slot_entries (insert_entry nat_cmp (e ∷ es) next new) ≡ named_entry bytes_eq (slot_entries (e ∷ es)) name new.rack
  last_step e es lt is true f ih h = absurd (cc (h, ap (λ (v : Bool). if v then Some e.1.rack else lookup (bytes_eq name) (slot_entries es)) f))
  last_step e es lt is false f ih h =
      rw (cmp_greater next e.0 lt, f)
      (ap (λ (xs : List (List ℕ × List (Stand × Row))). slot_entry e ∷ xs) (ih (sym (ap (λ (v : Bool). if v then Some e.1.rack else lookup (bytes_eq name) (slot_entries es)) f) ∙ h)))

  pub slot_last : (es : List (ℕ × Slot)) → AllByRecursion (IsSlot born next) es → new.name ≡ name → lookup (bytes_eq name) (slot_entries es) ≡ None
      → slot_entries (insert_entry nat_cmp es next new) ≡ named_entry bytes_eq (slot_entries es) name new.rack
  slot_last [] h is none = ap (λ (x : List ℕ). (x, new.rack) ∷ []) is
  slot_last (e ∷ es) h is none = last_step e es h.0.came is (bytes_eq name e.1.name) refl (slot_last es h.1 is) none

  -- one that is there stays at its place
  there_step : (e : List ℕ × List (Stand × Row)) (es : List (List ℕ × List (Stand × Row))) (rows more : List (Stand × Row)) (t : Bool) → bytes_eq name e.0 ≡ t
      → (lookup (bytes_eq name) es ≡ Some rows → set_value (bytes_eq name) es more ≡ named_entry bytes_eq es name more)
      → lookup (bytes_eq name) (e ∷ es) ≡ Some rows → set_value (bytes_eq name) (e ∷ es) more ≡ named_entry bytes_eq (e ∷ es) name more
  there_step e es rows more true f ih h = rw f refl
  there_step e es rows more false f ih h =
      rw f (ap (λ (xs : List (List ℕ × List (Stand × Row))). e ∷ xs) (ih (sym (ap (λ (v : Bool). if v then Some e.1 else lookup (bytes_eq name) es) f) ∙ h)))

  pub entry_there : (es : List (List ℕ × List (Stand × Row))) (rows more : List (Stand × Row)) → lookup (bytes_eq name) es ≡ Some rows → set_value (bytes_eq name) es more ≡ named_entry bytes_eq es name more
  entry_there [] rows more h = absurd (cc h)
  entry_there (e ∷ es) rows more h = there_step e es rows more (bytes_eq name e.0) refl (entry_there es rows more) h

-- ---- what is kept of slots

module _ (born : List ℕ → Option ℕ) (next b : ℕ) where
  set_kept_step : (e : ℕ × Slot) (es : List (ℕ × Slot)) (slot new : Slot) → IsSlot born next e → AllByRecursion (IsSlot born next) es → new.name ≡ slot.name → (u : Bool) → is_eq (nat_cmp b e.0) ≡ u
      → (lookup (is_at (nat_cmp b)) es ≡ Some slot → AllByRecursion (IsSlot born next) (set_value (is_at (nat_cmp b)) es new))
      → lookup (is_at (nat_cmp b)) (e ∷ es) ≡ Some slot → AllByRecursion (IsSlot born next) (set_value (is_at (nat_cmp b)) (e ∷ es) new)
  set_kept_step e es slot new s h n true g ih f =
      let here : e.1 ≡ slot = some_is e.1 slot (ap (λ (v : Bool). if v then Some e.1 else lookup (is_at (nat_cmp b)) es) (sym g) ∙ f) in
      let named : e.1.name ≡ new.name = ap (λ (x : Slot). x.name) here ∙ sym n in
      rw g (record { noted = subst (λ (x : List ℕ). born x ≡ Some e.0) named s.noted; came = s.came }, h)
  set_kept_step e es slot new s h n false g ih f = rw g (s, ih (ap (λ (v : Bool). if v then Some e.1 else lookup (is_at (nat_cmp b)) es) (sym g) ∙ f))

  set_kept : (es : List (ℕ × Slot)) (slot new : Slot) → AllByRecursion (IsSlot born next) es → new.name ≡ slot.name → lookup (is_at (nat_cmp b)) es ≡ Some slot → AllByRecursion (IsSlot born next) (set_value (is_at (nat_cmp b)) es new)
  set_kept [] slot new h n f = absurd (cc f)
  set_kept (e ∷ es) slot new h n f = set_kept_step e es slot new h.0 h.1 n (is_eq (nat_cmp b e.0)) refl (set_kept es slot new h.1 n) f

  pub slots_set : (es ms : List (ℕ × Slot)) (slot new : Slot) → AreSlots born next es → new.name ≡ slot.name → lookup (is_at (nat_cmp b)) es ≡ Some slot → ms ≡ set_value (is_at (nat_cmp b)) es new → AreSlots born next ms
  slots_set es ms slot new s n f is = record {
    each = subst (AllByRecursion (IsSlot born next)) (sym is) (set_kept es slot new s.each n f);
    sorted = subst (IsStrictlySortedBy nat_cmp) (sym (ap keys_of is ∙ keys-set_value (is_at (nat_cmp b)) es new)) s.sorted;
  }

  gone_kept_step : (e : ℕ × Slot) (es : List (ℕ × Slot)) → IsSlot born next e → AllByRecursion (IsSlot born next) es → (u : Bool) → is_eq (nat_cmp b e.0) ≡ u
      → AllByRecursion (IsSlot born next) (remove_entry (is_at (nat_cmp b)) es) → AllByRecursion (IsSlot born next) (remove_entry (is_at (nat_cmp b)) (e ∷ es))
  gone_kept_step e es s h true g ih = rw g h
  gone_kept_step e es s h false g ih = rw g (s, ih)

  pub gone_kept : (es : List (ℕ × Slot)) → AllByRecursion (IsSlot born next) es → AllByRecursion (IsSlot born next) (remove_entry (is_at (nat_cmp b)) es)
  gone_kept [] h = tt
  gone_kept (e ∷ es) h = gone_kept_step e es h.0 h.1 (is_eq (nat_cmp b e.0)) refl (gone_kept es h.1)

-- ---- names are told apart

module _ (born : List ℕ → Option ℕ) (next : ℕ) where
  unlike_later : (e : ℕ × Slot) → IsSlot born next e → (es : List (ℕ × Slot)) → AllByRecursion (IsSlot born next) es → AllByRecursion (λ (k : ℕ). nat_cmp e.0 k ≡ Less) (keys_of es)
      → AllByRecursion (λ (n : List ℕ). bytes_eq e.1.name n ≡ false) (keys_of (slot_entries es))
  unlike_later e s [] h less = tt
  unlike_later e s (x ∷ xs) h less = (by (bytes_eq e.1.name x.1.name) refl, unlike_later e s xs h.1 less.1)
    where
      by : (t : Bool) → bytes_eq e.1.name x.1.name ≡ t → t ≡ false
      by false f = refl
      by true f =
          let at : e.0 ≡ x.0 = some_is e.0 x.0 (sym s.noted ∙ ap born (same_name e.1.name x.1.name f) ∙ h.0.noted) in
          absurd (cc (sym (ap is_eq less.0), ap (λ (n : ℕ). is_eq (nat_cmp e.0 n)) (sym at), cmp_itself e.0))

  names_by : (es : List (ℕ × Slot)) → AllByRecursion (IsSlot born next) es → IsStrictlySortedBy nat_cmp (keys_of es) → IsDistinct bytes_eq (keys_of (slot_entries es))
  unfolding IsStrictlySortedBy IsDistinct
  names_by [] h s = tt
  names_by (e ∷ es) h s = (unlike_later e h.0 es h.1 s.0, names_by es h.1 s.1)

  pub names_apart : (es : List (ℕ × Slot)) → AreSlots born next es → IsDistinct bytes_eq (keys_of (slot_entries es))
  names_apart es s = names_by es s.each s.sorted

-- ---- one more

module _ (born now : List ℕ → Option ℕ) (next later : ℕ) (name : List ℕ) (new : Slot) (noted_as : (other : List ℕ) → now other ≡ (if bytes_eq name other then Some next else born other)) (lt : next < later) (named : new.name ≡ name) where
  still : (e : ℕ × Slot) → IsSlot born next e → bytes_eq name e.1.name ≡ false → IsSlot now later e
  still e s f = record { noted = noted_as e.1.name ∙ ap (λ (t : Bool). if t then Some next else born e.1.name) f ∙ s.noted; came = omega (arith, s.came, lt) }

  more_step : (e : ℕ × Slot) (es : List (ℕ × Slot)) → IsSlot born next e → (t : Bool) → bytes_eq name e.1.name ≡ t
      → (lookup (bytes_eq name) (slot_entries es) ≡ None → AllByRecursion (IsSlot now later) (insert_entry nat_cmp es next new))
      → lookup (bytes_eq name) (slot_entries (e ∷ es)) ≡ None → AllByRecursion (IsSlot now later) (insert_entry nat_cmp (e ∷ es) next new)
  more_step e es s true f ih h = absurd (cc (h, ap (λ (v : Bool). if v then Some e.1.rack else lookup (bytes_eq name) (slot_entries es)) f))
  more_step e es s false f ih h = rw (cmp_greater next e.0 s.came)
      (still e s f, ih (sym (ap (λ (v : Bool). if v then Some e.1.rack else lookup (bytes_eq name) (slot_entries es)) f) ∙ h))

  more_each : (es : List (ℕ × Slot)) → AllByRecursion (IsSlot born next) es → lookup (bytes_eq name) (slot_entries es) ≡ None → AllByRecursion (IsSlot now later) (insert_entry nat_cmp es next new)
  more_each [] h none = (
    record { noted = noted_as new.name ∙ ap (λ (t : Bool). if t then Some next else born new.name) (ap (bytes_eq name) named ∙ name_itself name); came = lt },
    tt,
  )
  more_each (e ∷ es) h none = more_step e es h.0 (bytes_eq name e.1.name) refl (more_each es h.1) none

  pub slots_more : (es ms : List (ℕ × Slot)) → AreSlots born next es → lookup (bytes_eq name) (slot_entries es) ≡ None → ms ≡ insert_entry nat_cmp es next new → IsStrictlySortedBy nat_cmp (keys_of ms) → AreSlots now later ms
  slots_more es ms s none is sorted = record { each = subst (AllByRecursion (IsSlot now later)) (sym is) (more_each es s.each none); sorted = sorted }

-- ---- what is noted of names

module _ (born now : List ℕ → Option ℕ) (next : ℕ) (same : (other : List ℕ) → now other ≡ born other) where
  same_each : (es : List (ℕ × Slot)) → AllByRecursion (IsSlot born next) es → AllByRecursion (IsSlot now next) es
  same_each [] h = tt
  same_each (e ∷ es) h = (record { noted = same e.1.name ∙ h.0.noted; came = h.0.came }, same_each es h.1)

  -- the same
  pub slots_same : (es : List (ℕ × Slot)) → AreSlots born next es → AreSlots now next es
  slots_same es s = record { each = same_each es s.each; sorted = s.sorted }

module _ (born now : List ℕ → Option ℕ) (next later : ℕ) (name : List ℕ) (is : (other : List ℕ) → now other ≡ (if bytes_eq name other then Some next else born other)) (lt : next < later) where
  -- more of a name that no queue has
  noted_step : (e : ℕ × Slot) (es : List (ℕ × Slot)) → IsSlot born next e → (t : Bool) → bytes_eq name e.1.name ≡ t → (lookup (bytes_eq name) (slot_entries es) ≡ None → AllByRecursion (IsSlot now later) es)
      → lookup (bytes_eq name) (slot_entries (e ∷ es)) ≡ None → AllByRecursion (IsSlot now later) (e ∷ es)
  noted_step e es s true f ih h = absurd (cc (h, ap (λ (v : Bool). if v then Some e.1.rack else lookup (bytes_eq name) (slot_entries es)) f))
  noted_step e es s false f ih h = (
    record { noted = is e.1.name ∙ ap (λ (t : Bool). if t then Some next else born e.1.name) f ∙ s.noted; came = omega (arith, s.came, lt) },
    ih (sym (ap (λ (v : Bool). if v then Some e.1.rack else lookup (bytes_eq name) (slot_entries es)) f) ∙ h),
  )

  noted_each : (es : List (ℕ × Slot)) → AllByRecursion (IsSlot born next) es → lookup (bytes_eq name) (slot_entries es) ≡ None → AllByRecursion (IsSlot now later) es
  noted_each [] h none = tt
  noted_each (e ∷ es) h none = noted_step e es h.0 (bytes_eq name e.1.name) refl (noted_each es h.1) none

  pub slots_noted : (es ms : List (ℕ × Slot)) → AreSlots born next es → lookup (bytes_eq name) (slot_entries es) ≡ None → ms ≡ es → AreSlots now later ms
  slots_noted es ms s none same = subst (AreSlots now later) (sym same) (record { each = noted_each es s.each none; sorted = s.sorted })

-- ---- the slot that is found

-- the names stay apart where nothing is done
pub names_stay : (born : List ℕ → Option ℕ) (next : ℕ) (es : List (ℕ × Slot)) (was : List (List ℕ × List (Stand × Row))) → AreSlots born next es → slot_entries es ≡ was → IsDistinct bytes_eq (keys_of was)
names_stay born next es was s view = subst (λ (v : List (List ℕ × List (Stand × Row))). IsDistinct bytes_eq (keys_of v)) view (names_apart born next es s)

pub none_seen : (born : List ℕ → Option ℕ) (next : ℕ) (name : List ℕ) (es : List (ℕ × Slot)) (was : List (List ℕ × List (Stand × Row))) → AreSlots born next es → slot_entries es ≡ was
    → place_of (born name) es name ≡ None → lookup (bytes_eq name) was ≡ None
none_seen born next name es was s view e = ap (lookup (bytes_eq name)) (sym view) ∙ none_there born next name es s e

module _ (born : List ℕ → Option ℕ) (next : ℕ) (name : List ℕ) (b : ℕ) (es : List (ℕ × Slot)) (was : List (List ℕ × List (Stand × Row))) (s : AreSlots born next es) (view : slot_entries es ≡ was)
    (t : (born name ≡ Some b) × There name b es) where
  -- its rows are those that are seen under the name
  pub rows_seen : lookup (bytes_eq name) was ≡ Some t.1.slot.rack
  rows_seen = ap (lookup (bytes_eq name)) (sym view) ∙ rack_found born next name b t.0 es t.1.slot s.each t.1.named t.1.found

  pub same_rows : (rows : List (Stand × Row)) → lookup (bytes_eq name) was ≡ Some rows → t.1.slot.rack ≡ rows
  same_rows rows h = some_is t.1.slot.rack rows (sym rows_seen ∙ h)

  module _ (ms : List (ℕ × Slot)) where
    -- it has other rows
    pub now_set : (rack : List (Stand × Row)) → ms ≡ set_value (is_at (nat_cmp b)) es (record t.1.slot { rack = rack }) → slot_entries ms ≡ set_value (bytes_eq name) was rack
    now_set rack is =
        ap slot_entries is ∙ rack_set born next name b t.0 es t.1.slot (record t.1.slot { rack = rack }) s.each t.1.named t.1.named t.1.found
        ∙ ap (λ (v : List (List ℕ × List (Stand × Row))). set_value (bytes_eq name) v rack) view

    pub now_named : (rack : List (Stand × Row)) → ms ≡ set_value (is_at (nat_cmp b)) es (record t.1.slot { rack = rack }) → slot_entries ms ≡ named_entry bytes_eq was name rack
    now_named rack is = now_set rack is ∙ entry_there born next name t.1.slot was t.1.slot.rack rack rows_seen

    pub slots_now : (rack : List (Stand × Row)) × (ms ≡ set_value (is_at (nat_cmp b)) es (record t.1.slot { rack = rack })) → AreSlots born next ms
    slots_now is = slots_set born next b es ms t.1.slot (record t.1.slot { rack = is.0 }) s refl t.1.found is.1

    pub names_now : (rack : List (Stand × Row)) × (ms ≡ set_value (is_at (nat_cmp b)) es (record t.1.slot { rack = rack })) → IsDistinct bytes_eq (keys_of (slot_entries ms))
    names_now is = names_apart born next ms (slots_now is)

    -- it goes
    pub slots_less : ms ≡ remove_entry (is_at (nat_cmp b)) es → IsStrictlySortedBy nat_cmp (keys_of ms) → AreSlots born next ms
    slots_less is sorted = record { each = subst (AllByRecursion (IsSlot born next)) (sym is) (gone_kept born next b es s.each); sorted = sorted }

    pub now_gone : ms ≡ remove_entry (is_at (nat_cmp b)) es → slot_entries ms ≡ remove_entry (bytes_eq name) was
    now_gone is = ap slot_entries is ∙ rack_gone born next name b t.0 es t.1.slot s.each t.1.named t.1.found ∙ ap (remove_entry (bytes_eq name)) view

-- ---- a slot that was lent out

module _ (b : ℕ) (es ms : List (ℕ × Slot)) (was : Slot) (rack : List (Stand × Row)) (is : ms ≡ set_value (is_at (nat_cmp b)) es (record { name = was.name; rack = rack })) (value : Some was ≡ lookup (is_at (nat_cmp b)) es) where
  -- keeps its name
  pub slot_kept : (slot : Slot) → lookup (is_at (nat_cmp b)) es ≡ Some slot → (x : List (Stand × Row)) × (ms ≡ set_value (is_at (nat_cmp b)) es (record slot { rack = x }))
  slot_kept slot h = (rack, is ∙ ap (λ (x : Slot). set_value (is_at (nat_cmp b)) es (record { name = x.name; rack = rack })) (some_is was slot (value ∙ h)))

  -- changes nothing where its rows stay
  pub slot_same : rack ≡ was.rack → ms ≡ es
  slot_same same = is ∙ ap (λ (r : List (Stand × Row)). set_value (is_at (nat_cmp b)) es (record { name = was.name; rack = r })) same ∙ set_value_same (is_at (nat_cmp b)) es was (sym value)

-- where no queue has the name, none goes
none_goes_step : {X : Type 0} (e : List ℕ × X) (es : List (List ℕ × X)) (name : List ℕ) (b : Bool) → bytes_eq name e.0 ≡ b → (lookup (bytes_eq name) es ≡ None → es ≡ remove_entry (bytes_eq name) es)
    → lookup (bytes_eq name) (e ∷ es) ≡ None → e ∷ es ≡ remove_entry (bytes_eq name) (e ∷ es)
none_goes_step {X} e es name true f ih h = absurd (cc (h, ap (λ (v : Bool). if v then Some e.1 else lookup (bytes_eq name) es) f))
none_goes_step {X} e es name false f ih h =
    rw f (ap (λ (xs : List (List ℕ × X)). e ∷ xs) (ih (sym (ap (λ (v : Bool). if v then Some e.1 else lookup (bytes_eq name) es) f) ∙ h)))

pub none_goes : {X : Type 0} (es : List (List ℕ × X)) (name : List ℕ) → lookup (bytes_eq name) es ≡ None → es ≡ remove_entry (bytes_eq name) es
none_goes [] name h = refl
none_goes (e ∷ es) name h = none_goes_step e es name (bytes_eq name e.0) refl (none_goes es name) h
