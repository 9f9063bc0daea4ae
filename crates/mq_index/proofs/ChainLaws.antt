-- Places with keys stay a chain: a key comes at the end, or goes from a place.
use Rattle.std.proofs.Common.{◌≡◌, ℕ, ◌+◌, ◌<◌, ◌≤◌, nat_lt, Bool, true, false, List, [], ◌∷◌, ◌++◌, length, refl, sym, ap, subst, ◌∙◌, arith, inl, inr}
use Rattle.std.specs.Prelude.{◌⊎◌, ◌==◌, IfSome, if◌then◌else◌, Option, Some, None, slice_get, slice_set}
use Rattle.std.proofs.lemmas.Bool.Decides.{nat_tests}
use Rattle.mq_index.specs.declared.keys.Key.{Key}
use Rattle.mq_index.specs.declared.keys.Ends.{Ends}
use Rattle.mq_index.specs.Keys.{same_key}
use Rattle.mq_index.specs.Chains.{IsChain, IsNext, IsPlace, NoneIn, Noted, StandsAt, ends_behind, ends_without, first_in, last_in, past, set_at, upto}
use Rattle.mq_index.proofs.KeyLaws.{key_chain, key_turned}
use Rattle.mq_index.proofs.ListLaws.{get_end, get_more, got_more, long_more, same_or_not, set_here, set_long, set_other, some_is, within}

-- PLACES
clash : {P : Type 0} (b : Bool) → b ≡ true → b ≡ false → P
clash b e f = absurd cc

abbrev Three : ℕ → ℕ → Type 0
Three a b = (a < b) ⊎ ((a ≡ b) ⊎ (b < a))

pub three : (a b : ℕ) → Three a b
three a b = by (nat_lt a b) refl
  where
    is_less : nat_lt a b ≡ true → a < b
    is_less e = grind (arith, nat_tests)

    not_less : nat_lt a b ≡ false → (a ≡ b) ⊎ (b < a)
    not_less e = grind (arith, nat_tests)

    by : (t : Bool) → nat_lt a b ≡ t → Three a b
    by true e = inl (is_less e)
    by false e = inr (not_less e)

pub not_there : {P : Type 0} (key : Key) (at from to : ℕ) (keys : List (Option Key)) → StandsAt key at keys → NoneIn key from to keys → from ≤ at → at < to → P
not_there key at from to keys s h le lt = clash (same_key key s.0) s.2 (h at s.0 le lt s.1)

pub stands_within : (key : Key) (at : ℕ) (keys : List (Option Key)) → StandsAt key at keys → at < length keys
stands_within key at keys s = within keys (Some s.0) at s.1

-- two keys that stand at one place are the same
pub both_stand : (a b : Key) (at : ℕ) (keys : List (Option Key)) → StandsAt a at keys → StandsAt b at keys → same_key a b ≡ true
both_stand a b at keys s t =
    let same : s.0 ≡ t.0 = some_is s.0 t.0 (some_is (Some s.0) (Some t.0) (sym s.1 ∙ t.1)) in
    key_chain a s.0 b s.2 ∙ key_turned s.0 b ∙ ap (same_key b) same ∙ t.2

stands_too : (a b : Key) (at : ℕ) (keys : List (Option Key)) → same_key a b ≡ true → StandsAt a at keys → StandsAt b at keys
stands_too a b at keys e s = (s.0, s.1, sym (key_chain a b s.0 e) ∙ s.2)

place_too : (a b : Key) (keys : List (Option Key)) (p : Option ℕ) → same_key a b ≡ true → IsPlace a keys p → IsPlace b keys p
place_too a b keys None e s = tt
place_too a b keys (Some at) e s = stands_too a b at keys e s

pub next_too : (a b : Key) (keys : List (Option Key)) (p q : Option ℕ) → same_key a b ≡ true → IsNext a keys p q → IsNext b keys p q
next_too a b keys p q e h = record {
  before = place_too a b keys p e h.before;
  behind = place_too a b keys q e h.behind;
  between = λ j x le lt at. sym (key_chain a b x e) ∙ h.between j x le lt at;
  rising = h.rising;
}

-- ONE STANDS NEXT
uniq_b : (key : Key) (keys : List (Option Key)) (a b c : Option ℕ) → IsNext key keys a b → IsNext key keys a c → b ≡ c
uniq_b key keys a None None h k = refl
uniq_b key keys a (Some b) None h k = not_there key b (past a) (length keys) keys h.behind k.between h.rising (stands_within key b keys h.behind)
uniq_b key keys a None (Some c) h k = not_there key c (past a) (length keys) keys k.behind h.between k.rising (stands_within key c keys k.behind)
uniq_b key keys a (Some b) (Some c) h k = by (three b c)
  where
    by : Three b c → Some b ≡ Some c
    by (inl lt) = not_there key b (past a) c keys h.behind k.between h.rising lt
    by (inr (inl e)) = ap Some e
    by (inr (inr lt)) = not_there key c (past a) b keys k.behind h.between k.rising lt

uniq_a : (key : Key) (keys : List (Option Key)) (a c b : Option ℕ) → IsNext key keys a b → IsNext key keys c b → a ≡ c
uniq_a key keys None None b h k = refl
uniq_a key keys (Some a) None b h k = not_there key a 0 (upto (length keys) b) keys h.before k.between (omega arith) (omega (arith, h.rising))
uniq_a key keys None (Some c) b h k = not_there key c 0 (upto (length keys) b) keys k.before h.between (omega arith) (omega (arith, k.rising))
uniq_a key keys (Some a) (Some c) b h k = by (three a c)
  where
    by : Three a c → Some a ≡ Some c
    by (inl lt) = not_there key c (a + 1) (upto (length keys) b) keys k.before h.between (omega (arith, lt)) (omega (arith, k.rising))
    by (inr (inl e)) = ap Some e
    by (inr (inr lt)) = not_there key a (c + 1) (upto (length keys) b) keys h.before k.between (omega (arith, lt)) (omega (arith, h.rising))

-- A KEY GOES FROM A PLACE
module _ (keys : List (Option Key)) (at : ℕ) where
  abbrev gone : List (Option Key)
  gone = slice_set keys at None

  was : (j : ℕ) (x : Key) → slice_get gone j ≡ Some (Some x) → ((j == at) ≡ false) × (slice_get keys j ≡ Some (Some x))
  was j x is = by (same_or_not j at)
    where
      nothing : Some x ≡ None → ⊥
      nothing e = cc

      by : (j ≡ at) ⊎ ((j == at) ≡ false) → ((j == at) ≡ false) × (slice_get keys j ≡ Some (Some x))
      by (inl e) = absurd (nothing (set_here keys at None (Some x) (subst (λ (n : ℕ). slice_get gone n ≡ Some (Some x)) e is)))
      by (inr e) = (e, sym (set_other keys at j None e) ∙ is)

  place_still : (k : Key) (a : Option ℕ) → (a ≡ Some at → ⊥) → IsPlace k keys a → IsPlace k gone a
  place_still k None never p = tt
  place_still k (Some a) never p = by (same_or_not a at)
    where
      by : (a ≡ at) ⊎ ((a == at) ≡ false) → StandsAt k a gone
      by (inl e) = absurd (never (ap Some e))
      by (inr e) = (p.0, set_other keys at a None e ∙ p.1, p.2)

  stays : (k : Key) (a b : Option ℕ) → (a ≡ Some at → ⊥) → (b ≡ Some at → ⊥) → IsNext k keys a b → IsNext k gone a b
  stays k a b na nb h = record {
    before = place_still k a na h.before;
    behind = place_still k b nb h.behind;
    between = subst (λ (n : ℕ). NoneIn k (past a) (upto n b) gone) (sym (set_long keys at None)) (λ j x le lt is. h.between j x le lt (was j x is).1);
    rising = subst (λ (n : ℕ). past a ≤ upto n b) (sym (set_long keys at None)) h.rising;
  }

  module _ (key : Key) (here : StandsAt key at keys) (p q : Option ℕ) (left : IsNext key keys p (Some at)) (right : IsNext key keys (Some at) q) where
    not_left : p ≡ Some at → ⊥
    not_left e = no at (subst (λ (x : Option ℕ). past x ≤ at) e left.rising)
      where
        no : (n : ℕ) → n + 1 ≤ n → ⊥
        no n le = omega (arith, le)

    not_right : q ≡ Some at → ⊥
    not_right e = no at (subst (λ (x : Option ℕ). at + 1 ≤ upto (length keys) x) e right.rising)
      where
        no : (n : ℕ) → n + 1 ≤ n → ⊥
        no n le = omega (arith, le)

    none_joined : NoneIn key (past p) (upto (length keys) q) gone
    none_joined j x le lt is = by (three j at)
      where
        differs : (j == at) ≡ false → j ≡ at → ⊥
        differs e f = grind (arith, nat_tests)

        by : Three j at → same_key key x ≡ false
        by (inl less) = left.between j x le less (was j x is).1
        by (inr (inl e)) = absurd (differs (was j x is).0 e)
        by (inr (inr more)) = right.between j x (omega (arith, more)) lt (was j x is).1

    joined : IsNext key gone p q
    joined = record {
      before = place_still key p not_left left.before;
      behind = place_still key q not_right right.behind;
      between = subst (λ (n : ℕ). NoneIn key (past p) (upto n q) gone) (sym (set_long keys at None)) none_joined;
      rising = subst (λ (n : ℕ). past p ≤ upto n q) (sym (set_long keys at None)) (omega (arith, left.rising, right.rising));
    }

    joined_as : (k : Key) (a b : Option ℕ) → same_key key k ≡ true → p ≡ a → q ≡ b → IsNext k gone a b
    joined_as k a b same ep eq = next_too key k gone a b same (subst (λ (x : Option ℕ). IsNext key gone x b) ep (subst (λ (y : Option ℕ). IsNext key gone p y) eq joined))

    -- another key doesn't stand there
    not_place : (k : Key) (a : Option ℕ) → same_key key k ≡ false → IsPlace k keys a → a ≡ Some at → ⊥
    not_place k a other s e = clash (same_key key k) (both_stand key k at keys here (subst (λ (x : Option ℕ). IsPlace k keys x) e s)) other

    -- only the one before it leads there, and only the one behind it leads back
    leads : (k : Key) (a b : Option ℕ) → (a ≡ p → ⊥) → IsNext k keys a b → b ≡ Some at → ⊥
    leads k a b never h e =
        let h_at : IsNext k keys a (Some at) = subst (λ (x : Option ℕ). IsNext k keys a x) e h in
        never (uniq_a key keys a p (Some at) (next_too k key keys a (Some at) (key_turned k key ∙ both_stand key k at keys here h_at.behind) h_at) left)

    leads_back : (k : Key) (a b : Option ℕ) → (b ≡ q → ⊥) → IsNext k keys a b → a ≡ Some at → ⊥
    leads_back k a b never h e =
        let h_at : IsNext k keys (Some at) b = subst (λ (x : Option ℕ). IsNext k keys x b) e h in
        never (uniq_b key keys (Some at) b q (next_too k key keys (Some at) b (key_turned k key ∙ both_stand key k at keys here h_at.before) h_at) right)

some_none : {A : Type 0} {P : Type 0} (o : Option A) (a : A) → o ≡ Some a → o ≡ None → P
some_none o a e f = absurd (let no : Some a ≡ None = sym e ∙ f in cc)

differ : {P : Type 0} (i j : ℕ) → (i == j) ≡ false → Some i ≡ Some j → P
differ i j e f = clash (i == j) (same i j (some_is i j f)) e
  where
    same : (a b : ℕ) → a ≡ b → (a == b) ≡ true
    same a b g = grind (arith, nat_tests)

module _ (keys : List (Option Key)) (nexts prevs : List (Option ℕ)) (old new : Key → Option Ends) (c : IsChain keys nexts prevs old) (key : Key) (at : ℕ) (here : StandsAt key at keys) (e : Ends) (is : old key ≡ Some e) (p q : Option ℕ) (back : slice_get prevs at ≡ Some p) (link : slice_get nexts at ≡ Some q) (noted : Noted key (ends_without e p q) old new) where
  left : IsNext key keys p (Some at)
  left = c.backs key at p here back

  right : IsNext key keys (Some at) q
  right = c.steps key at q here link

  of_other : (k : Key) → same_key key k ≡ false → new k ≡ old k
  of_other k other = noted k ∙ ap (λ (b : Bool). if b then ends_without e p q else old k) other

  of_it : (k : Key) → same_key key k ≡ true → new k ≡ ends_without e p q
  of_it k same = noted k ∙ ap (λ (b : Bool). if b then ends_without e p q else old k) same

  first_kept : (k : Key) (n : ℕ) → same_key key k ≡ true → p ≡ Some n → IsNext k (gone keys at) None (Some e.first)
  first_kept k n same ep =
      let h : IsNext key keys None (Some e.first) = subst (λ (o : Option Ends). IsNext key keys None (first_in o)) is (c.first key) in
      next_too key k (gone keys at) None (Some e.first) same
      (stays keys at key None (Some e.first) (λ f. absurd cc) (leads keys at key here p q left right key None (Some e.first) (λ f. some_none p n ep (sym f)) h) h)

  last_kept : (k : Key) (n : ℕ) → same_key key k ≡ true → q ≡ Some n → IsNext k (gone keys at) (Some e.last) None
  last_kept k n same eq =
      let h : IsNext key keys (Some e.last) None = subst (λ (o : Option Ends). IsNext key keys (last_in o) None) is (c.last key) in
      next_too key k (gone keys at) (Some e.last) None same
      (stays keys at key (Some e.last) None (leads_back keys at key here p q left right key (Some e.last) None (λ f. some_none q n eq (sym f)) h) (λ f. absurd cc) h)

  its_first : (k : Key) → same_key key k ≡ true → (a b : Option ℕ) → p ≡ a → q ≡ b → IsNext k (gone keys at) None (first_in (ends_without e a b))
  its_first k same None None ep eq = joined_as keys at key here p q left right k None None same ep eq
  its_first k same None (Some n) ep eq = joined_as keys at key here p q left right k None (Some n) same ep eq
  its_first k same (Some m) None ep eq = first_kept k m same ep
  its_first k same (Some m) (Some n) ep eq = first_kept k m same ep

  its_last : (k : Key) → same_key key k ≡ true → (a b : Option ℕ) → p ≡ a → q ≡ b → IsNext k (gone keys at) (last_in (ends_without e a b)) None
  its_last k same None None ep eq = joined_as keys at key here p q left right k None None same ep eq
  its_last k same None (Some n) ep eq = last_kept k n same eq
  its_last k same (Some m) None ep eq = joined_as keys at key here p q left right k (Some m) None same ep eq
  its_last k same (Some m) (Some n) ep eq = last_kept k n same eq

  first_now : (k : Key) (t : Bool) → same_key key k ≡ t → IsNext k (gone keys at) None (first_in (new k))
  first_now k true same = subst (λ (o : Option Ends). IsNext k (gone keys at) None (first_in o)) (sym (of_it k same)) (its_first k same p q refl refl)
  first_now k false other =
      subst (λ (o : Option Ends). IsNext k (gone keys at) None (first_in o)) (sym (of_other k other))
      (stays keys at k None (first_in (old k)) (λ f. absurd cc) (not_place keys at key here p q left right k (first_in (old k)) other (c.first k).behind) (c.first k))

  last_now : (k : Key) (t : Bool) → same_key key k ≡ t → IsNext k (gone keys at) (last_in (new k)) None
  last_now k true same = subst (λ (o : Option Ends). IsNext k (gone keys at) (last_in o) None) (sym (of_it k same)) (its_last k same p q refl refl)
  last_now k false other =
      subst (λ (o : Option Ends). IsNext k (gone keys at) (last_in o) None) (sym (of_other k other))
      (stays keys at k (last_in (old k)) None (not_place keys at key here p q left right k (last_in (old k)) other (c.last k).before) (λ f. absurd cc) (c.last k))

  module _ (k : Key) (i : ℕ) (stands : StandsAt k i (gone keys at)) where
    stood : StandsAt k i keys
    stood = (stands.0, (was keys at i stands.0 stands.1).1, stands.2)

    apart : Some i ≡ Some at → ⊥
    apart = differ i at (was keys at i stands.0 stands.1).0

    step_kept : (next : Option ℕ) → slice_get nexts i ≡ Some next → (Some i ≡ p → ⊥) → IsNext k (gone keys at) (Some i) next
    step_kept next there never =
        let h = c.steps k i next stood there in
        stays keys at k (Some i) next apart (leads keys at key here p q left right k (Some i) next never h) h

    step_now : (next a : Option ℕ) → p ≡ a → slice_get (set_at a q nexts) i ≡ Some next → IsNext k (gone keys at) (Some i) next
    step_now next None ep there = step_kept next there (λ f. some_none p i (sym f) ep)
    step_now next (Some m) ep there = by (same_or_not i m)
      where
        by : (i ≡ m) ⊎ ((i == m) ≡ false) → IsNext k (gone keys at) (Some i) next
        by (inl same) =
            let n : next ≡ q = set_here nexts m q next (subst (λ (j : ℕ). slice_get (slice_set nexts m q) j ≡ Some next) same there) in
            let at_it : StandsAt key i keys = subst (λ (x : Option ℕ). IsPlace key keys x) (ep ∙ ap Some (sym same)) left.before in
            joined_as keys at key here p q left right k (Some i) next (both_stand key k i keys at_it stood) (ep ∙ ap Some (sym same)) (sym n)
        by (inr other) = step_kept next (sym (set_other nexts m i q other) ∙ there) (λ f. differ i m other (f ∙ ep))

    back_kept : (prev : Option ℕ) → slice_get prevs i ≡ Some prev → (Some i ≡ q → ⊥) → IsNext k (gone keys at) prev (Some i)
    back_kept prev there never =
        let h = c.backs k i prev stood there in
        stays keys at k prev (Some i) (leads_back keys at key here p q left right k prev (Some i) never h) apart h

    back_now : (prev b : Option ℕ) → q ≡ b → slice_get (set_at b p prevs) i ≡ Some prev → IsNext k (gone keys at) prev (Some i)
    back_now prev None eq there = back_kept prev there (λ f. some_none q i (sym f) eq)
    back_now prev (Some m) eq there = by (same_or_not i m)
      where
        by : (i ≡ m) ⊎ ((i == m) ≡ false) → IsNext k (gone keys at) prev (Some i)
        by (inl same) =
            let n : prev ≡ p = set_here prevs m p prev (subst (λ (j : ℕ). slice_get (slice_set prevs m p) j ≡ Some prev) same there) in
            let at_it : StandsAt key i keys = subst (λ (x : Option ℕ). IsPlace key keys x) (eq ∙ ap Some (sym same)) right.behind in
            joined_as keys at key here p q left right k prev (Some i) (both_stand key k i keys at_it stood) (sym n) (eq ∙ ap Some (sym same))
        by (inr other) = back_kept prev (sym (set_other prevs m i p other) ∙ there) (λ f. differ i m other (f ∙ eq))

  at_long : (a to : Option ℕ) (links : List (Option ℕ)) → length (set_at a to links) ≡ length links
  at_long None to links = refl
  at_long (Some a) to links = set_long links a to

  pub unlinked_chain : IsChain (slice_set keys at None) (set_at p q nexts) (set_at q p prevs) new
  unlinked_chain = record {
    long = at_long p q nexts ∙ c.long ∙ sym (set_long keys at None);
    long_back = at_long q p prevs ∙ c.long_back ∙ sym (set_long keys at None);
    first = λ k. first_now k (same_key key k) refl;
    last = λ k. last_now k (same_key key k) refl;
    steps = λ k i next stands there. step_now k i stands next p refl there;
    backs = λ k i prev stands there. back_now k i stands prev q refl there;
  }

-- A KEY COMES AT THE END
module _ (keys : List (Option Key)) (key : Key) where
  abbrev more : List (Option Key)
  more = keys ++ Some key ∷ []

  stands_more : (k : Key) (at : ℕ) → StandsAt k at keys → StandsAt k at more
  stands_more k at s = (s.0, get_more keys (Some key) (Some s.0) at s.1, s.2)

  place_more : (k : Key) (a : Option ℕ) → IsPlace k keys a → IsPlace k more a
  place_more k None s = tt
  place_more k (Some a) s = stands_more k a s

  stood_or : (k : Key) (at : ℕ) → StandsAt k at more → StandsAt k at keys ⊎ ((at ≡ length keys) × (same_key k key ≡ true))
  stood_or k at s = by (got_more keys (Some key) (Some s.0) at s.1)
    where
      by : (slice_get keys at ≡ Some (Some s.0)) ⊎ ((at ≡ length keys) × (Some s.0 ≡ Some key)) → StandsAt k at keys ⊎ ((at ≡ length keys) × (same_key k key ≡ true))
      by (inl h) = inl (s.0, h, s.2)
      by (inr h) = inr (h.0, sym (ap (same_key k) (some_is s.0 key h.1)) ∙ s.2)

  none_below : (k : Key) (from to : ℕ) → to ≤ length keys → NoneIn k from to keys → NoneIn k from to more
  none_below k from to low h j x le lt is = by (got_more keys (Some key) (Some x) j is)
    where
      no : (a b c : ℕ) → a < b → b ≤ c → a ≡ c → ⊥
      no a b c u v w = omega (arith, u, v, w)

      by : (slice_get keys j ≡ Some (Some x)) ⊎ ((j ≡ length keys) × (Some x ≡ Some key)) → same_key k x ≡ false
      by (inl g) = h j x le lt g
      by (inr g) = absurd (no j to (length keys) lt low g.0)

  none_end : (k : Key) (from : ℕ) → same_key k key ≡ false → NoneIn k from (length keys) keys → NoneIn k from (length more) more
  none_end k from other h j x le lt is = by (got_more keys (Some key) (Some x) j is)
    where
      by : (slice_get keys j ≡ Some (Some x)) ⊎ ((j ≡ length keys) × (Some x ≡ Some key)) → same_key k x ≡ false
      by (inl g) = h j x le (within keys (Some x) j g) g
      by (inr g) = ap (same_key k) (some_is x key g.1) ∙ other

  some_more : (k : Key) (a : Option ℕ) (b : ℕ) → IsNext k keys a (Some b) → IsNext k more a (Some b)
  some_more k a b h =
      let lt = stands_within k b keys h.behind in
      record { before = place_more k a h.before; behind = stands_more k b h.behind; between = none_below k (past a) b (omega (arith, lt)) h.between; rising = h.rising }

  end_more : (k : Key) (a : Option ℕ) → same_key k key ≡ false → IsNext k keys a None → IsNext k more a None
  end_more k a other h =
      let long = long_more keys (Some key) in
      record { before = place_more k a h.before; behind = tt; between = none_end k (past a) other h.between; rising = omega (arith, h.rising, long) }

  other_more : (k : Key) (a b : Option ℕ) → same_key k key ≡ false → IsNext k keys a b → IsNext k more a b
  other_more k a None other h = end_more k a other h
  other_more k a (Some b) other h = some_more k a b h

  joins : (k : Key) (a : Option ℕ) → same_key k key ≡ true → IsNext k keys a None → IsNext k more a (Some (length keys))
  joins k a same h = record {
    before = place_more k a h.before;
    behind = (key, get_end keys (Some key), same);
    between = none_below k (past a) (length keys) (omega arith) h.between;
    rising = h.rising;
  }

  ends_there : (k : Key) → same_key k key ≡ true → IsNext k more (Some (length keys)) None
  ends_there k same =
      let long = long_more keys (Some key) in
      record { before = (key, get_end keys (Some key), same); behind = tt; between = λ j x le lt is. absurd (no j (length keys) (length more) le lt long); rising = omega (arith, long) }
    where
      no : (a b c : ℕ) → b + 1 ≤ a → a < c → c ≡ b + 1 → ⊥
      no a b c u v w = omega (arith, u, v, w)

module _ (keys : List (Option Key)) (nexts prevs : List (Option ℕ)) (old new : Key → Option Ends) (c : IsChain keys nexts prevs old) (key : Key) (noted : Noted key (Some (ends_behind (old key) (length keys))) old new) where
  abbrev l : Option ℕ
  l = last_in (old key)

  push_other : (k : Key) → same_key key k ≡ false → new k ≡ old k
  push_other k other = noted k ∙ ap (λ (b : Bool). if b then Some (ends_behind (old key) (length keys)) else old k) other

  push_it : (k : Key) → same_key key k ≡ true → new k ≡ Some (ends_behind (old key) (length keys))
  push_it k same = noted k ∙ ap (λ (b : Bool). if b then Some (ends_behind (old key) (length keys)) else old k) same

  its_first_more : (k : Key) (o : Option Ends) → same_key key k ≡ true → old key ≡ o → IsNext k (more keys key) None (Some (ends_behind o (length keys)).first)
  its_first_more k None same eo = joins keys key k None (key_turned k key ∙ same) (next_too key k keys None None same (subst (λ (o : Option Ends). IsNext key keys None (first_in o)) eo (c.first key)))
  its_first_more k (Some e) same eo = some_more keys key k None e.first (next_too key k keys None (Some e.first) same (subst (λ (o : Option Ends). IsNext key keys None (first_in o)) eo (c.first key)))

  its_last_more : (k : Key) (o : Option Ends) → same_key key k ≡ true → IsNext k (more keys key) (Some (ends_behind o (length keys)).last) None
  its_last_more k None same = ends_there keys key k (key_turned k key ∙ same)
  its_last_more k (Some e) same = ends_there keys key k (key_turned k key ∙ same)

  first_then : (k : Key) (t : Bool) → same_key key k ≡ t → IsNext k (more keys key) None (first_in (new k))
  first_then k true same = subst (λ (o : Option Ends). IsNext k (more keys key) None (first_in o)) (sym (push_it k same)) (its_first_more k (old key) same refl)
  first_then k false other =
      subst (λ (o : Option Ends). IsNext k (more keys key) None (first_in o)) (sym (push_other k other))
      (other_more keys key k None (first_in (old k)) (key_turned k key ∙ other) (c.first k))

  last_then : (k : Key) (t : Bool) → same_key key k ≡ t → IsNext k (more keys key) (last_in (new k)) None
  last_then k true same = subst (λ (o : Option Ends). IsNext k (more keys key) (last_in o) None) (sym (push_it k same)) (its_last_more k (old key) same)
  last_then k false other =
      subst (λ (o : Option Ends). IsNext k (more keys key) (last_in o) None) (sym (push_other k other))
      (other_more keys key k (last_in (old k)) None (key_turned k key ∙ other) (c.last k))

  set_is_long : (a : Option ℕ) → length (set_at a (Some (length keys)) nexts) ≡ length keys
  set_is_long None = c.long
  set_is_long (Some a) = set_long nexts a (Some (length keys)) ∙ c.long

  not_end : {P : Type 0} (k : Key) (i n : ℕ) → StandsAt k i keys → i ≡ n → n ≡ length keys → P
  not_end k i n s e f = absurd (no i n (length keys) (stands_within k i keys s) e f)
    where
      no : (a b d : ℕ) → a < d → a ≡ b → b ≡ d → ⊥
      no a b d u v w = omega (arith, u, v, w)

  module _ (k : Key) (i : ℕ) (s : StandsAt k i keys) where
    step_plain : (next : Option ℕ) → slice_get nexts i ≡ Some next → (Some i ≡ l → ⊥) → IsNext k (more keys key) (Some i) next
    step_plain (Some n) there never = some_more keys key k (Some i) n (c.steps k i (Some n) s there)
    step_plain None there never = by (same_key k key) refl
      where
        h : IsNext k keys (Some i) None
        h = c.steps k i None s there

        by : (t : Bool) → same_key k key ≡ t → IsNext k (more keys key) (Some i) None
        by true same = absurd (never (uniq_a key keys (Some i) l None (next_too k key keys (Some i) None same h) (c.last key)))
        by false other = end_more keys key k (Some i) other h

    step_then : (next a : Option ℕ) → l ≡ a → slice_get (set_at a (Some (length keys)) nexts) i ≡ Some next → IsNext k (more keys key) (Some i) next
    step_then next None el there = step_plain next there (λ f. some_none l i (sym f) el)
    step_then next (Some m) el there = by (same_or_not i m)
      where
        by : (i ≡ m) ⊎ ((i == m) ≡ false) → IsNext k (more keys key) (Some i) next
        by (inl same) =
            let n : next ≡ Some (length keys) = set_here nexts m (Some (length keys)) next (subst (λ (j : ℕ). slice_get (slice_set nexts m (Some (length keys))) j ≡ Some next) same there) in
            let last_it : IsNext key keys (Some i) None = subst (λ (x : Option ℕ). IsNext key keys x None) (el ∙ ap Some (sym same)) (c.last key) in
            let one = both_stand key k i keys last_it.before s in
            subst (λ (x : Option ℕ). IsNext k (more keys key) (Some i) x) (sym n) (joins keys key k (Some i) (key_turned k key ∙ one) (next_too key k keys (Some i) None one last_it))
        by (inr other) = step_plain next (sym (set_other nexts m i (Some (length keys)) other) ∙ there) (λ f. differ i m other (f ∙ el))

  step_more : (k : Key) (i : ℕ) (next : Option ℕ) → StandsAt k i (more keys key) → slice_get (set_at l (Some (length keys)) nexts ++ None ∷ []) i ≡ Some next → IsNext k (more keys key) (Some i) next
  step_more k i next stands there = by (stood_or keys key k i stands)
    where
      by : StandsAt k i keys ⊎ ((i ≡ length keys) × (same_key k key ≡ true)) → IsNext k (more keys key) (Some i) next
      by (inl s) = inner (got_more (set_at l (Some (length keys)) nexts) None next i there)
        where
          inner : (slice_get (set_at l (Some (length keys)) nexts) i ≡ Some next) ⊎ ((i ≡ length (set_at l (Some (length keys)) nexts)) × (next ≡ None)) → IsNext k (more keys key) (Some i) next
          inner (inl g) = step_then k i s next l refl g
          inner (inr g) = not_end k i (length (set_at l (Some (length keys)) nexts)) s g.0 (set_is_long l)
      by (inr g) =
          let none : next ≡ None = some_is next None (sym there ∙ ap (λ (n : ℕ). slice_get (set_at l (Some (length keys)) nexts ++ None ∷ []) n) (g.0 ∙ sym (set_is_long l)) ∙ get_end (set_at l (Some (length keys)) nexts) None) in
          subst (λ (x : Option ℕ). IsNext k (more keys key) (Some i) x) (sym none) (subst (λ (n : ℕ). IsNext k (more keys key) (Some n) None) (sym g.0) (ends_there keys key k g.1))

  back_more : (k : Key) (i : ℕ) (prev : Option ℕ) → StandsAt k i (more keys key) → slice_get (prevs ++ l ∷ []) i ≡ Some prev → IsNext k (more keys key) prev (Some i)
  back_more k i prev stands there = by (stood_or keys key k i stands) (got_more prevs l prev i there)
    where
      by : StandsAt k i keys ⊎ ((i ≡ length keys) × (same_key k key ≡ true)) → (slice_get prevs i ≡ Some prev) ⊎ ((i ≡ length prevs) × (prev ≡ l)) → IsNext k (more keys key) prev (Some i)
      by (inl s) (inl g) = some_more keys key k prev i (c.backs k i prev s g)
      by (inl s) (inr g) = not_end k i (length prevs) s g.0 c.long_back
      by (inr s) (inl g) = absurd (no i (length prevs) (length keys) (within prevs prev i g) c.long_back s.0)
        where
          no : (a b d : ℕ) → a < b → b ≡ d → a ≡ d → ⊥
          no a b d u v w = omega (arith, u, v, w)
      by (inr s) (inr g) =
          let one : same_key key k ≡ true = key_turned key k ∙ s.1 in
          subst (λ (n : ℕ). IsNext k (more keys key) prev (Some n)) (sym s.0) (subst (λ (x : Option ℕ). IsNext k (more keys key) x (Some (length keys))) (sym g.1) (joins keys key k l s.1 (next_too key k keys l None one (c.last key))))

  pub pushed_chain : IsChain (keys ++ Some key ∷ []) (set_at l (Some (length keys)) nexts ++ None ∷ []) (prevs ++ l ∷ []) new
  pushed_chain = record {
    long = long_more (set_at l (Some (length keys)) nexts) None ∙ ap (λ (n : ℕ). n + 1) (set_is_long l) ∙ sym (long_more keys (Some key));
    long_back = long_more prevs l ∙ ap (λ (n : ℕ). n + 1) c.long_back ∙ sym (long_more keys (Some key));
    first = λ k. first_then k (same_key key k) refl;
    last = λ k. last_then k (same_key key k) refl;
    steps = step_more;
    backs = back_more;
  }

-- Where the same ends are noted.
pub chain_same : (keys : List (Option Key)) (nexts nexts_then prevs prevs_then : List (Option ℕ)) (old new : Key → Option Ends) → nexts_then ≡ nexts → prevs_then ≡ prevs → ((k : Key) → new k ≡ old k) → IsChain keys nexts prevs old → IsChain keys nexts_then prevs_then new
chain_same keys nexts nexts_then prevs prevs_then old new en ep same c =
    subst (λ (xs : List (Option ℕ)). IsChain keys xs prevs_then new) (sym en)
    (subst (λ (xs : List (Option ℕ)). IsChain keys nexts xs new) (sym ep)
    (record {
      long = c.long;
      long_back = c.long_back;
      first = λ k. subst (λ (o : Option Ends). IsNext k keys None (first_in o)) (sym (same k)) (c.first k);
      last = λ k. subst (λ (o : Option Ends). IsNext k keys (last_in o) None) (sym (same k)) (c.last k);
      steps = c.steps;
      backs = c.backs;
    }))

-- a place that stands is below the end, whatever it is
pub place_within : (key : Key) (keys : List (Option Key)) (a : Option ℕ) (long : ℕ) → long ≡ length keys → IsPlace key keys a → IfSome a (λ (n : ℕ). n < long)
place_within key keys None long e p = tt
place_within key keys (Some a) long e p = let lt = stands_within key a keys p in omega (arith, lt, e)

-- a key that stands somewhere has ends
pub has_ends : {P : Type 0} (key : Key) (keys : List (Option Key)) (nexts prevs : List (Option ℕ)) (old : Key → Option Ends) (at : ℕ) → IsChain keys nexts prevs old → StandsAt key at keys → old key ≡ None → P
has_ends key keys nexts prevs old at c s e =
    let h : IsNext key keys None None = subst (λ (o : Option Ends). IsNext key keys None (first_in o)) e (c.first key) in
    not_there key at 0 (length keys) keys s h.between (omega arith) (stands_within key at keys s)
