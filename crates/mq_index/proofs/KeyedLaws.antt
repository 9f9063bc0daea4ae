-- The keys of slots as slots come, go empty and change.
use Rattle.std.proofs.Common.{◌≡◌, ℕ, zero, suc, List, [], ◌∷◌, ◌++◌, length, refl, sym, ap, subst, ◌∙◌}
use Rattle.std.specs.Prelude.{Option, Some, None, slice_get, slice_set}
use Rattle.mq_queue.specs.declared.row.Row.{Row}
use Rattle.mq_index.specs.declared.keys.Key.{Key}
use Rattle.mq_index.specs.declared.keys.Kind.{Kind}
use Rattle.mq_index.specs.declared.keys.Ends.{Ends}
use Rattle.mq_index.specs.Keys.{key_by, keyed}
use Rattle.mq_index.specs.Chains.{IsChain, Noted, StandsAt, ends_behind, ends_without, last_in, set_at}
use Rattle.mq_index.proofs.KeyLaws.{key_same}
use Rattle.mq_index.proofs.ListLaws.{some_is}
use Rattle.mq_index.proofs.ChainLaws.{pushed_chain, unlinked_chain}

module _ (kind : Kind) where
  pub keyed_long : (slots : List (Option Row)) → length (keyed kind slots) ≡ length slots
  keyed_long [] = refl
  keyed_long (None ∷ slots) = ap suc (keyed_long slots)
  keyed_long (Some x ∷ slots) = ap suc (keyed_long slots)

  pub keyed_more : (slots : List (Option Row)) (row : Row) → keyed kind (slots ++ Some row ∷ []) ≡ keyed kind slots ++ Some (key_by kind row) ∷ []
  keyed_more [] row = refl
  keyed_more (None ∷ slots) row = ap (λ (ks : List (Option Key)). None ∷ ks) (keyed_more slots row)
  keyed_more (Some x ∷ slots) row = ap (λ (ks : List (Option Key)). Some (key_by kind x) ∷ ks) (keyed_more slots row)

  pub keyed_gone : (slots : List (Option Row)) (at : ℕ) → keyed kind (slice_set slots at None) ≡ slice_set (keyed kind slots) at None
  keyed_gone [] zero = refl
  keyed_gone [] (suc at) = refl
  keyed_gone (None ∷ slots) zero = refl
  keyed_gone (None ∷ slots) (suc at) = ap (λ (ks : List (Option Key)). None ∷ ks) (keyed_gone slots at)
  keyed_gone (Some x ∷ slots) zero = refl
  keyed_gone (Some x ∷ slots) (suc at) = ap (λ (ks : List (Option Key)). Some (key_by kind x) ∷ ks) (keyed_gone slots at)

  pub keyed_there : (slots : List (Option Row)) (at : ℕ) (row : Row) → slice_get slots at ≡ Some (Some row) → slice_get (keyed kind slots) at ≡ Some (Some (key_by kind row))
  keyed_there [] zero row e = absurd cc
  keyed_there [] (suc at) row e = absurd cc
  keyed_there (None ∷ slots) zero row e = absurd cc
  keyed_there (None ∷ slots) (suc at) row e = keyed_there slots at row e
  keyed_there (Some x ∷ slots) zero row e = ap (λ (r : Row). Some (Some (key_by kind r))) (some_is x row (some_is (Some x) (Some row) e))
  keyed_there (Some x ∷ slots) (suc at) row e = keyed_there slots at row e

  pub keyed_back : (slots : List (Option Row)) (at : ℕ) (key : Key) → slice_get (keyed kind slots) at ≡ Some (Some key) → (row : Row) × (slice_get slots at ≡ Some (Some row)) × (key ≡ key_by kind row)
  keyed_back [] zero key e = absurd cc
  keyed_back [] (suc at) key e = absurd cc
  keyed_back (None ∷ slots) zero key e = absurd cc
  keyed_back (None ∷ slots) (suc at) key e = keyed_back slots at key e
  keyed_back (Some x ∷ slots) zero key e = (x, refl, sym (some_is (key_by kind x) key (some_is (Some (key_by kind x)) (Some key) e)))
  keyed_back (Some x ∷ slots) (suc at) key e = keyed_back slots at key e

  pub keyed_same : (slots : List (Option Row)) (at : ℕ) (row new : Row) → slice_get slots at ≡ Some (Some row) → key_by kind new ≡ key_by kind row → keyed kind (slice_set slots at (Some new)) ≡ keyed kind slots
  keyed_same [] zero row new e s = refl
  keyed_same [] (suc at) row new e s = refl
  keyed_same (None ∷ slots) zero row new e s = absurd cc
  keyed_same (None ∷ slots) (suc at) row new e s = ap (λ (ks : List (Option Key)). None ∷ ks) (keyed_same slots at row new e s)
  keyed_same (Some x ∷ slots) zero row new e s = ap (λ (k : Key). Some k ∷ keyed kind slots) (s ∙ ap (key_by kind) (sym (some_is x row (some_is (Some x) (Some row) e))))
  keyed_same (Some x ∷ slots) (suc at) row new e s = ap (λ (ks : List (Option Key)). Some (key_by kind x) ∷ ks) (keyed_same slots at row new e s)

  pub stands_there : (slots : List (Option Row)) (at : ℕ) (row : Row) → slice_get slots at ≡ Some (Some row) → StandsAt (key_by kind row) at (keyed kind slots)
  stands_there slots at row e = (key_by kind row, keyed_there slots at row e, key_same (key_by kind row))

  -- As a push comes to it.
  pub pushed_so : (slots : List (Option Row)) (row : Row) (key : Key) (nexts nexts_then linked prevs prevs_then : List (Option ℕ)) (before : Option Ends) (at : ℕ) (behind : Ends) (last : Option ℕ) (old new : Key → Option Ends)
      → IsChain (keyed kind slots) nexts prevs old → key ≡ key_by kind row → before ≡ old key → at ≡ length nexts → last ≡ last_in before → behind ≡ ends_behind before at → linked ≡ set_at last (Some at) nexts → nexts_then ≡ linked ++ None ∷ [] → prevs_then ≡ prevs ++ last ∷ [] → Noted key (Some behind) old new
      → IsChain (keyed kind (slots ++ Some row ∷ [])) nexts_then prevs_then new
  pushed_so slots row key nexts nexts_then linked prevs prevs_then before at behind last old new c key_is before_is at_is last_is behind_is linked_is nexts_are prevs_are noted =
      let here : at ≡ length (keyed kind slots) = at_is ∙ c.long in
      let last_so : last ≡ last_in (old key) = last_is ∙ ap last_in before_is in
      let behind_so : behind ≡ ends_behind (old key) (length (keyed kind slots)) = behind_is ∙ ap (λ (o : Option Ends). ends_behind o at) before_is ∙ ap (ends_behind (old key)) here in
      let nexts_so : nexts_then ≡ set_at (last_in (old key)) (Some (length (keyed kind slots))) nexts ++ None ∷ [] =
      nexts_are ∙ ap (λ (xs : List (Option ℕ)). xs ++ None ∷ []) (linked_is ∙ ap (λ (o : Option ℕ). set_at o (Some at) nexts) last_so ∙ ap (λ (n : ℕ). set_at (last_in (old key)) (Some n) nexts) here) in
      let prevs_so : prevs_then ≡ prevs ++ last_in (old key) ∷ [] = prevs_are ∙ ap (λ (o : Option ℕ). prevs ++ o ∷ []) last_so in
      subst (λ (ks : List (Option Key)). IsChain ks nexts_then prevs_then new) (ap (λ (k : Key). keyed kind slots ++ Some k ∷ []) key_is ∙ sym (keyed_more slots row))
      (subst (λ (xs : List (Option ℕ)). IsChain (keyed kind slots ++ Some key ∷ []) xs prevs_then new) (sym nexts_so)
      (subst (λ (xs : List (Option ℕ)). IsChain (keyed kind slots ++ Some key ∷ []) (set_at (last_in (old key)) (Some (length (keyed kind slots))) nexts ++ None ∷ []) xs new) (sym prevs_so)
      (pushed_chain (keyed kind slots) nexts prevs old new c key (subst (λ (e : Ends). Noted key (Some e) old new) behind_so noted))))

  -- As a slot that goes empty comes to it.
  pub unlinked_so : (slots : List (Option Row)) (at : ℕ) (row : Row) (key : Key) (nexts nexts_then prevs prevs_then : List (Option ℕ)) (e : Ends) (p q : Option ℕ) (to : Option Ends) (old new : Key → Option Ends)
      → IsChain (keyed kind slots) nexts prevs old → key ≡ key_by kind row → slice_get slots at ≡ Some (Some row) → old key ≡ Some e → slice_get prevs at ≡ Some p → slice_get nexts at ≡ Some q → to ≡ ends_without e p q → Noted key to old new → nexts_then ≡ set_at p q nexts → prevs_then ≡ set_at q p prevs
      → IsChain (keyed kind (slice_set slots at None)) nexts_then prevs_then new
  unlinked_so slots at row key nexts nexts_then prevs prevs_then e p q to old new c key_is there is back link to_is noted nexts_are prevs_are =
      let here : StandsAt key at (keyed kind slots) = subst (λ (k : Key). StandsAt k at (keyed kind slots)) (sym key_is) (stands_there slots at row there) in
      subst (λ (ks : List (Option Key)). IsChain ks nexts_then prevs_then new) (sym (keyed_gone slots at))
      (subst (λ (xs : List (Option ℕ)). IsChain (slice_set (keyed kind slots) at None) xs prevs_then new) (sym nexts_are)
      (subst (λ (xs : List (Option ℕ)). IsChain (slice_set (keyed kind slots) at None) (set_at p q nexts) xs new) (sym prevs_are)
      (unlinked_chain (keyed kind slots) nexts prevs old new c key at here e is p q back link (subst (λ (o : Option Ends). Noted key o old new) to_is noted))))
