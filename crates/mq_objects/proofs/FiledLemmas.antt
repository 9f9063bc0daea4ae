-- What is found of objects in slots by a map from their keys, and that the map stays true.
use Rattle.std.proofs.Common.{◌≡◌, ℕ, ◌+◌, ◌<◌, cond, List, [], ◌∷◌, ◌++◌, sym, ap, subst, ◌∙◌, Some, None, Option, is_some, if◌then◌else◌, filter, option_to_list, length, get_or, slice_set, arith}
use Rattle.mq_objects.specs.declared.object.Object.{Object}
use Rattle.mq_objects.specs.declared.key.ObjectKey.{ObjectKey}
use Rattle.mq_objects.specs.declared.command.Subject.{Subject}
use Rattle.mq_objects.specs.Names.{Space, is_object, object_in, subject_space, subject_name}
use Rattle.mq_objects.specs.Keys.{key_of, same_key, subject_key, key_named}
use Rattle.mq_objects.specs.Keyed.{object_by}
use Rattle.mq_objects.specs.Changed.{delete_in}
use Rattle.mq_objects.specs.Slots.{present, IsFiled}
use Rattle.mq_objects.proofs.KeyLemmas.{subject_key-space, subject_key-name, key_named-space, key_named-name}
use Rattle.mq_objects.proofs.SlotLemmas.{At, NotIn, Found, found, at_within, object_at, object_not_in, place-set, distinct-set, count-set, place-push, distinct-push, count-push, place-clear, present-clear, present-not_in, distinct-clear, count-clear, alone}

module _ (slots : List (Option Object)) (find : ObjectKey → Option ℕ) (count : ℕ) (filed : IsFiled slots find count) where
  pub at_found : (key : ObjectKey) (i : ℕ) → find key ≡ Some i → At key slots i
  at_found key i e = subst (Found key slots) (sym (filed.found key) ∙ e) (found key slots)

  pub none_found : (key : ObjectKey) → find key ≡ None → NotIn key slots
  none_found key e = subst (Found key slots) (sym (filed.found key) ∙ e) (found key slots)

  pub found_within : (key : ObjectKey) (i : ℕ) → find key ≡ Some i → i < length slots
  found_within key i e = at_within key slots i (at_found key i e)

  pub object_found : (key : ObjectKey) (i : ℕ) (d : Option Object) → find key ≡ Some i → object_by key (present slots) ≡ get_or slots i d
  object_found key i d e = object_at key slots i d (at_found key i e)

  pub object_none : (key : ObjectKey) → find key ≡ None → object_by key (present slots) ≡ None
  object_none key e = object_not_in key slots (none_found key e)

  pub filed_set : (new : Object) (i : ℕ) → find (key_of new) ≡ Some i → IsFiled (slice_set slots i (Some new)) find count
  filed_set new i e =
      let at = at_found (key_of new) i e in
      record {
        found = λ key. filed.found key ∙ sym (place-set new slots i at key);
        distinct = distinct-set new slots i filed.distinct at;
        counted = filed.counted ∙ sym (count-set new slots i at);
      }

  pub filed_push : (new : Object) (find' : ObjectKey → Option ℕ) (count' : ℕ) → find (key_of new) ≡ None
      → ((key : ObjectKey) → find' key ≡ cond (same_key (key_of new) key) (Some (length slots)) (find key)) → count' ≡ count + 1 → IsFiled (slots ++ Some new ∷ []) find' count'
  filed_push new find' count' e put more =
      let ne = none_found (key_of new) e in
      record {
        found = λ key. put key ∙ ap (cond (same_key (key_of new) key) (Some (length slots))) (filed.found key) ∙ sym (place-push new slots ne key);
        distinct = distinct-push new slots filed.distinct ne;
        counted = omega (arith, more, filed.counted, count-push new slots);
      }

  pub filed_clear : (gone : ObjectKey) (i : ℕ) (find' : ObjectKey → Option ℕ) (count' : ℕ) → find gone ≡ Some i
      → ((key : ObjectKey) → find' key ≡ cond (same_key gone key) None (find key)) → count' + 1 ≡ count → IsFiled (slice_set slots i None) find' count'
  filed_clear gone i find' count' e taken fewer =
      let at = at_found gone i e in
      record {
        found = λ key. taken key ∙ ap (cond (same_key gone key) None) (filed.found key) ∙ sym (place-clear gone slots i filed.distinct at key);
        distinct = distinct-clear gone slots i filed.distinct at;
        counted = omega (arith, fewer, filed.counted, count-clear gone slots i at);
      }

  -- the same, by what a removal answers
  pub filed_taken : (gone : ObjectKey) (i : ℕ) (find' : ObjectKey → Option ℕ) (count' : ℕ) (answer : Option ℕ) → answer ≡ find gone → answer ≡ Some i
      → ((key : ObjectKey) → find' key ≡ cond (same_key gone key) None (find key)) → count' + (if is_some answer then 1 else 0) ≡ count → IsFiled (slice_set slots i None) find' count'
  filed_taken gone i find' count' answer of there taken fewer =
      let one : count' + 1 ≡ count = ap (λ (r : Option ℕ). count' + (if is_some r then 1 else 0)) (sym there) ∙ fewer in
      filed_clear gone i find' count' (sym of ∙ there) taken one

  -- the objects after what a command names is gone
  pub present_deleted : (s : Subject) (i : ℕ) → find (subject_key s) ≡ Some i → present (slice_set slots i None) ≡ delete_in (subject_space s) (subject_name s) (present slots)
  present_deleted s i e =
      let space = subject_key-space s in
      let name = subject_key-name s in
      present-clear (subject_key s) slots i (at_found (subject_key s) i e) ∙ (λ j. delete_in (space j) (name j) (present slots))

  -- and where it isn't there
  pub present_same : (s : Subject) → find (subject_key s) ≡ None → present slots ≡ delete_in (subject_space s) (subject_name s) (present slots)
  present_same s e =
      let space = subject_key-space s in
      let name = subject_key-name s in
      present-not_in (subject_key s) slots (none_found (subject_key s) e) ∙ (λ j. delete_in (space j) (name j) (present slots))

  -- by a name in a name space
  module _ (space : Space) (name : List ℕ) where
    pub named_none : find (key_named space name) ≡ None → object_in space name (present slots) ≡ None
    named_none e =
        let s = key_named-space space name in
        let n = key_named-name space name in
        sym (λ i. object_in (s i) (n i) (present slots)) ∙ object_none (key_named space name) e

    pub named_found : (i : ℕ) (d : Option Object) → find (key_named space name) ≡ Some i → object_in space name (present slots) ≡ get_or slots i d
    named_found i d e =
        let s = key_named-space space name in
        let n = key_named-name space name in
        sym (λ i. object_in (s i) (n i) (present slots)) ∙ object_found (key_named space name) i d e

    pub named_alone : filter (is_object space name) (present slots) ≡ option_to_list (object_in space name (present slots))
    named_alone =
        let s = key_named-space space name in
        let n = key_named-name space name in
        sym (λ i. filter (is_object (s i) (n i)) (present slots)) ∙ alone (key_named space name) slots filed.distinct ∙ (λ i. option_to_list (object_in (s i) (n i) (present slots)))
