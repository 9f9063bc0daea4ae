-- What stands at a place of managers at rest, of what is read of them.
use Rattle.std.specs.Prelude.{◌≡◌, ◌<◌, ◌≤◌, ◌++◌, ℕ, List, [], Option, None, Some, drop, length, map, slice_get}
use Rattle.std.proofs.Common.{refl, sym, ap, subst, ◌∙◌, slice_index_or}
use Rattle.std.proofs.Math.ListN.{drop_of_length-le}
use Rattle.std.proofs.lemmas.List.{append-nil}
use Rattle.std.proofs.lemmas.Option.{slice_get_past, slice_get_read}
use Rattle.mq_core.specs.Values.{CoreValue}
use Rattle.mq_net_stands.specs.declared.standing.ManagerStanding.{ManagerStanding}
use Rattle.mq_spec_node.specs.Words.{Own, node_of}
use Rattle.mq_world.specs.Words.{RestState}
use Rattle.mq_run.specs.Leaves.{manager_stands, node_at_rest, node_resting}

-- behind the last of them
pub none_at : {A : Type 0} (xs ys : List A) (i : ℕ) → xs ≡ ys → length xs ≤ i → slice_get ys i ≡ None
none_at xs ys i same past = ap (λ (zs : List _). slice_get zs i) (sym same) ∙ slice_get_past xs i past

pub one_at : {A : Type 0} (xs ys : List A) (i : ℕ) (x : A) → xs ≡ ys → i < length xs → x ≡ slice_index_or xs i x → slice_get ys i ≡ Some x
one_at xs ys i x same within is = ap (λ (zs : List _). slice_get zs i) (sym same) ∙ slice_get_read xs (length xs) i x refl within is

pub no_node : (w : RestState) (m : ℕ) → slice_get w.managers m ≡ None → None ≡ node_at_rest w m
no_node w m none = sym (ap (λ (o : Option CoreValue). node_resting o (slice_get w.owns m)) none)

pub one_node : (w : RestState) (m : ℕ) (u v : CoreValue) (own : Own) → u ≡ v → slice_get w.managers m ≡ Some v → slice_get w.owns m ≡ Some own → Some (node_of u.plain own) ≡ node_at_rest w m
one_node w m u v own same there its =
    ap (λ (x : CoreValue). Some (node_of x.plain own)) same
    ∙ sym (ap (λ (o : Option CoreValue). node_resting o (slice_get w.owns m)) there ∙ ap (node_resting (Some v)) its)

-- all of them
pub all_stand : (ms : List ManagerStanding) (xs vs : List CoreValue) (n : ℕ) → xs ≡ vs → length xs ≤ n → ms ++ map manager_stands (drop n vs) ≡ map manager_stands vs → ms ≡ map manager_stands vs
all_stand ms xs vs n same past h =
    let none : drop n vs ≡ [] = drop_of_length-le vs (subst (λ (zs : List CoreValue). length zs ≤ n) same past) in
    sym (ap (λ (zs : List CoreValue). ms ++ map manager_stands zs) none ∙ append-nil ms) ∙ h
