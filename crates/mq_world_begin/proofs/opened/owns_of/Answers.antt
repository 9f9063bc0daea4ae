use Rattle.std.specs.Prelude.{◌≡◌, ◌+◌, ◌≤◌, ℕ, Some, length, slice_get, refl}
use Rattle.std.proofs.Common.{ap, subst, sym, ◌∙◌}
use Rattle.std.proofs.lemmas.Option.{slice_get_read}
use Rattle.mq_core.specs.Values.{CoreValue}
use Rattle.mq_spec_node.specs.Words.{Own, begun_anew}
use Rattle.mq_spec_network.specs.Given.{own_at}
use Rattle.mq_world_begin.proofs.PlaceLaws.{each_more, long_more, none_there, some_is}
use Rattle.mq_world_begin.proofs.opened.owns_of.Goals as goal

pub loop-manager-init : goal.loop-manager-init
loop-manager-init g c =
    record {
      all = ap (λ xs. length xs) c.in-Ok.ensures.items;
      many = c.in-Ok.ensures.len;
      room = c.in-Ok.ensures.capacity;
      each = λ m v own at_v at_own. absurd (none_there _ m own c.in-Ok.ensures.items at_own);
    }

pub loop-manager-preserved : goal.loop-manager-preserved
loop-manager-preserved g c =
    let read : slice_get c.args.managers.now c.loop-manager.manager-index ≡ Some c.manager-item.result = slice_get_read _ _ _ _ refl c.loop-manager-test.true c.manager-item.is in
    let number : c.len.result ≡ c.loop-manager.manager-index = c.len.ensures ∙ c.loop-manager.invariant.many in
    let P : ℕ → Own → Type 0 = λ m own. (v : CoreValue) → slice_get c.args.managers.now m ≡ Some v → own ≡ (begun_anew v.plain (own_at c.args.scenario.now m)).own in
    record {
      all = long_more c.loop-manager.owns.items c.with_one-owns.result.items c.in_ok-own.own c.loop-manager.manager-index c.loop-manager.invariant.all c.with_one-owns.ensures.items;
      many = c.with_one-owns.ensures.len ∙ ap (λ (n : ℕ). n + 1) c.loop-manager.invariant.many;
      room = subst (λ (n : ℕ). length c.args.managers.now ≤ n) (sym c.with_one-owns.ensures.capacity) c.loop-manager.invariant.room;
      each = λ m v own at_v at_own.
          each_more P c.loop-manager.owns.items c.with_one-owns.result.items c.in_ok-own.own c.loop-manager.manager-index c.loop-manager.invariant.all c.with_one-owns.ensures.items
          (λ x at_x.
          c.in_ok-own.ensures ∙ ap (λ (n : ℕ). (begun_anew c.manager-item.result.plain (own_at c.args.scenario.now n)).own) number
          ∙ ap (λ (y : CoreValue). (begun_anew y.plain (own_at c.args.scenario.now c.loop-manager.manager-index)).own) (some_is c.manager-item.result x (sym read ∙ at_x)))
          (λ k o at_o x at_x. c.loop-manager.invariant.each k x o at_x at_o) m own at_own v at_v;
    }
