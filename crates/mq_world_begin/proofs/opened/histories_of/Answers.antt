use Rattle.std.specs.Prelude.{◌≡◌, ◌+◌, ◌≤◌, ℕ, Some, length, slice_get, refl}
use Rattle.std.proofs.Common.{ap, subst, sym, ◌∙◌}
use Rattle.std.proofs.lemmas.Option.{slice_get_read}
use Rattle.mq_history.specs.declared.history.History.{History}
use Rattle.mq_core.specs.Values.{CoreValue}
use Rattle.mq_world_begin.specs.Rested.{OpensWith}
use Rattle.mq_world_begin.proofs.PlaceLaws.{each_more, long_more, none_there, some_is}
use Rattle.mq_world_begin.proofs.opened.histories_of.Goals as goal

pub loop-manager-init : goal.loop-manager-init
loop-manager-init g c =
    record {
      all = ap (λ xs. length xs) c.in-Ok.ensures.items;
      many = c.in-Ok.ensures.len;
      room = c.in-Ok.ensures.capacity;
      each = λ m v h at_v at_h. absurd (none_there _ m h c.in-Ok.ensures.items at_h);
    }

pub history_of-requires : goal.history_of-requires
history_of-requires g c = record { begun = c.requires.begun c.loop-manager.manager-index c.manager-item.result (slice_get_read _ _ _ _ refl c.loop-manager-test.true c.manager-item.is) }

pub loop-manager-preserved : goal.loop-manager-preserved
loop-manager-preserved g c =
    let read : slice_get c.args.managers.now c.loop-manager.manager-index ≡ Some c.manager-item.result = slice_get_read _ _ _ _ refl c.loop-manager-test.true c.manager-item.is in
    let P : ℕ → History → Type 0 = λ m h. (v : CoreValue) → slice_get c.args.managers.now m ≡ Some v → OpensWith g.D.Disk.tells v h in
    record {
      all = long_more c.loop-manager.histories.items c.with_one-histories.result.items c.in_ok-history.history c.loop-manager.manager-index c.loop-manager.invariant.all c.with_one-histories.ensures.items;
      many = c.with_one-histories.ensures.len ∙ ap (λ (n : ℕ). n + 1) c.loop-manager.invariant.many;
      room = subst (λ (n : ℕ). length c.args.managers.now ≤ n) (sym c.with_one-histories.ensures.capacity) c.loop-manager.invariant.room;
      each = λ m v h at_v at_h.
          each_more P c.loop-manager.histories.items c.with_one-histories.result.items c.in_ok-history.history c.loop-manager.manager-index c.loop-manager.invariant.all c.with_one-histories.ensures.items
          (λ x at_x. subst (λ (y : CoreValue). OpensWith g.D.Disk.tells y c.in_ok-history.history) (some_is c.manager-item.result x (sym read ∙ at_x)) c.in_ok-history.ensures)
          (λ k y at_y x at_x. c.loop-manager.invariant.each k x y at_x at_y) m h at_h v at_v;
    }
