use Rattle.std.specs.Prelude.{◌≡◌, ◌+◌, ◌≤◌, ℕ, List, Some, length, slice_get}
use Rattle.std.proofs.Common.{ap, subst, sym, ◌∙◌}
use Rattle.mq_history.specs.declared.scenario.Scenario.{Scenario}
use Rattle.mq_core.specs.Values.{CoreValue}
use Rattle.mq_begin.specs.Begun.{Held, moment_or}
use Rattle.mq_begin.proofs.BeganLaws.{as_many}
use Rattle.mq_disk.specs.declared.shelf.Side.TheVariants as sides
use Rattle.mq_world_begin.specs.Rested.{IsRested}
use Rattle.mq_world_begin.proofs.RestLaws.{all_rested, began_at, just_begun, not_begun}
use Rattle.mq_world_begin.proofs.beginning.begin_at_rest.Goals as goal

pub histories_of-requires : goal.histories_of-requires
histories_of-requires g c =
    let held : Held = λ n b. g.H.Shelf.holds c.args.shelf.now n sides.A b in
    let moment : ℕ = moment_or c.args.scenario.now.moment c.args.start in
    let there : (m : ℕ) (v : CoreValue) → slice_get c.as_slice.result.now m ≡ Some v → slice_get c.in-Ok.begun.managers.items m ≡ Some v = λ m v at. ap (λ (xs : List CoreValue). slice_get xs m) (sym c.as_slice.ensures.value) ∙ at in
    record {
      begun = λ m v at. just_begun g.H.D.Disk.tells held moment (0 + m) c.args.scenario.now.managers m v (began_at g.H.D.Disk.tells held moment 0 c.args.scenario.now.managers c.in-Ok.begun.managers.items m v c.in-Ok.ensures.told (there m v at));
    }

pub returns-in-Err-histories_of-clause-told : goal.returns-in-Err-histories_of-clause-told
returns-in-Err-histories_of-clause-told g c =
    not_begun g.H.D.Disk.tells (λ n b. g.H.Shelf.holds c.args.shelf.now n sides.A b) (moment_or c.args.scenario.now.moment c.args.start) c.args.scenario.now.managers c.in-Ok.begun.managers.items _ _ _ _
    c.in-Ok.ensures.told c.no_memory.ensures.fault c.no_memory.ensures.counts c.in-Ok.ensures.later

pub returns-in-Err-owns_of-clause-told : goal.returns-in-Err-owns_of-clause-told
returns-in-Err-owns_of-clause-told g c =
    not_begun g.H.D.Disk.tells (λ n b. g.H.Shelf.holds c.args.shelf.now n sides.A b) (moment_or c.args.scenario.now.moment c.args.start) c.args.scenario.now.managers c.in-Ok.begun.managers.items _ _ _ _
    c.in-Ok.ensures.told c.no_memory-in-Err-owns_of.ensures.fault c.no_memory-in-Err-owns_of.ensures.counts c.in-Ok.ensures.later

pub owns_of-requires : goal.owns_of-requires
owns_of-requires g c =
    let held : Held = λ n b. g.H.Shelf.holds c.args.shelf.now n sides.A b in
    let moment : ℕ = moment_or c.args.scenario.now.moment c.args.start in
    let all : length c.in-Ok.begun.managers.items ≡ length c.args.scenario.now.managers = as_many g.H.D.Disk.tells held moment 0 c.args.scenario.now.managers c.in-Ok.begun.managers.items c.in-Ok.ensures.told in
    let same : length c.as_slice-2.result.now ≡ length c.in-Ok.begun.managers.items = ap (λ (xs : List CoreValue). length xs) c.as_slice-2.ensures.value in
    record {
      scenario = c.requires.scenario;
      few = subst (λ (n : ℕ). n ≤ 8) (sym (same ∙ all)) c.requires.scenario.few.managers.1;
    }

pub invariant_of-result : goal.invariant_of-result
invariant_of-result g c =
    let held : Held = λ n b. g.H.Shelf.holds c.args.shelf.now n sides.A b in
    let moment : ℕ = moment_or c.args.scenario.now.moment c.args.start in
    let same : length c.as_slice.result.now ≡ length c.in-Ok.begun.managers.items = ap (λ (xs : List CoreValue). length xs) c.as_slice.ensures.value in
    let same_owns : length c.as_slice-2.result.now ≡ length c.in-Ok.begun.managers.items = ap (λ (xs : List CoreValue). length xs) c.as_slice-2.ensures.value in
    let long : length c.in-Ok-histories_of.histories.items ≡ length c.in-Ok.begun.managers.items = c.in-Ok-histories_of.ensures.all ∙ same in
    let many : length c.in-Ok-owns_of.owns.items ≡ length c.in-Ok.begun.managers.items = c.in-Ok-owns_of.ensures.all ∙ same_owns in
    let at : (m : ℕ) (v : CoreValue) → slice_get c.in-Ok.begun.managers.items m ≡ Some v → slice_get c.as_slice.result.now m ≡ Some v = λ m v is. ap (λ (xs : List CoreValue). slice_get xs m) c.as_slice.ensures.value ∙ is in
    let at_too : (m : ℕ) (v : CoreValue) → slice_get c.in-Ok.begun.managers.items m ≡ Some v → slice_get c.as_slice-2.result.now m ≡ Some v = λ m v is. ap (λ (xs : List CoreValue). slice_get xs m) c.as_slice-2.ensures.value ∙ is in (
      subst (λ (s : Scenario). IsRested (record { scenario = s; managers = c.in-Ok.begun.managers.items; owns = c.in-Ok-owns_of.owns.items; histories = c.in-Ok-histories_of.histories.items })) (sym c.of.ensures)
          (all_rested g.H.D.Disk.tells held moment c.args.scenario.now c.in-Ok.begun.managers.items c.in-Ok-owns_of.owns.items c.in-Ok-histories_of.histories.items c.requires.scenario c.in-Ok.ensures.told many long
          (λ m v h at_v at_h. c.in-Ok-histories_of.ensures.each m v h (at m v at_v) at_h) (λ m v own at_v at_own. c.in-Ok-owns_of.ensures.each m v own (at_too m v at_v) at_own)),
      c.in-Ok.ensures.room.0,
      c.in-Ok.ensures.room.2,
    )

pub returns-clause-told : goal.returns-clause-told
returns-clause-told g c =
    record {
      scenario = c.of.ensures;
      began = c.in-Ok.ensures.told;
      opened = λ m v h at_v at_h. c.in-Ok-histories_of.ensures.each m v h (ap (λ (xs : List CoreValue). slice_get xs m) c.as_slice.ensures.value ∙ at_v) at_h;
      owned = λ m v own at_v at_own. c.in-Ok-owns_of.ensures.each m v own (ap (λ (xs : List CoreValue). slice_get xs m) c.as_slice-2.ensures.value ∙ at_v) at_own;
    }
