use Rattle.std.proofs.Common.{◌≡◌, Bool, true, None, cond, sym, ap, ◌∙◌}
use Rattle.mq_message.specs.declared.message.Ident.{Ident}
use Rattle.mq_queue.specs.Rows.{same_ident}
use Rattle.mq_place.specs.Homes.{home_of, is_home}
use Rattle.mq_place.proofs.TestLaws.{and_true}
use Rattle.mq_place.proofs.homes.drop_home.Goals as goal

pub returns-then-is_home-clause-home : goal.returns-then-is_home-clause-home
returns-then-is_home-clause-home c =
    let homes = c.args.homes.now in
    let ident = c.args.ident.now in
    let name = c.args.name.now in
    let here : is_home name (home_of homes ident) ≡ true = ap (is_home name) (sym c.home_of.ensures) ∙ sym c.is_home.ensures ∙ c.if-is_home.true in
    λ (other : Ident). c.swap_remove-name.ensures.updates.0 other
    ∙ ap (λ (b : Bool). cond b None (home_of homes other)) (and_true (same_ident ident other) (is_home name (home_of homes ident)) here)
