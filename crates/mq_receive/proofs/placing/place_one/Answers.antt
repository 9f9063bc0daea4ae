use Rattle.std.proofs.Common.{Bool, ap, sym, subst, ◌∙◌}
use Rattle.mq_calls.specs.Words.{is_persistent}
use Rattle.mq_core.specs.Views.{PartsValue}
use Rattle.mq_core.specs.Ties.{IsReady}
use Rattle.mq_core.specs.Placing.{put_in_place}
use Rattle.mq_receive.specs.Placed.{undoubted_at}
use Rattle.mq_receive.proofs.placing.place_one.Goals as goal

pub place-requires : goal.place-requires
place-requires g c =
    let m = c.args.arrival.message in
    subst (IsReady c.args.arrival.queue m)
    (sym (c.strike_if.ensures ∙ ap (λ (b : Bool). undoubted_at b m.ident c.drop_row.new.parts) c.lasts-persistent.ensures ∙ ap (λ (x : PartsValue). undoubted_at (is_persistent m) m.ident x) c.drop_row.ensures)) c.requires.ready

pub returns : goal.returns
returns g c =
    let m = c.args.arrival.message in
    c.place.ensures
    ∙ ap (λ (x : PartsValue). put_in_place c.args.arrival.queue m x)
    (c.strike_if.ensures ∙ ap (λ (b : Bool). undoubted_at b m.ident c.drop_row.new.parts) c.lasts-persistent.ensures ∙ ap (λ (x : PartsValue). undoubted_at (is_persistent m) m.ident x) c.drop_row.ensures)
