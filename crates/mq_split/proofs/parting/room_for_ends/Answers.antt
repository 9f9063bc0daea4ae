use Rattle.std.proofs.Common.{◌≡◌, ◌≤◌, ◌*◌, ◌++◌, ◌∷◌, [], List, length, sym, ap, subst, arith, rules}
use Rattle.mq_split.specs.Ends.{EachIs}
use Rattle.mq_split.specs.Parting.{EndRowState}
use Rattle.mq_split.proofs.PlaceLaws.{long_snoc}
use Rattle.mq_split.proofs.PartLaws.{rows_room}
use Rattle.mq_split.proofs.parting.room_for_ends.Goals as goal

pub loop-preserved : goal.loop-preserved
loop-preserved g c =
    let row = c.in_ok-row.row in
    let grown : c.push.new.self ≡ c.loop.rows ++ row ∷ [] = search rules in
    let none : row.ends ≡ [] = search rules in
    let wide : 2 * c.args.cables ≤ row.room = search rules in
    record {
      long = omega (arith, ap (λ (l : List EndRowState). length l) grown, long_snoc c.loop.rows row, c.loop.invariant.long);
      each = subst (λ (l : List EndRowState). EachIs (λ (x : EndRowState). (x.ends ≡ []) × (2 * c.args.cables ≤ x.room)) l) (sym grown) (rows_room (2 * c.args.cables) c.loop.rows row c.loop.invariant.each (none, wide));
    }
