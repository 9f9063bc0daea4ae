use Rattle.std.proofs.Common.{◌≡◌, ◌+◌, ◌-◌, ℕ, List, ◌++◌, Some, None, sym, ap, ◌∙◌, arith}
use Rattle.mq_message.specs.declared.message.Ident.{Ident}
use Rattle.mq_place.proofs.TestLaws.{ok_of}
use Rattle.mq_place.proofs.AfterLaws.{idents_left, idents_start, idents_none, idents_next, idents_done}
use Rattle.mq_place.proofs.local.LocalRows.free_idents.Goals as goal

pub loop-seen-init : goal.loop-seen-init
loop-seen-init g c =
    let whole : c.args.most - 0 ≡ c.args.most = omega arith in
    ap (λ (n : ℕ). c.args.idents.now ++ idents_left n None c.args.self.now.queue.rows) whole
    ∙ ap (λ (is : List Ident). c.args.idents.now ++ is) (idents_start c.args.most c.args.self.now.queue.rows)

pub returns-in_default : goal.returns-in_default
returns-in_default g c =
    sym (idents_done c.loop-seen.idents _ (idents_none (c.args.most - c.loop-seen.seen) c.loop-seen.after c.args.self.now.queue.rows c.in_default.ensures)) ∙ c.loop-seen.invariant

pub loop-seen-preserved : goal.loop-seen-preserved
loop-seen-preserved g c =
    let rows = c.args.self.now.queue.rows in
    let row = c.in-Some.row.now in
    let pushed = ok_of c.push.result (sym c.is_err.ensures.value ∙ c.if-is_err.false) c.push.ensures.ok in
    ap (λ (is : List Ident). is ++ idents_left (c.args.most - (c.loop-seen.seen + 1)) (Some row.place) rows) pushed
    ∙ idents_next c.loop-seen.idents c.args.most c.loop-seen.seen c.loop-seen.after rows row c.len-len.ensures.queue.in_order (omega (arith, c.loop-seen-test.true, c.loop-seen.auto.seen-end)) c.in-Some.ensures
    ∙ c.loop-seen.invariant
