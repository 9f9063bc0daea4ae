use Rattle.std.proofs.Common.{◌<◌, length, arith, subst, sym, refl, rules}
use Rattle.std.specs.Prelude.{List}
use Rattle.mq_split.specs.Ends.{EachIs}
use Rattle.mq_shared.specs.Held.{IsScriptIn, ScriptState, entries_begun}
use Rattle.mq_shared.specs.Sharing.{is_here}
use Rattle.mq_shared.proofs.ShareLists.{there}
use Rattle.mq_shared.proofs.ShareLaws.{each_last, named_more, out_ahead, out_long, out_others, script_in}
use Rattle.mq_shared.proofs.courses.hold_scripts.Goals as goal

pub loop-at-preserved : goal.loop-at-preserved
loop-at-preserved g c =
    let h = c.loop-at.invariant in
    let at = c.loop-at.at in
    let s = c.args.scenario.now in
    let ks = c.args.scripts.now in
    let m = c.args.manager in
    let lt : at < length s.scripts = search rules in
    let p = there s.scripts at lt in
    let o = there c.loop-at.courses at (omega (arith, lt, h.long, c.requires.1.1.0)) in
    let held = c.hold_one.ensures.held p.0 o.0 p.1 o.1 in
    let out = c.hold_one.ensures.out p.0 p.1 in
    let state : ScriptState = record { script = at; part = p.0; moment = c.args.moment; course = o.0 } in
    record {
      named = named_more ks m at s.scripts p.0 state c.loop-at.row.scripts c.hold_one.new.row.scripts _ p.1 refl held h.named;
      each = each_last (IsScriptIn g.b m (entries_begun g.b m)) (is_here ks m at p.0) state c.loop-at.row.scripts c.hold_one.new.row.scripts held
          (script_in (record { scenario = s; scripts = ks }) g.b m at c.args.moment p.0 o.0 c.loop-at.courses c.args.courses.now c.requires.1.1.1.0 c.requires.1.1.1.1.0 c.requires.1.1.1.1.1 p.1 o.1 h.ahead) h.each;
      room = omega (arith, h.room, c.hold_one.ensures.room);
      long = out_long (is_here ks m at p.0) at c.loop-at.courses c.hold_one.new.courses _ out h.long;
      ahead = out_ahead (is_here ks m at p.0) at c.loop-at.courses c.hold_one.new.courses c.args.courses.now out h.ahead;
      others = out_others ks m at s.scripts p.0 c.loop-at.courses c.hold_one.new.courses c.args.courses.now p.1 out h.others;
    }

pub returns-clause-each : goal.returns-clause-each
returns-clause-each g c = subst (λ (l : List ScriptState). EachIs (IsScriptIn g.b c.args.manager (entries_begun g.b c.args.manager)) l) (sym c.into_items.ensures) c.loop-at.invariant.each
