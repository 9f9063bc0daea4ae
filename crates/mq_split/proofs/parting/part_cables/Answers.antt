use Rattle.std.proofs.Common.{◌≡◌, ◌<◌, ◌*◌, ℕ, drop, length, refl, subst, ◌∙◌, arith, rules}
use Rattle.std.proofs.lemmas.Option.{slice_get_read}
use Rattle.mq_split.specs.Parting.{AreRows, names_from, none_since}
use Rattle.mq_split.proofs.OpenLaws.{bare_set, last_within, open_at_last, open_less_by}
use Rattle.mq_split.proofs.PlaceLaws.{set_long}
use Rattle.mq_split.proofs.PartLaws.{among_still, ends_are_apart, part_back, part_joined, part_line, part_out, part_rows, rest_joined, rest_rows, rows_begin, rows_end}
use Rattle.mq_split.proofs.parting.part_cables.Goals as goal

pub loop-open-init : goal.loop-open-init
loop-open-init g c =
    let r = c.requires.1 in
    let len : c.args.passes.len ≡ length c.args.passes.items = search rules in
    record {
      few = omega arith;
      rows = refl;
      long = refl;
      opened = r.0;
      bare = r.1.0;
      joined = λ j l x lt line found. r.1.1.1.1.0 j l x line found;
      placed = subst (λ (n : ℕ). AreRows g.b (names_from n (drop n g.b.lines)) (2 * n) c.args.ends.now) len (rows_begin g.b c.args.pipes.now c.args.lines.now c.args.passes.len c.args.ends.now r.1.1.0 r.1.1.1.0.0 r.1.1.1.1.1.1);
    }

pub bounds-pipes-at : goal.bounds-pipes-at
bounds-pipes-at g c =
    let at : c.len-at.result ≡ length c.pop.new.self.items = search rules in
    last_within c.args.pipes.now c.loop-open.passes.items c.pop.new.self.items c.in-Some.open c.len-at.result c.loop-open.invariant.opened c.in-Some.ensures.items at

pub part_cable-requires : goal.part_cable-requires
part_cable-requires g c κs longer =
    let at : c.len-at.result ≡ length c.pop.new.self.items = search rules in
    let r = c.requires.1 in
    let i = c.loop-open.invariant in
    let more = c.in-Some.ensures.items in
    let k = c.len-at.result in
    let passes = c.loop-open.passes.items in
    let rest = c.pop.new.self.items in
    let s = c.in-Some.open in
    let ps = c.args.pipes.now in
    let ls = c.args.lines.now in
    let lt = last_within ps passes rest s k i.opened more at in
    let line_lt : k < length ls = search rules in
    let pipe = slice_get_read ps _ k _ refl lt c.index-pipes-at.is in
    let line = slice_get_read ls _ k _ refl line_lt c.index-lines-at.is in
    let cable = c.at_mut.ensures.value in (
      search rules,
      (
        open_at_last ps passes rest s k c.index-pipes-at.result i.opened more at pipe,
        (
          i.bare k c.at_mut.result.now cable,
          (
            part_line g.b ps ls r.1.1.0 passes rest s k more at c.index-lines-at.result line,
            (
              (part_out g.b ps ls r.1.1.0 passes rest s k more at c.index-pipes-at.result pipe, part_back g.b ps ls r.1.1.0 passes rest s k more at c.index-pipes-at.result pipe),
              (
                part_joined g.b ps ls r.1.1.0 passes rest s k more at g.b.done c.loop-open.cables c.index-lines-at.result c.at_mut.result.now i.joined line cable,
                (
                  among_still ls (length c.args.ends.now) (length c.loop-open.ends) i.rows r.1.1.1.1.1.0 k c.index-lines-at.result line,
                  part_rows g.b ps ls r.1.1.0 passes rest s k more at c.loop-open.ends i.placed,
                ),
              ),
            ),
          ),
        ),
      ),
    )

pub loop-open-preserved : goal.loop-open-preserved
loop-open-preserved g c =
    let at : c.len-at.result ≡ length c.pop.new.self.items = search rules in
    let r = c.requires.1 in
    let i = c.loop-open.invariant in
    let more = c.in-Some.ensures.items in
    let k = c.len-at.result in
    let passes = c.loop-open.passes.items in
    let rest = c.pop.new.self.items in
    let s = c.in-Some.open in
    let ps = c.args.pipes.now in
    let ls = c.args.lines.now in
    let line_lt : k < length ls = search rules in
    let line = slice_get_read ls _ k _ refl line_lt c.index-lines-at.is in
    record {
      few = search rules;
      rows = c.part_cable.ensures.all ∙ i.rows;
      long = set_long c.loop-open.cables k c.part_cable.new.cable ∙ i.long;
      opened = open_less_by ps passes rest s i.opened more;
      bare = bare_set c.loop-open.cables k c.part_cable.new.cable c.part_cable.ensures.bare i.bare;
      joined = rest_joined g.b ps ls r.1.1.0 passes rest s k more at g.b.done c.loop-open.cables c.part_cable.new.cable i.joined;
      placed = rest_rows g.b ps ls r.1.1.0 passes rest s k more at c.index-lines-at.result c.part_cable.new.ends line c.part_cable.ensures.rows;
    }

pub returns-clause-ends : goal.returns-clause-ends
returns-clause-ends g c =
    let none : length c.loop-open.passes.items ≡ 0 = search rules in
    rows_end g.b c.args.pipes.now c.args.lines.now (length c.loop-open.passes.items) _ c.loop-open.ends c.requires.1.1.1.0 none c.loop-open.invariant.placed

pub returns-clause-apart : goal.returns-clause-apart
returns-clause-apart g c =
    let none : length c.loop-open.passes.items ≡ 0 = search rules in
    λ m r at. ends_are_apart g.b none_since c.args.lines.now m r.ends
    (rows_end g.b c.args.pipes.now c.args.lines.now (length c.loop-open.passes.items) _ c.loop-open.ends c.requires.1.1.1.0 none c.loop-open.invariant.placed m r at)

pub returns-clause-free : goal.returns-clause-free
returns-clause-free g c = λ m r at. (c.loop-open.invariant.placed m r at).free
