use Rattle.std.proofs.Common.{◌≡◌, ◌+◌, ◌≤◌, length, drop, ap, sym, ◌∙◌, arith}
use Rattle.mq_text.specs.declared.piece.Front.TheVariants.{Gap, Unclosed, Piece}
use Rattle.mq_text.specs.Pieces.{front_of, pieces_from, pieces_of}
use Rattle.mq_text.proofs.PieceLaws.{gap_passed, unclosed, piece_passed, all_passed, slices_more, slices_within}
use Rattle.mq_text.proofs.piece.pieces.Goals as goal

pub reading-preserved-in-Gap : goal.reading-preserved-in-Gap
reading-preserved-in-Gap c =
    let e : front_of (drop c.reading.at c.args.text.now) ≡ Gap = sym (c.in-Gap.ensures.front ∙ ap front_of c.split_at.ensures.back) in
    record {
      within = omega arith;
      so_far = gap_passed c.reading.pieces c.args.text.now c.reading.at (pieces_from c.args.text.now 0 0) c.reading-test.true e c.reading.invariant.so_far;
      slices = slices_within 0 c.reading.pieces c.reading.at (c.reading.at + 1) c.reading.invariant.slices (omega arith);
    }

pub returns-in-Unclosed-clause-exact : goal.returns-in-Unclosed-clause-exact
unfolding pieces_of
returns-in-Unclosed-clause-exact c =
    let e : front_of (drop c.reading.at c.args.text.now) ≡ Unclosed = sym (c.in-Unclosed.ensures.front ∙ ap front_of c.split_at.ensures.back) in
    unclosed c.reading.pieces c.args.text.now c.reading.at (pieces_from c.args.text.now 0 0) c.reading-test.true e c.reading.invariant.so_far

pub reading-preserved : goal.reading-preserved
reading-preserved c =
    let e : front_of (drop c.reading.at c.args.text.now) ≡ Piece c.in-Piece.kind c.in-Piece.len = sym (c.in-Piece.ensures.front ∙ ap front_of c.split_at.ensures.back) in
    let some = c.in-Piece.ensures.fits in
    let room : c.reading.at + c.in-Piece.len ≤ length c.args.text.now = omega (arith, some.1, c.split_at.ensures.back_len) in
    record {
      within = room;
      so_far = rw c.in_ok-push-in-Piece.ensures.ok (piece_passed c.reading.pieces c.args.text.now c.reading.at c.in-Piece.len c.in-Piece.kind (pieces_from c.args.text.now 0 0) c.reading-test.true e some.0 room c.reading.invariant.so_far);
      slices = rw c.in_ok-push-in-Piece.ensures.ok (slices_more 0 c.reading.pieces (record { kind = c.in-Piece.kind; start = c.reading.at; end = c.reading.at + c.in-Piece.len }) (c.reading.at + c.in-Piece.len) c.reading.invariant.slices (omega (arith, some.0)) (omega arith));
    }

pub returns-clause-exact : goal.returns-clause-exact
unfolding pieces_of
returns-clause-exact c = all_passed c.reading.pieces c.args.text.now c.reading.at (pieces_from c.args.text.now 0 0) c.reading-test.false c.reading.invariant.so_far
