use Rattle.std.proofs.Common.{◌≡◌, ◌++◌, length, arith, sym, ap, ◌∙◌}
use Rattle.std.proofs.lemmas.List.{length-map}
use Rattle.mq_text.specs.declared.piece.PieceKind.TheVariants.{Word}
use Rattle.mq_sc_lex.specs.Tokens.{bytes_of, commands_in, numbered}
use Rattle.mq_sc_lex.proofs.CommandLaws.{piece_more, slice_at}
use Rattle.mq_sc_lex.proofs.tokens.Commanding.add_line.Goals as goal

pub slice_of-requires-clause-some : goal.slice_of-requires-clause-some
slice_of-requires-clause-some c = (slice_at c.as_slice-piece-items.result.now 0 (length c.deref.result.now) c.loop-piece.piece-index (record { kind = Word; start = 0; end = 0 }) (rw c.as_slice-piece-items.ensures c.in_ok-pieces.ensures.slices) c.loop-piece-test.true).0

pub slice_of-requires-clause-within : goal.slice_of-requires-clause-within
slice_of-requires-clause-within c =
    let here = slice_at c.as_slice-piece-items.result.now 0 (length c.deref.result.now) c.loop-piece.piece-index (record { kind = Word; start = 0; end = 0 }) (rw c.as_slice-piece-items.ensures c.in_ok-pieces.ensures.slices) c.loop-piece-test.true in
    let same : length c.deref.result.now ≡ length c.deref-in-loop-piece.result.now = ap length (c.deref.ensures.value ∙ sym c.deref-in-loop-piece.ensures.value) in
    omega (arith, here.1, same)

pub span_of-requires-clause-some : goal.span_of-requires-clause-some
span_of-requires-clause-some c = (slice_at c.as_slice-piece-items.result.now 0 (length c.deref.result.now) c.loop-piece.piece-index (record { kind = Word; start = 0; end = 0 }) (rw c.as_slice-piece-items.ensures c.in_ok-pieces.ensures.slices) c.loop-piece-test.true).0

pub span_of-requires-clause-within : goal.span_of-requires-clause-within
span_of-requires-clause-within c =
    let here = slice_at c.as_slice-piece-items.result.now 0 (length c.deref.result.now) c.loop-piece.piece-index (record { kind = Word; start = 0; end = 0 }) (rw c.as_slice-piece-items.ensures c.in_ok-pieces.ensures.slices) c.loop-piece-test.true in
    let same : length c.deref.result.now ≡ length c.args.marks.now = ap length (c.deref.ensures.value ∙ c.in_ok-bytes.ensures) ∙ (let same : length (bytes_of c.args.marks.now) ≡ length c.args.marks.now = simp length-map in same) in
    omega (arith, here.1, same)

pub loop-piece-preserved : goal.loop-piece-preserved
loop-piece-preserved c =
    let bytes : c.deref-in-loop-piece.result.now ≡ bytes_of c.args.marks.now = c.deref-in-loop-piece.ensures.value ∙ c.in_ok-bytes.ensures in
    rw (c.in_ok-add_meaning.ensures, c.in_ok-meaning.ensures, c.slice_of.ensures, bytes, c.span_of.ensures)
    (piece_more c.loop-piece.self c.args.marks.now c.as_slice-piece-items.result.now c.loop-piece.piece-index (record { kind = Word; start = 0; end = 0 }) (c.args.self.now.lines ++ numbered (commands_in c.args.marks.now c.as_slice-piece-items.result.now)) c.loop-piece-test.true c.loop-piece.invariant)
