use Rattle.std.proofs.Common.{◌≡◌, ℕ, List, [], ◌∷◌, ◌++◌, take, arith, sym, ap, ◌∙◌}
use Rattle.std.proofs.lemmas.List.{take_all, append-nil}
use Rattle.byteorder.specs.Endian.{big_bytes}
use Rattle.mq_message.specs.Layout.{unsigned_bytes}
use Rattle.mq_message.proofs.LayoutLaws.{behind, one_byte}
use Rattle.mq_frame.specs.Frames.{ident_bytes}
use Rattle.mq_record.proofs.fronts.ident_array.Goals as goal

pub returns-clause-bytes : goal.returns-clause-bytes
unfolding unsigned_bytes ident_bytes
returns-clause-bytes c =
    let whole : take 17 c.put_u64-2.new.bytes ≡ c.put_u64-2.new.bytes = take_all 17 c.put_u64-2.new.bytes (omega arith) in
    let from-3 : List ℕ = (big_bytes 8 c.args.ident.now.number) ++ [] in
    let from-2 : List ℕ = (big_bytes 8 c.args.ident.now.incarnation) ++ from-3 in
    sym whole ∙ sym (append-nil (take 17 c.put_u64-2.new.bytes))
    ∙ behind (take 17 c.put_u64-2.new.bytes) (take 9 c.put_u64.new.bytes) (big_bytes 8 c.args.ident.now.number) [] c.put_u64-2.ensures
    ∙ behind (take 9 c.put_u64.new.bytes) (take 1 c.put_u8.new.bytes) (big_bytes 8 c.args.ident.now.incarnation) from-3 c.put_u64.ensures
    ∙ behind (take 1 c.put_u8.new.bytes) [] (c.args.ident.now.manager ∷ []) from-2 (c.put_u8.ensures ∙ ap (λ (x : List ℕ). [] ++ x) (sym (one_byte c.args.ident.now.manager (omega arith))))
