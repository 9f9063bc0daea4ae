use Rattle.std.proofs.Common.{◌≡◌, ℕ, List, [], ◌∷◌, ◌++◌, take, arith, sym, ◌∙◌}
use Rattle.std.proofs.lemmas.List.{take_all, append-nil}
use Rattle.byteorder.specs.Endian.{big_bytes}
use Rattle.mq_message.specs.Layout.{unsigned_bytes}
use Rattle.mq_message.proofs.LayoutLaws.{behind}
use Rattle.mq_record.proofs.fronts.unit_front.Goals as goal

pub returns : goal.returns
unfolding unsigned_bytes
returns c =
    let whole : take 9 c.put_u32-2.new.bytes ≡ c.put_u32-2.new.bytes = take_all 9 c.put_u32-2.new.bytes (omega arith) in
    let from-3 : List ℕ = (big_bytes 4 c.args.removes) ++ [] in
    let from-2 : List ℕ = (big_bytes 4 c.args.adds) ++ from-3 in
    sym whole ∙ sym (append-nil (take 9 c.put_u32-2.new.bytes))
    ∙ behind (take 9 c.put_u32-2.new.bytes) (take 5 c.put_u32.new.bytes) (big_bytes 4 c.args.removes) [] c.put_u32-2.ensures
    ∙ behind (take 5 c.put_u32.new.bytes) (take 1 c.put_u8.new.bytes) (big_bytes 4 c.args.adds) from-3 c.put_u32.ensures
    ∙ behind (take 1 c.put_u8.new.bytes) [] (3 ∷ []) from-2 c.put_u8.ensures
