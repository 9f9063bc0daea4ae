use Rattle.std.proofs.Common.{◌≡◌, ℕ, List, [], ◌∷◌, ◌++◌, take, arith, sym, ap, ◌∙◌}
use Rattle.std.proofs.lemmas.List.{take_all, append-nil}
use Rattle.byteorder.specs.Endian.{big_bytes}
use Rattle.mq_message.specs.Layout.{unsigned_bytes}
use Rattle.mq_message.proofs.LayoutLaws.{behind}
use Rattle.mq_base.specs.Name.{padded}
use Rattle.mq_record.proofs.fronts.closed_bytes.Goals as goal

pub returns-clause-bytes : goal.returns-clause-bytes
unfolding unsigned_bytes
returns-clause-bytes c =
    let whole : take 29 c.put_u64.new.bytes ≡ c.put_u64.new.bytes = take_all 29 c.put_u64.new.bytes (omega arith) in
    let from-3 : List ℕ = (big_bytes 8 c.args.session) ++ [] in
    let from-2 : List ℕ = (padded 20 c.args.channel.now) ++ from-3 in
    sym whole ∙ sym (append-nil (take 29 c.put_u64.new.bytes))
    ∙ behind (take 29 c.put_u64.new.bytes) (take 21 c.put_array.new.bytes) (big_bytes 8 c.args.session) [] c.put_u64.ensures
    ∙ behind (take 21 c.put_array.new.bytes) (take 1 c.put_u8.new.bytes) (padded 20 c.args.channel.now) from-3 (c.put_array.ensures ∙ ap (λ (x : List ℕ). take 1 c.put_u8.new.bytes ++ x) (c.bytes.ensures.bytes))
    ∙ behind (take 1 c.put_u8.new.bytes) [] (8 ∷ []) from-2 c.put_u8.ensures
