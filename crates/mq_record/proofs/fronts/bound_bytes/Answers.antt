use Rattle.std.proofs.Common.{◌≡◌, ℕ, List, [], ◌∷◌, ◌++◌, take, arith, sym, ap, ◌∙◌}
use Rattle.std.proofs.lemmas.List.{take_all, append-nil}
use Rattle.byteorder.specs.Endian.{big_bytes}
use Rattle.mq_message.specs.Layout.{unsigned_bytes}
use Rattle.mq_message.proofs.LayoutLaws.{behind}
use Rattle.mq_base.specs.Name.{padded}
use Rattle.mq_record.proofs.fronts.bound_bytes.Goals as goal

pub returns-clause-bytes : goal.returns-clause-bytes
unfolding unsigned_bytes
returns-clause-bytes c =
    let whole : take 81 c.put_u32.new.bytes ≡ c.put_u32.new.bytes = take_all 81 c.put_u32.new.bytes (omega arith) in
    let from-5 : List ℕ = (big_bytes 4 c.args.last) ++ [] in
    let from-4 : List ℕ = (big_bytes 8 c.args.session) ++ from-5 in
    let from-3 : List ℕ = (padded 48 c.args.partner.now) ++ from-4 in
    let from-2 : List ℕ = (padded 20 c.args.channel.now) ++ from-3 in
    sym whole ∙ sym (append-nil (take 81 c.put_u32.new.bytes))
    ∙ behind (take 81 c.put_u32.new.bytes) (take 77 c.put_u64.new.bytes) (big_bytes 4 c.args.last) [] c.put_u32.ensures
    ∙ behind (take 77 c.put_u64.new.bytes) (take 69 c.put_array-2.new.bytes) (big_bytes 8 c.args.session) from-5 c.put_u64.ensures
    ∙ behind (take 69 c.put_array-2.new.bytes) (take 21 c.put_array.new.bytes) (padded 48 c.args.partner.now) from-4 (c.put_array-2.ensures ∙ ap (λ (x : List ℕ). take 21 c.put_array.new.bytes ++ x) (c.bytes-2.ensures.bytes))
    ∙ behind (take 21 c.put_array.new.bytes) (take 1 c.put_u8.new.bytes) (padded 20 c.args.channel.now) from-3 (c.put_array.ensures ∙ ap (λ (x : List ℕ). take 1 c.put_u8.new.bytes ++ x) (c.bytes.ensures.bytes))
    ∙ behind (take 1 c.put_u8.new.bytes) [] (7 ∷ []) from-2 c.put_u8.ensures
