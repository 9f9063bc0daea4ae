use Rattle.std.proofs.Common.{◌≡◌, ℕ, List, [], length, ◌++◌, take, arith, rules, sym, ap, refl, ◌∙◌, codes, pos}
use Rattle.std.proofs.lemmas.List.{take_all, append-nil}
use Rattle.mq_message.specs.Layout.{long_bytes}
use Rattle.mq_message.proofs.LayoutLaws.{behind}
use Rattle.mq_heads.specs.Headers.{xqh_bytes, xqh_read}
use Rattle.mq_heads.proofs.HeaderLaws.{XqhFits, xqh_read-xqh_bytes}
use Rattle.mq_message.specs.Descriptor.{md_bytes, md_read}
use Rattle.mq_heads.proofs.transmission.xqh_to_bytes.Goals as goal

pub returns-clause-bytes : goal.returns-clause-bytes
unfolding xqh_bytes
returns-clause-bytes c =
    let whole : take 428 c.put_array-4.new.bytes ≡ c.put_array-4.new.bytes = take_all 428 c.put_array-4.new.bytes (omega arith) in
    let from-4 : List ℕ = md_bytes c.args.header.now.msg_desc ++ [] in
    let from-3 : List ℕ = c.args.header.now.remote_q_mgr_name ++ from-4 in
    let from-2 : List ℕ = c.args.header.now.remote_q_name ++ from-3 in
    let from-1 : List ℕ = long_bytes (pos 1) ++ from-2 in
    sym whole ∙ sym (append-nil (take 428 c.put_array-4.new.bytes))
    ∙ behind (take 428 c.put_array-4.new.bytes) (take 104 c.put_array-3.new.bytes) (md_bytes c.args.header.now.msg_desc) [] (c.put_array-4.ensures ∙ ap (λ (x : List ℕ). take 104 c.put_array-3.new.bytes ++ x) c.md_to_bytes.ensures.bytes)
    ∙ behind (take 104 c.put_array-3.new.bytes) (take 56 c.put_array-2.new.bytes) (c.args.header.now.remote_q_mgr_name) from-4 c.put_array-3.ensures
    ∙ behind (take 56 c.put_array-2.new.bytes) (take 8 c.put_long.new.bytes) (c.args.header.now.remote_q_name) from-3 c.put_array-2.ensures
    ∙ behind (take 8 c.put_long.new.bytes) (take 4 c.put_array.new.bytes) (long_bytes (pos 1)) from-2 c.put_long.ensures
    ∙ behind (take 4 c.put_array.new.bytes) [] (codes "XQH ") from-1 c.put_array.ensures

pub returns-clause-back : goal.returns-clause-back
returns-clause-back c =
    let inside : length (md_bytes c.args.header.now.msg_desc) ≡ 324 = ap length (sym c.md_to_bytes.ensures.bytes) ∙ search rules in
    let fits : XqhFits c.args.header.now = record {
      all = (refl, (search rules, (search rules, (search rules, (inside, tt)))));
      inside = ap md_read (sym c.md_to_bytes.ensures.bytes) ∙ c.md_to_bytes.ensures.back;
    } in
    ap xqh_read (returns-clause-bytes c ∙ sym (append-nil (xqh_bytes c.args.header.now))) ∙ xqh_read-xqh_bytes c.args.header.now [] fits
