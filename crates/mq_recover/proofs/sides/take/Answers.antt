use Rattle.std.proofs.Common.{sym, ap, ◌∙◌}
use Rattle.std.specs.Prelude.{option_map}
use Rattle.std.specs.BTreeMap.{is_at}
use Rattle.mq_sync.specs.Settlement.{sender_or}
use Rattle.mq_recover.specs.Kept.{name_cmp, key_named, hardened_of}
use Rattle.mq_recover.proofs.SideLaws.{sender_found}
use Rattle.mq_recover.proofs.StrikeLaws.{kept_found}
use Rattle.mq_recover.proofs.sides.take.Goals as goal

pub returns-in-None-clause-was : goal.returns-in-None-clause-was
returns-in-None-clause-was c = λ struck.
    ap (hardened_of struck) c.blank-in-None.ensures
    ∙ sym (ap sender_or (sender_found (key_named c.args.channel) struck c.args.sides.now.entries ∙ ap (option_map (hardened_of struck)) (sym c.in_ok-before.ensures.old ∙ c.in-None.is)))

pub returns-in-Some-clause-was : goal.returns-in-Some-clause-was
returns-in-Some-clause-was c = λ struck.
    sym (ap sender_or (sender_found (key_named c.args.channel) struck c.args.sides.now.entries ∙ ap (option_map (hardened_of struck)) (sym c.in_ok-before.ensures.old ∙ c.in-Some.is)))

pub returns-in-Some-clause-kept : goal.returns-in-Some-clause-kept
returns-in-Some-clause-kept c = λ known clock each.
    kept_found known clock (is_at (name_cmp (key_named c.args.channel))) c.args.sides.now.entries c.in-Some.kept each (sym c.in_ok-before.ensures.old ∙ c.in-Some.is)
