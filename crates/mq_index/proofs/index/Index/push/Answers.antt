use Rattle.mq_index.proofs.index.Index.push.Goals as goal

pub returns-clause-room : goal.returns-clause-room
returns-clause-room c n h = record { lanes = c.push.ensures.room n h.lanes; msgs = c.push-2.ensures.room n h.msgs; correls = c.push-3.ensures.room n h.correls }
