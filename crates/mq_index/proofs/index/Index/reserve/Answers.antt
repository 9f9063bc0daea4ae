use Rattle.mq_index.proofs.index.Index.reserve.Goals as goal

pub returns-in_err-reserve-clause-room : goal.returns-in_err-reserve-clause-room
returns-in_err-reserve-clause-room c n h = record { lanes = c.reserve.ensures.room n h.lanes; msgs = h.msgs; correls = h.correls }

pub returns-in_err-reserve-2-clause-room : goal.returns-in_err-reserve-2-clause-room
returns-in_err-reserve-2-clause-room c n h = record { lanes = c.reserve.ensures.room n h.lanes; msgs = c.reserve-2.ensures.room n h.msgs; correls = h.correls }

pub returns-clause-room : goal.returns-clause-room
returns-clause-room c n h = record { lanes = c.reserve.ensures.room n h.lanes; msgs = c.reserve-2.ensures.room n h.msgs; correls = c.reserve-3.ensures.room n h.correls }
