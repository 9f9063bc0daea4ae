-- Words of this crate and of the layers below that its clauses name.
pub use Rattle.mq_base.specs.Name.{label_of, name_of}
pub use Rattle.mq_history.specs.Scenarios.{IsScenario}
pub use Rattle.mq_nodes.specs.Texts.{AllFit}
pub use Rattle.mq_soak.specs.Drawn.{next, upper}
pub use Rattle.mq_soak.specs.Line.{is_ok, is_put, manager_part, puts_of, rows_at, soak_line}
pub use Rattle.mq_soak.specs.Soak.{begin, cable, cables, commit_after, define, define_local, define_receiver, define_sender, define_transmission, first_commands, lines_in, lines_to, manager, managers, options_by, put, round, script, second_commands, section, sections, send_by_default, soak, start, steps_to, stop, stop_after, third_commands}
pub use Rattle.mq_soak.specs.Texts.{IsText}
