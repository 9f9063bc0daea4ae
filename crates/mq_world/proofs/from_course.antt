-- Laws of mq_course, passed on to the crates above.
pub use Rattle.mq_course.proofs.CourseLaws as CourseLaws
