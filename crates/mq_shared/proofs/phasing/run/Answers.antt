use Rattle.std.proofs.Common.{List, arith, refl, rules, subst, sym, ◌∙◌}
use Rattle.std.specs.Prelude.{Err}
use Rattle.mq_nodes.specs.declared.nodes.Stop.TheVariants as stops
use Rattle.mq_ways.specs.Ways.{CableState}
use Rattle.mq_split.specs.Opening.{wholes}
use Rattle.mq_shared.specs.Phasing.{PhaseRan}
use Rattle.mq_shared.proofs.RanLaws.{nothing_ran}
use Rattle.mq_shared.proofs.phasing.run.Goals as goal

pub run_in-requires : goal.run_in-requires
run_in-requires g c κs within =
    let e = c.in-Ok.ensures in
    let r = c.requires in
    let ends = e.ends in
    let rows = e.rows in
    let locks = e.locks in
    let nodes = e.nodes in
    let back = e.back in (
      search rules,
      (
        search rules,
        (
          search rules,
          (
            search rules,
            (
              search rules,
              (
                search rules,
                (
                  search rules,
                  (
                    search rules,
                    (
                      search rules,
                      (
                        refl,
                        (
                          r.begun,
                          (
                            r.may,
                            (
                              r.open,
                              (
                                r.all,
                                (
                                  r.bare,
                                  (
                                    (ends.0 ∙ c.len.ensures, (λ i x at. let y = ends.1 i x at in let most = y.1 in (y.0, omega (arith, most, c.len-2.ensures)))),
                                    (
                                      (rows.0 ∙ c.len.ensures, (λ m x at. let y = rows.1 m x at in let most = y.1 in (y.0, omega (arith, most, c.len-3.ensures)))),
                                      (
                                        (locks.0, omega (arith, locks.1, c.len.ensures)),
                                        ((nodes.0, omega (arith, nodes.1, c.len.ensures)), (back.0, omega (arith, back.1, c.len.ensures))),
                                      ),
                                    ),
                                  ),
                                ),
                              ),
                            ),
                          ),
                        ),
                      ),
                    ),
                  ),
                ),
              ),
            ),
          ),
        ),
      ),
    )

pub returns-in-Err-clause-ran : goal.returns-in-Err-clause-ran
returns-in-Err-clause-ran g c =
    let s = c.args.scenario.now in
    let ks = c.args.scripts.now in
    let ns = c.args.nodes.now in
    let kept = c.keep_deadlines in
    subst (λ (ws : List CableState). PhaseRan s ks ns (Err stops.NoMemory) ns kept.new.courses ws) (sym c.close_cables.ensures)
    (nothing_ran s ks ns c.args.courses.now kept.new.courses (wholes c.args.passes.items c.args.cables.now) (Err stops.NoMemory) c.requires.may kept.ensures.long kept.ensures.left tt)
