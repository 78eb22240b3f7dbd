use Rattle.std.proofs.Common.{arith, [], ◌∷◌, ◌++◌, rules, inl, inr}
use Rattle.std.proofs.lemmas.List.{append-nil, flat_map_more}
use Rattle.tui_print.specs.Print.{run_line}
use Rattle.tui_io.proofs.Printing.{Prints-none, Prints-then}
use Rattle.tui_print.proofs.RunLemmas.{IsStretch, unstyled_first, run_of, more_unstyled, more_run, all_runs, stretch_of}
use Rattle.tui_print.proofs.runs.emit_row_runs.Goals as goal

pub loop-start-init : goal.loop-start-init
loop-start-init g c = (c.requires.within, ([], unstyled_first c.args.row.now c.args.first c.requires.within c.requires.rest c.requires.styled, Prints-none _ _))

pub loop-start-preserved : goal.loop-start-preserved
loop-start-preserved g c =
    let row = c.args.row.now in
    let s = c.loop-start.start in
    let e = c.run_end-end.result in
    let a = c.attributes_in-attributes.result in
    let inv = c.loop-start.invariant in
    let line = run_line c.args.number in
    let t : IsStretch row s e a = stretch_of row s e a c.attributes_in-attributes.ensures c.run_end-end.ensures.within.0 c.run_end-end.ensures.alike c.run_end-end.ensures.other in
    elim c.emit_run.ensures [
      | inl rest ↦ (c.run_end-end.ensures.within.1, (inv.1.0, more_unstyled row s e a inv.1.0 inv.1.1 t rest.0, rw append-nil at (Prints-then inv.1.2 rest.1)))
      | inr styled ↦ (
        c.run_end-end.ensures.within.1,
        (
          inv.1.0 ++ run_of s e a ∷ [],
          more_run row s e a inv.1.0 inv.1.1 t styled.0,
          rw (flat_map_more line [] inv.1.0 (run_of s e a)) at (Prints-then inv.1.2 styled.1),
        ),
      )
    ]

pub returns : goal.returns
returns g c =
    let inv = c.loop-start.invariant in
    (inv.1.0, all_runs c.args.row.now c.loop-start.start inv.1.0 inv.1.1 (search (rules, arith)), inv.1.2)
