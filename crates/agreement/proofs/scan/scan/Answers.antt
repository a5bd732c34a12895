use Rattle.std.proofs.Common.{sym, ap, ◌∙◌}
use Rattle.runs.specs.Walk.{runs_left}
use Rattle.agreement.proofs.Scanning.{scan_none, scan_unheld, scan_holds, scan_apart, scan_broken, scan_again, scan_ends}
use Rattle.agreement.proofs.scan.scan.Goals as goal
use Rattle.agreement.proofs.scan.scan.Goals.{then-not-joins-via-then-not-joins, then-not-joins-via-else-not-joins+then-not-held-2}

pub returns-in_default : goal.returns-in_default
returns-in_default c = scan_none _ (sym c.of-runs.ensures ∙ c.in_default.ensures.steps.0)

pub returns-then-not-held : goal.returns-then-not-held
returns-then-not-held c = scan_unheld _ _ _ (sym c.of-runs.ensures ∙ c.in-Some.ensures.steps) _ c.held.ensures c.if-not-held.true

pub loop-run-init : goal.loop-run-init
loop-run-init c =
    scan_holds _ _ _ (sym c.of-runs.ensures ∙ c.in-Some.ensures.steps) _ c.held.ensures c.if-not-held.false _
    (ap runs_left c.into_iter-run-iterator.ensures.into_iter_gives)

pub returns-then-not-joins : goal.returns-then-not-joins
returns-then-not-joins c =
    elim c.then-not-joins.branch [
      | then-not-joins-via-then-not-joins w ↦
          scan_apart _ _ _ _ _ c.loop-run.invariant _ _ c.in-Some-run.ensures.steps _ c.joins.ensures w.if-not-joins.true
      | then-not-joins-via-else-not-joins+then-not-held-2 w ↦
          scan_broken _ _ _ _ _ c.loop-run.invariant _ _ c.in-Some-run.ensures.steps _ c.joins.ensures w.if-not-joins.false
          _ w.held-else-not-joins.ensures w.if-not-held-2.true
    ]

pub loop-run-preserved : goal.loop-run-preserved
loop-run-preserved c =
    scan_again _ _ _ _ _ c.loop-run.invariant _ _ c.in-Some-run.ensures.steps _ c.joins.ensures c.if-not-joins.false
    _ c.held-else-not-joins.ensures c.if-not-held-2.false

pub returns : goal.returns
returns c = scan_ends _ _ _ _ _ c.loop-run.invariant c.in-None.ensures.steps.0 _ _ c.reference.ensures c.reference-2.ensures
