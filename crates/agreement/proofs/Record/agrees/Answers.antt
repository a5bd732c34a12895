use Rattle.std.proofs.Common.{rules}
use Rattle.agreement.proofs.Agreeing.{is_sized, is_held, not_held, no_capacity, not_zeros, agrees_found}
use Rattle.agreement.proofs.Record.agrees.Goals as goal
use Rattle.agreement.proofs.Record.agrees.Goals.{then-not-held-via-then-not-held, then-not-held-via-else-not-held+then-table-self}

pub returns-then-not-held : goal.returns-then-not-held
returns-then-not-held c =
    elim c.then-not-held.branch [
      | then-not-held-via-then-not-held w ↦ not_held _ _ _ c.held.ensures w.if-not-held.true
      | then-not-held-via-else-not-held+then-table-self w ↦ no_capacity _ _ _ c.held.ensures w.if-not-held.false w.if-table-self.true
    ]

pub fits-requires : goal.fits-requires
fits-requires c = search (rules, is_sized, is_held)

pub returns-then-all_zero : goal.returns-then-all_zero
returns-then-all_zero c =
    agrees_found _ _ _ c.held.ensures c.if-not-held.false c.if-table-self.false _ c.all_zero.ensures c.if-all_zero.true
    _ c.scan.ensures _ c.fits.ensures

pub returns-else-all_zero : goal.returns-else-all_zero
returns-else-all_zero c =
    not_zeros _ _ _ c.held.ensures c.if-not-held.false c.if-table-self.false _ c.all_zero.ensures c.if-all_zero.false
