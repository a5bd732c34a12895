-- A desk that is fed a piece while the clock line is not ended: that line goes on or ends, and what stands behind it goes to the reader.
use mathlib.Core.Path.{◌≡◌, sym, ap, ap₂, ◌∙◌}
use mathlib.Core.Bool.{true, cond}
use mathlib.Core.List.{List}
use Prim.Native.Nat.{ℕ, ◌+◌, ◌-◌, ◌≤◌}
use native.Mathlib.Omega.{arith}
use lib.ListN.{length, take, drop, length-drop}
use lib.Seq.{take_all}
use mir.Syntax.{w64}
use mir.Val.{Fits}
use Rattle.std.specs.Prelude.{Result, Some}
use Rattle.agreement.specs.declared.refusal.Refusal.{Refusal}
use Rattle.file.specs.declared.LineSoFar.{LineSoFar}
use Rattle.file.specs.Lines.{has_feed, first_line, behind_first}
use Rattle.file.specs.SoFar.{first_bytes, goes_on}
use Rattle.file.proofs.Cuts.{line_within, line_is, unfed, fed as has_fed, behind_is}
use Rattle.report.specs.declared.Asked.{Asked}
use Rattle.report.specs.declared.Desk.{Desk}
use Rattle.report.specs.Clock.{asked_on}
use Rattle.report.specs.Feeding.{read_on, with_more, with_end, line_on}

module _ (d : Desk) (ws piece : List ℕ) (end : ℕ) (e : end ≡ length (first_line piece)) where
  line_same : take end piece ≡ first_line piece
  line_same = ap (λ (n : ℕ). take n piece) e ∙ line_is piece

  pub end_within : end ≤ length piece
  end_within = omega (arith, line_within piece)

  module _ (l : LineSoFar) (k : l ≡ goes_on d.line (take end piece)) where
    gone_on : record { asked = d.asked; line = l; reader = d.reader } ≡ with_more d (first_line piece)
    gone_on =
        ap (λ (m : LineSoFar). record { asked = d.asked; line = m; reader = d.reader }) (k ∙ ap (goes_on d.line) line_same)

    pub line_more : end ≡ length piece → record { desk = record { asked = d.asked; line = l; reader = d.reader }; words = ws } ≡ line_on d ws piece
    unfolding line_on
    line_more all =
        ap (λ (x : Desk). record { desk = x; words = ws }) gone_on ∙
        sym
        (ap (λ t. cond t (read_on (with_end (with_more d (first_line piece))) ws (behind_first piece)) (record { desk = with_more d (first_line piece); words = ws }))
        (unfed piece (sym e ∙ all)))

    module _ (some : end ≡ length piece → ⊥) where
      pub next_fits : Fits w64 (length piece) → Fits w64 (end + 1)
      next_fits f = record { fits = omega (arith, f.fits, end_within) }

      pub next_within : end + 1 ≤ length piece
      next_within = omega (arith, end_within)

      pub line_ended : (a : Result Asked Refusal) → a ≡ asked_on (first_bytes l) → (r : Desk) (vs : List ℕ) →
          record { desk = r; words = vs } ≡ read_on (record { asked = Some a; line = l; reader = d.reader }) ws (take (length piece - (end + 1)) (drop (end + 1) piece)) →
          record { desk = r; words = vs } ≡ line_on d ws piece
      unfolding line_on
      line_ended a j r vs q =
          let there : has_feed piece ≡ true = has_fed piece (λ z. some (e ∙ z)) in
          let behind : take (length piece - (end + 1)) (drop (end + 1) piece) ≡ behind_first piece =
          take_all (length piece - (end + 1)) (drop (end + 1) piece) (omega (arith, length-drop (end + 1) piece)) ∙
          ap (λ (n : ℕ). drop (n + 1) piece) e ∙
          behind_is piece there
          in
          q ∙
          ap₂ (λ (y : Desk) (p : List ℕ). read_on y ws p)
          (ap (λ (x : Result Asked Refusal). record { asked = Some x; line = l; reader = d.reader }) j ∙ ap with_end gone_on)
          behind ∙
          sym
          (ap (λ t. cond t (read_on (with_end (with_more d (first_line piece))) ws (behind_first piece)) (record { desk = with_more d (first_line piece); words = ws })) there)
