-- What a record and a table that agree give to the answers: the kept references as one reach from the first kept start to the
-- next tick, and so the range of ticks that they cover.
use mathlib.Core.Path.{◌≡◌, sym, ap, ◌∙◌}
use mathlib.Core.Bool.{true}
use mathlib.Core.List.{List, []}
use Prim.Native.Nat.{ℕ, ◌<◌}
use native.Mathlib.Omega.{arith}
use lib.ListN.{length, get_or}
use Rattle.window.specs.Window.{Stretch}
use Rattle.std.specs.Prelude.{Option}
use Rattle.window.specs.declared.Ticks.{Ticks}
use Rattle.window.specs.Ticks.{named, NeededTicks}
use Rattle.runs.specs.Words.{runs_of, references_of, kept_in}
use Rattle.runs.proofs.EndToStart.{kept_join, kept_end}
use Rattle.runs.proofs.Tables.{used_words}
use Rattle.agreement.specs.declared.Record.{Record}
use Rattle.agreement.specs.Agreement.{agrees, kept}
use Rattle.agreement.proofs.Agreeing.{agree_shaped, agree_within, agreeing}
use Rattle.answers.specs.declared.Verdict.{Verdict}
use Rattle.answers.specs.Cover.{covered_by}
use Rattle.answers.specs.Judgement.{verdict_of}
use Rattle.answers.specs.Ranges.{in_range, verdict_by, past_named, Reach}
use Rattle.answers.proofs.Covering.{reach_cover}
use Rattle.answers.proofs.Judging.{verdict_ranges}

module _ (rec : Record) (ws : List ℕ) (a : agrees rec ws ≡ true) where
  pub none_reach : rec.used ≡ 0 → Reach rec.next.0 rec.next.0 (kept rec ws)
  unfolding runs_of references_of
  none_reach e =
      let none : kept rec ws ≡ [] = ap (λ (n : ℕ). kept_in n ws) e in
      record { joined = rw none tt; ends = (agreeing rec ws a).ends }

  module _ (o : rec.used ≡ 0 → ⊥) where
    pub first_there : 0 < length ws
    first_there = omega (arith, used_words rec.used ws (agree_shaped rec ws a))

    pub first_reach : Reach (get_or ws 0 0) rec.next.0 (kept rec ws)
    first_reach =
        let shape = agree_shaped rec ws a in
        record {
          joined = kept_join rec.used ws shape;
          ends = kept_end rec.used ws shape (get_or ws 0 0) o ∙ sym (kept_end rec.used ws shape rec.next.0 o) ∙ (agreeing rec ws a).ends;
        }

  -- THE LAW: kept references cover one range, up to the next tick
  pub kept_cover : (from : ℕ) → Reach from rec.next.0 (kept rec ws) → (k : ℕ) → covered_by (kept rec ws) k ≡ in_range from rec.next.0 k
  kept_cover from r = reach_cover from rec.next.0 (kept rec ws) r (agree_within rec ws a)

  -- the verdict that the code finds is the one of the kept references
  pub agreed_verdict : (w : Stretch) (x : Option Ticks) (from : ℕ) (v : Verdict) → NeededTicks rec.head w x → Reach from rec.next.0 (kept rec ws) →
      v ≡ verdict_by (named x) (in_range from rec.next.0) (past_named x) → v ≡ verdict_of rec.head w (kept rec ws)
  agreed_verdict w x from v n r e = e ∙ verdict_ranges rec.head w (kept rec ws) x from rec.next.0 n r (agree_within rec ws a)
