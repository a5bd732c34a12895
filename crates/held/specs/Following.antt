-- A segment as two calls: an append, and then a trim of what it left, whatever it answered. So a gap still trims, and a clock over
-- its limit leaves the append standing; the one call of W-208 does neither. Each call has its own outcome. Paper: Append and trim;
-- document 02, W-207 and W-208.
use Rattle.std.specs.Prelude.{ℕ, List}
use Rattle.units.specs.declared.WideMillis.{WideMillis}
use Rattle.units.specs.declared.standing.Standing.{Standing}
use Rattle.agreement.specs.declared.Record.{Record}
use Rattle.timeline.specs.Appending.{append_answer, append_table}
use Rattle.timeline.specs.Trimming.{trim_answer, trim_table}
use Rattle.held.specs.declared.following.Followed.{Followed}

abbrev pub followed : Record → List ℕ → Standing → ℕ → ℕ → WideMillis → Followed
followed rec ws st d n c =
    let appended = append_answer rec ws st d n in
    let trimmed = trim_answer appended.rec (append_table rec ws st d n) c in
    record { appended = appended.outcome; trimmed = trimmed.outcome; rec = trimmed.rec }

abbrev pub followed_table : Record → List ℕ → Standing → ℕ → ℕ → WideMillis → List ℕ
followed_table rec ws st d n c = trim_table (append_answer rec ws st d n).rec (append_table rec ws st d n) c
