-- A record lent as words is 12 of them: timescale, offset, start, duration, depth, first number, update period, accepted, dropped,
-- next tick, greatest clock, runs used. Each field holds any word, and whether the limits are held is asked by agreement, so words and records
-- of words are one to one. Paper: Record and table.
use Rattle.std.specs.Prelude.{ℕ, List, [], ◌∷◌, get_or}
use Rattle.window.specs.declared.Head.{Head}
use Rattle.agreement.specs.declared.Record.{Record}

abbrev pub record_words : ℕ
record_words = 12

abbrev pub head_with : ℕ → ℕ → ℕ → ℕ → ℕ → ℕ → ℕ → Head
head_with timescale offset start duration depth first update =
    record {
      timescale = record { 0 = timescale };
      offset = record { 0 = offset };
      start = record { 0 = start };
      duration = record { 0 = duration };
      depth = record { 0 = depth };
      first = record { 0 = first };
      update = record { 0 = update };
    }

unfoldable pub record_of : List ℕ → Record
record_of ws =
    record {
      head = head_with (get_or ws 0 0) (get_or ws 1 0) (get_or ws 2 0) (get_or ws 3 0) (get_or ws 4 0) (get_or ws 5 0) (get_or ws 6 0);
      accepted = get_or ws 7 0;
      dropped = get_or ws 8 0;
      next = record { 0 = get_or ws 9 0 };
      clock = record { 0 = get_or ws 10 0 };
      used = get_or ws 11 0;
    }

unfoldable pub words_of : Record → List ℕ
words_of rec =
    rec.head.timescale.0
    ∷ rec.head.offset.0
    ∷ rec.head.start.0
    ∷ rec.head.duration.0
    ∷ rec.head.depth.0
    ∷ rec.head.first.0
    ∷ rec.head.update.0
    ∷ rec.accepted
    ∷ rec.dropped
    ∷ rec.next.0
    ∷ rec.clock.0
    ∷ rec.used
    ∷ []
