-- What a binding of another language may rely on, so that each of its timelines agrees. An accepted call that changes, and an accepted reading,
-- leave a record and a table that agree. Whether words agree is told by a call that only looks: asked for the runs that touch tick 0, it is
-- refused for disagreement and for nothing else; so is a call for the full tick of a stamp. A number that is wider than a reference's
-- can be is not kept, nor at any clock within the limit. And a table may be given more room: zeros behind it change no agreement that
-- there is, nor what is kept.
-- Paper: Record and table; Refusal numbers, 2 and 13.
use Rattle.std.specs.Prelude.{ℕ, ◌≤◌, ◌<◌, ◌≡◌, Bool, true, cond, List, ◌++◌, ℤ, length, replicate}
use Rattle.units.specs.Limits.{largest_span, largest_millis, largest_number}
use Rattle.agreement.specs.Agreement.{kept, agrees}
use Rattle.words.specs.Words.{record_words, record_of}
use Rattle.flonterri.specs.Face.{Changes, Leaves, opens, appends, appends_stamp, appends_trim, trims, tells_touching, tells_availability, reads, tells_available, tells_full_tick}

-- whether the record that words mean agrees with a table
abbrev pub agreed : List ℕ → List ℕ → Bool
agreed ws ts = agrees (record_of ws) ts

-- accepted, a call leaves words that agree; and so does one that tells as well
abbrev pub LeavesAgreed : Changes → Type 0
LeavesAgreed x = x.number ≡ 0 → agreed x.words x.table ≡ true

abbrev pub TellsAgreed : Leaves → Type 0
TellsAgreed x = x.number ≡ 0 → agreed x.words x.table ≡ true

pub record Binding : Type 0 where
  -- opening, of any head fields and first tick
  pub opening : (ws ts : List ℕ) (timescale offset start duration depth first update tick : ℕ) →
      LeavesAgreed (opens ws ts timescale offset start duration depth first update tick)
  -- appends, by full tick and by stamp; a duration is one of 32 bits, as its type says
  pub append : (ws ts out : List ℕ) (start d n : ℕ) → d ≤ largest_span → TellsAgreed (appends ws ts out start d n)
  pub append_stamp : (ws ts out : List ℕ) (stamp d n : ℕ) → d ≤ largest_span → TellsAgreed (appends_stamp ws ts out stamp d n)
  -- an append and then a trim
  pub append_trim : (ws ts out : List ℕ) (stamp d n c : ℕ) → d ≤ largest_span → TellsAgreed (appends_trim ws ts out stamp d n c)
  -- trim
  pub trim : (ws ts : List ℕ) (c : ℕ) → LeavesAgreed (trims ws ts c)
  -- reading, of any bytes
  pub read : (bytes ws ts out : List ℕ) → TellsAgreed (reads bytes ws ts out)
  -- the runs that touch the ticks from 0 up to 1: 0 where record and table agree, else 2
  pub touching : (ws ts out : List ℕ) → length ws ≡ record_words → length out ≡ 2 →
      (tells_touching ws ts 0 1 out).number ≡ cond (agreed ws ts) 0 2
  -- a number over 2^32 - 1 is 13
  pub wide_number_lem : (ws ts : List ℕ) (n : ℕ) (out : List ℤ) → length ws ≡ record_words → length out ≡ 3 → agreed ws ts ≡ true → largest_number < n →
      (tells_availability ws ts n out).number ≡ 13
  pub wide_number_at : (ws ts : List ℕ) (n c : ℕ) (out : List ℕ) → length ws ≡ record_words → length out ≡ 1 → agreed ws ts ≡ true →
      c ≤ largest_millis → largest_number < n → (tells_available ws ts n c out).number ≡ 13
  -- the full tick of a stamp: 0 where record and table agree, whether there is one or not, else 2
  pub full_tick_lem : (ws ts : List ℕ) (stamp : ℕ) (out : List ℕ) → length ws ≡ record_words → length out ≡ 2 →
      (tells_full_tick ws ts stamp out).number ≡ cond (agreed ws ts) 0 2
  -- more room: agreeing words agree with zeros behind the table, and keep the same references
  pub grown : (ws ts : List ℕ) (n : ℕ) → agreed ws ts ≡ true →
      (agreed ws (ts ++ replicate n 0) ≡ true) × (kept (record_of ws) (ts ++ replicate n 0) ≡ kept (record_of ws) ts)
