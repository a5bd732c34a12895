-- The reader and the rows go the same way, line by line: a line is taken exactly where no row holds, and refused with the first row that does.
use mathlib.Core.Path.{◌≡◌, refl, sym, ap, subst, subst⁻¹, ◌∙◌}
use mathlib.Core.Bool.{Bool, true, false, cond, not, ◌&&◌, true≢false}
use mathlib.Core.List.{List, [], ◌∷◌, map}
use Prim.Native.Nat.{ℕ, ◌+◌, ◌-◌}
use native.Mathlib.Omega.{arith}
use borrow.Author.Tests.{ne_eqb}
use lib.Dec.{eqb, ltb}
use lib.ListN.{length, replicate, length-replicate}
use Rattle.units.specs.declared.Tick.{Tick}
use Rattle.units.specs.declared.standing.Standing.TheVariants.{Joins}
use Rattle.units.specs.Standing.{tick_standing}
use Rattle.window.specs.declared.Head.{Head}
use Rattle.window.specs.Limits.{head_held}
use Rattle.agreement.specs.declared.refusal.Refusal.{Refusal}
use Rattle.agreement.specs.declared.refusal.Refusal.TheVariants.{OverLimit, BadLine, BadOrder}
use Rattle.agreement.specs.Agreement.{agrees}
use Rattle.agreement.specs.Numbers.{refusal_number, refusal_distance, answer_distance, answer_number}
use Rattle.std.specs.Prelude.{Option, Some, None, Err, Ok}
use Rattle.keeping.specs.Keeping.{Outcome}
use Rattle.keeping.specs.Keeping.{changed_by, words_by}
use Rattle.keeping.proofs.Outcomes.{outcome_beside as told}
use Rattle.timeline.specs.Opening.{fresh_record, zero_record, open_outcome}
use Rattle.timeline.proofs.Kept.{open_agrees}
use Rattle.frames.specs.declared.Frame.{Frame}
use Rattle.frames.specs.declared.Frame.TheVariants.{Head as HeadFrame, S, End, Clock}
use Rattle.frames.specs.declared.HeadLine.{HeadLine}
use Rattle.frames.specs.declared.SFields.{SFields}
use Rattle.frames.specs.Frames.{frame_of}
use Rattle.file.specs.declared.Stage.{Stage}
use Rattle.file.specs.declared.Stage.TheVariants.{Nothing, Headed, Open, Filled, Ended, Refused}
use Rattle.file.specs.declared.Reading.{Reading}
use Rattle.file.specs.Judging.{File, head_in, refused, taken, later_standing, take_s, opened_by, take_first_s, take_head, take_end, on_nothing, on_headed, on_open, on_filled, on_frame, take_line, take_lines, stop_outcome, answered_by, zeroed}
use Rattle.file.specs.Sound.{Narrow}
use Rattle.file.proofs.Places.{narrow}
use Rattle.laws.specs.Calls.{State, after, opening}
use Rattle.laws.specs.Refusals.{lowest, is_apart, over_limit}
use Rattle.laws.specs.Lines.{start_of, opening_tick, negative, call_of, Place, at_first, after_head, after_s, after_negative, after_end, may_stand, Sofar, appended_rows, timeline_for, line_rows, line_distance, taking, FileResult, accepted, refused_at, unless_refused, judged, beginning}
use Rattle.laws.proofs.Rows.{none as none_there}
use Rattle.laws.proofs.Changing as changing
use Rattle.laws.proofs.Distances.{Told, open_told}
use Rattle.laws.proofs.NoRow.{none_holds, refused_number}
use Rattle.laws.proofs.SLines.{later_stands, first_is, first_stands, Taken, on, off, s_taken}

-- ---- what the reader holds where the rows have come so far, after n lines

abbrev file_at : Place → List ℕ → Head → State → ℕ → File
file_at at_first came h y n = record { reading = record { stage = Nothing; lines = n; rec = zero_record }; words = came }
file_at after_head came h y n = record { reading = record { stage = Headed; lines = n; rec = fresh_record h (record { 0 = 0 }) }; words = came }
file_at after_s came h y n = record { reading = record { stage = Open; lines = n; rec = y.rec }; words = y.words }
file_at after_negative came h y n = record { reading = record { stage = Filled; lines = n; rec = y.rec }; words = y.words }
file_at after_end came h y n = record { reading = record { stage = Ended; lines = n; rec = y.rec }; words = y.words }

abbrev pub held : List ℕ → Sofar → ℕ → File
held came x n = file_at x.place came x.head x.timeline n

-- how far the rows can have come after n lines: there is a line for the head and one for each S, and from the first S on record and table agree
pub data At (came : List ℕ) : Sofar → ℕ → Type 0 where
  none : At came (beginning came) 0
  headed : (h : Head) (y : State) → head_held h ≡ true → At came (record { place = after_head; head = h; count = 0; timeline = y }) 1
  running : (h : Head) (k : ℕ) (y : State) → agrees y.rec y.words ≡ true → length y.words ≡ length came →
      At came (record { place = after_s; head = h; count = k + 1; timeline = y }) (k + 1 + 1)
  filled : (h : Head) (k : ℕ) (y : State) → agrees y.rec y.words ≡ true → length y.words ≡ length came →
      At came (record { place = after_negative; head = h; count = k + 1; timeline = y }) (k + 1 + 1)
  ended : (h : Head) (k : ℕ) (y : State) (n : ℕ) → At came (record { place = after_end; head = h; count = k; timeline = y }) n

-- what a line comes to in both
data Step (came : List ℕ) (x : Sofar) (n : ℕ) (f : Option Frame) (z : File) : Type 0 where
  goes : lowest (line_rows came x f) ≡ 0 → z ≡ held came (taking came x f) (n + 1) → At came (taking came x f) (n + 1) → Step came x n f z
  stops : (why : Refusal) → z.reading.stage ≡ Refused why → z.reading.lines ≡ n → lowest (line_rows came x f) ≡ refusal_number why →
      refusal_distance why ≡ line_distance came x f (refusal_number why) → ltb 0 (refusal_distance why) ≡ is_apart (refusal_number why) → Step came x n f z

-- ---- the head

pub open_number : (h : Head) (t : Tick) → lowest ((over_limit h t, 1) ∷ []) ≡ answer_number (open_outcome h t)
open_number h t = sym (changing.opening h t) ∙ ap answer_number (told (open_outcome h t) _ _)

module _ (came : List ℕ) (h : Head) where
  pub head_number_lem : (b : Bool) → head_held h ≡ b → lowest ((over_limit h (record { 0 = 0 }), 1) ∷ []) ≡ cond b 0 1
  unfolding open_outcome
  head_number_lem b e =
      open_number h (record { 0 = 0 }) ∙
      ap (λ c. answer_number (cond (c && true) (Ok tt) (Err OverLimit))) e ∙
      by b
    where
      by : (c : Bool) → answer_number {A = Unit {0}} (cond (c && true) (Ok tt) (Err OverLimit)) ≡ cond c 0 1
      by true = refl
      by false = refl

module _ (came : List ℕ) (x : HeadLine) where
  abbrev h : Head
  h = head_in x

  head_step : Step came (beginning came) 0 (Some (HeadFrame x)) (take_head (held came (beginning came) 0).reading came h)
  unfolding take_head
  head_step = go (head_held h) refl
    where
      go : (b : Bool) → head_held h ≡ b →
          Step came (beginning came) 0 (Some (HeadFrame x))
          (cond b
          (taken Headed (record { stage = Nothing; lines = 0; rec = zero_record }) (fresh_record h (record { 0 = 0 })) came)
          (refused OverLimit (record { stage = Nothing; lines = 0; rec = zero_record }) came))
      go true e = goes (head_number_lem came h true e) refl (headed h (record { rec = zero_record; words = came }) e)
      go false e = stops OverLimit refl refl (head_number_lem came h false e) refl refl

-- ---- an S line

module _ (came : List ℕ) (x : Sofar) (k : ℕ) (s : SFields) (z : File) (e : x.count ≡ k)
    (rows : lowest (line_rows came x (Some (S s))) ≡ lowest (appended_rows (timeline_for came x s) s)) (long : length (timeline_for came x s).words ≡ length came) where
  s_step : Taken (timeline_for came x s) s (k + 1) z → Step came x (k + 1) (Some (S s)) z
  s_step (on no_row is agreed same) =
      let y = after (timeline_for came x s) (call_of (timeline_for came x s) s) in
      goes (rows ∙ no_row) (is ∙ file (negative s) y) (place (negative s) y agreed (same ∙ long))
    where
      file : (b : Bool) (y : State) →
          ◌≡◌ {A = File} (record { reading = record { stage = cond b Filled Open; lines = k + 1 + 1; rec = y.rec }; words = y.words })
          (file_at (cond b after_negative after_s) came x.head y (k + 1 + 1))
      file true y = refl
      file false y = refl

      at : (b : Bool) (y : State) → agrees y.rec y.words ≡ true → length y.words ≡ length came →
          At came (record { place = cond b after_negative after_s; head = x.head; count = k + 1; timeline = y }) (k + 1 + 1)
      at true y a l = filled x.head k y a l
      at false y a l = running x.head k y a l

      place : (b : Bool) (y : State) → agrees y.rec y.words ≡ true → length y.words ≡ length came →
          At came (record { place = cond b after_negative after_s; head = x.head; count = x.count + 1; timeline = y }) (k + 1 + 1)
      place b y a l =
          subst (λ (m : ℕ). At came (record { place = cond b after_negative after_s; head = x.head; count = m + 1; timeline = y }) (k + 1 + 1)) (sym e) (at b y a l)
  s_step (off why stage lines number t) = stops why stage lines (rows ∙ number) t.distance t.some

-- an opening that is accepted
module _ (came : List ℕ) (h : Head) (s : SFields) (e : open_outcome h (opening_tick s) ≡ Ok tt) where
  pub opened : opening h (opening_tick s) came ≡ record { rec = fresh_record h (opening_tick s); words = replicate (length came) 0 }
  unfolding changed_by words_by
  opened =
      ap (λ o. record { rec = (changed_by o (fresh_record h (opening_tick s)) zero_record).rec; words = words_by o (replicate (length came) 0) came }) e

  pub no_over : over_limit h (opening_tick s) ≡ false
  no_over = (none_holds ((over_limit h (opening_tick s), 1) ∷ []) (omega arith) (open_number h (opening_tick s) ∙ ap answer_number e)).0

  pub open_agreed : agrees (opening h (opening_tick s) came).rec (opening h (opening_tick s) came).words ≡ true
  open_agreed = ap (λ (x : State). agrees x.rec x.words) opened ∙ open_agrees h (opening_tick s) (length came) e

-- the first S opens the timeline, and then its references are appended
module _ (came : List ℕ) (h : Head) (y : State) (s : SFields) (narrowed : Narrow (Some (S s))) where
  abbrev pub early : Sofar
  early = record { place = after_head; head = h; count = 0; timeline = y }

  abbrev unopened : Reading
  unopened = record { stage = Headed; lines = 1; rec = fresh_record h (record { 0 = 0 }) }

  -- the row of 1 by the opening's outcome
  over_row : (why : Refusal) → open_outcome h (opening_tick s) ≡ Err why → lowest (line_rows came early (Some (S s))) ≡ refusal_number why
  over_row why e = go (over_limit h (opening_tick s)) (open_number h (opening_tick s) ∙ ap answer_number e)
    where
      go : (b : Bool) → lowest ((b, 1) ∷ []) ≡ refusal_number why → lowest ((b, 1) ∷ appended_rows (timeline_for came early s) s) ≡ refusal_number why
      go true n = n
      go false n = absurd (true≢false (refused_number why 0 n))

  module _ (e : open_outcome h (opening_tick s) ≡ Ok tt) where
    -- the S line on a timeline, as the rows judge it
    abbrev takes : State → File
    takes x = take_s (record { stage = Headed; lines = 1; rec = x.rec }) x.words (tick_standing (record { 0 = start_of x.rec.next.0 s }) x.rec.next) s

    as_opened : opened_by (Ok tt) unopened came s ≡ takes (opening h (opening_tick s) came)
    as_opened =
        ap (λ t. take_s (record { stage = Headed; lines = 1; rec = fresh_record h t }) (replicate (length came) 0) Joins s) (first_is s) ∙
        ap (λ st. take_s (record { stage = Headed; lines = 1; rec = fresh_record h (opening_tick s) }) (replicate (length came) 0) st s) (first_stands s) ∙
        ap takes (sym (opened came h s e))

    opened_s : Step came early 1 (Some (S s)) (opened_by (Ok tt) unopened came s)
    opened_s =
        s_step came early 0 s (opened_by (Ok tt) unopened came s) refl
        (ap (λ b. lowest ((b, 1) ∷ appended_rows (timeline_for came early s) s)) (no_over came h s e))
        (ap (λ (x : State). length x.words) (opened came h s e) ∙ length-replicate (length came) 0)
        (subst (Taken (opening h (opening_tick s) came) s 1) (sym as_opened)
        (s_taken (opening h (opening_tick s) came) s 1 Headed (open_agreed came h s e) narrowed))

  headed_s : Step came early 1 (Some (S s)) (take_first_s unopened came s)
  unfolding take_first_s
  headed_s =
      subst (Step came early 1 (Some (S s))) (ap (λ t. opened_by (open_outcome h t) unopened came s) (sym (first_is s))) (go (open_outcome h (opening_tick s)) refl)
    where
      go : (o : Outcome) → open_outcome h (opening_tick s) ≡ o → Step came early 1 (Some (S s)) (opened_by o unopened came s)
      go (Ok _) e = opened_s e
      go (Err why) e =
          let next = (timeline_for came early s).rec.next.0 in
          let start = start_of next s in
          let t = subst (λ o. Told o (start - next) (next - start)) e (open_told (start - next) (next - start) h (opening_tick s)) in
          stops why refl refl (over_row why e) t.distance t.some

-- a later S is appended to the timeline as it is
module _ (came : List ℕ) (h : Head) (k : ℕ) (y : State) (s : SFields) where
  abbrev pub late : Sofar
  late = record { place = after_s; head = h; count = k + 1; timeline = y }

  later : eqb (k + 1) 0 ≡ false
  later = ne_eqb (k + 1) 0 (λ z. let w : ⊥ = omega arith in w)

  pub late_timeline : timeline_for came late s ≡ y
  late_timeline = ap (λ b. cond b (opening h (opening_tick s) came) y) later

  late_rows : lowest (line_rows came late (Some (S s))) ≡ lowest (appended_rows (timeline_for came late s) s)
  late_rows = ap (λ b. lowest ((b && over_limit h (opening_tick s), 1) ∷ appended_rows (timeline_for came late s) s)) later

  pub late_number : lowest (line_rows came late (Some (S s))) ≡ lowest (appended_rows y s)
  late_number = late_rows ∙ ap (λ x. lowest (appended_rows x s)) late_timeline

  running_s : agrees y.rec y.words ≡ true → length y.words ≡ length came → Narrow (Some (S s)) →
      Step came late (k + 1 + 1) (Some (S s)) (on_open (record { stage = Open; lines = k + 1 + 1; rec = y.rec }) y.words (Some (S s)))
  unfolding on_open
  running_s agreed long narrowed =
      let r : Reading = record { stage = Open; lines = k + 1 + 1; rec = y.rec } in
      s_step came late (k + 1) s _ refl late_rows (ap (λ (x : State). length x.words) late_timeline ∙ long)
      (subst (λ x. Taken x s (k + 1 + 1) (take_s r y.words (later_standing s.t y.rec.next) s)) (sym late_timeline)
      (subst (λ st. Taken y s (k + 1 + 1) (take_s r y.words st s)) (sym (later_stands s y.rec.next)) (s_taken y s (k + 1 + 1) Open agreed narrowed)))

-- ---- the end

-- its number, behind an S of either kind
module _ (came : List ℕ) (h : Head) (k : ℕ) (y : State) (m : ℕ) (p : Place) (st : Stage) where
  abbrev last : Sofar
  last = record { place = p; head = h; count = k + 1; timeline = y }

  end_step : lowest (line_rows came last (Some (End m))) ≡ lowest ((not (eqb m (k + 1)), 17) ∷ []) →
      Step came last (k + 1 + 1) (Some (End m)) (take_end (record { stage = st; lines = k + 1 + 1; rec = y.rec }) y.words m)
  unfolding take_end
  end_step rows =
      subst
      (λ (n : ℕ). Step came last (k + 1 + 1) (Some (End m)) (cond (eqb m n) (taken Ended r y.rec y.words) (refused BadOrder r y.words)))
      (let same : k + 1 ≡ k + 1 + 1 - 1 = omega arith in same)
      (go (eqb m (k + 1)) rows)
    where
      r : Reading
      r = record { stage = st; lines = k + 1 + 1; rec = y.rec }

      go : (b : Bool) → lowest (line_rows came last (Some (End m))) ≡ lowest ((not b, 17) ∷ []) →
          Step came last (k + 1 + 1) (Some (End m))
          (cond b (taken Ended (record { stage = st; lines = k + 1 + 1; rec = y.rec }) y.rec y.words)
          (refused BadOrder (record { stage = st; lines = k + 1 + 1; rec = y.rec }) y.words))
      go true e = goes e refl (ended h (k + 1) y (k + 1 + 1 + 1))
      go false e = stops BadOrder refl refl e refl refl

-- ---- every line

abbrev onward : List ℕ → Sofar → ℕ → Option Frame → File
onward came x n f = on_frame (held came x n).reading.stage (held came x n).reading (held came x n).words f

step : (came : List ℕ) (x : Sofar) (n : ℕ) → At came x n → (f : Option Frame) → Narrow f → Step came x n f (onward came x n f)
unfolding on_nothing on_headed on_open on_filled
step came x n none (Some (HeadFrame f)) w = head_step came f
step came x n none (Some (S s)) w = stops BadOrder refl refl refl refl refl
step came x n none (Some (End m)) w = stops BadOrder refl refl refl refl refl
step came x n none (Some (Clock c)) w = stops BadLine refl refl refl refl refl
step came x n none None w = stops BadLine refl refl refl refl refl
step came x n (headed h y e) (Some (HeadFrame g)) w = stops BadOrder refl refl refl refl refl
step came x n (headed h y e) (Some (S s)) w = headed_s came h y s w
step came x n (headed h y e) (Some (End m)) w = stops BadOrder refl refl refl refl refl
step came x n (headed h y e) (Some (Clock c)) w = stops BadLine refl refl refl refl refl
step came x n (headed h y e) None w = stops BadLine refl refl refl refl refl
step came x n (running h k y a l) (Some (HeadFrame g)) w = stops BadOrder refl refl refl refl refl
step came x n (running h k y a l) (Some (S s)) w = running_s came h k y s a l w
step came x n (running h k y a l) (Some (End m)) w = end_step came h k y m after_s Open refl
step came x n (running h k y a l) (Some (Clock c)) w = stops BadLine refl refl refl refl refl
step came x n (running h k y a l) None w = stops BadLine refl refl refl refl refl
step came x n (filled h k y a l) (Some (HeadFrame g)) w = stops BadOrder refl refl refl refl refl
step came x n (filled h k y a l) (Some (S s)) w = stops BadOrder refl refl refl refl refl
step came x n (filled h k y a l) (Some (End m)) w = end_step came h k y m after_negative Filled refl
step came x n (filled h k y a l) (Some (Clock c)) w = stops BadLine refl refl refl refl refl
step came x n (filled h k y a l) None w = stops BadLine refl refl refl refl refl
step came x n (ended h k y i) (Some (HeadFrame g)) w = stops BadLine refl refl refl refl refl
step came x n (ended h k y i) (Some (S s)) w = stops BadLine refl refl refl refl refl
step came x n (ended h k y i) (Some (End m)) w = stops BadLine refl refl refl refl refl
step came x n (ended h k y i) (Some (Clock c)) w = stops BadLine refl refl refl refl refl
step came x n (ended h k y i) None w = stops BadLine refl refl refl refl refl

-- ---- the whole file

-- what the reader answers where a file stops
abbrev pub read_result : List ℕ → File → List ℕ → FileResult
read_result came z rest =
    let o = stop_outcome z.reading.stage (length rest) in
    record {
      number = answer_number o;
      distance = answer_distance o;
      line = (answered_by o z.reading).line;
      rec = (answered_by o z.reading).rec;
      words = words_by o z.words (zeroed came);
    }

-- a file that is refused stays so
refused_stays : (came : List ℕ) (z : File) (why : Refusal) (n : ℕ) (ls : List (List ℕ)) (rest : List ℕ) →
    z.reading.stage ≡ Refused why → z.reading.lines ≡ n → read_result came (take_lines z ls) rest ≡ refused_at came (n + 1) (refusal_number why) (refusal_distance why)
unfolding take_lines take_line words_by
refused_stays came z why n [] rest e l =
    ap
    (λ t. let o = stop_outcome t (length rest) in
    record {
      number = answer_number o;
      distance = answer_distance o;
      line = (answered_by o z.reading).line;
      rec = (answered_by o z.reading).rec;
      words = words_by o z.words (zeroed came);
    })
    e ∙
    ap (λ (m : ℕ). refused_at came (m + 1) (refusal_number why) (refusal_distance why)) l
refused_stays came z why n (x ∷ ls) rest e l =
    ap (λ t. read_result came (take_lines (on_frame t z.reading z.words (frame_of x)) ls) rest) e ∙ refused_stays came z why n ls rest e l

stopped : (came : List ℕ) (x : Sofar) (n : ℕ) → At came x n → (rest : List ℕ) → read_result came (held came x n) rest ≡ judged came x (n + 1) [] rest
unfolding judged words_by
stopped came x n none rest = refl
stopped came x n (headed h y e) rest = refl
stopped came x n (running h k y a l) rest = refl
stopped came x n (filled h k y a l) rest = refl
stopped came x n (ended h k y i) rest =
    ap (λ b. result (cond b (Ok tt) (Err BadLine))) (sym (none_there (length rest)).is) ∙ by (ltb 0 (length rest))
  where
    result : Outcome → FileResult
    result o =
        record {
          number = answer_number o;
          distance = answer_distance o;
          line = (answered_by o (record { stage = Ended; lines = i; rec = y.rec })).line;
          rec = (answered_by o (record { stage = Ended; lines = i; rec = y.rec })).rec;
          words = words_by o y.words (zeroed came);
        }

    by : (c : Bool) → result (cond (not c) (Ok tt) (Err BadLine)) ≡ unless_refused came (i + 1) (cond c 16 0) 0 (accepted y)
    by true = refl
    by false = refl

-- what comes of one line, by its number
abbrev line_by : List ℕ → List (List ℕ) → List ℕ → Sofar → ℕ → Option Frame → ℕ → FileResult
line_by came ls rest x n f number =
    unless_refused came (n + 1) number (line_distance came x f number) (judged came (taking came x f) (n + 1 + 1) (map frame_of ls) rest)

pub same_way : (came : List ℕ) (ls : List (List ℕ)) (rest : List ℕ) (x : Sofar) (n : ℕ) → At came x n →
    read_result came (take_lines (held came x n) ls) rest ≡ judged came x (n + 1) (map frame_of ls) rest
unfolding take_lines take_line judged
same_way came [] rest x n a = stopped came x n a rest
same_way came (l ∷ ls) rest x n a =
    go (onward came x n (frame_of l)) (step came x n a (frame_of l) (narrow l (frame_of l) refl)) (same_way came ls rest (taking came x (frame_of l)) (n + 1))
  where
    go : (z : File) → Step came x n (frame_of l) z →
        (At came (taking came x (frame_of l)) (n + 1) →
        read_result came (take_lines (held came (taking came x (frame_of l)) (n + 1)) ls) rest ≡ judged came (taking came x (frame_of l)) (n + 1 + 1) (map frame_of ls) rest) →
        read_result came (take_lines z ls) rest ≡ line_by came ls rest x n (frame_of l) (lowest (line_rows came x (frame_of l)))
    go z (goes e is at) more =
        ap (λ y. read_result came (take_lines y ls) rest) is ∙
        more at ∙
        sym (ap (line_by came ls rest x n (frame_of l)) e)
    go z (stops why stage lines number distance some) more =
        refused_stays came z why n ls rest stage lines ∙
        ap (refused_at came (n + 1) (refusal_number why)) distance ∙
        sym
        (ap
        (λ b. cond b (judged came (taking came x (frame_of l)) (n + 1 + 1) (map frame_of ls) rest) (refused_at came (n + 1) (refusal_number why) (line_distance came x (frame_of l) (refusal_number why))))
        (refused_number why (refusal_number why) refl)) ∙
        sym (ap (line_by came ls rest x n (frame_of l)) number)

-- ---- a distance comes with 4 and 5, and with no other number

abbrev pub Sure : FileResult → Type 0
Sure r = ltb 0 r.distance ≡ is_apart r.number

pub all_sure : (came : List ℕ) (ls : List (List ℕ)) (rest : List ℕ) (x : Sofar) (n : ℕ) → At came x n → Sure (judged came x (n + 1) (map frame_of ls) rest)
unfolding judged
all_sure came [] rest x n a = by (ltb 0 (length (may_stand x.place))) (ltb 0 (length rest))
  where
    by : (b c : Bool) → Sure (unless_refused came (n + 1) (lowest ((b, 16) ∷ (c, 16) ∷ [])) 0 (accepted x.timeline))
    by true c = refl
    by false true = refl
    by false false = refl
all_sure came (l ∷ ls) rest x n a =
    go (onward came x n (frame_of l)) (step came x n a (frame_of l) (narrow l (frame_of l) refl)) (all_sure came ls rest (taking came x (frame_of l)) (n + 1))
  where
    go : (z : File) → Step came x n (frame_of l) z → (At came (taking came x (frame_of l)) (n + 1) → Sure (judged came (taking came x (frame_of l)) (n + 1 + 1) (map frame_of ls) rest)) →
        Sure (line_by came ls rest x n (frame_of l) (lowest (line_rows came x (frame_of l))))
    go z (goes e is at) more = subst⁻¹ (λ (m : ℕ). Sure (line_by came ls rest x n (frame_of l) m)) e (more at)
    go z (stops why stage lines number distance some) more =
        subst⁻¹ (λ (m : ℕ). Sure (line_by came ls rest x n (frame_of l) m)) number
        (subst⁻¹
        (λ b.
        Sure
        (cond b (judged came (taking came x (frame_of l)) (n + 1 + 1) (map frame_of ls) rest)
        (refused_at came (n + 1) (refusal_number why) (line_distance came x (frame_of l) (refusal_number why)))))
        (refused_number why (refusal_number why) refl)
        (ap (ltb 0) (sym distance) ∙ some))
