-- What the desk's user reads is so.
use mathlib.Core.Path.{◌≡◌, refl, sym, ap, ap₂, subst, subst⁻¹, ◌∙◌}
use mathlib.Core.Bool.{Bool, true, false, cond, true≢false, false≢true}
use mathlib.Core.List.{List, [], ◌∷◌, ◌++◌, append-nil}
use Prim.Native.Nat.{ℕ, suc, ◌+◌, ◌≤◌, ◌<◌}
use native.Mathlib.Omega.{arith}
use borrow.Author.Tests.{eqb-true, eqb-false, eq-eqb, ne_eqb, leb-true, leb-false, le-leb, lt-leb}
use lib.Dec.{eqb, leb}
use lib.ListN.{length, get_or, drop}
use Rattle.units.specs.Exactly.{ExactlyWhen}
use Rattle.units.specs.declared.WideMillis.{WideMillis}
use Rattle.units.specs.declared.WideTick.{WideTick}
use Rattle.units.specs.Limits.{largest_millis}
use Rattle.window.specs.Window.{Stretch, window_at, whole_period}
use Rattle.agreement.specs.declared.Record.{Record}
use Rattle.agreement.specs.declared.refusal.Refusal.{Refusal}
use Rattle.agreement.specs.declared.refusal.Refusal.TheVariants as refusal
use Rattle.agreement.specs.Agreement.{kept, agrees}
use Rattle.agreement.specs.Numbers.{refusal_number, refusal_distance}
use Rattle.std.specs.Prelude.{Err, None, Ok, Option, Result, Some}
use Rattle.keeping.specs.Keeping.{Outcome}
use Rattle.timeline.specs.Opening.{zero_record}
use Rattle.answers.specs.declared.Verdict.{Verdict}
use Rattle.answers.specs.declared.Verdict.TheVariants as verdict
use Rattle.answers.specs.Judgement.{verdict_at, verdict_whole}
use Rattle.frames.specs.declared.Frame.{Frame}
use Rattle.frames.specs.declared.Frame.TheVariants as frame
use Rattle.frames.specs.Frames.{line_of, frame_of}
use Rattle.hexdigits.specs.Ascii.{ascii}
use Rattle.frames.proofs.Lines.{language}
use Rattle.file.specs.declared.ReadAnswer.{ReadAnswer}
use Rattle.file.specs.Lines.{line_feed, has_feed, first_line, behind_first}
use Rattle.file.specs.Judging.{read_lines, read_outcome, answered_by, read_answer, read_table}
use Rattle.file.proofs.Clocks.{read_clock}
use Rattle.file.proofs.Accepted.{read_agrees}
use Rattle.report.specs.Clock.{ClockLine}
use Rattle.report.specs.declared.Asked.{Asked}
use Rattle.report.specs.declared.Asked.TheVariants as asked
use Rattle.frames.specs.Fields.{all_ones}
use Rattle.report.specs.Clock.{asked_by, asked_on}
use Rattle.wording.specs.Text.{PercentRight, distance_text, refused_text, verdict_text, text_of}
use Rattle.report.specs.Answer.{judged as judged_reply, refused_at, asked_in, reply_on, reply_in, answer_in, answer}
use Rattle.file.proofs.Cuts.{unfed_line, unfed_has, unfed_behind}
use Rattle.wording.proofs.Figures.{figures}
use Rattle.laws.specs.Demand2.{Completes, Lacks, NeedsNone, disagree, over, early, disagreeing, unknown, MayNotAsk, MayNotAskWhole}
use Rattle.laws.specs.Demand2 as demand
use Rattle.laws.specs.Desk as desk
use Rattle.laws.specs.Desk.{Asks, Verdicts, at_clock_lem, of_whole, lent, Accepts, Window, ReadAs, Completed, Lacked, Unneeded, Refused, no_clock, bad_line, no_end, complete_line, lacking_line, nothing_line, refused_line, Begins, Says, DeskSays}
use Rattle.laws.proofs.Demand2.{demand_2}
use Rattle.laws.proofs.DeskLines.{one_complete, complete_text, one_lacking, lacking_text, one_refused}

-- ---- the input, cut at its first line feed

unfed : (l : List ℕ) → ((i : ℕ) → i < length l → get_or l i 0 ≡ 10 → ⊥) → has_feed l ≡ false
unfolding has_feed
unfed [] h = refl
unfed (b ∷ bs) h =
    ap (λ t. cond t true (has_feed bs)) (ne_eqb b line_feed (h 0 (omega arith))) ∙ unfed bs (λ i l. h (suc i) (omega arith))

all_of : (l : List ℕ) → has_feed l ≡ false → first_line l ≡ l
unfolding has_feed first_line
all_of [] h = refl
all_of (b ∷ bs) h = go (eqb b line_feed) h (all_of bs)
  where
    go : (t : Bool) → cond t true (has_feed bs) ≡ false → (has_feed bs ≡ false → first_line bs ≡ bs) → cond t [] (b ∷ first_line bs) ≡ b ∷ bs
    go true h ih = absurd (true≢false h)
    go false h ih = ap (λ (l : List ℕ). b ∷ l) (ih h)

cut : (l : List ℕ) → has_feed l ≡ true → l ≡ first_line l ++ line_feed ∷ behind_first l
unfolding has_feed first_line behind_first
cut [] h = absurd (false≢true h)
cut (b ∷ bs) h = go (eqb b line_feed) refl h (cut bs)
  where
    go : (t : Bool) → eqb b line_feed ≡ t → cond t true (has_feed bs) ≡ true → (has_feed bs ≡ true → bs ≡ first_line bs ++ line_feed ∷ behind_first bs) →
        b ∷ bs ≡ cond t [] (b ∷ first_line bs) ++ line_feed ∷ cond t bs (behind_first bs)
    go true e h ih = ap (λ (x : ℕ). x ∷ bs) (eqb-true b line_feed e)
    go false e h ih = ap (λ (l : List ℕ). b ∷ l) (ih h)

abbrev millis : ℕ → WideMillis
millis n = record { 0 = n }

-- the program's table is the one that is lent
in_lent : (input : List ℕ) → answer input ≡ answer_in lent input
unfolding lent
in_lent input = refl

-- ---- an input that asks

module _ (input : List ℕ) (clock : ℕ) (file : List ℕ) (a : Asks input clock file) where
  line : List ℕ
  line = line_of (frame.Clock (millis clock))

  line_unfed : has_feed line ≡ false
  unfolding line
  line_unfed = unfed line (language.no_feed (frame.Clock (millis clock)))

  input_fed : has_feed input ≡ true
  unfolding line has_feed
  input_fed = ap has_feed a.is ∙ unfed_has line (line_feed ∷ file) line_unfed

  input_line : first_line input ≡ line
  unfolding line first_line
  input_line =
      ap first_line a.is ∙ unfed_line line (line_feed ∷ file) line_unfed ∙ append-nil (first_line line) ∙ all_of line line_unfed

  input_behind : behind_first input ≡ file
  unfolding line behind_first
  input_behind = ap behind_first a.is ∙ unfed_behind line (line_feed ∷ file) line_unfed

  line_frame : frame_of (first_line input) ≡ Some (frame.Clock (millis clock))
  unfolding line
  line_frame =
      ap frame_of input_line ∙ (language.exactly line (frame.Clock (millis clock))).1 (record { fields = (a.fits, tt) }, refl)

  input_asks : asked_in input ≡ Some (asked_by (Some (frame.Clock (millis clock))))
  unfolding asked_in asked_on
  input_asks = ap₂ (λ t (f : Option Frame). cond {A = ClockLine} t (Some (asked_by f)) None) input_fed line_frame

  -- the answer, by what the clock asks
  in_table : (came : List ℕ) (what : Result Asked Refusal) → asked_by (Some (frame.Clock (millis clock))) ≡ what →
      (x : ReadAnswer) → read_answer file came ≡ x → (ws : List ℕ) → read_table file came ≡ ws → answer_in came input ≡ text_of (reply_on (Some what) x ws)
  unfolding reply_in
  in_table came what e x f ws g =
      ap₂ (λ (y : ClockLine) (bytes : List ℕ). text_of (reply_on y (read_answer bytes came) (read_table bytes came))) (input_asks ∙ ap Some e) input_behind ∙
      ap₂ (λ (y : ReadAnswer) (vs : List ℕ). text_of (reply_on (Some what) y vs)) f g

  by_asked : (what : Result Asked Refusal) → asked_by (Some (frame.Clock (millis clock))) ≡ what →
      (x : ReadAnswer) → read_answer file lent ≡ x → (ws : List ℕ) → read_table file lent ≡ ws → answer input ≡ text_of (reply_on (Some what) x ws)
  by_asked what e x f ws g = in_lent input ∙ in_table lent what e x f ws g

-- ---- and the other way

asks_of : (input : List ℕ) (c : WideMillis) → has_feed input ≡ true → frame_of (first_line input) ≡ Some (frame.Clock c) → Asks input c.0 (behind_first input)
asks_of input c h e =
    let r = (language.exactly (first_line input) (frame.Clock c)).0 e in
    record { fits = r.0.fields.0; is = cut input h ∙ ap (λ (l : List ℕ). l ++ line_feed ∷ behind_first input) (sym r.1) }

-- ---- what the clock asks

module _ (clock : ℕ) where
  -- by the two tests of the clock: whether it is all ones, and whether it is within its limit
  abbrev ask_by : Bool → Bool → Result Asked Refusal
  ask_by s t = cond s (Ok asked.Whole) (cond t (Ok (asked.At (record { 0 = clock }))) (Err refusal.ClockLimit))

  ask_whole : clock ≡ all_ones → asked_by (Some (frame.Clock (millis clock))) ≡ Ok asked.Whole
  ask_whole e = ap (λ t. ask_by t (leb clock largest_millis)) (eq-eqb clock all_ones e)

  ask_at : clock ≤ largest_millis → asked_by (Some (frame.Clock (millis clock))) ≡ Ok (asked.At (record { 0 = clock }))
  ask_at l =
      ap₂ ask_by (ne_eqb clock all_ones (λ e. let z : ⊥ = omega arith in z)) (le-leb clock largest_millis l)

  ask_over : largest_millis < clock → (clock ≡ all_ones → ⊥) → asked_by (Some (frame.Clock (millis clock))) ≡ Err refusal.ClockLimit
  ask_over l n = ap₂ ask_by (ne_eqb clock all_ones n) (lt-leb clock largest_millis l)

-- ---- what reading comes to

data Reads (x : ReadAnswer) : Type 0 where
  reads : (rec : Record) → x ≡ record { outcome = Ok tt; rec = rec; line = 0 } → Reads x
  fails : (why : Refusal) (line : ℕ) → x ≡ record { outcome = Err why; rec = zero_record; line = line } → Reads x

module _ (file came : List ℕ) where
  reading : Reads (read_answer file came)
  unfolding read_answer
  reading = go (read_outcome file came)
    where
      go : (o : Outcome) → Reads (answered_by o (read_lines file came).reading)
      go (Ok _) = reads (read_lines file came).reading.rec refl
      go (Err why) = fails why ((read_lines file came).reading.lines + 1) refl

  read_outcome_lem : (read_answer file came).outcome ≡ read_outcome file came
  unfolding read_answer
  read_outcome_lem = go (read_outcome file came)
    where
      go : (o : Outcome) → (answered_by o (read_lines file came).reading).outcome ≡ o
      go (Ok _) = refl
      go (Err why) = refl

  from_one : (why : Refusal) (line : ℕ) → read_answer file came ≡ record { outcome = Err why; rec = zero_record; line = line } → 1 ≤ line
  unfolding read_answer
  from_one why line = go (read_outcome file came)
    where
      go : (o : Outcome) → answered_by o (read_lines file came).reading ≡ record { outcome = Err why; rec = zero_record; line = line } → 1 ≤ line
      go (Ok _) e =
          let f : (Ok tt) ≡ Err why = ap (λ (x : ReadAnswer). x.outcome) e in
          let z : ◌≡◌ {A = ℕ} 0 1 = cc in
          let y : ⊥ = omega arith in absurd y
      go (Err x) e = omega (arith, ap (λ (y : ReadAnswer). y.line) e)

-- ---- the verdict on a file that was accepted

-- each case of a verdict exactly where it holds of a window, and no refusal
record Judges (v : Result Verdict Refusal) (rec : Record) (ws : List ℕ) (w : Stretch) : Type 0 where
  complete : (n : ℕ) → ExactlyWhen (v ≡ Ok (verdict.Complete n)) (Completes rec.head w (kept rec ws) n)
  lacking : (n m : ℕ) (k : WideTick) → ExactlyWhen (v ≡ Ok (verdict.Lacking n m k)) (Lacks rec.head w (kept rec ws) n m k.0)
  nothing : ExactlyWhen (v ≡ Ok verdict.Nothing) (NeedsNone rec.head w)
  never : (why : Refusal) → v ≡ Err why → ⊥
  percent : PercentRight v

module _ (file : List ℕ) (rec : Record) (ws : List ℕ) (x : Accepts file rec ws) where
  agreed : agrees rec ws ≡ true
  agreed =
      ap₂ agrees (sym (ap (λ (y : ReadAnswer). y.rec) x.answer)) (sym x.table) ∙
      read_agrees file lent (sym (read_outcome_lem file lent) ∙ ap (λ (y : ReadAnswer). y.outcome) x.answer)

  at_zero : rec.clock.0 ≡ 0
  at_zero = sym (ap (λ (y : ReadAnswer). y.rec.clock.0) x.answer) ∙ read_clock file lent

  module _ (clock : ℕ) (l : clock ≤ largest_millis) where
    may_ask : demand.MayAsk rec ws (millis clock)
    may_ask = record { agreed = agreed; limit = l; later = omega (arith, at_zero) }

    never_at : (why : Refusal) → MayNotAsk rec ws (millis clock) why → ⊥
    never_at _ (disagree e) = false≢true (sym e ∙ agreed)
    never_at _ (over e m) = omega arith
    never_at _ (early e m k) = omega (arith, at_zero)

    judges_at : Judges (verdict_at rec ws (millis clock)) rec ws (window_at rec.head clock)
    judges_at =
        record {
          complete = λ n.
              record {
                only = λ e. ((demand_2.complete_at rec ws (millis clock) n).only e).1;
                if = λ q. (demand_2.complete_at rec ws (millis clock) n).if (may_ask, q);
              };
          lacking = λ n m k.
              record {
                only = λ e. ((demand_2.lacking_at rec ws (millis clock) n m k).only e).1;
                if = λ q. (demand_2.lacking_at rec ws (millis clock) n m k).if (may_ask, q);
              };
          nothing =
              record {
                only = λ e. ((demand_2.nothing_at rec ws (millis clock)).only e).1;
                if = λ q. (demand_2.nothing_at rec ws (millis clock)).if (may_ask, q);
              };
          never = λ why e. never_at why ((demand_2.refused_at_lem rec ws (millis clock) why).only e);
          percent = figures.percent_at rec ws (millis clock);
        }

  module _ (known : 1 ≤ rec.head.duration.0) where
    may_ask_whole : demand.MayAskWhole rec ws
    may_ask_whole = record { agreed = agreed; known = known }

    never_whole : (why : Refusal) → MayNotAskWhole rec ws why → ⊥
    never_whole _ (disagreeing e) = false≢true (sym e ∙ agreed)
    never_whole _ (unknown e f) = omega arith

    judges_whole : Judges (verdict_whole rec ws) rec ws (whole_period rec.head)
    judges_whole =
        record {
          complete = λ n.
              record {
                only = λ e. ((demand_2.complete_whole rec ws n).only e).1;
                if = λ q. (demand_2.complete_whole rec ws n).if (may_ask_whole, q);
              };
          lacking = λ n m k.
              record {
                only = λ e. ((demand_2.lacking_whole rec ws n m k).only e).1;
                if = λ q. (demand_2.lacking_whole rec ws n m k).if (may_ask_whole, q);
              };
          nothing =
              record {
                only = λ e. ((demand_2.nothing_whole rec ws).only e).1;
                if = λ q. (demand_2.nothing_whole rec ws).if (may_ask_whole, q);
              };
          never = λ why e. never_whole why ((demand_2.refused_whole rec ws why).only e);
          percent = figures.percent_whole rec ws;
        }

-- ---- an input that is read

-- the line that tells an answered verdict
abbrev line_told : Result Verdict Refusal → List ℕ
line_told v = text_of (judged_reply v)

record Judged (input : List ℕ) (rec : Record) (ws : List ℕ) (w : Stretch) : Type 0 where
  v : Result Verdict Refusal
  judges : Judges v rec ws w
  told : answer input ≡ line_told v

judged : (input : List ℕ) (rec : Record) (ws : List ℕ) (w : Stretch) → ReadAs input rec ws w → Judged input rec ws w
unfolding reply_on text_of
judged input rec ws w h = go w h.window
  where
    x : ReadAnswer
    x = record { outcome = Ok tt; rec = rec; line = 0 }

    go : (w : Stretch) → Window h.clock rec w → Judged input rec ws w
    go _ (desk.at l) =
        record {
          v = verdict_at rec ws (millis h.clock);
          judges = judges_at h.file rec ws h.accepts h.clock l;
          told =
              by_asked input h.clock h.file h.asks (Ok (asked.At (record { 0 = h.clock }))) (ask_at h.clock l) x h.accepts.answer ws h.accepts.table;
        }
    go _ (desk.whole e k) =
        record {
          v = verdict_whole rec ws;
          judges = judges_whole h.file rec ws h.accepts k;
          told = by_asked input h.clock h.file h.asks (Ok asked.Whole) (ask_whole h.clock e) x h.accepts.answer ws h.accepts.table;
        }

-- ---- what is so is told

module _ (input : List ℕ) where
  tell_complete : (n : ℕ) → Completed input n → answer input ≡ complete_line n
  unfolding text_of
  tell_complete n c =
      let j = judged input c.rec c.ws c.w c.read in
      let e = (j.judges.complete n).if c.completes in
      j.told ∙ ap line_told e ∙ complete_text n (subst PercentRight e j.judges.percent)

  tell_lacking : (n m k : ℕ) → Lacked input n m k → answer input ≡ lacking_line n m k
  unfolding text_of
  tell_lacking n m k c =
      let j = judged input c.rec c.ws c.w c.read in
      let e = (j.judges.lacking n m (record { 0 = k })).if c.lacks in
      j.told ∙ ap line_told e ∙ lacking_text n m (record { 0 = k }) (subst PercentRight e j.judges.percent)

  tell_nothing : Unneeded input → answer input ≡ nothing_line
  unfolding text_of verdict_text
  tell_nothing c = let j = judged input c.rec c.ws c.w c.read in j.told ∙ ap line_told (j.judges.nothing.if c.none)

  -- an input that does not begin with a clock line
  unasked : (came : List ℕ) → ((clock : ℕ) (file : List ℕ) → Asks input clock file → ⊥) → reply_in came input ≡ refused_at refusal.BadLine 0
  unfolding reply_in reply_on asked_in asked_on
  unasked came n = go (has_feed input) refl (frame_of (first_line input)) refl
    where
      go : (t : Bool) → has_feed input ≡ t → (f : Option Frame) → frame_of (first_line input) ≡ f →
          reply_on (cond t (Some (asked_by f)) None) (read_answer (behind_first input) came) (read_table (behind_first input) came) ≡
          refused_at refusal.BadLine 0
      go false e f g = refl
      go true e (Some (frame.Head h)) g = refl
      go true e (Some (frame.S s)) g = refl
      go true e (Some (frame.End m)) g = refl
      go true e (Some (frame.Clock c)) g = absurd (n c.0 (behind_first input) (asks_of input c e g))
      go true e None g = refl

  tell_refused : (number line distance : ℕ) → Refused input number line distance → answer input ≡ refused_line number line distance
  unfolding reply_on text_of verdict_text refused_text distance_text
  tell_refused _ _ _ (no_clock n) = in_lent input ∙ ap text_of (unasked lent n)
  tell_refused _ _ _ (desk.over clock file a l n) =
      by_asked input clock file a (Err refusal.ClockLimit) (ask_over clock l n) (read_answer file lent) refl (read_table file lent) refl
  tell_refused _ _ _ (bad_line clock file why _ a (at_clock_lem l) e) =
      by_asked input clock file a (Ok (asked.At (record { 0 = clock }))) (ask_at clock l) _ e (read_table file lent) refl
  tell_refused _ _ _ (bad_line clock file why _ a (of_whole f) e) =
      by_asked input clock file a (Ok asked.Whole) (ask_whole clock f) _ e (read_table file lent) refl
  tell_refused _ _ _ (no_end file rec ws a x f) =
      by_asked input all_ones file a (Ok asked.Whole) (ask_whole all_ones refl) _ x.answer ws x.table ∙
      ap line_told ((demand_2.refused_whole rec ws refusal.EndUnknown).if (unknown (agreed file rec ws x) f))

-- ---- and what is told is so

module _ (input : List ℕ) where
  -- a refusal, a verdict, and the line that tells it
  say_refused : (number line distance : ℕ) → Refused input number line distance → Says input (answer input)
  say_refused number line distance r = subst⁻¹ (Says input) (tell_refused input number line distance r) (desk.refused number line distance r)

  say_told : (rec : Record) (ws : List ℕ) (w : Stretch) → ReadAs input rec ws w → Says input (answer input)
  say_told rec ws w h = let j = judged input rec ws w h in go j.v refl
    where
      go : (v : Result Verdict Refusal) → (judged input rec ws w h).v ≡ v → Says input (answer input)
      go (Ok verdict.Nothing) e =
          let c : Unneeded input = record { rec = rec; ws = ws; w = w; read = h; none = (judged input rec ws w h).judges.nothing.only e } in
          subst⁻¹ (Says input) (tell_nothing input c) (desk.nothing c)
      go (Ok (verdict.Complete n)) e =
          let c : Completed input n = record { rec = rec; ws = ws; w = w; read = h; completes = ((judged input rec ws w h).judges.complete n).only e } in
          subst⁻¹ (Says input) (tell_complete input n c) (desk.complete n c)
      go (Ok (verdict.Lacking n m k)) e =
          let c : Lacked input n m k.0 = record { rec = rec; ws = ws; w = w; read = h; lacks = ((judged input rec ws w h).judges.lacking n m k).only e } in
          subst⁻¹ (Says input) (tell_lacking input n m k.0 c) (desk.lacking n m k.0 c)
      go (Err why) e = absurd ((judged input rec ws w h).judges.never why e)

  module _ (clock : ℕ) (file : List ℕ) (a : Asks input clock file) where
    say_read : Verdicts clock → Says input (answer input)
    say_read q = go (reading file lent)
      where
        accepted : (rec : Record) → Accepts file rec (read_table file lent) → Verdicts clock → Says input (answer input)
        accepted rec x (at_clock_lem l) =
            say_told rec (read_table file lent) (window_at rec.head clock)
            (record { clock = clock; file = file; asks = a; accepts = x; window = desk.at l })
        accepted rec x (of_whole e) = by_end (eqb rec.head.duration.0 0) refl
          where
            by_end : (t : Bool) → eqb rec.head.duration.0 0 ≡ t → Says input (answer input)
            by_end true d =
                say_refused 19 0 0
                (no_end file rec (read_table file lent) (subst (λ (c : ℕ). Asks input c file) e a) x (eqb-true rec.head.duration.0 0 d))
            by_end false d =
                let some : rec.head.duration.0 ≡ 0 → ⊥ = eqb-false rec.head.duration.0 0 d in
                say_told rec (read_table file lent) (whole_period rec.head)
                (record { clock = clock; file = file; asks = a; accepts = x; window = desk.whole e (omega arith) })

        go : Reads (read_answer file lent) → Says input (answer input)
        go (reads rec e) = accepted rec (record { answer = e; table = refl }) q
        go (fails why line e) = say_refused (refusal_number why) line (refusal_distance why) (bad_line clock file why line a q e)

    say_asked : Says input (answer input)
    say_asked = go (leb clock largest_millis) refl (eqb clock all_ones) refl
      where
        go : (s : Bool) → leb clock largest_millis ≡ s → (t : Bool) → eqb clock all_ones ≡ t → Says input (answer input)
        go true e t f = say_read (at_clock_lem (leb-true clock largest_millis e))
        go false e true f = say_read (of_whole (eqb-true clock all_ones f))
        go false e false f = say_refused 10 0 0 (desk.over clock file a (leb-false clock largest_millis e) (eqb-false clock all_ones f))

  -- a first line that is no clock's
  other_line : ((c : WideMillis) → frame_of (first_line input) ≡ Some (frame.Clock c) → ⊥) → Says input (answer input)
  other_line n = say_refused 16 0 0 (no_clock (λ clock file a. n (millis clock) (line_frame input clock file a)))

  says : Says input (answer input)
  says = go (has_feed input) refl (frame_of (first_line input)) refl
    where
      go : (t : Bool) → has_feed input ≡ t → (f : Option Frame) → frame_of (first_line input) ≡ f → Says input (answer input)
      go false e f g = say_refused 16 0 0 (no_clock (λ clock file a. false≢true (sym e ∙ input_fed input clock file a)))
      go true e (Some (frame.Head h)) g = other_line (λ c z. cc)
      go true e (Some (frame.S s)) g = other_line (λ c z. cc)
      go true e (Some (frame.End m)) g = other_line (λ c z. cc)
      go true e (Some (frame.Clock c)) g = say_asked c.0 (behind_first input) (asks_of input c e g)
      go true e None g = other_line (λ c z. cc)

-- ---- by the first letter of a line

abbrev letter : List ℕ → ℕ
letter l = get_or l 0 0

module _ (input : List ℕ) where
  is_complete : (l : List ℕ) → Says input l → letter l ≡ 99 → (n : ℕ) × (l ≡ complete_line n) × Completed input n
  unfolding ascii
  is_complete _ (desk.complete n c) e = (n, refl, c)
  is_complete _ (desk.lacking n m k c) e = let z : ⊥ = omega arith in absurd z
  is_complete _ (desk.nothing c) e = let z : ⊥ = omega arith in absurd z
  is_complete _ (desk.refused number line distance c) e = let z : ⊥ = omega arith in absurd z

  is_lacking : (l : List ℕ) → Says input l → letter l ≡ 108 → (n : ℕ) × (m : ℕ) × (k : ℕ) × (l ≡ lacking_line n m k) × Lacked input n m k
  unfolding ascii
  is_lacking _ (desk.complete n c) e = let z : ⊥ = omega arith in absurd z
  is_lacking _ (desk.lacking n m k c) e = (n, m, k, refl, c)
  is_lacking _ (desk.nothing c) e = let z : ⊥ = omega arith in absurd z
  is_lacking _ (desk.refused number line distance c) e = let z : ⊥ = omega arith in absurd z

  is_nothing : (l : List ℕ) → Says input l → letter l ≡ 110 → Unneeded input
  unfolding ascii
  is_nothing _ (desk.complete n c) e = let z : ⊥ = omega arith in absurd z
  is_nothing _ (desk.lacking n m k c) e = let z : ⊥ = omega arith in absurd z
  is_nothing _ (desk.nothing c) e = c
  is_nothing _ (desk.refused number line distance c) e = let z : ⊥ = omega arith in absurd z

  is_refused : (l : List ℕ) → Says input l → letter l ≡ 114 → (number : ℕ) × (line : ℕ) × (distance : ℕ) × (l ≡ refused_line number line distance) × Refused input number line distance
  unfolding ascii
  is_refused _ (desk.complete n c) e = let z : ⊥ = omega arith in absurd z
  is_refused _ (desk.lacking n m k c) e = let z : ⊥ = omega arith in absurd z
  is_refused _ (desk.nothing c) e = let z : ⊥ = omega arith in absurd z
  is_refused _ (desk.refused number line distance c) e = (number, line, distance, refl, c)

  -- ---- a line begins with its word exactly when it is so

  complete : ExactlyWhen (Begins (ascii "complete") (answer input)) ((n : ℕ) × Completed input n)
  unfolding ascii
  complete =
      record {
        only = λ b. let c = is_complete (answer input) (says input) (ap letter b.1) in (c.0, c.2);
        if = λ c. (drop 8 (complete_line c.0), tell_complete input c.0 c.1);
      }

  lacking : ExactlyWhen (Begins (ascii "lacking") (answer input)) ((n : ℕ) × (m : ℕ) × (k : ℕ) × Lacked input n m k)
  unfolding ascii
  lacking =
      record {
        only = λ b. let c = is_lacking (answer input) (says input) (ap letter b.1) in (c.0, c.1, c.2, c.4);
        if = λ c. (drop 7 (lacking_line c.0 c.1 c.2), tell_lacking input c.0 c.1 c.2 c.3);
      }

  nothing : ExactlyWhen (Begins (ascii "nothing needed") (answer input)) (Unneeded input)
  unfolding ascii
  nothing =
      record {
        only = λ b. is_nothing (answer input) (says input) (ap letter b.1);
        if = λ c. (drop 14 nothing_line, tell_nothing input c);
      }

  refused : ExactlyWhen (Begins (ascii "refused") (answer input)) ((number : ℕ) × (line : ℕ) × (distance : ℕ) × Refused input number line distance)
  unfolding ascii
  refused =
      record {
        only = λ b. let c = is_refused (answer input) (says input) (ap letter b.1) in (c.0, c.1, c.2, c.4);
        if = λ c. (drop 7 (refused_line c.0 c.1 c.2), tell_refused input c.0 c.1 c.2 c.3);
      }

  -- ---- and has these figures exactly when it is so with these

  complete_line_lem : (n : ℕ) → ExactlyWhen (answer input ≡ complete_line n) (Completed input n)
  unfolding ascii
  complete_line_lem n = record { only = only; if = tell_complete input n }
    where
      only : answer input ≡ complete_line n → Completed input n
      only e =
          let c = is_complete (answer input) (says input) (ap letter e) in
          subst (Completed input) (one_complete c.0 n (sym c.1 ∙ e)) c.2

  lacking_line_lem : (n m k : ℕ) → ExactlyWhen (answer input ≡ lacking_line n m k) (Lacked input n m k)
  unfolding ascii
  lacking_line_lem n m k = record { only = only; if = tell_lacking input n m k }
    where
      only : answer input ≡ lacking_line n m k → Lacked input n m k
      only e =
          let c = is_lacking (answer input) (says input) (ap letter e) in
          let same = one_lacking c.0 c.1 c.2 n m k (sym c.3 ∙ e) in
          subst (λ (x : ℕ). Lacked input x m k) same.0
          (subst (λ (x : ℕ). Lacked input c.0 x k) same.1 (subst (λ (x : ℕ). Lacked input c.0 c.1 x) same.2 c.4))

  nothing_line_lem : ExactlyWhen (answer input ≡ nothing_line) (Unneeded input)
  unfolding ascii
  nothing_line_lem = record { only = λ e. is_nothing (answer input) (says input) (ap letter e); if = tell_nothing input }

  refused_line_lem : (number line distance : ℕ) → ExactlyWhen (answer input ≡ refused_line number line distance) (Refused input number line distance)
  unfolding ascii
  refused_line_lem number line distance = record { only = only; if = tell_refused input number line distance }
    where
      only : answer input ≡ refused_line number line distance → Refused input number line distance
      only e =
          let c = is_refused (answer input) (says input) (ap letter e) in
          let same = one_refused c.0 c.1 c.2 number line distance (sym c.3 ∙ e) in
          subst (λ (x : ℕ). Refused input x line distance) same.0
          (subst (λ (x : ℕ). Refused input c.0 x distance) same.1 (subst (λ (x : ℕ). Refused input c.0 c.1 x) same.2 c.4))

pub desk_says : DeskSays
desk_says =
    record {
      says = says;
      complete = complete;
      lacking = lacking;
      nothing = nothing;
      refused = refused;
      complete_line_lem = complete_line_lem;
      lacking_line_lem = lacking_line_lem;
      nothing_line_lem = nothing_line_lem;
      refused_line_lem = refused_line_lem;
      agreed = agreed;
      at_zero = at_zero;
      from_one = λ file. from_one file lent;
    }
