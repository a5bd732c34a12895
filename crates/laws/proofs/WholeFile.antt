-- A file that no row refuses is one head, one or more S and one end, and stands for an opening and appends that are accepted; and the other way round.
use mathlib.Core.Path.{◌≡◌, refl, sym, ap, ap₂, subst, ◌∙◌}
use mathlib.Core.Bool.{Bool, true, false, cond, not, ◌&&◌, ◌||◌, and-eq-true_iff, true≢false, false≢true}
use mathlib.Core.List.{List, [], ◌∷◌, ◌++◌, map}
use Prim.Native.Nat.{ℕ, ◌+◌}
use native.Mathlib.Omega.{arith}
use borrow.Author.Tests.{ltb-false, leb-false, lt-leb, eq-eqb, eqb-true, eqb-false, not-false}
use lib.Dec.{eqb, ltb}
use lib.ListN.{length}
use Rattle.units.specs.declared.Tick.{Tick}
use Rattle.units.specs.Limits.{tick_held}
use Rattle.window.specs.declared.Head.{Head}
use Rattle.window.specs.Limits.{head_held}
use Rattle.agreement.specs.declared.refusal.Refusal.TheVariants.{OverLimit}
use Rattle.agreement.specs.Agreement.{agrees}
use Rattle.std.specs.Prelude.{Option, Some, None, Ok}
use Rattle.keeping.proofs.Outcomes.{past_if, number_accepted}
use Rattle.timeline.specs.Opening.{open_outcome}
use Rattle.frames.specs.declared.Frame.{Frame}
use Rattle.frames.specs.declared.Frame.TheVariants.{Head as HeadFrame, S, End, Clock}
use Rattle.frames.specs.declared.HeadLine.{HeadLine}
use Rattle.frames.specs.declared.SFields.{SFields}
use Rattle.file.specs.declared.Stage.TheVariants.{Open}
use Rattle.file.specs.Judging.{File, first_negative, head_in}
use Rattle.file.specs.Sound.{Narrow}
use Rattle.laws.specs.Calls.{Call, State, after, after_calls, opening, outcome_of}
use Rattle.laws.specs.Refusals.{lowest, over_limit}
use Rattle.laws.specs.Lines.{line_kind, opening_tick, negative, call_of, Place, after_head, after_s, after_negative, after_end, among, Sofar, appended_rows, stop_rows, field_rows, line_rows, line_distance, taking, FileResult, accepted, refused_at, unless_refused, judged, beginning}
use Rattle.laws.specs.Reading.{file_frames, NegativeLast, StandsFor, StandFor, AllAccepted}
use Rattle.laws.proofs.NoRow.{none_holds, refused_number}
use Rattle.laws.proofs.SLines.{Taken, on, off, s_taken}
use Rattle.laws.proofs.LineByLine.{open_number, head_number_lem, no_over, open_agreed, late, late_timeline, late_number}
use Rattle.laws.proofs.Standing.{s_only, s_if}
use Rattle.laws.proofs.Bytes.{AllNarrow}

-- ---- a number of 0

unless_zero : (came : List ℕ) (line number distance : ℕ) (more : FileResult) → (unless_refused came line number distance more).number ≡ 0 →
    (number ≡ 0) × (more.number ≡ 0)
unless_zero came line number distance more e = go (eqb number 0) refl e
  where
    go : (b : Bool) → eqb number 0 ≡ b → (cond b more (refused_at came line number distance)).number ≡ 0 → (number ≡ 0) × (more.number ≡ 0)
    go true p q = (eqb-true number 0 p, q)
    go false p q = absurd (eqb-false number 0 p q)

-- an S line that is not refused leaves a record and a table that agree
s_agrees : (x : State) (s : SFields) → agrees x.rec x.words ≡ true → Narrow (Some (S s)) → lowest (appended_rows x s) ≡ 0 →
    agrees (after x (call_of x s)).rec (after x (call_of x s)).words ≡ true
s_agrees x s agreed narrowed e = go _ (s_taken x s 0 Open agreed narrowed)
  where
    go : (z : File) → Taken x s 0 z → agrees (after x (call_of x s)).rec (after x (call_of x s)).words ≡ true
    go z (on n is a l) = a
    go z (off why st l n t) = absurd (true≢false (ap (λ (m : ℕ). eqb m 0) (sym e) ∙ refused_number why (lowest (appended_rows x s)) n))

-- ---- from the rows to the file

-- with so many S lines, at a place
abbrev at : Place → Head → ℕ → State → Sofar
at p h k x = record { place = p; head = h; count = k; timeline = x }

nothing : (rest : List ℕ) → ltb 0 (length rest) ≡ false → rest ≡ []
nothing [] e = refl
nothing (b ∷ bs) e = let z : ⊥ = omega (arith, ltb-false 0 (length (b ∷ bs)) e) in absurd z

-- a line after the end
extra : (b : Bool) (rows : List (Bool × ℕ)) → lowest ((b || true, 16) ∷ rows) ≡ 0 → ⊥
extra true rows e = omega arith
extra false rows e = omega arith

module _ (came : List ℕ) (h : Head) where
  end_only : (k : ℕ) (x : State) (line : ℕ) (fs : List (Option Frame)) (rest : List ℕ) → (judged came (at after_end h k x) line fs rest).number ≡ 0 → (fs ≡ []) × (rest ≡ [])
  unfolding judged
  end_only k x line [] rest e =
      (refl, nothing rest (none_holds (stop_rows (at after_end h k x) rest) (omega arith) (unless_zero came line _ _ _ e).0).1.0)
  end_only k x line (f ∷ fs) rest e =
      absurd
      (extra (not (among (line_kind f) (1 ∷ 2 ∷ 3 ∷ []))) ((not (among (line_kind f) []), 17) ∷ field_rows came (at after_end h k x) f)
      (unless_zero came line (lowest (line_rows came (at after_end h k x) f)) _ _ e).0)

  -- the end line behind k S lines
  ends : (k m : ℕ) (x : State) (line : ℕ) (fs : List (Option Frame)) (rest : List ℕ) → lowest ((not (eqb m k), 17) ∷ []) ≡ 0 →
      (judged came (at after_end h k x) line fs rest).number ≡ 0 → (Some (End m) ∷ fs ≡ Some (End k) ∷ []) × (rest ≡ [])
  ends k m x line fs rest e more =
      let n = (none_holds ((not (eqb m k), 17) ∷ []) (omega arith) e).0 in
      let tail = end_only k x line fs rest more in
      (ap₂ (λ (j : ℕ) gs. Some (End j) ∷ gs) (eqb-true m k (not-false (eqb m k) n)) tail.0, tail.1)

  -- behind a negative r nothing but the end
  negative_only : (k : ℕ) (x : State) (line : ℕ) (fs : List (Option Frame)) (rest : List ℕ) → (judged came (at after_negative h k x) line fs rest).number ≡ 0 →
      (fs ≡ Some (End k) ∷ []) × (rest ≡ [])
  unfolding judged
  negative_only k x line [] rest e = let z : ⊥ = omega arith in absurd z
  negative_only k x line (Some (HeadFrame g) ∷ fs) rest e = let z : ⊥ = omega arith in absurd z
  negative_only k x line (Some (S s) ∷ fs) rest e = let z : ⊥ = omega arith in absurd z
  negative_only k x line (Some (End m) ∷ fs) rest e =
      let n = unless_zero came line (lowest ((not (eqb m k), 17) ∷ [])) _ (judged came (at after_end h k x) (line + 1) fs rest) e in
      ends k m x (line + 1) fs rest n.0 n.1
  negative_only k x line (Some (Clock c) ∷ fs) rest e = let z : ⊥ = omega arith in absurd z
  negative_only k x line (None ∷ fs) rest e = let z : ⊥ = omega arith in absurd z

-- what stands behind k S lines: more of them, and the end
record Rest (k : ℕ) (x : State) (fs : List (Option Frame)) (rest : List ℕ) : Type 0 where
  ss : List SFields
  cs : List Call
  frames : fs ≡ map Some (map S ss ++ End (k + length ss) ∷ [])
  done : rest ≡ []
  last : NegativeLast ss
  stand : StandFor x ss cs
  accepted : AllAccepted x cs

-- the same behind an S line that stands behind k others
record After (k : ℕ) (x : State) (s : SFields) (fs : List (Option Frame)) (rest : List ℕ) : Type 0 where
  ss : List SFields
  cs : List Call
  frames : fs ≡ map Some (map S ss ++ End (k + length (s ∷ ss)) ∷ [])
  done : rest ≡ []
  last : NegativeLast (s ∷ ss)
  stand : StandFor x (s ∷ ss) cs
  accepted : AllAccepted x cs

from_s : (k : ℕ) (x : State) (s : SFields) (fs : List (Option Frame)) (rest : List ℕ) → After k x s fs rest → Rest k x (Some (S s) ∷ fs) rest
from_s k x s fs rest a =
    record {
      ss = s ∷ a.ss;
      cs = a.cs;
      frames = ap (λ gs. Some (S s) ∷ gs) a.frames;
      done = a.done;
      last = a.last;
      stand = a.stand;
      accepted = a.accepted;
    }

module _ (came : List ℕ) (h : Head) (k : ℕ) (x : State) (s : SFields) (line : ℕ) (fs : List (Option Frame)) (rest : List ℕ)
    (agreed : agrees x.rec x.words ≡ true) (narrowed : Narrow (Some (S s))) (rows : lowest (appended_rows x s) ≡ 0) where
  abbrev left : State
  left = after x (call_of x s)

  stands : StandsFor x s (call_of x s) × (outcome_of x (call_of x s) ≡ Ok tt)
  stands = s_only x s agreed narrowed rows

  -- what follows an S line, by its sign
  s_follows : (judged came (at (cond (negative s) after_negative after_s) h (k + 1) left) line fs rest).number ≡ 0 →
      ((judged came (at after_s h (k + 1) left) line fs rest).number ≡ 0 → Rest (k + 1) left fs rest) → After k x s fs rest
  s_follows e more = go (negative s) refl e
    where
      last : (ss : List SFields) → negative s ≡ false → NegativeLast ss → NegativeLast (s ∷ ss)
      last [] p l = tt
      last (t ∷ ss) p l = (leb-false first_negative s.r p, l)

      go : (b : Bool) → negative s ≡ b → (judged came (at (cond b after_negative after_s) h (k + 1) left) line fs rest).number ≡ 0 → After k x s fs rest
      go true p q =
          let n = negative_only came h (k + 1) left line fs rest q in
          record { ss = []; cs = call_of x s ∷ []; frames = n.0; done = n.1; last = tt; stand = (stands.0, tt); accepted = (stands.1, tt) }
      go false p q =
          let r = more q in
          record {
            ss = r.ss;
            cs = call_of x s ∷ r.cs;
            frames = r.frames ∙ ap (λ (j : ℕ). map Some (map S r.ss ++ End j ∷ [])) (omega arith);
            done = r.done;
            last = last r.ss p r.last;
            stand = (stands.0, r.stand);
            accepted = (stands.1, r.accepted);
          }

module _ (came : List ℕ) (h : Head) where
  running_only : (fs : List (Option Frame)) (rest : List ℕ) (k : ℕ) (x : State) (line : ℕ) → agrees x.rec x.words ≡ true → AllNarrow fs →
      (judged came (at after_s h (k + 1) x) line fs rest).number ≡ 0 → Rest (k + 1) x fs rest
  unfolding judged
  running_only [] rest k x line a w e = let z : ⊥ = omega arith in absurd z
  running_only (Some (HeadFrame g) ∷ fs) rest k x line a w e = let z : ⊥ = omega arith in absurd z
  running_only (Some (S s) ∷ fs) rest k x line a w e =
      let n = unless_zero came line (lowest (line_rows came (late came h k x s) (Some (S s)))) _ (judged came (taking came (late came h k x s) (Some (S s))) (line + 1) fs rest) e in
      let rows : lowest (appended_rows x s) ≡ 0 = sym (late_number came h k x s) ∙ n.0 in
      from_s (k + 1) x s fs rest
      (s_follows came h (k + 1) x s (line + 1) fs rest a w.0 rows
      (ap (λ y. (judged came (at (cond (negative s) after_negative after_s) h (k + 1 + 1) (after y (call_of y s))) (line + 1) fs rest).number) (sym (late_timeline came h k x s)) ∙
      n.1)
      (running_only fs rest (k + 1) (after x (call_of x s)) (line + 1) (s_agrees x s a w.0 rows) w.1))
  running_only (Some (End m) ∷ fs) rest k x line a w e =
      let n = unless_zero came line (lowest ((not (eqb m (k + 1)), 17) ∷ [])) _ (judged came (at after_end h (k + 1) x) (line + 1) fs rest) e in
      let t = ends came h (k + 1) m x (line + 1) fs rest n.0 n.1 in
      record { ss = []; cs = []; frames = t.0 ∙ ap (λ (j : ℕ). Some (End j) ∷ []) (omega arith); done = t.1; last = tt; stand = tt; accepted = tt }
  running_only (Some (Clock c) ∷ fs) rest k x line a w e = let z : ⊥ = omega arith in absurd z
  running_only (None ∷ fs) rest k x line a w e = let z : ⊥ = omega arith in absurd z

-- what a file is that no row refuses
pub record Whole (came : List ℕ) (fs : List (Option Frame)) (rest : List ℕ) : Type 0 where
  pub line : HeadLine
  pub s : SFields
  pub ss : List SFields
  pub cs : List Call
  pub frames : fs ≡ map Some (file_frames line (s ∷ ss))
  pub done : rest ≡ []
  pub last : NegativeLast (s ∷ ss)
  pub opens : open_outcome (head_in line) (opening_tick s) ≡ Ok tt
  pub stand : StandFor (opening (head_in line) (opening_tick s) came) (s ∷ ss) cs
  pub accepted : AllAccepted (opening (head_in line) (opening_tick s) came) cs

whole_of : (came : List ℕ) (x : HeadLine) (s : SFields) (fs : List (Option Frame)) (rest : List ℕ) → open_outcome (head_in x) (opening_tick s) ≡ Ok tt →
    After 0 (opening (head_in x) (opening_tick s) came) s fs rest → Whole came (Some (HeadFrame x) ∷ Some (S s) ∷ fs) rest
whole_of came x s fs rest o r =
    record {
      line = x;
      s = s;
      ss = r.ss;
      cs = r.cs;
      frames = ap (λ gs. Some (HeadFrame x) ∷ Some (S s) ∷ gs) (r.frames ∙ ap (λ (j : ℕ). map Some (map S r.ss ++ End j ∷ [])) (omega arith));
      done = r.done;
      last = r.last;
      opens = o;
      stand = r.stand;
      accepted = r.accepted;
    }

-- the opening's row, before those of its S line
open_first : (b : Bool) (rows : List (Bool × ℕ)) → lowest ((b, 1) ∷ rows) ≡ 0 → (lowest ((b, 1) ∷ []) ≡ 0) × (lowest rows ≡ 0)
open_first true rows e = let z : ⊥ = omega arith in absurd z
open_first false rows e = (refl, e)

module _ (came : List ℕ) (rest : List ℕ) where
  headed_only : (l : HeadLine) (x : State) (fs : List (Option Frame)) → AllNarrow fs → (judged came (at after_head (head_in l) 0 x) 2 fs rest).number ≡ 0 →
      Whole came (Some (HeadFrame l) ∷ fs) rest
  unfolding judged
  headed_only l x [] w e = let z : ⊥ = omega arith in absurd z
  headed_only l x (Some (HeadFrame g) ∷ fs) w e = let z : ⊥ = omega arith in absurd z
  headed_only l x (Some (S s) ∷ fs) w e =
      let h = head_in l in
      let y = opening h (opening_tick s) came in
      let n =
      unless_zero came 2 (lowest ((over_limit h (opening_tick s), 1) ∷ appended_rows y s)) _
      (judged came (at (cond (negative s) after_negative after_s) h 1 (after y (call_of y s))) 3 fs rest)
      e
      in
      let first = open_first (over_limit h (opening_tick s)) (appended_rows y s) n.0 in
      let o : open_outcome h (opening_tick s) ≡ Ok tt = number_accepted (open_outcome h (opening_tick s)) (sym (open_number h (opening_tick s)) ∙ first.0) in
      let a = open_agreed came h s o in
      whole_of came l s fs rest o
      (s_follows came h 0 y s 3 fs rest a w.0 first.1 n.1
      (running_only came h fs rest 0 (after y (call_of y s)) 3 (s_agrees y s a w.0 first.1) w.1))
  headed_only l x (Some (End m) ∷ fs) w e = let z : ⊥ = omega arith in absurd z
  headed_only l x (Some (Clock c) ∷ fs) w e = let z : ⊥ = omega arith in absurd z
  headed_only l x (None ∷ fs) w e = let z : ⊥ = omega arith in absurd z

  pub whole_only : (fs : List (Option Frame)) → AllNarrow fs → (judged came (beginning came) 1 fs rest).number ≡ 0 → Whole came fs rest
  unfolding judged
  whole_only [] w e = let z : ⊥ = omega arith in absurd z
  whole_only (Some (HeadFrame f) ∷ fs) w e =
      headed_only f (beginning came).timeline fs w.1
      (unless_zero came 1 (lowest (line_rows came (beginning came) (Some (HeadFrame f)))) _ (judged came (at after_head (head_in f) 0 (beginning came).timeline) 2 fs rest) e).1
  whole_only (Some (S s) ∷ fs) w e = let z : ⊥ = omega arith in absurd z
  whole_only (Some (End m) ∷ fs) w e = let z : ⊥ = omega arith in absurd z
  whole_only (Some (Clock c) ∷ fs) w e = let z : ⊥ = omega arith in absurd z
  whole_only (None ∷ fs) w e = let z : ⊥ = omega arith in absurd z

-- ---- from the file to the rows

goes_on_lem : (came : List ℕ) (x : Sofar) (line : ℕ) (f : Option Frame) (fs : List (Option Frame)) (rest : List ℕ) → lowest (line_rows came x f) ≡ 0 →
    judged came x line (f ∷ fs) rest ≡ judged came (taking came x f) (line + 1) fs rest
unfolding judged
goes_on_lem came x line f fs rest e = ap (λ (n : ℕ). unless_refused came line n (line_distance came x f n) (judged came (taking came x f) (line + 1) fs rest)) e

module _ (came : List ℕ) (h : Head) where
  end_if : (b : Bool) (k : ℕ) (x : State) (line : ℕ) → judged came (at (cond b after_negative after_s) h k x) line (Some (End k) ∷ []) [] ≡ accepted x
  unfolding judged
  end_if true k x line = goes_on_lem came (at after_negative h k x) line (Some (End k)) [] [] (ap (λ t. lowest ((not t, 17) ∷ [])) (eq-eqb k k refl))
  end_if false k x line = goes_on_lem came (at after_s h k x) line (Some (End k)) [] [] (ap (λ t. lowest ((not t, 17) ∷ [])) (eq-eqb k k refl))

  -- the sign of an S does not matter where no S follows
  either_sign : (b : Bool) (ss : List SFields) (k : ℕ) (x : State) (line : ℕ) → (b ≡ true → ss ≡ []) →
      judged came (at (cond b after_negative after_s) h k x) line (map Some (map S ss ++ End (k + length ss) ∷ [])) [] ≡
      judged came (at after_s h k x) line (map Some (map S ss ++ End (k + length ss) ∷ [])) []
  either_sign false ss k x line n = refl
  either_sign true [] k x line n =
      let same : End (k + 0) ≡ End k = ap End (omega arith) in
      ap (λ f. judged came (at after_negative h k x) line (Some f ∷ []) []) same ∙
      end_if true k x line ∙
      sym (ap (λ f. judged came (at after_s h k x) line (Some f ∷ []) []) same ∙ end_if false k x line)
  either_sign true (s ∷ ss) k x line n = let z : ⊥ = omega (arith, ap length (n refl)) in absurd z

negative_last : (s : SFields) (ss : List SFields) → NegativeLast (s ∷ ss) → negative s ≡ true → ss ≡ []
negative_last s [] l e = refl
negative_last s (t ∷ ss) l e = absurd (false≢true (sym (lt-leb first_negative s.r l.0) ∙ e))

last_more : (s : SFields) (ss : List SFields) → NegativeLast (s ∷ ss) → NegativeLast ss
last_more s [] l = tt
last_more s (t ∷ ss) l = l.1

-- the head is within its limits, where the opening was
head_row : (came : List ℕ) (h : Head) (t : Tick) → open_outcome h t ≡ Ok tt → lowest ((over_limit h (record { 0 = 0 }), 1) ∷ []) ≡ 0
unfolding open_outcome
head_row came h t o = head_number_lem came h true ((and-eq-true_iff (head_held h) (tick_held t)).0 (past_if (head_held h && tick_held t) (Ok tt) OverLimit o).0).0

module _ (came : List ℕ) (h : Head) where
  running_if : (ss : List SFields) (cs : List Call) (k : ℕ) (x : State) (line : ℕ) → agrees x.rec x.words ≡ true → AllNarrow (map Some (map S ss)) → NegativeLast ss →
      StandFor x ss cs → AllAccepted x cs → judged came (at after_s h (k + 1) x) line (map Some (map S ss ++ End (k + 1 + length ss) ∷ [])) [] ≡ accepted (after_calls x cs)
  unfolding after_calls
  running_if [] [] k x line a w l st ok = ap (λ (j : ℕ). judged came (at after_s h (k + 1) x) line (Some (End j) ∷ []) []) (omega arith) ∙ end_if came h false (k + 1) x line
  running_if [] (c ∷ cs) k x line a w l st ok = absurd st
  running_if (s ∷ ss) [] k x line a w l st ok = absurd st
  running_if (s ∷ ss) (c ∷ cs) k x line a w l st ok =
      let is = s_if x s a w.0 c st.0 ok.0 in
      let y = after x (call_of x s) in
      let place = cond (negative s) after_negative after_s in
      goes_on_lem came (late came h k x s) line (Some (S s)) (map Some (map S ss ++ End (k + 1 + length (s ∷ ss)) ∷ [])) [] (late_number came h k x s ∙ is.1) ∙
      ap (λ z. judged came (at place h (k + 1 + 1) (after z (call_of z s))) (line + 1) (map Some (map S ss ++ End (k + 1 + length (s ∷ ss)) ∷ [])) []) (late_timeline came h k x s) ∙
      ap (λ (j : ℕ). judged came (at place h (k + 1 + 1) y) (line + 1) (map Some (map S ss ++ End j ∷ [])) []) (omega arith) ∙
      either_sign came h (negative s) ss (k + 1 + 1) y (line + 1) (negative_last s ss l) ∙
      running_if ss cs (k + 1) y (line + 1) (s_agrees x s a w.0 is.1) w.1 (last_more s ss l) (subst (λ d. StandFor (after x d) ss cs) is.0 st.1)
      (subst (λ d. AllAccepted (after x d) cs) is.0 ok.1) ∙
      ap (λ d. accepted (after_calls (after x d) cs)) (sym is.0)

module _ (came : List ℕ) (hd : HeadLine) where
  abbrev h : Head
  h = head_in hd

  pub whole_if : (s : SFields) (ss : List SFields) (cs : List Call) → AllNarrow (map Some (map S (s ∷ ss))) → NegativeLast (s ∷ ss) → open_outcome h (opening_tick s) ≡ Ok tt →
      StandFor (opening h (opening_tick s) came) (s ∷ ss) cs → AllAccepted (opening h (opening_tick s) came) cs →
      judged came (beginning came) 1 (map Some (file_frames hd (s ∷ ss))) [] ≡ accepted (after_calls (opening h (opening_tick s) came) cs)
  unfolding after_calls
  whole_if s ss [] w l o st ok = absurd st
  whole_if s ss (c ∷ cs) w l o st ok =
      let x = opening h (opening_tick s) came in
      let a = open_agreed came h s o in
      let is = s_if x s a w.0 c st.0 ok.0 in
      let y = after x (call_of x s) in
      let place = cond (negative s) after_negative after_s in
      let tail = map Some (map S ss ++ End (length (s ∷ ss)) ∷ []) in
      let none = no_over came h s o in
      goes_on_lem came (beginning came) 1 (Some (HeadFrame hd)) (Some (S s) ∷ tail) [] (head_row came h (opening_tick s) o) ∙
      goes_on_lem came (at after_head h 0 (beginning came).timeline) 2 (Some (S s)) tail [] (ap (λ b. lowest ((b, 1) ∷ appended_rows x s)) none ∙ is.1) ∙
      ap (λ (j : ℕ). judged came (at place h 1 y) 3 (map Some (map S ss ++ End j ∷ [])) []) (omega arith) ∙
      either_sign came h (negative s) ss 1 y 3 (negative_last s ss l) ∙
      running_if came h ss cs 0 y 3 (s_agrees x s a w.0 is.1) w.1 (last_more s ss l) (subst (λ d. StandFor (after x d) ss cs) is.0 st.1)
      (subst (λ d. AllAccepted (after x d) cs) is.0 ok.1) ∙
      ap (λ d. accepted (after_calls (after x d) cs)) (sym is.0)
