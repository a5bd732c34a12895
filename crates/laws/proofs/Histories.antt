-- Demand 3 holds. A history is an opening, the accepted references in order and the greatest accepted clock; one function
-- gives the state of a history, every accepted call takes it to the state of the longer history, and every refused call
-- leaves it.
use mathlib.Core.Path.{◌≡◌, refl, sym, ap, ap₂, subst, subst⁻¹, ◌∙◌}
use mathlib.Core.Bool.{true}
use mathlib.Core.List.{List, [], ◌∷◌, ◌++◌, append-nil, append_assoc}
use Prim.Native.Nat.{ℕ, ◌+◌, ◌-◌, ◌*◌, ◌/◌, ◌≤◌, max}
use native.Mathlib.Nat.{le-max_left, max-zero, zero-max, le_refl, le_antisymm, sub-zero}
use native.Mathlib.Omega.{arith}
use lib.ListN.{length, drop, replicate, length-append, length-replicate}
use Rattle.units.specs.declared.Stamp.{Stamp}
use Rattle.units.specs.declared.WideMillis.{WideMillis}
use Rattle.units.specs.declared.Tick.{Tick}
use Rattle.units.specs.declared.standing.Standing.{Standing}
use Rattle.units.specs.Standing.{tick_standing, stamp_standing}
use Rattle.units.specs.Limits.{largest_span, largest_millis}
use Rattle.window.specs.declared.Head.{Head}
use Rattle.window.specs.declared.Reference.{Reference}
use Rattle.window.specs.References.{EndToStart, Each, Sound}
use Rattle.runs.specs.Words.{repeated}
use Rattle.runs.specs.Words as Words
use Rattle.runs.specs.Encoding.{encode, table_of, runs_for, canonical}
use Rattle.runs.specs.Ends.{last_end}
use Rattle.runs.proofs.Opening.{repeated_length}
use Rattle.runs.proofs.EndToStart.{join_append, each_append, repeated_join, repeated_end, end_append}
use Rattle.runs.proofs.Tables.{canonical_length}
use Rattle.agreement.specs.declared.Record.{Record}
use Rattle.agreement.specs.declared.refusal.Refusal.{Refusal}
use Rattle.agreement.specs.Agreement.{kept, agrees}
use Rattle.agreement.proofs.Agreeing.{agreeing}
use Rattle.std.specs.Prelude.{Err, Ok}
use Rattle.keeping.specs.Keeping.{Outcome}
use Rattle.keeping.specs.Keeping.{unspent, words_keeping, changed_by, words_by}
use Rattle.keeping.specs.Append.{given, all_of, unspent_of, appended}
use Rattle.keeping.proofs.Unspent.{unspent_append, unspent_few}
use Rattle.timeline.specs.Opening.{fresh_record, zero_record, open_outcome}
use Rattle.timeline.specs.Appending.{append_outcome}
use Rattle.timeline.specs.Trimming.{unspent_at, trim_outcome, trimmed}
use Rattle.timeline.specs.Pair.{pair_outcome}
use Rattle.timeline.proofs.Kept.{open_agrees, trim_passed, trim_keeps, Taken, taken, accepted_keeps}
use Rattle.timeline.proofs.Pairs.{trim_taken, pair_passed}
use Rattle.laws.specs.Calls.{Call, by_tick, by_stamp, trim_at, pair_at, Plain, State, opening, append_to, after, after_calls, outcome_of, if_accepted, brought, all_accepted, accepted_appends, laid_from, clock_if, clock_of, greatest}
use Rattle.laws.specs.History.{StillNeeded, Picked, Holds, Mixings, Demand3}
use Rattle.laws.proofs.Calling.{state_from, append_done, append_refused, trim_done, trim_refused, pair_done, pair_refused, answered, laid_out, never, stay}
use Rattle.laws.proofs.Leaving.{unspent_raised, left_suffix, left_kept, trim_room, each_sound, drop_counted, still}

pub max_assoc : (a b d : ℕ) → max (max a b) d ≡ max a (max b d)
max_assoc a b d = le_antisymm (omega arith) (omega arith)

-- ---- the state of a history

module _ (h : Head) (t : Tick) (words : ℕ) where
  abbrev pub record_of : List Reference → ℕ → Record
  record_of acc c =
      record {
        head = h;
        accepted = length acc;
        dropped = length acc - length (unspent h c acc);
        next = record { 0 = last_end t.0 acc };
        clock = record { 0 = c };
        used = runs_for (unspent h c acc);
      }

  abbrev pub words_of : List Reference → ℕ → List ℕ
  words_of acc c = canonical words (unspent h c acc)

  abbrev pub state_of : List Reference → ℕ → State
  state_of acc c = state_from (record_of acc c) (words_of acc c)

  -- a history that calls can have made
  pub record Fit (acc : List Reference) (c : ℕ) : Type 0 where
    pub agreed : agrees (record_of acc c) (words_of acc c) ≡ true
    pub long : length (words_of acc c) ≡ words
    pub joined : EndToStart t.0 acc
    pub sound : Each (Sound h) acc

  module _ (acc : List Reference) (c : ℕ) (fit : Fit acc c) where
    suffix : (n : ℕ) × (unspent h c acc ≡ drop n acc)
    suffix = left_suffix h c t.0 acc fit.joined

    kept_is : kept (record_of acc c) (words_of acc c) ≡ unspent h c acc
    kept_is = left_kept h c t.0 acc fit.joined words

    -- ---- an append

    module _ (st : Standing) (d n : ℕ) where
      new : List Reference
      new = repeated (last_end t.0 acc) d n

      -- what it would leave, accepted or not
      pub left_is : unspent_of (record_of acc c) (words_of acc c) d n ≡ unspent h c (acc ++ repeated (last_end t.0 acc) d n)
      unfolding new
      left_is =
          ap (λ xs. unspent h c (xs ++ new)) kept_is ∙
          unspent_append h c (unspent h c acc) new ∙
          ap (λ xs. xs ++ unspent h c new) (unspent_raised h c c (le_refl c) acc) ∙
          sym (unspent_append h c acc new)

      module _ (narrow : d ≤ largest_span) (e : append_outcome (record_of acc c) (words_of acc c) st d n ≡ Ok tt) where
        took : Taken (record_of acc c) (words_of acc c) st d n
        took = taken (record_of acc c) (words_of acc c) st d n e

        some : 1 ≤ n
        some = omega (arith, took.counts)

        next_is : last_end t.0 acc + d * n ≡ last_end t.0 (acc ++ new)
        unfolding new
        next_is = sym (end_append t.0 acc new ∙ repeated_end (last_end t.0 acc) (last_end t.0 acc) d n some)

        count_is : length acc + n ≡ length (acc ++ new)
        unfolding new
        count_is = omega (arith, length-append acc new, repeated_length (last_end t.0 acc) d n)

        dropped_is : (length acc - length (unspent h c acc)) + (length (all_of (record_of acc c) (words_of acc c) d n) - length (unspent_of (record_of acc c) (words_of acc c) d n)) ≡
            length (acc ++ new) - length (unspent h c (acc ++ new))
        unfolding new
        dropped_is =
            omega (
              arith,
              count_is,
              unspent_few h c acc,
              unspent_few h c (all_of (record_of acc c) (words_of acc c) d n),
              ap length left_is,
              ap length kept_is,
              length-append (kept (record_of acc c) (words_of acc c)) new,
              repeated_length (last_end t.0 acc) d n,
            )

        record_is : appended (record_of acc c) (words_of acc c) d n ≡ record_of (acc ++ new) c
        unfolding new
        record_is =
            ap₂ (λ (a x : ℕ). record { head = h; accepted = a; dropped = x; next = record { 0 = last_end t.0 acc + d * n }; clock = record { 0 = c }; used = runs_for (unspent_of (record_of acc c) (words_of acc c) d n) }) count_is dropped_is ∙
            ap₂ (λ (x u : ℕ). record { head = h; accepted = length (acc ++ new); dropped = length (acc ++ new) - length (unspent h c (acc ++ new)); next = record { 0 = x }; clock = record { 0 = c }; used = u }) next_is (ap runs_for left_is)

        words_is : words_keeping (words_of acc c) (unspent_of (record_of acc c) (words_of acc c) d n) ≡ words_of (acc ++ new) c
        unfolding new
        words_is = ap₂ canonical fit.long left_is

        append_state : append_to (state_of acc c) st d n ≡ state_of (acc ++ new) c
        append_state = append_done (state_of acc c) st d n e ∙ ap₂ state_from record_is words_is

        new_sound : Each (Sound h) new
        unfolding new
        new_sound = each_sound h d (omega (arith, took.lasts)) (last_end t.0 acc) n took.begins

        room : runs_for (unspent h c (acc ++ new)) ≤ words / 3
        unfolding new
        room =
            subst (λ rs. runs_for rs ≤ words / 3) left_is
            (subst (λ (m : ℕ). runs_for (unspent_of (record_of acc c) (words_of acc c) d n) ≤ m / 3) fit.long took.room)

        append_fit : Fit (acc ++ new) c
        unfolding new
        append_fit =
            record {
              agreed = ap₂ agrees (sym record_is) (sym words_is) ∙ accepted_keeps (record_of acc c) (words_of acc c) st d n narrow e;
              long = canonical_length words (unspent h c (acc ++ new)) room;
              joined = join_append t.0 acc new fit.joined (repeated_join (last_end t.0 acc) d n);
              sound = each_append (Sound h) acc new fit.sound new_sound;
            }

    -- ---- a trim

    module _ (m : WideMillis) where
      module _ (e : trim_outcome (record_of acc c) (words_of acc c) m ≡ Ok tt) where
        less_is : unspent_at (record_of acc c) (words_of acc c) m.0 ≡ unspent h (max c m.0) acc
        less_is = ap (unspent h (max c m.0)) kept_is ∙ unspent_raised h c (max c m.0) (le-max_left c m.0) acc

        more_dropped : (length acc - length (unspent h c acc)) + (length (kept (record_of acc c) (words_of acc c)) - length (unspent_at (record_of acc c) (words_of acc c) m.0)) ≡
            length acc - length (unspent h (max c m.0) acc)
        more_dropped =
            omega (
              arith,
              unspent_few h c acc,
              ap length kept_is,
              ap length less_is,
              unspent_few h (max c m.0) (kept (record_of acc c) (words_of acc c)),
            )

        trimmed_is : trimmed (record_of acc c) (words_of acc c) m.0 ≡ record_of acc (max c m.0)
        trimmed_is =
            ap₂ (λ (x u : ℕ). record { head = h; accepted = length acc; dropped = x; next = record { 0 = last_end t.0 acc }; clock = record { 0 = max c m.0 }; used = u }) more_dropped (ap runs_for less_is)

        trim_words : words_keeping (words_of acc c) (unspent_at (record_of acc c) (words_of acc c) m.0) ≡ words_of acc (max c m.0)
        trim_words = ap₂ canonical fit.long less_is

        trim_state : after (state_of acc c) (trim_at m) ≡ state_of acc (max c m.0)
        trim_state = trim_done (state_of acc c) m e ∙ ap₂ state_from trimmed_is trim_words

        small : m.0 ≤ largest_millis
        small = (trim_passed (record_of acc c) (words_of acc c) m e).1

        kept_agrees : agrees (record_of acc (max c m.0)) (words_of acc (max c m.0)) ≡ true
        kept_agrees = ap₂ agrees (sym trimmed_is) (sym trim_words) ∙ trim_keeps (record_of acc c) (words_of acc c) m fit.agreed small

        room_left : runs_for (unspent h (max c m.0) acc) ≤ words / 3
        room_left =
            subst (λ rs. runs_for rs ≤ words / 3) less_is
            (subst (λ (k : ℕ). runs_for (unspent_at (record_of acc c) (words_of acc c) m.0) ≤ k / 3) fit.long
            (trim_room (record_of acc c) (words_of acc c) fit.agreed m.0))

        trim_fit : Fit acc (max c m.0)
        trim_fit =
            record {
              agreed = kept_agrees;
              long = canonical_length words (unspent h (max c m.0) acc) room_left;
              joined = fit.joined;
              sound = fit.sound;
            }

  -- ---- a list of calls

  -- one call takes a history to a longer one
  pub record Next (acc : List Reference) (c : ℕ) (call : Call) : Type 0 where
    pub state : after (state_of acc c) call ≡ state_of (acc ++ brought (state_of acc c) call) (max c (clock_of (state_of acc c) call))
    pub fits : Fit (acc ++ brought (state_of acc c) call) (max c (clock_of (state_of acc c) call))

  same_history : (acc other : List Reference) (c d : ℕ) → acc ≡ other → c ≡ d → Fit acc c → Fit other d
  same_history acc other c d e k f = subst (λ (m : ℕ). Fit other m) k (subst (λ xs. Fit xs c) e f)

  next_append : (acc : List Reference) (c : ℕ) → Fit acc c → (st : Standing) (d n : ℕ) → d ≤ largest_span →
      (o : Outcome) → append_outcome (record_of acc c) (words_of acc c) st d n ≡ o →
      (append_to (state_of acc c) st d n ≡ state_of (acc ++ if_accepted o (given (record_of acc c) d n)) (max c 0)) ×
      Fit (acc ++ if_accepted o (given (record_of acc c) d n)) (max c 0)
  unfolding new
  next_append acc c f st d n l (Ok _) e = (
    append_state acc c f st d n l e ∙ ap (state_of (acc ++ given (record_of acc c) d n)) (sym (max-zero c)),
    same_history (acc ++ given (record_of acc c) d n) (acc ++ given (record_of acc c) d n) c (max c 0) refl (sym (max-zero c)) (append_fit acc c f st d n l e),
  )
  next_append acc c f st d n l (Err why) e = (
    append_refused (state_of acc c) st d n why e ∙ ap₂ state_of (sym (append-nil acc)) (sym (max-zero c)),
    same_history acc (acc ++ []) c (max c 0) (sym (append-nil acc)) (sym (max-zero c)) f,
  )

  next_trim : (acc : List Reference) (c : ℕ) → Fit acc c → (m : WideMillis) →
      (o : Outcome) → trim_outcome (record_of acc c) (words_of acc c) m ≡ o →
      (after (state_of acc c) (trim_at m) ≡ state_of (acc ++ []) (max c (clock_if o m.0))) × Fit (acc ++ []) (max c (clock_if o m.0))
  next_trim acc c f m (Ok _) e = (
    trim_state acc c f m e ∙ ap (λ xs. state_of xs (max c m.0)) (sym (append-nil acc)),
    same_history acc (acc ++ []) (max c m.0) (max c m.0) (sym (append-nil acc)) refl (trim_fit acc c f m e),
  )
  next_trim acc c f m (Err why) e = (
    trim_refused (state_of acc c) m why e ∙ ap₂ state_of (sym (append-nil acc)) (sym (max-zero c)),
    same_history acc (acc ++ []) c (max c 0) (sym (append-nil acc)) (sym (max-zero c)) f,
  )

  next_pair : (acc : List Reference) (c : ℕ) → Fit acc c → (x : Stamp) (d n : ℕ) (m : WideMillis) → d ≤ largest_span →
      (o : Outcome) → pair_outcome (record_of acc c) (words_of acc c) (stamp_standing x (record_of acc c).next) d n m ≡ o →
      (after (state_of acc c) (pair_at x d n m) ≡ state_of (acc ++ if_accepted o (given (record_of acc c) d n)) (max c (clock_if o m.0))) ×
      Fit (acc ++ if_accepted o (given (record_of acc c) d n)) (max c (clock_if o m.0))
  unfolding new
  next_pair acc c f x d n m l (Ok _) e =
      let st = stamp_standing x (record_of acc c).next in
      let p = pair_passed (record_of acc c) (words_of acc c) st d n m e in
      let long = acc ++ given (record_of acc c) d n in
      let g = append_fit acc c f st d n l p.taken in
      let t = trim_taken (record_of long c) (words_of long c) m p.held g.agreed in (
        pair_done (state_of acc c) x d n m e ∙ ap (λ s. after s (trim_at m)) (append_state acc c f st d n l p.taken) ∙ trim_state long c g m t,
        trim_fit long c g m t,
      )
  next_pair acc c f x d n m l (Err why) e = (
    pair_refused (state_of acc c) x d n m why e ∙ ap₂ state_of (sym (append-nil acc)) (sym (max-zero c)),
    same_history acc (acc ++ []) c (max c 0) (sym (append-nil acc)) (sym (max-zero c)) f,
  )

  -- a trim brings nothing, however it ends
  none_brought : (o : Outcome) → if_accepted {A = Reference} o [] ≡ []
  none_brought (Ok _) = refl
  none_brought (Err why) = refl

  pub next_call : (acc : List Reference) (c : ℕ) → Fit acc c → (call : Call) → Plain (call ∷ []) → Next acc c call
  next_call acc c f (by_tick x d n) p =
      let s = state_of acc c in
      let k = next_append acc c f (tick_standing x s.rec.next) d n p.0 (outcome_of s (by_tick x d n)) (answered s (by_tick x d n)) in
      record { state = k.0; fits = k.1 }
  next_call acc c f (by_stamp x d n) p =
      let s = state_of acc c in
      let k = next_append acc c f (stamp_standing x s.rec.next) d n p.0 (outcome_of s (by_stamp x d n)) (answered s (by_stamp x d n)) in
      record { state = k.0; fits = k.1 }
  next_call acc c f (trim_at m) p =
      let s = state_of acc c in
      let none : acc ++ brought s (trim_at m) ≡ acc ++ [] = ap (λ xs. acc ++ xs) (none_brought (outcome_of s (trim_at m))) in
      let k = next_trim acc c f m (outcome_of s (trim_at m)) (answered s (trim_at m)) in
      let clock = max c (clock_of s (trim_at m)) in
      record {
        state = k.0 ∙ ap (λ xs. state_of xs clock) (sym none);
        fits = same_history (acc ++ []) (acc ++ brought s (trim_at m)) clock clock (sym none) refl k.1;
      }
  next_call acc c f (pair_at x d n m) p =
      let s = state_of acc c in
      let k = next_pair acc c f x d n m p.0 (outcome_of s (pair_at x d n m)) (answered s (pair_at x d n m)) in
      record { state = k.0; fits = k.1 }

  -- THE LAW: a list of calls takes the state of a history to the state of the longer history
  pub record Ran (acc : List Reference) (c : ℕ) (cs : List Call) : Type 0 where
    pub state : after_calls (state_of acc c) cs ≡ state_of (acc ++ all_accepted (state_of acc c) cs) (max c (greatest (state_of acc c) cs))
    pub fits : Fit (acc ++ all_accepted (state_of acc c) cs) (max c (greatest (state_of acc c) cs))

  plain_first : (call : Call) (cs : List Call) → Plain (call ∷ cs) → Plain (call ∷ []) × Plain cs
  plain_first (by_tick x d n) cs p = ((p.0, tt), p.1)
  plain_first (by_stamp x d n) cs p = ((p.0, tt), p.1)
  plain_first (trim_at m) cs p = (tt, p)
  plain_first (pair_at x d n m) cs p = ((p.0, tt), p.1)

  pub runs : (acc : List Reference) (c : ℕ) → Fit acc c → (cs : List Call) → Plain cs → Ran acc c cs
  unfolding after_calls all_accepted greatest
  runs acc c f [] p =
      record {
        state = ap₂ state_of (sym (append-nil acc)) (sym (max-zero c));
        fits = same_history acc (acc ++ []) c (max c 0) (sym (append-nil acc)) (sym (max-zero c)) f;
      }
  runs acc c f (call ∷ cs) p =
      let q = plain_first call cs p in
      let s = state_of acc c in
      let k = next_call acc c f call q.0 in
      let r = runs (acc ++ brought s call) (max c (clock_of s call)) k.fits cs q.1 in
      let long : acc ++ brought s call ++ all_accepted (state_of (acc ++ brought s call) (max c (clock_of s call))) cs ≡ acc ++ (brought s call ++ all_accepted (after s call) cs) =
      append_assoc acc (brought s call) (all_accepted (state_of (acc ++ brought s call) (max c (clock_of s call))) cs) ∙
      ap (λ x. acc ++ (brought s call ++ all_accepted x cs)) (sym k.state)
      in
      let high : max (max c (clock_of s call)) (greatest (state_of (acc ++ brought s call) (max c (clock_of s call))) cs) ≡ max c (max (clock_of s call) (greatest (after s call) cs)) =
      max_assoc c (clock_of s call) (greatest (state_of (acc ++ brought s call) (max c (clock_of s call))) cs) ∙
      ap (λ x. max c (max (clock_of s call) (greatest x cs))) (sym k.state)
      in
      record {
        state = ap (λ x. after_calls x cs) k.state ∙ r.state ∙ ap₂ state_of long high;
        fits = same_history _ _ _ _ long high r.fits;
      }

  pub holds : (acc : List Reference) (c : ℕ) → Fit acc c → Holds h t words (state_of acc c) acc c
  holds acc c f =
      record {
        head = refl;
        counted = refl;
        dropped = omega (arith, unspent_few h c acc, ap length (kept_is acc c f));
        next = refl;
        clock = refl;
        settled =
            record {
              agreed = f.agreed;
              long = f.long;
              used = sym (ap runs_for (kept_is acc c f));
              table = sym (ap (canonical words) (kept_is acc c f));
            };
        joined = f.joined;
        exactly =
            subst⁻¹ (Picked (StillNeeded h c) acc) (kept_is acc c f)
            (still h c (agreeing (record_of acc c) (words_of acc c) f.agreed).held.head.some acc f.sound);
        numbered =
            kept_is acc c f ∙
            (suffix acc c f).1 ∙
            drop_counted (suffix acc c f).0 acc ∙
            ap (λ xs. drop (length acc - length xs) acc) (sym (suffix acc c f).1);
      }

  pub start_fit : open_outcome h t ≡ Ok tt → Fit [] 0
  unfolding unspent last_end encode table_of Words.words_of
  start_fit o =
      let blank : replicate words 0 ≡ words_of [] 0 = ap (λ (n : ℕ). replicate n 0) (sym (sub-zero words)) in
      record {
        agreed = ap (agrees (fresh_record h t)) (sym blank) ∙ open_agrees h t words o;
        long = ap length (sym blank) ∙ length-replicate words 0;
        joined = tt;
        sound = tt;
      }

-- ---- from an opening

module _ (h : Head) (t : Tick) (came : List ℕ) where
  abbrev opens : State
  opens = opening h t came

  abbrev leaves : Outcome → State
  leaves o = state_from (changed_by o (fresh_record h t) zero_record).rec (words_by o (replicate (length came) 0) came)

  abbrev reached : List Reference → ℕ → State
  reached = state_of h t (length came)

  module _ (o : open_outcome h t ≡ Ok tt) where
    -- the opening is the history of nothing
    pub start_is : opens ≡ reached [] 0
    unfolding changed_by words_by unspent last_end encode table_of Words.words_of
    start_is = ap leaves o ∙ ap (λ (n : ℕ). state_from (fresh_record h t) (replicate n 0)) (sym (sub-zero (length came)))

    first_tick_lem : opens.rec.next.0 ≡ t.0
    unfolding changed_by
    first_tick_lem = ap (λ x. (leaves x).rec.next.0) o

    module _ (cs : List Call) (p : Plain cs) where
      all_same : all_accepted (reached [] 0) cs ≡ all_accepted opens cs
      all_same = ap (λ x. all_accepted x cs) (sym start_is)

      clock_same : max 0 (greatest (reached [] 0) cs) ≡ greatest opens cs
      clock_same = zero-max (greatest (reached [] 0) cs) ∙ ap (λ x. greatest x cs) (sym start_is)

      ran : Ran h t (length came) [] 0 cs
      ran = runs h t (length came) [] 0 (start_fit h t (length came) o) cs p

      pub ends_in : after_calls opens cs ≡ reached (all_accepted opens cs) (greatest opens cs)
      ends_in = ap (λ x. after_calls x cs) start_is ∙ ran.state ∙ ap₂ reached all_same clock_same

      ends_fit : Fit h t (length came) (all_accepted opens cs) (greatest opens cs)
      ends_fit = same_history h t (length came) _ _ _ _ all_same clock_same ran.fits

  -- after a refused opening
  module _ (why : Refusal) (o : open_outcome h t ≡ Err why) where
    refused_is : opens ≡ state_from zero_record came
    unfolding changed_by words_by
    refused_is = ap leaves o

-- each accepted reference lasts, and starts before the period end
pub accepted_sound : (h : Head) (t : Tick) (came : List ℕ) → open_outcome h t ≡ Ok tt → (cs : List Call) → Plain cs → Each (Sound h) (all_accepted (opening h t came) cs)
accepted_sound h t came o cs p = (ends_fit h t came o cs p).sound

-- ---- the accepted references by the accepted appends

laid : (h : Head) (t : Tick) (came : List ℕ) → open_outcome h t ≡ Ok tt → (cs : List Call) →
    all_accepted (opening h t came) cs ≡ laid_from t.0 (accepted_appends (opening h t came) cs)
laid h t came o cs =
    laid_out (opening h t came) cs ∙ ap (λ (n : ℕ). laid_from n (accepted_appends (opening h t came) cs)) (first_tick_lem h t came o)

-- ---- two lists of calls

module _ (h : Head) (t : Tick) (came other : List ℕ) (cs ds : List Call) (m : Mixings h t came other cs ds) where
  split : all_accepted (opening h t came) cs ≡ all_accepted (opening h t other) ds → after_calls (opening h t came) cs ≡ after_calls (opening h t other) ds
  split e =
      ends_in h t came m.opens cs m.first ∙
      ap₂ (state_of h t (length came)) e m.one_clock ∙
      ap (λ (n : ℕ). state_of h t n (all_accepted (opening h t other) ds) (greatest (opening h t other) ds)) m.one_length ∙
      sym (ends_in h t other m.opens ds m.second)

  same : accepted_appends (opening h t came) cs ≡ accepted_appends (opening h t other) ds → after_calls (opening h t came) cs ≡ after_calls (opening h t other) ds
  same e = split (laid h t came m.opens cs ∙ ap (laid_from t.0) e ∙ sym (laid h t other m.opens ds))

pub demand_3 : Demand3
demand_3 =
    record {
      holds = λ h t came o cs p.
          subst⁻¹ (λ s. Holds h t (length came) s (all_accepted (opening h t came) cs) (greatest (opening h t came) cs)) (ends_in h t came o cs p)
          (holds h t (length came) (all_accepted (opening h t came) cs) (greatest (opening h t came) cs) (ends_fit h t came o cs p));
      laid = laid;
      same = same;
      split = split;
      refused = λ h t came why o cs. ap (λ s. after_calls s cs) (refused_is h t came why o) ∙ stay came cs;
      never = never;
    }
