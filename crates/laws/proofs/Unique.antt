-- The contracts leave no room: those that are equations by the definition that both outcomes equal, and those that are properties by
-- the law that the property has one answer.
use mathlib.Core.Path.{◌≡◌, sym, ap, ap₂, subst, ◌∙◌}
use mathlib.Core.List.{[], Mem, not-mem-nil}
use Prim.Native.Nat.{ℕ}
use Rattle.window.proofs.Unique.{one_passed, one_needed, one_least}
use Rattle.laws.specs.Unique.{Entry, Lending, Entries, AnyAnswer, Inner}

-- ---- what equals the same is equal

same : {A : Type 0} {x y z : A} → x ≡ z → y ≡ z → x ≡ y
same p q = p ∙ sym q

pair : {A B : Type 0} {a c : A} {b d : B} → a ≡ c → b ≡ d → ◌≡◌ {A = A × B} (a, b) (c, d)
pair p q = ap₂ (λ x y. (x, y)) p q

module _ {A B : Type 0} {a c x : A} {b d y : B} where
  two : (a ≡ x) × (b ≡ y) → (c ≡ x) × (d ≡ y) → ◌≡◌ {A = A × B} (a, b) (c, d)
  two p q = pair (same p.0 q.0) (same p.1 q.1)

  -- two that are told in the other order
  two_turned : (b ≡ y) × (a ≡ x) → (d ≡ y) × (c ≡ x) → ◌≡◌ {A = A × B} (a, b) (c, d)
  two_turned p q = two (p.1, p.0) (q.1, q.0)

three : {A B C : Type 0} {a d x : A} {b e y : B} {c f z : C} → (a ≡ x) × ((b ≡ y) × (c ≡ z)) → (d ≡ x) × ((e ≡ y) × (f ≡ z)) →
    ◌≡◌ {A = A × B × C} (a, b, c) (d, e, f)
three p q = ap₂ (λ x (y : _ × _). (x, y.0, y.1)) (same p.0 q.0) (two p.1 q.1)

-- ---- contracts that ask nothing, and are equations

module _ {K A X E : Type 0} {given : K → A → X} where
  -- of the result
  equation : Entry {E = E} (λ κs a. Unit {0}) (λ κs a x e. x ≡ given κs a)
  equation = record { any = λ κs a. tt; one = λ κs a x y e f p q. same p q }

  -- and of what is lent
  lending : {B : Type 0} {lent : E → B} {told : K → A → E → Type 0} → ((κs : K) (a : A) (e f : E) → told κs a e → told κs a f → lent e ≡ lent f) →
      Lending (λ κs a. Unit {0}) (λ κs a x e. (x ≡ given κs a) × told κs a e) lent
  lending one = record { any = λ κs a. tt; one = λ κs a x y e f p q. same p.0 q.0; words = λ κs a x y e f p q. one κs a e f p.1 q.1 }

pub entries : Entries
entries =
    record {
      opening = lending (λ κs a e f. same);
      append = lending (λ κs a e f. same);
      append_stamp = lending (λ κs a e f. same);
      append_trim = lending (λ κs a e f. same);
      trim = lending (λ κs a e f. same);
      zero_record_lem = equation;
      held_append = lending (λ κs a e f. same);
      held_append_stamp = lending (λ κs a e f. same);
      held_append_trim = lending (λ κs a e f. same);
      held_trim = lending (λ κs a e f. same);
      follow = lending (λ κs a e f. same);
      verdict = equation;
      verdict_whole_lem = equation;
      percent = equation;
      verdict_percent_lem = equation;
      availability = equation;
      available_at = equation;
      full_tick_lem = equation;
      touching_words_lem = equation;
      covered_edge_lem = equation;
      touching_any = λ κs a. tt;
      touching = λ κs a x y e f p q. same p q;
      read = lending (λ κs a e f. same);
      write = lending (λ κs a e f. same);
      line_end = equation;
      line_none = equation;
      line_len = equation;
      line_first_any = λ κs a. tt;
      line_first = λ κs a x y e f p q. same p q;
      line_more = equation;
      line_too_long = equation;
      begins = equation;
      feed = lending (λ κs a e f. same);
      settled = equation;
      finish = lending (λ κs a e f. same);
      put_line = lending (λ κs a e f. same);
      desk_begins = equation;
      desk_feed = lending (λ κs a e f. same);
      desk_settled = equation;
      answer = lending (λ κs a e f. two_turned);
      answer_whole = lending (λ κs a e f. two_turned);
      c_open = lending (λ κs a e f. two);
      c_append = lending (λ κs a e f. three);
      c_append_stamp = lending (λ κs a e f. three);
      c_append_trim = lending (λ κs a e f. three);
      c_trim = lending (λ κs a e f. two);
      c_verdict = lending (λ κs a e f. same);
      c_verdict_whole = lending (λ κs a e f. same);
      c_availability = lending (λ κs a e f. same);
      c_available_at = lending (λ κs a e f. same);
      c_full_tick = lending (λ κs a e f. same);
      c_touching = lending (λ κs a e f. same);
      c_covered_edge = lending (λ κs a e f. same);
      c_read = lending (λ κs a e f. three);
      c_write = lending (λ κs a e f. two);
      store_record = lending (λ κs a e f. same);
      accepted = equation;
      record_in_lem = equation;
      record_beside_lem = equation;
      words_of_verdict_lem = equation;
      words_of_availability_lem = equation;
      words_of_available_lem = equation;
      words_of_tick_lem = equation;
      words_of_touching_lem = equation;
      words_of_edge_lem = equation;
      words_of_length_lem = equation;
      tick_of = equation;
      tick_number = equation;
      millis_of = equation;
      millis_number = equation;
      timescale_of = equation;
      timescale_number = equation;
      span_of = equation;
      span_number = equation;
      number_of = equation;
      number_number = equation;
      run_held_lem = equation;
      refused = equation;
      agrees = equation;
      record_held_lem = equation;
      counts_held_lem = equation;
      is_passed_lem = equation;
      refusal_number_lem = equation;
      refusal_distance_lem = equation;
      head_held_lem = equation;
      head_new = equation;
      head_fields = equation;
      line_length_lem = equation;
      read_line = equation;
      head_line_fields = equation;
      head_line_of = equation;
      are_digits_lem = equation;
      write_digits_any = λ κs a. tt;
      write_digits = λ κs a x y e f p q. same p q;
      tick_held_lem = equation;
      millis_held_lem = equation;
      timescale_held_lem = equation;
      span_held_lem = equation;
      number_held_lem = equation;
      tick_new = equation;
      millis_new = equation;
      timescale_new = equation;
      span_new = equation;
      number_new = equation;
      grain_between = equation;
      stamp_against = equation;
      stamp_full = equation;
      tick_against = equation;
    }

-- what borrows nothing has nothing that must be there
nowhere : {X : Type 0} {b : ℕ} → Mem b [] → X
nowhere m = absurd (not-mem-nil m)

pub any_answer : AnyAnswer
any_answer =
    record {
      any_number_input = λ A L none κs a b m. nowhere (subst (Mem b) none m);
      any_number = λ A L κs a x y e f p q. same p q;
      any_distance_input = λ A L none κs a b m. nowhere (subst (Mem b) none m);
      any_distance = λ A L κs a x y e f p q. same p q;
      any_told = λ W n T LW F LT CW CT KW m G o KT r κs a x y e f p q. same p.0 q.0;
      any_told_words = λ W n T LW F LT CW CT KW m G o KT r κs a x y e f p q. same p.1 q.1;
    }

pub inner : Inner
inner =
    record {
      give_back = λ κs a x y e f p q. same p.0 q.0;
      give_back_words = λ κs a x y e f p q. same p.1 q.1;
      give_appended = λ κs a x y e f p q. same p.0 q.0;
      give_appended_words = λ κs a x y e f p q. two p.1 q.1;
      give_read = λ κs a x y e f p q. same p.0 q.0;
      give_read_words = λ κs a x y e f p q. two p.1 q.1;
      append_joined = λ κs a x y e f p q. same p.0 q.0;
      append_joined_words = λ κs a x y e f p q. same p.1 q.1;
      count_passed_lem = λ κs a x y e f p q. same p q;
      write_line = λ κs a x y e f p q. same p.long q.long;
      write_line_words = λ κs a x y e f p q. same p.bytes q.bytes;
      number = λ κs a x y e f p q. same p q;
      before_end_lem = λ κs a x y e f p q. same p q;
      passed_ends = λ κs a x y e f p q. one_passed a.0.head a.1.0.0 x y p q;
      needed_at = λ κs a x y e f p q. one_needed _ _ x y p q;
      needed_whole = λ κs a x y e f p q. one_needed _ _ x y p q;
      least_count_lem = λ κs a x y e f p q. one_least _ _ _ x y p q;
      walk = λ κs a x y e f p q. same p q;
      run_at = λ κs a x y e f p q. same p q;
      run_end_lem = λ κs a x y e f p q. ap (λ (n : ℕ). record { 0 = n }) (same p q);
      run_joins = λ κs a x y e f p q. same p q;
      run_reference = λ κs a x y e f p q. same p q;
      passed_by = λ κs a x y e f p q. same p q;
      passed_upto_lem = λ κs a x y e f p q. same p q;
      needs_run_lem = λ κs a x y e f p q. same p q;
      drop_front = λ κs a x y e f p q. same p.0 q.0;
      drop_front_words = λ κs a x y e f p q. same p.1 q.1;
      store = λ κs a x y e f p q. same p.0 q.0;
      store_words = λ κs a x y e f p q. same p.1 q.1;
      clear = λ κs a x y e f p q. same p q;
      tick_grains = λ κs a x y e f p q. ap (λ (n : ℕ). record { 0 = n }) (same p.is q.is);
      millis_grains = λ κs a x y e f p q. ap (λ (n : ℕ). record { 0 = n }) (same p.is q.is);
      span_grains = λ κs a x y e f p q. ap (λ (n : ℕ). record { 0 = n }) (same p.is q.is);
    }
