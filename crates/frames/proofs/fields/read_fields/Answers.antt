use mathlib.Core.Path.{◌≡◌, refl, sym, ◌∙◌, ap, ap₂}
use mathlib.Core.List.{List, ◌∷◌, ◌++◌, append-nil}
use Prim.Native.Nat.{ℕ, ◌+◌, ◌*◌, ◌≤◌, ◌<◌}
use native.Mathlib.Numerals.{add-one}
use native.Mathlib.Omega.{arith}
use lib.ListN.{length, get_or, take, drop, set, length-set, length-replicate, replicate, drop_of_length-le, length-drop}
use lib.Seq.{append_snoc, take-suc-set, take_all}
use Rattle.hexdigits.specs.Digits.{number_of}
use Rattle.frames.specs.Fields.{digit_count, field_values, Narrow}
use Rattle.frames.proofs.Places.{from_here}
use Rattle.frames.proofs.fields.read_fields.Invariants.{Read}
use Rattle.frames.proofs.fields.read_fields.Goals as goal

begun : (n : ℕ) (line ws : List ℕ) → length ws ≡ n → digit_count ws ≤ length line → Narrow ws → Read line ws (replicate n 0) line 0
begun n line ws l e w = record { long = length-replicate n 0 ∙ sym l; enough = e; narrow = w; whole = refl }

module _ (line ws vs rest : List ℕ) (i : ℕ) (r : Read line ws vs rest i) where
  module _ (h : i < length ws) where
    here_narrow : Narrow (get_or ws i 0 ∷ drop (i + 1) ws)
    here_narrow = rw (from_here ws i h) at r.narrow

    here_enough : 2 * get_or ws i 0 + digit_count (drop (i + 1) ws) ≤ length rest
    here_enough = rw (from_here ws i h) at r.enough

    turn : (v : ℕ) (front back : List ℕ) → v ≡ number_of front → front ≡ take (2 * get_or ws i 0) rest → back ≡ drop (2 * get_or ws i 0) rest → Read line ws (set vs i v) back (i + 1)
    unfolding field_values
    turn v front back e f b =
        let n = 2 * get_or ws i 0 in
        let later = drop (i + 1) ws in
        record {
          long = length-set vs i v ∙ r.long;
          enough = rw (b, length-drop n rest) (omega (arith, here_enough));
          narrow = here_narrow.1;
          whole =
              ap₂ (λ (l m : List ℕ). l ++ field_values later m)
              (ap (λ (m : ℕ). take m (set vs i v)) (add-one i) ∙ take-suc-set vs i v (omega (arith, r.long)))
              b ∙
              append_snoc (take i vs) v (field_values later (drop n rest)) ∙
              ap (λ (x : ℕ). take i vs ++ x ∷ field_values later (drop n rest)) (e ∙ ap number_of f) ∙
              ap (λ (l : List ℕ). take i vs ++ field_values l rest) (sym (from_here ws i h)) ∙
              r.whole;
        }

  done : length ws ≤ i → vs ≡ field_values ws line
  unfolding field_values
  done h =
      sym (take_all i vs (omega (arith, r.long))) ∙
      sym (append-nil (take i vs)) ∙
      (rw (drop_of_length-le ws h) at r.whole)

pub loop-i-init : goal.loop-i-init
loop-i-init g c = begun _ _ _ c.told-widths c.requires.0 c.requires.1

pub overflow_mul-width : goal.overflow_mul-width
overflow_mul-width g c = let h = here_narrow _ _ _ _ _ c.loop-i.invariant (omega arith) in omega (arith, h.0)

pub split_at-requires : goal.split_at-requires
split_at-requires g c = let h = here_enough _ _ _ _ _ c.loop-i.invariant (omega arith) in omega arith

pub number-requires : goal.number-requires
number-requires g c = let h = here_narrow _ _ _ _ _ c.loop-i.invariant (omega arith) in omega (arith, h.0)

pub loop-i-preserved : goal.loop-i-preserved
loop-i-preserved g c = turn _ _ _ _ _ c.loop-i.invariant (omega arith) _ _ _ c.number.ensures c.split_at.ensures.front c.split_at.ensures.back

pub returns : goal.returns
returns g c = done _ _ _ _ _ c.loop-i.invariant (omega arith)
