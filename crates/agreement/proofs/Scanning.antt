-- What the pass over the used runs computes is the summary of their references, where they are shaped.
use mathlib.Core.Path.{◌≡◌, refl, sym, ap, ap₂, ◌∙◌}
use mathlib.Core.Bool.{Bool, true, false, cond, ◌&&◌, not, and-eq-true_iff}
use lib.Dec.{eqb}
use mathlib.Core.List.{List, [], ◌∷◌, ◌++◌, append-nil}
use Prim.Native.Nat.{ℕ, zero, suc, ◌+◌, ◌-◌, ◌*◌, ◌≤◌}
use native.Mathlib.Nat.{add_assoc, mul-zero, mul-suc, mul-le-mul_right, one-mul}
use native.Mathlib.Omega.{arith}
use borrow.Author.Tests.{eqb-true}
use lib.ListN.{length-append}
use Rattle.window.specs.declared.Reference.{Reference}
use Rattle.runs.specs.declared.Run.{Run}
use Rattle.runs.specs.Words.{run_end, repeated, reference_behind, references_of, total_count}
use Rattle.runs.specs.Shape.{run_held, follows, followed_by, runs_shaped}
use Rattle.runs.proofs.Opening.{repeated_length, references_length}
use Rattle.runs.proofs.Encoded.{run_facts, leads, ref}
use Rattle.agreement.specs.declared.Found.{Found}
use Rattle.agreement.specs.declared.Found.TheVariants.{Unshaped, Nothing, Kept}
use Rattle.agreement.specs.Finding.{first_in, last_in, last_of, summary, found}

-- ---- the last reference

last_append : (r x : Reference) (rs xs : List Reference) → last_of r (rs ++ x ∷ xs) ≡ last_of x xs
unfolding last_of
last_append r x [] xs = refl
last_append r x (y ∷ rs) xs = last_append y x rs xs

-- the last of some references of one duration
pub last_repeated : (s d n : ℕ) → last_of (ref s d) (repeated (s + d) d n) ≡ ref (s + d * n) d
unfolding last_of repeated
last_repeated s d zero = ap (λ (t : ℕ). ref t d) (omega (arith, mul-zero d))
last_repeated s d (suc n) = last_repeated (s + d) d n ∙ ap (λ (t : ℕ). ref t d) (omega (arith, mul-suc d n))

last_run : Run → List Run → Run
last_run r [] = r
last_run r (x ∷ xs) = last_run x xs

opened : (r : Run) → 1 ≤ r.count → repeated r.start.0 r.span.0 r.count ≡ first_in r ∷ repeated (r.start.0 + r.span.0) r.span.0 (r.count - 1)
unfolding repeated
opened r l =
    let e : r.count ≡ suc (r.count - 1) = omega arith in
    ap (repeated r.start.0 r.span.0) e

-- the references of a run and of those behind it, by first and last
references_last : (r : Run) (rs : List Run) → 1 ≤ r.count → runs_shaped rs ≡ true →
    last_of (first_in r) (repeated (r.start.0 + r.span.0) r.span.0 (r.count - 1) ++ references_of rs) ≡ last_in (last_run r rs)
unfolding references_of last_run
references_last r [] l t = ap (last_of (first_in r)) (append-nil _) ∙ last_repeated r.start.0 r.span.0 (r.count - 1)
references_last r (x ∷ xs) l t =
    let f = leads x xs t in
    ap (λ ys. last_of (first_in r) (repeated (r.start.0 + r.span.0) r.span.0 (r.count - 1) ++ (ys ++ references_of xs))) (opened x f.some) ∙
    last_append (first_in r) (first_in x) (repeated (r.start.0 + r.span.0) r.span.0 (r.count - 1)) (repeated (x.start.0 + x.span.0) x.span.0 (x.count - 1) ++ references_of xs) ∙
    references_last x xs f.some f.rest

summarized : (r : Run) (rs : List Run) → 1 ≤ r.count → runs_shaped rs ≡ true → summary (references_of (r ∷ rs)) ≡ Kept (first_in r) (last_in (last_run r rs)) (r.count + total_count rs)
unfolding references_of
summarized r rs l t =
    ap (λ ys. summary (ys ++ references_of rs)) (opened r l) ∙
    ap₂ (Kept (first_in r)) (references_last r rs l t)
    (omega (
      arith,
      length-append (repeated (r.start.0 + r.span.0) r.span.0 (r.count - 1)) (references_of rs),
      repeated_length (r.start.0 + r.span.0) r.span.0 (r.count - 1),
      references_length rs,
    ))

-- ---- the pass

-- what the pass will answer from a run on: the first run, the last one seen, and how many references were counted
pub after : Run → Run → ℕ → List Run → Found
after f l n [] = Kept (first_in f) (last_in l) n
after f l n (x ∷ xs) = cond (follows l x) (cond (run_held x) (after f x (n + x.count) xs) Unshaped) Unshaped

after_is : (f l : Run) (n : ℕ) (rs : List Run) →
    after f l n rs ≡ cond (followed_by l rs && runs_shaped rs) (Kept (first_in f) (last_in (last_run l rs)) (n + total_count rs)) Unshaped
unfolding after runs_shaped last_run total_count
after_is f l n [] = ap (Kept (first_in f) (last_in l)) (omega arith)
after_is f l n (x ∷ xs) = go (follows l x) (run_held x) (after_is f x (n + x.count) xs)
  where
    go : (j k : Bool) → after f x (n + x.count) xs ≡ cond (followed_by x xs && runs_shaped xs) (Kept (first_in f) (last_in (last_run x xs)) (n + x.count + total_count xs)) Unshaped →
        cond j (cond k (after f x (n + x.count) xs) Unshaped) Unshaped ≡
        cond (j && (k && followed_by x xs && runs_shaped xs)) (Kept (first_in f) (last_in (last_run x xs)) (n + (x.count + total_count xs))) Unshaped
    go true true h = h ∙ ap (λ (m : ℕ). cond (followed_by x xs && runs_shaped xs) (Kept (first_in f) (last_in (last_run x xs)) m) Unshaped) (add_assoc n x.count (total_count xs))
    go true false h = refl
    go false k h = refl

found_is : (f : Run) (rs : List Run) → found (f ∷ rs) ≡ cond (run_held f) (after f f f.count rs) Unshaped
unfolding runs_shaped
found_is f rs =
    go (run_held f) refl (followed_by f rs) (runs_shaped rs) refl ∙ ap (λ a. cond (run_held f) a Unshaped) (sym (after_is f f f.count rs))
  where
    go : (h : Bool) → run_held f ≡ h → (k s : Bool) → runs_shaped rs ≡ s →
        cond (h && k && s) (summary (references_of (f ∷ rs))) Unshaped ≡
        cond h (cond (k && s) (Kept (first_in f) (last_in (last_run f rs)) (f.count + total_count rs)) Unshaped) Unshaped
    go true e true true t = summarized f rs (run_facts f e).some t
    go true e true false t = refl
    go true e false s t = refl
    go false e k s t = refl

-- ---- the code's steps

-- the pass from a run on: the last run seen is held, no more references were counted than ticks, and what is left decides
pub record Passing (all : List Run) (first last : Run) (n : ℕ) (left : List Run) : Type 0 where
  pub held : run_held last ≡ true
  pub few : n ≤ run_end last
  pub rest : after first last n left ≡ found all

pub scan_none : (all : List Run) → all ≡ [] → Nothing ≡ found all
unfolding runs_shaped references_of
scan_none all e = ap found (sym e)

-- a run holds no more references than ticks
counted : (r : Run) → run_held r ≡ true → (n : ℕ) → n ≤ r.start.0 → n + r.count ≤ run_end r
counted r h n l =
    let f = run_facts r h in
    let m : 1 * r.count ≤ r.span.0 * r.count = mul-le-mul_right r.count f.lasts in
    omega (arith, one-mul r.count)

module _ (all : List Run) (x : Run) (others : List Run) (opens : all ≡ x ∷ others) (t : Bool) (h : t ≡ run_held x) where
  starts : found all ≡ cond t (after x x x.count others) Unshaped
  starts = ap found opens ∙ found_is x others ∙ ap (λ s. cond s (after x x x.count others) Unshaped) (sym h)

  pub scan_unheld : t ≡ false → Unshaped ≡ found all
  scan_unheld n = sym (starts ∙ ap (λ s. cond s (after x x x.count others) Unshaped) n)

  pub scan_holds : t ≡ true → (left : List Run) → left ≡ others → Passing all x x x.count left
  scan_holds n left same =
      let k : run_held x ≡ true = sym h ∙ n in
      record {
        held = k;
        few = omega (arith, counted x k 0 (omega arith));
        rest = ap (after x x x.count) same ∙ sym (starts ∙ ap (λ s. cond s (after x x x.count others) Unshaped) n);
      }

module _ (all : List Run) (first last : Run) (n : ℕ) (left : List Run) (p : Passing all first last n left) where
  pub scan_ends : left ≡ [] → (f l : Reference) → f ≡ reference_behind first 0 → l ≡ last_in last → Kept f l n ≡ found all
  unfolding after
  scan_ends none f l e k =
      let front : reference_behind first 0 ≡ first_in first = ap (λ (s : ℕ). ref s first.span.0) (omega (arith, mul-zero first.span.0)) in
      ap₂ (λ a b. Kept a b n) (e ∙ front) k ∙ ap (after first last n) (sym none) ∙ p.rest

  module _ (x : Run) (others : List Run) (opens : left ≡ x ∷ others) (j : Bool) (k : j ≡ follows last x) where
    goes : found all ≡ cond j (cond (run_held x) (after first x (n + x.count) others) Unshaped) Unshaped
    unfolding after
    goes = sym p.rest ∙ ap (after first last n) opens ∙ ap (λ s. cond s (cond (run_held x) (after first x (n + x.count) others) Unshaped) Unshaped) (sym k)

    pub scan_apart : j ≡ false → Unshaped ≡ found all
    scan_apart m = sym (goes ∙ ap (λ s. cond s (cond (run_held x) (after first x (n + x.count) others) Unshaped) Unshaped) m)

    module _ (m : j ≡ true) (t : Bool) (h : t ≡ run_held x) where
      goes_on_lem : found all ≡ cond t (after first x (n + x.count) others) Unshaped
      goes_on_lem = goes ∙ ap₂ (λ s u. cond s (cond u (after first x (n + x.count) others) Unshaped) Unshaped) m (sym h)

      pub scan_broken : t ≡ false → Unshaped ≡ found all
      scan_broken o = sym (goes_on_lem ∙ ap (λ s. cond s (after first x (n + x.count) others) Unshaped) o)

      joined : run_end last ≡ x.start.0
      joined = eqb-true (run_end last) x.start.0 ((and-eq-true_iff (eqb (run_end last) x.start.0) (not (eqb last.span.0 x.span.0))).0 (sym k ∙ m)).0

      module _ (o : t ≡ true) where
        more : n + x.count ≤ run_end x
        more = counted x (sym h ∙ o) n (omega (arith, p.few, joined))

        pub scan_again : Passing all first x (n + x.count) others
        scan_again =
            record {
              held = sym h ∙ o;
              few = more;
              rest = sym (goes_on_lem ∙ ap (λ s. cond s (after first x (n + x.count) others) Unshaped) o);
            }
