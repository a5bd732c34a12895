-- What an answer of a refusing constructor says of what it was given: made, it is the unit of it and within the limits; refused,
-- it is beyond them.
use Rattle.std.proofs.Common.{◌≡◌, ℕ, ◌<◌, ◌≤◌, Bool, true, false, cond, ◌&&◌, Option, Some, None, eqb, leb, sym, refl, ap, ◌∙◌, subst, ap₂, true≢false, arith, eqb-true, le-leb, leb-true}
use Rattle.std.proofs.lemmas.Option.{cond_some, none-some}
use mathlib.Core.Path.{subst⁻¹}
use borrow.Author.Tests.{eqb-false, lt-leb}
use Rattle.units.specs.declared.Tick.{Tick}
use Rattle.units.specs.declared.Millis.{Millis}
use Rattle.units.specs.declared.Timescale.{Timescale}
use Rattle.units.specs.declared.Span.{Span}
use Rattle.units.specs.declared.Number.{Number}
use Rattle.units.specs.Limits.{largest_millis, largest_span, tick_held, millis_held, millis_made, timescale_held, span_held, span_made, number_held}
use Rattle.units.proofs.Choice.{chosen, passed_over}
use Rattle.units.proofs.Guards.{at_most, above}

pub record Maker {X A : Type 0} (held : X → Bool) (unit : X → A) : Type 0 where
  pub is : (x : X) (m : Option A) (a : A) → m ≡ cond (held x) (Some (unit x)) None → m ≡ Some a → a ≡ unit x
  pub within : (x : X) (m : Option A) (a : A) → m ≡ cond (held x) (Some (unit x)) None → m ≡ Some a → held x ≡ true
  pub beyond : (x : X) (m : Option A) → m ≡ cond (held x) (Some (unit x)) None → m ≡ None → held x ≡ false

pub maker : {X A : Type 0} (held : X → Bool) (unit : X → A) → Maker held unit
maker {X} {A} held unit =
    record {
      is = λ x m a e k. sym (cond_some (held x) (unit x) a (sym e ∙ k)).1;
      within = λ x m a e k. (cond_some (held x) (unit x) a (sym e ∙ k)).0;
      beyond = λ x m e k. beyond (held x) (unit x) (sym e ∙ k);
    }
  where
    beyond : (b : Bool) (a : A) → cond b (Some a) None ≡ None → b ≡ false
    beyond true a e = absurd (none-some a (sym e))
    beyond false a e = refl

-- ---- the five units

pub ticks : Maker {X = ℕ} {A = Tick} (λ n. tick_held (record { 0 = n })) (λ n. record { 0 = n })
ticks = maker _ _

pub milliseconds : Maker {X = ℕ} {A = Millis} (λ n. millis_held (record { 0 = n })) (λ n. record { 0 = n })
milliseconds = maker _ _

pub timescales : Maker {X = ℕ} {A = Timescale} (λ n. timescale_held (record { 0 = n })) (λ n. record { 0 = n })
timescales = maker _ _

pub spans : Maker {X = ℕ} {A = Span} (λ n. span_held (record { 0 = n })) (λ n. record { 0 = n })
spans = maker _ _

pub numbers : Maker {X = ℕ} {A = Number} (λ n. number_held (record { 0 = n })) (λ n. record { 0 = n })
numbers = maker _ _

-- ---- a duration of 32 bits

nothing_held : (n largest : ℕ) → n ≡ 0 → false ≡ (leb 1 n && leb n largest)
nothing_held n largest h = sym (ap (λ t. t && leb n largest) (lt-leb 1 n (omega arith)))

module _ (d : ℕ) (m : Option Span) (e : m ≡ span_made d) where
  pub no_duration : d ≤ largest_span → m ≡ None → d ≡ 0
  no_duration l k = go (eqb d 0) refl
    where
      go : (t : Bool) → eqb d 0 ≡ t → d ≡ 0
      go true f = eqb-true d 0 f
      go false f =
          let some : d ≡ 0 → ⊥ = eqb-false d 0 f in
          absurd (true≢false (sym (ap₂ ◌&&◌ (le-leb 1 d (omega arith)) (le-leb d largest_span l)) ∙ spans.beyond d m e k))

  module _ (s : Span) (k : m ≡ Some s) where
    pub duration_is : s ≡ record { 0 = d }
    duration_is = spans.is d m s e k

    pub duration_held : span_held s ≡ true
    duration_held = ap span_held duration_is ∙ spans.within d m s e k

    pub duration_some : d ≡ 0 → ⊥
    duration_some z = true≢false (sym (spans.within d m s e k) ∙ sym (nothing_held d largest_span z))

-- ---- a clock, as the calls test it

module _ (n : ℕ) (m : Option Millis) (e : m ≡ millis_made n) where
  pub clock_over : {A : Type 0} (x y : A) → m ≡ None → y ≡ cond (leb n largest_millis) x y
  clock_over x y k = passed_over _ _ x y refl (milliseconds.beyond n m e k)

  module _ (at : Millis) (k : m ≡ Some at) where
    pub clock_is : at.0 ≡ n
    clock_is = ap (λ (t : Millis). t.0) (milliseconds.is n m at e k)

    pub clock_held_lem : at.0 ≤ largest_millis
    clock_held_lem = subst⁻¹ (λ (t : ℕ). t ≤ largest_millis) clock_is (leb-true n largest_millis (milliseconds.within n m at e k))

    pub clock_made : {A : Type 0} (x y z : A) → z ≡ x → z ≡ cond (leb n largest_millis) x y
    clock_made x y z f = f ∙ chosen _ _ x y refl (milliseconds.within n m at e k)

    -- against another, before which it lies or does not
    pub clock_before : {A : Type 0} (g : ℕ) (x y : A) → at.0 < g → y ≡ cond (leb g n) x y
    clock_before g x y l = above g n x y (subst (λ (t : ℕ). t < g) clock_is l)

    pub clock_from : {A : Type 0} (g : ℕ) (x y z : A) → g ≤ at.0 → z ≡ x → z ≡ cond (leb g n) x y
    clock_from g x y z l f = at_most g n x y z (subst (λ (t : ℕ). g ≤ t) clock_is l) f
