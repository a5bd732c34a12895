-- `read_line` meets its contract: its tests are those of the definition, and a line of one digit has the length of no kind.
use mathlib.Core.Path.{◌≡◌, sym, ◌∙◌, ap}
use mathlib.Core.Bool.{Bool, true, false, cond}
use mathlib.Core.List.{List}
use Prim.Native.Nat.{ℕ, ◌<◌}
use native.Mathlib.Omega.{arith}
use borrow.Author.Tests.{eq-eqb, ne_eqb}
use lib.Dec.{eqb}
use lib.ListN.{length, take, drop}
use Rattle.std.specs.Prelude.{Some, None}
use Rattle.hexdigits.specs.Digits.{are_digits, number_of}
use Rattle.frames.specs.Fields.{field_values}
use Rattle.frames.specs.Frames.{widths_of, line_length, kind_number, kind_numbered, kind_at, frame_as, frame_of}
use Rattle.frames.specs.declared.Frame.{Frame}
use Rattle.frames.specs.declared.kinds.Kind.{Kind}
use Rattle.frames.proofs.Cases.{no_kind, kind_named}
use Rattle.frames.proofs.read_line.Goals as goal

not_digits : (line : List ℕ) → false ≡ are_digits line → None ≡ frame_of line
unfolding frame_of
not_digits line d = simp (sym d)

module _ (line : List ℕ) (t : Bool) (d : t ≡ are_digits line) (e : t ≡ true) where
  wrong_length_lem : (length line ≡ line_length (kind_at line) → ⊥) → None ≡ frame_of line
  unfolding frame_of
  wrong_length_lem n = simp (sym d ∙ e, ne_eqb (length line) (line_length (kind_at line)) n)

  too_short : length line < 2 → None ≡ frame_of line
  too_short h = wrong_length_lem (λ q. omega (arith, q))

  module _ (k : ℕ) (front : List ℕ) (n : k ≡ number_of front) (f : front ≡ take 2 line) where
    is_kind : k ≡ kind_at line
    is_kind = n ∙ ap number_of f

    unknown : None ≡ kind_numbered k → None ≡ frame_of line
    unfolding frame_of frame_as
    unknown h = go (eqb (length line) (line_length (kind_at line)))
      where
        go : (b : Bool) → None ≡ cond (are_digits line) (cond b (frame_as (kind_at line) line) None) None
        go true = simp (sym d ∙ e) (sym (no_kind (kind_at line) (field_values (widths_of (kind_at line)) (drop 2 line)) (ap kind_numbered (sym is_kind) ∙ sym h)))
        go false = simp (sym d ∙ e)

    module _ (x : Kind) (i : Some x ≡ kind_numbered k) (m : ℕ) (l : m ≡ line_length (kind_number x)) where
      named : kind_number x ≡ kind_at line
      named = kind_named k x (sym i) ∙ is_kind

      other_length : (length line ≡ m → ⊥) → None ≡ frame_of line
      other_length h = wrong_length_lem (λ q. h (q ∙ ap line_length (sym named) ∙ sym l))

      read : (g : Frame) → length line ≡ m → Some g ≡ frame_as (kind_number x) line → Some g ≡ frame_of line
      unfolding frame_of
      read g h r =
          simp (sym d ∙ e, eq-eqb (length line) (line_length (kind_at line)) (h ∙ l ∙ ap line_length named))
          (r ∙ ap (λ (j : ℕ). frame_as j line) named)

pub returns-then-not-are_digits : goal.returns-then-not-are_digits
returns-then-not-are_digits c = not_digits _ c.if-not-are_digits.ensures

pub returns-in_err-get : goal.returns-in_err-get
returns-in_err-get c =
    c.from_residual.ensures ∙ too_short _ _ c.are_digits.ensures c.if-not-are_digits.false (omega (arith, c.in_err-get.ensures.lookup.0))

pub returns-in_err-kind : goal.returns-in_err-kind
returns-in_err-kind c =
    c.from_residual-in_err-kind.ensures ∙
    unknown _ _ c.are_digits.ensures c.if-not-are_digits.false _ _ c.number.ensures c.in_ok-get.ensures.lookup.0.2 c.in_err-kind.ensures

pub returns-then-line-digits : goal.returns-then-line-digits
returns-then-line-digits c =
    other_length _ _ c.are_digits.ensures c.if-not-are_digits.false _ _ c.number.ensures c.in_ok-get.ensures.lookup.0.2 _
    c.in_ok-kind.ensures _ c.digits.ensures c.if-line-digits.true

pub returns : goal.returns
returns c =
    read _ _ c.are_digits.ensures c.if-not-are_digits.false _ _ c.number.ensures c.in_ok-get.ensures.lookup.0.2 _
    c.in_ok-kind.ensures _ c.digits.ensures _ c.if-line-digits.false c.frame.ensures
